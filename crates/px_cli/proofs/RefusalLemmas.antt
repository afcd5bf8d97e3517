-- Refusals that are handed on, and where a module is refused.
use Rattle.std.proofs.Common.{◌≡◌, ℕ, List, [], ◌∷◌, Result, Ok, Err, Some, None, refl, sym, ap, ◌∙◌, subst}
use Rattle.std.specs.Prelude.{slice_get, IfOk}
use Rattle.px_base.specs.declared.refusals.Span.{Span}
use Rattle.px_base.specs.declared.refusals.Refusal.{Refusal}
use Rattle.px_base.specs.declared.refusals.Trouble.{Trouble}
use Rattle.px_base.specs.declared.refusals.Trouble.TheVariants as trouble
use Rattle.px_base.specs.Troubles.{IfRefused}
use Rattle.px_tree.specs.declared.statements.Stmt.{Stmt}
use Rattle.px_tree.specs.declared.modules.Function.{Function}
use Rattle.px_tree.specs.declared.modules.ModuleItem.{ModuleItem}
use Rattle.px_tree.specs.declared.modules.ModuleItem.TheVariants as module_item
use Rattle.px_tree.specs.declared.modules.Module.{Module}
use Rattle.px_cli.specs.FirstMeaning.{Values, no_values, DoInTurn, IsMain, Prints}
use Rattle.px_cli.specs.FirstRefusals.{StopsAt, IsMainItem, IsCallItem, BeginsWithMain, IsUnbuiltAt, IsUnbuilt, unbuilt_refusal, place_of}

pub refused_weaker : (T U : Type 0) {P Q : Refusal → Type 0} (u : Trouble) → IfRefused {T = T} (Err u) P → ((refusal : Refusal) → P refusal → Q refusal) → IfRefused {T = U} (Err u) Q
refused_weaker T U (trouble.Refused refusal) h weaker = weaker refusal h
refused_weaker T U trouble.NoMemory h weaker = tt

pub refused_at : (T : Type 0) {u : Trouble} {m : Module} (at : Span) → u ≡ trouble.Refused (unbuilt_refusal at) → IsUnbuiltAt m at → IfRefused {T = T} (Err u) (IsUnbuilt m)
refused_at T {m = m} at is h = subst (λ x. IfRefused {T = T} (Err x) (IsUnbuilt m)) (sym is) (record { at = at; stands = h; given = refl })

-- The first items of a module

pub one_item : (items : List ModuleItem) (a : ModuleItem) → Some a ≡ slice_get items 0 → (others : List ModuleItem) × (items ≡ a ∷ others)
one_item [] a is = absurd cc
one_item (x ∷ others) a is = let e : a ≡ x = cc in (others, ap (λ y. y ∷ others) (sym e))

pub two_items : (items : List ModuleItem) (a b : ModuleItem) → Some a ≡ slice_get items 0 → Some b ≡ slice_get items 1 → (others : List ModuleItem) × (items ≡ a ∷ (b ∷ others))
two_items [] a b is next = absurd cc
two_items (x ∷ []) a b is next = absurd cc
two_items (x ∷ (y ∷ others)) a b is next =
    let e : a ≡ x = cc in
    let f : b ≡ y = cc in
    (others, ap (λ z. z ∷ (y ∷ others)) (sym e) ∙ ap (λ z. a ∷ (z ∷ others)) (sym f))

only_item : (items : List ModuleItem) (a : ModuleItem) → Some a ≡ slice_get items 0 → None ≡ slice_get items 1 → items ≡ a ∷ []
only_item [] a is none = absurd cc
only_item (x ∷ []) a is none = let e : a ≡ x = cc in ap (λ y. y ∷ []) (sym e)
only_item (x ∷ (y ∷ others)) a is none = absurd cc

pub three_items : (items : List ModuleItem) (a b c : ModuleItem) → Some a ≡ slice_get items 0 → Some b ≡ slice_get items 1 → Some c ≡ slice_get items 2 → (others : List ModuleItem) × (items ≡ a ∷ (b ∷ (c ∷ others)))
three_items [] a b c is next last = absurd cc
three_items (x ∷ []) a b c is next last = absurd cc
three_items (x ∷ (y ∷ [])) a b c is next last = absurd cc
three_items (x ∷ (y ∷ (z ∷ others))) a b c is next last =
    let e : a ≡ x = cc in
    let f : b ≡ y = cc in
    let g : c ≡ z = cc in
    (others, ap (λ w. w ∷ (y ∷ (z ∷ others))) (sym e) ∙ ap (λ w. a ∷ (w ∷ (z ∷ others))) (sym f) ∙ ap (λ w. a ∷ (b ∷ (w ∷ others))) (sym g))

pub only_two : (items : List ModuleItem) (a b : ModuleItem) → Some a ≡ slice_get items 0 → Some b ≡ slice_get items 1 → None ≡ slice_get items 2 → items ≡ a ∷ (b ∷ [])
only_two [] a b is next last = absurd cc
only_two (x ∷ []) a b is next last = absurd cc
only_two (x ∷ (y ∷ (z ∷ others))) a b is next last = absurd cc
only_two (x ∷ (y ∷ [])) a b is next last =
    let e : a ≡ x = cc in
    let f : b ≡ y = cc in
    ap (λ z. z ∷ (y ∷ [])) (sym e) ∙ ap (λ z. a ∷ (z ∷ [])) (sym f)

-- Where it is refused

no_function : (item : ModuleItem) → ((f : Function) → item ≡ module_item.Function f → ⊥) → IsMainItem item → ⊥
no_function (module_item.Import x) none h = h
no_function (module_item.Function f) none h = none f refl
no_function (module_item.Statement s) none h = h

pub nothing_refused : {m : Module} → None ≡ slice_get m.items 0 → IsUnbuiltAt m m.at
nothing_refused {m} none = IsUnbuiltAt.empty (no_items m.items none) refl
  where
    no_items : (items : List ModuleItem) → None ≡ slice_get items 0 → items ≡ []
    no_items [] is = refl
    no_items (x ∷ others) is = absurd cc

pub first_refused : {m : Module} (item : ModuleItem) → Some item ≡ slice_get m.items 0 → ((f : Function) → item ≡ module_item.Function f → ⊥) → IsUnbuiltAt m (place_of item)
first_refused {m} item is none = let p = one_item m.items item is in IsUnbuiltAt.other_first item p.0 p.1 (no_function item none) refl

pub header_refused : {m : Module} (item : ModuleItem) (f : Function) → Some item ≡ slice_get m.items 0 → item ≡ module_item.Function f → (IsMain f → ⊥) → IsUnbuiltAt m f.at
header_refused {m} item f is form_is none =
    let p = one_item m.items item is in
    IsUnbuiltAt.other_first item p.0 p.1 (λ h. none (subst IsMainItem form_is h)) (ap place_of (sym form_is))

pub body_refused : {m : Module} {at : Span} (item : ModuleItem) (f : Function) → Some item ≡ slice_get m.items 0 → item ≡ module_item.Function f → IsMain f → StopsAt no_values f.body at → IsUnbuiltAt m at
body_refused {m} item f is form_is header stops =
    let p = one_item m.items item is in
    IsUnbuiltAt.in_main f p.0 (p.1 ∙ ap (λ x. x ∷ p.0) form_is) header stops

begun_with : {items : List ModuleItem} {output : List ℕ} (item : ModuleItem) (f : Function) (others : List ModuleItem) → items ≡ item ∷ others → item ≡ module_item.Function f → IsMain f → (after : Values) × DoInTurn no_values f.body after output → BeginsWithMain items others
begun_with {output = output} item f others is form_is header done = record { main = f; after = done.0; output = output; items_are = is ∙ ap (λ x. x ∷ others) form_is; header = header; does = done.1 }

pub uncalled_refused : {m : Module} {output : List ℕ} (item : ModuleItem) (f : Function) → Some item ≡ slice_get m.items 0 → None ≡ slice_get m.items 1 → item ≡ module_item.Function f → IsMain f → (after : Values) × DoInTurn no_values f.body after output
    → IsUnbuiltAt m m.at
uncalled_refused {m} item f is none form_is header done = IsUnbuiltAt.uncalled (begun_with item f [] (only_item m.items item is none) form_is header done) refl

pub next_refused : {m : Module} {output : List ℕ} (item next : ModuleItem) (f : Function) → Some item ≡ slice_get m.items 0 → Some next ≡ slice_get m.items 1 → item ≡ module_item.Function f → IsMain f → (after : Values) × DoInTurn no_values f.body after output
    → (IsCallItem next → ⊥) → IsUnbuiltAt m (place_of next)
next_refused {m} item next f is second form_is header done none =
    let p = two_items m.items item next is second in
    IsUnbuiltAt.other_next next p.0 (begun_with item f (next ∷ p.0) p.1 form_is header done) none refl

pub further_refused : {m : Module} {output : List ℕ} (item next further : ModuleItem) (f : Function) → Some item ≡ slice_get m.items 0 → Some next ≡ slice_get m.items 1 → Some further ≡ slice_get m.items 2 → item ≡ module_item.Function f → IsMain f
    → (after : Values) × DoInTurn no_values f.body after output → IsCallItem next → IsUnbuiltAt m (place_of further)
further_refused {m} item next further f is second third form_is header done call =
    let p = three_items m.items item next further is second third in
    IsUnbuiltAt.further next further p.0 (begun_with item f (next ∷ (further ∷ p.0)) p.1 form_is header done) call refl

called : (next : ModuleItem) → IsCallItem next → (s : Stmt) × (next ≡ module_item.Statement s) × IsCallItem (module_item.Statement s)
called (module_item.Import x) h = absurd h
called (module_item.Function f) h = absurd h
called (module_item.Statement s) h = (s, refl, h)

pub module_prints : {m : Module} {output : List ℕ} (item next : ModuleItem) (f : Function) → Some item ≡ slice_get m.items 0 → Some next ≡ slice_get m.items 1 → None ≡ slice_get m.items 2 → item ≡ module_item.Function f → IsMain f
    → (after : Values) × DoInTurn no_values f.body after output → IsCallItem next → Prints m output
module_prints {m} item next f is second third form_is header done call =
    let c = called next call in
    record {
      main = f;
      call = c.0;
      after = done.0;
      items = only_two m.items item next is second third ∙ ap (λ x. x ∷ (next ∷ [])) form_is ∙ ap (λ x. module_item.Function f ∷ (x ∷ [])) c.1;
      header = header;
      does = done.1;
      called = c.2;
    }

-- A whole answer

pub done_for : {T : Type 0} {P Q : T → Type 0} (result : Result T Trouble) → IfOk result P → ((value : T) → P value → Q value) → IfOk result Q
done_for (Ok value) h weaker = weaker value h
done_for (Err u) h weaker = tt

pub refused_for : {T : Type 0} {P Q : Refusal → Type 0} (result : Result T Trouble) → IfRefused result P → ((refusal : Refusal) → P refusal → Q refusal) → IfRefused result Q
refused_for (Ok value) h weaker = tt
refused_for {T} (Err u) h weaker = refused_weaker T T u h weaker

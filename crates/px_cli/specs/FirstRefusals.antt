-- Where a module that `run` doesn't take is refused: at the first import, function, declaration or statement with which it
-- isn't of the form that is built, or at its first token where what stands there is of that form and something is missing.
use Rattle.std.specs.Prelude.{◌≡◌, ℕ, List, [], ◌∷◌}
use Rattle.px_base.specs.declared.refusals.Span.{Span}
use Rattle.px_base.specs.declared.refusals.Refusal.{Refusal}
use Rattle.px_tree.specs.declared.statements.Stmt.{Stmt}
use Rattle.px_tree.specs.declared.modules.Function.{Function}
use Rattle.px_tree.specs.declared.modules.ModuleItem.{ModuleItem}
use Rattle.px_tree.specs.declared.modules.ModuleItem.TheVariants as module_item
use Rattle.px_tree.specs.declared.modules.Module.{Module}
use Rattle.px_cli.specs.FirstMeaning.{Values, no_values, Does, DoInTurn, IsMain, CallsMain}

-- the place of what stands in a module
abbrev pub place_of : ModuleItem → Span
place_of (module_item.Import found) = found.at
place_of (module_item.Function found) = found.at
place_of (module_item.Statement found) = found.at

-- the first of these statements that does nothing of what is built stands there
pub data StopsAt : Values → List Stmt → Span → Type 0 where
  here : {values : Values} {s : Stmt} {others : List Stmt} {at : Span}
      → ((after : Values) (printed : List ℕ) → Does values s after printed → ⊥) → at ≡ s.at
      → StopsAt values (s ∷ others) at
  later : {values between : Values} {s : Stmt} {others : List Stmt} {printed : List ℕ} {at : Span}
      → Does values s between printed → StopsAt between others at → StopsAt values (s ∷ others) at

-- the head of the function `main`
abbrev pub IsMainItem : ModuleItem → Type 0
IsMainItem (module_item.Function function) = IsMain function
IsMainItem other = ⊥

-- its call
abbrev pub IsCallItem : ModuleItem → Type 0
IsCallItem (module_item.Statement s) = CallsMain s
IsCallItem other = ⊥

-- the function `main`, of which each statement does something, in front of more
pub record BeginsWithMain (items : List ModuleItem) (others : List ModuleItem) : Type 0 where
  pub main : Function
  pub after : Values
  pub output : List ℕ
  pub items_are : items ≡ module_item.Function main ∷ others
  pub header : IsMain main
  pub does : DoInTurn no_values main.body after output

-- the module is refused there
pub data IsUnbuiltAt (m : Module) (at : Span) : Type 0 where
  -- no function `main` comes first
  other_first : (item : ModuleItem) (others : List ModuleItem) → m.items ≡ item ∷ others → (IsMainItem item → ⊥)
      → at ≡ place_of item → IsUnbuiltAt m at
  in_main : (main : Function) (others : List ModuleItem) → m.items ≡ module_item.Function main ∷ others → IsMain main
      → StopsAt no_values main.body at → IsUnbuiltAt m at
  -- not its call comes next
  other_next : (item : ModuleItem) (others : List ModuleItem) → BeginsWithMain m.items (item ∷ others)
      → (IsCallItem item → ⊥) → at ≡ place_of item → IsUnbuiltAt m at
  -- and something comes behind that
  further : (call item : ModuleItem) (others : List ModuleItem) → BeginsWithMain m.items (call ∷ item ∷ others)
      → IsCallItem call → at ≡ place_of item → IsUnbuiltAt m at
  -- the function is missing, or its call
  empty : m.items ≡ [] → at ≡ m.at → IsUnbuiltAt m at
  uncalled : BeginsWithMain m.items [] → at ≡ m.at → IsUnbuiltAt m at

-- E27 there
abbrev pub unbuilt_refusal : Span → Refusal
unbuilt_refusal at = record { number = 27; line = at.line; column = at.column }

-- the module is refused so
pub record IsUnbuilt (m : Module) (refusal : Refusal) : Type 0 where
  pub at : Span
  pub stands : IsUnbuiltAt m at
  pub given : refusal ≡ unbuilt_refusal at

-- What the reading of items tells of the module, and of where it is refused.
use Rattle.std.proofs.Common.{◌≡◌, ℕ, zero, suc, ◌<◌, ◌≤◌, ◌⊎◌, inl, inr, max, List, [], ◌∷◌, ◌++◌, map, length, take, drop, refl, sym, ap, ◌∙◌, subst, arith}
use Rattle.std.proofs.lemmas.List.{length-append, length-take-le}
use Rattle.px_base.specs.declared.refusals.Span.{Span}
use Rattle.px_lexer.specs.declared.spelling.Keyword.TheVariants as word
use Rattle.px_lexer.specs.declared.token_list.TokenKind.TheVariants as kind
use Rattle.px_tree.specs.declared.modules.Comment.{Comment}
use Rattle.px_tree.specs.declared.modules.ModuleItem.{ModuleItem}
use Rattle.px_tree.specs.declared.modules.Module.{Module}
use Rattle.px_lexer.specs.Terminals.{Terminal, HasKind, IsKeyword, IsAt, terminals_of}
use Rattle.px_exprs.specs.Readings.{Agree}
use Rattle.px_exprs.specs.Runs.{nesting_limit}
use Rattle.px_exprs.proofs.Agreement.{agree_carried, agree_append, agree_take}
use Rattle.px_lexer.specs.declared.token_list.Tokens.{Tokens}
use Rattle.px_exprs.proofs.RunLaws.{front_and_more}
use Rattle.px_lexer.proofs.TokenAccess.{length_terminals}
use Rattle.px_parser.specs.Listings.{IsListing}
use Rattle.px_parser.specs.Ends.{IsBefore}
use Rattle.px_parser.specs.Shapes.{Mode, Many}
use Rattle.px_parser.specs.StatementGrammar.{joined}
use Rattle.px_parser.specs.ModuleGrammar.{Item, ModuleForm}
use Rattle.px_parser.specs.Parts.{ItemsRead}
use Rattle.px_parser.specs.Parsing.{strict, unseen_from, Derives, Begins, BeginsWithin, IsTooDeep, AreTogether, IsNestedTooDeep, IsNoModule, HasNoForeign, IsModuleOf, comment_of}
use Rattle.px_parser.specs.Readings.{HasWay, HasBlocks, IsShallow, IsArrived, IsReading, IsStuck, IsOver}
use Rattle.px_parser.proofs.Shapely.{Sound, IsRising, token_of, stands_last, stands_there, sound_of, sound_many, rises_of, rises_many, one_longer}
use Rattle.px_parser.proofs.ItemShapes.{good_item}
use Rattle.px_parser.proofs.Steps.{strict_rises, unseen_rises, order, arrived_way}

-- END behind items makes a module

abbrev pub with_end : List Terminal → List Terminal
with_end us = us ++ token_of kind.End ∷ []

sound_items : Sound ItemsRead
unfolding ItemsRead
sound_items = sound_of joined (sound_many good_item.sound)

rising_items : IsRising ItemsRead
unfolding ItemsRead
rising_items mode other n m le more = rises_of joined (rises_many (good_item.rises mode other n m le more))

-- items, and END behind them, are a module
pub module_of : (comments : List Comment) (mode : Mode) (ts : List Terminal) (items : List ModuleItem) (n to : ℕ) (at : Span) → ItemsRead mode ts 0 items n to → HasKind ts to kind.End → IsAt ts 0 at
    → ModuleForm comments mode ts 0 (record { number = to; at = at; items = items; comments = comments }) n (suc to)
unfolding ItemsRead ModuleForm
module_of comments mode ts items n to at read end placed = record {
  inner = (at, (read.inner, to));
  read = record {
    middle = 0;
    first = record { placed = placed; end = refl };
    second = record {
      middle = to;
      first = read.read;
      second = record { inner = (to, tt); read = record { middle = to; first = record { counted = refl; end = refl }; second = record { stands = end; end = refl } }; tree = refl };
    };
  };
  tree = ap (λ xs. record { number = to; at = at; items = xs; comments = comments }) read.tree;
}

-- and a module is items with END behind them
pub record HasItems (mode : Mode) (ts : List Terminal) (n j : ℕ) : Type 0 where
  pub items : List ModuleItem
  pub to : ℕ
  pub read : ItemsRead mode ts 0 items n to
  pub end : HasKind ts to kind.End
  pub last : j ≡ suc to

pub items_of : (comments : List Comment) (mode : Mode) (ts : List Terminal) (m : Module) (n j : ℕ) → ModuleForm comments mode ts 0 m n j → HasItems mode ts n j
unfolding ItemsRead ModuleForm
items_of comments mode ts m n j whole =
    let placed = whole.read in
    let parts = placed.second in
    let closing = parts.second.read in
    let from : placed.middle ≡ 0 = placed.first.end in
    let here : closing.middle ≡ parts.middle = closing.first.end in
    record {
      items = joined whole.inner.1.0;
      to = parts.middle;
      read = record { inner = whole.inner.1.0; read = subst (λ i. Many Item mode ts i whole.inner.1.0 n parts.middle) from parts.first; tree = refl };
      end = subst (λ i. HasKind ts i kind.End) here closing.second.stands;
      last = closing.second.end ∙ ap suc here;
    }

-- items that go on to a module with END behind them
pub record Whole (mode : Mode) (us : List Terminal) (n : ℕ) : Type 0 where
  pub module_tree : Module
  pub derived : ModuleForm [] mode (with_end us) 0 module_tree n (length (with_end us))

whole_of : (mode : Mode) (us : List Terminal) (items : List ModuleItem) (n : ℕ) → ItemsRead mode us 0 items n (length us) → Whole mode us n
whole_of mode us items n read =
    let there : ItemsRead mode (with_end us) 0 items n (length us) = sound_items.carried read (agree_append us (token_of kind.End ∷ [])) in
    let end : HasKind (with_end us) (length us) kind.End = record { token = token_of kind.End; stands = stands_last us (token_of kind.End); kind = refl } in
    let first = stands_there (with_end us) 0 (omega (arith, one_longer us (token_of kind.End))) in
    let m : Module = record { number = length us; at = first.0.at; items = items; comments = [] } in
    let made : ModuleForm [] mode (with_end us) 0 m n (suc (length us)) = module_of [] mode (with_end us) items n (length us) first.0.at there end (record { token = first.0; stands = first.1; placed = refl }) in
    record { module_tree = m; derived = subst (λ j. ModuleForm [] mode (with_end us) 0 m n j) (sym (one_longer us (token_of kind.End))) made }

-- the first k tokens of a list are those of the other
begun_with_end : (k : ℕ) (us ts : List Terminal) → Agree k us ts → k ≤ length us → with_end us ≡ take k ts ++ drop k (with_end us)
begun_with_end k us ts agree le =
    front_and_more k (with_end us) ts (λ i lt. agree_append us (token_of kind.End ∷ []) i (omega (arith, lt, le)) ∙ agree i lt) (omega (arith, one_longer us (token_of kind.End), le))

-- a list of items goes on to a module
begins_of : (ts : List Terminal) (k : ℕ) → HasWay ItemsRead ts 0 k → Begins (take k ts)
begins_of ts k way =
    let limit = max way.limit way.blocks in
    let us = way.tokens in
    let rest = (rising_items (strict way.limit) (strict limit) way.blocks limit (strict_rises way.limit limit (omega arith)) (omega arith)).rise way.derived in
    let whole = whole_of (strict limit) us way.tree limit rest in
    (drop k (with_end us), limit, whole.module_tree, subst (λ vs. ModuleForm [] (strict limit) vs 0 whole.module_tree limit (length vs)) (begun_with_end k us ts way.same way.long) whole.derived)

pub begins_fewer : (ts : List Terminal) (i k : ℕ) → i ≤ k → k ≤ length ts → Begins (take k ts) → Begins (take i ts)
begins_fewer ts i k le within b =
    let us : List Terminal = take k ts ++ b.0 in
    let is : us ≡ take i ts ++ drop i us = front_and_more i us ts (agree_carried us ts (agree_take k ts b.0 within) le) (omega (arith, length-append (take k ts) b.0, length-take-le k ts within, le)) in
    (drop i us, b.1, b.2, subst (λ vs. Derives b.1 vs [] b.2) is b.3)

-- Where tokens go on without too deep a nesting, none of them shows one

-- blocks within the limit, and expressions within another
within_before : (limit : ℕ) (ts : List Terminal) (k i : ℕ) → HasBlocks ItemsRead limit ts 0 k nesting_limit → i ≤ k → BeginsWithin limit ts i
within_before limit ts k i way le =
    let us = way.tokens in
    let more = (rising_items (unseen_from limit k) (unseen_from limit i) nesting_limit nesting_limit (unseen_rises limit limit i k (omega arith) le) (omega arith)).rise way.derived in
    let whole = whole_of (unseen_from limit i) us way.tree nesting_limit more in
    let is = begun_with_end i us ts (agree_carried us ts way.same le) (omega (arith, le, way.long)) in
    (drop i (with_end us), whole.module_tree, subst (λ vs. ModuleForm [] (unseen_from limit i) vs 0 whole.module_tree nesting_limit (length vs)) is whole.derived)

earlier_or_same : (i n : ℕ) → i < suc n → (i < n) ⊎ (i ≡ n)
earlier_or_same zero zero lt = inr refl
earlier_or_same zero (suc n) lt = inl (omega arith)
earlier_or_same (suc i) zero lt = absurd (omega (arith, lt))
earlier_or_same (suc i) (suc n) lt = elim (earlier_or_same i n (omega (arith, lt))) [ inl a ↦ inl (omega (arith, a)) | inr e ↦ inr (ap suc e) ]

shown_before : (ts : List Terminal) (k i : ℕ) → IsShallow ItemsRead ts 0 k nesting_limit → i < k → IsTooDeep ts i → ⊥
shown_before ts k i (IsShallow.shallow h) lt deep = deep.deep (within_before nesting_limit ts k (suc i) h lt)
shown_before ts k i (IsShallow.behind_sizeof n limit e forward keyword h loose) lt deep = elim (earlier_or_same i n (omega (arith, e, lt))) [
  | inl before ↦ deep.deep (within_before nesting_limit ts n (suc i) h before)
  | inr same ↦ deep.counted (subst (λ x. IsKeyword ts x word.Sizeof) (sym same) keyword) limit (within_before limit ts k (suc i) loose lt)
]

arrived_before : (ts : List Terminal) (k i : ℕ) → IsArrived ItemsRead ts 0 k nesting_limit → i < k → IsTooDeep ts i → AreTogether ts i k
arrived_before ts k i (IsArrived.reached h) lt deep = absurd (shown_before ts k i h.shallow lt deep)
arrived_before ts k i (IsArrived.behind_line n forward together way h) lt deep = elim (earlier_or_same i n (omega (arith, together.next, lt))) [
  | inl before ↦ absurd (deep.deep (within_before nesting_limit ts n (suc i) h before))
  | inr same ↦ subst (λ x. AreTogether ts x k) (sym same) together
]

-- What the reader answers

pub no_module : (ts : List Terminal) (k : ℕ) → IsStuck ItemsRead (IsBefore kind.End) ts 0 nesting_limit k → IsNoModule ts k
no_module ts k stuck =
    let none : Begins (take (suc k) ts) → ⊥ = λ b.
    let us : List Terminal = take (suc k) ts ++ b.0 in
    let items = items_of [] (strict b.1) us b.2 b.1 (length us) b.3 in
    stuck.none us (agree_take (suc k) ts b.0 (omega (arith, stuck.within))) b.1 items.items b.1 items.to items.read items.end in
    record {
      stops = record { within = stuck.within; begins = begins_of ts k (arrived_way stuck.reached); none = none };
      shallow = λ i deep. elim (order i k) [
        | inl lt ↦ arrived_before ts k i stuck.reached lt deep
        | inr le ↦ absurd (none (begins_fewer ts (suc k) (suc i) (omega (arith, le)) (omega (arith, deep.within)) deep.begins))
      ];
    }

not_within : (limit : ℕ) (ts : List Terminal) (k : ℕ) → k < length ts
    → ((us : List Terminal) → Agree (suc k) us ts → (tree : List ModuleItem) (j : ℕ) → ItemsRead (unseen_from limit (suc k)) us 0 tree nesting_limit j → HasKind us j kind.End → ⊥) → BeginsWithin limit ts (suc k) → ⊥
not_within limit ts k inside none b =
    let us : List Terminal = take (suc k) ts ++ b.0 in
    let items = items_of [] (unseen_from limit (suc k)) us b.1 nesting_limit (length us) b.2 in
    none us (agree_take (suc k) ts b.0 (omega (arith, inside))) items.items items.to items.read items.end

pub too_deep : (ts : List Terminal) (k : ℕ) → IsOver ItemsRead (IsBefore kind.End) ts 0 nesting_limit k → IsNestedTooDeep ts k
too_deep ts k over = record {
  deep = record {
    within = over.within;
    begins = begins_of ts (suc k) over.way;
    deep = λ b. not_within nesting_limit ts k over.within over.deep b;
    counted = λ keyword limit b. not_within limit ts k over.within (λ us agree tree j x s. over.counted keyword us agree limit tree j x s) b;
  };
  first = λ i lt deep. shown_before ts k i over.reached.shallow lt deep;
  apart = λ together stop. stop.none (begins_of ts (suc (suc k)) (over.apart together));
}

-- what was read to the end of the text is the text's module
pub parsed : (tokens : Tokens) (at : Span) (items : List ModuleItem) (to : ℕ) (comments : List Comment) → IsListing tokens → HasNoForeign (terminals_of tokens) → IsReading ItemsRead (IsBefore kind.End) (terminals_of tokens) 0 nesting_limit items to
    → IsAt (terminals_of tokens) 0 at → comments ≡ map (comment_of tokens.text) tokens.comments → IsModuleOf tokens (record { number = to; at = at; items = items; comments = comments })
parsed tokens at items to comments listing clean reading placed same =
    let ts = terminals_of tokens in
    let m : Module = record { number = to; at = at; items = items; comments = comments } in
    let last : suc to ≡ length ts = listing.ends to reading.stops ∙ sym (length_terminals tokens) in
    let made : ModuleForm comments (strict nesting_limit) ts 0 m nesting_limit (suc to) = module_of comments (strict nesting_limit) ts items nesting_limit to at reading.derived reading.stops placed in
    record { clean = clean; derived = subst (λ cs. Derives nesting_limit ts cs m) same (subst (λ j. ModuleForm comments (strict nesting_limit) ts 0 m nesting_limit j) last made) }

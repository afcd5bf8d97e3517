-- Numbers that are printed.
use Rattle.std.proofs.Common.{◌≡◌, ℕ, zero, suc, List, [], ◌∷◌, ◌++◌, length, Some, None, Bool, true, false, refl, sym, ap, ◌∙◌, subst}
use Rattle.std.specs.Prelude.{ℤ, not, nat_lt, nat_le, if◌then◌else◌, slice_get, codes}
use Rattle.std.specs.Fmt.{signed_decimal}
use Rattle.px_base.specs.declared.c_types.CType.{CType}
use Rattle.px_base.specs.declared.c_types.CType.TheVariants.{Bint}
use Rattle.px_base.specs.declared.faults.Kind.TheVariants.{LimitError}
use Rattle.px_ctypes.specs.Operators.{fault_of, is_zero}
use Rattle.px_tree.specs.declared.typed_values.ValueType.{ValueType}
use Rattle.px_tree.specs.declared.typed_values.Conversion.TheVariants as conversion
use Rattle.px_tree.specs.declared.typed_heads.TypedHead.TheVariants as head
use Rattle.px_walk.specs.Roses.{Roses, rose, none, more}
use Rattle.px_tree.specs.declared.typed_heads.TypedHead.{TypedHead}
use Rattle.px_typed_walk.specs.TypedView.{TypedRose}
use Rattle.px_model.specs.declared.stores.ObjectValue.{ObjectValue}
use Rattle.px_model.specs.declared.stores.ObjectValue.TheVariants as object_value
use Rattle.px_model.specs.declared.stores.Store.{Store}
use Rattle.px_meaning.specs.Values.{Value, whole, object, view, nothing}
use Rattle.px_meaning.specs.States.{State, holding}
use Rattle.px_meaning.specs.Interactions.{done, ◌>>=◌}
use Rattle.px_meaning.specs.Ends.{gives, on_value, on_whole}
use Rattle.px_meaning.specs.Objects.{Stepped, gave, failed, with_stepped, step_from, stepping, object_limit, new_object, boxed, output_limit, text_of, text_of_there, text_of_value, listed_text, texts_of, spaced, print_line, print_from, printed}
use Rattle.px_meaning.specs.Expressions.{Context, Scope, each, eval_by, eval, evaluations, printing}
use Rattle.px_machine.specs.Means.{HasStore}
use Rattle.px_code_laws.specs.FineStatements.{FineArgument, FineArguments}
use Rattle.px_code_laws.proofs.Coming.{Comes, ends, Well, with_value}
use Rattle.px_code_laws.proofs.PlainExpressions.{number_comes, plain_part}

abbrev pub Holds : {A : Type 0} → A → State → Type 0
Holds a s = HasStore s.store

-- a step on objects, of one who holds the lock
pub step_comes : {A : Type 0} {R : A → State → Type 0} (step : Store → Stepped A) (s : State) (has : HasStore s.store)
    → ((a : A) (store : Store) → step has.store ≡ gave a store → R a (holding store s)) → Comes (Well R) (done (stepping step s))
step_comes {A} {R} step s has after =
    subst (λ o. Comes (Well R) (done (step_from o step s))) (sym has.is) (stepped_comes (step has.store) refl)
  where
    stepped_comes : (what : Stepped A) → step has.store ≡ what → Comes (Well R) (done (with_stepped what s))
    stepped_comes (gave a store) is = ends (after a store is)
    stepped_comes (failed f store) is = ends (record { store = store; is = refl })

-- ---- texts of numbers

record HasText (what : ObjectValue) : Type 0 where
  text : List ℕ
  is : text_of what ≡ Some text

truth_text : (b : Bool) → HasText (object_value.Bool b)
truth_text true = record { text = codes "True"; is = refl }
truth_text false = record { text = codes "False"; is = refl }

boxed_text : (t : CType) (n : ℤ) → HasText (boxed t n)
boxed_text Bint n = truth_text (not (is_zero n))
boxed_text _ n = record { text = signed_decimal n; is = refl }

text_behind : (objects : List ObjectValue) (what : ObjectValue) (k : ℕ) (text : List ℕ) → text_of_there (slice_get objects k) ≡ Some text
    → text_of_there (slice_get (objects ++ what ∷ []) k) ≡ Some text
text_behind [] what k text is = cc
text_behind (o ∷ objects) what zero text is = is
text_behind (o ∷ objects) what (suc k) text is = text_behind objects what k text is

text_last : (objects : List ObjectValue) (what : ObjectValue) → text_of_there (slice_get (objects ++ what ∷ []) (length objects)) ≡ text_of what
text_last [] what = refl
text_last (o ∷ objects) what = text_last objects what

-- one more object, and all texts that there were
record Added (before : Store) (v : Value) (s : State) : Type 0 where
  store : Store
  is : s.store ≡ Some store
  text : List ℕ
  has : text_of_value store v ≡ Some text
  keeps : (u : Value) (old : List ℕ) → text_of_value before u ≡ Some old → text_of_value store u ≡ Some old

text_kept : (store : Store) (what : ObjectValue) (u : Value) (old : List ℕ) → text_of_value store u ≡ Some old
    → text_of_value (record store { objects = store.objects ++ what ∷ [] }) u ≡ Some old
text_kept store what (whole n) old is = is
text_kept store what (object serial) old is = text_behind store.objects what serial old is
text_kept store what (view v) old is = is
text_kept store what nothing old is = is

added : (what : ObjectValue) (store : Store) (s : State) → s.store ≡ Some store → HasText what
    → Comes (Well (Added store)) (done (stepping (new_object what) s))
added what store s is has =
    subst (λ o. Comes (Well (Added store)) (done (step_from o (new_object what) s))) (sym is) (within (nat_lt (length store.objects) object_limit))
  where
    within : (b : Bool) → Comes (Well (Added store)) (done (with_stepped
        (if b then gave (object (length store.objects)) (record store { objects = store.objects ++ what ∷ [] })
        else failed (fault_of LimitError 34) store) s))
    within true = ends (record {
      store = record store { objects = store.objects ++ what ∷ [] };
      is = refl;
      text = has.text;
      has = text_last store.objects what ∙ has.is;
      keeps = λ u old there. text_kept store what u old there;
    })
    within false = ends (record { store = store; is = refl })

-- ---- the arguments

record Printable (before : Store) (values : List Value) (s : State) : Type 0 where
  store : Store
  is : s.store ≡ Some store
  texts : List (List ℕ)
  have : texts_of store values ≡ Some texts
  keeps : (u : Value) (old : List ℕ) → text_of_value before u ≡ Some old → text_of_value store u ≡ Some old

module _ (context : Context) (locals : List ValueType) where
  argument_comes : (tree : TypedRose) → FineArgument locals tree → (scope : Scope) (s : State) (store : Store) → s.store ≡ Some store
      → Comes (Well (Added store)) (eval context tree scope s)
  unfolding eval eval_by
  argument_comes (rose (head.Converted (conversion.ToObject t)) number at parts) fine scope s store is =
      number_comes (on_whole (λ n s1. done (stepping (new_object (boxed t n)) s1)))
      (plain_part context locals parts None fine.1 0 t fine.0 scope s tt)
      (record { store = store; is = is }) (λ n. added (boxed t n) store s is (boxed_text t n))
  argument_comes (rose _ number at parts) fine scope s store is = absurd fine

  arguments_come : (parts : Roses TypedHead) → FineArguments locals parts → (scope : Scope) (s : State) (store : Store) → s.store ≡ Some store
      → Comes (Well (Printable store)) (each (evaluations context parts) scope s)
  unfolding eval
  arguments_come none fine scope s store is = ends (record { store = store; is = is; texts = []; have = refl; keeps = λ u old there. there })
  arguments_come (more tree trees) fine scope s store is =
      with_value (λ v s1. each (evaluations context trees) scope s1 >>= on_value (λ values s2. done (gives (v ∷ values) s2)))
      (argument_comes tree fine.0 scope s store is)
      (λ v s1 a. with_value (λ values s2. done (gives (v ∷ values) s2)) (arguments_come trees fine.1 scope s1 a.store a.is)
      (λ values s2 p. ends (record {
        store = p.store;
        is = p.is;
        texts = a.text ∷ p.texts;
        have = ap (λ first. listed_text first (texts_of p.store values)) (p.keeps v a.text a.has) ∙ ap (listed_text (Some a.text)) p.have;
        keeps = λ u old there. p.keeps u old (a.keeps u old there);
      })))

  print_comes : (before : Store) (values : List Value) (s : State) → Printable before values s → Comes (Well Holds) (done (printed values s))
  print_comes before values s p =
      subst (λ o. Comes (Well Holds) (done (print_from o values s))) (sym p.is)
      (subst (λ texts. Comes (Well Holds) (done (print_line texts p.store s))) (sym p.have) (within (nat_le (length output) output_limit)))
    where
      output : List ℕ
      output = p.store.output ++ spaced p.texts ++ codes "\n"

      within : (b : Bool) → Comes (Well Holds) (done (with_stepped
          (if b then gave nothing (record p.store { output = output }) else failed (fault_of LimitError 13) p.store) s))
      within true = ends (record { store = record p.store { output = output }; is = refl })
      within false = ends (record { store = p.store; is = refl })

  pub printing_comes : (parts : Roses TypedHead) → FineArguments locals parts → (scope : Scope) (s : State) → HasStore s.store
      → Comes (Well Holds) (printing (evaluations context parts) scope s)
  printing_comes parts fine scope s has =
      with_value (λ values s1. done (printed values s1)) (arguments_come parts fine scope s has.store has.is)
      (λ values s1 p. print_comes has.store values s1 p)

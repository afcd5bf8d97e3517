-- An expression of a C type that has code gives a number or a fault, and changes nothing.
use Rattle.std.proofs.Common.{◌≡◌, ℕ, zero, suc, Option, Some, None, refl, sym, subst}
use Rattle.std.specs.Prelude.{ℤ, pos, unsigned_abs, List, Result, Ok, Err}
use Rattle.px_base.specs.declared.c_types.CType.{CType}
use Rattle.px_base.specs.declared.faults.Fault.{Fault}
use Rattle.px_ctypes.specs.Wrapping.{wrap}
use Rattle.px_ctypes.specs.Conversions.{converted}
use Rattle.px_ctypes.specs.Operators.{binary_value, unary_value, compare_value}
use Rattle.px_tree.specs.declared.typed_values.ValueType.{ValueType}
use Rattle.px_tree.specs.declared.typed_values.ValueType.TheVariants as type
use Rattle.px_tree.specs.declared.typed_values.Conversion.TheVariants as conversion
use Rattle.px_tree.specs.declared.typed_values.Comparing.TheVariants as comparing
use Rattle.px_tree.specs.declared.typed_heads.TypedHead.{TypedHead}
use Rattle.px_tree.specs.declared.typed_heads.TypedHead.TheVariants as head
use Rattle.px_walk.specs.Roses.{Roses, rose, none, more}
use Rattle.px_typed_walk.specs.TypedView.{TypedRose}
use Rattle.px_meaning.specs.Values.{Value, whole}
use Rattle.px_meaning.specs.States.{State}
use Rattle.px_meaning.specs.Interactions.{Interaction, done, ◌>>=◌}
use Rattle.px_meaning.specs.Ends.{Ends, gives, raised, on_value, on_number, number_or_fault}
use Rattle.px_meaning.specs.Expressions.{Context, Scope, Evaluation, giving, part, of_truth, value_there, steps_of, eval_by, eval, evaluations}
use Rattle.px_machine.specs.Means.{HasStore}
use Rattle.px_code_laws.specs.Fine.{HasType, FineHead, FineParts, IsFine, AreFine, AreSteps, types_of}
use Rattle.px_code_laws.proofs.Coming.{Comes, ends, Well}

-- what such an expression comes to in a state
pub data IsPlain (s : State) : Interaction (Ends Value) → Type 0 where
  gave_number : {n : ℤ} → IsPlain s (done (gives (whole n) s))
  fails : {f : Fault} → IsPlain s (done (raised f s))

plain_number : {s : State} {t : Interaction (Ends Value)} (go : ℤ → State → Interaction (Ends Value)) → IsPlain s t → ((n : ℤ) → IsPlain s (go n s))
    → IsPlain s (t >>= on_number go)
plain_number go (gave_number {n}) after = after n
plain_number go fails after = fails

plain_value : {s : State} {t : Interaction (Ends Value)} (go : Value → State → Interaction (Ends Value)) → IsPlain s t
    → ((n : ℤ) → IsPlain s (go (whole n) s)) → IsPlain s (t >>= on_value go)
plain_value go (gave_number {n}) after = after n
plain_value go fails after = fails

plain_result : {s : State} (result : Result ℤ Fault) → IsPlain s (done (number_or_fault result s))
plain_result (Ok n) = gave_number
plain_result (Err f) = fails

-- what goes on with the number
pub number_comes : {B : Type 0} {R : B → State → Type 0} {s : State} {t : Interaction (Ends Value)} (go : Value → State → Interaction (Ends B))
    → IsPlain s t → HasStore s.store → ((n : ℤ) → Comes (Well R) (go (whole n) s)) → Comes (Well R) (t >>= on_value go)
number_comes go (gave_number {n}) has after = after n
number_comes go fails has after = ends has

-- the value at hand is a number
pub record NumberGiven (scope : Scope) : Type 0 where
  pub number : ℤ
  pub is : scope.given ≡ Some (whole number)

abbrev pub GivenTo : Option CType → Scope → Type 0
GivenTo None scope = Unit {0}
GivenTo (Some t) scope = NumberGiven scope

module _ (context : Context) (locals : List ValueType) where
  abbrev pub IsPlainIn : Option CType → Evaluation → Type 0
  IsPlainIn at_hand e = (scope : Scope) (s : State) → GivenTo at_hand scope → IsPlain s (e scope s)

  abbrev PartsPlain : Option CType → Roses TypedHead → Type 0
  PartsPlain at_hand parts = (k : ℕ) (t : CType) → HasType (types_of parts) k t → IsPlainIn at_hand (part (evaluations context parts) k)

  given_there : (at_hand : Option CType) (t : CType) (scope : Scope) → at_hand ≡ Some t → GivenTo at_hand scope → NumberGiven scope
  given_there at_hand t scope is given = subst (λ o. GivenTo o scope) is given

  plain_given : (scope : Scope) (s : State) → NumberGiven scope → IsPlain s (done (value_there scope.given s))
  plain_given scope s given = subst (λ o. IsPlain s (done (value_there o s))) (sym given.is) gave_number

  by_head : (h : TypedHead) (at_hand : Option CType) (parts : Roses TypedHead) → (AreFine locals at_hand parts → PartsPlain at_hand parts)
      → ((t : CType) → AreSteps locals at_hand t parts → IsPlainIn at_hand (steps_of (evaluations context parts)))
      → FineHead locals at_hand h (types_of parts) → FineParts h (AreFine locals at_hand parts) (λ t. AreSteps locals at_hand t parts)
      → IsPlainIn at_hand (eval_by context h (evaluations context parts))
  unfolding eval_by
  by_head (head.Literal t n) at_hand parts plain steps fine p scope s given = gave_number
  by_head (head.Sizeof t) at_hand parts plain steps fine p scope s given = gave_number
  by_head (head.Local slot (type.C t)) at_hand parts plain steps fine p scope s given = gave_number
  by_head (head.Given (type.C t)) at_hand parts plain steps fine p scope s given = plain_given scope s (given_there at_hand t scope fine given)
  by_head (head.Converted (conversion.ToC t)) at_hand parts plain steps fine p scope s given =
      plain_number (λ n s1. done (gives (whole (converted t n)) s1)) (plain p 0 fine.given fine.has scope s given) (λ n. gave_number)
  by_head (head.Cast (type.C t)) at_hand parts plain steps fine p scope s given = plain p 0 t fine scope s given
  by_head (head.Steps (type.C t)) at_hand parts plain steps fine p scope s given = steps t p scope s given
  by_head (head.Unary op t) at_hand parts plain steps fine p scope s given =
      plain_number (λ n s1. done (gives (whole (unary_value op t n)) s1)) (plain p 0 t fine.1 scope s given) (λ n. gave_number)
  by_head (head.Binary op t truncates) at_hand parts plain steps fine p scope s given =
      plain_number
      (λ a s1. part (evaluations context parts) 1 scope s1 >>= on_number (λ b s2. done (number_or_fault (binary_value op t a b truncates) s2)))
      (plain p 0 t fine.1.0 scope s given)
      (λ a. plain_number (λ b s2. done (number_or_fault (binary_value op t a b truncates) s2)) (plain p 1 fine.1.1.given fine.1.1.has scope s given)
      (λ b. plain_result (binary_value op t a b truncates)))
  by_head (head.Compare (comparing.C op t)) at_hand parts plain steps fine p scope s given =
      plain_number
      (λ a s1. part (evaluations context parts) 1 scope s1 >>= on_number (λ b s2. done (gives (whole (of_truth (compare_value op a b))) s2)))
      (plain p 0 t fine.0 scope s given)
      (λ a. plain_number (λ b s2. done (gives (whole (of_truth (compare_value op a b))) s2)) (plain p 1 t fine.1 scope s given) (λ b. gave_number))
  by_head (head.Abs t) at_hand parts plain steps fine p scope s given =
      plain_number (λ n s1. done (gives (whole (wrap t (pos (unsigned_abs n)))) s1)) (plain p 0 t fine.1 scope s given) (λ n. gave_number)
  by_head _ at_hand parts plain steps fine p scope s given = absurd fine

  mutual
    unfolding eval

    pub plain_expression : (tree : TypedRose) (at_hand : Option CType) → IsFine locals at_hand tree → IsPlainIn at_hand (eval context tree)
    plain_expression (rose h number at parts) at_hand fine scope s given =
        by_head h at_hand parts (λ all k t has. plain_part parts at_hand all k t has)
        (λ t all. plain_steps parts at_hand t all) fine.0 fine.1 scope s given

    pub plain_part : (parts : Roses TypedHead) (at_hand : Option CType) → AreFine locals at_hand parts → (k : ℕ) (t : CType)
        → HasType (types_of parts) k t → IsPlainIn at_hand (part (evaluations context parts) k)
    plain_part none at_hand fine k t has scope s given = cc
    plain_part (more tree trees) at_hand fine zero t has scope s given = plain_expression tree at_hand fine.0 scope s given
    plain_part (more tree trees) at_hand fine (suc k) t has scope s given = plain_part trees None fine.1 k t has scope s tt

    plain_steps : (parts : Roses TypedHead) (at_hand : Option CType) (t : CType) → AreSteps locals at_hand t parts
        → IsPlainIn at_hand (steps_of (evaluations context parts))
    plain_steps none at_hand t fine scope s given = absurd fine
    plain_steps (more tree none) at_hand t fine scope s given = plain_expression tree at_hand fine.0 scope s given
    plain_steps (more tree (more other trees)) at_hand t fine scope s given =
        plain_value (λ v s1. steps_of (evaluations context (more other trees)) (giving v scope) s1)
        (plain_expression tree at_hand fine.1.0.0 scope s given)
        (λ n. plain_steps (more other trees) (Some fine.0) t fine.1.1 (giving (whole n) scope) s (record { number = n; is = refl }))

-- Statements that have code come to an end, whatever is answered: behind them, or by a `return` where one may stand.
use Rattle.std.proofs.Common.{◌≡◌, ℕ, List, [], ◌∷◌, Option, Some, None, Bool, true, false, refl}
use Rattle.std.specs.Prelude.{map, slice_get}
use Rattle.px_base.specs.declared.c_types.CType.{CType}
use Rattle.px_base.specs.declared.refusals.Span.{Span}
use Rattle.px_base.specs.declared.objects.Builtin.TheVariants as builtin
use Rattle.px_tree.specs.declared.typed_values.ValueType.{ValueType}
use Rattle.px_tree.specs.declared.typed_values.ValueType.TheVariants as type
use Rattle.px_tree.specs.declared.typed_heads.TypedHead.{TypedHead}
use Rattle.px_tree.specs.declared.typed_heads.TypedHead.TheVariants as head
use Rattle.px_walk.specs.Roses.{Roses, rose, none, more, listed, gathered}
use Rattle.px_typed_walk.specs.TypedView.{TypedRose}
use Rattle.px_meaning.specs.Values.{whole}
use Rattle.px_meaning.specs.States.{State}
use Rattle.px_meaning.specs.Interactions.{Interaction, done, ◌>>=◌}
use Rattle.px_meaning.specs.Ends.{Ends, gives, on_value, Flow, next, continues, breaks, returns, then_do}
use Rattle.px_meaning.specs.Expressions.{Context, Scope, giving, eval_by, eval}
use Rattle.px_meaning.specs.Statements.{Execution, Branch, in_turn, dropped, assign_local, assign_to, augment_to, exec_by, exec, executions, branches_of}
use Rattle.px_machine.specs.Means.{HasStore}
use Rattle.px_code_laws.specs.Fine.{IsFine}
use Rattle.px_code_laws.specs.FineStatements.{Surrounding, FineCall, FineAlone, FineSet, FineTarget, FineAugmentTo, FineReturned, FineStatementBy, IsFineStatement, AreFineStatements}
use Rattle.px_code_laws.specs.Compiled.{AreCompiled}
use Rattle.px_code_laws.specs.Outcomes.{NoReturnBy, HasNoReturn, HaveNoReturn}
use Rattle.px_code_laws.proofs.Coming.{Comes, ends, Well, with_value}
use Rattle.px_code_laws.proofs.PlainExpressions.{GivenTo, number_comes, plain_expression}
use Rattle.px_code_laws.proofs.ComingPrints.{Holds, printing_comes}

-- the calls of functions without parameters
pub record CallsCome (context : Context) (callees : List (Option ValueType)) : Type 0 where
  pub come : (function : ℕ) (t : ValueType) → slice_get callees function ≡ Some (Some t) → (s : State) → HasStore s.store
      → Comes (Well Holds) (context.calls function [] s)

-- how statements end: the flag says whether a `return` may stand among them
abbrev pub Flows : Bool → Flow → State → Type 0
Flows returning next s = HasStore s.store
Flows returning continues s = ⊥
Flows returning breaks s = ⊥
Flows returning (returns v) s = (returning ≡ true) × HasStore s.store

may_return : (returning : Bool) → (returning ≡ false → ⊥) → returning ≡ true
may_return true may = refl
may_return false may = absurd (may refl)

module _ (context : Context) (c : Surrounding) (returning : Bool) (calls : CallsCome context c.callees) where
  abbrev pub Does : Execution → Type 0
  Does e = (scope : Scope) (s : State) → HasStore s.store → Comes (Well (Flows returning)) (e scope s)

  abbrev pub AllDo : List Execution → Type 0
  AllDo [] = Unit {0}
  AllDo (e ∷ es) = Does e × AllDo es

  then_come : (go : State → Interaction (Ends Flow)) (flow : Flow) (s : State) → Flows returning flow s
      → ((s : State) → HasStore s.store → Comes (Well (Flows returning)) (go s)) → Comes (Well (Flows returning)) (then_do go flow s)
  then_come go next s f after = after s f
  then_come go continues s f after = absurd f
  then_come go breaks s f after = absurd f
  then_come go (returns v) s f after = ends f

  pub in_turn_comes : (es : List Execution) → AllDo es → Does (in_turn es)
  in_turn_comes [] all scope s has = ends has
  in_turn_comes (e ∷ es) all scope s has =
      with_value (then_do (in_turn es scope)) (all.0 scope s has)
      (λ flow s1 f. then_come (in_turn es scope) flow s1 f (λ s2 held. in_turn_comes es all.1 scope s2 held))

  -- ---- values that stand alone

  number_alone : (tree : TypedRose) → IsFine c.locals None tree
      → Does (λ scope s. eval context tree scope s >>= on_value (λ _ s1. done (gives next s1)))
  number_alone tree fine scope s has =
      number_comes (λ _ s1. done (gives next s1)) (plain_expression context c.locals tree None fine scope s tt) has (λ n. ends has)

  call_alone : (function : ℕ) (t : ValueType) (number : ℕ) (parts : Roses TypedHead) → FineCall c function t parts
      → Does (λ scope s. eval_by context (head.Call function t) [] scope s >>= on_value (λ _ s1. done (gives next s1)))
  unfolding eval_by
  call_alone function (type.C t) number none fine scope s has =
      with_value (λ _ s1. done (gives next s1)) (calls.come function _ fine.0 s has) (λ v s1 held. ends held)
  call_alone function type.Object number none fine scope s has =
      with_value (λ _ s1. done (gives next s1)) (calls.come function _ fine.0 s has) (λ v s1 held. ends held)
  call_alone function (type.View t) number none fine scope s has = absurd fine.1
  call_alone function type.Void number none fine scope s has =
      with_value (λ _ s1. done (gives next s1)) (calls.come function _ fine.0 s has) (λ v s1 held. ends held)
  call_alone function t number (more tree trees) fine scope s has = absurd fine

  alone_comes : (tree : TypedRose) → FineAlone c tree → Does (dropped context tree)
  unfolding eval
  alone_comes (rose (head.Builtin builtin.Print) number at parts) fine scope s has =
      with_value (λ _ s1. done (gives next s1)) (printing_comes context c.locals parts fine.1.1 scope s has) (λ v s1 held. ends held)
  alone_comes (rose (head.Builtin _) number at parts) fine scope s has = absurd fine.0
  alone_comes (rose (head.Call function t) number at none) fine scope s has = call_alone function t number none fine scope s has
  alone_comes (rose (head.Call function t) number at (more tree trees)) fine scope s has = absurd fine
  alone_comes (rose h number at parts) fine scope s has = number_alone (rose h number at parts) fine scope s has

  -- ---- variables

  set_comes : (at_hand : Option CType) (slot : ℕ) (t : CType) (tree : TypedRose) → IsFine c.locals at_hand tree
      → (scope : Scope) (s : State) → HasStore s.store → GivenTo at_hand scope
      → Comes (Well (Flows returning)) (eval context tree scope s >>= on_value (assign_local slot (type.C t)))
  set_comes at_hand slot t tree fine scope s has given =
      number_comes (assign_local slot (type.C t)) (plain_expression context c.locals tree at_hand fine scope s given) has (λ n. ends has)

  declares : (slot : ℕ) (t : ValueType) (tree : TypedRose) → FineSet c slot t tree
      → Does (λ scope s. eval context tree scope s >>= on_value (assign_local slot t))
  declares slot (type.C t) tree fine scope s has = set_comes None slot t tree fine.1.fine scope s has tt
  declares slot type.Object tree fine scope s has = absurd fine
  declares slot (type.View t) tree fine scope s has = absurd fine
  declares slot type.Void tree fine scope s has = absurd fine

  assigns : (h : TypedHead) (tree : TypedRose) → FineTarget c h tree → Does (λ scope s. eval context tree scope s >>= on_value (assign_to h))
  assigns (head.Local slot t) tree fine scope s has = declares slot t tree fine scope s has
  assigns _ tree fine scope s has = absurd fine

  augments : (h : TypedHead) (number : ℕ) (at : Span) (parts : Roses TypedHead) (tree : TypedRose) → FineAugmentTo c h (rose h number at parts) tree
      → Does (augment_to context h (rose h number at parts ∷ tree ∷ []))
  augments (head.Local slot (type.C t)) number at parts tree fine scope s has =
      let target = rose (head.Local slot (type.C t)) number at parts in
      number_comes (λ old s1. eval context tree (giving old scope) s1 >>= on_value (assign_local slot (type.C t)))
      (plain_expression context c.locals target None fine.target_fine scope s tt) has
      (λ n. set_comes (Some t) slot t tree fine.fine (giving (whole n) scope) s has (record { number = n; is = refl }))
  augments _ number at parts tree fine scope s has = absurd fine

  returned_fine : (t : ValueType) (tree : TypedRose) → FineReturned c t tree → IsFine c.locals None tree
  returned_fine (type.C t) tree fine = fine.fine
  returned_fine type.Object tree fine = absurd fine
  returned_fine (type.View t) tree fine = absurd fine
  returned_fine type.Void tree fine = absurd fine

  -- ---- statements

  by_head : (h : TypedHead) (parts : Roses TypedHead) (steps : List Execution) (branches : List Branch)
      → FineStatementBy c h parts (AreFineStatements c parts)
      → (returning ≡ false → NoReturnBy h (HaveNoReturn parts))
      → (AreFineStatements c parts → (returning ≡ false → HaveNoReturn parts) → AllDo steps)
      → Does (exec_by context h (listed parts) steps branches)
  unfolding exec_by
  by_head head.Expression (more tree none) steps branches fine plain inner scope s has = alone_comes tree fine scope s has
  by_head head.Assign (more (rose h number at parts) (more tree none)) steps branches fine plain inner scope s has = assigns h tree fine scope s has
  by_head (head.Augment op) (more (rose h number at parts) (more tree none)) steps branches fine plain inner scope s has =
      augments h number at parts tree fine scope s has
  by_head head.Declare parts steps branches fine plain inner scope s has = in_turn_comes steps (inner fine plain) scope s has
  by_head (head.Declarator slot t) none steps branches fine plain inner scope s has = ends has
  by_head (head.Declarator slot t) (more tree none) steps branches fine plain inner scope s has = declares slot t tree fine scope s has
  by_head head.Pass parts steps branches fine plain inner scope s has = ends has
  by_head head.Global parts steps branches fine plain inner scope s has = ends has
  by_head head.Return none steps branches fine plain inner scope s has = ends (may_return returning plain, has)
  by_head head.Return (more tree none) steps branches fine plain inner scope s has =
      number_comes (λ v s1. done (gives (returns v) s1))
      (plain_expression context c.locals tree None (returned_fine c.gives tree fine) scope s tt) has (λ n. ends (may_return returning plain, has))
  by_head _ parts steps branches fine plain inner scope s has = absurd fine

  mutual
    unfolding exec

    statement_comes : (tree : TypedRose) → IsFineStatement c tree → (returning ≡ false → HasNoReturn tree) → Does (exec context tree)
    statement_comes (rose h number at parts) fine plain scope s has =
        by_head h parts (executions context parts) (branches_of context parts) fine plain (λ all others. statements_come parts all others) scope s has

    statements_come : (parts : Roses TypedHead) → AreFineStatements c parts
        → (returning ≡ false → HaveNoReturn parts) → AllDo (executions context parts)
    statements_come none fine plain = tt
    statements_come (more tree trees) fine plain =
        (statement_comes tree fine.0 (λ e. (plain e).0), statements_come trees fine.1 (λ e. (plain e).1))

  all_come : (registers : ℕ) (body : List TypedRose) → AreCompiled c registers body
      → (returning ≡ false → HaveNoReturn (gathered body)) → AllDo (map (exec context) body)
  all_come registers [] compiled plain = tt
  all_come registers (tree ∷ trees) compiled plain =
      (statement_comes tree compiled.0.0 (λ e. (plain e).0), all_come registers trees compiled.1 (λ e. (plain e).1))

  pub body_comes : (registers : ℕ) (body : List TypedRose) → AreCompiled c registers body → (returning ≡ false → HaveNoReturn (gathered body))
      → Does (in_turn (map (exec context) body))
  body_comes registers body compiled plain = in_turn_comes (map (exec context) body) (all_come registers body compiled plain)

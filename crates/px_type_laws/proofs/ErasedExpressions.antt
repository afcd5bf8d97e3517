-- An expression is what stands in the text, once it is erased.
use Rattle.std.proofs.Common.{◌≡◌, ℕ, ℤ, pos, List, [], ◌∷◌, ◌++◌, map, drop, refl, sym, ap, ◌∙◌}
use Rattle.std.specs.Prelude.{Option, Some, None, Ok}
use Rattle.std.specs.List.{AllZip, cons_option}
use Rattle.px_base.specs.declared.refusals.Span.{Span}
use Rattle.px_base.specs.declared.c_types.CType.TheVariants as c
use Rattle.px_base.specs.declared.c_types.CmpOp.{CmpOp}
use Rattle.px_base.specs.declared.c_types.CmpOp.TheVariants as compared
use Rattle.px_tree.specs.declared.expressions.CompareOp.{CompareOp}
use Rattle.px_tree.specs.declared.expressions.CompareOp.TheVariants as sign
use Rattle.px_tree.specs.declared.typed_values.ValueType.{ValueType}
use Rattle.px_tree.specs.declared.typed_values.ValueType.TheVariants as value
use Rattle.px_tree.specs.declared.typed_heads.TypedHead.TheVariants as head
use Rattle.px_walk.specs.Forms.{Form}
use Rattle.px_walk.specs.Forms as form
use Rattle.px_walk.specs.Roses.{Roses, rose, none, more, listed, head_of, at_of}
use Rattle.px_walk.specs.ExprView.{Tree}
use Rattle.px_typed_walk.specs.TypedView.{TypedRose, typed_node}
use Rattle.px_names.specs.declared.meanings.Meaning.{Meaning}
use Rattle.px_names.specs.declared.meanings.Meaning.TheVariants as meaning
use Rattle.px_operators.specs.Outcomes.{Outcome, followed, only, flat}
use Rattle.px_operators.specs.Conversions.{fitted}
use Rattle.px_operators.specs.Operators.{operands, unary_of, chain_of, comparison_of, logic_of}
use Rattle.px_environments.specs.declared.signatures.Variable.{Variable}
use Rattle.px_environments.specs.Environments.{Environment}
use Rattle.px_environments.specs.Atoms.{c_comparison, is_value, is_long, is_range_row}
use Rattle.px_environments.specs.WrittenTypes.{first_type}
use Rattle.px_typed_expressions.specs.Calls.{row_of}
use Rattle.px_typed_expressions.specs.Expressions.{number_of_type, truth_of, size_of, cast_of, operators, listed_comparison, comparison_in, comparisons, variable_of, name_of, expression_of, is_between, operands_by, operands_below, operands_each, expression}
use Rattle.px_type_laws.specs.PlainForms.{PlainTree, plain_node, written, link, comparison}
use Rattle.px_type_laws.specs.Erased.{erased, spelled}
use Rattle.px_type_laws.specs.BareExpressions.{name_of_variable, name_meant, type_written, behind_first, sign_of, signs, bare_by_form, bare_row, bare_operands, bare_below, bare_each, bare_alone, bare}
use Rattle.px_type_laws.proofs.OutcomeParts.{ok_same, followed_ok, mapped_ok, chosen_ok, refused_never}
use Rattle.px_type_laws.proofs.Agreements.{Agree, agree-flat, agree-if, only_shown}
use Rattle.px_type_laws.proofs.ErasedNodes.{node_erased, fitted_erased, operands_erased, operands_shown}
use Rattle.px_type_laws.proofs.ErasedOperators.{unary_erased, chain_erased, comparison_erased, ands_erased, ors_erased, not_erased, conditional_erased}
use Rattle.px_type_laws.proofs.ErasedCalls.{row_erased}

-- ---- names and literals

variable_erased : (name : Form) (variable : Option Variable) (number : ℕ) (at : Span) (typed : TypedRose) → variable_of variable number at ≡ Ok typed
    → erased typed ≡ plain_node (name_of_variable name variable) number at []
variable_erased name None number at typed is = absurd cc
variable_erased name (Some variable) number at typed is =
    ap erased (sym (ok_same (typed_node (head.Local variable.slot variable.value_type) number at []) typed is))
    ∙ node_erased (head.Local variable.slot variable.value_type) number at []

name_erased : (environment : Environment) (name : Form) (what : Option Meaning) (number : ℕ) (at : Span) (typed : TypedRose) → name_of environment what number at ≡ Ok typed
    → erased typed ≡ plain_node (name_meant environment name what) number at []
name_erased environment name None number at typed is = absurd cc
name_erased environment name (Some (meaning.Local declaration kind)) number at typed is = variable_erased name (environment.variables declaration) number at typed is
name_erased environment name (Some meaning.Module) number at typed is = absurd cc
name_erased environment name (Some (meaning.Function f params)) number at typed is = absurd cc
name_erased environment name (Some (meaning.Import imported)) number at typed is = absurd cc
name_erased environment name (Some (meaning.Builtin b)) number at typed is = absurd cc

number_erased : (n : ℤ) (number : ℕ) (at : Span) (typed : TypedRose) → number_of_type n number at ≡ Ok typed → erased typed ≡ written (form.Number n) number at []
number_erased n number at typed is =
    ap erased (sym (chosen_ok (is_long n) (typed_node (head.Literal c.Long n) number at []) at typed is))
    ∙ node_erased (head.Literal c.Long n) number at []

true_erased : (number : ℕ) (at : Span) (typed : TypedRose) → truth_of (pos 1) number at ≡ Ok typed → erased typed ≡ written form.True number at []
true_erased number at typed is =
    ap erased (sym (ok_same (typed_node (head.Literal c.Bint (pos 1)) number at []) typed is)) ∙ node_erased (head.Literal c.Bint (pos 1)) number at []

false_erased : (number : ℕ) (at : Span) (typed : TypedRose) → truth_of (pos 0) number at ≡ Ok typed → erased typed ≡ written form.False number at []
false_erased number at typed is =
    ap erased (sym (ok_same (typed_node (head.Literal c.Bint (pos 0)) number at []) typed is)) ∙ node_erased (head.Literal c.Bint (pos 0)) number at []

-- ---- sizes and casts

size_erased : (t : Option ValueType) (number : ℕ) (at : Span) (typed : TypedRose) → size_of t number at ≡ Ok typed
    → erased typed ≡ written form.Sizeof number at (type_written at t)
size_erased None number at typed is = absurd cc
size_erased (Some (value.C t)) number at typed is =
    ap erased (sym (ok_same (typed_node (head.Sizeof t) number at []) typed is)) ∙ node_erased (head.Sizeof t) number at []
size_erased (Some value.Object) number at typed is = absurd cc
size_erased (Some (value.View t)) number at typed is = absurd cc
size_erased (Some value.Void) number at typed is = absurd cc

cast_erased : (t : Option ValueType) (number : ℕ) (at : Span) (outcomes : List (Outcome TypedRose)) (trees : List PlainTree) (typed : TypedRose) → Agree outcomes trees
    → cast_of t number at (only at outcomes) ≡ Ok typed → erased typed ≡ written form.Cast number at (type_written at t ++ trees)
cast_erased None number at outcomes trees typed all is = absurd (refused_never at (only at outcomes) typed is)
cast_erased (Some t) number at outcomes trees typed all is =
    let found = mapped_ok (λ (operand : TypedRose). typed_node (head.Cast t) number at (operand ∷ [])) (followed (only at outcomes) (fitted t)) typed is in
    let operand = followed_ok (only at outcomes) (fitted t) found.0 found.1 in
    ap erased (sym found.2)
    ∙ node_erased (head.Cast t) number at (found.0 ∷ [])
    ∙ ap (λ (tree : PlainTree). written form.Cast number at (type_written at (Some t) ++ tree ∷ [])) (fitted_erased t operand.0 found.0 operand.2)
    ∙ ap (λ (ts : List PlainTree). written form.Cast number at (type_written at (Some t) ++ ts)) (sym (only_shown at outcomes trees operand.0 all operand.1))

-- ---- the comparisons of a chain are spelled so

some_same : (a b : CmpOp) → Some a ≡ Some b → a ≡ b
some_same a b is = cc

sign_spelled : (s : CompareOp) (op : CmpOp) → c_comparison s ≡ Some op → s ≡ spelled op
sign_spelled sign.Less op is = ap spelled (some_same compared.Lt op is)
sign_spelled sign.Greater op is = ap spelled (some_same compared.Gt op is)
sign_spelled sign.LessEqual op is = ap spelled (some_same compared.Le op is)
sign_spelled sign.GreaterEqual op is = ap spelled (some_same compared.Ge op is)
sign_spelled sign.Equal op is = ap spelled (some_same compared.Eq op is)
sign_spelled sign.NotEqual op is = ap spelled (some_same compared.Ne op is)
sign_spelled _ op is = absurd cc

sign_listed : (s : CompareOp) (o : Option CmpOp) (at : Span) (others : Outcome (List CmpOp)) (rest : List CompareOp) (ops : List CmpOp)
    → c_comparison s ≡ o → ((found : List CmpOp) → others ≡ Ok found → map spelled found ≡ rest)
    → listed_comparison at o others ≡ Ok ops → map spelled ops ≡ s ∷ rest
sign_listed s None at others rest ops spells follow is = absurd cc
sign_listed s (Some op) at others rest ops spells follow is =
    let found = mapped_ok (λ (behind : List CmpOp). op ∷ behind) others ops is in
    ap (map spelled) (sym found.2)
    ∙ ap (λ (first : CompareOp). first ∷ map spelled found.0) (sym (sign_spelled s op spells))
    ∙ ap (λ (behind : List CompareOp). s ∷ behind) (follow found.0 found.1)

one_spelled : (shape : Form) (at : Span) (others : Outcome (List CmpOp)) (rest : List CompareOp) (ops : List CmpOp)
    → ((found : List CmpOp) → others ≡ Ok found → map spelled found ≡ rest)
    → listed_comparison at (comparison_in shape) others ≡ Ok ops → map spelled ops ≡ cons_option (sign_of shape) rest
one_spelled (form.Comparison s) at others rest ops follow is = sign_listed s (c_comparison s) at others rest ops refl follow is
one_spelled _ at others rest ops follow is = absurd cc

comparisons_spelled : (at : Span) (parts : List Tree) (ops : List CmpOp) → comparisons at parts ≡ Ok ops → map spelled ops ≡ signs parts
comparisons_spelled at [] ops is = ap (map spelled) (sym (ok_same [] ops is))
comparisons_spelled at (part ∷ parts) ops is =
    one_spelled (head_of part) at (comparisons at parts) (signs parts) ops (comparisons_spelled at parts) is

-- ---- an expression by its form

form_erased : (environment : Environment) (shape : Form) (number : ℕ) (at : Span) (parts : List Tree) (outcomes : List (Outcome TypedRose)) (trees : List PlainTree)
    → Agree outcomes trees → (typed : TypedRose) → expression_of environment shape number at parts outcomes ≡ Ok typed
    → erased typed ≡ bare_by_form environment shape number at parts trees
form_erased environment (form.Name name) number at parts outcomes trees all typed is =
    name_erased environment (form.Name name) (environment.meanings number) number at typed is
form_erased environment (form.Number n) number at parts outcomes trees all typed is = number_erased n number at typed is
form_erased environment form.True number at parts outcomes trees all typed is = true_erased number at typed is
form_erased environment form.False number at parts outcomes trees all typed is = false_erased number at typed is
form_erased environment form.Sizeof number at parts outcomes trees all typed is = size_erased (first_type parts) number at typed is
form_erased environment (form.Unary op) number at parts outcomes trees all typed is =
    let found = followed_ok (operands outcomes) (unary_of op number at) typed is in
    unary_erased op number at found.0 typed found.2 ∙ ap (written (form.Unary op) number at) (operands_shown outcomes trees found.0 all found.1)
form_erased environment form.Cast number at parts outcomes trees all typed is = cast_erased (first_type parts) number at outcomes trees typed all is
form_erased environment form.Chain number at parts outcomes trees all typed is =
    let found = followed_ok (operands outcomes) (chain_of environment.cdivision number at (operators parts)) typed is in
    chain_erased environment.cdivision number at (operators parts) found.0 typed found.2
    ∙ ap (λ (ts : List PlainTree). written form.Chain number at (behind_first link (operators parts) ts)) (operands_shown outcomes trees found.0 all found.1)
form_erased environment form.Compare number at parts outcomes trees all typed is =
    let compared_by = followed_ok (comparisons at (drop 1 parts)) (λ (ops : List CmpOp). followed (operands outcomes) (comparison_of number at ops)) typed is in
    let found = followed_ok (operands outcomes) (comparison_of number at compared_by.0) typed compared_by.2 in
    comparison_erased number at compared_by.0 found.0 typed found.2
    ∙ ap (λ (ops : List CompareOp). written form.Compare number at (behind_first comparison ops (operands_erased found.0))) (comparisons_spelled at (drop 1 parts) compared_by.0 compared_by.1)
    ∙ ap (λ (ts : List PlainTree). written form.Compare number at (behind_first comparison (signs (drop 1 parts)) ts)) (operands_shown outcomes trees found.0 all found.1)
form_erased environment form.Not number at parts outcomes trees all typed is = not_erased number at outcomes trees typed all is
form_erased environment form.And number at parts outcomes trees all typed is =
    let found = followed_ok (operands outcomes) (logic_of head.And number at) typed is in
    ands_erased number at found.0 typed found.2 ∙ ap (written form.And number at) (operands_shown outcomes trees found.0 all found.1)
form_erased environment form.Or number at parts outcomes trees all typed is =
    let found = followed_ok (operands outcomes) (logic_of head.Or number at) typed is in
    ors_erased number at found.0 typed found.2 ∙ ap (written form.Or number at) (operands_shown outcomes trees found.0 all found.1)
form_erased environment form.Conditional number at parts outcomes trees all typed is = conditional_erased number at outcomes trees typed all is
form_erased environment _ number at parts outcomes trees all typed is = absurd cc

-- ---- what a node gives as operands of what holds it

node_agrees : (environment : Environment) (shape : Form) (number : ℕ) (at : Span) (parts : Roses Form) (trees : List (List PlainTree)) → AllZip Agree (operands_each environment parts) trees
    → Agree (operands_by environment shape number at (listed parts) (operands_each environment parts)) (bare_operands environment shape number at (listed parts) trees)
node_agrees environment form.Row number at parts trees all =
    agree-if (is_range_row environment (listed parts))
    (flat (operands_each environment parts)) (row_of environment number at (listed parts) (operands_each environment parts) ∷ [])
    (flat trees) (bare_row environment number at (listed parts) trees ∷ [])
    (agree-flat (operands_each environment parts) trees all) (row_erased environment number at parts trees all, tt)
node_agrees environment (form.Name name) number at parts trees all =
    agree-if (is_value (environment.meanings number))
    (expression_of environment (form.Name name) number at [] [] ∷ []) [] (bare_by_form environment (form.Name name) number at [] [] ∷ []) []
    (form_erased environment (form.Name name) number at [] [] [] tt, tt) tt
node_agrees environment shape number at parts trees all =
    agree-if (is_between shape)
    (flat (operands_each environment parts)) (expression_of environment shape number at (listed parts) (flat (operands_each environment parts)) ∷ [])
    (flat trees) (bare_by_form environment shape number at (listed parts) (flat trees) ∷ [])
    (agree-flat (operands_each environment parts) trees all)
    (form_erased environment shape number at (listed parts) (flat (operands_each environment parts)) (flat trees) (agree-flat (operands_each environment parts) trees all), tt)

mutual
  unfolding operands_below bare_below

  pub below_agree : (environment : Environment) (tree : Tree) → Agree (operands_below environment tree) (bare_below environment tree)
  below_agree environment (rose shape number at parts) =
      node_agrees environment shape number at parts (bare_each environment parts) (each_agree environment parts)

  each_agree : (environment : Environment) (parts : Roses Form) → AllZip Agree (operands_each environment parts) (bare_each environment parts)
  each_agree environment none = tt
  each_agree environment (more part parts) = (below_agree environment part, each_agree environment parts)

pub expression_erased : (environment : Environment) (tree : Tree) (typed : TypedRose) → expression environment tree ≡ Ok typed → erased typed ≡ bare environment tree
expression_erased environment tree typed is =
    sym (ap (bare_alone tree) (only_shown (at_of tree) (operands_below environment tree) (bare_below environment tree) typed (below_agree environment tree) is))

-- A statement is what stands in the text, once it is erased.
use Rattle.std.proofs.Common.{◌≡◌, ℕ, zero, suc, List, [], ◌∷◌, ◌++◌, map, take, drop, length, refl, sym, ap, ◌∙◌, eq-eqb}
use Rattle.std.specs.Prelude.{Bool, true, false, ◌||◌, nat_eq, if◌then◌else◌, slice_get, Option, Some, None, Ok}
use Rattle.std.specs.List.{AllZip}
use Rattle.std.proofs.lemmas.List.{map-append}
use Rattle.px_base.specs.declared.refusals.Span.{Span}
use Rattle.px_base.specs.declared.c_types.BinOp.{BinOp}
use Rattle.px_base.specs.declared.c_types.CType.TheVariants as c
use Rattle.px_base.specs.declared.objects.Builtin.TheVariants as builtin
use Rattle.px_tree.specs.declared.typed_values.ValueType.{ValueType}
use Rattle.px_tree.specs.declared.typed_values.ValueType.TheVariants as value
use Rattle.px_tree.specs.declared.typed_heads.TypedHead.{TypedHead}
use Rattle.px_tree.specs.declared.typed_heads.TypedHead.TheVariants as head
use Rattle.px_walk.specs.Forms.{Form}
use Rattle.px_walk.specs.Forms as form
use Rattle.px_walk.specs.Roses.{Roses, rose, none, more, listed, head_of, number_of, at_of, parts_of}
use Rattle.px_walk.specs.ExprView.{Tree}
use Rattle.px_typed_walk.specs.TypedView.{TypedRose, typed_node, type_of}
use Rattle.px_operators.specs.Outcomes.{Outcome, unbuilt, followed, mapped, both, all_of, flat}
use Rattle.px_operators.specs.Conversions.{fitted, tested, valued}
use Rattle.px_operators.specs.Operators.{Operand, operand, operands, given, binary_step}
use Rattle.px_environments.specs.declared.signatures.Variable.{Variable}
use Rattle.px_environments.specs.Environments.{Environment}
use Rattle.px_environments.specs.Atoms.{is_range_head}
use Rattle.px_environments.specs.WrittenTypes.{first_type}
use Rattle.px_typed_expressions.specs.Expressions.{expression, expression_at, operands_below}
use Rattle.px_types.specs.Statements.{made, fitted_to, assigned, value_given, assigned_given, assigned_each, assignment, assign_of, augmented, augment_of, declared_by, declarator, declarators_of, declaration, declare_of, returned_as, returned, return_in, guarded, trees_of, range_arguments, range_parts, range_loop, for_of, in_loop, statement_by, is_loop, statement, statements}
use Rattle.px_type_laws.specs.PlainForms.{PlainForm, PlainTree, plain_node, written, link, call_row}
use Rattle.px_type_laws.specs.PlainForms as plain
use Rattle.px_type_laws.specs.Erased.{erased, target_of, targets_and_value, count_of_targets, number_of_operator, other_operand}
use Rattle.px_type_laws.specs.BareExpressions.{bare, bare_below}
use Rattle.px_type_laws.specs.BareStatements.{bare_part, variable_declared, bare_declarator, bare_declaration, bare_declare, bare_for, bare_statement_by, bare_statement, bare_statements}
use Rattle.px_type_laws.proofs.OutcomeParts.{ok_same, followed_ok, mapped_ok, both_ok, first_ok, refused_never}
use Rattle.px_type_laws.proofs.Agreements.{Shows, Agrees, Agree, all_shown, map-flat}
use Rattle.px_type_laws.proofs.ErasedNodes.{node_erased, fitted_erased, fitted_shown, valued_shown, operand_erased, operands_erased, operand_shown, operands_shown, hand}
use Rattle.px_type_laws.proofs.ErasedOperators.{binary_next}
use Rattle.px_type_laws.proofs.ErasedExpressions.{below_agree, expression_erased}

-- ---- expressions that are parts of statements

part_agrees : (environment : Environment) (at : Span) (part : Option Tree) (typed : TypedRose) → expression_at environment at part ≡ Ok typed
    → bare_part environment part ≡ erased typed ∷ []
part_agrees environment at None typed is = absurd cc
part_agrees environment at (Some tree) typed is = ap (λ t. t ∷ []) (sym (expression_erased environment tree typed is))

expressions_agree : (environment : Environment) (parts : List Tree) → Agree (map (expression environment) parts) (map (bare environment) parts)
expressions_agree environment [] = tt
expressions_agree environment (part ∷ parts) = (expression_erased environment part, expressions_agree environment parts)

-- ---- assignments

assigned_erased : (number : ℕ) (at : Span) (pair : TypedRose × TypedRose) (typed : TypedRose) → assigned number at pair ≡ Ok typed
    → erased typed ≡ written (form.Assign 1) number at (erased pair.0 ∷ erased pair.1 ∷ [])
assigned_erased number at pair typed is =
    let target = pair.0 in
    let found = mapped_ok (λ (trees : List TypedRose). typed_node head.Assign number at trees) (fitted_to pair) typed is in
    let fit = mapped_ok (λ (t : TypedRose). pair.0 ∷ t ∷ []) (fitted (type_of pair.0) pair.1) found.0 found.1 in
    ap erased (sym found.2)
    ∙ ap (λ (trees : List TypedRose). erased (typed_node head.Assign number at trees)) (sym fit.2)
    ∙ node_erased head.Assign number at (pair.0 ∷ fit.0 ∷ [])
    ∙ ap (λ (t : PlainTree). written (form.Assign 1) number at (erased pair.0 ∷ t ∷ [])) (fitted_erased (type_of pair.0) pair.1 fit.0 fit.1)

step_taken : (step : PlainTree) (trees : List PlainTree) (v : PlainTree)
    → targets_and_value (step ∷ (trees ++ v ∷ [])) ≡ target_of step (head_of step) (parts_of step) ∷ targets_and_value (trees ++ v ∷ [])
step_taken step [] v = refl
step_taken step (t ∷ trees) v = refl

targets_taken : (tree : TypedRose) (targets : List TypedRose) (steps : List TypedRose) (v : PlainTree) → all_of (map (assigned_given tree) targets) ≡ Ok steps
    → targets_and_value (map erased steps ++ v ∷ []) ≡ map erased targets ++ v ∷ []
targets_taken tree [] steps v is = ap (λ (xs : List TypedRose). targets_and_value (map erased xs ++ v ∷ [])) (sym (ok_same [] steps is))
targets_taken tree (target ∷ targets) steps v is =
    let found = first_ok (assigned_given tree target) (all_of (map (assigned_given tree) targets)) steps is in
    let given_value = value_given (type_of tree) (at_of tree) target in
    let step = assigned_erased (number_of target) (at_of target) (target, given_value) found.0 found.2
    ∙ ap (λ (h : PlainTree). written (form.Assign 1) (number_of target) (at_of target) (erased target ∷ h ∷ [])) (node_erased (head.Given (type_of tree)) (number_of target) (at_of tree) []) in
    ap (λ (xs : List TypedRose). targets_and_value (map erased xs ++ v ∷ [])) found.4
    ∙ step_taken (erased found.0) (map erased found.1) v
    ∙ ap (λ (s : PlainTree). target_of s (head_of s) (parts_of s) ∷ targets_and_value (map erased found.1 ++ v ∷ [])) step
    ∙ ap (λ (rest : List PlainTree). erased target ∷ rest) (targets_taken tree targets found.1 v found.3)

counted : (trees : List PlainTree) (v : PlainTree) → count_of_targets (trees ++ v ∷ []) ≡ length trees
counted [] v = refl
counted (t ∷ []) v = refl
counted (t ∷ next ∷ trees) v = ap suc (counted (next ∷ trees) v)

steps_counted : (tree : TypedRose) (targets steps : List TypedRose) → all_of (map (assigned_given tree) targets) ≡ Ok steps → length (map erased steps) ≡ length (map erased targets)
steps_counted tree [] steps is = ap (λ (xs : List TypedRose). length (map erased xs)) (sym (ok_same [] steps is))
steps_counted tree (target ∷ targets) steps is =
    let found = first_ok (assigned_given tree target) (all_of (map (assigned_given tree) targets)) steps is in
    ap (λ (xs : List TypedRose). length (map erased xs)) found.4 ∙ ap suc (steps_counted tree targets found.1 found.3)

each_assigned : (number : ℕ) (at : Span) (pair : List TypedRose × TypedRose) (typed : TypedRose) → assigned_each number at pair ≡ Ok typed
    → erased typed ≡ written (form.Assign (length (map erased pair.0))) number at (map erased pair.0 ++ erased pair.1 ∷ [])
each_assigned number at pair typed is =
    let found = mapped_ok (λ (steps : List TypedRose). typed_node head.AssignEach number at (steps ++ pair.1 ∷ [])) (all_of (map (assigned_given pair.1) pair.0)) typed is in
    let all = map-append erased found.0 (pair.1 ∷ []) in
    ap erased (sym found.2)
    ∙ node_erased head.AssignEach number at (found.0 ++ pair.1 ∷ [])
    ∙ ap (λ (ps : List PlainTree). written (form.Assign (count_of_targets ps)) number at (targets_and_value ps)) all
    ∙ ap (λ (n : ℕ). written (form.Assign n) number at (targets_and_value (map erased found.0 ++ erased pair.1 ∷ []))) (counted (map erased found.0) (erased pair.1) ∙ steps_counted pair.1 pair.0 found.0 found.1)
    ∙ ap (written (form.Assign (length (map erased pair.0))) number at) (targets_taken pair.1 pair.0 found.0 (erased pair.1) found.1)

value_part : (o : Outcome TypedRose) (trees : List PlainTree) → ((typed : TypedRose) → o ≡ Ok typed → trees ≡ erased typed ∷ []) → (typed : TypedRose) → followed o valued ≡ Ok typed → trees ≡ erased typed ∷ []
value_part o trees shows typed is =
    let found = followed_ok o valued typed is in
    shows found.0 found.1 ∙ ap (λ t. t ∷ []) (sym (valued_shown (Ok found.0) (erased found.0) (λ t same. ap erased (sym (ok_same found.0 t same))) typed found.2))

assignment_erased : (number : ℕ) (at : Span) (targets : List (Outcome TypedRose)) (trees : List PlainTree) (o : Outcome TypedRose) (parts : List PlainTree)
    → Agree targets trees → ((typed : TypedRose) → o ≡ Ok typed → parts ≡ erased typed ∷ []) → (typed : TypedRose) → assignment number at targets o ≡ Ok typed
    → erased typed ≡ written (form.Assign (length trees)) number at (trees ++ parts)
assignment_erased number at [] [] o parts all shows typed is =
    let found = mapped_ok (λ (t : TypedRose). typed_node head.Expression number at (t ∷ [])) o typed is in
    ap erased (sym found.2) ∙ node_erased head.Expression number at (found.0 ∷ []) ∙ ap (written (form.Assign 0) number at) (sym (shows found.0 found.1))
assignment_erased number at [] (tree ∷ trees) o parts all shows typed is = absurd all
assignment_erased number at (target ∷ targets) [] o parts all shows typed is = absurd all
assignment_erased number at (target ∷ []) (tree ∷ []) o parts all shows typed is =
    let found = followed_ok (both target (followed o valued)) (assigned number at) typed is in
    let joined = both_ok target (followed o valued) found.0 found.1 in
    assigned_erased number at found.0 typed found.2
    ∙ ap (λ (t : PlainTree). written (form.Assign 1) number at (t ∷ erased found.0.1 ∷ [])) (all.0 found.0.0 joined.0)
    ∙ ap (λ (ps : List PlainTree). written (form.Assign 1) number at (tree ∷ ps)) (sym (value_part o parts shows found.0.1 joined.1))
assignment_erased number at (target ∷ []) (tree ∷ other ∷ trees) o parts all shows typed is = absurd all.1
assignment_erased number at (target ∷ next ∷ targets) trees o parts all shows typed is =
    let found = followed_ok (both (all_of (target ∷ next ∷ targets)) (followed o valued)) (assigned_each number at) typed is in
    let joined = both_ok (all_of (target ∷ next ∷ targets)) (followed o valued) found.0 found.1 in
    each_assigned number at found.0 typed found.2
    ∙ ap (λ (ts : List PlainTree). written (form.Assign (length ts)) number at (ts ++ erased found.0.1 ∷ [])) (all_shown erased (target ∷ next ∷ targets) trees found.0.0 all joined.0)
    ∙ ap (λ (ps : List PlainTree). written (form.Assign (length trees)) number at (trees ++ ps)) (sym (value_part o parts shows found.0.1 joined.1))

-- as many targets as the form says, where there is a value behind them
targets_length : (environment : Environment) (at : Span) (k : ℕ) (parts : List Tree) (typed : TypedRose) → expression_at environment at (slice_get parts k) ≡ Ok typed
    → length (map (bare environment) (take k parts)) ≡ k
targets_length environment at zero parts typed is = refl
targets_length environment at (suc k) [] typed is = absurd cc
targets_length environment at (suc k) (part ∷ parts) typed is = ap suc (targets_length environment at k parts typed is)

value_there : (number : ℕ) (at : Span) (targets : List (Outcome TypedRose)) (o : Outcome TypedRose) (typed : TypedRose) → assignment number at targets o ≡ Ok typed
    → (v : TypedRose) × (o ≡ Ok v)
value_there number at [] o typed is =
    let found = mapped_ok (λ (t : TypedRose). typed_node head.Expression number at (t ∷ [])) o typed is in (found.0, found.1)
value_there number at (target ∷ []) o typed is =
    let found = followed_ok (both target (followed o valued)) (assigned number at) typed is in
    let joined = both_ok target (followed o valued) found.0 found.1 in
    let v = followed_ok o valued found.0.1 joined.1 in (v.0, v.1)
value_there number at (target ∷ next ∷ targets) o typed is =
    let found = followed_ok (both (all_of (target ∷ next ∷ targets)) (followed o valued)) (assigned_each number at) typed is in
    let joined = both_ok (all_of (target ∷ next ∷ targets)) (followed o valued) found.0 found.1 in
    let v = followed_ok o valued found.0.1 joined.1 in (v.0, v.1)

assign_erased : (environment : Environment) (number : ℕ) (at : Span) (k : ℕ) (parts : List Tree) (typed : TypedRose) → assign_of environment number at k parts ≡ Ok typed
    → erased typed ≡ written (form.Assign k) number at (map (bare environment) (take k parts) ++ bare_part environment (slice_get parts k))
assign_erased environment number at k parts typed is =
    let trees = map (bare environment) (take k parts) in
    let behind = bare_part environment (slice_get parts k) in
    let outcome = expression_at environment at (slice_get parts k) in
    let there = value_there number at (map (expression environment) (take k parts)) outcome typed is in
    assignment_erased number at (map (expression environment) (take k parts)) trees outcome behind
    (expressions_agree environment (take k parts)) (part_agrees environment at (slice_get parts k)) typed is
    ∙ ap (λ (n : ℕ). written (form.Assign n) number at (trees ++ behind)) (targets_length environment at k parts there.0 there.1)

-- ---- `target op= value`

itself : (op : BinOp) → nat_eq (number_of_operator op) (number_of_operator op) ≡ true
itself op = eq-eqb (number_of_operator op) (number_of_operator op) refl

other_found : (op : BinOp) (number : ℕ) (at : Span) (n : ℕ) (place : Span) (operand_tree : PlainTree)
    → other_operand op (written form.Chain number at (hand n place ∷ link op operand_tree ∷ [])) (hand n place ∷ link op operand_tree ∷ []) ≡ operand_tree ∷ []
other_found op number at n place operand_tree =
    ap (λ (test : Bool). if test then operand_tree ∷ [] else written form.Chain number at (hand n place ∷ link op operand_tree ∷ []) ∷ []) (itself op)

operand_part : (o : Outcome TypedRose) (trees : List PlainTree) → ((typed : TypedRose) → o ≡ Ok typed → trees ≡ erased typed ∷ []) → (x : Operand) → followed o operand ≡ Ok x → trees ≡ operand_erased x ∷ []
operand_part o trees shows x is =
    let found = followed_ok o operand x is in
    shows found.0 found.1 ∙ ap (λ t. t ∷ []) (sym (operand_shown (Ok found.0) (erased found.0) (λ t same. ap erased (sym (ok_same found.0 t same))) x found.2))

augmented_erased : (cdivision : Bool) (number : ℕ) (at : Span) (op : BinOp) (pair : Operand × Operand) (typed : TypedRose) → augmented cdivision number at op pair ≡ Ok typed
    → erased typed ≡ written (form.Augment op) number at (operand_erased pair.0 ∷ operand_erased pair.1 ∷ [])
augmented_erased cdivision number at op pair typed is =
    let target : TypedRose = pair.0.0 in
    let place = at_of target in
    let right : Operand = pair.1 in
    let step = binary_step cdivision number at op (given number place pair.0.1) right in
    let found = mapped_ok (λ (trees : List TypedRose). typed_node (head.Augment op) number at trees) (fitted_to (target, step)) typed is in
    let fit = mapped_ok (λ (t : TypedRose). target ∷ t ∷ []) (fitted (type_of target) step) found.0 found.1 in
    ap erased (sym found.2)
    ∙ ap (λ (trees : List TypedRose). erased (typed_node (head.Augment op) number at trees)) (sym fit.2)
    ∙ node_erased (head.Augment op) number at (target ∷ fit.0 ∷ [])
    ∙ ap (λ (t : PlainTree). written (form.Augment op) number at (erased target ∷ other_operand op t (parts_of t)))
    (fitted_erased (type_of target) step fit.0 fit.1 ∙ binary_next cdivision number at place op pair.0.1 right)
    ∙ ap (λ (ps : List PlainTree). written (form.Augment op) number at (erased target ∷ ps)) (other_found op number at number place (operand_erased right))

augment_erased : (environment : Environment) (number : ℕ) (at : Span) (op : BinOp) (parts : List Tree) (typed : TypedRose) → augment_of environment number at op parts ≡ Ok typed
    → erased typed ≡ written (form.Augment op) number at (bare_part environment (slice_get parts 0) ++ bare_part environment (slice_get parts 1))
augment_erased environment number at op parts typed is =
    let first = expression_at environment at (slice_get parts 0) in
    let second = expression_at environment at (slice_get parts 1) in
    let found = followed_ok (both (followed first operand) (followed second operand)) (augmented environment.cdivision number at op) typed is in
    let joined = both_ok (followed first operand) (followed second operand) found.0 found.1 in
    augmented_erased environment.cdivision number at op found.0 typed found.2
    ∙ sym (ap (λ (ts : List PlainTree). written (form.Augment op) number at (ts ++ bare_part environment (slice_get parts 1)))
    (operand_part first (bare_part environment (slice_get parts 0)) (part_agrees environment at (slice_get parts 0)) found.0.0 joined.0)
    ∙ ap (λ (ts : List PlainTree). written (form.Augment op) number at (operand_erased found.0.0 ∷ ts))
    (operand_part second (bare_part environment (slice_get parts 1)) (part_agrees environment at (slice_get parts 1)) found.0.1 joined.1))

-- ---- declarations

declared_erased : (environment : Environment) (shape : Form) (variable : Option Variable) (number : ℕ) (at : Span) (parts : List Tree) (typed : TypedRose)
    → declared_by environment variable number at parts ≡ Ok typed
    → erased typed ≡ plain_node (variable_declared shape variable) number at (bare_part environment (slice_get parts 0))
declared_erased environment shape None number at parts typed is = absurd cc
declared_erased environment shape (Some v) number at [] typed is =
    ap erased (sym (ok_same (typed_node (head.Declarator v.slot v.value_type) number at []) typed is)) ∙ node_erased (head.Declarator v.slot v.value_type) number at []
declared_erased environment shape (Some v) number at (part ∷ parts) typed is =
    let found = mapped_ok (λ (fit : TypedRose). typed_node (head.Declarator v.slot v.value_type) number at (fit ∷ [])) (followed (expression environment part) (fitted v.value_type)) typed is in
    ap erased (sym found.2)
    ∙ node_erased (head.Declarator v.slot v.value_type) number at (found.0 ∷ [])
    ∙ ap (λ (t : PlainTree). plain_node (plain.Declared v.slot v.value_type) number at (t ∷ []))
    (fitted_shown v.value_type (expression environment part) (bare environment part) (expression_erased environment part) found.0 found.1)

declarators_agree : (environment : Environment) (names : List Tree) → AllZip (Shows erased) (map (declarator environment) names) (map (bare_declarator environment) names)
declarators_agree environment [] = tt
declarators_agree environment (tree ∷ names) =
    (declared_erased environment (head_of tree) (environment.variables (number_of tree)) (number_of tree) (at_of tree) (parts_of tree), declarators_agree environment names)

declaration_erased : (environment : Environment) (at : Span) (t : Option ValueType) (names : List Tree) (xs : List TypedRose) → declarators_of environment at t names ≡ Ok xs
    → map erased xs ≡ map (bare_declarator environment) names
declaration_erased environment at None names xs is = absurd cc
declaration_erased environment at (Some t) names xs is =
    all_shown erased (map (declarator environment) names) (map (bare_declarator environment) names) xs (declarators_agree environment names) is

declarations_agree : (environment : Environment) (trees : List Tree) → AllZip (Shows (map erased)) (map (declaration environment) trees) (map (bare_declaration environment) trees)
declarations_agree environment [] = tt
declarations_agree environment (tree ∷ trees) =
    (declaration_erased environment (at_of tree) (first_type (parts_of tree)) (drop 1 (parts_of tree)), declarations_agree environment trees)

declare_erased : (environment : Environment) (number : ℕ) (at : Span) (trees : List Tree) (typed : TypedRose) → declare_of environment number at trees ≡ Ok typed
    → erased typed ≡ bare_declare environment number at trees
declare_erased environment number at trees typed is =
    let found = mapped_ok (λ (ts : List TypedRose). typed_node head.Declare number at ts) (mapped flat (all_of (map (declaration environment) trees))) typed is in
    let lists = mapped_ok flat (all_of (map (declaration environment) trees)) found.0 found.1 in
    ap erased (sym found.2)
    ∙ node_erased head.Declare number at found.0
    ∙ ap (written form.Declare number at)
    (ap (map erased) (sym lists.2) ∙ map-flat erased lists.0
    ∙ ap flat (all_shown (map erased) (map (declaration environment) trees) (map (bare_declaration environment) trees) lists.0 (declarations_agree environment trees) lists.1))

-- ---- `return`

returned_by : (environment : Environment) (t : ValueType) (tree : Tree) (at : Span) → Agrees (returned_as t at (expression environment tree)) (bare environment tree)
returned_by environment (value.C t) tree at typed is = fitted_shown (value.C t) (expression environment tree) (bare environment tree) (expression_erased environment tree) typed is
returned_by environment value.Object tree at typed is = fitted_shown value.Object (expression environment tree) (bare environment tree) (expression_erased environment tree) typed is
returned_by environment (value.View t) tree at typed is = fitted_shown (value.View t) (expression environment tree) (bare environment tree) (expression_erased environment tree) typed is
returned_by environment value.Void tree at typed is = absurd (refused_never at (expression environment tree) typed is)

returned_each : (environment : Environment) (t : ValueType) (parts : List Tree) → Agree (map (returned environment t) parts) (map (bare environment) parts)
returned_each environment t [] = tt
returned_each environment t (part ∷ parts) = (returned_by environment t part (at_of part), returned_each environment t parts)

-- a node whose parts are those of all of some outcomes
made_erased : (make : TypedHead) (number : ℕ) (at : Span) (outcomes : List (Outcome TypedRose)) (trees : List PlainTree) (typed : TypedRose) → Agree outcomes trees
    → made make number at (all_of outcomes) ≡ Ok typed → (parts : List TypedRose) × (erased typed ≡ erased (typed_node make number at parts)) × (map erased parts ≡ trees)
made_erased make number at outcomes trees typed all is =
    let found = mapped_ok (λ (ts : List TypedRose). typed_node make number at ts) (all_of outcomes) typed is in
    (found.0, ap erased (sym found.2), all_shown erased outcomes trees found.0 all found.1)

return_erased : (environment : Environment) (t : Option ValueType) (number : ℕ) (at : Span) (parts : List Tree) (typed : TypedRose) → return_in environment t number at parts ≡ Ok typed
    → erased typed ≡ written form.Return number at (map (bare environment) parts)
return_erased environment None number at parts typed is =
    absurd (refused_never at (made head.Return number at (all_of (map (expression environment) parts))) typed is)
return_erased environment (Some t) number at parts typed is =
    let found = made_erased head.Return number at (map (returned environment t) parts) (map (bare environment) parts) typed (returned_each environment t parts) is in
    found.1 ∙ node_erased head.Return number at found.0 ∙ ap (written form.Return number at) found.2

-- ---- blocks

agree-drop : (k : ℕ) (outcomes : List (Outcome TypedRose)) (trees : List PlainTree) → Agree outcomes trees → Agree (drop k outcomes) (drop k trees)
agree-drop zero outcomes trees all = all
agree-drop (suc k) [] [] all = tt
agree-drop (suc k) [] (tree ∷ trees) all = absurd all
agree-drop (suc k) (o ∷ outcomes) [] all = absurd all
agree-drop (suc k) (o ∷ outcomes) (tree ∷ trees) all = agree-drop k outcomes trees all.1

-- a test and its block
guarded_parts : (environment : Environment) (make : TypedHead) (number : ℕ) (at : Span) (part : Option Tree) (block : List (Outcome TypedRose)) (trees : List PlainTree) (typed : TypedRose) → Agree block trees
    → guarded make number at (expression_at environment at part) block ≡ Ok typed
    → (parts : List TypedRose) × (erased typed ≡ erased (typed_node make number at parts)) × (map erased parts ≡ bare_part environment part ++ trees)
guarded_parts environment make number at None block trees typed all is =
    let found = mapped_ok (λ (ts : List TypedRose). typed_node make number at ts) (all_of (followed (expression_at environment at None) tested ∷ block)) typed is in
    let first = first_ok (followed (expression_at environment at None) tested) (all_of block) found.0 found.1 in
    absurd (never at first.0 first.2)
  where
    never : (place : Span) (t : TypedRose) → followed (unbuilt {A = TypedRose} place) tested ≡ Ok t → ⊥
    never place t same = cc
guarded_parts environment make number at (Some tree) block trees typed all is =
    made_erased make number at (followed (expression environment tree) tested ∷ block) (bare environment tree ∷ trees) typed
    (fitted_shown (value.C c.Bint) (expression environment tree) (bare environment tree) (expression_erased environment tree), all) is

-- ---- loops over `range`

take_whole : (xs ys : List TypedRose) → take (length xs) (map erased (xs ++ ys)) ≡ map erased xs
take_whole [] ys = refl
take_whole (x ∷ xs) ys = ap (λ rest. erased x ∷ rest) (take_whole xs ys)

drop_whole : (xs ys : List TypedRose) → drop (length xs) (map erased (xs ++ ys)) ≡ map erased ys
drop_whole [] ys = refl
drop_whole (x ∷ xs) ys = drop_whole xs ys

trees_erased : (os : List Operand) → map erased (map trees_of os) ≡ operands_erased os
trees_erased [] = refl
trees_erased (o ∷ os) = ap (λ rest. erased o.0 ∷ rest) (trees_erased os)

range_erased : (number : ℕ) (at : Span) (target : Outcome TypedRose) (arguments block : List (Outcome TypedRose)) (tree : PlainTree) (trees others : List PlainTree) (typed : TypedRose)
    → Agrees target tree → Agree arguments trees → Agree block others → range_loop number at target arguments block ≡ Ok typed
    → erased typed ≡ written form.For number at (tree ∷ call_row (plain.BuiltinName builtin.Range) 0 at trees ∷ others)
range_erased number at target arguments block tree trees others typed first second third is =
    let name = plain.BuiltinName builtin.Range in
    let target_there = mapped trees_of (followed target operand) in
    let found = mapped_ok (range_parts number at) (both (both target_there (range_arguments arguments)) (all_of block)) typed is in
    let outer = both_ok (both target_there (range_arguments arguments)) (all_of block) found.0 found.1 in
    let inner = both_ok target_there (range_arguments arguments) found.0.0 outer.0 in
    let t = mapped_ok trees_of (followed target operand) found.0.0.0 inner.0 in
    let os = mapped_ok (map trees_of) (operands arguments) found.0.0.1 inner.1 in
    let head_tree : TypedRose = found.0.0.0 in
    let values : List TypedRose = found.0.0.1 in
    let rest : List TypedRose = found.0.1 in
    ap erased (sym found.2)
    ∙ node_erased (head.Range (length values)) number at (head_tree ∷ values ++ rest)
    ∙ ap (λ (ts : List PlainTree). written form.For number at (erased head_tree ∷ call_row name 0 at ts ∷ drop (length values) (map erased (values ++ rest)))) (take_whole values rest)
    ∙ ap (λ (ts : List PlainTree). written form.For number at (erased head_tree ∷ call_row name 0 at (map erased values) ∷ ts)) (drop_whole values rest ∙ all_shown erased block others rest third outer.1)
    ∙ ap (λ (ts : List PlainTree). written form.For number at (erased head_tree ∷ call_row name 0 at ts ∷ others)) (ap (map erased) (sym os.2) ∙ trees_erased os.0 ∙ operands_shown arguments trees os.0 second os.1)
    ∙ ap (λ (x : PlainTree). written form.For number at (x ∷ call_row name 0 at trees ∷ others)) (ap erased (sym t.2) ∙ operand_shown target tree first t.0 t.1)

over_erased : (is_range : Bool) (environment : Environment) (number : ℕ) (at : Span) (target tree : Tree) (block : List (Outcome TypedRose)) (others : List PlainTree) (typed : TypedRose) → Agree block others
    → (if is_range then range_loop number at (expression environment target) (operands_below environment tree) block else unbuilt at) ≡ Ok typed
    → erased typed ≡ written form.For number at
    (bare environment target ∷ (if is_range then call_row (plain.BuiltinName builtin.Range) 0 at (bare_below environment tree) else bare environment tree) ∷ others)
over_erased true environment number at target tree block others typed all is =
    range_erased number at (expression environment target) (operands_below environment tree) block (bare environment target) (bare_below environment tree) others typed
    (expression_erased environment target) (below_agree environment tree) all is
over_erased false environment number at target tree block others typed all is = absurd cc

for_erased : (environment : Environment) (number : ℕ) (at : Span) (parts : List Tree) (block : List (Outcome TypedRose)) (trees : List PlainTree) (typed : TypedRose) → Agree block trees
    → for_of environment number at parts block ≡ Ok typed → erased typed ≡ bare_for environment number at parts trees
for_erased environment number at [] block trees typed all is = absurd cc
for_erased environment number at (target ∷ []) block trees typed all is = absurd cc
for_erased environment number at (target ∷ tree ∷ parts) block trees typed all is =
    over_erased (is_range_head environment tree (head_of tree)) environment number at target tree block trees typed all is

-- ---- a statement by its form

leaf_erased : (make : TypedHead) (number : ℕ) (at : Span) (typed : TypedRose) → ◌≡◌ {A = Outcome TypedRose} (Ok (typed_node make number at [])) (Ok typed) → erased typed ≡ erased (typed_node make number at [])
leaf_erased make number at typed is = ap erased (sym (ok_same (typed_node make number at []) typed is))

loop_leaf : (looped : Bool) (make : TypedHead) (number : ℕ) (at : Span) (typed : TypedRose) → in_loop looped make number at ≡ Ok typed → erased typed ≡ erased (typed_node make number at [])
loop_leaf true make number at typed is = leaf_erased make number at typed is
loop_leaf false make number at typed is = absurd cc

by_form : (environment : Environment) (looped : Bool) (shape : Form) (number : ℕ) (at : Span) (parts : List Tree) (block : List (Outcome TypedRose)) (trees : List PlainTree) → Agree block trees
    → Agrees (statement_by environment looped shape number at parts block) (bare_statement_by environment shape number at parts trees)
by_form environment looped (form.Assign targets) number at parts block trees all typed is = assign_erased environment number at targets parts typed is
by_form environment looped (form.Augment op) number at parts block trees all typed is = augment_erased environment number at op parts typed is
by_form environment looped form.Pass number at parts block trees all typed is = leaf_erased head.Pass number at typed is ∙ node_erased head.Pass number at []
by_form environment looped form.Break number at parts block trees all typed is = loop_leaf looped head.Break number at typed is ∙ node_erased head.Break number at []
by_form environment looped form.Continue number at parts block trees all typed is = loop_leaf looped head.Continue number at typed is ∙ node_erased head.Continue number at []
by_form environment looped form.Return number at parts block trees all typed is = return_erased environment environment.gives number at parts typed is
by_form environment looped (form.Global names) number at parts block trees all typed is = leaf_erased head.Global number at typed is ∙ node_erased head.Global number at []
by_form environment looped (form.If arms has_else) number at parts block trees all typed is =
    let found = made_erased (head.If arms has_else) number at block trees typed all is in
    found.1 ∙ node_erased (head.If arms has_else) number at found.0 ∙ ap (written (form.If arms has_else) number at) found.2
by_form environment looped form.Arm number at parts block trees all typed is =
    let found = guarded_parts environment head.Arm number at (slice_get parts 0) (drop 1 block) (drop 1 trees) typed (agree-drop 1 block trees all) is in
    found.1 ∙ node_erased head.Arm number at found.0 ∙ ap (written form.Arm number at) found.2
by_form environment looped form.While number at parts block trees all typed is =
    let found = guarded_parts environment head.While number at (slice_get parts 0) (drop 1 block) (drop 1 trees) typed (agree-drop 1 block trees all) is in
    found.1 ∙ node_erased head.While number at found.0 ∙ ap (written form.While number at) found.2
by_form environment looped form.For number at parts block trees all typed is =
    for_erased environment number at parts (drop 2 block) (drop 2 trees) typed (agree-drop 2 block trees all) is
by_form environment looped form.Declare number at parts block trees all typed is = declare_erased environment number at parts typed is
by_form environment looped form.DeclareGroup number at parts block trees all typed is = declare_erased environment number at parts typed is
by_form environment looped _ number at parts block trees all typed is = absurd cc

mutual
  unfolding statement bare_statement

  pub statement_erased : (environment : Environment) (looped : Bool) (tree : Tree) → Agrees (statement environment looped tree) (bare_statement environment tree)
  statement_erased environment looped (rose shape number at parts) =
      by_form environment looped shape number at (listed parts) (statements environment (looped || is_loop shape) parts) (bare_statements environment parts)
      (statements_erased environment (looped || is_loop shape) parts)

  statements_erased : (environment : Environment) (looped : Bool) (parts : Roses Form) → Agree (statements environment looped parts) (bare_statements environment parts)
  statements_erased environment looped none = tt
  statements_erased environment looped (more part parts) = (statement_erased environment looped part, statements_erased environment looped parts)

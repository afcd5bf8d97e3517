-- A statement by its form, and what is gathered of its blocks.
use Rattle.std.proofs.Common.{◌≡◌, ℕ, ◌+◌, List, [], ◌∷◌, ◌++◌, zero, suc, length, drop, take, map, Bool, true, false, ◌||◌, Option, Some, None, refl, sym, ap, subst, ◌∙◌, append_assoc, arith, ◌≤◌}
use Rattle.std.specs.Option.{is_some}
use Rattle.std.specs.Prelude.{Result, Ok, Err, if◌then◌else◌, slice_get}
use Rattle.std.proofs.lemmas.List.{drop_all, length-map}
use Rattle.px_base.specs.declared.refusals.Refusal.{Refusal}
use Rattle.px_base.specs.declared.refusals.Span.{Span}
use Rattle.px_base.specs.declared.refusals.Trouble.{Trouble}
use Rattle.px_base.specs.declared.refusals.Trouble.TheVariants.{Refused, NoMemory}
use Rattle.px_base.specs.Findings.{comes_first, first_of}
use Rattle.px_base.proofs.FirstFindings.{first_of-associative}
use Rattle.px_tree.specs.declared.typed_values.ValueType.{ValueType}
use Rattle.px_tree.specs.declared.typed_trees.TypedTree.{TypedTree}
use Rattle.px_tree.specs.declared.typed_heads.TypedHead.TheVariants as head
use Rattle.px_walk.specs.Forms.{Form}
use Rattle.px_walk.specs.Roses.{Roses, rose, none, more, listed, head_of, number_of, at_of, parts_of}
use Rattle.px_walk.specs.ExprView.{Tree}
use Rattle.px_typed_walk.specs.TypedView.{TypedRose, rose_of_typed, typed_node}
use Rattle.px_operators.specs.Outcomes.{Outcome, Gives, unbuilt, earlier, followed, mapped, both, all_of, flat}
use Rattle.px_operators.specs.Conversions.{valued}
use Rattle.px_operators.specs.Kept.{trees_kept, with_one, gathers, Takes}
use Rattle.px_operators.specs.OperatorsKept.{only_answer}
use Rattle.px_operators.proofs.AllParts.{gathers_with, gathers_all, taken}
use Rattle.px_environments.specs.Environments.{Environment}
use Rattle.px_environments.specs.Atoms.{is_range_head}
use Rattle.px_typed_expressions.specs.Expressions.{expression, expression_at, operands_below}
use Rattle.px_types.specs.Statements.{assigned, assigned_each, assignment, assign_of, declarator, declarators_of, range_parts, range_loop, for_over, for_of, is_loop, statement_by, statement, statements}
use Rattle.px_types.specs.StatementsKept.{with_all, block_from, assigned_to}
use Rattle.px_types.proofs.StatementLoops.{drop_map, drop_one, drop_whole}

-- ---- a statement by its form

statements_map : (environment : Environment) (looped : Bool) (parts : Roses Form) → statements environment looped parts ≡ map (statement environment looped) (listed parts)
unfolding statements
statements_map environment looped none = refl
statements_map environment looped (more part parts) = ap (λ rest. statement environment looped part ∷ rest) (statements_map environment looped parts)

-- what the parts of a node come to
abbrev pub block_of : Environment → Bool → Form → Tree → List (Outcome TypedRose)
block_of environment looped shape tree = map (statement environment (looped || is_loop shape)) (parts_of tree)

statement_is : (environment : Environment) (looped : Bool) (tree : Tree)
    → statement environment looped tree ≡ statement_by environment looped (head_of tree) (number_of tree) (at_of tree) (parts_of tree) (block_of environment looped (head_of tree) tree)
unfolding statement
statement_is environment looped (rose head number at parts) =
    ap (statement_by environment looped head number at (listed parts)) (statements_map environment (looped || is_loop head) parts)

pub by_form : (environment : Environment) (looped : Bool) (tree : Tree) (shape : Form) (result : Result TypedTree Trouble)
    → shape ≡ head_of tree
    → Gives rose_of_typed result (statement_by environment looped shape (number_of tree) (at_of tree) (parts_of tree) (block_of environment looped shape tree))
    → Gives rose_of_typed result (statement environment looped tree)
by_form environment looped tree shape result is gives =
    subst (Gives rose_of_typed result)
    (ap (λ (f : Form). statement_by environment looped f (number_of tree) (at_of tree) (parts_of tree) (block_of environment looped f tree)) is
    ∙ sym (statement_is environment looped tree))
    gives

or_false : (b : Bool) → (b || false) ≡ b
or_false true = refl
or_false false = refl

or_true : (b : Bool) → (b || true) ≡ true
or_true true = refl
or_true false = refl

-- the parts from one on, which stand in a loop where the node does, and in that of a loop

pub block_whole : (environment : Environment) (looped : Bool) (tree : Tree) → block_from environment looped 0 tree ≡ map (statement environment (looped || false)) (parts_of tree)
block_whole environment looped tree =
    ap (map (statement environment looped)) (drop_whole (parts_of tree)) ∙ sym (ap (λ l. map (statement environment l) (parts_of tree)) (or_false looped))

pub block_same : (environment : Environment) (looped : Bool) (k : ℕ) (tree : Tree) → block_from environment looped k tree ≡ drop k (map (statement environment (looped || false)) (parts_of tree))
block_same environment looped k tree =
    sym (ap (λ l. drop k (map (statement environment l) (parts_of tree))) (or_false looped) ∙ drop_map (statement environment looped) k (parts_of tree))

pub block_loops : (environment : Environment) (looped : Bool) (k : ℕ) (tree : Tree) → block_from environment true k tree ≡ drop k (map (statement environment (looped || true)) (parts_of tree))
block_loops environment looped k tree =
    sym (ap (λ l. drop k (map (statement environment l) (parts_of tree))) (or_true looped) ∙ drop_map (statement environment true) k (parts_of tree))

-- ---- several lists, one behind the other

abbrev of_some : Option Refusal → Refusal → Refusal
of_some None otherwise = otherwise
of_some (Some refusal) otherwise = refusal

some_if : (first : Bool) (a b : Refusal) → (if first then Some a else Some b) ≡ Some (if first then a else b)
some_if true a b = refl
some_if false a b = refl

first_of_some : (a b : Refusal) → first_of (Some a) (Some b) ≡ Some (earlier a b)
first_of_some a b = some_if (comes_first a b) a b

earlier-associative : (a b c : Refusal) → earlier (earlier a b) c ≡ earlier a (earlier b c)
earlier-associative a b c =
    ap (λ o. of_some o a)
    (sym (first_of_some (earlier a b) c) ∙ ap (λ o. first_of o (Some c)) (sym (first_of_some a b)) ∙ first_of-associative (Some a) (Some b) (Some c)
    ∙ ap (first_of (Some a)) (first_of_some b c) ∙ first_of_some a (earlier b c))

with_all-flat : {A : Type 0} (so_far next : Outcome (List A)) (others : Outcome (List (List A)))
    → with_all (with_all so_far next) (mapped flat others) ≡ with_all so_far (mapped flat (mapped (λ parts. parts.0 ∷ parts.1) (both next others)))
with_all-flat (Ok xs) (Ok ys) (Ok zss) = ap Ok (append_assoc xs ys (flat zss))
with_all-flat (Ok xs) (Ok ys) (Err u) = refl
with_all-flat (Ok xs) (Err s) (Ok zss) = refl
with_all-flat (Ok xs) (Err s) (Err u) = refl
with_all-flat (Err r) (Ok ys) (Ok zss) = refl
with_all-flat (Err r) (Ok ys) (Err u) = refl
with_all-flat (Err r) (Err s) (Ok zss) = refl
with_all-flat (Err r) (Err s) (Err u) = ap Err (earlier-associative r s u)

append_none : {A : Type 0} (xs : List A) → xs ++ [] ≡ xs
append_none [] = refl
append_none (x ∷ xs) = ap (λ rest. x ∷ rest) (append_none xs)

with_all-none : {A : Type 0} (so_far : Outcome (List A)) → with_all so_far (Ok []) ≡ so_far
with_all-none (Ok xs) = ap Ok (append_none xs)
with_all-none (Err r) = refl

with_all-first : {A : Type 0} (others : Outcome (List A)) → with_all (Ok []) others ≡ others
with_all-first (Ok xs) = refl
with_all-first (Err r) = refl

pub lists_first : {A P : Type 0} (F : P → Outcome (List A)) (so_far : Outcome (List A)) (items : List P)
    → so_far ≡ Ok [] → with_all so_far (mapped flat (all_of (map F (drop 0 items)))) ≡ mapped flat (all_of (map F items))
lists_first F so_far items empty_is =
    ap (λ o. with_all o (mapped flat (all_of (map F (drop 0 items))))) empty_is
    ∙ with_all-first (mapped flat (all_of (map F (drop 0 items))))
    ∙ ap (λ xs. mapped flat (all_of (map F xs))) (drop_whole items)

pub lists_next : {A P : Type 0} (F : P → Outcome (List A)) (before behind : Outcome (List A)) (items : List P) (k : ℕ) (x : P) (total : Outcome (List A))
    → with_all before (mapped flat (all_of (map F (drop k items)))) ≡ total → slice_get items k ≡ Some x → behind ≡ with_all before (F x)
    → with_all behind (mapped flat (all_of (map F (drop (k + 1) items)))) ≡ total
lists_next F before behind items k x total so_far is taken =
    ap (λ o. with_all o (mapped flat (all_of (map F (drop (k + 1) items))))) taken
    ∙ with_all-flat before (F x) (all_of (map F (drop (k + 1) items)))
    ∙ sym (ap (λ xs. with_all before (mapped flat (all_of (map F xs)))) (drop_one items k x is))
    ∙ so_far

pub lists_none : {A P : Type 0} (F : P → Outcome (List A)) (so_far : Outcome (List A)) (items : List P) (k : ℕ) (total : Outcome (List A))
    → with_all so_far (mapped flat (all_of (map F (drop k items)))) ≡ total → length items ≤ k → so_far ≡ total
lists_none F so_far items k total all past =
    sym (ap (λ xs. with_all so_far (mapped flat (all_of (map F xs)))) (drop_all k items past) ∙ with_all-none so_far) ∙ all

-- ---- declarations

with_refusal : (before : Outcome (List TypedTree)) (r : Refusal) → mapped trees_kept (with_one before (Err r)) ≡ with_all (mapped trees_kept before) (Err r)
with_refusal (Ok xs) r = refl
with_refusal (Err s) r = refl

pub taken_refusal : (before behind : Outcome (List TypedTree)) (trouble : Trouble) (r : Refusal)
    → trouble ≡ Refused r → Takes {T = TypedTree} (Err trouble) before behind → mapped trees_kept behind ≡ with_all (mapped trees_kept before) (Err r)
taken_refusal before behind trouble r is takes =
    ap (mapped trees_kept) (subst (λ (t : Trouble). Takes {T = TypedTree} (Err t) before behind) is takes) ∙ with_refusal before r

-- the declarators behind a type
pub declared_all : (environment : Environment) (at : Span) (t : Option ValueType) (names : List Tree) (before : Outcome (List TypedRose))
    → is_some t ≡ true → gathers before (map (declarator environment) names) ≡ with_all before (declarators_of environment at t names)
declared_all environment at None names before there = absurd cc
declared_all environment at (Some t) names before there = gathers_with before (map (declarator environment) names)

-- ---- a test and its block, and a block alone

pub block_behind : (first : Outcome TypedRose) (block : List (Outcome TypedRose)) (answer : Result TypedTree Trouble) (empty one all : Outcome (List TypedTree))
    → empty ≡ Ok [] → Gives rose_of_typed answer first → Takes answer empty one → mapped trees_kept all ≡ gathers (mapped trees_kept one) block
    → mapped trees_kept all ≡ all_of (first ∷ block)
block_behind first block answer empty one all empty_is gives takes is =
    is
    ∙ ap (λ o. gathers o block) (taken rose_of_typed answer first empty one gives takes ∙ ap (λ o. with_one (mapped trees_kept o) first) empty_is)
    ∙ gathers_all (first ∷ block)

pub block_alone : (block : List (Outcome TypedRose)) (empty all : Outcome (List TypedTree))
    → empty ≡ Ok [] → mapped trees_kept all ≡ gathers (mapped trees_kept empty) block → mapped trees_kept all ≡ all_of block
block_alone block empty all empty_is is = is ∙ ap (λ o. gathers (mapped trees_kept o) block) empty_is ∙ gathers_all block

-- ---- assignments

several : (number : ℕ) (at : Span) (one two : Outcome TypedRose) (others : Outcome (List TypedRose)) (tree : Outcome TypedRose)
    → followed (both (mapped (λ parts. parts.0 ∷ parts.1) (both one (mapped (λ parts. parts.0 ∷ parts.1) (both two others)))) tree) (assigned_each number at)
    ≡ followed (both (mapped (λ parts. parts.0 ∷ parts.1) (both one (mapped (λ parts. parts.0 ∷ parts.1) (both two others)))) tree) (assigned_to number at)
several number at (Ok a) (Ok b) (Ok cs) (Ok t) = refl
several number at (Ok a) (Ok b) (Ok cs) (Err u) = refl
several number at (Ok a) (Ok b) (Err r) (Ok t) = refl
several number at (Ok a) (Ok b) (Err r) (Err u) = refl
several number at (Ok a) (Err s) (Ok cs) (Ok t) = refl
several number at (Ok a) (Err s) (Ok cs) (Err u) = refl
several number at (Ok a) (Err s) (Err r) (Ok t) = refl
several number at (Ok a) (Err s) (Err r) (Err u) = refl
several number at (Err v) (Ok b) (Ok cs) (Ok t) = refl
several number at (Err v) (Ok b) (Ok cs) (Err u) = refl
several number at (Err v) (Ok b) (Err r) (Ok t) = refl
several number at (Err v) (Ok b) (Err r) (Err u) = refl
several number at (Err v) (Err s) (Ok cs) (Ok t) = refl
several number at (Err v) (Err s) (Ok cs) (Err u) = refl
several number at (Err v) (Err s) (Err r) (Ok t) = refl
several number at (Err v) (Err s) (Err r) (Err u) = refl

single_target : (number : ℕ) (at : Span) (one : Outcome TypedRose) (tree : Outcome TypedRose)
    → followed (both one tree) (assigned number at)
    ≡ followed (both (mapped (λ parts. parts.0 ∷ parts.1) (both one (Ok []))) tree) (assigned_to number at)
single_target number at (Ok a) (Ok t) = refl
single_target number at (Ok a) (Err u) = refl
single_target number at (Err v) (Ok t) = refl
single_target number at (Err v) (Err u) = refl

targets_there : (number : ℕ) (at : Span) (target : Outcome TypedRose) (targets : List (Outcome TypedRose)) (tree : Outcome TypedRose)
    → assignment number at (target ∷ targets) tree ≡ followed (both (all_of (target ∷ targets)) (followed tree valued)) (assigned_to number at)
targets_there number at target [] tree = single_target number at target (followed tree valued)
targets_there number at target (next ∷ targets) tree = several number at target next (all_of targets) (followed tree valued)

pub assign_is : (environment : Environment) (number : ℕ) (at : Span) (count : ℕ) (parts : List Tree) → (count ≡ 0 → ⊥)
    → assign_of environment number at count parts
    ≡ followed (both (all_of (map (expression environment) (take count parts))) (followed (expression_at environment at (slice_get parts count)) valued)) (assigned_to number at)
assign_is environment number at zero parts some = absurd (some refl)
assign_is environment number at (suc count) [] some = refl
assign_is environment number at (suc count) (part ∷ parts) some =
    targets_there number at (expression environment part) (map (expression environment) (take count parts)) (expression_at environment at (slice_get parts count))

-- one tree alone, or another number of them

pub one_target : (number : ℕ) (at : Span) (trees : List TypedTree) (tree : TypedRose) (target : TypedTree)
    → only_answer at trees ≡ Ok target → assigned_to number at (trees_kept trees, tree) ≡ assigned number at (rose_of_typed target, tree)
one_target number at [] tree target is = absurd cc
one_target number at (x ∷ []) tree target is = let same : x ≡ target = cc in ap (λ (t : TypedTree). assigned number at (rose_of_typed t, tree)) same
one_target number at (x ∷ y ∷ trees) tree target is = absurd cc

pub other_targets : (number : ℕ) (at : Span) (trees : List TypedTree) (tree : TypedRose) → (length trees ≡ 1 → ⊥)
    → assigned_to number at (trees_kept trees, tree) ≡ assigned_each number at (trees_kept trees, tree)
other_targets number at [] tree several = refl
other_targets number at (x ∷ []) tree several = absurd (several refl)
other_targets number at (x ∷ y ∷ trees) tree several = refl

-- ---- loops over `range`

pub for_there : (environment : Environment) (number : ℕ) (at : Span) (parts : List Tree) (tree : Tree) (block : List (Outcome TypedRose)) → slice_get parts 1 ≡ Some tree
    → for_of environment number at parts block
    ≡ (if is_range_head environment tree (head_of tree)
    then range_loop number at (expression_at environment at (slice_get parts 0)) (operands_below environment tree) block
    else unbuilt at)
for_there environment number at [] tree block is = absurd cc
for_there environment number at (target ∷ []) tree block is = absurd cc
for_there environment number at (target ∷ value ∷ parts) tree block is =
    let same : value ≡ tree = cc in
    ap (λ (v : Tree). for_over environment number at (expression environment target) v block) same

pub for_none : (environment : Environment) (number : ℕ) (at : Span) (parts : List Tree) (block : List (Outcome TypedRose)) → slice_get parts 1 ≡ None
    → for_of environment number at parts block ≡ unbuilt at
for_none environment number at [] block is = refl
for_none environment number at (target ∷ []) block is = refl
for_none environment number at (target ∷ value ∷ parts) block is = absurd cc

-- the parts of a loop, as they are put together
pub range_made : (number : ℕ) (at : Span) (target : TypedTree) (arguments block parts : List TypedTree) (made : TypedTree) (count : ℕ) (o : Outcome ((TypedRose × List TypedRose) × List TypedRose))
    → o ≡ Ok ((rose_of_typed target, trees_kept arguments), trees_kept block)
    → count ≡ length arguments
    → trees_kept parts ≡ rose_of_typed target ∷ trees_kept arguments ++ trees_kept block
    → rose_of_typed made ≡ typed_node (head.Range count) number at (trees_kept parts)
    → mapped (range_parts number at) o ≡ Ok (rose_of_typed made)
range_made number at target arguments block parts made count o is counted all node =
    ap (mapped (range_parts number at)) is
    ∙ sym (ap Ok (node
    ∙ ap (λ (n : ℕ). typed_node (head.Range n) number at (trees_kept parts)) (counted ∙ sym (length-map arguments rose_of_typed))
    ∙ ap (typed_node (head.Range (length (trees_kept arguments))) number at) all))

-- Statements by their heads and parts.
use Rattle.std.proofs.Common.{◌≡◌, Bool, true, false, ℕ, zero, suc, List, [], ◌∷◌, map, length, nat_eq, Option, Some, None, refl, ap, sym, ◌∙◌, ◌≤◌, arith}
use Rattle.std.proofs.lemmas.Bool.{false_from_ne_true, eqb-true, eq-eqb}
use Rattle.std.proofs.lemmas.Option.{slice_get_past}
use Rattle.std.specs.Prelude.{if◌then◌else◌, ◌&&◌, slice_get, option_map}
use Rattle.px_base.specs.declared.refusals.Span.{Span}
use Rattle.px_tree.specs.declared.typed_values.ValueType.{ValueType}
use Rattle.px_tree.specs.declared.typed_modules.TypedFunction.{TypedFunction}
use Rattle.px_tree.specs.declared.typed_trees.TypedTree.{TypedTree, out-TypedTree}
use Rattle.px_walk.specs.Roses.{gathered, head_of, at_of}
use Rattle.px_typed_walk.specs.TypedView.{TypedRose, rose_of_typed}
use Rattle.px_typed_walk.proofs.TypedEquations.{typed_is}
use Rattle.px_types.specs.TypedModule.{function_kept}
use Rattle.px_compile.specs.Fits.{tree_fits}
use Rattle.px_compile.specs.FitStatements.{callee_of, callees_of, is_callee, gives_type, one_part, two_parts, has_no_parts, argument_fits, boxed_fits, alone_fits, alone_by, assign_fits, target_fits, augment_fits, augmented_fits, is_group, leaf_fits, placed, unfit, unfit_among}

pub none_of_one : (trees : List TypedTree) → (length trees ≡ 1 → ⊥) → None ≡ one_part (gathered (map rose_of_typed trees))
none_of_one [] other = refl
none_of_one (tree ∷ []) other = absurd (other refl)
none_of_one (tree ∷ next ∷ trees) other = refl

pub none_of_two : (trees : List TypedTree) → (length trees ≡ 2 → ⊥) → None ≡ two_parts (gathered (map rose_of_typed trees))
none_of_two [] other = refl
none_of_two (tree ∷ []) other = refl
none_of_two (tree ∷ next ∷ []) other = absurd (other refl)
none_of_two (tree ∷ next ∷ third ∷ trees) other = refl

pub empty_has_none : (trees : List TypedTree) → nat_eq (length trees) 0 ≡ has_no_parts (gathered (map rose_of_typed trees))
empty_has_none [] = refl
empty_has_none (tree ∷ trees) = false_from_ne_true _ (λ same. let long : length (tree ∷ trees) ≡ 0 = eqb-true _ _ same in omega (arith, long))

pub argument_is : (locals : List ValueType) (tree : TypedTree) (parts : List TypedTree) → parts ≡ (out-TypedTree tree).parts
    → boxed_fits locals (out-TypedTree tree).head (gathered (map rose_of_typed parts)) ≡ argument_fits locals (rose_of_typed tree)
argument_is locals tree parts is =
    ap (λ (ps : List TypedTree). boxed_fits locals (out-TypedTree tree).head (gathered (map rose_of_typed ps))) is
    ∙ sym (ap (argument_fits locals) (typed_is tree))

pub alone_is : (locals : List ValueType) (callees : List (Option ValueType)) (tree : TypedTree) (parts : List TypedTree) (fits : Bool)
    → parts ≡ (out-TypedTree tree).parts → fits ≡ tree_fits locals None (rose_of_typed tree)
    → alone_by locals callees (out-TypedTree tree).head (gathered (map rose_of_typed parts)) fits ≡ alone_fits locals callees (rose_of_typed tree)
alone_is locals callees tree parts fits is fit_is =
    ap (λ (ps : List TypedTree). alone_by locals callees (out-TypedTree tree).head (gathered (map rose_of_typed ps)) fits) is
    ∙ (ap (alone_by locals callees (out-TypedTree tree).head (gathered (map rose_of_typed (out-TypedTree tree).parts)))
    (fit_is ∙ ap (tree_fits locals None) (typed_is tree))
    ∙ sym (ap (alone_fits locals callees) (typed_is tree)))

head_is : (tree : TypedTree) → (out-TypedTree tree).head ≡ head_of (rose_of_typed tree)
head_is tree = sym (ap head_of (typed_is tree))

pub assign_is : (locals : List ValueType) (target tree : TypedTree) (pair : Option (TypedRose × TypedRose))
    → Some (rose_of_typed target, rose_of_typed tree) ≡ pair
    → target_fits locals (out-TypedTree target).head (rose_of_typed tree) ≡ assign_fits locals pair
assign_is locals target tree pair is = ap (λ h. target_fits locals h (rose_of_typed tree)) (head_is target) ∙ ap (assign_fits locals) is

pub augment_is : (locals : List ValueType) (target tree : TypedTree) (pair : Option (TypedRose × TypedRose))
    → Some (rose_of_typed target, rose_of_typed tree) ≡ pair
    → augmented_fits locals (out-TypedTree target).head (rose_of_typed target) (rose_of_typed tree) ≡ augment_fits locals pair
augment_is locals target tree pair is =
    ap (λ h. augmented_fits locals h (rose_of_typed target) (rose_of_typed tree)) (head_is target) ∙ ap (augment_fits locals) is

abbrev by_parts : List ValueType → ValueType → Bool → List (Option ValueType) → TypedTree → List TypedTree → Option Span
by_parts locals gives has_none callees tree parts =
    if is_group (out-TypedTree tree).head
    then unfit_among locals gives has_none callees (gathered (map rose_of_typed parts))
    else placed (leaf_fits locals gives has_none callees (out-TypedTree tree).head (gathered (map rose_of_typed parts))) (out-TypedTree tree).at

unfit_is : (locals : List ValueType) (gives : ValueType) (has_none : Bool) (callees : List (Option ValueType)) (tree : TypedTree) (parts : List TypedTree)
    → parts ≡ (out-TypedTree tree).parts
    → by_parts locals gives has_none callees tree parts ≡ unfit locals gives has_none callees (rose_of_typed tree)
unfit_is locals gives has_none callees tree parts is =
    ap (by_parts locals gives has_none callees tree) is ∙ sym (ap (unfit locals gives has_none callees) (typed_is tree))

pub unfit_group : (locals : List ValueType) (gives : ValueType) (has_none : Bool) (callees : List (Option ValueType)) (tree : TypedTree) (parts : List TypedTree)
    (group : Bool) → parts ≡ (out-TypedTree tree).parts → group ≡ is_group (out-TypedTree tree).head → group ≡ true
    → unfit_among locals gives has_none callees (gathered (map rose_of_typed parts)) ≡ unfit locals gives has_none callees (rose_of_typed tree)
unfit_group locals gives has_none callees tree parts group is group_is holds =
    sym (ap (λ b. if b then unfit_among locals gives has_none callees (gathered (map rose_of_typed parts))
    else placed (leaf_fits locals gives has_none callees (out-TypedTree tree).head (gathered (map rose_of_typed parts))) (out-TypedTree tree).at)
    (sym group_is ∙ holds))
    ∙ unfit_is locals gives has_none callees tree parts is

pub unfit_leaf : (locals : List ValueType) (gives : ValueType) (has_none : Bool) (callees : List (Option ValueType)) (tree : TypedTree) (parts : List TypedTree)
    (group fits : Bool) → parts ≡ (out-TypedTree tree).parts → group ≡ is_group (out-TypedTree tree).head → group ≡ false
    → fits ≡ leaf_fits locals gives has_none callees (out-TypedTree tree).head (gathered (map rose_of_typed parts))
    → placed fits (at_of (rose_of_typed tree)) ≡ unfit locals gives has_none callees (rose_of_typed tree)
unfit_leaf locals gives has_none callees tree parts group fits is group_is holds fit_is =
    ap (placed fits) (ap at_of (typed_is tree))
    ∙ (ap (λ b. placed b (out-TypedTree tree).at) fit_is
    ∙ (sym (ap (λ b. if b then unfit_among locals gives has_none callees (gathered (map rose_of_typed parts))
    else placed (leaf_fits locals gives has_none callees (out-TypedTree tree).head (gathered (map rose_of_typed parts))) (out-TypedTree tree).at)
    (sym group_is ∙ holds))
    ∙ unfit_is locals gives has_none callees tree parts is))

by_count : (b : Bool) (gives t : ValueType) → (b && gives_type gives t) ≡ is_callee (Some (if b then Some gives else None)) t
by_count true gives t = refl
by_count false gives t = refl

-- what the function of a number gives
callee_at : (functions : List TypedFunction) (k : ℕ)
    → slice_get (callees_of (map function_kept functions)) k ≡ option_map (λ (g : TypedFunction). callee_of (function_kept g)) (slice_get functions k)
callee_at [] k = refl
callee_at (f ∷ functions) zero = refl
callee_at (f ∷ functions) (suc k) = callee_at functions k

-- a function that is there
callee_there : (functions : List TypedFunction) (k : ℕ) (f : TypedFunction) (t : ValueType) → slice_get functions k ≡ Some f
    → (nat_eq f.params 0 && gives_type f.gives t) ≡ is_callee (slice_get (callees_of (map function_kept functions)) k) t
callee_there functions k f t there =
    by_count (nat_eq f.params 0) f.gives t
    ∙ ap (λ callee. is_callee callee t) (sym (callee_at functions k ∙ ap (option_map (λ (g : TypedFunction). callee_of (function_kept g))) there))

pub callee_with_parameters : (functions : List TypedFunction) (k : ℕ) (f : TypedFunction) (t : ValueType) → slice_get functions k ≡ Some f
    → (f.params ≡ 0 → ⊥) → nat_eq f.params 0 ≡ is_callee (slice_get (callees_of (map function_kept functions)) k) t
callee_with_parameters functions k f t there other =
    let no : nat_eq f.params 0 ≡ false = false_from_ne_true _ (λ same. other (eqb-true _ _ same)) in
    no ∙ (sym (ap (λ b. b && gives_type f.gives t) no) ∙ callee_there functions k f t there)

pub callee_without_parameters : (functions : List TypedFunction) (k : ℕ) (f : TypedFunction) (t : ValueType) → slice_get functions k ≡ Some f
    → f.params ≡ 0 → gives_type f.gives t ≡ is_callee (slice_get (callees_of (map function_kept functions)) k) t
callee_without_parameters functions k f t there none =
    sym (ap (λ b. b && gives_type f.gives t) (eq-eqb f.params 0 none)) ∙ callee_there functions k f t there

pub callee_missing : (functions : List TypedFunction) (k : ℕ) (t : ValueType) → length functions ≤ k → false ≡ is_callee (slice_get (callees_of (map function_kept functions)) k) t
callee_missing functions k t past =
    ap (λ callee. is_callee callee t) (sym (callee_at functions k ∙ ap (option_map (λ (g : TypedFunction). callee_of (function_kept g))) (slice_get_past functions k past)))

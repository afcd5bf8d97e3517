-- Nodes of the typed tree once they are erased: conversions, values that are read again, and operands.
use Rattle.std.proofs.Common.{◌≡◌, ℕ, List, [], ◌∷◌, ◌++◌, map, take, length, refl, sym, ap, ◌∙◌}
use Rattle.std.specs.Prelude.{Bool, true, false, if◌then◌else◌, flat_map, Ok}
use Rattle.px_base.specs.declared.refusals.Span.{Span}
use Rattle.px_base.specs.declared.c_types.CType.{CType}
use Rattle.px_tree.specs.declared.typed_values.ValueType.{ValueType}
use Rattle.px_tree.specs.declared.typed_values.ValueType.TheVariants as value
use Rattle.px_tree.specs.declared.typed_values.Conversion.{Conversion}
use Rattle.px_tree.specs.declared.typed_values.Conversion.TheVariants as conversion
use Rattle.px_tree.specs.declared.typed_heads.TypedHead.{TypedHead}
use Rattle.px_tree.specs.declared.typed_heads.TypedHead.TheVariants as head
use Rattle.px_walk.specs.Forms.{Form}
use Rattle.px_walk.specs.Roses.{number_of, at_of, head_of, parts_of, listed, gathered}
use Rattle.px_typed_walk.specs.TypedView.{TypedRose, typed_node, type_of}
use Rattle.px_operators.specs.declared.fittings.Fitting.{Fitting}
use Rattle.px_operators.specs.declared.fittings.Fitting.TheVariants as fitting
use Rattle.px_operators.specs.Outcomes.{Outcome, followed}
use Rattle.px_operators.specs.Conversions.{is_same_c, fitting_of, converted, fitted_by, fitted, fitted_each, as_objects, value_of_type, valued, in_c}
use Rattle.px_operators.specs.Operators.{Operand, operand_of, operand, operands, given, kept}
use Rattle.px_type_laws.specs.PlainForms.{PlainForm, PlainTree, plain_node, written}
use Rattle.px_type_laws.specs.PlainForms as plain
use Rattle.px_type_laws.specs.Erased.{erased, erased_each, erased_by, goes_on, added, joined}
use Rattle.px_type_laws.proofs.OutcomeParts.{ok_same, followed_ok, first_ok}
use Rattle.px_type_laws.proofs.Agreements.{Shows, Agrees, Agree, all_shown, shown_each, listed-gathered}

-- ---- a node by its parts

each_erased : (parts : List TypedRose) → erased_each (gathered parts) ≡ map erased parts
unfolding erased
each_erased [] = refl
each_erased (part ∷ parts) = ap (λ rest. erased part ∷ rest) (each_erased parts)

pub node_erased : (head : TypedHead) (number : ℕ) (at : Span) (parts : List TypedRose)
    → erased (typed_node head number at parts) ≡ erased_by head number at (map erased parts)
unfolding erased
node_erased head number at parts = ap (erased_by head number at) (each_erased parts)

-- ---- conversions

pub converted_erased : (how : Conversion) (tree : TypedRose) → erased (converted how tree) ≡ erased tree
converted_erased how tree = node_erased (head.Converted how) (number_of tree) (at_of tree) (tree ∷ [])

converted_unless : (same : Bool) (how : Conversion) (tree : TypedRose) → erased (if same then tree else converted how tree) ≡ erased tree
converted_unless true how tree = refl
converted_unless false how tree = converted_erased how tree

pub in_c_erased : (to : CType) (o : Operand) → erased (in_c to o) ≡ erased o.0
in_c_erased to o = converted_unless (is_same_c o.1 to) (conversion.ToC to) o.0

fitted_by_erased : (how : Fitting) (tree made : TypedRose) → fitted_by how tree ≡ Ok made → erased made ≡ erased tree
fitted_by_erased fitting.Equal tree made is = ap erased (sym (ok_same tree made is))
fitted_by_erased (fitting.By how) tree made is = ap erased (sym (ok_same (converted how tree) made is)) ∙ converted_erased how tree
fitted_by_erased fitting.Never tree made is = absurd cc

pub fitted_erased : (t : ValueType) (tree made : TypedRose) → fitted t tree ≡ Ok made → erased made ≡ erased tree
fitted_erased t tree made is = fitted_by_erased (fitting_of (type_of tree) t) tree made is

pub fitted_shown : (t : ValueType) (o : Outcome TypedRose) (tree : PlainTree) → Agrees o tree → Shows erased (followed o (fitted t)) tree
fitted_shown t o tree agrees made is =
    let found = followed_ok o (fitted t) made is in
    fitted_erased t found.0 made found.2 ∙ agrees found.0 found.1

valued_by : (t : ValueType) (tree made : TypedRose) → value_of_type tree t ≡ Ok made → erased made ≡ erased tree
valued_by (value.C t) tree made is = ap erased (sym (ok_same tree made is))
valued_by value.Object tree made is = ap erased (sym (ok_same tree made is))
valued_by (value.View t) tree made is = ap erased (sym (ok_same tree made is))
valued_by value.Void tree made is = absurd cc

pub valued_shown : (o : Outcome TypedRose) (tree : PlainTree) → Agrees o tree → Shows erased (followed o valued) tree
valued_shown o tree agrees made is =
    let found = followed_ok o valued made is in
    valued_by (type_of found.0) found.0 made found.2 ∙ agrees found.0 found.1

-- ---- operands

abbrev pub operand_erased : Operand → PlainTree
operand_erased o = erased o.0

abbrev pub operands_erased : List Operand → List PlainTree
operands_erased os = map operand_erased os

operand_tree : (t : ValueType) (tree : TypedRose) (o : Operand) → operand_of tree t ≡ Ok o → operand_erased o ≡ erased tree
operand_tree (value.C t) tree o is = let taken : Operand = (tree, t) in ap operand_erased (sym (ok_same taken o is))
operand_tree value.Object tree o is = absurd cc
operand_tree (value.View t) tree o is = absurd cc
operand_tree value.Void tree o is = absurd cc

pub operand_shown : (o : Outcome TypedRose) (tree : PlainTree) → Agrees o tree → Shows operand_erased (followed o operand) tree
operand_shown o tree agrees taken is =
    let found = followed_ok o operand taken is in
    operand_tree (type_of found.0) found.0 taken found.2 ∙ agrees found.0 found.1

pub operands_shown : (outcomes : List (Outcome TypedRose)) (trees : List PlainTree) (os : List Operand) → Agree outcomes trees
    → operands outcomes ≡ Ok os → operands_erased os ≡ trees
operands_shown outcomes trees os all is =
    all_shown operand_erased (map (λ (o : Outcome TypedRose). followed o operand) outcomes) trees os
    (shown_each operand_erased (λ (o : Outcome TypedRose). followed o operand) outcomes trees operand_shown all) is

pub objects_shown : (outcomes : List (Outcome TypedRose)) (trees : List PlainTree) (xs : List TypedRose) → Agree outcomes trees
    → as_objects outcomes ≡ Ok xs → map erased xs ≡ trees
objects_shown outcomes trees xs all is =
    all_shown erased (map (λ (o : Outcome TypedRose). followed o (fitted value.Object)) outcomes) trees xs
    (shown_each erased (λ (o : Outcome TypedRose). followed o (fitted value.Object)) outcomes trees (fitted_shown value.Object) all) is

-- the values that parameters of these types are given
pub fitted_each_shown : (types : List ValueType) (outcomes : List (Outcome TypedRose)) (trees : List PlainTree) (xs : List TypedRose) → Agree outcomes trees
    → fitted_each types outcomes ≡ Ok xs → map erased xs ≡ take (length types) trees
fitted_each_shown [] outcomes trees xs all is = ap (map erased) (sym (ok_same [] xs is))
fitted_each_shown (t ∷ types) [] [] xs all is = ap (map erased) (sym (ok_same [] xs is))
fitted_each_shown (t ∷ types) [] (tree ∷ trees) xs all is = absurd all
fitted_each_shown (t ∷ types) (o ∷ outcomes) [] xs all is = absurd all
fitted_each_shown (t ∷ types) (o ∷ outcomes) (tree ∷ trees) xs all is =
    let found = first_ok (followed o (fitted t)) (fitted_each types outcomes) xs is in
    ap (map erased) found.4
    ∙ ap (λ first. first ∷ map erased found.1) (fitted_shown t o tree all.0 found.0 found.2)
    ∙ ap (λ rest. tree ∷ rest) (fitted_each_shown types outcomes trees found.1 all.1 found.3)

pub in_c_each : (t : CType) (os : List Operand) → map erased (map (in_c t) os) ≡ operands_erased os
in_c_each t [] = refl
in_c_each t (o ∷ os) =
    ap (λ first. first ∷ map erased (map (in_c t) os)) (in_c_erased t o) ∙ ap (λ rest. erased o.0 ∷ rest) (in_c_each t os)

-- ---- values that are read again

abbrev pub hand : ℕ → Span → PlainTree
hand number at = plain_node plain.AtHand number at []

pub given_erased : (number : ℕ) (at : Span) (t : CType) → operand_erased (given number at t) ≡ hand number at
given_erased number at t = node_erased (head.Given (value.C t)) number at []

pub kept_erased : (o : Operand) → operand_erased (kept o) ≡ operand_erased o
kept_erased o = node_erased (head.Kept (value.C o.1)) (number_of o.0) (at_of o.0) (o.0 ∷ [])

-- ---- steps

-- what a step on the value at hand adds
pub added_behind : (shape : Form) (number : ℕ) (at : Span) (n : ℕ) (place : Span) (parts : List PlainTree) → goes_on (plain.Written shape) (plain.Written shape) ≡ true
    → added (plain.Written shape) (written shape number at (hand n place ∷ parts)) ≡ parts
added_behind shape number at n place parts goes =
    ap (λ test. if test then listed (gathered parts) else written shape number at (hand n place ∷ parts) ∷ []) goes
    ∙ listed-gathered parts

pub joined_steps : (made : TypedHead) (shape : Form) (number : ℕ) (at : Span) (first : PlainTree) (steps parts rest : List PlainTree)
    → first ≡ written shape number at parts → flat_map (added (plain.Written shape)) steps ≡ rest
    → joined made number at (first ∷ steps) ≡ written shape number at (parts ++ rest)
joined_steps made shape number at first steps parts rest first_is rest_is =
    ap (λ (f : PlainTree). plain_node (head_of f) number at (parts_of f ++ flat_map (added (head_of f)) steps)) first_is
    ∙ ap (λ (ps : List PlainTree). written shape number at (ps ++ flat_map (added (plain.Written shape)) steps)) (listed-gathered parts)
    ∙ ap (λ (more_parts : List PlainTree). written shape number at (parts ++ more_parts)) rest_is

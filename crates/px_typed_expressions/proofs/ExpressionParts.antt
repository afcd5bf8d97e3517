-- What a node of an expression comes to, by its form and by what its parts come to.
use Rattle.std.proofs.Common.{◌≡◌, ℕ, ◌+◌, ◌≤◌, List, [], ◌∷◌, ◌++◌, length, drop, Bool, true, false, if◌then◌else◌, Some, refl, sym, ap, ◌∙◌, append_assoc}
use Rattle.std.specs.Prelude.{slice_get}
use Rattle.px_base.specs.declared.refusals.Span.{Span}
use Rattle.px_walk.specs.Forms.{Form}
use Rattle.px_walk.specs.Forms as form
use Rattle.px_walk.specs.HeadForms.{form_of}
use Rattle.px_walk.specs.declared.heads.Head.{Head}
use Rattle.px_walk.specs.declared.heads.Head.TheVariants as head
use Rattle.px_walk.specs.Roses.{Roses, rose, none, more, listed, head_of, number_of, at_of, parts_of}
use Rattle.px_walk.specs.ExprView.{Tree}
use Rattle.px_typed_walk.specs.TypedView.{TypedRose}
use Rattle.px_names.proofs.PartLoops.{drop_whole, drop_one, nothing_behind}
use Rattle.px_operators.specs.Outcomes.{Outcome, flat}
use Rattle.px_environments.specs.Environments.{Environment}
use Rattle.px_environments.specs.Atoms.{is_range_row}
use Rattle.px_typed_expressions.specs.Calls.{row_of}
use Rattle.px_typed_expressions.specs.Expressions.{is_between, expression_of, row_operands, other_operands, operands_by, operands_below, operands_each}
use Rattle.px_typed_expressions.specs.ExpressionsKept.{outcomes_each, value_operands}
use Rattle.px_typed_expressions.proofs.ExpressionOperators.{append_none}

each_is : (environment : Environment) (parts : Roses Form) → operands_each environment parts ≡ outcomes_each environment (listed parts)
unfolding operands_below
each_is environment none = refl
each_is environment (more part parts) = ap (λ rest. operands_below environment part ∷ rest) (each_is environment parts)

operands_are : (environment : Environment) (tree : Tree)
    → operands_below environment tree ≡ operands_by environment (head_of tree) (number_of tree) (at_of tree) (parts_of tree) (outcomes_each environment (parts_of tree))
unfolding operands_below
operands_are environment (rose head number at parts) = ap (operands_by environment head number at (listed parts)) (each_is environment parts)

operands_for : (environment : Environment) (tree : Tree) (head : Form) → head_of tree ≡ head
    → operands_below environment tree ≡ operands_by environment head (number_of tree) (at_of tree) (parts_of tree) (outcomes_each environment (parts_of tree))
operands_for environment tree head is =
    operands_are environment tree
    ∙ ap (λ (h : Form). operands_by environment h (number_of tree) (at_of tree) (parts_of tree) (outcomes_each environment (parts_of tree))) is

pub of_row : (environment : Environment) (tree : Tree) (h : Head) → form_of h ≡ head_of tree → h ≡ head.Row
    → operands_below environment tree ≡ row_operands environment (number_of tree) (at_of tree) (parts_of tree) (outcomes_each environment (parts_of tree))
of_row environment tree h is row = operands_for environment tree form.Row (sym is ∙ ap form_of row)

pub of_name : (environment : Environment) (tree : Tree) (h : Head) (name : List ℕ) → form_of h ≡ head_of tree → form_of h ≡ form.Name name
    → operands_below environment tree ≡ value_operands environment (environment.meanings (number_of tree)) (number_of tree) (at_of tree)
of_name environment tree h name is named = operands_for environment tree (form.Name name) (sym is ∙ named)

other_by : (environment : Environment) (h : Head) (number : ℕ) (at : Span) (parts : List Tree) (outcomes : List (List (Outcome TypedRose)))
    → (h ≡ head.Row → ⊥) → ((name : _) → h ≡ head.Name name → ⊥)
    → operands_by environment (form_of h) number at parts outcomes ≡ other_operands environment (form_of h) number at parts outcomes
other_by environment (head.Module a0) number at parts outcomes no_row no_name = refl
other_by environment (head.Comment a0) number at parts outcomes no_row no_name = refl
other_by environment (head.Import a0 a1 a2) number at parts outcomes no_row no_name = refl
other_by environment (head.ImportFrom a0 a1) number at parts outcomes no_row no_name = refl
other_by environment (head.ImportedName a0 a1) number at parts outcomes no_row no_name = refl
other_by environment (head.Function a0) number at parts outcomes no_row no_name = refl
other_by environment (head.Decorator a0 a1 a2) number at parts outcomes no_row no_name = refl
other_by environment (head.Param a0 a1) number at parts outcomes no_row no_name = refl
other_by environment (head.«Type» a0 a1 a2) number at parts outcomes no_row no_name = refl
other_by environment (head.Assign a0) number at parts outcomes no_row no_name = refl
other_by environment (head.Augment a0) number at parts outcomes no_row no_name = refl
other_by environment head.Pass number at parts outcomes no_row no_name = refl
other_by environment head.Break number at parts outcomes no_row no_name = refl
other_by environment head.Continue number at parts outcomes no_row no_name = refl
other_by environment head.Return number at parts outcomes no_row no_name = refl
other_by environment (head.Raise a0) number at parts outcomes no_row no_name = refl
other_by environment (head.Global a0) number at parts outcomes no_row no_name = refl
other_by environment (head.If a0 a1) number at parts outcomes no_row no_name = refl
other_by environment head.While number at parts outcomes no_row no_name = refl
other_by environment head.For number at parts outcomes no_row no_name = refl
other_by environment head.WithGil number at parts outcomes no_row no_name = refl
other_by environment head.WithNogil number at parts outcomes no_row no_name = refl
other_by environment head.Declare number at parts outcomes no_row no_name = refl
other_by environment head.DeclareGroup number at parts outcomes no_row no_name = refl
other_by environment head.Arm number at parts outcomes no_row no_name = refl
other_by environment head.Declaration number at parts outcomes no_row no_name = refl
other_by environment (head.Declarator a0) number at parts outcomes no_row no_name = refl
other_by environment (head.Name a0) number at parts outcomes no_row no_name = absurd (no_name a0 refl)
other_by environment (head.Number a0) number at parts outcomes no_row no_name = refl
other_by environment (head.Text a0) number at parts outcomes no_row no_name = refl
other_by environment head.True number at parts outcomes no_row no_name = refl
other_by environment head.False number at parts outcomes no_row no_name = refl
other_by environment head.None number at parts outcomes no_row no_name = refl
other_by environment head.Sizeof number at parts outcomes no_row no_name = refl
other_by environment head.Tuple number at parts outcomes no_row no_name = refl
other_by environment head.ListDisplay number at parts outcomes no_row no_name = refl
other_by environment head.Dict number at parts outcomes no_row no_name = refl
other_by environment head.Row number at parts outcomes no_row no_name = absurd (no_row refl)
other_by environment (head.Unary a0) number at parts outcomes no_row no_name = refl
other_by environment head.Cast number at parts outcomes no_row no_name = refl
other_by environment head.Chain number at parts outcomes no_row no_name = refl
other_by environment head.Compare number at parts outcomes no_row no_name = refl
other_by environment head.Not number at parts outcomes no_row no_name = refl
other_by environment head.And number at parts outcomes no_row no_name = refl
other_by environment head.Or number at parts outcomes no_row no_name = refl
other_by environment head.Conditional number at parts outcomes no_row no_name = refl
other_by environment head.Entry number at parts outcomes no_row no_name = refl
other_by environment (head.Attribute a0) number at parts outcomes no_row no_name = refl
other_by environment head.Call number at parts outcomes no_row no_name = refl
other_by environment (head.Subscript a0) number at parts outcomes no_row no_name = refl
other_by environment (head.Argument a0) number at parts outcomes no_row no_name = refl
other_by environment head.Index number at parts outcomes no_row no_name = refl
other_by environment (head.Slice a0 a1 a2) number at parts outcomes no_row no_name = refl
other_by environment head.Ellipsis number at parts outcomes no_row no_name = refl
other_by environment (head.Link a0) number at parts outcomes no_row no_name = refl
other_by environment (head.Comparison a0) number at parts outcomes no_row no_name = refl

pub of_other : (environment : Environment) (tree : Tree) (h : Head) → form_of h ≡ head_of tree → (h ≡ head.Row → ⊥) → ((name : _) → h ≡ head.Name name → ⊥)
    → operands_below environment tree
    ≡ other_operands environment (form_of h) (number_of tree) (at_of tree) (parts_of tree) (outcomes_each environment (parts_of tree))
of_other environment tree h is no_row no_name =
    operands_for environment tree (form_of h) (sym is)
    ∙ other_by environment h (number_of tree) (at_of tree) (parts_of tree) (outcomes_each environment (parts_of tree)) no_row no_name

pub of_between : (environment : Environment) (tree : Tree) (h : Head) → form_of h ≡ head_of tree → (h ≡ head.Row → ⊥) → ((name : _) → h ≡ head.Name name → ⊥)
    → is_between (form_of h) ≡ true → operands_below environment tree ≡ flat (outcomes_each environment (parts_of tree))
of_between environment tree h is no_row no_name between =
    of_other environment tree h is no_row no_name
    ∙ ap (λ (b : Bool). if b then flat (outcomes_each environment (parts_of tree)) else expression_of environment (form_of h) (number_of tree) (at_of tree) (parts_of tree) (flat (outcomes_each environment (parts_of tree))) ∷ []) between

pub of_composed : (environment : Environment) (tree : Tree) (h : Head) → form_of h ≡ head_of tree → (h ≡ head.Row → ⊥) → ((name : _) → h ≡ head.Name name → ⊥)
    → is_between (form_of h) ≡ false
    → operands_below environment tree ≡ expression_of environment (head_of tree) (number_of tree) (at_of tree) (parts_of tree) (flat (outcomes_each environment (parts_of tree))) ∷ []
of_composed environment tree h is no_row no_name between =
    of_other environment tree h is no_row no_name
    ∙ ap (λ (b : Bool). if b then flat (outcomes_each environment (parts_of tree)) else expression_of environment (form_of h) (number_of tree) (at_of tree) (parts_of tree) (flat (outcomes_each environment (parts_of tree))) ∷ []) between
    ∙ ap (λ (f : Form). expression_of environment f (number_of tree) (at_of tree) (parts_of tree) (flat (outcomes_each environment (parts_of tree))) ∷ []) is

-- ---- a loop over the parts of a node

-- what is gathered, with what the parts from one on come to
abbrev pub with_parts : Environment → List (Outcome TypedRose) → List Tree → List (Outcome TypedRose)
with_parts environment so_far parts = so_far ++ flat (outcomes_each environment parts)

pub parts_first : (environment : Environment) (so_far : List (Outcome TypedRose)) (parts : List Tree)
    → with_parts environment so_far (drop 0 parts) ≡ with_parts environment so_far parts
parts_first environment so_far parts = ap (with_parts environment so_far) (drop_whole parts)

pub parts_more : (environment : Environment) (before behind total : List (Outcome TypedRose)) (parts : List Tree) (k : ℕ) (part : Tree)
    → slice_get parts k ≡ Some part → behind ≡ before ++ operands_below environment part → with_parts environment before (drop k parts) ≡ total
    → with_parts environment behind (drop (k + 1) parts) ≡ total
parts_more environment before behind total parts k part is taken all =
    ap (λ so_far. with_parts environment so_far (drop (k + 1) parts)) taken
    ∙ append_assoc before (operands_below environment part) (flat (outcomes_each environment (drop (k + 1) parts)))
    ∙ sym (ap (with_parts environment before) (drop_one parts k part is))
    ∙ all

pub parts_last : (environment : Environment) (so_far total : List (Outcome TypedRose)) (parts : List Tree) (k : ℕ)
    → length parts ≤ k → with_parts environment so_far (drop k parts) ≡ total → so_far ≡ total
parts_last environment so_far total parts k past all =
    sym (nothing_behind (with_parts environment so_far) parts k past ∙ append_none so_far) ∙ all

-- ---- a row as operands

pub range_operands : (environment : Environment) (number : ℕ) (at : Span) (parts : List Tree) (outcomes : List (List (Outcome TypedRose)))
    → is_range_row environment parts ≡ true → row_operands environment number at parts outcomes ≡ flat outcomes
range_operands environment number at parts outcomes is =
    ap (λ (b : Bool). if b then flat outcomes else row_of environment number at parts outcomes ∷ []) is

pub value_row_operands : (environment : Environment) (number : ℕ) (at : Span) (parts : List Tree) (outcomes : List (List (Outcome TypedRose)))
    → is_range_row environment parts ≡ false → row_operands environment number at parts outcomes ≡ row_of environment number at parts outcomes ∷ []
value_row_operands environment number at parts outcomes is =
    ap (λ (b : Bool). if b then flat outcomes else row_of environment number at parts outcomes ∷ []) is

-- A statement of the parse tree as it is, but for what its names and written types stand for.
use Rattle.std.specs.Prelude.{ℕ, if◌then◌else◌, List, [], ◌∷◌, ◌++◌, take, drop, map, slice_get, Option, Some, None}
use Rattle.px_base.specs.declared.refusals.Span.{Span}
use Rattle.px_base.specs.declared.objects.Builtin.TheVariants as builtin
use Rattle.px_tree.specs.declared.statements.Stmt.{Stmt}
use Rattle.px_walk.specs.Forms.{Form}
use Rattle.px_walk.specs.Forms as form
use Rattle.px_walk.specs.Roses.{Roses, rose, none, more, listed, head_of, number_of, at_of, parts_of}
use Rattle.px_walk.specs.ExprView.{Tree}
use Rattle.px_walk.specs.StmtView.{rose_of_stmt}
use Rattle.px_operators.specs.Outcomes.{flat}
use Rattle.px_environments.specs.declared.signatures.Variable.{Variable}
use Rattle.px_environments.specs.Environments.{Environment}
use Rattle.px_environments.specs.Atoms.{is_range_head}
use Rattle.px_type_laws.specs.PlainForms.{PlainForm, PlainTree, plain_node, written, call_row}
use Rattle.px_type_laws.specs.PlainForms as plain
use Rattle.px_type_laws.specs.BareExpressions.{bare, bare_below}

-- an expression that is a part of a statement, where it is there
abbrev pub bare_part : Environment → Option Tree → List PlainTree
bare_part environment None = []
bare_part environment (Some tree) = bare environment tree ∷ []

-- Declarations. A declarator is the variable that it declares, with its type and the value that it is given; those of a group stand one
-- behind the other.

abbrev pub variable_declared : Form → Option Variable → PlainForm
variable_declared shape None = plain.Written shape
variable_declared shape (Some variable) = plain.Declared variable.slot variable.value_type

abbrev pub bare_declarator : Environment → Tree → PlainTree
bare_declarator environment tree =
    plain_node (variable_declared (head_of tree) (environment.variables (number_of tree))) (number_of tree) (at_of tree)
    (bare_part environment (slice_get (parts_of tree) 0))

abbrev pub bare_declaration : Environment → Tree → List PlainTree
bare_declaration environment tree = map (bare_declarator environment) (drop 1 (parts_of tree))

abbrev pub bare_declare : Environment → ℕ → Span → List Tree → PlainTree
bare_declare environment number at declarations =
    written form.Declare number at (flat (map (bare_declaration environment) declarations))

-- Loops. The call of `range` has the number 0 and the place of the loop.

abbrev pub bare_source : Environment → Span → Tree → PlainTree
bare_source environment at tree =
    if is_range_head environment tree (head_of tree) then call_row (plain.BuiltinName builtin.Range) 0 at (bare_below environment tree)
    else bare environment tree

abbrev pub bare_for : Environment → ℕ → Span → List Tree → List PlainTree → PlainTree
bare_for environment number at (target ∷ tree ∷ parts) block =
    written form.For number at (bare environment target ∷ bare_source environment at tree ∷ block)
bare_for environment number at parts block = written form.For number at (map (bare environment) parts)

-- A statement by its form, its parts, and those of them that are statements or arms as plain trees. The names that `global` lists are
-- what other names stand for.
abbrev pub bare_statement_by : Environment → Form → ℕ → Span → List Tree → List PlainTree → PlainTree
bare_statement_by environment (form.Assign targets) number at parts block =
    written (form.Assign targets) number at (map (bare environment) (take targets parts) ++ bare_part environment (slice_get parts targets))
bare_statement_by environment (form.Augment op) number at parts block =
    written (form.Augment op) number at (bare_part environment (slice_get parts 0) ++ bare_part environment (slice_get parts 1))
bare_statement_by environment form.Pass number at parts block = written form.Pass number at []
bare_statement_by environment form.Break number at parts block = written form.Break number at []
bare_statement_by environment form.Continue number at parts block = written form.Continue number at []
bare_statement_by environment form.Return number at parts block = written form.Return number at (map (bare environment) parts)
bare_statement_by environment (form.Global names) number at parts block = written (form.Global []) number at []
bare_statement_by environment form.Arm number at parts block =
    written form.Arm number at (bare_part environment (slice_get parts 0) ++ drop 1 block)
bare_statement_by environment form.While number at parts block =
    written form.While number at (bare_part environment (slice_get parts 0) ++ drop 1 block)
bare_statement_by environment form.For number at parts block = bare_for environment number at parts (drop 2 block)
bare_statement_by environment form.Declare number at parts block = bare_declare environment number at parts
bare_statement_by environment form.DeclareGroup number at parts block = bare_declare environment number at parts
bare_statement_by environment shape number at parts block = written shape number at block

unfoldable mutual
  pub bare_statement : Environment → Tree → PlainTree
  bare_statement environment (rose shape number at parts) =
      bare_statement_by environment shape number at (listed parts) (bare_statements environment parts)

  pub bare_statements : Environment → Roses Form → List PlainTree
  bare_statements environment none = []
  bare_statements environment (more part parts) = bare_statement environment part ∷ bare_statements environment parts

abbrev pub bare_block : Environment → List Stmt → List PlainTree
bare_block environment stmts = map (λ s. bare_statement environment (rose_of_stmt s)) stmts

-- Forms whose types aren't built: all that isn't on C values. A module with one is refused at the import, function, declaration or
-- statement that has it itself.
use Rattle.std.specs.Prelude.{ℕ, ◌+◌, Bool, true, false, ◌&&◌, not, if◌then◌else◌, nat_lt, nat_le, nat_eq, List, [], ◌∷◌, length, map, zip, Option, Some, None, slice_get}
use Rattle.std.specs.List.{list_all}
use Rattle.px_base.specs.declared.refusals.Span.{Span}
use Rattle.px_base.specs.declared.refusals.Refusal.{Refusal}
use Rattle.px_base.specs.Findings.{first_of}
use Rattle.px_base.specs.declared.c_types.CmpOp.{CmpOp}
use Rattle.px_base.specs.declared.objects.Builtin.{Builtin}
use Rattle.px_base.specs.declared.objects.Builtin.TheVariants as builtin
use Rattle.px_tree.specs.declared.modules.Lock.{Lock}
use Rattle.px_tree.specs.declared.modules.Lock.TheVariants as lock
use Rattle.px_tree.specs.declared.modules.Function.{Function}
use Rattle.px_tree.specs.declared.statements.Stmt.{Stmt}
use Rattle.px_tree.specs.declared.typed_values.ValueType.{ValueType}
use Rattle.px_tree.specs.declared.typed_values.ValueType.TheVariants as value
use Rattle.px_walk.specs.declared.heads.ResultKind.{ResultKind}
use Rattle.px_walk.specs.declared.heads.ResultKind.TheVariants as gives
use Rattle.px_walk.specs.Forms.{Form, FunctionForm}
use Rattle.px_walk.specs.Forms as form
use Rattle.px_walk.specs.Roses.{head_of, number_of, at_of, parts_of, occurrences}
use Rattle.px_walk.specs.Findings.{finding}
use Rattle.px_walk.specs.ExprView.{Tree}
use Rattle.px_walk.specs.StmtView.{rose_of_stmt}
use Rattle.px_walk.specs.ModuleView.{rose_of_function}
use Rattle.px_names.specs.declared.meanings.Meaning.{Meaning}
use Rattle.px_names.specs.declared.meanings.Meaning.TheVariants as meaning
use Rattle.px_names.specs.declared.named.NamedCode.{NamedCode}
use Rattle.px_names.specs.declared.named.Named.{Named}
use Rattle.px_names.specs.Contexts.{count_of_result, count_of_exception}
use Rattle.px_names.specs.NamedModule.{functions_of}
use Rattle.px_names.specs.Uses.{unless, is_call}
use Rattle.px_environments.specs.declared.form_contexts.FormRole.{FormRole}
use Rattle.px_environments.specs.declared.form_contexts.FormRole.TheVariants as role
use Rattle.px_environments.specs.declared.form_contexts.FormContext.{FormContext}
use Rattle.px_environments.specs.declared.signatures.Variable.{Variable}
use Rattle.px_environments.specs.declared.signatures.Signature.{Signature}
use Rattle.px_environments.specs.Environments.{Environment}
use Rattle.px_environments.specs.Atoms.{atom_meaning, c_comparison, is_long, is_range_head}
use Rattle.px_environments.specs.WrittenTypes.{type_of_part, first_type}
use Rattle.px_environments.specs.Signatures.{function_environment, module_environment, statements_of}

-- Types

abbrev pub is_c : Option ValueType → Bool
is_c (Some (value.C t)) = true
is_c _ = false

-- neither a view type nor what is no type
abbrev pub is_plain : Option ValueType → Bool
is_plain (Some (value.C t)) = true
is_plain (Some value.Object) = true
is_plain _ = false

abbrev pub is_object : Option ValueType → Bool
is_object (Some value.Object) = true
is_object _ = false

-- Functions have no lock clause and give no view. What they give else is no form of theirs.

abbrev pub is_unlocked : Lock → Bool
is_unlocked lock.Unwritten = true
is_unlocked lock.Nogil = false
is_unlocked lock.WithGil = false

abbrev pub is_plain_result : ResultKind → Option ValueType → Bool
is_plain_result gives.Unwritten t = true
is_plain_result gives.Void t = true
is_plain_result gives.Typed t = is_plain t

-- the type of the result stands behind the decorators
abbrev pub is_function_built : FunctionForm → List Tree → Bool
is_function_built f parts = is_unlocked f.lock && is_plain_result f.gives (type_of_part (slice_get parts f.decorators))

-- Names are those of C variables; what is called is judged with its row.

abbrev pub is_variable_built : Option Variable → Bool
is_variable_built None = false
is_variable_built (Some variable) = is_c (Some variable.value_type)

abbrev pub is_name_built : Environment → Option Meaning → Bool
is_name_built environment (Some (meaning.Local declaration kind)) = is_variable_built (environment.variables declaration)
is_name_built environment (Some meaning.Module) = false
is_name_built environment _ = true

-- Rows are calls. A function with an object result is called as a statement alone, where it is a `def` function, and so is `print`.

abbrev pub are_calls : List Tree → Bool
are_calls trailers = list_all (λ trailer. is_call (head_of trailer)) trailers

abbrev pub is_alone : FormRole → List Tree → Bool
is_alone role.Alone trailers = nat_eq (length trailers) 1
is_alone r trailers = false

abbrev pub is_in_head : FormRole → List Tree → Bool
is_in_head role.Head trailers = nat_eq (length trailers) 1
is_in_head r trailers = false

abbrev pub is_result_built : FormRole → List Tree → Bool → ValueType → Bool
is_result_built r trailers is_def (value.C t) = are_calls trailers
is_result_built r trailers is_def value.Void = are_calls trailers
is_result_built r trailers is_def value.Object = is_def && is_alone r trailers
is_result_built r trailers is_def (value.View t) = false

abbrev pub is_function_call_built : FormRole → List Tree → Option Signature → Bool
is_function_call_built r trailers None = false
is_function_call_built r trailers (Some f) = is_result_built r trailers f.is_def f.gives

-- how many arguments the first call of a row has
abbrev pub count_of_arguments : List Tree → ℕ
count_of_arguments [] = 0
count_of_arguments (call ∷ trailers) = length (parts_of call)

abbrev pub is_builtin_built : FormRole → List Tree → Builtin → Bool
is_builtin_built r trailers builtin.Print = is_alone r trailers
is_builtin_built r trailers builtin.Abs = are_calls trailers
is_builtin_built r trailers builtin.Min = nat_le 2 (count_of_arguments trailers) && are_calls trailers
is_builtin_built r trailers builtin.Max = nat_le 2 (count_of_arguments trailers) && are_calls trailers
is_builtin_built r trailers builtin.Range = is_in_head r trailers
is_builtin_built r trailers _ = false

abbrev pub is_use_built : Environment → FormRole → List Tree → Option Meaning → Bool
is_use_built environment r trailers (Some (meaning.Function f params)) = is_function_call_built r trailers (environment.functions f)
is_use_built environment r trailers (Some (meaning.Builtin b)) = is_builtin_built r trailers b
is_use_built environment r trailers (Some (meaning.Import imported)) = false
is_use_built environment r trailers _ = are_calls trailers

abbrev pub is_row_built : Environment → FormRole → List Tree → Bool
is_row_built environment r [] = false
is_row_built environment r (atom ∷ trailers) = is_use_built environment r trailers (atom_meaning environment atom)

-- `in` and `is` are steps on objects.

abbrev pub is_c_comparison : Option CmpOp → Bool
is_c_comparison None = false
is_c_comparison (Some op) = true

-- Loops go over `range`.

abbrev pub is_over_range : Environment → Option Tree → Bool
is_over_range environment None = false
is_over_range environment (Some tree) = is_range_head environment tree (head_of tree)

-- A function with an object result returns no value of its own.
abbrev pub is_return_built : Option ValueType → List Tree → Bool
is_return_built gives [] = true
is_return_built gives (value ∷ parts) = not (is_object gives)

-- whether a form is one on C values, as far as the node itself shows it
abbrev pub is_built : Environment → FormRole → ℕ → Form → List Tree → Bool
is_built environment r number (form.Function f) parts = is_function_built f parts
is_built environment r number (form.Param name is_not_none) parts = is_c (first_type parts)
is_built environment r number form.Declaration parts = is_c (first_type parts)
is_built environment r number form.Return parts = is_return_built environment.gives parts
is_built environment r number (form.Raise name) parts = false
is_built environment r number form.For parts = is_over_range environment (slice_get parts 1)
is_built environment r number form.WithGil parts = false
is_built environment r number form.WithNogil parts = false
is_built environment r number (form.Name name) parts = is_name_built environment (environment.meanings number)
is_built environment r number (form.Number n) parts = is_long n
is_built environment r number (form.Text contents) parts = false
is_built environment r number form.None parts = false
is_built environment r number form.Tuple parts = false
is_built environment r number form.ListDisplay parts = false
is_built environment r number form.Dict parts = false
is_built environment r number form.Row parts = is_row_built environment r parts
is_built environment r number form.Cast parts = is_c (first_type parts)
is_built environment r number (form.Comparison op) parts = is_c_comparison (c_comparison op)
is_built environment r number _ parts = true

-- Nothing in an `except` clause is tested.
abbrev pub is_tested_built : Environment → FormRole → ℕ → Form → List Tree → Bool
is_tested_built environment role.Untested number head parts = true
is_tested_built environment r number head parts = is_built environment r number head parts

-- The import, function, declaration or statement round a node, or itself

abbrev pub has_place : Form → Bool
has_place (form.Import is_cimport names alias) = true
has_place (form.ImportFrom is_cimport names) = true
has_place (form.Function f) = true
has_place (form.Assign targets) = true
has_place (form.Augment op) = true
has_place form.Pass = true
has_place form.Break = true
has_place form.Continue = true
has_place form.Return = true
has_place (form.Raise name) = true
has_place (form.Global names) = true
has_place (form.If arms has_else) = true
has_place form.While = true
has_place form.For = true
has_place form.WithGil = true
has_place form.WithNogil = true
has_place form.Declare = true
has_place form.DeclareGroup = true
has_place form.Declaration = true
has_place _ = false

abbrev pub place_of : FormContext → Tree → Span
place_of context node = if has_place (head_of node) then at_of node else context.at

-- The context of the k-th part of a node

abbrev pub is_within : ℕ → ℕ → ℕ → Bool
is_within from count k = nat_le from k && nat_lt k (from + count)

-- the value of the `except` clause stands behind the decorators, the type of the result and the parameters
abbrev pub is_exception_part : FunctionForm → ℕ → Bool
is_exception_part f k = is_within (f.decorators + count_of_result f.gives + f.params) (count_of_exception f.exception) k

abbrev pub role_where : Bool → FormRole → FormRole
role_where holds r = if holds then r else role.Other

abbrev pub tested_role : Form → ℕ → FormRole
tested_role (form.Function f) k = role_where (is_exception_part f k) role.Untested
tested_role (form.Assign targets) k = role_where (nat_eq targets 0) role.Alone
tested_role form.For k = role_where (nat_eq k 1) role.Head
tested_role _ k = role.Other

abbrev pub role_below : FormRole → Form → ℕ → FormRole
role_below role.Untested head k = role.Untested
role_below r head k = tested_role head k

abbrev pub form_below : FormContext → Tree → ℕ → FormContext
form_below context node k = record { at = place_of context node; role = role_below context.role (head_of node) k }

-- what a node breaks
abbrev pub unbuilt_at : Environment → FormContext → Tree → Option Refusal
unbuilt_at environment context node =
    unless (is_tested_built environment context.role (number_of node) (head_of node) (parts_of node)) 27 (place_of context node)

-- the first form below a node that isn't built
abbrev pub unbuilt_below : Environment → Tree → Option Refusal
unbuilt_below environment tree =
    finding (unbuilt_at environment) (occurrences form_below (record { at = at_of tree; role = role.Other }) tree)

-- the first one in a module

abbrev pub unbuilt_in_function : List Function → Function × NamedCode → Option Refusal
unbuilt_in_function functions (f, code) = unbuilt_below (function_environment functions (f, code)) (rose_of_function f)

-- where what its names stand for is known
abbrev pub unbuilt_in_known : List Function → Function → Option NamedCode → Option Refusal
unbuilt_in_known functions f None = None
unbuilt_in_known functions f (Some code) = unbuilt_in_function functions (f, code)

abbrev pub unbuilt_in_code : List Function → NamedCode → Stmt → Option Refusal
unbuilt_in_code functions code s = unbuilt_below (module_environment functions code) (rose_of_stmt s)

abbrev pub first_in : List (Option Refusal) → Option Refusal
first_in [] = None
first_in (found ∷ others) = first_of found (first_in others)

abbrev pub unbuilt_in : Named → Option Refusal
unbuilt_in named =
    first_of
    (first_in (map (unbuilt_in_code (functions_of named.«module») named.code) (statements_of named.«module»)))
    (first_in (map (unbuilt_in_function (functions_of named.«module»)) (zip (functions_of named.«module») named.functions)))

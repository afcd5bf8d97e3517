-- A module as a rose tree.
use Rattle.std.specs.Prelude.{Bool, List, [], ◌∷◌, ◌++◌, length, map}
use Rattle.px_tree.specs.declared.modules.Comment.{Comment}
use Rattle.px_tree.specs.declared.modules.ImportedName.{ImportedName}
use Rattle.px_tree.specs.declared.modules.ImportForm.{ImportForm}
use Rattle.px_tree.specs.declared.modules.ImportForm.TheVariants as imports
use Rattle.px_tree.specs.declared.modules.Import.{Import}
use Rattle.px_tree.specs.declared.modules.Decorator.{Decorator}
use Rattle.px_tree.specs.declared.modules.ResultType.{ResultType}
use Rattle.px_tree.specs.declared.modules.ResultType.TheVariants as gives
use Rattle.px_tree.specs.declared.modules.ExceptionForm.{ExceptionForm}
use Rattle.px_tree.specs.declared.modules.ExceptionForm.TheVariants as exception
use Rattle.px_tree.specs.declared.modules.Param.{Param}
use Rattle.px_tree.specs.declared.modules.Function.{Function}
use Rattle.px_tree.specs.declared.modules.ModuleItem.{ModuleItem}
use Rattle.px_tree.specs.declared.modules.ModuleItem.TheVariants as item
use Rattle.px_tree.specs.declared.modules.Module.{Module}
use Rattle.px_walk.specs.declared.heads.ResultKind.{ResultKind}
use Rattle.px_walk.specs.declared.heads.ResultKind.TheVariants as result_kind
use Rattle.px_walk.specs.declared.heads.ExceptionKind.{ExceptionKind}
use Rattle.px_walk.specs.declared.heads.ExceptionKind.TheVariants as exception_kind
use Rattle.px_walk.specs.Forms.{Form, FunctionForm}
use Rattle.px_walk.specs.Forms as form
use Rattle.px_walk.specs.ExprView.{Tree, node, if_written, rose_of_type, rose_of_expr}
use Rattle.px_walk.specs.StmtView.{rose_of_stmt}

abbrev pub rose_of_comment : Comment → Tree
rose_of_comment comment = node (form.Comment comment.text) 0 comment.at []

abbrev pub rose_of_imported_name : ImportedName → Tree
rose_of_imported_name imported = node (form.ImportedName imported.name imported.alias) imported.number imported.at []

abbrev pub import_form : Bool → ImportForm → Form
import_form is_cimport (imports.Whole names alias) = form.Import is_cimport names alias
import_form is_cimport (imports.Parts names parts) = form.ImportFrom is_cimport names

abbrev pub import_parts : ImportForm → List Tree
import_parts (imports.Whole names alias) = []
import_parts (imports.Parts names parts) = map rose_of_imported_name parts

abbrev pub rose_of_import : Import → Tree
rose_of_import imported =
    node (import_form imported.is_cimport imported.form) imported.number imported.at (import_parts imported.form)

abbrev pub rose_of_decorator : Decorator → Tree
rose_of_decorator decorator =
    node (form.Decorator decorator.name decorator.name_at decorator.value) decorator.number decorator.at []

abbrev pub rose_of_param : Param → Tree
rose_of_param param = node (form.Param param.name param.is_not_none) param.number param.at (if_written rose_of_type param.typing)

abbrev pub result_kind_of : ResultType → ResultKind
result_kind_of gives.Unwritten = result_kind.Unwritten
result_kind_of gives.Void = result_kind.Void
result_kind_of (gives.Of typing) = result_kind.Typed

abbrev pub result_parts : ResultType → List Tree
result_parts gives.Unwritten = []
result_parts gives.Void = []
result_parts (gives.Of typing) = rose_of_type typing ∷ []

abbrev pub exception_kind_of : ExceptionForm → ExceptionKind
exception_kind_of exception.Unwritten = exception_kind.Unwritten
exception_kind_of exception.Noexcept = exception_kind.Noexcept
exception_kind_of (exception.Except value) = exception_kind.Except
exception_kind_of (exception.Maybe value) = exception_kind.Maybe
exception_kind_of exception.Any = exception_kind.Any

abbrev pub exception_parts : ExceptionForm → List Tree
exception_parts exception.Unwritten = []
exception_parts exception.Noexcept = []
exception_parts (exception.Except value) = rose_of_expr value ∷ []
exception_parts (exception.Maybe value) = rose_of_expr value ∷ []
exception_parts exception.Any = []

abbrev pub form_of_function : Function → FunctionForm
form_of_function f = record {
  header_at = f.header_at;
  kind = f.kind;
  is_inline = f.is_inline;
  gives = result_kind_of f.gives;
  name = f.name;
  exception = exception_kind_of f.exception;
  lock = f.lock;
  decorators = length f.decorators;
  params = length f.params;
}

-- from the type of its result on
abbrev pub signature_parts : Function → List Tree
signature_parts f =
    result_parts f.gives ++ (map rose_of_param f.params ++ (exception_parts f.exception ++ map rose_of_stmt f.body))

abbrev pub function_parts : Function → List Tree
function_parts f = map rose_of_decorator f.decorators ++ signature_parts f

abbrev pub rose_of_function : Function → Tree
rose_of_function f = node (form.Function (form_of_function f)) f.number f.at (function_parts f)

abbrev pub rose_of_item : ModuleItem → Tree
rose_of_item (item.Import imported) = rose_of_import imported
rose_of_item (item.Function f) = rose_of_function f
rose_of_item (item.Statement s) = rose_of_stmt s

abbrev pub rose_of_module : Module → Tree
rose_of_module m =
    node (form.Module (length m.comments)) m.number m.at (map rose_of_comment m.comments ++ map rose_of_item m.items)

-- A head as plain data.
use Rattle.std.specs.Prelude.{option_copied}
use Rattle.px_walk.specs.Forms.{Form, FunctionForm}
use Rattle.px_walk.specs.Forms as form
use Rattle.px_walk.specs.declared.heads.Head.{Head}
use Rattle.px_walk.specs.declared.heads.Head.TheVariants as head
use Rattle.px_walk.specs.declared.heads.FunctionHead.{FunctionHead}

abbrev pub function_form : FunctionHead → FunctionForm
function_form f = record {
  header_at = f.header_at;
  kind = f.kind;
  is_inline = f.is_inline;
  gives = f.gives;
  name = f.name.now;
  exception = f.exception;
  lock = f.lock;
  decorators = f.decorators;
  params = f.params;
}

abbrev pub form_of : Head → Form
form_of (head.Module comments) = form.Module comments
form_of (head.Comment text) = form.Comment text.now
form_of (head.Import is_cimport names alias) = form.Import is_cimport names.now (option_copied alias)
form_of (head.ImportFrom is_cimport names) = form.ImportFrom is_cimport names.now
form_of (head.ImportedName name alias) = form.ImportedName name.now (option_copied alias)
form_of (head.Function f) = form.Function (function_form f)
form_of (head.Decorator names name_at value) = form.Decorator names.now name_at value
form_of (head.Param name is_not_none) = form.Param name.now is_not_none
form_of (head.«Type» is_const base axes) = form.«Type» is_const base axes.now
form_of (head.Assign targets) = form.Assign targets
form_of (head.Augment op) = form.Augment op
form_of head.Pass = form.Pass
form_of head.Break = form.Break
form_of head.Continue = form.Continue
form_of head.Return = form.Return
form_of (head.Raise name) = form.Raise name.now
form_of (head.Global names) = form.Global names.now
form_of (head.If arms has_else) = form.If arms has_else
form_of head.While = form.While
form_of head.For = form.For
form_of head.WithGil = form.WithGil
form_of head.WithNogil = form.WithNogil
form_of head.Declare = form.Declare
form_of head.DeclareGroup = form.DeclareGroup
form_of head.Arm = form.Arm
form_of head.Declaration = form.Declaration
form_of (head.Declarator name) = form.Declarator name.now
form_of (head.Name name) = form.Name name.now
form_of (head.Number n) = form.Number n
form_of (head.Text contents) = form.Text contents.now
form_of head.True = form.True
form_of head.False = form.False
form_of head.None = form.None
form_of head.Sizeof = form.Sizeof
form_of head.Tuple = form.Tuple
form_of head.ListDisplay = form.ListDisplay
form_of head.Dict = form.Dict
form_of head.Row = form.Row
form_of (head.Unary op) = form.Unary op
form_of head.Cast = form.Cast
form_of head.Chain = form.Chain
form_of head.Compare = form.Compare
form_of head.Not = form.Not
form_of head.And = form.And
form_of head.Or = form.Or
form_of head.Conditional = form.Conditional
form_of head.Entry = form.Entry
form_of (head.Attribute name) = form.Attribute name.now
form_of head.Call = form.Call
form_of (head.Subscript has_comma) = form.Subscript has_comma
form_of (head.Argument name) = form.Argument (option_copied name)
form_of head.Index = form.Index
form_of (head.Slice has_from has_to has_step) = form.Slice has_from has_to has_step
form_of head.Ellipsis = form.Ellipsis
form_of (head.Link op) = form.Link op
form_of (head.Comparison op) = form.Comparison op

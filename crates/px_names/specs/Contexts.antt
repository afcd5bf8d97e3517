-- The nodes of a module, each with the function in whose parameters or body it is, and with its role.
use Rattle.std.specs.Prelude.{ℕ, ◌+◌, ◌-◌, if◌then◌else◌, nat_lt, List, Some, None}
use Rattle.px_tree.specs.declared.modules.Module.{Module}
use Rattle.px_walk.specs.declared.heads.ResultKind.{ResultKind}
use Rattle.px_walk.specs.declared.heads.ResultKind.TheVariants as gives
use Rattle.px_walk.specs.declared.heads.ExceptionKind.{ExceptionKind}
use Rattle.px_walk.specs.declared.heads.ExceptionKind.TheVariants as exception
use Rattle.px_walk.specs.Forms.{Form, FunctionForm}
use Rattle.px_walk.specs.Forms as form
use Rattle.px_walk.specs.Roses.{head_of, number_of, occurrences}
use Rattle.px_walk.specs.ExprView.{Tree}
use Rattle.px_walk.specs.ModuleView.{rose_of_module}
use Rattle.px_names.specs.declared.contexts.Role.{Role}
use Rattle.px_names.specs.declared.contexts.Role.TheVariants as role
use Rattle.px_names.specs.declared.contexts.Context.{Context}

-- a node in its context
abbrev pub Node : Type 0
Node = Context × Tree

-- what stands in a module belongs to no function
abbrev pub module_code : Context
module_code = record { function = None; role = role.Block }

-- The parts of a function: its decorators, the type of its result, its parameters, the value of its `except` clause, and its
-- body. The counts of those that may be left out:

abbrev pub count_of_result : ResultKind → ℕ
count_of_result gives.Unwritten = 0
count_of_result gives.Void = 0
count_of_result gives.Typed = 1

abbrev pub count_of_exception : ExceptionKind → ℕ
count_of_exception exception.Unwritten = 0
count_of_exception exception.Noexcept = 0
count_of_exception exception.Except = 1
count_of_exception exception.Maybe = 1
count_of_exception exception.Any = 0

-- Behind the decorators a part is of the header, whose first parts are the type of the result and the parameters, or of the body.
-- Nothing in an `except` clause is tested.
abbrev pub role_behind_decorators : FunctionForm → ℕ → Role
role_behind_decorators f k =
    if nat_lt k (count_of_result f.gives + f.params) then role.Block
    else if nat_lt k (count_of_result f.gives + f.params + count_of_exception f.exception) then role.Untested
    else role.Body

-- decorators are module code
abbrev pub within_function : ℕ → FunctionForm → ℕ → Context
within_function number f k =
    if nat_lt k f.decorators then module_code
    else record { function = Some number; role = role_behind_decorators f (k - f.decorators) }

-- the items of a list of targets are targets
abbrev pub item_role : Role → Role
item_role role.Target = role.Target
item_role _ = role.Value

-- the role of the k-th part of a node, by the node's own
abbrev pub tested_role : Role → Form → ℕ → Role
tested_role r (form.Module comments) k = role.Block
tested_role r (form.Assign targets) k = if nat_lt k targets then role.Target else role.Value
tested_role r (form.Augment op) k = if nat_lt k 1 then role.Target else role.Value
tested_role r (form.If arms has_else) k = role.Block
tested_role r form.Arm k = if nat_lt k 1 then role.Value else role.Block
tested_role r form.While k = if nat_lt k 1 then role.Value else role.Block
tested_role r form.For k = if nat_lt k 1 then role.Target else if nat_lt k 2 then role.Head else role.Block
tested_role r form.WithGil k = role.Block
tested_role r form.WithNogil k = role.Block
tested_role r form.Tuple k = item_role r
tested_role r form.Row k = if nat_lt k 1 then role.Atom else role.Value
tested_role r _ k = role.Value

abbrev pub role_below : Role → Form → ℕ → Role
role_below role.Untested head k = role.Untested
role_below r head k = tested_role r head k

abbrev pub context_below : Context → Form → ℕ → ℕ → Context
context_below context (form.Function f) number k = within_function number f k
context_below context head number k = record { function = context.function; role = role_below context.role head k }

-- the context of the k-th part of a node
abbrev pub down : Context → Tree → ℕ → Context
down context node k = context_below context (head_of node) (number_of node) k

-- all nodes of a module, in the order of the text
abbrev pub nodes_of : Module → List Node
nodes_of m = occurrences down module_code (rose_of_module m)

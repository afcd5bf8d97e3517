-- The code of functions and of module code.
use Rattle.std.specs.Prelude.{ℕ, zero, suc, ◌+◌, ◌-◌, pos, Bool, ◌||◌, nat_eq, not, if◌then◌else◌, List, [], ◌∷◌, ◌++◌, length, map, replicate}
use Rattle.px_walk.specs.Roses.{at_of}
use Rattle.px_typed_walk.specs.TypedView.{TypedRose}
use Rattle.px_regcode.specs.declared.instructions.Instr.{Instr}
use Rattle.px_regcode.specs.declared.instructions.Instr.TheVariants as instr
use Rattle.px_exprgen.specs.ExpressionCode.{register, behind}
use Rattle.px_stmtgen.specs.declared.layouts.Layout.{Layout}
use Rattle.px_stmtgen.specs.Layouts.{drops, ending_code}
use Rattle.px_stmtgen.specs.StatementCode.{StatementEmission, in_turn_code, statement_code}

-- variables of C types begin as 0
abbrev pub zeros : ℕ → ℕ → List Instr
zeros first zero = []
zeros first (suc count) = instr.Const (register first) (pos 0) ∷ zeros (suc first) count

-- the statements, and the end behind them
abbrev pub body_code : Layout → List TypedRose → StatementEmission
body_code l body pc = behind (in_turn_code (map (statement_code l) body) pc) (λ next. ending_code l l.gives) pc

-- Where a fault goes in a function that has registers for objects, or that swallows faults: the objects are let go, and then the fault is
-- passed on, or the function ends without a value.
abbrev pub cleanup : Layout → Bool → List Instr
cleanup l swallows = drops l.variables l.objects ++ (if swallows then ending_code l l.gives else instr.Throw ∷ [])

-- whether a function needs that
abbrev pub handles : Layout → Bool → Bool
handles l swallows = not (nat_eq l.objects 0) || swallows

-- its code stands at the function's beginning, and is jumped over
abbrev pub prologue : Layout → Bool → List Instr
prologue l swallows =
    if handles l swallows
    then instr.Jump (suc (length (cleanup l swallows))) ∷ (cleanup l swallows ++ instr.Handle 1 ∷ [])
    else []

-- a function: the first variables are its parameters
unfoldable pub function_code : Layout → ℕ → Bool → List TypedRose → List Instr
function_code l params swallows body =
    behind (prologue l swallows ++ zeros params (l.variables - params)) (body_code l body) 0

-- ---- lines

-- for each instruction of statements one behind another the line on which the statement begins
abbrev pub lines_in_turn : Layout → List TypedRose → ℕ → List ℕ
lines_in_turn l [] pc = []
lines_in_turn l (tree ∷ trees) pc =
    replicate (length (statement_code l tree pc)) (at_of tree).line ++ lines_in_turn l trees (pc + length (statement_code l tree pc))

-- where the statements of a function begin
abbrev pub body_start : Layout → ℕ → Bool → ℕ
body_start l params swallows = length (prologue l swallows ++ zeros params (l.variables - params))

-- What stands before the statements and behind them stems from the header, which is on this line.
abbrev pub function_lines : Layout → ℕ → ℕ → Bool → List TypedRose → List ℕ
function_lines l line params swallows body =
    replicate (body_start l params swallows) line
    ++ (lines_in_turn l body (body_start l params swallows) ++ replicate (length (ending_code l l.gives)) line)

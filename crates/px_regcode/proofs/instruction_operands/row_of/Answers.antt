use Rattle.px_regcode.specs.InstructionGroups.{is_flow, is_view, is_value, is_builtin}
use Rattle.px_regcode.specs.Listing.{operands_of}
use Rattle.px_regcode.proofs.Groups.{not_there, none_left}
use Rattle.px_regcode.proofs.instruction_operands.row_of.Goals as goal

pub returns : goal.returns
returns c =
    let i = c.args.instr.now in
    let all = operands_of i in
    none_left i (not_there (is_flow i) all c.in_default.ensures) (not_there (is_view i) all c.in_default-view_row.ensures)
    (not_there (is_value i) all c.in_default-value_row.ensures) (not_there (is_builtin i) all c.in_default-builtin_row.ensures)

use Rattle.std.proofs.Common.{map}
use Rattle.px_typed_walk.specs.TypedView.{rose_of_typed}
use Rattle.px_stmtgen.proofs.Lines.{lined, whole_lines}
use Rattle.px_stmtgen.proofs.Wholes.{front_is, whole_function}
use Rattle.px_stmtgen.proofs.functions.function.Goals as goal

pub fill-requires-2 : goal.fill-requires-2
fill-requires-2 c =
    let lines = lined c.args.layout c.args.line (map rose_of_typed c.args.body.now) c.zeros.new.code c.statements.new.code c.ending.new.code
    c.new-lines.result c.fill.new.lines c.statements.new.lines c.in_ok-statements.ensures.code c.in_ok-ending.ensures c.new-lines.ensures
    c.in_ok-fill.ensures c.in_ok-statements.ensures.lines in
    lines.enough

pub returns-clause-code : goal.returns-clause-code
returns-clause-code c =
    whole_function c.args.layout c.args.params c.args.swallows (map rose_of_typed c.args.body.now) c.new-code.result c.begin.new.code c.zeros.new.code
    c.statements.new.code c.ending.new.code c.saturating_sub.result c.new-code.ensures c.in_ok-begin.ensures c.saturating_sub.ensures
    c.in_ok-zeros.ensures c.in_ok-statements.ensures.code c.in_ok-ending.ensures

pub returns-clause-lines : goal.returns-clause-lines
returns-clause-lines c =
    let lines = lined c.args.layout c.args.line (map rose_of_typed c.args.body.now) c.zeros.new.code c.statements.new.code c.ending.new.code
    c.new-lines.result c.fill.new.lines c.statements.new.lines c.in_ok-statements.ensures.code c.in_ok-ending.ensures c.new-lines.ensures
    c.in_ok-fill.ensures c.in_ok-statements.ensures.lines in
    let front = front_is c.args.layout c.args.params c.args.swallows c.new-code.result c.begin.new.code c.zeros.new.code c.saturating_sub.result
    c.new-code.ensures c.in_ok-begin.ensures c.saturating_sub.ensures c.in_ok-zeros.ensures in
    whole_lines c.args.layout c.args.line c.args.params c.args.swallows (map rose_of_typed c.args.body.now) c.zeros.new.code c.statements.new.code
    c.ending.new.code c.fill.new.lines c.statements.new.lines c.fill-2.new.lines front lines c.in_ok-statements.ensures.lines c.in_ok-fill-2.ensures

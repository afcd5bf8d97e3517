use Rattle.std.proofs.Common.{arith}
use Rattle.px_lexer.proofs.EscapeLemmas.{next_digit, number_room, unwrap_known}
use Rattle.px_lexer.proofs.string_content.number.Goals as goal

pub overflow_add-from : goal.overflow_add-from
overflow_add-from c =
    let d = next_digit c.args.body.now c.args.from c.args.base c.loop-read.read c.args.count c.requires.inside c.requires.digits c.loop-read-test.true in
    omega arith

pub overflow_mul-value : goal.overflow_mul-value
overflow_mul-value c =
    let d = number_room c.args.base c.loop-read.value 0 c.loop-read.read c.args.count c.requires.low c.loop-read.invariant.small (omega arith) c.loop-read-test.true c.requires.fits in
    omega arith

pub overflow_add-value : goal.overflow_add-value
overflow_add-value c =
    let n = next_digit c.args.body.now c.args.from c.args.base c.loop-read.read c.args.count c.requires.inside c.requires.digits c.loop-read-test.true in
    let e = unwrap_known c.digit_at.result _ _ c.digit_at.ensures n.below in
    let d = number_room c.args.base c.loop-read.value c.unwrap_or-digit.result c.loop-read.read c.args.count c.requires.low c.loop-read.invariant.small (omega arith) c.loop-read-test.true c.requires.fits in
    omega arith

pub loop-read-preserved : goal.loop-read-preserved
loop-read-preserved c =
    let n = next_digit c.args.body.now c.args.from c.args.base c.loop-read.read c.args.count c.requires.inside c.requires.digits c.loop-read-test.true in
    let e = unwrap_known c.digit_at.result _ _ c.digit_at.ensures n.below in
    let d = number_room c.args.base c.loop-read.value c.unwrap_or-digit.result c.loop-read.read c.args.count c.requires.low c.loop-read.invariant.small (omega arith) c.loop-read-test.true c.requires.fits in
    let m = n.more c.requires.high in
    let v = c.loop-read.invariant.value in
    record { inside = omega arith; value = cc; small = omega arith }

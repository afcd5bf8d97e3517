use Rattle.std.proofs.Common.{refl}
use Rattle.px_base.proofs.Facts.{denied}
use Rattle.px_lexer.proofs.NumberReading.{refused_bad, refused_float, refused_wide, reads_number, kept, ends_at, end_inside, whole_here}
use Rattle.px_lexer.proofs.numbers.number.Goals as goal

pub returns-then-is_bad : goal.returns-then-is_bad
returns-then-is_bad c =
    let l = c.literal_at-literal in
    refused_bad c.args.cs.now c.args.from l.result.to (ends_at c.args.cs.now c.args.from l.result.to c.requires l.ensures.to) (c.if-is_bad.ensures.0 refl)

pub returns-then-literal : goal.returns-then-literal
returns-then-literal c =
    let l = c.literal_at-literal in
    refused_float c.args.cs.now c.args.from l.result c.requires l.ensures (denied c.if-is_bad.ensures refl) c.if-literal.true

pub value-requires-clause-lower : goal.value-requires-clause-lower
value-requires-clause-lower c = (whole_here c.args.cs.now c.args.from c.literal_at-literal.result c.requires c.literal_at-literal.ensures c.if-literal.false).lower

pub value-requires-clause-upper : goal.value-requires-clause-upper
value-requires-clause-upper c = (whole_here c.args.cs.now c.args.from c.literal_at-literal.result c.requires c.literal_at-literal.ensures c.if-literal.false).upper

pub value-requires-clause-inside : goal.value-requires-clause-inside
value-requires-clause-inside c = end_inside c.args.cs.now c.args.from c.literal_at-literal.result c.requires c.literal_at-literal.ensures

pub value-requires-clause-digits : goal.value-requires-clause-digits
value-requires-clause-digits c = (whole_here c.args.cs.now c.args.from c.literal_at-literal.result c.requires c.literal_at-literal.ensures c.if-literal.false).digits

pub returns-in-Some : goal.returns-in-Some
returns-in-Some c =
    let l = c.literal_at-literal in
    reads_number c.args.cs.now c.args.from l.result _ c.requires l.ensures (denied c.if-is_bad.ensures refl) c.if-literal.false (kept c.in-Some.value _ c.in-Some.ensures.0 c.in-Some.ensures.1) c.in-Some.ensures.1

pub returns-in-None : goal.returns-in-None
returns-in-None c =
    let l = c.literal_at-literal in
    refused_wide c.args.cs.now c.args.from l.result c.requires l.ensures (denied c.if-is_bad.ensures refl) c.if-literal.false c.in-None.ensures

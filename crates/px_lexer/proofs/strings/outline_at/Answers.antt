use Rattle.std.proofs.Common.{arith, ap, ◌∙◌}
use Rattle.px_lexer.specs.Strings.{is_quote}
use Rattle.px_lexer.proofs.StringBodyLemmas.{outline_found, opening_is_quote}
use Rattle.px_lexer.proofs.strings.outline_at.Goals as goal

pub opening_quotes-quotes-requires : goal.opening_quotes-quotes-requires
opening_quotes-quotes-requires c = opening_is_quote c.args.cs.now c.args.from c.word_end-opening.result c.len-len.result c.new.result c.requires c.word_end-opening.ensures c.len-len.ensures c.new.ensures

pub body_end-body-requires : goal.body_end-body-requires
body_end-body-requires c =
    let q = opening_is_quote c.args.cs.now c.args.from c.word_end-opening.result c.len-len.result c.new.result c.requires c.word_end-opening.ensures c.len-len.ensures c.new.ensures in
    ap is_quote c.opening_quotes-quotes.ensures.code ∙ q

pub overflow_add-end : goal.overflow_add-end
overflow_add-end c =
    let f = outline_found c.args.cs.now c.args.from c.word_end-opening.result c.len-len.result c.count.result c.new.result c.new-2.result c.opening_quotes-quotes.result c.body_end-body.result c.requires c.word_end-opening.ensures c.len-len.ensures c.new.ensures c.opening_quotes-quotes.ensures c.count.ensures c.new-2.ensures c.body_end-body.ensures in
    omega arith

pub overflow_add-result : goal.overflow_add-result
overflow_add-result c =
    let f = outline_found c.args.cs.now c.args.from c.word_end-opening.result c.len-len.result c.count.result c.new.result c.new-2.result c.opening_quotes-quotes.result c.body_end-body.result c.requires c.word_end-opening.ensures c.len-len.ensures c.new.ensures c.opening_quotes-quotes.ensures c.count.ensures c.new-2.ensures c.body_end-body.ensures in
    let r = f.closed_inside c.if-body.true in
    omega arith

pub returns-then-body : goal.returns-then-body
returns-then-body c =
    let f = outline_found c.args.cs.now c.args.from c.word_end-opening.result c.len-len.result c.count.result c.new.result c.new-2.result c.opening_quotes-quotes.result c.body_end-body.result c.requires c.word_end-opening.ensures c.len-len.ensures c.new.ensures c.opening_quotes-quotes.ensures c.count.ensures c.new-2.ensures c.body_end-body.ensures in
    f.outline _ (rw c.if-body.true (omega arith))

pub returns-else-body : goal.returns-else-body
returns-else-body c =
    let f = outline_found c.args.cs.now c.args.from c.word_end-opening.result c.len-len.result c.count.result c.new.result c.new-2.result c.opening_quotes-quotes.result c.body_end-body.result c.requires c.word_end-opening.ensures c.len-len.ensures c.new.ensures c.opening_quotes-quotes.ensures c.count.ensures c.new-2.ensures c.body_end-body.ensures in
    f.outline _ (rw c.if-body.false (omega arith))

use Rattle.std.proofs.Common.{Ok, Err, ◌∙◌, suc, ◌<◌, arith}
use Rattle.std.proofs.lemmas.Result.{err_from_is_err_and}
use Rattle.px_lexer.specs.declared.spelling.Operator.TheVariants as sign
use Rattle.px_lexer.specs.declared.token_list.TokenKind.TheVariants as kind
use Rattle.px_lexer.specs.Terminals.{terminals_of}
use Rattle.px_exprs.proofs.Steps.{fails}
use Rattle.px_exprs.proofs.TokenReading.{goes_on}
use Rattle.px_exprs.proofs.ListSteps.{key_step, colon_refused, value_refused, entry_read}
use Rattle.px_exprs.proofs.grammar.Grammar.entry.Goals as goal

pub returns-in_err-key : goal.returns-in_err-key
returns-in_err-key g c =
    let ts = terminals_of c.args.tokens.now in
    let p = err_from_is_err_and c.from_residual.result c.from_residual.ensures.1 in
    let less : c.args.room < suc c.args.room = omega arith in
    let refused = c.requires.nests.reads c.args.self.now.alloc c.args.tokens c.args.room c.args.from (Err c.in_err-key.field-0.0) c.requires.input c.requires.inside less c.in_err-key.ensures in
    rw (p.1, p.2) (fails (key_step ts c.args.from c.args.room) c.in_err-key.field-0.0 refused)

pub returns-in_err-value_from : goal.returns-in_err-value_from
returns-in_err-value_from g c =
    let p = err_from_is_err_and c.from_residual-in_err-value_from.result c.from_residual-in_err-value_from.ensures.1 in
    let less : c.args.room < suc c.args.room = omega arith in
    let reading = c.requires.nests.reads c.args.self.now.alloc c.args.tokens c.args.room c.args.from (Ok c.in_ok-key.key) c.requires.input c.requires.inside less c.in_ok-key.ensures in
    rw (p.1, p.2) (colon_refused reading c.in_err-value_from.field-0.0 c.in_err-value_from.ensures)

pub element-requires-clause-inside : goal.element-requires-clause-inside
element-requires-clause-inside g c =
    let behind = c.in_ok-value_from.ensures in
    omega (arith, behind.0, goes_on c.args.tokens.now c.in_ok-key.key.to (kind.Operator sign.Colon) c.requires.input behind.1 (omega arith))

pub returns-in_err-value : goal.returns-in_err-value
returns-in_err-value g c =
    let p = err_from_is_err_and c.from_residual-in_err-value.result c.from_residual-in_err-value.ensures.1 in
    let less : c.args.room < suc c.args.room = omega arith in
    let reading = c.requires.nests.reads c.args.self.now.alloc c.args.tokens c.args.room c.args.from (Ok c.in_ok-key.key) c.requires.input c.requires.inside less c.in_ok-key.ensures in
    rw (p.1, p.2) (value_refused reading c.in_ok-value_from.ensures c.in_err-value.field-0.0 c.in_err-value.ensures)

pub returns : goal.returns
returns g c =
    let less : c.args.room < suc c.args.room = omega arith in
    let reading = c.requires.nests.reads c.args.self.now.alloc c.args.tokens c.args.room c.args.from (Ok c.in_ok-key.key) c.requires.input c.requires.inside less c.in_ok-key.ensures in
    rw (c.into_inner.ensures ∙ c.in_ok-key_tree.ensures) (entry_read reading c.in_ok-value_from.ensures c.in_ok-value.ensures c.max.ensures)

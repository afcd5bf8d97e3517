use Rattle.std.proofs.Common.{arith}
use Rattle.std.proofs.lemmas.Result.{err_from_is_err_and}
use Rattle.px_base.proofs.Facts.{denied}
use Rattle.px_lexer.specs.Terminals.{terminals_of}
use Rattle.px_lexer.proofs.TokenAccess.{length_terminals}
use Rattle.px_exprs.proofs.TrailerSteps.{atom_refused, atom_read, row_refused, row_read}
use Rattle.px_exprs.proofs.grammar.Grammar.primary.Goals as goal

pub returns-in_err-first : goal.returns-in_err-first
returns-in_err-first g c =
    let p = err_from_is_err_and c.from_residual.result c.from_residual.ensures.1 in
    rw (p.1, p.2) (atom_refused (terminals_of c.args.tokens.now) c.args.from c.args.room c.in_err-first.field-0.0 c.in_err-first.ensures)

pub returns-then-not-begins_trailer : goal.returns-then-not-begins_trailer
returns-then-not-begins_trailer g c = atom_read c.in_ok-first.ensures (denied c.begins_trailer.ensures c.if-not-begins_trailer.true)

pub trailers-requires-clause-inside : goal.trailers-requires-clause-inside
trailers-requires-clause-inside g c = omega (arith, c.in_ok-first.ensures.within, length_terminals c.args.tokens.now)

pub returns-in_err-others : goal.returns-in_err-others
returns-in_err-others g c =
    let p = err_from_is_err_and c.from_residual-in_err-others.result c.from_residual-in_err-others.ensures.1 in
    rw (p.1, p.2) (row_refused c.in_ok-first.ensures (c.begins_trailer.ensures.0 c.if-not-begins_trailer.false) c.in_err-others.field-0.0 c.in_err-others.ensures)

pub node-requires-clause-small : goal.node-requires-clause-small
node-requires-clause-small g c = omega (arith, c.in_ok-first.ensures.within, length_terminals c.args.tokens.now, c.requires.input.few)

pub returns : goal.returns
returns g c = row_read c.in_ok-first.ensures c.in_ok-others.ensures c.max-depth.ensures c.in_ok-first_tree.ensures c.node.ensures

use Rattle.std.proofs.Common.{refl, arith}
use Rattle.std.proofs.lemmas.Result.{err_from_is_err_and}
use Rattle.px_lexer.specs.declared.spelling.Keyword.TheVariants as word
use Rattle.px_lexer.specs.Terminals.{terminals_of}
use Rattle.px_lexer.proofs.TokenAccess.{length_terminals}
use Rattle.px_parser.proofs.Steps.{fails}
use Rattle.px_parser.proofs.CompoundSteps.{step_if_first, step_if_elifs, step_if_otherwise, if_built, number_inside}
use Rattle.px_parser.proofs.ReadingSteps.{inside_tokens}
use Rattle.px_parser.proofs.blocks.Statements.if_.Goals as goal

pub returns-in_err-first : goal.returns-in_err-first
returns-in_err-first g c =
    let p = err_from_is_err_and c.from_residual-in_err-first.result c.from_residual-in_err-first.ensures.1 in
    rw (p.1, p.2) (fails (step_if_first (terminals_of c.args.tokens.now) c.args.from c.args.room) c.in_err-first.field-0.0 c.in_err-first.ensures)

pub elifs-requires-clause-inside : goal.elifs-requires-clause-inside
elifs-requires-clause-inside g c = inside_tokens c.args.tokens.now _ c.in_ok-first.ensures.within

pub returns-in_err-others : goal.returns-in_err-others
returns-in_err-others g c =
    let p = err_from_is_err_and c.from_residual-in_err-others.result c.from_residual-in_err-others.ensures.1 in
    rw (p.1, p.2) (fails (step_if_elifs c.in_ok-first.ensures) c.in_err-others.field-0.0 c.in_err-others.ensures)

pub otherwise-requires-clause-inside : goal.otherwise-requires-clause-inside
otherwise-requires-clause-inside g c = inside_tokens c.args.tokens.now _ c.in_ok-others.ensures.within

pub returns-in_err-otherwise : goal.returns-in_err-otherwise
returns-in_err-otherwise g c =
    let p = err_from_is_err_and c.from_residual-in_err-otherwise.result c.from_residual-in_err-otherwise.ensures.1 in
    rw (p.1, p.2) (fails (step_if_otherwise c.in_ok-first.ensures c.in_ok-others.ensures) c.in_err-otherwise.field-0.0 c.in_err-otherwise.ensures)

pub arm-requires : goal.arm-requires
arm-requires g c = omega (arith, number_inside word.If c.in_ok-first.ensures, c.requires.input.input.few, length_terminals c.args.tokens.now)

pub returns : goal.returns
returns g c = if_built c.in_ok-first.ensures c.in_ok-others.ensures c.in_ok-otherwise.ensures c.compound-tree.ensures.1 (rw (c.in_ok-append.ensures, c.in_ok-push.ensures.ok, c.arm.ensures, c.in_ok-arms.ensures) refl) c.compound-tree.ensures.2

pub compound-tree-requires-clause-small : goal.compound-tree-requires-clause-small
compound-tree-requires-clause-small g c = omega (arith, number_inside word.If c.in_ok-first.ensures, c.requires.input.input.few, length_terminals c.args.tokens.now)

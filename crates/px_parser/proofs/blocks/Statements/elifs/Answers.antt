use Rattle.std.proofs.Common.{◌-◌, ◌<◌, length, arith}
use Rattle.std.proofs.lemmas.Result.{err_from_is_err_and}
use Rattle.px_base.proofs.Facts.{denied}
use Rattle.px_lexer.specs.declared.spelling.Keyword.TheVariants as word
use Rattle.px_lexer.specs.Terminals.{terminals_of}
use Rattle.px_lexer.proofs.TokenAccess.{length_terminals}
use Rattle.px_parser.proofs.Steps.{fails}
use Rattle.px_parser.proofs.CompoundShapes.{solid_guarded}
use Rattle.px_parser.proofs.BlockShapes.{sound_block}
use Rattle.px_parser.proofs.CompoundSteps.{elifs_begun, elifs_on, elifs_refused, elifs_read, number_inside}
use Rattle.px_parser.proofs.ReadingSteps.{inside_tokens, inside_terminals}
use Rattle.px_parser.proofs.blocks.Statements.elifs.Goals as goal

pub loop-tree-init : goal.loop-tree-init
loop-tree-init g c = rw (c.new-tree.ensures) (elifs_begun (terminals_of c.args.tokens.now) c.args.from c.args.room (inside_terminals c.args.tokens.now _ c.requires.inside))

pub guarded_block-requires-clause-inside : goal.guarded_block-requires-clause-inside
guarded_block-requires-clause-inside g c = inside_tokens c.args.tokens.now _ c.loop-tree.invariant.within

pub returns-in_err-next : goal.returns-in_err-next
returns-in_err-next g c =
    let p = err_from_is_err_and c.from_residual.result c.from_residual.ensures.1 in
    rw (p.1, p.2) (fails (elifs_refused c.loop-tree.invariant (c.is_keyword.ensures.0 c.loop-tree-test.true)) c.in_err-next.field-0.0 c.in_err-next.ensures)

pub arm-requires : goal.arm-requires
arm-requires g c = omega (arith, number_inside word.Elif c.in_ok-next.ensures, c.requires.input.input.few, length_terminals c.args.tokens.now)

pub loop-tree-smaller : goal.loop-tree-smaller
loop-tree-smaller g c =
    let forward = (solid_guarded word.Elif sound_block).grows c.in_ok-next.ensures.derived in
    let less : length c.args.tokens.now.list - c.in_ok-next.next.to < length c.args.tokens.now.list - c.loop-tree.to = omega (arith, forward, c.loop-tree.invariant.within, length_terminals c.args.tokens.now) in
    less

pub loop-tree-preserved : goal.loop-tree-preserved
loop-tree-preserved g c = rw (c.in_ok-push.ensures.ok, c.arm.ensures) (elifs_on c.loop-tree.invariant c.in_ok-next.ensures)

pub returns : goal.returns
returns g c = elifs_read c.loop-tree.invariant (denied c.is_keyword.ensures c.loop-tree-test.false)

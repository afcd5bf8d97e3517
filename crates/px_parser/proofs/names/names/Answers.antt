use Rattle.std.proofs.Common.{refl, arith}
use Rattle.std.proofs.lemmas.Result.{err_from_is_err_and}
use Rattle.px_base.proofs.Facts.{denied}
use Rattle.px_lexer.specs.declared.token_list.TokenKind.TheVariants as kind
use Rattle.px_lexer.specs.Terminals.{terminals_of}
use Rattle.px_lexer.proofs.TokenAccess.{length_terminals}
use Rattle.px_parser.proofs.Steps.{fails}
use Rattle.px_parser.proofs.SimpleSteps.{token_here, names_first, names_next, names_one, names_more}
use Rattle.px_parser.proofs.TokenSteps.{reading_inside}
use Rattle.px_parser.proofs.names.names.Goals as goal

pub returns-in_err-first : goal.returns-in_err-first
returns-in_err-first c =
    let p = err_from_is_err_and c.from_residual.result c.from_residual.ensures.1 in
    λ room. rw (p.1, p.2) (fails (names_first c.args.separator (terminals_of c.args.tokens.now) c.args.from room) _ (c.in_err-first.ensures room))

pub loop-alloc-init : goal.loop-alloc-init
loop-alloc-init c = rw (c.in_ok-push.ensures.ok, c.new-tree.ensures) ((λ room. names_one c.args.separator (c.in_ok-first.ensures room)), reading_inside c.args.tokens.now (c.in_ok-first.ensures 0))

pub returns-in_err-next : goal.returns-in_err-next
returns-in_err-next c =
    let p = err_from_is_err_and c.from_residual-in_err-next.result c.from_residual-in_err-next.ensures.1 in
    λ room. rw (p.1, p.2)
    (fails (names_next c.args.from c.loop-alloc.tree (c.loop-alloc.invariant.0 room) (token_here c.args.tokens.now c.loop-alloc.to room (kind.Operator c.args.separator) c.requires.input (λ e. cc) (c.loop-alloc-test.ensures.0 refl))) _ (c.in_err-next.ensures room))

pub loop-alloc-smaller : goal.loop-alloc-smaller
loop-alloc-smaller c = omega (arith, (c.in_ok-next.ensures 0).derived.end, c.loop-alloc.invariant.1)

pub loop-alloc-preserved : goal.loop-alloc-preserved
loop-alloc-preserved c = rw c.in_ok-push-2.ensures.ok (
  (λ room. names_more c.args.from c.loop-alloc.tree (c.loop-alloc.invariant.0 room) (token_here c.args.tokens.now c.loop-alloc.to room (kind.Operator c.args.separator) c.requires.input (λ e. cc) (c.loop-alloc-test.ensures.0 refl)) (c.in_ok-next.ensures room)),
  reading_inside c.args.tokens.now (c.in_ok-next.ensures 0),
)

pub returns : goal.returns
returns c = λ room. record {
  derived = c.loop-alloc.invariant.0 room;
  stops = denied c.loop-alloc-test.ensures refl;
  within = omega (arith, c.loop-alloc.invariant.1, length_terminals c.args.tokens.now);
}

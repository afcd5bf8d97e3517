use Rattle.std.proofs.Common.{◌<◌, ◌-◌, add-one, length, arith}
use Rattle.std.proofs.lemmas.Result.{err_from_is_err_and}
use Rattle.px_base.proofs.Facts.{denied}
use Rattle.px_lexer.specs.Terminals.{terminals_of}
use Rattle.px_parser.proofs.ReadingSteps.{kind_read, inside_tokens}
use Rattle.px_lexer.specs.declared.spelling.Operator.TheVariants as sign
use Rattle.px_lexer.specs.declared.token_list.TokenKind.TheVariants as kind
use Rattle.px_parser.proofs.ImportShapes.{solid_imported}
use Rattle.px_parser.proofs.SeparatedSteps.{separated_one, separated_more, separated_read}
use Rattle.px_parser.proofs.ImportReading.{names_first, names_next, names_stuck}
use Rattle.px_parser.proofs.imports.imported_names.Goals as goal

pub returns-in_err-first : goal.returns-in_err-first
returns-in_err-first c =
    let p = err_from_is_err_and c.from_residual.result c.from_residual.ensures.1 in
    λ room. rw (p.1, p.2) (names_first (terminals_of c.args.tokens.now) c.args.from room _ (c.in_err-first.ensures room))

pub loop-alloc-init : goal.loop-alloc-init
loop-alloc-init c = separated_one (kind.Operator sign.Comma) c.new-tree.ensures c.in_ok-push.ensures.ok c.in_ok-first.ensures

pub returns-in_err-next : goal.returns-in_err-next
returns-in_err-next c =
    let p = err_from_is_err_and c.from_residual-in_err-next.result c.from_residual-in_err-next.ensures.1 in
    λ room. rw (p.1, p.2) (names_next (terminals_of c.args.tokens.now) c.args.from _ _ room _ _ c.loop-alloc.invariant (kind_read c.args.tokens.now _ _ room c.requires.input (c.is_operator.ensures.0 c.loop-alloc-test.true) (λ e. cc) (add-one c.loop-alloc.to)) (c.in_err-next.ensures room))

pub loop-alloc-smaller : goal.loop-alloc-smaller
loop-alloc-smaller c =
    let grows = solid_imported.grows (c.in_ok-next.ensures 0).derived in
    let inside = inside_tokens c.args.tokens.now c.loop-alloc.to c.loop-alloc.invariant.within in
    let less : length c.args.tokens.now.list - c.in_ok-next.next.to < length c.args.tokens.now.list - c.loop-alloc.to = omega (arith, grows, inside) in
    less

pub loop-alloc-preserved : goal.loop-alloc-preserved
loop-alloc-preserved c = separated_more (kind.Operator sign.Comma) c.loop-alloc.invariant c.in_ok-push-2.ensures.ok (λ room. kind_read c.args.tokens.now _ _ room c.requires.input (c.is_operator.ensures.0 c.loop-alloc-test.true) (λ e. cc) (add-one c.loop-alloc.to)) c.in_ok-next.ensures

pub returns-then-is_newline : goal.returns-then-is_newline
returns-then-is_newline c = λ room. separated_read (kind.Operator sign.Comma) c.loop-alloc.invariant (c.is_newline.ensures.0 c.if-is_newline.true)

pub returns-else-is_newline : goal.returns-else-is_newline
returns-else-is_newline c = λ room. names_stuck (terminals_of c.args.tokens.now) c.args.from c.loop-alloc.to room _ c.loop-alloc.invariant (denied c.is_operator.ensures c.loop-alloc-test.false) (denied c.is_newline.ensures c.if-is_newline.false)

use Rattle.std.proofs.Common.{◌+◌, ◌++◌, ◌∷◌, [], refl, sym, ap, subst, ◌∙◌, add-one, arith}
use Rattle.std.proofs.lemmas.Result.{err_from_is_err_and}
use Rattle.px_base.proofs.Facts.{denied}
use Rattle.px_lexer.specs.declared.spelling.Operator.TheVariants as sign
use Rattle.px_lexer.specs.declared.token_list.TokenKind.TheVariants as kind
use Rattle.px_exprs.specs.Typings.{AreAxes, IsAxis}
use Rattle.px_lexer.specs.Terminals.{terminals_of}
use Rattle.px_exprs.proofs.TokenReading.{goes_on}
use Rattle.px_lexer.proofs.TokenAccess.{length_terminals}
use Rattle.px_exprs.proofs.TypeReading.{first_unread, next_unread, axes_then, axis_forward, last_ends, ends_within}
use Rattle.px_exprs.proofs.typings.axes.Goals as goal

pub returns-in_err-first : goal.returns-in_err-first
returns-in_err-first c =
    let p = err_from_is_err_and c.from_residual.result c.from_residual.ensures.1 in
    rw (p.1, p.2) (first_unread (terminals_of c.args.tokens.now) c.args.from c.in_err-first.field-0.0 c.in_err-first.ensures)

pub loop-tree-init : goal.loop-tree-init
loop-tree-init c =
    let made = c.in_ok-push.ensures.ok ∙ ap (λ axes. axes ++ c.in_ok-first.first.tree ∷ []) c.new-tree.ensures in
    record {
      known = subst (λ axes. AreAxes (terminals_of c.args.tokens.now) c.args.from axes c.in_ok-first.first.to) (sym made) (AreAxes.last_axis c.in_ok-first.ensures.derived.0);
      ends = c.in_ok-first.ensures.stops;
    }

pub overflow_add-to : goal.overflow_add-to
overflow_add-to c =
    let comma = c.is_operator.ensures.0 c.loop-tree-test.true in
    omega (arith, goes_on c.args.tokens.now c.loop-tree.to (kind.Operator sign.Comma) c.requires.input comma (omega arith), c.requires.input.few)

pub axis-requires-in-loop-tree-clause-inside : goal.axis-requires-in-loop-tree-clause-inside
axis-requires-in-loop-tree-clause-inside c =
    let comma = c.is_operator.ensures.0 c.loop-tree-test.true in
    omega (arith, goes_on c.args.tokens.now c.loop-tree.to (kind.Operator sign.Comma) c.requires.input comma (omega arith))

pub returns-in_err-next : goal.returns-in_err-next
returns-in_err-next c =
    let p = err_from_is_err_and c.from_residual-in_err-next.result c.from_residual-in_err-next.ensures.1 in
    let comma = c.is_operator.ensures.0 c.loop-tree-test.true in
    rw (p.1, p.2) (next_unread (terminals_of c.args.tokens.now) c.args.from c.loop-tree.to (c.loop-tree.to + 1) c.loop-tree.tree c.in_err-next.field-0.0
    (add-one c.loop-tree.to) c.loop-tree.invariant.known comma c.in_err-next.ensures)

pub loop-tree-smaller : goal.loop-tree-smaller
loop-tree-smaller c =
    let tokens = c.args.tokens.now in
    let next = c.in_ok-next.next in
    omega (arith, axis_forward (terminals_of tokens) (c.loop-tree.to + 1) next.to next.tree c.in_ok-next.ensures.derived.0, c.in_ok-next.ensures.within, length_terminals tokens)

pub loop-tree-preserved : goal.loop-tree-preserved
loop-tree-preserved c =
    let ts = terminals_of c.args.tokens.now in
    let next = c.in_ok-next.next in
    let comma = c.is_operator.ensures.0 c.loop-tree-test.true in
    let axis = subst (λ x. IsAxis ts x next.tree next.to) (add-one c.loop-tree.to) c.in_ok-next.ensures.derived.0 in
    record {
      known = subst (λ axes. AreAxes ts c.args.from axes next.to) (sym c.in_ok-push-2.ensures.ok)
          (axes_then c.args.from c.loop-tree.to next.to c.loop-tree.tree (next.tree ∷ []) c.loop-tree.invariant.known comma (AreAxes.last_axis axis));
      ends = c.in_ok-next.ensures.stops;
    }

pub returns : goal.returns
returns c =
    let ts = terminals_of c.args.tokens.now in
    record {
      derived = (c.loop-tree.invariant.known, refl);
      shallow = omega arith;
      stops = last_ends ts c.loop-tree.to c.loop-tree.invariant.ends (denied c.is_operator.ensures c.loop-tree-test.false);
      within = ends_within ts c.loop-tree.to c.loop-tree.invariant.ends;
    }

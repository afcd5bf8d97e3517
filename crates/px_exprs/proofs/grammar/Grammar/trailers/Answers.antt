use Rattle.std.proofs.Common.{◌<◌, ◌-◌, length, arith}
use Rattle.std.proofs.lemmas.Result.{err_from_is_err_and}
use Rattle.px_base.proofs.Facts.{denied}
use Rattle.px_exprs.proofs.TrailerSteps.{begins_past, trailers_begun, trailers_refused, trailers_on, trailers_whole, trailer_forward}
use Rattle.px_exprs.proofs.grammar.Grammar.trailers.Goals as goal

pub loop-found-init : goal.loop-found-init
loop-found-init g c = (trailers_begun c.in_ok-found.ensures, omega arith, begins_past c.requires.begins, c.requires.inside)

pub returns-in_err-next : goal.returns-in_err-next
returns-in_err-next g c =
    let p = err_from_is_err_and c.from_residual-in_err-next.result c.from_residual-in_err-next.ensures.1 in
    let kept = c.loop-found.invariant in
    rw (p.1, p.2) (trailers_refused kept.0 kept.1 (c.begins_trailer.ensures.0 c.loop-found-test.true) c.in_err-next.field-0.0 c.in_err-next.ensures)

pub loop-found-smaller : goal.loop-found-smaller
loop-found-smaller g c =
    let forward = trailer_forward c.in_ok-next.ensures in
    let inside = c.loop-found.invariant.3 in
    let less : length c.args.tokens.now.list - c.in_ok-next.next.to < length c.args.tokens.now.list - c.loop-found.to = omega (arith, forward, inside) in
    less

pub loop-found-preserved : goal.loop-found-preserved
loop-found-preserved g c =
    let kept = c.loop-found.invariant in
    trailers_on c.args.tokens.now {fs = c.push.new.self} kept.0 kept.1 c.in_ok-next.ensures c.in_ok-push.ensures.ok c.max-depth.ensures

pub returns : goal.returns
returns g c =
    let kept = c.loop-found.invariant in
    trailers_whole c.args.tokens.now kept.0 kept.1 kept.2 kept.3 c.requires.begins (denied c.begins_trailer.ensures c.loop-found-test.false)

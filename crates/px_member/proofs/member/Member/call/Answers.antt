use Rattle.std.proofs.Common.{◌≡◌, ◌≤◌, ◌<◌, ◌+◌, ◌-◌, length, Some, ap, sym, ◌∙◌, arith}
use Rattle.std.specs.Prelude.{slice_get}
use Rattle.std.proofs.lemmas.Option.{slice_get-get_or, slice_get_past}
use Rattle.px_member.specs.contracts.member.Member.{the_view}
use Rattle.px_member.specs.declared.member.Step.TheVariants.{Went}
use Rattle.px_member.proofs.CallSteps.{calls_deep, calls_none, calls_opening, calls_spent}
use Rattle.px_member.proofs.member.Member.call.Goals as goal

pub returns-in_default-clause-did : goal.returns-in_default-clause-did
returns-in_default-clause-did c =
    calls_none c.args.image.now c.args.f c.args.d c.args.self.now c.args.self.now Went
    (ap (λ codes. slice_get codes c.args.f) (sym c.codes.ensures) ∙ slice_get_past c.codes.result.now c.args.f c.in_default.ensures.lookup.3)

pub returns-then-self-eq0-clause-did : goal.returns-then-self-eq0-clause-did
returns-then-self-eq0-clause-did c =
    let is = c.self.view_is in
    let there : slice_get c.args.image.now.codes c.args.f ≡ Some c.in-Some.code.now =
    ap (λ codes. slice_get codes c.args.f) (sym c.codes.ensures) ∙ slice_get-get_or c.codes.result.now c.args.f c.in-Some.code.now c.in-Some.ensures.lookup.3.0
    ∙ ap Some (sym c.in-Some.ensures.lookup.1) in
    rw (← is) (calls_spent c.args.image.now c.args.f c.args.d c.in-Some.code.now (the_view c.self.inside) there c.if-self-eq0.true)

pub returns-then-len-ge-FRAME_LIMIT-clause-did : goal.returns-then-len-ge-FRAME_LIMIT-clause-did
returns-then-len-ge-FRAME_LIMIT-clause-did c =
    let is = c.self.view_is in
    let there : slice_get c.args.image.now.codes c.args.f ≡ Some c.in-Some.code.now =
    ap (λ codes. slice_get codes c.args.f) (sym c.codes.ensures) ∙ slice_get-get_or c.codes.result.now c.args.f c.in-Some.code.now c.in-Some.ensures.lookup.3.0
    ∙ ap Some (sym c.in-Some.ensures.lookup.1) in
    let turns : c.self.inside.turns ≡ c.self.inside.turns - 1 + 1 = omega arith in
    let deep : 500 ≤ length c.self.inside.callers.items + 1 = omega (arith, c.self.inside.callers.ok.0, c.len.ensures) in
    rw (← is)
    (calls_deep c.args.image.now c.args.f (c.self.inside.turns - 1) c.args.d c.in-Some.code.now (the_view c.self.inside) c.fail.new.self c.fail.result there turns deep c.fail.ensures.did)

pub returns-clause-did : goal.returns-clause-did
returns-clause-did c =
    let is = c.self.view_is in
    let there : slice_get c.args.image.now.codes c.args.f ≡ Some c.in-Some.code.now =
    ap (λ codes. slice_get codes c.args.f) (sym c.codes.ensures) ∙ slice_get-get_or c.codes.result.now c.args.f c.in-Some.code.now c.in-Some.ensures.lookup.3.0
    ∙ ap Some (sym c.in-Some.ensures.lookup.1) in
    let turns : c.self.inside.turns ≡ c.self.inside.turns - 1 + 1 = omega arith in
    let few : length c.self.inside.callers.items + 1 < 500 = omega (arith, c.self.inside.callers.ok.0, c.len.ensures) in
    rw (← is)
    (calls_opening c.args.image.now c.args.f (c.self.inside.turns - 1) c.args.d c.in-Some.code.now (the_view c.self.inside) c.open.new.self c.open.result there turns few c.open.ensures.did)

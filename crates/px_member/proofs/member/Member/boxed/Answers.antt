use Rattle.px_regcode.specs.declared.instructions.Instr.TheVariants as instr
use Rattle.px_member.specs.contracts.member.Member.{the_view}
use Rattle.px_member.specs.declared.member.Step.TheVariants.{Went}
use Rattle.px_member.proofs.BookSteps.{no_box, row_done}
use Rattle.px_member.proofs.member.Member.boxed.Goals as goal

pub returns-in_default-clause-did : goal.returns-in_default-clause-did
returns-in_default-clause-did c =
    let is = c.self.view_is in
    rw (← is) (λ image. no_box image c.args.t c.args.d c.args.a (the_view c.self.inside) (the_view c.self.inside) Went c.in_default.is)

pub returns-clause-did : goal.returns-clause-did
returns-clause-did c =
    let is = c.self.view_is in
    rw (← is)
    (λ image. row_done image (instr.Box c.args.t c.args.d c.args.a) (the_view c.self.inside) c.behind.new.self c.in-Some.book c.boxed-done.new.self c.boxed-done.new.registers
    c.boxed-done.result c.behind.result c.in-Some.is (c.boxed-done.ensures.row image) c.behind.ensures.did)

use Rattle.std.proofs.Common.{sym, subst}
use Rattle.px_regcode.specs.declared.instructions.Instr.TheVariants as instr
use Rattle.px_member.specs.Members.{HoldsAll}
use Rattle.px_member.specs.contracts.member.Member.{the_view}
use Rattle.px_member.specs.declared.member.Step.TheVariants.{Went}
use Rattle.px_member.proofs.BookSteps.{no_print, registers_held, row_done}
use Rattle.px_member.proofs.member.Member.print.Goals as goal

pub returns-in_default-clause-did : goal.returns-in_default-clause-did
returns-in_default-clause-did c =
    let is = c.self.view_is in
    rw (← is) (λ image. no_print image c.args.arguments.now (the_view c.self.inside) (the_view c.self.inside) Went c.in_default.is)

pub print-done-requires : goal.print-done-requires
print-done-requires c = registers_held (the_view c.self.inside) c.in-Some.book c.in-Some.is (subst HoldsAll (sym c.self.view_is) c.requires.held)

pub returns-clause-did : goal.returns-clause-did
returns-clause-did c =
    let is = c.self.view_is in
    rw (← is)
    (λ image. row_done image (instr.Print c.args.arguments.now) (the_view c.self.inside) c.behind.new.self c.in-Some.book c.print-done.new.self c.self.inside.frame.registers
    c.print-done.result c.behind.result c.in-Some.is (c.print-done.ensures.row image) c.behind.ensures.did)

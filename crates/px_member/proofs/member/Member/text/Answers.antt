use Rattle.px_regcode.specs.declared.instructions.Instr.TheVariants as instr
use Rattle.px_member.specs.contracts.member.Member.{the_view}
use Rattle.px_member.specs.declared.member.Step.TheVariants.{Went}
use Rattle.px_member.proofs.BookSteps.{no_text, no_wide, row_done}
use Rattle.px_member.proofs.member.Member.text.Goals as goal

pub returns-in_default-clause-text : goal.returns-in_default-clause-text
returns-in_default-clause-text c =
    let is = c.self.view_is in
    rw (← is) (λ image constants. no_text image c.args.d c.args.n (the_view c.self.inside) (the_view c.self.inside) Went c.in_default.is)

pub returns-clause-text : goal.returns-clause-text
returns-clause-text c =
    let is = c.self.view_is in
    rw (← is)
    (λ image constants. row_done image (instr.Text c.args.d c.args.n) (the_view c.self.inside) c.behind.new.self c.in-Some.book c.constant-done.new.self c.constant-done.new.registers
    c.constant-done.result c.behind.result c.in-Some.is (c.constant-done.ensures.text image constants) c.behind.ensures.did)

pub returns-in_default-clause-wide : goal.returns-in_default-clause-wide
returns-in_default-clause-wide c =
    let is = c.self.view_is in
    rw (← is) (λ image constants. no_wide image c.args.d c.args.n (the_view c.self.inside) (the_view c.self.inside) Went c.in_default.is)

pub returns-clause-wide : goal.returns-clause-wide
returns-clause-wide c =
    let is = c.self.view_is in
    rw (← is)
    (λ image constants. row_done image (instr.Wide c.args.d c.args.n) (the_view c.self.inside) c.behind.new.self c.in-Some.book c.constant-done.new.self c.constant-done.new.registers
    c.constant-done.result c.behind.result c.in-Some.is (c.constant-done.ensures.wide image constants) c.behind.ensures.did)

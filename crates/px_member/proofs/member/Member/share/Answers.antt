use Rattle.std.proofs.Common.{Ok, ap, sym, subst, ◌∙◌, ◌+◌}
use Rattle.px_regcode.specs.declared.instructions.Instr.TheVariants as instr
use Rattle.px_member.specs.Members.{HoldsAll}
use Rattle.px_member.specs.contracts.member.Member.{the_view}
use Rattle.px_member.specs.declared.member.Step.TheVariants.{Went}
use Rattle.px_member.proofs.BookSteps.{behind_done, no_share, registers_held, row_done, with_book}
use Rattle.px_member.proofs.member.Member.share.Goals as goal

pub returns-in_default-clause-did : goal.returns-in_default-clause-did
returns-in_default-clause-did c =
    let is = c.self.view_is in
    rw (← is) (λ image. no_share image c.args.d c.args.a (the_view c.self.inside) (the_view c.self.inside) Went c.in_default.is)

pub share-requires : goal.share-requires
share-requires c = registers_held (the_view c.self.inside) c.in-Some.book c.in-Some.is (subst HoldsAll (sym c.self.view_is) c.requires.held)

pub returns-clause-did : goal.returns-clause-did
returns-clause-did c =
    let is = c.self.view_is in
    rw (← is)
    (λ image. row_done image (instr.Share c.args.d c.args.a) (the_view c.self.inside) c.go_to.new.self c.in-Some.book c.share.new.self c.share.new.registers (Ok tt) c.go_to.result
    c.in-Some.is (c.share.ensures.row image)
    (behind_done (with_book (the_view c.self.inside) c.share.new.registers c.share.new.self) c.go_to.new.self c.go_to.result c.args.next tt
    (c.requires.next ∙ ap (λ m. m.frame.pc + 1) (sym is)) c.go_to.ensures.did))

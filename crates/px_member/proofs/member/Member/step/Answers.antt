use Rattle.std.proofs.Common.{sym, ◌∙◌, subst}
use Rattle.px_member.specs.Acts.{Did}
use Rattle.px_member.proofs.Moves.{seen}
use Rattle.px_member.proofs.Runs.{acts_there, no_code_there, no_instruction_there, past, there}
use Rattle.px_member.proofs.member.Member.step.Goals as goal

pub returns-in_default-clause-did : goal.returns-in_default-clause-did
returns-in_default-clause-did c = λ m h u.
    absurd (u (no_code_there c.args.image.now _ m (seen _ _ c.self.view_is m h) (past _ _ _ c.codes.ensures c.in_default.ensures.lookup.3)))

pub act-requires-clause-run : goal.act-requires-clause-run
act-requires-clause-run c = c.requires.run c.self.inside.frame.function c.self.inside.frame.pc c.in-Some-get.instr.now (record {
  code = c.in-Some.code.now;
  is_code = there _ _ _ _ c.codes.ensures c.in-Some.ensures.lookup.3.0 c.in-Some.ensures.lookup.1;
  is_instr = there _ _ _ _ c.as_slice-instrs.ensures c.in-Some-get.ensures.lookup.3.0 c.in-Some-get.ensures.lookup.1;
})

pub returns-in-Some-get-clause-did : goal.returns-in-Some-get-clause-did
returns-in-Some-get-clause-did c = λ m h u.
    let code = there _ _ _ _ c.codes.ensures c.in-Some.ensures.lookup.3.0 c.in-Some.ensures.lookup.1 in
    let instruction = there _ _ _ _ c.as_slice-instrs.ensures c.in-Some-get.ensures.lookup.3.0 c.in-Some-get.ensures.lookup.1 in
    let is = acts_there c.args.image.now _ m (seen _ _ c.self.view_is m h) c.in-Some.code.now code c.in-Some-get.instr.now instruction in
    subst (λ s. Did c.act-in-Some-get.result s c.act-in-Some-get.new.self) (sym is) (c.act-in-Some-get.ensures.did m h (λ e. u (is ∙ e)))

pub returns-in-None-clause-did : goal.returns-in-None-clause-did
returns-in-None-clause-did c = λ m h u.
    let code = there _ _ _ _ c.codes.ensures c.in-Some.ensures.lookup.3.0 c.in-Some.ensures.lookup.1 in
    let none = past _ _ _ c.as_slice-instrs.ensures c.in-None.ensures.lookup.3 in
    absurd (u (no_instruction_there c.args.image.now _ m (seen _ _ c.self.view_is m h) c.in-Some.code.now code none))

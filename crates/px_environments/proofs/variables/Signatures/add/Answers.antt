use Rattle.std.proofs.Common.{sym, ap, ◌∙◌}
use Rattle.std.specs.Prelude.{is_some, option_copied}
use Rattle.px_names.proofs.MapSteps.{number_kept_after, none_of}
use Rattle.px_environments.specs.declared.signatures.Signature.{Signature}
use Rattle.px_environments.specs.Kept.{signatures_kept, with_first}
use Rattle.px_environments.specs.Signatures.{signature_of}
use Rattle.px_environments.proofs.TableSteps.{is_some-copied, new_entry, old_entry}
use Rattle.px_environments.proofs.variables.Signatures.add.Goals as goal

pub returns-then-is_some : goal.returns-then-is_some
returns-then-is_some c =
    let kept = signatures_kept c.args.self.now in
    let f = c.args.function.now in
    let there = ap (λ o. is_some o) (sym c.get.ensures) ∙ is_some-copied c.get.result ∙ sym c.is_some.ensures ∙ c.if-is_some.true in
    λ i n. old_entry kept f.number (signature_of c.args.place f) there n i

pub returns : goal.returns
returns c =
    let kept = signatures_kept c.args.self.now in
    let f = c.args.function.now in
    let none = sym c.get.ensures ∙ ap option_copied (none_of c.get.result (sym c.is_some.ensures ∙ c.if-is_some.false)) in
    (λ i n. (number_kept_after c.args.self.now.signatures c.insert.new.self f.number c.in_ok-signature.signature c.in_ok-insert.ensures.updates n
    ∙ new_entry kept f.number c.in_ok-signature.signature none n) i)
    ∙ ap (λ (signature : Signature). with_first f.number signature kept) c.in_ok-signature.ensures

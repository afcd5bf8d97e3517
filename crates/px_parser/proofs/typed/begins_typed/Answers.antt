use Rattle.std.proofs.Common.{inl, inr, ◌+◌, sym, subst, ◌∙◌, add-one}
use Rattle.std.proofs.lemmas.Bool.{false≢true}
use Rattle.px_base.proofs.Facts.{denied}
use Rattle.px_exprs.specs.Typings.{IsBase}
use Rattle.px_lexer.specs.Terminals.{terminals_of}
use Rattle.px_parser.specs.Parts.{BeginsType, GoesOn}
use Rattle.px_parser.proofs.MaybeTyped.{some_base, none_base}
use Rattle.px_parser.proofs.typed.begins_typed.Goals.{then-is_word, else-is_word}
use Rattle.px_parser.proofs.typed.begins_typed.Goals as goal

pub returns-then-is_some : goal.returns-then-is_some
returns-then-is_some c =
    let ts = terminals_of c.args.tokens.now in
    let begins : BeginsType ts c.args.from = elim c.if-is_word.branch [
      | then-is_word w ↦ inl (c.is_word.ensures.0 w.if-is_word.true)
      | else-is_word w ↦ inr (let base = some_base w.base_of.result ts c.args.from (c.args.from + 1) (sym w.is_some.ensures ∙ sym w.value-is ∙ c.if-is_some.true) w.base_of.ensures in
          (base.0, subst (IsBase ts c.args.from base.0) (add-one c.args.from) base.1))
    ] in (
      λ h. (begins, subst (GoesOn ts) (add-one c.args.from) (c.goes_on.ensures.0 h)),
      λ h. c.goes_on.ensures.1 (subst (GoesOn ts) (sym (add-one c.args.from)) h.1),
    )

pub returns-else-is_some : goal.returns-else-is_some
returns-else-is_some c =
    let ts = terminals_of c.args.tokens.now in
    let none : BeginsType ts c.args.from → ⊥ = λ begins. elim c.if-is_word.branch [
      | then-is_word w ↦ false≢true (sym c.if-is_some.false ∙ w.value-is ∙ w.if-is_word.true)
      | else-is_word w ↦ (elim (begins) [
        | inl const ↦ denied c.is_word.ensures w.if-is_word.false const
        | inr base ↦ none_base w.base_of.result ts c.args.from (c.args.from + 1) (sym w.is_some.ensures ∙ sym w.value-is ∙ c.if-is_some.false) w.base_of.ensures base.0
            (subst (IsBase ts c.args.from base.0) (sym (add-one c.args.from)) base.1)
      ])
    ] in
    (λ h. absurd (false≢true (sym c.if-is_some.false ∙ h)), λ h. absurd (none h.0))

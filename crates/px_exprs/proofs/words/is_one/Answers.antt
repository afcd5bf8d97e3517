use Rattle.std.proofs.Common.{◌≡◌, pos, refl, ap, subst, sym, ◌∙◌, chars, codes, rules, IsUtf8}
use Rattle.std.proofs.lemmas.Bool.{false≢true, eqb-true}
use Rattle.std.proofs.lemmas.Bool.Decides.{Decides-eqb}
use Rattle.std.proofs.lemmas.Slice.Eq.{slice_eq-Decides}
use Rattle.std.proofs.lemmas.Str.{chars-IsAscii}
use Rattle.std.proofs.lemmas.Int.{to_z-of_z}
use mir.Syntax.{w128}
use mir.Val.{to_z, of_z, SFits}
use Rattle.px_lexer.specs.declared.token_list.TokenKind.TheVariants as kind
use Rattle.px_lexer.specs.Terminals.{Terminal, terminal_of, terminals_of}
use Rattle.px_lexer.proofs.OneToken.{one_token, number_of}
use Rattle.px_exprs.proofs.TokenReading.{ascii, ascii_told}
use Rattle.px_lexer.proofs.TokenAccess.{item_stands, item_known, no_item, kind_there}
use Rattle.px_exprs.proofs.words.is_one.Goals as goal

pub returns-then-value-eq1 : goal.returns-then-value-eq1
returns-then-value-eq1 c =
    let tokens = c.args.tokens.now in
    let found = c.in-Some.token in
    let stands = item_stands tokens c.as_slice.result.now c.args.at found c.as_slice.ensures c.in-Some.ensures.lookup in
    let known = item_known tokens c.as_slice.result.now c.args.at found c.as_slice.ensures c.in-Some.ensures.lookup in
    let fits : SFits w128 c.in-Number.value = search rules in
    let one : c.in-Number.value ≡ pos 1 = sym (to_z-of_z w128 c.in-Number.value fits) ∙ ap (to_z w128) c.if-value-eq1.true in
    let equal = slice_eq-Decides Decides-eqb _ _ _ c.eq.ensures in (
      λ told. (
        terminal_of tokens.text found.now,
        stands,
        c.in-Number.is ∙ ap kind.Number one,
        ap chars (sym c.spelling.ensures ∙ (equal.0 told ∙ c.as_slice-then-value-eq1.ensures)) ∙ chars-IsAscii (codes "1") (ascii (codes "1") refl),
      ),
      λ h.
          let text = subst IsUtf8 (sym c.spelling.ensures) (c.requires.numbered found.now c.in-Number.value known c.in-Number.is) in
          let spelled = ap chars c.spelling.ensures ∙ ap (λ (t : Terminal). t.spelling) (one_token _ c.args.at _ h.0 stands h.1) ∙ h.3 in
          equal.1 (ascii_told c.spelling.result.now (codes "1") text refl spelled ∙ sym c.as_slice-then-value-eq1.ensures),
    )

pub returns-else-value-eq1 : goal.returns-else-value-eq1
returns-else-value-eq1 c =
    let stands = item_stands c.args.tokens.now c.as_slice.result.now c.args.at c.in-Some.token c.as_slice.ensures c.in-Some.ensures.lookup in (
      λ told. absurd (c.if-value-eq1.false (eqb-true _ 1 told)),
      λ h.
          let value : c.in-Number.value ≡ pos 1 = ap number_of (sym c.in-Number.is ∙ kind_there (terminals_of c.args.tokens.now) c.args.at stands h.1 h.2) in
          absurd (c.if-value-eq1.false (ap (of_z w128) value)),
    )

pub returns-in_default : goal.returns-in_default
returns-in_default c =
    let stands = item_stands c.args.tokens.now c.as_slice.result.now c.args.at c.in-Some.token c.as_slice.ensures c.in-Some.ensures.lookup in (
      λ told. absurd (false≢true told),
      λ h. absurd (c.in_default.not-Number (pos 1) (kind_there (terminals_of c.args.tokens.now) c.args.at stands h.1 h.2)),
    )

pub returns-in-None : goal.returns-in-None
returns-in-None c = (
  λ told. absurd (false≢true told),
  λ h. absurd (no_item c.args.tokens.now c.as_slice.result.now c.args.at c.as_slice.ensures c.in-None.ensures.lookup h.0 h.1),
)

use Rattle.std.proofs.Common.{chars, subst}
use Rattle.std.proofs.lemmas.Bool.{false≢true}
use Rattle.std.proofs.lemmas.Bool.Decides.{Decides-eqb}
use Rattle.std.proofs.lemmas.Slice.Eq.{slice_eq-Decides}
use Rattle.std.proofs.lemmas.Str.{chars-IsAscii}
use Rattle.px_lexer.specs.Terminals.{IsName, terminals_of}
use Rattle.px_lexer.proofs.OneToken.{one_name}
use Rattle.px_exprs.proofs.TokenReading.{ascii, ascii_told}
use Rattle.px_exprs.proofs.words.is_word.Goals as goal

pub returns-in-Some : goal.returns-in-Some
returns-in-Some c =
    let word = c.args.word.now in
    let equal = slice_eq-Decides Decides-eqb _ _ _ c.eq.ensures in (
      λ told. subst (IsName (terminals_of c.args.tokens.now) c.args.at) (chars-IsAscii word (ascii word c.requires.ascii))
          (subst (λ bytes. IsName (terminals_of c.args.tokens.now) c.args.at (chars bytes)) (equal.0 told) c.in-Some.ensures.1),
      λ h. equal.1 (ascii_told c.in-Some.found.now word c.in-Some.ensures.0 c.requires.ascii (one_name c.in-Some.ensures.1 h)),
    )

pub returns-in-None : goal.returns-in-None
returns-in-None c = (λ told. absurd (false≢true told), λ h. absurd (c.in-None.ensures c.args.word.now h))

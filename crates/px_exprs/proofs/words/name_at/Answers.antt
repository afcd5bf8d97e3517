use Rattle.std.proofs.Common.{ap, chars, subst, sym, IsUtf8}
use Rattle.px_lexer.specs.Terminals.{terminal_of, terminals_of}
use Rattle.px_lexer.proofs.TokenAccess.{item_stands, item_known, no_item, kind_there}
use Rattle.px_exprs.proofs.words.name_at.Goals as goal

pub returns-in-Name : goal.returns-in-Name
returns-in-Name c =
    let tokens = c.args.tokens.now in
    let found = c.in-Some.token in
    let known = item_known tokens c.as_slice.result.now c.args.at found c.as_slice.ensures c.in-Some.ensures.lookup in (
      subst IsUtf8 (sym c.spelling.ensures) (c.requires.named found.now known c.in-Name.is),
      record {
        token = terminal_of tokens.text found.now;
        stands = item_stands tokens c.as_slice.result.now c.args.at found c.as_slice.ensures c.in-Some.ensures.lookup;
        kind = c.in-Name.is;
        spelled = ap chars (sym c.spelling.ensures);
      },
    )

pub returns-in_default : goal.returns-in_default
returns-in_default c =
    let stands = item_stands c.args.tokens.now c.as_slice.result.now c.args.at c.in-Some.token c.as_slice.ensures c.in-Some.ensures.lookup in
    λ name h. c.in_default.not-Name (kind_there (terminals_of c.args.tokens.now) c.args.at stands h.stands h.kind)

pub returns-in-None : goal.returns-in-None
returns-in-None c = λ name h. no_item c.args.tokens.now c.as_slice.result.now c.args.at c.as_slice.ensures c.in-None.ensures.lookup h.token h.stands

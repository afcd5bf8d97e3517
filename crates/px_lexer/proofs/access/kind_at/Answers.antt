use Rattle.std.proofs.Common.{refl}
use Rattle.px_lexer.specs.Terminals.{terminal_of}
use Rattle.px_lexer.proofs.TokenAccess.{item_stands, no_item}
use Rattle.px_lexer.proofs.access.kind_at.Goals as goal

pub returns-in-Some : goal.returns-in-Some
returns-in-Some c =
    let tokens = c.args.tokens.now in
    record {
      token = terminal_of tokens.text c.in-Some.token.now;
      stands = item_stands tokens c.as_slice.result.now c.args.at c.in-Some.token c.as_slice.ensures c.in-Some.ensures.lookup;
      kind = refl;
    }

pub returns-in-None : goal.returns-in-None
returns-in-None c = λ k h. no_item c.args.tokens.now c.as_slice.result.now c.args.at c.as_slice.ensures c.in-None.ensures.lookup h.token h.stands

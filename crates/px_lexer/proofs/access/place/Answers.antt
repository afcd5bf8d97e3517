use Rattle.std.proofs.Common.{◌≡◌, slice_index_or, ap, subst}
use Rattle.px_lexer.specs.declared.token_list.Token.{Token}
use Rattle.px_lexer.specs.Terminals.{terminal_of}
use Rattle.px_lexer.proofs.TokenAccess.{token_stands}
use Rattle.px_lexer.proofs.access.place.Goals as goal

pub returns : goal.returns
returns c =
    let tokens = c.args.tokens.now in
    let found = c.index-as_slice-at.result in
    record {
      token = terminal_of tokens.text found;
      stands = token_stands tokens c.args.at found c.requires (subst (λ xs. found ≡ slice_index_or xs c.args.at found) c.as_slice.ensures c.index-as_slice-at.is);
      placed = ap (λ (t : Token). t.at) c.index-as_slice-at.is;
    }

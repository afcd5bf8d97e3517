-- How a sign is read.
use Rattle.std.specs.Prelude.{ℕ, List, if◌then◌else◌, Option, Some, None}
use Rattle.px_lexer.specs.declared.token_list.TokenKind.{TokenKind}
use Rattle.px_lexer.specs.Spellings.{meaning_in, is_among}
use Rattle.px_lexer.specs.Signs.{operators, signs, sign_kind}

-- the kind of this spelling, if it is a sign
unfoldable pub kind_if_sign : List ℕ → Option TokenKind
kind_if_sign spelling = if is_among signs spelling then Some (sign_kind (meaning_in operators spelling)) else None

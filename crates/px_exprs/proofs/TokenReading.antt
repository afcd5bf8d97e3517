-- What a look at one token says of what stands behind it, and words of ASCII.
use Rattle.std.proofs.Common.{◌≡◌, pos, ℕ, zero, suc, ◌<◌, ◌≤◌, length, chars, List, [], ◌∷◌, IsUtf8, encode_utf8_all, sym, ap, ◌∙◌, arith}
use Rattle.std.specs.Prelude.{true, nat_lt}
use Rattle.std.specs.Str.{IsAscii}
use Rattle.std.proofs.lemmas.Bool.{and_parts, ltb-true}
use Rattle.std.proofs.lemmas.Str.{encodes-chars, encodes-IsAscii}
use Rattle.px_lexer.specs.declared.token_list.Tokens.{Tokens}
use Rattle.px_lexer.specs.declared.token_list.TokenKind.{TokenKind}
use Rattle.px_lexer.specs.declared.token_list.TokenKind.TheVariants as kind
use Rattle.px_lexer.specs.Terminals.{HasKind, terminals_of}
use Rattle.px_exprs.specs.Codes.{kind_code}
use Rattle.px_exprs.specs.Inputs.{IsInput}
use Rattle.px_exprs.specs.Words.{are_ascii, IsOne}
use Rattle.px_exprs.proofs.Codes.{code_here}

-- a part of an expression has a token behind it
pub goes_on : (tokens : Tokens) (i : ℕ) (k : TokenKind) → IsInput tokens → HasKind (terminals_of tokens) i k → kind_code k ≤ 33 → suc i < length tokens.list
goes_on tokens i k input h low = input.ends i (omega (arith, code_here h, low))

-- ASCII

pub ascii : (bs : List ℕ) → are_ascii bs ≡ true → IsAscii bs
ascii [] e i = omega arith
ascii (b ∷ bs) e zero = ltb-true b 128 (and_parts (nat_lt b 128) (are_ascii bs) e).0
ascii (b ∷ bs) e (suc i) = ascii bs (and_parts (nat_lt b 128) (are_ascii bs) e).1 i

-- bytes of ASCII are their characters, and are told by them
pub ascii_told : (bs word : List ℕ) → IsUtf8 bs → are_ascii word ≡ true → chars bs ≡ word → bs ≡ word
ascii_told bs word u a e = sym (encodes-chars bs u) ∙ ap encode_utf8_all e ∙ encodes-IsAscii word (ascii word a)

pub one_goes_on : (tokens : Tokens) (i : ℕ) → IsInput tokens → IsOne (terminals_of tokens) i → suc i < length tokens.list
one_goes_on tokens i input one = goes_on tokens i (kind.Number (pos 1)) input (record { token = one.0; stands = one.1; kind = one.2 }) (omega arith)

-- What a token is for the grammar, as a number: what begins an expression comes first, then what continues one, from the tightest
-- operator to the loosest, and then what does neither. And where a form ends: before a token that doesn't go on with it.
use Rattle.std.specs.Prelude.{ℕ, zero, suc, ◌+◌, ◌≤◌, Bool, true, false, if◌then◌else◌, ◌&&◌, ◌||◌, not, nat_lt, nat_eq, List, Option, Some, None, slice_get}
use Rattle.px_lexer.specs.declared.spelling.Keyword.{Keyword}
use Rattle.px_lexer.specs.declared.spelling.Keyword.TheVariants as word
use Rattle.px_lexer.specs.declared.spelling.Operator.{Operator}
use Rattle.px_lexer.specs.declared.spelling.Operator.TheVariants as sign
use Rattle.px_lexer.specs.declared.token_list.TokenKind.{TokenKind}
use Rattle.px_lexer.specs.declared.token_list.TokenKind.TheVariants as kind
use Rattle.px_lexer.specs.Terminals.{Terminal}

abbrev pub sign_code : Operator → ℕ
sign_code sign.Point = 1
sign_code sign.OpenBrace = 8
sign_code sign.OpenParenthesis = 9
sign_code sign.OpenBracket = 10
sign_code sign.Tilde = 11
sign_code sign.Star = 12
sign_code sign.DoubleSlash = 12
sign_code sign.Percent = 12
sign_code sign.Plus = 13
sign_code sign.Minus = 13
sign_code sign.LeftShift = 14
sign_code sign.RightShift = 14
sign_code sign.Ampersand = 15
sign_code sign.Caret = 16
sign_code sign.Bar = 17
sign_code sign.Less = 18
sign_code sign.Greater = 19
sign_code sign.LessEqual = 19
sign_code sign.GreaterEqual = 19
sign_code sign.DoubleEqual = 19
sign_code sign.NotEqual = 19
sign_code sign.Comma = 27
sign_code sign.CloseParenthesis = 28
sign_code sign.CloseBracket = 29
sign_code sign.CloseBrace = 30
sign_code sign.Colon = 31
sign_code sign.Equal = 32
sign_code sign.Ellipsis = 33
sign_code _ = 34

abbrev pub word_code : Keyword → ℕ
word_code word.True = 4
word_code word.False = 5
word_code word.None = 6
word_code word.Sizeof = 7
word_code word.In = 20
word_code word.Not = 21
word_code word.Is = 22
word_code word.And = 23
word_code word.Or = 24
word_code word.If = 25
word_code word.Else = 26
word_code _ = 34

abbrev pub kind_code : TokenKind → ℕ
kind_code (kind.Text content) = 0
kind_code kind.Name = 2
kind_code (kind.Number n) = 3
kind_code (kind.Keyword k) = word_code k
kind_code (kind.Operator o) = sign_code o
kind_code _ = 34

abbrev pub code_of : Option Terminal → ℕ
code_of None = 35
code_of (Some t) = kind_code t.kind

-- the code of the token at an index
unfoldable pub code_at : List Terminal → ℕ → ℕ
code_at ts i = code_of (slice_get ts i)

-- Ends of forms

-- the code of a token that goes on with a form, by the code of the token; what begins an operand and goes on with nothing comes
-- behind all that does
abbrev pub following : ℕ → ℕ
following c = if (nat_lt 1 c && nat_lt c 9) || (nat_lt 10 c && nat_lt c 12) then 36 else c

abbrev pub is_text_kind : TokenKind → Bool
is_text_kind (kind.Text content) = true
is_text_kind _ = false

abbrev pub is_text : Option Terminal → Bool
is_text None = false
is_text (Some t) = is_text_kind t.kind

-- a string goes on with a string alone
abbrev pub following_text : Bool → Bool → ℕ → ℕ
following_text true true c = c
following_text true false c = 36
following_text false behind c = following c

-- whether a string stands before an index
abbrev pub behind_text : List Terminal → ℕ → Bool
behind_text ts zero = false
behind_text ts (suc i) = is_text (slice_get ts i)

-- the code with which the token at an index goes on with what stands before it
unfoldable pub stop_at : List Terminal → ℕ → ℕ
stop_at ts i = following_text (is_text (slice_get ts i)) (behind_text ts i) (code_at ts i)

-- a token stands here that goes on with no form below this code
abbrev pub Past : ℕ → List Terminal → ℕ → Type 0
Past n ts i = n ≤ stop_at ts i

-- an atom ends: no string goes on with it
abbrev pub EndsAtom : List Terminal → ℕ → Type 0
EndsAtom = Past 1

-- so does an atom with what stands behind it, or a sign or a cast with its operand
abbrev pub EndsUnary : List Terminal → ℕ → Type 0
EndsUnary = Past 12

-- so does an operand of so many levels of binary operators
abbrev pub EndsBinary : ℕ → List Terminal → ℕ → Type 0
EndsBinary levels = Past (12 + levels)

-- so do comparisons, and a `not` with its operand
abbrev pub EndsComparison : List Terminal → ℕ → Type 0
EndsComparison = Past 23

-- so do operands of `and`
abbrev pub EndsAnd : List Terminal → ℕ → Type 0
EndsAnd = Past 24

-- so do operands of `or`
abbrev pub EndsOr : List Terminal → ℕ → Type 0
EndsOr = Past 25

-- so does an expression
abbrev pub EndsExpr : List Terminal → ℕ → Type 0
EndsExpr = Past 26

-- a closing bracket
abbrev pub IsClosing : Operator → Type 0
IsClosing o = (28 ≤ sign_code o) × (sign_code o ≤ 30)

-- an operator that can stand behind a type: it is no point and no opening bracket
abbrev pub EndsType : Operator → Type 0
EndsType o = 11 ≤ sign_code o

-- the greatest code of a token that is a part of an expression or of a type
abbrev pub part_code : ℕ
part_code = 33

-- whether a list of expressions ends before a token of this code: it neither begins nor goes on with one, and is no comma
abbrev pub ends_exprs_code : ℕ → Bool
ends_exprs_code c = not (nat_lt c 28)

-- whether an expression begins with a token of this code
abbrev pub begins_code : ℕ → Bool
begins_code c = nat_lt c 1 || (nat_lt 1 c && nat_lt c 12) || nat_eq c 13 || nat_eq c 18 || nat_eq c 21

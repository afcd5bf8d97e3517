-- Operators and delimiters (Python Language Reference, 2.5 Operators and 2.6 Delimiters).
use Rattle.std.specs.Prelude.{◌≡◌, ℕ, Bool, List, [], ◌∷◌, ◌++◌, map, nat_eq, codes, IsTrue, Option, Some, None}
use Rattle.std.specs.List.{list_any, starts_with}
use Rattle.px_lexer.specs.declared.spelling.Operator.{Operator}
use Rattle.px_lexer.specs.declared.spelling.Operator.TheVariants.{Plus, Minus, Star, DoubleSlash, Percent, LeftShift, RightShift, Ampersand, Bar, Caret, Tilde, Less, Greater, LessEqual, GreaterEqual, DoubleEqual, NotEqual, OpenParenthesis, CloseParenthesis, OpenBracket, CloseBracket, OpenBrace, CloseBrace, Comma, Colon, Point, Semicolon, At, Equal, Question, Ellipsis, PlusEqual, MinusEqual, StarEqual, DoubleSlashEqual, PercentEqual, AmpersandEqual, BarEqual, CaretEqual, LeftShiftEqual, RightShiftEqual}
use Rattle.px_lexer.specs.declared.token_list.TokenKind.{TokenKind}
use Rattle.px_lexer.specs.declared.token_list.TokenKind.TheVariants as kind
use Rattle.px_lexer.specs.Spellings.{meaning_in, is_among}

unfoldable pub operators : List (List ℕ × Operator)
operators =
    (codes "+", Plus) ∷ (codes "-", Minus) ∷ (codes "*", Star) ∷ (codes "//", DoubleSlash) ∷ (codes "%", Percent) ∷
    (codes "<<", LeftShift) ∷ (codes ">>", RightShift) ∷ (codes "&", Ampersand) ∷ (codes "|", Bar) ∷ (codes "^", Caret) ∷
    (codes "~", Tilde) ∷ (codes "<", Less) ∷ (codes ">", Greater) ∷ (codes "<=", LessEqual) ∷ (codes ">=", GreaterEqual) ∷
    (codes "==", DoubleEqual) ∷ (codes "!=", NotEqual) ∷ (codes "(", OpenParenthesis) ∷ (codes ")", CloseParenthesis) ∷
    (codes "[", OpenBracket) ∷ (codes "]", CloseBracket) ∷ (codes "{", OpenBrace) ∷ (codes "}", CloseBrace) ∷
    (codes ",", Comma) ∷ (codes ":", Colon) ∷ (codes ".", Point) ∷ (codes ";", Semicolon) ∷ (codes "@", At) ∷
    (codes "=", Equal) ∷ (codes "?", Question) ∷ (codes "...", Ellipsis) ∷ (codes "+=", PlusEqual) ∷ (codes "-=", MinusEqual) ∷
    (codes "*=", StarEqual) ∷ (codes "//=", DoubleSlashEqual) ∷ (codes "%=", PercentEqual) ∷ (codes "&=", AmpersandEqual) ∷
    (codes "|=", BarEqual) ∷ (codes "^=", CaretEqual) ∷ (codes "<<=", LeftShiftEqual) ∷ (codes ">>=", RightShiftEqual) ∷ []

-- operators of Cython that this language leaves out
unfoldable pub foreign_signs : List (List ℕ)
foreign_signs = codes "/" ∷ codes "/=" ∷ codes "**" ∷ codes "**=" ∷ codes "@=" ∷ codes "->" ∷ codes ":=" ∷ []

-- the spellings of all signs
abbrev pub signs : List (List ℕ)
signs = map (λ row. row.0) operators ++ foreign_signs

abbrev pub IsSign : List ℕ → Type 0
IsSign spelling = IsTrue (is_among signs spelling)

-- a sign stands at the front
abbrev pub begins_sign : List ℕ → Bool
begins_sign cs = list_any (λ sign. starts_with nat_eq cs sign) signs

-- the kind of a sign by what it stands for as an operator; the others are foreign
abbrev pub sign_kind : Option Operator → TokenKind
sign_kind (Some operator) = kind.Operator operator
sign_kind None = kind.Foreign

abbrev pub IsSignKind : List ℕ → TokenKind → Type 0
IsSignKind spelling t = t ≡ sign_kind (meaning_in operators spelling)

-- `(`, `[` and `{`, and `)`, `]` and `}`
abbrev pub is_opening : List ℕ → Bool
is_opening spelling = is_among (codes "(" ∷ codes "[" ∷ codes "{" ∷ []) spelling

abbrev pub is_closing : List ℕ → Bool
is_closing spelling = is_among (codes ")" ∷ codes "]" ∷ codes "}" ∷ []) spelling

-- Where parts of statements end.
use Rattle.std.specs.Prelude.{ℕ, ◌≤◌, ◌⊎◌, List, codes}
use Rattle.px_lexer.specs.declared.spelling.Keyword.TheVariants as word
use Rattle.px_lexer.specs.declared.spelling.Operator.{Operator}
use Rattle.px_lexer.specs.declared.spelling.Operator.TheVariants as sign
use Rattle.px_lexer.specs.declared.token_list.TokenKind.{TokenKind}
use Rattle.px_lexer.specs.declared.token_list.TokenKind.TheVariants as kind
use Rattle.px_lexer.specs.Terminals.{HasKind, IsKeyword, IsOperator, IsName}
use Rattle.px_exprs.specs.Codes.{code_at}
use Rattle.px_exprs.specs.Readings.{Stops}

-- a list of expressions: the token begins no expression, goes on with none, and is no comma
abbrev pub EndsExprs : Stops
EndsExprs ts i = 28 ≤ code_at ts i

-- a simple statement
abbrev pub EndsSimple : Stops
EndsSimple ts i = IsOperator ts i sign.Semicolon ⊎ HasKind ts i kind.Newline

-- a target of a `for`
abbrev pub EndsLoopTarget : Stops
EndsLoopTarget ts i = IsOperator ts i sign.Comma ⊎ IsKeyword ts i word.In

-- a name behind a type
abbrev pub EndsName : Stops
EndsName ts i = ((name : List ℕ) → IsName ts i name → ⊥) × (IsOperator ts i sign.OpenBracket → ⊥)

-- an `if` with its arms
abbrev pub EndsArms : Stops
EndsArms ts i = (IsKeyword ts i word.Elif → ⊥) × (IsKeyword ts i word.Else → ⊥)

-- declared variables
abbrev pub EndsDecl : Stops
EndsDecl ts i = IsOperator ts i sign.Comma ⊎ HasKind ts i kind.Newline

-- a token of this kind
abbrev pub IsBefore : TokenKind → Stops
IsBefore k ts i = HasKind ts i k

-- names with this operator between them
abbrev pub EndsNames : Operator → Stops
EndsNames separator ts i = IsOperator ts i separator → ⊥

-- a name that is imported
abbrev pub EndsAlias : Stops
EndsAlias ts i = IsKeyword ts i word.As → ⊥

-- a parameter
abbrev pub EndsParameter : Stops
EndsParameter ts i = IsOperator ts i sign.Comma ⊎ IsOperator ts i sign.CloseParenthesis

-- decorators
abbrev pub EndsDecorators : Stops
EndsDecorators ts i = IsOperator ts i sign.At → ⊥

-- what a function says of exceptions: what it says of the lock stands behind it, or its colon
abbrev pub EndsException : Stops
EndsException ts i = IsName ts i (codes "nogil") ⊎ (IsKeyword ts i word.With ⊎ IsOperator ts i sign.Colon)

-- the `elif` parts of an `if`
abbrev pub EndsElifs : Stops
EndsElifs ts i = IsKeyword ts i word.Elif → ⊥

-- the `else` part of an `if`
abbrev pub EndsElse : Stops
EndsElse ts i = IsKeyword ts i word.Else → ⊥

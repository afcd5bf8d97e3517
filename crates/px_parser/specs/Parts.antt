-- Parts of statements as the reader reads them.
use Rattle.std.specs.Prelude.{◌≡◌, ◌⊎◌, ℕ, suc, Bool, true, false, List, [], ◌∷◌, map, codes, Option, Some, None}
use Rattle.px_base.specs.declared.refusals.Span.{Span}
use Rattle.px_lexer.specs.declared.spelling.Operator.{Operator}
use Rattle.px_lexer.specs.declared.spelling.Operator.TheVariants as sign
use Rattle.px_lexer.specs.declared.token_list.TokenKind.TheVariants as kind
use Rattle.px_tree.specs.declared.expressions.Expr.{Expr}
use Rattle.px_tree.specs.declared.expressions.ExprForm.TheVariants as form
use Rattle.px_tree.specs.declared.expressions.Trailer.{Trailer}
use Rattle.px_tree.specs.declared.statements.StmtForm.{StmtForm}
use Rattle.px_tree.specs.declared.typings.BaseType.{BaseType}
use Rattle.px_tree.specs.declared.typings.«Type».{«Type» as Typing}
use Rattle.px_tree.specs.declared.modules.ResultType.{ResultType}
use Rattle.px_tree.specs.declared.statements.Declarator.{Declarator}
use Rattle.px_tree.specs.declared.modules.FunctionKind.{FunctionKind}
use Rattle.px_tree.specs.declared.modules.ExceptionForm.{ExceptionForm}
use Rattle.px_tree.specs.declared.modules.ExceptionForm.TheVariants as exception
use Rattle.px_tree.specs.declared.modules.ModuleItem.{ModuleItem}
use Rattle.px_tree.specs.declared.modules.ModuleItem.TheVariants as module_item
use Rattle.px_lexer.specs.Terminals.{IsName, IsOperator}
use Rattle.px_exprs.specs.Grammar.{node, IsExpr}
use Rattle.px_exprs.specs.Readings.{Stops}
use Rattle.px_exprs.specs.Typings.{IsBase, IsTyping}
use Rattle.px_parser.specs.Shapes.{Shape, Sign, Name, Seq, Here, Placed, Of, After, Before, Either, Many, Maybe, Separated, Elements, Nested}
use Rattle.px_parser.specs.StatementGrammar.{IsWithinLimit, EndsWithSubscript, InBrackets, expr_list, Assignment, Augmentation, Decl, Declare, alone, joined}
use Rattle.px_parser.specs.ModuleGrammar.{Numbered, Result, DefHead, CHead, Item, FunctionForm, one_function}

-- Expressions

-- whether one expression without a comma was read
abbrev pub is_alone : {A : Type 0} → Option A → Bool
is_alone None = true
is_alone (Some others) = false

-- exprs, and whether they are one expression without a comma
unfoldable pub ExprsRead : Shape (Expr × Bool)
ExprsRead = Of (λ (at, (first, (number, others))). (expr_list at first number others, is_alone others)) (Placed (Seq IsWithinLimit (Seq Here (Maybe (After (kind.Operator sign.Comma) (Elements (kind.Operator sign.Comma) IsWithinLimit))))))

-- Targets

mutual
  -- the tree of an expression that is a target too
  pub data IsTargetTree : Expr → Type 0 where
    name : {e : Expr} → (number : ℕ) (at : Span) (spelled : List ℕ) → e ≡ node number at (form.Name spelled) → IsTargetTree e
    element : {e : Expr} → (number : ℕ) (at : Span) (atom : Expr) (trailers : List Trailer) → EndsWithSubscript trailers → e ≡ node number at (form.Row atom trailers) → IsTargetTree e
    tuple : {e : Expr} → (number : ℕ) (at : Span) (first : Expr) (others : List Expr) → IsTargetTree first → AreTargetTrees others → e ≡ node number at (form.Tuple (first ∷ others)) → IsTargetTree e

  pub data AreTargetTrees : List Expr → Type 0 where
    none : AreTargetTrees []
    more : {first : Expr} {others : List Expr} → IsTargetTree first → AreTargetTrees others → AreTargetTrees (first ∷ others)

-- an assignment or an augmented one
unfoldable pub Assigned : Shape StmtForm
Assigned = Either Assignment Augmentation

-- Names behind types, with the index of the name

-- the first word of a type: `const`, or a base of one word
abbrev pub BeginsType : Stops
BeginsType ts i = IsName ts i (codes "const") ⊎ ((b : BaseType) × IsBase ts i b (suc i))

-- a name behind a type can't end before an identifier or a bracket that opens axes
abbrev pub GoesOn : Stops
GoesOn ts i = ((name : List ℕ) × IsName ts i name) ⊎ IsOperator ts i sign.OpenBracket

unfoldable pub TypedName : Shape (Typing × ℕ)
TypedName = Of (λ p. (p.0, p.1.0)) (Seq (Nested IsTyping) Numbered)

unfoldable pub MaybeTypedName : Shape (Option Typing × ℕ)
MaybeTypedName = Of (λ p. (p.0, p.1.0)) (Seq (Maybe (Nested IsTyping)) Numbered)

unfoldable pub ResultName : Shape (ResultType × ℕ)
ResultName = Of (λ p. (p.0, p.1.0)) (Seq Result Numbered)

-- Parts of simple statements

-- '(' [expr] ')'
unfoldable pub RaisedText : Shape (Option Expr)
RaisedText = After (kind.Operator sign.OpenParenthesis) (Before (Maybe (Nested (InBrackets IsExpr))) (kind.Operator sign.CloseParenthesis))

-- NAME (separator NAME)*
unfoldable pub NamesBy : Operator → Shape (List (List ℕ))
NamesBy separator = Separated (kind.Operator separator) Name

-- Parts of declarations

-- ['=' expr] (',' decl)* NEWLINE, which stands behind the first name, with the index of the NEWLINE
unfoldable pub DeclRest : Shape (Option Expr × (List Declarator × ℕ))
DeclRest = Seq (Maybe (After (kind.Operator sign.Equal) IsWithinLimit)) (Seq (Many (After (kind.Operator sign.Comma) Decl)) (Before Here kind.Newline))

-- Parts of functions and modules

-- a head, of whose name the index alone is kept
abbrev pub without_name : FunctionKind × (Bool × (ResultType × (ℕ × List ℕ))) → FunctionKind × (Bool × (ResultType × ℕ))
without_name = λ (function, (is_inline, (gives, (number, spelled)))). (function, (is_inline, (gives, number)))

-- 'def' or the head of a C function, with the index of the name
unfoldable pub HeadRead : Shape (FunctionKind × (Bool × (ResultType × ℕ)))
HeadRead = Of without_name (Either DefHead CHead)

unfoldable pub CHeadRead : Shape (FunctionKind × (Bool × (ResultType × ℕ)))
CHeadRead = Of without_name CHead

-- what stands behind `except`
unfoldable pub Caught : Shape ExceptionForm
Caught = Either (Of exception.Except IsWithinLimit) (Either (After (kind.Operator sign.Question) (Of exception.Maybe IsWithinLimit)) (Of (λ _. exception.Any) (Sign sign.Star)))

-- items up to the end of the text
unfoldable pub ItemsRead : Shape (List ModuleItem)
ItemsRead = Of joined (Many Item)

-- what begins with `cdef` in a module
unfoldable pub CItem : Shape (List ModuleItem)
CItem = Either (Of one_function FunctionForm) (Of (map module_item.Statement) (Of alone Declare))

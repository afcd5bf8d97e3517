-- The grammar of statements (Python Language Reference, 7 Simple statements and 8 Compound statements; Cython user guide, Language
-- Basics).
use Rattle.std.specs.Prelude.{◌≡◌, ℕ, zero, suc, ◌≤◌, max, Bool, List, [], ◌∷◌, ◌++◌, Option, Some, None, codes}
use Rattle.px_base.specs.declared.refusals.Span.{Span}
use Rattle.px_base.specs.declared.c_types.BinOp.{BinOp}
use Rattle.px_base.specs.declared.c_types.BinOp.TheVariants as op
use Rattle.px_lexer.specs.declared.spelling.Keyword.{Keyword}
use Rattle.px_lexer.specs.declared.spelling.Keyword.TheVariants as word
use Rattle.px_lexer.specs.declared.spelling.Operator.{Operator}
use Rattle.px_lexer.specs.declared.spelling.Operator.TheVariants as sign
use Rattle.px_lexer.specs.declared.token_list.TokenKind.TheVariants as kind
use Rattle.px_tree.specs.declared.expressions.Expr.{Expr}
use Rattle.px_tree.specs.declared.expressions.ExprForm.TheVariants as form
use Rattle.px_tree.specs.declared.expressions.Item.{Item}
use Rattle.px_tree.specs.declared.expressions.Trailer.{Trailer}
use Rattle.px_tree.specs.declared.expressions.Trailer.TheVariants as trailer
use Rattle.px_tree.specs.declared.typings.«Type».{«Type» as Typing}
use Rattle.px_tree.specs.declared.statements.Declaration.{Declaration}
use Rattle.px_tree.specs.declared.statements.Declarator.{Declarator}
use Rattle.px_tree.specs.declared.statements.Stmt.{Stmt, roll-Stmt}
use Rattle.px_tree.specs.declared.statements.StmtForm.{StmtForm}
use Rattle.px_tree.specs.declared.statements.StmtForm.TheVariants as statement
use Rattle.px_tree.specs.declared.statements.Arm.{Arm, roll-Arm}
use Rattle.px_lexer.specs.Terminals.{Terminal, IsName, IsOperator, IsAt}
use Rattle.px_exprs.specs.Typings.{IsTyping}
use Rattle.px_exprs.specs.Grammar.{node, IsOf, IsExpr, IsAtom, AreTrailers, HasComma}
use Rattle.px_exprs.specs.Readings.{Form}
use Rattle.px_parser.specs.Shapes.{Mode, Shape, Name, Soft, Here, Placed, Gives, Seq, Either, Many, Listed, Of, After, Before, Or, Maybe, Several, Separated, Elements, Nested}

abbrev pub statement_node : ℕ → Span → StmtForm → Stmt
statement_node number at form = roll-Stmt (record { number = number; at = at; form = form })

abbrev pub arm_node : ℕ → Span → Expr → List Stmt → Arm
arm_node number at test block = roll-Arm (record { number = number; at = at; test = test; block = block })

-- Expressions and targets

-- one expression without a comma behind it is that expression; else the number is the index of the first comma
abbrev pub expr_list : Span → Expr → ℕ → Option (List Expr) → Expr
expr_list at first number None = first
expr_list at first number (Some others) = node number at (form.Tuple (first ∷ others))

-- X (',' X)* [',']
abbrev pub CommaList : Shape Expr → Shape Expr
CommaList X = Of (λ (at, (first, (number, others))). expr_list at first number others) (Placed (Seq X (Seq Here (Maybe (After (kind.Operator sign.Comma) (Elements (kind.Operator sign.Comma) X))))))

abbrev pub IsWithinLimit : Shape Expr
IsWithinLimit = Nested IsExpr

-- exprs     : expr (',' expr)* [',']
unfoldable pub Exprs : Shape Expr
Exprs = CommaList IsWithinLimit

-- the last of these is a subscript
abbrev pub EndsWithSubscript : List Trailer → Type 0
EndsWithSubscript trailers = (others : List Trailer) × (items : List Item) × (comma : Bool) × (trailers ≡ others ++ trailer.Subscript items comma ∷ [])

mutual
  -- target    : NAME | primary '[' items ']' | '(' targets ')'
  pub data IsTarget (ts : List Terminal) : ℕ → Expr → ℕ → ℕ → Type 0 where
    name : {i : ℕ} {at : Span} {spelled : List ℕ} {e : Expr} → IsAt ts i at → IsName ts i spelled → e ≡ node i at (form.Name spelled) → IsTarget ts i e 0 (suc i)
    element : {i k a b j : ℕ} {at : Span} {atom e : Expr} {trailers : List Trailer} → IsAt ts i at → IsAtom ts i atom a k → AreTrailers ts k trailers b j → EndsWithSubscript trailers → e ≡ node k at (form.Row atom trailers)
        → IsTarget ts i e (max a b) j
    -- parentheses round one target without a comma are that target
    in_parentheses : {i k d : ℕ} {e : Expr} → IsOperator ts i sign.OpenParenthesis → IsTarget ts (suc i) e d k → IsOperator ts k sign.CloseParenthesis → IsTarget ts i e (suc d) (suc k)
    tuple : {i k d : ℕ} {at : Span} {items : List Expr} {e : Expr} → IsAt ts i at → IsOperator ts i sign.OpenParenthesis → HasTargets ts (suc i) items d k → IsOperator ts k sign.CloseParenthesis
        → e ≡ node i at (form.Tuple items) → IsTarget ts i e (suc d) (suc k)

  -- targets with a comma between or behind them
  pub data HasTargets (ts : List Terminal) : ℕ → List Expr → ℕ → ℕ → Type 0 where
    one_with_comma : {i k d : ℕ} {e : Expr} → IsTarget ts i e d k → IsOperator ts k sign.Comma → HasTargets ts i (e ∷ []) d (suc k)
    several : {i k l a b j : ℕ} {first : Expr} {others : List Expr} → IsTarget ts i first a k → IsOperator ts k sign.Comma → AreTargets ts (suc k) others b l → HasComma ts l j → HasTargets ts i (first ∷ others) (max a b) j

  -- target (',' target)*
  pub data AreTargets (ts : List Terminal) : ℕ → List Expr → ℕ → ℕ → Type 0 where
    last_target : {k d j : ℕ} {e : Expr} → IsTarget ts k e d j → AreTargets ts k (e ∷ []) d j
    more_targets : {k l c d j : ℕ} {e : Expr} {others : List Expr} → IsTarget ts k e c l → IsOperator ts l sign.Comma → AreTargets ts (suc l) others d j → AreTargets ts k (e ∷ others) (max c d) j

-- targets   : target (',' target)* [',']
unfoldable pub Targets : Shape Expr
Targets = CommaList (Nested IsTarget)

-- one target is that target; else the number is the index of the first comma
abbrev pub loop_target : Span → Expr → ℕ → List Expr → Expr
loop_target at first number [] = first
loop_target at first number (second ∷ others) = node number at (form.Tuple (first ∷ second ∷ others))

-- target (',' target)*, as in `for`: no comma stands behind the last
unfoldable pub LoopTargets : Shape Expr
LoopTargets = Of (λ (at, (first, (number, others))). loop_target at first number others) (Placed (Seq (Nested IsTarget) (Seq Here (Many (After (kind.Operator sign.Comma) (Nested IsTarget))))))

-- Simple statements

unfoldable pub augmented : List (Operator × BinOp)
augmented =
    (sign.PlusEqual, op.Add) ∷ (sign.MinusEqual, op.Sub) ∷ (sign.StarEqual, op.Mul) ∷ (sign.DoubleSlashEqual, op.FloorDiv) ∷ (sign.PercentEqual, op.Mod) ∷
    (sign.AmpersandEqual, op.BitAnd) ∷ (sign.BarEqual, op.BitOr) ∷ (sign.CaretEqual, op.BitXor) ∷ (sign.LeftShiftEqual, op.Shl) ∷ (sign.RightShiftEqual, op.Shr) ∷ []

-- AUGMENTED
pub record Augmented (mode : Mode) (ts : List Terminal) (i : ℕ) (meant : BinOp) (n j : ℕ) : Type 0 where
  pub read : IsOf augmented ts i meant
  pub end : j ≡ suc i

-- (targets '=')* exprs
unfoldable pub Assignment : Shape StmtForm
Assignment = Of (λ p. statement.Assign p.0 p.1) (Seq (Many (Before Targets (kind.Operator sign.Equal))) Exprs)

-- target AUGMENTED expr
unfoldable pub Augmentation : Shape StmtForm
Augmentation = Of (λ p. statement.Augment p.0 p.1.0 p.1.1) (Seq (Nested IsTarget) (Seq Augmented IsWithinLimit))

-- 'return' [exprs]
unfoldable pub Return : Shape StmtForm
Return = After (kind.Keyword word.Return) (Of statement.Return (Maybe Exprs))

-- a form in brackets
pub record InBrackets {A : Type 0} (X : Form A) (ts : List Terminal) (i : ℕ) (t : A) (depth j : ℕ) : Type 0 where
  pub inner : ℕ
  pub read : X ts i t inner j
  pub nests : depth ≡ suc inner

-- 'raise' NAME ['(' [expr] ')']; empty brackets are left out of the tree
unfoldable pub Raise : Shape StmtForm
Raise = After (kind.Keyword word.Raise) (Of (λ p. statement.Raise p.0 p.1) (Seq Name (Or None (After (kind.Operator sign.OpenParenthesis) (Before (Maybe (Nested (InBrackets IsExpr))) (kind.Operator sign.CloseParenthesis))))))

-- 'global' NAME (',' NAME)*
unfoldable pub Global : Shape StmtForm
Global = After (kind.Keyword word.Global) (Of statement.Global (Separated (kind.Operator sign.Comma) Name))

-- simple    : (targets '=')* exprs | target AUGMENTED expr | 'pass' | 'break' | 'continue'
--           | 'return' [exprs] | 'raise' NAME ['(' [expr] ')'] | 'global' NAME (',' NAME)*
unfoldable pub SimpleForm : Shape StmtForm
SimpleForm =
    Either (After (kind.Keyword word.Pass) (Gives statement.Pass)) (Either (After (kind.Keyword word.Break) (Gives statement.Break)) (Either (After (kind.Keyword word.Continue) (Gives statement.Continue))
    (Either Return (Either Raise (Either Global (Either Assignment Augmentation))))))

-- its number is the index of the `;` or NEWLINE that ends it
unfoldable pub Simple : Shape Stmt
Simple = Of (λ (at, (form, number)). statement_node number at form) (Placed (Seq SimpleForm Here))

-- line      : simple (';' simple)* [';'] NEWLINE
unfoldable pub Line : Shape (List Stmt)
Line = Before (Listed (kind.Operator sign.Semicolon) Simple) kind.Newline

-- Declarations

-- decl      : NAME ['=' expr]
unfoldable pub Decl : Shape Declarator
Decl = Of (λ (number, (at, (spelled, value))). record { number = number; at = at; name = spelled; value = value }) (Seq Here (Placed (Seq Name (Maybe (After (kind.Operator sign.Equal) IsWithinLimit)))))

-- decls     : decl (',' decl)*
unfoldable pub Decls : Shape (List Declarator)
Decls = Separated (kind.Operator sign.Comma) Decl

-- type decls NEWLINE, with the index of the NEWLINE
unfoldable pub Declared : Shape (Typing × (List Declarator × ℕ))
Declared = Seq (Nested IsTyping) (Seq Decls (Before Here kind.Newline))

abbrev pub declaration_of : ℕ → Span → Typing × (List Declarator × ℕ) → Declaration
declaration_of number at p = record { number = number; at = at; typing = p.0; names = p.1.0 }

-- 'cdef' type decls NEWLINE; its number is the index of its NEWLINE, and that of the declaration the index of the `cdef`
unfoldable pub DeclareLine : Shape Stmt
DeclareLine = Of (λ (number, (at, declared)). statement_node declared.1.1 at (statement.Declare (declaration_of number at declared))) (Seq Here (Placed (After (kind.Keyword word.Cdef) Declared)))

-- type decls NEWLINE in a group; its number is the index of its NEWLINE
unfoldable pub GroupLine : Shape Declaration
GroupLine = Of (λ (at, declared). declaration_of declared.1.1 at declared) (Placed Declared)

-- 'cdef' ':' NEWLINE INDENT (type decls NEWLINE)+ DEDENT; its number is the index of its colon
unfoldable pub DeclareGroup : Shape Stmt
DeclareGroup = Of (λ (at, (number, lines)). statement_node number at (statement.DeclareGroup lines)) (Placed (After (kind.Keyword word.Cdef) (Seq (Before Here (kind.Operator sign.Colon))
    (After kind.Newline (After kind.Indent (Before (Several GroupLine) kind.Dedent))))))

-- declare   : 'cdef' type decls NEWLINE | 'cdef' ':' NEWLINE INDENT (type decls NEWLINE)+ DEDENT
unfoldable pub Declare : Shape Stmt
Declare = Either DeclareLine DeclareGroup

-- Compound statements, with blocks of this shape; their number is the index of the colon of their header

-- ':' and a block, with the index of the colon
unfoldable pub Body : Shape (List Stmt) → Shape (ℕ × List Stmt)
Body block = Seq (Before Here (kind.Operator sign.Colon)) block

-- a keyword, expr ':' block, with the place of the keyword
unfoldable pub Guarded : Keyword → Shape (List Stmt) → Shape (Span × (Expr × (ℕ × List Stmt)))
Guarded w block = Placed (After (kind.Keyword w) (Seq IsWithinLimit (Body block)))

-- the same with the index of the keyword, which is the number of the arm
unfoldable pub Armed : Keyword → Shape (List Stmt) → Shape (ℕ × (Span × (Expr × (ℕ × List Stmt))))
Armed w block = Seq Here (Guarded w block)

abbrev pub arm_of : ℕ × (Span × (Expr × (ℕ × List Stmt))) → Arm
arm_of = λ (number, (at, (test, (colon, block)))). arm_node number at test block

abbrev pub if_of : ℕ × (Span × (Expr × (ℕ × List Stmt))) → List Arm → Option (List Stmt) → Stmt
if_of p others otherwise = statement_node p.1.1.1.0 p.1.0 (statement.If (arm_of p ∷ others) otherwise)

-- if        : 'if' expr ':' block ('elif' expr ':' block)* ['else' ':' block]
unfoldable pub If : Shape (List Stmt) → Shape Stmt
If block = Of (λ (first, (others, otherwise)). if_of first others otherwise) (Seq (Armed word.If block) (Seq (Many (Of arm_of (Armed word.Elif block))) (Maybe (After (kind.Keyword word.Else) (After (kind.Operator sign.Colon) block)))))

-- while     : 'while' expr ':' block
unfoldable pub While : Shape (List Stmt) → Shape Stmt
While block = Of (λ (at, (test, (number, body))). statement_node number at (statement.While test body)) (Guarded word.While block)

-- for       : 'for' target (',' target)* 'in' exprs ':' block
unfoldable pub For : Shape (List Stmt) → Shape Stmt
For block = Of (λ (at, (target, (value, (number, body)))). statement_node number at (statement.For target value body)) (Placed (After (kind.Keyword word.For) (Seq LoopTargets (After (kind.Keyword word.In) (Seq Exprs (Body block))))))

-- 'gil' | 'nogil'
unfoldable pub LockWord : Shape (List Stmt → StmtForm)
LockWord = Either (Of (λ _. statement.WithGil) (Soft (codes "gil"))) (Of (λ _. statement.WithNogil) (Soft (codes "nogil")))

-- with      : 'with' ('gil' | 'nogil') ':' block
unfoldable pub With : Shape (List Stmt) → Shape Stmt
With block = Of (λ (at, (form, (number, body))). statement_node number at (form body)) (Placed (After (kind.Keyword word.With) (Seq LockWord (Body block))))

abbrev pub alone : Stmt → List Stmt
alone s = s ∷ []

-- statement : line | if | while | for | with | declare
unfoldable pub StatementWith : Shape (List Stmt) → Shape (List Stmt)
StatementWith block = Either (Of alone (If block)) (Either (Of alone (While block)) (Either (Of alone (For block)) (Either (Of alone (With block)) (Either (Of alone Declare) Line))))

-- Blocks

abbrev pub joined : {A : Type 0} → List (List A) → List A
joined [] = []
joined (xs ∷ others) = xs ++ joined others

-- statement+
unfoldable pub StatementsWith : Shape (List Stmt) → Shape (List Stmt)
StatementsWith block = Of joined (Several (StatementWith block))

-- NEWLINE INDENT statement+ DEDENT
unfoldable pub IndentedWith : Shape (List Stmt) → Shape (List Stmt)
IndentedWith block = After kind.Newline (After kind.Indent (Before (StatementsWith block) kind.Dedent))

-- a block that isn't looked at
pub record Unseen (mode : Mode) (ts : List Terminal) (i : ℕ) (ss : List Stmt) (n j : ℕ) : Type 0 where
  pub from : ℕ
  pub hidden : mode.unseen ≡ Some from
  pub behind : from ≤ i
  pub forward : i ≤ j

-- block     : line | NEWLINE INDENT statement+ DEDENT
-- where so many blocks may stand round a token
unfoldable pub BlockWithin : ℕ → Shape (List Stmt)
BlockWithin zero = Unseen
BlockWithin (suc more) = Either Unseen (Either Line (IndentedWith (BlockWithin more)))

unfoldable pub Block : Shape (List Stmt)
Block mode ts i ss n j = BlockWithin n mode ts i ss n j

unfoldable pub Statement : Shape (List Stmt)
Statement = StatementWith Block

-- The grammar of expressions (Python Language Reference, 6 Expressions; Cython user guide, Language Basics, casts). A relation from
-- one index to another says that the tokens from the first to before the second are so, with this tree and this nesting: the
-- greatest number of brackets, unary operators, `not`, casts, conditionals and chains that stand round one of these tokens.
use Rattle.std.specs.Prelude.{◌≡◌, ℕ, ℤ, suc, max, nat_lt, List, [], ◌∷◌, Option, Some, None, Contains}
use Rattle.px_base.specs.declared.refusals.Span.{Span}
use Rattle.px_base.specs.declared.c_types.BinOp.{BinOp}
use Rattle.px_base.specs.declared.c_types.BinOp.TheVariants as op
use Rattle.px_base.specs.declared.c_types.UnOp.{UnOp}
use Rattle.px_base.specs.declared.c_types.UnOp.TheVariants as unary
use Rattle.px_lexer.specs.declared.spelling.Keyword.TheVariants as word
use Rattle.px_lexer.specs.declared.spelling.Operator.{Operator}
use Rattle.px_lexer.specs.declared.spelling.Operator.TheVariants as sign
use Rattle.px_lexer.specs.declared.token_list.TokenKind.TheVariants as kind
use Rattle.px_tree.specs.declared.typings.«Type».{«Type» as Typing}
use Rattle.px_tree.specs.declared.expressions.CompareOp.{CompareOp}
use Rattle.px_tree.specs.declared.expressions.CompareOp.TheVariants as compare
use Rattle.px_tree.specs.declared.expressions.Expr.{Expr, roll-Expr}
use Rattle.px_tree.specs.declared.expressions.ExprForm.{ExprForm}
use Rattle.px_tree.specs.declared.expressions.ExprForm.TheVariants as form
use Rattle.px_tree.specs.declared.expressions.Entry.{Entry, roll-Entry}
use Rattle.px_tree.specs.declared.expressions.Trailer.{Trailer}
use Rattle.px_tree.specs.declared.expressions.Trailer.TheVariants as trailer
use Rattle.px_tree.specs.declared.expressions.Argument.{Argument, roll-Argument}
use Rattle.px_tree.specs.declared.expressions.Item.{Item}
use Rattle.px_tree.specs.declared.expressions.Item.TheVariants as item
use Rattle.px_tree.specs.declared.expressions.Link.{Link, roll-Link}
use Rattle.px_tree.specs.declared.expressions.Comparison.{Comparison, roll-Comparison}
use Rattle.px_lexer.specs.Terminals.{Terminal, HasKind, IsKeyword, IsOperator, IsName, IsAt}
use Rattle.px_exprs.specs.Typings.{IsTyping}

-- The number of a node is the index of a token that belongs to no other node: of its first operator for a chain or a
-- conditional, of its bracket for a list, of the first token behind the atom for a row, and of its first token otherwise.
abbrev pub node : ℕ → Span → ExprForm → Expr
node number at form = roll-Expr (record { number = number; at = at; form = form })

abbrev pub link : BinOp → Expr → Link
link op operand = roll-Link (record { op = op; operand = operand })

abbrev pub comparison : CompareOp → Expr → Comparison
comparison op operand = roll-Comparison (record { op = op; operand = operand })

abbrev pub argument : Option (List ℕ) → Expr → Argument
argument name value = roll-Argument (record { name = name; value = value })

abbrev pub entry : Expr → Expr → Entry
entry key value = roll-Entry (record { key = key; value = value })

-- Operators

-- the levels of binary operators, from the loosest
abbrev pub Level : Type 0
Level = List (Operator × BinOp)

unfoldable pub binary_levels : List Level
binary_levels =
    ((sign.Bar, op.BitOr) ∷ []) ∷
    ((sign.Caret, op.BitXor) ∷ []) ∷
    ((sign.Ampersand, op.BitAnd) ∷ []) ∷
    ((sign.LeftShift, op.Shl) ∷ (sign.RightShift, op.Shr) ∷ []) ∷
    ((sign.Plus, op.Add) ∷ (sign.Minus, op.Sub) ∷ []) ∷
    ((sign.Star, op.Mul) ∷ (sign.DoubleSlash, op.FloorDiv) ∷ (sign.Percent, op.Mod) ∷ []) ∷ []

unfoldable pub unary_operators : List (Operator × UnOp)
unary_operators = (sign.Plus, unary.Plus) ∷ (sign.Minus, unary.Minus) ∷ (sign.Tilde, unary.Invert) ∷ []

unfoldable pub compare_signs : List (Operator × CompareOp)
compare_signs =
    (sign.Less, compare.Less) ∷ (sign.Greater, compare.Greater) ∷ (sign.LessEqual, compare.LessEqual) ∷ (sign.GreaterEqual, compare.GreaterEqual) ∷
    (sign.DoubleEqual, compare.Equal) ∷ (sign.NotEqual, compare.NotEqual) ∷ []

-- an operator of a table
pub record IsOf {A : Type 0} (table : List (Operator × A)) (ts : List Terminal) (i : ℕ) (meant : A) : Type 0 where
  pub spelled : Operator
  pub known : Contains table (spelled, meant)
  pub stands : IsOperator ts i spelled

-- a comparison, of one token or two
pub data IsCompareOp (ts : List Terminal) (i : ℕ) (meant : CompareOp) (j : ℕ) : Type 0 where
  by_sign : IsOf compare_signs ts i meant → j ≡ suc i → IsCompareOp ts i meant j
  in_ : IsKeyword ts i word.In → meant ≡ compare.In → j ≡ suc i → IsCompareOp ts i meant j
  not_in : IsKeyword ts i word.Not → IsKeyword ts (suc i) word.In → meant ≡ compare.NotIn → j ≡ suc (suc i) → IsCompareOp ts i meant j
  is_ : IsKeyword ts i word.Is → meant ≡ compare.Is → j ≡ suc i → IsCompareOp ts i meant j
  is_not : IsKeyword ts i word.Is → IsKeyword ts (suc i) word.Not → meant ≡ compare.IsNot → j ≡ suc (suc i) → IsCompareOp ts i meant j

-- adjacent strings, one or more
pub data AreTexts (ts : List Terminal) : ℕ → List (List ℕ) → ℕ → Type 0 where
  last_text : {i : ℕ} {content : List ℕ} → HasKind ts i (kind.Text content) → AreTexts ts i (content ∷ []) (suc i)
  more_texts : {i j : ℕ} {content : List ℕ} {others : List (List ℕ)} → HasKind ts i (kind.Text content) → AreTexts ts (suc i) others j → AreTexts ts i (content ∷ others) j

-- Expressions

mutual
  -- expr      : or ['if' or 'else' expr]
  pub data IsExpr (ts : List Terminal) : ℕ → Expr → ℕ → ℕ → Type 0 where
    plain : {i d j : ℕ} {e : Expr} → IsOr ts i e d j → IsExpr ts i e d j
    conditional : {i k l a b c j : ℕ} {at : Span} {value test otherwise e : Expr} → IsAt ts i at → IsOr ts i value a k → IsKeyword ts k word.If → IsOr ts (suc k) test b l → IsKeyword ts l word.Else
        → IsExpr ts (suc l) otherwise c j → e ≡ node k at (form.Conditional value test otherwise) → IsExpr ts i e (suc (max a (max b c))) j

  -- or        : and ('or' and)*
  pub data IsOr (ts : List Terminal) : ℕ → Expr → ℕ → ℕ → Type 0 where
    one_and : {i d j : ℕ} {e : Expr} → IsAnd ts i e d j → IsOr ts i e d j
    or_chain : {i k a b j : ℕ} {at : Span} {first e : Expr} {others : List Expr} → IsAt ts i at → IsAnd ts i first a k → AreOrs ts k others b j → e ≡ node k at (form.Or (first ∷ others)) → IsOr ts i e (suc (max a b)) j

  pub data AreOrs (ts : List Terminal) : ℕ → List Expr → ℕ → ℕ → Type 0 where
    last_or : {k d j : ℕ} {e : Expr} → IsKeyword ts k word.Or → IsAnd ts (suc k) e d j → AreOrs ts k (e ∷ []) d j
    more_ors : {k l a b j : ℕ} {e : Expr} {others : List Expr} → IsKeyword ts k word.Or → IsAnd ts (suc k) e a l → AreOrs ts l others b j → AreOrs ts k (e ∷ others) (max a b) j

  -- and       : not ('and' not)*
  pub data IsAnd (ts : List Terminal) : ℕ → Expr → ℕ → ℕ → Type 0 where
    one_not : {i d j : ℕ} {e : Expr} → IsNot ts i e d j → IsAnd ts i e d j
    and_chain : {i k a b j : ℕ} {at : Span} {first e : Expr} {others : List Expr} → IsAt ts i at → IsNot ts i first a k → AreAnds ts k others b j → e ≡ node k at (form.And (first ∷ others)) → IsAnd ts i e (suc (max a b)) j

  pub data AreAnds (ts : List Terminal) : ℕ → List Expr → ℕ → ℕ → Type 0 where
    last_and : {k d j : ℕ} {e : Expr} → IsKeyword ts k word.And → IsNot ts (suc k) e d j → AreAnds ts k (e ∷ []) d j
    more_ands : {k l a b j : ℕ} {e : Expr} {others : List Expr} → IsKeyword ts k word.And → IsNot ts (suc k) e a l → AreAnds ts l others b j → AreAnds ts k (e ∷ others) (max a b) j

  -- not       : 'not' not | compare
  pub data IsNot (ts : List Terminal) : ℕ → Expr → ℕ → ℕ → Type 0 where
    compared : {i d j : ℕ} {e : Expr} → IsCompare ts i e d j → IsNot ts i e d j
    denied : {i d j : ℕ} {at : Span} {operand e : Expr} → IsAt ts i at → IsKeyword ts i word.Not → IsNot ts (suc i) operand d j → e ≡ node i at (form.Not operand) → IsNot ts i e (suc d) j

  -- compare   : bitor (op bitor)*
  pub data IsCompare (ts : List Terminal) : ℕ → Expr → ℕ → ℕ → Type 0 where
    one_operand : {i d j : ℕ} {e : Expr} → IsBinary ts binary_levels i e d j → IsCompare ts i e d j
    compare_chain : {i k a b j : ℕ} {at : Span} {first e : Expr} {others : List Comparison} → IsAt ts i at → IsBinary ts binary_levels i first a k → AreComparisons ts k others b j
        → e ≡ node k at (form.Compare first others) → IsCompare ts i e (suc (max a b)) j

  pub data AreComparisons (ts : List Terminal) : ℕ → List Comparison → ℕ → ℕ → Type 0 where
    last_comparison : {k l d j : ℕ} {meant : CompareOp} {e : Expr} → IsCompareOp ts k meant l → IsBinary ts binary_levels l e d j → AreComparisons ts k (comparison meant e ∷ []) d j
    more_comparisons : {k l m a b j : ℕ} {meant : CompareOp} {e : Expr} {others : List Comparison} → IsCompareOp ts k meant l → IsBinary ts binary_levels l e a m → AreComparisons ts m others b j
        → AreComparisons ts k (comparison meant e ∷ others) (max a b) j

  -- bitor to product: an operand of the next tighter level, and the operators of this level with their right operands
  pub data IsBinary (ts : List Terminal) : List Level → ℕ → Expr → ℕ → ℕ → Type 0 where
    tightest : {i d j : ℕ} {e : Expr} → IsUnary ts i e d j → IsBinary ts [] i e d j
    alone : {level : Level} {tighter : List Level} {i d j : ℕ} {e : Expr} → IsBinary ts tighter i e d j → IsBinary ts (level ∷ tighter) i e d j
    binary_chain : {level : Level} {tighter : List Level} {i k a b j : ℕ} {at : Span} {first e : Expr} {others : List Link} → IsAt ts i at → IsBinary ts tighter i first a k → AreLinks ts level tighter k others b j
        → e ≡ node k at (form.Chain first others) → IsBinary ts (level ∷ tighter) i e (suc (max a b)) j

  pub data AreLinks (ts : List Terminal) : Level → List Level → ℕ → List Link → ℕ → ℕ → Type 0 where
    last_link : {level : Level} {tighter : List Level} {k d j : ℕ} {meant : BinOp} {e : Expr} → IsOf level ts k meant → IsBinary ts tighter (suc k) e d j → AreLinks ts level tighter k (link meant e ∷ []) d j
    more_links : {level : Level} {tighter : List Level} {k l a b j : ℕ} {meant : BinOp} {e : Expr} {others : List Link} → IsOf level ts k meant → IsBinary ts tighter (suc k) e a l → AreLinks ts level tighter l others b j
        → AreLinks ts level tighter k (link meant e ∷ others) (max a b) j

  -- unary     : ('+' | '-' | '~') unary | '<' type '>' unary | primary
  pub data IsUnary (ts : List Terminal) : ℕ → Expr → ℕ → ℕ → Type 0 where
    signed : {i d j : ℕ} {at : Span} {meant : UnOp} {operand e : Expr} → IsAt ts i at → IsOf unary_operators ts i meant → IsUnary ts (suc i) operand d j → e ≡ node i at (form.Unary meant operand) → IsUnary ts i e (suc d) j
    cast : {i k a b j : ℕ} {at : Span} {typing : Typing} {operand e : Expr} → IsAt ts i at → IsOperator ts i sign.Less → IsTyping ts (suc i) typing a k → IsOperator ts k sign.Greater → IsUnary ts (suc k) operand b j
        → e ≡ node i at (form.Cast typing operand) → IsUnary ts i e (suc (max a b)) j
    unsigned : {i d j : ℕ} {e : Expr} → IsPrimary ts i e d j → IsUnary ts i e d j

  -- primary   : atom ('.' NAME | '(' [args] ')' | '[' items ']')*
  pub data IsPrimary (ts : List Terminal) : ℕ → Expr → ℕ → ℕ → Type 0 where
    one_atom : {i d j : ℕ} {e : Expr} → IsAtom ts i e d j → IsPrimary ts i e d j
    row : {i k a b j : ℕ} {at : Span} {atom e : Expr} {others : List Trailer} → IsAt ts i at → IsAtom ts i atom a k → AreTrailers ts k others b j → e ≡ node k at (form.Row atom others) → IsPrimary ts i e (max a b) j

  pub data AreTrailers (ts : List Terminal) : ℕ → List Trailer → ℕ → ℕ → Type 0 where
    last_trailer : {k d j : ℕ} {t : Trailer} → IsTrailer ts k t d j → AreTrailers ts k (t ∷ []) d j
    more_trailers : {k l a b j : ℕ} {t : Trailer} {others : List Trailer} → IsTrailer ts k t a l → AreTrailers ts l others b j → AreTrailers ts k (t ∷ others) (max a b) j

  pub data IsTrailer (ts : List Terminal) : ℕ → Trailer → ℕ → ℕ → Type 0 where
    attribute : {k : ℕ} {name : List ℕ} → IsOperator ts k sign.Point → IsName ts (suc k) name → IsTrailer ts k (trailer.Attribute name) 0 (suc (suc k))
    empty_call : {k : ℕ} → IsOperator ts k sign.OpenParenthesis → IsOperator ts (suc k) sign.CloseParenthesis → IsTrailer ts k (trailer.Call []) 1 (suc (suc k))
    call : {k l m d : ℕ} {arguments : List Argument} → IsOperator ts k sign.OpenParenthesis → AreArguments ts (suc k) arguments d l → HasComma ts l m → IsOperator ts m sign.CloseParenthesis
        → IsTrailer ts k (trailer.Call arguments) (suc d) (suc m)
    -- with a comma behind the last item the bracket stands behind the end of the items
    subscript : {k l m d : ℕ} {items : List Item} → IsOperator ts k sign.OpenBracket → AreItems ts (suc k) items d l → HasComma ts l m → IsOperator ts m sign.CloseBracket
        → IsTrailer ts k (trailer.Subscript items (nat_lt l m)) (suc d) (suc m)

  -- args      : arg (',' arg)* [',']
  -- arg       : [NAME '='] expr
  pub data AreArguments (ts : List Terminal) : ℕ → List Argument → ℕ → ℕ → Type 0 where
    last_argument : {k d j : ℕ} {a : Argument} → IsArgument ts k a d j → AreArguments ts k (a ∷ []) d j
    more_arguments : {k l c d j : ℕ} {a : Argument} {others : List Argument} → IsArgument ts k a c l → IsOperator ts l sign.Comma → AreArguments ts (suc l) others d j → AreArguments ts k (a ∷ others) (max c d) j

  pub data IsArgument (ts : List Terminal) : ℕ → Argument → ℕ → ℕ → Type 0 where
    positional : {k d j : ℕ} {e : Expr} → IsExpr ts k e d j → IsArgument ts k (argument None e) d j
    keyword : {k d j : ℕ} {name : List ℕ} {e : Expr} → IsName ts k name → IsOperator ts (suc k) sign.Equal → IsExpr ts (suc (suc k)) e d j → IsArgument ts k (argument (Some name) e) d j

  -- items     : item (',' item)* [',']
  -- item      : expr | [expr] ':' [expr] [':' [expr]] | '...'
  pub data AreItems (ts : List Terminal) : ℕ → List Item → ℕ → ℕ → Type 0 where
    last_item : {k d j : ℕ} {a : Item} → IsItem ts k a d j → AreItems ts k (a ∷ []) d j
    more_items : {k l c d j : ℕ} {a : Item} {others : List Item} → IsItem ts k a c l → IsOperator ts l sign.Comma → AreItems ts (suc l) others d j → AreItems ts k (a ∷ others) (max c d) j

  pub data IsItem (ts : List Terminal) : ℕ → Item → ℕ → ℕ → Type 0 where
    index : {k d j : ℕ} {e : Expr} → IsExpr ts k e d j → IsItem ts k (item.Index e) d j
    ellipsis : {k : ℕ} → IsOperator ts k sign.Ellipsis → IsItem ts k item.Ellipsis 0 (suc k)
    slice : {k l a b j : ℕ} {from to : Option Expr} → MaybeExpr ts k from a l → IsOperator ts l sign.Colon → MaybeExpr ts (suc l) to b j → IsItem ts k (item.Slice from to None) (max a b) j
    step_slice : {k l m a b c j : ℕ} {from to step : Option Expr} → MaybeExpr ts k from a l → IsOperator ts l sign.Colon → MaybeExpr ts (suc l) to b m → IsOperator ts m sign.Colon → MaybeExpr ts (suc m) step c j
        → IsItem ts k (item.Slice from to step) (max a (max b c)) j

  -- [expr]
  pub data MaybeExpr (ts : List Terminal) : ℕ → Option Expr → ℕ → ℕ → Type 0 where
    absent : {k : ℕ} → MaybeExpr ts k None 0 k
    present : {k d j : ℕ} {e : Expr} → IsExpr ts k e d j → MaybeExpr ts k (Some e) d j

  -- [',']
  pub data HasComma (ts : List Terminal) : ℕ → ℕ → Type 0 where
    no_comma : {k : ℕ} → HasComma ts k k
    comma : {k : ℕ} → IsOperator ts k sign.Comma → HasComma ts k (suc k)

  -- expr (',' expr)*
  pub data AreExprs (ts : List Terminal) : ℕ → List Expr → ℕ → ℕ → Type 0 where
    last_expr : {k d j : ℕ} {e : Expr} → IsExpr ts k e d j → AreExprs ts k (e ∷ []) d j
    more_exprs : {k l c d j : ℕ} {e : Expr} {others : List Expr} → IsExpr ts k e c l → IsOperator ts l sign.Comma → AreExprs ts (suc l) others d j → AreExprs ts k (e ∷ others) (max c d) j

  -- expr ':' expr (',' expr ':' expr)*
  pub data AreEntries (ts : List Terminal) : ℕ → List Entry → ℕ → ℕ → Type 0 where
    last_entry : {k l a b j : ℕ} {key value : Expr} → IsExpr ts k key a l → IsOperator ts l sign.Colon → IsExpr ts (suc l) value b j → AreEntries ts k (entry key value ∷ []) (max a b) j
    more_entries : {k l m a b c j : ℕ} {key value : Expr} {others : List Entry} → IsExpr ts k key a l → IsOperator ts l sign.Colon → IsExpr ts (suc l) value b m → IsOperator ts m sign.Comma → AreEntries ts (suc m) others c j
        → AreEntries ts k (entry key value ∷ others) (max (max a b) c) j

  -- atom      : NAME | NUMBER | STRING+ | 'True' | 'False' | 'None' | 'sizeof' '(' type ')'
  --           | '(' [exprs] ')' | '[' [exprs] ']' | '{' [expr ':' expr (',' expr ':' expr)* [',']] '}'
  pub data IsAtom (ts : List Terminal) : ℕ → Expr → ℕ → ℕ → Type 0 where
    name : {i : ℕ} {at : Span} {spelled : List ℕ} {e : Expr} → IsAt ts i at → IsName ts i spelled → e ≡ node i at (form.Name spelled) → IsAtom ts i e 0 (suc i)
    number : {i : ℕ} {at : Span} {n : ℤ} {e : Expr} → IsAt ts i at → HasKind ts i (kind.Number n) → e ≡ node i at (form.Number n) → IsAtom ts i e 0 (suc i)
    texts : {i j : ℕ} {at : Span} {contents : List (List ℕ)} {e : Expr} → IsAt ts i at → AreTexts ts i contents j → e ≡ node i at (form.Text contents) → IsAtom ts i e 0 j
    true_ : {i : ℕ} {at : Span} {e : Expr} → IsAt ts i at → IsKeyword ts i word.True → e ≡ node i at form.True → IsAtom ts i e 0 (suc i)
    false_ : {i : ℕ} {at : Span} {e : Expr} → IsAt ts i at → IsKeyword ts i word.False → e ≡ node i at form.False → IsAtom ts i e 0 (suc i)
    none : {i : ℕ} {at : Span} {e : Expr} → IsAt ts i at → IsKeyword ts i word.None → e ≡ node i at form.None → IsAtom ts i e 0 (suc i)
    sizeof : {i k d : ℕ} {at : Span} {typing : Typing} {e : Expr} → IsAt ts i at → IsKeyword ts i word.Sizeof → IsOperator ts (suc i) sign.OpenParenthesis → IsTyping ts (suc (suc i)) typing d k → IsOperator ts k sign.CloseParenthesis
        → e ≡ node i at (form.Sizeof typing) → IsAtom ts i e (suc d) (suc k)
    -- parentheses round one expression without a comma are that expression
    in_parentheses : {i k d : ℕ} {e : Expr} → IsOperator ts i sign.OpenParenthesis → IsExpr ts (suc i) e d k → IsOperator ts k sign.CloseParenthesis → IsAtom ts i e (suc d) (suc k)
    empty_tuple : {i : ℕ} {at : Span} {e : Expr} → IsAt ts i at → IsOperator ts i sign.OpenParenthesis → IsOperator ts (suc i) sign.CloseParenthesis → e ≡ node i at (form.Tuple []) → IsAtom ts i e 1 (suc (suc i))
    tuple : {i k d : ℕ} {at : Span} {items : List Expr} {e : Expr} → IsAt ts i at → IsOperator ts i sign.OpenParenthesis → HasCommas ts (suc i) items d k → IsOperator ts k sign.CloseParenthesis → e ≡ node i at (form.Tuple items) → IsAtom ts i e (suc d) (suc k)
    empty_list : {i : ℕ} {at : Span} {e : Expr} → IsAt ts i at → IsOperator ts i sign.OpenBracket → IsOperator ts (suc i) sign.CloseBracket → e ≡ node i at (form.List []) → IsAtom ts i e 1 (suc (suc i))
    list : {i k l d : ℕ} {at : Span} {items : List Expr} {e : Expr} → IsAt ts i at → IsOperator ts i sign.OpenBracket → AreExprs ts (suc i) items d k → HasComma ts k l → IsOperator ts l sign.CloseBracket → e ≡ node i at (form.List items) → IsAtom ts i e (suc d) (suc l)
    empty_dict : {i : ℕ} {at : Span} {e : Expr} → IsAt ts i at → IsOperator ts i sign.OpenBrace → IsOperator ts (suc i) sign.CloseBrace → e ≡ node i at (form.Dict []) → IsAtom ts i e 1 (suc (suc i))
    dict : {i k l d : ℕ} {at : Span} {entries : List Entry} {e : Expr} → IsAt ts i at → IsOperator ts i sign.OpenBrace → AreEntries ts (suc i) entries d k → HasComma ts k l → IsOperator ts l sign.CloseBrace → e ≡ node i at (form.Dict entries) → IsAtom ts i e (suc d) (suc l)

  -- expressions with a comma between or behind them
  pub data HasCommas (ts : List Terminal) : ℕ → List Expr → ℕ → ℕ → Type 0 where
    one_with_comma : {i k d : ℕ} {e : Expr} → IsExpr ts i e d k → IsOperator ts k sign.Comma → HasCommas ts i (e ∷ []) d (suc k)
    several : {i k l a b j : ℕ} {first : Expr} {others : List Expr} → IsExpr ts i first a k → IsOperator ts k sign.Comma → AreExprs ts (suc k) others b l → HasComma ts l j → HasCommas ts i (first ∷ others) (max a b) j

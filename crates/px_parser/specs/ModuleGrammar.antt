-- The grammar of functions, imports and modules (Python Language Reference, 7.11 The import statement, 8.7 Function definitions and
-- 9.2 File input; Cython user guide, Language Basics, and Cython and the GIL).
use Rattle.std.specs.Prelude.{ℕ, Bool, true, false, List, [], ◌∷◌, map, Option, codes}
use Rattle.px_base.specs.declared.refusals.Span.{Span}
use Rattle.px_lexer.specs.declared.spelling.Keyword.TheVariants as word
use Rattle.px_lexer.specs.declared.spelling.Operator.TheVariants as sign
use Rattle.px_lexer.specs.declared.token_list.TokenKind.TheVariants as kind
use Rattle.px_tree.specs.declared.statements.Stmt.{Stmt}
use Rattle.px_tree.specs.declared.modules.Comment.{Comment}
use Rattle.px_tree.specs.declared.modules.ImportedName.{ImportedName}
use Rattle.px_tree.specs.declared.modules.ImportForm.{ImportForm}
use Rattle.px_tree.specs.declared.modules.ImportForm.TheVariants as imports
use Rattle.px_tree.specs.declared.modules.Import.{Import}
use Rattle.px_tree.specs.declared.modules.Decorator.{Decorator}
use Rattle.px_tree.specs.declared.modules.FunctionKind.{FunctionKind}
use Rattle.px_tree.specs.declared.modules.FunctionKind.TheVariants as function_kind
use Rattle.px_tree.specs.declared.modules.ResultType.{ResultType}
use Rattle.px_tree.specs.declared.modules.ResultType.TheVariants as result_type
use Rattle.px_tree.specs.declared.modules.ExceptionForm.{ExceptionForm}
use Rattle.px_tree.specs.declared.modules.ExceptionForm.TheVariants as exception
use Rattle.px_tree.specs.declared.modules.Lock.{Lock}
use Rattle.px_tree.specs.declared.modules.Lock.TheVariants as lock
use Rattle.px_tree.specs.declared.modules.Param.{Param}
use Rattle.px_tree.specs.declared.modules.Function.{Function}
use Rattle.px_tree.specs.declared.modules.ModuleItem.{ModuleItem}
use Rattle.px_tree.specs.declared.modules.ModuleItem.TheVariants as module_item
use Rattle.px_tree.specs.declared.modules.Module.{Module}
use Rattle.px_exprs.specs.Typings.{IsTyping}
use Rattle.px_parser.specs.Shapes.{Shape, Token, Word, Sign, Name, Soft, Here, Placed, Gives, Then, Seq, Either, Many, Of, After, Before, Or, Maybe, Separated, Elements, Nested}
use Rattle.px_parser.specs.StatementGrammar.{IsWithinLimit, Block, Statement, joined}

-- Names

-- NAME, with its index
unfoldable pub Numbered : Shape (ℕ × List ℕ)
Numbered = Seq Here Name

-- dotted    : NAME ('.' NAME)*
unfoldable pub Dotted : Shape (List (List ℕ))
Dotted = Separated (kind.Operator sign.Point) Name

-- ['as' NAME]
unfoldable pub Alias : Shape (Option (List ℕ))
Alias = Maybe (After (kind.Keyword word.As) Name)

-- Imports

-- 'import' or 'cimport'; whether it is the second
unfoldable pub ImportWord : Shape Bool
ImportWord = Either (Of (λ _. false) (Word word.Import)) (Of (λ _. true) (Word word.Cimport))

-- NAME ['as' NAME]; its number is the index of its first NAME
unfoldable pub Imported : Shape ImportedName
Imported = Of (λ (number, (at, (spelled, alias))). record { number = number; at = at; name = spelled; alias = alias }) (Seq Here (Placed (Seq Name Alias)))

-- ('import' | 'cimport') dotted ['as' NAME]
unfoldable pub WholeImport : Shape (Bool × ImportForm)
WholeImport = Of (λ p. (p.0, imports.Whole p.1.0 p.1.1)) (Seq ImportWord (Seq Dotted Alias))

-- 'from' dotted ('import' | 'cimport') NAME ['as' NAME] (',' NAME ['as' NAME])*
unfoldable pub PartImport : Shape (Bool × ImportForm)
PartImport = After (kind.Keyword word.From) (Of (λ p. (p.1.0, imports.Parts p.0 p.1.1)) (Seq Dotted (Seq ImportWord (Separated (kind.Operator sign.Comma) Imported))))

-- import    : ('import' | 'cimport') dotted ['as' NAME] NEWLINE
--           | 'from' dotted ('import' | 'cimport') NAME ['as' NAME] (',' NAME ['as' NAME])* NEWLINE
-- its number is the index of its NEWLINE
unfoldable pub ImportLine : Shape Import
ImportLine = Of (λ (at, ((is_cimport, form), number)). record { number = number; at = at; is_cimport = is_cimport; form = form }) (Placed (Seq (Either WholeImport PartImport) (Before Here kind.Newline)))

-- Functions

-- 'True' | 'False'
unfoldable pub Truth : Shape Bool
Truth = Either (Of (λ _. true) (Word word.True)) (Of (λ _. false) (Word word.False))

-- decorator : '@' dotted '(' ('True' | 'False') ')' NEWLINE
unfoldable pub DecoratorLine : Shape Decorator
DecoratorLine = Of (λ (number, (at, (name_at, (spelled, value)))). record { number = number; at = at; name = spelled; name_at = name_at; value = value })
    (Seq Here (Placed (After (kind.Operator sign.At) (Placed (Seq Dotted (After (kind.Operator sign.OpenParenthesis) (Before (Before Truth (kind.Operator sign.CloseParenthesis)) kind.Newline)))))))

-- ['not' 'None']; whether it is there
unfoldable pub NotNone : Shape Bool
NotNone = Or false (Of (λ _. true) (Seq (Word word.Not) (Word word.None)))

-- param     : [type] NAME ['not' 'None']; its number is the index of its name
unfoldable pub Parameter : Shape Param
Parameter = Of (λ (at, ((typing, (number, spelled)), is_not_none)). record { number = number; at = at; typing = typing; name = spelled; is_not_none = is_not_none }) (Placed (Seq (Seq (Maybe (Nested IsTyping)) Numbered) NotNone))

-- params    : [param (',' param)* [',']]
unfoldable pub Parameters : Shape (List Param)
Parameters = Elements (kind.Operator sign.Comma) Parameter

-- [type | 'void']
unfoldable pub Result : Shape ResultType
Result = Or result_type.Unwritten (Either (Of (λ _. result_type.Void) (Soft (codes "void"))) (Of result_type.Of (Nested IsTyping)))

-- exc       : 'noexcept' | 'except' ['?'] expr | 'except' '*'
-- or nothing
unfoldable pub Exception : Shape ExceptionForm
Exception = Or exception.Unwritten (Either (Of (λ _. exception.Noexcept) (Soft (codes "noexcept"))) (After (kind.Keyword word.Except)
    (Either (Of exception.Except IsWithinLimit) (Either (After (kind.Operator sign.Question) (Of exception.Maybe IsWithinLimit)) (Of (λ _. exception.Any) (Sign sign.Star))))))

-- lock      : 'nogil' | 'with' 'gil'
-- or nothing
unfoldable pub LockForm : Shape Lock
LockForm = Or lock.Unwritten (Either (Of (λ _. lock.Nogil) (Soft (codes "nogil"))) (After (kind.Keyword word.With) (Of (λ _. lock.WithGil) (Soft (codes "gil")))))

-- 'cdef' | 'cpdef'
unfoldable pub CWord : Shape FunctionKind
CWord = Either (Of (λ _. function_kind.Cdef) (Word word.Cdef)) (Of (λ _. function_kind.Cpdef) (Word word.Cpdef))

-- 'def' NAME, or ('cdef' | 'cpdef') ['inline'] [type | 'void'] NAME
unfoldable pub DefHead : Shape (FunctionKind × (Bool × (ResultType × (ℕ × List ℕ))))
DefHead = After (kind.Keyword word.Def) (Of (λ name. (function_kind.Def, (false, (result_type.Unwritten, name)))) Numbered)

unfoldable pub CHead : Shape (FunctionKind × (Bool × (ResultType × (ℕ × List ℕ))))
CHead = Seq CWord (Seq (Or false (Of (λ _. true) (Word word.Inline))) (Seq Result Numbered))

-- [exc] [lock], which a `def` function doesn't have
abbrev pub Tail : FunctionKind → Shape (ExceptionForm × Lock)
Tail function_kind.Def = Gives (exception.Unwritten, lock.Unwritten)
Tail function_kind.Cdef = Seq Exception LockForm
Tail function_kind.Cpdef = Seq Exception LockForm

-- '(' params ')' [exc] [lock] ':' block
unfoldable pub Rest : FunctionKind → Shape (List Param × ((ExceptionForm × Lock) × List Stmt))
Rest k = After (kind.Operator sign.OpenParenthesis) (Seq (Before Parameters (kind.Operator sign.CloseParenthesis)) (Seq (Tail k) (After (kind.Operator sign.Colon) Block)))

abbrev pub function_of : Span → List Decorator → Span → FunctionKind × (Bool × (ResultType × (ℕ × List ℕ))) → List Param × ((ExceptionForm × Lock) × List Stmt) → Function
function_of at decorators header_at head rest = record {
  number = head.1.1.1.0;
  at = at;
  header_at = header_at;
  decorators = decorators;
  kind = head.0;
  is_inline = head.1.0;
  gives = head.1.1.0;
  name = head.1.1.1.1;
  params = rest.0;
  exception = rest.1.0.0;
  lock = rest.1.0.1;
  body = rest.1.1;
}

-- function  : decorator* 'def' NAME '(' params ')' ':' block
--           | decorator* ('cdef' | 'cpdef') ['inline'] [type | 'void'] NAME '(' params ')' [exc] [lock] ':' block
-- its number is the index of its name
unfoldable pub FunctionForm : Shape Function
FunctionForm = Of (λ (at, (decorators, (header_at, (head, rest)))). function_of at decorators header_at head rest) (Placed (Seq (Many DecoratorLine) (Placed (Then (Either DefHead CHead) (λ head. Rest head.0)))))

-- Modules

abbrev pub one_import : Import → List ModuleItem
one_import x = module_item.Import x ∷ []

abbrev pub one_function : Function → List ModuleItem
one_function x = module_item.Function x ∷ []

-- NEWLINE | function | import | statement
unfoldable pub Item : Shape (List ModuleItem)
Item = Either (Of (λ _. []) (Token kind.Newline)) (Either (Of one_function FunctionForm) (Either (Of one_import ImportLine) (Of (map module_item.Statement) Statement)))

-- module    : (NEWLINE | function | import | statement)* END
-- with these leading comment lines; its number is the index of its END
unfoldable pub ModuleForm : List Comment → Shape Module
ModuleForm comments = Of (λ (at, (items, number)). record { number = number; at = at; items = joined items; comments = comments }) (Placed (Seq (Many Item) (Before Here kind.End)))

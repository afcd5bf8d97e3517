-- Laws of what stands in a module.
use Rattle.std.proofs.Common.{◌≡◌, ℕ, suc, ◌≤◌, ◌<◌, ◌⊎◌, inl, inr, List, [], map, arith}
use Rattle.px_lexer.specs.declared.spelling.Keyword.TheVariants as word
use Rattle.px_lexer.specs.declared.spelling.Operator.TheVariants as sign
use Rattle.px_lexer.specs.declared.token_list.TokenKind.{TokenKind}
use Rattle.px_lexer.specs.declared.token_list.TokenKind.TheVariants as kind
use Rattle.px_tree.specs.declared.statements.Stmt.{Stmt}
use Rattle.px_tree.specs.declared.modules.Function.{Function}
use Rattle.px_tree.specs.declared.modules.ModuleItem.{ModuleItem}
use Rattle.px_tree.specs.declared.modules.ModuleItem.TheVariants as module_item
use Rattle.px_lexer.specs.Terminals.{Terminal, HasKind, IsKeyword, IsOperator}
use Rattle.px_exprs.specs.Readings.{Stops, Agree}
use Rattle.px_exprs.proofs.Agreement.{agree_carried, agree_back, agree_same}
use Rattle.px_exprs.proofs.Keeping.{kind_carried}
use Rattle.px_parser.specs.Shapes.{Mode, Shape, Token, Either, Many, Of}
use Rattle.px_parser.specs.Ends.{EndsArms, IsBefore}
use Rattle.px_parser.specs.Readings.{Anywhere}
use Rattle.px_parser.specs.StatementGrammar.{Block, Declare, StatementWith, Statement}
use Rattle.px_parser.specs.ModuleGrammar.{FunctionForm, ImportLine, Item, one_function, one_import}
use Rattle.px_parser.proofs.Shapely.{Good, good_token, good_either, good_of}
use Rattle.px_parser.proofs.Onlies.{Leads, Clash, Sees, Only, leads_token, leads_of, leads_either, leads_wider, only_token, only_of, only_either, only_many, only_narrower}
use Rattle.px_parser.proofs.Heads.{head_at, head_here, head_carried, HeadsUpTo}
use Rattle.px_parser.proofs.CompoundShapes.{leads_if, leads_while, leads_for, leads_with}
use Rattle.px_parser.proofs.BlockShapes.{good_block, only_block, good_statement, only_statement, solid_statement, leads_statement}
use Rattle.px_parser.proofs.SimpleShapes.{leads_line, no_simple}
use Rattle.px_parser.proofs.VariableShapes.{leads_declare}
use Rattle.px_parser.proofs.FunctionShapes.{BeginsFunction, good_function, only_function, solid_function, leads_function}
use Rattle.px_parser.proofs.ImportShapes.{BeginsImport, good_import_line, only_import_line, leads_import_line}
use Rattle.px_parser.proofs.CItems.{not_both, c_function, c_declaration, c_function_first, c_declaration_first, declare_long}

-- What a statement is by its first token

pub statement_cdef : (mode : Mode) (ts : List Terminal) (i n j : ℕ) (ss : List Stmt) → Statement mode ts i ss n j → IsKeyword ts i word.Cdef → (s : Stmt) × Declare mode ts i s n j
unfolding Statement StatementWith
statement_cdef mode ts i n j ss h cdef =
    let head : head_at ts i ≡ 1 = head_here cdef in
    elim (h) [
      | Either.left a ↦ absurd (omega (arith, head, (leads_if Block {R = Anywhere}).leads a.read tt))
      | Either.right b ↦ (elim (b) [
        | Either.left a ↦ absurd (omega (arith, head, (leads_while Block {R = Anywhere}).leads a.read tt))
        | Either.right c ↦ (elim (c) [
          | Either.left a ↦ absurd (omega (arith, head, (leads_for Block {R = Anywhere}).leads a.read tt))
          | Either.right d ↦ (elim (d) [
            | Either.left a ↦ absurd (omega (arith, head, (leads_with Block {R = Anywhere}).leads a.read tt))
            | Either.right e ↦ (elim (e) [
              | Either.left a ↦ (a.inner, a.read)
              | Either.right line ↦ absurd (no_simple (kind.Keyword word.Cdef) (omega arith) (λ q. cc) (λ q. cc) (λ q. cc) (λ q. cc) (λ q. cc) (λ q. cc) ts ts i (agree_same ts) ((leads_line {R = Anywhere}).leads line tt) cdef)
            ])
          ])
        ])
      ])
    ]

pub statement_at : (mode : Mode) (ts : List Terminal) (i n j : ℕ) (ss : List Stmt) → Statement mode ts i ss n j → IsOperator ts i sign.At → ⊥
unfolding Statement StatementWith
statement_at mode ts i n j ss h at =
    let head : head_at ts i ≡ 0 = head_here at in
    elim (h) [
      | Either.left a ↦ omega (arith, head, (leads_if Block {R = Anywhere}).leads a.read tt)
      | Either.right b ↦ (elim (b) [
        | Either.left a ↦ omega (arith, head, (leads_while Block {R = Anywhere}).leads a.read tt)
        | Either.right c ↦ (elim (c) [
          | Either.left a ↦ omega (arith, head, (leads_for Block {R = Anywhere}).leads a.read tt)
          | Either.right d ↦ (elim (d) [
            | Either.left a ↦ omega (arith, head, (leads_with Block {R = Anywhere}).leads a.read tt)
            | Either.right e ↦ (elim (e) [
              | Either.left a ↦ (let cdef = (leads_declare {R = Anywhere}).leads a.read tt in not_both (λ q. cc) at cdef)
              | Either.right line ↦ no_simple (kind.Operator sign.At) (omega arith) (λ q. cc) (λ q. cc) (λ q. cc) (λ q. cc) (λ q. cc) (λ q. cc) ts ts i (agree_same ts) ((leads_line {R = Anywhere}).leads line tt) at
            ])
          ])
        ])
      ])
    ]

-- A function and a statement

pub function_first : (mode other : Mode) (ts us : List Terminal) (i n m j l : ℕ) (f : Function) (ss : List Stmt) → FunctionForm mode ts i f n j → Statement other us i ss m l → i < j → Agree (suc j) us ts → Sees mode j → Sees other j → ⊥
function_first mode other ts us i n m j l f ss function statement lt agree sees sight =
    let there = λ (k : TokenKind) (h : HasKind ts i k). kind_carried {us = us} (suc j) agree h (omega (arith, lt)) in
    let head : head_at us i ≤ 5 = (leads_statement {R = Anywhere}).leads statement tt in
    elim ((leads_function {R = Anywhere}).leads function tt) [
      | inl at ↦ statement_at other us i m l ss statement (there (kind.Operator sign.At) at)
      | inr (inl def) ↦ omega (arith, head, head_here (there (kind.Keyword word.Def) def))
      | inr (inr (inl cdef)) ↦ (
          let declare = statement_cdef other us i m l ss statement (there (kind.Keyword word.Cdef) cdef) in
          c_function_first (c_function f cdef function) (c_declaration declare.0 declare.1) agree sees sight
          )
      | inr (inr (inr cpdef)) ↦ omega (arith, head, head_here (there (kind.Keyword word.Cpdef) cpdef))
    ]

pub statement_first : (mode other : Mode) (ts us : List Terminal) (i n m j l : ℕ) (ss : List Stmt) (f : Function) → Statement mode ts i ss n j → FunctionForm other us i f m l → i < j → Agree (suc j) us ts → Sees mode j → Sees other j → ⊥
statement_first mode other ts us i n m j l ss f statement function lt agree sees sight =
    let there = λ (k : TokenKind) (h : HasKind us i k). kind_carried {us = ts} (suc j) (agree_back us ts agree) h (omega (arith, lt)) in
    let head : head_at ts i ≤ 5 = (leads_statement {R = Anywhere}).leads statement tt in
    elim ((leads_function {R = Anywhere}).leads function tt) [
      | inl at ↦ statement_at mode ts i n j ss statement (there (kind.Operator sign.At) at)
      | inr (inl def) ↦ omega (arith, head, head_here (there (kind.Keyword word.Def) def))
      | inr (inr (inl cdef)) ↦ (
          let declare = statement_cdef mode ts i n j ss statement (there (kind.Keyword word.Cdef) cdef) in
          c_declaration_first (c_declaration declare.0 declare.1) (c_function f cdef function) (declare_long mode ts i n j declare.0 declare.1) agree sees sight
          )
      | inr (inr (inr cpdef)) ↦ omega (arith, head, head_here (there (kind.Keyword word.Cpdef) cpdef))
    ]

-- Items

abbrev pub Statements : Shape (List ModuleItem)
Statements = Of (map module_item.Statement) Statement

abbrev pub Imports : Shape (List ModuleItem)
Imports = Of one_import ImportLine

abbrev pub FunctionItems : Shape (List ModuleItem)
FunctionItems = Of one_function FunctionForm

abbrev pub Newlines : Shape (List ModuleItem)
Newlines = Of (λ _. []) (Token kind.Newline)

pub good_imports_on : Good (Either Imports Statements)
good_imports_on = good_either (good_of one_import good_import_line) (good_of _ good_statement)

pub good_functions_on : Good (Either FunctionItems (Either Imports Statements))
good_functions_on = good_either (good_of one_function (good_function good_block)) good_imports_on

pub good_item : Good Item
unfolding Item
good_item = good_either (good_of (λ _. []) (good_token kind.Newline)) good_functions_on

-- what an import begins with is a word that begins no statement
pub import_head : (ts : List Terminal) (i : ℕ) → BeginsImport ts i → head_at ts i ≡ 8
import_head ts i (inl (inl h)) = head_here h
import_head ts i (inl (inr h)) = head_here h
import_head ts i (inr h) = head_here h

import_or_statement : Clash BeginsImport (HeadsUpTo 5)
import_or_statement ts us i agree h le = omega (arith, import_head ts i h, head_carried ts us i agree, le)

only_imports_on : Only (Either Imports Statements) EndsArms
only_imports_on =
    only_either (good_of one_import good_import_line).sound (good_of (map module_item.Statement) good_statement).sound (only_of one_import (only_narrower only_import_line (λ ts i h. tt))) (only_of _ only_statement)
    (leads_of one_import leads_import_line) (leads_of _ leads_statement) import_or_statement

pub function_or_import : Clash BeginsFunction BeginsImport
function_or_import ts us i agree (inl h) g = omega (arith, head_here h, import_head us i g, head_carried ts us i agree)
function_or_import ts us i agree (inr (inl h)) (inl (inl g)) = not_both (λ q. cc) (kind_carried (suc i) agree h (omega arith)) g
function_or_import ts us i agree (inr (inl h)) (inl (inr g)) = not_both (λ q. cc) (kind_carried (suc i) agree h (omega arith)) g
function_or_import ts us i agree (inr (inl h)) (inr g) = not_both (λ q. cc) (kind_carried (suc i) agree h (omega arith)) g
function_or_import ts us i agree (inr (inr (inl h))) g = omega (arith, head_here h, import_head us i g, head_carried ts us i agree)
function_or_import ts us i agree (inr (inr (inr h))) (inl (inl g)) = not_both (λ q. cc) (kind_carried (suc i) agree h (omega arith)) g
function_or_import ts us i agree (inr (inr (inr h))) (inl (inr g)) = not_both (λ q. cc) (kind_carried (suc i) agree h (omega arith)) g
function_or_import ts us i agree (inr (inr (inr h))) (inr g) = not_both (λ q. cc) (kind_carried (suc i) agree h (omega arith)) g

only_functions : Only FunctionItems EndsArms
only_functions = only_of one_function (only_narrower (only_function good_block only_block) (λ ts i h. tt))

only_functions_on : Only (Either FunctionItems (Either Imports Statements)) EndsArms
only_functions_on = record {
  one = λ {mode} {other} {ts} {us} {i} {n} {m} {l} {j} g s h r agree sees sight. elim (g) [
    | Either.left a ↦ (elim (h) [
      | Either.left b ↦ only_functions.one a s b r agree sees sight
      | Either.right b ↦ absurd (elim (b) [
        | Either.left c ↦ function_or_import ts us i (agree_carried us ts agree (omega (arith, (good_function good_block).sound.forward a.read))) ((leads_function {R = Anywhere}).leads a.read tt) ((leads_import_line {R = Anywhere}).leads c.read tt)
        | Either.right c ↦ function_first mode other ts us i n m l j a.inner c.inner a.read c.read ((solid_function good_block).grows a.read) agree sees sight
      ])
    ])
    | Either.right a ↦ (elim (h) [
      | Either.left b ↦ absurd (elim (a) [
        | Either.left c ↦ function_or_import us ts i (agree_back us ts (agree_carried us ts agree (omega (arith, good_import_line.sound.forward c.read)))) ((leads_function {R = Anywhere}).leads b.read tt) ((leads_import_line {R = Anywhere}).leads c.read tt)
        | Either.right c ↦ statement_first mode other ts us i n m l j c.inner b.inner c.read b.read (solid_statement.grows c.read) agree sees sight
      ])
      | Either.right b ↦ only_imports_on.one a s b r agree sees sight
    ])
  ];
}

-- the first token of an item that is no end of a line
abbrev BeginsItem : Stops
BeginsItem ts i = (head_at ts i ≤ 5) ⊎ (head_at ts i ≡ 8)

function_head : (ts : List Terminal) (i : ℕ) → BeginsFunction ts i → BeginsItem ts i
function_head ts i (inl h) = inl (omega (arith, head_here h))
function_head ts i (inr (inl h)) = inr (head_here h)
function_head ts i (inr (inr (inl h))) = inl (omega (arith, head_here h))
function_head ts i (inr (inr (inr h))) = inr (head_here h)

leads_functions_on : {R : Stops} → Leads (Either FunctionItems (Either Imports Statements)) R BeginsItem
leads_functions_on =
    leads_either (leads_of one_function (leads_wider leads_function function_head))
    (leads_either (leads_of one_import (leads_wider leads_import_line (λ ts i h. inr (import_head ts i h)))) (leads_of _ (leads_wider leads_statement (λ ts i h. inl h))))

abbrev IsLineEnd : Stops
IsLineEnd ts i = HasKind ts i kind.Newline

line_or_item : Clash IsLineEnd BeginsItem
line_or_item ts us i agree h (inl le) = omega (arith, head_here h, head_carried ts us i agree, le)
line_or_item ts us i agree h (inr e) = omega (arith, head_here h, head_carried ts us i agree, e)

pub only_item : Only Item EndsArms
unfolding Item
only_item =
    only_either (good_of (λ _. []) (good_token kind.Newline)).sound good_functions_on.sound (only_of (λ _. []) (only_token kind.Newline EndsArms)) only_functions_on (leads_of (λ _. []) (leads_token kind.Newline EndsArms IsLineEnd (λ ts i h. h)))
    leads_functions_on line_or_item

-- the first token of an item
abbrev pub StartsItem : Stops
StartsItem ts i = IsLineEnd ts i ⊎ BeginsItem ts i

pub leads_item : {R : Stops} → Leads Item R StartsItem
unfolding Item
leads_item {R} = leads_either (leads_of (λ _. []) (leads_token kind.Newline R StartsItem (λ ts i h. inl h))) (leads_wider leads_functions_on (λ ts i h. inr h))

pub item_is_no_end : Clash StartsItem (IsBefore kind.End)
item_is_no_end ts us i agree (inl h) e = not_both (λ q. cc) (kind_carried (suc i) agree h (omega arith)) e
item_is_no_end ts us i agree (inr (inl le)) e = omega (arith, head_here e, head_carried ts us i agree, le)
item_is_no_end ts us i agree (inr (inr q)) e = omega (arith, head_here e, head_carried ts us i agree, q)

pub item_ends_arms : (ts : List Terminal) (i : ℕ) → StartsItem ts i → EndsArms ts i
item_ends_arms ts i (inl h) = (not_both (λ q. cc) h, not_both (λ q. cc) h)
item_ends_arms ts i (inr (inl le)) = (λ e. omega (arith, head_here e, le), λ e. omega (arith, head_here e, le))
item_ends_arms ts i (inr (inr q)) = (λ e. omega (arith, head_here e, q), λ e. omega (arith, head_here e, q))

pub end_ends_arms : (ts : List Terminal) (i : ℕ) → IsBefore kind.End ts i → EndsArms ts i
end_ends_arms ts i h = (not_both (λ q. cc) h, not_both (λ q. cc) h)

pub only_items : Only (Many Item) (IsBefore kind.End)
only_items = only_many good_item.sound only_item leads_item item_is_no_end item_ends_arms end_ends_arms

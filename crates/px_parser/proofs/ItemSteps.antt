-- How one item of a module is read: each of its forms is told by its first tokens.
use Rattle.std.proofs.Common.{◌≡◌, ℕ, suc, ◌+◌, ◌≤◌, ◌<◌, ◌⊎◌, inl, inr, List, [], ◌∷◌, map, Result, refl, sym, subst, arith}
use Rattle.px_lexer.specs.declared.spelling.Keyword.TheVariants as word
use Rattle.px_lexer.specs.declared.spelling.Operator.TheVariants as sign
use Rattle.px_lexer.specs.declared.token_list.TokenKind.TheVariants as kind
use Rattle.px_lexer.specs.declared.token_list.Tokens.{Tokens}
use Rattle.px_tree.specs.declared.statements.Stmt.{Stmt}
use Rattle.px_tree.specs.declared.modules.Function.{Function}
use Rattle.px_tree.specs.declared.modules.Import.{Import}
use Rattle.px_tree.specs.declared.modules.ModuleItem.{ModuleItem}
use Rattle.px_tree.specs.declared.modules.ModuleItem.TheVariants as module_item
use Rattle.px_exprs.specs.declared.readings.Unread.{Unread}
use Rattle.px_lexer.specs.Terminals.{Terminal, HasKind, IsKeyword, IsOperator, terminals_of}
use Rattle.px_exprs.specs.Runs.{nesting_limit}
use Rattle.px_exprs.proofs.Agreement.{agree_back, agree_same, agree_carried}
use Rattle.px_exprs.proofs.Keeping.{kind_carried}
use Rattle.px_parser.specs.declared.readings.Found.{Found}
use Rattle.px_parser.specs.Shapes.{Shape, Token, Either, Of}
use Rattle.px_parser.specs.Parsing.{strict}
use Rattle.px_parser.specs.Readings.{IsReading, IsUnread, Reads, Anywhere}
use Rattle.px_parser.specs.Ends.{EndsArms}
use Rattle.px_parser.specs.Listings.{IsListing}
use Rattle.px_parser.specs.StatementGrammar.{Declare, Statement, StatementWith, alone}
use Rattle.px_parser.specs.ModuleGrammar.{FunctionForm, ImportLine, Item, one_function, one_import}
use Rattle.px_parser.specs.Parts.{CItem}
use Rattle.px_parser.proofs.Shapely.{Good, good_of, good_token, good_either}
use Rattle.px_parser.proofs.Onlies.{Only, only_of, only_token}
use Rattle.px_parser.proofs.Heads.{head_at, head_here, head_carried}
use Rattle.px_parser.proofs.Steps.{Step, Never, fails, step_twice, step_left, step_right}
use Rattle.px_parser.proofs.ReadingSteps.{kind_read, read_of, step_made, step_ends, ended_stuck, stuck_of}
use Rattle.px_parser.proofs.CompoundSteps.{GoneOn, gone_reads, local_arms}
use Rattle.px_parser.proofs.BlockShapes.{good_block, only_block, good_statement, leads_statement}
use Rattle.px_parser.proofs.VariableShapes.{good_declare, only_declare, leads_declare}
use Rattle.px_parser.proofs.FunctionShapes.{BeginsFunction, good_function, only_function, solid_function, leads_function}
use Rattle.px_parser.proofs.ImportShapes.{BeginsImport, good_import_line, only_import_line, leads_import_line}
use Rattle.px_parser.proofs.CItems.{c_function, c_declaration, c_function_first, c_declaration_first, declare_long}
use Rattle.px_parser.proofs.ItemShapes.{Statements, Imports, FunctionItems, Newlines, good_imports_on, good_functions_on, function_or_import, import_head, statement_cdef, statement_at}

-- What can't stand there

no_newline : (ts : List Terminal) (i : ℕ) → (HasKind ts i kind.Newline → ⊥) → Never Newlines EndsArms ts i
no_newline ts i none us agree mode t n j x s = none (kind_carried (suc i) (agree_back us ts agree) x.read.stands (omega arith))

head_is_no_newline : (ts : List Terminal) (i : ℕ) → head_at ts i ≤ 8 → HasKind ts i kind.Newline → ⊥
head_is_no_newline ts i le h = omega (arith, le, head_here h)

no_function : (ts : List Terminal) (i : ℕ) → (BeginsFunction ts i → ⊥) → Never FunctionItems EndsArms ts i
no_function ts i none us agree mode t n j x s =
    let there = (leads_function {R = Anywhere}).leads x.read tt in
    elim (there) [
      | inl h ↦ none (inl (kind_carried (suc i) (agree_back us ts agree) h (omega arith)))
      | inr (inl h) ↦ none (inr (inl (kind_carried (suc i) (agree_back us ts agree) h (omega arith))))
      | inr (inr (inl h)) ↦ none (inr (inr (inl (kind_carried (suc i) (agree_back us ts agree) h (omega arith)))))
      | inr (inr (inr h)) ↦ none (inr (inr (inr (kind_carried (suc i) (agree_back us ts agree) h (omega arith)))))
    ]

no_import : (ts : List Terminal) (i : ℕ) → BeginsFunction ts i → Never Imports EndsArms ts i
no_import ts i h us agree mode t n j x s = function_or_import ts us i agree h ((leads_import_line {R = Anywhere}).leads x.read tt)

no_statement : (ts : List Terminal) (i : ℕ) → head_at ts i ≡ 8 → Never Statements EndsArms ts i
no_statement ts i head us agree mode t n j x s = omega (arith, head, head_carried ts us i agree, (leads_statement {R = Anywhere}).leads x.read tt)

no_statement_at : (ts : List Terminal) (i : ℕ) → IsOperator ts i sign.At → Never Statements EndsArms ts i
no_statement_at ts i at us agree mode t n j x s = statement_at mode us i n j x.inner x.read (kind_carried (suc i) agree at (omega arith))

-- Where an item has this form, what is read of the form is read of the item

pub record PlacesItem (X : Shape (List ModuleItem)) (ts : List Terminal) (i room : ℕ) : Type 0 where
  pub step : Step X EndsArms Item EndsArms ts i i room
  pub into : (t : List ModuleItem) (j : ℕ) → X (strict nesting_limit) ts i t room j → Item (strict nesting_limit) ts i t room j

pub places_newline : (ts : List Terminal) (i room : ℕ) → HasKind ts i kind.Newline → PlacesItem Newlines ts i room
unfolding Item
places_newline ts i room h = record {
  step = step_left ts i room (good_of (λ _. []) (good_token kind.Newline)).rises never;
  into = λ t j x. Either.left x;
}
  where
    high : head_at ts i ≡ 9
    high = head_here h

    never : Never (Either FunctionItems (Either Imports Statements)) EndsArms ts i
    never us agree mode t n j (Either.left x) s = elim ((leads_function {R = Anywhere}).leads x.read tt) [
      | inl g ↦ omega (arith, high, head_carried ts us i agree, head_here g)
      | inr (inl g) ↦ omega (arith, high, head_carried ts us i agree, head_here g)
      | inr (inr (inl g)) ↦ omega (arith, high, head_carried ts us i agree, head_here g)
      | inr (inr (inr g)) ↦ omega (arith, high, head_carried ts us i agree, head_here g)
    ]
    never us agree mode t n j (Either.right (Either.left x)) s = omega (arith, high, head_carried ts us i agree, import_head us i ((leads_import_line {R = Anywhere}).leads x.read tt))
    never us agree mode t n j (Either.right (Either.right x)) s = omega (arith, high, head_carried ts us i agree, (leads_statement {R = Anywhere}).leads x.read tt)

functions_first : (ts : List Terminal) (i room : ℕ) → (HasKind ts i kind.Newline → ⊥) → BeginsFunction ts i → Never Statements EndsArms ts i → PlacesItem FunctionItems ts i room
unfolding Item
functions_first ts i room no_line h none = record {
  step = step_twice (step_left ts i room (good_of one_function (good_function good_block)).rises never) (step_right ts i room good_functions_on.rises (no_newline ts i no_line));
  into = λ t j x. Either.right (Either.left x);
}
  where
    never : Never (Either Imports Statements) EndsArms ts i
    never us agree mode t n j (Either.left x) s = no_import ts i h us agree mode t n j x s
    never us agree mode t n j (Either.right x) s = none us agree mode t n j x s

places_at : (ts : List Terminal) (i room : ℕ) → IsOperator ts i sign.At → PlacesItem FunctionItems ts i room
places_at ts i room at = functions_first ts i room (head_is_no_newline ts i (omega (arith, head_here at))) (inl at) (no_statement_at ts i at)

places_def : (ts : List Terminal) (i room : ℕ) → IsKeyword ts i word.Def → PlacesItem FunctionItems ts i room
places_def ts i room h = functions_first ts i room (head_is_no_newline ts i (omega (arith, head_here h))) (inr (inl h)) (no_statement ts i (head_here h))

places_cpdef : (ts : List Terminal) (i room : ℕ) → IsKeyword ts i word.Cpdef → PlacesItem FunctionItems ts i room
places_cpdef ts i room h = functions_first ts i room (head_is_no_newline ts i (omega (arith, head_here h))) (inr (inr (inr h))) (no_statement ts i (head_here h))

pub places_function : (ts : List Terminal) (i room : ℕ) → IsOperator ts i sign.At ⊎ (IsKeyword ts i word.Def ⊎ IsKeyword ts i word.Cpdef) → PlacesItem FunctionItems ts i room
places_function ts i room (inl h) = places_at ts i room h
places_function ts i room (inr (inl h)) = places_def ts i room h
places_function ts i room (inr (inr h)) = places_cpdef ts i room h

pub places_import : (ts : List Terminal) (i room : ℕ) → BeginsImport ts i → PlacesItem Imports ts i room
unfolding Item
places_import ts i room h = record {
  step = step_twice (step_left ts i room (good_of one_import good_import_line).rises (no_statement ts i (import_head ts i h)))
      (step_twice (step_right ts i room good_imports_on.rises never) (step_right ts i room good_functions_on.rises (no_newline ts i (head_is_no_newline ts i (omega (arith, import_head ts i h))))));
  into = λ t j x. Either.right (Either.right (Either.left x));
}
  where
    never : Never FunctionItems EndsArms ts i
    never us agree mode t n j x s = function_or_import us ts i (agree_back us ts agree) ((leads_function {R = Anywhere}).leads x.read tt) h

pub places_statement : (ts : List Terminal) (i room : ℕ) → (HasKind ts i kind.Newline → ⊥) → (BeginsFunction ts i → ⊥) → (BeginsImport ts i → ⊥) → PlacesItem Statements ts i room
unfolding Item
places_statement ts i room no_line none nor = record {
  step = step_twice (step_right ts i room (good_of (map module_item.Statement) good_statement).rises never)
      (step_twice (step_right ts i room good_imports_on.rises (no_function ts i none)) (step_right ts i room good_functions_on.rises (no_newline ts i no_line)));
  into = λ t j x. Either.right (Either.right (Either.right x));
}
  where
    never : Never Imports EndsArms ts i
    never us agree mode t n j x s = elim ((leads_import_line {R = Anywhere}).leads x.read tt) [
      | inl (inl h) ↦ nor (inl (inl (kind_carried (suc i) (agree_back us ts agree) h (omega arith))))
      | inl (inr h) ↦ nor (inl (inr (kind_carried (suc i) (agree_back us ts agree) h (omega arith))))
      | inr h ↦ nor (inr (kind_carried (suc i) (agree_back us ts agree) h (omega arith)))
    ]

pub places_other : (ts : List Terminal) (i room : ℕ) → (HasKind ts i kind.Newline → ⊥) → (IsOperator ts i sign.At ⊎ (IsKeyword ts i word.Def ⊎ IsKeyword ts i word.Cpdef) → ⊥) → (IsKeyword ts i word.Cdef → ⊥)
    → ((IsKeyword ts i word.Import ⊎ IsKeyword ts i word.Cimport) ⊎ IsKeyword ts i word.From → ⊥) → PlacesItem Statements ts i room
places_other ts i room no_line no_function no_cdef no_import =
    places_statement ts i room no_line
    (λ h. elim (h) [ inl a ↦ no_function (inl a) | inr (inl a) ↦ no_function (inr (inl a)) | inr (inr (inl a)) ↦ no_cdef a | inr (inr (inr a)) ↦ no_function (inr (inr a)) ])
    no_import

-- What begins with `cdef`

abbrev pub Declares : Shape (List ModuleItem)
Declares = Of (map module_item.Statement) (Of alone Declare)

pub good_declares : Good Declares
good_declares = good_of _ (good_of alone good_declare)

good_c_functions : Good FunctionItems
good_c_functions = good_of one_function (good_function good_block)

pub good_c_item : Good CItem
unfolding CItem
good_c_item = good_either good_c_functions good_declares

-- with `cdef` there, what is read of either is read of the item
pub places_cdef : (ts : List Terminal) (i room : ℕ) → IsKeyword ts i word.Cdef → PlacesItem CItem ts i room
unfolding Item CItem Statement StatementWith
places_cdef ts i room h = record {
  step = record {
    forward = omega arith;
    rising = good_c_item.rises;
    make = λ mode us n e agree long least le opens x. record {
      tokens = us;
      same = agree_same us;
      long = omega arith;
      tree = e;
      derived = elim (x) [
        | Either.left f ↦ Either.right (Either.left f)
        | Either.right d ↦ Either.right (Either.right (Either.right (record { inner = d.inner; read = Either.right (Either.right (Either.right (Either.right (Either.left d.read)))); tree = d.tree })))
      ];
    };
    split = λ mode us n t j agree sees y stop.
        let there : IsKeyword us i word.Cdef = kind_carried (suc i) agree h (omega arith) in
        elim (y) [
          | Either.left line ↦ absurd (omega (arith, head_here there, head_here line.read.stands))
          | Either.right (Either.left f) ↦ record { tree = t; end = j; derived = Either.left f; stops = stop }
          | Either.right (Either.right (Either.left x)) ↦ absurd (omega (arith, head_here there, import_head us i ((leads_import_line {R = Anywhere}).leads x.read tt)))
          | Either.right (Either.right (Either.right s)) ↦ (
              let d = statement_cdef mode us i n j s.inner s.read there in
              record {
                tree = module_item.Statement d.0 ∷ [];
                end = j;
                derived = Either.right (record { inner = d.0 ∷ []; read = record { inner = d.0; read = d.1; tree = refl }; tree = refl });
                stops = stop;
              })
        ];
  };
  into = λ t j x. elim (x) [
    | Either.left f ↦ Either.right (Either.left f)
    | Either.right d ↦ Either.right (Either.right (Either.right (record { inner = d.inner; read = Either.right (Either.right (Either.right (Either.right (Either.left d.read)))); tree = d.tree })))
  ];
}

-- What was read of a form, and nothing but an item stands behind it

pub item_read : {X : Shape (List ModuleItem)} {ts : List Terminal} {i room to : ℕ} {tree : List ModuleItem} → Good X → Only X Anywhere → PlacesItem X ts i room → IsReading X Anywhere ts i room tree to
    → (result : Result (Found (List ModuleItem)) Unread) → GoneOn ts tree to result → Reads Item EndsArms ts i room result
item_read {X} {ts} {i} {room} {to} {tree} good only places reading result h =
    gone_reads ts i room tree to result
    (λ ends. record { derived = places.into tree to reading.derived; stops = ends; within = reading.within })
    (λ none. stuck_of places.step (ended_stuck good only (λ us k e. tt) local_arms reading none))
    h

pub item_refused : {X : Shape (List ModuleItem)} {ts : List Terminal} {i room : ℕ} → Good X → PlacesItem X ts i room → (u : Unread) → IsUnread X Anywhere ts i room u → IsUnread Item EndsArms ts i room u
item_refused good places u h = fails (step_twice (step_ends good (λ us k e. tt)) places.step) u h

-- A function or a declaration is read in one way

only_c_functions : Only FunctionItems Anywhere
only_c_functions = only_of one_function (only_function good_block only_block)

only_declares : Only Declares Anywhere
only_declares = only_of (map module_item.Statement) (only_of alone only_declare)

pub only_c_item : Only CItem Anywhere
unfolding CItem
only_c_item = record {
  one = λ {mode} {other} {ts} {us} {i} {n} {m} {l} {j} g s h r agree sees sight. elim (g) [
    | Either.left a ↦ (elim (h) [
      | Either.left b ↦ only_c_functions.one a s b r agree sees sight
      | Either.right b ↦ (
          let there : IsKeyword us i word.Cdef = (leads_declare {R = Anywhere}).leads b.read.read tt in
          let grows : i < l = (solid_function good_block).grows a.read in
          let cdef : IsKeyword ts i word.Cdef = kind_carried (suc i) (agree_back us ts (agree_carried us ts agree (omega (arith, grows)))) there (omega arith) in
          absurd (c_function_first (c_function a.inner cdef a.read) (c_declaration b.read.inner b.read.read) agree sees sight))
    ])
    | Either.right a ↦ (elim (h) [
      | Either.left b ↦ (
          let here : IsKeyword ts i word.Cdef = (leads_declare {R = Anywhere}).leads a.read.read tt in
          let long : suc i < l = declare_long mode ts i n l a.read.inner a.read.read in
          let cdef : IsKeyword us i word.Cdef = kind_carried (suc i) (agree_carried us ts agree (omega (arith, long))) here (omega arith) in
          absurd (c_declaration_first (c_declaration a.read.inner a.read.read) (c_function b.inner cdef b.read) long agree sees sight))
      | Either.right b ↦ only_declares.one a s b r agree sees sight
    ])
  ];
}

-- What the reader of one item answers, form by form

pub newline_item : {tokens : Tokens} {i : ℕ} (room : ℕ) → IsListing tokens → HasKind (terminals_of tokens) i kind.Newline → (items : List ModuleItem) → items ≡ [] → (result : Result (Found (List ModuleItem)) Unread)
    → GoneOn (terminals_of tokens) items (i + 1) result → Reads Item EndsArms (terminals_of tokens) i room result
newline_item {tokens} {i} room listing h items none result gone =
    let ts = terminals_of tokens in
    let line : IsReading (Token kind.Newline) Anywhere ts i room tt (i + 1) = kind_read tokens i (i + 1) room listing h (λ e. cc) (omega arith) in
    let reading : IsReading Newlines Anywhere ts i room [] (i + 1) = read_of (λ _. []) line in
    item_read (good_of (λ _. []) (good_token kind.Newline)) (only_of (λ _. []) (only_token kind.Newline Anywhere)) (places_newline ts i room h) (subst (λ t. IsReading Newlines Anywhere ts i room t (i + 1)) (sym none) reading) result gone

pub function_item_read : {ts : List Terminal} {i room to : ℕ} {f : Function} → PlacesItem FunctionItems ts i room → IsReading FunctionForm Anywhere ts i room f to → (items : List ModuleItem) → items ≡ module_item.Function f ∷ []
    → (result : Result (Found (List ModuleItem)) Unread) → GoneOn ts items to result → Reads Item EndsArms ts i room result
function_item_read {ts} {i} {room} {to} {f} places h items same result gone =
    let reading : IsReading FunctionItems Anywhere ts i room (one_function f) to = read_of one_function h in
    item_read good_c_functions (only_of one_function (only_function good_block only_block)) places (subst (λ t. IsReading FunctionItems Anywhere ts i room t to) (sym same) reading) result gone

pub function_item_refused : {ts : List Terminal} {i room : ℕ} → PlacesItem FunctionItems ts i room → (u : Unread) → IsUnread FunctionForm Anywhere ts i room u → IsUnread Item EndsArms ts i room u
function_item_refused places u h = item_refused good_c_functions places u (fails (step_made one_function (good_function good_block)) u h)

pub import_item_read : {ts : List Terminal} {i room to : ℕ} {m : Import} → PlacesItem Imports ts i room → IsReading ImportLine Anywhere ts i room m to → (items : List ModuleItem) → items ≡ module_item.Import m ∷ []
    → (result : Result (Found (List ModuleItem)) Unread) → GoneOn ts items to result → Reads Item EndsArms ts i room result
import_item_read {ts} {i} {room} {to} {m} places h items same result gone =
    let reading : IsReading Imports Anywhere ts i room (one_import m) to = read_of one_import h in
    item_read (good_of one_import good_import_line) (only_of one_import only_import_line) places (subst (λ t. IsReading Imports Anywhere ts i room t to) (sym same) reading) result gone

pub import_item_refused : {ts : List Terminal} {i room : ℕ} → PlacesItem Imports ts i room → (u : Unread) → IsUnread ImportLine Anywhere ts i room u → IsUnread Item EndsArms ts i room u
import_item_refused places u h = item_refused (good_of one_import good_import_line) places u (fails (step_made one_import good_import_line) u h)

pub c_item_read : {ts : List Terminal} {i to : ℕ} {items : List ModuleItem} (room : ℕ) → IsKeyword ts i word.Cdef → IsReading CItem Anywhere ts i room items to → (result : Result (Found (List ModuleItem)) Unread) → GoneOn ts items to result
    → Reads Item EndsArms ts i room result
c_item_read {ts} {i} room h reading result gone = item_read good_c_item only_c_item (places_cdef ts i room h) reading result gone

pub c_item_refused : {ts : List Terminal} {i : ℕ} (room : ℕ) → IsKeyword ts i word.Cdef → (u : Unread) → IsUnread CItem Anywhere ts i room u → IsUnread Item EndsArms ts i room u
c_item_refused {ts} {i} room h u refused = item_refused good_c_item (places_cdef ts i room h) u refused

pub statement_items_read : {ts : List Terminal} {i room to : ℕ} {statements : List Stmt} → PlacesItem Statements ts i room → IsReading Statement EndsArms ts i room statements to → (items : List ModuleItem)
    → items ≡ map module_item.Statement statements → IsReading Item EndsArms ts i room items to
statement_items_read {to = to} {statements = statements} places h items same = record {
  derived = places.into items to (record { inner = statements; read = h.derived; tree = same });
  stops = h.stops;
  within = h.within;
}

pub statement_items_refused : {ts : List Terminal} {i room : ℕ} → PlacesItem Statements ts i room → (u : Unread) → IsUnread Statement EndsArms ts i room u → IsUnread Item EndsArms ts i room u
statement_items_refused places u h = fails (step_twice (step_made (map module_item.Statement) good_statement) places.step) u h

-- How the items of a module are read one behind the other, up to the end of the text.
use Rattle.std.proofs.Common.{◌≡◌, ℕ, suc, ◌<◌, ◌⊎◌, inl, inr, List, [], ◌∷◌, ◌++◌, length, refl, sym, ap, ◌∙◌, arith, append_assoc, append-nil}
use Rattle.px_lexer.specs.declared.token_list.TokenKind.TheVariants as kind
use Rattle.px_tree.specs.declared.modules.ModuleItem.{ModuleItem}
use Rattle.px_lexer.specs.Terminals.{Terminal, HasKind}
use Rattle.px_exprs.specs.Runs.{nesting_limit}
use Rattle.px_exprs.proofs.Agreement.{agree_back}
use Rattle.px_exprs.proofs.Keeping.{kind_carried}
use Rattle.px_parser.specs.Shapes.{Many}
use Rattle.px_parser.specs.Parsing.{strict}
use Rattle.px_parser.specs.Readings.{IsReading}
use Rattle.px_parser.specs.Ends.{EndsArms, IsBefore}
use Rattle.px_parser.specs.StatementGrammar.{joined}
use Rattle.px_parser.specs.ModuleGrammar.{Item, one_function, one_import}
use Rattle.px_parser.specs.Parts.{ItemsRead}
use Rattle.px_parser.proofs.Shapely.{Solid, rises_many}
use Rattle.px_parser.proofs.Steps.{Step, step_twice, step_of, step_many, many_more}
use Rattle.px_parser.proofs.BlockShapes.{good_block, solid_statement}
use Rattle.px_parser.proofs.FunctionShapes.{solid_function}
use Rattle.px_parser.proofs.ImportShapes.{solid_import_line}
use Rattle.px_parser.proofs.ItemShapes.{good_item, only_item, leads_item, item_is_no_end, item_ends_arms, end_ends_arms}
use Rattle.px_parser.proofs.KindLaws.{solid_token, solid_of, solid_either}

-- items that were read up to an index
pub record AreItems (ts : List Terminal) (room : ℕ) (tree : List ModuleItem) (to : ℕ) : Type 0 where
  pub parts : List (List ModuleItem)
  pub read : Many Item (strict nesting_limit) ts 0 parts room to
  pub same : tree ≡ joined parts
  pub edge : (parts ≡ []) ⊎ EndsArms ts to
  pub within : to < length ts

pub items_begun : {ts : List Terminal} {room : ℕ} (tree : List ModuleItem) → tree ≡ [] → 0 < length ts → AreItems ts room tree 0
items_begun tree none some = record { parts = []; read = Many.none; same = none; edge = inl refl; within = some }

joined_more : (xs : List (List ModuleItem)) (more : List ModuleItem) → joined (xs ++ more ∷ []) ≡ joined xs ++ more
joined_more [] more = append-nil more
joined_more (x ∷ xs) more = ap (λ r. x ++ r) (joined_more xs more) ∙ sym (append_assoc x (joined xs) more)

pub items_on : {ts : List Terminal} {l j room : ℕ} {tree next : List ModuleItem} (longer : List ModuleItem) → AreItems ts room tree l → IsReading Item EndsArms ts l room next j → longer ≡ tree ++ next → AreItems ts room longer j
items_on {next = next} longer front reading same = record {
  parts = front.parts ++ next ∷ [];
  read = many_more front.read reading.derived;
  same = same ∙ ap (λ r. r ++ next) front.same ∙ sym (joined_more front.parts next);
  edge = inr reading.stops;
  within = reading.within;
}

pub step_items_next : {ts : List Terminal} {l room : ℕ} {tree : List ModuleItem} → AreItems ts room tree l → (HasKind ts l kind.End → ⊥) → Step Item EndsArms ItemsRead (IsBefore kind.End) ts 0 l room
unfolding ItemsRead
step_items_next {ts} {l} {room} front none =
    step_twice
    (step_many {S = IsBefore kind.End} ts 0 l room front.parts good_item.sound good_item.rises only_item leads_item item_is_no_end item_ends_arms end_ends_arms front.read front.edge
    (λ us agree h. none (kind_carried (suc l) (agree_back us ts agree) h (omega arith))))
    (step_of joined (IsBefore kind.End) ts 0 room (λ mode other n m le more. rises_many (good_item.rises mode other n m le more)))

pub items_read : {ts : List Terminal} {l room : ℕ} {tree : List ModuleItem} → AreItems ts room tree l → HasKind ts l kind.End → IsReading ItemsRead (IsBefore kind.End) ts 0 room tree l
unfolding ItemsRead
items_read front end = record {
  derived = record { inner = front.parts; read = front.read; tree = front.same };
  stops = end;
  within = front.within;
}

-- each of them has a token
solid_item : Solid Item
unfolding Item
solid_item = solid_either (solid_of (λ _. []) (solid_token kind.Newline)) (solid_either (solid_of one_function (solid_function good_block)) (solid_either (solid_of one_import solid_import_line) (solid_of _ solid_statement)))

pub item_grows : {ts : List Terminal} {i room to : ℕ} {tree : List ModuleItem} → IsReading Item EndsArms ts i room tree to → i < to
item_grows reading = solid_item.grows reading.derived

-- What the reading of an import shows.
use Rattle.std.proofs.Common.{◌≡◌, inl, inr, ℕ, suc, ◌<◌, Bool, true, false, List, Option, Some, None, length}
use Rattle.px_base.specs.declared.refusals.Span.{Span}
use Rattle.px_lexer.specs.declared.spelling.Keyword.TheVariants as word
use Rattle.px_lexer.specs.declared.spelling.Operator.TheVariants as sign
use Rattle.px_lexer.specs.declared.token_list.TokenKind.TheVariants as kind
use Rattle.px_lexer.specs.declared.token_list.Tokens.{Tokens}
use Rattle.px_tree.specs.declared.modules.ImportedName.{ImportedName}
use Rattle.px_tree.specs.declared.modules.ImportForm.{ImportForm}
use Rattle.px_tree.specs.declared.modules.ImportForm.TheVariants as imports
use Rattle.px_exprs.specs.declared.readings.Unread.{Unread}
use Rattle.px_lexer.specs.Terminals.{terminals_of, Terminal, HasKind, IsKeyword, IsOperator, IsAt}
use Rattle.px_exprs.specs.Readings.{Stops}
use Rattle.px_parser.specs.Shapes.{Shape, Token, Name, Here, Seq, After, Before}
use Rattle.px_parser.specs.Readings.{IsReading, IsUnread, IsStuck, Anywhere}
use Rattle.px_parser.specs.Listings.{IsListing}
use Rattle.px_parser.specs.Ends.{EndsAlias, EndsNames, IsBefore}
use Rattle.px_parser.specs.Parts.{NamesBy}
use Rattle.px_parser.specs.ModuleGrammar.{Dotted, Alias, ImportWord, Imported, WholeImport, PartImport, ImportLine}
use Rattle.px_parser.proofs.Shapely.{Good, good_name, good_of, good_after, good_before, good_here, good_placed, good_seq}
use Rattle.px_parser.proofs.Onlies.{Clash, leads_anywhere, only_name, only_after}
use Rattle.px_parser.proofs.Steps.{Step, fails, step_left, step_right, step_twice, never_by, stuck_here}
use Rattle.px_parser.proofs.KindLaws.{IsNot, kind_missing, other_kind, kinds_apart}
use Rattle.px_parser.proofs.ReadingSteps.{read_both, read_of, read_left, read_right, read_after, read_placed, read_here, read_end, read_absent, read_ends, inside_terminals, kind_read, step_front, step_back, step_made, step_word, step_after, step_placed, step_number, step_numbered_end, step_or, step_ends, step_anywhere, ended_stuck, local_kind, local_other, stuck_of}
use Rattle.px_parser.proofs.SeparatedSteps.{IsSeparated, step_separated_first, step_separated, separated_stuck}
use Rattle.px_parser.proofs.ImportShapes.{BeginsWhole, good_dotted, good_alias, good_import_word, good_imported, only_import_word, only_imported, only_dotted, only_alias, leads_import_word, leads_line_alias, newline_ends_alias, SomeImported, good_imported_names, PartNames, good_part_names, leads_part_names, SomeImport, good_some_import, only_some_import, good_whole_import, good_part_import, leads_whole_import, leads_part_import, whole_or_part, leads_end, NumberedLine, good_numbered_line, solid_numbered_line, NameAndAlias, good_both_names, solid_both_names}

-- Names

pub dotted_read : {S : Stops} {ts : List Terminal} {i room j : ℕ} {names : List (List ℕ)} → IsReading (NamesBy sign.Point) S ts i room names j → IsReading Dotted S ts i room names j
unfolding NamesBy Dotted
dotted_read h = h

pub dotted_unread : (S : Stops) (ts : List Terminal) (i room : ℕ) (u : Unread) → IsUnread (NamesBy sign.Point) S ts i room u → IsUnread Dotted S ts i room u
unfolding NamesBy Dotted
dotted_unread S ts i room u h = h

-- ['as' NAME]

pub alias_absent : (tokens : Tokens) (i room : ℕ) → i < length tokens.list → (IsKeyword (terminals_of tokens) i word.As → ⊥) → IsReading Alias EndsAlias (terminals_of tokens) i room None i
unfolding Alias
alias_absent tokens i room inside none = read_absent _ None none (inside_terminals tokens i inside)

step_alias : {ts : List Terminal} {i room : ℕ} → IsKeyword ts i word.As → Step (After (kind.Keyword word.As) Name) EndsAlias Alias EndsAlias ts i i room
unfolding Alias
step_alias here = step_twice (step_made Some (good_after _ good_name)) (step_or None (good_of Some (good_after _ good_name)) (kind_missing _) here)

pub alias_unread : (tokens : Tokens) (i l room : ℕ) (u : Unread) → IsListing tokens → IsKeyword (terminals_of tokens) i word.As → l ≡ suc i → IsUnread Name Anywhere (terminals_of tokens) l room u → IsUnread Alias EndsAlias (terminals_of tokens) i room u
alias_unread tokens i l room u listing here e h = fails (step_twice (step_anywhere good_name) (step_twice (step_after _ good_name (kind_read tokens i l room listing here (λ f. cc) e)) (step_alias here))) u h

pub alias_stuck : (tokens : Tokens) (i l j room : ℕ) (name : List ℕ) → IsListing tokens → IsKeyword (terminals_of tokens) i word.As → l ≡ suc i → IsReading Name Anywhere (terminals_of tokens) l room name j → IsKeyword (terminals_of tokens) j word.As
    → IsStuck Alias EndsAlias (terminals_of tokens) i room j
alias_stuck tokens i l j room name listing here e h again =
    stuck_of (step_alias here) (ended_stuck (good_after _ good_name) (only_after _ good_name.sound (only_name Anywhere)) (λ us k s. tt) (local_other _) (read_after _ (kind_read tokens i l room listing here (λ f. cc) e) h) (λ none. none again))

pub alias_read : (tokens : Tokens) (i l j room : ℕ) (name : List ℕ) → IsListing tokens → IsKeyword (terminals_of tokens) i word.As → l ≡ suc i → IsReading Name Anywhere (terminals_of tokens) l room name j → (IsKeyword (terminals_of tokens) j word.As → ⊥)
    → IsReading Alias EndsAlias (terminals_of tokens) i room (Some name) j
unfolding Alias
alias_read tokens i l j room name listing here e h none = read_left _ (read_of Some (read_ends (read_after _ (kind_read tokens i l room listing here (λ f. cc) e) h) none))

-- `import` or `cimport`

pub import_read : (tokens : Tokens) (i j room : ℕ) → IsListing tokens → IsKeyword (terminals_of tokens) i word.Import → j ≡ suc i → IsReading ImportWord Anywhere (terminals_of tokens) i room false j
unfolding ImportWord
import_read tokens i j room listing here e = read_left _ (read_of _ (kind_read tokens i j room listing here (λ f. cc) e))

pub cimport_read : (tokens : Tokens) (i j room : ℕ) → IsListing tokens → IsKeyword (terminals_of tokens) i word.Cimport → j ≡ suc i → IsReading ImportWord Anywhere (terminals_of tokens) i room true j
unfolding ImportWord
cimport_read tokens i j room listing here e = read_right _ (read_of _ (kind_read tokens i j room listing here (λ f. cc) e))

abbrev NoWhole : Stops
NoWhole ts i = IsNot (kind.Keyword word.Import) ts i × IsNot (kind.Keyword word.Cimport) ts i

no_whole : Clash BeginsWhole NoWhole
no_whole ts us i agree (inl h) none = kind_missing _ ts us i agree h none.0
no_whole ts us i agree (inr h) none = kind_missing _ ts us i agree h none.1

pub import_word_stuck : (tokens : Tokens) (i room : ℕ) → i < length tokens.list → (IsKeyword (terminals_of tokens) i word.Import → ⊥) → (IsKeyword (terminals_of tokens) i word.Cimport → ⊥) → IsStuck ImportWord Anywhere (terminals_of tokens) i room i
import_word_stuck tokens i room inside no_import no_cimport =
    stuck_here (terminals_of tokens) i room good_import_word.fresh (inside_terminals tokens i inside) (never_by {T = BeginsWhole} {R = NoWhole} (terminals_of tokens) i (leads_import_word {R = Anywhere}) no_whole (no_import, no_cimport))

-- Imported names

behind_both : {ts : List Terminal} {i l room : ℕ} {A : Type 0} {X : Shape A} {S : Stops} → Step X S NameAndAlias EndsAlias ts i l room → Step X S Imported EndsAlias ts i l room
unfolding Imported
behind_both step =
    let placed = good_placed solid_both_names good_both_names in
    step_twice step (step_twice (step_placed good_both_names solid_both_names) (step_twice (step_number placed) (step_made _ (good_seq good_here placed))))

pub imported_first : (ts : List Terminal) (i room : ℕ) (u : Unread) → IsUnread Name Anywhere ts i room u → IsUnread Imported EndsAlias ts i room u
imported_first ts i room u h = fails (behind_both (step_front good_name good_alias (leads_anywhere Alias EndsAlias))) u h

pub imported_second : (ts : List Terminal) (i l room : ℕ) (name : List ℕ) (u : Unread) → IsReading Name Anywhere ts i room name l → IsUnread Alias EndsAlias ts l room u → IsUnread Imported EndsAlias ts i room u
imported_second ts i l room name u reading h = fails (behind_both (step_back good_name good_alias (only_name Anywhere) (leads_anywhere Alias EndsAlias) reading)) u h

pub imported_read : {ts : List Terminal} {i l j room : ℕ} {at : Span} {name : List ℕ} {other : Option (List ℕ)} → IsAt ts i at → IsReading Name Anywhere ts i room name l → IsReading Alias EndsAlias ts l room other j
    → IsReading Imported EndsAlias ts i room (record { number = i; at = at; name = name; alias = other }) j
unfolding Imported
imported_read placed name other = read_of _ (read_here (read_placed placed (read_both name other)))

-- Some names

pub comma_ends_alias : (ts : List Terminal) (i : ℕ) → HasKind ts i (kind.Operator sign.Comma) → EndsAlias ts i
comma_ends_alias ts i h = other_kind (λ e. cc) ts i h

pub names_first : (ts : List Terminal) (i room : ℕ) (u : Unread) → IsUnread Imported EndsAlias ts i room u → IsUnread SomeImported (IsBefore kind.Newline) ts i room u
names_first ts i room u h = fails (step_separated_first _ good_imported comma_ends_alias newline_ends_alias) u h

pub names_next : (ts : List Terminal) (i l m room : ℕ) (xs : List ImportedName) (u : Unread) → IsSeparated (kind.Operator sign.Comma) Imported EndsAlias ts i xs l → IsReading (Token (kind.Operator sign.Comma)) Anywhere ts l room tt m
    → IsUnread Imported EndsAlias ts m room u → IsUnread SomeImported (IsBefore kind.Newline) ts i room u
names_next ts i l m room xs u before comma h = fails (step_separated _ good_imported only_imported comma_ends_alias newline_ends_alias (kinds_apart (λ e. cc)) before comma) u h

pub names_stuck : (ts : List Terminal) (i l room : ℕ) (xs : List ImportedName) → IsSeparated (kind.Operator sign.Comma) Imported EndsAlias ts i xs l → (IsOperator ts l sign.Comma → ⊥) → (HasKind ts l kind.Newline → ⊥)
    → IsStuck SomeImported (IsBefore kind.Newline) ts i room l
names_stuck ts i l room xs before none missing = separated_stuck _ good_imported only_imported comma_ends_alias newline_ends_alias (kinds_apart (λ e. cc)) (local_kind kind.Newline) before none missing

-- Lines

behind_word : {ts : List Terminal} {i l room : ℕ} {w : Bool} → IsReading ImportWord Anywhere ts i room w l → Step (Seq Dotted Alias) (IsBefore kind.Newline) WholeImport (IsBefore kind.Newline) ts i l room
unfolding WholeImport
behind_word reading =
    step_twice (step_back good_import_word (good_seq good_dotted good_alias) (only_import_word Anywhere) (leads_anywhere (Seq Dotted Alias) (IsBefore kind.Newline)) reading) (step_made _ (good_seq good_import_word (good_seq good_dotted good_alias)))

behind_names : {ts : List Terminal} {i l m room : ℕ} {w : Bool} {names : List (List ℕ)} → IsReading ImportWord Anywhere ts i room w l → IsReading Dotted (EndsNames sign.Point) ts l room names m
    → Step Alias (IsBefore kind.Newline) WholeImport (IsBefore kind.Newline) ts i m room
behind_names reading named = step_twice (step_back good_dotted good_alias only_dotted leads_line_alias named) (behind_word reading)

pub whole_first : (ts : List Terminal) (i room : ℕ) (u : Unread) → IsUnread ImportWord Anywhere ts i room u → IsUnread WholeImport (IsBefore kind.Newline) ts i room u
unfolding WholeImport
whole_first ts i room u h =
    fails (step_twice (step_front good_import_word (good_seq good_dotted good_alias) (leads_anywhere (Seq Dotted Alias) (IsBefore kind.Newline))) (step_made _ (good_seq good_import_word (good_seq good_dotted good_alias)))) u h

pub whole_names : (ts : List Terminal) (i l room : ℕ) (w : Bool) (u : Unread) → IsReading ImportWord Anywhere ts i room w l → IsUnread (NamesBy sign.Point) (EndsNames sign.Point) ts l room u → IsUnread WholeImport (IsBefore kind.Newline) ts i room u
whole_names ts i l room w u reading h = fails (step_twice (step_front good_dotted good_alias leads_line_alias) (behind_word reading)) u (dotted_unread (EndsNames sign.Point) ts l room u h)

pub whole_alias : (ts : List Terminal) (i l m room : ℕ) (w : Bool) (names : List (List ℕ)) (u : Unread) → IsReading ImportWord Anywhere ts i room w l → IsReading (NamesBy sign.Point) (EndsNames sign.Point) ts l room names m
    → IsUnread Alias EndsAlias ts m room u → IsUnread WholeImport (IsBefore kind.Newline) ts i room u
whole_alias ts i l m room w names u reading named h = fails (step_twice (step_ends good_alias newline_ends_alias) (behind_names reading (dotted_read named))) u h

pub whole_stuck : (ts : List Terminal) (i l m j room : ℕ) (w : Bool) (names : List (List ℕ)) (other : Option (List ℕ)) → IsReading ImportWord Anywhere ts i room w l → IsReading (NamesBy sign.Point) (EndsNames sign.Point) ts l room names m
    → IsReading Alias EndsAlias ts m room other j → (HasKind ts j kind.Newline → ⊥) → IsStuck WholeImport (IsBefore kind.Newline) ts i room j
whole_stuck ts i l m j room w names other reading named alias missing = stuck_of (behind_names reading (dotted_read named)) (ended_stuck good_alias only_alias newline_ends_alias (local_kind kind.Newline) alias missing)

pub whole_read : (ts : List Terminal) (i l m j room : ℕ) (w : Bool) (names : List (List ℕ)) (other : Option (List ℕ)) → IsReading ImportWord Anywhere ts i room w l → IsReading (NamesBy sign.Point) (EndsNames sign.Point) ts l room names m
    → IsReading Alias EndsAlias ts m room other j → HasKind ts j kind.Newline → IsReading WholeImport (IsBefore kind.Newline) ts i room (w, imports.Whole names other) j
unfolding WholeImport
whole_read ts i l m j room w names other reading named alias ended = read_of _ (read_both reading (read_both (dotted_read named) (read_ends alias ended)))

-- `from`

abbrev PartParts : Shape (List (List ℕ) × (Bool × List ImportedName))
PartParts = Seq Dotted PartNames

good_part_parts : Good PartParts
good_part_parts = good_seq good_dotted good_part_names

behind_from : {ts : List Terminal} {i l room : ℕ} → IsReading (Token (kind.Keyword word.From)) Anywhere ts i room tt l → Step PartParts (IsBefore kind.Newline) PartImport (IsBefore kind.Newline) ts i l room
unfolding PartImport
behind_from from = step_twice (step_made _ good_part_parts) (step_after _ (good_of _ good_part_parts) from)

behind_module : {ts : List Terminal} {i l m room : ℕ} {names : List (List ℕ)} → IsReading (Token (kind.Keyword word.From)) Anywhere ts i room tt l → IsReading Dotted (EndsNames sign.Point) ts l room names m
    → Step PartNames (IsBefore kind.Newline) PartImport (IsBefore kind.Newline) ts i m room
behind_module from named = step_twice (step_back good_dotted good_part_names only_dotted leads_part_names named) (behind_from from)

pub part_first : (ts : List Terminal) (i room : ℕ) (u : Unread) → IsUnread (Token (kind.Keyword word.From)) Anywhere ts i room u → IsUnread PartImport (IsBefore kind.Newline) ts i room u
unfolding PartImport
part_first ts i room u h = fails (step_word _ (good_of _ good_part_parts)) u h

pub part_module : (ts : List Terminal) (i l room : ℕ) (u : Unread) → IsReading (Token (kind.Keyword word.From)) Anywhere ts i room tt l → IsUnread (NamesBy sign.Point) (EndsNames sign.Point) ts l room u
    → IsUnread PartImport (IsBefore kind.Newline) ts i room u
part_module ts i l room u from h = fails (step_twice (step_front good_dotted good_part_names leads_part_names) (behind_from from)) u (dotted_unread (EndsNames sign.Point) ts l room u h)

pub part_word : (ts : List Terminal) (i l m room : ℕ) (names : List (List ℕ)) (u : Unread) → IsReading (Token (kind.Keyword word.From)) Anywhere ts i room tt l → IsReading (NamesBy sign.Point) (EndsNames sign.Point) ts l room names m
    → IsUnread ImportWord Anywhere ts m room u → IsUnread PartImport (IsBefore kind.Newline) ts i room u
part_word ts i l m room names u from named h =
    fails (step_twice (step_front good_import_word good_imported_names (leads_anywhere SomeImported (IsBefore kind.Newline))) (behind_module from (dotted_read named))) u h

pub part_names : (ts : List Terminal) (i l m j room : ℕ) (names : List (List ℕ)) (w : Bool) (u : Unread) → IsReading (Token (kind.Keyword word.From)) Anywhere ts i room tt l → IsReading (NamesBy sign.Point) (EndsNames sign.Point) ts l room names m
    → IsReading ImportWord Anywhere ts m room w j → IsUnread SomeImported (IsBefore kind.Newline) ts j room u → IsUnread PartImport (IsBefore kind.Newline) ts i room u
part_names ts i l m j room names w u from named reading h =
    fails (step_twice (step_back good_import_word good_imported_names (only_import_word Anywhere) (leads_anywhere SomeImported (IsBefore kind.Newline)) reading) (behind_module from (dotted_read named))) u h

pub part_read : (ts : List Terminal) (i l m j k room : ℕ) (names : List (List ℕ)) (w : Bool) (found : List ImportedName) → IsReading (Token (kind.Keyword word.From)) Anywhere ts i room tt l
    → IsReading (NamesBy sign.Point) (EndsNames sign.Point) ts l room names m → IsReading ImportWord Anywhere ts m room w j → IsReading SomeImported (IsBefore kind.Newline) ts j room found k
    → IsReading PartImport (IsBefore kind.Newline) ts i room (w, imports.Parts names found) k
unfolding PartImport
part_read ts i l m j k room names w found from named reading others = read_after _ from (read_of _ (read_both (dotted_read named) (read_both reading others)))

-- Whole lines

whole_of_some : {ts : List Terminal} {i room : ℕ} → (IsKeyword ts i word.From → ⊥) → Step WholeImport (IsBefore kind.Newline) SomeImport (IsBefore kind.Newline) ts i i room
whole_of_some {ts = ts} {i = i} {room = room} none =
    step_left ts i room good_whole_import.rises (never_by {T = IsBefore (kind.Keyword word.From)} {R = IsNot (kind.Keyword word.From)} ts i (leads_part_import {R = IsBefore kind.Newline}) (kind_missing (kind.Keyword word.From)) none)

part_of_some : {ts : List Terminal} {i room : ℕ} → IsKeyword ts i word.From → Step PartImport (IsBefore kind.Newline) SomeImport (IsBefore kind.Newline) ts i i room
part_of_some {ts = ts} {i = i} {room = room} from =
    step_right ts i room good_part_import.rises (never_by {T = BeginsWhole} {R = IsBefore (kind.Keyword word.From)} ts i (leads_whole_import {R = IsBefore kind.Newline}) whole_or_part from)

good_end : Good (Before Here kind.Newline)
good_end = good_before kind.Newline good_here

line_of : {ts : List Terminal} {i l room : ℕ} {A : Type 0} {X : Shape A} {S : Stops} → Step X S NumberedLine Anywhere ts i l room → Step X S ImportLine Anywhere ts i l room
unfolding ImportLine
line_of step = step_twice step (step_twice (step_placed good_numbered_line solid_numbered_line) (step_made _ (good_placed solid_numbered_line good_numbered_line)))

some_of_line : {ts : List Terminal} {i room : ℕ} → Step SomeImport (IsBefore kind.Newline) ImportLine Anywhere ts i i room
some_of_line = line_of (step_front good_some_import good_end (leads_end kind.Newline))

pub line_whole : (ts : List Terminal) (i room : ℕ) (u : Unread) → (IsKeyword ts i word.From → ⊥) → IsUnread WholeImport (IsBefore kind.Newline) ts i room u → IsUnread ImportLine Anywhere ts i room u
line_whole ts i room u none h = fails (step_twice (whole_of_some none) some_of_line) u h

pub line_part : (ts : List Terminal) (i room : ℕ) (u : Unread) → IsKeyword ts i word.From → IsUnread PartImport (IsBefore kind.Newline) ts i room u → IsUnread ImportLine Anywhere ts i room u
line_part ts i room u from h = fails (step_twice (part_of_some from) some_of_line) u h

pub line_unended : (ts : List Terminal) (i l room : ℕ) (found : Bool × ImportForm) (u : Unread) → IsReading SomeImport (IsBefore kind.Newline) ts i room found l → IsUnread (Token kind.Newline) Anywhere ts l room u → IsUnread ImportLine Anywhere ts i room u
line_unended ts i l room found u some h = fails (step_twice (step_numbered_end kind.Newline) (line_of (step_back good_some_import good_end only_some_import (leads_end kind.Newline) some))) u h

pub line_read : (ts : List Terminal) (i l j room : ℕ) (at : Span) (found : Bool × ImportForm) → IsAt ts i at → IsReading SomeImport (IsBefore kind.Newline) ts i room found l → IsReading (Token kind.Newline) Anywhere ts l room tt j
    → IsReading ImportLine Anywhere ts i room (record { number = l; at = at; is_cimport = found.0; form = found.1 }) j
unfolding ImportLine
line_read ts i l j room at found placed some ended = read_of _ (read_placed placed (read_both some (read_end kind.Newline ended)))

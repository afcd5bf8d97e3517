-- Imports as shapes: each is sound, can begin anywhere, and is read in one way.
use Rattle.std.proofs.Common.{◌⊎◌, inl, inr, ℕ, Bool, List, Option}
use Rattle.px_lexer.specs.declared.spelling.Keyword.TheVariants as word
use Rattle.px_lexer.specs.declared.spelling.Operator.TheVariants as sign
use Rattle.px_lexer.specs.declared.token_list.TokenKind.{TokenKind}
use Rattle.px_lexer.specs.declared.token_list.TokenKind.TheVariants as kind
use Rattle.px_tree.specs.declared.modules.ImportedName.{ImportedName}
use Rattle.px_tree.specs.declared.modules.ImportForm.{ImportForm}
use Rattle.px_lexer.specs.Terminals.{Terminal, HasKind, IsKeyword}
use Rattle.px_exprs.specs.Readings.{Stops}
use Rattle.px_parser.specs.Shapes.{Shape, Name, Here, Placed, Seq, Either, Before, Separated}
use Rattle.px_parser.specs.Readings.{Anywhere}
use Rattle.px_parser.specs.Ends.{EndsAlias, EndsNames, IsBefore}
use Rattle.px_parser.specs.ModuleGrammar.{Dotted, Alias, ImportWord, Imported, WholeImport, PartImport, ImportLine}
use Rattle.px_parser.proofs.Shapely.{Solid, Good, good_name, good_token, good_here, good_seq, good_either, good_of, good_after, good_before, good_maybe, good_separated, good_placed, sound_name, sound_token, sound_here, sound_of, sound_after}
use Rattle.px_parser.proofs.Onlies.{Leads, Clash, Only, leads_here, leads_placed, leads_of, leads_either, leads_token, leads_after, leads_gives, leads_anywhere, leads_wider, only_name, only_token, only_here, only_of, only_seq, only_either, only_placed, only_after, only_before, only_maybe, only_narrower}
use Rattle.px_parser.proofs.KindLaws.{kind_missing, other_kind, kinds_apart, solid_token, solid_name, solid_front, solid_back, solid_placed, solid_of, solid_either, solid_after, solid_separated, leads_first, only_separated}

-- Names

pub good_dotted : Good Dotted
unfolding Dotted
good_dotted = good_separated _ good_name

pub solid_dotted : Solid Dotted
unfolding Dotted
solid_dotted = solid_separated _ sound_name solid_name

pub only_dotted : Only Dotted (EndsNames sign.Point)
unfolding Dotted
only_dotted = only_separated {S = EndsNames sign.Point} _ sound_name (only_name Anywhere) (λ ts i h. tt) (λ ts i h. tt) (kind_missing _)

pub good_alias : Good Alias
unfolding Alias
good_alias = good_maybe (good_after _ good_name)

pub leads_alias : {R T : Stops} → ((ts : List Terminal) (i : ℕ) → IsKeyword ts i word.As → T ts i) → ((ts : List Terminal) (i : ℕ) → R ts i → T ts i) → Leads Alias R T
unfolding Alias
leads_alias {R = R} {T = T} begins ends = leads_either (leads_of _ (leads_after Name _ R T begins)) (leads_gives _ ends)

pub only_alias : Only Alias EndsAlias
unfolding Alias
only_alias = only_maybe (sound_after _ sound_name) (only_after _ sound_name (only_name EndsAlias)) (leads_after Name _ EndsAlias (IsBefore (kind.Keyword word.As)) (λ ts i h. h)) (kind_missing _)

-- `import` or `cimport`

abbrev pub BeginsWhole : Stops
BeginsWhole ts i = IsKeyword ts i word.Import ⊎ IsKeyword ts i word.Cimport

pub good_import_word : Good ImportWord
unfolding ImportWord
good_import_word = good_either (good_of _ (good_token _)) (good_of _ (good_token _))

pub solid_import_word : Solid ImportWord
unfolding ImportWord
solid_import_word = solid_either (solid_of _ (solid_token _)) (solid_of _ (solid_token _))

pub leads_import_word : {R : Stops} → Leads ImportWord R BeginsWhole
unfolding ImportWord
leads_import_word {R = R} = leads_either (leads_of _ (leads_token _ R BeginsWhole (λ ts i h. inl h))) (leads_of _ (leads_token _ R BeginsWhole (λ ts i h. inr h)))

pub only_import_word : (S : Stops) → Only ImportWord S
unfolding ImportWord
only_import_word S =
    only_either (sound_of _ (sound_token _)) (sound_of _ (sound_token _)) (only_of _ (only_token _ S)) (only_of _ (only_token _ S)) (leads_of _ (leads_token _ S (IsBefore (kind.Keyword word.Import)) (λ ts i h. h)))
    (leads_of _ (leads_token _ S (IsBefore (kind.Keyword word.Cimport)) (λ ts i h. h))) (kinds_apart (λ e. cc))

-- Imported names

abbrev pub NameAndAlias : Shape (List ℕ × Option (List ℕ))
NameAndAlias = Seq Name Alias

pub good_both_names : Good NameAndAlias
good_both_names = good_seq good_name good_alias

pub solid_both_names : Solid NameAndAlias
solid_both_names = solid_front solid_name good_alias.sound

pub good_imported : Good Imported
unfolding Imported
good_imported = good_of _ (good_seq good_here (good_placed solid_both_names good_both_names))

pub solid_imported : Solid Imported
unfolding Imported
solid_imported = solid_of _ (solid_back sound_here (solid_placed solid_both_names))

pub only_imported : Only Imported EndsAlias
unfolding Imported
only_imported =
    let both : Only NameAndAlias EndsAlias = only_seq sound_name good_alias.sound (only_name Anywhere) (leads_anywhere Alias EndsAlias) only_alias in
    let placed : Only (Placed NameAndAlias) EndsAlias = only_placed solid_both_names both in
    only_of _ (only_seq sound_here (good_placed solid_both_names good_both_names).sound (only_here Anywhere) (leads_anywhere (Placed NameAndAlias) EndsAlias) placed)

abbrev pub SomeImported : Shape (List ImportedName)
SomeImported = Separated (kind.Operator sign.Comma) Imported

pub good_imported_names : Good SomeImported
good_imported_names = good_separated _ good_imported

pub only_imported_names : Only SomeImported (IsBefore kind.Newline)
only_imported_names = only_separated {S = IsBefore kind.Newline} _ good_imported.sound only_imported (λ ts i h. other_kind (λ e. cc) ts i h) (λ ts i h. other_kind (λ e. cc) ts i h) (kinds_apart (λ e. cc))

-- Lines

pub good_whole_import : Good WholeImport
unfolding WholeImport
good_whole_import = good_of _ (good_seq good_import_word (good_seq good_dotted good_alias))

pub leads_whole_import : {R : Stops} → Leads WholeImport R BeginsWhole
unfolding WholeImport
leads_whole_import = leads_of _ (leads_first leads_import_word)

pub solid_whole_import : Solid WholeImport
unfolding WholeImport
solid_whole_import = solid_of _ (solid_front solid_import_word (good_seq good_dotted good_alias).sound)

pub leads_line_alias : Leads Alias (IsBefore kind.Newline) (EndsNames sign.Point)
leads_line_alias = leads_alias (λ ts i h. other_kind (λ e. cc) ts i h) (λ ts i h. other_kind (λ e. cc) ts i h)

pub newline_ends_alias : (ts : List Terminal) (i : ℕ) → HasKind ts i kind.Newline → EndsAlias ts i
newline_ends_alias ts i h = other_kind (λ e. cc) ts i h

pub only_whole_names : Only (Seq Dotted Alias) (IsBefore kind.Newline)
only_whole_names = only_seq good_dotted.sound good_alias.sound only_dotted leads_line_alias (only_narrower only_alias newline_ends_alias)

pub only_whole_import : Only WholeImport (IsBefore kind.Newline)
unfolding WholeImport
only_whole_import = only_of _ (only_seq good_import_word.sound (good_seq good_dotted good_alias).sound (only_import_word Anywhere) (leads_anywhere (Seq Dotted Alias) (IsBefore kind.Newline)) only_whole_names)

-- what stands behind the module
abbrev pub PartNames : Shape (Bool × List ImportedName)
PartNames = Seq ImportWord SomeImported

pub good_part_names : Good PartNames
good_part_names = good_seq good_import_word good_imported_names

pub leads_part_names : {R : Stops} → Leads PartNames R (EndsNames sign.Point)
leads_part_names = leads_first (leads_wider leads_import_word (λ ts i h. elim (h) [ inl g ↦ other_kind (λ e. cc) ts i g | inr g ↦ other_kind (λ e. cc) ts i g ]))

pub only_part_names : Only PartNames (IsBefore kind.Newline)
only_part_names = only_seq good_import_word.sound good_imported_names.sound (only_import_word Anywhere) (leads_anywhere SomeImported (IsBefore kind.Newline)) only_imported_names

pub good_part_import : Good PartImport
unfolding PartImport
good_part_import = good_after _ (good_of _ (good_seq good_dotted good_part_names))

pub solid_part_import : Solid PartImport
unfolding PartImport
solid_part_import = solid_after _ (sound_of _ (good_seq good_dotted good_part_names).sound)

pub leads_part_import : {R : Stops} → Leads PartImport R (IsBefore (kind.Keyword word.From))
unfolding PartImport
leads_part_import {R = R} = leads_after _ _ R (IsBefore (kind.Keyword word.From)) (λ ts i h. h)

pub only_part_import : Only PartImport (IsBefore kind.Newline)
unfolding PartImport
only_part_import = only_after _ (sound_of _ (good_seq good_dotted good_part_names).sound) (only_of _ (only_seq good_dotted.sound good_part_names.sound only_dotted leads_part_names only_part_names))

abbrev pub BeginsImport : Stops
BeginsImport ts i = BeginsWhole ts i ⊎ IsKeyword ts i word.From

abbrev pub SomeImport : Shape (Bool × ImportForm)
SomeImport = Either WholeImport PartImport

pub good_some_import : Good SomeImport
good_some_import = good_either good_whole_import good_part_import

pub whole_or_part : Clash BeginsWhole (IsBefore (kind.Keyword word.From))
whole_or_part ts us i agree (inl h) g = kinds_apart (λ e. cc) ts us i agree h g
whole_or_part ts us i agree (inr h) g = kinds_apart (λ e. cc) ts us i agree h g

pub only_some_import : Only SomeImport (IsBefore kind.Newline)
only_some_import = only_either good_whole_import.sound good_part_import.sound only_whole_import only_part_import leads_whole_import leads_part_import whole_or_part

abbrev pub NumberedLine : Shape ((Bool × ImportForm) × ℕ)
NumberedLine = Seq SomeImport (Before Here kind.Newline)

pub good_numbered_line : Good NumberedLine
good_numbered_line = good_seq good_some_import (good_before _ good_here)

pub solid_numbered_line : Solid NumberedLine
solid_numbered_line = solid_front (solid_either solid_whole_import solid_part_import) (good_before kind.Newline good_here).sound

-- the index of a token that ends a form
pub leads_end : (k : TokenKind) {R : Stops} → Leads (Before Here k) R (IsBefore k)
leads_end k {R = R} = leads_of _ (leads_here (leads_token k R (IsBefore k) (λ ts i h. h)))

pub only_end : (k : TokenKind) (S : Stops) → Only (Before Here k) S
only_end k S = only_before k S sound_here (only_here Anywhere) (λ ts i h. tt)

pub only_numbered_line : Only NumberedLine Anywhere
only_numbered_line = only_seq good_some_import.sound (good_before kind.Newline good_here).sound only_some_import (leads_end kind.Newline) (only_end kind.Newline Anywhere)

pub good_import_line : Good ImportLine
unfolding ImportLine
good_import_line = good_of _ (good_placed solid_numbered_line good_numbered_line)

pub solid_import_line : Solid ImportLine
unfolding ImportLine
solid_import_line = solid_of _ (solid_placed solid_numbered_line)

pub leads_import_line : {R : Stops} → Leads ImportLine R BeginsImport
unfolding ImportLine
leads_import_line = leads_of _ (leads_placed (leads_first (leads_either (leads_wider leads_whole_import (λ ts i h. inl h)) (leads_wider leads_part_import (λ ts i h. inr h)))))

pub only_import_line : Only ImportLine Anywhere
unfolding ImportLine
only_import_line = only_of _ (only_placed solid_numbered_line only_numbered_line)

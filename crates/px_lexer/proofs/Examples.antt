-- Worked examples of the definitions, which hold by computing.
use Rattle.std.specs.Prelude.{◌≡◌, true, false, [], ◌∷◌, refl, Some, None, codes, length}
use Rattle.std.specs.Str.{chars, is_utf8}
use Rattle.std.specs.Str.Lossy.{utf8_valid_len}
use lib.Utf8.{encode}
use Rattle.unicode_ident.proofs.Computing.{unicode_ident}
use Rattle.px_lexer.specs.Characters.{unreadable, characters, byte_of}
use Rattle.px_lexer.specs.Places.{span_of, lines_before, columns_before}
use Rattle.px_lexer.specs.Words.{keywords, foreign_words}
use Rattle.px_lexer.specs.Numbers.{digits_value, base_of, is_zero}
use Rattle.px_lexer.specs.Signs.{operators, foreign_signs}
use Rattle.px_lexer.specs.Strings.{escape_of, simple_escapes, is_escaped, stops, is_closed, quotes_of, string_len, with_line_feeds, is_raw, prefix_of, is_foreign_prefix}
use Rattle.px_lexer.specs.Pieces.{form_of}
use Rattle.px_lexer.specs.declared.forms.Form.TheVariants as form
use Rattle.px_lexer.specs.Lines.{open_levels, last_level, depth_after, level_of, indentation_end, own_level}

-- behind a byte order mark: `a`, an e with an acute accent, and a byte that begins no character
read_to_a_bad_byte : characters (0xEF ∷ 0xBB ∷ 0xBF ∷ 97 ∷ 0xC3 ∷ 0xA9 ∷ 0xFF ∷ 65 ∷ []) ≡ 97 ∷ 0xE9 ∷ unreadable ∷ []
unfolding characters utf8_valid_len chars is_utf8 encode
read_to_a_bad_byte = refl

read_to_a_cut_character : characters (97 ∷ 0xC3 ∷ []) ≡ 97 ∷ unreadable ∷ []
unfolding characters utf8_valid_len chars is_utf8 encode
read_to_a_cut_character = refl

byte_behind_the_mark : byte_of (0xEF ∷ 0xBB ∷ 0xBF ∷ 97 ∷ 0xC3 ∷ 0xA9 ∷ 65 ∷ []) 2 ≡ 6
unfolding characters utf8_valid_len chars is_utf8 encode
byte_behind_the_mark = refl

-- `a`, CR LF, `b`, CR
places : (span_of (97 ∷ 13 ∷ 10 ∷ 98 ∷ 13 ∷ []) 3 ≡ record { line = 2; column = 1 }) × (span_of (97 ∷ 13 ∷ 10 ∷ 98 ∷ 13 ∷ []) 5 ≡ record { line = 3; column = 1 })
unfolding lines_before columns_before
places = (refl, refl)

forms : (form_of (codes "b'a'") ≡ form.Text) × (form_of (codes "bu'a'") ≡ form.Word) × (form_of (codes ".5") ≡ form.Number) × (form_of (codes "..5") ≡ form.Sign) × (form_of (codes "!=") ≡ form.Sign) × (form_of (codes "!x") ≡ form.Stray)
unfolding form_of unicode_ident operators foreign_signs
forms = (refl, refl, refl, refl, refl, refl)

-- backslashes before a line end, before the end and before a space; a bad byte, a second mark, a digit that isn't ASCII, a ligature
rare_forms : (form_of (92 ∷ 13 ∷ 10 ∷ []) ≡ form.Join) × (form_of (92 ∷ []) ≡ form.Stray) × (form_of (92 ∷ 32 ∷ []) ≡ form.Stray) × (form_of (unreadable ∷ []) ≡ form.Stray) × (form_of (0xFEFF ∷ []) ≡ form.Stray) × (form_of (0x663 ∷ []) ≡ form.Stray) × (form_of (0xFB01 ∷ []) ≡ form.Word)
unfolding form_of unicode_ident operators foreign_signs
rare_forms = (refl, refl, refl, refl, refl, refl, refl)

prefixes : (quotes_of (codes "''''") ≡ codes "'''") × (quotes_of (codes "''x") ≡ codes "'") × (is_raw (prefix_of (codes "rB''")) ≡ true) × (is_foreign_prefix (prefix_of (codes "rB''")) ≡ true) × (is_foreign_prefix (prefix_of (codes "U''")) ≡ false)
unfolding unicode_ident
prefixes = (refl, refl, refl, refl, refl)

-- 'a\'b'c is the string 'a\'b' before a name
escaped_quote : (stops (codes "'") (codes "a\\'b'c") 2 ≡ false) × (stops (codes "'") (codes "a\\'b'c") 4 ≡ true) × (is_closed (codes "'a\\'b'c") 4 ≡ true) × (string_len (codes "'a\\'b'c") 4 ≡ 6)
unfolding is_escaped unicode_ident
escaped_quote = (refl, refl, refl, refl)

-- a backslash before CR LF joins; a CR LF without one breaks a string off, where it doesn't have three quotes
line_ends_in_strings : (stops (codes "'") (97 ∷ 92 ∷ 13 ∷ 10 ∷ 39 ∷ []) 2 ≡ false) × (stops (codes "'") (97 ∷ 92 ∷ 13 ∷ 10 ∷ 39 ∷ []) 3 ≡ false) × (stops (codes "'") (97 ∷ 13 ∷ 10 ∷ []) 1 ≡ true) × (stops (codes "'''") (97 ∷ 13 ∷ 10 ∷ []) 1 ≡ false)
unfolding is_escaped
line_ends_in_strings = (refl, refl, refl, refl)

escapes : (escape_of (codes "\\x41b") ≡ Some (record { taken = 4; given = 65 ∷ [] })) × (escape_of (codes "\\4000") ≡ Some (record { taken = 4; given = 256 ∷ [] })) × (escape_of (codes "\\8") ≡ Some (record { taken = 2; given = codes "\\8" })) × (escape_of (codes "\\U0010FFFF") ≡ Some (record { taken = 10; given = 0x10FFFF ∷ [] })) × (escape_of (92 ∷ 13 ∷ 10 ∷ 65 ∷ []) ≡ Some (record { taken = 3; given = [] }))
unfolding escape_of simple_escapes
escapes = (refl, refl, refl, refl, refl)

wrong_escapes : (escape_of (codes "\\x1'") ≡ None) × (escape_of (codes "\\N{A}") ≡ None) × (escape_of (codes "\\ud800") ≡ None) × (escape_of (codes "\\U00110000") ≡ None)
unfolding escape_of simple_escapes
wrong_escapes = (refl, refl, refl, refl)

-- CR LF, `a`, CR, CR LF, LF
line_feeds : with_line_feeds (13 ∷ 10 ∷ 97 ∷ 13 ∷ 13 ∷ 10 ∷ 10 ∷ []) ≡ 10 ∷ 97 ∷ 10 ∷ 10 ∷ 10 ∷ []
line_feeds = refl

numbers : (digits_value 10 (codes "1_000") ≡ 1000) × (digits_value 16 (codes "fF_f") ≡ 4095) × (is_zero (codes "0_0") ≡ true) × (base_of 88 ≡ 16)
numbers = (refl, refl, refl, refl)

-- lines of the indentations 0, 4 and 8, and of 0, 4, 4, 8, 4 and 6
levels : (open_levels (0 ∷ 4 ∷ 8 ∷ []) ≡ 4 ∷ 8 ∷ []) × (open_levels (0 ∷ 4 ∷ 4 ∷ 8 ∷ 4 ∷ 6 ∷ []) ≡ 4 ∷ 6 ∷ []) × (last_level (0 ∷ 4 ∷ []) ≡ 4) × (last_level [] ≡ 0)
unfolding open_levels
levels = (refl, refl, refl, refl)

-- a form feed, two spaces and `x`; a space and a comment
indentations : (level_of (12 ∷ 32 ∷ 32 ∷ 120 ∷ []) (record { form = form.Blank; from = 0; to = 1 } ∷ []) ≡ 2) × (indentation_end (12 ∷ 32 ∷ 32 ∷ 120 ∷ []) (record { form = form.Blank; from = 0; to = 1 } ∷ []) ≡ 3) × (own_level (32 ∷ 35 ∷ []) (record { form = form.Blank; from = 0; to = 1 } ∷ record { form = form.Comment; from = 1; to = 2 } ∷ []) ≡ [])
indentations = (refl, refl, refl)

-- a closing bracket without an open one changes nothing
depths : depth_after (codes ")([") 0 (record { form = form.Sign; from = 0; to = 1 } ∷ record { form = form.Sign; from = 1; to = 2 } ∷ record { form = form.Sign; from = 2; to = 3 } ∷ []) ≡ 2
unfolding depth_after
depths = refl

tables : (length keywords ≡ 30) × (length foreign_words ≡ 13) × (length operators ≡ 41) × (length foreign_signs ≡ 7)
unfolding keywords foreign_words operators foreign_signs
tables = (refl, refl, refl, refl)

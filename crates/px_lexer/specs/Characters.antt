-- The characters of a text, which is UTF-8 and may begin with a byte order mark (Python Language Reference, 2.1.4 Encoding
-- declarations). A character is one code point. An index counts the characters from 0, without the mark.
use Rattle.std.specs.Prelude.{ℕ, ◌+◌, List, [], ◌∷◌, ◌++◌, length, take, drop, nat_eq, ◌==◌, if◌then◌else◌, chars, encode_utf8_all}
use Rattle.std.specs.List.{starts_with}
use Rattle.std.specs.Str.Lossy.{utf8_valid_len}

-- stands for the first byte at which no character begins, and is the code of none
abbrev pub unreadable : ℕ
unreadable = 0x110000

-- how many bytes the byte order mark takes at the start of the text; anywhere else it is a character
abbrev pub mark_len : List ℕ → ℕ
mark_len text = if starts_with nat_eq text (0xEF ∷ 0xBB ∷ 0xBF ∷ []) then 3 else 0

-- the characters of the longest front of these bytes that is UTF-8, and then `unreadable` where bytes are left
abbrev pub characters_of : List ℕ → List ℕ
characters_of bytes =
    let n = utf8_valid_len bytes in
    chars (take n bytes) ++ (if n == length bytes then [] else unreadable ∷ [])

-- the characters of the text, as far as they can be read
unfoldable pub characters : List ℕ → List ℕ
characters text = characters_of (drop (mark_len text) text)

-- the place in the text, in bytes, of the character at this index
abbrev pub byte_of : List ℕ → ℕ → ℕ
byte_of text i = mark_len text + length (encode_utf8_all (take i (characters text)))

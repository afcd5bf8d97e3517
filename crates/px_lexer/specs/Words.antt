-- Identifiers, keywords and foreign words (Python Language Reference, 2.3 Identifiers and keywords; Unicode Standard Annex 31).
use Prim.Native.Char.{code}
use Rattle.std.specs.Prelude.{◌≡◌, ℕ, ◌≤◌, Bool, true, false, not, ◌&&◌, ◌||◌, List, [], ◌∷◌, length, ◌==◌, codes, encode_utf8_all, slice_index, Option, Some, None, IsTrue}
use Rattle.std.specs.List.{list_all, prefix_len}
use Rattle.unicode_ident.specs.Ident.{is_xid_start, is_xid_continue}
use Rattle.unicode_normalization.specs.Forms.{IsInForm, Nfkc}
use Rattle.px_lexer.specs.declared.spelling.Keyword.{Keyword}
use Rattle.px_lexer.specs.declared.spelling.Keyword.TheVariants as keyword
use Rattle.px_lexer.specs.declared.token_list.TokenKind.{TokenKind}
use Rattle.px_lexer.specs.declared.token_list.TokenKind.TheVariants as kind
use Rattle.px_lexer.specs.Characters.{unreadable}
use Rattle.px_lexer.specs.Spellings.{meaning_in, is_among}

-- a character that a word may begin with: `_`, or one of XID_Start
abbrev pub starts_word : ℕ → Bool
starts_word c = c == code "_" || not (c == unreadable) && is_xid_start c

-- an identifier character, with which a word goes on
abbrev pub continues_word : ℕ → Bool
continues_word c = not (c == unreadable) && is_xid_continue c

-- how many identifier characters stand at the front
abbrev pub word_len : List ℕ → ℕ
word_len cs = prefix_len continues_word cs

-- identifier characters, the first of which may begin a word
pub record IsWord (spelling : List ℕ) : Type 0 where
  pub begins : IsTrue (starts_word (slice_index spelling 0))
  pub goes_on : IsTrue (list_all continues_word spelling)

unfoldable pub keywords : List (List ℕ × Keyword)
keywords =
    (codes "False", keyword.False) ∷ (codes "None", keyword.None) ∷ (codes "True", keyword.True) ∷ (codes "and", keyword.And) ∷
    (codes "as", keyword.As) ∷ (codes "break", keyword.Break) ∷ (codes "cdef", keyword.Cdef) ∷ (codes "cimport", keyword.Cimport) ∷
    (codes "continue", keyword.Continue) ∷ (codes "cpdef", keyword.Cpdef) ∷ (codes "def", keyword.Def) ∷ (codes "elif", keyword.Elif) ∷
    (codes "else", keyword.Else) ∷ (codes "except", keyword.Except) ∷ (codes "for", keyword.For) ∷ (codes "from", keyword.From) ∷
    (codes "global", keyword.Global) ∷ (codes "if", keyword.If) ∷ (codes "import", keyword.Import) ∷ (codes "in", keyword.In) ∷
    (codes "inline", keyword.Inline) ∷ (codes "is", keyword.Is) ∷ (codes "not", keyword.Not) ∷ (codes "or", keyword.Or) ∷
    (codes "pass", keyword.Pass) ∷ (codes "raise", keyword.Raise) ∷ (codes "return", keyword.Return) ∷ (codes "sizeof", keyword.Sizeof) ∷
    (codes "while", keyword.While) ∷ (codes "with", keyword.With) ∷ []

-- words of Cython that this language leaves out
unfoldable pub foreign_words : List (List ℕ)
foreign_words =
    codes "assert" ∷ codes "async" ∷ codes "await" ∷ codes "class" ∷ codes "ctypedef" ∷ codes "del" ∷ codes "extern" ∷
    codes "finally" ∷ codes "include" ∷ codes "lambda" ∷ codes "nonlocal" ∷ codes "try" ∷ codes "yield" ∷ []

-- the greatest number of bytes of an identifier in UTF-8
abbrev pub identifier_limit : ℕ
identifier_limit = 255

-- an identifier is in NFKC, and not too long
pub record IsIdentifier (word : List ℕ) : Type 0 where
  pub normal : IsInForm Nfkc word
  pub short : length (encode_utf8_all word) ≤ identifier_limit

-- the kind of a word by what it stands for as a keyword, and whether it is a foreign word
abbrev pub HasWordKind : Option Keyword → Bool → List ℕ → TokenKind → Type 0
HasWordKind (Some k) is_foreign word t = t ≡ kind.Keyword k
HasWordKind None true word t = t ≡ kind.Foreign
HasWordKind None false word t = (t ≡ kind.Name) × IsIdentifier word

-- the kind of a whole word that is no prefix of a string
abbrev pub IsWordKind : List ℕ → TokenKind → Type 0
IsWordKind word t = HasWordKind (meaning_in keywords word) (is_among foreign_words word) word t

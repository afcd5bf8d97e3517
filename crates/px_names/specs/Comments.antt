-- Directives in comments: `# cython: name=value`, with commas between pairs, and any blanks after the `#`, at the end, and
-- round `cython`, the `:`, and each name, `=`, value and comma. A comment of another form is a plain comment.
use Rattle.std.specs.Prelude.{ℕ, ◌-◌, Bool, true, false, ◌&&◌, ◌||◌, not, if◌then◌else◌, nat_eq, List, [], ◌∷◌, length, take, drop, map, Option, Some, None, is_some, codes, option_map, option_and_then, unwrap_or, fold}
use Rattle.std.specs.List.{list_all, slice_split, prefix_len, suffix_len, starts_with}
use Rattle.px_names.specs.declared.settings.Directive.{Directive}
use Rattle.px_names.specs.declared.settings.Directive.TheVariants as directive
use Rattle.px_names.specs.declared.settings.Directives.{Directives}
use Rattle.px_names.specs.Tables.{entry_of, is_among}

-- a blank is a space, a tab or a form feed
abbrev pub is_blank : ℕ → Bool
is_blank c = nat_eq c 32 || nat_eq c 9 || nat_eq c 12

abbrev pub is_comma : ℕ → Bool
is_comma c = nat_eq c 44

abbrev pub is_equal_sign : ℕ → Bool
is_equal_sign c = nat_eq c 61

abbrev pub without_blanks : List ℕ → List ℕ
without_blanks text = drop (prefix_len is_blank text) text

-- without the blanks at both ends
abbrev pub trimmed : List ℕ → List ℕ
trimmed text = let rest = without_blanks text in take (length rest - suffix_len is_blank rest) rest

-- what stands behind a text that this one begins with
abbrev pub behind : List ℕ → List ℕ → Option (List ℕ)
behind front text = if starts_with nat_eq text front then Some (drop (length front) text) else None

-- A name or a value is nonempty and has no blank, comma or `=`.

abbrev pub is_separator : ℕ → Bool
is_separator c = is_blank c || is_comma c || is_equal_sign c

abbrev pub is_word : List ℕ → Bool
is_word text = not (nat_eq (length text) 0) && list_all (λ c. not (is_separator c)) text

-- a name and its value
abbrev pub Pair : Type 0
Pair = List ℕ × List ℕ

-- two texts that are words
abbrev pub words_pair : List ℕ → List ℕ → Option Pair
words_pair name value = if is_word name && is_word value then Some (name, value) else None

abbrev pub pair_of : List (List ℕ) → Option Pair
pair_of [] = None
pair_of (name ∷ []) = None
pair_of (name ∷ value ∷ []) = words_pair (trimmed name) (trimmed value)
pair_of (name ∷ value ∷ further ∷ sides) = None

-- all of them, or none where one is missing
abbrev pub all_of : {A : Type 0} → List (Option A) → Option (List A)
all_of [] = Some []
all_of (None ∷ options) = None
all_of (Some x ∷ options) = option_map (λ xs. x ∷ xs) (all_of options)

abbrev pub pair_at : List ℕ → Option Pair
pair_at text = pair_of (slice_split is_equal_sign text)

abbrev pub pairs_between_commas : List ℕ → Option (List Pair)
pairs_between_commas text = all_of (map pair_at (slice_split is_comma text))

-- what stands behind `# cython:`

abbrev pub behind_blanks : List ℕ → Option (List ℕ) → Option (List ℕ)
behind_blanks front text = option_and_then (λ rest. behind front (without_blanks rest)) text

abbrev pub pairs_text : List ℕ → Option (List ℕ)
pairs_text comment = behind_blanks (codes ":") (behind_blanks (codes "cython") (behind (codes "#") comment))

-- the pairs of a comment; of a plain one there are none
abbrev pub pairs_of : List ℕ → List Pair
pairs_of comment =
    unwrap_or (option_and_then pairs_between_commas (pairs_text comment)) []

-- Known are boundscheck, wraparound, cdivision and initializedcheck with True or False, and language_level with 3 or 3str.

abbrev pub versions : List (List ℕ)
versions = codes "3" ∷ codes "3str" ∷ []

abbrev pub truths : List (List ℕ × Bool)
truths = (codes "True", true) ∷ (codes "False", false) ∷ []

abbrev pub directives : List (List ℕ × Directive)
directives =
    (codes "boundscheck", directive.Boundscheck) ∷ (codes "wraparound", directive.Wraparound)
    ∷ (codes "cdivision", directive.Cdivision) ∷ []

-- whether its values are True and False
abbrev pub is_switch : List ℕ → Bool
is_switch name = is_among (codes "initializedcheck" ∷ []) name || is_some (entry_of directives name)

abbrev pub is_pair_known : Pair → Bool
is_pair_known (name, value) =
    if is_among (codes "language_level" ∷ []) name then is_among versions value else is_switch name && is_some (entry_of truths value)

abbrev pub is_comment_known : List ℕ → Bool
is_comment_known comment = list_all is_pair_known (pairs_of comment)

-- Settings: directives with their values. Of two values for one directive the later one counts.

abbrev pub Setting : Type 0
Setting = Directive × Bool

-- what a pair sets; initializedcheck and language_level change nothing
abbrev pub setting_of : Pair → Option Setting
setting_of (name, value) =
    option_and_then (λ d. option_map (λ b. (d, b)) (entry_of truths value)) (entry_of directives name)

abbrev pub with_setting : Directives → Setting → Directives
with_setting d (directive.Boundscheck, value) = record d { boundscheck = value }
with_setting d (directive.Wraparound, value) = record d { wraparound = value }
with_setting d (directive.Cdivision, value) = record d { cdivision = value }

abbrev pub by_default : Directives
by_default = record { boundscheck = true; wraparound = true; cdivision = false }

abbrev pub directives_by : List Setting → Directives
directives_by settings = fold with_setting by_default settings

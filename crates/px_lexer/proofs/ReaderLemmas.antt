-- Brackets, which are pieces of one character, levels of indentation, and the last character.
use Rattle.std.proofs.Common.{◌≡◌, ℕ, suc, ◌+◌, ◌-◌, ◌<◌, ◌≤◌, Bool, true, false, List, [], ◌∷◌, ◌++◌, length, take, drop, nat_eq, refl, ap, sym, subst, ◌∙◌, arith, length-drop, add-one, append-nil}
use Rattle.std.specs.Prelude.{◌&&◌, ◌||◌, ◌↔◌, if◌then◌else◌, ◌==◌, slice_index, slice_range, filter, nat_lt, IsTrue}
use Rattle.std.proofs.lemmas.Bool.{eqb-true, eq-eqb, ltb-true, lt-ltb, le-ltb}
use Rattle.std.proofs.lemmas.List.{length-take-le}
use Rattle.std.proofs.Math.Seq.{drop-cons}
use Rattle.px_lexer.specs.declared.forms.Form.{Form}
use Rattle.px_lexer.specs.Characters.{unreadable}
use Rattle.px_lexer.specs.Signs.{is_opening, is_closing}
use Rattle.px_lexer.specs.Lines.{depth_behind}
use Rattle.px_lexer.specs.Reached.{IsCutShort, levels_behind}

-- a spelling of one character
one_spelled : (cs : List ℕ) (from to : ℕ) → from < to → to ≤ length cs → to - from ≤ 1 → slice_range cs from to ≡ slice_index cs from ∷ []
one_spelled cs from to forward within short =
    let size : to - from ≡ 1 = omega arith in
    ap (λ n. take n (drop from cs)) size ∙ ap (take 1) (drop-cons cs from 0 (omega arith))

-- a longer one is no bracket
none_of_three : (a b c : Bool) → ((a && false) || ((b && false) || ((c && false) || false))) ≡ false
none_of_three true true true = refl
none_of_three true true false = refl
none_of_three true false true = refl
none_of_three true false false = refl
none_of_three false true true = refl
none_of_three false true false = refl
none_of_three false false true = refl
none_of_three false false false = refl

long_opens : (xs : List ℕ) → 1 < length xs → is_opening xs ≡ false
long_opens [] long = absurd (omega arith)
long_opens (x ∷ []) long = absurd (omega arith)
long_opens (x ∷ y ∷ zs) long = none_of_three (40 == x) (91 == x) (123 == x)

long_closes : (xs : List ℕ) → 1 < length xs → is_closing xs ≡ false
long_closes [] long = absurd (omega arith)
long_closes (x ∷ []) long = absurd (omega arith)
long_closes (x ∷ y ∷ zs) long = none_of_three (41 == x) (93 == x) (125 == x)

depth_with : (depth : ℕ) (xs : List ℕ) (opening closing : Bool) → is_opening xs ≡ opening → is_closing xs ≡ closing
    → (if is_opening xs then suc depth else (if is_closing xs then depth - 1 else depth)) ≡ (if opening then suc depth else (if closing then depth - 1 else depth))
depth_with depth xs opening closing opens closes =
    ap (λ b. if b then suc depth else (if is_closing xs then depth - 1 else depth)) opens ∙ ap (λ b. if opening then suc depth else (if b then depth - 1 else depth)) closes

-- behind a piece of more than one character no further bracket is open
pub depth_long : (cs : List ℕ) (depth from to : ℕ) → to ≤ length cs → 1 < to - from → (form : Form) → depth ≡ depth_behind cs depth (record { form = form; from = from; to = to })
depth_long cs depth from to within long form =
    let spelled = slice_range cs from to in
    let size : 1 < length spelled = omega (arith, length-take-le (to - from) (drop from cs) (omega (arith, length-drop from cs))) in
    sym (depth_with depth spelled false false (long_opens spelled size) (long_closes spelled size))

-- how many are open behind a piece of one character
depth_one : (cs : List ℕ) (depth from to code : ℕ) (opening closing : Bool) → from < to → to ≤ length cs → to - from ≤ 1 → code ≡ slice_index cs from
    → is_opening (code ∷ []) ≡ opening → is_closing (code ∷ []) ≡ closing
    → (form : Form) → depth_behind cs depth (record { form = form; from = from; to = to }) ≡ (if opening then suc depth else (if closing then depth - 1 else depth))
depth_one cs depth from to code opening closing forward within short read opens closes form =
    let spelled : slice_range cs from to ≡ code ∷ [] = one_spelled cs from to forward within short ∙ ap (λ c. c ∷ []) (sym read) in
    depth_with depth (slice_range cs from to) opening closing (ap is_opening spelled ∙ opens) (ap is_closing spelled ∙ closes)

pub depth_opened : (cs : List ℕ) (depth from to code : ℕ) → from < to → to ≤ length cs → to - from ≤ 1 → code ≡ slice_index cs from → is_opening (code ∷ []) ≡ true
    → (form : Form) → depth + 1 ≡ depth_behind cs depth (record { form = form; from = from; to = to })
depth_opened cs depth from to code forward within short read opens form =
    add-one depth ∙ sym (depth_one cs depth from to code true (is_closing (code ∷ [])) forward within short read opens refl form)

pub depth_closed : (cs : List ℕ) (depth from to code : ℕ) → from < to → to ≤ length cs → to - from ≤ 1 → code ≡ slice_index cs from
    → is_opening (code ∷ []) ≡ false → is_closing (code ∷ []) ≡ true → (form : Form) → depth - 1 ≡ depth_behind cs depth (record { form = form; from = from; to = to })
depth_closed cs depth from to code forward within short read opens closes form =
    sym (depth_one cs depth from to code false true forward within short read opens closes form)

pub depth_kept : (cs : List ℕ) (depth from to code : ℕ) → from < to → to ≤ length cs → to - from ≤ 1 → code ≡ slice_index cs from
    → is_opening (code ∷ []) ≡ false → is_closing (code ∷ []) ≡ false → (form : Form) → depth ≡ depth_behind cs depth (record { form = form; from = from; to = to })
depth_kept cs depth from to code forward within short read opens closes form =
    sym (depth_one cs depth from to code false false forward within short read opens closes form)

-- the levels that are open behind a line: those that are kept, and its own over 0
pub levels_with_own : (items kept old levels : List ℕ) (level : ℕ) → kept ≡ filter (λ l. nat_lt l level) old → old ≡ levels → 0 < level → items ≡ kept ++ level ∷ [] → items ≡ levels_behind levels level
levels_with_own items kept old levels level is_kept same deep pushed =
    pushed ∙ ap (λ xs. xs ++ level ∷ []) (is_kept ∙ ap (filter (λ l. nat_lt l level)) same)
    ∙ ap (λ b. filter (λ l. nat_lt l level) levels ++ (if b then level ∷ [] else [])) (sym (lt-ltb 0 level deep))

pub levels_without_own : (kept old levels : List ℕ) (level : ℕ) → kept ≡ filter (λ l. nat_lt l level) old → old ≡ levels → level ≤ 0 → kept ≡ levels_behind levels level
levels_without_own kept old levels level is_kept same flat =
    sym (append-nil kept) ∙ ap (λ xs. xs ++ []) (is_kept ∙ ap (filter (λ l. nat_lt l level)) same)
    ∙ ap (λ b. filter (λ l. nat_lt l level) levels ++ (if b then level ∷ [] else [])) (sym (le-ltb 0 level flat))

-- Whether the last character can't be read

pub cut_decides : (cs : List ℕ) (len code : ℕ) → len ≡ length cs → 0 < len → code ≡ slice_index cs (len - 1) → IsTrue (nat_eq code unreadable) ↔ IsCutShort cs
cut_decides cs len code e some is = (
  λ same. (subst (λ n. 0 < n) e some, at ∙ eqb-true code unreadable same),
  λ cut. eq-eqb code unreadable (sym at ∙ cut.1),
)
  where
    at : slice_index cs (length cs - 1) ≡ code
    at = ap (λ n. slice_index cs (n - 1)) (sym e) ∙ sym is

pub not_cut : (cs : List ℕ) (len : ℕ) → len ≡ length cs → len ≤ 0 → IsTrue (nat_lt 0 len) ↔ IsCutShort cs
not_cut cs len e none = (λ some. absurd (omega (arith, ltb-true 0 len some, none)), λ cut. absurd (omega (arith, cut.0, e, none)))

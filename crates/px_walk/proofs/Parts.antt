-- Elements of lists in pieces, and what a node shows of its parts.
use Rattle.std.proofs.Common.{◌≡◌, ℕ, ◌+◌, ◌-◌, ◌<◌, ◌≤◌, List, [], ◌∷◌, ◌++◌, length, zero, suc, Option, Some, None, map, refl, sym, ap, ◌∙◌, arith, length-append}
use Rattle.std.proofs.lemmas.List.{length-map}
use Rattle.std.specs.Prelude.{slice_get}
use Rattle.px_base.specs.declared.refusals.Span.{Span}
use Rattle.px_tree.specs.declared.expressions.ExprForm.{ExprForm}
use Rattle.px_tree.specs.declared.expressions.Trailer.{Trailer}
use Rattle.px_tree.specs.declared.expressions.Item.{Item}
use Rattle.px_tree.specs.declared.statements.StmtForm.{StmtForm}
use Rattle.px_walk.specs.Forms.{Form}
use Rattle.px_walk.specs.Roses.{Rose, listed, gathered}
use Rattle.px_walk.specs.ExprView.{Tree, if_written, count_written, expr_parts, trailer_parts, item_parts}
use Rattle.px_walk.specs.StmtView.{stmt_parts}

-- ---- elements

pub get-before : {A : Type 0} (xs ys : List A) (k : ℕ) → k < length xs → slice_get (xs ++ ys) k ≡ slice_get xs k
get-before [] ys k within = absurd (omega arith)
get-before (x ∷ xs) ys zero within = refl
get-before (x ∷ xs) ys (suc k) within = get-before xs ys k (omega arith)

pub get-behind : {A : Type 0} (xs ys : List A) (k j : ℕ) → k ≡ length xs + j → slice_get (xs ++ ys) k ≡ slice_get ys j
get-behind [] ys k j is = let same : k ≡ j = omega arith in ap (slice_get ys) same
get-behind (x ∷ xs) ys zero j is = absurd (omega arith)
get-behind (x ∷ xs) ys (suc k) j is = get-behind xs ys k j (omega arith)

pub get-first : {A : Type 0} (x : A) (xs : List A) (k : ℕ) → k ≡ 0 → slice_get (x ∷ xs) k ≡ Some x
get-first x xs zero is = refl
get-first x xs (suc k) is = absurd (omega arith)

pub get-later : {A : Type 0} (x : A) (xs : List A) (k j : ℕ) → k ≡ j + 1 → slice_get (x ∷ xs) k ≡ slice_get xs j
get-later x xs zero j is = absurd (omega arith)
get-later x xs (suc k) j is = let same : k ≡ j = omega arith in ap (slice_get xs) same

pub before-mapped : {A : Type 0} (view : A → Tree) (xs : List A) (ys : List Tree) (k : ℕ) → k < length xs → slice_get (map view xs ++ ys) k ≡ slice_get (map view xs) k
before-mapped view xs ys k within = let same = length-map xs view in get-before (map view xs) ys k (omega arith)

pub behind-mapped : {A : Type 0} (view : A → Tree) (xs : List A) (ys : List Tree) (k : ℕ) → length xs ≤ k → slice_get (map view xs ++ ys) k ≡ slice_get ys (k - length xs)
behind-mapped view xs ys k past = let same = length-map xs view in get-behind (map view xs) ys k (k - length xs) (omega arith)

-- ---- nodes

pub listed-gathered : {H : Type 0} (trees : List (Rose H)) → listed (gathered trees) ≡ trees
listed-gathered [] = refl
listed-gathered (tree ∷ trees) = ap (λ others. tree ∷ others) (listed-gathered trees)

-- a fact of what an expression is, seen at its form
pub at_expr : {X : Type 0} (F : Form × List Tree → X) {f g : ExprForm} {made : Form × List Tree} → f ≡ g → expr_parts g ≡ made → F made ≡ F (expr_parts f)
at_expr F is makes = sym (ap (λ (h : ExprForm). F (expr_parts h)) is ∙ ap F makes)

pub at_stmt : {X : Type 0} (F : Form × List Tree → X) {f g : StmtForm} {made : Form × List Tree} → f ≡ g → stmt_parts g ≡ made → F made ≡ F (stmt_parts f)
at_stmt F is makes = sym (ap (λ (h : StmtForm). F (stmt_parts h)) is ∙ ap F makes)

pub one_more : {m n : ℕ} → m ≡ n → 1 + m ≡ suc n
one_more is = omega arith

pub two_more : {m n : ℕ} → m ≡ n → 2 + m ≡ suc (suc n)
two_more is = omega arith

-- how many parts there are of one that may be left out
pub count-written : {A : Type 0} (view : A → Tree) (part : Option A) → length (if_written view part) ≡ count_written part
count-written view None = refl
count-written view (Some part) = refl

pub joined_lengths : {A : Type 0} {m n i j : ℕ} (xs ys : List A) → m ≡ i → n ≡ j → length xs ≡ i → length ys ≡ j → m + n ≡ length (xs ++ ys)
joined_lengths xs ys first second is also = let whole = length-append xs ys in omega arith

pub one_behind : {A : Type 0} {m i : ℕ} (xs : List A) (x : A) → m ≡ i → length xs ≡ i → m + 1 ≡ length (xs ++ x ∷ [])
one_behind xs x first is = let whole = length-append xs (x ∷ []) in omega arith

pub three_written : {A : Type 0} (view : A → Tree) (first second third : Option A)
    → count_written first + (count_written second + count_written third)
    ≡ length (if_written view first ++ (if_written view second ++ if_written view third))
three_written view first second third =
    let whole = length-append (if_written view first) (if_written view second ++ if_written view third) in
    let others = length-append (if_written view second) (if_written view third) in
    let a = count-written view first in
    let b = count-written view second in
    let c = count-written view third in
    omega arith

pub at_trailer : {X : Type 0} (F : Form × List Tree → X) (at : Span) {t u : Trailer} {made : Form × List Tree} → t ≡ u → trailer_parts u at ≡ made → F made ≡ F (trailer_parts t at)
at_trailer F at is makes = sym (ap (λ (h : Trailer). F (trailer_parts h at)) is ∙ ap F makes)

pub at_item : {X : Type 0} (F : Form × List Tree → X) {t u : Item} {made : Form × List Tree} → t ≡ u → item_parts u ≡ made → F made ≡ F (item_parts t)
at_item F is makes = sym (ap (λ (h : Item). F (item_parts h)) is ∙ ap F makes)

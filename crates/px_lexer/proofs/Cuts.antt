-- A text is cut into pieces, and into logical lines, in one way.
use Rattle.std.proofs.Common.{◌≡◌, ℕ, ◌-◌, ◌<◌, ◌≤◌, ◌⊎◌, inl, inr, List, [], ◌∷◌, ◌++◌, All, flat_map, drop, refl, sym, ap, subst, ◌∙◌, arith, append_assoc}
use Rattle.std.proofs.lemmas.Bool.{cases_order, cases_lt, false≢true}
use Rattle.std.proofs.lemmas.List.{append_cancel_left}
use Rattle.std.proofs.lemmas.List.Elements.{All-head, All-tail}
use Rattle.std.specs.Prelude.{IsTrue}
use Rattle.px_lexer.specs.declared.forms.Form.{Form}
use Rattle.px_lexer.specs.Pieces.{form_of, HasLength, Piece, IsPiece, AreBetween}
use Rattle.px_lexer.specs.Lines.{Line, IsLine, AreLines, GoesOn, pieces_of, has_content, start_of}
use Rattle.px_lexer.proofs.FormLemmas.{has_length_unique}

-- Pieces

abbrev piece : Form → ℕ → ℕ → Piece
piece form from to = record { form = form; from = from; to = to }

pub piece_unique : (cs : List ℕ) (p q : Piece) → IsPiece cs p → IsPiece cs q → p.from ≡ q.from → p ≡ q
piece_unique cs p q a b e =
    let form : p.form ≡ q.form = a.formed ∙ ap (λ i. form_of (drop i cs)) e ∙ sym b.formed in
    let there : HasLength p.form (drop q.from cs) (p.to - p.from) = subst (λ i. HasLength p.form (drop i cs) (p.to - p.from)) e a.whole in
    let whole : HasLength q.form (drop q.from cs) (p.to - p.from) = subst (λ f. HasLength f (drop q.from cs) (p.to - p.from)) form there in
    let long = has_length_unique q.form (drop q.from cs) (p.to - p.from) (q.to - q.from) whole b.whole in
    let to : p.to ≡ q.to = omega (arith, long, e, a.forward, b.forward) in
    ap (λ f. piece f p.from p.to) form ∙ ap (λ i. piece q.form i p.to) e ∙ ap (λ i. piece q.form q.from i) to

pub between_forward : (cs : List ℕ) (from to : ℕ) (ps : List Piece) → AreBetween cs from ps to → from ≤ to
between_forward cs from to [] a = omega (arith, a)
between_forward cs from to (p ∷ ps) a =
    let later = between_forward cs p.to to ps a.2 in
    omega (arith, later, a.0, a.1.forward)

pub between_append : (cs : List ℕ) (from mid to : ℕ) (ps qs : List Piece) → AreBetween cs from ps mid → AreBetween cs mid qs to → AreBetween cs from (ps ++ qs) to
between_append cs from mid to [] qs a b = rw a b
between_append cs from mid to (p ∷ ps) qs a b = (a.0, a.1, between_append cs p.to mid to ps qs a.2 b)

-- what follows the pieces of one cut in a cut that goes at least as far
pub record Follows (cs : List ℕ) (mid to : ℕ) (ps qs : List Piece) : Type 0 where
  pub more : List Piece
  pub all : qs ≡ ps ++ more
  pub reached : AreBetween cs mid more to

pub cuts_agree : (cs : List ℕ) (from mid to : ℕ) (ps qs : List Piece) → AreBetween cs from ps mid → AreBetween cs from qs to → mid ≤ to → Follows cs mid to ps qs
cuts_agree cs from mid to [] qs a b le = record { more = qs; all = refl; reached = rw (sym a) b }
cuts_agree cs from mid to (p ∷ ps) [] a b le = absurd (omega (arith, between_forward cs p.to mid ps a.2, a.0, a.1.forward, b, le))
cuts_agree cs from mid to (p ∷ ps) (q ∷ qs) a b le =
    let same : p ≡ q = piece_unique cs p q a.1 b.1 (a.0 ∙ sym b.0) in
    let there : AreBetween cs p.to qs to = subst (λ (r : Piece). AreBetween cs r.to qs to) (sym same) b.2 in
    let later = cuts_agree cs p.to mid to ps qs a.2 there le in
    record { more = later.more; all = ap (λ (r : Piece). r ∷ qs) (sym same) ∙ ap (λ rs. p ∷ rs) later.all; reached = later.reached }

-- a piece that begins before the end of a cut from its place ends by that end
pub ends_by : (cs : List ℕ) (p : Piece) (to : ℕ) (ps : List Piece) → IsPiece cs p → AreBetween cs p.from ps to → p.from < to → p.to ≤ to
ends_by cs p to [] is_p a lt = absurd (omega (arith, a, lt))
ends_by cs p to (q ∷ qs) is_p a lt =
    let same : q ≡ p = piece_unique cs q p a.1 is_p a.0 in
    subst (λ (r : Piece). r.to ≤ to) same (between_forward cs q.to to qs a.2)

-- a piece of the text ends by the place of another one, is that one, or begins behind it
pub piece_cases : (cs : List ℕ) (ps before : List Piece) (p q : Piece) → AreBetween cs 0 ps q.from → IsPiece cs q → AreBetween cs 0 before p.from → IsPiece cs p
    → (p.to ≤ q.from) ⊎ (p ≡ q) ⊎ (q.to ≤ p.from)
piece_cases cs ps before p q a is_q b is_p = elim (cases_order p.from q.from) [
  | inl same ↦ inr (inl (piece_unique cs p q is_p is_q same))
  | inr apart ↦ elim apart [
    | inl lt ↦ (let f = cuts_agree cs 0 p.from q.from before ps b a (omega (arith, lt)) in inl (ends_by cs p q.from f.more is_p f.reached lt))
    | inr gt ↦ (let f = cuts_agree cs 0 q.from p.from ps before a b (omega (arith, gt)) in inr (inr (ends_by cs q p.from f.more is_q f.reached gt)))
  ]
]

-- Lines

abbrev line_of : List Piece → Piece → Line
line_of ps ending = record { pieces = ps; ending = ending }

-- where each of two lists is cut at an element, the cuts are one, or one is in the front of the other
pub data SplitCases {A : Type 0} (xs ys : List A) (x y : A) (us vs : List A) : Type 0 where
  same : xs ≡ ys → x ≡ y → us ≡ vs → SplitCases xs ys x y us vs
  shorter : (ws : List A) → ys ≡ xs ++ x ∷ ws → SplitCases xs ys x y us vs
  longer : (ws : List A) → xs ≡ ys ++ y ∷ ws → SplitCases xs ys x y us vs

pub split_cases : {A : Type 0} (xs ys : List A) (x y : A) (us vs : List A) → xs ++ x ∷ us ≡ ys ++ y ∷ vs → SplitCases xs ys x y us vs
split_cases [] [] x y us vs e = same refl (let t : x ≡ y = cc in t) (let t : us ≡ vs = cc in t)
split_cases [] (b ∷ ys) x y us vs e = shorter ys (let t : b ∷ ys ≡ x ∷ ys = cc in t)
split_cases (a ∷ xs) [] x y us vs e = longer xs (let t : a ∷ xs ≡ y ∷ xs = cc in t)
split_cases {A} (a ∷ xs) (b ∷ ys) x y us vs e = by_tail (split_cases xs ys x y us vs (let t : xs ++ x ∷ us ≡ ys ++ y ∷ vs = cc in t))
  where
    by_tail : SplitCases xs ys x y us vs → SplitCases (a ∷ xs) (b ∷ ys) x y us vs
    by_tail (same p q r) = same (let t : a ∷ xs ≡ b ∷ ys = cc in t) q r
    by_tail (shorter ws p) = shorter ws (let t : b ∷ ys ≡ a ∷ xs ++ x ∷ ws = cc in t)
    by_tail (longer ws p) = longer ws (let t : a ∷ xs ≡ b ∷ ys ++ y ∷ ws = cc in t)

-- pieces that go on have no end of a line in them
pub no_end_inside : (cs : List ℕ) (line : Line) (ps more : List Piece) → IsLine cs line → GoesOn cs ps → ps ≡ line.pieces ++ line.ending ∷ more → ⊥
no_end_inside cs line ps more l g e = omega (arith, l.outside, g line.pieces more line.ending e l.ended)

-- the first lines of two cuts into lines are one
pub first_lines : (cs : List ℕ) (l m : Line) (us vs : List Piece) → IsLine cs l → IsLine cs m → l.pieces ++ l.ending ∷ us ≡ m.pieces ++ m.ending ∷ vs → (l ≡ m) × (us ≡ vs)
first_lines cs l m us vs a b e = by_cases (split_cases l.pieces m.pieces l.ending m.ending us vs e)
  where
    by_cases : SplitCases l.pieces m.pieces l.ending m.ending us vs → (l ≡ m) × (us ≡ vs)
    by_cases (same p q r) = (ap (λ ps. line_of ps l.ending) p ∙ ap (λ q. line_of m.pieces q) q, r)
    by_cases (shorter ws p) = absurd (no_end_inside cs l m.pieces ws a b.goes_on p)
    by_cases (longer ws p) = absurd (no_end_inside cs m l.pieces ws b a.goes_on p)

pub line_first : (l : Line) (ls : List Line) (ps : List Piece) → flat_map pieces_of (l ∷ ls) ++ ps ≡ l.pieces ++ l.ending ∷ (flat_map pieces_of ls ++ ps)
line_first l ls ps = append_assoc (pieces_of l) (flat_map pieces_of ls) ps ∙ append_assoc l.pieces (l.ending ∷ []) (flat_map pieces_of ls ++ ps)

-- what two cuts into lines have in common: all lines of the first are in the second, which goes on in the same line or has more lines
pub data LineCases (before lines : List Line) (pieces rest more : List Piece) : Type 0 where
  same_line : before ≡ lines → pieces ≡ rest ++ more → LineCases before lines pieces rest more
  later_line : (line : Line) (others : List Line) → before ≡ lines ++ line ∷ others → LineCases before lines pieces rest more

pub line_cases : (cs : List ℕ) (before lines : List Line) (pieces rest more : List Piece) → All (IsLine cs) before → All (IsLine cs) lines → GoesOn cs pieces
    → flat_map pieces_of before ++ pieces ≡ flat_map pieces_of lines ++ (rest ++ more) → LineCases before lines pieces rest more
line_cases cs [] [] pieces rest more a b g e = same_line refl e
line_cases cs (l ∷ ls) [] pieces rest more a b g e = later_line l ls refl
line_cases cs [] (m ∷ ms) pieces rest more a b g e =
    absurd (no_end_inside cs m pieces (flat_map pieces_of ms ++ (rest ++ more)) (All-head (IsLine cs) m ms b) g (e ∙ line_first m ms (rest ++ more)))
line_cases cs (l ∷ ls) (m ∷ ms) pieces rest more a b g e =
    let firsts = first_lines cs l m _ _ (All-head (IsLine cs) l ls a) (All-head (IsLine cs) m ms b) (sym (line_first l ls pieces) ∙ e ∙ line_first m ms (rest ++ more)) in
    by_tail firsts.0 (line_cases cs ls ms pieces rest more (All-tail (IsLine cs) l ls a) (All-tail (IsLine cs) m ms b) g firsts.1)
  where
    by_tail : l ≡ m → LineCases ls ms pieces rest more → LineCases (l ∷ ls) (m ∷ ms) pieces rest more
    by_tail q (same_line p r) = same_line (ap (λ ms. l ∷ ms) p ∙ ap (λ n. n ∷ ms) q) r
    by_tail q (later_line x xs p) = later_line x xs (ap (λ ms. l ∷ ms) p ∙ ap (λ n. n ∷ (ms ++ x ∷ xs)) q)

-- where a cut into two parts has its seam
pub record Seam (cs : List ℕ) (from to : ℕ) (ps qs : List Piece) : Type 0 where
  pub mid : ℕ
  pub front : AreBetween cs from ps mid
  pub back : AreBetween cs mid qs to

pub between_split : (cs : List ℕ) (from to : ℕ) (ps qs : List Piece) → AreBetween cs from (ps ++ qs) to → Seam cs from to ps qs
between_split cs from to [] qs a = record { mid = from; front = refl; back = a }
between_split cs from to (p ∷ ps) qs a =
    let s = between_split cs p.to to ps qs a.2 in
    record { mid = s.mid; front = (a.0, a.1, s.front); back = s.back }

pub all_mid : {A : Type 0} (P : A → Type 0) (xs : List A) (x : A) (ys : List A) → All P (xs ++ x ∷ ys) → P x
all_mid P [] x ys a = All-head P x ys a
all_mid P (z ∷ xs) x ys a = all_mid P xs x ys (All-tail P z (xs ++ x ∷ ys) a)

pub flat_append : (ls ms : List Line) → flat_map pieces_of (ls ++ ms) ≡ flat_map pieces_of ls ++ flat_map pieces_of ms
flat_append [] ms = refl
flat_append (l ∷ ls) ms = ap (λ ps. pieces_of l ++ ps) (flat_append ls ms) ∙ sym (append_assoc (pieces_of l) (flat_map pieces_of ls) (flat_map pieces_of ms))

pub start_at : (cs : List ℕ) (from to : ℕ) (ps : List Piece) → IsTrue (has_content ps) → AreBetween cs from ps to → start_of ps ≡ from
start_at cs from to [] t a = absurd (false≢true t)
start_at cs from to (p ∷ ps) t a = a.0

-- Where a line with content stands to the pieces that are read, and to the next one: it ends before that one, it is the line of
-- that one, or it begins behind that one.
pub data StandsTo (lines before : List Line) (rest pieces : List Piece) (q : Piece) (to : ℕ) : Type 0 where
  ends_before : to ≤ q.from → StandsTo lines before rest pieces q to
  has_it : (more : List Piece) → before ≡ lines → pieces ≡ rest ++ q ∷ more → StandsTo lines before rest pieces q to
  begins_behind : q.to ≤ start_of pieces → StandsTo lines before rest pieces q to

-- a cut that ends a further line goes over the next piece
past_line : (cs : List ℕ) (lines others : List Line) (l : Line) (rest : List Piece) (q : Piece) (to : ℕ) → AreLines cs lines rest q.from → IsPiece cs q → IsLine cs l
    → AreBetween cs 0 (flat_map pieces_of (lines ++ l ∷ others)) to → q.to ≤ to
past_line cs lines others l rest q to a is_q is_l b = elim (cases_lt q.from to) [
  | inl lt ↦ (let f = cuts_agree cs 0 q.from to (flat_map pieces_of lines ++ rest) (flat_map pieces_of (lines ++ l ∷ others)) a.pieces b (omega (arith, lt)) in ends_by cs q to f.more is_q f.reached lt)
  | inr le ↦ (
      let f = cuts_agree cs 0 to q.from (flat_map pieces_of (lines ++ l ∷ others)) (flat_map pieces_of lines ++ rest) b a.pieces le in
      let whole : flat_map pieces_of lines ++ rest ≡ flat_map pieces_of lines ++ (flat_map pieces_of (l ∷ others) ++ f.more) =
      f.all ∙ ap (λ ps. ps ++ f.more) (flat_append lines (l ∷ others)) ∙ append_assoc (flat_map pieces_of lines) (flat_map pieces_of (l ∷ others)) f.more in
      let inside = append_cancel_left (flat_map pieces_of lines) rest (flat_map pieces_of (l ∷ others) ++ f.more) whole ∙ line_first l others f.more in
      absurd (no_end_inside cs l rest (flat_map pieces_of others ++ f.more) is_l a.goes_on inside)
      )
]

pub stands_to : (cs : List ℕ) (lines before : List Line) (rest pieces : List Piece) (q : Piece) (to : ℕ) → AreLines cs lines rest q.from → IsPiece cs q → AreLines cs before pieces to
    → IsTrue (has_content pieces) → StandsTo lines before rest pieces q to
stands_to cs lines before rest pieces q to a is_q b content = elim (cases_lt q.from to) [
  | inl lt ↦ goes_over lt (cuts_agree cs 0 q.from to (flat_map pieces_of lines ++ rest) (flat_map pieces_of before ++ pieces) a.pieces b.pieces (omega (arith, lt)))
  | inr le ↦ ends_before le
]
  where
    later : (l : Line) (others : List Line) → before ≡ lines ++ l ∷ others → StandsTo lines before rest pieces q to
    later l others e =
        let s = between_split cs 0 to (flat_map pieces_of before) pieces b.pieces in
        let there = subst (λ ls. AreBetween cs 0 (flat_map pieces_of ls) s.mid) e s.front in
        let is_l = all_mid (IsLine cs) lines l others (subst (λ ls. All (IsLine cs) ls) e b.ended) in
        begins_behind (rw (start_at cs s.mid to pieces content s.back) (past_line cs lines others l rest q s.mid a is_q is_l there))

    by_lines : (more : List Piece) → LineCases before lines pieces rest (q ∷ more) → StandsTo lines before rest pieces q to
    by_lines more (same_line e p) = has_it more e p
    by_lines more (later_line l others e) = later l others e

    goes_over : q.from < to → Follows cs q.from to (flat_map pieces_of lines ++ rest) (flat_map pieces_of before ++ pieces) → StandsTo lines before rest pieces q to
    goes_over lt f = by_more lt f.more f.all f.reached
      where
        by_more : q.from < to → (more : List Piece) → flat_map pieces_of before ++ pieces ≡ (flat_map pieces_of lines ++ rest) ++ more → AreBetween cs q.from more to → StandsTo lines before rest pieces q to
        by_more lt [] e r = absurd (omega (arith, lt, r))
        by_more lt (p ∷ more) e r =
            let same : p ≡ q = piece_unique cs p q r.1 is_q r.0 in
            let whole = e ∙ append_assoc (flat_map pieces_of lines) rest (p ∷ more) ∙ ap (λ (x : Piece). flat_map pieces_of lines ++ (rest ++ x ∷ more)) same in
            by_lines more (line_cases cs before lines pieces rest (q ∷ more) b.ended a.ended b.goes_on whole)

-- A type has one tree and one nesting.
use Rattle.std.proofs.Common.{◌≡◌, ℕ, suc, ◌+◌, ◌≤◌, Bool, true, false, List, [], ◌∷◌, codes, All, Contains, refl, sym, ap, ap₂, ◌∙◌, subst, bytes_eq, not, ◌&&◌, if◌then◌else◌, arith}
use Rattle.std.proofs.lemmas.List.Elements.{All-contains, All-cons, All-nil}
use Rattle.std.proofs.lemmas.Bool.{false≢true}
use Rattle.px_base.specs.declared.refusals.Span.{Span}
use Rattle.px_tree.specs.declared.typings.Axis.{Axis}
use Rattle.px_tree.specs.declared.typings.BaseType.{BaseType}
use Rattle.px_tree.specs.declared.typings.BaseType.TheVariants as base
use Rattle.px_tree.specs.declared.typings.«Type».{«Type» as Typing}
use Rattle.px_lexer.specs.Terminals.{Terminal, IsName}
use Rattle.px_exprs.specs.Typings.{bases, AreNames, IsBase, IsAxis, AreAxes, HasAxes, HasConst, IsTyping}
use Rattle.px_exprs.specs.Codes.{code_at}
use Rattle.px_exprs.proofs.Codes.{code_here, name_code}
use Rattle.px_lexer.proofs.OneToken.{one_name, one_place}
use Rattle.px_exprs.proofs.Only.{Same}

-- Bases

-- identifiers from one index, behind each of which no identifier stands, are the same
pub names_unique : (ts : List Terminal) (i j k : ℕ) (words others : List (List ℕ)) → AreNames ts i words j → AreNames ts i others k → 3 ≤ code_at ts j → 3 ≤ code_at ts k → (words ≡ others) × (j ≡ k)
names_unique ts i j k [] [] a b s t = (refl, sym a ∙ b)
names_unique ts i j k [] (name ∷ others) a b s t = absurd (omega (arith, ap (code_at ts) a, name_code b.0, s))
names_unique ts i j k (name ∷ words) [] a b s t = absurd (omega (arith, ap (code_at ts) b, name_code a.0, t))
names_unique ts i j k (name ∷ words) (other ∷ others) a b s t =
    let later = names_unique ts (suc i) j k words others a.1 b.1 s t in
    (ap₂ (λ x xs. x ∷ xs) (one_name a.0 b.0) later.0, later.1)

-- whether two lists of words are the same
abbrev pub same_words : List (List ℕ) → List (List ℕ) → Bool
same_words [] [] = true
same_words [] (w ∷ ws) = false
same_words (v ∷ vs) [] = false
same_words (v ∷ vs) (w ∷ ws) = bytes_eq v w && same_words vs ws

-- the first base with these words
abbrev pub base_of : List (List (List ℕ) × BaseType) → List (List ℕ) → BaseType
base_of [] words = base.Object
base_of (row ∷ rows) words = if same_words row.0 words then row.1 else base_of rows words

-- there is a first word, which isn't `const`
abbrev pub begins_base : List (List ℕ) → Bool
begins_base [] = false
begins_base (w ∷ ws) = not (bytes_eq w (codes "const"))

abbrev pub Tells : List (List (List ℕ) × BaseType) → List (List ℕ) × BaseType → Type 0
Tells table row = (base_of table row.0 ≡ row.1) × (begins_base row.0 ≡ true)

abbrev Rows : List (List (List ℕ) × BaseType) → List (List (List ℕ) × BaseType) → Type 0
Rows table [] = Unit {0}
Rows table (row ∷ rows) = (base_of table row.0 ≡ row.1) × (begins_base row.0 ≡ true) × Rows table rows

each_row : (table rows : List (List (List ℕ) × BaseType)) → Rows table rows → All (Tells table) rows
each_row table [] r = All-nil (Tells table)
each_row table (row ∷ rows) r = All-cons (Tells table) row rows (r.0, r.1) (each_row table rows r.2)

all_rows : Rows bases bases
unfolding bases
all_rows = (refl, refl, (refl, refl, (refl, refl, (refl, refl, (refl, refl, (refl, refl, (refl, refl, (refl, refl, (refl, refl, (refl, refl, (refl, refl, (refl, refl, (refl, refl, (refl, refl, (refl, refl, (refl, refl, (refl, refl, (refl, refl, (refl, refl, (refl, refl, (refl, refl, (refl, refl, (refl, refl, (refl, refl, (refl, refl, (refl, refl, (refl, refl, (refl, refl, (refl, refl, (refl, refl, (refl, refl, (refl, refl, (refl, refl, (refl, refl, tt))))))))))))))))))))))))))))))))))

pub base_tells : (words : List (List ℕ)) (b : BaseType) → Contains bases (words, b) → Tells bases (words, b)
base_tells words b known = All-contains (Tells bases) bases (words, b) (each_row bases bases all_rows) known

pub base_unique : {ts : List Terminal} (i j k : ℕ) (b other : BaseType) → IsBase ts i b j → IsBase ts i other k → 3 ≤ code_at ts j → 3 ≤ code_at ts k → (b ≡ other) × (j ≡ k)
base_unique {ts} i j k b other g h s t =
    let same = names_unique ts i j k g.words h.words g.stand h.stand s t in
    (sym (base_tells g.words b g.known).0 ∙ ap (base_of bases) same.0 ∙ (base_tells h.words other h.known).0, same.1)

pub const_begins_none : {ts : List Terminal} {i : ℕ} (j : ℕ) (b : BaseType) → IsName ts i (codes "const") → IsBase ts i b j → ⊥
const_begins_none {ts} {i} j b c g = by_words g.words g.stand (base_tells g.words b g.known).1
  where
    by_words : (words : List (List ℕ)) → AreNames ts i words j → begins_base words ≡ true → ⊥
    by_words [] a e = false≢true e
    by_words (w ∷ ws) a e = false≢true (ap (λ x. not (bytes_eq x (codes "const"))) (one_name c a.0) ∙ e)

-- `const`

pub const_unique : {ts : List Terminal} (i j k : ℕ) (is_const other : Bool) → HasConst ts i is_const j → HasConst ts i other k → (l m : ℕ) (b c : BaseType) → IsBase ts j b l → IsBase ts k c m
    → (is_const ≡ other) × (j ≡ k)
const_unique {ts} i j k is_const other (HasConst.plain m e) (HasConst.plain n f) l o b c g h = (m ∙ sym n, e ∙ sym f)
const_unique {ts} i j k is_const other (HasConst.plain m e) (HasConst.const w n f) l o b c g h = absurd (const_begins_none l b w (subst (λ x. IsBase ts x b l) e g))
const_unique {ts} i j k is_const other (HasConst.const w m e) (HasConst.plain n f) l o b c g h = absurd (const_begins_none o c w (subst (λ x. IsBase ts x c o) f h))
const_unique {ts} i j k is_const other (HasConst.const w m e) (HasConst.const v n f) l o b c g h = (m ∙ sym n, e ∙ sym f)

-- Axes

-- behind an axis stands a comma or a bracket
pub axis_unique : {ts : List Terminal} (i j k : ℕ) (a b : Axis) → IsAxis ts i a j → IsAxis ts i b k → code_at ts j ≤ 30 → code_at ts k ≤ 30 → (a ≡ b) × (j ≡ k)
axis_unique i j k a b (IsAxis.strided c m e) (IsAxis.strided d n f) s t = (m ∙ sym n, e ∙ sym f)
axis_unique {ts} i j k a b (IsAxis.strided c m e) (IsAxis.contiguous one d second stands number spelled n f) s t =
    absurd (omega (arith, code_here second, ap (code_at ts) (let t : i + 1 ≡ j = omega (arith, e) in t), s))
axis_unique {ts} i j k a b (IsAxis.contiguous one d second stands number spelled m e) (IsAxis.strided c n f) s t =
    absurd (omega (arith, code_here second, ap (code_at ts) (let t : i + 1 ≡ k = omega (arith, f) in t), t))
axis_unique i j k a b (IsAxis.contiguous one d second stands number spelled m e) (IsAxis.contiguous uno c zwei stand numero spelt n f) s t = (m ∙ sym n, e ∙ sym f)

pub axes_unique : {ts : List Terminal} (i j : ℕ) (axes : List Axis) → AreAxes ts i axes j → (k : ℕ) (others : List Axis) → AreAxes ts i others k → code_at ts j ≡ 29 → code_at ts k ≡ 29 → (axes ≡ others) × (j ≡ k)
axes_unique {ts} i j _ (AreAxes.last_axis a) k _ (AreAxes.last_axis b) s t =
    let same = axis_unique i j k _ _ a b (omega (arith, s)) (omega (arith, t)) in
    (ap (λ x. x ∷ []) same.0, same.1)
axes_unique {ts} i j _ (AreAxes.last_axis a) k _ (AreAxes.more_axes b comma others) s t =
    let same = axis_unique i j _ _ _ a b (omega (arith, s)) (omega (arith, code_here comma)) in
    absurd (omega (arith, ap (code_at ts) same.1, code_here comma, s))
axes_unique {ts} i j _ (AreAxes.more_axes a comma more) k _ (AreAxes.last_axis b) s t =
    let same = axis_unique i _ k _ _ a b (omega (arith, code_here comma)) (omega (arith, t)) in
    absurd (omega (arith, ap (code_at ts) same.1, code_here comma, t))
axes_unique {ts} i j _ (AreAxes.more_axes {k = l} a comma more) k _ (AreAxes.more_axes {others = rest} b second others) s t =
    let same = axis_unique i _ _ _ _ a b (omega (arith, code_here comma)) (omega (arith, code_here second)) in
    let later = axes_unique (suc l) j _ more k rest (subst (λ x. AreAxes ts (suc x) rest k) (sym same.1) others) s t in
    (ap₂ (λ x xs. x ∷ xs) same.0 later.0, later.1)

pub view_begins : {ts : List Terminal} (i d j : ℕ) (axes : List Axis) → HasAxes ts i axes d j → 11 ≤ code_at ts j → 10 ≤ code_at ts i
view_begins {ts} i d j axes (HasAxes.no_view m p e) s = omega (arith, ap (code_at ts) e, s)
view_begins {ts} i d j axes (HasAxes.view k opened a closed p e) s = omega (arith, code_here opened)

pub view_unique : {ts : List Terminal} (i d c j k : ℕ) (axes others : List Axis) → HasAxes ts i axes d j → HasAxes ts i others c k → 11 ≤ code_at ts j → 11 ≤ code_at ts k → Same axes others d c j k
view_unique i d c j k axes others (HasAxes.no_view m p e) (HasAxes.no_view n q f) s t = record { tree = m ∙ sym n; depth = p ∙ sym q; end = e ∙ sym f }
view_unique {ts} i d c j k axes others (HasAxes.no_view m p e) (HasAxes.view l opened a closed q f) s t = absurd (omega (arith, ap (code_at ts) e, code_here opened, s))
view_unique {ts} i d c j k axes others (HasAxes.view l opened a closed p e) (HasAxes.no_view n q f) s t = absurd (omega (arith, ap (code_at ts) f, code_here opened, t))
view_unique {ts} i d c j k axes others (HasAxes.view l opened a closed p e) (HasAxes.view m first b last q f) s t =
    let same = axes_unique (suc i) l axes a m others b (code_here closed) (code_here last) in
    record { tree = same.0; depth = p ∙ sym q; end = e ∙ ap suc same.1 ∙ sym f }

-- Types

typing : ℕ → Span → Bool → BaseType → List Axis → Typing
typing number at is_const base axes = record { number = number; at = at; is_const = is_const; base = base; axes = axes }

-- behind a type stands no bracket and no identifier
pub typing_unique : {ts : List Terminal} {i d c j k : ℕ} {t u : Typing} → IsTyping ts i t d j → IsTyping ts i u c k → 11 ≤ code_at ts j → 11 ≤ code_at ts k → Same t u d c j k
unfolding typing
typing_unique {ts} {i} {d} {c} {j} {k} {t} {u} g h s r =
    let const = const_unique i g.base_from h.base_from t.is_const u.is_const g.const h.const g.axes_from h.axes_from t.base u.base g.base h.base in
    let there : IsBase ts h.base_from t.base g.axes_from = subst (λ x. IsBase ts x t.base g.axes_from) const.1 g.base in
    let left = view_begins g.axes_from d j t.axes g.axes s in
    let right = view_begins h.axes_from c k u.axes h.axes r in
    let base = base_unique h.base_from g.axes_from h.axes_from t.base u.base there h.base (omega (arith, left)) (omega (arith, right)) in
    let viewed : HasAxes ts h.axes_from t.axes d j = subst (λ x. HasAxes ts x t.axes d j) base.1 g.axes in
    let axes = view_unique h.axes_from d c j k t.axes u.axes viewed h.axes s r in
    record {
      tree =
          ap (λ x. typing x t.at t.is_const t.base t.axes) (g.number ∙ sym h.number)
          ∙ ap (λ x. typing u.number x t.is_const t.base t.axes) (one_place g.placed h.placed)
          ∙ ap (λ x. typing u.number u.at x t.base t.axes) const.0
          ∙ ap (λ x. typing u.number u.at u.is_const x t.axes) base.0
          ∙ ap (λ x. typing u.number u.at u.is_const u.base x) axes.tree;
      depth = axes.depth;
      end = axes.end;
    }

-- Which trees are targets, told by one level of the tree.
use Rattle.std.proofs.Common.{◌≡◌, ℕ, zero, suc, ◌+◌, ◌≤◌, ◌<◌, List, [], ◌∷◌, length, drop, slice_index_or, refl, sym, ap, subst, ◌∙◌, arith}
use Rattle.px_base.specs.declared.refusals.Span.{Span}
use Rattle.px_tree.specs.declared.expressions.Expr.{Expr}
use Rattle.px_tree.specs.declared.expressions.ExprForm.{ExprForm}
use Rattle.px_tree.specs.declared.expressions.ExprForm.TheOpen.{ExprForm-F}
use Rattle.px_tree.specs.declared.expressions.ExprForm.TheViews.{out-Expr, out-roll-Expr, roll-ExprForm, out-ExprForm, out-roll-ExprForm}
use Rattle.px_tree.specs.declared.expressions.ExprForm.TheVariants as form
use Rattle.px_tree.specs.declared.expressions.ExprForm.TheVariants.{rolls-Name, rolls-Tuple, rolls-Row}
use Rattle.px_tree.specs.declared.expressions.Entry.{Entry}
use Rattle.px_tree.specs.declared.expressions.Trailer.{Trailer}
use Rattle.px_tree.specs.declared.expressions.Argument.{Argument}
use Rattle.px_tree.specs.declared.expressions.Item.{Item}
use Rattle.px_tree.specs.declared.expressions.Link.{Link}
use Rattle.px_tree.specs.declared.expressions.Comparison.{Comparison}
use Rattle.px_exprs.specs.Grammar.{node}
use Rattle.px_parser.specs.StatementGrammar.{EndsWithSubscript}
use Rattle.px_parser.specs.Parts.{IsTargetTree, AreTargetTrees}

-- One level

abbrev pub Layer : Type 0
Layer = ExprForm-F ExprForm Item Trailer Argument Comparison Entry Expr Link

abbrev pub opened : Expr → Layer
opened e = out-ExprForm (out-Expr e).form

pub opens : (k : ℕ) (at : Span) (layer : Layer) {f : ExprForm} {e : Expr} → roll-ExprForm layer ≡ f → e ≡ node k at f → opened e ≡ layer
opens k at layer {f} rolls e =
    ap opened e ∙ ap (λ x. out-ExprForm x.form) (out-roll-Expr (record { number = k; at = at; form = f })) ∙ ap out-ExprForm (sym rolls) ∙ out-roll-ExprForm layer

-- a name, a row, a tuple, or none of these
abbrev pub sort_of : Layer → ℕ
sort_of (ExprForm-F.Name spelled) = 1
sort_of (ExprForm-F.Row atom trailers) = 2
sort_of (ExprForm-F.Tuple items) = 3
sort_of _ = 0

abbrev pub items_of : Layer → List Expr
items_of (ExprForm-F.Tuple items) = items
items_of _ = []

abbrev pub trailers_of : Layer → List Trailer
trailers_of (ExprForm-F.Row atom trailers) = trailers
trailers_of _ = []

-- what the level of a target is
abbrev pub TellsTarget : ℕ → Layer → Type 0
TellsTarget zero layer = ⊥
TellsTarget (suc zero) layer = Unit {0}
TellsTarget (suc (suc zero)) layer = EndsWithSubscript (trailers_of layer)
TellsTarget (suc (suc (suc n))) layer = AreTargetTrees (items_of layer) × (items_of layer ≡ [] → ⊥)

not_empty : (first : Expr) (others : List Expr) → first ∷ others ≡ [] → ⊥
not_empty first others e = cc

abbrev pub Tells : Expr → Type 0
Tells e = TellsTarget (sort_of (opened e)) (opened e)

pub tells : {e : Expr} → IsTargetTree e → Tells e
tells (IsTargetTree.name number at spelled e) = subst (λ layer. TellsTarget (sort_of layer) layer) (sym (opens number at (ExprForm-F.Name spelled) (rolls-Name spelled) e)) tt
tells (IsTargetTree.element number at atom trailers ends e) = subst (λ layer. TellsTarget (sort_of layer) layer) (sym (opens number at (ExprForm-F.Row atom trailers) (rolls-Row atom trailers) e)) ends
tells (IsTargetTree.tuple number at first others target targets e) =
    subst (λ layer. TellsTarget (sort_of layer) layer) (sym (opens number at (ExprForm-F.Tuple (first ∷ others)) (rolls-Tuple (first ∷ others)) e)) (AreTargetTrees.more target targets, not_empty first others)

-- by its form
pub target_told : (k : ℕ) (at : Span) (layer : Layer) {f : ExprForm} {e : Expr} → roll-ExprForm layer ≡ f → e ≡ node k at f → IsTargetTree e → TellsTarget (sort_of layer) layer
target_told k at layer rolls e target = subst (λ x. TellsTarget (sort_of x) x) (opens k at layer rolls e) (tells target)

-- A tree by the form of its node

pub of_form : (e : Expr) {f : ExprForm} → e.form ≡ f → e ≡ node e.number e.at f
of_form e is = ap (λ f. node e.number e.at f) is

pub row_target : {e : Expr} (atom : Expr) {trailers : List Trailer} → e.form ≡ form.Row atom trailers → EndsWithSubscript trailers → IsTargetTree e
row_target {e} atom {trailers} is ends = IsTargetTree.element e.number e.at atom trailers ends (of_form e is)

pub row_told : {e : Expr} (atom : Expr) {trailers : List Trailer} → e.form ≡ form.Row atom trailers → IsTargetTree e → EndsWithSubscript trailers
row_told {e} atom {trailers} is target = target_told e.number e.at (ExprForm-F.Row atom trailers) (rolls-Row atom trailers) (of_form e is) target

pub tuple_target : {e : Expr} (items : List Expr) → e.form ≡ form.Tuple items → (items ≡ [] → ⊥) → AreTargetTrees items → IsTargetTree e
tuple_target [] is some targets = absurd (some refl)
tuple_target {e} (first ∷ others) is some (AreTargetTrees.more target targets) = IsTargetTree.tuple e.number e.at first others target targets (of_form e is)

pub tuple_told : {e : Expr} {items : List Expr} → e.form ≡ form.Tuple items → IsTargetTree e → AreTargetTrees items
tuple_told {e} {items} is target = (target_told e.number e.at (ExprForm-F.Tuple items) (rolls-Tuple items) (of_form e is) target).0

-- Lists of targets, of which one is looked at

pub drop_first : (es : List Expr) (n : ℕ) (e : Expr) → n < length es → e ≡ slice_index_or es n e → drop n es ≡ e ∷ drop (n + 1) es
drop_first [] n e lt is = absurd (omega (arith, lt))
drop_first (f ∷ es) zero e lt is = ap (λ x. x ∷ es) (sym is)
drop_first (f ∷ es) (suc n) e lt is = drop_first es n e (omega (arith, lt)) is ∙ ap (λ m. e ∷ drop m (f ∷ es)) (let same : suc (n + 1) ≡ suc n + 1 = omega arith in same)

pub first_target : {e : Expr} {es : List Expr} → AreTargetTrees (e ∷ es) → IsTargetTree e × AreTargetTrees es
first_target (AreTargetTrees.more target targets) = (target, targets)

pub targets_there : {e : Expr} (es : List Expr) (n : ℕ) → n < length es → e ≡ slice_index_or es n e → AreTargetTrees (drop n es) → IsTargetTree e × AreTargetTrees (drop (n + 1) es)
targets_there {e} es n lt is targets = first_target (subst AreTargetTrees (drop_first es n e lt is) targets)

pub targets_before : {e : Expr} (es : List Expr) (n : ℕ) → n < length es → e ≡ slice_index_or es n e → IsTargetTree e → AreTargetTrees (drop (n + 1) es) → AreTargetTrees (drop n es)
targets_before {e} es n lt is target targets = subst AreTargetTrees (sym (drop_first es n e lt is)) (AreTargetTrees.more target targets)

pub targets_end : (es : List Expr) (n : ℕ) → length es ≤ n → AreTargetTrees (drop n es)
targets_end [] zero le = AreTargetTrees.none
targets_end [] (suc n) le = AreTargetTrees.none
targets_end (e ∷ es) zero le = absurd (omega (arith, le))
targets_end (e ∷ es) (suc n) le = targets_end es n (omega (arith, le))

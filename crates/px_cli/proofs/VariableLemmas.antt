-- The values of variables that are kept in a map.
use Rattle.std.proofs.Common.{◌≡◌, ◌⊎◌, inl, inr, ℕ, ℤ, List, Bool, true, false, not, Option, Some, None, Bor, nat_eq, ap, sym, ◌∙◌, subst, refl}
use Rattle.std.proofs.lemmas.Bool.{false≢true}
use Rattle.std.specs.Prelude.{is_some}
use Rattle.std.specs.Cmp.Lexicographic.{pointwise}
use Rattle.std.proofs.lemmas.Bool.Decides.{Decides-eqb}
use Rattle.std.proofs.lemmas.Slice.Eq.{slice_eq-Decides}
use Rattle.indexmap.specs.IndexMap.{IndexMap, get_by, Updates}
use Rattle.px_base.specs.declared.c_types.CType.TheVariants.{Long}
use Rattle.px_ctypes.specs.Types.{IsInRange}
use Rattle.px_cli.specs.FirstMeaning.{Values, Assigns}
use Rattle.px_cli.specs.KeptValues.{AreLongs}

pub equal : (xs ys : List ℕ) → pointwise nat_eq xs ys ≡ true → xs ≡ ys
equal xs ys = (slice_eq-Decides Decides-eqb xs ys (pointwise nat_eq xs ys) refl).0

unequal : (b : Bool) (xs ys : List ℕ) → b ≡ pointwise nat_eq xs ys → (xs ≡ ys → ⊥) → b ≡ false
unequal true xs ys is other = absurd (other (equal xs ys (sym is)))
unequal false xs ys is other = refl

-- what a map holds after one of its values is set
pub sets : {S : Type 0} (m n : IndexMap (Bor (List ℕ)) ℤ S) (name : Bor (List ℕ)) (value : ℤ) → Updates (λ a b. pointwise nat_eq a.now b.now) m n name (Some value) →
    Assigns (λ x. get_by (λ kept. pointwise nat_eq x kept.now) m) name.now value (λ x. get_by (λ kept. pointwise nat_eq x kept.now) n)
sets m n name value updates = record {
  there = updates.1;
  others = λ other ne. updates.2 (record { ref_ptr = name.ref_ptr; now = other }) (unequal (pointwise nat_eq name.now other) name.now other refl (λ e. ne (sym e)));
}

-- where each value is a `long`, and another is set
pub longs_after : {before after : Values} {name : List ℕ} {value : ℤ} → AreLongs before → IsInRange Long value → Assigns before name value after → AreLongs after
longs_after {before} {after} {name} {value} longs long sets other v is =
    let b = pointwise nat_eq name other in
    elim (either b name other refl) [
      | inl same ↦ (let given : Some value ≡ Some v = sym sets.there ∙ ap after same ∙ is in let e : value ≡ v = cc in subst (IsInRange Long) e long)
      | inr ne ↦ longs other v (sym (sets.others other (λ e. ne (sym e))) ∙ is)
    ]
  where
    either : (b : Bool) (xs ys : List ℕ) → b ≡ pointwise nat_eq xs ys → (xs ≡ ys) ⊎ (xs ≡ ys → ⊥)
    either true xs ys is = inl (equal xs ys (sym is))
    either false xs ys is = inr (λ e. false≢true (is ∙ (slice_eq-Decides Decides-eqb xs ys (pointwise nat_eq xs ys) refl).1 e))

-- a value that is there
pub some_there : (found : Option ℤ) (r : Bool) → is_some found ≡ not r → r ≡ false → (v : ℤ) × (found ≡ Some v)
some_there None true is there = absurd (false≢true (sym there))
some_there None false is there = absurd (false≢true is)
some_there (Some v) r is there = (v, refl)

-- Sums, products and atoms: each has one value at most, and is told by one level of its tree.
use Rattle.std.proofs.Common.{◌≡◌, ℕ, zero, suc, ◌+◌, ◌<◌, ◌≤◌, ◌⊎◌, inl, inr, MatchOption, ◌↔◌, IsTrue, Bool, ℤ, ◌+ℤ◌, ◌-ℤ◌, ◌*ℤ◌, List, [], ◌∷◌, length, drop, slice_index_or, Option, Some, None, refl, sym, ap, ◌∙◌, subst, arith}
use Rattle.std.specs.Prelude.{slice_get}
use Rattle.px_base.specs.declared.c_types.BinOp.TheVariants.{Add, Sub, Mul}
use Rattle.px_base.specs.declared.c_types.CType.TheVariants.{Long}
use Rattle.px_ctypes.specs.Types.{IsInRange}
use Rattle.px_ctypes.specs.Wrapping.{wrap}
use Rattle.px_ctypes.proofs.WrapLaws.{wrap-in_range}
use Rattle.px_tree.specs.declared.expressions.Expr.{Expr}
use Rattle.px_tree.specs.declared.expressions.ExprForm.{ExprForm}
use Rattle.px_tree.specs.declared.expressions.ExprForm.TheOpen.{ExprForm-F}
use Rattle.px_tree.specs.declared.expressions.ExprForm.TheViews.{roll-ExprForm, out-ExprForm, out-roll-ExprForm}
use Rattle.px_tree.specs.declared.expressions.ExprForm.TheVariants as form
use Rattle.px_tree.specs.declared.expressions.ExprForm.TheVariants.{rolls-Name, rolls-Number, rolls-Row, rolls-Chain}
use Rattle.px_tree.specs.declared.expressions.Entry.{Entry}
use Rattle.px_tree.specs.declared.expressions.Trailer.{Trailer}
use Rattle.px_tree.specs.declared.expressions.Argument.{Argument}
use Rattle.px_tree.specs.declared.expressions.Item.{Item}
use Rattle.px_tree.specs.declared.expressions.Link.{Link}
use Rattle.px_tree.specs.declared.expressions.Comparison.{Comparison}
use Rattle.px_cli.specs.FirstMeaning.{Values, AtomIs, FactorsGive, ProductIs, TermsGive, SumIs}
use Rattle.px_cli.specs.KeptValues.{AreLongs, BeginsWithTerm, IsTerm}

-- One level

abbrev pub Layer : Type 0
Layer = ExprForm-F ExprForm Item Trailer Argument Comparison Entry Expr Link

pub opens : (layer : Layer) {f g : ExprForm} → roll-ExprForm layer ≡ f → g ≡ f → out-ExprForm g ≡ layer
opens layer rolls is = ap out-ExprForm (is ∙ sym rolls) ∙ out-roll-ExprForm layer

pub is_name : (name : List ℕ) {f : ExprForm} → f ≡ form.Name name → out-ExprForm f ≡ ExprForm-F.Name name
is_name name is = opens (ExprForm-F.Name name) (rolls-Name name) is

pub is_number : (n : ℤ) {f : ExprForm} → f ≡ form.Number n → out-ExprForm f ≡ ExprForm-F.Number n
is_number n is = opens (ExprForm-F.Number n) (rolls-Number n) is

pub is_row : (atom : Expr) (trailers : List Trailer) {f : ExprForm} → f ≡ form.Row atom trailers → out-ExprForm f ≡ ExprForm-F.Row atom trailers
is_row atom trailers is = opens (ExprForm-F.Row atom trailers) (rolls-Row atom trailers) is

pub is_chain : (first : Expr) (links : List Link) {f : ExprForm} → f ≡ form.Chain first links → out-ExprForm f ≡ ExprForm-F.Chain first links
is_chain first links is = opens (ExprForm-F.Chain first links) (rolls-Chain first links) is

-- Atoms

pub same_name : {n m : List ℕ} {f : ExprForm} → f ≡ form.Name n → f ≡ form.Name m → n ≡ m
same_name {n} {m} f g = let e : ExprForm-F.Name n ≡ ExprForm-F.Name m = sym (is_name n f) ∙ is_name m g in cc

same_number : {n m : ℤ} {f : ExprForm} → f ≡ form.Number n → f ≡ form.Number m → n ≡ m
same_number {n} {m} f g = let e : ExprForm-F.Number n ≡ ExprForm-F.Number m = sym (is_number n f) ∙ is_number m g in cc

name_or_number : {n : List ℕ} {m : ℤ} {f : ExprForm} → f ≡ form.Name n → f ≡ form.Number m → ⊥
name_or_number {n} {m} f g = let e : ExprForm-F.Name n ≡ ExprForm-F.Number m = sym (is_name n f) ∙ is_number m g in absurd cc

pub name_or_chain : {n : List ℕ} (first : Expr) (links : List Link) {f : ExprForm} → f ≡ form.Name n → f ≡ form.Chain first links → ⊥
name_or_chain {n} first links f g = let e : ExprForm-F.Name n ≡ ExprForm-F.Chain first links = sym (is_name n f) ∙ is_chain first links g in absurd cc

pub number_or_chain : {n : ℤ} (first : Expr) (links : List Link) {f : ExprForm} → f ≡ form.Number n → f ≡ form.Chain first links → ⊥
number_or_chain {n} first links f g = let e : ExprForm-F.Number n ≡ ExprForm-F.Chain first links = sym (is_number n f) ∙ is_chain first links g in absurd cc

pub same_chain : {first other : Expr} {links others : List Link} {f : ExprForm} → f ≡ form.Chain first links → f ≡ form.Chain other others → (first ≡ other) × (links ≡ others)
same_chain {first} {other} {links} {others} f g =
    let e : ExprForm-F.Chain first links ≡ ExprForm-F.Chain other others = sym (is_chain first links f) ∙ is_chain other others g in
    let a : first ≡ other = cc in
    let b : links ≡ others = cc in
    (a, b)

some_value : {v w : ℤ} → Some v ≡ Some w → v ≡ w
some_value e = cc

pub atom_unique : {values : Values} {e : Expr} {v w : ℤ} → AtomIs values e v → AtomIs values e w → v ≡ w
atom_unique {values} (AtomIs.variable n f g) (AtomIs.variable m h k) = some_value (sym g ∙ ap values (same_name f h) ∙ k)
atom_unique (AtomIs.variable n f g) (AtomIs.number h k) = absurd (name_or_number f h)
atom_unique (AtomIs.number f g) (AtomIs.variable m h k) = absurd (name_or_number h f)
atom_unique (AtomIs.number f g) (AtomIs.number h k) = same_number f h

pub atom_long : {values : Values} {e : Expr} {v : ℤ} → AreLongs values → AtomIs values e v → IsInRange Long v
atom_long longs (AtomIs.variable n f g) = longs n _ g
atom_long longs (AtomIs.number f g) = g

pub no_chain : {values : Values} {e : Expr} {v : ℤ} (first : Expr) (links : List Link) → AtomIs values e v → e.form ≡ form.Chain first links → ⊥
no_chain first links (AtomIs.variable n f g) is = name_or_chain first links f is
no_chain first links (AtomIs.number f g) is = number_or_chain first links f is

pub name_value : {values : Values} {e : Expr} {v : ℤ} {name : List ℕ} → AtomIs values e v → e.form ≡ form.Name name → values name ≡ Some v
name_value {values} (AtomIs.variable n f g) is = ap values (same_name is f) ∙ g
name_value (AtomIs.number f g) is = absurd (name_or_number is f)

pub number_long : {values : Values} {e : Expr} {v n : ℤ} → AtomIs values e v → e.form ≡ form.Number n → IsInRange Long n
number_long (AtomIs.variable m f g) is = absurd (name_or_number f is)
number_long (AtomIs.number f g) is = subst (IsInRange Long) (same_number f is) g

-- Products

-- a list of which one is looked at
pub drop_first : {A : Type 0} (xs : List A) (n : ℕ) (x : A) → n < length xs → x ≡ slice_index_or xs n x → drop n xs ≡ x ∷ drop (n + 1) xs
drop_first [] n x lt is = absurd (omega (arith, lt))
drop_first (y ∷ xs) zero x lt is = ap (λ z. z ∷ xs) (sym is)
drop_first (y ∷ xs) (suc n) x lt is = drop_first xs n x (omega (arith, lt)) is ∙ ap (λ m. x ∷ drop m (y ∷ xs)) (let same : suc (n + 1) ≡ suc n + 1 = omega arith in same)

pub drop_all : {A : Type 0} (xs : List A) (n : ℕ) → length xs ≤ n → drop n xs ≡ []
drop_all [] zero le = refl
drop_all [] (suc n) le = refl
drop_all (x ∷ xs) zero le = absurd (omega (arith, le))
drop_all (x ∷ xs) (suc n) le = drop_all xs n (omega (arith, le))

factors_unique : {values : Values} {product v w : ℤ} {links : List Link} → FactorsGive values product links v → FactorsGive values product links w → v ≡ w
factors_unique FactorsGive.none FactorsGive.none = refl
factors_unique {values} {product} {w = w} {links = link ∷ links} (FactorsGive.times f a rest) (FactorsGive.times g b others) =
    factors_unique rest (subst (λ x. FactorsGive values (wrap Long (product *ℤ x)) links w) (sym (atom_unique a b)) others)

-- what the factors behind a place give, and what all of them give
pub record FactorsFrom (values : Values) (first : ℤ) (links : List Link) (n : ℕ) (product : ℤ) : Type 0 where
  pub back : (whole : ℤ) → FactorsGive values product (drop n links) whole → FactorsGive values first links whole
  pub on : (whole : ℤ) → FactorsGive values first links whole → FactorsGive values product (drop n links) whole
  pub long : IsInRange Long product

pub factors_begin : (values : Values) (first : ℤ) (links : List Link) → IsInRange Long first → FactorsFrom values first links 0 first
factors_begin values first links long = record { back = λ whole h. h; on = λ whole h. h; long = long }

-- one factor, that is there
pub record OneFactor (values : Values) (product : ℤ) (link : Link) (links : List Link) (whole : ℤ) : Type 0 where
  pub op : link.op ≡ Mul
  pub value : ℤ
  pub is : AtomIs values link.operand value
  pub rest : FactorsGive values (wrap Long (product *ℤ value)) links whole

one_factor : {values : Values} {product whole : ℤ} {link : Link} {links : List Link} → FactorsGive values product (link ∷ links) whole → OneFactor values product link links whole
one_factor (FactorsGive.times op is rest) = record { op = op; value = _; is = is; rest = rest }

pub next_factor : {values : Values} {first product whole : ℤ} (links : List Link) (n : ℕ) (link : Link) → n < length links → link ≡ slice_index_or links n link → FactorsFrom values first links n product → FactorsGive values first links whole
    → OneFactor values product link (drop (n + 1) links) whole
next_factor {values} {first} {product} {whole} links n link lt is from h = one_factor (subst (λ xs. FactorsGive values product xs whole) (drop_first links n link lt is) (from.on whole h))

pub factors_on : {values : Values} {first product value next : ℤ} (links : List Link) (n : ℕ) (link : Link) → n < length links → link ≡ slice_index_or links n link → link.op ≡ Mul → AtomIs values link.operand value
    → next ≡ wrap Long (product *ℤ value) → FactorsFrom values first links n product → FactorsFrom values first links (n + 1) next
factors_on {values} {first} {product} {value} {next} links n link lt is op atom e from = record {
  back = λ whole h. from.back whole (subst (λ xs. FactorsGive values product xs whole) (sym (drop_first links n link lt is)) (FactorsGive.times op atom (subst (λ x. FactorsGive values x (drop (n + 1) links) whole) e h)));
  on = λ whole h.
      let one = next_factor links n link lt is from h in
      subst (λ x. FactorsGive values x (drop (n + 1) links) whole) (sym (e ∙ ap (λ v. wrap Long (product *ℤ v)) (atom_unique atom one.is))) one.rest;
  long = subst (IsInRange Long) (sym e) (wrap-in_range Long (product *ℤ value));
}

pub factors_end : {values : Values} {first product : ℤ} (links : List Link) (n : ℕ) → length links ≤ n → FactorsFrom values first links n product → FactorsGive values first links product
factors_end {values} {first} {product} links n le from = from.back product (subst (λ xs. FactorsGive values product xs product) (sym (drop_all links n le)) FactorsGive.none)

-- a chain of factors

pub record IsProductChain (values : Values) (first : Expr) (links : List Link) (value : ℤ) : Type 0 where
  pub begun : ℤ
  pub atom : AtomIs values first begun
  pub factors : FactorsGive values begun links value

pub product_of_atom : {values : Values} {e : Expr} {v : ℤ} → ((first : Expr) (links : List Link) → e.form ≡ form.Chain first links → ⊥) → ProductIs values e v → AtomIs values e v
product_of_atom none (ProductIs.atom h) = h
product_of_atom none (ProductIs.chain first link links begun is atom factors) = absurd (none first (link ∷ links) is)

pub product_chain : {values : Values} {e : Expr} {v : ℤ} {first : Expr} {links : List Link} → e.form ≡ form.Chain first links → ProductIs values e v → IsProductChain values first links v × (links ≡ [] → ⊥)
product_chain {first = first} {links = links} is (ProductIs.atom h) = absurd (no_chain first links h is)
product_chain {values} {e} {v} {first} {links} is (ProductIs.chain other link others begun same atom factors) =
    let p = same_chain is same in (
      record { begun = begun; atom = subst (λ x. AtomIs values x begun) (sym p.0) atom; factors = subst (λ xs. FactorsGive values begun xs v) (sym p.1) factors },
      λ none. let e : link ∷ others ≡ [] = sym p.1 ∙ none in absurd cc,
    )

pub product_made : {values : Values} {e : Expr} {v begun : ℤ} {first : Expr} (links : List Link) → e.form ≡ form.Chain first links → (links ≡ [] → ⊥) → AtomIs values first begun → FactorsGive values begun links v → ProductIs values e v
product_made [] is some atom factors = absurd (some refl)
product_made {begun = begun} {first = first} (link ∷ links) is some atom factors = ProductIs.chain first link links begun is atom factors

chains_unique : {values : Values} {first : Expr} {links : List Link} {v w : ℤ} → IsProductChain values first links v → IsProductChain values first links w → v ≡ w
chains_unique {values} {first} {links} {v} {w} a b = factors_unique a.factors (subst (λ x. FactorsGive values x links w) (sym (atom_unique a.atom b.atom)) b.factors)

pub product_unique : {values : Values} {e : Expr} {v w : ℤ} → ProductIs values e v → ProductIs values e w → v ≡ w
product_unique (ProductIs.atom f) (ProductIs.atom g) = atom_unique f g
product_unique (ProductIs.atom f) (ProductIs.chain first link links begun is atom factors) = absurd (no_chain first (link ∷ links) f is)
product_unique (ProductIs.chain first link links begun is atom factors) other = chains_unique (record { begun = begun; atom = atom; factors = factors }) (product_chain is other).0

-- Sums

pub record TermsFrom (values : Values) (first : ℤ) (links : List Link) (n : ℕ) (sum : ℤ) : Type 0 where
  pub back : (whole : ℤ) → TermsGive values sum (drop n links) whole → TermsGive values first links whole
  pub on : (whole : ℤ) → TermsGive values first links whole → TermsGive values sum (drop n links) whole
  pub long : IsInRange Long sum

pub terms_begin : (values : Values) (first : ℤ) (links : List Link) → IsInRange Long first → TermsFrom values first links 0 first
terms_begin values first links long = record { back = λ whole h. h; on = λ whole h. h; long = long }

-- what one more product makes of a sum
abbrev pub Totals : Link → ℤ → ℤ → ℤ → Type 0
Totals link sum value next = ((link.op ≡ Add) × (next ≡ wrap Long (sum +ℤ value))) ⊎ ((link.op ≡ Sub) × (next ≡ wrap Long (sum -ℤ value)))

pub record OneTerm (values : Values) (sum : ℤ) (link : Link) (links : List Link) (whole : ℤ) : Type 0 where
  pub value : ℤ
  pub next : ℤ
  pub is : ProductIs values link.operand value
  pub totals : Totals link sum value next
  pub rest : TermsGive values next links whole

one_term : {values : Values} {sum whole : ℤ} {link : Link} {links : List Link} → TermsGive values sum (link ∷ links) whole → OneTerm values sum link links whole
one_term (TermsGive.plus op is rest) = record { value = _; next = _; is = is; totals = inl (op, refl); rest = rest }
one_term (TermsGive.minus op is rest) = record { value = _; next = _; is = is; totals = inr (op, refl); rest = rest }

pub next_term : {values : Values} {first sum whole : ℤ} (links : List Link) (n : ℕ) (link : Link) → n < length links → link ≡ slice_index_or links n link → TermsFrom values first links n sum → TermsGive values first links whole
    → OneTerm values sum link (drop (n + 1) links) whole
next_term {values} {first} {sum} {whole} links n link lt is from h = one_term (subst (λ xs. TermsGive values sum xs whole) (drop_first links n link lt is) (from.on whole h))

not_both_signs : (link : Link) → link.op ≡ Add → link.op ≡ Sub → ⊥
not_both_signs link f g = let e : Add ≡ Sub = sym f ∙ g in absurd cc

same_total : (link : Link) (sum value : ℤ) {next other : ℤ} → Totals link sum value next → Totals link sum value other → next ≡ other
same_total link sum value (inl f) (inl g) = f.1 ∙ sym g.1
same_total link sum value (inl f) (inr g) = absurd (not_both_signs link f.0 g.0)
same_total link sum value (inr f) (inl g) = absurd (not_both_signs link g.0 f.0)
same_total link sum value (inr f) (inr g) = f.1 ∙ sym g.1

total_long : (link : Link) (sum value : ℤ) {next : ℤ} → Totals link sum value next → IsInRange Long next
total_long link sum value (inl f) = subst (IsInRange Long) (sym f.1) (wrap-in_range Long (sum +ℤ value))
total_long link sum value (inr f) = subst (IsInRange Long) (sym f.1) (wrap-in_range Long (sum -ℤ value))

with_term : {values : Values} {value next whole : ℤ} (sum : ℤ) (link : Link) {links : List Link} → Totals link sum value next → ProductIs values link.operand value → TermsGive values next links whole → TermsGive values sum (link ∷ links) whole
with_term {values} {whole = whole} sum link {links} (inl f) is rest = TermsGive.plus f.0 is (subst (λ x. TermsGive values x links whole) f.1 rest)
with_term {values} {whole = whole} sum link {links} (inr f) is rest = TermsGive.minus f.0 is (subst (λ x. TermsGive values x links whole) f.1 rest)

pub terms_on : {values : Values} {first sum value next : ℤ} (links : List Link) (n : ℕ) (link : Link) → n < length links → link ≡ slice_index_or links n link → ProductIs values link.operand value → Totals link sum value next
    → TermsFrom values first links n sum → TermsFrom values first links (n + 1) next
terms_on {values} {first} {sum} {value} {next} links n link lt is product totals from = record {
  back = λ whole h. from.back whole (subst (λ xs. TermsGive values sum xs whole) (sym (drop_first links n link lt is)) (with_term sum link totals product h));
  on = λ whole h.
      let one = next_term links n link lt is from h in
      let again : Totals link sum value one.next = subst (λ v. Totals link sum v one.next) (product_unique one.is product) one.totals in
      subst (λ x. TermsGive values x (drop (n + 1) links) whole) (same_total link sum value again totals) one.rest;
  long = total_long link sum value totals;
}

pub terms_end : {values : Values} {first sum : ℤ} (links : List Link) (n : ℕ) → length links ≤ n → TermsFrom values first links n sum → TermsGive values first links sum
terms_end {values} {first} {sum} links n le from = from.back sum (subst (λ xs. TermsGive values sum xs sum) (sym (drop_all links n le)) TermsGive.none)

-- where a chain begins with a sign of a sum it is none of factors
no_factors : {values : Values} {first : Expr} {links : List Link} {v : ℤ} → BeginsWithTerm links → IsProductChain values first links v → ⊥
no_factors {values} {first} {links} {v} begins chain =
    let one = one_factor (subst (λ xs. FactorsGive values chain.begun xs v) begins.are chain.factors) in
    elim (begins.term) [
      | inl f ↦ (let e : Add ≡ Mul = sym f ∙ one.op in absurd cc)
      | inr f ↦ (let e : Sub ≡ Mul = sym f ∙ one.op in absurd cc)
    ]

term_begins : {values : Values} {sum v : ℤ} (link : Link) (links : List Link) → TermsGive values sum (link ∷ links) v → BeginsWithTerm (link ∷ links)
term_begins link links h = record { link = link; others = links; are = refl; term = elim ((one_term h).totals) [ inl f ↦ inl f.0 | inr f ↦ inr f.0 ] }

pub record IsSumChain (values : Values) (first : Expr) (links : List Link) (value : ℤ) : Type 0 where
  pub begun : ℤ
  pub is : ProductIs values first begun
  pub terms : TermsGive values begun links value

-- it is a chain of terms, or a product
pub sum_chain : {values : Values} {e : Expr} {v : ℤ} {first : Expr} {links : List Link} → e.form ≡ form.Chain first links → BeginsWithTerm links → SumIs values e v → IsSumChain values first links v
sum_chain is begins (SumIs.product h) = absurd (no_factors begins (product_chain is h).0)
sum_chain {values} {e} {v} {first} {links} is begins (SumIs.chain other link others begun same product terms) =
    let p = same_chain is same in
    record { begun = begun; is = subst (λ x. ProductIs values x begun) (sym p.0) product; terms = subst (λ xs. TermsGive values begun xs v) (sym p.1) terms }

pub sum_made : {values : Values} {e : Expr} {v begun : ℤ} {first : Expr} {links : List Link} → e.form ≡ form.Chain first links → BeginsWithTerm links → ProductIs values first begun → TermsGive values begun links v → SumIs values e v
sum_made {values} {e} {v} {begun} {first} {links} is begins product terms =
    SumIs.chain first begins.link begins.others begun (is ∙ ap (λ xs. form.Chain first xs) begins.are) product (subst (λ xs. TermsGive values begun xs v) begins.are terms)

pub sum_of_product : {values : Values} {e : Expr} {v : ℤ} → ((first : Expr) (links : List Link) → e.form ≡ form.Chain first links → BeginsWithTerm links → ⊥) → SumIs values e v → ProductIs values e v
sum_of_product none (SumIs.product h) = h
sum_of_product none (SumIs.chain first link links begun is product terms) = absurd (none first (link ∷ links) is (term_begins link links terms))

-- What the reader of an atom answers at a name
pub name_told : (values : Values) (e : Expr) (name : List ℕ) (result : Option ℤ) → e.form ≡ form.Name name → result ≡ values name → MatchOption result ((v : ℤ) → AtomIs values e v → ⊥) (AtomIs values e)
name_told values e name None is r = λ v h. let none : None ≡ Some v = r ∙ name_value h is in absurd cc
name_told values e name (Some w) is r = AtomIs.variable name is (sym r)

-- What the readers of products and sums answer, from what their parts answer

-- nothing has this form, or the value that is found has it
abbrev pub Tells : (ℤ → Type 0) → Option ℤ → Type 0
Tells P result = MatchOption result ((v : ℤ) → P v → ⊥) P

pub product_told : (values : Values) (e : Expr) (result : Option ℤ) → ((first : Expr) (links : List Link) → e.form ≡ form.Chain first links → ⊥) → Tells (AtomIs values e) result → Tells (ProductIs values e) result
product_told values e None none h = λ v p. h v (product_of_atom none p)
product_told values e (Some w) none h = ProductIs.atom h

pub factors_told : (values : Values) (e first : Expr) (begun : ℤ) (links : List Link) (result : Option ℤ) → e.form ≡ form.Chain first links → (links ≡ [] → ⊥) → AtomIs values first begun → Tells (FactorsGive values begun links) result → Tells (ProductIs values e) result
factors_told values e first begun links None is some atom h = λ v p.
    let chain = (product_chain {first = first} {links = links} is p).0 in
    h v (subst (λ x. FactorsGive values x links v) (atom_unique chain.atom atom) chain.factors)
factors_told values e first begun links (Some w) is some atom h = product_made links is some atom h

pub sum_told : (values : Values) (e : Expr) (result : Option ℤ) → ((first : Expr) (links : List Link) → e.form ≡ form.Chain first links → BeginsWithTerm links → ⊥) → Tells (ProductIs values e) result → Tells (SumIs values e) result
sum_told values e None none h = λ v p. h v (sum_of_product none p)
sum_told values e (Some w) none h = SumIs.product h

pub terms_told : (values : Values) (e first : Expr) (begun : ℤ) (links : List Link) (result : Option ℤ) → e.form ≡ form.Chain first links → BeginsWithTerm links → ProductIs values first begun → Tells (TermsGive values begun links) result → Tells (SumIs values e) result
terms_told values e first begun links None is begins product h = λ v p.
    let chain = sum_chain {first = first} {links = links} is begins p in
    h v (subst (λ x. TermsGive values x links v) (product_unique chain.is product) chain.terms)
terms_told values e first begun links (Some w) is begins product h = sum_made {first = first} {links = links} is begins product h

-- the first of some links is told
pub begins_told : (links : List Link) (link : Link) (r : Bool) → Some link ≡ slice_get links 0 → IsTrue r ↔ IsTerm link.op → IsTrue r ↔ BeginsWithTerm links
begins_told [] link r is h = absurd cc
begins_told (first ∷ others) link r is h = (
  λ yes. record { link = first; others = others; are = refl; term = let same : link ≡ first = cc in subst (λ (l : Link). IsTerm l.op) same (h.0 yes) },
  λ begins.
      let given = begins.are in
      let same : begins.link ≡ link = cc in
      h.1 (subst (λ (l : Link). IsTerm l.op) same begins.term),
)

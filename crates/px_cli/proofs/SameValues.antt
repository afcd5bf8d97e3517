-- Values that are the same for each name: statements do the same from them.
use Rattle.std.proofs.Common.{◌≡◌, inl, inr, ℕ, ℤ, ◌+ℤ◌, ◌-ℤ◌, List, [], ◌∷◌, ◌++◌, Bool, true, false, Option, Some, None, nat_eq, refl, sym, ap, ◌∙◌, subst}
use Rattle.std.specs.Prelude.{codes}
use Rattle.std.specs.Fmt.{signed_decimal}
use Rattle.std.specs.Cmp.Lexicographic.{pointwise}
use Rattle.std.proofs.lemmas.Bool.{false≢true}
use Rattle.std.proofs.lemmas.Bool.Decides.{Decides-eqb}
use Rattle.std.proofs.lemmas.Slice.Eq.{slice_eq-Decides}
use Rattle.px_base.specs.declared.c_types.BinOp.TheVariants.{Add, Sub}
use Rattle.px_base.specs.declared.c_types.CType.TheVariants.{Long}
use Rattle.px_base.specs.declared.refusals.Span.{Span}
use Rattle.px_ctypes.specs.Wrapping.{wrap}
use Rattle.px_tree.specs.declared.expressions.Expr.{Expr}
use Rattle.px_tree.specs.declared.expressions.ExprForm.TheVariants as form
use Rattle.px_tree.specs.declared.expressions.Link.{Link}
use Rattle.px_tree.specs.declared.expressions.Argument.{Argument}
use Rattle.px_tree.specs.declared.statements.Stmt.{Stmt}
use Rattle.px_tree.specs.declared.statements.StmtForm.TheVariants as stmt_form
use Rattle.px_tree.specs.declared.statements.Declaration.{Declaration}
use Rattle.px_tree.specs.declared.statements.Declarator.{Declarator}
use Rattle.px_cli.specs.FirstMeaning.{Values, Assigns, AtomIs, FactorsGive, ProductIs, TermsGive, SumIs, DeclaresOne, IsCall, Calls, Does, DoInTurn}
use Rattle.px_cli.specs.FirstRefusals.{StopsAt}
use Rattle.px_cli.specs.KeptValues.{BeginsWithTerm, BeginsAs}
use Rattle.px_cli.proofs.ExpressionLemmas.{same_name, product_unique, sum_chain}
use Rattle.px_cli.proofs.StatementLemmas.{same_declaration, same_assign, declare_or_assign}
use Rattle.px_cli.proofs.CallLemmas.{same_arguments}
use Rattle.px_cli.proofs.VariableLemmas.{equal}

-- the same value, or none, for each name
abbrev pub Same : Values → Values → Type 0
Same v w = (name : List ℕ) → v name ≡ w name

pub same_back : {v w : Values} → Same v w → Same w v
same_back same = λ name. sym (same name)

-- Expressions: what has a value from the one has it from the other

atom_over : {v w : Values} {e : Expr} {value : ℤ} → Same v w → AtomIs v e value → AtomIs w e value
atom_over same (AtomIs.variable name is there) = AtomIs.variable name is (sym (same name) ∙ there)
atom_over same (AtomIs.number is long) = AtomIs.number is long

factors_over : {v w : Values} {product whole : ℤ} {links : List Link} → Same v w → FactorsGive v product links whole → FactorsGive w product links whole
factors_over same FactorsGive.none = FactorsGive.none
factors_over same (FactorsGive.times op is rest) = FactorsGive.times op (atom_over same is) (factors_over same rest)

product_over : {v w : Values} {e : Expr} {value : ℤ} → Same v w → ProductIs v e value → ProductIs w e value
product_over same (ProductIs.atom is) = ProductIs.atom (atom_over same is)
product_over same (ProductIs.chain first link links begun is atom factors) = ProductIs.chain first link links begun is (atom_over same atom) (factors_over same factors)

terms_over : {v w : Values} {sum whole : ℤ} {links : List Link} → Same v w → TermsGive v sum links whole → TermsGive w sum links whole
terms_over same TermsGive.none = TermsGive.none
terms_over same (TermsGive.plus op is rest) = TermsGive.plus op (product_over same is) (terms_over same rest)
terms_over same (TermsGive.minus op is rest) = TermsGive.minus op (product_over same is) (terms_over same rest)

sum_over : {v w : Values} {e : Expr} {value : ℤ} → Same v w → SumIs v e value → SumIs w e value
sum_over same (SumIs.product is) = SumIs.product (product_over same is)
sum_over same (SumIs.chain first link links begun is product terms) = SumIs.chain first link links begun is (product_over same product) (terms_over same terms)

no_sign_twice : (link : Link) → link.op ≡ Add → link.op ≡ Sub → ⊥
no_sign_twice link f g = let e : Add ≡ Sub = sym f ∙ g in absurd cc

terms_unique : {values : Values} {sum v w : ℤ} {links : List Link} → TermsGive values sum links v → TermsGive values sum links w → v ≡ w
terms_unique TermsGive.none TermsGive.none = refl
terms_unique {values} {sum} {w = w} {links = link ∷ links} (TermsGive.plus f a rest) (TermsGive.plus g b others) =
    terms_unique rest (subst (λ x. TermsGive values (wrap Long (sum +ℤ x)) links w) (sym (product_unique a b)) others)
terms_unique {links = link ∷ links} (TermsGive.plus f a rest) (TermsGive.minus g b others) = absurd (no_sign_twice link f g)
terms_unique {links = link ∷ links} (TermsGive.minus f a rest) (TermsGive.plus g b others) = absurd (no_sign_twice link g f)
terms_unique {values} {sum} {w = w} {links = link ∷ links} (TermsGive.minus f a rest) (TermsGive.minus g b others) =
    terms_unique rest (subst (λ x. TermsGive values (wrap Long (sum -ℤ x)) links w) (sym (product_unique a b)) others)

begins_with_term : {values : Values} {sum whole : ℤ} (link : Link) (links : List Link) → TermsGive values sum (link ∷ links) whole → BeginsWithTerm (link ∷ links)
begins_with_term link links (TermsGive.plus op is rest) = record { link = link; others = links; are = refl; term = inl op }
begins_with_term link links (TermsGive.minus op is rest) = record { link = link; others = links; are = refl; term = inr op }

chain_unique : {values : Values} {e first : Expr} {v w begun : ℤ} (link : Link) (links : List Link) → e.form ≡ form.Chain first (link ∷ links) → ProductIs values first begun → TermsGive values begun (link ∷ links) v → SumIs values e w → v ≡ w
chain_unique {values} {first = first} {w = w} link links is product terms other =
    let chain = sum_chain {first = first} {links = link ∷ links} is (begins_with_term link links terms) other in
    terms_unique terms (subst (λ x. TermsGive values x (link ∷ links) w) (product_unique chain.is product) chain.terms)

sum_unique : {values : Values} {e : Expr} {v w : ℤ} → SumIs values e v → SumIs values e w → v ≡ w
sum_unique (SumIs.product f) (SumIs.product g) = product_unique f g
sum_unique (SumIs.product f) (SumIs.chain first link links begun is product terms) = sym (chain_unique link links is product terms (SumIs.product f))
sum_unique (SumIs.chain first link links begun is product terms) other = chain_unique link links is product terms other

-- the same sum of the same values
sum_same : {v w : Values} {e f : Expr} {value other : ℤ} → Same v w → e ≡ f → SumIs v e value → SumIs w f other → value ≡ other
sum_same {w = w} {value = value} same is a b = sum_unique (subst (λ x. SumIs w x value) is (sum_over same a)) b

-- Statements: what does something from the one does something from the other

sets_over : {v w after : Values} {name : List ℕ} {value : ℤ} → Same v w → Assigns v name value after → Assigns w name value after
sets_over same sets = record { there = sets.there; others = λ other ne. sets.others other ne ∙ same other }

declares_over : {v w : Values} {s : Stmt} {declarator : Declarator} → Same v w → DeclaresOne v s declarator → DeclaresOne w s declarator
declares_over {declarator = declarator} same one = record { declaration = one.declaration; stands = one.stands; typing = one.typing; names = one.names; free = one.free; fresh = sym (same declarator.name) ∙ one.fresh }

pub does_over : {v w after : Values} {s : Stmt} {printed : List ℕ} → Same v w → Does v s after printed → (then : Values) × Does w s then printed
does_over {after = after} same (Does.declares declarator one none sets silent) = (after, Does.declares declarator (declares_over same one) none (sets_over same sets) silent)
does_over {after = after} same (Does.begins declarator e value one some sum sets silent) = (after, Does.begins declarator e value (declares_over same one) some (sum_over same sum) (sets_over same sets) silent)
does_over {after = after} same (Does.assigns target e name old value stands named there sum sets silent) =
    (after, Does.assigns target e name old value stands named (sym (same name) ∙ there) (sum_over same sum) (sets_over same sets) silent)
does_over {w = w} same (Does.prints argument value calls unnamed sum kept is) = (w, Does.prints argument value calls unnamed (sum_over same sum) refl is)

-- Statements: from the same values they do the same

sets_same : {v w after other : Values} {name : List ℕ} {value : ℤ} → Same v w → Assigns v name value after → Assigns w name value other → Same after other
sets_same {v} {w} {after} {other} {name} {value} same a b x = by_name (pointwise nat_eq x name) refl
  where
    by_name : (r : Bool) → r ≡ pointwise nat_eq x name → after x ≡ other x
    by_name true is = let e = equal x name (sym is) in ap after e ∙ a.there ∙ sym b.there ∙ sym (ap other e)
    by_name false is =
        let ne : x ≡ name → ⊥ = λ e. false≢true (is ∙ (slice_eq-Decides Decides-eqb x name (pointwise nat_eq x name) refl).1 e) in
        a.others x ne ∙ same x ∙ sym (b.others x ne)

-- the same values after a statement, and the same output
pub record IsSameOutcome (after other : Values) (output more : List ℕ) : Type 0 where
  pub values : Same after other
  pub printed : output ≡ more

same_declarator : {v w : Values} {s : Stmt} {d e : Declarator} → DeclaresOne v s d → DeclaresOne w s e → d ≡ e
same_declarator {d = d} {e = e} a b =
    let names : d ∷ [] ≡ e ∷ [] = sym a.names ∙ ap (λ (x : Declaration). x.names) (same_declaration a.declaration b.declaration a.stands b.stands) ∙ b.names in
    cc

given_or_not : {e : Expr} {value : Option Expr} → value ≡ None → value ≡ Some e → ⊥
given_or_not {e} none some = let h : None ≡ Some e = sym none ∙ some in absurd cc

same_given : {e f : Expr} {value : Option Expr} → value ≡ Some e → value ≡ Some f → e ≡ f
same_given {e} {f} a b = let h : Some e ≡ Some f = sym a ∙ b in cc

begins_same : {v w : Values} {value other : ℤ} (d : Declarator) → Same v w → BeginsAs v d value → BeginsAs w d other → value ≡ other
begins_same d same (inl a) (inl b) = a.1 ∙ sym b.1
begins_same d same (inl a) (inr b) = absurd (given_or_not a.0 b.1)
begins_same d same (inr a) (inl b) = absurd (given_or_not b.0 a.1)
begins_same d same (inr a) (inr b) = sum_same same (same_given a.1 b.1) a.2 b.2

-- two statements that declare
declared_same : {v w after other : Values} {s : Stmt} {d e : Declarator} {value found : ℤ} {printed more : List ℕ} → Same v w
    → DeclaresOne v s d → BeginsAs v d value → Assigns v d.name value after → printed ≡ [] → DeclaresOne w s e → BeginsAs w e found → Assigns w e.name found other → more ≡ [] → IsSameOutcome after other printed more
declared_same {w = w} {other = other} {d = d} {e = e} {value = value} {found = found} same one begins sets silent two starts puts still =
    let is = same_declarator one two in
    let again : BeginsAs w d found = subst (λ x. BeginsAs w x found) (sym is) starts in
    let there : Assigns w d.name found other = subst (λ (x : Declarator). Assigns w x.name found other) (sym is) puts in
    record { values = sets_same same sets (subst (λ n. Assigns w d.name n other) (sym (begins_same d same begins again)) there); printed = silent ∙ sym still }

after_declared : {v w after other : Values} {s : Stmt} {d : Declarator} {value : ℤ} {printed more : List ℕ} → Same v w
    → DeclaresOne v s d → BeginsAs v d value → Assigns v d.name value after → printed ≡ [] → Does w s other more → IsSameOutcome after other printed more
after_declared same one begins sets silent (Does.declares declarator two none puts still) = declared_same same one begins sets silent two (inl (none, refl)) puts still
after_declared same one begins sets silent (Does.begins declarator e value two some sum puts still) = declared_same same one begins sets silent two (inr (e, some, sum)) puts still
after_declared same one begins sets silent (Does.assigns target e name old value stands named there sum puts still) = absurd (declare_or_assign one.declaration (target ∷ []) e one.stands stands)
after_declared same one begins sets silent (Does.prints argument value calls unnamed sum kept is) = absurd (declare_or_assign one.declaration [] calls.call one.stands calls.stands)

one_target : {a b : Expr} → a ∷ [] ≡ b ∷ [] → a ≡ b
one_target e = cc

some_target : {a : Expr} → a ∷ [] ≡ [] → ⊥
some_target e = absurd cc

-- a statement that assigns
after_assigned : {v w after other : Values} {s : Stmt} {value : ℤ} {printed more : List ℕ} (target e : Expr) (name : List ℕ) → Same v w
    → s.form ≡ stmt_form.Assign (target ∷ []) e → target.form ≡ form.Name name → SumIs v e value → Assigns v name value after → printed ≡ [] → Does w s other more → IsSameOutcome after other printed more
after_assigned target e name same stands named sum sets silent (Does.declares declarator two none puts still) = absurd (declare_or_assign two.declaration (target ∷ []) e two.stands stands)
after_assigned target e name same stands named sum sets silent (Does.begins declarator f found two some second puts still) = absurd (declare_or_assign two.declaration (target ∷ []) e two.stands stands)
after_assigned {w = w} {other = other} {value = value} target e name same stands named sum sets silent (Does.assigns aim f called old found form_is is there second puts still) =
    let both = same_assign (target ∷ []) (aim ∷ []) e f stands form_is in
    let one : target ≡ aim = one_target both.0 in
    let names : name ≡ called = same_name (ap (λ (x : Expr). x.form) (sym one) ∙ named) is in
    let values : value ≡ found = sum_same same both.1 sum second in
    let again : Assigns w name found other = subst (λ x. Assigns w x found other) (sym names) puts in
    record { values = sets_same same sets (subst (λ n. Assigns w name n other) (sym values) again); printed = silent ∙ sym still }
after_assigned target e name same stands named sum sets silent (Does.prints argument value calls unnamed second kept is) = absurd (some_target (same_assign (target ∷ []) [] e calls.call stands calls.stands).0)

one_argument : {a b : Argument} → a ∷ [] ≡ b ∷ [] → a ≡ b
one_argument e = cc

-- a statement that prints
after_printed : {v w after other : Values} {s : Stmt} {value : ℤ} {printed more : List ℕ} (argument : Argument) → Same v w
    → Calls (codes "print") s (argument ∷ []) → SumIs v argument.value value → after ≡ v → printed ≡ signed_decimal value ++ 10 ∷ [] → Does w s other more → IsSameOutcome after other printed more
after_printed argument same calls sum kept is (Does.declares declarator two none puts still) = absurd (declare_or_assign two.declaration [] calls.call two.stands calls.stands)
after_printed argument same calls sum kept is (Does.begins declarator f found two some second puts still) = absurd (declare_or_assign two.declaration [] calls.call two.stands calls.stands)
after_printed argument same calls sum kept is (Does.assigns aim f called old found form_is named there second puts still) = absurd (some_target (same_assign (aim ∷ []) [] f calls.call form_is calls.stands).0)
after_printed {value = value} argument same calls sum kept is (Does.prints second found again unnamed other_sum still made) =
    let call = (same_assign [] [] calls.call again.call calls.stands again.stands).1 in
    let one : argument ≡ second = one_argument (same_arguments (subst (λ x. IsCall (codes "print") x (argument ∷ [])) call calls.is) again.is) in
    let values : value ≡ found = sum_same same (ap (λ (a : Argument). a.value) one) sum other_sum in
    record {
      values = λ name. ap (λ (x : Values). x name) kept ∙ same name ∙ sym (ap (λ (x : Values). x name) still);
      printed = is ∙ ap (λ n. signed_decimal n ++ 10 ∷ []) values ∙ sym made;
    }

pub does_same : {v w after other : Values} {s : Stmt} {printed more : List ℕ} → Same v w → Does v s after printed → Does w s other more → IsSameOutcome after other printed more
does_same same (Does.declares declarator one none sets silent) second = after_declared same one (inl (none, refl)) sets silent second
does_same same (Does.begins declarator e value one some sum sets silent) second = after_declared same one (inr (e, some, sum)) sets silent second
does_same same (Does.assigns target e name old value stands named there sum sets silent) second = after_assigned target e name same stands named sum sets silent second
does_same same (Does.prints argument value calls unnamed sum kept is) second = after_printed argument same calls sum kept is second

-- Statements one after another

-- they print the same
pub turns_same : {v w after other : Values} {body : List Stmt} {output more : List ℕ} → Same v w → DoInTurn v body after output → DoInTurn w body other more → output ≡ more
turns_same same DoInTurn.none DoInTurn.none = refl
turns_same same (DoInTurn.more {printed = printed} {rest = rest} does others whole) (DoInTurn.more {printed = second} {rest = more} again further all) =
    let one = does_same same does again in
    whole ∙ ap (λ xs. xs ++ rest) one.printed ∙ ap (λ xs. second ++ xs) (turns_same one.values others further) ∙ sym all

-- where one of them does nothing, they aren't done
pub stops_or_does : {v w after : Values} {body : List Stmt} {output : List ℕ} {at : Span} → Same v w → StopsAt v body at → DoInTurn w body after output → ⊥
stops_or_does same (StopsAt.here none place) (DoInTurn.more {printed = printed} does others whole) = let there = does_over (same_back same) does in none there.0 printed there.1
stops_or_does same (StopsAt.later does stops) (DoInTurn.more again others whole) = stops_or_does (does_same same does again).values stops others

-- the first that does nothing is one
pub stops_same : {v w : Values} {body : List Stmt} {at place : Span} → Same v w → StopsAt v body at → StopsAt w body place → at ≡ place
stops_same same (StopsAt.here none is) (StopsAt.here never there) = is ∙ sym there
stops_same same (StopsAt.here none is) (StopsAt.later {printed = printed} does stops) = let there = does_over (same_back same) does in absurd (none there.0 printed there.1)
stops_same same (StopsAt.later {printed = printed} does stops) (StopsAt.here none is) = let there = does_over same does in absurd (none there.0 printed there.1)
stops_same same (StopsAt.later does stops) (StopsAt.later again still) = stops_same (does_same same does again).values stops still

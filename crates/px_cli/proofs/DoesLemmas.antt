-- What a statement that does something is.
use Rattle.std.proofs.Common.{◌≡◌, ◌≢◌, ℕ, ℤ, pos, List, [], ◌∷◌, inl, inr, Option, Some, None, MatchOption, refl, sym, ap, ◌∙◌, subst}
use Rattle.std.specs.Prelude.{codes}
use Rattle.px_tree.specs.declared.expressions.Expr.{Expr}
use Rattle.px_tree.specs.declared.expressions.ExprForm.TheVariants as form
use Rattle.px_tree.specs.declared.expressions.Argument.{Argument}
use Rattle.px_tree.specs.declared.statements.Stmt.{Stmt}
use Rattle.px_tree.specs.declared.statements.StmtForm.TheVariants as stmt_form
use Rattle.px_tree.specs.declared.statements.Declaration.{Declaration}
use Rattle.px_tree.specs.declared.statements.Declarator.{Declarator}
use Rattle.px_cli.specs.FirstMeaning.{Values, SumIs, Assigns, DeclaresOne, IsCall, Does}
use Rattle.px_cli.specs.KeptValues.{BeginsAs}
use Rattle.px_cli.proofs.StatementLemmas.{same_declaration, same_assign, declare_or_assign}
use Rattle.px_cli.proofs.CallLemmas.{same_arguments}

-- Declarations

-- one variable is declared, with a value
pub record Declares (values : Values) (s : Stmt) : Type 0 where
  pub declarator : Declarator
  pub one : DeclaresOne values s declarator
  pub value : ℤ
  pub starts : BeginsAs values declarator value

pub declare_told : {values after : Values} {s : Stmt} {printed : List ℕ} (d : Declaration) → s.form ≡ stmt_form.Declare d → Does values s after printed → Declares values s
declare_told d stands (Does.declares declarator one none sets silent) = record { declarator = declarator; one = one; value = pos 0; starts = inl (none, refl) }
declare_told d stands (Does.begins declarator e value one some sum sets silent) = record { declarator = declarator; one = one; value = value; starts = inr (e, some, sum) }
declare_told d stands (Does.assigns target e name old value form_is named declared sum sets silent) = absurd (declare_or_assign d (target ∷ []) e stands form_is)
declare_told d stands (Does.prints argument value calls unnamed sum kept printed) = absurd (declare_or_assign d [] calls.call stands calls.stands)

one_declarator : {values : Values} {s : Stmt} {d e : Declarator} → DeclaresOne values s d → DeclaresOne values s e → d ≡ e
one_declarator {d = d} {e = e} a b =
    let names : d ∷ [] ≡ e ∷ [] = sym a.names ∙ ap (λ (x : Declaration). x.names) (same_declaration a.declaration b.declaration a.stands b.stands) ∙ b.names in
    cc

-- where the one variable has no value, nothing is done
pub declare_fails : {values after : Values} {s : Stmt} {printed : List ℕ} (d : Declaration) (declarator : Declarator) → s.form ≡ stmt_form.Declare d → DeclaresOne values s declarator → ((v : ℤ) → BeginsAs values declarator v → ⊥) → Does values s after printed → ⊥
declare_fails {values} d declarator stands one none does =
    let told = declare_told d stands does in
    none told.value (subst (λ x. BeginsAs values x told.value) (one_declarator told.one one) told.starts)

pub declare_does : {values after : Values} {s : Stmt} (declarator : Declarator) (value : ℤ) → DeclaresOne values s declarator → BeginsAs values declarator value → Assigns values declarator.name value after → Does values s after []
declare_does {values} {after} declarator value one (inl none) sets = Does.declares declarator one none.0 (subst (λ v. Assigns values declarator.name v after) none.1 sets) refl
declare_does declarator value one (inr some) sets = Does.begins declarator some.0 value one some.1 some.2 sets refl

no_value : {e : Expr} {value : Option Expr} → value ≡ None → value ≡ Some e → ⊥
no_value {e} none some = let h : None ≡ Some e = sym none ∙ some in absurd cc

given_value : {e f : Expr} {value : Option Expr} → value ≡ Some e → value ≡ Some f → e ≡ f
given_value {e} {f} a b = let h : Some e ≡ Some f = sym a ∙ b in cc

pub begun_told : (values : Values) (declarator : Declarator) (e : Expr) (result : Option ℤ) → declarator.value ≡ Some e → MatchOption result ((v : ℤ) → SumIs values e v → ⊥) (SumIs values e)
    → MatchOption result ((v : ℤ) → BeginsAs values declarator v → ⊥) (BeginsAs values declarator)
begun_told values declarator e None some none = λ v begins. elim (begins) [ inl h ↦ no_value h.0 some | inr h ↦ none v (subst (λ x. SumIs values x v) (given_value h.1 some) h.2) ]
begun_told values declarator e (Some v) some sum = inr (e, some, sum)

-- Assignments

pub record AssignsOne (values : Values) (targets : List Expr) (e : Expr) : Type 0 where
  pub target : Expr
  pub name : List ℕ
  pub old : ℤ
  pub value : ℤ
  pub one : targets ≡ target ∷ []
  pub named : target.form ≡ form.Name name
  pub declared : values name ≡ Some old
  pub sum : SumIs values e value

pub assign_told : {values after : Values} {s : Stmt} {printed : List ℕ} (targets : List Expr) (e : Expr) → s.form ≡ stmt_form.Assign targets e → targets ≢ [] → Does values s after printed → AssignsOne values targets e
assign_told targets e stands some (Does.declares declarator one none sets silent) = absurd (declare_or_assign one.declaration targets e one.stands stands)
assign_told targets e stands some (Does.begins declarator given value one value_is sum sets silent) = absurd (declare_or_assign one.declaration targets e one.stands stands)
assign_told {values} targets e stands some (Does.assigns target given name old value form_is named declared sum sets silent) =
    let same = same_assign targets (target ∷ []) e given stands form_is in
    record { target = target; name = name; old = old; value = value; one = same.0; named = named; declared = declared; sum = subst (λ x. SumIs values x value) (sym same.1) sum }
assign_told targets e stands some (Does.prints argument value calls unnamed sum kept printed) = absurd (some (same_assign targets [] e calls.call stands calls.stands).0)

-- Calls of `print`

pub record PrintsOne (values : Values) (call : Expr) : Type 0 where
  pub argument : Argument
  pub value : ℤ
  pub is : IsCall (codes "print") call (argument ∷ [])
  pub unnamed : argument.name ≡ None
  pub sum : SumIs values argument.value value

pub print_told : {values after : Values} {s : Stmt} {printed : List ℕ} (call : Expr) → s.form ≡ stmt_form.Assign [] call → Does values s after printed → PrintsOne values call
print_told call stands (Does.declares declarator one none sets silent) = absurd (declare_or_assign one.declaration [] call one.stands stands)
print_told call stands (Does.begins declarator given value one value_is sum sets silent) = absurd (declare_or_assign one.declaration [] call one.stands stands)
print_told call stands (Does.assigns target given name old value form_is named declared sum sets silent) =
    let same : [] ≡ target ∷ [] = (same_assign [] (target ∷ []) call given stands form_is).0 in
    absurd cc
print_told call stands (Does.prints argument value calls unnamed sum kept printed) =
    let same = same_assign [] [] call calls.call stands calls.stands in
    record { argument = argument; value = value; is = subst (λ x. IsCall (codes "print") x (argument ∷ [])) (sym same.1) calls.is; unnamed = unnamed; sum = sum }

one_argument : {a b : Argument} → a ∷ [] ≡ b ∷ [] → a ≡ b
one_argument e = cc

-- where its argument is no sum, nothing is done
pub print_fails : {values after : Values} {s : Stmt} {printed : List ℕ} (call : Expr) (argument : Argument) → s.form ≡ stmt_form.Assign [] call → IsCall (codes "print") call (argument ∷ []) → ((v : ℤ) → SumIs values argument.value v → ⊥) → Does values s after printed → ⊥
print_fails {values} call argument stands is none does =
    let told = print_told call stands does in
    let same = one_argument (same_arguments told.is is) in
    none told.value (subst (λ (a : Argument). SumIs values a.value told.value) same told.sum)

-- Other statements

pub nothing_done : {values after : Values} {s : Stmt} {printed : List ℕ} → ((d : Declaration) → s.form ≡ stmt_form.Declare d → ⊥) → ((targets : List Expr) (e : Expr) → s.form ≡ stmt_form.Assign targets e → ⊥) → Does values s after printed → ⊥
nothing_done no_declare no_assign (Does.declares declarator one none sets silent) = no_declare one.declaration one.stands
nothing_done no_declare no_assign (Does.begins declarator given value one value_is sum sets silent) = no_declare one.declaration one.stands
nothing_done no_declare no_assign (Does.assigns target given name old value form_is named declared sum sets silent) = no_assign (target ∷ []) given form_is
nothing_done no_declare no_assign (Does.prints argument value calls unnamed sum kept printed) = no_assign [] calls.call calls.stands

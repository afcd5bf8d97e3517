use Rattle.std.proofs.Common.{rules, ◌≡◌, ◌∙◌, ℕ, ◌<◌, ◌≤◌, List, length, slice_index_or, sym, ap, subst, arith, below_more}
use Rattle.std.proofs.lemmas.Bool.{false≢true}
use Rattle.std.proofs.lemmas.List.{get_or_default}
use denote.Enum.Bare.{same_true, true_same}
use Rattle.px_lexer.specs.declared.spelling.Operator.{Operator}
use Rattle.px_lexer.specs.contracts.spelling.Operator.{the_type}
use Rattle.px_lexer.specs.Terminals.{Terminal, IsOperator}
use Rattle.px_exprs.specs.Grammar.{IsOf}
use Rattle.px_lexer.proofs.OneToken.{one_operator}
use Rattle.px_exprs.proofs.operators.meaning.Goals as goal

pub returns-in_default : goal.returns-in_default
returns-in_default g c = λ meant h. c.in_default.ensures h.spelled h.stands

pub loop-row-init : goal.loop-row-init
loop-row-init g c = λ k m lt. absurd (omega (arith, lt))

row_is : {A : Type 0} (table : List (Operator × A)) (n : ℕ) (s : Operator) (row : Operator × A) → n < length table → row ≡ slice_index_or table n row → row.0 ≡ s → slice_index_or table n (s, row.1) ≡ (s, row.1)
row_is table n s row lt e same =
    get_or_default table n (s, row.1) row lt ∙ sym e ∙ ap (λ o. (o, row.1)) same

pub returns-then-eq : goal.returns-then-eq
returns-then-eq g c =
    let row = c.row-item.result in
    let same : row.0 ≡ c.in-Some.sign = same_true the_type (search rules) _ _ (sym c.if-eq.ensures) in
    record {
      spelled = c.in-Some.sign;
      known = (c.loop-row.row-index, c.loop-row-test.true, row_is c.args.table.now c.loop-row.row-index c.in-Some.sign row c.loop-row-test.true c.row-item.is same);
      stands = c.in-Some.ensures;
    }

row_other : {A : Type 0} (table : List (Operator × A)) (n : ℕ) (s : Operator) (row : Operator × A) → n < length table → row ≡ slice_index_or table n row → (row.0 ≡ s → ⊥) → (m : A) → slice_index_or table n (s, m) ≡ (s, m) → ⊥
row_other {A} table n s row lt e other m same = other (ap (λ (x : Operator × A). x.0) (e ∙ get_or_default table n row (s, m) lt ∙ same))

pub loop-row-preserved : goal.loop-row-preserved
loop-row-preserved g c = λ k m lt same.
    below_more (λ n. slice_index_or c.args.table.now n (c.in-Some.sign, m) ≡ (c.in-Some.sign, m) → ⊥) _ (λ n below. c.loop-row.invariant n m below)
    (row_other c.args.table.now c.loop-row.row-index c.in-Some.sign c.row-item.result c.loop-row-test.true c.row-item.is (λ e. false≢true (sym c.if-eq.false ∙ c.eq.ensures ∙ true_same the_type _ _ e)) m)
    k lt same

none_there : {A : Type 0} (table : List (Operator × A)) (ts : List Terminal) (i n : ℕ) (s : Operator) → IsOperator ts i s → length table ≤ n → ((k : ℕ) (m : A) → k < n → slice_index_or table k (s, m) ≡ (s, m) → ⊥) → (m : A) → IsOf table ts i m → ⊥
none_there {A} table ts i n s stands le none m h =
    let known = subst (λ o. (k : ℕ) × (k < length table) × (slice_index_or table k (o, m) ≡ (o, m))) (one_operator h.stands stands) h.known in
    none known.0 m (omega (arith, known.1, le)) known.2

pub returns : goal.returns
returns g c = λ meant h. none_there c.args.table.now _ _ c.loop-row.row-index c.in-Some.sign (c.in-Some.ensures) c.loop-row-test.false c.loop-row.invariant meant h

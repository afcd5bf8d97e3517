-- Statements that are run one after another.
use Rattle.std.proofs.Common.{◌≡◌, ℕ, Some, None, ◌+◌, ◌<◌, ◌≤◌, List, [], ◌++◌, length, drop, slice_index_or, refl, sym, ap, ◌∙◌, subst}
use Rattle.std.proofs.lemmas.List.{append_assoc, append-nil}
use Rattle.px_base.specs.declared.refusals.Span.{Span}
use Rattle.px_tree.specs.declared.statements.Stmt.{Stmt}
use Rattle.px_cli.specs.FirstMeaning.{Values, no_values, Does, DoInTurn}
use Rattle.px_cli.specs.FirstRefusals.{StopsAt}
use Rattle.px_cli.specs.KeptValues.{AreLongs}
use Rattle.px_cli.proofs.ExpressionLemmas.{drop_first, drop_all}

-- what the statements from a place on do, and what all of them do
pub record BodyFrom (body : List Stmt) (n : ℕ) (values : Values) (output : List ℕ) : Type 0 where
  pub done : (after : Values) (rest whole : List ℕ) → DoInTurn values (drop n body) after rest → whole ≡ output ++ rest → DoInTurn no_values body after whole
  pub stops : (at : Span) → StopsAt values (drop n body) at → StopsAt no_values body at
  pub longs : AreLongs values

pub body_begun : (body : List Stmt) (values : Values) (output : List ℕ) → values ≡ no_values → output ≡ [] → BodyFrom body 0 values output
body_begun body values output none empty = record {
  done = λ after rest whole d e. subst (λ w. DoInTurn no_values body after w) (sym (e ∙ ap (λ o. o ++ rest) empty)) (subst (λ v. DoInTurn v body after rest) none d);
  stops = λ at h. subst (λ v. StopsAt v body at) none h;
  longs = λ name value is. let e : None ≡ Some value = ap (λ (v : Values). v name) (sym none) ∙ is in absurd cc;
}

pub body_on : {body : List Stmt} {n : ℕ} {values next : Values} {output printed more : List ℕ} (s : Stmt) → n < length body → s ≡ slice_index_or body n s → Does values s next printed → more ≡ output ++ printed → AreLongs next → BodyFrom body n values output
    → BodyFrom body (n + 1) next more
body_on {body} {n} {values} {next} {output} {printed} {more} s lt is does e longs from = record {
  done = λ after rest whole d f.
      from.done after (printed ++ rest) whole
      (subst (λ xs. DoInTurn values xs after (printed ++ rest)) (sym (drop_first body n s lt is)) (DoInTurn.more does d refl))
      (f ∙ ap (λ o. o ++ rest) e ∙ append_assoc output printed rest);
  stops = λ at h. from.stops at (subst (λ xs. StopsAt values xs at) (sym (drop_first body n s lt is)) (StopsAt.later does h));
  longs = longs;
}

pub body_ended : {body : List Stmt} {n : ℕ} {values : Values} {output : List ℕ} → length body ≤ n → BodyFrom body n values output → (after : Values) × DoInTurn no_values body after output
body_ended {body} {n} {values} {output} le from = (values, from.done values [] output (subst (λ xs. DoInTurn values xs values []) (sym (drop_all body n le)) DoInTurn.none) (sym (append-nil output)))

pub body_stops : {body : List Stmt} {n : ℕ} {values : Values} {output : List ℕ} (s : Stmt) → n < length body → s ≡ slice_index_or body n s → ((after : Values) (printed : List ℕ) → Does values s after printed → ⊥) → BodyFrom body n values output
    → StopsAt no_values body s.at
body_stops {body} {n} {values} s lt is none from = from.stops s.at (subst (λ xs. StopsAt values xs s.at) (sym (drop_first body n s lt is)) (StopsAt.here none refl))

use Rattle.std.proofs.Common.{arith, refl, sym, ◌∙◌, ap, not, IsFalse}
use Rattle.std.proofs.lemmas.Bool.{ne_eqb}
use borrow.Author.Count.{below_more}
use Rattle.px_lexer.specs.StringSteps.{quotes_by}
use Rattle.px_lexer.proofs.strings.body_end.Goals as goal
use Rattle.px_lexer.proofs.strings.body_end.Goals.{then-code-from, else-code-from}
use Rattle.px_lexer.proofs.StringBodyLemmas.{goes_on-inside, escaped_behind, not_escaped}
use Rattle.px_lexer.specs.Strings.{is_escaped, stops}

pub loop-escaped-init : goal.loop-escaped-init
unfolding is_escaped
loop-escaped-init c = record { inside = omega arith; escaped = refl; first = λ i h. absurd (omega arith) }

pub loop-escaped-preserved : goal.loop-escaped-preserved
loop-escaped-preserved c =
    let on = sym c.stops.ensures ∙ c.loop-escaped-test.true in
    let at_end = goes_on-inside (quotes_by c.args.quotes.code c.args.quotes.triple) c.args.rest.now c.loop-escaped.len on in
    record {
      inside = omega arith;
      escaped = elim c.if-code-from.branch [
        | then-code-from w ↦ let e = escaped_behind c.args.rest.now c.loop-escaped.len (sym c.code.ensures.value ∙ (w.if-code-from.true ∙ c.from.ensures)) in w.escaped-is ∙ (ap not c.loop-escaped.invariant.escaped ∙ sym e)
        | else-code-from w ↦ let e = not_escaped c.args.rest.now c.loop-escaped.len (omega arith) in w.escaped-is ∙ (ne_eqb _ _ w.if-code-from.false ∙ sym e)
      ];
      first = below_more (λ i. IsFalse (stops (quotes_by c.args.quotes.code c.args.quotes.triple) c.args.rest.now i)) c.loop-escaped.len c.loop-escaped.invariant.first on;
    }

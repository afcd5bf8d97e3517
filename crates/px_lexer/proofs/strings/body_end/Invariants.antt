use Rattle.std.proofs.Common.{◌≡◌, ℕ, ◌-◌, ◌<◌, ◌≤◌, length, IsFalse}
use Rattle.px_lexer.specs.Strings.{is_escaped, stops}
use Rattle.px_lexer.specs.StringSteps.{quotes_by}
use Rattle.px_lexer.proofs.strings.body_end.Given as goal

abbrev pub invariant-loop-escaped : goal.invariant-loop-escaped
invariant-loop-escaped l = record {
  inside : l.len ≤ length l.rest;
  escaped : l.escaped ≡ is_escaped l.rest l.len;
  first : (i : ℕ) → i < l.len → IsFalse (stops (quotes_by l.quotes.code l.quotes.triple) l.rest i);
}

abbrev pub decreases-loop-escaped : goal.decreases-loop-escaped
decreases-loop-escaped l = length l.rest - l.len

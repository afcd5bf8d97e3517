use Rattle.std.proofs.Common.{◌≡◌, ◌<◌, ◌≤◌, ℕ, List, [], ◌++◌, ◌+◌, ◌-◌, length, take, drop, arith, ap, Option, Some, None, Err, append_assoc, ◌∙◌, subst}
use Rattle.std.proofs.lemmas.List.{take_rest, length-drop}
use Rattle.std.proofs.Math.Seq.{take-add}
use Rattle.std.specs.Io.KnownBytes.{Appends}
use Rattle.px_base.specs.Outside.{Grows, WriteIsCalm}
use Rattle.px_base.specs.declared.outside.SinkTrouble.{SinkTrouble}
use Rattle.px_base.specs.declared.outside.SinkTrouble.TheVariants.{NoMemory}

-- two pieces in a row
pub appends_both : (a b c : Option (List ℕ)) (xs ys : List ℕ) → Appends a b xs → Appends b c ys → Appends a c (xs ++ ys)
appends_both None b c xs ys p q = tt
appends_both (Some x) None c xs ys p q = absurd p
appends_both (Some x) (Some y) None xs ys p q = absurd q
appends_both (Some x) (Some y) (Some z) xs ys p q = rw (q, p) (append_assoc x xs ys)

-- the first n bytes of what is left behind the first at bytes
pub appends_more : (a b c : Option (List ℕ)) (text : List ℕ) (at n : ℕ) → Appends a b (take at text) → Appends b c (take n (take (length text - at) (drop at text))) → Appends a c (take (at + n) text)
appends_more a b c text at n p q = rw take-add (appends_both a b c (take at text) (take n (drop at text)) p (rw take_rest at q))

-- some front of what is left behind the first at bytes
pub grows_more : (a b c : Option (List ℕ)) (text : List ℕ) (at : ℕ) → at ≤ length text → Appends a b (take at text) → Grows b c (take (length text - at) (drop at text)) → Grows a c text
grows_more a b c text at within p (n, bound, q) =
    let fits : n ≤ length text - at = subst (λ (k : ℕ). n ≤ k) (ap length (take_rest text at) ∙ length-drop at text) bound in
    (at + n, omega arith, appends_more a b c text at n p q)

-- a count within what is left
pub within_more : (text : List ℕ) (at n : ℕ) → at ≤ length text → n ≤ length (take (length text - at) (drop at text)) → at + n ≤ length text
within_more text at n within bound =
    let fits : n ≤ length text - at = subst (λ (k : ℕ). n ≤ k) (ap length (take_rest text at) ∙ length-drop at text) bound in
    omega arith

-- a text with bytes behind an index isn't empty
pub has_more : (text : List ℕ) (at : ℕ) → at < length text → text ≡ [] → ⊥
has_more text at within empty = absurd (omega (arith, ap length empty))

-- a write that found no memory is no failure
pub calm_without_memory : (before now : ℕ) (piece : List ℕ) (trouble : SinkTrouble) → trouble ≡ NoMemory → WriteIsCalm before now piece (Err trouble) → now ≡ before
calm_without_memory before now piece trouble is h = subst (λ (e : SinkTrouble). WriteIsCalm before now piece (Err e)) is h

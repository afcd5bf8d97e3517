-- What was read of a stream up to a limit.
use Rattle.std.proofs.Common.{◌≡◌, ℕ, ◌≤◌, ◌⊎◌, inl, inr, List, ◌++◌, length, take, Option, Some, None, sym, ap, ◌∙◌}
use Rattle.std.specs.Prelude.{IfSome}
use Rattle.std.specs.Io.KnownBytes.{Keeps, IsAtEnd, prepend_known}
use Rattle.std.proofs.lemmas.List.{take_all, take_at, append-nil}

-- The bytes that were read are the first up to the limit, where the stream is at its end or they are so many.
pub is_front : (limit : ℕ) (start left : Option (List ℕ)) (bytes : List ℕ) → length bytes ≤ limit → Keeps start (prepend_known bytes left)
    → IsAtEnd left ⊎ (length bytes ≡ limit) → IfSome start (λ all. bytes ≡ take limit all)
is_front limit None left bytes short kept ended = tt
is_front limit (Some all) None bytes short kept ended = absurd kept
is_front limit (Some all) (Some rest) bytes short kept (inl ended) =
    let whole : all ≡ bytes = sym kept ∙ ap (λ (xs : List ℕ). bytes ++ xs) ended ∙ append-nil bytes in
    sym (ap (take limit) whole ∙ take_all limit bytes short)
is_front limit (Some all) (Some rest) bytes short kept (inr full) = sym (ap (take limit) (sym kept) ∙ take_at bytes rest limit full)

-- What a library in memory hands over, and what a read of a source in memory moves.
use Rattle.std.proofs.Common.{◌≡◌, ℕ, ◌+◌, ◌<◌, ◌≤◌, min, List, [], ◌++◌, length, take, drop, Option, Some, None, sym, ap, ◌∙◌, arith}
use Rattle.std.specs.Prelude.{option_map, IfSome}
use Rattle.std.proofs.lemmas.List.{length-take, length-drop, length-append, take_at, take-append-drop, drop_all}

pub hands_front : (limit : ℕ) (held given : Option (List ℕ)) → given ≡ option_map (take limit) held → IfSome given (λ bytes. length bytes ≤ limit)
hands_front limit None None is = tt
hands_front limit None (Some bytes) is = absurd cc
hands_front limit (Some held) None is = tt
hands_front limit (Some held) (Some bytes) is =
    let front : bytes ≡ take limit held = cc in
    omega (arith, ap length front, length-take limit held)

-- The bytes left begin with those that a read moved, and none is left where it moved none into room.
pub moves : (left buffer into : List ℕ) (piece n : ℕ) → 0 < piece → n ≡ min (min piece (length buffer)) (length left) → into ≡ take n left ++ drop n buffer
    → (left ≡ take n into ++ drop n left) × (n ≡ 0 → 0 < length into → drop n left ≡ [])
moves left buffer into piece n some is filled =
    let front : take n into ≡ take n left = ap (take n) filled ∙ take_at (take n left) (drop n buffer) n (omega (arith, length-take n left)) in
    let size : length into ≡ length (take n left) + length (drop n buffer) = ap length filled ∙ length-append (take n left) (drop n buffer) in
    (rw front (sym (take-append-drop n left)), λ none room. drop_all n left (omega (arith, length-take n left, length-drop n buffer)))

-- What a tree asks for, so that the numbers of its code are words of 32 bits.
use Rattle.std.specs.Prelude.{ℕ, suc, max, min}
use Rattle.px_tree.specs.declared.typed_heads.TypedHead.{TypedHead}
use Rattle.px_tree.specs.declared.typed_heads.TypedHead.TheVariants as head
use Rattle.px_walk.specs.Roses.{Roses, rose, none, more}
use Rattle.px_typed_walk.specs.TypedView.{TypedRose}

-- a number, or 2^32 where it is more: enough for those who ask whether it is a word of 32 bits
abbrev pub capped : ℕ → ℕ
capped n = min n 4294967296

-- one more than the place of the variable or the function that a node names
abbrev pub place_by : TypedHead → ℕ
place_by (head.Local slot t) = suc slot
place_by (head.Declarator slot t) = suc slot
place_by (head.Call function t) = suc function
place_by _ = 0

-- one more than the greatest place of a variable or of a function that a tree names; 0 where it names none
abbrev mutual
  pub places : TypedRose → ℕ
  places (rose head number at parts) = max (place_by head) (places_below parts)

  pub places_below : Roses TypedHead → ℕ
  places_below none = 0
  places_below (more tree trees) = max (places tree) (places_below trees)

-- What calls answer on lists of cells and numbers.
use Rattle.std.specs.Prelude.{◌≡◌, ◌≤◌, ℕ, List, [], map, All, Contains, Option, Some, None}
use Rattle.std.specs.Int.{◌∣◌}
use Rattle.px_model.specs.declared.cells.Cell.{Cell}

-- the least and the greatest place of cells; there are none where there is no cell
abbrev pub IsExtent : List Cell → Option (ℕ × ℕ) → Type 0
IsExtent cells None = cells ≡ []
IsExtent cells (Some (least, greatest)) =
    Contains (map (λ c. c.place) cells) least
    × All (λ place. least ≤ place) (map (λ c. c.place) cells)
    × Contains (map (λ c. c.place) cells) greatest
    × All (λ place. place ≤ greatest) (map (λ c. c.place) cells)

-- the greatest common divisor of numbers: it divides each, and what divides each divides it. That of none is 0.
pub record IsGreatestDivisor (numbers : List ℕ) (divisor : ℕ) : Type 0 where
  pub divides : All (λ n. divisor ∣ n) numbers
  pub greatest : (d : ℕ) → All (λ n. d ∣ n) numbers → d ∣ divisor

use Rattle.std.specs.Prelude.{◌≡◌, ℕ, ◌+◌, ◌-◌, ◌^◌, ◌<◌, ◌≤◌, min, List, take, length, Option, Some, None, Result, Ok, Err}
use Rattle.std.specs.Option.{option_map}
use Rattle.px_base.specs.declared.outside.LibraryTrouble.{LibraryTrouble}
use Rattle.px_base.specs.declared.outside.LibraryTrouble.TheVariants as library
use Rattle.px_base.specs.declared.outside.SinkTrouble.{SinkTrouble}
use Rattle.px_base.specs.declared.outside.SinkTrouble.TheVariants as sink
use Rattle.std.specs.Io.KnownBytes.{Appends, Consumes, IsAtEnd}

-- A count of faults rose between two moments. At its greatest value it can't, and then this says nothing.
abbrev pub Rose : ℕ → ℕ → Type 0
Rose before now = min (before + 1) (2 ^ 64 - 1) ≤ now

-- the greatest number of bytes that a library hands over of one module: one more than a module may have
abbrev pub handed_limit : ℕ
handed_limit = 1048577

-- What a library hands over for a name: nothing exactly where the name isn't held, and otherwise the bytes that it
-- stands for, of more than the limit exactly the first. Nothing is said where the library doesn't tell its map, or fails.
abbrev pub Hands : {E : Type 0} → Option (List ℕ → Option (List ℕ)) → List ℕ → Result (Option (List ℕ)) E → Type 0
Hands None name result = Unit {0}
Hands (Some held) name (Ok given) = given ≡ option_map (take handed_limit) (held name)
Hands (Some held) name (Err trouble) = Unit {0}

-- Where a source tells the bytes that it has left: at `Ok n` the first n of them now begin the buffer and the others
-- are left, and n is 0 for a buffer with room only where none is left. A read that fails loses some of them at most.
abbrev pub Reads : {E : Type 0} → Option (List ℕ) → Option (List ℕ) → Result ℕ E → List ℕ → Type 0
Reads before now (Ok n) buffer = Consumes before now (take n buffer) × (n ≡ 0 → 0 < length buffer → IsAtEnd now)
Reads before now (Err trouble) buffer = (lost : List ℕ) × Consumes before now lost

-- what a sink has taken, where it tells, grew by some front of the piece
abbrev pub Grows : Option (List ℕ) → Option (List ℕ) → List ℕ → Type 0
Grows before now piece = (n : ℕ) × (n ≤ length piece) × Appends before now (take n piece)

-- At `Ok n` a sink took the first n bytes of the piece, and otherwise some front of it.
abbrev pub Takes : {E : Type 0} → Option (List ℕ) → Option (List ℕ) → Result ℕ E → List ℕ → Type 0
Takes before now (Ok n) piece = Appends before now (take n piece)
Takes before now (Err trouble) piece = Grows before now piece

-- a library's count of faults stands still unless it failed
abbrev pub ModuleIsCalm : {T : Type 0} → ℕ → ℕ → Result T LibraryTrouble → Type 0
ModuleIsCalm before now (Ok given) = now ≡ before
ModuleIsCalm before now (Err library.Failed) = Unit {0}
ModuleIsCalm before now (Err library.NoMemory) = now ≡ before

-- a sink's count of faults stands still unless it failed, or took nothing of a piece that has some
abbrev pub WriteIsCalm : ℕ → ℕ → List ℕ → Result ℕ SinkTrouble → Type 0
WriteIsCalm before now piece (Ok n) = (n ≡ 0 → length piece ≡ 0) → now ≡ before
WriteIsCalm before now piece (Err sink.Failed) = Unit {0}
WriteIsCalm before now piece (Err sink.NoMemory) = now ≡ before

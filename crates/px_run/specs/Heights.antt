-- What falls while a member runs: the turns that are left, the frames that wait, and how far its frame can come without a turn.
use Rattle.std.specs.Prelude.{ℕ, zero, suc, ◌+◌, ◌*◌, max, pos, if◌then◌else◌, List, [], ◌∷◌, map, length, slice_get, Option, Some, None}
use Rattle.px_regcode.specs.declared.codes.Code.{Code}
use Rattle.px_regcode.specs.declared.instructions.Instr.{Instr}
use Rattle.px_regcode.specs.Images.{ImageParts}
use Rattle.px_regcode.specs.Facts.{FrameFact, frame_fact, Way, outside, successors, frame_after}
use Rattle.px_regcode.specs.Paths.{spends}
use Rattle.px_machine.specs.Slots.{Frame, Member}

-- the fact of a frame outside of parallel loops, which took no lock
abbrev pub fact_of : Frame → FrameFact
fact_of frame = frame_fact frame.handler (pos 0) outside

abbrev pub greatest : List ℕ → ℕ
greatest [] = 0
greatest (n ∷ ns) = max n (greatest ns)

-- 0 where no instruction stands, or one that spends a turn
abbrev pub if_free : Option Instr → (Instr → ℕ) → ℕ
if_free None go = 0
if_free (Some i) go = if spends i then 0 else go i

-- how many instructions the longest way from a place has on which none spends a turn, of the ways of at most so many
unfoldable pub height : ℕ → ImageParts → Code → ℕ → FrameFact → ℕ
height zero image code pc fact = 0
height (suc n) image code pc fact =
    if_free (slice_get code.instrs pc)
    (λ i. suc (greatest (map (λ (p : Way × ℕ). height n image code p.1 (frame_after i p.0 fact)) (successors image pc i fact))))

-- no such way has more instructions than its function
abbrev pub height_in : Option Code → ImageParts → Frame → ℕ
height_in None image frame = 0
height_in (Some code) image frame = height (length code.instrs) image code frame.pc (fact_of frame)

abbrev pub frame_height : ImageParts → Frame → ℕ
frame_height image frame = height_in (slice_get image.codes frame.function) image frame

-- the greatest number of instructions of a function
abbrev pub longest : ImageParts → ℕ
longest image = greatest (map (λ (code : Code). length code.instrs) image.codes)

-- A call spends a turn for a frame that waits then, so a turn counts as two such frames.
unfoldable pub steps_left : ImageParts → Member → ℕ
steps_left image m = (longest image + 1) * (2 * m.rest.turns + length m.callers) + frame_height image m.frame

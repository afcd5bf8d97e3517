-- A listed table that passes the test has what its places hand on.
use Rattle.std.proofs.Common.{◌≡◌, ℕ, pos, true, List, slice_get, Some, None, Contains, subst}
use Rattle.px_regcode.specs.declared.codes.Code.{Code}
use Rattle.px_regcode.specs.declared.instructions.Instr.{Instr}
use Rattle.px_regcode.specs.Images.{ImageParts, IsAt}
use Rattle.px_regcode.specs.Facts.{FrameFact, frame_fact, outside, Way, successors, first_state}
use Rattle.px_regcode.specs.Tables.{IsTable}
use Rattle.px_regcode.specs.Listed.{Place, place_at, frames_of, registers_of, is_fact, every, every_below, has_fact, hands_all}
use Rattle.px_regcode.specs.Listed.{is_closed_at, is_closed_code, is_closed}
use Rattle.px_regcode.proofs.Tests.{both, every_in, every_at, every_below_at, element_at, fact_is, fact_in}

module _ (image : ImageParts) (table : List (List Place)) (closed : is_closed image table ≡ true) where
  code_closed : (f : ℕ) (code : Code) → slice_get image.codes f ≡ Some code → is_closed_code image table f code ≡ true
  unfolding is_closed
  code_closed f code at = every_at (λ f code. is_closed_code image table f code) image.codes closed f code at

  -- the three parts of the test of a function
  is_begun : (f : ℕ) (code : Code) → slice_get image.codes f ≡ Some code
      → is_fact (place_at table f 0).frame (frame_fact None (pos 0) outside) ≡ true
  is_begun f code at = (both _ _ (both _ _ (code_closed f code at)).0).0

  has_parameters : (f : ℕ) (code : Code) → slice_get image.codes f ≡ Some code
      → every_below code.registers (λ r. has_fact (place_at table f 0).registers (r, first_state (slice_get code.params r))) ≡ true
  has_parameters f code at = (both _ _ (both _ _ (code_closed f code at)).0).1

  goes_on : (f pc : ℕ) (i : Instr) (fact : FrameFact) → IsAt image f pc i → frames_of table f pc fact
      → every (λ next. hands_all image table f pc i fact next) (successors image pc i fact) ≡ true
  goes_on f pc i fact at is =
      let all = (both _ _ (code_closed f at.code at.is_code)).1 in
      let one = every_at (λ pc i. is_closed_at image table f pc i (place_at table f pc).frame) at.code.instrs all pc i at.is_instr in
      subst (λ o. is_closed_at image table f pc i o ≡ true) is one

  hands : (f pc to : ℕ) (i : Instr) (way : Way) (fact : FrameFact) → frames_of table f pc fact → IsAt image f pc i
      → Contains (successors image pc i fact) (way, to) → hands_all image table f pc i fact (way, to) ≡ true
  hands f pc to i way fact is at next = every_in (λ n. hands_all image table f pc i fact n) (successors image pc i fact)
      (goes_on f pc i fact at is) (way, to) next

  pub is_table : IsTable image (frames_of table) (registers_of table)
  is_table = record {
    entry = λ f lt. let code = element_at image.codes f lt in fact_is _ _ (is_begun f code.0 code.1);
    follows = λ f pc to i way fact is at next. fact_is _ _ (both _ _ (both _ _ (hands f pc to i way fact is at next)).0).0;
    parameters = λ f r code at lt. fact_in _ _ (every_below_at code.registers _ (has_parameters f code at) r lt);
    made = λ f pc to r i way fact s is at next makes.
        fact_in _ _ (every_in _ _ (both _ _ (both _ _ (hands f pc to i way fact is at next)).0).1 (r, s) makes);
    handed = λ f pc to r d i way fact s t is at next may gives.
        fact_in _ _ (every_in _ _ (every_in _ _ (both _ _ (hands f pc to i way fact is at next)).1 (r, s) may) (d, t) gives);
  }

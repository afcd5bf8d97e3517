-- Code with a parallel loop that takes the lock is formed: it writes a view, prints under the lock with a handler, and may return.
use Rattle.std.proofs.Common.{◌≡◌, ◌≢◌, ℕ, zero, suc, ◌<◌, pos, negsuc, true, false, List, [], ◌∷◌, ◌++◌, map, slice_get}
use Rattle.std.proofs.Common.{codes, Some, None, refl, subst, arith}
use Rattle.px_base.specs.declared.c_types.CType.TheVariants.{Long, Bint}
use Rattle.px_base.specs.declared.c_types.Schedule.TheVariants.{Static}
use Rattle.px_regcode.specs.declared.operands.Register.{Register}
use Rattle.px_regcode.specs.declared.operands.RegKind.TheVariants as kind
use Rattle.px_regcode.specs.declared.operands.StopKind.TheVariants as stop
use Rattle.px_regcode.specs.declared.codes.Code.{Code}
use Rattle.px_regcode.specs.declared.codes.Start.TheVariants as start
use Rattle.px_regcode.specs.declared.plans.LoopPlan.{LoopPlan}
use Rattle.px_regcode.specs.declared.instructions.Instr.{Instr}
use Rattle.px_regcode.specs.declared.instructions.Instr.TheVariants as instr
use Rattle.px_regcode.specs.Images.{ImageParts, IsAt}
use Rattle.px_regcode.specs.Effects.{is_object, may_fault, reads, writes, gives_whole, gives_object, empties}
use Rattle.px_regcode.specs.Operands.{targets, takes}
use Rattle.px_regcode.specs.Facts.{State, empty, whole, object, held, lent, FrameFact, frame_fact, outside, inside, to_look, to_claim}
use Rattle.px_regcode.specs.Facts.{to_begin}
use Rattle.px_regcode.specs.Facts.{in_iteration, done, successors, frame_done, frame_after, makes, derives, hands_on}
use Rattle.px_regcode.specs.Shapes.{IsShaped, IsReducing, needs}
use Rattle.px_regcode.specs.Plans.{IsPlan, BodyMay, BodyReaches}
use Rattle.px_regcode.specs.Formed.{IsFormed, IsKind, StandsIn, owning_writes}
use Rattle.px_regcode.specs.Listed.{Place, is_closed, keeps_rules, AllStated, same_state, same_fact, is_of_kind, meets}
use Rattle.px_regcode.proofs.Tests.{each_in}
use Rattle.px_regcode.proofs.FormedCode.{formed_by_test, spared}
use Rattle.px_regcode.proofs.LoopCode.{is_calling, is_free_of, opens_no_frame}

abbrev r : ℕ → Register
r n = record { number = n }

abbrev writing : List Instr
writing =
    instr.Const (r 1) (pos 0) ∷ instr.Extent (r 2) (r 0) 0 ∷ instr.Const (r 3) (pos 1) ∷ instr.Const (r 4) (pos 0) ∷ instr.Handle 38
    ∷ instr.Leave ∷ instr.Loop 0 (Some (r 5)) 13 ∷ instr.Ticket ∷ instr.Enter ∷ instr.Unhandle ∷ instr.Release (r 0)
    ∷ instr.Const (r 5) (pos 0) ∷ instr.Return (r 5) ∷ instr.Ticket ∷ instr.Enter ∷ instr.Unhandle ∷ instr.Release (r 0)
    ∷ instr.Return (r 5) ∷ instr.Look ∷ instr.Claim ∷ instr.Begin ∷ instr.Put Long (r 0) (r 4 ∷ []) (r 4) ∷ instr.Turned (r 7) (r 0)
    ∷ instr.Branch (r 4) 24 26 ∷ instr.Const (r 8) (pos 5) ∷ instr.Stop stop.Return (Some (r 8)) ∷ instr.Ticket ∷ instr.Enter
    ∷ instr.Handle 35 ∷ instr.Box Long (r 6) (r 4) ∷ instr.Print (r 6 ∷ []) ∷ instr.Drop (r 6) ∷ instr.Unhandle ∷ instr.Leave
    ∷ instr.End ∷ instr.Drop (r 6) ∷ instr.Leave ∷ instr.Throw ∷ instr.Ticket ∷ instr.Enter ∷ instr.Release (r 0) ∷ instr.Throw ∷ []

-- the function has a view, which it lets go where it ends
abbrev writer : Code
writer = record {
  name = codes "fill";
  params = kind.View 1 ∷ [];
  result = kind.Whole;
  start = start.Held;
  registers = 9;
  instrs = writing;
  lines = map (λ i. 1) writing;
}

abbrev main : Code
main = record {
  name = codes "module";
  params = [];
  result = kind.Empty;
  start = start.Held;
  registers = 0;
  instrs = instr.Finish ∷ [];
  lines = 1 ∷ [];
}

abbrev plan : LoopPlan
plan = record {
  function = 1;
  start = 18;
  index = Long;
  schedule = Static;
  args = record { first = 1; past = 2; by = 3; team = None; size = None; counter = 4 };
  takes_lock = true;
  depth = Some 0;
  copies = [];
  views = record { register = 0; owned = Some (record { axis = 0; k = pos 1; uses = record { c = pos 0; ctype = Long } ∷ [] }) } ∷ [];
}

abbrev image : ImageParts
image = record { codes = main ∷ writer ∷ []; loops = plan ∷ []; constants = [] }

-- ---- the facts

abbrev place : FrameFact → List (ℕ × State) → ℕ → Place
place fact registers rank = record { frame = Some fact; registers = registers; rank = rank }

abbrev facts_0 : List (ℕ × State)
facts_0 =
    (0, held 1 false) ∷ (1, empty) ∷ (2, empty) ∷ (3, empty) ∷ (4, empty) ∷ (5, empty) ∷ (6, empty) ∷ (7, empty) ∷ (8, empty) ∷ []

abbrev facts_1 : List (ℕ × State)
facts_1 =
    (0, held 1 false) ∷ (1, whole) ∷ (2, empty) ∷ (3, empty) ∷ (4, empty) ∷ (5, empty) ∷ (6, empty) ∷ (7, empty) ∷ (8, empty) ∷ []

abbrev facts_2 : List (ℕ × State)
facts_2 =
    (0, held 1 false) ∷ (1, whole) ∷ (2, whole) ∷ (3, empty) ∷ (4, empty) ∷ (5, empty) ∷ (6, empty) ∷ (7, empty) ∷ (8, empty) ∷ []

abbrev facts_3 : List (ℕ × State)
facts_3 =
    (0, held 1 false) ∷ (1, whole) ∷ (2, whole) ∷ (3, whole) ∷ (4, empty) ∷ (5, empty) ∷ (6, empty) ∷ (7, empty) ∷ (8, empty) ∷ []

abbrev facts_4 : List (ℕ × State)
facts_4 =
    (0, held 1 false) ∷ (1, whole) ∷ (2, whole) ∷ (3, whole) ∷ (4, whole) ∷ (5, empty) ∷ (6, empty) ∷ (7, empty) ∷ (8, empty) ∷ []

abbrev facts_5 : List (ℕ × State)
facts_5 =
    (0, empty) ∷ (1, whole) ∷ (2, whole) ∷ (3, whole) ∷ (4, whole) ∷ (5, empty) ∷ (6, empty) ∷ (7, empty) ∷ (8, empty) ∷ []

abbrev facts_6 : List (ℕ × State)
facts_6 =
    (0, empty) ∷ (1, whole) ∷ (2, whole) ∷ (3, whole) ∷ (4, whole) ∷ (5, whole) ∷ (6, empty) ∷ (7, empty) ∷ (8, empty) ∷ []

abbrev facts_7 : List (ℕ × State)
facts_7 =
    (0, held 1 false) ∷ (1, whole) ∷ (2, whole) ∷ (3, whole) ∷ (4, whole) ∷ (5, whole) ∷ (6, empty) ∷ (7, empty) ∷ (8, empty) ∷ []

abbrev facts_8 : List (ℕ × State)
facts_8 =
    (0, held 1 true) ∷ (1, whole) ∷ (2, whole) ∷ (3, whole) ∷ (4, whole) ∷ (5, empty) ∷ (6, empty) ∷ (7, empty) ∷ (7, lent 1 0 false)
    ∷ (8, empty) ∷ []

abbrev facts_9 : List (ℕ × State)
facts_9 =
    (0, held 1 true) ∷ (1, whole) ∷ (2, whole) ∷ (3, whole) ∷ (4, whole) ∷ (5, empty) ∷ (6, empty) ∷ (7, lent 1 0 false) ∷ (8, empty) ∷ []

abbrev facts_10 : List (ℕ × State)
facts_10 =
    (0, held 1 true) ∷ (1, whole) ∷ (2, whole) ∷ (3, whole) ∷ (4, whole) ∷ (5, empty) ∷ (6, empty) ∷ (7, lent 1 0 false) ∷ (8, whole) ∷ []

abbrev facts_11 : List (ℕ × State)
facts_11 =
    (0, held 1 true) ∷ (1, whole) ∷ (2, whole) ∷ (3, whole) ∷ (4, whole) ∷ (5, empty) ∷ (6, object false) ∷ (7, lent 1 0 false)
    ∷ (8, empty) ∷ []

abbrev facts_12 : List (ℕ × State)
facts_12 =
    (0, held 1 true) ∷ (1, whole) ∷ (2, whole) ∷ (3, whole) ∷ (4, whole) ∷ (5, empty) ∷ (6, empty) ∷ (6, object false)
    ∷ (7, lent 1 0 false) ∷ (8, empty) ∷ []

abbrev body : List Place
body =
    place (frame_fact None (pos 0) (inside 0 to_look)) facts_8 3 ∷ place (frame_fact None (pos 0) (inside 0 to_claim)) facts_8 2
    ∷ place (frame_fact None (pos 0) (inside 0 to_begin)) facts_8 1
    ∷ place (frame_fact None (pos 0) (inside 0 in_iteration)) facts_8 15
    ∷ place (frame_fact None (pos 0) (inside 0 in_iteration)) facts_8 14
    ∷ place (frame_fact None (pos 0) (inside 0 in_iteration)) facts_9 13
    ∷ place (frame_fact None (pos 0) (inside 0 in_iteration)) facts_9 2
    ∷ place (frame_fact None (pos 0) (inside 0 in_iteration)) facts_10 1
    ∷ place (frame_fact None (pos 0) (inside 0 in_iteration)) facts_9 12
    ∷ place (frame_fact None (pos 0) (inside 0 in_iteration)) facts_9 11
    ∷ place (frame_fact None (pos 1) (inside 0 in_iteration)) facts_9 10
    ∷ place (frame_fact (Some 35) (pos 1) (inside 0 in_iteration)) facts_9 9
    ∷ place (frame_fact (Some 35) (pos 1) (inside 0 in_iteration)) facts_11 8
    ∷ place (frame_fact (Some 35) (pos 1) (inside 0 in_iteration)) facts_11 7
    ∷ place (frame_fact (Some 35) (pos 1) (inside 0 in_iteration)) facts_9 6
    ∷ place (frame_fact None (pos 1) (inside 0 in_iteration)) facts_9 5
    ∷ place (frame_fact None (pos 0) (inside 0 in_iteration)) facts_9 4
    ∷ place (frame_fact None (pos 1) (inside 0 in_iteration)) facts_12 3
    ∷ place (frame_fact None (pos 1) (inside 0 in_iteration)) facts_9 2
    ∷ place (frame_fact None (pos 0) (inside 0 in_iteration)) facts_9 1 ∷ []

abbrev before : List Place
before =
    place (frame_fact None (pos 0) outside) facts_0 13 ∷ place (frame_fact None (pos 0) outside) facts_1 12
    ∷ place (frame_fact None (pos 0) outside) facts_2 11 ∷ place (frame_fact None (pos 0) outside) facts_3 10
    ∷ place (frame_fact None (pos 0) outside) facts_4 9 ∷ place (frame_fact (Some 38) (pos 0) outside) facts_4 8
    ∷ place (frame_fact (Some 38) (negsuc 0) outside) facts_4 7 ∷ place (frame_fact (Some 38) (negsuc 0) outside) facts_4 6
    ∷ place (frame_fact (Some 38) (negsuc 0) outside) facts_4 5 ∷ place (frame_fact (Some 38) (pos 0) outside) facts_4 4
    ∷ place (frame_fact None (pos 0) outside) facts_4 3 ∷ place (frame_fact None (pos 0) outside) facts_5 2
    ∷ place (frame_fact None (pos 0) outside) facts_6 1 ∷ place (frame_fact (Some 38) (negsuc 0) outside) facts_7 5
    ∷ place (frame_fact (Some 38) (negsuc 0) outside) facts_7 4 ∷ place (frame_fact (Some 38) (pos 0) outside) facts_7 3
    ∷ place (frame_fact None (pos 0) outside) facts_7 2 ∷ place (frame_fact None (pos 0) outside) facts_6 1 ∷ []

abbrev behind : List Place
behind =
    place (frame_fact None (negsuc 0) outside) facts_4 4 ∷ place (frame_fact None (negsuc 0) outside) facts_4 3
    ∷ place (frame_fact None (pos 0) outside) facts_4 2 ∷ place (frame_fact None (pos 0) outside) facts_5 1 ∷ []

abbrev table : List (List Place)
table = (place (frame_fact None (pos 0) outside) [] 0 ∷ []) ∷ (before ++ (body ++ behind)) ∷ []

abbrev body_places : List Place
body_places = map (λ p. record { frame = None; registers = []; rank = 0 }) before ++ body

closed : is_closed image table ≡ true
unfolding is_closed successors same_fact same_state frame_after frame_done may_fault writes gives_whole gives_object empties makes derives
    hands_on
closed = refl

kept : keeps_rules image table ≡ true
unfolding keeps_rules reads writes empties takes targets successors may_fault is_object needs owning_writes gives_object is_of_kind meets
kept = refl

free_of_calls : is_free_of is_calling image body_places 0 plan writer ≡ true
unfolding is_free_of successors same_fact frame_after frame_done may_fault
free_of_calls = refl

-- ---- its plan

at : (pc : ℕ) (i : Instr) → slice_get writing pc ≡ Some i → IsAt image 1 pc i
at pc i is = record { code = writer; is_code = refl; is_instr = is }

abbrev in_body : ℕ → FrameFact → Type 0
in_body pc fact = BodyMay image 0 plan pc fact

-- the way to the ticket in the loop's code
to_claim_it : in_body 19 (frame_fact None (pos 0) (inside 0 to_claim))
unfolding successors frame_after frame_done
to_claim_it = BodyMay.follows {way = done} BodyMay.entry (at 18 _ refl) (0, omega arith, refl)

to_begin_it : in_body 20 (frame_fact None (pos 0) (inside 0 to_begin))
unfolding successors frame_after frame_done
to_begin_it = BodyMay.follows {way = done} to_claim_it (at 19 _ refl) (0, omega arith, refl)

to_put : in_body 21 (frame_fact None (pos 0) (inside 0 in_iteration))
unfolding successors frame_after frame_done
to_put = BodyMay.follows {way = done} to_begin_it (at 20 _ refl) (0, omega arith, refl)

to_branch : in_body 23 (frame_fact None (pos 0) (inside 0 in_iteration))
unfolding successors frame_after frame_done
to_branch =
    BodyMay.follows {way = done} (BodyMay.follows {way = done} to_put (at 21 _ refl) (0, omega arith, refl)) (at 22 _ refl)
    (0, omega arith, refl)

to_ticket : in_body 26 (frame_fact None (pos 0) (inside 0 in_iteration))
unfolding successors frame_after frame_done
to_ticket = BodyMay.follows {way = done} to_branch (at 23 _ refl) (1, omega arith, refl)

is_plan : IsPlan image 0 plan
is_plan = record {
  code = writer;
  is_there = refl;
  start = omega arith;
  registers = λ r named. each_in (λ r. r < 9) (1 ∷ 2 ∷ 3 ∷ 4 ∷ 0 ∷ [])
      (omega arith, (omega arith, (omega arith, (omega arith, (omega arith, tt))))) r named;
  reductions = λ copy o named is. each_in (λ c. (c.ctype ≢ Bint) × IsReducing o) [] tt copy named;
  lock = ((λ is. BodyReaches.itself to_ticket (at 26 _ refl) refl), λ reaches. refl);
  depth = opens_no_frame is_calling image body_places 0 plan writer refl free_of_calls (λ i is. is);
}

-- ---- it is formed

stated : AllStated image table 0 image.codes
unfolding IsShaped StandsIn
stated =
    let plain : Unit {0} × Unit {0} × Unit {0} = (tt, tt, tt) in (
      (((refl, tt, tt), tt)),
      (
        ((
          ((record { le = tt }, record { le = tt }), tt, tt),
          (
            plain,
            (
              ((record { le = tt }, record { le = tt }), tt, tt),
              (
                (
                  (
                    record {
                      le =
                          tt;
                    },
                    record { le = tt },
                  ),
                  tt,
                  tt,
                ),
                (
                  plain,
                  (
                    plain,
                    (
                      ((omega arith, tt), tt, tt),
                      (
                        plain,
                        (
                          plain,
                          (
                            plain,
                            (
                              plain,
                              (
                                (
                                  (
                                    record {
                                      le
                                          = tt;
                                    },
                                    record { le = tt },
                                  ),
                                  tt,
                                  tt,
                                ),
                                (
                                  (tt, (λ is. cc), tt),
                                  (
                                    plain,
                                    (
                                      plain,
                                      (
                                        plain,
                                        (
                                          plain,
                                          (
                                            (tt, (λ is. cc), tt),
                                            (
                                              plain,
                                              (
                                                plain,
                                                (
                                                  plain,
                                                  (
                                                    plain,
                                                    (
                                                      plain,
                                                      (
                                                        plain,
                                                        (
                                                          ((record { le = tt }, record { le = tt }), tt, tt),
                                                          (
                                                            plain,
                                                            (
                                                              plain,
                                                              (
                                                                plain,
                                                                (
                                                                  plain,
                                                                  (
                                                                    plain,
                                                                    (
                                                                      plain,
                                                                      (
                                                                        plain,
                                                                        (
                                                                          plain,
                                                                          (
                                                                            plain,
                                                                            (
                                                                              plain,
                                                                              (
                                                                                plain,
                                                                                (
                                                                                  plain,
                                                                                  (
                                                                                    plain,
                                                                                    (
                                                                                      plain,
                                                                                      (
                                                                                        plain,
                                                                                        (
                                                                                          plain,
                                                                                          (
                                                                                            plain,
                                                                                            tt,
                                                                                          ),
                                                                                        ),
                                                                                      ),
                                                                                    ),
                                                                                  ),
                                                                                ),
                                                                              ),
                                                                            ),
                                                                          ),
                                                                        ),
                                                                      ),
                                                                    ),
                                                                  ),
                                                                ),
                                                              ),
                                                            ),
                                                          ),
                                                        ),
                                                      ),
                                                    ),
                                                  ),
                                                ),
                                              ),
                                            ),
                                          ),
                                        ),
                                      ),
                                    ),
                                  ),
                                ),
                              ),
                            ),
                          ),
                        ),
                      ),
                    ),
                  ),
                ),
              ),
            ),
          ),
        )),
        tt,
      ),
    )

locked_loop_code_is_formed : IsFormed image
locked_loop_code_is_formed =
    formed_by_test main (writer ∷ []) image table refl closed kept stated
    (record { name = refl; start = refl; result = refl; params = refl }) (
      (
        (λ is. cc),
        spared 32 (codes "fill") (omega arith, (omega arith, (omega arith, (omega arith, tt)))),
        spared 10 (codes "fill") (omega arith, (omega arith, (omega arith, (omega arith, tt)))),
      ),
      tt,
    ) (
      record { some = omega arith; lines = refl; room = omega arith; kinds = λ k named. each_in IsKind (kind.Empty ∷ []) (tt, tt) k named },
      (
        record {
          some = omega arith;
          lines = refl;
          room = omega arith;
          kinds = λ k named. each_in IsKind (kind.Whole ∷ kind.View 1 ∷ []) (tt, ((omega arith, omega arith), tt)) k named;
        },
        tt,
      ),
    )
    plans
  where
    plans : (n : ℕ) (other : LoopPlan) → slice_get (plan ∷ []) n ≡ Some other → IsPlan image n other
    plans zero other at = let same : plan ≡ other = cc in subst (λ p. IsPlan image 0 p) same is_plan
    plans (suc n) other at = cc

-- Parallel loops along journals and in the order of their indices, whose reports are worked out.
use Rattle.std.proofs.Common.{◌≡◌, refl, sym, subst}
use Rattle.std.specs.Prelude.{ℕ, ℤ, pos, negsuc, false, List, [], ◌∷◌, codes, map, Option, Some, None}
use Rattle.px_base.specs.declared.c_types.CType.TheVariants as c
use Rattle.px_base.specs.declared.c_types.BinOp.{BinOp}
use Rattle.px_base.specs.declared.c_types.BinOp.TheVariants as op
use Rattle.px_base.specs.declared.c_types.CmpOp.TheVariants as cmp
use Rattle.px_base.specs.declared.c_types.Schedule.TheVariants as schedule
use Rattle.px_ctypes.specs.Wrapping.{wrap}
use Rattle.px_model.specs.Partition.{partition}
use Rattle.px_model.specs.Chunks.{chunk_table}
use Rattle.px_model.specs.declared.journals.Ran.{Ran}
use Rattle.px_model.specs.declared.journals.Journal.{Journal}
use Rattle.px_model.specs.declared.outcomes.LoopEnd.{LoopEnd}
use Rattle.px_model.specs.declared.outcomes.LoopEnd.TheVariants as loop_end
use Rattle.px_tree.specs.declared.typed_heads.TypedHead.TheVariants as head
use Rattle.px_typed_walk.specs.TypedView.{TypedRose}
use Rattle.std.specs.Fmt.{digits}
use Rattle.px_meaning.specs.Values.{Variable, whole}
use Rattle.px_meaning.specs.Interactions.{done, released, LoopEntry}
use Rattle.px_meaning.specs.Ends.{Ends, meaningless, gives, next, HasMeaning, Flow}
use Rattle.px_meaning.specs.Expressions.{Context, eval, eval_by}
use Rattle.px_meaning.specs.Statements.{exec, exec_by, in_turn}
use Rattle.px_meaning.specs.Iterations.{Role, reduction, last, private, LoopBodies, ended, refused}
use Rattle.px_meaning.specs.InIndexOrder.{plain_loop}
use Rattle.px_meaning.specs.OneWorld.{first_store, first_world, together}
use Rattle.px_meaning.specs.OneWorld as order
use Rattle.px_meaning.specs.Journals.{Running, result_at, stores_of, report_along, sections_along, EndsAlong}
use Rattle.px_meaning.proofs.Trees.{node, number, long, local, given, binary, compare, alone, print_long, set, arm, pass}

-- the variables are the index, a sum and a third one
abbrev context : Context
context = record { calls = λ function arguments s. done meaningless; constants = []; bound = 100 }

abbrev body_of : List Role → List TypedRose → LoopBodies
body_of roles statements prange = record { roles = roles; index = 0; index_type = c.Long; run = in_turn (map (exec context) statements) }

abbrev pub entry_of : ℕ → ℕ → ℤ → ℤ → List Variable → LoopEntry
entry_of count members start step variables = record {
  prange = 0;
  partition = partition count members schedule.Static None;
  start = start;
  step = step;
  opening = record {
    frame = record { variables = variables; temporaries = []; kept = None };
    callers = [];
    store = None;
    turns = 50;
    members = members;
  };
}

abbrev pub ran : ℕ → ℕ → ℕ → Ran
ran chunk member count = record { chunk = chunk; member = member; ran = count }

abbrev pub journal_of : ℕ → ℕ → List Ran → List ℕ → Option ℕ → Journal
journal_of members count runs sections stopped =
    record { members = members; schedule = schedule.Static; size = None; count = count; ran = runs; sections = sections; stopped = stopped }

abbrev pub running : LoopBodies → LoopEntry → Running
running bodies entry = record { bodies = bodies; entry = entry; words = λ cell. 0; store = first_store 0 [] }

abbrev Reports : LoopBodies → LoopEntry → Journal → LoopEnd → List Variable → ℕ → Type 0
Reports bodies entry journal end variables turns =
    report_along (running bodies entry) journal ≡ record { end = end; variables = variables; turns = turns }

-- x op= e
abbrev augment : BinOp → ℕ → TypedRose → TypedRose
augment how slot e = node (head.Augment how) (local slot c.Long ∷ binary how c.Long (given c.Long) e ∷ [])

-- total = 0: for i in prange(5, 0, -2): total += i, on two members: total is 9, and i is 1
goes_down : Reports (body_of (last ∷ reduction op.Add c.Long ∷ []) (augment op.Add 1 (local 0 c.Long) ∷ []))
    (entry_of 3 2 (pos 5) (negsuc 1) (None ∷ Some (whole (pos 0)) ∷ []))
    (journal_of 2 3 (ran 0 0 2 ∷ ran 1 1 1 ∷ []) [] None)
    loop_end.Over (Some (whole (pos 1)) ∷ Some (whole (pos 9)) ∷ []) 47
unfolding report_along result_at stores_of chunk_table exec exec_by eval eval_by wrap
goes_down = refl

-- total = 100: for i in prange(10): total -= i, on four members: total is 55
differences : Reports (body_of (last ∷ reduction op.Sub c.Long ∷ []) (augment op.Sub 1 (local 0 c.Long) ∷ []))
    (entry_of 10 4 (pos 0) (pos 1) (None ∷ Some (whole (pos 100)) ∷ []))
    (journal_of 4 10 (ran 0 0 3 ∷ ran 1 1 3 ∷ ran 2 2 2 ∷ ran 3 3 2 ∷ []) [] None)
    loop_end.Over (Some (whole (pos 9)) ∷ Some (whole (pos 55)) ∷ []) 40
unfolding report_along result_at stores_of chunk_table exec exec_by eval eval_by wrap
differences = refl

-- product = 3: for i in prange(1, 5): product *= i gives 72, once and not once for each member
products : Reports (body_of (last ∷ reduction op.Mul c.Long ∷ []) (augment op.Mul 1 (local 0 c.Long) ∷ []))
    (entry_of 4 2 (pos 1) (pos 1) (None ∷ Some (whole (pos 3)) ∷ []))
    (journal_of 2 4 (ran 0 0 2 ∷ ran 1 1 2 ∷ []) [] None)
    loop_end.Over (Some (whole (pos 4)) ∷ Some (whole (pos 72)) ∷ []) 46
unfolding report_along result_at stores_of chunk_table exec exec_by eval eval_by wrap
products = refl

-- mask = 14: for i in prange(4, 7): mask &= i gives 14 & 4 & 5 & 6, which is 4; and a loop that changes nothing of it gives 14
masks : Reports (body_of (last ∷ reduction op.BitAnd c.Long ∷ []) (augment op.BitAnd 1 (local 0 c.Long) ∷ []))
    (entry_of 3 2 (pos 4) (pos 1) (None ∷ Some (whole (pos 14)) ∷ []))
    (journal_of 2 3 (ran 0 0 2 ∷ ran 1 1 1 ∷ []) [] None)
    loop_end.Over (Some (whole (pos 6)) ∷ Some (whole (pos 4)) ∷ []) 47
unfolding report_along result_at stores_of chunk_table exec exec_by eval eval_by wrap
masks = refl

untouched_mask : Reports (body_of (last ∷ reduction op.BitAnd c.Long ∷ []) (pass ∷ []))
    (entry_of 3 2 (pos 4) (pos 1) (None ∷ Some (whole (pos 14)) ∷ []))
    (journal_of 2 3 (ran 0 0 2 ∷ ran 1 1 1 ∷ []) [] None)
    loop_end.Over (Some (whole (pos 6)) ∷ Some (whole (pos 14)) ∷ []) 47
unfolding report_along result_at stores_of chunk_table exec exec_by eval eval_by wrap
untouched_mask = refl

-- for i in prange(6): if i == 4: break, on two members, of which the second one stops at its second iteration; i is 4
breaks_off : Reports (body_of (last ∷ []) (node (head.If 1 false)
    (arm (compare cmp.Eq c.Long (local 0 c.Long) (long 4)) (node head.Break [] ∷ []) ∷ []) ∷ []))
    (entry_of 6 2 (pos 0) (pos 1) (Some (whole (pos 7)) ∷ []))
    (journal_of 2 6 (ran 0 0 1 ∷ ran 1 1 2 ∷ []) [] (Some 4))
    loop_end.Broke (Some (whole (pos 4)) ∷ []) 47
unfolding report_along result_at stores_of chunk_table exec exec_by eval eval_by wrap
breaks_off = refl

-- a private variable that only some iterations assign has its old value behind the loop, and a last value is that of the greatest place
privates : Reports (body_of (last ∷ last ∷ private ∷ []) (set 1 c.Long (binary op.Mul c.Long (local 0 c.Long) (long 10)) ∷
    set 2 c.Long (local 0 c.Long) ∷ []))
    (entry_of 4 2 (pos 0) (pos 1) (None ∷ None ∷ Some (whole (pos 8)) ∷ []))
    (journal_of 2 4 (ran 0 0 2 ∷ ran 1 1 2 ∷ []) [] None)
    loop_end.Over (Some (whole (pos 3)) ∷ Some (whole (pos 30)) ∷ Some (whole (pos 8)) ∷ []) 46
unfolding report_along result_at stores_of chunk_table exec exec_by eval eval_by wrap
privates = refl

-- for i in prange(3): with gil: print(i): the output is in the order of the sections
abbrev pub printing_body : LoopBodies
printing_body = body_of (last ∷ []) (node head.WithGil (print_long (local 0 c.Long) ∷ []) ∷ [])

sections_in_order : (sections_along (running printing_body (entry_of 3 3 (pos 0) (pos 1) (None ∷ [])))
    (journal_of 3 3 (ran 0 0 1 ∷ ran 1 1 1 ∷ ran 2 2 1 ∷ []) (2 ∷ 0 ∷ 1 ∷ []) None)).store.output ≡ codes "2\n0\n1\n"
unfolding report_along result_at stores_of chunk_table exec exec_by eval eval_by wrap digits
sections_in_order = refl

-- more iterations than turns: the loop is spent
turns_of_loops : Reports (body_of (last ∷ []) (node head.While (number c.Bint (pos 1) ∷ node head.Pass [] ∷ []) ∷ []))
    (entry_of 1 1 (pos 0) (pos 1) (None ∷ []))
    (journal_of 1 1 (ran 0 0 1 ∷ []) [] (Some 0))
    loop_end.Spent (Some (whole (pos 0)) ∷ []) 0
unfolding report_along result_at stores_of chunk_table exec exec_by eval eval_by wrap
turns_of_loops = refl

-- In the order of indices

abbrev ReportsInOrder : LoopBodies → LoopEntry → LoopEnd → List Variable → ℕ → Type 0
ReportsInOrder bodies entry end variables turns =
    together (plain_loop bodies entry) (first_world 0 []) ≡ order.ended (Some (record { end = end; variables = variables; turns = turns }))
    (first_world 0 [])

-- the loop that goes down, on one state
goes_down_in_order : ReportsInOrder (body_of (last ∷ reduction op.Add c.Long ∷ []) (augment op.Add 1 (local 0 c.Long) ∷ []))
    (entry_of 3 2 (pos 5) (negsuc 1) (None ∷ Some (whole (pos 0)) ∷ []))
    loop_end.Over (Some (whole (pos 1)) ∷ Some (whole (pos 9)) ∷ []) 47
unfolding plain_loop exec exec_by eval eval_by wrap
goes_down_in_order = refl

-- for i in prange(6): if i == 4: break; total += i: one member ends as the order of indices does, with 0 + 1 + 2 + 3
abbrev pub breaking : LoopBodies
breaking = body_of (last ∷ reduction op.Add c.Long ∷ [])
    (node (head.If 1 false) (arm (compare cmp.Eq c.Long (local 0 c.Long) (long 4)) (node head.Break [] ∷ []) ∷ []) ∷
    augment op.Add 1 (local 0 c.Long) ∷ [])

abbrev pub breaking_entry : LoopEntry
breaking_entry = entry_of 6 1 (pos 0) (pos 1) (None ∷ Some (whole (pos 0)) ∷ [])

one_member_breaks : Reports breaking breaking_entry (journal_of 1 6 (ran 0 0 5 ∷ []) [] (Some 4)) loop_end.Broke (Some (whole (pos 4)) ∷
    Some (whole (pos 6)) ∷ []) 45
unfolding report_along result_at stores_of chunk_table exec exec_by eval eval_by wrap
one_member_breaks = refl

breaks_in_order : ReportsInOrder breaking breaking_entry loop_end.Broke (Some (whole (pos 4)) ∷ Some (whole (pos 6)) ∷ []) 45
unfolding plain_loop exec exec_by eval eval_by wrap
breaks_in_order = refl

-- for i in prange(3): if i == 5: total += 1, where total isn't assigned before: behind both it is 0
abbrev rare : LoopBodies
rare = body_of (last ∷ reduction op.Add c.Long ∷ [])
    (node (head.If 1 false) (arm (compare cmp.Eq c.Long (local 0 c.Long) (long 5)) (augment op.Add 1 (long 1) ∷ []) ∷ []) ∷ [])

abbrev rare_entry : LoopEntry
rare_entry = entry_of 3 2 (pos 0) (pos 1) (None ∷ None ∷ [])

unassigned_reduction : Reports rare rare_entry (journal_of 2 3 (ran 0 0 2 ∷ ran 1 1 1 ∷ []) [] None) loop_end.Over (Some (whole (pos 2)) ∷
    Some (whole (pos 0)) ∷ []) 47
unfolding report_along result_at stores_of chunk_table exec exec_by eval eval_by wrap
unassigned_reduction = refl

unassigned_reduction_in_order : ReportsInOrder rare rare_entry loop_end.Over (Some (whole (pos 2)) ∷ Some (whole (pos 0)) ∷ []) 47
unfolding plain_loop exec exec_by eval eval_by wrap
unassigned_reduction_in_order = refl

-- more iterations than turns
abbrev pub quiet_body : LoopBodies
quiet_body = body_of (last ∷ []) (pass ∷ [])

spent_in_order : ReportsInOrder quiet_body (entry_of 60 1 (pos 0) (pos 1) (None ∷ [])) loop_end.Spent (Some (whole (pos 49)) ∷ []) 0
unfolding plain_loop exec exec_by eval eval_by wrap
spent_in_order = refl

-- A body without meaning, here one with a list display, which isn't built: no journal of it is lawful, and in the order of indices there is
-- no report.
abbrev unbuilt : LoopBodies
unbuilt = body_of (last ∷ []) (alone (node head.List []) ∷ [])

abbrev unbuilt_entry : LoopEntry
unbuilt_entry = entry_of 2 1 (pos 0) (pos 1) (None ∷ [])

unbuilt_in_order : together (plain_loop unbuilt unbuilt_entry) (first_world 0 []) ≡ order.ended None (first_world 0 [])
unfolding plain_loop exec exec_by eval eval_by wrap
unbuilt_in_order = refl

same_end : {one other : Ends Flow} → ended one ≡ ended other → one ≡ other
same_end same = cc

unbuilt_has_no_end : (journal : Journal) (place : ℕ) → EndsAlong (running unbuilt unbuilt_entry) journal place → ⊥
unfolding result_at exec exec_by eval eval_by
unbuilt_has_no_end journal place h = subst HasMeaning (sym (same_end h.reached)) h.meaning

-- nor does a body have a meaning in which a buffer is released
abbrev releasing : LoopBodies
releasing prange = record { roles = last ∷ []; index = 0; index_type = c.Long; run = λ scope s. released 1 (done (gives next s)) }

releasing_in_order : together (plain_loop releasing unbuilt_entry) (first_world 0 []) ≡ order.ended None (first_world 0 [])
unfolding plain_loop wrap
releasing_in_order = refl

releasing_has_no_end : (journal : Journal) (place : ℕ) → EndsAlong (running releasing unbuilt_entry) journal place → ⊥
unfolding result_at
releasing_has_no_end journal place h = none_such h.reached
  where
    none_such : {e : Ends Flow} → refused ≡ ended e → ⊥
    none_such same = cc

-- for i in prange(4): if i == 3: break; b = i, on two members, of which one stops: b has the value of the greatest place that ran and
-- assigned it, and not what it was before
stopped_before_it : Reports (body_of (last ∷ last ∷ [])
    (node (head.If 1 false) (arm (compare cmp.Eq c.Long (local 0 c.Long) (long 3)) (node head.Break [] ∷ []) ∷ []) ∷
    set 1 c.Long (local 0 c.Long) ∷ []))
    (entry_of 4 2 (pos 0) (pos 1) (None ∷ Some (whole (pos 8)) ∷ []))
    (journal_of 2 4 (ran 0 0 1 ∷ ran 1 1 2 ∷ []) [] (Some 3))
    loop_end.Broke (Some (whole (pos 3)) ∷ Some (whole (pos 2)) ∷ []) 47
unfolding report_along result_at stores_of chunk_table exec exec_by eval eval_by wrap
stopped_before_it = refl

-- One iteration breaks, and another one runs out of turns: the loop is spent, whichever stopped it.
spent_beside_a_break : Reports (body_of (last ∷ [])
    (node (head.If 1 false) (arm (compare cmp.Eq c.Long (local 0 c.Long) (long 0)) (node head.Break [] ∷ []) ∷ []) ∷
    node head.While (number c.Bint (pos 1) ∷ pass ∷ []) ∷ []))
    (entry_of 2 2 (pos 0) (pos 1) (None ∷ []))
    (journal_of 2 2 (ran 0 0 1 ∷ ran 1 1 1 ∷ []) [] (Some 0))
    loop_end.Spent (Some (whole (pos 1)) ∷ []) 0
unfolding report_along result_at stores_of chunk_table exec exec_by eval eval_by wrap
spent_beside_a_break = refl

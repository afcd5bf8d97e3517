-- Modules whose outcome is worked out.
use Rattle.std.proofs.Common.{◌≡◌, refl}
use Rattle.std.specs.Prelude.{pos, negsuc, true, false, [], ◌∷◌, codes, None}
use Rattle.std.specs.Fmt.{digits}
use Rattle.px_base.specs.declared.c_types.CType.TheVariants as c
use Rattle.px_base.specs.declared.c_types.BinOp.TheVariants as op
use Rattle.px_base.specs.declared.c_types.CmpOp.TheVariants as cmp
use Rattle.px_base.specs.declared.faults.Kind.TheVariants.{ValueError, ZeroDivisionError, OverflowError, RecursionError}
use Rattle.px_ctypes.specs.Wrapping.{wrap}
use Rattle.px_ctypes.specs.Operators.{fault_of}
use Rattle.px_tree.specs.declared.typed_values.ValueType.TheVariants as value
use Rattle.px_tree.specs.declared.typed_heads.TypedHead.TheVariants as head
use Rattle.px_model.specs.declared.outcomes.End.TheVariants as end
use Rattle.px_meaning.specs.Calls.{SourceFunction, calls_of}
use Rattle.px_meaning.specs.Expressions.{eval, eval_by}
use Rattle.px_meaning.specs.Statements.{exec, exec_by}
use Rattle.px_meaning.specs.Modules.{module_run}
use Rattle.px_meaning.specs.OneWorld.{meaning_in}
use Rattle.px_meaning.proofs.Trees.{node, number, long, local, given, binary, truncating, compare, to, box, alone, print, print_long, set, declare, call, give, arm, pass, function, swallowing, a_module, with_main, Does, Prints}

-- The empty module prints nothing.
empty_module : Prints (a_module [] []) (codes "")
unfolding meaning_in module_run calls_of exec exec_by eval eval_by wrap digits
empty_module = refl

-- print(1)
print_in_module : Prints (a_module (print_long (long 1) ∷ []) []) (codes "1\n")
unfolding meaning_in module_run calls_of exec exec_by eval eval_by wrap digits
print_in_module = refl

-- a = 6; b = a * 7 - 2; print(b); print(a + b * b)
first : Prints
    (with_main 2 (declare 0 c.Long (long 6) ∷
    declare 1 c.Long (node (head.Steps (value.C c.Long)) (binary op.Mul c.Long (local 0 c.Long) (long 7) ∷
    binary op.Sub c.Long (given c.Long) (long 2) ∷ [])) ∷
    print_long (local 1 c.Long) ∷
    print_long (binary op.Add c.Long (local 0 c.Long) (binary op.Mul c.Long (local 1 c.Long) (local 1 c.Long))) ∷ []))
    (codes "40\n1606\n")
unfolding meaning_in module_run calls_of exec exec_by eval eval_by wrap digits
first = refl

-- print(9223372036854775807 + 1)
long_wraps : Prints
    (with_main 0 (print_long (binary op.Add c.Long (long 9223372036854775807) (long 1)) ∷ []))
    (codes "-9223372036854775808\n")
unfolding meaning_in module_run calls_of exec exec_by eval eval_by wrap digits
long_wraps = refl

-- cdef int x = 2147483647; print(x + x, x * x)
int_wraps : Prints
    (with_main 1 (declare 0 c.Int (to c.Int (long 2147483647)) ∷
    print (box c.Int (binary op.Add c.Int (local 0 c.Int) (local 0 c.Int)) ∷
    box c.Int (binary op.Mul c.Int (local 0 c.Int) (local 0 c.Int)) ∷ []) ∷ []))
    (codes "-2 1\n")
unfolding meaning_in module_run calls_of exec exec_by eval eval_by wrap digits
int_wraps = refl

-- cdef long x; print(x)
unassigned_is_zero : Prints
    (with_main 1 (node head.Declare (node (head.Declarator 0 (value.C c.Long)) [] ∷ []) ∷
    print_long (local 0 c.Long) ∷ []))
    (codes "0\n")
unfolding meaning_in module_run calls_of exec exec_by eval eval_by wrap digits
unassigned_is_zero = refl

-- cdef long a; cdef unsigned char b; a = b = 300; print(a, b)
several_targets : Prints
    (with_main 2 (node head.AssignEach (node head.Assign (local 0 c.Long ∷ given c.Long ∷ []) ∷
    node head.Assign (local 1 c.UChar ∷ to c.UChar (given c.Long) ∷ []) ∷ long 300 ∷ []) ∷
    print (box c.Long (local 0 c.Long) ∷ box c.UChar (local 1 c.UChar) ∷ []) ∷ []))
    (codes "300 44\n")
unfolding meaning_in module_run calls_of exec exec_by eval eval_by wrap digits
several_targets = refl

-- cdef bint t = 5; print(t, True, 1 < 0)
bint_is_bool : Prints
    (with_main 1 (declare 0 c.Bint (to c.Bint (long 5)) ∷
    print (box c.Bint (local 0 c.Bint) ∷ box c.Bint (number c.Bint (pos 1)) ∷ box c.Bint (compare cmp.Lt c.Long (long 1) (long 0)) ∷ []) ∷
    []))
    (codes "True True False\n")
unfolding meaning_in module_run calls_of exec exec_by eval eval_by wrap digits
bint_is_bool = refl

-- x = 40; x += 2; print(x)
augmented : Prints
    (with_main 1 (set 0 c.Long (long 40) ∷
    node (head.Augment op.Add) (local 0 c.Long ∷ binary op.Add c.Long (given c.Long) (long 2) ∷ []) ∷
    print_long (local 0 c.Long) ∷ []))
    (codes "42\n")
unfolding meaning_in module_run calls_of exec exec_by eval eval_by wrap digits
augmented = refl

-- if n == 1: print(10) elif n == 2: print(20) else: print(30), for n of 1, 2 and 3
arms : Prints
    (with_main 0 (node (head.If 2 true) (arm (compare cmp.Eq c.Long (long 1) (long 1)) (print_long (long 10) ∷ []) ∷
    arm (compare cmp.Eq c.Long (long 1) (long 2)) (print_long (long 20) ∷ []) ∷ print_long (long 30) ∷ []) ∷
    node (head.If 2 true) (arm (compare cmp.Eq c.Long (long 2) (long 1)) (print_long (long 10) ∷ []) ∷
    arm (compare cmp.Eq c.Long (long 2) (long 2)) (print_long (long 20) ∷ []) ∷ print_long (long 30) ∷ []) ∷
    node (head.If 2 true) (arm (compare cmp.Eq c.Long (long 3) (long 1)) (print_long (long 10) ∷ []) ∷
    arm (compare cmp.Eq c.Long (long 3) (long 2)) (print_long (long 20) ∷ []) ∷ print_long (long 30) ∷ []) ∷ []))
    (codes "10\n20\n30\n")
unfolding meaning_in module_run calls_of exec exec_by eval eval_by wrap digits
arms = refl

-- x = 0; while True: x += 1; if x == 2: continue; if x == 4: break; print(x), and then print(x)
loop_with_break : Prints
    (with_main 1 (node head.While (number c.Bint (pos 1) ∷ set 0 c.Long (binary op.Add c.Long (local 0 c.Long) (long 1)) ∷
    node (head.If 1 false) (arm (compare cmp.Eq c.Long (local 0 c.Long) (long 2)) (node head.Continue [] ∷ []) ∷ []) ∷
    node (head.If 1 false) (arm (compare cmp.Eq c.Long (local 0 c.Long) (long 4)) (node head.Break [] ∷ []) ∷ []) ∷
    print_long (local 0 c.Long) ∷ []) ∷
    print_long (local 0 c.Long) ∷ []))
    (codes "1\n3\n4\n")
unfolding meaning_in module_run calls_of exec exec_by eval eval_by wrap digits
loop_with_break = refl

-- for i in range(3): print(i), and then print(i)
range_keeps_its_last : Prints
    (with_main 1 (node (head.Range 1) (local 0 c.Long ∷ long 3 ∷ print_long (local 0 c.Long) ∷ []) ∷
    print_long (local 0 c.Long) ∷ []))
    (codes "0\n1\n2\n2\n")
unfolding meaning_in module_run calls_of exec exec_by eval eval_by wrap digits
range_keeps_its_last = refl

-- for i in range(5, 0, -2): print(i), and no turn of range(5, 0)
range_goes_down : Prints
    (with_main 1 (node (head.Range 3) (local 0 c.Long ∷ long 5 ∷ long 0 ∷ number c.Long (negsuc 1) ∷ print_long (local 0 c.Long) ∷ []) ∷
    node (head.Range 2) (local 0 c.Long ∷ long 5 ∷ long 0 ∷ print_long (long 99) ∷ []) ∷ []))
    (codes "5\n3\n1\n")
unfolding meaning_in module_run calls_of exec exec_by eval eval_by wrap digits
range_goes_down = refl

-- for i in range(1, 2, 0): pass
step_of_zero : Does
    (with_main 1 (print_long (long 7) ∷ node (head.Range 3) (local 0 c.Long ∷ long 1 ∷ long 2 ∷ long 0 ∷ pass ∷ []) ∷ []))
    1000 (end.Raised (fault_of ValueError 7)) (codes "7\n")
unfolding meaning_in module_run calls_of exec exec_by eval eval_by wrap digits
step_of_zero = refl

-- a = -7, b = 2: print(a // b, a % b), and both with cdivision
division_floors : Prints
    (with_main 0 (print (box c.Long (binary op.FloorDiv c.Long (number c.Long (negsuc 6)) (long 2)) ∷
    box c.Long (binary op.Mod c.Long (number c.Long (negsuc 6)) (long 2)) ∷ []) ∷
    print (box c.Long (truncating op.FloorDiv c.Long (number c.Long (negsuc 6)) (long 2)) ∷
    box c.Long (truncating op.Mod c.Long (number c.Long (negsuc 6)) (long 2)) ∷ []) ∷ []))
    (codes "-4 1\n-3 -1\n")
unfolding meaning_in module_run calls_of exec exec_by eval eval_by wrap digits
division_floors = refl

-- cdef int a = -2147483648, b = -1: print(a // b)
division_overflows : Does
    (with_main 0 (print (box c.Int (binary op.FloorDiv c.Int (number c.Int (negsuc 2147483647)) (number c.Int (negsuc 0))) ∷ []) ∷ []))
    1000 (end.Raised (fault_of OverflowError 3)) (codes "")
unfolding meaning_in module_run calls_of exec exec_by eval eval_by wrap digits
division_overflows = refl

-- print(1); print(1 // 0); print(2)
division_by_zero : Does
    (a_module (print_long (long 1) ∷ print_long (binary op.FloorDiv c.Long (long 1) (long 0)) ∷ print_long (long 2) ∷ []) [])
    1000 (end.Raised (fault_of ZeroDivisionError 1)) (codes "1\n")
unfolding meaning_in module_run calls_of exec exec_by eval eval_by wrap digits
division_by_zero = refl

-- cdef int f(int n): if n == 0: return 0; return f(n - 1) + 1
abbrev recursion : SourceFunction
recursion = function 1 (value.C c.Int) (node (head.If 1 false)
    (arm (compare cmp.Eq c.Long (to c.Long (local 0 c.Int)) (long 0)) (give (number c.Int (pos 0)) ∷ []) ∷ []) ∷
    give (to c.Int (binary op.Add c.Long (to c.Long (call 0 (value.C c.Int)
    (to c.Int (binary op.Sub c.Long (to c.Long (local 0 c.Int)) (long 1)) ∷ []))) (long 1))) ∷ [])

-- print(f(498)) opens the 500th frame.
frames_fit : Prints (a_module (print (box c.Int (call 0 (value.C c.Int) (number c.Int (pos 498) ∷ [])) ∷ []) ∷ []) (recursion ∷
    [])) (codes "498\n")
unfolding meaning_in module_run calls_of exec exec_by eval eval_by wrap digits
frames_fit = refl

-- print(f(499)) would open the 501st.
frames_end : Does (a_module (print (box c.Int (call 0 (value.C c.Int) (number c.Int (pos 499) ∷ [])) ∷ []) ∷ []) (recursion ∷
    [])) 1000 (end.Raised (fault_of RecursionError 31)) (codes "")
unfolding meaning_in module_run calls_of exec exec_by eval eval_by wrap digits
frames_end = refl

-- print(1); while True: pass
turns_run_out : Does (a_module (print_long (long 1) ∷ node head.While (number c.Bint (pos 1) ∷ pass ∷ []) ∷
    []) []) 20 end.Spent (codes "1\n")
unfolding meaning_in module_run calls_of exec exec_by eval eval_by wrap digits
turns_run_out = refl

-- for i in range(3): pass spends three turns, and the call of main one.
turns_are_enough : Does (with_main 1 (node (head.Range 1) (local 0 c.Long ∷ long 3 ∷ pass ∷ []) ∷ print_long (long 1) ∷
    [])) 4 end.Done (codes "1\n")
unfolding meaning_in module_run calls_of exec exec_by eval eval_by wrap digits
turns_are_enough = refl

-- With one turn less it is spent.
one_turn_is_missing : Does (with_main 1 (node (head.Range 1) (local 0 c.Long ∷ long 3 ∷ pass ∷ []) ∷ print_long (long 1) ∷
    [])) 3 end.Spent (codes "")
unfolding meaning_in module_run calls_of exec exec_by eval eval_by wrap digits
one_turn_is_missing = refl

-- cdef int f() noexcept: return 1 // 0; print(f())
swallowed_fault : Prints
    (a_module (print (box c.Int (call 0 (value.C c.Int) []) ∷ []) ∷ [])
    (swallowing 0 (value.C c.Int) (give (binary op.FloorDiv c.Int (number c.Int (pos 1)) (number c.Int (pos 0))) ∷ []) ∷ []))
    (codes "0\n")
unfolding meaning_in module_run calls_of exec exec_by eval eval_by wrap digits
swallowed_fault = refl

-- x = 3: print(1 < x < 5, 5 < x < 1 // 0): what stands behind a comparison that fails isn't evaluated.
chained_comparison : Prints
    (with_main 1 (set 0 c.Long (long 3) ∷
    print (box c.Bint (node head.Comparisons (compare cmp.Lt c.Long (long 1) (node (head.Kept (value.C c.Long)) (local 0 c.Long ∷ [])) ∷
    compare cmp.Lt c.Long (given c.Long) (long 5) ∷ [])) ∷
    box c.Bint (node head.Comparisons (compare cmp.Lt c.Long (long 5) (node (head.Kept (value.C c.Long)) (local 0 c.Long ∷ [])) ∷
    compare cmp.Lt c.Long (given c.Long) (binary op.FloorDiv c.Long (long 1) (long 0)) ∷ [])) ∷ []) ∷ []))
    (codes "True False\n")
unfolding meaning_in module_run calls_of exec exec_by eval eval_by wrap digits
chained_comparison = refl

-- print(0 and 1 // 0, 2 or 1 // 0, 3 and 4, not 5, 6 if 1 else 1 // 0)
logic : Prints
    (with_main 0 (print (box c.Long (node (head.And (value.C c.Long)) (long 0 ∷ binary op.FloorDiv c.Long (long 1) (long 0) ∷ [])) ∷
    box c.Long (node (head.Or (value.C c.Long)) (long 2 ∷ binary op.FloorDiv c.Long (long 1) (long 0) ∷ [])) ∷
    box c.Long (node (head.And (value.C c.Long)) (long 3 ∷ long 4 ∷ [])) ∷ box c.Bint (node head.Not (to c.Bint (long 5) ∷ [])) ∷
    box c.Long (node (head.Conditional (value.C c.Long)) (long 6 ∷ number c.Bint (pos 1) ∷ binary op.FloorDiv c.Long (long 1) (long 0) ∷
    [])) ∷ []) ∷ []))
    (codes "0 2 4 False 6\n")
unfolding meaning_in module_run calls_of exec exec_by eval eval_by wrap digits
logic = refl

-- print(min(3, 1, 2), max(3, 1, 2), abs(-4)); print()
least_and_greatest : Prints
    (with_main 0 (print (box c.Long (node (head.Min c.Long) (long 3 ∷ long 1 ∷ long 2 ∷ [])) ∷
    box c.Long (node (head.Max c.Long) (long 3 ∷ long 1 ∷ long 2 ∷ [])) ∷
    box c.Long (node (head.Abs c.Long) (number c.Long (negsuc 3) ∷ [])) ∷ []) ∷
    print [] ∷ []))
    (codes "1 3 4\n\n")
unfolding meaning_in module_run calls_of exec exec_by eval eval_by wrap digits
least_and_greatest = refl

-- cdef long f(long a, long b): return a - b; cdef long g(): return; print(f(10, 4), g())
results : Prints
    (a_module (print (box c.Long (call 0 (value.C c.Long) (long 10 ∷ long 4 ∷ [])) ∷ box c.Long (call 1 (value.C c.Long) []) ∷ []) ∷ [])
    (function 2 (value.C c.Long) (give (binary op.Sub c.Long (local 0 c.Long) (local 1 c.Long)) ∷ []) ∷
    function 0 (value.C c.Long) (node head.Return [] ∷ []) ∷ []))
    (codes "6 0\n")
unfolding meaning_in module_run calls_of exec exec_by eval eval_by wrap digits
results = refl

-- def f(): print(1); f(); f()
two_calls : Prints (a_module (alone (call 0 value.Object []) ∷ alone (call 0 value.Object []) ∷
    []) (function 0 value.Object (print_long (long 1) ∷ []) ∷ [])) (codes "1\n1\n")
unfolding meaning_in module_run calls_of exec exec_by eval eval_by wrap digits
two_calls = refl

-- A list display isn't built, so a module with one has no meaning.
list_display : meaning_in (a_module (print (node head.List [] ∷ []) ∷ []) []) [] 1000 4 ≡ None
unfolding meaning_in module_run calls_of exec exec_by eval eval_by wrap digits
list_display = refl

-- Modules of statements and calls whose outcome is worked out.
use Rattle.std.proofs.Common.{refl}
use Rattle.std.specs.Prelude.{pos, false, List, [], ◌∷◌, codes}
use Rattle.std.specs.Fmt.{digits}
use Rattle.px_base.specs.declared.c_types.CType.TheVariants as c
use Rattle.px_base.specs.declared.c_types.BinOp.TheVariants as op
use Rattle.px_base.specs.declared.c_types.CmpOp.TheVariants as cmp
use Rattle.px_base.specs.declared.faults.Kind.TheVariants.{NameError, RecursionError, UnboundLocalError}
use Rattle.px_base.specs.declared.objects.Builtin.TheVariants as builtin
use Rattle.px_base.specs.declared.objects.Constant.TheVariants as constant
use Rattle.px_ctypes.specs.Wrapping.{wrap}
use Rattle.px_ctypes.specs.Operators.{fault_of}
use Rattle.px_tree.specs.declared.typed_values.ValueType.TheVariants as value
use Rattle.px_tree.specs.declared.typed_heads.TypedHead.TheVariants as head
use Rattle.px_typed_walk.specs.TypedView.{TypedRose}
use Rattle.px_model.specs.declared.outcomes.End.TheVariants as end
use Rattle.px_meaning.specs.Calls.{SourceFunction, calls_of}
use Rattle.px_meaning.specs.Expressions.{eval, eval_by}
use Rattle.px_meaning.specs.Statements.{exec, exec_by}
use Rattle.px_meaning.specs.Modules.{module_run}
use Rattle.px_meaning.specs.OneWorld.{meaning_in}
use Rattle.px_meaning.proofs.Trees.{node, number, long, local, binary, compare, to, box, alone, print, print_long, set, call, give, arm, pass, function, swallowing, with_gil, a_module, with_main, Does, Prints}

-- cdef signed char i; for i in range(126, 130): print(i): the indices are exact, and each becomes one of the type of i
small_index : Prints
    (with_main 1 (node (head.Range 2) (local 0 c.SChar ∷ long 126 ∷ long 130 ∷ print (box c.SChar (local 0 c.SChar) ∷ []) ∷ []) ∷ []))
    (codes "126\n127\n-128\n-127\n")
unfolding meaning_in module_run calls_of exec exec_by eval eval_by wrap digits
small_index = refl

-- cdef long f(): for i in range(10): for j in range(10): if i * j == 42: return 10 * i + j
abbrev searching : SourceFunction
searching = function 2 (value.C c.Long) (node (head.Range 1) (local 0 c.Long ∷ long 10 ∷ node (head.Range 1) (local 1 c.Long ∷ long 10 ∷
    node (head.If 1 false) (arm (compare cmp.Eq c.Long (binary op.Mul c.Long (local 0 c.Long) (local 1 c.Long)) (long 42))
    (give (binary op.Add c.Long (binary op.Mul c.Long (long 10) (local 0 c.Long)) (local 1 c.Long)) ∷ []) ∷ []) ∷ []) ∷ []) ∷ [])

-- print(f())
return_leaves_loops : Prints (a_module (print_long (call 0 (value.C c.Long) []) ∷ []) (searching ∷ [])) (codes "67\n")
unfolding meaning_in module_run calls_of exec exec_by eval eval_by wrap digits
return_leaves_loops = refl

-- for i in range(3): for j in range(3): if j == i: break; print(10 * i + j)
inner_break : Prints
    (with_main 2 (node (head.Range 1) (local 0 c.Long ∷ long 3 ∷ node (head.Range 1) (local 1 c.Long ∷ long 3 ∷
    node (head.If 1 false) (arm (compare cmp.Eq c.Long (local 1 c.Long) (local 0 c.Long)) (node head.Break [] ∷ []) ∷ []) ∷
    print_long (binary op.Add c.Long (binary op.Mul c.Long (long 10) (local 0 c.Long)) (local 1 c.Long)) ∷ []) ∷ []) ∷ []))
    (codes "10\n20\n21\n")
unfolding meaning_in module_run calls_of exec exec_by eval eval_by wrap digits
inner_break = refl

-- def main(): x = 0; while x < 3: x += 1; and then print(x)
abbrev three_turns : List TypedRose
three_turns = set 0 c.Long (long 0) ∷
    node head.While (compare cmp.Lt c.Long (local 0 c.Long) (long 3) ∷ set 0 c.Long (binary op.Add c.Long (local 0 c.Long) (long 1)) ∷ []) ∷
    print_long (local 0 c.Long) ∷ []

-- The call spends one turn and the loop three; its last test spends none.
turns_of_while : Does (with_main 1 three_turns) 4 end.Done (codes "3\n")
unfolding meaning_in module_run calls_of exec exec_by eval eval_by wrap digits
turns_of_while = refl

-- With one turn less the third turn of the loop isn't begun.
while_lacks_a_turn : Does (with_main 1 three_turns) 3 end.Spent (codes "")
unfolding meaning_in module_run calls_of exec exec_by eval eval_by wrap digits
while_lacks_a_turn = refl

-- print(1); main(), without a turn
no_turn_for_a_call : Does
    (a_module (print_long (long 1) ∷ alone (call 0 value.Object []) ∷ []) (function 0 value.Object (print_long (long 2) ∷ []) ∷ []))
    0 end.Spent (codes "1\n")
unfolding meaning_in module_run calls_of exec exec_by eval eval_by wrap digits
no_turn_for_a_call = refl

-- cdef int f(int n): if n == 0: return 0; return f(n - 1) + 1
abbrev recursion : SourceFunction
recursion = function 1 (value.C c.Int) (node (head.If 1 false)
    (arm (compare cmp.Eq c.Long (to c.Long (local 0 c.Int)) (long 0)) (give (number c.Int (pos 0)) ∷ []) ∷ []) ∷
    give (to c.Int (binary op.Add c.Long (to c.Long (call 0 (value.C c.Int)
    (to c.Int (binary op.Sub c.Long (to c.Long (local 0 c.Int)) (long 1)) ∷ []))) (long 1))) ∷ [])

-- print(f(499)) makes 500 calls, the last of which would open the 501st frame.
abbrev too_deep : List TypedRose
too_deep = print (box c.Int (call 0 (value.C c.Int) (number c.Int (pos 499) ∷ [])) ∷ []) ∷ []

-- The last of its turns is spent by that call, which then raises.
last_call_has_a_turn : Does (a_module too_deep (recursion ∷ [])) 500 (end.Raised (fault_of RecursionError 31)) (codes "")
unfolding meaning_in module_run calls_of exec exec_by eval eval_by wrap digits
last_call_has_a_turn = refl

-- Without that turn the run is spent before the frame is looked at.
last_call_has_no_turn : Does (a_module too_deep (recursion ∷ [])) 499 end.Spent (codes "")
unfolding meaning_in module_run calls_of exec exec_by eval eval_by wrap digits
last_call_has_no_turn = refl

-- cdef void f() noexcept: print(1); print(1 // 0); print(2), and cdef g() noexcept: return 1 // 0, as an object: f(); print(g())
swallowed_faults : Prints
    (a_module (alone (call 0 value.Void []) ∷ print (call 1 value.Object [] ∷ []) ∷ [])
    (swallowing 0 value.Void (print_long (long 1) ∷ print_long (binary op.FloorDiv c.Long (long 1) (long 0)) ∷ print_long (long 2) ∷ []) ∷
    swallowing 0 value.Object (give (box c.Long (binary op.FloorDiv c.Long (long 1) (long 0))) ∷ []) ∷ []))
    (codes "1\nNone\n")
unfolding meaning_in module_run calls_of exec exec_by eval eval_by wrap digits
swallowed_faults = refl

-- cdef int f() noexcept: while True: pass; then f(); print(1)
spent_is_not_swallowed : Does
    (a_module (alone (call 0 (value.C c.Int) []) ∷ print_long (long 1) ∷ [])
    (swallowing 0 (value.C c.Int) (node head.While (number c.Bint (pos 1) ∷ pass ∷ []) ∷ []) ∷ []))
    20 end.Spent (codes "")
unfolding meaning_in module_run calls_of exec exec_by eval eval_by wrap digits
spent_is_not_swallowed = refl

-- cdef long f(): pass, def g(): return, cdef long h(unsigned char n): return n: print(f(), g(), h(300))
ends_without_a_value : Prints
    (a_module (print (box c.Long (call 0 (value.C c.Long) []) ∷ call 1 value.Object [] ∷
    box c.Long (call 2 (value.C c.Long) (to c.UChar (long 300) ∷ [])) ∷ []) ∷ [])
    (function 0 (value.C c.Long) (pass ∷ []) ∷ function 0 value.Object (node head.Return [] ∷ []) ∷
    function 1 (value.C c.Long) (give (to c.Long (local 0 c.UChar)) ∷ []) ∷ []))
    (codes "0 None 44\n")
unfolding meaning_in module_run calls_of exec exec_by eval eval_by wrap digits
ends_without_a_value = refl

-- print(print(1)); print()
print_as_a_value : Prints
    (a_module (print (node (head.Builtin builtin.Print) (box c.Long (long 1) ∷ []) ∷ []) ∷ print [] ∷ []) [])
    (codes "1\nNone\n\n")
unfolding meaning_in module_run calls_of exec exec_by eval eval_by wrap digits
print_as_a_value = refl

-- print('aé', None, 9223372036854775808): texts are printed as UTF-8
constants : Prints
    (record {
      code = print (node (head.Constant 0) [] ∷ node (head.Constant 1) [] ∷ node (head.Constant 2) [] ∷ []) ∷ [];
      functions = [];
      names = 0;
      constants = constant.Text (97 ∷ 233 ∷ []) ∷ constant.None ∷ constant.Wide (pos 9223372036854775808) ∷ [];
    })
    (97 ∷ 195 ∷ 169 ∷ codes " None 9223372036854775808\n")
unfolding meaning_in module_run calls_of exec exec_by eval eval_by wrap digits lib.Utf8.encode
constants = refl

-- x = 5; def f(): print(x); f(); print(y), where y is assigned in a function that isn't called
names_of_the_module : Does
    (record {
      code = node head.Assign (node (head.ModuleName 0) [] ∷ box c.Long (long 5) ∷ []) ∷ alone (call 0 value.Object []) ∷
          print (node (head.ModuleName 1) [] ∷ []) ∷ [];
      functions = function 0 value.Object (print (node (head.ModuleName 0) [] ∷ []) ∷ []) ∷ [];
      names = 2;
      constants = [];
    })
    1000 (end.Raised (fault_of NameError 27)) (codes "5\n")
unfolding meaning_in module_run calls_of exec exec_by eval eval_by wrap digits
names_of_the_module = refl

-- x = 5 as an object; print(x); print(y), where y isn't assigned
objects_in_variables : Does
    (with_main 2 (node head.Assign (node (head.Local 0 value.Object) [] ∷ box c.Long (long 5) ∷ []) ∷
    print (node (head.Local 0 value.Object) [] ∷ []) ∷
    print (node (head.Local 1 value.Object) [] ∷ []) ∷ []))
    1000 (end.Raised (fault_of UnboundLocalError 26)) (codes "5\n")
unfolding meaning_in module_run calls_of exec exec_by eval eval_by wrap digits
objects_in_variables = refl

-- cdef void f() with gil: print(2); then with nogil: (with gil: print(1)); f(), and print(3)
sections : Prints
    (a_module (node head.WithNogil (node head.WithGil (print_long (long 1) ∷ []) ∷ alone (call 0 value.Void []) ∷ []) ∷
    print_long (long 3) ∷ [])
    (with_gil 0 value.Void (print_long (long 2) ∷ []) ∷ []))
    (codes "1\n2\n3\n")
unfolding meaning_in module_run calls_of exec exec_by eval eval_by wrap digits
sections = refl

-- Modules of expressions whose outcome is worked out.
use Rattle.std.proofs.Common.{refl}
use Rattle.std.specs.Prelude.{ℕ, [], ◌∷◌, codes}
use Rattle.std.specs.Fmt.{digits}
use Rattle.px_base.specs.declared.c_types.CType.{CType}
use Rattle.px_base.specs.declared.c_types.CType.TheVariants as c
use Rattle.px_base.specs.declared.c_types.BinOp.TheVariants as op
use Rattle.px_base.specs.declared.c_types.UnOp.TheVariants as un
use Rattle.px_base.specs.declared.c_types.CmpOp.TheVariants as cmp
use Rattle.px_base.specs.declared.faults.Kind.TheVariants.{ValueError, ZeroDivisionError}
use Rattle.px_ctypes.specs.Wrapping.{wrap}
use Rattle.px_ctypes.specs.Operators.{fault_of}
use Rattle.px_tree.specs.declared.typed_values.ValueType.TheVariants as value
use Rattle.px_tree.specs.declared.typed_heads.TypedHead.TheVariants as head
use Rattle.px_typed_walk.specs.TypedView.{TypedRose}
use Rattle.px_model.specs.declared.outcomes.End.TheVariants as end
use Rattle.px_meaning.specs.Calls.{SourceFunction, calls_of}
use Rattle.px_meaning.specs.Expressions.{eval, eval_by}
use Rattle.px_meaning.specs.Statements.{exec, exec_by}
use Rattle.px_meaning.specs.Modules.{module_run}
use Rattle.px_meaning.specs.OneWorld.{meaning_in}
use Rattle.px_meaning.proofs.Trees.{node, long, local, binary, truncating, unary, compare, to, cast, box, alone, print, print_long, declare, call, give, function, a_module, with_main, Does, Prints}

abbrev minus : ℕ → TypedRose
minus n = unary un.Minus c.Long (long n)

-- `<t>e` as an object
abbrev shown : CType → TypedRose → TypedRose
shown t e = box t (cast t e)

-- print(12 & 10, 12 | 10, 12 ^ 10, ~12, -8 | 5)
bits_of_numbers : Prints
    (with_main 0 (print (box c.Long (binary op.BitAnd c.Long (long 12) (long 10)) ∷
    box c.Long (binary op.BitOr c.Long (long 12) (long 10)) ∷
    box c.Long (binary op.BitXor c.Long (long 12) (long 10)) ∷ box c.Long (unary un.Invert c.Long (long 12)) ∷
    box c.Long (binary op.BitOr c.Long (minus 8) (long 5)) ∷ []) ∷ []))
    (codes "8 14 6 -13 -3\n")
unfolding meaning_in module_run calls_of exec exec_by eval eval_by wrap digits
bits_of_numbers = refl

-- print(-5, +5, - -5, -(-9223372036854775807 - 1)): the least number has no opposite
signs : Prints
    (with_main 0 (print (box c.Long (minus 5) ∷ box c.Long (unary un.Plus c.Long (long 5)) ∷ box c.Long (unary un.Minus c.Long (minus 5)) ∷
    box c.Long (unary un.Minus c.Long (binary op.Sub c.Long (minus 9223372036854775807) (long 1))) ∷ []) ∷ []))
    (codes "-5 5 5 -9223372036854775808\n")
unfolding meaning_in module_run calls_of exec exec_by eval eval_by wrap digits
signs = refl

-- cdef int one = 1; print(1 << 62, 3 << 63, -9 >> 1, one << 31)
shifts : Prints
    (with_main 1 (declare 0 c.Int (to c.Int (long 1)) ∷
    print (box c.Long (binary op.Shl c.Long (long 1) (long 62)) ∷ box c.Long (binary op.Shl c.Long (long 3) (long 63)) ∷
    box c.Long (binary op.Shr c.Long (minus 9) (long 1)) ∷ box c.Int (binary op.Shl c.Int (local 0 c.Int) (long 31)) ∷ []) ∷ []))
    (codes "4611686018427387904 -9223372036854775808 -5 -2147483648\n")
unfolding meaning_in module_run calls_of exec exec_by eval eval_by wrap digits
shifts = refl

-- cdef int one = 1; print(1 << 32); print(one << 32): the count is the width of an int
count_of_the_width : Does
    (with_main 1 (declare 0 c.Int (to c.Int (long 1)) ∷
    print_long (binary op.Shl c.Long (long 1) (long 32)) ∷ print (box c.Int (binary op.Shl c.Int (local 0 c.Int) (long 32)) ∷ []) ∷ []))
    1000 (end.Raised (fault_of ValueError 5)) (codes "4294967296\n")
unfolding meaning_in module_run calls_of exec exec_by eval eval_by wrap digits
count_of_the_width = refl

-- print(1 >> -1)
count_below_zero : Does (with_main 0 (print_long (binary op.Shr c.Long (long 1) (minus 1)) ∷ []))
    1000 (end.Raised (fault_of ValueError 5)) (codes "")
unfolding meaning_in module_run calls_of exec exec_by eval eval_by wrap digits
count_below_zero = refl

-- cdef int a = -2147483648, b = -1: print(a % b), and with cdivision print(a // b, a % b)
division_at_the_edges : Prints
    (with_main 2 (declare 0 c.Int (to c.Int (minus 2147483648)) ∷ declare 1 c.Int (to c.Int (minus 1)) ∷
    print (box c.Int (binary op.Mod c.Int (local 0 c.Int) (local 1 c.Int)) ∷ []) ∷
    print (box c.Int (truncating op.FloorDiv c.Int (local 0 c.Int) (local 1 c.Int)) ∷
    box c.Int (truncating op.Mod c.Int (local 0 c.Int) (local 1 c.Int)) ∷ []) ∷ []))
    (codes "0\n-2147483648 0\n")
unfolding meaning_in module_run calls_of exec exec_by eval eval_by wrap digits
division_at_the_edges = refl

-- with cdivision: print(7 // 2); print(7 % 0)
remainder_of_zero : Does
    (with_main 0 (print_long (truncating op.FloorDiv c.Long (long 7) (long 2)) ∷ print_long (truncating op.Mod c.Long (long 7) (long 0)) ∷
    []))
    1000 (end.Raised (fault_of ZeroDivisionError 1)) (codes "3\n")
unfolding meaning_in module_run calls_of exec exec_by eval eval_by wrap digits
remainder_of_zero = refl

-- print(<signed char>200, <unsigned char>-1, <char>200, <short>40000, <unsigned short>-1)
narrow_types : Prints
    (with_main 0 (print (shown c.SChar (long 200) ∷ shown c.UChar (minus 1) ∷ shown c.Char (long 200) ∷ shown c.Short (long 40000) ∷
    shown c.UShort (minus 1) ∷ []) ∷ []))
    (codes "-56 255 -56 -25536 65535\n")
unfolding meaning_in module_run calls_of exec exec_by eval eval_by wrap digits
narrow_types = refl

-- print(<int>3000000000, <unsigned int>-1, <unsigned long>-1, <long long>-1, <unsigned long long>-2, <Py_ssize_t>-3, <size_t>-4, <bint>7)
wide_types : Prints
    (with_main 0 (print (shown c.Int (long 3000000000) ∷ shown c.UInt (minus 1) ∷ shown c.ULong (minus 1) ∷ shown c.LongLong (minus 1) ∷
    shown c.ULongLong (minus 2) ∷
    shown c.SsizeT (minus 3) ∷ shown c.SizeT (minus 4) ∷ shown c.Bint (long 7) ∷ []) ∷ []))
    (codes "-1294967296 4294967295 18446744073709551615 -1 18446744073709551614 -3 18446744073709551612 True\n")
unfolding meaning_in module_run calls_of exec exec_by eval eval_by wrap digits
wide_types = refl

-- cdef unsigned int a = 4294967295, z = 0, one = 1; cdef unsigned long w = 0: print(a + a, z - one, w - 1, z - 1): the last one is a long
unsigned_wraps : Prints
    (with_main 4 (declare 0 c.UInt (to c.UInt (long 4294967295)) ∷ declare 1 c.UInt (to c.UInt (long 0)) ∷
    declare 2 c.UInt (to c.UInt (long 1)) ∷ declare 3 c.ULong (to c.ULong (long 0)) ∷
    print (box c.UInt (binary op.Add c.UInt (local 0 c.UInt) (local 0 c.UInt)) ∷
    box c.UInt (binary op.Sub c.UInt (local 1 c.UInt) (local 2 c.UInt)) ∷
    box c.ULong (binary op.Sub c.ULong (local 3 c.ULong) (to c.ULong (long 1))) ∷
    box c.Long (binary op.Sub c.Long (to c.Long (local 1 c.UInt)) (long 1)) ∷ []) ∷ []))
    (codes "4294967294 4294967295 18446744073709551615 -1\n")
unfolding meaning_in module_run calls_of exec exec_by eval eval_by wrap digits
unsigned_wraps = refl

-- cdef unsigned char a = 200, b = 100: print(a + b, a * b), in int; a += b; print(a)
narrow_operands_are_promoted : Prints
    (with_main 2 (declare 0 c.UChar (to c.UChar (long 200)) ∷ declare 1 c.UChar (to c.UChar (long 100)) ∷
    print (box c.Int (binary op.Add c.Int (to c.Int (local 0 c.UChar)) (to c.Int (local 1 c.UChar))) ∷
    box c.Int (binary op.Mul c.Int (to c.Int (local 0 c.UChar)) (to c.Int (local 1 c.UChar))) ∷ []) ∷
    node (head.Augment op.Add) (local 0 c.UChar ∷ to c.UChar (binary op.Add c.Int (to c.Int (node (head.Given (value.C c.UChar)) []))
    (to c.Int (local 1 c.UChar))) ∷ []) ∷
    print (box c.UChar (local 0 c.UChar) ∷ []) ∷ []))
    (codes "300 20000\n44\n")
unfolding meaning_in module_run calls_of exec exec_by eval eval_by wrap digits
narrow_operands_are_promoted = refl

-- cdef int a = -1; cdef unsigned int b = 1: print(a < b, a > b, a == -1, a != a, a <= a, -1 >= 1)
comparisons_in_the_common_type : Prints
    (with_main 2 (declare 0 c.Int (to c.Int (minus 1)) ∷ declare 1 c.UInt (to c.UInt (long 1)) ∷
    print (box c.Bint (compare cmp.Lt c.UInt (to c.UInt (local 0 c.Int)) (local 1 c.UInt)) ∷
    box c.Bint (compare cmp.Gt c.UInt (to c.UInt (local 0 c.Int)) (local 1 c.UInt)) ∷
    box c.Bint (compare cmp.Eq c.Long (to c.Long (local 0 c.Int)) (minus 1)) ∷
    box c.Bint (compare cmp.Ne c.Int (local 0 c.Int) (local 0 c.Int)) ∷
    box c.Bint (compare cmp.Le c.Int (local 0 c.Int) (local 0 c.Int)) ∷ box c.Bint (compare cmp.Ge c.Long (minus 1) (long 1)) ∷ []) ∷ []))
    (codes "False True True False True False\n")
unfolding meaning_in module_run calls_of exec exec_by eval eval_by wrap digits
comparisons_in_the_common_type = refl

-- print(sizeof(char), sizeof(short), sizeof(int), sizeof(long), sizeof(bint))
sizes : Prints
    (with_main 0 (print (box c.SizeT (node (head.Sizeof c.Char) []) ∷ box c.SizeT (node (head.Sizeof c.Short) []) ∷
    box c.SizeT (node (head.Sizeof c.Int) []) ∷
    box c.SizeT (node (head.Sizeof c.Long) []) ∷ box c.SizeT (node (head.Sizeof c.Bint) []) ∷ []) ∷ []))
    (codes "1 2 4 8 4\n")
unfolding meaning_in module_run calls_of exec exec_by eval eval_by wrap digits
sizes = refl

-- cdef long g(long n): print(n); return n
abbrev telling : SourceFunction
telling = function 1 (value.C c.Long) (print_long (local 0 c.Long) ∷ give (local 0 c.Long) ∷ [])

abbrev tells : ℕ → TypedRose
tells n = call 0 (value.C c.Long) (long n ∷ [])

-- print(g(1) - g(2) * g(3)): operands are evaluated from the left
from_the_left : Prints
    (a_module (print_long (binary op.Sub c.Long (tells 1) (binary op.Mul c.Long (tells 2) (tells 3))) ∷ []) (telling ∷ []))
    (codes "1\n2\n3\n-5\n")
unfolding meaning_in module_run calls_of exec exec_by eval eval_by wrap digits
from_the_left = refl

-- print(1 < g(3) < 5, 1 > g(4) > g(5)): the middle operand is evaluated once, and nothing behind a comparison that fails
operand_once : Prints
    (a_module (print (box c.Bint (node head.Comparisons (compare cmp.Lt c.Long (long 1) (node (head.Kept (value.C c.Long)) (tells 3 ∷ [])) ∷
    compare cmp.Lt c.Long (node (head.Given (value.C c.Long)) []) (long 5) ∷ [])) ∷
    box c.Bint (node head.Comparisons (compare cmp.Gt c.Long (long 1) (node (head.Kept (value.C c.Long)) (tells 4 ∷ [])) ∷
    compare cmp.Gt c.Long (node (head.Given (value.C c.Long)) []) (tells 5) ∷ [])) ∷ []) ∷ []) (telling ∷ []))
    (codes "3\n4\nTrue False\n")
unfolding meaning_in module_run calls_of exec exec_by eval eval_by wrap digits
operand_once = refl

-- cdef long f(long n): return 10 // n; then print(1 + f(2)); print(g(7) + f(0) + g(8)); print(3)
fault_of_an_operand : Does
    (a_module (print_long (binary op.Add c.Long (long 1) (call 1 (value.C c.Long) (long 2 ∷ []))) ∷
    print_long (node (head.Steps (value.C c.Long)) (binary op.Add c.Long (tells 7) (call 1 (value.C c.Long) (long 0 ∷ [])) ∷
    binary op.Add c.Long (node (head.Given (value.C c.Long)) []) (tells 8) ∷ [])) ∷ print_long (long 3) ∷ [])
    (telling ∷ function 1 (value.C c.Long) (give (binary op.FloorDiv c.Long (long 10) (local 0 c.Long)) ∷ []) ∷ []))
    1000 (end.Raised (fault_of ZeroDivisionError 1)) (codes "6\n7\n")
unfolding meaning_in module_run calls_of exec exec_by eval eval_by wrap digits
fault_of_an_operand = refl

-- g(1 // 0): the call isn't made
fault_of_an_argument : Does
    (a_module (alone (call 0 (value.C c.Long) (binary op.FloorDiv c.Long (long 1) (long 0) ∷ [])) ∷ []) (telling ∷ []))
    1000 (end.Raised (fault_of ZeroDivisionError 1)) (codes "")
unfolding meaning_in module_run calls_of exec exec_by eval eval_by wrap digits
fault_of_an_argument = refl

-- cdef int a = -2147483648: print(abs(a), abs(-7), min(a, 3)): the least number has no absolute value of its type
absolute_values : Prints
    (with_main 1 (declare 0 c.Int (to c.Int (minus 2147483648)) ∷
    print (box c.Int (node (head.Abs c.Int) (local 0 c.Int ∷ [])) ∷ box c.Long (node (head.Abs c.Long) (minus 7 ∷ [])) ∷
    box c.Long (node (head.Min c.Long) (to c.Long (local 0 c.Int) ∷ long 3 ∷ [])) ∷ []) ∷ []))
    (codes "-2147483648 7 -2147483648\n")
unfolding meaning_in module_run calls_of exec exec_by eval eval_by wrap digits
absolute_values = refl

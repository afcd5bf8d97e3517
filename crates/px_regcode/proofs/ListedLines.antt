-- Lines of a listing, worked out by hand.
use Rattle.std.proofs.Common.{◌≡◌, ℕ, List, [], ◌∷◌, ◌++◌, Some, None, true, false, refl, pos, negsuc}
use Rattle.std.specs.Prelude.{codes}
use Rattle.std.specs.Fmt.{digits}
use Rattle.std.proofs.Math.Utf8.{encode}
use Rattle.px_base.specs.declared.c_types.BinOp.TheVariants as op
use Rattle.px_base.specs.declared.c_types.UnOp.TheVariants as unary
use Rattle.px_base.specs.declared.c_types.CmpOp.TheVariants as cmp
use Rattle.px_base.specs.declared.c_types.CType.TheVariants as ctype
use Rattle.px_base.specs.declared.faults.Kind.TheVariants as kind
use Rattle.px_base.specs.declared.objects.Method.TheVariants as method
use Rattle.px_base.specs.declared.objects.Builtin.TheVariants as builtin
use Rattle.px_base.specs.declared.objects.Constant.TheVariants as constant
use Rattle.px_regcode.specs.declared.codes.Code.{Code}
use Rattle.px_regcode.specs.declared.codes.Start.TheVariants as start
use Rattle.px_regcode.specs.declared.operands.RegKind.TheVariants as reg_kind
use Rattle.px_regcode.specs.declared.operands.Register.{Register}
use Rattle.px_regcode.specs.declared.operands.Order.TheVariants as order
use Rattle.px_regcode.specs.declared.operands.StopKind.TheVariants as stop
use Rattle.px_regcode.specs.declared.instructions.Instr.TheVariants as instr
use Rattle.px_regcode.specs.Listing.{name_of, operands_of, instruction_line, constant_line, listing_of}

abbrev r : ℕ → Register
r n = record { number = n }

const_line : instruction_line 0 (instr.Const (r 0) (negsuc 4)) ≡ codes "  0 const r0 -5\n"
unfolding digits name_of operands_of
const_line = refl

const_wide_line : instruction_line 1 (instr.Const (r 12) (pos 18446744073709551615)) ≡ codes "  1 const r12 18446744073709551615\n"
unfolding digits name_of operands_of
const_wide_line = refl

move_line : instruction_line 2 (instr.Move (r 1) (r 2)) ≡ codes "  2 move r1 r2\n"
unfolding digits name_of operands_of
move_line = refl

binary_line : instruction_line 3 (instr.Binary op.FloorDiv ctype.Long (r 2) (r 0) (r 1) true) ≡ codes "  3 binary // long r2 r0 r1 1\n"
unfolding digits name_of operands_of
binary_line = refl

shift_line : instruction_line 4 (instr.Binary op.Shl ctype.ULongLong (r 2) (r 0) (r 1) false)
    ≡ codes "  4 binary << unsigned_long_long r2 r0 r1 0\n"
unfolding digits name_of operands_of
shift_line = refl

unary_line : instruction_line 5 (instr.Unary unary.Invert ctype.SizeT (r 2) (r 0)) ≡ codes "  5 unary ~ size_t r2 r0\n"
unfolding digits name_of operands_of
unary_line = refl

compare_line : instruction_line 6 (instr.Compare cmp.Ne ctype.Int (r 2) (r 0) (r 1)) ≡ codes "  6 compare != int r2 r0 r1\n"
unfolding digits name_of operands_of
compare_line = refl

convert_line : instruction_line 7 (instr.Convert ctype.SChar (r 2) (r 0)) ≡ codes "  7 convert signed_char r2 r0\n"
unfolding digits name_of operands_of
convert_line = refl

magnitude_line : instruction_line 8 (instr.Magnitude ctype.SsizeT (r 2) (r 0)) ≡ codes "  8 magnitude Py_ssize_t r2 r0\n"
unfolding digits name_of operands_of
magnitude_line = refl

jump_line : instruction_line 9 (instr.Jump 10) ≡ codes "  9 jump @10\n"
unfolding digits name_of operands_of
jump_line = refl

branch_line : instruction_line 10 (instr.Branch (r 3) 4 5) ≡ codes "  10 branch r3 @4 @5\n"
unfolding digits name_of operands_of
branch_line = refl

call_line : instruction_line 11 (instr.Call 2 (Some (r 5)) (r 1 ∷ r 0 ∷ [])) ≡ codes "  11 call 2 r5 r1 r0\n"
unfolding digits name_of operands_of
call_line = refl

call_void_line : instruction_line 12 (instr.Call 1 None []) ≡ codes "  12 call 1 -\n"
unfolding digits name_of operands_of
call_void_line = refl

finish_line : instruction_line 13 (instr.Finish) ≡ codes "  13 finish\n"
unfolding digits name_of operands_of
finish_line = refl

handle_line : instruction_line 14 (instr.Handle 7) ≡ codes "  14 handle @7\n"
unfolding digits name_of operands_of
handle_line = refl

takes_line : instruction_line 15 (instr.Takes (r 1) (kind.ValueError ∷ kind.KeyError ∷ []) 9)
    ≡ codes "  15 takes r1 ValueError KeyError @9\n"
unfolding digits name_of operands_of
takes_line = refl

element_line : instruction_line 16 (instr.Element ctype.Long (r 4) (r 0) (r 1 ∷ r 2 ∷ [])) ≡ codes "  16 element long r4 r0 r1 r2\n"
unfolding digits name_of operands_of
element_line = refl

put_line : instruction_line 17 (instr.Put ctype.Bint (r 0) (r 1 ∷ []) (r 3)) ≡ codes "  17 put bint r0 r1 r3\n"
unfolding digits name_of operands_of
put_line = refl

pick_line : instruction_line 18 (instr.Pick (r 1) (r 0) 1 (r 2) true) ≡ codes "  18 pick r1 r0 1 r2 1\n"
unfolding digits name_of operands_of
pick_line = refl

slice_line : instruction_line 19 (instr.Slice (r 1) (r 0) 0 (Some (r 2)) None (Some (r 3))) ≡ codes "  19 slice r1 r0 0 r2 - r3\n"
unfolding digits name_of operands_of
slice_line = refl

axis_line : instruction_line 20 (instr.Axis (r 1) (r 0) 2) ≡ codes "  20 axis r1 r0 2\n"
unfolding digits name_of operands_of
axis_line = refl

ordered_line : instruction_line 21 (instr.Ordered (r 1) order.Fortran) ≡ codes "  21 ordered r1 fortran\n"
unfolding digits name_of operands_of
ordered_line = refl

loop_line : instruction_line 22 (instr.Loop 0 None 8) ≡ codes "  22 loop 0 - @8\n"
unfolding digits name_of operands_of
loop_line = refl

stop_line : instruction_line 23 (instr.Stop stop.Return (Some (r 2))) ≡ codes "  23 stop return r2\n"
unfolding digits name_of operands_of
stop_line = refl

stop_break_line : instruction_line 24 (instr.Stop stop.Break None) ≡ codes "  24 stop break -\n"
unfolding digits name_of operands_of
stop_break_line = refl

reduce_line : instruction_line 25 (instr.Reduce op.BitXor ctype.UChar (r 1) (r 2)) ≡ codes "  25 reduce ^ unsigned_char r1 r2\n"
unfolding digits name_of operands_of
reduce_line = refl

text_line : instruction_line 26 (instr.Text (r 1) 3) ≡ codes "  26 text r1 #3\n"
unfolding digits name_of operands_of
text_line = refl

unbox_line : instruction_line 27 (instr.Unbox (Some ctype.Short) (r 1) (r 0)) ≡ codes "  27 unbox short r1 r0\n"
unfolding digits name_of operands_of
unbox_line = refl

unbox_any_line : instruction_line 28 (instr.Unbox None (r 1) (r 0)) ≡ codes "  28 unbox - r1 r0\n"
unfolding digits name_of operands_of
unbox_any_line = refl

fetch_line : instruction_line 29 (instr.Fetch (r 1) 2) ≡ codes "  29 fetch r1 2\n"
unfolding digits name_of operands_of
fetch_line = refl

keep_line : instruction_line 30 (instr.Keep 2 (r 1)) ≡ codes "  30 keep 2 r1\n"
unfolding digits name_of operands_of
keep_line = refl

obinary_line : instruction_line 31 (instr.ObjectBinary op.Mod (r 2) (r 0) (r 1)) ≡ codes "  31 obinary % r2 r0 r1\n"
unfolding digits name_of operands_of
obinary_line = refl

ocut_line : instruction_line 32 (instr.ObjectCut (r 2) (r 0) None None (Some (r 1))) ≡ codes "  32 ocut r2 r0 - - r1\n"
unfolding digits name_of operands_of
ocut_line = refl

unpack_line : instruction_line 33 (instr.Unpack 2 (r 0) (r 1 ∷ r 2 ∷ [])) ≡ codes "  33 unpack 2 r0 r1 r2\n"
unfolding digits name_of operands_of
unpack_line = refl

method_line : instruction_line 34 (instr.Method method.Append (r 2) (r 0) (r 1 ∷ [])) ≡ codes "  34 method append r2 r0 r1\n"
unfolding digits name_of operands_of
method_line = refl

builtin_line : instruction_line 35 (instr.Builtin builtin.Len (r 2) (r 0 ∷ [])) ≡ codes "  35 builtin len r2 r0\n"
unfolding digits name_of operands_of
builtin_line = refl

print_line : instruction_line 36 (instr.Print []) ≡ codes "  36 print\n"
unfolding digits name_of operands_of
print_line = refl

raise_line : instruction_line 37 (instr.Raise kind.KeyError (Some (r 0))) ≡ codes "  37 raise KeyError r0\n"
unfolding digits name_of operands_of
raise_line = refl

raise_bare_line : instruction_line 38 (instr.Raise kind.RuntimeError None) ≡ codes "  38 raise RuntimeError -\n"
unfolding digits name_of operands_of
raise_bare_line = refl

next_line : instruction_line 39 (instr.Next (r 3) (r 1) (r 2) 12) ≡ codes "  39 next r3 r1 r2 @12\n"
unfolding digits name_of operands_of
next_line = refl

view_line : instruction_line 40 (instr.View ctype.Long (r 1) (r 0) 2) ≡ codes "  40 view long r1 r0 2\n"
unfolding digits name_of operands_of
view_line = refl

text_constant : constant_line 0 (constant.Text (codes "a'b")) ≡ codes "#0 \"a'b\"\n"
unfolding digits encode
text_constant = refl

escaped_constant : constant_line 12 (constant.Text (39 ∷ 34 ∷ 92 ∷ 10 ∷ 13 ∷ 9 ∷ 27 ∷ 127 ∷ 955 ∷ []))
    ≡ codes "#12 '\\'\"\\\\\\n\\r\\t\\x1b\\x7f" ++ 206 ∷ 187 ∷ 39 ∷ 10 ∷ []
unfolding digits encode
escaped_constant = refl

wide_constant : constant_line 1 (constant.Wide (pos 9223372036854775808)) ≡ codes "#1 9223372036854775808\n"
unfolding digits
wide_constant = refl

none_constant : constant_line 2 constant.None ≡ codes "#2 None\n"
unfolding digits
none_constant = refl

plain_constant : constant_line 3 (constant.Text (codes "say \"hi\"")) ≡ codes "#3 'say \"hi\"'\n"
unfolding digits encode
plain_constant = refl

empty_constant : constant_line 4 (constant.Text []) ≡ codes "#4 ''\n"
unfolding digits
empty_constant = refl

-- the whole listing of the empty module

empty_module : Code
empty_module = record {
  name = codes "module";
  params = [];
  result = reg_kind.Empty;
  start = start.Held;
  registers = 0;
  instrs = instr.Finish ∷ [];
  lines = 1 ∷ [];
}

empty_listing : listing_of (empty_module ∷ []) [] ≡ codes "function module registers 0\n  0 finish\n"
unfolding digits encode name_of operands_of empty_module
empty_listing = refl

-- a module with one function and two constants

two_functions : List Code
two_functions = record {
  name = codes "module";
  params = [];
  result = reg_kind.Empty;
  start = start.Held;
  registers = 1;
  instrs = instr.Call 1 None [] ∷ instr.Text (r 0) 1 ∷ instr.Print (r 0 ∷ []) ∷ instr.Drop (r 0) ∷ instr.Finish ∷ [];
  lines = 3 ∷ 4 ∷ 4 ∷ 4 ∷ 4 ∷ [];
} ∷ record {
  name = 102 ∷ 955 ∷ [];
  params = [];
  result = reg_kind.Empty;
  start = start.Any;
  registers = 12;
  instrs = instr.Finish ∷ [];
  lines = 1 ∷ [];
} ∷ []

whole_listing : listing_of two_functions (constant.Wide (pos 9223372036854775808) ∷ constant.Text (codes "a") ∷ [])
    ≡ codes "function module registers 1\n  0 call 1 -\n  1 text r0 #1\n  2 print r0\n  3 drop r0\n  4 finish\nfunction f"
    ++ 206 ∷ 187 ∷ codes " registers 12\n  0 finish\n#0 9223372036854775808\n#1 'a'\n"
unfolding digits encode name_of operands_of two_functions
whole_listing = refl

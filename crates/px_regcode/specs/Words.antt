-- The words of a listing: how the operands of instructions are spelled.
use Rattle.std.specs.Prelude.{ℕ, Bool, true, false, List, ◌++◌, Option, Some, None, codes, decimal}
use Rattle.px_base.specs.declared.c_types.BinOp.{BinOp}
use Rattle.px_base.specs.declared.c_types.BinOp.TheVariants.{Add, Sub, Mul, FloorDiv, Mod, Shl, Shr, BitAnd, BitOr, BitXor}
use Rattle.px_base.specs.declared.c_types.UnOp.{UnOp}
use Rattle.px_base.specs.declared.c_types.UnOp.TheVariants.{Plus, Minus, Invert}
use Rattle.px_base.specs.declared.c_types.CmpOp.{CmpOp}
use Rattle.px_base.specs.declared.c_types.CmpOp.TheVariants.{Lt, Gt, Le, Ge, Eq, Ne}
use Rattle.px_base.specs.declared.c_types.CType.{CType}
use Rattle.px_base.specs.declared.c_types.CType.TheVariants as ctype
use Rattle.px_base.specs.declared.objects.Method.{Method}
use Rattle.px_base.specs.declared.objects.Method.TheVariants as method
use Rattle.px_base.specs.declared.objects.Builtin.{Builtin}
use Rattle.px_base.specs.declared.objects.Builtin.TheVariants as builtin
use Rattle.px_regcode.specs.declared.operands.Register.{Register}
use Rattle.px_regcode.specs.declared.operands.Order.{Order}
use Rattle.px_regcode.specs.declared.operands.Order.TheVariants as order
use Rattle.px_regcode.specs.declared.operands.StopKind.{StopKind}
use Rattle.px_regcode.specs.declared.operands.StopKind.TheVariants as stop

abbrev pub register_word : Register → List ℕ
register_word r = codes "r" ++ decimal r.number

-- an operand that isn't there
abbrev pub register_or_none : Option Register → List ℕ
register_or_none None = codes "-"
register_or_none (Some r) = register_word r

-- the number of an instruction
abbrev pub target_word : ℕ → List ℕ
target_word k = codes "@" ++ decimal k

-- the number of a constant
abbrev pub constant_word : ℕ → List ℕ
constant_word n = codes "#" ++ decimal n

abbrev pub flag_word : Bool → List ℕ
flag_word false = codes "0"
flag_word true = codes "1"

-- the operators as the source spells them

abbrev pub binary_word : BinOp → List ℕ
binary_word Add = codes "+"
binary_word Sub = codes "-"
binary_word Mul = codes "*"
binary_word FloorDiv = codes "//"
binary_word Mod = codes "%"
binary_word Shl = codes "<<"
binary_word Shr = codes ">>"
binary_word BitAnd = codes "&"
binary_word BitOr = codes "|"
binary_word BitXor = codes "^"

abbrev pub unary_word : UnOp → List ℕ
unary_word Plus = codes "+"
unary_word Minus = codes "-"
unary_word Invert = codes "~"

abbrev pub compare_word : CmpOp → List ℕ
compare_word Lt = codes "<"
compare_word Gt = codes ">"
compare_word Le = codes "<="
compare_word Ge = codes ">="
compare_word Eq = codes "=="
compare_word Ne = codes "!="

-- a C type as the source spells it, with _ for each space
abbrev pub type_word : CType → List ℕ
type_word ctype.SChar = codes "signed_char"
type_word ctype.UChar = codes "unsigned_char"
type_word ctype.Char = codes "char"
type_word ctype.Short = codes "short"
type_word ctype.UShort = codes "unsigned_short"
type_word ctype.Int = codes "int"
type_word ctype.UInt = codes "unsigned_int"
type_word ctype.Long = codes "long"
type_word ctype.ULong = codes "unsigned_long"
type_word ctype.LongLong = codes "long_long"
type_word ctype.ULongLong = codes "unsigned_long_long"
type_word ctype.SsizeT = codes "Py_ssize_t"
type_word ctype.SizeT = codes "size_t"
type_word ctype.Bint = codes "bint"

abbrev pub type_or_none : Option CType → List ℕ
type_or_none None = codes "-"
type_or_none (Some t) = type_word t

abbrev pub method_word : Method → List ℕ
method_word method.Append = codes "append"
method_word method.Pop = codes "pop"
method_word method.Extend = codes "extend"
method_word method.Reverse = codes "reverse"
method_word method.Get = codes "get"
method_word method.Keys = codes "keys"
method_word method.Values = codes "values"
method_word method.Items = codes "items"
method_word method.Split = codes "split"
method_word method.Join = codes "join"
method_word method.Strip = codes "strip"
method_word method.Other = codes "other"

abbrev pub builtin_word : Builtin → List ℕ
builtin_word builtin.Print = codes "print"
builtin_word builtin.Input = codes "input"
builtin_word builtin.Len = codes "len"
builtin_word builtin.Int = codes "int"
builtin_word builtin.Str = codes "str"
builtin_word builtin.Repr = codes "repr"
builtin_word builtin.Bool = codes "bool"
builtin_word builtin.List = codes "list"
builtin_word builtin.Tuple = codes "tuple"
builtin_word builtin.Abs = codes "abs"
builtin_word builtin.Min = codes "min"
builtin_word builtin.Max = codes "max"
builtin_word builtin.Range = codes "range"

abbrev pub order_word : Order → List ℕ
order_word order.C = codes "c"
order_word order.Fortran = codes "fortran"

abbrev pub stop_word : StopKind → List ℕ
stop_word stop.Break = codes "break"
stop_word stop.Return = codes "return"

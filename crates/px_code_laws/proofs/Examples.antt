-- The code of small modules, worked out by hand, and that it is code in the sense of the law.
use Rattle.std.proofs.Common.{◌≡◌, ◌≢◌, ℕ, zero, suc, List, [], ◌∷◌, Some, refl, subst, arith}
use Rattle.std.specs.Prelude.{pos, true, false, slice_get, codes}
use Rattle.std.proofs.lemmas.Int.{ints}
use Rattle.px_base.specs.declared.c_types.CType.TheVariants as c
use Rattle.px_base.specs.declared.c_types.BinOp.TheVariants as op
use Rattle.px_base.specs.declared.objects.Constant.TheVariants as constant
use Rattle.px_tree.specs.declared.typed_values.ValueType.{ValueType}
use Rattle.px_tree.specs.declared.typed_values.ValueType.TheVariants as type
use Rattle.px_tree.specs.declared.typed_heads.TypedHead.TheVariants as head
use Rattle.px_typed_walk.specs.TypedView.{TypedRose}
use Rattle.px_regcode.specs.declared.codes.Code.{Code}
use Rattle.px_regcode.specs.declared.codes.Start.TheVariants as start
use Rattle.px_regcode.specs.declared.operands.RegKind.TheVariants as kind
use Rattle.px_regcode.specs.declared.instructions.Instr.TheVariants as instr
use Rattle.px_regcode.specs.Images.{ImageParts}
use Rattle.px_meaning.specs.Calls.{SourceFunction, Source}
use Rattle.px_meaning.proofs.Trees.{node, long, local, given, binary, print, print_long, box, alone, call, declare, function, a_module}
use Rattle.px_exprgen.specs.ExpressionCode.{register, expression_code, code_by}
use Rattle.px_stmtgen.specs.declared.layouts.Layout.{Layout}
use Rattle.px_stmtgen.specs.StatementCode.{statement_code, statement_by}
use Rattle.px_stmtgen.specs.FunctionCode.{function_code}
use Rattle.px_machine.specs.Means.{Means}
use Rattle.px_ctypes.specs.Types.{IsValueOf}
use Rattle.px_code_laws.specs.Compiled.{AreCompiled, CodeThere, FunctionThere, IsCompiled}
use Rattle.px_code_laws.proofs.Means.{code_means}

-- ---- the empty module: `finish`, without a register

empty_code : function_code (record { variables = 0; objects = 0; gives = type.Void; none_at = 0 }) 0 false [] ≡ instr.Finish ∷ []
unfolding function_code
empty_code = refl

-- ---- def main():
--          cdef long a = 6
--          cdef long b = a * 7 - 2
--          print(b)
--          print(a, a + b)
--      main()

abbrev main_body : List TypedRose
main_body =
    declare 0 c.Long (long 6) ∷
    declare 1 c.Long (node (head.Steps (type.C c.Long)) (binary op.Mul c.Long (local 0 c.Long) (long 7) ∷ binary op.Sub c.Long (given c.Long) (long 2) ∷ [])) ∷
    print_long (local 1 c.Long) ∷
    print (box c.Long (local 0 c.Long) ∷ box c.Long (binary op.Add c.Long (local 0 c.Long) (local 1 c.Long)) ∷ []) ∷ []

abbrev main_layout : Layout
main_layout = record { variables = 2; objects = 2; gives = type.Object; none_at = 0 }

main_code : function_code main_layout 0 false main_body ≡
    instr.Jump 4 ∷ instr.Drop (register 2) ∷ instr.Drop (register 3) ∷ instr.Throw ∷ instr.Handle 1 ∷
    instr.Const (register 0) (pos 0) ∷ instr.Const (register 1) (pos 0) ∷
    instr.Const (register 4) (pos 6) ∷ instr.Move (register 0) (register 4) ∷
    instr.Move (register 4) (register 0) ∷ instr.Const (register 5) (pos 7) ∷ instr.Binary op.Mul c.Long (register 4) (register 4) (register 5) false ∷
    instr.Const (register 5) (pos 2) ∷ instr.Binary op.Sub c.Long (register 4) (register 4) (register 5) false ∷ instr.Move (register 1) (register 4) ∷
    instr.Move (register 4) (register 1) ∷ instr.Box c.Long (register 2) (register 4) ∷ instr.Print (register 2 ∷ []) ∷ instr.Drop (register 2) ∷
    instr.Move (register 4) (register 0) ∷ instr.Box c.Long (register 2) (register 4) ∷
    instr.Move (register 4) (register 0) ∷ instr.Move (register 5) (register 1) ∷ instr.Binary op.Add c.Long (register 4) (register 4) (register 5) false ∷
    instr.Box c.Long (register 3) (register 4) ∷ instr.Print (register 2 ∷ register 3 ∷ []) ∷ instr.Drop (register 2) ∷ instr.Drop (register 3) ∷
    instr.Text (register 2) 0 ∷ instr.Return (register 2) ∷ []
unfolding function_code statement_code statement_by expression_code code_by
main_code = refl

abbrev module_layout : Layout
module_layout = record { variables = 0; objects = 1; gives = type.Void; none_at = 0 }

abbrev module_body : List TypedRose
module_body = alone (call 0 type.Object []) ∷ []

module_code : function_code module_layout 0 false module_body ≡
    instr.Jump 3 ∷ instr.Drop (register 0) ∷ instr.Throw ∷ instr.Handle 1 ∷
    instr.Call 1 (Some (register 0)) [] ∷ instr.Drop (register 0) ∷ instr.Finish ∷ []
unfolding function_code statement_code statement_by expression_code code_by
module_code = refl

-- the law has something to say of it

abbrev first_source : Source
first_source = record (a_module module_body (function 2 type.Object main_body ∷ [])) { constants = constant.None ∷ [] }

abbrev code_of_main : Code
code_of_main = record {
  name = codes "main";
  params = [];
  result = kind.Object;
  start = start.Held;
  registers = 6;
  instrs = function_code main_layout 0 false main_body;
  lines = [];
}

abbrev code_of_module : Code
code_of_module = record {
  name = codes "module";
  params = [];
  result = kind.Empty;
  start = start.Held;
  registers = 1;
  instrs = function_code module_layout 0 false module_body;
  lines = [];
}

abbrev first_image : ImageParts
first_image = record { codes = code_of_module ∷ code_of_main ∷ []; loops = []; constants = constant.None ∷ [] }

same_function : {f g : SourceFunction} → Some f ≡ Some g → f ≡ g
same_function e = cc

six : IsValueOf c.Long (pos 6)
six = (omega (arith, ints), omega (arith, ints))

seven : IsValueOf c.Long (pos 7)
seven = (omega (arith, ints), omega (arith, ints))

two : IsValueOf c.Long (pos 2)
two = (omega (arith, ints), omega (arith, ints))

not_bint : c.Long ≢ c.Bint
not_bint e = cc

main_compiled : AreCompiled (record { locals = type.C c.Long ∷ type.C c.Long ∷ []; objects = 2; gives = type.Object; none_at = 0; constants = constant.None ∷ []; callees = Some type.Object ∷ []; locked = true }) 6 main_body
main_compiled = (
  (((refl, record { fine = (six, tt); typed = refl }), tt), omega arith),
  (
    (
      (
        (
          refl,
          record {
            fine = (
              tt,
              (
                c.Long,
                (
                  (((not_bint, (refl, record { given = c.Long; has = refl; same = λ plain. refl })), ((refl, tt), ((seven, tt), tt))), refl),
                  (((not_bint, (refl, record { given = c.Long; has = refl; same = λ plain. refl })), ((refl, tt), ((two, tt), tt))), refl),
                ),
              ),
            );
            typed = refl;
          },
        ),
        tt,
      ),
      omega arith,
    ),
    (
      ((refl, (omega arith, ((refl, ((refl, tt), tt)), tt))), omega arith),
      (
        ((refl, (omega arith, ((refl, ((refl, tt), tt)), ((refl, (((not_bint, (refl, record { given = c.Long; has = refl; same = λ plain. refl })), ((refl, tt), ((refl, tt), tt))), tt)), tt)))), omega arith),
        tt,
      ),
    ),
  ),
)

callees_of : (k : ℕ) (t : ValueType) → slice_get (Some type.Object ∷ []) k ≡ Some (Some t) → FunctionThere first_source k t
callees_of zero t e = record { callee = function 2 type.Object main_body; there = refl; gives = cc }
callees_of (suc k) t e = cc

functions_of : (k : ℕ) (f : SourceFunction) → slice_get (function 2 type.Object main_body ∷ []) k ≡ Some f → CodeThere first_image first_source (Some type.Object ∷ []) k f
functions_of zero f e = subst (CodeThere first_image first_source (Some type.Object ∷ []) 0) (same_function e) (record {
  code = code_of_main;
  there = refl;
  compiled = record {
    locals = type.C c.Long ∷ type.C c.Long ∷ [];
    objects = 2;
    none_at = 0;
    variables = refl;
    lock = refl;
    params = refl;
    says = record { params = refl; result = refl; start = refl };
    is_code = record {
      instrs = refl;
      numbers = tt;
      room = omega arith;
      end_room = tt;
      end = (omega arith, refl);
      locked = refl;
      compiled = main_compiled;
    };
  };
})
functions_of (suc k) f e = cc

first_is_compiled : IsCompiled first_image first_source
first_is_compiled = record {
  count = refl;
  constants = refl;
  callees = Some type.Object ∷ [];
  are_callees = callees_of;
  functions = functions_of;
  code = code_of_module;
  code_there = refl;
  objects = 1;
  none_at = 0;
  is_code = record {
    instrs = refl;
    numbers = tt;
    room = omega arith;
    end_room = tt;
    compiled = (((refl, (omega arith, refl)), omega arith), tt);
    end = tt;
    locked = refl;
  };
}

first_means : Means first_image first_source
first_means = code_means first_image first_source first_is_compiled

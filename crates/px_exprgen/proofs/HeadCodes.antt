-- The code of each head that has some.
use Rattle.std.proofs.Common.{◌≡◌, ℕ, suc, ◌/◌, ℤ, pos, Bool, List, [], ◌∷◌, refl}
use Rattle.px_base.specs.declared.c_types.BinOp.{BinOp}
use Rattle.px_base.specs.declared.c_types.UnOp.{UnOp}
use Rattle.px_base.specs.declared.c_types.CmpOp.{CmpOp}
use Rattle.px_base.specs.declared.c_types.CType.{CType}
use Rattle.px_ctypes.specs.Types.{bits}
use Rattle.px_tree.specs.declared.typed_values.ValueType.{ValueType}
use Rattle.px_tree.specs.declared.typed_values.Conversion.{Conversion}
use Rattle.px_tree.specs.declared.typed_values.Conversion.TheVariants as conversion
use Rattle.px_tree.specs.declared.typed_values.Comparing.{Comparing}
use Rattle.px_tree.specs.declared.typed_values.Comparing.TheVariants as comparing
use Rattle.px_tree.specs.declared.typed_heads.TypedHead.TheVariants as head
use Rattle.px_regcode.specs.declared.instructions.Instr.TheVariants as instr
use Rattle.px_exprgen.specs.ExpressionCode.{Emission, register, part_code, on_one, on_two, steps_code, code_by}

pub literal_code : (t : CType) (n : ℤ) (codes : List Emission) (pc d : ℕ) → code_by (head.Literal t n) codes pc d ≡ instr.Const (register d) n ∷ []
unfolding code_by
literal_code t n codes pc d = refl

pub sizeof_code : (t : CType) (codes : List Emission) (pc d : ℕ) → code_by (head.Sizeof t) codes pc d ≡ instr.Const (register d) (pos (bits t / 8)) ∷ []
unfolding code_by
sizeof_code t codes pc d = refl

pub local_code : (slot : ℕ) (t : ValueType) (codes : List Emission) (pc d : ℕ) → code_by (head.Local slot t) codes pc d ≡ instr.Move (register d) (register slot) ∷ []
unfolding code_by
local_code slot t codes pc d = refl

pub converted_code : (t : CType) (codes : List Emission) (pc d : ℕ) → code_by (head.Converted (conversion.ToC t)) codes pc d ≡ on_one (λ d. instr.Convert t (register d) (register d)) codes pc d
unfolding code_by
converted_code t codes pc d = refl

pub cast_code : (t : ValueType) (codes : List Emission) (pc d : ℕ) → code_by (head.Cast t) codes pc d ≡ part_code codes 0 pc d
unfolding code_by
cast_code t codes pc d = refl

pub steps_by : (t : ValueType) (codes : List Emission) (pc d : ℕ) → code_by (head.Steps t) codes pc d ≡ steps_code codes pc d
unfolding code_by
steps_by t codes pc d = refl

pub unary_code : (op : UnOp) (t : CType) (codes : List Emission) (pc d : ℕ) → code_by (head.Unary op t) codes pc d ≡ on_one (λ d. instr.Unary op t (register d) (register d)) codes pc d
unfolding code_by
unary_code op t codes pc d = refl

pub binary_code : (op : BinOp) (t : CType) (truncates : Bool) (codes : List Emission) (pc d : ℕ) → code_by (head.Binary op t truncates) codes pc d ≡ on_two (λ d. instr.Binary op t (register d) (register d) (register (suc d)) truncates) codes pc d
unfolding code_by
binary_code op t truncates codes pc d = refl

pub compare_code : (op : CmpOp) (t : CType) (codes : List Emission) (pc d : ℕ) → code_by (head.Compare (comparing.C op t)) codes pc d ≡ on_two (λ d. instr.Compare op t (register d) (register d) (register (suc d))) codes pc d
unfolding code_by
compare_code op t codes pc d = refl

pub abs_code : (t : CType) (codes : List Emission) (pc d : ℕ) → code_by (head.Abs t) codes pc d ≡ on_one (λ d. instr.Magnitude t (register d) (register d)) codes pc d
unfolding code_by
abs_code t codes pc d = refl

pub other_conversion : (asked : Conversion) → ((t : CType) → asked ≡ conversion.ToC t → ⊥) → (codes : List Emission) (pc d : ℕ) → code_by (head.Converted asked) codes pc d ≡ []
unfolding code_by
other_conversion (conversion.ToC t) others codes pc d = absurd (others t refl)
other_conversion (conversion.ToObject t) others codes pc d = refl
other_conversion (conversion.FromObject t) others codes pc d = refl
other_conversion conversion.Truth others codes pc d = refl
other_conversion (conversion.ViewOfObject t) others codes pc d = refl
other_conversion (conversion.ViewOfView t) others codes pc d = refl

pub other_comparison : (how : Comparing) → ((op : CmpOp) (t : CType) → how ≡ comparing.C op t → ⊥) → (codes : List Emission) (pc d : ℕ) → code_by (head.Compare how) codes pc d ≡ []
unfolding code_by
other_comparison (comparing.C op t) others codes pc d = absurd (others op t refl)
other_comparison (comparing.Objects op) others codes pc d = refl
other_comparison comparing.In others codes pc d = refl
other_comparison comparing.NotIn others codes pc d = refl
other_comparison comparing.Is others codes pc d = refl
other_comparison comparing.IsNot others codes pc d = refl

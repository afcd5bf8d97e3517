-- The code of expressions with values of C types: it leaves the value in a register, and writes to no register below that.
use Rattle.std.specs.Prelude.{ℕ, zero, suc, ◌+◌, ◌/◌, pos, max, List, [], ◌∷◌, ◌++◌, length}
use Rattle.px_ctypes.specs.Types.{bits}
use Rattle.px_tree.specs.declared.typed_values.Conversion.{Conversion}
use Rattle.px_tree.specs.declared.typed_values.Conversion.TheVariants as conversion
use Rattle.px_tree.specs.declared.typed_values.Comparing.{Comparing}
use Rattle.px_tree.specs.declared.typed_values.Comparing.TheVariants as comparing
use Rattle.px_tree.specs.declared.typed_heads.TypedHead.{TypedHead}
use Rattle.px_tree.specs.declared.typed_heads.TypedHead.TheVariants as head
use Rattle.px_walk.specs.Roses.{Roses, rose, none, more}
use Rattle.px_typed_walk.specs.TypedView.{TypedRose}
use Rattle.px_regcode.specs.declared.operands.Register.{Register}
use Rattle.px_regcode.specs.declared.instructions.Instr.{Instr}
use Rattle.px_regcode.specs.declared.instructions.Instr.TheVariants as instr

abbrev pub register : ℕ → Register
register n = record { number = n }

-- the code that leaves a value in a register: by the number of its first instruction, and the register
abbrev pub Emission : Type 0
Emission = (pc d : ℕ) → List Instr

-- code with other code behind it, which begins where the first one ends
abbrev pub behind : List Instr → (ℕ → List Instr) → ℕ → List Instr
behind code others pc = code ++ others (pc + length code)

-- that of the part of this number
abbrev pub part_code : List Emission → ℕ → Emission
part_code [] k pc d = []
part_code (code ∷ codes) zero pc d = code pc d
part_code (code ∷ codes) (suc k) pc d = part_code codes k pc d

-- an instruction on the values of one part or of two, which stand in d and behind it

abbrev pub on_one : (ℕ → Instr) → List Emission → Emission
on_one make codes pc d = part_code codes 0 pc d ++ make d ∷ []

abbrev pub on_two : (ℕ → Instr) → List Emission → Emission
on_two make codes pc d = behind (part_code codes 0 pc d) (λ next. part_code codes 1 next (suc d) ++ make d ∷ []) pc

abbrev pub conversion_code : Conversion → List Emission → Emission
conversion_code (conversion.ToC t) codes pc d = on_one (λ d. instr.Convert t (register d) (register d)) codes pc d
conversion_code _ codes pc d = []

abbrev pub comparison_code : Comparing → List Emission → Emission
comparison_code (comparing.C op t) codes pc d =
    on_two (λ d. instr.Compare op t (register d) (register d) (register (suc d))) codes pc d
comparison_code _ codes pc d = []

-- Steps find the value of the one before in d, where each leaves its own.
abbrev pub steps_code : List Emission → Emission
steps_code [] pc d = []
steps_code (code ∷ codes) pc d = behind (code pc d) (λ next. steps_code codes next d) pc

-- By the head of an expression and the code of its parts. A value at hand stands in d already. The heads that aren't named have no code,
-- and neither do conversions and comparisons of other kinds: what they mean isn't code yet.
unfoldable pub code_by : TypedHead → List Emission → Emission
code_by (head.Literal t n) codes pc d = instr.Const (register d) n ∷ []
code_by (head.Sizeof t) codes pc d = instr.Const (register d) (pos (bits t / 8)) ∷ []
code_by (head.Local slot t) codes pc d = instr.Move (register d) (register slot) ∷ []
code_by (head.Converted asked) codes pc d = conversion_code asked codes pc d
code_by (head.Given t) codes pc d = []
code_by (head.Cast t) codes pc d = part_code codes 0 pc d
code_by (head.Steps t) codes pc d = steps_code codes pc d
code_by (head.Unary op t) codes pc d = on_one (λ d. instr.Unary op t (register d) (register d)) codes pc d
code_by (head.Binary op t truncates) codes pc d =
    on_two (λ d. instr.Binary op t (register d) (register d) (register (suc d)) truncates) codes pc d
code_by (head.Compare how) codes pc d = comparison_code how codes pc d
code_by (head.Abs t) codes pc d = on_one (λ d. instr.Magnitude t (register d) (register d)) codes pc d
code_by _ codes pc d = []

unfoldable mutual
  pub expression_code : TypedRose → Emission
  expression_code (rose head number at parts) pc d = code_by head (expression_codes parts) pc d

  pub expression_codes : Roses TypedHead → List Emission
  expression_codes none = []
  expression_codes (more tree trees) = expression_code tree ∷ expression_codes trees

-- How many registers an expression takes: its parts stand in registers behind one another, and steps in one.
abbrev pub width_by : TypedHead → (behind_another in_one : ℕ) → ℕ
width_by (head.Steps t) behind_another in_one = max 1 in_one
width_by _ behind_another in_one = max 1 behind_another

abbrev mutual
  pub width : TypedRose → ℕ
  width (rose head number at parts) = width_by head (widths parts) (widest parts)

  pub widths : Roses TypedHead → ℕ
  widths none = 0
  widths (more tree trees) = max (width tree) (suc (widths trees))

  pub widest : Roses TypedHead → ℕ
  widest none = 0
  widest (more tree trees) = max (width tree) (widest trees)

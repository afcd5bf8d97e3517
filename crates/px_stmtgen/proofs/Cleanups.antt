-- The length of the code where a fault goes.
use Rattle.std.proofs.Common.{◌≡◌, ℕ, zero, suc, ◌+◌, ◌≤◌, Bool, true, false, [], ◌∷◌, length, refl, ap, ◌∙◌, length-append, arith}
use Rattle.std.specs.Prelude.{IsTrue, IsFalse}
use Rattle.px_tree.specs.declared.typed_values.ValueType.{ValueType}
use Rattle.px_tree.specs.declared.typed_values.ValueType.TheVariants as type
use Rattle.px_regcode.specs.declared.instructions.Instr.TheVariants as instr
use Rattle.px_stmtgen.specs.declared.layouts.Layout.{Layout}
use Rattle.px_stmtgen.specs.Layouts.{drops, ending_code}
use Rattle.px_stmtgen.specs.FunctionCode.{cleanup}

drops_length : (first count : ℕ) → length (drops first count) ≡ count
drops_length first zero = refl
drops_length first (suc count) = ap suc (drops_length (suc first) count)

pub swallowing_length : (l : Layout) (swallows : Bool) (t : ValueType) (n count : ℕ) → IsTrue swallows → l.gives ≡ t → length (ending_code l t) ≡ n → l.objects + n ≡ count
    → count ≡ length (cleanup l swallows)
swallowing_length l false t n count swallowed gives ends is = absurd cc
swallowing_length l true t n count swallowed gives ends is =
    let a = length-append (drops l.variables l.objects) (ending_code l l.gives) in
    let b = drops_length l.variables l.objects in
    let e : length (ending_code l l.gives) ≡ n = ap (λ t. length (ending_code l t)) gives ∙ ends in
    omega arith

pub throwing_length : (l : Layout) (swallows : Bool) → IsFalse swallows → l.objects + 1 ≡ length (cleanup l swallows)
throwing_length l true thrown = absurd cc
throwing_length l false thrown =
    let a = length-append (drops l.variables l.objects) (instr.Throw ∷ []) in
    let b = drops_length l.variables l.objects in
    omega arith

ending_length : (l : Layout) (t : ValueType) → length (ending_code l t) ≤ 2
ending_length l (type.C t) = omega arith
ending_length l type.Object = omega arith
ending_length l (type.View t) = omega arith
ending_length l type.Void = omega arith

pub cleanup_short : (l : Layout) (swallows : Bool) → length (cleanup l swallows) ≤ l.objects + 2
cleanup_short l true =
    let a = length-append (drops l.variables l.objects) (ending_code l l.gives) in
    let b = drops_length l.variables l.objects in
    let c = ending_length l l.gives in
    omega arith
cleanup_short l false =
    let a = length-append (drops l.variables l.objects) (instr.Throw ∷ []) in
    let b = drops_length l.variables l.objects in
    omega arith

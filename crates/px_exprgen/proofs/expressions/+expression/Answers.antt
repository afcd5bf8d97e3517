use Rattle.std.proofs.Common.{◌≡◌, FitsSigned, ◌+◌, ◌<◌, pos, [], ◌∷◌, ap, sym, refl, ◌∙◌, arith, rules}
use Rattle.std.specs.Prelude.{Some, slice_get}
use Rattle.std.proofs.lemmas.Int.{to_z-of_z}
use Rattle.std.specs.Int.{w128}
use Rattle.px_tree.specs.declared.typed_values.Conversion.TheVariants as conversion
use Rattle.px_tree.specs.declared.typed_values.Comparing.TheVariants as comparing
use Rattle.px_tree.specs.declared.typed_heads.TypedHead.TheVariants as head
use Rattle.px_walk.specs.Roses.{parts_of, size}
use Rattle.px_walk.proofs.Walks.{size-part}
use Rattle.px_typed_walk.specs.TypedView.{rose_of_typed}
use Rattle.px_regcode.specs.declared.instructions.Instr.TheVariants as instr
use Rattle.px_exprgen.specs.ExpressionCode.{register}
use Rattle.px_exprgen.proofs.Fitting.{part_fits, step_fits, part_places}
use Rattle.px_exprgen.proofs.HeadCodes.{literal_code, sizeof_code, local_code, converted_code, cast_code, steps_by, unary_code, binary_code, compare_code, abs_code, other_conversion, other_comparison}
use Rattle.px_exprgen.proofs.OtherHeads.{other_code}
use Rattle.px_exprgen.proofs.Shapes.{emitted, nothing, one_emitted, two_emitted, part_emitted, part_nothing, steps_first, steps_next, steps_last}
use Rattle.px_exprgen.proofs.expressions.+expression.Goals as goal

pub expression-part-requires : goal.expression-part-requires
expression-part-requires t c =
    let d = c.decreases in
    (omega arith, ((λ part there. part_fits (rose_of_typed c.args.tree.now) (head.Converted c.in-Converted.asked) c.args.d 0 c.args.d part c.in-Converted.ensures (λ a b. refl) c.requires.width (omega arith) there), c.requires.places))

pub expression-part-requires-in-Cast : goal.expression-part-requires-in-Cast
expression-part-requires-in-Cast t c =
    let d = c.decreases in
    (omega arith, ((λ part there. part_fits (rose_of_typed c.args.tree.now) (head.Cast c.in-Cast.field-0) c.args.d 0 c.args.d part c.in-Cast.ensures (λ a b. refl) c.requires.width (omega arith) there), c.requires.places))

pub expression-steps-requires : goal.expression-steps-requires
expression-steps-requires t c =
    let d = c.decreases in
    (omega arith, ((λ k part there. step_fits (rose_of_typed c.args.tree.now) c.in-Steps.field-0 c.args.d k part c.in-Steps.ensures c.requires.width there), c.requires.places))

pub expression-part-requires-in-Unary : goal.expression-part-requires-in-Unary
expression-part-requires-in-Unary t c =
    let d = c.decreases in
    (omega arith, ((λ part there. part_fits (rose_of_typed c.args.tree.now) (head.Unary c.in-Unary.op c.in-Unary.t) c.args.d 0 c.args.d part c.in-Unary.ensures (λ a b. refl) c.requires.width (omega arith) there), c.requires.places))

pub expression-part-requires-in-Binary : goal.expression-part-requires-in-Binary
expression-part-requires-in-Binary t c =
    let d = c.decreases in
    (omega arith, ((λ part there. part_fits (rose_of_typed c.args.tree.now) (head.Binary c.in-Binary.op c.in-Binary.t c.in-Binary.truncates) c.args.d 0 c.args.d part c.in-Binary.ensures (λ a b. refl) c.requires.width (omega arith) there), c.requires.places))

pub expression-part-requires-in-Binary-2 : goal.expression-part-requires-in-Binary-2
expression-part-requires-in-Binary-2 t c =
    let d = c.decreases in
    (omega arith, ((λ part there. part_fits (rose_of_typed c.args.tree.now) (head.Binary c.in-Binary.op c.in-Binary.t c.in-Binary.truncates) c.args.d 1 (c.args.d + 1) part c.in-Binary.ensures (λ a b. refl) c.requires.width (omega arith) there), c.requires.places))

pub expression-part-requires-in-C : goal.expression-part-requires-in-C
expression-part-requires-in-C t c =
    let d = c.decreases in
    (omega arith, ((λ part there. part_fits (rose_of_typed c.args.tree.now) (head.Compare c.in-Compare.how) c.args.d 0 c.args.d part c.in-Compare.ensures (λ a b. refl) c.requires.width (omega arith) there), c.requires.places))

pub expression-part-requires-in-C-2 : goal.expression-part-requires-in-C-2
expression-part-requires-in-C-2 t c =
    let d = c.decreases in
    (omega arith, ((λ part there. part_fits (rose_of_typed c.args.tree.now) (head.Compare c.in-Compare.how) c.args.d 1 (c.args.d + 1) part c.in-Compare.ensures (λ a b. refl) c.requires.width (omega arith) there), c.requires.places))

pub expression-part-requires-in-Abs : goal.expression-part-requires-in-Abs
expression-part-requires-in-Abs t c =
    let d = c.decreases in
    (omega arith, ((λ part there. part_fits (rose_of_typed c.args.tree.now) (head.Abs c.in-Abs.t) c.args.d 0 c.args.d part c.in-Abs.ensures (λ a b. refl) c.requires.width (omega arith) there), c.requires.places))

pub expression-returns-in-Literal : goal.expression-returns-in-Literal
expression-returns-in-Literal t c =
    let fits : FitsSigned w128 c.in-Literal.n = search rules in
    emitted c.push.result (rose_of_typed c.args.tree.now) (head.Literal c.in-Literal.field-0 c.in-Literal.n) c.args.d c.args.code.now c.push.new.self _ c.in-Literal.ensures
    (literal_code c.in-Literal.field-0 c.in-Literal.n _ _ _ ∙ ap (λ n. instr.Const (register c.args.d) n ∷ []) (sym (to_z-of_z w128 c.in-Literal.n fits)))
    c.push.ensures.ok

pub expression-returns-in-Sizeof : goal.expression-returns-in-Sizeof
expression-returns-in-Sizeof t c =
    let fits : FitsSigned w128 c.from.result = search rules in
    emitted c.push-in-Sizeof.result (rose_of_typed c.args.tree.now) (head.Sizeof c.in-Sizeof.t) c.args.d c.args.code.now c.push-in-Sizeof.new.self _ c.in-Sizeof.ensures
    (sizeof_code c.in-Sizeof.t _ _ _
    ∙ ap (λ n. instr.Const (register c.args.d) n ∷ []) (sym (to_z-of_z w128 c.from.result fits ∙ c.from.ensures ∙ ap pos c.size_of.ensures)))
    c.push-in-Sizeof.ensures.ok

pub expression-returns-in-Local : goal.expression-returns-in-Local
expression-returns-in-Local t c =
    emitted c.push-in-Local.result (rose_of_typed c.args.tree.now) (head.Local c.in-Local.slot c.in-Local.field-1) c.args.d c.args.code.now c.push-in-Local.new.self _ c.in-Local.ensures
    (local_code c.in-Local.slot c.in-Local.field-1 _ _ _) c.push-in-Local.ensures.ok

pub expression-returns-in_ok-part-in-ToC : goal.expression-returns-in_ok-part-in-ToC
expression-returns-in_ok-part-in-ToC t c =
    one_emitted c.push-in-ToC.result (rose_of_typed c.args.tree.now) (head.Converted (conversion.ToC c.in-ToC.t)) c.args.d (λ d. instr.Convert c.in-ToC.t (register d) (register d)) c.args.code.now c.part.new.code c.push-in-ToC.new.self
    (ap head.Converted (sym c.in-ToC.is) ∙ c.in-Converted.ensures) (converted_code c.in-ToC.t _ _ _) c.in_ok-part-in-ToC.ensures c.push-in-ToC.ensures.ok

pub expression-returns-in_default-asked : goal.expression-returns-in_default-asked
expression-returns-in_default-asked t c =
    nothing (rose_of_typed c.args.tree.now) (head.Converted c.in-Converted.asked) c.args.d c.args.code.now c.in-Converted.ensures (other_conversion c.in-Converted.asked c.in_default-asked.not-ToC _ _ _)

pub expression-returns-in-Cast : goal.expression-returns-in-Cast
expression-returns-in-Cast t c =
    emitted c.part-in-Cast.result (rose_of_typed c.args.tree.now) (head.Cast c.in-Cast.field-0) c.args.d c.args.code.now c.part-in-Cast.new.code _ c.in-Cast.ensures (cast_code c.in-Cast.field-0 _ _ _) c.part-in-Cast.ensures

pub expression-returns-in-Steps : goal.expression-returns-in-Steps
expression-returns-in-Steps t c =
    emitted c.steps.result (rose_of_typed c.args.tree.now) (head.Steps c.in-Steps.field-0) c.args.d c.args.code.now c.steps.new.code _ c.in-Steps.ensures (steps_by c.in-Steps.field-0 _ _ _) c.steps.ensures

pub expression-returns-in_ok-part-in-Unary : goal.expression-returns-in_ok-part-in-Unary
expression-returns-in_ok-part-in-Unary t c =
    one_emitted c.push-in-Unary.result (rose_of_typed c.args.tree.now) (head.Unary c.in-Unary.op c.in-Unary.t) c.args.d (λ d. instr.Unary c.in-Unary.op c.in-Unary.t (register d) (register d)) c.args.code.now c.part-in-Unary.new.code c.push-in-Unary.new.self c.in-Unary.ensures
    (unary_code c.in-Unary.op c.in-Unary.t _ _ _) c.in_ok-part-in-Unary.ensures c.push-in-Unary.ensures.ok

pub expression-returns-in_ok-part-in-Binary-2 : goal.expression-returns-in_ok-part-in-Binary-2
expression-returns-in_ok-part-in-Binary-2 t c =
    two_emitted c.push-in-Binary.result (rose_of_typed c.args.tree.now) (head.Binary c.in-Binary.op c.in-Binary.t c.in-Binary.truncates) c.args.d (λ d right. instr.Binary c.in-Binary.op c.in-Binary.t (register d) (register d) (register right) c.in-Binary.truncates) c.args.code.now c.part-in-Binary.new.code c.part-in-Binary-2.new.code c.push-in-Binary.new.self
    c.in-Binary.ensures (binary_code c.in-Binary.op c.in-Binary.t c.in-Binary.truncates _ _ _) c.in_ok-part-in-Binary.ensures c.in_ok-part-in-Binary-2.ensures c.push-in-Binary.ensures.ok

pub expression-returns-in_ok-part-in-C-2 : goal.expression-returns-in_ok-part-in-C-2
expression-returns-in_ok-part-in-C-2 t c =
    two_emitted c.push-in-C.result (rose_of_typed c.args.tree.now) (head.Compare (comparing.C c.in-C.op c.in-C.t)) c.args.d (λ d right. instr.Compare c.in-C.op c.in-C.t (register d) (register d) (register right)) c.args.code.now c.part-in-C.new.code c.part-in-C-2.new.code c.push-in-C.new.self
    (ap head.Compare (sym c.in-C.is) ∙ c.in-Compare.ensures) (compare_code c.in-C.op c.in-C.t _ _ _) c.in_ok-part-in-C.ensures c.in_ok-part-in-C-2.ensures c.push-in-C.ensures.ok

pub expression-returns-in_default-how : goal.expression-returns-in_default-how
expression-returns-in_default-how t c =
    nothing (rose_of_typed c.args.tree.now) (head.Compare c.in-Compare.how) c.args.d c.args.code.now c.in-Compare.ensures (other_comparison c.in-Compare.how c.in_default-how.not-C _ _ _)

pub expression-returns-in_ok-part-in-Abs : goal.expression-returns-in_ok-part-in-Abs
expression-returns-in_ok-part-in-Abs t c =
    one_emitted c.push-in-Abs.result (rose_of_typed c.args.tree.now) (head.Abs c.in-Abs.t) c.args.d (λ d. instr.Magnitude c.in-Abs.t (register d) (register d)) c.args.code.now c.part-in-Abs.new.code c.push-in-Abs.new.self c.in-Abs.ensures
    (abs_code c.in-Abs.t _ _ _) c.in_ok-part-in-Abs.ensures c.push-in-Abs.ensures.ok

pub expression-returns-in_default : goal.expression-returns-in_default
expression-returns-in_default t c =
    nothing (rose_of_typed c.args.tree.now) c.head.result c.args.d c.args.code.now c.head.ensures
    (other_code _ _ _ c.head.result c.in_default.not-Literal c.in_default.not-Sizeof c.in_default.not-Local c.in_default.not-Converted c.in_default.not-Cast c.in_default.not-Steps c.in_default.not-Unary c.in_default.not-Binary c.in_default.not-Compare c.in_default.not-Abs)

pub part-expression-requires : goal.part-expression-requires
part-expression-requires t c =
    let there : slice_get (parts_of (rose_of_typed c.args.node.tree.now)) c.args.k ≡ Some (rose_of_typed c.in-Some.part.tree.now) = sym c.in-Some.ensures in
    let less : size (rose_of_typed c.in-Some.part.tree.now) < size (rose_of_typed c.args.node.tree.now) = size-part (rose_of_typed c.args.node.tree.now) c.args.k (rose_of_typed c.in-Some.part.tree.now) there in
    let d = c.decreases in
    (omega arith, (c.requires.width _ there, part_places (rose_of_typed c.args.node.tree.now) (rose_of_typed c.in-Some.part.tree.now) c.args.k there c.requires.places))

pub part-returns-in-Some : goal.part-returns-in-Some
part-returns-in-Some t c =
    part_emitted c.expression.result (parts_of (rose_of_typed c.args.node.tree.now)) c.args.k (rose_of_typed c.in-Some.part.tree.now) c.args.d c.args.code.now c.expression.new.code (sym c.in-Some.ensures) c.expression.ensures

pub part-returns-in-None : goal.part-returns-in-None
part-returns-in-None t c =
    part_nothing (parts_of (rose_of_typed c.args.node.tree.now)) c.args.k c.args.d c.args.code.now (sym c.in-None.ensures)

pub steps-loop-k-init : goal.steps-loop-k-init
steps-loop-k-init t c =
    steps_first (parts_of (rose_of_typed c.args.node.tree.now)) c.args.d c.args.code.now

pub steps-expression-requires : goal.steps-expression-requires
steps-expression-requires t c =
    let there = c.part.ensures in
    let less : size (rose_of_typed c.part.result.tree.now) < size (rose_of_typed c.args.node.tree.now) = size-part (rose_of_typed c.args.node.tree.now) c.loop-k.k (rose_of_typed c.part.result.tree.now) there in
    let d = c.decreases in
    (omega arith, (c.requires.width c.loop-k.k _ there, part_places (rose_of_typed c.args.node.tree.now) (rose_of_typed c.part.result.tree.now) c.loop-k.k there c.requires.places))

pub steps-loop-k-preserved : goal.steps-loop-k-preserved
steps-loop-k-preserved t c =
    steps_next (parts_of (rose_of_typed c.args.node.tree.now)) c.loop-k.k (rose_of_typed c.part.result.tree.now) c.args.d c.loop-k.code c.expression.new.code _ c.loop-k.invariant c.part.ensures c.in_ok-expression.ensures

pub steps-returns : goal.steps-returns
steps-returns t c =
    steps_last (parts_of (rose_of_typed c.args.node.tree.now)) c.loop-k.k c.args.d c.loop-k.code _ c.loop-k.invariant (omega arith)

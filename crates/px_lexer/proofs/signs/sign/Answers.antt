use Rattle.std.proofs.Common.{refl, sym, ◌∙◌, arith}
use Rattle.px_lexer.proofs.SignLemmas.{read_three, read_two, read_one, ends_inside}
use Rattle.px_lexer.proofs.signs.sign.Goals as goal

pub returns-in-Some : goal.returns-in-Some
returns-in-Some c = read_three c.args.cs.now c.args.from _ _ _ c.in-Some.kind c.code-first.ensures c.code_ahead-second.ensures c.code_ahead.ensures (sym c.triple.ensures ∙ c.in-Some.is)

pub overflow_add-result : goal.overflow_add-result
overflow_add-result c =
    let inside = ends_inside c.args.cs.now c.args.from _ (read_three c.args.cs.now c.args.from _ _ _ c.in-Some.kind c.code-first.ensures c.code_ahead-second.ensures c.code_ahead.ensures (sym c.triple.ensures ∙ c.in-Some.is)) in
    omega (arith, inside)

pub returns-in-Some-pair : goal.returns-in-Some-pair
returns-in-Some-pair c = read_two c.args.cs.now c.args.from _ _ _ c.in-Some-pair.kind c.code-first.ensures c.code_ahead-second.ensures c.code_ahead.ensures (sym c.triple.ensures ∙ c.in_default.is) (sym c.pair.ensures ∙ c.in-Some-pair.is)

pub overflow_add-result-in-Some-pair : goal.overflow_add-result-in-Some-pair
overflow_add-result-in-Some-pair c =
    let inside = ends_inside c.args.cs.now c.args.from _ (read_two c.args.cs.now c.args.from _ _ _ c.in-Some-pair.kind c.code-first.ensures c.code_ahead-second.ensures c.code_ahead.ensures (sym c.triple.ensures ∙ c.in_default.is) (sym c.pair.ensures ∙ c.in-Some-pair.is)) in
    omega (arith, inside)

pub returns : goal.returns
returns c = read_one c.args.cs.now c.args.from _ _ _ _ c.code-first.ensures c.code_ahead-second.ensures c.code_ahead.ensures c.requires (sym c.triple.ensures ∙ c.in_default.is) (sym c.pair.ensures ∙ c.in_default-pair.is) c.single_kind.ensures

pub overflow_add-result-2 : goal.overflow_add-result-2
overflow_add-result-2 c =
    let inside = ends_inside c.args.cs.now c.args.from _ (read_one c.args.cs.now c.args.from _ _ _ _ c.code-first.ensures c.code_ahead-second.ensures c.code_ahead.ensures c.requires (sym c.triple.ensures ∙ c.in_default.is) (sym c.pair.ensures ∙ c.in_default-pair.is) refl) in
    omega (arith, inside)

use Rattle.std.proofs.Common.{sym, ap, ◌∙◌, Some}
use Rattle.std.proofs.lemmas.Option.{slice_get-get_or}
use Rattle.px_compile.proofs.StatementParts.{callee_with_parameters, callee_without_parameters, callee_missing}
use Rattle.px_compile.proofs.statements.is_callee.Goals as goal

pub returns-then-f-eq0 : goal.returns-then-f-eq0
returns-then-f-eq0 c =
    let there = slice_get-get_or c.args.functions.now c.args.function c.in-Some.f.now c.in-Some.ensures.lookup.3.0 ∙ ap Some (sym c.in-Some.ensures.lookup.1) in
    c.gives_type.ensures ∙ callee_without_parameters c.args.functions.now c.args.function c.in-Some.f.now c.args.t there c.if-f-eq0.true

pub returns-else-f-eq0 : goal.returns-else-f-eq0
returns-else-f-eq0 c =
    let there = slice_get-get_or c.args.functions.now c.args.function c.in-Some.f.now c.in-Some.ensures.lookup.3.0 ∙ ap Some (sym c.in-Some.ensures.lookup.1) in
    callee_with_parameters c.args.functions.now c.args.function c.in-Some.f.now c.args.t there c.if-f-eq0.false

pub returns-in-None : goal.returns-in-None
returns-in-None c = callee_missing c.args.functions.now c.args.function c.args.t c.in-None.ensures.lookup.3

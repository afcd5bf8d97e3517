use Rattle.std.proofs.Common.{suc, subst}
use Rattle.std.proofs.lemmas.Result.{err_from_is_err_and}
use Rattle.px_base.proofs.Facts.{denied}
use Rattle.px_lexer.specs.declared.spelling.Keyword.TheVariants as word
use Rattle.px_lexer.specs.declared.spelling.Operator.TheVariants as sign
use Rattle.px_lexer.specs.Terminals.{terminals_of, IsKeyword, IsOperator}
use Rattle.px_exprs.specs.Runs.{nesting_limit}
use Rattle.px_parser.proofs.Steps.{fails}
use Rattle.px_parser.proofs.ReadingSteps.{inside_tokens}
use Rattle.px_parser.proofs.HeadReading.{head_spelled}
use Rattle.px_parser.proofs.DeclareReading.{typed_named}
use Rattle.px_parser.proofs.CItemSteps.{HasCdef, Named, at_next, named_next, plain_here, named_refused, group_refused, declare_read, inline_refused, inline_read, plain_head, step_rest, step_decl_rest, typed_of_result, untyped_stuck, function_item, declaration_item, line_small}
use Rattle.px_parser.proofs.modules.c_item.Goals as goal

pub returns-in_err-group : goal.returns-in_err-group
returns-in_err-group c =
    let p = err_from_is_err_and c.from_residual.result c.from_residual.ensures.1 in
    let begun : HasCdef c.args.tokens.now c.args.from = record { listing = c.requires.input; inside = c.requires.inside; cdef = c.requires.begins } in
    rw (p.1, p.2) (group_refused nesting_limit begun (at_next (λ k. IsOperator (terminals_of c.args.tokens.now) k sign.Colon) c.args.from (c.is_operator.ensures.0 c.if-is_operator.true)) c.in_err-group.field-0.0 (c.in_err-group.ensures nesting_limit))

pub returns-then-is_operator : goal.returns-then-is_operator
returns-then-is_operator c = declare_read _ (c.in_ok-group.ensures nesting_limit) c.in_ok-tree.ensures

pub returns-in_err-found : goal.returns-in_err-found
returns-in_err-found c =
    let p = err_from_is_err_and c.from_residual-in_err-found.result c.from_residual-in_err-found.ensures.1 in
    let begun : HasCdef c.args.tokens.now c.args.from = record { listing = c.requires.input; inside = c.requires.inside; cdef = c.requires.begins } in
    rw (p.1, p.2) (inline_refused nesting_limit begun (at_next (λ k. IsKeyword (terminals_of c.args.tokens.now) k word.Inline) c.args.from (c.is_keyword.ensures.0 c.if-is_keyword.true)) c.in_err-found.field-0.0 c.in_err-found.ensures)

pub returns-then-is_keyword : goal.returns-then-is_keyword
returns-then-is_keyword c = inline_read _ c.in_ok-found.ensures c.in_ok-tree-2.ensures

pub returns-in_err-gives : goal.returns-in_err-gives
returns-in_err-gives c =
    let p = err_from_is_err_and c.from_residual-in_err-gives.result c.from_residual-in_err-gives.ensures.1 in
    let begun : HasCdef c.args.tokens.now c.args.from = record { listing = c.requires.input; inside = c.requires.inside; cdef = c.requires.begins } in
    let plain = plain_here begun (denied c.is_operator.ensures c.if-is_operator.false) (denied c.is_keyword.ensures c.if-is_keyword.false) in
    rw (p.1, p.2) (named_refused nesting_limit plain c.in_err-gives.field-0.0 (c.in_err-gives.ensures nesting_limit))

pub returns-in_err-found-2 : goal.returns-in_err-found-2
returns-in_err-found-2 c =
    let p = err_from_is_err_and c.from_residual-in_err-found-2.result c.from_residual-in_err-found-2.ensures.1 in
    let begun : HasCdef c.args.tokens.now c.args.from = record { listing = c.requires.input; inside = c.requires.inside; cdef = c.requires.begins } in
    let plain = plain_here begun (denied c.is_operator.ensures c.if-is_operator.false) (denied c.is_keyword.ensures c.if-is_keyword.false) in
    let named = named_next c.args.tokens.now c.args.from c.in_ok-gives.ensures in
    rw (p.1, p.2) (fails (step_rest nesting_limit plain named (c.is_operator-2.ensures.0 c.if-is_operator-2.true)) c.in_err-found-2.field-0.0 c.in_err-found-2.ensures)

pub function_with-requires-clause-named : goal.function_with-requires-clause-named
function_with-requires-clause-named c =
    let begun : HasCdef c.args.tokens.now c.args.from = record { listing = c.requires.input; inside = c.requires.inside; cdef = c.requires.begins } in
    let plain = plain_here begun (denied c.is_operator.ensures c.if-is_operator.false) (denied c.is_keyword.ensures c.if-is_keyword.false) in
    let named = named_next c.args.tokens.now c.args.from c.in_ok-gives.ensures in
    head_spelled (plain_head 0 plain named (c.is_operator-2.ensures.0 c.if-is_operator-2.true))

pub returns-then-is_operator-2 : goal.returns-then-is_operator-2
returns-then-is_operator-2 c =
    let begun : HasCdef c.args.tokens.now c.args.from = record { listing = c.requires.input; inside = c.requires.inside; cdef = c.requires.begins } in
    let plain = plain_here begun (denied c.is_operator.ensures c.if-is_operator.false) (denied c.is_keyword.ensures c.if-is_keyword.false) in
    let named = named_next c.args.tokens.now c.args.from c.in_ok-gives.ensures in
    let made = c.in_ok-made.ensures in
    function_item _ plain named (c.is_operator-2.ensures.0 c.if-is_operator-2.true) c.in_ok-found-2.ensures c.new-none.ensures made.3 made.4 made.5 made.6 c.in_ok-tree-3.ensures

pub returns-in_default : goal.returns-in_default
returns-in_default c =
    let begun : HasCdef c.args.tokens.now c.args.from = record { listing = c.requires.input; inside = c.requires.inside; cdef = c.requires.begins } in
    let plain = plain_here begun (denied c.is_operator.ensures c.if-is_operator.false) (denied c.is_keyword.ensures c.if-is_keyword.false) in
    let named = named_next c.args.tokens.now c.args.from c.in_ok-gives.ensures in
    untyped_stuck nesting_limit plain named (denied c.is_operator-2.ensures c.if-is_operator-2.false) (λ typing e. c.in_default.not-Of typing e)

pub decl_rest-requires-clause-inside : goal.decl_rest-requires-clause-inside
decl_rest-requires-clause-inside c = inside_tokens c.args.tokens.now _ (c.in_ok-gives.ensures 0).within

pub returns-in_err-value : goal.returns-in_err-value
returns-in_err-value c =
    let p = err_from_is_err_and c.from_residual-in_err-value.result c.from_residual-in_err-value.ensures.1 in
    let begun : HasCdef c.args.tokens.now c.args.from = record { listing = c.requires.input; inside = c.requires.inside; cdef = c.requires.begins } in
    let plain = plain_here begun (denied c.is_operator.ensures c.if-is_operator.false) (denied c.is_keyword.ensures c.if-is_keyword.false) in
    let named = subst (λ g. Named c.args.tokens.now c.args.from (g, c.in_ok-gives.field-0.tree.1) c.in_ok-gives.field-0.to) c.in-Of.is (named_next c.args.tokens.now c.args.from c.in_ok-gives.ensures) in
    rw (p.1, p.2) (fails (step_decl_rest nesting_limit plain named (denied c.is_operator-2.ensures c.if-is_operator-2.false)) c.in_err-value.field-0.0 (c.in_err-value.ensures nesting_limit))

pub variables-requires-clause-named : goal.variables-requires-clause-named
variables-requires-clause-named c =
    let named = subst (λ g. Named c.args.tokens.now c.args.from (g, c.in_ok-gives.field-0.tree.1) c.in_ok-gives.field-0.to) c.in-Of.is (named_next c.args.tokens.now c.args.from c.in_ok-gives.ensures) in
    typed_named (terminals_of c.args.tokens.now) (suc c.args.from) _ 0 _ (typed_of_result (named 0))

pub declare_node-line-requires-clause-small : goal.declare_node-line-requires-clause-small
declare_node-line-requires-clause-small c =
    let begun : HasCdef c.args.tokens.now c.args.from = record { listing = c.requires.input; inside = c.requires.inside; cdef = c.requires.begins } in
    let plain = plain_here begun (denied c.is_operator.ensures c.if-is_operator.false) (denied c.is_keyword.ensures c.if-is_keyword.false) in
    let named = subst (λ g. Named c.args.tokens.now c.args.from (g, c.in_ok-gives.field-0.tree.1) c.in_ok-gives.field-0.to) c.in-Of.is (named_next c.args.tokens.now c.args.from c.in_ok-gives.ensures) in
    line_small plain named (c.in_ok-value.ensures 0) c.in_ok-names.ensures

pub returns : goal.returns
returns c =
    let begun : HasCdef c.args.tokens.now c.args.from = record { listing = c.requires.input; inside = c.requires.inside; cdef = c.requires.begins } in
    let plain = plain_here begun (denied c.is_operator.ensures c.if-is_operator.false) (denied c.is_keyword.ensures c.if-is_keyword.false) in
    let named = subst (λ g. Named c.args.tokens.now c.args.from (g, c.in_ok-gives.field-0.tree.1) c.in_ok-gives.field-0.to) c.in-Of.is (named_next c.args.tokens.now c.args.from c.in_ok-gives.ensures) in
    declaration_item _ plain named (c.in_ok-value.ensures nesting_limit) c.in_ok-names.ensures c.declare_node-line.ensures c.in_ok-tree-4.ensures

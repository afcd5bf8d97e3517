use Rattle.std.proofs.Common.{◌∙◌, ◌-◌, ◌<◌, length, [], not, refl, ap, arith}
use Rattle.std.proofs.lemmas.Result.{err_from_is_err_and}
use Rattle.px_lexer.specs.Terminals.{terminals_of}
use Rattle.px_exprs.specs.Parts.{levels_of}
use Rattle.px_exprs.specs.Codes.{Past}
use Rattle.px_lexer.proofs.TokenAccess.{length_terminals}
use Rattle.px_exprs.proofs.JunctionSteps.{nests_less, run_begun}
use Rattle.px_exprs.proofs.BinarySteps.{read_tightest, levels_split, fewer_levels, no_levels, tighter_known, some_meant, none_meant, link_inside, first_refused, first_read, no_room_for_links, link_refused, link_on, chain_read, binary_forward}
use Rattle.px_exprs.proofs.grammar.Grammar.+binary.Goals as goal

pub returns-in_default : goal.returns-in_default
returns-in_default g t c = read_tightest (terminals_of c.args.tokens.now) c.args.from c.args.room (levels_of c.args.levels.now) (no_levels c.args.levels.now c.in_default.len_below) _ c.unary.ensures

pub binary-requires : goal.binary-requires
binary-requires g t c κs within =
    let levels = c.args.levels.now in
    (omega (arith, fewer_levels levels c.in-len1-up.len_at_least, c.decreases), (within, (c.requires.input, (c.requires.inside, (c.requires.nests, tighter_known (levels_split levels (record { ref_ptr = (0, 0); now = [] }) c.in-len1-up.len_at_least) c.requires.known)))))

pub returns-in_err-first : goal.returns-in_err-first
returns-in_err-first g t c =
    let p = err_from_is_err_and c.from_residual.result c.from_residual.ensures.1 in
    let e = levels_split c.args.levels.now (record { ref_ptr = (0, 0); now = [] }) c.in-len1-up.len_at_least in
    rw (p.1, p.2) (first_refused e c.requires.known _ _ _ _ c.in_err-first.ensures)

pub returns-then-is_none : goal.returns-then-is_none
returns-then-is_none g t c =
    let e = levels_split c.args.levels.now (record { ref_ptr = (0, 0); now = [] }) c.in-len1-up.len_at_least in
    first_read e c.requires.known c.in_ok-first.ensures (none_meant _ _ c.binary_operator.result c.binary_operator.ensures (c.is_none.ensures ∙ ap not c.if-is_none.true))

pub returns-in_err-room : goal.returns-in_err-room
returns-in_err-room g t c =
    let p = err_from_is_err_and c.from_residual-in_err-room.result c.from_residual-in_err-room.ensures.1 in
    let e = levels_split c.args.levels.now (record { ref_ptr = (0, 0); now = [] }) c.in-len1-up.len_at_least in
    let first = some_meant _ _ c.binary_operator.result c.binary_operator.ensures (c.is_none.ensures ∙ ap not c.if-is_none.false) in
    rw (p.1, p.2) (no_room_for_links e c.requires.known c.in_ok-first.ensures first.1 _ c.in_err-room.ensures)

pub loop-op-init : goal.loop-op-init
loop-op-init g t c =
    let reading = c.in_ok-first.ensures in
    run_begun (Past _) c.in_ok-room.room c.in_ok-links.ensures reading.stops reading.within refl

pub overflow_add-to : goal.overflow_add-to
overflow_add-to g t c =
    let run = c.loop-op.invariant in
    omega (arith, run.3, length_terminals c.args.tokens.now, c.requires.input.few)

pub binary-requires-in-Some : goal.binary-requires-in-Some
binary-requires-in-Some g t c κs within =
    let levels = c.args.levels.now in
    let e = levels_split levels (record { ref_ptr = (0, 0); now = [] }) c.in-len1-up.len_at_least in
    let inside = link_inside c.args.tokens.now c.loop-op.to c.requires.input e c.requires.known c.in-Some.ensures in
    (omega (arith, fewer_levels levels c.in-len1-up.len_at_least, c.decreases), (within, (c.requires.input, (omega (arith, inside), (nests_less c.requires.nests (omega (arith, c.in_ok-room.ensures.1)), tighter_known e c.requires.known)))))

pub returns-in_err-operand : goal.returns-in_err-operand
returns-in_err-operand g t c =
    let p = err_from_is_err_and c.from_residual-in_err-operand.result c.from_residual-in_err-operand.ensures.1 in
    let e = levels_split c.args.levels.now (record { ref_ptr = (0, 0); now = [] }) c.in-len1-up.len_at_least in
    let first = some_meant _ _ c.binary_operator.result c.binary_operator.ensures (c.is_none.ensures ∙ ap not c.if-is_none.false) in
    rw (p.1, p.2) (link_refused e c.requires.known c.in_ok-first.ensures c.in_ok-room.ensures first.1 c.loop-op.invariant c.in-Some.ensures _ c.in_err-operand.ensures)

pub loop-op-smaller : goal.loop-op-smaller
loop-op-smaller g t c =
    let forward = binary_forward c.in_ok-operand.ensures in
    let inside = c.loop-op.invariant.3 in
    let less : length c.args.tokens.now.list - c.in_ok-operand.operand.to < length c.args.tokens.now.list - c.loop-op.to = omega (arith, forward, inside, length_terminals c.args.tokens.now) in
    less

pub loop-op-preserved : goal.loop-op-preserved
loop-op-preserved g t c = link_on c.loop-op.invariant c.in-Some.ensures c.in_ok-operand.ensures c.in_ok-push.ensures.ok c.max-depth.ensures

pub overflow_add-depth : goal.overflow_add-depth
overflow_add-depth g t c = omega (arith, c.max-depth-2.ensures, c.in_ok-room.ensures, c.loop-op.invariant.1, c.ranges.room)

pub node-requires-clause-small : goal.node-requires-clause-small
node-requires-clause-small g t c =
    let reading = c.in_ok-first.ensures in
    omega (arith, reading.within, length_terminals c.args.tokens.now, c.requires.input.few)

pub returns : goal.returns
returns g t c =
    let e = levels_split c.args.levels.now (record { ref_ptr = (0, 0); now = [] }) c.in-len1-up.len_at_least in
    let first = some_meant _ _ c.binary_operator.result c.binary_operator.ensures (c.is_none.ensures ∙ ap not c.if-is_none.false) in
    let made = c.node.ensures in
    chain_read e c.requires.known c.in_ok-first.ensures c.in_ok-room.ensures first.1 c.loop-op.invariant c.in_default-binary_operator.ensures c.in_ok-first_tree.ensures made.1 made.2 (omega (arith, c.max-depth-2.ensures)) refl

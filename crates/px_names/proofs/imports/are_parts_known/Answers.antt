use Rattle.std.proofs.Common.{◌≡◌, Option, true, false, not, sym, ap, ◌∙◌, arith}
use Rattle.std.specs.Prelude.{is_some}
use Rattle.std.specs.List.{list_all}
use Rattle.px_walk.specs.Nodes.{rose_of}
use Rattle.px_walk.specs.Roses.{head_of, parts_of}
use Rattle.px_walk.specs.ExprView.{Tree}
use Rattle.px_names.specs.Imports.{Given, given_part}
use Rattle.px_names.proofs.Options.{is_some-mapped}
use Rattle.px_names.proofs.PartLoops.{drop_whole, nothing_behind, all_passed, all_failed}
use Rattle.px_names.proofs.imports.are_parts_known.Goals as goal

pub loop-k-init : goal.loop-k-init
loop-k-init c = ap (list_all (λ (part : Tree). is_some (given_part c.args.names.now (head_of part)))) (drop_whole (parts_of (rose_of c.args.node)))

pub returns : goal.returns
returns c =
    sym (nothing_behind (list_all (λ (part : Tree). is_some (given_part c.args.names.now (head_of part)))) (parts_of (rose_of c.args.node)) c.loop-k.k (omega arith)) ∙ c.loop-k.invariant

pub loop-k-preserved : goal.loop-k-preserved
loop-k-preserved c =
    let names = c.args.names.now in
    let part = rose_of c.part.result in
    let known : is_some (given_part names (head_of part)) ≡ true =
    ap (λ h. is_some (given_part names h)) (sym c.head.ensures)
    ∙ ap (λ (o : Option Given). is_some o) (sym c.given_part.ensures)
    ∙ is_some-mapped (λ given. (given.name.now, given.what)) c.given_part.result
    ∙ c.is_none.ensures ∙ ap not c.if-is_none.false in
    all_passed (λ (other : Tree). is_some (given_part names (head_of other))) (parts_of (rose_of c.args.node)) c.loop-k.k part c.part.ensures known
    ∙ c.loop-k.invariant

pub returns-then-is_none : goal.returns-then-is_none
returns-then-is_none c =
    let names = c.args.names.now in
    let part = rose_of c.part.result in
    let unknown : is_some (given_part names (head_of part)) ≡ false =
    ap (λ h. is_some (given_part names h)) (sym c.head.ensures)
    ∙ ap (λ (o : Option Given). is_some o) (sym c.given_part.ensures)
    ∙ is_some-mapped (λ given. (given.name.now, given.what)) c.given_part.result
    ∙ c.is_none.ensures ∙ ap not c.if-is_none.true in
    sym (all_failed (λ (other : Tree). is_some (given_part names (head_of other))) (parts_of (rose_of c.args.node)) c.loop-k.k part c.part.ensures unknown)
    ∙ c.loop-k.invariant

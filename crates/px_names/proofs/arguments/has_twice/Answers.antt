use Rattle.std.proofs.Common.{◌≡◌, ◌+◌, drop, false, true, sym, ap, ◌∙◌, arith}
use Rattle.std.specs.Prelude.{bytes_eq}
use Rattle.std.specs.List.{list_any}
use Rattle.px_walk.specs.Nodes.{rose_of}
use Rattle.px_walk.specs.Roses.{head_of, parts_of}
use Rattle.px_names.specs.Arguments.{keyword_of, keywords}
use Rattle.px_names.specs.Kept.{is_seen, with_seen, is_second_of}
use Rattle.px_names.proofs.PartLoops.{drop_whole, keywords_more, nothing_behind}
use Rattle.px_names.proofs.Twice.{has_second, second_is_twice, second_more, second_found}
use Rattle.px_names.proofs.arguments.has_twice.Goals as goal

pub loop-k-init : goal.loop-k-init
loop-k-init c =
    let parts = parts_of (rose_of c.args.call) in
    (λ i. has_second (λ n. list_any (λ kept. bytes_eq n kept.now) (c.new-seen.ensures.empty i)) (keywords (drop_whole parts i)))
    ∙ second_is_twice (keywords parts)

pub loop-k-preserved : goal.loop-k-preserved
loop-k-preserved c =
    let parts = parts_of (rose_of c.args.call) in
    let part = rose_of c.part.result in
    let behind = keywords (drop (c.loop-k.k + 1) parts) in
    let seen = is_seen c.loop-k.seen in
    let fails : is_second_of (keyword_of (head_of part)) seen ≡ false =
    ap (λ h. is_second_of (keyword_of h) seen) (sym c.head.ensures) ∙ sym c.in_ok-second.ensures.second ∙ c.if-second.false in
    ap (λ s. has_second s behind) (c.in_ok-second.ensures.seen ∙ ap (λ h. with_seen (keyword_of h) seen) c.head.ensures)
    ∙ second_more (keyword_of (head_of part)) seen behind fails
    ∙ ap (has_second seen) (sym (keywords_more parts c.loop-k.k part c.part.ensures))
    ∙ c.loop-k.invariant

pub returns-then-second : goal.returns-then-second
returns-then-second c =
    let parts = parts_of (rose_of c.args.call) in
    let part = rose_of c.part.result in
    let behind = keywords (drop (c.loop-k.k + 1) parts) in
    let seen = is_seen c.loop-k.seen in
    let holds : is_second_of (keyword_of (head_of part)) seen ≡ true =
    ap (λ h. is_second_of (keyword_of h) seen) (sym c.head.ensures) ∙ sym c.in_ok-second.ensures.second ∙ c.if-second.true in
    sym (ap (has_second seen) (keywords_more parts c.loop-k.k part c.part.ensures) ∙ second_found (keyword_of (head_of part)) seen behind holds)
    ∙ c.loop-k.invariant

pub returns : goal.returns
returns c =
    let parts = parts_of (rose_of c.args.call) in
    sym (ap (has_second (is_seen c.loop-k.seen)) (nothing_behind keywords parts c.loop-k.k (omega arith))) ∙ c.loop-k.invariant

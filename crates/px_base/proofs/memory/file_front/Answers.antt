use Rattle.std.proofs.Common.{◌≡◌, Some, take, ap, ◌∙◌}
use Rattle.std.specs.Prelude.{option_map}
use Rattle.std.proofs.lemmas.List.{take_min}
use Rattle.px_base.specs.Outside.{handed_limit}
use Rattle.px_base.proofs.memory.file_front.Goals as goal

pub returns-in-None : goal.returns-in-None
returns-in-None c = ap (option_map (take handed_limit)) c.in-None.ensures

pub returns-in_ok-front-in-Some : goal.returns-in_ok-front-in-Some
returns-in_ok-front-in-Some c =
    let bytes = c.in-Some.bytes.now in
    let front : c.in_ok-front-in-Some.front ≡ take handed_limit bytes =
    c.in_ok-front-in-Some.ensures ∙ rw (c.min-n.ensures, c.len.ensures, c.as_slice.ensures) (take_min handed_limit bytes) in
    ap Some front ∙ ap (option_map (take handed_limit)) c.in-Some.ensures

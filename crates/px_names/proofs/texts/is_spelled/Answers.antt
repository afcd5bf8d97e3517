use Rattle.std.proofs.Common.{◌≡◌, length, min, arith, rules, sym}
use Rattle.std.proofs.lemmas.List.{ext_get_or}
use Rattle.std.proofs.lemmas.Slice.Zip.{zip_end}
use Rattle.std.specs.Cmp.Lexicographic.{bytes_decides}
use Rattle.px_names.proofs.texts.is_spelled.Goals as goal

pub returns : goal.returns
returns c =
    let name = c.args.name.now in
    let spelling = c.args.spelling.now in
    let count : length c.loop-c.yielded ≡ min (length name) (length spelling) = zip_end name spelling c.loop-c.yielded c.into_iter-c-iterator.result c.loop-c.c-iterator c.next.new.self _ (search rules) (search rules) c.loop-c.yielded_by c.in-None.is c.next.ensures.steps in
    let same : spelling ≡ name = ext_get_or 0 spelling name (omega arith) (λ i inside. sym (c.loop-c.invariant i (omega arith))) in
    sym ((bytes_decides spelling name).1 same)

use Rattle.std.proofs.Common.{◌≡◌, ◌+◌, ◌≤◌, length, take}
use Rattle.std.specs.List.{suffix_len}
use Rattle.px_names.specs.Comments.{is_blank}
use Rattle.px_names.proofs.comments.trimmed.Given as goal

abbrev pub invariant-loop-to : goal.invariant-loop-to
invariant-loop-to l = record {
  within : l.to ≤ length l.text;
  counted : l.to + suffix_len is_blank l.text ≡ length l.text + suffix_len is_blank (take l.to l.text);
}

abbrev pub decreases-loop-to : goal.decreases-loop-to
decreases-loop-to l = l.to

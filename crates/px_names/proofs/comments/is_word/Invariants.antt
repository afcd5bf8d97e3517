use Rattle.std.proofs.Common.{◌≡◌, drop, not}
use Rattle.std.specs.List.{list_all}
use Rattle.px_names.specs.Comments.{is_separator}
use Rattle.px_names.proofs.comments.is_word.Given as goal

abbrev pub invariant-loop-byte : goal.invariant-loop-byte
invariant-loop-byte l = list_all (λ c. not (is_separator c)) l.text ≡ list_all (λ c. not (is_separator c)) (drop l.byte-index l.text)

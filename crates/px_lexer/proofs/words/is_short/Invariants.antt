use Rattle.std.proofs.Common.{◌≡◌, ◌*◌, ◌≤◌, length, take}
use Rattle.std.specs.Str.{encode_utf8_all}
use Rattle.px_lexer.proofs.words.is_short.Given as goal

abbrev pub invariant-loop-c : goal.invariant-loop-c
invariant-loop-c l = record {
  counted : l.size ≡ length (encode_utf8_all (take l.c-index l.word));
  few : l.size ≤ 4 * l.c-index;
}

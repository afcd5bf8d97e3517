use Rattle.std.proofs.Common.{◌-◌, length}
use Rattle.px_lexer.specs.Reached.{IsReached}
use Rattle.px_lexer.proofs.lexing.read_all.Given as goal

abbrev pub invariant-loop-reader : goal.invariant-loop-reader
invariant-loop-reader l = IsReached l.source.text.now l.reader

abbrev pub decreases-loop-reader : goal.decreases-loop-reader
decreases-loop-reader l = length l.source.characters - l.reader.at.index

use Rattle.std.proofs.Common.{◌≡◌, take, map}
use Rattle.px_parser.specs.Parsing.{comment_of}
use Rattle.px_parser.proofs.parser.comments.Given as goal

abbrev pub invariant-loop-found : goal.invariant-loop-found
invariant-loop-found l = l.all ≡ map (comment_of l.tokens.text) (take l.found-index l.tokens.comments)

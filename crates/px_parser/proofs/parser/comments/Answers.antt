use Rattle.std.proofs.Common.{ℕ, List, All, sym, subst}
use Rattle.std.proofs.lemmas.List.Elements.{All-same}
use Rattle.px_parser.proofs.CommentLaws.{Lies, comments_lie}
use Rattle.px_parser.proofs.parser.comments.Goals as goal

-- src/parser.rt:49:18
pub comment-requires : goal.comment-requires
comment-requires c =
    let tokens = c.args.tokens.now in
    let found = c.as_slice-found-items.result.now in
    let lie : All (Lies tokens.text) found = All-same (Lies tokens.text) found tokens.comments c.as_slice-found-items.ensures (comments_lie tokens c.requires) in
    subst (λ (text : List ℕ). All (Lies text) found) (sym c.as_slice.ensures) lie c.loop-found.found-index _ c.loop-found-test.true

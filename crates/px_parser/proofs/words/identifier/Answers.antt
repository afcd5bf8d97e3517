use Rattle.std.proofs.lemmas.Result.{err_from_is_err_and}
use Rattle.px_parser.proofs.TokenShapes.{name_read, name_refused}
use Rattle.px_parser.proofs.words.identifier.Goals as goal

pub returns-in_err-tree : goal.returns-in_err-tree
returns-in_err-tree c =
    let p = err_from_is_err_and c.from_residual.result c.from_residual.ensures.1 in
    λ room. rw (p.1, p.2) (name_refused c.args.tokens.now c.args.at room _ c.requires.inside c.in_err-tree.ensures)

pub returns : goal.returns
returns c = λ room. name_read c.args.tokens.now c.args.at room _ c.requires.input c.in_ok-tree.ensures

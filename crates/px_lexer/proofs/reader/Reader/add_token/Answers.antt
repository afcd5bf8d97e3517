use Rattle.std.proofs.Common.{List, [], ◌∷◌, ◌++◌, subst, sym, ap, ◌∙◌, arith}
use Rattle.std.specs.Prelude.{None}
use Rattle.px_lexer.specs.declared.token_list.Token.{Token}
use Rattle.px_lexer.specs.Reached.{IsReached, IsIndentationFinding}
use Rattle.px_lexer.specs.Lines.{depth_behind}
use Rattle.px_lexer.proofs.PieceLaws.{kind_clean}
use Rattle.px_lexer.proofs.PlaceLemmas.{few_characters}
use Rattle.px_lexer.proofs.Reaching.{reached_token, behind_token, piece_at, ends_in, stands_in, kind_in}
use Rattle.px_lexer.proofs.reader.Reader.add_token.Goals as goal

pub depth_behind-depth-requires-clause-small : goal.depth_behind-depth-requires-clause-small
depth_behind-depth-requires-clause-small c =
    let few = few_characters _ _ c.requires.whole.whole c.requires.whole.small in
    omega (arith, c.requires.reached.held.shallow, c.requires.inside, few)

pub returns-clause-reached : goal.returns-clause-reached
returns-clause-reached c =
    let text = c.args.source.now.text.now in
    let old = c.args.self.now in
    let mid = c.start_line.new.self in
    let place = c.place_at-end.result in
    let found = c.args.found in
    let whole = c.requires.whole.whole in
    let stands = stands_in text _ c.args.form old.at.index whole c.requires.stands in
    let ends = ends_in text _ c.args.form old.at.index found.to place.index whole c.place_at-end.ensures.index c.requires.found.ends in
    let is_kind = kind_in text _ c.args.form old.at.index found.to place.index found.kind whole c.place_at-end.ensures.index c.requires.found.kind in
    let there = reached_token text old mid c.args.form place found.kind c.depth_behind-depth.result c.requires.reached c.in_ok-start_line.ensures c.place_at-end.ensures.place c.place_at-end.ensures.near
    stands ends c.requires.content is_kind
    (λ rule i b. kind_clean c.args.form _ _ found.kind rule i is_kind b)
    (λ first levels held last. subst (λ cs. IsIndentationFinding cs levels old.start.index None) whole (c.requires.indented first levels held last))
    (c.depth_behind-depth.ensures c.args.form ∙ ap (λ cs. depth_behind cs old.depth (piece_at c.args.form old.at.index place.index)) whole) in
    subst (λ (ts : List Token). IsReached text (behind_token mid place c.depth_behind-depth.result ts)) (sym (c.in_ok-push.ensures.ok ∙ ap (λ (t : Token). mid.list ++ t ∷ []) c.token.ensures)) there

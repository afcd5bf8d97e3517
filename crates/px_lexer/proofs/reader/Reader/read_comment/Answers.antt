use Rattle.std.proofs.Common.{◌∙◌, ◌++◌, flat_map, refl}
use Rattle.std.proofs.lemmas.Bool.{false≢true}
use Rattle.px_lexer.specs.declared.forms.Form.TheVariants as form
use Rattle.px_lexer.specs.Lines.{pieces_of}
use Rattle.px_lexer.proofs.Reaching.{reached_gap, one_comment, ends_in, stands_in}
use Rattle.px_lexer.proofs.reader.Reader.read_comment.Goals as goal

pub returns-clause-reached : goal.returns-clause-reached
returns-clause-reached c =
    let text = c.args.source.now.text.now in
    let r = c.args.self.now in
    let place = c.place_at-end.result in
    reached_gap text r form.Comment place _ c.requires.reached c.place_at-end.ensures.place c.place_at-end.ensures.near
    (stands_in text _ form.Comment r.at.index c.requires.whole.whole c.requires.stands)
    (ends_in text _ form.Comment r.at.index c.args.to place.index c.requires.whole.whole c.place_at-end.ensures.index c.requires.ends)
    refl (λ t. absurd (false≢true t))
    (λ lines rest e. c.in_ok-keep_comment.ensures ∙ one_comment text (flat_map pieces_of lines ++ rest) r place r.any_token e c.requires.reached.held.at c.place_at-end.ensures.place)

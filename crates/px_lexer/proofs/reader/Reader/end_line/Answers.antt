use Rattle.std.proofs.Common.{List, subst, sym}
use Rattle.px_lexer.specs.declared.forms.Form.TheVariants as form
use Rattle.px_lexer.specs.declared.token_list.Token.{Token}
use Rattle.px_lexer.specs.Reached.{IsReached}
use Rattle.px_lexer.proofs.Reaching.{reached_line, at_line_start, ends_in, stands_in}
use Rattle.px_lexer.proofs.reader.Reader.end_line.Goals as goal

pub returns-clause-reached : goal.returns-clause-reached
returns-clause-reached c =
    let text = c.args.source.now.text.now in
    let r = c.args.self.now in
    let place = c.place_at-end.result in
    let there = reached_line text r place c.requires.reached c.place_at-end.ensures.place c.place_at-end.ensures.near
    (stands_in text _ form.LineEnd r.at.index c.requires.whole.whole c.requires.stands)
    (ends_in text _ form.LineEnd r.at.index c.args.to place.index c.requires.whole.whole c.place_at-end.ensures.index c.requires.ends)
    c.requires.outside in
    subst (λ (ts : List Token). IsReached text (at_line_start r place ts)) (sym c.in_ok-push_newline.ensures) there

use Rattle.std.proofs.Common.{◌++◌, flat_map}
use Rattle.px_lexer.specs.Lines.{pieces_of}
use Rattle.px_lexer.proofs.Reaching.{reached_gap, no_comment, piece_at, ends_in, stands_in}
use Rattle.px_lexer.proofs.reader.Reader.skip.Goals as goal

pub returns-clause-reached : goal.returns-clause-reached
returns-clause-reached c =
    let text = c.args.source.now.text.now in
    let r = c.args.self.now in
    let place = c.place_at-self.result in
    let q = piece_at c.args.form r.at.index place.index in
    reached_gap text r c.args.form place r.comments c.requires.reached c.place_at-self.ensures.place c.place_at-self.ensures.near
    (stands_in text _ c.args.form r.at.index c.requires.whole.whole c.requires.stands)
    (ends_in text _ c.args.form r.at.index c.args.to place.index c.requires.whole.whole c.place_at-self.ensures.index c.requires.ends)
    c.requires.gap c.requires.goes_on
    (λ lines rest e. no_comment text (flat_map pieces_of lines ++ rest) q r.comments c.requires.no_comment)

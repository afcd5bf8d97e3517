use Rattle.std.proofs.Common.{◌≡◌, rules}
use Rattle.std.specs.Str.{chars}
use Rattle.std.proofs.lemmas.Str.{chars_from_encodes}
use Rattle.px_lexer.proofs.CharacterLemmas.{characters-front}
use Rattle.px_lexer.proofs.characters.Characters.read.Goals as goal

pub returns : goal.returns
returns c =
    let front = c.readable_front-front.result.now in
    let read : c.in_ok-collect.field-0.items ≡ chars front = search (rules, chars_from_encodes) in
    characters-front c.args.text.now c.without_mark-bytes.result.now front c.in_ok-collect.field-0.items c.without_mark-bytes.ensures c.readable_front-front.ensures read

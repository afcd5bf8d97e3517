use Rattle.px_parser.proofs.ListingLaws.{listing}
use Rattle.px_parser.proofs.laws.texts_are_listed.Goals as goal

pub returns : goal.returns
returns c = listing

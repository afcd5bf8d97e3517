use Rattle.px_cli.proofs.ListingLemmas.{listings_mean}
use Rattle.px_cli.proofs.laws.listings_mean_their_modules.Goals as goal

pub returns : goal.returns
returns c = listings_mean c.images_mean_their_modules.ensures.meaning

use Rattle.px_machine.proofs.OneWorld.{images_give as law}
use Rattle.px_machine.proofs.laws.images_give_the_meaning.Goals as goal

pub returns : goal.returns
returns c = law

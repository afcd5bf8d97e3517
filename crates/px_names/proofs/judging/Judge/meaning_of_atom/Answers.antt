use Rattle.std.proofs.Common.{◌∙◌, sym}
use Rattle.px_names.specs.Kept.{names_in}
use Rattle.px_names.specs.Rules.{meaning_of_atom}
use Rattle.px_names.proofs.Heads.{from_head, other_atom}
use Rattle.px_names.proofs.judging.Judge.meaning_of_atom.Goals as goal

pub returns-in-Name : goal.returns-in-Name
returns-in-Name c = c.meaning.ensures ∙ from_head (meaning_of_atom (names_in c.args.self.now.lookup.now) c.args.function) c.in-Name.is

pub returns-in_default : goal.returns-in_default
returns-in_default c = sym (other_atom (names_in c.args.self.now.lookup.now) c.args.function c.args.atom c.in_default.not-Name)

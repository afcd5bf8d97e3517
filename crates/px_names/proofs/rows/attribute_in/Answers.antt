use Rattle.std.proofs.Common.{◌∙◌, sym}
use Rattle.px_names.specs.Uses.{attribute_in}
use Rattle.px_names.proofs.Heads.{from_head, other_attribute}
use Rattle.px_names.proofs.rows.attribute_in.Goals as goal

pub returns-in-Attribute : goal.returns-in-Attribute
returns-in-Attribute c = c.member.ensures ∙ from_head (attribute_in c.args.imported) c.in-Attribute.is

pub returns-in_default : goal.returns-in_default
returns-in_default c = sym (other_attribute c.args.imported c.args.trailer c.in_default.not-Attribute)

use Rattle.std.proofs.Common.{◌∙◌, sym, ap}
use Rattle.px_names.specs.declared.callees.Callee.TheVariants as callee
use Rattle.px_names.specs.Uses.{called_behind}
use Rattle.px_names.proofs.Heads.{from_head, other_behind}
use Rattle.px_names.proofs.calls.called_behind.Goals as goal

pub returns-in-Attribute : goal.returns-in-Attribute
returns-in-Attribute c = ap callee.Method c.method_named.ensures ∙ from_head called_behind c.in-Attribute.is

pub returns-in_default : goal.returns-in_default
returns-in_default c = sym (other_behind c.args.trailer c.in_default.not-Attribute)

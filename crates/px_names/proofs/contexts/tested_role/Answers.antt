use Rattle.std.proofs.Common.{◌∙◌, sym, ap}
use Rattle.px_walk.specs.Forms.{Form}
use Rattle.std.specs.Prelude.{if◌then◌else◌, nat_lt}
use Rattle.px_names.specs.declared.contexts.Role.{Role}
use Rattle.px_names.specs.declared.contexts.Role.TheVariants as role
use Rattle.px_names.specs.Contexts.{tested_role}
use Rattle.px_names.proofs.Heads.{from_head, other_role}
use Rattle.px_names.proofs.contexts.tested_role.Goals as goal

pub returns-in-Module : goal.returns-in-Module
returns-in-Module c = from_head (λ (h : Form). tested_role c.args.role h c.args.k) c.in-Module.is

pub returns-in-Assign : goal.returns-in-Assign
returns-in-Assign c = c.if_below.ensures ∙ from_head (λ (h : Form). tested_role c.args.role h c.args.k) c.in-Assign.is

pub returns-in-Augment : goal.returns-in-Augment
returns-in-Augment c = c.if_below-in-Augment.ensures ∙ from_head (λ (h : Form). tested_role c.args.role h c.args.k) c.in-Augment.is

pub returns-in-If : goal.returns-in-If
returns-in-If c = from_head (λ (h : Form). tested_role c.args.role h c.args.k) c.in-If.is

pub returns-in-Arm : goal.returns-in-Arm
returns-in-Arm c = c.if_below-in-Arm.ensures ∙ from_head (λ (h : Form). tested_role c.args.role h c.args.k) c.in-Arm.is

pub returns-in-While : goal.returns-in-While
returns-in-While c = c.if_below-in-While.ensures ∙ from_head (λ (h : Form). tested_role c.args.role h c.args.k) c.in-While.is

pub returns-in-For : goal.returns-in-For
returns-in-For c = c.if_below-in-For.ensures ∙ ap (λ (r : Role). if nat_lt c.args.k 1 then role.Target else r) c.if_below-behind.ensures ∙ from_head (λ (h : Form). tested_role c.args.role h c.args.k) c.in-For.is

pub returns-in-WithGil : goal.returns-in-WithGil
returns-in-WithGil c = from_head (λ (h : Form). tested_role c.args.role h c.args.k) c.in-WithGil.is

pub returns-in-WithNogil : goal.returns-in-WithNogil
returns-in-WithNogil c = from_head (λ (h : Form). tested_role c.args.role h c.args.k) c.in-WithNogil.is

pub returns-in-Tuple : goal.returns-in-Tuple
returns-in-Tuple c = c.item_role.ensures ∙ from_head (λ (h : Form). tested_role c.args.role h c.args.k) c.in-Tuple.is

pub returns-in-Row : goal.returns-in-Row
returns-in-Row c = c.if_below-in-Row.ensures ∙ from_head (λ (h : Form). tested_role c.args.role h c.args.k) c.in-Row.is

pub returns-in_default : goal.returns-in_default
returns-in_default c =
    let other = c.in_default in
    sym (other_role c.args.role c.args.k c.args.head other.not-Module other.not-Assign other.not-Augment other.not-If other.not-Arm other.not-While other.not-For other.not-WithGil other.not-WithNogil other.not-Tuple other.not-Row)

use Rattle.std.proofs.Common.{◌∙◌, sym, ap}
use Rattle.px_walk.specs.Forms.{Form}
use Rattle.px_walk.specs.Nodes.{rose_of}
use Rattle.px_names.specs.Kept.{names_in}
use Rattle.px_names.specs.Rules.{broken_by, short_rule}
use Rattle.px_names.proofs.Heads.{other_broken}
use Rattle.px_names.proofs.judging.Judge.tested_refusal.Goals as goal

pub returns-in_default : goal.returns-in_default
returns-in_default c =
    let names = names_in c.args.self.now.lookup.now in
    let node = rose_of c.args.node in
    c.short_refusal.ensures
    ∙ ap (λ (h : Form). short_rule names c.args.context h node) (sym c.head.ensures)
    ∙ sym (other_broken names c.args.context node c.head.result c.in_default.not-Comment c.in_default.not-Row)
    ∙ ap (λ (h : Form). broken_by names c.args.context h node) c.head.ensures

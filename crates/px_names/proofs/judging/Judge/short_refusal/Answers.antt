use Rattle.std.proofs.Common.{◌∙◌, sym, ap}
use Rattle.px_walk.specs.Forms.{Form}
use Rattle.px_walk.specs.Nodes.{rose_of}
use Rattle.px_names.specs.Kept.{names_in}
use Rattle.px_names.specs.Rules.{short_rule}
use Rattle.px_names.proofs.Heads.{other_short}
use Rattle.px_names.proofs.judging.Judge.short_refusal.Goals as goal

pub returns-in_default : goal.returns-in_default
returns-in_default c =
    let names = names_in c.args.self.now.lookup.now in
    let other = c.in_default in
    sym (ap (λ (h : Form). short_rule names c.args.context h (rose_of c.args.node)) (sym c.head.ensures)
    ∙ other_short names c.args.context (rose_of c.args.node) c.head.result other.not-Import other.not-ImportFrom other.not-Function other.not-Param other.not-Declarator other.not-Decorator other.not-Raise other.not-Declare other.not-DeclareGroup other.not-Name other.not-Compare)

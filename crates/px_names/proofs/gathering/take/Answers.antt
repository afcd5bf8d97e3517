use Rattle.std.proofs.Common.{◌∙◌, sym, ap}
use Rattle.px_walk.specs.Forms.{Form}
use Rattle.px_walk.specs.Nodes.{rose_of}
use Rattle.px_walk.specs.Roses.{number_of}
use Rattle.px_names.specs.Kept.{names_in, meanings_kept}
use Rattle.px_names.specs.NamedModule.{name_use}
use Rattle.px_names.specs.Steps.{with_use}
use Rattle.px_names.proofs.Heads.{other_use}
use Rattle.px_names.proofs.gathering.take.Goals as goal

pub returns-in_default : goal.returns-in_default
returns-in_default c =
    let names = names_in c.args.lookup.now in
    let number = number_of (rose_of c.args.node) in
    ap (λ entry. with_use entry (meanings_kept c.args.scope.now))
    (sym (ap (λ (h : Form). name_use names c.args.function number h) (sym c.head.ensures)
    ∙ other_use names c.args.function number c.head.result c.in_default.not-Name))

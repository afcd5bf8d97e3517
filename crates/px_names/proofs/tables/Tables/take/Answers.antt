use Rattle.std.proofs.Common.{◌∙◌, sym, ap}
use Rattle.px_walk.specs.Forms.{Form}
use Rattle.px_walk.specs.Nodes.{rose_of}
use Rattle.px_walk.specs.Roses.{number_of, parts_of}
use Rattle.px_names.specs.Kept.{names_kept}
use Rattle.px_names.specs.Steps.{after_form}
use Rattle.px_names.proofs.Heads.{other_after}
use Rattle.px_names.proofs.tables.Tables.take.Goals as goal

pub returns-in_default : goal.returns-in_default
returns-in_default c =
    let names = names_kept c.args.self.now in
    let other = c.in_default in
    sym (ap (λ (h : Form). after_form names c.args.context h (number_of (rose_of c.args.node)) (parts_of (rose_of c.args.node))) (sym c.head.ensures)
    ∙ other_after names c.args.context (number_of (rose_of c.args.node)) (parts_of (rose_of c.args.node)) c.head.result other.not-Import other.not-ImportFrom other.not-Function other.not-Param other.not-Declarator other.not-Global other.not-Name)

use Rattle.std.proofs.Common.{Option, ◌++◌, sym, ap, ◌∙◌}
use Rattle.std.specs.Option.{option_to_list}
use Rattle.std.proofs.lemmas.List.{append-nil}
use Rattle.px_tree.specs.declared.typed_modules.Local.{Local}
use Rattle.px_walk.specs.Forms.{Form}
use Rattle.px_walk.specs.Nodes.{rose_of}
use Rattle.px_walk.specs.Roses.{number_of, at_of}
use Rattle.px_environments.specs.Signatures.{local_named}
use Rattle.px_environments.proofs.Others.{other_local}
use Rattle.px_environments.proofs.locals.add_part.Goals as goal

pub returns-in_default : goal.returns-in_default
returns-in_default c =
    let old = c.args.locals.now in
    let part = rose_of c.args.part in
    sym (append-nil old)
    ∙ ap (λ (o : Option Local). old ++ option_to_list o)
    (sym (other_local c.args.t (number_of part) (at_of part) c.head.result c.in_default.not-Declarator)
    ∙ ap (λ (h : Form). local_named c.args.t (number_of part) (at_of part) h) c.head.ensures)

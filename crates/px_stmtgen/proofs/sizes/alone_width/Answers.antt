use Rattle.std.proofs.Common.{ap, sym, ◌∙◌}
use Rattle.px_tree.specs.declared.typed_heads.TypedHead.TheVariants as head
use Rattle.px_typed_walk.specs.TypedView.{rose_of_typed}
use Rattle.px_exprgen.specs.Places.{capped}
use Rattle.px_stmtgen.proofs.Parts.{print_width}
use Rattle.px_stmtgen.proofs.sizes.alone_width.Goals as goal

pub returns-in-Print : goal.returns-in-Print
returns-in-Print c =
    c.widest.ensures ∙ ap capped (sym (print_width (rose_of_typed c.args.tree.now) (ap head.Builtin (sym c.in-Print.is) ∙ c.in-Builtin.ensures)))

use Rattle.std.proofs.Common.{◌+◌, ◌≤◌, ap, sym, subst, ◌∙◌}
use Rattle.px_tree.specs.declared.typed_heads.TypedHead.TheVariants as head
use Rattle.px_typed_walk.specs.TypedView.{rose_of_typed}
use Rattle.px_stmtgen.specs.Layouts.{temporary}
use Rattle.px_stmtgen.proofs.Appending.{same_code}
use Rattle.px_stmtgen.proofs.Parts.{print_width}
use Rattle.px_stmtgen.proofs.PartCode.{print_there}
use Rattle.px_stmtgen.proofs.statements.alone.Goals as goal

pub print-requires-clause-width : goal.print-requires-clause-width
print-requires-clause-width c =
    subst (λ n. temporary c.args.layout + n ≤ 4294967295) (print_width (rose_of_typed c.args.tree.now) (ap head.Builtin (sym c.in-Print.is) ∙ c.in-Builtin.ensures)) c.requires.width

pub returns-in-Print : goal.returns-in-Print
returns-in-Print c =
    same_code c.print.result c.args.code.now c.print.new.code _ _ (print_there c.args.layout (rose_of_typed c.args.tree.now) _ (ap head.Builtin (sym c.in-Print.is) ∙ c.in-Builtin.ensures)) c.print.ensures

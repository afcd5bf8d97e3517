use Rattle.std.proofs.Common.{◌∙◌, ap}
use Rattle.px_walk.specs.Forms.{Form}
use Rattle.px_walk.specs.HeadForms.{function_form}
use Rattle.px_walk.specs.Nodes.{rose_of}
use Rattle.px_walk.specs.Roses.{number_of}
use Rattle.px_names.specs.Contexts.{within_function, context_below}
use Rattle.px_names.proofs.Heads.{at_head}
use Rattle.px_names.proofs.contexts.down.Goals as goal

pub returns-in-Function : goal.returns-in-Function
returns-in-Function c =
    c.within_function.ensures
    ∙ ap (λ n. within_function n (function_form c.in-Function.f) c.args.k) c.number.ensures
    ∙ at_head (λ (h : Form). context_below c.args.context h (number_of (rose_of c.args.node)) c.args.k) c.in-Function.is c.head.ensures

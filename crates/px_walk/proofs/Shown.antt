-- What the nodes of the parse tree show of their trees.
use Rattle.std.proofs.Common.{◌≡◌, ℕ, List, sym, ap, ◌∙◌}
use Rattle.px_base.specs.declared.refusals.Span.{Span}
use Rattle.px_walk.specs.Forms.{Form}
use Rattle.px_walk.specs.Roses.{parts_of}
use Rattle.px_walk.specs.ExprView.{Tree, node}
use Rattle.px_walk.specs.Nodes.{rose_of}
use Rattle.px_walk.specs.declared.tree_node.TreeNode.{TreeNode}
use Rattle.px_walk.proofs.Parts.{listed-gathered}

pub shown : {X : Type 0} (F : Tree → X) {itself other : TreeNode} {tree : Tree} → itself ≡ other → rose_of other ≡ tree → F tree ≡ F (rose_of itself)
shown F is makes = sym (ap (λ (n : TreeNode). F (rose_of n)) is ∙ ap F makes)

pub parts_shown : {X : Type 0} (F : List Tree → X) {itself other : TreeNode} (head : Form) (number : ℕ) (at : Span) (parts : List Tree)
    → itself ≡ other → rose_of other ≡ node head number at parts → F parts ≡ F (parts_of (rose_of itself))
parts_shown F head number at parts is makes =
    sym (ap (λ (n : TreeNode). F (parts_of (rose_of n))) is ∙ ap (λ (t : Tree). F (parts_of t)) makes ∙ ap F (listed-gathered parts))

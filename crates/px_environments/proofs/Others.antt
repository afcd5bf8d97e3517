-- Heads of nodes that are none of those that a definition speaks of.
use Rattle.std.proofs.Common.{◌≡◌, ℕ, List, None, Bor, refl}
use Rattle.px_base.specs.declared.refusals.Span.{Span}
use Rattle.px_tree.specs.declared.typed_values.ValueType.{ValueType}
use Rattle.px_walk.specs.declared.heads.Head.{Head}
use Rattle.px_walk.specs.declared.heads.Head.TheVariants as head
use Rattle.px_walk.specs.HeadForms.{form_of}
use Rattle.px_environments.specs.Signatures.{local_named}

pub other_local : (t : ValueType) (number : ℕ) (at : Span) (h : Head) → ((name : Bor (List ℕ)) → h ≡ head.Declarator name → ⊥)
    → local_named t number at (form_of h) ≡ None
other_local t number at (head.Declarator name) no_Declarator = absurd (no_Declarator name refl)
other_local t number at _ no_Declarator = refl

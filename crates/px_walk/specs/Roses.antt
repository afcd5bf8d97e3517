-- Trees whose nodes have any number of parts, and the places that a walk through one comes to.
use Rattle.std.specs.Prelude.{ℕ, ◌+◌, List, [], ◌∷◌, ◌++◌}
use Rattle.px_base.specs.declared.refusals.Span.{Span}

-- a node: its form without its parts, its number, its place, and its parts in the order of the text
mutual
  pub data Rose (H : Type 0) : Type 0 where
    rose : H → ℕ → Span → Roses H → Rose H

  pub data Roses (H : Type 0) : Type 0 where
    none : Roses H
    more : Rose H → Roses H → Roses H

abbrev pub listed : {H : Type 0} → Roses H → List (Rose H)
listed none = []
listed (more tree trees) = tree ∷ listed trees

abbrev pub gathered : {H : Type 0} → List (Rose H) → Roses H
gathered [] = none
gathered (tree ∷ trees) = more tree (gathered trees)

abbrev pub head_of : {H : Type 0} → Rose H → H
head_of (rose head number at parts) = head

abbrev pub number_of : {H : Type 0} → Rose H → ℕ
number_of (rose head number at parts) = number

abbrev pub at_of : {H : Type 0} → Rose H → Span
at_of (rose head number at parts) = at

abbrev pub parts_of : {H : Type 0} → Rose H → List (Rose H)
parts_of (rose head number at parts) = listed parts

-- Each node of a tree with its context, in the order of the text: a node before its parts. The context of the k-th part of a
-- node is `down` of the node's own context, the node and k.
unfoldable mutual
  pub occurrences : {C H : Type 0} → (C → Rose H → ℕ → C) → C → Rose H → List (C × Rose H)
  occurrences down context (rose head number at parts) =
      (context, rose head number at parts) ∷ occurrences_from down context (rose head number at parts) 0 parts

  -- those of the parts of a node from the k-th on
  pub occurrences_from : {C H : Type 0} → (C → Rose H → ℕ → C) → C → Rose H → ℕ → Roses H → List (C × Rose H)
  occurrences_from down context node k none = []
  occurrences_from down context node k (more part parts) =
      occurrences down (down context node k) part ++ occurrences_from down context node (k + 1) parts

-- how many nodes a tree has
unfoldable mutual
  pub size : {H : Type 0} → Rose H → ℕ
  size (rose head number at parts) = 1 + sizes parts

  pub sizes : {H : Type 0} → Roses H → ℕ
  sizes none = 0
  sizes (more tree trees) = size tree + sizes trees

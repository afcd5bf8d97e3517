-- What is left of a walk through a tree while its parts are gone over, and the first finding of a whole walk.
use Rattle.std.proofs.Common.{◌≡◌, ◌⊎◌, inl, inr, ℕ, ◌+◌, ◌<◌, ◌≤◌, List, [], ◌∷◌, ◌++◌, length, drop, get_or, zero, suc, Option, Some, None, refl, sym, ap, subst, ◌∙◌, arith}
use Rattle.std.specs.Prelude.{Contains, slice_get, IsTrue}
use Rattle.std.proofs.lemmas.List.Elements.{Contains-append_left, Contains-append_right, Contains-append_cases, Contains-push, Contains-push_cases}
use Rattle.std.proofs.lemmas.List.{drop_more, drop_all}
use Rattle.std.proofs.lemmas.Option.{slice_get_within, get_or_from_slice_get, slice_get-get_or}
use Rattle.px_base.specs.declared.refusals.Refusal.{Refusal}
use Rattle.px_base.specs.Findings.{comes_first, IsFirst, first_of}
use Rattle.px_base.proofs.FirstFindings.{joined, weaker, first_of-associative, comes_first-reflexive}
use Rattle.px_walk.specs.Roses.{Rose, Roses, rose, none, more, listed, gathered, parts_of, occurrences, occurrences_from, size, sizes}
use Rattle.px_walk.specs.Findings.{Breaks, finding, visited}

pub gathered-listed : {H : Type 0} (trees : Roses H) → gathered (listed trees) ≡ trees
gathered-listed none = refl
gathered-listed (more tree trees) = ap (more tree) (gathered-listed trees)

-- ---- lists from an element on

drop_whole : {A : Type 0} (xs : List A) → drop 0 xs ≡ xs
drop_whole [] = refl
drop_whole (x ∷ xs) = refl

drop_one : {A : Type 0} (xs : List A) (k : ℕ) (x : A) → slice_get xs k ≡ Some x → drop k xs ≡ x ∷ drop (k + 1) xs
drop_one {A = A} xs k x is =
    let here : get_or xs k x ≡ x = get_or_from_slice_get xs k x x is in
    drop_more xs k x (slice_get_within xs k x is) ∙ ap (λ (y : A). y ∷ drop (k + 1) xs) here

-- ---- what is left of a walk

-- the nodes from a part of a node on
abbrev pub left_from : {C H : Type 0} → (C → Rose H → ℕ → C) → C → Rose H → ℕ → List (C × Rose H)
left_from down context node k = occurrences_from down context node k (gathered (drop k (parts_of node)))

pub left_first : {C H : Type 0} (down : C → Rose H → ℕ → C) (context : C) (node : Rose H)
    → occurrences down context node ≡ (context, node) ∷ left_from down context node 0
unfolding occurrences
left_first down context (rose head number at parts) =
    ap (λ trees. (context, rose head number at parts) ∷ occurrences_from down context (rose head number at parts) 0 trees)
    (sym (ap gathered (drop_whole (listed parts)) ∙ gathered-listed parts))

pub left_more : {C H : Type 0} (down : C → Rose H → ℕ → C) (context : C) (node part : Rose H) (k : ℕ)
    → slice_get (parts_of node) k ≡ Some part
    → left_from down context node k ≡ occurrences down (down context node k) part ++ left_from down context node (k + 1)
unfolding occurrences
left_more down context node part k is =
    ap (λ trees. occurrences_from down context node k (gathered trees)) (drop_one (parts_of node) k part is)

pub left_none : {C H : Type 0} (down : C → Rose H → ℕ → C) (context : C) (node : Rose H) (k : ℕ)
    → length (parts_of node) ≤ k → left_from down context node k ≡ []
unfolding occurrences
left_none down context node k past =
    ap (λ trees. occurrences_from down context node k (gathered trees)) (drop_all k (parts_of node) past)

-- ---- a part is smaller than its node

below : {H : Type 0} (trees : Roses H) (k : ℕ) (part : Rose H) → slice_get (listed trees) k ≡ Some part → size part ≤ sizes trees
unfolding size
below none k part is = absurd cc
below {H = H} (more tree trees) zero part is = let same : tree ≡ part = cc in subst (λ (t : Rose H). size t ≤ size tree + sizes trees) same (omega arith)
below (more tree trees) (suc k) part is = let le = below trees k part is in omega arith

pub size-part : {H : Type 0} (node : Rose H) (k : ℕ) (part : Rose H) → slice_get (parts_of node) k ≡ Some part → size part < size node
unfolding size
size-part (rose head number at parts) k part is = let le = below parts k part is in omega arith

-- ---- findings

pub finding-append : {C H : Type 0} (rule : C → Rose H → Option Refusal) (nodes more_nodes : List (C × Rose H))
    → finding rule (nodes ++ more_nodes) ≡ first_of (finding rule nodes) (finding rule more_nodes)
finding-append rule [] more_nodes = refl
finding-append rule (node ∷ nodes) more_nodes =
    ap (first_of (rule node.0 node.1)) (finding-append rule nodes more_nodes)
    ∙ sym (first_of-associative (rule node.0 node.1) (finding rule nodes) (finding rule more_nodes))

-- so much is found before a part, and what is left is found behind it
pub finding-part : {C H : Type 0} (rule : C → Rose H → Option Refusal) (down : C → Rose H → ℕ → C) (context : C) (node part : Rose H) (k : ℕ) (before : Option Refusal)
    → slice_get (parts_of node) k ≡ Some part
    → first_of (first_of before (finding rule (occurrences down (down context node k) part))) (finding rule (left_from down context node (k + 1)))
    ≡ first_of before (finding rule (left_from down context node k))
finding-part rule down context node part k before is =
    first_of-associative before (finding rule (occurrences down (down context node k) part)) (finding rule (left_from down context node (k + 1)))
    ∙ ap (first_of before) (sym (ap (finding rule) (left_more down context node part k is) ∙ finding-append rule (occurrences down (down context node k) part) (left_from down context node (k + 1))))

nothing_more : (found : Option Refusal) → first_of found None ≡ found
nothing_more None = refl
nothing_more (Some refusal) = refl

pub finding-end : {C H : Type 0} (rule : C → Rose H → Option Refusal) (down : C → Rose H → ℕ → C) (context : C) (node : Rose H) (k : ℕ) (before : Option Refusal)
    → length (parts_of node) ≤ k → first_of before (finding rule (left_from down context node k)) ≡ before
finding-end rule down context node k before past =
    ap (λ nodes. first_of before (finding rule nodes)) (left_none down context node k past) ∙ nothing_more before

said : (o : Option Refusal) → IsFirst (λ r. o ≡ Some r) o
said None = λ r is. absurd cc
said (Some refusal) = (refl, λ r is. let same : refusal ≡ r = cc in subst (λ (s : Refusal). IsTrue (comes_first refusal s)) same (comes_first-reflexive refusal))

none_breaks : {C H : Type 0} (rule : C → Rose H → Option Refusal) (r : Refusal) → Breaks rule [] r → ⊥
none_breaks rule r breaks = absurd (omega (arith, breaks.1.1))

one_breaks : {C H : Type 0} (rule : C → Rose H → Option Refusal) (node : C × Rose H) (nodes : List (C × Rose H)) (r : Refusal)
    → (rule node.0 node.1 ≡ Some r) ⊎ Breaks rule nodes r → Breaks rule (node ∷ nodes) r
one_breaks rule node nodes r (inl is) = (node, Contains-append_left (node ∷ []) nodes node (Contains-push [] node), is)
one_breaks rule node nodes r (inr breaks) = (breaks.0, Contains-append_right (node ∷ []) nodes breaks.0 breaks.1, breaks.2)

which_breaks : {C H : Type 0} (rule : C → Rose H → Option Refusal) (node : C × Rose H) (nodes : List (C × Rose H)) (r : Refusal)
    → Breaks rule (node ∷ nodes) r → (rule node.0 node.1 ≡ Some r) ⊎ Breaks rule nodes r
which_breaks {C = C} {H = H} rule node nodes r breaks =
    elim (Contains-append_cases (node ∷ []) nodes breaks.0 breaks.1) [
      | inl here ↦ elim (Contains-push_cases [] node breaks.0 here) [
        | inl no_node ↦ absurd (omega (arith, no_node.1))
        | inr same ↦ inl (subst (λ (n : C × Rose H). rule n.0 n.1 ≡ Some r) (sym same) breaks.2)
      ]
      | inr later ↦ inr (breaks.0, later, breaks.2)
    ]

-- what is found of some nodes is the first that they break
pub finding-first : {C H : Type 0} (rule : C → Rose H → Option Refusal) (nodes : List (C × Rose H)) → IsFirst (Breaks rule nodes) (finding rule nodes)
finding-first rule [] = λ r breaks. none_breaks rule r breaks
finding-first rule (node ∷ nodes) =
    weaker (λ r. (rule node.0 node.1 ≡ Some r) ⊎ Breaks rule nodes r) (Breaks rule (node ∷ nodes)) (finding rule (node ∷ nodes))
    (one_breaks rule node nodes) (which_breaks rule node nodes)
    (joined (λ r. rule node.0 node.1 ≡ Some r) (Breaks rule nodes) (rule node.0 node.1) (finding rule nodes) (said (rule node.0 node.1)) (finding-first rule nodes))

-- ---- visits

pub visited-append : {S C H : Type 0} (step : S → C → Rose H → S) (state : S) (nodes more_nodes : List (C × Rose H))
    → visited step state (nodes ++ more_nodes) ≡ visited step (visited step state nodes) more_nodes
visited-append step state [] more_nodes = refl
visited-append step state (node ∷ nodes) more_nodes = visited-append step (step state node.0 node.1) nodes more_nodes

pub visited-part : {S C H : Type 0} (step : S → C → Rose H → S) (down : C → Rose H → ℕ → C) (context : C) (node part : Rose H) (k : ℕ) (state : S)
    → slice_get (parts_of node) k ≡ Some part
    → visited step (visited step state (occurrences down (down context node k) part)) (left_from down context node (k + 1))
    ≡ visited step state (left_from down context node k)
visited-part step down context node part k state is =
    sym (ap (visited step state) (left_more down context node part k is)
    ∙ visited-append step state (occurrences down (down context node k) part) (left_from down context node (k + 1)))

pub visited-end : {S C H : Type 0} (step : S → C → Rose H → S) (down : C → Rose H → ℕ → C) (context : C) (node : Rose H) (k : ℕ) (state : S)
    → length (parts_of node) ≤ k → visited step state (left_from down context node k) ≡ state
visited-end step down context node k state past = ap (visited step state) (left_none down context node k past)

-- ---- occurrences

head_occurs : {A : Type 0} (x : A) (xs : List A) → Contains (x ∷ xs) x
head_occurs x xs = Contains-append_left (x ∷ []) xs x (Contains-push [] x)

pub occurs-itself : {C H : Type 0} (down : C → Rose H → ℕ → C) (context : C) (node : Rose H) → Contains (occurrences down context node) (context, node)
occurs-itself {C = C} {H = H} down context node =
    subst (λ (nodes : List (C × Rose H)). Contains nodes (context, node)) (sym (left_first down context node)) (head_occurs (context, node) (left_from down context node 0))

-- what is left from a part on is left from each part before it
occurs-left : {C H : Type 0} (down : C → Rose H → ℕ → C) (context : C) (node : Rose H) (k : ℕ) (other : C × Rose H)
    → k ≤ length (parts_of node) → Contains (left_from down context node k) other → Contains (left_from down context node 0) other
occurs-left down context node zero other within here = here
occurs-left {C = C} {H = H} down context node (suc k) other within here =
    let before : k < length (parts_of node) = omega arith in
    let part : Rose H = get_or (parts_of node) k node in
    let is = slice_get-get_or (parts_of node) k node before in
    let same : suc k ≡ k + 1 = omega arith in
    occurs-left down context node k other (omega arith)
    (subst (λ (nodes : List (C × Rose H)). Contains nodes other) (sym (left_more down context node part k is))
    (Contains-append_right (occurrences down (down context node k) part) (left_from down context node (k + 1)) other
    (subst (λ (n : ℕ). Contains (left_from down context node n) other) same here)))

pub occurs-part : {C H : Type 0} (down : C → Rose H → ℕ → C) (context : C) (node part : Rose H) (k : ℕ) (other : C × Rose H)
    → slice_get (parts_of node) k ≡ Some part → Contains (occurrences down (down context node k) part) other → Contains (occurrences down context node) other
occurs-part {C = C} {H = H} down context node part k other is here =
    let within = slice_get_within (parts_of node) k part is in
    let left : Contains (left_from down context node k) other =
    subst (λ (nodes : List (C × Rose H)). Contains nodes other) (sym (left_more down context node part k is))
    (Contains-append_left (occurrences down (down context node k) part) (left_from down context node (k + 1)) other here) in
    subst (λ (nodes : List (C × Rose H)). Contains nodes other) (sym (left_first down context node))
    (Contains-append_right ((context, node) ∷ []) (left_from down context node 0) other
    (occurs-left down context node k other (omega arith) left))

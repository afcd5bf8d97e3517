use Rattle.std.proofs.Common.{◌≡◌, ◌+◌, ◌<◌, ◌≤◌, List, [], ◌∷◌, ◌++◌, map, Option, Some, None, ℕ, length, take, sym, ap, ◌∙◌, subst, arith}
use Rattle.std.specs.Prelude.{option_map, unwrap_or}
use Rattle.std.proofs.lemmas.List.{take_rest, length-drop, map-append}
use Rattle.px_names.specs.declared.comments.Pair.{Pair as PairKept}
use Rattle.px_names.specs.Comments.{Pair, pair_at, pairs_between_commas}
use Rattle.px_names.proofs.Cuts.{pairs_none, pairs_done, pairs_on}
use Rattle.px_names.proofs.comments.pairs_between.Goals as goal

-- a pair as plain texts
abbrev told : PairKept → Pair
told pair = (pair.name.now, pair.value.now)

pub returns-in-None : goal.returns-in-None
returns-in-None c =
    let left = c.loop-pair.left.now in
    let n = c.place_of-comma.result in
    let none : pair_at (take n left) ≡ None = sym c.pair_of.ensures ∙ ap (option_map told) c.in-None.is in
    ap (map told) c.new.ensures.items
    ∙ ap (λ (pairs : Option (List Pair)). unwrap_or pairs [])
    (sym (sym c.loop-pair.invariant.found ∙ pairs_none (map told c.loop-pair.pairs.items) left n (sym c.place_of-comma.ensures.place) c.place_of-comma.ensures.within none))

pub returns-then-comma-left : goal.returns-then-comma-left
returns-then-comma-left c =
    let left = c.loop-pair.left.now in
    let n = c.place_of-comma.result in
    let before = map told c.loop-pair.pairs.items in
    let one : pair_at (take n left) ≡ Some (told c.in-Some.pair) = sym c.pair_of.ensures ∙ ap (option_map told) c.in-Some.is in
    let pushed : map told c.push.new.self.items ≡ before ++ told c.in-Some.pair ∷ [] =
    ap (map told) c.in_ok-push-in-Some.ensures.items ∙ map-append told c.loop-pair.pairs.items (c.in-Some.pair ∷ []) in
    pushed
    ∙ ap (λ (pairs : Option (List Pair)). unwrap_or pairs [])
    (sym (sym c.loop-pair.invariant.found ∙ pairs_done before left n (told c.in-Some.pair) (sym c.place_of-comma.ensures.place) c.if-comma-left.true one))

pub loop-pair-preserved : goal.loop-pair-preserved
loop-pair-preserved c =
    let left = c.loop-pair.left.now in
    let n = c.place_of-comma.result in
    let before = map told c.loop-pair.pairs.items in
    let less : n < length left = omega (arith, c.place_of-comma.ensures.within, c.if-comma-left.false) in
    let one : pair_at (take n left) ≡ Some (told c.in-Some.pair) = sym c.pair_of.ensures ∙ ap (option_map told) c.in-Some.is in
    let pushed : map told c.push.new.self.items ≡ before ++ told c.in-Some.pair ∷ [] =
    ap (map told) c.in_ok-push-in-Some.ensures.items ∙ map-append told c.loop-pair.pairs.items (c.in-Some.pair ∷ []) in
    record {
      within =
          let behind = length-drop (n + 1) left in
          subst (λ (xs : List ℕ). length xs ≤ length c.args.text.now) (sym (take_rest left (n + 1))) (omega (arith, behind, c.loop-pair.invariant.within));
      found = (λ i. option_map (λ (more : List Pair). pushed i ++ more) (pairs_between_commas (take_rest left (n + 1) i)))
          ∙ pairs_on before left n (told c.in-Some.pair) (sym c.place_of-comma.ensures.place) less one ∙ c.loop-pair.invariant.found;
    }

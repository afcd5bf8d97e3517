-- A run alone with the stores that its sections have one after another.
use Rattle.std.proofs.Common.{List, [], ◌∷◌, ◌++◌, refl, sym, ap, ◌∙◌}
use Rattle.px_model.specs.declared.stores.Store.{Store}
use Rattle.px_meaning.specs.Interactions.{Interaction, done, load, put, fill, copy, make, released, enter, leave, loop}
use Rattle.px_meaning.specs.Iterations.{Alone, Reached, waits, behind_writes, behind_section, alone}
use Rattle.px_meaning.specs.Iterations as reaching
use Rattle.px_meaning.specs.OneWorld.{Together, together}
use Rattle.px_meaning.specs.OneWorld as order
use Rattle.px_meaning.specs.Worlds.{Write, fill_writes, copy_writes, World, with_writes, with_stored}
use Rattle.px_meaning.specs.InTurn.{IsQuiet, starts_in_turn, last_left, reached_in_turn, SectionsInTurn}
use Rattle.px_meaning.proofs.Plain.{written_behind}

Is : {A : Type 0} → Alone A → World → Together A → Type 0
Is a w end = reached_in_turn a.reached a.writes a.left w end

written_first : {A : Type 0} (ws : List Write) (a : Alone A) (w : World) (end : Together A) → Is a (with_writes ws w) end
    → Is (behind_writes ws a) w end
unfolding Is
written_first ws a w end is = by a.reached a.writes a.left is
  where
    by : (r : Reached _) (vs : List Write) (left : List Store) → reached_in_turn r vs left (with_writes ws w) end
        → reached_in_turn r (ws ++ vs) left w end
    by waits vs left x = x
    by (reaching.ended v) vs left x =
        x ∙ ap (λ words. order.ended v (record w { words = words; store = last_left left w.store })) (sym (written_behind ws vs w.words))
    by reaching.refused vs left x = x

section_first : {A : Type 0} (store : Store) (a : Alone A) (w : World) (end : Together A) → Is a (with_stored store w) end
    → Is (behind_section store a) w end
unfolding Is
section_first store a w end is = by a.reached a.writes a.left is
  where
    by : (r : Reached _) (vs : List Write) (left : List Store) → reached_in_turn r vs left (with_stored store w) end
        → reached_in_turn r vs (store ∷ left) w end
    by waits vs left x = x
    by (reaching.ended v) vs left x = x
    by reaching.refused vs left x = x

in_turn_is : {A : Type 0} (t : Interaction A) (w : World) → IsQuiet t
    → Is (alone t w.words (starts_in_turn t w.words w.store)) w (together t w)
unfolding Is
in_turn_is (done a) w quiet = refl
in_turn_is (load cell k) w quiet = in_turn_is (k (w.words cell)) w (quiet (w.words cell))
in_turn_is (put cell word t) w quiet = written_first ((cell, word) ∷ []) _ w _ (in_turn_is t (with_writes ((cell, word) ∷ []) w) quiet)
in_turn_is (fill cells word t) w quiet = written_first (fill_writes cells word) _ w _
    (in_turn_is t (with_writes (fill_writes cells word) w) quiet)
in_turn_is (copy pairs from to t) w quiet =
    written_first (copy_writes pairs from to w.words) _ w _ (in_turn_is t (with_writes (copy_writes pairs from to w.words) w) quiet)
in_turn_is (make buffer size t) w quiet = in_turn_is t w quiet
in_turn_is (released buffer t) w quiet = absurd quiet
in_turn_is (enter k) w quiet = in_turn_is (k w.store) w (quiet w.store)
in_turn_is (leave store t) w quiet = section_first store _ w _ (in_turn_is t (with_stored store w) quiet)
in_turn_is (loop entry k) w quiet = absurd quiet

pub sections_in_turn : SectionsInTurn
unfolding Is
sections_in_turn t w quiet = in_turn_is t w quiet

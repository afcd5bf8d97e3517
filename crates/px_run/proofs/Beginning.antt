-- The main member of an image begins as the definitions say, and what it has at its end is the outcome.
use Rattle.std.proofs.Common.{◌≡◌, ℕ, List, [], Option, Some, None, sym, ap, ◌∙◌}
use Rattle.std.proofs.lemmas.Option.{none-some}
use Rattle.px_regcode.specs.Images.{ImageParts}
use Rattle.px_model.specs.declared.outcomes.End.{End}
use Rattle.px_model.specs.declared.outcomes.Outcome.{Outcome}
use Rattle.px_model.specs.declared.stores.Store.{Store}
use Rattle.px_meaning.specs.States.{holding}
use Rattle.px_meaning.specs.Modules.{first_state}
use Rattle.px_meaning.specs.OneWorld.{first_store, first_world}
use Rattle.px_meaning.specs.Worlds.{World}
use Rattle.px_machine.specs.Means.{first_member}
use Rattle.px_machine.specs.OneWorld.{RunGives, end_of_member, output_of}
use Rattle.px_heap.specs.Heaps.{Heap, Live, object_of, found_from}
use Rattle.px_interp.specs.Interps.{Interp, Represents}
use Rattle.px_member.specs.Members.{Member, IsMember, IsStore, HasEnded}
use Rattle.px_run.specs.Among.{AreAmong}
use Rattle.px_run.specs.Driving.{EndsSo, Ends, RunEnds, printed_of}

none_live : (heap : Heap) (number : ℕ) (o : Live) → heap.slots ≡ [] → object_of heap number ≡ Some o → ⊥
none_live heap number o none there = none-some o (sym (ap (λ slots. found_from 0 slots number) none) ∙ there)

nothing_yet : (interp : Interp) (names : ℕ) (input : List ℕ) → interp.heap.slots ≡ [] → interp.heap.made ≡ 0 → interp.output ≡ [] → Represents interp (first_store names input)
nothing_yet interp names input slots made output = record {
  objects = record { made = made; objects = λ number o there. absurd (none_live interp.heap number o slots there) };
  output = output;
}

module _ (image : ImageParts) (turns members : ℕ) (member : Member) (interp : Interp)
    (slots : interp.heap.slots ≡ []) (made : interp.heap.made ≡ 0) (output : interp.output ≡ [])
    (begins : (store : Store) → Represents interp store → IsMember member (first_member image (holding store (first_state turns members))))
    (among : (store : Store) → AreAmong image (first_member image (holding store (first_state turns members)))) where
  pub begun : (names : ℕ) (input : List ℕ) (outcome : Outcome) (gives : RunGives image names input turns members outcome)
      → EndsSo image member (first_world names input) gives.last gives.rest gives.world
  begun names input outcome gives = record {
    is = first_member image (holding (first_store names input) (first_state turns members));
    is_member = begins (first_store names input) (nothing_yet interp names input slots made output);
    among = among (first_store names input);
    reaches = gives.reaches;
  }

  pub ends : RunEnds image turns members → Ends image member
  ends run = record {
    before = first_world run.names run.input;
    last = run.gives.last;
    rest = run.gives.rest;
    after = run.gives.world;
    so = begun run.names run.input run.outcome run.gives;
  }

same_output : (book : Option Interp) (store : Option Store) (w : World) → w.store.output ≡ [] → IsStore book store → printed_of book ≡ output_of store w
same_output None None w none is = sym none
same_output None (Some store) w none is = absurd is
same_output (Some interp) None w none is = absurd is
same_output (Some interp) (Some store) w none is = is.output

-- the outcome is what the member and the world have at the end
pub outcome_is : (image : ImageParts) (turns members names : ℕ) (input : List ℕ) (given : Outcome) (gives : RunGives image names input turns members given) (member : Member)
    → HasEnded member gives.last gives.rest → gives.world ≡ first_world names input → (end : End) → end ≡ end_of_member gives.last → (output : List ℕ) → output ≡ printed_of member.book
    → (released : List ℕ) → released ≡ [] → record { end = end; output = output; released = released } ≡ given
outcome_is image turns members names input given gives member ended world end is_end output is_output released none =
    let printed : printed_of member.book ≡ output_of gives.rest.store gives.world =
    same_output member.book gives.rest.store gives.world (ap (λ (w : World). w.store.output) world) ended.rest.store in
    let free : gives.world.released ≡ [] = ap (λ (w : World). w.released) world in
    let given_is = gives.is in
    cc

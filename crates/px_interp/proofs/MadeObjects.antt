-- What a heap's making an object is to the store that the runtime stands for.
use Rattle.std.proofs.Common.{◌≡◌, ℕ, ◌<◌, List, [], ◌∷◌, ◌++◌, length, Ok, subst, sym, ap, ◌∙◌, arith}
use Rattle.std.proofs.lemmas.Bool.{lt-ltb}
use Rattle.px_model.specs.declared.stores.ObjectValue.{ObjectValue}
use Rattle.px_model.specs.declared.stores.Store.{Store}
use Rattle.px_meaning.specs.Values as value
use Rattle.px_meaning.specs.Objects.{gave, new_object, object_limit}
use Rattle.px_heap.specs.declared.values.Serial.{Serial}
use Rattle.px_heap.specs.declared.values.Value.{Value}
use Rattle.px_heap.specs.Answers.{IsNew}
use Rattle.px_heap.specs.Heaps.{Heap}
use Rattle.px_heap.specs.Stores.{StandsFor, object_value, with_object}
use Rattle.px_interp.specs.Interps.{Interp, Represents}
use Rattle.px_interp.specs.Rows.{IsMadeIn}

new_is : (what : ObjectValue) (store : Store) (n : ℕ) → n ≡ length store.objects → n < object_limit → new_object what store ≡ gave (value.object n) (record store { objects = store.objects ++ what ∷ [] })
new_is what store n e less =
    rw (lt-ltb (length store.objects) object_limit (omega (arith, e, less))) (ap (λ k. gave (value.object k) (record store { objects = store.objects ++ what ∷ [] })) (sym e))

pub made_object : (heap next : Heap) (output : List ℕ) (old : Interp) (value : Value) (of : Serial) (store : Store) → record { heap = heap; output = output } ≡ old → IsNew heap next value of
    → (StandsFor heap store → IsNew heap next value of → StandsFor next (with_object value store)) → Represents old store → IsMadeIn store (object_value value) (record { heap = next; output = output }) (Ok of)
made_object heap next output old value of store e made law r =
    let represents : Represents (record { heap = heap; output = output }) store = subst (λ i. Represents i store) (sym e) r in
    let number = made.number ∙ represents.objects.made in (
      with_object value store,
      new_is (object_value value) store of.number number (let few = made.few in let n = made.number in omega (arith, few, n)),
      record { objects = law represents.objects made; output = represents.output },
    )

-- a call of the heap that keeps the store
pub represents_still : (heap next : Heap) (output : List ℕ) (old : Interp) → record { heap = heap; output = output } ≡ old → ((store : Store) → StandsFor heap store → StandsFor next store) → (store : Store)
    → Represents old store → Represents (record { heap = next; output = output }) store
represents_still heap next output old e law store r =
    let represents : Represents (record { heap = heap; output = output }) store = subst (λ i. Represents i store) (sym e) r in
    record { objects = law store represents.objects; output = represents.output }

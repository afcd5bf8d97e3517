-- The line of a print, as it grows.
use Rattle.std.proofs.Common.{◌≡◌, ℕ, zero, suc, ◌+◌, ◌<◌, ◌≤◌, List, [], ◌∷◌, ◌++◌, length, get_or, take, Option, Some, None, refl, subst, sym, ap, ◌∙◌, arith}
use Rattle.std.specs.Prelude.{codes, option_map}
use Rattle.std.proofs.lemmas.List.{append_assoc, length-append, take_all, take_more}
use Rattle.px_regcode.specs.declared.operands.Register.{Register}
use Rattle.px_meaning.specs.Objects.{listed_text, spaced, text_of, text_of_there}
use Rattle.px_heap.specs.declared.values.Serial.{Serial}
use Rattle.px_heap.specs.declared.values.Value.{Value}
use Rattle.px_heap.specs.Heaps.{Heap, value_of}
use Rattle.px_heap.specs.Stores.{object_value}
use Rattle.px_interp.specs.declared.registers.Slot.{Slot}
use Rattle.px_interp.specs.declared.registers.Slot.TheVariants.{Empty}
use Rattle.px_interp.specs.Slots.{object_in}
use Rattle.px_interp.specs.Texts.{IsLineOf, IsTextOf, text_there, texts_in, with_space}

-- the line of the first texts, as many as there are places, if these are there
abbrev pub IsFront : Option (List (List ℕ)) → ℕ → List ℕ → Type 0
IsFront None place line = Unit {0}
IsFront (Some texts) place line = (length texts ≡ place) × (line ≡ spaced texts)

-- ---- one text more

abbrev and_text : Option (List (List ℕ)) → Option (List ℕ) → Option (List (List ℕ))
and_text None text = None
and_text (Some texts) None = None
and_text (Some texts) (Some text) = Some (texts ++ text ∷ [])

pub listed_missing : (text : Option (List ℕ)) → listed_text text None ≡ None
listed_missing None = refl
listed_missing (Some text) = refl

listed_and : (first : Option (List ℕ)) (texts : Option (List (List ℕ))) (last : Option (List ℕ)) → listed_text first (and_text texts last) ≡ and_text (listed_text first texts) last
listed_and None texts last = refl
listed_and (Some first) None last = refl
listed_and (Some first) (Some texts) None = refl
listed_and (Some first) (Some texts) (Some last) = refl

one_text : (text : Option (List ℕ)) → listed_text text (Some []) ≡ and_text (Some []) text
one_text None = refl
one_text (Some text) = refl

abbrev text_at : Heap → List Slot → Register → Option (List ℕ)
text_at heap slots a = text_there heap (object_in (get_or slots a.number Empty))

texts_joined : (heap : Heap) (slots : List Slot) (front : List Register) (a : Register) → texts_in heap slots (front ++ a ∷ []) ≡ and_text (texts_in heap slots front) (text_at heap slots a)
texts_joined heap slots [] a = one_text (text_at heap slots a)
texts_joined heap slots (b ∷ front) a = ap (listed_text (text_at heap slots b)) (texts_joined heap slots front a) ∙ listed_and (text_at heap slots b) (texts_in heap slots front) (text_at heap slots a)

spaced_joined : (texts : List (List ℕ)) (text : List ℕ) → spaced (texts ++ text ∷ []) ≡ with_space (length texts) (spaced texts) ++ text
spaced_joined [] text = refl
spaced_joined (first ∷ []) text = refl
spaced_joined (first ∷ second ∷ texts) text =
    let i = spaced_joined (second ∷ texts) text in
    ap (λ line. (first ++ codes " ") ++ line) i ∙ sym (append_assoc (first ++ codes " ") (spaced (second ∷ texts) ++ codes " ") text)
    ∙ ap (λ line. line ++ text) (sym (append_assoc (first ++ codes " ") (spaced (second ∷ texts)) (codes " ")))

front_with : (texts : Option (List (List ℕ))) (place : ℕ) (line new : List ℕ) (text : Option (List ℕ)) → IsFront texts place line → IsTextOf text (with_space place line) new → IsFront (and_text texts text) (place + 1) new
front_with None place line new text f t = tt
front_with (Some texts) place line new None f t = tt
front_with (Some texts) place line new (Some text) f t = (
  (let l = length-append texts (text ∷ []) in let n = f.0 in omega (arith, l, n)),
  t ∙ ap (λ n. with_space n line ++ text) (sym f.0) ∙ ap (λ before. with_space (length texts) before ++ text) f.1 ∙ sym (spaced_joined texts text),
)

text_known : (heap : Heap) (slots : List Slot) (a : Register) (of : Serial) (value : Value) → object_in (get_or slots a.number Empty) ≡ Some of → value_of heap of.number ≡ Some value
    → text_at heap slots a ≡ text_of (object_value value)
text_known heap slots a of value e v = ap (text_there heap) e ∙ ap (λ o. text_of_there (option_map object_value o)) v

pub next_text : (heap : Heap) (slots : List Slot) (arguments : List Register) (place : ℕ) (line new : List ℕ) (d : Register) (of : Serial) (value : Value) → place < length arguments
    → object_in (get_or slots (get_or arguments place d).number Empty) ≡ Some of → value_of heap of.number ≡ Some value → IsFront (texts_in heap slots (take place arguments)) place line
    → IsTextOf (text_of (object_value value)) (with_space place line) new → IsFront (texts_in heap slots (take (place + 1) arguments)) (place + 1) new
next_text heap slots arguments place line new d of value less e v f t =
    let a = get_or arguments place d in
    let more : take (place + 1) arguments ≡ take place arguments ++ a ∷ [] = take_more arguments place d less in
    subst (λ texts. IsFront texts (place + 1) new)
    (ap (and_text (texts_in heap slots (take place arguments))) (sym (text_known heap slots a of value e v)) ∙ sym (texts_joined heap slots (take place arguments) a) ∙ sym (ap (texts_in heap slots) more))
    (front_with (texts_in heap slots (take place arguments)) place line new (text_of (object_value value)) f t)

-- ---- the end, and a register without an object

ends_with : (texts : Option (List (List ℕ))) (place : ℕ) (line new : List ℕ) → IsFront texts place line → new ≡ line ++ codes "\n" → IsLineOf texts (Some new)
ends_with None place line new f e = tt
ends_with (Some texts) place line new f e = ap (λ l. Some l) e ∙ ap (λ l. Some (l ++ codes "\n")) f.1

pub line_ends : (heap : Heap) (slots : List Slot) (arguments : List Register) (place : ℕ) (line new : List ℕ) → length arguments ≤ place → IsFront (texts_in heap slots (take place arguments)) place line
    → new ≡ line ++ codes "\n" → IsLineOf (texts_in heap slots arguments) (Some new)
line_ends heap slots arguments place line new all f e =
    subst (λ front. IsLineOf (texts_in heap slots front) (Some new)) (take_all place arguments all) (ends_with (texts_in heap slots (take place arguments)) place line new f e)

pub line_missing : (heap : Heap) (slots : List Slot) (arguments : List Register) (place : ℕ) (d : Register) → place < length arguments → object_in (get_or slots (get_or arguments place d).number Empty) ≡ None
    → IsLineOf (texts_in heap slots arguments) None
line_missing heap slots arguments place d less e = subst (λ texts. IsLineOf texts None) (sym (none_there arguments place less e)) tt
  where
    none_there : (rest : List Register) (n : ℕ) → n < length rest → object_in (get_or slots (get_or rest n d).number Empty) ≡ None → texts_in heap slots rest ≡ None
    none_there [] n less e = absurd (omega (arith, less))
    none_there (b ∷ rest) zero less e = ap (λ o. listed_text (text_there heap o) (texts_in heap slots rest)) e
    none_there (b ∷ rest) (suc n) less e = ap (listed_text (text_at heap slots b)) (none_there rest n (omega (arith, less)) e) ∙ listed_missing (text_at heap slots b)

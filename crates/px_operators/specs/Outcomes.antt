-- What a part of a module comes to: its typed tree, or the first refusal of its parts.
use Rattle.std.specs.Prelude.{◌≡◌, if◌then◌else◌, List, [], ◌∷◌, ◌++◌, Result, Ok, Err}
use Rattle.px_base.specs.declared.refusals.Span.{Span}
use Rattle.px_base.specs.declared.refusals.Refusal.{Refusal}
use Rattle.px_base.specs.declared.refusals.Trouble.{Trouble}
use Rattle.px_base.specs.declared.refusals.Trouble.TheVariants.{Refused, NoMemory}
use Rattle.px_base.specs.Findings.{comes_first}

abbrev pub Outcome : Type 0 → Type 0
Outcome A = Result A Refusal

-- types don't fit

abbrev pub misfit : Span → Refusal
misfit at = record { number = 12; line = at.line; column = at.column }

abbrev pub refused : {A : Type 0} → Span → Outcome A
refused at = Err (misfit at)

-- a form whose types aren't built

abbrev pub missing : Span → Refusal
missing at = record { number = 27; line = at.line; column = at.column }

abbrev pub unbuilt : {A : Type 0} → Span → Outcome A
unbuilt at = Err (missing at)

-- what is broken breaks no further rule of what holds it, where that hangs on its type
abbrev pub followed : {A B : Type 0} → Outcome A → (A → Outcome B) → Outcome B
followed (Ok a) next = next a
followed (Err refusal) next = Err refusal

abbrev pub mapped : {A B : Type 0} → (A → B) → Outcome A → Outcome B
mapped f (Ok a) = Ok (f a)
mapped f (Err refusal) = Err refusal

-- of two refusals the one that comes first
abbrev pub earlier : Refusal → Refusal → Refusal
earlier a b = if comes_first a b then a else b

-- two parts
abbrev pub both : {A B : Type 0} → Outcome A → Outcome B → Outcome (A × B)
both (Ok a) (Ok b) = Ok (a, b)
both (Ok a) (Err refusal) = Err refusal
both (Err refusal) (Ok b) = Err refusal
both (Err refusal) (Err other) = Err (earlier refusal other)

-- any number of parts
abbrev pub all_of : {A : Type 0} → List (Outcome A) → Outcome (List A)
all_of [] = Ok []
all_of (outcome ∷ outcomes) = mapped (λ parts. parts.0 ∷ parts.1) (both outcome (all_of outcomes))

-- the one thing that there is; what lacks it, or has more, is none of the language
abbrev pub single : {A : Type 0} → Span → List A → Outcome A
single at [] = unbuilt at
single at (one ∷ []) = Ok one
single at (one ∷ next ∷ others) = unbuilt at

-- the one part that there is
abbrev pub only : {A : Type 0} → Span → List (Outcome A) → Outcome A
only at [] = unbuilt at
only at (outcome ∷ []) = outcome
only at (outcome ∷ next ∷ outcomes) = unbuilt at

-- what is refused whatever its part comes to
abbrev pub refused_with : {A B : Type 0} → Span → Outcome A → Outcome B
refused_with at (Ok value) = refused at
refused_with at (Err refusal) = Err (earlier refusal (misfit at))

abbrev pub flat : {A : Type 0} → List (List A) → List A
flat [] = []
flat (xs ∷ xss) = xs ++ flat xss

-- what a function of the phase answers, where contracts see its value by this view; want of memory is free
abbrev pub Gives : {A B : Type 0} → (A → B) → Result A Trouble → Outcome B → Type 0
Gives view (Ok a) outcome = outcome ≡ Ok (view a)
Gives view (Err (Refused refusal)) outcome = outcome ≡ Err refusal
Gives view (Err NoMemory) outcome = Unit {0}

use Rattle.std.specs.Prelude.{Result, Ok, Err}
use Rattle.px_base.specs.declared.refusals.Refusal.{Refusal}
use Rattle.px_base.specs.declared.refusals.Trouble.{Trouble}
use Rattle.px_base.specs.declared.refusals.Trouble.TheVariants.{Refused, NoMemory}

-- the fact holds of the refusal, where there is one; want of memory is free
abbrev pub IfRefused : {T : Type 0} → Result T Trouble → (Refusal → Type 0) → Type 0
IfRefused (Ok value) P = Unit {0}
IfRefused (Err (Refused refusal)) P = P refusal
IfRefused (Err NoMemory) P = Unit {0}

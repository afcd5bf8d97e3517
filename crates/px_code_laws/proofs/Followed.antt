-- What goes on behind a run, and the code that goes on with it.
use Rattle.px_base.specs.declared.faults.Fault.{Fault}
use Rattle.px_regcode.specs.Images.{ImageParts}
use Rattle.px_meaning.specs.States.{State}
use Rattle.px_meaning.specs.Interactions.{Interaction, done, ◌>>=◌}
use Rattle.px_meaning.specs.Ends.{Ends, gives, raised, spent, meaningless, on_value}
use Rattle.px_machine.specs.Steps.{Step}
use Rattle.px_machine.specs.Follows.{Follows, arrives, goes, by_load, by_put, by_fill, by_copy, by_make, by_release, by_enter, by_leave}

pub followed_by : {A B : Type 0} {image : ImageParts} {P : A → Step → Type 0} {Q : B → Step → Type 0} {s : Step} {t : Interaction A} (go : A → Interaction B)
    → Follows image P s t → ((a : A) (s : Step) → P a s → Follows image Q s (go a)) → Follows image Q s (t >>= go)
followed_by go (arrives {s} {a} p) more = more a s p
followed_by go (goes f) more = goes (followed_by go f more)
followed_by go (by_load f) more = by_load (λ word. followed_by go (f word) more)
followed_by go (by_put f) more = by_put (followed_by go f more)
followed_by go (by_fill f) more = by_fill (followed_by go f more)
followed_by go (by_copy f) more = by_copy (followed_by go f more)
followed_by go (by_make f) more = by_make (followed_by go f more)
followed_by go (by_release f) more = by_release (followed_by go f more)
followed_by go (by_enter f) more = by_enter (λ store. followed_by go (f store) more)
followed_by go (by_leave f) more = by_leave (followed_by go f more)

-- A value as P says, a fault as R and spent turns as U; where the source has no meaning, nothing is said.
abbrev pub Ending : {A : Type 0} → (A → State → Step → Type 0) → (Fault → State → Step → Type 0) → (State → Step → Type 0) → Ends A → Step → Type 0
Ending P R U (gives a s) step = P a s step
Ending P R U (raised f s) step = R f s step
Ending P R U (spent s) step = U s step
Ending P R U meaningless step = Unit {0}

ended_by : {A B : Type 0} {image : ImageParts} {P : A → State → Step → Type 0} {Q : B → State → Step → Type 0} {R : Fault → State → Step → Type 0} {U : State → Step → Type 0}
    (go : A → State → Interaction (Ends B)) (e : Ends A) (s : Step) → Ending P R U e s → ((a : A) (t : State) (s : Step) → P a t s → Follows image (Ending Q R U) s (go a t))
    → Follows image (Ending Q R U) s (on_value go e)
ended_by go (gives a t) s p more = more a t s p
ended_by go (raised f t) s p more = arrives p
ended_by go (spent t) s p more = arrives p
ended_by go meaningless s p more = arrives tt

-- what goes on with a value
pub value_by : {A B : Type 0} {image : ImageParts} {P : A → State → Step → Type 0} {Q : B → State → Step → Type 0} {R : Fault → State → Step → Type 0} {U : State → Step → Type 0}
    {s : Step} {t : Interaction (Ends A)} (go : A → State → Interaction (Ends B)) → Follows image (Ending P R U) s t
    → ((a : A) (u : State) (s : Step) → P a u s → Follows image (Ending Q R U) s (go a u)) → Follows image (Ending Q R U) s (t >>= on_value go)
value_by go f more = followed_by (on_value go) f (λ e s p. ended_by go e s p more)

weaker_end : {A : Type 0} {P Q : A → State → Step → Type 0} (R : Fault → State → Step → Type 0) (U : State → Step → Type 0) (e : Ends A) (s : Step)
    → ((a : A) (t : State) (s : Step) → P a t s → Q a t s) → Ending P R U e s → Ending Q R U e s
weaker_end R U (gives a t) s f p = f a t s p
weaker_end R U (raised x t) s f p = p
weaker_end R U (spent t) s f p = p
weaker_end R U meaningless s f p = tt

-- what is said of values may be said less exactly
pub weaker : {A : Type 0} {image : ImageParts} {P Q : A → State → Step → Type 0} {R : Fault → State → Step → Type 0} {U : State → Step → Type 0} {s : Step} {t : Interaction (Ends A)}
    → ((a : A) (t : State) (s : Step) → P a t s → Q a t s) → Follows image (Ending P R U) s t → Follows image (Ending Q R U) s t
weaker {R = R} {U = U} f (arrives {s} {a} p) = arrives (weaker_end R U a s f p)
weaker f (goes p) = goes (weaker f p)
weaker f (by_load p) = by_load (λ word. weaker f (p word))
weaker f (by_put p) = by_put (weaker f p)
weaker f (by_fill p) = by_fill (weaker f p)
weaker f (by_copy p) = by_copy (weaker f p)
weaker f (by_make p) = by_make (weaker f p)
weaker f (by_release p) = by_release (weaker f p)
weaker f (by_enter p) = by_enter (λ store. weaker f (p store))
weaker f (by_leave p) = by_leave (weaker f p)

steps_end : {A : Type 0} {image : ImageParts} {P Q : A → State → Step → Type 0} (R : Fault → State → Step → Type 0) (U : State → Step → Type 0) (e : Ends A) (s : Step) → Ending P R U e s
    → ((a : A) (t : State) (s : Step) → P a t s → Follows image (Ending Q R U) s (done (gives a t))) → Follows image (Ending Q R U) s (done e)
steps_end R U (gives a t) s p after = after a t s p
steps_end R U (raised x t) s p after = arrives p
steps_end R U (spent t) s p after = arrives p
steps_end R U meaningless s p after = arrives tt

-- the code goes on behind a value, where the source doesn't
pub then_steps : {A : Type 0} {image : ImageParts} {P Q : A → State → Step → Type 0} {R : Fault → State → Step → Type 0} {U : State → Step → Type 0} {s : Step} {t : Interaction (Ends A)}
    → Follows image (Ending P R U) s t → ((a : A) (t : State) (s : Step) → P a t s → Follows image (Ending Q R U) s (done (gives a t))) → Follows image (Ending Q R U) s t
then_steps {R = R} {U = U} (arrives {s} {a} p) after = steps_end R U a s p after
then_steps (goes p) after = goes (then_steps p after)
then_steps (by_load p) after = by_load (λ word. then_steps (p word) after)
then_steps (by_put p) after = by_put (then_steps p after)
then_steps (by_fill p) after = by_fill (then_steps p after)
then_steps (by_copy p) after = by_copy (then_steps p after)
then_steps (by_make p) after = by_make (then_steps p after)
then_steps (by_release p) after = by_release (then_steps p after)
then_steps (by_enter p) after = by_enter (λ store. then_steps (p store) after)
then_steps (by_leave p) after = by_leave (then_steps p after)

pub as_said : {A : Type 0} {image : ImageParts} {P Q : A → Step → Type 0} {s : Step} {t : Interaction A} → ((a : A) (s : Step) → P a s → Q a s) → Follows image P s t → Follows image Q s t
as_said f (arrives {s} {a} p) = arrives (f a s p)
as_said f (goes p) = goes (as_said f p)
as_said f (by_load p) = by_load (λ word. as_said f (p word))
as_said f (by_put p) = by_put (as_said f p)
as_said f (by_fill p) = by_fill (as_said f p)
as_said f (by_copy p) = by_copy (as_said f p)
as_said f (by_make p) = by_make (as_said f p)
as_said f (by_release p) = by_release (as_said f p)
as_said f (by_enter p) = by_enter (λ store. as_said f (p store))
as_said f (by_leave p) = by_leave (as_said f p)

-- each end may be said less exactly
pub ends_as : {A : Type 0} {P Q : A → State → Step → Type 0} {R T : Fault → State → Step → Type 0} {U V : State → Step → Type 0}
    → ((a : A) (t : State) (s : Step) → P a t s → Q a t s) → ((f : Fault) (t : State) (s : Step) → R f t s → T f t s) → ((t : State) (s : Step) → U t s → V t s)
    → (e : Ends A) (s : Step) → Ending P R U e s → Ending Q T V e s
ends_as p r u (gives a t) s x = p a t s x
ends_as p r u (raised f t) s x = r f t s x
ends_as p r u (spent t) s x = u t s x
ends_as p r u meaningless s x = tt

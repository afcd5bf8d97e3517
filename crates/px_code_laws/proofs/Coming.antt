-- Runs that come to an end, whatever is answered, and what goes on behind them.
use Rattle.std.proofs.Common.{◌≡◌, ℕ, zero, suc, List, [], ◌∷◌, refl}
use Rattle.px_base.specs.declared.c_types.CType.{CType}
use Rattle.px_model.specs.declared.cells.Cell.{Cell}
use Rattle.px_model.specs.declared.stores.Store.{Store}
use Rattle.px_meaning.specs.States.{State, buffers_of_frame}
use Rattle.px_meaning.specs.Interactions.{Interaction, done, load, put, fill, copy, make, released, enter, leave, ◌>>=◌}
use Rattle.px_meaning.specs.Ends.{Ends, gives, raised, spent, meaningless, on_value, release_unless, letting_go, frame_end}
use Rattle.px_meaning.specs.Worlds.{World, with_writes, with_release, with_stored, fill_writes, copy_writes}
use Rattle.px_meaning.specs.OneWorld.{Together, together}
use Rattle.px_meaning.specs.OneWorld as world
use Rattle.px_machine.specs.Means.{HasStore}

-- a run comes to an end of which this holds, and to no parallel loop
pub data Comes {A : Type 0} (Q : A → Type 0) : Interaction A → Type 0 where
  ends : {a : A} → Q a → Comes Q (done a)
  loads : {cell : Cell} {k : ℕ → Interaction A} → ((word : ℕ) → Comes Q (k word)) → Comes Q (load cell k)
  puts : {cell : Cell} {word : ℕ} {t : Interaction A} → Comes Q t → Comes Q (put cell word t)
  fills : {cells : List Cell} {word : ℕ} {t : Interaction A} → Comes Q t → Comes Q (fill cells word t)
  copies : {pairs : List (Cell × Cell)} {from to : CType} {t : Interaction A} → Comes Q t → Comes Q (copy pairs from to t)
  makes : {buffer size : ℕ} {t : Interaction A} → Comes Q t → Comes Q (make buffer size t)
  releases : {buffer : ℕ} {t : Interaction A} → Comes Q t → Comes Q (released buffer t)
  enters : {k : Store → Interaction A} → ((store : Store) → Comes Q (k store)) → Comes Q (enter k)
  leaves : {store : Store} {t : Interaction A} → Comes Q t → Comes Q (leave store t)

pub behind : {A B : Type 0} {Q : A → Type 0} {R : B → Type 0} {t : Interaction A} (go : A → Interaction B)
    → Comes Q t → ((a : A) → Q a → Comes R (go a)) → Comes R (t >>= go)
behind go (ends {a} q) more = more a q
behind go (loads f) more = loads (λ word. behind go (f word) more)
behind go (puts f) more = puts (behind go f more)
behind go (fills f) more = fills (behind go f more)
behind go (copies f) more = copies (behind go f more)
behind go (makes f) more = makes (behind go f more)
behind go (releases f) more = releases (behind go f more)
behind go (enters f) more = enters (λ store. behind go (f store) more)
behind go (leaves f) more = leaves (behind go f more)

-- where such a run ends on one world
pub record EndsTogether {A : Type 0} (Q : A → Type 0) (t : Interaction A) (w : World) : Type 0 where
  pub a : A
  pub behind : World
  pub is : together t w ≡ world.ended a behind
  pub holds : Q a

pub ends_together : {A : Type 0} {Q : A → Type 0} {t : Interaction A} → Comes Q t → (w : World) → EndsTogether Q t w
ends_together (ends {a} q) w = record { a = a; behind = w; is = refl; holds = q }
ends_together (loads {cell} f) w =
    let x = ends_together (f (w.words cell)) w in record { a = x.a; behind = x.behind; is = x.is; holds = x.holds }
ends_together (puts {cell} {word} f) w =
    let x = ends_together f (with_writes ((cell, word) ∷ []) w) in record { a = x.a; behind = x.behind; is = x.is; holds = x.holds }
ends_together (fills {cells} {word} f) w =
    let x = ends_together f (with_writes (fill_writes cells word) w) in record { a = x.a; behind = x.behind; is = x.is; holds = x.holds }
ends_together (copies {pairs} {from} {to} f) w =
    let x = ends_together f (with_writes (copy_writes pairs from to w.words) w) in
    record { a = x.a; behind = x.behind; is = x.is; holds = x.holds }
ends_together (makes f) w = let x = ends_together f w in record { a = x.a; behind = x.behind; is = x.is; holds = x.holds }
ends_together (releases {buffer} f) w =
    let x = ends_together f (with_release buffer w) in record { a = x.a; behind = x.behind; is = x.is; holds = x.holds }
ends_together (enters f) w = let x = ends_together (f w.store) w in record { a = x.a; behind = x.behind; is = x.is; holds = x.holds }
ends_together (leaves {store} f) w =
    let x = ends_together f (with_stored store w) in record { a = x.a; behind = x.behind; is = x.is; holds = x.holds }

-- A value for which this holds, a fault with the lock held, or spent turns; a form that has no meaning is none of these.
abbrev pub Well : {A : Type 0} → (A → State → Type 0) → Ends A → Type 0
Well P (gives a s) = P a s
Well P (raised f s) = HasStore s.store
Well P (spent s) = Unit {0}
Well P meaningless = ⊥

value_end : {A B : Type 0} {P : A → State → Type 0} {R : B → State → Type 0} (go : A → State → Interaction (Ends B)) (e : Ends A) → Well P e
    → ((a : A) (s : State) → P a s → Comes (Well R) (go a s)) → Comes (Well R) (on_value go e)
value_end go (gives a s) p more = more a s p
value_end go (raised f s) p more = ends p
value_end go (spent s) p more = ends p
value_end go meaningless p more = absurd p

-- what goes on with a value
pub with_value : {A B : Type 0} {P : A → State → Type 0} {R : B → State → Type 0} {t : Interaction (Ends A)} (go : A → State → Interaction (Ends B))
    → Comes (Well P) t → ((a : A) (s : State) → P a s → Comes (Well R) (go a s)) → Comes (Well R) (t >>= on_value go)
with_value go f more = behind (on_value go) f (λ e p. value_end go e p more)

-- ---- the end of a frame

releases_unless : {A : Type 0} {Q : A → Type 0} {t : Interaction A} (holders buffer : ℕ) → Comes Q t → Comes Q (release_unless holders buffer t)
releases_unless zero buffer f = releases f
releases_unless (suc holders) buffer f = f

lets_go : {A : Type 0} {Q : A → Type 0} {t : Interaction A} (going : List ℕ) (others : ℕ → ℕ) → Comes Q t → Comes Q (letting_go going others t)
lets_go [] others f = f
lets_go (buffer ∷ going) others f = releases_unless _ buffer (lets_go going others f)

pub frame_ends : {A : Type 0} {P : A → State → Type 0} {R : A → State → Type 0} (held : A → List ℕ) (back : State → State) (e : Ends A) → Well P e
    → ((a : A) (s : State) → P a s → R a (back s)) → ((s : State) → HasStore s.store → HasStore (back s).store)
    → Comes (Well R) (frame_end held back e)
frame_ends held back (gives a s) p value fault = lets_go (buffers_of_frame s.frame) _ (ends (value a s p))
frame_ends held back (raised f s) p value fault = lets_go (buffers_of_frame s.frame) _ (ends (fault s p))
frame_ends held back (spent s) p value fault = ends tt
frame_ends held back meaningless p value fault = absurd p

-- How the reading of a part tells of the whole: where a part is refused, the whole is.
use Rattle.std.proofs.Common.{◌≡◌, ℕ, zero, suc, ◌≤◌, ◌<◌, max, List, [], ◌∷◌, ◌++◌, Some, None, ◌⊎◌, inl, inr, length, take, refl, sym, subst, arith}
use Rattle.std.proofs.lemmas.List.{length-take-le}
use Rattle.px_exprs.specs.declared.readings.Unread.{Unread}
use Rattle.px_exprs.specs.declared.readings.Unread.TheVariants as unread
use Rattle.px_lexer.specs.declared.spelling.Keyword.TheVariants as word
use Rattle.px_lexer.specs.Terminals.{Terminal, IsKeyword}
use Rattle.px_exprs.specs.Readings.{Stops, Agree}
use Rattle.px_exprs.specs.Runs.{nesting_limit}
use Rattle.px_exprs.proofs.Agreement.{agree_same, agree_back, agree_through, agree_carried, agree_front}
use Rattle.px_parser.specs.Shapes.{Mode, Shape, Then, Either, Many, Of}
use Rattle.px_parser.specs.Parsing.{strict, unseen_from, looks_before}
use Rattle.px_parser.specs.Readings.{HasWay, HasBlocks, HasShallow, IsShallow, IsReached, IsArrived, IsStuck, IsOver, IsUnread, Anywhere}
use Rattle.px_parser.proofs.Shapely.{Sound, AtLeast, IsRising, Opens, IsFresh, opens_longer, sound_many, rises_many}
use Rattle.px_parser.proofs.Onlies.{Leads, Clash, Sees, Only, leads_many, leads_wider}

-- Modes

nothing_hidden : (from : ℕ) → None ≡ Some from → ⊥
nothing_hidden from e = cc

pub strict_rises : (limit more : ℕ) → limit ≤ more → AtLeast (strict limit) (strict more)
strict_rises limit more le = record { limits = le; unseen = λ from e. absurd (nothing_hidden from e) }

pub sees_strict : (limit l : ℕ) → Sees (strict limit) l
sees_strict limit l from e = absurd (nothing_hidden from e)

pub sees_unseen : (limit k l : ℕ) → l < k → Sees (unseen_from limit k) l
sees_unseen limit k l lt from e = let same : k ≡ from = cc in omega (arith, same, lt)

pub opens_unseen : (limit k : ℕ) (us : List Terminal) (n : ℕ) → k ≤ length us → Opens (unseen_from limit k) us n
opens_unseen limit k us n le = Opens.hidden k refl le

pub unseen_rises : (limit other k i : ℕ) → limit ≤ other → k ≤ i → AtLeast (unseen_from limit i) (unseen_from other k)
unseen_rises limit other k i more le = record { limits = more; unseen = λ from e. record { first = k; hidden = refl; earlier = (let same : i ≡ from = cc in omega (arith, same, le)) } }

pub strict_unseen : (limit other k : ℕ) → limit ≤ other → AtLeast (strict limit) (unseen_from other k)
strict_unseen limit other k le = record { limits = le; unseen = λ from e. absurd (nothing_hidden from e) }

-- Parts

-- tokens that go on with these and make the form, from an index to their end
pub record Made {B : Type 0} (Y : Shape B) (mode : Mode) (us : List Terminal) (i n : ℕ) : Type 0 where
  pub tokens : List Terminal
  pub same : Agree (length us) tokens us
  pub long : length us ≤ length tokens
  pub tree : B
  pub derived : Y mode tokens i tree n (length tokens)

-- a part of a form that ends where it may end
pub record Part {A : Type 0} (X : Shape A) (S : Stops) (mode : Mode) (us : List Terminal) (l n : ℕ) : Type 0 where
  pub tree : A
  pub end : ℕ
  pub derived : X mode us l tree n end
  pub stops : S us end

-- the form X from l on is a part of the form Y from i on, where the tokens before l are known: X can be completed to Y, and each Y
-- has an X there
pub record Step {A B : Type 0} (X : Shape A) (S : Stops) (Y : Shape B) (R : Stops) (ts : List Terminal) (i l room : ℕ) : Type 0 where
  pub forward : i ≤ l
  pub rising : IsRising X
  pub make : (mode : Mode) (us : List Terminal) (n : ℕ) (e : A) → Agree l us ts → l ≤ length us → AtLeast (strict nesting_limit) mode → room ≤ n → Opens mode us n → X mode us l e n (length us) → Made Y mode us i n
  pub split : (mode : Mode) (us : List Terminal) (n : ℕ) (f : B) (j : ℕ) → Agree (suc l) us ts → Sees mode l → Y mode us i f n j → R us j → Part X S mode us l n

pub way_made : {A B : Type 0} {X : Shape A} {S : Stops} {Y : Shape B} {R : Stops} {ts : List Terminal} {i l room k : ℕ} → Step X S Y R ts i l room → l ≤ k → HasWay X ts l k → HasWay Y ts i k
way_made {room = room} step le way =
    let limit = max nesting_limit way.limit in
    let blocks = suc (max room way.blocks) in
    let more = (step.rising (strict way.limit) (strict limit) way.blocks blocks (strict_rises way.limit limit (omega arith)) (omega arith)).rise way.derived in
    let made = step.make (strict limit) way.tokens blocks way.tree (agree_carried _ _ way.same le) (omega (arith, le, way.long)) (strict_rises nesting_limit limit (omega arith)) (omega arith) (Opens.blocks (omega arith)) more in
    record {
      tokens = made.tokens;
      same = agree_through _ _ _ (agree_carried _ _ made.same way.long) way.same;
      long = omega (arith, made.long, way.long);
      tree = made.tree;
      limit = limit;
      blocks = blocks;
      derived = made.derived;
    }

pub blocks_made : {A B : Type 0} {X : Shape A} {S : Stops} {Y : Shape B} {R : Stops} {ts : List Terminal} {i l limit room k : ℕ} → Step X S Y R ts i l room → nesting_limit ≤ limit → l ≤ k → HasBlocks X limit ts l k room → HasBlocks Y limit ts i k room
blocks_made {limit = limit} {room = room} {k = k} step most le way =
    let made = step.make (unseen_from limit k) way.tokens room way.tree (agree_carried _ _ way.same le) (omega (arith, le, way.long)) (strict_unseen nesting_limit limit k most) (omega arith) (opens_unseen limit k way.tokens room way.long)
    way.derived in
    record {
      tokens = made.tokens;
      same = agree_through _ _ _ (agree_carried _ _ made.same way.long) way.same;
      long = omega (arith, made.long, way.long);
      tree = made.tree;
      derived = made.derived;
    }

-- with more nesting
pub blocks_raised : {A : Type 0} {X : Shape A} {ts : List Terminal} {i limit room k : ℕ} (other : ℕ) → IsRising X → limit ≤ other → HasBlocks X limit ts i k room → HasBlocks X other ts i k room
blocks_raised {limit = limit} {room = room} {k = k} other rising le way = record {
  tokens = way.tokens;
  same = way.same;
  long = way.long;
  tree = way.tree;
  derived = (rising (unseen_from limit k) (unseen_from other k) room room (unseen_rises limit other k k le (omega arith)) (omega arith)).rise way.derived;
}

shown_made : {A B : Type 0} {X : Shape A} {S : Stops} {Y : Shape B} {R : Stops} {ts : List Terminal} {i l room k : ℕ} → Step X S Y R ts i l room → l ≤ k → IsShallow X ts l k room → IsShallow Y ts i k room
shown_made step le (IsShallow.shallow h) = IsShallow.shallow (blocks_made step (omega arith) le h)
shown_made step le (IsShallow.behind_sizeof m limit e from keyword before loose) =
    let most = max nesting_limit limit in
    IsShallow.behind_sizeof m most e (omega (arith, step.forward, from)) keyword (blocks_made step (omega arith) from before) (blocks_made step (omega arith) le (blocks_raised most step.rising (omega arith) loose))

pub reached_made : {A B : Type 0} {X : Shape A} {S : Stops} {Y : Shape B} {R : Stops} {ts : List Terminal} {i l room k : ℕ} → Step X S Y R ts i l room → l ≤ k → IsReached X ts l k room → IsReached Y ts i k room
reached_made step le h = record { way = way_made step le h.way; shallow = shown_made step le h.shallow }

pub arrived_made : {A B : Type 0} {X : Shape A} {S : Stops} {Y : Shape B} {R : Stops} {ts : List Terminal} {i l room k : ℕ} → Step X S Y R ts i l room → l ≤ k → IsArrived X ts l k room → IsArrived Y ts i k room
arrived_made step le (IsArrived.reached h) = IsArrived.reached (reached_made step le h)
arrived_made step le (IsArrived.behind_line m from together way before) = IsArrived.behind_line m (omega (arith, step.forward, from)) together (way_made step le way) (blocks_made step (omega arith) from before)

pub arrived_way : {A : Type 0} {X : Shape A} {ts : List Terminal} {i k room : ℕ} → IsArrived X ts i k room → HasWay X ts i k
arrived_way (IsArrived.reached h) = h.way
arrived_way (IsArrived.behind_line n forward together way h) = way

-- where a part isn't read, the whole isn't, for the same reason at the same token
pub fails : {A B : Type 0} {X : Shape A} {S : Stops} {Y : Shape B} {R : Stops} {ts : List Terminal} {i l room : ℕ} → Step X S Y R ts i l room → (u : Unread) → IsUnread X S ts l room u → IsUnread Y R ts i room u
fails step (unread.Stuck k) stuck = record {
  forward = omega (arith, step.forward, stuck.forward);
  within = stuck.within;
  reached = arrived_made step stuck.forward stuck.reached;
  none = λ us agree limit tree blocks j whole stop.
      let part = step.split (strict limit) us blocks tree j (agree_carried _ _ agree (omega (arith, stuck.forward))) (sees_strict limit _) whole stop in
      stuck.none us agree limit part.tree blocks part.end part.derived part.stops;
}
fails {room = room} step (unread.TooDeep k) over = record {
  forward = omega (arith, step.forward, over.forward);
  within = over.within;
  reached = reached_made step over.forward over.reached;
  way = way_made step (omega (arith, over.forward)) over.way;
  deep = λ us agree tree j whole stop.
      let part = step.split (looks_before (suc k)) us room tree j (agree_carried _ _ agree (omega (arith, over.forward))) (sees_unseen nesting_limit (suc k) _ (omega (arith, over.forward))) whole stop in
      over.deep us agree part.tree part.end part.derived part.stops;
  counted = λ keyword us agree limit tree j whole stop.
      let part = step.split (unseen_from limit (suc k)) us room tree j (agree_carried _ _ agree (omega (arith, over.forward))) (sees_unseen limit (suc k) _ (omega (arith, over.forward))) whole stop in
      over.counted keyword us agree limit part.tree part.end part.derived part.stops;
  apart = λ together. way_made step (omega (arith, over.forward)) (over.apart together);
}
fails step unread.NoMemory h = tt

-- Two forms

pub step_first : {A B : Type 0} {X : Shape A} {Y : A → Shape B} {S : Stops} {R : Stops} (ts : List Terminal) (i room : ℕ) → Sound X → IsRising X → ((a : A) → IsFresh (Y a)) → ((a : A) → Leads (Y a) R S) → Step X S (Then X Y) R ts i i room
step_first ts i room sound rising fresh leads = record {
  forward = omega arith;
  rising = rising;
  make = λ mode us n e agree long least le opens x.
      let more = fresh e mode us n opens in
      record { tokens = more.tokens; same = more.same; long = more.long; tree = (e, more.tree); derived = record { middle = length us; first = sound.carried x more.same; second = more.derived } };
  split = λ mode us n f j agree sees y stop. record { tree = f.0; end = y.middle; derived = y.first; stops = (leads f.0).leads y.second stop };
}

pub step_second : {A B : Type 0} {X : Shape A} {Y : A → Shape B} {M : Stops} {R : Stops} (ts : List Terminal) (i l room : ℕ) (a : A) → Sound X → IsRising X → Only X M → ((b : A) → Leads (Y b) R M) → IsRising (Y a)
    → X (strict nesting_limit) ts i a room l → M ts l → Step (Y a) R (Then X Y) R ts i l room
step_second {X = X} {Y = Y} ts i l room a sound rising only leads behind x stop = record {
  forward = sound.forward x;
  rising = behind;
  make = λ mode us n e agree long least le opens y. record {
    tokens = us;
    same = agree_same us;
    long = omega arith;
    tree = (a, e);
    derived = record { middle = l; first = sound.carried ((rising (strict nesting_limit) mode room n least le).rise x) agree; second = y };
  };
  split = λ mode us n f j agree sees y ends.
      let same = only.one x stop y.first ((leads f.0).leads y.second ends) agree (sees_strict nesting_limit l) sees in
      let moved : Y a mode us l f.1 n j = subst (λ k. Y a mode us k f.1 n j) (sym same.1) (subst (λ b. Y b mode us y.middle f.1 n j) (sym same.0) y.second) in
      record { tree = f.1; end = j; derived = moved; stops = ends };
}

-- Other trees

pub step_of : {A B : Type 0} {X : Shape A} (f : A → B) (S : Stops) (ts : List Terminal) (i room : ℕ) → IsRising X → Step X S (Of f X) S ts i i room
step_of f S ts i room rising = record {
  forward = omega arith;
  rising = rising;
  make = λ mode us n e agree long least le opens x. record { tokens = us; same = agree_same us; long = omega arith; tree = f e; derived = record { inner = e; read = x; tree = refl } };
  split = λ mode us n t j agree sees y stop. record { tree = y.inner; end = j; derived = y.read; stops = stop };
}

-- One of two forms

-- the form doesn't begin with the token at this index
abbrev pub Never : {A : Type 0} → Shape A → Stops → List Terminal → ℕ → Type 0
Never {A} X S ts i = (us : List Terminal) → Agree (suc i) us ts → (mode : Mode) (t : A) (n j : ℕ) → X mode us i t n j → S us j → ⊥

pub never_by : {A : Type 0} {X : Shape A} {S T R : Stops} (ts : List Terminal) (i : ℕ) → Leads X S T → Clash T R → R ts i → Never X S ts i
never_by ts i leads clash r us agree mode t n j x s = clash us ts i (agree_back us ts agree) (leads.leads x s) r

pub step_left : {A : Type 0} {X Y : Shape A} {S : Stops} (ts : List Terminal) (i room : ℕ) → IsRising X → Never Y S ts i → Step X S (Either X Y) S ts i i room
step_left ts i room rising never = record {
  forward = omega arith;
  rising = rising;
  make = λ mode us n e agree long least le opens x. record { tokens = us; same = agree_same us; long = omega arith; tree = e; derived = Either.left x };
  split = λ mode us n t j agree sees y stop. elim (y) [
    | Either.left g ↦ record { tree = t; end = j; derived = g; stops = stop }
    | Either.right g ↦ absurd (never us agree mode t n j g stop)
  ];
}

pub step_right : {A : Type 0} {X Y : Shape A} {S : Stops} (ts : List Terminal) (i room : ℕ) → IsRising Y → Never X S ts i → Step Y S (Either X Y) S ts i i room
step_right ts i room rising never = record {
  forward = omega arith;
  rising = rising;
  make = λ mode us n e agree long least le opens x. record { tokens = us; same = agree_same us; long = omega arith; tree = e; derived = Either.right x };
  split = λ mode us n t j agree sees y stop. elim (y) [
    | Either.left g ↦ absurd (never us agree mode t n j g stop)
    | Either.right g ↦ record { tree = t; end = j; derived = g; stops = stop }
  ];
}

-- a part of a part is a part
pub step_twice : {A B C : Type 0} {X : Shape A} {S : Stops} {Y : Shape B} {R : Stops} {Z : Shape C} {Q : Stops} {ts : List Terminal} {i m l room : ℕ} → Step X S Y R ts m l room → Step Y R Z Q ts i m room → Step X S Z Q ts i l room
step_twice near far = record {
  forward = omega (arith, near.forward, far.forward);
  rising = near.rising;
  make = λ mode us n e agree long least le opens part.
      let first = near.make mode us n e agree long least le opens part in
      let second = far.make mode first.tokens n first.tree (agree_through _ _ _ (agree_carried _ _ first.same (omega (arith, near.forward, long))) (agree_carried _ _ agree near.forward)) (omega (arith, first.long, near.forward, long)) least le
      (opens_longer us first.tokens first.long opens) first.derived in
      record {
        tokens = second.tokens;
        same = agree_through _ _ _ (agree_carried _ _ second.same first.long) first.same;
        long = omega (arith, first.long, second.long);
        tree = second.tree;
        derived = second.derived;
      };
  split = λ mode us n f j agree sees whole stop.
      let middle = far.split mode us n f j (agree_carried _ _ agree (omega (arith, near.forward))) (λ from e. omega (arith, sees from e, near.forward)) whole stop in
      near.split mode us n middle.tree middle.end agree sees middle.derived middle.stops;
}

-- Elements

-- elements that were read one behind the other, and one more
pub many_more : {A : Type 0} {X : Shape A} {mode : Mode} {ts : List Terminal} {i k n j : ℕ} {xs : List A} {t : A} → Many X mode ts i xs n k → X mode ts k t n j → Many X mode ts i (xs ++ t ∷ []) n j
many_more Many.none x = Many.more x Many.none
many_more (Many.more first rest) x = Many.more first (many_more rest x)

no_list : {A : Type 0} (t : A) (xs : List A) → t ∷ xs ≡ [] → ⊥
no_list t xs e = cc

many_split : {A : Type 0} {X : Shape A} {M S T : Stops} {ts : List Terminal} {room i l : ℕ} {xs : List A} → Sound X → Only X M → Leads X Anywhere T → Clash T S → ((us : List Terminal) (k : ℕ) → T us k → M us k)
    → ((us : List Terminal) (k : ℕ) → S us k → M us k) → ((us : List Terminal) → Agree (suc l) us ts → S us l → ⊥) → Many X (strict nesting_limit) ts i xs room l → (xs ≡ []) ⊎ M ts l → (us : List Terminal) → Agree (suc l) us ts → (mode : Mode) (n : ℕ)
    → Sees mode l → {j : ℕ} {f : List A} → Many X mode us i f n j → S us j → Part X M mode us l n
many_split sound only leads clash begins ends goes_on Many.none edge us agree mode n sees Many.none s = absurd (goes_on us agree s)
many_split {M = M} sound only leads clash begins ends goes_on Many.none edge us agree mode n sees (Many.more first rest) s =
    let next = leads_many (leads_wider leads begins) ends in
    record { tree = _; end = _; derived = first; stops = next.leads rest s }
many_split {ts = ts} sound only leads clash begins ends goes_on (Many.more g tail) edge us agree mode n sees Many.none s =
    let le = (sound_many sound).forward tail in
    absurd (clash ts us _ (agree_carried us ts agree (omega (arith, le, sound.forward g))) (leads.leads g tt) s)
many_split {X = X} {M = M} {S = S} {ts = ts} {l = l} sound only leads clash begins ends goes_on (Many.more {t = t} {others = known} g tail) edge us agree mode n sees {j} (Many.more {k = q} {others = others} first rest) s =
    let le = (sound_many sound).forward tail in
    let stop : M ts l = elim (edge) [ inl e ↦ absurd (no_list t known e) | inr m ↦ m ] in
    let here : Leads (Many X) M M = leads_many (leads_wider leads begins) (λ vs k m. m) in
    let next : Leads (Many X) S M = leads_many (leads_wider leads begins) ends in
    let one = only.one g (here.leads tail stop) first (next.leads rest s) (agree_carried us ts agree (omega (arith, le))) (sees_strict nesting_limit _) (λ from e. omega (arith, sees from e, le)) in
    let moved : Many X mode us _ others n j = subst (λ p. Many X mode us p others n j) (sym one.1) rest in
    many_split {S = S} sound only leads clash begins ends goes_on tail (inr stop) us agree mode n sees moved s

-- one more element, behind others, where the elements don't end
pub step_many : {A : Type 0} {X : Shape A} {M S T : Stops} (ts : List Terminal) (i l room : ℕ) (xs : List A) → Sound X → IsRising X → Only X M → Leads X Anywhere T → Clash T S → ((us : List Terminal) (k : ℕ) → T us k → M us k)
    → ((us : List Terminal) (k : ℕ) → S us k → M us k) → Many X (strict nesting_limit) ts i xs room l → (xs ≡ []) ⊎ M ts l → ((us : List Terminal) → Agree (suc l) us ts → S us l → ⊥) → Step X M (Many X) S ts i l room
step_many {A} {X} {M} {S} ts i l room xs sound rising only leads clash begins ends front edge goes_on = record {
  forward = (sound_many sound).forward front;
  rising = rising;
  make = λ mode us n e agree long least le opens x. record {
    tokens = us;
    same = agree_same us;
    long = omega arith;
    tree = xs ++ e ∷ [];
    derived = many_more ((sound_many sound).carried ((rises_many (rising (strict nesting_limit) mode room n least le)).rise front) agree) x;
  };
  split = λ mode us n f j agree sees whole stop. many_split {S = S} sound only leads clash begins ends goes_on front edge us agree mode n sees whole stop;
}

pub shallow_here : {A : Type 0} {X : Shape A} (ts : List Terminal) (i room : ℕ) → IsFresh X → i ≤ length ts → HasShallow X ts i i room
shallow_here {A} {X} ts i room fresh le =
    let cut : length (take i ts) ≡ i = length-take-le i ts le in
    let shallow = fresh (looks_before i) (take i ts) room (opens_unseen nesting_limit i (take i ts) room (omega (arith, cut))) in
    record {
      tokens = shallow.tokens;
      same = agree_through _ _ _ (subst (λ n. Agree n shallow.tokens (take i ts)) cut shallow.same) (agree_front i ts);
      long = omega (arith, shallow.long, cut);
      tree = shallow.tree;
      derived = subst (λ n. X (looks_before i) shallow.tokens n shallow.tree room (length shallow.tokens)) cut shallow.derived;
    }

-- nothing can be read here
pub reached_here : {A : Type 0} {X : Shape A} (ts : List Terminal) (i room : ℕ) → IsFresh X → i ≤ length ts → IsReached X ts i i room
reached_here {A} {X} ts i room fresh le =
    let cut : length (take i ts) ≡ i = length-take-le i ts le in
    let way = fresh (strict 0) (take i ts) 1 (Opens.blocks (omega arith)) in
    record {
      way = record {
        tokens = way.tokens;
        same = agree_through _ _ _ (subst (λ n. Agree n way.tokens (take i ts)) cut way.same) (agree_front i ts);
        long = omega (arith, way.long, cut);
        tree = way.tree;
        limit = 0;
        blocks = 1;
        derived = subst (λ n. X (strict 0) way.tokens n way.tree 1 (length way.tokens)) cut way.derived;
      };
      shallow = IsShallow.shallow (shallow_here ts i room fresh le);
    }

pub stuck_here : {A : Type 0} {X : Shape A} {S : Stops} (ts : List Terminal) (i room : ℕ) → IsFresh X → i < length ts → Never X S ts i → IsStuck X S ts i room i
stuck_here ts i room fresh inside never = record {
  forward = omega arith;
  within = inside;
  reached = IsArrived.reached (reached_here ts i room fresh (omega (arith, inside)));
  none = λ us agree limit tree blocks j x s. never us agree (strict limit) tree blocks j x s;
}

-- A form that was read, but can't end where it did

-- whether it holds hangs on the tokens up to this one
abbrev pub Local : Stops → Type 0
Local R = (ts us : List Terminal) (i : ℕ) → Agree (suc i) us ts → R us i → R ts i

pub reached_whole : {A : Type 0} {X : Shape A} (ts : List Terminal) (i l room : ℕ) (t : A) → Sound X → IsRising X → X (strict nesting_limit) ts i t room l → l ≤ length ts → IsReached X ts i l room
reached_whole {A} {X} ts i l room t sound rising x le =
    let cut : length (take l ts) ≡ l = length-take-le l ts le in
    let here : X (strict nesting_limit) (take l ts) i t room l = sound.carried x (agree_front l ts) in
    let before : X (looks_before l) (take l ts) i t room l = (rising (strict nesting_limit) (looks_before l) room room (strict_unseen nesting_limit nesting_limit l (omega arith)) (omega arith)).rise here in
    record {
      way = record {
        tokens = take l ts;
        same = agree_front l ts;
        long = omega (arith, cut);
        tree = t;
        limit = nesting_limit;
        blocks = room;
        derived = subst (λ n. X (strict nesting_limit) (take l ts) i t room n) (sym cut) here;
      };
      shallow = IsShallow.shallow (record {
        tokens = take l ts;
        same = agree_front l ts;
        long = omega (arith, cut);
        tree = t;
        derived = subst (λ n. X (looks_before l) (take l ts) i t room n) (sym cut) before;
      });
    }

pub stuck_behind : {A : Type 0} {X : Shape A} {S R : Stops} (ts : List Terminal) (i l room : ℕ) (t : A) → Sound X → IsRising X → Only X S → ((us : List Terminal) (k : ℕ) → R us k → S us k) → Local R → X (strict nesting_limit) ts i t room l → S ts l
    → (R ts l → ⊥) → l < length ts → IsStuck X R ts i room l
stuck_behind {R = R} ts i l room t sound rising only narrower local x s missing inside = record {
  forward = sound.forward x;
  within = inside;
  reached = IsArrived.reached (reached_whole ts i l room t sound rising x (omega (arith, inside)));
  none = λ us agree limit tree blocks j y r.
      let same = only.one x s y (narrower us j r) agree (sees_strict nesting_limit l) (sees_strict limit l) in
      missing (local ts us l agree (subst (R us) (sym same.1) r));
}

-- Two forms of the same tokens

pub record Alike {A B : Type 0} (X : Shape A) (Y : Shape B) : Type 0 where
  pub there : {mode : Mode} {ts : List Terminal} {i n j : ℕ} {t : A} → X mode ts i t n j → (u : B) × Y mode ts i u n j
  pub back : {mode : Mode} {ts : List Terminal} {i n j : ℕ} {u : B} → Y mode ts i u n j → (t : A) × X mode ts i t n j

pub step_alike : {A B : Type 0} {X : Shape A} {Y : Shape B} (S : Stops) (ts : List Terminal) (i room : ℕ) → IsRising X → Alike X Y → Step X S Y S ts i i room
step_alike S ts i room rising alike = record {
  forward = omega arith;
  rising = rising;
  make = λ mode us n e agree long least le opens x.
      let y = alike.there x in
      record { tokens = us; same = agree_same us; long = omega arith; tree = y.0; derived = y.1 };
  split = λ mode us n f j agree sees y stop.
      let x = alike.back y in
      record { tree = x.0; end = j; derived = x.1; stops = stop };
}

-- a form that is read in the same way where it may end at fewer places
pub step_narrower : {A : Type 0} {X : Shape A} {S R : Stops} (ts : List Terminal) (i room : ℕ) → IsRising X → ((us : List Terminal) (k : ℕ) → R us k → S us k) → Step X S X R ts i i room
step_narrower ts i room rising narrower = record {
  forward = omega arith;
  rising = rising;
  make = λ mode us n e agree long least le opens x. record { tokens = us; same = agree_same us; long = omega arith; tree = e; derived = x };
  split = λ mode us n f j agree sees y stop. record { tree = f; end = j; derived = y; stops = narrower us j stop };
}

-- Where tokens go on to a form, it isn't refused at one of them

-- the token at which it isn't read stands at this index or behind it
abbrev pub IsFrom : ℕ → Unread → Type 0
IsFrom k (unread.Stuck j) = k ≤ j
IsFrom k (unread.TooDeep j) = k ≤ j
IsFrom k unread.NoMemory = Unit {0}

pub order : (i n : ℕ) → (i < n) ⊎ (n ≤ i)
order i zero = inr (omega arith)
order zero (suc n) = inl (omega arith)
order (suc i) (suc n) = elim (order i n) [ inl a ↦ inl (omega (arith, a)) | inr a ↦ inr (omega (arith, a)) ]

no_shallow : {A : Type 0} {X : Shape A} {ts : List Terminal} {i room j k : ℕ} → IsRising X → IsOver X Anywhere ts i room j → j < k → HasShallow X ts i k room → ⊥
no_shallow {room = room} {j = j} {k = k} rising over lt way =
    over.deep way.tokens (agree_carried _ _ way.same lt) way.tree (length way.tokens) ((rising (looks_before k) (looks_before (suc j)) room room (unseen_rises nesting_limit nesting_limit (suc j) k (omega arith) lt) (omega arith)).rise way.derived) tt

no_loose : {A : Type 0} {X : Shape A} {ts : List Terminal} {i limit room j k : ℕ} → IsRising X → IsOver X Anywhere ts i room j → k ≡ suc j → IsKeyword ts j word.Sizeof → HasBlocks X limit ts i k room → ⊥
no_loose {limit = limit} {room = room} {j = j} {k = k} rising over e keyword way =
    over.counted keyword way.tokens (agree_carried _ _ way.same (omega (arith, e))) limit way.tree (length way.tokens)
    ((rising (unseen_from limit k) (unseen_from limit (suc j)) room room (unseen_rises limit limit (suc j) k (omega arith) (omega (arith, e))) (omega arith)).rise way.derived) tt

no_shown : {A : Type 0} {X : Shape A} {ts : List Terminal} {i room j k : ℕ} → IsRising X → IsOver X Anywhere ts i room j → j < k → IsShallow X ts i k room → ⊥
no_shown rising over lt (IsShallow.shallow h) = no_shallow rising over lt h
no_shown {ts = ts} {j = j} rising over lt (IsShallow.behind_sizeof n limit e forward counted h loose) = elim (order j n) [
  | inl before ↦ no_shallow rising over before h
  | inr behind ↦ (let same : n ≡ j = omega (arith, e, lt, behind) in no_loose rising over (omega (arith, e, same)) (subst (λ x. IsKeyword ts x word.Sizeof) same counted) loose)
]

pub late : {A : Type 0} {X : Shape A} {ts : List Terminal} {i room k : ℕ} → IsRising X → IsReached X ts i k room → (u : Unread) → IsUnread X Anywhere ts i room u → IsFrom k u
late {k = k} rising reached (unread.Stuck j) stuck = elim (order j k) [
  | inl lt ↦ absurd (stuck.none reached.way.tokens (agree_carried _ _ reached.way.same lt) reached.way.limit reached.way.tree reached.way.blocks (length reached.way.tokens) reached.way.derived tt)
  | inr le ↦ le
]
late {k = k} rising reached (unread.TooDeep j) over = elim (order j k) [
  | inl lt ↦ absurd (no_shown rising over lt reached.shallow)
  | inr le ↦ le
]
late rising reached unread.NoMemory h = tt

-- What is read as a part that is the whole, where no other form begins with the tokens that are known

pub record Inside {A B : Type 0} (X : Shape A) (Y : Shape B) : Type 0 where
  pub there : {mode : Mode} {ts : List Terminal} {i n j : ℕ} {t : A} → X mode ts i t n j → (u : B) × Y mode ts i u n j

way_inside : {A B : Type 0} {X : Shape A} {Y : Shape B} {ts : List Terminal} {i k : ℕ} → Inside X Y → HasWay X ts i k → HasWay Y ts i k
way_inside inside way = let y = inside.there way.derived in record { tokens = way.tokens; same = way.same; long = way.long; tree = y.0; limit = way.limit; blocks = way.blocks; derived = y.1 }

blocks_inside : {A B : Type 0} {X : Shape A} {Y : Shape B} {ts : List Terminal} {i k limit room : ℕ} → Inside X Y → HasBlocks X limit ts i k room → HasBlocks Y limit ts i k room
blocks_inside inside way = let y = inside.there way.derived in record { tokens = way.tokens; same = way.same; long = way.long; tree = y.0; derived = y.1 }

shown_inside : {A B : Type 0} {X : Shape A} {Y : Shape B} {ts : List Terminal} {i k room : ℕ} → Inside X Y → IsShallow X ts i k room → IsShallow Y ts i k room
shown_inside inside (IsShallow.shallow h) = IsShallow.shallow (blocks_inside inside h)
shown_inside inside (IsShallow.behind_sizeof n limit e forward counted h loose) = IsShallow.behind_sizeof n limit e forward counted (blocks_inside inside h) (blocks_inside inside loose)

pub reached_inside : {A B : Type 0} {X : Shape A} {Y : Shape B} {ts : List Terminal} {i k room : ℕ} → Inside X Y → IsReached X ts i k room → IsReached Y ts i k room
reached_inside inside h = record { way = way_inside inside h.way; shallow = shown_inside inside h.shallow }

arrived_inside : {A B : Type 0} {X : Shape A} {Y : Shape B} {ts : List Terminal} {i k room : ℕ} → Inside X Y → IsArrived X ts i k room → IsArrived Y ts i k room
arrived_inside inside (IsArrived.reached h) = IsArrived.reached (reached_inside inside h)
arrived_inside inside (IsArrived.behind_line n forward together way h) = IsArrived.behind_line n forward together (way_inside inside way) (blocks_inside inside h)

-- where the tokens up to an index leave this form alone, and it is refused behind them, all is
pub fails_late : {A B : Type 0} {X : Shape A} {Y : Shape B} {S : Stops} (ts : List Terminal) (i room k : ℕ) → Inside X Y
    → ((us : List Terminal) → Agree (suc k) us ts → (mode : Mode) (f : B) (n j : ℕ) → Y mode us i f n j → S us j → Part X S mode us i n) → (u : Unread) → IsFrom k u → IsUnread X S ts i room u → IsUnread Y S ts i room u
fails_late ts i room k inside only (unread.Stuck j) le stuck = record {
  forward = stuck.forward;
  within = stuck.within;
  reached = arrived_inside inside stuck.reached;
  none = λ us agree limit tree blocks q y s.
      let part = only us (agree_carried _ _ agree (omega (arith, le))) (strict limit) tree blocks q y s in
      stuck.none us agree limit part.tree blocks part.end part.derived part.stops;
}
fails_late ts i room k inside only (unread.TooDeep j) le over = record {
  forward = over.forward;
  within = over.within;
  reached = reached_inside inside over.reached;
  way = way_inside inside over.way;
  counted = λ keyword us agree limit tree q y s.
      let part = only us (agree_carried _ _ agree (omega (arith, le))) (unseen_from limit (suc j)) tree room q y s in
      over.counted keyword us agree limit part.tree part.end part.derived part.stops;
  apart = λ together. way_inside inside (over.apart together);
  deep = λ us agree tree q y s.
      let part = only us (agree_carried _ _ agree (omega (arith, le))) (looks_before (suc j)) tree room q y s in
      over.deep us agree part.tree part.end part.derived part.stops;
}
fails_late ts i room k inside only unread.NoMemory le h = tt

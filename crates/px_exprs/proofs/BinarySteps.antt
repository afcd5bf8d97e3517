-- The operators of one level and their operands.
use Rattle.std.proofs.Common.{◌≡◌, ◌∙◌, ℕ, suc, max, ◌+◌, ◌-◌, ◌<◌, ◌≤◌, ◌++◌, length, take, drop, slice_index_or, Bor, MatchOption, Option, Some, None, true, false, List, [], ◌∷◌, refl, sym, ap, ap₂, subst, arith}
use Rattle.std.specs.Prelude.{Result}
use Rattle.std.specs.Ordering.{ord_max, nat_cmp}
use Rattle.std.specs.Option.{is_some}
use Rattle.std.proofs.lemmas.Bool.{false≢true}
use Rattle.std.proofs.lemmas.List.{take_all}
use Rattle.px_base.specs.declared.c_types.BinOp.{BinOp}
use Rattle.px_base.specs.declared.refusals.Span.{Span}
use Rattle.px_lexer.specs.declared.token_list.Tokens.{Tokens}
use Rattle.px_tree.specs.declared.expressions.Expr.{Expr}
use Rattle.px_tree.specs.declared.expressions.ExprForm.TheVariants as form
use Rattle.px_tree.specs.declared.expressions.Link.{Link}
use Rattle.px_exprs.specs.declared.readings.Read.{Read}
use Rattle.px_exprs.specs.declared.readings.Unread.{Unread}
use Rattle.px_lexer.specs.Terminals.{Terminal, IsAt, terminals_of}
use Rattle.px_exprs.specs.Codes.{Past}
use Rattle.px_exprs.specs.Grammar.{Level, IsOf, link, node, IsBinary, AreLinks, IsUnary}
use Rattle.px_exprs.specs.Lists.{Ran}
use Rattle.px_exprs.specs.Parts.{IsLink, AreTighter, levels_of, below as one_tighter}
use Rattle.px_exprs.specs.Inputs.{IsInput}
use Rattle.px_exprs.specs.Words.{IsTooDeepAt}
use Rattle.px_exprs.specs.Readings.{Agree, HasWay, IsUnread, IsReading, Reads}
use Rattle.px_exprs.proofs.Agreement.{agree_same}
use Rattle.px_exprs.proofs.Beginnings.{binary_begins}
use Rattle.px_exprs.proofs.ChainLaws.{ChainCase, IsChain, ran_whole, chain_step}
use Rattle.px_exprs.proofs.Codes.{code_here}
use Rattle.px_exprs.proofs.Fresh.{way_binary}
use Rattle.px_exprs.proofs.JunctionSteps.{place_coded, left_over, IsRun, run_on}
use Rattle.px_exprs.proofs.Keeping.{of_carried, binary_carried}
use Rattle.px_exprs.proofs.Only.{IsOnly}
use Rattle.px_exprs.proofs.Steps.{Part, Step, fails, way_made, step_twice}
use Rattle.px_exprs.proofs.Stops.{past_carried, link_stops, links_stop, links_go_on, past_level}
use Rattle.px_exprs.proofs.Tables.{AreLevels, one_binary, binary_code}
use Rattle.px_exprs.proofs.Tailed.{TailedCase, IsTailed, first_step, tail_step, read_alone}
use Rattle.px_exprs.proofs.TighterLevels.{tighter_levels, tighter_whole}
use Rattle.px_exprs.proofs.Uniqueness.{binary_only}
use Rattle.px_exprs.proofs.UnarySteps.{reads_as}

-- behind all levels stands a unary
tightest_step : (ts : List Terminal) (i room : ℕ) → Step IsUnary (Past 12) (λ us. IsBinary us []) (Past 12) ts i i room room
tightest_step ts i room = record {
  forward = omega arith;
  make = λ us agree long e d x. (record { tokens = us; same = agree_same us; long = omega arith; tree = e; depth = d; derived = IsBinary.tightest x }, λ le. le);
  split = λ us agree f c j whole stop. split_tightest whole stop;
}
  where
    split_tightest : {us : List Terminal} {c j : ℕ} {f : Expr} → IsBinary us [] i f c j → Past 12 us j → (part : Part IsUnary (Past 12) us i) × (room < part.depth → room < c)
    split_tightest (IsBinary.tightest p) stop = (record { tree = _; depth = _; end = _; derived = p; stops = stop }, λ lt. lt)

pub read_tightest : (ts : List Terminal) (i room : ℕ) (levels : List Level) → levels ≡ [] → (r : Result (Read Expr) Unread) → Reads IsUnary (Past 12) ts i room r
    → Reads (λ us. IsBinary us levels) (Past (12 + length levels)) ts i room r
read_tightest ts i room levels none r h =
    subst (λ ls. Reads (λ us. IsBinary us ls) (Past (12 + length ls)) ts i room r) (sym none) (reads_as (tightest_step ts i room) (λ e d j x. IsBinary.tightest x) (λ j s. s) r h)

-- An operand, alone or with links

binary_cases : {level : Level} {tighter : List Level} {us : List Terminal} {i c j : ℕ} {f : Expr} → IsBinary us (level ∷ tighter) i f c j
    → TailedCase (λ ts. IsBinary ts tighter) (λ ts. AreLinks ts level tighter) 1 us i f c j
binary_cases (IsBinary.alone p) = TailedCase.alone p
binary_cases (IsBinary.binary_chain at p links e) = TailedCase.tailed _ _ _ _ _ p links (omega arith)

binary_made : {level : Level} {tighter : List Level} {us : List Terminal} {i a k b j : ℕ} {e : Expr} {links : List Link} → IsBinary us tighter i e a k → AreLinks us level tighter k links b j
    → (f : Expr) × IsBinary us (level ∷ tighter) i f (1 + max a b) j
binary_made {level} {tighter} {us} {i} {a} {k} {b} {j} {e} {links} p q =
    let place = place_coded us i (omega (arith, binary_begins p)) in
    let n : suc (max a b) ≡ 1 + max a b = omega arith in
    let f = node k place.0 (form.Chain e links) in
    (f, subst (λ d. IsBinary us (level ∷ tighter) i f d j) n (IsBinary.binary_chain place.1 p q refl))

pub binary_tailed : {level : Level} (tighter : List Level) → AreLevels (level ∷ tighter)
    → IsTailed (λ ts. IsBinary ts tighter) (Past (12 + length tighter)) (λ ts. AreLinks ts level tighter) (λ ts. IsBinary ts (level ∷ tighter)) (Past (12 + length (level ∷ tighter))) 1
binary_tailed {level} tighter levels = record {
  alone = λ x. IsBinary.alone x;
  tailed = λ x t. binary_made x t;
  cases = λ y. binary_cases y;
  only = λ x. binary_only levels.1 x;
  carried = λ n agree x. binary_carried n agree x;
  local = λ {ts} {us} {j} agree past. past_carried ts us j agree past;
  stops = λ past. omega (arith, past);
  tail_stops = λ links. omega (arith, links_stop levels links);
}

-- Links

link_cases : {level : Level} {tighter : List Level} {us : List Terminal} {k c j : ℕ} {ls : List Link} → AreLinks us level tighter k ls c j → ChainCase (IsLink level tighter) (λ ts. AreLinks ts level tighter) us k ls c j
link_cases (AreLinks.last_link {meant = meant} {e = e} o p) = ChainCase.one (link meant e) (record { meant = meant; operand = e; sign = o; read = p; tree = refl }) refl
link_cases (AreLinks.more_links {meant = meant} {e = e} o p others) =
    ChainCase.more (link meant e) _ _ _ _ (record { meant = meant; operand = e; sign = o; read = p; tree = refl }) others refl refl

link_only : {level : Level} (tighter : List Level) → AreLevels (level ∷ tighter) → {us : List Terminal} {i d j : ℕ} {t : Link} → IsLink level tighter us i t d j
    → IsOnly (IsLink level tighter us i) (Past (12 + length tighter) us) t d j
link_only tighter levels x s f c k y r =
    let same = binary_only levels.1 x.read s y.operand c k y.read r in
    record { tree = x.tree ∙ ap₂ link (one_binary tighter levels x.sign y.sign) same.tree ∙ sym y.tree; depth = same.depth; end = same.end }

link_carried : {level : Level} {tighter : List Level} {ts us : List Terminal} (n : ℕ) {i d j : ℕ} {t : Link} → Agree n us ts → IsLink level tighter ts i t d j → (i < j) × (j ≤ n → IsLink level tighter us i t d j)
link_carried {us = us} n agree x =
    let read = binary_carried {us = us} n agree x.read in (
      omega (arith, read.0),
      λ le. record { meant = x.meant; operand = x.operand; sign = of_carried n agree x.sign (omega (arith, read.0, le)); read = read.1 le; tree = x.tree },
    )

link_chain : {level : Level} (tighter : List Level) → AreLevels (level ∷ tighter)
    → IsChain (IsLink level tighter) (Past (12 + length tighter)) (λ ts. AreLinks ts level tighter) (Past (12 + length (level ∷ tighter)))
link_chain {level} tighter levels = record {
  one = λ {us} {k} {d} {j} {t} x. subst (λ l. AreLinks us level tighter k (l ∷ []) d j) (sym x.tree) (AreLinks.last_link x.sign x.read);
  more = λ {us} {k} {l} {a} {b} {j} {t} {rest} x others. subst (λ l. AreLinks us level tighter k (l ∷ rest) (max a b) j) (sym x.tree) (AreLinks.more_links x.sign x.read others);
  cases = λ links. link_cases links;
  only = λ x. link_only tighter levels x;
  carried = λ n agree x. link_carried n agree x;
  local = λ {ts} {us} {j} agree past. past_carried ts us j agree past;
  stops = λ past. omega (arith, past);
  starts = λ x. link_stops tighter levels x.sign;
  ends = λ past x. links_go_on tighter levels x.sign past;
}

-- the operand of an operator is a part of its link
link_step : {level : Level} (tighter : List Level) {ts : List Terminal} {k room : ℕ} {meant : BinOp} → IsOf level ts k meant
    → Step (λ us. IsBinary us tighter) (Past (12 + length tighter)) (IsLink level tighter) (Past (12 + length tighter)) ts k (suc k) room room
link_step tighter {ts} {k} {room} {meant} o = record {
  forward = omega arith;
  make = λ us agree long e d x. (
    record {
      tokens = us;
      same = agree_same us;
      long = omega arith;
      tree = link meant e;
      depth = d;
      derived = record { meant = meant; operand = e; sign = of_carried (suc k) agree o (omega arith); read = x; tree = refl };
    },
    λ le. le,
  );
  split = λ us agree f c j whole stop. (record { tree = whole.operand; depth = c; end = j; derived = whole.read; stops = stop }, λ lt. lt);
}

-- an operator goes on with the level, over all tokens that agree with these up to it
none_past : {level : Level} (tighter : List Level) → AreLevels (level ∷ tighter) → {ts : List Terminal} {k : ℕ} {meant : BinOp} → IsOf level ts k meant
    → (us : List Terminal) → Agree (suc k) us ts → Past (12 + length (level ∷ tighter)) us k → ⊥
none_past tighter levels {k = k} o us agree past = links_go_on tighter levels (of_carried (suc k) agree o (omega arith)) past

one_more : {n : ℕ} → 1 + n ≡ suc n
one_more = omega arith

-- with the links that were read, the operand of the next operator is a part of the whole
next_step : {level : Level} (tighter : List Level) → AreLevels (level ∷ tighter) → {ts : List Terminal} {i a k d l room : ℕ} {e : Expr} {links : List Link} {meant more : BinOp} → IsBinary ts tighter i e a k
    → a ≤ room → IsOf level ts k meant → Ran (IsLink level tighter) ts k links d l → d ≤ room → IsOf level ts l more
    → Step (λ us. IsBinary us tighter) (Past (12 + length tighter)) (λ us. IsBinary us (level ∷ tighter)) (Past (12 + length (level ∷ tighter))) ts i (suc l) room (suc room)
next_step {level} tighter levels {ts} {i} {a} {k} {d} {l} {room} x shallow first ran low o =
    let laws = binary_tailed tighter levels in
    let tail = tail_step laws x (link_stops tighter levels first) shallow (none_past tighter levels first) in
    let chain = chain_step (link_chain tighter levels) ran low (link_stops tighter levels o) (none_past tighter levels o) in
    subst (λ m. Step (λ us. IsBinary us tighter) (Past (12 + length tighter)) (λ us. IsBinary us (level ∷ tighter)) (Past (12 + length (level ∷ tighter))) ts i (suc l) room m) one_more
    (step_twice (link_step tighter o) (step_twice chain tail))

-- The levels behind references

pub levels_split : (levels : List (Bor Level)) (d : Bor Level) → 1 ≤ length levels → levels_of levels ≡ (slice_index_or levels 0 d).now ∷ levels_of (take (length levels - 1) (drop 1 levels))
levels_split [] d h = absurd (omega (arith, h))
levels_split (l ∷ ls) d h =
    let n : length (l ∷ ls) - 1 ≡ length ls = omega arith in
    subst (λ m. levels_of (l ∷ ls) ≡ l.now ∷ levels_of (take m ls)) (sym n) (ap (λ xs. l.now ∷ levels_of xs) (sym (take_all (length ls) ls (omega arith))))

pub fewer_levels : (levels : List (Bor Level)) → 1 ≤ length levels → length (take (length levels - 1) (drop 1 levels)) < length levels
fewer_levels [] h = absurd (omega (arith, h))
fewer_levels (l ∷ ls) h =
    let n : length (l ∷ ls) - 1 ≡ length ls = omega arith in
    subst (λ m. length (take m ls) < length (l ∷ ls)) (sym n) (omega (arith, ap (λ xs. length xs) (take_all (length ls) ls (omega arith))))

pub no_levels : (levels : List (Bor Level)) → length levels < 1 → levels_of levels ≡ []
no_levels [] h = refl
no_levels (l ∷ ls) h = absurd (omega (arith, h))

pub tighter_known : {levels tighter : List Level} {level : Level} → levels ≡ level ∷ tighter → AreTighter levels → AreTighter tighter
tighter_known e known = one_tighter (subst AreTighter e known)

-- What a search for an operator answers

pub some_meant : {A : Type 0} (P : Type 0) (Q : A → Type 0) (r : Option A) → MatchOption r P Q → is_some r ≡ true → (m : A) × Q m
some_meant P Q (Some m) h e = (m, h)
some_meant P Q None h e = absurd (false≢true e)

pub none_meant : {A : Type 0} (P : Type 0) (Q : A → Type 0) (r : Option A) → MatchOption r P Q → is_some r ≡ false → P
none_meant P Q (Some m) h e = absurd (false≢true (sym e))
none_meant P Q None h e = h

pub meant_some : {A : Type 0} (Q : A → Type 0) (r : Option A) → MatchOption r ((m : A) → Q m → ⊥) Q → (m : A) → Q m → is_some r ≡ true
meant_some Q (Some m) h other q = refl
meant_some Q None h other q = absurd (h other q)

-- What the reader of a level answers

-- an operator has a token behind it
pub link_inside : (tokens : Tokens) (i : ℕ) {levels tighter : List Level} {level : Level} {meant : BinOp} → IsInput tokens → levels ≡ level ∷ tighter → AreTighter levels → IsOf level (terminals_of tokens) i meant
    → suc i < length tokens.list
link_inside tokens i {tighter = tighter} input e known o =
    let there = subst AreTighter e known in
    input.ends i (omega (arith, binary_code tighter (tighter_levels there) o, (tighter_whole there).0.1))

pub first_refused : {levels tighter : List Level} {level : Level} → levels ≡ level ∷ tighter → AreTighter levels → (ts : List Terminal) (i room : ℕ) (u : Unread) → IsUnread (λ us. IsBinary us tighter) (Past (12 + length tighter)) ts i room u
    → IsUnread (λ us. IsBinary us levels) (Past (12 + length levels)) ts i room u
first_refused {tighter = tighter} e known ts i room u refused =
    subst (λ ls. IsUnread (λ us. IsBinary us ls) (Past (12 + length ls)) ts i room u) (sym e) (fails (first_step (binary_tailed tighter (tighter_levels (subst AreTighter e known))) ts i room) u refused)

pub first_read : {levels tighter : List Level} {level : Level} → levels ≡ level ∷ tighter → AreTighter levels → {ts : List Terminal} {i room a k : ℕ} {x : Expr} → IsReading (λ us. IsBinary us tighter) (Past (12 + length tighter)) ts i room x a k
    → ((m : BinOp) → IsOf level ts k m → ⊥) → IsReading (λ us. IsBinary us levels) (Past (12 + length levels)) ts i room x a k
first_read {tighter = tighter} e known {ts} {i} {room} {a} {k} {x} reading none =
    let there = subst AreTighter e known in
    subst (λ ls. IsReading (λ us. IsBinary us ls) (Past (12 + length ls)) ts i room x a k) (sym e)
    (read_alone (binary_tailed tighter (tighter_levels there)) reading (past_level tighter (tighter_whole there) reading.stops none))

links_way : {level : Level} (tighter : List Level) → AreLevels (level ∷ tighter) → {ts : List Terminal} {k : ℕ} {meant : BinOp} → IsOf level ts k meant → k < length ts → HasWay (λ us. AreLinks us level tighter) ts k (suc k)
links_way {level} tighter levels {ts} {k} o within =
    let one : HasWay (IsLink level tighter) ts k (suc k) = way_made (link_step tighter {room = 0} o) (omega arith) (way_binary tighter ts (suc k) 0 (omega (arith, within))).way in
    record { tokens = one.tokens; same = one.same; long = one.long; tree = one.tree ∷ []; depth = one.depth; derived = (link_chain tighter levels).one one.derived }

pub no_room_for_links : {levels tighter : List Level} {level : Level} → levels ≡ level ∷ tighter → AreTighter levels → {ts : List Terminal} {i room a k : ℕ} {x : Expr} {meant : BinOp}
    → IsReading (λ us. IsBinary us tighter) (Past (12 + length tighter)) ts i room x a k → IsOf level ts k meant → (u : Unread) → IsTooDeepAt k u × (room ≤ a)
    → IsUnread (λ us. IsBinary us levels) (Past (12 + length levels)) ts i room u
no_room_for_links {tighter = tighter} e known {ts} {i} {room} reading o u deep =
    let table = tighter_levels (subst AreTighter e known) in
    subst (λ ls. IsUnread (λ us. IsBinary us ls) (Past (12 + length ls)) ts i room u) (sym e)
    (left_over (binary_tailed tighter table) reading (none_past tighter table o) (λ h. omega (arith, binary_code tighter table o, code_here h)) (links_way tighter table o reading.within) u deep)

-- the links that were read
abbrev pub IsLinkRun : Level → List Level → List Terminal → ℕ → ℕ → List Link → ℕ → ℕ → Type 0
IsLinkRun level tighter ts room k links d l = IsRun (IsLink level tighter) (Past (12 + length tighter)) ts room k links d l

pub link_refused : {levels tighter : List Level} {level : Level} → levels ≡ level ∷ tighter → AreTighter levels → {ts : List Terminal} {i room left a k d l : ℕ} {x : Expr} {links : List Link} {meant more : BinOp}
    → IsReading (λ us. IsBinary us tighter) (Past (12 + length tighter)) ts i room x a k → (a < room) × (room ≡ suc left) → IsOf level ts k meant → IsLinkRun level tighter ts left k links d l → IsOf level ts l more
    → (u : Unread) → IsUnread (λ us. IsBinary us tighter) (Past (12 + length tighter)) ts (l + 1) left u → IsUnread (λ us. IsBinary us levels) (Past (12 + length levels)) ts i room u
link_refused {tighter = tighter} {level = level} e known {ts} {i} {room} {left} {l = l} reading inside first run o u refused =
    let table = tighter_levels (subst AreTighter e known) in
    let step = next_step tighter table reading.derived (omega (arith, inside.0, inside.1)) first run.0 run.1 o in
    let n : l + 1 ≡ suc l = omega arith in
    let whole : IsUnread (λ us. IsBinary us (level ∷ tighter)) (Past (12 + length (level ∷ tighter))) ts i (suc left) u = fails step u (subst (λ m. IsUnread (λ us. IsBinary us tighter) (Past (12 + length tighter)) ts m left u) n refused) in
    subst (λ ls. IsUnread (λ us. IsBinary us ls) (Past (12 + length ls)) ts i room u) (sym e)
    (subst (λ m. IsUnread (λ us. IsBinary us (level ∷ tighter)) (Past (12 + length (level ∷ tighter))) ts i m u) (sym inside.1) whole)

pub link_on : {tighter : List Level} {level : Level} {ts : List Terminal} {left k d l c m n : ℕ} {links more : List Link} {operand : Expr} {meant : BinOp} → IsLinkRun level tighter ts left k links d l → IsOf level ts l meant
    → IsReading (λ us. IsBinary us tighter) (Past (12 + length tighter)) ts (l + 1) left operand c m → more ≡ links ++ link meant operand ∷ [] → n ≡ ord_max nat_cmp d c → IsLinkRun level tighter ts left k more n m
link_on {tighter} {level} {ts} {l = l} {c} {m} {operand = operand} {meant} run o reading joined greater =
    let n : l + 1 ≡ suc l = omega arith in
    let element : IsLink level tighter ts l (link meant operand) c m = record {
      meant = meant;
      operand = operand;
      sign = o;
      read = subst (λ i. IsBinary ts tighter i operand c m) n reading.derived;
      tree = refl;
    } in
    run_on {X = λ us. IsBinary us tighter} run element reading joined greater

pub chain_read : {levels tighter : List Level} {level : Level} → levels ≡ level ∷ tighter → AreTighter levels → {ts : List Terminal} {i room left a k d l deepest c : ℕ} {x boxed f : Expr} {links : List Link} {meant : BinOp} {at : Span}
    → IsReading (λ us. IsBinary us tighter) (Past (12 + length tighter)) ts i room x a k → (a < room) × (room ≡ suc left) → IsOf level ts k meant → IsLinkRun level tighter ts left k links d l
    → ((m : BinOp) → IsOf level ts l m → ⊥) → boxed ≡ x → IsAt ts i at → f ≡ node k at (form.Chain boxed links) → deepest ≡ max a d → c ≡ deepest + 1
    → IsReading (λ us. IsBinary us levels) (Past (12 + length levels)) ts i room f c l
chain_read {tighter = tighter} {level} e known {ts} {i} {room} {a = a} {k} {d} {l} {c = c} {f = f} {links} {meant} {at} reading inside first run none same placed tree deepest deep =
    let there = subst AreTighter e known in
    let derived : IsBinary ts (level ∷ tighter) i f (suc (max a d)) l =
    IsBinary.binary_chain placed reading.derived (ran_whole (link_chain tighter (tighter_levels there)) run.0 (λ at_once. none meant (subst (λ n. IsOf level ts n meant) at_once first)))
    (tree ∙ ap (λ y. node k at (form.Chain y links)) same) in
    let deeper : suc (max a d) ≡ c = omega (arith, deep, deepest) in
    subst (λ ls. IsReading (λ us. IsBinary us ls) (Past (12 + length ls)) ts i room f c l) (sym e) (record {
      derived = subst (λ n. IsBinary ts (level ∷ tighter) i f n l) deeper derived;
      shallow = omega (arith, deep, deepest, inside.0, inside.1, run.1);
      stops = past_level tighter (tighter_whole there) run.2 none;
      within = run.3;
    })

pub binary_forward : {levels : List Level} {ts : List Terminal} {i n room d j : ℕ} {x : Expr} → IsReading (λ us. IsBinary us levels) (Past n) ts i room x d j → i < j
binary_forward {ts = ts} {j = j} reading = (binary_carried {us = ts} j (agree_same ts) reading.derived).0

-- What instructions hand on, in parts: what is written has no fact but the one that is made for it, and what isn't stays.
use Rattle.std.proofs.Common.{◌≡◌, ◌⊎◌, inl, inr, ℕ, zero, suc, nat_eq, Bool, true, false, ◌||◌, if◌then◌else◌}
use Rattle.std.proofs.Common.{List, [], ◌∷◌, ◌++◌, slice_get, Option, Some, None, Contains, refl, sym, ap, subst, ◌∙◌, arith}
use Rattle.std.proofs.Common.{eq-eqb}
use Rattle.std.proofs.lemmas.List.Elements.{Contains-append_cases}
use Rattle.px_regcode.specs.declared.operands.RegKind.{RegKind}
use Rattle.px_regcode.specs.declared.instructions.Instr.{Instr}
use Rattle.px_regcode.specs.declared.instructions.Instr.TheVariants as instr
use Rattle.px_regcode.specs.Images.{ImageParts}
use Rattle.px_regcode.specs.Effects.{writes, gives_whole, gives_object, empties}
use Rattle.px_regcode.specs.Facts.{State, empty, whole, object, held, lent, fault, Stage, done, is_one_of, numbers_of, others_than}
use Rattle.px_regcode.specs.Facts.{all_as, writes_done}
use Rattle.px_regcode.specs.Facts.{plan_writes, acquires, changes, result_of, as_result, gives_else, makes, made_of, derives, hands_over}
use Rattle.px_regcode.specs.Facts.{passed, stays, left_behind, unless_empty}
use Rattle.px_regcode.specs.Facts.{once_emptied, each_once_emptied, emptied, all_at, hands_on}

later : (a b : Bool) → b ≡ true → (a || b) ≡ true
later true b is = refl
later false b is = is

sooner : (a b : Bool) → (a || false) ≡ true → (a || b) ≡ true
sooner true b is = refl
sooner false b is = cc

-- ---- the tables of what is given and of what is written agree

whole_is_written : (i : Instr) (r : ℕ) → is_one_of r (numbers_of (gives_whole i)) ≡ true → is_one_of r (writes_done i) ≡ true
unfolding gives_whole writes
whole_is_written (instr.Const d n) r is = is
whole_is_written (instr.Move d a) r is = cc
whole_is_written (instr.Binary op t d a b truncates) r is = is
whole_is_written (instr.Unary op t d a) r is = is
whole_is_written (instr.Compare op t d a b) r is = is
whole_is_written (instr.Convert t d a) r is = is
whole_is_written (instr.Magnitude t d a) r is = is
whole_is_written (instr.Jump k) r is = cc
whole_is_written (instr.Branch a k j) r is = cc
whole_is_written instr.Turn r is = cc
whole_is_written (instr.Call f d arguments) r is = cc
whole_is_written (instr.Return a) r is = cc
whole_is_written instr.Finish r is = cc
whole_is_written (instr.Handle k) r is = cc
whole_is_written instr.Unhandle r is = cc
whole_is_written instr.Throw r is = cc
whole_is_written (instr.Caught d) r is = cc
whole_is_written (instr.Takes a kinds k) r is = cc
whole_is_written (instr.Forget a) r is = cc
whole_is_written (instr.Unset d) r is = cc
whole_is_written (instr.Need a) r is = cc
whole_is_written (instr.Element t d a indices) r is = is
whole_is_written (instr.Put t a indices b) r is = cc
whole_is_written (instr.Pick d a axis i wraps) r is = cc
whole_is_written (instr.Slice d a axis b c e) r is = cc
whole_is_written (instr.Axis d a n) r is = cc
whole_is_written (instr.Turned d a) r is = cc
whole_is_written (instr.Extent d a axis) r is = is
whole_is_written (instr.Ordered a order) r is = cc
whole_is_written (instr.Acquire a) r is = cc
whole_is_written (instr.Release a) r is = cc
whole_is_written (instr.Fill a b) r is = cc
whole_is_written (instr.Spread d a) r is = cc
whole_is_written instr.Ticket r is = cc
whole_is_written instr.Enter r is = cc
whole_is_written instr.Leave r is = cc
whole_is_written (instr.Loop n d k) r is = cc
whole_is_written instr.Look r is = cc
whole_is_written instr.Claim r is = cc
whole_is_written instr.Begin r is = cc
whole_is_written instr.End r is = cc
whole_is_written (instr.Stop kind a) r is = cc
whole_is_written (instr.Reduce op t x a) r is = is
whole_is_written (instr.Members d) r is = is
whole_is_written (instr.Text d n) r is = cc
whole_is_written (instr.Wide d n) r is = cc
whole_is_written (instr.Box t d a) r is = cc
whole_is_written (instr.Unbox t d a) r is = is
whole_is_written (instr.Truth d a) r is = is
whole_is_written (instr.Fetch d n) r is = cc
whole_is_written (instr.Keep n a) r is = cc
whole_is_written (instr.Share d a) r is = cc
whole_is_written (instr.Drop a) r is = cc
whole_is_written (instr.ObjectBinary op d a b) r is = cc
whole_is_written (instr.ObjectUnary op d a) r is = cc
whole_is_written (instr.ObjectCompare op d a b) r is = is
whole_is_written (instr.ObjectIn d a b) r is = is
whole_is_written (instr.ObjectGet d a b) r is = cc
whole_is_written (instr.ObjectSet a b c) r is = cc
whole_is_written (instr.ObjectCut d a b c e) r is = cc
whole_is_written (instr.List d arguments) r is = cc
whole_is_written (instr.Tuple d arguments) r is = cc
whole_is_written (instr.Dict d arguments) r is = cc
whole_is_written (instr.Unpack n a items) r is = cc
whole_is_written (instr.Method m d a arguments) r is = cc
whole_is_written (instr.Builtin m d arguments) r is = cc
whole_is_written (instr.Print arguments) r is = cc
whole_is_written (instr.Input d arguments) r is = cc
whole_is_written (instr.Raise kind a) r is = cc
whole_is_written (instr.Walk d x a) r is = later (nat_eq r d.number) (nat_eq r x.number || false) is
whole_is_written (instr.Next d a x k) r is = later (nat_eq r d.number) (nat_eq r x.number || false) is
whole_is_written (instr.Array d arguments) r is = cc
whole_is_written (instr.View t d a rank) r is = cc
whole_is_written (instr.Copy d a) r is = cc
whole_is_written (instr.Said d a) r is = cc
whole_is_written (instr.Rethrow a) r is = cc

object_is_written : (i : Instr) (r : ℕ) → is_one_of r (numbers_of (gives_object i)) ≡ true → is_one_of r (writes_done i) ≡ true
unfolding gives_object writes
object_is_written (instr.Const d n) r is = cc
object_is_written (instr.Move d a) r is = cc
object_is_written (instr.Binary op t d a b truncates) r is = cc
object_is_written (instr.Unary op t d a) r is = cc
object_is_written (instr.Compare op t d a b) r is = cc
object_is_written (instr.Convert t d a) r is = cc
object_is_written (instr.Magnitude t d a) r is = cc
object_is_written (instr.Jump k) r is = cc
object_is_written (instr.Branch a k j) r is = cc
object_is_written instr.Turn r is = cc
object_is_written (instr.Call f d arguments) r is = cc
object_is_written (instr.Return a) r is = cc
object_is_written instr.Finish r is = cc
object_is_written (instr.Handle k) r is = cc
object_is_written instr.Unhandle r is = cc
object_is_written instr.Throw r is = cc
object_is_written (instr.Caught d) r is = cc
object_is_written (instr.Takes a kinds k) r is = cc
object_is_written (instr.Forget a) r is = cc
object_is_written (instr.Unset d) r is = cc
object_is_written (instr.Need a) r is = cc
object_is_written (instr.Element t d a indices) r is = cc
object_is_written (instr.Put t a indices b) r is = cc
object_is_written (instr.Pick d a axis i wraps) r is = cc
object_is_written (instr.Slice d a axis b c e) r is = cc
object_is_written (instr.Axis d a n) r is = cc
object_is_written (instr.Turned d a) r is = cc
object_is_written (instr.Extent d a axis) r is = cc
object_is_written (instr.Ordered a order) r is = cc
object_is_written (instr.Acquire a) r is = cc
object_is_written (instr.Release a) r is = cc
object_is_written (instr.Fill a b) r is = cc
object_is_written (instr.Spread d a) r is = cc
object_is_written instr.Ticket r is = cc
object_is_written instr.Enter r is = cc
object_is_written instr.Leave r is = cc
object_is_written (instr.Loop n d k) r is = cc
object_is_written instr.Look r is = cc
object_is_written instr.Claim r is = cc
object_is_written instr.Begin r is = cc
object_is_written instr.End r is = cc
object_is_written (instr.Stop kind a) r is = cc
object_is_written (instr.Reduce op t x a) r is = cc
object_is_written (instr.Members d) r is = cc
object_is_written (instr.Text d n) r is = is
object_is_written (instr.Wide d n) r is = is
object_is_written (instr.Box t d a) r is = is
object_is_written (instr.Unbox t d a) r is = cc
object_is_written (instr.Truth d a) r is = cc
object_is_written (instr.Fetch d n) r is = is
object_is_written (instr.Keep n a) r is = cc
object_is_written (instr.Share d a) r is = is
object_is_written (instr.Drop a) r is = cc
object_is_written (instr.ObjectBinary op d a b) r is = is
object_is_written (instr.ObjectUnary op d a) r is = is
object_is_written (instr.ObjectCompare op d a b) r is = cc
object_is_written (instr.ObjectIn d a b) r is = cc
object_is_written (instr.ObjectGet d a b) r is = is
object_is_written (instr.ObjectSet a b c) r is = cc
object_is_written (instr.ObjectCut d a b c e) r is = is
object_is_written (instr.List d arguments) r is = is
object_is_written (instr.Tuple d arguments) r is = is
object_is_written (instr.Dict d arguments) r is = is
object_is_written (instr.Unpack n a items) r is = is
object_is_written (instr.Method m d a arguments) r is = is
object_is_written (instr.Builtin m d arguments) r is = is
object_is_written (instr.Print arguments) r is = cc
object_is_written (instr.Input d arguments) r is = is
object_is_written (instr.Raise kind a) r is = cc
object_is_written (instr.Walk d x a) r is = sooner (nat_eq r d.number) (nat_eq r x.number || false) is
object_is_written (instr.Next d a x k) r is = sooner (nat_eq r d.number) (nat_eq r x.number || false) is
object_is_written (instr.Array d arguments) r is = is
object_is_written (instr.View t d a rank) r is = cc
object_is_written (instr.Copy d a) r is = cc
object_is_written (instr.Said d a) r is = is
object_is_written (instr.Rethrow a) r is = cc

-- ---- elements

sooner_of : (a b : Bool) → a ≡ true → (a || b) ≡ true
sooner_of true b is = refl
sooner_of false b is = cc

one_of_list : (rs : List ℕ) (r : ℕ) → Contains rs r → is_one_of r rs ≡ true
one_of_list [] r (k, lt, is) = absurd (omega (arith, lt))
one_of_list (x ∷ rs) r (zero, lt, is) = sooner_of (nat_eq r x) (is_one_of r rs) (eq-eqb r x (sym is))
one_of_list (x ∷ rs) r (suc k, lt, is) = later (nat_eq r x) (is_one_of r rs) (one_of_list rs r (k, omega (arith, lt), is))

one_of_left : (r : ℕ) (xs ys : List ℕ) → is_one_of r xs ≡ true → is_one_of r (xs ++ ys) ≡ true
one_of_left r [] ys is = cc
one_of_left r (x ∷ xs) ys is = by_first (nat_eq r x) (one_of_left r xs ys) is
  where
    by_first : (b : Bool) → (is_one_of r xs ≡ true → is_one_of r (xs ++ ys) ≡ true) → (b || is_one_of r xs) ≡ true
        → (b || is_one_of r (xs ++ ys)) ≡ true
    by_first true rest is = refl
    by_first false rest is = rest is

one_of_right : (r : ℕ) (xs ys : List ℕ) → is_one_of r ys ≡ true → is_one_of r (xs ++ ys) ≡ true
one_of_right r [] ys is = is
one_of_right r (x ∷ xs) ys is = later (nat_eq r x) (is_one_of r (xs ++ ys)) (one_of_right r xs ys is)

in_all_as : (s : State) (rs : List ℕ) (r : ℕ) (t : State) → Contains (all_as s rs) (r, t) → Contains rs r × (t ≡ s)
in_all_as s [] r t (k, lt, is) = absurd (omega (arith, lt))
in_all_as s (x ∷ rs) r t (zero, lt, is) = ((0, omega arith, ap (λ p. p.0) is), sym (ap (λ p. p.1) is))
in_all_as s (x ∷ rs) r t (suc k, lt, is) =
    let rest = in_all_as s rs r t (k, omega (arith, lt), is) in
    ((suc rest.0.0, omega (arith, rest.0.1), rest.0.2), rest.1)

in_all_at : (d : ℕ) (ss : List State) (e : ℕ) (t : State) → Contains (all_at d ss) (e, t) → (e ≡ d) × Contains ss t
in_all_at d [] e t (k, lt, is) = absurd (omega (arith, lt))
in_all_at d (s ∷ ss) e t (zero, lt, is) = (sym (ap (λ p. p.0) is), (0, omega arith, ap (λ p. p.1) is))
in_all_at d (s ∷ ss) e t (suc k, lt, is) =
    let rest = in_all_at d ss e t (k, omega (arith, lt), is) in
    (rest.0, (suc rest.1.0, omega (arith, rest.1.1), rest.1.2))

among_others : (away rs : List ℕ) (r : ℕ) → Contains (others_than away rs) r → Contains rs r
among_others away [] r may = may
among_others away (x ∷ rs) r may = by_first (is_one_of x away) (among_others away rs r) may
  where
    behind : Contains rs r → Contains (x ∷ rs) r
    behind (k, lt, is) = (suc k, omega (arith, lt), is)

    by_first : (b : Bool) → (Contains (others_than away rs) r → Contains rs r)
        → Contains (if b then others_than away rs else x ∷ others_than away rs) r → Contains (x ∷ rs) r
    by_first true rest may = behind (rest may)
    by_first false rest (zero, lt, is) = (0, omega arith, is)
    by_first false rest (suc k, lt, is) = behind (rest (k, omega (arith, lt), is))

-- ---- what is made of none

as_result_is : (d : ℕ) (o : Option RegKind) (r : ℕ) (s : State) → Contains (as_result d o) (r, s) → is_one_of r (d ∷ []) ≡ true
as_result_is d None r s (k, lt, is) = absurd (omega (arith, lt))
as_result_is d (Some kind) r s (zero, lt, is) = sooner_of (nat_eq r d) false (eq-eqb r d (sym (ap (λ p. p.0) is)))
as_result_is d (Some kind) r s (suc k, lt, is) = absurd (omega (arith, lt))

alone : (d : ℕ) (t : State) (r : ℕ) (s : State) → Contains {X = ℕ × State} ((d, t) ∷ []) (r, s) → is_one_of r (d ∷ []) ≡ true
alone d t r s (zero, lt, is) = sooner_of (nat_eq r d) false (eq-eqb r d (sym (ap (λ p. p.0) is)))
alone d t r s (suc k, lt, is) = absurd (omega (arith, lt))

else_is_written : (image : ImageParts) (i : Instr) (r : ℕ) (s : State) → Contains (gives_else image i) (r, s)
    → is_one_of r (writes_done i) ≡ true
unfolding writes
else_is_written image (instr.Call f (Some d) args) r s may = as_result_is d.number (result_of (slice_get image.codes f)) r s may
else_is_written image (instr.View t d a rank) r s may = alone d.number (held rank false) r s may
else_is_written image (instr.Caught d) r s may = alone d.number fault r s may
else_is_written image i r s (k, lt, is) = absurd (omega (arith, lt))

-- each register for which a done instruction makes a fact is one that it changes
pub made_is_changed : (image : ImageParts) (stage : Stage) (i : Instr) (r : ℕ) (s : State) → Contains (makes image stage i done) (r, s)
    → is_one_of r (changes image stage i) ≡ true
unfolding makes
made_is_changed image stage i r s may =
    elim (Contains-append_cases _ _ (r, s) may) [
      | inl front ↦ elim (Contains-append_cases _ _ (r, s) front) [
        | inl written ↦ elim (Contains-append_cases _ _ (r, s) written) [
          | inl given ↦ elim (Contains-append_cases _ _ (r, s) given) [
            | inl number ↦ by_write (whole_is_written i r (one_of_list _ r (in_all_as whole _ r s number).0))
            | inr reference ↦ by_write (object_is_written i r (one_of_list _ r (in_all_as (object false) _ r s reference).0))
          ]
          | inr other ↦ by_write (else_is_written image i r s other)
        ]
        | inr nothing ↦ by_emptying (one_of_list _ r (among_others _ _ r (in_all_as empty _ r s nothing).0))
      ]
      | inr planned ↦ by_plan (one_of_list _ r (in_all_as whole _ r s planned).0)
    ]
  where
    by_write : is_one_of r (writes_done i) ≡ true → is_one_of r (changes image stage i) ≡ true
    by_write is = one_of_left r _ (acquires i) (one_of_left r _ (plan_writes image stage i) (one_of_left r _ (numbers_of (empties i)) is))

    by_emptying : is_one_of r (numbers_of (empties i)) ≡ true → is_one_of r (changes image stage i) ≡ true
    by_emptying is = one_of_left r _ (acquires i) (one_of_left r _ (plan_writes image stage i) (one_of_right r (writes_done i) _ is))

    by_plan : is_one_of r (plan_writes image stage i) ≡ true → is_one_of r (changes image stage i) ≡ true
    by_plan is = one_of_left r _ (acquires i) (one_of_right r (writes_done i ++ numbers_of (empties i)) _ is)

-- ---- what is made of a fact of another register

made_of_is : (r a d : ℕ) (ss : List State) (e : ℕ) (t : State) → Contains (made_of r a d ss) (e, t) → is_one_of e (d ∷ []) ≡ true
made_of_is r a d ss e t may = by_first (nat_eq r a) may
  where
    by_first : (b : Bool) → Contains {X = ℕ × State} (if b then all_at d ss else []) (e, t) → is_one_of e (d ∷ []) ≡ true
    by_first true may = sooner_of (nat_eq e d) false (eq-eqb e d (in_all_at d ss e t may).0)
    by_first false (k, lt, is) = absurd (omega (arith, lt))

-- each register that a done instruction gives what it made of another is one that it changes
pub derived_is_changed : (image : ImageParts) (stage : Stage) (i : Instr) (r : ℕ) (s : State) (d : ℕ) (t : State)
    → Contains (derives i r s) (d, t) → is_one_of d (changes image stage i) ≡ true
unfolding derives writes empties
derived_is_changed image stage (instr.Move d a) r s e t may = made_of_is r a.number d.number _ e t may
derived_is_changed image stage (instr.Pick d a axis i wraps) r s e t may = made_of_is r a.number d.number _ e t may
derived_is_changed image stage (instr.Slice d a axis b c f) r s e t may = made_of_is r a.number d.number _ e t may
derived_is_changed image stage (instr.Axis d a n) r s e t may = made_of_is r a.number d.number _ e t may
derived_is_changed image stage (instr.Turned d a) r s e t may = made_of_is r a.number d.number _ e t may
derived_is_changed image stage (instr.Acquire a) r s e t may = made_of_is r a.number a.number _ e t may
derived_is_changed image stage (instr.Copy d a) r s e t may = made_of_is r a.number d.number _ e t may
derived_is_changed image stage i r s e t (k, lt, is) = absurd (omega (arith, lt))

-- ---- what stays

abbrev pub is_lent : State → Bool
is_lent (lent rank from gone) = true
is_lent s = false

pub same_where_not_lent : (rs : List ℕ) (s : State) → is_lent s ≡ false → once_emptied rs s ≡ s
same_where_not_lent rs empty is = refl
same_where_not_lent rs whole is = refl
same_where_not_lent rs (object stood) is = refl
same_where_not_lent rs (held rank stood) is = refl
same_where_not_lent rs (lent rank from gone) is = cc
same_where_not_lent rs fault is = refl

in_emptied : (rs : List ℕ) (facts : List (ℕ × State)) (d : ℕ) (t : State) → Contains (each_once_emptied rs facts) (d, t)
    → (u : State) × Contains facts (d, u) × (once_emptied rs u ≡ t)
in_emptied rs [] d t (k, lt, is) = absurd (omega (arith, lt))
in_emptied rs (p ∷ facts) d t (zero, lt, is) = (p.1, (0, omega arith, ap (λ e. (e, p.1)) (ap (λ q. q.0) is)), ap (λ q. q.1) is)
in_emptied rs (p ∷ facts) d t (suc k, lt, is) =
    let rest = in_emptied rs facts d t (k, omega (arith, lt), is) in
    (rest.0, (suc rest.1.0, omega (arith, rest.1.1), rest.1.2), rest.2)

in_one : (s u : State) → Contains (s ∷ []) u → u ≡ s
in_one s u (zero, lt, is) = sym is
in_one s u (suc k, lt, is) = absurd (omega (arith, lt))

in_unless_empty : (s u : State) → Contains (unless_empty s) u → u ≡ s
in_unless_empty empty u (k, lt, is) = absurd (omega (arith, lt))
in_unless_empty whole u may = in_one whole u may
in_unless_empty (object stood) u may = in_one (object stood) u may
in_unless_empty (held rank stood) u may = in_one (held rank stood) u may
in_unless_empty (lent rank from gone) u may = in_one (lent rank from gone) u may
in_unless_empty fault u may = in_one fault u may

passed_same : (i : Instr) (r : ℕ) (s u : State) → Contains (passed i r s) u → u ≡ s
passed_same (instr.Need a) r s u may = by_first (nat_eq r a.number) may
  where
    by_first : (b : Bool) → Contains {X = State} (if b then unless_empty s else s ∷ []) u → u ≡ s
    by_first true may = in_unless_empty s u may
    by_first false may = in_one s u may
passed_same i r s u may = in_one s u may

-- A done instruction hands a fact on to its own register where it neither changes it nor hands it over, or makes another one's of it.
-- What is no lent view is then as it was.
pub handed_by_done : (image : ImageParts) (stage : Stage) (i : Instr) (r : ℕ) (s : State) (d : ℕ) (t : State)
    → is_one_of r (hands_over i) ≡ false → Contains (hands_on image stage i done r s) (d, t)
    → ((u : State) × Contains (derives i r s) (d, u) × (once_emptied (emptied i) u ≡ t))
    ⊎ ((d ≡ r) × (is_one_of r (changes image stage i) ≡ false) × Contains (passed i r s) s × (once_emptied (emptied i) s ≡ t))
unfolding hands_on
handed_by_done image stage i r s d t kept may =
    let found = in_emptied (emptied i) (derives i r s ++ all_at r (stays image stage i r s)) d t may in
    elim (Contains-append_cases _ _ (d, found.0) found.1) [
      | inl derived ↦ inl (found.0, derived, found.2)
      | inr stayed ↦
          let here = in_all_at r (stays image stage i r s) d found.0 stayed in
          let parts = stayed_as (is_one_of r (changes image stage i)) (is_one_of r (hands_over i)) kept found.0 here.1 in
          let same : found.0 ≡ s = passed_same i r s found.0 parts.1 in
          inr (
            here.0,
            parts.0,
            subst (λ u. Contains (passed i r s) u) same parts.1,
            ap (λ u. once_emptied (emptied i) u) (sym same) ∙
                found.2,
          )
    ]
  where
    stayed_as : (changed given : Bool) → given ≡ false → (u : State)
        → Contains {X = State} (if changed then [] else (if given then left_behind s ∷ [] else passed i r s)) u
        → (changed ≡ false) × Contains (passed i r s) u
    stayed_as true given kept u (k, lt, is) = absurd (omega (arith, lt))
    stayed_as false true kept u may = cc
    stayed_as false false kept u may = (refl, may)

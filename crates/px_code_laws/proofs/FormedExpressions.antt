-- The code of expressions of C types: its instructions keep the rules, and leave a number in the register.
use Rattle.std.proofs.Common.{◌≡◌, ◌≢◌, ℕ, zero, suc, ◌+◌, ◌/◌, ◌<◌, ◌≤◌, ◌^◌, ◌-◌, max, List, [], ◌∷◌, ◌++◌, length, Option, Some, None, Bool, refl, sym, ap, ◌∙◌, subst, arith, nat_eq, true, false, ◌&&◌, if◌then◌else◌}
use Rattle.std.specs.Prelude.{ℤ, pos, neg_ℤ, ◌≤ℤ◌, slice_get}
use Rattle.std.specs.Prelude.{nat_le}
use Rattle.std.proofs.lemmas.Int.{ints}
use Rattle.std.proofs.lemmas.Bool.{eqb-true, eq-eqb, leb-true}
use Rattle.std.proofs.lemmas.Option.{slice_get_within}
use Rattle.px_base.specs.declared.c_types.CType.{CType}
use Rattle.px_base.specs.declared.c_types.CType.TheVariants.{Bint, SizeT, SChar, UChar, Char, Short, UShort, Int, UInt, Long, ULong, LongLong, ULongLong, SsizeT}
use Rattle.px_ctypes.specs.Types.{bits, IsValueOf}
use Rattle.px_tree.specs.declared.typed_values.ValueType.{ValueType}
use Rattle.px_tree.specs.declared.typed_values.ValueType.TheVariants as type
use Rattle.px_tree.specs.declared.typed_values.Conversion.TheVariants as conversion
use Rattle.px_tree.specs.declared.typed_values.Comparing.TheVariants as comparing
use Rattle.px_tree.specs.declared.typed_heads.TypedHead.{TypedHead}
use Rattle.px_tree.specs.declared.typed_heads.TypedHead.TheVariants as head
use Rattle.px_walk.specs.Roses.{Roses, rose, none, more}
use Rattle.px_typed_walk.specs.TypedView.{TypedRose}
use Rattle.px_regcode.specs.declared.codes.Code.{Code}
use Rattle.px_regcode.specs.declared.instructions.Instr.{Instr}
use Rattle.px_regcode.specs.declared.instructions.Instr.TheVariants as instr
use Rattle.px_regcode.specs.Images.{ImageParts}
use Rattle.px_regcode.specs.Facts.{State, whole}
use Rattle.px_exprgen.specs.ExpressionCode.{Emission, register, part_code, on_one, on_two, steps_code, code_by, expression_code, expression_codes, width_by, width, widths, widest}
use Rattle.px_code_laws.specs.Fine.{HasType, FineHead, FineParts, IsFine, AreFine, AreSteps, types_of}
use Rattle.px_code_laws.proofs.Values.{size_value}
use Rattle.px_code_laws.proofs.Straight.{Kind, numeric, unowned, releasable, May, Kinds, put, put_same, put_other, Plain, Loses, Step, Path, joined, clean, is_whole}
use Rattle.px_code_laws.proofs.NumberSteps.{const_step, move_step, unary_step, convert_step, magnitude_step, binary_step, compare_step}

-- the numbers of C types are those that code has
pub constant_range : (t : CType) (n : ℤ) → IsValueOf t n → (neg_ℤ (pos (2 ^ 63)) ≤ℤ n) × (n ≤ℤ pos (2 ^ 64 - 1))
constant_range SChar n v = (omega (arith, ints, v.0), omega (arith, ints, v.1))
constant_range UChar n v = (omega (arith, ints, v.0), omega (arith, ints, v.1))
constant_range Char n v = (omega (arith, ints, v.0), omega (arith, ints, v.1))
constant_range Short n v = (omega (arith, ints, v.0), omega (arith, ints, v.1))
constant_range UShort n v = (omega (arith, ints, v.0), omega (arith, ints, v.1))
constant_range Int n v = (omega (arith, ints, v.0), omega (arith, ints, v.1))
constant_range UInt n v = (omega (arith, ints, v.0), omega (arith, ints, v.1))
constant_range Long n v = (omega (arith, ints, v.0), omega (arith, ints, v.1))
constant_range ULong n v = (omega (arith, ints, v.0), omega (arith, ints, v.1))
constant_range LongLong n v = (omega (arith, ints, v.0), omega (arith, ints, v.1))
constant_range ULongLong n v = (omega (arith, ints, v.0), omega (arith, ints, v.1))
constant_range SsizeT n v = (omega (arith, ints, v.0), omega (arith, ints, v.1))
constant_range SizeT n v = (omega (arith, ints, v.0), omega (arith, ints, v.1))
constant_range Bint n v = (omega (arith, ints, v.0), omega (arith, ints, v.1))

pub unequal : (r d : ℕ) → nat_eq r d ≡ false → r ≢ d
unequal r d is e = let t : nat_eq r d ≡ true = eq-eqb r d e in cc

-- a number where one is at hand
abbrev pub HandIs : Option CType → Kind → Type 0
HandIs None k = Unit {0}
HandIs (Some t) k = k ≡ numeric

module _ (image : ImageParts) (code : Code) (locals : List ValueType) (objects : ℕ) (handled : Bool) where
  abbrev pub Safe : Kinds → Type 0
  Safe at = (r : ℕ) (s : State) → May (at r) s → Loses image code (length locals) objects handled r s

  -- the variables are numbers, and the registers from d on hold no references
  pub record Ready (d : ℕ) (at : Kinds) : Type 0 where
    pub variables : (r : ℕ) → r < length locals → at r ≡ numeric
    pub free : (r : ℕ) → d ≤ r → Plain (at r)
    pub safe : Safe at

  -- code that leaves a number in d
  pub record Sets (d : ℕ) (before : Kinds) (is : List Instr) : Type 0 where
    pub after : Kinds
    pub path : Path image code (length locals) objects handled before is after
    pub ready : Ready d after
    pub same : (r : ℕ) → r < d → after r ≡ before r
    pub there : after d ≡ numeric
    pub inside : d < code.registers

  pub record Forms (at_hand : Option CType) (emission : Emission) (wide : ℕ) : Type 0 where
    pub run : (pc d : ℕ) (before : Kinds) → length locals + objects ≤ d → d + wide ≤ code.registers → Ready d before → HandIs at_hand (before d)
        → Sets d before (emission pc d)

  above_clean : (r : ℕ) → length locals + objects ≤ r → clean image code (length locals) objects r ≡ unowned
  above_clean r above = by_tests (nat_le (length locals) r) (nat_le (suc r) (length locals + objects)) refl
    where
      by_tests : (a b : Bool) → nat_le (suc r) (length locals + objects) ≡ b → (if a && b then releasable else unowned) ≡ unowned
      by_tests a true is = absurd (omega (arith, above, leb-true (suc r) (length locals + objects) is))
      by_tests true false is = refl
      by_tests false false is = refl

  pub loses_number : (h : Bool) (r : ℕ) → length locals + objects ≤ r → Loses image code (length locals) objects h r whole
  loses_number true r above = subst (λ k. May k whole) (sym (above_clean r above)) tt
  loses_number false r above = refl

  pub safe_put : (d : ℕ) (before : Kinds) → length locals + objects ≤ d → Safe before → Safe (put d numeric before)
  safe_put d before above safe r s may = by_test (nat_eq r d) refl may
    where
      by_test : (b : Bool) → nat_eq r d ≡ b → May (if b then numeric else before r) s → Loses image code (length locals) objects handled r s
      by_test true is number =
          subst (λ t. Loses image code (length locals) objects handled r t) (sym (is_whole numeric refl s number))
          (loses_number handled r (omega (arith, above, eqb-true r d is)))
      by_test false is other = safe r s other

  plain_put : (r d : ℕ) (before : Kinds) → Plain (before r) → Plain (put d numeric before r)
  plain_put r d before plain = by_test (nat_eq r d)
    where
      by_test : (b : Bool) → Plain (if b then numeric else before r)
      by_test true = tt
      by_test false = plain

  pub ready_put : (d : ℕ) (before : Kinds) → length locals + objects ≤ d → Ready d before → Ready d (put d numeric before)
  ready_put d before above ready = record {
    variables = λ r less. put_other d r numeric before (λ e. omega (arith, e, less, above)) ∙ ready.variables r less;
    free = λ r from. plain_put r d before (ready.free r from);
    safe = safe_put d before above ready.safe;
  }

  pub higher : (d : ℕ) (at : Kinds) → Ready d at → Ready (suc d) at
  higher d at ready = record { variables = ready.variables; free = λ r from. ready.free r (omega (arith, from)); safe = ready.safe }

  Walks : Kinds → List Instr → Kinds → Type 0
  Walks before is after = Path image code (length locals) objects handled before is after

  same_twice : {d : ℕ} {before mid after : Kinds} → ((r : ℕ) → r < d → mid r ≡ before r) → ((r : ℕ) → r < d → after r ≡ mid r) → (r : ℕ) → r < d → after r ≡ before r
  same_twice one other r less = other r less ∙ one r less

  -- ---- one instruction

  one_sets : (d : ℕ) (before : Kinds) (i : Instr) → length locals + objects ≤ d → d < code.registers → Ready d before
      → Step image code (length locals) objects handled before i (put d numeric before) → Sets d before (i ∷ [])
  one_sets d before i above inside ready step = record {
    after = put d numeric before;
    path = Path.go step Path.stop;
    ready = ready_put d before above ready;
    same = λ r less. put_other d r numeric before (λ e. omega (arith, e, less));
    there = put_same d numeric before;
    inside = inside;
  }

  -- an instruction behind code that leaves a number in d, and behind code for d and the register behind it

  then_one : (d : ℕ) (before : Kinds) (is : List Instr) (i : Instr) → length locals + objects ≤ d → (p : Sets d before is)
      → Step image code (length locals) objects handled p.after i (put d numeric p.after) → Sets d before (is ++ i ∷ [])
  then_one d before is i above p step =
      let q = one_sets d p.after i above p.inside p.ready step in
      record {
        after = q.after;
        path = joined image code (length locals) objects is (i ∷ []) p.path q.path;
        ready = q.ready;
        same = λ r less. q.same r less ∙ p.same r less;
        there = q.there;
        inside = q.inside;
      }

  then_two : (d : ℕ) (before : Kinds) (is js : List Instr) (i : Instr) → length locals + objects ≤ d → (p : Sets d before is) (q : Sets (suc d) p.after js)
      → Ready d q.after → (q.after d ≡ numeric → Step image code (length locals) objects handled q.after i (put d numeric q.after))
      → Sets d before (is ++ (js ++ i ∷ []))
  then_two d before is js i above p q ready step =
      let two = one_sets d q.after i above p.inside ready (step (q.same d (omega arith) ∙ p.there)) in
      record {
        after = two.after;
        path = joined image code (length locals) objects is (js ++ i ∷ []) p.path (joined image code (length locals) objects js (i ∷ []) q.path two.path);
        ready = two.ready;
        same = λ r less. two.same r less ∙ q.same r (omega (arith, less)) ∙ p.same r less;
        there = two.there;
        inside = two.inside;
      }

  lowered : (d : ℕ) (at : Kinds) → Ready (suc d) at → at d ≡ numeric → Ready d at
  lowered d at ready there = record {
    variables = ready.variables;
    free = λ r from. by_test r from (nat_eq r d) refl;
    safe = ready.safe;
  }
    where
      by_test : (r : ℕ) → d ≤ r → (b : Bool) → nat_eq r d ≡ b → Plain (at r)
      by_test r from true is = subst (λ k. Plain k) (sym (ap at (eqb-true r d is) ∙ there)) tt
      by_test r from false is = ready.free r (omega (arith, from, unequal r d is))

  -- ---- parts

  abbrev hand_at : Option CType → ℕ → Option CType
  hand_at at_hand zero = at_hand
  hand_at at_hand (suc k) = None

  record PartForms (at_hand : Option CType) (parts : Roses TypedHead) (k : ℕ) : Type 0 where
    wide : ℕ
    fits : k + wide ≤ widths parts
    forms : Forms (hand_at at_hand k) (part_code (expression_codes parts) k) wide

  abbrev PartsForm : Option CType → Roses TypedHead → Type 0
  PartsForm at_hand parts = (k : ℕ) (t : CType) → HasType (types_of parts) k t → PartForms at_hand parts k

  none_at : {emission : Emission} {wide : ℕ} (k : ℕ) → Forms (hand_at None k) emission wide → Forms None emission wide
  none_at zero r = r
  none_at (suc k) r = r

  type_there : {a : ValueType} {t : CType} → Some a ≡ Some (type.C t) → a ≡ type.C t
  type_there e = cc

  -- ---- forms of expressions

  constant_forms : (at_hand : Option CType) (n : ℤ) (wide : ℕ) → (neg_ℤ (pos (2 ^ 63)) ≤ℤ n) × (n ≤ℤ pos (2 ^ 64 - 1))
      → Forms at_hand (λ pc d. instr.Const (register d) n ∷ []) (max 1 wide)
  constant_forms at_hand n wide range = record {
    run = λ pc d before above room ready given.
        one_sets d before _ above (omega (arith, room)) ready (const_step image code (length locals) objects handled before ready.safe d n range (omega (arith, room)) (ready.free d (omega arith)));
  }

  local_forms : (at_hand : Option CType) (slot : ℕ) (t : CType) (wide : ℕ) → slice_get locals slot ≡ Some (type.C t)
      → Forms at_hand (λ pc d. instr.Move (register d) (register slot) ∷ []) (max 1 wide)
  local_forms at_hand slot t wide has = record {
    run = λ pc d before above room ready given.
        let within : slot < length locals = slice_get_within locals slot _ has in
        one_sets d before _ above (omega (arith, room)) ready (move_step image code (length locals) objects handled before ready.safe slot d (omega (arith, within, above, room)) (omega (arith, room))
        (ready.variables slot within) (ready.free d (omega arith)));
  }

  given_forms : (t : CType) (wide : ℕ) → Forms (Some t) (λ pc d. []) (max 1 wide)
  given_forms t wide = record {
    run = λ pc d before above room ready given. record { after = before; path = Path.stop; ready = ready; same = λ r less. refl; there = given; inside = omega (arith, room) };
  }

  cast_forms : {at_hand : Option CType} {parts : Roses TypedHead} → PartForms at_hand parts 0 → Forms at_hand (part_code (expression_codes parts) 0) (max 1 (widths parts))
  cast_forms p = record { run = λ pc d before above room ready given. p.forms.run pc d before above (omega (arith, room, p.fits)) ready given }

  unary_forms : {at_hand : Option CType} {parts : Roses TypedHead} (make : ℕ → Instr) → PartForms at_hand parts 0
      → ((d : ℕ) (before : Kinds) → d < code.registers → Ready d before → before d ≡ numeric → Step image code (length locals) objects handled before (make d) (put d numeric before))
      → Forms at_hand (on_one make (expression_codes parts)) (max 1 (widths parts))
  unary_forms make p step = record {
    run = λ pc d before above room ready given.
        let q = p.forms.run pc d before above (omega (arith, room, p.fits)) ready given in
        then_one d before _ (make d) above q (step d q.after (omega (arith, room)) q.ready q.there);
  }

  binary_forms : {at_hand : Option CType} {parts : Roses TypedHead} (make : ℕ → Instr) → PartForms at_hand parts 0 → PartForms at_hand parts 1
      → ((d : ℕ) (before : Kinds) → suc d < code.registers → Ready d before → before d ≡ numeric → before (suc d) ≡ numeric
      → Step image code (length locals) objects handled before (make d) (put d numeric before))
      → Forms at_hand (on_two make (expression_codes parts)) (max 1 (widths parts))
  binary_forms {parts = parts} make p p2 step = record {
    run = λ pc d before above room ready given.
        let left = part_code (expression_codes parts) 0 pc d in
        let q = p.forms.run pc d before above (omega (arith, room, p.fits)) ready given in
        let q2 = p2.forms.run (pc + length left) (suc d) q.after (omega (arith, above)) (omega (arith, room, p2.fits)) (higher d q.after q.ready) tt in
        let there : q2.after d ≡ numeric = q2.same d (omega arith) ∙ q.there in
        let low = lowered d q2.after q2.ready there in
        then_two d before left _ (make d) above q q2 low (λ is. step d q2.after q2.inside low is q2.there);
  }

  at_hand_as : {at_hand other : Option CType} {emission : Emission} {wide : ℕ} → other ≡ at_hand → Forms at_hand emission wide → Forms other emission wide
  at_hand_as {emission = emission} {wide = wide} same r = subst (λ g. Forms g emission wide) (sym same) r

  -- ---- by the head

  by_head : (h : TypedHead) (at_hand : Option CType) (parts : Roses TypedHead) → (AreFine locals at_hand parts → PartsForm at_hand parts)
      → ((t : CType) → AreSteps locals at_hand t parts → Forms at_hand (steps_code (expression_codes parts)) (max 1 (widest parts)))
      → FineHead locals at_hand h (types_of parts) → FineParts h (AreFine locals at_hand parts) (λ t. AreSteps locals at_hand t parts)
      → Forms at_hand (code_by h (expression_codes parts)) (width_by h (widths parts) (widest parts))
  unfolding code_by
  by_head (head.Literal t n) at_hand parts plain steps fine p = constant_forms at_hand n (widths parts) (constant_range t n fine)
  by_head (head.Sizeof t) at_hand parts plain steps fine p = constant_forms at_hand (pos (bits t / 8)) (widths parts) (constant_range SizeT _ (size_value t))
  by_head (head.Local slot (type.C t)) at_hand parts plain steps fine p = local_forms at_hand slot t (widths parts) fine
  by_head (head.Local slot type.Object) at_hand parts plain steps fine p = absurd fine
  by_head (head.Local slot (type.View t)) at_hand parts plain steps fine p = absurd fine
  by_head (head.Local slot type.Void) at_hand parts plain steps fine p = absurd fine
  by_head (head.Converted (conversion.ToC t)) at_hand parts plain steps fine p = unary_forms (λ d. instr.Convert t (register d) (register d)) (plain p 0 fine.given fine.has) (λ d before room ready there. convert_step image code (length locals) objects handled before ready.safe d d t room room there (ready.free d (omega arith)))
  by_head (head.Converted (conversion.ToObject t)) at_hand parts plain steps fine p = absurd fine
  by_head (head.Converted (conversion.FromObject t)) at_hand parts plain steps fine p = absurd fine
  by_head (head.Converted conversion.Truth) at_hand parts plain steps fine p = absurd fine
  by_head (head.Converted (conversion.ViewOfObject t)) at_hand parts plain steps fine p = absurd fine
  by_head (head.Converted (conversion.ViewOfView t)) at_hand parts plain steps fine p = absurd fine
  by_head (head.Cast (type.C t)) at_hand parts plain steps fine p = cast_forms (plain p 0 t fine)
  by_head (head.Cast type.Object) at_hand parts plain steps fine p = absurd fine
  by_head (head.Cast (type.View t)) at_hand parts plain steps fine p = absurd fine
  by_head (head.Cast type.Void) at_hand parts plain steps fine p = absurd fine
  by_head (head.Unary op t) at_hand parts plain steps fine p = unary_forms (λ d. instr.Unary op t (register d) (register d)) (plain p 0 t fine.1) (λ d before room ready there. unary_step image code (length locals) objects handled before ready.safe d d op t fine.0 room room there (ready.free d (omega arith)))
  by_head (head.Binary op t truncates) at_hand parts plain steps fine p = binary_forms (λ d. instr.Binary op t (register d) (register d) (register (suc d)) truncates) (plain p 0 t fine.1.0) (plain p 1 fine.1.1.given fine.1.1.has) (λ d before room ready there there2. binary_step image code (length locals) objects handled before ready.safe d (suc d) d op t truncates fine.0 (omega (arith, room)) room (omega (arith, room)) there there2 (ready.free d (omega arith)))
  by_head (head.Compare (comparing.C op t)) at_hand parts plain steps fine p = binary_forms (λ d. instr.Compare op t (register d) (register d) (register (suc d))) (plain p 0 t fine.0) (plain p 1 t fine.1) (λ d before room ready there there2. compare_step image code (length locals) objects handled before ready.safe d (suc d) d op t (omega (arith, room)) room (omega (arith, room)) there there2 (ready.free d (omega arith)))
  by_head (head.Compare (comparing.Objects op)) at_hand parts plain steps fine p = absurd fine
  by_head (head.Compare comparing.In) at_hand parts plain steps fine p = absurd fine
  by_head (head.Compare comparing.NotIn) at_hand parts plain steps fine p = absurd fine
  by_head (head.Compare comparing.Is) at_hand parts plain steps fine p = absurd fine
  by_head (head.Compare comparing.IsNot) at_hand parts plain steps fine p = absurd fine
  by_head (head.Abs t) at_hand parts plain steps fine p = unary_forms (λ d. instr.Magnitude t (register d) (register d)) (plain p 0 t fine.1) (λ d before room ready there. magnitude_step image code (length locals) objects handled before ready.safe d d t fine.0 room room there (ready.free d (omega arith)))
  by_head (head.Constant k) at_hand parts plain steps fine p = absurd fine
  by_head (head.ModuleName name) at_hand parts plain steps fine p = absurd fine
  by_head (head.Given (type.C t)) at_hand parts plain steps fine p = at_hand_as fine (given_forms t (widths parts))
  by_head (head.Given type.Object) at_hand parts plain steps fine p = absurd fine
  by_head (head.Given (type.View t)) at_hand parts plain steps fine p = absurd fine
  by_head (head.Given type.Void) at_hand parts plain steps fine p = absurd fine
  by_head (head.Kept t) at_hand parts plain steps fine p = absurd fine
  by_head (head.Steps (type.C t)) at_hand parts plain steps fine p = steps t p
  by_head (head.Steps type.Object) at_hand parts plain steps fine p = absurd fine
  by_head (head.Steps (type.View t)) at_hand parts plain steps fine p = absurd fine
  by_head (head.Steps type.Void) at_hand parts plain steps fine p = absurd fine
  by_head head.Comparisons at_hand parts plain steps fine p = absurd fine
  by_head head.Not at_hand parts plain steps fine p = absurd fine
  by_head (head.And t) at_hand parts plain steps fine p = absurd fine
  by_head (head.Or t) at_hand parts plain steps fine p = absurd fine
  by_head (head.Conditional t) at_hand parts plain steps fine p = absurd fine
  by_head (head.Call function t) at_hand parts plain steps fine p = absurd fine
  by_head (head.Min t) at_hand parts plain steps fine p = absurd fine
  by_head (head.Max t) at_hand parts plain steps fine p = absurd fine
  by_head head.ThreadId at_hand parts plain steps fine p = absurd fine
  by_head (head.ObjectUnary op) at_hand parts plain steps fine p = absurd fine
  by_head (head.ObjectBinary op) at_hand parts plain steps fine p = absurd fine
  by_head head.Tuple at_hand parts plain steps fine p = absurd fine
  by_head head.List at_hand parts plain steps fine p = absurd fine
  by_head head.Dict at_hand parts plain steps fine p = absurd fine
  by_head head.Item at_hand parts plain steps fine p = absurd fine
  by_head (head.Part has_from has_to has_step) at_hand parts plain steps fine p = absurd fine
  by_head (head.Method method) at_hand parts plain steps fine p = absurd fine
  by_head (head.Builtin what) at_hand parts plain steps fine p = absurd fine
  by_head (head.Element t wraparound) at_hand parts plain steps fine p = absurd fine
  by_head (head.ViewPart t wraparound) at_hand parts plain steps fine p = absurd fine
  by_head head.Index at_hand parts plain steps fine p = absurd fine
  by_head (head.Slice has_from has_to has_step) at_hand parts plain steps fine p = absurd fine
  by_head head.NewAxis at_hand parts plain steps fine p = absurd fine
  by_head head.Ellipsis at_hand parts plain steps fine p = absurd fine
  by_head (head.Transposed t) at_hand parts plain steps fine p = absurd fine
  by_head (head.Copied t) at_hand parts plain steps fine p = absurd fine
  by_head head.Length at_hand parts plain steps fine p = absurd fine
  by_head (head.Extent axis) at_hand parts plain steps fine p = absurd fine
  by_head head.Array at_hand parts plain steps fine p = absurd fine
  by_head (head.Keyword keyword) at_hand parts plain steps fine p = absurd fine
  by_head head.Expression at_hand parts plain steps fine p = absurd fine
  by_head head.Assign at_hand parts plain steps fine p = absurd fine
  by_head head.AssignEach at_hand parts plain steps fine p = absurd fine
  by_head head.Unpack at_hand parts plain steps fine p = absurd fine
  by_head (head.Augment op) at_hand parts plain steps fine p = absurd fine
  by_head head.Declare at_hand parts plain steps fine p = absurd fine
  by_head (head.Declarator slot t) at_hand parts plain steps fine p = absurd fine
  by_head head.Pass at_hand parts plain steps fine p = absurd fine
  by_head head.Break at_hand parts plain steps fine p = absurd fine
  by_head head.Continue at_hand parts plain steps fine p = absurd fine
  by_head head.Return at_hand parts plain steps fine p = absurd fine
  by_head (head.Raise kind) at_hand parts plain steps fine p = absurd fine
  by_head head.Reraise at_hand parts plain steps fine p = absurd fine
  by_head (head.Try clauses has_else has_finally) at_hand parts plain steps fine p = absurd fine
  by_head head.Block at_hand parts plain steps fine p = absurd fine
  by_head (head.Handler kinds assigns) at_hand parts plain steps fine p = absurd fine
  by_head (head.Catches kind) at_hand parts plain steps fine p = absurd fine
  by_head head.CatchesAll at_hand parts plain steps fine p = absurd fine
  by_head head.Global at_hand parts plain steps fine p = absurd fine
  by_head (head.If arms has_else) at_hand parts plain steps fine p = absurd fine
  by_head head.Arm at_hand parts plain steps fine p = absurd fine
  by_head head.While at_hand parts plain steps fine p = absurd fine
  by_head (head.Range arguments) at_hand parts plain steps fine p = absurd fine
  by_head head.Over at_hand parts plain steps fine p = absurd fine
  by_head (head.Parallel arguments nogil schedule) at_hand parts plain steps fine p = absurd fine
  by_head head.ChunkSize at_hand parts plain steps fine p = absurd fine
  by_head head.TeamSize at_hand parts plain steps fine p = absurd fine
  by_head head.WithGil at_hand parts plain steps fine p = absurd fine
  by_head head.WithNogil at_hand parts plain steps fine p = absurd fine
  by_head (head.ParallelBlock has_size) at_hand parts plain steps fine p = absurd fine

  mutual
    unfolding expression_code

    pub expression_forms : (tree : TypedRose) (at_hand : Option CType) → IsFine locals at_hand tree → Forms at_hand (expression_code tree) (width tree)
    expression_forms (rose h number at parts) at_hand fine =
        by_head h at_hand parts (λ all k u has. part_forms parts at_hand all k u has) (λ u all. steps_form parts at_hand u all) fine.0 fine.1

    part_forms : (parts : Roses TypedHead) (at_hand : Option CType) → AreFine locals at_hand parts → (k : ℕ) (t : CType) → HasType (types_of parts) k t → PartForms at_hand parts k
    part_forms none at_hand fine k t has = cc
    part_forms (more tree trees) at_hand fine zero t has =
        record { wide = width tree; fits = omega arith; forms = expression_forms tree at_hand fine.0 }
    part_forms (more tree trees) at_hand fine (suc k) t has =
        let p = part_forms trees None fine.1 k t has in
        record { wide = p.wide; fits = omega (arith, p.fits); forms = none_at k p.forms }

    steps_form : (parts : Roses TypedHead) (at_hand : Option CType) (t : CType) → AreSteps locals at_hand t parts
        → Forms at_hand (steps_code (expression_codes parts)) (max 1 (widest parts))
    steps_form none at_hand t fine = absurd fine
    steps_form (more tree none) at_hand t fine = record {
      run = λ pc d before above room ready given.
          let p = (expression_forms tree at_hand fine.0).run pc d before above (omega (arith, room)) ready given in
          record { after = p.after; path = joined image code (length locals) objects _ [] p.path Path.stop; ready = p.ready; same = p.same; there = p.there; inside = p.inside };
    }
    steps_form (more tree (more other trees)) at_hand t fine = record {
      run = λ pc d before above room ready given.
          let is = expression_code tree pc d in
          let p = (expression_forms tree at_hand fine.1.0.0).run pc d before above (omega (arith, room)) ready given in
          let q = (steps_form (more other trees) (Some fine.0) t fine.1.1).run (pc + length is) d p.after above (omega (arith, room)) p.ready p.there in
          record { after = q.after; path = joined image code (length locals) objects {mid = p.after} {after = q.after} is _ p.path q.path; ready = q.ready; same = λ r less. same_twice {mid = p.after} {after = q.after} p.same q.same r less; there = q.there; inside = q.inside };
    }

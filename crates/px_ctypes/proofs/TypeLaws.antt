-- Laws of the types and of the usual arithmetic conversions, by all cases.
use Rattle.std.proofs.Common.{◌≡◌, ◌≤ℤ◌, Bool, true, false, ◌&&◌, if◌then◌else◌, int_le, refl, arith}
use Rattle.std.proofs.lemmas.Int.{ints}
use Rattle.px_base.specs.declared.c_types.CType.{CType}
use Rattle.px_base.specs.declared.c_types.CType.TheVariants.{SChar, UChar, Char, Short, UShort, Int, UInt, Long, ULong, LongLong, ULongLong, SsizeT, SizeT, Bint}
use Rattle.px_ctypes.specs.Types.{is_signed, least, greatest}
use Rattle.px_ctypes.specs.Conversions.{promoted, common}

-- what holds of each type holds of all
pub on_all : (P : CType → Type 0) → P SChar → P UChar → P Char → P Short → P UShort → P Int → P UInt → P Long → P ULong → P LongLong → P ULongLong → P SsizeT → P SizeT → P Bint → (t : CType) → P t
on_all P a b c d e f g h i j k l m n SChar = a
on_all P a b c d e f g h i j k l m n UChar = b
on_all P a b c d e f g h i j k l m n Char = c
on_all P a b c d e f g h i j k l m n Short = d
on_all P a b c d e f g h i j k l m n UShort = e
on_all P a b c d e f g h i j k l m n Int = f
on_all P a b c d e f g h i j k l m n UInt = g
on_all P a b c d e f g h i j k l m n Long = h
on_all P a b c d e f g h i j k l m n ULong = i
on_all P a b c d e f g h i j k l m n LongLong = j
on_all P a b c d e f g h i j k l m n ULongLong = k
on_all P a b c d e f g h i j k l m n SsizeT = l
on_all P a b c d e f g h i j k l m n SizeT = m
on_all P a b c d e f g h i j k l m n Bint = n

pub common_comm : (a b : CType) → common a b ≡ common b a
common_comm a b = on_all (λ a. (b : CType) → common a b ≡ common b a)
    (on_all (λ b. let a = SChar in common a b ≡ common b a) refl refl refl refl refl refl refl refl refl refl refl refl refl refl)
    (on_all (λ b. let a = UChar in common a b ≡ common b a) refl refl refl refl refl refl refl refl refl refl refl refl refl refl)
    (on_all (λ b. let a = Char in common a b ≡ common b a) refl refl refl refl refl refl refl refl refl refl refl refl refl refl)
    (on_all (λ b. let a = Short in common a b ≡ common b a) refl refl refl refl refl refl refl refl refl refl refl refl refl refl)
    (on_all (λ b. let a = UShort in common a b ≡ common b a) refl refl refl refl refl refl refl refl refl refl refl refl refl refl)
    (on_all (λ b. let a = Int in common a b ≡ common b a) refl refl refl refl refl refl refl refl refl refl refl refl refl refl)
    (on_all (λ b. let a = UInt in common a b ≡ common b a) refl refl refl refl refl refl refl refl refl refl refl refl refl refl)
    (on_all (λ b. let a = Long in common a b ≡ common b a) refl refl refl refl refl refl refl refl refl refl refl refl refl refl)
    (on_all (λ b. let a = ULong in common a b ≡ common b a) refl refl refl refl refl refl refl refl refl refl refl refl refl refl)
    (on_all (λ b. let a = LongLong in common a b ≡ common b a) refl refl refl refl refl refl refl refl refl refl refl refl refl refl)
    (on_all (λ b. let a = ULongLong in common a b ≡ common b a) refl refl refl refl refl refl refl refl refl refl refl refl refl refl)
    (on_all (λ b. let a = SsizeT in common a b ≡ common b a) refl refl refl refl refl refl refl refl refl refl refl refl refl refl)
    (on_all (λ b. let a = SizeT in common a b ≡ common b a) refl refl refl refl refl refl refl refl refl refl refl refl refl refl)
    (on_all (λ b. let a = Bint in common a b ≡ common b a) refl refl refl refl refl refl refl refl refl refl refl refl refl refl) a b

holds_greatest : (a b : CType) → int_le (greatest (promoted a)) (greatest (common a b)) ≡ true
holds_greatest a b = on_all (λ a. (b : CType) → int_le (greatest (promoted a)) (greatest (common a b)) ≡ true)
    (on_all (λ b. let a = SChar in int_le (greatest (promoted a)) (greatest (common a b)) ≡ true) refl refl refl refl refl refl refl refl refl refl refl refl refl refl)
    (on_all (λ b. let a = UChar in int_le (greatest (promoted a)) (greatest (common a b)) ≡ true) refl refl refl refl refl refl refl refl refl refl refl refl refl refl)
    (on_all (λ b. let a = Char in int_le (greatest (promoted a)) (greatest (common a b)) ≡ true) refl refl refl refl refl refl refl refl refl refl refl refl refl refl)
    (on_all (λ b. let a = Short in int_le (greatest (promoted a)) (greatest (common a b)) ≡ true) refl refl refl refl refl refl refl refl refl refl refl refl refl refl)
    (on_all (λ b. let a = UShort in int_le (greatest (promoted a)) (greatest (common a b)) ≡ true) refl refl refl refl refl refl refl refl refl refl refl refl refl refl)
    (on_all (λ b. let a = Int in int_le (greatest (promoted a)) (greatest (common a b)) ≡ true) refl refl refl refl refl refl refl refl refl refl refl refl refl refl)
    (on_all (λ b. let a = UInt in int_le (greatest (promoted a)) (greatest (common a b)) ≡ true) refl refl refl refl refl refl refl refl refl refl refl refl refl refl)
    (on_all (λ b. let a = Long in int_le (greatest (promoted a)) (greatest (common a b)) ≡ true) refl refl refl refl refl refl refl refl refl refl refl refl refl refl)
    (on_all (λ b. let a = ULong in int_le (greatest (promoted a)) (greatest (common a b)) ≡ true) refl refl refl refl refl refl refl refl refl refl refl refl refl refl)
    (on_all (λ b. let a = LongLong in int_le (greatest (promoted a)) (greatest (common a b)) ≡ true) refl refl refl refl refl refl refl refl refl refl refl refl refl refl)
    (on_all (λ b. let a = ULongLong in int_le (greatest (promoted a)) (greatest (common a b)) ≡ true) refl refl refl refl refl refl refl refl refl refl refl refl refl refl)
    (on_all (λ b. let a = SsizeT in int_le (greatest (promoted a)) (greatest (common a b)) ≡ true) refl refl refl refl refl refl refl refl refl refl refl refl refl refl)
    (on_all (λ b. let a = SizeT in int_le (greatest (promoted a)) (greatest (common a b)) ≡ true) refl refl refl refl refl refl refl refl refl refl refl refl refl refl)
    (on_all (λ b. let a = Bint in int_le (greatest (promoted a)) (greatest (common a b)) ≡ true) refl refl refl refl refl refl refl refl refl refl refl refl refl refl) a b

holds_least : (a b : CType) → (if is_signed (common a b) then int_le (least (common a b)) (least (promoted a)) else true) ≡ true
holds_least a b = on_all (λ a. (b : CType) → (if is_signed (common a b) then int_le (least (common a b)) (least (promoted a)) else true) ≡ true)
    (on_all (λ b. let a = SChar in (if is_signed (common a b) then int_le (least (common a b)) (least (promoted a)) else true) ≡ true) refl refl refl refl refl refl refl refl refl refl refl refl refl refl)
    (on_all (λ b. let a = UChar in (if is_signed (common a b) then int_le (least (common a b)) (least (promoted a)) else true) ≡ true) refl refl refl refl refl refl refl refl refl refl refl refl refl refl)
    (on_all (λ b. let a = Char in (if is_signed (common a b) then int_le (least (common a b)) (least (promoted a)) else true) ≡ true) refl refl refl refl refl refl refl refl refl refl refl refl refl refl)
    (on_all (λ b. let a = Short in (if is_signed (common a b) then int_le (least (common a b)) (least (promoted a)) else true) ≡ true) refl refl refl refl refl refl refl refl refl refl refl refl refl refl)
    (on_all (λ b. let a = UShort in (if is_signed (common a b) then int_le (least (common a b)) (least (promoted a)) else true) ≡ true) refl refl refl refl refl refl refl refl refl refl refl refl refl refl)
    (on_all (λ b. let a = Int in (if is_signed (common a b) then int_le (least (common a b)) (least (promoted a)) else true) ≡ true) refl refl refl refl refl refl refl refl refl refl refl refl refl refl)
    (on_all (λ b. let a = UInt in (if is_signed (common a b) then int_le (least (common a b)) (least (promoted a)) else true) ≡ true) refl refl refl refl refl refl refl refl refl refl refl refl refl refl)
    (on_all (λ b. let a = Long in (if is_signed (common a b) then int_le (least (common a b)) (least (promoted a)) else true) ≡ true) refl refl refl refl refl refl refl refl refl refl refl refl refl refl)
    (on_all (λ b. let a = ULong in (if is_signed (common a b) then int_le (least (common a b)) (least (promoted a)) else true) ≡ true) refl refl refl refl refl refl refl refl refl refl refl refl refl refl)
    (on_all (λ b. let a = LongLong in (if is_signed (common a b) then int_le (least (common a b)) (least (promoted a)) else true) ≡ true) refl refl refl refl refl refl refl refl refl refl refl refl refl refl)
    (on_all (λ b. let a = ULongLong in (if is_signed (common a b) then int_le (least (common a b)) (least (promoted a)) else true) ≡ true) refl refl refl refl refl refl refl refl refl refl refl refl refl refl)
    (on_all (λ b. let a = SsizeT in (if is_signed (common a b) then int_le (least (common a b)) (least (promoted a)) else true) ≡ true) refl refl refl refl refl refl refl refl refl refl refl refl refl refl)
    (on_all (λ b. let a = SizeT in (if is_signed (common a b) then int_le (least (common a b)) (least (promoted a)) else true) ≡ true) refl refl refl refl refl refl refl refl refl refl refl refl refl refl)
    (on_all (λ b. let a = Bint in (if is_signed (common a b) then int_le (least (common a b)) (least (promoted a)) else true) ≡ true) refl refl refl refl refl refl refl refl refl refl refl refl refl refl) a b

holds_promoted : (t : CType) → (int_le (greatest t) (greatest (promoted t)) && int_le (least (promoted t)) (least t)) ≡ true
holds_promoted = on_all (λ t. (int_le (greatest t) (greatest (promoted t)) && int_le (least (promoted t)) (least t)) ≡ true) refl refl refl refl refl refl refl refl refl refl refl refl refl refl

both : (a b : Bool) → (a && b) ≡ true → (a ≡ true) × (b ≡ true)
both true b e = (refl, e)
both false b e = cc

pub promoted_greatest : (t : CType) → greatest t ≤ℤ greatest (promoted t)
promoted_greatest t = let h = (both (int_le (greatest t) (greatest (promoted t))) (int_le (least (promoted t)) (least t)) (holds_promoted t)).0 in omega (arith, ints, h)

pub promoted_least : (t : CType) → least (promoted t) ≤ℤ least t
promoted_least t = let h = (both (int_le (greatest t) (greatest (promoted t))) (int_le (least (promoted t)) (least t)) (holds_promoted t)).1 in omega (arith, ints, h)

pub common_greatest : (a b : CType) → greatest (promoted a) ≤ℤ greatest (common a b)
common_greatest a b = omega (arith, ints, holds_greatest a b)

chosen : (b c : Bool) → (if b then c else true) ≡ true → b ≡ true → c ≡ true
chosen true c e f = e
chosen false c e f = cc

pub common_least : (a b : CType) → is_signed (common a b) ≡ true → least (common a b) ≤ℤ least (promoted a)
common_least a b e = let h = chosen (is_signed (common a b)) (int_le (least (common a b)) (least (promoted a))) (holds_least a b) e in omega (arith, ints, h)

-- Laws of conversions: they stand between different types alone.
use Rattle.std.proofs.Common.{◌≡◌, ◌≢◌, List, [], ◌∷◌, get_or, refl, sym, ap, subst, ◌∙◌, eqb-true, eq-eqb}
use Rattle.std.specs.Prelude.{Bool, true, false, ◌&&◌, ◌||◌, not, if◌then◌else◌, nat_eq, Ok}
use Rattle.px_base.specs.declared.c_types.CType.{CType}
use Rattle.px_base.specs.declared.c_types.CType.TheVariants as c
use Rattle.px_tree.specs.TypedTypes.{type_of_conversion}
use Rattle.px_tree.specs.declared.typed_values.Layout.{Layout}
use Rattle.px_tree.specs.declared.typed_values.Layout.TheVariants as layout
use Rattle.px_tree.specs.declared.typed_values.ViewType.{ViewType}
use Rattle.px_tree.specs.declared.typed_values.ValueType.{ValueType}
use Rattle.px_tree.specs.declared.typed_values.ValueType.TheVariants as value
use Rattle.px_tree.specs.declared.typed_values.Conversion.{Conversion}
use Rattle.px_tree.specs.declared.typed_values.Conversion.TheVariants as conversion
use Rattle.px_typed_walk.specs.TypedView.{TypedRose, type_of}
use Rattle.px_operators.specs.declared.fittings.Fitting.{Fitting}
use Rattle.px_operators.specs.declared.fittings.Fitting.TheVariants as fitting
use Rattle.px_operators.specs.Conversions.{c_type_number, is_same_c, layout_number, is_same_layout, has_same_elements, keeps_const, is_same_view, view_fitting, object_fitting, fitting_of, converted, fitted_by, fitted, in_c}

-- ---- types of one number are one

abbrev c_types : List CType
c_types = c.SChar ∷ c.UChar ∷ c.Char ∷ c.Short ∷ c.UShort ∷ c.Int ∷ c.UInt ∷ c.Long ∷ c.ULong ∷ c.LongLong ∷ c.ULongLong ∷ c.SsizeT ∷ c.SizeT ∷ c.Bint ∷ []

numbered : (t : CType) → get_or c_types (c_type_number t) c.SChar ≡ t
numbered c.SChar = refl
numbered c.UChar = refl
numbered c.Char = refl
numbered c.Short = refl
numbered c.UShort = refl
numbered c.Int = refl
numbered c.UInt = refl
numbered c.Long = refl
numbered c.ULong = refl
numbered c.LongLong = refl
numbered c.ULongLong = refl
numbered c.SsizeT = refl
numbered c.SizeT = refl
numbered c.Bint = refl

pub same_c : (a b : CType) → is_same_c a b ≡ true → a ≡ b
same_c a b same = sym (numbered a) ∙ ap (λ n. get_or c_types n c.SChar) (eqb-true (c_type_number a) (c_type_number b) same) ∙ numbered b

pub c_itself : (t : CType) → is_same_c t t ≡ true
c_itself t = eq-eqb (c_type_number t) (c_type_number t) refl

abbrev layouts : List Layout
layouts = layout.Strided ∷ layout.RowMajor ∷ layout.ColumnMajor ∷ []

laid : (l : Layout) → get_or layouts (layout_number l) layout.Strided ≡ l
laid layout.Strided = refl
laid layout.RowMajor = refl
laid layout.ColumnMajor = refl

same_layout : (a b : Layout) → is_same_layout a b ≡ true → a ≡ b
same_layout a b same = sym (laid a) ∙ ap (λ n. get_or layouts n layout.Strided) (eqb-true (layout_number a) (layout_number b) same) ∙ laid b

-- ---- tests

left_of : (a b : Bool) → (a && b) ≡ true → a ≡ true
left_of true b both = refl
left_of false b both = cc

right_of : (a b : Bool) → (a && b) ≡ true → b ≡ true
right_of true b both = both
right_of false b both = cc

joined : (a b : Bool) → a ≡ true → b ≡ true → (a && b) ≡ true
joined true b first next = next
joined false b first next = cc

consts : (a b : Bool) → (b || not a) ≡ true → (a || not b) ≡ true → a ≡ b
consts true true there back = refl
consts false false there back = refl
consts true false there back = cc
consts false true there back = cc

const_itself : (a : Bool) → (a || not a) ≡ true
const_itself true = refl
const_itself false = refl

-- ---- what a choice gives

chosen_equal : (test : Bool) (how : Conversion) → (if test then fitting.Equal else fitting.By how) ≡ fitting.Equal → test ≡ true
chosen_equal true how is = refl
chosen_equal false how is = cc

chosen_by : (test : Bool) (how other : Conversion) → (if test then fitting.Equal else fitting.By how) ≡ fitting.By other → how ≡ other
chosen_by true how other is = cc
chosen_by false how other is = cc

chosen_first : (test : Bool) (how : Conversion) → test ≡ true → (if test then fitting.Equal else fitting.By how) ≡ fitting.Equal
chosen_first true how is = refl
chosen_first false how is = cc

allowed : (test : Bool) (f g : Fitting) → (if test then f else fitting.Never) ≡ g → (g ≡ fitting.Never → ⊥) → (test ≡ true) × (f ≡ g)
allowed true f g is some = (refl, is)
allowed false f g is some = absurd (some (sym is))

allowed_so : (test : Bool) (f : Fitting) → test ≡ true → (if test then f else fitting.Never) ≡ f
allowed_so true f is = refl
allowed_so false f is = cc

-- ---- of two types where a value of the one is one of the other, the types are one

view_equal : (a b : ViewType) → view_fitting a b ≡ fitting.Equal → a ≡ b
view_equal a b is =
    let fits = allowed (has_same_elements a b && keeps_const a b) (if is_same_view a b then fitting.Equal else fitting.By (conversion.ViewOfView b)) fitting.Equal is (λ none. cc) in
    let elements = left_of (has_same_elements a b) (keeps_const a b) fits.0 in
    let same = chosen_equal (is_same_view a b) (conversion.ViewOfView b) fits.1 in
    let element : a.element ≡ b.element = same_c a.element b.element (left_of (is_same_c a.element b.element) (nat_eq a.rank b.rank) elements) in
    let rank : a.rank ≡ b.rank = eqb-true a.rank b.rank (right_of (is_same_c a.element b.element) (nat_eq a.rank b.rank) elements) in
    let is_const : a.is_const ≡ b.is_const = consts a.is_const b.is_const (right_of (has_same_elements a b) (keeps_const a b) fits.0) (left_of (keeps_const b a) (is_same_layout a.layout b.layout) same) in
    let lies : a.layout ≡ b.layout = same_layout a.layout b.layout (right_of (keeps_const b a) (is_same_layout a.layout b.layout) same) in
    λ i. record { element = element i; rank = rank i; is_const = is_const i; layout = lies i }

object_no_equal : (t : CType) → object_fitting t ≡ fitting.Equal → ⊥
object_no_equal c.SChar is = cc
object_no_equal c.UChar is = cc
object_no_equal c.Char is = cc
object_no_equal c.Short is = cc
object_no_equal c.UShort is = cc
object_no_equal c.Int is = cc
object_no_equal c.UInt is = cc
object_no_equal c.Long is = cc
object_no_equal c.ULong is = cc
object_no_equal c.LongLong is = cc
object_no_equal c.ULongLong is = cc
object_no_equal c.SsizeT is = cc
object_no_equal c.SizeT is = cc
object_no_equal c.Bint is = cc

pub equal_types : (from to : ValueType) → fitting_of from to ≡ fitting.Equal → from ≡ to
equal_types (value.C a) (value.C b) is = ap value.C (same_c a b (chosen_equal (is_same_c a b) (conversion.ToC b) is))
equal_types (value.C a) value.Object is = cc
equal_types (value.C a) (value.View b) is = cc
equal_types (value.C a) value.Void is = cc
equal_types value.Object (value.C b) is = absurd (object_no_equal b is)
equal_types value.Object value.Object is = refl
equal_types value.Object (value.View b) is = cc
equal_types value.Object value.Void is = cc
equal_types (value.View a) (value.C b) is = cc
equal_types (value.View a) value.Object is = cc
equal_types (value.View a) (value.View b) is = ap value.View (view_equal a b is)
equal_types (value.View a) value.Void is = cc
equal_types value.Void (value.C b) is = cc
equal_types value.Void value.Object is = cc
equal_types value.Void (value.View b) is = cc
equal_types value.Void value.Void is = cc

-- ---- a conversion gives the type that is asked for

view_gives : (a b : ViewType) (how : Conversion) → view_fitting a b ≡ fitting.By how → conversion.ViewOfView b ≡ how
view_gives a b how is =
    chosen_by (is_same_view a b) (conversion.ViewOfView b) how
    (allowed (has_same_elements a b && keeps_const a b) (if is_same_view a b then fitting.Equal else fitting.By (conversion.ViewOfView b)) (fitting.By how) is (λ none. cc)).1

object_gives : (t : CType) (how : Conversion) → object_fitting t ≡ fitting.By how → type_of_conversion how ≡ value.C t
object_gives c.SChar how is = let same : how ≡ conversion.FromObject c.SChar = cc in ap type_of_conversion same
object_gives c.UChar how is = let same : how ≡ conversion.FromObject c.UChar = cc in ap type_of_conversion same
object_gives c.Char how is = let same : how ≡ conversion.FromObject c.Char = cc in ap type_of_conversion same
object_gives c.Short how is = let same : how ≡ conversion.FromObject c.Short = cc in ap type_of_conversion same
object_gives c.UShort how is = let same : how ≡ conversion.FromObject c.UShort = cc in ap type_of_conversion same
object_gives c.Int how is = let same : how ≡ conversion.FromObject c.Int = cc in ap type_of_conversion same
object_gives c.UInt how is = let same : how ≡ conversion.FromObject c.UInt = cc in ap type_of_conversion same
object_gives c.Long how is = let same : how ≡ conversion.FromObject c.Long = cc in ap type_of_conversion same
object_gives c.ULong how is = let same : how ≡ conversion.FromObject c.ULong = cc in ap type_of_conversion same
object_gives c.LongLong how is = let same : how ≡ conversion.FromObject c.LongLong = cc in ap type_of_conversion same
object_gives c.ULongLong how is = let same : how ≡ conversion.FromObject c.ULongLong = cc in ap type_of_conversion same
object_gives c.SsizeT how is = let same : how ≡ conversion.FromObject c.SsizeT = cc in ap type_of_conversion same
object_gives c.SizeT how is = let same : how ≡ conversion.FromObject c.SizeT = cc in ap type_of_conversion same
object_gives c.Bint how is = let same : how ≡ conversion.Truth = cc in ap type_of_conversion same

pub conversion_gives : (from to : ValueType) (how : Conversion) → fitting_of from to ≡ fitting.By how → type_of_conversion how ≡ to
conversion_gives (value.C a) (value.C b) how is = ap type_of_conversion (sym (chosen_by (is_same_c a b) (conversion.ToC b) how is))
conversion_gives (value.C a) value.Object how is = let same : how ≡ conversion.ToObject a = cc in ap type_of_conversion same
conversion_gives (value.C a) (value.View b) how is = cc
conversion_gives (value.C a) value.Void how is = cc
conversion_gives value.Object (value.C b) how is = object_gives b how is
conversion_gives value.Object value.Object how is = cc
conversion_gives value.Object (value.View b) how is = let same : how ≡ conversion.ViewOfObject b = cc in ap type_of_conversion same
conversion_gives value.Object value.Void how is = cc
conversion_gives (value.View a) (value.C b) how is = cc
conversion_gives (value.View a) value.Object how is = cc
conversion_gives (value.View a) (value.View b) how is = ap type_of_conversion (sym (view_gives a b how is))
conversion_gives (value.View a) value.Void how is = cc
conversion_gives value.Void (value.C b) how is = cc
conversion_gives value.Void value.Object how is = cc
conversion_gives value.Void (value.View b) how is = cc
conversion_gives value.Void value.Void how is = cc

-- ---- a type fits itself

view_itself : (v : ViewType) → view_fitting v v ≡ fitting.Equal
view_itself v =
    let elements = joined (is_same_c v.element v.element) (nat_eq v.rank v.rank) (c_itself v.element) (eq-eqb v.rank v.rank refl) in
    let stays = const_itself v.is_const in
    let lies = eq-eqb (layout_number v.layout) (layout_number v.layout) refl in
    allowed_so (has_same_elements v v && keeps_const v v) (if is_same_view v v then fitting.Equal else fitting.By (conversion.ViewOfView v))
    (joined (has_same_elements v v) (keeps_const v v) elements stays)
    ∙ chosen_first (is_same_view v v) (conversion.ViewOfView v) (joined (keeps_const v v) (is_same_layout v.layout v.layout) stays lies)

pub fits_itself : (t : ValueType) → t ≢ value.Void → fitting_of t t ≡ fitting.Equal
fits_itself (value.C t) some = chosen_first (is_same_c t t) (conversion.ToC t) (c_itself t)
fits_itself value.Object some = refl
fits_itself (value.View v) some = view_itself v
fits_itself value.Void some = absurd (some refl)

no_conversion : (t : ValueType) (how : Conversion) → fitting_of t t ≡ fitting.By how → ⊥
no_conversion (value.C t) how is = let itself = fits_itself (value.C t) (λ none. cc) in cc
no_conversion value.Object how is = cc
no_conversion (value.View v) how is = let itself = fits_itself (value.View v) (λ none. cc) in cc
no_conversion value.Void how is = cc

pub conversions_differ : (from to : ValueType) (how : Conversion) → fitting_of from to ≡ fitting.By how → from ≢ to
conversions_differ from to how is same = no_conversion to how (subst (λ t. fitting_of t to ≡ fitting.By how) same is)

-- ---- values

fitted_has : (f : Fitting) (from t : ValueType) (tree made : TypedRose) → fitting_of from t ≡ f → type_of tree ≡ from → fitted_by f tree ≡ Ok made → type_of made ≡ t
fitted_has fitting.Equal from t tree made fits has is =
    let same : made ≡ tree = cc in
    ap type_of same ∙ has ∙ equal_types from t fits
fitted_has (fitting.By how) from t tree made fits has is =
    let same : made ≡ converted how tree = cc in
    ap type_of same ∙ conversion_gives from t how fits
fitted_has fitting.Never from t tree made fits has is = cc

pub fitted_type : (t : ValueType) (tree made : TypedRose) → fitted t tree ≡ Ok made → type_of made ≡ t
fitted_type t tree made is = fitted_has (fitting_of (type_of tree) t) (type_of tree) t tree made refl refl is

pub fitted_stays : (t : ValueType) (tree : TypedRose) → t ≢ value.Void → type_of tree ≡ t → fitted t tree ≡ Ok tree
fitted_stays t tree some has =
    ap (λ from. fitted_by (fitting_of from t) tree) has ∙ ap (λ f. fitted_by f tree) (fits_itself t some)

-- ---- operands

chosen_tree : (test : Bool) (tree other : TypedRose) → test ≡ true → (if test then tree else other) ≡ tree
chosen_tree true tree other is = refl
chosen_tree false tree other is = cc

other_tree : (test : Bool) (tree other : TypedRose) → (test ≡ true → ⊥) → (if test then tree else other) ≡ other
other_tree true tree other fails = absurd (fails refl)
other_tree false tree other fails = refl

pub in_c_stays : (to : CType) (tree : TypedRose) → in_c to (tree, to) ≡ tree
in_c_stays to tree = chosen_tree (is_same_c to to) tree (converted (conversion.ToC to) tree) (c_itself to)

pub in_c_differs : (to from : CType) (tree : TypedRose) → from ≢ to → in_c to (tree, from) ≡ converted (conversion.ToC to) tree
in_c_differs to from tree differ = other_tree (is_same_c from to) tree (converted (conversion.ToC to) tree) (λ same. differ (same_c from to same))

taken_by : (test : Bool) (to from : CType) (tree : TypedRose) → (test ≡ true → from ≡ to) → type_of tree ≡ value.C from
    → type_of (if test then tree else converted (conversion.ToC to) tree) ≡ value.C to
taken_by true to from tree same has = has ∙ ap value.C (same refl)
taken_by false to from tree same has = refl

pub in_c_type : (to : CType) (o : TypedRose × CType) → type_of o.0 ≡ value.C o.1 → type_of (in_c to o) ≡ value.C to
in_c_type to o has = taken_by (is_same_c o.1 to) to o.1 o.0 (same_c o.1 to) has

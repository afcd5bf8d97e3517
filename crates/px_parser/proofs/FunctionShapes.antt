-- Functions as shapes: each is sound, can begin anywhere, and is read in one way.
use Rattle.std.proofs.Common.{◌≡◌, ◌⊎◌, inl, inr, ℕ, suc, ◌<◌, Bool, true, false, List, [], ◌∷◌, Option, codes, bytes_eq, refl, sym, ap, subst, ◌∙◌, arith}
use Rattle.std.proofs.lemmas.Bool.{true≢false}
use Rattle.px_base.specs.declared.refusals.Span.{Span}
use Rattle.px_lexer.specs.declared.spelling.Keyword.TheVariants as word
use Rattle.px_lexer.specs.declared.spelling.Operator.TheVariants as sign
use Rattle.px_lexer.specs.declared.token_list.TokenKind.{TokenKind}
use Rattle.px_lexer.specs.declared.token_list.TokenKind.TheVariants as kind
use Rattle.px_tree.specs.declared.typings.BaseType.{BaseType}
use Rattle.px_tree.specs.declared.typings.«Type».{«Type» as Typing}
use Rattle.px_tree.specs.declared.statements.Stmt.{Stmt}
use Rattle.px_tree.specs.declared.modules.Param.{Param}
use Rattle.px_tree.specs.declared.modules.Decorator.{Decorator}
use Rattle.px_tree.specs.declared.modules.FunctionKind.{FunctionKind}
use Rattle.px_tree.specs.declared.modules.FunctionKind.TheVariants as function_kind
use Rattle.px_tree.specs.declared.modules.ResultType.{ResultType}
use Rattle.px_tree.specs.declared.modules.ExceptionForm.{ExceptionForm}
use Rattle.px_tree.specs.declared.modules.ExceptionForm.TheVariants as exception
use Rattle.px_tree.specs.declared.modules.Lock.{Lock}
use Rattle.px_tree.specs.declared.modules.Lock.TheVariants as lock
use Rattle.px_exprs.specs.Codes.{code_at, kind_code, begins_code, Past}
use Rattle.px_lexer.specs.Terminals.{Terminal, HasKind, IsName, IsKeyword, IsOperator}
use Rattle.px_exprs.specs.Readings.{Stops, Agree}
use Rattle.px_exprs.specs.Typings.{AreNames, IsBase, HasConst, IsTyping}
use Rattle.px_exprs.proofs.BeginningCodes.{expr_codes}
use Rattle.px_exprs.proofs.Codes.{code_here}
use Rattle.px_lexer.proofs.OneToken.{one_name}
use Rattle.px_exprs.proofs.Keeping.{name_carried}
use Rattle.px_exprs.proofs.Stops.{code_carried, kind_stops}
use Rattle.px_exprs.proofs.Telling.{stop_here}
use Rattle.px_lexer.proofs.TokenAccess.{name_kind}
use Rattle.px_exprs.proofs.TypeReading.{base_forward}
use Rattle.px_parser.specs.Shapes.{Mode, Shape, Word, Sign, Name, Soft, Placed, Then, Seq, Either, Many, Of, After, Before, Or, Maybe, Nested}
use Rattle.px_parser.specs.Readings.{Anywhere}
use Rattle.px_parser.specs.Ends.{EndsName, EndsNames, EndsParameter, EndsDecorators, EndsException, IsBefore}
use Rattle.px_parser.specs.StatementGrammar.{IsWithinLimit, Block}
use Rattle.px_parser.specs.ModuleGrammar.{Numbered, Dotted, Truth, DecoratorLine, NotNone, Parameter, Parameters, Result, Exception, LockForm, CWord, DefHead, CHead, Tail, Rest, FunctionForm}
use Rattle.px_parser.specs.Parts.{CHeadRead, Caught}
use Rattle.px_parser.proofs.Shapely.{Solid, Good, good_token, good_soft, good_here, good_gives, good_seq, good_then, good_placed, good_either, good_many, good_of, good_after, good_before, good_or, good_elements, good_listed, sound_name, sound_here, sound_of, sound_token}
use Rattle.px_parser.proofs.Onlies.{Leads, Clash, Only, leads_token, leads_then, leads_seq, leads_here, leads_placed, leads_of, leads_after, leads_either, leads_gives, leads_listed, leads_wider, leads_anywhere, only_token, only_name, only_soft, only_here, only_gives, only_placed, only_then, only_seq, only_of, only_either, only_many, only_listed, only_after, only_before, only_or, only_narrower}
use Rattle.px_parser.proofs.ExprShapes.{good_expr, only_expr}
use Rattle.px_parser.proofs.TypedNames.{good_maybe_typing, good_numbered, good_result, only_maybe_typed, only_result}
use Rattle.px_parser.proofs.KindLaws.{IsNot, kind_missing, other_kind, kinds_apart, name_is_other, solid_token, solid_name, solid_front, solid_back, solid_placed, solid_of, solid_either, solid_after, leads_first, leads_name}
use Rattle.px_parser.proofs.ImportShapes.{good_dotted, solid_dotted, only_dotted}

-- Decorators

pub good_truth : Good Truth
unfolding Truth
good_truth = good_either (good_of _ (good_token _)) (good_of _ (good_token _))

pub only_truth : (S : Stops) → Only Truth S
unfolding Truth
only_truth S =
    only_either (sound_of _ (sound_token _)) (sound_of _ (sound_token _)) (only_of _ (only_token _ S)) (only_of _ (only_token _ S)) (leads_of _ (leads_token _ S (IsBefore (kind.Keyword word.True)) (λ ts i h. h)))
    (leads_of _ (leads_token _ S (IsBefore (kind.Keyword word.False)) (λ ts i h. h))) (kinds_apart (λ e. cc))

-- what stands behind the name
abbrev pub TruthClosed : Shape Bool
TruthClosed = Before Truth (kind.Operator sign.CloseParenthesis)

abbrev pub TruthLine : Shape Bool
TruthLine = Before TruthClosed kind.Newline

abbrev pub DecoratorCall : Shape Bool
DecoratorCall = After (kind.Operator sign.OpenParenthesis) TruthLine

abbrev pub DecoratorName : Shape (Span × (List (List ℕ) × Bool))
DecoratorName = Placed (Seq Dotted DecoratorCall)

pub good_truth_closed : Good TruthClosed
good_truth_closed = good_before _ good_truth

pub good_truth_line : Good TruthLine
good_truth_line = good_before _ good_truth_closed

pub only_truth_line : Only TruthLine Anywhere
only_truth_line = only_before kind.Newline Anywhere good_truth_closed.sound (only_before (kind.Operator sign.CloseParenthesis) Anywhere good_truth.sound (only_truth Anywhere) (λ ts i h. tt)) (λ ts i h. tt)

pub good_decorator_call : Good DecoratorCall
good_decorator_call = good_after _ good_truth_line

pub only_decorator_call : Only DecoratorCall Anywhere
only_decorator_call = only_after _ good_truth_line.sound only_truth_line

pub leads_decorator_call : {R : Stops} → Leads DecoratorCall R (EndsNames sign.Point)
leads_decorator_call {R = R} = leads_after TruthLine _ R (EndsNames sign.Point) (λ ts i h. other_kind (λ e. cc) ts i h)

pub solid_decorator_name : Solid (Seq Dotted DecoratorCall)
solid_decorator_name = solid_front solid_dotted good_decorator_call.sound

pub good_decorator_name : Good DecoratorName
good_decorator_name = good_placed solid_decorator_name (good_seq good_dotted good_decorator_call)

pub only_decorator_name : Only DecoratorName Anywhere
only_decorator_name = only_placed solid_decorator_name (only_seq good_dotted.sound good_decorator_call.sound only_dotted leads_decorator_call only_decorator_call)

pub good_decorator_behind : Good (After (kind.Operator sign.At) DecoratorName)
good_decorator_behind = good_after _ good_decorator_name

pub solid_decorator_behind : Solid (After (kind.Operator sign.At) DecoratorName)
solid_decorator_behind = solid_after _ good_decorator_name.sound

pub good_decorator_placed : Good (Placed (After (kind.Operator sign.At) DecoratorName))
good_decorator_placed = good_placed solid_decorator_behind good_decorator_behind

pub good_decorator_line : Good DecoratorLine
unfolding DecoratorLine
good_decorator_line = good_of _ (good_seq good_here good_decorator_placed)

pub solid_decorator_line : Solid DecoratorLine
unfolding DecoratorLine
solid_decorator_line = solid_of _ (solid_back sound_here (solid_placed solid_decorator_behind))

pub leads_decorator_line : {R : Stops} → Leads DecoratorLine R (IsBefore (kind.Operator sign.At))
unfolding DecoratorLine
leads_decorator_line {R = R} = leads_of _ (leads_here (leads_placed (leads_after DecoratorName _ R (IsBefore (kind.Operator sign.At)) (λ ts i h. h))))

pub only_decorator_line : Only DecoratorLine Anywhere
unfolding DecoratorLine
only_decorator_line =
    only_of _ (only_seq sound_here good_decorator_placed.sound (only_here Anywhere) (leads_anywhere (Placed (After (kind.Operator sign.At) DecoratorName)) Anywhere)
    (only_placed solid_decorator_behind (only_after _ good_decorator_name.sound only_decorator_name)))

pub good_decorators : Good (Many DecoratorLine)
good_decorators = good_many good_decorator_line

pub only_decorators : Only (Many DecoratorLine) EndsDecorators
only_decorators = only_many {S = EndsDecorators} good_decorator_line.sound only_decorator_line leads_decorator_line (kind_missing _) (λ ts i h. tt) (λ ts i h. tt)

-- Parameters

pub parameter_ends_name : (ts : List Terminal) (i : ℕ) → EndsParameter ts i → EndsName ts i
parameter_ends_name ts i (inl h) = (λ name n. name_is_other (λ e. cc) ts i n h, other_kind (λ e. cc) ts i h)
parameter_ends_name ts i (inr h) = (λ name n. name_is_other (λ e. cc) ts i n h, other_kind (λ e. cc) ts i h)

pub good_not_none : Good NotNone
unfolding NotNone
good_not_none = good_or _ (good_of _ (good_seq (good_token _) (good_token _)))

pub not_ends_none : Clash (IsBefore (kind.Keyword word.Not)) EndsParameter
not_ends_none ts us i agree h (inl g) = kinds_apart (λ e. cc) ts us i agree h g
not_ends_none ts us i agree h (inr g) = kinds_apart (λ e. cc) ts us i agree h g

abbrev pub NotNoneWords : Shape (Unit {0} × Unit {0})
NotNoneWords = Seq (Word word.Not) (Word word.None)

pub leads_not_none_words : {R : Stops} → Leads NotNoneWords R (IsBefore (kind.Keyword word.Not))
leads_not_none_words = leads_first (leads_token _ Anywhere (IsBefore (kind.Keyword word.Not)) (λ ts i h. h))

pub only_not_none : Only NotNone EndsParameter
unfolding NotNone
only_not_none =
    only_or _ (sound_of _ (good_seq (good_token _) (good_token _)).sound) (only_of _ (only_seq (sound_token _) (sound_token _) (only_token _ Anywhere) (leads_anywhere (Word word.None) EndsParameter) (only_token _ EndsParameter))) (leads_of _ leads_not_none_words)
    not_ends_none

pub leads_not_none : Leads NotNone EndsParameter EndsName
unfolding NotNone
leads_not_none = leads_either (leads_of _ (leads_wider leads_not_none_words (λ ts i h. (λ name n. name_is_other (λ e. cc) ts i n h, other_kind (λ e. cc) ts i h)))) (leads_gives _ parameter_ends_name)

words_begin : (ts : List Terminal) (i j : ℕ) (words : List (List ℕ)) → AreNames ts i words j → i < j → HasKind ts i kind.Name
words_begin ts i j [] a lt = absurd (omega (arith, a, lt))
words_begin ts i j (w ∷ ws) a lt = name_kind a.0

const_begins : {ts : List Terminal} {i k j : ℕ} {is_const : Bool} {b : BaseType} → HasConst ts i is_const k → IsBase ts k b j → HasKind ts i kind.Name
const_begins (HasConst.const w m e) h = name_kind w
const_begins {ts} {i} {k} {j} {b = b} (HasConst.plain m e) h = subst (λ x. HasKind ts x kind.Name) e (words_begin ts k j h.words h.stand (base_forward ts k j b h))

pub leads_typing : {R : Stops} → Leads (Nested IsTyping) R (IsBefore kind.Name)
leads_typing = record { leads = λ h r. const_begins h.read.const h.read.base }

pub solid_numbered : Solid Numbered
unfolding Numbered
solid_numbered = solid_back sound_here solid_name

pub leads_numbered : {R : Stops} → Leads Numbered R (IsBefore kind.Name)
unfolding Numbered
leads_numbered = leads_here leads_name

pub only_number : (S : Stops) → Only Numbered S
unfolding Numbered
only_number S = only_seq sound_here sound_name (only_here Anywhere) (leads_anywhere Name S) (only_name S)

abbrev pub ParameterName : Shape (Option Typing × (ℕ × List ℕ))
ParameterName = Seq (Maybe (Nested IsTyping)) Numbered

abbrev pub ParameterParts : Shape ((Option Typing × (ℕ × List ℕ)) × Bool)
ParameterParts = Seq ParameterName NotNone

pub good_parameter_name : Good ParameterName
good_parameter_name = good_seq good_maybe_typing good_numbered

pub leads_parameter_name : {R : Stops} → Leads ParameterName R (IsBefore kind.Name)
leads_parameter_name = leads_seq (leads_either (leads_of _ leads_typing) (leads_gives _ (λ ts i h. h))) leads_numbered

pub good_parameter_parts : Good ParameterParts
good_parameter_parts = good_seq good_parameter_name good_not_none

pub solid_parameter_parts : Solid ParameterParts
solid_parameter_parts = solid_front (solid_back good_maybe_typing.sound solid_numbered) good_not_none.sound

pub good_parameter : Good Parameter
unfolding Parameter
good_parameter = good_of _ (good_placed solid_parameter_parts good_parameter_parts)

pub solid_parameter : Solid Parameter
unfolding Parameter
solid_parameter = solid_of _ (solid_placed solid_parameter_parts)

pub leads_parameter : {R : Stops} → Leads Parameter R (IsBefore kind.Name)
unfolding Parameter
leads_parameter = leads_of _ (leads_placed (leads_first leads_parameter_name))

pub only_parameter : Only Parameter EndsParameter
unfolding Parameter
only_parameter = only_of _ (only_placed solid_parameter_parts (only_seq good_parameter_name.sound good_not_none.sound only_maybe_typed leads_not_none only_not_none))

pub good_parameters : Good Parameters
unfolding Parameters
good_parameters = good_elements _ good_parameter

pub only_parameters : Only Parameters (IsBefore (kind.Operator sign.CloseParenthesis))
unfolding Parameters
only_parameters =
    only_or _ (good_listed (kind.Operator sign.Comma) good_parameter).sound
    (only_listed {S = IsBefore (kind.Operator sign.CloseParenthesis)} _ good_parameter.sound only_parameter leads_parameter (kinds_apart (λ e. cc)) (kinds_apart (λ e. cc)) (λ ts i h. inl h) (λ ts i h. inr h))
    (leads_listed _ leads_parameter) (kinds_apart (λ e. cc))

-- What a function says of exceptions

-- a token that an expression begins with
abbrev pub BeginsExpr : Stops
BeginsExpr ts i = begins_code (code_at ts i) ≡ true

pub leads_to_expr : {R : Stops} → Leads IsWithinLimit R BeginsExpr
leads_to_expr = record { leads = λ h r. expr_codes h.read }

pub begins_no_expr : (k : TokenKind) → begins_code (kind_code k) ≡ false → Clash BeginsExpr (IsBefore k)
begins_no_expr k none ts us i agree h g = true≢false (sym h ∙ ap begins_code (sym (code_carried ts us i agree) ∙ code_here g) ∙ none)

-- an expression ends there
pub exception_past : (ts : List Terminal) (i : ℕ) → EndsException ts i → Past 26 ts i
exception_past ts i (inl h) = omega (arith, stop_here (name_kind h) refl)
exception_past ts i (inr (inl h)) = kind_stops h (omega arith)
exception_past ts i (inr (inr h)) = kind_stops h (omega arith)

abbrev pub CaughtMark : Shape ExceptionForm
CaughtMark = Either (After (kind.Operator sign.Question) (Of exception.Maybe IsWithinLimit)) (Of (λ _. exception.Any) (Sign sign.Star))

abbrev pub BeginsMark : Stops
BeginsMark ts i = IsOperator ts i sign.Question ⊎ IsOperator ts i sign.Star

pub good_maybe_caught : Good (Of exception.Maybe IsWithinLimit)
good_maybe_caught = good_of exception.Maybe good_expr

pub good_caught_mark : Good CaughtMark
good_caught_mark = good_either (good_after _ good_maybe_caught) (good_of _ (good_token _))

pub leads_caught_mark : {R : Stops} → Leads CaughtMark R BeginsMark
leads_caught_mark {R = R} = leads_either (leads_after (Of exception.Maybe IsWithinLimit) _ R BeginsMark (λ ts i h. inl h)) (leads_of _ (leads_token _ R BeginsMark (λ ts i h. inr h)))

pub only_ended_expr : Only IsWithinLimit EndsException
only_ended_expr = only_narrower only_expr exception_past

pub only_caught_mark : Only CaughtMark EndsException
only_caught_mark =
    only_either (good_after _ good_maybe_caught).sound (sound_of _ (sound_token _)) (only_after _ good_maybe_caught.sound (only_of exception.Maybe only_ended_expr)) (only_of _ (only_token _ EndsException))
    (leads_after (Of exception.Maybe IsWithinLimit) _ EndsException (IsBefore (kind.Operator sign.Question)) (λ ts i h. h)) (leads_of _ (leads_token _ EndsException (IsBefore (kind.Operator sign.Star)) (λ ts i h. h))) (kinds_apart (λ e. cc))

pub mark_begins_no_expr : Clash BeginsExpr BeginsMark
mark_begins_no_expr ts us i agree h (inl g) = begins_no_expr _ refl ts us i agree h g
mark_begins_no_expr ts us i agree h (inr g) = begins_no_expr _ refl ts us i agree h g

pub good_caught : Good Caught
unfolding Caught
good_caught = good_either (good_of exception.Except good_expr) good_caught_mark

pub only_caught : Only Caught EndsException
unfolding Caught
only_caught = only_either (sound_of exception.Except good_expr.sound) good_caught_mark.sound (only_of exception.Except only_ended_expr) only_caught_mark (leads_of _ leads_to_expr) leads_caught_mark mark_begins_no_expr

abbrev pub Excepted : Shape ExceptionForm
Excepted = Either (Of (λ _. exception.Noexcept) (Soft (codes "noexcept"))) (After (kind.Keyword word.Except) Caught)

abbrev pub BeginsExcepted : Stops
BeginsExcepted ts i = IsName ts i (codes "noexcept") ⊎ IsKeyword ts i word.Except

pub good_noexcept : Good (Of (λ _. exception.Noexcept) (Soft (codes "noexcept")))
good_noexcept = good_of _ (good_soft (codes "noexcept"))

pub good_except : Good (After (kind.Keyword word.Except) Caught)
good_except = good_after _ good_caught

pub good_excepted : Good Excepted
good_excepted = good_either good_noexcept good_except

leads_soft : {R : Stops} (name : List ℕ) → Leads (Soft name) R (λ ts i. IsName ts i name)
leads_soft name = record { leads = λ h r. h.stands }

pub leads_excepted : {R : Stops} → Leads Excepted R BeginsExcepted
leads_excepted {R = R} = leads_either (leads_of _ (leads_wider (leads_soft (codes "noexcept")) (λ ts i h. inl h))) (leads_after Caught _ R BeginsExcepted (λ ts i h. inr h))

pub names_differ : (name other : List ℕ) → bytes_eq name other ≡ false → bytes_eq other other ≡ true → (ts us : List Terminal) (i : ℕ) → Agree (suc i) us ts → IsName ts i name → IsName us i other → ⊥
names_differ name other apart same ts us i agree h g = true≢false (sym same ∙ ap (λ x. bytes_eq x other) (sym (one_name (name_carried (suc i) agree h (omega arith)) g)) ∙ apart)

pub name_and_kind : (k : TokenKind) → (kind.Name ≡ k → ⊥) → (ts us : List Terminal) (i : ℕ) → Agree (suc i) us ts → {name : List ℕ} → IsName ts i name → HasKind us i k → ⊥
name_and_kind k apart ts us i agree h g = kinds_apart apart ts us i agree (name_kind h) g

kind_and_name : (k : TokenKind) → (k ≡ kind.Name → ⊥) → (ts us : List Terminal) (i : ℕ) → Agree (suc i) us ts → {name : List ℕ} → HasKind ts i k → IsName us i name → ⊥
kind_and_name k apart ts us i agree h g = kinds_apart apart ts us i agree h (name_kind g)

pub only_excepted : Only Excepted EndsException
only_excepted =
    only_either good_noexcept.sound good_except.sound (only_of _ (only_soft (codes "noexcept") EndsException)) (only_after _ good_caught.sound only_caught) (leads_of _ (leads_soft (codes "noexcept")))
    (leads_after Caught _ EndsException (IsBefore (kind.Keyword word.Except)) (λ ts i h. h)) (λ ts us i agree h g. name_and_kind _ (λ e. cc) ts us i agree h g)

pub excepted_or_ended : Clash BeginsExcepted EndsException
excepted_or_ended ts us i agree (inl h) (inl g) = names_differ (codes "noexcept") (codes "nogil") refl refl ts us i agree h g
excepted_or_ended ts us i agree (inl h) (inr (inl g)) = name_and_kind _ (λ e. cc) ts us i agree h g
excepted_or_ended ts us i agree (inl h) (inr (inr g)) = name_and_kind _ (λ e. cc) ts us i agree h g
excepted_or_ended ts us i agree (inr h) (inl g) = kind_and_name _ (λ e. cc) ts us i agree h g
excepted_or_ended ts us i agree (inr h) (inr (inl g)) = kinds_apart (λ e. cc) ts us i agree h g
excepted_or_ended ts us i agree (inr h) (inr (inr g)) = kinds_apart (λ e. cc) ts us i agree h g

pub good_exception : Good Exception
unfolding Exception Caught
good_exception = good_or _ good_excepted

pub only_exception : Only Exception EndsException
unfolding Exception Caught
only_exception = only_or _ good_excepted.sound only_excepted leads_excepted excepted_or_ended

-- What a function says of the lock

abbrev pub WithGilWord : Shape Lock
WithGilWord = Of (λ _. lock.WithGil) (Soft (codes "gil"))

abbrev pub Locked : Shape Lock
Locked = Either (Of (λ _. lock.Nogil) (Soft (codes "nogil"))) (After (kind.Keyword word.With) WithGilWord)

abbrev pub BeginsLocked : Stops
BeginsLocked ts i = IsName ts i (codes "nogil") ⊎ IsKeyword ts i word.With

pub good_nogil : Good (Of (λ _. lock.Nogil) (Soft (codes "nogil")))
good_nogil = good_of _ (good_soft (codes "nogil"))

pub good_gil : Good WithGilWord
good_gil = good_of _ (good_soft (codes "gil"))

pub good_locked : Good Locked
good_locked = good_either good_nogil (good_after _ good_gil)

pub leads_locked : {R : Stops} → Leads Locked R BeginsLocked
leads_locked {R = R} = leads_either (leads_of _ (leads_wider (leads_soft (codes "nogil")) (λ ts i h. inl h))) (leads_after WithGilWord _ R BeginsLocked (λ ts i h. inr h))

pub only_locked : (S : Stops) → Only Locked S
only_locked S =
    only_either good_nogil.sound (good_after _ good_gil).sound (only_of _ (only_soft (codes "nogil") S)) (only_after _ good_gil.sound (only_of _ (only_soft (codes "gil") S))) (leads_of _ (leads_soft (codes "nogil")))
    (leads_after WithGilWord _ S (IsBefore (kind.Keyword word.With)) (λ ts i h. h)) (λ ts us i agree h g. name_and_kind _ (λ e. cc) ts us i agree h g)

pub locked_or_ended : Clash BeginsLocked (IsBefore (kind.Operator sign.Colon))
locked_or_ended ts us i agree (inl h) g = name_and_kind _ (λ e. cc) ts us i agree h g
locked_or_ended ts us i agree (inr h) g = kinds_apart (λ e. cc) ts us i agree h g

pub good_lock_form : Good LockForm
unfolding LockForm
good_lock_form = good_or _ good_locked

pub leads_lock_form : Leads LockForm (IsBefore (kind.Operator sign.Colon)) EndsException
unfolding LockForm
leads_lock_form = leads_either (leads_wider leads_locked (λ ts i h. elim (h) [ inl g ↦ inl g | inr g ↦ inr (inl g) ])) (leads_gives _ (λ ts i h. inr (inr h)))

pub only_lock_form : Only LockForm (IsBefore (kind.Operator sign.Colon))
unfolding LockForm
only_lock_form = only_or _ good_locked.sound (only_locked (IsBefore (kind.Operator sign.Colon))) leads_locked locked_or_ended

-- What stands between the parameters and the colon

pub good_said : Good (Seq Exception LockForm)
good_said = good_seq good_exception good_lock_form

pub only_said : Only (Seq Exception LockForm) (IsBefore (kind.Operator sign.Colon))
only_said = only_seq good_exception.sound good_lock_form.sound only_exception leads_lock_form only_lock_form

pub good_tail : (k : FunctionKind) → Good (Tail k)
good_tail function_kind.Def = good_gives _
good_tail function_kind.Cdef = good_said
good_tail function_kind.Cpdef = good_said

pub only_tail : (k : FunctionKind) → Only (Tail k) (IsBefore (kind.Operator sign.Colon))
only_tail function_kind.Def = only_gives _ (IsBefore (kind.Operator sign.Colon))
only_tail function_kind.Cdef = only_said
only_tail function_kind.Cpdef = only_said

-- Heads

abbrev pub FunctionHead : Type 0
FunctionHead = FunctionKind × (Bool × (ResultType × (ℕ × List ℕ)))

pub good_c_word : Good CWord
unfolding CWord
good_c_word = good_either (good_of _ (good_token _)) (good_of _ (good_token _))

pub solid_c_word : Solid CWord
unfolding CWord
solid_c_word = solid_either (solid_of _ (solid_token _)) (solid_of _ (solid_token _))

abbrev pub BeginsC : Stops
BeginsC ts i = IsKeyword ts i word.Cdef ⊎ IsKeyword ts i word.Cpdef

pub leads_c_word : {R : Stops} → Leads CWord R BeginsC
unfolding CWord
leads_c_word {R = R} = leads_either (leads_of _ (leads_token _ R BeginsC (λ ts i h. inl h))) (leads_of _ (leads_token _ R BeginsC (λ ts i h. inr h)))

pub only_c_word : (S : Stops) → Only CWord S
unfolding CWord
only_c_word S =
    only_either (sound_of _ (sound_token _)) (sound_of _ (sound_token _)) (only_of _ (only_token _ S)) (only_of _ (only_token _ S)) (leads_of _ (leads_token _ S (IsBefore (kind.Keyword word.Cdef)) (λ ts i h. h)))
    (leads_of _ (leads_token _ S (IsBefore (kind.Keyword word.Cpdef)) (λ ts i h. h))) (kinds_apart (λ e. cc))

abbrev pub InlineWord : Shape Bool
InlineWord = Or false (Of (λ _. true) (Word word.Inline))

pub good_inline : Good InlineWord
good_inline = good_or _ (good_of _ (good_token _))

pub only_inline : Only InlineWord (IsNot (kind.Keyword word.Inline))
only_inline =
    only_or false (sound_of (λ _. true) (sound_token _)) (only_of (λ _. true) (only_token _ (IsNot (kind.Keyword word.Inline)))) (leads_of (λ _. true) (leads_token _ (IsNot (kind.Keyword word.Inline)) (IsBefore (kind.Keyword word.Inline)) (λ ts i h. h)))
    (kind_missing _)

abbrev pub NamedResult : Shape (ResultType × (ℕ × List ℕ))
NamedResult = Seq Result Numbered

pub good_named_result : Good NamedResult
good_named_result = good_seq good_result good_numbered

pub leads_result : Leads Result (IsBefore kind.Name) (IsBefore kind.Name)
unfolding Result
leads_result = leads_either (leads_either (leads_of _ (leads_wider (leads_soft (codes "void")) (λ ts i h. name_kind h))) (leads_of _ leads_typing)) (leads_gives _ (λ ts i h. h))

pub leads_named_result : {R : Stops} → Leads NamedResult R (IsBefore kind.Name)
leads_named_result = leads_seq leads_result leads_numbered

abbrev pub InlineResult : Shape (Bool × (ResultType × (ℕ × List ℕ)))
InlineResult = Seq InlineWord NamedResult

pub good_inline_result : Good InlineResult
good_inline_result = good_seq good_inline good_named_result

pub only_inline_result : Only InlineResult EndsName
only_inline_result = only_seq good_inline.sound good_named_result.sound only_inline (leads_wider leads_named_result (λ ts i h. other_kind (λ e. cc) ts i h)) only_result

pub good_c_head : Good CHead
unfolding CHead
good_c_head = good_seq good_c_word good_inline_result

pub solid_c_head : Solid CHead
unfolding CHead
solid_c_head = solid_front solid_c_word good_inline_result.sound

pub leads_c_head : {R : Stops} → Leads CHead R BeginsC
unfolding CHead
leads_c_head = leads_first leads_c_word

pub only_c_head : Only CHead EndsName
unfolding CHead
only_c_head = only_seq good_c_word.sound good_inline_result.sound (only_c_word Anywhere) (leads_anywhere InlineResult EndsName) only_inline_result

pub good_def_head : Good DefHead
unfolding DefHead
good_def_head = good_after _ (good_of _ good_numbered)

pub solid_def_head : Solid DefHead
unfolding DefHead
solid_def_head = solid_after _ (sound_of _ good_numbered.sound)

pub leads_def_head : {R : Stops} → Leads DefHead R (IsBefore (kind.Keyword word.Def))
unfolding DefHead
leads_def_head {R = R} = leads_after _ _ R (IsBefore (kind.Keyword word.Def)) (λ ts i h. h)

pub only_def_head : (S : Stops) → Only DefHead S
unfolding DefHead
only_def_head S = only_after _ (sound_of _ good_numbered.sound) (only_of _ (only_number S))

abbrev pub SomeHead : Shape FunctionHead
SomeHead = Either DefHead CHead

abbrev pub BeginsHead : Stops
BeginsHead ts i = IsKeyword ts i word.Def ⊎ BeginsC ts i

pub opening_ends_name : (ts : List Terminal) (i : ℕ) → IsOperator ts i sign.OpenParenthesis → EndsName ts i
opening_ends_name ts i h = (λ name n. name_is_other (λ e. cc) ts i n h, other_kind (λ e. cc) ts i h)

pub good_some_head : Good SomeHead
good_some_head = good_either good_def_head good_c_head

pub solid_some_head : Solid SomeHead
solid_some_head = solid_either solid_def_head solid_c_head

pub leads_some_head : {R : Stops} → Leads SomeHead R BeginsHead
leads_some_head = leads_either (leads_wider leads_def_head (λ ts i h. inl h)) (leads_wider leads_c_head (λ ts i h. inr h))

pub def_or_c : Clash (IsBefore (kind.Keyword word.Def)) BeginsC
def_or_c ts us i agree h (inl g) = kinds_apart (λ e. cc) ts us i agree h g
def_or_c ts us i agree h (inr g) = kinds_apart (λ e. cc) ts us i agree h g

pub only_some_head : Only SomeHead (IsBefore (kind.Operator sign.OpenParenthesis))
only_some_head = only_either good_def_head.sound good_c_head.sound (only_def_head (IsBefore (kind.Operator sign.OpenParenthesis))) (only_narrower only_c_head opening_ends_name) leads_def_head leads_c_head def_or_c

pub good_c_head_read : Good CHeadRead
unfolding CHeadRead
good_c_head_read = good_of _ good_c_head

pub leads_c_head_read : {R : Stops} → Leads CHeadRead R BeginsC
unfolding CHeadRead
leads_c_head_read = leads_of _ leads_c_head

pub only_c_head_read : Only CHeadRead EndsName
unfolding CHeadRead
only_c_head_read = only_of _ only_c_head

-- Functions, with blocks that are read in one way

abbrev pub ParametersClosed : Shape (List Param)
ParametersClosed = Before Parameters (kind.Operator sign.CloseParenthesis)

abbrev pub FunctionBody : Shape (List Stmt)
FunctionBody = After (kind.Operator sign.Colon) Block

abbrev pub TailBody : FunctionKind → Shape ((ExceptionForm × Lock) × List Stmt)
TailBody k = Seq (Tail k) FunctionBody

abbrev pub RestParts : FunctionKind → Shape (List Param × ((ExceptionForm × Lock) × List Stmt))
RestParts k = Seq ParametersClosed (TailBody k)

pub good_parameters_closed : Good ParametersClosed
good_parameters_closed = good_before _ good_parameters

pub only_parameters_closed : Only ParametersClosed Anywhere
only_parameters_closed = only_before _ Anywhere good_parameters.sound only_parameters (λ ts i h. h)

pub good_body : Good Block → Good FunctionBody
good_body block = good_after _ block

pub leads_body : {R : Stops} → Leads FunctionBody R (IsBefore (kind.Operator sign.Colon))
leads_body {R = R} = leads_after Block _ R (IsBefore (kind.Operator sign.Colon)) (λ ts i h. h)

pub good_tail_body : (k : FunctionKind) → Good Block → Good (TailBody k)
good_tail_body k block = good_seq (good_tail k) (good_body block)

pub only_tail_body : (k : FunctionKind) → Good Block → Only Block Anywhere → Only (TailBody k) Anywhere
only_tail_body k good only = only_seq (good_tail k).sound (good_body good).sound (only_tail k) leads_body (only_after _ good.sound only)

pub good_rest_parts : (k : FunctionKind) → Good Block → Good (RestParts k)
good_rest_parts k block = good_seq good_parameters_closed (good_tail_body k block)

pub good_rest : (k : FunctionKind) → Good Block → Good (Rest k)
unfolding Rest
good_rest k block = good_after _ (good_rest_parts k block)

pub leads_rest : (k : FunctionKind) {R : Stops} → Leads (Rest k) R (IsBefore (kind.Operator sign.OpenParenthesis))
unfolding Rest
leads_rest k {R = R} = leads_after (RestParts k) _ R (IsBefore (kind.Operator sign.OpenParenthesis)) (λ ts i h. h)

pub only_rest : (k : FunctionKind) → Good Block → Only Block Anywhere → Only (Rest k) Anywhere
unfolding Rest
only_rest k good only =
    only_after _ (good_rest_parts k good).sound (only_seq good_parameters_closed.sound (good_tail_body k good).sound only_parameters_closed (leads_anywhere (TailBody k) Anywhere) (only_tail_body k good only))

abbrev pub HeadRest : Shape (FunctionHead × (List Param × ((ExceptionForm × Lock) × List Stmt)))
HeadRest = Then SomeHead (λ head. Rest head.0)

pub good_head_rest : Good Block → Good HeadRest
good_head_rest block = good_then good_some_head (λ head. good_rest head.0 block)

pub solid_head_rest : Good Block → Solid HeadRest
solid_head_rest block = record { grows = λ {t} h. omega (arith, solid_some_head.grows h.first, (good_rest t.0.0 block).sound.forward h.second) }

pub leads_head_rest : {R : Stops} → Leads HeadRest R BeginsHead
leads_head_rest {R = R} = leads_then (leads_some_head {R = Anywhere}) (λ head. leads_anywhere (Rest head.0) R)

pub only_head_rest : Good Block → Only Block Anywhere → Only HeadRest Anywhere
only_head_rest good only = only_then good_some_head.sound (λ head. (good_rest head.0 good).sound) only_some_head (λ head. leads_rest head.0) (λ head. only_rest head.0 good only)

abbrev pub FunctionParts : Shape (List Decorator × (Span × (FunctionHead × (List Param × ((ExceptionForm × Lock) × List Stmt)))))
FunctionParts = Seq (Many DecoratorLine) (Placed HeadRest)

pub good_function_parts : Good Block → Good FunctionParts
good_function_parts block = good_seq good_decorators (good_placed (solid_head_rest block) (good_head_rest block))

pub solid_function_parts : Good Block → Solid FunctionParts
solid_function_parts block = solid_back good_decorators.sound (solid_placed (solid_head_rest block))

pub good_function : Good Block → Good FunctionForm
unfolding FunctionForm
good_function block = good_of _ (good_placed (solid_function_parts block) (good_function_parts block))

pub solid_function : Good Block → Solid FunctionForm
unfolding FunctionForm
solid_function block = solid_of _ (solid_placed (solid_function_parts block))

-- a decorator, or `def`, `cdef` or `cpdef`
abbrev pub BeginsFunction : Stops
BeginsFunction ts i = IsOperator ts i sign.At ⊎ BeginsHead ts i

decorators_begin : {mode : Mode} {ts : List Terminal} {i n j : ℕ} {xs : List Decorator} → Many DecoratorLine mode ts i xs n j → BeginsHead ts j → BeginsFunction ts i
decorators_begin Many.none h = inr h
decorators_begin (Many.more first rest) h = inl ((leads_decorator_line {R = Anywhere}).leads first tt)

pub leads_function : {R : Stops} → Leads FunctionForm R BeginsFunction
unfolding FunctionForm
leads_function {R = R} =
    leads_of _ (leads_placed (leads_seq (record { leads = λ h r. decorators_begin h r }) (leads_placed (leads_head_rest {R = R}))))

pub head_ends_decorators : (ts : List Terminal) (i : ℕ) → BeginsHead ts i → EndsDecorators ts i
head_ends_decorators ts i (inl h) = other_kind (λ e. cc) ts i h
head_ends_decorators ts i (inr (inl h)) = other_kind (λ e. cc) ts i h
head_ends_decorators ts i (inr (inr h)) = other_kind (λ e. cc) ts i h

pub only_function : Good Block → Only Block Anywhere → Only FunctionForm Anywhere
unfolding FunctionForm
only_function good only =
    only_of _ (only_placed (solid_function_parts good) (only_seq good_decorators.sound (good_placed (solid_head_rest good) (good_head_rest good)).sound only_decorators (leads_placed (leads_wider leads_head_rest head_ends_decorators))
    (only_placed (solid_head_rest good) (only_head_rest good only))))

-- A module in which nothing is without code: its image is the code of it.
use Rattle.std.proofs.Common.{◌≡◌, Bool, true, false, ℕ, zero, suc, ◌+◌, ◌≤◌, List, [], ◌∷◌, length, map, take, slice_get, nat_eq, Option, Some, None, refl, ap, sym, subst, ◌∙◌, arith, eqb-true}
use Rattle.std.specs.Prelude.{◌&&◌, if◌then◌else◌, option_map}
use Rattle.std.proofs.lemmas.Bool.{false≢true}
use Rattle.std.proofs.lemmas.Option.{none-some, same_Some, slice_get-map}
use Rattle.px_base.specs.declared.refusals.Refusal.{Refusal}
use Rattle.px_base.specs.declared.refusals.Span.{Span}
use Rattle.px_base.specs.declared.objects.Constant.{Constant}
use Rattle.px_base.specs.declared.objects.Constant.TheVariants as constant
use Rattle.px_base.specs.Findings.{comes_first, first_of}
use Rattle.px_tree.specs.declared.modules.Lock.{Lock}
use Rattle.px_tree.specs.declared.modules.Lock.TheVariants as lock
use Rattle.px_tree.specs.declared.typed_values.ValueType.{ValueType}
use Rattle.px_tree.specs.declared.typed_values.ValueType.TheVariants as type
use Rattle.px_tree.specs.declared.typed_modules.Local.{Local}
use Rattle.px_tree.specs.declared.typed_modules.TypedFunction.{TypedFunction}
use Rattle.px_types.specs.TypedModule.{FunctionTypes, ModuleTypes, function_kept, module_kept}
use Rattle.px_tree.specs.declared.typed_modules.Typed.{Typed}
use Rattle.px_walk.specs.Roses.{gathered}
use Rattle.px_typed_walk.specs.TypedView.{TypedRose, rose_of_typed}
use Rattle.px_meaning.specs.Calls.{SourceFunction, Source, swallows}
use Rattle.px_meaning.specs.Modules.{function_of, source_of}
use Rattle.px_stmtgen.specs.FunctionCode.{function_code}
use Rattle.px_stmtgen.specs.StatementCode.{statement_width, result_width}
use Rattle.px_stmtgen.specs.Sizes.{objects, greatest, registers}
use Rattle.px_code_laws.specs.FineStatements.{Surrounding}
use Rattle.px_code_laws.specs.Compiled.{AllNumbers, AreCompiled, RoomFor, IsCode, FunctionIsCompiled, FunctionThere, CodeThere, IsCompiled}
use Rattle.px_compile.specs.Fits.{types_of_locals}
use Rattle.px_compile.specs.FitStatements.{callee_of, callees_of, end_fits, unfit, unfit_among}
use Rattle.px_compile.specs.FitModules.{has_none, is_unwritten, is_c, are_numbers, header_fits, unfit_in_function, unbuilt_at, unbuilt_in_functions, unbuilt_of}
use Rattle.px_compile.specs.ModuleImage.{function_in, source_in, none_place, objects_for, layout_for, code_of_function, code_of_module, module_image}
use Rattle.px_compile.proofs.FineFits.{left_of, right_of}
use Rattle.px_compile.proofs.FineStatementFits.{Serves, fine_end, fine_statement, nothing_first, by_group}

-- ---- nothing is found

some_of_two : (first : Bool) (a b : Refusal) → (if first then Some a else Some b) ≡ None → ⊥
some_of_two true a b is = none-some a (sym is)
some_of_two false a b is = none-some b (sym is)

nothing_of_two : (a b : Option Refusal) → first_of a b ≡ None → (a ≡ None) × (b ≡ None)
nothing_of_two None b is = (refl, is)
nothing_of_two (Some a) None is = (is, refl)
nothing_of_two (Some a) (Some b) is = absurd (some_of_two (comes_first a b) a b is)

nothing_unbuilt : (found : Option Span) → unbuilt_at found ≡ None → found ≡ None
nothing_unbuilt None is = refl
nothing_unbuilt (Some at) is = absurd (none-some _ (sym is))

-- what was found before, and what is in each function
record Nothing (none_there : Bool) (callees : List (Option ValueType)) (found : Option Refusal) (functions : List FunctionTypes) : Type 0 where
  before : found ≡ None
  inside : (k : ℕ) (f : FunctionTypes) → slice_get functions k ≡ Some f → unfit_in_function none_there callees f ≡ None

inside_first : (none_there : Bool) (callees : List (Option ValueType)) (first : FunctionTypes) (functions : List FunctionTypes)
    → unfit_in_function none_there callees first ≡ None
    → ((k : ℕ) (f : FunctionTypes) → slice_get functions k ≡ Some f → unfit_in_function none_there callees f ≡ None)
    → (k : ℕ) (f : FunctionTypes) → slice_get (first ∷ functions) k ≡ Some f → unfit_in_function none_there callees f ≡ None
inside_first none_there callees first functions here others zero f there =
    sym (ap (unfit_in_function none_there callees) (same_Some first f there)) ∙ here
inside_first none_there callees first functions here others (suc k) f there = others k f there

nothing_in : (none_there : Bool) (callees : List (Option ValueType)) (found : Option Refusal) (functions : List FunctionTypes)
    → unbuilt_in_functions none_there callees found functions ≡ None → Nothing none_there callees found functions
nothing_in none_there callees found [] is = record { before = is; inside = λ k f there. absurd (none-some _ there) }
nothing_in none_there callees found (f ∷ functions) is =
    let rest = nothing_in none_there callees (first_of found (unbuilt_at (unfit_in_function none_there callees f))) functions is in
    let both = nothing_of_two found (unbuilt_at (unfit_in_function none_there callees f)) rest.before in
    record {
      before = both.0;
      inside = inside_first none_there callees f functions (nothing_unbuilt (unfit_in_function none_there callees f) both.1) rest.inside;
    }

-- ---- a function

record HeaderFits (none_there : Bool) (f : FunctionTypes) : Type 0 where
  params : f.params ≡ 0
  lock : f.lock ≡ lock.Unwritten
  numbers : are_numbers f.locals ≡ true
  end : end_fits none_there f.gives ≡ true

unwritten : (l : Lock) → is_unwritten l ≡ true → l ≡ lock.Unwritten
unwritten lock.Unwritten is = refl
unwritten lock.Nogil is = absurd (false≢true is)
unwritten lock.WithGil is = absurd (false≢true is)

header : (none_there : Bool) (f : FunctionTypes) → header_fits none_there f ≡ true → HeaderFits none_there f
header none_there f is =
    let others = right_of (nat_eq f.params 0) (is_unwritten f.lock && (are_numbers f.locals && end_fits none_there f.gives)) is in
    let last = right_of (is_unwritten f.lock) (are_numbers f.locals && end_fits none_there f.gives) others in
    record {
      params = eqb-true _ _ (left_of (nat_eq f.params 0) _ is);
      lock = unwritten f.lock (left_of (is_unwritten f.lock) _ others);
      numbers = left_of (are_numbers f.locals) _ last;
      end = right_of (are_numbers f.locals) _ last;
    }

number_first : (t : ValueType) (others : Bool) (types : List ValueType) → (if is_c t then others else false) ≡ true → (others ≡ true → AllNumbers types)
    → AllNumbers (t ∷ types)
number_first (type.C t) others types is go = go is
number_first type.Object others types is go = absurd (false≢true is)
number_first (type.View t) others types is go = absurd (false≢true is)
number_first type.Void others types is go = absurd (false≢true is)

all_numbers : (locals : List Local) → are_numbers locals ≡ true → AllNumbers (types_of_locals locals)
all_numbers [] is = tt
all_numbers (local ∷ locals) is = number_first local.value_type (are_numbers locals) (types_of_locals locals) is (all_numbers locals)

none_stands : (constants : List Constant) → has_none constants ≡ true → slice_get constants (none_place constants) ≡ Some constant.None
none_stands [] is = absurd (false≢true is)
none_stands (constant.Text text ∷ constants) is = none_stands constants is
none_stands (constant.Wide n ∷ constants) is = none_stands constants is
none_stands (constant.None ∷ constants) is = refl

around : List ValueType → ValueType → List Constant → List (Option ValueType) → List TypedRose → Surrounding
around locals gives constants callees body = record {
  locals = locals;
  objects = objects_for gives body;
  gives = gives;
  none_at = none_place constants;
  constants = constants;
  callees = callees;
  locked = true;
}

serves : (locals : List ValueType) (gives : ValueType) (constants : List Constant) (callees : List (Option ValueType)) (body : List TypedRose)
    → Serves (around locals gives constants callees body) (has_none constants)
unfolding around
serves locals gives constants callees body = record { end = omega arith; locked = refl; none = none_stands constants }

are_compiled : (c : Surrounding) (none_there : Bool) (registers : ℕ) (body : List TypedRose) → Serves c none_there
    → unfit_among c.locals c.gives none_there c.callees (gathered body) ≡ None → greatest objects body ≤ c.objects
    → length c.locals + c.objects + greatest statement_width body ≤ registers → AreCompiled c registers body
are_compiled c none_there registers [] serves is room wide = tt
are_compiled c none_there registers (tree ∷ trees) serves is room wide =
    let both = nothing_first (unfit c.locals c.gives none_there c.callees tree) (unfit_among c.locals c.gives none_there c.callees (gathered trees)) is in (
      (fine_statement c none_there tree serves (omega (arith, room)) both.0, omega (arith, wide)),
      are_compiled c none_there registers trees serves both.1 (omega (arith, room)) (omega (arith, wide)),
    )

room_for : (t : ValueType) (first registers : ℕ) → first + result_width t ≤ registers → RoomFor t first registers
room_for (type.C t) first registers room = omega (arith, room)
room_for type.Object first registers room = tt
room_for (type.View t) first registers room = tt
room_for type.Void first registers room = tt

-- ---- the module

callee_gives : (b : Bool) (gives t : ValueType) → (if b then Some gives else None) ≡ Some t → gives ≡ t
callee_gives true gives t is = same_Some gives t is
callee_gives false gives t is = absurd (none-some t is)

function_there : (source : Source) (functions : List FunctionTypes) → source.functions ≡ map function_in functions → (k : ℕ) (t : ValueType)
    → (there : Option FunctionTypes) → slice_get functions k ≡ there → option_map callee_of there ≡ Some (Some t) → FunctionThere source k t
function_there source functions are k t None there is = absurd (none-some (Some t) is)
function_there source functions are k t (Some f) there is = record {
  callee = function_in f;
  there = ap (λ fs. slice_get fs k) are ∙ (slice_get-map function_in functions k ∙ ap (option_map function_in) there);
  gives = callee_gives (nat_eq f.params 0) f.gives t (same_Some _ _ is);
}

none_taken : (locals : List Local) → map (λ (local : Local). local.value_type) (take 0 locals) ≡ []
none_taken [] = refl
none_taken (local ∷ locals) = refl

header_holds : (b : Bool) (at : Span) → (b ≡ false → Some at ≡ None) → b ≡ true
header_holds true at other = refl
header_holds false at other = absurd (none-some at (sym (other refl)))

no_params : (n : ℕ) (locals : List Local) → n ≡ 0 → map (λ (local : Local). local.value_type) (take n locals) ≡ []
no_params n locals is = ap (λ k. map (λ (local : Local). local.value_type) (take k locals)) is ∙ none_taken locals

length_map : {A B : Type 0} (f : A → B) (xs : List A) → length (map f xs) ≡ length xs
length_map f [] = refl
length_map f (x ∷ xs) = ap suc (length_map f xs)

-- the code of a function in which nothing is without code
compiled_function : (source : Source) (constants : List Constant) (callees : List (Option ValueType)) (f : FunctionTypes) → source.constants ≡ constants
    → unfit_in_function (has_none constants) callees f ≡ None
    → FunctionIsCompiled source callees (function_in f) (code_of_function constants f)
unfolding around
compiled_function source constants callees f same is =
    let locals = types_of_locals f.locals in
    let body = f.body in
    let both = by_group (header_fits (has_none constants) f) (unfit_among locals f.gives (has_none constants) callees (gathered body)) (Some f.at) None is in
    let fits = header_holds (header_fits (has_none constants) f) f.at both.1 in
    let says = header (has_none constants) f fits in
    let serving = serves locals f.gives constants callees body in
    record {
      locals = locals;
      objects = objects_for f.gives body;
      none_at = none_place constants;
      variables = sym (length_map (λ (local : Local). local.value_type) f.locals);
      lock = says.lock;
      params = no_params f.params f.locals says.params;
      says = record { params = refl; result = refl; start = refl };
      is_code = subst (λ cs. IsCode (record (around locals f.gives constants callees body) { constants = cs }) (swallows f.is_noexcept f.gives) body (code_of_function constants f)) (sym same) (record {
        instrs = ap (λ n. function_code (layout_for locals f.gives constants body) n (swallows f.is_noexcept f.gives) body) says.params;
        numbers = all_numbers f.locals says.numbers;
        room = omega arith;
        end_room = room_for f.gives _ _ (omega arith);
        compiled = are_compiled (around locals f.gives constants callees body) (has_none constants) _ body serving (both.0 fits) (omega arith) (omega arith);
        end = fine_end (around locals f.gives constants callees body) (has_none constants) f.gives serving.end serving says.end;
        locked = refl;
      });
    }

code_there : (typed : ModuleTypes) → ((k : ℕ) (f : FunctionTypes) → slice_get typed.functions k ≡ Some f → unfit_in_function (has_none typed.constants) (callees_of typed.functions) f ≡ None)
    → (k : ℕ) (sf : SourceFunction) (there : Option FunctionTypes) → slice_get typed.functions k ≡ there → option_map function_in there ≡ Some sf
    → CodeThere (module_image typed) (source_in typed) (callees_of typed.functions) k sf
code_there typed inside k sf None there is = absurd (none-some sf is)
code_there typed inside k sf (Some f) there is =
    subst (CodeThere (module_image typed) (source_in typed) (callees_of typed.functions) k) (same_Some (function_in f) sf is) (record {
      code = code_of_function typed.constants f;
      there = slice_get-map (code_of_function typed.constants) typed.functions k ∙ ap (option_map (code_of_function typed.constants)) there;
      compiled = compiled_function (source_in typed) typed.constants (callees_of typed.functions) f refl (inside k f there);
    })

pub is_compiled : (typed : ModuleTypes) → unbuilt_of typed ≡ None → IsCompiled (module_image typed) (source_in typed)
unfolding around
is_compiled typed is =
    let body = typed.code in
    let constants = typed.constants in
    let callees = callees_of typed.functions in
    let nothing = nothing_in (has_none constants) callees (unbuilt_at (unfit_among [] type.Void (has_none constants) callees (gathered body))) typed.functions is in
    let serving = serves [] type.Void constants callees body in
    record {
      count = ap suc (length_map (code_of_function constants) typed.functions ∙ sym (length_map function_in typed.functions));
      constants = refl;
      callees = callees;
      are_callees = λ k t there. function_there (source_in typed) typed.functions refl k t (slice_get typed.functions k) refl (sym (slice_get-map callee_of typed.functions k) ∙ there);
      functions = λ k sf there. code_there typed nothing.inside k sf (slice_get typed.functions k) refl (sym (slice_get-map function_in typed.functions k) ∙ there);
      code = code_of_module typed;
      code_there = refl;
      objects = objects_for type.Void body;
      none_at = none_place constants;
      is_code = record {
        instrs = refl;
        numbers = tt;
        room = omega arith;
        end_room = tt;
        compiled = are_compiled (around [] type.Void constants callees body) (has_none constants) _ body serving
            (nothing_unbuilt (unfit_among [] type.Void (has_none constants) callees (gathered body)) nothing.before) (omega arith) (omega arith);
        end = tt;
        locked = refl;
      };
    }

same_functions : (functions : List TypedFunction) → map function_of functions ≡ map function_in (map function_kept functions)
same_functions [] = refl
same_functions (f ∷ functions) = ap (λ fs. function_of f ∷ fs) (same_functions functions)

-- the source of a module is that of what is kept of its types
pub same_source : (typed : Typed) → source_of typed ≡ source_in (module_kept typed)
same_source typed = ap (λ fs. record { code = map rose_of_typed typed.code; functions = fs; names = length typed.names; constants = typed.constants })
    (same_functions typed.functions)

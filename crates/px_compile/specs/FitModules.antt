-- The first thing in a module that has no code.
use Rattle.std.specs.Prelude.{Bool, true, false, ◌&&◌, if◌then◌else◌, nat_eq, List, [], ◌∷◌, Option, Some, None}
use Rattle.px_base.specs.declared.refusals.Refusal.{Refusal}
use Rattle.px_base.specs.declared.refusals.Span.{Span}
use Rattle.px_base.specs.declared.objects.Constant.{Constant}
use Rattle.px_base.specs.declared.objects.Constant.TheVariants as constant
use Rattle.px_base.specs.Findings.{first_of}
use Rattle.px_tree.specs.declared.modules.Lock.{Lock}
use Rattle.px_tree.specs.declared.modules.Lock.TheVariants as lock
use Rattle.px_tree.specs.declared.typed_values.ValueType.{ValueType}
use Rattle.px_tree.specs.declared.typed_values.ValueType.TheVariants as type
use Rattle.px_tree.specs.declared.typed_modules.Local.{Local}
use Rattle.px_types.specs.TypedModule.{FunctionTypes, ModuleTypes}
use Rattle.px_walk.specs.Roses.{gathered}
use Rattle.px_compile.specs.Fits.{types_of_locals}
use Rattle.px_compile.specs.FitStatements.{callees_of, end_fits, unfit_among}

-- None stands among constants
abbrev pub is_none : Constant → Bool
is_none (constant.Text text) = false
is_none (constant.Wide n) = false
is_none constant.None = true

abbrev pub has_none : List Constant → Bool
has_none [] = false
has_none (what ∷ constants) = if is_none what then true else has_none constants

abbrev pub is_unwritten : Lock → Bool
is_unwritten lock.Unwritten = true
is_unwritten lock.Nogil = false
is_unwritten lock.WithGil = false

abbrev pub is_c : ValueType → Bool
is_c (type.C t) = true
is_c type.Object = false
is_c (type.View t) = false
is_c type.Void = false

-- variables of C types
abbrev pub are_numbers : List Local → Bool
are_numbers [] = true
are_numbers (local ∷ locals) = if is_c local.value_type then are_numbers locals else false

-- a function without parameters and lock clause, whose variables are numbers
abbrev pub header_fits : Bool → FunctionTypes → Bool
header_fits none_there f = nat_eq f.params 0 && (is_unwritten f.lock && (are_numbers f.locals && end_fits none_there f.gives))

abbrev pub unfit_in_function : Bool → List (Option ValueType) → FunctionTypes → Option Span
unfit_in_function none_there callees f =
    if header_fits none_there f
    then unfit_among (types_of_locals f.locals) f.gives none_there callees (gathered f.body)
    else Some f.at

-- what isn't built is E27
abbrev pub unbuilt_at : Option Span → Option Refusal
unbuilt_at None = None
unbuilt_at (Some at) = Some (record { number = 27; line = at.line; column = at.column })

-- the first of what was found and what is found in these functions, by place
abbrev pub unbuilt_in_functions : Bool → List (Option ValueType) → Option Refusal → List FunctionTypes → Option Refusal
unbuilt_in_functions none_there callees found [] = found
unbuilt_in_functions none_there callees found (f ∷ functions) =
    unbuilt_in_functions none_there callees (first_of found (unbuilt_at (unfit_in_function none_there callees f))) functions

-- the first one of a module
abbrev pub unbuilt_of : ModuleTypes → Option Refusal
unbuilt_of typed =
    unbuilt_in_functions (has_none typed.constants) (callees_of typed.functions)
    (unbuilt_at (unfit_among [] type.Void (has_none typed.constants) (callees_of typed.functions) (gathered typed.code)))
    typed.functions

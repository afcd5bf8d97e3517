-- Rows of attributes, calls and subscripts behind an atom: what a name at their head is used for, and what their calls break.
use Rattle.std.specs.Prelude.{ℕ, Bool, true, false, ◌&&◌, ◌||◌, not, if◌then◌else◌, nat_eq, List, [], ◌∷◌, length, Option, Some, None, codes, bytes_eq, slice_get, option_and_then}
use Rattle.std.specs.List.{concat}
use Rattle.std.specs.Option.{option_or, unwrap_or}
use Rattle.px_base.specs.declared.refusals.Span.{Span}
use Rattle.px_base.specs.declared.refusals.Refusal.{Refusal}
use Rattle.px_base.specs.Findings.{first_of}
use Rattle.px_base.specs.declared.objects.Builtin.TheVariants as builtin
use Rattle.px_base.specs.declared.objects.Method.{Method}
use Rattle.px_base.specs.declared.objects.Method.TheVariants as method
use Rattle.px_walk.specs.Forms.{Form}
use Rattle.px_walk.specs.Forms as form
use Rattle.px_walk.specs.Roses.{head_of, at_of, parts_of}
use Rattle.px_walk.specs.ExprView.{Tree}
use Rattle.px_names.specs.declared.contexts.Role.{Role}
use Rattle.px_names.specs.declared.contexts.Role.TheVariants as role
use Rattle.px_names.specs.declared.meanings.Imported.{Imported}
use Rattle.px_names.specs.declared.meanings.Imported.TheVariants as import
use Rattle.px_names.specs.declared.meanings.Meaning.{Meaning}
use Rattle.px_names.specs.declared.meanings.Meaning.TheVariants as meaning
use Rattle.px_names.specs.declared.callees.Callee.{Callee}
use Rattle.px_names.specs.declared.callees.Callee.TheVariants as callee
use Rattle.px_names.specs.Imports.{member}
use Rattle.px_names.specs.Tables.{entry_of, is_among}
use Rattle.px_names.specs.Arguments.{is_number_wrong, is_keyword_wrong, keyword_of}

abbrev pub refusal : ℕ → Span → Refusal
refusal number at = record { number = number; line = at.line; column = at.column }

-- a broken rule at a place, unless what it asks for holds
abbrev pub unless : Bool → ℕ → Span → Option Refusal
unless true number at = None
unless false number at = Some (refusal number at)

-- The listed uses: functions and builtins are called at once, and `prange` and `array` are called under their dotted names.

-- what is called, and what stands behind the name up to the call and beyond
abbrev pub Use : Type 0
Use = Callee × List Tree

abbrev pub is_call : Form → Bool
is_call form.Call = true
is_call _ = false

abbrev pub is_call_first : List Tree → Bool
is_call_first [] = false
is_call_first (trailer ∷ trailers) = is_call (head_of trailer)

abbrev pub called : Callee → List Tree → Option Use
called c trailers = if is_call_first trailers then Some (c, trailers) else None

abbrev pub callee_of : Imported → Option Callee
callee_of import.Prange = Some callee.Prange
callee_of import.Array = Some callee.Array
callee_of _ = None

-- the thing of that attribute in what is imported
abbrev pub attribute_in : Imported → Form → Option Imported
attribute_in imported (form.Attribute name) = member imported name
attribute_in imported _ = None

abbrev pub import_called : Imported → List Tree → Option Use
import_called imported trailers = option_and_then (λ c. called c trailers) (callee_of imported)

abbrev pub import_used : Imported → List Tree → Option Use
import_used imported [] = None
import_used imported (trailer ∷ trailers) =
    option_or (import_called imported (trailer ∷ trailers))
    (option_and_then (λ part. import_used part trailers) (attribute_in imported (head_of trailer)))

-- the listed use of a name at the head of a row, by what it stands for; values are used in any way
abbrev pub use_of : Option Meaning → List Tree → Option Use
use_of (Some (meaning.Function number params)) trailers = called (callee.Function params) trailers
use_of (Some (meaning.Builtin b)) trailers = called (callee.Builtin b) trailers
use_of (Some (meaning.Import imported)) trailers = import_used imported trailers
use_of _ trailers = Some (callee.Value, trailers)

-- `range` and `prange` alone are what a `for` goes over

abbrev pub is_loop : Callee → Bool
is_loop (callee.Builtin builtin.Range) = true
is_loop callee.Prange = true
is_loop _ = false

abbrev pub is_head : Role → Bool
is_head role.Head = true
is_head _ = false

abbrev pub may_stand : Role → Use → Bool
may_stand r used = not (is_loop used.0) || is_head r && nat_eq (length used.1) 1

-- Methods

abbrev pub methods : List (List ℕ × Method)
methods =
    (codes "append", method.Append) ∷ (codes "pop", method.Pop) ∷ (codes "extend", method.Extend)
    ∷ (codes "reverse", method.Reverse) ∷ (codes "get", method.Get) ∷ (codes "keys", method.Keys)
    ∷ (codes "values", method.Values) ∷ (codes "items", method.Items) ∷ (codes "split", method.Split)
    ∷ (codes "join", method.Join) ∷ (codes "strip", method.Strip) ∷ []

-- what a call calls directly behind a trailer: a method by its name, and else a value
abbrev pub called_behind : Form → Callee
called_behind (form.Attribute name) = callee.Method (unwrap_or (entry_of methods name) method.Other)
called_behind _ = callee.Value

-- Calls: each is judged at the place of its row

abbrev pub call_refusal : Span → Callee → Tree → Option Refusal
call_refusal at c trailer =
    if is_call (head_of trailer) then
    first_of (unless (not (is_number_wrong c (parts_of trailer))) 13 at) (unless (not (is_keyword_wrong c (parts_of trailer))) 27 at)
    else None

-- of several trailers, the first of which calls this
abbrev pub calls_refusal : Span → Callee → List Tree → Option Refusal
calls_refusal at c [] = None
calls_refusal at c (trailer ∷ trailers) =
    first_of (call_refusal at c trailer) (calls_refusal at (called_behind (head_of trailer)) trailers)

-- The header of prange: `nogil` is the literal True or False, and `schedule` is one of three texts or None

abbrev pub schedules : List (List ℕ)
schedules = codes "static" ∷ codes "dynamic" ∷ codes "guided" ∷ []

abbrev pub is_truth_literal : Form → Bool
is_truth_literal form.True = true
is_truth_literal form.False = true
is_truth_literal _ = false

abbrev pub is_schedule : Form → Bool
is_schedule form.None = true
is_schedule (form.Text contents) = is_among schedules (concat contents)
is_schedule _ = false

abbrev pub is_literal_for : List ℕ → Form → Bool
is_literal_for name value =
    if bytes_eq (codes "nogil") name then is_truth_literal value
    else if bytes_eq (codes "schedule") name then is_schedule value else true

-- an argument has its keyword and its value, at whose place it stands
abbrev pub is_value_right : Option (List ℕ) → Option Tree → Bool
is_value_right (Some name) (Some value) = is_literal_for name (head_of value)
is_value_right _ _ = true

abbrev pub value_refusal : Tree → Option Refusal
value_refusal argument =
    unless (is_value_right (keyword_of (head_of argument)) (slice_get (parts_of argument) 0)) 27 (at_of argument)

abbrev pub values_refusal : List Tree → Option Refusal
values_refusal [] = None
values_refusal (argument ∷ arguments) = first_of (value_refusal argument) (values_refusal arguments)

abbrev pub values_of : List Tree → Option Refusal
values_of [] = None
values_of (call ∷ trailers) = values_refusal (parts_of call)

abbrev pub header_of : Callee → List Tree → Option Refusal
header_of callee.Prange trailers = values_of trailers
header_of _ trailers = None

abbrev pub header_refusal : Use → Option Refusal
header_refusal used = header_of used.0 used.1

-- Of a row with these trailers, whose name isn't used in a listed way
abbrev pub unlisted_refusal : Span → List Tree → Option Refusal
unlisted_refusal at trailers = first_of (unless false 27 at) (calls_refusal at callee.Value trailers)

-- of one with this use, in its role
abbrev pub use_refusal : Span → Role → Use → Option Refusal
use_refusal at r used = first_of (unless (may_stand r used) 27 at) (first_of (calls_refusal at used.0 used.1) (header_refusal used))

abbrev pub row_refusal : Span → Role → List Tree → Option Use → Option Refusal
row_refusal at r trailers None = unlisted_refusal at trailers
row_refusal at r trailers (Some used) = use_refusal at r used

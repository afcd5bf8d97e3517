-- The lines that tell of a refusal and of a fault, without a line end.
use Rattle.std.specs.Prelude.{ℕ, List, [], ◌∷◌, ◌++◌, codes, decimal, encode_utf8_all, slice_index_or}
use Rattle.px_base.specs.declared.refusals.Refusal.{Refusal}
use Rattle.px_base.specs.declared.faults.Fault.{Fault}
use Rattle.px_base.specs.declared.faults.Said.{Said}
use Rattle.px_base.specs.declared.faults.Said.TheVariants.{Row, Axis, Own}
use Rattle.px_base.specs.declared.faults.Kind.{Kind}
use Rattle.px_base.specs.declared.faults.Kind.TheVariants.{IndexError, ValueError, ZeroDivisionError, OverflowError, TypeError, KeyError, EOFError, NameError, UnboundLocalError, AttributeError, RuntimeError, RecursionError, OverlapError, LimitError}

-- the texts of the refusals E1 to E27, each at its number
unfoldable pub rule_texts : List (List ℕ)
rule_texts =
    codes "" ∷ codes "not UTF-8" ∷ codes "bad character, name or number" ∷ codes "bad indentation" ∷
    codes "string not ended" ∷ codes "syntax" ∷ codes "nested too deep" ∷ codes "text too large" ∷
    codes "float literal" ∷ codes "literal too wide" ∷ codes "unknown name" ∷ codes "name defined twice" ∷
    codes "types do not fit" ∷ codes "wrong number of arguments" ∷ codes "object step without the lock" ∷
    codes "call without the lock" ∷ codes "wrong lock change" ∷ codes "parallel loop with the lock held" ∷
    codes "reduction variable read" ∷ codes "mixed reduction operators" ∷ codes "loop index assigned" ∷
    codes "private variable read before it is assigned" ∷ codes "indeterminate variable read" ∷
    codes "writes may overlap" ∷ codes "view or object assigned in a parallel loop" ∷ codes "nested parallel loop" ∷
    codes "lock released in a section" ∷ codes "not in this language" ∷ []

-- the texts of the faults of rows 1 to 34, each at its row
unfoldable pub row_texts : List (List ℕ)
row_texts =
    codes "" ∷ codes "division by zero" ∷ codes "value too large" ∷ codes "division overflows" ∷
    codes "int over 128 bits" ∷ codes "shift count out of range" ∷ codes "negative shift count" ∷
    codes "step of zero" ∷ codes "team size out of range" ∷ codes "chunk size below one" ∷
    codes "loop index does not fit" ∷ codes "too many iterations" ∷ codes "too many elements" ∷
    codes "output too long" ∷ codes "index leaves its range" ∷ codes "views of a parallel loop overlap" ∷
    codes "view shapes differ" ∷ codes "view is not contiguous" ∷ codes "buffer format differs" ∷
    codes "bad array arguments" ∷ codes "an integer is required" ∷ codes "operands do not fit" ∷
    codes "wrong kind of object" ∷ codes "not hashable" ∷ codes "index out of range" ∷ codes "no such method" ∷
    codes "local variable not assigned" ∷ codes "name not assigned" ∷ codes "end of input" ∷
    codes "invalid literal for int()" ∷ codes "input is not UTF-8" ∷ codes "too many levels" ∷
    codes "wrong number of values to unpack" ∷ codes "empty argument" ∷ codes "too many objects" ∷ []

-- the text of a number in such a table; a number that isn't there has the empty text
abbrev pub text_at : List (List ℕ) → ℕ → List ℕ
text_at texts number = slice_index_or texts number []

-- a text behind what leads to it; nothing leads to the empty text
abbrev pub led_by : List ℕ → List ℕ → List ℕ
led_by lead [] = []
led_by lead (c ∷ cs) = lead ++ c ∷ cs

-- FILE:LINE:COLUMN: ENUMBER TEXT
abbrev pub refusal_text : List ℕ → Refusal → List ℕ
refusal_text file refusal =
    file ++ codes ":" ++ decimal refusal.line ++ codes ":" ++ decimal refusal.column ++ codes ": E" ++ decimal refusal.number
    ++ led_by (codes " ") (text_at rule_texts refusal.number)

abbrev pub kind_name : Kind → List ℕ
kind_name IndexError = codes "IndexError"
kind_name ValueError = codes "ValueError"
kind_name ZeroDivisionError = codes "ZeroDivisionError"
kind_name OverflowError = codes "OverflowError"
kind_name TypeError = codes "TypeError"
kind_name KeyError = codes "KeyError"
kind_name EOFError = codes "EOFError"
kind_name NameError = codes "NameError"
kind_name UnboundLocalError = codes "UnboundLocalError"
kind_name AttributeError = codes "AttributeError"
kind_name RuntimeError = codes "RuntimeError"
kind_name RecursionError = codes "RecursionError"
kind_name OverlapError = codes "OverlapError"
kind_name LimitError = codes "LimitError"

-- what is wrong on an axis: its step with ValueError, and else the index
abbrev pub axis_text : Kind → List ℕ
axis_text ValueError = codes "step of zero"
axis_text kind = codes "index out of range"

abbrev pub said_text : Kind → Said → List ℕ
said_text kind (Row row) = text_at row_texts row
said_text kind (Axis axis) = axis_text kind ++ codes " (axis " ++ decimal axis ++ codes ")"
said_text kind (Own text) = encode_utf8_all text

-- KIND: TEXT, or KIND alone where the text is empty
abbrev pub fault_text : Fault → List ℕ
fault_text fault = kind_name fault.kind ++ led_by (codes ": ") (said_text fault.kind fault.said)

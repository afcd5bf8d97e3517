-- Numbers of arguments and keywords of calls.
use Rattle.std.specs.Prelude.{ℕ, ◌-◌, Bool, true, false, ◌&&◌, ◌||◌, not, nat_eq, nat_le, List, [], ◌∷◌, length, Option, Some, None, codes, bytes_eq, filter_map}
use Rattle.std.specs.List.{list_any}
use Rattle.px_base.specs.declared.objects.Builtin.{Builtin}
use Rattle.px_base.specs.declared.objects.Builtin.TheVariants as builtin
use Rattle.px_base.specs.declared.objects.Method.{Method}
use Rattle.px_base.specs.declared.objects.Method.TheVariants as method
use Rattle.px_walk.specs.Forms.{Form}
use Rattle.px_walk.specs.Forms as form
use Rattle.px_walk.specs.Roses.{head_of}
use Rattle.px_walk.specs.ExprView.{Tree}
use Rattle.px_names.specs.Tables.{is_among}
use Rattle.px_names.specs.declared.callees.Callee.{Callee}
use Rattle.px_names.specs.declared.callees.Callee.TheVariants as callee

-- from the first number to the second
abbrev pub is_between : ℕ → ℕ → ℕ → Bool
is_between least greatest n = nat_le least n && nat_le n greatest

abbrev pub builtin_takes : Builtin → ℕ → Bool
builtin_takes builtin.Print n = true
builtin_takes builtin.Min n = nat_le 1 n
builtin_takes builtin.Max n = nat_le 1 n
builtin_takes builtin.Range n = is_between 1 3 n
builtin_takes builtin.List n = is_between 0 1 n
builtin_takes builtin.Tuple n = is_between 0 1 n
builtin_takes builtin.Input n = is_between 0 1 n
builtin_takes _ n = nat_eq n 1

abbrev pub method_takes : Method → ℕ → Bool
method_takes method.Append n = nat_eq n 1
method_takes method.Pop n = is_between 0 1 n
method_takes method.Extend n = nat_eq n 1
method_takes method.Reverse n = nat_eq n 0
method_takes method.Get n = is_between 1 2 n
method_takes method.Keys n = nat_eq n 0
method_takes method.Values n = nat_eq n 0
method_takes method.Items n = nat_eq n 0
method_takes method.Split n = is_between 0 1 n
method_takes method.Join n = nat_eq n 1
method_takes method.Strip n = nat_eq n 0
method_takes method.Other n = true

abbrev pub takes : Callee → ℕ → Bool
takes callee.Value n = true
takes (callee.Function params) n = nat_eq n params
takes (callee.Builtin b) n = builtin_takes b n
takes (callee.Method m) n = method_takes m n
takes callee.Prange n = is_between 1 3 n
takes callee.Array n = nat_eq n 0

abbrev pub prange_keywords : List (List ℕ)
prange_keywords = codes "nogil" ∷ codes "schedule" ∷ codes "chunksize" ∷ codes "num_threads" ∷ []

abbrev pub array_keywords : List (List ℕ)
array_keywords = codes "shape" ∷ codes "itemsize" ∷ codes "format" ∷ codes "mode" ∷ []

-- the keywords that a call may have

abbrev pub keywords_of : Callee → List (List ℕ)
keywords_of callee.Prange = prange_keywords
keywords_of callee.Array = array_keywords
keywords_of _ = []

abbrev pub keyword_of : Form → Option (List ℕ)
keyword_of (form.Argument name) = name
keyword_of _ = None

-- the keywords of a call, in the order of the text
abbrev pub keywords : List Tree → List (List ℕ)
keywords arguments = filter_map (λ argument. keyword_of (head_of argument)) arguments

abbrev pub count_of_keyword : Option (List ℕ) → ℕ
count_of_keyword None = 0
count_of_keyword (Some name) = 1

-- Keyword arguments of prange and array are no arguments of the number; those of other calls are.
abbrev pub number_of_arguments : Callee → List Tree → ℕ
number_of_arguments callee.Prange arguments = length arguments - length (keywords arguments)
number_of_arguments callee.Array arguments = length arguments - length (keywords arguments)
number_of_arguments _ arguments = length arguments

-- whether an argument, and whether a call, has this keyword

abbrev pub is_spelled_so : List ℕ → Option (List ℕ) → Bool
is_spelled_so spelling None = false
is_spelled_so spelling (Some name) = bytes_eq spelling name

abbrev pub is_keyword : List ℕ → Form → Bool
is_keyword spelling argument = is_spelled_so spelling (keyword_of argument)

abbrev pub has_keyword : List ℕ → List Tree → Bool
has_keyword spelling arguments = list_any (λ argument. is_keyword spelling (head_of argument)) arguments

-- whether a call has the keywords that it must have: those of array but `mode`
abbrev pub has_needed : Callee → List Tree → Bool
has_needed callee.Array arguments =
    has_keyword (codes "shape") arguments && has_keyword (codes "itemsize") arguments && has_keyword (codes "format") arguments
has_needed _ arguments = true

abbrev pub has_twice : List (List ℕ) → Bool
has_twice [] = false
has_twice (name ∷ names) = list_any (λ other. bytes_eq name other) names || has_twice names

-- whether a call has another number of arguments, lacks a keyword that it must have, or has one keyword twice
abbrev pub is_number_wrong : Callee → List Tree → Bool
is_number_wrong c arguments =
    not (takes c (number_of_arguments c arguments)) || not (has_needed c arguments) || has_twice (keywords arguments)

-- whether an argument, and whether a call, has a keyword that it may not have

abbrev pub is_not_among : List (List ℕ) → Option (List ℕ) → Bool
is_not_among words None = false
is_not_among words (Some name) = not (is_among words name)

abbrev pub is_wrong_keyword : Callee → Form → Bool
is_wrong_keyword c argument = is_not_among (keywords_of c) (keyword_of argument)

abbrev pub is_keyword_wrong : Callee → List Tree → Bool
is_keyword_wrong c arguments = list_any (λ argument. is_wrong_keyword c (head_of argument)) arguments

-- The listing of a module's code: its text, byte for byte.
use Rattle.std.specs.Prelude.{ℕ, suc, ◌/◌, ◌%◌, ◌&&◌, ◌||◌, not, nat_eq, nat_lt, if◌then◌else◌, List, [], ◌∷◌, ◌++◌, map, codes, decimal, encode_utf8, encode_utf8_all, slice_index_or}
use Rattle.std.specs.Fmt.{signed_decimal}
use Rattle.std.specs.List.{flat_map, list_any}
use Rattle.px_base.specs.Lines.{kind_name}
use Rattle.px_base.specs.declared.objects.Constant.{Constant}
use Rattle.px_base.specs.declared.objects.Constant.TheVariants as constant
use Rattle.px_regcode.specs.declared.codes.Code.{Code}
use Rattle.px_regcode.specs.declared.instructions.Instr.{Instr}
use Rattle.px_regcode.specs.declared.instructions.Instr.TheVariants as instr
use Rattle.px_regcode.specs.Words.{register_word, register_or_none, target_word, constant_word, flag_word, binary_word, unary_word, compare_word, type_word, type_or_none, method_word, builtin_word, order_word, stop_word}

-- the name of an instruction
unfoldable pub name_of : Instr → List ℕ
name_of (instr.Const d n) = codes "const"
name_of (instr.Move d a) = codes "move"
name_of (instr.Binary op t d a b truncates) = codes "binary"
name_of (instr.Unary op t d a) = codes "unary"
name_of (instr.Compare op t d a b) = codes "compare"
name_of (instr.Convert t d a) = codes "convert"
name_of (instr.Magnitude t d a) = codes "magnitude"
name_of (instr.Jump k) = codes "jump"
name_of (instr.Branch a k j) = codes "branch"
name_of instr.Turn = codes "turn"
name_of (instr.Call f d arguments) = codes "call"
name_of (instr.Return a) = codes "return"
name_of instr.Finish = codes "finish"
name_of (instr.Handle k) = codes "handle"
name_of instr.Unhandle = codes "unhandle"
name_of instr.Throw = codes "throw"
name_of (instr.Caught d) = codes "caught"
name_of (instr.Takes a kinds k) = codes "takes"
name_of (instr.Forget a) = codes "forget"
name_of (instr.Unset d) = codes "unset"
name_of (instr.Need a) = codes "need"
name_of (instr.Element t d a indices) = codes "element"
name_of (instr.Put t a indices b) = codes "put"
name_of (instr.Pick d a axis i wraps) = codes "pick"
name_of (instr.Slice d a axis b c e) = codes "slice"
name_of (instr.Axis d a n) = codes "axis"
name_of (instr.Turned d a) = codes "turned"
name_of (instr.Extent d a axis) = codes "extent"
name_of (instr.Ordered a order) = codes "ordered"
name_of (instr.Acquire a) = codes "acquire"
name_of (instr.Release a) = codes "release"
name_of (instr.Fill a b) = codes "fill"
name_of (instr.Spread d a) = codes "spread"
name_of instr.Ticket = codes "ticket"
name_of instr.Enter = codes "enter"
name_of instr.Leave = codes "leave"
name_of (instr.Loop n d k) = codes "loop"
name_of instr.Look = codes "look"
name_of instr.Claim = codes "claim"
name_of instr.Begin = codes "begin"
name_of instr.End = codes "end"
name_of (instr.Stop kind a) = codes "stop"
name_of (instr.Reduce op t x a) = codes "reduce"
name_of (instr.Members d) = codes "members"
name_of (instr.Text d n) = codes "text"
name_of (instr.Wide d n) = codes "wide"
name_of (instr.Box t d a) = codes "box"
name_of (instr.Unbox t d a) = codes "unbox"
name_of (instr.Truth d a) = codes "truth"
name_of (instr.Fetch d n) = codes "fetch"
name_of (instr.Keep n a) = codes "keep"
name_of (instr.Share d a) = codes "share"
name_of (instr.Drop a) = codes "drop"
name_of (instr.ObjectBinary op d a b) = codes "obinary"
name_of (instr.ObjectUnary op d a) = codes "ounary"
name_of (instr.ObjectCompare op d a b) = codes "ocompare"
name_of (instr.ObjectIn d a b) = codes "oin"
name_of (instr.ObjectGet d a b) = codes "oget"
name_of (instr.ObjectSet a b c) = codes "oset"
name_of (instr.ObjectCut d a b c e) = codes "ocut"
name_of (instr.List d arguments) = codes "list"
name_of (instr.Tuple d arguments) = codes "tuple"
name_of (instr.Dict d arguments) = codes "dict"
name_of (instr.Unpack n a items) = codes "unpack"
name_of (instr.Method m d a arguments) = codes "method"
name_of (instr.Builtin m d arguments) = codes "builtin"
name_of (instr.Print arguments) = codes "print"
name_of (instr.Input d arguments) = codes "input"
name_of (instr.Raise kind a) = codes "raise"
name_of (instr.Walk d x a) = codes "walk"
name_of (instr.Next d a x k) = codes "next"
name_of (instr.Array d arguments) = codes "array"
name_of (instr.View t d a rank) = codes "view"
name_of (instr.Copy d a) = codes "copy"
name_of (instr.Said d a) = codes "said"
name_of (instr.Rethrow a) = codes "rethrow"

-- the operands of an instruction, in their order
unfoldable pub operands_of : Instr → List (List ℕ)
operands_of (instr.Const d n) = register_word d ∷ signed_decimal n ∷ []
operands_of (instr.Move d a) = register_word d ∷ register_word a ∷ []
operands_of (instr.Binary op t d a b truncates) = binary_word op ∷ type_word t ∷ register_word d ∷ register_word a ∷ register_word b ∷ flag_word truncates ∷ []
operands_of (instr.Unary op t d a) = unary_word op ∷ type_word t ∷ register_word d ∷ register_word a ∷ []
operands_of (instr.Compare op t d a b) = compare_word op ∷ type_word t ∷ register_word d ∷ register_word a ∷ register_word b ∷ []
operands_of (instr.Convert t d a) = type_word t ∷ register_word d ∷ register_word a ∷ []
operands_of (instr.Magnitude t d a) = type_word t ∷ register_word d ∷ register_word a ∷ []
operands_of (instr.Jump k) = target_word k ∷ []
operands_of (instr.Branch a k j) = register_word a ∷ target_word k ∷ target_word j ∷ []
operands_of instr.Turn = []
operands_of (instr.Call f d arguments) = decimal f ∷ register_or_none d ∷ map register_word arguments
operands_of (instr.Return a) = register_word a ∷ []
operands_of instr.Finish = []
operands_of (instr.Handle k) = target_word k ∷ []
operands_of instr.Unhandle = []
operands_of instr.Throw = []
operands_of (instr.Caught d) = register_word d ∷ []
operands_of (instr.Takes a kinds k) = register_word a ∷ map kind_name kinds ++ target_word k ∷ []
operands_of (instr.Forget a) = register_word a ∷ []
operands_of (instr.Unset d) = register_word d ∷ []
operands_of (instr.Need a) = register_word a ∷ []
operands_of (instr.Element t d a indices) = type_word t ∷ register_word d ∷ register_word a ∷ map register_word indices
operands_of (instr.Put t a indices b) = type_word t ∷ register_word a ∷ map register_word indices ++ register_word b ∷ []
operands_of (instr.Pick d a axis i wraps) = register_word d ∷ register_word a ∷ decimal axis ∷ register_word i ∷ flag_word wraps ∷ []
operands_of (instr.Slice d a axis b c e) = register_word d ∷ register_word a ∷ decimal axis ∷ register_or_none b ∷ register_or_none c ∷ register_or_none e ∷ []
operands_of (instr.Axis d a n) = register_word d ∷ register_word a ∷ decimal n ∷ []
operands_of (instr.Turned d a) = register_word d ∷ register_word a ∷ []
operands_of (instr.Extent d a axis) = register_word d ∷ register_word a ∷ decimal axis ∷ []
operands_of (instr.Ordered a order) = register_word a ∷ order_word order ∷ []
operands_of (instr.Acquire a) = register_word a ∷ []
operands_of (instr.Release a) = register_word a ∷ []
operands_of (instr.Fill a b) = register_word a ∷ register_word b ∷ []
operands_of (instr.Spread d a) = register_word d ∷ register_word a ∷ []
operands_of instr.Ticket = []
operands_of instr.Enter = []
operands_of instr.Leave = []
operands_of (instr.Loop n d k) = decimal n ∷ register_or_none d ∷ target_word k ∷ []
operands_of instr.Look = []
operands_of instr.Claim = []
operands_of instr.Begin = []
operands_of instr.End = []
operands_of (instr.Stop kind a) = stop_word kind ∷ register_or_none a ∷ []
operands_of (instr.Reduce op t x a) = binary_word op ∷ type_word t ∷ register_word x ∷ register_word a ∷ []
operands_of (instr.Members d) = register_word d ∷ []
operands_of (instr.Text d n) = register_word d ∷ constant_word n ∷ []
operands_of (instr.Wide d n) = register_word d ∷ constant_word n ∷ []
operands_of (instr.Box t d a) = type_word t ∷ register_word d ∷ register_word a ∷ []
operands_of (instr.Unbox t d a) = type_or_none t ∷ register_word d ∷ register_word a ∷ []
operands_of (instr.Truth d a) = register_word d ∷ register_word a ∷ []
operands_of (instr.Fetch d n) = register_word d ∷ decimal n ∷ []
operands_of (instr.Keep n a) = decimal n ∷ register_word a ∷ []
operands_of (instr.Share d a) = register_word d ∷ register_word a ∷ []
operands_of (instr.Drop a) = register_word a ∷ []
operands_of (instr.ObjectBinary op d a b) = binary_word op ∷ register_word d ∷ register_word a ∷ register_word b ∷ []
operands_of (instr.ObjectUnary op d a) = unary_word op ∷ register_word d ∷ register_word a ∷ []
operands_of (instr.ObjectCompare op d a b) = compare_word op ∷ register_word d ∷ register_word a ∷ register_word b ∷ []
operands_of (instr.ObjectIn d a b) = register_word d ∷ register_word a ∷ register_word b ∷ []
operands_of (instr.ObjectGet d a b) = register_word d ∷ register_word a ∷ register_word b ∷ []
operands_of (instr.ObjectSet a b c) = register_word a ∷ register_word b ∷ register_word c ∷ []
operands_of (instr.ObjectCut d a b c e) = register_word d ∷ register_word a ∷ register_or_none b ∷ register_or_none c ∷ register_or_none e ∷ []
operands_of (instr.List d arguments) = register_word d ∷ map register_word arguments
operands_of (instr.Tuple d arguments) = register_word d ∷ map register_word arguments
operands_of (instr.Dict d arguments) = register_word d ∷ map register_word arguments
operands_of (instr.Unpack n a items) = decimal n ∷ register_word a ∷ map register_word items
operands_of (instr.Method m d a arguments) = method_word m ∷ register_word d ∷ register_word a ∷ map register_word arguments
operands_of (instr.Builtin m d arguments) = builtin_word m ∷ register_word d ∷ map register_word arguments
operands_of (instr.Print arguments) = map register_word arguments
operands_of (instr.Input d arguments) = register_word d ∷ map register_word arguments
operands_of (instr.Raise kind a) = kind_name kind ∷ register_or_none a ∷ []
operands_of (instr.Walk d x a) = register_word d ∷ register_word x ∷ register_word a ∷ []
operands_of (instr.Next d a x k) = register_word d ∷ register_word a ∷ register_word x ∷ target_word k ∷ []
operands_of (instr.Array d arguments) = register_word d ∷ map register_word arguments
operands_of (instr.View t d a rank) = type_word t ∷ register_word d ∷ register_word a ∷ decimal rank ∷ []
operands_of (instr.Copy d a) = register_word d ∷ register_word a ∷ []
operands_of (instr.Said d a) = register_word d ∷ register_word a ∷ []
operands_of (instr.Rethrow a) = register_word a ∷ []

-- the words of an instruction: its name and its operands
abbrev pub words : Instr → List (List ℕ)
words i = name_of i ∷ operands_of i

-- words, each behind a space
abbrev pub spaced : List (List ℕ) → List ℕ
spaced [] = []
spaced (word ∷ rest) = codes " " ++ word ++ spaced rest

-- the line of an instruction: two spaces, its number and its words
abbrev pub instruction_line : ℕ → Instr → List ℕ
instruction_line k i = codes "  " ++ decimal k ++ spaced (words i) ++ codes "\n"

-- the lines of instructions whose numbers begin with this one
abbrev pub instruction_lines : ℕ → List Instr → List ℕ
instruction_lines k [] = []
instruction_lines k (i ∷ rest) = instruction_line k i ++ instruction_lines (suc k) rest

-- the first line of a function: its name and the number of its registers
abbrev pub code_header : Code → List ℕ
code_header code = codes "function " ++ encode_utf8_all code.name ++ codes " registers " ++ decimal code.registers ++ codes "\n"

-- the code of a function: its first line, and a line for each instruction
abbrev pub code_text : Code → List ℕ
code_text code = code_header code ++ instruction_lines 0 code.instrs

-- the quote round the repr of a text: the double one where the text has the single one alone (Python, `repr` of `str`)
abbrev pub quote_of : List ℕ → ℕ
quote_of text = if list_any (nat_eq 39) text && not (list_any (nat_eq 34) text) then 34 else 39

-- a digit below 16, in lower case
abbrev pub hexadecimal_digit : ℕ → ℕ
hexadecimal_digit n = slice_index_or (codes "0123456789abcdef") n 48

-- a character below 256 by its two digits
abbrev pub hexadecimal_escape : ℕ → List ℕ
hexadecimal_escape c = codes "\\x" ++ hexadecimal_digit (c / 16) ∷ hexadecimal_digit (c % 16) ∷ []

-- a character within quotes; one of 128 or more stands as it is
abbrev pub escaped : ℕ → ℕ → List ℕ
escaped quote c =
    if nat_eq c 92 || nat_eq c quote then 92 ∷ c ∷ []
    else if nat_eq c 10 then codes "\\n"
    else if nat_eq c 13 then codes "\\r"
    else if nat_eq c 9 then codes "\\t"
    else if nat_lt c 32 || nat_eq c 127 then hexadecimal_escape c
    else encode_utf8 c

abbrev pub quoted : List ℕ → List ℕ
quoted text = quote_of text ∷ flat_map (escaped (quote_of text)) text ++ quote_of text ∷ []

-- the repr of a constant
abbrev pub repr_of : Constant → List ℕ
repr_of (constant.Text text) = quoted text
repr_of (constant.Wide n) = signed_decimal n
repr_of constant.None = codes "None"

abbrev pub constant_line : ℕ → Constant → List ℕ
constant_line n c = constant_word n ++ codes " " ++ repr_of c ++ codes "\n"

-- the lines of constants whose numbers begin with this one
abbrev pub constant_lines : ℕ → List Constant → List ℕ
constant_lines n [] = []
constant_lines n (c ∷ rest) = constant_line n c ++ constant_lines (suc n) rest

-- the listing: the code of the module and of its functions, and behind it the constants
abbrev pub listing_of : List Code → List Constant → List ℕ
listing_of list constants = flat_map code_text list ++ constant_lines 0 constants

-- How the writer of a listing holds the operands of an instruction, and the words that they give.
use Rattle.std.specs.Prelude.{ℕ, List, [], ◌∷◌, ◌++◌, map, decimal}
use Rattle.std.specs.Fmt.{signed_decimal}
use Rattle.px_base.specs.Lines.{kind_name}
use Rattle.px_regcode.specs.declared.operand_words.Operand.{Operand}
use Rattle.px_regcode.specs.declared.operand_words.Operand.TheVariants as operand
use Rattle.px_regcode.specs.declared.operand_words.Row.{Row}
use Rattle.px_regcode.specs.declared.operand_words.Row.TheVariants as row
use Rattle.px_regcode.specs.Words.{register_word, register_or_none, target_word, constant_word, flag_word, binary_word, unary_word, compare_word, type_word, type_or_none, method_word, builtin_word, order_word, stop_word}

abbrev pub operand_words : Operand → List (List ℕ)
operand_words (operand.Register r) = register_word r ∷ []
operand_words (operand.RegisterOrNone r) = register_or_none r ∷ []
operand_words (operand.Registers rs) = map register_word rs.now
operand_words (operand.Target k) = target_word k ∷ []
operand_words (operand.Constant n) = constant_word n ∷ []
operand_words (operand.Number n) = decimal n ∷ []
operand_words (operand.Small n) = decimal n ∷ []
operand_words (operand.Whole n) = signed_decimal n ∷ []
operand_words (operand.Flag b) = flag_word b ∷ []
operand_words (operand.Binary op) = binary_word op ∷ []
operand_words (operand.Unary op) = unary_word op ∷ []
operand_words (operand.Compare op) = compare_word op ∷ []
operand_words (operand.Type t) = type_word t ∷ []
operand_words (operand.TypeOrNone t) = type_or_none t ∷ []
operand_words (operand.Method m) = method_word m ∷ []
operand_words (operand.Builtin b) = builtin_word b ∷ []
operand_words (operand.Order o) = order_word o ∷ []
operand_words (operand.Stop k) = stop_word k ∷ []
operand_words (operand.Kind k) = kind_name k ∷ []
operand_words (operand.Kinds ks) = map kind_name ks.now

-- those of a row of operands
abbrev pub row_words : Row → List (List ℕ)
row_words row.Nothing = []
row_words (row.One a) = operand_words a
row_words (row.Two a b) = operand_words a ++ operand_words b
row_words (row.Three a b c) = operand_words a ++ operand_words b ++ operand_words c
row_words (row.Four a b c d) = operand_words a ++ operand_words b ++ operand_words c ++ operand_words d
row_words (row.Five a b c d e) = operand_words a ++ operand_words b ++ operand_words c ++ operand_words d ++ operand_words e
row_words (row.Six a b c d e f) = operand_words a ++ operand_words b ++ operand_words c ++ operand_words d ++ operand_words e ++ operand_words f

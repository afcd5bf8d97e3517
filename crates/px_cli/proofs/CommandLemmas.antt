-- The commands that a call serves, and which one the words ask for.
use Rattle.std.proofs.Common.{◌≡◌, ℕ, zero, suc, List, [], ◌∷◌, get_or, arith, refl, sym, ap, ◌∙◌}
use Rattle.std.specs.Prelude.{Contains}
use Rattle.px_cli.specs.declared.words.Command.{Command}
use Rattle.px_cli.specs.declared.words.Command.TheVariants as commands
use Rattle.px_cli.specs.Words.{Asks, all_commands, checking_commands, command_word}

pub serves_itself : (command : Command) → Contains (command ∷ []) command
serves_itself command = (0, omega arith, refl)

pub serves_all : (command : Command) → Contains all_commands command
serves_all commands.Check = (0, omega arith, refl)
serves_all commands.List = (1, omega arith, refl)
serves_all commands.Run = (2, omega arith, refl)

pub serves_check : Contains checking_commands commands.Check
serves_check = (0, omega arith, refl)

pub serves_list : Contains checking_commands commands.List
serves_list = (1, omega arith, refl)

pub serves_no_run : Contains checking_commands commands.Run → ⊥
serves_no_run (zero, less, is) = absurd cc
serves_no_run (suc zero, less, is) = absurd cc
serves_no_run (suc (suc n), less, is) = absurd (omega (arith, less))

-- a call that serves one command serves no other

pub only_itself : (command other : Command) → Contains (command ∷ []) other → other ≡ command
only_itself command other (zero, less, is) = sym is
only_itself command other (suc n, less, is) = absurd (omega (arith, less))

-- the words ask for one command on one file

same_words : {a b file name : List ℕ} → a ∷ file ∷ [] ≡ b ∷ name ∷ [] → (a ≡ b) × (file ≡ name)
same_words e = (cc, cc)

-- the words of two commands differ in their first letter

abbrev first_letter : List ℕ → ℕ
first_letter text = get_or text 0 0

same_command : (command other : Command) → command_word command ≡ command_word other → command ≡ other
same_command commands.Check commands.Check e = refl
same_command commands.Check commands.List e = let letters : 99 ≡ 108 = ap first_letter e in absurd (omega (arith, letters))
same_command commands.Check commands.Run e = let letters : 99 ≡ 114 = ap first_letter e in absurd (omega (arith, letters))
same_command commands.List commands.Check e = let letters : 108 ≡ 99 = ap first_letter e in absurd (omega (arith, letters))
same_command commands.List commands.List e = refl
same_command commands.List commands.Run e = let letters : 108 ≡ 114 = ap first_letter e in absurd (omega (arith, letters))
same_command commands.Run commands.Check e = let letters : 114 ≡ 99 = ap first_letter e in absurd (omega (arith, letters))
same_command commands.Run commands.List e = let letters : 114 ≡ 108 = ap first_letter e in absurd (omega (arith, letters))
same_command commands.Run commands.Run e = refl

pub one_command : {command other : Command} {words : List (List ℕ)} {file name : List ℕ} → Asks command words file → Asks other words name → (command ≡ other) × (file ≡ name)
one_command {command} {other} a b =
    let same = same_words (sym a.spelled ∙ b.spelled) in
    (same_command command other same.0, same.1)

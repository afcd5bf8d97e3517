-- What the library gave, as facts about what its map holds.
use Rattle.std.proofs.Common.{◌≡◌, ◌<◌, ◌≤◌, ℕ, List, [], ◌∷◌, length, take, arith, ap, sym, ◌∙◌, subst, refl, Option, Some, None, Ok, Err, Result}
use Rattle.std.proofs.lemmas.List.{length-take, take_all}
use Rattle.std.specs.Option.{option_map}
use Rattle.px_base.specs.declared.statuses.Status.{Status}
use Rattle.px_base.specs.declared.statuses.Status.TheVariants as s
use Rattle.px_base.specs.declared.outside.LibraryTrouble.{LibraryTrouble}
use Rattle.px_base.specs.Outside.{Hands, handed_limit}
use Rattle.px_cli.specs.Answer.{Facts, Holds, IsAnswer, IsAsked, IsUnbroken, facts_of, module_limit, no_file_line}
use Rattle.px_cli.specs.ModuleAnswer.{IsModuleAnswer}
use Rattle.px_cli.specs.declared.replies.Reply.{Reply}
use Rattle.px_cli.specs.declared.words.Command.{Command}
use Rattle.px_base.specs.declared.refusals.NoMemory.{NoMemory}
use Rattle.std.specs.Result.{IfOk}
use Rattle.px_cli.specs.Words.{Asks}
use Rattle.px_cli.proofs.CommandLemmas.{serves_itself}

abbrev Told : Type 0
Told = Option (List ℕ → Option (List ℕ))

none_from : (found : Option (List ℕ)) → None ≡ option_map (take handed_limit) found → found ≡ None
none_from None e = refl
none_from (Some text) e = absurd (cc)

-- the library gave nothing
pub absent_from : (map : Told) (file : List ℕ) → Hands {E = LibraryTrouble} map file (Ok None) → Holds map file None
absent_from None file given = tt
absent_from (Some holding) file given = none_from (holding file) given

small_from : (found : Option (List ℕ)) (bytes : List ℕ) → length bytes ≤ module_limit → Some bytes ≡ option_map (take handed_limit) found → found ≡ Some bytes
small_from None bytes small e = absurd (cc)
small_from (Some text) bytes small e =
    let given : bytes ≡ take handed_limit text = cc in
    let short : length text ≤ handed_limit = omega (arith, ap length given, length-take handed_limit text) in
    ap Some (sym (given ∙ take_all handed_limit text short))

-- the library gave no more bytes than a module may have: these are all that it holds
pub content_from : (map : Told) (file bytes : List ℕ) → length bytes ≤ module_limit → Hands {E = LibraryTrouble} map file (Ok (Some bytes)) → Holds map file (Some bytes)
content_from None file bytes small given = tt
content_from (Some holding) file bytes small given = small_from (holding file) bytes small given

large_from : (found : Option (List ℕ)) (bytes : List ℕ) → module_limit < length bytes → Some bytes ≡ option_map (take handed_limit) found → (text : List ℕ) × (found ≡ Some text) × (module_limit < length text)
large_from None bytes large e = absurd (cc)
large_from (Some text) bytes large e =
    let given : bytes ≡ take handed_limit text = cc in
    (text, refl, omega (arith, ap length given, length-take handed_limit text))

-- the library gave more: so many it holds at least
pub large_content_from : (map : Told) (file bytes : List ℕ) → module_limit < length bytes → Hands {E = LibraryTrouble} map file (Ok (Some bytes)) → (text : List ℕ) × Holds map file (Some text) × (module_limit < length text)
large_content_from None file bytes large given = (bytes, tt, large)
large_content_from (Some holding) file bytes large given = large_from (holding file) bytes large given

-- the answer for the bytes that the library gave is the answer of the call
answer_for_module : (facts : Facts) (command : Command) (file bytes : List ℕ) (status : Status) (out err : List ℕ) → IsAsked facts command file → Hands {E = LibraryTrouble} facts.map file (Ok (Some bytes)) → IsUnbroken facts →
    IsModuleAnswer command file bytes status out err → IsAnswer facts status out err
answer_for_module facts command file bytes s.Done out err asked given unbroken (accepted, silent, small) =
    record { command = command; file = file; text = bytes; has = record { asked = asked; content = content_from facts.map file bytes small given; small = small; unbroken = unbroken }; accepted = accepted; silent = silent }
answer_for_module facts command file bytes s.Refused out err asked given unbroken (refusal, refused, no_output, line, small) =
    record { command = command; file = file; text = bytes; refusal = refusal; has = record { asked = asked; content = content_from facts.map file bytes small given; small = small; unbroken = unbroken }; refused = refused; no_output = no_output; line = line }
answer_for_module facts command file bytes s.TooLarge out err asked given unbroken (large, no_output, line) =
    let (text, content, long) = large_content_from facts.map file bytes large given in
    record { command = command; file = file; text = text; asked = asked; content = content; large = long; unbroken = unbroken; no_output = no_output; line = line }
answer_for_module facts command file bytes s.Usage out err asked given unbroken h = absurd h
answer_for_module facts command file bytes s.Raised out err asked given unbroken h = absurd h
answer_for_module facts command file bytes s.Spent out err asked given unbroken h = absurd h
answer_for_module facts command file bytes s.ReadFault out err asked given unbroken h = absurd h
answer_for_module facts command file bytes s.WriteFault out err asked given unbroken h = absurd h
answer_for_module facts command file bytes s.NoMemory out err asked given unbroken h = absurd h
answer_for_module facts command file bytes s.NoFile out err asked given unbroken h = absurd h

-- the reply is the answer of every call that serves the command and has these facts, whose words ask for the file
abbrev pub Answers : Command → Told → ℕ → ℕ → List ℕ → Reply → Type 0
Answers command map before after file reply = (words : List (List ℕ)) → Asks command words file → IsAnswer (facts_of (command ∷ []) words map before after) reply.status reply.output reply.line

asked_of : {words : List (List ℕ)} {file : List ℕ} {map : Told} {before after : ℕ} (command : Command) → Asks command words file → IsAsked (facts_of (command ∷ []) words map before after) command file
asked_of command asked = record { served = serves_itself command; asked = asked }

pub replies_for_module : (command : Command) (map : Told) (before after : ℕ) (file bytes : List ℕ) (result : Result Reply NoMemory) → Hands {E = LibraryTrouble} map file (Ok (Some bytes)) → after ≡ before →
    IfOk result (λ reply. IsModuleAnswer command file bytes reply.status reply.output reply.line) → IfOk result (Answers command map before after file)
replies_for_module command map before after file bytes (Ok reply) given calm h =
    λ words asked. answer_for_module (facts_of (command ∷ []) words map before after) command file bytes reply.status reply.output reply.line (asked_of command asked) given calm h
replies_for_module command map before after file bytes (Err e) given calm h = tt

-- a reply of a line alone
abbrev line_reply : Status → List ℕ → Reply
line_reply status line = record { status = status; output = []; line = line }

abbrev AnswersOf : Facts → Reply → Type 0
AnswersOf facts reply = IsAnswer facts reply.status reply.output reply.line

pub replies_for_no_file : (command : Command) (map : Told) (before after : ℕ) (file : List ℕ) (result : Result Reply NoMemory) → Hands {E = LibraryTrouble} map file (Ok None) → after ≡ before →
    IfOk result (λ reply. reply ≡ line_reply s.NoFile (no_file_line file)) → IfOk result (Answers command map before after file)
replies_for_no_file command map before after file (Ok reply) given calm h = λ words asked.
    subst (AnswersOf (facts_of (command ∷ []) words map before after)) (sym h)
    (record { command = command; file = file; asked = asked_of command asked; absent = absent_from map file given; unbroken = calm; no_output = refl; line = refl })
replies_for_no_file command map before after file (Err e) given calm h = tt

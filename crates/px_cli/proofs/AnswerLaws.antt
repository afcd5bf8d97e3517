-- A text has one answer of a command at most.
use Rattle.std.proofs.Common.{◌≡◌, ◌⊎◌, inl, inr, ℕ, List, [], ◌∷◌, Option, Some, None, Ok, Err, refl, sym, ap, ◌∙◌, subst}
use Rattle.px_base.specs.declared.refusals.Span.{Span}
use Rattle.px_base.specs.declared.refusals.Refusal.{Refusal}
use Rattle.px_base.specs.Findings.{IsFirst}
use Rattle.px_base.proofs.FirstFindings.{comes_first-antisymmetric}
use Rattle.px_lexer.specs.declared.token_list.Token.{Token}
use Rattle.px_lexer.specs.declared.token_list.Comment.{Comment}
use Rattle.px_lexer.specs.declared.token_list.Tokens.{Tokens}
use Rattle.px_lexer.proofs.TextLaws.{tokens_unique, tokens_break_nothing}
use Rattle.px_tree.specs.declared.modules.Function.{Function}
use Rattle.px_tree.specs.declared.modules.ModuleItem.{ModuleItem}
use Rattle.px_tree.specs.declared.modules.ModuleItem.TheVariants as module_item
use Rattle.px_tree.specs.declared.modules.Module.{Module}
use Rattle.px_lexer.specs.Refusals.{BreaksText}
use Rattle.px_lexer.specs.Terminals.{terminals_of}
use Rattle.px_parser.specs.Laws.{ParsingIsUnique}
use Rattle.px_parser.specs.Parsing.{IsModuleOf, IsModuleRefused}
use Rattle.px_cli.specs.FirstMeaning.{Values, no_values, DoInTurn, IsMain, Prints}
use Rattle.px_cli.specs.FirstRefusals.{place_of, StopsAt, IsMainItem, IsCallItem, BeginsWithMain, IsUnbuiltAt, IsUnbuilt, unbuilt_refusal}
use Rattle.px_names.specs.Rules.{BreaksNames}
use Rattle.px_cli.specs.declared.words.Command.{Command}
use Rattle.px_cli.specs.declared.words.Command.TheVariants as commands
use Rattle.px_names.specs.declared.named.Named.{Named}
use Rattle.px_names.specs.NamedModule.{IsNamed}
use Rattle.px_operators.specs.Outcomes.{Outcome}
use Rattle.px_types.specs.TypedModule.{ModuleTypes}
use Rattle.px_types.specs.Types.{types_of}
use Rattle.px_regcode.specs.Listing.{listing_of}
use Rattle.px_compile.specs.FitModules.{unbuilt_of}
use Rattle.px_compile.specs.ModuleImage.{module_image}
use Rattle.px_cli.specs.Phases.{AreTokensOf, IsModuleText, IsMistyped, IsNotListed, IsNotRun, IsNotTaken, IsAccepted, IsTextRefused, Writes, WritesListing, WritesPrinted}
use Rattle.px_cli.specs.Laws.{AnswersAreUnique}
use Rattle.px_cli.proofs.ListingLemmas.{same_types}
use Rattle.px_cli.proofs.SameValues.{turns_same, stops_or_does, stops_same}

-- Where a module is refused, by its items

-- what stands behind the function `main` is refused there
data EndsAt (whole : Span) : List ModuleItem → Span → Type 0 where
  uncalled : {at : Span} → at ≡ whole → EndsAt whole [] at
  other_next : {item : ModuleItem} {others : List ModuleItem} {at : Span} → (IsCallItem item → ⊥) → at ≡ place_of item → EndsAt whole (item ∷ others) at
  further : {call item : ModuleItem} {others : List ModuleItem} {at : Span} → IsCallItem call → at ≡ place_of item → EndsAt whole (call ∷ item ∷ others) at

-- these items are refused there
data StandsAt (whole : Span) : List ModuleItem → Span → Type 0 where
  empty : {at : Span} → at ≡ whole → StandsAt whole [] at
  other_first : {item : ModuleItem} {others : List ModuleItem} {at : Span} → (IsMainItem item → ⊥) → at ≡ place_of item → StandsAt whole (item ∷ others) at
  in_main : {main : Function} {others : List ModuleItem} {at : Span} → IsMain main → StopsAt no_values main.body at → StandsAt whole (module_item.Function main ∷ others) at
  behind : {main : Function} {others : List ModuleItem} {at : Span} {after : Values} {output : List ℕ} → IsMain main → DoInTurn no_values main.body after output → EndsAt whole others at → StandsAt whole (module_item.Function main ∷ others) at

behind_main : {whole at : Span} {items others : List ModuleItem} → BeginsWithMain items others → EndsAt whole others at → StandsAt whole items at
behind_main {whole} {at} begins ends = subst (λ xs. StandsAt whole xs at) (sym begins.items_are) (StandsAt.behind begins.header begins.does ends)

by_items : {m : Module} {at : Span} → IsUnbuiltAt m at → StandsAt m.at m.items at
by_items {m} {at} (IsUnbuiltAt.other_first item others is none place) = subst (λ xs. StandsAt m.at xs at) (sym is) (StandsAt.other_first none place)
by_items {m} {at} (IsUnbuiltAt.in_main main others is header stops) = subst (λ xs. StandsAt m.at xs at) (sym is) (StandsAt.in_main header stops)
by_items (IsUnbuiltAt.other_next item others begins none place) = behind_main begins (EndsAt.other_next none place)
by_items (IsUnbuiltAt.further call item others begins is_call place) = behind_main begins (EndsAt.further is_call place)
by_items {m} {at} (IsUnbuiltAt.empty none place) = subst (λ xs. StandsAt m.at xs at) (sym none) (StandsAt.empty place)
by_items (IsUnbuiltAt.uncalled begins place) = behind_main begins (EndsAt.uncalled place)

ends_once : {whole at other : Span} {items : List ModuleItem} → EndsAt whole items at → EndsAt whole items other → at ≡ other
ends_once (EndsAt.uncalled p) (EndsAt.uncalled q) = p ∙ sym q
ends_once (EndsAt.other_next none p) (EndsAt.other_next never q) = p ∙ sym q
ends_once (EndsAt.other_next none p) (EndsAt.further call q) = absurd (none call)
ends_once (EndsAt.further call p) (EndsAt.other_next none q) = absurd (none call)
ends_once (EndsAt.further call p) (EndsAt.further same q) = p ∙ sym q

stands_once : {whole at other : Span} {items : List ModuleItem} → StandsAt whole items at → StandsAt whole items other → at ≡ other
stands_once (StandsAt.empty p) (StandsAt.empty q) = p ∙ sym q
stands_once (StandsAt.other_first none p) (StandsAt.other_first never q) = p ∙ sym q
stands_once (StandsAt.other_first none p) (StandsAt.in_main header stops) = absurd (none header)
stands_once (StandsAt.other_first none p) (StandsAt.behind header does ends) = absurd (none header)
stands_once (StandsAt.in_main header stops) (StandsAt.other_first none q) = absurd (none header)
stands_once (StandsAt.in_main header stops) (StandsAt.in_main again still) = stops_same (λ name. refl) stops still
stands_once (StandsAt.in_main header stops) (StandsAt.behind again does ends) = absurd (stops_or_does (λ name. refl) stops does)
stands_once (StandsAt.behind header does ends) (StandsAt.other_first none q) = absurd (none header)
stands_once (StandsAt.behind header does ends) (StandsAt.in_main again stops) = absurd (stops_or_does (λ name. refl) stops does)
stands_once (StandsAt.behind header does ends) (StandsAt.behind again same stop) = ends_once ends stop

unbuilt_once : {m : Module} {refusal other : Refusal} → IsUnbuilt m refusal → IsUnbuilt m other → refusal ≡ other
unbuilt_once a b = a.given ∙ ap unbuilt_refusal (stands_once (by_items a.stands) (by_items b.stands)) ∙ sym b.given

-- What a module prints: one output, and nothing where it is refused

same_main : {main other : Function} {items others : List ModuleItem} → module_item.Function main ∷ items ≡ module_item.Function other ∷ others → main ≡ other
same_main {main} {other} e = let same : module_item.Function main ≡ module_item.Function other = cc in cc

printed_once : {m : Module} {output other : List ℕ} → Prints m output → Prints m other → output ≡ other
printed_once {output = output} a b =
    let same : a.main ≡ b.main = same_main (sym a.items ∙ b.items) in
    turns_same (λ name. refl) (subst (λ (f : Function). DoInTurn no_values f.body a.after output) same a.does) b.does

prints_or_stands : {whole at : Span} {call : ModuleItem} {main : Function} {after : Values} {output : List ℕ} → IsMain main → DoInTurn no_values main.body after output → IsCallItem call
    → StandsAt whole (module_item.Function main ∷ call ∷ []) at → ⊥
prints_or_stands header does call (StandsAt.other_first none place) = none header
prints_or_stands header does call (StandsAt.in_main again stops) = stops_or_does (λ name. refl) stops does
prints_or_stands header does call (StandsAt.behind again same (EndsAt.other_next none place)) = none call

prints_or_refused : {m : Module} {output : List ℕ} {refusal : Refusal} → Prints m output → IsUnbuilt m refusal → ⊥
prints_or_refused {m} p r = prints_or_stands {call = module_item.Statement p.call} p.header p.does p.called (subst (λ xs. StandsAt m.at xs r.at) p.items (by_items r.stands))

-- What a command makes of a module: one output, or one refusal. What the names of a module stand for is determined as far as its types
-- hang on it.

abbrev AreTypesUnique : Type 0
AreTypesUnique = (m : Module) (a b : Named) → IsNamed m a → IsNamed m b → types_of a ≡ types_of b

untyped_once : {A : Type 0} {refusal other : Refusal} (t : Outcome A) → t ≡ Err refusal → t ≡ Err other → refusal ≡ other
untyped_once t is again = cc

typed_or_not : {A : Type 0} {a : A} {refusal : Refusal} (t : Outcome A) → t ≡ Ok a → t ≡ Err refusal → ⊥
typed_or_not t is other = absurd cc

-- the same types, and the same module
record IsAlike (a b : Named) : Type 0 where
  pub modules : a.«module» ≡ b.«module»
  pub types : types_of a ≡ types_of b

mistyped_alike : {a b : Named} {refusal : Refusal} → IsAlike a b → IsMistyped a refusal → IsMistyped b refusal
mistyped_alike alike wrong = record { answer = sym alike.types ∙ wrong.answer; rule = wrong.rule }

alike_back : {a b : Named} → IsAlike a b → IsAlike b a
alike_back alike = record { modules = sym alike.modules; types = sym alike.types }

printed_alike : {a b : Named} {output : List ℕ} → IsAlike a b → WritesPrinted a output → WritesPrinted b output
printed_alike {output = output} alike writes =
    (λ refusal wrong. writes.0 refusal (mistyped_alike (alike_back alike) wrong), subst (λ m. Prints m output) alike.modules writes.1)

not_run_alike : {a b : Named} {refusal : Refusal} → IsAlike a b → IsNotRun a refusal → IsNotRun b refusal
not_run_alike alike (inl wrong) = inl (mistyped_alike alike wrong)
not_run_alike {refusal = refusal} alike (inr unbuilt) =
    inr (λ found wrong. unbuilt.0 found (mistyped_alike (alike_back alike) wrong), subst (λ m. IsUnbuilt m refusal) alike.modules unbuilt.1)

listing_alike : {a b : Named} {output : List ℕ} → IsAlike a b → WritesListing a output → WritesListing b output
listing_alike alike writes = record { found = writes.found; typed = sym alike.types ∙ writes.typed; built = writes.built; listing = writes.listing }

not_listed_alike : {a b : Named} {refusal : Refusal} → IsAlike a b → IsNotListed a refusal → IsNotListed b refusal
not_listed_alike alike (inl untyped) = inl (sym alike.types ∙ untyped)
not_listed_alike alike (inr without) = inr (record { found = without.found; typed = sym alike.types ∙ without.typed; unbuilt = without.unbuilt })

not_taken_alike : {a b : Named} (refusal : Refusal) (command : Command) → IsAlike a b → IsNotTaken command a refusal → IsNotTaken command b refusal
not_taken_alike refusal commands.Check alike is = sym alike.types ∙ is
not_taken_alike refusal commands.List alike is = not_listed_alike alike is
not_taken_alike refusal commands.Run alike is = not_run_alike alike is

writes_alike : {a b : Named} (output : List ℕ) (command : Command) → IsAlike a b → Writes command a output → Writes command b output
writes_alike output commands.Check alike writes = (writes.0, sym alike.types ∙ writes.1, writes.2)
writes_alike output commands.List alike writes = listing_alike alike writes
writes_alike output commands.Run alike writes = printed_alike alike writes

none_or_refusal : {refusal : Refusal} (found : Option Refusal) → found ≡ None → found ≡ Some refusal → ⊥
none_or_refusal found is other = absurd cc

one_refusal : {refusal other : Refusal} (found : Option Refusal) → found ≡ Some refusal → found ≡ Some other → refusal ≡ other
one_refusal found is again = cc

listed_once : {named : Named} {output other : List ℕ} → WritesListing named output → WritesListing named other → output ≡ other
listed_once {named} a b =
    a.listing ∙ ap (λ (t : ModuleTypes). listing_of (module_image t).codes (module_image t).constants) (same_types (types_of named) a.typed b.typed) ∙ sym b.listing

not_listed_once : {named : Named} {refusal other : Refusal} → IsNotListed named refusal → IsNotListed named other → refusal ≡ other
not_listed_once {named} (inl p) (inl q) = untyped_once (types_of named) p q
not_listed_once {named} (inl p) (inr q) = absurd (typed_or_not (types_of named) q.typed p)
not_listed_once {named} (inr p) (inl q) = absurd (typed_or_not (types_of named) p.typed q)
not_listed_once {named} {other = other} (inr p) (inr q) =
    let same : q.found ≡ p.found = same_types (types_of named) q.typed p.typed in
    one_refusal (unbuilt_of p.found) p.unbuilt (subst (λ t. unbuilt_of t ≡ Some other) same q.unbuilt)

listed_or_not : {named : Named} {output : List ℕ} {refusal : Refusal} → WritesListing named output → IsNotListed named refusal → ⊥
listed_or_not {named} a (inl untyped) = typed_or_not (types_of named) a.typed untyped
listed_or_not {named} {refusal = refusal} a (inr without) =
    let same : without.found ≡ a.found = same_types (types_of named) without.typed a.typed in
    none_or_refusal (unbuilt_of a.found) a.built (subst (λ t. unbuilt_of t ≡ Some refusal) same without.unbuilt)

written_once : {output other : List ℕ} (named : Named) (command : Command) → Writes command named output → Writes command named other → output ≡ other
written_once named commands.Check a b = a.2 ∙ sym b.2
written_once named commands.List a b = listed_once a b
written_once named commands.Run a b = printed_once a.1 b.1

not_run_once : {named : Named} {refusal other : Refusal} → IsNotRun named refusal → IsNotRun named other → refusal ≡ other
not_run_once {named} (inl p) (inl q) = untyped_once (types_of named) p.answer q.answer
not_run_once {refusal = refusal} (inl p) (inr q) = absurd (q.0 refusal p)
not_run_once {other = other} (inr p) (inl q) = absurd (p.0 other q)
not_run_once (inr p) (inr q) = unbuilt_once p.1 q.1

not_taken_once : {refusal other : Refusal} (named : Named) (command : Command) → IsNotTaken command named refusal → IsNotTaken command named other → refusal ≡ other
not_taken_once named commands.Check a b = untyped_once (types_of named) a b
not_taken_once named commands.List a b = not_listed_once a b
not_taken_once named commands.Run a b = not_run_once a b

printed_or_not : {named : Named} {output : List ℕ} {refusal : Refusal} → WritesPrinted named output → IsNotRun named refusal → ⊥
printed_or_not {refusal = refusal} a (inl wrong) = a.0 refusal wrong
printed_or_not a (inr unbuilt) = prints_or_refused a.1 unbuilt.1

written_or_not : (named : Named) (output : List ℕ) (refusal : Refusal) (command : Command) → Writes command named output → IsNotTaken command named refusal → ⊥
written_or_not named output refusal commands.Check a b = typed_or_not (types_of named) a.1 b
written_or_not named output refusal commands.List a b = listed_or_not a b
written_or_not named output refusal commands.Run a b = printed_or_not a b

first_once : (P : Refusal → Type 0) (refusal other : Refusal) → IsFirst P (Some refusal) → IsFirst P (Some other) → refusal ≡ other
first_once P refusal other p q = comes_first-antisymmetric refusal other (p.1 other q.0) (q.1 refusal p.0)

-- Why a module is refused: for its names, or behind them

data IsRefusedModule (command : Command) (m : Module) (refusal : Refusal) : Type 0 where
  by_names : IsFirst (BreaksNames m) (Some refusal) → IsRefusedModule command m refusal
  by_command : (named : Named) → IsFirst (BreaksNames m) None → IsNamed m named → IsNotTaken command named refusal → IsRefusedModule command m refusal

alike : {m : Module} {a b : Named} → AreTypesUnique → IsNamed m a → IsNamed m b → IsAlike a b
alike {m} {a} {b} unique p q = record { modules = p.kept ∙ sym q.kept; types = unique m a b p q }

module_refused_once : {m : Module} {refusal other : Refusal} (command : Command) → AreTypesUnique → IsRefusedModule command m refusal → IsRefusedModule command m other → refusal ≡ other
module_refused_once {m} {refusal} {other} command unique (IsRefusedModule.by_names p) (IsRefusedModule.by_names q) = first_once (BreaksNames m) refusal other p q
module_refused_once {refusal = refusal} command unique (IsRefusedModule.by_names p) (IsRefusedModule.by_command named clean is q) = absurd (clean refusal p.0)
module_refused_once {other = other} command unique (IsRefusedModule.by_command named clean is p) (IsRefusedModule.by_names q) = absurd (clean other q.0)
module_refused_once {refusal = refusal} command unique (IsRefusedModule.by_command named clean is p) (IsRefusedModule.by_command again pure stands q) =
    not_taken_once again command (not_taken_alike refusal command (alike unique is stands) p) q

written_or_refused : {m : Module} {refusal : Refusal} (output : List ℕ) (command : Command) (named : Named) → AreTypesUnique → IsFirst (BreaksNames m) None → IsNamed m named → Writes command named output → IsRefusedModule command m refusal → ⊥
written_or_refused {refusal = refusal} output command named unique clean is writes (IsRefusedModule.by_names p) = clean refusal p.0
written_or_refused {refusal = refusal} output command named unique clean is writes (IsRefusedModule.by_command other again stands p) =
    written_or_not other output refusal command (writes_alike output command (alike unique is stands) writes) p

-- What a text is: one list of tokens, and one module

abbrev tokens_of : List ℕ → List Token → List Comment → Tokens
tokens_of text list comments = record { text = text; list = list; comments = comments }

tokens_same : {text : List ℕ} {tokens others : Tokens} → AreTokensOf text tokens → AreTokensOf text others → tokens ≡ others
tokens_same {text} {tokens} {others} a b =
    let same = tokens_unique text tokens.list others.list tokens.comments others.comments a.listed b.listed in
    ap (λ x. tokens_of x tokens.list tokens.comments) (a.kept ∙ sym b.kept) ∙ ap (λ x. tokens_of others.text x tokens.comments) same.0 ∙ ap (λ x. tokens_of others.text others.list x) same.1

module_same : {text : List ℕ} {m n : Module} → ParsingIsUnique → IsModuleText text m → IsModuleText text n → m ≡ n
module_same {n = n} parsing a b = parsing.parsed a.tokens _ n a.parsed (subst (λ ts. IsModuleOf ts n) (tokens_same b.lexed a.lexed) b.parsed)

-- Why a text is refused

-- a text with tokens is refused by the grammar, or its module is refused
data IsRefusedBehind (command : Command) (text : List ℕ) (refusal : Refusal) : Type 0 where
  by_grammar : (tokens : Tokens) → AreTokensOf text tokens → IsModuleRefused (terminals_of tokens) refusal → IsRefusedBehind command text refusal
  by_module : (m : Module) → IsModuleText text m → IsRefusedModule command m refusal → IsRefusedBehind command text refusal

behind_tokens : {command : Command} {text : List ℕ} {refusal : Refusal} (tokens : Tokens) → AreTokensOf text tokens → IsTextRefused command text refusal → IsRefusedBehind command text refusal
behind_tokens {text = text} {refusal = refusal} tokens lexed (IsTextRefused.no_tokens first) = absurd (tokens_break_nothing text tokens.list tokens.comments lexed.listed refusal first.0)
behind_tokens tokens lexed (IsTextRefused.no_module others again refused) = IsRefusedBehind.by_grammar others again refused
behind_tokens tokens lexed (IsTextRefused.bad_names m is first) = IsRefusedBehind.by_module m is (IsRefusedModule.by_names first)
behind_tokens tokens lexed (IsTextRefused.not_taken named is refused) = IsRefusedBehind.by_module named.«module» is.is_module (IsRefusedModule.by_command named is.clean is.names refused)

module_or_refused : {text : List ℕ} {m : Module} {refusal : Refusal} (tokens : Tokens) → ParsingIsUnique → IsModuleText text m → AreTokensOf text tokens → IsModuleRefused (terminals_of tokens) refusal → ⊥
module_or_refused {m = m} {refusal = refusal} tokens parsing is lexed refused = parsing.either tokens m refusal (subst (λ ts. IsModuleOf ts m) (tokens_same is.lexed lexed) is.parsed) refused

behind_once : {command : Command} {text : List ℕ} {refusal other : Refusal} → ParsingIsUnique → AreTypesUnique → IsRefusedBehind command text refusal → IsRefusedBehind command text other → refusal ≡ other
behind_once {refusal = refusal} {other = other} parsing unique (IsRefusedBehind.by_grammar tokens lexed p) (IsRefusedBehind.by_grammar others again q) =
    parsing.refused (terminals_of tokens) refusal other p (subst (λ ts. IsModuleRefused (terminals_of ts) other) (tokens_same again lexed) q)
behind_once parsing unique (IsRefusedBehind.by_grammar tokens lexed p) (IsRefusedBehind.by_module m is q) = absurd (module_or_refused tokens parsing is lexed p)
behind_once parsing unique (IsRefusedBehind.by_module m is p) (IsRefusedBehind.by_grammar tokens lexed q) = absurd (module_or_refused tokens parsing is lexed q)
behind_once {command} {other = other} parsing unique (IsRefusedBehind.by_module m is p) (IsRefusedBehind.by_module n again q) =
    module_refused_once command unique p (subst (λ x. IsRefusedModule command x other) (module_same parsing again is) q)

-- the tokens of a text that isn't refused by the lexer
refused_with_tokens : {command : Command} {text : List ℕ} {refusal : Refusal} → IsTextRefused command text refusal → IsFirst (BreaksText text) (Some refusal) ⊎ ((tokens : Tokens) × AreTokensOf text tokens)
refused_with_tokens (IsTextRefused.no_tokens first) = inl first
refused_with_tokens (IsTextRefused.no_module tokens lexed refused) = inr (tokens, lexed)
refused_with_tokens (IsTextRefused.bad_names m is first) = inr (is.tokens, is.lexed)
refused_with_tokens (IsTextRefused.not_taken named is refused) = inr (is.is_module.tokens, is.is_module.lexed)

refused_once : {command : Command} {text : List ℕ} (refusal other : Refusal) → ParsingIsUnique → AreTypesUnique → IsTextRefused command text refusal → IsTextRefused command text other → refusal ≡ other
refused_once {text = text} refusal other parsing unique p q = elim (refused_with_tokens p) [
  | inl first ↦ elim (refused_with_tokens q) [
    | inl second ↦ first_once (BreaksText text) refusal other first second
    | inr lexed ↦ absurd (tokens_break_nothing text lexed.0.list lexed.0.comments lexed.1.listed refusal first.0)
  ]
  | inr lexed ↦ behind_once parsing unique (behind_tokens lexed.0 lexed.1 p) (behind_tokens lexed.0 lexed.1 q)
]

accepted_once : {text output other : List ℕ} (command : Command) → ParsingIsUnique → AreTypesUnique → IsAccepted command text output → IsAccepted command text other → output ≡ other
accepted_once {other = other} command parsing unique a b =
    let same = module_same parsing b.is_named.is_module a.is_named.is_module in
    let names : IsNamed a.named.«module» b.named = subst (λ m. IsNamed m b.named) same b.is_named.names in
    written_once a.named command a.writes (writes_alike other command (alike unique names a.is_named.names) b.writes)

accepted_or_refused : {text output : List ℕ} {refusal : Refusal} (command : Command) → ParsingIsUnique → AreTypesUnique → IsAccepted command text output → IsRefusedBehind command text refusal → ⊥
accepted_or_refused command parsing unique a (IsRefusedBehind.by_grammar tokens lexed refused) = module_or_refused tokens parsing a.is_named.is_module lexed refused
accepted_or_refused {output = output} {refusal = refusal} command parsing unique a (IsRefusedBehind.by_module m is refused) =
    written_or_refused output command a.named unique a.is_named.clean a.is_named.names a.writes (subst (λ x. IsRefusedModule command x refusal) (module_same parsing is a.is_named.is_module) refused)

pub answers_unique : ParsingIsUnique → AreTypesUnique → AnswersAreUnique
answers_unique parsing unique = record {
  accepted = λ command text output other a b. accepted_once command parsing unique a b;
  refused = λ command text refusal other a b. refused_once refusal other parsing unique a b;
  either = λ command text output refusal a refused. accepted_or_refused command parsing unique a (behind_tokens a.is_named.is_module.tokens a.is_named.is_module.lexed refused);
}

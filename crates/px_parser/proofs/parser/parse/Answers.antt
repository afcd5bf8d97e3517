use Rattle.std.proofs.Common.{◌≡◌, Err, sym, subst, arith}
use Rattle.px_base.specs.declared.refusals.Refusal.{Refusal}
use Rattle.px_base.specs.declared.refusals.Trouble.{Trouble}
use Rattle.px_base.specs.declared.refusals.Trouble.TheVariants.{Refused}
use Rattle.px_base.specs.Troubles.{IfRefused}
use Rattle.px_lexer.specs.declared.token_list.TokenKind.TheVariants as kind
use Rattle.px_tree.specs.declared.modules.Module.{Module}
use Rattle.px_lexer.specs.Terminals.{terminals_of}
use Rattle.px_exprs.specs.Runs.{nesting_limit, IsRefusalAt}
use Rattle.px_lexer.proofs.TokenAccess.{length_terminals}
use Rattle.px_parser.specs.Ends.{IsBefore}
use Rattle.px_parser.specs.Parts.{ItemsRead}
use Rattle.px_parser.specs.Parsing.{IsModuleRefused}
use Rattle.px_parser.specs.Readings.{IsStuck, IsOver, IsUnread}
use Rattle.px_parser.proofs.ListingLaws.{listing}
use Rattle.px_parser.proofs.Parsed.{parsed, no_module, too_deep}
use Rattle.px_parser.proofs.parser.parse.Goals as goal

stuck : (c : goal.In-Err-Stuck) → IsStuck ItemsRead (IsBefore kind.End) (terminals_of c.args.tokens.now) 0 nesting_limit c.in-Err-Stuck.at
stuck c = subst (λ u. IsUnread ItemsRead (IsBefore kind.End) (terminals_of c.args.tokens.now) 0 nesting_limit u) c.in-Err-Stuck.field-0-is c.in-Err-Stuck.ensures

over : (c : goal.In-Err-TooDeep) → IsOver ItemsRead (IsBefore kind.End) (terminals_of c.args.tokens.now) 0 nesting_limit c.in-Err-TooDeep.at
over c = subst (λ u. IsUnread ItemsRead (IsBefore kind.End) (terminals_of c.args.tokens.now) 0 nesting_limit u) c.in-Err-TooDeep.field-0-is c.in-Err-TooDeep.ensures

refusing : (trouble : Trouble) (refusal : Refusal) (Refuses : Refusal → Type 0) → trouble ≡ Refused refusal → Refuses refusal → IfRefused {T = Module} (Err trouble) Refuses
refusing trouble refusal Refuses is refused = subst (λ t. IfRefused {T = Module} (Err t) Refuses) (sym is) refused

pub returns-in-Some-clause-refused : goal.returns-in-Some-clause-refused
returns-in-Some-clause-refused c =
    let refused = c.trouble_at.ensures in
    refusing c.trouble_at.result refused.0 (IsModuleRefused (terminals_of c.args.tokens.now)) refused.1 (IsModuleRefused.foreign_word c.in-Some.at c.in-Some.ensures.0 refused.2)

pub items-requires-clause-input : goal.items-requires-clause-input
items-requires-clause-input c = listing c.args.tokens.now c.requires

pub overflow_cast-result : goal.overflow_cast-result
overflow_cast-result c = record { fits = omega (arith, c.in-Ok.ensures.within, length_terminals c.args.tokens.now, (listing c.args.tokens.now c.requires).input.few) }

pub trouble_at-requires-in-Err-Stuck : goal.trouble_at-requires-in-Err-Stuck
trouble_at-requires-in-Err-Stuck c = omega (arith, (stuck c).within, length_terminals c.args.tokens.now)

pub trouble_at-requires-in-Err-TooDeep : goal.trouble_at-requires-in-Err-TooDeep
trouble_at-requires-in-Err-TooDeep c = omega (arith, (over c).within, length_terminals c.args.tokens.now)

pub returns-in_ok-comments-in-Ok-clause-parsed : goal.returns-in_ok-comments-in-Ok-clause-parsed
returns-in_ok-comments-in-Ok-clause-parsed c =
    parsed c.args.tokens.now c.place.result c.in-Ok.found.tree c.in-Ok.found.to c.in_ok-comments-in-Ok.field-0 (listing c.args.tokens.now c.requires) c.in_default.ensures c.in-Ok.ensures c.place.ensures c.in_ok-comments-in-Ok.ensures

pub returns-in-Err-Stuck-clause-refused : goal.returns-in-Err-Stuck-clause-refused
returns-in-Err-Stuck-clause-refused c =
    let refused = c.trouble_at-in-Err-Stuck.ensures in
    let ts = terminals_of c.args.tokens.now in
    let stuck : IsStuck ItemsRead (IsBefore kind.End) ts 0 nesting_limit c.in-Err-Stuck.at = subst (λ u. IsUnread ItemsRead (IsBefore kind.End) ts 0 nesting_limit u) c.in-Err-Stuck.field-0-is c.in-Err-Stuck.ensures in
    refusing c.trouble_at-in-Err-Stuck.result refused.0 (IsModuleRefused ts) refused.1 (IsModuleRefused.no_module c.in-Err-Stuck.at c.in_default.ensures (no_module ts c.in-Err-Stuck.at stuck) (subst (λ k. IsRefusalAt ts 5 k refused.0) c.in-Err-Stuck.at-is refused.2))

pub returns-in-Err-TooDeep-clause-refused : goal.returns-in-Err-TooDeep-clause-refused
returns-in-Err-TooDeep-clause-refused c =
    let refused = c.trouble_at-in-Err-TooDeep.ensures in
    let ts = terminals_of c.args.tokens.now in
    let over : IsOver ItemsRead (IsBefore kind.End) ts 0 nesting_limit c.in-Err-TooDeep.at = subst (λ u. IsUnread ItemsRead (IsBefore kind.End) ts 0 nesting_limit u) c.in-Err-TooDeep.field-0-is c.in-Err-TooDeep.ensures in
    refusing c.trouble_at-in-Err-TooDeep.result refused.0 (IsModuleRefused ts) refused.1 (IsModuleRefused.nested_too_deep c.in-Err-TooDeep.at c.in_default.ensures (too_deep ts c.in-Err-TooDeep.at over) (subst (λ k. IsRefusalAt ts 6 k refused.0) c.in-Err-TooDeep.at-is refused.2))

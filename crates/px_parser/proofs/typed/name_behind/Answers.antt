use Rattle.std.proofs.Common.{inl, inr, refl, subst, add-one, arith, ◌+◌}
use Rattle.px_base.proofs.Facts.{denied}
use Rattle.px_lexer.specs.Terminals.{terminals_of}
use Rattle.px_lexer.proofs.TokenAccess.{stands_within}
use Rattle.px_parser.specs.Parts.{GoesOn}
use Rattle.px_parser.specs.Ends.{EndsName}
use Rattle.px_parser.proofs.TypedNames.{goes_on_ends, ends_name}
use Rattle.px_parser.proofs.typed.name_behind.Goals as goal

pub returns-then-not-is_name : goal.returns-then-not-is_name
returns-then-not-is_name g c = inl (refl, λ name h. denied c.is_name.ensures c.if-not-is_name.true (name, h))

pub overflow_add-to : goal.overflow_add-to
overflow_add-to g c =
    let named = c.is_name.ensures.0 c.if-not-is_name.false in
    omega (arith, stands_within c.args.tokens.now c.args.at named.1.token named.1.stands, c.requires.input.input.few)

pub returns-then-goes_on : goal.returns-then-goes_on
returns-then-goes_on g c =
    let ts = terminals_of c.args.tokens.now in
    let more = subst (GoesOn ts) (add-one c.args.at) (c.goes_on.ensures.0 c.if-goes_on.true) in
    inr (add-one c.args.at, c.is_name.ensures.0 c.if-not-is_name.false, λ s. goes_on_ends more s)

pub returns-else-goes_on : goal.returns-else-goes_on
returns-else-goes_on g c =
    let ts = terminals_of c.args.tokens.now in
    let ends : EndsName ts (c.args.at + 1) = ends_name (denied c.goes_on.ensures c.if-goes_on.false) in
    (refl, add-one c.args.at, c.is_name.ensures.0 c.if-not-is_name.false, subst (EndsName ts) (add-one c.args.at) ends)

use Rattle.std.proofs.Common.{◌≡◌, ◌∙◌, ℕ, suc, ◌+◌, ◌-◌, ◌<◌, inl, inr, [], Err, refl, subst, add-one, arith}
use Rattle.std.proofs.lemmas.Result.{err_from_is_err_and}
use Rattle.px_base.proofs.Facts.{denied}
use Rattle.px_lexer.specs.declared.spelling.Operator.TheVariants as sign
use Rattle.px_exprs.specs.Typings.{AreAxes, HasAxes}
use Rattle.px_parser.specs.Ends.{EndsName}
use Rattle.px_exprs.specs.Readings.{At}
use Rattle.px_exprs.specs.TypeParts.{ReadsFlat}
use Rattle.px_lexer.specs.Terminals.{terminals_of}
use Rattle.px_lexer.proofs.TokenAccess.{length_terminals}
use Rattle.px_exprs.proofs.TypeReading.{const_inside, base_forward, base_goes_on}
use Rattle.px_parser.proofs.TypedReading.{Seen, typed_no_base, typed_one_word, typed_axes_unread, known_reads, typing_read, typing_made, known_typing}
use Rattle.px_parser.proofs.TypedNames.{same_or_below, no_front, base_names}
use Rattle.px_parser.proofs.typed.typed_name.Goals as goal

pub longest-requires-clause-inside : goal.longest-requires-clause-inside
longest-requires-clause-inside c = const_inside c.args.tokens.now c.args.from c.behind_const-base_from.result c.requires.input.input c.requires.inside c.behind_const-base_from.ensures

pub returns-in_default : goal.returns-in_default
returns-in_default c = λ room.
    let tokens = c.args.tokens.now in
    let inside = const_inside tokens c.args.from c.behind_const-base_from.result c.requires.input.input c.requires.inside c.behind_const-base_from.ensures in
    typed_no_base (terminals_of tokens) c.args.from c.behind_const-base_from.result room (omega (arith, length_terminals tokens, inside)) c.behind_const-base_from.ensures c.in_default.ensures

pub returns-in_err-axes : goal.returns-in_err-axes
returns-in_err-axes c = λ room.
    let ts = terminals_of c.args.tokens.now in
    let p = err_from_is_err_and c.from_residual.result c.from_residual.ensures.1 in
    let opened = c.is_operator.ensures.0 c.if-is_operator.true in
    let unread = c.in_err-axes.field-0.0 in
    rw (p.1, p.2) (typed_axes_unread ts c.args.from c.behind_const-base_from.result c.in-Some.to room c.in-Some.base unread c.behind_const-base_from.ensures c.in-Some.ensures.0 c.in-Some.ensures.1 opened
    (subst (λ x. ReadsFlat AreAxes (At sign.CloseBracket) ts x (Err unread)) (add-one c.in-Some.to) c.in_err-axes.ensures))

pub returns-then-is_operator : goal.returns-then-is_operator
returns-then-is_operator c = λ room.
    let tokens = c.args.tokens.now in
    let ts = terminals_of tokens in
    let base_from = c.behind_const-base_from.result in
    let to = c.in-Some.to in
    let axes = c.in_ok-axes.axes in
    let tree = c.typing-tree.result in
    let opened = c.is_operator.ensures.0 c.if-is_operator.true in
    let known : AreAxes ts (suc to) axes.tree axes.to = subst (λ x. AreAxes ts x axes.tree axes.to) (add-one to) c.in_ok-axes.ensures.derived.0 in
    let seen = Seen.viewed axes.to opened known c.in_ok-axes.ensures.stops refl (add-one axes.to) in
    let made = c.typing-tree.ensures in
    let typed = known_typing ts c.args.from base_from to 1 (axes.to + 1) c.in-Some.base axes.tree tree c.behind_const-base_from.ensures c.in-Some.ensures.0 c.in-Some.ensures.1 seen made.number made.placed made.constness made.base made.axes in
    known_reads tokens c.args.from (axes.to + 1) room tree c.name_behind.result c.requires.input.input typed c.name_behind.ensures

pub returns-then-is_name : goal.returns-then-is_name
returns-then-is_name c = λ room.
    let tokens = c.args.tokens.now in
    let ts = terminals_of tokens in
    let base_from = c.behind_const-base_from.result in
    let to = c.in-Some.to in
    let tree = c.typing-tree-then-is_name.result in
    let seen = Seen.plain (c.is_name.ensures.0 c.if-is_name.true) refl refl refl in
    let made = c.typing-tree-then-is_name.ensures in
    let typed = known_typing ts c.args.from base_from to 0 to c.in-Some.base [] tree c.behind_const-base_from.ensures c.in-Some.ensures.0 c.in-Some.ensures.1 seen made.number made.placed made.constness made.base (made.axes ∙ c.new.ensures) in
    known_reads tokens c.args.from to room tree c.name_behind-then-is_name.result c.requires.input.input typed c.name_behind-then-is_name.ensures

pub returns-then-to-base_from : goal.returns-then-to-base_from
returns-then-to-base_from c = λ room.
    let tokens = c.args.tokens.now in
    let base_from = c.behind_const-base_from.result in
    let to = c.in-Some.to in
    let inside = base_goes_on tokens base_from to c.in-Some.base c.requires.input.input c.in-Some.ensures.0 in
    typed_one_word (terminals_of tokens) c.args.from base_from to room c.in-Some.base (omega (arith, inside, length_terminals tokens)) (c.if-to-base_from.true ∙ add-one base_from) c.behind_const-base_from.ensures c.in-Some.ensures.0 c.in-Some.ensures.1
    (λ more. elim (more) [ inl named ↦ denied c.is_name.ensures c.if-is_name.false named | inr opened ↦ denied c.is_operator.ensures c.if-is_operator.false opened ])

pub overflow_sub-at : goal.overflow_sub-at
overflow_sub-at c = omega (arith, base_forward (terminals_of c.args.tokens.now) c.behind_const-base_from.result c.in-Some.to c.in-Some.base c.in-Some.ensures.0)

longer : (i to : ℕ) → i < to → (to ≡ i + 1 → ⊥) → i < to - 1
longer i to lt other = elim (same_or_below (suc i) to (omega (arith, lt))) [ inl e ↦ absurd (other (omega (arith, e))) | inr l ↦ omega (arith, l) ]

pub unreachable-requires : goal.unreachable-requires
unreachable-requires c =
    let ts = terminals_of c.args.tokens.now in
    let base_from = c.behind_const-base_from.result in
    let to = c.in-Some.to in
    let forward = base_forward ts base_from to c.in-Some.base c.in-Some.ensures.0 in
    no_front ts base_from to (to - 1) c.in-Some.base c.in-Some.ensures.0 (longer base_from to forward c.if-to-base_from.false) (omega arith) c.in_default-base_of.ensures

pub returns : goal.returns
returns c = λ room.
    let tokens = c.args.tokens.now in
    let ts = terminals_of tokens in
    let base_from = c.behind_const-base_from.result in
    let to = c.in-Some.to in
    let forward = base_forward ts base_from to c.in-Some.base c.in-Some.ensures.0 in
    let tree = c.typing-tree-2.result in
    let made = c.typing-tree-2.ensures in
    let typed = typing_made ts c.args.from base_from (to - 1) 0 (to - 1) c.in-Some-base_of.base [] tree c.behind_const-base_from.ensures c.in-Some-base_of.ensures (HasAxes.no_view refl refl refl) made.number made.placed made.constness made.base (made.axes ∙ c.new-2.ensures) in
    let named = base_names ts base_from to c.in-Some.base c.in-Some.ensures.0 (to - 1) (omega (arith, forward)) (omega (arith, forward)) in
    let same : to ≡ suc (to - 1) = omega (arith, forward) in
    let ends : EndsName ts to = (λ name h. denied c.is_name.ensures c.if-is_name.false (name, h), denied c.is_operator.ensures c.if-is_operator.false) in
    typing_read tokens c.args.from (to - 1) room to 0 tree c.requires.input.input typed (omega arith) named (subst (EndsName ts) same ends) same

use Rattle.std.proofs.Common.{inl, inr, ◌∙◌, sym, drop}
use Rattle.std.proofs.lemmas.Bool.{not-true, not-false}
use Rattle.px_lexer.specs.declared.string_content.Content.TheVariants.{Spelled, Wrong}
use Rattle.px_lexer.proofs.StringReadLemmas.{text_opens, ends_there, breaks_off_first, wrong_first, wrong_there, cut_off, IsOver, prefix_may_stand, readable_there, read_there, read_as}
use Rattle.px_lexer.proofs.strings.string.Goals as goal
use Rattle.px_lexer.proofs.strings.string.Goals.{else-not-outline-via-then-not-outline+else-code-ne-UNREADABLE, else-not-outline-via-else-not-outline, then-is_foreign, else-is_foreign}

pub outline_at-outline-requires : goal.outline_at-outline-requires
outline_at-outline-requires c = text_opens (drop c.args.from c.args.cs.now) c.requires

pub returns-then-code-ne-UNREADABLE : goal.returns-then-code-ne-UNREADABLE
returns-then-code-ne-UNREADABLE c =
    let o = c.outline_at-outline.ensures in (
      c.outline_at-outline.result.to,
      ends_there c.args.cs.now c.args.from c.outline_at-outline.result o,
      inl (breaks_off_first c.args.cs.now c.args.from c.outline_at-outline.result o (not-true _ c.if-not-outline.true) (λ u. c.if-code-ne-UNREADABLE.true (c.code.ensures ∙ u))),
    )

pub content_of-requires : goal.content_of-requires
content_of-requires c = readable_there c.args.cs.now c.args.from c.outline_at-outline.result c.outline_at-outline.ensures c.new-body.result c.new-body.ensures

pub returns-in-Wrong : goal.returns-in-Wrong
returns-in-Wrong c =
    let o = c.outline_at-outline.ensures in
    let over : IsOver c.args.cs.now c.args.from c.outline_at-outline.result o = elim c.else-not-outline.branch [
      | else-not-outline-via-then-not-outline+else-code-ne-UNREADABLE w ↦ inr (sym w.code.ensures ∙ w.if-code-ne-UNREADABLE.false)
      | else-not-outline-via-else-not-outline w ↦ inl (not-false _ w.if-not-outline.false)
    ] in
    let r = read_there c.args.cs.now c.args.from c.outline_at-outline.result o c.is_raw.result c.new-prefix.result c.new-body.result c.in_ok-content.field-0 (Wrong c.in-Wrong.index) c.is_raw.ensures c.new-prefix.ensures c.new-body.ensures c.in-Wrong.is c.in_ok-content.ensures in
    let w = wrong_there c.args.cs.now c.args.from c.outline_at-outline.result o _ c.in-Wrong.index r in (
      c.outline_at-outline.result.to,
      ends_there c.args.cs.now c.args.from c.outline_at-outline.result o,
      inl (wrong_first c.args.cs.now c.args.from c.outline_at-outline.result o c.in-Wrong.index over w.0 w.1 w.2),
    )

pub returns-then-not-outline-2 : goal.returns-then-not-outline-2
returns-then-not-outline-2 c =
    let o = c.outline_at-outline.ensures in
    let over : IsOver c.args.cs.now c.args.from c.outline_at-outline.result o = elim c.else-not-outline.branch [
      | else-not-outline-via-then-not-outline+else-code-ne-UNREADABLE w ↦ inr (sym w.code.ensures ∙ w.if-code-ne-UNREADABLE.false)
      | else-not-outline-via-else-not-outline w ↦ inl (not-false _ w.if-not-outline.false)
    ] in
    let r = read_there c.args.cs.now c.args.from c.outline_at-outline.result o c.is_raw.result c.new-prefix.result c.new-body.result c.in_ok-content.field-0 (Spelled c.in-Spelled.content) c.is_raw.ensures c.new-prefix.ensures c.new-body.ensures c.in-Spelled.is c.in_ok-content.ensures in (
      c.outline_at-outline.result.to,
      ends_there c.args.cs.now c.args.from c.outline_at-outline.result o,
      inr (cut_off c.args.cs.now c.args.from c.outline_at-outline.result o c.in-Spelled.content (not-true _ c.if-not-outline-2.true) over r),
    )

pub is_foreign-requires : goal.is_foreign-requires
is_foreign-requires c = prefix_may_stand c.args.cs.now c.args.from c.outline_at-outline.result c.outline_at-outline.ensures (text_opens (drop c.args.from c.args.cs.now) c.requires) c.new-prefix.result c.new-prefix.ensures

pub returns : goal.returns
returns c =
    let o = c.outline_at-outline.ensures in
    let r = read_there c.args.cs.now c.args.from c.outline_at-outline.result o c.is_raw.result c.new-prefix.result c.new-body.result c.in_ok-content.field-0 (Spelled c.in-Spelled.content) c.is_raw.ensures c.new-prefix.ensures c.new-body.ensures c.in-Spelled.is c.in_ok-content.ensures in
    read_as c.args.cs.now c.args.from c.outline_at-outline.result o c.in-Spelled.content c.if-is_foreign.kind c.new-prefix.result c.is_foreign.result (not-false _ c.if-not-outline-2.false) c.new-prefix.ensures c.is_foreign.ensures
    (elim c.if-is_foreign.branch [ then-is_foreign w ↦ rw w.if-is_foreign.true w.kind-is | else-is_foreign w ↦ rw w.if-is_foreign.false w.kind-is ]) r

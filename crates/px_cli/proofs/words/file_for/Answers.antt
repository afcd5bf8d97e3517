use Rattle.std.proofs.Common.{string_bytes, sym, ap, ◌∙◌, length, subst, get_or, ◌≡◌, ℕ, List}
use Rattle.px_cli.proofs.WordLemmas.{asks_for}
use Rattle.px_cli.proofs.words.file_for.Goals as goal

pub returns : goal.returns
returns c =
    let name : c.as_bytes.result.now ≡ c.as_str-2.result.now = c.as_bytes.ensures.value ∙ sym c.as_str-2.ensures.value in
    let unmarked = subst (λ (text : List ℕ). get_or text 0 0 ≡ 45 → ⊥) name c.if-as_bytes-eq45.false in
    asks_for string_bytes _ c.args.command _ _ _ _ _ _ c.in-len2.len_below c.in-len2.len_at_least c.first-item.is c.file-item.is
    c.as_str.ensures.value c.word_of.ensures c.as_str-2.ensures.value c.if-ne.ensures
    (ap length (sym name) ∙ c.as_bytes.ensures.len) c.if-is_empty.ensures unmarked

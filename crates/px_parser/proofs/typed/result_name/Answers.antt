use Rattle.std.proofs.lemmas.Result.{err_from_is_err_and}
use Rattle.std.proofs.Common.{suc, codes, sym, subst, add-one, arith}
use Rattle.px_base.proofs.Facts.{denied}
use Rattle.px_tree.specs.declared.modules.ResultType.TheVariants as result_type
use Rattle.px_lexer.specs.Terminals.{IsName, terminals_of}
use Rattle.px_lexer.proofs.TokenAccess.{length_terminals}
use Rattle.px_parser.proofs.TypedNames.{SomeName}
use Rattle.px_parser.proofs.TypedReading.{Named}
use Rattle.px_parser.proofs.MaybeTyped.{result_choice, choice_unread, choice_read, alone_reads, void_reads, void_first, void_out, void_absent}
use Rattle.px_parser.proofs.typed.result_name.Goals.{else-is_word-via-then-is_word+else-is_name, else-is_word-via-else-is_word}
use Rattle.px_parser.proofs.typed.result_name.Goals as goal

pub returns-then-is_name : goal.returns-then-is_name
returns-then-is_name c = λ room.
    let tokens = c.args.tokens.now in
    let ts = terminals_of tokens in
    let void = c.is_word.ensures.0 c.if-is_word.true in
    let named = subst (SomeName ts) (add-one c.args.from) (c.is_name.ensures.0 c.if-is_name.true) in
    void_reads tokens c.args.from room c.name_behind.result c.requires.input.input void named (subst (λ x. Named ts result_type.Void x c.name_behind.result) (add-one c.args.from) c.name_behind.ensures)

pub returns-then-not-begins_typed : goal.returns-then-not-begins_typed
returns-then-not-begins_typed c = λ room.
    let tokens = c.args.tokens.now in
    let ts = terminals_of tokens in
    let free = denied c.begins_typed.ensures c.if-not-begins_typed.true in
    let none : IsName ts c.args.from (codes "void") → SomeName ts (suc c.args.from) → ⊥ = λ void named. elim (c.else-is_word.branch) [
      | else-is_word-via-then-is_word+else-is_name w ↦
          (let there = subst (SomeName ts) (sym (add-one c.args.from)) named in denied w.is_name.ensures w.if-is_name.false there)
      | else-is_word-via-else-is_word w ↦ denied c.is_word.ensures w.if-is_word.false void
    ] in
    alone_reads tokens c.args.from room c.name_behind-then-not-begins_typed.result result_choice c.requires.input.input c.requires.inside free (void_first c.args.from) (void_absent ts c.args.from none) c.name_behind-then-not-begins_typed.ensures

pub returns-in_err-found : goal.returns-in_err-found
returns-in_err-found c = λ room.
    let tokens = c.args.tokens.now in
    let ts = terminals_of tokens in
    let p = err_from_is_err_and c.from_residual.result c.from_residual.ensures.1 in
    let begins = c.begins_typed.ensures.0 c.if-not-begins_typed.false in
    rw (p.1, p.2) (choice_unread ts c.args.from room c.in_err-found.field-0.0 result_choice begins.0 begins.1 (omega (arith, length_terminals tokens, c.requires.inside)) (void_out ts c.args.from begins.0) (c.in_err-found.ensures room))

pub returns : goal.returns
returns c = λ room. choice_read (terminals_of c.args.tokens.now) c.args.from room c.in_ok-found.found.to c.in_ok-found.found.tree result_choice (c.in_ok-found.ensures room)

use Rattle.std.proofs.Common.{◌+◌, add-one, refl, arith}
use Rattle.std.proofs.lemmas.Result.{err_from_is_err_and}
use Rattle.px_base.proofs.Facts.{denied}
use Rattle.px_lexer.specs.Terminals.{terminals_of}
use Rattle.px_parser.proofs.ReadingSteps.{inside_terminals, name_goes_on}
use Rattle.px_parser.proofs.HeadReading.{IsHead, def_stuck, c_refused, head_read, head_stuck}
use Rattle.px_parser.proofs.functions.head.Goals.{then-is_keyword+else-not-is_name, else-is_keyword+in_ok-found}
use Rattle.px_parser.proofs.functions.head.Goals as goal

pub returns-then-not-is_name : goal.returns-then-not-is_name
returns-then-not-is_name c = λ room. def_stuck c.args.tokens.now c.args.from (c.args.from + 1) room c.requires.input (c.is_keyword.ensures.0 c.if-is_keyword.true) (add-one c.args.from) (λ name h. denied c.is_name.ensures c.if-not-is_name.true (name, h))

pub returns-in_err-found : goal.returns-in_err-found
returns-in_err-found c =
    let p = err_from_is_err_and c.from_residual.result c.from_residual.ensures.1 in
    λ room. rw (p.1, p.2) (c_refused (terminals_of c.args.tokens.now) c.args.from room _ (denied c.is_keyword.ensures c.if-is_keyword.false) (c.in_err-found.ensures room))

pub returns-then-is_operator : goal.returns-then-is_operator
returns-then-is_operator c =
    let known : IsHead (terminals_of c.args.tokens.now) c.args.from c.if-is_keyword.tree.0 c.if-is_keyword.tree.1 = elim c.if-is_keyword.branch [
      | then-is_keyword+else-not-is_name w ↦ (
          let named = w.is_name.ensures.0 w.if-not-is_name.false in
          let inside = inside_terminals c.args.tokens.now (c.args.from + 2) (name_goes_on c.args.tokens.now (c.args.from + 1) (c.args.from + 2) c.requires.input named.1 (omega arith)) in
          rw w.tree-is (IsHead.def (c.args.from + 1) named.0 (c.is_keyword.ensures.0 w.if-is_keyword.true) named.1 (add-one c.args.from) refl (omega arith) inside))
      | else-is_keyword+in_ok-found w ↦ rw w.tree-is (IsHead.c (denied c.is_keyword.ensures w.if-is_keyword.false) w.in_ok-found.ensures)
    ] in
    λ room. head_read (terminals_of c.args.tokens.now) c.args.from _ room _ known (c.is_operator.ensures.0 c.if-is_operator.true)

pub returns-else-is_operator : goal.returns-else-is_operator
returns-else-is_operator c =
    let known : IsHead (terminals_of c.args.tokens.now) c.args.from c.if-is_keyword.tree.0 c.if-is_keyword.tree.1 = elim c.if-is_keyword.branch [
      | then-is_keyword+else-not-is_name w ↦ (
          let named = w.is_name.ensures.0 w.if-not-is_name.false in
          let inside = inside_terminals c.args.tokens.now (c.args.from + 2) (name_goes_on c.args.tokens.now (c.args.from + 1) (c.args.from + 2) c.requires.input named.1 (omega arith)) in
          rw w.tree-is (IsHead.def (c.args.from + 1) named.0 (c.is_keyword.ensures.0 w.if-is_keyword.true) named.1 (add-one c.args.from) refl (omega arith) inside))
      | else-is_keyword+in_ok-found w ↦ rw w.tree-is (IsHead.c (denied c.is_keyword.ensures w.if-is_keyword.false) w.in_ok-found.ensures)
    ] in
    λ room. head_stuck (terminals_of c.args.tokens.now) c.args.from _ room _ known (denied c.is_operator.ensures c.if-is_operator.false)

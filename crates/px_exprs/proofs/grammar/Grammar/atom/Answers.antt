use Rattle.std.proofs.Common.{rules, FitsSigned, refl, ap, subst, ◌∙◌, arith}
use Rattle.std.specs.Int.{w128}
use Rattle.std.proofs.lemmas.Int.{to_z-of_z}
use Rattle.std.proofs.lemmas.Result.{err_from_is_err_and}
use Rattle.px_lexer.specs.Terminals.{HasKind, terminals_of}
use Rattle.px_tree.specs.declared.expressions.ExprForm.TheVariants as form
use Rattle.px_exprs.specs.Grammar.{node as node_of, IsAtom}
use Rattle.px_lexer.proofs.TokenAccess.{name_kind}
use Rattle.px_exprs.proofs.AtomSteps.{token_read, texts_atom, name_refused, kind_stuck, no_token}
use Rattle.px_exprs.proofs.grammar.Grammar.atom.Goals as goal

pub returns-in_default : goal.returns-in_default
returns-in_default g c = absurd (no_token c.args.tokens.now c.args.from c.requires.inside c.in_default.ensures)

pub returns-in_err-name-in-Name : goal.returns-in_err-name-in-Name
returns-in_err-name-in-Name g c =
    let p = err_from_is_err_and c.from_residual.result c.from_residual.ensures.1 in
    let h = subst (HasKind (terminals_of c.args.tokens.now) c.args.from) c.in-Name.is c.in-Some.ensures in
    rw (p.1, p.2) (name_refused c.args.room h c.in_err-name-in-Name.field-0.0 c.in_err-name-in-Name.ensures)

pub returns-in_ok-name-in-Name : goal.returns-in_ok-name-in-Name
returns-in_ok-name-in-Name g c =
    let node = c.read_node.ensures in
    let name = c.in_ok-name-in-Name.ensures in
    token_read c.args.tokens.now c.requires.input (name_kind name) (omega arith) refl (IsAtom.name node.1 name node.2) node.3 node.4

pub returns-in-Number : goal.returns-in-Number
returns-in-Number g c =
    let node = c.read_node-in-Number.ensures in
    let h = subst (HasKind (terminals_of c.args.tokens.now) c.args.from) c.in-Number.is c.in-Some.ensures in
    let fits : FitsSigned w128 c.in-Number.value = search rules in
    let tree = node.2 ∙ ap (λ n. node_of c.args.from node.0 (form.Number n)) (to_z-of_z w128 c.in-Number.value fits) in
    token_read c.args.tokens.now c.requires.input h (omega arith) refl (IsAtom.number node.1 h tree) node.3 node.4

pub returns-in_ok-contents-in-Text : goal.returns-in_ok-contents-in-Text
returns-in_ok-contents-in-Text g c =
    let node = c.read_node-in-Text.ensures in
    let found = c.in_ok-contents-in-Text.ensures in
    texts_atom c.args.tokens.now c.requires.input node.1 found.read found.ended node.2 node.3 node.4

pub returns-in_default-kind : goal.returns-in_default-kind
returns-in_default-kind g c =
    let other = c.in_default-kind in
    kind_stuck c.in-Some.kind.now c.in-Some.ensures other.not-Name other.not-Number other.not-Text other.not-Keyword other.not-Operator

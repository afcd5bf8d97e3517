use Rattle.std.proofs.Common.{refl, subst, arith}
use Rattle.px_lexer.specs.Terminals.{IsKeyword, terminals_of}
use Rattle.px_exprs.specs.Grammar.{IsAtom}
use Rattle.px_lexer.proofs.TokenAccess.{stands_within}
use Rattle.px_exprs.proofs.AtomSteps.{token_read, keyword_stuck}
use Rattle.px_exprs.proofs.atoms.keyword_atom.Goals as goal

pub overflow_add-from : goal.overflow_add-from
overflow_add-from c = omega (arith, stands_within c.args.tokens.now c.args.from c.requires.begins.token c.requires.begins.stands, c.requires.input.few)

pub read_node-requires-clause-small : goal.read_node-requires-clause-small
read_node-requires-clause-small c = omega (arith, stands_within c.args.tokens.now c.args.from c.requires.begins.token c.requires.begins.stands, c.requires.input.few)

pub read_node-requires-clause-inside : goal.read_node-requires-clause-inside
read_node-requires-clause-inside c = stands_within c.args.tokens.now c.args.from c.requires.begins.token c.requires.begins.stands

pub overflow_add-from-in-False : goal.overflow_add-from-in-False
overflow_add-from-in-False c = omega (arith, stands_within c.args.tokens.now c.args.from c.requires.begins.token c.requires.begins.stands, c.requires.input.few)

pub read_node-requires-in-False-clause-small : goal.read_node-requires-in-False-clause-small
read_node-requires-in-False-clause-small c = omega (arith, stands_within c.args.tokens.now c.args.from c.requires.begins.token c.requires.begins.stands, c.requires.input.few)

pub read_node-requires-in-False-clause-inside : goal.read_node-requires-in-False-clause-inside
read_node-requires-in-False-clause-inside c = stands_within c.args.tokens.now c.args.from c.requires.begins.token c.requires.begins.stands

pub overflow_add-from-in-None : goal.overflow_add-from-in-None
overflow_add-from-in-None c = omega (arith, stands_within c.args.tokens.now c.args.from c.requires.begins.token c.requires.begins.stands, c.requires.input.few)

pub read_node-requires-in-None-clause-small : goal.read_node-requires-in-None-clause-small
read_node-requires-in-None-clause-small c = omega (arith, stands_within c.args.tokens.now c.args.from c.requires.begins.token c.requires.begins.stands, c.requires.input.few)

pub read_node-requires-in-None-clause-inside : goal.read_node-requires-in-None-clause-inside
read_node-requires-in-None-clause-inside c = stands_within c.args.tokens.now c.args.from c.requires.begins.token c.requires.begins.stands

pub returns-in-True : goal.returns-in-True
returns-in-True c =
    let node = c.read_node.ensures in
    let h = subst (IsKeyword (terminals_of c.args.tokens.now) c.args.from) c.in-True.is c.requires.begins in
    token_read c.args.tokens.now c.requires.input h (omega arith) refl (IsAtom.true_ node.1 h node.2) node.3 node.4

pub returns-in-False : goal.returns-in-False
returns-in-False c =
    let node = c.read_node-in-False.ensures in
    let h = subst (IsKeyword (terminals_of c.args.tokens.now) c.args.from) c.in-False.is c.requires.begins in
    token_read c.args.tokens.now c.requires.input h (omega arith) refl (IsAtom.false_ node.1 h node.2) node.3 node.4

pub returns-in-None : goal.returns-in-None
returns-in-None c =
    let node = c.read_node-in-None.ensures in
    let h = subst (IsKeyword (terminals_of c.args.tokens.now) c.args.from) c.in-None.is c.requires.begins in
    token_read c.args.tokens.now c.requires.input h (omega arith) refl (IsAtom.none node.1 h node.2) node.3 node.4

pub returns-in_default : goal.returns-in_default
returns-in_default c = keyword_stuck c.args.word c.requires.begins c.in_default.not-True c.in_default.not-False c.in_default.not-None c.in_default.not-Sizeof

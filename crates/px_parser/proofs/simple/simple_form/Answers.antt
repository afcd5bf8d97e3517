use Rattle.std.proofs.Common.{subst}
use Rattle.px_lexer.specs.declared.spelling.Keyword.TheVariants as word
use Rattle.px_lexer.specs.declared.token_list.TokenKind.TheVariants as kind
use Rattle.px_tree.specs.declared.statements.StmtForm.TheVariants as statement
use Rattle.px_lexer.specs.Terminals.{IsKeyword, terminals_of}
use Rattle.px_lexer.proofs.OneToken.{one_keyword}
use Rattle.px_parser.proofs.SimpleSteps.{token_here, branch_reads, is_pass, is_break, is_continue, is_return, is_raise, is_global, is_assigned, lone_answer}
use Rattle.px_parser.proofs.simple.simple_form.Goals as goal

pub returns-in_default : goal.returns-in_default
returns-in_default c =
    let ts = terminals_of c.args.tokens.now in
    let none = c.in_default.ensures in
    λ room. branch_reads (is_assigned ts c.args.from room (none word.Pass) (none word.Break) (none word.Continue) (none word.Return) (none word.Raise) (none word.Global)) _ (c.assigned_form.ensures room)

pub returns-in-Pass : goal.returns-in-Pass
returns-in-Pass c =
    let ts = terminals_of c.args.tokens.now in
    let stands : IsKeyword ts c.args.from word.Pass = subst (IsKeyword ts c.args.from) c.in-Pass.is c.in-Some.ensures in
    λ room. branch_reads (is_pass ts c.args.from room stands) _ (lone_answer word.Pass statement.Pass (token_here c.args.tokens.now c.args.from room (kind.Keyword word.Pass) c.requires.input (λ e. cc) stands) _ c.keep_before_simple_end.ensures)

pub returns-in-Break : goal.returns-in-Break
returns-in-Break c =
    let ts = terminals_of c.args.tokens.now in
    let stands : IsKeyword ts c.args.from word.Break = subst (IsKeyword ts c.args.from) c.in-Break.is c.in-Some.ensures in
    λ room. branch_reads (is_break ts c.args.from room stands) _ (lone_answer word.Break statement.Break (token_here c.args.tokens.now c.args.from room (kind.Keyword word.Break) c.requires.input (λ e. cc) stands) _ c.keep_before_simple_end-in-Break.ensures)

pub returns-in-Continue : goal.returns-in-Continue
returns-in-Continue c =
    let ts = terminals_of c.args.tokens.now in
    let stands : IsKeyword ts c.args.from word.Continue = subst (IsKeyword ts c.args.from) c.in-Continue.is c.in-Some.ensures in
    λ room. branch_reads (is_continue ts c.args.from room stands) _ (lone_answer word.Continue statement.Continue (token_here c.args.tokens.now c.args.from room (kind.Keyword word.Continue) c.requires.input (λ e. cc) stands) _ c.keep_before_simple_end-in-Continue.ensures)

pub returns-in-Return : goal.returns-in-Return
returns-in-Return c =
    let ts = terminals_of c.args.tokens.now in
    let stands : IsKeyword ts c.args.from word.Return = subst (IsKeyword ts c.args.from) c.in-Return.is c.in-Some.ensures in
    λ room. branch_reads (is_return ts c.args.from room stands) _ (c.return_form.ensures room)

pub returns-in-Raise : goal.returns-in-Raise
returns-in-Raise c =
    let ts = terminals_of c.args.tokens.now in
    let stands : IsKeyword ts c.args.from word.Raise = subst (IsKeyword ts c.args.from) c.in-Raise.is c.in-Some.ensures in
    λ room. branch_reads (is_raise ts c.args.from room stands) _ (c.raise_form.ensures room)

pub returns-in-Global : goal.returns-in-Global
returns-in-Global c =
    let ts = terminals_of c.args.tokens.now in
    let stands : IsKeyword ts c.args.from word.Global = subst (IsKeyword ts c.args.from) c.in-Global.is c.in-Some.ensures in
    λ room. branch_reads (is_global ts c.args.from room stands) _ (c.global.ensures room)

pub returns-in_default-word : goal.returns-in_default-word
returns-in_default-word c =
    let ts = terminals_of c.args.tokens.now in
    let here = c.in-Some.ensures in
    let other = c.in_default-word in
    λ room. branch_reads
    (is_assigned ts c.args.from room (λ h. other.not-Pass (one_keyword here h)) (λ h. other.not-Break (one_keyword here h)) (λ h. other.not-Continue (one_keyword here h)) (λ h. other.not-Return (one_keyword here h))
    (λ h. other.not-Raise (one_keyword here h)) (λ h. other.not-Global (one_keyword here h))) _ (c.assigned_form-in_default-word.ensures room)

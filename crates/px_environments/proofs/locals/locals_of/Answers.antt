use Rattle.std.proofs.Common.{List, ◌++◌, map, sym, ap, ◌∙◌}
use Rattle.std.specs.Prelude.{flat_map}
use Rattle.std.proofs.lemmas.List.{append-nil}
use Rattle.px_tree.specs.declared.modules.Param.{Param}
use Rattle.px_tree.specs.declared.statements.Stmt.{Stmt}
use Rattle.px_tree.specs.declared.typed_modules.Local.{Local}
use Rattle.px_walk.specs.StmtView.{rose_of_stmt}
use Rattle.px_environments.specs.Signatures.{local_of_param, locals_of_statement}
use Rattle.px_environments.proofs.Gathered.{map_step, flat_map_step}
use Rattle.px_environments.proofs.Parts.{drop_here, drop_past}
use Rattle.px_environments.proofs.locals.locals_of.Goals as goal

pub loop-param-preserved : goal.loop-param-preserved
loop-param-preserved c =
    let params = c.args.function.now.params in
    let k = c.loop-param.param-index in
    let param = c.param-item.result in
    map_step local_of_param params k param c.loop-param.locals c.add_param.new.locals
    (drop_here c.as_slice-param-items.result.now params k param c.as_slice-param-items.ensures c.loop-param-test.true c.param-item.is)
    c.in_ok-add_param.ensures
    ∙ c.loop-param.invariant

pub loop-statement-init : goal.loop-statement-init
loop-statement-init c =
    let f = c.args.function.now in
    ap (λ (locals : List Local). locals ++ flat_map (λ s. locals_of_statement (rose_of_stmt s)) f.body)
    (sym (append-nil c.loop-param.locals)
    ∙ ap (λ (rest : List Param). c.loop-param.locals ++ map local_of_param rest)
    (sym (drop_past c.as_slice-param-items.result.now f.params c.loop-param.param-index c.as_slice-param-items.ensures c.loop-param-test.false))
    ∙ c.loop-param.invariant)

pub loop-statement-preserved : goal.loop-statement-preserved
loop-statement-preserved c =
    let body = c.args.function.now.body in
    let k = c.loop-statement.statement-index in
    let statement = c.statement-item.result in
    flat_map_step (λ s. locals_of_statement (rose_of_stmt s)) body k statement c.loop-statement.locals c.add_statement.new.locals
    (drop_here c.as_slice-statement-items.result.now body k statement c.as_slice-statement-items.ensures c.loop-statement-test.true c.statement-item.is)
    c.in_ok-add_statement.ensures
    ∙ c.loop-statement.invariant

pub returns : goal.returns
returns c =
    let f = c.args.function.now in
    sym (append-nil c.loop-statement.locals)
    ∙ ap (λ (rest : List Stmt). c.loop-statement.locals ++ flat_map (λ s. locals_of_statement (rose_of_stmt s)) rest)
    (sym (drop_past c.as_slice-statement-items.result.now f.body c.loop-statement.statement-index c.as_slice-statement-items.ensures c.loop-statement-test.false))
    ∙ c.loop-statement.invariant

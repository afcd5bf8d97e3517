use Rattle.std.proofs.Common.{◌≤◌, Bool, List, [], ◌++◌, sym, ap, subst, ◌∙◌}
use Rattle.std.specs.Prelude.{flat_map, if◌then◌else◌}
use Rattle.std.proofs.lemmas.List.{append-nil, drop_all}
use Rattle.px_walk.specs.ExprView.{Tree}
use Rattle.px_walk.specs.Nodes.{rose_of}
use Rattle.px_walk.specs.Roses.{parts_of}
use Rattle.px_environments.specs.Signatures.{is_declare, locals_of_declaration}
use Rattle.px_environments.proofs.Gathered.{flat_map_step}
use Rattle.px_environments.proofs.Parts.{drop_one}
use Rattle.px_environments.proofs.locals.add_statement.Goals as goal

pub loop-k-preserved : goal.loop-k-preserved
loop-k-preserved c =
    let parts = parts_of (rose_of c.args.node) in
    let part = rose_of c.part.result in
    flat_map_step locals_of_declaration parts c.loop-k.k part c.loop-k.locals c.add_declaration.new.locals
    (drop_one parts c.loop-k.k part c.part.ensures) c.in_ok-add_declaration.ensures
    ∙ c.loop-k.invariant

pub returns : goal.returns
returns c =
    let parts = parts_of (rose_of c.args.node) in
    sym (append-nil c.loop-k.locals)
    ∙ ap (λ (rest : List Tree). c.loop-k.locals ++ flat_map locals_of_declaration rest)
    (sym (drop_all c.loop-k.k parts (subst (λ n. n ≤ c.loop-k.k) c.count-k-end.ensures c.loop-k-test.false)))
    ∙ c.loop-k.invariant
    ∙ ap (λ (b : Bool). c.args.locals.now ++ (if b then flat_map locals_of_declaration parts else []))
    (sym c.if-not-is_declare.false ∙ c.is_declare.ensures ∙ ap is_declare c.head.ensures)

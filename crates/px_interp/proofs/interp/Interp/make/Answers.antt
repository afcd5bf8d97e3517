use Rattle.std.proofs.Common.{◌++◌, sym, subst}
use Rattle.px_heap.specs.Heaps.{AreHeld}
use Rattle.px_interp.proofs.MadeObjects.{made_object}
use Rattle.px_interp.proofs.interp.Interp.make.Goals as goal

pub make-requires : goal.make-requires
make-requires c = subst (λ rs. AreHeld c.self.inside.heap rs) (sym c.requires) c.heap_laws.ensures.held

pub returns-in-Ok-clause-made : goal.returns-in-Ok-clause-made
returns-in-Ok-clause-made c store =
    made_object c.self.inside.heap c.make.new.self c.self.inside.output c.args.self.now c.args.value c.in-Ok.of store c.self.view_is c.in-Ok.ensures
    (c.store_laws.ensures.made c.self.inside.heap c.make.new.self c.args.value c.in-Ok.of store)

pub returns-in-Ok-clause-held : goal.returns-in-Ok-clause-held
returns-in-Ok-clause-held c others h =
    let there : AreHeld c.self.inside.heap others = subst (λ i. AreHeld i.heap others) (sym c.self.view_is) h in
    c.held_laws.ensures.made c.self.inside.heap c.make.new.self c.args.value c.in-Ok.of others (subst (λ rs. AreHeld c.self.inside.heap (rs ++ others)) (sym c.requires) there) c.in-Ok.ensures

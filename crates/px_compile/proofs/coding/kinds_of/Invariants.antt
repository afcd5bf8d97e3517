-- the kinds so far, and those of what is left, are all
use Rattle.std.proofs.Common.{◌≡◌, ◌++◌, drop, map}
use Rattle.px_tree.specs.declared.typed_modules.Local.{Local}
use Rattle.px_machine.specs.Means.{kind_of}
use Rattle.px_compile.proofs.coding.kinds_of.Given as goal

abbrev pub invariant-loop-local : goal.invariant-loop-local
invariant-loop-local l =
    l.kinds ++ map kind_of (map (λ (local : Local). local.value_type) (drop l.local-index l.locals)) ≡ map kind_of (map (λ (local : Local). local.value_type) l.locals)

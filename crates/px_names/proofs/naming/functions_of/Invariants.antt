use Rattle.std.proofs.Common.{take}
use Rattle.std.specs.Prelude.{filter_map}
use Rattle.std.specs.List.{AllZip}
use Rattle.px_names.specs.Kept.{names_in}
use Rattle.px_names.specs.NamedModule.{IsFunctionCode, function_item}
use Rattle.px_names.proofs.naming.functions_of.Given as goal

abbrev pub invariant-loop-item : goal.invariant-loop-item
invariant-loop-item l =
    AllZip (IsFunctionCode (names_in l.lookup) l.directives) (filter_map function_item (take l.item-index l.«module».items)) l.functions

use Rattle.px_regcode.specs.Listed.{frames_of, registers_of}
use Rattle.px_regcode.proofs.Tables.{kept_by_facts}
use Rattle.px_regcode.proofs.ListedTables.{is_table}
use Rattle.px_regcode.proofs.ListedRules.{rules_kept}
use Rattle.px_regcode.proofs.laws.formed_laws.Goals as goal

pub returns : goal.returns
returns c image table closed kept stated =
    kept_by_facts image (frames_of table) (registers_of table) (is_table image table closed) (rules_kept image table kept stated)

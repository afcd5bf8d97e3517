-- Each clause is a case of the table.
use Rattle.std.proofs.Common.{◌≡◌, ◌≢◌, ℕ, length, refl, Option, Some, None}
use Rattle.std.specs.Prelude.{unwrap_or}
use Rattle.std.specs.Int.{div_ceil}
use Rattle.px_base.specs.declared.c_types.Schedule.TheVariants.{Static}
use Rattle.px_model.specs.Chunks.{chunk_table}
use Rattle.px_model.specs.Partition.{partition}
use Rattle.px_chunks.proofs.TableLaws.{each, even_number, sized_number, dynamic_number, guided_few}
use Rattle.px_chunks.proofs.laws.number_of_chunks.Goals as goal

sized_by : (n members : ℕ) (size : Option ℕ) → size ≢ None → length (chunk_table (partition n members Static size)) ≡ div_ceil n (unwrap_or size 1)
sized_by n members None h = absurd (h refl)
sized_by n members (Some s) h = sized_number n members s

pub returns-clause-even : goal.returns-clause-even
returns-clause-even c is none = rw (is, none) (even_number c.args.n c.args.members c.requires.some_members)

pub returns-clause-sized : goal.returns-clause-sized
returns-clause-sized c is some = rw is (sized_by c.args.n c.args.members c.args.size some)

pub returns-clause-dynamic : goal.returns-clause-dynamic
returns-clause-dynamic c is = rw is (dynamic_number c.args.n c.args.members c.args.size)

pub returns-clause-guided : goal.returns-clause-guided
returns-clause-guided c is = rw is (guided_few c.args.n c.args.members c.args.size c.requires.some_size)

pub returns-clause-nonempty : goal.returns-clause-nonempty
returns-clause-nonempty c =
    each c.args.n c.args.members c.args.schedule c.args.size c.requires.some_members c.requires.some_size

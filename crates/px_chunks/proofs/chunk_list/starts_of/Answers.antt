-- The kept places are those of the table's guided blocks.
use Rattle.std.proofs.Common.{◌≡◌, refl, sym, ◌∙◌, ap}
use Rattle.std.proofs.lemmas.Result.{IfOk-weaker}
use Rattle.px_model.specs.Chunks.{guided_blocks}
use Rattle.px_chunks.specs.Starts.{starts_from}
use Rattle.px_chunks.proofs.Cases.{guided_table}
use Rattle.px_chunks.proofs.chunk_list.starts_of.Goals as goal

pub returns-in-Guided-clause-guided : goal.returns-in-Guided-clause-guided
returns-in-Guided-clause-guided c =
    let table = guided_table c.args.n c.args.members c.args.schedule c.args.size _ refl c.least_size.result c.in-Guided.is c.least_size.ensures.value in
    IfOk-weaker c.guided_starts.result (λ v. v.items ≡ starts_from 0 (guided_blocks c.args.members c.least_size.result c.args.n c.args.n))
    (λ v. _) (λ v is _. is ∙ ap (starts_from 0) (sym table)) c.guided_starts.ensures

-- Each arm is a case of the table.
use Rattle.std.proofs.Common.{length, sym, ◌∙◌, ap}
use Rattle.px_chunks.proofs.Cases.{even_table, sized_table, dynamic_table}
use Rattle.px_chunks.proofs.Guided.{starts_length}
use Rattle.px_chunks.specs.Starts.{starts_from}
use Rattle.px_model.specs.Chunks.{chunk_table}
use Rattle.px_chunks.proofs.chunk_list.ChunkList.len.Goals as goal

pub returns-in-None : goal.returns-in-None
returns-in-None c = c.even_count.ensures ∙ ap length (sym (even_table _ _ _ _ _ c.self.view_is c.in-Static.is c.in-None.is))

pub returns-in-Some : goal.returns-in-Some
returns-in-Some c = c.block_count.ensures ∙ ap length (sym (sized_table _ _ _ _ _ c.self.view_is _ c.in-Static.is c.in-Some.is))

pub returns-in-Dynamic : goal.returns-in-Dynamic
returns-in-Dynamic c =
    c.block_count-in-Dynamic.ensures ∙ ap length (sym (dynamic_table _ _ _ _ _ c.self.view_is _ c.in-Dynamic.is c.least_size.ensures.value))

pub returns-in-Guided : goal.returns-in-Guided
returns-in-Guided c =
    c.len.ensures
    ∙ c.self.inside.starts.ok.0
    ∙ ap length (c.self.invariant.starts c.in-Guided.is ∙ ap (λ p. starts_from 0 (chunk_table p)) c.self.view_is)
    ∙ starts_length 0 (chunk_table c.args.self.now)

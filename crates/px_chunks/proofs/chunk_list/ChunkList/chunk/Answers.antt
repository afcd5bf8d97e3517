-- Each arm is a case of the table.
use Rattle.std.proofs.Common.{ℕ, List, ◌≡◌, ◌+◌, get_or, sym, ◌∙◌, ap, arith}
use Rattle.std.specs.Prelude.{sum}
use Rattle.px_model.specs.Chunks.{chunk_at, chunk_table, first_place}
use Rattle.px_chunks.specs.Starts.{starts_from}
use Rattle.px_chunks.proofs.Cases.{even_table, sized_table, dynamic_table, same_pair, started_length, started_first, started_past}
use Rattle.px_chunks.proofs.TableLaws.{table_sum}
use Rattle.px_chunks.proofs.chunk_list.ChunkList.chunk.Goals as goal
use Rattle.px_chunks.proofs.chunk_list.ChunkList.chunk.Goals.{After-deref}

pub even_chunk-requires-clause-within : goal.even_chunk-requires-clause-within
even_chunk-requires-clause-within c = rw (even_table _ _ _ _ _ c.self.view_is c.in-Static.is c.in-None.is) at c.requires

pub block_chunk-requires-clause-within : goal.block_chunk-requires-clause-within
block_chunk-requires-clause-within c = rw (sized_table _ _ _ _ _ c.self.view_is _ c.in-Static.is c.in-Some.is) at c.requires

pub block_chunk-requires-in-Dynamic-clause-within : goal.block_chunk-requires-in-Dynamic-clause-within
block_chunk-requires-in-Dynamic-clause-within c =
    rw (dynamic_table _ _ _ _ _ c.self.view_is _ c.in-Dynamic.is c.least_size.ensures.value) at c.requires

pub returns-in-None : goal.returns-in-None
returns-in-None c =
    c.even_chunk.ensures ∙ ap (λ t. chunk_at t c.args.k) (sym (even_table _ _ _ _ _ c.self.view_is c.in-Static.is c.in-None.is))

pub returns-in-Some : goal.returns-in-Some
returns-in-Some c =
    c.block_chunk.ensures ∙ ap (λ t. chunk_at t c.args.k) (sym (sized_table _ _ _ _ _ c.self.view_is _ c.in-Static.is c.in-Some.is))

pub returns-in-Dynamic : goal.returns-in-Dynamic
returns-in-Dynamic c =
    c.block_chunk-in-Dynamic.ensures
    ∙ ap (λ t. chunk_at t c.args.k) (sym (dynamic_table _ _ _ _ _ c.self.view_is _ c.in-Dynamic.is c.least_size.ensures.value))

-- the first places are those of the table, whose chunks hold all iterations
kept : (c : After-deref) → c.deref.result.now ≡ starts_from 0 (chunk_table c.args.self.now)
kept c = c.deref.ensures.value ∙ c.self.invariant.starts c.in-Guided.is ∙ ap (λ p. starts_from 0 (chunk_table p)) c.self.view_is

all : (c : After-deref) → sum (chunk_table c.args.self.now) ≡ c.self.inside.count
all c =
    ap (λ p. sum (chunk_table p)) (sym c.self.view_is)
    ∙ table_sum c.self.inside.count c.self.inside.members c.self.inside.schedule c.self.inside.size c.self.invariant.some_members c.self.invariant.some_size

pub started_chunk-requires-clause-within : goal.started_chunk-requires-clause-within
started_chunk-requires-clause-within c =
    rw (started_length (chunk_table c.args.self.now) c.deref.result.now c.self.inside.count (kept c) (all c) c.args.k c.requires) c.requires

pub started_chunk-requires-clause-ordered : goal.started_chunk-requires-clause-ordered
started_chunk-requires-clause-ordered c =
    let first = started_first (chunk_table c.args.self.now) c.deref.result.now c.self.inside.count (kept c) (all c) c.args.k c.requires in
    let past = started_past (chunk_table c.args.self.now) c.deref.result.now c.self.inside.count (kept c) (all c) c.args.k c.requires in
    rw past (omega (arith, first))

pub returns-in-Guided : goal.returns-in-Guided
returns-in-Guided c =
    let table : List ℕ = chunk_table c.args.self.now in
    let d = (goal.at.returns-in-Guided c).After-deref in
    let first = started_first table d.deref.result.now d.self.inside.count (kept d) (all d) d.args.k d.requires in
    let past = started_past table d.deref.result.now d.self.inside.count (kept d) (all d) d.args.k d.requires in
    let begin : c.started_chunk.result.0 ≡ first_place table c.args.k = c.started_chunk.ensures.first ∙ first in
    let end : c.started_chunk.result.0 + c.started_chunk.result.1 ≡ first_place table c.args.k + get_or table c.args.k 0 = c.started_chunk.ensures.past ∙ past in
    let count : c.started_chunk.result.1 ≡ get_or table c.args.k 0 = omega arith in
    same_pair c.started_chunk.result _ _ begin count

use Rattle.std.proofs.Common.{◌≡◌, ◌≢◌, ℕ, ◌+◌, ◌*◌, ◌<◌, List, [], length, get_or, set, None, Vec, Global, sym, subst, ap, ◌∙◌, inl, inr, arith}
use Rattle.std.specs.Vec.{with_items}
use Rattle.std.proofs.lemmas.Bool.{cases_eq}
use Rattle.clay_grid.specs.Shape.{chunk_count}
use Rattle.clay_model.specs.Chunks.{contents}
use Rattle.code_laws.proofs.Pieces.{written_whole}
use Rattle.lane_repair.specs.Views.{pieces_of}
use Rattle.lane_repair.specs.Pieces.{HoldsByte}
use Rattle.clay_lanes.specs.Present.{FitsChunks}
use Rattle.clay_lanes.specs.Recovered.{missing_of}
use Rattle.clay_parity.proofs.ChunkLists.{contents_at}
use Rattle.clay_lanes.proofs.MissingChunks.{missing_below, missing_none, written_at, written_other}
use Rattle.clay_lanes.proofs.block.Block.couple_chunks.Goals as goal

pub couple_chunk-requires-clause-chunk : goal.couple_chunk-requires-clause-chunk
couple_chunk-requires-clause-chunk c =
    let g = c.args.self.now.g in
    let have = pieces_of c.args.self.now.have in
    let i : ℕ = c.loop-i.i in
    let there : i < length (missing_of have) = omega (arith, c.loop-i-test.true, ap length c.requires.lost) in
    subst (λ l. get_or l i 0 < chunk_count g) (sym c.requires.lost) (subst (λ n. get_or (missing_of have) i 0 < n) c.requires.block.chunks.count (missing_below have i there))

pub couple_chunk-requires-clause-missing : goal.couple_chunk-requires-clause-missing
couple_chunk-requires-clause-missing c =
    let have = pieces_of c.args.self.now.have in
    let i : ℕ = c.loop-i.i in
    let there : i < length (missing_of have) = omega (arith, c.loop-i-test.true, ap length c.requires.lost) in
    subst (λ l. get_or have (get_or l i 0) None ≡ None) (sym c.requires.lost) (missing_none have i there)

pub couple_chunk-requires-clause-chunk_len : goal.couple_chunk-requires-clause-chunk_len
couple_chunk-requires-clause-chunk_len c =
    let vs = c.loop-i.chunks in
    let i : ℕ = c.loop-i.i in
    let below : i < length vs = omega (arith, c.loop-i-test.true, c.loop-i.auto.chunks, c.requires.chunk_count) in
    let first : i < length c.args.chunks.now = omega (arith, c.loop-i-test.true, c.requires.chunk_count) in
    ap length (c.deref_mut.ensures.value ∙ sym (contents_at vs i c.index-chunks-i.result below)) ∙ c.loop-i.invariant.lengths i first

pub loop-i-preserved : goal.loop-i-preserved
loop-i-preserved c =
    let g = c.args.self.now.g in
    let fits : List (List ℕ) → Type 0 = λ word. FitsChunks g (pieces_of c.args.self.now.have) word in
    let lost = c.args.lost.now in
    let vs = c.loop-i.chunks in
    let i : ℕ = c.loop-i.i in
    let v : Vec ℕ Global = get_or vs i c.index-chunks-i.result in
    let new = c.couple_chunk.new.chunk in
    let below : i < length vs = omega (arith, c.loop-i-test.true, c.loop-i.auto.chunks, c.requires.chunk_count) in
    let first : i < length c.args.chunks.now = omega (arith, c.loop-i-test.true, c.requires.chunk_count) in
    let old : c.deref_mut.result.now ≡ get_or (contents vs) i [] = c.deref_mut.ensures.value ∙ sym (contents_at vs i c.index-chunks-i.result below) in
    let size : length new ≡ length v.items = c.couple_chunk.auto.chunk ∙ ap length c.deref_mut.ensures.value in
    let is : (with_items v new).items ≡ new = written_whole v.len v.items new (omega (arith, v.ok.0)) size in
    let all : List (List ℕ) = contents (set vs i (with_items v new)) in
    let here : get_or all i [] ≡ new = written_at vs i (with_items v new) new is below in
    let there : (k : ℕ) → k ≢ i → get_or all k [] ≡ get_or (contents vs) k [] = λ k. written_other vs i k (with_items v new) in
    let kept : (k p : ℕ) → HoldsByte fits (get_or lost k 0) (get_or (contents vs) k []) p → HoldsByte fits (get_or lost k 0) (get_or all k []) p =
    λ k p h. elim (cases_eq k i) [
      | inl same ↦
          subst (λ n. HoldsByte fits (get_or lost n 0) (get_or all n []) p) (sym same)
          (subst (λ l. HoldsByte fits (get_or lost i 0) l p) (sym here)
          (c.couple_chunk.ensures.kept p (subst (λ l. HoldsByte fits (get_or lost i 0) l p) (sym old) (subst (λ n. HoldsByte fits (get_or lost n 0) (get_or (contents vs) n []) p) same h))))
      | inr other ↦ subst (λ l. HoldsByte fits (get_or lost k 0) l p) (sym (there k other)) h
    ] in
    record {
      lengths = λ k h. elim (cases_eq k i) [
        | inl same ↦ ap (λ n. length (get_or all n [])) same ∙ ap length here ∙ c.couple_chunk.auto.chunk ∙ ap length old ∙ c.loop-i.invariant.lengths i first
        | inr other ↦ ap length (there k other) ∙ c.loop-i.invariant.lengths k h
      ];
      written = λ k z b hk hz hb. elim (cases_eq k i) [
        | inl same ↦
            subst (λ n. HoldsByte fits (get_or lost n 0) (get_or all n []) (z * g.width + (c.args.self.now.at + b))) (sym same)
            (subst (λ l. HoldsByte fits (get_or lost i 0) l (z * g.width + (c.args.self.now.at + b))) (sym here) (c.couple_chunk.ensures.written z b hz hb))
        | inr other ↦ kept k (z * g.width + (c.args.self.now.at + b)) (c.loop-i.invariant.written k z b (omega (arith, hk, other)) hz hb)
      ];
      kept = λ k p h. kept k p (c.loop-i.invariant.kept k p h);
    }

pub returns-clause-written : goal.returns-clause-written
returns-clause-written c = λ i z b hi hz hb. c.loop-i.invariant.written i z b (omega (arith, hi, c.loop-i-test.false, c.loop-i.auto.i-end)) hz hb

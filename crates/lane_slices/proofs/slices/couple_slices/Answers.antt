use Rattle.std.proofs.Common.{◌≡◌, ◌≢◌, ℕ, ◌+◌, ◌*◌, ◌<◌, List, [], MutBor, map, length, get_or, set, None, sym, subst, ap, ◌∙◌, inl, inr, arith}
use Rattle.std.proofs.lemmas.Bool.{cases_eq}
use borrow.Rule.Slice.Mut.{set_vals}
use Rattle.clay_grid.specs.Shape.{chunk_count}
use Rattle.lane_repair.specs.Views.{pieces_of}
use Rattle.lane_repair.specs.Pieces.{HoldsByte}
use Rattle.clay_lanes.specs.Present.{FitsChunks}
use Rattle.clay_lanes.specs.Recovered.{missing_of}
use Rattle.clay_lanes.proofs.MissingChunks.{missing_below, missing_none}
use Rattle.lane_slices.proofs.SliceLemmas.{bytes_of, bytes_at, written_at, written_other}
use Rattle.lane_slices.proofs.slices.couple_slices.Goals as goal

pub couple_chunk-requires-clause-chunk : goal.couple_chunk-requires-clause-chunk
couple_chunk-requires-clause-chunk c =
    let g = c.args.block.now.g in
    let have = pieces_of c.args.block.now.have in
    let i : ℕ = c.loop-i.i in
    let there : i < length (missing_of have) = omega (arith, c.loop-i-test.true, ap length c.requires.lost) in
    subst (λ l. get_or l i 0 < chunk_count g) (sym c.requires.lost) (subst (λ n. get_or (missing_of have) i 0 < n) c.requires.block.chunks.count (missing_below have i there))

pub couple_chunk-requires-clause-missing : goal.couple_chunk-requires-clause-missing
couple_chunk-requires-clause-missing c =
    let have = pieces_of c.args.block.now.have in
    let i : ℕ = c.loop-i.i in
    let there : i < length (missing_of have) = omega (arith, c.loop-i-test.true, ap length c.requires.lost) in
    subst (λ l. get_or have (get_or l i 0) None ≡ None) (sym c.requires.lost) (missing_none have i there)

pub couple_chunk-requires-clause-chunk_len : goal.couple_chunk-requires-clause-chunk_len
couple_chunk-requires-clause-chunk_len c =
    let slices = c.loop-i.slices in
    let i : ℕ = c.loop-i.i in
    let below : i < length slices = omega (arith, c.loop-i-test.true, c.loop-i.auto.slices, c.requires.count) in
    let first : i < length c.args.slices.now = omega (arith, c.loop-i-test.true, c.requires.count) in
    ap length (sym (bytes_at slices i _ below)) ∙ c.loop-i.invariant.lengths i first

pub loop-i-preserved : goal.loop-i-preserved
loop-i-preserved c =
    let block = c.args.block.now in
    let g = block.g in
    let fits : List (List ℕ) → Type 0 = λ word. FitsChunks g (pieces_of block.have) word in
    let lost = c.args.lost.now in
    let slices = c.loop-i.slices in
    let i : ℕ = c.loop-i.i in
    let d : MutBor (List ℕ) = record { ref_ptr = (0, 0); ghost_name = 0; now = [] } in
    let slice : MutBor (List ℕ) = get_or slices i d in
    let new = c.couple_chunk.new.chunk in
    let below : i < length slices = omega (arith, c.loop-i-test.true, c.loop-i.auto.slices, c.requires.count) in
    let first : i < length c.args.slices.now = omega (arith, c.loop-i-test.true, c.requires.count) in
    let old : slice.now ≡ get_or (map bytes_of slices) i [] = sym (bytes_at slices i d below) in
    let all : List (List ℕ) = map bytes_of (set slices i (set_vals new slice)) in
    let here : get_or all i [] ≡ new = written_at slices i (set_vals new slice) below in
    let there : (k : ℕ) → k ≢ i → get_or all k [] ≡ get_or (map bytes_of slices) k [] = λ k. written_other slices i k (set_vals new slice) in
    let kept : (k p : ℕ) → HoldsByte fits (get_or lost k 0) (get_or (map bytes_of slices) k []) p → HoldsByte fits (get_or lost k 0) (get_or all k []) p =
    λ k p h. elim (cases_eq k i) [
      | inl same ↦
          subst (λ n. HoldsByte fits (get_or lost n 0) (get_or all n []) p) (sym same)
          (subst (λ l. HoldsByte fits (get_or lost i 0) l p) (sym here)
          (c.couple_chunk.ensures.kept p (subst (λ l. HoldsByte fits (get_or lost i 0) l p) (sym old) (subst (λ n. HoldsByte fits (get_or lost n 0) (get_or (map bytes_of slices) n []) p) same h))))
      | inr other ↦ subst (λ l. HoldsByte fits (get_or lost k 0) l p) (sym (there k other)) h
    ] in
    record {
      lengths = λ k h. elim (cases_eq k i) [
        | inl same ↦ ap (λ n. length (get_or all n [])) same ∙ ap length here ∙ c.couple_chunk.auto.chunk ∙ ap length old ∙ c.loop-i.invariant.lengths i first
        | inr other ↦ ap length (there k other) ∙ c.loop-i.invariant.lengths k h
      ];
      written = λ k z b hk hz hb. elim (cases_eq k i) [
        | inl same ↦
            subst (λ n. HoldsByte fits (get_or lost n 0) (get_or all n []) (z * g.width + (block.at + b))) (sym same)
            (subst (λ l. HoldsByte fits (get_or lost i 0) l (z * g.width + (block.at + b))) (sym here) (c.couple_chunk.ensures.written z b hz hb))
        | inr other ↦ kept k (z * g.width + (block.at + b)) (c.loop-i.invariant.written k z b (omega (arith, hk, other)) hz hb)
      ];
      kept = λ k p h. kept k p (c.loop-i.invariant.kept k p h);
    }

pub returns-clause-written : goal.returns-clause-written
returns-clause-written c = λ i z b hi hz hb. c.loop-i.invariant.written i z b (omega (arith, hi, c.loop-i-test.false, c.loop-i.auto.i-end)) hz hb

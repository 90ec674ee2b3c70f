use Rattle.std.proofs.Common.{◌≡◌, ℕ, ◌+◌, ◌-◌, ◌*◌, ◌<◌, List, [], map, get_or, sym, subst, inl, inr, arith}
use Rattle.std.proofs.lemmas.Bool.{cases_lt}
use Rattle.lane_repair.specs.Views.{pieces_of}
use Rattle.lane_repair.specs.Pieces.{HoldsByte}
use Rattle.clay_lanes.specs.Present.{FitsChunks}
use Rattle.lane_slices.proofs.SliceLemmas.{bytes_of}
use Rattle.lane_slices.proofs.slices.recover_parts.Goals as goal

pub loop-from-preserved : goal.loop-from-preserved
loop-from-preserved c =
    let block = c.args.whole.now in
    let g = block.g in
    let fits : List (List ℕ) → Type 0 = λ word. FitsChunks g (pieces_of block.have) word in
    let from : ℕ = c.loop-from.from in
    let len : ℕ = c.min-len.result in
    let found = c.recover_block.ensures in
    record {
      within = omega (arith, c.min-len.ensures, c.loop-from-test.true);
      lengths = λ k h. found.lengths k (subst (λ n. k < n) (sym c.loop-from.auto.slices) h);
      written = λ k z b hk hz hb. elim (cases_lt b from) [
        | inl early ↦ found.kept k (z * g.width + (block.at + b)) (c.loop-from.invariant.written k z b hk hz early)
        | inr late ↦
            let back : block.at + from + (b - from) ≡ block.at + b = omega arith in
            subst (λ v. HoldsByte fits (get_or c.args.lost.now k 0) (get_or (map bytes_of c.recover_block.new.slices) k []) (z * g.width + v)) back
            (found.written k z (b - from) hk hz (omega (arith, hb, late)))
      ];
    }

pub returns-clause-written : goal.returns-clause-written
returns-clause-written c = λ i z b hi hz hb. c.loop-from.invariant.written i z b hi hz (omega (arith, hb, c.loop-from-test.false))

use Rattle.std.proofs.Common.{◌≡◌, ℕ, ◌+◌, ◌-◌, ◌*◌, List, subst, inl, inr, arith}
use Rattle.std.proofs.lemmas.Bool.{cases_lt}
use Rattle.code_laws.specs.Rebuilt.{with_digit}
use Rattle.lane_repair.specs.Pieces.{HoldsByte}
use Rattle.lane_repair.specs.Views.{FitsPieces, pieces_of}
use Rattle.lane_repair.proofs.read_block.ReadBlock.write_parts.Goals as goal

pub loop-from-preserved : goal.loop-from-preserved
loop-from-preserved c =
    let block = c.args.self.now in
    let g = block.g in
    let lost : ℕ = block.plan.now.lost in
    let fits : List (List ℕ) → Type 0 = λ word. FitsPieces g lost (pieces_of block.parts) word in
    let from : ℕ = c.loop-from.from in
    let found = c.write.ensures in
    record {
      within = omega (arith, c.min-len.ensures, c.loop-from-test.true);
      written = λ x b hx hb. elim (cases_lt b from) [
        | inl early ↦ found.kept (with_digit g lost block.z x * g.width + (block.at + b)) (c.loop-from.invariant.written x b hx early)
        | inr late ↦
            let back : block.at + from + (b - from) ≡ block.at + b = omega arith in
            subst (λ v. HoldsByte fits lost c.write.new.chunk (with_digit g lost block.z x * g.width + v)) back
            (found.written x (b - from) hx (omega (arith, hb, late)))
      ];
      kept = λ p h. found.kept p (c.loop-from.invariant.kept p h);
    }

pub returns-clause-written : goal.returns-clause-written
returns-clause-written c = λ x b hx hb. c.loop-from.invariant.written x b hx (omega (arith, hb, c.loop-from-test.false))

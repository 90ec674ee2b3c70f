use Rattle.std.proofs.Common.{◌≡◌, ◌-◌, ◌+◌, ◌++◌, ◌∙◌, ap, ℕ, arith, length, replicate, vec_len}
use Rattle.std.proofs.lemmas.Grind.{common_steps}
use Rattle.file_bytes.proofs.MemoryLemmas.{zeros_more}
use Rattle.file_bytes.proofs.memory_file.fill_up.Goals as goal

pub zeros-preserved : goal.zeros-preserved
zeros-preserved c =
    let counted : vec_len c.zeros.bytes ≡ length c.zeros.bytes.items = c.zeros.bytes.ok.0 in
    let grown : length c.push_reserved.new.self.items ≡ length c.zeros.bytes.items + 1 = grind (arith, common_steps) in record {
      longer = omega (arith, grown);
      bounded = omega (arith, grown, counted);
      filled = zeros_more _ _ _ c.zeros.invariant.longer c.zeros.invariant.filled c.push_reserved.ensures.items;
      room = c.push_reserved.ensures.capacity ∙ c.zeros.invariant.room;
    }

pub returns-clause-filled : goal.returns-clause-filled
returns-clause-filled c =
    let counted : vec_len c.zeros.bytes ≡ length c.zeros.bytes.items = c.zeros.bytes.ok.0 in
    let size : length c.zeros.bytes.items - length c.args.bytes.now.items ≡ c.args.size - length c.args.bytes.now.items = omega (arith, counted) in
    c.zeros.invariant.filled ∙ ap (λ n. c.args.bytes.now.items ++ replicate {A = ℕ} n 0) size

use Rattle.std.proofs.Common.{◌≡◌, ◌≤◌, ◌-◌, ◌++◌, ℕ, length, replicate, vec_len, vec_capacity}
use Rattle.file_bytes.proofs.memory_file.fill_up.Given as goal

abbrev pub invariant-zeros : goal.invariant-zeros
invariant-zeros l = record {
  longer : length l.fn.bytes.items ≤ length l.bytes.items;
  bounded : length l.bytes.items - length l.fn.bytes.items ≤ l.size - length l.fn.bytes.items;
  filled : l.bytes.items ≡ l.fn.bytes.items ++ replicate {A = ℕ} (length l.bytes.items - length l.fn.bytes.items) 0;
  room : vec_capacity l.bytes ≡ vec_capacity l.fn.bytes;
}

abbrev pub decreases-zeros : goal.decreases-zeros
decreases-zeros l = l.size - vec_len l.bytes

use Rattle.std.proofs.Common.{◌≡◌, ℕ, ◌<◌, List, [], length, get_or, All, None, IfSome}
use Rattle.clay_grid.specs.Shape.{chunk_length}
use Rattle.clay_model.specs.Chunks.{contents}
use Rattle.clay_model.specs.Left.{Completes}
use Rattle.clay_decode.proofs.plain_missing.all_chunks.Given as goal

abbrev pub invariant-loop-c : goal.invariant-loop-c
invariant-loop-c l = record {
  count : length (contents l.chunks.items) ≡ l.c;
  lengths : All (λ chunk. length chunk ≡ chunk_length l.g) (contents l.chunks.items);
  kept : (i : ℕ) → i < l.c → IfSome (get_or l.have i None) (λ v. get_or (contents l.chunks.items) i [] ≡ v.items);
  value : (word : List (List ℕ)) → Completes l.g l.have word → (i : ℕ) → i < l.c → get_or (contents l.chunks.items) i [] ≡ get_or word i [];
}

-- A file in memory.
use Rattle.std.specs.Prelude.{ℕ, Option, List}
use Rattle.file_bytes.specs.Places.{Placed}

-- its bytes, how many it has room for, how many a call moves at most, the number of the call that fails, how many calls were made and failed,
-- what was handed out, where an end was told, where reads failed, and what was taken
pub record MemState : Type 0 where
  pub bytes : List ℕ
  pub room : ℕ
  pub most : ℕ
  pub failing : Option ℕ
  pub calls : ℕ
  pub faults : ℕ
  pub given : List Placed
  pub ends : List ℕ
  pub failed : List ℕ
  pub put : List Placed

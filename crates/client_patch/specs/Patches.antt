-- A write or a delete in work, or a put, as callers see it.
use Rattle.std.specs.Prelude.{ℕ, Bool, true, false, List, [], replicate}
use Rattle.clay_grid.specs.Shape.{chunk_count}
use Rattle.store_map.specs.declared.call.Call.{Call}
use Rattle.store_map.specs.declared.call.Call.TheVariants as call
use Rattle.store_core.specs.Agreement.{Seat, ActorToken}
use Rattle.store_core.specs.NextAct.{job_of}
use Rattle.run_laws.specs.State.{first_state}
use Rattle.version_seal.specs.Entry.{BookOf}
use Rattle.call_steps.specs.CallOf.{CallOf}
pub use Rattle.write_course.specs.Draws.{stamps_of_draw, stamps_by, stamps_drawn, stamps_after}

-- the call in work, what it writes, and of a write its object's size at the last look and the old bytes that it keeps
pub record PatchOf : Type 0 where
  pub call : CallOf
  pub written : Call
  pub size : ℕ
  pub kept : List ℕ

-- a write, and a delete
abbrev pub is_write : Call → Bool
is_write (call.Write name offset content) = true
is_write _ = false

abbrev pub is_patch : Call → Bool
is_patch (call.Write name offset content) = true
is_patch (call.Delete name) = true
is_patch _ = false

-- a put, which is a write that keeps no old bytes
abbrev pub is_put : Call → Bool
is_put (call.Put name content) = true
is_put _ = false

-- a call that draws versions
abbrev pub is_drawing : Call → Bool
is_drawing (call.Put name content) = true
is_drawing (call.Write name offset content) = true
is_drawing _ = false

-- any of the three
abbrev pub is_change : Call → Bool
is_change (call.Put name content) = true
is_change (call.Write name offset content) = true
is_change (call.Delete name) = true
is_change _ = false

-- a call before its first step
abbrev pub first_patch : BookOf → ℕ → Seat → ℕ → Call → PatchOf
first_patch book tries seat number written =
    record {
      call = record {
        book = book;
        tries = tries;
        job = job_of written;
        number = number;
        token = ActorToken.Seated seat;
        state = first_state;
        takes = replicate (chunk_count book.geometry) 0;
        due = false;
        coding = false;
        step = false;
      };
      written = written;
      size = 0;
      kept = [];
    }

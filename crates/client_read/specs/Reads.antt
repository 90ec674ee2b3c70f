-- A get, a read or a stat in work, as callers see it.
use Rattle.std.specs.Prelude.{ℕ, Bool, true, false, List, [], replicate}
use Rattle.clay_grid.specs.Shape.{chunk_count}
use Rattle.store_map.specs.declared.actor.Actor.{Actor}
use Rattle.store_map.specs.declared.call.Call.{Call}
use Rattle.store_map.specs.declared.call.Call.TheVariants as call
use Rattle.store_core.specs.Agreement.{Seat, ActorToken}
use Rattle.store_core.specs.NextAct.{job_of}
use Rattle.run_laws.specs.State.{first_state}
use Rattle.version_seal.specs.Entry.{BookOf}
use Rattle.call_steps.specs.CallOf.{CallOf, tries_by}

-- the call in work, and the bytes that it gathers
pub record ReadOf : Type 0 where
  pub call : CallOf
  pub owed : List ℕ

-- a call that reads
abbrev pub is_read : Call → Bool
is_read (call.Get name) = true
is_read (call.ReadAt name offset count) = true
is_read (call.Stat name) = true
is_read _ = false

-- a call before its first step
abbrev pub first_read : BookOf → Seat → ℕ → Call → ReadOf
first_read book seat number read =
    record {
      call = record {
        book = book;
        tries = tries_by book.script;
        job = job_of read;
        number = number;
        token = ActorToken.Seated seat;
        state = first_state;
        takes = replicate (chunk_count book.geometry) 0;
        due = false;
        coding = false;
        step = false;
      };
      owed = [];
    }

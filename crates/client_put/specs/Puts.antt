-- A put in work, as callers see it.
use Rattle.std.specs.Prelude.{ℕ, false, replicate}
use Rattle.clay_grid.specs.Shape.{chunk_count}
use Rattle.store_map.specs.declared.call.Call.{Call}
use Rattle.store_core.specs.Agreement.{Seat, ActorToken}
use Rattle.store_core.specs.NextAct.{job_of}
use Rattle.run_laws.specs.State.{first_state}
use Rattle.version_seal.specs.Entry.{BookOf}
use Rattle.call_steps.specs.CallOf.{tries_by, CallOf}
pub use Rattle.client_patch.specs.Patches.{is_put}

-- the call in work, and what it puts
pub record PutOf : Type 0 where
  pub call : CallOf
  pub written : Call

-- a put before its first step
abbrev pub first_put : BookOf → Seat → ℕ → Call → PutOf
first_put book seat number written =
    record {
      call = record {
        book = book;
        tries = tries_by book.script;
        job = job_of written;
        number = number;
        token = ActorToken.Seated seat;
        state = first_state;
        takes = replicate (chunk_count book.geometry) 0;
        due = false;
        coding = false;
        step = false;
      };
      written = written;
    }

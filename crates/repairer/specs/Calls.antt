-- A rebuild as callers see it.
use Rattle.std.specs.Prelude.{ℕ, Bool, false, List, [], replicate}
use Rattle.clay_grid.specs.Shape.{chunk_count}
use Rattle.store_map.specs.declared.call.Rebuild.{Rebuild}
use Rattle.store_core.specs.NextAct.{rebuild_job}
use Rattle.store_core.specs.Agreement.{Seat, ActorToken}
use Rattle.run_laws.specs.State.{State}
use Rattle.version_seal.specs.Entry.{BookOf}
use Rattle.call_steps.specs.CallOf.{CallOf, tries_by}

-- a call of a repairer
abbrev pub call_at : BookOf → Rebuild → ℕ → ActorToken → State → List ℕ → Bool → Bool → Bool → CallOf
call_at book rebuild number token at takes due coding step =
    record {
      book = book;
      tries = tries_by book.script;
      job = rebuild_job rebuild;
      number = number;
      token = token;
      state = record { pairs = []; at = at };
      takes = takes;
      due = due;
      coding = coding;
      step = step;
    }

-- before its first step
abbrev pub new_call : BookOf → Rebuild → ℕ → Seat → CallOf
new_call book rebuild number seat =
    call_at book rebuild number (ActorToken.Seated seat) State.Start (replicate (chunk_count book.geometry) 0) false false false

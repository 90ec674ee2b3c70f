-- What the trace of a run says of a call, computed.
use Rattle.std.specs.Prelude.{ℕ, Bool, true, false, nat_eq, nat_lt, nat_le, not, ◌&&◌, if◌then◌else◌, List, length, Option, None, Some}
use Rattle.std.specs.List.{list_all, filter, filter_map}
use Rattle.std.specs.Option.{option_map_or}
use Rattle.std.specs.Set.{distinct_count}
use Rattle.store_map.specs.Limits.{tries_of}
use Rattle.store_map.specs.declared.call.Rebuild.{Rebuild}
use Rattle.store_map.specs.declared.placement.Found.TheVariants as found
use Rattle.store_map.specs.declared.placement.Placement.TheVariants as placement
use Rattle.store_map.specs.declared.script.Script.{Script}
use Rattle.store_map.specs.declared.call_name.CallName.{CallName}
use Rattle.store_core.specs.Act.{Act, ServerStep}
use Rattle.store_core.specs.Lookups.{same_actor}
use Rattle.store_core.specs.Told.{Told}
use Rattle.run_laws.specs.CauseLaws.{changes_of}
use Rattle.run_laws.specs.ToldInSteps.{act_after}
use Rattle.history_laws.specs.LineCauses.{caller_of, number_of, job_of_call, rebuild_named}
use Rattle.history_laws.specs.Trace.{Made}
use Rattle.history_laws.specs.Over.{answers_to}

-- an outcome
abbrev pub is_finish : Act → Bool
is_finish (Act.Finish outcome) = true
is_finish act = false

-- no want of memory, no reap; a stripe that is there, and current
abbrev pub is_ample : Told → Bool
is_ample Told.Short = false
is_ample answer = true

abbrev pub is_kept : Told → Bool
is_kept (Told.Reaped point) = false
is_kept answer = true

abbrev pub is_found : Told → Bool
is_found Told.NoSuch = false
is_found answer = true

abbrev pub is_current : Told → Bool
is_current (Told.Superseded newer) = false
is_current answer = true

-- the version and the server that has no chunk of it to give when it is asked for that, or that is away when it is to keep one
abbrev pub lacking_at : Act → Told → Option (ℕ × ℕ)
lacking_at (Act.AtServer server (ServerStep.Has version)) (Told.Missing found) = Some (version, server)
lacking_at (Act.AtServer server (ServerStep.Fetch version layers)) (Told.Missing found) = Some (version, server)
lacking_at act answer = None

abbrev pub skipped_at : Act → Told → Option (ℕ × ℕ)
skipped_at (Act.AtServer server (ServerStep.Prepare version)) (Told.Prepared (placement.Skipped downs)) = Some (version, server)
skipped_at act answer = None

-- no target that is away
abbrev pub is_reached : ℕ → Act → Told → Bool
is_reached target (Act.AtServer server step) (Told.Away downs) = not (nat_eq target server)
is_reached target (Act.AtServer server step) (Told.Missing (found.Away downs)) = not (nat_eq target server)
is_reached target act answer = true

-- what is computed of a call
pub record Facts : Type 0 where
  -- whether it was over, had memory, and was not given up
  pub over : Bool
  pub ample : Bool
  pub kept : Bool
  -- the versions and servers of the chunks that it lacked, and of those that it had for servers that were away, in the order of its steps
  pub lacking : List (ℕ × ℕ)
  pub skipped : List (ℕ × ℕ)
  -- how often it was told of a change of its object
  pub changes : ℕ
  -- whether a rebuild's stripe was there and current, and its target not away
  pub found : Bool
  pub current : Bool
  pub reached : Bool

-- the steps of a call
abbrev pub is_step_of : CallName → Made → Bool
is_step_of call made = same_actor (caller_of call) made.who && nat_eq (number_of call) made.number

abbrev pub steps_of : CallName → List Made → List Made
steps_of call trace = filter (is_step_of call) trace

abbrev pub facts_of : Script → List Made → CallName → Facts
facts_of script trace call =
    record {
      over = option_map_or (λ job. is_finish (act_after script.geometry (tries_of script) job (answers_to call trace))) (job_of_call script call) false;
      ample = list_all is_ample (answers_to call trace);
      kept = list_all is_kept (answers_to call trace);
      lacking = filter_map (λ (made : Made). lacking_at made.act made.answer) (steps_of call trace);
      skipped = filter_map (λ (made : Made). skipped_at made.act made.answer) (steps_of call trace);
      changes = length (changes_of (answers_to call trace));
      found = list_all is_found (answers_to call trace);
      current = list_all is_current (answers_to call trace);
      reached = option_map_or (λ (rebuild : Rebuild). list_all (λ (made : Made). is_reached rebuild.server made.act made.answer) (steps_of call trace)) (rebuild_named script call) true;
    }

-- of no version more servers than so many
abbrev pub servers_of : ℕ → List (ℕ × ℕ) → List ℕ
servers_of version chunks = filter_map (λ (chunk : ℕ × ℕ). if nat_eq version chunk.0 then Some chunk.1 else None) chunks

abbrev pub are_few : ℕ → List (ℕ × ℕ) → Bool
are_few most chunks = list_all (λ (chunk : ℕ × ℕ). nat_le (distinct_count nat_eq (servers_of chunk.0 chunks)) most) chunks

-- whether nothing hindered the call that hinders clients' calls and rebuilds alike, that hinders puts and writes alone, or rebuilds alone
abbrev pub is_unhindered : Script → Facts → Bool
is_unhindered script facts = facts.ample && facts.kept && are_few script.geometry.parity_count facts.lacking

abbrev pub could_write : Script → Facts → Bool
could_write script facts = are_few script.geometry.parity_count facts.skipped && nat_lt facts.changes (tries_of script)

abbrev pub has_its_place : Facts → Bool
has_its_place facts = facts.found && facts.current && facts.reached

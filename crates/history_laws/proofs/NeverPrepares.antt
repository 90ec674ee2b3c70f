-- A rebuild prepares no chunk, so no server is away when it has one to prepare.
use Rattle.std.proofs.Common.{◌≡◌, ℕ, ◌<◌, List, [], ◌∷◌, Some, sym, ap, subst, ◌∙◌}
use Rattle.std.specs.Bool.{⊤}
use Rattle.clay_grid.specs.Shape.{Shape, chunk_count}
use Rattle.store_map.specs.Limits.{tries_of}
use Rattle.store_map.specs.declared.call.Rebuild.{Rebuild}
use Rattle.store_map.specs.declared.script.Script.{Script}
use Rattle.store_map.specs.declared.call_name.RepairCall.{RepairCall}
use Rattle.store_map.specs.declared.call_name.CallName.TheVariants as name
use Rattle.hist_rules.specs.Calls.{rebuild_of}
use Rattle.store_core.specs.Act.{Act, ServerStep, Outcome}
use Rattle.store_core.specs.Gathering.{Gathering}
use Rattle.store_core.specs.GatheringParts.{ending, act_of, gather_chunk}
use Rattle.store_core.specs.NextAct.{Job, rebuild_job, next_by}
use Rattle.store_core.specs.Note.{Note, Kind}
use Rattle.store_core.specs.Rebuild.{placing, installing, confirming, rebuilding, next_rebuild}
use Rattle.store_core.specs.Told.{Told, Seen}
use Rattle.run_laws.specs.StepLaws.{HasTarget}
use Rattle.run_laws.proofs.AskedServers.{IsAsk, AsksWell, chunk_well}
use Rattle.history_laws.specs.LineCauses.{job_of_call}
use Rattle.history_laws.specs.Trace.{Made}
use Rattle.history_laws.specs.Unhindered.{SkipsChunk}
use Rattle.history_laws.specs.NextSteps.{StepsAreNext}
use Rattle.history_laws.proofs.TargetsAway.{rebuild_is}

-- any act but a prepare
abbrev IsNoPrepare : Act → Type 0
IsNoPrepare (Act.AtServer server (ServerStep.Prepare version)) = ⊥
IsNoPrepare act = ⊤

of_ask : (server : ℕ) (step : ServerStep) → IsAsk step → IsNoPrepare (Act.AtServer server step)
of_ask server (ServerStep.Prepare version) h = h
of_ask server step h = tt

ending_free : (outcome : Outcome) (told : List Told) → IsNoPrepare (ending outcome told)
ending_free outcome [] = tt
ending_free outcome (Told.Ended ∷ told) = tt
ending_free outcome (Told.Reaped point ∷ told) = tt
ending_free outcome (_ ∷ told) = ending_free Outcome.NoMemory told

placing_free : (target epoch : ℕ) (told : List Told) → IsNoPrepare (placing target epoch told)
placing_free target epoch [] = tt
placing_free target epoch (Told.Ended ∷ told) = tt
placing_free target epoch (Told.Reaped point ∷ told) = tt
placing_free target epoch (_ ∷ told) = ending_free Outcome.NoMemory told

installing_free : (seen : Seen) (target : ℕ) (told : List Told) → IsNoPrepare (installing seen target told)
installing_free seen target [] = tt
installing_free seen target (Told.Placed epoch ∷ told) = placing_free target epoch told
installing_free seen target (Told.AlreadyThere ∷ told) = ending_free Outcome.Here told
installing_free seen target (Told.Away downs ∷ told) = ending_free (Outcome.Away downs) told
installing_free seen target (_ ∷ told) = ending_free Outcome.NoMemory told

confirming_free : (seen : Seen) (target : ℕ) (told : List Told) → IsNoPrepare (confirming seen target told)
confirming_free seen target [] = tt
confirming_free seen target (Told.Current ∷ told) = installing_free seen target told
confirming_free seen target (Told.Superseded newer ∷ told) = tt
confirming_free seen target (Told.Reaped point ∷ told) = tt
confirming_free seen target (_ ∷ told) = ending_free Outcome.NoMemory told

module _ (g : Shape) (seen : Seen) (target : ℕ) (below : target < chunk_count g) where
  gathered_free : (result : Gathering) → AsksWell (chunk_count g) result → IsNoPrepare (act_of seen.stripe (confirming seen target) result)
  gathered_free (Gathering.Asks server step) h = of_ask server step h.1
  gathered_free (Gathering.HasBytes told) h = confirming_free seen target told
  gathered_free (Gathering.TooMany missing told) h = ending_free (Outcome.Unavailable seen.stripe missing) told
  gathered_free (Gathering.AtTarget told) h = ending_free Outcome.Here told
  gathered_free (Gathering.TargetAway downs told) h = ending_free (Outcome.Away downs) told
  gathered_free (Gathering.Short told) h = ending_free Outcome.NoMemory told

  rebuilding_free : (told : List Told) → IsNoPrepare (rebuilding g seen target told)
  rebuilding_free (Told.Gathered ∷ told) = confirming_free seen target told
  rebuilding_free told = gathered_free (gather_chunk g seen target told) (chunk_well g seen target below told)

rebuild_free : (g : Shape) (note : Note) (target : ℕ) → target < chunk_count g → (told : List Told) → IsNoPrepare (next_rebuild g note target told)
rebuild_free g note target below [] = tt
rebuild_free g note target below (Told.NoSuch ∷ told) = tt
rebuild_free g note target below (Told.PinnedStripe seen ∷ told) = rebuilding_free g seen target below told
rebuild_free g note target below (_ ∷ told) = tt

kind_free : (kind : Kind) → kind ≡ Kind.Rebuild → (g : Shape) (tries : ℕ) (job : Job) → job.target < chunk_count g → (told : List Told) → IsNoPrepare (next_by kind g tries job told)
kind_free kind is g tries job below told = subst (λ k. IsNoPrepare (next_by k g tries job told)) (sym is) (rebuild_free g job.note job.target below told)

-- so no step of its is one
pub never_skips : (script : Script) (trace : List Made) → StepsAreNext script trace → (call : RepairCall) (job : Job) → job_of_call script (name.Repairer call) ≡ Some job → HasTarget script.geometry job
    → (version server : ℕ) → SkipsChunk trace (name.Repairer call) version server → ⊥
never_skips script trace next call job is target version server h =
    let rebuild : (rebuild : Rebuild) × (rebuild_of script call ≡ Some rebuild) × (rebuild_job rebuild ≡ job) = rebuild_is script call job is in
    let kind : job.note.kind ≡ Kind.Rebuild = ap (λ (j : Job). j.note.kind) (sym rebuild.2) in
    subst IsNoPrepare (sym (next (name.Repairer call) job is h.before h.made h.after h.split h.is.0) ∙ h.is.1)
    (kind_free job.note.kind kind script.geometry (tries_of script) job (target kind) _)

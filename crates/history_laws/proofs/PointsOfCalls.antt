-- In every run each point is a reap, or stands for a call of the script.
use Rattle.std.proofs.Common.{◌≡◌, ℕ, nat_lt, List, [], length, map, Some, option_and_then, All, inl, inr, sym, ap, subst, ◌∙◌}
use Rattle.std.proofs.lemmas.Bool.{cond_both}
use Rattle.std.proofs.lemmas.List.Elements.{All-nil}
use Rattle.std.specs.List.{slice_get}
use Rattle.clay_grid.specs.Shape.{chunk_count}
use Rattle.store_map.specs.declared.actor.Actor.TheVariants as actor
use Rattle.store_map.specs.declared.actor.Token.{Token}
use Rattle.store_map.specs.declared.call.Call.{Call}
use Rattle.store_map.specs.declared.script.ClientPart.{ClientPart}
use Rattle.store_map.specs.declared.script.Script.{Script}
use Rattle.store_core.specs.Act.{Act, DirectoryStep, ServerStep}
use Rattle.store_core.specs.Core.{Core, first_core}
use Rattle.store_core.specs.History.{call_of}
use Rattle.store_core.specs.NextAct.{Job, job_of}
use Rattle.store_core.specs.Run.{places_in}
use Rattle.store_core.specs.Sweep.{Sweeper, next_sweep}
use Rattle.store_core.specs.Work.{Work, client_work}
use Rattle.run_laws.proofs.CallActs.{IsOfClients}
use Rattle.run_laws.proofs.Runs.{CanRun, IsOperatorAct}
use Rattle.run_laws.proofs.Scripts.{Mapped, mapped}
use Rattle.history_laws.proofs.AtWork.{AtWork, client_at, repairer_at}
use Rattle.history_laws.proofs.Induction.{KeptBySteps}
use Rattle.history_laws.proofs.Points.{IsOfScript, actor_points, others_points}

module _ (script : Script) where
  client_of : ClientPart → Work
  client_of part = record { jobs = map job_of part.calls; leave = part.leave }

  -- a client's job is its call's
  pub record OfScript (i number : ℕ) (job : Job) : Type 0 where
    pub call : Call
    pub is_call : call_of script (actor.Client i) number ≡ Some call
    pub is_job : job_of call ≡ job

  pub job_call : (i number : ℕ) (work : Work) (job : Job) → slice_get (client_work script) i ≡ Some work → slice_get work.jobs number ≡ Some job → OfScript i number job
  unfolding client_of
  job_call i number work job is_work is_job =
      let part : Mapped client_of script.clients i work = mapped client_of script.clients i work is_work in
      let jobs : map job_of part.source.calls ≡ work.jobs = ap (λ (w : Work). w.jobs) part.is_image in
      let one : Mapped job_of part.source.calls number job = mapped job_of part.source.calls number job (ap (λ (js : List Job). slice_get js number) jobs ∙ is_job) in
      record {
        call = one.source;
        is_call = ap (option_and_then (λ (p : ClientPart). slice_get p.calls number)) part.found ∙ one.found;
        is_job = one.is_image;
      }

  -- the sweeper makes the operator's kind of step
  pub sweeps : (n : ℕ) (sweeper : Sweeper) → IsOperatorAct (next_sweep n sweeper)
  sweeps n Sweeper.Idle = tt
  sweeps n (Sweeper.Sweeping version server) =
      cond_both {A = Act} (nat_lt server n) (Act.AtServer server (ServerStep.Discard version)) (Act.AtDirectory (DirectoryStep.Swept version)) IsOperatorAct (λ _. tt) (λ _. tt)

  abbrev pub PointsOfScript : List Token → Core → Type 0
  PointsOfScript past core = All (IsOfScript script) core.directory.points

  module _ (can : CanRun script) where
    -- each step keeps it
    pub points_kept : KeptBySteps script can PointsOfScript
    points_kept =
        record {
          quiet = λ past next core is_quiet has. has;
          client = λ past core kept has i work calling job is_work is_calling is_job shortages.
              let of : OfScript i (length calling.ended) job = job_call i (length calling.ended) work job is_work is_job in
              actor_points (IsOfScript script) script (actor.Client i) job calling (places_in core) (client_at script can core kept i work calling job is_work is_calling is_job)
              (λ clients event plain. inr (record { call = of.call; is_call = of.is_call; noted = sym (ap (λ (j : Job). j.note) of.is_job); plain = plain })) has shortages;
          repairer = λ past core kept has i work calling job is_work is_calling is_job shortages.
              let at : AtWork script (actor.Repairer i) job calling (places_in core) = repairer_at script can core kept i work calling job is_work is_calling is_job in
              actor_points (IsOfScript script) script (actor.Repairer i) job calling (places_in core) at (λ clients event plain. absurd (subst IsOfClients at.fits clients)) has shortages;
          sweeper = λ past core kept has.
              others_points (IsOfScript script) actor.Sweeper (next_sweep (chunk_count script.geometry) core.sweeper) (places_in core) (sweeps (chunk_count script.geometry) core.sweeper) (λ point e. inl e) has;
          wipe = λ past core kept has server. others_points (IsOfScript script) actor.Operator (Act.AtServer server ServerStep.Wipe) (places_in core) tt (λ point e. inl e) has;
          down = λ past core kept has server. others_points (IsOfScript script) actor.Operator (Act.AtServer server ServerStep.Down) (places_in core) tt (λ point e. inl e) has;
          up = λ past core kept has server. others_points (IsOfScript script) actor.Operator (Act.AtServer server ServerStep.Up) (places_in core) tt (λ point e. inl e) has;
          reap_client = λ past core kept has i.
              others_points (IsOfScript script) actor.Operator (Act.AtDirectory (DirectoryStep.Reap (actor.Client i))) (places_in core) tt (λ point e. inl e) has;
          reap_repairer = λ past core kept has i.
              others_points (IsOfScript script) actor.Operator (Act.AtDirectory (DirectoryStep.Reap (actor.Repairer i))) (places_in core) tt (λ point e. inl e) has;
        }

    pub no_points : PointsOfScript [] (first_core script)
    no_points = All-nil (IsOfScript script)

-- The world before the first step.
use Rattle.std.proofs.Common.{◌≡◌, suc, List, [], ◌∷◌, length, map, replicate, All, refl, sym, ap, subst, ◌∙◌, arith}
use Rattle.std.proofs.lemmas.List.{length-map}
use Rattle.std.proofs.lemmas.List.Elements.{All-head, All-tail}
use Rattle.clay_grid.specs.Shape.{chunk_count}
use Rattle.store_map.specs.declared.script.ClientPart.{ClientPart}
use Rattle.store_map.specs.declared.script.RepairPart.{RepairPart}
use Rattle.store_map.specs.declared.script.Script.{Script}
use Rattle.store_core.specs.NextAct.{job_of, rebuild_job}
use Rattle.store_core.specs.Work.{Work, new_calling, client_work, repairer_work}
use Rattle.sweeper.specs.Sweeps.{SweeperOf}
use Rattle.world_laws.specs.World.{ActorOf}
use Rattle.world_laws.specs.StandsFor.{ActorStands, AllStand}
use Rattle.world_laws.specs.FirstWorld.{IsNew, FirstWorldsStand}

-- a new actor stands for a new one
new_stands : (script : Script) (work : Work) (a : ActorOf) → IsNew a → ActorStands script work.jobs (new_calling (chunk_count script.geometry)) a
new_stands script work a new =
    subst (λ (b : ActorOf). ActorStands script work.jobs (new_calling (chunk_count script.geometry)) b) (sym new.1)
    (record { ended = refl; doing = record { between = record { told = refl; takes = refl }; none = refl } })

-- as many new actors as there are to be
all_new : (script : Script) (works : List Work) (actors : List ActorOf) → length actors ≡ length works → All IsNew actors
    → AllStand script works (replicate (length works) (new_calling (chunk_count script.geometry))) actors
all_new script [] [] count new = tt
all_new script (work ∷ works) (a ∷ actors) count new =
    let both : suc (length actors) ≡ suc (length works) = count in
    (new_stands script work a (All-head IsNew a actors new), all_new script works actors (omega (arith, both)) (All-tail IsNew a actors new))
all_new script [] (a ∷ actors) count new = let both : suc (length actors) ≡ 0 = count in absurd (omega (arith, both))
all_new script (work ∷ works) [] count new = let both : 0 ≡ suc (length works) = count in absurd (omega (arith, both))

pub first_worlds_stand : FirstWorldsStand
first_worlds_stand script w first =
    let clients : length (client_work script) ≡ length script.clients = length-map script.clients (λ (part : ClientPart). record { jobs = map job_of part.calls; leave = part.leave }) in
    let repairers : length (repairer_work script) ≡ length script.repairers = length-map script.repairers (λ (part : RepairPart). record { jobs = map rebuild_job part.calls; leave = part.leave }) in
    record {
      directory = sym first.directory;
      servers = sym first.servers;
      clients =
          subst (λ n. AllStand script (client_work script) (replicate n (new_calling (chunk_count script.geometry))) w.clients) clients
          (all_new script (client_work script) w.clients (first.client_count ∙ sym clients) first.clients);
      repairers =
          subst (λ n. AllStand script (repairer_work script) (replicate n (new_calling (chunk_count script.geometry))) w.repairers) repairers
          (all_new script (repairer_work script) w.repairers (first.repairer_count ∙ sym repairers) first.repairers);
      sweeper = ap (λ (s : SweeperOf). s.at) (sym first.sweeper);
      width = ap (λ (s : SweeperOf). s.servers) first.sweeper;
    }

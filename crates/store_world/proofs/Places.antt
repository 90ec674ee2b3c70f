-- Steps of the sweeper and of the operator in the world.
use Rattle.std.proofs.Common.{◌≡◌, ℕ, ◌<◌, Bool, true, false, if◌then◌else◌, List, [], ◌∷◌, length, set, slice_get, nat_lt, Option, Some, option_map, refl, sym, ap, subst, ◌∙◌, arith}
use Rattle.clay_grid.specs.Shape.{chunk_count}
use Rattle.store_map.specs.declared.actor.Actor.{Actor}
use Rattle.store_map.specs.declared.actor.Actor.TheVariants as actor
use Rattle.store_map.specs.declared.actor.Point.{Point}
use Rattle.store_map.specs.declared.actor.Token.{Token}
use Rattle.store_map.specs.declared.actor.Token.TheVariants as token
use Rattle.store_core.specs.Act.{Act, DirectoryStep, ServerStep}
use Rattle.store_core.specs.ActPlace.{place_of}
use Rattle.store_core.specs.AtDirectory.{at_directory}
use Rattle.store_core.specs.Directory.{Directory}
use Rattle.store_core.specs.Run.{sweeper_step}
use Rattle.store_core.specs.Schedule.{step_core}
use Rattle.store_core.specs.Server.{Server, at_server}
use Rattle.store_core.specs.Step.{Shortage}
use Rattle.store_core.specs.Sweep.{Sweeper, next_sweep}
use Rattle.store_core.specs.Told.{Told}
use Rattle.chunk_server.specs.State.{ServerState}
use Rattle.chunk_server.specs.Core.{core_of}
use Rattle.dir_parts.proofs.Entries.{map-set, slice_get-map}
use Rattle.history_laws.specs.Trace.{act_made}
use Rattle.call_steps.specs.declared.act.Act.{Act as ActTold}
use Rattle.call_steps.specs.declared.answer.DirectoryAnswer.{DirectoryAnswer}
use Rattle.call_steps.specs.declared.answer.ServerAnswer.{ServerAnswer}
use Rattle.call_steps.specs.declared.need.Need.TheVariants as need
use Rattle.call_steps.specs.Acts.{act_by, server_act}
use Rattle.call_steps.specs.Answers.{directory_answer, server_told}
use Rattle.call_steps.specs.declared.step_made.StepAnswer.TheVariants as answer
use Rattle.stripe_stamps.specs.Sealed.{Sealed}
use Rattle.sweeper.specs.Sweeps.{SweeperOf, act_of, need_at, need_of, stepped_at_directory, stepped_at_server, told_at_directory, told_at_server}
use Rattle.world_laws.specs.World.{WorldOf, with_directory, with_server, with_sweeper}
use Rattle.world_laws.specs.Leads.{LeadsWorld}
use Rattle.world_laws.specs.StandsFor.{StandsFor}
use Rattle.world_laws.specs.Tokens.{TokensAgree}
use Rattle.world_laws.specs.PlaceLaws.{ActsAtServer, Reaps}
use Rattle.world_laws.specs.WayLaws.{IsPlace}
use Rattle.world_laws.proofs.Agreed.{worlds_stay_agreed}
use Rattle.world_laws.proofs.PlaceLaws.{sweeper_makes_turns}
use Rattle.world_laws.proofs.Runs.{runs_reach}
use Rattle.world_laws.specs.Goes.{Leads}
use Rattle.world_laws.specs.Telling.{TellsOf}
use Rattle.world_laws.specs.TurnMade.{places_of}
use Rattle.world_laws.proofs.Places.{sweeper_tells}
use Rattle.store_world.specs.ServeLaws.{HasMorePoints}
use Rattle.store_world.proofs.Grow.{histories_grow}
use Rattle.store_world.specs.Stored.{StoredWorld, world_of}
use Rattle.store_world.specs.Telling.{LeadsTold, act_told, server_act_told, reap_told}
use Rattle.store_world.specs.Kept.{IsWorld}
use Rattle.store_world.proofs.Keeping.{changed, kept_by, clients_stay, repairers_stay, others_stay}
use Rattle.store_world.proofs.Told.{one_told, sweep_is_told, discard_is_told, action_is_told, reap_is_told}
use Rattle.store_world.proofs.Lists.{below, read_back}

-- a step that wants no memory
pub ample : Shortage
ample = record { coding = false; step = false }

-- the sweeper needs a place
place_by : (servers : ℕ) (at : Sweeper) → IsPlace (need_at (place_of (next_sweep servers at)))
place_by servers Sweeper.Idle = tt
place_by servers (Sweeper.Sweeping version server) = by (nat_lt server servers)
  where
    by : (b : Bool) → IsPlace (need_at (place_of (if b then Act.AtServer server (ServerStep.Discard version) else Act.AtDirectory (DirectoryStep.Swept version))))
    by true = tt
    by false = tt

pub sweeper_place : (w : SweeperOf) → IsPlace (need_of w)
sweeper_place w = place_by w.servers w.at

-- there are as many servers as the sweeper goes to
pub width : (s : StoredWorld) → IsWorld s → s.sweeper.servers ≡ chunk_count s.script.geometry
width s is =
    let stands : StandsFor s.script (world_of s) _ = (runs_reach s.script).core is.reached.tokens (world_of s) is.reached.by.shortages is.reached.by.reaches in
    stands.width

pub server_there : (s : StoredWorld) → IsWorld s → (i : ℕ) → i < chunk_count s.script.geometry → i < length s.servers
server_there s is i less =
    let same : length s.servers ≡ chunk_count s.script.geometry = is.servers.count ∙ ap (λ g. chunk_count g) is.code in
    omega (arith, less, same)

module _ (s : StoredWorld) (is : IsWorld s) where
  -- ---- a step at the directory that draws nothing
  module _ (d : Sealed) (sweeper : SweeperOf) (t : Token) (after : WorldOf) (same : after ≡ world_of (changed s d s.servers s.clients s.repairers sweeper))
      (agree : TokensAgree after) (leads : LeadsWorld s.script (step_core s.script t) (world_of s) (ample ∷ []) after) where
    pub directory_leads : Leads s.script (step_core s.script t) (world_of s) (world_of (changed s d s.servers s.clients s.repairers sweeper))
    directory_leads = subst (λ (w : WorldOf). Leads s.script (step_core s.script t) (world_of s) w) same (record { shortages = ample ∷ []; leads = leads })

    pub directory_kept : d.book ≡ s.directory.book → d.stamps ≡ s.directory.stamps → HasMorePoints s.directory.core.points d.core.points → IsWorld (changed s d s.servers s.clients s.repairers sweeper)
    directory_kept book stamps more =
        kept_by s d s.servers s.clients s.repairers sweeper t is book is.servers (clients_stay s.script s.book s.directory d s.clients stamps more is.clients) (repairers_stay s.script s.book s.directory d s.repairers stamps is.repairers)
        (subst TokensAgree same agree) directory_leads

  -- ---- a step at a server
  module _ (i : ℕ) (x now : ServerState) (core_now : Server) (there : slice_get s.servers i ≡ Some x) (is_now : core_of now ≡ core_now) (sweeper : SweeperOf) (t : Token)
      (leads : LeadsWorld s.script (step_core s.script t) (world_of s) (ample ∷ []) (with_sweeper sweeper (with_server i core_now (world_of s)))) where
    server_is : with_sweeper sweeper (with_server i core_now (world_of s)) ≡ world_of (changed s s.directory (set s.servers i now) s.clients s.repairers sweeper)
    server_is =
        ap (λ (servers : List Server). record { directory = s.directory.core; servers = servers; clients = (world_of s).clients; repairers = (world_of s).repairers; sweeper = sweeper })
        (sym (map-set core_of (λ _. core_now) s.servers i x now (below s.servers i x there) (read_back s.servers i x there) is_now))

    pub server_leads : Leads s.script (step_core s.script t) (world_of s) (world_of (changed s s.directory (set s.servers i now) s.clients s.repairers sweeper))
    server_leads = subst (λ (w : WorldOf). Leads s.script (step_core s.script t) (world_of s) w) server_is (record { shortages = ample ∷ []; leads = leads })

    pub server_kept : now.number ≡ x.number → now.book ≡ x.book → IsWorld (changed s s.directory (set s.servers i now) s.clients s.repairers sweeper)
    server_kept number book =
        kept_by s s.directory (set s.servers i now) s.clients s.repairers sweeper t is refl (others_stay s.book s.servers i x now is.servers there number book) is.clients is.repairers
        (record { clients = is.agree.clients; repairers = is.agree.repairers }) server_leads

-- ---- the sweeper
module _ (s : StoredWorld) (is : IsWorld s) where
  module _ (d : Sealed) (sweeper : SweeperOf) (needs : need_of s.sweeper ≡ need.Directory) (step : (d.core, sweeper) ≡ stepped_at_directory actor.Sweeper 0 s.sweeper s.directory.core) where
    swept_is : with_sweeper (stepped_at_directory actor.Sweeper 0 s.sweeper s.directory.core).1 (with_directory (stepped_at_directory actor.Sweeper 0 s.sweeper s.directory.core).0 (world_of s))
        ≡ world_of (changed s d s.servers s.clients s.repairers sweeper)
    swept_is = ap (λ (p : Directory × SweeperOf). with_sweeper p.1 (with_directory p.0 (world_of s))) (sym step)

    pub sweep_leads : Leads s.script (sweeper_step s.script) (world_of s) (world_of (changed s d s.servers s.clients s.repairers sweeper))
    sweep_leads =
        directory_leads s is d sweeper token.Sweep _ swept_is ((worlds_stay_agreed s.script (world_of s) is.agree).sweeper) ((sweeper_makes_turns s.script (world_of s) ample).directory needs)

    pub sweep_told : (step : ActTold) (its : DirectoryAnswer) → step ≡ act_by (act_of s.sweeper) false
        → directory_answer (told_at_directory actor.Sweeper 0 s.sweeper s.directory.core) ≡ Some its
        → LeadsTold token.Sweep s (changed s d s.servers s.clients s.repairers sweeper) (act_told actor.Sweeper step (answer.Directory its) ∷ [])
    sweep_told told its acts hears =
        one_told token.Sweep s (changed s d s.servers s.clients s.repairers sweeper) (act_made actor.Sweeper (act_of s.sweeper) (places_of (world_of s))) _ sweep_leads (sweeper_tells s.script (world_of s))
        (sweep_is_told (act_of s.sweeper) (places_of (world_of s)) told its needs acts hears)

    pub sweep_kept : d.book ≡ s.directory.book → d.stamps ≡ s.directory.stamps → IsWorld (changed s d s.servers s.clients s.repairers sweeper)
    sweep_kept book stamps =
        directory_kept s is d sweeper token.Sweep _ swept_is ((worlds_stay_agreed s.script (world_of s) is.agree).sweeper) ((sweeper_makes_turns s.script (world_of s) ample).directory needs) book stamps
        (subst (λ (p : Directory × SweeperOf). HasMorePoints s.directory.core.points p.0.points) (sym step) (histories_grow.sweep actor.Sweeper 0 s.sweeper s.directory.core))

  module _ (i : ℕ) (x now : ServerState) (sweeper : SweeperOf) (there : slice_get s.servers i ≡ Some x) (needs : need_of s.sweeper ≡ need.Server i)
      (step : (core_of now, sweeper) ≡ stepped_at_server s.sweeper (core_of x)) where
    led : LeadsWorld s.script (sweeper_step s.script) (world_of s) (ample ∷ []) (with_sweeper sweeper (with_server i (core_of now) (world_of s)))
    led =
        subst (λ (p : Server × SweeperOf). LeadsWorld s.script (sweeper_step s.script) (world_of s) (ample ∷ []) (with_sweeper p.1 (with_server i p.0 (world_of s)))) (sym step)
        ((sweeper_makes_turns s.script (world_of s) ample).server i (core_of x) needs (slice_get-map core_of s.servers i x there))

    pub discard_leads : Leads s.script (sweeper_step s.script) (world_of s) (world_of (changed s s.directory (set s.servers i now) s.clients s.repairers sweeper))
    discard_leads = server_leads s is i x now (core_of now) there refl sweeper token.Sweep led

    pub discard_told : (told : ActTold) (its : ServerAnswer) → told ≡ act_by (act_of s.sweeper) false → server_told its ≡ told_at_server s.sweeper (core_of x)
        → LeadsTold token.Sweep s (changed s s.directory (set s.servers i now) s.clients s.repairers sweeper) (act_told actor.Sweeper told (answer.Server its) ∷ [])
    discard_told told its acts hears =
        one_told token.Sweep s (changed s s.directory (set s.servers i now) s.clients s.repairers sweeper) (act_made actor.Sweeper (act_of s.sweeper) (places_of (world_of s))) _ discard_leads
        (sweeper_tells s.script (world_of s))
        (discard_is_told (act_of s.sweeper) i (core_of x) (places_of (world_of s)) told its needs (slice_get-map core_of s.servers i x there) acts hears)

    pub discard_kept : now.number ≡ x.number → now.book ≡ x.book → IsWorld (changed s s.directory (set s.servers i now) s.clients s.repairers sweeper)
    discard_kept = server_kept s is i x now (core_of now) there refl sweeper token.Sweep led

-- ---- the operator
module _ (s : StoredWorld) (is : IsWorld s) where
  module _ (i : ℕ) (x now : ServerState) (there : slice_get s.servers i ≡ Some x) (action : ℕ → Token) (step : ServerStep) (told : Told)
      (acts : ActsAtServer s.script action step (world_of s) ample) (made : (core_of now, told) ≡ at_server false step (core_of x)) where
    acted : LeadsWorld s.script (step_core s.script (action i)) (world_of s) (ample ∷ []) (with_sweeper s.sweeper (with_server i (core_of now) (world_of s)))
    acted =
        subst (λ (p : Server × Told). LeadsWorld s.script (step_core s.script (action i)) (world_of s) (ample ∷ []) (with_server i p.0 (world_of s))) (sym made)
        (acts i (core_of x) (slice_get-map core_of s.servers i x there))

    pub action_leads : Leads s.script (step_core s.script (action i)) (world_of s) (world_of (changed s s.directory (set s.servers i now) s.clients s.repairers s.sweeper))
    action_leads = server_leads s is i x now (core_of now) there refl s.sweeper (action i) acted

    pub action_told : told ≡ Told.Made → ((shortages : List Shortage) → TellsOf s.script (action i ∷ []) (world_of s) shortages (act_made actor.Operator (Act.AtServer i step) (places_of (world_of s)) ∷ []))
        → LeadsTold (action i) s (changed s s.directory (set s.servers i now) s.clients s.repairers s.sweeper) (server_act_told i (server_act step) ∷ [])
    action_told is tells =
        one_told (action i) s (changed s s.directory (set s.servers i now) s.clients s.repairers s.sweeper) (act_made actor.Operator (Act.AtServer i step) (places_of (world_of s))) _ action_leads tells
        (action_is_told i (core_of x) (core_of now) (places_of (world_of s)) step (slice_get-map core_of s.servers i x there) (ap (λ (t : Told). (core_of now, t)) (sym is) ∙ made))

    pub action_kept : now.number ≡ x.number → now.book ≡ x.book → IsWorld (changed s s.directory (set s.servers i now) s.clients s.repairers s.sweeper)
    action_kept = server_kept s is i x now (core_of now) there refl s.sweeper (action i) acted

  module _ (d : Sealed) (who : Actor) (t : Token) (told : Told) (reaps : Reaps s.script t who (world_of s) ample)
      (made : (d.core, told) ≡ at_directory false actor.Operator 0 (DirectoryStep.Reap who) s.directory.core) where
    reaped_is : with_directory (at_directory false actor.Operator 0 (DirectoryStep.Reap who) s.directory.core).0 (world_of s) ≡ world_of (changed s d s.servers s.clients s.repairers s.sweeper)
    reaped_is = ap (λ (p : Directory × Told). with_directory p.0 (world_of s)) (sym made)

    pub reap_leads : Leads s.script (step_core s.script t) (world_of s) (world_of (changed s d s.servers s.clients s.repairers s.sweeper))
    reap_leads = directory_leads s is d s.sweeper t _ reaped_is ((worlds_stay_agreed s.script (world_of s) is.agree).operator (DirectoryStep.Reap who)) reaps

    pub reap_told_of : (at : Option Point) → told ≡ Told.GivenUp (option_map (λ (point : Point). point.0) at)
        → ((shortages : List Shortage) → TellsOf s.script (t ∷ []) (world_of s) shortages (act_made actor.Operator (Act.AtDirectory (DirectoryStep.Reap who)) (places_of (world_of s)) ∷ []))
        → LeadsTold t s (changed s d s.servers s.clients s.repairers s.sweeper) (reap_told who at ∷ [])
    reap_told_of at is tells =
        one_told t s (changed s d s.servers s.clients s.repairers s.sweeper) (act_made actor.Operator (Act.AtDirectory (DirectoryStep.Reap who)) (places_of (world_of s))) _ reap_leads tells
        (reap_is_told who at d.core (places_of (world_of s)) (ap (λ (t : Told). (d.core, t)) (sym is) ∙ made))

    pub reap_kept : d.book ≡ s.directory.book → d.stamps ≡ s.directory.stamps → IsWorld (changed s d s.servers s.clients s.repairers s.sweeper)
    reap_kept book stamps =
        directory_kept s is d s.sweeper t _ reaped_is ((worlds_stay_agreed s.script (world_of s) is.agree).operator (DirectoryStep.Reap who)) reaps book stamps
        (subst (λ (p : Directory × Told). HasMorePoints s.directory.core.points p.0.points) (sym made) (histories_grow.step false actor.Operator 0 (DirectoryStep.Reap who) s.directory.core))

-- A caller's turn in the world, by who it is.
use Rattle.std.proofs.Common.{◌≡◌, ℕ, ◌+◌, ◌^◌, ◌<◌, Bool, true, false, List, [], ◌∷◌, length-set, map, set, slice_get, Option, None, Some, refl, sym, ap, subst, ◌∙◌}
use Rattle.std.proofs.lemmas.Option.{none-some}
use Rattle.store_map.specs.declared.actor.Actor.{Actor}
use Rattle.store_map.specs.declared.actor.Actor.TheVariants as actor
use Rattle.store_map.specs.declared.actor.Token.TheVariants as token
use Rattle.store_map.specs.declared.script.ClientPart.{ClientPart}
use Rattle.store_map.specs.declared.script.RepairPart.{RepairPart}
use Rattle.store_map.specs.declared.script.Script.{Script}
use Rattle.store_core.specs.History.{call_of}
use Rattle.store_core.specs.NextAct.{job_of, rebuild_job}
use Rattle.store_core.specs.Schedule.{step_core}
use Rattle.store_core.specs.Step.{Places}
use Rattle.store_core.specs.Work.{client_work, repairer_work, has_step}
use Rattle.version_seal.specs.Entry.{BookOf}
use Rattle.chunk_server.specs.State.{ServerState}
use Rattle.chunk_server.specs.Core.{core_of}
use Rattle.dir_parts.proofs.Entries.{map-set, slice_get-map}
use Rattle.stripe_stamps.specs.Sealed.{Sealed}
use Rattle.stripe_stamps.specs.Stamped.{HaveContents}
use Rattle.call_steps.specs.CallOf.{CallOf}
use Rattle.call_steps.specs.Ready.{shortage_of}
use Rattle.call_steps.specs.declared.step_made.Step.{Step}
use Rattle.world_laws.specs.World.{ActorOf, WorldOf, steps_of, with_client, with_repairer}
use Rattle.world_laws.specs.ActorAfter.{HasTurn}
use Rattle.world_laws.specs.Known.{calling_of}
use Rattle.world_laws.specs.Leads.{LeadsWorld}
use Rattle.world_laws.specs.Telling.{TellsOf}
use Rattle.world_laws.specs.Tokens.{KeepsToken, TokensAgree}
use Rattle.world_laws.specs.Goes.{Leads}
use Rattle.world_laws.specs.TurnMade.{turn_made}
use Rattle.world_laws.proofs.Few.{worlds_make_few_steps}
use Rattle.world_laws.proofs.TurnLaws.{clients_make_turns, repairers_make_turns}
use Rattle.world_laws.proofs.TraceTurns.{clients_tell, repairers_tell}
use Rattle.actors.specs.Turns.{AreServers, places_of}
use Rattle.actors.specs.Turned.{MakesTurn, Leads as ActorLeads, with_places}
use Rattle.actors.specs.Callers.{PartOf, CallerOf, StandsIn, who_of, work_of}
use Rattle.actors.specs.CallerTurns.{HasMore, MakesCallerTurn}
use Rattle.actors.proofs.Leading.{all_turns_lead}
use Rattle.store_world.specs.ServeLaws.{HasMorePoints}
use Rattle.store_world.proofs.ByActor.{IsCaller, list_of, place_of, turn_token}
use Rattle.store_world.specs.Having.{caller_has}
use Rattle.store_world.specs.InList.{HasNone, HasTurned, ReadyAt, TurnedIn}
use Rattle.store_world.specs.Stored.{StoredWorld, world_of}
use Rattle.store_world.specs.Telling.{LeadsTold, steps_in}
use Rattle.store_world.specs.Kept.{IsCallerAt, IsClientAt, IsRepairerAt, IsWorld}
use Rattle.store_world.proofs.Grow.{histories_grow}
use Rattle.store_world.proofs.Serving.{clients_go_on_serving, turns_keep_serving}
use Rattle.store_world.proofs.Callers.{may_turn, of_script}
use Rattle.store_world.proofs.Told.{IsToldTurn, leads_of}
use Rattle.store_world.proofs.Keeping.{caller_stays, changed, kept_by}
use Rattle.store_world.proofs.Lists.{each_set, below, read_back, map_none}

-- a world with another actor of this name
abbrev pub put : Actor → ActorOf → WorldOf → WorldOf
put (actor.Client i) a w = with_client i a w
put (actor.Repairer i) a w = with_repairer i a w
put actor.Sweeper a w = w
put actor.Operator a w = w

-- a world with another list of its kind, directory and servers
abbrev pub with_list : Actor → List CallerOf → Sealed → List ServerState → StoredWorld → StoredWorld
with_list (actor.Client i) callers d servers s = changed s d servers callers s.repairers s.sweeper
with_list (actor.Repairer i) callers d servers s = changed s d servers s.clients callers s.sweeper
with_list actor.Sweeper callers d servers s = s
with_list actor.Operator callers d servers s = s

-- what is known of a caller that is there
record IsThere (s : StoredWorld) (who : Actor) (c : CallerOf) : Type 0 where
  at : IsCallerAt s.script s.book s.directory (place_of who) c
  whose : who_of c.part (place_of who) ≡ who
  keeps : KeepsToken s.directory.core who c.actor
  few : has_step (work_of c.part) (calling_of s.script c.actor) ≡ true → steps_of c.actor.doing + 1 < 2 ^ 64
  idle : has_step (work_of c.part) (calling_of s.script c.actor) ≡ false → LeadsWorld s.script (step_core s.script (turn_token who)) (world_of s) [] (world_of s)
  idle_tells : has_step (work_of c.part) (calling_of s.script c.actor) ≡ false → TellsOf s.script (turn_token who ∷ []) (world_of s) [] []
  leads : (after : ActorOf) (q : Places) (m : MakesTurn s.script who (work_of c.part) c.actor (places_of s.directory s.servers) after q)
      → ActorLeads s.script (step_core s.script (turn_token who)) (world_of s) (shortage_of m.turn.coding m.turn.short m.call ∷ []) (put who after (with_places q (world_of s)))
  tells : (call : CallOf) (coding short : Bool) → HasTurn s.script who (work_of c.part) c.actor call
      → TellsOf s.script (turn_token who ∷ []) (world_of s) (shortage_of coding short call ∷ []) (turn_made who coding short call (places_of s.directory s.servers) ∷ [])

there_at : (s : StoredWorld) → IsWorld s → (who : Actor) (c : CallerOf) → slice_get (list_of who s) (place_of who) ≡ Some c → IsThere s who c
there_at s is (actor.Client i) c there =
    let of : IsClientAt s.script s.book s.directory i c = is.clients.each i c there in
    let its : slice_get (world_of s).clients i ≡ Some c.actor = slice_get-map (λ (x : CallerOf). x.actor) s.clients i c there in
    let work : slice_get (client_work s.script) i ≡ Some (work_of c.part) =
    slice_get-map (λ (part : ClientPart). record { jobs = map job_of part.calls; leave = part.leave }) s.script.clients i of.part (subst (StandsIn s.script i) of.is_part of.at.its)
    ∙ ap (λ (p : PartOf). Some (work_of p)) (sym of.is_part) in
    record {
      at = of.at;
      whose = ap (λ (p : PartOf). who_of p i) of.is_part;
      keeps = is.agree.clients i c.actor its;
      few = (worlds_make_few_steps s.script (world_of s) is.geometry is.valid is.reached).clients i (work_of c.part) c.actor work its;
      idle = ((clients_make_turns s.script i (world_of s)).turns (work_of c.part) c.actor work its).none;
      idle_tells = ((clients_tell s.script i (world_of s)).turns (work_of c.part) c.actor work its).none;
      leads = λ after q m. (all_turns_lead s.script i (world_of s) is.agree).client (work_of c.part) c.actor after q work its m;
      tells = ((clients_tell s.script i (world_of s)).turns (work_of c.part) c.actor work its).turn;
    }
there_at s is (actor.Repairer i) c there =
    let of : IsRepairerAt s.script s.book s.directory i c = is.repairers.each i c there in
    let its : slice_get (world_of s).repairers i ≡ Some c.actor = slice_get-map (λ (x : CallerOf). x.actor) s.repairers i c there in
    let work : slice_get (repairer_work s.script) i ≡ Some (work_of c.part) =
    slice_get-map (λ (part : RepairPart). record { jobs = map rebuild_job part.calls; leave = part.leave }) s.script.repairers i of.part (subst (StandsIn s.script i) of.is_part of.at.its)
    ∙ ap (λ (p : PartOf). Some (work_of p)) (sym of.is_part) in
    record {
      at = of.at;
      whose = ap (λ (p : PartOf). who_of p i) of.is_part;
      keeps = is.agree.repairers i c.actor its;
      few = (worlds_make_few_steps s.script (world_of s) is.geometry is.valid is.reached).repairers i (work_of c.part) c.actor work its;
      idle = ((repairers_make_turns s.script i (world_of s)).turns (work_of c.part) c.actor work its).none;
      idle_tells = ((repairers_tell s.script i (world_of s)).turns (work_of c.part) c.actor work its).none;
      leads = λ after q m. (all_turns_lead s.script i (world_of s) is.agree).repairer (work_of c.part) c.actor after q work its m;
      tells = ((repairers_tell s.script i (world_of s)).turns (work_of c.part) c.actor work its).turn;
    }
there_at s is actor.Sweeper c there = absurd (none-some c there)
there_at s is actor.Operator c there = absurd (none-some c there)

code_of : (s : StoredWorld) → IsWorld s → (who : Actor) (c : CallerOf) → slice_get (list_of who s) (place_of who) ≡ Some c → c.book.geometry ≡ s.script.geometry
code_of s is who c there = ap (λ (b : BookOf). b.geometry) (there_at s is who c there).at.same_book ∙ is.code

-- it may make its turn, if it has a step
pub ready_at : (s : StoredWorld) → IsWorld s → (who : Actor) (c : CallerOf) → slice_get (list_of who s) (place_of who) ≡ Some c → ReadyAt s.directory s.book s.servers (place_of who) c
ready_at s is who c there =
    let of : IsThere s who c = there_at s is who c there in
    record {
      script = s.script;
      code = code_of s is who c there;
      may = λ has. may_turn s is (place_of who) c of.at (subst (λ (x : Actor). KeepsToken s.directory.core x c.actor) (sym of.whose) of.keeps) (of.few has) has;
    }

-- one that isn't there or has no step tells nothing
absent_told : (s : StoredWorld) (who : Actor) → IsCaller who → slice_get (list_of who s) (place_of who) ≡ None → LeadsTold (turn_token who) s s []
absent_told s (actor.Client i) names e =
    let absent : slice_get (world_of s).clients i ≡ None = map_none (λ (caller : CallerOf). caller.actor) s.clients i e in
    record { made = []; leads = record { shortages = []; leads = (clients_make_turns s.script i (world_of s)).absent absent; tells = (clients_tell s.script i (world_of s)).absent absent }; are = tt }
absent_told s (actor.Repairer i) names e =
    let absent : slice_get (world_of s).repairers i ≡ None = map_none (λ (caller : CallerOf). caller.actor) s.repairers i e in
    record { made = []; leads = record { shortages = []; leads = (repairers_make_turns s.script i (world_of s)).absent absent; tells = (repairers_tell s.script i (world_of s)).absent absent }; are = tt }
absent_told s actor.Sweeper names e = absurd names
absent_told s actor.Operator names e = absurd names

idle_told : (s : StoredWorld) → IsWorld s → (who : Actor) → IsCaller who
    → ((script : Script) (c : CallerOf) → slice_get (list_of who s) (place_of who) ≡ Some c → c.book.geometry ≡ script.geometry → false ≡ caller_has script c) → LeadsTold (turn_token who) s s []
idle_told s is who names has = by (slice_get (list_of who s) (place_of who)) refl
  where
    by : (found : Option CallerOf) → slice_get (list_of who s) (place_of who) ≡ found → LeadsTold (turn_token who) s s []
    by None e = absent_told s who names e
    by (Some c) e =
        let of : IsThere s who c = there_at s is who c e in
        let none : has_step (work_of c.part) (calling_of s.script c.actor) ≡ false = sym (has s.script c e (code_of s is who c e)) in
        record { made = []; leads = record { shortages = []; leads = of.idle none; tells = of.idle_tells none }; are = tt }

-- ---- after a turn
world_is : (s : StoredWorld) (who : Actor) (c c' : CallerOf) → slice_get (list_of who s) (place_of who) ≡ Some c → (d : Sealed) (servers : List ServerState)
    → put who c'.actor (with_places (places_of d servers) (world_of s)) ≡ world_of (with_list who (set (list_of who s) (place_of who) c') d servers s)
world_is s (actor.Client i) c c' there d servers =
    ap (λ (actors : List ActorOf). record { directory = d.core; servers = map core_of servers; clients = actors; repairers = (world_of s).repairers; sweeper = s.sweeper })
    (sym (map-set (λ (client : CallerOf). client.actor) (λ _. c'.actor) s.clients i c c' (below s.clients i c there) (read_back s.clients i c there) refl))
world_is s (actor.Repairer i) c c' there d servers =
    ap (λ (actors : List ActorOf). record { directory = d.core; servers = map core_of servers; clients = (world_of s).clients; repairers = actors; sweeper = s.sweeper })
    (sym (map-set (λ (client : CallerOf). client.actor) (λ _. c'.actor) s.repairers i c c' (below s.repairers i c there) (read_back s.repairers i c there) refl))
world_is s actor.Sweeper c c' there d servers = absurd (none-some c there)
world_is s actor.Operator c c' there d servers = absurd (none-some c there)

module _ (s : StoredWorld) (is : IsWorld s) (who : Actor) (d : Sealed) (servers : List ServerState) (step : Step) (after : List CallerOf)
    (h : HasTurned (place_of who) (list_of who s) s.directory s.servers step after d servers) where
  abbrev pub now : StoredWorld
  now = with_list who (set (list_of who s) (place_of who) h.c') d servers s

  of : IsThere s who h.c
  of = there_at s is who h.c h.there

  turn : IsToldTurn s.script who (work_of h.c.part) h.c.actor (places_of s.directory s.servers) h.c'.actor (places_of d servers) step
  turn =
      let tells : _ = h.turn s.script (of_script s is (place_of who) h.c of.at) (sym (h.has s.script (code_of s is who h.c h.there))) in
      subst (λ (x : Actor). IsToldTurn s.script x (work_of h.c.part) h.c.actor (places_of s.directory s.servers) h.c'.actor (places_of d servers) step) of.whose
      (record { makes = tells.turn.makes; told = tells.told })

  led : ActorLeads s.script (step_core s.script (turn_token who)) (world_of s) (shortage_of turn.makes.turn.coding turn.makes.turn.short turn.makes.call ∷ []) (world_of now)
  led =
      subst (λ (w : WorldOf). ActorLeads s.script (step_core s.script (turn_token who)) (world_of s) (shortage_of turn.makes.turn.coding turn.makes.turn.short turn.makes.call ∷ []) w)
      (world_is s who h.c h.c' h.there d servers) (of.leads h.c'.actor (places_of d servers) turn.makes)

  pub turn_told : LeadsTold (turn_token who) s now (step ∷ [])
  turn_told =
      record {
        made = turn_made who turn.makes.turn.coding turn.makes.turn.short turn.makes.call (places_of s.directory s.servers) ∷ [];
        leads = record {
          shortages = shortage_of turn.makes.turn.coding turn.makes.turn.short turn.makes.call ∷ [];
          leads = led.leads;
          tells = of.tells turn.makes.call turn.makes.turn.coding turn.makes.turn.short turn.makes.has;
        };
        are = (turn.told, tt);
      }

-- what others know and serve stays
module _ (s : StoredWorld) (d : Sealed) (grown : HasMorePoints s.directory.core.points d.core.points) (more : HasMore s.directory.stamps d.stamps) where
  client_stays : (k : ℕ) (x : CallerOf) → IsClientAt s.script s.book s.directory k x → IsClientAt s.script s.book d k x
  client_stays k x of =
      record {
        part = of.part;
        is_part = of.is_part;
        at = caller_stays s.script s.book s.directory d k x more.more more.is of.at;
        serves = (clients_go_on_serving s.script).stays s.directory.core.points d.core.points k x grown of.serves;
      }

  repairer_stays : (k : ℕ) (x : CallerOf) → IsRepairerAt s.script s.book s.directory k x → IsRepairerAt s.script s.book d k x
  repairer_stays k x of = record { part = of.part; is_part = of.is_part; at = caller_stays s.script s.book s.directory d k x more.more more.is of.at }

kept_at : (s : StoredWorld) → IsWorld s → (who : Actor) (c c' : CallerOf) → slice_get (list_of who s) (place_of who) ≡ Some c → (d : Sealed) (servers : List ServerState) → HaveContents (call_of s.script) s.directory
    → HasMorePoints s.directory.core.points d.core.points → HasMore s.directory.stamps d.stamps → d.book ≡ s.directory.book → AreServers s.book servers
    → MakesCallerTurn s.script (place_of who) c s.directory s.servers c' d servers → c'.part ≡ c.part → IsCallerAt s.script s.book d (place_of who) c'
    → TokensAgree (world_of (with_list who (set (list_of who s) (place_of who) c') d servers s))
    → Leads s.script (step_core s.script (turn_token who)) (world_of s) (world_of (with_list who (set (list_of who s) (place_of who) c') d servers s))
    → IsWorld (with_list who (set (list_of who s) (place_of who) c') d servers s)
kept_at s is (actor.Client i) c c' there d servers contents grown more book held makes same at agree leads =
    let was : IsClientAt s.script s.book s.directory i c = is.clients.each i c there in
    let its : slice_get s.script.clients i ≡ Some was.part = subst (StandsIn s.script i) was.is_part was.at.its in
    let now : IsClientAt s.script s.book d i c' =
    record {
      part = was.part;
      is_part = same ∙ was.is_part;
      at = at;
      serves = turns_keep_serving s.script (world_of s) i c c' s.directory d s.servers servers is.geometry is.valid is.reached refl contents was.part was.is_part its
          (is.agree.clients i c.actor (slice_get-map (λ (x : CallerOf). x.actor) s.clients i c there)) makes was.serves;
    } in
    kept_by s d servers (set s.clients i c') s.repairers s.sweeper (token.Client i) is book held
    (record {
      count = length-set s.clients i c' ∙ is.clients.count;
      each = each_set (IsClientAt s.script s.book s.directory) (IsClientAt s.script s.book d) s.clients i c' (client_stays s d grown more) is.clients.each now;
    })
    (record { count = is.repairers.count; each = λ k x e. repairer_stays s d grown more k x (is.repairers.each k x e) }) agree leads
kept_at s is (actor.Repairer i) c c' there d servers contents grown more book held makes same at agree leads =
    let was : IsRepairerAt s.script s.book s.directory i c = is.repairers.each i c there in
    let now : IsRepairerAt s.script s.book d i c' = record { part = was.part; is_part = same ∙ was.is_part; at = at } in
    kept_by s d servers s.clients (set s.repairers i c') s.sweeper (token.Repairer i) is book held
    (record { count = is.clients.count; each = λ k x e. client_stays s d grown more k x (is.clients.each k x e) })
    (record {
      count = length-set s.repairers i c' ∙ is.repairers.count;
      each = each_set (IsRepairerAt s.script s.book s.directory) (IsRepairerAt s.script s.book d) s.repairers i c' (repairer_stays s d grown more) is.repairers.each now;
    }) agree leads
kept_at s is actor.Sweeper c c' there d servers contents grown more book held makes same at agree leads = is
kept_at s is actor.Operator c c' there d servers contents grown more book held makes same at agree leads = is

pub turn_kept : (s : StoredWorld) (is : IsWorld s) (who : Actor) (d : Sealed) (servers : List ServerState) (step : Step) (after : List CallerOf)
    (h : HasTurned (place_of who) (list_of who s) s.directory s.servers step after d servers) → HaveContents (call_of s.script) s.directory
    → IsWorld (with_list who (set (list_of who s) (place_of who) h.c') d servers s)
turn_kept s is who d servers step after h contents =
    let of : IsThere s who h.c = there_at s is who h.c h.there in
    let makes : MakesCallerTurn s.script (place_of who) h.c s.directory s.servers h.c' d servers =
    (h.turn s.script (of_script s is (place_of who) h.c of.at) (sym (h.has s.script (code_of s is who h.c h.there)))).turn in
    let its : IsToldTurn s.script who (work_of h.c.part) h.c.actor (places_of s.directory s.servers) h.c'.actor (places_of d servers) step = turn s is who d servers step after h in
    kept_at s is who h.c h.c' h.there d servers contents
    (histories_grow.turn s.script who (work_of h.c.part) h.c.actor h.c'.actor (places_of s.directory s.servers) (places_of d servers) its.makes)
    h.stamps h.book (subst (λ (b : BookOf). AreServers b servers) of.at.same_book h.held) makes (ap (λ (x : CallerOf). x.part) h.same)
    (record {
      its = subst (StandsIn s.script (place_of who)) (sym (ap (λ (x : CallerOf). x.part) h.same)) of.at.its;
      same_book = ap (λ (x : CallerOf). x.book) h.same ∙ of.at.same_book;
      often = ap (λ (x : CallerOf). x.tries) h.same ∙ of.at.often;
      knows = h.knows;
    })
    (led s is who d servers step after h).agree (leads_of (turn_token who) s (now s is who d servers step after h) (step ∷ []) (turn_told s is who d servers step after h))

-- ---- what a turn in its list is for the world
same_world : (s : StoredWorld) (who : Actor) → with_list who (list_of who s) s.directory s.servers s ≡ s
same_world s (actor.Client i) = refl
same_world s (actor.Repairer i) = refl
same_world s actor.Sweeper = refl
same_world s actor.Operator = refl

pub record IsKeptAndTold (s : StoredWorld) (who : Actor) (steps : List Step) (now : StoredWorld) : Type 0 where
  pub kept : IsWorld now
  pub told : LeadsTold (turn_token who) s now steps

pub turned : (s : StoredWorld) → IsWorld s → HaveContents (call_of s.script) s.directory → (who : Actor) → IsCaller who → (r : Option Step) (callers : List CallerOf) (d : Sealed) (servers : List ServerState)
    → TurnedIn (place_of who) (list_of who s) s.directory s.servers r callers d servers → IsKeptAndTold s who (steps_in r) (with_list who callers d servers s)
turned s is contents who names None callers d servers h =
    subst (IsKeptAndTold s who []) (sym ((λ k. with_list who (h.callers_stay k) (h.directory_stays k) (h.servers_stay k) s) ∙ same_world s who))
    (record { kept = is; told = idle_told s is who names h.none })
turned s is contents who names (Some step) callers d servers h =
    subst (λ (l : List CallerOf). IsKeptAndTold s who (step ∷ []) (with_list who l d servers s)) (sym h.are)
    (record { kept = turn_kept s is who d servers step callers h contents; told = turn_told s is who d servers step callers h })

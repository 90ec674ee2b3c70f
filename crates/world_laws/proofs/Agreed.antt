-- The tickets of all actors agree with the directory after each step.
use Rattle.std.proofs.Common.{◌≡◌, ◌≢◌, ℕ, zero, suc, ◌+◌, ◌≤◌, Bool, true, false, cond, List, [], ◌∷◌, Some, refl, sym, ap, subst, ◌∙◌, inl, inr, ◌⊎◌, arith, ne_eqb}
use Rattle.std.proofs.lemmas.Bool.{cases_eq}
use Rattle.std.proofs.lemmas.Option.{none-some, same_Some}
use Rattle.std.specs.List.{slice_get}
use Rattle.store_map.specs.Limits.{size_of}
use Rattle.store_map.specs.declared.actor.Actor.{Actor}
use Rattle.store_map.specs.declared.actor.Actor.TheVariants as actor
use Rattle.store_map.specs.declared.script.Script.{Script}
use Rattle.store_core.specs.Lists.{change_at}
use Rattle.store_core.specs.Told.{Told}
use Rattle.store_core.specs.Act.{Act, DirectoryStep}
use Rattle.store_core.specs.Agreement.{Agrees}
use Rattle.store_core.specs.Directory.{Directory, new_directory}
use Rattle.store_core.specs.AtDirectory.{at_directory}
use Rattle.store_core.specs.Lookups.{same_actor}
use Rattle.store_core.specs.Server.{Server}
use Rattle.store_core.specs.Tokens.{actor_of}
use Rattle.store_core.specs.Work.{Ended, Work}
use Rattle.store_core.proofs.Places.{slice_get-change_at}
use Rattle.run_laws.proofs.OwnSteps.{agreement_goes_on}
use Rattle.call_steps.specs.TokenAfter.{token_after}
use Rattle.call_steps.specs.CallOf.{CallOf, act_of}
use Rattle.call_steps.specs.Steps.{coded, at_directory_by, at_server_by, stepped_at_directory, stepped_at_server}
use Rattle.call_steps.specs.Ready.{ready}
use Rattle.call_steps.proofs.Tokens.{tokens_stay, passes_are_of_calls}
use Rattle.call_steps.proofs.Agreement.{agreement_stays}
use Rattle.sweeper.specs.Sweeps.{act_of as sweeper_act, at_directory_by as swept_by}
use Rattle.world_laws.specs.World.{ActorOf, WorldOf}
use Rattle.world_laws.specs.FirstWorld.{new_actor}
use Rattle.world_laws.specs.ActorAfter.{HasTurn, actor_after}
use Rattle.world_laws.specs.Tokens.{token_of, IsUsedBelow, IsNext, KeepsToken, TokensAgree, first_token}
use Rattle.world_laws.proofs.Numbered.{token_below, before_numbered, before_token, after_numbered, after_token}
use Rattle.world_laws.specs.TokenLaws.{FirstTokensAgree, TurnsAgree, WorldsStayAgreed}

-- ---- a call's steps keep its numbers
step_numbered : (ended : List Ended) (c : CallOf) (d : Directory) (short due : Bool) (act : Act) → IsNext ended c.number c.token
    → let now : CallOf = (at_directory_by act short due c d).1 in IsNext ended now.number now.token
step_numbered ended c d short due (Act.AtDirectory step) fits =
    let answer : Told = (at_directory short (actor_of c.token) c.number step d).1 in
    let used : IsUsedBelow (c.number + 1) c.token = subst (λ n. IsUsedBelow (n + 1) c.token) (sym fits.next) fits.used in
    record { next = fits.next; used = subst (λ n. IsUsedBelow (n + 1) (token_after c.token c.number step answer)) fits.next (token_below c.token c.number step answer used) }
step_numbered ended c d short due (Act.AtServer server step) fits = fits
step_numbered ended c d short due (Act.Finish outcome) fits = fits

server_numbered : (ended : List Ended) (c : CallOf) (s : Server) (short due : Bool) (act : Act) → IsNext ended c.number c.token
    → let now : CallOf = (at_server_by act short due c s).1 in IsNext ended now.number now.token
server_numbered ended c s short due (Act.AtServer server step) fits = record { next = fits.next; used = fits.used }
server_numbered ended c s short due (Act.AtDirectory step) fits = fits
server_numbered ended c s short due (Act.Finish outcome) fits = fits

ready_numbered : (ended : List Ended) (c : CallOf) (coding due : Bool) → IsNext ended c.number c.token → IsNext ended (cond due (coded coding c) c).number (cond due (coded coding c) c).token
ready_numbered ended c coding true fits = record { next = fits.next; used = fits.used }
ready_numbered ended c coding false fits = fits

after_keeps : (d : Directory) (who : Actor) (a : ActorOf) (c : CallOf) → actor_of c.token ≡ who → Agrees d c.token → IsNext a.ended c.number c.token → KeepsToken d who (actor_after c a)
after_keeps d who a c whose agrees fits =
    record {
      whose = ap actor_of (after_token a c (act_of c)) ∙ whose;
      agrees = subst (Agrees d) (sym (after_token a c (act_of c))) agrees;
      numbered = after_numbered a c (act_of c) fits;
    }

-- ---- lists of which one is changed
changed_here : {X : Type 0} (xs : List X) (i : ℕ) (x y : X) → slice_get (change_at i (λ _. x) xs) i ≡ Some y → x ≡ y
changed_here [] i x y e = absurd (none-some y e)
changed_here (z ∷ xs) zero x y e = same_Some x y e
changed_here (z ∷ xs) (suc i) x y e = changed_here xs i x y e

all_changed : (who_of : ℕ → Actor) (d : Directory) (actors : List ActorOf) (i : ℕ) (now : ActorOf) → KeepsToken d (who_of i) now
    → ((j : ℕ) (a : ActorOf) → j ≢ i → slice_get actors j ≡ Some a → KeepsToken d (who_of j) a)
    → (j : ℕ) (a : ActorOf) → slice_get (change_at i (λ _. now) actors) j ≡ Some a → KeepsToken d (who_of j) a
all_changed who_of d actors i now keeps others j a e = by (cases_eq j i)
  where
    by : (j ≡ i) ⊎ (j ≡ i → ⊥) → KeepsToken d (who_of j) a
    by (inl same) =
        let here : now ≡ a = changed_here actors i now a (ap (slice_get (change_at i (λ _. now) actors)) (sym same) ∙ e) in
        subst (λ n. KeepsToken d (who_of n) a) (sym same) (subst (KeepsToken d (who_of i)) here keeps)
    by (inr apart) = others j a apart (sym (slice_get-change_at i j (λ _. now) actors apart) ∙ e)

-- ---- another actor's ticket
other_keeps : (before after : Directory) (who : Actor) (a : ActorOf) → KeepsToken before who a → (Agrees before (token_of a.doing) → Agrees after (token_of a.doing)) → KeepsToken after who a
other_keeps before after who a keeps agrees = record { whose = keeps.whose; agrees = agrees keeps.agrees; numbered = keeps.numbered }

-- where a step is made by none of the actors
none_keep : (d : Directory) (short : Bool) (number : ℕ) (step : DirectoryStep) (who other : Actor) (a : ActorOf) → same_actor who other ≡ false → KeepsToken d other a
    → KeepsToken (at_directory short who number step d).0 other a
none_keep d short number step who other a apart keeps =
    other_keeps d (at_directory short who number step d).0 other a keeps
    (agreement_goes_on.others short who number step d (token_of a.doing) (ap (same_actor who) keeps.whose ∙ apart))

-- ---- a turn
module _ (script : Script) (w : WorldOf) (who : Actor) (a : ActorOf) (keeps : KeepsToken w.directory who a) (work : Work) (c : CallOf) (turn : HasTurn script who work a c) where
  its_token : c.token ≡ token_of a.doing
  its_token = before_token script work a.ended a.doing c turn.call

  its_numbers : (coding : Bool) → IsNext a.ended (ready coding c).number (ready coding c).token
  its_numbers coding = ready_numbered a.ended c coding c.due (before_numbered script work a.ended a.doing c keeps.numbered turn.call)

  its_actor : (coding : Bool) → actor_of (ready coding c).token ≡ who
  its_actor coding = ap actor_of (tokens_stay.coded c coding) ∙ turn.whose

  own_at_directory : (coding short due : Bool) → let stepped : Directory × CallOf = stepped_at_directory short due (ready coding c) w.directory in
      Agrees stepped.0 stepped.1.token → KeepsToken stepped.0 who (actor_after stepped.1 a)
  own_at_directory coding short due agrees =
      let stepped : Directory × CallOf = stepped_at_directory short due (ready coding c) w.directory in
      after_keeps stepped.0 who a stepped.1 (tokens_stay.directory (ready coding c) w.directory short due ∙ its_actor coding) agrees
      (step_numbered a.ended (ready coding c) w.directory short due (act_of (ready coding c)) (its_numbers coding))

  own_at_server : (s : Server) (coding short due : Bool) → KeepsToken w.directory who (actor_after (stepped_at_server short due (ready coding c) s).1 a)
  own_at_server s coding short due =
      let now : CallOf = (stepped_at_server short due (ready coding c) s).1 in
      let same : now.token ≡ (ready coding c).token = tokens_stay.server (ready coding c) s short due in
      after_keeps w.directory who a now (ap actor_of same ∙ its_actor coding) (subst (Agrees w.directory) (sym (same ∙ tokens_stay.coded c coding ∙ its_token)) keeps.agrees)
      (server_numbered a.ended (ready coding c) s short due (act_of (ready coding c)) (its_numbers coding))

  other_at_directory : (coding short due : Bool) (other : Actor) (b : ActorOf) → same_actor who other ≡ false → KeepsToken w.directory other b
      → KeepsToken (stepped_at_directory short due (ready coding c) w.directory).0 other b
  other_at_directory coding short due other b apart others =
      other_keeps w.directory (stepped_at_directory short due (ready coding c) w.directory).0 other b others
      (agreement_stays.others (ready coding c) w.directory (token_of b.doing) short due ((λ k. same_actor (its_actor coding k) (others.whose k)) ∙ apart))

clients_apart : (i j : ℕ) → j ≢ i → same_actor (actor.Client i) (actor.Client j) ≡ false
clients_apart i j apart = ne_eqb i j (λ e. apart (sym e))

repairers_apart : (i j : ℕ) → j ≢ i → same_actor (actor.Repairer i) (actor.Repairer j) ≡ false
repairers_apart i j apart = ne_eqb i j (λ e. apart (sym e))

module _ (script : Script) (w : WorldOf) (all : TokensAgree w) where
  client_turns : (i : ℕ) (a : ActorOf) → slice_get w.clients i ≡ Some a → TurnsAgree script (actor.Client i) a (λ b v. record v { clients = change_at i (λ _. b) v.clients }) w
  client_turns i a is_a =
      let keeps : KeepsToken w.directory (actor.Client i) a = all.clients i a is_a in
      record {
        pass = λ work c turn holds.
            passes_are_of_calls w.directory c (subst (Agrees w.directory) (sym (its_token script w (actor.Client i) a keeps work c turn)) keeps.agrees) holds;
        directory = λ work c coding short due turn agrees.
            let stepped : Directory × CallOf = stepped_at_directory short due (ready coding c) w.directory in
            record {
              clients =
                  all_changed actor.Client stepped.0 w.clients i (actor_after stepped.1 a) (own_at_directory script w (actor.Client i) a keeps work c turn coding short due agrees)
                  (λ j b apart is_b. other_at_directory script w (actor.Client i) a keeps work c turn coding short due (actor.Client j) b (clients_apart i j apart) (all.clients j b is_b));
              repairers = λ j b is_b. other_at_directory script w (actor.Client i) a keeps work c turn coding short due (actor.Repairer j) b refl (all.repairers j b is_b);
            };
        server = λ work c server s coding short due turn.
            record {
              clients =
                  all_changed actor.Client w.directory w.clients i (actor_after (stepped_at_server short due (ready coding c) s).1 a)
                  (own_at_server script w (actor.Client i) a keeps work c turn s coding short due) (λ j b apart is_b. all.clients j b is_b);
              repairers = all.repairers;
            };
      }

  repairer_turns : (i : ℕ) (a : ActorOf) → slice_get w.repairers i ≡ Some a → TurnsAgree script (actor.Repairer i) a (λ b v. record v { repairers = change_at i (λ _. b) v.repairers }) w
  repairer_turns i a is_a =
      let keeps : KeepsToken w.directory (actor.Repairer i) a = all.repairers i a is_a in
      record {
        pass = λ work c turn holds.
            passes_are_of_calls w.directory c (subst (Agrees w.directory) (sym (its_token script w (actor.Repairer i) a keeps work c turn)) keeps.agrees) holds;
        directory = λ work c coding short due turn agrees.
            let stepped : Directory × CallOf = stepped_at_directory short due (ready coding c) w.directory in
            record {
              clients = λ j b is_b. other_at_directory script w (actor.Repairer i) a keeps work c turn coding short due (actor.Client j) b refl (all.clients j b is_b);
              repairers =
                  all_changed actor.Repairer stepped.0 w.repairers i (actor_after stepped.1 a) (own_at_directory script w (actor.Repairer i) a keeps work c turn coding short due agrees)
                  (λ j b apart is_b. other_at_directory script w (actor.Repairer i) a keeps work c turn coding short due (actor.Repairer j) b (repairers_apart i j apart) (all.repairers j b is_b));
            };
        server = λ work c server s coding short due turn.
            record {
              clients = all.clients;
              repairers =
                  all_changed actor.Repairer w.directory w.repairers i (actor_after (stepped_at_server short due (ready coding c) s).1 a)
                  (own_at_server script w (actor.Repairer i) a keeps work c turn s coding short due) (λ j b apart is_b. all.repairers j b is_b);
            };
      }

  -- the sweeper, by its act
  swept : (act : Act) → TokensAgree (record w { directory = (swept_by act actor.Sweeper 0 w.sweeper w.directory).0; sweeper = (swept_by act actor.Sweeper 0 w.sweeper w.directory).1 })
  swept (Act.AtDirectory step) =
      record {
        clients = λ j b is_b. none_keep w.directory false 0 step actor.Sweeper (actor.Client j) b refl (all.clients j b is_b);
        repairers = λ j b is_b. none_keep w.directory false 0 step actor.Sweeper (actor.Repairer j) b refl (all.repairers j b is_b);
      }
  swept (Act.AtServer server step) = record { clients = all.clients; repairers = all.repairers }
  swept (Act.Finish outcome) = record { clients = all.clients; repairers = all.repairers }

pub worlds_stay_agreed : WorldsStayAgreed
worlds_stay_agreed script w all =
    record {
      client = client_turns script w all;
      repairer = repairer_turns script w all;
      sweeper = swept script w all (sweeper_act w.sweeper);
      operator = λ step. record {
        clients = λ j b is_b. none_keep w.directory false 0 step actor.Operator (actor.Client j) b refl (all.clients j b is_b);
        repairers = λ j b is_b. none_keep w.directory false 0 step actor.Operator (actor.Repairer j) b refl (all.repairers j b is_b);
      };
    }

-- ---- the first world
first_keeps : (script : Script) (d : Directory) (who : Actor) (a : ActorOf) → d ≡ new_directory script.geometry (size_of script) → a ≡ new_actor (first_token who) → KeepsToken d who a
first_keeps script d who a empty new =
    subst (λ (b : ActorOf). KeepsToken d who b) (sym new)
    (subst (λ (e : Directory). KeepsToken e who (new_actor (first_token who))) (sym empty)
    (record { whose = refl; agrees = agreement_goes_on.first script.geometry (size_of script) who; numbered = let none : 0 ≤ 0 = omega arith in none }))

pub first_tokens_agree : FirstTokensAgree
first_tokens_agree script w first clients repairers =
    record {
      clients = λ i a is_a. first_keeps script w.directory (actor.Client i) a first.directory (clients i a is_a);
      repairers = λ i a is_a. first_keeps script w.directory (actor.Repairer i) a first.directory (repairers i a is_a);
    }

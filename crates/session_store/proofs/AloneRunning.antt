-- A machine's codings and steps are those of a call that runs alone.
use Rattle.std.specs.Prelude.{IsTrue}
use Rattle.std.proofs.Common.{◌≡◌, ℕ, zero, suc, Bool, true, false, ◌&&◌, if◌then◌else◌, List, [], ◌∷◌, ◌++◌, replicate, Option, None, Some, refl, sym, ap, subst, ◌∙◌, true≢false}
use Rattle.std.proofs.lemmas.Option.{none-some, same_Some}
use Rattle.std.specs.List.{slice_get}
use Rattle.clay_grid.specs.Shape.{Shape, chunk_count}
use Rattle.store_map.specs.declared.actor.Actor.{Actor}
use Rattle.store_core.specs.Lists.{change_at}
use Rattle.store_core.specs.Told.{Told}
use Rattle.store_core.specs.Act.{Act, DirectoryStep, ServerStep, Outcome}
use Rattle.store_core.specs.ActPlace.{is_in_pass}
use Rattle.store_core.specs.AtDirectory.{at_directory}
use Rattle.store_core.specs.Directory.{Directory}
use Rattle.store_core.specs.NextAct.{Job}
use Rattle.store_core.specs.Server.{Server, at_server}
use Rattle.store_core.specs.Step.{Shortage, Places, at_server_there, at_places, take_from}
use Rattle.store_core.specs.Tokens.{actor_of}
use Rattle.run_laws.specs.State.{State, CallState, first_state}
use Rattle.run_laws.specs.StateActs.{act_of_state}
use Rattle.run_laws.specs.CallLaws.{next_call}
use Rattle.session_rules.specs.Alone.{AtWork, step_by, step, steps, EndsAs}
use Rattle.session_rules.specs.Takes.{taken_by, takes_in}
use Rattle.session_rules.specs.Wants.{may_code, after_coding, wanting_by, wanting_step, wanting_steps}
use Rattle.call_steps.specs.declared.need.Need.{Need}
use Rattle.call_steps.specs.declared.need.Need.TheVariants as need
use Rattle.call_steps.specs.CallOf.{CallOf, act_of}
use Rattle.call_steps.specs.Steps.{need_by, need_of, coded, at_directory_by, at_server_by, LeadsTo, LeadsToAtServer, IsDueInPass, IsUndueOncePlaced}
use Rattle.call_steps.specs.TokenAfter.{token_after}
use Rattle.call_steps.proofs.Tickets.{token_stays}
use Rattle.session_store.specs.AtWork.{IsOf, HasRun, HasRunAmply, at_work, first_at, with_coding}
use Rattle.session_store.specs.Laws.{Begins, CodingsStay, StepsTo, StepsAreMade, Ends, CallsRunAlone}

-- ---- one step more comes behind those before
module _ (g : Shape) (tries : ℕ) (who : Actor) (number : ℕ) (job : Job) where
  wanting_last : (shortages : List Shortage) (last : Shortage) (w : AtWork) →
      wanting_steps g tries who number job (shortages ++ last ∷ []) w ≡ wanting_step g tries who number job last (wanting_steps g tries who number job shortages w)
  wanting_last [] last w = refl
  wanting_last (shortage ∷ shortages) last w = wanting_last shortages last (wanting_step g tries who number job shortage w)

  steps_last : (n : ℕ) (w : AtWork) → steps g tries who number job (suc n) w ≡ step g tries who number job (steps g tries who number job n w)
  steps_last zero w = refl
  steps_last (suc n) w = steps_last n (step g tries who number job w)

  takes_last : (n : ℕ) (w : AtWork) (takes : List ℕ) → takes_in g tries who number job (suc n) w takes
      ≡ taken_by g tries who number job (act_of_state g tries job (steps g tries who number job n w).call) (steps g tries who number job n w) (takes_in g tries who number job n w takes)
  takes_last zero w takes = refl
  takes_last (suc n) w takes = takes_last n (step g tries who number job w) (taken_by g tries who number job (act_of_state g tries job w.call) w takes)

-- ---- a machine's step
-- as one of its own call
abbrev own_step : CallOf → Bool → Act → AtWork → AtWork
own_step c short act w = wanting_by c.book.geometry c.tries (actor_of c.token) c.number c.job short act w

-- what it tells of its call stays
record StaysOf (c after : CallOf) : Type 0 where
  its_shape : after.book.geometry ≡ c.book.geometry
  its_tries : after.tries ≡ c.tries
  its_actor : actor_of after.token ≡ actor_of c.token
  its_number : after.number ≡ c.number
  its_job : after.job ≡ c.job
  uncoded : after.coding ≡ false

-- by its act it leads to these, and takes this
record IsStep (c : CallOf) (act : Act) (short : Bool) (now : Places) (after : CallOf) (later : Places) : Type 0 where
  stays : StaysOf c after
  leads : own_step c short act (at_work c now) ≡ at_work after later
  takes : take_from act (at_places short (actor_of c.token) c.number act now).1 c.takes ≡ after.takes

abbrev is_directory : Need → Bool
is_directory need.Directory = true
is_directory other = false

abbrev server_in : Need → Option ℕ
server_in (need.Server server) = Some server
server_in other = None

module _ (c : CallOf) (now : Places) (short due : Bool) where
  -- at the directory
  there_stays : (step : DirectoryStep) → StaysOf c (at_directory_by (Act.AtDirectory step) short due c now.directory).1
  there_stays step =
      record {
        its_shape = refl;
        its_tries = refl;
        its_actor = token_stays c.token c.number step (at_directory short (actor_of c.token) c.number step now.directory).1;
        its_number = refl;
        its_job = refl;
        uncoded = refl;
      }

  there_by : (act : Act) (coding : Bool) (r : Directory × CallOf) → need_by act coding ≡ need.Directory → r ≡ at_directory_by act short due c now.directory
      → IsStep c act short now r.1 (record now { directory = r.0 })
  there_by (Act.AtDirectory step) coding r needs e =
      subst (λ (x : Directory × CallOf). IsStep c (Act.AtDirectory step) short now x.1 (record now { directory = x.0 })) (sym e)
      (record { stays = there_stays step; leads = refl; takes = refl })
  there_by (Act.AtServer server step) true r needs e = absurd (true≢false (sym (ap is_directory needs)))
  there_by (Act.AtServer server step) false r needs e = absurd (true≢false (sym (ap is_directory needs)))
  there_by (Act.Finish outcome) coding r needs e = absurd (true≢false (sym (ap is_directory needs)))

  -- at a server that is there
  here_made : (server : ℕ) (step : ServerStep) (s : Server) → slice_get now.servers server ≡ Some s →
      let after : Server × CallOf = at_server_by (Act.AtServer server step) short due c s in
      IsStep c (Act.AtServer server step) short now after.1 (record now { servers = change_at server (λ _. after.0) now.servers })
  here_made server step s there =
      record {
        stays = record { its_shape = refl; its_tries = refl; its_actor = refl; its_number = refl; its_job = refl; uncoded = refl };
        leads = ap (λ (found : Option Server).
            let made : Places × Told = at_server_there short server step now found in
            record { call = next_call c.book.geometry c.job c.state made.1; places = made.0 }) there;
        takes = ap (λ (found : Option Server). take_from (Act.AtServer server step) (at_server_there short server step now found).1 c.takes) there;
      }

  here_by : (act : Act) (coding : Bool) (server : ℕ) (s : Server) (r : Server × CallOf) → need_by act coding ≡ need.Server server → slice_get now.servers server ≡ Some s
      → r ≡ at_server_by act short due c s → IsStep c act short now r.1 (record now { servers = change_at server (λ _. r.0) now.servers })
  here_by (Act.AtServer other step) false server s r needs there e =
      let same : other ≡ server = same_Some other server (ap server_in needs) in
      subst (λ (n : ℕ). IsStep c (Act.AtServer other step) short now r.1 (record now { servers = change_at n (λ _. r.0) now.servers })) same
      (subst (λ (x : Server × CallOf). IsStep c (Act.AtServer other step) short now x.1 (record now { servers = change_at other (λ _. x.0) now.servers })) (sym e)
      (here_made other step s (ap (slice_get now.servers) same ∙ there)))
  here_by (Act.AtServer other step) true server s r needs there e = absurd (none-some server (ap server_in needs))
  here_by (Act.AtDirectory step) true server s r needs there e = absurd (none-some server (ap server_in needs))
  here_by (Act.AtDirectory step) false server s r needs there e = absurd (none-some server (ap server_in needs))
  here_by (Act.Finish outcome) coding server s r needs there e = absurd (none-some server (ap server_in needs))

-- ---- of a call that is known
module _ (g : Shape) (tries : ℕ) (who : Actor) (number : ℕ) (job : Job) where
  -- a step with ample memory
  plain : (act : Act) (w : AtWork) → step_by g tries who number job act w ≡ wanting_by g tries who number job false act w
  plain (Act.AtDirectory step) w = refl
  plain (Act.AtServer server step) w = refl
  plain (Act.Finish outcome) w = refl

  -- is that of the machine's own call
  own : (c : CallOf) (now : Places) (short : Bool) → IsOf g tries who number job c
      → wanting_by g tries who number job short (act_of_state g tries job c.state) (at_work c now) ≡ own_step c short (act_of c) (at_work c now)
  own c now short is = λ i.
      wanting_by (sym is.its_shape i) (sym is.its_tries i) (sym is.its_actor i) (sym is.its_number i) (sym is.its_job i) short
      (act_of_state (sym is.its_shape i) (sym is.its_tries i) (sym is.its_job i) c.state) (at_work c now)

  stays : (c after : CallOf) → IsOf g tries who number job c → StaysOf c after → IsOf g tries who number job after
  stays c after is same =
      record {
        its_shape = same.its_shape ∙ is.its_shape;
        its_tries = same.its_tries ∙ is.its_tries;
        its_actor = same.its_actor ∙ is.its_actor;
        its_number = same.its_number ∙ is.its_number;
        its_job = same.its_job ∙ is.its_job;
      }

  module _ (before now later : Places) (c after : CallOf) (made_so : IsStep c (act_of c) after.step now after later) where
    run_more : (shortages : List Shortage) → HasRun g tries who number job shortages before c now
        → HasRun g tries who number job (shortages ++ record { coding = c.coding; step = after.step } ∷ []) before after later
    run_more shortages h =
        let last : Shortage = record { coding = c.coding; step = after.step } in
        record {
          its = stays c after h.its made_so.stays;
          comes =
              ap (λ b. with_coding g tries who number job b (wanting_steps g tries who number job (shortages ++ last ∷ []) (first_at before))) made_so.stays.uncoded
              ∙ wanting_last g tries who number job shortages last (first_at before)
              ∙ ap (λ (w : AtWork). wanting_by g tries who number job after.step (act_of_state g tries job w.call) w) h.comes
              ∙ own c now after.step h.its
              ∙ made_so.leads;
          fresh = λ _. made_so.stays.uncoded;
        }

    amply_more : (made : ℕ) → after.step ≡ false → HasRunAmply g tries who number job made before c now → HasRunAmply g tries who number job (suc made) before after later
    amply_more made ample h =
        record {
          its = stays c after h.its made_so.stays;
          comes =
              steps_last g tries who number job made (first_at before)
              ∙ ap (step g tries who number job) h.comes
              ∙ plain (act_of_state g tries job c.state) (at_work c now)
              ∙ ap (λ b. wanting_by g tries who number job b (act_of_state g tries job c.state) (at_work c now)) (sym ample)
              ∙ own c now after.step h.its
              ∙ made_so.leads;
          takes =
              takes_last g tries who number job made (first_at before) (replicate (chunk_count g) 0)
              ∙ (λ i. taken_by g tries who number job (act_of_state g tries job (h.comes i).call) (h.comes i) (h.takes i))
              ∙ (λ i.
              take_from (act_of_state (sym h.its.its_shape i) (sym h.its.its_tries i) (sym h.its.its_job i) c.state)
              (at_places (sym ample i) (sym h.its.its_actor i) (sym h.its.its_number i)
              (act_of_state (sym h.its.its_shape i) (sym h.its.its_tries i) (sym h.its.its_job i) c.state) now).1
              c.takes)
              ∙ made_so.takes;
        }

    steps_to : StepsTo g tries who number job before now c later after
    steps_to = record { run = run_more; amply = amply_more }

  -- ---- codings
  may : (at : State) (due : Bool) → ((target epoch : ℕ) → at ≡ State.Placing target epoch → due ≡ false) → due ≡ true → may_code at ≡ true
  may (State.Placing target epoch) due undue is = absurd (true≢false (sym is ∙ undue target epoch refl))
  may at due undue is = refl

  coded_by : (c : CallOf) (now : Places) (wanting : Bool) → IsOf g tries who number job c → may_code c.state.at ≡ true → is_in_pass (act_of c) ≡ true
      → with_coding g tries who number job wanting (at_work c now) ≡ at_work (coded wanting c) now
  coded_by c now false is codes in_pass = refl
  coded_by c now true is codes in_pass =
      let passes : is_in_pass (act_of_state g tries job c.state) ≡ true =
      ap is_in_pass (λ i. act_of_state (sym is.its_shape i) (sym is.its_tries i) (sym is.its_job i) c.state) ∙ in_pass in
      ap (λ b. at_state now (if b && is_in_pass (act_of_state g tries job c.state) then next_call g job c.state Told.Short else c.state)) codes
      ∙ ap (λ b. at_state now (if b then next_call g job c.state Told.Short else c.state)) passes
      ∙ (λ i. at_state now (next_call (sym is.its_shape i) (sym is.its_job i) c.state Told.Short))
    where
      at_state : Places → CallState → AtWork
      at_state p call = record { call = call; places = p }

  codings_stay : CodingsStay g tries who number job
  codings_stay =
      record {
        run = λ shortages before now c wanting due in_pass undue h. record {
          its = record { its_shape = h.its.its_shape; its_tries = h.its.its_tries; its_actor = h.its.its_actor; its_number = h.its.its_number; its_job = h.its.its_job };
          comes =
              ap (with_coding g tries who number job wanting)
              (sym (ap (λ b. with_coding g tries who number job b (wanting_steps g tries who number job shortages (first_at before))) (h.fresh due)) ∙ h.comes)
              ∙ coded_by c now wanting h.its (may c.state.at c.due undue due) (in_pass due);
          fresh = λ is. absurd (true≢false (sym is));
        };
        amply = λ made before now c h. record {
          its = record { its_shape = h.its.its_shape; its_tries = h.its.its_tries; its_actor = h.its.its_actor; its_number = h.its.its_number; its_job = h.its.its_job };
          comes = h.comes;
          takes = h.takes;
        };
      }

  -- ---- at the places
  steps_are_made : StepsAreMade g tries who number job
  steps_are_made =
      record {
        directory = λ before now c after d needs leads.
            steps_to before now (record now { directory = d }) c after (there_by c now after.step after.due (act_of c) c.due (d, after) needs leads);
        server = λ before now c after server s later needs there leads.
            steps_to before now (record now { servers = change_at server (λ _. later) now.servers }) c after
            (here_by c now after.step after.due (act_of c) c.due server s (later, after) needs there leads);
      }

  -- ---- an end
  over : (c : CallOf) (outcome : Outcome) → IsOf g tries who number job c → act_of c ≡ Act.Finish outcome → act_of_state g tries job c.state ≡ Act.Finish outcome
  over c outcome is ends = (λ i. act_of_state (sym is.its_shape i) (sym is.its_tries i) (sym is.its_job i) c.state) ∙ ends

  ends : Ends g tries who number job
  ends =
      record {
        run = λ shortages before now c outcome is_over uncoded h.
            let comes : wanting_steps g tries who number job shortages (first_at before) ≡ at_work c now =
            sym (ap (λ b. with_coding g tries who number job b (wanting_steps g tries who number job shortages (first_at before))) uncoded) ∙ h.comes in
            (ap (λ (w : AtWork). act_of_state g tries job w.call) comes ∙ over c outcome h.its is_over, ap (λ (w : AtWork). w.places) comes);
        amply = λ made before now c outcome is_over h. (
          record {
            made = made;
            over = ap (λ (w : AtWork). act_of_state g tries job w.call) h.comes ∙ over c outcome h.its is_over;
            leaves = ap (λ (w : AtWork). w.places) h.comes;
          },
          h.takes,
        );
      }

begins : (g : Shape) (tries : ℕ) (who : Actor) (number : ℕ) (job : Job) (p : Places) (c : CallOf) → IsOf g tries who number job c → c.state ≡ first_state
    → c.takes ≡ replicate (chunk_count g) 0 → c.coding ≡ false → Begins g tries who number job p c
begins g tries who number job p c is first nothing uncoded =
    let comes : first_at p ≡ at_work c p = (λ i. record { call = sym first i; places = p }) in
    record {
      run = record { its = is; comes = ap (λ b. with_coding g tries who number job b (first_at p)) uncoded ∙ comes; fresh = λ _. uncoded };
      amply = record { its = is; comes = comes; takes = sym nothing };
    }

pub calls_run_alone : CallsRunAlone
calls_run_alone = record { begins = begins; codings = codings_stay; steps = steps_are_made; ends = ends }

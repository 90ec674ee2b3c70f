-- What a call that runs alone has taken.
use Rattle.std.proofs.Common.{◌≡◌, ℕ, ◌+◌, Bool, List, [], ◌∷◌, ◌++◌, replicate, Option, Some, refl, sym, ap, ◌∙◌}
use Rattle.std.specs.List.{slice_get}
use Rattle.clay_grid.specs.Shape.{Shape, chunk_count}
use Rattle.store_map.specs.declared.actor.Actor.{Actor}
use Rattle.store_core.specs.Act.{Act, ServerStep}
use Rattle.store_core.specs.NextAct.{Job}
use Rattle.store_core.specs.Server.{Server, at_server}
use Rattle.store_core.specs.Step.{Shortage, Places, at_places, at_server_there, take_from}
use Rattle.store_core.specs.Tokens.{actor_of}
use Rattle.run_laws.specs.State.{CallState}
use Rattle.run_laws.specs.StateActs.{act_of_state}
use Rattle.session_rules.specs.Alone.{AtWork}
use Rattle.session_rules.specs.Wants.{after_coding, wanting_step, wanting_steps}
use Rattle.session_rules.specs.Answering.{took}
use Rattle.call_steps.specs.CallOf.{CallOf, act_of}
use Rattle.session_store.specs.AtWork.{HasRun, first_at}

module _ (g : Shape) (tries : ℕ) (who : Actor) (number : ℕ) (job : Job) where
  -- what a step takes comes behind what those before took
  abbrev taken_next : Shortage → AtWork → List ℕ → List ℕ
  taken_next last w takes =
      let call : CallState = after_coding g tries who number job last.coding w.call in
      let act : Act = act_of_state g tries job call in
      take_from act (at_places last.step who number act w.places).1 takes

  took_last : (shortages : List Shortage) (last : Shortage) (w : AtWork) (takes : List ℕ) →
      took g tries who number job (shortages ++ last ∷ []) w takes ≡ taken_next last (wanting_steps g tries who number job shortages w) (took g tries who number job shortages w takes)
  took_last [] last w takes = refl
  took_last (shortage ∷ shortages) last w takes =
      took_last shortages last (wanting_step g tries who number job shortage w) (taken_next shortage w takes)

  abbrev pub took_from : Places → List Shortage → List ℕ
  took_from before shortages = took g tries who number job shortages (first_at before) (replicate (chunk_count g) 0)

  -- so a call that has run has taken it, after its next step too
  pub taken_more : (shortages : List Shortage) (before now : Places) (c : CallOf) (short : Bool) (act : Act) (takes : List ℕ) → HasRun g tries who number job shortages before c now → act_of c ≡ act →
      c.takes ≡ took_from before shortages → takes ≡ take_from act (at_places short (actor_of c.token) c.number act now).1 c.takes →
      takes ≡ took_from before (shortages ++ record { coding = c.coding; step = short } ∷ [])
  taken_more shortages before now c short act takes run acts so_far is =
      is
      ∙ (λ i. take_from (sym acts i) (at_places short (actor_of c.token) c.number (sym acts i) now).1 c.takes)
      ∙ (λ i. take_from (act_of_state (run.its.its_shape i) (run.its.its_tries i) (run.its.its_job i) c.state)
      (at_places short (run.its.its_actor i) (run.its.its_number i) (act_of_state (run.its.its_shape i) (run.its.its_tries i) (run.its.its_job i) c.state) now).1 c.takes)
      ∙ (λ i. take_from (act_of_state g tries job (sym run.comes i).call) (at_places short who number (act_of_state g tries job (sym run.comes i).call) (sym run.comes i).places).1 (so_far i))
      ∙ sym (took_last shortages (record { coding = c.coding; step = short }) (first_at before) (replicate (chunk_count g) 0))

-- a server's answer is that of the one that is there
pub taken_here : (short : Bool) (who : Actor) (number server : ℕ) (step : ServerStep) (s : Server) (p : Places) (takes : List ℕ) → slice_get p.servers server ≡ Some s →
    take_from (Act.AtServer server step) (at_server short step s).1 takes ≡ take_from (Act.AtServer server step) (at_places short who number (Act.AtServer server step) p).1 takes
taken_here short who number server step s p takes there = sym (ap (λ (found : Option Server). take_from (Act.AtServer server step) (at_server_there short server step p found).1 takes) there)

-- A call's step at a server, as the turn that gives it back has it.
use Rattle.std.proofs.Common.{◌≡◌, ℕ, List, [], ◌∷◌, ◌++◌, sym, subst}
use Rattle.store_core.specs.Tokens.{actor_of}
use Rattle.store_core.specs.Server.{Server}
use Rattle.thread_laws.specs.MadeSteps.{MadeStep}
use Rattle.call_steps.specs.declared.need.Need.TheVariants as need
use Rattle.call_steps.specs.CallOf.{CallOf, act_of}
use Rattle.call_steps.specs.Steps.{need_of, stepped_at_server}
use Rattle.turn_lock.specs.History.{Among, GoesOn}
use Rattle.thread_laws.specs.Numbers.{Counts, IsTurnOf}
use Rattle.thread_laws.specs.Entries.{steps_in, next_moment}
use Rattle.thread_laws.specs.AtServer.{StandsAtServer}
use Rattle.thread_laws.specs.CallEntries.{made_by, server_tells, server_entry}
use Rattle.thread_laws.specs.HasMade.{HasMadeAtServer}
use Rattle.thread_laws.proofs.Adding.{moment_above, moment_after}
use Rattle.thread_laws.proofs.PlaceOwn.{one_more, prefix_more}
use Rattle.thread_laws.proofs.CallSteps.{server_step}
use Rattle.thread_laws.proofs.Hearing.{hears_server}
use Rattle.thread_laws.proofs.Answering.{fits_server}
use Rattle.thread_laws.proofs.ServerAdding.{servers_stand_on}

module _ (server : ℕ) (before after : CallOf) (s now : Server) (needed : need_of before ≡ need.Server server) (stepped : (now, after) ≡ stepped_at_server after.step after.due before s)
    (log : List (ℕ × MadeStep)) (number last : ℕ) where
  pub given_stands : (of : Counts) → StandsAtServer of server s log → IsTurnOf of number (actor_of before.token) → StandsAtServer of server now (log ++ server_entry number before after s log last ∷ [])
  given_stands of stands turn =
      let step = server_step before after server s now after.step after.due (next_moment (steps_in log) last) needed stepped in
      subst (λ (x : Server). StandsAtServer of server x (log ++ server_entry number before after s log last ∷ [])) (sym step.leads)
      (servers_stand_on of server s log (server_entry number before after s log last) stands
      (record { here = step.here; answers = step.answers; above = moment_above (steps_in log) last; turn = turn }))

  pub given_made : (numbers : List ℕ) (seen seen_now : List (ℕ × MadeStep)) → Among number numbers → GoesOn numbers seen log → seen_now ≡ log ++ server_entry number before after s log last ∷ []
      → HasMadeAtServer number last seen seen_now before after
  given_made numbers seen seen_now among goes is =
      let step = server_step before after server s now after.step after.due (next_moment (steps_in log) last) needed stepped in
      subst (λ (l : List (ℕ × MadeStep)). HasMadeAtServer number last seen l before after) (sym is)
      (record {
        answer = server_tells after.step (act_of before) s;
        moment = next_moment (steps_in log) last;
        above = moment_after (steps_in log) last;
        goes = prefix_more seen log (server_entry number before after s log last ∷ []) goes.0;
        more = one_more number numbers seen log (made_by before after.step (server_tells after.step (act_of before) s) (next_moment (steps_in log) last)) among goes;
        call = step.call;
        hears = hears_server before after server s now needed stepped;
        fits = fits_server before server s after.step needed;
      })

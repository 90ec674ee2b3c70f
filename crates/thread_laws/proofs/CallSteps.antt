-- A call's step at its place is the step of its entry.
use Rattle.std.proofs.Common.{◌≡◌, ℕ, Bool, true, false, refl, sym, ap, subst, eq-eqb}
use Rattle.store_core.specs.Told.{Told}
use Rattle.store_core.specs.Act.{Act, DirectoryStep, ServerStep}
use Rattle.store_core.specs.ActPlace.{ActPlace}
use Rattle.store_core.specs.Tokens.{actor_of}
use Rattle.store_core.specs.Directory.{Directory}
use Rattle.store_core.specs.Server.{Server}
use Rattle.thread_laws.specs.MadeSteps.{MadeStep, is_at}
use Rattle.thread_laws.specs.AtPlaces.{directory_next, DirectoryAnswers, server_next, ServerAnswers}
use Rattle.call_steps.specs.declared.need.Need.TheVariants as need
use Rattle.call_steps.specs.CallOf.{CallOf, act_of, heard}
use Rattle.call_steps.specs.Steps.{need_of, at_directory_by, stepped_at_directory, at_server_by, stepped_at_server}
use Rattle.call_steps.proofs.Needs.{needs_tell_acts}
use Rattle.thread_laws.specs.Noted.{token_by}
use Rattle.thread_laws.specs.CallEntries.{made_by, server_tells, directory_tells}

-- the step of a call, with an act in place of its own
abbrev made_with : CallOf → Bool → Told → ℕ → Act → MadeStep
made_with c short answer moment act =
    record { actor = actor_of c.token; number = c.number; shortage = record { coding = c.coding; step = short }; act = act; answer = answer; moment = moment }

-- at a server
pub record IsServerStep (server : ℕ) (s now : Server) (c after : CallOf) (short due : Bool) (m : MadeStep) : Type 0 where
  pub here : is_at (ActPlace.Server server) m ≡ true
  pub answers : ServerAnswers m s
  pub leads : now ≡ server_next m s
  pub call : after ≡ heard c m.act m.answer short due

pub server_step : (c after : CallOf) (server : ℕ) (s now : Server) (short due : Bool) (moment : ℕ) → need_of c ≡ need.Server server → (now, after) ≡ stepped_at_server short due c s
    → IsServerStep server s now c after short due (made_by c short (server_tells short (act_of c) s) moment)
server_step c after server s now short due moment needed stepped =
    let told : (step : ServerStep) × (act_of c ≡ Act.AtServer server step) × (c.due ≡ false) = needs_tell_acts.server c server needed in
    subst (λ (act : Act). (now, after) ≡ at_server_by act short due c s → IsServerStep server s now c after short due (made_with c short (server_tells short act s) moment act)) (sym told.1)
    (λ e. record { here = eq-eqb server server refl; answers = refl; leads = ap (λ (p : Server × CallOf). p.0) e; call = ap (λ (p : Server × CallOf). p.1) e }) stepped

-- at the directory
pub record IsDirectoryStep (d now : Directory) (c after : CallOf) (short due : Bool) (m : MadeStep) : Type 0 where
  pub here : is_at ActPlace.Directory m ≡ true
  pub answers : DirectoryAnswers m d
  pub leads : now ≡ directory_next m d
  pub call : after ≡ record (heard c m.act m.answer short due) { token = token_by m.act m c.token }

pub directory_step : (c after : CallOf) (d now : Directory) (short due : Bool) (moment : ℕ) → need_of c ≡ need.Directory → (now, after) ≡ stepped_at_directory short due c d
    → IsDirectoryStep d now c after short due (made_by c short (directory_tells short (actor_of c.token) c.number (act_of c) d) moment)
directory_step c after d now short due moment needed stepped =
    let told : (step : DirectoryStep) × (act_of c ≡ Act.AtDirectory step) × (c.due ≡ false) = needs_tell_acts.directory c needed in
    subst
    (λ (act : Act). (now, after) ≡ at_directory_by act short due c d → IsDirectoryStep d now c after short due (made_with c short (directory_tells short (actor_of c.token) c.number act d) moment act))
    (sym told.1) (λ e. record { here = refl; answers = refl; leads = ap (λ (p : Directory × CallOf). p.0) e; call = ap (λ (p : Directory × CallOf). p.1) e }) stepped

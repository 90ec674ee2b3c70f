-- A call's steps keep the directory in agreement with its ticket, and with the others'.
use Rattle.std.proofs.Common.{◌≡◌, ℕ, ◌<◌, Bool, false, sym, subst}
use Rattle.clay_grid.specs.Shape.{stripe_length}
use Rattle.store_core.specs.Told.{Told}
use Rattle.store_core.specs.Act.{Act, DirectoryStep}
use Rattle.store_core.specs.Directory.{Directory}
use Rattle.store_core.specs.Lookups.{same_actor}
use Rattle.store_core.specs.AtDirectory.{at_directory}
use Rattle.store_core.specs.Sound.{IsSound}
use Rattle.store_core.specs.Agreement.{ActorToken, Agrees}
use Rattle.store_core.specs.Tokens.{actor_of, after_pass_step}
use Rattle.run_laws.specs.AgreementLaws.{GoesOn as TokenGoesOn}
use Rattle.run_laws.proofs.OwnSteps.{agreement_goes_on}
use Rattle.call_steps.specs.TokenAfter.{token_after, MayMake}
use Rattle.call_steps.specs.CallOf.{CallOf, act_of}
use Rattle.call_steps.specs.Steps.{at_directory_by}
use Rattle.call_steps.specs.TokenLaws.{AgreementStays}

-- with the ticket that the call has then
own_goes_on : (token : ActorToken) (number : ℕ) (step : DirectoryStep) (d : Directory) (short : Bool) → 0 < stripe_length d.shape → IsSound d → Agrees d token
    → MayMake d token number step
    → let after : Directory × Told = at_directory short (actor_of token) number step d in
    TokenGoesOn after.0 token (token_after token number step after.1)
own_goes_on (ActorToken.Seated seat) number (DirectoryStep.Look note) d short wide sound agrees may = agreement_goes_on.look short seat number note d wide sound agrees may
own_goes_on (ActorToken.Seated seat) number (DirectoryStep.LookRepair note) d short wide sound agrees may = agreement_goes_on.look_repair short seat number note d agrees may
own_goes_on (ActorToken.Seated seat) number step d short wide sound agrees may = absurd may
own_goes_on (ActorToken.InCall held) number step d short wide sound agrees may =
    subst
    (λ (n : ℕ).
    let after : Directory × Told = at_directory short held.pass.actor n step d in
    TokenGoesOn after.0 (ActorToken.InCall held) (after_pass_step held after.1))
    may.0
    (agreement_goes_on.on_pass short held step d sound agrees may.1)

own_stays : (c : CallOf) (d : Directory) (step : DirectoryStep) (short due : Bool) → 0 < stripe_length d.shape → IsSound d → Agrees d c.token → act_of c ≡ Act.AtDirectory step
    → MayMake d c.token c.number step
    → let stepped : Directory × CallOf = at_directory_by (act_of c) short due c d in
    TokenGoesOn stepped.0 c.token stepped.1.token
own_stays c d step short due wide sound agrees is_act may =
    subst
    (λ (act : Act).
    let stepped : Directory × CallOf = at_directory_by act short due c d in
    TokenGoesOn stepped.0 c.token stepped.1.token)
    (sym is_act)
    (own_goes_on c.token c.number step d short wide sound agrees may)

-- with another actor's
other_stays : (c : CallOf) (d : Directory) (token : ActorToken) (short due : Bool) (act : Act) → same_actor (actor_of c.token) (actor_of token) ≡ false → Agrees d token
    → Agrees (at_directory_by act short due c d).0 token
other_stays c d token short due (Act.AtDirectory step) apart agrees = agreement_goes_on.others short (actor_of c.token) c.number step d token apart agrees
other_stays c d token short due (Act.AtServer server step) apart agrees = agrees
other_stays c d token short due (Act.Finish outcome) apart agrees = agrees

pub agreement_stays : AgreementStays
agreement_stays =
    record {
      own = own_stays;
      others = λ c d token short due apart agrees. other_stays c d token short due (act_of c) apart agrees;
    }

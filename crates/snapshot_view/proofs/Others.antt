-- That steps by tickets leave other actors' tickets in agreement.
use Rattle.std.proofs.Common.{◌≡◌, ℕ, zero, suc, ◌<◌, Bool, false, List, [], ◌∷◌, length, get_or, All, sym, ap, subst, ◌∙◌, arith}
use Rattle.std.proofs.lemmas.List.{length-map, get_or-map}
use Rattle.store_map.specs.declared.actor.Actor.{Actor}
use Rattle.store_core.specs.Act.{DirectoryStep}
use Rattle.store_core.specs.Directory.{Directory}
use Rattle.store_core.specs.Lookups.{same_actor}
use Rattle.store_core.specs.AtDirectory.{at_directory}
use Rattle.store_core.specs.Agreement.{ActorToken, Agrees}
use Rattle.store_core.specs.Tokens.{actor_of}
use Rattle.run_laws.proofs.BesideSteps.{others_agree}
use Rattle.snapshot_view.specs.Tickets.{AreOfSame, OthersAgree}

all_one : (P : Actor → Type 0) (who : Actor) → P who → All P (who ∷ [])
all_one P who holds zero other less = holds
all_one P who holds (suc k) other less = absurd (omega (arith, less))

-- one step
pub one_step : (short : Bool) (token : ActorToken) (number : ℕ) (step : DirectoryStep) (before after : Directory) → after ≡ (at_directory short (actor_of token) number step before).0
    → OthersAgree (token ∷ []) before after
one_step short token number step before after made other none agrees =
    subst (λ d. Agrees d other) (sym made) (others_agree short (actor_of token) number step before other (none 0 (actor_of token) (omega arith)) agrees)

-- one more, by one of the tickets
pub step_more : (tokens : List ActorToken) (at : ℕ) (token : ActorToken) (first now next : Directory) → at < length tokens → token ≡ get_or tokens at token → OthersAgree tokens first now
    → OthersAgree (token ∷ []) now next → OthersAgree tokens first next
step_more tokens at token first now next here is others one other none agrees =
    one other (all_one (λ who. same_actor who (actor_of other) ≡ false) (actor_of token) apart) (others other none agrees)
  where
    apart : same_actor (actor_of token) (actor_of other) ≡ false
    apart =
        subst (λ who. same_actor who (actor_of other) ≡ false) (get_or-map actor_of tokens at token (actor_of token) here ∙ sym (ap actor_of is))
        (none at (actor_of token) (subst (λ n. at < n) (sym (length-map tokens actor_of)) here))

-- the steps of tickets of the same actors, one list after the other
pub steps_after : (tokens now : List ActorToken) (first mid last : Directory) → AreOfSame tokens now → OthersAgree tokens first mid → OthersAgree now mid last → OthersAgree tokens first last
steps_after tokens now first mid last same before after other none agrees =
    after other (subst (All (λ who. same_actor who (actor_of other) ≡ false)) (sym same) none) (before other none agrees)

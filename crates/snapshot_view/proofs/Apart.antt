-- Tickets of different actors, of which one makes a step.
use Rattle.std.proofs.Common.{◌≡◌, ◌⊎◌, ℕ, ◌<◌, false, List, length, map, get_or, slice_set, inl, inr, sym, ap, subst, ◌∙◌}
use Rattle.std.specs.List.{AllPairs}
use Rattle.std.proofs.lemmas.Bool.{cases_eq, cases_order}
use Rattle.std.proofs.lemmas.List.{length-map, length-set, map-set, set-get_or, get_or-map, get_or-set_same, get_or-set_other}
use Rattle.store_map.specs.declared.actor.Actor.{Actor}
use Rattle.store_core.specs.Lookups.{same_actor}
use Rattle.store_core.specs.Directory.{Directory}
use Rattle.store_core.specs.Agreement.{ActorToken, Agrees}
use Rattle.store_core.specs.Tokens.{actor_of}
use Rattle.store_core.specs.Note.{Note}
use Rattle.store_core.specs.Act.{DirectoryStep}
use Rattle.store_core.specs.AtDirectory.{at_directory}
use Rattle.run_laws.proofs.Beside.{other_way}
use Rattle.run_laws.proofs.BesideSteps.{others_agree}
use Rattle.snapshot_view.specs.Tickets.{AreApart, AgreesWithAll}

-- the actors at two places differ
apart_at : (actors : List Actor) (i j : ℕ) (x : Actor) → AllPairs (λ p q. same_actor p q ≡ false) actors → i < length actors → j < length actors → (i ≡ j → ⊥)
    → same_actor (get_or actors i x) (get_or actors j x) ≡ false
apart_at actors i j x apart in_i in_j other = by (cases_order i j)
  where
    by : (i ≡ j) ⊎ ((i < j) ⊎ (j < i)) → same_actor (get_or actors i x) (get_or actors j x) ≡ false
    by (inl e) = absurd (other e)
    by (inr (inl less)) = apart i j x less in_j
    by (inr (inr more)) = other_way (get_or actors j x) (get_or actors i x) (apart j i x more in_i)

module _ (before after : Directory) (tokens : List ActorToken) (at : ℕ) (token next : ActorToken) (inside : at < length tokens) (is : token ≡ get_or tokens at token)
    (same : actor_of next ≡ actor_of token) where
  -- the actors are the same
  pub actors_stay : map actor_of (slice_set tokens at next) ≡ map actor_of tokens
  actors_stay =
      map-set actor_of tokens at next
      ∙ ap (slice_set (map actor_of tokens) at) (same ∙ ap actor_of is ∙ sym (get_or-map actor_of tokens at token (actor_of token) inside))
      ∙ set-get_or (map actor_of tokens) at (actor_of token)

  -- another one's actor
  differs : AreApart tokens → (k : ℕ) (other : ActorToken) → k < length tokens → (k ≡ at → ⊥) → same_actor (actor_of token) (actor_of (get_or tokens k other)) ≡ false
  differs apart k other less away =
      sym (λ i. same_actor (mine i) (get_or-map actor_of tokens k other (actor_of token) less i))
      ∙ apart_at (map actor_of tokens) at k (actor_of token) apart (subst (λ n. at < n) (sym (length-map tokens actor_of)) inside) (subst (λ n. k < n) (sym (length-map tokens actor_of)) less) (λ e. away (sym e))
    where
      mine : get_or (map actor_of tokens) at (actor_of token) ≡ actor_of token
      mine = get_or-map actor_of tokens at token (actor_of token) inside ∙ sym (ap actor_of is)

  -- where the step leaves the agreement with others' tickets, the directory agrees with all
  pub all_agree : ((other : ActorToken) → same_actor (actor_of token) (actor_of other) ≡ false → Agrees before other → Agrees after other) → AgreesWithAll before tokens → Agrees after next
      → AgreesWithAll after (slice_set tokens at next)
  all_agree still agrees now = record {
    each = λ k other less. by k other (subst (λ n. k < n) (length-set tokens at next) less) (cases_eq k at);
    apart = subst (λ actors. AllPairs (λ p q. same_actor p q ≡ false) actors) (sym actors_stay) agrees.apart;
  }
    where
      by : (k : ℕ) (other : ActorToken) → k < length tokens → (k ≡ at) ⊎ (k ≡ at → ⊥) → Agrees after (get_or (slice_set tokens at next) k other)
      by k other less (inl e) = subst (Agrees after) (sym (ap (λ n. get_or (slice_set tokens at next) n other) e ∙ get_or-set_same tokens at next other inside)) now
      by k other less (inr away) =
          subst (Agrees after) (sym (get_or-set_other tokens at k next other away)) (still (get_or tokens k other) (differs agrees.apart k other less away) (agrees.each k other less))

-- a look leaves the agreement with others' tickets
pub others_by : (number : ℕ) (token : ActorToken) (note : Note) (before after : Directory) (other : ActorToken) → after ≡ (at_directory false (actor_of token) number (DirectoryStep.Look note) before).0
    → same_actor (actor_of token) (actor_of other) ≡ false → Agrees before other → Agrees after other
others_by number token note before after other made apart agrees =
    subst (λ d. Agrees d other) (sym made) (others_agree false (actor_of token) number (DirectoryStep.Look note) before other apart agrees)

-- so does an end
pub others_ended : (number : ℕ) (token : ActorToken) (before after : Directory) (other : ActorToken) → after ≡ (at_directory false (actor_of token) number DirectoryStep.End before).0
    → same_actor (actor_of token) (actor_of other) ≡ false → Agrees before other → Agrees after other
others_ended number token before after other made apart agrees =
    subst (λ d. Agrees d other) (sym made) (others_agree false (actor_of token) number DirectoryStep.End before other apart agrees)

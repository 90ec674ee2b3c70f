-- The drain of a world.
use Rattle.std.proofs.Common.{◌≡◌, ℕ, ◌+◌, ◌-◌, ◌^◌, ◌<◌, ◌≤◌, Bool, true, false, List, [], ◌∷◌, ◌++◌, refl, sym, subst, ◌∙◌, arith}
use Rattle.store_map.specs.declared.actor.Token.TheVariants as token
use Rattle.store_map.specs.declared.script.Script.{Script}
use Rattle.store_core.specs.Schedule.{is_unfinished}
use Rattle.call_steps.specs.declared.step_made.Step.{Step}
use Rattle.world_laws.specs.Known.{core_of}
use Rattle.world_laws.specs.Drains.{GoesByRounds}
use Rattle.world_laws.specs.DrainTells.{GoesTellingByRounds}
use Rattle.world_laws.specs.RoundTells.{RoundTells}
use Rattle.world_laws.specs.Traced.{GoesTelling}
use Rattle.world_laws.proofs.Drains.{drains_of_valid_scripts_go}
use Rattle.world_laws.proofs.TraceDrains.{drains_of_valid_scripts_tell}
use Rattle.store_world.specs.Stored.{StoredWorld, world_of}
use Rattle.store_world.specs.Kept.{IsWorld}
use Rattle.store_world.specs.Watched.{Watched}
use Rattle.store_world.proofs.Watching.{watched_none, watched_as, watched_on}

-- so many rounds lead from the one world to the other, and the watch was told their steps
pub record Rounds (Heard : List Step → Type 0) (script : Script) (count : ℕ) (before after : StoredWorld) : Type 0 where
  pub go : GoesByRounds script count (world_of before) (world_of after)
  pub tell : Watched Heard (GoesTellingByRounds script count (world_of before) (world_of after))

module _ {S : Type 0} (heard : S → S → List Step → Type 0) (s : StoredWorld) (is : IsWorld s) where
  pub drain_begins : (a : S) → heard a a [] → Rounds (heard a a) s.script 0 s s
  drain_begins a nothing =
      record {
        go = (drains_of_valid_scripts_go s.script is.geometry is.valid).begins (world_of s);
        tell = watched_none (heard a a) (GoesTellingByRounds s.script 0 (world_of s) (world_of s)) nothing ((drains_of_valid_scripts_tell s.script is.geometry is.valid).begins (world_of s));
      }

  module _ (count : ℕ) (after : StoredWorld) (same : after.script ≡ s.script) (a b : S) (rounds : Rounds (heard a b) s.script count s after) where
    pub drain_goes_on :
        ((before middle after : S) (steps more : List Step) → heard before middle steps → heard middle after more → heard before after (steps ++ more))
        → (next : StoredWorld) (c : S) → Watched (heard b c) (RoundTells after.script (world_of after) (world_of next)) → Rounds (heard a c) s.script (count + 1) s next
    drain_goes_on on next c round =
        let one : Watched (heard b c) (RoundTells s.script (world_of after) (world_of next)) =
        subst (λ (script : Script). Watched (heard b c) (RoundTells script (world_of after) (world_of next))) same round in
        record {
          go = (drains_of_valid_scripts_go s.script is.geometry is.valid).next count (world_of s) (world_of after) (world_of next) rounds.go (record { shortages = one.tells.shortages; leads = one.tells.leads });
          tell =
              watched_on heard on (GoesTellingByRounds s.script count (world_of s) (world_of after)) (RoundTells s.script (world_of after) (world_of next))
              (GoesTellingByRounds s.script (count + 1) (world_of s) (world_of next)) a b c
              ((drains_of_valid_scripts_tell s.script is.geometry is.valid).next count (world_of s) (world_of after) (world_of next)) rounds.tell one;
        }

    ended : is_unfinished s.script (core_of s.script (world_of after)) ≡ false → Watched (heard a b) (GoesTelling s.script (token.Drain ∷ []) (world_of s) (world_of after))
    ended over =
        watched_as (heard a b) (GoesTellingByRounds s.script count (world_of s) (world_of after)) (GoesTelling s.script (token.Drain ∷ []) (world_of s) (world_of after))
        (λ made by_rounds. (drains_of_valid_scripts_tell s.script is.geometry is.valid).ends count (world_of s) (world_of after) made by_rounds over) rounds.tell

    pub drain_ends : (busy : Bool) → busy ≡ is_unfinished after.script (core_of after.script (world_of after)) → busy ≡ false
        → Watched (heard a b) (GoesTelling s.script (token.Drain ∷ []) (world_of s) (world_of after))
    drain_ends busy tells over = ended (subst (λ (script : Script). is_unfinished script (core_of script (world_of after)) ≡ false) same (sym tells ∙ over))

    -- a count of 64 bits doesn't run out
    pub drain_fits : 2 ^ 64 - 1 ≤ count → Watched (heard a b) (GoesTelling s.script (token.Drain ∷ []) (world_of s) (world_of after))
    drain_fits full = by (is_unfinished s.script (core_of s.script (world_of after))) refl
      where
        by : (busy : Bool) → is_unfinished s.script (core_of s.script (world_of after)) ≡ busy → Watched (heard a b) (GoesTelling s.script (token.Drain ∷ []) (world_of s) (world_of after))
        by true e =
            let few : count < 2 ^ 64 - 1 = (drains_of_valid_scripts_go s.script is.geometry is.valid).fits count (world_of s) (world_of after) is.reached rounds.go e in
            absurd (omega (arith, few, full))
        by false e = ended e

-- Drains of a world that tokens reach.
-- Each turn in a drain is a token's step, so "some tokens reach the world" holds at every call inside; the drain's own token is composed
-- outside (GoesByRounds). A stand-in crate, whose struct's Model has the invariant ⊥, let the world be proved word for word over
-- contracts of a crate that was still being written.
use Rattle.std.proofs.Common.{◌≡◌, ℕ, ◌+◌, ◌-◌, ◌^◌, ◌<◌, true, false, List, [], ◌∷◌, ◌++◌, sym, subst, append_assoc, append-nil}
use Rattle.clay_grid.specs.Limits.{IsGeometry}
use Rattle.store_map.specs.Naming.{IsValid}
use Rattle.store_map.specs.declared.actor.Token.TheVariants as token
use Rattle.store_map.specs.declared.script.Script.{Script}
use Rattle.store_core.specs.Schedule.{is_unfinished, round}
use Rattle.store_core.specs.Step.{Shortage}
use Rattle.world_laws.specs.World.{WorldOf}
use Rattle.world_laws.specs.Known.{core_of}
use Rattle.world_laws.specs.RunLaws.{ReachesInDrain}
use Rattle.world_laws.proofs.Runs.{drains_reach}
use Rattle.world_laws.specs.Goes.{IsReached, Leads, GoesBy}
use Rattle.world_laws.specs.Drains.{IsReachedInDrain, GoesByRounds, DrainsGo, DrainsOfValidScriptsGo}

module _ (script : Script) (geometry : IsGeometry script.geometry) (valid : IsValid script) where
  begins : (w : WorldOf) → GoesByRounds script 0 w w
  begins w tokens shortages reaches =
      record {
        more = [];
        reaches =
            subst (λ (l : List Shortage). ReachesInDrain script tokens 0 l w) (sym (append-nil shortages))
            ((drains_reach script geometry valid tokens).begins w shortages reaches);
      }

  next : (count : ℕ) (w middle after : WorldOf) → GoesByRounds script count w middle → Leads script (round script) middle after → GoesByRounds script (count + 1) w after
  next count w middle after goes leads tokens shortages reaches =
      let now : IsReachedInDrain script tokens count shortages middle = goes tokens shortages reaches in
      record {
        more = now.more ++ leads.shortages;
        reaches =
            subst (λ (l : List Shortage). ReachesInDrain script tokens (count + 1) l after) (append_assoc shortages now.more leads.shortages)
            ((drains_reach script geometry valid tokens).next count middle after (shortages ++ now.more) leads.shortages now.reaches leads.leads);
      }

  fits : (count : ℕ) (w after : WorldOf) → IsReached script w → GoesByRounds script count w after → is_unfinished script (core_of script after) ≡ true → count < 2 ^ 64 - 1
  fits count w after reached goes busy =
      let now : IsReachedInDrain script reached.tokens count reached.by.shortages after = goes reached.tokens reached.by.shortages reached.by.reaches in
      (drains_reach script geometry valid reached.tokens).fits count after (reached.by.shortages ++ now.more) now.reaches busy

  ends : (count : ℕ) (w after : WorldOf) → GoesByRounds script count w after → is_unfinished script (core_of script after) ≡ false → GoesBy script (token.Drain ∷ []) w after
  ends count w after goes over tokens shortages reaches =
      let now : IsReachedInDrain script tokens count shortages after = goes tokens shortages reaches in
      record { more = now.more; reaches = (drains_reach script geometry valid tokens).ends count after (shortages ++ now.more) now.reaches over }

  pub drains_go : DrainsGo script
  drains_go = record { begins = begins; next = next; fits = fits; ends = ends }

pub drains_of_valid_scripts_go : DrainsOfValidScriptsGo
drains_of_valid_scripts_go script geometry valid = drains_go script geometry valid

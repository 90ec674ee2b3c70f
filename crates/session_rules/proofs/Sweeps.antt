-- The sweeper and losses leave the map and its bytes.
use Rattle.std.proofs.Common.{◌≡◌, ◌<◌, ℕ, zero, suc, Bool, true, false, List, Option, None, Some, slice_get, refl, nat_lt, if◌then◌else◌, ◌∙◌, ap}
use Rattle.clay_grid.specs.Shape.{Shape, chunk_count, stripe_length}
use Rattle.store_map.specs.PlainMap.{Objects}
use Rattle.store_map.specs.declared.actor.Actor.{Actor}
use Rattle.store_map.specs.declared.actor.Actor.TheVariants as actor
use Rattle.store_core.specs.Act.{Act, DirectoryStep, ServerStep}
use Rattle.store_core.specs.AtDirectory.{take_garbage}
use Rattle.store_core.specs.Calls.{Calls}
use Rattle.store_core.specs.Directory.{Directory}
use Rattle.store_core.specs.Lookups.{first_garbage}
use Rattle.store_core.specs.Server.{Server}
use Rattle.store_core.specs.Step.{Places, at_places, at_server_there}
use Rattle.store_core.specs.Sweep.{Sweeper, next_sweep}
use Rattle.run_laws.specs.MapAfter.{map_by}
use Rattle.session_rules.specs.State.{State as Session}
use Rattle.session_rules.specs.Rebuilds.{lose}
use Rattle.session_rules.specs.Alone.{Sweeping, sweep, sweeps}
use Rattle.session_rules.specs.Seen.{IsSeenAs}
use Rattle.session_rules.specs.Maps.{IsMapOf}
use Rattle.session_rules.specs.Going.{SweepsLeaveMaps}
use Rattle.session_rules.proofs.Whole.{Whole, whole_step, whole_of, same_of, map_of}

-- a step at a server leaves the directory
pub there_same : (short : Bool) (server : ℕ) (step : ServerStep) (p : Places) (found : Option Server) → (at_server_there short server step p found).0.directory ≡ p.directory
there_same short server step p None = refl
there_same short server step p (Some one) = refl

module _ (calls : Calls) (g : Shape) (max : ℕ) (some : 0 < stripe_length g) (objects : Objects) where
  -- the directory is whole, and its points lead to this map
  abbrev Keeps : Directory → Type 0
  Keeps d = Whole calls g max d × (map_by calls max d.points ≡ objects)

  taken_points : (d : Directory) (found : Option ℕ) → (take_garbage found d).0.points ≡ d.points
  taken_points d None = refl
  taken_points d (Some version) = refl

  act_keeps : (p : Places) (w : Sweeper) → Keeps p.directory → Keeps (at_places false actor.Sweeper 0 (next_sweep (chunk_count g) w) p).0.directory
  act_keeps p Sweeper.Idle ok = (
    whole_step calls g max some false actor.Sweeper 0 DirectoryStep.NextGarbage p.directory ok.0 tt tt,
    ap (map_by calls max) (taken_points p.directory (first_garbage p.directory)) ∙ ok.1,
  )
  act_keeps p (Sweeper.Sweeping version server) ok = by (nat_lt server (chunk_count g))
    where
      by : (b : Bool) → Keeps (at_places false actor.Sweeper 0 (if b then Act.AtServer server (ServerStep.Discard version) else Act.AtDirectory (DirectoryStep.Swept version)) p).0.directory
      by true = by_server (slice_get p.servers server)
        where
          by_server : (found : Option Server) → Keeps (at_server_there false server (ServerStep.Discard version) p found).0.directory
          by_server None = ok
          by_server (Some one) = ok
      by false = (whole_step calls g max some false actor.Sweeper 0 (DirectoryStep.Swept version) p.directory ok.0 tt tt, ok.1)

  all_keep : (made : ℕ) (w : Sweeping) → Keeps w.places.directory → Keeps (sweeps g made w).places.directory
  all_keep zero w ok = ok
  all_keep (suc made) w ok = all_keep made (sweep g w) (act_keeps w.places w.sweeper ok)

pub sweeps_leave_maps : SweepsLeaveMaps
sweeps_leave_maps = record { swept = swept; lost = lost }
  where
    swept : (calls : Calls) (g : Shape) (max : ℕ) (stands : List ℕ) (s : Session) (made : ℕ) (w : Sweeping) →
        0 < stripe_length g → IsSeenAs g max stands w.places s → IsMapOf calls w.places s → IsMapOf calls (sweeps g made w).places s
    swept calls g max stands s made w some h m =
        let ok : Keeps calls g max some s.objects (sweeps g made w).places.directory =
        all_keep calls g max some s.objects made w (whole_of calls g max stands w.places s h m, same_of calls g max stands w.places s h m) in
        map_of calls g max (sweeps g made w).places s ok.0 ok.1

    lost : (calls : Calls) (p : Places) (s : Session) (who : Actor) (number server : ℕ) →
        IsMapOf calls p s → IsMapOf calls (at_places false who number (Act.AtServer server ServerStep.Wipe) p).0 (lose server s)
    lost calls p s who number server m = by (slice_get p.servers server)
      where
        by : (found : Option Server) → IsMapOf calls (at_server_there false server ServerStep.Wipe p found).0 (lose server s)
        by None = record { objects = m.objects; bytes = m.bytes; drawn = m.drawn }
        by (Some one) = record { objects = m.objects; bytes = m.bytes; drawn = m.drawn }

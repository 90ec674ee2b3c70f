-- A directory that is sound and has the map's bytes stays so by each step that may be made.
use Rattle.std.proofs.Common.{◌≡◌, ◌<◌, ℕ, Bool, true, false, [], List, ◌++◌, ◌∷◌, refl, sym, ap, subst, ◌∙◌}
use Rattle.std.proofs.lemmas.List.Sums.{fold-append}
use Rattle.clay_grid.specs.Shape.{Shape, stripe_length}
use Rattle.store_map.specs.PlainMap.{Objects}
use Rattle.store_map.specs.declared.actor.Actor.{Actor}
use Rattle.store_core.specs.Act.{DirectoryStep}
use Rattle.store_core.specs.AtDirectory.{at_directory}
use Rattle.store_core.specs.Calls.{Calls, IsOfCall}
use Rattle.store_core.specs.Conditions.{MayStep}
use Rattle.store_core.specs.Directory.{Point, Directory}
use Rattle.store_core.specs.Note.{Kind, Note}
use Rattle.store_core.specs.History.{applied}
use Rattle.store_core.specs.Sound.{IsSound}
use Rattle.store_core.specs.Step.{Places}
use Rattle.run_laws.proofs.SoundSteps.{steps_keep_sound}
use Rattle.run_laws.proofs.Passes.{passes_move, passes_stay}
use Rattle.run_laws.proofs.Beside.{self_actor}
use Rattle.run_laws.specs.MapAfter.{map_by}
use Rattle.run_laws.specs.Contents.{HasBytes}
use Rattle.run_laws.specs.MoreCalls.{AreDrawnBy}
use Rattle.run_laws.proofs.ContentSteps.{steps_keep_bytes}
use Rattle.run_laws.proofs.MoreCalls.{steps_keep_drawn}
use Rattle.run_laws.proofs.VersionsMove.{versions_move}
use Rattle.session_rules.specs.State.{State as Session}
use Rattle.session_rules.specs.Seen.{IsSeenAs}
use Rattle.session_rules.specs.Maps.{IsMapOf}

pub record Whole (calls : Calls) (g : Shape) (max : ℕ) (d : Directory) : Type 0 where
  pub shape : d.shape ≡ g
  pub most : d.max ≡ max
  pub sound : IsSound d
  pub bytes : HasBytes calls d
  pub drawn : AreDrawnBy calls d

-- no step changes the most bytes that an object may have
max_stays : (short : Bool) (who : Actor) (number : ℕ) (step : DirectoryStep) (d : Directory) → (at_directory short who number step d).0.max ≡ d.max
max_stays short who number step d = by step short
  where
    any : Note
    any = record { kind = Kind.Get; name = []; offset = 0; length = 0 }

    by : (step : DirectoryStep) (short : Bool) → (at_directory short who number step d).0.max ≡ d.max
    by (DirectoryStep.Look note) short = (passes_move short who number note (DirectoryStep.Look note) d (self_actor who) refl).max
    by (DirectoryStep.LookRepair note) short = (passes_move short who number note (DirectoryStep.LookRepair note) d (self_actor who) refl).max
    by DirectoryStep.Draw short = (passes_move short who number any DirectoryStep.Draw d (self_actor who) tt).max
    by (DirectoryStep.Commit placed) short = (passes_move short who number any (DirectoryStep.Commit placed) d (self_actor who) tt).max
    by DirectoryStep.End short = (passes_move short who number any DirectoryStep.End d (self_actor who) tt).max
    by DirectoryStep.Confirm short = (passes_move short who number any DirectoryStep.Confirm d (self_actor who) tt).max
    by (DirectoryStep.Repaired server epoch) short = (passes_move short who number any (DirectoryStep.Repaired server epoch) d (self_actor who) tt).max
    by DirectoryStep.NextGarbage true = (passes_stay who number DirectoryStep.NextGarbage d tt).max
    by DirectoryStep.NextGarbage false = (passes_stay who number DirectoryStep.NextGarbage d tt).max
    by (DirectoryStep.Swept version) true = refl
    by (DirectoryStep.Swept version) false = refl
    by (DirectoryStep.Reap other) true = (passes_stay who number (DirectoryStep.Reap other) d tt).max
    by (DirectoryStep.Reap other) false = (passes_stay who number (DirectoryStep.Reap other) d tt).max

pub whole_step : (calls : Calls) (g : Shape) (max : ℕ) → 0 < stripe_length g → (short : Bool) (who : Actor) (number : ℕ) (step : DirectoryStep) (d : Directory) → Whole calls g max d →
    MayStep d who number step → IsOfCall calls who number step → Whole calls g max (at_directory short who number step d).0
whole_step calls g max some short who number step d w may its = record {
  shape = (versions_move short who number step d).shape ∙ w.shape;
  most = max_stays short who number step d ∙ w.most;
  sound = steps_keep_sound.step short who number step d there w.sound may;
  bytes = (steps_keep_bytes calls).step short who number step d there w.sound w.bytes may its;
  drawn = (steps_keep_drawn calls).step short who number step d w.bytes w.drawn may;
}
  where
    there : 0 < stripe_length d.shape
    there = subst (λ shape. 0 < stripe_length shape) (sym w.shape) some

-- the map after one more point
pub one_point : (calls : Calls) (max : ℕ) (points : List Point) (point : Point) → map_by calls max (points ++ point ∷ []) ≡ (applied max (map_by calls max points) point.event (calls point.actor point.number)).0
one_point calls max points point = fold-append (λ (objects : Objects) (point : Point). (applied max objects point.event (calls point.actor point.number)).0) [] points (point ∷ [])

module _ (calls : Calls) (g : Shape) (max : ℕ) where
  -- from a session's state on
  pub whole_of : (stands : List ℕ) (p : Places) (s : Session) → IsSeenAs g max stands p s → IsMapOf calls p s → Whole calls g max p.directory
  whole_of stands p s h m = record { shape = h.shape; most = h.most; sound = h.sound; bytes = m.bytes; drawn = m.drawn }

  pub same_of : (stands : List ℕ) (p : Places) (s : Session) → IsSeenAs g max stands p s → IsMapOf calls p s → map_by calls max p.directory.points ≡ s.objects
  same_of stands p s h m = ap (λ max. map_by calls max p.directory.points) (sym h.most) ∙ sym m.objects

  -- and back to one
  pub map_of : (p : Places) (s : Session) → Whole calls g max p.directory → map_by calls max p.directory.points ≡ s.objects → IsMapOf calls p s
  map_of p s w same = record { objects = sym (ap (λ max. map_by calls max p.directory.points) w.most ∙ same); bytes = w.bytes; drawn = w.drawn }

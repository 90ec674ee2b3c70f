-- What an actor's steps at the directory leave of its own points and of its pass.
use Rattle.std.proofs.Common.{◌≡◌, ℕ, ◌+◌, ◌<◌, Bool, true, false, cond, not, nat_lt, List, [], ◌∷◌, ◌++◌, length, map, filter, find, Option, None, Some, unwrap_or, IfSome, IsTrue, refl, sym, ap, subst, ◌∙◌, arith, if◌then◌else◌}
use Rattle.std.specs.List.{list_all, range_with_len}
use Rattle.std.specs.Bool.{⊤}
use Rattle.std.proofs.lemmas.List.Elements.{All-push}
use Rattle.store_map.specs.declared.actor.Actor.{Actor}
use Rattle.store_map.specs.declared.reply.Reply.{Reply}
use Rattle.store_map.specs.declared.reply.Reply.TheVariants as reply
use Rattle.store_map.specs.declared.placement.Placement.{Placement}
use Rattle.store_core.specs.Told.{Seen, Told}
use Rattle.store_core.specs.Note.{Note, Kind}
use Rattle.store_core.specs.Act.{DirectoryStep, takes_memory}
use Rattle.store_core.specs.Agreement.{AreBelow}
use Rattle.store_core.specs.Directory.{Object, Pass, Event, Point, Directory}
use Rattle.store_core.specs.Lookups.{same_actor, find_object, pass_of, last_change, is_current}
use Rattle.store_core.specs.Look.{begin_pass, append_point, seen_at}
use Rattle.store_core.specs.Looks.{accept, look_by, look_repair_by}
use Rattle.store_core.specs.PassSteps.{close_pass, give_up_drawn, draw, end_pass, confirm, repaired, touched}
use Rattle.store_core.specs.Commit.{is_overtaken, commit, commit_object}
use Rattle.store_core.specs.AtDirectory.{on_pass, unless_reaped, made_at_directory, unless_short, at_directory}
use Rattle.run_laws.proofs.Passes.{closed_own, pass_is}
use Rattle.run_laws.proofs.SoundLook.{new_pass}
use Rattle.run_laws.proofs.Beside.{self_actor, changed_own}

-- a step of a call that has a pass
abbrev pub IsOnPass : DirectoryStep → Type 0
IsOnPass DirectoryStep.Draw = ⊤
IsOnPass (DirectoryStep.Commit placed) = ⊤
IsOnPass DirectoryStep.End = ⊤
IsOnPass DirectoryStep.Confirm = ⊤
IsOnPass (DirectoryStep.Repaired server epoch) = ⊤
IsOnPass step = ⊥

module _ (who : Actor) (number : ℕ) where
  -- a pass of this call, which isn't reaped
  abbrev pub IsAlive : Pass → Type 0
  IsAlive pass = (pass.number ≡ number) × (pass.reaped ≡ None)

  -- the actor's points are of this call or of earlier ones, and its pass is of this call
  pub record Own (d : Directory) : Type 0 where
    pub points : AreBelow who (number + 1) d.points
    pub pass : IfSome (pass_of who d) IsAlive

  -- its pass, where it has one
  pub alive : (d : Directory) → Own d → (pass : Pass) → pass_of who d ≡ Some pass → IsAlive pass
  alive d own pass is = subst (λ (found : Option Pass). IfSome found IsAlive) is own.pass

  -- an actor whose pass was closed has none
  pub closed : (d after : Directory) (pass : Pass) → pass_of who d ≡ Some pass → after.passes ≡ filter (λ other. not (same_actor pass.actor other.actor)) d.passes → pass_of who after ≡ None
  closed d after pass is passes =
      ap (find (λ (other : Pass). same_actor who other.actor)) passes
      ∙ subst (λ actor. find (λ (other : Pass). same_actor who other.actor) (filter (λ (other : Pass). not (same_actor actor other.actor)) d.passes) ≡ None) (pass_is who d pass is) (closed_own who d.passes)

  module _ (d : Directory) (own : Own d) where
    -- with a point of this call more
    below : (point : Point) → point.number ≡ number → AreBelow who (number + 1) (d.points ++ point ∷ [])
    below point same = All-push (λ (p : Point). IsTrue (same_actor p.actor who) → p.number < number + 1) d.points point own.points (λ _. omega (arith, same))

    answered : (after : Directory) (point : Point) → point.number ≡ number → after.passes ≡ d.passes → after.points ≡ d.points ++ point ∷ [] → Own after
    answered after point same passes points = record {
      points = subst (AreBelow who (number + 1)) (sym points) (below point same);
      pass = subst (λ (passes : List Pass). IfSome (find (λ (other : Pass). same_actor who other.actor) passes) IsAlive) (sym passes) own.pass;
    }

    -- its pass begins
    begun : (note : Note) (seen : List Seen) (base : Option ℕ) (e : Directory) → AreBelow who (number + 1) e.points → Own (begin_pass who number note seen base e)
    begun note seen base e points = record {
      points = points;
      pass = subst (λ b. IfSome (cond {A = Option Pass} b (Some (new_pass who number note seen base)) (pass_of who e)) IsAlive) (sym (self_actor who)) (refl, refl);
    }

    -- its pass is gone
    gone : (after : Directory) (pass : Pass) → pass_of who d ≡ Some pass → after.passes ≡ filter (λ other. not (same_actor pass.actor other.actor)) d.passes → AreBelow who (number + 1) after.points → Own after
    gone after pass is passes points = record { points = points; pass = subst (λ (found : Option Pass). IfSome found IsAlive) (sym (closed d after pass is passes)) tt }

    -- ---- looks
    accepted : (note : Note) (kind : Kind) (object : Object) → Own (accept who number note d kind object).0
    accepted note Kind.Put object = begun note [] None d own.points
    accepted note Kind.Write object = begun note _ (last_change note.name d.points) d own.points
    accepted note Kind.Stat object = answered _ (record { actor = who; number = number; note = note; event = Event.Answer (reply.Length object.length) }) refl refl refl
    accepted note Kind.Delete object = answered _ (record { actor = who; number = number; note = note; event = Event.Answer reply.Done }) refl refl refl
    accepted note Kind.Get object = begun note _ None (append_point who number note Event.Pinned d) (below (record { actor = who; number = number; note = note; event = Event.Pinned }) refl)
    accepted note Kind.ReadAt object = begun note _ None (append_point who number note Event.Pinned d) (below (record { actor = who; number = number; note = note; event = Event.Pinned }) refl)
    accepted note Kind.Rebuild object = begun note _ None (append_point who number note Event.Pinned d) (below (record { actor = who; number = number; note = note; event = Event.Pinned }) refl)

    pub looked : (note : Note) (found : Option Object) (refused : Option Reply) → Own (look_by who number note d found refused).0
    looked note found (Some given) = answered _ (record { actor = who; number = number; note = note; event = Event.Answer given }) refl refl refl
    looked note found None = accepted note note.kind _

    pub looked_repair : (note : Note) (found : Option Object) → Own (look_repair_by who number note d found).0
    looked_repair note None = own
    looked_repair note (Some object) = by (nat_lt note.offset (length object.versions))
      where
        by : (b : Bool) → Own (let r : Directory × Told = if b then (begin_pass who number note (seen_at d object note.offset ∷ []) None d, Told.PinnedStripe (seen_at d object note.offset)) else (d, Told.NoSuch) in r).0
        by true = begun note (seen_at d object note.offset ∷ []) None d own.points
        by false = own

    -- ---- steps on its pass
    abbrev Leaves : (Pass → Directory → Directory × Told) → Type 0
    Leaves step = (pass : Pass) → pass_of who d ≡ Some pass → Own (step pass d).0

    on : (step : Pass → Directory → Directory × Told) → Leaves step → Own (on_pass step (pass_of who d) d).0
    on step leaves = by (pass_of who d) refl
      where
        unless : (pass : Pass) (reaped : Option ℕ) → pass_of who d ≡ Some pass → Own (unless_reaped step pass reaped d).0
        unless pass None is = leaves pass is
        unless pass (Some point) is = gone (close_pass pass d) pass is refl own.points

        by : (found : Option Pass) → pass_of who d ≡ found → Own (on_pass step found d).0
        by None is = own
        by (Some pass) is = unless pass pass.reaped is

    draws : Leaves draw
    draws pass is = record {
      points = own.points;
      pass =
          subst (λ (found : Option Pass). IfSome found IsAlive)
          (sym (subst (λ actor. find (λ (other : Pass). same_actor who other.actor)
          (map (λ (other : Pass). if same_actor actor other.actor then record other { drawn = drawn } else other) d.passes) ≡ Some (record pass { drawn = drawn }))
          (pass_is who d pass is) (changed_own who (λ (other : Pass). record other { drawn = drawn }) (λ _. refl) d.passes pass is))) (alive d own pass is);
    }
      where
        drawn : List ℕ
        drawn = range_with_len (length d.versions) (length (touched d pass.note))

    confirms : Leaves confirm
    confirms pass is = by (list_all (λ pin. is_current d pin.version) pass.pinned)
      where
        by : (b : Bool) → Own (let r : Directory × Told = if b then (d, Told.Current) else (close_pass pass d, Told.Superseded (unwrap_or (last_change pass.note.name d.points) 0)) in r).0
        by true = own
        by false = gone (close_pass pass d) pass is refl own.points

    commits : (placed : List (List Placement)) → Leaves (commit placed)
    commits placed pass is = by (is_overtaken pass.note.kind pass.base (last_change pass.note.name d.points))
      where
        by : (b : Bool) →
            Own (let r : Directory × Told = if b then (close_pass pass (give_up_drawn pass d), Told.Changed (unwrap_or pass.base 0) (unwrap_or (last_change pass.note.name d.points) 0))
            else commit_object placed pass (unwrap_or (find_object pass.note.name d.objects) (record { name = pass.note.name; length = 0; versions = [] })) d in r).0
        by true = gone (close_pass pass (give_up_drawn pass d)) pass is refl own.points
        by false =
            gone (commit_object placed pass (unwrap_or (find_object pass.note.name d.objects) (record { name = pass.note.name; length = 0; versions = [] })) d).0 pass is refl
            (below (record { actor = pass.actor; number = pass.number; note = pass.note; event = Event.Done }) (alive d own pass is).0)

    -- ---- each step of a call on its pass
    made : (step : DirectoryStep) → IsOnPass step → Own (made_at_directory who number step d).0
    made DirectoryStep.Draw its = on draw draws
    made (DirectoryStep.Commit placed) its = on (commit placed) (commits placed)
    made DirectoryStep.End its = on end_pass (λ pass is. gone (end_pass pass d).0 pass is refl own.points)
    made DirectoryStep.Confirm its = on confirm confirms
    made (DirectoryStep.Repaired server epoch) its = on (repaired server epoch) (λ pass is. gone (repaired server epoch pass d).0 pass is refl own.points)
    made (DirectoryStep.Look note) its = absurd its
    made (DirectoryStep.LookRepair note) its = absurd its
    made DirectoryStep.NextGarbage its = absurd its
    made (DirectoryStep.Swept version) its = absurd its
    made (DirectoryStep.Reap other) its = absurd its

    pub own_step : (short : Bool) (step : DirectoryStep) → IsOnPass step → Own (at_directory short who number step d).0
    own_step short step its = by short (takes_memory step)
      where
        by : (short takes : Bool) → Own (unless_short short takes who number step d).0
        by true true = own
        by true false = made step its
        by false true = made step its
        by false false = made step its

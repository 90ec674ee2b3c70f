-- A call's step at the directory: what its pass pins, what a look tells of stripes, and what was drawn.
use Rattle.std.proofs.Common.{◌≡◌, ℕ, zero, suc, ◌+◌, ◌<◌, ◌≤◌, Bool, true, false, nat_lt, List, [], ◌∷◌, length, map, Option, None, Some, option_map, unwrap_or, refl, ap, ◌∙◌, arith}
use Rattle.std.proofs.lemmas.Bool.{cond_both, cond-true}
use Rattle.std.specs.List.{slice_get, list_all, range_with_len}
use Rattle.store_map.specs.declared.actor.Actor.{Actor}
use Rattle.store_map.specs.declared.placement.Placement.{Placement}
use Rattle.store_map.specs.declared.reply.Reply.{Reply}
use Rattle.store_core.specs.Act.{DirectoryStep, takes_memory}
use Rattle.store_core.specs.AtDirectory.{unless_reaped, on_pass, made_at_directory, unless_short, at_directory}
use Rattle.store_core.specs.Commit.{commit, commit_object, is_overtaken}
use Rattle.store_core.specs.Directory.{Object, Version, Pass, Directory}
use Rattle.store_core.specs.Look.{begin_pass, seen_at, pin_of, placed_of}
use Rattle.store_core.specs.Looks.{accept, look_by, look_repair_by}
use Rattle.store_core.specs.Lookups.{same_actor, find_object, pass_of, last_change, is_current}
use Rattle.store_core.specs.Note.{Note, Kind, refusal}
use Rattle.store_core.specs.PassSteps.{close_pass, give_up_drawn, draw, end_pass, confirm, repaired}
use Rattle.store_core.specs.Told.{Told, Seen}
use Rattle.run_laws.proofs.OwnPasses.{found_in}
use Rattle.run_laws.proofs.Passes.{IsCallStep}

-- what stripes a look tells
abbrev pub StripesOf : List Version → List Seen → Type 0
StripesOf versions [] = Unit {0}
StripesOf versions (seen ∷ stripes) = (seen.placed ≡ placed_of (slice_get versions seen.version)) × StripesOf versions stripes

-- a look that begins a pass: its pins are the stripes that it tells, with the rows of their versions
pub record LooksSo (who : Actor) (before after : Directory) (stripes : List Seen) : Type 0 where
  pub pass : Pass
  pub found : pass_of who after ≡ Some pass
  pub pinned : pass.pinned ≡ map pin_of stripes
  pub versions : after.versions ≡ before.versions
  pub rows : StripesOf before.versions stripes

abbrev pub LookTold : Actor → Directory → Directory → Told → Type 0
LookTold who before after (Told.Pinned point length_now stripes) = LooksSo who before after stripes
LookTold who before after (Told.Ready base length_now stripes) = LooksSo who before after stripes
LookTold who before after (Told.PinnedStripe seen) = LooksSo who before after (seen ∷ [])
LookTold who before after answer = Unit {0}

module _ (who : Actor) (number : ℕ) (note : Note) (self : same_actor who who ≡ true) (d : Directory) where
  abbrev Tells : Directory × Told → Type 0
  Tells after = LookTold who d after.0 after.1

  seen_rows : (object : Object) (stripes : List ℕ) → StripesOf d.versions (map (seen_at d object) stripes)
  seen_rows object [] = tt
  seen_rows object (stripe ∷ stripes) = (refl, seen_rows object stripes)

  looks : (pass : Pass) (passes : List Pass) → pass.actor ≡ who → found_in who (pass ∷ passes) ≡ Some pass
  looks pass passes mine = cond-true {A = Option Pass} (same_actor who pass.actor) (Some pass) (found_in who passes) (ap (same_actor who) mine ∙ self)

  taken : (kind : Kind) (object : Object) → Tells (accept who number note d kind object)
  taken Kind.Put object = record { pass = _; found = looks _ d.passes refl; pinned = refl; versions = refl; rows = tt }
  taken Kind.Write object = record { pass = _; found = looks _ d.passes refl; pinned = refl; versions = refl; rows = seen_rows object _ }
  taken Kind.Stat object = tt
  taken Kind.Delete object = tt
  taken _ object = record { pass = _; found = looks _ d.passes refl; pinned = refl; versions = refl; rows = seen_rows object _ }

  look_told : (found : Option Object) (refused : Option Reply) → Tells (look_by who number note d found refused)
  look_told found (Some given) = tt
  look_told found None = taken note.kind _

  repair_told : (found : Option Object) → Tells (look_repair_by who number note d found)
  repair_told None = tt
  repair_told (Some object) =
      cond_both {A = Directory × Told} (nat_lt note.offset (length object.versions))
      (begin_pass who number note (seen_at d object note.offset ∷ []) None d, Told.PinnedStripe (seen_at d object note.offset)) (d, Told.NoSuch) Tells
      (λ _. record { pass = _; found = looks _ d.passes refl; pinned = refl; versions = refl; rows = (refl, tt) }) (λ _. tt)

  on_told : (step : Pass → Directory → Directory × Told) → ((pass : Pass) → Tells (step pass d)) → (found : Option Pass) → Tells (on_pass step found d)
  on_told step h None = tt
  on_told step h (Some pass) = by pass.reaped
    where
      by : (reaped : Option ℕ) → Tells (unless_reaped step pass reaped d)
      by None = h pass
      by (Some point) = tt

  confirm_told : (pass : Pass) → Tells (confirm pass d)
  confirm_told pass =
      cond_both {A = Directory × Told} (list_all (λ pin. is_current d pin.version) pass.pinned)
      (d, Told.Current) (close_pass pass d, Told.Superseded (unwrap_or (last_change pass.note.name d.points) 0)) Tells (λ _. tt) (λ _. tt)

  commit_told : (placed : List (List Placement)) (pass : Pass) → Tells (commit placed pass d)
  commit_told placed pass =
      cond_both {A = Directory × Told} (is_overtaken pass.note.kind pass.base (last_change pass.note.name d.points))
      (close_pass pass (give_up_drawn pass d), Told.Changed (unwrap_or pass.base 0) (unwrap_or (last_change pass.note.name d.points) 0))
      (commit_object placed pass (unwrap_or (find_object pass.note.name d.objects) (record { name = pass.note.name; length = 0; versions = [] })) d) Tells
      (λ _. tt) (λ _. tt)

module _ (who : Actor) (number : ℕ) (note : Note) (self : same_actor who who ≡ true) (d : Directory) where
  made_told : (step : DirectoryStep) → IsCallStep note step → Tells who number note self d (made_at_directory who number step d)
  made_told (DirectoryStep.Look other) mine =
      look_told who number other self d (find_object other.name d.objects) (refusal d.max other (option_map (λ object. object.length) (find_object other.name d.objects)))
  made_told (DirectoryStep.LookRepair other) mine = repair_told who number other self d (find_object other.name d.objects)
  made_told DirectoryStep.Draw mine = on_told who number note self d draw (λ pass. tt) (pass_of who d)
  made_told (DirectoryStep.Commit placed) mine = on_told who number note self d (commit placed) (commit_told who number note self d placed) (pass_of who d)
  made_told DirectoryStep.End mine = on_told who number note self d end_pass (λ pass. tt) (pass_of who d)
  made_told DirectoryStep.Confirm mine = on_told who number note self d confirm (confirm_told who number note self d) (pass_of who d)
  made_told (DirectoryStep.Repaired server epoch) mine = on_told who number note self d (repaired server epoch) (λ pass. tt) (pass_of who d)
  made_told step mine = absurd mine

  short_told : (short takes : Bool) (step : DirectoryStep) → IsCallStep note step → Tells who number note self d (unless_short short takes who number step d)
  short_told true true step mine = tt
  short_told true false step mine = made_told step mine
  short_told false true step mine = made_told step mine
  short_told false false step mine = made_told step mine

  -- a look begins a pass that pins what it tells
  pub looked_so : (short : Bool) (step : DirectoryStep) → IsCallStep note step → LookTold who d (at_directory short who number step d).0 (at_directory short who number step d).1
  looked_so short step mine = short_told short (takes_memory step) step mine

-- numbers from one on are below where they end
pub range_below : (from count most : ℕ) → from + count ≤ most → (P : ℕ → Type 0) → ((n : ℕ) → n < most → P n) → (all : List ℕ → Type 0) → all [] → ((n : ℕ) (ns : List ℕ) → P n → all ns → all (n ∷ ns)) → all (range_with_len from count)
range_below from zero most low P p all none more = none
range_below from (suc count) most low P p all none more =
    more from (range_with_len (from + 1) count) (p from (omega (arith, low))) (range_below (from + 1) count most (omega (arith, low)) P p all none more)

-- A pass that was reaped: the next step of its call at the directory closes it, and is told so.
use Rattle.std.proofs.Common.{◌≡◌, ℕ, ◌+◌, ◌≤◌, Bool, true, false, not, nat_lt, List, [], ◌∷◌, length, filter, map, Option, None, Some, option_map, unwrap_or, refl, sym, ap, ◌∙◌, arith}
use Rattle.std.proofs.lemmas.Bool.{cond_both, cond-true}
use Rattle.std.specs.List.{slice_get, list_all, range_with_len}
use Rattle.store_map.specs.declared.actor.Actor.{Actor}
use Rattle.store_map.specs.declared.placement.Placement.{Placement}
use Rattle.store_map.specs.declared.reply.Reply.{Reply}
use Rattle.store_core.specs.Act.{Act, DirectoryStep, ServerStep, takes_memory}
use Rattle.store_core.specs.AtDirectory.{unless_reaped, on_pass, take_garbage, reap_pass, reap, made_at_directory, unless_short}
use Rattle.store_core.specs.Commit.{commit, commit_object, is_overtaken}
use Rattle.store_core.specs.Directory.{Object, Pass, Directory}
use Rattle.store_core.specs.Look.{begin_pass, seen_at}
use Rattle.store_core.specs.Looks.{accept, look_by, look_repair_by}
use Rattle.store_core.specs.Lookups.{same_actor, find_object, pass_of, last_change, is_current}
use Rattle.store_core.specs.Note.{Note, Kind, refusal}
use Rattle.store_core.specs.PassSteps.{close_pass, give_up_drawn, draw, end_pass, confirm, repaired, touched}
use Rattle.store_core.specs.Step.{Places, at_server_there, at_places}
use Rattle.store_core.specs.Server.{Server}
use Rattle.store_core.specs.Told.{Told}
use Rattle.run_laws.specs.Answers.{ServerAnswers, Answers}
use Rattle.run_laws.proofs.OwnPasses.{found_in, one_changed, changed_own, changed_other, found_mine}
use Rattle.run_laws.proofs.Passes.{pass_is, closed_own, IsCallStep}

-- 1 for a pass that was reaped
abbrev pub reaped_at : Option ℕ → ℕ
reaped_at None = 0
reaped_at (Some point) = 1

abbrev pub flagged : Option Pass → ℕ
flagged None = 0
flagged (Some pass) = reaped_at pass.reaped

-- 1 for an answer that tells of it
abbrev pub reaped_told : Told → ℕ
reaped_told (Told.Reaped point) = 1
reaped_told answer = 0

flag_small : (found : Option Pass) → flagged found ≤ 1
flag_small None = omega arith
flag_small (Some pass) = by pass.reaped
  where
    by : (reaped : Option ℕ) → reaped_at reaped ≤ 1
    by None = omega arith
    by (Some point) = omega arith

module _ (who : Actor) (number : ℕ) (self : same_actor who who ≡ true) (note : Note) (d : Directory) where
  -- a pass that was reaped is told of at most once
  abbrev Counts : Directory × Told → Type 0
  Counts after = flagged (pass_of who after.0) + reaped_told after.1 ≤ flagged (pass_of who d)

  -- a pass that begins isn't reaped
  begun : (pass : Pass) → pass.actor ≡ who → pass.reaped ≡ None → flagged (found_in who (pass ∷ d.passes)) ≡ 0
  begun pass mine live =
      ap flagged (cond-true {A = Option Pass} (same_actor who pass.actor) (Some pass) (found_in who d.passes) (ap (same_actor who) mine ∙ self)) ∙ ap reaped_at live

  begins : (pass : Pass) → pass.actor ≡ who → pass.reaped ≡ None → flagged (found_in who (pass ∷ d.passes)) + 0 ≤ flagged (pass_of who d)
  begins pass mine live = let none : flagged (found_in who (pass ∷ d.passes)) ≡ 0 = begun pass mine live in omega (arith, none)

  abbrev closing : Pass → List Pass
  closing pass = filter (λ other. not (same_actor pass.actor other.actor)) d.passes

  closed : (pass : Pass) → pass_of who d ≡ Some pass → flagged (found_in who (closing pass)) ≡ 0
  closed pass found =
      ap flagged (ap (λ a. found_in who (filter (λ (other : Pass). not (same_actor a other.actor)) d.passes)) (sym (pass_is who d pass found)) ∙ closed_own who d.passes)

  closes : (pass : Pass) → pass_of who d ≡ Some pass → flagged (found_in who (closing pass)) + 0 ≤ flagged (pass_of who d)
  closes pass found = let none : flagged (found_in who (closing pass)) ≡ 0 = closed pass found in omega (arith, none)

  accept_counts : (kind : Kind) (object : Object) → Counts (accept who number note d kind object)
  accept_counts Kind.Put object = begins _ refl refl
  accept_counts Kind.Write object = begins _ refl refl
  accept_counts Kind.Stat object = omega arith
  accept_counts Kind.Delete object = omega arith
  accept_counts _ object = begins _ refl refl

  look_counts : (found : Option Object) (refused : Option Reply) → Counts (look_by who number note d found refused)
  look_counts found (Some given) = omega arith
  look_counts found None = accept_counts note.kind _

  repair_counts : (found : Option Object) → Counts (look_repair_by who number note d found)
  repair_counts None = omega arith
  repair_counts (Some object) =
      cond_both {A = Directory × Told} (nat_lt note.offset (length object.versions))
      (begin_pass who number note (seen_at d object note.offset ∷ []) None d, Told.PinnedStripe (seen_at d object note.offset)) (d, Told.NoSuch) Counts (λ _. begins _ refl refl) (λ _. omega arith)

  unless_counts : (step : Pass → Directory → Directory × Told) (pass : Pass) → pass_of who d ≡ Some pass → (reaped : Option ℕ) → pass.reaped ≡ reaped → Counts (step pass d) → Counts (unless_reaped step pass reaped d)
  unless_counts step pass found None e h = h
  unless_counts step pass found (Some point) e h =
      let none : flagged (found_in who (closing pass)) ≡ 0 = closed pass found in
      let one : flagged (pass_of who d) ≡ 1 = ap flagged found ∙ ap reaped_at e in
      omega (arith, none, one)

  on_counts : (step : Pass → Directory → Directory × Told) → ((pass : Pass) → pass_of who d ≡ Some pass → Counts (step pass d)) → (found : Option Pass) → pass_of who d ≡ found → Counts (on_pass step found d)
  on_counts step h None e = omega arith
  on_counts step h (Some pass) e = unless_counts step pass e pass.reaped refl (h pass e)

  draw_counts : (pass : Pass) → pass_of who d ≡ Some pass → Counts (draw pass d)
  draw_counts pass found =
      let drawn : List ℕ = range_with_len (length d.versions) (length (touched d pass.note)) in
      let change : Pass → Pass = λ (other : Pass). (record other { drawn = drawn }) in
      let there : found_in who (map (one_changed pass.actor change) d.passes) ≡ Some (change pass) =
      ap (λ a. found_in who (map (one_changed a change) d.passes)) (sym (pass_is who d pass found)) ∙ changed_own who change (λ p. refl) d.passes pass found (found_mine who d.passes pass found) in
      let same : flagged (found_in who (map (one_changed pass.actor change) d.passes)) ≡ flagged (pass_of who d) = ap flagged there ∙ sym (ap flagged found) in
      omega (arith, same)

  confirm_counts : (pass : Pass) → pass_of who d ≡ Some pass → Counts (confirm pass d)
  confirm_counts pass found =
      cond_both {A = Directory × Told} (list_all (λ pin. is_current d pin.version) pass.pinned)
      (d, Told.Current) (close_pass pass d, Told.Superseded (unwrap_or (last_change pass.note.name d.points) 0)) Counts (λ _. omega arith) (λ _. closes pass found)

  commit_counts : (placed : List (List Placement)) (pass : Pass) → pass_of who d ≡ Some pass → Counts (commit placed pass d)
  commit_counts placed pass found =
      cond_both {A = Directory × Told} (is_overtaken pass.note.kind pass.base (last_change pass.note.name d.points))
      (close_pass pass (give_up_drawn pass d), Told.Changed (unwrap_or pass.base 0) (unwrap_or (last_change pass.note.name d.points) 0))
      (commit_object placed pass (unwrap_or (find_object pass.note.name d.objects) (record { name = pass.note.name; length = 0; versions = [] })) d) Counts
      (λ _. closes pass found) (λ _. closes pass found)

module _ (who : Actor) (number : ℕ) (self : same_actor who who ≡ true) (note : Note) (d : Directory) where
  made_counts : (step : DirectoryStep) → IsCallStep note step → Counts who number self note d (made_at_directory who number step d)
  made_counts (DirectoryStep.Look other) mine =
      look_counts who number self other d (find_object other.name d.objects) (refusal d.max other (option_map (λ object. object.length) (find_object other.name d.objects)))
  made_counts (DirectoryStep.LookRepair other) mine = repair_counts who number self other d (find_object other.name d.objects)
  made_counts DirectoryStep.Draw mine = on_counts who number self note d draw (draw_counts who number self note d) (pass_of who d) refl
  made_counts (DirectoryStep.Commit placed) mine = on_counts who number self note d (commit placed) (commit_counts who number self note d placed) (pass_of who d) refl
  made_counts DirectoryStep.End mine = on_counts who number self note d end_pass (closes who number self note d) (pass_of who d) refl
  made_counts DirectoryStep.Confirm mine = on_counts who number self note d confirm (confirm_counts who number self note d) (pass_of who d) refl
  made_counts (DirectoryStep.Repaired server epoch) mine = on_counts who number self note d (repaired server epoch) (closes who number self note d) (pass_of who d) refl
  made_counts step mine = absurd mine

  pub step_counts : (short takes : Bool) (step : DirectoryStep) → IsCallStep note step → Counts who number self note d (unless_short short takes who number step d)
  step_counts true true step mine = omega arith
  step_counts true false step mine = made_counts step mine
  step_counts false true step mine = made_counts step mine
  step_counts false false step mine = made_counts step mine

server_told : (step : ServerStep) (answer : Told) → ServerAnswers step answer → reaped_told answer ≡ 0
server_told (ServerStep.Prepare version) (Told.Reaped point) h = absurd h
server_told step (Told.Reaped point) h = absurd h
server_told step answer h = refl

server_counts : (short : Bool) (server : ℕ) (step : ServerStep) (places : Places) (who : Actor) (found : Option Server) → ServerAnswers step (at_server_there short server step places found).1
    → flagged (pass_of who (at_server_there short server step places found).0.directory) + reaped_told (at_server_there short server step places found).1 ≤ flagged (pass_of who places.directory)
server_counts short server step places who None h = let none : reaped_told (at_server_there short server step places None).1 ≡ 0 = server_told step _ h in omega (arith, none)
server_counts short server step places who (Some s) h = let none : reaped_told (at_server_there short server step places (Some s)).1 ≡ 0 = server_told step _ h in omega (arith, none)

-- an act of a call tells of a reap only where its pass was reaped, and closes it then
pub act_counts : (pins touched : ℕ) (short : Bool) (who : Actor) (number : ℕ) → same_actor who who ≡ true → (note : Note) (places : Places) (act : Act)
    → ((step : DirectoryStep) → act ≡ Act.AtDirectory step → IsCallStep note step) → Answers pins touched act (at_places short who number act places).1
    → flagged (pass_of who (at_places short who number act places).0.directory) + reaped_told (at_places short who number act places).1 ≤ flagged (pass_of who places.directory)
act_counts pins touched short who number self note places (Act.AtDirectory step) mine h = step_counts who number self note places.directory short (takes_memory step) step (mine step refl)
act_counts pins touched short who number self note places (Act.AtServer server step) mine h = server_counts short server step places who (slice_get places.servers server) h
act_counts pins touched short who number self note places (Act.Finish outcome) mine h = absurd h

-- ---- the operator
-- a reap of another leaves a pass
reap_other : (who target : Actor) (d : Directory) → same_actor who target ≡ false → (found : Option Pass) → pass_of target d ≡ found → pass_of who (reap found d).0 ≡ pass_of who d
reap_other who target d apart None e = refl
reap_other who target d apart (Some pass) e = by pass.reaped
  where
    by : (reaped : Option ℕ) → pass_of who (reap_pass pass reaped d).0 ≡ pass_of who d
    by (Some point) = refl
    by None =
        let change : Pass → Pass = λ (other : Pass). (record other { reaped = Some (length d.points) }) in
        ap (λ a. found_in who (map (one_changed a change) d.passes)) (sym (pass_is target d pass e)) ∙ changed_other target change (λ p. refl) who apart d.passes

pub reap_apart : (who target : Actor) (d : Directory) → same_actor who target ≡ false → flagged (pass_of who (reap (pass_of target d) d).0) ≡ flagged (pass_of who d)
reap_apart who target d apart = ap flagged (reap_other who target d apart (pass_of target d) refl)

-- a reap raises the count by one at most
pub reap_raises : (who target : Actor) (d : Directory) → flagged (pass_of who (reap (pass_of target d) d).0) ≤ flagged (pass_of who d) + 1
reap_raises who target d = let small : flagged (pass_of who (reap (pass_of target d) d).0) ≤ 1 = flag_small (pass_of who (reap (pass_of target d) d).0) in omega (arith, small)

-- the sweeper changes no pass
pub sweeps_apart : (who : Actor) (version : Option ℕ) (d : Directory) → pass_of who (take_garbage version d).0 ≡ pass_of who d
sweeps_apart who None d = refl
sweeps_apart who (Some version) d = refl

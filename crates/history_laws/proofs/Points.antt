-- Each point of a run is a reap, or stands for a call of the script.
use Rattle.std.proofs.Common.{◌≡◌, ℕ, Bool, true, false, nat_lt, List, [], ◌∷◌, ◌++◌, length, Option, None, Some, option_map, IfSome, unwrap_or, All, ◌⊎◌, ◌+◌, refl, sym, subst}
use Rattle.std.proofs.lemmas.Bool.{cond_both}
use Rattle.std.proofs.lemmas.List.Elements.{All-push}
use Rattle.std.specs.List.{slice_get, list_all}
use Rattle.clay_grid.specs.Shape.{Shape}
use Rattle.store_map.specs.Limits.{tries_of}
use Rattle.store_map.specs.declared.actor.Actor.{Actor}
use Rattle.store_map.specs.declared.placement.Placement.{Placement}
use Rattle.store_map.specs.declared.call.Call.{Call}
use Rattle.store_map.specs.declared.reply.Reply.{Reply}
use Rattle.store_map.specs.declared.reply.Reply.TheVariants as reply
use Rattle.store_map.specs.declared.script.Script.{Script}
use Rattle.store_core.specs.Act.{Act, DirectoryStep, ServerStep, takes_memory}
use Rattle.store_core.specs.AtDirectory.{unless_reaped, on_pass, made_at_directory, unless_short}
use Rattle.store_core.specs.Commit.{commit, commit_object, is_overtaken}
use Rattle.store_core.specs.Directory.{Object, Pass, Event, Point, Directory}
use Rattle.store_core.specs.History.{call_of}
use Rattle.store_core.specs.Look.{begin_pass, seen_at}
use Rattle.store_core.specs.Looks.{accept, look_by, look_repair_by}
use Rattle.store_core.specs.Lookups.{find_object, pass_of, last_change, is_current}
use Rattle.store_core.specs.NextAct.{Job}
use Rattle.store_core.specs.Note.{Note, Kind, note_of, refusal, refusal_by, refusal_of_size, refusal_of_offset}
use Rattle.store_core.specs.PassSteps.{close_pass, give_up_drawn, draw, end_pass, confirm, repaired}
use Rattle.store_core.specs.Server.{Server}
use Rattle.store_core.specs.Step.{Shortage, Places, at_server_there, at_places, actor_step}
use Rattle.store_core.specs.Told.{Told}
use Rattle.store_core.specs.Work.{Calling}
use Rattle.run_laws.proofs.CallActs.{IsOfClients, StepOfKind, ActOfKind}
use Rattle.run_laws.proofs.OwnPasses.{passes_stand}
use Rattle.run_laws.proofs.PlaceMoves.{call_step}
use Rattle.run_laws.proofs.Proper.{IsWriting, IsProper, HasTry}
use Rattle.run_laws.proofs.Runs.{IsOperatorAct}
use Rattle.run_laws.proofs.Passes.{pass_is, IsCallStep}
use Rattle.history_laws.proofs.AtWork.{AtWork, pass_number, pass_note, proper, of_kind, first}

-- a event that isn't a reap, and tells no bytes
abbrev pub IsPlain : Event → Type 0
IsPlain (Event.Answer (reply.Bytes bytes)) = ⊥
IsPlain Event.Reaped = ⊥
IsPlain event = Unit {0}

-- a point stands for a call of the script
pub record IsOfCall (script : Script) (point : Point) : Type 0 where
  pub call : Call
  pub is_call : call_of script point.actor point.number ≡ Some call
  pub noted : point.note ≡ note_of call
  pub plain : IsPlain point.event

-- or is a reap
abbrev pub IsOfScript : Script → Point → Type 0
IsOfScript script point = (point.event ≡ Event.Reaped) ⊎ IsOfCall script point

-- ---- refusals have no bytes
abbrev IsPlainReply : Option Reply → Type 0
IsPlainReply refused = IfSome refused (λ r. IsPlain (Event.Answer r))

by_size : (most n : ℕ) → IsPlainReply (refusal_of_size most n)
by_size most n = cond_both {A = Option Reply} (nat_lt most n) (Some reply.TooLarge) None IsPlainReply (λ _. tt) (λ _. tt)

by_offset : (length_now offset : ℕ) (otherwise : Option Reply) → IsPlainReply otherwise → IsPlainReply (refusal_of_offset length_now offset otherwise)
by_offset length_now offset otherwise h = cond_both {A = Option Reply} (nat_lt length_now offset) (Some reply.OutRange) otherwise IsPlainReply (λ _. tt) (λ _. h)

refusals_plain : (most : ℕ) (kind : Kind) (offset n : ℕ) (found : Option ℕ) → IsPlainReply (refusal_by most kind offset n found)
refusals_plain most Kind.Put offset n found = by_size most n
refusals_plain most Kind.Write offset n (Some length_now) = by_offset length_now offset (refusal_of_size most (offset + n)) (by_size most (offset + n))
refusals_plain most Kind.ReadAt offset n (Some length_now) = by_offset length_now offset None tt
refusals_plain most Kind.Write offset n None = tt
refusals_plain most Kind.ReadAt offset n None = tt
refusals_plain most Kind.Get offset n None = tt
refusals_plain most Kind.Stat offset n None = tt
refusals_plain most Kind.Delete offset n None = tt
refusals_plain most Kind.Rebuild offset n None = tt
refusals_plain most Kind.Get offset n (Some length_now) = tt
refusals_plain most Kind.Stat offset n (Some length_now) = tt
refusals_plain most Kind.Delete offset n (Some length_now) = tt
refusals_plain most Kind.Rebuild offset n (Some length_now) = tt

-- ---- a call's step at the directory
module _ (P : Point → Type 0) (who : Actor) (number : ℕ) (note : Note) (d : Directory)
    (of_this : (pass : Pass) → pass_of who d ≡ Some pass → (pass.number ≡ number) × (pass.note ≡ note))
    (new : IsOfClients note.kind → (event : Event) → IsPlain event → P (record { actor = who; number = number; note = note; event = event })) (old : All P d.points) where
  abbrev Kept : Directory × Told → Type 0
  Kept after = All P after.0.points

  one_more : IsOfClients note.kind → (event : Event) → IsPlain event → All P (d.points ++ record { actor = who; number = number; note = note; event = event } ∷ [])
  one_more clients event plain = All-push P d.points (record { actor = who; number = number; note = note; event = event }) old (new clients event plain)

  accept_points : IsOfClients note.kind → (kind : Kind) (object : Object) → Kept (accept who number note d kind object)
  accept_points clients Kind.Put object = old
  accept_points clients Kind.Write object = old
  accept_points clients Kind.Stat object = one_more clients (Event.Answer (reply.Length object.length)) tt
  accept_points clients Kind.Delete object = one_more clients (Event.Answer reply.Done) tt
  accept_points clients _ object = one_more clients Event.Pinned tt

  look_points : IsOfClients note.kind → (found : Option Object) (refused : Option Reply) → IsPlainReply refused → Kept (look_by who number note d found refused)
  look_points clients found (Some given) plain = one_more clients (Event.Answer given) plain
  look_points clients found None plain = accept_points clients note.kind _

  repair_points : (found : Option Object) → Kept (look_repair_by who number note d found)
  repair_points None = old
  repair_points (Some object) =
      cond_both {A = Directory × Told} (nat_lt note.offset (length object.versions))
      (begin_pass who number note (seen_at d object note.offset ∷ []) None d, Told.PinnedStripe (seen_at d object note.offset)) (d, Told.NoSuch) Kept (λ _. old) (λ _. old)

  -- on the pass that was found
  unless_points : (step : Pass → Directory → Directory × Told) (pass : Pass) (reaped : Option ℕ) → Kept (step pass d) → Kept (unless_reaped step pass reaped d)
  unless_points step pass None h = h
  unless_points step pass (Some point) h = old

  on_points : (step : Pass → Directory → Directory × Told) → ((pass : Pass) → pass_of who d ≡ Some pass → Kept (step pass d)) → (found : Option Pass) → pass_of who d ≡ found → Kept (on_pass step found d)
  on_points step h None e = old
  on_points step h (Some pass) e = unless_points step pass pass.reaped (h pass e)

  confirm_points : (pass : Pass) → Kept (confirm pass d)
  confirm_points pass =
      cond_both {A = Directory × Told} (list_all (λ pin. is_current d pin.version) pass.pinned)
      (d, Told.Current) (close_pass pass d, Told.Superseded (unwrap_or (last_change pass.note.name d.points) 0)) Kept (λ _. old) (λ _. old)

  -- the point of a commit
  done_point : IsOfClients note.kind → (pass : Pass) → pass_of who d ≡ Some pass → P (record { actor = pass.actor; number = pass.number; note = pass.note; event = Event.Done })
  done_point clients pass found =
      let mine : pass.actor ≡ who = sym (pass_is who d pass found) in
      let same : (pass.number ≡ number) × (pass.note ≡ note) = of_this pass found in
      subst P (sym (λ i. record { actor = mine i; number = same.0 i; note = same.1 i; event = Event.Done })) (new clients Event.Done tt)

  commit_points : IsOfClients note.kind → (placed : List (List Placement)) (pass : Pass) → pass_of who d ≡ Some pass → Kept (commit placed pass d)
  commit_points clients placed pass found =
      cond_both {A = Directory × Told} (is_overtaken pass.note.kind pass.base (last_change pass.note.name d.points))
      (close_pass pass (give_up_drawn pass d), Told.Changed (unwrap_or pass.base 0) (unwrap_or (last_change pass.note.name d.points) 0))
      (commit_object placed pass (unwrap_or (find_object pass.note.name d.objects) (record { name = pass.note.name; length = 0; versions = [] })) d) Kept
      (λ _. old)
      (λ _. All-push P d.points (record { actor = pass.actor; number = pass.number; note = pass.note; event = Event.Done }) old (done_point clients pass found))

writing_clients : (kind : Kind) → IsWriting kind → IsOfClients kind
writing_clients Kind.Put h = tt
writing_clients Kind.Write h = tt
writing_clients kind h = absurd h

module _ (P : Point → Type 0) (g : Shape) (who : Actor) (number : ℕ) (note : Note) (d : Directory)
    (of_this : (pass : Pass) → pass_of who d ≡ Some pass → (pass.number ≡ number) × (pass.note ≡ note))
    (new : IsOfClients note.kind → (event : Event) → IsPlain event → P (record { actor = who; number = number; note = note; event = event })) (old : All P d.points) where
  made_points : (step : DirectoryStep) → IsCallStep note step → StepOfKind g note.kind step → All P (made_at_directory who number step d).0.points
  made_points (DirectoryStep.Look other) mine kind =
      subst (λ (n : Note). All P (made_at_directory who number (DirectoryStep.Look n) d).0.points) (sym mine)
      (look_points P who number note d of_this new old kind (find_object note.name d.objects) (refusal d.max note (option_map (λ object. object.length) (find_object note.name d.objects)))
      (refusals_plain d.max note.kind note.offset note.length (option_map (λ object. object.length) (find_object note.name d.objects))))
  made_points (DirectoryStep.LookRepair other) mine kind =
      subst (λ (n : Note). All P (made_at_directory who number (DirectoryStep.LookRepair n) d).0.points) (sym mine)
      (repair_points P who number note d of_this new old (find_object note.name d.objects))
  made_points DirectoryStep.Draw mine kind = on_points P who number note d of_this new old draw (λ pass e. old) (pass_of who d) refl
  made_points (DirectoryStep.Commit placed) mine kind =
      on_points P who number note d of_this new old (commit placed) (commit_points P who number note d of_this new old (writing_clients note.kind kind.0) placed) (pass_of who d) refl
  made_points DirectoryStep.End mine kind = on_points P who number note d of_this new old end_pass (λ pass e. old) (pass_of who d) refl
  made_points DirectoryStep.Confirm mine kind =
      on_points P who number note d of_this new old confirm (λ pass e. confirm_points P who number note d of_this new old pass) (pass_of who d) refl
  made_points (DirectoryStep.Repaired server epoch) mine kind = on_points P who number note d of_this new old (repaired server epoch) (λ pass e. old) (pass_of who d) refl
  made_points step mine kind = absurd mine

  short_points : (short takes : Bool) (step : DirectoryStep) → IsCallStep note step → StepOfKind g note.kind step → All P (unless_short short takes who number step d).0.points
  short_points true true step mine kind = old
  short_points true false step mine kind = made_points step mine kind
  short_points false true step mine kind = made_points step mine kind
  short_points false false step mine kind = made_points step mine kind

server_points : (P : Point → Type 0) (short : Bool) (server : ℕ) (step : ServerStep) (places : Places) (found : Option Server) → All P places.directory.points
    → All P (at_server_there short server step places found).0.directory.points
server_points P short server step places None h = h
server_points P short server step places (Some s) h = h

act_points : (P : Point → Type 0) (g : Shape) (room : Type 0) (short : Bool) (who : Actor) (number : ℕ) (job : Job) (places : Places)
    → ((pass : Pass) → pass_of who places.directory ≡ Some pass → (pass.number ≡ number) × (pass.note ≡ job.note))
    → (IsOfClients job.note.kind → (event : Event) → IsPlain event → P (record { actor = who; number = number; note = job.note; event = event })) → All P places.directory.points
    → (act : Act) → IsProper g job room act → ActOfKind g job.note.kind act → All P (at_places short who number act places).0.directory.points
act_points P g room short who number job places of_this new old (Act.AtDirectory step) is_proper kind =
    short_points P g who number job.note places.directory of_this new old short (takes_memory step) step (call_step job room step is_proper) kind
act_points P g room short who number job places of_this new old (Act.AtServer server step) is_proper kind = server_points P short server step places (slice_get places.servers server) old
act_points P g room short who number job places of_this new old (Act.Finish outcome) is_proper kind = old

-- ---- an actor's step
pub actor_points : (P : Point → Type 0) (script : Script) (who : Actor) (job : Job) (calling : Calling) (places : Places) → AtWork script who job calling places
    → (IsOfClients job.note.kind → (event : Event) → IsPlain event → P (record { actor = who; number = length calling.ended; note = job.note; event = event })) → All P places.directory.points
    → (shortages : Shortage) → All P (actor_step script.geometry (tries_of script) shortages who job calling places).0.directory.points
actor_points P script who job calling places at new old shortages =
    act_points P script.geometry (HasTry job.note.kind (tries_of script) (first script who job calling places at shortages.coding shortages.step)) shortages.step who (length calling.ended) job places
    (λ pass found. (pass_number script who job calling places at pass found, pass_note script who job calling places at pass found)) new old
    _ (proper script who job calling places at shortages.coding shortages.step) (of_kind script who job calling places at shortages.coding shortages.step)

-- ---- a step of the sweeper or the operator
pub others_points : (P : Point → Type 0) (who : Actor) (act : Act) (places : Places) → IsOperatorAct act → ((point : Point) → point.event ≡ Event.Reaped → P point) → All P places.directory.points
    → All P (at_places false who 0 act places).0.directory.points
others_points P who (Act.AtDirectory step) places other reaped old = (passes_stand who 0 step places.directory other).points P (λ _ pass found. reaped _ refl) old
others_points P who (Act.AtServer server step) places other reaped old = server_points P false server step places (slice_get places.servers server) old
others_points P who (Act.Finish outcome) places other reaped old = absurd other

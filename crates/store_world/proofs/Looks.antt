-- A look that pins stripes leaves its call with the bytes that the map replies there.
use Rattle.std.proofs.Common.{◌≡◌, ℕ, ◌<◌, ◌+◌, Bool, List, [], ◌∷◌, ◌++◌, length, take, Some, MatchOption, append-nil, refl, sym, ap, subst, ◌∙◌, arith}
use Rattle.std.proofs.lemmas.List.{take_at, length_push}
use Rattle.clay_grid.specs.Shape.{Shape}
use Rattle.store_map.specs.declared.actor.Actor.{Actor}
use Rattle.store_map.specs.declared.actor.Actor.TheVariants as actor
use Rattle.store_map.specs.declared.reply.Reply.TheVariants as reply
use Rattle.store_map.specs.declared.script.Script.{Script}
use Rattle.store_core.specs.Act.{Act, DirectoryStep}
use Rattle.store_core.specs.AtDirectory.{at_directory}
use Rattle.store_core.specs.Calls.{IsNoteOf}
use Rattle.store_core.specs.Content.{contents_by}
use Rattle.store_core.specs.Directory.{Event, Point, Directory}
use Rattle.store_core.specs.History.{applied, call_of}
use Rattle.store_core.specs.NextAct.{Job}
use Rattle.store_core.specs.Note.{Note}
use Rattle.store_core.specs.PlaceLaws.{new_point}
use Rattle.store_core.proofs.Places.{directory_keeps_places}
use Rattle.store_core.specs.Read.{parts_of}
use Rattle.store_map.specs.declared.call.Call.{Call}
use Rattle.store_core.specs.Told.{Told, Seen}
use Rattle.store_core.specs.Tokens.{actor_of}
use Rattle.run_laws.specs.MapAfter.{map_by}
use Rattle.run_laws.specs.PinLaws.{IsReading}
use Rattle.run_laws.specs.ReadLaws.{bytes_read}
use Rattle.run_laws.proofs.OwedBytes.{looks_owe_their_pins}
use Rattle.run_laws.specs.State.{State}
use Rattle.run_laws.specs.StateActs.{act_at}
use Rattle.stripe_stamps.specs.Sealed.{Sealed}
use Rattle.call_steps.specs.CallOf.{CallOf, act_of}
use Rattle.client_read.specs.Owed.{contents_of, owed_after_look, owed_by as read_by}
use Rattle.call_machine.specs.Kinds.{Asked, asked_job, Machine, machine_of}
use Rattle.call_machine.specs.Calls.{MachineOf, owed_in, owed_by}
use Rattle.store_world.specs.Serving.{IsReplyAt, OwesAt}
use Rattle.call_machine.proofs.Acts.{start_looks}
use Rattle.call_machine.proofs.Stamped.{contents_read}
use Rattle.store_world.specs.OfMap.{IsOfMap}
use Rattle.store_world.proofs.OwesLists.{client_call}
use Rattle.store_world.proofs.Steps.{Opens, IsReady}

module _ (script : Script) (d : Sealed) (of : IsOfMap script d) (i number : ℕ) (r : CallOf) (before last : MachineOf) (ready : IsReady script d.core i number r before) (opens : Opens script d.core i r)
    (reads : machine_of before.asked ≡ Machine.Reads) (reading : IsReading r.job.note.kind) (short : Bool) where
  abbrev note : Note
  note = r.job.note

  abbrev after : Directory
  after = (at_directory short (actor_of r.token) r.number (DirectoryStep.Look note) d.core).0

  pub act : act_of r ≡ Act.AtDirectory (DirectoryStep.Look note)
  act = ap (λ (at : State). act_at r.book.geometry r.tries r.job r.state.pairs at) opens.start ∙ start_looks r.book.geometry r.tries r.job r.state.pairs r.job.note.kind reading

  its_note : IsNoteOf (call_of script) (actor.Client i) r.number note
  its_note =
      let its : (call : Call) × (call_of script (actor.Client i) number ≡ Some call) × (before.asked ≡ Asked.OfClient call) = client_call (call_of script (actor.Client i) number) before.asked ready.its in (
        its.0,
        subst (λ (n : ℕ). call_of script (actor.Client i) n ≡ Some its.0) (sym ready.count) its.1,
        ap (λ (j : Job). j.note) (sym (ready.job ∙ ap asked_job its.2)),
      )

  module _ (p length_now : ℕ) (seen : List Seen) (told : (at_directory short (actor_of r.token) r.number (DirectoryStep.Look note) d.core).1 ≡ Told.Pinned p length_now seen) where
    -- the bytes of its pins
    pins_are : owed_by short d before ≡ bytes_read (contents_by d.core.shape (call_of script) d.core.versions ++ []) (parts_of d.core.shape note length_now seen)
    pins_are =
        ap (λ (m : Machine). owed_in m short d before) reads
        ∙ ap (λ (c : CallOf). read_by (act_of c) short c d before.owed) ready.is
        ∙ ap (λ (a : Act). read_by a short r d before.owed) act
        ∙ ap (λ (t : Told). owed_after_look r.book.geometry note d.stamps t before.owed) told
        ∙ ap (λ (g : Shape). contents_of d.stamps (parts_of g note length_now seen)) (opens.shape ∙ sym of.shape)
        ∙ contents_read d.stamps (parts_of d.core.shape note length_now seen)
        ∙ ap (λ (contents : List (List ℕ)). bytes_read contents (parts_of d.core.shape note length_now seen)) (of.contents ∙ sym (append-nil (contents_by d.core.shape (call_of script) d.core.versions)))

    -- its place
    place : (p ≡ length d.core.points) × (point : Point) × (after.points ≡ d.core.points ++ point ∷ [])
    place =
        subst (λ (t : Told). MatchOption (new_point t) (after.points ≡ d.core.points) (λ (q : ℕ). (q ≡ length d.core.points) × (point : Point) × (after.points ≡ d.core.points ++ point ∷ []))) told
        (directory_keeps_places short (actor_of r.token) r.number (DirectoryStep.Look note) d.core).points

    points_before : take p after.points ≡ d.core.points
    points_before = (λ j. take (place.0 j) (place.2 j)) ∙ take_at d.core.points (place.1 ∷ []) (length d.core.points) refl

    within : p < length after.points
    within =
        let long : length after.points ≡ length d.core.points + 1 = ap length place.2 ∙ length_push d.core.points place.1 in
        let is : p ≡ length d.core.points = place.0 in
        omega (arith, long, is)

    owed_there : (applied d.core.max (map_by (call_of script) d.core.max d.core.points) Event.Pinned (call_of script (actor.Client i) r.number)).1 ≡ reply.Bytes (owed_by short d before)
    owed_there =
        looks_owe_their_pins (call_of script) short (actor.Client i) r.number note d.core p length_now seen [] of.wide of.sound of.bytes opens.may its_note
        (subst (λ (who : Actor). (at_directory short who r.number (DirectoryStep.Look note) d.core).1 ≡ Told.Pinned p length_now seen) ready.whose told)
        ∙ ap reply.Bytes (sym pins_are)

    pub look_owes : (points : List Point) → points ≡ after.points → last.owed ≡ owed_by short d before → last.asked ≡ before.asked → OwesAt script points i number last p
    look_owes points same owed asked =
        record {
          reads = ap machine_of asked ∙ reads;
          owed =
              subst (λ (ps : List Point). IsReplyAt script ps i number p last.owed) (sym same)
              (record {
                within = within;
                reply =
                    (λ j. (applied (sym of.most j) (map_by (call_of script) (sym of.most j) (points_before j)) Event.Pinned (call_of script (actor.Client i) (sym ready.count j))).1)
                    ∙ owed_there
                    ∙ ap reply.Bytes (sym owed);
              });
        }

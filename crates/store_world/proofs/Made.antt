-- A step of a client's call at the directory or at a server leaves it with what its look has pinned.
use Rattle.std.proofs.Common.{◌≡◌, ◌⊎◌, ℕ, Bool, false, List, Some, refl, sym, ap, subst, ◌∙◌, inl, inr, true≢false}
use Rattle.store_map.specs.declared.script.Script.{Script}
use Rattle.store_core.specs.Act.{Act, DirectoryStep, ServerStep}
use Rattle.store_core.specs.AtDirectory.{at_directory}
use Rattle.store_core.specs.Directory.{Directory}
use Rattle.store_core.specs.NextAct.{Job}
use Rattle.store_core.specs.Server.{at_server}
use Rattle.store_core.specs.Told.{Told, Seen}
use Rattle.store_core.specs.Tokens.{actor_of}
use Rattle.run_laws.specs.PinLaws.{IsReading}
use Rattle.run_laws.specs.State.{State}
use Rattle.run_laws.specs.StateActs.{act_at}
use Rattle.chunk_server.specs.State.{ServerState}
use Rattle.stripe_stamps.specs.Sealed.{Sealed}
use Rattle.call_steps.specs.declared.need.Need.{Need}
use Rattle.call_steps.specs.declared.need.Need.TheVariants as need
use Rattle.call_steps.specs.CallOf.{CallOf, act_of}
use Rattle.call_steps.specs.Steps.{need_of, at_directory_by, at_server_by}
use Rattle.call_steps.proofs.Needs.{needs_tell_acts}
use Rattle.client_read.specs.Owed.{owed_by as read_by}
use Rattle.call_machine.specs.Kinds.{Machine, machine_of, IfReads}
use Rattle.call_machine.specs.Calls.{MachineOf, owed_in, owed_by}
use Rattle.actors.specs.Turns.{IsMadeAt, IsMadeAtDirectory, IsMadeAtServer, places_of}
use Rattle.actors.proofs.Owing.{owed_at_server}
use Rattle.store_world.specs.Looked.{HasLooked}
use Rattle.store_world.specs.Serving.{OwesAt, OwesItsPins}
use Rattle.store_world.specs.ServeLaws.{HasMorePoints}
use Rattle.call_machine.proofs.Moves.{point_before}
use Rattle.call_machine.proofs.Acts.{IsLater, start_or_later, looked_by, reads_are_read, asks_server, starts, acts_stay}
use Rattle.call_machine.proofs.Owing.{step_in}
use Rattle.store_world.specs.OfMap.{IsOfMap}
use Rattle.store_world.proofs.Steps.{Opens, IsReady, owes_now, owes_later}
use Rattle.store_world.proofs.Looks.{act as look_act, look_owes}

module _ (script : Script) (d now : Sealed) (of : IsOfMap script d) (i number : ℕ) (r : CallOf) (before last : MachineOf) (ready : IsReady script d.core i number r before) (grown : HasMorePoints d.core.points now.core.points) (next : CallOf)
    (servers others : List ServerState) (short due : Bool) (is_last : last.call ≡ next) (asked : last.asked ≡ before.asked) (goes : last.owed ≡ owed_by short d before) where
  -- past the look a step there changes nothing of the bytes
  stays : IsLater r.state.at → last.owed ≡ before.owed
  stays later = goes ∙ by (machine_of before.asked)
    where
      by : (m : Machine) → owed_in m short d before ≡ before.owed
      by Machine.Reads =
          ap (λ (c : CallOf). read_by (act_of c) short c d before.owed) ready.is
          ∙ acts_stay r.book.geometry r.tries r.job r.state.pairs short r d before.owed r.state.at later
      by Machine.Puts = refl
      by Machine.Patches = refl
      by Machine.Rebuilds = refl

  at_directory_owes : (step : DirectoryStep) → act_of r ≡ Act.AtDirectory step → IsMadeAtDirectory short due r (places_of d servers) next (places_of now others)
      → OwesItsPins script now.core.points i number last
  at_directory_owes step is_act made =
      owes_now script d.core now.core.points i number r before last ready grown next answer is_last asked (ap (λ (c : CallOf). c.job) next_is) (ap (λ (c : CallOf). c.state) next_is)
      (λ p e. by p e (start_or_later r.state.at))
    where
      answer : Told
      answer = (at_directory short (actor_of r.token) r.number step d.core).1

      next_is : next ≡ (at_directory_by (Act.AtDirectory step) short due r d.core).1
      next_is = made.call ∙ ap (λ (a : Act). (at_directory_by a short due r d.core).1) is_act

      points_are : now.core.points ≡ (at_directory short (actor_of r.token) r.number step d.core).0.points
      points_are = ap (λ (x : Directory). x.points) (made.directory ∙ ap (λ (a : Act). (at_directory_by a short due r d.core).0) is_act)

      opened : r.state.at ≡ State.Start → machine_of before.asked ≡ Machine.Reads → Opens script d.core i r
      opened start reads = found (subst (λ (m : Machine). IfReads m (HasLooked r.state.at ⊎ Opens script d.core i r)) reads ready.looked)
        where
          found : HasLooked r.state.at ⊎ Opens script d.core i r → Opens script d.core i r
          found (inl h) = absurd (subst HasLooked start h)
          found (inr opens) = opens

      look : (p : ℕ) → r.state.at ≡ State.Start → IsReading r.job.note.kind × (length_now : ℕ) × (seen : List Seen) × (answer ≡ Told.Pinned p length_now seen) → OwesAt script now.core.points i number last p
      look p start h =
          let reads : machine_of before.asked ≡ Machine.Reads = reads_are_read before.asked (subst IsReading (ap (λ (j : Job). j.note.kind) ready.job) h.0) in
          let opens : Opens script d.core i r = opened start reads in
          let same : step ≡ DirectoryStep.Look r.job.note = ap step_in (sym is_act ∙ look_act script d of i number r before last ready opens reads h.0 short) in
          look_owes script d of i number r before last ready opens reads h.0 short p h.1 h.2
          (subst (λ (s : DirectoryStep). (at_directory short (actor_of r.token) r.number s d.core).1 ≡ Told.Pinned p h.1 h.2) same h.3) now.core.points
          (points_are ∙ ap (λ (s : DirectoryStep). (at_directory short (actor_of r.token) r.number s d.core).0.points) same)
          goes asked

      by : (p : ℕ) → point_before r.job.note.kind r.state.at answer ≡ Some p → (r.state.at ≡ State.Start) ⊎ IsLater r.state.at → OwesAt script now.core.points i number last p
      by p e (inr later) =
          owes_later script d.core now.core.points i number r before last ready grown next answer is_last asked (ap (λ (c : CallOf). c.job) next_is) (ap (λ (c : CallOf). c.state) next_is) later (stays later) p e
      by p e (inl start) = look p start (looked_by r.job.note.kind answer p (subst (λ (at : State). point_before r.job.note.kind at answer ≡ Some p) start e))

  at_server_owes : (server : ℕ) (step : ServerStep) → act_of r ≡ Act.AtServer server step → need_of before.call ≡ need.Server server
      → IsMadeAtServer server short due r (places_of d servers) next (places_of now others) → OwesItsPins script now.core.points i number last
  at_server_owes server step is_act needs made =
      owes_now script d.core now.core.points i number r before last ready grown next answer is_last asked (ap (λ (c : CallOf). c.job) next_is) (ap (λ (c : CallOf). c.state) next_is)
      (λ p e.
      owes_later script d.core now.core.points i number r before last ready grown next answer is_last asked (ap (λ (c : CallOf). c.job) next_is) (ap (λ (c : CallOf). c.state) next_is)
      (later (start_or_later r.state.at)) (goes ∙ sym (owed_at_server short d before server needs)) p e)
    where
      answer : Told
      answer = (at_server short step made.before).1

      next_is : next ≡ (at_server_by (Act.AtServer server step) short due r made.before).1
      next_is = made.call ∙ ap (λ (a : Act). (at_server_by a short due r made.before).1) is_act

      later : (r.state.at ≡ State.Start) ⊎ IsLater r.state.at → IsLater r.state.at
      later (inr h) = h
      later (inl start) =
          absurd
          (true≢false
          (ap asks_server (sym is_act ∙ ap (λ (at : State). act_at r.book.geometry r.tries r.job r.state.pairs at) start)
          ∙ (starts r.book.geometry r.tries r.job r.state.pairs r.job.note.kind).server))

  pub made_owes : (at : Need) → need_of r ≡ at → IsMadeAt at short due r (places_of d servers) next (places_of now others) → OwesItsPins script now.core.points i number last
  made_owes need.Directory e made =
      let found : (step : DirectoryStep) × (act_of r ≡ Act.AtDirectory step) × (r.due ≡ false) = needs_tell_acts.directory r e in
      at_directory_owes found.0 found.1 made
  made_owes (need.Server server) e made =
      let found : (step : ServerStep) × (act_of r ≡ Act.AtServer server step) × (r.due ≡ false) = needs_tell_acts.server r server e in
      at_server_owes server found.0 found.1 (ap need_of ready.is ∙ e) made
  made_owes need.Coder e made = absurd made
  made_owes need.Finished e made = absurd made

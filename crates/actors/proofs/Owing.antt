-- The bytes that a call reads and the stamps that it draws, in a turn.
use Rattle.std.proofs.Common.{◌≡◌, ℕ, Bool, false, List, [], ◌++◌, refl, sym, ap, ◌∙◌}
use Rattle.std.proofs.lemmas.List.{append-nil}
use Rattle.store_core.specs.Act.{Act, ServerStep}
use Rattle.store_map.specs.declared.call.Call.{Call}
use Rattle.version_seal.specs.Entry.{StampOf}
use Rattle.stripe_stamps.specs.Sealed.{Sealed}
use Rattle.call_steps.specs.declared.need.Need.TheVariants as need
use Rattle.call_steps.specs.CallOf.{act_of}
use Rattle.call_steps.specs.Steps.{need_of}
use Rattle.call_steps.proofs.Needs.{needs_tell_acts}
use Rattle.call_machine.specs.Kinds.{Asked, Machine, client_machine, machine_of}
use Rattle.call_machine.specs.Calls.{read_by, stamps_by, MachineOf, drawn_in, drawn_for, drawn_by, owed_in, owed_by}

-- a step at a server changes neither
module _ (short : Bool) (d : Sealed) (c : MachineOf) (server : ℕ) (step : ServerStep) (act : act_of c.call ≡ Act.AtServer server step) where
  owed_of_server : (m : Machine) → owed_in m short d c ≡ c.owed
  owed_of_server Machine.Reads = ap (λ (a : Act). read_by a short c.call d c.owed) act
  owed_of_server Machine.Puts = refl
  owed_of_server Machine.Patches = refl
  owed_of_server Machine.Rebuilds = refl

  drawn_at_server : (m : Machine) (written : Call) → drawn_in m short d c written ≡ []
  drawn_at_server Machine.Reads written = refl
  drawn_at_server Machine.Rebuilds written = refl
  drawn_at_server Machine.Puts written = ap (λ (a : Act). stamps_by a short d c.call written) act
  drawn_at_server Machine.Patches written = ap (λ (a : Act). stamps_by a short d c.call written) act

  drawn_for_server : (asked : Asked) → drawn_for asked short d c ≡ []
  drawn_for_server (Asked.OfClient written) = drawn_at_server (client_machine written) written
  drawn_for_server (Asked.OfRepairer rebuild) = refl

module _ (short : Bool) (d : Sealed) (c : MachineOf) (server : ℕ) (needs : need_of c.call ≡ need.Server server) where
  pub owed_at_server : c.owed ≡ owed_by short d c
  owed_at_server =
      let found : (step : ServerStep) × (act_of c.call ≡ Act.AtServer server step) × (c.call.due ≡ false) = needs_tell_acts.server c.call server needs in
      sym (owed_of_server short d c server found.0 found.1 (machine_of c.asked))

  pub stamps_at_server : d.stamps ≡ d.stamps ++ drawn_by short d c
  stamps_at_server =
      let found : (step : ServerStep) × (act_of c.call ≡ Act.AtServer server step) × (c.call.due ≡ false) = needs_tell_acts.server c.call server needs in
      sym (append-nil d.stamps) ∙ ap (λ (more : List StampOf). d.stamps ++ more) (sym (drawn_for_server short d c server found.0 found.1 c.asked))

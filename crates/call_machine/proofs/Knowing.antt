-- What a call knows of the old bytes that it keeps, whatever is asked.
use Rattle.std.proofs.Common.{◌≡◌, List, ◌++◌}
use Rattle.version_seal.specs.Entry.{StampOf}
use Rattle.stripe_stamps.specs.Sealed.{Sealed}
use Rattle.client_patch.specs.Known.{KnowsOld}
use Rattle.client_patch.proofs.Knowing.{more_stamps_are_known as more_known_by_patches}
use Rattle.call_machine.specs.Kinds.{Asked, client_machine}
use Rattle.call_machine.specs.Calls.{MachineOf, patch_of, KnowsFor, MoreStampsAreKnown, FirstCallsKnow}
use Rattle.call_machine.proofs.Machines.{if_patches, patches_then}

more_by : (asked : Asked) (d now : Sealed) (more : List StampOf) (c : MachineOf) → now.stamps ≡ d.stamps ++ more → KnowsFor asked d c → KnowsFor asked now c
more_by (Asked.OfClient written) d now more c stamps =
    patches_then (client_machine written) (KnowsOld d (patch_of c written)) (KnowsOld now (patch_of c written)) (more_known_by_patches d now more (patch_of c written) stamps)
more_by (Asked.OfRepairer rebuild) d now more c stamps = λ h. tt

pub more_stamps_are_known : MoreStampsAreKnown
more_stamps_are_known d now more c stamps knows = more_by c.asked d now more c stamps knows

pub first_calls_know : FirstCallsKnow
first_calls_know d book tries seat number (Asked.OfClient written) = if_patches (client_machine written) tt
first_calls_know d book tries seat number (Asked.OfRepairer rebuild) = tt

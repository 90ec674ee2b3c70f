-- What a call of one machine leaves of clauses that speak of all.
use Rattle.std.proofs.Common.{◌≡◌, ℕ, replicate, None, refl, sym, ap, subst, ◌∙◌}
use Rattle.store_map.specs.declared.call.Call.{Call}
use Rattle.stripe_stamps.specs.Sealed.{Sealed}
use Rattle.call_steps.specs.CallOf.{taken_of}
use Rattle.call_steps.proofs.Counts.{none_taken}
use Rattle.client_put.specs.Puts.{PutOf}
use Rattle.client_patch.specs.Patches.{PatchOf}
use Rattle.client_patch.specs.Known.{KnowsOld}
use Rattle.call_machine.specs.Kinds.{Asked, Machine, client_machine, machine_of, IfReads, IfPatches, IfDraws, IfRebuilds}
use Rattle.call_machine.specs.Calls.{MachineOf, patch_of, KnowsFor, KnowsOldOf}
use Rattle.call_machine.specs.Ends.{IsEndOf}
use Rattle.call_steps.specs.declared.outcome.CallOutcome.{CallOutcome}
use Rattle.call_machine.specs.Inside.{asked_by, call_by, call_in, IsOfKind}
use Rattle.call_machine.specs.declared.call_machine.MachineKind.{MachineKind}
use Rattle.call_machine.specs.declared.call_machine.MachineKind.TheVariants as kind
use Rattle.call_machine.specs.declared.call_machine.CallMachine.TheInside.{Inside}

-- a put has taken nothing
pub took_nothing : (a : Inside) (c : MachineOf) (put : PutOf) (servers : ℕ) → call_in a ≡ c → a.kind ≡ kind.Put put → put.call.takes ≡ replicate {A = ℕ} servers 0 → None ≡ taken_of c.call.takes
took_nothing a c put servers view is nothing =
    sym (none_taken servers) ∙ ap taken_of (sym nothing ∙ ap (λ (k : MachineKind). (call_by k (asked_by a.task)).call.takes) (sym is) ∙ ap (λ (v : MachineOf). v.call.takes) view)

-- what a machine that neither writes nor deletes need not know
pub others_know : (d : Sealed) (c : MachineOf) (asked : Asked) (m : Machine) → machine_of asked ≡ m → IfPatches m ⊥ → KnowsFor asked d c
others_know d c (Asked.OfRepairer rebuild) m is none = tt
others_know d c (Asked.OfClient written) Machine.Reads is none = subst (λ (m : Machine). IfPatches m (KnowsOld d (patch_of c written))) (sym is) tt
others_know d c (Asked.OfClient written) Machine.Puts is none = subst (λ (m : Machine). IfPatches m (KnowsOld d (patch_of c written))) (sym is) tt
others_know d c (Asked.OfClient written) Machine.Rebuilds is none = subst (λ (m : Machine). IfPatches m (KnowsOld d (patch_of c written))) (sym is) tt
others_know d c (Asked.OfClient written) Machine.Patches is none = absurd none

-- of what a machine of writes is asked
knows_as : (d : Sealed) (patch next : PatchOf) → client_machine patch.written ≡ Machine.Patches → next.written ≡ patch.written
    → (KnowsOld d patch → KnowsOld d next)
    → KnowsFor (Asked.OfClient patch.written) d (call_by (kind.Patch patch) (Asked.OfClient patch.written))
    → KnowsFor (Asked.OfClient patch.written) d (call_by (kind.Patch next) (Asked.OfClient patch.written))
knows_as d patch next its same knows was =
    let old : KnowsOld d patch = subst (λ (m : Machine). IfPatches m (KnowsOld d patch)) its was in
    subst (λ (m : Machine). IfPatches m (KnowsOld d (record next { written = patch.written }))) (sym its)
    (subst (KnowsOld d) (λ i. record next { written = same i }) (knows old))

-- a write knows what its machine knows
pub patch_knows : (d : Sealed) (a : Inside) (c : MachineOf) (patch next : PatchOf) → call_in a ≡ c → a.kind ≡ kind.Patch patch → IsOfKind a.kind (asked_by a.task) → next.written ≡ patch.written
    → (KnowsOld d patch → KnowsOld d next) → KnowsOldOf d c → KnowsOldOf d (call_by (kind.Patch next) (asked_by a.task))
patch_knows d a c patch next view is of_kind same knows holds =
    let its : IsOfKind (kind.Patch patch) (asked_by a.task) = subst (λ (k : MachineKind). IsOfKind k (asked_by a.task)) is of_kind in
    let was : KnowsOldOf d (call_by (kind.Patch patch) (asked_by a.task)) = subst (λ (k : MachineKind). KnowsOldOf d (call_by k (asked_by a.task))) is (subst (KnowsOldOf d) (sym view) holds) in
    let old : KnowsFor (Asked.OfClient patch.written) d (call_by (kind.Patch patch) (Asked.OfClient patch.written)) =
    subst (λ (w : Asked). KnowsFor w d (call_by (kind.Patch patch) w)) (sym its.1) was in
    let machine : client_machine patch.written ≡ Machine.Patches = ap machine_of its.1 ∙ its.0 in
    subst (λ (w : Asked). KnowsFor w d (call_by (kind.Patch next) w)) its.1 (knows_as d patch next machine same knows old)

-- what is asked, whatever machine makes it
asked_is : (k : MachineKind) (asked : Asked) → (call_by k asked).asked ≡ asked
asked_is (kind.Read read) asked = refl
asked_is (kind.Put put) asked = refl
asked_is (kind.Patch patch) asked = refl
asked_is (kind.Rebuild rebuild) asked = refl

-- what holds of rebuilds holds of the machine of any
pub of_rebuilds : (a : Inside) (c : MachineOf) (m : Machine) (P : Type 0) → call_in a ≡ c → machine_of (asked_by a.task) ≡ m → IfRebuilds m P
    → IfRebuilds (machine_of c.asked) P
of_rebuilds a c m P view is holds =
    subst (λ (v : MachineOf). IfRebuilds (machine_of v.asked) P) view
    (subst (λ (asked : Asked). IfRebuilds (machine_of asked) P) (sym (asked_is a.kind (asked_by a.task))) (subst (λ (m : Machine). IfRebuilds m P) (sym is) holds))

-- how a call of one machine ends is how one of what is asked does
pub ends_as : (a : Inside) (c : MachineOf) (m : Machine) (end : CallOutcome) → call_in a ≡ c → machine_of (asked_by a.task) ≡ m → IsEndOf m end
    → IsEndOf (machine_of c.asked) end
ends_as a c m end view is holds =
    subst (λ (v : MachineOf). IsEndOf (machine_of v.asked) end) view
    (subst (λ (asked : Asked). IsEndOf (machine_of asked) end) (sym (asked_is a.kind (asked_by a.task))) (subst (λ (m : Machine). IsEndOf m end) (sym is) holds))

-- what a machine of reads owes holds of all
pub if_reads : {P : Type 0} (m : Machine) → P → IfReads m P
if_reads Machine.Reads holds = holds
if_reads Machine.Puts holds = tt
if_reads Machine.Patches holds = tt
if_reads Machine.Rebuilds holds = tt

-- so does what machines of writes and deletes are asked, or those that draw
pub if_patches : {P : Type 0} (m : Machine) → P → IfPatches m P
if_patches Machine.Patches holds = holds
if_patches Machine.Puts holds = tt
if_patches Machine.Reads holds = tt
if_patches Machine.Rebuilds holds = tt

pub if_draws : {P : Type 0} (m : Machine) → P → IfDraws m P
if_draws Machine.Patches holds = holds
if_draws Machine.Puts holds = holds
if_draws Machine.Reads holds = tt
if_draws Machine.Rebuilds holds = tt

-- and what follows from it is asked of them too
pub patches_then : (m : Machine) (P Q : Type 0) → (P → Q) → IfPatches m P → IfPatches m Q
patches_then Machine.Patches P Q so h = so h
patches_then Machine.Puts P Q so h = tt
patches_then Machine.Reads P Q so h = tt
patches_then Machine.Rebuilds P Q so h = tt

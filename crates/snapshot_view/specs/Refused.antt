-- When no snapshot is taken.
use Rattle.std.specs.Prelude.{◌≡◌, ◌⊎◌, ℕ, ◌≤◌, ◌<◌, List, ◌++◌, length, map, take, drop}
use Rattle.store_core.specs.Agreement.{ActorToken}
use Rattle.stripe_stamps.specs.Sealed.{Sealed}
use Rattle.snapshot_view.specs.Tickets.{AgreesWithAll, AreOfSame}
use Rattle.snapshot_view.specs.LookSteps.{Looked, look_all, no_look}
use Rattle.snapshot_view.specs.Releasing.{Released, end_all, no_end}
use Rattle.snapshot_view.specs.declared.snapshot_fault.SnapFault.TheVariants as fault
use Rattle.snapshot_view.specs.declared.snapshot_fault.SnapRefused.{SnapRefused}

-- there are more objects than tickets, and nothing changed
pub record AreTooMany (tokens : List ActorToken) (before after : Sealed) (refused : SnapRefused) : Type 0 where
  pub more : length tokens < length before.core.objects
  pub why : refused.why ≡ fault.TooMany (length before.core.objects)
  pub directory : after ≡ before
  pub tickets : refused.tickets.items ≡ tokens

-- but for points it is the same directory
abbrev pub IsSameButPoints : Sealed → Sealed → Type 0
IsSameButPoints before after = after ≡ record before { core = record (before.core) { points = after.core.points } }

-- memory was wanting after some of the looks, whose passes were ended; their points stay
pub record IsGivenUp (number : ℕ) (tokens : List ActorToken) (before after : Sealed) (refused : SnapRefused) : Type 0 where
  pub enough : length before.core.objects ≤ length tokens
  pub why : refused.why ≡ fault.OutOfMemory
  pub made : ℕ
  pub some : made ≤ length before.core.objects
  pub looked : Looked
  pub looks : looked ≡ look_all number (no_look before.core) (take made tokens) (take made (map (λ object. object.name) before.core.objects))
  pub ended : Released
  pub ends : ended ≡ end_all number (no_end looked.directory) looked.tokens
  pub directory : after.core ≡ ended.directory
  pub same : IsSameButPoints before after
  pub tickets : refused.tickets.items ≡ ended.tokens ++ drop made tokens

-- the tickets come back, and the directory agrees with them
pub record IsRefused (number : ℕ) (tokens : List ActorToken) (before after : Sealed) (refused : SnapRefused) : Type 0 where
  pub case : AreTooMany tokens before after refused ⊎ IsGivenUp number tokens before after refused
  pub actors : AreOfSame tokens refused.tickets.items
  pub agrees : AgreesWithAll after.core refused.tickets.items

-- What a server tells is its own count at that moment.
use Rattle.std.proofs.Common.{◌≡◌, ℕ, Bool, true, false, length, refl}
use Rattle.std.proofs.lemmas.Bool.{cond_both}
use Rattle.store_map.specs.declared.placement.Found.{Found}
use Rattle.store_map.specs.declared.placement.Found.TheVariants as found
use Rattle.store_map.specs.declared.placement.Placement.{Placement}
use Rattle.store_map.specs.declared.placement.Placement.TheVariants as placement
use Rattle.store_core.specs.Act.{ServerStep, server_takes_memory}
use Rattle.store_core.specs.Lists.{is_among}
use Rattle.store_core.specs.Server.{Server, raised_by, hold, gives, found_at, install, made_at_server, server_unless_short, at_server}
use Rattle.store_core.specs.Told.{Told}

-- a reason why it gives no chunk
abbrev pub FoundNow : Server → Found → Type 0
FoundNow s (found.Absent epoch) = epoch ≡ s.epoch
FoundNow s (found.Away told) = told ≡ s.downs

-- how it takes one
abbrev pub PlacedNow : Server → Placement → Type 0
PlacedNow s (placement.At epoch) = epoch ≡ s.epoch
PlacedNow s (placement.Skipped told) = told ≡ s.downs

abbrev pub TellsNow : Server → Told → Type 0
TellsNow s (Told.Missing reason) = FoundNow s reason
TellsNow s (Told.Prepared row) = PlacedNow s row
TellsNow s (Told.Placed epoch) = epoch ≡ s.epoch
TellsNow s (Told.Away told) = told ≡ s.downs
TellsNow s answer = Unit {0}

abbrev After : Server → Server × Told → Type 0
After s after = TellsNow s after.1

missing_now : (s : Server) → FoundNow s (found_at s)
missing_now s = cond_both {A = Found} s.away (found.Away s.downs) (found.Absent s.epoch) (FoundNow s) (λ _. refl) (λ _. refl)

installs_now : (away there : Bool) (version : ℕ) (s : Server) → After s (install away there version s)
installs_now true there version s = refl
installs_now false true version s = tt
installs_now false false version s = refl

made_now : (step : ServerStep) (s : Server) → After s (made_at_server step s)
made_now (ServerStep.Prepare version) s =
    cond_both {A = Server × Told} s.away (s, Told.Prepared (placement.Skipped s.downs)) (record s { held = hold version s.held }, Told.Prepared (placement.At s.epoch)) (After s) (λ _. refl) (λ _. refl)
made_now (ServerStep.Settle version) s = tt
made_now (ServerStep.Has version) s = cond_both {A = Server × Told} (gives version s) (s, Told.Here) (s, Told.Missing (found_at s)) (After s) (λ _. tt) (λ _. missing_now s)
made_now (ServerStep.Fetch version layers) s =
    cond_both {A = Server × Told} (gives version s) (record s { taken = raised_by (length layers) s.taken }, Told.Given (length layers)) (s, Told.Missing (found_at s)) (After s) (λ _. tt) (λ _. missing_now s)
made_now (ServerStep.Install version) s = installs_now s.away (is_among version s.held) version s
made_now (ServerStep.Discard version) s = tt
made_now ServerStep.Wipe s = tt
made_now ServerStep.Down s = tt
made_now ServerStep.Up s = tt

pub tells_now : (short : Bool) (step : ServerStep) (s : Server) → TellsNow s (at_server short step s).1
tells_now short step s = by short (server_takes_memory step)
  where
    by : (short takes : Bool) → After s (server_unless_short short takes step s)
    by true true = tt
    by true false = made_now step s
    by false true = made_now step s
    by false false = made_now step s

-- One server: the versions whose chunks it holds, and one step at it.
use Rattle.std.specs.Prelude.{ℕ, ◌+◌, ◌-◌, ◌^◌, min, Bool, true, false, not, ◌&&◌, nat_eq, nat_lt, List, [], ◌∷◌, length, filter, if◌then◌else◌}
use Rattle.store_map.specs.declared.placement.Found.{Found}
use Rattle.store_map.specs.declared.placement.Found.TheVariants as found
use Rattle.store_map.specs.declared.placement.Placement.TheVariants as placement
use Rattle.store_core.specs.Lists.{is_among}
use Rattle.store_core.specs.Told.{Told}
use Rattle.store_core.specs.Act.{ServerStep, server_takes_memory}

-- the versions held, rising; how often it was emptied; how many subchunks were taken from it; how often it was made away; whether it is
pub record Server : Type 0 where
  pub held : List ℕ
  pub epoch : ℕ
  pub taken : ℕ
  pub downs : ℕ
  pub away : Bool

-- a server that holds nothing
abbrev pub new_server : Server
new_server = record { held = []; epoch = 0; taken = 0; downs = 0; away = false }

-- a count of 64 bits stays at its last value
abbrev pub raised_by : ℕ → ℕ → ℕ
raised_by n count = min (count + n) (2 ^ 64 - 1)

-- one version more is held, if it isn't yet
abbrev pub hold : ℕ → List ℕ → List ℕ
hold version [] = version ∷ []
hold version (other ∷ held) =
    if nat_lt version other then version ∷ other ∷ held
    else (if nat_eq version other then other ∷ held else other ∷ hold version held)

-- the version is held no more
abbrev pub let_go : ℕ → List ℕ → List ℕ
let_go version held = filter (λ other. not (nat_eq version other)) held

-- whether it gives chunks of a version: it isn't away, and holds the version
abbrev pub gives : ℕ → Server → Bool
gives version s = not s.away && is_among version s.held

-- why it gives none
abbrev pub found_at : Server → Found
found_at s = if s.away then found.Away s.downs else found.Absent s.epoch

-- a chunk is added, unless the server is away or has it
abbrev pub install : Bool → Bool → ℕ → Server → Server × Told
install true there version s = (s, Told.Away s.downs)
install false true version s = (s, Told.AlreadyThere)
install false false version s = (record s { held = hold version s.held }, Told.Placed s.epoch)

-- the step with ample memory; one that is away still settles, discards and is emptied
abbrev pub made_at_server : ServerStep → Server → Server × Told
made_at_server (ServerStep.Prepare version) s =
    if s.away then (s, Told.Prepared (placement.Skipped s.downs))
    else (record s { held = hold version s.held }, Told.Prepared (placement.At s.epoch))
made_at_server (ServerStep.Settle version) s = (s, Told.Settled)
made_at_server (ServerStep.Has version) s = if gives version s then (s, Told.Here) else (s, Told.Missing (found_at s))
made_at_server (ServerStep.Fetch version layers) s =
    if gives version s then (record s { taken = raised_by (length layers) s.taken }, Told.Given (length layers))
    else (s, Told.Missing (found_at s))
made_at_server (ServerStep.Install version) s = install s.away (is_among version s.held) version s
made_at_server (ServerStep.Discard version) s = (record s { held = let_go version s.held }, Told.Made)
made_at_server ServerStep.Wipe s = (record s { held = []; epoch = raised_by 1 s.epoch }, Told.Made)
made_at_server ServerStep.Down s = (record s { downs = raised_by 1 s.downs; away = true }, Told.Made)
made_at_server ServerStep.Up s = (record s { away = false }, Told.Made)

-- want of memory leaves the server as it was
abbrev pub server_unless_short : Bool → Bool → ServerStep → Server → Server × Told
server_unless_short true true step s = (s, Told.Short)
server_unless_short short takes step s = made_at_server step s

-- whether memory was wanting counts only at a step that takes some
abbrev pub at_server : Bool → ServerStep → Server → Server × Told
at_server short step s = server_unless_short short (server_takes_memory step) step s

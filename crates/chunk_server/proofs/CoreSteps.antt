-- Each step is the core's.
-- A chunk server is an ordered map seen as a list of chunks in rising order of versions; each call's new record and answer are one
-- equation, and its step of the definitions follows from that equation by a lemma on lists.
use Rattle.std.proofs.Common.{◌≡◌, ℕ, Bool, true, false, cond, ◌&&◌, not, List, length, Option, None, Some, is_some, refl, ap, ◌∙◌}
use Rattle.store_core.specs.Told.{Told}
use Rattle.store_core.specs.Act.{ServerStep}
use Rattle.version_seal.specs.Sealed.{ChunkOf}
use Rattle.store_core.specs.Server.{Server, at_server, raised_by, hold, install}
use Rattle.chunk_server.specs.State.{Held, ServerState, is_held, found_at}
use Rattle.chunk_server.specs.Steps.{after_adding, prepare_of, after_settle, presence_of, chunk_given, taken_from, fetch_of, install_by, install_of, after_discard}
use Rattle.chunk_server.specs.Core.{core_of, told_presence, told_given, told_added}
use Rattle.chunk_server.specs.declared.server_answers.Presence.{Presence}
use Rattle.chunk_server.specs.declared.server_answers.Presence.TheVariants as presence
use Rattle.store_map.specs.declared.placement.Placement.{Placement}
use Rattle.store_map.specs.declared.placement.Placement.TheVariants as placement
use Rattle.chunk_server.specs.declared.server.Mark.{Mark}
use Rattle.chunk_server.specs.declared.server.Mark.TheVariants.{Prepared, Settled}
use Rattle.chunk_server.proofs.Versions.{versions-hold, versions-let_go, versions-settled_at, is_some-chunk_of}

module _ (s : ServerState) where
  -- the core's server with these versions
  with_versions : List ℕ → Server
  with_versions versions = record { held = versions; epoch = s.epoch; taken = s.taken; downs = s.downs; away = s.away }

  -- a chunk that comes, whatever its mark and what is told
  core-adding : (mark : Mark) (chunk : ChunkOf) (answer : Told)
      → ◌≡◌ {A = Server × Told} (core_of (after_adding mark chunk s), answer) (record (core_of s) { held = hold chunk.stamp.version (core_of s).held }, answer)
  unfolding with_versions
  core-adding mark chunk answer =
      ap (λ versions. (with_versions versions, answer)) (versions-hold (record { version = chunk.stamp.version; mark = mark; chunk = chunk }) s.held)

  -- one that is prepared, unless the server is away
  pub core-prepare : (chunk : ChunkOf)
      → (core_of (prepare_of chunk s).0, Told.Prepared (prepare_of chunk s).1) ≡ at_server false (ServerStep.Prepare chunk.stamp.version) (core_of s)
  core-prepare chunk = by s.away
    where
      by : (away : Bool)
          → (let made = cond {A = ServerState × Placement} away (s, placement.Skipped s.downs) (after_adding Prepared chunk s, placement.At s.epoch)
          in (core_of made.0, Told.Prepared made.1))
          ≡ cond {A = Server × Told} away (core_of s, Told.Prepared (placement.Skipped s.downs))
          (record (core_of s) { held = hold chunk.stamp.version (core_of s).held }, Told.Prepared (placement.At s.epoch))
      by true = refl
      by false = core-adding Prepared chunk (Told.Prepared (placement.At s.epoch))

  -- one that is settled
  pub core-settle : (version : ℕ) → (core_of (after_settle version s), Told.Settled) ≡ at_server false (ServerStep.Settle version) (core_of s)
  unfolding with_versions
  core-settle version = ap (λ versions. (with_versions versions, Told.Settled)) (versions-settled_at version s.held)

  -- a look for one
  pub core-presence : (version : ℕ) → (core_of s, told_presence (presence_of version s)) ≡ at_server false (ServerStep.Has version) (core_of s)
  core-presence version = by (not s.away && is_held version s.held)
    where
      by : (given : Bool) → (core_of s, told_presence (cond {A = Presence} given presence.Here (presence.Missing (found_at s))))
          ≡ cond {A = Server × Told} given (core_of s, Told.Here) (core_of s, Told.Missing (found_at s))
      by true = refl
      by false = refl

  -- subchunks that are taken
  pub core-fetch : (version : ℕ) (layers : List ℕ)
      → (core_of (fetch_of version layers s).0, told_given (length layers) (fetch_of version layers s).1) ≡ at_server false (ServerStep.Fetch version layers) (core_of s)
  core-fetch version layers = by (chunk_given s.away version s.held) ∙ ap made (is_given s.away)
    where
      made : Bool → Server × Told
      made given =
          cond {A = Server × Told} given (record (core_of s) { taken = raised_by (length layers) s.taken }, Told.Given (length layers))
          (core_of s, Told.Missing (found_at s))

      by : (found : Option Held) → (core_of (taken_from layers s found).0, told_given (length layers) (taken_from layers s found).1) ≡ made (is_some found)
      by None = refl
      by (Some chunk) = refl

      is_given : (away : Bool) → is_some (chunk_given away version s.held) ≡ (not away && is_held version s.held)
      is_given true = refl
      is_given false = is_some-chunk_of version s.held

  -- a chunk that comes or is there
  pub core-install : (chunk : ChunkOf)
      → (core_of (install_of chunk s).0, told_added (install_of chunk s).1) ≡ at_server false (ServerStep.Install chunk.stamp.version) (core_of s)
  core-install chunk = by s.away (is_held chunk.stamp.version s.held)
    where
      by : (away held : Bool)
          → (core_of (install_by away held chunk s).0, told_added (install_by away held chunk s).1) ≡ install away held chunk.stamp.version (core_of s)
      by true held = refl
      by false true = refl
      by false false = core-adding Settled chunk (Told.Placed s.epoch)

  -- one that goes
  pub core-discard : (version : ℕ) → (core_of (after_discard version s), Told.Made) ≡ at_server false (ServerStep.Discard version) (core_of s)
  unfolding with_versions
  core-discard version = ap (λ versions. (with_versions versions, Told.Made)) (versions-let_go version s.held)

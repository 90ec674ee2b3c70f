-- What a put does next, and what each call does that writes: draw, prepare, commit, settle.
use Rattle.std.specs.Prelude.{ℕ, ◌+◌, ◌/◌, nat_lt, List, [], ◌∷◌, ◌++◌, if◌then◌else◌}
use Rattle.std.specs.List.{range_with_len}
use Rattle.clay_grid.specs.Shape.{Shape, chunk_count, stripe_length}
use Rattle.store_map.specs.declared.placement.Placement.{Placement}
use Rattle.store_map.specs.declared.reply.Reply.TheVariants as reply
use Rattle.store_core.specs.Lists.{places_of}
use Rattle.store_core.specs.Told.{Told}
use Rattle.store_core.specs.Placements.{skipped_from, skipped_count}
use Rattle.store_core.specs.Note.{Note}
use Rattle.store_core.specs.Act.{Act, DirectoryStep, ServerStep, Outcome}
use Rattle.store_core.specs.GatheringParts.{ending}

-- after the commit each chunk is settled, then the call is answered with the commit's point
abbrev pub settling : ℕ → List (ℕ × ℕ) → List Told → Act
settling point [] told = Act.Finish (Outcome.Answered point reply.Done)
settling point (place ∷ places) [] = Act.AtServer place.0 (ServerStep.Settle place.1)
settling point (place ∷ places) (_ ∷ told) = settling point places told

-- the versions of a committed call, and what was told since
abbrev pub committed : Shape → List ℕ → List Told → Act
committed g versions (Told.Done point ∷ told) = settling point (places_of (chunk_count g) versions) told
committed g versions _ = Act.Finish Outcome.NoMemory

-- all chunks are prepared: what the servers answered goes with the commit
abbrev pub committing : List (List Placement) → List Told → Act
committing placed [] = Act.AtDirectory (DirectoryStep.Commit placed)
committing placed (Told.Reaped point ∷ told) = Act.Finish (Outcome.Reaped point)
committing placed (_ ∷ told) = ending Outcome.NoMemory told

-- once more servers were away for a stripe's version than there are parity chunks, the call ends without a commit
abbrev pub unless_too_few : Shape → ℕ → List Placement → List Told → Act → Act
unless_too_few g stripe row told otherwise =
    if nat_lt g.parity_count (skipped_count row) then ending (Outcome.Unavailable stripe (skipped_from 0 row)) told else otherwise

-- the chunk of a stripe's version is prepared at each of some servers; next follows, with what all servers answered
abbrev pub preparing : Shape → ℕ → ℕ → (List Placement → List Told → Act) → List ℕ → List Placement → List Told → Act
preparing g stripe version next [] row told = next row told
preparing g stripe version next (server ∷ servers) row [] = Act.AtServer server (ServerStep.Prepare version)
preparing g stripe version next (server ∷ servers) row (Told.Prepared placement ∷ told) =
    unless_too_few g stripe (row ++ placement ∷ []) told (preparing g stripe version next servers (row ++ placement ∷ []) told)
preparing g stripe version next (server ∷ servers) row (_ ∷ told) = ending Outcome.NoMemory told

-- version after version, which are those of the stripes from one on
abbrev pub preparing_all : Shape → ℕ → List ℕ → List (List Placement) → List Told → Act
preparing_all g stripe [] placed told = committing placed told
preparing_all g stripe (version ∷ versions) placed told =
    preparing g stripe version (λ row. preparing_all g (stripe + 1) versions (placed ++ row ∷ [])) (range_with_len 0 (chunk_count g)) [] told

-- a version is drawn for each stripe that the call touches
abbrev pub drawing : Shape → Note → List Told → Act
drawing g note [] = Act.AtDirectory DirectoryStep.Draw
drawing g note (Told.Versions versions ∷ told) = preparing_all g (note.offset / stripe_length g) versions [] told
drawing g note (Told.Reaped point ∷ told) = Act.Finish (Outcome.Reaped point)
drawing g note (_ ∷ told) = ending Outcome.NoMemory told

-- a put by what it was told
abbrev pub next_put : Shape → Note → List Told → Act
next_put g note [] = Act.AtDirectory (DirectoryStep.Look note)
next_put g note (Told.Answer point answer ∷ told) = Act.Finish (Outcome.Answered point answer)
next_put g note (Told.Ready base length stripes ∷ told) = drawing g note told
next_put g note (Told.Versions versions ∷ told) = committed g versions told
next_put g note (_ ∷ told) = Act.Finish Outcome.NoMemory

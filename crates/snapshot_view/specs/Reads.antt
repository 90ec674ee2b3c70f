-- A read of a snapshot as callers see it, and what it replies.
use Rattle.std.specs.Prelude.{◌≡◌, ℕ, ◌+◌, min, List, length, map, Option, None, Some}
use Rattle.clay_grid.specs.Shape.{Shape, stripe_length}
use Rattle.clay_model.specs.Code.{stripes_of}
use Rattle.store_map.specs.PlainMap.{Objects, bytes_of, read_at}
use Rattle.store_map.specs.declared.reply.Reply.{Reply}
use Rattle.store_map.specs.declared.reply.Reply.TheVariants as reply
use Rattle.store_core.specs.Gathering.{Part}
use Rattle.store_core.specs.Read.{part_of}
use Rattle.run_laws.specs.State.{Sequel}
use Rattle.run_laws.specs.States.{parts_state, open_state}
use Rattle.stripe_stamps.specs.SeenStripes.{seen_in}
use Rattle.gather_parts.specs.Gatherings.{GatheringsOf, owed}
use Rattle.gather_parts.specs.States.{state_in}
use Rattle.snapshot_view.specs.Snapshots.{KeptOf, SnapshotOf, stored_kept, StandsFor}
use Rattle.snapshot_view.specs.Met.{met_by}
use Rattle.snapshot_view.specs.declared.read_outcomes.Ending.{Ending}
use Rattle.snapshot_view.specs.declared.read_outcomes.Ending.TheVariants as ending

-- its gatherings, and how it has ended, where that isn't what they come to
pub record ReadOf : Type 0 where
  pub gatherings : GatheringsOf
  pub ended : Option Ending

-- the map's reply to it: why it is refused, or the bytes that it gathers; none where memory was wanting in a coding
abbrev pub reply_by : Option Ending → List ℕ → Option Reply
reply_by None bytes = Some (reply.Bytes bytes)
reply_by (Some ending.NoSuch) bytes = Some reply.NoSuch
reply_by (Some ending.OutRange) bytes = Some reply.OutRange
reply_by (Some ending.NoMemory) bytes = None

abbrev pub reply_of : ReadOf → Option Reply
reply_of r = reply_by r.ended (owed r.gatherings)

-- whatever map the snapshot stands for, it is that map's reply to a read of the range
abbrev pub RepliesAs : SnapshotOf → List ℕ → ℕ → ℕ → ReadOf → Type 0
RepliesAs s name offset count r = (objects : Objects) → StandsFor s objects → reply_of r ≡ Some (read_at offset count (bytes_of name objects))

-- the same of an object that is kept
abbrev pub RepliesFor : Shape → KeptOf → ℕ → ℕ → ReadOf → Type 0
RepliesFor g kept offset count r =
    (bytes : List ℕ) → stored_kept kept ≡ (stripes_of g bytes, length bytes) → reply_of r ≡ Some (read_at offset count (Some bytes))

-- it gathers what the store's read gathers whose look was told the object's stripes as they stood
abbrev pub Gathers : Shape → KeptOf → ℕ → ℕ → ReadOf → Type 0
Gathers g kept offset count r =
    let end : ℕ = min (offset + count) kept.size in
    let parts : List Part = map (part_of g offset end) (map seen_in (met_by (stripe_length g) offset end kept.stripes)) in
    (after : Sequel) → state_in r.gatherings after ≡ open_state g (parts_state parts after)

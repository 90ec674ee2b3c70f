-- The fields of a call as callers see them, and what they keep.
use Rattle.std.specs.Prelude.{◌≡◌, ◌⊎◌, ℕ, ◌<◌, true, List, [], length, map, replicate, vec_capacity}
use Rattle.clay_grid.specs.Shape.{chunk_count}
use Rattle.store_core.specs.Note.{note_of}
use Rattle.store_core.specs.NextAct.{job_of}
use Rattle.store_core.specs.Tokens.{actor_of}
use Rattle.call_steps.specs.TokenAfter.{IsSeated}
use Rattle.call_steps.specs.declared.outcomes.Change.{Change}
use Rattle.gather_parts.specs.Gatherings.{owed}
use Rattle.gather_parts.specs.Progress.{progress_of}
use Rattle.write_course.specs.Writings.{versions_of}
use Rattle.client_patch.specs.Patches.{PatchOf, is_write, is_put, is_drawing, is_change}
use Rattle.call_steps.specs.Callers.{IsClient, IsOfScript, IsWaiting}
use Rattle.client_patch.specs.LookAfter.{IsFresh}
use Rattle.client_patch.specs.Stages.{state_by, due_by}
use Rattle.client_patch.specs.declared.patch_stage.PatchStage.{PatchStage}
use Rattle.client_patch.specs.declared.patch_stage.PatchStage.TheVariants as stage
use Rattle.client_patch.specs.declared.patch.PatchCall.TheInside.{Inside}
use Rattle.write_course.specs.Holding.{IsHolding, IsPassing, HasToken, IsGivenUp}
use Rattle.client_patch.specs.Holds.{IsOfCall, IsUngathered, PinsNothing, GathersNothing, HasRoom}

-- changes as the definitions keep them
abbrev pub pairs_in : List Change → List (ℕ × ℕ)
pairs_in changes = map (λ change. (change.looked_at.0, change.newer.0)) changes

-- what callers see
abbrev pub patch_in : Inside → PatchOf
patch_in a =
    record {
      call = record {
        book = a.opening;
        tries = a.tries;
        job = job_of a.call.now;
        number = a.number;
        token = a.ticket;
        state = record { pairs = pairs_in a.changes.items; at = state_by a.stage a.gatherings a.writing a.outcome };
        takes = a.gatherings.takes;
        due = due_by a.stage a.gatherings a.writing;
        coding = a.coding;
        step = a.step;
      };
      written = a.call.now;
      size = a.size;
      kept = owed a.gatherings;
    }

-- by its stage
abbrev pub Keeps : PatchStage → Inside → Type 0
Keeps stage.Looking a = IsWaiting a.number a.ticket × ((is_write a.call.now ≡ true) ⊎ (a.changes.items ≡ []))
Keeps stage.Looked a = IsHolding a.number (note_of a.call.now) [] a.ticket × IsFresh a.gatherings × (is_write a.call.now ≡ true)
Keeps stage.Gathering a =
    IsHolding a.number (note_of a.call.now) [] a.ticket × (is_write a.call.now ≡ true → length a.changes.items < vec_capacity a.changes) × (is_drawing a.call.now ≡ true)
    × (is_put a.call.now ≡ true → PinsNothing a.ticket × GathersNothing a.gatherings)
Keeps stage.Ungathered a = IsSeated a.ticket × IsUngathered (progress_of a.gatherings)
Keeps stage.Writing a =
    IsOfCall a.opening a.call.now a.size a.gatherings.bytes a.writing × HasToken a.number (note_of a.call.now) (versions_of a.writing.stamps) a.ticket a.writing.state
    × (is_write a.call.now ≡ true → HasRoom a.writing.state (length a.changes.items) (vec_capacity a.changes)) × (is_drawing a.call.now ≡ true)
Keeps stage.GivenUp a = IsSeated a.ticket × IsGivenUp a.writing.state
Keeps stage.Ending a = IsPassing a.number (note_of a.call.now) a.ticket
Keeps stage.Finished a = IsSeated a.ticket

-- what every call keeps
pub record IsPatch (a : Inside) : Type 0 where
  pub change : is_change a.call.now ≡ true
  pub client : IsClient a.actor
  pub actor_is : actor_of a.ticket ≡ a.actor
  pub script : IsOfScript a.opening a.actor a.number a.call.now
  pub book : a.gatherings.book ≡ a.opening
  pub tries : 0 < a.tries
  pub untaken : is_put a.call.now ≡ true → a.gatherings.takes ≡ replicate (chunk_count a.opening.geometry) 0
  pub kept : Keeps a.stage a

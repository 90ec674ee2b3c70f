-- A request that is served alone, with ample memory and no server away.
use Rattle.std.specs.Prelude.{◌≡◌, ℕ, ◌-◌, ◌^◌, ◌<◌, false, List, [], ◌∷◌, length, get_or, take, replicate, Option, None, Some, ⊤}
use Rattle.clay_grid.specs.Shape.{Shape, chunk_count, stripe_length}
use Rattle.clay_grid.specs.Limits.{IsGeometry}
use Rattle.store_map.specs.Laws.{names_of}
use Rattle.store_map.specs.PlainMap.{apply}
use Rattle.store_map.specs.declared.actor.Actor.TheVariants as actor
use Rattle.store_map.specs.declared.call.Call.{Call}
use Rattle.store_map.specs.declared.call.Call.TheVariants as call
use Rattle.store_map.specs.declared.call.Rebuild.{Rebuild as RebuildCall}
use Rattle.store_map.specs.declared.reply.Reply.{Reply}
use Rattle.store_map.specs.declared.reply.Reply.TheVariants as reply
use Rattle.store_core.specs.Told.{Seen, Told}
use Rattle.store_core.specs.Note.{note_of}
use Rattle.store_core.specs.Act.{Act, DirectoryStep, ServerStep}
use Rattle.store_core.specs.Lookups.{first_garbage}
use Rattle.store_core.specs.NextAct.{job_of, rebuild_job}
use Rattle.store_core.specs.AtDirectory.{at_directory}
use Rattle.store_core.specs.Calls.{Calls}
use Rattle.store_core.specs.Content.{contents_by}
use Rattle.store_core.specs.Read.{parts_of}
use Rattle.store_core.specs.Step.{Places, at_places}
use Rattle.store_core.specs.Sweep.{Sweeper}
use Rattle.run_laws.specs.ReadLaws.{bytes_read}
use Rattle.session_rules.specs.State.{Snapshot, State}
use Rattle.session_rules.specs.declared.request.Request.{Request}
use Rattle.session_rules.specs.declared.session_answer.Answer.{Answer}
use Rattle.session_rules.specs.Heals.{to_heal}
use Rattle.session_rules.specs.Serve.{serve}
use Rattle.session_rules.specs.Snapshots.{snap}
use Rattle.session_rules.specs.Alone.{EndsAs, sweeps}
use Rattle.session_rules.specs.Outcomes.{outcome_at}
use Rattle.session_rules.specs.AloneRebuilds.{rebuilt_as}
use Rattle.session_rules.specs.AloneHeals.{AreRebuilt}
use Rattle.session_rules.specs.Scrubs.{lost_at}
use Rattle.session_rules.specs.Takes.{AreTaken}
use Rattle.session_rules.specs.Between.{Seats, seats_after, IsBetween}
use Rattle.session_rules.specs.AloneSnapshots.{look_all, end_all, IsReadServed}

-- the sweeper comes to the end of its work, and leaves these places
pub record AreSweptTo (g : Shape) (before after : Places) : Type 0 where
  pub made : ℕ
  pub idle : sweeps g made (record { sweeper = Sweeper.Idle; places = before }) ≡ record { sweeper = Sweeper.Idle; places = after }
  pub clean : first_garbage after.directory ≡ None

-- where the call's look pins stripes, the map's reply is the bytes that their versions stand for
abbrev pub OwesBytes : Calls → Shape → Seats → Call → Places → Reply → Type 0
OwesBytes calls g seats call p answer =
    (point length_now : ℕ) (seen : List Seen) →
    (at_directory false (actor.Client seats.client) seats.calls (DirectoryStep.Look (note_of call)) p.directory).1
    ≡ Told.Pinned point length_now seen →
    answer ≡ reply.Bytes (bytes_read (contents_by g calls p.directory.versions) (parts_of g (note_of call) length_now seen))

-- a client's call runs alone to the outcome that stands for the answer, and the sweeper after it to its end
pub record IsCallServed (calls : Calls) (g : Shape) (max tries : ℕ) (seats : Seats) (call : Call) (s : State) (before : Places)
    (answer : Answer) (after : Places) : Type 0 where
  pub left : Places
  pub ends :
      EndsAs g tries (actor.Client seats.client) seats.calls (job_of call) before (outcome_at (length before.directory.points) answer) left
  pub swept : AreSweptTo g left after
  pub bytes : OwesBytes calls g seats call before (apply max call s.objects).1

-- the healing seat's calls make each chunk anew that can be, and have taken what is answered; where its numbers don't last nothing is done
abbrev pub IsHealServed : Shape → ℕ → Seats → State → Places → Answer → Places → Type 0
IsHealServed g tries seats s before (Answer.Healed rebuilt taken) after =
    AreRebuilt g tries (actor.Repairer seats.healer) s.next (to_heal g s) before after × (rebuilt ≡ length (to_heal g s))
    × AreTaken g tries (actor.Repairer seats.healer) s.next (to_heal g s) before (replicate (chunk_count g) 0) taken
IsHealServed g tries seats s before answer after = after ≡ before

-- a snapshot is taken by a look at each object, in the map's order; where none is taken nothing is done
abbrev pub IsSnapServed : Seats → State → Places → Answer → Places → Type 0
IsSnapServed seats s before (Answer.Replied answer) after = after ≡ look_all seats.looks seats.readers (names_of s.objects) before
IsSnapServed seats s before answer after = after ≡ before

-- a read of the snapshot that is open; where none is nothing is done
abbrev pub IsSnapRead : Calls → Shape → Seats → List ℕ → ℕ → ℕ → Option Snapshot → Places → Answer → Places → Type 0
IsSnapRead calls g seats name offset count None before answer after = after ≡ before
IsSnapRead calls g seats name offset count (Some kept) before answer after =
    IsReadServed calls g seats.readers kept name offset count before answer after

-- a snapshot is dropped: the passes of its looks end, one after another, and the sweeper comes to the end of its work; where none is open nothing is
-- done
abbrev pub IsSnapDropped : Shape → Seats → Option Snapshot → Places → Places → Type 0
IsSnapDropped g seats None before after = after ≡ before
IsSnapDropped g seats (Some kept) before after =
    AreSweptTo g (end_all seats.looks (take (length kept.numbers) seats.readers) before) after

-- what is done for a request in a state, with its answer, from these places to those
abbrev pub IsServedBy : Calls → Shape → ℕ → ℕ → Seats → State → Request → Places → Answer → Places → Type 0
IsServedBy calls g max tries seats s (Request.OfMap call) before answer after =
    IsCallServed calls g max tries seats call s before answer after
IsServedBy calls g max tries seats s (Request.Lose server) before answer after =
    after ≡ (at_places false actor.Operator 0 (Act.AtServer server ServerStep.Wipe) before).0
IsServedBy calls g max tries seats s (Request.Rebuild name stripe server) before answer after =
    let call : RebuildCall = record { name = name; stripe = stripe; server = server } in
    EndsAs g tries (actor.Repairer seats.repairer) seats.rebuilds (rebuild_job call) before (rebuilt_as answer) after
IsServedBy calls g max tries seats s Request.Scrub before answer after = (answer ≡ Answer.Scrubbed (lost_at before)) × (after ≡ before)
IsServedBy calls g max tries seats s Request.Heal before answer after = IsHealServed g tries seats s before answer after
IsServedBy calls g max tries seats s Request.Snap before answer after = IsSnapServed seats s before answer after
IsServedBy calls g max tries seats s (Request.SnapRead name offset count) before answer after =
    IsSnapRead calls g seats name offset count s.snapshot before answer after
IsServedBy calls g max tries seats s Request.SnapDrop before answer after = IsSnapDropped g seats s.snapshot before after

-- the looks of a snapshot are known: a get of each object, in order, by a reader each, under this number
abbrev pub AreLooks : Calls → ℕ → List ℕ → List (List ℕ) → Type 0
AreLooks calls number [] names = ⊤
AreLooks calls number (reader ∷ readers) [] = ⊤
AreLooks calls number (reader ∷ readers) (name ∷ names) =
    (calls (actor.Client reader) number ≡ Some (call.Get name)) × AreLooks calls number readers names

-- a request that may be asked in a state: a call is the one that is known under its number, as are the looks of a snapshot that is taken, a server is
-- one that there is, and a loss leaves its epoch a count of 64 bits
abbrev pub MayBeAsked : Calls → Shape → Seats → State → Request → Type 0
MayBeAsked calls g seats s (Request.OfMap call) = calls (actor.Client seats.client) seats.calls ≡ Some call
MayBeAsked calls g seats s (Request.Lose server) = (server < chunk_count g) × (get_or s.epochs server 0 < 2 ^ 64 - 1)
MayBeAsked calls g seats s (Request.Rebuild name stripe server) = server < chunk_count g
MayBeAsked calls g seats s Request.Scrub = ⊤
MayBeAsked calls g seats s Request.Heal = ⊤
MayBeAsked calls g seats s Request.Snap =
    (snap s.snapshot s).1 ≡ Answer.Replied reply.Done → AreLooks calls seats.looks seats.readers (names_of s.objects)
MayBeAsked calls g seats s (Request.SnapRead name offset count) = ⊤
MayBeAsked calls g seats s Request.SnapDrop = ⊤

-- it is served with the session's answer, and the places it leaves are between requests again, with the session's state
pub record IsServedAlone (calls : Calls) (g : Shape) (max tries : ℕ) (seats : Seats) (s : State) (request : Request) (before : Places) :
    Type 0 where
  pub after : Places
  pub stands : List ℕ
  pub served : IsServedBy calls g max tries seats s request before (serve g max request s).1 after
  pub between : IsBetween calls g max (seats_after request seats) stands after (serve g max request s).0

-- so it is of each request that may be asked, with a try at least
abbrev pub RequestsAreServed : Type 0
RequestsAreServed =
    (calls : Calls) (g : Shape) (max tries : ℕ) (seats : Seats) (stands : List ℕ) (p : Places) (s : State) (request : Request) →
    0 < stripe_length g → IsGeometry g → 0 < tries → IsBetween calls g max seats stands p s → MayBeAsked calls g seats s request →
    IsServedAlone calls g max tries seats s request p

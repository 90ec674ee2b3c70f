-- Where an actor is after its step.
use Rattle.std.specs.Prelude.{⊤}
use Rattle.std.proofs.Common.{◌≡◌, ◌⊎◌, ℕ, ◌+◌, ◌≤◌, Bool, true, false, List, length, Option, None, Some, IfSome, IsTrue, Vec, Global, if◌then◌else◌, refl, sym, subst, ◌∙◌, arith}
use Rattle.std.proofs.lemmas.Bool.{true≢false}
use Rattle.std.proofs.lemmas.List.{length-map}
use Rattle.store_map.specs.declared.call.Call.{Call}
use Rattle.store_map.specs.declared.script.Script.{Script}
use Rattle.store_core.specs.Told.{Seen as CoreSeen}
use Rattle.store_core.specs.Note.{Kind, note_of}
use Rattle.store_core.specs.Look.{stripes_between}
use Rattle.store_core.specs.Agreement.{Seat, HeldPass, ActorToken}
use Rattle.store_core.specs.Tokens.{after_look, begun_by, after_pass_step}
use Rattle.version_seal.specs.Entry.{BookOf, RequestOf, StampOf, call_written, is_writing, IsRequestIn}
use Rattle.stripe_dir.specs.declared.directory_answers.Look.{Look}
use Rattle.stripe_dir.specs.declared.directory_answers.Look.TheVariants as look
use Rattle.stripe_dir.specs.declared.directory_answers.Drawn.{Drawn}
use Rattle.stripe_dir.specs.declared.directory_answers.Drawn.TheVariants as draw
use Rattle.stripe_dir.specs.declared.directory_answers.Committed.{Committed}
use Rattle.stripe_dir.specs.declared.directory_answers.Committed.TheVariants as commit
use Rattle.stripe_dir.specs.declared.directory_answers.Ended.{Ended}
use Rattle.stripe_dir.specs.declared.directory_answers.Ended.TheVariants as end
use Rattle.stripe_dir.specs.Answers.{told_look, told_drawn, told_committed, told_ended}
use Rattle.dir_walks.specs.declared.test_stage.WalkStage.{WalkStage}
use Rattle.dir_walks.specs.declared.test_stage.WalkStage.TheVariants as stage
use Rattle.dir_walks.specs.Callers.{CallerOf, IsBegun, IsDrawn, IsAt, is_seated}
use Rattle.dir_walks.specs.After.{writes, stage_after_look, stage_after_draw, drawn_by, unused_after_commit}
use Rattle.dir_walks.proofs.Goes.{to_write, writing}

-- ---- what the stage says of the ticket
module _ (book : BookOf) (c : CallerOf) where
  pub seated : (t : ActorToken) → IsAt book c stage.Seated t → (seat : Seat) × (t ≡ ActorToken.Seated seat) × (seat.unused ≤ c.unused)
  seated (ActorToken.Seated seat) at = (seat, refl, at)
  seated (ActorToken.InCall held) at = absurd at

  pub begun : (t : ActorToken) → IsAt book c stage.Begun t → (held : HeldPass) × (t ≡ ActorToken.InCall held) × IsBegun book c held
  begun (ActorToken.Seated seat) at = absurd at
  begun (ActorToken.InCall held) at = (held, refl, at)

  pub drawn : (t : ActorToken) → IsAt book c stage.Drawn t → (held : HeldPass) × (t ≡ ActorToken.InCall held) × IsDrawn book.geometry c held
  drawn (ActorToken.Seated seat) at = absurd at
  drawn (ActorToken.InCall held) at = (held, refl, at)

  pub in_call : (its : WalkStage) (t : ActorToken) → is_seated its ≡ false → IsAt book c its t → (held : HeldPass) × (t ≡ ActorToken.InCall held) × (held.pass.number ≡ c.number)
  in_call stage.Seated t other at = absurd (true≢false other)
  in_call stage.Reading (ActorToken.Seated seat) other at = absurd at
  in_call stage.Reading (ActorToken.InCall held) other at = (held, refl, at)
  in_call stage.Begun (ActorToken.Seated seat) other at = absurd at
  in_call stage.Begun (ActorToken.InCall held) other at = (held, refl, at.numbered)
  in_call stage.Drawn (ActorToken.Seated seat) other at = absurd at
  in_call stage.Drawn (ActorToken.InCall held) other at = (held, refl, at.numbered)

-- ---- after a step on the actor's pass
module _ (book : BookOf) (now : CallerOf) (held : HeldPass) where
  pub at_end : (answer : Ended ⊤) → held.pass.number + 1 ≤ now.unused → IsAt book now stage.Seated (after_pass_step held (told_ended answer))
  at_end (end.Ended seat) last = last
  at_end (end.Reaped seat point) last = last

  pub at_commit : (answer : Committed ⊤) → now.unused ≡ unused_after_commit held.pass.number answer → IsAt book now stage.Seated (after_pass_step held (told_committed answer))
  at_commit (commit.Done seat point) is = omega (arith, is)
  at_commit (commit.Changed seat base newer) is = omega (arith, is)
  at_commit (commit.Reaped seat point) is = omega (arith, is)

  pub at_draw : (answer : Drawn ⊤ ⊤) → held.pass.number ≡ now.number → (held.pass.note.kind ≡ Kind.Put) ⊎ (held.pass.note.kind ≡ Kind.Write) → now.drawn ≡ drawn_by answer
      → ((stamps : Vec StampOf Global) → answer ≡ draw.Versions tt stamps → length stamps.items ≡ length (stripes_between book.geometry held.pass.note.offset (held.pass.note.offset + held.pass.note.length)))
      → held.pass.number + 1 ≤ now.unused → IsAt book now (stage_after_draw answer) (after_pass_step held (told_drawn answer))
  at_draw (draw.Versions pass stamps) numbered kind counted touched last =
      record {
        numbered = numbered;
        writes = kind;
        touched = length-map stamps.items (λ (stamp : StampOf). stamp.version) ∙ touched stamps refl;
        counted = counted ∙ sym (length-map stamps.items (λ (stamp : StampOf). stamp.version));
      }
  at_draw (draw.Reaped seat point) numbered kind counted touched last = last

-- ---- after a look
module _ (book : BookOf) (now : CallerOf) (seat : Seat) where
  module _ (its : Call) (request : RequestOf) (requested : now.request ≡ Some request) (home : request.home ≡ book.home) (actor : request.actor ≡ seat.actor) (numbered : request.number ≡ now.number) (call : request.call ≡ its) (free : book.script ≡ None) where
    writing_now : writes its ≡ true → IsTrue (is_writing (call_written book.script seat.actor now.number now.request))
    writing_now w =
        subst (λ (p : Option Script × Option RequestOf). IsTrue (is_writing (call_written p.0 seat.actor now.number p.1))) (λ i. (sym free i, sym requested i))
        (subst (λ (c : Call). IsTrue (is_writing (Some c))) (sym call) (writing its w))

    asked_now : IfSome now.request (λ r. IsRequestIn book seat.actor now.number r)
    asked_now =
        subst (λ (o : Option RequestOf). IfSome o (λ r. IsRequestIn book seat.actor now.number r)) (sym requested) (record { same_home = home; same_actor = actor; same_call = numbered })

    goes_on : (w : Bool) → writes its ≡ w → (seen : List CoreSeen) (base told : Option ℕ) → IsAt book now (if w then stage.Begun else stage.Reading) (begun_by seat now.number (note_of its) seen base told)
    goes_on true w seen base told =
        record {
          numbered = refl;
          writes = to_write its w;
          undrawn = refl;
          seals = record { writes = writing_now w; asked = asked_now };
        }
    goes_on false w seen base told = refl

    pub at_look : (answer : Look ⊤ ⊤) → now.number + 1 ≤ now.unused → IsAt book now (stage_after_look its answer) (after_look seat now.number (note_of its) (told_look answer))
    at_look (look.Answer gone point reply) last = last
    at_look (look.Pinned gone point count stripes) last = goes_on (writes its) refl _ _ _
    at_look (look.Ready gone base count stripes) last = goes_on (writes its) refl _ _ _

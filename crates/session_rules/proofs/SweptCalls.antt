-- Puts, writes and deletes from quiet places to quiet places.
use Rattle.std.proofs.Common.{◌≡◌, ℕ, ◌-◌, ◌<◌, List, ◌++◌, length, true, false, refl, sym, ap, subst, ◌∙◌, arith}
use Rattle.std.specs.List.{range_with_len}
use Rattle.std.proofs.lemmas.List.{append-nil}
use Rattle.clay_grid.specs.Shape.{Shape, stripe_length}
use Rattle.store_map.specs.PlainMap.{apply}
use Rattle.store_map.specs.declared.actor.Actor.{Actor}
use Rattle.store_map.specs.declared.call.Call.{Call}
use Rattle.store_map.specs.declared.content.Content.{Content}
use Rattle.store_map.specs.declared.call.Call.TheVariants as call
use Rattle.store_core.specs.Note.{note_of}
use Rattle.store_core.specs.Conditions.{MayBegin, IsOfClient}
use Rattle.store_core.specs.Step.{Places}
use Rattle.session_rules.specs.State.{State}
use Rattle.session_rules.specs.declared.session_answer.Answer.{Answer}
use Rattle.session_rules.specs.Calls.{is_refusal, serve_by, serve_call}
use Rattle.session_rules.specs.Seen.{IsSeenAs, IsQuiet}
use Rattle.session_rules.specs.Sweeps.{KeepsPinned}
use Rattle.session_rules.specs.Quiet.{AreSwept}
use Rattle.session_rules.specs.Writes.{stands_after, IsWriteServedAs}
use Rattle.session_rules.specs.Puts.{drawn_by, directory_after, holding, IsWrittenAs}
use Rattle.session_rules.specs.ServedLaws.{IsServedAs, IsDeletedAs}
use Rattle.session_rules.specs.Settled.{IsSettledAfter}
use Rattle.session_rules.specs.SweptCalls.{IsServedAndSwept, PutsAreSwept, DeletesAreSwept, WritesAreSwept}
use Rattle.session_rules.proofs.Walks.{by_bool}
use Rattle.session_rules.proofs.Refused.{refused_writes_are_served}
use Rattle.session_rules.proofs.WriteLaw.{writes_are_served}
use Rattle.session_rules.proofs.PutSeen.{puts_are_served, puts_are_settled}
use Rattle.session_rules.proofs.Singles.{deletes_are_served}
use Rattle.session_rules.proofs.Quiet.{all_garbage_is_swept}
use Rattle.session_rules.proofs.Settled.{quiet_is_settled}

pub puts_are_swept : PutsAreSwept
puts_are_swept g max tries stands p s who number name content some h pinned quiet begin client few =
    let written : IsWrittenAs g max tries stands p s who number name content = puts_are_served g max tries stands p s who number name content some h begin client few in
    let settled : IsSettledAfter g max stands p s who number name content =
    puts_are_settled g max stands p s who number name content some h pinned (quiet_is_settled g max stands p s h pinned quiet) begin client few in
    let drawn : List ℕ = drawn_by who number (note_of (call.Put name content)) p in
    let left : Places = record { directory = directory_after who number (note_of (call.Put name content)) p; servers = holding drawn p.servers } in
    record {
      left = left;
      ends = written.ends;
      swept = all_garbage_is_swept g max (stands ++ drawn) left (serve_call g max (call.Put name content) s).0 some written.seen settled.pinned settled.settled;
    }

pub deletes_are_swept : DeletesAreSwept
deletes_are_swept g max tries stands p s who number name some h pinned quiet begin client =
    let gone : IsDeletedAs g max tries who number (call.Delete name) stands p s (serve_call g max (call.Delete name) s) = deletes_are_served g max tries stands p s who number name some h begin client in
    record {
      left = gone.after;
      ends = gone.ends;
      swept =
          all_garbage_is_swept g max stands gone.after (serve_call g max (call.Delete name) s).0 some gone.seen (gone.pinned pinned)
          (gone.settled (quiet_is_settled g max stands p s h pinned quiet));
    }

module _ (g : Shape) (max tries : ℕ) (stands : List ℕ) (p : Places) (s : State) (who : Actor) (number : ℕ) (name : List ℕ) (offset : ℕ) (content : Content) (some : 0 < stripe_length g) (tried : 0 < tries)
    (h : IsSeenAs g max stands p s) (pinned : KeepsPinned stands p s) (quiet : IsQuiet stands p s) (begin : MayBegin p.directory who number) (client : IsOfClient who (note_of (call.Write name offset content))) where
  abbrev c : Call
  c = call.Write name offset content

  abbrev Swept : State × Answer → Type 0
  Swept served = IsServedAndSwept g max tries who number (call.Write name offset content) p (stands_after stands p s served.0) served

  taken : is_refusal (apply max c s.objects).1 ≡ false → Swept (serve_call g max c s)
  taken e =
      let written : IsWriteServedAs g max tries who number c stands p s (serve_call g max c s) = writes_are_served g max tries stands p s who number name offset content some tried h begin client e in
      record {
        left = written.after;
        ends = written.ends;
        swept =
            all_garbage_is_swept g max (stands_after stands p s (serve_call g max c s).0) written.after (serve_call g max c s).0 some written.seen (written.pinned pinned)
            (written.settled (quiet_is_settled g max stands p s h pinned quiet));
      }

  nothing_new : stands_after stands p s s ≡ stands
  nothing_new = let none : length s.stripes - length s.stripes ≡ 0 = omega arith in ap (λ n. stands ++ range_with_len (length p.directory.versions) n) none ∙ append-nil stands

  refused : is_refusal (apply max c s.objects).1 ≡ true → Swept (serve_call g max c s)
  refused e = subst Swept (sym stays) (by (subst (IsServedAs g max tries who number c stands p) stays (refused_writes_are_served g max tries stands p s who number name offset content some tried h begin client e)))
    where
      answer : Answer
      answer = Answer.Replied (apply max c s.objects).1

      stays : serve_call g max c s ≡ (s, Answer.Replied (apply max c s.objects).1)
      stays = ap (λ b. serve_by b g c s (apply max c s.objects)) e

      by : IsServedAs g max tries who number c stands p (s, Answer.Replied (apply max c s.objects).1) → Swept (s, Answer.Replied (apply max c s.objects).1)
      by served = record {
        left = served.after;
        ends = served.ends;
        swept =
            subst (λ l. AreSwept g max l served.after s) (sym nothing_new)
            (record { made = 0; after = served.after; idle = refl; seen = served.seen; pinned = served.pinned pinned; quiet = served.quiet quiet });
      }

  write_swept : Swept (serve_call g max c s)
  write_swept = by_bool (is_refusal (apply max c s.objects).1) refused taken

pub writes_are_swept : WritesAreSwept
writes_are_swept g max tries stands p s who number name offset content some tried h pinned quiet begin client = write_swept g max tries stands p s who number name offset content some tried h pinned quiet begin client

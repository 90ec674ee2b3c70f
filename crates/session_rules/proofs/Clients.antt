-- Calls of the map: each leads from places between two requests to such places.
use Rattle.std.proofs.Common.{◌≡◌, ℕ, ◌+◌, ◌-◌, ◌<◌, ◌≤◌, true, false, List, ◌++◌, length, Some, refl, sym, ap, subst, subst₂, inl, inr, arith, if◌then◌else◌, nat_lt}
use Rattle.std.specs.Bool.{⊤}
use Rattle.std.specs.List.{range_with_len}
use Rattle.std.proofs.lemmas.Bool.{ltb-false}
use Rattle.clay_grid.specs.Shape.{Shape, stripe_length}
use Rattle.store_map.specs.Content.{content_bytes, content_length}
use Rattle.store_map.specs.PlainMap.{Objects, apply, put}
use Rattle.store_map.specs.declared.actor.Actor.TheVariants as actor
use Rattle.store_map.specs.declared.call.Call.{Call}
use Rattle.store_map.specs.declared.call.Call.TheVariants as call
use Rattle.store_map.specs.declared.content.Content.{Content}
use Rattle.store_map.specs.declared.reply.Reply.{Reply}
use Rattle.store_map.specs.declared.reply.Reply.TheVariants as reply
use Rattle.store_core.specs.Lists.{is_among}
use Rattle.store_core.specs.Note.{Kind, note_of}
use Rattle.store_core.specs.NextAct.{job_of}
use Rattle.store_core.specs.Calls.{Calls}
use Rattle.store_core.specs.Conditions.{MayBegin, IsOfClient}
use Rattle.store_core.specs.Content.{contents_by}
use Rattle.store_core.specs.Read.{parts_of}
use Rattle.store_core.specs.Step.{Places}
use Rattle.run_laws.specs.ReadLaws.{bytes_read}
use Rattle.session_rules.specs.State.{State}
use Rattle.session_rules.specs.declared.request.Request.{Request}
use Rattle.session_rules.specs.Calls.{is_refusal, serve_call}
use Rattle.session_rules.specs.Alone.{EndsAs}
use Rattle.session_rules.specs.Seen.{version_of, snapshot_numbers, IsSeenAs, IsQuiet}
use Rattle.session_rules.specs.Sweeps.{KeepsPinned}
use Rattle.session_rules.specs.Quiet.{IsSettled, AreSwept}
use Rattle.session_rules.specs.Outcomes.{outcome_at}
use Rattle.session_rules.specs.Puts.{drawn_by, IsWrittenAs}
use Rattle.session_rules.specs.ServedLaws.{IsServedAs, IsDeletedAs}
use Rattle.session_rules.specs.Settled.{IsSettledAfter}
use Rattle.session_rules.specs.Writes.{stands_after, IsWriteServedAs}
use Rattle.session_rules.proofs.Walks.{by_bool}
use Rattle.session_rules.proofs.ReadLaw.{reads_are_served}
use Rattle.session_rules.proofs.Refused.{refused_puts_are_served, refused_writes_are_served}
use Rattle.session_rules.proofs.WriteLaw.{writes_are_served}
use Rattle.session_rules.proofs.PutSeen.{puts_are_served, puts_are_settled}
use Rattle.session_rules.proofs.Singles.{stats_are_served, deletes_are_served}
use Rattle.session_rules.proofs.Quiet.{all_garbage_is_swept}
use Rattle.session_rules.proofs.Settled.{quiet_is_settled}
use Rattle.session_rules.proofs.Maps.{bytes_are_owed}
use Rattle.session_rules.proofs.CallLeft.{calls_leave_maps}
use Rattle.session_rules.specs.Seats.{MayBeginFrom}
use Rattle.session_rules.specs.Readers.{HoldsSnapshot}
use Rattle.session_rules.specs.Between.{Seats, seats_after, IsBetween}
use Rattle.session_rules.specs.Serving.{OwesBytes, IsServedAlone}
use Rattle.session_rules.proofs.RunKept.{begins, call_leaves, call_ended}
use Rattle.session_rules.proofs.Rests.{Rests, swept_to, between_swept}
use Rattle.session_rules.proofs.Leaving.{call_leaves as call_keeps}
use Rattle.session_rules.proofs.Readers.{client_apart, same_stood, holds_after}
use Rattle.session_rules.proofs.Answers.{call_next, call_snapshot, refused_state, get_state, read_state, stat_state}

-- a client's calls aren't rebuilds
abbrev IsOther : Kind → Type 0
IsOther Kind.Rebuild = ⊥
IsOther kind = ⊤

pub of_client : (client : ℕ) (c : Call) → IsOfClient (actor.Client client) (note_of c)
of_client client (call.Put name content) = inr (inr ((λ e. subst IsOther e tt), refl))
of_client client (call.Write name offset content) = inl refl
of_client client (call.Get name) = inr (inr ((λ e. subst IsOther e tt), refl))
of_client client (call.ReadAt name offset count) = inr (inl refl)
of_client client (call.Stat name) = inr (inr ((λ e. subst IsOther e tt), refl))
of_client client (call.Delete name) = inr (inr ((λ e. subst IsOther e tt), refl))

module _ (calls : Calls) (g : Shape) (max tries : ℕ) (seats : Seats) (stands : List ℕ) (p : Places) (s : State) (some : 0 < stripe_length g) (tried : 0 < tries) (h : IsBetween calls g max seats stands p s) where
  pub begin : MayBegin p.directory (actor.Client seats.client) seats.calls
  begin = begins p.directory (actor.Client seats.client) seats.calls h.client

  settled : IsSettled stands p s
  settled = quiet_is_settled g max stands p s h.seen h.pinned h.quiet

  module _ (c : Call) (is : calls (actor.Client seats.client) seats.calls ≡ Some c) where
    owes : OwesBytes calls g seats c p (apply max c s.objects).1
    owes point length_now seen told =
        subst₂ (λ shape most. (apply most c s.objects).1 ≡ reply.Bytes (bytes_read (contents_by shape calls p.directory.versions) (parts_of shape (note_of c) length_now seen))) h.seen.shape h.seen.most
        (bytes_are_owed calls g max stands p s (actor.Client seats.client) seats.calls c point length_now seen (subst (λ shape. 0 < stripe_length shape) (sym h.seen.shape) some) h.seen h.its_map begin
        (of_client seats.client c) is told)

    -- the call has ended, and left settled places; the sweeper goes on
    module _ (stood : List ℕ) (left : Places) (ends : EndsAs g tries (actor.Client seats.client) seats.calls (job_of c) p (outcome_at (length p.directory.points) (serve_call g max c s).1) left)
        (seen : IsSeenAs g max stood left (serve_call g max c s).0) (pinned : KeepsPinned stood left (serve_call g max c s).0) (still : IsSettled stood left (serve_call g max c s).0)
        (alike : (n : ℕ) → is_among n (snapshot_numbers s.snapshot) ≡ true → version_of stood n ≡ version_of stands n) where
      abbrev now : State
      now = (serve_call g max c s).0

      abbrev clean : AreSwept g max stood left now
      clean = all_garbage_is_swept g max stood left now some seen pinned still

      other : (repairer unused : ℕ) → MayBeginFrom p.directory (actor.Repairer repairer) unused → MayBeginFrom left.directory (actor.Repairer repairer) unused
      other repairer unused seat =
          call_leaves (actor.Repairer repairer) unused g tries (actor.Client seats.client) seats.calls (job_of c) refl p left (outcome_at (length p.directory.points) (serve_call g max c s).1) ends seat

      rests : Rests calls g max (seats_after (Request.OfMap c) seats) stood left now
      rests = record {
        seen = seen;
        its_map =
            calls_leave_maps.served calls g max tries stands p left s (actor.Client seats.client) seats.calls (length p.directory.points) c some h.seen h.its_map begin (of_client seats.client c) is ends;
        client = call_ended g tries (actor.Client seats.client) seats.calls c p left (outcome_at (length p.directory.points) (serve_call g max c s).1) ends h.client;
        repairer = other seats.repairer seats.rebuilds h.repairer;
        healer = subst (MayBeginFrom left.directory (actor.Repairer seats.healer)) (sym (call_next g max s c)) (other seats.healer s.next h.healer);
        apart = h.apart;
        readers = h.readers;
        snapshot =
            subst (HoldsSnapshot calls g seats.readers seats.looks stood left.directory) (sym (call_snapshot g max s c))
            (holds_after calls g max seats.readers seats.looks stands stood p s some h.seen h.snapshot (actor.Client seats.client) (client_apart seats.client seats.readers h.readers) left.directory
            (λ P keeps its. call_keeps P (actor.Client seats.client) keeps g tries seats.calls (job_of c) p left (outcome_at (length p.directory.points) (serve_call g max c s).1) ends its)
            (call_ended g tries (actor.Client seats.client) seats.calls c p left (outcome_at (length p.directory.points) (serve_call g max c s).1) ends h.client).no_pass alike);
      }

      swept : IsServedAlone calls g max tries seats s (Request.OfMap c) p
      swept = record {
        after = clean.after;
        stands = stood;
        served = record { left = left; ends = ends; swept = swept_to calls g max (seats_after (Request.OfMap c) seats) stood left now some rests clean; bytes = owes };
        between = between_swept calls g max (seats_after (Request.OfMap c) seats) stood left now some rests clean;
      }

    -- one that leaves the state
    unseen : IsServedAs g max tries (actor.Client seats.client) seats.calls c stands p (serve_call g max c s) → (serve_call g max c s).0 ≡ s → IsServedAlone calls g max tries seats s (Request.OfMap c) p
    unseen served same =
        let quiet : IsQuiet stands served.after (serve_call g max c s).0 = served.quiet (subst (IsQuiet stands p) (sym same) h.quiet) in
        let pinned : KeepsPinned stands served.after (serve_call g max c s).0 = served.pinned (subst (KeepsPinned stands p) (sym same) h.pinned) in
        swept stands served.after served.ends served.seen pinned (quiet_is_settled g max stands served.after (serve_call g max c s).0 served.seen pinned quiet) (λ n e. refl)

  put_served : (name : List ℕ) (content : Content) → calls (actor.Client seats.client) seats.calls ≡ Some (call.Put name content) → IsServedAlone calls g max tries seats s (Request.OfMap (call.Put name content)) p
  put_served name content is = by_bool (nat_lt max (content_length content)) large small
    where
      large : nat_lt max (content_length content) ≡ true → IsServedAlone calls g max tries seats s (Request.OfMap (call.Put name content)) p
      large e =
          let refused : is_refusal (apply max (call.Put name content) s.objects).1 ≡ true =
          ap (λ b. let r : Objects × Reply = if b then (s.objects, reply.TooLarge) else (put name (content_bytes content) s.objects, reply.Done) in is_refusal r.1) e in
          unseen (call.Put name content) is
          (refused_puts_are_served g max tries stands p s (actor.Client seats.client) seats.calls name content some h.seen begin (of_client seats.client (call.Put name content)) refused)
          (refused_state g max s (call.Put name content) refused)

      small : nat_lt max (content_length content) ≡ false → IsServedAlone calls g max tries seats s (Request.OfMap (call.Put name content)) p
      small e =
          let fits : content_length content ≤ max = ltb-false max (content_length content) e in
          let few : content_length content < max + 1 = omega (arith, fits) in
          let written : IsWrittenAs g max tries stands p s (actor.Client seats.client) seats.calls name content =
          puts_are_served g max tries stands p s (actor.Client seats.client) seats.calls name content some h.seen begin (of_client seats.client (call.Put name content)) few in
          let still : IsSettledAfter g max stands p s (actor.Client seats.client) seats.calls name content =
          puts_are_settled g max stands p s (actor.Client seats.client) seats.calls name content some h.seen h.pinned settled begin (of_client seats.client (call.Put name content)) few in
          swept (call.Put name content) is (stands ++ drawn_by (actor.Client seats.client) seats.calls (note_of (call.Put name content)) p) _ written.ends written.seen still.pinned still.settled
          (same_stood g max stands p s some h.seen (drawn_by (actor.Client seats.client) seats.calls (note_of (call.Put name content)) p))

  write_served : (name : List ℕ) (offset : ℕ) (content : Content) → calls (actor.Client seats.client) seats.calls ≡ Some (call.Write name offset content) →
      IsServedAlone calls g max tries seats s (Request.OfMap (call.Write name offset content)) p
  write_served name offset content is = by_bool (is_refusal (apply max (call.Write name offset content) s.objects).1) refused taken
    where
      refused : is_refusal (apply max (call.Write name offset content) s.objects).1 ≡ true → IsServedAlone calls g max tries seats s (Request.OfMap (call.Write name offset content)) p
      refused e =
          unseen (call.Write name offset content) is
          (refused_writes_are_served g max tries stands p s (actor.Client seats.client) seats.calls name offset content some tried h.seen begin (of_client seats.client (call.Write name offset content)) e)
          (refused_state g max s (call.Write name offset content) e)

      taken : is_refusal (apply max (call.Write name offset content) s.objects).1 ≡ false → IsServedAlone calls g max tries seats s (Request.OfMap (call.Write name offset content)) p
      taken e =
          let written : IsWriteServedAs g max tries (actor.Client seats.client) seats.calls (call.Write name offset content) stands p s (serve_call g max (call.Write name offset content) s) =
          writes_are_served g max tries stands p s (actor.Client seats.client) seats.calls name offset content some tried h.seen begin (of_client seats.client (call.Write name offset content)) e in
          swept (call.Write name offset content) is (stands_after stands p s (serve_call g max (call.Write name offset content) s).0) written.after written.ends written.seen (written.pinned h.pinned)
          (written.settled settled)
          (same_stood g max stands p s some h.seen (range_with_len (length p.directory.versions) (length (serve_call g max (call.Write name offset content) s).0.stripes - length s.stripes)))

  pub call_served : (c : Call) → calls (actor.Client seats.client) seats.calls ≡ Some c → IsServedAlone calls g max tries seats s (Request.OfMap c) p
  call_served (call.Put name content) is = put_served name content is
  call_served (call.Write name offset content) is = write_served name offset content is
  call_served (call.Get name) is =
      unseen (call.Get name) is
      (reads_are_served g max tries stands p s (actor.Client seats.client) seats.calls (call.Get name) some h.seen begin (of_client seats.client (call.Get name)) (inl refl)) (get_state g max s name)
  call_served (call.ReadAt name offset count) is =
      unseen (call.ReadAt name offset count) is
      (reads_are_served g max tries stands p s (actor.Client seats.client) seats.calls (call.ReadAt name offset count) some h.seen begin (of_client seats.client (call.ReadAt name offset count)) (inr refl))
      (read_state g max s name offset count)
  call_served (call.Stat name) is =
      unseen (call.Stat name) is (stats_are_served g max tries stands p s (actor.Client seats.client) seats.calls name some h.seen begin (of_client seats.client (call.Stat name))) (stat_state g max s name)
  call_served (call.Delete name) is =
      let gone : IsDeletedAs g max tries (actor.Client seats.client) seats.calls (call.Delete name) stands p s (serve_call g max (call.Delete name) s) =
      deletes_are_served g max tries stands p s (actor.Client seats.client) seats.calls name some h.seen begin (of_client seats.client (call.Delete name)) in
      swept (call.Delete name) is stands gone.after gone.ends gone.seen (gone.pinned h.pinned) (gone.settled settled) (λ n e. refl)

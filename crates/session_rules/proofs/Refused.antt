-- Puts and writes that the map refuses.
use Rattle.std.proofs.Common.{◌≡◌, ℕ, ◌+◌, ◌<◌, Bool, true, false, List, [], length, None, Some, option_map, refl, sym, ap, subst, subst₂, ◌∙◌, if◌then◌else◌, nat_lt}
use Rattle.std.proofs.lemmas.Bool.{true≢false, lt-ltb}
use Rattle.clay_grid.specs.Shape.{Shape, stripe_length}
use Rattle.store_map.specs.Content.{content_bytes, content_length, overwrite}
use Rattle.store_map.specs.PlainMap.{Objects, bytes_of, put, write_at}
use Rattle.store_map.specs.declared.actor.Actor.{Actor}
use Rattle.store_map.specs.declared.call.Call.{Call}
use Rattle.store_map.specs.declared.call.Call.TheVariants as call
use Rattle.store_map.specs.declared.content.Content.{Content}
use Rattle.store_map.specs.declared.reply.Reply.{Reply}
use Rattle.store_map.specs.declared.reply.Reply.TheVariants as reply
use Rattle.store_core.specs.Told.{Told}
use Rattle.store_core.specs.Note.{Note, note_of, refusal, refusal_of_size}
use Rattle.store_core.specs.Directory.{Object, Event, Directory}
use Rattle.store_core.specs.Lookups.{find_object}
use Rattle.store_core.specs.Look.{append_point}
use Rattle.store_core.specs.Looks.{look, look_by}
use Rattle.store_core.specs.Conditions.{MayBegin, IsOfClient}
use Rattle.store_core.specs.Step.{Places}
use Rattle.run_laws.specs.States.{open_call}
use Rattle.run_laws.specs.CallAfter.{pairs_with}
use Rattle.run_laws.specs.LookAfter.{put_after_look, write_after_look}
use Rattle.session_rules.specs.State.{State as Session}
use Rattle.session_rules.specs.declared.session_answer.Answer.{Answer}
use Rattle.session_rules.specs.Calls.{serve_call, serve_by, is_refusal}
use Rattle.run_laws.specs.State.{first_state}
use Rattle.store_core.specs.Act.{Act, DirectoryStep, Outcome}
use Rattle.store_core.specs.NextAct.{job_of}
use Rattle.session_rules.specs.Alone.{AtWork, step_by, step}
use Rattle.session_rules.specs.Outcomes.{replied_at}
use Rattle.session_rules.specs.Seen.{IsSeenAs}
use Rattle.session_rules.specs.ServedLaws.{IsServedAs}
use Rattle.session_rules.specs.Refusals.{IsRefused, RefusedPutsAreServed, RefusedWritesAreServed}
use Rattle.session_rules.proofs.Singles.{options, lengths_under, after_look, stays}

module _ (tries : ℕ) (stands : List ℕ) (p : Places) (s : Session) (who : Actor) (number : ℕ) (name : List ℕ) (h : IsSeenAs p.directory.shape p.directory.max stands p s)
    (begin : MayBegin p.directory who number) (some : 0 < stripe_length p.directory.shape) where
  abbrev d : Directory
  d = p.directory

  abbrev told_of : Reply → Directory × Told
  told_of answer = (d, Told.Answer (length d.points) answer)

  -- the look of a put or a write that is refused
  refused_look : (note : Note) (answer : Reply) → refusal d.max note (option_map (λ (object : Object). object.length) (find_object note.name d.objects)) ≡ Some answer →
      look who number note d ≡ (append_point who number note (Event.Answer answer) d, Told.Answer (length d.points) answer)
  refused_look note answer e = ap (look_by who number note d (find_object note.name d.objects)) e

  abbrev Served : Call → Session × Answer → Type 0
  Served c served = IsServedAs d.shape d.max tries who number c stands p served

  module _ (content : Content) (client : IsOfClient who (note_of (call.Put name content))) where
    abbrev after_put : Directory × Told → AtWork
    after_put r = record { call = open_call d.shape (record { pairs = pairs_with [] r.1; at = put_after_look r.1 }); places = record p { directory = r.0 } }

    put_refused : IsRefused d.max (call.Put name content) s → Served (call.Put name content) (serve_call d.shape d.max (call.Put name content) s)
    put_refused refused = by (nat_lt d.max (content_length content)) refl refused
      where
        by : (b : Bool) → nat_lt d.max (content_length content) ≡ b →
            is_refusal (let r : Objects × Reply = if b then (s.objects, reply.TooLarge) else (put name (content_bytes content) s.objects, reply.Done) in r.1) ≡ true →
            Served (call.Put name content) (serve_call d.shape d.max (call.Put name content) s)
        by false e is = absurd (true≢false (sym is))
        by true e is =
            let look_is : look who number (note_of (call.Put name content)) d ≡ (append_point who number (note_of (call.Put name content)) (Event.Answer reply.TooLarge) d, Told.Answer (length d.points) reply.TooLarge) =
            refused_look (note_of (call.Put name content)) reply.TooLarge (ap (λ b. if b then Some reply.TooLarge else None) e) in
            subst (Served (call.Put name content))
            (sym (ap (λ b. let r : Objects × Reply = if b then (s.objects, reply.TooLarge) else (put name (content_bytes content) s.objects, reply.Done) in serve_by (is_refusal r.1) d.shape (call.Put name content) s r) e))
            (stays tries stands p s who number name h begin some (call.Put name content) client reply.TooLarge
            (ap after_put look_is ∙ sym (ap (after_look tries stands p s who number name h begin some (call.Put name content) client) look_is)) look_is refl)

  module _ (offset : ℕ) (content : Content) (client : IsOfClient who (note_of (call.Write name offset content))) (tried : 0 < tries) where
    abbrev c : Call
    c = call.Write name offset content

    abbrev after_write : Directory × Told → AtWork
    after_write r = record { call = open_call d.shape (record { pairs = pairs_with [] r.1; at = write_after_look d.shape r.1 }); places = record p { directory = r.0 } }

    abbrev start : AtWork
    start = record { call = first_state; places = p }

    -- its first step is its look
    looks : step d.shape tries who number (job_of c) start ≡ after_write (look who number (note_of c) d)
    looks =
        ap (λ b. step_by d.shape tries who number (job_of c) (if b then Act.AtDirectory (DirectoryStep.Look (note_of c)) else Act.Finish (Outcome.Contended [])) start) (lt-ltb 0 tries tried)

    -- one that is refused so
    ends_so : (answer : Reply) → refusal d.max (note_of c) (option_map length (bytes_of name s.objects)) ≡ Some answer →
        (let point : ℕ = length d.points in replied_at point answer ≡ Outcome.Answered point answer) → Served c (s, Answer.Replied answer)
    ends_so answer e no_bytes =
        let look_is : look who number (note_of c) d ≡ (append_point who number (note_of c) (Event.Answer answer) d, Told.Answer (length d.points) answer) =
        refused_look (note_of c) answer (ap (refusal d.max (note_of c)) (lengths_under tries stands p s who number name h begin some) ∙ e) in
        stays tries stands p s who number name h begin some c client answer
        (looks ∙ ap after_write look_is ∙ sym (ap (after_look tries stands p s who number name h begin some c client) look_is)) look_is no_bytes

    abbrev serves : Objects × Reply → Session × Answer
    serves r = serve_by (is_refusal r.1) d.shape c s r

    abbrev too_large : List ℕ → Bool → Objects × Reply
    too_large bytes b = if b then (s.objects, reply.TooLarge) else (put name (overwrite bytes offset (content_bytes content)) s.objects, reply.Done)

    write_refused : IsRefused d.max c s → Served c (serve_call d.shape d.max c s)
    write_refused refused = options (bytes_of name s.objects) missing there
      where
        missing : bytes_of name s.objects ≡ None → Served c (serve_call d.shape d.max c s)
        missing none =
            subst (Served c) (sym (ap (λ f. serves (write_at d.max name offset content s.objects f)) none))
            (ends_so reply.NoSuch (ap (λ f. refusal d.max (note_of c) (option_map length f)) none) refl)

        there : (bytes : List ℕ) → bytes_of name s.objects ≡ Some bytes → Served c (serve_call d.shape d.max c s)
        there bytes found = subst (Served c) (sym found_serves) (by (nat_lt (length bytes) offset) refl found_refused)
          where
            found_serves : serve_call d.shape d.max c s ≡ serves (write_at d.max name offset content s.objects (Some bytes))
            found_serves = ap (λ f. serves (write_at d.max name offset content s.objects f)) found

            found_refused : is_refusal (write_at d.max name offset content s.objects (Some bytes)).1 ≡ true
            found_refused = sym (ap (λ f. is_refusal (write_at d.max name offset content s.objects f).1) found) ∙ refused

            refusal_is : refusal d.max (note_of c) (option_map length (bytes_of name s.objects)) ≡ refusal d.max (note_of c) (Some (length bytes))
            refusal_is = ap (λ f. refusal d.max (note_of c) (option_map length f)) found

            by : (b : Bool) → nat_lt (length bytes) offset ≡ b → is_refusal (if b then (s.objects, reply.OutRange) else too_large bytes (nat_lt d.max (offset + content_length content))).1 ≡ true →
                Served c (serves (if b then (s.objects, reply.OutRange) else too_large bytes (nat_lt d.max (offset + content_length content))))
            by true e is = ends_so reply.OutRange (refusal_is ∙ ap (λ b. if b then Some reply.OutRange else refusal_of_size d.max (offset + content_length content)) e) refl
            by false e is = within (nat_lt d.max (offset + content_length content)) refl is
              where
                within : (b : Bool) → nat_lt d.max (offset + content_length content) ≡ b → is_refusal (too_large bytes b).1 ≡ true → Served c (serves (too_large bytes b))
                within false f is = absurd (true≢false (sym is))
                within true f is =
                    ends_so reply.TooLarge
                    (refusal_is ∙ ap (λ b. if b then Some reply.OutRange else refusal_of_size d.max (offset + content_length content)) e ∙ ap (λ b. if b then Some reply.TooLarge else None) f) refl

pub refused_puts_are_served : RefusedPutsAreServed
refused_puts_are_served g max tries stands p s who number name content some h begin client refused = by h.shape h.most some h refused
  where
    by : {g : Shape} {max : ℕ} → p.directory.shape ≡ g → p.directory.max ≡ max → 0 < stripe_length g → IsSeenAs g max stands p s → IsRefused max (call.Put name content) s →
        IsServedAs g max tries who number (call.Put name content) stands p (serve_call g max (call.Put name content) s)
    by same most some h refused =
        subst₂ (λ g max. 0 < stripe_length g → IsSeenAs g max stands p s → IsRefused max (call.Put name content) s →
        IsServedAs g max tries who number (call.Put name content) stands p (serve_call g max (call.Put name content) s)) same most
        (λ some h refused. put_refused tries stands p s who number name h begin some content client refused) some h refused

pub refused_writes_are_served : RefusedWritesAreServed
refused_writes_are_served g max tries stands p s who number name offset content some tried h begin client refused = by h.shape h.most some h refused
  where
    by : {g : Shape} {max : ℕ} → p.directory.shape ≡ g → p.directory.max ≡ max → 0 < stripe_length g → IsSeenAs g max stands p s → IsRefused max (call.Write name offset content) s →
        IsServedAs g max tries who number (call.Write name offset content) stands p (serve_call g max (call.Write name offset content) s)
    by same most some h refused =
        subst₂ (λ g max. 0 < stripe_length g → IsSeenAs g max stands p s → IsRefused max (call.Write name offset content) s →
        IsServedAs g max tries who number (call.Write name offset content) stands p (serve_call g max (call.Write name offset content) s)) same most
        (λ some h refused. write_refused tries stands p s who number name h begin some offset content client tried refused) some h refused

-- What a put that ran alone leaves is seen as the session's state after it, and settled places stay settled.
use Rattle.std.proofs.Common.{◌≡◌, ℕ, ◌+◌, ◌-◌, ◌<◌, ◌≤◌, Bool, true, false, not, cond, List, [], ◌∷◌, ◌++◌, length, map, Some, replicate, unwrap_or, refl, sym, ap, subst, subst₂, ◌∙◌, ◌/◌, inl, arith, if◌then◌else◌, bytes_eq}
use Rattle.std.specs.List.{range_with_len}
use Rattle.std.proofs.lemmas.List.{length-map, length-replicate}
use Rattle.std.proofs.lemmas.List.FromFn.{length-range_with_len}
use Rattle.std.proofs.lemmas.List.Elements.{All-replicate}
use Rattle.clay_grid.specs.Shape.{Shape, stripe_length}
use Rattle.store_map.specs.PlainMap.{Objects, put}
use Rattle.store_map.specs.Limits.{stripes_met}
use Rattle.store_map.specs.Content.{content_bytes, content_length}
use Rattle.store_map.specs.declared.actor.Actor.{Actor}
use Rattle.store_map.specs.declared.call.Call.TheVariants as call
use Rattle.store_map.specs.declared.content.Content.{Content}
use Rattle.store_map.specs.declared.placement.Placement.TheVariants as placement
use Rattle.store_map.specs.declared.reply.Reply.{Reply}
use Rattle.store_map.specs.declared.reply.Reply.TheVariants as reply
use Rattle.store_core.specs.Told.{Told}
use Rattle.store_core.specs.Note.{note_of}
use Rattle.store_core.specs.Act.{DirectoryStep}
use Rattle.store_core.specs.Directory.{Object, Version, Pass, Directory}
use Rattle.store_core.specs.Lookups.{same_actor, find_object}
use Rattle.store_core.specs.Look.{stripes_between}
use Rattle.store_core.specs.PassSteps.{new_version}
use Rattle.store_core.specs.AtDirectory.{at_directory}
use Rattle.store_core.specs.Conditions.{MayBegin, IsOfClient, IsWriting, IsPrepared}
use Rattle.store_core.specs.Placements.{IsRow, skipped_count}
use Rattle.store_core.specs.Server.{Server}
use Rattle.store_core.specs.Step.{Places}
use Rattle.store_core.specs.Sound.{IsSound}
use Rattle.run_laws.proofs.SoundHistory.{same_name}
use Rattle.run_laws.proofs.SoundSteps.{steps_keep_sound}
use Rattle.run_laws.proofs.LengthProofs.{content_count}
use Rattle.session_rules.specs.State.{State as Session}
use Rattle.session_rules.specs.Placing.{new_stripe}
use Rattle.session_rules.specs.Calls.{serve_call, serve_by, is_refusal}
use Rattle.session_rules.specs.Seen.{IsSeenAs}
use Rattle.session_rules.specs.Sweeps.{KeepsPinned}
use Rattle.session_rules.specs.Puts.{holding, drawn_by, rows_at, directory_after, IsWrittenAs, PutsAreServed}
use Rattle.session_rules.specs.Quiet.{IsSettled}
use Rattle.session_rules.specs.Settled.{IsSettledAfter, PutsAreSettled}
use Rattle.session_rules.proofs.Writes.{none_skipped}
use Rattle.session_rules.proofs.Counting.{left_first}
use Rattle.session_rules.proofs.AtPlaces.{self, none_closed}
use Rattle.session_rules.proofs.PutAlone.{mine, ours, begun, drawn, old, committed_to, fits_so, look_made, pass_found, draw_made, commit_made, put_ends}
use Rattle.session_rules.proofs.Committed.{some_servers, drawn_as, new_numbers, Commits, seen_now, settled_now, pinned_now}

-- the object that is found has the name
named_old : (name : List ℕ) (objects : List Object) → (unwrap_or (find_object name objects) (record { name = name; length = 0; versions = [] })).name ≡ name
named_old name [] = refl
named_old name (object ∷ objects) = by (bytes_eq name object.name) refl (named_old name objects)
  where
    by : (b : Bool) → bytes_eq name object.name ≡ b → (unwrap_or (find_object name objects) (record { name = name; length = 0; versions = [] })).name ≡ name →
        (unwrap_or (cond b (Some object) (find_object name objects)) (record { name = name; length = 0; versions = [] })).name ≡ name
    by true e rest = sym (same_name name object.name e)
    by false e rest = rest

module _ (tries : ℕ) (stands : List ℕ) (p : Places) (s : Session) (who : Actor) (number : ℕ) (name : List ℕ) (content : Content)
    (h : IsSeenAs p.directory.shape p.directory.max stands p s) (begin : MayBegin p.directory who number) (fits : content_length content ≤ p.directory.max)
    (some : 0 < stripe_length p.directory.shape) (client : IsOfClient who (note_of (call.Put name content))) where
  abbrev d : Directory
  d = p.directory

  -- the directory then
  abbrev last : Directory
  last = (committed_to tries stands p s who number name content h begin fits).0

  abbrev stripes : List ℕ
  stripes = stripes_between d.shape 0 (0 + content_length content)

  abbrev count : ℕ
  count = length stripes

  abbrev news : List Version
  news = map (new_version (mine tries stands p s who number name content h begin fits)) stripes

  many : length news ≡ count
  many = length-map stripes (new_version (mine tries stands p s who number name content h begin fits))

  abbrev gone : List ℕ
  gone = (old tries stands p s who number name content h begin fits).versions

  abbrev changed : Object
  changed = record { name = (old tries stands p s who number name content h begin fits).name; length = content_length content; versions = drawn_by who number (note_of (call.Put name content)) p }

  abbrev new : List ℕ
  new = new_numbers stands p s h (some_servers d.shape some) count

  abbrev stands_then : List ℕ
  stands_then = stands ++ drawn_by who number (note_of (call.Put name content)) p

  abbrev state_with : ℕ → Session
  state_with n =
      record s {
        objects = put name (content_bytes content) s.objects;
        numbers = put name (range_with_len (length s.stripes) n) s.numbers;
        stripes = s.stripes ++ replicate n (new_stripe s.epochs);
      }

  -- ---- the directory stays sound
  begun_sound : IsSound (begun tries stands p s who number name content h begin fits)
  begun_sound =
      subst (λ (r : Directory × Told). IsSound r.0) (look_made tries stands p s who number name content h begin fits).1
      (steps_keep_sound.step false who number (DirectoryStep.Look (note_of (call.Put name content))) d some h.sound (begin, client))

  drawn_sound : IsSound (drawn tries stands p s who number name content h begin fits)
  drawn_sound =
      let may : (pass : Pass) × IsWriting (begun tries stands p s who number name content h begin fits) who pass × (pass.drawn ≡ []) = (
        mine tries stands p s who number name content h begin fits,
        record { is_pass = pass_found tries stands p s who number name content h begin fits (mine tries stands p s who number name content h begin fits) refl d.passes; kind = inl refl },
        refl,
      ) in
      subst (λ (r : Directory × Told). IsSound r.0) (draw_made tries stands p s who number name content h begin fits)
      (steps_keep_sound.step false who number DirectoryStep.Draw (begun tries stands p s who number name content h begin fits) some begun_sound may)

  row_is : IsRow d.shape (map (λ epoch. placement.At epoch) (map (λ (one : Server). one.epoch) p.servers))
  row_is = record {
    whole = length-map (map (λ (one : Server). one.epoch) p.servers) (λ epoch. placement.At epoch) ∙ length-map p.servers (λ (one : Server). one.epoch) ∙ h.servers;
    enough = let none : skipped_count (map (λ epoch. placement.At epoch) (map (λ (one : Server). one.epoch) p.servers)) ≡ 0 = none_skipped (map (λ (one : Server). one.epoch) p.servers) in omega (arith, none);
  }

  last_sound : IsSound last
  last_sound =
      let may : (pass : Pass) × IsWriting (drawn tries stands p s who number name content h begin fits) who pass × IsPrepared (drawn tries stands p s who number name content h begin fits) pass (rows_at who number (note_of (call.Put name content)) p) = (
        ours tries stands p s who number name content h begin fits,
        record { is_pass = pass_found tries stands p s who number name content h begin fits (ours tries stands p s who number name content h begin fits) refl d.passes; kind = inl refl },
        record {
          drawn = length-range_with_len (length d.versions) count;
          rows = length-replicate (length (drawn_by who number (note_of (call.Put name content)) p)) (map (λ epoch. placement.At epoch) (map (λ (one : Server). one.epoch) p.servers));
          whole = All-replicate (IsRow d.shape) (length (drawn_by who number (note_of (call.Put name content)) p)) (map (λ epoch. placement.At epoch) (map (λ (one : Server). one.epoch) p.servers)) row_is;
        },
      ) in
      subst (λ (r : Directory × Told). IsSound r.0) (commit_made tries stands p s who number name content h begin fits)
      (steps_keep_sound.step false who number (DirectoryStep.Commit (rows_at who number (note_of (call.Put name content)) p)) (drawn tries stands p s who number name content h begin fits) some drawn_sound may)

  commits : Commits stands p s h (some_servers d.shape some) count news many gone changed last name (content_bytes content) new
  commits = record {
    shape = refl;
    most = refl;
    objects = refl;
    versions = refl;
    passes = left_first (λ (other : Pass). not (same_actor who other.actor)) (ours tries stands p s who number name content h begin fits) d.passes (ap not (self who)) ∙ none_closed who d.passes begin.no_pass;
    sound = last_sound;
    named = named_old name d.objects;
    size = sym (content_count content);
    stripes = drawn_as stands p s h (some_servers d.shape some) count;
    known = λ n e. inl e;
  }

  served : (serve_call p.directory.shape p.directory.max (call.Put name content) s).0 ≡ state_with count
  served =
      let apart : 0 + content_length content - 0 ≡ content_length content = omega arith in
      let counted : stripes_met (stripe_length d.shape) 0 (content_length content) ≡ count =
      sym (length-range_with_len (0 / stripe_length d.shape) (stripes_met (stripe_length d.shape) 0 (0 + content_length content - 0)) ∙ ap (stripes_met (stripe_length d.shape) 0) apart) in
      ap (λ b. (let r : Objects × Reply = if b then (s.objects, reply.TooLarge) else (put name (content_bytes content) s.objects, reply.Done) in
      serve_by (is_refusal r.1) p.directory.shape (call.Put name content) s r).0) (fits_so tries stands p s who number name content h begin fits)
      ∙ ap state_with counted

  all_made : directory_after who number (note_of (call.Put name content)) p ≡ last
  all_made =
      ap (λ (r : Directory × Told). (at_directory false who number (DirectoryStep.Commit (rows_at who number (note_of (call.Put name content)) p)) (at_directory false who number DirectoryStep.Draw r.0).0).0) (look_made tries stands p s who number name content h begin fits).1
      ∙ ap (λ (r : Directory × Told). (at_directory false who number (DirectoryStep.Commit (rows_at who number (note_of (call.Put name content)) p)) r.0).0) (draw_made tries stands p s who number name content h begin fits)
      ∙ ap (λ (r : Directory × Told). r.0) (commit_made tries stands p s who number name content h begin fits)

  pub written : IsWrittenAs p.directory.shape p.directory.max tries stands p s who number name content
  written = record {
    ends = put_ends tries stands p s who number name content h begin fits;
    seen =
        subst₂ (λ e state. IsSeenAs d.shape d.max stands_then (record { directory = e; servers = holding (drawn_by who number (note_of (call.Put name content)) p) p.servers }) state) (sym all_made) (sym served)
        (seen_now stands p s h (some_servers d.shape some) count news many gone changed last name (content_bytes content) new commits);
  }

  pub put_settled : KeepsPinned stands p s → IsSettled stands p s → IsSettledAfter p.directory.shape p.directory.max stands p s who number name content
  put_settled pinned settled = record {
    settled =
        subst₂ (λ e state. IsSettled stands_then (record { directory = e; servers = holding (drawn_by who number (note_of (call.Put name content)) p) p.servers }) state) (sym all_made) (sym served)
        (settled_now stands p s h (some_servers d.shape some) count news many gone changed last name (content_bytes content) new commits settled);
    pinned =
        subst₂ (λ e state. KeepsPinned stands_then (record { directory = e; servers = holding (drawn_by who number (note_of (call.Put name content)) p) p.servers }) state) (sym all_made) (sym served)
        (pinned_now stands p s h (some_servers d.shape some) count news many gone changed last name (content_bytes content) new commits pinned);
  }

pub puts_are_served : PutsAreServed
puts_are_served g max tries stands p s who number name content some h begin client few = by h.shape h.most some h few
  where
    by : {g : Shape} {max : ℕ} → p.directory.shape ≡ g → p.directory.max ≡ max → 0 < stripe_length g → IsSeenAs g max stands p s → content_length content < max + 1 → IsWrittenAs g max tries stands p s who number name content
    by same most some h few =
        subst₂ (λ g max. 0 < stripe_length g → IsSeenAs g max stands p s → content_length content < max + 1 → IsWrittenAs g max tries stands p s who number name content) same most
        (λ some h few. written tries stands p s who number name content h begin (omega (arith, few)) some client) some h few

pub puts_are_settled : PutsAreSettled
puts_are_settled g max stands p s who number name content some h pinned settled begin client few = by h.shape h.most some h few
  where
    by : {g : Shape} {max : ℕ} → p.directory.shape ≡ g → p.directory.max ≡ max → 0 < stripe_length g → IsSeenAs g max stands p s → content_length content < max + 1 →
        IsSettledAfter g max stands p s who number name content
    by same most some h few =
        subst₂ (λ g max. 0 < stripe_length g → IsSeenAs g max stands p s → content_length content < max + 1 → IsSettledAfter g max stands p s who number name content) same most
        (λ some h few. put_settled 0 stands p s who number name content h begin (omega (arith, few)) some client pinned settled) some h few

-- A write that the map takes and that runs alone: its look, its gatherings, and its draw, its prepares and its commit, or the end of its pass.
use Rattle.std.proofs.Common.{◌≡◌, ◌⊎◌, ℕ, suc, ◌+◌, ◌*◌, ◌-◌, ◌/◌, ◌<◌, ◌≤◌, min, max, Bool, true, false, not, cond, List, [], ◌∷◌, ◌++◌, length, map, take, drop, filter, find, replicate, Option, None, Some, option_map, unwrap_or, refl, sym, ap, subst, ◌∙◌, inl, inr, arith, if◌then◌else◌, nat_lt, length-append}
use Rattle.std.specs.List.{range_with_len}
use Rattle.std.proofs.lemmas.Bool.{eq-eqb, lt-ltb, ltb-false, or_cases, or_left, or_right}
use Rattle.std.proofs.lemmas.List.{length-map, length-replicate, map-append, append-nil, take-map, drop-map, take-append-drop}
use Rattle.std.proofs.lemmas.List.Elements.{All-replicate}
use Rattle.std.proofs.lemmas.List.FromFn.{length-range_with_len}
use Rattle.std.proofs.lemmas.Simd.{map-map}
use Rattle.clay_grid.specs.Shape.{Shape, chunk_count, stripe_length}
use Rattle.store_map.specs.Content.{content_bytes, content_length, overwrite}
use Rattle.store_map.specs.Limits.{stripes_met}
use Rattle.store_map.specs.PlainMap.{Objects, bytes_of, put, write_at}
use Rattle.store_map.specs.declared.actor.Actor.{Actor}
use Rattle.store_map.specs.declared.call.Call.{Call}
use Rattle.store_map.specs.declared.call.Call.TheVariants as call
use Rattle.store_map.specs.declared.content.Content.{Content}
use Rattle.store_map.specs.declared.placement.Placement.{Placement}
use Rattle.store_map.specs.declared.placement.Placement.TheVariants as placement
use Rattle.store_map.specs.declared.reply.Reply.{Reply}
use Rattle.store_map.specs.declared.reply.Reply.TheVariants as reply
use Rattle.store_core.specs.Lists.{is_among, places_of}
use Rattle.store_core.specs.Told.{Seen, Told}
use Rattle.store_core.specs.Note.{Note, note_of, refusal, refusal_of_size}
use Rattle.store_core.specs.Act.{Act, DirectoryStep, Outcome}
use Rattle.store_core.specs.NextAct.{job_of}
use Rattle.store_core.specs.Directory.{Object, Version, Pass, Directory}
use Rattle.store_core.specs.Lookups.{same_actor, find_object, last_change}
use Rattle.store_core.specs.Look.{pin_of, seen_at, stripes_between, keeps_old}
use Rattle.store_core.specs.Looks.{look, look_by}
use Rattle.store_core.specs.PassSteps.{close_pass, give_up_drawn, end_pass, draw, new_version}
use Rattle.store_core.specs.Commit.{same_point, commit, commit_object}
use Rattle.store_core.specs.AtDirectory.{at_directory, on_pass}
use Rattle.store_core.specs.Gathering.{Part}
use Rattle.store_core.specs.Write.{old_part, old_parts}
use Rattle.store_core.specs.Conditions.{MayBegin, IsOfClient, IsWriting, IsPrepared}
use Rattle.store_core.specs.Placements.{IsRow, skipped_count}
use Rattle.store_core.specs.Server.{Server}
use Rattle.store_core.specs.Step.{Places}
use Rattle.store_core.specs.Sound.{IsSound}
use Rattle.run_laws.proofs.SoundSteps.{steps_keep_sound}
use Rattle.run_laws.proofs.LengthProofs.{content_count, length-overwrite}
use Rattle.run_laws.specs.State.{Sequel, State, first_state}
use Rattle.run_laws.specs.States.{parts_state, open_parts, open_state, open_call, prepare_all_state, settle_state}
use Rattle.run_laws.specs.StateActs.{act_of_state}
use Rattle.run_laws.specs.GatherAfter.{ending_after}
use Rattle.run_laws.specs.CallAfter.{pairs_with}
use Rattle.run_laws.specs.CallLaws.{next_call}
use Rattle.run_laws.specs.LookAfter.{write_after_look}
use Rattle.run_laws.specs.WriteAfter.{drawing_after}
use Rattle.session_rules.specs.State.{Stripe, State as Session, numbers_of}
use Rattle.session_rules.specs.declared.session_answer.Answer.{Answer}
use Rattle.session_rules.specs.Gathered.{Range, first_unavailable}
use Rattle.session_rules.specs.Placing.{new_stripe}
use Rattle.session_rules.specs.Calls.{serve_call, serve_by, unless_unavailable, gathered_by, is_refusal}
use Rattle.session_rules.specs.Alone.{AtWork, step_by, step, steps}
use Rattle.session_rules.specs.Seen.{version_of, all_numbers, IsSeenAs}
use Rattle.session_rules.specs.Outcomes.{outcome_at}
use Rattle.session_rules.specs.Puts.{holding}
use Rattle.session_rules.specs.Sweeps.{KeepsPinned}
use Rattle.session_rules.specs.Quiet.{IsSettled}
use Rattle.session_rules.specs.Writes.{stands_after, IsWriteServedAs}
use Rattle.session_rules.proofs.Walks.{Reaches, here}
use Rattle.session_rules.proofs.Counting.{among_append, left_first}
use Rattle.session_rules.proofs.Parts.{state_by, parts_next}
use Rattle.session_rules.proofs.Names.{among_all}
use Rattle.session_rules.proofs.Stays.{Same, kept_seen, kept_settled, kept_pinned}
use Rattle.session_rules.proofs.AtPlaces.{self, none_closed}
use Rattle.session_rules.proofs.Agrees.{range_at, part_at, stripe_for, out_at, lost_from, alike, each_answers}
use Rattle.session_rules.proofs.Writes.{Comes, at_state, there, first, onto, prepare_all, settle_all, open_all, none_skipped}
use Rattle.session_rules.proofs.PutAlone.{none_changed}
use Rattle.session_rules.proofs.Committed.{some_servers, new_numbers, stands_now, of_objects, drawn_as, Commits, seen_now, settled_now, pinned_now}

same_points : (found : Option ℕ) → same_point found found ≡ true
same_points None = refl
same_points (Some n) = eq-eqb n n refl

opened_draw : (g : Shape) (parts : List Part) → open_state g (parts_state parts Sequel.Draw) ≡ open_parts g parts Sequel.Draw
opened_draw g [] = refl
opened_draw g (part ∷ parts) = refl

-- ---- elements of a list that is cut
among_front : (n k : ℕ) (ns : List ℕ) → is_among n (take k ns) ≡ true → is_among n ns ≡ true
among_front n k ns e = sym (ap (is_among n) (take-append-drop k ns)) ∙ among_append n (take k ns) (drop k ns) ∙ or_left (is_among n (take k ns)) (is_among n (drop k ns)) e

among_rest : (n k : ℕ) (ns : List ℕ) → is_among n (drop k ns) ≡ true → is_among n ns ≡ true
among_rest n k ns e = sym (ap (is_among n) (take-append-drop k ns)) ∙ among_append n (take k ns) (drop k ns) ∙ or_right (is_among n (take k ns)) (is_among n (drop k ns)) e

among_overwritten : (n at : ℕ) (new ns : List ℕ) → is_among n (overwrite ns at new) ≡ true → (is_among n new ≡ true) ⊎ (is_among n ns ≡ true)
among_overwritten n at new ns e =
    by (or_cases (is_among n (take at ns ++ new)) (is_among n (drop (at + length new) ns)) (sym (among_append n (take at ns ++ new) (drop (at + length new) ns)) ∙ e))
  where
    earlier : (is_among n (take at ns) ≡ true) ⊎ (is_among n new ≡ true) → (is_among n new ≡ true) ⊎ (is_among n ns ≡ true)
    earlier (inl t) = inr (among_front n at ns t)
    earlier (inr t) = inl t

    by : (is_among n (take at ns ++ new) ≡ true) ⊎ (is_among n (drop (at + length new) ns) ≡ true) → (is_among n new ≡ true) ⊎ (is_among n ns ≡ true)
    by (inl t) = earlier (or_cases (is_among n (take at ns)) (is_among n new) (sym (among_append n (take at ns) new) ∙ t))
    by (inr t) = inr (among_rest n (at + length new) ns t)

module _ (tries : ℕ) (stands : List ℕ) (p : Places) (s : Session) (who : Actor) (number : ℕ) (name : List ℕ) (offset : ℕ) (content : Content)
    (h : IsSeenAs p.directory.shape p.directory.max stands p s) (begin : MayBegin p.directory who number) (some : 0 < stripe_length p.directory.shape)
    (client : IsOfClient who (note_of (call.Write name offset content))) (tried : 0 < tries)
    (object : Object) (found : find_object name p.directory.objects ≡ Some object) (named : object.name ≡ name)
    (numbers : List ℕ) (of_name : bytes_of name s.numbers ≡ Some numbers) (same : object.versions ≡ map (version_of stands) numbers)
    (bytes : List ℕ) (of_bytes : bytes_of name s.objects ≡ Some bytes) (size : length bytes ≡ object.length)
    (within : nat_lt object.length offset ≡ false) (fits : nat_lt p.directory.max (offset + content_length content) ≡ false) where
  abbrev d : Directory
  d = p.directory

  abbrev g : Shape
  g = p.directory.shape

  abbrev c : Call
  c = call.Write name offset content

  abbrev note : Note
  note = note_of (call.Write name offset content)

  abbrev end : ℕ
  end = offset + content_length content

  abbrev point : ℕ
  point = length p.directory.points

  -- the stripes that are written, and those of which an old byte stays
  abbrev stripes : List ℕ
  stripes = stripes_between p.directory.shape offset end

  abbrev keeping : List ℕ
  keeping = filter (keeps_old p.directory.shape object.length offset end) stripes

  abbrev seen : List Seen
  seen = map (seen_at p.directory object) keeping

  abbrev base : Option ℕ
  base = last_change name p.directory.points

  -- its pass, before and after it has drawn
  abbrev mine : Pass
  mine = record { actor = who; number = number; note = note; pinned = map pin_of seen; drawn = []; base = base; reaped = None }

  abbrev versions : List ℕ
  versions = range_with_len (length p.directory.versions) (length stripes)

  abbrev ours : Pass
  ours = record mine { drawn = versions }

  abbrev begun : Directory
  begun = record d { passes = mine ∷ d.passes }

  abbrev news : List Version
  news = map (new_version mine) stripes

  abbrev grown : Directory
  grown = record d { passes = ours ∷ d.passes; versions = d.versions ++ news }

  -- ---- what the directory answers
  look_made : look who number note d ≡ (begun, Told.Ready base object.length seen)
  look_made =
      ap (λ (f : Option Object). look_by who number note d f (refusal d.max note (option_map (λ (object : Object). object.length) f))) found
      ∙ ap (λ b. look_by who number note d (Some object) (if b then Some reply.OutRange else refusal_of_size d.max end)) within
      ∙ ap (λ b. look_by who number note d (Some object) (if b then Some reply.TooLarge else None)) fits

  pass_found : (pass : Pass) → pass.actor ≡ who → (passes : List Pass) → find (λ (other : Pass). same_actor who other.actor) (pass ∷ passes) ≡ Some pass
  pass_found pass its passes =
      ap (λ actor. cond (same_actor who actor) (Some pass) (find (λ (other : Pass). same_actor who other.actor) passes)) its
      ∙ ap (λ b. cond b (Some pass) (find (λ (other : Pass). same_actor who other.actor) passes)) (self who)

  draw_made : at_directory false who number DirectoryStep.Draw begun ≡ (grown, Told.Versions versions)
  draw_made =
      ap (λ f. on_pass draw f begun) (pass_found mine refl d.passes)
      ∙ ap (λ passes. let r : Directory × Told = (record grown { passes = passes }, Told.Versions versions) in r)
      (ap (λ b. (if b then ours else mine) ∷ map (λ (other : Pass). if same_actor who other.actor then record other { drawn = versions } else other) d.passes) (self who)
      ∙ ap (λ l. ours ∷ l) (none_changed who (λ other. record other { drawn = versions }) d.passes begin.no_pass))

  abbrev last_by : List (List Placement) → Directory
  last_by rows = (commit_object rows ours object grown).0

  commit_made : (rows : List (List Placement)) → at_directory false who number (DirectoryStep.Commit rows) grown ≡ (last_by rows, Told.Done point)
  commit_made rows =
      ap (λ f. on_pass (commit rows) f grown) (pass_found ours refl d.passes)
      ∙ ap (λ b. let r : Directory × Told = if not b then (close_pass ours (give_up_drawn ours grown), Told.Changed (unwrap_or base 0) (unwrap_or base 0))
      else commit_object rows ours (unwrap_or (find_object name d.objects) (record { name = name; length = 0; versions = [] })) grown in r) (same_points base)
      ∙ ap (λ (f : Option Object). commit_object rows ours (unwrap_or f (record { name = name; length = 0; versions = [] })) grown) found

  abbrev closed : Directory
  closed = close_pass mine (give_up_drawn mine begun)

  end_made : at_directory false who number DirectoryStep.End begun ≡ (closed, Told.Ended)
  end_made = ap (λ f. on_pass end_pass f begun) (pass_found mine refl d.passes)

  -- ---- it stays sound
  begun_sound : IsSound begun
  begun_sound = subst (λ (r : Directory × Told). IsSound r.0) look_made (steps_keep_sound.step false who number (DirectoryStep.Look note) d some h.sound (begin, client))

  grown_sound : IsSound grown
  grown_sound =
      let may : (pass : Pass) × IsWriting begun who pass × (pass.drawn ≡ []) = (mine, record { is_pass = pass_found mine refl d.passes; kind = inr refl }, refl) in
      subst (λ (r : Directory × Told). IsSound r.0) draw_made (steps_keep_sound.step false who number DirectoryStep.Draw begun some begun_sound may)

  last_sound : (row : List Placement) → IsRow g row → IsSound (last_by (replicate (length versions) row))
  last_sound row is_row =
      let may : (pass : Pass) × IsWriting grown who pass × IsPrepared grown pass (replicate (length versions) row) = (
        ours,
        record { is_pass = pass_found ours refl d.passes; kind = inr refl },
        record {
          drawn = length-range_with_len (length d.versions) (length stripes);
          rows = length-replicate (length versions) row;
          whole = All-replicate (IsRow g) (length versions) row is_row;
        },
      ) in
      subst (λ (r : Directory × Told). IsSound r.0) (commit_made (replicate (length versions) row))
      (steps_keep_sound.step false who number (DirectoryStep.Commit (replicate (length versions) row)) grown some grown_sound may)

  -- ---- its gatherings
  abbrev from : ℕ → ℕ
  from i = 0

  abbrev up_to : ℕ → ℕ
  up_to i = min (stripe_length g) (object.length - i * stripe_length g)

  abbrev done : Answer
  done = Answer.Replied reply.Done

  abbrev parts : List Part
  parts = map (part_at stands p s h name object numbers of_name same from up_to point done (Outcome.Answered point reply.Done) refl) keeping

  abbrev ranges : List Range
  ranges = map (range_at stands p s h name object numbers of_name same from up_to point done (Outcome.Answered point reply.Done) refl) keeping

  abbrev in_stripe : Part → Stripe
  in_stripe part = stripe_for stands p s h name object numbers of_name same from up_to point done (Outcome.Answered point reply.Done) refl part

  abbrev found_out : Part → Bool
  found_out part = out_at stands p s h name object numbers of_name same from up_to point done (Outcome.Answered point reply.Done) refl part

  abbrev state_for : Option Part → State
  state_for f = state_by g tries who number (job_of c) [] Sequel.Draw in_stripe s.epochs p.servers begun f

  abbrev stood : State → Places → AtWork
  stood state q = record { call = record { pairs = []; at = state }; places = q }

  abbrev start : AtWork
  start = record { call = first_state; places = p }

  abbrev opened : AtWork
  opened = stood (open_parts g parts Sequel.Draw) (record p { directory = begun })

  all_parts : old_parts g object.length seen ≡ parts
  all_parts = map-map (old_part g object.length) (seen_at d object) keeping

  first_step : step g tries who number (job_of c) start ≡ opened
  first_step =
      ap (λ b. step_by g tries who number (job_of c) (if b then Act.AtDirectory (DirectoryStep.Look note) else Act.Finish (Outcome.Contended [])) start) (lt-ltb 0 tries tried)
      ∙ ap (λ (r : Directory × Told). let w : AtWork = record { call = open_call g (record { pairs = pairs_with [] r.1; at = write_after_look g r.1 }); places = record p { directory = r.0 } } in w) look_made
      ∙ ap (λ state. stood state (record p { directory = begun })) (opened_draw g (old_parts g object.length seen) ∙ ap (λ l. open_parts g l Sequel.Draw) all_parts)

  module _ (there_all : (i : ℕ) → is_among i keeping ≡ true → i < length numbers) where
    -- from the look to the end of the gatherings
    way : Reaches g tries who number (job_of c) p.servers begun opened (stood (state_for (find found_out parts)))
    way =
        parts_next g tries who number (job_of c) [] Sequel.Draw in_stripe s.epochs p.servers begun parts
        (each_answers stands p s h name object numbers of_name same from up_to point done (Outcome.Answered point reply.Done) refl keeping there_all)
        (stood (state_for (find found_out parts)))
        (λ q now is_begun. subst (λ e. Reaches g tries who number (job_of c) p.servers e (stood (state_for (find found_out parts)) q) (stood (state_for (find found_out parts)))) is_begun
        (here g tries who number (job_of c) p.servers q (stood (state_for (find found_out parts))) now))
        (record p { directory = begun }) refl refl

    abbrev servers_now : List Server
    servers_now = way.places.servers

    gathered : (f : Option Part) → find found_out parts ≡ f → Comes g tries who number (job_of c) start (stood (state_for f) (record { directory = begun; servers = servers_now }))
    gathered f e = record {
      made = suc way.made;
      comes =
          ap (steps g tries who number (job_of c) way.made) first_step ∙ way.comes
          ∙ ap (λ e. stood (state_for (find found_out parts)) (record { directory = e; servers = servers_now })) way.directory
          ∙ ap (λ f. stood (state_for f) (record { directory = begun; servers = servers_now })) e;
    }

    -- ---- bytes that can't be had
    module _ (part : Part) (is_out : find found_out parts ≡ Some part) where
      abbrev told : Outcome
      told = Outcome.Unavailable part.seen.stripe (lost_from stands p s h name object numbers of_name same from up_to point done (Outcome.Answered point reply.Done) refl part)

      abbrev left : Places
      left = record { directory = closed; servers = servers_now }

      gives_up : Comes g tries who number (job_of c) start (stood (State.Finished told) left)
      gives_up =
          onto g tries who number (job_of c) start (stood (State.Ending told) (record { directory = begun; servers = servers_now })) (stood (State.Finished told) left) (gathered (Some part) is_out)
          (first g tries who number (job_of c) (stood (State.Ending told) (record { directory = begun; servers = servers_now })) (stood (State.Finished told) left) (stood (State.Finished told) left)
          (ap (λ (r : Directory × Told). let w : AtWork = record { call = open_call g (record { pairs = []; at = ending_after told r.1 }); places = record { directory = r.0; servers = servers_now } } in w) end_made)
          (there g tries who number (job_of c) (stood (State.Finished told) left)))

      unchanged : Same d closed
      unchanged = record {
        shape = refl;
        most = refl;
        objects = refl;
        versions = refl;
        passes = left_first (λ (other : Pass). not (same_actor who other.actor)) mine d.passes (ap not (self who)) ∙ none_closed who d.passes begin.no_pass;
        sound = subst (λ (r : Directory × Told). IsSound r.0) end_made (steps_keep_sound.step false who number DirectoryStep.End begun some begun_sound tt);
      }

      nothing_new : stands_after stands p s s ≡ stands
      nothing_new = let none : length s.stripes - length s.stripes ≡ 0 = omega arith in ap (λ n. stands ++ range_with_len (length d.versions) n) none ∙ append-nil stands

      given_up : (lost : Answer) → outcome_at point lost ≡ told → IsWriteServedAs g d.max tries who number c stands p s (s, lost)
      given_up lost e = record {
        after = left;
        ends = record {
          made = gives_up.made;
          over = ap (λ (w : AtWork). act_of_state g tries (job_of c) w.call) gives_up.comes ∙ ap (λ outcome. Act.Finish outcome) (sym e);
          leaves = ap (λ (w : AtWork). w.places) gives_up.comes;
        };
        seen = subst (λ l. IsSeenAs g d.max l left s) (sym nothing_new) (kept_seen stands p s left unchanged way.now h);
        settled = λ was. subst (λ l. IsSettled l left s) (sym nothing_new) (kept_settled stands p s left unchanged way.now was);
        pinned = λ was. subst (λ l. KeepsPinned l left s) (sym nothing_new) (kept_pinned stands p s left unchanged was);
      }

    -- ---- bytes that are all there
    module _ (none_out : find found_out parts ≡ None) where
      -- the places but for what was taken
      abbrev p_now : Places
      p_now = record { directory = d; servers = servers_now }

      unchanged_yet : Same d d
      unchanged_yet = record { shape = refl; most = refl; objects = refl; versions = refl; passes = refl; sound = h.sound }

      h_now : IsSeenAs p_now.directory.shape p_now.directory.max stands p_now s
      h_now = kept_seen stands p s p_now unchanged_yet way.now h

      abbrev row : List Placement
      row = map (λ epoch. placement.At epoch) (map (λ (one : Server). one.epoch) servers_now)

      abbrev rows : List (List Placement)
      rows = replicate (length versions) row

      abbrev last : Directory
      last = last_by rows

      abbrev held : List Server
      held = holding versions servers_now

      abbrev at : Directory → State → List Server → AtWork
      at e state servers = at_state g tries who number (job_of c) [] versions e state servers

      abbrev over : AtWork
      over = at last (State.Finished (Outcome.Answered point reply.Done)) held

      run : Comes g tries who number (job_of c) start over
      run =
          onto g tries who number (job_of c) start (at begun State.Drawing servers_now) over (gathered None none_out)
          (first g tries who number (job_of c) (at begun State.Drawing servers_now) (at grown (prepare_all_state g versions (offset / stripe_length g) versions []) servers_now) over
          (ap (λ (r : Directory × Told). let w : AtWork = record { call = open_call g (record { pairs = []; at = drawing_after g note r.1 }); places = record { directory = r.0; servers = servers_now } } in w) draw_made
          ∙ ap (λ state. at grown state servers_now) (open_all g versions versions (offset / stripe_length g) []))
          (onto g tries who number (job_of c) (at grown (prepare_all_state g versions (offset / stripe_length g) versions []) servers_now) (at grown (State.Committing versions rows) held) over
          (prepare_all g tries who number (job_of c) [] versions grown versions (offset / stripe_length g) [] servers_now (map (λ (one : Server). one.epoch) servers_now) h_now.present h_now.servers refl)
          (first g tries who number (job_of c) (at grown (State.Committing versions rows) held) (at last (settle_state point (places_of (chunk_count g) versions)) held) over
          (ap (λ (r : Directory × Told). let w : AtWork = record { call = next_call g (job_of c) (record { pairs = []; at = State.Committing versions rows }) r.1; places = record { directory = r.0; servers = held } } in w) (commit_made rows))
          (settle_all g tries who number (job_of c) [] versions last point (places_of (chunk_count g) versions) held))))

      -- ---- what the commit leaves
      abbrev first_stripe : ℕ
      first_stripe = offset / stripe_length g

      abbrev count : ℕ
      count = length stripes

      abbrev new : List ℕ
      new = new_numbers stands p_now s h_now (some_servers g some) count

      abbrev stands_then : List ℕ
      stands_then = stands_now stands p_now s h_now (some_servers g some) count

      abbrev bytes_then : List ℕ
      bytes_then = overwrite bytes offset (content_bytes content)

      abbrev numbers_then : List ℕ
      numbers_then = overwrite numbers first_stripe new

      abbrev gone : List ℕ
      gone = take (length versions) (drop first_stripe object.versions)

      abbrev changed : Object
      changed = record { name = object.name; length = max object.length end; versions = take first_stripe object.versions ++ versions ++ drop (first_stripe + length versions) object.versions }

      abbrev CommitsSo : Type 0
      CommitsSo = Commits stands p_now s h_now (some_servers g some) count news (length-map stripes (new_version mine)) gone changed last name bytes_then numbers_then

      row_is : IsRow g row
      row_is = record {
        whole = length-map (map (λ (one : Server). one.epoch) servers_now) (λ epoch. placement.At epoch) ∙ length-map servers_now (λ (one : Server). one.epoch) ∙ h_now.servers;
        enough = let none : skipped_count row ≡ 0 = none_skipped (map (λ (one : Server). one.epoch) servers_now) in omega (arith, none);
      }

      in_object : (n : ℕ) → is_among n numbers ≡ true → is_among n (all_numbers s.numbers) ≡ true
      in_object n e = among_all name numbers n s.numbers of_name e

      numbers_are : map (version_of stands_then) numbers ≡ object.versions
      numbers_are = of_objects stands p_now s h_now (some_servers g some) count numbers in_object ∙ sym same

      as_many : length versions ≡ length new
      as_many = length-range_with_len (length d.versions) count ∙ sym (length-range_with_len (length s.stripes) count)

      versions_are : take first_stripe object.versions ++ versions ++ drop (first_stripe + length versions) object.versions ≡ map (version_of stands_then) numbers_then
      versions_are =
          let k : ℕ → ℕ = version_of stands_then in
          let past : ℕ = first_stripe + length new in
          ap (λ vs. take first_stripe vs ++ versions ++ drop (first_stripe + length versions) vs) (sym numbers_are)
          ∙ ap (λ n. take first_stripe (map k numbers) ++ versions ++ drop (first_stripe + n) (map k numbers)) as_many
          ∙ ap (λ vs. take first_stripe (map k numbers) ++ vs ++ drop past (map k numbers)) (drawn_as stands p_now s h_now (some_servers g some) count)
          ∙ ap (λ vs. vs ++ map k new ++ drop past (map k numbers)) (take-map k first_stripe numbers)
          ∙ ap (λ vs. map k (take first_stripe numbers) ++ map k new ++ vs) (drop-map k past numbers)
          ∙ ap (λ vs. vs ++ map k (drop past numbers)) (sym (map-append k (take first_stripe numbers) new))
          ∙ sym (map-append k (take first_stripe numbers ++ new) (drop past numbers))

      commits : CommitsSo
      commits = record {
        shape = refl;
        most = refl;
        objects = refl;
        versions = refl;
        passes = left_first (λ (other : Pass). not (same_actor who other.actor)) ours d.passes (ap not (self who)) ∙ none_closed who d.passes begin.no_pass;
        sound = last_sound row row_is;
        named = named;
        size =
            let low : offset ≤ object.length = ltb-false object.length offset within in
            sym (length-overwrite bytes offset (content_bytes content) (omega (arith, low, size)) ∙ ap (λ n. max (length bytes) (offset + n)) (content_count content) ∙ ap (λ n. max n end) size);
        stripes = versions_are;
        known = λ n e. known n (among_overwritten n first_stripe new numbers e);
      }
        where
          known : (n : ℕ) → (is_among n new ≡ true) ⊎ (is_among n numbers ≡ true) → (is_among n new ≡ true) ⊎ (is_among n (all_numbers s.numbers) ≡ true)
          known n (inl e) = inl e
          known n (inr e) = inr (in_object n e)

      abbrev state_then : Session
      state_then = record s { objects = put name bytes_then s.objects; numbers = put name numbers_then s.numbers; stripes = s.stripes ++ replicate count (new_stripe s.epochs) }

      abbrev places_then : Places
      places_then = record { directory = last; servers = held }

      all_new : stands_after stands p s state_then ≡ stands_then
      all_new =
          let sum : length (s.stripes ++ replicate count (new_stripe s.epochs)) ≡ length s.stripes + length (replicate count (new_stripe s.epochs)) = length-append s.stripes (replicate count (new_stripe s.epochs)) in
          let each : length (replicate count (new_stripe s.epochs)) ≡ count = length-replicate count (new_stripe s.epochs) in
          let more : length (s.stripes ++ replicate count (new_stripe s.epochs)) - length s.stripes ≡ count = omega (arith, sum, each) in
          ap (λ n. stands ++ range_with_len (length d.versions) n) more

      written : IsWriteServedAs g d.max tries who number c stands p s (state_then, done)
      written = record {
        after = places_then;
        ends = record {
          made = run.made;
          over = ap (λ (w : AtWork). act_of_state g tries (job_of c) w.call) run.comes;
          leaves = ap (λ (w : AtWork). w.places) run.comes;
        };
        seen =
            subst (λ l. IsSeenAs g d.max l places_then state_then) (sym all_new)
            (seen_now stands p_now s h_now (some_servers g some) count news (length-map stripes (new_version mine)) gone changed last name bytes_then numbers_then commits);
        settled = λ was.
            subst (λ l. IsSettled l places_then state_then) (sym all_new)
            (settled_now stands p_now s h_now (some_servers g some) count news (length-map stripes (new_version mine)) gone changed last name bytes_then numbers_then commits
            (kept_settled stands p s p_now unchanged_yet way.now was));
        pinned = λ was.
            subst (λ l. KeepsPinned l places_then state_then) (sym all_new)
            (pinned_now stands p_now s h_now (some_servers g some) count news (length-map stripes (new_version mine)) gone changed last name bytes_then numbers_then commits (λ n live. was n live));
      }

    -- ---- as the session serves it
    abbrev lost_first : Option Answer
    lost_first = first_unavailable g s s.stripes numbers ranges

    abbrev state_with : List ℕ → ℕ → Session
    state_with ns count =
        record s {
          objects = put name (overwrite bytes offset (content_bytes content)) s.objects;
          numbers = put name (overwrite ns (offset / stripe_length g) (range_with_len (length s.stripes) count)) s.numbers;
          stripes = s.stripes ++ replicate count (new_stripe s.epochs);
        }

    serves : serve_call g d.max c s ≡ unless_unavailable lost_first s (state_with numbers (length stripes), done)
    serves =
        let from_map : Objects × Reply → Session × Answer = λ r. serve_by (is_refusal r.1) g c s r in
        let too_large : Bool → Objects × Reply = λ b. if b then (s.objects, reply.TooLarge) else (put name (overwrite bytes offset (content_bytes content)) s.objects, reply.Done) in
        let out : ℕ → List ℕ → Option Answer = λ size ns. first_unavailable g s s.stripes ns (gathered_by g c size) in
        let touched : ℕ = stripes_met (stripe_length g) offset (content_length content) in
        let apart : end - offset ≡ content_length content = omega arith in
        let counted : touched ≡ length stripes = sym (length-range_with_len (offset / stripe_length g) (stripes_met (stripe_length g) offset (end - offset)) ∙ ap (stripes_met (stripe_length g) offset) apart) in
        ap (λ f. from_map (write_at d.max name offset content s.objects f)) of_bytes
        ∙ ap (λ b. from_map (if b then (s.objects, reply.OutRange) else too_large (nat_lt d.max end))) (ap (λ n. nat_lt n offset) size ∙ within)
        ∙ ap (λ b. from_map (too_large b)) fits
        ∙ ap (λ f. unless_unavailable (out (length (unwrap_or f [])) (numbers_of name s.numbers)) s (state_with (numbers_of name s.numbers) touched, done)) of_bytes
        ∙ ap (λ n. unless_unavailable (out n (numbers_of name s.numbers)) s (state_with (numbers_of name s.numbers) touched, done)) size
        ∙ ap (λ f. unless_unavailable (out object.length (unwrap_or f [])) s (state_with (unwrap_or f []) touched, done)) of_name
        ∙ ap (λ n. unless_unavailable (out object.length numbers) s (state_with numbers n, done)) counted

    pub write_served : IsWriteServedAs g d.max tries who number c stands p s (serve_call g d.max c s)
    write_served =
        subst (IsWriteServedAs g d.max tries who number c stands p s) (sym serves)
        (by (alike stands p s h name object numbers of_name same from up_to point done (Outcome.Answered point reply.Done) refl keeping there_all))
      where
        by : ((lost_first ≡ None) × (find found_out parts ≡ None))
            ⊎ ((lost : Answer) × (part : Part) × (lost_first ≡ Some lost) × (find found_out parts ≡ Some part)
            × (outcome_at point lost ≡ Outcome.Unavailable part.seen.stripe (lost_from stands p s h name object numbers of_name same from up_to point done (Outcome.Answered point reply.Done) refl part))) →
            IsWriteServedAs g d.max tries who number c stands p s (unless_unavailable lost_first s (state_with numbers (length stripes), done))
        by (inl none) =
            subst (λ f. IsWriteServedAs g d.max tries who number c stands p s (unless_unavailable f s (state_with numbers (length stripes), done))) (sym none.0) (written none.1)
        by (inr (lost, part, is_lost, is_out, told)) =
            subst (λ f. IsWriteServedAs g d.max tries who number c stands p s (unless_unavailable f s (state_with numbers (length stripes), done))) (sym is_lost) (given_up part is_out lost told)

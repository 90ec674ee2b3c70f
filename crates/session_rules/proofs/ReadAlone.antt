-- A get or a read that runs alone: its look, its gatherings, and the end of its pass.
use Rattle.std.proofs.Common.{◌≡◌, ◌*◌, ◌-◌, min, ℕ, suc, ◌<◌, Bool, true, false, not, cond, List, [], length, map, find, Option, None, Some, refl, sym, ap, subst, ◌∙◌}
use Rattle.std.proofs.lemmas.Simd.{map-map}
use Rattle.clay_grid.specs.Shape.{stripe_length}
use Rattle.store_map.specs.PlainMap.{bytes_of}
use Rattle.store_map.specs.declared.actor.Actor.{Actor}
use Rattle.store_map.specs.declared.call.Call.{Call}
use Rattle.store_map.specs.declared.reply.Reply.{Reply}
use Rattle.store_map.specs.declared.reply.Reply.TheVariants as reply
use Rattle.store_core.specs.Lists.{is_among}
use Rattle.store_core.specs.Told.{Told}
use Rattle.store_core.specs.Note.{note_of}
use Rattle.store_core.specs.Act.{Act, DirectoryStep, Outcome}
use Rattle.store_core.specs.NextAct.{job_of}
use Rattle.store_core.specs.Directory.{Object, Pass, Event, Directory}
use Rattle.store_core.specs.Lookups.{same_actor, pass_of}
use Rattle.store_core.specs.Look.{append_point, begin_pass, pin_of, seen_at, stripes_between}
use Rattle.store_core.specs.Looks.{look}
use Rattle.store_core.specs.PassSteps.{close_pass, give_up_drawn, end_pass}
use Rattle.store_core.specs.AtDirectory.{at_directory, on_pass}
use Rattle.store_core.specs.Gathering.{Part}
use Rattle.store_core.specs.Read.{read_start, read_end, part_of, parts_of}
use Rattle.store_core.specs.Conditions.{MayBegin, IsOfClient}
use Rattle.store_core.specs.Step.{Places}
use Rattle.store_core.specs.Sound.{IsSound}
use Rattle.run_laws.proofs.SoundSteps.{steps_keep_sound}
use Rattle.run_laws.specs.State.{Sequel, State, first_state}
use Rattle.run_laws.specs.States.{open_parts, open_call}
use Rattle.run_laws.specs.StateActs.{act_of_state}
use Rattle.run_laws.specs.GatherAfter.{ending_after}
use Rattle.run_laws.specs.CallAfter.{pairs_with}
use Rattle.run_laws.specs.LookAfter.{read_after_look}
use Rattle.session_rules.specs.State.{Stripe, State as Session}
use Rattle.session_rules.specs.declared.session_answer.Answer.{Answer}
use Rattle.session_rules.specs.Gathered.{first_unavailable}
use Rattle.session_rules.specs.Alone.{AtWork, step, steps}
use Rattle.session_rules.specs.Seen.{version_of, IsSeenAs}
use Rattle.session_rules.specs.Outcomes.{replied_at}
use Rattle.session_rules.specs.ServedLaws.{IsServedAs}
use Rattle.session_rules.proofs.Walks.{Reaches, here, before}
use Rattle.session_rules.proofs.Counting.{left_first}
use Rattle.session_rules.proofs.Parts.{Leads, state_by, parts_next}
use Rattle.session_rules.proofs.Stays.{Same, kept_seen, kept_quiet, kept_pinned}
use Rattle.session_rules.proofs.AtPlaces.{self, none_closed, opened_parts}
use Rattle.session_rules.proofs.Agrees.{range_at, part_at, stripe_for, answer_by, out_at, outcome_by, agree, each_answers}

module _ (stands : List ℕ) (p : Places) (s : Session) (h : IsSeenAs p.directory.shape p.directory.max stands p s) (who : Actor) (number tries : ℕ)
    (begin : MayBegin p.directory who number) (some : 0 < stripe_length p.directory.shape) (call : Call) (client : IsOfClient who (note_of call)) where
  -- the point of the look
  abbrev point : ℕ
  point = length p.directory.points

  abbrev start : AtWork
  start = record { call = first_state; places = p }

  -- the call after a look that left this and was answered so
  abbrev pub looked : Directory × Told → AtWork
  looked r = record { call = open_call p.directory.shape (record { pairs = pairs_with [] r.1; at = read_after_look p.directory.shape (note_of call) r.1 }); places = record p { directory = r.0 } }

  abbrev look_made : Directory × Told
  look_made = look who number (note_of call) p.directory

  look_sound : IsSound (look who number (note_of call) p.directory).0
  look_sound = steps_keep_sound.step false who number (DirectoryStep.Look (note_of call)) p.directory some h.sound (begin, client)

  -- what is left where the state stays
  abbrev Served : Answer → Type 0
  Served answer = IsServedAs p.directory.shape p.directory.max tries who number call stands p (s, answer)

  -- a call that its look refuses
  pub refused_alone : (answer : Reply) → step p.directory.shape tries who number (job_of call) start ≡ looked look_made →
      look_made ≡ (append_point who number (note_of call) (Event.Answer answer) p.directory, Told.Answer point answer) →
      replied_at point answer ≡ Outcome.Answered point answer → Served (Answer.Replied answer)
  refused_alone answer first_step look_is no_bytes = record {
    after = record p { directory = append_point who number (note_of call) (Event.Answer answer) p.directory };
    ends = record { made = 1; over = ap (λ (w : AtWork). act_of_state p.directory.shape tries (job_of call) w.call) comes ∙ ap (λ outcome. Act.Finish outcome) (sym no_bytes); leaves = ap (λ (w : AtWork). w.places) comes };
    seen = kept_seen stands p s (record p { directory = append_point who number (note_of call) (Event.Answer answer) p.directory }) same refl h;
    quiet = kept_quiet stands p s (record p { directory = append_point who number (note_of call) (Event.Answer answer) p.directory }) same refl;
    pinned = kept_pinned stands p s (record p { directory = append_point who number (note_of call) (Event.Answer answer) p.directory }) same;
  }
    where
      comes : step p.directory.shape tries who number (job_of call) start ≡ looked (append_point who number (note_of call) (Event.Answer answer) p.directory, Told.Answer point answer)
      comes = first_step ∙ ap looked look_is

      same : Same p.directory (append_point who number (note_of call) (Event.Answer answer) p.directory)
      same = record { shape = refl; most = refl; objects = refl; versions = refl; passes = refl; sound = subst (λ (r : Directory × Told). IsSound r.0) look_is look_sound }

  -- a call that pins stripes of an object
  module _ (name : List ℕ) (object : Object) (numbers : List ℕ) (of_name : bytes_of name s.numbers ≡ Some numbers) (same : object.versions ≡ map (version_of stands) numbers) (bytes : List ℕ) where
    abbrev from : ℕ
    from = read_start (note_of call)

    abbrev up_to : ℕ
    up_to = read_end (note_of call) object.length

    -- where the bytes that are read begin and end in a stripe
    abbrev from_at : ℕ → ℕ
    from_at i = from - i * stripe_length p.directory.shape

    abbrev up_to_at : ℕ → ℕ
    up_to_at i = min (up_to - i * stripe_length p.directory.shape) (stripe_length p.directory.shape)

    abbrev pub stripes_read : List ℕ
    stripes_read = stripes_between p.directory.shape from up_to

    -- the pass, and the directory with it and without it
    abbrev mine : Pass
    mine =
        record {
          actor = who;
          number = number;
          note = note_of call;
          pinned = map pin_of (map (seen_at p.directory object) stripes_read);
          drawn = [];
          base = None;
          reaped = None;
        }

    abbrev begun : Directory
    begun = begin_pass who number (note_of call) (map (seen_at p.directory object) stripes_read) None (append_point who number (note_of call) Event.Pinned p.directory)

    abbrev closed : Directory
    closed = close_pass mine (give_up_drawn mine begun)

    abbrev parts : List Part
    parts = map (part_at stands p s h name object numbers of_name same from_at up_to_at point (Answer.Replied (reply.Bytes bytes)) (Outcome.Served point) refl) stripes_read

    abbrev outcome_for : Option Part → Outcome
    outcome_for f = outcome_by stands p s h name object numbers of_name same from_at up_to_at point (Answer.Replied (reply.Bytes bytes)) (Outcome.Served point) refl f

    abbrev in_stripe : Part → Stripe
    in_stripe part = stripe_for stands p s h name object numbers of_name same from_at up_to_at point (Answer.Replied (reply.Bytes bytes)) (Outcome.Served point) refl part

    -- the call at its end
    abbrev over : Outcome → Places → AtWork
    over outcome q = record { call = record { pairs = []; at = State.Finished outcome }; places = record q { directory = closed } }

    pass_found : pass_of who begun ≡ Some mine
    pass_found = ap (λ b. cond b (Some mine) (find (λ (pass : Pass). same_actor who pass.actor) p.directory.passes)) (self who)

    end_made : at_directory false who number DirectoryStep.End begun ≡ (closed, Told.Ended)
    end_made = ap (λ f. on_pass end_pass f begun) pass_found

    abbrev LeadsOn : State → (Places → AtWork) → Type 0
    LeadsOn state to = Leads p.directory.shape tries who number (job_of call) [] (Sequel.Serve point) in_stripe s.epochs p.servers begun state to

    ends_so : (outcome : Outcome) → LeadsOn (State.Ending outcome) (over outcome)
    ends_so outcome q now is_begun =
        before p.directory.shape tries who number (job_of call) p.servers begun (record { call = record { pairs = []; at = State.Ending outcome }; places = q }) (over outcome q) (over outcome)
        (ap (λ (r : Directory × Told). let w : AtWork = record { call = open_call p.directory.shape (record { pairs = []; at = ending_after outcome r.1 }); places = record q { directory = r.0 } } in w)
        (ap (at_directory false who number DirectoryStep.End) is_begun ∙ end_made))
        (subst (λ d. Reaches p.directory.shape tries who number (job_of call) p.servers d (over outcome q) (over outcome)) is_begun
        (here p.directory.shape tries who number (job_of call) p.servers q (over outcome) now))

    abbrev found_out : Part → Bool
    found_out part = out_at stands p s h name object numbers of_name same from_at up_to_at point (Answer.Replied (reply.Bytes bytes)) (Outcome.Served point) refl part

    ends_by : (f : Option Part) → LeadsOn (state_by p.directory.shape tries who number (job_of call) [] (Sequel.Serve point) in_stripe s.epochs p.servers begun f) (over (outcome_for f))
    ends_by None = ends_so (Outcome.Served point)
    ends_by (Some part) = ends_so (outcome_for (Some part))

    pub pinned_alone : step p.directory.shape tries who number (job_of call) start ≡ looked look_made →
        look_made ≡ (begun, Told.Pinned point object.length (map (seen_at p.directory object) stripes_read)) →
        ((i : ℕ) → is_among i stripes_read ≡ true → i < length numbers) →
        Served (answer_by stands p s h name object numbers of_name same from_at up_to_at point (Answer.Replied (reply.Bytes bytes)) (Outcome.Served point) refl
        (first_unavailable p.directory.shape s s.stripes numbers
        (map (range_at stands p s h name object numbers of_name same from_at up_to_at point (Answer.Replied (reply.Bytes bytes)) (Outcome.Served point) refl) stripes_read)))
    pinned_alone first_step look_is within = record {
      after = record (way.places) { directory = closed };
      ends = record {
        made = suc way.made;
        over = ap (λ (w : AtWork). act_of_state p.directory.shape tries (job_of call) w.call) comes
            ∙ ap (λ outcome. Act.Finish outcome) (sym (agree stands p s h name object numbers of_name same from_at up_to_at point (Answer.Replied (reply.Bytes bytes)) (Outcome.Served point) refl stripes_read within));
        leaves = ap (λ (w : AtWork). w.places) comes;
      };
      seen = kept_seen stands p s (record (way.places) { directory = closed }) alike way.now h;
      quiet = kept_quiet stands p s (record (way.places) { directory = closed }) alike way.now;
      pinned = kept_pinned stands p s (record (way.places) { directory = closed }) alike;
    }
      where
        all_parts : parts_of p.directory.shape (note_of call) object.length (map (seen_at p.directory object) stripes_read) ≡ parts
        all_parts = map-map (part_of p.directory.shape from up_to) (seen_at p.directory object) stripes_read

        way : Reaches p.directory.shape tries who number (job_of call) p.servers begun (record { call = record { pairs = []; at = open_parts p.directory.shape parts (Sequel.Serve point) }; places = record p { directory = begun } })
            (over (outcome_for (find found_out parts)))
        way =
            parts_next p.directory.shape tries who number (job_of call) [] (Sequel.Serve point) in_stripe s.epochs p.servers begun parts
            (each_answers stands p s h name object numbers of_name same from_at up_to_at point (Answer.Replied (reply.Bytes bytes)) (Outcome.Served point) refl stripes_read within)
            (over (outcome_for (find found_out parts))) (ends_by (find found_out parts)) (record p { directory = begun }) refl refl

        first_two : step p.directory.shape tries who number (job_of call) start
            ≡ record { call = record { pairs = []; at = open_parts p.directory.shape parts (Sequel.Serve point) }; places = record p { directory = begun } }
        first_two =
            first_step ∙ ap looked look_is
            ∙ ap (λ at. let w : AtWork = record { call = record { pairs = []; at = at }; places = record p { directory = begun } } in w)
            (opened_parts p.directory.shape (parts_of p.directory.shape (note_of call) object.length (map (seen_at p.directory object) stripes_read)) point
            ∙ ap (λ l. open_parts p.directory.shape l (Sequel.Serve point)) all_parts)

        comes : steps p.directory.shape tries who number (job_of call) (suc way.made) start ≡ over (outcome_for (find found_out parts)) way.places
        comes = ap (steps p.directory.shape tries who number (job_of call) way.made) first_two ∙ way.comes

        alike : Same p.directory closed
        alike = record {
          shape = refl;
          most = refl;
          objects = refl;
          versions = refl;
          passes = left_first (λ (other : Pass). not (same_actor who other.actor)) mine p.directory.passes (ap not (self who)) ∙ none_closed who p.directory.passes begin.no_pass;
          sound =
              subst (λ (r : Directory × Told). IsSound r.0) end_made
              (steps_keep_sound.step false who number DirectoryStep.End begun some (subst (λ (r : Directory × Told). IsSound r.0) look_is look_sound) tt);
        }

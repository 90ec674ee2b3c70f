-- A rebuild that runs alone, and the law on it.
use Rattle.std.proofs.Common.{◌≡◌, ℕ, suc, ◌+◌, ◌<◌, ◌≤◌, Bool, true, false, not, ◌&&◌, cond, List, [], ◌∷◌, length, map, take, get_or, filter, find, slice_get, Option, None, Some, option_map, unwrap_or, All, IfSome, IsTrue, refl, sym, ap, subst, subst₂, ◌∙◌, arith, if◌then◌else◌, nat_lt}
use Rattle.std.proofs.lemmas.Bool.{le-ltb, lt-ltb, or_left}
use Rattle.std.proofs.lemmas.List.{length-map}
use Rattle.std.proofs.lemmas.List.Elements.{All-weaker, Contains-get_or}
use Rattle.std.proofs.lemmas.Option.{slice_get-get_or}
use Rattle.clay_grid.specs.Shape.{Shape, chunk_count, stripe_length}
use Rattle.store_map.specs.PlainMap.{bytes_of}
use Rattle.store_map.specs.declared.actor.Actor.{Actor}
use Rattle.store_map.specs.declared.call.Rebuild.{Rebuild as RebuildCall}
use Rattle.store_map.specs.declared.reply.Reply.TheVariants as reply
use Rattle.store_core.specs.Lists.{change_at, is_among}
use Rattle.store_core.specs.Told.{Seen, Told}
use Rattle.store_core.specs.Note.{Note, note_of_rebuild}
use Rattle.store_core.specs.Act.{Act, DirectoryStep, ServerStep, Outcome}
use Rattle.store_core.specs.NextAct.{Job, rebuild_job}
use Rattle.store_core.specs.Directory.{Object, Standing, Version, Pass, Event, Point, Directory}
use Rattle.store_core.specs.Lookups.{same_actor, find_object, pass_of, is_current_standing, holds_standing, is_current}
use Rattle.store_core.specs.Look.{pin_of, seen_at}
use Rattle.store_core.specs.Looks.{look_repair, look_repair_by}
use Rattle.store_core.specs.PassSteps.{close_pass, give_up_drawn, end_pass, confirm, repaired}
use Rattle.store_core.specs.AtDirectory.{at_directory, on_pass}
use Rattle.store_core.specs.Conditions.{MayBegin, IsOfRepairer, IsRebuilding}
use Rattle.store_core.specs.Server.{Server, install}
use Rattle.store_core.specs.Step.{Places, at_server_there}
use Rattle.store_core.specs.Sound.{IsSound, HasItsVersions}
use Rattle.store_core.specs.SoundPasses.{Stands}
use Rattle.run_laws.proofs.SoundLists.{at_all, among}
use Rattle.run_laws.proofs.SoundSteps.{steps_keep_sound}
use Rattle.run_laws.specs.State.{Sequel, State, first_state}
use Rattle.run_laws.specs.Stage.{Aim, Asking, Stage}
use Rattle.run_laws.specs.States.{open_call}
use Rattle.run_laws.specs.StateActs.{act_of_state}
use Rattle.run_laws.specs.GatherAfter.{ending_after, confirming_after, installing_after}
use Rattle.run_laws.specs.CallAfter.{pairs_with}
use Rattle.run_laws.specs.LookAfter.{rebuild_after_look}
use Rattle.session_rules.specs.State.{Stripe, State as Session, numbers_of, stripe_at}
use Rattle.session_rules.specs.declared.session_answer.Answer.{Answer}
use Rattle.session_rules.specs.Gathered.{holds, is_beyond_repair, named}
use Rattle.session_rules.specs.Rebuilds.{place_anew, rebuild, rebuild_one}
use Rattle.session_rules.specs.Alone.{AtWork, step, steps}
use Rattle.session_rules.specs.Seen.{version_of, all_numbers, snapshot_numbers, live_numbers, IsSeenAs}
use Rattle.session_rules.specs.Puts.{with_version}
use Rattle.session_rules.specs.AloneRebuilds.{rebuilt_as, IsRebuiltAs, RebuildsAreServed}
use Rattle.session_rules.proofs.Walks.{Reaches, IsThere, at_stage, here, there_now, by_bool}
use Rattle.session_rules.proofs.Counting.{among_append, left_first}
use Rattle.session_rules.proofs.Names.{under, under_objects, under_map, among_all, is_some_by, is_none_by}
use Rattle.session_rules.proofs.Singles.{options}
use Rattle.session_rules.proofs.Stays.{Same, kept_seen, kept_quiet, kept_pinned}
use Rattle.session_rules.proofs.AtPlaces.{self, none_closed, answers_at, named_same, version_is}
use Rattle.session_rules.proofs.Parts.{Answers}
use Rattle.session_rules.proofs.Writes.{Comes, there, first, onto}
use Rattle.session_rules.proofs.Kept.{slice_there}
use Rattle.session_rules.proofs.ChunkGathers.{end_by, chunk_next}
use Rattle.session_rules.proofs.PlacedAnew.{raised_in, Anew, seen_anew, quiet_anew, pinned_anew}

-- a version that stands so is current
current_is : (d : Directory) (v : ℕ) → Stands d Standing.Current v → is_current d v ≡ true
current_is d v stand = by (slice_get d.versions v) refl stand.0
  where
    by : (f : Option Version) → slice_get d.versions v ≡ f → IfSome f (λ version. version.standing ≡ Standing.Current) → holds_standing is_current_standing f ≡ true
    by None e is = absurd (slice_there v d.versions stand.1 e)
    by (Some x) e is = ap is_current_standing is

module _ (tries : ℕ) (stands : List ℕ) (p : Places) (s : Session) (who : Actor) (number : ℕ) (call : RebuildCall) (h : IsSeenAs p.directory.shape p.directory.max stands p s)
    (begin : MayBegin p.directory who number) (some : 0 < stripe_length p.directory.shape) (parity : 0 < p.directory.shape.parity_count) (less : call.server < chunk_count p.directory.shape)
    (repairer : IsOfRepairer who (note_of_rebuild call)) where
  abbrev d : Directory
  d = p.directory

  abbrev g : Shape
  g = p.directory.shape

  abbrev note : Note
  note = note_of_rebuild call

  abbrev job : Job
  job = rebuild_job call

  abbrev start : AtWork
  start = record { call = first_state; places = p }

  abbrev stood : State → Places → AtWork
  stood state q = record { call = record { pairs = []; at = state }; places = q }

  abbrev Served : Session × Answer → Type 0
  Served served = IsRebuiltAs p.directory.shape p.directory.max tries who number call stands p s served

  -- the call after its look
  abbrev looked : Directory × Told → AtWork
  looked r = record { call = open_call g (record { pairs = pairs_with [] r.1; at = rebuild_after_look call.server r.1 }); places = record p { directory = r.0 } }

  first_step : step g tries who number job start ≡ looked (look_repair who number note d)
  first_step = refl

  look_sound : IsSound (look_repair who number note d).0
  look_sound = steps_keep_sound.step false who number (DirectoryStep.LookRepair note) d some h.sound (begin, repairer)

  -- where passes and points are as they were, the actor may begin its next call
  begins_next : (e : Directory) → e.passes ≡ d.passes → e.points ≡ d.points → MayBegin e who (number + 1)
  begins_next e passes points = record {
    no_pass = ap (find (λ (pass : Pass). same_actor who pass.actor)) passes ∙ begin.no_pass;
    numbers =
        subst (λ points. All (λ (point : Point). IsTrue (same_actor point.actor who) → (point.number ≤ number + 1) × (point.number ≡ number + 1 → point.event ≡ Event.Reaped)) points) (sym points)
        (All-weaker (λ (point : Point). IsTrue (same_actor point.actor who) → (point.number ≤ number) × (point.number ≡ number → point.event ≡ Event.Reaped))
        (λ (point : Point). IsTrue (same_actor point.actor who) → (point.number ≤ number + 1) × (point.number ≡ number + 1 → point.event ≡ Event.Reaped)) later d.points begin.numbers);
  }
    where
      later : (point : Point) → (IsTrue (same_actor point.actor who) → (point.number ≤ number) × (point.number ≡ number → point.event ≡ Event.Reaped)) →
          IsTrue (same_actor point.actor who) → (point.number ≤ number + 1) × (point.number ≡ number + 1 → point.event ≡ Event.Reaped)
      later point was its = let low : point.number ≤ number = (was its).0 in (omega (arith, low), λ same. let e : point.number ≡ number + 1 = same in absurd (omega (arith, low, e)))

  -- ---- no such stripe
  no_such : look_repair who number note d ≡ (d, Told.NoSuch) → Served (s, Answer.Replied reply.NoSuch)
  no_such look_is = record {
    after = p;
    ends = record { made = 1; over = ap (λ (w : AtWork). act_of_state g tries job w.call) comes; leaves = ap (λ (w : AtWork). w.places) comes };
    seen = h;
    quiet = λ quiet. quiet;
    pinned = λ pinned. pinned;
    next = begins_next d refl refl;
  }
    where
      comes : step g tries who number job start ≡ looked (d, Told.NoSuch)
      comes = first_step ∙ ap looked look_is

  -- ---- a stripe of an object
  module _ (object : Object) (found : find_object call.name d.objects ≡ Some object) (its : HasItsVersions d object) (numbers : List ℕ) (of_name : bytes_of call.name s.numbers ≡ Some numbers)
      (same : object.versions ≡ map (version_of stands) numbers) (within : call.stripe < length numbers) where
    abbrev seen : Seen
    seen = seen_at d object call.stripe

    -- the stripe's number and its chunks
    abbrev n : ℕ
    n = get_or numbers call.stripe 0

    abbrev stripe : Stripe
    stripe = stripe_at s.stripes numbers call.stripe

    many : length object.versions ≡ length numbers
    many = ap length same ∙ length-map numbers (version_of stands)

    abbrev mine : Pass
    mine = record { actor = who; number = number; note = note; pinned = map pin_of (seen ∷ []); drawn = []; base = None; reaped = None }

    abbrev begun : Directory
    begun = record d { passes = mine ∷ d.passes }

    abbrev closed : Directory
    closed = close_pass mine (give_up_drawn mine begun)

    pub look_made : look_repair who number note d ≡ (begun, Told.PinnedStripe seen)
    look_made =
        ap (look_repair_by who number note d) found
        ∙ ap (λ b. let r : Directory × Told = if b then (begun, Told.PinnedStripe seen) else (d, Told.NoSuch) in r) (lt-ltb call.stripe (length object.versions) (omega (arith, within, many)))

    pass_found : find (λ (other : Pass). same_actor who other.actor) (mine ∷ d.passes) ≡ Some mine
    pass_found = ap (λ b. cond b (Some mine) (find (λ (other : Pass). same_actor who other.actor) d.passes)) (self who)

    end_made : at_directory false who number DirectoryStep.End begun ≡ (closed, Told.Ended)
    end_made = ap (λ f. on_pass end_pass f begun) pass_found

    begun_sound : IsSound begun
    begun_sound = subst (λ (r : Directory × Told). IsSound r.0) look_made look_sound

    passes_again : filter (λ (other : Pass). not (same_actor who other.actor)) (mine ∷ d.passes) ≡ d.passes
    passes_again = left_first (λ (other : Pass). not (same_actor who other.actor)) mine d.passes (ap not (self who)) ∙ none_closed who d.passes begin.no_pass

    abbrev aim : Aim
    aim = Aim.Chunk seen call.server

    abbrev after : Sequel
    after = Sequel.Confirm seen call.server

    pub there_all : (j : ℕ) → j < chunk_count g → IsThere g tries who number job [] aim [] after stripe s.epochs p.servers begun p.servers j
    there_all j j_less =
        let a : Answers s.epochs p.servers stripe (get_or object.versions call.stripe 0) j = answers_at stands p s h call.name object numbers of_name same call.stripe within j j_less in
        record { server = a.server; found = a.found; present = a.present; held = a.held; epoch = a.epoch }

    abbrev end_stage : Bool → Bool → Stage
    end_stage held beyond = end_by g tries who number job [] seen call.server stripe s.epochs p.servers begun there_all less parity held beyond

    abbrev stage_end : Stage
    stage_end = end_stage (holds stripe call.server) (is_beyond_repair g stripe)

    abbrev at : Stage → Places → AtWork
    at stage q = at_stage g tries who number job [] aim [] after stage q

    way : Reaches g tries who number job p.servers begun (at (Stage.Asks (Asking.Target call.server)) (record p { directory = begun })) (at stage_end)
    way =
        chunk_next g tries who number job [] seen call.server stripe s.epochs p.servers begun there_all less parity (at stage_end)
        (λ q now is_begun. subst (λ e. Reaches g tries who number job p.servers e (at stage_end q) (at stage_end)) is_begun (here g tries who number job p.servers q (at stage_end) now))
        (record p { directory = begun }) refl refl

    abbrev servers_now : List Server
    servers_now = way.places.servers

    abbrev with_directory : Directory → Places
    with_directory e = record { directory = e; servers = servers_now }

    gathered : (stage : Stage) → stage_end ≡ stage → Comes g tries who number job start (at stage (with_directory begun))
    gathered stage e = record {
      made = suc way.made;
      comes =
          ap (steps g tries who number job way.made) (first_step ∙ ap looked look_made) ∙ way.comes
          ∙ ap (λ e. at stage_end (with_directory e)) way.directory ∙ ap (λ stage. at stage (with_directory begun)) e;
    }

    -- ---- the chunk isn't made
    unchanged : Same d closed
    unchanged = record {
      shape = refl;
      most = refl;
      objects = refl;
      versions = refl;
      passes = passes_again;
      sound = subst (λ (r : Directory × Told). IsSound r.0) end_made (steps_keep_sound.step false who number DirectoryStep.End begun some begun_sound tt);
    }

    ended_so : (outcome : Outcome) → Comes g tries who number job start (stood (State.Ending outcome) (with_directory begun)) → (answer : Answer) → rebuilt_as answer ≡ outcome → Served (s, answer)
    ended_so outcome so_far answer told = record {
      after = with_directory closed;
      ends = record {
        made = run.made;
        over = ap (λ (w : AtWork). act_of_state g tries job w.call) run.comes ∙ ap (λ outcome. Act.Finish outcome) (sym told);
        leaves = ap (λ (w : AtWork). w.places) run.comes;
      };
      seen = kept_seen stands p s (with_directory closed) unchanged way.now h;
      quiet = kept_quiet stands p s (with_directory closed) unchanged way.now;
      pinned = kept_pinned stands p s (with_directory closed) unchanged;
      next = begins_next closed passes_again refl;
    }
      where
        run : Comes g tries who number job start (stood (State.Finished outcome) (with_directory closed))
        run =
            onto g tries who number job start (stood (State.Ending outcome) (with_directory begun)) (stood (State.Finished outcome) (with_directory closed)) so_far
            (first g tries who number job (stood (State.Ending outcome) (with_directory begun)) (stood (State.Finished outcome) (with_directory closed)) (stood (State.Finished outcome) (with_directory closed))
            (ap (λ (r : Directory × Told). let w : AtWork = record { call = open_call g (record { pairs = []; at = ending_after outcome r.1 }); places = with_directory r.0 } in w) end_made)
            (there g tries who number job (stood (State.Finished outcome) (with_directory closed))))

    -- ---- the chunk is made
    module _ (has_bytes : stage_end ≡ Stage.HasBytes) (lacks : holds stripe call.server ≡ false) where
      abbrev p_now : Places
      p_now = with_directory d

      unchanged_yet : Same d d
      unchanged_yet = record { shape = refl; most = refl; objects = refl; versions = refl; passes = refl; sound = h.sound }

      h_now : IsSeenAs p_now.directory.shape p_now.directory.max stands p_now s
      h_now = kept_seen stands p s p_now unchanged_yet way.now h

      abbrev version : ℕ
      version = get_or object.versions call.stripe 0

      abbrev epoch : ℕ
      epoch = get_or s.epochs call.server 0

      is_version : version ≡ version_of stands n
      is_version = version_is stands p s h call.name object numbers of_name same call.stripe within

      live : is_among n (live_numbers s) ≡ true
      live =
          among_append n (all_numbers s.numbers) (snapshot_numbers s.snapshot)
          ∙ or_left (is_among n (all_numbers s.numbers)) (is_among n (snapshot_numbers s.snapshot))
          (among_all call.name numbers n s.numbers of_name (among n numbers (Contains-get_or numbers call.stripe 0 within)))

      current : is_current d version ≡ true
      current =
          let there : call.stripe < length object.versions = omega (arith, within, many) in
          current_is d version (at_all (Stands d Standing.Current) object.versions call.stripe version its.current (slice_get-get_or object.versions call.stripe 0 there))

      confirm_made : at_directory false who number DirectoryStep.Confirm begun ≡ (begun, Told.Current)
      confirm_made =
          ap (λ f. on_pass confirm f begun) pass_found
          ∙ ap (λ b. let r : Directory × Told = if b && true then (begun, Told.Current) else (close_pass mine begun, Told.Superseded (unwrap_or (Rattle.store_core.specs.Lookups.last_change call.name d.points) 0)) in r) current

      target : IsThere g tries who number job [] aim [] after stripe s.epochs p.servers begun servers_now call.server
      target = there_now g tries who number job [] aim [] after stripe s.epochs p.servers begun servers_now call.server way.now (there_all call.server less)

      abbrev one : Server
      one = target.server

      abbrev servers_then : ℕ → List Server
      servers_then v = change_at call.server (λ _. with_version v one) servers_now

      abbrev last : Directory
      last = record d { passes = filter (λ (other : Pass). not (same_actor who other.actor)) (mine ∷ d.passes); versions = change_at version (raised_in call.server epoch) d.versions }

      repaired_made : at_directory false who number (DirectoryStep.Repaired call.server epoch) begun ≡ (last, Told.Ended)
      repaired_made = ap (λ f. on_pass (repaired call.server epoch) f begun) pass_found

      abbrev after_install : Server × Told → AtWork
      after_install r = record { call = open_call g (record { pairs = []; at = installing_after call.server r.1 }); places = record { directory = begun; servers = change_at call.server (λ _. r.0) servers_now } }

      installs : step g tries who number job (stood (State.Installing seen call.server) (with_directory begun)) ≡ stood (State.Placing call.server epoch) (record { directory = begun; servers = servers_then version })
      installs =
          ap (λ (f : Option Server). let r : Places × Told = at_server_there false call.server (ServerStep.Install version) (with_directory begun) f in
          let w : AtWork = record { call = open_call g (record { pairs = []; at = installing_after call.server r.1 }); places = r.0 } in w) target.found
          ∙ ap (λ away. after_install (install away (is_among version one.held) version one)) target.present
          ∙ ap (λ held. after_install (install false held version one)) (target.held ∙ lacks)
          ∙ ap (λ n. stood (State.Placing call.server n) (record { directory = begun; servers = servers_then version })) target.epoch

      abbrev over : AtWork
      over = stood (State.Finished Outcome.Rebuilt) (record { directory = last; servers = servers_then (version_of stands n) })

      run : Comes g tries who number job start over
      run =
          onto g tries who number job start (stood (State.Confirming seen call.server) (with_directory begun)) over (gathered Stage.HasBytes has_bytes)
          (first g tries who number job (stood (State.Confirming seen call.server) (with_directory begun)) (stood (State.Installing seen call.server) (with_directory begun)) over
          (ap (λ (r : Directory × Told). let w : AtWork = record { call = open_call g (record { pairs = []; at = confirming_after seen call.server r.1 }); places = with_directory r.0 } in w) confirm_made)
          (first g tries who number job (stood (State.Installing seen call.server) (with_directory begun)) (stood (State.Placing call.server epoch) (record { directory = begun; servers = servers_then version })) over installs
          (first g tries who number job (stood (State.Placing call.server epoch) (record { directory = begun; servers = servers_then version })) over over
          (ap (λ (r : Directory × Told). let w : AtWork = record { call = open_call g (record { pairs = []; at = ending_after Outcome.Rebuilt r.1 }); places = record { directory = r.0; servers = servers_then version } } in w) repaired_made
          ∙ ap (λ v. stood (State.Finished Outcome.Rebuilt) (record { directory = last; servers = servers_then v })) is_version)
          (there g tries who number job over))))

      anew : Anew stands p_now s h_now n live call.server one target.found last
      anew = record {
        shape = refl;
        most = refl;
        objects = refl;
        versions = ap (λ v. change_at v (raised_in call.server epoch) d.versions) is_version;
        passes = passes_again;
        sound =
            let may : (pass : Pass) × IsRebuilding begun who pass × (call.server < chunk_count begun.shape) = (mine, record { is_pass = pass_found; kind = refl }, less) in
            subst (λ (r : Directory × Told). IsSound r.0) repaired_made (steps_keep_sound.step false who number (DirectoryStep.Repaired call.server epoch) begun some begun_sound may);
      }

      made_anew : Served (place_anew n call.server s, Answer.Rebuilt)
      made_anew = record {
        after = record { directory = last; servers = servers_then (version_of stands n) };
        ends = record {
          made = run.made;
          over = ap (λ (w : AtWork). act_of_state g tries job w.call) run.comes;
          leaves = ap (λ (w : AtWork). w.places) run.comes;
        };
        seen = seen_anew stands p_now s h_now n live call.server one target.found last anew;
        quiet = λ quiet. quiet_anew stands p_now s h_now n live call.server one target.found last anew (kept_quiet stands p s p_now unchanged_yet way.now quiet);
        pinned = λ pinned. pinned_anew stands p_now s h_now n live call.server one target.found last anew (λ m kept. pinned m kept);
        next = begins_next last passes_again refl;
      }

    -- ---- as the session serves it
    abbrev answered : Bool → Bool → Session × Answer
    answered held beyond =
        if held then (s, Answer.Here)
        else (if beyond then (s, Answer.Unavailable call.stripe (named g s.epochs stripe stripe (call.server ∷ []))) else (place_anew n call.server s, Answer.Rebuilt))

    pub stripe_served : Served (rebuild g call.stripe call.server s (numbers_of call.name s.numbers))
    stripe_served = subst Served (sym serves) (by_bool (holds stripe call.server) holding lacking)
      where
        serves : rebuild g call.stripe call.server s (numbers_of call.name s.numbers) ≡ answered (holds stripe call.server) (is_beyond_repair g stripe)
        serves =
            ap (λ f. rebuild g call.stripe call.server s (unwrap_or f [])) of_name
            ∙ ap (λ b. let r : Session × Answer = if b then rebuild_one g call.stripe call.server s n stripe else (s, Answer.Replied reply.NoSuch) in r) (lt-ltb call.stripe (length numbers) within)

        Result : Bool → Bool → Type 0
        Result held beyond = Served (answered held beyond)

        holding : holds stripe call.server ≡ true → Served (answered (holds stripe call.server) (is_beyond_repair g stripe))
        holding e =
            subst (λ b. Served (answered b (is_beyond_repair g stripe))) (sym e)
            (ended_so Outcome.Here (gathered Stage.AtTarget (ap (λ b. end_stage b (is_beyond_repair g stripe)) e)) Answer.Here refl)

        lacking : holds stripe call.server ≡ false → Served (answered (holds stripe call.server) (is_beyond_repair g stripe))
        lacking e = subst (λ b. Served (answered b (is_beyond_repair g stripe))) (sym e) (by_bool (is_beyond_repair g stripe) out made)
          where
            so : (b : Bool) → is_beyond_repair g stripe ≡ b → stage_end ≡ end_stage false b
            so b is = ap (λ held. end_stage held (is_beyond_repair g stripe)) e ∙ ap (λ b. end_stage false b) is

            out : is_beyond_repair g stripe ≡ true → Served (answered false (is_beyond_repair g stripe))
            out is =
                subst (λ b. Served (answered false b)) (sym is)
                (ended_so (rebuilt_as (Answer.Unavailable call.stripe (named g s.epochs stripe stripe (call.server ∷ []))))
                (subst (λ lost. Comes g tries who number job start (stood (State.Ending (Outcome.Unavailable call.stripe lost)) (with_directory begun)))
                (sym (named_same stands p s h call.name object numbers of_name same call.stripe within (call.server ∷ []))) (gathered (end_stage false true) (so true is)))
                (Answer.Unavailable call.stripe (named g s.epochs stripe stripe (call.server ∷ []))) refl)

            made : is_beyond_repair g stripe ≡ false → Served (answered false (is_beyond_repair g stripe))
            made is = subst (λ b. Served (answered false b)) (sym is) (made_anew (so false is) e)

  -- ---- by what is found
  lengths_of : option_map (λ (object : Object). object.versions) (find_object call.name d.objects) ≡ option_map (map (version_of stands)) (bytes_of call.name s.numbers)
  lengths_of = sym (under_objects (λ (object : Object). object.versions) call.name d.objects) ∙ ap (under call.name) h.versions ∙ under_map (map (version_of stands)) call.name s.numbers

  without_object : find_object call.name d.objects ≡ None → Served (rebuild g call.stripe call.server s (numbers_of call.name s.numbers))
  without_object e =
      let none : bytes_of call.name s.numbers ≡ None = is_none_by (map (version_of stands)) (bytes_of call.name s.numbers) (sym lengths_of ∙ ap (option_map (λ (object : Object). object.versions)) e) in
      let serves : rebuild g call.stripe call.server s (numbers_of call.name s.numbers) ≡ (s, Answer.Replied reply.NoSuch) =
      ap (λ f. rebuild g call.stripe call.server s (unwrap_or f [])) none
      ∙ ap (λ b. let r : Session × Answer = if b then rebuild_one g call.stripe call.server s 0 (get_or s.stripes 0 []) else (s, Answer.Replied reply.NoSuch) in r) (le-ltb call.stripe 0 (omega arith)) in
      subst Served (sym serves) (no_such (ap (look_repair_by who number note d) e))

  with_object : (object : Object) → find_object call.name d.objects ≡ Some object → Served (rebuild g call.stripe call.server s (numbers_of call.name s.numbers))
  with_object object e = by_bool (nat_lt call.stripe (length numbers.0)) inside outside
    where
      numbers : (numbers : List ℕ) × (bytes_of call.name s.numbers ≡ Some numbers) × (map (version_of stands) numbers ≡ object.versions)
      numbers = is_some_by (map (version_of stands)) (bytes_of call.name s.numbers) object.versions (sym lengths_of ∙ ap (option_map (λ (object : Object). object.versions)) e)

      its : HasItsVersions d object
      its =
          let has : IfSome (find_object call.name d.objects) (HasItsVersions d) =
          Rattle.run_laws.proofs.Passes.found_has (HasItsVersions d) (λ (object : Object). Rattle.std.proofs.Common.bytes_eq call.name object.name) d.objects h.sound.objects in
          subst (λ f. IfSome f (HasItsVersions d)) e has

      inside : nat_lt call.stripe (length numbers.0) ≡ true → Served (rebuild g call.stripe call.server s (numbers_of call.name s.numbers))
      inside t = stripe_served object e its numbers.0 numbers.1 (sym numbers.2) (Rattle.std.proofs.lemmas.Bool.ltb-true call.stripe (length numbers.0) t)

      outside : nat_lt call.stripe (length numbers.0) ≡ false → Served (rebuild g call.stripe call.server s (numbers_of call.name s.numbers))
      outside f =
          let count : length object.versions ≡ length numbers.0 = ap length (sym numbers.2) ∙ length-map numbers.0 (version_of stands) in
          let look_is : look_repair who number note d ≡ (d, Told.NoSuch) =
          ap (look_repair_by who number note d) e
          ∙ ap (λ b. let r : Directory × Told = if b then (record d { passes = record { actor = who; number = number; note = note; pinned = map pin_of (seen_at d object call.stripe ∷ []); drawn = []; base = None; reaped = None } ∷ d.passes }, Told.PinnedStripe (seen_at d object call.stripe)) else (d, Told.NoSuch) in r)
          (ap (nat_lt call.stripe) count ∙ f) in
          let serves : rebuild g call.stripe call.server s (numbers_of call.name s.numbers) ≡ (s, Answer.Replied reply.NoSuch) =
          ap (λ f. rebuild g call.stripe call.server s (unwrap_or f [])) numbers.1
          ∙ ap (λ b. let r : Session × Answer = if b then rebuild_one g call.stripe call.server s (get_or numbers.0 call.stripe 0) (get_or s.stripes (get_or numbers.0 call.stripe 0) []) else (s, Answer.Replied reply.NoSuch) in r) f in
          subst Served (sym serves) (no_such look_is)

  pub rebuild_served : Served (rebuild g call.stripe call.server s (numbers_of call.name s.numbers))
  rebuild_served = options (find_object call.name d.objects) without_object with_object

pub rebuilds_are_served : RebuildsAreServed
rebuilds_are_served g max tries stands p s who number call some parity less h begin repairer = by h.shape h.most some parity less h
  where
    by : {g : Shape} {max : ℕ} → p.directory.shape ≡ g → p.directory.max ≡ max → 0 < stripe_length g → 0 < g.parity_count → call.server < chunk_count g → IsSeenAs g max stands p s →
        IsRebuiltAs g max tries who number call stands p s (rebuild g call.stripe call.server s (numbers_of call.name s.numbers))
    by same most some parity less h =
        subst₂ (λ g max. 0 < stripe_length g → 0 < g.parity_count → call.server < chunk_count g → IsSeenAs g max stands p s →
        IsRebuiltAs g max tries who number call stands p s (rebuild g call.stripe call.server s (numbers_of call.name s.numbers))) same most
        (λ some parity less h. rebuild_served tries stands p s who number call h begin some parity less repairer) some parity less h

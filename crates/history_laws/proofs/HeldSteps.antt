-- Each step of a run keeps that what is held may be held.
use Rattle.std.proofs.Common.{◌≡◌, ◌⊎◌, inl, inr, ℕ, ◌+◌, ◌<◌, ◌≤◌, Bool, true, false, cond, nat_eq, nat_lt, List, [], ◌∷◌, ◌++◌, length, Option, None, Some, option_map, refl, sym, ap, subst, ◌∙◌, arith, true≢false}
use Rattle.std.proofs.lemmas.Bool.{cases_eq, eq-eqb, ltb-false}
use Rattle.std.proofs.lemmas.Option.{none-some, same_Some, slice_get_within}
use Rattle.std.specs.List.{slice_get}
use Rattle.store_map.specs.declared.actor.Actor.{Actor}
use Rattle.store_map.specs.declared.actor.Actor.TheVariants as actor
use Rattle.store_core.specs.Act.{Act, DirectoryStep, ServerStep}
use Rattle.store_core.specs.AtDirectory.{at_directory, reap, reap_pass, take_garbage, swept_standing}
use Rattle.store_core.specs.Directory.{Standing, Version, Pass, Event, Point, Directory}
use Rattle.store_core.specs.Lists.{change_at, is_among}
use Rattle.store_core.specs.Lookups.{same_actor, pass_of, first_garbage}
use Rattle.store_core.specs.Server.{Server, at_server}
use Rattle.store_core.specs.Sound.{IsSound}
use Rattle.store_core.specs.Step.{at_places, at_server_there}
use Rattle.store_core.specs.Sweep.{Sweeper, next_sweep, after_taken, after_sweep}
use Rattle.store_core.proofs.Places.{slice_get-change_at}
use Rattle.run_laws.proofs.LiveVersions.{is_live_standing, sound_live}
use Rattle.run_laws.proofs.OwnPasses.{one_changed, keeps_actor, mapped_found}
use Rattle.run_laws.proofs.Passes.{same_is, pass_is}
use Rattle.run_laws.proofs.SoundVersions.{change_here}
use Rattle.history_laws.proofs.AnsweredPoints.{act_grows}
use Rattle.history_laws.proofs.VersionMoves.{StepChange, StepVersions, versions_move}
use Rattle.history_laws.specs.Held.{WasGivenUp, IsStray}
use Rattle.history_laws.specs.Trace.{Made}
use Rattle.history_laws.proofs.HeldRuns.{adds, held_from, held_less, HeldThen, stray_on, taken_stays, there_stays, garbage_there, taken_so}
use Rattle.history_laws.proofs.HeldStandings.{IsNoSweep, sweeps_none}

-- ---- a step at the directory that sweeps nothing
pub directory_held : (trace : List Made) (made : Made) (short : Bool) (who : Actor) (number : ℕ) (step : DirectoryStep) (d : Directory) (servers : List Server) (sweeper : Sweeper) → IsSound d → IsNoSweep step
    → HeldThen trace d servers sweeper → HeldThen (trace ++ made ∷ []) (at_directory short who number step d).0 servers sweeper
directory_held trace made short who number step d servers sweeper sound quiet h =
    record {
      there = λ j s e v is. let old : (version : Version) × (slice_get d.versions v ≡ Some version) = h.there j s e v is in there_stays d.versions now.versions (StepChange step (pass_of who d)) moved v old.0 old.1;
      swept = λ j s e v is version found swept.
          let old : (o : Version) × (slice_get d.versions v ≡ Some o) × (o.standing ≡ Standing.Swept) = sweeps_none short d who number step quiet v version found swept in
          stray_on trace (made ∷ []) d.points now.points grows v (h.swept j s e v is old.0 old.1 old.2);
      taken = λ v k is. let old : (version : Version) × (slice_get d.versions v ≡ Some version) × (version.standing ≡ Standing.Taken) = h.taken v k is in
          taken_stays d.versions now.versions (StepChange step (pass_of who d)) moved (sweeps_none short d who number step quiet) v old.0 old.1 old.2;
      done = λ v k is j s e low has. stray_on trace (made ∷ []) d.points now.points grows v (h.done v k is j s e low has);
    }
  where
    now : Directory
    now = (at_directory short who number step d).0

    moved : StepVersions (StepChange step (pass_of who d)) d.versions (at_directory short who number step d).0.versions
    moved = versions_move d (sound_live d sound) who number short step

    grows : (place : ℕ) (point : Point) → slice_get d.points place ≡ Some point → slice_get (at_directory short who number step d).0.points place ≡ Some point
    grows = act_grows short who number (Act.AtDirectory step) (record { directory = d; servers = servers })

-- ---- a step at a server
-- what is added may be held
abbrev pub AddedWell : List Made → Directory → ServerStep → Type 0
AddedWell trace d step =
    (v : ℕ) → adds step ≡ Some v → (version : Version) × (slice_get d.versions v ≡ Some version) × ((is_live_standing version.standing ≡ true) ⊎ IsStray trace d.points v)

module _ (trace : List Made) (made : Made) (short : Bool) (n : ℕ) (step : ServerStep) (d : Directory) (sweeper : Sweeper) (added : AddedWell trace d step) where
  abbrev Changed : List Server → Server → List Server
  Changed servers s = change_at n (λ _. (at_server short step s).0) servers

  -- a chunk that is held after, as one that was or one that came
  each : (servers : List Server) (old : Server) → slice_get servers n ≡ Some old → (P : ℕ → ℕ → Type 0)
      → ((j : ℕ) (s : Server) → slice_get servers j ≡ Some s → (v : ℕ) → is_among v s.held ≡ true → P j v) → ((v : ℕ) → adds step ≡ Some v → P n v)
      → (j : ℕ) (s : Server) → slice_get (Changed servers old) j ≡ Some s → (v : ℕ) → is_among v s.held ≡ true → P j v
  each servers old found P before new j s e v has = two (cases_eq j n)
    where
      two : (j ≡ n) ⊎ (j ≡ n → ⊥) → P j v
      two (inr differ) = before j s (sym (slice_get-change_at n j (λ _. (at_server short step old).0) servers differ) ∙ e) v has
      two (inl same) =
          let is : (at_server short step old).0 ≡ s = same_Some (at_server short step old).0 s (sym (change_here n (λ _. (at_server short step old).0) servers old found) ∙ subst (λ k. slice_get (Changed servers old) k ≡ Some s) same e) in
          subst (λ k. P k v) (sym same) (one (held_from short step old v (ap (λ (x : Server). is_among v x.held) is ∙ has)))
        where
          one : (is_among v old.held ≡ true) ⊎ (adds step ≡ Some v) → P n v
          one (inl k) = before n old found v k
          one (inr k) = new v k

  not_live : (version : Version) (standing : Standing) → version.standing ≡ standing → is_live_standing standing ≡ false → is_live_standing version.standing ≡ true → ⊥
  not_live version standing e gone live = true≢false (sym live ∙ ap is_live_standing e ∙ gone)

  pub server_held : (servers : List Server) (old : Server) → slice_get servers n ≡ Some old → HeldThen trace d servers sweeper → HeldThen (trace ++ made ∷ []) d (Changed servers old) sweeper
  server_held servers old found h =
      record {
        there = each servers old found (λ j v. (version : Version) × (slice_get d.versions v ≡ Some version)) h.there (λ v is. ((added v is).0, (added v is).1));
        swept = λ j s e v has.
            each servers old found (λ i w. (version : Version) → slice_get d.versions w ≡ Some version → version.standing ≡ Standing.Swept → IsStray (trace ++ made ∷ []) d.points w)
            (λ i x k w is version at swept. stay w (h.swept i x k w is version at swept))
            (λ w is version at swept. new w is version at (not_live version Standing.Swept swept refl))
            j s e v has;
        taken = h.taken;
        done = λ v k is j s e low has.
            each servers old found (λ i w. w ≡ v → i < k → IsStray (trace ++ made ∷ []) d.points w)
            (λ i x there w on_it same less. stay w (subst (IsStray trace d.points) (sym same) (h.done v k is i x there less (subst (λ y. is_among y x.held ≡ true) same on_it))))
            (λ w add same less.
            let t : (version : Version) × (slice_get d.versions v ≡ Some version) × (version.standing ≡ Standing.Taken) = h.taken v k is in
            new w add t.0 (subst (λ y. slice_get d.versions y ≡ Some t.0) (sym same) t.1) (not_live t.0 Standing.Taken t.2 refl))
            j s e v has refl low;
      }
    where
      stay : (v : ℕ) → IsStray trace d.points v → IsStray (trace ++ made ∷ []) d.points v
      stay v k = stray_on trace (made ∷ []) d.points d.points (λ place point e. e) v k

      new : (v : ℕ) → adds step ≡ Some v → (version : Version) → slice_get d.versions v ≡ Some version → (is_live_standing version.standing ≡ true → ⊥) → IsStray (trace ++ made ∷ []) d.points v
      new v is version at dead = by (added v is)
        where
          by : (x : Version) × (slice_get d.versions v ≡ Some x) × ((is_live_standing x.standing ≡ true) ⊎ IsStray trace d.points v) → IsStray (trace ++ made ∷ []) d.points v
          by (x, there, inl live) = absurd (dead (subst (λ (y : Version). is_live_standing y.standing ≡ true) (same_Some x version (sym there ∙ at)) live))
          by (x, there, inr stray) = stay v stray

-- where nothing was done
pub more_held : (trace : List Made) (made : Made) (d : Directory) (servers : List Server) (sweeper : Sweeper) → HeldThen trace d servers sweeper → HeldThen (trace ++ made ∷ []) d servers sweeper
more_held trace made d servers sweeper h =
    record {
      there = h.there;
      swept = λ j s e v has version at is. stray_on trace (made ∷ []) d.points d.points (λ place point k. k) v (h.swept j s e v has version at is);
      taken = h.taken;
      done = λ v k is j s e low has. stray_on trace (made ∷ []) d.points d.points (λ place point x. x) v (h.done v k is j s e low has);
    }

-- nothing is added
pub none_added : (trace : List Made) (d : Directory) (step : ServerStep) → adds step ≡ None → AddedWell trace d step
none_added trace d step none v is = absurd (none-some v (sym none ∙ is))

-- ---- the sweeper
abbrev IsSweeping : Sweeper → Type 0
IsSweeping Sweeper.Idle = ⊥
IsSweeping (Sweeper.Sweeping version server) = Unit {0}

abbrev version_in : Sweeper → ℕ
version_in Sweeper.Idle = 0
version_in (Sweeper.Sweeping version server) = version

abbrev place_in : Sweeper → ℕ
place_in Sweeper.Idle = 0
place_in (Sweeper.Sweeping version server) = server

pub idle_apart : (v k : ℕ) → Sweeper.Idle ≡ Sweeper.Sweeping v k → ⊥
idle_apart v k e = subst IsSweeping (sym e) tt

module _ (trace : List Made) (made : Made) (d : Directory) (servers : List Server) where
  stray_later : (v : ℕ) → IsStray trace d.points v → IsStray (trace ++ made ∷ []) d.points v
  stray_later v k = stray_on trace (made ∷ []) d.points d.points (λ place point e. e) v k

  -- it takes the least garbage, or finds none
  takes_held : IsSound d → HeldThen trace d servers Sweeper.Idle → (found : Option ℕ) → first_garbage d ≡ found
      → HeldThen (trace ++ made ∷ []) (take_garbage found d).0 servers (after_taken (take_garbage found d).1)
  takes_held sound h found e =
      record { there = kept.there; swept = kept.swept; taken = taken_by found e; done = λ v k is j s at low has. absurd (none_done found v k is low) }
    where
      kept : HeldThen (trace ++ made ∷ []) (take_garbage found d).0 servers Sweeper.Idle
      kept =
          subst (λ (f : Option ℕ). HeldThen (trace ++ made ∷ []) (take_garbage f d).0 servers Sweeper.Idle) e
          (directory_held trace made false actor.Sweeper 0 DirectoryStep.NextGarbage d servers Sweeper.Idle sound tt h)

      taken_by : (f : Option ℕ) → first_garbage d ≡ f → (v k : ℕ) → after_taken (take_garbage f d).1 ≡ Sweeper.Sweeping v k
          → (version : Version) × (slice_get (take_garbage f d).0.versions v ≡ Some version) × (version.standing ≡ Standing.Taken)
      taken_by None is v k same = absurd (idle_apart v k same)
      taken_by (Some version) is v k same =
          let there : (entry : Version) × (slice_get d.versions version ≡ Some entry) = garbage_there d version is in
          subst (λ n. (new : Version) × (slice_get (change_at version (λ entry. record entry { standing = Standing.Taken }) d.versions) n ≡ Some new) × (new.standing ≡ Standing.Taken)) (ap version_in same)
          (taken_so d.versions version there.0 there.1)

      none_done : (f : Option ℕ) (v k : ℕ) → after_taken (take_garbage f d).1 ≡ Sweeper.Sweeping v k → {j : ℕ} → j < k → ⊥
      none_done None v k same low = idle_apart v k same
      none_done (Some version) v k same {j} low = absurd (let zero_is : 0 ≡ k = ap place_in same in omega (arith, zero_is, low))

  -- it discards at a server
  discards_held : (v k : ℕ) → HeldThen trace d servers (Sweeper.Sweeping v k) → (found : Option Server) → slice_get servers k ≡ found
      → HeldThen (trace ++ made ∷ []) (at_server_there false k (ServerStep.Discard v) (record { directory = d; servers = servers }) found).0.directory
      (at_server_there false k (ServerStep.Discard v) (record { directory = d; servers = servers }) found).0.servers (Sweeper.Sweeping v (k + 1))
  discards_held v k h None e =
      record {
        there = h.there;
        swept = λ j s at w has version there is. stray_later w (h.swept j s at w has version there is);
        taken = λ w m same. subst (λ n. (version : Version) × (slice_get d.versions n ≡ Some version) × (version.standing ≡ Standing.Taken)) (ap version_in same) (h.taken v k refl);
        done = λ w m same j s at low has.
            stray_later w
            (subst (IsStray trace d.points) (ap version_in same)
            (h.done v k refl j s at (before_it j m s (ap place_in same) low at) (subst (λ n. is_among n s.held ≡ true) (sym (ap version_in same)) has)));
      }
    where
      before_it : (j m : ℕ) (s : Server) → k + 1 ≡ m → j < m → slice_get servers j ≡ Some s → j < k
      before_it j m s same low at = strict (λ is. none_some_at (sym e ∙ ap (slice_get servers) (sym is) ∙ at))
        where
          none_some_at : None ≡ Some s → ⊥
          none_some_at x = none-some s x

          strict : (j ≡ k → ⊥) → j < k
          strict differ = omega (arith, same, low, differ)
  discards_held v k h (Some old) e =
      let kept : HeldThen (trace ++ made ∷ []) d (change_at k (λ _. (at_server false (ServerStep.Discard v) old).0) servers) (Sweeper.Sweeping v k) =
      server_held trace made false k (ServerStep.Discard v) d (Sweeper.Sweeping v k) (none_added trace d (ServerStep.Discard v) refl) servers old e h in
      record {
        there = kept.there;
        swept = kept.swept;
        taken = λ w m same. subst (λ n. (version : Version) × (slice_get d.versions n ≡ Some version) × (version.standing ≡ Standing.Taken)) (ap version_in same) (kept.taken v k refl);
        done = λ w m same j s at low has.
            subst (IsStray (trace ++ made ∷ []) d.points) (ap version_in same)
            (here_or (kept.done v k refl) j s at m (ap place_in same) low (subst (λ n. is_among n s.held ≡ true) (sym (ap version_in same)) has));
      }
    where
      here_or : ((j : ℕ) (s : Server) → slice_get (change_at k (λ _. (at_server false (ServerStep.Discard v) old).0) servers) j ≡ Some s → j < k → is_among v s.held ≡ true → IsStray (trace ++ made ∷ []) d.points v)
          → (j : ℕ) (s : Server) → slice_get (change_at k (λ _. (at_server false (ServerStep.Discard v) old).0) servers) j ≡ Some s → (m : ℕ) → k + 1 ≡ m → j < m → is_among v s.held ≡ true → IsStray (trace ++ made ∷ []) d.points v
      here_or before j s at m same low has = two (cases_eq j k)
        where
          two : (j ≡ k) ⊎ (j ≡ k → ⊥) → IsStray (trace ++ made ∷ []) d.points v
          two (inr differ) = before j s at (omega (arith, same, low, differ)) has
          two (inl is) =
              let server : (at_server false (ServerStep.Discard v) old).0 ≡ s =
              same_Some (at_server false (ServerStep.Discard v) old).0 s
              (sym (change_here k (λ _. (at_server false (ServerStep.Discard v) old).0) servers old e) ∙ subst (λ n. slice_get (change_at k (λ _. (at_server false (ServerStep.Discard v) old).0) servers) n ≡ Some s) is at) in
              let less : (is_among v old.held ≡ true) × (nat_eq v v ≡ false) = held_less v v old.held (ap (λ (x : Server). is_among v x.held) server ∙ has) in
              absurd (true≢false (sym (eq-eqb v v refl) ∙ less.1))

  -- it tells that a version is swept
  sweeps_held : (v k : ℕ) → length servers ≤ k → HeldThen trace d servers (Sweeper.Sweeping v k)
      → HeldThen (trace ++ made ∷ []) (record d { versions = change_at v (λ entry. record entry { standing = swept_standing entry.standing }) d.versions }) servers Sweeper.Idle
  sweeps_held v k all h =
      record {
        there = λ j s at w has. let old : (version : Version) × (slice_get d.versions w ≡ Some version) = h.there j s at w has in stays w old.0 old.1;
        swept = λ j s at w has version there is. stray_later w (stray j s at w has version there is (cases_eq w v));
        taken = λ w m same. absurd (idle_apart w m same);
        done = λ w m same j s at low has. absurd (idle_apart w m same);
      }
    where
      after : List Version
      after = change_at v (λ entry. record entry { standing = swept_standing entry.standing }) d.versions

      stays : (w : ℕ) (old : Version) → slice_get d.versions w ≡ Some old → (new : Version) × (slice_get (change_at v (λ entry. record entry { standing = swept_standing entry.standing }) d.versions) w ≡ Some new)
      stays w old found = by (cases_eq w v)
        where
          by : (w ≡ v) ⊎ (w ≡ v → ⊥) → (new : Version) × (slice_get (change_at v (λ entry. record entry { standing = swept_standing entry.standing }) d.versions) w ≡ Some new)
          by (inr differ) = (old, slice_get-change_at v w (λ entry. record entry { standing = swept_standing entry.standing }) d.versions differ ∙ found)
          by (inl same) = (
            record old { standing = swept_standing old.standing },
            subst (λ n. slice_get (change_at v (λ entry. record entry { standing = swept_standing entry.standing }) d.versions) n ≡ Some (record old { standing = swept_standing old.standing })) (sym same)
                (change_here v (λ entry. record entry { standing = swept_standing entry.standing }) d.versions old (subst (λ n. slice_get d.versions n ≡ Some old) same found)),
          )

      stray : (j : ℕ) (s : Server) → slice_get servers j ≡ Some s → (w : ℕ) → is_among w s.held ≡ true → (version : Version)
          → slice_get (change_at v (λ entry. record entry { standing = swept_standing entry.standing }) d.versions) w ≡ Some version → version.standing ≡ Standing.Swept → (w ≡ v) ⊎ (w ≡ v → ⊥) → IsStray trace d.points w
      stray j s at w has version there is (inl same) =
          subst (IsStray trace d.points) (sym same)
          (h.done v k refl j s at (let low : j < length servers = slice_get_within servers j s at in omega (arith, low, all)) (subst (λ n. is_among n s.held ≡ true) same has))
      stray j s at w has version there is (inr differ) =
          h.swept j s at w has version (sym (slice_get-change_at v w (λ entry. record entry { standing = swept_standing entry.standing }) d.versions differ) ∙ there) is

  -- any step of the sweeper
  pub sweeper_held : (n : ℕ) → length servers ≡ n → IsSound d → (sweeper : Sweeper) → HeldThen trace d servers sweeper
      → HeldThen (trace ++ made ∷ []) (at_places false actor.Sweeper 0 (next_sweep n sweeper) (record { directory = d; servers = servers })).0.directory
      (at_places false actor.Sweeper 0 (next_sweep n sweeper) (record { directory = d; servers = servers })).0.servers
      (after_sweep n sweeper (at_places false actor.Sweeper 0 (next_sweep n sweeper) (record { directory = d; servers = servers })).1)
  sweeper_held n size sound Sweeper.Idle h = takes_held sound h (first_garbage d) refl
  sweeper_held n size sound (Sweeper.Sweeping v k) h = by (nat_lt k n) refl
    where
      by : (b : Bool) → nat_lt k n ≡ b
          → HeldThen (trace ++ made ∷ []) (at_places false actor.Sweeper 0 (cond {A = Act} b (Act.AtServer k (ServerStep.Discard v)) (Act.AtDirectory (DirectoryStep.Swept v))) (record { directory = d; servers = servers })).0.directory
          (at_places false actor.Sweeper 0 (cond {A = Act} b (Act.AtServer k (ServerStep.Discard v)) (Act.AtDirectory (DirectoryStep.Swept v))) (record { directory = d; servers = servers })).0.servers (cond {A = Sweeper} b (Sweeper.Sweeping v (k + 1)) Sweeper.Idle)
      by true is = discards_held v k h (slice_get servers k) refl
      by false is = sweeps_held v k (let high : n ≤ k = ltb-false k n is in omega (arith, high, size)) h

-- ---- the operator
-- a pass that is marked with its reap, whose point is the call's
pub reap_given : (who target : Actor) (d : Directory) (found : Option Pass) → pass_of target d ≡ found → (now : Pass) → pass_of who (reap found d).0 ≡ Some now → (point : ℕ) → now.reaped ≡ Some point
    → (p : Pass) × (pass_of who d ≡ Some p) × ((p.reaped ≡ Some point) ⊎ WasGivenUp (reap found d).0.points p.actor p.number)
reap_given who target d None e now found point is = (now, found, inl is)
reap_given who target d (Some pass) e now found point is = by pass.reaped found
  where
    last_there : (points : List Point) (more : Point) → slice_get (points ++ more ∷ []) (length points) ≡ Some more
    last_there [] more = refl
    last_there (p ∷ points) more = last_there points more

    given : (p : Pass) → pass_of who d ≡ Some p → pass.actor ≡ p.actor → WasGivenUp (d.points ++ record { actor = pass.actor; number = pass.number; note = pass.note; event = Event.Reaped } ∷ []) p.actor p.number
    given p is_p same =
        let mine : target ≡ who = pass_is target d pass e ∙ same ∙ sym (pass_is who d p is_p) in
        let one : pass ≡ p = same_Some pass p (sym e ∙ ap (λ a. pass_of a d) mine ∙ is_p) in
        (length d.points, record { actor = pass.actor; number = pass.number; note = pass.note; event = Event.Reaped }, last_there d.points _, refl, ap (λ (x : Pass). x.actor) one, ap (λ (x : Pass). x.number) one)

    marked : (p : Pass) → pass_of who d ≡ Some p → (b : Bool) → same_actor pass.actor p.actor ≡ b → cond {A = Pass} b (record p { reaped = Some (length d.points) }) p ≡ now
        → (q : Pass) × (pass_of who d ≡ Some q) × ((q.reaped ≡ Some point) ⊎ WasGivenUp (d.points ++ record { actor = pass.actor; number = pass.number; note = pass.note; event = Event.Reaped } ∷ []) q.actor q.number)
    marked p is_p false apart k = (p, is_p, inl (ap (λ (x : Pass). x.reaped) k ∙ is))
    marked p is_p true same k = (p, is_p, inr (given p is_p (same_is pass.actor p.actor same)))

    from : (old : Option Pass) → pass_of who d ≡ old → option_map (one_changed pass.actor (λ other. record other { reaped = Some (length d.points) })) old ≡ Some now
        → (q : Pass) × (pass_of who d ≡ Some q) × ((q.reaped ≡ Some point) ⊎ WasGivenUp (d.points ++ record { actor = pass.actor; number = pass.number; note = pass.note; event = Event.Reaped } ∷ []) q.actor q.number)
    from None is_old k = absurd (none-some now k)
    from (Some p) is_old k = marked p is_old (same_actor pass.actor p.actor) refl (same_Some (one_changed pass.actor (λ other. record other { reaped = Some (length d.points) }) p) now k)

    by : (reaped : Option ℕ) → pass_of who (reap_pass pass reaped d).0 ≡ Some now
        → (p : Pass) × (pass_of who d ≡ Some p) × ((p.reaped ≡ Some point) ⊎ WasGivenUp (reap_pass pass reaped d).0.points p.actor p.number)
    by (Some earlier) k = (now, k, inl is)
    by None k =
        from (pass_of who d) refl
        (sym (mapped_found who (one_changed pass.actor (λ other. record other { reaped = Some (length d.points) })) (keeps_actor pass.actor (λ other. record other { reaped = Some (length d.points) }) (λ p. refl)) d.passes) ∙ k)

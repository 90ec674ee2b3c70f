-- The sweeper's steps in a session's places.
use Rattle.std.proofs.Common.{◌≡◌, ℕ, zero, suc, ◌-◌, ◌<◌, ◌||◌, Bool, true, false, cond, nat_lt, List, length, map, get_or, set, Option, None, Some, is_some, Vec, refl, sym, ap, subst, ◌∙◌, true≢false}
use Rattle.std.specs.Global.{Global}
use Rattle.clay_grid.specs.Shape.{Shape, chunk_count}
use Rattle.store_map.specs.declared.actor.Actor.TheVariants as actor
use Rattle.store_core.specs.Told.{Told}
use Rattle.store_core.specs.Act.{Act, DirectoryStep, ServerStep}
use Rattle.store_core.specs.ActPlace.{place_of}
use Rattle.store_core.specs.AtDirectory.{at_directory}
use Rattle.store_core.specs.Directory.{Directory}
use Rattle.store_core.specs.Lookups.{first_garbage}
use Rattle.store_core.specs.Server.{Server, at_server}
use Rattle.store_core.specs.Sound.{IsSound}
use Rattle.store_core.specs.Step.{Places, at_places}
use Rattle.store_core.specs.Sweep.{Sweeper, next_sweep, after_sweep, is_busy}
use Rattle.chunk_server.specs.Core.{core_of}
use Rattle.chunk_server.specs.State.{ServerState}
use Rattle.call_steps.specs.declared.need.Need.TheVariants as need
use Rattle.call_steps.proofs.Needs.{is_directory, is_server, server_in}
use Rattle.session_rules.specs.Alone.{Sweeping, sweep, sweeps}
use Rattle.sweeper.specs.Sweeps.{SweeperOf, new_sweeper, act_of, at_directory_by, at_server_by, heard, need_at, need_of, stepped_at_directory, stepped_at_server}
use Rattle.store_core.specs.Agreement.{Agrees}
use Rattle.run_laws.proofs.OwnSteps.{agreement_goes_on}
use Rattle.version_seal.specs.Entry.{BookOf}
use Rattle.store_core.specs.Calls.{Calls}
use Rattle.stripe_stamps.specs.Sealed.{Sealed}
use Rattle.stripe_stamps.specs.Stamped.{HaveContents}
use Rattle.stripe_stamps.proofs.StampSteps.{stamps_keep_contents}
use Rattle.session_store.specs.declared.places.SessionPlaces.{SessionPlaces}
use Rattle.session_store.specs.Places.{AreServers, ArePlaces, seen_in}
use Rattle.world_laws.specs.SweepsLeft.{sweeps_left}
use Rattle.world_laws.proofs.SweepsLeft.{sweeps_fall}
use Rattle.session_store.specs.Sweeping.{StillAgrees, KeepsStamps, MaySweep, IsSweptBy, HasSwept, Sweeps, has_sweep, sweeps_left_in}
use Rattle.session_store.proofs.Lists.{got, servers_set, step_at}

-- ---- one step more comes behind those before
pub sweeps_last : (g : Shape) (n : ℕ) (w : Sweeping) → sweeps g (suc n) w ≡ sweep g (sweeps g n w)
sweeps_last g zero w = refl
sweeps_last g (suc n) w = sweeps_last g n (sweep g w)

-- ---- a step, by its act
-- which the sweeper makes in its places
abbrev sweep_by : ℕ → Act → Sweeping → Sweeping
sweep_by n act w =
    let after : Places × Told = at_places false actor.Sweeper 0 act w.places in
    record { sweeper = after_sweep n w.sweeper after.1; places = after.0 }

module _ (g : Shape) (s after : SweeperOf) (width : s.servers ≡ chunk_count g) where
  -- what it does next in a session
  pub next_is : (act : Act) → act_of s ≡ act → next_sweep (chunk_count g) s.at ≡ act
  next_is act acts = ap (λ n. next_sweep n s.at) (sym width) ∙ acts

  pub record Swept (before now : Places) : Type 0 where
    pub step : sweep g (record { sweeper = s.at; places = before }) ≡ record { sweeper = after.at; places = now }
    pub servers : after.servers ≡ s.servers

  -- it hears the answer
  hears : (before now : Places) (act : Act) (answer : Told) → act_of s ≡ act → at_places false actor.Sweeper 0 act before ≡ (now, answer) → after ≡ heard s answer → Swept before now
  hears before now act answer acts made is = record {
    step =
        ap (λ (a : Act). sweep_by (chunk_count g) a (record { sweeper = s.at; places = before })) (next_is act acts)
        ∙ ap (λ (r : Places × Told). let w : Sweeping = record { sweeper = after_sweep (chunk_count g) s.at r.1; places = r.0 } in w) made
        ∙ ap (λ (n : ℕ). let w : Sweeping = record { sweeper = after_sweep n s.at answer; places = now } in w) (sym width)
        ∙ ap (λ (x : SweeperOf). let w : Sweeping = record { sweeper = x.at; places = now } in w) (sym is);
    servers = ap (λ (x : SweeperOf). x.servers) is;
  }

  module _ (d now : Directory) (servers : List Server) where
    there_by : (act : Act) → act_of s ≡ act → need_at (place_of act) ≡ need.Directory → (now, after) ≡ at_directory_by act actor.Sweeper 0 s d → Swept (record { directory = d; servers = servers }) (record { directory = now; servers = servers })
    there_by (Act.AtDirectory step) acts needs made =
        hears (record { directory = d; servers = servers }) (record { directory = now; servers = servers }) (Act.AtDirectory step) (at_directory false actor.Sweeper 0 step d).1 acts
        (λ k. (record { directory = sym (ap (λ (p : Directory × SweeperOf). p.0) made) k; servers = servers }, (at_directory false actor.Sweeper 0 step d).1))
        (ap (λ (p : Directory × SweeperOf). p.1) made)
    there_by (Act.AtServer server step) acts needs made = absurd (true≢false (sym (ap is_directory needs)))
    there_by (Act.Finish outcome) acts needs made = absurd (true≢false (sym (ap is_directory needs)))

    pub at_directory_swept : need_of s ≡ need.Directory → (now, after) ≡ stepped_at_directory actor.Sweeper 0 s d → Swept (record { directory = d; servers = servers }) (record { directory = now; servers = servers })
    at_directory_swept needs made = there_by (act_of s) refl needs made

  module _ (d : Directory) (servers : List ServerState) (i : ℕ) (x now : ServerState) (less : i < length servers) (read : x ≡ get_or servers i x) where
    here_by : (act : Act) → act_of s ≡ act → need_at (place_of act) ≡ need.Server i → (core_of now, after) ≡ at_server_by act s (core_of x) →
        Swept (record { directory = d; servers = map core_of servers }) (record { directory = d; servers = map core_of (set servers i now) })
    here_by (Act.AtDirectory step) acts needs made = absurd (true≢false (sym (ap is_server needs)))
    here_by (Act.AtServer server step) acts needs made =
        let same : server ≡ i = ap server_in needs in
        hears (record { directory = d; servers = map core_of servers }) (record { directory = d; servers = map core_of (set servers i now) }) (Act.AtServer i step) (at_server false step (core_of x)).1
        (acts ∙ ap (λ n. Act.AtServer n step) same)
        (step_at d servers i x now less read false actor.Sweeper 0 step (at_server false step (core_of x)).1 (λ k. (ap (λ (p : Server × SweeperOf). p.0) made k, (at_server false step (core_of x)).1)))
        (ap (λ (p : Server × SweeperOf). p.1) made)
    here_by (Act.Finish outcome) acts needs made = absurd (true≢false (sym (ap is_server needs)))

    pub at_server_swept : need_of s ≡ need.Server i → (core_of now, after) ≡ stepped_at_server s (core_of x) →
        Swept (record { directory = d; servers = map core_of servers }) (record { directory = d; servers = map core_of (set servers i now) })
    at_server_swept needs made = here_by (act_of s) refl needs made

-- ---- the places after a step
-- the sweeper draws nothing
not_drawn : (n : ℕ) (at : Sweeper) (step : DirectoryStep) → next_sweep n at ≡ Act.AtDirectory step → step ≡ DirectoryStep.Draw → ⊥
not_drawn n Sweeper.Idle step acts same = let e : Act.AtDirectory DirectoryStep.NextGarbage ≡ Act.AtDirectory DirectoryStep.Draw = acts ∙ ap (λ x. Act.AtDirectory x) same in cc (e)
not_drawn n (Sweeper.Sweeping version server) step acts same = by (nat_lt server n) (acts ∙ ap (λ x. Act.AtDirectory x) same)
  where
    by : (b : Bool) → cond {A = Act} b (Act.AtServer server (ServerStep.Discard version)) (Act.AtDirectory (DirectoryStep.Swept version)) ≡ Act.AtDirectory DirectoryStep.Draw → ⊥
    by true e = cc (e)
    by false e = cc (e)

module _ (p now : SessionPlaces) (s after : SweeperOf) (may : MaySweep s p) where
  abbrev g : Shape
  g = p.book.geometry

  -- at the directory
  module _ (sound : IsSound p.directory.core) (needs : need_of s ≡ need.Directory) (servers : now.servers ≡ p.servers) (book : now.book ≡ p.book) (same : now.directory.book ≡ p.directory.book)
      (stamps : now.directory.stamps ≡ p.directory.stamps) (made : (now.directory.core, after) ≡ stepped_at_directory actor.Sweeper 0 s p.directory.core) where
    directory_keeps : KeepsStamps p now
    directory_keeps = record {
      same = record {
        places = record {
          free = ap (λ (b : BookOf). b.script) book ∙ may.places.free;
          book = same ∙ may.places.book ∙ sym book;
          servers = subst (λ (v : Vec ServerState Global). AreServers now.book v.items) (sym servers) (subst (λ (b : BookOf). AreServers b p.servers.items) (sym book) may.places.servers);
        };
        book = book;
      };
      stamps = stamps;
      agrees = agrees_by (act_of s) made;
      contents = λ calls h. contents_by calls h (act_of s) refl needs made;
    }
      where
        contents_by : (calls : Calls) → HaveContents calls p.directory → (act : Act) → act_of s ≡ act → need_at (place_of act) ≡ need.Directory → (now.directory.core, after) ≡ at_directory_by act actor.Sweeper 0 s p.directory.core → HaveContents calls now.directory
        contents_by calls h (Act.AtDirectory step) acts needed is =
            subst (HaveContents calls) (λ i. record { core = sym (ap (λ (r : Directory × SweeperOf). r.0) is) i; book = sym same i; stamps = sym stamps i })
            ((stamps_keep_contents calls).still p.directory false actor.Sweeper 0 step (not_drawn s.servers s.at step acts) h)
        contents_by calls h (Act.AtServer server step) acts needed is = absurd (true≢false (sym (ap is_directory needed)))
        contents_by calls h (Act.Finish outcome) acts needed is = absurd (true≢false (sym (ap is_directory needed)))

        agrees_by : (act : Act) → (now.directory.core, after) ≡ at_directory_by act actor.Sweeper 0 s p.directory.core → StillAgrees p.directory.core now.directory.core
        agrees_by (Act.AtDirectory step) is token apart agrees =
            subst (λ (d : Directory). Agrees d token) (sym (ap (λ (r : Directory × SweeperOf). r.0) is)) (agreement_goes_on.others false actor.Sweeper 0 step p.directory.core token apart agrees)
        agrees_by (Act.AtServer server step) is token apart agrees = subst (λ (d : Directory). Agrees d token) (sym (ap (λ (r : Directory × SweeperOf). r.0) is)) agrees
        agrees_by (Act.Finish outcome) is token apart agrees = subst (λ (d : Directory). Agrees d token) (sym (ap (λ (r : Directory × SweeperOf). r.0) is)) agrees

    directory_step : Swept g s after may.servers (seen_in p) (seen_in now)
    directory_step =
        subst (λ (v : Vec ServerState Global). Swept g s after may.servers (seen_in p) (record { directory = now.directory.core; servers = map core_of v.items })) (sym servers)
        (at_directory_swept g s after may.servers p.directory.core now.directory.core (map core_of p.servers.items) needs made)

    pub swept_there : IsSweptBy s p after now
    swept_there = record { step = directory_step.step; servers = directory_step.servers; keeps = directory_keeps }

    pub falls_there : has_sweep s p.directory ≡ true → sweeps_left_in after now < sweeps_left_in s p
    falls_there busy = by (act_of s) refl needs made
      where
        by : (act : Act) → act_of s ≡ act → need_at (place_of act) ≡ need.Directory → (now.directory.core, after) ≡ at_directory_by act actor.Sweeper 0 s p.directory.core → sweeps_left_in after now < sweeps_left_in s p
        by (Act.AtDirectory step) acts needed is =
            let told : Directory × Told = at_directory false actor.Sweeper 0 step p.directory.core in
            let fewer : sweeps_left g (after_sweep (chunk_count g) s.at told.1) told.0 < sweeps_left g s.at p.directory.core = (sweeps_fall g s.at p.directory.core sound).at_directory step (next_is g s after may.servers (Act.AtDirectory step) acts) busy in
            let at_now : after.at ≡ after_sweep (chunk_count g) s.at told.1 = ap (λ (r : Directory × SweeperOf). r.1.at) is ∙ ap (λ n. after_sweep n s.at told.1) may.servers in
            subst (λ (b : BookOf). sweeps_left b.geometry after.at now.directory.core < sweeps_left g s.at p.directory.core) (sym book)
            (subst (λ (d : Directory). sweeps_left g after.at d < sweeps_left g s.at p.directory.core) (sym (ap (λ (r : Directory × SweeperOf). r.0) is))
            (subst (λ (x : Sweeper). sweeps_left g x told.0 < sweeps_left g s.at p.directory.core) (sym at_now) fewer))
        by (Act.AtServer server step) acts needed is = absurd (true≢false (sym (ap is_directory needed)))
        by (Act.Finish outcome) acts needed is = absurd (true≢false (sym (ap is_directory needed)))

  -- at a server
  module _ (sound : IsSound p.directory.core) (i : ℕ) (x one : ServerState) (less : i < length p.servers.items) (read : x ≡ get_or p.servers.items i x) (items : now.servers.items ≡ set p.servers.items i one) (needs : need_of s ≡ need.Server i)
      (book : now.book ≡ p.book) (directory : now.directory ≡ p.directory) (made : (core_of one, after) ≡ stepped_at_server s (core_of x)) (number : one.number ≡ x.number) (its : one.book ≡ x.book) where
    server_keeps : KeepsStamps p now
    server_keeps = record {
      same = record {
        places = record {
          free = ap (λ (b : BookOf). b.script) book ∙ may.places.free;
          book = ap (λ (d : Sealed). d.book) directory ∙ may.places.book ∙ sym book;
          servers =
              subst (λ (l : List ServerState). AreServers now.book l) (sym items)
              (subst (λ (b : BookOf). AreServers b (set p.servers.items i one)) (sym book)
              (servers_set p.book p.servers.items i one may.places.servers (number ∙ (may.places.servers.each i x (got p.servers.items i x less read)).0) (its ∙ (may.places.servers.each i x (got p.servers.items i x less read)).1)));
        };
        book = book;
      };
      stamps = ap (λ (d : Sealed). d.stamps) directory;
      agrees = λ token apart agrees. subst (λ (d : Sealed). Agrees d.core token) (sym directory) agrees;
      contents = λ calls h. subst (HaveContents calls) (sym directory) h;
    }

    server_step : Swept g s after may.servers (seen_in p) (seen_in now)
    server_step =
        subst (λ (d : Sealed). Swept g s after may.servers (seen_in p) (record { directory = d.core; servers = map core_of now.servers.items })) (sym directory)
        (subst (λ (l : List ServerState). Swept g s after may.servers (seen_in p) (record { directory = p.directory.core; servers = map core_of l })) (sym items)
        (at_server_swept g s after may.servers p.directory.core p.servers.items i x one less read needs made))

    pub swept_here : IsSweptBy s p after now
    swept_here = record { step = server_step.step; servers = server_step.servers; keeps = server_keeps }

    pub falls_here : sweeps_left_in after now < sweeps_left_in s p
    falls_here = by (act_of s) refl needs made
      where
        by : (act : Act) → act_of s ≡ act → need_at (place_of act) ≡ need.Server i → (core_of one, after) ≡ at_server_by act s (core_of x) → sweeps_left_in after now < sweeps_left_in s p
        by (Act.AtServer server step) acts needed is =
            let answer : Told = (at_server false step (core_of x)).1 in
            let fewer : sweeps_left g (after_sweep (chunk_count g) s.at answer) p.directory.core < sweeps_left g s.at p.directory.core = (sweeps_fall g s.at p.directory.core sound).at_server server step answer (next_is g s after may.servers (Act.AtServer server step) acts) in
            let at_now : after.at ≡ after_sweep (chunk_count g) s.at answer = ap (λ (r : Server × SweeperOf). r.1.at) is ∙ ap (λ n. after_sweep n s.at answer) may.servers in
            subst (λ (b : BookOf). sweeps_left b.geometry after.at now.directory.core < sweeps_left g s.at p.directory.core) (sym book)
            (subst (λ (d : Sealed). sweeps_left g after.at d.core < sweeps_left g s.at p.directory.core) (sym directory)
            (subst (λ (y : Sweeper). sweeps_left g y p.directory.core < sweeps_left g s.at p.directory.core) (sym at_now) fewer))
        by (Act.AtDirectory step) acts needed is = absurd (true≢false (sym (ap is_server needed)))
        by (Act.Finish outcome) acts needed is = absurd (true≢false (sym (ap is_server needed)))

-- ---- all steps
module _ (p : SessionPlaces) (places : ArePlaces p) where
  pub sweeps_none : (s : SweeperOf) → s ≡ new_sweeper (chunk_count p.book.geometry) → Sweeps p s p
  sweeps_none s is = record {
    may = record { places = places; servers = ap (λ (x : SweeperOf). x.servers) is };
    made = 0;
    come = ap (λ (x : SweeperOf). let w : Sweeping = record { sweeper = x.at; places = seen_in p } in w) (sym is);
    keeps = record { same = record { places = places; book = refl }; stamps = refl; agrees = λ token apart agrees. agrees; contents = λ calls h. h };
  }

pub keeps_on : (p q r : SessionPlaces) → KeepsStamps p q → KeepsStamps q r → KeepsStamps p r
keeps_on p q r first later = record {
  same = record { places = later.same.places; book = later.same.book ∙ first.same.book };
  stamps = later.stamps ∙ first.stamps;
  agrees = λ token apart agrees. later.agrees token apart (first.agrees token apart agrees);
  contents = λ calls h. later.contents calls (first.contents calls h);
}

pub sweeps_more : (p q r : SessionPlaces) (s after : SweeperOf) → Sweeps p s q → IsSweptBy s q after r → Sweeps p after r
sweeps_more p q r s after before one = record {
  may = record {
    places = one.keeps.same.places;
    servers = one.servers ∙ before.may.servers ∙ ap (λ (b : BookOf). chunk_count b.geometry) (sym one.keeps.same.book);
  };
  made = suc before.made;
  come =
      sweeps_last p.book.geometry before.made (record { sweeper = Sweeper.Idle; places = seen_in p })
      ∙ ap (sweep p.book.geometry) before.come
      ∙ ap (λ (b : BookOf). sweep b.geometry (record { sweeper = s.at; places = seen_in q })) (sym before.keeps.same.book)
      ∙ one.step;
  keeps = keeps_on p q r before.keeps one.keeps;
}

idle_at : (s : Sweeper) (d : Sealed) (b : Bool) → (is_busy s || b) ≡ false → (s ≡ Sweeper.Idle) × (b ≡ false)
idle_at Sweeper.Idle d b e = (refl, e)
idle_at (Sweeper.Sweeping version server) d b e = absurd (true≢false e)

none_found : (found : Option ℕ) → is_some found ≡ false → found ≡ None
none_found None e = refl
none_found (Some n) e = absurd (true≢false e)

pub swept_all : (p q : SessionPlaces) (s : SweeperOf) → Sweeps p s q → has_sweep s q.directory ≡ false → HasSwept p q
swept_all p q s swept over =
    let ends = idle_at s.at q.directory (is_some (first_garbage q.directory.core)) over in
    record {
      swept = record {
        made = swept.made;
        idle = swept.come ∙ ap (λ (x : Sweeper). let w : Sweeping = record { sweeper = x; places = seen_in q } in w) ends.0;
        clean = none_found (first_garbage q.directory.core) ends.1;
      };
      keeps = swept.keeps;
    }

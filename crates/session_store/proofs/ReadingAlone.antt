-- A read of a snapshot runs alone to its end.
use Rattle.std.proofs.Common.{◌≡◌, ◌≢◌, ◌⊎◌, ℕ, ◌+◌, ◌*◌, ◌^◌, ◌<◌, ◌≤◌, Bool, true, false, ◌&&◌, if◌then◌else◌, List, [], ◌∷◌, ◌++◌, length, map, get_or, set, Option, None, Some, refl, sym, ap, subst, ◌∙◌, inl, inr, arith}
use Rattle.std.proofs.lemmas.List.{length-map}
use Rattle.clay_grid.specs.Shape.{Shape, chunk_count}
use Rattle.store_map.specs.declared.actor.Actor.TheVariants as actor
use Rattle.store_map.specs.declared.reply.Reply.{Reply}
use Rattle.store_core.specs.Act.{Act, ServerStep, Outcome}
use Rattle.store_core.specs.ActPlace.{is_in_pass}
use Rattle.store_core.specs.Agreement.{ActorToken}
use Rattle.store_core.specs.Gathering.{Part}
use Rattle.store_core.specs.NextAct.{Job}
use Rattle.store_core.specs.Note.{Kind}
use Rattle.store_core.specs.Read.{part_of}
use Rattle.store_core.specs.Server.{Server, at_server}
use Rattle.store_core.specs.Step.{Shortage, Places as CorePlaces}
use Rattle.store_core.specs.Told.{Told}
use Rattle.run_laws.specs.CallLeft.{call_left}
use Rattle.run_laws.specs.StepLaws.{HasTarget}
use Rattle.run_laws.specs.StepsLeft.{ending_left}
use Rattle.run_laws.specs.GatheringLeft.{gathering_left}
use Rattle.run_laws.proofs.GatheringFalls.{gathering_start}
use Rattle.run_laws.specs.State.{Sequel, State, CallState}
use Rattle.run_laws.specs.States.{open_parts}
use Rattle.run_laws.specs.StateActs.{act_of_state}
use Rattle.run_laws.specs.CallLaws.{next_call}
use Rattle.run_laws.proofs.Opened.{opened_next}
use Rattle.version_seal.specs.Entry.{BookOf}
use Rattle.chunk_server.specs.Core.{core_of}
use Rattle.chunk_server.specs.State.{ServerState, IsSame}
use Rattle.call_steps.specs.declared.need.Need.{Need}
use Rattle.call_steps.specs.declared.need.Need.TheVariants as need
use Rattle.call_steps.specs.CallOf.{CallOf, act_of}
use Rattle.call_steps.specs.Steps.{at_server_by, stepped_at_server}
use Rattle.call_steps.proofs.Needs.{needs_tell_acts}
use Rattle.gather_parts.specs.declared.progress.Progress.TheVariants as progress
use Rattle.gather_parts.specs.Progress.{progress_of, is_due, need_at}
use Rattle.gather_parts.specs.States.{state_in, StandsIn, moved}
use Rattle.gather_parts.specs.Wanted.{parts_of}
use Rattle.gather_parts.proofs.Handing.{state_needs, due_open, open_in_pass, open_short}
use Rattle.snapshot_view.specs.Reads.{ReadOf, reply_by, reply_of}
use Rattle.snapshot_view.specs.ReadSteps.{need_of, coded}
use Rattle.snapshot_view.specs.declared.read_outcomes.Ending.{Ending}
use Rattle.snapshot_view.specs.declared.read_outcomes.Ending.TheVariants as ending
use Rattle.snapshot_view.proofs.Needs.{asks_by, due_by}
use Rattle.session_rules.specs.Alone.{AtWork}
use Rattle.session_rules.specs.Wants.{may_code}
use Rattle.session_rules.specs.Reading.{reading, reading_by, reading_step, reading_steps}
use Rattle.session_rules.proofs.ReadingSteps.{IsGathering, opened_gathers}
use Rattle.stripe_stamps.specs.Sealed.{Sealed}
use Rattle.session_store.specs.declared.places.SessionPlaces.{SessionPlaces}
use Rattle.session_store.specs.Places.{AreServers, AreSame, seen_in}
use Rattle.session_store.specs.Reading.{stands_by, at_work, MayReadOn, HasCoded, HasAsked, HasReadOn, MayRead, job_from, codings_next, left_of, ReadsOn}
use Rattle.session_store.proofs.Falling.{IsTold, IsToldMore, told_more, server_fits}
use Rattle.session_store.proofs.Lists.{got, servers_set, step_at}

-- ---- the step and the coding, as the code makes them
module _ (r after : ReadOf) (p now : SessionPlaces) (may : MayReadOn r p) (i : ℕ) (x one : ServerState) (short : Bool) (needs : need.Server i ≡ need_of r) (below : i < chunk_count r.gatherings.book.geometry) (read : x ≡ get_or p.servers.items i x) where
  there : i < length p.servers.items
  there = subst (λ n. i < n) (ap (λ (b : BookOf). chunk_count b.geometry) may.book ∙ sym may.places.servers.count) below

  its_place : (x.number ≡ i) × (x.book ≡ p.book)
  its_place = may.places.servers.each i x (got p.servers.items i x there read)

  pub asked_here : ((c : CallOf) → StandsIn c r.gatherings (Sequel.Serve 0) → ◌≡◌ {A = Server × CallOf} (core_of one, moved c after.gatherings (Sequel.Serve 0) false short) (stepped_at_server short false c (core_of x))) →
      after.ended ≡ r.ended → reply_of after ≡ reply_of r → after.gatherings.book ≡ r.gatherings.book → IsSame x one → now.servers.items ≡ set p.servers.items i one → now.directory ≡ p.directory → now.book ≡ p.book → HasReadOn r p after now
  asked_here leads ended reply its_book same items directory book = record {
    same = record {
      places = record {
        free = ap (λ (b : BookOf). b.script) book ∙ may.places.free;
        book = ap (λ (d : Sealed). d.book) directory ∙ may.places.book ∙ sym book;
        servers =
            subst (λ l. AreServers now.book l) (sym items)
            (subst (λ (b : BookOf). AreServers b (set p.servers.items i one)) (sym book)
            (servers_set p.book p.servers.items i one may.places.servers (same.number ∙ its_place.0) (same.book ∙ its_place.1)));
      };
      book = book;
    };
    book = its_book;
    step = inr (record {
      server = i;
      before = x;
      left = one;
      short = short;
      needs = sym needs;
      less = there;
      read = read;
      leads = leads;
      ended = ended;
      reply = reply;
      items = items;
      directory = directory;
    });
  }

-- ---- the read as a call
abbrev call_for : Job → ReadOf → CallOf
call_for job r =
    record {
      book = r.gatherings.book;
      tries = 0;
      job = job;
      number = 0;
      token = ActorToken.Seated (record { actor = actor.Operator; unused = 0; told = None });
      state = record { pairs = []; at = state_in r.gatherings (Sequel.Serve 0) };
      takes = r.gatherings.takes;
      due = is_due r.gatherings;
      coding = false;
      step = false;
    }

abbrev standing : State → CorePlaces → AtWork
standing at q = record { call = record { pairs = []; at = at }; places = q }

-- ---- a step at a server
module _ (r after : ReadOf) (p now : SessionPlaces) (t : HasAsked r p after now) where
  asks : (r.ended ≡ None) × (progress_of r.gatherings ≡ progress.Asks t.server)
  asks = asks_by r.ended (progress_of r.gatherings) t.server t.needs

  abbrev g : Shape
  g = r.gatherings.book.geometry

  module _ (job : Job) where
    abbrev c : CallOf
    c = call_for job r

    asked : (step : ServerStep) × (act_of c ≡ Act.AtServer t.server step) × (c.due ≡ false)
    asked = needs_tell_acts.server c t.server (state_needs r.gatherings 0 job [] (Sequel.Serve 0) ∙ ap need_at asks.1)

    abbrev told : Told
    told = (at_server t.short asked.0 (core_of t.before)).1

    made : ◌≡◌ {A = Server × CallOf} (core_of t.left, moved c after.gatherings (Sequel.Serve 0) false t.short) (at_server_by (Act.AtServer t.server asked.0) t.short false c (core_of t.before))
    made =
        subst (λ (act : Act). ◌≡◌ {A = Server × CallOf} (core_of t.left, moved c after.gatherings (Sequel.Serve 0) false t.short) (at_server_by act t.short false c (core_of t.before))) asked.1
        (t.leads c (record { book = refl; state = refl; takes = refl }))

    server_is : core_of t.left ≡ (at_server t.short asked.0 (core_of t.before)).0
    server_is = ap (λ (x : Server × CallOf). x.0) made

    state_is : record { pairs = []; at = state_in after.gatherings (Sequel.Serve 0) } ≡ next_call g job c.state told
    state_is = ap (λ (x : Server × CallOf). x.1.state) made

  one_asked : reading_steps g (record { coding = false; step = t.short } ∷ []) (at_work r p) ≡ at_work after now
  one_asked =
      ap (λ (ended : Option Ending). reading_step g (record { coding = false; step = t.short }) (standing (stands_by ended (state_in r.gatherings (Sequel.Serve 0))) (seen_in p))) asks.0
      ∙ ap (λ (act : Act). reading_by g t.short act (standing (state_in r.gatherings (Sequel.Serve 0)) (seen_in p))) (asked reading).1
      ∙ ap (λ (a : CorePlaces × Told). let w : AtWork = record { call = next_call g reading (c reading).state a.1; places = a.0 } in w)
      (step_at p.directory.core p.servers.items t.server t.before t.left t.less t.read t.short actor.Operator 0 (asked reading).0 (told reading) (λ i. (server_is reading i, told reading)))
      ∙ (λ i. record { call = sym (state_is reading) i; places = record { directory = (sym t.directory i).core; servers = map core_of (sym t.items i) } })
      ∙ ap (λ (ended : Option Ending). standing (stands_by ended (state_in after.gatherings (Sequel.Serve 0))) (seen_in now)) (sym (t.ended ∙ asks.0))

-- ---- a coding
codes : (at : State) → IsGathering at → may_code at ≡ true
codes (State.Placing target epoch) its = absurd its
codes at its = refl

module _ (g : Shape) (q : CorePlaces) (parts : List Part) where
  abbrev opened : State
  opened = open_parts g parts (Sequel.Serve 0)

  abbrev call_at : State → CallState
  call_at at = record { pairs = []; at = at }

  abbrev going_on : CallState → AtWork
  going_on call = reading_by g false (act_of_state g 0 reading call) (record { call = call; places = q })

  abbrev wanting_if : Bool → CallState
  wanting_if b = if b then next_call g reading (call_at opened) Told.Short else call_at opened

  ends_short : reading_step g (record { coding = true; step = false }) (standing opened q) ≡ standing (State.Ending Outcome.NoMemory) q
  ends_short =
      ap (λ b. going_on (wanting_if (b && is_in_pass (act_of_state g 0 reading (call_at opened))))) (codes opened (opened_gathers g 0 parts))
      ∙ ap (λ b. going_on (wanting_if b)) (open_in_pass g 0 reading [] (Sequel.Serve 0) parts)
      ∙ ap going_on (open_short g 0 reading [] (Sequel.Serve 0) parts)

module _ (r after : ReadOf) (p now : SessionPlaces) (t : HasCoded r p after now) where
  due : (r.ended ≡ None) × (progress_of r.gatherings ≡ progress.Due)
  due = due_by r.ended (progress_of r.gatherings) t.needs

  coded_ended : (short : Bool) → t.short ≡ short → after.ended ≡ (coded short r).ended
  coded_ended short is = ap (λ (x : ReadOf). x.ended) (t.coded_so ∙ ap (λ b. coded b r) is)

  -- with memory it stands where it stood
  stays : t.short ≡ false → at_work r p ≡ at_work after now
  stays is = λ i. standing (stands_by (sym (coded_ended false is) i) (sym (t.state is) i)) (seen_in (sym t.left i))

  -- without memory it ends
  ends : t.short ≡ true → reading_steps r.gatherings.book.geometry (record { coding = true; step = false } ∷ []) (at_work r p) ≡ at_work after now
  ends is =
      (λ i. reading_step r.gatherings.book.geometry (record { coding = true; step = false }) (standing (stands_by (due.0 i) (due_open r.gatherings (Sequel.Serve 0) due.1 i)) (seen_in p)))
      ∙ ends_short r.gatherings.book.geometry (seen_in p) (parts_of r.gatherings.left)
      ∙ (λ i. standing (stands_by (sym (coded_ended true is) i) (state_in after.gatherings (Sequel.Serve 0))) (seen_in (sym t.left i)))

-- ---- the whole read
steps_more : (g : Shape) (some more : List Shortage) (w : AtWork) → reading_steps g (some ++ more) w ≡ reading_steps g more (reading_steps g some w)
steps_more g [] more w = refl
steps_more g (shortage ∷ some) more w = steps_more g some more (reading_step g shortage w)

few_codings : (n : Need) → codings_next n ≤ 1
few_codings need.Coder = omega arith
few_codings need.Directory = omega arith
few_codings (need.Server server) = omega arith
few_codings need.Finished = omega arith

no_coding : (n : Need) → n ≢ need.Coder → codings_next n ≡ 0
no_coding need.Coder other = absurd (other refl)
no_coding need.Directory other = refl
no_coding (need.Server server) other = refl
no_coding need.Finished other = refl

target : (g : Shape) (start : ℕ) → HasTarget g (job_from start)
target g start kind = absurd (cc (kind))

pub reads_none : (first : ReadOf) (before : SessionPlaces) → MayRead first before → ReadsOn first before first before 0
reads_none first before may = record {
  ran = record { shortages = []; run = refl; same = record { places = may.places; book = refl }; directory = refl; book = may.book; reply = λ given e. e };
  start = may.start;
  told = Told.Pinned 0 may.end may.stripes ∷ [];
  state = λ none.
      (λ i. record { pairs = []; at = may.begun none i })
      ∙ (λ i. record { pairs = []; at = sym (opened_next before.book.geometry Kind.Get (job_from may.start) [] (map (part_of before.book.geometry may.start may.end) may.stripes) (Sequel.Serve 0)) i });
  left =
      let n : ℕ = 3 * chunk_count before.book.geometry in
      let parts : List Part = map (part_of before.book.geometry may.start may.end) may.stripes in
      let begun : gathering_left before.book.geometry parts ending_left [] ≤ n * length parts + 1 = gathering_start before.book.geometry ending_left (omega arith) parts in
      let many : n * length parts ≡ n * length may.stripes = ap (λ k. n * k) (length-map may.stripes (part_of before.book.geometry may.start may.end)) in
      let coding : codings_next (need_of first) ≤ 1 = few_codings (need_of first) in
      let few : n * length may.stripes + 1 < 2 ^ 62 = may.few in
      let a : ℕ = gathering_left before.book.geometry parts ending_left [] in
      let b : ℕ = n * length parts in
      let d : ℕ = n * length may.stripes in
      let e : ℕ = codings_next (need_of first) in
      omega (arith, begun, many, coding, few);
}

pub may_read_on : (first r : ReadOf) (before p : SessionPlaces) (count : ℕ) → ReadsOn first before r p count → MayReadOn r p
may_read_on first r before p count on = record {
  places = on.ran.same.places;
  book = on.ran.book ∙ sym on.ran.same.book;
}

module _ (first r after : ReadOf) (before p now : SessionPlaces) (count : ℕ) (on : ReadsOn first before r p count) (s : HasReadOn r p after now) where
  abbrev shape : Shape
  shape = before.book.geometry

  its_shape : r.gatherings.book.geometry ≡ shape
  its_shape = ap (λ (b : BookOf). b.geometry) on.ran.book

  same_places : AreSame before now
  same_places = record { places = s.same.places; book = s.same.book ∙ on.ran.same.book }

  run_more : (last : Shortage) → reading_steps r.gatherings.book.geometry (last ∷ []) (at_work r p) ≡ at_work after now → reading_steps shape (on.ran.shortages ++ last ∷ []) (at_work first before) ≡ at_work after now
  run_more last one =
      steps_more shape on.ran.shortages (last ∷ []) (at_work first before) ∙ ap (reading_steps shape (last ∷ [])) on.ran.run
      ∙ ap (λ (x : Shape). reading_steps x (last ∷ []) (at_work r p)) (sym its_shape) ∙ one

  coded_more : (t : HasCoded r p after now) (short : Bool) → t.short ≡ short → ReadsOn first before after now (count + 1)
  coded_more t short is = by short is
    where
      directory : now.directory ≡ before.directory
      directory = ap (λ (q : SessionPlaces). q.directory) t.left ∙ on.ran.directory

      left : left_of on.start before on.told + codings_next (need_of after) + (count + 1) ≤ 2 ^ 63
      left =
          let one : codings_next (need_of r) ≡ 1 = ap codings_next t.needs in
          let none : codings_next (need_of after) ≡ 0 = no_coding (need_of after) t.settled in
          let so_far : left_of on.start before on.told + codings_next (need_of r) + count ≤ 2 ^ 63 = on.left in
          let a : ℕ = call_left shape 0 0 (job_from on.start) on.told in
          let b : ℕ = codings_next (need_of r) in
          let d : ℕ = codings_next (need_of after) in
          omega (arith, one, none, so_far)

      by : (short : Bool) → t.short ≡ short → ReadsOn first before after now (count + 1)
      by false is = record {
        ran = record {
          shortages = on.ran.shortages;
          run = on.ran.run ∙ stays r after p now t is;
          same = same_places;
          directory = directory;
          book = s.book ∙ on.ran.book;
          reply = λ given e. on.ran.reply given (sym (t.reply is) ∙ e);
        };
        start = on.start;
        told = on.told;
        state = λ none. (λ i. record { pairs = []; at = t.state is i }) ∙ on.state (sym (coded_ended r after p now t false is) ∙ none);
        left = left;
      }
      by true is =
          let over : after.ended ≡ Some ending.NoMemory = coded_ended r after p now t true is in
          record {
            ran = record {
              shortages = on.ran.shortages ++ record { coding = true; step = false } ∷ [];
              run = run_more (record { coding = true; step = false }) (ends r after p now t is);
              same = same_places;
              directory = directory;
              book = s.book ∙ on.ran.book;
              reply = λ given e. absurd (no_reply given (ap (λ (x : Option Ending). reply_by x (Rattle.gather_parts.specs.Gatherings.owed after.gatherings)) (sym over) ∙ e));
            };
            start = on.start;
            told = on.told;
            state = λ none. absurd (still (sym none ∙ over));
            left = left;
          }
        where
          no_reply : (given : Reply) → None ≡ Some given → ⊥
          no_reply given e = absurd (cc (e))

          still : None ≡ Some ending.NoMemory → ⊥
          still e = absurd (cc (e))

  asked_more : HasAsked r p after now → ReadsOn first before after now (count + 1)
  asked_more t =
      let job : Job = job_from on.start in
      let its : IsTold shape 0 job on.told (call_for job r) = record { shape = its_shape; tries_are = refl; job_is = refl; state = on.state (asks r after p now t).0 } in
      let act : Act = Act.AtServer t.server (asked r after p now t job).0 in
      let fits = server_fits shape 0 0 job (target shape on.start) on.told (call_for job r) its t.server (asked r after p now t job).0 t.short (core_of t.before) (asked r after p now t job).1 in
      let more : IsToldMore shape 0 0 job (target shape on.start) on.told (record { pairs = []; at = state_in after.gatherings (Sequel.Serve 0) }) =
      told_more shape 0 0 job (target shape on.start) on.told (call_for job r) its act (told r after p now t job) (record { pairs = []; at = state_in after.gatherings (Sequel.Serve 0) }) (asked r after p now t job).1 fits.0 fits.1
      (state_is r after p now t job) in
      record {
        ran = record {
          shortages = on.ran.shortages ++ record { coding = false; step = t.short } ∷ [];
          run = run_more (record { coding = false; step = t.short }) (one_asked r after p now t);
          same = same_places;
          directory = t.directory ∙ on.ran.directory;
          book = s.book ∙ on.ran.book;
          reply = λ given e. on.ran.reply given (sym t.reply ∙ e);
        };
        start = on.start;
        told = more.more;
        state = λ none. more.is;
        left =
            let fewer : call_left shape 0 0 job more.more < call_left shape 0 0 job on.told = more.fewer in
            let few : codings_next (need_of after) ≤ 1 = few_codings (need_of after) in
            let so_far : left_of on.start before on.told + codings_next (need_of r) + count ≤ 2 ^ 63 = on.left in
            let a : ℕ = call_left shape 0 0 job more.more in
            let b : ℕ = call_left shape 0 0 job on.told in
            let d : ℕ = codings_next (need_of r) in
            let e : ℕ = codings_next (need_of after) in
            omega (arith, fewer, few, so_far);
      }

  pub reads_more : ReadsOn first before after now (count + 1)
  reads_more = by s.step
    where
      by : HasCoded r p after now ⊎ HasAsked r p after now → ReadsOn first before after now (count + 1)
      by (inl t) = coded_more t t.short refl
      by (inr t) = asked_more t

-- so it is over before the numbers of 64 bits are
pub never_out : (first r : ReadOf) (before p : SessionPlaces) (count : ℕ) → ReadsOn first before r p count → 2 ^ 64 ≤ count + 1 → ⊥
never_out first r before p count on out =
    let so_far : left_of on.start before on.told + codings_next (need_of r) + count ≤ 2 ^ 63 = on.left in
    let a : ℕ = call_left before.book.geometry 0 0 (job_from on.start) on.told in
    let b : ℕ = codings_next (need_of r) in
    absurd (omega (arith, so_far, out))

-- A gathering for a server's chunk that comes to its bytes, with what it takes from each server.
use Rattle.std.proofs.Common.{◌≡◌, ℕ, zero, suc, ◌+◌, ◌<◌, ◌≤◌, Bool, true, false, not, List, [], ◌∷◌, length, map, get_or, take, filter, slice_get, Option, None, Some, refl, sym, ap, subst, ◌∙◌, arith, if◌then◌else◌}
use Rattle.std.specs.Bool.{⊤}
use Rattle.std.proofs.lemmas.Bool.{or_left, or_right, eq-eqb, and_parts, ltb-false}
use Rattle.clay_grid.specs.Shape.{Shape, chunk_count}
use Rattle.clay_grid.specs.Repair.{all_layers, repair_layers_of}
use Rattle.store_map.specs.declared.actor.Actor.{Actor}
use Rattle.store_map.specs.declared.placement.Found.TheVariants as found
use Rattle.store_core.specs.Lists.{change_at, is_among}
use Rattle.store_core.specs.Told.{Seen, Lost, Told}
use Rattle.store_core.specs.Act.{Act, ServerStep, Outcome}
use Rattle.store_core.specs.NextAct.{Job}
use Rattle.store_core.specs.Directory.{Directory}
use Rattle.store_core.specs.Gathering.{lost_at}
use Rattle.store_core.specs.Server.{Server, at_server, found_at, gives, install, raised_by}
use Rattle.store_core.specs.Step.{Places, at_places, at_server_there, take_from}
use Rattle.run_laws.specs.Stage.{Aim, Asking, Stage}
use Rattle.run_laws.specs.StageAfter.{stage_after, server_asked, step_asked}
use Rattle.run_laws.specs.Stages.{whole_stage, repair_stage, make_stage, look_stage, first_stage}
use Rattle.run_laws.specs.State.{Sequel, State}
use Rattle.run_laws.specs.StateActs.{act_at, act_of_state}
use Rattle.run_laws.specs.CallLaws.{next_call}
use Rattle.session_rules.specs.State.{Stripe}
use Rattle.session_rules.specs.Gathered.{holds, lacking, asked_first, is_beyond_repair}
use Rattle.session_rules.specs.Alone.{AtWork, step, step_by, steps}
use Rattle.session_rules.specs.Takes.{taken_by, takes_in}
use Rattle.session_rules.proofs.Walks.{Now, IsThere, at_stage, there_now, asked, gives_is, still}
use Rattle.session_rules.proofs.Orders.{settle_few, walk}
use Rattle.session_rules.proofs.Counting.{everyone, kept_first, among_kept, row_bounds, one_again, as_many, others_hold, rest_count}

-- so many subchunks are taken from each of some servers
abbrev pub taking : ℕ → List ℕ → List ℕ → List ℕ
taking n [] takes = takes
taking n (j ∷ more) takes = taking n more (change_at j (raised_by n) takes)

-- ---- a call that is over, or that has its bytes, takes no more
module _ (g : Shape) (tries : ℕ) (who : Actor) (number : ℕ) (job : Job) where
  -- a call that has its bytes
  abbrev pub HasItsBytes : State → Type 0
  HasItsBytes (State.Confirming seen target) = ⊤
  HasItsBytes (State.Installing seen target) = ⊤
  HasItsBytes (State.Placing target epoch) = ⊤
  HasItsBytes (State.Ending outcome) = ⊤
  HasItsBytes (State.Finished outcome) = ⊤
  HasItsBytes _ = ⊥

  confirmed : (pairs : List (ℕ × ℕ)) (seen : Seen) (target : ℕ) (told : Told) → HasItsBytes (next_call g job (record { pairs = pairs; at = State.Confirming seen target }) told).at
  confirmed pairs seen target Told.Current = tt
  confirmed pairs seen target (Told.Superseded newer) = tt
  confirmed pairs seen target (Told.Reaped point) = tt
  confirmed pairs seen target _ = tt

  installed : (pairs : List (ℕ × ℕ)) (seen : Seen) (target : ℕ) (told : Told) → HasItsBytes (next_call g job (record { pairs = pairs; at = State.Installing seen target }) told).at
  installed pairs seen target (Told.Placed epoch) = tt
  installed pairs seen target Told.AlreadyThere = tt
  installed pairs seen target (Told.Away downs) = tt
  installed pairs seen target _ = tt

  ended : (pairs : List (ℕ × ℕ)) (outcome : Outcome) (told : Told) → HasItsBytes (next_call g job (record { pairs = pairs; at = State.Ending outcome }) told).at
  ended pairs outcome Told.Ended = tt
  ended pairs outcome (Told.Reaped point) = tt
  ended pairs outcome _ = tt

  placed : (pairs : List (ℕ × ℕ)) (target epoch : ℕ) (told : Told) → HasItsBytes (next_call g job (record { pairs = pairs; at = State.Placing target epoch }) told).at
  placed pairs target epoch Told.Ended = tt
  placed pairs target epoch (Told.Reaped point) = tt
  placed pairs target epoch _ = tt

  -- an install takes nothing
  install_takes : (server version : ℕ) (p : Places) (found : Option Server) (takes : List ℕ) →
      take_from (Act.AtServer server (ServerStep.Install version)) (at_server_there false server (ServerStep.Install version) p found).1 takes ≡ takes
  install_takes server version p None takes = refl
  install_takes server version p (Some one) takes = by one.away (is_among version one.held)
    where
      by : (away has : Bool) → take_from (Act.AtServer server (ServerStep.Install version)) (install away has version one).1 takes ≡ takes
      by true has = refl
      by false true = refl
      by false false = refl

  goes_on : (pairs : List (ℕ × ℕ)) (at : State) (p : Places) → HasItsBytes at → HasItsBytes (step g tries who number job (record { call = record { pairs = pairs; at = at }; places = p })).call.at
  goes_on pairs (State.Confirming seen target) p ok = confirmed pairs seen target (at_places false who number (act_at g tries job pairs (State.Confirming seen target)) p).1
  goes_on pairs (State.Installing seen target) p ok = installed pairs seen target (at_places false who number (act_at g tries job pairs (State.Installing seen target)) p).1
  goes_on pairs (State.Placing target epoch) p ok = placed pairs target epoch (at_places false who number (act_at g tries job pairs (State.Placing target epoch)) p).1
  goes_on pairs (State.Ending outcome) p ok = ended pairs outcome (at_places false who number (act_at g tries job pairs (State.Ending outcome)) p).1
  goes_on pairs (State.Finished outcome) p ok = tt
  goes_on pairs State.Start p ok = absurd ok
  goes_on pairs (State.Parts part parts after) p ok = absurd ok
  goes_on pairs (State.Chunk seen target) p ok = absurd ok
  goes_on pairs (State.Gather aim asking parts after) p ok = absurd ok
  goes_on pairs State.Drawing p ok = absurd ok
  goes_on pairs (State.Preparing stripe version server servers row later placed versions) p ok = absurd ok
  goes_on pairs (State.Committing versions placed) p ok = absurd ok
  goes_on pairs (State.Committed versions) p ok = absurd ok
  goes_on pairs (State.Settling point place places) p ok = absurd ok

  takes_none : (pairs : List (ℕ × ℕ)) (at : State) (p : Places) (takes : List ℕ) → HasItsBytes at →
      taken_by g tries who number job (act_at g tries job pairs at) (record { call = record { pairs = pairs; at = at }; places = p }) takes ≡ takes
  takes_none pairs (State.Confirming seen target) p takes ok = refl
  takes_none pairs (State.Installing seen target) p takes ok = install_takes target seen.version p (slice_get p.servers target) takes
  takes_none pairs (State.Placing target epoch) p takes ok = refl
  takes_none pairs (State.Ending outcome) p takes ok = refl
  takes_none pairs (State.Finished outcome) p takes ok = refl
  takes_none pairs State.Start p takes ok = absurd ok
  takes_none pairs (State.Parts part parts after) p takes ok = absurd ok
  takes_none pairs (State.Chunk seen target) p takes ok = absurd ok
  takes_none pairs (State.Gather aim asking parts after) p takes ok = absurd ok
  takes_none pairs State.Drawing p takes ok = absurd ok
  takes_none pairs (State.Preparing stripe version server servers row later placed versions) p takes ok = absurd ok
  takes_none pairs (State.Committing versions placed) p takes ok = absurd ok
  takes_none pairs (State.Committed versions) p takes ok = absurd ok
  takes_none pairs (State.Settling point place places) p takes ok = absurd ok

  pub no_more : (n : ℕ) (w : AtWork) (takes : List ℕ) → HasItsBytes w.call.at → takes_in g tries who number job n w takes ≡ takes
  no_more zero w takes ok = refl
  no_more (suc n) w takes ok =
      no_more n (step g tries who number job w) (taken_by g tries who number job (act_of_state g tries job w.call) w takes) (goes_on w.call.pairs w.call.at w.places ok)
      ∙ takes_none w.call.pairs w.call.at w.places takes ok

  -- a call that is over
  over_stays : (w : AtWork) (outcome : Outcome) → act_of_state g tries job w.call ≡ Act.Finish outcome → step g tries who number job w ≡ w
  over_stays w outcome e = ap (λ act. step_by g tries who number job act w) e

  over_none : (n : ℕ) (w : AtWork) (outcome : Outcome) (takes : List ℕ) → act_of_state g tries job w.call ≡ Act.Finish outcome → takes_in g tries who number job n w takes ≡ takes
  over_none zero w outcome takes e = refl
  over_none (suc n) w outcome takes e =
      ap (λ (next : AtWork). takes_in g tries who number job n next (taken_by g tries who number job (act_of_state g tries job w.call) w takes)) (over_stays w outcome e)
      ∙ over_none n w outcome (taken_by g tries who number job (act_of_state g tries job w.call) w takes) e
      ∙ ap (λ act. taken_by g tries who number job act w takes) e

  -- whenever a call is over it has taken what it has taken once it has its bytes
  pub taken_once : (n m : ℕ) (w : AtWork) (outcome : Outcome) (takes : List ℕ) → act_of_state g tries job (steps g tries who number job n w).call ≡ Act.Finish outcome → HasItsBytes (steps g tries who number job m w).call.at →
      takes_in g tries who number job n w takes ≡ takes_in g tries who number job m w takes
  taken_once zero m w outcome takes over has = sym (over_none m w outcome takes over)
  taken_once (suc n) zero w outcome takes over has = no_more (suc n) w takes has
  taken_once (suc n) (suc m) w outcome takes over has = taken_once n m (step g tries who number job w) outcome (taken_by g tries who number job (act_of_state g tries job w.call) w takes) over has

  -- ---- from some moment a call comes to another, and takes so much on its way
  pub record Takes (first : List Server) (d : Directory) (w : AtWork) (at : Places → AtWork) (more : List ℕ → List ℕ) : Type 0 where
    pub places : Places
    pub made : ℕ
    pub comes : steps g tries who number job made w ≡ at places
    pub takes : (takes : List ℕ) → takes_in g tries who number job made w takes ≡ more takes

  pub here_takes : (first : List Server) (p : Places) (at : Places → AtWork) → Takes first p.directory (at p) at (λ takes. takes)
  here_takes first p at = record { places = p; made = 0; comes = refl; takes = λ takes. refl }

  pub before_takes : (first : List Server) (d : Directory) (w next : AtWork) (at : Places → AtWork) (now more : List ℕ → List ℕ) → step g tries who number job w ≡ next →
      ((takes : List ℕ) → taken_by g tries who number job (act_of_state g tries job w.call) w takes ≡ now takes) → Takes first d next at more → Takes first d w at (λ takes. more (now takes))
  before_takes first d w next at now more e took r = record {
    places = r.places;
    made = suc r.made;
    comes = ap (λ x. steps g tries who number job r.made x) e ∙ r.comes;
    takes = λ takes.
        ap (λ (x : AtWork). takes_in g tries who number job r.made x (taken_by g tries who number job (act_of_state g tries job w.call) w takes)) e
        ∙ r.takes (taken_by g tries who number job (act_of_state g tries job w.call) w takes) ∙ ap more (took takes);
  }

module _ (g : Shape) (tries : ℕ) (who : Actor) (number : ℕ) (job : Job) (pairs : List (ℕ × ℕ)) (seen : Seen) (target : ℕ) (stripe : Stripe) (epochs : List ℕ) (first : List Server) (d : Directory)
    (there : (j : ℕ) → j < chunk_count g → IsThere g tries who number job pairs (Aim.Chunk seen target) [] (Sequel.Confirm seen target) stripe epochs first d first j) (to : Places → AtWork) where
  abbrev aim : Aim
  aim = Aim.Chunk seen target

  abbrev after : Sequel
  after = Sequel.Confirm seen target

  abbrev standing : Stage → Places → AtWork
  standing stage p = at_stage g tries who number job pairs (Aim.Chunk seen target) [] (Sequel.Confirm seen target) stage p

  -- from a stage, at whichever places that are as before, the call comes there, and takes so much
  abbrev pub Next : (List ℕ → List ℕ) → Stage → Type 0
  Next more stage = (q : Places) → Now g tries who number job first q.servers → q.directory ≡ d → Takes g tries who number job first d (standing stage q) to more

  abbrev lost_of : ℕ → Lost
  lost_of j = lost_at g seen j (found.Absent (get_or epochs j 0))

  -- a server that gives its layers
  gives_layers : (asking : Asking) (layers : List ℕ) (more : List ℕ → List ℕ) → server_asked g aim asking < chunk_count g → step_asked g aim asking ≡ ServerStep.Fetch seen.version layers →
      holds stripe (server_asked g aim asking) ≡ true → Next more (stage_after g aim asking (Told.Given (length layers))) →
      Next (λ takes. more (change_at (server_asked g aim asking) (raised_by (length layers)) takes)) (Stage.Asks asking)
  gives_layers asking layers more less asks its next p now same =
      let h : IsThere g tries who number job pairs aim [] after stripe epochs first d p.servers (server_asked g aim asking) =
      there_now g tries who number job pairs aim [] after stripe epochs first d p.servers (server_asked g aim asking) now (there (server_asked g aim asking) less) in
      let gives_it : gives seen.version h.server ≡ true = gives_is g tries who number job pairs aim [] after stripe epochs first d h.server h.present ∙ h.held ∙ its in
      let one : Server = record (h.server) { taken = raised_by (length layers) h.server.taken } in
      let made : at_server false (step_asked g aim asking) h.server ≡ (one, Told.Given (length layers)) =
      ap (λ step. at_server false step h.server) asks ∙ ap (λ b. let r : Server × Told = if b then (one, Told.Given (length layers)) else (h.server, Told.Missing (found_at h.server)) in r) gives_it in
      let q : Places = record p { servers = change_at (server_asked g aim asking) (λ _. one) p.servers } in
      before_takes g tries who number job first d (standing (Stage.Asks asking) p) (standing (stage_after g aim asking (Told.Given (length layers))) q) to
      (change_at (server_asked g aim asking) (raised_by (length layers))) more
      (asked g tries who number job pairs aim [] after asking p h.server h.found
      ∙ ap (λ (r : Server × Told). standing (stage_after g aim asking r.1) (record p { servers = change_at (server_asked g aim asking) (λ _. r.0) p.servers })) made)
      (λ takes.
      ap (λ (f : Option Server). take_from (Act.AtServer (server_asked g aim asking) (step_asked g aim asking)) (at_server_there false (server_asked g aim asking) (step_asked g aim asking) p f).1 takes) h.found
      ∙ ap (λ (r : Server × Told). take_from (Act.AtServer (server_asked g aim asking) (step_asked g aim asking)) r.1 takes) made)
      (next q (still g tries who number job pairs aim [] after stripe epochs first d p.servers (server_asked g aim asking) h.server one now h.found refl) same)

  -- a server that is asked whether it has its chunk
  tells : (asking : Asking) (more : List ℕ → List ℕ) → server_asked g aim asking < chunk_count g → step_asked g aim asking ≡ ServerStep.Has seen.version → (b : Bool) → holds stripe (server_asked g aim asking) ≡ b →
      Next more (stage_after g aim asking (if b then Told.Here else Told.Missing (found.Absent (get_or epochs (server_asked g aim asking) 0)))) → Next more (Stage.Asks asking)
  tells asking more less asks b is next p now same =
      let h : IsThere g tries who number job pairs aim [] after stripe epochs first d p.servers (server_asked g aim asking) =
      there_now g tries who number job pairs aim [] after stripe epochs first d p.servers (server_asked g aim asking) now (there (server_asked g aim asking) less) in
      let gives_so : gives seen.version h.server ≡ b = gives_is g tries who number job pairs aim [] after stripe epochs first d h.server h.present ∙ h.held ∙ is in
      let says : found_at h.server ≡ found.Absent (get_or epochs (server_asked g aim asking) 0) =
      ap (λ away. if away then found.Away h.server.downs else found.Absent h.server.epoch) h.present ∙ ap (λ epoch. found.Absent epoch) h.epoch in
      let told : Told = if b then Told.Here else Told.Missing (found.Absent (get_or epochs (server_asked g aim asking) 0)) in
      let made : at_server false (step_asked g aim asking) h.server ≡ (h.server, told) =
      ap (λ step. at_server false step h.server) asks
      ∙ ap (λ b. let r : Server × Told = if b then (h.server, Told.Here) else (h.server, Told.Missing (found_at h.server)) in r) gives_so
      ∙ ap (λ what. let r : Server × Told = if b then (h.server, Told.Here) else (h.server, Told.Missing what) in r) says
      ∙ paired h.server b in
      let q : Places = record p { servers = change_at (server_asked g aim asking) (λ _. h.server) p.servers } in
      before_takes g tries who number job first d (standing (Stage.Asks asking) p) (standing (stage_after g aim asking told) q) to (λ takes. takes) more
      (asked g tries who number job pairs aim [] after asking p h.server h.found
      ∙ ap (λ (r : Server × Told). standing (stage_after g aim asking r.1) (record p { servers = change_at (server_asked g aim asking) (λ _. r.0) p.servers })) made)
      (λ takes.
      ap (λ (f : Option Server). take_from (Act.AtServer (server_asked g aim asking) (step_asked g aim asking)) (at_server_there false (server_asked g aim asking) (step_asked g aim asking) p f).1 takes) h.found
      ∙ ap (λ (r : Server × Told). take_from (Act.AtServer (server_asked g aim asking) (step_asked g aim asking)) r.1 takes) made ∙ nothing b takes)
      (next q (still g tries who number job pairs aim [] after stripe epochs first d p.servers (server_asked g aim asking) h.server h.server now h.found refl) same)
    where
      paired : (s : Server) (b : Bool) →
          (let r : Server × Told = if b then (s, Told.Here) else (s, Told.Missing (found.Absent (get_or epochs (server_asked g aim asking) 0))) in r) ≡ (s, if b then Told.Here else Told.Missing (found.Absent (get_or epochs (server_asked g aim asking) 0)))
      paired s true = refl
      paired s false = refl

      nothing : (b : Bool) (takes : List ℕ) → take_from (Act.AtServer (server_asked g aim asking) (step_asked g aim asking)) (if b then Told.Here else Told.Missing (found.Absent (get_or epochs (server_asked g aim asking) 0))) takes ≡ takes
      nothing true takes = refl
      nothing false takes = refl

  -- ---- what is made of the servers that hold their chunks
  abbrev Holders : List ℕ → Type 0
  Holders servers = (j : ℕ) → is_among j servers ≡ true → (j < chunk_count g) × (holds stripe j ≡ true)

  repair_takes : (servers : List ℕ) → Holders servers → (lost : Lost) → Next (λ takes. takes) Stage.HasBytes → Next (taking (length (repair_layers_of g lost.server)) servers) (repair_stage g servers lost)
  repair_takes [] all lost next = next
  repair_takes (j ∷ more) all lost next = by (repair_takes more (λ i e. all i (or_right _ _ e)) lost next)
    where
      mine : (j < chunk_count g) × (holds stripe j ≡ true)
      mine = all j (or_left _ _ (eq-eqb j j refl))

      by : Next (taking (length (repair_layers_of g lost.server)) more) (repair_stage g more lost) → Next (taking (length (repair_layers_of g lost.server)) (j ∷ more)) (repair_stage g (j ∷ more) lost)
      by rest = gives_layers (Asking.Repair j more lost) (repair_layers_of g lost.server) (taking (length (repair_layers_of g lost.server)) more) mine.0 refl mine.1 rest

  whole_takes : (servers : List ℕ) (wanted : ℕ) → wanted ≤ length servers → Holders servers → (missing : List Lost) → Next (λ takes. takes) Stage.HasBytes →
      Next (taking (length (all_layers g)) (take wanted servers)) (whole_stage g servers wanted missing)
  whole_takes [] zero enough all missing next = next
  whole_takes [] (suc wanted) enough all missing next = absurd (omega (arith, enough))
  whole_takes (j ∷ more) zero enough all missing next = next
  whole_takes (j ∷ more) (suc wanted) enough all missing next = by (whole_takes more wanted (omega (arith, enough)) (λ i e. all i (or_right _ _ e)) missing next)
    where
      mine : (j < chunk_count g) × (holds stripe j ≡ true)
      mine = all j (or_left _ _ (eq-eqb j j refl))

      by : Next (taking (length (all_layers g)) (take wanted more)) (whole_stage g more wanted missing) → Next (taking (length (all_layers g)) (take (suc wanted) (j ∷ more))) (whole_stage g (j ∷ more) (suc wanted) missing)
      by rest = gives_layers (Asking.Whole j more wanted missing) (all_layers g) (taking (length (all_layers g)) (take wanted more)) mine.0 refl mine.1 rest

  servers_back : (gone : List ℕ) → map (λ (lost : Lost). lost.server) (map lost_of gone) ≡ gone
  servers_back [] = refl
  servers_back (j ∷ gone) = ap (λ l. j ∷ l) (servers_back gone)

  abbrev but : List ℕ → List ℕ
  but gone = filter (λ n. not (is_among n gone)) (everyone g)

  holders : Holders (filter (holds stripe) (everyone g))
  holders j e =
      let parts : (is_among j (everyone g) ≡ true) × (holds stripe j ≡ true) = and_parts (is_among j (everyone g)) (holds stripe j) (sym (among_kept (holds stripe) j (everyone g)) ∙ e) in
      let less : j < 0 + chunk_count g = (row_bounds j 0 (chunk_count g) parts.0).1 in
      (omega (arith, less), parts.1)

  -- what is taken where the first of these servers and some others lack their chunks
  abbrev pub taken_for : List ℕ → List ℕ → List ℕ
  taken_for [] = taking (length (repair_layers_of g target)) (filter (holds stripe) (everyone g))
  taken_for (j ∷ others) = taking (length (all_layers g)) (take g.data_count (filter (holds stripe) (everyone g)))

  make_takes : (others : List ℕ) → but (target ∷ others) ≡ filter (holds stripe) (everyone g) → g.data_count ≤ length (filter (holds stripe) (everyone g)) → Next (λ takes. takes) Stage.HasBytes →
      Next (taken_for others) (make_stage g seen (map lost_of (target ∷ others)))
  make_takes [] rest enough next =
      subst (λ servers. Next (taking (length (repair_layers_of g target)) servers) (repair_stage g (but (target ∷ [])) (lost_of target))) rest
      (repair_takes (but (target ∷ [])) (subst Holders (sym rest) holders) (lost_of target) next)
  make_takes (i ∷ others) rest enough next =
      let back : but (map (λ (lost : Lost). lost.server) (map lost_of (target ∷ i ∷ others))) ≡ filter (holds stripe) (everyone g) = ap but (servers_back (target ∷ i ∷ others)) ∙ rest in
      subst (λ servers. Next (taking (length (all_layers g)) (take g.data_count servers)) (whole_stage g (but (map (λ (lost : Lost). lost.server) (map lost_of (target ∷ i ∷ others)))) g.data_count (map lost_of (target ∷ i ∷ others)))) back
      (whole_takes (but (map (λ (lost : Lost). lost.server) (map lost_of (target ∷ i ∷ others)))) g.data_count
      (subst (λ l. g.data_count ≤ length l) (sym back) enough) (subst Holders (sym back) holders) (map lost_of (target ∷ i ∷ others)) next)

  -- ---- from the target on
  abbrev pub others : List ℕ
  others = filter (λ n. not (is_among n (target ∷ []))) (everyone g)

  others_less : (j : ℕ) → is_among j others ≡ true → j < chunk_count g
  others_less j e =
      let parts : (is_among j (everyone g) ≡ true) × (not (is_among j (target ∷ [])) ≡ true) =
      and_parts (is_among j (everyone g)) (not (is_among j (target ∷ []))) (sym (among_kept (λ n. not (is_among n (target ∷ []))) j (everyone g)) ∙ e) in
      let low : j < 0 + chunk_count g = (row_bounds j 0 (chunk_count g) parts.0).1 in
      omega (arith, low)

  pub chunk_takes : target < chunk_count g → 0 < g.parity_count → holds stripe target ≡ false → is_beyond_repair g stripe ≡ false → Next (λ takes. takes) Stage.HasBytes →
      Next (taken_for (lacking stripe others)) (first_stage g (Aim.Chunk seen target))
  chunk_takes less some lacks fixable next =
      tells (Asking.Target target) (taken_for (lacking stripe others)) less refl false lacks
      (walk g stripe lost_of (Next (taken_for (lacking stripe others))) (look_stage g seen) (make_stage g seen) (λ missing. refl)
      (λ j more missing less e. tells (Asking.Look j more missing) (taken_for (lacking stripe others)) less refl true e)
      (λ j more missing less e. tells (Asking.Look j more missing) (taken_for (lacking stripe others)) less refl false e)
      others others_less (target ∷ []) (omega (arith, some))
      (subst (Next (taken_for (lacking stripe others))) (sym (settle_few g stripe lost_of (target ∷ lacking stripe others) (make_stage g seen (map lost_of (target ∷ lacking stripe others))) few))
      (make_takes (lacking stripe others) (ap but (sym order) ∙ others_hold g stripe (target ∷ []) (one_again g target less)) enough next)))
    where
      order : lacking stripe (asked_first g (target ∷ [])) ≡ target ∷ lacking stripe others
      order = kept_first (λ s. not (holds stripe s)) target others (ap not lacks)

      count : length (lacking stripe (asked_first g (target ∷ []))) ≡ length (lacking stripe (everyone g))
      count = as_many g stripe (target ∷ []) (one_again g target less)

      few : length (target ∷ lacking stripe others) ≤ g.parity_count
      few =
          let all : length (lacking stripe (everyone g)) ≤ g.parity_count = ltb-false g.parity_count (length (lacking stripe (everyone g))) fixable in
          let same : length (lacking stripe (asked_first g (target ∷ []))) ≡ length (lacking stripe (everyone g)) = count in
          let here : length (lacking stripe (asked_first g (target ∷ []))) ≡ length (target ∷ lacking stripe others) = ap length order in
          omega (arith, all, same, here)

      enough : g.data_count ≤ length (filter (holds stripe) (everyone g))
      enough =
          let all : length (filter (holds stripe) (everyone g)) + length (lacking stripe (everyone g)) ≡ g.data_count + g.parity_count = rest_count g stripe in
          let few_lack : length (lacking stripe (everyone g)) ≤ g.parity_count = ltb-false g.parity_count (length (lacking stripe (everyone g))) fixable in
          omega (arith, all, few_lack)

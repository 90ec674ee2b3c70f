-- Steps of a call one after another, and its servers while it gathers: nothing of them changes but what was taken.
use Rattle.std.proofs.Common.{◌≡◌, ℕ, zero, suc, Bool, true, false, not, ◌&&◌, List, [], ◌∷◌, length, map, get_or, slice_get, Option, None, Some, option_map, refl, sym, ap, subst, ◌∙◌, if◌then◌else◌}
use Rattle.std.proofs.lemmas.Option.{same_Some, none-some, slice_get-map}
use Rattle.clay_grid.specs.Shape.{Shape}
use Rattle.store_map.specs.declared.actor.Actor.{Actor}
use Rattle.store_map.specs.declared.placement.Found.TheVariants as found
use Rattle.store_core.specs.Lists.{change_at, is_among}
use Rattle.store_core.specs.Told.{Told}
use Rattle.store_core.specs.Act.{ServerStep}
use Rattle.store_core.specs.NextAct.{Job}
use Rattle.store_core.specs.Directory.{Directory}
use Rattle.store_core.specs.Gathering.{Part}
use Rattle.store_core.specs.Server.{Server, at_server, gives, found_at, raised_by}
use Rattle.store_core.specs.Step.{Places, at_server_there}
use Rattle.run_laws.specs.Stage.{Aim, Asking, Stage, seen_of}
use Rattle.run_laws.specs.StageAfter.{stage_after, server_asked, step_asked}
use Rattle.run_laws.specs.State.{Sequel}
use Rattle.run_laws.specs.States.{parts_state, stage_state, open_parts, open_state, open_call}
use Rattle.session_rules.specs.State.{Stripe}
use Rattle.session_rules.specs.Gathered.{holds}
use Rattle.session_rules.specs.Alone.{AtWork, step, steps}
use Rattle.session_rules.proofs.Lists.{map_kept}

pub by_bool : {P : Type 0} (b : Bool) → (b ≡ true → P) → (b ≡ false → P) → P
by_bool true its lacks = its refl
by_bool false its lacks = lacks refl

-- a server but for what was taken from it
abbrev pub untaken : Server → Server
untaken s = record s { taken = 0 }

-- a gathering before its first question stands at that question
opened : (g : Shape) (aim : Aim) (parts : List Part) (after : Sequel) (stage : Stage) →
    open_state g (stage_state (parts_state parts after) aim parts after stage) ≡ stage_state (open_parts g parts after) aim parts after stage
opened g aim parts after (Stage.Asks asking) = refl
opened g aim [] (Sequel.Serve point) Stage.HasBytes = refl
opened g aim [] Sequel.Draw Stage.HasBytes = refl
opened g aim [] (Sequel.Confirm seen target) Stage.HasBytes = refl
opened g aim (part ∷ parts) after Stage.HasBytes = refl
opened g aim parts after (Stage.TooMany missing) = refl
opened g aim parts after Stage.AtTarget = refl
opened g aim parts after (Stage.TargetAway downs) = refl
opened g aim parts after Stage.Short = refl

module _ (g : Shape) (tries : ℕ) (who : Actor) (number : ℕ) (job : Job) where
  -- these servers are some others but for what was taken
  abbrev pub Now : List Server → List Server → Type 0
  Now first servers = map untaken servers ≡ map untaken first

  -- from some moment a call comes to another, at places whose directory is this one and whose servers are as before
  pub record Reaches (first : List Server) (d : Directory) (w : AtWork) (at : Places → AtWork) : Type 0 where
    pub places : Places
    pub made : ℕ
    pub comes : steps g tries who number job made w ≡ at places
    pub now : Now first places.servers
    pub directory : places.directory ≡ d

  -- it is there already
  pub here : (first : List Server) (p : Places) (at : Places → AtWork) → Now first p.servers → Reaches first p.directory (at p) at
  here first p at now = record { places = p; made = 0; comes = refl; now = now; directory = refl }

  -- one step before
  pub before : (first : List Server) (d : Directory) (w next : AtWork) (at : Places → AtWork) → step g tries who number job w ≡ next → Reaches first d next at → Reaches first d w at
  before first d w next at e r = record {
    places = r.places;
    made = suc r.made;
    comes = ap (λ x. steps g tries who number job r.made x) e ∙ r.comes;
    now = r.now;
    directory = r.directory;
  }

  -- some steps before
  steps_before : (n : ℕ) (first : List Server) (d : Directory) (w next : AtWork) (at : Places → AtWork) → steps g tries who number job n w ≡ next → Reaches first d next at → Reaches first d w at
  steps_before zero first d w next at e r = subst (λ x. Reaches first d x at) (sym e) r
  steps_before (suc n) first d w next at e r = before first d w (step g tries who number job w) at refl (steps_before n first d (step g tries who number job w) next at e r)

  -- one way after another
  pub onward : (first : List Server) (d : Directory) (w : AtWork) (by at : Places → AtWork) → (r : Reaches first d w by) → Reaches first d (by r.places) at → Reaches first d w at
  onward first d w by at r next = steps_before r.made first d w (by r.places) at r.comes next

  module _ (pairs : List (ℕ × ℕ)) (aim : Aim) (parts : List Part) (after : Sequel) where
    -- a gathering at a stage
    abbrev pub at_stage : Stage → Places → AtWork
    at_stage stage p = record { call = record { pairs = pairs; at = stage_state (open_parts g parts after) aim parts after stage }; places = p }

    -- a step at the server that it asks
    pub asked : (asking : Asking) (p : Places) (s : Server) → slice_get p.servers (server_asked g aim asking) ≡ Some s →
        step g tries who number job (at_stage (Stage.Asks asking) p)
        ≡ at_stage (stage_after g aim asking (at_server false (step_asked g aim asking) s).1)
        (record p { servers = change_at (server_asked g aim asking) (λ _. (at_server false (step_asked g aim asking) s).0) p.servers })
    asked asking p s e =
        ap (λ (found : Option Server).
        let made : Places × Told = at_server_there false (server_asked g aim asking) (step_asked g aim asking) p found in
        let w : AtWork = record { call = open_call g (record { pairs = pairs; at = stage_state (parts_state parts after) aim parts after (stage_after g aim asking made.1) }); places = made.0 } in w) e
        ∙ ap (λ at. let w : AtWork = record { call = record { pairs = pairs; at = at }; places = record p { servers = change_at (server_asked g aim asking) (λ _. (at_server false (step_asked g aim asking) s).0) p.servers } } in w)
        (opened g aim parts after (stage_after g aim asking (at_server false (step_asked g aim asking) s).1))

    module _ (stripe : Stripe) (epochs : List ℕ) (first : List Server) (d : Directory) where
      -- a server holds its chunk where the stripe says so, and is there
      pub record IsThere (servers : List Server) (j : ℕ) : Type 0 where
        pub server : Server
        pub found : slice_get servers j ≡ Some server
        pub present : server.away ≡ false
        pub held : is_among (seen_of aim).version server.held ≡ holds stripe j
        pub epoch : server.epoch ≡ get_or epochs j 0

      -- the same of servers of which something was taken
      pub there_now : (servers : List Server) (j : ℕ) → Now first servers → IsThere first j → IsThere servers j
      there_now servers j now h = by (slice_get servers j) refl
        where
          same : option_map untaken (slice_get servers j) ≡ option_map untaken (slice_get first j)
          same = sym (slice_get-map untaken servers j) ∙ ap (λ xs. slice_get xs j) now ∙ slice_get-map untaken first j

          all : option_map untaken (slice_get servers j) ≡ Some (untaken h.server)
          all = same ∙ ap (option_map untaken) h.found

          by : (got : Option Server) → slice_get servers j ≡ got → IsThere servers j
          by None e = absurd (none-some (untaken h.server) (sym (ap (option_map untaken) e) ∙ all))
          by (Some s) e =
              let alike : untaken s ≡ untaken h.server = same_Some (untaken s) (untaken h.server) (sym (ap (option_map untaken) e) ∙ all) in
              record {
                server = s;
                found = e;
                present = ap (λ (one : Server). one.away) alike ∙ h.present;
                held = ap (λ (one : Server). is_among (seen_of aim).version one.held) alike ∙ h.held;
                epoch = ap (λ (one : Server). one.epoch) alike ∙ h.epoch;
              }

      pub gives_is : (s : Server) → s.away ≡ false → gives (seen_of aim).version s ≡ is_among (seen_of aim).version s.held
      gives_is s e = ap (λ away. not away && is_among (seen_of aim).version s.held) e

      -- a change of what was taken alone
      pub still : (servers : List Server) (j : ℕ) (s to : Server) → Now first servers → slice_get servers j ≡ Some s → untaken to ≡ untaken s → Now first (change_at j (λ _. to) servers)
      still servers j s to now e same = map_kept untaken j (λ _. to) servers (λ x at. same ∙ ap untaken (same_Some s x (sym e ∙ at))) ∙ now

      -- a server that gives its layers
      pub given : (asking : Asking) (layers : List ℕ) (p : Places) → Now first p.servers → p.directory ≡ d → IsThere first (server_asked g aim asking) →
          step_asked g aim asking ≡ ServerStep.Fetch (seen_of aim).version layers → holds stripe (server_asked g aim asking) ≡ true → (at : Places → AtWork) →
          ((q : Places) → Now first q.servers → q.directory ≡ d → Reaches first d (at_stage (stage_after g aim asking (Told.Given (length layers))) q) at) →
          Reaches first d (at_stage (Stage.Asks asking) p) at
      given asking layers p now same there asks its at next =
          let h : IsThere p.servers (server_asked g aim asking) = there_now p.servers (server_asked g aim asking) now there in
          let gives_it : gives (seen_of aim).version h.server ≡ true = gives_is h.server h.present ∙ h.held ∙ its in
          let to : Server = record (h.server) { taken = raised_by (length layers) h.server.taken } in
          let made : at_server false (step_asked g aim asking) h.server ≡ (to, Told.Given (length layers)) =
          ap (λ step. at_server false step h.server) asks ∙ ap (λ b. let r : Server × Told = if b then (to, Told.Given (length layers)) else (h.server, Told.Missing (found_at h.server)) in r) gives_it in
          let q : Places = record p { servers = change_at (server_asked g aim asking) (λ _. to) p.servers } in
          before first d (at_stage (Stage.Asks asking) p) (at_stage (stage_after g aim asking (Told.Given (length layers))) q) at
          (asked asking p h.server h.found
          ∙ ap (λ (r : Server × Told). at_stage (stage_after g aim asking r.1) (record p { servers = change_at (server_asked g aim asking) (λ _. r.0) p.servers })) made)
          (next q (still p.servers (server_asked g aim asking) h.server to now h.found refl) same)

      -- one that lacks its chunk
      pub missed : (asking : Asking) (layers : List ℕ) (p : Places) → Now first p.servers → p.directory ≡ d → IsThere first (server_asked g aim asking) →
          step_asked g aim asking ≡ ServerStep.Fetch (seen_of aim).version layers → holds stripe (server_asked g aim asking) ≡ false → (at : Places → AtWork) →
          ((q : Places) → Now first q.servers → q.directory ≡ d →
          Reaches first d (at_stage (stage_after g aim asking (Told.Missing (found.Absent (get_or epochs (server_asked g aim asking) 0)))) q) at) →
          Reaches first d (at_stage (Stage.Asks asking) p) at
      missed asking layers p now same there asks lacks at next =
          let h : IsThere p.servers (server_asked g aim asking) = there_now p.servers (server_asked g aim asking) now there in
          let gives_none : gives (seen_of aim).version h.server ≡ false = gives_is h.server h.present ∙ h.held ∙ lacks in
          let to : Server = record (h.server) { taken = raised_by (length layers) h.server.taken } in
          let told : Told = Told.Missing (found.Absent (get_or epochs (server_asked g aim asking) 0)) in
          let says : found_at h.server ≡ found.Absent (get_or epochs (server_asked g aim asking) 0) =
          ap (λ away. if away then found.Away h.server.downs else found.Absent h.server.epoch) h.present ∙ ap (λ epoch. found.Absent epoch) h.epoch in
          let made : at_server false (step_asked g aim asking) h.server ≡ (h.server, told) =
          ap (λ step. at_server false step h.server) asks
          ∙ ap (λ b. let r : Server × Told = if b then (to, Told.Given (length layers)) else (h.server, Told.Missing (found_at h.server)) in r) gives_none
          ∙ ap (λ what. let r : Server × Told = (h.server, Told.Missing what) in r) says in
          let q : Places = record p { servers = change_at (server_asked g aim asking) (λ _. h.server) p.servers } in
          before first d (at_stage (Stage.Asks asking) p) (at_stage (stage_after g aim asking told) q) at
          (asked asking p h.server h.found
          ∙ ap (λ (r : Server × Told). at_stage (stage_after g aim asking r.1) (record p { servers = change_at (server_asked g aim asking) (λ _. r.0) p.servers })) made)
          (next q (still p.servers (server_asked g aim asking) h.server h.server now h.found refl) same)

      -- one that is asked whether it has its chunk
      pub looked : (asking : Asking) (p : Places) → Now first p.servers → p.directory ≡ d → IsThere first (server_asked g aim asking) →
          step_asked g aim asking ≡ ServerStep.Has (seen_of aim).version → (b : Bool) → holds stripe (server_asked g aim asking) ≡ b → (at : Places → AtWork) →
          ((q : Places) → Now first q.servers → q.directory ≡ d →
          Reaches first d (at_stage (stage_after g aim asking (if b then Told.Here else Told.Missing (found.Absent (get_or epochs (server_asked g aim asking) 0)))) q) at) →
          Reaches first d (at_stage (Stage.Asks asking) p) at
      looked asking p now same there asks b is at next =
          let h : IsThere p.servers (server_asked g aim asking) = there_now p.servers (server_asked g aim asking) now there in
          let gives_so : gives (seen_of aim).version h.server ≡ b = gives_is h.server h.present ∙ h.held ∙ is in
          let says : found_at h.server ≡ found.Absent (get_or epochs (server_asked g aim asking) 0) =
          ap (λ away. if away then found.Away h.server.downs else found.Absent h.server.epoch) h.present ∙ ap (λ epoch. found.Absent epoch) h.epoch in
          let made : at_server false (step_asked g aim asking) h.server ≡ (h.server, if b then Told.Here else Told.Missing (found.Absent (get_or epochs (server_asked g aim asking) 0))) =
          ap (λ step. at_server false step h.server) asks
          ∙ ap (λ b. let r : Server × Told = if b then (h.server, Told.Here) else (h.server, Told.Missing (found_at h.server)) in r) gives_so
          ∙ ap (λ what. let r : Server × Told = if b then (h.server, Told.Here) else (h.server, Told.Missing what) in r) says
          ∙ paired h.server b in
          let q : Places = record p { servers = change_at (server_asked g aim asking) (λ _. h.server) p.servers } in
          before first d (at_stage (Stage.Asks asking) p) (at_stage (stage_after g aim asking (if b then Told.Here else Told.Missing (found.Absent (get_or epochs (server_asked g aim asking) 0)))) q) at
          (asked asking p h.server h.found
          ∙ ap (λ (r : Server × Told). at_stage (stage_after g aim asking r.1) (record p { servers = change_at (server_asked g aim asking) (λ _. r.0) p.servers })) made)
          (next q (still p.servers (server_asked g aim asking) h.server h.server now h.found refl) same)
        where
          paired : (s : Server) (b : Bool) →
              (let r : Server × Told = if b then (s, Told.Here) else (s, Told.Missing (found.Absent (get_or epochs (server_asked g aim asking) 0))) in r)
              ≡ (s, if b then Told.Here else Told.Missing (found.Absent (get_or epochs (server_asked g aim asking) 0)))
          paired s true = refl
          paired s false = refl

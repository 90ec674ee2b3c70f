-- How servers are asked for one pinned version, whatever is gathered of it: those that lack their chunks end the gathering once they are too many.
-- A run is the steps of one call from places that are seen as a state. What comes after is handed in (Next stage to), so no two runs are
-- composed; asking servers is one walk for any aim (Asked), and what it leaves are places that differ in takes, of which all is known by
-- one lemma (kept_seen), so the rest of a run starts there anew. What a commit leaves is said once for puts and writes (Committed): a
-- list of numbers, a list of versions, and that each number is a new one or one of an object. That no chunk is listed twice is a relation
-- along a list by recursion (Pairs), with lemmas for map, filter, take and flat_map; two chunks of one number are of one stripe by
-- StandsOnce. A law over every run in which memory may be wanting is one case analysis over the call's state (Fits), with a second part
-- for a call that has committed (IsOver): what a state knows is the least that its next step needs, so most cases are tt. A heal is the
-- rebuild's law along a list, with what stays true of the chunks that are left. Lost chunks go by stripes: where those of one stripe
-- stand together (a recursion along the list), a run's length is how many there are of its stripe, since none before and none behind is
-- of it. One walk over a call's states serves every property that is one of the point of its pins (IsByPoint): which pins are owed, and
-- that it has looked.
use Rattle.std.proofs.Common.{◌≡◌, ℕ, zero, suc, ◌+◌, ◌<◌, ◌≤◌, true, false, not, List, [], ◌∷◌, ◌++◌, length, map, get_or, take, filter, refl, sym, ap, subst, ◌∙◌, arith}
use Rattle.std.proofs.lemmas.Bool.{or_left, or_right, eq-eqb, and_parts}
use Rattle.clay_grid.specs.Shape.{Shape, chunk_count}
use Rattle.clay_grid.specs.Repair.{all_layers, repair_layers_of}
use Rattle.store_map.specs.declared.actor.Actor.{Actor}
use Rattle.store_map.specs.declared.placement.Found.TheVariants as found
use Rattle.store_core.specs.Lists.{is_among}
use Rattle.store_core.specs.Told.{Lost}
use Rattle.store_core.specs.NextAct.{Job}
use Rattle.store_core.specs.Directory.{Directory}
use Rattle.store_core.specs.Gathering.{Part, lost_at}
use Rattle.store_core.specs.Server.{Server}
use Rattle.store_core.specs.Step.{Places}
use Rattle.run_laws.specs.Stage.{Aim, Asking, Stage, seen_of}
use Rattle.run_laws.specs.Stages.{unless_many, whole_stage, repair_stage, make_stage, look_stage}
use Rattle.run_laws.specs.State.{Sequel}
use Rattle.session_rules.specs.State.{Stripe}
use Rattle.session_rules.specs.Gathered.{holds, lacking}
use Rattle.session_rules.specs.Alone.{AtWork}
use Rattle.session_rules.proofs.Walks.{Now, Reaches, IsThere, at_stage, given, looked}
use Rattle.session_rules.proofs.Orders.{settle as settle_by, settle_few as few_by, settle_many as many_by, walk as walk_by}
use Rattle.session_rules.proofs.Counting.{everyone, among_kept, row_bounds}

module _ (g : Shape) (tries : ℕ) (who : Actor) (number : ℕ) (job : Job) (pairs : List (ℕ × ℕ)) (aim : Aim) (parts : List Part) (after : Sequel)
    (stripe : Stripe) (epochs : List ℕ) (first : List Server) (d : Directory)
    (there : (j : ℕ) → j < chunk_count g → IsThere g tries who number job pairs aim parts after stripe epochs first d first j) where
  -- at a stage of the gathering
  abbrev pub standing : Stage → Places → AtWork
  standing stage p = at_stage g tries who number job pairs aim parts after stage p

  -- from a stage, at whichever places that are as before, the call comes there
  abbrev pub Next : Stage → (Places → AtWork) → Type 0
  Next stage to = (q : Places) → Now g tries who number job first q.servers → q.directory ≡ d → Reaches g tries who number job first d (standing stage q) to

  -- a server without its chunk
  abbrev pub lost_of : ℕ → Lost
  lost_of j = lost_at g (seen_of aim) j (found.Absent (get_or epochs j 0))

  -- servers that lack their chunks, which end the gathering if they are too many
  abbrev pub settle : List ℕ → Stage → Stage
  settle gone next = settle_by g stripe lost_of gone next

  pub settle_few : (gone : List ℕ) (next : Stage) → length gone ≤ g.parity_count → settle gone next ≡ next
  settle_few gone next few = few_by g stripe lost_of gone next few

  pub settle_many : (gone : List ℕ) (next : Stage) → g.parity_count < length gone → settle gone next ≡ Stage.TooMany (map lost_of (take (g.parity_count + 1) gone))
  settle_many gone next many = many_by g stripe lost_of gone next many

  -- servers one after another that are asked alike
  module _ (stage_of : List ℕ → List Lost → Stage) (last : List Lost → Stage)
      (empty : (missing : List Lost) → stage_of [] missing ≡ last missing)
      (has : (j : ℕ) (more : List ℕ) (missing : List Lost) → j < chunk_count g → holds stripe j ≡ true → (to : Places → AtWork) → Next (stage_of more missing) to → Next (stage_of (j ∷ more) missing) to)
      (lacks : (j : ℕ) (more : List ℕ) (missing : List Lost) → j < chunk_count g → holds stripe j ≡ false → (to : Places → AtWork) →
      Next (unless_many g (missing ++ lost_of j ∷ []) (stage_of more (missing ++ lost_of j ∷ []))) to → Next (stage_of (j ∷ more) missing) to) where
    pub walk : (more : List ℕ) → ((j : ℕ) → is_among j more ≡ true → j < chunk_count g) → (gone : List ℕ) → length gone ≤ g.parity_count → (to : Places → AtWork) →
        Next (settle (gone ++ lacking stripe more) (last (map lost_of (gone ++ lacking stripe more)))) to → Next (stage_of more (map lost_of gone)) to
    walk more all gone few to next =
        walk_by g stripe lost_of (λ stage. Next stage to) stage_of last empty (λ j more missing less e. has j more missing less e to) (λ j more missing less e. lacks j more missing less e to) more all gone few next

  -- ---- what is made of the servers that hold their chunks
  abbrev pub Holders : List ℕ → Type 0
  Holders servers = (j : ℕ) → is_among j servers ≡ true → (j < chunk_count g) × (holds stripe j ≡ true)

  repair_next : (servers : List ℕ) → Holders servers → (lost : Lost) (to : Places → AtWork) → Next Stage.HasBytes to → Next (repair_stage g servers lost) to
  repair_next [] all lost to next = next
  repair_next (j ∷ more) all lost to next = by (repair_next more (λ i e. all i (or_right _ _ e)) lost to next)
    where
      mine : (j < chunk_count g) × (holds stripe j ≡ true)
      mine = all j (or_left _ _ (eq-eqb j j refl))

      by : Next (repair_stage g more lost) to → Next (repair_stage g (j ∷ more) lost) to
      by rest = λ q now same. given g tries who number job pairs aim parts after stripe epochs first d (Asking.Repair j more lost) (repair_layers_of g lost.server) q now same (there j mine.0) refl mine.1 to rest

  whole_next : (servers : List ℕ) (wanted : ℕ) → wanted ≤ length servers → Holders servers → (missing : List Lost) (to : Places → AtWork) → Next Stage.HasBytes to →
      Next (whole_stage g servers wanted missing) to
  whole_next [] zero enough all missing to next = next
  whole_next [] (suc wanted) enough all missing to next = absurd (omega (arith, enough))
  whole_next (j ∷ more) zero enough all missing to next = next
  whole_next (j ∷ more) (suc wanted) enough all missing to next = by (whole_next more wanted (omega (arith, enough)) (λ i e. all i (or_right _ _ e)) missing to next)
    where
      mine : (j < chunk_count g) × (holds stripe j ≡ true)
      mine = all j (or_left _ _ (eq-eqb j j refl))

      by : Next (whole_stage g more wanted missing) to → Next (whole_stage g (j ∷ more) (suc wanted) missing) to
      by rest = λ q now same. given g tries who number job pairs aim parts after stripe epochs first d (Asking.Whole j more wanted missing) (all_layers g) q now same (there j mine.0) refl mine.1 to rest

  pub servers_back : (gone : List ℕ) → map (λ (lost : Lost). lost.server) (map lost_of gone) ≡ gone
  servers_back [] = refl
  servers_back (j ∷ gone) = ap (λ l. j ∷ l) (servers_back gone)

  abbrev pub but : List ℕ → List ℕ
  but gone = filter (λ n. not (is_among n gone)) (everyone g)

  pub holders : Holders (filter (holds stripe) (everyone g))
  holders j e =
      let parts : (is_among j (everyone g) ≡ true) × (holds stripe j ≡ true) = and_parts (is_among j (everyone g)) (holds stripe j) (sym (among_kept (holds stripe) j (everyone g)) ∙ e) in
      let less : j < 0 + chunk_count g = (row_bounds j 0 (chunk_count g) parts.0).1 in
      (omega (arith, less), parts.1)

  pub make_next : (gone : List ℕ) → but gone ≡ filter (holds stripe) (everyone g) → g.data_count ≤ length (filter (holds stripe) (everyone g)) → (to : Places → AtWork) →
      Next Stage.HasBytes to → Next (make_stage g (seen_of aim) (map lost_of gone)) to
  make_next [] rest enough to next = next
  make_next (j ∷ []) rest enough to next = repair_next (but (j ∷ [])) (subst Holders (sym rest) holders) (lost_of j) to next
  make_next (j ∷ i ∷ gone) rest enough to next =
      let back : but (map (λ (lost : Lost). lost.server) (map lost_of (j ∷ i ∷ gone))) ≡ filter (holds stripe) (everyone g) = ap but (servers_back (j ∷ i ∷ gone)) ∙ rest in
      whole_next (but (map (λ (lost : Lost). lost.server) (map lost_of (j ∷ i ∷ gone)))) g.data_count
      (subst (λ l. g.data_count ≤ length l) (sym back) enough) (subst Holders (sym back) holders) (map lost_of (j ∷ i ∷ gone)) to next

  -- ---- who is looked over
  pub look_has : (j : ℕ) (more : List ℕ) (missing : List Lost) → j < chunk_count g → holds stripe j ≡ true → (to : Places → AtWork) → Next (look_stage g (seen_of aim) more missing) to → Next (look_stage g (seen_of aim) (j ∷ more) missing) to
  look_has j more missing less e to rest =
      λ q now same. looked g tries who number job pairs aim parts after stripe epochs first d (Asking.Look j more missing) q now same (there j less) refl true e to rest

  pub look_lacks : (j : ℕ) (more : List ℕ) (missing : List Lost) → j < chunk_count g → holds stripe j ≡ false → (to : Places → AtWork) →
      Next (unless_many g (missing ++ lost_of j ∷ []) (look_stage g (seen_of aim) more (missing ++ lost_of j ∷ []))) to → Next (look_stage g (seen_of aim) (j ∷ more) missing) to
  look_lacks j more missing less e to rest =
      λ q now same. looked g tries who number job pairs aim parts after stripe epochs first d (Asking.Look j more missing) q now same (there j less) refl false e to rest

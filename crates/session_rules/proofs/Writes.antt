-- A call that writes, from its draw on: every chunk is prepared at every server, and after the commit all are settled.
use Rattle.std.proofs.Common.{◌≡◌, ℕ, zero, suc, ◌+◌, nat_lt, false, List, [], ◌∷◌, ◌++◌, length, map, replicate, slice_get, Option, None, Some, All, refl, sym, ap, subst, subst₂, ◌∙◌, arith, if◌then◌else◌, append_assoc, length-append}
use Rattle.std.specs.List.{range_with_len}
use Rattle.std.proofs.lemmas.List.{length-map, map-append, append-nil}
use Rattle.std.proofs.lemmas.Simd.{map-map}
use Rattle.std.proofs.lemmas.Bool.{le-ltb}
use Rattle.clay_grid.specs.Shape.{Shape, chunk_count}
use Rattle.store_map.specs.declared.actor.Actor.{Actor}
use Rattle.store_map.specs.declared.placement.Placement.{Placement}
use Rattle.store_map.specs.declared.placement.Placement.TheVariants as placement
use Rattle.store_map.specs.declared.reply.Reply.TheVariants as reply
use Rattle.store_core.specs.Lists.{change_at}
use Rattle.store_core.specs.Told.{Told}
use Rattle.store_core.specs.Act.{ServerStep, Outcome}
use Rattle.store_core.specs.NextAct.{Job}
use Rattle.store_core.specs.Placements.{skipped_count, skipped_from}
use Rattle.store_core.specs.Directory.{Directory}
use Rattle.store_core.specs.Server.{Server, at_server}
use Rattle.store_core.specs.Step.{Places, at_server_there}
use Rattle.run_laws.specs.State.{State}
use Rattle.run_laws.specs.WriteAfter.{preparing_after, unless_few}
use Rattle.run_laws.specs.States.{prepare_state, prepare_all_state, settle_state, open_state}
use Rattle.session_rules.specs.Alone.{AtWork, step, steps}
use Rattle.session_rules.specs.Puts.{with_version, holding}
use Rattle.session_rules.proofs.Lists.{all_head, all_tail}

-- ---- lists at the place after some elements
pub at_seam : {X : Type 0} (done : List X) (x : X) (rest : List X) → slice_get (done ++ x ∷ rest) (length done) ≡ Some x
at_seam [] x rest = refl
at_seam (y ∷ done) x rest = at_seam done x rest

pub changed_seam : {X : Type 0} (f : X → X) (done : List X) (x : X) (rest : List X) → change_at (length done) f (done ++ x ∷ rest) ≡ (done ++ f x ∷ []) ++ rest
changed_seam f [] x rest = refl
changed_seam f (y ∷ done) x rest = ap (λ l. y ∷ l) (changed_seam f done x rest)

pub changed_same : {X : Type 0} (i : ℕ) (x : X) (xs : List X) → slice_get xs i ≡ Some x → change_at i (λ _. x) xs ≡ xs
changed_same i x [] e = refl
changed_same {X = X} zero x (y ∷ xs) e = ap (λ z. z ∷ xs) (sym (Rattle.std.proofs.lemmas.Option.same_Some y x e))
changed_same (suc i) x (y ∷ xs) e = ap (λ l. y ∷ l) (changed_same i x xs e)

pub none_skipped : (epochs : List ℕ) → skipped_count (map (λ epoch. placement.At epoch) epochs) ≡ 0
none_skipped [] = refl
none_skipped (epoch ∷ epochs) = none_skipped epochs

pub all_mapped : (P : Server → Type 0) (f : Server → Server) → ((s : Server) → P s → P (f s)) → (servers : List Server) → All P servers → All P (map f servers)
all_mapped P f keeps [] all = all
all_mapped P f keeps (s ∷ servers) all =
    Rattle.std.proofs.lemmas.List.Elements.All-cons P (f s) (map f servers) (keeps s (all_head P s servers all)) (all_mapped P f keeps servers (all_tail P s servers all))

-- ---- states that stand at their next question
open_prepare : (g : Shape) (versions : List ℕ) (stripe version : ℕ) (later : List ℕ) (placed : List (List Placement)) (next : List Placement → State) →
    ((row : List Placement) → open_state g (next row) ≡ next row) → (servers : List ℕ) (row : List Placement) →
    open_state g (prepare_state versions stripe version later placed next servers row) ≡ prepare_state versions stripe version later placed next servers row
open_prepare g versions stripe version later placed next opened [] row = opened row
open_prepare g versions stripe version later placed next opened (server ∷ servers) row = refl

pub open_all : (g : Shape) (versions : List ℕ) (later : List ℕ) (stripe : ℕ) (placed : List (List Placement)) →
    open_state g (prepare_all_state g versions stripe later placed) ≡ prepare_all_state g versions stripe later placed
open_all g versions [] stripe placed = refl
open_all g versions (version ∷ later) stripe placed =
    open_prepare g versions stripe version later placed (λ row. prepare_all_state g versions (stripe + 1) later (placed ++ row ∷ []))
    (λ row. open_all g versions later (stripe + 1) (placed ++ row ∷ [])) (range_with_len 0 (chunk_count g)) []

open_settle : (g : Shape) (point : ℕ) (places : List (ℕ × ℕ)) → open_state g (settle_state point places) ≡ settle_state point places
open_settle g point [] = refl
open_settle g point (place ∷ places) = refl

module _ (g : Shape) (tries : ℕ) (who : Actor) (number : ℕ) (job : Job) where
  -- some steps lead from one moment to another
  pub record Comes (w to : AtWork) : Type 0 where
    pub made : ℕ
    pub comes : steps g tries who number job made w ≡ to

  pub there : (w : AtWork) → Comes w w
  there w = record { made = 0; comes = refl }

  pub first : (w next to : AtWork) → step g tries who number job w ≡ next → Comes next to → Comes w to
  first w next to e c = record { made = suc c.made; comes = ap (steps g tries who number job c.made) e ∙ c.comes }

  steps_first : (n : ℕ) (w next to : AtWork) → steps g tries who number job n w ≡ next → Comes next to → Comes w to
  steps_first zero w next to e c = subst (λ x. Comes x to) (sym e) c
  steps_first (suc n) w next to e c = first w (step g tries who number job w) to refl (steps_first n (step g tries who number job w) next to e c)

  pub onto : (w next to : AtWork) → Comes w next → Comes next to → Comes w to
  onto w next to c rest = steps_first c.made w next to c.comes rest

  module _ (pairs : List (ℕ × ℕ)) (versions : List ℕ) (d : Directory) where
    -- the call at a state, with these servers
    abbrev pub at_state : State → List Server → AtWork
    at_state state servers = record { call = record { pairs = pairs; at = state }; places = record { directory = d; servers = servers } }

    -- what follows a version's row
    abbrev next_row : ℕ → List ℕ → List (List Placement) → List Placement → State
    next_row stripe later placed row = prepare_all_state g versions (stripe + 1) later (placed ++ row ∷ [])

    abbrev row_state : ℕ → ℕ → List ℕ → List (List Placement) → List ℕ → List ℕ → State
    row_state stripe version later placed servers epochs =
        prepare_state versions stripe version later placed (next_row stripe later placed) servers (map (λ epoch. placement.At epoch) epochs)

    prepare_row : (stripe version : ℕ) (later : List ℕ) (placed : List (List Placement)) (done rest : List Server) (epochs : List ℕ) → All (λ s. s.away ≡ false) rest →
        Comes (at_state (row_state stripe version later placed (range_with_len (length done) (length rest)) epochs) (done ++ rest))
        (at_state (next_row stripe later placed (map (λ epoch. placement.At epoch) (epochs ++ map (λ s. s.epoch) rest))) (done ++ map (with_version version) rest))
    prepare_row stripe version later placed done [] epochs present =
        subst (λ es. Comes (at_state (next_row stripe later placed (map (λ epoch. placement.At epoch) epochs)) (done ++ [])) (at_state (next_row stripe later placed (map (λ epoch. placement.At epoch) es)) (done ++ [])))
        (sym (append-nil epochs)) (there (at_state (next_row stripe later placed (map (λ epoch. placement.At epoch) epochs)) (done ++ [])))
    prepare_row stripe version later placed done (x ∷ rest) epochs present = by (prepare_row stripe version later placed (done ++ with_version version x ∷ []) rest (epochs ++ x.epoch ∷ []) (all_tail (λ (s : Server). s.away ≡ false) x rest present))
      where
        present_x : x.away ≡ false
        present_x = all_head (λ (s : Server). s.away ≡ false) x rest present

        answer : at_server false (ServerStep.Prepare version) x ≡ (with_version version x, Told.Prepared (placement.At x.epoch))
        answer = ap (λ away. let r : Server × Told = if away then (x, Told.Prepared (placement.Skipped x.downs)) else (with_version version x, Told.Prepared (placement.At x.epoch)) in r) present_x

        -- the state after a row of placements, with the servers that are left
        few : (row : List ℕ) (state : State) →
            (if nat_lt g.parity_count (skipped_count (map (λ epoch. placement.At epoch) row)) then State.Ending (Outcome.Unavailable stripe (skipped_from 0 (map (λ epoch. placement.At epoch) row))) else state) ≡ state
        few row state =
            ap (λ n. if nat_lt g.parity_count n then State.Ending (Outcome.Unavailable stripe (skipped_from 0 (map (λ epoch. placement.At epoch) row))) else state) (none_skipped row)
            ∙ ap (λ b. if b then State.Ending (Outcome.Unavailable stripe (skipped_from 0 (map (λ epoch. placement.At epoch) row))) else state) (le-ltb g.parity_count 0 (omega arith))

        made : step g tries who number job (at_state (row_state stripe version later placed (range_with_len (length done) (length (x ∷ rest))) epochs) (done ++ x ∷ rest))
            ≡ at_state (row_state stripe version later placed (range_with_len (length (done ++ with_version version x ∷ [])) (length rest)) (epochs ++ x.epoch ∷ [])) ((done ++ with_version version x ∷ []) ++ rest)
        made =
            ap (λ (f : Option Server).
            let r : Places × Told = at_server_there false (length done) (ServerStep.Prepare version) (record { directory = d; servers = done ++ x ∷ rest }) f in
            let w : AtWork = record { call = record { pairs = pairs; at = open_state g (preparing_after g stripe version (range_with_len (length done + 1) (length rest)) (map (λ epoch. placement.At epoch) epochs) later placed versions r.1) }; places = r.0 } in w)
            (at_seam done x rest)
            ∙ ap (λ (r : Server × Told). at_state (open_state g (preparing_after g stripe version (range_with_len (length done + 1) (length rest)) (map (λ epoch. placement.At epoch) epochs) later placed versions r.1)) (change_at (length done) (λ _. r.0) (done ++ x ∷ rest))) answer
            ∙ ap (at_state (open_state g (unless_few g stripe (map (λ epoch. placement.At epoch) epochs ++ placement.At x.epoch ∷ []) (row_from (map (λ epoch. placement.At epoch) epochs ++ placement.At x.epoch ∷ []))))) (changed_seam (λ _. with_version version x) done x rest)
            ∙ ap (λ row. at_state (open_state g (unless_few g stripe row (row_from row))) ((done ++ with_version version x ∷ []) ++ rest)) (sym (map-append (λ epoch. placement.At epoch) epochs (x.epoch ∷ [])))
            ∙ ap (λ state. at_state (open_state g state) ((done ++ with_version version x ∷ []) ++ rest)) (few (epochs ++ x.epoch ∷ []) (row_from (map (λ epoch. placement.At epoch) (epochs ++ x.epoch ∷ []))))
            ∙ ap (λ state. at_state state ((done ++ with_version version x ∷ []) ++ rest))
            (open_prepare g versions stripe version later placed (next_row stripe later placed) (λ row. open_all g versions later (stripe + 1) (placed ++ row ∷ [])) (range_with_len (length done + 1) (length rest)) (map (λ epoch. placement.At epoch) (epochs ++ x.epoch ∷ [])))
            ∙ ap (λ n. at_state (row_state stripe version later placed (range_with_len n (length rest)) (epochs ++ x.epoch ∷ [])) ((done ++ with_version version x ∷ []) ++ rest)) (sym (length-append done (with_version version x ∷ [])))
          where
            row_from : List Placement → State
            row_from row = prepare_state versions stripe version later placed (next_row stripe later placed) (range_with_len (length done + 1) (length rest)) row

        by : Comes (at_state (row_state stripe version later placed (range_with_len (length (done ++ with_version version x ∷ [])) (length rest)) (epochs ++ x.epoch ∷ [])) ((done ++ with_version version x ∷ []) ++ rest))
            (at_state (next_row stripe later placed (map (λ epoch. placement.At epoch) ((epochs ++ x.epoch ∷ []) ++ map (λ s. s.epoch) rest))) ((done ++ with_version version x ∷ []) ++ map (with_version version) rest)) →
            Comes (at_state (row_state stripe version later placed (range_with_len (length done) (length (x ∷ rest))) epochs) (done ++ x ∷ rest))
            (at_state (next_row stripe later placed (map (λ epoch. placement.At epoch) (epochs ++ map (λ s. s.epoch) (x ∷ rest)))) (done ++ map (with_version version) (x ∷ rest)))
        by c =
            first (at_state (row_state stripe version later placed (range_with_len (length done) (length (x ∷ rest))) epochs) (done ++ x ∷ rest))
            (at_state (row_state stripe version later placed (range_with_len (length (done ++ with_version version x ∷ [])) (length rest)) (epochs ++ x.epoch ∷ [])) ((done ++ with_version version x ∷ []) ++ rest))
            (at_state (next_row stripe later placed (map (λ epoch. placement.At epoch) (epochs ++ map (λ s. s.epoch) (x ∷ rest)))) (done ++ map (with_version version) (x ∷ rest)))
            made
            (subst₂ (λ es servers. Comes (at_state (row_state stripe version later placed (range_with_len (length (done ++ with_version version x ∷ [])) (length rest)) (epochs ++ x.epoch ∷ [])) ((done ++ with_version version x ∷ []) ++ rest))
            (at_state (next_row stripe later placed (map (λ epoch. placement.At epoch) es)) servers))
            (append_assoc epochs (x.epoch ∷ []) (map (λ (s : Server). s.epoch) rest)) (append_assoc done (with_version version x ∷ []) (map (with_version version) rest)) c)

    -- version after version at all servers, then the commit
    pub prepare_all : (later : List ℕ) (stripe : ℕ) (placed : List (List Placement)) (servers : List Server) (epochs : List ℕ) → All (λ s. s.away ≡ false) servers → length servers ≡ chunk_count g →
        map (λ s. s.epoch) servers ≡ epochs →
        Comes (at_state (prepare_all_state g versions stripe later placed) servers)
        (at_state (State.Committing versions (placed ++ replicate (length later) (map (λ epoch. placement.At epoch) epochs))) (holding later servers))
    prepare_all [] stripe placed servers epochs present count same =
        subst (λ rows. Comes (at_state (State.Committing versions placed) servers) (at_state (State.Committing versions rows) servers)) (sym (append-nil placed)) (there (at_state (State.Committing versions placed) servers))
    prepare_all (version ∷ later) stripe placed servers epochs present count same =
        by (prepare_all later (stripe + 1) (placed ++ map (λ epoch. placement.At epoch) epochs ∷ []) (map (with_version version) servers) epochs
        (all_mapped (λ (s : Server). s.away ≡ false) (with_version version) (λ s e. e) servers present)
        (length-map servers (with_version version) ∙ count) (map-map (λ (s : Server). s.epoch) (with_version version) servers ∙ same))
      where
        row : List Placement
        row = map (λ epoch. placement.At epoch) epochs

        one : Comes (at_state (prepare_all_state g versions stripe (version ∷ later) placed) servers)
            (at_state (next_row stripe later placed (map (λ epoch. placement.At epoch) epochs)) (map (with_version version) servers))
        one =
            subst₂ (λ n es. Comes (at_state (row_state stripe version later placed (range_with_len 0 n) []) servers) (at_state (next_row stripe later placed (map (λ epoch. placement.At epoch) es)) (map (with_version version) servers)))
            count same (prepare_row stripe version later placed [] servers [] present)

        by : Comes (at_state (prepare_all_state g versions (stripe + 1) later (placed ++ map (λ epoch. placement.At epoch) epochs ∷ [])) (map (with_version version) servers))
            (at_state (State.Committing versions ((placed ++ map (λ epoch. placement.At epoch) epochs ∷ []) ++ replicate (length later) (map (λ epoch. placement.At epoch) epochs))) (holding later (map (with_version version) servers))) →
            Comes (at_state (prepare_all_state g versions stripe (version ∷ later) placed) servers)
            (at_state (State.Committing versions (placed ++ replicate (suc (length later)) (map (λ epoch. placement.At epoch) epochs))) (holding later (map (with_version version) servers)))
        by rest =
            onto (at_state (prepare_all_state g versions stripe (version ∷ later) placed) servers)
            (at_state (next_row stripe later placed (map (λ epoch. placement.At epoch) epochs)) (map (with_version version) servers))
            (at_state (State.Committing versions (placed ++ replicate (suc (length later)) (map (λ epoch. placement.At epoch) epochs))) (holding later (map (with_version version) servers))) one
            (subst (λ rows. Comes (at_state (next_row stripe later placed (map (λ epoch. placement.At epoch) epochs)) (map (with_version version) servers)) (at_state (State.Committing versions rows) (holding later (map (with_version version) servers))))
            (append_assoc placed (map (λ epoch. placement.At epoch) epochs ∷ []) (replicate (length later) (map (λ epoch. placement.At epoch) epochs))) rest)

    -- settling changes nothing, whether or not a server is there
    pub settle_all : (point : ℕ) (places : List (ℕ × ℕ)) (servers : List Server) →
        Comes (at_state (settle_state point places) servers) (at_state (State.Finished (Outcome.Answered point reply.Done)) servers)
    settle_all point [] servers = there (at_state (State.Finished (Outcome.Answered point reply.Done)) servers)
    settle_all point (place ∷ places) servers = by (settle_all point places servers)
      where
        made_by : (f : Option Server) → slice_get servers place.0 ≡ f →
            (let r : Places × Told = at_server_there false place.0 (ServerStep.Settle place.1) (record { directory = d; servers = servers }) f in r.0) ≡ record { directory = d; servers = servers }
        made_by None e = refl
        made_by (Some s) e = ap (λ servers. let q : Places = record { directory = d; servers = servers } in q) (changed_same place.0 s servers e)

        made : step g tries who number job (at_state (settle_state point (place ∷ places)) servers) ≡ at_state (settle_state point places) servers
        made =
            ap (λ state. let w : AtWork = record { call = record { pairs = pairs; at = state }; places = (at_server_there false place.0 (ServerStep.Settle place.1) (record { directory = d; servers = servers }) (slice_get servers place.0)).0 } in w) (open_settle g point places)
            ∙ ap (λ (q : Places). let w : AtWork = record { call = record { pairs = pairs; at = settle_state point places }; places = q } in w) (made_by (slice_get servers place.0) refl)

        by : Comes (at_state (settle_state point places) servers) (at_state (State.Finished (Outcome.Answered point reply.Done)) servers) →
            Comes (at_state (settle_state point (place ∷ places)) servers) (at_state (State.Finished (Outcome.Answered point reply.Done)) servers)
        by c = first (at_state (settle_state point (place ∷ places)) servers) (at_state (settle_state point places) servers) (at_state (State.Finished (Outcome.Answered point reply.Done)) servers) made c

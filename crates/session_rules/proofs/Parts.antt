-- The gatherings of several parts: the first that can't be had ends the call, otherwise it goes on with their bytes.
use Rattle.std.proofs.Common.{◌≡◌, ℕ, cond, ◌+◌, ◌<◌, Bool, true, false, not, ◌&&◌, List, [], ◌∷◌, map, get_or, take, find, slice_get, Option, None, Some, refl, ap, subst, if◌then◌else◌}
use Rattle.std.specs.List.{list_any}
use Rattle.clay_grid.specs.Shape.{Shape, chunk_count}
use Rattle.store_map.specs.declared.actor.Actor.{Actor}
use Rattle.store_map.specs.declared.placement.Found.TheVariants as found
use Rattle.store_core.specs.Lists.{is_among}
use Rattle.store_core.specs.Told.{Lost}
use Rattle.store_core.specs.Act.{Outcome}
use Rattle.store_core.specs.NextAct.{Job}
use Rattle.store_core.specs.Directory.{Directory}
use Rattle.store_core.specs.Gathering.{Part, lost_at}
use Rattle.store_core.specs.GatheringParts.{chunks_in_range}
use Rattle.store_core.specs.Server.{Server}
use Rattle.store_core.specs.Step.{Places}
use Rattle.run_laws.specs.Stage.{Aim, Stage}
use Rattle.run_laws.specs.State.{Sequel, State}
use Rattle.run_laws.specs.States.{sequel_state, stage_state, open_parts}
use Rattle.session_rules.specs.State.{Stripe}
use Rattle.session_rules.specs.Gathered.{holds, lacking, asked_first, is_beyond_repair}
use Rattle.session_rules.specs.Alone.{AtWork}
use Rattle.session_rules.proofs.Walks.{Now, Reaches, IsThere}
use Rattle.session_rules.proofs.Gathers.{part_next}

-- a server that holds its chunk of a version where a stripe says so
pub record Answers (epochs : List ℕ) (servers : List Server) (stripe : Stripe) (version j : ℕ) : Type 0 where
  pub server : Server
  pub found : slice_get servers j ≡ Some server
  pub present : server.away ≡ false
  pub held : is_among version server.held ≡ holds stripe j
  pub epoch : server.epoch ≡ get_or epochs j 0

-- what holds of each part
pub data Each (P : Part → Type 0) : List Part → Type 0 where
  Nothing : Each P []
  Also : {part : Part} {parts : List Part} → P part → Each P parts → Each P (part ∷ parts)

module _ (g : Shape) (tries : ℕ) (who : Actor) (number : ℕ) (job : Job) (pairs : List (ℕ × ℕ)) (after : Sequel) (stripe_for : Part → Stripe) (epochs : List ℕ)
    (first : List Server) (d : Directory) where
  -- the call at a state
  abbrev pub stood : State → Places → AtWork
  stood state p = record { call = record { pairs = pairs; at = state }; places = p }

  -- from a state, at whichever places that are as before, the call comes there
  abbrev pub Leads : State → (Places → AtWork) → Type 0
  Leads state to = (q : Places) → Now g tries who number job first q.servers → q.directory ≡ d → Reaches g tries who number job first d (stood state q) to

  -- a part that can't be had
  abbrev pub is_unavailable_of : Part → Bool
  is_unavailable_of part = list_any (λ chunk. not (holds (stripe_for part) chunk)) (chunks_in_range g part.start part.end) && is_beyond_repair g (stripe_for part)

  -- the servers that are named then
  abbrev pub missing_of : Part → List Lost
  missing_of part =
      map (λ j. lost_at g part.seen j (found.Absent (get_or epochs j 0))) (take (g.parity_count + 1) (lacking (stripe_for part) (asked_first g (chunks_in_range g part.start part.end))))

  -- where the call goes on
  abbrev pub state_by : Option Part → State
  state_by None = sequel_state after
  state_by (Some part) = State.Ending (Outcome.Unavailable part.seen.stripe (missing_of part))

  -- all servers answer of a part
  abbrev pub AnswerOf : Part → Type 0
  AnswerOf part = (j : ℕ) → j < chunk_count g → Answers epochs first (stripe_for part) part.seen.version j

  pub parts_next : (parts : List Part) → Each AnswerOf parts → (to : Places → AtWork) → Leads (state_by (find is_unavailable_of parts)) to → Leads (open_parts g parts after) to
  parts_next [] Each.Nothing to next = next
  parts_next (part ∷ parts) (Each.Also mine others) to next =
      part_next g tries who number job pairs part parts after (stripe_for part) epochs first d there to (by (parts_next parts others to) (is_unavailable_of part) refl)
    where
      there : (j : ℕ) → j < chunk_count g → IsThere g tries who number job pairs (Aim.Range part) parts after (stripe_for part) epochs first d first j
      there j less =
          let a : Answers epochs first (stripe_for part) part.seen.version j = mine j less in
          record { server = a.server; found = a.found; present = a.present; held = a.held; epoch = a.epoch }

      by : (Leads (state_by (find is_unavailable_of parts)) to → Leads (open_parts g parts after) to) → (b : Bool) → is_unavailable_of part ≡ b →
          Leads (stage_state (open_parts g parts after) (Aim.Range part) parts after (if b then Stage.TooMany (missing_of part) else Stage.HasBytes)) to
      by rest true e = subst (λ state. Leads state to) (ap (λ b. state_by (cond b (Some part) (find is_unavailable_of parts))) e) next
      by rest false e = rest (subst (λ state. Leads state to) (ap (λ b. state_by (cond b (Some part) (find is_unavailable_of parts))) e) next)

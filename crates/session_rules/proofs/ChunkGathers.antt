-- How the gathering for one server's chunk ends: the server holds it, or too many lack theirs, or it can be made.
use Rattle.std.proofs.Common.{◌≡◌, ℕ, ◌+◌, ◌<◌, ◌≤◌, nat_lt, Bool, true, false, not, List, [], ◌∷◌, ◌++◌, length, map, take, filter, refl, sym, ap, subst, ◌∙◌, arith, if◌then◌else◌}
use Rattle.std.proofs.lemmas.Bool.{and_parts}
use Rattle.clay_grid.specs.Shape.{Shape, chunk_count}
use Rattle.store_map.specs.declared.actor.Actor.{Actor}
use Rattle.store_core.specs.Lists.{is_among}
use Rattle.store_core.specs.Told.{Seen}
use Rattle.store_core.specs.NextAct.{Job}
use Rattle.store_core.specs.Directory.{Directory}
use Rattle.store_core.specs.Server.{Server}
use Rattle.store_core.specs.Step.{Places}
use Rattle.run_laws.specs.Stage.{Aim, Asking, Stage}
use Rattle.run_laws.specs.Stages.{look_stage, make_stage, first_stage}
use Rattle.run_laws.specs.State.{Sequel}
use Rattle.session_rules.specs.State.{Stripe}
use Rattle.session_rules.specs.Gathered.{holds, lacking, asked_first, is_beyond_repair}
use Rattle.session_rules.specs.Alone.{AtWork}
use Rattle.session_rules.proofs.Walks.{IsThere, looked}
use Rattle.session_rules.proofs.Asked.{Next as Onward, lost_of, settle, settle_few, settle_many, but, walk, make_next, look_has, look_lacks}
use Rattle.session_rules.proofs.Counting.{everyone, kept_first, among_kept, row_bounds, one_again, as_many, others_hold, rest_count}

cases : {P : Type 0} (b : Bool) → (b ≡ true → P) → (b ≡ false → P) → P
cases true t f = t refl
cases false t f = f refl

module _ (g : Shape) (tries : ℕ) (who : Actor) (number : ℕ) (job : Job) (pairs : List (ℕ × ℕ)) (seen : Seen) (target : ℕ) (stripe : Stripe) (epochs : List ℕ) (first : List Server) (d : Directory)
    (there : (j : ℕ) → j < chunk_count g → IsThere g tries who number job pairs (Aim.Chunk seen target) [] (Sequel.Confirm seen target) stripe epochs first d first j)
    (less : target < chunk_count g) (some : 0 < g.parity_count) where
  abbrev aim : Aim
  aim = Aim.Chunk seen target

  abbrev after : Sequel
  after = Sequel.Confirm seen target

  abbrev Next : Stage → (Places → AtWork) → Type 0
  Next stage to = Onward g tries who number job pairs (Aim.Chunk seen target) [] (Sequel.Confirm seen target) stripe epochs first d there stage to

  abbrev settled : List ℕ → Stage → Stage
  settled gone next = settle g tries who number job pairs aim [] after stripe epochs first d there gone next

  abbrev others : List ℕ
  others = but g tries who number job pairs aim [] after stripe epochs first d there (target ∷ [])

  -- the servers that are named, the target first
  abbrev pub too_many : Stage
  too_many = Stage.TooMany (map (lost_of g tries who number job pairs (Aim.Chunk seen target) [] (Sequel.Confirm seen target) stripe epochs first d there) (take (g.parity_count + 1) (lacking stripe (asked_first g (target ∷ [])))))

  -- how the gathering ends, by whether the target holds its chunk, and whether the stripe is beyond repair
  abbrev pub end_by : Bool → Bool → Stage
  end_by held beyond = if held then Stage.AtTarget else (if beyond then too_many else Stage.HasBytes)

  others_less : (j : ℕ) → is_among j others ≡ true → j < chunk_count g
  others_less j e =
      let parts : (is_among j (everyone g) ≡ true) × (not (is_among j (target ∷ [])) ≡ true) =
      and_parts (is_among j (everyone g)) (not (is_among j (target ∷ []))) (sym (among_kept (λ n. not (is_among n (target ∷ []))) j (everyone g)) ∙ e) in
      let low : j < 0 + chunk_count g = (row_bounds j 0 (chunk_count g) parts.0).1 in
      omega (arith, low)

  pub chunk_next : (to : Places → AtWork) → Next (end_by (holds stripe target) (is_beyond_repair g stripe)) to → Next (first_stage g (Aim.Chunk seen target)) to
  chunk_next to next = cases (holds stripe target) has lacks
    where
      has : holds stripe target ≡ true → Next (first_stage g aim) to
      has e =
          λ q now same. looked g tries who number job pairs aim [] after stripe epochs first d (Asking.Target target) q now same (there target less) refl true e to
          (subst (λ st. Next st to) (ap (λ b. end_by b (is_beyond_repair g stripe)) e) next)

      lacks : holds stripe target ≡ false → Next (first_stage g aim) to
      lacks e =
          λ q now same. looked g tries who number job pairs aim [] after stripe epochs first d (Asking.Target target) q now same (there target less) refl false e to
          (walk g tries who number job pairs aim [] after stripe epochs first d there (look_stage g seen) (make_stage g seen) (λ missing. refl)
          (look_has g tries who number job pairs aim [] after stripe epochs first d there) (look_lacks g tries who number job pairs aim [] after stripe epochs first d there)
          others others_less (target ∷ []) (omega (arith, some)) to (cases (nat_lt g.parity_count (length ((target ∷ []) ++ lacking stripe others))) over under))
        where
          order : lacking stripe (asked_first g (target ∷ [])) ≡ (target ∷ []) ++ lacking stripe others
          order = kept_first (λ s. not (holds stripe s)) target others (ap not e)

          count : length (lacking stripe (asked_first g (target ∷ []))) ≡ length (lacking stripe (everyone g))
          count = as_many g stripe (target ∷ []) (one_again g target less)

          said : is_beyond_repair g stripe ≡ nat_lt g.parity_count (length ((target ∷ []) ++ lacking stripe others))
          said = ap (nat_lt g.parity_count) (sym count ∙ ap length order)

          gone : List ℕ
          gone = (target ∷ []) ++ lacking stripe others

          over : nat_lt g.parity_count (length ((target ∷ []) ++ lacking stripe others)) ≡ true →
              Next (settled ((target ∷ []) ++ lacking stripe others) (make_stage g seen (map (lost_of g tries who number job pairs aim [] after stripe epochs first d there) ((target ∷ []) ++ lacking stripe others)))) to
          over t =
              subst (λ st. Next st to)
              (ap (λ b. end_by b (is_beyond_repair g stripe)) e ∙ ap (λ b. end_by false b) (said ∙ t)
              ∙ ap (λ l. Stage.TooMany (map (lost_of g tries who number job pairs aim [] after stripe epochs first d there) (take (g.parity_count + 1) l))) order
              ∙ sym (settle_many g tries who number job pairs aim [] after stripe epochs first d there ((target ∷ []) ++ lacking stripe others)
              (make_stage g seen (map (lost_of g tries who number job pairs aim [] after stripe epochs first d there) ((target ∷ []) ++ lacking stripe others)))
              (Rattle.std.proofs.lemmas.Bool.ltb-true g.parity_count (length ((target ∷ []) ++ lacking stripe others)) t))) next

          under : nat_lt g.parity_count (length ((target ∷ []) ++ lacking stripe others)) ≡ false →
              Next (settled ((target ∷ []) ++ lacking stripe others) (make_stage g seen (map (lost_of g tries who number job pairs aim [] after stripe epochs first d there) ((target ∷ []) ++ lacking stripe others)))) to
          under f =
              let few : length ((target ∷ []) ++ lacking stripe others) ≤ g.parity_count = Rattle.std.proofs.lemmas.Bool.ltb-false g.parity_count (length ((target ∷ []) ++ lacking stripe others)) f in
              let all : length (filter (holds stripe) (everyone g)) + length (lacking stripe (everyone g)) ≡ g.data_count + g.parity_count = rest_count g stripe in
              let same : length (lacking stripe (asked_first g (target ∷ []))) ≡ length (lacking stripe (everyone g)) = count in
              let here : length (lacking stripe (asked_first g (target ∷ []))) ≡ length ((target ∷ []) ++ lacking stripe others) = ap length order in
              subst (λ st. Next st to)
              (sym (settle_few g tries who number job pairs aim [] after stripe epochs first d there ((target ∷ []) ++ lacking stripe others)
              (make_stage g seen (map (lost_of g tries who number job pairs aim [] after stripe epochs first d there) ((target ∷ []) ++ lacking stripe others))) few))
              (make_next g tries who number job pairs aim [] after stripe epochs first d there ((target ∷ []) ++ lacking stripe others)
              (ap (but g tries who number job pairs aim [] after stripe epochs first d there) (sym order) ∙ others_hold g stripe (target ∷ []) (one_again g target less)) (omega (arith, few, all, same, here)) to
              (subst (λ st. Next st to) (ap (λ b. end_by b (is_beyond_repair g stripe)) e ∙ ap (λ b. end_by false b) (said ∙ f)) next))

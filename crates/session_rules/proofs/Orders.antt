-- Servers that are asked one after another: those that lack their chunks end the gathering once they are too many.
use Rattle.std.proofs.Common.{◌≡◌, ℕ, ◌+◌, ◌<◌, ◌≤◌, nat_lt, Bool, true, false, not, List, [], ◌∷◌, ◌++◌, length, map, take, refl, sym, ap, subst, ◌∙◌, arith, if◌then◌else◌, append_assoc, length-append}
use Rattle.std.proofs.Math.Seq.{take-append_seam}
use Rattle.std.proofs.lemmas.List.{length-map, map-append, append-nil}
use Rattle.std.proofs.lemmas.Bool.{le-ltb, lt-ltb, ltb-true, ltb-false, or_left, or_right, eq-eqb}
use Rattle.clay_grid.specs.Shape.{Shape, chunk_count}
use Rattle.store_core.specs.Lists.{is_among}
use Rattle.store_core.specs.Told.{Lost}
use Rattle.run_laws.specs.Stage.{Stage}
use Rattle.run_laws.specs.Stages.{unless_many}
use Rattle.session_rules.specs.State.{Stripe}
use Rattle.session_rules.specs.Gathered.{holds, lacking}
use Rattle.session_rules.proofs.Counting.{kept_first, left_first}

cases : {P : Type 0} (b : Bool) → (b ≡ true → P) → (b ≡ false → P) → P
cases true t f = t refl
cases false t f = f refl

-- of a stripe, where Next says that the gathering comes from a stage to where it is to come
module _ (g : Shape) (stripe : Stripe) (lost_of : ℕ → Lost) where
  -- servers that lack their chunks, which end the gathering if they are too many
  abbrev pub settle : List ℕ → Stage → Stage
  settle gone next = if nat_lt g.parity_count (length gone) then Stage.TooMany (map lost_of (take (g.parity_count + 1) gone)) else next

  pub settle_few : (gone : List ℕ) (next : Stage) → length gone ≤ g.parity_count → settle gone next ≡ next
  settle_few gone next few = ap (λ b. if b then Stage.TooMany (map lost_of (take (g.parity_count + 1) gone)) else next) (le-ltb g.parity_count (length gone) few)

  pub settle_many : (gone : List ℕ) (next : Stage) → g.parity_count < length gone → settle gone next ≡ Stage.TooMany (map lost_of (take (g.parity_count + 1) gone))
  settle_many gone next many = ap (λ b. if b then Stage.TooMany (map lost_of (take (g.parity_count + 1) gone)) else next) (lt-ltb g.parity_count (length gone) many)

  module _ (Next : Stage → Type 0) (stage_of : List ℕ → List Lost → Stage) (last : List Lost → Stage)
      (empty : (missing : List Lost) → stage_of [] missing ≡ last missing)
      (has : (j : ℕ) (more : List ℕ) (missing : List Lost) → j < chunk_count g → holds stripe j ≡ true → Next (stage_of more missing) → Next (stage_of (j ∷ more) missing))
      (lacks : (j : ℕ) (more : List ℕ) (missing : List Lost) → j < chunk_count g → holds stripe j ≡ false → Next (unless_many g (missing ++ lost_of j ∷ []) (stage_of more (missing ++ lost_of j ∷ []))) →
      Next (stage_of (j ∷ more) missing)) where
    pub walk : (more : List ℕ) → ((j : ℕ) → is_among j more ≡ true → j < chunk_count g) → (gone : List ℕ) → length gone ≤ g.parity_count →
        Next (settle (gone ++ lacking stripe more) (last (map lost_of (gone ++ lacking stripe more)))) → Next (stage_of more (map lost_of gone))
    walk [] all gone few next =
        subst Next
        (ap (λ l. settle l (last (map lost_of l))) (append-nil gone) ∙ settle_few gone (last (map lost_of gone)) few ∙ sym (empty (map lost_of gone))) next
    walk (j ∷ more) all gone few next = by (walk more (λ i e. all i (or_right _ _ e)))
      where
        less : j < chunk_count g
        less = all j (or_left _ _ (eq-eqb j j refl))

        by : ((gone : List ℕ) → length gone ≤ g.parity_count →
            Next (settle (gone ++ lacking stripe more) (last (map lost_of (gone ++ lacking stripe more)))) → Next (stage_of more (map lost_of gone))) →
            Next (stage_of (j ∷ more) (map lost_of gone))
        by rest = cases (holds stripe j) kept gone_too
          where
            kept : holds stripe j ≡ true → Next (stage_of (j ∷ more) (map lost_of gone))
            kept e =
                has j more (map lost_of gone) less e
                (rest gone few (subst (λ l. Next (settle (gone ++ l) (last (map lost_of (gone ++ l))))) (left_first (λ s. not (holds stripe s)) j more (ap not e)) next))

            gone_too : holds stripe j ≡ false → Next (stage_of (j ∷ more) (map lost_of gone))
            gone_too e =
                lacks j more (map lost_of gone) less e
                (subst (λ l. Next (unless_many g l (stage_of more l))) (map-append lost_of gone (j ∷ []))
                (cases (nat_lt g.parity_count (length (map lost_of (gone ++ j ∷ [])))) over under))
              where
                now : List ℕ
                now = gone ++ j ∷ []

                count : length (gone ++ j ∷ []) ≡ length gone + 1
                count = length-append gone (j ∷ [])

                joined : gone ++ lacking stripe (j ∷ more) ≡ (gone ++ j ∷ []) ++ lacking stripe more
                joined = ap (λ l. gone ++ l) (kept_first (λ s. not (holds stripe s)) j more (ap not e)) ∙ sym (append_assoc gone (j ∷ []) (lacking stripe more))

                next_now : Next (settle ((gone ++ j ∷ []) ++ lacking stripe more) (last (map lost_of ((gone ++ j ∷ []) ++ lacking stripe more))))
                next_now = subst (λ l. Next (settle l (last (map lost_of l)))) joined next

                over : nat_lt g.parity_count (length (map lost_of (gone ++ j ∷ []))) ≡ true →
                    Next (unless_many g (map lost_of (gone ++ j ∷ [])) (stage_of more (map lost_of (gone ++ j ∷ []))))
                over t =
                    let many : g.parity_count < length (map lost_of (gone ++ j ∷ [])) = ltb-true g.parity_count (length (map lost_of (gone ++ j ∷ []))) t in
                    let same : length (map lost_of (gone ++ j ∷ [])) ≡ length (gone ++ j ∷ []) = length-map (gone ++ j ∷ []) lost_of in
                    let exact : g.parity_count + 1 ≡ length (gone ++ j ∷ []) = omega (arith, many, same, count, few) in
                    let sum : length ((gone ++ j ∷ []) ++ lacking stripe more) ≡ length (gone ++ j ∷ []) + length (lacking stripe more) = length-append (gone ++ j ∷ []) (lacking stripe more) in
                    let past : g.parity_count < length ((gone ++ j ∷ []) ++ lacking stripe more) = omega (arith, exact, sum) in
                    subst Next
                    (settle_many ((gone ++ j ∷ []) ++ lacking stripe more) (last (map lost_of ((gone ++ j ∷ []) ++ lacking stripe more))) past
                    ∙ ap (λ n. Stage.TooMany (map lost_of (take n ((gone ++ j ∷ []) ++ lacking stripe more)))) exact
                    ∙ ap (λ l. Stage.TooMany (map lost_of l)) (take-append_seam (gone ++ j ∷ []) (lacking stripe more))
                    ∙ sym (ap (λ b. if b then Stage.TooMany (map lost_of (gone ++ j ∷ [])) else stage_of more (map lost_of (gone ++ j ∷ []))) t))
                    next_now

                under : nat_lt g.parity_count (length (map lost_of (gone ++ j ∷ []))) ≡ false →
                    Next (unless_many g (map lost_of (gone ++ j ∷ [])) (stage_of more (map lost_of (gone ++ j ∷ []))))
                under f =
                    let enough : length (map lost_of (gone ++ j ∷ [])) ≤ g.parity_count = ltb-false g.parity_count (length (map lost_of (gone ++ j ∷ []))) f in
                    let same : length (map lost_of (gone ++ j ∷ [])) ≡ length (gone ++ j ∷ []) = length-map (gone ++ j ∷ []) lost_of in
                    subst Next (sym (ap (λ b. if b then Stage.TooMany (map lost_of (gone ++ j ∷ [])) else stage_of more (map lost_of (gone ++ j ∷ []))) f))
                    (rest (gone ++ j ∷ []) (omega (arith, enough, same)) next_now)

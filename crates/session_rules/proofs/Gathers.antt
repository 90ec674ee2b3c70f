-- How the gathering of a part ends: it has its bytes, or as many servers are named as are one too many.
use Rattle.std.proofs.Common.{◌≡◌, ℕ, ◌+◌, ◌*◌, ◌<◌, ◌≤◌, nat_lt, min, max, Bool, true, false, not, ◌&&◌, ◌||◌, List, [], ◌∷◌, ◌++◌, length, map, take, filter, refl, sym, ap, subst, ◌∙◌, arith, if◌then◌else◌, length-append}
use Rattle.std.specs.List.{range_with_len, list_any}
use Rattle.std.proofs.lemmas.List.{take-append-le}
use Rattle.std.proofs.lemmas.List.Elements.{filter-append}
use Rattle.std.proofs.lemmas.Bool.{lt-ltb, ltb-true, ltb-false, or_left, or_right, and_parts, true≢false}
use Rattle.clay_grid.specs.Shape.{Shape, chunk_count, chunk_length}
use Rattle.store_map.specs.declared.actor.Actor.{Actor}
use Rattle.store_core.specs.Lists.{is_among}
use Rattle.store_core.specs.Told.{Lost}
use Rattle.store_core.specs.NextAct.{Job}
use Rattle.store_core.specs.Directory.{Directory}
use Rattle.store_core.specs.Gathering.{Part}
use Rattle.store_core.specs.GatheringParts.{chunks_in_range, layers_for}
use Rattle.store_core.specs.Server.{Server}
use Rattle.store_core.specs.Step.{Places}
use Rattle.run_laws.specs.Stage.{Aim, Asking, Stage}
use Rattle.run_laws.specs.Stages.{unless_many, make_stage, look_stage, data_stage, fetch_stage, first_stage}
use Rattle.run_laws.specs.State.{Sequel}
use Rattle.session_rules.specs.State.{Stripe}
use Rattle.session_rules.specs.Gathered.{holds, lacking, asked_first}
use Rattle.session_rules.specs.Alone.{AtWork}
use Rattle.session_rules.proofs.Walks.{IsThere, given, missed}
use Rattle.session_rules.proofs.Asked.{Next as Onward, lost_of, settle, settle_few, settle_many, but, walk, make_next, look_has, look_lacks}
use Rattle.session_rules.proofs.Counting.{everyone, chosen_again, kept_first, left_first, among_kept, row_bounds, as_many, others_hold, rest_count}

cases : {P : Type 0} (b : Bool) → (b ≡ true → P) → (b ≡ false → P) → P
cases true t f = t refl
cases false t f = f refl

abbrev is_empty : {X : Type 0} → List X → Bool
is_empty [] = true
is_empty (x ∷ xs) = false

-- a test that keeps nothing passes nothing, and one that keeps something passes something
any_none : (p : ℕ → Bool) (xs : List ℕ) → is_empty (filter p xs) ≡ true → list_any p xs ≡ false
any_none p [] e = refl
any_none p (x ∷ xs) e = by (any_none p xs)
  where
    by : (is_empty (filter p xs) ≡ true → list_any p xs ≡ false) → (p x || list_any p xs) ≡ false
    by rest =
        cases (p x) (λ t. absurd (true≢false (sym e ∙ ap is_empty (kept_first p x xs t))))
        (λ f. ap (λ b. b || list_any p xs) f ∙ rest (sym (ap is_empty (left_first p x xs f)) ∙ e))

any_some : (p : ℕ → Bool) (xs : List ℕ) → is_empty (filter p xs) ≡ false → list_any p xs ≡ true
any_some p [] e = absurd (true≢false e)
any_some p (x ∷ xs) e = by (any_some p xs)
  where
    by : (is_empty (filter p xs) ≡ false → list_any p xs ≡ true) → (p x || list_any p xs) ≡ true
    by rest = cases (p x) (λ t. or_left _ _ t) (λ f. or_right _ _ (rest (sym (ap is_empty (left_first p x xs f)) ∙ e)))

module _ (g : Shape) (tries : ℕ) (who : Actor) (number : ℕ) (job : Job) (pairs : List (ℕ × ℕ)) (part : Part) (parts : List Part) (after : Sequel)
    (stripe : Stripe) (epochs : List ℕ) (first : List Server) (d : Directory)
    (there : (j : ℕ) → j < chunk_count g → IsThere g tries who number job pairs (Aim.Range part) parts after stripe epochs first d first j) where
  abbrev pub firsts : List ℕ
  firsts = chunks_in_range g part.start part.end

  -- from a stage, at whichever places that are as before, the call comes there
  abbrev Next : Stage → (Places → AtWork) → Type 0
  Next stage to = Onward g tries who number job pairs (Aim.Range part) parts after stripe epochs first d there stage to

  -- a server without its chunk
  abbrev lost_from : ℕ → Lost
  lost_from j = lost_of g tries who number job pairs (Aim.Range part) parts after stripe epochs first d there j

  -- servers that lack their chunks, which end the gathering if they are too many
  abbrev settled : List ℕ → Stage → Stage
  settled gone next = settle g tries who number job pairs (Aim.Range part) parts after stripe epochs first d there gone next

  abbrev others : List ℕ
  others = but g tries who number job pairs (Aim.Range part) parts after stripe epochs first d there firsts

  -- the part can't be had
  abbrev pub out : Bool
  out = list_any (λ chunk. not (holds stripe chunk)) firsts && nat_lt g.parity_count (length (lacking stripe (everyone g)))

  -- how the gathering ends
  abbrev pub end_by : Bool → Stage
  end_by b = if b then Stage.TooMany (map lost_from (take (g.parity_count + 1) (lacking stripe (asked_first g firsts)))) else Stage.HasBytes

  abbrev in_need : ℕ → Bool
  in_need chunk = nat_lt (max part.start (chunk * chunk_length g)) (min part.end ((chunk + 1) * chunk_length g))

  firsts_less : (j : ℕ) → is_among j firsts ≡ true → j < chunk_count g
  firsts_less j e =
      let parts : (is_among j (range_with_len 0 g.data_count) ≡ true) × (in_need j ≡ true) =
      and_parts (is_among j (range_with_len 0 g.data_count)) (in_need j) (sym (among_kept in_need j (range_with_len 0 g.data_count)) ∙ e) in
      let less : j < 0 + g.data_count = (row_bounds j 0 g.data_count parts.0).1 in
      omega (arith, less)

  others_less : (j : ℕ) → is_among j others ≡ true → j < chunk_count g
  others_less j e =
      let parts : (is_among j (everyone g) ≡ true) × (not (is_among j firsts) ≡ true) =
      and_parts (is_among j (everyone g)) (not (is_among j firsts)) (sym (among_kept (λ n. not (is_among n firsts)) j (everyone g)) ∙ e) in
      let less : j < 0 + chunk_count g = (row_bounds j 0 (chunk_count g) parts.0).1 in
      omega (arith, less)

  fetch_has : (j : ℕ) (more : List ℕ) (missing : List Lost) → j < chunk_count g → holds stripe j ≡ true → (to : Places → AtWork) → Next (fetch_stage g part more missing) to → Next (fetch_stage g part (j ∷ more) missing) to
  fetch_has j more missing less e to rest =
      λ q now same. given g tries who number job pairs (Aim.Range part) parts after stripe epochs first d (Asking.Fetch j more missing) (layers_for g part.start part.end j) q now same (there j less) refl e to rest

  fetch_lacks : (j : ℕ) (more : List ℕ) (missing : List Lost) → j < chunk_count g → holds stripe j ≡ false → (to : Places → AtWork) →
      Next (unless_many g (missing ++ lost_from j ∷ []) (fetch_stage g part more (missing ++ lost_from j ∷ []))) to → Next (fetch_stage g part (j ∷ more) missing) to
  fetch_lacks j more missing less e to rest =
      λ q now same. missed g tries who number job pairs (Aim.Range part) parts after stripe epochs first d (Asking.Fetch j more missing) (layers_for g part.start part.end j) q now same (there j less) refl e to rest

  -- those that lack their chunks, in the order in which they are asked: first the data chunks that are wanted
  in_order : lacking stripe (asked_first g firsts) ≡ lacking stripe firsts ++ lacking stripe others
  in_order = filter-append (λ s. not (holds stripe s)) firsts others

  out_some : is_empty (lacking stripe firsts) ≡ false → out ≡ nat_lt g.parity_count (length (lacking stripe firsts ++ lacking stripe others))
  out_some e =
      ap (λ b. b && nat_lt g.parity_count (length (lacking stripe (everyone g)))) (any_some (λ s. not (holds stripe s)) firsts e)
      ∙ ap (λ n. nat_lt g.parity_count n) (sym (as_many g stripe firsts (chosen_again g in_need)))
      ∙ ap (λ (l : List ℕ). nat_lt g.parity_count (length l)) in_order

  pub part_next : (to : Places → AtWork) → Next (end_by out) to → Next (first_stage g (Aim.Range part)) to
  part_next to next = walk g tries who number job pairs (Aim.Range part) parts after stripe epochs first d there (fetch_stage g part) (data_stage g part) (λ missing. refl) fetch_has fetch_lacks firsts firsts_less [] (omega arith) to (by_first (lacking stripe firsts) refl)
    where
      by_first : (gone : List ℕ) → lacking stripe firsts ≡ gone → Next (settled gone (data_stage g part (map lost_from gone))) to
      by_first [] e =
          let none : out ≡ false = ap (λ b. b && nat_lt g.parity_count (length (lacking stripe (everyone g)))) (any_none (λ s. not (holds stripe s)) firsts (ap is_empty e)) in
          subst (λ st. Next st to) (ap end_by none ∙ sym (settle_few g tries who number job pairs (Aim.Range part) parts after stripe epochs first d there [] Stage.HasBytes (omega arith))) next
      by_first (x ∷ xs) e = cases (nat_lt g.parity_count (length (x ∷ xs))) over under
        where
          said : out ≡ nat_lt g.parity_count (length ((x ∷ xs) ++ lacking stripe others))
          said = out_some (ap is_empty e) ∙ ap (λ (l : List ℕ). nat_lt g.parity_count (length (l ++ lacking stripe others))) e

          order : lacking stripe (asked_first g firsts) ≡ (x ∷ xs) ++ lacking stripe others
          order = in_order ∙ ap (λ l. l ++ lacking stripe others) e

          ending : g.parity_count < length ((x ∷ xs) ++ lacking stripe others) → end_by out ≡ Stage.TooMany (map lost_from (take (g.parity_count + 1) ((x ∷ xs) ++ lacking stripe others)))
          ending many = ap end_by (said ∙ lt-ltb g.parity_count (length ((x ∷ xs) ++ lacking stripe others)) many) ∙ ap (λ l. Stage.TooMany (map lost_from (take (g.parity_count + 1) l))) order

          over : nat_lt g.parity_count (length (x ∷ xs)) ≡ true → Next (settled (x ∷ xs) (data_stage g part (map lost_from (x ∷ xs)))) to
          over t =
              let many : g.parity_count < length (x ∷ xs) = ltb-true g.parity_count (length (x ∷ xs)) t in
              let sum : length ((x ∷ xs) ++ lacking stripe others) ≡ length (x ∷ xs) + length (lacking stripe others) = length-append (x ∷ xs) (lacking stripe others) in
              subst (λ st. Next st to)
              (ending (omega (arith, many, sum)) ∙ ap (λ l. Stage.TooMany (map lost_from l)) (take-append-le (g.parity_count + 1) (x ∷ xs) (lacking stripe others) (omega (arith, many)))
              ∙ sym (settle_many g tries who number job pairs (Aim.Range part) parts after stripe epochs first d there (x ∷ xs) (data_stage g part (map lost_from (x ∷ xs))) many)) next

          under : nat_lt g.parity_count (length (x ∷ xs)) ≡ false → Next (settled (x ∷ xs) (data_stage g part (map lost_from (x ∷ xs)))) to
          under f =
              let few : length (x ∷ xs) ≤ g.parity_count = ltb-false g.parity_count (length (x ∷ xs)) f in
              subst (λ st. Next st to) (sym (settle_few g tries who number job pairs (Aim.Range part) parts after stripe epochs first d there (x ∷ xs) (data_stage g part (map lost_from (x ∷ xs))) few))
              (walk g tries who number job pairs (Aim.Range part) parts after stripe epochs first d there (look_stage g part.seen) (make_stage g part.seen) (λ missing. refl) (look_has g tries who number job pairs (Aim.Range part) parts after stripe epochs first d there) (look_lacks g tries who number job pairs (Aim.Range part) parts after stripe epochs first d there) others others_less (x ∷ xs) few to
              (cases (nat_lt g.parity_count (length ((x ∷ xs) ++ lacking stripe others))) too_many enough))
            where
              too_many : nat_lt g.parity_count (length ((x ∷ xs) ++ lacking stripe others)) ≡ true →
                  Next (settled ((x ∷ xs) ++ lacking stripe others) (make_stage g part.seen (map lost_from ((x ∷ xs) ++ lacking stripe others)))) to
              too_many t =
                  let many : g.parity_count < length ((x ∷ xs) ++ lacking stripe others) = ltb-true g.parity_count (length ((x ∷ xs) ++ lacking stripe others)) t in
                  subst (λ st. Next st to)
                  (ending many ∙ sym (settle_many g tries who number job pairs (Aim.Range part) parts after stripe epochs first d there ((x ∷ xs) ++ lacking stripe others) (make_stage g part.seen (map lost_from ((x ∷ xs) ++ lacking stripe others))) many)) next

              enough : nat_lt g.parity_count (length ((x ∷ xs) ++ lacking stripe others)) ≡ false →
                  Next (settled ((x ∷ xs) ++ lacking stripe others) (make_stage g part.seen (map lost_from ((x ∷ xs) ++ lacking stripe others)))) to
              enough n =
                  let few : length ((x ∷ xs) ++ lacking stripe others) ≤ g.parity_count = ltb-false g.parity_count (length ((x ∷ xs) ++ lacking stripe others)) n in
                  let all : length (filter (holds stripe) (everyone g)) + length (lacking stripe (everyone g)) ≡ g.data_count + g.parity_count = rest_count g stripe in
                  let same : length (lacking stripe (asked_first g firsts)) ≡ length (lacking stripe (everyone g)) = as_many g stripe firsts (chosen_again g in_need) in
                  let here : length (lacking stripe (asked_first g firsts)) ≡ length ((x ∷ xs) ++ lacking stripe others) = ap length order in
                  subst (λ st. Next st to) (sym (settle_few g tries who number job pairs (Aim.Range part) parts after stripe epochs first d there ((x ∷ xs) ++ lacking stripe others) (make_stage g part.seen (map lost_from ((x ∷ xs) ++ lacking stripe others))) few))
                  (make_next g tries who number job pairs (Aim.Range part) parts after stripe epochs first d there ((x ∷ xs) ++ lacking stripe others) (ap (but g tries who number job pairs (Aim.Range part) parts after stripe epochs first d there) (sym order) ∙ others_hold g stripe firsts (chosen_again g in_need)) (omega (arith, few, all, same, here)) to
                  (subst (λ st. Next st to) (ap end_by (said ∙ n)) next))

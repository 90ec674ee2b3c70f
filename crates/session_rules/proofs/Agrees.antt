-- The session and the call name the same first stripe that can not be had.
use Rattle.std.proofs.Common.{◌≡◌, ◌⊎◌, inl, inr, ℕ, ◌+◌, ◌<◌, Bool, true, false, not, ◌&&◌, cond, List, [], ◌∷◌, length, map, get_or, take, find, Option, None, Some, option_map, refl, ap}
use Rattle.std.specs.List.{list_any}
use Rattle.std.proofs.lemmas.Bool.{or_left, or_right, eq-eqb}
use Rattle.clay_grid.specs.Shape.{chunk_count}
use Rattle.store_map.specs.PlainMap.{bytes_of}
use Rattle.store_map.specs.declared.placement.Found.TheVariants as found
use Rattle.store_core.specs.Lists.{is_among}
use Rattle.store_core.specs.Told.{Lost}
use Rattle.store_core.specs.Act.{Outcome}
use Rattle.store_core.specs.Directory.{Object}
use Rattle.store_core.specs.Look.{seen_at}
use Rattle.store_core.specs.Gathering.{Part, lost_at}
use Rattle.store_core.specs.GatheringParts.{chunks_in_range}
use Rattle.session_rules.proofs.AtPlaces.{answers_at, named_same}
use Rattle.store_core.specs.Step.{Places}
use Rattle.session_rules.specs.State.{Stripe, State as Session, stripe_at}
use Rattle.session_rules.specs.declared.session_answer.Answer.{Answer}
use Rattle.session_rules.specs.Gathered.{Range, holds, lacking, asked_first, is_unavailable, unavailable, first_unavailable, is_beyond_repair}
use Rattle.session_rules.specs.Seen.{version_of, IsSeenAs}
use Rattle.session_rules.specs.Outcomes.{outcome_at}
use Rattle.session_rules.proofs.Parts.{Answers, Each}

cases : {P : Type 0} (b : Bool) → (b ≡ true → P) → (b ≡ false → P) → P
cases true t f = t refl
cases false t f = f refl

-- ---- a list of stripes, as ranges of the session and as parts of the call; of each the bytes from some place on, up to another
module _ (stands : List ℕ) (p : Places) (s : Session) (h : IsSeenAs p.directory.shape p.directory.max stands p s) (name : List ℕ) (object : Object) (numbers : List ℕ)
    (of_name : bytes_of name s.numbers ≡ Some numbers) (same : object.versions ≡ map (version_of stands) numbers) (from up_to : ℕ → ℕ) (point : ℕ) (answer : Answer) (told : Outcome) (agrees : outcome_at point answer ≡ told) where
  abbrev pub range_at : ℕ → Range
  range_at i = record { stripe = i; start = from i; end = up_to i }

  abbrev pub part_at : ℕ → Part
  part_at i = record { seen = seen_at p.directory object i; start = from i; end = up_to i }

  abbrev pub stripe_for : Part → Stripe
  stripe_for part = stripe_at s.stripes numbers part.seen.stripe

  abbrev pub answer_by : Option Answer → Answer
  answer_by None = answer
  answer_by (Some lost) = lost

  -- the part can't be had
  abbrev pub out_at : Part → Bool
  out_at part =
      list_any (λ chunk. not (holds (stripe_for part) chunk)) (chunks_in_range p.directory.shape part.start part.end) && is_beyond_repair p.directory.shape (stripe_for part)

  -- the servers that are named then
  abbrev pub lost_from : Part → List Lost
  lost_from part =
      map (λ j. lost_at p.directory.shape part.seen j (found.Absent (get_or s.epochs j 0)))
      (take (p.directory.shape.parity_count + 1) (lacking (stripe_for part) (asked_first p.directory.shape (chunks_in_range p.directory.shape part.start part.end))))

  abbrev pub outcome_by : Option Part → Outcome
  outcome_by None = told
  outcome_by (Some part) = Outcome.Unavailable part.seen.stripe (lost_from part)

  -- both name the same first stripe
  pub agree : (is : List ℕ) → ((i : ℕ) → is_among i is ≡ true → i < length numbers) →
      outcome_at point (answer_by (first_unavailable p.directory.shape s s.stripes numbers (map range_at is))) ≡ outcome_by (find out_at (map part_at is))
  agree [] within = agrees
  agree (i ∷ is) within = by (out_at (part_at i)) (agree is (λ j e. within j (or_right _ _ e)))
    where
      by : (b : Bool) → outcome_at point (answer_by (first_unavailable p.directory.shape s s.stripes numbers (map range_at is))) ≡ outcome_by (find out_at (map part_at is)) →
          outcome_at point (answer_by (option_map (unavailable p.directory.shape s s.stripes numbers) (cond b (Some (range_at i)) (find (is_unavailable p.directory.shape s s.stripes numbers) (map range_at is)))))
          ≡ outcome_by (cond b (Some (part_at i)) (find out_at (map part_at is)))
      by true rest =
          ap (λ lost. Outcome.Unavailable i lost)
          (named_same stands p s h name object numbers of_name same i (within i (or_left _ _ (eq-eqb i i refl))) (chunks_in_range p.directory.shape (part_at i).start (part_at i).end))
      by false rest = rest

  -- none is named by either, or one by both
  abbrev pub Alike : Option Answer → Option Part → Type 0
  Alike lost part = ((lost ≡ None) × (part ≡ None)) ⊎ ((named : Answer) × (out : Part) × (lost ≡ Some named) × (part ≡ Some out) × (outcome_at point named ≡ Outcome.Unavailable out.seen.stripe (lost_from out)))

  pub alike : (is : List ℕ) → ((i : ℕ) → is_among i is ≡ true → i < length numbers) →
      Alike (first_unavailable p.directory.shape s s.stripes numbers (map range_at is)) (find out_at (map part_at is))
  alike [] within = inl (refl, refl)
  alike (i ∷ is) within = by (out_at (part_at i)) (alike is (λ j e. within j (or_right _ _ e)))
    where
      by : (b : Bool) → Alike (first_unavailable p.directory.shape s s.stripes numbers (map range_at is)) (find out_at (map part_at is)) →
          Alike (option_map (unavailable p.directory.shape s s.stripes numbers) (cond b (Some (range_at i)) (find (is_unavailable p.directory.shape s s.stripes numbers) (map range_at is))))
          (cond b (Some (part_at i)) (find out_at (map part_at is)))
      by true rest =
          inr (
            unavailable p.directory.shape s s.stripes numbers (range_at i),
            part_at i,
            refl,
            refl,
            ap (λ lost. Outcome.Unavailable i lost)
                (named_same stands p s h name object numbers of_name same i (within i (or_left _ _ (eq-eqb i i refl))) (chunks_in_range p.directory.shape (part_at i).start (part_at i).end)),
          )
      by false rest = rest

  -- each part is answered by all servers
  pub each_answers : (is : List ℕ) → ((i : ℕ) → is_among i is ≡ true → i < length numbers) →
      Each (λ part. (j : ℕ) → j < chunk_count p.directory.shape → Answers s.epochs p.servers (stripe_for part) part.seen.version j) (map part_at is)
  each_answers [] within = Each.Nothing
  each_answers (i ∷ is) within =
      Each.Also (answers_at stands p s h name object numbers of_name same i (within i (or_left _ _ (eq-eqb i i refl)))) (each_answers is (λ j e. within j (or_right _ _ e)))

-- A get or a read has no more steps left than the stripes that it pinned want.
use Rattle.std.proofs.Common.{◌≡◌, ℕ, ◌+◌, ◌*◌, ◌<◌, ◌≤◌, ◌⊎◌, inl, inr, Bool, true, false, List, [], ◌∷◌, ◌++◌, length, filter, fold, Option, None, Some, refl, sym, ap, subst, ◌∙◌, arith, true≢false, mul-le-mul_left}
use Rattle.std.proofs.lemmas.Option.{none-some, same_Some}
use Rattle.clay_grid.specs.Shape.{Shape, chunk_count}
use Rattle.store_core.specs.Told.{Told}
use Rattle.store_core.specs.Note.{Note, Kind}
use Rattle.store_core.specs.Bounds.{bound_by, read_count, step_bound, touched_count}
use Rattle.store_core.specs.NextAct.{Job}
use Rattle.store_core.specs.Tell.{is_versions, is_changed, cut_by, cut_read, cut_write, cut_rebuild, tell_by, tell}
use Rattle.run_laws.specs.CallLeft.{pins_by, left_by, call_left}
use Rattle.run_laws.specs.GatheringLeft.{read_left}
use Rattle.run_laws.specs.DrainLaws.{pinned_count, pinned_bound}
use Rattle.run_laws.proofs.Steps.{steps_fall}

-- ---- what the first answer pinned
-- how many stripes, where it pinned any
abbrev pub pinned_first : List Told → Option ℕ
pinned_first (Told.Pinned point length_now stripes ∷ told) = Some (length stripes)
pinned_first _ = None

abbrev pub IsPinned : ℕ → List Told → Type 0
IsPinned count told = pinned_first told ≡ Some count

count_some : (told : List Told) (count : ℕ) → IsPinned count told → pinned_count told ≡ count
count_some [] count e = absurd (none-some count e)
count_some (Told.Pinned point length_now stripes ∷ told) count e = same_Some (length stripes) count e
count_some (_ ∷ told) count e = absurd (none-some count e)

count_none : (told : List Told) → pinned_first told ≡ None → pinned_count told ≡ 0
count_none [] e = refl
count_none (Told.Pinned point length_now stripes ∷ told) e = absurd (none-some (length stripes) (sym e))
count_none (_ ∷ told) e = refl

-- ---- one answer more
is_nil : List Told → Bool
is_nil [] = true
is_nil _ = false

nil_at_end : (told : List Told) (answer : Told) → is_nil (told ++ answer ∷ []) ≡ false
unfolding is_nil
nil_at_end [] answer = refl
nil_at_end (first ∷ told) answer = refl

read_some : (g : Shape) (note : Note) (told : List Told) → is_nil (cut_read g note told) ≡ is_nil told
unfolding is_nil
read_some g note [] = refl
read_some g note (Told.Pinned point length_now stripes ∷ told) = refl
read_some g note (_ ∷ told) = refl

write_some : (g : Shape) (told : List Told) → is_nil (cut_write g told) ≡ is_nil told
unfolding is_nil
write_some g [] = refl
write_some g (Told.Changed base newer ∷ told) = refl
write_some g (Told.Ready base length_now stripes ∷ told) = refl
write_some g (_ ∷ told) = refl

rebuild_some : (g : Shape) (target : ℕ) (told : List Told) → is_nil (cut_rebuild g target told) ≡ is_nil told
unfolding is_nil
rebuild_some g target [] = refl
rebuild_some g target (Told.PinnedStripe seen ∷ told) = refl
rebuild_some g target (_ ∷ told) = refl

cut_some : (kind : Kind) (g : Shape) (job : Job) (told : List Told) → is_nil (cut_by kind g job told) ≡ is_nil told
cut_some Kind.Get g job told = read_some g job.note told
cut_some Kind.ReadAt g job told = read_some g job.note told
cut_some Kind.Write g job told = write_some g told
cut_some Kind.Rebuild g job told = rebuild_some g job.target told
cut_some kind g job told = refl

-- what was told is never nothing
tell_some : (kind : Kind) (g : Shape) (job : Job) (told : List Told) (answer : Told) → is_nil (tell_by kind g job told answer) ≡ false
tell_some kind g job told (Told.Done point) = nil_at_end (filter is_versions told) (Told.Done point)
tell_some kind g job told (Told.Changed base newer) = nil_at_end (filter is_changed told) (Told.Changed base newer)
tell_some kind g job told answer = cut_some kind g job (told ++ answer ∷ []) ∙ nil_at_end told answer

not_nil : (told : List Told) → is_nil told ≡ false → told ≡ [] → ⊥
unfolding is_nil
not_nil told some none = true≢false (sym (ap is_nil none) ∙ some)

-- a gathering in one entry leaves the first answer as it was
read_first : (g : Shape) (note : Note) (told : List Told) → pinned_first (cut_read g note told) ≡ pinned_first told
read_first g note [] = refl
read_first g note (Told.Pinned point length_now stripes ∷ told) = refl
read_first g note (_ ∷ told) = refl

write_first : (g : Shape) (told : List Told) → pinned_first (cut_write g told) ≡ pinned_first told
write_first g [] = refl
write_first g (Told.Changed base newer ∷ told) = refl
write_first g (Told.Ready base length_now stripes ∷ told) = refl
write_first g (_ ∷ told) = refl

rebuild_first : (g : Shape) (target : ℕ) (told : List Told) → pinned_first (cut_rebuild g target told) ≡ pinned_first told
rebuild_first g target [] = refl
rebuild_first g target (Told.PinnedStripe seen ∷ told) = refl
rebuild_first g target (_ ∷ told) = refl

cut_first : (kind : Kind) (g : Shape) (job : Job) (told : List Told) → pinned_first (cut_by kind g job told) ≡ pinned_first told
cut_first Kind.Get g job told = read_first g job.note told
cut_first Kind.ReadAt g job told = read_first g job.note told
cut_first Kind.Write g job told = write_first g told
cut_first Kind.Rebuild g job told = rebuild_first g job.target told
cut_first kind g job told = refl

front_first : (first : Told) (told more : List Told) → pinned_first (first ∷ (told ++ more)) ≡ pinned_first (first ∷ told)
front_first (Told.Pinned point length_now stripes) told more = refl
front_first _ told more = refl

versions_alone : (told : List Told) (point : ℕ) → pinned_first (filter is_versions told ++ Told.Done point ∷ []) ≡ None
versions_alone [] point = refl
versions_alone (Told.Versions versions ∷ told) point = refl
versions_alone (_ ∷ told) point = versions_alone told point

changes_alone : (told : List Told) (base newer : ℕ) → pinned_first (filter is_changed told ++ Told.Changed base newer ∷ []) ≡ None
changes_alone [] base newer = refl
changes_alone (Told.Changed one other ∷ told) base newer = refl
changes_alone (_ ∷ told) base newer = changes_alone told base newer

-- what is pinned was pinned before, or is by this answer and it is the first
pub pinned_before : (kind : Kind) (g : Shape) (job : Job) (told : List Told) (answer : Told) (count : ℕ) → IsPinned count (tell_by kind g job told answer)
    → ((told ≡ []) × IsPinned count (answer ∷ [])) ⊎ IsPinned count told
pinned_before kind g job told (Told.Done point) count e = absurd (none-some count (sym (versions_alone told point) ∙ e))
pinned_before kind g job told (Told.Changed base newer) count e = absurd (none-some count (sym (changes_alone told base newer) ∙ e))
pinned_before kind g job told answer count e = by told (sym (cut_first kind g job (told ++ answer ∷ [])) ∙ e)
  where
    by : (l : List Told) → IsPinned count (l ++ answer ∷ []) → ((l ≡ []) × IsPinned count (answer ∷ [])) ⊎ IsPinned count l
    by [] here = inl (refl, here)
    by (first ∷ rest) here = inr (sym (front_first first rest (answer ∷ [])) ∙ here)

-- ---- a step
abbrev pub Reads : Kind → Type 0
Reads kind = (kind ≡ Kind.Get) ⊎ (kind ≡ Kind.ReadAt)

-- the steps made and those left are as many as the pinned stripes want at most
abbrev pub KeepsPinned : Shape → ℕ → ℕ → Job → List Told → ℕ → Type 0
KeepsPinned g most tries job told steps =
    Reads job.note.kind → (count : ℕ) → IsPinned count told → call_left g most tries job told + steps ≤ 3 * chunk_count g * count + 2

all_left : (kind : Kind) (g : Shape) (most tries : ℕ) (job : Job) → Reads kind
    → left_by kind g tries (pins_by kind g most job.note) job [] ≡ bound_by kind (chunk_count g) tries (touched_count g job.note) (read_count kind g most job.note)
all_left kind g most tries job (inl get) =
    subst (λ k. left_by k g tries (pins_by k g most job.note) job [] ≡ bound_by k (chunk_count g) tries (touched_count g job.note) (read_count k g most job.note)) (sym get) refl
all_left kind g most tries job (inr read) =
    subst (λ k. left_by k g tries (pins_by k g most job.note) job [] ≡ bound_by k (chunk_count g) tries (touched_count g job.note) (read_count k g most job.note)) (sym read) refl

module _ (g : Shape) (most tries : ℕ) (job : Job) (reads : Reads job.note.kind) (count : ℕ) where
  at_first : (answer : Told) → IsPinned count (answer ∷ []) → call_left g most tries job (tell g job [] answer) ≤ 3 * chunk_count g * count + 1
  at_first (Told.Pinned point length_now stripes) e =
      subst (λ n. call_left g most tries job (tell g job [] (Told.Pinned point length_now stripes)) ≤ 3 * chunk_count g * n + 1) (same_Some (length stripes) count e)
      ((steps_fall g most tries job).pinned point length_now stripes reads)
  at_first _ e = absurd (none-some count e)

  -- the first step
  looks : (steps : ℕ) (answer : Told) → call_left g most tries job [] + steps ≤ step_bound g most tries job.note → IsPinned count (answer ∷ [])
      → call_left g most tries job (tell g job [] answer) + (steps + 1) ≤ 3 * chunk_count g * count + 2
  looks steps answer bound e =
      let left : call_left g most tries job (tell g job [] answer) ≤ 3 * chunk_count g * count + 1 = at_first answer e in
      let all : call_left g most tries job [] ≡ step_bound g most tries job.note = all_left job.note.kind g most tries job reads in
      let wanted : ℕ = 3 * chunk_count g * count in
      omega (arith, left, all, bound)

pub pinned_step : (g : Shape) (most tries : ℕ) (job : Job) (told first : List Told) (answer : Told) (steps : ℕ) → (first ≡ told) ⊎ (first ≡ tell g job told Told.Short)
    → call_left g most tries job told + steps ≤ step_bound g most tries job.note → call_left g most tries job first ≤ call_left g most tries job told
    → call_left g most tries job (tell g job first answer) < call_left g most tries job first → KeepsPinned g most tries job told steps
    → KeepsPinned g most tries job (tell g job first answer) (steps + 1)
pinned_step g most tries job told first answer steps from bound short falls keeps reads count is = by (pinned_before job.note.kind g job first answer count is)
  where
    nothing_told : (first ≡ told) ⊎ (first ≡ tell g job told Told.Short) → first ≡ [] → told ≡ []
    nothing_told (inl same) none = sym same ∙ none
    nothing_told (inr other) none = absurd (not_nil (tell g job told Told.Short) (tell_some job.note.kind g job told Told.Short) (sym other ∙ none))

    before_that : (first ≡ told) ⊎ (first ≡ tell g job told Told.Short) → IsPinned count first → IsPinned count told
    before_that (inl same) here = sym (ap pinned_first same) ∙ here
    before_that (inr other) here = of_short (pinned_before job.note.kind g job told Told.Short count (sym (ap pinned_first other) ∙ here))
      where
        of_short : ((told ≡ []) × IsPinned count (Told.Short ∷ [])) ⊎ IsPinned count told → IsPinned count told
        of_short (inl none) = absurd (none-some count none.1)
        of_short (inr there) = there

    by : ((first ≡ []) × IsPinned count (answer ∷ [])) ⊎ IsPinned count first → call_left g most tries job (tell g job first answer) + (steps + 1) ≤ 3 * chunk_count g * count + 2
    by (inl looked) =
        subst (λ l. call_left g most tries job (tell g job l answer) + (steps + 1) ≤ 3 * chunk_count g * count + 2) (sym looked.0)
        (looks g most tries job reads count steps answer (subst (λ l. call_left g most tries job l + steps ≤ step_bound g most tries job.note) (nothing_told from looked.0) bound) looked.1)
    by (inr there) =
        let kept : call_left g most tries job told + steps ≤ 3 * chunk_count g * count + 2 = keeps reads count (before_that from there) in
        let wanted : ℕ = 3 * chunk_count g * count in
        omega (arith, kept, short, falls)

-- ---- a call that has a step left has made fewer than those
less : (left steps bound : ℕ) → left + steps ≤ bound → 0 < left → steps < bound
less left steps bound all some = omega (arith, all, some)

none_yet : (bound steps wanted : ℕ) → bound + 2 + steps ≤ bound + 2 → steps < wanted + 2
none_yet bound steps wanted all = omega (arith, all)

read_less : (g : Shape) (pins : ℕ) (note : Note) (told : List Told) (steps : ℕ) → read_left g pins note told + steps ≤ 3 * chunk_count g * pins + 2 → 0 < read_left g pins note told
    → ((count : ℕ) → IsPinned count told → read_left g pins note told + steps ≤ 3 * chunk_count g * count + 2) → steps < 3 * chunk_count g * pinned_count told + 2
read_less g pins note [] steps all some keeps = none_yet (3 * chunk_count g * pins) steps (3 * chunk_count g * 0) all
read_less g pins note (Told.Pinned point length_now stripes ∷ told) steps all some keeps =
    less (read_left g pins note (Told.Pinned point length_now stripes ∷ told)) steps (3 * chunk_count g * length stripes + 2) (keeps (length stripes) refl) some
read_less g pins note (_ ∷ told) steps all some keeps = absurd (omega (arith, some))

less_by : (kind : Kind) (g : Shape) (most tries : ℕ) (job : Job) (told : List Told) (steps : ℕ)
    → left_by kind g tries (pins_by kind g most job.note) job told + steps ≤ bound_by kind (chunk_count g) tries (touched_count g job.note) (read_count kind g most job.note)
    → 0 < left_by kind g tries (pins_by kind g most job.note) job told
    → (Reads kind → (count : ℕ) → IsPinned count told → left_by kind g tries (pins_by kind g most job.note) job told + steps ≤ 3 * chunk_count g * count + 2)
    → steps < bound_by kind (chunk_count g) tries (touched_count g job.note) (pinned_count told)
less_by Kind.Get g most tries job told steps all some keeps = read_less g (read_count Kind.Get g most job.note) job.note told steps all some (keeps (inl refl))
less_by Kind.ReadAt g most tries job told steps all some keeps = read_less g (read_count Kind.ReadAt g most job.note) job.note told steps all some (keeps (inr refl))
less_by Kind.Put g most tries job told steps all some keeps =
    less (left_by Kind.Put g tries (pins_by Kind.Put g most job.note) job told) steps (2 * chunk_count g * touched_count g job.note + 3) all some
less_by Kind.Write g most tries job told steps all some keeps =
    less (left_by Kind.Write g tries (pins_by Kind.Write g most job.note) job told) steps
    (tries * (6 * chunk_count g + chunk_count g * touched_count g job.note + 3) + chunk_count g * touched_count g job.note + 1) all some
less_by Kind.Stat g most tries job told steps all some keeps = less (left_by Kind.Stat g tries (pins_by Kind.Stat g most job.note) job told) steps 1 all some
less_by Kind.Delete g most tries job told steps all some keeps = less (left_by Kind.Delete g tries (pins_by Kind.Delete g most job.note) job told) steps 1 all some
less_by Kind.Rebuild g most tries job told steps all some keeps =
    less (left_by Kind.Rebuild g tries (pins_by Kind.Rebuild g most job.note) job told) steps (3 * chunk_count g + 3) all some

pub less_than_pinned : (g : Shape) (most tries : ℕ) (job : Job) (told : List Told) (steps : ℕ) → call_left g most tries job told + steps ≤ step_bound g most tries job.note
    → 0 < call_left g most tries job told → KeepsPinned g most tries job told steps → steps < pinned_bound g tries job.note told
less_than_pinned g most tries job told steps all some keeps = less_by job.note.kind g most tries job told steps all some keeps

-- ---- more pinned stripes allow more steps
pub less_most : (a b c : ℕ) → a < b → b ≤ c → a < c
less_most a b c below most = omega (arith, below, most)

rises : (a b c : ℕ) → a ≤ b → a + c ≤ b + c
rises a b c most = omega (arith, most)

same_bound : (a : ℕ) → a ≤ a
same_bound a = omega arith

pub bound_rises : (kind : Kind) (n tries s r more : ℕ) → r ≤ more → bound_by kind n tries s r ≤ bound_by kind n tries s more
bound_rises Kind.Get n tries s r more h = rises (3 * n * r) (3 * n * more) 2 (mul-le-mul_left (3 * n) h)
bound_rises Kind.ReadAt n tries s r more h = rises (3 * n * r) (3 * n * more) 2 (mul-le-mul_left (3 * n) h)
bound_rises Kind.Put n tries s r more h = same_bound (2 * n * s + 3)
bound_rises Kind.Write n tries s r more h = same_bound (tries * (6 * n + n * s + 3) + n * s + 1)
bound_rises Kind.Stat n tries s r more h = same_bound 1
bound_rises Kind.Delete n tries s r more h = same_bound 1
bound_rises Kind.Rebuild n tries s r more h = same_bound (3 * n + 3)

-- ---- by all that a call was told
pinned_back : (g : Shape) (job : Job) (count : ℕ) (told answers : List Told) → IsPinned count (fold (tell g job) told answers) → ((told ≡ []) × IsPinned count answers) ⊎ IsPinned count told
pinned_back g job count told [] e = inr e
pinned_back g job count told (answer ∷ more) e = by (pinned_back g job count (tell g job told answer) more e)
  where
    first : ((told ≡ []) × IsPinned count (answer ∷ [])) ⊎ IsPinned count told → ((told ≡ []) × IsPinned count (answer ∷ more)) ⊎ IsPinned count told
    first (inl here) = inl (here.0, front_first answer [] more ∙ here.1)
    first (inr there) = inr there

    by : ((tell g job told answer ≡ []) × IsPinned count more) ⊎ IsPinned count (tell g job told answer) → ((told ≡ []) × IsPinned count (answer ∷ more)) ⊎ IsPinned count told
    by (inl later) = absurd (not_nil (tell g job told answer) (tell_some job.note.kind g job told answer) later.0)
    by (inr now) = first (pinned_before job.note.kind g job told answer count now)

of_answers : (count : ℕ) (told answers : List Told) → told ≡ [] → ((told ≡ []) × IsPinned count answers) ⊎ IsPinned count told → IsPinned count answers
of_answers count told answers none (inl all) = all.1
of_answers count told answers none (inr now) = absurd (none-some count (sym (ap pinned_first none) ∙ now))

-- what is kept has no more pinned stripes
pub few_pinned : (g : Shape) (job : Job) (answers : List Told) → pinned_count (fold (tell g job) [] answers) ≤ pinned_count answers
few_pinned g job answers = by (pinned_first (fold (tell g job) [] answers)) refl
  where
    kept : List Told
    kept = fold (tell g job) [] answers

    by : (found : Option ℕ) → pinned_first kept ≡ found → pinned_count kept ≤ pinned_count answers
    by None e = let none : pinned_count kept ≡ 0 = count_none kept e in omega (arith, none)
    by (Some count) e =
        let is : pinned_count kept ≡ count = count_some kept count e in
        let same : pinned_count answers ≡ count = count_some answers count (of_answers count [] answers refl (pinned_back g job count [] answers e)) in
        omega (arith, is, same)

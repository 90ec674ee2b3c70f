-- The steps left fall, for a call of any kind.
use Rattle.std.proofs.Common.{◌≡◌, ℕ, ◌+◌, ◌*◌, ◌<◌, ◌≤◌, ◌⊎◌, inl, inr, List, [], length, refl, sym, subst, arith}
use Rattle.clay_grid.specs.Shape.{Shape, chunk_count}
use Rattle.store_core.specs.Told.{Told, Seen}
use Rattle.store_core.specs.Note.{Kind}
use Rattle.run_laws.specs.Answers.{Answers}
use Rattle.store_core.specs.Bounds.{touched_count, read_count, bound_by}
use Rattle.store_core.specs.NextAct.{Job, next_by}
use Rattle.store_core.specs.Tell.{tell_by}
use Rattle.run_laws.specs.GatheringLeft.{try_steps}
use Rattle.run_laws.specs.CallLeft.{pins_by, pin_bound, left_by}
use Rattle.run_laws.specs.StepLaws.{StepsFall}
use Rattle.run_laws.proofs.Falls.{put_all, stat_all, delete_all}
use Rattle.run_laws.proofs.GatheringFalls.{pinned_left, get_all, read_all}
use Rattle.run_laws.proofs.RebuildFalls.{rebuild_all}
use Rattle.run_laws.proofs.WriteFalls.{write_all}
use Rattle.run_laws.proofs.Shorts.{short_by}

as_many : (a : ℕ) → a ≤ a
as_many a = omega arith

one_less : (a b : ℕ) → a + b ≤ a + b + 1
one_less a b = omega arith

-- at first a call has no more steps left than its bound
first_by : (kind : Kind) (g : Shape) (max tries : ℕ) (job : Job)
    → left_by kind g tries (pins_by kind g max job.note) job [] ≤ bound_by kind (chunk_count g) tries (touched_count g job.note) (read_count kind g max job.note)
first_by Kind.Put g max tries job = as_many (2 * chunk_count g * touched_count g job.note + 3)
first_by Kind.Write g max tries job = one_less (tries * try_steps g (touched_count g job.note)) (chunk_count g * touched_count g job.note)
first_by Kind.Get g max tries job = as_many (3 * chunk_count g * read_count Kind.Get g max job.note + 2)
first_by Kind.ReadAt g max tries job = as_many (3 * chunk_count g * read_count Kind.ReadAt g max job.note + 2)
first_by Kind.Stat g max tries job = as_many 1
first_by Kind.Delete g max tries job = as_many 1
first_by Kind.Rebuild g max tries job = as_many (3 * chunk_count g + 3)

-- each answer leaves fewer
falls_by : (kind : Kind) (g : Shape) (max tries : ℕ) (job : Job) (told : List Told) (answer : Told) → (kind ≡ Kind.Rebuild → job.target < chunk_count g)
    → Answers (pins_by kind g max job.note) (touched_count g job.note) (next_by kind g tries job told) answer
    → left_by kind g tries (pins_by kind g max job.note) job (tell_by kind g job told answer) < left_by kind g tries (pins_by kind g max job.note) job told
falls_by Kind.Put g max tries job told answer target h = put_all g (pins_by Kind.Put g max job.note) (touched_count g job.note) tries job told answer h
falls_by Kind.Write g max tries job told answer target h = write_all g (touched_count g job.note) tries job told answer h
falls_by Kind.Get g max tries job told answer target h = get_all g (pins_by Kind.Get g max job.note) (touched_count g job.note) tries job told answer h
falls_by Kind.ReadAt g max tries job told answer target h = read_all g (pins_by Kind.ReadAt g max job.note) (touched_count g job.note) tries job told answer h
falls_by Kind.Stat g max tries job told answer target h = stat_all g (pins_by Kind.Stat g max job.note) (touched_count g job.note) tries job told answer h
falls_by Kind.Delete g max tries job told answer target h = delete_all g (pins_by Kind.Delete g max job.note) (touched_count g job.note) tries job told answer h
falls_by Kind.Rebuild g max tries job told answer target h =
    rebuild_all g (pins_by Kind.Rebuild g max job.note) (touched_count g job.note) tries job (target refl) told answer h

-- the look of a get or a read leaves as many as the stripes that it pins want
pinned_by : (kind : Kind) (g : Shape) (pins tries : ℕ) (job : Job) (point length_now : ℕ) (stripes : List Seen) → (kind ≡ Kind.Get) ⊎ (kind ≡ Kind.ReadAt)
    → left_by kind g tries pins job (tell_by kind g job [] (Told.Pinned point length_now stripes)) ≤ 3 * chunk_count g * length stripes + 1
pinned_by kind g pins tries job point length_now stripes (inl get) =
    subst (λ k. left_by k g tries pins job (tell_by k g job [] (Told.Pinned point length_now stripes)) ≤ 3 * chunk_count g * length stripes + 1) (sym get)
    (pinned_left g pins 0 job.note point length_now stripes)
pinned_by kind g pins tries job point length_now stripes (inr read) =
    subst (λ k. left_by k g tries pins job (tell_by k g job [] (Told.Pinned point length_now stripes)) ≤ 3 * chunk_count g * length stripes + 1) (sym read)
    (pinned_left g pins 0 job.note point length_now stripes)

pub steps_fall : (g : Shape) (max tries : ℕ) (job : Job) → StepsFall g max tries job
steps_fall g max tries job =
    record {
      first = first_by job.note.kind g max tries job;
      falls = λ told answer target h. falls_by job.note.kind g max tries job told answer target h;
      pinned = λ point length_now stripes reads. pinned_by job.note.kind g (pin_bound g max job.note) tries job point length_now stripes reads;
      short = λ told. short_by job.note.kind g tries (pin_bound g max job.note) job told;
    }

-- What the steps of a run are answered: new points stand in the directory at the run's end, and stripes and counts of versions are small.
use Rattle.std.proofs.Common.{◌≡◌, ℕ, zero, suc, ◌+◌, ◌-◌, ◌/◌, ◌<◌, ◌≤◌, ◌^◌, min, Bool, true, false, nat_lt, List, [], ◌∷◌, ◌++◌, length, map, Option, None, Some, option_map, unwrap_or, MatchOption, IfSome, All, refl, sym, ap, subst, ◌∙◌, arith}
use Rattle.std.proofs.lemmas.Bool.{cond_both}
use Rattle.std.proofs.lemmas.List.{length_push}
use Rattle.std.proofs.lemmas.List.Elements.{All-nil, All-cons, All-push, All-weaker, All-filter, All-map, All-contains}
use Rattle.std.proofs.Math.Nat.{div-le_self}
use Rattle.std.specs.List.{slice_get, range_with_len}
use Rattle.clay_grid.specs.Shape.{Shape, chunk_count, stripe_length}
use Rattle.store_map.specs.Limits.{size_of, tries_of, stripes_met}
use Rattle.store_map.specs.Naming.{IsValid}
use Rattle.store_map.specs.declared.actor.Actor.{Actor}
use Rattle.store_map.specs.declared.actor.Actor.TheVariants as actor
use Rattle.store_map.specs.declared.actor.Token.{Token}
use Rattle.store_map.specs.declared.placement.Placement.TheVariants as placement
use Rattle.store_map.specs.declared.reply.Reply.{Reply}
use Rattle.store_map.specs.declared.script.Script.{Script}
use Rattle.line_grammar.specs.Values.{IsScript}
use Rattle.store_core.specs.Act.{Act, DirectoryStep, ServerStep, server_takes_memory}
use Rattle.store_core.specs.AtDirectory.{unless_short, at_directory, take_garbage, reap, reap_pass}
use Rattle.store_core.specs.Bounds.{touched_count}
use Rattle.store_core.specs.Core.{Core, first_core}
use Rattle.store_core.specs.Directory.{Object, Pass, Directory, Point}
use Rattle.store_core.specs.Lists.{is_among}
use Rattle.store_core.specs.Look.{stripes_between, keeps_old, pinned_by, seen_at, begin_pass}
use Rattle.store_core.specs.Looks.{accept, look_by, look_repair_by}
use Rattle.store_core.specs.Lookups.{find_object, pass_of, first_garbage}
use Rattle.store_core.specs.NextAct.{Job}
use Rattle.store_core.specs.Note.{Note, Kind, refusal}
use Rattle.store_core.specs.PlaceLaws.{new_point}
use Rattle.store_core.specs.Read.{read_start, read_end, read_end_by}
use Rattle.store_core.specs.Run.{places_in}
use Rattle.store_core.specs.Schedule.{run_core}
use Rattle.store_core.specs.Server.{Server, raised_by, hold, gives, found_at, install, made_at_server, server_unless_short}
use Rattle.store_core.specs.Step.{Shortage, Places, at_places, at_server_there, actor_step}
use Rattle.store_core.specs.Sweep.{next_sweep}
use Rattle.store_core.specs.Told.{Told, Seen}
use Rattle.store_core.specs.Work.{Calling}
use Rattle.store_core.proofs.Places.{directory_keeps_places, acts_change_one_place}
use Rattle.run_laws.proofs.SoundLists.{found_in}
use Rattle.run_laws.specs.AnswerLaws.{AreWithinMax}
use Rattle.run_laws.specs.Answers.{DirectoryAnswers, Answers}
use Rattle.run_laws.specs.CallLeft.{pin_bound}
use Rattle.run_laws.proofs.ActAnswers.{FitPlaces}
use Rattle.run_laws.proofs.PlaceMoves.{call_step}
use Rattle.run_laws.proofs.Proper.{IsProper, HasTry}
use Rattle.run_laws.proofs.Runs.{CanRun, IsOperatorAct}
use Rattle.run_laws.proofs.ScriptBounds.{met_most, size}
use Rattle.run_laws.proofs.ShortObjects.{sound_short}
use Rattle.history_laws.proofs.AtWork.{AtWork, client_at, repairer_at, first, act, after, proper, answered}
use Rattle.history_laws.proofs.Induction.{client_after, repairer_after, operator_after, sweeper_after}
use Rattle.history_laws.proofs.PointsOfCalls.{sweeps}
use Rattle.history_laws.specs.Trace.{Made, call_made, act_made}
use Rattle.history_laws.specs.Steps.{run_trace}
use Rattle.history_laws.proofs.Traced.{KeptByMade, run_traced}
use Rattle.clay_cli.proofs.ScriptValues.{IsSmall, client_job_small, repairer_job_small}

-- ---- stripes
range_below : (a k : ℕ) → All (λ x. x < a + k) (range_with_len a k)
range_below a zero = All-nil (λ x. x < a + zero)
range_below a (suc k) =
    All-cons (λ x. x < a + suc k) a (range_with_len (a + 1) k) (omega arith)
    (All-weaker (λ x. x < a + 1 + k) (λ x. x < a + suc k) (λ x h. omega (arith, h)) (range_with_len (a + 1) k) (range_below (a + 1) k))

between_below : (g : Shape) → 0 < stripe_length g → (start end most : ℕ) → start + (end - start) ≤ most
    → All (λ s. s < most) (stripes_between g start end)
between_below g some start end most low =
    let first : start / stripe_length g ≤ start = div-le_self start (stripe_length g) in
    let met : stripes_met (stripe_length g) start (end - start) ≤ end - start = met_most (stripe_length g) some start (end - start) in
    All-weaker (λ x. x < start / stripe_length g + stripes_met (stripe_length g) start (end - start)) (λ x. x < most)
    (λ x h. omega (arith, h, first, met, low))
    (range_with_len (start / stripe_length g) (stripes_met (stripe_length g) start (end - start)))
    (range_below (start / stripe_length g) (stripes_met (stripe_length g) start (end - start)))

abbrev most_of : Note → ℕ → ℕ
most_of note size = note.offset + note.length + size

read_low : (offset count size : ℕ) → offset + (min (offset + count) size - offset) ≤ offset + count + size
read_low offset count size = omega arith

whole_low : (offset count size : ℕ) → offset + (size - offset) ≤ offset + count + size
whole_low offset count size = omega arith

write_low : (offset count size : ℕ) → offset + (offset + count - offset) ≤ offset + count + size
write_low offset count size = omega arith

end_low : (kind : Kind) (offset count size : ℕ) → offset + (read_end_by kind offset count size - offset) ≤ offset + count + size
end_low Kind.Get offset count size = whole_low offset count size
end_low Kind.Put offset count size = read_low offset count size
end_low Kind.Write offset count size = read_low offset count size
end_low Kind.ReadAt offset count size = read_low offset count size
end_low Kind.Stat offset count size = read_low offset count size
end_low Kind.Delete offset count size = read_low offset count size
end_low Kind.Rebuild offset count size = read_low offset count size

pinned_below : (g : Shape) → 0 < stripe_length g → (kind : Kind) (note : Note) (size : ℕ)
    → All (λ s. s < most_of note size) (pinned_by kind g note size)
pinned_below g some Kind.Get note size =
    between_below g some (read_start note) (read_end note size) (most_of note size) (end_low note.kind note.offset note.length size)
pinned_below g some Kind.ReadAt note size =
    between_below g some (read_start note) (read_end note size) (most_of note size) (end_low note.kind note.offset note.length size)
pinned_below g some Kind.Write note size =
    All-filter (keeps_old g size note.offset (note.offset + note.length)) (λ s. s < most_of note size)
    (stripes_between g note.offset (note.offset + note.length))
    (between_below g some note.offset (note.offset + note.length) (most_of note size) (write_low note.offset note.length size))
pinned_below g some Kind.Put note size = All-nil (λ s. s < most_of note size)
pinned_below g some Kind.Stat note size = All-nil (λ s. s < most_of note size)
pinned_below g some Kind.Delete note size = All-nil (λ s. s < most_of note size)
pinned_below g some Kind.Rebuild note size = All-nil (λ s. s < most_of note size)

-- ---- what an answer tells of stripes
abbrev pub IsSmallSeen : Seen → Type 0
IsSmallSeen seen = seen.stripe < 2 ^ 64

abbrev pub TellsSmall : Told → Type 0
TellsSmall (Told.Pinned point length_now stripes) = All IsSmallSeen stripes
TellsSmall (Told.Ready base length_now stripes) = All IsSmallSeen stripes
TellsSmall (Told.PinnedStripe seen) = IsSmallSeen seen
TellsSmall (Told.Versions versions) = length versions < 2 ^ 32
TellsSmall answer = Unit {0}

module _ (who : Actor) (number : ℕ) (note : Note) (small : IsSmall note) (d : Directory) (some : 0 < stripe_length d.shape) (max : d.max ≤ 1048576) (short : AreWithinMax d) where
  seen_small : (object : Object) → object.length ≤ 1048576 → All IsSmallSeen (map (seen_at d object) (pinned_by note.kind d.shape note object.length))
  seen_small object low =
      let offset : note.offset < 2 ^ 32 = small.offset in
      let count : note.length < 2 ^ 32 = small.length in
      All-map IsSmallSeen (seen_at d object) (pinned_by note.kind d.shape note object.length)
      (All-weaker (λ s. s < most_of note object.length) (λ s. s < 2 ^ 64) (λ s h. omega (arith, h, offset, count, low))
      (pinned_by note.kind d.shape note object.length) (pinned_below d.shape some note.kind note object.length))

  accept_small : (kind : Kind) (object : Object) → object.length ≤ 1048576 → TellsSmall (accept who number note d kind object).1
  accept_small Kind.Put object low = All-nil IsSmallSeen
  accept_small Kind.Write object low = seen_small object low
  accept_small Kind.Stat object low = tt
  accept_small Kind.Delete object low = tt
  accept_small Kind.Get object low = seen_small object low
  accept_small Kind.ReadAt object low = seen_small object low
  accept_small Kind.Rebuild object low = seen_small object low

  object_low : (found : Option Object) → find_object note.name d.objects ≡ found
      → (unwrap_or found (record { name = note.name; length = 0; versions = [] })).length ≤ 1048576
  object_low None e = omega arith
  object_low (Some object) e =
      let low : object.length ≤ d.max = All-contains (λ (o : Object). o.length ≤ d.max) d.objects object short (found_in _ d.objects object e).0 in
      omega (arith, low, max)

  look_small : (found : Option Object) (refused : Option Reply) → find_object note.name d.objects ≡ found
      → TellsSmall (look_by who number note d found refused).1
  look_small found (Some given) e = tt
  look_small found None e = accept_small note.kind _ (object_low found e)

  repair_small : (found : Option Object) → TellsSmall (look_repair_by who number note d found).1
  repair_small None = tt
  repair_small (Some object) =
      let offset : note.offset < 2 ^ 32 = small.offset in
      cond_both {A = Directory × Told} (nat_lt note.offset (length object.versions))
      (begin_pass who number note (seen_at d object note.offset ∷ []) None d, Told.PinnedStripe (seen_at d object note.offset)) (d, Told.NoSuch)
      (λ after. TellsSmall after.1)
      (λ _. omega (arith, offset)) (λ _. tt)

-- ---- a step at a server tells neither stripes nor versions nor a new point
abbrev IsQuiet : Told → Type 0
IsQuiet (Told.Answer point reply) = ⊥
IsQuiet (Told.Pinned point length_now stripes) = ⊥
IsQuiet (Told.Ready base length_now stripes) = ⊥
IsQuiet (Told.PinnedStripe seen) = ⊥
IsQuiet (Told.Versions versions) = ⊥
IsQuiet (Told.Done point) = ⊥
IsQuiet (Told.GivenUp point) = ⊥
IsQuiet answer = Unit {0}

quiet_small : (answer : Told) → IsQuiet answer → TellsSmall answer
quiet_small (Told.Pinned point length_now stripes) h = absurd h
quiet_small (Told.Ready base length_now stripes) h = absurd h
quiet_small (Told.PinnedStripe seen) h = absurd h
quiet_small (Told.Versions versions) h = absurd h
quiet_small answer h = tt

quiet_point : (P : ℕ → Type 0) (answer : Told) → IsQuiet answer → IfSome (new_point answer) P
quiet_point P (Told.Answer point reply) h = absurd h
quiet_point P (Told.Pinned point length_now stripes) h = absurd h
quiet_point P (Told.Done point) h = absurd h
quiet_point P (Told.GivenUp point) h = absurd h
quiet_point P answer h = tt

abbrev AnswersQuietly : Server × Told → Type 0
AnswersQuietly after = IsQuiet after.1

made_quiet : (step : ServerStep) (s : Server) → AnswersQuietly (made_at_server step s)
made_quiet (ServerStep.Prepare version) s =
    cond_both {A = Server × Told} s.away (s, Told.Prepared (placement.Skipped s.downs))
    (record s { held = hold version s.held }, Told.Prepared (placement.At s.epoch)) AnswersQuietly (λ _. tt) (λ _. tt)
made_quiet (ServerStep.Settle version) s = tt
made_quiet (ServerStep.Has version) s =
    cond_both {A = Server × Told} (gives version s) (s, Told.Here) (s, Told.Missing (found_at s)) AnswersQuietly (λ _. tt) (λ _. tt)
made_quiet (ServerStep.Fetch version layers) s =
    cond_both {A = Server × Told} (gives version s) (record s { taken = raised_by (length layers) s.taken }, Told.Given (length layers))
    (s, Told.Missing (found_at s)) AnswersQuietly (λ _. tt) (λ _. tt)
made_quiet (ServerStep.Install version) s = by s.away (is_among version s.held)
  where
    by : (away there : Bool) → AnswersQuietly (install away there version s)
    by true there = tt
    by false true = tt
    by false false = tt
made_quiet (ServerStep.Discard version) s = tt
made_quiet ServerStep.Wipe s = tt
made_quiet ServerStep.Down s = tt
made_quiet ServerStep.Up s = tt

short_quiet : (short takes : Bool) (step : ServerStep) (s : Server) → AnswersQuietly (server_unless_short short takes step s)
short_quiet true true step s = tt
short_quiet true false step s = made_quiet step s
short_quiet false true step s = made_quiet step s
short_quiet false false step s = made_quiet step s

server_quiet : (short : Bool) (n : ℕ) (step : ServerStep) (places : Places) (found : Option Server)
    → IsQuiet (at_server_there short n step places found).1
server_quiet short n step places None = tt
server_quiet short n step places (Some s) = short_quiet short (server_takes_memory step) step s

-- ---- a call's step
draw_small : (pins touched : ℕ) → touched < 2 ^ 32 → (answer : Told) → DirectoryAnswers pins touched DirectoryStep.Draw answer → TellsSmall answer
draw_small pins touched low (Told.Versions versions) h = omega (arith, h, low)
draw_small pins touched low (Told.Pinned point length_now stripes) h = absurd h
draw_small pins touched low (Told.Ready base length_now stripes) h = absurd h
draw_small pins touched low (Told.PinnedStripe seen) h = absurd h
draw_small pins touched low answer h = tt

commit_small : (pins touched : ℕ) (placed : List (List _)) (answer : Told) → DirectoryAnswers pins touched (DirectoryStep.Commit placed) answer
    → TellsSmall answer
commit_small pins touched placed (Told.Versions versions) h = absurd h
commit_small pins touched placed (Told.Pinned point length_now stripes) h = absurd h
commit_small pins touched placed (Told.Ready base length_now stripes) h = absurd h
commit_small pins touched placed (Told.PinnedStripe seen) h = absurd h
commit_small pins touched placed answer h = tt

end_small : (pins touched : ℕ) (answer : Told) → DirectoryAnswers pins touched DirectoryStep.End answer → TellsSmall answer
end_small pins touched (Told.Versions versions) h = absurd h
end_small pins touched (Told.Pinned point length_now stripes) h = absurd h
end_small pins touched (Told.Ready base length_now stripes) h = absurd h
end_small pins touched (Told.PinnedStripe seen) h = absurd h
end_small pins touched answer h = tt

confirm_small : (pins touched : ℕ) (answer : Told) → DirectoryAnswers pins touched DirectoryStep.Confirm answer → TellsSmall answer
confirm_small pins touched (Told.Versions versions) h = absurd h
confirm_small pins touched (Told.Pinned point length_now stripes) h = absurd h
confirm_small pins touched (Told.Ready base length_now stripes) h = absurd h
confirm_small pins touched (Told.PinnedStripe seen) h = absurd h
confirm_small pins touched answer h = tt

repaired_small : (pins touched server epoch : ℕ) (answer : Told) → DirectoryAnswers pins touched (DirectoryStep.Repaired server epoch) answer
    → TellsSmall answer
repaired_small pins touched server epoch (Told.Versions versions) h = absurd h
repaired_small pins touched server epoch (Told.Pinned point length_now stripes) h = absurd h
repaired_small pins touched server epoch (Told.Ready base length_now stripes) h = absurd h
repaired_small pins touched server epoch (Told.PinnedStripe seen) h = absurd h
repaired_small pins touched server epoch answer h = tt

module _ (g : Shape) (most : ℕ) (low : most ≤ 1048576) (some : 0 < stripe_length g) (job : Job) (small : IsSmall job.note) (room : Type 0) (short : Bool) (who : Actor) (number : ℕ) (places : Places) (fit : FitPlaces g most places) (all_short : AreWithinMax places.directory)
    (pins : ℕ) where
  abbrev d : Directory
  d = places.directory

  has_length : 0 < stripe_length d.shape
  has_length = subst (λ s. 0 < stripe_length s) (sym fit.shape) some

  max_low : d.max ≤ 1048576
  max_low = subst (λ m. m ≤ 1048576) (sym fit.max) low

  touched_low : touched_count g job.note < 2 ^ 32
  touched_low =
      let met : stripes_met (stripe_length g) job.note.offset job.note.length ≤ job.note.length =
      met_most (stripe_length g) some job.note.offset job.note.length in
      let count : job.note.length < 2 ^ 32 = small.length in
      omega (arith, met, count)

  look_told : (b : Bool) → TellsSmall (unless_short b true who number (DirectoryStep.Look job.note) d).1
  look_told true = tt
  look_told false =
      look_small who number job.note small d has_length max_low all_short (find_object job.note.name d.objects)
      (refusal d.max job.note (option_map (λ object. object.length) (find_object job.note.name d.objects))) refl

  repair_told : (b : Bool) → TellsSmall (unless_short b true who number (DirectoryStep.LookRepair job.note) d).1
  repair_told true = tt
  repair_told false = repair_small who number job.note small d has_length max_low all_short (find_object job.note.name d.objects)

  step_small : (step : DirectoryStep) → IsProper g job room (Act.AtDirectory step)
      → DirectoryAnswers pins (touched_count g job.note) step (at_directory short who number step d).1
      → TellsSmall (at_directory short who number step d).1
  step_small (DirectoryStep.Look note) is h =
      subst (λ n. TellsSmall (at_directory short who number (DirectoryStep.Look n) d).1) (sym (call_step job room (DirectoryStep.Look note) is))
      (look_told short)
  step_small (DirectoryStep.LookRepair note) is h =
      subst (λ n. TellsSmall (at_directory short who number (DirectoryStep.LookRepair n) d).1)
      (sym (call_step job room (DirectoryStep.LookRepair note) is)) (repair_told short)
  step_small DirectoryStep.Draw is h = draw_small pins (touched_count g job.note) touched_low _ h
  step_small (DirectoryStep.Commit placed) is h = commit_small pins (touched_count g job.note) placed _ h
  step_small DirectoryStep.End is h = end_small pins (touched_count g job.note) _ h
  step_small DirectoryStep.Confirm is h = confirm_small pins (touched_count g job.note) _ h
  step_small (DirectoryStep.Repaired server epoch) is h = repaired_small pins (touched_count g job.note) server epoch _ h
  step_small DirectoryStep.NextGarbage is h = absurd (call_step job room DirectoryStep.NextGarbage is)
  step_small (DirectoryStep.Swept version) is h = absurd (call_step job room (DirectoryStep.Swept version) is)
  step_small (DirectoryStep.Reap target) is h = absurd (call_step job room (DirectoryStep.Reap target) is)

  act_small : (a : Act) → IsProper g job room a → Answers pins (touched_count g job.note) a (at_places short who number a places).1
      → TellsSmall (at_places short who number a places).1
  act_small (Act.AtDirectory step) is h = step_small step is h
  act_small (Act.AtServer server step) is h = quiet_small _ (server_quiet short server step places (slice_get places.servers server))
  act_small (Act.Finish outcome) is h = tt

-- ---- a step of the sweeper or the operator
taken_small : (found : Option ℕ) (d : Directory) → TellsSmall (take_garbage found d).1
taken_small None d = tt
taken_small (Some version) d = tt

reaped_small : (found : Option Pass) (d : Directory) → TellsSmall (reap found d).1
reaped_small None d = tt
reaped_small (Some pass) d = by pass.reaped
  where
    by : (reaped : Option ℕ) → TellsSmall (reap_pass pass reaped d).1
    by None = tt
    by (Some point) = tt

others_small : (who : Actor) (a : Act) (places : Places) → IsOperatorAct a → TellsSmall (at_places false who 0 a places).1
others_small who (Act.AtDirectory DirectoryStep.NextGarbage) places is = taken_small (first_garbage places.directory) places.directory
others_small who (Act.AtDirectory (DirectoryStep.Swept version)) places is = tt
others_small who (Act.AtDirectory (DirectoryStep.Reap target)) places is = reaped_small (pass_of target places.directory) places.directory
others_small who (Act.AtDirectory step) places is = absurd is
others_small who (Act.AtServer n step) places is = quiet_small _ (server_quiet false n step places (slice_get places.servers n))
others_small who (Act.Finish outcome) places is = absurd is

-- ---- new points
abbrev point_count : Places → ℕ
point_count places = length places.directory.points

abbrev pub Known : ℕ → Told → Type 0
Known count answer = IfSome (new_point answer) (λ p. p < count)

known_longer : (few more : ℕ) → few ≤ more → (answer : Told) → Known few answer → Known more answer
known_longer few more low answer h = by (new_point answer) h
  where
    by : (o : Option ℕ) → IfSome o (λ p. p < few) → IfSome o (λ p. p < more)
    by None k = tt
    by (Some p) k = omega (arith, k, low)

step_known : (short : Bool) (who : Actor) (number : ℕ) (a : Act) (places : Places)
    → Known (point_count (at_places short who number a places).0)
    (at_places short who number a places).1 × (point_count places ≤ point_count (at_places short who number a places).0)
step_known short who number (Act.AtDirectory step) places =
    by (new_point (at_directory short who number step places.directory).1) (at_directory short who number step places.directory).0.points
    (directory_keeps_places short who number step places.directory).points
  where
    by : (o : Option ℕ) (after : List Point)
        → MatchOption o (after ≡ places.directory.points)
        (λ place. (place ≡ length places.directory.points) × (point : Point) × (after ≡ places.directory.points ++ point ∷ []))
        → IfSome o (λ p. p < length after) × (length places.directory.points ≤ length after)
    by None after same = (tt, let n : length after ≡ length places.directory.points = ap (λ (l : List Point). length l) same in omega (arith, n))
    by (Some place) after more =
        let n : length after ≡ length places.directory.points + 1 =
        ap (λ (l : List Point). length l) more.2 ∙ length_push places.directory.points more.1 in
        let is : place ≡ length places.directory.points = more.0 in
        (omega (arith, n, is), omega (arith, n))
step_known short who number (Act.AtServer server step) places =
    let same : (at_places short who number (Act.AtServer server step) places).0.directory ≡ places.directory =
    (acts_change_one_place short who number (Act.AtServer server step) places).0 in
    let n : point_count (at_places short who number (Act.AtServer server step) places).0 ≡ point_count places =
    ap (λ (d : Directory). length d.points) same in (
      quiet_point (λ p. p < point_count (at_places short who number (Act.AtServer server step) places).0) _
          (server_quiet short server step places (slice_get places.servers server)),
      omega (arith, n),
    )
step_known short who number (Act.Finish outcome) places = (tt, omega arith)

-- ---- runs
module _ (script : Script) (values : IsScript script) (valid : IsValid script) (can : CanRun script) where
  abbrev SmallSoFar : List Made → Core → Type 0
  SmallSoFar trace core = All (λ (made : Made). TellsSmall made.answer) trace

  own_small : (who : Actor) (job : Job) (calling : Calling) (places : Places) (at : AtWork script who job calling places) → IsSmall job.note
      → (shortage : Shortage) → TellsSmall (after script who job calling places at shortage.coding shortage.step).1
  own_small who job calling places at small shortage =
      act_small script.geometry (size_of script) (size script values.geometry valid) at.some job small
      (HasTry job.note.kind (tries_of script) (first script who job calling places at shortage.coding shortage.step)) shortage.step who
      (length calling.ended)
      places at.fit (sound_short places.directory at.sound) (pin_bound script.geometry (size_of script) job.note)
      (act script who job calling places at shortage.coding shortage.step)
      (proper script who job calling places at shortage.coding shortage.step)
      (answered script who job calling places at shortage.coding shortage.step).answers

  small_kept : KeptByMade script can SmallSoFar
  small_kept =
      record {
        client = λ trace core kept has i work calling job is_work is_calling is_job shortage later.
            All-push (λ (made : Made). TellsSmall made.answer) trace (call_made script shortage (actor.Client i) calling (places_in core) job) has
            (own_small (actor.Client i) job calling (places_in core) (client_at script can core kept i work calling job is_work is_calling is_job)
            (client_job_small script values i (length calling.ended) work job is_work is_job) shortage);
        repairer = λ trace core kept has i work calling job is_work is_calling is_job shortage later.
            All-push (λ (made : Made). TellsSmall made.answer) trace (call_made script shortage (actor.Repairer i) calling (places_in core) job) has
            (own_small (actor.Repairer i) job calling (places_in core) (repairer_at script can core kept i work calling job is_work is_calling is_job)
            (repairer_job_small script values i (length calling.ended) work job is_work is_job) shortage);
        sweeper = λ trace core kept has.
            All-push (λ (made : Made). TellsSmall made.answer) trace
            (act_made actor.Sweeper (next_sweep (chunk_count script.geometry) core.sweeper) (places_in core)) has
            (others_small actor.Sweeper (next_sweep (chunk_count script.geometry) core.sweeper) (places_in core)
            (sweeps script (chunk_count script.geometry) core.sweeper));
        operator = λ trace core kept has a is own. All-push (λ (made : Made). TellsSmall made.answer) trace
            (act_made actor.Operator a (places_in core)) has (others_small actor.Operator a (places_in core) is);
      }

  -- of every run: stripes and counts of versions that its steps were told are small
  pub answers_small : (shortages : List Shortage) (tokens : List Token)
      → All (λ (made : Made). TellsSmall made.answer) (run_trace script shortages tokens)
  answers_small shortages tokens =
      (run_traced script can SmallSoFar small_kept shortages (All-nil (λ (made : Made). TellsSmall made.answer)) tokens).1

  abbrev KnownSoFar : List Made → Core → Type 0
  KnownSoFar trace core = All (λ (made : Made). Known (length core.directory.points) made.answer) trace

  grows : (trace : List Made) (core : Core) (made : Made) (count : ℕ) → KnownSoFar trace core
      → Known count made.answer × (length core.directory.points ≤ count) → All (λ (m : Made). Known count m.answer) (trace ++ made ∷ [])
  grows trace core made count has step =
      All-push (λ (m : Made). Known count m.answer) trace made
      (All-weaker (λ (m : Made). Known (length core.directory.points) m.answer) (λ (m : Made). Known count m.answer)
      (λ m h. known_longer (length core.directory.points) count step.1 m.answer h) trace has) step.0

  known_kept : KeptByMade script can KnownSoFar
  known_kept =
      record {
        client = λ trace core kept has i work calling job is_work is_calling is_job shortage later.
            grows trace core (call_made script shortage (actor.Client i) calling (places_in core) job)
            (length (client_after i core (actor_step script.geometry (tries_of script) shortage (actor.Client i) job calling
            (places_in core))).directory.points) has (step_known shortage.step (actor.Client i) (length calling.ended) _ (places_in core));
        repairer = λ trace core kept has i work calling job is_work is_calling is_job shortage later.
            grows trace core (call_made script shortage (actor.Repairer i) calling (places_in core) job)
            (length (repairer_after i core (actor_step script.geometry (tries_of script) shortage (actor.Repairer i) job calling
            (places_in core))).directory.points) has (step_known shortage.step (actor.Repairer i) (length calling.ended) _ (places_in core));
        sweeper = λ trace core kept has.
            grows trace core (act_made actor.Sweeper (next_sweep (chunk_count script.geometry) core.sweeper) (places_in core))
            (length (sweeper_after script core).directory.points) has
            (step_known false actor.Sweeper 0 (next_sweep (chunk_count script.geometry) core.sweeper) (places_in core));
        operator = λ trace core kept has a is own.
            grows trace core (act_made actor.Operator a (places_in core)) (length (operator_after a core).directory.points) has
            (step_known false actor.Operator 0 a (places_in core));
      }

  -- and each new point that a step was told stands in the directory in the end
  pub points_known : (shortages : List Shortage) (tokens : List Token)
      → All (λ (made : Made). Known (length (run_core script shortages tokens).directory.points) made.answer) (run_trace script shortages tokens)
  points_known shortages tokens =
      (run_traced script can KnownSoFar known_kept shortages
      (All-nil (λ (made : Made). Known (length (first_core script).directory.points) made.answer)) tokens).1

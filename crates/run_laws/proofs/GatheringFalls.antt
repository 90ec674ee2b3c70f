-- The steps that a call that gathers has left fall at each of its steps.
use Rattle.std.proofs.Common.{◌≡◌, ℕ, suc, ◌+◌, ◌-◌, ◌*◌, ◌<◌, ◌≤◌, List, [], ◌∷◌, ◌++◌, length, refl, sym, ap, subst, arith, length-append, mul-suc, mul-le-mul_left}
use Rattle.std.proofs.lemmas.List.{length-map}
use Rattle.clay_grid.specs.Shape.{Shape, chunk_count}
use Rattle.store_core.specs.Told.{Told, Seen}
use Rattle.store_core.specs.Note.{Note, Kind}
use Rattle.store_core.specs.Act.{Act, DirectoryStep, ServerStep, Outcome}
use Rattle.store_core.specs.Gathering.{Gathering, Part}
use Rattle.store_core.specs.GatheringParts.{gather_part, ending, act_of, gathering}
use Rattle.store_core.specs.Read.{next_read, part_of, parts_of, read_start, read_end}
use Rattle.store_core.specs.NextAct.{Job}
use Rattle.store_core.specs.Tell.{in_one, cut_parts, cut_read}
use Rattle.run_laws.specs.AskLaws.{IsAsking}
use Rattle.run_laws.specs.StepsLeft.{ending_left}
use Rattle.run_laws.specs.GatheringLeft.{result_left, gathering_left, read_left}
use Rattle.run_laws.specs.Answers.{DirectoryAnswers, ServerAnswers, Answers}
use Rattle.run_laws.proofs.Asks.{part_asks}
use Rattle.run_laws.proofs.Grows.{JustEnded, Grows, part_start, part_grows}
use Rattle.run_laws.proofs.Falls.{FallsBy, IsKept, AtCommit, ending_falls, ending_no_commit, done_at_commit, changed_at_commit}

-- no act is answered that a gathering has its bytes
abbrev pub IsPlain : Told → Type 0
IsPlain Told.Gathered = ⊥
IsPlain _ = Unit {0}

module _ (pins touched : ℕ) where
  directory_plain : (step : DirectoryStep) → DirectoryAnswers pins touched step Told.Gathered → ⊥
  directory_plain DirectoryStep.Draw h = absurd h
  directory_plain step h = absurd h

  server_plain : (step : ServerStep) → ServerAnswers step Told.Gathered → ⊥
  server_plain ServerStep.Wipe h = absurd h
  server_plain step h = absurd h

  act_plain : (act : Act) → Answers pins touched act Told.Gathered → ⊥
  act_plain (Act.AtDirectory step) h = directory_plain step h
  act_plain (Act.AtServer server step) h = server_plain step h
  act_plain (Act.Finish outcome) h = h

  pub is_plain : (act : Act) (answer : Told) → Answers pins touched act answer → IsPlain answer
  is_plain act Told.Gathered h = act_plain act h
  is_plain act answer h = tt

  -- ---- one gathering: at most so many answers, and so many steps after it
  module _ (most after : ℕ) (since : List Told → ℕ) (some : 1 ≤ after) (start : since [] ≤ after) where
    just_ended : (count : ℕ) (later : Gathering) → JustEnded later → count < most → result_left most (count + 1) after since later < most - count + after
    just_ended count (Gathering.Asks server step) h below = omega (arith, below)
    just_ended count (Gathering.HasBytes rest) h below = subst (λ l. since l < most - count + after) (sym h) (omega (arith, below, start))
    just_ended count (Gathering.TooMany missing rest) h below = subst (λ l. ending_left l < most - count + after) (sym h) (omega (arith, below, some))
    just_ended count (Gathering.AtTarget rest) h below = subst (λ l. ending_left l < most - count + after) (sym h) (omega (arith, below, some))
    just_ended count (Gathering.TargetAway downs rest) h below = subst (λ l. ending_left l < most - count + after) (sym h) (omega (arith, below, some))
    just_ended count (Gathering.Short rest) h below = subst (λ l. ending_left l < most - count + after) (sym h) (omega (arith, below, some))

    pub result_falls : (stripe : ℕ) (next : List Told → Act)
        → ((told : List Told) (answer : Told) → Answers pins touched (next told) answer → IsKept answer → since (told ++ answer ∷ []) < since told)
        → (told : List Told) (answer : Told) (now later : Gathering) → Grows answer now later → (IsAsking now → length told < most)
        → Answers pins touched (act_of stripe next now) answer → IsKept answer
        → result_left most (length (told ++ answer ∷ [])) after since later < result_left most (length told) after since now
    result_falls stripe next falls told answer (Gathering.Asks server step) later grows few h kept =
        subst (λ n. result_left most n after since later < most - length told + after) (sym (length-append told (answer ∷ [])))
        (just_ended (length told) later grows (few tt))
    result_falls stripe next falls told answer (Gathering.HasBytes rest) later grows few h kept =
        subst (λ r. result_left most (length (told ++ answer ∷ [])) after since r < since rest) (sym grows) (falls rest answer h kept)
    result_falls stripe next falls told answer (Gathering.TooMany missing rest) later grows few h kept =
        subst (λ r. result_left most (length (told ++ answer ∷ [])) after since r < ending_left rest) (sym grows)
        (ending_falls pins touched (Outcome.Unavailable stripe missing) rest answer h)
    result_falls stripe next falls told answer (Gathering.AtTarget rest) later grows few h kept =
        subst (λ r. result_left most (length (told ++ answer ∷ [])) after since r < ending_left rest) (sym grows) (ending_falls pins touched Outcome.Here rest answer h)
    result_falls stripe next falls told answer (Gathering.TargetAway downs rest) later grows few h kept =
        subst (λ r. result_left most (length (told ++ answer ∷ [])) after since r < ending_left rest) (sym grows) (ending_falls pins touched (Outcome.Away downs) rest answer h)
    result_falls stripe next falls told answer (Gathering.Short rest) later grows few h kept =
        subst (λ r. result_left most (length (told ++ answer ∷ [])) after since r < ending_left rest) (sym grows) (ending_falls pins touched Outcome.NoMemory rest answer h)

-- ---- several parts
module _ (g : Shape) (left : List Told → ℕ) (some : 1 ≤ left []) where
  abbrev after_part : List Part → ℕ
  after_part parts = 3 * chunk_count g * length parts + left []

  started : (part : Part) (parts : List Part) → gathering_left g parts left [] ≤ after_part parts → (result : Gathering) → JustEnded result
      → result_left (3 * chunk_count g) 0 (after_part parts) (gathering_left g parts left) result ≤ 3 * chunk_count g + after_part parts
  started part parts rest (Gathering.Asks server step) h = omega arith
  started part parts rest (Gathering.HasBytes told) h = subst (λ l. gathering_left g parts left l ≤ 3 * chunk_count g + after_part parts) (sym h) (omega (arith, rest))
  started part parts rest (Gathering.TooMany missing told) h = subst (λ l. ending_left l ≤ 3 * chunk_count g + after_part parts) (sym h) (omega (arith, some))
  started part parts rest (Gathering.AtTarget told) h = subst (λ l. ending_left l ≤ 3 * chunk_count g + after_part parts) (sym h) (omega (arith, some))
  started part parts rest (Gathering.TargetAway downs told) h = subst (λ l. ending_left l ≤ 3 * chunk_count g + after_part parts) (sym h) (omega (arith, some))
  started part parts rest (Gathering.Short told) h = subst (λ l. ending_left l ≤ 3 * chunk_count g + after_part parts) (sym h) (omega (arith, some))

  pub gathering_start : (parts : List Part) → gathering_left g parts left [] ≤ after_part parts
  gathering_start [] = omega arith
  gathering_start (part ∷ parts) =
      let one : result_left (3 * chunk_count g) 0 (after_part parts) (gathering_left g parts left) (gather_part g part []) ≤ 3 * chunk_count g + after_part parts =
      started part parts (gathering_start parts) (gather_part g part []) (part_start g part) in
      let more : 3 * chunk_count g * suc (length parts) ≡ 3 * chunk_count g * length parts + 3 * chunk_count g = mul-suc (3 * chunk_count g) (length parts) in
      let whole : ℕ = 3 * chunk_count g * length parts in
      omega (arith, one, more)

  abbrev now_left : Part → List Part → List Told → ℕ
  now_left part parts told = result_left (3 * chunk_count g) (length told) (after_part parts) (gathering_left g parts left) (gather_part g part told)

  first_answer : (part : Part) (parts : List Part) (answer : Told) → IsPlain answer → gathering_left g (part ∷ parts) left (answer ∷ []) ≡ now_left part parts (answer ∷ [])
  first_answer part parts Told.Gathered plain = absurd plain
  first_answer part parts answer plain = refl

  module _ (pins touched : ℕ) (next : List Told → Act)
      (falls : (told : List Told) (answer : Told) → Answers pins touched (next told) answer → IsKept answer → left (told ++ answer ∷ []) < left told) where
    pub gathering_falls : (parts : List Part) (told : List Told) (answer : Told) → Answers pins touched (gathering g parts next told) answer → IsKept answer
        → gathering_left g parts left (told ++ answer ∷ []) < gathering_left g parts left told
    gathering_falls [] told answer h kept = falls told answer h kept
    gathering_falls (part ∷ parts) (Told.Gathered ∷ told) answer h kept = gathering_falls parts told answer h kept
    gathering_falls (part ∷ parts) [] answer h kept =
        subst (λ n. n < now_left part parts []) (sym (first_answer part parts answer (is_plain pins touched (gathering g (part ∷ parts) next []) answer h)))
        (result_falls pins touched (3 * chunk_count g) (after_part parts) (gathering_left g parts left) (omega (arith, some)) (gathering_start parts)
        part.seen.stripe (gathering g parts next) (λ told answer h kept. gathering_falls parts told answer h kept) [] answer
        (gather_part g part []) (gather_part g part (answer ∷ [])) (part_grows g part [] answer) (part_asks g part []) h kept)
    gathering_falls (part ∷ parts) told answer h kept =
        result_falls pins touched (3 * chunk_count g) (after_part parts) (gathering_left g parts left) (omega (arith, some)) (gathering_start parts)
        part.seen.stripe (gathering g parts next) (λ told answer h kept. gathering_falls parts told answer h kept) told answer
        (gather_part g part told) (gather_part g part (told ++ answer ∷ [])) (part_grows g part told answer) (part_asks g part told) h kept

  -- a cut leaves as many steps
  one_left : (part : Part) (parts : List Part) → ((told : List Told) → gathering_left g parts left (cut_parts g parts told) ≡ gathering_left g parts left told)
      → (told : List Told) (result : Gathering)
      → gathering_left g (part ∷ parts) left told ≡ result_left (3 * chunk_count g) (length told) (after_part parts) (gathering_left g parts left) result
      → gathering_left g (part ∷ parts) left (in_one (cut_parts g parts) result told)
      ≡ result_left (3 * chunk_count g) (length told) (after_part parts) (gathering_left g parts left) result
  one_left part parts rest told (Gathering.Asks server step) e = e
  one_left part parts rest told (Gathering.HasBytes later) e = rest later
  one_left part parts rest told (Gathering.TooMany missing later) e = e
  one_left part parts rest told (Gathering.AtTarget later) e = e
  one_left part parts rest told (Gathering.TargetAway downs later) e = e
  one_left part parts rest told (Gathering.Short later) e = e

  pub cut_left : (parts : List Part) (told : List Told) → gathering_left g parts left (cut_parts g parts told) ≡ gathering_left g parts left told
  cut_left [] told = refl
  cut_left (part ∷ parts) (Told.Gathered ∷ told) = cut_left parts told
  cut_left (part ∷ parts) told = one_left part parts (cut_left parts) told (gather_part g part told) refl

-- ---- a get or a read
module _ (g : Shape) (pins touched : ℕ) where
  read_falls : (note : Note) (told : List Told) (answer : Told) → Answers pins touched (next_read g note told) answer → IsKept answer
      → read_left g pins note (told ++ answer ∷ []) < read_left g pins note told
  read_falls note [] (Told.Pinned point length_now stripes) h kept =
      let parts : List Part = parts_of g note length_now stripes in
      let begun : gathering_left g parts ending_left [] ≤ 3 * chunk_count g * length parts + 1 = gathering_start g ending_left (omega arith) parts in
      let as_many : length parts ≡ length stripes = length-map stripes (part_of g (read_start note) (read_end note length_now)) in
      let fewer : 3 * chunk_count g * length stripes ≤ 3 * chunk_count g * pins = mul-le-mul_left (3 * chunk_count g) h in
      let same : 3 * chunk_count g * length parts ≡ 3 * chunk_count g * length stripes = ap (λ n. 3 * chunk_count g * n) as_many in
      let a : ℕ = 3 * chunk_count g * length parts in
      let b : ℕ = 3 * chunk_count g * length stripes in
      let c : ℕ = 3 * chunk_count g * pins in
      omega (arith, begun, fewer, same)
  read_falls note [] answer h kept = let c : ℕ = 3 * chunk_count g * pins in omega arith
  read_falls note (Told.Answer point reply ∷ told) answer h kept = absurd h
  read_falls note (Told.Pinned point length_now stripes ∷ told) answer h kept =
      gathering_falls g ending_left (omega arith) pins touched (ending (Outcome.Served point)) (λ told answer h kept. ending_falls pins touched (Outcome.Served point) told answer h)
      (parts_of g note length_now stripes) told answer h kept
  read_falls note (_ ∷ told) answer h kept = absurd h

  pub read_cut_left : (note : Note) (told : List Told) → read_left g pins note (cut_read g note told) ≡ read_left g pins note told
  read_cut_left note (Told.Pinned point length_now stripes ∷ told) = cut_left g ending_left (omega arith) (parts_of g note length_now stripes) told
  read_cut_left note told = refl

-- after its look it has as many steps left as its pinned stripes want
pub pinned_left : (g : Shape) (pins touched : ℕ) (note : Note) (point length_now : ℕ) (stripes : List Seen)
    → read_left g pins note (cut_read g note (Told.Pinned point length_now stripes ∷ [])) ≤ 3 * chunk_count g * length stripes + 1
pinned_left g pins touched note point length_now stripes =
    let parts : List Part = parts_of g note length_now stripes in
    let begun : gathering_left g parts ending_left [] ≤ 3 * chunk_count g * length parts + 1 = gathering_start g ending_left (omega arith) parts in
    let as_many : length parts ≡ length stripes = length-map stripes (part_of g (read_start note) (read_end note length_now)) in
    let same : 3 * chunk_count g * length parts ≡ 3 * chunk_count g * length stripes = ap (λ n. 3 * chunk_count g * n) as_many in
    let a : ℕ = 3 * chunk_count g * length parts in
    let b : ℕ = 3 * chunk_count g * length stripes in
    let low : gathering_left g parts ending_left [] ≤ b + 1 = omega (arith, begun, same) in
    subst (λ n. n ≤ 3 * chunk_count g * length stripes + 1) (sym (read_cut_left g pins touched note (Told.Pinned point length_now stripes ∷ []))) low

pub act_no_commit : (stripe : ℕ) (next : List Told → Act) → ((told : List Told) → AtCommit (next told) → ⊥) → (result : Gathering) → AtCommit (act_of stripe next result) → ⊥
act_no_commit stripe next never (Gathering.Asks server step) h = h
act_no_commit stripe next never (Gathering.HasBytes rest) h = never rest h
act_no_commit stripe next never (Gathering.TooMany missing rest) h = ending_no_commit (Outcome.Unavailable stripe missing) rest h
act_no_commit stripe next never (Gathering.AtTarget rest) h = ending_no_commit Outcome.Here rest h
act_no_commit stripe next never (Gathering.TargetAway downs rest) h = ending_no_commit (Outcome.Away downs) rest h
act_no_commit stripe next never (Gathering.Short rest) h = ending_no_commit Outcome.NoMemory rest h

gathering_no_commit : (g : Shape) (parts : List Part) (next : List Told → Act) → ((told : List Told) → AtCommit (next told) → ⊥) → (told : List Told) → AtCommit (gathering g parts next told) → ⊥
gathering_no_commit g [] next never told h = never told h
gathering_no_commit g (part ∷ parts) next never (Told.Gathered ∷ told) h = gathering_no_commit g parts next never told h
gathering_no_commit g (part ∷ parts) next never told h =
    act_no_commit part.seen.stripe (gathering g parts next) (gathering_no_commit g parts next never) (gather_part g part told) h

pub read_no_commit : (g : Shape) (note : Note) (told : List Told) → AtCommit (next_read g note told) → ⊥
read_no_commit g note [] h = h
read_no_commit g note (Told.Answer point reply ∷ told) h = h
read_no_commit g note (Told.Pinned point length_now stripes ∷ told) h =
    gathering_no_commit g (parts_of g note length_now stripes) (ending (Outcome.Served point)) (ending_no_commit (Outcome.Served point)) told h
read_no_commit g note (_ ∷ told) h = h

pub get_all : (g : Shape) (pins touched tries : ℕ) (job : Job) → FallsBy Kind.Get (read_left g pins job.note) pins touched g tries job
get_all g pins touched tries job told (Told.Done point) h =
    absurd (read_no_commit g job.note told (done_at_commit pins touched point (next_read g job.note told) h))
get_all g pins touched tries job told (Told.Changed base newer) h =
    absurd (read_no_commit g job.note told (changed_at_commit pins touched base newer (next_read g job.note told) h))
get_all g pins touched tries job told answer h =
    subst (λ n. n < read_left g pins job.note told) (sym (read_cut_left g pins touched job.note (told ++ answer ∷ []))) (read_falls g pins touched job.note told answer h tt)

pub read_all : (g : Shape) (pins touched tries : ℕ) (job : Job) → FallsBy Kind.ReadAt (read_left g pins job.note) pins touched g tries job
read_all g pins touched tries job told (Told.Done point) h =
    absurd (read_no_commit g job.note told (done_at_commit pins touched point (next_read g job.note told) h))
read_all g pins touched tries job told (Told.Changed base newer) h =
    absurd (read_no_commit g job.note told (changed_at_commit pins touched base newer (next_read g job.note told) h))
read_all g pins touched tries job told answer h =
    subst (λ n. n < read_left g pins job.note told) (sym (read_cut_left g pins touched job.note (told ++ answer ∷ []))) (read_falls g pins touched job.note told answer h tt)

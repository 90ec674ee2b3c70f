-- Causes of refusals and results of rebuilds have the form of a transcript's: what they name are numbers below 2^64, and they name some.
use Rattle.std.proofs.Common.{◌≡◌, ◌≢◌, ℕ, ◌+◌, ◌/◌, ◌<◌, ◌≤◌, ◌^◌, Bool, true, false, nat_eq, ◌&&◌, List, [], ◌∷◌, ◌++◌, length, get_or, Option, None, Some, option_and_then, IfSome, All, inl, inr, ◌⊎◌, refl, sym, ap, subst, arith, true≢false}
use Rattle.std.proofs.lemmas.Bool.{cases_lt, or_cases, and_parts, eqb-true}
use Rattle.std.proofs.lemmas.List.{get_or_past}
use Rattle.std.proofs.lemmas.Option.{none-some, same_Some, slice_get-get_or}
use Rattle.std.proofs.lemmas.List.Elements.{All-nil, All-cons, All-head, All-tail, All-map}
use Rattle.std.proofs.Math.Nat.{div-le_self}
use Rattle.std.specs.List.{list_any}
use Rattle.clay_grid.specs.Shape.{Shape, chunk_count, stripe_length}
use Rattle.store_map.specs.Limits.{tries_of}
use Rattle.store_map.specs.declared.placement.Found.{Found}
use Rattle.store_map.specs.declared.placement.Found.TheVariants as found
use Rattle.store_map.specs.declared.placement.Placement.{Placement}
use Rattle.store_map.specs.declared.placement.Placement.TheVariants as placement
use Rattle.store_map.specs.declared.script.Script.{Script}
use Rattle.store_map.specs.declared.call_name.ClientCall.{ClientCall}
use Rattle.store_map.specs.declared.call_name.CallName.{CallName}
use Rattle.store_map.specs.declared.cause.Cause.{Cause}
use Rattle.store_map.specs.declared.cause.Cause.TheVariants as cause
use Rattle.store_map.specs.declared.cause.RepairResult.{RepairResult}
use Rattle.store_map.specs.declared.cause.RepairResult.TheVariants as result
use Rattle.store_map.specs.declared.cause.Triple.{Triple}
use Rattle.store_map.specs.declared.line.HLine.{HLine}
use Rattle.store_map.specs.declared.transcript.Transcript.{Transcript}
use Rattle.transcript_read.specs.Values.{IsLong, IsPlacement, IsFound, IsTriple}
use Rattle.transcript_read.specs.Reasons.{IsPair, IsCause, IsResult}
use Rattle.hist_rules.specs.Calls.{call_of}
use Rattle.hist_rules.specs.First.{AllAfter}
use Rattle.hist_rules.specs.FoundMissing.{IsMissing, LacksChunks}
use Rattle.hist_rules.specs.GivenUpOrLost.{IsRace, IsLoser, LostRace}
use Rattle.hist_rules.specs.LostChunks.{missing_of_cause, missing_of_result}
use Rattle.hist_rules.specs.LostRaces.{written_name}
use Rattle.hist_rules.specs.Named.{is_change_line}
use Rattle.store_core.specs.Act.{Outcome}
use Rattle.store_core.specs.Gathering.{Part}
use Rattle.store_core.specs.NextAct.{Job}
use Rattle.store_core.specs.Note.{Note, Kind}
use Rattle.store_core.specs.Outcomes.{cause_of, result_of}
use Rattle.store_core.specs.PlaceLaws.{new_point}
use Rattle.store_core.specs.Read.{part_of, read_start, read_end}
use Rattle.store_core.specs.Told.{Told, Seen, Lost}
use Rattle.store_core.specs.Write.{old_part}
use Rattle.run_laws.specs.GatherLaws.{Tells}
use Rattle.run_laws.specs.GatheredLaws.{gathers}
use Rattle.run_laws.specs.Losses.{ToldOfLoss, IsLost}
use Rattle.run_laws.specs.OutcomeLaws.{HasCauseInSteps}
use Rattle.history_laws.specs.LineCauses.{told_if, told_by, told_to, caller_of, number_of, WasCaused}
use Rattle.history_laws.specs.LossesInTime.{WereMissing, WasAway, NamesLosses, ResultNamesLosses}
use Rattle.history_laws.specs.LostChunks.{PlacesChunk, Looks, WasLost, WasSkipped}
use Rattle.history_laws.specs.Moments.{Happened, saturated, downs, IsFoundThen, IsPlacedThen}
use Rattle.history_laws.specs.PointsInTime.{ComesWithin, NamesPoints, ResultNamesPoints}
use Rattle.history_laws.specs.Trace.{Made}
use Rattle.store_core.specs.Lookups.{same_actor}
use Rattle.store_map.specs.declared.actor.Actor.{Actor}
use Rattle.line_grammar.specs.Values.{IsScript}
use Rattle.clay_cli.proofs.Answers.{IsSmallSeen, TellsSmall, Known}
use Rattle.clay_cli.proofs.ScriptValues.{IsSmall, job_small}

-- ---- what happened in a trace holds of all its steps
pub all_left : {X : Type 0} (P : X → Type 0) (xs ys : List X) → All P (xs ++ ys) → All P xs
all_left P [] ys h = All-nil P
all_left P (x ∷ xs) ys h = All-cons P x xs (All-head P x (xs ++ ys) h) (all_left P xs ys (All-tail P x (xs ++ ys) h))

pub all_right : {X : Type 0} (P : X → Type 0) (xs ys : List X) → All P (xs ++ ys) → All P ys
all_right P [] ys h = h
all_right P (x ∷ xs) ys h = all_right P xs ys (All-tail P x (xs ++ ys) h)

all_before : (P : Made → Type 0) (trace : List Made) (Is : List Made → Made → Type 0) (h : Happened trace Is) → All P trace → All P h.before
all_before P trace Is h all = all_left P h.before (h.made ∷ h.after) (subst (All P) h.split all)

it_has : (P : Made → Type 0) (trace : List Made) (Is : List Made → Made → Type 0) (h : Happened trace Is) → All P trace → P h.made
it_has P trace Is h all = All-head P h.made h.after (all_right P h.before (h.made ∷ h.after) (subst (All P) h.split all))

-- ---- counts of servers
saturated_long : (count : ℕ) → IsLong (saturated count)
saturated_long count = omega arith

found_long : (server : ℕ) (before : List Made) (f : Found) → IsFoundThen server before f → IsFound f
found_long server before (found.Absent epoch) e = subst IsLong (sym e) (saturated_long _)
found_long server before (found.Away told) e = subst IsLong (sym e) (saturated_long _)

placed_long : (server : ℕ) (before : List Made) (p : Placement) → IsPlacedThen server before p → IsPlacement p
placed_long server before (placement.At epoch) e = subst IsLong (sym e) (saturated_long _)
placed_long server before (placement.Skipped told) e = subst IsLong (sym e) (saturated_long _)

-- ---- missing chunks
module _ (n : ℕ) (few : n ≤ 24) where
  lost_form : (trace : List Made) (call : CallName) (seen : Seen) (lost : Triple) → lost.server < n → WasLost trace call seen lost → IsTriple lost
  lost_form trace call seen lost low h = (
    omega (arith, low, few),
    subst IsPlacement (sym h.1) (by (cases_lt lost.server (length seen.placed))),
    found_long lost.server h.0.before lost.found h.0.is.3,
  )
    where
      looked : Happened h.0.before (Looks call seen)
      looked = h.0.is.4

      by : (lost.server < length seen.placed) ⊎ (length seen.placed ≤ lost.server) → IsPlacement (get_or seen.placed lost.server (placement.At 0))
      by (inl less) =
          let row : Placement = get_or seen.placed lost.server (placement.At 0) in
          let placed : Happened looked.before (PlacesChunk lost.server seen.version (get_or seen.placed lost.server (placement.At 0))) =
          looked.is.2 lost.server (get_or seen.placed lost.server (placement.At 0))
          (slice_get-get_or seen.placed lost.server (placement.At 0) less) in
          placed_long lost.server placed.before (get_or seen.placed lost.server (placement.At 0)) placed.is.3
      by (inr past) = subst IsPlacement (sym (get_or_past seen.placed lost.server (placement.At 0) past)) (omega arith)

  skipped_form : (trace : List Made) (call : CallName) (version : ℕ) (lost : Triple) → lost.server < n → WasSkipped trace call version lost
      → IsTriple lost
  skipped_form trace call version lost low h =
      let told : ℕ = h.0 in
      let long : IsLong h.0 = placed_long lost.server h.3.before (placement.Skipped h.0) h.3.is.1.3 in
      (omega (arith, low, few), subst IsPlacement (sym h.1) long, subst IsFound (sym h.2) long)

  -- servers of the code
  missing_servers : (script : Script) → chunk_count script.geometry ≡ n → (before missing : List Triple) → AllAfter (IsMissing script) before missing
      → All (λ (triple : Triple). triple.server < n) missing
  missing_servers script same before [] h = All-nil (λ (triple : Triple). triple.server < n)
  missing_servers script same before (triple ∷ missing) h =
      All-cons (λ (triple : Triple). triple.server < n) triple missing
      (let low : triple.server < chunk_count script.geometry = h.0.server in omega (arith, low, same))
      (missing_servers script same (triple ∷ before) missing h.1)

  both_all : {X : Type 0} (P Q R : X → Type 0) → ((x : X) → P x → Q x → R x) → (xs : List X) → All P xs → All Q xs → All R xs
  both_all P Q R f xs p q i d less = f (get_or xs i d) (p i d less) (q i d less)

  missing_form : (trace : List Made) (call : CallName) (stripe : ℕ) (missing : List Triple) → WereMissing trace call stripe missing
      → All (λ (triple : Triple). triple.server < n) missing → All IsTriple missing
  missing_form trace call stripe missing (inl (seen, of, all)) servers =
      both_all (λ (triple : Triple). triple.server < n) (WasLost trace call seen) IsTriple
      (λ triple low lost. lost_form trace call seen triple low lost) missing servers all
  missing_form trace call stripe missing (inr (version, all)) servers =
      both_all (λ (triple : Triple). triple.server < n) (WasSkipped trace call version) IsTriple
      (λ triple low lost. skipped_form trace call version triple low lost) missing servers all

  some_missing : (script : Script) (missing : List Triple) → length missing ≡ script.geometry.parity_count + 1 → missing ≢ []
  some_missing script missing count none = let empty : length missing ≡ 0 = ap (λ (l : List Triple). length l) none in omega (arith, count, empty)

-- ---- points
module _ (trace : List Made) (count : ℕ) (low : count < 2 ^ 64) (known : All (λ (made : Made). Known count made.answer) trace) where
  at_point : (answer : Told) (point : ℕ) → new_point answer ≡ Some point → Known count answer → IsLong point
  at_point answer point e h = let less : point < count = subst (λ (o : Option ℕ). IfSome o (λ p. p < count)) e h in omega (arith, less, low)

  within_long : (call : CallName) (By : Made → Type 0) (point : ℕ) → ComesWithin trace call By point → IsLong point
  within_long call By point h =
      let early : All (λ (made : Made). Known count made.answer) h.before = all_before (λ (made : Made). Known count made.answer) trace _ h known in
      at_point h.is.1.made.answer point h.is.1.is.0 (it_has (λ (made : Made). Known count made.answer) h.before _ h.is.1 early)

-- ---- changes of an object
either : (a b : Bool) (P : Type 0) → (a ≡ true) ⊎ (b ≡ true) → (a ≡ true → P) → (b ≡ true → P) → P
either a b P (inl x) f g = f x
either a b P (inr y) f g = g y

any_point : (test : HLine → Bool) (point : ℕ) (lines : List HLine) → All (λ (line : HLine). IsLong line.point) lines
    → list_any (λ line. nat_eq line.point point && test line) lines ≡ true → IsLong point
any_point test point [] h e = absurd (true≢false (sym e))
any_point test point (line ∷ lines) h e =
    either (nat_eq line.point point && test line) (list_any (λ l. nat_eq l.point point && test l) lines) (IsLong point)
    (or_cases (nat_eq line.point point && test line) (list_any (λ l. nat_eq l.point point && test l) lines) e)
    (λ here. subst IsLong (eqb-true line.point point (and_parts (nat_eq line.point point) (test line) here).0)
    (All-head (λ (l : HLine). IsLong l.point) line lines h))
    (any_point test point lines (All-tail (λ (l : HLine). IsLong l.point) line lines h))

module _ (script : Script) (t : Transcript) (points : All (λ (line : HLine). IsLong line.point) t.history) where
  pairs_form : (name : List ℕ) (before pairs : List (ℕ × ℕ)) → AllAfter (IsRace script t name) before pairs → All IsPair pairs
  pairs_form name before [] h = All-nil IsPair
  pairs_form name before (pair ∷ pairs) h =
      All-cons IsPair pair pairs (
        any_point (is_change_line script name) pair.0 t.history points h.0.looked_at,
        any_point
            (is_change_line script name) pair.1 t.history points h.0.newer,
      ) (pairs_form name (pair ∷ before) pairs h.1)

  contended_form : (pairs : List (ℕ × ℕ)) → 1 ≤ tries_of script → (name : Option (List ℕ)) → IsLoser script t pairs name
      → All IsPair pairs × (pairs ≢ [])
  contended_form pairs tried None h = absurd h
  contended_form pairs tried (Some name) h = (
    pairs_form name [] pairs h.races,
    λ none.
        let empty : length pairs ≡ 0 = ap (λ (l : List (ℕ × ℕ)). length l) none in
        let count : length pairs ≡ tries_of script = h.count in
        omega (arith, count, empty, tried),
  )

-- ---- stripes
abbrev stripe_in : Cause → ℕ
stripe_in (cause.Unavailable stripe missing) = stripe
stripe_in c = 0

abbrev stripe_of : RepairResult → ℕ
stripe_of (result.Unavailable stripe missing) = stripe
stripe_of r = 0

cause_stripe : (outcome : Outcome) (c : Cause) → cause_of outcome ≡ Some c
    → ((stripe : ℕ) (missing : List Lost) → outcome ≡ Outcome.Unavailable stripe missing → IsLong stripe) → IsLong (stripe_in c)
cause_stripe (Outcome.Unavailable stripe missing) c e f = subst (λ x. IsLong (stripe_in x)) (same_Some _ c e) (f stripe missing refl)
cause_stripe (Outcome.Contended pairs) c e f = subst (λ x. IsLong (stripe_in x)) (same_Some _ c e) (omega arith)
cause_stripe (Outcome.Reaped point) c e f = subst (λ x. IsLong (stripe_in x)) (same_Some _ c e) (omega arith)
cause_stripe Outcome.NoMemory c e f = subst (λ x. IsLong (stripe_in x)) (same_Some _ c e) (omega arith)
cause_stripe outcome c e f = absurd (none-some c e)

result_stripe : (outcome : Outcome) (r : RepairResult) → result_of outcome ≡ Some r
    → ((stripe : ℕ) (missing : List Lost) → outcome ≡ Outcome.Unavailable stripe missing → IsLong stripe) → IsLong (stripe_of r)
result_stripe (Outcome.Unavailable stripe missing) r e f = subst (λ x. IsLong (stripe_of x)) (same_Some _ r e) (f stripe missing refl)
result_stripe Outcome.Rebuilt r e f = subst (λ x. IsLong (stripe_of x)) (same_Some _ r e) (omega arith)
result_stripe Outcome.Here r e f = subst (λ x. IsLong (stripe_of x)) (same_Some _ r e) (omega arith)
result_stripe Outcome.NoSuch r e f = subst (λ x. IsLong (stripe_of x)) (same_Some _ r e) (omega arith)
result_stripe (Outcome.Away downs) r e f = subst (λ x. IsLong (stripe_of x)) (same_Some _ r e) (omega arith)
result_stripe (Outcome.Superseded newer) r e f = subst (λ x. IsLong (stripe_of x)) (same_Some _ r e) (omega arith)
result_stripe (Outcome.Reaped point) r e f = subst (λ x. IsLong (stripe_of x)) (same_Some _ r e) (omega arith)
result_stripe Outcome.NoMemory r e f = subst (λ x. IsLong (stripe_of x)) (same_Some _ r e) (omega arith)
result_stripe outcome r e f = absurd (none-some r e)

-- what a call was told is what steps were answered
told_by_small : (b : Bool) (answer : Told) (rest : List Told) → TellsSmall answer → All TellsSmall rest → All TellsSmall (told_by b answer ++ rest)
told_by_small true answer rest here all = All-cons TellsSmall Told.Short (answer ∷ rest) tt (All-cons TellsSmall answer rest here all)
told_by_small false answer rest here all = All-cons TellsSmall answer rest here all

told_if_small : (b : Bool) (made : Made) (rest : List Told) → TellsSmall made.answer → All TellsSmall rest → All TellsSmall (told_if b made rest)
told_if_small true made rest here all = told_by_small made.short made.answer rest here all
told_if_small false made rest here all = all

told_small : (who : Actor) (number : ℕ) (trace : List Made) → All (λ (made : Made). TellsSmall made.answer) trace
    → All TellsSmall (told_to who number trace)
told_small who number [] h = All-nil TellsSmall
told_small who number (made ∷ trace) h =
    told_if_small (same_actor who made.who && nat_eq number made.number) made (told_to who number trace)
    (All-head (λ (m : Made). TellsSmall m.answer) made trace h)
    (told_small who number trace (All-tail (λ (m : Made). TellsSmall m.answer) made trace h))

tells_small : (looked : Told) (told : List Told) → Tells (λ answer. answer ≡ looked) told → All TellsSmall told → TellsSmall looked
tells_small looked [] h all = absurd h
tells_small looked (answer ∷ told) (inl e) all = subst TellsSmall e (All-head TellsSmall answer told all)
tells_small looked (answer ∷ told) (inr h) all = tells_small looked told h (All-tail TellsSmall answer told all)

abbrev OfSmall : Part → Type 0
OfSmall part = IsSmallSeen part.seen

gathers_small : (kind : Kind) (g : Shape) (note : Note) (looked : Told) → TellsSmall looked → All OfSmall (gathers kind g note looked)
gathers_small Kind.Get g note (Told.Pinned point length_now stripes) h =
    All-map OfSmall (part_of g (read_start note) (read_end note length_now)) stripes h
gathers_small Kind.ReadAt g note (Told.Pinned point length_now stripes) h =
    All-map OfSmall (part_of g (read_start note) (read_end note length_now)) stripes h
gathers_small Kind.Write g note (Told.Ready base length_now stripes) h = All-map OfSmall (old_part g length_now) stripes h
gathers_small kind g note looked h = All-nil OfSmall

module _ (g : Shape) (job : Job) (small : IsSmall job.note) (stripe : ℕ) (missing : List Lost) (told : List Told) where
  part_lost : (looked : Told) → TellsSmall looked → (before after : List Part) (part : Part)
      → gathers job.note.kind g job.note looked ≡ before ++ part ∷ after → part.seen.stripe ≡ stripe → IsLong stripe
  part_lost looked h before after part split of =
      subst IsLong of
      (All-head OfSmall part after (all_right OfSmall before (part ∷ after)
      (subst (All OfSmall) split (gathers_small job.note.kind g job.note looked h))))

  lost_stripe : (looked : Told) → TellsSmall looked → IsLost g job looked stripe missing told → IsLong stripe
  lost_stripe (Told.PinnedStripe seen) h lost = subst IsLong lost.of_stripe h
  lost_stripe (Told.Versions versions) h lost =
      let first : job.note.offset / stripe_length g ≤ job.note.offset = div-le_self job.note.offset (stripe_length g) in
      let offset : job.note.offset < 2 ^ 32 = small.offset in
      let is : stripe ≡ job.note.offset / stripe_length g + length lost.placed = lost.of_stripe in
      let few : length lost.placed < length versions = lost.drawn in
      omega (arith, first, offset, is, few, h)
  lost_stripe looked h lost = part_lost looked h lost.before lost.after lost.part lost.is_gathered lost.of_stripe

-- ---- of one call
module _ (script : Script) (values : IsScript script) (trace : List Made) (answers : All (λ (made : Made). TellsSmall made.answer) trace) (call : CallName) where
  told_stripe : (job : Job) → IsSmall job.note → (stripe : ℕ) (missing : List Lost)
      → ToldOfLoss script.geometry job stripe missing (told_to (caller_of call) (number_of call) trace) → IsLong stripe
  told_stripe job small stripe missing told =
      let all : All TellsSmall (told.front ++ (told.told ++ told.since)) =
      subst (All TellsSmall) told.answers_are (told_small (caller_of call) (number_of call) trace answers) in
      lost_stripe script.geometry job small stripe missing told.told told.looked
      (tells_small told.looked told.front told.look (all_left TellsSmall told.front (told.told ++ told.since) all)) told.lost

  pub refused_stripe : (c : Cause) → WasCaused script trace call (λ outcome. cause_of outcome ≡ Some c) → IsLong (stripe_in c)
  refused_stripe c h =
      cause_stripe h.outcome c h.shows
      (λ stripe missing is.
      let so : HasCauseInSteps script.geometry (tries_of script) h.job (Outcome.Unavailable stripe missing)
      (told_to (caller_of call) (number_of call) trace) =
      subst (λ o. HasCauseInSteps script.geometry (tries_of script) h.job o (told_to (caller_of call) (number_of call) trace)) is h.caused in
      told_stripe h.job (job_small script values call h.job h.is_call) stripe missing so.1)

  pub repair_stripe : (r : RepairResult) → WasCaused script trace call (λ outcome. result_of outcome ≡ Some r) → IsLong (stripe_of r)
  repair_stripe r h =
      result_stripe h.outcome r h.shows
      (λ stripe missing is.
      let so : HasCauseInSteps script.geometry (tries_of script) h.job (Outcome.Unavailable stripe missing)
      (told_to (caller_of call) (number_of call) trace) =
      subst (λ o. HasCauseInSteps script.geometry (tries_of script) h.job o (told_to (caller_of call) (number_of call) trace)) is h.caused in
      told_stripe h.job (job_small script values call h.job h.is_call) stripe missing so.1)

  -- ---- causes and results
  module _ (few : chunk_count script.geometry ≤ 24) (tried : 1 ≤ tries_of script) (t : Transcript)
      (points : All (λ (line : HLine). IsLong line.point) t.history) (count : ℕ) (low : count < 2 ^ 64)
      (known : All (λ (made : Made). Known count made.answer) trace) where
    lost_list : (stripe : ℕ) (missing : List Triple) → IsLong stripe → LacksChunks script call missing → WereMissing trace call stripe missing
        → IsLong stripe × All IsTriple missing × (missing ≢ [])
    lost_list stripe missing long lacks were = (
      long,
      missing_form (chunk_count script.geometry) few trace call stripe missing were
          (missing_servers (chunk_count script.geometry) few script refl [] missing lacks.servers),
      some_missing (chunk_count script.geometry) few script missing lacks.count,
    )

    abbrev Lacks : CallName × List Triple → Type 0
    Lacks entry = LacksChunks script entry.0 entry.1

    -- the race is the one of a client's call
    pub cause_form : (racer : ClientCall) (c : Cause) → WasCaused script trace call (λ outcome. cause_of outcome ≡ Some c) → NamesLosses trace call c
        → NamesPoints trace call c → LostRace script t racer c → All Lacks (missing_of_cause call c) → IsCause c
    cause_form racer (cause.Unavailable stripe missing) caused losses named race lacks =
        lost_list stripe missing (refused_stripe (cause.Unavailable stripe missing) caused) (All-head Lacks (call, missing) [] lacks) losses
    cause_form racer (cause.Contended pairs) caused losses named race lacks =
        contended_form script t points pairs tried (option_and_then written_name (call_of script racer)) race
    cause_form racer (cause.Reaped at) caused losses named race lacks = within_long trace count low known call _ at named
    cause_form racer cause.NoMemory caused losses named race lacks = tt

    away_long : (told : ℕ) → WasAway trace call told → IsLong told
    away_long told h = subst IsLong (sym h.is.1.3) (saturated_long _)

    pub result_form : (r : RepairResult) → WasCaused script trace call (λ outcome. result_of outcome ≡ Some r) → ResultNamesLosses trace call r
        → ResultNamesPoints trace call r → All Lacks (missing_of_result call r) → IsResult r
    result_form (result.Unavailable stripe missing) caused losses named lacks =
        lost_list stripe missing (repair_stripe (result.Unavailable stripe missing) caused) (All-head Lacks (call, missing) [] lacks) losses
    result_form (result.Away told) caused losses named lacks = away_long told losses
    result_form (result.Superseded newer) caused losses named lacks = within_long trace count low known call _ newer named
    result_form (result.Reaped at) caused losses named lacks = within_long trace count low known call _ at named
    result_form result.Rebuilt caused losses named lacks = tt
    result_form result.Here caused losses named lacks = tt
    result_form result.NoSuch caused losses named lacks = tt
    result_form result.NoMemory caused losses named lacks = tt

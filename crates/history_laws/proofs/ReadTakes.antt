-- What a get or a read took that was told of no missing chunk.
use Rattle.std.proofs.Common.{◌≡◌, ◌⊎◌, ℕ, ◌+◌, ◌-◌, ◌^◌, ◌<◌, min, Bool, true, false, cond, List, [], ◌∷◌, ◌++◌, length, filter, fold, replicate, sum_by, get_or, All, Contains, inl, inr, refl, sym, ap, subst, ◌∙◌, arith}
use Rattle.std.proofs.lemmas.List.Sums.{sum_by-cons}
use Rattle.std.proofs.lemmas.List.Elements.{All-head, All-tail, All-contains_itself}
use Rattle.std.proofs.lemmas.List.{length-replicate}
use Rattle.clay_grid.specs.Shape.{Shape, chunk_count}
use Rattle.store_map.specs.Limits.{size_of, tries_of}
use Rattle.store_core.specs.Act.{Act, DirectoryStep, ServerStep, Outcome}
use Rattle.store_core.specs.Bounds.{touched_count}
use Rattle.store_core.specs.Gathering.{Gathering, Part}
use Rattle.store_core.specs.GatheringParts.{chunks_in_range, layers_for, fetching_data, gather_part, ending, act_of, gathering}
use Rattle.store_core.specs.Lists.{change_at, is_among}
use Rattle.store_core.specs.NextAct.{Job, next_by, next_act}
use Rattle.store_core.specs.Note.{Kind}
use Rattle.store_core.specs.Read.{parts_of, next_read}
use Rattle.store_core.specs.Server.{raised_by}
use Rattle.store_core.specs.Step.{take_from}
use Rattle.store_core.specs.Tell.{is_versions, is_changed, in_one, cut_parts, cut_read, tell_by, tell}
use Rattle.store_core.specs.Told.{Told}
use Rattle.run_laws.specs.Answers.{DirectoryAnswers, ServerAnswers}
use Rattle.run_laws.specs.CallLeft.{pin_bound}
use Rattle.run_laws.specs.ToldInSteps.{IsToldNext, AreToldSince}
use Rattle.run_laws.proofs.Grows.{JustEnded, Grows, part_start, part_grows}
use Rattle.history_laws.specs.TakesOfCalls.{taken_since, taken_by, IsExact, AreExactSince, missing_count, subchunks_met}
use Rattle.history_laws.specs.LeastTakes.{TookRange, ReadsTakeLeast}
use Rattle.history_laws.proofs.Cells.{taken_from, length_taken, off_stays, on_changes, zero_cell}
use Rattle.history_laws.proofs.Rebuilds.{NotDone, took, ExactAsk, NotMissing, AsksNone, Fits, fits_plain, takes_stay, ending_none}

-- ---- the data of one part
module _ (g : Shape) (part : Part) where
  -- the subchunks with wanted bytes of a server's chunk
  abbrev pub wanted : ℕ → ℕ → ℕ
  wanted server = raised_by (length (layers_for g part.start part.end server))

  abbrev pub Fetched : List ℕ → List Told → List ℕ → List ℕ → Type 0
  Fetched [] rest before takes = takes ≡ before
  Fetched (server ∷ more) [] before takes = takes ≡ before
  Fetched (server ∷ more) (Told.Given count ∷ rest) before takes = Fetched more rest (change_at server (wanted server) before) takes
  Fetched (server ∷ more) (Told.Missing gone ∷ rest) before takes = ⊥
  Fetched (server ∷ more) (answer ∷ rest) before takes = Unit {0}

  first_fetched : (servers before takes : List ℕ) → takes ≡ before → Fetched servers [] before takes
  first_fetched [] before takes e = e
  first_fetched (server ∷ more) before takes e = e

  push_fetched : (servers : List ℕ) (rest : List Told) (before takes : List ℕ) (answer : Told) → NotDone (fetching_data g part servers [] rest) → Fetched servers rest before takes → NotMissing answer
      → ExactAsk (fetching_data g part servers [] rest) answer → Fetched servers (rest ++ answer ∷ []) before (took (fetching_data g part servers [] rest) answer takes)
  push_fetched [] rest before takes answer going h some exact = absurd going
  push_fetched (server ∷ more) [] before takes (Told.Given count) going h some exact =
      first_fetched more (change_at server (wanted server) before) (change_at server (raised_by count) takes) (ap (λ n. change_at server (raised_by n) takes) exact ∙ ap (change_at server (wanted server)) h)
  push_fetched (server ∷ more) [] before takes (Told.Missing gone) going h some exact = absurd some
  push_fetched (server ∷ more) [] before takes answer going h some exact = tt
  push_fetched (server ∷ more) (Told.Given count ∷ rest) before takes answer going h some exact = push_fetched more rest (change_at server (wanted server) before) takes answer going h some exact
  push_fetched (server ∷ more) (Told.Missing gone ∷ rest) before takes answer going h some exact = absurd h
  push_fetched (server ∷ more) (first ∷ rest) before takes answer going h some exact = tt

  done_fetched : (servers : List ℕ) (rest last : List Told) (before takes : List ℕ) → fetching_data g part servers [] rest ≡ Gathering.HasBytes last → Fetched servers rest before takes → takes ≡ taken_from wanted servers before
  done_fetched [] rest last before takes e h = h
  done_fetched (server ∷ more) [] last before takes e h = absurd (subst NotDone e tt)
  done_fetched (server ∷ more) (Told.Given count ∷ rest) last before takes e h = done_fetched more rest last (change_at server (wanted server) before) takes e h
  done_fetched (server ∷ more) (Told.Missing gone ∷ rest) last before takes e h = absurd h
  done_fetched (server ∷ more) (first ∷ rest) last before takes e h = absurd (subst NotDone e tt)

  -- what was taken once the part has its bytes
  abbrev pub after_part : List ℕ → List ℕ
  after_part before = taken_from wanted (chunks_in_range g part.start part.end) before

  pub record PartGoing (told : List Told) (before takes : List ℕ) : Type 0 where
    pub going : NotDone (gather_part g part told)
    pub so : Fetched (chunks_in_range g part.start part.end) told before takes

-- no act is answered so
never_there : (pins touched : ℕ) (step : DirectoryStep) → DirectoryAnswers pins touched step Told.Gathered → ⊥
never_there pins touched DirectoryStep.Draw fits = fits
never_there pins touched (DirectoryStep.Look note) fits = fits
never_there pins touched step fits = fits

never_at : (step : ServerStep) → ServerAnswers step Told.Gathered → ⊥
never_at (ServerStep.Has version) fits = fits
never_at step fits = fits

never_gathered : (pins touched : ℕ) (act : Act) → Fits pins touched act Told.Gathered → ⊥
never_gathered pins touched (Act.AtDirectory step) fits = never_there pins touched step fits
never_gathered pins touched (Act.AtServer server step) fits = never_at step fits
never_gathered pins touched (Act.Finish outcome) fits = fits

-- ---- part by part
module _ (g : Shape) where
  abbrev pub PartsTaken : List Part → List Told → List ℕ → List ℕ → Type 0
  PartsTaken [] told before takes = takes ≡ before
  PartsTaken (part ∷ parts) (Told.Gathered ∷ told) before takes = PartsTaken parts told (after_part g part before) takes
  PartsTaken (part ∷ parts) told before takes = PartGoing g part told before takes

  -- parts that have not begun
  new_parts : (parts : List Part) (before takes : List ℕ) → takes ≡ before → PartsTaken parts (cut_parts g parts []) before takes
  new_parts [] before takes e = e
  new_parts (part ∷ parts) before takes e = by (gather_part g part []) refl (part_start g part) (new_parts parts (after_part g part before) takes)
    where
      now : Fetched g part (chunks_in_range g part.start part.end) [] before takes
      now = first_fetched g part (chunks_in_range g part.start part.end) before takes e

      goes_on : (r : Gathering) → gather_part g part [] ≡ r → NotDone r → PartGoing g part [] before takes
      goes_on r same going = record { going = subst NotDone (sym same) going; so = now }

      by : (r : Gathering) → gather_part g part [] ≡ r → JustEnded r → (takes ≡ after_part g part before → PartsTaken parts (cut_parts g parts []) (after_part g part before) takes)
          → PartsTaken (part ∷ parts) (in_one (cut_parts g parts) r []) before takes
      by (Gathering.HasBytes rest) same ended later =
          subst (λ l. PartsTaken parts (cut_parts g parts l) (after_part g part before) takes) (sym ended) (later (done_fetched g part (chunks_in_range g part.start part.end) [] rest before takes same now))
      by (Gathering.Asks server step) same ended later = goes_on (Gathering.Asks server step) same tt
      by (Gathering.TooMany missing rest) same ended later = goes_on (Gathering.TooMany missing rest) same tt
      by (Gathering.AtTarget rest) same ended later = goes_on (Gathering.AtTarget rest) same tt
      by (Gathering.TargetAway downs rest) same ended later = goes_on (Gathering.TargetAway downs rest) same tt
      by (Gathering.Short rest) same ended later = goes_on (Gathering.Short rest) same tt

  module _ (pins touched : ℕ) (next : List Told → Act) (none : (told : List Told) → AsksNone (next told)) where
    stays : (outcome : Outcome) (rest : List Told) (answer : Told) (takes : List ℕ) → Fits pins touched (ending outcome rest) answer → take_from (ending outcome rest) answer takes ≡ takes
    stays outcome rest answer takes fits = takes_stay (ending outcome rest) answer takes (fits_plain pins touched (ending outcome rest) answer (ending_none outcome rest) fits)

    act_took : (stripe : ℕ) (further : List Told → Act) (gathered : Gathering) (answer : Told) (takes : List ℕ) → NotDone gathered → Fits pins touched (act_of stripe further gathered) answer
        → take_from (act_of stripe further gathered) answer takes ≡ took gathered answer takes
    act_took stripe further (Gathering.HasBytes rest) answer takes going fits = absurd going
    act_took stripe further (Gathering.Asks server step) (Told.Given count) takes going fits = refl
    act_took stripe further (Gathering.Asks server step) answer takes going fits = refl
    act_took stripe further (Gathering.TooMany missing rest) answer takes going fits = stays (Outcome.Unavailable stripe missing) rest answer takes fits
    act_took stripe further (Gathering.AtTarget rest) answer takes going fits = stays Outcome.Here rest answer takes fits
    act_took stripe further (Gathering.TargetAway downs rest) answer takes going fits = stays (Outcome.Away downs) rest answer takes fits
    act_took stripe further (Gathering.Short rest) answer takes going fits = stays Outcome.NoMemory rest answer takes fits

    act_exact : (stripe : ℕ) (further : List Told → Act) (gathered : Gathering) (answer : Told) → NotDone gathered → IsExact (act_of stripe further gathered) answer → ExactAsk gathered answer
    act_exact stripe further (Gathering.HasBytes rest) answer going exact = absurd going
    act_exact stripe further (Gathering.Asks server step) answer going exact = exact
    act_exact stripe further (Gathering.TooMany missing rest) answer going exact = tt
    act_exact stripe further (Gathering.AtTarget rest) answer going exact = tt
    act_exact stripe further (Gathering.TargetAway downs rest) answer going exact = tt
    act_exact stripe further (Gathering.Short rest) answer going exact = tt

    -- an answer that is told is no gathering's entry
    abbrev HeadIsSaid : List Told → Type 0
    HeadIsSaid [] = Unit {0}
    HeadIsSaid (Told.Gathered ∷ told) = ⊥
    HeadIsSaid (answer ∷ told) = Unit {0}

    -- one answer more to a part that goes on
    part_push : (part : Part) (parts : List Part) (told : List Told) (before takes : List ℕ) (answer : Told) → PartGoing g part told before takes → NotMissing answer
        → Fits pins touched (act_of part.seen.stripe (gathering g parts next) (gather_part g part told)) answer → IsExact (act_of part.seen.stripe (gathering g parts next) (gather_part g part told)) answer
        → HeadIsSaid (told ++ answer ∷ [])
        → PartsTaken (part ∷ parts) (in_one (cut_parts g parts) (gather_part g part (told ++ answer ∷ [])) (told ++ answer ∷ [])) before
        (take_from (act_of part.seen.stripe (gathering g parts next) (gather_part g part told)) answer takes)
    part_push part parts told before takes answer h some fits exact said = by (gather_part g part (told ++ answer ∷ [])) refl grown
      where
        now : Fetched g part (chunks_in_range g part.start part.end) (told ++ answer ∷ []) before (take_from (act_of part.seen.stripe (gathering g parts next) (gather_part g part told)) answer takes)
        now =
            subst (Fetched g part (chunks_in_range g part.start part.end) (told ++ answer ∷ []) before) (sym (act_took part.seen.stripe (gathering g parts next) (gather_part g part told) answer takes h.going fits))
            (push_fetched g part (chunks_in_range g part.start part.end) told before takes answer h.going h.so some (act_exact part.seen.stripe (gathering g parts next) (gather_part g part told) answer h.going exact))

        ended_so : (r later : Gathering) → NotDone r → Grows answer r later → (last : List Told) → later ≡ Gathering.HasBytes last → last ≡ []
        ended_so (Gathering.Asks server step) later going grows last e = subst JustEnded e grows
        ended_so (Gathering.HasBytes more) later going grows last e = absurd going
        ended_so (Gathering.TooMany missing more) later going grows last e = absurd (subst NotDone (sym grows ∙ e) tt)
        ended_so (Gathering.AtTarget more) later going grows last e = absurd (subst NotDone (sym grows ∙ e) tt)
        ended_so (Gathering.TargetAway downs more) later going grows last e = absurd (subst NotDone (sym grows ∙ e) tt)
        ended_so (Gathering.Short more) later going grows last e = absurd (subst NotDone (sym grows ∙ e) tt)

        grown : (last : List Told) → gather_part g part (told ++ answer ∷ []) ≡ Gathering.HasBytes last → last ≡ []
        grown last e = ended_so (gather_part g part told) (gather_part g part (told ++ answer ∷ [])) h.going (part_grows g part told answer) last e

        into : (all : List Told) (t : List ℕ) → HeadIsSaid all → PartGoing g part all before t → PartsTaken (part ∷ parts) all before t
        into [] t head k = k
        into (Told.Gathered ∷ more) t head k = absurd head
        into (one ∷ more) t head k = k

        goes_on : (r : Gathering) → gather_part g part (told ++ answer ∷ []) ≡ r → NotDone r
            → PartsTaken (part ∷ parts) (told ++ answer ∷ []) before (take_from (act_of part.seen.stripe (gathering g parts next) (gather_part g part told)) answer takes)
        goes_on r e going = into (told ++ answer ∷ []) (take_from (act_of part.seen.stripe (gathering g parts next) (gather_part g part told)) answer takes) said (record { going = subst NotDone (sym e) going; so = now })

        by : (r : Gathering) → gather_part g part (told ++ answer ∷ []) ≡ r → ((last : List Told) → gather_part g part (told ++ answer ∷ []) ≡ Gathering.HasBytes last → last ≡ [])
            → PartsTaken (part ∷ parts) (in_one (cut_parts g parts) r (told ++ answer ∷ [])) before (take_from (act_of part.seen.stripe (gathering g parts next) (gather_part g part told)) answer takes)
        by (Gathering.HasBytes last) e grow =
            let t : List ℕ = take_from (act_of part.seen.stripe (gathering g parts next) (gather_part g part told)) answer takes in
            subst (λ l. PartsTaken parts (cut_parts g parts l) (after_part g part before) t) (sym (grow last e))
            (new_parts parts (after_part g part before) t (done_fetched g part (chunks_in_range g part.start part.end) (told ++ answer ∷ []) last before t e now))
        by (Gathering.Asks server step) e grow = goes_on (Gathering.Asks server step) e tt
        by (Gathering.TooMany missing last) e grow = goes_on (Gathering.TooMany missing last) e tt
        by (Gathering.AtTarget last) e grow = goes_on (Gathering.AtTarget last) e tt
        by (Gathering.TargetAway downs last) e grow = goes_on (Gathering.TargetAway downs last) e tt
        by (Gathering.Short last) e grow = goes_on (Gathering.Short last) e tt

    -- one answer more to all parts
    parts_push : (parts : List Part) (told : List Told) (before takes : List ℕ) (answer : Told) → PartsTaken parts told before takes → NotMissing answer
        → Fits pins touched (gathering g parts next told) answer → IsExact (gathering g parts next told) answer
        → PartsTaken parts (cut_parts g parts (told ++ answer ∷ [])) before (take_from (gathering g parts next told) answer takes)
    parts_push [] told before takes answer h some fits exact = takes_stay (next told) answer takes (fits_plain pins touched (next told) answer (none told) fits) ∙ h
    parts_push (part ∷ parts) (Told.Gathered ∷ told) before takes answer h some fits exact = parts_push parts told (after_part g part before) takes answer h some fits exact
    parts_push (part ∷ parts) [] before takes Told.Gathered h some fits exact = absurd (never_gathered pins touched (act_of part.seen.stripe (gathering g parts next) (gather_part g part [])) fits)
    parts_push (part ∷ parts) [] before takes answer h some fits exact = part_push part parts [] before takes answer h some fits exact tt
    parts_push (part ∷ parts) (first ∷ told) before takes answer h some fits exact = part_push part parts (first ∷ told) before takes answer h some fits exact tt

-- ---- one answer more to the call
module _ (g : Shape) (job : Job) (pins touched : ℕ) where
  abbrev pub nothing : List ℕ
  nothing = replicate (chunk_count g) 0

  abbrev pub ReadTaken : List Told → List ℕ → Type 0
  ReadTaken [] takes = takes ≡ nothing
  ReadTaken (Told.Pinned point size stripes ∷ told) takes = PartsTaken g (parts_of g job.note size stripes) told nothing takes
  ReadTaken (answer ∷ told) takes = Unit {0}

  versions_none : (told : List Told) (point : ℕ) (takes : List ℕ) → ReadTaken (filter is_versions told ++ Told.Done point ∷ []) takes
  versions_none [] point takes = tt
  versions_none (Told.Versions versions ∷ told) point takes = tt
  versions_none (first ∷ told) point takes = versions_none told point takes

  changed_none : (told : List Told) (base newer : ℕ) (takes : List ℕ) → ReadTaken (filter is_changed told ++ Told.Changed base newer ∷ []) takes
  changed_none [] base newer takes = tt
  changed_none (Told.Changed old new ∷ told) base newer takes = tt
  changed_none (first ∷ told) base newer takes = changed_none told base newer takes

  abbrev act_by : List Told → Act
  act_by told = next_read g job.note told

  cut_push : (told : List Told) (answer : Told) (takes : List ℕ) → ReadTaken told takes → NotMissing answer → Fits pins touched (act_by told) answer → IsExact (act_by told) answer
      → ReadTaken (cut_read g job.note (told ++ answer ∷ [])) (take_from (act_by told) answer takes)
  cut_push [] (Told.Pinned point size stripes) takes h some fits exact = new_parts g (parts_of g job.note size stripes) nothing takes h
  cut_push [] answer takes h some fits exact = tt
  cut_push (Told.Pinned point size stripes ∷ told) answer takes h some fits exact =
      parts_push g pins touched (ending (Outcome.Served point)) (ending_none (Outcome.Served point)) (parts_of g job.note size stripes) told nothing takes answer h some fits exact
  cut_push (first ∷ told) answer takes h some fits exact = tt

  push : (told : List Told) (answer : Told) (takes : List ℕ) → ReadTaken told takes → NotMissing answer → Fits pins touched (act_by told) answer → IsExact (act_by told) answer
      → ReadTaken (tell_by Kind.Get g job told answer) (take_from (act_by told) answer takes)
  push told (Told.Done point) takes h some fits exact = versions_none told point (take_from (act_by told) (Told.Done point) takes)
  push told (Told.Changed base newer) takes h some fits exact = changed_none told base newer (take_from (act_by told) (Told.Changed base newer) takes)
  push told answer takes h some fits exact = cut_push told answer takes h some fits exact

  -- a read is told and does what a get is and does
  same_told : (told : List Told) (answer : Told) → tell_by Kind.ReadAt g job told answer ≡ tell_by Kind.Get g job told answer
  same_told told (Told.Done point) = refl
  same_told told (Told.Changed base newer) = refl
  same_told told answer = refl

-- ---- all answers
module _ (g : Shape) (most tries : ℕ) (job : Job) (reads : (job.note.kind ≡ Kind.Get) ⊎ (job.note.kind ≡ Kind.ReadAt)) where
  abbrev pins : ℕ
  pins = pin_bound g most job.note

  abbrev touches : ℕ
  touches = touched_count g job.note

  acts_so : (told : List Told) → next_act g tries job told ≡ next_read g job.note told
  acts_so told = by reads
    where
      by : (job.note.kind ≡ Kind.Get) ⊎ (job.note.kind ≡ Kind.ReadAt) → next_act g tries job told ≡ next_read g job.note told
      by (inl e) = ap (λ (k : Kind). next_by k g tries job told) e
      by (inr e) = ap (λ (k : Kind). next_by k g tries job told) e

  tells_so : (told : List Told) (answer : Told) → tell g job told answer ≡ tell_by Kind.Get g job told answer
  tells_so told answer = by reads
    where
      by : (job.note.kind ≡ Kind.Get) ⊎ (job.note.kind ≡ Kind.ReadAt) → tell g job told answer ≡ tell_by Kind.Get g job told answer
      by (inl e) = ap (λ (k : Kind). tell_by k g job told answer) e
      by (inr e) = ap (λ (k : Kind). tell_by k g job told answer) e ∙ same_told g job pins touches told answer

  fits_next : (told : List Told) (answer : Told) → IsToldNext g most tries job told answer → Fits pins touches (next_act g tries job told) answer
  fits_next told Told.Short h = h
  fits_next told answer h = h.0

  push_kind : (told : List Told) (answer : Told) (takes : List ℕ) → ReadTaken g job pins touches told takes → NotMissing answer → IsToldNext g most tries job told answer → IsExact (next_act g tries job told) answer
      → ReadTaken g job pins touches (tell g job told answer) (take_from (next_act g tries job told) answer takes)
  push_kind told answer takes h some next exact =
      subst (λ l. ReadTaken g job pins touches l (take_from (next_act g tries job told) answer takes)) (sym (tells_so told answer))
      (subst (λ (a : Act). ReadTaken g job pins touches (tell_by Kind.Get g job told answer) (take_from a answer takes)) (sym (acts_so told))
      (push g job pins touches told answer takes h some (subst (λ (a : Act). Fits pins touches a answer) (acts_so told) (fits_next told answer next))
      (subst (λ (a : Act). IsExact a answer) (acts_so told) exact)))

  none_missing : (answer : Told) (more : List Told) → missing_count (answer ∷ more) ≡ 0 → NotMissing answer × (missing_count more ≡ 0)
  none_missing (Told.Missing gone) more e = absurd (omega (arith, e))
  none_missing answer more e = (tt, e)

  pushed_since : (told answers : List Told) (takes : List ℕ) → ReadTaken g job pins touches told takes → missing_count answers ≡ 0 → AreToldSince g most tries job told answers → AreExactSince g tries job told answers
      → ReadTaken g job pins touches (fold (tell g job) told answers) (taken_since g tries job told takes answers)
  pushed_since told [] takes h none so exact = h
  pushed_since told (answer ∷ more) takes h none so exact =
      let both : NotMissing answer × (missing_count more ≡ 0) = none_missing answer more none in
      pushed_since (tell g job told answer) more (take_from (next_act g tries job told) answer takes) (push_kind told answer takes h both.0 so.0 exact.0) both.1 so.1 exact.1

-- ---- the end
abbrev IsServed : Act → Type 0
IsServed (Act.Finish (Outcome.Served point)) = Unit {0}
IsServed act = ⊥

abbrev NotServed : Outcome → Type 0
NotServed (Outcome.Served point) = ⊥
NotServed outcome = Unit {0}

ending_other : (outcome : Outcome) (told : List Told) → NotServed outcome → IsServed (ending outcome told) → ⊥
ending_other outcome [] other h = h
ending_other (Outcome.Served point) (Told.Ended ∷ told) other h = other
ending_other outcome (Told.Ended ∷ told) other h = h
ending_other outcome (Told.Reaped point ∷ told) other h = h
ending_other outcome (answer ∷ told) other h = ending_other Outcome.NoMemory told tt h

act_other : (stripe : ℕ) (further : List Told → Act) (gathered : Gathering) → NotDone gathered → IsServed (act_of stripe further gathered) → ⊥
act_other stripe further (Gathering.HasBytes rest) going h = going
act_other stripe further (Gathering.Asks server step) going h = h
act_other stripe further (Gathering.TooMany missing rest) going h = ending_other (Outcome.Unavailable stripe missing) rest tt h
act_other stripe further (Gathering.AtTarget rest) going h = ending_other Outcome.Here rest tt h
act_other stripe further (Gathering.TargetAway downs rest) going h = ending_other (Outcome.Away downs) rest tt h
act_other stripe further (Gathering.Short rest) going h = ending_other Outcome.NoMemory rest tt h

module _ (g : Shape) where
  -- what was taken once all parts have their bytes
  abbrev taken_parts : List Part → List ℕ → List ℕ
  taken_parts [] before = before
  taken_parts (part ∷ parts) before = taken_parts parts (after_part g part before)

  parts_done : (next : List Told → Act) (parts : List Part) (told : List Told) (before takes : List ℕ) → PartsTaken g parts told before takes → IsServed (gathering g parts next told) → takes ≡ taken_parts parts before
  parts_done next [] told before takes h served = h
  parts_done next (part ∷ parts) (Told.Gathered ∷ told) before takes h served = parts_done next parts told (after_part g part before) takes h served
  parts_done next (part ∷ parts) [] before takes h served = absurd (act_other part.seen.stripe (gathering g parts next) (gather_part g part []) h.going served)
  parts_done next (part ∷ parts) (first ∷ told) before takes h served = absurd (act_other part.seen.stripe (gathering g parts next) (gather_part g part (first ∷ told)) h.going served)

  module _ (j : ℕ) where
    abbrev met : Part → ℕ
    met part = cond {A = ℕ} (is_among j (chunks_in_range g part.start part.end)) (length (layers_for g part.start part.end j)) 0

    -- one part
    one_met : (part : Part) (before : List ℕ) (so_far : ℕ) → j < length before → get_or before j 0 ≡ min so_far (2 ^ 64 - 1) → get_or (after_part g part before) j 0 ≡ min (so_far + met part) (2 ^ 64 - 1)
    one_met part before so_far within e = by (is_among j (chunks_in_range g part.start part.end)) refl
      where
        by : (b : Bool) → is_among j (chunks_in_range g part.start part.end) ≡ b
            → get_or (after_part g part before) j 0 ≡ min (so_far + cond {A = ℕ} b (length (layers_for g part.start part.end j)) 0) (2 ^ 64 - 1)
        by true on =
            let n : ℕ = length (layers_for g part.start part.end j) in
            let x : ℕ = get_or before j 0 in
            let is : x ≡ min so_far (2 ^ 64 - 1) = e in
            let now : get_or (after_part g part before) j 0 ≡ min (x + n) (2 ^ 64 - 1) = on_changes _ (wanted g part) 0 g.data_count j before on within in
            let y : ℕ = get_or (after_part g part before) j 0 in
            let same : y ≡ min (so_far + n) (2 ^ 64 - 1) = omega (arith, now, is) in
            same
        by false off =
            let stays : get_or (after_part g part before) j 0 ≡ get_or before j 0 = off_stays (wanted g part) (chunks_in_range g part.start part.end) j before off in
            let x : ℕ = get_or before j 0 in
            let y : ℕ = get_or (after_part g part before) j 0 in
            let same : y ≡ min (so_far + 0) (2 ^ 64 - 1) = omega (arith, stays, e) in
            same

    all_met : (parts : List Part) (before : List ℕ) (so_far : ℕ) → j < length before → get_or before j 0 ≡ min so_far (2 ^ 64 - 1)
        → get_or (taken_parts parts before) j 0 ≡ min (so_far + sum_by met parts) (2 ^ 64 - 1)
    all_met [] before so_far within e = e ∙ ap (λ n. min n (2 ^ 64 - 1)) (let same : so_far ≡ so_far + 0 = omega arith in same)
    all_met (part ∷ parts) before so_far within e =
        all_met parts (after_part g part before) (so_far + met part) (subst (λ n. j < n) (sym (length_taken (wanted g part) (chunks_in_range g part.start part.end) before)) within) (one_met part before so_far within e)
        ∙ ap (λ n. min n (2 ^ 64 - 1)) (together (sum_by-cons met part parts))
      where
        together : sum_by met (part ∷ parts) ≡ met part + sum_by met parts → so_far + met part + sum_by met parts ≡ so_far + sum_by met (part ∷ parts)
        together sums =
            let a : ℕ = met part in
            let b : ℕ = sum_by met parts in
            let c : ℕ = sum_by met (part ∷ parts) in
            let same : so_far + a + b ≡ so_far + c = omega (arith, sums) in
            same

-- ---- what its look told
module _ (g : Shape) (job : Job) (P : Told → Type 0) where
  abbrev Looked : List Told → Type 0
  Looked (Told.Pinned point size stripes ∷ told) = P (Told.Pinned point size stripes)
  Looked told = Unit {0}

  versions_looked : (told : List Told) (point : ℕ) → Looked (filter is_versions told ++ Told.Done point ∷ [])
  versions_looked [] point = tt
  versions_looked (Told.Versions versions ∷ told) point = tt
  versions_looked (first ∷ told) point = versions_looked told point

  changed_looked : (told : List Told) (base newer : ℕ) → Looked (filter is_changed told ++ Told.Changed base newer ∷ [])
  changed_looked [] base newer = tt
  changed_looked (Told.Changed old new ∷ told) base newer = tt
  changed_looked (first ∷ told) base newer = changed_looked told base newer

  cut_looked : (told : List Told) (answer : Told) → Looked told → P answer → Looked (cut_read g job.note (told ++ answer ∷ []))
  cut_looked [] (Told.Pinned point size stripes) h new = new
  cut_looked [] answer h new = tt
  cut_looked (Told.Pinned point size stripes ∷ told) answer h new = h
  cut_looked (first ∷ told) answer h new = tt

  tell_looked : (told : List Told) (answer : Told) → Looked told → P answer → Looked (tell_by Kind.Get g job told answer)
  tell_looked told (Told.Done point) h new = versions_looked told point
  tell_looked told (Told.Changed base newer) h new = changed_looked told base newer
  tell_looked told answer h new = cut_looked told answer h new

module _ (g : Shape) (most tries : ℕ) (job : Job) (reads : (job.note.kind ≡ Kind.Get) ⊎ (job.note.kind ≡ Kind.ReadAt)) (P : Told → Type 0) where
  looked_since : (told answers : List Told) → Looked g job P told → All P answers → Looked g job P (fold (tell g job) told answers)
  looked_since told [] h all = h
  looked_since told (answer ∷ more) h all =
      looked_since (tell g job told answer) more
      (subst (Looked g job P) (sym (tells_so g most tries job reads told answer)) (tell_looked g job P told answer h (All-head P answer more all))) (All-tail P answer more all)

module _ (g : Shape) (job : Job) (pins touched : ℕ) (answers : List Told) where
  -- at the end of a call that was served
  at_end : (told : List Told) (takes : List ℕ) → ReadTaken g job pins touched told takes → Looked g job (Contains answers) told → IsServed (next_read g job.note told) → TookRange g job.note answers takes
  at_end [] takes h looked served = absurd served
  at_end (Told.Answer point reply ∷ told) takes h looked served = absurd served
  at_end (Told.Pinned point size stripes ∷ told) takes h looked served =
      record {
        point = point;
        size = size;
        stripes = stripes;
        looked = looked;
        met = λ server low.
            ap (λ (l : List ℕ). get_or l server 0) (parts_done g (ending (Outcome.Served point)) (parts_of g job.note size stripes) told (replicate (chunk_count g) 0) takes h served)
            ∙ all_met g server (parts_of g job.note size stripes) (replicate (chunk_count g) 0) 0 (subst (λ n. server < n) (sym (length-replicate (chunk_count g) 0)) low) (zero_cell (chunk_count g) server ∙ refl)
            ∙ ap (λ n. min n (2 ^ 64 - 1)) (let n : ℕ = subchunks_met g (parts_of g job.note size stripes) server in let same : 0 + n ≡ n = omega arith in same);
      }
  at_end (first ∷ told) takes h looked served = absurd served

pub reads_take_least : ReadsTakeLeast
reads_take_least script job reads answers log point ends none =
    let g : Shape = script.geometry in
    let tries : ℕ = tries_of script in
    let most : ℕ = size_of script in
    let kept : List Told = fold (tell g job) [] answers in
    let served : IsServed (next_read g job.note kept) = subst IsServed (sym ends ∙ acts_so g most tries job reads kept) tt in
    at_end g job (pin_bound g most job.note) (touched_count g job.note) answers kept (taken_by g tries job answers)
    (pushed_since g most tries job reads [] answers (replicate (chunk_count g) 0) refl none log.are_told log.exact)
    (looked_since g most tries job reads (Contains answers) [] answers tt (All-contains_itself answers)) served

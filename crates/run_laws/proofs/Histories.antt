-- The steps of a stage of a call, and the stretch of answers with which a gathering has its bytes.
use Rattle.std.proofs.Common.{◌≡◌, ℕ, List, [], ◌∷◌, ◌++◌, map, filter, refl, sym, ap, subst, ◌∙◌}
use Rattle.std.proofs.lemmas.List.{append_assoc, append-nil}
use Rattle.clay_grid.specs.Shape.{Shape}
use Rattle.store_core.specs.Told.{Told, Seen}
use Rattle.store_core.specs.Act.{Act, DirectoryStep, ServerStep, Outcome}
use Rattle.store_core.specs.Gathering.{Gathering, Part}
use Rattle.store_core.specs.GatheringParts.{gather_part, gather_chunk, ending, act_of, gathering}
use Rattle.store_core.specs.Rebuild.{confirming, rebuilding}
use Rattle.store_core.specs.Tell.{is_versions}
use Rattle.run_laws.specs.ToldInSteps.{HasStep}
use Rattle.run_laws.specs.Orders.{AreGathered}
use Rattle.run_laws.proofs.Filters.{KeepsMarks, part_keeps}
use Rattle.run_laws.proofs.GatheringFalls.{IsPlain}
use Rattle.run_laws.proofs.GoesOn.{GrowsBy, grows_by}
use Rattle.run_laws.proofs.Grows.{JustEnded, Grows, part_start, part_grows, chunk_grows}
use Rattle.run_laws.proofs.Questions.{IsQuestion, AsksSo, part_so, chunk_so}

-- ---- answers of one stage: no gathering's entry, no commit and no change
abbrev pub IsCalm : Told → Type 0
IsCalm Told.Gathered = ⊥
IsCalm (Told.Done point) = ⊥
IsCalm (Told.Changed base newer) = ⊥
IsCalm _ = Unit {0}

abbrev pub AreCalm : List Told → Type 0
AreCalm [] = Unit {0}
AreCalm (answer ∷ told) = IsCalm answer × AreCalm told

pub calm_plain : (answer : Told) → IsCalm answer → IsPlain answer
calm_plain Told.Gathered h = h
calm_plain answer h = tt

pub calm_rest : (front rest : List Told) → AreCalm (front ++ rest) → AreCalm rest
calm_rest [] rest h = h
calm_rest (answer ∷ front) rest h = calm_rest front rest h.1

calm_front : (front rest : List Told) → AreCalm (front ++ rest) → AreCalm front
calm_front [] rest h = tt
calm_front (answer ∷ front) rest h = (h.0, calm_front front rest h.1)

pub calm_append : (front rest : List Told) → AreCalm front → AreCalm rest → AreCalm (front ++ rest)
calm_append [] rest h k = k
calm_append (answer ∷ front) rest h k = (h.0, calm_append front rest h.1 k)

-- ---- each step of a stage with its answer
abbrev pub steps_by : (List Told → Act) → List Told → List (Act × Told)
steps_by next [] = []
steps_by next (answer ∷ told) = (next [], answer) ∷ steps_by (λ later. next (answer ∷ later)) told

pub steps_append : (next : List Told → Act) (front rest : List Told) → steps_by next (front ++ rest) ≡ steps_by next front ++ steps_by (λ later. next (front ++ later)) rest
steps_append next [] rest = refl
steps_append next (answer ∷ front) rest = ap (λ steps. (next [], answer) ∷ steps) (steps_append (λ later. next (answer ∷ later)) front rest)

-- stages that do the same make the same steps
steps_same : (next other : List Told → Act) (told : List Told) → AreCalm told → ((later : List Told) → AreCalm later → next later ≡ other later) → steps_by next told ≡ steps_by other told
steps_same next other [] calm same = refl
steps_same next other (answer ∷ told) calm same =
    ap (λ act. (act, answer) ∷ steps_by (λ later. next (answer ∷ later)) told) (same [] tt)
    ∙ ap (λ steps. (other [], answer) ∷ steps)
    (steps_same (λ later. next (answer ∷ later)) (λ later. other (answer ∷ later)) told calm.1 (λ later k. same (answer ∷ later) (calm.0, k)))

pub steps_answers : (next : List Told → Act) (told : List Told) → map (λ (step : Act × Told). step.1) (steps_by next told) ≡ told
steps_answers next [] = refl
steps_answers next (answer ∷ told) = ap (λ l. answer ∷ l) (steps_answers (λ later. next (answer ∷ later)) told)

-- none of the steps is an outcome
abbrev pub AllGo : List (Act × Told) → Type 0
AllGo [] = Unit {0}
AllGo (step ∷ steps) = HasStep step.0 × AllGo steps

pub go_past : (front rest : List (Act × Told)) → AllGo (front ++ rest) → AllGo rest
go_past [] rest h = h
go_past (step ∷ front) rest h = go_past front rest h.1

pub go_more : (steps : List (Act × Told)) (step : Act × Told) → AllGo steps → HasStep step.0 → AllGo (steps ++ step ∷ [])
go_more [] step h one = (one, tt)
go_more (first ∷ steps) step h one = (h.0, go_more steps step h.1 one)

-- ---- a gathering that has its bytes has them by the answers up to then
abbrev HasThem : Gathering → Type 0
HasThem (Gathering.HasBytes told) = Unit {0}
HasThem _ = ⊥

abbrev rest_of : Gathering → List Told
rest_of (Gathering.HasBytes told) = told
rest_of _ = []

module _ (gather : List Told → Gathering) (grows : (told : List Told) (answer : Told) → Grows answer (gather told) (gather (told ++ answer ∷ []))) (rest : List Told) where
  pub record Gathers (told : List Told) : Type 0 where
    pub front : List Told
    pub is : told ≡ front ++ rest
    pub comes_to : gather front ≡ Gathering.HasBytes []

  abbrev Comes : List Told → Type 0
  Comes told = gather told ≡ Gathering.HasBytes rest

  gathers_now : (done : List Told) → JustEnded (gather done) → Comes (done ++ []) → Gathers (done ++ [])
  gathers_now done just e =
      let now : gather done ≡ Gathering.HasBytes rest = ap gather (sym (append-nil done)) ∙ e in
      let none : rest ≡ [] = subst JustEnded now just in
      record { front = done; is = ap (λ l. done ++ l) (sym none); comes_to = now ∙ ap Gathering.HasBytes none }

  gathers_by : (done : List Told) (answer : Told) (more : List Told) (now : Gathering) → gather done ≡ now → JustEnded now
      → Grows answer now (gather (done ++ answer ∷ [])) → GrowsBy (answer ∷ more) now (gather (done ++ answer ∷ more)) → Comes (done ++ answer ∷ more)
      → (JustEnded (gather (done ++ answer ∷ [])) → Gathers (done ++ answer ∷ more)) → Gathers (done ++ answer ∷ more)
  gathers_by done answer more (Gathering.Asks server step) here just next later e go_on = go_on next
  gathers_by done answer more (Gathering.HasBytes told) here just next later e go_on =
      let same : Gathering.HasBytes (told ++ answer ∷ more) ≡ Gathering.HasBytes rest = sym later ∙ e in
      let left : answer ∷ more ≡ rest = ap (λ l. l ++ answer ∷ more) (sym just) ∙ ap rest_of same in
      record { front = done; is = ap (λ l. done ++ l) left; comes_to = here ∙ ap Gathering.HasBytes just }
  gathers_by done answer more (Gathering.TooMany missing told) here just next later e go_on = absurd (subst HasThem (sym e ∙ later) tt)
  gathers_by done answer more (Gathering.AtTarget told) here just next later e go_on = absurd (subst HasThem (sym e ∙ later) tt)
  gathers_by done answer more (Gathering.TargetAway downs told) here just next later e go_on = absurd (subst HasThem (sym e ∙ later) tt)
  gathers_by done answer more (Gathering.Short told) here just next later e go_on = absurd (subst HasThem (sym e ∙ later) tt)

  pub gathers_from : (done todo : List Told) → JustEnded (gather done) → Comes (done ++ todo) → Gathers (done ++ todo)
  gathers_from done [] just e = gathers_now done just e
  gathers_from done (answer ∷ more) just e =
      let same : (done ++ answer ∷ []) ++ more ≡ done ++ answer ∷ more = append_assoc done (answer ∷ []) more in
      gathers_by done answer more (gather done) refl just (grows done answer) (grows_by gather grows (answer ∷ more) done) e
      (λ next. subst Gathers same (gathers_from (done ++ answer ∷ []) more next (subst Comes (sym same) e)))

-- ---- acts that come only after a gathering that has its bytes
abbrev pub IsPast : Act → Type 0
IsPast (Act.AtDirectory DirectoryStep.Draw) = Unit {0}
IsPast (Act.AtDirectory (DirectoryStep.Commit placed)) = Unit {0}
IsPast (Act.AtDirectory (DirectoryStep.Repaired server epoch)) = Unit {0}
IsPast (Act.AtServer server (ServerStep.Install version)) = Unit {0}
IsPast (Act.Finish (Outcome.Served point)) = Unit {0}
IsPast (Act.Finish Outcome.Rebuilt) = Unit {0}
IsPast _ = ⊥

no_question : (server : ℕ) (step : ServerStep) → IsQuestion step → IsPast (Act.AtServer server step) → ⊥
no_question server (ServerStep.Has version) so h = h
no_question server (ServerStep.Fetch version layers) so h = h
no_question server step so h = so

pub ending_never : (outcome : Outcome) → (IsPast (Act.Finish outcome) → ⊥) → (told : List Told) → IsPast (ending outcome told) → ⊥
ending_never outcome never [] h = h
ending_never outcome never (Told.Ended ∷ told) h = never h
ending_never outcome never (Told.Reaped point ∷ told) h = h
ending_never outcome never (_ ∷ told) h = ending_never Outcome.NoMemory (λ k. k) told h

module _ (g : Shape) (next : List Told → Act) where
  -- the parts have their bytes, and what was told since
  pub record Parted (parts : List Part) (told : List Told) : Type 0 where
    pub gathered : List Told
    pub rest : List Told
    pub is : told ≡ gathered ++ rest
    pub each : AreGathered g parts gathered
    pub act : gathering g parts next told ≡ next rest
    pub front : List (Act × Told)
    pub steps : steps_by (gathering g parts next) told ≡ front ++ steps_by next rest
    pub marks : filter is_versions told ≡ filter is_versions rest

  first_part : (part : Part) (parts : List Part) (told : List Told) → AreCalm told
      → gathering g (part ∷ parts) next told ≡ act_of part.seen.stripe (gathering g parts next) (gather_part g part told)
  first_part part parts [] calm = refl
  first_part part parts (Told.Gathered ∷ told) calm = absurd calm.0
  first_part part parts (answer ∷ told) calm = refl

  module _ (part : Part) (parts : List Part) (told : List Told) (calm : AreCalm told) (again : (later : List Told) → AreCalm later → IsPast (gathering g parts next later) → Parted parts later) where
    parted_here : (later : List Told) → gather_part g part told ≡ Gathering.HasBytes later → KeepsMarks told (Gathering.HasBytes later)
        → Gathers (gather_part g part) (part_grows g part) later told → IsPast (gathering g parts next later) → Parted (part ∷ parts) told
    parted_here later e keeps has past =
        let whole : AreCalm (has.front ++ later) = subst AreCalm has.is calm in
        let calm_later : AreCalm later = calm_rest has.front later whole in
        let r : Parted parts later = again later calm_later past in
        let goes : (more : List Told) → AreCalm more → gathering g (part ∷ parts) next (has.front ++ more) ≡ gathering g parts next more =
        λ more k.
        first_part part parts (has.front ++ more) (calm_append has.front more (calm_front has.front later whole) k)
        ∙ ap (act_of part.seen.stripe (gathering g parts next))
        (subst (λ (now : Gathering). GrowsBy more now (gather_part g part (has.front ++ more))) has.comes_to (grows_by (gather_part g part) (part_grows g part) more has.front)) in
        record {
          gathered = has.front ++ r.gathered;
          rest = r.rest;
          is = has.is ∙ ap (λ l. has.front ++ l) r.is ∙ sym (append_assoc has.front r.gathered r.rest);
          each = (has.front, r.gathered, refl, has.comes_to, r.each);
          act = first_part part parts told calm ∙ ap (act_of part.seen.stripe (gathering g parts next)) e ∙ r.act;
          front = steps_by (gathering g (part ∷ parts) next) has.front ++ r.front;
          steps =
              ap (steps_by (gathering g (part ∷ parts) next)) has.is
              ∙ steps_append (gathering g (part ∷ parts) next) has.front later
              ∙ ap (λ s. steps_by (gathering g (part ∷ parts) next) has.front ++ s)
              (steps_same (λ more. gathering g (part ∷ parts) next (has.front ++ more)) (gathering g parts next) later calm_later goes ∙ r.steps)
              ∙ sym (append_assoc (steps_by (gathering g (part ∷ parts) next) has.front) r.front (steps_by next r.rest));
          marks = keeps.0 ∙ r.marks;
        }

    parted_by : (result : Gathering) → gather_part g part told ≡ result → AsksSo result → KeepsMarks told result → IsPast (act_of part.seen.stripe (gathering g parts next) result)
        → Parted (part ∷ parts) told
    parted_by (Gathering.Asks server step) e so keeps past = absurd (no_question server step so past)
    parted_by (Gathering.HasBytes later) e so keeps past = parted_here later e keeps (gathers_from (gather_part g part) (part_grows g part) later [] told (part_start g part) e) past
    parted_by (Gathering.TooMany missing later) e so keeps past = absurd (ending_never (Outcome.Unavailable part.seen.stripe missing) (λ k. k) later past)
    parted_by (Gathering.AtTarget later) e so keeps past = absurd (ending_never Outcome.Here (λ k. k) later past)
    parted_by (Gathering.TargetAway downs later) e so keeps past = absurd (ending_never (Outcome.Away downs) (λ k. k) later past)
    parted_by (Gathering.Short later) e so keeps past = absurd (ending_never Outcome.NoMemory (λ k. k) later past)

  -- an act after all gatherings comes when each part has its bytes
  pub parted : (parts : List Part) (told : List Told) → AreCalm told → IsPast (gathering g parts next told) → Parted parts told
  parted [] told calm past =
      record { gathered = []; rest = told; is = refl; each = refl; act = refl; front = []; steps = refl; marks = refl }
  parted (part ∷ parts) told calm past =
      parted_by part parts told calm (parted parts) (gather_part g part told) refl (part_so g part told) (part_keeps g part told)
      (subst IsPast (first_part part parts told calm) past)

-- ---- the chunk of a rebuild
module _ (g : Shape) (seen : Seen) (target : ℕ) where
  pub record Made (told : List Told) : Type 0 where
    pub gathered : List Told
    pub rest : List Told
    pub is : told ≡ gathered ++ rest
    pub comes_to : gather_chunk g seen target gathered ≡ Gathering.HasBytes []
    pub act : rebuilding g seen target told ≡ confirming seen target rest
    pub front : List (Act × Told)
    pub steps : steps_by (rebuilding g seen target) told ≡ front ++ steps_by (confirming seen target) rest

  first_chunk : (told : List Told) → AreCalm told → rebuilding g seen target told ≡ act_of seen.stripe (confirming seen target) (gather_chunk g seen target told)
  first_chunk [] calm = refl
  first_chunk (Told.Gathered ∷ told) calm = absurd calm.0
  first_chunk (answer ∷ told) calm = refl

  made_by : (told : List Told) (calm : AreCalm told) (result : Gathering) → gather_chunk g seen target told ≡ result → AsksSo result
      → IsPast (act_of seen.stripe (confirming seen target) result) → Made told
  made_by told calm (Gathering.Asks server step) e so past = absurd (no_question server step so past)
  made_by told calm (Gathering.HasBytes later) e so past =
      let has : Gathers (gather_chunk g seen target) (chunk_grows g seen target) later told =
      gathers_from (gather_chunk g seen target) (chunk_grows g seen target) later [] told tt e in
      record {
        gathered = has.front;
        rest = later;
        is = has.is;
        comes_to = has.comes_to;
        act = first_chunk told calm ∙ ap (act_of seen.stripe (confirming seen target)) e;
        front = steps_by (rebuilding g seen target) has.front;
        steps =
            ap (steps_by (rebuilding g seen target)) has.is
            ∙ steps_append (rebuilding g seen target) has.front later
            ∙ ap (λ s. steps_by (rebuilding g seen target) has.front ++ s)
            (steps_same (λ more. rebuilding g seen target (has.front ++ more)) (confirming seen target) later (calm_rest has.front later (subst AreCalm has.is calm)) (goes has));
      }
    where
      goes : (has : Gathers (gather_chunk g seen target) (chunk_grows g seen target) later told) → (more : List Told) → AreCalm more
          → rebuilding g seen target (has.front ++ more) ≡ confirming seen target more
      goes has more k =
          first_chunk (has.front ++ more) (calm_append has.front more (calm_front has.front later (subst AreCalm has.is calm)) k)
          ∙ ap (act_of seen.stripe (confirming seen target))
          (subst (λ (now : Gathering). GrowsBy more now (gather_chunk g seen target (has.front ++ more))) has.comes_to
          (grows_by (gather_chunk g seen target) (chunk_grows g seen target) more has.front))
  made_by told calm (Gathering.TooMany missing later) e so past = absurd (ending_never (Outcome.Unavailable seen.stripe missing) (λ k. k) later past)
  made_by told calm (Gathering.AtTarget later) e so past = absurd (ending_never Outcome.Here (λ k. k) later past)
  made_by told calm (Gathering.TargetAway downs later) e so past = absurd (ending_never (Outcome.Away downs) (λ k. k) later past)
  made_by told calm (Gathering.Short later) e so past = absurd (ending_never Outcome.NoMemory (λ k. k) later past)

  pub made : (told : List Told) → AreCalm told → IsPast (rebuilding g seen target told) → Made told
  made told calm past = made_by told calm (gather_chunk g seen target told) refl (chunk_so g seen target told) (subst IsPast (first_chunk told calm) past)

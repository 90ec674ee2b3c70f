-- What a rebuild's result names is its own stripe, and downs of its own server.
use Rattle.std.proofs.Common.{◌≡◌, ℕ, ◌<◌, ◌≤◌, Bool, true, false, nat_lt, List, [], ◌∷◌, length, Option, None, Some, ◌⊎◌, inl, inr, refl, sym, ap, subst, ◌∙◌, arith}
use Rattle.std.proofs.lemmas.Bool.{cond_both}
use Rattle.std.proofs.lemmas.List.Elements.{All-head}
use Rattle.std.specs.List.{slice_get}
use Rattle.clay_grid.specs.Shape.{Shape}
use Rattle.store_map.specs.Limits.{size_of, tries_of}
use Rattle.store_map.specs.declared.actor.Actor.{Actor}
use Rattle.store_map.specs.declared.placement.Found.{Found}
use Rattle.store_map.specs.declared.placement.Found.TheVariants as found
use Rattle.store_map.specs.declared.placement.Placement.{Placement}
use Rattle.store_map.specs.declared.placement.Placement.TheVariants as placement
use Rattle.store_map.specs.declared.script.Script.{Script}
use Rattle.store_core.specs.Act.{Act, DirectoryStep, ServerStep, Outcome}
use Rattle.store_core.specs.ActPlace.{is_in_pass}
use Rattle.store_core.specs.AtDirectory.{at_directory}
use Rattle.store_core.specs.Bounds.{touched_count}
use Rattle.store_core.specs.Directory.{Object, Directory}
use Rattle.store_core.specs.Gathering.{Gathering}
use Rattle.store_core.specs.GatheringParts.{ending, act_of, gather_chunk}
use Rattle.store_core.specs.Lists.{is_among}
use Rattle.store_core.specs.Look.{begin_pass, seen_at}
use Rattle.store_core.specs.Looks.{look_repair_by}
use Rattle.store_core.specs.Lookups.{find_object}
use Rattle.store_core.specs.NextAct.{Job, next_by, next_act}
use Rattle.store_core.specs.Note.{Note, Kind}
use Rattle.store_core.specs.Rebuild.{placing, installing, confirming, rebuilding, next_rebuild}
use Rattle.store_core.specs.Server.{Server, install, at_server}
use Rattle.store_core.specs.Step.{Shortage, Places, at_places, at_server_there, told_first}
use Rattle.store_core.specs.Tell.{tell}
use Rattle.store_core.specs.Told.{Told, Seen}
use Rattle.store_core.specs.Work.{Calling}
use Rattle.run_laws.specs.Answers.{DirectoryAnswers, ServerAnswers, Answers}
use Rattle.run_laws.specs.CallLeft.{pin_bound}
use Rattle.run_laws.specs.CauseLaws.{TargetIsAway, IsToldAway, IsCaused}
use Rattle.run_laws.specs.GatherLaws.{Tells}
use Rattle.run_laws.specs.NamedServers.{found_missing}
use Rattle.run_laws.proofs.Causes.{causes}
use Rattle.run_laws.proofs.Proper.{IsProper, HasTry}
use Rattle.history_laws.proofs.AtWork.{AtWork, first, act, after, proper, answered}
use Rattle.history_laws.proofs.GivenUpRuns.{told_either}
use Rattle.history_laws.proofs.FoundEnded.{CallSure, SureLost, SureSeen, SureThere, SureTook, step_ended}
use Rattle.history_laws.proofs.HeardLosses.{AsksOf, chunk_asks_of}
use Rattle.history_laws.proofs.LossesActs.{Heard, AllServers}
use Rattle.history_laws.proofs.LossesHeard.{RebuildHeard, HeardBy}
use Rattle.history_laws.proofs.LossesServer.{ServerKnown}
use Rattle.history_laws.proofs.LossesState.{TellsDowns, LostSo}
use Rattle.history_laws.proofs.VersionMoves.{row_at}

-- ---- what a rebuild does
-- its chunk goes to its target
abbrev InstallsAt : ℕ → Act → Type 0
InstallsAt target (Act.AtServer server (ServerStep.Install version)) = server ≡ target
InstallsAt target other = Unit {0}

-- and where it is unavailable it names this stripe
abbrev StripeOf : ℕ → Act → Type 0
StripeOf stripe (Act.Finish (Outcome.Unavailable named missing)) = stripe ≡ named
StripeOf stripe other = Unit {0}

abbrev OutcomeOf : ℕ → Outcome → Type 0
OutcomeOf stripe (Outcome.Unavailable named missing) = stripe ≡ named
OutcomeOf stripe outcome = Unit {0}

module _ (target stripe : ℕ) where
  ending_installs : (outcome : Outcome) (told : List Told) → InstallsAt target (ending outcome told)
  ending_installs outcome [] = tt
  ending_installs outcome (Told.Ended ∷ told) = tt
  ending_installs outcome (Told.Reaped point ∷ told) = tt
  ending_installs outcome (answer ∷ told) = ending_installs Outcome.NoMemory told

  ending_of : (outcome : Outcome) (told : List Told) → OutcomeOf stripe outcome → StripeOf stripe (ending outcome told)
  ending_of outcome [] h = tt
  ending_of (Outcome.Unavailable named missing) (Told.Ended ∷ told) h = h
  ending_of outcome (Told.Ended ∷ told) h = tt
  ending_of outcome (Told.Reaped point ∷ told) h = tt
  ending_of outcome (answer ∷ told) h = ending_of Outcome.NoMemory told tt

  placing_so : (epoch : ℕ) (told : List Told) → InstallsAt target (placing target epoch told) × StripeOf stripe (placing target epoch told)
  placing_so epoch [] = (tt, tt)
  placing_so epoch (Told.Ended ∷ told) = (tt, tt)
  placing_so epoch (Told.Reaped point ∷ told) = (tt, tt)
  placing_so epoch (answer ∷ told) = (ending_installs Outcome.NoMemory told, ending_of Outcome.NoMemory told tt)

  installing_so : (seen : Seen) (told : List Told) → InstallsAt target (installing seen target told) × StripeOf stripe (installing seen target told)
  installing_so seen [] = (refl, tt)
  installing_so seen (Told.Placed epoch ∷ told) = placing_so epoch told
  installing_so seen (Told.AlreadyThere ∷ told) = (ending_installs Outcome.Here told, ending_of Outcome.Here told tt)
  installing_so seen (Told.Away downs ∷ told) = (ending_installs (Outcome.Away downs) told, ending_of (Outcome.Away downs) told tt)
  installing_so seen (answer ∷ told) = (ending_installs Outcome.NoMemory told, ending_of Outcome.NoMemory told tt)

  confirming_so : (seen : Seen) (told : List Told) → InstallsAt target (confirming seen target told) × StripeOf stripe (confirming seen target told)
  confirming_so seen [] = (tt, tt)
  confirming_so seen (Told.Current ∷ told) = installing_so seen told
  confirming_so seen (Told.Superseded newer ∷ told) = (tt, tt)
  confirming_so seen (Told.Reaped point ∷ told) = (tt, tt)
  confirming_so seen (answer ∷ told) = (ending_installs Outcome.NoMemory told, ending_of Outcome.NoMemory told tt)

  acts_so : (seen : Seen) → stripe ≡ seen.stripe → (version : ℕ) (gathered : Gathering) → AsksOf version gathered
      → InstallsAt target (act_of seen.stripe (confirming seen target) gathered) × StripeOf stripe (act_of seen.stripe (confirming seen target) gathered)
  acts_so seen same version (Gathering.Asks server (ServerStep.Install other)) asks = absurd asks
  acts_so seen same version (Gathering.Asks server step) asks = (tt, tt)
  acts_so seen same version (Gathering.HasBytes rest) asks = confirming_so seen rest
  acts_so seen same version (Gathering.TooMany missing rest) asks = (ending_installs (Outcome.Unavailable seen.stripe missing) rest, ending_of (Outcome.Unavailable seen.stripe missing) rest same)
  acts_so seen same version (Gathering.AtTarget rest) asks = (ending_installs Outcome.Here rest, ending_of Outcome.Here rest tt)
  acts_so seen same version (Gathering.TargetAway downs rest) asks = (ending_installs (Outcome.Away downs) rest, ending_of (Outcome.Away downs) rest tt)
  acts_so seen same version (Gathering.Short rest) asks = (ending_installs Outcome.NoMemory rest, ending_of Outcome.NoMemory rest tt)

  rebuilding_so : (g : Shape) (seen : Seen) → stripe ≡ seen.stripe → (told : List Told) → InstallsAt target (rebuilding g seen target told) × StripeOf stripe (rebuilding g seen target told)
  rebuilding_so g seen same (Told.Gathered ∷ told) = confirming_so seen told
  rebuilding_so g seen same [] = acts_so seen same seen.version (gather_chunk g seen target []) (chunk_asks_of g seen target [])
  rebuilding_so g seen same (answer ∷ told) = acts_so seen same seen.version (gather_chunk g seen target (answer ∷ told)) (chunk_asks_of g seen target (answer ∷ told))

  rebuild_so : (g : Shape) (note : Note) (told : List Told) → ((seen : Seen) → Tells (λ answer. answer ≡ Told.PinnedStripe seen) told → stripe ≡ seen.stripe)
      → InstallsAt target (next_rebuild g note target told) × StripeOf stripe (next_rebuild g note target told)
  rebuild_so g note [] h = (tt, tt)
  rebuild_so g note (Told.NoSuch ∷ told) h = (tt, tt)
  rebuild_so g note (Told.PinnedStripe seen ∷ told) h = rebuilding_so g seen (h seen (inl refl)) told
  rebuild_so g note (answer ∷ told) h = (tt, tt)

-- ---- what it is told
abbrev LookSays : Note → Told → Type 0
LookSays note (Told.PinnedStripe seen) = note.offset ≡ seen.stripe
LookSays note answer = Unit {0}

look_says : (short : Bool) (who : Actor) (number : ℕ) (note : Note) (d : Directory) → LookSays note (at_directory short who number (DirectoryStep.LookRepair note) d).1
look_says true who number note d = tt
look_says false who number note d = by (find_object note.name d.objects)
  where
    by : (o : Option Object) → LookSays note (look_repair_by who number note d o).1
    by None = tt
    by (Some object) =
        cond_both {A = Directory × Told} (nat_lt note.offset (length object.versions)) (begin_pass who number note (seen_at d object note.offset ∷ []) None d, Told.PinnedStripe (seen_at d object note.offset)) (d, Told.NoSuch)
        (λ r. LookSays note r.1) (λ _. refl) (λ _. tt)

abbrev AwaySays : Server → Told → Type 0
AwaySays s (Told.Away told) = (s.away ≡ true) × (told ≡ s.downs)
AwaySays s answer = Unit {0}

install_says : (short : Bool) (version : ℕ) (s : Server) → AwaySays s (at_server short (ServerStep.Install version) s).1
install_says true version s = tt
install_says false version s = by s.away (is_among version s.held) refl
  where
    by : (away there : Bool) → s.away ≡ away → AwaySays s (install away there version s).1
    by true there e = (e, refl)
    by false true e = tt
    by false false e = tt

abbrev IsPinnedStripe : Told → Type 0
IsPinnedStripe (Told.PinnedStripe seen) = Unit {0}
IsPinnedStripe answer = ⊥

abbrev IsAway : Told → Type 0
IsAway (Told.Away count) = Unit {0}
IsAway answer = ⊥

module _ (most downs : ℕ → ℕ) where
  -- what a rebuild was told of its stripe and its server
  pub record OwnTold (job : Job) (told : List Told) : Type 0 where
    pub stripe : (seen : Seen) → Tells (λ answer. answer ≡ Told.PinnedStripe seen) told → job.note.offset ≡ seen.stripe
    pub away : (count : ℕ) → Tells (λ answer. answer ≡ Told.Away count) told → TellsDowns most downs job.target count

  abbrev pub OwnOutcome : Job → Outcome → Type 0
  OwnOutcome job (Outcome.Unavailable stripe missing) = job.note.offset ≡ stripe
  OwnOutcome job (Outcome.Away count) = TellsDowns most downs job.target count
  OwnOutcome job outcome = Unit {0}

  away_of : (target count : ℕ) (row : Placement) → LostSo most downs target row (found.Away count) → TellsDowns most downs target count
  away_of target count (placement.At epoch) h = h
  away_of target count (placement.Skipped told) h = h

  module _ (script : Script) (who : Actor) (job : Job) (calling : Calling) (places : Places) (at : AtWork script who job calling places) (some : 0 < script.geometry.parity_count) (shortages : Shortage)
      (heard : Heard most downs script.geometry who job places calling.told) (rebuilds : job.note.kind ≡ Kind.Rebuild) (servers : AllServers most downs places.servers) (sure : CallSure most downs script.geometry (tries_of script) job calling.told)
      (before : OwnTold job calling.told) where
    abbrev g : Shape
    g = script.geometry

    abbrev tries : ℕ
    tries = tries_of script

    abbrev told : List Told
    told = first script who job calling places at shortages.coding shortages.step

    abbrev acted : Act
    acted = act script who job calling places at shortages.coding shortages.step

    abbrev made : Places × Told
    made = after script who job calling places at shortages.coding shortages.step

    abbrev now : List Told
    now = tell g job told made.1

    tells_first : (P : Told → Type 0) → (P Told.Gathered → ⊥) → (P Told.Short → ⊥) → (coding has : Bool) → Tells P (told_first coding has g job calling.told) → Tells P calling.told
    tells_first P never short true true h = by (told_either P never g some job calling.told Told.Short h)
      where
        by : Tells P calling.told ⊎ P Told.Short → Tells P calling.told
        by (inl k) = k
        by (inr k) = absurd (short k)
    tells_first P never short true false h = h
    tells_first P never short false has h = h

    stripe_first : (seen : Seen) → Tells (λ answer. answer ≡ Told.PinnedStripe seen) told → job.note.offset ≡ seen.stripe
    stripe_first seen h =
        before.stripe seen (tells_first (λ answer. answer ≡ Told.PinnedStripe seen) (λ e. subst IsPinnedStripe (sym e) tt) (λ e. subst IsPinnedStripe (sym e) tt) shortages.coding (is_in_pass (next_act g tries job calling.told)) h)

    -- the look's answer
    pinned_so : (a : Act) → IsProper g job (HasTry job.note.kind tries told) a → Answers (pin_bound g (size_of script) job.note) (touched_count g job.note) a (at_places shortages.step who (length calling.ended) a places).1
        → (seen : Seen) → (at_places shortages.step who (length calling.ended) a places).1 ≡ Told.PinnedStripe seen → job.note.offset ≡ seen.stripe
    pinned_so (Act.Finish outcome) fits answers seen e = absurd answers
    pinned_so (Act.AtServer server step) fits answers seen e = absurd (none step (subst (ServerAnswers step) e answers))
      where
        none : (x : ServerStep) → ServerAnswers x (Told.PinnedStripe seen) → ⊥
        none (ServerStep.Has version) h = h
        none x h = h
    pinned_so (Act.AtDirectory (DirectoryStep.LookRepair note)) fits answers seen e =
        ap (λ (n : Note). n.offset) (sym fits.0) ∙ subst (LookSays note) e (look_says shortages.step who (length calling.ended) note places.directory)
    pinned_so (Act.AtDirectory step) fits answers seen e = absurd (subst (DirectoryAnswers (pin_bound g (size_of script) job.note) (touched_count g job.note) step) e answers)

    -- a target that is away when the chunk comes
    installs : InstallsAt job.target acted
    installs = subst (λ (k : Kind). InstallsAt job.target (next_by k g tries job told)) (sym rebuilds) (rebuild_so job.target job.note.offset g job.note told stripe_first).0

    away_there : (server version : ℕ) → server ≡ job.target → (there : Option Server) → slice_get places.servers server ≡ there
        → ServerAnswers (ServerStep.Install version) (at_server_there shortages.step server (ServerStep.Install version) places there).1
        → (count : ℕ) → (at_server_there shortages.step server (ServerStep.Install version) places there).1 ≡ Told.Away count → TellsDowns most downs job.target count
    away_there server version same None is answers count e = absurd answers
    away_there server version same (Some s) is answers count e =
        let says : (s.away ≡ true) × (count ≡ s.downs) = subst (AwaySays s) e (install_says shortages.step version s) in
        let knows : ServerKnown most downs job.target s = servers job.target s (subst (λ j. slice_get places.servers j ≡ Some s) same is) in
        let once : 1 ≤ s.downs = knows.away says.0 in
        let within : s.downs ≤ downs job.target = knows.downs_told in
        (omega (arith, once, says.1), omega (arith, within, says.1))

    away_so : (a : Act) → InstallsAt job.target a → Answers (pin_bound g (size_of script) job.note) (touched_count g job.note) a (at_places shortages.step who (length calling.ended) a places).1
        → (count : ℕ) → (at_places shortages.step who (length calling.ended) a places).1 ≡ Told.Away count → TellsDowns most downs job.target count
    away_so (Act.Finish outcome) there answers count e = absurd answers
    away_so (Act.AtDirectory step) there answers count e = absurd (none step (subst (DirectoryAnswers (pin_bound g (size_of script) job.note) (touched_count g job.note) step) e answers))
      where
        none : (x : DirectoryStep) → DirectoryAnswers (pin_bound g (size_of script) job.note) (touched_count g job.note) x (Told.Away count) → ⊥
        none DirectoryStep.Draw h = h
        none x h = h
    away_so (Act.AtServer server (ServerStep.Install version)) there answers count e = away_there server version there (slice_get places.servers server) refl answers count e
    away_so (Act.AtServer server step) there answers count e = absurd (subst (ServerAnswers step) e answers)

    -- one answer more
    pub own_now : OwnTold job now
    own_now =
        record {
          stripe = λ seen h. stripe_by seen (told_either (λ answer. answer ≡ Told.PinnedStripe seen) (λ e. subst IsPinnedStripe (sym e) tt) g some job told made.1 h);
          away = λ count h. away_by count (told_either (λ answer. answer ≡ Told.Away count) (λ e. subst IsAway (sym e) tt) g some job told made.1 h);
        }
      where
        stripe_by : (seen : Seen) → Tells (λ answer. answer ≡ Told.PinnedStripe seen) told ⊎ (made.1 ≡ Told.PinnedStripe seen) → job.note.offset ≡ seen.stripe
        stripe_by seen (inl k) = stripe_first seen k
        stripe_by seen (inr e) = pinned_so acted (proper script who job calling places at shortages.coding shortages.step) (answered script who job calling places at shortages.coding shortages.step).answers seen e

        away_by : (count : ℕ) → Tells (λ answer. answer ≡ Told.Away count) told ⊎ (made.1 ≡ Told.Away count) → TellsDowns most downs job.target count
        away_by count (inl k) =
            before.away count (tells_first (λ answer. answer ≡ Told.Away count) (λ e. subst IsAway (sym e) tt) (λ e. subst IsAway (sym e) tt) shortages.coding (is_in_pass (next_act g tries job calling.told)) k)
        away_by count (inr e) = away_so acted installs (answered script who job calling places at shortages.coding shortages.step).answers count e

    -- the target was away when it was asked
    asked_away : (list : List Told) (count : ℕ) → RebuildHeard g job.target (SureLost most downs) (SureSeen most downs) (SureThere most downs) (SureTook most downs) list → TargetIsAway count list → TellsDowns most downs job.target count
    asked_away (Told.PinnedStripe seen ∷ Told.Missing given ∷ rest) count h is =
        away_of job.target count (row_at seen.placed job.target)
        (subst (LostSo most downs job.target (row_at seen.placed job.target)) is
        (All-head (λ (one : ℕ × Found). SureLost most downs seen one.0 one.1) (job.target, given) (found_missing (gather_chunk g seen job.target) (Told.Missing given ∷ []) rest) h.1.lost))
    asked_away list count h is = absurd is

    -- and where the call ends by it
    pub own_outcome : (outcome : Outcome) → next_act g tries job now ≡ Act.Finish outcome → OwnOutcome job outcome
    own_outcome (Outcome.Unavailable stripe missing) e =
        subst (StripeOf job.note.offset) e (subst (λ (k : Kind). StripeOf job.note.offset (next_by k g tries job now)) (sym rebuilds) (rebuild_so job.target job.note.offset g job.note now own_now.stripe).1)
    own_outcome (Outcome.Away count) e = by caused.0
      where
        caused : IsToldAway count now × Tells (λ answer. answer ≡ Told.Ended) now
        caused = subst (IsCaused g tries now) e (causes g tries job now some)

        sure_now : RebuildHeard g job.target (SureLost most downs) (SureSeen most downs) (SureThere most downs) (SureTook most downs) now
        sure_now =
            subst (λ (k : Kind). HeardBy g job.target (SureLost most downs) (SureSeen most downs) (SureThere most downs) (SureTook most downs) k job.note now) rebuilds
            (step_ended most downs script who job calling places at some shortages heard sure caused.1).1

        by : IsToldAway count now → TellsDowns most downs job.target count
        by (inl is) = asked_away now count sure_now is
        by (inr is) = own_now.away count is
    own_outcome outcome e = tt

-- The whole step of a call: chunks stay as they are known, and what the call is told of them is so.
use Rattle.std.proofs.Common.{◌≡◌, ℕ, ◌+◌, ◌<◌, ◌≤◌, false, List, [], ◌∷◌, length, zip, Option, Some, IfSome, ◌⊎◌, inl, inr, refl, sym, ap, subst, ◌∙◌, arith}
use Rattle.std.proofs.lemmas.Bool.{cases_lt}
use Rattle.std.proofs.lemmas.Option.{same_Some, slice_get_within}
use Rattle.std.specs.List.{slice_get, range_with_len}
use Rattle.clay_grid.specs.Shape.{Shape, chunk_count}
use Rattle.store_map.specs.Limits.{size_of, tries_of}
use Rattle.store_map.specs.declared.actor.Actor.{Actor}
use Rattle.store_map.specs.declared.placement.Placement.{Placement}
use Rattle.store_map.specs.declared.placement.Placement.TheVariants as placement
use Rattle.store_map.specs.declared.script.Script.{Script}
use Rattle.store_core.specs.Act.{Act, DirectoryStep, ServerStep}
use Rattle.store_core.specs.ActPlace.{is_in_pass}
use Rattle.store_core.specs.Bounds.{touched_count}
use Rattle.store_core.specs.Directory.{Version, Pass}
use Rattle.store_core.specs.Lookups.{same_actor, pass_of}
use Rattle.store_core.specs.NextAct.{Job, next_act}
use Rattle.store_core.specs.Note.{Kind}
use Rattle.store_core.specs.PlaceLaws.{KeepsPlaces, new_versions}
use Rattle.store_core.specs.Placements.{placed_anew}
use Rattle.store_core.specs.Server.{Server}
use Rattle.store_core.specs.Sound.{IsSound}
use Rattle.store_core.specs.Step.{Shortage, Places, at_places}
use Rattle.store_core.specs.Tell.{tell}
use Rattle.store_core.specs.Told.{Told}
use Rattle.store_core.specs.Work.{Calling}
use Rattle.store_core.proofs.Places.{directory_keeps_places}
use Rattle.run_laws.specs.Answers.{ServerAnswers, DirectoryAnswers, Answers}
use Rattle.run_laws.specs.CallLeft.{pin_bound}
use Rattle.run_laws.specs.EndLaws.{IsLook}
use Rattle.run_laws.proofs.Commits.{Commits}
use Rattle.run_laws.proofs.Falls.{AtCommit}
use Rattle.run_laws.proofs.CallActs.{IsOfClients, IsOfRepairers, StepOfKind, ActOfKind}
use Rattle.run_laws.proofs.PlaceMoves.{call_step}
use Rattle.run_laws.proofs.Phases.{phase_of, rank}
use Rattle.run_laws.proofs.Proper.{IsProper, HasTry, IsWriting}
use Rattle.run_laws.proofs.Readies.{drawn_count, PassReady, Ready}
use Rattle.run_laws.proofs.ReadyActors.{short_ready}
use Rattle.run_laws.proofs.ToldVersions.{versions_told}
use Rattle.run_laws.proofs.Passes.{IsCallStep, PassMoves, passes_move}
use Rattle.history_laws.proofs.AtWork.{AtWork, pass_number, first}
use Rattle.history_laws.proofs.KeptVersions.{IsGone, repair_well}
use Rattle.history_laws.proofs.LossesActs.{Known, AllServers, SeenBy, Missed, There, TookAt, Heard, SaysAt, MovesOn, heard_on, server_on, server_known, server_says, own_on, other_on, directory_known}
use Rattle.history_laws.proofs.LossesCalls.{first_heard, look_well, one_stripe, past_row, same_versions, directory_said, writes_drawn, writes_say, repairs_say, is_rebuild}
use Rattle.history_laws.proofs.LossesCommits.{CommitSays, RepairSays, row_from_at, rows_at}
use Rattle.history_laws.proofs.LossesDirectory.{LookTold, looked_so, range_below}
use Rattle.history_laws.proofs.LossesHeard.{Looking, heard_more}
use Rattle.history_laws.proofs.LossesRows.{AllOf, Placing, RowFrom}
use Rattle.history_laws.proofs.LossesState.{TellsPlaced, PinsIt}
use Rattle.history_laws.proofs.LossesWeaker.{heard_at_look}
use Rattle.history_laws.proofs.ServerChunks.{TookOrLost, HasOrLost}
use Rattle.history_laws.proofs.VersionMoves.{row_at, StepChange}

look_or_not : (step : DirectoryStep) → IsLook (Act.AtDirectory step) ⊎ (IsLook (Act.AtDirectory step) → ⊥)
look_or_not (DirectoryStep.Look note) = inl tt
look_or_not (DirectoryStep.LookRepair note) = inl tt
look_or_not step = inr (λ h. h)

module _ (most downs : ℕ → ℕ) (script : Script) (who : Actor) (job : Job) (calling : Calling) (places : Places) (at : AtWork script who job calling places) (some : 0 < chunk_count script.geometry) (shortages : Shortage)
    (known : Known most downs places) (servers : AllServers most downs places.servers) (heard : Heard most downs script.geometry who job places calling.told) where
  abbrev pub g : Shape
  g = script.geometry

  abbrev pub tries : ℕ
  tries = tries_of script

  abbrev pub told : List Told
  told = first script who job calling places at shortages.coding shortages.step

  abbrev pub made : Act → Places × Told
  made x = at_places shortages.step who (length calling.ended) x places

  pub told_heard : Heard most downs g who job places told
  told_heard = first_heard most downs g who job places tries calling.told shortages.coding (is_in_pass (next_act g tries job calling.told)) heard

  -- after the step
  pub record Own (x : Act) : Type 0 where
    pub heard_now : Heard most downs g who job (made x).0 (tell g job told (made x).1)
    pub known_now : Known most downs (made x).0
    pub others : (other : Actor) → same_actor other who ≡ false → (kind : Kind) → MovesOn most downs other kind places (made x).0

  first_ready : Ready (drawn_count g job.note) who (length calling.ended) (rank (phase_of (next_act g tries job told))) (versions_told told) places.directory
  first_ready = short_ready g tries job at.target who (length calling.ended) calling.told places.directory shortages.coding (is_in_pass (next_act g tries job calling.told)) at.ready

  module _ (step : DirectoryStep) (e : next_act g tries job told ≡ Act.AtDirectory step) (answers : DirectoryAnswers (pin_bound g (size_of script) job.note) (touched_count g job.note) step (made (Act.AtDirectory step)).1)
      (mine : IsCallStep job.note step) (kinds : StepOfKind g job.note.kind step) (sound_now : IsSound (made (Act.AtDirectory step)).0.directory) where
    abbrev now : Places
    now = (made (Act.AtDirectory step)).0

    abbrev answer : Told
    answer = (made (Act.AtDirectory step)).1

    kept_places : KeepsPlaces places.directory now.directory answer
    kept_places = directory_keeps_places shortages.step who (length calling.ended) step places.directory

    -- what was drawn is there
    drawn_there : (versions : List ℕ) → answer ≡ Told.Versions versions → AllOf (There most downs now) versions
    drawn_there versions is =
        subst (AllOf (There most downs now)) (sym numbers)
        (range_below (length places.directory.versions) (length versions) (length now.directory.versions) (omega (arith, size)) (There most downs now) (λ n low. low) (AllOf (There most downs now)) tt (λ n ns p h. (p, h)))
      where
        new : new_versions answer ≡ versions
        new = ap new_versions is

        numbers : versions ≡ range_with_len (length places.directory.versions) (length versions)
        numbers = subst (λ (l : List ℕ). l ≡ range_with_len (length places.directory.versions) (length l)) new kept_places.numbers

        size : length now.directory.versions ≡ length places.directory.versions + length versions
        size = subst (λ (l : List ℕ). length now.directory.versions ≡ length places.directory.versions + length l) new kept_places.versions

    placing_so : (x : DirectoryStep) (a : Told) → DirectoryAnswers (pin_bound g (size_of script) job.note) (touched_count g job.note) x a → ((versions : List ℕ) → a ≡ Told.Versions versions → AllOf (There most downs now) versions)
        → Placing (There most downs now) (TookAt most downs now) (Act.AtDirectory x) a
    placing_so (DirectoryStep.Look note) (Told.Prepared row) h f = absurd h
    placing_so x (Told.Prepared row) h f = absurd h
    placing_so x (Told.Versions versions) h f = f versions refl
    placing_so x a h f = tt

    shape_now : now.directory.shape ≡ g
    shape_now =
        let moves : PassMoves who job.note places.directory now.directory answer = passes_move shortages.step who (length calling.ended) job.note step places.directory at.self mine in
        moves.shape ∙ at.fit.shape

    some_now : 0 < chunk_count now.directory.shape
    some_now = subst (λ (s : Shape). 0 < chunk_count s) (sym shape_now) some

    not_rebuild : IsOfClients job.note.kind → job.note.kind ≡ Kind.Rebuild → ⊥
    not_rebuild h is = subst IsOfClients is h

    looking_so : (x : DirectoryStep) (a : Told) → DirectoryAnswers (pin_bound g (size_of script) job.note) (touched_count g job.note) x a → StepOfKind g job.note.kind x → LookTold who places.directory now.directory a
        → Looking g job.target (Missed most downs now) (SeenBy most downs who job.note.kind now) (There most downs now) (TookAt most downs now) a
    looking_so (DirectoryStep.Look note) (Told.Pinned point length_now stripes) h k looks =
        look_well most downs places now.directory sound_now some_now known who job.note.kind stripes looks (λ r. absurd (not_rebuild k r))
    looking_so (DirectoryStep.Look note) (Told.Ready base length_now stripes) h k looks =
        look_well most downs places now.directory sound_now some_now known who job.note.kind stripes looks (λ r. absurd (not_rebuild k r))
    looking_so (DirectoryStep.LookRepair note) (Told.PinnedStripe seen) h k looks =
        (look_well most downs places now.directory sound_now some_now known who job.note.kind (seen ∷ []) looks (λ r i other s j a b. one_stripe seen i other s j a b)).0
    looking_so (DirectoryStep.Look note) (Told.PinnedStripe seen) h k looks = absurd h
    looking_so x (Told.Pinned point length_now stripes) h k looks = absurd h
    looking_so x (Told.Ready base length_now stripes) h k looks = absurd h
    looking_so x (Told.PinnedStripe seen) h k looks = absurd h
    looking_so x a h k looks = tt

    says : SaysAt most downs g who job now (Act.AtDirectory step) answer
    says =
        record {
          said = directory_said (pin_bound g (size_of script) job.note) (touched_count g job.note) step answer answers;
          placing = placing_so step answer answers drawn_there;
          asking = tt;
          installing = tt;
          looking = looking_so step answer answers kinds (looked_so who (length calling.ended) job.note at.self places.directory shortages.step step mine);
        }

    before_heard : IsLook (Act.AtDirectory step) ⊎ (IsLook (Act.AtDirectory step) → ⊥) → Heard most downs g who job now told
    before_heard (inl looks) =
        heard_at_look g job.target (Missed most downs now) (SeenBy most downs who job.note.kind now) (There most downs now) (TookAt most downs now) job.note.kind tries job.note told (subst IsLook (sym e) looks)
    before_heard (inr not_look) =
        heard_on most downs g who job places now told
        (own_on most downs shortages.step who at.self (length calling.ended) job.note step places at.sound mine (pass_number script who job calling places at) (pin_bound g (size_of script) job.note) (touched_count g job.note) answers not_look job.note.kind)
        told_heard

    -- ---- placements change well
    abbrev Well : DirectoryStep → Type 0
    Well x =
        (n : ℕ) (old : Version) → slice_get places.directory.versions n ≡ Some old → (new : List Placement) → StepChange x (pass_of who places.directory) n old.placed new
        → ((j : ℕ) (s : Server) → slice_get places.servers j ≡ Some s → IsGone old ⊎ TookOrLost s n (row_at new j)) × ((j : ℕ) → TellsPlaced most downs j (row_at new j))

    commit_well : (rows : List (List Placement)) → next_act g tries job told ≡ Act.AtDirectory (DirectoryStep.Commit rows) → IsWriting job.note.kind → Well (DirectoryStep.Commit rows)
    commit_well rows is writes n old there new committed = by says_so
      where
        says_so : CommitSays (There most downs places) (TookAt most downs places) (chunk_count g) told (Act.AtDirectory (DirectoryStep.Commit rows))
        says_so = subst (CommitSays (There most downs places) (TookAt most downs places) (chunk_count g) told) is (writes_say most downs g who job places tries told job.note.kind writes told_heard)

        facts : Commits told (next_act g tries job told)
        facts = writes_drawn job.note.kind g tries job told writes (subst AtCommit (sym is) tt)

        right : PassReady (drawn_count g job.note) (length calling.ended) (rank (phase_of (next_act g tries job told))) (versions_told told) committed.pass.number committed.pass.drawn
        right =
            subst
            (λ (o : Option Pass). IfSome o (λ p. PassReady (drawn_count g job.note) (length calling.ended) (rank (phase_of (next_act g tries job told))) (versions_told told) p.number p.drawn))
            committed.is first_ready.pass

        by : CommitSays (There most downs places) (TookAt most downs places) (chunk_count g) told (Act.AtDirectory (DirectoryStep.Commit rows))
            → ((j : ℕ) (s : Server) → slice_get places.servers j ≡ Some s → IsGone old ⊎ TookOrLost s n (row_at new j)) × ((j : ℕ) → TellsPlaced most downs j (row_at new j))
        by (versions, more, filtered, good) = (kept, tells)
          where
            drawn : committed.pass.drawn ≡ versions
            drawn = (right.all_drawn facts.drawn facts.versions).0 ∙ same_versions facts.drawn versions more (sym facts.versions ∙ filtered)

            row : RowFrom (There most downs places) (TookAt most downs places) n 0 new × (length new ≡ chunk_count g)
            row =
                rows_at (There most downs places) (TookAt most downs places) (chunk_count g) versions rows committed.row.0 n new good
                (subst (λ (l : List ℕ). slice_get (zip l rows) committed.row.0 ≡ Some (n, new)) drawn committed.row.1)

            took : (j : ℕ) → j < length new → TookAt most downs places j n (row_at new j)
            took j low =
                subst (λ i. TookAt most downs places i n (row_at new j)) (let same : 0 + j ≡ j = omega arith in same)
                (row_from_at (There most downs places) (TookAt most downs places) (chunk_count g) n 0 new j row.0 low)

            kept : (j : ℕ) (s : Server) → slice_get places.servers j ≡ Some s → IsGone old ⊎ TookOrLost s n (row_at new j)
            kept j s found =
                let low : j < length places.servers = slice_get_within places.servers j s found in
                let size : length new ≡ chunk_count g = row.1 in
                let count : length places.servers ≡ chunk_count g = at.fit.servers in
                (took j (omega (arith, low, size, count))).kept old there s found

            tells : (j : ℕ) → TellsPlaced most downs j (row_at new j)
            tells j = two (cases_lt j (length new))
              where
                two : (j < length new) ⊎ (length new ≤ j) → TellsPlaced most downs j (row_at new j)
                two (inl low) = (took j low).tells
                two (inr past) = subst (TellsPlaced most downs j) (sym (past_row new j past)) tt

    anew_tells : (j epoch : ℕ) (row : Placement) → TellsPlaced most downs j (placed_anew epoch row)
    anew_tells j epoch (placement.At earlier) = tt
    anew_tells j epoch (placement.Skipped skipped) = tt

    repair_so : (server epoch : ℕ) → next_act g tries job told ≡ Act.AtDirectory (DirectoryStep.Repaired server epoch) → IsOfRepairers job.note.kind → Well (DirectoryStep.Repaired server epoch)
    repair_so server epoch is rebuilds n old there new change =
        by (subst (RepairSays g (There most downs places) (TookAt most downs places) job.target (Missed most downs places) (SeenBy most downs who job.note.kind places)) is (repairs_say most downs g who job places tries told job.note.kind rebuilds told_heard))
      where
        by : RepairSays g (There most downs places) (TookAt most downs places) job.target (Missed most downs places) (SeenBy most downs who job.note.kind places) (Act.AtDirectory (DirectoryStep.Repaired server epoch))
            → ((j : ℕ) (s : Server) → slice_get places.servers j ≡ Some s → IsGone old ⊎ TookOrLost s n (row_at new j)) × ((j : ℕ) → TellsPlaced most downs j (row_at new j))
        by (seen, w, took) = (repair_well server epoch places.servers places.directory.versions n old there sized new change.raised.raised known.kept anew, tells)
          where
            pins : PinsIt job.note.kind seen.version change.pass.pinned
            pins = subst (λ (o : Option Pass). IfSome o (λ pass. PinsIt job.note.kind seen.version pass.pinned)) change.is w.1

            same : n ≡ seen.version
            same = sym change.raised.of_version ∙ pins.only (is_rebuild job.note.kind rebuilds) change.raised.place change.raised.pin change.raised.pinned

            sized : 0 < length old.placed
            sized =
                subst (λ (v : Version). 0 < length v.placed) (same_Some w.0.version old (sym w.0.found ∙ subst (λ i. slice_get places.directory.versions i ≡ Some old) same there)) w.0.some

            anew : (s : Server) → slice_get places.servers server ≡ Some s → IsGone old ⊎ HasOrLost s n epoch
            anew s found = subst (λ i. IsGone old ⊎ HasOrLost s i epoch) (sym same) (took.kept old (subst (λ i. slice_get places.directory.versions i ≡ Some old) same there) s found)

            tells : (j : ℕ) → TellsPlaced most downs j (row_at new j)
            tells j = two (change.raised.raised j)
              where
                two : (row_at new j ≡ row_at old.placed j) ⊎ ((j ≡ server) × (row_at new j ≡ placed_anew epoch (row_at old.placed j))) → TellsPlaced most downs j (row_at new j)
                two (inl k) = subst (TellsPlaced most downs j) (sym k) (known.tells n old there j)
                two (inr k) = subst (TellsPlaced most downs j) (sym k.1) (anew_tells j epoch (row_at old.placed j))

    well : (x : DirectoryStep) → next_act g tries job told ≡ Act.AtDirectory x → StepOfKind g job.note.kind x → Well x
    well (DirectoryStep.Commit rows) is k = commit_well rows is k.0
    well (DirectoryStep.Repaired server epoch) is k = repair_so server epoch is k.0
    well x is k = λ n old there new change. absurd change

    directory_own : Own (Act.AtDirectory step)
    directory_own =
        record {
          heard_now =
              heard_more g tries job (Missed most downs now) (SeenBy most downs who job.note.kind now) (There most downs now) (TookAt most downs now) told answer
              (subst (λ x. SaysAt most downs g who job now x answer) (sym e) says) (before_heard (look_or_not step));
          known_now = directory_known most downs shortages.step who at.self (length calling.ended) job.note step places at.sound mine (pass_number script who job calling places at) (well step e kinds) known;
          others = λ other apart kind. other_on most downs shortages.step who at.self (length calling.ended) job.note step places at.sound mine (pass_number script who job calling places at) other apart kind;
        }

  server_own : (server : ℕ) (step : ServerStep) → next_act g tries job told ≡ Act.AtServer server step → ServerAnswers step (made (Act.AtServer server step)).1 → Own (Act.AtServer server step)
  server_own server step e answers =
      let found : Option Server = slice_get places.servers server in
      let now : Places = (made (Act.AtServer server step)).0 in
      let answer : Told = (made (Act.AtServer server step)).1 in
      record {
        heard_now =
            heard_more g tries job (Missed most downs now) (SeenBy most downs who job.note.kind now) (There most downs now) (TookAt most downs now) told answer
            (subst (λ x. SaysAt most downs g who job now x answer) (sym e) (server_says most downs shortages.step server step places g who job known servers found refl answers))
            (heard_on most downs g who job places now told (server_on most downs shortages.step server step places found refl answers who job.note.kind) told_heard);
        known_now = server_known most downs shortages.step server step places found refl answers known;
        others = λ other apart kind. server_on most downs shortages.step server step places found refl answers other kind;
      }

  pub own_step : (x : Act) → next_act g tries job told ≡ x → Answers (pin_bound g (size_of script) job.note) (touched_count g job.note) x (made x).1 → IsProper g job (HasTry job.note.kind tries told) x → ActOfKind g job.note.kind x
      → IsSound (made x).0.directory → Own x
  own_step (Act.AtDirectory step) e answers is_proper kinds sound_now = directory_own step e answers (call_step job (HasTry job.note.kind tries told) step is_proper) kinds sound_now
  own_step (Act.AtServer server step) e answers is_proper kinds sound_now = server_own server step e answers
  own_step (Act.Finish outcome) e answers is_proper kinds sound_now = absurd answers

-- A step of a call: what it hears of chunks stays so in the trace, and placements come about by steps.
use Rattle.std.proofs.Common.{◌≡◌, ◌⊎◌, inl, inr, ℕ, zero, suc, ◌+◌, ◌<◌, Bool, true, false, ◌&&◌, List, [], ◌∷◌, ◌++◌, length, map, zip, Option, None, Some, IfSome, max, refl, sym, ap, subst, ◌∙◌, arith}
use Rattle.std.proofs.lemmas.Option.{none-some, same_Some}
use Rattle.std.specs.List.{slice_get}
use Rattle.clay_grid.specs.Shape.{Shape, chunk_count}
use Rattle.store_map.specs.Limits.{size_of, tries_of}
use Rattle.store_map.specs.declared.actor.Actor.{Actor}
use Rattle.store_map.specs.declared.placement.Placement.{Placement}
use Rattle.store_map.specs.declared.placement.Placement.TheVariants as placement
use Rattle.store_map.specs.declared.script.Script.{Script}
use Rattle.store_core.specs.Act.{Act, DirectoryStep, ServerStep}
use Rattle.store_core.specs.ActPlace.{is_in_pass}
use Rattle.store_core.specs.Bounds.{touched_count}
use Rattle.store_core.specs.Directory.{Version, Pin, Pass, Directory}
use Rattle.store_core.specs.Look.{pin_of}
use Rattle.store_core.specs.Lookups.{pass_of}
use Rattle.store_core.specs.NextAct.{Job, next_by, next_act}
use Rattle.store_core.specs.Note.{Kind}
use Rattle.store_core.specs.Placements.{placed_anew}
use Rattle.store_core.specs.Server.{Server, at_server}
use Rattle.store_core.specs.Step.{Shortage, Places, at_places, at_server_there, told_first}
use Rattle.store_core.specs.Tell.{tell}
use Rattle.store_core.specs.Told.{Told, Seen}
use Rattle.store_core.specs.Work.{Calling}
use Rattle.run_laws.specs.Answers.{ServerAnswers, DirectoryAnswers, Answers}
use Rattle.run_laws.specs.CallLeft.{pin_bound}
use Rattle.run_laws.specs.EndLaws.{IsLook}
use Rattle.run_laws.proofs.Commits.{Commits}
use Rattle.run_laws.proofs.Falls.{AtCommit}
use Rattle.run_laws.proofs.CallActs.{IsOfClients, IsOfRepairers, StepOfKind, ActOfKind}
use Rattle.run_laws.proofs.LiveVersions.{sound_live}
use Rattle.run_laws.proofs.Phases.{phase_of, rank}
use Rattle.run_laws.proofs.PlaceMoves.{call_step}
use Rattle.run_laws.proofs.Proper.{IsProper, HasTry, IsWriting}
use Rattle.run_laws.proofs.Readies.{drawn_count, PassReady, Ready}
use Rattle.run_laws.proofs.ReadyActors.{short_ready}
use Rattle.run_laws.proofs.ToldVersions.{versions_told}
use Rattle.run_laws.proofs.Passes.{IsCallStep}
use Rattle.run_laws.proofs.SoundLists.{contains_at}
use Rattle.history_laws.proofs.AtWork.{AtWork, pass_number, first, act, after, proper, answered, of_kind}
use Rattle.history_laws.proofs.LossesActs.{own_on}
use Rattle.history_laws.proofs.LossesCalls.{one_stripe, same_versions, directory_said, writes_drawn, is_rebuild}
use Rattle.history_laws.proofs.LossesCommits.{CommitSays, RepairSays, row_from_at, rows_at, put_commits, write_commits, rebuild_repairs}
use Rattle.history_laws.proofs.LossesDirectory.{LooksSo, LookTold, looked_so}
use Rattle.history_laws.proofs.LossesHeard.{AllSeen, Asking, Installing, Looking, HeardBy, heard_more}
use Rattle.history_laws.proofs.LossesRows.{AllOf, Placing, RowFrom}
use Rattle.history_laws.proofs.LossesState.{Pinned, PinsIt}
use Rattle.history_laws.proofs.LossesWeaker.{heard_less, heard_at_look}
use Rattle.history_laws.proofs.VersionMoves.{row_at, Moved, StepVersions, StepChange, versions_move}
use Rattle.history_laws.specs.Trace.{Made}
use Rattle.history_laws.specs.LostChunks.{TellsSeen, PlacesChunk as PlacesIt}
use Rattle.history_laws.proofs.Counts.{AllCounted}
use Rattle.history_laws.proofs.LossTold.{Placed, OwnPlaces, OwnLooks, OwnLacks, Lost, Looked, Any, Took, HeardThen, SaysThen, RowsThen, server_says, all_seen, seen_rows}
use Rattle.history_laws.proofs.Past.{last, on, weaker, not_last}

-- ---- when more is made
-- where the actor's pins stay
pub heard_on : (g : Shape) (trace more : List Made) (before after : Directory) (who : Actor) (number : ℕ) (job : Job) (told : List Told)
    → ((n : ℕ) → Pinned who job.note.kind before n → Pinned who job.note.kind after n) → HeardThen g trace before who number job told → HeardThen g (trace ++ more) after who number job told
heard_on g trace more before after who number job told pins h =
    heard_less g job.target (Lost trace who number) (Lost (trace ++ more) who number) (Looked trace before who number job.note.kind) (Looked (trace ++ more) after who number job.note.kind) Any Any (Took trace who number) (Took (trace ++ more) who number)
    (λ seen w server reason k. on (OwnLacks who number seen server reason) trace more k)
    (λ seen w. (on (OwnLooks who number seen) trace more w.0, pins seen.version w.1))
    (λ version k. k)
    (λ server version row k. on (OwnPlaces who number server version row) trace more k)
    job.note.kind job.note told h

pub rows_on : (trace more : List Made) (versions : List Version) → RowsThen trace versions → RowsThen (trace ++ more) versions
rows_on trace more versions rows n version e j low = on (PlacesIt j n (row_at version.placed j)) trace more (rows n version e j low)

-- where a step changes placements well
pub rows_move : (trace : List Made) (made : Made) (before after : List Version) (ok : ℕ → List Placement → List Placement → Type 0) → StepVersions ok before after
    → ((n : ℕ) (old : Version) → slice_get before n ≡ Some old → (new : List Placement) → ok n old.placed new → (j : ℕ) → j < length new → Placed (trace ++ made ∷ []) j n (row_at new j))
    → RowsThen trace before → RowsThen (trace ++ made ∷ []) after
rows_move trace made before after ok moved well rows n version e = by (slice_get before n) refl
  where
    by : (found : Option Version) → slice_get before n ≡ found → (j : ℕ) → j < length version.placed → Placed (trace ++ made ∷ []) j n (row_at version.placed j)
    by None there j low =
        let none : version.placed ≡ [] = moved.fresh n version there e in
        absurd (let size : length version.placed ≡ 0 = ap (λ (l : List Placement). length l) none in omega (arith, size, low))
    by (Some old) there j low =
        let m : Moved ok n old after = moved.moves n old there in
        let same : m.new ≡ version = same_Some m.new version (sym m.found ∙ e) in
        two m same m.placed
      where
        two : (m : Moved ok n old after) → m.new ≡ version → (m.new.placed ≡ old.placed) ⊎ ok n old.placed m.new.placed → Placed (trace ++ made ∷ []) j n (row_at version.placed j)
        two m same (inl is) =
            let placed : version.placed ≡ old.placed = ap (λ (v : Version). v.placed) (sym same) ∙ is in
            let size : length version.placed ≡ length old.placed = ap (λ (l : List Placement). length l) placed in
            subst (λ (l : List Placement). Placed (trace ++ made ∷ []) j n (row_at l j)) (sym placed) (on (PlacesIt j n (row_at old.placed j)) trace (made ∷ []) (rows n old there j (omega (arith, size, low))))
        two m same (inr change) =
            subst (λ (v : Version). Placed (trace ++ made ∷ []) j n (row_at v.placed j)) same
            (well n old there m.new.placed change j (let size : length m.new.placed ≡ length version.placed = ap (λ (v : Version). length v.placed) same in omega (arith, size, low)))

-- ---- a look's pins
pin_there : (stripes : List Seen) (k : ℕ) (seen : Seen) → slice_get stripes k ≡ Some seen → slice_get (map pin_of stripes) k ≡ Some (pin_of seen)
pin_there [] k seen e = absurd (none-some seen e)
pin_there (s ∷ stripes) zero seen e = ap (λ (x : Seen). Some (pin_of x)) (same_Some s seen e)
pin_there (s ∷ stripes) (suc k) seen e = pin_there stripes k seen e

look_pins : (who : Actor) (before now : Directory) (kind : Kind) (stripes : List Seen) → LooksSo who before now stripes
    → (kind ≡ Kind.Rebuild → (k : ℕ) (other : Pin) (seen : Seen) (j : ℕ) → slice_get (map pin_of stripes) k ≡ Some other → slice_get stripes j ≡ Some seen → other.version ≡ seen.version)
    → (k : ℕ) (seen : Seen) → slice_get stripes k ≡ Some seen → Pinned who kind now seen.version
look_pins who before now kind stripes looks only k seen e =
    subst (λ (o : Option Pass). IfSome o (λ pass. PinsIt kind seen.version pass.pinned)) (sym looks.found)
    (record {
      place = k;
      pin = pin_of seen;
      found = subst (λ (l : List Pin). slice_get l k ≡ Some (pin_of seen)) (sym looks.pinned) (pin_there stripes k seen e);
      is = refl;
      only = λ r i other at. only r i other seen k (subst (λ (l : List Pin). slice_get l i ≡ Some other) looks.pinned at) e;
    })

look_or_not : (step : DirectoryStep) → IsLook (Act.AtDirectory step) ⊎ (IsLook (Act.AtDirectory step) → ⊥)
look_or_not (DirectoryStep.Look note) = inl tt
look_or_not (DirectoryStep.LookRepair note) = inl tt
look_or_not step = inr (λ h. h)

no_count : ℕ → ℕ
no_count j = 0

module _ (script : Script) (who : Actor) (job : Job) (calling : Calling) (places : Places) (at : AtWork script who job calling places) (shortages : Shortage) (trace : List Made)
    (counts : AllCounted trace places.servers) (rows : RowsThen trace places.directory.versions)
    (heard : HeardThen script.geometry trace places.directory who (length calling.ended) job calling.told) where
  abbrev g : Shape
  g = script.geometry

  abbrev tries : ℕ
  tries = tries_of script

  abbrev number : ℕ
  number = length calling.ended

  abbrev d : Directory
  d = places.directory

  abbrev told : List Told
  told = first script who job calling places at shortages.coding shortages.step

  abbrev done : Act → Places × Told
  done x = at_places shortages.step who (length calling.ended) x places

  abbrev made : Act → Made
  made x = record { who = who; number = length calling.ended; short = shortages.coding && is_in_pass (next_act script.geometry (tries_of script) job calling.told); act = x; answer = (at_places shortages.step who (length calling.ended) x places).1 }

  -- ---- want of memory before the act
  placing_short : (a : Act) → Placing Any (Took trace who number) a Told.Short
  placing_short (Act.AtServer server (ServerStep.Prepare version)) = tt
  placing_short a = tt

  asking_short : (a : Act) → Asking g job.target (Lost trace who number) (Looked trace d who number job.note.kind) Any (Took trace who number) a Told.Short
  asking_short (Act.AtServer server step) = tt
  asking_short a = tt

  installing_short : (a : Act) → Installing g job.target (Lost trace who number) (Looked trace d who number job.note.kind) Any (Took trace who number) a Told.Short
  installing_short (Act.AtServer server (ServerStep.Install version)) = tt
  installing_short a = tt

  pub told_heard : HeardThen g trace d who number job told
  told_heard = by shortages.coding (is_in_pass (next_act g tries job calling.told))
    where
      by : (coding has : Bool) → HeardThen g trace d who number job (told_first coding has g job calling.told)
      by true true =
          heard_more g tries job (Lost trace who number) (Looked trace d who number job.note.kind) Any (Took trace who number) calling.told Told.Short
          (record {
            said = tt;
            placing = placing_short (next_act g tries job calling.told);
            asking = asking_short (next_act g tries job calling.told);
            installing = installing_short (next_act g tries job calling.told);
            looking = tt;
          }) heard
      by true false = heard
      by false has = heard

  pub first_ready : Ready (drawn_count g job.note) who (length calling.ended) (rank (phase_of (next_act g tries job told))) (versions_told told) places.directory
  first_ready = short_ready g tries job at.target who (length calling.ended) calling.told places.directory shortages.coding (is_in_pass (next_act g tries job calling.told)) at.ready

  -- after the step
  pub record After (x : Act) : Type 0 where
    pub heard_now : HeardThen g (trace ++ made x ∷ []) (done x).0.directory who number job (tell g job told (done x).1)
    pub rows_now : RowsThen (trace ++ made x ∷ []) (done x).0.directory.versions

  -- ---- at the directory
  module _ (step : DirectoryStep) (e : next_act g tries job told ≡ Act.AtDirectory step) (answers : DirectoryAnswers (pin_bound g (size_of script) job.note) (touched_count g job.note) step (done (Act.AtDirectory step)).1)
      (mine : IsCallStep job.note step) (kinds : StepOfKind g job.note.kind step) where
    abbrev m : Made
    m = made (Act.AtDirectory step)

    abbrev more : List Made
    more = trace ++ made (Act.AtDirectory step) ∷ []

    abbrev now : Directory
    now = (done (Act.AtDirectory step)).0.directory

    abbrev answer : Told
    answer = (done (Act.AtDirectory step)).1

    any_of : (versions : List ℕ) → AllOf Any versions
    any_of [] = tt
    any_of (version ∷ versions) = (tt, any_of versions)

    placing_so : (x : DirectoryStep) (a : Told) → DirectoryAnswers (pin_bound g (size_of script) job.note) (touched_count g job.note) x a → Placing Any (Took more who number) (Act.AtDirectory x) a
    placing_so (DirectoryStep.Look note) (Told.Prepared row) h = absurd h
    placing_so x (Told.Prepared row) h = absurd h
    placing_so x (Told.Versions versions) h = any_of versions
    placing_so x a h = tt

    looked_at : (stripes : List Seen) → LooksSo who d now stripes → ((k : ℕ) (seen : Seen) → slice_get stripes k ≡ Some seen → TellsSeen seen answer)
        → (job.note.kind ≡ Kind.Rebuild → (k : ℕ) (other : Pin) (seen : Seen) (j : ℕ) → slice_get (map pin_of stripes) k ≡ Some other → slice_get stripes j ≡ Some seen → other.version ≡ seen.version)
        → AllSeen (Looked more now who number job.note.kind) stripes
    looked_at stripes looks tells only =
        all_seen (Looked more now who number job.note.kind) stripes
        (λ k seen is. (last (OwnLooks who number seen) trace m ((refl, refl), tells k seen is, seen_rows trace d.versions rows stripes looks.rows k seen is), look_pins who d now job.note.kind stripes looks only k seen is))

    not_rebuild : IsOfClients job.note.kind → job.note.kind ≡ Kind.Rebuild → ⊥
    not_rebuild h is = subst IsOfClients is h

    looking_so : (x : DirectoryStep) (a : Told) → answer ≡ a → DirectoryAnswers (pin_bound g (size_of script) job.note) (touched_count g job.note) x a → StepOfKind g job.note.kind x → LookTold who d now a
        → Looking g job.target (Lost more who number) (Looked more now who number job.note.kind) Any (Took more who number) a
    looking_so (DirectoryStep.Look note) (Told.Pinned point length_now stripes) is h k looks =
        looked_at stripes looks (λ i seen there. subst (TellsSeen seen) (sym is) (contains_at stripes i seen there)) (λ r. absurd (not_rebuild k r))
    looking_so (DirectoryStep.Look note) (Told.Ready base length_now stripes) is h k looks =
        looked_at stripes looks (λ i seen there. subst (TellsSeen seen) (sym is) (contains_at stripes i seen there)) (λ r. absurd (not_rebuild k r))
    looking_so (DirectoryStep.LookRepair note) (Told.PinnedStripe seen) is h k looks =
        (looked_at (seen ∷ []) looks (λ i s there. subst (TellsSeen s) (sym is) (one s i there)) (λ r i other s j a b. one_stripe seen i other s j a b)).0
      where
        one : (s : Seen) (i : ℕ) → slice_get (seen ∷ []) i ≡ Some s → seen ≡ s
        one s zero there = same_Some seen s there
        one s (suc i) there = absurd (none-some s there)
    looking_so (DirectoryStep.Look note) (Told.PinnedStripe seen) is h k looks = absurd h
    looking_so x (Told.Pinned point length_now stripes) is h k looks = absurd h
    looking_so x (Told.Ready base length_now stripes) is h k looks = absurd h
    looking_so x (Told.PinnedStripe seen) is h k looks = absurd h
    looking_so x a is h k looks = tt

    says : SaysThen g more now who number job (Act.AtDirectory step) answer
    says =
        record {
          said = directory_said (pin_bound g (size_of script) job.note) (touched_count g job.note) step answer answers;
          placing = placing_so step answer answers;
          asking = tt;
          installing = tt;
          looking = looking_so step answer refl answers kinds (looked_so who (length calling.ended) job.note at.self d shortages.step step mine);
        }

    before_heard : IsLook (Act.AtDirectory step) ⊎ (IsLook (Act.AtDirectory step) → ⊥) → HeardThen g more now who number job told
    before_heard (inl looks) =
        heard_at_look g job.target (Lost more who number) (Looked more now who number job.note.kind) Any (Took more who number) job.note.kind tries job.note told (subst IsLook (sym e) looks)
    before_heard (inr not_look) =
        heard_on g trace (m ∷ []) d now who number job told
        (own_on no_count no_count shortages.step who at.self (length calling.ended) job.note step places at.sound mine (pass_number script who job calling places at) (pin_bound g (size_of script) job.note) (touched_count g job.note) answers not_look job.note.kind).pins
        told_heard

    -- ---- placements
    placed_by : (server version : ℕ) (row : Placement) → Took trace who number server version row → Placed more server version row
    placed_by server version row took =
        on (PlacesIt server version row) trace (m ∷ []) (weaker (OwnPlaces who number server version row) (PlacesIt server version row) (λ before x k. k.1) trace took)

    abbrev Well : DirectoryStep → Type 0
    Well x = (n : ℕ) (old : Version) → slice_get d.versions n ≡ Some old → (new : List Placement) → StepChange x (pass_of who d) n old.placed new → (j : ℕ) → j < length new → Placed more j n (row_at new j)

    writes_say : (kind : Kind) → IsWriting kind → HeardBy g job.target (Lost trace who number) (Looked trace d who number job.note.kind) Any (Took trace who number) kind job.note told
        → CommitSays Any (Took trace who number) (chunk_count g) told (next_by kind g tries job told)
    writes_say Kind.Put writes h = put_commits g Any (Took trace who number) job.target (Lost trace who number) (Looked trace d who number job.note.kind) job.note told h
    writes_say Kind.Write writes h = write_commits g Any (Took trace who number) job.target (Lost trace who number) (Looked trace d who number job.note.kind) tries job.note [] told h
    writes_say kind writes h = absurd writes

    repairs_say : (kind : Kind) → IsOfRepairers kind → HeardBy g job.target (Lost trace who number) (Looked trace d who number job.note.kind) Any (Took trace who number) kind job.note told
        → RepairSays g Any (Took trace who number) job.target (Lost trace who number) (Looked trace d who number job.note.kind) (next_by kind g tries job told)
    repairs_say Kind.Rebuild rebuilds h = rebuild_repairs g Any (Took trace who number) job.target (Lost trace who number) (Looked trace d who number job.note.kind) job.note told h
    repairs_say kind rebuilds h = absurd rebuilds

    commit_well : (given : List (List Placement)) → next_act g tries job told ≡ Act.AtDirectory (DirectoryStep.Commit given) → IsWriting job.note.kind → Well (DirectoryStep.Commit given)
    commit_well given is writes n old there new committed j low = by says_so
      where
        says_so : CommitSays Any (Took trace who number) (chunk_count g) told (Act.AtDirectory (DirectoryStep.Commit given))
        says_so = subst (CommitSays Any (Took trace who number) (chunk_count g) told) is (writes_say job.note.kind writes told_heard)

        facts : Commits told (next_act g tries job told)
        facts = writes_drawn job.note.kind g tries job told writes (subst AtCommit (sym is) tt)

        right : PassReady (drawn_count g job.note) (length calling.ended) (rank (phase_of (next_act g tries job told))) (versions_told told) committed.pass.number committed.pass.drawn
        right =
            subst
            (λ (o : Option Pass). IfSome o (λ p. PassReady (drawn_count g job.note) (length calling.ended) (rank (phase_of (next_act g tries job told))) (versions_told told) p.number p.drawn))
            committed.is first_ready.pass

        by : CommitSays Any (Took trace who number) (chunk_count g) told (Act.AtDirectory (DirectoryStep.Commit given)) → Placed more j n (row_at new j)
        by (versions, rest, filtered, good) = placed_by j n (row_at new j) took
          where
            drawn : committed.pass.drawn ≡ versions
            drawn = (right.all_drawn facts.drawn facts.versions).0 ∙ same_versions facts.drawn versions rest (sym facts.versions ∙ filtered)

            row : RowFrom Any (Took trace who number) n 0 new × (length new ≡ chunk_count g)
            row =
                rows_at Any (Took trace who number) (chunk_count g) versions given committed.row.0 n new good
                (subst (λ (l : List ℕ). slice_get (zip l given) committed.row.0 ≡ Some (n, new)) drawn committed.row.1)

            took : Took trace who number j n (row_at new j)
            took =
                subst (λ i. Took trace who number i n (row_at new j)) (let same : 0 + j ≡ j = omega arith in same)
                (row_from_at Any (Took trace who number) (chunk_count g) n 0 new j row.0 low)

    -- the larger of two epochs is one of them
    anew_placed : (j n epoch : ℕ) (row : Placement) → Placed more j n (placement.At epoch) → Placed more j n row → Placed more j n (placed_anew epoch row)
    anew_placed j n epoch (placement.Skipped skipped) new old = new
    anew_placed j n epoch (placement.At earlier) new old = by (one_of epoch earlier)
      where
        one_of : (a b : ℕ) → (max a b ≡ a) ⊎ (max a b ≡ b)
        one_of zero b = inr (let same : max 0 b ≡ b = omega arith in same)
        one_of (suc a) zero = inl (let same : max (suc a) 0 ≡ suc a = omega arith in same)
        one_of (suc a) (suc b) = again (one_of a b)
          where
            again : (max a b ≡ a) ⊎ (max a b ≡ b) → (max (suc a) (suc b) ≡ suc a) ⊎ (max (suc a) (suc b) ≡ suc b)
            again (inl k) = inl (omega (arith, k))
            again (inr k) = inr (omega (arith, k))

        by : (max epoch earlier ≡ epoch) ⊎ (max epoch earlier ≡ earlier) → Placed more j n (placement.At (max epoch earlier))
        by (inl k) = subst (λ x. Placed more j n (placement.At x)) (sym k) new
        by (inr k) = subst (λ x. Placed more j n (placement.At x)) (sym k) old

    repair_well : (server epoch : ℕ) → next_act g tries job told ≡ Act.AtDirectory (DirectoryStep.Repaired server epoch) → IsOfRepairers job.note.kind → Well (DirectoryStep.Repaired server epoch)
    repair_well server epoch is rebuilds n old there new change j low =
        by (subst (RepairSays g Any (Took trace who number) job.target (Lost trace who number) (Looked trace d who number job.note.kind)) is (repairs_say job.note.kind rebuilds told_heard))
      where
        kept : Placed more j n (row_at old.placed j)
        kept = on (PlacesIt j n (row_at old.placed j)) trace (m ∷ []) (rows n old there j (let size : length new ≡ length old.placed = change.raised.size in omega (arith, size, low)))

        by : RepairSays g Any (Took trace who number) job.target (Lost trace who number) (Looked trace d who number job.note.kind) (Act.AtDirectory (DirectoryStep.Repaired server epoch)) → Placed more j n (row_at new j)
        by (seen, w, took) = two (change.raised.raised j)
          where
            pins : PinsIt job.note.kind seen.version change.pass.pinned
            pins = subst (λ (o : Option Pass). IfSome o (λ pass. PinsIt job.note.kind seen.version pass.pinned)) change.is w.1

            same : n ≡ seen.version
            same = sym change.raised.of_version ∙ pins.only (is_rebuild job.note.kind rebuilds) change.raised.place change.raised.pin change.raised.pinned

            anew : Placed more server n (placement.At epoch)
            anew = subst (λ v. Placed more server v (placement.At epoch)) (sym same) (placed_by server seen.version (placement.At epoch) took)

            two : (row_at new j ≡ row_at old.placed j) ⊎ ((j ≡ server) × (row_at new j ≡ placed_anew epoch (row_at old.placed j))) → Placed more j n (row_at new j)
            two (inl k) = subst (Placed more j n) (sym k) kept
            two (inr k) = subst (Placed more j n) (sym k.1) (anew_placed j n epoch (row_at old.placed j) (subst (λ i. Placed more i n (placement.At epoch)) (sym k.0) anew) kept)

    well : (x : DirectoryStep) → next_act g tries job told ≡ Act.AtDirectory x → StepOfKind g job.note.kind x → Well x
    well (DirectoryStep.Commit given) is k = commit_well given is k.0
    well (DirectoryStep.Repaired server epoch) is k = repair_well server epoch is k.0
    well x is k = λ n old there new change j low. absurd change

    directory_after : After (Act.AtDirectory step)
    directory_after =
        record {
          heard_now =
              heard_more g tries job (Lost more who number) (Looked more now who number job.note.kind) Any (Took more who number) told answer (subst (λ x. SaysThen g more now who number job x answer) (sym e) says) (before_heard (look_or_not step));
          rows_now = rows_move trace m d.versions now.versions (StepChange step (pass_of who d)) (versions_move d (sound_live d at.sound) who (length calling.ended) shortages.step step) (well step e kinds) rows;
        }

  -- ---- at a server
  abbrev AtServer : ℕ → ServerStep → Places × Told → Type 0
  AtServer server step r =
      HeardThen g (trace ++ record { who = who; number = length calling.ended; short = shortages.coding && is_in_pass (next_act script.geometry (tries_of script) job calling.told); act = Act.AtServer server step; answer = r.1 } ∷ []) r.0.directory who number job (tell g job told r.1)
      × RowsThen (trace ++ record { who = who; number = length calling.ended; short = shortages.coding && is_in_pass (next_act script.geometry (tries_of script) job calling.told); act = Act.AtServer server step; answer = r.1 } ∷ []) r.0.directory.versions

  no_answer : (step : ServerStep) → ServerAnswers step Told.NotMade → ⊥
  no_answer (ServerStep.Prepare version) h = h
  no_answer step h = h

  -- no look
  no_look : (step : ServerStep) (answer : Told) (seen : Seen) → ServerAnswers step answer → TellsSeen seen answer → ⊥
  no_look (ServerStep.Prepare version) (Told.Pinned point length_now stripes) seen h t = h
  no_look step (Told.Pinned point length_now stripes) seen h t = h
  no_look (ServerStep.Prepare version) (Told.Ready base length_now stripes) seen h t = h
  no_look step (Told.Ready base length_now stripes) seen h t = h
  no_look (ServerStep.Prepare version) (Told.PinnedStripe other) seen h t = h
  no_look step (Told.PinnedStripe other) seen h t = h
  no_look step _ seen h t = t

  server_by : (server : ℕ) (step : ServerStep) → next_act g tries job told ≡ Act.AtServer server step → (found : Option Server) → slice_get places.servers server ≡ found
      → ServerAnswers step (at_server_there shortages.step server step places found).1 → AtServer server step (at_server_there shortages.step server step places found)
  server_by server step e None there h = absurd (no_answer step h)
  server_by server step e (Some s) there h = (
    heard_more g tries job (Lost more who number) (Looked more d who number job.note.kind) Any (Took more who number) told (at_server shortages.step step s).1
        (subst (λ x. SaysThen g more d who number job x (at_server shortages.step step s).1) (sym e)
        (server_says g trace d who number job m (refl, refl) shortages.step server step s (counts server s there) refl refl h
        (λ seen w. not_last (OwnLooks who number seen) trace m (λ looks. no_look step (at_server shortages.step step s).1 seen h looks.1) w.0)))
        (heard_on g trace (m ∷ []) d d who number job told (λ n pins. pins) told_heard),
    rows_on trace (m ∷ []) d.versions rows,
  )
    where
      m : Made
      m = record { who = who; number = length calling.ended; short = shortages.coding && is_in_pass (next_act script.geometry (tries_of script) job calling.told); act = Act.AtServer server step; answer = (at_server shortages.step step s).1 }

      more : List Made
      more = trace ++ record { who = who; number = length calling.ended; short = shortages.coding && is_in_pass (next_act script.geometry (tries_of script) job calling.told); act = Act.AtServer server step; answer = (at_server shortages.step step s).1 } ∷ []

  after_by : (x : Act) → next_act g tries job told ≡ x → Answers (pin_bound g (size_of script) job.note) (touched_count g job.note) x (done x).1 → IsProper g job (HasTry job.note.kind tries told) x → ActOfKind g job.note.kind x → After x
  after_by (Act.AtDirectory step) e answers is_proper kinds = directory_after step e answers (call_step job (HasTry job.note.kind tries told) step is_proper) kinds
  after_by (Act.AtServer server step) e answers is_proper kinds =
      let both : AtServer server step (at_server_there shortages.step server step places (slice_get places.servers server)) = server_by server step e (slice_get places.servers server) refl answers in
      record { heard_now = both.0; rows_now = both.1 }
  after_by (Act.Finish outcome) e answers is_proper kinds = absurd answers

  pub step_after : After (act script who job calling places at shortages.coding shortages.step)
  step_after =
      after_by (act script who job calling places at shortages.coding shortages.step) refl (answered script who job calling places at shortages.coding shortages.step).answers
      (proper script who job calling places at shortages.coding shortages.step) (of_kind script who job calling places at shortages.coding shortages.step)

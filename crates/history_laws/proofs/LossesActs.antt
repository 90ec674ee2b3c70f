-- One step of a call: what is known of placed chunks, and what calls were told of them, stays so.
use Rattle.std.proofs.Common.{◌≡◌, ℕ, ◌<◌, ◌≤◌, Bool, true, false, List, length, Option, None, Some, IfSome, ◌⊎◌, inl, inr, refl, sym, subst, ◌∙◌, arith}
use Rattle.std.proofs.lemmas.Option.{same_Some, slice_get_within}
use Rattle.std.specs.List.{slice_get}
use Rattle.clay_grid.specs.Shape.{Shape}
use Rattle.store_map.specs.declared.actor.Actor.{Actor}
use Rattle.store_map.specs.declared.placement.Found.{Found}
use Rattle.store_map.specs.declared.placement.Placement.{Placement}
use Rattle.store_map.specs.declared.placement.Placement.TheVariants as placement
use Rattle.store_core.specs.Act.{Act, DirectoryStep, ServerStep}
use Rattle.store_core.specs.AtDirectory.{at_directory}
use Rattle.store_core.specs.Directory.{Version, Pass, Directory}
use Rattle.store_core.specs.Lists.{change_at}
use Rattle.store_core.specs.Lookups.{same_actor, pass_of}
use Rattle.store_core.specs.NextAct.{Job}
use Rattle.store_core.specs.Note.{Note, Kind}
use Rattle.store_core.specs.PlaceLaws.{KeepsPlaces}
use Rattle.store_core.specs.Server.{Server, at_server}
use Rattle.store_core.specs.Sound.{IsSound}
use Rattle.store_core.specs.Step.{Places, at_server_there}
use Rattle.store_core.specs.Told.{Told, Seen}
use Rattle.store_core.proofs.Places.{directory_keeps_places}
use Rattle.run_laws.specs.Answers.{ServerAnswers, DirectoryAnswers}
use Rattle.run_laws.specs.EndLaws.{IsLook}
use Rattle.run_laws.proofs.LiveVersions.{sound_live}
use Rattle.run_laws.proofs.OwnPasses.{OwnPass, StepMoves, step_moves}
use Rattle.run_laws.proofs.Readies.{Begins}
use Rattle.run_laws.proofs.Passes.{IsCallStep}
use Rattle.history_laws.proofs.KeptVersions.{IsGone, AllKept, directory_keeps, server_keeps}
use Rattle.history_laws.proofs.LossesHeard.{Asking, Installing, Looking, Says, HeardBy}
use Rattle.history_laws.proofs.LossesRows.{Placing}
use Rattle.history_laws.proofs.LossesServer.{IsOfCalls, of_calls, server_said, ServerKnown, asked_so, prepared_so, installed_so}
use Rattle.history_laws.proofs.LossesState.{Onward, stays_on, step_onward, Took, took_on, took_server, TellsPlaced, SeenWell, seen_on, MissedSo, missed_on, PinsIt, Pinned}
use Rattle.history_laws.proofs.LossesWeaker.{heard_less}
use Rattle.history_laws.proofs.ServerChunks.{TookOrLost}
use Rattle.history_laws.proofs.VersionMoves.{Moved, StepVersions, row_at, StepChange, versions_move}

module _ (most downs : ℕ → ℕ) where
  -- what is known of all chunks
  pub record Known (places : Places) : Type 0 where
    pub kept : AllKept places.servers places.directory.versions
    pub tells : (n : ℕ) (version : Version) → slice_get places.directory.versions n ≡ Some version → (j : ℕ) → TellsPlaced most downs j (row_at version.placed j)

  abbrev pub AllServers : List Server → Type 0
  AllServers servers = (j : ℕ) (s : Server) → slice_get servers j ≡ Some s → ServerKnown most downs j s

  -- ---- what a call was told
  abbrev pub SeenBy : Actor → Kind → Places → Seen → Type 0
  SeenBy who kind places seen = SeenWell most downs places.directory.versions seen × Pinned who kind places.directory seen.version

  abbrev pub Missed : Places → Seen → ℕ → Found → Type 0
  Missed places seen j reason = MissedSo most downs places.directory.versions seen j reason

  abbrev pub There : Places → ℕ → Type 0
  There places n = n < length places.directory.versions

  abbrev pub TookAt : Places → ℕ → ℕ → Placement → Type 0
  TookAt places j n row = Took most downs places.servers places.directory.versions j n row

  abbrev pub Heard : Shape → Actor → Job → Places → List Told → Type 0
  Heard g who job places told = HeardBy g job.target (Missed places) (SeenBy who job.note.kind places) (There places) (TookAt places) job.note.kind job.note told

  abbrev pub SaysAt : Shape → Actor → Job → Places → Act → Told → Type 0
  SaysAt g who job places act answer = Says g job.target (Missed places) (SeenBy who job.note.kind places) (There places) (TookAt places) act answer

  -- ---- what moves on
  pub record MovesOn (who : Actor) (kind : Kind) (before after : Places) : Type 0 where
    pub on : Onward before.directory.versions after.directory.versions
    pub took : (j n : ℕ) (row : Placement) → TookAt before j n row → TookAt after j n row
    pub pins : (n : ℕ) → Pinned who kind before.directory n → Pinned who kind after.directory n

  pub heard_on : (g : Shape) (who : Actor) (job : Job) (before after : Places) (told : List Told) → MovesOn who job.note.kind before after → Heard g who job before told → Heard g who job after told
  heard_on g who job before after told moves h =
      heard_less g job.target (Missed before) (Missed after) (SeenBy who job.note.kind before) (SeenBy who job.note.kind after) (There before) (There after) (TookAt before) (TookAt after)
      (λ seen w j reason k. missed_on most downs before.directory.versions after.directory.versions moves.on seen j reason k)
      (λ seen k. (seen_on most downs before.directory.versions after.directory.versions moves.on seen k.0, moves.pins seen.version k.1))
      (λ n low. let long : length before.directory.versions ≤ length after.directory.versions = moves.on.longer in omega (arith, low, long))
      moves.took job.note.kind job.note told h

  -- ---- a step at a server
  module _ (short : Bool) (server : ℕ) (step : ServerStep) (places : Places) where
    abbrev At : Option Server → Places × Told
    At found = at_server_there short server step places found

    pub server_on : (found : Option Server) → slice_get places.servers server ≡ found → ServerAnswers step (At found).1 → (who : Actor) (kind : Kind) → MovesOn who kind places (At found).0
    server_on None e h who kind = record { on = stays_on places.directory.versions; took = λ j n row k. k; pins = λ n k. k }
    server_on (Some s) e h who kind =
        let calls : IsOfCalls step = of_calls step (At (Some s)).1 h in
        record {
          on = stays_on places.directory.versions;
          took = took_server most downs short server step s places.servers places.directory.versions e (calls.rises s.epoch) (λ n version is. inl (calls.keeps n));
          pins = λ n k. k;
        }

    pub server_known : (found : Option Server) → slice_get places.servers server ≡ found → ServerAnswers step (At found).1 → Known places → Known (At found).0
    server_known None e h known = known
    server_known (Some s) e h known =
        let calls : IsOfCalls step = of_calls step (At (Some s)).1 h in
        record { kept = server_keeps short server step s places.servers places.directory.versions e (calls.rises s.epoch) (λ n version is. inl (calls.keeps n)) known.kept; tells = known.tells }

    module _ (g : Shape) (who : Actor) (job : Job) (known : Known places) (servers : AllServers places.servers) where
      abbrev SaysSo : Option Server → Type 0
      SaysSo found = SaysAt g who job (At found).0 (Act.AtServer server step) (At found).1

      placing_so : (s : Server) → slice_get places.servers server ≡ Some s → ServerAnswers step (At (Some s)).1 → Placing (There (At (Some s)).0) (TookAt (At (Some s)).0) (Act.AtServer server step) (At (Some s)).1
      placing_so s e h = by step (at_server short step s).1 h (λ version row is same. is_prepared version row is same)
        where
          is_prepared : (version : ℕ) (row : Placement) → step ≡ ServerStep.Prepare version → (at_server short step s).1 ≡ Told.Prepared row → There places version → TookAt (At (Some s)).0 server version row
          is_prepared version row is same low =
              subst (λ (x : ServerStep). (at_server short x s).1 ≡ Told.Prepared row → Took most downs (change_at server (λ _. (at_server short x s).0) places.servers) places.directory.versions server version row) (sym is)
              (prepared_so most downs short server version s places.servers places.directory.versions e (servers server s e) low row) same

          by : (x : ServerStep) (answer : Told) → ServerAnswers x answer → ((version : ℕ) (row : Placement) → x ≡ ServerStep.Prepare version → answer ≡ Told.Prepared row → There places version → TookAt (At (Some s)).0 server version row)
              → Placing (There (At (Some s)).0) (TookAt (At (Some s)).0) (Act.AtServer server x) answer
          by (ServerStep.Prepare version) (Told.Prepared row) k f = f version row refl refl
          by (ServerStep.Prepare version) (Told.Versions versions) k f = absurd k
          by (ServerStep.Prepare version) answer k f = tt
          by x (Told.Prepared row) k f = absurd k
          by x (Told.Versions versions) k f = absurd k
          by x answer k f = tt

      asking_so : (s : Server) → slice_get places.servers server ≡ Some s → Asking g job.target (Missed (At (Some s)).0) (SeenBy who job.note.kind (At (Some s)).0) (There (At (Some s)).0) (TookAt (At (Some s)).0) (Act.AtServer server step) (at_server short step s).1
      asking_so s e = by (at_server short step s).1 refl
        where
          by : (answer : Told) → (at_server short step s).1 ≡ answer → Asking g job.target (Missed (At (Some s)).0) (SeenBy who job.note.kind (At (Some s)).0) (There (At (Some s)).0) (TookAt (At (Some s)).0) (Act.AtServer server step) answer
          by (Told.Missing reason) is = λ seen w asks. asked_so most downs short server step s places.servers places.directory.versions e (servers server s e) known.kept reason is seen w.0 asks
          by answer is = tt

      installing_so : (s : Server) → slice_get places.servers server ≡ Some s
          → Installing g job.target (Missed (At (Some s)).0) (SeenBy who job.note.kind (At (Some s)).0) (There (At (Some s)).0) (TookAt (At (Some s)).0) (Act.AtServer server step) (at_server short step s).1
      installing_so s e = by step (at_server short step s).1 (λ version epoch is same low. installed version epoch is same low)
        where
          installed : (version epoch : ℕ) → step ≡ ServerStep.Install version → (at_server short step s).1 ≡ Told.Placed epoch → There places version → TookAt (At (Some s)).0 server version (placement.At epoch)
          installed version epoch is same low =
              subst (λ (x : ServerStep). (at_server short x s).1 ≡ Told.Placed epoch → Took most downs (change_at server (λ _. (at_server short x s).0) places.servers) places.directory.versions server version (placement.At epoch)) (sym is)
              (installed_so most downs short server version s places.servers places.directory.versions e low epoch) same

          by : (x : ServerStep) (answer : Told) → ((version epoch : ℕ) → x ≡ ServerStep.Install version → answer ≡ Told.Placed epoch → There places version → TookAt (At (Some s)).0 server version (placement.At epoch))
              → Installing g job.target (Missed (At (Some s)).0) (SeenBy who job.note.kind (At (Some s)).0) (There (At (Some s)).0) (TookAt (At (Some s)).0) (Act.AtServer server x) answer
          by (ServerStep.Install version) (Told.Placed epoch) f = λ seen w same. f version epoch refl refl (subst (There places) same (slice_get_within places.directory.versions seen.version w.0.version w.0.found))
          by x answer f = tt

      looking_so : (s : Server) → ServerAnswers step (At (Some s)).1 → Looking g job.target (Missed (At (Some s)).0) (SeenBy who job.note.kind (At (Some s)).0) (There (At (Some s)).0) (TookAt (At (Some s)).0) (at_server short step s).1
      looking_so s h = by step (at_server short step s).1 h
        where
          by : (x : ServerStep) (answer : Told) → ServerAnswers x answer → Looking g job.target (Missed (At (Some s)).0) (SeenBy who job.note.kind (At (Some s)).0) (There (At (Some s)).0) (TookAt (At (Some s)).0) answer
          by (ServerStep.Prepare version) (Told.Pinned point length_now stripes) k = absurd k
          by x (Told.Pinned point length_now stripes) k = absurd k
          by (ServerStep.Prepare version) (Told.Ready base length_now stripes) k = absurd k
          by x (Told.Ready base length_now stripes) k = absurd k
          by (ServerStep.Prepare version) (Told.PinnedStripe seen) k = absurd k
          by x (Told.PinnedStripe seen) k = absurd k
          by x answer k = tt

      pub server_says : (found : Option Server) → slice_get places.servers server ≡ found → ServerAnswers step (At found).1 → SaysSo found
      server_says None e h = absurd (no_answer step h)
        where
          no_answer : (x : ServerStep) → ServerAnswers x Told.NotMade → ⊥
          no_answer (ServerStep.Prepare version) k = k
          no_answer x k = k
      server_says (Some s) e h =
          record { said = server_said step (at_server short step s).1 h; placing = placing_so s e h; asking = asking_so s e; installing = installing_so s e; looking = looking_so s h }

  -- ---- a step at the directory
  module _ (short : Bool) (who : Actor) (self : same_actor who who ≡ true) (number : ℕ) (note : Note) (step : DirectoryStep) (places : Places) (sound : IsSound places.directory) (mine : IsCallStep note step)
      (of_this : (pass : Pass) → pass_of who places.directory ≡ Some pass → pass.number ≡ number) where
    abbrev d : Directory
    d = places.directory

    abbrev after : Directory × Told
    after = at_directory short who number step d

    abbrev now : Places
    now = record places { directory = after.0 }

    moved : StepVersions (StepChange step (pass_of who d)) d.versions after.0.versions
    moved = versions_move d (sound_live d sound) who number short step

    steps : StepMoves who number d after.0 after.1
    steps = step_moves short who number note step d self mine of_this

    pub onward : Onward d.versions after.0.versions
    onward =
        let kept : KeepsPlaces d after.0 after.1 = directory_keeps_places short who number step d in
        step_onward d sound who step after.0.versions moved (let size : _ = kept.versions in omega (arith, size))

    took_now : (j n : ℕ) (row : Placement) → TookAt places j n row → TookAt now j n row
    took_now j n row h = took_on most downs places.servers d.versions after.0.versions onward j n row h

    -- for another actor
    pub other_on : (other : Actor) → same_actor other who ≡ false → (kind : Kind) → MovesOn other kind places now
    other_on other apart kind =
        record { on = onward; took = took_now; pins = λ n h. subst (λ (o : Option Pass). IfSome o (λ pass. PinsIt kind n pass.pinned)) (sym (steps.others other apart)) h }

    begins_looks : (pins touched : ℕ) (x : DirectoryStep) (answer : Told) → Begins answer → DirectoryAnswers pins touched x answer → IsLook (Act.AtDirectory x)
    begins_looks pins touched (DirectoryStep.Look other) answer b h = tt
    begins_looks pins touched (DirectoryStep.LookRepair other) answer b h = tt
    begins_looks pins touched x (Told.Pinned point length_now stripes) b h = absurd h
    begins_looks pins touched x (Told.Ready base length_now stripes) b h = absurd h
    begins_looks pins touched x (Told.PinnedStripe seen) b h = absurd h
    begins_looks pins touched x answer b h = absurd b

    -- for the actor itself, where it doesn't look
    pub own_on : (pins touched : ℕ) → DirectoryAnswers pins touched step after.1 → (IsLook (Act.AtDirectory step) → ⊥) → (kind : Kind) → MovesOn who kind places now
    own_on pins touched answers not_look kind =
        record { on = onward; took = took_now; pins = λ n h. by n after.1 steps.own (λ b. not_look (begins_looks pins touched step after.1 b answers)) h }
      where
        closed : (n : ℕ) → pass_of who after.0 ≡ None → Pinned who kind after.0 n
        closed n e = subst (λ (o : Option Pass). IfSome o (λ pass. PinsIt kind n pass.pinned)) (sym e) tt

        stays : (n : ℕ) → pass_of who after.0 ≡ pass_of who d → Pinned who kind d n → Pinned who kind after.0 n
        stays n e h = subst (λ (o : Option Pass). IfSome o (λ pass. PinsIt kind n pass.pinned)) (sym e) h

        by : (n : ℕ) (answer : Told) → OwnPass who number d after.0 answer → (Begins answer → ⊥) → Pinned who kind d n → Pinned who kind after.0 n
        by n (Told.Pinned point length_now stripes) own none h = absurd (none tt)
        by n (Told.Ready base length_now stripes) own none h = absurd (none tt)
        by n (Told.PinnedStripe seen) own none h = absurd (none tt)
        by n (Told.Versions versions) own none h =
            subst (λ (o : Option Pass). IfSome o (λ pass. PinsIt kind n pass.pinned)) (sym own.is) (subst (λ (o : Option Pass). IfSome o (λ pass. PinsIt kind n pass.pinned)) own.was h)
        by n (Told.Done point) own none h = closed n own
        by n (Told.Changed base newer) own none h = closed n own
        by n Told.Ended own none h = closed n own
        by n (Told.Superseded newer) own none h = closed n own
        by n (Told.Reaped point) own none h = closed n own
        by n answer own none h = stays n own h

    -- what is known stays so where placements change well
    pub directory_known : ((n : ℕ) (old : Version) → slice_get d.versions n ≡ Some old → (new : List Placement) → StepChange step (pass_of who d) n old.placed new →
        ((j : ℕ) (s : Server) → slice_get places.servers j ≡ Some s → IsGone old ⊎ TookOrLost s n (row_at new j)) × ((j : ℕ) → TellsPlaced most downs j (row_at new j))) → Known places → Known now
    directory_known well known =
        record {
          kept = directory_keeps (StepChange step (pass_of who d)) places.servers d.versions after.0.versions moved (λ n old e new change j s there. (well n old e new change).0 j s there) known.kept;
          tells = tells_now;
        }
      where
        one : (n : ℕ) (version old : Version) → slice_get d.versions n ≡ Some old → (new : Version) → new ≡ version → (new.placed ≡ old.placed) ⊎ StepChange step (pass_of who d) n old.placed new.placed
            → (j : ℕ) → TellsPlaced most downs j (row_at version.placed j)
        one n version old e new same (inl is) j =
            subst (λ (v : Version). TellsPlaced most downs j (row_at v.placed j)) same (subst (λ (l : List Placement). TellsPlaced most downs j (row_at l j)) (sym is) (known.tells n old e j))
        one n version old e new same (inr change) j = subst (λ (v : Version). TellsPlaced most downs j (row_at v.placed j)) same ((well n old e new.placed change).1 j)

        tells_now : (n : ℕ) (version : Version) → slice_get after.0.versions n ≡ Some version → (j : ℕ) → TellsPlaced most downs j (row_at version.placed j)
        tells_now n version is j = by (slice_get d.versions n) refl
          where
            by : (found : Option Version) → slice_get d.versions n ≡ found → TellsPlaced most downs j (row_at version.placed j)
            by None e = subst (λ (l : List Placement). TellsPlaced most downs j (row_at l j)) (sym (moved.fresh n version e is)) tt
            by (Some old) e =
                let m : Moved (StepChange step (pass_of who d)) n old after.0.versions = moved.moves n old e in
                one n version old e m.new (same_Some m.new version (sym m.found ∙ is)) m.placed j

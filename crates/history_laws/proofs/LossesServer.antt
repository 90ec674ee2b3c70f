-- A call's step at a server: what is known of placed chunks stays so, and its answer says what is so.
use Rattle.std.proofs.Common.{◌≡◌, ℕ, ◌<◌, ◌≤◌, Bool, true, false, List, length, Some, ◌⊎◌, inl, inr, sym, subst, ◌∙◌, arith}
use Rattle.std.proofs.lemmas.Bool.{cond_both}
use Rattle.std.proofs.lemmas.Option.{same_Some}
use Rattle.std.specs.List.{slice_get}
use Rattle.store_map.specs.declared.placement.Found.{Found}
use Rattle.store_map.specs.declared.placement.Found.TheVariants as found
use Rattle.store_map.specs.declared.placement.Placement.{Placement}
use Rattle.store_map.specs.declared.placement.Placement.TheVariants as placement
use Rattle.store_core.specs.Act.{ServerStep}
use Rattle.store_core.specs.Directory.{Version}
use Rattle.store_core.specs.Lists.{change_at}
use Rattle.store_core.specs.Server.{Server, hold, at_server}
use Rattle.store_core.specs.Told.{Told, Seen}
use Rattle.run_laws.specs.Answers.{ServerAnswers}
use Rattle.run_laws.proofs.SoundVersions.{change_here}
use Rattle.history_laws.proofs.HeardLosses.{IsAskOf, IsSaid}
use Rattle.history_laws.proofs.KeptVersions.{IsGone, AllKept, missing_was_lost}
use Rattle.history_laws.proofs.LossesState.{RowRises, SeenWell, Took, LostSo, TellsPlaced, MissedSo}
use Rattle.history_laws.proofs.ServerChunks.{TookOrLost, HasOrLost, Keeps, Rises, FoundWell, MissesWell, ToldWell, prepare_places, install_places}
use Rattle.history_laws.proofs.VersionMoves.{row_at}

-- a call's step discards nothing and empties no server
pub record IsOfCalls (step : ServerStep) : Type 0 where
  pub keeps : (n : ℕ) → Keeps n step
  pub rises : (epoch : ℕ) → Rises step epoch

pub of_calls : (step : ServerStep) (answer : Told) → ServerAnswers step answer → IsOfCalls step
of_calls (ServerStep.Prepare version) answer h = record { keeps = λ n. tt; rises = λ e. tt }
of_calls (ServerStep.Settle version) answer h = record { keeps = λ n. tt; rises = λ e. tt }
of_calls (ServerStep.Has version) answer h = record { keeps = λ n. tt; rises = λ e. tt }
of_calls (ServerStep.Fetch version layers) answer h = record { keeps = λ n. tt; rises = λ e. tt }
of_calls (ServerStep.Install version) answer h = record { keeps = λ n. tt; rises = λ e. tt }
of_calls step answer h = absurd h

pub server_said : (step : ServerStep) (answer : Told) → ServerAnswers step answer → IsSaid answer
server_said (ServerStep.Prepare version) Told.Gathered h = absurd h
server_said step Told.Gathered h = absurd h
server_said step answer h = tt

-- what is known of a server
module _ (most downs : ℕ → ℕ) where
  pub record ServerKnown (j : ℕ) (s : Server) : Type 0 where
    pub epoch : s.epoch ≤ most j
    pub downs_told : s.downs ≤ downs j
    pub away : s.away ≡ true → 1 ≤ s.downs

  lost_so : (s : Server) (j : ℕ) → ServerKnown j s → (seen row : Placement) (reason : Found) → RowRises seen row → FoundWell s row reason → LostSo most downs j seen reason
  lost_so s j known (placement.At a) (placement.At b) (found.Absent e) rises h =
      let is : e ≡ s.epoch = h.1 in let low : s.epoch ≤ most j = known.epoch in let lost : b < e = h.0 in (omega (arith, rises, lost), omega (arith, is, low))
  lost_so s j known (placement.At a) (placement.Skipped d) reason rises h = absurd rises
  lost_so s j known (placement.Skipped k) (placement.At b) (found.Absent e) rises h = let is : e ≡ s.epoch = h.1 in let low : s.epoch ≤ most j = known.epoch in omega (arith, is, low)
  lost_so s j known (placement.Skipped k) (placement.Skipped d) (found.Absent e) rises h = let is : e ≡ s.epoch = h in let low : s.epoch ≤ most j = known.epoch in omega (arith, is, low)
  lost_so s j known (placement.At a) (placement.At b) (found.Away told) rises h = tells_away s j known told h
    where
      tells_away : (s : Server) (j : ℕ) → ServerKnown j s → (told : ℕ) → (s.away ≡ true) × (told ≡ s.downs) → (1 ≤ told) × (told ≤ downs j)
      tells_away s j known told h = let some : 1 ≤ s.downs = known.away h.0 in let few : s.downs ≤ downs j = known.downs_told in let is : told ≡ s.downs = h.1 in (omega (arith, some, is), omega (arith, few, is))
  lost_so s j known (placement.Skipped k) (placement.At b) (found.Away told) rises h =
      let some : 1 ≤ s.downs = known.away h.0 in let few : s.downs ≤ downs j = known.downs_told in let is : told ≡ s.downs = h.1 in (omega (arith, some, is), omega (arith, few, is))
  lost_so s j known (placement.Skipped k) (placement.Skipped d) (found.Away told) rises h =
      let some : 1 ≤ s.downs = known.away h.0 in let few : s.downs ≤ downs j = known.downs_told in let is : told ≡ s.downs = h.1 in (omega (arith, some, is), omega (arith, few, is))

  -- a chunk that is missing
  pub asked_so : (short : Bool) (server : ℕ) (step : ServerStep) (s : Server) (servers : List Server) (versions : List Version) → slice_get servers server ≡ Some s → ServerKnown server s → AllKept servers versions
      → (reason : Found) → (at_server short step s).1 ≡ Told.Missing reason → (seen : Seen) → SeenWell most downs versions seen → IsAskOf seen.version step → MissedSo most downs versions seen server reason
  asked_so short server step s servers versions there known kept reason e seen well asks = by (kept seen.version well.version well.found well.some server s there)
    where
      by : IsGone well.version ⊎ TookOrLost s seen.version (row_at well.version.placed server) → MissedSo most downs versions seen server reason
      by (inl gone) = inl (record { version = well.version; found = well.found; gone = gone })
      by (inr took) =
          inr (lost_so s server known (row_at seen.placed server) (row_at well.version.placed server) reason (well.rises server)
          (subst (MissesWell s (row_at well.version.placed server)) e (missing_was_lost s seen.version (row_at well.version.placed server) short step asks took)))

  -- a chunk that was placed
  at_same : (server : ℕ) (s now : Server) (servers : List Server) → slice_get servers server ≡ Some s → (other : Server) → slice_get (change_at server (λ _. now) servers) server ≡ Some other → now ≡ other
  at_same server s now servers there other e = same_Some now other (sym (change_here server (λ _. now) servers s there) ∙ e)

  abbrev SkipsWell : ℕ → Told → Type 0
  SkipsWell server (Told.Prepared taken) = TellsPlaced most downs server taken
  SkipsWell server answer = Unit {0}

  pub prepared_so : (short : Bool) (server version : ℕ) (s : Server) (servers : List Server) (versions : List Version) → slice_get servers server ≡ Some s → ServerKnown server s → version < length versions
      → (row : Placement) → (at_server short (ServerStep.Prepare version) s).1 ≡ Told.Prepared row → Took most downs (change_at server (λ _. (at_server short (ServerStep.Prepare version) s).0) servers) versions server version row
  prepared_so short server version s servers versions there known low row e =
      record {
        there = low;
        tells = skipped short row e;
        kept = λ entry is other at.
            inr (subst (λ (x : Server). TookOrLost x version row) (at_same server s (at_server short (ServerStep.Prepare version) s).0 servers there other at) (took row e));
      }
    where
      took : (r : Placement) → (at_server short (ServerStep.Prepare version) s).1 ≡ Told.Prepared r → TookOrLost (at_server short (ServerStep.Prepare version) s).0 version r
      took r k = subst (λ (a : Told). ToldWell version ((at_server short (ServerStep.Prepare version) s).0, a)) k (prepare_places s version short)

      skipped : (b : Bool) (r : Placement) → (at_server b (ServerStep.Prepare version) s).1 ≡ Told.Prepared r → TellsPlaced most downs server r
      skipped b r k = subst (SkipsWell server) k (by b)
        where
          by : (b : Bool) → SkipsWell server (at_server b (ServerStep.Prepare version) s).1
          by true = tt
          by false =
              cond_both {A = Server × Told} s.away (s, Told.Prepared (placement.Skipped s.downs)) (record s { held = hold version s.held }, Told.Prepared (placement.At s.epoch)) (λ after. SkipsWell server after.1)
              (λ away. (known.away away, known.downs_told)) (λ _. tt)

  pub installed_so : (short : Bool) (server version : ℕ) (s : Server) (servers : List Server) (versions : List Version) → slice_get servers server ≡ Some s → version < length versions
      → (epoch : ℕ) → (at_server short (ServerStep.Install version) s).1 ≡ Told.Placed epoch
      → Took most downs (change_at server (λ _. (at_server short (ServerStep.Install version) s).0) servers) versions server version (placement.At epoch)
  installed_so short server version s servers versions there low epoch e =
      record {
        there = low;
        tells = tt;
        kept = λ entry is other at.
            inr (subst (λ (x : Server). HasOrLost x version epoch) (at_same server s (at_server short (ServerStep.Install version) s).0 servers there other at)
            (subst (λ (a : Told). ToldWell version ((at_server short (ServerStep.Install version) s).0, a)) e (install_places s version short)));
      }

-- Every placed chunk of a version that the sweeper hasn't taken is held, or its server was emptied since: each step keeps it.
use Rattle.std.proofs.Common.{◌≡◌, ℕ, ◌<◌, Bool, false, List, length, Option, None, Some, IsTrue, ◌⊎◌, inl, inr, refl, sym, ap, subst, ◌∙◌, arith, true≢false}
use Rattle.std.proofs.lemmas.Bool.{cases_eq}
use Rattle.std.proofs.lemmas.Option.{same_Some}
use Rattle.std.specs.List.{slice_get}
use Rattle.store_map.specs.declared.placement.Placement.{Placement}
use Rattle.store_map.specs.declared.placement.Placement.TheVariants as placement
use Rattle.store_core.specs.Placements.{placed_anew}
use Rattle.store_core.specs.Act.{ServerStep}
use Rattle.store_core.specs.Directory.{Version}
use Rattle.store_core.specs.Lists.{change_at}
use Rattle.store_core.specs.Server.{Server, at_server}
use Rattle.run_laws.specs.AnswerLaws.{is_of_call}
use Rattle.store_core.proofs.Places.{slice_get-change_at}
use Rattle.run_laws.proofs.SoundVersions.{change_here}
use Rattle.run_laws.proofs.LiveVersions.{is_live_standing}
use Rattle.history_laws.proofs.HeardLosses.{IsAskOf}
use Rattle.history_laws.proofs.ServerChunks.{HasOrLost, TookOrLost, Keeps, Rises, took_stays, MissesWell, has_misses, fetch_misses, both_placed}
use Rattle.history_laws.proofs.VersionMoves.{Change, Moved, StepVersions, row_at, RaisedAt}

-- the sweeper has taken it
abbrev pub IsGone : Version → Type 0
IsGone version = is_live_standing version.standing ≡ false

-- each placed chunk is held or was lost to a wipe, or its version is the sweeper's
abbrev pub AllKept : List Server → List Version → Type 0
AllKept servers versions =
    (n : ℕ) (version : Version) → slice_get versions n ≡ Some version → 0 < length version.placed → (j : ℕ) (s : Server) → slice_get servers j ≡ Some s
    → IsGone version ⊎ TookOrLost s n (row_at version.placed j)

-- the new placements of a version are ones by which its chunks were placed
abbrev pub ChangesWell : Change → List Server → List Version → Type 0
ChangesWell ok servers before =
    (n : ℕ) (old : Version) → slice_get before n ≡ Some old → (new : List Placement) → ok n old.placed new → (j : ℕ) (s : Server) → slice_get servers j ≡ Some s
    → IsGone old ⊎ TookOrLost s n (row_at new j)

-- ---- a step at the directory
pub directory_keeps : (ok : Change) (servers : List Server) (before after : List Version) → StepVersions ok before after → ChangesWell ok servers before → AllKept servers before → AllKept servers after
directory_keeps ok servers before after step well kept n new is some j s there = by (slice_get before n) refl
  where
    still : (old : Version) → slice_get before n ≡ Some old → (m : Moved ok n old after) → m.new ≡ new → (m.new.placed ≡ old.placed) ⊎ ok n old.placed m.new.placed → IsGone new ⊎ TookOrLost s n (row_at new.placed j)
    still old e m same (inl placed) = one (kept n old e sized j s there)
      where
        same_placed : new.placed ≡ old.placed
        same_placed = sym (ap (λ (v : Version). v.placed) same) ∙ placed

        sized : 0 < length old.placed
        sized = subst (λ (l : List Placement). 0 < length l) same_placed some

        one : IsGone old ⊎ TookOrLost s n (row_at old.placed j) → IsGone new ⊎ TookOrLost s n (row_at new.placed j)
        one (inl gone) = inl (subst IsGone same (m.gone gone))
        one (inr h) = inr (subst (λ (l : List Placement). TookOrLost s n (row_at l j)) (sym same_placed) h)
    still old e m same (inr okay) = one (well n old e m.new.placed okay j s there)
      where
        one : IsGone old ⊎ TookOrLost s n (row_at m.new.placed j) → IsGone new ⊎ TookOrLost s n (row_at new.placed j)
        one (inl gone) = inl (subst IsGone same (m.gone gone))
        one (inr h) = inr (subst (λ (v : Version). TookOrLost s n (row_at v.placed j)) same h)

    by : (found : Option Version) → slice_get before n ≡ found → IsGone new ⊎ TookOrLost s n (row_at new.placed j)
    by None e = absurd (let none : length new.placed ≡ 0 = ap (λ (l : List Placement). length l) (step.fresh n new e is) in omega (arith, none, some))
    by (Some old) e =
        let m : Moved ok n old after = step.moves n old e in
        still old e m (same_Some m.new new (sym m.found ∙ is)) m.placed

-- a chunk that was placed anew
took_anew : (s : Server) (n epoch : ℕ) (row : Placement) → HasOrLost s n epoch → TookOrLost s n row → TookOrLost s n (placed_anew epoch row)
took_anew s n epoch (placement.At earlier) k h = both_placed s n epoch earlier k h
took_anew s n epoch (placement.Skipped downs) k h = k

-- a repair raises one epoch to that at which the chunk was placed anew
pub repair_well : (server epoch : ℕ) (servers : List Server) (versions : List Version) (n : ℕ) (old : Version) → slice_get versions n ≡ Some old → 0 < length old.placed → (new : List Placement) → RaisedAt server epoch old.placed new
    → AllKept servers versions → ((s : Server) → slice_get servers server ≡ Some s → IsGone old ⊎ HasOrLost s n epoch)
    → (j : ℕ) (s : Server) → slice_get servers j ≡ Some s → IsGone old ⊎ TookOrLost s n (row_at new j)
repair_well server epoch servers versions n old e some new raised kept anew j s there = by (raised j) (kept n old e some j s there)
  where
    both : TookOrLost s n (row_at old.placed j) → j ≡ server → row_at new j ≡ placed_anew epoch (row_at old.placed j) → IsGone old ⊎ HasOrLost s n epoch → IsGone old ⊎ TookOrLost s n (row_at new j)
    both h same is (inl gone) = inl gone
    both h same is (inr k) = inr (subst (TookOrLost s n) (sym is) (took_anew s n epoch (row_at old.placed j) k h))

    by : (row_at new j ≡ row_at old.placed j) ⊎ ((j ≡ server) × (row_at new j ≡ placed_anew epoch (row_at old.placed j))) → IsGone old ⊎ TookOrLost s n (row_at old.placed j) → IsGone old ⊎ TookOrLost s n (row_at new j)
    by is (inl gone) = inl gone
    by (inl is) (inr h) = inr (subst (TookOrLost s n) (sym is) h)
    by (inr is) (inr h) = both h is.0 is.1 (anew s (subst (λ i. slice_get servers i ≡ Some s) is.0 there))

-- ---- a step at a server
pub server_keeps : (short : Bool) (server : ℕ) (step : ServerStep) (old : Server) (servers : List Server) (versions : List Version) → slice_get servers server ≡ Some old → Rises step old.epoch
    → ((n : ℕ) (version : Version) → slice_get versions n ≡ Some version → Keeps n step ⊎ IsGone version) → AllKept servers versions
    → AllKept (change_at server (λ _. (at_server short step old).0) servers) versions
server_keeps short server step old servers versions found low spares kept n version is some j now e = by (cases_eq server j)
  where
    after : Server
    after = (at_server short step old).0

    held : (b : Server) → slice_get servers j ≡ Some b → b ≡ old → now ≡ (at_server short step old).0 → IsGone version ⊎ TookOrLost now n (row_at version.placed j)
    held b there same is_now = one (spares n version is) (kept n version is some j b there)
      where
        one : Keeps n step ⊎ IsGone version → IsGone version ⊎ TookOrLost b n (row_at version.placed j) → IsGone version ⊎ TookOrLost now n (row_at version.placed j)
        one keeps (inl gone) = inl gone
        one (inr gone) (inr h) = inl gone
        one (inl keeps) (inr h) =
            inr
            (subst (λ (s : Server). TookOrLost s n (row_at version.placed j)) (sym is_now)
            (took_stays old n (row_at version.placed j) short step keeps low (subst (λ (s : Server). TookOrLost s n (row_at version.placed j)) same h)))

    by : (server ≡ j) ⊎ (server ≡ j → ⊥) → IsGone version ⊎ TookOrLost now n (row_at version.placed j)
    by (inl same) =
        let there : slice_get (change_at server (λ _. (at_server short step old).0) servers) server ≡ Some (at_server short step old).0 = change_here server (λ _. (at_server short step old).0) servers old found in
        let is_now : (at_server short step old).0 ≡ now =
        same_Some (at_server short step old).0 now (sym there ∙ subst (λ i. slice_get (change_at server (λ _. (at_server short step old).0) servers) i ≡ Some now) (sym same) e) in
        held old (subst (λ i. slice_get servers i ≡ Some old) same found) refl (sym is_now)
    by (inr differ) = kept n version is some j now (sym (slice_get-change_at server j (λ _. (at_server short step old).0) servers (λ k. differ (sym k))) ∙ e)

-- a call's own steps discard nothing
pub call_spares : (step : ServerStep) → IsTrue (is_of_call step) → (n : ℕ) → Keeps n step
call_spares (ServerStep.Prepare version) h n = tt
call_spares (ServerStep.Settle version) h n = tt
call_spares (ServerStep.Has version) h n = tt
call_spares (ServerStep.Fetch version layers) h n = tt
call_spares (ServerStep.Install version) h n = tt
call_spares (ServerStep.Discard version) h n = absurd (true≢false (sym h))
call_spares ServerStep.Wipe h n = tt
call_spares ServerStep.Down h n = tt
call_spares ServerStep.Up h n = tt

-- ---- a chunk that is missing
-- it was placed before the epoch that the server tells, which is its own; or the server is away
pub missing_was_lost : (s : Server) (version : ℕ) (row : Placement) (short : Bool) (step : ServerStep) → IsAskOf version step → TookOrLost s version row → MissesWell s row (at_server short step s).1
missing_was_lost s version row short (ServerStep.Has other) asks h = has_misses s other row short (subst (λ v. TookOrLost s v row) (sym asks) h)
missing_was_lost s version row short (ServerStep.Fetch other layers) asks h = fetch_misses s other layers row short (subst (λ v. TookOrLost s v row) (sym asks) h)
missing_was_lost s version row short step asks h = absurd asks

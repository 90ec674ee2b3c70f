-- So each chunk that a server took is kept.
use Rattle.std.proofs.Common.{◌≡◌, ℕ, ◌<◌, ◌≤◌, false, length, ◌⊎◌, inl, inr, sym, subst, ◌∙◌, arith, true≢false}
use Rattle.std.proofs.lemmas.Option.{same_Some, slice_get_within, slice_get-get_or}
use Rattle.clay_grid.specs.Shape.{chunk_count}
use Rattle.store_map.specs.declared.placement.Placement.{Placement}
use Rattle.store_map.specs.declared.placement.Placement.TheVariants as placement
use Rattle.store_core.specs.Directory.{Standing}
use Rattle.store_core.specs.Schedule.{run_core}
use Rattle.store_core.specs.Server.{Server}
use Rattle.run_laws.proofs.LiveVersions.{is_live_standing}
use Rattle.run_laws.proofs.Scripts.{can_run}
use Rattle.history_laws.specs.KeptChunks.{IsLeft, IsKept, RunsKeepChunks}
use Rattle.history_laws.proofs.KeptVersions.{IsGone}
use Rattle.history_laws.proofs.LossesRuns.{Holds, run_holds}
use Rattle.history_laws.proofs.ServerChunks.{TookOrLost}
use Rattle.history_laws.proofs.VersionMoves.{row_at}

left_live : (standing : Standing) → IsLeft standing → is_live_standing standing ≡ false → ⊥
left_live Standing.Taken left gone = left
left_live Standing.Swept left gone = left
left_live Standing.Drawn left gone = true≢false gone
left_live Standing.Current left gone = true≢false gone
left_live Standing.Superseded left gone = true≢false gone

kept_so : (s : Server) (number : ℕ) (row : Placement) → TookOrLost s number row → IsKept s number row
kept_so s number (placement.At epoch) h = h
kept_so s number (placement.Skipped downs) h = tt

-- each placed chunk of a version that is left
pub runs_keep_chunks : RunsKeepChunks
runs_keep_chunks script shortages geometry valid tokens few number version is left server s row there placed =
    by (holds.known.kept number version is (let low : server < length version.placed = slice_get_within version.placed server row placed in omega (arith, low)) server s there)
  where
    some : 0 < chunk_count script.geometry
    some = (let two : 2 ≤ script.geometry.parity_count = geometry.limits.parity_chunks.0 in omega (arith, two))

    holds : Holds script (can_run script geometry valid) some tokens few tokens (run_core script shortages tokens)
    holds = run_holds script (can_run script geometry valid) some tokens few shortages

    same : row_at version.placed server ≡ row
    same =
        same_Some (row_at version.placed server) row
        (sym (slice_get-get_or version.placed server (placement.At 0) (slice_get_within version.placed server row placed)) ∙ placed)

    by : IsGone version ⊎ TookOrLost s number (row_at version.placed server) → IsKept s number row
    by (inl gone) = absurd (left_live version.standing left gone)
    by (inr took) = kept_so s number row (subst (TookOrLost s number) same took)

-- The rule on chunks that were found missing.
use Rattle.std.proofs.Common.{◌≡◌, ◌≢◌, ℕ, ◌+◌, ◌≤◌, Bool, true, false, not, ◌||◌, nat_eq, nat_lt, nat_le, ◌&&◌, List, [], length, None, All, refl}
use Rattle.std.specs.Bool.{Decides}
use Rattle.std.specs.Option.{option_or}
use Rattle.std.proofs.lemmas.Bool.Decides.{Decides-eqb, Decides-ltb, Decides-and, Decides-not, Decides-by_and}
use Rattle.std.proofs.lemmas.Bool.{leb-true, le-leb}
use Rattle.clay_grid.specs.Shape.{chunk_count}
use Rattle.store_map.specs.declared.placement.Placement.{Placement}
use Rattle.store_map.specs.declared.placement.Placement.TheVariants.{At, Skipped}
use Rattle.store_map.specs.declared.placement.Found.{Found}
use Rattle.store_map.specs.declared.placement.Found.TheVariants.{Absent, Away}
use Rattle.store_map.specs.declared.script.Script.{Script}
use Rattle.store_map.specs.declared.call_name.CallName.{CallName}
use Rattle.store_map.specs.declared.cause.Triple.{Triple}
use Rattle.store_map.specs.declared.transcript.Transcript.{Transcript}
use Rattle.hist_rules.specs.Counts.{wipes, downs}
use Rattle.hist_rules.specs.MissingChunk.{names_server, is_told_downs, skip_fits, away_fits, lost_later, epoch_fits, chunk_missing}
use Rattle.hist_rules.specs.LostChunks.{may_lack_chunks, unavailable_calls, chunks_lost, lost_chunks}
use Rattle.hist_rules.specs.FoundMissing.{TellsDowns, WasPlaced, WasFound, WasLost, IsMissing, LacksChunks, FoundMissing}
use Rattle.hist_rules.proofs.Judges.{Judges, none_judges, unless_judges, or_judges, like_judges, each_judges, after_judges}

pub decides_leb : (m n : ℕ) → Decides (nat_le m n) (m ≤ n)
decides_leb m n = (leb-true m n, le-leb m n)

pub downs_decides : (script : Script) (server told : ℕ) → Decides (is_told_downs script server told) (TellsDowns script server told)
downs_decides script server told = Decides-and (nat_le 1 told) (nat_le told (downs script server)) (decides_leb 1 told) (decides_leb told (downs script server))

-- a server isn't among those before
new_judges : (server : ℕ) (before : List Triple) → Decides (not (names_server server before)) (All (λ other. server ≢ other.server) before)
new_judges server before =
    Decides-by_and (λ other. not (nat_eq server other.server)) (λ other. server ≢ other.server) (λ triples. not (names_server server triples))
    (λ other. Decides-not (nat_eq server other.server) (Decides-eqb server other.server)) refl (λ other others. deMorgan (nat_eq server other.server) (names_server server others)) before
  where
    deMorgan : (a b : Bool) → not (a || b) ≡ (not a && not b)
    deMorgan true b = refl
    deMorgan false b = refl

skip_judges : (script : Script) (call : CallName) (server : ℕ) (placed : Placement) → Judges (skip_fits script call server placed) (WasPlaced script server placed)
skip_judges script call server (At epoch) = none_judges
skip_judges script call server (Skipped told) = unless_judges (is_told_downs script server told) _ refl (downs_decides script server told)

away_judges : (script : Script) (call : CallName) (server : ℕ) (placed : Placement) (found : Found)
    → Judges (option_or (away_fits script call server found) (option_or (lost_later call placed found) (option_or (epoch_fits script call server found) None))) (WasFound script server found × WasLost placed found)
away_judges script call server (At placed) (Absent found) =
    like_judges (option_or (lost_later call (At placed) (Absent found)) (option_or (epoch_fits script call server (Absent found)) None)) (λ h. (h.1.0, h.0)) (λ h. (h.1, (h.0, tt)))
    (or_judges (lost_later call (At placed) (Absent found)) (option_or (epoch_fits script call server (Absent found)) None)
    (unless_judges (nat_lt placed found) _ refl (Decides-ltb placed found))
    (or_judges (epoch_fits script call server (Absent found)) None (unless_judges (nat_le found (wipes script server)) _ refl (decides_leb found (wipes script server))) none_judges))
away_judges script call server (Skipped told) (Absent found) =
    like_judges (option_or (epoch_fits script call server (Absent found)) None) (λ h. (h.0, tt)) (λ h. (h.0, tt))
    (or_judges (epoch_fits script call server (Absent found)) None (unless_judges (nat_le found (wipes script server)) _ refl (decides_leb found (wipes script server))) none_judges)
away_judges script call server (At placed) (Away told) =
    or_judges (away_fits script call server (Away told)) None (unless_judges (is_told_downs script server told) _ refl (downs_decides script server told)) none_judges
away_judges script call server (Skipped skipped) (Away told) =
    or_judges (away_fits script call server (Away told)) None (unless_judges (is_told_downs script server told) _ refl (downs_decides script server told)) none_judges

missing_judges : (script : Script) (call : CallName) (missing before : List Triple) (triple : Triple) → Judges (chunk_missing script call missing before triple) (IsMissing script before triple)
missing_judges script call missing before triple =
    like_judges (chunk_missing script call missing before triple)
    (λ h. record { server = h.0; distinct = h.1.0; placed = h.1.1.0; found = h.1.1.1.0; lost = h.1.1.1.1 })
    (λ h. (h.server, (h.distinct, (h.placed, (h.found, h.lost)))))
    (or_judges _ _ (unless_judges (nat_lt triple.server (chunk_count script.geometry)) _ refl (Decides-ltb triple.server (chunk_count script.geometry)))
    (or_judges _ _ (unless_judges (not (names_server triple.server before)) _ refl (new_judges triple.server before))
    (or_judges _ _ (skip_judges script call triple.server triple.placed)
    (away_judges script call triple.server triple.placed triple.found))))

lacks_judges : (script : Script) (entry : CallName × List Triple) → Judges (chunks_lost script entry) (LacksChunks script entry.0 entry.1)
lacks_judges script (call, missing) =
    like_judges (chunks_lost script (call, missing)) (λ h. record { kind = h.0; count = h.1.0; servers = h.1.1.0 }) (λ h. (h.kind, (h.count, (h.servers, tt))))
    (or_judges _ _ (unless_judges (may_lack_chunks script call) _ refl ((λ e. e), (λ e. e)))
    (or_judges _ _ (unless_judges (nat_eq (length missing) (script.geometry.parity_count + 1)) _ refl (Decides-eqb (length missing) (script.geometry.parity_count + 1)))
    (or_judges _ _ (after_judges (chunk_missing script call missing) (IsMissing script) (missing_judges script call missing) [] missing) none_judges)))

pub found_missing_judges : (script : Script) (t : Transcript) → Judges (lost_chunks script t) (FoundMissing script t)
found_missing_judges script t = each_judges (chunks_lost script) (λ entry. LacksChunks script entry.0 entry.1) (lacks_judges script) (unavailable_calls t)

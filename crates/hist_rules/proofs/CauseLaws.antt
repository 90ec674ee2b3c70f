-- The rules on calls given up, lost races, results of rebuilds, and takes.
use Rattle.std.proofs.Common.{ℕ, ◌+◌, ◌≤◌, nat_eq, nat_lt, nat_le, ◌&&◌, List, [], length, slice_get, count_by, Option, None, Some, IfSome, option_and_then, refl}
use Rattle.std.proofs.lemmas.Bool.Decides.{Decides-eqb, Decides-ltb, Decides-and}
use Rattle.store_map.specs.Limits.{tries_of}
use Rattle.store_map.specs.declared.call.Rebuild.{Rebuild}
use Rattle.store_map.specs.declared.script.Script.{Script}
use Rattle.store_map.specs.declared.call_name.ClientCall.{ClientCall}
use Rattle.store_map.specs.declared.call_name.CallName.{CallName}
use Rattle.store_map.specs.declared.call_name.CallName.TheVariants.{Client, Repairer}
use Rattle.store_map.specs.declared.cause.Cause.{Cause}
use Rattle.store_map.specs.declared.cause.Cause.TheVariants as cause
use Rattle.store_map.specs.declared.cause.RepairResult.{RepairResult}
use Rattle.store_map.specs.declared.cause.RepairResult.TheVariants as result
use Rattle.store_map.specs.declared.line.TLine.{TLine}
use Rattle.store_map.specs.declared.transcript.Transcript.{Transcript}
use Rattle.hist_rules.specs.Calls.{call_of, rebuild_of, same_actor}
use Rattle.hist_rules.specs.Counts.{wipes, reaps}
use Rattle.hist_rules.specs.Named.{is_change_point}
use Rattle.hist_rules.specs.MissingChunk.{is_told_downs}
use Rattle.hist_rules.specs.LostRaces.{written_name, begins_later, race_lost, races_lost, cause_of_races, lost_races}
use Rattle.hist_rules.specs.GivenUp.{reaped_calls, is_reaped, given_up}
use Rattle.hist_rules.specs.CausesNamed.{result_named, causes_named}
use Rattle.hist_rules.specs.TakesAddUp.{taken_of, server_adds_up, takes_add_up}
use Rattle.hist_rules.specs.GivenUpOrLost.{GivenUp, IsRace, IsLoser, LostRace, LostRaces, NamesOwn, NameOwnResults}
use Rattle.hist_rules.specs.IsHistory.{AddsUp, TakesAddUp}
use Rattle.hist_rules.proofs.Judges.{Judges, is_fault, none_judges, unless_judges, or_judges, like_judges, each_judges, after_judges}
use Rattle.hist_rules.proofs.MissingLaws.{decides_leb, downs_decides}

pub given_up_judges : (script : Script) (t : Transcript) → Judges (given_up script t) (GivenUp script t)
given_up_judges script t =
    after_judges (is_reaped script) (λ before call. count_by (same_actor call) before + 1 ≤ reaps script call)
    (λ before call. unless_judges (nat_le (count_by (same_actor call) before + 1) (reaps script call)) _ refl (decides_leb (count_by (same_actor call) before + 1) (reaps script call)))
    [] (reaped_calls t)

-- ---- races
begins_judges : (call : CallName) (found : Option (ℕ × ℕ)) (looked_at : ℕ) → Judges (begins_later call found looked_at) (IfSome found (λ other. other.1 ≤ looked_at))
begins_judges call None looked_at = none_judges
begins_judges call (Some other) looked_at = unless_judges (nat_le other.1 looked_at) _ refl (decides_leb other.1 looked_at)

race_judges : (script : Script) (t : Transcript) (call : CallName) (name : List ℕ) (before : List (ℕ × ℕ)) (pair : ℕ × ℕ) → Judges (race_lost script t call name before pair) (IsRace script t name before pair)
race_judges script t call name before pair =
    like_judges (race_lost script t call name before pair) (λ h. record { later = h.0; order = h.1.0; looked_at = h.1.1.0.0; newer = h.1.1.0.1 }) (λ h. (h.later, (h.order, ((h.looked_at, h.newer), tt))))
    (or_judges _ _ (unless_judges (nat_lt pair.0 pair.1) _ refl (Decides-ltb pair.0 pair.1))
    (or_judges _ _ (begins_judges call (slice_get before 0) pair.0)
    (or_judges _ _ (unless_judges (is_change_point script t name pair.0 && is_change_point script t name pair.1) _ refl
    (Decides-and (is_change_point script t name pair.0) (is_change_point script t name pair.1) ((λ e. e), (λ e. e)) ((λ e. e), (λ e. e)))) none_judges)))

loser_judges : (script : Script) (t : Transcript) (call : CallName) (pairs : List (ℕ × ℕ)) (found : Option (List ℕ)) → Judges (races_lost script t call pairs found) (IsLoser script t pairs found)
loser_judges script t call pairs None = record { none = λ e. is_fault e; clear = λ never. absurd never; fault = refl }
loser_judges script t call pairs (Some name) =
    like_judges (races_lost script t call pairs (Some name)) (λ h. record { count = h.0; races = h.1.0 }) (λ h. (h.count, (h.races, tt)))
    (or_judges _ _ (unless_judges (nat_eq (length pairs) (tries_of script)) _ refl (Decides-eqb (length pairs) (tries_of script)))
    (or_judges _ _ (after_judges (race_lost script t call name) (IsRace script t name) (race_judges script t call name) [] pairs) none_judges))

cause_judges : (script : Script) (t : Transcript) (call : ClientCall) (why : Cause) → Judges (cause_of_races script t call why) (LostRace script t call why)
cause_judges script t call (cause.Contended pairs) = loser_judges script t (Client call) pairs (option_and_then written_name (call_of script call))
cause_judges script t call (cause.Unavailable stripe missing) = none_judges
cause_judges script t call (cause.Reaped at) = none_judges
cause_judges script t call cause.NoMemory = none_judges

pub races_judges : (script : Script) (t : Transcript) → Judges (lost_races script t) (LostRaces script t)
races_judges script t =
    each_judges (λ line. cause_of_races script t line.call line.cause) (λ line. LostRace script t line.call line.cause) (λ line. cause_judges script t line.call line.cause) t.refused

-- ---- results
own_judges : (script : Script) (t : Transcript) (call : CallName) (what : RepairResult) (rebuild : Rebuild) → Judges (result_named script t call what rebuild) (NamesOwn script t what rebuild)
own_judges script t call (result.Superseded newer) rebuild = unless_judges (is_change_point script t rebuild.name newer) _ refl ((λ e. e), (λ e. e))
own_judges script t call (result.Unavailable stripe missing) rebuild = unless_judges (nat_eq rebuild.stripe stripe) _ refl (Decides-eqb rebuild.stripe stripe)
own_judges script t call (result.Away told) rebuild = unless_judges (is_told_downs script rebuild.server told) _ refl (downs_decides script rebuild.server told)
own_judges script t call result.Rebuilt rebuild = none_judges
own_judges script t call result.Here rebuild = none_judges
own_judges script t call result.NoSuch rebuild = none_judges
own_judges script t call (result.Reaped at) rebuild = none_judges
own_judges script t call result.NoMemory rebuild = none_judges

found_judges : (script : Script) (t : Transcript) (call : CallName) (what : RepairResult) (found : Option Rebuild)
    → Judges (option_and_then (result_named script t call what) found) (IfSome found (NamesOwn script t what))
found_judges script t call what None = none_judges
found_judges script t call what (Some rebuild) = own_judges script t call what rebuild

pub results_judges : (script : Script) (t : Transcript) → Judges (causes_named script t) (NameOwnResults script t)
results_judges script t =
    each_judges (λ line. option_and_then (result_named script t (Repairer line.call) line.result) (rebuild_of script line.call)) (λ line. IfSome (rebuild_of script line.call) (NamesOwn script t line.result))
    (λ line. found_judges script t (Repairer line.call) line.result (rebuild_of script line.call)) t.repairs

-- ---- takes
adds_judges : (script : Script) (t : Transcript) (line : TLine) → Judges (server_adds_up script t line) (AddsUp script t line)
adds_judges script t line =
    like_judges (server_adds_up script t line) (λ h. record { taken = h.0; epoch = h.1 }) (λ h. (h.taken, h.epoch))
    (unless_judges (nat_eq line.taken (taken_of t line.server) && nat_eq line.epoch (wipes script line.server)) _ refl
    (Decides-and (nat_eq line.taken (taken_of t line.server)) (nat_eq line.epoch (wipes script line.server)) (Decides-eqb line.taken (taken_of t line.server)) (Decides-eqb line.epoch (wipes script line.server))))

pub adds_up_judges : (script : Script) (t : Transcript) → Judges (takes_add_up script t) (TakesAddUp script t)
adds_up_judges script t = each_judges (server_adds_up script t) (AddsUp script t) (adds_judges script t) t.servers

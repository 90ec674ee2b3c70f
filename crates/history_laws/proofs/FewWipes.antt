-- A valid script empties no server as often as 2^64 times.
use Rattle.std.proofs.Common.{ℕ, ◌^◌, ◌<◌, ◌≤◌, length, count_by, arith}
use Rattle.std.proofs.lemmas.List.Sums.{count_by-le-length}
use Rattle.store_map.specs.Naming.{IsValid}
use Rattle.store_map.specs.declared.script.Script.{Script}
use Rattle.hist_rules.specs.Counts.{is_wipe_of}
use Rattle.history_laws.specs.HistoryLaws.{HasFewWipes}

pub few_wipes : (script : Script) → IsValid script → HasFewWipes script.schedule
few_wipes script valid server =
    let most : length script.schedule ≤ 1000000 = valid.limits.schedule in
    let count : count_by (is_wipe_of server) script.schedule ≤ length script.schedule = count_by-le-length (is_wipe_of server) script.schedule in
    omega (arith, most, count)

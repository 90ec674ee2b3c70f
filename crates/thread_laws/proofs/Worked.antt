-- The small threaded run, by the laws.
use Rattle.std.proofs.Common.{ℕ, zero, suc, ◌<◌, ◌≤◌, List, [], ◌∷◌, length, None, IfSome, All, inl, refl, arith}
use Rattle.std.specs.Prelude.{codes}
use Rattle.std.proofs.lemmas.List.Elements.{All-nil, All-cons}
use Rattle.clay_grid.specs.Limits.{IsGeometry}
use Rattle.clay_grid.specs.Shape.{chunk_count}
use Rattle.store_map.specs.Limits.{data_length}
use Rattle.store_map.specs.Naming.{IsValid, NamesPart}
use Rattle.store_map.specs.declared.actor.Token.TheVariants as token
use Rattle.store_map.specs.declared.call.Call.{Call}
use Rattle.store_map.specs.declared.call.Call.TheVariants as call
use Rattle.store_map.specs.declared.call.Rebuild.{Rebuild}
use Rattle.store_map.specs.declared.script.RepairPart.{RepairPart}
use Rattle.store_map.specs.declared.script.ClientPart.{ClientPart}
use Rattle.thread_laws.specs.Merging.{run_of_steps}
use Rattle.thread_laws.specs.StatsExample.{two_stats, stats, first_stat, second_stat, the_wipe}
use Rattle.thread_laws.proofs.Merged.{merges}
use Rattle.thread_laws.proofs.Small.{stats_merge}
use Rattle.store_core.specs.Work.{client_work}
use Rattle.thread_laws.specs.Ended.{NoneHasAStep, HaveEnded, RanApart}
use Rattle.thread_laws.specs.Worked.{StatsAreARun}
use Rattle.thread_laws.proofs.Runs.{steps_show_runs}

code : IsGeometry two_stats.geometry
code =
    record {
      limits = record { data_chunks = omega arith; parity_chunks = (omega arith, omega arith); layers = omega arith; width = (omega arith, omega arith); chunk = omega arith };
      data_chunks = omega arith;
      nodes = omega arith;
      chunks = omega arith;
      virtual_nodes = omega arith;
      columns = (omega arith, omega arith);
      some_layers = omega arith;
      stripe = omega arith;
    }

both : (P : ClientPart → Type 0) → P (record { calls = call.Stat (codes "a") ∷ []; leave = None }) → P (record { calls = call.Stat (codes "b") ∷ []; leave = None }) → All P two_stats.clients
both P one other =
    All-cons P (record { calls = call.Stat (codes "a") ∷ []; leave = None }) (record { calls = call.Stat (codes "b") ∷ []; leave = None } ∷ []) one
    (All-cons P (record { calls = call.Stat (codes "b") ∷ []; leave = None }) [] other (All-nil P))

asks_none : (name : List ℕ) → All (λ (made : Call). data_length made ≤ 2097152) (call.Stat name ∷ [])
asks_none name = All-cons (λ (made : Call). data_length made ≤ 2097152) (call.Stat name) [] (omega arith) (All-nil (λ (made : Call). data_length made ≤ 2097152))

valid : IsValid two_stats
valid =
    record {
      form = inl refl;
      limits = record {
        size = tt;
        tries = tt;
        clients = omega arith;
        repairers = omega arith;
        client_calls = both (λ part. length part.calls ≤ 4096) (omega arith) (omega arith);
        repairer_calls = All-nil (λ (part : RepairPart). length part.calls ≤ 4096);
        data_lengths = both (λ part. All (λ (made : Call). data_length made ≤ 2097152) part.calls) (asks_none (codes "a")) (asks_none (codes "b"));
        stripes = omega arith;
        stripe_bytes = omega arith;
        read_bytes = omega arith;
        schedule = omega arith;
      };
      names = record {
        tokens = All-cons (NamesPart two_stats) (token.Wipe 1) [] (omega arith) (All-nil (NamesPart two_stats));
        rebuilds = All-nil (λ (part : RepairPart). All (λ (rebuild : Rebuild). rebuild.server < chunk_count two_stats.geometry) part.calls);
        client_limits = both (λ part. IfSome part.leave (λ _. 0 < length part.calls)) tt tt;
        repairer_limits = All-nil (λ (part : RepairPart). IfSome part.leave (λ _. 0 < length part.calls));
      };
    }

ended : HaveEnded two_stats (run_of_steps two_stats (first_stat ∷ the_wipe ∷ second_stat ∷ []))
ended = record { clients = by; repairers = λ i. tt }
  where
    by : NoneHasAStep (client_work two_stats) (run_of_steps two_stats (first_stat ∷ the_wipe ∷ second_stat ∷ [])).clients
    by zero = refl
    by (suc zero) = refl
    by (suc (suc i)) = tt

ran : RanApart two_stats stats (run_of_steps two_stats (first_stat ∷ the_wipe ∷ second_stat ∷ []))
ran =
    record {
      twice = stats_merge.twice;
      go = stats_merge.go;
      lines = refl;
      ends = merges two_stats (token.Wipe 1 ∷ []) stats (first_stat ∷ the_wipe ∷ second_stat ∷ []) stats_merge.twice stats_merge.go stats_merge.ordered;
      ended = ended;
    }

pub stats_are_a_run : StatsAreARun
stats_are_a_run = steps_show_runs two_stats stats (run_of_steps two_stats (first_stat ∷ the_wipe ∷ second_stat ∷ [])) code valid ran

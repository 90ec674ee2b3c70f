-- Ended actors and served calls together.
use Rattle.clay_grid.specs.Shape.{chunk_count}
use Rattle.thread_laws.proofs.Served.{transcripts_are_runs}
use Rattle.thread_laws.specs.Logs.{run_lists}
use Rattle.thread_laws.specs.EndLaws.{end_of, world_of}
use Rattle.thread_laws.proofs.Ending.{actors_end_runs}
use Rattle.thread_laws.specs.ShowLaws.{ActorsShowRuns}

pub actors_show_runs : ActorsShowRuns
actors_show_runs script d servers logs swept operated clients repairers sweeper geometry valid stand all states calls rebuilds holds owed t made =
    let ends = actors_end_runs script d servers logs swept operated clients repairers sweeper stand all in
    transcripts_are_runs script (run_lists (chunk_count script.geometry) logs) (end_of script d servers logs) (world_of script d servers clients repairers sweeper) geometry valid ends.0 ends.1 d.core states calls
    rebuilds holds owed t made

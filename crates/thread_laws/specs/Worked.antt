-- A small threaded run, whole: two clients each ask for an object that isn't there, while the operator empties a server.
use Rattle.std.specs.Prelude.{ℕ, [], ◌∷◌}
use Rattle.store_map.specs.declared.reply.Reply.TheVariants as reply
use Rattle.store_map.specs.declared.line.TLine.{TLine}
use Rattle.store_map.specs.declared.shown.Shown.TheVariants as shown
use Rattle.store_map.specs.declared.transcript.Transcript.{Transcript}
use Rattle.store_core.specs.RowLines.{client}
use Rattle.thread_laws.specs.StatsExample.{two_stats}
use Rattle.thread_laws.specs.Run.{IsRun}

-- a server of which nothing was taken, emptied so often
abbrev pub still_server : ℕ → ℕ → TLine
still_server server epoch = record { server = server; taken = 0; held = 0; epoch = epoch }

-- what it shows
abbrev pub stats_shown : Transcript
stats_shown =
    record {
      history =
          record { point = 0; call = client 0 0; reply = shown.Reply reply.NoSuch }
          ∷ record { point = 1; call = client 1 0; reply = shown.Reply reply.NoSuch } ∷ [];
      refused = [];
      repairs = [];
      unanswered = [];
      objects = [];
      takes = [];
      servers = still_server 0 0 ∷ still_server 1 1 ∷ still_server 2 0 ∷ still_server 3 0 ∷ [];
    }

-- it is a run's transcript
abbrev pub StatsAreARun : Type 0
StatsAreARun = IsRun two_stats stats_shown

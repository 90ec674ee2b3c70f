-- A server gave what all calls took of it, and its epoch is how often it was emptied.
use Rattle.std.specs.Prelude.{ℕ, nat_eq, ◌&&◌, get_or, sum_by, Option}
use Rattle.store_map.specs.declared.script.Script.{Script}
use Rattle.store_map.specs.declared.line.TLine.{TLine}
use Rattle.store_map.specs.declared.transcript.Transcript.{Transcript}
use Rattle.hist_rules.specs.declared.verdict.Verdict.{Verdict}
use Rattle.hist_rules.specs.declared.verdict.Verdict.TheVariants.{BadSums}
use Rattle.hist_rules.specs.First.{unless, first_fault}
use Rattle.hist_rules.specs.Counts.{wipes}

-- what all calls took of a server; the sum may pass 64 bits
abbrev pub taken_of : Transcript → ℕ → ℕ
taken_of t server = sum_by (λ line. get_or line.takes server 0) t.takes

-- the fault tells what was taken of the server, how often it was emptied, and its line
abbrev pub server_adds_up : Script → Transcript → TLine → Option Verdict
server_adds_up script t line =
    unless (nat_eq line.taken (taken_of t line.server) && nat_eq line.epoch (wipes script line.server))
    (BadSums (taken_of t line.server) (wipes script line.server) line)

-- the first server whose line is wrong
abbrev pub takes_add_up : Script → Transcript → Option Verdict
takes_add_up script t = first_fault (server_adds_up script t) t.servers

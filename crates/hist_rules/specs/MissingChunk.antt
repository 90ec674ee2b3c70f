-- A server that a refusal names was away, or had lost the chunk.
use Rattle.std.specs.Prelude.{ℕ, ◌+◌, Bool, nat_eq, nat_lt, nat_le, ◌&&◌, not, List, [], ◌∷◌, length, Option, None, if◌then◌else◌}
use Rattle.std.specs.List.{list_any}
use Rattle.clay_grid.specs.Shape.{chunk_count}
use Rattle.store_map.specs.declared.placement.Placement.{Placement}
use Rattle.store_map.specs.declared.placement.Placement.TheVariants.{At, Skipped}
use Rattle.store_map.specs.declared.placement.Found.{Found}
use Rattle.store_map.specs.declared.placement.Found.TheVariants.{Absent, Away}
use Rattle.store_map.specs.declared.script.Script.{Script}
use Rattle.store_map.specs.declared.call_name.CallName.{CallName}
use Rattle.store_map.specs.declared.cause.Triple.{Triple}
use Rattle.hist_rules.specs.declared.verdict.Verdict.{Verdict}
use Rattle.hist_rules.specs.declared.verdict.Verdict.TheVariants.{BadCause}
use Rattle.hist_rules.specs.First.{unless, first_of}
use Rattle.hist_rules.specs.Counts.{wipes, downs}

-- whether the triples name this server
abbrev pub names_server : ℕ → List Triple → Bool
names_server server triples = list_any (λ triple. nat_eq server triple.server) triples

-- how many different servers they name
abbrev pub distinct_servers : List Triple → ℕ
distinct_servers [] = 0
distinct_servers (triple ∷ triples) = (if names_server triple.server triples then 0 else 1) + distinct_servers triples

-- the server tells that it was made away at least once, and no more often than in the whole schedule
abbrev pub is_told_downs : Script → ℕ → ℕ → Bool
is_told_downs script server told = nat_le 1 told && nat_le told (downs script server)

-- so it told when the chunk was to be placed; the fault tells the downs of the schedule, and those told
abbrev pub skip_fits : Script → CallName → ℕ → Placement → Option Verdict
skip_fits script call server (At epoch) = None
skip_fits script call server (Skipped told) = unless (is_told_downs script server told) (BadCause call (downs script server) told)

-- so it told when the chunk was asked for; the fault tells the same
abbrev pub away_fits : Script → CallName → ℕ → Found → Option Verdict
away_fits script call server (Absent epoch) = None
away_fits script call server (Away told) = unless (is_told_downs script server told) (BadCause call (downs script server) told)

-- a chunk that was placed was lost by emptying the server later; the fault tells both epochs
abbrev pub lost_later : CallName → Placement → Found → Option Verdict
lost_later call (At placed) (Absent found) = unless (nat_lt placed found) (BadCause call placed found)
lost_later call _ _ = None

-- the server was emptied no more often than in the whole schedule; the fault tells the schedule's count, and the epoch found
abbrev pub epoch_fits : Script → CallName → ℕ → Found → Option Verdict
epoch_fits script call server (Absent found) = unless (nat_le found (wipes script server)) (BadCause call (wipes script server) found)
epoch_fits script call server (Away told) = None

-- one server of a refusal, after the ones before it; the faults of its number tell how many servers there are, and of one named twice how many are named and how many of them differ
abbrev pub chunk_missing : Script → CallName → List Triple → List Triple → Triple → Option Verdict
chunk_missing script call missing before triple =
    first_of (unless (nat_lt triple.server (chunk_count script.geometry)) (BadCause call (chunk_count script.geometry) triple.server)
    ∷ unless (not (names_server triple.server before)) (BadCause call (length missing) (distinct_servers missing))
    ∷ skip_fits script call triple.server triple.placed
    ∷ away_fits script call triple.server triple.found
    ∷ lost_later call triple.placed triple.found
    ∷ epoch_fits script call triple.server triple.found
    ∷ [])

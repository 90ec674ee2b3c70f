-- Each line of a history is held against a reply of the map.
use Rattle.std.specs.Prelude.{◌≡◌, length}
use Rattle.std.specs.List.{zip}
use Rattle.store_map.specs.History.{replies_of}
use Rattle.store_map.specs.Limits.{size_of}
use Rattle.store_map.specs.declared.script.Script.{Script}
use Rattle.store_map.specs.declared.transcript.Transcript.{Transcript}
use Rattle.hist_rules.specs.RepliesMatch.{history_calls}

-- none of its lines is without a reply of the map
abbrev pub HasEachReply : Script → Transcript → Type 0
HasEachReply script t = length (zip t.history (replies_of (size_of script) (history_calls script t))) ≡ length t.history

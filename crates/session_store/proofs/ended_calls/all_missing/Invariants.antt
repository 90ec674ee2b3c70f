use Rattle.std.specs.Prelude.{◌≡◌, ◌≤◌, length, map, take, vec_capacity}
use Rattle.session_store.specs.Answers.{missing_in}
use Rattle.session_store.proofs.ended_calls.all_missing.Given as goal

-- those that came are told, and all have room
abbrev pub invariant-loop-one : goal.invariant-loop-one
invariant-loop-one l = record {
  done : l.missing.items ≡ map missing_in (take l.one-index l.lost);
  room : length l.lost ≤ vec_capacity l.missing;
}

-- What is no history: a transcript in which a line is changed or left out.
use Rattle.std.specs.Prelude.{◌≡◌, ◌≢◌, ℕ, ◌+◌, ◌<◌, true, List, ◌++◌, map, length, Contains, IsTrue, Some, slice_get}
use Rattle.store_map.specs.Limits.{tries_of}
use Rattle.store_map.specs.declared.script.Script.{Script}
use Rattle.store_map.specs.declared.call_name.CallName.{CallName}
use Rattle.store_map.specs.declared.cause.Triple.{Triple}
use Rattle.store_map.specs.declared.cause.Cause.TheVariants as cause
use Rattle.store_map.specs.declared.line.HLine.{HLine}
use Rattle.store_map.specs.declared.line.XLine.{XLine}
use Rattle.store_map.specs.declared.line.TLine.{TLine}
use Rattle.store_map.specs.declared.transcript.Transcript.{Transcript}
use Rattle.hist_rules.specs.Calls.{number_of, same_actor}
use Rattle.hist_rules.specs.Named.{listed_calls, answered_calls, is_reply}
use Rattle.hist_rules.specs.OneOpenCall.{unanswered_calls}
use Rattle.hist_rules.specs.LostChunks.{unavailable_calls}
use Rattle.hist_rules.specs.TakesAddUp.{taken_of}

-- the histories are of the same calls in the same order, and at one place they tell two replies
pub record ReplyChanged (t other : Transcript) : Type 0 where
  pub calls : map (λ (line : HLine). line.call) other.history ≡ map (λ (line : HLine). line.call) t.history
  pub place : ℕ
  pub line : HLine
  pub stands : slice_get t.history place ≡ Some line
  pub replied : IsTrue (is_reply line.reply)
  pub changed : HLine
  pub stands_there : slice_get other.history place ≡ Some changed
  pub replied_there : IsTrue (is_reply changed.reply)
  pub differs : changed.reply ≢ line.reply

-- the call has no answer, though a later one of its actor has a line
pub record AnswerLeftOut (t : Transcript) (call later : CallName) : Type 0 where
  pub gone : ¬ Contains (answered_calls t) call
  pub stands : Contains (answered_calls t ++ unanswered_calls t) later
  pub actor : same_actor later call ≡ true
  pub earlier : number_of call < number_of later

-- the call took subchunks, and no line says what became of it
pub record OutcomeLeftOut (t : Transcript) (call : CallName) : Type 0 where
  pub took : Contains (map (λ line. line.call) t.takes) call
  pub gone : ¬ Contains (listed_calls t) call

-- the same history, and other objects at the end
pub record ObjectsChanged (t other : Transcript) : Type 0 where
  pub history : other.history ≡ t.history
  pub differ : other.objects ≢ t.objects

-- a server's line as before, though its column has another sum
pub record TakesChanged (t other : Transcript) (line : TLine) : Type 0 where
  pub stands : Contains t.servers line
  pub stands_there : Contains other.servers line
  pub differ : taken_of other line.server ≢ taken_of t line.server

-- a refusal that names more or fewer servers than one more than the code can spare
pub record ServersLeftOut (script : Script) (t : Transcript) (call : CallName) (missing : List Triple) : Type 0 where
  pub stands : Contains (unavailable_calls t) (call, missing)
  pub count : length missing ≢ script.geometry.parity_count + 1

-- a write that is refused after more or fewer races than it has tries
pub record RacesLeftOut (script : Script) (t : Transcript) (line : XLine) (pairs : List (ℕ × ℕ)) : Type 0 where
  pub stands : Contains t.refused line
  pub contended : line.cause ≡ cause.Contended pairs
  pub count : length pairs ≢ tries_of script

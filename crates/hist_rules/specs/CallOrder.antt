-- The order of calls: each line's call is there, in its actor's order, answered at most once, and at most the next one has no reply.
use Rattle.std.specs.Prelude.{ℕ, ◌≡◌, ◌<◌, nat_eq, List, map, ◌++◌, slice_get, All, Contains, IsFalse, IfSome, find}
use Rattle.store_map.specs.declared.script.Script.{Script}
use Rattle.store_map.specs.declared.call_name.CallName.{CallName}
use Rattle.store_map.specs.declared.call_name.CallName.TheVariants.{Client}
use Rattle.store_map.specs.declared.shown.Shown.TheVariants.{Unfinished}
use Rattle.store_map.specs.declared.line.HLine.{HLine}
use Rattle.store_map.specs.declared.transcript.Transcript.{Transcript}
use Rattle.hist_rules.specs.First.{AllAlong}
use Rattle.hist_rules.specs.Calls.{number_of, with_number, same_actor, calls_of}
use Rattle.hist_rules.specs.Named.{listed_calls, answered_calls}
use Rattle.hist_rules.specs.OneOpenCall.{unanswered_calls}

-- the point is above that of the line before, the number above that of the client's line before
pub record IsLater (before : List HLine) (line : HLine) : Type 0 where
  pub point : IfSome (slice_get before 0) (λ other. other.point < line.point)
  pub number : IfSome (find (λ other. nat_eq line.call.client other.call.client) before) (λ other. other.call.number < line.call.number)

-- all earlier calls of this call's actor are among the calls
abbrev pub Follows : List CallName → CallName → Type 0
Follows calls call = (number : ℕ) → number < number_of call → Contains calls (with_number call number)

-- an answer, after the ones before it
pub record IsInOrder (answered : List CallName) (before : List CallName) (call : CallName) : Type 0 where
  pub earlier : Follows answered call
  pub once : ¬ Contains before call

-- a call without a reply, after the ones before it
pub record IsNext (answered : List CallName) (before : List CallName) (call : CallName) : Type 0 where
  pub alone : All (λ other. IsFalse (same_actor call other)) before
  pub earlier : Follows answered call
  pub unanswered : ¬ Contains answered call

-- no call is made up or answered twice, none is left out before a later one, no caller has two calls under way, and nothing happens for a call that isn't told of
pub record KeepsCallOrder (script : Script) (t : Transcript) : Type 0 where
  pub there : All (λ call. number_of call < calls_of script call) (listed_calls t ++ map (λ line. line.call) t.takes)
  pub rising : AllAlong IsLater t.history
  pub answered : AllAlong (IsInOrder (answered_calls t)) (answered_calls t)
  pub effects : All (λ line. line.reply ≡ Unfinished → Contains (unanswered_calls t) (Client line.call)) t.history
  pub unanswered : AllAlong (IsNext (answered_calls t)) (unanswered_calls t)
  pub takes : All (λ line. Contains (listed_calls t) line.call) t.takes

-- What the order of a history says of any two lines, near or far.
use Rattle.std.specs.Prelude.{◌≡◌, ◌≢◌, false, ◌<◌, AllPairs}
use Rattle.store_map.specs.declared.transcript.Transcript.{Transcript}
use Rattle.hist_rules.specs.Calls.{same_actor}
use Rattle.hist_rules.specs.Named.{answered_calls}
use Rattle.hist_rules.specs.OneOpenCall.{unanswered_calls}

-- points rise strictly, and the numbers of each client's lines; no call is answered twice, and no actor has two calls without a reply
pub record OrdersPairs (t : Transcript) : Type 0 where
  pub points : AllPairs (λ one other. one.point < other.point) t.history
  pub numbers : AllPairs (λ one other. other.call.client ≡ one.call.client → one.call.number < other.call.number) t.history
  pub once : AllPairs (λ one other. other ≢ one) (answered_calls t)
  pub alone : AllPairs (λ one other. same_actor other one ≡ false) (unanswered_calls t)

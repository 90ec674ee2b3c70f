-- A transcript that is faithful to the steps of a run.
use Rattle.std.specs.Prelude.{◌≡◌, List}
use Rattle.store_map.specs.declared.script.Script.{Script}
use Rattle.store_map.specs.declared.call_name.CallName.{CallName}
use Rattle.store_map.specs.declared.transcript.Transcript.{Transcript}
use Rattle.hist_rules.specs.declared.verdict.Verdict.TheVariants.{Legal}
use Rattle.hist_rules.specs.IsHistory.{IsHistory}
use Rattle.hist_rules.specs.Verdict.{verdict_of}
use Rattle.history_laws.specs.LineCauses.{LinesAreCaused}
use Rattle.history_laws.specs.LossesInTime.{HasLossesInTime}
use Rattle.history_laws.specs.PointsInTime.{HasPointsInTime}
use Rattle.history_laws.specs.Trace.{Made}
use Rattle.history_laws.specs.Over.{IsOver, MadeAllSteps}
use Rattle.history_laws.specs.Takes.{TakesLeast}
use Rattle.history_laws.specs.Answered.{TellsEnds, AnswersTheUnhindered}

-- what a transcript tells of a script of which these steps were made, in this order
pub record IsFaithful (script : Script) (steps : List Made) (t : Transcript) : Type 0 where
  -- one history of a plain map: each answered call stands in it once, in its caller's order, with the map's reply
  pub history : IsHistory script t
  -- so the checker finds no fault in it
  pub legal : verdict_of script t ≡ Legal
  -- of two calls in it the one that was over before the other began has the smaller point, and the points that a refusal or a rebuild's result names as newer came while its call ran
  pub points : HasPointsInTime steps t
  -- what a refusal names of servers was so when its call asked them
  pub losses : HasLossesInTime steps t
  -- each refusal and each rebuild's result is caused by what the steps told its call
  pub causes : LinesAreCaused script steps t
  -- each call that was over, and no other, is answered, refused or has its result
  pub ends : TellsEnds script steps t
  -- and a call is over that has made all the steps that such a call makes at most
  pub enough : (call : CallName) → MadeAllSteps script steps call → IsOver script steps call
  -- and a call that nothing hindered is answered
  pub answers : AnswersTheUnhindered script steps t
  -- what calls took is what their answers gave them: a rebuild that is rebuilt and found its chunk alone missing took exactly one part in as many as the grid has rows of each other chunk, and a get or a read that has its bytes and found none missing just the subchunks that have them
  pub takes : TakesLeast script steps t

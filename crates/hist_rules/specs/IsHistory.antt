-- A transcript that can be that of a run of the script: one history of a plain map, with causes for what was refused.
use Rattle.std.specs.Prelude.{◌≡◌, All}
use Rattle.store_map.specs.declared.script.Script.{Script}
use Rattle.store_map.specs.declared.line.TLine.{TLine}
use Rattle.store_map.specs.declared.transcript.Transcript.{Transcript}
use Rattle.hist_rules.specs.Counts.{wipes}
use Rattle.hist_rules.specs.TakesAddUp.{taken_of}
use Rattle.hist_rules.specs.CallOrder.{KeepsCallOrder}
use Rattle.hist_rules.specs.MapReplies.{HasMapReplies}
use Rattle.hist_rules.specs.FoundMissing.{FoundMissing}
use Rattle.hist_rules.specs.GivenUpOrLost.{GivenUp, LostRaces, NameOwnResults}

-- a server's line is wrong where it gave a subchunk that no call took, or kept quiet about one, or where its epoch isn't how often it was emptied
pub record AddsUp (script : Script) (t : Transcript) (line : TLine) : Type 0 where
  pub taken : line.taken ≡ taken_of t line.server
  pub epoch : line.epoch ≡ wipes script line.server

-- no repair or read traffic is unaccounted for, and no server hides that it lost its contents
abbrev pub TakesAddUp : Script → Transcript → Type 0
TakesAddUp script t = All (AddsUp script t) t.servers

-- what a transcript can't have, part by part
pub record IsHistory (script : Script) (t : Transcript) : Type 0 where
  -- a call that nobody made, that is answered twice, before an earlier one of its caller, or not at all though later ones are
  pub order : KeepsCallOrder script t
  -- a lost update, a torn read, a read that isn't the map's at its own point, an object that comes back after its delete, or that is missing at the end
  pub replies : HasMapReplies script t
  -- data that is called unavailable with too few servers named, or for losses that the operator never caused
  pub missing : FoundMissing script t
  -- a call that is given up without the operator
  pub given_up : GivenUp script t
  -- a write that gives up before it has lost as many races as it has tries, or for changes that nobody made
  pub races : LostRaces script t
  -- a rebuild that blames a change of another object, another stripe, or a server that never was away
  pub results : NameOwnResults script t
  -- subchunks that were given and not taken, or taken and not given, and a wipe that doesn't show
  pub takes : TakesAddUp script t

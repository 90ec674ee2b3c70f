-- Which lines may stand where.
use Rattle.std.specs.Prelude.{ℕ, Option, None, Some}
use Rattle.script_text.specs.declared.script_place.LineKind.{LineKind}
use Rattle.script_text.specs.declared.script_place.LineKind.TheVariants as kind
use Rattle.script_text.specs.declared.script_place.ScriptPlace.{ScriptPlace}
use Rattle.script_text.specs.declared.script_place.ScriptPlace.TheVariants as place

-- the place behind a line that may stand where a repairer's block may begin
abbrev pub next_repairer : LineKind → Option ScriptPlace
next_repairer kind.Repairer = Some place.Repairer
next_repairer kind.Schedule = Some place.Schedule
next_repairer _ = None

-- the place behind a line that may stand where any block may begin
abbrev pub next_block : LineKind → Option ScriptPlace
next_block kind.Client = Some place.Client
next_block k = next_repairer k

-- the place behind a line of this kind, if one may stand there; a step limit has this number
abbrev pub next_place : ScriptPlace → LineKind → ℕ → Option ScriptPlace
next_place place.Code kind.Size n = Some place.Size
next_place place.Code kind.Tries n = Some place.Tries
next_place place.Code k n = next_block k
next_place place.Size kind.Tries n = Some place.Tries
next_place place.Size k n = next_block k
next_place place.Tries k n = next_block k
next_place place.Client kind.Call n = Some place.Client
next_place place.Client kind.Leave n = Some (place.ClientLimit n)
next_place place.Client k n = next_block k
next_place (place.ClientLimit m) kind.Call n = Some place.ClientEnd
next_place (place.ClientLimit m) k n = None
next_place place.ClientEnd k n = next_block k
next_place place.Repairer kind.Rebuild n = Some place.Repairer
next_place place.Repairer kind.Leave n = Some (place.RepairerLimit n)
next_place place.Repairer k n = next_repairer k
next_place (place.RepairerLimit m) kind.Rebuild n = Some place.RepairerEnd
next_place (place.RepairerLimit m) k n = None
next_place place.RepairerEnd k n = next_repairer k
next_place place.Schedule kind.Step n = Some place.Schedule
next_place place.Schedule kind.End n = Some place.End
next_place place.Schedule k n = None
next_place place.End k n = None

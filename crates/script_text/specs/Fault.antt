-- What is wrong with a whole line behind others.
use Rattle.std.specs.Prelude.{◌≡◌, ℕ, ◌<◌, List, length, Option, None, Some, IfSome, ⊤}
use Rattle.clay_grid.specs.Limits.{IsGeometry}
use Rattle.clay_grid.specs.Shape.{chunk_count}
use Rattle.store_map.specs.Limits.{IsWithinLimits}
use Rattle.store_map.specs.declared.actor.Token.{Token}
use Rattle.store_map.specs.declared.actor.Token.TheVariants as token
use Rattle.store_map.specs.declared.script.Script.{Script}
use Rattle.script_text.specs.Behind.{with_line}
use Rattle.line_grammar.specs.Bounds.{HasNumbers}
use Rattle.line_grammar.specs.Forms.{HasForm}
use Rattle.script_text.specs.Front.{Front, Begun, MayStand}
use Rattle.line_grammar.specs.Line.{Line, CodeLine, StepLine, RebuildLine, line_words}
use Rattle.line_grammar.specs.Lines.{spaced}
use Rattle.line_grammar.specs.declared.line_fault.FaultKind.{FaultKind}
use Rattle.line_grammar.specs.declared.line_fault.FaultKind.TheVariants.{Syntax, Geometry, Limit, NoSuchActor, NoSuchServer}

-- the text, without its line feed, is the line's
abbrev pub SpellsLine : List ℕ → Line → Type 0
SpellsLine text l = HasForm l × (text ≡ spaced (line_words l))

-- no number is above 2^32 - 1, and with the line the script so far asks for no more than is allowed
abbrev pub FitsLimits : Front → Line → Type 0
FitsLimits (Begun p script) l = HasNumbers l × IsWithinLimits (with_line p script l)
FitsLimits _ l = HasNumbers l

-- a code line's numbers are those of a geometry
abbrev pub HasGeometry : Line → Type 0
HasGeometry (CodeLine g) = IsGeometry g
HasGeometry _ = ⊤

-- the actor that a step names has a block
abbrev pub NamesActorOf : Script → Token → Type 0
NamesActorOf script (token.Client i) = i < length script.clients
NamesActorOf script (token.Repairer i) = i < length script.repairers
NamesActorOf script (token.ReapClient i) = i < length script.clients
NamesActorOf script (token.ReapRepairer i) = i < length script.repairers
NamesActorOf script _ = ⊤

-- so does the one that a line names
abbrev pub NamesActor : Front → Line → Type 0
NamesActor (Begun p script) (StepLine step) = NamesActorOf script step
NamesActor _ _ = ⊤

-- the server that a step names
abbrev pub server_of_step : Token → Option ℕ
server_of_step (token.Wipe j) = Some j
server_of_step (token.Down j) = Some j
server_of_step (token.Up j) = Some j
server_of_step _ = None

-- the server that a line names
abbrev pub server_of : Line → Option ℕ
server_of (StepLine step) = server_of_step step
server_of (RebuildLine rebuild) = Some rebuild.server
server_of _ = None

-- the code has that server
abbrev pub NamesServer : Front → Line → Type 0
NamesServer (Begun p script) l =
    IfSome (server_of l) (λ server. server < chunk_count script.geometry)
NamesServer _ _ = ⊤

-- which test is the first that fails: the text is a line that may stand there, the line fits the
-- limits, has a geometry, names an actor, names a server
abbrev pub LineFault : Front → List ℕ → FaultKind → Type 0
LineFault front text Syntax = (l : Line) → SpellsLine text l → ¬ MayStand front l
LineFault front text Limit =
    (l : Line) × SpellsLine text l × MayStand front l × (¬ FitsLimits front l)
LineFault front text Geometry =
    (l : Line) × SpellsLine text l × MayStand front l × FitsLimits front l × (¬ HasGeometry l)
LineFault front text NoSuchActor =
    (l : Line) × SpellsLine text l × MayStand front l × FitsLimits front l × HasGeometry l
    × (¬ NamesActor front l)
LineFault front text NoSuchServer =
    (l : Line) × SpellsLine text l × MayStand front l × FitsLimits front l × HasGeometry l
    × NamesActor front l × (¬ NamesServer front l)
LineFault front text _ = ⊥

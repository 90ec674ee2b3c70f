-- Lines whatever their numbers are: names are names, and bytes are bytes.
use Rattle.std.specs.Prelude.{◌≡◌, ◌⊎◌, ℕ, ◌<◌, ⊤}
use Rattle.hex.specs.Hex.{IsBytes}
use Rattle.store_map.specs.Name.{IsName}
use Rattle.store_map.specs.declared.call.Call.{Call}
use Rattle.store_map.specs.declared.call.Call.TheVariants.{Put, Write, Get, ReadAt, Stat, Delete}
use Rattle.store_map.specs.declared.content.Content.{Content}
use Rattle.store_map.specs.declared.content.Content.TheVariants.{Hex, Fill, Ramp}
use Rattle.store_map.specs.declared.actor.Token.{Token}
use Rattle.store_map.specs.declared.actor.Token.TheVariants as token
use Rattle.line_grammar.specs.Line.{Line, ClayLine, CallLine, RebuildLine, StepLine}

-- data of bytes
abbrev pub IsContentForm : Content → Type 0
IsContentForm (Hex bytes) = IsBytes bytes
IsContentForm (Fill byte n) = byte < 256
IsContentForm (Ramp first n) = first < 256

-- a call of a name, with data of bytes
abbrev pub IsCallForm : Call → Type 0
IsCallForm (Put name content) = IsName name × IsContentForm content
IsCallForm (Write name offset content) = IsName name × IsContentForm content
IsCallForm (Get name) = IsName name
IsCallForm (ReadAt name offset count) = IsName name
IsCallForm (Stat name) = IsName name
IsCallForm (Delete name) = IsName name

-- the two forms of a script
abbrev pub IsForm : ℕ → Type 0
IsForm form = (form ≡ 1) ⊎ (form ≡ 2)

-- only in form 2 servers are made away and present
abbrev pub IsOfForm : ℕ → Token → Type 0
IsOfForm form (token.Down j) = form ≡ 2
IsOfForm form (token.Up j) = form ≡ 2
IsOfForm form _ = ⊤

-- so of a line
abbrev pub IsLineOfForm : ℕ → Line → Type 0
IsLineOfForm form (StepLine step) = IsOfForm form step
IsLineOfForm form _ = ⊤

-- a line of a form, of names and of bytes
abbrev pub HasForm : Line → Type 0
HasForm (ClayLine form) = IsForm form
HasForm (CallLine call) = IsCallForm call
HasForm (RebuildLine rebuild) = IsName rebuild.name
HasForm _ = ⊤

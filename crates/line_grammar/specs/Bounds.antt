-- Lines whose numbers are below 2^32, whatever their names and bytes are.
use Rattle.std.specs.Prelude.{⊤}
use Rattle.clay_grid.specs.Shape.{Shape}
use Rattle.store_map.specs.declared.call.Call.{Call}
use Rattle.store_map.specs.declared.call.Call.TheVariants.{Put, Write, ReadAt}
use Rattle.store_map.specs.declared.content.Content.{Content}
use Rattle.store_map.specs.declared.content.Content.TheVariants.{Hex, Fill, Ramp}
use Rattle.line_grammar.specs.Line.{Line, CodeLine, SizeLine, TriesLine, LeaveLine, CallLine, RebuildLine, StepLine}
use Rattle.line_grammar.specs.Values.{IsNumber, token_number}

-- the length of data
abbrev pub HasContentNumbers : Content → Type 0
HasContentNumbers (Hex bytes) = ⊤
HasContentNumbers (Fill byte n) = IsNumber n
HasContentNumbers (Ramp first n) = IsNumber n

-- a call's offset and lengths
abbrev pub HasCallNumbers : Call → Type 0
HasCallNumbers (Put name content) = HasContentNumbers content
HasCallNumbers (Write name offset content) = IsNumber offset × HasContentNumbers content
HasCallNumbers (ReadAt name offset count) = IsNumber offset × IsNumber count
HasCallNumbers _ = ⊤

-- the three numbers of a code, which may be those of no geometry
abbrev pub HasShapeNumbers : Shape → Type 0
HasShapeNumbers g = IsNumber g.data_count × IsNumber g.parity_count × IsNumber g.width

-- all numbers of a line
abbrev pub HasNumbers : Line → Type 0
HasNumbers (CodeLine g) = HasShapeNumbers g
HasNumbers (SizeLine n) = IsNumber n
HasNumbers (TriesLine n) = IsNumber n
HasNumbers (LeaveLine n) = IsNumber n
HasNumbers (CallLine call) = HasCallNumbers call
HasNumbers (RebuildLine rebuild) = IsNumber rebuild.stripe × IsNumber rebuild.server
HasNumbers (StepLine step) = IsNumber (token_number step)
HasNumbers _ = ⊤

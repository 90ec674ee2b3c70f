-- What a reader of scripts has read.
use Rattle.std.specs.Prelude.{◌≡◌, ℕ, List, [], None, Some, Result, Ok, Err, ⊤}
use Rattle.clay_grid.specs.Shape.{Shape}
use Rattle.store_map.specs.Limits.{stripes_written, sum_over_calls, bytes_asked, size_of}
use Rattle.store_map.specs.declared.script.Script.{Script}
use Rattle.script_text.specs.Behind.{place_behind, with_line, kind_of}
use Rattle.script_text.specs.SoFar.{IsBegun}
use Rattle.script_text.specs.Front.{Begun}
use Rattle.script_text.specs.Fault.{SpellsLine, LineFault}
use Rattle.line_grammar.specs.Line.{Line}
use Rattle.line_grammar.specs.declared.line_fault.FaultKind.{FaultKind}
use Rattle.line_grammar.specs.declared.line_fault.FaultKind.TheVariants.{OutOfMemory}
use Rattle.script_text.specs.declared.script_place.LineKind.{LineKind}
use Rattle.script_text.specs.declared.script_reader.Reader.{Reader}

-- the script so far
abbrev pub script_of : Reader → Script
script_of r = record {
  form = r.form;
  geometry = r.geometry;
  size = r.size;
  tries = r.tries;
  clients = r.clients.items;
  repairers = r.repairers.items;
  schedule = r.schedule.items;
}

-- a script of which only the form and the code are known
abbrev pub opened : ℕ → Shape → Script
opened form g = record {
  form = form;
  geometry = g;
  size = None;
  tries = None;
  clients = [];
  repairers = [];
  schedule = [];
}

-- the script so far has no fault, and the reader has counted what it asks for
pub record IsSound (r : Reader) : Type 0 where
  pub begun : IsBegun r.place (script_of r)
  pub stripes : r.load.stripes ≡ stripes_written (script_of r)
  pub read_bytes :
      r.load.read_bytes ≡ sum_over_calls (bytes_asked (size_of (script_of r))) (script_of r)

-- each line that the text spells is of this kind
abbrev pub IsOfKind : List ℕ → LineKind → Type 0
IsOfKind text k = (l : Line) → SpellsLine text l → kind_of l ≡ k

-- the reader went on by the line
pub record IsTaken (old : Reader) (text : List ℕ) (l : Line) (new : Reader) : Type 0 where
  pub spelled : SpellsLine text l
  pub place : place_behind old.place l ≡ Some new.place
  pub script : script_of new ≡ with_line old.place (script_of old) l
  pub sound : IsSound new

-- what taking a line shows
abbrev pub Takes : Reader → List ℕ → Result (Unit {0}) FaultKind → Reader → Type 0
Takes old text (Ok u) new = (l : Line) × IsTaken old text l new
Takes old text (Err OutOfMemory) new = ⊤
Takes old text (Err kind) new = LineFault (Begun old.place (script_of old)) text kind

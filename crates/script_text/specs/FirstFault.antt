-- The first fault of a text.
use Rattle.std.specs.Prelude.{◌≡◌, ◌≢◌, ℕ, ◌+◌, ◌⊎◌, List, [], ◌∷◌, ◌++◌, length}
use Rattle.std.specs.List.{flat_map}
use Rattle.store_map.specs.Naming.{IsValid}
use Rattle.store_map.specs.declared.script.Script.{Script}
use Rattle.script_text.specs.Front.{Front, IsFront, HasEnded, front_lines}
use Rattle.script_text.specs.Fault.{LineFault}
use Rattle.line_grammar.specs.Line.{line_text}
use Rattle.line_grammar.specs.Lines.{Lacks}
use Rattle.script_text.specs.Spelling.{script_lines, spelling}
use Rattle.line_grammar.specs.Values.{IsScript}
use Rattle.line_grammar.specs.declared.line_fault.FaultKind.{FaultKind}
use Rattle.line_grammar.specs.declared.line_fault.FaultKind.TheVariants.{Syntax, MissingEnd, OutOfMemory}
use Rattle.script_text.specs.declared.script_fault.ScriptFault.{ScriptFault}

-- the bytes are a script's spelling
pub record Spelled (bytes : List ℕ) (script : Script) : Type 0 where
  pub values : IsScript script
  pub valid : IsValid script
  pub spelled : bytes ≡ spelling script

-- what is wrong with the text behind a front: its first line, or that no whole line follows
abbrev pub RestFault : Front → List ℕ → FaultKind → Type 0
RestFault front rest kind =
    ((text : List ℕ) × (more : List ℕ) × (rest ≡ text ++ 10 ∷ more) × Lacks 10 text
    × LineFault front text kind)
    ⊎ (Lacks 10 rest × (kind ≡ MissingEnd))

-- the first fault up to the first line `end`: of the line with this number, counted from 1, behind
-- lines without one
pub record IsFrontFault (bytes : List ℕ) (number : ℕ) (kind : FaultKind) : Type 0 where
  pub front : Front
  pub rest : List ℕ
  pub sound : IsFront front
  pub unended : ¬ HasEnded front
  pub number_is : number ≡ length (front_lines front) + 1
  pub parted : bytes ≡ flat_map line_text (front_lines front) ++ rest
  pub fault : RestFault front rest kind

-- something stands behind the line `end`
pub record IsTailFault (bytes : List ℕ) (number : ℕ) (kind : FaultKind) : Type 0 where
  pub script : Script
  pub values : IsScript script
  pub valid : IsValid script
  pub rest : List ℕ
  pub some : rest ≢ []
  pub parted : bytes ≡ spelling script ++ rest
  pub number_is : number ≡ length (script_lines script) + 1
  pub kind_is : kind ≡ Syntax

-- the first fault of a text
abbrev pub IsFault : List ℕ → ℕ → FaultKind → Type 0
IsFault bytes number kind = IsFrontFault bytes number kind ⊎ IsTailFault bytes number kind

-- the fault that is named: want of memory has no line
abbrev pub fault_at : ℕ → FaultKind → ScriptFault
fault_at line OutOfMemory = record { line = 0; kind = OutOfMemory }
fault_at line kind = record { line = line; kind = kind }

-- a fault, or want of memory
abbrev pub OrMemory : (ℕ → FaultKind → Type 0) → ScriptFault → Type 0
OrMemory Fault fault = ((fault.line ≡ 0) × (fault.kind ≡ OutOfMemory)) ⊎ Fault fault.line fault.kind

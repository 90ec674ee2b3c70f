-- What holds of scripts and faults.
use Rattle.std.specs.Prelude.{◌≡◌, ◌≢◌, ℕ, List, ◌++◌}
use Rattle.store_map.specs.Naming.{IsValid}
use Rattle.store_map.specs.declared.script.Script.{Script}
use Rattle.script_text.specs.FirstFault.{Spelled, IsFault, IsFrontFault}
use Rattle.script_text.specs.Spelling.{spelling}
use Rattle.line_grammar.specs.Values.{IsScript}
use Rattle.line_grammar.specs.declared.line_fault.FaultKind.{FaultKind}

-- bytes spell one script at most
abbrev pub IsOneScript : Type 0
IsOneScript = (bytes : List ℕ) (s t : Script) → Spelled bytes s → Spelled bytes t → s ≡ t

-- and no front of them spells another
abbrev pub IsOneFront : Type 0
IsOneFront =
    (s t : Script) (rest more : List ℕ) → IsScript s → IsValid s → IsScript t → IsValid t
    → spelling s ++ rest ≡ spelling t ++ more → s ≡ t

-- bytes that spell a script have no fault
abbrev pub IsFaultless : Type 0
IsFaultless =
    (bytes : List ℕ) (script : Script) (number : ℕ) (kind : FaultKind) → Spelled bytes script
    → IsFault bytes number kind → ⊥

-- bytes of which a front spells a script have no fault up to that script's line `end`
abbrev pub HasFaultlessFront : Type 0
HasFaultlessFront =
    (script : Script) (rest : List ℕ) (number : ℕ) (kind : FaultKind) → IsScript script
    → IsValid script → IsFrontFault (spelling script ++ rest) number kind → ⊥

-- bytes have one first fault at most
abbrev pub IsOneFault : Type 0
IsOneFault =
    (bytes : List ℕ) (number number' : ℕ) (kind kind' : FaultKind) → IsFault bytes number kind
    → IsFault bytes number' kind' → (number ≡ number') × (kind ≡ kind')

-- no bytes are without a script and without a fault
abbrev pub IsCovered : Type 0
IsCovered =
    (bytes : List ℕ) → ((script : Script) → ¬ Spelled bytes script)
    → ((number : ℕ) (kind : FaultKind) → ¬ IsFault bytes number kind) → ⊥

-- no bytes are without a front that spells a script and without a fault up to the first line `end`
abbrev pub HasCoveredFront : Type 0
HasCoveredFront =
    (bytes : List ℕ)
    → ((script : Script) (rest : List ℕ) → IsScript script → IsValid script → bytes ≢ spelling script ++ rest)
    → ((number : ℕ) (kind : FaultKind) → ¬ IsFrontFault bytes number kind) → ⊥

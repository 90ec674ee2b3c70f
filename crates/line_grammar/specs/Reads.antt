-- What reading a value shows, or a client's call.
use Rattle.std.specs.Prelude.{◌≡◌, ◌≢◌, ℕ, ◌<◌, ◌≤◌, List, Result, Ok, Err, ⊤}
use Rattle.store_map.specs.Content.{content_length}
use Rattle.store_map.specs.Limits.{data_length}
use Rattle.store_map.specs.Name.{IsName}
use Rattle.store_map.specs.declared.call.Call.{Call}
use Rattle.store_map.specs.declared.content.Content.{Content}
use Rattle.store_map.specs.declared.limits.TheConstants.{MAX_DATA}
use Rattle.line_grammar.specs.Words.{run_word, content_word, call_words}
use Rattle.line_grammar.specs.Lines.{spaced}
use Rattle.line_grammar.specs.Numbers.{number_word}
use Rattle.line_grammar.specs.Values.{IsNumber}
use Rattle.line_grammar.specs.Forms.{IsContentForm, IsCallForm}
use Rattle.line_grammar.specs.Bounds.{HasCallNumbers}
use Rattle.line_grammar.specs.declared.line_fault.FaultKind.{FaultKind}
use Rattle.line_grammar.specs.declared.line_fault.FaultKind.TheVariants.{Syntax, Limit, OutOfMemory}

-- reading a text as a value: it was read, or no value has this text, or one has it whose numbers are
-- out of their bounds
abbrev pub Reads :
    {A : Type 0} → (A → Type 0) → (A → Type 0) → (A → List ℕ) → List ℕ → Result A FaultKind → Type 0
Reads HasForm Fits text_of text (Ok value) = HasForm value × Fits value × (text ≡ text_of value)
Reads {A} HasForm Fits text_of text (Err Syntax) =
    (value : A) → HasForm value → text ≢ text_of value
Reads {A} HasForm Fits text_of text (Err Limit) =
    (value : A) × HasForm value × (¬ Fits value) × (text ≡ text_of value)
Reads HasForm Fits text_of text (Err OutOfMemory) = ⊤
Reads HasForm Fits text_of text (Err _) = ⊥

-- a byte and a length, as the data of a run of bytes has them
abbrev pub IsRunForm : ℕ × ℕ → Type 0
IsRunForm run = run.0 < 256

-- its length is within the limit
abbrev pub FitsRun : ℕ × ℕ → Type 0
FitsRun run = run.1 ≤ MAX_DATA

-- reading a byte and a length
abbrev pub ReadsRun : List ℕ → Result (ℕ × ℕ) FaultKind → Type 0
ReadsRun = Reads IsRunForm FitsRun (λ run. run_word run.0 run.1)

-- the data's length is within the limit
abbrev pub FitsContent : Content → Type 0
FitsContent content = content_length content ≤ MAX_DATA

-- reading data
abbrev pub ReadsContent : List ℕ → Result Content FaultKind → Type 0
ReadsContent = Reads IsContentForm FitsContent content_word

-- a call's own limits
abbrev pub FitsCall : Call → Type 0
FitsCall call = HasCallNumbers call × (data_length call ≤ MAX_DATA)

-- reading a client's call
abbrev pub ReadsCall : List ℕ → Result Call FaultKind → Type 0
ReadsCall = Reads IsCallForm FitsCall (λ call. spaced (call_words call))

-- reading a name, of which none is out of bounds
abbrev pub ReadsName : List ℕ → Result (List ℕ) FaultKind → Type 0
ReadsName = Reads IsName (λ name. ⊤) (λ name. name)

-- reading a number
abbrev pub ReadsNumber : List ℕ → Result ℕ FaultKind → Type 0
ReadsNumber = Reads (λ n. ⊤) IsNumber number_word

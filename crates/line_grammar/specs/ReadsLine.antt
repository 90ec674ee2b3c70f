-- What reading another line shows.
use Rattle.std.specs.Prelude.{◌≡◌, ℕ, List, ◌++◌, Result, Ok, Err, ⊤}
use Rattle.clay_grid.specs.Limits.{IsGeometry}
use Rattle.clay_grid.specs.Shape.{Shape}
use Rattle.store_map.specs.Name.{IsName}
use Rattle.store_map.specs.declared.actor.Token.{Token}
use Rattle.store_map.specs.declared.call.Rebuild.{Rebuild}
use Rattle.line_grammar.specs.Words.{rebuild_words, token_words, code_words}
use Rattle.line_grammar.specs.Lines.{spaced}
use Rattle.line_grammar.specs.Numbers.{number_word}
use Rattle.line_grammar.specs.Reads.{Reads}
use Rattle.line_grammar.specs.Values.{IsNumber, token_number}
use Rattle.line_grammar.specs.Forms.{IsOfForm}
use Rattle.line_grammar.specs.Bounds.{HasShapeNumbers}
use Rattle.line_grammar.specs.declared.line_fault.FaultKind.{FaultKind}
use Rattle.line_grammar.specs.declared.line_fault.FaultKind.TheVariants.{Geometry}

-- reading a number behind these first bytes
abbrev pub ReadsNumbered : List ℕ → List ℕ → Result ℕ FaultKind → Type 0
ReadsNumbered first = Reads (λ n. ⊤) IsNumber (λ n. first ++ number_word n)

-- reading a repairer's call
abbrev pub ReadsRebuild : List ℕ → Result Rebuild FaultKind → Type 0
ReadsRebuild =
    Reads (λ rebuild. IsName rebuild.name)
    (λ rebuild. IsNumber rebuild.stripe × IsNumber rebuild.server)
    (λ rebuild. spaced (rebuild_words rebuild))

-- reading a step of the schedule in a script of this form
abbrev pub ReadsToken : ℕ → List ℕ → Result Token FaultKind → Type 0
ReadsToken form =
    Reads (IsOfForm form) (λ step. IsNumber (token_number step)) (λ step. spaced (token_words step))

-- reading a code line, whose numbers may also be those of no geometry
abbrev pub ReadsCode : List ℕ → Result Shape FaultKind → Type 0
ReadsCode text (Ok g) = IsGeometry g × (text ≡ spaced (code_words g))
ReadsCode text (Err Geometry) =
    (g : Shape) × HasShapeNumbers g × (¬ IsGeometry g) × (text ≡ spaced (code_words g))
ReadsCode text read = Reads (λ g. ⊤) HasShapeNumbers (λ g. spaced (code_words g)) text read

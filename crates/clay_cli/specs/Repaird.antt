-- What `repaird` prints for its input.
use Rattle.std.specs.Prelude.{◌≡◌, ℕ, List, [], ◌∷◌, Option, Vec, codes}
use Rattle.std.specs.declared.alloc.Global.{Global}
use Rattle.clay_aloof.specs.Shape.{AloofShape, all_chunks}
use Rattle.clay_aloof.specs.Repair.{part_bytes, HelpersFit, IsRebuilt}
use Rattle.line_grammar.specs.StripeLines.{chunk_lines}
use Rattle.clay_cli.specs.Entries.{AreRead, AreRefused}

-- the input's lines are the parts of a code's chunks
abbrev pub AreGiven : AloofShape → List ℕ → List (Option (Vec ℕ Global)) → Type 0
AreGiven a input parts = AreRead (all_chunks a) (part_bytes a) input parts

-- the parts are those of helpers that fit, and this is the line of the lost chunk of the codewords that have them
pub record IsRepaired (a : AloofShape) (lost : ℕ) (input output : List ℕ) : Type 0 where
  pub parts : List (Option (Vec ℕ Global))
  pub given : AreGiven a input parts
  pub fit : HelpersFit a lost parts
  pub chunk : List ℕ
  pub rebuilt : IsRebuilt a lost parts chunk
  pub output_is : output ≡ chunk_lines (chunk ∷ [])

-- the parts aren't those of helpers that fit
pub record IsUnfit (a : AloofShape) (lost : ℕ) (input output : List ℕ) : Type 0 where
  pub parts : List (Option (Vec ℕ Global))
  pub given : AreGiven a input parts
  pub unfit : HelpersFit a lost parts → ⊥
  pub output_is : output ≡ codes "data refused helpers\n"

abbrev pub IsNotRepaired : AloofShape → ℕ → List ℕ → List ℕ → Type 0
IsNotRepaired a lost input output = AreRefused (all_chunks a) (part_bytes a) (IsUnfit a lost input) input output

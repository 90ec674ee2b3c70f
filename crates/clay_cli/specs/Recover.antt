-- What `recover` prints for its input.
use Rattle.std.specs.Prelude.{◌≡◌, ◌⊎◌, ℕ, ◌<◌, ◌≤◌, List, Option, is_none, count_by, Vec, codes}
use Rattle.std.specs.declared.alloc.Global.{Global}
use Rattle.clay_grid.specs.Shape.{Shape, chunk_count, chunk_length}
use Rattle.clay_model.specs.Left.{Completes}
use Rattle.line_grammar.specs.StripeLines.{chunk_lines}
use Rattle.clay_cli.specs.Entries.{AreRead, AreRefused}

-- the input's lines are the chunks that are left of a code's
abbrev pub IsLeft : Shape → List ℕ → List (Option (Vec ℕ Global)) → Type 0
IsLeft g input left = AreRead (chunk_count g) (chunk_length g) input left

-- no more chunks are missing than can be, and these are the lines of all chunks of the codeword that agrees with those that are left
pub record IsRecovered (g : Shape) (input output : List ℕ) : Type 0 where
  pub left : List (Option (Vec ℕ Global))
  pub is_left : IsLeft g input left
  pub few : count_by is_none left ≤ g.parity_count
  pub chunks : List (List ℕ)
  pub completes : Completes g left chunks
  pub output_is : output ≡ chunk_lines chunks

-- more chunks are missing than can be
pub record IsMissing (g : Shape) (input output : List ℕ) : Type 0 where
  pub left : List (Option (Vec ℕ Global))
  pub is_left : IsLeft g input left
  pub many : g.parity_count < count_by is_none left
  pub output_is : output ≡ codes "data refused missing\n"

-- as many are left as can be decoded, and no codeword agrees with them
pub record IsDisagreeing (g : Shape) (input output : List ℕ) : Type 0 where
  pub left : List (Option (Vec ℕ Global))
  pub is_left : IsLeft g input left
  pub few : count_by is_none left ≤ g.parity_count
  pub none_agrees : (word : List (List ℕ)) → Completes g left word → ⊥
  pub output_is : output ≡ codes "data refused disagree\n"

abbrev pub IsNotRecovered : Shape → List ℕ → List ℕ → Type 0
IsNotRecovered g input output =
    AreRefused (chunk_count g) (chunk_length g) (λ line. IsMissing g input line ⊎ IsDisagreeing g input line) input output

-- What is left of the chunks of a codeword, and what is made of it.
use Rattle.std.specs.Prelude.{◌≡◌, ℕ, ◌<◌, ◌≤◌, List, [], map, length, slice_index_or, All, Option, IfSome, Vec, count_by, is_none}
use Rattle.std.specs.Option.{option_map}
use Rattle.std.specs.declared.alloc.Global.{Global}
use Rattle.clay_grid.specs.Shape.{Shape, chunk_count, chunk_length}
use Rattle.clay_model.specs.Code.{IsCodeword, AgreesWith}

-- the bytes of each chunk that is there
abbrev pub parts : List (Option (Vec ℕ Global)) → List (Option (List ℕ))
parts have = map (option_map (λ v. v.items)) have

-- each chunk that is there has so many bytes
abbrev pub AreLong : ℕ → List (Option (Vec ℕ Global)) → Type 0
AreLong n have = All (λ o. IfSome o (λ v. length v.items ≡ n)) have

-- an entry for each chunk, of which few enough are missing
pub record AreLeft (g : Shape) (have : List (Option (Vec ℕ Global))) : Type 0 where
  pub count : length have ≡ chunk_count g
  pub lengths : AreLong (chunk_length g) have
  pub few : count_by is_none have ≤ g.parity_count

-- more are missing than there are parity chunks
abbrev pub AreTooFew : Shape → List (Option (Vec ℕ Global)) → Type 0
AreTooFew g have = g.parity_count < count_by is_none have

-- a codeword that agrees with the chunks that are there
pub record Completes (g : Shape) (have : List (Option (Vec ℕ Global))) (word : List (List ℕ)) : Type 0 where
  pub codeword : IsCodeword g word
  pub agrees : AgreesWith (parts have) word

-- no codeword agrees with the chunks that are there
abbrev pub NoneCompletes : Shape → List (Option (Vec ℕ Global)) → Type 0
NoneCompletes g have = (word : List (List ℕ)) → Completes g have word → ⊥

-- a chunk is that of each codeword that agrees with the chunks that are there
abbrev pub IsRecoveredChunk : Shape → List (Option (Vec ℕ Global)) → ℕ → List ℕ → Type 0
IsRecoveredChunk g have c chunk = (word : List (List ℕ)) → Completes g have word → chunk ≡ slice_index_or word c []

-- chunks are those of each codeword that agrees with the chunks that are there
pub record AreRecovered (g : Shape) (have : List (Option (Vec ℕ Global))) (chunks : List (List ℕ)) : Type 0 where
  pub count : length chunks ≡ chunk_count g
  pub lengths : All (λ chunk. length chunk ≡ chunk_length g) chunks
  pub value : (word : List (List ℕ)) → Completes g have word → chunks ≡ word

-- Worked codewords, by the definition computed.
use Rattle.std.proofs.Common.{◌≡◌, ℕ, zero, suc, ◌%◌, ◌/◌, ◌^◌, ◌<◌, Bool, true, eqb, ltb, List, [], ◌∷◌, length, get_or, replicate, refl, lit<, arith}
use Rattle.std.specs.List.{list_all}
use Rattle.std.proofs.lemmas.Bool.{and_parts, eqb-true, ltb-true}
use Rattle.clay_field.specs.Field.{product, power_of, remainder, sum_of_copies}
use Rattle.clay_field.proofs.FieldLaws.{all_below, all_below_at}
use Rattle.clay_grid.specs.Shape.{Shape, chunk_count, row_count, column_count, node_count, layer_count, chunk_length}
use Rattle.clay_grid.specs.Layers.{digits_of}
use Rattle.clay_model.specs.Sums.{weighted_sum}
use Rattle.clay_model.specs.Coupling.{uncoupled}
use Rattle.clay_model.specs.Code.{coupled_value, IsCodeword}
use Rattle.clay_model.specs.Worked.{two_and_two, three_and_two, unpaired_chunks, paired_chunks, virtual_chunks, uncoupled_layers}
use Rattle.clay_model.proofs.LayerNumbers.{HasZeroSums-numbers}

abbrev are_bytes : List ℕ → Bool
are_bytes = list_all (λ v. ltb v 256)

abbrev have_length : ℕ → List (List ℕ) → Bool
have_length long = list_all (λ chunk. eqb (length chunk) long)

-- the weighted sum of power j at byte b of the layer n
abbrev sum_at : Shape → List (List ℕ) → ℕ → ℕ → ℕ → ℕ
sum_at g chunks b n j =
    weighted_sum (node_count g) (λ i. uncoupled (row_count g) (coupled_value g chunks b) (i % row_count g) (i / row_count g) (digits_of (row_count g) (column_count g) n)) j

abbrev sums_vanish : Shape → List (List ℕ) → Bool
sums_vanish g chunks = all_below g.width (λ b. all_below (layer_count g) (λ n. all_below g.parity_count (λ j. eqb (sum_at g chunks b n j) 0)))

byte_at : (xs : List ℕ) (p : ℕ) → are_bytes xs ≡ true → get_or xs p 0 < 2 ^ 8
byte_at [] p e = lit< tt
byte_at (x ∷ xs) zero e = ltb-true x 256 (and_parts (ltb x 256) (are_bytes xs) e).0
byte_at (x ∷ xs) (suc p) e = byte_at xs p (and_parts (ltb x 256) (are_bytes xs) e).1

byte_of : (chunks : List (List ℕ)) (c p : ℕ) → list_all are_bytes chunks ≡ true → get_or (get_or chunks c []) p 0 < 2 ^ 8
byte_of [] c p e = lit< tt
byte_of (x ∷ xs) zero p e = byte_at x p (and_parts (are_bytes x) (list_all are_bytes xs) e).0
byte_of (x ∷ xs) (suc c) p e = byte_of xs c p (and_parts (are_bytes x) (list_all are_bytes xs) e).1

length_at : (long : ℕ) (chunks : List (List ℕ)) (c : ℕ) → have_length long chunks ≡ true → c < length chunks → length (get_or chunks c []) ≡ long
length_at long [] c e h = absurd (omega arith)
length_at long (x ∷ xs) zero e h = eqb-true (length x) long (and_parts (eqb (length x) long) (have_length long xs) e).0
length_at long (x ∷ xs) (suc c) e h = length_at long xs c (and_parts (eqb (length x) long) (have_length long xs) e).1 (omega arith)

-- what is computed of a codeword
record Passes (g : Shape) (chunks : List (List ℕ)) : Type 0 where
  rows : 0 < g.parity_count
  count : length chunks ≡ chunk_count g
  lengths : have_length (chunk_length g) chunks ≡ true
  bytes : list_all are_bytes chunks ≡ true
  sums : sums_vanish g chunks ≡ true

codeword : (g : Shape) (chunks : List (List ℕ)) → Passes g chunks → IsCodeword g chunks
codeword g chunks p =
    let at_byte = λ (b : ℕ). all_below (layer_count g) (λ n. all_below g.parity_count (λ j. eqb (sum_at g chunks b n j) 0)) in
    let at_layer = λ (b n : ℕ). all_below g.parity_count (λ j. eqb (sum_at g chunks b n j) 0) in
    record {
      count = p.count;
      lengths = λ c h. length_at (chunk_length g) chunks c p.lengths (rw p.count h);
      bytes = λ c q. byte_of chunks c q p.bytes;
      sums = λ b hb. (HasZeroSums-numbers (row_count g) (column_count g) g.parity_count (coupled_value g chunks b) p.rows).1
          (λ n hn j hj. eqb-true (sum_at g chunks b n j) 0
          (all_below_at g.parity_count (λ i. eqb (sum_at g chunks b n i) 0)
          (all_below_at (layer_count g) (at_layer b) (all_below_at g.width at_byte p.sums b hb) n hn) j hj));
    }

pub unpaired_codeword : IsCodeword two_and_two unpaired_chunks
unfolding product power_of remainder sum_of_copies digits_of
unpaired_codeword = codeword two_and_two unpaired_chunks (record { rows = lit< tt; count = refl; lengths = refl; bytes = refl; sums = refl })

pub paired_codeword : IsCodeword two_and_two paired_chunks
unfolding product power_of remainder sum_of_copies digits_of
paired_codeword = codeword two_and_two paired_chunks (record { rows = lit< tt; count = refl; lengths = refl; bytes = refl; sums = refl })

pub virtual_codeword : IsCodeword three_and_two virtual_chunks
unfolding product power_of remainder sum_of_copies digits_of
virtual_codeword = codeword three_and_two virtual_chunks (record { rows = lit< tt; count = refl; lengths = refl; bytes = refl; sums = refl })

pub unpaired_values : uncoupled_layers two_and_two unpaired_chunks ≡ (1 ∷ 0 ∷ 3 ∷ 2 ∷ []) ∷ replicate 3 (replicate 4 0)
unfolding product power_of remainder sum_of_copies digits_of
unpaired_values = refl

pub paired_values : uncoupled_layers two_and_two paired_chunks ≡ (0 ∷ 1 ∷ 2 ∷ 3 ∷ []) ∷ replicate 4 0 ∷ (2 ∷ 0 ∷ 6 ∷ 4 ∷ []) ∷ replicate 4 0 ∷ []
unfolding product power_of remainder sum_of_copies digits_of
paired_values = refl

pub virtual_values : uncoupled_layers three_and_two virtual_chunks ≡ (0 ∷ 0 ∷ 0 ∷ 2 ∷ 0x0c ∷ 0x0e ∷ []) ∷ replicate 6 0 ∷ (0 ∷ 0 ∷ 1 ∷ 0 ∷ 7 ∷ 6 ∷ []) ∷ replicate 5 (replicate 6 0)
unfolding product power_of remainder sum_of_copies digits_of
virtual_values = refl

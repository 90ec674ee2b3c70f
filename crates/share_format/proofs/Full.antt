-- Where all other chunks help in a repair, the codewords are those of the code without aloof chunks.
use Rattle.std.proofs.Common.{◌≡◌, ℕ, ◌+◌, ◌-◌, ◌*◌, ◌<◌, ◌≤◌, List, ◌++◌, length, map, take, slice_range, sym, ap, subst, ◌∙◌, arith}
use Rattle.std.specs.List.{concat, range_with_len}
use Rattle.clay_grid.specs.Shape.{chunk_length, stripe_length}
use Rattle.clay_model.specs.Code as full
use Rattle.clay_parity.specs.Parity.{data_pieces}
use Rattle.clay_parity.specs.Flat.{IsParity}
use Rattle.clay_aloof.specs.Shape.{AloofShape, aloof_of, all_chunks, rows_of, grid_of, stripe_bytes}
use Rattle.clay_aloof.specs.Limits.{IsAloof}
use Rattle.clay_aloof.specs.Code.{IsCodeword, Codes}
use Rattle.clay_aloof.specs.Encoded.{chunks_in, chunks_of}
use Rattle.clay_aloof.proofs.Full.{grid_full, codewords_full}

-- parity chunks of which all but the lost one help
pub record IsFull (a : AloofShape) : Type 0 where
  pub some : 0 < a.parity_count
  pub helpers : a.helper_count + 1 ≡ all_chunks a

pub full_where : (a : AloofShape) → IsAloof a → a.helper_count + 1 ≡ all_chunks a → IsFull a
full_where a aloof helpers =
    let two : 2 ≤ a.parity_count = aloof.limits.parity_chunks.0 in
    record { some = omega (arith, two); helpers = helpers }

module _ (a : AloofShape) (is : IsFull a) where
  data_is : all_chunks a - rows_of a ≡ a.data_count
  data_is =
      let k : ℕ = a.data_count in
      let m : ℕ = a.parity_count in
      let d : ℕ = a.helper_count in
      let some : 0 < m = is.some in
      let helpers : d + 1 ≡ k + m = is.helpers in
      let same : k + m - (d + 1 - k) ≡ k = omega (arith, some, helpers) in
      same

  rows_are : rows_of a ≡ a.parity_count
  rows_are =
      let k : ℕ = a.data_count in
      let m : ℕ = a.parity_count in
      let d : ℕ = a.helper_count in
      let helpers : d + 1 ≡ k + m = is.helpers in
      let same : d + 1 - k ≡ m = omega (arith, helpers) in
      same

  helpers_are : a.data_count + a.parity_count - 1 ≡ a.helper_count
  helpers_are =
      let k : ℕ = a.data_count in
      let m : ℕ = a.parity_count in
      let d : ℕ = a.helper_count in
      let helpers : d + 1 ≡ k + m = is.helpers in
      let same : k + m - 1 ≡ d = omega (arith, helpers) in
      same

  shape_is : aloof_of a.data_count a.parity_count (a.data_count + a.parity_count - 1) a.width ≡ a
  shape_is i = aloof_of a.data_count a.parity_count (helpers_are i) a.width

  pub from_full : (chunks : List (List ℕ)) → full.IsCodeword (grid_of a) chunks → IsCodeword a chunks
  from_full chunks =
      let k : ℕ = a.data_count in
      let m : ℕ = a.parity_count in
      let one : full.IsCodeword (grid_of (aloof_of k m (k + m - 1) a.width)) chunks → IsCodeword (aloof_of k m (k + m - 1) a.width) chunks =
      λ word. (codewords_full k m a.width chunks is.some).1 (subst (λ g. full.IsCodeword g chunks) (grid_full k m a.width is.some) word) in
      subst (λ b. full.IsCodeword (grid_of b) chunks → IsCodeword b chunks) shape_is one

  full_codes : (stripe : List ℕ) (chunks : List (List ℕ)) → full.Codes (grid_of a) stripe chunks → Codes a stripe chunks
  full_codes stripe chunks codes = record {
    codeword = from_full chunks codes.codeword;
    joined = ap (λ n. concat (take n chunks)) (sym data_is) ∙ codes.joined;
  }

  next_chunk : (c len : ℕ) → (c + 1) * len ≡ c * len + len
  next_chunk c len = omega arith

  -- the parity chunks of the faster coder make up the codeword
  pub parity_codes : (stripe parity : List ℕ) → IsParity (grid_of a) stripe parity → Codes a stripe (chunks_of a stripe parity)
  parity_codes stripe parity codes =
      let len : ℕ = chunk_length (grid_of a) in
      let pieces : data_pieces (grid_of a) stripe ≡ chunks_in a.data_count len stripe =
      λ i. map (λ c. slice_range stripe (c * len) (next_chunk c len i)) (range_with_len 0 (data_is i)) in
      full_codes stripe (chunks_of a stripe parity)
      (subst (full.Codes (grid_of a) stripe) (λ i. pieces i ++ chunks_in (rows_are i) len parity) codes)

  pub full_stripe : (stripe : List ℕ) → length stripe ≡ stripe_bytes a → length stripe ≡ stripe_length (grid_of a)
  full_stripe stripe long = long ∙ ap (λ n. n * chunk_length (grid_of a)) (sym data_is)

  pub full_parity : (parity : List ℕ) → length parity ≡ a.parity_count * chunk_length (grid_of a) → length parity ≡ rows_of a * chunk_length (grid_of a)
  full_parity parity long = long ∙ ap (λ n. n * chunk_length (grid_of a)) (sym rows_are)

-- What a sink takes of a stripe, a chunk at a time.
use Rattle.std.proofs.Common.{◌≡◌, ℕ, ◌+◌, ◌-◌, ◌*◌, ◌<◌, ◌≤◌, List, ◌++◌, length, get_or, take, drop, Option, None, Vec, Global, refl, sym, subst, ◌∙◌, ap, inl, inr, arith, length-append, append-nil, append_assoc}
use Rattle.std.specs.Prelude.{min}
use Rattle.std.proofs.lemmas.Bool.{cases_lt}
use Rattle.std.proofs.lemmas.List.{length-take, take-take}
use Rattle.std.proofs.Math.Seq.{take-add, take-append-add}
use Rattle.crc64.specs.Remainder.{checksum_of}
use Rattle.clay_bytes.specs.Stream.{Accepts, AcceptsPrefix}
use Rattle.clay_bytes.proofs.StreamLemmas.{and-more, gains-then}
use Rattle.clay_grid.specs.Shape.{chunk_length}
use Rattle.clay_model.specs.Left.{AreLong}
use Rattle.clay_aloof.specs.Shape.{AloofShape, all_chunks, grid_of, stripe_bytes}
use Rattle.share_format.specs.Blocks.{block_length}
use Rattle.share_format.specs.Joined.{chunk_or_zeros}
use Rattle.share_format.proofs.Joining.{gathered_at}
use Rattle.share_files.specs.Handed.{data_in}

-- ---- a part of a row, and what stands behind it

part_more : (bytes : List ℕ) (len count left piece share : ℕ) → left ≡ count - share * len → left ≤ count → piece ≡ min left len →
    take (count - left) bytes ++ take piece (take len (drop (share * len) bytes)) ≡ take (count - (left - piece)) bytes
part_more bytes len count left piece share left_is most piece_is = elim (cases_lt 0 left) [
  | inl some ↦
      let here : count - left ≡ share * len = omega (arith, left_is, most, some) in
      let end : share * len + piece ≡ count - (left - piece) = omega (arith, here, piece_is, most) in
      ap (λ n. take n bytes ++ take piece (take len (drop (share * len) bytes))) here
      ∙ ap (λ l. take (share * len) bytes ++ l) (take-take piece len (drop (share * len) bytes) (omega (arith, piece_is)))
      ∙ sym (take-add (share * len) piece bytes)
      ∙ ap (λ n. take n bytes) end
  | inr none ↦
      let nothing : piece ≡ 0 = omega (arith, none, piece_is) in
      let same : count - left ≡ count - (left - piece) = omega (arith, none, nothing) in
      ap (λ n. take (count - left) bytes ++ take n (take len (drop (share * len) bytes))) nothing
      ∙ append-nil (take (count - left) bytes)
      ∙ ap (λ n. take n bytes) same
]

-- ---- what a sink took, and more behind it

pub takes_behind : (accepted mid now : List ℕ) (written middle rest : Option (List ℕ)) (done piece all : List ℕ) → done ++ piece ≡ all →
    Accepts accepted written done mid middle → Accepts mid middle piece now rest → Accepts accepted written all now rest
takes_behind accepted mid now written middle rest done piece all is one two = (
  and-more accepted mid now done piece all one.0 two.0 (sym is),
  gains-then written middle rest done piece all one.1 two.1 (sym is),
)

pub prefix_behind : (accepted mid now : List ℕ) (written middle rest : Option (List ℕ)) (done piece all : List ℕ) → done ++ piece ≡ all →
    Accepts accepted written done mid middle → AcceptsPrefix mid middle piece now rest → AcceptsPrefix accepted written all now rest
prefix_behind accepted mid now written middle rest done piece all is takes (n, fits, took) =
    let front : take (length done + n) (done ++ piece) ≡ done ++ take n piece = take-append-add done piece n in
    let size : length (done ++ piece) ≡ length done + length piece = length-append done piece in
    let P : List ℕ → Type 0 = λ l. AcceptsPrefix accepted written l now rest in
    subst P is (
      length done + n,
      omega (arith, size, fits),
      (
        and-more accepted mid now done (take n piece) (take (length done + n) (done ++ piece)) takes.0 took.0 front,
        gains-then written middle rest done (take n piece) (take (length done + n) (done ++ piece)) takes.1 took.1 front,
      ),
    )

-- a prefix of a part is one of more
prefix_wider : (accepted now : List ℕ) (written rest : Option (List ℕ)) (bytes : List ℕ) (few many : ℕ) → few ≤ many →
    AcceptsPrefix accepted written (take few bytes) now rest → AcceptsPrefix accepted written (take many bytes) now rest
prefix_wider accepted now written rest bytes few many order (n, fits, took) =
    let short : length (take few bytes) ≡ min few (length bytes) = length-take few bytes in
    let long : length (take many bytes) ≡ min many (length bytes) = length-take many bytes in
    let P : List ℕ → Type 0 = λ l. Accepts accepted written l now rest in (
      n,
      omega (arith, fits, short, long, order),
      subst P (take-take n few bytes (omega (arith, fits, short)) ∙ sym (take-take n many bytes (omega (arith, fits, short, order)))) took,
    )

-- ---- a chunk more

module _ (a : AloofShape) (blocks : List (Option (Vec ℕ Global))) (long : AreLong (block_length a) blocks) (all : length blocks ≡ all_chunks a) (count : ℕ)
    (fits : count ≤ stripe_bytes a) where
  abbrev len : ℕ
  len = chunk_length (grid_of a)

  -- the first bytes, of which so many are left
  abbrev part : ℕ → List ℕ
  part left = take (count - left) (data_in a blocks)

  chunk_is : (share : ℕ) → share < a.data_count → take len (drop (share * len) (data_in a blocks)) ≡ chunk_or_zeros a (get_or blocks share None)
  chunk_is share less =
      let width : share * len + len - share * len ≡ len = omega arith in
      let sum : all_chunks a ≡ a.data_count + a.parity_count = refl in
      ap (λ n. take n (drop (share * len) (data_in a blocks))) (sym width)
      ∙ gathered_at a blocks long a.data_count (omega (arith, all, sum)) share less

  pub chunk_behind : (left piece share : ℕ) (block : Option (Vec ℕ Global)) → left ≡ count - share * len → left ≤ count → piece ≡ min left len → share < a.data_count →
      block ≡ get_or blocks share None → part left ++ take piece (chunk_or_zeros a block) ≡ part (left - piece)
  chunk_behind left piece share block left_is most piece_is less is =
      ap (λ o. part left ++ take piece (chunk_or_zeros a o)) is
      ∙ ap (λ l. part left ++ take piece l) (sym (chunk_is share less))
      ∙ part_more (data_in a blocks) len count left piece share left_is most piece_is

  pub chunk_part : (left piece share : ℕ) (block : Option (Vec ℕ Global)) → left ≡ count - share * len → left ≤ count → piece ≡ min left len → share < a.data_count →
      block ≡ get_or blocks share None → (accepted mid now : List ℕ) (written middle rest : Option (List ℕ)) → Accepts accepted written (part left) mid middle →
      AcceptsPrefix mid middle (take piece (chunk_or_zeros a block)) now rest →
      AcceptsPrefix accepted written (take count (data_in a blocks)) now rest
  chunk_part left piece share block left_is most piece_is less is accepted mid now written middle rest takes more =
      prefix_wider accepted now written rest (data_in a blocks) (count - (left - piece)) count (omega arith)
      (prefix_behind accepted mid now written middle rest (part left) (take piece (chunk_or_zeros a block)) (part (left - piece))
      (chunk_behind left piece share block left_is most piece_is less is) takes more)

  pub left_after : (left piece share : ℕ) → left ≡ count - share * len → piece ≡ min left len → left - piece ≡ count - (share + 1) * len
  left_after left piece share left_is piece_is =
      let one : (share + 1) * len ≡ share * len + len = omega arith in
      omega (arith, left_is, piece_is, one)

-- the checksum of more bytes
pub sums_behind : (first sum next : ℕ) (done piece all : List ℕ) → done ++ piece ≡ all →
    ((before : List ℕ) → first ≡ checksum_of before → sum ≡ checksum_of (before ++ done)) →
    ((before : List ℕ) → sum ≡ checksum_of before → next ≡ checksum_of (before ++ piece)) →
    (before : List ℕ) → first ≡ checksum_of before → next ≡ checksum_of (before ++ all)
sums_behind first sum next done piece all is one two before e =
    two (before ++ done) (one before e) ∙ ap checksum_of (append_assoc before done piece ∙ ap (λ l. before ++ l) is)

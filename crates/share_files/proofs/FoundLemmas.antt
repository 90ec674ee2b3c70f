-- What a source shows of a share's blocks.
use Rattle.std.proofs.Common.{◌≡◌, ℕ, ◌+◌, ◌-◌, ◌*◌, ◌<◌, ◌≤◌, List, [], ◌∷◌, ◌++◌, length, take, drop, refl, sym, ◌∙◌, ap, arith, append-nil, length-drop}
use Rattle.std.specs.Prelude.{All, Some, slice_get, min}
use Rattle.std.proofs.lemmas.List.{length-take, take_at}
use Rattle.std.proofs.lemmas.List.Elements.{All-same, All-take}
use Rattle.std.proofs.lemmas.Nat.{mul-le}
use Rattle.file_bytes.specs.Places.{Placed, placed_from, Shows, EndsBefore, FailsBefore, FailsIn}
use Rattle.clay_aloof.specs.Shape.{AloofShape}
use Rattle.share_format.specs.Blocks.{block_length, IsBlock}
use Rattle.share_format.specs.Shares.{block_start}
use Rattle.share_files.specs.Found.{block_in}

all_front : {X : Type 0} (P : X → Type 0) (xs all ys : List X) → all ≡ xs ++ ys → All P all → All P xs
all_front P xs all ys e h = All-same P xs (take (length xs) all) (sym (ap (take (length xs)) e ∙ take_at xs ys (length xs) refl)) (All-take P (length xs) all h)

-- a file that is shown was shown before
pub shown_before : (file : List ℕ) (old now more : List Placed) (ends told later : List ℕ) → now ≡ old ++ more → told ≡ ends ++ later → Shows file now told →
    Shows file old ends
shown_before file old now more ends told later e f shows = record {
  bytes = all_front (λ p. slice_get file p.at ≡ Some p.byte) old now more e shows.bytes;
  end = all_front (λ at. length file ≤ at) ends told later f shows.end;
}

pub shown_given : (file : List ℕ) (old now : List Placed) (at : ℕ) (bytes : List ℕ) (ends told : List ℕ) → now ≡ old ++ placed_from at bytes → told ≡ ends →
    Shows file now told → Shows file old ends
shown_given file old now at bytes ends told e f = shown_before file old now (placed_from at bytes) ends told [] e (f ∙ sym (append-nil ends))

pub shown_failed : (file : List ℕ) (old now : List Placed) (at size : ℕ) (ends told failed more : List ℕ) → FailsBefore old failed at size now more → told ≡ ends →
    Shows file now told → Shows file old ends
shown_failed file old now at size ends told failed more fails f = shown_given file old now at fails.got ends told fails.gives f

pub shown_ended : (file : List ℕ) (old now : List Placed) (at size : ℕ) (ends told : List ℕ) → EndsBefore old ends at size now told →
    Shows file now told → Shows file old ends
shown_ended file old now at size ends told before =
    shown_before file old now (placed_from at before.got) ends told ((at + length before.got) ∷ []) before.gives before.ended

-- what a file has in a block's place is no block, where the file ends there
pub no_block : (a : AloofShape) (i : ℕ) (file : List ℕ) → 0 < block_length a → length file < block_start a i + block_length a → IsBlock a (block_in a i file) → ⊥
no_block a i file some short is =
    let left : length (drop (block_start a i) file) ≡ length file - block_start a i = length-drop (block_start a i) file in
    let few : length (block_in a i file) ≡ min (block_length a) (length (drop (block_start a i) file)) = length-take (block_length a) (drop (block_start a i) file) in
    omega (arith, left, few, some, short, is.size)

-- each block lies before the end of all
pub place_before : (a : AloofShape) (i count : ℕ) → i < count → block_start a i + block_length a ≤ block_start a count
place_before a i count less =
    let more : (i + 1) * block_length a ≤ count * block_length a = mul-le (i + 1) (block_length a) count (block_length a) (omega (arith, less)) (omega arith) in
    let one : (i + 1) * block_length a ≡ i * block_length a + block_length a = omega arith in
    omega (arith, more, one)

-- ---- a read that failed

pub fails_in : (old now : List Placed) (failed more : List ℕ) (at size : ℕ) → FailsBefore old failed at size now more → FailsIn at size failed more
fails_in old now failed more at size fails = record {
  place = at + length fails.got;
  from = omega arith;
  before = omega (arith, fails.fewer);
  fails = fails.fails;
}

-- in the block of one of the first so many stripes
pub fails_among : (a : AloofShape) (i count : ℕ) (old failed now : List ℕ) → i < count → failed ≡ old → FailsIn (block_start a i) (block_length a) failed now →
    FailsIn (block_start a 0) (count * block_length a) old now
fails_among a i count old failed now less same fails =
    let last : block_start a i + block_length a ≤ block_start a count = place_before a i count less in
    let first : block_start a 0 ≤ block_start a i = omega arith in record {
      place = fails.place;
      from = omega (arith, first, fails.from);
      before = omega (arith, last, fails.before);
      fails = fails.fails ∙ ap (λ l. l ++ (fails.place ∷ [])) same;
    }

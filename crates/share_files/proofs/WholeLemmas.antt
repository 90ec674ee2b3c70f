-- What the front and the end of a file tell of it.
use Rattle.std.proofs.Common.{◌≡◌, ◌≢◌, ℕ, zero, suc, ◌+◌, ◌-◌, ◌*◌, ◌<◌, ◌≤◌, ◌↔◌, Bool, true, false, List, [], ◌∷◌, ◌++◌, length, take, drop, slice_range, None, Some, Err, refl, sym, subst, ap, ◌∙◌, arith, length-take, length-drop}
use Rattle.std.specs.Prelude.{IsTrue, IsErrOf, min}
use Rattle.std.specs.List.{flat_map}
use Rattle.std.proofs.lemmas.Bool.{true≢false}
use Rattle.std.proofs.lemmas.List.{take_at}
use Rattle.crc64.specs.Remainder.{checksum_of}
use Rattle.file_bytes.specs.Places.{FailsIn}
use Rattle.clay_aloof.specs.Shape.{AloofShape}
use Rattle.share_format.specs.Cut.{stripe_count}
use Rattle.share_format.specs.Blocks.{page_of, rounded, aligned, block_of, block_length, IsBlock}
use Rattle.share_format.specs.Header.{Header, IsHeader, header_with, header_bytes}
use Rattle.share_format.specs.Shares.{block_start, chunks_at, share_length, IsShare}
use Rattle.share_format.proofs.Blocks.{share_has_length}
use Rattle.share_format.proofs.Lengths.{length_aligned, length_header}
use Rattle.share_files.specs.Found.{block_in, IsFirstRotten}
use Rattle.share_files.proofs.WrittenLemmas.{slice_is}
use Rattle.share_files.proofs.ShareLemmas.{block_good}
use Rattle.share_files.specs.Whole.{BeginsWith, IsWhole, IsForeign, IsUnfilled, IsRottenAt, IsLonger, OneFails}

-- ---- the front

front_long : (h : Header) → length (aligned h.shape (header_bytes h)) ≡ rounded (page_of h.shape) 64
front_long h = length_aligned h.shape (header_bytes h) ∙ ap (λ n. rounded (page_of h.shape) n) (length_header h)

-- as it was read
pub begins_as_read : (h : Header) (file front slice wanted items : List ℕ) (same : Bool) → slice ≡ front → wanted ≡ items → items ≡ aligned h.shape (header_bytes h) →
    length front ≡ rounded (page_of h.shape) 64 → front ≡ slice_range file 0 (0 + length front) → (IsTrue same ↔ (slice ≡ wanted)) → IsTrue same ↔ BeginsWith h file
begins_as_read h file front slice wanted items same here shown is size read compared =
    let first : front ≡ take (rounded (page_of h.shape) 64) file = read ∙ slice_is file front 0 0 (rounded (page_of h.shape) 64) refl size in
    ((λ t. sym first ∙ sym here ∙ compared.0 t ∙ shown ∙ is), (λ begins. compared.1 (here ∙ first ∙ begins ∙ sym is ∙ sym shown)))

-- of a file that ends in it
pub short_front : (h : Header) (file front : List ℕ) → length front ≡ rounded (page_of h.shape) 64 → length file < 0 + length front → IsTrue false ↔ BeginsWith h file
short_front h file front size short =
    let few : length (take (rounded (page_of h.shape) 64) file) ≡ min (rounded (page_of h.shape) 64) (length file) = length-take (rounded (page_of h.shape) 64) file in (
      (λ t. absurd (true≢false (sym t))),
      (λ begins.
          let same : length (take (rounded (page_of h.shape) 64) file) ≡ rounded (page_of h.shape) 64 = ap (λ l. length l) begins ∙ front_long h in
          absurd (omega (arith, size, few, same, short))),
    )

-- ---- the end

pub byte_behind : (file buf : List ℕ) (place : ℕ) → length buf ≡ 1 → buf ≡ slice_range file place (place + length buf) → IsTrue false ↔ (length file ≤ place)
byte_behind file buf place one read =
    let is : buf ≡ take 1 (drop place file) = read ∙ slice_is file buf place place 1 refl one in
    let few : length (take 1 (drop place file)) ≡ min 1 (length (drop place file)) = length-take 1 (drop place file) in
    let left : length (drop place file) ≡ length file - place = length-drop place file in
    let size : length buf ≡ length (take 1 (drop place file)) = ap (λ l. length l) is in
    ((λ t. absurd (true≢false (sym t))), (λ within. absurd (omega (arith, one, few, left, size, within))))

pub no_byte_behind : (file buf : List ℕ) (place : ℕ) → length buf ≡ 1 → length file < place + length buf → IsTrue true ↔ (length file ≤ place)
no_byte_behind file buf place one short = ((λ t. omega (arith, one, short)), (λ within. refl))

-- ---- all of it

-- a file with so many blocks reaches their end
reaches : (h : Header) (count : ℕ) (file : List ℕ) → BeginsWith h file → ((i : ℕ) → i < count → IsBlock h.shape (block_in h.shape i file)) → block_start h.shape count ≤ length file
reaches h zero file begins blocks =
    let few : length (take (rounded (page_of h.shape) 64) file) ≡ min (rounded (page_of h.shape) 64) (length file) = length-take (rounded (page_of h.shape) 64) file in
    let same : length (take (rounded (page_of h.shape) 64) file) ≡ rounded (page_of h.shape) 64 = ap (λ l. length l) begins ∙ front_long h in
    let none : 0 * block_length h.shape ≡ 0 = omega arith in
    omega (arith, few, same, none)
reaches h (suc n) file begins blocks =
    let a : AloofShape = h.shape in
    let size : length (block_in a n file) ≡ block_length a = (blocks n (omega arith)).size in
    let few : length (block_in a n file) ≡ min (block_length a) (length (drop (block_start a n) file)) = length-take (block_length a) (drop (block_start a n) file) in
    let left : length (drop (block_start a n) file) ≡ length file - block_start a n = length-drop (block_start a n) file in
    let next : suc n * block_length a ≡ n * block_length a + block_length a = omega arith in
    let before : block_start a n ≤ length file = reaches h n file begins (λ i less. blocks i (omega (arith, less))) in
    omega (arith, size, few, left, next, before)

module _ (h : Header) (file : List ℕ) (begins : BeginsWith h file) (blocks : IsFirstRotten h.shape (stripe_count h.shape h.size) file None) where
  pub is_whole : length file ≤ share_length h.shape h.size → IsWhole h file
  is_whole within =
      let reached : block_start h.shape (stripe_count h.shape h.size) ≤ length file = reaches h (stripe_count h.shape h.size) file begins blocks in
      record { begins = begins; blocks = blocks; size = omega (arith, reached, within) }

  pub is_longer : (length file ≤ share_length h.shape h.size → ⊥) → IsLonger h file
  is_longer past = record { begins = begins; blocks = blocks; longer = omega (arith, past) }

-- ---- a share

pub share_whole : (h : Header) (file bytes : List ℕ) → length file ≡ h.size → checksum_of file ≡ h.checksum → IsShare h.shape file h.share bytes → IsWhole h bytes
share_whole h file bytes size sum is =
    let head : List ℕ = aligned h.shape (header_bytes h) in
    let rest : List ℕ = flat_map (block_of h.shape) (chunks_at h.share is.words) in
    let value : bytes ≡ head ++ rest =
    is.value ∙ (λ i. aligned h.shape (header_bytes (header_with h.shape h.share (size i) (sum i))) ++ flat_map (block_of h.shape) (chunks_at h.share is.words)) in
    let count : length is.words ≡ stripe_count h.shape h.size = is.coded.count ∙ ap (stripe_count h.shape) size in record {
      begins = ap (take (rounded (page_of h.shape) 64)) value ∙ take_at head rest (rounded (page_of h.shape) 64) (front_long h);
      blocks = λ i less. block_good h.shape file bytes h.share is i (omega (arith, less, count));
      size = share_has_length h.shape file h.share bytes is ∙ ap (share_length h.shape) size;
    }

-- ---- reads that failed

pub one_fails : (at size : ℕ) (failed now : List ℕ) → FailsIn at size failed now → OneFails failed now
one_fails at size failed now fails = record { place = fails.place; fails = fails.fails }

pub fault_of : {A E : Type 0} (x y : E) → IsErrOf {T = A} (Err x) y → x ≡ y
fault_of x y e = cc

pub fault_is : {A E : Type 0} (x y : E) → x ≡ y → IsErrOf {T = A} (Err x) y
fault_is x y same = ap Err same

-- what holds of a code and a number holds of equal ones
pub moved : (P : AloofShape → ℕ → Type 0) (a b : AloofShape) (n count : ℕ) → a ≡ b → n ≡ count → P a n → P b count
moved P a b n count shape number h = subst (λ k. P b k) number (subst (λ x. P x n) shape h)

-- a fault behind the header
pub is_unfilled : (h : Header) (file : List ℕ) → take 64 file ≡ header_bytes h → ¬ BeginsWith h file → IsUnfilled h file
is_unfilled h file first differs = record { first = first; differs = differs }

pub is_foreign : (h found : Header) (file : List ℕ) → IsHeader found → take 64 file ≡ header_bytes found → found ≢ h → IsForeign h file
is_foreign h found file bounded first other = record { header = found; bounded = bounded; first = first; other = other }

pub is_rotten : (h : Header) (file : List ℕ) (stripe : ℕ) → BeginsWith h file → IsFirstRotten h.shape (stripe_count h.shape h.size) file (Some stripe) → IsRottenAt h file stripe
is_rotten h file stripe begins rotten = record { begins = begins; rotten = rotten }

pub one_after : (at size : ℕ) (old mid now : List ℕ) → FailsIn at size mid now → mid ≡ old → OneFails old now
one_after at size old mid now fails same = record { place = fails.place; fails = fails.fails ∙ ap (λ l. l ++ fails.place ∷ []) same }

pub one_later : (old mid now : List ℕ) → OneFails mid now → mid ≡ old → OneFails old now
one_later old mid now fails same = record { place = fails.place; fails = fails.fails ∙ ap (λ l. l ++ fails.place ∷ []) same }

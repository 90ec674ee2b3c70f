-- A piece that was read: its front, its part, and what it tells of the file.
use Rattle.std.proofs.Common.{◌≡◌, ℕ, ◌+◌, ◌-◌, ◌*◌, ◌<◌, ◌≤◌, List, length, get_or, take, drop, Option, Some, None, Vec, Global, sym, subst, ◌∙◌, ap, arith, length-drop}
use Rattle.std.specs.Prelude.{IfSome, All}
use Rattle.std.proofs.lemmas.List.{length-take-le, take_rest}
use Rattle.std.proofs.lemmas.List.Elements.{All-same}
use Rattle.file_bytes.specs.Places.{Placed, Shows, FailsIn}
use Rattle.clay_grid.specs.Shape.{layer_count}
use Rattle.clay_aloof.specs.Shape.{AloofShape, all_chunks, grid_of}
use Rattle.clay_aloof.specs.Limits.{IsAloof}
use Rattle.clay_aloof.specs.Repair.{aloof_layers_of, part_bytes}
use Rattle.clay_aloof.proofs.Parts.{given_at}
use Rattle.clay_aloof.proofs.Put.{length-part}
use Rattle.share_format.specs.Mend.{block_ranges}
use Rattle.share_format.specs.Blocks.{chunk_start, block_length}
use Rattle.share_format.specs.Shares.{block_start}
use Rattle.share_format.specs.Parts.{IsIntactPart}
use Rattle.share_mends.specs.Places.{GivesAt}
use Rattle.share_mends.specs.Spans.{ranges_at, AreSpans, AreShort}
use Rattle.share_mends.specs.Parts.{piece_in, IsGoodPiece, IsFoundPart}
use Rattle.share_mends.specs.declared.spans.Span.{Span}
use Rattle.share_mends.proofs.GivenLemmas.{gives_same, bytes_shown}
use Rattle.share_mends.proofs.ReadLemmas.{short_piece}

pub layers_low : (a : AloofShape) (lost : ℕ) (layers items : List ℕ) → layers ≡ items → items ≡ aloof_layers_of a lost → (i : ℕ) → i < length layers → get_or layers i 0 < layer_count (grid_of a)
layers_low a lost layers items same are =
    let P : List ℕ → Type 0 = λ l. (i : ℕ) → i < length l → get_or l i 0 < layer_count (grid_of a) in
    subst P (sym (same ∙ are)) (λ i less. (given_at a lost i less).0)

-- ---- its halves

module _ (a : AloofShape) (lost : ℕ) (layers items piece : List ℕ) (start : ℕ) (same : layers ≡ items) (are : items ≡ aloof_layers_of a lost)
    (from : start ≡ chunk_start a) (long : length piece ≡ chunk_start a + part_bytes a) where
  pub front_long : length (take start piece) ≡ chunk_start a
  front_long = length-take-le start piece (omega (arith, from, long)) ∙ from

  rest : take (length piece - start) (drop start piece) ≡ drop (chunk_start a) piece
  rest = take_rest piece start ∙ ap (λ n. drop n piece) from

  rest_long : length (drop (chunk_start a) piece) ≡ part_bytes a
  rest_long = length-drop (chunk_start a) piece ∙ omega (arith, long)

  pub part_long : IsAloof a → lost < all_chunks a → length (take (length piece - start) (drop start piece)) ≡ length layers * a.width
  part_long aloof within =
      ap (λ l. length l) rest ∙ rest_long ∙ sym (length-part a lost aloof within) ∙ ap (λ l. length l * a.width) (sym (same ∙ are))

  pub is_good : IsIntactPart a layers (take start piece) (take (length piece - start) (drop start piece)) → IsGoodPiece a lost piece
  is_good intact =
      let P : List ℕ → Type 0 = λ l. IsIntactPart a l (take start piece) (take (length piece - start) (drop start piece)) in
      let Q : ℕ → Type 0 = λ n. IsIntactPart a (aloof_layers_of a lost) (take n piece) (take (length piece - start) (drop start piece)) in
      let R : List ℕ → Type 0 = λ l. IsIntactPart a (aloof_layers_of a lost) (take (chunk_start a) piece) l in
      record { size = long; intact = subst R rest (subst Q from (subst P (same ∙ are) intact)) }

  pub found_some : (part : Vec ℕ Global) → part.items ≡ take (length piece - start) (drop start piece)
      → IsIntactPart a layers (take start piece) (take (length piece - start) (drop start piece)) → IsFoundPart a lost piece (Some part)
  found_some part is intact = (is ∙ rest, is_good intact)

  pub some_long : (part : Vec ℕ Global) → part.items ≡ take (length piece - start) (drop start piece) → length part.items ≡ part_bytes a
  some_long part is = ap (λ l. length l) (is ∙ rest) ∙ rest_long

-- ---- of which file it is

pub in_block : (a : AloofShape) (lost i place : ℕ) (spans items : List Span) (old now : List Placed) (bytes : List ℕ) → place ≡ block_start a i → spans ≡ items → AreSpans a lost items
    → GivesAt old (ranges_at place spans) bytes now → GivesAt old (block_ranges a lost i) bytes now
in_block a lost i place spans items old now bytes here same are gives =
    let P : ℕ → Type 0 = λ p. GivesAt old (ranges_at p items) bytes now in
    let Q : List Span → Type 0 = λ l. GivesAt old (ranges_at place l) bytes now in
    gives_same old now (ranges_at (block_start a i) items) (block_ranges a lost i) bytes (are.places i) (subst P here (subst Q same gives))

pub found_shown : (a : AloofShape) (lost i : ℕ) (file : List ℕ) (old now : List Placed) (bytes items ends : List ℕ) (part : Option (Vec ℕ Global)) → GivesAt old (block_ranges a lost i) bytes now
    → Shows file now ends → items ≡ bytes → IsFoundPart a lost items part → IsFoundPart a lost (piece_in a lost i file) part
found_shown a lost i file old now bytes items ends part gives shows same found =
    subst (λ l. IsFoundPart a lost l part) (same ∙ bytes_shown file old now (block_ranges a lost i) bytes ends gives shows) found

pub none_shown : (a : AloofShape) (lost i place : ℕ) (spans items : List Span) (file : List ℕ) → IsAloof a → lost < all_chunks a → place ≡ block_start a i → spans ≡ items → AreSpans a lost items
    → AreShort place spans file → IsGoodPiece a lost (piece_in a lost i file) → ⊥
none_shown a lost i place spans items file aloof within here same are short =
    let P : ℕ → Type 0 = λ p. AreShort p items file in
    let Q : List Span → Type 0 = λ l. AreShort place l file in
    short_piece a lost i items file aloof within are (subst P here (subst Q same short))

-- a read of one of its spans that failed
pub fails_in_block : (a : AloofShape) (lost i place : ℕ) (spans items : List Span) (old now : List ℕ) → place ≡ block_start a i → spans ≡ items → AreSpans a lost items
    → (All (λ (span : Span). span.start + span.size ≤ block_length a) spans → FailsIn place (block_length a) old now) → FailsIn (block_start a i) (block_length a) old now
fails_in_block a lost i place spans items old now here same are fails =
    let P : ℕ → Type 0 = λ p. FailsIn p (block_length a) old now in
    subst P here (fails (All-same (λ (span : Span). span.start + span.size ≤ block_length a) spans items same are.within))

-- a fact of whatever part is there
pub if_some : {P : Type 0} → (part : Option (Vec ℕ Global)) → P → IfSome part (λ v. P)
if_some None p = tt
if_some (Some v) p = p

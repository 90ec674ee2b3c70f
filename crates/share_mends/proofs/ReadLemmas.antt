-- The spans of a block, read one behind another.
use Rattle.std.proofs.Common.{◌≡◌, ℕ, zero, suc, ◌+◌, ◌-◌, ◌*◌, ◌<◌, ◌≤◌, List, [], ◌∷◌, ◌++◌, length, get_or, take, drop, map, slice_range, Result, Ok, Err, refl, sym, subst, ap, ◌∙◌, arith, length-append}
use Rattle.std.specs.Prelude.{OnOk, IsErrOf, All}
use Rattle.std.specs.List.{range_with_len}
use Rattle.std.proofs.Math.Seq.{take-add}
use Rattle.std.proofs.lemmas.List.{take_more, map-append, drop_more, take-append-drop, length-take-le, length-drop}
use Rattle.std.proofs.lemmas.List.FromFn.{length-range_with_len}
use Rattle.std.proofs.lemmas.List.Elements.{All-get_or}
use Rattle.std.proofs.lemmas.Slice.{between-put_mid}
use borrow.Rule.Slice.PartMut.{put_mid}
use Rattle.file_bytes.specs.Places.{Placed, placed_from, Shows, EndsBefore, FailsBefore, FailsIn}
use Rattle.file_bytes.specs.declared.positions.ReadFault.{ReadFault}
use Rattle.file_bytes.specs.declared.positions.ReadFault.TheVariants.{Failed, Ended}
use Rattle.clay_aloof.specs.Shape.{AloofShape, all_chunks}
use Rattle.clay_aloof.specs.Limits.{IsAloof}
use Rattle.clay_aloof.specs.Repair.{aloof_layers_of, part_bytes}
use Rattle.clay_aloof.proofs.Put.{length-part}
use Rattle.share_format.specs.Mend.{Range, range_of, block_ranges}
use Rattle.share_format.specs.Blocks.{chunk_start}
use Rattle.share_format.specs.Shares.{block_start}
use Rattle.share_files.proofs.FoundLemmas.{shown_given, shown_failed, shown_ended, fails_in}
use Rattle.share_mends.specs.Places.{places_in, GivesAt}
use Rattle.share_mends.specs.Spans.{range_at, ranges_at, span_bytes, IsShort, AreShort, AreSpans}
use Rattle.share_mends.specs.Parts.{piece_in, IsGoodPiece}
use Rattle.share_mends.specs.declared.spans.Span.{Span}
use Rattle.share_mends.proofs.GivenLemmas.{gives_one, gives_then, ends_before}

-- ---- one span

-- whatever a read answered, a file that is shown was shown before
pub shown_read : (file : List ℕ) (old now : List Placed) (ends told failed more : List ℕ) (place : ℕ) (bytes : List ℕ) (result : Result (Unit {0}) ReadFault)
    → OnOk result (now ≡ old ++ placed_from place bytes) → (IsErrOf result Failed → FailsBefore old failed place (length bytes) now more)
    → (IsErrOf result Ended → EndsBefore old ends place (length bytes) now told) → ((IsErrOf result Ended → ⊥) → told ≡ ends) → Shows file now told → Shows file old ends
shown_read file old now ends told failed more place bytes (Ok u) given part ended on = shown_given file old now place bytes ends told given (on (λ e. cc))
shown_read file old now ends told failed more place bytes (Err Failed) given part ended on =
    shown_failed file old now place (length bytes) ends told failed more (part refl) (on (λ e. cc))
shown_read file old now ends told failed more place bytes (Err Ended) given part ended on = shown_ended file old now place (length bytes) ends told (ended refl)

-- so many bytes of a buffer from a place on
pub piece_long : (at size : ℕ) (buf piece : List ℕ) → at + size ≤ length buf → length piece ≡ length (take (at + size - at) (drop at buf)) → length piece ≡ size
piece_long at size buf piece within long =
    let some : at ≤ length buf = omega (arith, within) in
    let middle : length (take (at + size - at) (drop at buf)) ≡ at + size - at =
    length-take-le (at + size - at) (drop at buf) (omega (arith, length-drop at buf, within)) in
    omega (arith, long, middle)

pub span_fails : (old now : List Placed) (failed more : List ℕ) (at size : ℕ) (piece : List ℕ) → length piece ≡ size → FailsBefore old failed at (length piece) now more →
    FailsIn at size failed more
span_fails old now failed more at size piece long fails =
    let P : ℕ → Type 0 = λ n. FailsIn at n failed more in subst P long (fails_in old now failed more at (length piece) fails)

-- the read that fails of one of some spans is within what all are within
pub fails_within : (place most : ℕ) (spans : List Span) (i : ℕ) (d : Span) (old failed now : List ℕ) → i < length spans → All (λ span. span.start + span.size ≤ most) spans →
    failed ≡ old → FailsIn (place + (get_or spans i d).start) (get_or spans i d).size failed now → FailsIn place most old now
fails_within place most spans i d old failed now less within same fails =
    let end : (get_or spans i d).start + (get_or spans i d).size ≤ most = All-get_or (λ span. span.start + span.size ≤ most) spans i d less within in record {
      place = fails.place;
      from = omega (arith, fails.from);
      before = omega (arith, end, fails.before);
      fails = fails.fails ∙ ap (λ l. l ++ (fails.place ∷ [])) same;
    }

pub span_given : (a b : List Placed) (place at size : ℕ) (buf piece : List ℕ) → at + size ≤ length buf → length piece ≡ length (take (at + size - at) (drop at buf)) → b ≡ a ++ placed_from place piece
    → GivesAt a (range_of place size ∷ []) (slice_range (put_mid at (at + size - at) buf piece) at (at + size)) b
span_given a b place at size buf piece within long given =
    let some : at ≤ length buf = omega (arith, within) in
    let middle : length (take (at + size - at) (drop at buf)) ≡ at + size - at =
    length-take-le (at + size - at) (drop at buf) (omega (arith, length-drop at buf, within)) in
    let all : length piece ≡ at + size - at = long ∙ middle in
    let one : length piece ≡ size = omega (arith, all) in
    let P : List ℕ → Type 0 = λ l. GivesAt a (range_of place size ∷ []) l b in
    subst P (sym (between-put_mid at (at + size - at) buf piece (at + size) some all)) (gives_one a b place size piece one given)

-- ---- several

pub bytes_more : (spans : List Span) (i : ℕ) (d : Span) → i < length spans → span_bytes (take (i + 1) spans) ≡ span_bytes (take i spans) + (get_or spans i d).size
bytes_more [] i d less = absurd (omega (arith, less))
bytes_more (span ∷ spans) zero d less = omega arith
bytes_more (span ∷ spans) (suc i) d less =
    let rest : span_bytes (take (i + 1) spans) ≡ span_bytes (take i spans) + (get_or spans i d).size = bytes_more spans i d (omega (arith, less)) in
    let more : suc i + 1 ≡ suc (i + 1) = omega arith in
    let sum : span.size + span_bytes (take (i + 1) spans) ≡ span.size + span_bytes (take i spans) + (get_or spans i d).size = omega (arith, rest) in
    ap (λ n. span_bytes (take n (span ∷ spans))) more ∙ sum

pub bytes_within : (spans : List Span) (i : ℕ) (d : Span) → i < length spans → span_bytes (take i spans) + (get_or spans i d).size ≤ span_bytes spans
bytes_within [] i d less = absurd (omega (arith, less))
bytes_within (span ∷ spans) zero d less = omega arith
bytes_within (span ∷ spans) (suc i) d less =
    let rest : span_bytes (take i spans) + (get_or spans i d).size ≤ span_bytes spans = bytes_within spans i d (omega (arith, less)) in
    omega (arith, rest)

pub span_more : (a b c : List Placed) (place : ℕ) (spans : List Span) (i : ℕ) (d : Span) (at : ℕ) (old new : List ℕ) → i < length spans
    → GivesAt a (ranges_at place (take i spans)) (take at old) b → GivesAt b (range_at place (get_or spans i d) ∷ []) (slice_range new at (at + (get_or spans i d).size)) c
    → take at new ≡ take at old → GivesAt a (ranges_at place (take (i + 1) spans)) (take (at + (get_or spans i d).size) new) c
span_more a b c place spans i d at old new less so one kept =
    let span : Span = get_or spans i d in
    let size : at + span.size - at ≡ span.size = omega arith in
    let ranges : ranges_at place (take (i + 1) spans) ≡ ranges_at place (take i spans) ++ range_at place span ∷ [] =
    ap (ranges_at place) (take_more spans i d less) ∙ map-append (range_at place) (take i spans) (span ∷ []) in
    let bytes : take (at + span.size) new ≡ take at old ++ slice_range new at (at + span.size) =
    take-add at span.size new ∙ (λ j. kept j ++ take (sym size j) (drop at new)) in
    let P : List Range → Type 0 = λ l. GivesAt a l (take (at + span.size) new) c in
    let Q : List ℕ → Type 0 = λ l. GivesAt a (ranges_at place (take i spans) ++ range_at place span ∷ []) l c in
    subst P (sym ranges) (subst Q (sym bytes) (gives_then a b c (ranges_at place (take i spans)) (range_at place span ∷ []) (take at old) (slice_range new at (at + span.size)) so one))

pub short_at : (place : ℕ) (spans : List Span) (i : ℕ) (d : Span) (file : List ℕ) → i < length spans → IsShort place (get_or spans i d) file → AreShort place spans file
short_at place spans i d file less short = record {
  before = take i spans;
  span = get_or spans i d;
  behind = drop (i + 1) spans;
  one = sym (take-append-drop i spans) ∙ ap (λ l. take i spans ++ l) (drop_more spans i d less);
  short = short;
}

-- ---- a piece

pub length_spans : (place : ℕ) (spans : List Span) → length (places_in (ranges_at place spans)) ≡ span_bytes spans
length_spans place [] = refl
length_spans place (span ∷ spans) =
    let one : length (range_with_len (place + span.start) span.size) ≡ span.size = length-range_with_len (place + span.start) span.size in
    let rest = length_spans place spans in
    length-append (range_with_len (place + span.start) span.size) (places_in (ranges_at place spans)) ∙ (λ i. one i + rest i)

length_rows : (start : ℕ → ℕ) (width : ℕ) (layers : List ℕ) → length (places_in (map (λ layer. range_of (start layer) width) layers)) ≡ length layers * width
length_rows start width [] = omega arith
length_rows start width (layer ∷ layers) =
    let one : length (range_with_len (start layer) width) ≡ width = length-range_with_len (start layer) width in
    let rest : length (places_in (map (λ z. range_of (start z) width) layers)) ≡ length layers * width = length_rows start width layers in
    length-append (range_with_len (start layer) width) (places_in (map (λ z. range_of (start z) width) layers)) ∙ omega (arith, one, rest)

pub length_ranges : (a : AloofShape) (lost i : ℕ) → IsAloof a → lost < all_chunks a → length (places_in (block_ranges a lost i)) ≡ chunk_start a + part_bytes a
length_ranges a lost i aloof within =
    let layers : List ℕ = aloof_layers_of a lost in
    let start : ℕ → ℕ = λ layer. block_start a i + chunk_start a + layer * a.width in
    let table : length (range_with_len (block_start a i) (chunk_start a)) ≡ chunk_start a = length-range_with_len (block_start a i) (chunk_start a) in
    let part : length (places_in (map (λ layer. range_of (start layer) a.width) layers)) ≡ part_bytes a = length_rows start a.width layers ∙ length-part a lost aloof within in
    length-append (range_with_len (block_start a i) (chunk_start a)) (places_in (map (λ layer. range_of (start layer) a.width) layers)) ∙ (λ j. table j + part j)

-- the spans of a block have as many bytes as its table and a part
pub spans_long : (a : AloofShape) (lost : ℕ) (spans : List Span) → IsAloof a → lost < all_chunks a → AreSpans a lost spans → span_bytes spans ≡ chunk_start a + part_bytes a
spans_long a lost spans aloof within are =
    sym (length_spans (block_start a 0) spans) ∙ ap length (are.places 0) ∙ length_ranges a lost 0 aloof within

-- a file that ends before has no good piece
pub short_piece : (a : AloofShape) (lost i : ℕ) (spans : List Span) (file : List ℕ) → IsAloof a → lost < all_chunks a → AreSpans a lost spans
    → AreShort (block_start a i) spans file → IsGoodPiece a lost (piece_in a lost i file) → ⊥
short_piece a lost i spans file aloof within are short good =
    let place : ℕ = block_start a i in
    let one : ranges_at place spans ≡ ranges_at place short.before ++ (range_at place short.span ∷ ranges_at place short.behind) =
    ap (ranges_at place) short.one ∙ map-append (range_at place) short.before (short.span ∷ short.behind) in
    ends_before file (ranges_at place short.before) (ranges_at place short.behind) (range_at place short.span) (block_ranges a lost i)
    (sym (are.places i) ∙ ap places_in one) short.short.0 short.short.1 (good.size ∙ sym (length_ranges a lost i aloof within))

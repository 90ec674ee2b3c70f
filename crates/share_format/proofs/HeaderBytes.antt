-- The numbers in the bytes of a header, written again.
use Rattle.std.proofs.Common.{◌≡◌, ℕ, zero, suc, ◌+◌, ◌<◌, ◌≤◌, List, [], ◌∷◌, ◌++◌, length, get_or, take, drop, sym, ap, ◌∙◌, subst, arith}
use Rattle.std.proofs.lemmas.List.{append_assoc, take-append-drop, length-take-le, length-drop, get_or-drop, drop-drop}
use Rattle.std.proofs.Math.Seq.{take-add}
use Rattle.std.proofs.lemmas.Nat.{le_bytes_4, le_bytes_8}
use Rattle.byteorder.specs.Endian.{little_bytes, little_number}
use Rattle.byteorder.specs.Numbers.{little_from-append}
use Rattle.crc64.specs.Remainder.{checksum_of}
use Rattle.share_format.specs.Cut.{stripe_count}
use Rattle.share_format.specs.Header.{Header, told_bytes, header_bytes, header_in, stripes_in, IsIntact}

abbrev pub AreBytes : List ℕ → Type 0
AreBytes bytes = (i : ℕ) → get_or bytes i 0 < 256

-- a number of n bytes is written as the bytes that it is read from
record IsWrittenAgain (n : ℕ) : Type 0 where
  again : (bytes : List ℕ) → length bytes ≡ n → AreBytes bytes → little_bytes n (little_number n bytes) ≡ bytes

four : IsWrittenAgain 4
four = record { again = λ bytes long small. le_bytes_4 bytes (little_number 4 bytes) long small (omega arith) }

eight : IsWrittenAgain 8
eight = record { again = λ bytes long small. le_bytes_8 bytes (little_number 8 bytes) long small (omega arith) }

pub drop_small : (n : ℕ) (bytes : List ℕ) → AreBytes bytes → AreBytes (drop n bytes)
drop_small n bytes small i = subst (λ v. v < 256) (sym (get_or-drop n bytes i 0)) (small (n + i))

pub take_small : (n : ℕ) (bytes : List ℕ) → AreBytes bytes → AreBytes (take n bytes)
take_small zero bytes small i = omega arith
take_small (suc n) [] small i = omega arith
take_small (suc n) (byte ∷ bytes) small zero = small 0
take_small (suc n) (byte ∷ bytes) small (suc i) = take_small n bytes (λ k. small (suc k)) i

-- the first n of more bytes
pub first_number : (n : ℕ) (bytes : List ℕ) → n ≤ length bytes → little_number n bytes ≡ little_number n (take n bytes)
first_number n bytes enough =
    let long : length (take n bytes) ≡ n = length-take-le n bytes enough in
    ap (little_number n) (sym (take-append-drop n bytes))
    ∙ little_from-append n (take n bytes) (drop n bytes) (omega (arith, long))

first_written : (n : ℕ) (bytes : List ℕ) → IsWrittenAgain n → n ≤ length bytes → AreBytes bytes
    → little_bytes n (little_number n bytes) ≡ take n bytes
first_written n bytes writes enough small =
    ap (little_bytes n) (first_number n bytes enough)
    ∙ writes.again (take n bytes) (length-take-le n bytes enough) (take_small n bytes small)

-- a number, and what stands behind it
field : (n at m : ℕ) (bytes rest : List ℕ) → IsWrittenAgain n → at + n ≤ length bytes → AreBytes bytes
    → rest ≡ take m (drop (at + n) bytes)
    → little_bytes n (little_number n (drop at bytes)) ++ rest ≡ take (n + m) (drop at bytes)
field n at m bytes rest writes enough small is =
    let left : n ≤ length (drop at bytes) = subst (λ v. n ≤ v) (sym (length-drop at bytes)) (omega arith) in
    ap (λ l. l ++ rest) (first_written n (drop at bytes) writes left (drop_small at bytes small))
    ∙ ap (λ l. take n (drop at bytes) ++ l) (is ∙ ap (take m) (sym (drop-drop n at bytes)))
    ∙ sym (take-add n m (drop at bytes))

-- the bytes of a header but for its checksum
abbrev pub told_with : ℕ → ℕ → ℕ → Header → List ℕ
told_with first second stripes h =
    little_bytes 8 first ++ (little_bytes 4 second ++ (little_bytes 4 h.shape.data_count ++ (little_bytes 4 h.shape.parity_count
    ++ (little_bytes 4 h.shape.helper_count ++ (little_bytes 4 h.shape.width ++ (little_bytes 4 h.share
    ++ (little_bytes 8 h.size ++ (little_bytes 8 stripes ++ little_bytes 8 h.checksum))))))))

-- bytes that are intact are those of the header that they tell
pub header_bytes_in : (bytes : List ℕ) → length bytes ≡ 64 → AreBytes bytes → IsIntact bytes
    → stripes_in bytes ≡ stripe_count (header_in bytes).shape (header_in bytes).size → header_bytes (header_in bytes) ≡ bytes
header_bytes_in bytes long small intact counted =
    let h : Header = header_in bytes in
    let last : List ℕ = drop 56 bytes in
    let last_long : length last ≡ 8 = length-drop 56 bytes ∙ omega arith in
    let end : little_bytes 8 h.checksum ≡ take 8 (drop 48 bytes) =
    first_written 8 (drop 48 bytes) eight (subst (λ v. 8 ≤ v) (sym (length-drop 48 bytes)) (omega arith)) (drop_small 48 bytes small) in
    let stripes = field 8 40 8 bytes _ eight (omega arith) small end in
    let size = field 8 32 16 bytes _ eight (omega arith) small stripes in
    let share = field 4 28 24 bytes _ four (omega arith) small size in
    let width = field 4 24 28 bytes _ four (omega arith) small share in
    let helpers = field 4 20 32 bytes _ four (omega arith) small width in
    let parity = field 4 16 36 bytes _ four (omega arith) small helpers in
    let counts = field 4 12 40 bytes _ four (omega arith) small parity in
    let second = field 4 8 44 bytes _ four (omega arith) small counts in
    let whole : told_with (little_number 8 bytes) (little_number 4 (drop 8 bytes)) (stripes_in bytes) h ≡ take 56 bytes =
    field 8 0 48 bytes _ eight (omega arith) small second in
    let told : told_bytes h ≡ take 56 bytes =
    (λ i. told_with (sym intact.magic_is i) (sym intact.version_is i) (sym counted i) h) ∙ whole in
    let sum : little_bytes 8 (checksum_of (told_bytes h)) ≡ last =
    ap (λ l. little_bytes 8 (checksum_of l)) told ∙ ap (little_bytes 8) (sym intact.checksum_is)
    ∙ eight.again last last_long (drop_small 56 bytes small) in
    (λ i. told i ++ sum i) ∙ take-append-drop 56 bytes

-- ten pieces that are put one behind another
pub ten_pieces : (a b c d e f g h i j : List ℕ)
    → ((((((((a ++ b) ++ c) ++ d) ++ e) ++ f) ++ g) ++ h) ++ i) ++ j ≡ a ++ (b ++ (c ++ (d ++ (e ++ (f ++ (g ++ (h ++ (i ++ j))))))))
ten_pieces a b c d e f g h i j =
    append_assoc (((((((a ++ b) ++ c) ++ d) ++ e) ++ f) ++ g) ++ h) i j
    ∙ append_assoc ((((((a ++ b) ++ c) ++ d) ++ e) ++ f) ++ g) h (i ++ j)
    ∙ append_assoc (((((a ++ b) ++ c) ++ d) ++ e) ++ f) g (h ++ (i ++ j))
    ∙ append_assoc ((((a ++ b) ++ c) ++ d) ++ e) f (g ++ (h ++ (i ++ j)))
    ∙ append_assoc (((a ++ b) ++ c) ++ d) e (f ++ (g ++ (h ++ (i ++ j))))
    ∙ append_assoc ((a ++ b) ++ c) d (e ++ (f ++ (g ++ (h ++ (i ++ j)))))
    ∙ append_assoc (a ++ b) c (d ++ (e ++ (f ++ (g ++ (h ++ (i ++ j))))))
    ∙ append_assoc a b (c ++ (d ++ (e ++ (f ++ (g ++ (h ++ (i ++ j)))))))

-- bytes that hold the numbers of a header are that header's
pub read_is : (bytes : List ℕ) (h : Header) (stripes : ℕ) → length bytes ≡ 64 → AreBytes bytes → IsIntact bytes → h ≡ header_in bytes
    → stripes_in bytes ≡ stripes → stripes ≡ stripe_count h.shape h.size → header_bytes h ≡ bytes
read_is bytes h stripes long small intact is told counted =
    ap (λ x. header_bytes x) is
    ∙ header_bytes_in bytes long small intact (told ∙ counted ∙ ap (λ x. stripe_count x.shape x.size) is)

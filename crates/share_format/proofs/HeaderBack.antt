-- What is read from the bytes of a header.
use Rattle.std.proofs.Common.{◌≡◌, ℕ, zero, suc, ◌+◌, ◌-◌, ◌*◌, ◌/◌, ◌%◌, ◌^◌, min, ◌<◌, ◌≤◌, List, [], ◌∷◌, ◌++◌, get_or, take, drop, sym, ap, ◌∙◌, subst, arith}
use Rattle.std.proofs.lemmas.Nat.{mod_below, mul-le, div-mul-add, div-add-mod'}
use Rattle.std.proofs.Math.Nat.{div-le_of_le-mul, add-mul}
use Rattle.std.specs.Int.{div_ceil}
use Rattle.std.specs.Int.{byte_at, bytes_low_first}
use Rattle.byteorder.specs.Endian.{little_bytes, little_number}
use Rattle.byteorder.specs.Numbers.{little_number-reads_back}
use Rattle.crc64.specs.Remainder.{checksum_of}
use Rattle.crc64.proofs.Degrees.{checksum_below}
use Rattle.clay_grid.specs.Shape.{layer_count, chunk_length}
use Rattle.clay_aloof.specs.Shape.{AloofShape, aloof_of, all_chunks, grid_of, stripe_bytes}
use Rattle.clay_aloof.specs.Limits.{IsAloof, IsFirstFault as IsCodeFault}
use Rattle.clay_aloof.proofs.Faults.{fault_outside}
use Rattle.share_format.specs.Cut.{stripe_count}
use Rattle.share_format.specs.Header.{magic, version, Header, IsHeader, header_with, told_bytes, header_bytes, header_in, stripes_in}
use Rattle.share_format.specs.Faults.{IsFirstFault}
use Rattle.share_format.specs.declared.format_fault.BadHeader.{BadHeader}
use Rattle.share_format.specs.declared.format_fault.BadHeader.TheVariants.{Magic, Version, Checksum, Code, Size, Stripes, Share}

-- ---- the numbers fit their bytes

abbrev AreBytes : List ℕ → Type 0
AreBytes bytes = (i : ℕ) → get_or bytes i 0 < 2 ^ 8

byte_small : (j x : ℕ) → byte_at j x < 2 ^ 8
byte_small zero x = mod_below x 256 (omega arith)
byte_small (suc j) x = mod_below (x / 256 ^ suc j) 256 (omega arith)

number_small : (j n x : ℕ) → AreBytes (bytes_low_first j n x)
number_small j zero x i = omega arith
number_small j (suc n) x zero = byte_small j x
number_small j (suc n) x (suc i) = number_small (suc j) n x i

both_small : (xs ys : List ℕ) → AreBytes xs → AreBytes ys → AreBytes (xs ++ ys)
both_small [] ys one two i = two i
both_small (x ∷ xs) ys one two zero = one 0
both_small (x ∷ xs) ys one two (suc i) = both_small xs ys (λ k. one (suc k)) two i

record HoldsBytes (bytes : List ℕ) : Type 0 where
  small : AreBytes bytes

number_then : {rest : List ℕ} → (n x : ℕ) → HoldsBytes rest → HoldsBytes (little_bytes n x ++ rest)
number_then {rest} n x have = record { small = both_small (little_bytes n x) rest (number_small 0 n x) have.small }

number_last : (n x : ℕ) → HoldsBytes (little_bytes n x)
number_last n x = record { small = number_small 0 n x }

told_holds : (h : Header) → HoldsBytes (told_bytes h)
told_holds h =
    number_then 8 magic (number_then 4 version (number_then 4 h.shape.data_count (number_then 4 h.shape.parity_count
    (number_then 4 h.shape.helper_count (number_then 4 h.shape.width (number_then 4 h.share (number_then 8 h.size
    (number_then 8 (stripe_count h.shape h.size) (number_last 8 h.checksum)))))))))

data_few : (a : AloofShape) → IsAloof a → a.data_count ≤ 18
data_few a aloof =
    let front : a.data_count + a.parity_count - (a.helper_count + 1 - a.data_count) ≤ 18 = aloof.grid.data_chunks in
    let one : a.data_count < a.helper_count = aloof.limits.helpers.0 in
    let two : a.helper_count < a.data_count + a.parity_count = aloof.limits.helpers.1 in
    omega (arith, front, one, two)

stripe_small : (a : AloofShape) → IsAloof a → stripe_bytes a ≤ 18874368
stripe_small a aloof = mul-le a.data_count (chunk_length (grid_of a)) 18 1048576 (data_few a aloof) aloof.limits.chunk

rounded_up : (q rest unit : ℕ) → rest < unit → q + min 1 rest ≡ (q * unit + rest + unit - 1) / unit
rounded_up q zero unit less =
    let e : q * unit + 0 + unit - 1 ≡ q * unit + (unit - 1) = omega arith in
    let none : q + min 1 0 ≡ q = omega arith in
    none ∙ sym (ap (λ v. v / unit) e ∙ div-mul-add q unit (unit - 1) (omega arith))
rounded_up q (suc rest) unit less =
    let more : (q + 1) * unit ≡ q * unit + 1 * unit = add-mul q 1 unit in
    let e : q * unit + suc rest + unit - 1 ≡ (q + 1) * unit + rest = omega (arith, more) in
    let one : q + min 1 (suc rest) ≡ q + 1 = omega arith in
    one ∙ sym (ap (λ v. v / unit) e ∙ div-mul-add (q + 1) unit rest (omega arith))

-- both ways to round a quotient up
pub ceil_is : (n unit : ℕ) → 1 ≤ unit → div_ceil n unit ≡ (n + unit - 1) / unit
ceil_is n unit some =
    rounded_up (n / unit) (n % unit) unit (mod_below n unit some) ∙ ap (λ v. (v + unit - 1) / unit) (div-add-mod' n unit)

pub stripe_some : (a : AloofShape) → IsAloof a → 1 ≤ stripe_bytes a
stripe_some a aloof =
    let one : a.data_count < a.helper_count = aloof.limits.helpers.0 in
    let rows : a.helper_count + 1 - a.data_count ≤ layer_count (grid_of a) = aloof.grid.some_layers in
    let layers : 1 ≤ layer_count (grid_of a) = omega (arith, rows, one) in
    mul-le 1 1 a.data_count (chunk_length (grid_of a)) (omega (arith, aloof.limits.data_chunks))
    (mul-le 1 1 (layer_count (grid_of a)) a.width layers aloof.limits.width.0)

stripes_fit : (a : AloofShape) (size : ℕ) → IsAloof a → size ≤ 2 ^ 56 → stripe_count a size < 2 ^ 64
stripes_fit a size aloof bounded =
    let s : ℕ = stripe_bytes a in
    let n : ℕ = size + s - 1 in
    let less : 1 * n ≤ s * n = mul-le 1 n s n (stripe_some a aloof) (omega arith) in
    let few : n / s ≤ n = div-le_of_le-mul s (omega (arith, less)) in
    omega (arith, few, stripe_small a aloof, bounded)

-- ---- what is read

magic_back : (h : Header) → little_number 8 (header_bytes h) ≡ magic
magic_back h = little_number-reads_back 8 magic (drop 8 (header_bytes h)) (omega arith)

version_back : (h : Header) → little_number 4 (drop 8 (header_bytes h)) ≡ version
version_back h = little_number-reads_back 4 version (drop 12 (header_bytes h)) (omega arith)

stripes_back : (h : Header) → IsHeader h → stripes_in (header_bytes h) ≡ stripe_count h.shape h.size
stripes_back h is =
    little_number-reads_back 8 (stripe_count h.shape h.size) (drop 48 (header_bytes h)) (stripes_fit h.shape h.size is.code is.bounded)

sum_back : (h : Header) → little_number 8 (drop 56 (header_bytes h)) ≡ checksum_of (take 56 (header_bytes h))
sum_back h = little_number-reads_back 8 (checksum_of (told_bytes h)) [] (checksum_below (told_bytes h) (told_holds h).small)

pub header_back : (h : Header) → IsHeader h → header_in (header_bytes h) ≡ h
header_back h is =
    let bytes : List ℕ = header_bytes h in
    let few : h.shape.data_count ≤ 18 = data_few h.shape is.code in
    let parity_few : h.shape.parity_count ≤ 8 = is.code.limits.parity_chunks.1 in
    let helpers_few : h.shape.helper_count < h.shape.data_count + h.shape.parity_count = is.code.limits.helpers.1 in
    let numbered : h.share < h.shape.data_count + h.shape.parity_count = is.numbered in
    let narrow : h.shape.width ≤ 65536 = is.code.limits.width.1 in
    let k : little_number 4 (drop 12 bytes) ≡ h.shape.data_count =
    little_number-reads_back 4 h.shape.data_count (drop 16 bytes) (omega (arith, few)) in
    let m : little_number 4 (drop 16 bytes) ≡ h.shape.parity_count =
    little_number-reads_back 4 h.shape.parity_count (drop 20 bytes) (omega (arith, parity_few)) in
    let d : little_number 4 (drop 20 bytes) ≡ h.shape.helper_count =
    little_number-reads_back 4 h.shape.helper_count (drop 24 bytes) (omega (arith, few, parity_few, helpers_few)) in
    let w : little_number 4 (drop 24 bytes) ≡ h.shape.width =
    little_number-reads_back 4 h.shape.width (drop 28 bytes) (omega (arith, narrow)) in
    let share : little_number 4 (drop 28 bytes) ≡ h.share =
    little_number-reads_back 4 h.share (drop 32 bytes) (omega (arith, few, parity_few, numbered)) in
    let size : little_number 8 (drop 32 bytes) ≡ h.size =
    little_number-reads_back 8 h.size (drop 40 bytes) (omega (arith, is.bounded)) in
    let checksum : little_number 8 (drop 48 bytes) ≡ h.checksum =
    little_number-reads_back 8 h.checksum (drop 56 bytes) is.fits in
    λ i. header_with (aloof_of (k i) (m i) (d i) (w i)) (share i) (size i) (checksum i)

pub no_fault : (h : Header) (fault : BadHeader) → IsHeader h → IsFirstFault (header_bytes h) fault → ⊥
no_fault h Magic is bad = bad (magic_back h)
no_fault h Version is bad = bad.1 (version_back h)
no_fault h Checksum is bad = bad.2 (sum_back h)
no_fault h (Code fault) is bad =
    let P : Header → Type 0 = λ x. IsCodeFault x.shape fault in
    fault_outside h.shape fault (subst P (header_back h is) bad.1) is.code.limits
no_fault h Size is bad =
    let P : Header → Type 0 = λ x. 2 ^ 56 < x.size in
    omega (arith, subst P (header_back h is) bad.2, is.bounded)
no_fault h Stripes is bad =
    bad.3 (stripes_back h is ∙ sym (ap (λ x. stripe_count x.shape x.size) (header_back h is)))
no_fault h Share is bad =
    let P : Header → Type 0 = λ x. all_chunks x.shape ≤ x.share in
    omega (arith, subst P (header_back h is) bad.4, is.numbered)

pub same_headers : (h other : Header) → IsHeader h → IsHeader other → header_bytes h ≡ header_bytes other → h ≡ other
same_headers h other is that same = sym (header_back h is) ∙ ap header_in same ∙ header_back other that

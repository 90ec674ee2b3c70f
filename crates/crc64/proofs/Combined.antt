-- The checksum of two pieces is the sum of the second's and of the register that goes on from the first's over as many zeros.
use Rattle.std.proofs.Common.{◌≡◌, ℕ, ◌+◌, ◌*◌, ◌/◌, ◌%◌, ◌^◌, ◌<◌, ◌≤◌, List, [], ◌∷◌, ◌++◌, length, get_or, sym, ap, subst, ◌∙◌, arith, bit_xor}
use Rattle.std.proofs.lemmas.Nat.{xor_comm, mod_below, shl_below, div-mul-add, mod-mul-add}
use Rattle.std.proofs.Math.Nat.{div-div-eq-div-mul, pow-suc}
use lib.Bits.{xor_assoc, xor_self, xor_zero_r}
use Rattle.crc64.specs.Remainder.{remainder, polynomial, after, ones, checksum_of}
use Rattle.crc64.specs.Tables.{HasRegisters, HasRemainders}
use Rattle.crc64.proofs.Division.{remainder_sum, remainder_then, remainder_none, remainder_byte, after_append}
use Rattle.crc64.proofs.Degrees.{wider}
use Rattle.crc64.proofs.Lookups.{pushed, byte_more, low_entry}

-- ---- the theorem

-- what is added on both sides goes away
between : (a o p e : ℕ) → bit_xor (bit_xor a o) (bit_xor (bit_xor o p) e) ≡ bit_xor (bit_xor a p) e
between a o p e =
    let gone : bit_xor o (bit_xor o p) ≡ p = sym (xor_assoc o o p) ∙ ap (λ v. bit_xor v p) (xor_self o) ∙ xor_comm 0 p ∙ xor_zero_r p in
    sym (xor_assoc (bit_xor a o) (bit_xor o p) e)
    ∙ ap (λ v. bit_xor v e) (xor_assoc a o (bit_xor o p) ∙ ap (bit_xor a) gone)

pub combined_is : (before behind : List ℕ)
    → bit_xor (remainder (8 * length behind) (checksum_of before)) (checksum_of behind) ≡ checksum_of (before ++ behind)
combined_is before behind =
    let n : ℕ = 8 * length behind in
    let first : ℕ = after ones before in
    let bits : ℕ = polynomial behind in
    ap (λ v. bit_xor v (checksum_of behind)) (remainder_sum n first ones)
    ∙ ap (λ v. bit_xor (bit_xor (remainder n first) (remainder n ones)) (bit_xor v ones)) (remainder_sum n ones bits)
    ∙ between (remainder n first) (remainder n ones) (remainder n bits) ones
    ∙ ap (λ v. bit_xor v ones) (sym (remainder_sum n first bits) ∙ sym (after_append ones before behind))

pub combined_as : (first second sum count : ℕ) (before behind : List ℕ) → sum ≡ remainder (8 * count) first → length behind ≡ count
    → first ≡ checksum_of before → second ≡ checksum_of behind → bit_xor sum second ≡ checksum_of (before ++ behind)
combined_as first second sum count before behind is long one two =
    (λ i. bit_xor (is i) (two i))
    ∙ (λ i. bit_xor (remainder (8 * sym long i) (one i)) (checksum_of behind))
    ∙ combined_is before behind

-- ---- the tables

-- a byte at its place
abbrev pub placed : ℕ → ℕ
placed place = place % 256 * 2 ^ (8 * (place / 256))

-- a byte more of a register
pub register_step : (registers : List ℕ) (zeros place start sum : ℕ) → HasRegisters zeros 2048 registers → place < 8
    → sum ≡ remainder zeros (start % 2 ^ (8 * place))
    → bit_xor sum (get_or registers (place * 256 + start / 2 ^ (8 * place) % 256) 0) ≡ remainder zeros (start % 2 ^ (8 * (place + 1)))
register_step registers zeros place start sum have less is =
    let byte : ℕ = start / 2 ^ (8 * place) % 2 ^ 8 in
    let rest : ℕ = start % 2 ^ (8 * place) in
    let low : byte < 256 = mod_below (start / 2 ^ (8 * place)) 256 (omega arith) in
    let entry : get_or registers (place * 256 + byte) 0 ≡ remainder zeros (byte * 2 ^ (8 * place)) =
    have.entry (place * 256 + byte) (omega arith)
    ∙ (λ i. remainder zeros (mod-mul-add place 256 byte low i * 2 ^ (8 * div-mul-add place 256 byte low i))) in
    (λ i. bit_xor (is i) (entry i))
    ∙ sym (remainder_sum zeros rest (byte * 2 ^ (8 * place)))
    ∙ ap (remainder zeros) (byte_more start place)

pub whole_register : (zeros start sum : ℕ) → start < 2 ^ 64 → sum ≡ remainder zeros (start % 2 ^ (8 * 8)) → sum ≡ remainder zeros start
whole_register zeros start sum fits is = let same : start % 2 ^ (8 * 8) ≡ start = omega arith in is ∙ ap (remainder zeros) same

kept : (x : ℕ) → x < 2 ^ 64 → x % 2 ^ 64 ≡ x
kept x less = omega arith

placed_fits : (place : ℕ) → place < 2048 → placed place < 2 ^ 64
placed_fits place less =
    let k : ℕ = 8 * (place / 256) in
    let few : 8 + k ≤ 64 = omega arith in
    wider (placed place) (8 + k) 64 few (shl_below (place % 256) 8 k (mod_below place 256 (omega arith)))

-- a byte more of the first tables
pub pushed_byte : (place e : ℕ) (table : List ℕ) → place < 2048 → HasRegisters 0 place table → e ≡ placed place % 2 ^ 64
    → HasRegisters 0 (place + 1) (table ++ e ∷ [])
pushed_byte place e table less have is =
    pushed (λ p. remainder 0 (placed p)) place e table have (is ∙ kept (placed place) (placed_fits place less) ∙ sym (remainder_none (placed place)))

-- an entry more of the tables for twice as many zeros, and some zero bytes more
pub pushed_doubled : (zeros more place entry twice last : ℕ) (registers table : List ℕ) → HasRegisters zeros 2048 registers → place < 2048
    → entry ≡ get_or registers place 0 → twice ≡ remainder zeros entry → last ≡ remainder (8 * more) twice
    → HasRegisters (zeros + zeros + 8 * more) place table → HasRegisters (zeros + zeros + 8 * more) (place + 1) (table ++ last ∷ [])
pushed_doubled zeros more place entry twice last registers table have less found first then so =
    pushed (λ p. remainder (zeros + zeros + 8 * more) (placed p)) place last table so
    (then ∙ ap (remainder (8 * more)) (first ∙ ap (remainder zeros) (found ∙ have.entry place less) ∙ sym (remainder_then zeros zeros (placed place)))
    ∙ sym (remainder_then (zeros + zeros) (8 * more) (placed place)))

-- a zero byte more
pub zero_byte : (start step register found : ℕ) (entries : List ℕ) → HasRemainders 4096 entries → register ≡ remainder (8 * step) start
    → found ≡ get_or entries (register % 256) 0 → bit_xor found (register / 256) ≡ remainder (8 * (step + 1)) start
zero_byte start step register found entries have is at =
    let steps : 8 * step + 8 ≡ 8 * (step + 1) = omega arith in
    ap (λ v. bit_xor v (register / 256)) (at ∙ low_entry (register % 256) entries have (omega arith))
    ∙ remainder_byte register
    ∙ ap (remainder 8) is
    ∙ sym (remainder_then (8 * step) 8 start)
    ∙ ap (λ n. remainder n start) steps

-- the number of zeros, by a bit more of it
pub bit_more : (length bit zeros : ℕ) (table : List ℕ) → zeros ≡ length / 2 ^ (bit + 1)
    → HasRegisters (8 * zeros + 8 * zeros + 8 * (length / 2 ^ bit % 2)) 2048 table → HasRegisters (8 * (length / 2 ^ bit)) 2048 table
bit_more length bit zeros table is have =
    let rest : ℕ = length / 2 ^ bit in
    let power : 2 ^ (bit + 1) ≡ 2 ^ bit * 2 = ap (λ n. 2 ^ n) (omega arith) ∙ pow-suc 2 bit in
    let half : zeros ≡ rest / 2 = is ∙ ap (λ n. length / n) power ∙ sym (div-div-eq-div-mul length (2 ^ bit) 2) in
    let sum : 8 * zeros + 8 * zeros + 8 * (rest % 2) ≡ 8 * rest = omega (arith, half) in
    subst (λ n. HasRegisters n 2048 table) sum have

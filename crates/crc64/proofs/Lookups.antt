-- What the tables hold, and what is looked up in them.
use Rattle.std.proofs.Common.{◌≡◌, ℕ, zero, suc, ◌+◌, ◌-◌, ◌*◌, ◌/◌, ◌%◌, ◌^◌, ◌<◌, ◌≤◌, ◌⊎◌, inl, inr, List, [], ◌∷◌, ◌++◌, length, get_or, take, drop, refl, sym, ap, ◌∙◌, subst, arith, bit_xor}
use Rattle.std.proofs.lemmas.Nat.{xor_comm, mod-pow-add, pow_pos, mod_below, div-mul-add, mod-mul-add}
use Rattle.std.proofs.lemmas.List.{length-append, get_or_append_left, take-append-drop, length-take-le, length-drop, get_or-drop, take_all}
use Rattle.std.proofs.Math.Seq.{get_or-append_seam, take-add, take-suc, drop-cons}
use lib.Bits.{xor_assoc, xor_self, xor_zero_r, xor_shifted}
use Rattle.byteorder.specs.Endian.{little_from}
use Rattle.crc64.specs.Remainder.{remainder, polynomial, after, ones, checksum_of}
use Rattle.crc64.specs.Tables.{HasEntries, HasRemainders}
use Rattle.crc64.proofs.Division.{remainder_sum, remainder_then, remainder_past, remainder_byte, polynomial_append, after_none, after_append, after_byte}

-- an entry more
pub pushed : (entry_at : ℕ → ℕ) (count e : ℕ) (entries : List ℕ) → HasEntries entry_at count entries → e ≡ entry_at count
    → HasEntries entry_at (count + 1) (entries ++ e ∷ [])
pushed entry_at count e entries have is = record {
  long = length-append entries (e ∷ []) ∙ ap (λ n. n + 1) have.long;
  entry = λ place below. found place (split place below);
}
  where
    split : (place : ℕ) → place < count + 1 → (place < count) ⊎ (place ≡ count)
    split place below = grind arith

    found : (place : ℕ) → (place < count) ⊎ (place ≡ count) → get_or (entries ++ e ∷ []) place 0 ≡ entry_at place
    found place (inl less) =
        get_or_append_left entries (e ∷ []) 0 place (subst (λ n. place < n) (sym have.long) less) ∙ have.entry place less
    found place (inr same) =
        ap (λ p. get_or (entries ++ e ∷ []) p 0) (same ∙ sym have.long)
        ∙ get_or-append_seam entries e [] 0 ∙ is ∙ ap entry_at (sym same)

pushed_remainder : (count e : ℕ) (entries : List ℕ) → HasRemainders count entries → e ≡ remainder (8 * (count / 256 + 1)) (count % 256)
    → HasRemainders (count + 1) (entries ++ e ∷ [])
pushed_remainder = pushed (λ place. remainder (8 * (place / 256 + 1)) (place % 256))

pub pushed_first : (byte e : ℕ) (entries : List ℕ) → HasRemainders byte entries → byte < 256 → e ≡ remainder 8 byte
    → HasRemainders (byte + 1) (entries ++ e ∷ [])
pushed_first byte e entries have below is =
    let first : byte / 256 ≡ 0 = omega arith in
    let same : byte % 256 ≡ byte = omega arith in
    pushed_remainder byte e entries have (is ∙ ap (λ n. remainder (8 * (n + 1)) byte) (sym first) ∙ ap (remainder (8 * (byte / 256 + 1))) (sym same))

-- with a zero byte more behind it
pub pushed_next : (place e shorter : ℕ) (entries : List ℕ) → HasRemainders place entries → 256 ≤ place
    → shorter ≡ get_or entries (place - 256) 0 → e ≡ bit_xor (get_or entries (shorter % 256) 0) (shorter / 256)
    → HasRemainders (place + 1) (entries ++ e ∷ [])
pushed_next place e shorter entries have enough before is =
    let low : shorter % 256 < 256 = omega arith in
    let first : shorter % 256 / 256 ≡ 0 = omega arith in
    let same : shorter % 256 % 256 ≡ shorter % 256 = omega arith in
    let table : (place - 256) / 256 + 1 ≡ place / 256 = omega arith in
    let column : (place - 256) % 256 ≡ place % 256 = omega arith in
    let found : get_or entries (shorter % 256) 0 ≡ remainder 8 (shorter % 256) =
    have.entry (shorter % 256) (omega arith)
    ∙ ap (λ n. remainder (8 * (n + 1)) (shorter % 256 % 256)) first ∙ ap (remainder 8) same in
    let was : shorter ≡ remainder (8 * (place / 256)) (place % 256) =
    before ∙ have.entry (place - 256) (omega arith)
    ∙ ap (λ n. remainder (8 * n) ((place - 256) % 256)) table ∙ ap (remainder (8 * (place / 256))) column in
    let steps : 8 * (place / 256) + 8 ≡ 8 * (place / 256 + 1) = omega arith in
    pushed_remainder place e entries have
    (is
    ∙ ap (λ v. bit_xor v (shorter / 256)) found
    ∙ remainder_byte shorter
    ∙ ap (remainder 8) was
    ∙ sym (remainder_then (8 * (place / 256)) 8 (place % 256))
    ∙ ap (λ n. remainder n (place % 256)) steps)

-- the first table
pub low_entry : (byte : ℕ) (entries : List ℕ) → HasRemainders 4096 entries → byte < 256 → get_or entries byte 0 ≡ remainder 8 byte
low_entry byte entries have below =
    let first : byte / 256 ≡ 0 = omega arith in
    let same : byte % 256 ≡ byte = omega arith in
    have.entry byte (omega arith) ∙ ap (λ n. remainder (8 * (n + 1)) (byte % 256)) first ∙ ap (remainder 8) same

-- the next byte of a word, put before those below it
pub byte_more : (word place : ℕ) → bit_xor (word % 2 ^ (8 * place)) (word / 2 ^ (8 * place) % 2 ^ 8 * 2 ^ (8 * place)) ≡ word % 2 ^ (8 * (place + 1))
byte_more word place =
    let rest : ℕ = word % 2 ^ (8 * place) in
    let byte : ℕ = word / 2 ^ (8 * place) % 2 ^ 8 in
    xor_comm rest (byte * 2 ^ (8 * place))
    ∙ xor_shifted byte (8 * place) rest (mod_below word (2 ^ (8 * place)) (pow_pos (8 * place)))
    ∙ sym (mod-pow-add word 8 (8 * place))
    ∙ ap (λ n. word % 2 ^ n) (omega arith)

-- a byte more of a word
pub word_step : (entries : List ℕ) (behind place word sum : ℕ) → HasRemainders 4096 entries → behind ≤ 8 → place < 8
    → sum ≡ remainder (64 + 8 * behind) (word % 2 ^ (8 * place))
    → bit_xor sum (get_or entries ((behind + 7 - place) * 256 + word / 2 ^ (8 * place) % 256) 0)
    ≡ remainder (64 + 8 * behind) (word % 2 ^ (8 * (place + 1)))
word_step entries behind place word sum have few less is =
    let byte : ℕ = word / 2 ^ (8 * place) % 2 ^ 8 in
    let table : ℕ = behind + 7 - place in
    let low : byte < 256 = mod_below (word / 2 ^ (8 * place)) 256 (omega arith) in
    let entry : get_or entries (table * 256 + byte) 0 ≡ remainder (8 * (table + 1)) byte =
    have.entry (table * 256 + byte) (omega arith)
    ∙ ap (λ n. remainder (8 * (n + 1)) ((table * 256 + byte) % 256)) (div-mul-add table 256 byte low)
    ∙ ap (remainder (8 * (table + 1))) (mod-mul-add table 256 byte low) in
    let steps : 8 * place + 8 * (table + 1) ≡ 64 + 8 * behind = omega arith in
    let past : remainder (64 + 8 * behind) (byte * 2 ^ (8 * place)) ≡ remainder (8 * (table + 1)) byte =
    ap (λ n. remainder n (byte * 2 ^ (8 * place))) (sym steps) ∙ remainder_past (8 * place) (8 * (table + 1)) byte in
    let rest : ℕ = word % 2 ^ (8 * place) in
    ap (λ v. bit_xor v (get_or entries (table * 256 + byte) 0)) is
    ∙ ap (bit_xor (remainder (64 + 8 * behind) rest)) (entry ∙ sym past)
    ∙ sym (remainder_sum (64 + 8 * behind) rest (byte * 2 ^ (8 * place)))
    ∙ ap (remainder (64 + 8 * behind)) (byte_more word place)

pub whole_word : (behind word sum : ℕ) → word < 2 ^ 64 → sum ≡ remainder (64 + 8 * behind) (word % 2 ^ (8 * 8)) → sum ≡ remainder (64 + 8 * behind) word
whole_word behind word sum fits is = let same : word % 2 ^ (8 * 8) ≡ word = omega arith in is ∙ ap (remainder (64 + 8 * behind)) same

-- a number read from bytes is their polynomial
little_polynomial : (n i : ℕ) (bytes : List ℕ) → ((k : ℕ) → get_or bytes k 0 < 256) → i + n ≤ length bytes
    → little_from i n bytes ≡ polynomial (take n (drop i bytes))
unfolding polynomial
little_polynomial zero i bytes small enough = refl
little_polynomial (suc n) i bytes small enough =
    let b : ℕ = get_or bytes i 0 in
    let rest : ℕ = polynomial (take n (drop (suc i) bytes)) in
    let cut : polynomial (take (suc n) (drop i bytes)) ≡ bit_xor b (rest * 2 ^ 8) =
    ap (λ l. polynomial (take (suc n) l)) (drop-cons bytes i 0 (omega arith)) in
    let more : little_from (suc i) n bytes ≡ rest = little_polynomial n (suc i) bytes small (omega arith) in
    let sum : b + 256 * rest ≡ bit_xor b (rest * 2 ^ 8) =
    omega arith ∙ sym (xor_shifted rest 8 b (small i)) ∙ xor_comm (rest * 2 ^ 8) b in
    ap (λ v. b + 256 * v) more ∙ sum ∙ sym cut

-- a block of sixteen bytes by its two words
pub block_after : (register first second : ℕ) (block : List ℕ) → length block ≡ 16 → ((k : ℕ) → get_or block k 0 < 256)
    → first ≡ little_from 0 8 block → second ≡ little_from 0 8 (take (length block - 8) (drop 8 block))
    → bit_xor (remainder 128 (bit_xor register first)) (remainder 64 second) ≡ after register block
block_after register first second block long small one two =
    let front : List ℕ = take 8 block in
    let back : List ℕ = drop 8 block in
    let front_long : length front ≡ 8 = length-take-le 8 block (omega arith) in
    let halves : front ++ back ≡ block = take-append-drop 8 block in
    let back_long : length back ≡ 8 = omega (arith, sym (length-append front back) ∙ ap length halves, front_long, long) in
    let back_small : (k : ℕ) → get_or back k 0 < 256 = λ k. subst (λ v. v < 256) (sym (get_or-drop 8 block k 0)) (small (8 + k)) in
    let first_is : first ≡ polynomial front = one ∙ little_polynomial 8 0 block small (omega arith) in
    let second_is : second ≡ polynomial back =
    two ∙ ap (little_from 0 8) (take_all (length block - 8) back (omega arith)) ∙ little_polynomial 8 0 back back_small (omega arith) ∙ ap polynomial (take_all 8 back (omega arith)) in
    let whole : polynomial block ≡ bit_xor (polynomial front) (polynomial back * 2 ^ 64) =
    ap polynomial (sym halves) ∙ polynomial_append front back ∙ ap (λ n. bit_xor (polynomial front) (polynomial back * 2 ^ (8 * n))) front_long in
    ap (λ v. bit_xor (remainder 128 (bit_xor register v)) (remainder 64 second)) first_is
    ∙ ap (λ v. bit_xor (remainder 128 (bit_xor register (polynomial front))) (remainder 64 v)) second_is
    ∙ ap (bit_xor (remainder 128 (bit_xor register (polynomial front)))) (sym (remainder_past 64 64 (polynomial back)))
    ∙ sym (remainder_sum 128 (bit_xor register (polynomial front)) (polynomial back * 2 ^ 64))
    ∙ ap (remainder 128) (xor_assoc register (polynomial front) (polynomial back * 2 ^ 64))
    ∙ ap (λ v. remainder 128 (bit_xor register v)) (sym whole)
    ∙ ap (λ n. remainder (8 * n) (bit_xor register (polynomial block))) (sym long)

-- a block more
pub blocks_step : (start register next number : ℕ) (bytes block : List ℕ) → register ≡ after start (take (number * 16) bytes)
    → block ≡ take 16 (drop (number * 16) bytes) → next ≡ after register block → next ≡ after start (take ((number + 1) * 16) bytes)
blocks_step start register next number bytes block was is then =
    then ∙ ap (λ r. after r block) was ∙ ap (after (after start (take (number * 16) bytes))) is
    ∙ sym (after_append start (take (number * 16) bytes) (take 16 (drop (number * 16) bytes)))
    ∙ ap (after start) (sym (take-add (number * 16) 16 bytes) ∙ ap (λ n. take n bytes) (omega arith))

-- a byte more
pub bytes_step : (start register next index : ℕ) (bytes entries : List ℕ) → HasRemainders 4096 entries → index < length bytes
    → get_or bytes index 0 < 256 → register ≡ after start (take index bytes)
    → next ≡ bit_xor (get_or entries (bit_xor register (get_or bytes index 0) % 256) 0) (register / 256)
    → next ≡ after start (take (index + 1) bytes)
bytes_step start register next index bytes entries have less small was is =
    let byte : ℕ = get_or bytes index 0 in
    let more : suc index ≡ index + 1 = omega arith in
    is
    ∙ ap (λ v. bit_xor v (register / 256)) (low_entry (bit_xor register byte % 256) entries have (omega arith))
    ∙ after_byte register byte small
    ∙ ap (λ r. after r (byte ∷ [])) was
    ∙ sym (after_append start (take index bytes) (byte ∷ []))
    ∙ ap (after start) (sym (take-suc bytes index 0 less) ∙ ap (λ n. take n bytes) more)

-- checksums go on from those of what stands before
pub checksum_goes_on : (before bytes : List ℕ) (checksum last : ℕ) → checksum ≡ checksum_of before
    → last ≡ after (bit_xor checksum ones) bytes → bit_xor last ones ≡ checksum_of (before ++ bytes)
checksum_goes_on before bytes checksum last begun then =
    let back : bit_xor checksum ones ≡ after ones before =
    ap (λ v. bit_xor v ones) begun ∙ xor_assoc (after ones before) ones ones ∙ ap (bit_xor (after ones before)) (xor_self ones)
    ∙ xor_zero_r (after ones before) in
    ap (λ v. bit_xor v ones)
    (then ∙ ap (λ r. after r bytes) back ∙ sym (after_append ones before bytes))

pub checksum_of_nothing : 0 ≡ checksum_of []
checksum_of_nothing = sym (ap (λ v. bit_xor v ones) (after_none ones) ∙ xor_self ones)

-- what stands behind whole blocks
pub whole_after : (start register last n : ℕ) (bytes : List ℕ) → register ≡ after start (take n bytes)
    → last ≡ after register (take (length bytes - n) (drop n bytes)) → last ≡ after start bytes
whole_after start register last n bytes first then =
    let rest : take (length bytes - n) (drop n bytes) ≡ drop n bytes = take_all (length bytes - n) (drop n bytes) (omega (arith, length-drop n bytes)) in
    then ∙ ap (after register) rest ∙ ap (λ r. after r (drop n bytes)) first
    ∙ sym (after_append start (take n bytes) (drop n bytes))
    ∙ ap (after start) (take-append-drop n bytes)

-- a turn more
pub turn_more : (start register next at turn size : ℕ) (bytes : List ℕ) → size ≡ turn → register ≡ after start (take at bytes)
    → next ≡ after register (take size (drop at bytes)) → next ≡ after start (take (at + turn) bytes)
turn_more start register next at turn size bytes is was then =
    then ∙ (λ i. after (was i) (take (is i) (drop at bytes)))
    ∙ sym (after_append start (take at bytes) (take turn (drop at bytes)))
    ∙ ap (after start) (sym (take-add at turn bytes))

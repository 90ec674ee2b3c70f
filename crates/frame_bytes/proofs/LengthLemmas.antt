-- How many bytes the fields of answers have.
use Rattle.std.proofs.Common.{◌≡◌, ◌≤◌, ◌<◌, ℕ, ◌+◌, ◌*◌, ◌&&◌, nat_le, List, [], ◌∷◌, ◌++◌, length, take, get_or, refl, sym, ap, ◌∙◌, arith, length-append}
use Rattle.std.specs.Prelude.{flat_map}
use Rattle.std.specs.List.{list_all}
use Rattle.std.proofs.lemmas.Bool.{and_parts, leb-true}
use Rattle.byteorder.specs.Endian.{big_bytes}
use Rattle.store_map.specs.Name.{IsName, is_name_byte}
use Rattle.session_rules.specs.declared.session_answer.Missing.{Missing}
use Rattle.session_rules.specs.declared.session_answer.LostChunk.{LostChunk}
use Rattle.session_rules.specs.declared.session_answer.Answer.{Answer}
use Rattle.session_rules.specs.Replies.{missing_bytes, lost_bytes, answer_bytes}
use Rattle.frame_bytes.proofs.WriteLemmas.{each_more}

pub missing_length : (servers : List Missing) → length (flat_map missing_bytes servers) ≡ 20 * length servers
missing_length [] = refl
missing_length (server ∷ servers) =
    let here : length (flat_map missing_bytes (server ∷ servers)) ≡ 20 + length (flat_map missing_bytes servers) =
    length-append (missing_bytes server) (flat_map missing_bytes servers) in
    let rest : length (flat_map missing_bytes servers) ≡ 20 * length servers = missing_length servers in
    omega (arith, here, rest)

pub taken_length : (taken : List ℕ) → length (flat_map (big_bytes 8) taken) ≡ 8 * length taken
taken_length [] = refl
taken_length (count ∷ taken) =
    let here : length (flat_map (big_bytes 8) (count ∷ taken)) ≡ 8 + length (flat_map (big_bytes 8) taken) =
    length-append (big_bytes 8 count) (flat_map (big_bytes 8) taken) in
    let rest : length (flat_map (big_bytes 8) taken) ≡ 8 * length taken = taken_length taken in
    omega (arith, here, rest)

-- the frames of two kinds
pub unavailable_length : (stripe n : ℕ) (missing : List Missing) → n ≡ length missing →
    n * 20 + 6 ≡ length (answer_bytes (Answer.Unavailable stripe missing))
unavailable_length stripe n missing count =
    let all : length (answer_bytes (Answer.Unavailable stripe missing)) ≡ 5 + length (length missing ∷ flat_map missing_bytes missing) =
    length-append (6 ∷ big_bytes 4 stripe) (length missing ∷ flat_map missing_bytes missing) in
    let rest : length (flat_map missing_bytes missing) ≡ 20 * length missing = missing_length missing in
    omega (arith, all, rest, count)

pub healed_length : (rebuilt n : ℕ) (taken : List ℕ) → n ≡ length taken → n * 8 + 9 ≡ length (answer_bytes (Answer.Healed rebuilt taken))
healed_length rebuilt n taken count =
    let all : length (answer_bytes (Answer.Healed rebuilt taken)) ≡ 9 + length (flat_map (big_bytes 8) taken) =
    length-append (16 ∷ big_bytes 8 rebuilt) (flat_map (big_bytes 8) taken) in
    let rest : length (flat_map (big_bytes 8) taken) ≡ 8 * length taken = taken_length taken in
    omega (arith, all, rest, count)

pub chunk_length : (chunk : LostChunk) → length (lost_bytes chunk) ≡ length chunk.name + 9
chunk_length chunk =
    let named : List ℕ = length chunk.name ∷ chunk.name in
    let inner : length (named ++ big_bytes 4 chunk.stripe) ≡ length named + 4 = length-append named (big_bytes 4 chunk.stripe) in
    let outer : length (lost_bytes chunk) ≡ length (named ++ big_bytes 4 chunk.stripe) + 4 =
    length-append (named ++ big_bytes 4 chunk.stripe) (big_bytes 4 chunk.server) in
    let front : length named ≡ length chunk.name + 1 = omega arith in
    omega (arith, inner, outer, front)

-- a name has at most 64 bytes
pub name_length : (name : List ℕ) → IsName name → length name ≤ 64
name_length name is =
    leb-true (length name) 64
    (and_parts (nat_le 1 (length name)) (nat_le (length name) 64)
    (and_parts (nat_le 1 (length name) && nat_le (length name) 64) (list_all is_name_byte name) is).0).1

-- one lost chunk more
pub lost_more : (lost : List LostChunk) (i : ℕ) (chunk : LostChunk) → i < length lost →
    length (flat_map lost_bytes (take i lost)) + length (lost_bytes (get_or lost i chunk)) ≡ length (flat_map lost_bytes (take (i + 1) lost))
lost_more lost i chunk within =
    sym (length-append (flat_map lost_bytes (take i lost)) (lost_bytes (get_or lost i chunk))) ∙ ap length (each_more lost_bytes lost i chunk within)

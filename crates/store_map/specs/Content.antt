-- The bytes of a put's or a write's data.
use Rattle.std.specs.Prelude.{ℕ, ◌+◌, ◌%◌, List, length, map, replicate, ◌++◌, take, drop}
use Rattle.std.specs.List.{range_with_len}
use Rattle.store_map.specs.declared.content.Content.{Content}
use Rattle.store_map.specs.declared.content.Content.TheVariants.{Hex, Fill, Ramp}

-- n bytes, of which byte i is first + i modulo 256
abbrev pub ramp_of : ℕ → ℕ → List ℕ
ramp_of first n = map (λ i. (first + i) % 256) (range_with_len 0 n)

-- the bytes that a content stands for
abbrev pub content_bytes : Content → List ℕ
content_bytes (Hex bytes) = bytes
content_bytes (Fill byte n) = replicate n byte
content_bytes (Ramp first n) = ramp_of first n

-- how many they are
abbrev pub content_length : Content → ℕ
content_length (Hex bytes) = length bytes
content_length (Fill byte n) = n
content_length (Ramp first n) = n

-- the bytes with new ones from an offset on
abbrev pub overwrite : List ℕ → ℕ → List ℕ → List ℕ
overwrite bytes offset new = take offset bytes ++ new ++ drop (offset + length new) bytes

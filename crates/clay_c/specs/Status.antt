-- How a call from C ends.
use Rattle.std.specs.Prelude.{◌≡◌, ◌≢◌, ℕ}

-- what was asked is done
abbrev pub done : ℕ
done = 0

-- no code has these numbers
abbrev pub bad_geometry : ℕ
bad_geometry = 1

-- a buffer has another length than the code asks
abbrev pub bad_length : ℕ
bad_length = 2

-- no chunk has this number
abbrev pub bad_chunk : ℕ
bad_chunk = 3

-- more chunks are missing than there are parity chunks
abbrev pub too_few : ℕ
too_few = 4

-- memory is wanting
abbrev pub out_of_memory : ℕ
out_of_memory = 5

-- the helpers aren't as many as the code has, or aren't each other chunk of the lost one's column, or the lost chunk is one
abbrev pub bad_helpers : ℕ
bad_helpers = 6

-- a chunk hasn't these layers
abbrev pub bad_layer : ℕ
bad_layer = 7

-- with which a call ends that takes bytes
abbrev pub EndsByLength : ℕ → Type 0
EndsByLength status = status ≢ bad_geometry → status ≢ bad_length → status ≢ done → status ≡ out_of_memory

-- and one that takes a chunk's number too
abbrev pub EndsByChunk : ℕ → Type 0
EndsByChunk status = status ≢ bad_geometry → status ≢ bad_chunk → status ≢ bad_length → status ≢ done → status ≡ out_of_memory

-- and one that takes layers too
abbrev pub EndsByLayer : ℕ → Type 0
EndsByLayer status = status ≢ bad_geometry → status ≢ bad_chunk → status ≢ bad_layer → status ≢ bad_length → status ≢ done → status ≡ out_of_memory

-- and one that takes marks of the chunks that are there too
abbrev pub EndsByMarks : ℕ → Type 0
EndsByMarks status =
    status ≢ bad_geometry → status ≢ bad_chunk → status ≢ bad_layer → status ≢ bad_length → status ≢ too_few → status ≢ done → status ≡ out_of_memory

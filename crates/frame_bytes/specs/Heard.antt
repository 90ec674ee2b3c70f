-- What stands next in a session's input, by what a source handed out of it.
use Rattle.std.specs.Prelude.{◌≡◌, ℕ, Bool, true, Option, Some, List, [], ◌++◌, length}
use Rattle.clay_bytes.specs.Stream.{HandsOut}
use Rattle.frame_bytes.specs.declared.frame_reading.Next.{Next}
use Rattle.frame_bytes.specs.Next.{IsNext, IsPart}
use Rattle.frame_bytes.specs.Body.{IsBody}

-- what may stand behind what was handed out: nothing behind an ending, where the source told the end
abbrev pub MayFollow : Next → Bool → List ℕ → Type 0
MayFollow (Next.Frame frame) ended more = Unit {0}
MayFollow (Next.End ending) ended more = ended ≡ true → more ≡ []

-- this stands next in each input that begins with these bytes, and they are what is read to know it
abbrev pub IsNextIn : ℕ → List ℕ → Bool → Next → Type 0
IsNextIn room got ended next = (more : List ℕ) → MayFollow next ended more → IsNext room (Some (got ++ more)) next (Some more)

-- the same behind a frame's length
abbrev pub IsBodyOf : ℕ → ℕ → List ℕ → Bool → Next → Type 0
IsBodyOf count room got ended next = (more : List ℕ) → MayFollow next ended more → IsBody count room (Some (got ++ more)) next (Some more)

-- what stands next, with the bytes that were handed out for it
abbrev pub HandsOutNext : ℕ → List ℕ → Option (List ℕ) → Next → List ℕ → Bool → Option (List ℕ) → Type 0
HandsOutNext room given left next now ended rest = (got : List ℕ) × HandsOut given left got now rest × IsNextIn room got ended next

abbrev pub HandsOutBody : ℕ → ℕ → List ℕ → Option (List ℕ) → Next → List ℕ → Bool → Option (List ℕ) → Type 0
HandsOutBody count room given left next now ended rest = (got : List ℕ) × HandsOut given left got now rest × IsBodyOf count room got ended next

-- a part of what stands next was handed out
abbrev pub HandsOutPart : ℕ → List ℕ → Option (List ℕ) → List ℕ → Option (List ℕ) → Type 0
HandsOutPart room given left now rest = (got : List ℕ) × IsPart room got × HandsOut given left got now rest

-- a frame's length was handed out
abbrev pub HandsOutLength : ℕ → List ℕ → Option (List ℕ) → List ℕ → Option (List ℕ) → Type 0
HandsOutLength room given left now rest = (got : List ℕ) × (length got ≡ 4) × IsPart room got × HandsOut given left got now rest

-- Parts of a repair are those of a codeword, whatever bytes they are.
use Rattle.std.specs.Prelude.{◌≡◌, ℕ, ◌^◌, ◌<◌, List, get_or, Option, Some, None, Vec}
use Rattle.std.specs.declared.alloc.Global.{Global}
use Rattle.clay_aloof.specs.Shape.{AloofShape}
use Rattle.clay_aloof.specs.Limits.{IsAloof}
use Rattle.clay_aloof.specs.Repair.{AreParts, HasParts}

-- the numbers of the parts are bytes
abbrev pub AreBytes : List (Option (Vec ℕ Global)) → Type 0
AreBytes have = (c : ℕ) (v : Vec ℕ Global) → get_or have c None ≡ Some v → (i : ℕ) → get_or v.items i 0 < 2 ^ 8

-- any parts of helpers that fit are those of some codeword's chunks
abbrev pub PartsAreCoded : Type 0
PartsAreCoded =
    (a : AloofShape) (lost : ℕ) (have : List (Option (Vec ℕ Global))) → IsAloof a → AreParts a lost have → AreBytes have
    → (word : List (List ℕ)) × HasParts a lost have word

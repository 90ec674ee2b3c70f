-- How a server without its chunk is spelled: how it took the chunk, and what it answered.
use Rattle.std.specs.Prelude.{ℕ, List, ◌++◌, codes, decimal}
use Rattle.store_map.specs.declared.placement.Placement.{Placement}
use Rattle.store_map.specs.declared.placement.Placement.TheVariants.{At, Skipped}
use Rattle.store_map.specs.declared.placement.Found.{Found}
use Rattle.store_map.specs.declared.placement.Found.TheVariants.{Absent, Away}
use Rattle.store_map.specs.declared.cause.Triple.{Triple}

-- P: the epoch at which a chunk was placed, or how often its server had been made away that took none
abbrev pub placement_text : Placement → List ℕ
placement_text (At epoch) = decimal epoch
placement_text (Skipped downs) = codes "u" ++ decimal downs

-- F: the epoch of a server that lacks its chunk, or how often it was made away
abbrev pub found_text : Found → List ℕ
found_text (Absent epoch) = decimal epoch
found_text (Away downs) = codes "a" ++ decimal downs

-- J/P/F
abbrev pub triple_text : Triple → List ℕ
triple_text triple = decimal triple.server ++ codes "/" ++ placement_text triple.placed ++ codes "/" ++ found_text triple.found

-- The servers that a gathering names as missing are those that it asked and that answered so.
use Rattle.std.specs.Prelude.{◌≡◌, ℕ, List, [], ◌∷◌, ◌++◌, map}
use Rattle.store_map.specs.declared.placement.Found.{Found}
use Rattle.store_core.specs.Told.{Lost, Told}
use Rattle.store_core.specs.Gathering.{Gathering}

-- the server that a gathering asks next, if it asks one
abbrev pub asked_next : Gathering → List ℕ
asked_next (Gathering.Asks server step) = server ∷ []
asked_next _ = []

-- of the servers that a gathering asked, after what it was told before, those that gave no chunk, with their reasons, in order
abbrev pub found_missing : (List Told → Gathering) → List Told → List Told → List (ℕ × Found)
found_missing gather before [] = []
found_missing gather before (Told.Missing reason ∷ told) =
    map (λ server. (server, reason)) (asked_next (gather before)) ++ found_missing gather (before ++ Told.Missing reason ∷ []) told
found_missing gather before (answer ∷ told) = found_missing gather (before ++ answer ∷ []) told

-- the servers that are named are all of these, up to the gathering's last answer
pub record NamesTheAsked (gather : List Told → Gathering) (told rest : List Told) (missing : List Lost) : Type 0 where
  pub front : List Told
  pub told_is : told ≡ front ++ rest
  pub named : map (λ lost. (lost.server, lost.found)) missing ≡ found_missing gather [] front

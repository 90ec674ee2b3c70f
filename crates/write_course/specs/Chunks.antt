-- A version whose chunks go to their servers, one after another.
use Rattle.std.specs.Prelude.{◌≡◌, ℕ, false, List, [], ◌∷◌, ◌++◌, drop}
use Rattle.clay_grid.specs.Shape.{Shape}
use Rattle.clay_model.specs.Code.{Codes}
use Rattle.store_map.specs.declared.placement.Placement.{Placement}
use Rattle.store_core.specs.Told.{Told}
use Rattle.store_core.specs.Act.{ServerStep}
use Rattle.store_core.specs.Server.{Server, at_server}
use Rattle.version_seal.specs.Entry.{StampOf}

-- its code, its stamp, and what the servers before the next one answered
pub record PlacingOf : Type 0 where
  pub geometry : Shape
  pub stamp : StampOf
  pub row : List Placement

-- no server was asked yet
abbrev pub new_placing : Shape → StampOf → PlacingOf
new_placing g stamp = record { geometry = g; stamp = stamp; row = [] }

-- one server more has answered
abbrev pub with_placement : PlacingOf → Placement → PlacingOf
with_placement placing placement = record placing { row = placing.row ++ placement ∷ [] }

-- the chunks from a server's on, of the codeword of a content
pub record AreChunksFrom (g : Shape) (content : List ℕ) (server : ℕ) (chunks : List (List ℕ)) : Type 0 where
  pub word : List (List ℕ)
  pub codes : Codes g content word
  pub here : chunks ≡ drop server word

-- the placing after the next server, which was so before and is so after, has prepared its chunk
pub record IsAfterPrepare (placing : PlacingOf) (before after : Server) (next : PlacingOf) : Type 0 where
  pub placement : Placement
  pub noted : next ≡ with_placement placing placement
  pub step : (after, Told.Prepared placement) ≡ at_server false (ServerStep.Prepare placing.stamp.version) before

-- A snapshot as callers see it, and the map that it stands for.
use Rattle.std.specs.Prelude.{◌≡◌, ℕ, List, length, map, find, bytes_eq, Option, option_map}
use Rattle.clay_model.specs.Code.{stripes_of}
use Rattle.store_map.specs.PlainMap.{Objects, bytes_of}
use Rattle.store_core.specs.Agreement.{ActorToken}
use Rattle.version_seal.specs.Entry.{BookOf}
use Rattle.call_steps.specs.declared.seen.Seen.{Seen}

-- an object as it stood: its name, how many bytes it had, and its stripes, each with the stamp of its version and with how each server took its chunk
pub record KeptOf : Type 0 where
  pub name : List ℕ
  pub size : ℕ
  pub stripes : List Seen

-- the book of the versions, the number of the looks, the objects in order of creation, and the tickets: for each object the pass that pins its
-- versions, then the seats that no object needed
pub record SnapshotOf : Type 0 where
  pub book : BookOf
  pub number : ℕ
  pub objects : List KeptOf
  pub tokens : List ActorToken

-- the object with a name
abbrev pub find_kept : List ℕ → List KeptOf → Option KeptOf
find_kept name objects = find (λ kept. bytes_eq name kept.name) objects

-- the contents of an object's stripes, and how many bytes it had
abbrev pub stored_kept : KeptOf → List (List ℕ) × ℕ
stored_kept kept = (map (λ seen. seen.stamp.content) kept.stripes, kept.size)

-- the snapshot stands for a map: it has an object under a name exactly where the map has one, the contents of its stripes are the stripes of the
-- bytes that the map has there, and they are as many bytes
abbrev pub StandsFor : SnapshotOf → Objects → Type 0
StandsFor s objects =
    (name : List ℕ) →
    option_map stored_kept (find_kept name s.objects) ≡ option_map (λ bytes. (stripes_of s.book.geometry bytes, length bytes)) (bytes_of name objects)

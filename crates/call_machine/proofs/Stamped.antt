-- The bytes of pinned parts by a directory's stamps are those by the stamps' contents.
use Rattle.std.proofs.Common.{◌≡◌, ℕ, zero, suc, List, [], ◌∷◌, ◌++◌, ◌-◌, map, take, drop, get_or, slice_get, refl}
use Rattle.store_core.specs.Gathering.{Part}
use Rattle.run_laws.specs.ReadLaws.{bytes_read}
use Rattle.version_seal.specs.Entry.{StampOf}
use Rattle.client_read.specs.Owed.{content_of, contents_of}

content_at : (stamps : List StampOf) (v : ℕ) → content_of (slice_get stamps v) ≡ get_or (map (λ (stamp : StampOf). stamp.content) stamps) v []
content_at [] v = refl
content_at (stamp ∷ stamps) zero = refl
content_at (stamp ∷ stamps) (suc v) = content_at stamps v

pub contents_read : (stamps : List StampOf) (parts : List Part) → contents_of stamps parts ≡ bytes_read (map (λ (stamp : StampOf). stamp.content) stamps) parts
contents_read stamps [] = refl
contents_read stamps (part ∷ parts) = λ i. bytes_of part (content_at stamps part.seen.version i) ++ contents_read stamps parts i
  where
    bytes_of : Part → List ℕ → List ℕ
    bytes_of p content = take (p.end - p.start) (drop p.start content)

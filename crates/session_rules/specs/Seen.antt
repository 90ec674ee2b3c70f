-- When directory and servers are seen as a session's state, and what is kept between requests.
use Rattle.std.specs.Prelude.{◌≡◌, ◌⊎◌, ◌≤◌, ℕ, false, List, [], ◌++◌, length, map, get_or, flat_map, bytes_eq, Option, None, Some, All, IsTrue, slice_get}
use Rattle.std.specs.List.{IsDistinct}
use Rattle.clay_grid.specs.Shape.{Shape, chunk_count}
use Rattle.store_map.specs.Laws.{names_of}
use Rattle.store_map.specs.declared.placement.Placement.TheVariants as placement
use Rattle.store_core.specs.Lists.{is_among}
use Rattle.store_core.specs.Note.{Kind}
use Rattle.store_core.specs.Directory.{Object, Standing, Version, Pass}
use Rattle.store_core.specs.Lookups.{first_garbage}
use Rattle.store_core.specs.Look.{placed_of}
use Rattle.store_core.specs.Step.{Places}
use Rattle.store_core.specs.Sound.{IsSound, lengths_of}
use Rattle.run_laws.specs.LengthLaws.{lengths_seen}
use Rattle.session_rules.specs.State.{Stripe, Numbering, Snapshot, State, chunk_at}

-- the version that stands for a stripe's number, by a list of them
abbrev pub version_of : List ℕ → ℕ → ℕ
version_of stands number = get_or stands number 0

-- an object's name and its versions
abbrev pub versions_under : Object → List ℕ × List ℕ
versions_under object = (object.name, object.versions)

-- a name and the versions that stand for its numbers
abbrev pub stood_under : List ℕ → List ℕ × List ℕ → List ℕ × List ℕ
stood_under stands object = (object.0, map (version_of stands) object.1)

-- the numbers of all stripes of some objects
abbrev pub all_numbers : Numbering → List ℕ
all_numbers numbers = flat_map (λ object. object.1) numbers

-- those of the snapshot that is open
abbrev pub snapshot_numbers : Option Snapshot → List ℕ
snapshot_numbers None = []
snapshot_numbers (Some kept) = all_numbers kept.numbers

-- the numbers that requests may still speak of
abbrev pub live_numbers : State → List ℕ
live_numbers s = all_numbers s.numbers ++ snapshot_numbers s.snapshot

-- a version's chunks were placed as the stripe's, and are held where those are
pub record StandsFor (p : Places) (stripe : Stripe) (version : ℕ) : Type 0 where
  pub placed : placed_of (slice_get p.directory.versions version) ≡ map (λ chunk. placement.At chunk.placed) stripe
  pub held : map (λ server. is_among version server.held) p.servers ≡ map (λ chunk. chunk.held) stripe

-- no chunk was placed at an epoch that its server hasn't come to
abbrev pub IsTimely : State → Type 0
IsTimely s = (number server : ℕ) → (chunk_at (get_or s.stripes number []) server).placed ≤ get_or s.epochs server 0

-- the state that callers see: no server is away, each number has its version, which no other has, and each name stands once
pub record IsSeenAs (g : Shape) (max : ℕ) (stands : List ℕ) (p : Places) (s : State) : Type 0 where
  pub shape : p.directory.shape ≡ g
  pub most : p.directory.max ≡ max
  pub sound : IsSound p.directory
  pub servers : length p.servers ≡ chunk_count g
  pub present : All (λ server. server.away ≡ false) p.servers
  pub epochs : map (λ server. server.epoch) p.servers ≡ s.epochs
  pub lengths : lengths_of p.directory ≡ lengths_seen s.objects
  pub versions : map versions_under p.directory.objects ≡ map (stood_under stands) s.numbers
  pub count : length stands ≡ length s.stripes
  pub stripes : (number : ℕ) → IsTrue (is_among number (live_numbers s)) → StandsFor p (get_or s.stripes number []) (version_of stands number)
  pub apart : (n m : ℕ) → IsTrue (is_among n (live_numbers s)) → IsTrue (is_among m (live_numbers s)) → version_of stands n ≡ version_of stands m → n ≡ m
  pub timely : IsTimely s
  pub names : IsDistinct bytes_eq (names_of s.numbers)

-- a pass of a snapshot's look: it pins versions that the snapshot keeps
pub record IsOfSnapshot (kept : List ℕ) (pass : Pass) : Type 0 where
  pub kind : pass.note.kind ≡ Kind.Get
  pub drawn : pass.drawn ≡ []
  pub alive : pass.reaped ≡ None
  pub pins : All (λ pin. IsTrue (is_among pin.version kept)) pass.pinned

-- between requests a version is one of an object, or was replaced, or is swept
abbrev pub IsAtRest : Version → Type 0
IsAtRest version = (version.standing ≡ Standing.Current) ⊎ (version.standing ≡ Standing.Superseded) ⊎ (version.standing ≡ Standing.Swept)

-- between requests: no call is in work but a snapshot's looks, there is no garbage, and servers hold chunks of live versions alone
pub record IsQuiet (stands : List ℕ) (p : Places) (s : State) : Type 0 where
  pub passes : All (IsOfSnapshot (map (version_of stands) (snapshot_numbers s.snapshot))) p.directory.passes
  pub clean : first_garbage p.directory ≡ None
  pub held : All (λ server. All (λ version. IsTrue (is_among version (map (version_of stands) (live_numbers s)))) server.held) p.servers
  pub standing : All IsAtRest p.directory.versions

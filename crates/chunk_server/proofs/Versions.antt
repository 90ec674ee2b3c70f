-- The versions of chunks, after a chunk came, was settled or went.
use Rattle.std.proofs.Common.{◌≡◌, ℕ, ◌<◌, Bool, true, false, cond, ◌||◌, not, nat_eq, nat_lt, List, [], ◌∷◌, Some, is_some, refl, sym, ap, ◌∙◌, arith}
use Rattle.std.proofs.lemmas.Bool.{both_ways, ltb-true, or_parts, ne_eqb, or_from}
use Rattle.store_core.specs.Server as core
use Rattle.store_core.specs.HeldLaws.{AreAbove, IsRising}
use Rattle.chunk_server.specs.State.{Held, versions_of, is_held, chunk_of, hold, settled_at, let_go}
use Rattle.chunk_server.specs.declared.server.Mark.TheVariants.{Settled}

-- ---- the versions
-- a chunk that comes brings its version
pub versions-hold : (chunk : Held) (chunks : List Held) → versions_of (hold chunk chunks) ≡ core.hold chunk.version (versions_of chunks)
versions-hold chunk [] = refl
versions-hold chunk (other ∷ chunks) = by (nat_lt chunk.version other.version) (nat_eq chunk.version other.version) (versions-hold chunk chunks)
  where
    by : (less same : Bool) → versions_of (hold chunk chunks) ≡ core.hold chunk.version (versions_of chunks)
        → versions_of (cond less (chunk ∷ other ∷ chunks) (cond same (other ∷ chunks) (other ∷ hold chunk chunks)))
        ≡ cond less (chunk.version ∷ versions_of (other ∷ chunks)) (cond same (versions_of (other ∷ chunks)) (other.version ∷ core.hold chunk.version (versions_of chunks)))
    by true same rest = refl
    by false true rest = refl
    by false false rest = ap (λ versions. other.version ∷ versions) rest

-- one that goes takes it away
pub versions-let_go : (version : ℕ) (chunks : List Held) → versions_of (let_go version chunks) ≡ core.let_go version (versions_of chunks)
versions-let_go version [] = refl
versions-let_go version (other ∷ chunks) = by (not (nat_eq version other.version)) (versions-let_go version chunks)
  where
    by : (stays : Bool) → versions_of (let_go version chunks) ≡ core.let_go version (versions_of chunks)
        → versions_of (cond stays (other ∷ let_go version chunks) (let_go version chunks))
        ≡ cond stays (other.version ∷ core.let_go version (versions_of chunks)) (core.let_go version (versions_of chunks))
    by true rest = ap (λ versions. other.version ∷ versions) rest
    by false rest = rest

-- one that is settled leaves them
pub versions-settled_at : (version : ℕ) (chunks : List Held) → versions_of (settled_at version chunks) ≡ versions_of chunks
versions-settled_at version [] = refl
versions-settled_at version (other ∷ chunks) = by (nat_eq version other.version) (versions-settled_at version chunks)
  where
    by : (same : Bool) → versions_of (settled_at version chunks) ≡ versions_of chunks
        → (let chunk : Held = cond same (record other { mark = Settled }) other in chunk.version ∷ versions_of (settled_at version chunks))
        ≡ other.version ∷ versions_of chunks
    by true rest = ap (λ versions. other.version ∷ versions) rest
    by false rest = ap (λ versions. other.version ∷ versions) rest

-- a version is held where a chunk is found
pub is_some-chunk_of : (version : ℕ) (chunks : List Held) → is_some (chunk_of version chunks) ≡ is_held version chunks
is_some-chunk_of version [] = refl
is_some-chunk_of version (other ∷ chunks) = by (nat_eq version other.version) (is_some-chunk_of version chunks)
  where
    by : (same : Bool) → is_some (chunk_of version chunks) ≡ is_held version chunks
        → is_some (cond same (Some other) (chunk_of version chunks)) ≡ (same || is_held version chunks)
    by true rest = refl
    by false rest = rest

-- ---- a version that isn't held
-- none is held below all others
pub above_is_absent : (version : ℕ) (chunks : List Held) → AreAbove version (versions_of chunks) → is_held version chunks ≡ false
above_is_absent version [] h = refl
above_is_absent version (other ∷ chunks) h =
    or_from (nat_eq version other.version) (is_held version chunks)
    (ne_eqb version other.version (λ same. omega (arith, same, h.0))) (above_is_absent version chunks h.1)

-- nothing goes
pub let_go-absent : (version : ℕ) (chunks : List Held) → is_held version chunks ≡ false → let_go version chunks ≡ chunks
let_go-absent version [] h = refl
let_go-absent version (other ∷ chunks) h =
    let parts = or_parts (nat_eq version other.version) (is_held version chunks) h in
    ap (λ same. cond (not same) (other ∷ let_go version chunks) (let_go version chunks)) parts.0
    ∙ ap (λ rest. other ∷ rest) (let_go-absent version chunks parts.1)

-- nothing is settled
pub settled_at-absent : (version : ℕ) (chunks : List Held) → is_held version chunks ≡ false → settled_at version chunks ≡ chunks
settled_at-absent version [] h = refl
settled_at-absent version (other ∷ chunks) h =
    let parts = or_parts (nat_eq version other.version) (is_held version chunks) h in
    ap (λ same. cond {A = Held} same (record other { mark = Settled }) other ∷ settled_at version chunks) parts.0
    ∙ ap (λ rest. other ∷ rest) (settled_at-absent version chunks parts.1)

-- ---- a version that is held
-- what is above a number is above a lower one
lower : (least below : ℕ) (versions : List ℕ) → below < least → AreAbove least versions → AreAbove below versions
lower least below [] h above = tt
lower least below (version ∷ versions) h above = (omega (arith, h, above.0), lower least below versions h above.1)

-- its chunk stays where one more comes
pub hold-held : (chunk : Held) (chunks : List Held) → IsRising (versions_of chunks) → is_held chunk.version chunks ≡ true → hold chunk chunks ≡ chunks
hold-held chunk [] rising h = absurd (both_ways false refl h)
hold-held chunk (other ∷ chunks) rising h =
    by (nat_lt chunk.version other.version) (nat_eq chunk.version other.version) refl refl (hold-held chunk chunks rising.1)
  where
    by : (less same : Bool) → nat_lt chunk.version other.version ≡ less → nat_eq chunk.version other.version ≡ same
        → (is_held chunk.version chunks ≡ true → hold chunk chunks ≡ chunks)
        → cond less (chunk ∷ other ∷ chunks) (cond same (other ∷ chunks) (other ∷ hold chunk chunks)) ≡ other ∷ chunks
    by true same less is rest =
        let below : chunk.version < other.version = ltb-true chunk.version other.version less in
        let above : AreAbove chunk.version (versions_of (other ∷ chunks)) = (below, lower other.version chunk.version (versions_of chunks) below rising.0) in
        absurd (both_ways (is_held chunk.version (other ∷ chunks)) (above_is_absent chunk.version (other ∷ chunks) above) h)
    by false true less is rest = refl
    by false false less is rest = ap (λ held. other ∷ held) (rest (sym (ap (λ same. same || is_held chunk.version chunks) is) ∙ h))

-- What versions find after a chunk came, was settled or went.
use Rattle.std.proofs.Common.{◌≡◌, ◌≢◌, ℕ, Bool, true, false, cond, not, nat_eq, nat_lt, List, [], ◌∷◌, None, Some, All, is_some, unwrap_or, true≢false, refl, sym, ap, ◌∙◌, subst}
use Rattle.std.proofs.lemmas.Bool.{cond-true, eqb-true, eq-eqb, ne_eqb, or_parts}
use Rattle.std.proofs.lemmas.List.Elements.{All-head, All-tail}
use Rattle.std.specs.Option.{option_map}
use Rattle.chunk_server.specs.State.{Held, is_held, chunk_of, hold, settled_chunk, settled_at, let_go}
use Rattle.chunk_server.specs.Laws.{AddsOneChunk, SettlesOneChunk, RemovesOneChunk}
use Rattle.chunk_server.proofs.Versions.{hold-held}

-- what is true of all chunks is true of a found one
pub All-chunk_of : (P : Held → Type 0) (version : ℕ) (chunks : List Held) (chunk : Held) → All P chunks → chunk_of version chunks ≡ Some chunk → P chunk
All-chunk_of P version [] chunk h found = absurd (true≢false (sym (ap is_some found)))
All-chunk_of P version (other ∷ chunks) chunk h found =
    by (nat_eq version other.version) found (λ e. All-chunk_of P version chunks chunk (All-tail P other chunks h) e)
  where
    by : (same : Bool) → cond same (Some other) (chunk_of version chunks) ≡ Some chunk → (chunk_of version chunks ≡ Some chunk → P chunk) → P chunk
    by true e rest = subst P (ap (λ r. unwrap_or r other) e) (All-head P other chunks h)
    by false e rest = rest e

-- a chunk is found at its own version
found_first : (chunk : Held) (chunks : List Held) → chunk_of chunk.version (chunk ∷ chunks) ≡ Some chunk
found_first chunk chunks = cond-true (nat_eq chunk.version chunk.version) (Some chunk) (chunk_of chunk.version chunks) (eq-eqb chunk.version chunk.version refl)

-- a chunk that came
added : (chunk : Held) (chunks : List Held) → is_held chunk.version chunks ≡ false → chunk_of chunk.version (hold chunk chunks) ≡ Some chunk
added chunk [] h = found_first chunk []
added chunk (other ∷ chunks) h =
    let parts = or_parts (nat_eq chunk.version other.version) (is_held chunk.version chunks) h in
    by (nat_lt chunk.version other.version) (nat_eq chunk.version other.version) parts.0 parts.0 (added chunk chunks parts.1)
  where
    by : (less same : Bool) → same ≡ false → nat_eq chunk.version other.version ≡ false
        → chunk_of chunk.version (hold chunk chunks) ≡ Some chunk
        → chunk_of chunk.version (cond less (chunk ∷ other ∷ chunks) (cond same (other ∷ chunks) (other ∷ hold chunk chunks))) ≡ Some chunk
    by true same none apart rest = found_first chunk (other ∷ chunks)
    by false true none apart rest = absurd (true≢false none)
    by false false none apart rest = ap (λ same. cond same (Some other) (chunk_of chunk.version (hold chunk chunks))) apart ∙ rest

module _ (other : ℕ) where
  -- a chunk of another version is passed over
  passed : (chunk : Held) (chunks : List Held) → other ≢ chunk.version → chunk_of other (chunk ∷ chunks) ≡ chunk_of other chunks
  passed chunk chunks apart = ap (λ same. cond same (Some chunk) (chunk_of other chunks)) (ne_eqb other chunk.version apart)

  -- the others after a chunk came
  others_added : (chunk : Held) (chunks : List Held) → other ≢ chunk.version → chunk_of other (hold chunk chunks) ≡ chunk_of other chunks
  others_added chunk [] apart = passed chunk [] apart
  others_added chunk (first ∷ chunks) apart =
      by (nat_lt chunk.version first.version) (nat_eq chunk.version first.version) (others_added chunk chunks apart)
    where
      by : (less same : Bool) → chunk_of other (hold chunk chunks) ≡ chunk_of other chunks
          → chunk_of other (cond less (chunk ∷ first ∷ chunks) (cond same (first ∷ chunks) (first ∷ hold chunk chunks))) ≡ chunk_of other (first ∷ chunks)
      by true same rest = passed chunk (first ∷ chunks) apart
      by false true rest = refl
      by false false rest = ap (λ found. cond (nat_eq other first.version) (Some first) found) rest

-- one that was settled
settled : (version : ℕ) (chunks : List Held) → chunk_of version (settled_at version chunks) ≡ option_map settled_chunk (chunk_of version chunks)
settled version [] = refl
settled version (first ∷ chunks) = by (nat_eq version first.version) refl (settled version chunks)
  where
    by : (same : Bool) → nat_eq version first.version ≡ same
        → chunk_of version (settled_at version chunks) ≡ option_map settled_chunk (chunk_of version chunks)
        → chunk_of version (cond {A = Held} same (settled_chunk first) first ∷ settled_at version chunks)
        ≡ option_map settled_chunk (cond same (Some first) (chunk_of version chunks))
    by true is rest = ap (λ same. cond same (Some (settled_chunk first)) (chunk_of version (settled_at version chunks))) is
    by false is rest = ap (λ same. cond same (Some first) (chunk_of version (settled_at version chunks))) is ∙ rest

-- and the others then
others_settled : (version other : ℕ) (chunks : List Held) → other ≢ version → chunk_of other (settled_at version chunks) ≡ chunk_of other chunks
others_settled version other [] apart = refl
others_settled version other (first ∷ chunks) apart =
    by (nat_eq version first.version) refl (others_settled version other chunks apart)
  where
    by : (same : Bool) → nat_eq version first.version ≡ same
        → chunk_of other (settled_at version chunks) ≡ chunk_of other chunks
        → chunk_of other (cond {A = Held} same (settled_chunk first) first ∷ settled_at version chunks) ≡ chunk_of other (first ∷ chunks)
    by true is rest =
        let differs : other ≢ first.version = λ e. apart (e ∙ sym (eqb-true version first.version is)) in
        passed other (settled_chunk first) (settled_at version chunks) differs ∙ rest ∙ sym (passed other first chunks differs)
    by false is rest = ap (λ found. cond (nat_eq other first.version) (Some first) found) rest

-- one that went
gone : (version : ℕ) (chunks : List Held) → chunk_of version (let_go version chunks) ≡ None
gone version [] = refl
gone version (first ∷ chunks) = by (nat_eq version first.version) refl (gone version chunks)
  where
    by : (same : Bool) → nat_eq version first.version ≡ same → chunk_of version (let_go version chunks) ≡ None
        → chunk_of version (cond (not same) (first ∷ let_go version chunks) (let_go version chunks)) ≡ None
    by true is rest = rest
    by false is rest = ap (λ same. cond same (Some first) (chunk_of version (let_go version chunks))) is ∙ rest

-- and the others then
others_gone : (version other : ℕ) (chunks : List Held) → other ≢ version → chunk_of other (let_go version chunks) ≡ chunk_of other chunks
others_gone version other [] apart = refl
others_gone version other (first ∷ chunks) apart =
    by (nat_eq version first.version) refl (others_gone version other chunks apart)
  where
    by : (same : Bool) → nat_eq version first.version ≡ same → chunk_of other (let_go version chunks) ≡ chunk_of other chunks
        → chunk_of other (cond (not same) (first ∷ let_go version chunks) (let_go version chunks)) ≡ chunk_of other (first ∷ chunks)
    by true is rest = rest ∙ sym (passed other first chunks (λ e. apart (e ∙ sym (eqb-true version first.version is))))
    by false is rest = ap (λ found. cond (nat_eq other first.version) (Some first) found) rest

-- ---- the laws
pub adds_one_chunk : (chunk : Held) (chunks : List Held) → AddsOneChunk chunk chunks
adds_one_chunk chunk chunks =
    record { found = added chunk chunks; kept = hold-held chunk chunks; others = λ other apart. others_added other chunk chunks apart }

pub settles_one_chunk : (version : ℕ) (chunks : List Held) → SettlesOneChunk version chunks
settles_one_chunk version chunks =
    record { found = settled version chunks; others = λ other apart. others_settled version other chunks apart }

pub removes_one_chunk : (version : ℕ) (chunks : List Held) → RemovesOneChunk version chunks
removes_one_chunk version chunks =
    record { none = gone version chunks; others = λ other apart. others_gone version other chunks apart }

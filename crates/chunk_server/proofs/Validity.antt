-- What every server keeps is kept.
-- A server over sealed chunks keeps the proofs of one over bytes: the chunk stands where its bytes stood, and validity says of each held
-- chunk that it is the server's own (IsOwn over single fields, so that no step owes it anew).
use Rattle.std.proofs.Common.{◌≡◌, ℕ, false, cond, nat_eq, nat_lt, not, List, [], ◌∷◌, All, refl, sym, subst}
use Rattle.std.proofs.lemmas.Bool.{cond_both}
use Rattle.std.proofs.lemmas.List.Elements.{All-nil, All-cons, All-head, All-tail, All-filter}
use Rattle.clay_grid.specs.Shape.{Shape}
use Rattle.store_core.specs.Act.{ServerStep}
use Rattle.store_core.specs.HeldLaws.{IsRising}
use Rattle.store_core.proofs.Held.{holds_in_order}
use Rattle.chunk_server.specs.State.{Held, ServerState, hold, settled_at}
use Rattle.chunk_server.specs.Valid.{MayCome, IsOwn, IsValid}
use Rattle.version_seal.specs.Sealed.{ChunkOf, IsSealed}
use Rattle.chunk_server.specs.Steps.{after_adding, after_settle, after_discard, after_wipe}
use Rattle.chunk_server.specs.Core.{core_of}
use Rattle.chunk_server.specs.declared.server.Mark.{Mark}
use Rattle.chunk_server.specs.declared.server.Mark.TheVariants.{Settled}
use Rattle.chunk_server.proofs.Versions.{versions-hold, versions-let_go, versions-settled_at}

-- what is true of a chunk that comes and of those that are there
All-hold : (P : Held → Type 0) (chunk : Held) (chunks : List Held) → P chunk → All P chunks → All P (hold chunk chunks)
All-hold P chunk [] p h = All-cons P chunk [] p h
All-hold P chunk (other ∷ chunks) p h =
    cond_both {A = List Held} (nat_lt chunk.version other.version) (chunk ∷ other ∷ chunks) (cond (nat_eq chunk.version other.version) (other ∷ chunks) (other ∷ hold chunk chunks)) (All P)
    (λ _. All-cons P chunk (other ∷ chunks) p h)
    (λ _. cond_both {A = List Held} (nat_eq chunk.version other.version) (other ∷ chunks) (other ∷ hold chunk chunks) (All P)
    (λ _. h)
    (λ _. All-cons P other (hold chunk chunks) (All-head P other chunks h) (All-hold P chunk chunks p (All-tail P other chunks h))))

-- a chunk that is settled stays itself
All-settled_at : (home : List ℕ) (number : ℕ) (g : Shape) (version : ℕ) (chunks : List Held) → All (IsOwn home number g) chunks → All (IsOwn home number g) (settled_at version chunks)
All-settled_at home number g version [] h = h
All-settled_at home number g version (other ∷ chunks) h =
    let P : Held → Type 0 = IsOwn home number g in
    let kept : P other = All-head P other chunks h in
    All-cons P (cond {A = Held} (nat_eq version other.version) (record other { mark = Settled }) other) (settled_at version chunks)
    (cond_both {A = Held} (nat_eq version other.version) (record other { mark = Settled }) other P (λ _. record { here = kept.here; version = kept.version; sealed = kept.sealed }) (λ _. kept))
    (All-settled_at home number g version chunks (All-tail P other chunks h))

-- equal lists of versions rise both
rises : (versions after : List ℕ) → after ≡ versions → IsRising versions → IsRising after
rises versions after same h = subst IsRising (sym same) h

-- the same chunks are as valid
pub valid-same : (s : ServerState) (chunks after : List Held) → after ≡ chunks → IsValid (record s { held = chunks }) → IsValid (record s { held = after })
valid-same s chunks after same valid = subst (λ (held : List Held). IsValid (record s { held = held })) (sym same) valid

module _ (s : ServerState) (valid : IsValid s) where
  -- after a sealed chunk came
  pub valid-adding : (mark : Mark) (chunk : ChunkOf) → MayCome s chunk → IsSealed chunk → IsValid (after_adding mark chunk s)
  valid-adding mark chunk here sealed =
      record {
        rising = rises _ _ (versions-hold (record { version = chunk.stamp.version; mark = mark; chunk = chunk }) s.held) (holds_in_order.rising false (ServerStep.Prepare chunk.stamp.version) (record (core_of s) { away = false }) valid.rising);
        own = All-hold (IsOwn s.book.home s.number s.book.geometry) (record { version = chunk.stamp.version; mark = mark; chunk = chunk }) s.held (record { here = here; version = refl; sealed = sealed }) valid.own;
      }

  -- after one was settled
  pub valid-settle : (version : ℕ) → IsValid (after_settle version s)
  valid-settle version =
      record {
        rising = rises _ _ (versions-settled_at version s.held) valid.rising;
        own = All-settled_at s.book.home s.number s.book.geometry version s.held valid.own;
      }

  -- after one went
  pub valid-discard : (version : ℕ) → IsValid (after_discard version s)
  valid-discard version =
      record {
        rising = rises _ _ (versions-let_go version s.held) (holds_in_order.rising false (ServerStep.Discard version) (core_of s) valid.rising);
        own = All-filter (λ (chunk : Held). not (nat_eq version chunk.version)) (IsOwn s.book.home s.number s.book.geometry) s.held valid.own;
      }

  -- after all went
  pub valid-wipe : IsValid (after_wipe s)
  valid-wipe = record { rising = tt; own = All-nil (IsOwn s.book.home s.number s.book.geometry) }

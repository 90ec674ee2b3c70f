-- What a map's words do to its entries, as the words on chunks say it.
use Rattle.std.proofs.Common.{◌≡◌, ℕ, zero, suc, ◌≤◌, ◌↔◌, length, map, slice_get, arith, Bool, true, false, cond, ◌||◌, not, nat_eq, nat_lt, List, [], ◌∷◌, Option, None, Some, is_some, refl, sym, ap, ◌∙◌, true≢false, unwrap_or}
use Rattle.std.proofs.lemmas.Bool.{eqb-true}
use Rattle.std.specs.Option.{option_map}
use Rattle.std.specs.Ordering.{is_eq, nat_cmp, match_ordering}
use Rattle.std.specs.declared.cmp.Ordering.{Ordering}
use Rattle.std.specs.declared.cmp.Ordering.TheVariants.{Less, Equal, Greater}
use Rattle.std.specs.Cmp.{unsigned_ties}
use Rattle.std.specs.Map.{values_of, lookup, set_value, remove_entry}
use Rattle.std.specs.BTreeMap.{insert_entry, is_at}
use Rattle.store_core.specs.HeldLaws.{IsRising}
use Rattle.store_map.specs.declared.actor.Version.{Version}
use Rattle.chunk_server.specs.State.{Held, versions_of, is_held, chunk_of, hold, settled_at, let_go}
use Rattle.chunk_server.specs.Chunks.{chunk_in, chunks_in}
use Rattle.chunk_server.specs.declared.server.HeldChunk.{HeldChunk}
use Rattle.chunk_server.specs.declared.server.Mark.TheVariants.{Settled}
use Rattle.chunk_server.proofs.Versions.{above_is_absent, let_go-absent, settled_at-absent}

-- the order of versions
abbrev pub by_number : Version → Version → Ordering
by_number v w = nat_cmp v.0 w.0

-- a value is found or not
none_is_some : {A : Type 0} {x : A} → Some x ≡ None → ⊥
none_is_some e = true≢false (ap is_some e)

-- two that are found are one
same_some : {A : Type 0} {x y : A} → Some x ≡ Some y → x ≡ y
same_some {A} {x} e = ap (λ r. unwrap_or r x) e

-- where no value is, there is none
pub none_from_is_some : {A : Type 0} {r : Option A} → is_some r ≡ false → r ≡ None
none_from_is_some {r = None} e = refl
none_from_is_some {r = Some x} e = absurd (true≢false e)

module _ (v : Version) where
  -- a look-up tells whether the version is held
  pub is_held-lookup : (es : List (Version × HeldChunk)) → is_some (lookup (is_at (by_number v)) es) ≡ is_held v.0 (chunks_in es)
  is_held-lookup [] = refl
  is_held-lookup (e ∷ es) =
      ap (λ same. is_some (cond same (Some e.1) (lookup (is_at (by_number v)) es))) (sym (unsigned_ties v.0 e.0.0))
      ∙ by (nat_eq v.0 e.0.0) (is_held-lookup es)
    where
      by : (same : Bool) → is_some (lookup (is_at (by_number v)) es) ≡ is_held v.0 (chunks_in es)
          → is_some (cond same (Some e.1) (lookup (is_at (by_number v)) es)) ≡ (same || is_held v.0 (chunks_in es))
      by true rest = refl
      by false rest = rest

  -- and finds its chunk
  pub chunk_of-lookup : (es : List (Version × HeldChunk)) → chunk_of v.0 (chunks_in es) ≡ option_map (λ held. chunk_in (v, held)) (lookup (is_at (by_number v)) es)
  chunk_of-lookup [] = refl
  chunk_of-lookup (e ∷ es) =
      by (nat_eq v.0 e.0.0) refl (chunk_of-lookup es)
      ∙ ap (λ same. option_map (λ held. chunk_in (v, held)) (cond same (Some e.1) (lookup (is_at (by_number v)) es))) (unsigned_ties v.0 e.0.0)
    where
      by : (same : Bool) → nat_eq v.0 e.0.0 ≡ same
          → chunk_of v.0 (chunks_in es) ≡ option_map (λ held. chunk_in (v, held)) (lookup (is_at (by_number v)) es)
          → cond same (Some (chunk_in e)) (chunk_of v.0 (chunks_in es)) ≡ option_map (λ held. chunk_in (v, held)) (cond same (Some e.1) (lookup (is_at (by_number v)) es))
      by true is rest = ap (λ n. Some (record { version = n; mark = e.1.mark; chunk = e.1.chunk })) (sym (eqb-true v.0 e.0.0 is))
      by false is rest = rest

  -- the entry of a new key is a chunk more
  pub chunks_in-insert_entry : (new : HeldChunk) (es : List (Version × HeldChunk)) → lookup (is_at (by_number v)) es ≡ None
      → chunks_in (insert_entry by_number es v new) ≡ hold (chunk_in (v, new)) (chunks_in es)
  chunks_in-insert_entry new [] h = refl
  chunks_in-insert_entry new (e ∷ es) h = by (nat_lt v.0 e.0.0) (nat_eq v.0 e.0.0) h (chunks_in-insert_entry new es)
    where
      by : (less same : Bool) → cond (is_eq (cond less Less (cond same Equal Greater))) (Some e.1) (lookup (is_at (by_number v)) es) ≡ None
          → (lookup (is_at (by_number v)) es ≡ None → chunks_in (insert_entry by_number es v new) ≡ hold (chunk_in (v, new)) (chunks_in es))
          → chunks_in (match_ordering (cond less Less (cond same Equal Greater)) ((v, new) ∷ e ∷ es) ((e.0, new) ∷ es) (e ∷ insert_entry by_number es v new))
          ≡ cond less (chunk_in (v, new) ∷ chunks_in (e ∷ es)) (cond same (chunks_in (e ∷ es)) (chunk_in e ∷ hold (chunk_in (v, new)) (chunks_in es)))
      by true same none rest = refl
      by false true none rest = absurd (none_is_some none)
      by false false none rest = ap (λ chunks. chunk_in e ∷ chunks) (rest none)

  -- without a key's entry its version is held no more
  pub chunks_in-remove_entry : (es : List (Version × HeldChunk)) → IsRising (versions_of (chunks_in es))
      → chunks_in (remove_entry (is_at (by_number v)) es) ≡ let_go v.0 (chunks_in es)
  chunks_in-remove_entry [] h = refl
  chunks_in-remove_entry (e ∷ es) h =
      ap (λ same. chunks_in (cond same es (e ∷ remove_entry (is_at (by_number v)) es))) (sym (unsigned_ties v.0 e.0.0))
      ∙ by (nat_eq v.0 e.0.0) refl (chunks_in-remove_entry es h.1)
    where
      by : (same : Bool) → nat_eq v.0 e.0.0 ≡ same
          → chunks_in (remove_entry (is_at (by_number v)) es) ≡ let_go v.0 (chunks_in es)
          → chunks_in (cond same es (e ∷ remove_entry (is_at (by_number v)) es))
          ≡ cond (not same) (chunk_in e ∷ let_go v.0 (chunks_in es)) (let_go v.0 (chunks_in es))
      by true is rest =
          let gone : let_go e.0.0 (chunks_in es) ≡ chunks_in es = let_go-absent e.0.0 (chunks_in es) (above_is_absent e.0.0 (chunks_in es) h.0) in
          sym (ap (λ n. let_go n (chunks_in es)) (eqb-true v.0 e.0.0 is) ∙ gone)
      by false is rest = ap (λ chunks. chunk_in e ∷ chunks) rest

  -- a found chunk that is marked as settled
  pub chunks_in-set_value : (old : HeldChunk) (es : List (Version × HeldChunk)) → IsRising (versions_of (chunks_in es)) → lookup (is_at (by_number v)) es ≡ Some old
      → chunks_in (set_value (is_at (by_number v)) es (record old { mark = Settled })) ≡ settled_at v.0 (chunks_in es)
  chunks_in-set_value old [] h found = absurd (none_is_some (sym found))
  chunks_in-set_value old (e ∷ es) h found =
      ap (λ same. chunks_in (cond same ((e.0, record old { mark = Settled }) ∷ es) (e ∷ set_value (is_at (by_number v)) es (record old { mark = Settled })))) (sym (unsigned_ties v.0 e.0.0))
      ∙ by (nat_eq v.0 e.0.0) refl (ap (λ same. cond same (Some e.1) (lookup (is_at (by_number v)) es)) (unsigned_ties v.0 e.0.0) ∙ found) (chunks_in-set_value old es h.1)
    where
      by : (same : Bool) → nat_eq v.0 e.0.0 ≡ same → cond same (Some e.1) (lookup (is_at (by_number v)) es) ≡ Some old
          → (lookup (is_at (by_number v)) es ≡ Some old → chunks_in (set_value (is_at (by_number v)) es (record old { mark = Settled })) ≡ settled_at v.0 (chunks_in es))
          → chunks_in (cond same ((e.0, record old { mark = Settled }) ∷ es) (e ∷ set_value (is_at (by_number v)) es (record old { mark = Settled })))
          ≡ cond {A = Held} same (record (chunk_in e) { mark = Settled }) (chunk_in e) ∷ settled_at v.0 (chunks_in es)
      by true is at rest =
          let others : settled_at v.0 (chunks_in es) ≡ chunks_in es =
          ap (λ n. settled_at n (chunks_in es)) (eqb-true v.0 e.0.0 is)
          ∙ settled_at-absent e.0.0 (chunks_in es) (above_is_absent e.0.0 (chunks_in es) h.0)
          in
          let first : old ≡ e.1 = sym (same_some at) in
          λ i. record { version = e.0.0; mark = Settled; chunk = (first i).chunk } ∷ sym others i
      by false is at rest = ap (λ chunks. chunk_in e ∷ chunks) (rest at)

-- the stamp at a place among the chunks is that of the value there
pub stamp_at-values : (es : List (Version × HeldChunk)) (index : ℕ)
    → option_map (λ (held : Held). held.chunk.stamp) (slice_get (chunks_in es) index) ≡ option_map (λ (held : HeldChunk). held.chunk.stamp) (slice_get (values_of es) index)
stamp_at-values [] index = refl
stamp_at-values (e ∷ es) zero = refl
stamp_at-values (e ∷ es) (suc index) = stamp_at-values es index

-- so all of them
pub stamps-values : (es : List (Version × HeldChunk))
    → map (λ (held : Held). held.chunk.stamp) (chunks_in es) ≡ map (λ (held : HeldChunk). held.chunk.stamp) (values_of es)
stamps-values [] = refl
stamps-values (e ∷ es) = ap (λ stamps. e.1.chunk.stamp ∷ stamps) (stamps-values es)

-- there is one exactly below their number
pub no_stamp : (chunks : List Held) (index : ℕ) → (is_some (option_map (λ (held : Held). held.chunk.stamp) (slice_get chunks index)) ≡ false) ↔ (length chunks ≤ index)
no_stamp [] index = (λ _. omega arith, λ _. refl)
no_stamp (chunk ∷ chunks) zero = (λ e. absurd (true≢false e), λ h. absurd (omega (arith, h)))
no_stamp (chunk ∷ chunks) (suc index) = let rest = no_stamp chunks index in (λ e. let h = rest.0 e in omega (arith, h), λ h. rest.1 (omega (arith, h)))

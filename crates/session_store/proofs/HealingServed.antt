-- A heal is served.
use Rattle.std.proofs.Common.{◌≡◌, ◌+◌, ◌-◌, ◌<◌, ◌^◌, List, [], ◌∷◌, length, map, nat_le, All, if◌then◌else◌, refl, sym, ap, subst, ◌∙◌, inl, inr, arith}
use Rattle.std.specs.List.{AllByRecursion}
use Rattle.std.proofs.lemmas.Bool.{lt-leb}
use Rattle.std.proofs.lemmas.List.Elements.{All-nil, All-cons}
use Rattle.clay_grid.specs.Shape.{chunk_count}
use Rattle.store_map.specs.declared.call.Rebuild.{Rebuild as RebuildCall}
use Rattle.session_rules.specs.State.{State}
use Rattle.session_rules.specs.Heals.{lost_chunks, to_heal, heal_all}
use Rattle.session_rules.specs.declared.session_answer.Answer.{Answer}
use Rattle.session_rules.specs.declared.session_answer.LostChunk.{LostChunk}
use Rattle.session_rules.specs.declared.request.Request.{Request}
use Rattle.session_rules.specs.AloneHeals.{rebuild_of}
use Rattle.session_rules.specs.Scrubs.{lost_at}
use Rattle.session_rules.proofs.LostChunks.{IsLost, lost_all}
use Rattle.session_rules.proofs.Pairs.{every_weaker, every_filter, every_map}
use Rattle.session_rules.proofs.Scrubs.{scrubs_are_seen}
use Rattle.session_store.specs.declared.session_parts.Parts.{Parts}
use Rattle.session_store.specs.Inside.{store_of}
use Rattle.session_store.specs.Kept.{IsStore, ServesRequest}
use Rattle.session_store.specs.Standing.{StandsAt}
use Rattle.session_store.specs.Stored.{StoreOf, places_in}
use Rattle.session_store.specs.LostStripes.{beside, healable, StandTogether}
use Rattle.session_store.specs.Healing.{MayHeal, AreOfServers}
use Rattle.session_store.proofs.StandingTogether.{all_together}
use Rattle.session_store.proofs.Scrubbing.{one_more, left_served}

all_of : {X : Type 0} (P : X → Type 0) (xs : List X) → AllByRecursion P xs → All P xs
all_of P [] all = All-nil P
all_of P (x ∷ xs) all = All-cons P x xs all.0 (all_of P xs all.1)

-- ---- nothing was made anew
module _ (old : StoreOf) (is : IsStore old) (lost : List LostChunk) (are : lost ≡ lost_at (places_in old)) where
  pub lost_of_state : (s : State) → StandsAt old s → lost ≡ lost_chunks old.geometry s
  lost_of_state s at = are ∙ sym (scrubs_are_seen old.geometry old.max at.stands (places_in old) s at.between.seen)

  -- the healer's numbers don't last
  pub heal_refused : 2 ^ 32 - 1 < old.kept.next + length lost → ServesRequest Request.Heal old Answer.BadRequest (one_more old)
  heal_refused many = left_served old is Request.Heal Answer.BadRequest (λ s at. inl (sym (refused s at)))
    where
      refused : (s : State) (at : StandsAt old s) →
          (let r : State × Answer = if nat_le (s.next + length (lost_chunks old.geometry s)) (2 ^ 32 - 1) then (record ((heal_all old.geometry (to_heal old.geometry s) s).0) { next = s.next + length (to_heal old.geometry s) }, Answer.Healed (length (to_heal old.geometry s)) (heal_all old.geometry (to_heal old.geometry s) s).1) else (s, Answer.BadRequest) in r) ≡ (s, Answer.BadRequest)
      refused s at =
          let next : s.next ≡ old.kept.next = at.next in
          let count : length lost ≡ length (lost_chunks old.geometry s) = ap (λ (l : List LostChunk). length l) (lost_of_state s at) in
          ap (λ b. let r : State × Answer = if b then (record ((heal_all old.geometry (to_heal old.geometry s) s).0) { next = s.next + length (to_heal old.geometry s) }, Answer.Healed (length (to_heal old.geometry s)) (heal_all old.geometry (to_heal old.geometry s) s).1) else (s, Answer.BadRequest) in r)
          (lt-leb (s.next + length (lost_chunks old.geometry s)) (2 ^ 32 - 1) (omega (arith, many, next, count)))

-- memory was wanting before the first
pub heal_wanting : (old : StoreOf) → IsStore old → ServesRequest Request.Heal old Answer.NoMemory (one_more old)
heal_wanting old is =
    left_served old is Request.Heal Answer.NoMemory
    (λ s at. inr (
      refl,
      record {
        made = 0;
        few = inl refl;
        state = refl;
        used = (omega arith, omega arith, omega arith);
        lasts = λ later. absurd (omega (arith, later));
      },
    ))

-- ---- the healer may begin
module _ (parts : Parts) (is : IsStore (store_of parts)) where
  pub may_heal : MayHeal (record parts { served = parts.served + 1 })
  may_heal = record {
    code = is.code;
    places = record { free = is.free.1; book = is.book; servers = is.servers };
    healer = is.healer;
    calls = is.stands.calls;
    holds = record { bytes = is.stands.between.its_map.bytes; drawn = is.stands.between.its_map.drawn; contents = is.stands.contents };
  }

  pub of_servers : (lost : List LostChunk) → lost ≡ lost_at (places_in (store_of parts)) → AreOfServers (record parts { served = parts.served + 1 }) (map rebuild_of (healable parts.places.book.geometry.parity_count lost))
  of_servers lost are =
      all_of (λ (x : RebuildCall). x.server < chunk_count parts.places.book.geometry) (map rebuild_of (healable parts.places.book.geometry.parity_count lost))
      (every_map (λ (x : RebuildCall). x.server < chunk_count parts.places.book.geometry) rebuild_of (healable parts.places.book.geometry.parity_count lost)
      (every_filter (λ (x : LostChunk). x.server < chunk_count parts.places.book.geometry) (λ chunk. nat_le (beside lost chunk) parts.places.book.geometry.parity_count) lost
      (subst (λ l. AllByRecursion (λ (x : LostChunk). x.server < chunk_count parts.places.book.geometry) l) (sym (lost_of_state (store_of parts) is lost are is.state is.stands))
      (every_weaker (IsLost parts.places.book.geometry is.state is.stands.between.seen.names) (λ (x : LostChunk). x.server < chunk_count parts.places.book.geometry) (λ x lost. lost.server) (lost_chunks parts.places.book.geometry is.state)
      (lost_all parts.places.book.geometry is.state is.stands.between.seen.names)))))

  pub of_one_stripe : (lost : List LostChunk) → lost ≡ lost_at (places_in (store_of parts)) → StandTogether lost
  of_one_stripe lost are = subst StandTogether (sym (lost_of_state (store_of parts) is lost are is.state is.stands)) (all_together parts.places.book.geometry is.state is.stands.between.seen.names)

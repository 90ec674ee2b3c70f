-- A world's actors at the end of a run, as the transcript's lists see their calls.
use Rattle.std.proofs.Common.{◌≡◌, ℕ, zero, suc, ◌^◌, ◌<◌, ◌≤◌, List, [], ◌∷◌, length, map, slice_get, Some, All, refl, sym, ap, subst, ◌∙◌, arith}
use Rattle.std.proofs.lemmas.List.{length-map}
use Rattle.std.proofs.lemmas.List.Elements.{All-nil, All-cons}
use Rattle.std.proofs.lemmas.Option.{same_Some}
use Rattle.clay_grid.specs.Shape.{chunk_count}
use Rattle.store_map.specs.Limits.{size_of}
use Rattle.store_core.specs.History.{call_of}
use Rattle.store_core.specs.Work.{Ended, Calling}
use Rattle.call_steps.specs.CallerCalls.{ended_of, calling_at, counts_of, HaveNames}
use Rattle.world_laws.specs.Served.{ServedAre}
use Rattle.world_laws.specs.HeldCore.{Holds}
use Rattle.call_steps.specs.declared.caller_calls.CallerCalls.{CallerCalls}
use Rattle.world_laws.specs.World.{DoingOf}
use Rattle.world_laws.specs.Known.{calling_by, calling_of, core_of}
use Rattle.actors.specs.Callers.{CallerOf}
use Rattle.store_world.specs.ServeLaws.{HasCalls}
use Rattle.store_world.proofs.Serving.{served_is_owed}
use Rattle.store_world.proofs.WorldPins.{worlds_serve_at_pins}
use Rattle.store_world.specs.Ending.{IsCallsOf, AreCallsOf}
use Rattle.store_world.specs.Stored.{StoredWorld, world_of}
use Rattle.store_world.specs.Kept.{IsWorld}
use Rattle.store_world.proofs.Few.{few_client_calls, few_rebuilds}
use Rattle.store_world.proofs.Having.{clients_of_code, repairers_of_code}

-- ---- lists
-- two lists mapped to the same entries
joined : {X Y Z W : Type 0} (f : X → Y) (h : Y → Z) (g : W → Z) (xs : List X) (ws : List W) → length ws ≡ length xs
    → ((i : ℕ) (x : X) (w : W) → slice_get xs i ≡ Some x → slice_get ws i ≡ Some w → h (f x) ≡ g w) → map h (map f xs) ≡ map g ws
joined f h g [] [] count each = refl
joined f h g [] (w ∷ ws) count each = absurd (omega (arith, count))
joined f h g (x ∷ xs) [] count each = absurd (omega (arith, count))
joined f h g (x ∷ xs) (w ∷ ws) count each = λ k. each zero x w refl refl k ∷ joined f h g xs ws (omega (arith, count)) (λ i y v there is. each (suc i) y v there is) k

every : {X Y : Type 0} (P : Y → Type 0) (f : X → Y) (xs : List X) → ((i : ℕ) (x : X) → slice_get xs i ≡ Some x → P (f x)) → All P (map f xs)
every P f [] each = All-nil P
every P f (x ∷ xs) each = All-cons P (f x) (map f xs) (each zero x refl) (every P f xs (λ i y e. each (suc i) y e))

ended_by : (servers : ℕ) (ended : List Ended) (doing : DoingOf) → (calling_by servers ended doing).ended ≡ ended
ended_by servers ended (DoingOf.Between token) = refl
ended_by servers ended (DoingOf.InCall call steps) = refl

module _ (s : StoredWorld) (is : IsWorld s) (calls : List CallerCalls) (of : AreCallsOf s.clients calls) (rebuilds : List CallerCalls) (made : AreCallsOf s.repairers rebuilds) where
  abbrev width : ℕ
  width = chunk_count s.script.geometry

  client_is : (i : ℕ) (c : CallerOf) (x : CallerCalls) → slice_get s.clients i ≡ Some c → slice_get calls i ≡ Some x → calling_of s.script c.actor ≡ calling_at width x
  client_is i c x there e =
      let one : IsCallsOf s.clients i x = of.each i x e in
      let same : one.caller ≡ c = same_Some one.caller c (sym one.there ∙ there) in
      let code : c.book.geometry ≡ s.script.geometry = clients_of_code s is i c there in
      let its : calling_at (chunk_count c.book.geometry) x ≡ calling_by (chunk_count c.book.geometry) c.actor.ended c.actor.doing =
      subst (λ (b : CallerOf). calling_at (chunk_count b.book.geometry) x ≡ calling_by (chunk_count b.book.geometry) b.actor.ended b.actor.doing) same one.same in
      sym (subst (λ (g : _). calling_at (chunk_count g) x ≡ calling_by (chunk_count g) c.actor.ended c.actor.doing) code its)

  repairer_is : (i : ℕ) (c : CallerOf) (x : CallerCalls) → slice_get s.repairers i ≡ Some c → slice_get rebuilds i ≡ Some x → calling_of s.script c.actor ≡ calling_at width x
  repairer_is i c x there e =
      let one : IsCallsOf s.repairers i x = made.each i x e in
      let same : one.caller ≡ c = same_Some one.caller c (sym one.there ∙ there) in
      let code : c.book.geometry ≡ s.script.geometry = repairers_of_code s is i c there in
      let its : calling_at (chunk_count c.book.geometry) x ≡ calling_by (chunk_count c.book.geometry) c.actor.ended c.actor.doing =
      subst (λ (b : CallerOf). calling_at (chunk_count b.book.geometry) x ≡ calling_by (chunk_count b.book.geometry) b.actor.ended b.actor.doing) same one.same in
      sym (subst (λ (g : _). calling_at (chunk_count g) x ≡ calling_by (chunk_count g) c.actor.ended c.actor.doing) code its)

  pub are_held : Holds (core_of s.script (world_of s)) s.directory.core s.servers calls rebuilds
  are_held =
      record {
        width = width;
        directory = refl;
        servers_are = refl;
        clients_are = joined (λ (c : CallerOf). c.actor) (calling_of s.script) (calling_at width) s.clients calls of.count client_is;
        repairers_are = joined (λ (c : CallerOf). c.actor) (calling_of s.script) (calling_at width) s.repairers rebuilds made.count repairer_is;
      }

  -- ---- how the calls ended, and what they were served
  client_ends : (i : ℕ) (x : CallerCalls) (e : slice_get calls i ≡ Some x) → (of.each i x e).caller.actor.ended ≡ map (ended_of width) x.ended.items
  client_ends i x e =
      let one : IsCallsOf s.clients i x = of.each i x e in
      sym (ended_by width one.caller.actor.ended one.caller.actor.doing) ∙ ap (λ (c : Calling). c.ended) (client_is i one.caller x one.there e)

  repairer_ends : (i : ℕ) (x : CallerCalls) (e : slice_get rebuilds i ≡ Some x) → (made.each i x e).caller.actor.ended ≡ map (ended_of width) x.ended.items
  repairer_ends i x e =
      let one : IsCallsOf s.repairers i x = made.each i x e in
      sym (ended_by width one.caller.actor.ended one.caller.actor.doing) ∙ ap (λ (c : Calling). c.ended) (repairer_is i one.caller x one.there e)

  has_calls : (i : ℕ) (x : CallerCalls) → slice_get calls i ≡ Some x → (a : CallerOf) × (slice_get s.clients i ≡ Some a) × HasCalls width x a
  has_calls i x e =
      let one : IsCallsOf s.clients i x = of.each i x e in
      (one.caller, one.there, record { ended = client_ends i x e; served = sym one.served })

  pub are_served : ServedAre (size_of s.script) (call_of s.script) s.directory.core.points calls
  are_served =
      record {
        pins = worlds_serve_at_pins s.script (world_of s) is.geometry is.valid is.reached s.directory.core s.servers calls rebuilds are_held;
        owed = served_is_owed s.script s.directory.core.points width s.clients calls (λ i a there. (is.clients.each i a there).serves) has_calls;
      }

  -- ---- names
  pub clients_have_names : HaveNames (counts_of calls)
  clients_have_names =
      record {
        actors =
            (let one : length (counts_of calls) ≡ length calls = length-map calls (λ (x : CallerCalls). length x.ended.items) in
            let two : length calls ≡ length s.clients = of.count in
            let three : length s.clients ≡ length s.script.clients = is.clients.count in
            let four : length s.script.clients ≤ 64 = is.valid.limits.clients in
            omega (arith, one, two, three, four));
        calls = every (λ (n : ℕ). n < 2 ^ 32) (λ (x : CallerCalls). length x.ended.items) calls (λ i x e.
            let one : IsCallsOf s.clients i x = of.each i x e in
            let same : length one.caller.actor.ended ≡ length x.ended.items = ap (λ (l : List Ended). length l) (client_ends i x e) ∙ length-map x.ended.items (ended_of width) in
            let few : length one.caller.actor.ended ≤ 4096 = few_client_calls s is i one.caller one.there in
            omega (arith, same, few));
      }

  pub repairers_have_names : HaveNames (counts_of rebuilds)
  repairers_have_names =
      record {
        actors =
            (let one : length (counts_of rebuilds) ≡ length rebuilds = length-map rebuilds (λ (x : CallerCalls). length x.ended.items) in
            let two : length rebuilds ≡ length s.repairers = made.count in
            let three : length s.repairers ≡ length s.script.repairers = is.repairers.count in
            let four : length s.script.repairers ≤ 16 = is.valid.limits.repairers in
            omega (arith, one, two, three, four));
        calls = every (λ (n : ℕ). n < 2 ^ 32) (λ (x : CallerCalls). length x.ended.items) rebuilds (λ i x e.
            let one : IsCallsOf s.repairers i x = made.each i x e in
            let same : length one.caller.actor.ended ≡ length x.ended.items = ap (λ (l : List Ended). length l) (repairer_ends i x e) ∙ length-map x.ended.items (ended_of width) in
            let few : length one.caller.actor.ended ≤ 4096 = few_rebuilds s is i one.caller one.there in
            omega (arith, same, few));
      }

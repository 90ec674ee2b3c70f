-- What a valid script says of the calls of a client or a repairer.
use Rattle.std.proofs.Common.{◌≡◌, ℕ, ◌<◌, ◌≤◌, ◌^◌, All, List, length, slice_get, Option, None, Some, IfSome, unwrap_or, sym, subst, arith}
use Rattle.std.proofs.lemmas.List.Elements.{All-get_or}
use Rattle.std.proofs.lemmas.Option.{get_or_from_slice_get, slice_get_within}
use Rattle.clay_grid.specs.Shape.{chunk_count}
use Rattle.store_map.specs.Limits.{tries_of}
use Rattle.store_map.specs.Naming.{IsValid}
use Rattle.store_map.specs.declared.script.ClientPart.{ClientPart}
use Rattle.store_map.specs.declared.script.RepairPart.{RepairPart}
use Rattle.store_map.specs.declared.script.Script.{Script}
use Rattle.version_seal.specs.Entry.{BookOf}
use Rattle.actors.specs.Callers.{PartOf, StandsIn, calls_of}
use Rattle.actors.specs.Inside.{AreOfServers}

-- what holds of all holds of the one at a place
pub all_at : {X : Type 0} (P : X → Type 0) (xs : List X) (i : ℕ) (x : X) → All P xs → slice_get xs i ≡ Some x → P x
all_at P xs i x all there = subst P (get_or_from_slice_get xs i x x there) (All-get_or P xs i x (slice_get_within xs i x there) all)

module _ (script : Script) (valid : IsValid script) where
  pub few_calls : (place : ℕ) (part : PartOf) → StandsIn script place part → calls_of part < 2 ^ 32
  few_calls place (PartOf.OfClient part) its =
      let few : length part.calls ≤ 4096 = all_at (λ (p : ClientPart). length p.calls ≤ 4096) script.clients place part valid.limits.client_calls its in
      omega (arith, few)
  few_calls place (PartOf.OfRepairer part) its =
      let few : length part.calls ≤ 4096 = all_at (λ (p : RepairPart). length p.calls ≤ 4096) script.repairers place part valid.limits.repairer_calls its in
      omega (arith, few)

  pub some_tries : 0 < tries_of script
  some_tries = by script.tries valid.limits.tries
    where
      by : (tries : Option ℕ) → IfSome tries (λ n. (1 ≤ n) × (n ≤ 8)) → 0 < unwrap_or tries 8
      by None h = omega arith
      by (Some n) h = let some : 1 ≤ n = h.0 in omega (arith, some)

  pub of_servers : (book : BookOf) → book.geometry ≡ script.geometry → (place : ℕ) (part : PartOf) → StandsIn script place part → AreOfServers book part
  of_servers book code place (PartOf.OfClient part) its = tt
  of_servers book code place (PartOf.OfRepairer part) its =
      subst (λ (n : ℕ). All (λ rebuild. rebuild.server < n) part.calls) (λ i. chunk_count (sym code i))
      (all_at (λ (p : RepairPart). All (λ rebuild. rebuild.server < chunk_count script.geometry) p.calls) script.repairers place part valid.names.rebuilds its)

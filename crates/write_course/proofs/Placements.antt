-- The servers that were away, in a row of placements.
use Rattle.std.proofs.Common.{◌≡◌, ℕ, ◌+◌, ◌≤◌, suc, List, [], ◌∷◌, ◌++◌, length, map, refl, ap, sym, ◌∙◌, arith}
use Rattle.std.proofs.lemmas.List.{append-nil, map-append, length-map}
use Rattle.store_map.specs.declared.placement.Placement.{Placement}
use Rattle.store_map.specs.declared.placement.Placement.TheVariants as placement
use Rattle.store_map.specs.declared.placement.Found.TheVariants as found
use Rattle.store_core.specs.Told.{Lost}
use Rattle.store_core.specs.Placements.{skipped_from, skipped_count}
use Rattle.store_map.specs.declared.placement.LostChunk.{LostChunk}
use Rattle.store_core.specs.Told.{lost_in}

-- they are counted
pub skipped_counted : (server : ℕ) (row : List Placement) → length (skipped_from server row) ≡ skipped_count row
skipped_counted server [] = refl
skipped_counted server (placement.At epoch ∷ row) = skipped_counted (server + 1) row
skipped_counted server (placement.Skipped downs ∷ row) = ap suc (skipped_counted (server + 1) row)

-- with one answer more
pub skipped_push : (server : ℕ) (row : List Placement) (next : Placement) → skipped_from server (row ++ next ∷ []) ≡ skipped_from server row ++ skipped_from (server + length row) (next ∷ [])
skipped_push server [] next = let e : server ≡ server + 0 = omega arith in ap (λ n. skipped_from n (next ∷ [])) e
skipped_push server (placement.At epoch ∷ row) next =
    let e : server + 1 + length row ≡ server + suc (length row) = omega arith in
    skipped_push (server + 1) row next ∙ ap (λ n. skipped_from (server + 1) row ++ skipped_from n (next ∷ [])) e
skipped_push server (placement.Skipped downs ∷ row) next =
    let e : server + 1 + length row ≡ server + suc (length row) = omega arith in
    let first : Lost = record { server = server; placed = placement.Skipped downs; found = found.Away downs } in
    ap (λ lost. first ∷ lost) (skipped_push (server + 1) row next ∙ ap (λ n. skipped_from (server + 1) row ++ skipped_from n (next ∷ [])) e)

-- as many as the program keeps
pub away_counted : (row : List Placement) (away : List LostChunk) → map lost_in away ≡ skipped_from 0 row → skipped_count row ≡ length away
away_counted row away e = sym (skipped_counted 0 row) ∙ ap length (sym e) ∙ length-map away lost_in

-- they are no more than the servers
pub skipped_few : (row : List Placement) → skipped_count row ≤ length row
skipped_few [] = omega arith
skipped_few (placement.At epoch ∷ row) = omega (arith, skipped_few row)
skipped_few (placement.Skipped downs ∷ row) = omega (arith, skipped_few row)

-- a server that took its chunk
pub noted_here : (row now : List Placement) (away : List LostChunk) (next : Placement) (epoch : ℕ)
    → map lost_in away ≡ skipped_from 0 row → next ≡ placement.At epoch → now ≡ row ++ next ∷ [] → map lost_in away ≡ skipped_from 0 now
noted_here row now away next epoch e is pushed =
    e
    ∙ sym
    (ap (skipped_from 0) pushed ∙ ap (λ (p : Placement). skipped_from 0 (row ++ p ∷ [])) is ∙ skipped_push 0 row (placement.At epoch)
    ∙ append-nil (skipped_from 0 row))

-- one that was away
pub noted_away : (row now : List Placement) (away after : List LostChunk) (next : Placement) (server downs : ℕ) → server ≡ length row
    → map lost_in away ≡ skipped_from 0 row → next ≡ placement.Skipped downs → now ≡ row ++ next ∷ []
    → after ≡ away ++ record { server = server; placed = placement.Skipped downs; found = found.Away downs } ∷ [] → map lost_in after ≡ skipped_from 0 now
noted_away row now away after next server downs at e is pushed grown =
    let here : server ≡ 0 + length row = omega arith in
    let last : LostChunk = record { server = server; placed = placement.Skipped downs; found = found.Away downs } in
    ap (map lost_in) grown ∙ map-append lost_in away (last ∷ [])
    ∙ (λ i. e i ++ record { server = here i; placed = placement.Skipped downs; found = found.Away downs } ∷ [])
    ∙ sym (ap (skipped_from 0) pushed ∙ ap (λ (p : Placement). skipped_from 0 (row ++ p ∷ [])) is ∙ skipped_push 0 row (placement.Skipped downs))

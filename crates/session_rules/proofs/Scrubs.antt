-- What a scrub lists stands in the directory and at the servers.
use Rattle.std.proofs.Common.{◌≡◌, ℕ, ◌+◌, ◌<◌, true, false, not, List, [], ◌∷◌, ◌++◌, length, map, get_or, filter, flat_map, refl, sym, ap, ◌∙◌, arith}
use Rattle.std.specs.List.{range_with_len, enumerate_from}
use Rattle.std.proofs.lemmas.List.{length-map, get_or-map}
use Rattle.std.proofs.lemmas.Bool.{or_left, or_right, eq-eqb}
use Rattle.clay_grid.specs.Shape.{Shape, chunk_count}
use Rattle.store_core.specs.Lists.{is_among}
use Rattle.store_core.specs.Server.{Server, new_server}
use Rattle.store_core.specs.Step.{Places}
use Rattle.session_rules.specs.State.{Chunk, Stripe, State as Session}
use Rattle.session_rules.specs.declared.session_answer.LostChunk.{LostChunk}
use Rattle.session_rules.specs.Gathered.{holds, lacking}
use Rattle.session_rules.specs.Heals.{servers}
use Rattle.session_rules.specs.Seen.{version_of, all_numbers, snapshot_numbers, live_numbers, versions_under, stood_under, StandsFor, IsSeenAs}
use Rattle.session_rules.specs.Scrubs.{holds_version, servers_without, lost_of, ScrubsAreSeen}
use Rattle.session_rules.proofs.Counting.{among_append, filter_same, row_bounds}

over_mapped : {X Y Z : Type 0} (f : Y → List Z) (h : X → Y) (xs : List X) → flat_map f (map h xs) ≡ flat_map (λ x. f (h x)) xs
over_mapped f h [] = refl
over_mapped f h (x ∷ xs) = ap (λ l. f (h x) ++ l) (over_mapped f h xs)

module _ (g : Shape) (max : ℕ) (stands : List ℕ) (p : Places) (s : Session) (h : IsSeenAs g max stands p s) where
  -- the same servers lack a stripe's chunks and its version's
  without_same : (stripe : Stripe) (v : ℕ) → StandsFor p stripe v → servers_without p v ≡ lacking stripe (servers g)
  without_same stripe v stand =
      ap (λ n. filter (λ server. not (holds_version p v server)) (range_with_len 0 n)) h.servers
      ∙ filter_same (λ server. not (holds_version p v server)) (λ server. not (holds stripe server)) (servers g) same
    where
      same : (n : ℕ) → is_among n (servers g) ≡ true → not (holds_version p v n) ≡ not (holds stripe n)
      same n e =
          let less : n < 0 + chunk_count g = (row_bounds n 0 (chunk_count g) e).1 in
          let count : length p.servers ≡ chunk_count g = h.servers in
          let a : length (map (λ (one : Server). is_among v one.held) p.servers) ≡ length (map (λ (chunk : Chunk). chunk.held) stripe) = ap length stand.held in
          let b : length (map (λ (one : Server). is_among v one.held) p.servers) ≡ length p.servers = length-map p.servers (λ (one : Server). is_among v one.held) in
          let c : length (map (λ (chunk : Chunk). chunk.held) stripe) ≡ length stripe = length-map stripe (λ (chunk : Chunk). chunk.held) in
          ap not
          (sym (get_or-map (λ (one : Server). is_among v one.held) p.servers n new_server false (omega (arith, less, count)))
          ∙ ap (λ l. get_or l n false) stand.held
          ∙ get_or-map (λ (chunk : Chunk). chunk.held) stripe n (record { placed = 0; held = false }) false (omega (arith, less, count, a, b, c)))

  -- of one object's stripes, from a place on
  stripes_same : (name : List ℕ) (start : ℕ) (numbers : List ℕ) → ((n : ℕ) → is_among n numbers ≡ true → is_among n (live_numbers s) ≡ true) →
      flat_map (λ numbered. map (λ server. let chunk : LostChunk = record { name = name; stripe = numbered.0; server = server } in chunk) (servers_without p numbered.1)) (enumerate_from start (map (version_of stands) numbers))
      ≡ flat_map (λ numbered. map (λ server. let chunk : LostChunk = record { name = name; stripe = numbered.0; server = server } in chunk) (lacking (get_or s.stripes numbered.1 []) (servers g))) (enumerate_from start numbers)
  stripes_same name start [] live = refl
  stripes_same name start (n ∷ numbers) live =
      ap (λ l. map (λ server. let chunk : LostChunk = record { name = name; stripe = start; server = server } in chunk) l
      ++ flat_map (λ numbered. map (λ server. let chunk : LostChunk = record { name = name; stripe = numbered.0; server = server } in chunk) (servers_without p numbered.1)) (enumerate_from (start + 1) (map (version_of stands) numbers)))
      (without_same (get_or s.stripes n []) (version_of stands n) (h.stripes n (live n (or_left _ _ (eq-eqb n n refl)))))
      ∙ ap (λ l. map (λ server. let chunk : LostChunk = record { name = name; stripe = start; server = server } in chunk) (lacking (get_or s.stripes n []) (servers g)) ++ l)
      (stripes_same name (start + 1) numbers (λ m e. live m (or_right _ _ e)))

  -- of some objects
  objects_same : (numbers : List (List ℕ × List ℕ)) → ((n : ℕ) → is_among n (all_numbers numbers) ≡ true → is_among n (live_numbers s) ≡ true) →
      flat_map (lost_of p) (map (stood_under stands) numbers)
      ≡ flat_map (λ object. flat_map (λ numbered. map (λ server. let chunk : LostChunk = record { name = object.0; stripe = numbered.0; server = server } in chunk) (lacking (get_or s.stripes numbered.1 []) (servers g))) (enumerate_from 0 object.1)) numbers
  objects_same [] live = refl
  objects_same (object ∷ numbers) live =
      ap (λ l. l ++ flat_map (lost_of p) (map (stood_under stands) numbers))
      (stripes_same object.0 0 object.1 (λ n e. live n (among_append n object.1 (all_numbers numbers) ∙ or_left (is_among n object.1) (is_among n (all_numbers numbers)) e)))
      ∙ ap (λ l. flat_map (λ numbered. map (λ server. let chunk : LostChunk = record { name = object.0; stripe = numbered.0; server = server } in chunk) (lacking (get_or s.stripes numbered.1 []) (servers g))) (enumerate_from 0 object.1) ++ l)
      (objects_same numbers (λ n e. live n (among_append n object.1 (all_numbers numbers) ∙ or_right (is_among n object.1) (is_among n (all_numbers numbers)) e)))

pub scrubs_are_seen : ScrubsAreSeen
scrubs_are_seen g max stands p s h =
    sym (objects_same g max stands p s h s.numbers
    (λ n e. among_append n (all_numbers s.numbers) (snapshot_numbers s.snapshot) ∙ or_left (is_among n (all_numbers s.numbers)) (is_among n (snapshot_numbers s.snapshot)) e))
    ∙ sym (ap (flat_map (lost_of p)) h.versions)
    ∙ over_mapped (lost_of p) versions_under p.directory.objects

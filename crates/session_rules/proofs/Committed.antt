-- What a commit leaves is seen as a state whose object has new stripes, each with a version that was drawn for it.
use Rattle.std.proofs.Common.{◌≡◌, ◌⊎◌, ℕ, zero, suc, ◌+◌, ◌*◌, ◌-◌, ◌<◌, ◌≤◌, Bool, true, false, ◌||◌, List, [], ◌∷◌, ◌++◌, length, map, get_or, slice_get, All, replicate, refl, sym, ap, subst, subst₂, ◌∙◌, inl, inr, arith, nat_lt, length-append}
use Rattle.std.specs.List.{range_with_len, list_any}
use Rattle.std.proofs.lemmas.List.{ext_get_or, length-map, get_or-map as get_or_at, get_or_past, get_or_append_left, get_or-append_right, get_or-replicate, length-replicate}
use Rattle.std.proofs.lemmas.List.FromFn.{length-range_with_len, get_or-range_with_len}
use Rattle.std.proofs.lemmas.List.Elements.{All-weaker}
use Rattle.std.proofs.lemmas.Option.{slice_get_past}
use Rattle.std.proofs.lemmas.Simd.{map-map}
use Rattle.std.proofs.lemmas.Bool.{ltb-true, ltb-false, or_cases, or_left, or_right}
use Rattle.clay_grid.specs.Shape.{Shape, chunk_count, stripe_length}
use Rattle.store_map.specs.PlainMap.{put}
use Rattle.store_map.proofs.MapLaws.{IsDistinct-put}
use Rattle.store_map.specs.declared.placement.Placement.{Placement}
use Rattle.store_map.specs.declared.placement.Placement.TheVariants as placement
use Rattle.store_core.specs.Lists.{is_among}
use Rattle.store_core.specs.Directory.{Object, Standing, Version, Directory}
use Rattle.store_core.specs.Lookups.{is_pinned}
use Rattle.store_core.specs.Look.{placed_of, set_standing}
use Rattle.store_core.specs.Commit.{put_object}
use Rattle.store_core.specs.Server.{Server}
use Rattle.store_core.specs.Step.{Places}
use Rattle.store_core.specs.Sound.{IsSound}
use Rattle.session_rules.specs.State.{Chunk, Stripe, State as Session, chunk_at}
use Rattle.session_rules.specs.Placing.{new_stripe}
use Rattle.session_rules.specs.Seen.{version_of, live_numbers, all_numbers, snapshot_numbers, StandsFor, IsTimely, IsSeenAs, IsOfSnapshot, IsAtRest}
use Rattle.session_rules.specs.Sweeps.{KeepsPinned}
use Rattle.session_rules.specs.Puts.{with_version, holding}
use Rattle.session_rules.specs.Quiet.{IsKept, IsSettled}
use Rattle.session_rules.proofs.Counting.{among_append, in_row, row_bounds}
use Rattle.session_rules.proofs.Placed.{held_by, holding_same, placed_kept, placed_in, placed_out, place_rows, slice_left, put_under, put_objects_under, put_map_under, among_put, alike_under}
use Rattle.session_rules.proofs.Writes.{all_mapped}
use Rattle.session_rules.proofs.Quiet.{pins_it}
use Rattle.session_rules.proofs.Kept.{KeptAt, all_among, all_holding, map_alike, kept_superseded, kept_placed, drawn_kept, kept_left, rest_superseded, rest_placed}

cases : {P : Type 0} (b : Bool) → (b ≡ true → P) → (b ≡ false → P) → P
cases true t f = t refl
cases false t f = f refl

present_holding : (vs : List ℕ) (servers : List Server) → All (λ s. s.away ≡ false) servers → All (λ s. s.away ≡ false) (holding vs servers)
present_holding [] servers all = all
present_holding (v ∷ later) servers all = present_holding later (map (with_version v) servers) (all_mapped (λ (s : Server). s.away ≡ false) (with_version v) (λ s e. e) servers all)

factor : (a b : ℕ) → 0 < a * b → 0 < a
factor zero b less = let none : 0 * b ≡ 0 = omega arith in absurd (omega (arith, none, less))
factor (suc a) b less = omega arith

-- a code whose stripes have bytes has chunks
pub some_servers : (g : Shape) → 0 < stripe_length g → 0 < chunk_count g
some_servers g some = let chunks : 0 < g.data_count = factor g.data_count _ some in omega (arith, chunks)

-- a new stripe's chunks are placed at the present epochs
placed_new : (server : ℕ) (epochs : List ℕ) → (chunk_at (new_stripe epochs) server).placed ≡ get_or epochs server 0
placed_new server [] = refl
placed_new zero (epoch ∷ epochs) = refl
placed_new (suc server) (epoch ∷ epochs) = placed_new server epochs

-- as many stripes are made as versions are drawn
module _ (stands : List ℕ) (p : Places) (s : Session) (h : IsSeenAs p.directory.shape p.directory.max stands p s) (some : 0 < chunk_count p.directory.shape) (count : ℕ) where
  -- their versions and their numbers
  abbrev pub drawn_from : List ℕ
  drawn_from = range_with_len (length p.directory.versions) count

  abbrev pub new_numbers : List ℕ
  new_numbers = range_with_len (length s.stripes) count

  abbrev pub stands_now : List ℕ
  stands_now = stands ++ drawn_from

  -- ---- a live number has its stripe and its version
  some_chunks : (stripe : Stripe) (v : ℕ) → StandsFor p stripe v → 0 < length stripe
  some_chunks stripe v stand =
      let a : length (map (λ (one : Server). is_among v one.held) p.servers) ≡ length (map (λ (chunk : Chunk). chunk.held) stripe) = ap length stand.held in
      let b : length (map (λ (one : Server). is_among v one.held) p.servers) ≡ length p.servers = length-map p.servers (λ (one : Server). is_among v one.held) in
      let c : length (map (λ (chunk : Chunk). chunk.held) stripe) ≡ length stripe = length-map stripe (λ (chunk : Chunk). chunk.held) in
      let e : length p.servers ≡ chunk_count p.directory.shape = h.servers in
      omega (arith, a, b, c, e, some)

  pub stripe_there : (x : ℕ) → is_among x (live_numbers s) ≡ true → x < length s.stripes
  stripe_there x live = cases (nat_lt x (length s.stripes)) (λ t. ltb-true x (length s.stripes) t) (λ f. absurd (none f))
    where
      none : nat_lt x (length s.stripes) ≡ false → ⊥
      none f =
          let chunks : 0 < length (get_or s.stripes x []) = some_chunks (get_or s.stripes x []) (version_of stands x) (h.stripes x live) in
          let empty : length (get_or s.stripes x []) ≡ 0 = ap length (get_or_past s.stripes x [] (ltb-false x (length s.stripes) f)) in
          omega (arith, chunks, empty)

  pub version_there : (stripe : Stripe) (v : ℕ) → StandsFor p stripe v → v < length p.directory.versions
  version_there stripe v stand = cases (nat_lt v (length p.directory.versions)) (λ t. ltb-true v (length p.directory.versions) t) (λ f. absurd (none f))
    where
      none : nat_lt v (length p.directory.versions) ≡ false → ⊥
      none f =
          let chunks : 0 < length stripe = some_chunks stripe v stand in
          let a : length (placed_of (slice_get p.directory.versions v)) ≡ length (map (λ (chunk : Chunk). placement.At chunk.placed) stripe) = ap length stand.placed in
          let b : length (map (λ (chunk : Chunk). placement.At chunk.placed) stripe) ≡ length stripe = length-map stripe (λ (chunk : Chunk). placement.At chunk.placed) in
          let c : length (placed_of (slice_get p.directory.versions v)) ≡ 0 = ap (λ f. length (placed_of f)) (slice_get_past p.directory.versions v (ltb-false v (length p.directory.versions) f)) in
          omega (arith, chunks, a, b, c)

  pub live_object : (n : ℕ) → is_among n (all_numbers s.numbers) ≡ true → is_among n (live_numbers s) ≡ true
  live_object n e = among_append n (all_numbers s.numbers) (snapshot_numbers s.snapshot) ∙ or_left (is_among n (all_numbers s.numbers)) (is_among n (snapshot_numbers s.snapshot)) e

  live_kept : (n : ℕ) → is_among n (snapshot_numbers s.snapshot) ≡ true → is_among n (live_numbers s) ≡ true
  live_kept n e = among_append n (all_numbers s.numbers) (snapshot_numbers s.snapshot) ∙ or_right (is_among n (all_numbers s.numbers)) (is_among n (snapshot_numbers s.snapshot)) e

  -- ---- versions of old numbers and of new ones
  pub old_version : (x : ℕ) → x < length s.stripes → version_of stands_now x ≡ version_of stands x
  old_version x less = let same : length stands ≡ length s.stripes = h.count in get_or_append_left stands drawn_from 0 x (omega (arith, less, same))

  pub of_objects : (ns : List ℕ) → ((n : ℕ) → is_among n ns ≡ true → is_among n (all_numbers s.numbers) ≡ true) → map (version_of stands_now) ns ≡ map (version_of stands) ns
  of_objects ns all = map_alike (version_of stands_now) (version_of stands) ns (λ n e. old_version n (stripe_there n (live_object n (all n e))))

  new_version_is : (i : ℕ) → i < count → version_of stands_now (length s.stripes + i) ≡ length p.directory.versions + i
  new_version_is i less =
      let same : length stands ≡ length s.stripes = h.count in
      get_or-append_right stands drawn_from (length s.stripes) (length s.stripes + i) 0 same (omega arith)
      ∙ ap (λ n. get_or drawn_from n 0) (let e : length s.stripes + i - length s.stripes ≡ i = omega arith in e)
      ∙ get_or-range_with_len (length p.directory.versions) count i 0 less

  pub drawn_as : drawn_from ≡ map (version_of stands_now) new_numbers
  drawn_as = ext_get_or 0 drawn_from (map (version_of stands_now) new_numbers) counts alike
    where
      counts : length drawn_from ≡ length (map (version_of stands_now) new_numbers)
      counts = length-range_with_len (length p.directory.versions) count ∙ sym (length-map new_numbers (version_of stands_now) ∙ length-range_with_len (length s.stripes) count)

      alike : (i : ℕ) → i < length drawn_from → get_or drawn_from i 0 ≡ get_or (map (version_of stands_now) new_numbers) i 0
      alike i less =
          let many : length drawn_from ≡ count = length-range_with_len (length p.directory.versions) count in
          let news : length new_numbers ≡ count = length-range_with_len (length s.stripes) count in
          get_or-range_with_len (length p.directory.versions) count i 0 (omega (arith, less, many))
          ∙ sym (new_version_is i (omega (arith, less, many)))
          ∙ sym (ap (version_of stands_now) (get_or-range_with_len (length s.stripes) count i 0 (omega (arith, less, many))))
          ∙ sym (get_or_at (version_of stands_now) new_numbers i 0 0 (omega (arith, less, many, news)))

  new_number : (x : ℕ) → is_among x new_numbers ≡ true → (i : ℕ) × (i < count) × (x ≡ length s.stripes + i)
  new_number x e =
      let bounds : (length s.stripes ≤ x) × (x < length s.stripes + count) = row_bounds x (length s.stripes) count e in
      let low : length s.stripes ≤ x = bounds.0 in
      let high : x < length s.stripes + count = bounds.1 in
      (x - length s.stripes, omega (arith, low, high), omega (arith, low))

  -- ---- the directory and the servers after the commit
  module _ (news : List Version) (many : length news ≡ count) (gone : List ℕ) (object : Object) (last : Directory) (name bytes numbers : List ℕ) where
    abbrev d : Directory
    d = p.directory

    -- a row of placements at the servers' present epochs
    abbrev pub row_now : List Placement
    row_now = map (λ epoch. placement.At epoch) (map (λ (one : Server). one.epoch) p.servers)

    -- the versions, those with the object's new stripes among them
    abbrev pub versions_now : List Version
    versions_now = set_standing Standing.Superseded gone (place_rows row_now drawn_from (d.versions ++ news))

    abbrev pub places_now : Places
    places_now = record { directory = last; servers = holding drawn_from p.servers }

    -- the state then
    abbrev pub state_now : Session
    state_now = record s { objects = put name bytes s.objects; numbers = put name numbers s.numbers; stripes = s.stripes ++ replicate count (new_stripe s.epochs) }

    -- what is known of the commit
    pub record Commits : Type 0 where
      pub shape : last.shape ≡ d.shape
      pub most : last.max ≡ d.max
      pub objects : last.objects ≡ put_object object d.objects
      pub versions : last.versions ≡ versions_now
      pub passes : last.passes ≡ d.passes
      pub sound : IsSound last
      pub named : object.name ≡ name
      pub size : object.length ≡ length bytes
      pub stripes : object.versions ≡ map (version_of stands_now) numbers
      pub known : (n : ℕ) → is_among n numbers ≡ true → (is_among n new_numbers ≡ true) ⊎ (is_among n (all_numbers s.numbers) ≡ true)

    module _ (f : Commits) where
      placed_end : (v : ℕ) → placed_of (slice_get last.versions v) ≡ placed_of (slice_get (place_rows row_now drawn_from (d.versions ++ news)) v)
      placed_end v = ap (λ versions. placed_of (slice_get versions v)) f.versions ∙ placed_kept Standing.Superseded gone (place_rows row_now drawn_from (d.versions ++ news)) v

      not_drawn : (v : ℕ) → v < length d.versions → is_among v drawn_from ≡ false
      not_drawn v less = cases (is_among v drawn_from) (λ t. absurd (both t)) (λ f. f)
        where
          both : is_among v drawn_from ≡ true → ⊥
          both t = let low : length d.versions ≤ v = (row_bounds v (length d.versions) count t).0 in omega (arith, less, low)

      old_stands : (stripe : Stripe) (v : ℕ) → StandsFor p stripe v → StandsFor places_now stripe v
      old_stands stripe v stand =
          let less : v < length d.versions = version_there stripe v stand in
          record {
            placed =
                placed_end v ∙ placed_out row_now drawn_from (d.versions ++ news) v (not_drawn v less)
                ∙ ap placed_of (slice_left d.versions news v less) ∙ stand.placed;
            held =
                held_by v drawn_from p.servers
                ∙ ap (λ b. map (λ (one : Server). b || is_among v one.held) p.servers) (not_drawn v less) ∙ stand.held;
          }

      there : (v : ℕ) → is_among v drawn_from ≡ true → v < length (d.versions ++ news)
      there v e =
          let high : v < length d.versions + count = (row_bounds v (length d.versions) count e).1 in
          let a : length (d.versions ++ news) ≡ length d.versions + length news = length-append d.versions news in
          omega (arith, high, a, many)

      is_drawn : (i : ℕ) → i < count → is_among (length d.versions + i) drawn_from ≡ true
      is_drawn i less = in_row (length d.versions + i) (length d.versions) count (omega arith) (omega (arith, less))

      new_stands : (i : ℕ) → i < count → StandsFor places_now (new_stripe s.epochs) (length d.versions + i)
      new_stands i less = record {
        placed =
            placed_end (length d.versions + i)
            ∙ placed_in row_now drawn_from (d.versions ++ news) (length d.versions + i) (is_drawn i less) (there (length d.versions + i) (is_drawn i less))
            ∙ ap (map (λ epoch. placement.At epoch)) h.epochs
            ∙ sym (map-map (λ (chunk : Chunk). placement.At chunk.placed) (λ epoch. let chunk : Chunk = record { placed = epoch; held = true } in chunk) s.epochs);
        held =
            held_by (length d.versions + i) drawn_from p.servers
            ∙ ap (λ b. map (λ (one : Server). b || is_among (length d.versions + i) one.held) p.servers) (is_drawn i less)
            ∙ sym (map-map (λ epoch. true) (λ (one : Server). one.epoch) p.servers)
            ∙ ap (map (λ epoch. true)) h.epochs
            ∙ sym (map-map (λ (chunk : Chunk). chunk.held) (λ epoch. let chunk : Chunk = record { placed = epoch; held = true } in chunk) s.epochs);
      }

      new_stripe_is : (i : ℕ) → i < count → get_or state_now.stripes (length s.stripes + i) [] ≡ new_stripe s.epochs
      new_stripe_is i less =
          get_or-append_right s.stripes (replicate count (new_stripe s.epochs)) (length s.stripes) (length s.stripes + i) [] refl (omega arith)
          ∙ ap (λ n. get_or (replicate count (new_stripe s.epochs)) n []) (let e : length s.stripes + i - length s.stripes ≡ i = omega arith in e)
          ∙ get_or-replicate count i (new_stripe s.epochs) [] less

      stripes_seen : (x : ℕ) → is_among x (live_numbers state_now) ≡ true → StandsFor places_now (get_or state_now.stripes x []) (version_of stands_now x)
      stripes_seen x live =
          by (or_cases (is_among x (all_numbers state_now.numbers)) (is_among x (snapshot_numbers s.snapshot)) (sym (among_append x (all_numbers state_now.numbers) (snapshot_numbers s.snapshot)) ∙ live))
        where
          was : is_among x (live_numbers s) ≡ true → StandsFor places_now (get_or state_now.stripes x []) (version_of stands_now x)
          was e =
              let less : x < length s.stripes = stripe_there x e in
              subst₂ (λ stripe v. StandsFor places_now stripe v) (sym (get_or_append_left s.stripes (replicate count (new_stripe s.epochs)) [] x less)) (sym (old_version x less))
              (old_stands (get_or s.stripes x []) (version_of stands x) (h.stripes x e))

          is : is_among x new_numbers ≡ true → StandsFor places_now (get_or state_now.stripes x []) (version_of stands_now x)
          is e =
              let i : (i : ℕ) × (i < count) × (x ≡ length s.stripes + i) = new_number x e in
              subst (λ y. StandsFor places_now (get_or state_now.stripes y []) (version_of stands_now y)) (sym i.2)
              (subst₂ (λ stripe v. StandsFor places_now stripe v) (sym (new_stripe_is i.0 i.1)) (sym (new_version_is i.0 i.1)) (new_stands i.0 i.1))

          either : (is_among x new_numbers ≡ true) ⊎ (is_among x (all_numbers s.numbers) ≡ true) → StandsFor places_now (get_or state_now.stripes x []) (version_of stands_now x)
          either (inl e) = is e
          either (inr e) = was (live_object x e)

          in_objects : (is_among x numbers ≡ true) ⊎ (is_among x (all_numbers s.numbers) ≡ true) → StandsFor places_now (get_or state_now.stripes x []) (version_of stands_now x)
          in_objects (inl e) = either (f.known x e)
          in_objects (inr e) = was (live_object x e)

          by : (is_among x (all_numbers state_now.numbers) ≡ true) ⊎ (is_among x (snapshot_numbers s.snapshot) ≡ true) → StandsFor places_now (get_or state_now.stripes x []) (version_of stands_now x)
          by (inl e) = in_objects (among_put x name numbers s.numbers e)
          by (inr e) = was (live_kept x e)

      -- ---- no two live numbers have one version
      live_now : (x : ℕ) → is_among x (live_numbers state_now) ≡ true → (is_among x new_numbers ≡ true) ⊎ (is_among x (live_numbers s) ≡ true)
      live_now x live =
          by (or_cases (is_among x (all_numbers state_now.numbers)) (is_among x (snapshot_numbers s.snapshot)) (sym (among_append x (all_numbers state_now.numbers) (snapshot_numbers s.snapshot)) ∙ live))
        where
          either : (is_among x new_numbers ≡ true) ⊎ (is_among x (all_numbers s.numbers) ≡ true) → (is_among x new_numbers ≡ true) ⊎ (is_among x (live_numbers s) ≡ true)
          either (inl e) = inl e
          either (inr e) = inr (live_object x e)

          in_objects : (is_among x numbers ≡ true) ⊎ (is_among x (all_numbers s.numbers) ≡ true) → (is_among x new_numbers ≡ true) ⊎ (is_among x (live_numbers s) ≡ true)
          in_objects (inl e) = either (f.known x e)
          in_objects (inr e) = inr (live_object x e)

          by : (is_among x (all_numbers state_now.numbers) ≡ true) ⊎ (is_among x (snapshot_numbers s.snapshot) ≡ true) → (is_among x new_numbers ≡ true) ⊎ (is_among x (live_numbers s) ≡ true)
          by (inl e) = in_objects (among_put x name numbers s.numbers e)
          by (inr e) = inr (live_kept x e)

      -- an old number's version is less than a new one's
      old_and_new : (n m : ℕ) → is_among n (live_numbers s) ≡ true → is_among m new_numbers ≡ true → version_of stands_now n ≡ version_of stands_now m → ⊥
      old_and_new n m was is same =
          let i : (i : ℕ) × (i < count) × (m ≡ length s.stripes + i) = new_number m is in
          let less : version_of stands n < length d.versions = version_there (get_or s.stripes n []) (version_of stands n) (h.stripes n was) in
          let before : version_of stands_now n ≡ version_of stands n = old_version n (stripe_there n was) in
          let after : version_of stands_now m ≡ length d.versions + i.0 = ap (version_of stands_now) i.2 ∙ new_version_is i.0 i.1 in
          omega (arith, less, before, after, same)

      apart_now : (n m : ℕ) → is_among n (live_numbers state_now) ≡ true → is_among m (live_numbers state_now) ≡ true → version_of stands_now n ≡ version_of stands_now m → n ≡ m
      apart_now n m live also same = by (live_now n live) (live_now m also)
        where
          by : (is_among n new_numbers ≡ true) ⊎ (is_among n (live_numbers s) ≡ true) → (is_among m new_numbers ≡ true) ⊎ (is_among m (live_numbers s) ≡ true) → n ≡ m
          by (inl a) (inl b) =
              let i : (i : ℕ) × (i < count) × (n ≡ length s.stripes + i) = new_number n a in
              let j : (j : ℕ) × (j < count) × (m ≡ length s.stripes + j) = new_number m b in
              let one : version_of stands_now n ≡ length d.versions + i.0 = ap (version_of stands_now) i.2 ∙ new_version_is i.0 i.1 in
              let two : version_of stands_now m ≡ length d.versions + j.0 = ap (version_of stands_now) j.2 ∙ new_version_is j.0 j.1 in
              let first : n ≡ length s.stripes + i.0 = i.2 in
              let second : m ≡ length s.stripes + j.0 = j.2 in
              omega (arith, one, two, first, second, same)
          by (inl a) (inr b) = absurd (old_and_new m n b a (sym same))
          by (inr a) (inl b) = absurd (old_and_new n m a b same)
          by (inr a) (inr b) = h.apart n m a b (sym (old_version n (stripe_there n a)) ∙ same ∙ old_version m (stripe_there m b))

      -- ---- no chunk was placed at an epoch that is yet to come
      timely_now : IsTimely state_now
      timely_now number server = cases (nat_lt number (length s.stripes)) old new
        where
          old : nat_lt number (length s.stripes) ≡ true → (chunk_at (get_or state_now.stripes number []) server).placed ≤ get_or s.epochs server 0
          old e =
              subst (λ stripe. (chunk_at stripe server).placed ≤ get_or s.epochs server 0) (sym (get_or_append_left s.stripes (replicate count (new_stripe s.epochs)) [] number (ltb-true number (length s.stripes) e)))
              (h.timely number server)

          among_new : (i : ℕ) → (chunk_at (get_or (replicate count (new_stripe s.epochs)) i []) server).placed ≤ get_or s.epochs server 0
          among_new i = cases (nat_lt i count) is past
            where
              is : nat_lt i count ≡ true → (chunk_at (get_or (replicate count (new_stripe s.epochs)) i []) server).placed ≤ get_or s.epochs server 0
              is e =
                  let same : (chunk_at (get_or (replicate count (new_stripe s.epochs)) i []) server).placed ≡ get_or s.epochs server 0 =
                  ap (λ stripe. (chunk_at stripe server).placed) (get_or-replicate count i (new_stripe s.epochs) [] (ltb-true i count e)) ∙ placed_new server s.epochs in
                  omega (arith, same)

              past : nat_lt i count ≡ false → (chunk_at (get_or (replicate count (new_stripe s.epochs)) i []) server).placed ≤ get_or s.epochs server 0
              past e =
                  let few : length (replicate count (new_stripe s.epochs)) ≡ count = length-replicate count (new_stripe s.epochs) in
                  let over : count ≤ i = ltb-false i count e in
                  let none : (chunk_at (get_or (replicate count (new_stripe s.epochs)) i []) server).placed ≡ 0 =
                  ap (λ stripe. (chunk_at stripe server).placed) (get_or_past (replicate count (new_stripe s.epochs)) i [] (omega (arith, few, over))) in
                  omega (arith, none)

          new : nat_lt number (length s.stripes) ≡ false → (chunk_at (get_or state_now.stripes number []) server).placed ≤ get_or s.epochs server 0
          new e =
              subst (λ stripe. (chunk_at stripe server).placed ≤ get_or s.epochs server 0)
              (sym (get_or-append_right s.stripes (replicate count (new_stripe s.epochs)) (length s.stripes) number [] refl (ltb-false number (length s.stripes) e))) (among_new (number - length s.stripes))

      -- ---- names, lengths and versions
      lengths_seen_so : map (λ (object : Object). let pair : List ℕ × ℕ = (object.name, object.length) in pair) last.objects
          ≡ map (λ (object : List ℕ × List ℕ). let pair : List ℕ × ℕ = (object.0, length object.1) in pair) (put name bytes s.objects)
      lengths_seen_so =
          ap (map (λ (object : Object). let pair : List ℕ × ℕ = (object.name, object.length) in pair)) f.objects
          ∙ put_objects_under (λ (object : Object). object.length) object d.objects
          ∙ ap (λ n. put_under n object.length (map (λ (object : Object). let pair : List ℕ × ℕ = (object.name, object.length) in pair) d.objects)) f.named
          ∙ ap (λ n. put_under name n (map (λ (object : Object). let pair : List ℕ × ℕ = (object.name, object.length) in pair) d.objects)) f.size
          ∙ ap (put_under name (length bytes)) h.lengths
          ∙ sym (put_map_under length name bytes s.objects)

      versions_seen_so : map (λ (object : Object). let pair : List ℕ × List ℕ = (object.name, object.versions) in pair) last.objects
          ≡ map (λ (object : List ℕ × List ℕ). let pair : List ℕ × List ℕ = (object.0, map (version_of stands_now) object.1) in pair) (put name numbers s.numbers)
      versions_seen_so =
          ap (map (λ (object : Object). let pair : List ℕ × List ℕ = (object.name, object.versions) in pair)) f.objects
          ∙ put_objects_under (λ (object : Object). object.versions) object d.objects
          ∙ ap (λ n. put_under n object.versions (map (λ (object : Object). let pair : List ℕ × List ℕ = (object.name, object.versions) in pair) d.objects)) f.named
          ∙ ap (put_under name object.versions) h.versions
          ∙ ap (put_under name object.versions) (alike_under (version_of stands) (version_of stands_now) s.numbers (λ n e. sym (old_version n (stripe_there n (live_object n e)))))
          ∙ ap (λ ns. put_under name ns (map (λ (object : List ℕ × List ℕ). let pair : List ℕ × List ℕ = (object.0, map (version_of stands_now) object.1) in pair) s.numbers)) f.stripes
          ∙ sym (put_map_under (map (version_of stands_now)) name numbers s.numbers)

      -- ---- the whole
      pub seen_now : IsSeenAs d.shape d.max stands_now places_now state_now
      seen_now = record {
        shape = f.shape;
        most = f.most;
        sound = f.sound;
        servers =
            sym (length-map places_now.servers (λ (one : Server). one.epoch)) ∙ ap length (holding_same (λ (one : Server). one.epoch) (λ v s. refl) drawn_from p.servers)
            ∙ length-map p.servers (λ (one : Server). one.epoch) ∙ h.servers;
        present = present_holding drawn_from p.servers h.present;
        epochs = holding_same (λ (one : Server). one.epoch) (λ v s. refl) drawn_from p.servers ∙ h.epochs;
        lengths = lengths_seen_so;
        versions = versions_seen_so;
        count =
            length-append stands drawn_from ∙ ap (λ n. n + length drawn_from) h.count
            ∙ ap (λ n. length s.stripes + n) (length-range_with_len (length p.directory.versions) count ∙ sym (length-replicate count (new_stripe s.epochs)))
            ∙ sym (length-append s.stripes (replicate count (new_stripe s.epochs)));
        stripes = stripes_seen;
        apart = apart_now;
        timely = timely_now;
        names = IsDistinct-put name numbers s.numbers h.names;
      }

      kept_number : (n : ℕ) → is_among n (snapshot_numbers s.snapshot) ≡ true → version_of stands_now n ≡ version_of stands n
      kept_number n e = old_version n (stripe_there n (live_kept n e))

      still_kept : (v : ℕ) → IsKept d v → IsKept last v
      still_kept v k =
          subst (λ versions. KeptAt versions v) (sym f.versions)
          (kept_superseded gone (place_rows row_now drawn_from (d.versions ++ news)) v (kept_placed row_now drawn_from (d.versions ++ news) v (kept_left d.versions news v k)))

      drawn_all : All (IsKept last) drawn_from
      drawn_all =
          all_among (IsKept last) drawn_from
          (λ v e. subst (λ versions. KeptAt versions v) (sym f.versions)
          (kept_superseded gone (place_rows row_now drawn_from (d.versions ++ news)) v (drawn_kept row_now drawn_from (d.versions ++ news) v e (there v e))))

      pub settled_now : IsSettled stands p s → IsSettled stands_now places_now state_now
      settled_now settled = record {
        passes =
            subst₂ (λ kept passes. All (IsOfSnapshot kept) passes) (sym (map_alike (version_of stands_now) (version_of stands) (snapshot_numbers s.snapshot) kept_number)) (sym f.passes) settled.passes;
        held =
            all_holding (IsKept last) drawn_from p.servers drawn_all
            (All-weaker (λ (server : Server). All (IsKept d) server.held) (λ (server : Server). All (IsKept last) server.held) (λ server all. All-weaker (IsKept d) (IsKept last) still_kept server.held all) p.servers settled.held);
        standing =
            subst (All IsAtRest) (sym f.versions)
            (rest_superseded gone (place_rows row_now drawn_from (d.versions ++ news))
            (subst (λ n. All IsAtRest (place_rows row_now (range_with_len (length d.versions) n) (d.versions ++ news))) many (rest_placed row_now news d.versions settled.standing)));
      }

      pub pinned_now : KeepsPinned stands p s → KeepsPinned stands_now places_now state_now
      pinned_now pinned n live = ap (list_any (pins_it (version_of stands_now n))) f.passes ∙ ap (is_pinned d) (kept_number n live) ∙ pinned n live

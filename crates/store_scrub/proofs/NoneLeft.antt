-- Where all strays are listed, no stray is left, and nothing that the directory knows is listed.
use Rattle.std.proofs.Common.{◌≡◌, ℕ, ◌+◌, nat_eq, Bool, true, false, not, ◌&&◌, ◌||◌, List, [], ◌∷◌, ◌++◌, map, filter, All, refl, sym, ap, ◌∙◌, if◌then◌else◌}
use Rattle.std.specs.List.{flat_map, enumerate_from}
use Rattle.std.proofs.lemmas.Bool.{eq-eqb, eqb-true, true≢false, or_left, or_right}
use Rattle.std.proofs.lemmas.List.Folds.{list_any-append}
use Rattle.std.proofs.lemmas.List.Elements.{All-head, All-tail}
use Rattle.clay_grid.specs.Shape.{Shape}
use Rattle.store_core.specs.Directory.{Version}
use Rattle.version_seal.specs.Entry.{StampOf}
use Rattle.version_table.specs.Known.{is_known}
use Rattle.chunk_server.specs.State.{Held, ServerState}
use Rattle.chunk_server.specs.Valid.{IsOwn, IsValid}
use Rattle.store_scrub.specs.Strays.{is_stray, stray_at, strays_at, strays_in, is_listed, cleared, without}
use Rattle.store_scrub.specs.declared.report.Stray.{Stray}
use Rattle.store_scrub.proofs.Lists.{cases}

module _ (versions : List Version) where
  -- the strays of one server
  abbrev of_stamps : ℕ → List StampOf → List Stray
  of_stamps n stamps = map (stray_at n) (filter (is_stray versions) stamps)

  module _ (server version : ℕ) (known : is_known versions version ≡ true) where
    -- no known version is among them
    unlisted_stamps : (n : ℕ) (stamps : List StampOf) → is_listed (of_stamps n stamps) server version ≡ false
    unlisted_stamps n [] = refl
    unlisted_stamps n (stamp ∷ stamps) =
        cases (is_known versions stamp.version)
        (λ e. ap (λ b. is_listed (map (stray_at n) (if not b then stamp ∷ filter (is_stray versions) stamps else filter (is_stray versions) stamps)) server version) e ∙ unlisted_stamps n stamps)
        (λ e. ap (λ b. is_listed (map (stray_at n) (if not b then stamp ∷ filter (is_stray versions) stamps else filter (is_stray versions) stamps)) server version) e
        ∙ ap (λ b. (nat_eq n server && b) || is_listed (of_stamps n stamps) server version) (apart e)
        ∙ ap (λ b. b || is_listed (of_stamps n stamps) server version) (nothing (nat_eq n server))
        ∙ unlisted_stamps n stamps)
      where
        nothing : (b : Bool) → (b && false) ≡ false
        nothing true = refl
        nothing false = refl

        apart : is_known versions stamp.version ≡ false → nat_eq stamp.version version ≡ false
        apart e =
            cases (nat_eq stamp.version version)
            (λ t. absurd (true≢false (sym known ∙ ap (is_known versions) (sym (eqb-true stamp.version version t)) ∙ e)))
            (λ f. f)

    unlisted_from : (n : ℕ) (servers : List ServerState) → is_listed (flat_map (strays_at versions) (enumerate_from n servers)) server version ≡ false
    unlisted_from n [] = refl
    unlisted_from n (s ∷ servers) =
        list_any-append (λ (stray : Stray). nat_eq stray.server server && nat_eq stray.stamp.version version) (strays_at versions (n, s)) (flat_map (strays_at versions) (enumerate_from (n + 1) servers))
        ∙ ap (λ b. b || is_listed (flat_map (strays_at versions) (enumerate_from (n + 1) servers)) server version) (unlisted_stamps n (map (λ (held : Held). held.chunk.stamp) s.held))
        ∙ unlisted_from (n + 1) servers

    pub unlisted : (servers : List ServerState) → is_listed (strays_in versions servers) server version ≡ false
    unlisted servers = unlisted_from 0 servers

  -- the stamps of chunks
  abbrev stamps_in : List Held → List StampOf
  stamps_in chunks = map (λ held. held.chunk.stamp) chunks

  module _ (strays : List Stray) where
    -- the strays among a server's chunks are listed under its number
    abbrev Lists : ℕ → List Held → Type 0
    Lists n chunks = (version : ℕ) → is_listed (of_stamps n (stamps_in chunks)) n version ≡ true → is_listed strays n version ≡ true

    -- what stays of them
    abbrev kept_of : ℕ → List Held → List Held
    kept_of n chunks = filter (λ held. not (is_listed strays n held.version)) chunks

    -- the strays among those
    abbrev left_of : ℕ → List Held → List StampOf
    left_of n chunks = filter (is_stray versions) (stamps_in (kept_of n chunks))

    module _ (n : ℕ) (held : Held) (chunks : List Held) where
      -- by whether the directory knows the first one
      abbrev listed_by : ℕ → Bool → Bool
      listed_by version known = is_listed (map (stray_at n) (if not known then held.chunk.stamp ∷ filter (is_stray versions) (stamps_in chunks) else filter (is_stray versions) (stamps_in chunks))) n version

      first : is_known versions held.chunk.stamp.version ≡ false → is_listed (of_stamps n (stamps_in (held ∷ chunks))) n held.chunk.stamp.version ≡ true
      first e =
          ap (listed_by held.chunk.stamp.version) e
          ∙ or_left _ _ (ap (λ b. b && nat_eq held.chunk.stamp.version held.chunk.stamp.version) (eq-eqb n n refl) ∙ eq-eqb held.chunk.stamp.version held.chunk.stamp.version refl)

      more : (version : ℕ) → is_listed (of_stamps n (stamps_in chunks)) n version ≡ true → is_listed (of_stamps n (stamps_in (held ∷ chunks))) n version ≡ true
      more version e =
          cases (is_known versions held.chunk.stamp.version)
          (λ t. ap (listed_by version) t ∙ e)
          (λ f. ap (listed_by version) f ∙ or_right _ _ e)

      -- where no stray is left behind the first chunk, none is
      one_more : held.chunk.stamp.version ≡ held.version → Lists n (held ∷ chunks) → left_of n chunks ≡ [] → left_of n (held ∷ chunks) ≡ []
      one_more own lists rest = cases (is_listed strays n held.version) gone (λ f. stays f ∙ cases (is_known versions held.chunk.stamp.version) known (λ u. absurd (true≢false (sym (stray u) ∙ f))))
        where
          gone : is_listed strays n held.version ≡ true → left_of n (held ∷ chunks) ≡ []
          gone e = ap (λ b. filter (is_stray versions) (stamps_in (if not b then held ∷ kept_of n chunks else kept_of n chunks))) e ∙ rest

          stays : is_listed strays n held.version ≡ false → left_of n (held ∷ chunks) ≡ filter (is_stray versions) (held.chunk.stamp ∷ stamps_in (kept_of n chunks))
          stays e = ap (λ b. filter (is_stray versions) (stamps_in (if not b then held ∷ kept_of n chunks else kept_of n chunks))) e

          known : is_known versions held.chunk.stamp.version ≡ true → filter (is_stray versions) (held.chunk.stamp ∷ stamps_in (kept_of n chunks)) ≡ []
          known e = ap (λ b. if not b then held.chunk.stamp ∷ left_of n chunks else left_of n chunks) e ∙ rest

          stray : is_known versions held.chunk.stamp.version ≡ false → is_listed strays n held.version ≡ true
          stray e = ap (is_listed strays n) (sym own) ∙ lists held.chunk.stamp.version (first e)

    module _ (home : List ℕ) (number : ℕ) (g : Shape) where
      none_left : (n : ℕ) (chunks : List Held) → All (IsOwn home number g) chunks → Lists n chunks → left_of n chunks ≡ []
      none_left n [] own lists = refl
      none_left n (held ∷ chunks) own lists =
          one_more n held chunks (All-head (IsOwn home number g) held chunks own).version lists
          (none_left n chunks (All-tail (IsOwn home number g) held chunks own) (λ version e. lists version (more n held chunks version e)))

    -- so of all servers
    none_from : (n : ℕ) (servers : List ServerState) → All IsValid servers
        → ((server version : ℕ) → is_listed (flat_map (strays_at versions) (enumerate_from n servers)) server version ≡ true → is_listed strays server version ≡ true)
        → flat_map (strays_at versions) (enumerate_from n (map (cleared strays) (enumerate_from n servers))) ≡ []
    none_from n [] valid lists = refl
    none_from n (s ∷ servers) valid lists =
        let behind : List Stray = flat_map (strays_at versions) (enumerate_from (n + 1) servers) in
        let joined : (server version : ℕ) → is_listed (strays_at versions (n, s) ++ behind) server version ≡ (is_listed (strays_at versions (n, s)) server version || is_listed behind server version) =
        λ server version. list_any-append (λ (stray : Stray). nat_eq stray.server server && nat_eq stray.stamp.version version) (strays_at versions (n, s)) behind
        in
        let here : left_of n s.held ≡ [] =
        none_left s.book.home s.number s.book.geometry n s.held (All-head IsValid s servers valid).own (λ version e. lists n version (joined n version ∙ or_left _ _ e))
        in
        let others : flat_map (strays_at versions) (enumerate_from (n + 1) (map (cleared strays) (enumerate_from (n + 1) servers))) ≡ [] =
        none_from (n + 1) servers (All-tail IsValid s servers valid) (λ server version e. lists server version (joined server version ∙ or_right _ _ e))
        in
        λ i. map (stray_at n) (here i) ++ others i

  -- a scrub finds no stray after those that it found were dropped
  pub none_after : (servers : List ServerState) → All IsValid servers → strays_in versions (without (strays_in versions servers) servers) ≡ []
  none_after servers valid = none_from (strays_in versions servers) 0 servers valid (λ server version e. e)

-- Where all strays are listed, the same chunks are lost without them.
use Rattle.std.proofs.Common.{◌≡◌, ℕ, zero, suc, ◌+◌, ◌<◌, nat_eq, true, false, not, ◌||◌, List, [], ◌∷◌, ◌++◌, length, map, filter, get_or, All, IfSome, slice_get, refl, sym, ap, ◌∙◌, arith, if◌then◌else◌}
use Rattle.std.specs.List.{flat_map, enumerate_from, range_with_len}
use Rattle.std.proofs.lemmas.Bool.{eqb-true, true≢false}
use Rattle.std.proofs.lemmas.List.{length-map}
use Rattle.std.proofs.lemmas.List.Elements.{All-head, All-tail, All-weaker}
use Rattle.std.proofs.lemmas.List.FromFn.{length-enumerate_from}
use Rattle.store_core.specs.Lists.{is_among}
use Rattle.store_core.specs.Directory.{Object, Standing, Version, Directory}
use Rattle.store_core.specs.Server.{new_server}
use Rattle.store_core.specs.Sound.{IsSound, HasItsVersions}
use Rattle.store_core.specs.SoundPasses.{Stands}
use Rattle.version_table.specs.Known.{is_unswept_standing, is_known}
use Rattle.session_rules.specs.Seen.{versions_under}
use Rattle.session_rules.specs.Scrubs.{holds_version, servers_without, lost_of, lost_at}
use Rattle.chunk_server.specs.State.{Held, ServerState, versions_of}
use Rattle.chunk_server.specs.Core.{core_of}
use Rattle.store_scrub.specs.Lost.{places_with, lost_from}
use Rattle.store_scrub.specs.Strays.{strays_in, is_listed, cleared, without}
use Rattle.store_scrub.specs.declared.report.Stray.{Stray}
use Rattle.store_scrub.proofs.Lists.{cases, filter_alike}
use Rattle.store_scrub.proofs.NoneLeft.{unlisted}

module _ (strays : List Stray) (version : ℕ) (none : (n : ℕ) → is_listed strays n version ≡ false) where
  -- a chunk of a version that isn't listed stays
  among_kept : (n : ℕ) (chunks : List Held) → is_among version (versions_of (filter (λ held. not (is_listed strays n held.version)) chunks)) ≡ is_among version (versions_of chunks)
  among_kept n [] = refl
  among_kept n (held ∷ chunks) = by (among_kept n chunks)
    where
      apart : is_listed strays n held.version ≡ true → nat_eq version held.version ≡ false
      apart e = cases (nat_eq version held.version) (λ t. absurd (true≢false (sym e ∙ ap (is_listed strays n) (sym (eqb-true version held.version t)) ∙ none n))) (λ f. f)

      by : is_among version (versions_of (filter (λ held. not (is_listed strays n held.version)) chunks)) ≡ is_among version (versions_of chunks)
          → is_among version (versions_of (filter (λ held. not (is_listed strays n held.version)) (held ∷ chunks))) ≡ is_among version (versions_of (held ∷ chunks))
      by rest =
          cases (is_listed strays n held.version)
          (λ e. ap (λ b. is_among version (versions_of (if not b then held ∷ filter (λ (h : Held). not (is_listed strays n h.version)) chunks else filter (λ (h : Held). not (is_listed strays n h.version)) chunks))) e
          ∙ rest ∙ sym (ap (λ b. b || is_among version (versions_of chunks)) (apart e)))
          (λ e. ap (λ b. is_among version (versions_of (if not b then held ∷ filter (λ (h : Held). not (is_listed strays n h.version)) chunks else filter (λ (h : Held). not (is_listed strays n h.version)) chunks))) e
          ∙ ap (λ b. nat_eq version held.version || b) rest)

  held_at : (n : ℕ) (servers : List ServerState) (j : ℕ)
      → is_among version (get_or (map core_of (map (cleared strays) (enumerate_from n servers))) j new_server).held ≡ is_among version (get_or (map core_of servers) j new_server).held
  held_at n [] j = refl
  held_at n (s ∷ servers) zero = among_kept n s.held
  held_at n (s ∷ servers) (suc j) = held_at (n + 1) servers j

  -- so the same servers lack it
  lacked_same : (d : Directory) (servers : List ServerState) → servers_without (places_with d (without strays servers)) version ≡ servers_without (places_with d servers) version
  lacked_same d servers =
      let count : length (map core_of (without strays servers)) ≡ length (map core_of servers) =
      length-map (without strays servers) core_of ∙ length-map (enumerate_from 0 servers) (cleared strays) ∙ length-enumerate_from 0 servers ∙ sym (length-map servers core_of)
      in
      ap (λ n. filter (λ server. not (holds_version (places_with d (without strays servers)) version server)) (range_with_len 0 n)) count
      ∙ filter_alike _ _ (λ (j : ℕ). ap not (held_at 0 servers j)) (range_with_len 0 (length (map core_of servers)))

-- a current version is known
known_of : (versions : List Version) (number : ℕ) → IfSome (slice_get versions number) (λ version. version.standing ≡ Standing.Current) → number < length versions
    → is_known versions number ≡ true
known_of [] number current less = absurd (omega arith)
known_of (version ∷ versions) zero current less = ap is_unswept_standing current
known_of (version ∷ versions) (suc number) current less = known_of versions number current (omega arith)

module _ (d : Directory) (servers : List ServerState) where
  -- the servers, and those that are left of them
  abbrev left : List ServerState
  left = without (strays_in d.versions servers) servers

  abbrev Knows : ℕ → Type 0
  Knows number = is_known d.versions number ≡ true

  -- the chunks of an object's versions
  from_same : (name : List ℕ) (k : ℕ) (versions : List ℕ) → All Knows versions
      → flat_map (lost_from (places_with d left) name) (enumerate_from k versions) ≡ flat_map (lost_from (places_with d servers) name) (enumerate_from k versions)
  from_same name k [] known = refl
  from_same name k (version ∷ versions) known =
      let here : servers_without (places_with d left) version ≡ servers_without (places_with d servers) version =
      lacked_same (strays_in d.versions servers) version (λ n. unlisted d.versions n version (All-head Knows version versions known) servers) d servers
      in
      let others : flat_map (lost_from (places_with d left) name) (enumerate_from (k + 1) versions) ≡ flat_map (lost_from (places_with d servers) name) (enumerate_from (k + 1) versions) =
      from_same name (k + 1) versions (All-tail Knows version versions known)
      in
      λ i. map (λ server. record { name = name; stripe = k; server = server }) (here i) ++ others i

  -- of all objects
  objects_same : (objects : List Object) → All (HasItsVersions d) objects
      → flat_map (λ object. lost_of (places_with d left) (versions_under object)) objects ≡ flat_map (λ object. lost_of (places_with d servers) (versions_under object)) objects
  objects_same [] have = refl
  objects_same (object ∷ objects) have =
      let known : All Knows object.versions =
      All-weaker (Stands d Standing.Current) Knows (λ number stands. known_of d.versions number stands.0 stands.1) object.versions (All-head (HasItsVersions d) object objects have).current
      in
      λ i. from_same object.name 0 object.versions known i ++ objects_same objects (All-tail (HasItsVersions d) object objects have) i

  -- without the strays the same chunks are lost
  pub lost_same : IsSound d → lost_at (places_with d left) ≡ lost_at (places_with d servers)
  lost_same sound = objects_same d.objects sound.objects

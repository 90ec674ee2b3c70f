-- A chunk that was placed anew: the places are seen as the state where it is held.
use Rattle.std.proofs.Common.{◌≡◌, ◌⊎◌, ℕ, zero, suc, ◌+◌, ◌≤◌, max, nat_eq, Bool, true, false, not, ◌&&◌, ◌||◌, cond, List, [], ◌∷◌, map, get_or, find, slice_get, Option, Some, option_map, All, IsTrue, refl, sym, ap, subst, ◌∙◌, inl, inr, arith}
use Rattle.std.specs.List.{list_any, enumerate_from}
use Rattle.std.proofs.lemmas.Bool.{eq-eqb, eqb-true, ne_eqb, or_cases, or_left, or_right, true≢false}
use Rattle.std.proofs.lemmas.Option.{same_Some, none-some}
use Rattle.store_map.specs.declared.placement.Placement.TheVariants as placement
use Rattle.store_core.specs.Lists.{change_at, is_among}
use Rattle.store_core.specs.Placements.{placed_anew}
use Rattle.store_core.specs.Directory.{Object, Standing, Version, Directory}
use Rattle.store_core.specs.Lookups.{is_superseded_standing, is_pinned, first_garbage}
use Rattle.store_core.specs.Look.{placed_of}
use Rattle.store_core.specs.Server.{Server}
use Rattle.store_core.specs.Step.{Places}
use Rattle.store_core.specs.Sound.{IsSound}
use Rattle.session_rules.specs.State.{Chunk, Stripe, State as Session, chunk_at}
use Rattle.session_rules.specs.Rebuilds.{place_anew}
use Rattle.session_rules.specs.Seen.{version_of, live_numbers, snapshot_numbers, StandsFor, IsTimely, IsSeenAs, IsOfSnapshot, IsAtRest, IsQuiet}
use Rattle.session_rules.specs.Sweeps.{KeepsPinned}
use Rattle.session_rules.specs.Puts.{with_version}
use Rattle.session_rules.proofs.Lists.{map_changed, map_kept, changed_length, all_changed}
use Rattle.session_rules.proofs.Placed.{among_hold, slice_other}
use Rattle.session_rules.proofs.Quiet.{pins_it}
use Rattle.session_rules.proofs.Kept.{all_hold}

cases : {P : Type 0} (b : Bool) → (b ≡ true → P) → (b ≡ false → P) → P
cases true t f = t refl
cases false t f = f refl

-- ---- lists with one element changed
pub changed_here : {X : Type 0} (n : ℕ) (f : List X → List X) → f [] ≡ [] → (xs : List (List X)) → get_or (change_at n f xs) n [] ≡ f (get_or xs n [])
changed_here n f empty [] = sym empty
changed_here zero f empty (x ∷ xs) = refl
changed_here (suc n) f empty (x ∷ xs) = changed_here n f empty xs

pub changed_elsewhere : {X : Type 0} (n m : ℕ) (f : X → X) (d : X) (xs : List X) → (m ≡ n → ⊥) → get_or (change_at n f xs) m d ≡ get_or xs m d
changed_elsewhere n m f d [] other = refl
changed_elsewhere zero zero f d (x ∷ xs) other = absurd (other refl)
changed_elsewhere zero (suc m) f d (x ∷ xs) other = refl
changed_elsewhere (suc n) zero f d (x ∷ xs) other = refl
changed_elsewhere (suc n) (suc m) f d (x ∷ xs) other = changed_elsewhere n m f d xs (λ same. other (ap suc same))

chunk_there : (stripe : Stripe) (j : ℕ) (chunk : Chunk) → slice_get stripe j ≡ Some chunk → chunk_at stripe j ≡ chunk
chunk_there [] j chunk e = absurd (none-some chunk e)
chunk_there (x ∷ stripe) zero chunk e = same_Some x chunk e
chunk_there (x ∷ stripe) (suc j) chunk e = chunk_there stripe j chunk e

-- a chunk of a changed stripe is the old one, or the one that was placed anew
anew_or_old : (target j epoch : ℕ) (stripe : Stripe) →
    ((j ≡ target) × ((chunk_at (change_at target (λ chunk. record { placed = epoch; held = true }) stripe) j).placed ≡ epoch))
    ⊎ ((chunk_at (change_at target (λ chunk. record { placed = epoch; held = true }) stripe) j).placed ≡ (chunk_at stripe j).placed)
anew_or_old target j epoch [] = inr refl
anew_or_old zero zero epoch (x ∷ stripe) = inl (refl, refl)
anew_or_old zero (suc j) epoch (x ∷ stripe) = inr refl
anew_or_old (suc target) zero epoch (x ∷ stripe) = inr refl
anew_or_old (suc target) (suc j) epoch (x ∷ stripe) = by (anew_or_old target j epoch stripe)
  where
    by : ((j ≡ target) × ((chunk_at (change_at target (λ chunk. record { placed = epoch; held = true }) stripe) j).placed ≡ epoch))
        ⊎ ((chunk_at (change_at target (λ chunk. record { placed = epoch; held = true }) stripe) j).placed ≡ (chunk_at stripe j).placed) →
        ((suc j ≡ suc target) × ((chunk_at (change_at target (λ chunk. record { placed = epoch; held = true }) stripe) j).placed ≡ epoch))
        ⊎ ((chunk_at (change_at target (λ chunk. record { placed = epoch; held = true }) stripe) j).placed ≡ (chunk_at stripe j).placed)
    by (inl same) = inl (ap suc same.0, same.1)
    by (inr same) = inr same

among_image : (f : ℕ → ℕ) (n : ℕ) (ns : List ℕ) → is_among n ns ≡ true → is_among (f n) (map f ns) ≡ true
among_image f n [] e = absurd (true≢false (sym e))
among_image f n (m ∷ ns) e = by (or_cases (nat_eq n m) (is_among n ns) e) (among_image f n ns)
  where
    by : (nat_eq n m ≡ true) ⊎ (is_among n ns ≡ true) → (is_among n ns ≡ true → is_among (f n) (map f ns) ≡ true) → (nat_eq (f n) (f m) || is_among (f n) (map f ns)) ≡ true
    by (inl here) rest = or_left _ _ (eq-eqb (f n) (f m) (ap f (eqb-true n m here)))
    by (inr later) rest = or_right _ _ (rest later)

-- ---- versions of which one is placed anew
abbrev pub raised_in : ℕ → ℕ → Version → Version
raised_in target epoch version = record version { placed = change_at target (placed_anew epoch) version.placed }

placed_here : (target epoch n : ℕ) (versions : List Version) →
    placed_of (slice_get (change_at n (raised_in target epoch) versions) n) ≡ change_at target (placed_anew epoch) (placed_of (slice_get versions n))
placed_here target epoch n [] = refl
placed_here target epoch zero (x ∷ versions) = refl
placed_here target epoch (suc n) (x ∷ versions) = placed_here target epoch n versions

-- what is looked for by its number and its standing is found where it was
found_again : (test : ℕ → Standing → Bool) (target epoch n i : ℕ) (versions : List Version) →
    option_map (λ entry. entry.0) (find (λ entry. test entry.0 entry.1.standing) (enumerate_from i (change_at n (raised_in target epoch) versions)))
    ≡ option_map (λ entry. entry.0) (find (λ entry. test entry.0 entry.1.standing) (enumerate_from i versions))
found_again test target epoch n i [] = refl
found_again test target epoch zero i (x ∷ versions) = by (test i x.standing) (find (λ (entry : ℕ × Version). test entry.0 entry.1.standing) (enumerate_from (i + 1) versions))
  where
    by : (b : Bool) (rest : Option (ℕ × Version)) →
        option_map (λ (entry : ℕ × Version). entry.0) (cond b (Some (i, raised_in target epoch x)) rest) ≡ option_map (λ (entry : ℕ × Version). entry.0) (cond b (Some (i, x)) rest)
    by true rest = refl
    by false rest = refl
found_again test target epoch (suc n) i (x ∷ versions) = by (test i x.standing) (found_again test target epoch n (i + 1) versions)
  where
    by : (b : Bool) →
        option_map (λ (entry : ℕ × Version). entry.0) (find (λ (entry : ℕ × Version). test entry.0 entry.1.standing) (enumerate_from (i + 1) (change_at n (raised_in target epoch) versions)))
        ≡ option_map (λ (entry : ℕ × Version). entry.0) (find (λ (entry : ℕ × Version). test entry.0 entry.1.standing) (enumerate_from (i + 1) versions)) →
        option_map (λ (entry : ℕ × Version). entry.0) (cond b (Some (i, x)) (find (λ (entry : ℕ × Version). test entry.0 entry.1.standing) (enumerate_from (i + 1) (change_at n (raised_in target epoch) versions))))
        ≡ option_map (λ (entry : ℕ × Version). entry.0) (cond b (Some (i, x)) (find (λ (entry : ℕ × Version). test entry.0 entry.1.standing) (enumerate_from (i + 1) versions)))
    by true rest = refl
    by false rest = rest

-- ---- a server's chunk of a live number's version is placed anew
module _ (stands : List ℕ) (p : Places) (s : Session) (h : IsSeenAs p.directory.shape p.directory.max stands p s) (n : ℕ) (live : is_among n (live_numbers s) ≡ true)
    (target : ℕ) (one : Server) (found : slice_get p.servers target ≡ Some one) (last : Directory) where
  abbrev d : Directory
  d = p.directory

  abbrev pub version : ℕ
  version = version_of stands n

  abbrev pub epoch : ℕ
  epoch = get_or s.epochs target 0

  abbrev pub left : Places
  left = record { directory = last; servers = change_at target (λ _. with_version (version_of stands n) one) p.servers }

  abbrev pub state_anew : Session
  state_anew = place_anew n target s

  -- what is known of the directory then
  pub record Anew : Type 0 where
    pub shape : last.shape ≡ d.shape
    pub most : last.max ≡ d.max
    pub objects : last.objects ≡ d.objects
    pub versions : last.versions ≡ change_at (version_of stands n) (raised_in target (get_or s.epochs target 0)) d.versions
    pub passes : last.passes ≡ d.passes
    pub sound : IsSound last

  module _ (f : Anew) where
    abbrev chunk_anew : Chunk
    chunk_anew = record { placed = epoch; held = true }

    abbrev anew : Stripe → Stripe
    anew stripe = change_at target (λ chunk. chunk_anew) stripe

    same_one : (x : Server) → slice_get p.servers target ≡ Some x → one ≡ x
    same_one x e = same_Some one x (sym found ∙ e)

    stands_anew : (stripe : Stripe) → ((chunk_at stripe target).placed ≤ epoch) → StandsFor p stripe version → StandsFor left (anew stripe) version
    stands_anew stripe before stand = record {
      placed =
          ap (λ versions. placed_of (slice_get versions version)) f.versions ∙ placed_here target epoch version d.versions
          ∙ ap (change_at target (placed_anew epoch)) stand.placed
          ∙ sym (map_changed (λ (chunk : Chunk). placement.At chunk.placed) target (λ chunk. chunk_anew) (placed_anew epoch) stripe (λ chunk e. ap (λ n. placement.At n) (risen chunk e)));
      held =
          map_changed (λ (x : Server). is_among version x.held) target (λ _. with_version version one) (λ _. true) p.servers
          (λ x e. among_hold version version one.held ∙ or_left _ _ (eq-eqb version version refl))
          ∙ ap (change_at target (λ _. true)) stand.held
          ∙ sym (map_changed (λ (chunk : Chunk). chunk.held) target (λ chunk. chunk_anew) (λ _. true) stripe (λ chunk e. refl));
    }
      where
        risen : (chunk : Chunk) → slice_get stripe target ≡ Some chunk → epoch ≡ max epoch chunk.placed
        risen chunk e =
            let same : (chunk_at stripe target).placed ≡ chunk.placed = ap (λ (c : Chunk). c.placed) (chunk_there stripe target chunk e) in
            omega (arith, before, same)

    stands_still : (stripe : Stripe) (other : ℕ) → (other ≡ version → ⊥) → StandsFor p stripe other → StandsFor left stripe other
    stands_still stripe other apart stand = record {
      placed =
          ap (λ versions. placed_of (slice_get versions other)) f.versions
          ∙ ap placed_of (slice_other version (raised_in target epoch) d.versions other apart) ∙ stand.placed;
      held =
          map_kept (λ (x : Server). is_among other x.held) target (λ _. with_version version one) p.servers
          (λ x e. among_hold other version one.held ∙ ap (λ b. b || is_among other one.held) (ne_eqb other version apart) ∙ ap (λ (y : Server). is_among other y.held) (same_one x e))
          ∙ stand.held;
    }

    stripes_anew : (m : ℕ) → is_among m (live_numbers s) ≡ true → StandsFor left (get_or state_anew.stripes m []) (version_of stands m)
    stripes_anew m also = cases (nat_eq m n) here elsewhere
      where
        here : nat_eq m n ≡ true → StandsFor left (get_or state_anew.stripes m []) (version_of stands m)
        here e =
            subst (λ k. StandsFor left (get_or state_anew.stripes k []) (version_of stands k)) (sym (eqb-true m n e))
            (subst (λ stripe. StandsFor left stripe version) (sym (changed_here n anew refl s.stripes)) (stands_anew (get_or s.stripes n []) (h.timely n target) (h.stripes n live)))

        elsewhere : nat_eq m n ≡ false → StandsFor left (get_or state_anew.stripes m []) (version_of stands m)
        elsewhere e =
            let other : m ≡ n → ⊥ = λ same. true≢false (sym (eq-eqb m n same) ∙ e) in
            subst (λ stripe. StandsFor left stripe (version_of stands m)) (sym (changed_elsewhere n m anew [] s.stripes other))
            (stands_still (get_or s.stripes m []) (version_of stands m) (λ same. other (h.apart m n also live same)) (h.stripes m also))

    timely_anew : IsTimely state_anew
    timely_anew m server = cases (nat_eq m n) here elsewhere
      where
        at_it : (stripe : Stripe) → (chunk_at stripe server).placed ≤ get_or s.epochs server 0 → (chunk_at (anew stripe) server).placed ≤ get_or s.epochs server 0
        at_it stripe was = by (anew_or_old target server epoch stripe)
          where
            by : ((server ≡ target) × ((chunk_at (anew stripe) server).placed ≡ epoch)) ⊎ ((chunk_at (anew stripe) server).placed ≡ (chunk_at stripe server).placed) →
                (chunk_at (anew stripe) server).placed ≤ get_or s.epochs server 0
            by (inl same) =
                let now : get_or s.epochs server 0 ≡ epoch = ap (λ j. get_or s.epochs j 0) same.0 in
                let it : (chunk_at (anew stripe) server).placed ≡ epoch = same.1 in
                omega (arith, now, it)
            by (inr same) = let it : (chunk_at (anew stripe) server).placed ≡ (chunk_at stripe server).placed = same in omega (arith, was, it)

        here : nat_eq m n ≡ true → (chunk_at (get_or state_anew.stripes m []) server).placed ≤ get_or s.epochs server 0
        here e =
            subst (λ k. (chunk_at (get_or state_anew.stripes k []) server).placed ≤ get_or s.epochs server 0) (sym (eqb-true m n e))
            (subst (λ stripe. (chunk_at stripe server).placed ≤ get_or s.epochs server 0) (sym (changed_here n anew refl s.stripes)) (at_it (get_or s.stripes n []) (h.timely n server)))

        elsewhere : nat_eq m n ≡ false → (chunk_at (get_or state_anew.stripes m []) server).placed ≤ get_or s.epochs server 0
        elsewhere e =
            subst (λ stripe. (chunk_at stripe server).placed ≤ get_or s.epochs server 0) (sym (changed_elsewhere n m anew [] s.stripes (λ same. true≢false (sym (eq-eqb m n same) ∙ e))))
            (h.timely m server)

    pub seen_anew : IsSeenAs d.shape d.max stands left state_anew
    seen_anew = record {
      shape = f.shape;
      most = f.most;
      sound = f.sound;
      servers = changed_length target (λ _. with_version version one) p.servers ∙ h.servers;
      present = all_changed (λ (x : Server). x.away ≡ false) target (λ _. with_version version one) p.servers h.present (λ x e away. ap (λ (y : Server). y.away) (same_one x e) ∙ away);
      epochs = map_kept (λ (x : Server). x.epoch) target (λ _. with_version version one) p.servers (λ x e. ap (λ (y : Server). y.epoch) (same_one x e)) ∙ h.epochs;
      lengths = ap (map (λ (object : Object). let pair : List ℕ × ℕ = (object.name, object.length) in pair)) f.objects ∙ h.lengths;
      versions = ap (map (λ (object : Object). let pair : List ℕ × List ℕ = (object.name, object.versions) in pair)) f.objects ∙ h.versions;
      count = h.count ∙ sym (changed_length n anew s.stripes);
      stripes = stripes_anew;
      apart = h.apart;
      timely = timely_anew;
      names = h.names;
    }

    pub quiet_anew : IsQuiet stands p s → IsQuiet stands left state_anew
    quiet_anew quiet = record {
      passes = subst (λ passes. All (IsOfSnapshot (map (version_of stands) (snapshot_numbers s.snapshot))) passes) (sym f.passes) quiet.passes;
      clean =
          ap (λ versions. first_garbage (record last { versions = versions })) f.versions
          ∙ ap (λ passes. first_garbage (record d { versions = change_at version (raised_in target epoch) d.versions; passes = passes })) f.passes
          ∙ found_again (λ v standing. is_superseded_standing standing && not (is_pinned d v)) target epoch version 0 d.versions ∙ quiet.clean;
      held =
          all_changed (λ (x : Server). All (λ v. IsTrue (is_among v (map (version_of stands) (live_numbers s)))) x.held) target (λ _. with_version version one) p.servers quiet.held
          (λ x e held. all_hold (λ v. IsTrue (is_among v (map (version_of stands) (live_numbers s)))) version one.held (among_image (version_of stands) n (live_numbers s) live)
          (subst (λ (y : Server). All (λ v. IsTrue (is_among v (map (version_of stands) (live_numbers s)))) y.held) (sym (same_one x e)) held));
      standing =
          subst (λ versions. All IsAtRest versions) (sym f.versions) (all_changed IsAtRest version (raised_in target epoch) d.versions quiet.standing (λ x e rest. rest));
    }

    pub pinned_anew : KeepsPinned stands p s → KeepsPinned stands left state_anew
    pinned_anew pinned m kept = ap (list_any (pins_it (version_of stands m))) f.passes ∙ pinned m kept

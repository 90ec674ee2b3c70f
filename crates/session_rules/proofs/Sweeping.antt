-- A sweep of a version that stands for no live number is unseen.
use Rattle.std.proofs.Common.{◌≡◌, ◌⊎◌, ℕ, zero, suc, ◌+◌, ◌*◌, ◌-◌, ◌<◌, ◌≤◌, min, Bool, true, false, not, ◌&&◌, ◌||◌, cond, List, [], ◌∷◌, ◌++◌, length, map, get_or, take, filter, find, slice_get, Option, None, Some, option_map, All, IfSome, IsTrue, replicate, unwrap_or, refl, sym, ap, subst, subst₂, ◌∙◌, ◌/◌, inl, inr, arith, if◌then◌else◌, nat_lt, nat_eq, bytes_eq}
use Rattle.std.proofs.lemmas.List.{ext_get_or, length-map, append-nil, get_or-map as get_or_at, get_or_past, get_or_append_left, get_or-append_right, get_or-replicate, length-replicate}
use Rattle.session_rules.proofs.Counting.{among_kept}
use Rattle.std.proofs.lemmas.List.Elements.{All-contains, All-replicate}
use Rattle.std.proofs.lemmas.Simd.{map-map}
use Rattle.std.proofs.lemmas.Bool.{le-ltb, lt-ltb, ne_eqb, eq-eqb}
use Rattle.clay_grid.specs.Shape.{Shape, chunk_count, stripe_length}
use Rattle.store_map.specs.declared.actor.Actor.TheVariants as actor
use Rattle.store_core.specs.Lists.{is_among}
use Rattle.store_core.specs.Told.{Told}
use Rattle.store_core.specs.Act.{Act, DirectoryStep, ServerStep}
use Rattle.store_core.specs.Directory.{Standing, Directory}
use Rattle.store_core.specs.Lookups.{first_garbage}
use Rattle.store_core.specs.Look.{set_standing}
use Rattle.store_core.specs.Lists.{change_at}
use Rattle.store_core.specs.AtDirectory.{at_directory}
use Rattle.store_core.specs.Server.{Server, let_go}
use Rattle.store_core.specs.Step.{Places, at_places, at_server_there}
use Rattle.store_core.specs.Sound.{IsSound}
use Rattle.run_laws.proofs.SoundSteps.{steps_keep_sound}
use Rattle.session_rules.specs.State.{Stripe, State as Session}
use Rattle.session_rules.specs.Seen.{version_of, StandsFor, IsSeenAs}
use Rattle.store_core.specs.Sweep.{Sweeper, after_sweep}
use Rattle.store_core.specs.AtDirectory.{take_garbage, swept_standing}
use Rattle.session_rules.specs.Alone.{Sweeping, sweep, sweeps}
use Rattle.session_rules.specs.Sweeps.{IsUnseen, IsSwept, SweepsAreUnseen}
use Rattle.session_rules.proofs.Placed.{placed_kept, placed_changed}
use Rattle.session_rules.proofs.Writes.{all_mapped, at_seam, changed_seam}

map_same : {X Y : Type 0} (f k : X → Y) → ((x : X) → f x ≡ k x) → (xs : List X) → map f xs ≡ map k xs
map_same f k same [] = refl
map_same {Y = Y} f k same (x ∷ xs) = ap (λ y. y ∷ map f xs) (same x) ∙ ap (λ ys. k x ∷ ys) (map_same f k same xs)

-- a server without a version
abbrev pub without : ℕ → Server → Server
without version s = record s { held = let_go version s.held }

module _ (g : Shape) where
  -- some steps of the sweeper lead from one moment to another
  pub record Sweeps (w to : Sweeping) : Type 0 where
    pub made : ℕ
    pub comes : sweeps g made w ≡ to

  pub first_sweep : (w next to : Sweeping) → sweep g w ≡ next → Sweeps next to → Sweeps w to
  first_sweep w next to e c = record { made = suc c.made; comes = ap (sweeps g c.made) e ∙ c.comes }

module _ (g : Shape) (version : ℕ) where
  abbrev at : ℕ → Directory → List Server → Sweeping
  at server d servers = record { sweeper = Sweeper.Sweeping version server; places = record { directory = d; servers = servers } }

  discards : (d : Directory) (done rest : List Server) (to : Sweeping) → length done + length rest ≡ chunk_count g →
      Sweeps g (at (chunk_count g) d (done ++ map (without version) rest)) to → Sweeps g (at (length done) d (done ++ rest)) to
  discards d done [] to count c =
      let same : length done ≡ chunk_count g = omega (arith, count) in
      subst (λ n. Sweeps g (at n d (done ++ [])) to) (sym same) c
  discards d done (x ∷ rest) to count c = by (discards d (done ++ without version x ∷ []) rest to)
    where
      less : length done < chunk_count g
      less = omega (arith, count)

      more : length (done ++ without version x ∷ []) ≡ length done + 1
      more = Rattle.std.proofs.Common.length-append done (without version x ∷ [])

      made : sweep g (at (length done) d (done ++ x ∷ rest)) ≡ at (length (done ++ without version x ∷ [])) d ((done ++ without version x ∷ []) ++ rest)
      made =
          ap (λ b.
          let next : Act = if b then Act.AtServer (length done) (ServerStep.Discard version) else Act.AtDirectory (DirectoryStep.Swept version) in
          let after : Places × Told = at_places false actor.Sweeper 0 next (record { directory = d; servers = done ++ x ∷ rest }) in
          let w : Sweeping = record { sweeper = if b then Sweeper.Sweeping version (length done + 1) else Sweeper.Idle; places = after.0 } in w) (lt-ltb (length done) (chunk_count g) less)
          ∙ ap (λ (f : Option Server).
          let after : Places × Told = at_server_there false (length done) (ServerStep.Discard version) (record { directory = d; servers = done ++ x ∷ rest }) f in
          let w : Sweeping = record { sweeper = Sweeper.Sweeping version (length done + 1); places = after.0 } in w) (at_seam done x rest)
          ∙ ap (at (length done + 1) d) (changed_seam (λ _. without version x) done x rest)
          ∙ ap (λ n. at n d ((done ++ without version x ∷ []) ++ rest)) (sym more)

      by : (length (done ++ without version x ∷ []) + length rest ≡ chunk_count g → Sweeps g (at (chunk_count g) d ((done ++ without version x ∷ []) ++ map (without version) rest)) to →
          Sweeps g (at (length (done ++ without version x ∷ [])) d ((done ++ without version x ∷ []) ++ rest)) to) →
          Sweeps g (at (length done) d (done ++ x ∷ rest)) to
      by next =
          first_sweep g (at (length done) d (done ++ x ∷ rest)) (at (length (done ++ without version x ∷ [])) d ((done ++ without version x ∷ []) ++ rest)) to made
          (next (omega (arith, count, more))
          (subst (λ servers. Sweeps g (at (chunk_count g) d servers) to) (sym (Rattle.std.proofs.Common.append_assoc done (without version x ∷ []) (map (without version) rest))) c))

  module _ (stands : List ℕ) (p : Places) (s : Session) (h : IsSeenAs p.directory.shape p.directory.max stands p s) (same_shape : p.directory.shape ≡ g) (some : 0 < stripe_length p.directory.shape)
      (garbage : first_garbage p.directory ≡ Some version) (unseen : IsUnseen stands s version) where
    abbrev pub d : Directory
    d = p.directory

    abbrev pub taken : Directory
    taken = record d { versions = set_standing Standing.Taken (version ∷ []) d.versions }

    abbrev pub swept : Directory
    swept = record taken { versions = change_at version (λ entry. record entry { standing = swept_standing entry.standing }) taken.versions }

    abbrev pub q : Places
    q = record { directory = swept; servers = map (without version) p.servers }

    take_made : at_directory false actor.Sweeper 0 DirectoryStep.NextGarbage d ≡ (taken, Told.Taken (Some version))
    take_made = ap (λ f. take_garbage f d) garbage

    pub way : (to : Sweeping) → Sweeps g (record { sweeper = Sweeper.Idle; places = q }) to → Sweeps g (record { sweeper = Sweeper.Idle; places = p }) to
    way to c =
        first_sweep g (record { sweeper = Sweeper.Idle; places = p }) (at 0 taken p.servers) to
        (ap (λ (r : Directory × Told). let w : Sweeping = record { sweeper = after_sweep (chunk_count g) Sweeper.Idle r.1; places = record p { directory = r.0 } } in w) take_made)
        (discards taken [] p.servers to count
        (first_sweep g (at (chunk_count g) taken (map (without version) p.servers)) (record { sweeper = Sweeper.Idle; places = q }) to
        (ap (λ b.
        let next : Act = if b then Act.AtServer (chunk_count g) (ServerStep.Discard version) else Act.AtDirectory (DirectoryStep.Swept version) in
        let after : Places × Told = at_places false actor.Sweeper 0 next (record { directory = taken; servers = map (without version) p.servers }) in
        let w : Sweeping = record { sweeper = if b then Sweeper.Sweeping version (chunk_count g + 1) else Sweeper.Idle; places = after.0 } in w) (le-ltb (chunk_count g) (chunk_count g) (omega arith)))
        c))
      where
        count : length {A = Server} [] + length p.servers ≡ chunk_count g
        count = let all : length p.servers ≡ chunk_count p.directory.shape = h.servers in let same : chunk_count p.directory.shape ≡ chunk_count g = ap chunk_count same_shape in omega (arith, all, same)

    taken_sound : IsSound taken
    taken_sound = subst (λ (r : Directory × Told). IsSound r.0) take_made (steps_keep_sound.step false actor.Sweeper 0 DirectoryStep.NextGarbage d some h.sound tt)

    swept_sound : IsSound swept
    swept_sound = steps_keep_sound.step false actor.Sweeper 0 (DirectoryStep.Swept version) taken some taken_sound tt

    still : (stripe : Stripe) (v : ℕ) → nat_eq version v ≡ false → StandsFor p stripe v → StandsFor q stripe v
    still stripe v apart stand = record {
      placed =
          placed_changed version (λ entry. record entry { standing = swept_standing entry.standing }) (λ x. refl) taken.versions v
          ∙ placed_kept Standing.Taken (version ∷ []) d.versions v ∙ stand.placed;
      held =
          map-map (λ (one : Server). is_among v one.held) (without version) p.servers
          ∙ map_same (λ (one : Server). is_among v (let_go version one.held)) (λ one. is_among v one.held) kept p.servers
          ∙ stand.held;
    }
      where
        whole : (b : Bool) → (b && true) ≡ b
        whole true = refl
        whole false = refl

        kept : (one : Server) → is_among v (let_go version one.held) ≡ is_among v one.held
        kept one = among_kept (λ other. not (nat_eq version other)) v one.held ∙ ap (λ b. is_among v one.held && not b) apart ∙ whole (is_among v one.held)

    pub seen_still : IsSeenAs d.shape d.max stands q s
    seen_still = record {
      shape = refl;
      most = refl;
      sound = swept_sound;
      servers = length-map p.servers (without version) ∙ h.servers;
      present = all_mapped (λ (one : Server). one.away ≡ false) (without version) (λ one e. e) p.servers h.present;
      epochs = map-map (λ (one : Server). one.epoch) (without version) p.servers ∙ h.epochs;
      lengths = h.lengths;
      versions = h.versions;
      count = h.count;
      apart = h.apart;
      timely = h.timely;
      names = h.names;
      stripes = λ number live.
          still (get_or s.stripes number []) (version_of stands number) (ne_eqb version (version_of stands number) (λ e. unseen number live (sym e))) (h.stripes number live);
    }

    nobody : (servers : List Server) → All (λ one. is_among version one.held ≡ false) (map (without version) servers)
    nobody [] = λ k d less. absurd (omega (arith, less))
    nobody (one ∷ servers) =
        Rattle.std.proofs.lemmas.List.Elements.All-cons (λ (one : Server). is_among version one.held ≡ false) (without version one) (map (without version) servers)
        (among_kept (λ other. not (nat_eq version other)) version one.held ∙ ap (λ b. is_among version one.held && not b) (eq-eqb version version refl) ∙ none (is_among version one.held)) (nobody servers)
      where
        none : (b : Bool) → (b && false) ≡ false
        none true = refl
        none false = refl

    pub one_swept : IsSwept g p.directory.max stands p s version
    one_swept = record { made = done.made; after = q; idle = done.comes; seen = subst (λ g. IsSeenAs g p.directory.max stands q s) same_shape seen_still; gone = nobody p.servers }
      where
        done : Sweeps g (record { sweeper = Sweeper.Idle; places = p }) (record { sweeper = Sweeper.Idle; places = q })
        done = way (record { sweeper = Sweeper.Idle; places = q }) (record { made = 0; comes = refl })

pub sweeps_are_unseen : SweepsAreUnseen
sweeps_are_unseen g max stands p s version some h garbage unseen =
    subst (λ max. IsSwept g max stands p s version) h.most
    (one_swept g version stands p s (subst₂ (λ g max. IsSeenAs g max stands p s) (sym h.shape) (sym h.most) h) h.shape (subst (λ g. 0 < stripe_length g) (sym h.shape) some) garbage unseen)

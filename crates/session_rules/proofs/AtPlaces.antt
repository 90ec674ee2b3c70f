-- What a look sees of an object, and how servers answer of it.
use Rattle.std.proofs.Common.{◌≡◌, ℕ, ◌+◌, ◌<◌, Bool, true, false, not, cond, List, [], ◌∷◌, length, map, get_or, take, filter, find, None, Some, IsTrue, refl, sym, ap, subst, ◌∙◌, arith}
use Rattle.std.proofs.lemmas.Option.{none-some, slice_get-get_or}
use Rattle.std.proofs.lemmas.List.{length-map, append-nil, get_or-map as get_or_at}
use Rattle.std.proofs.lemmas.List.Elements.{All-contains}
use Rattle.std.proofs.lemmas.Simd.{map-map}
use Rattle.std.proofs.Math.ListN.{get_or-map}
use Rattle.std.proofs.lemmas.Bool.{or_left, eq-eqb}
use Rattle.clay_grid.specs.Shape.{Shape, chunk_count}
use Rattle.store_map.specs.PlainMap.{bytes_of}
use Rattle.store_map.specs.declared.actor.Actor.{Actor}
use Rattle.store_map.specs.declared.actor.Actor.TheVariants as actor
use Rattle.store_map.specs.declared.placement.Placement.TheVariants as placement
use Rattle.store_map.specs.declared.placement.Found.TheVariants as found
use Rattle.store_core.specs.Lists.{is_among}
use Rattle.store_core.specs.Told.{Lost}
use Rattle.store_core.specs.Directory.{Object, Pass}
use Rattle.store_core.specs.Lookups.{same_actor}
use Rattle.store_core.specs.Look.{seen_at}
use Rattle.store_core.specs.Gathering.{Part, lost_at}
use Rattle.store_core.specs.Server.{Server, new_server}
use Rattle.store_core.specs.Step.{Places}
use Rattle.run_laws.proofs.SoundLists.{all_at, at_all, is_in}
use Rattle.run_laws.specs.State.{Sequel}
use Rattle.run_laws.specs.States.{parts_state, open_parts, open_state}
use Rattle.session_rules.specs.State.{Chunk, Stripe, State as Session, stripe_at}
use Rattle.session_rules.specs.declared.session_answer.Missing.{Missing}
use Rattle.session_rules.specs.Gathered.{lacking, asked_first, named}
use Rattle.session_rules.specs.Seen.{version_of, live_numbers, all_numbers, snapshot_numbers, StandsFor, IsSeenAs}
use Rattle.session_rules.specs.Outcomes.{lost_as}
use Rattle.session_rules.proofs.Counting.{among_append}
use Rattle.session_rules.proofs.Parts.{Answers}
use Rattle.session_rules.proofs.Names.{among_all}

cases : {P : Type 0} (b : Bool) → (b ≡ true → P) → (b ≡ false → P) → P
cases true t f = t refl
cases false t f = f refl

pub map_same : {X Y : Type 0} (f k : X → Y) → ((x : X) → f x ≡ k x) → (xs : List X) → map f xs ≡ map k xs
map_same f k same [] = refl
map_same {Y = Y} f k same (x ∷ xs) = ap (λ y. y ∷ map f xs) (same x) ∙ ap (λ ys. k x ∷ ys) (map_same f k same xs)

pub self : (who : Actor) → same_actor who who ≡ true
self (actor.Client i) = eq-eqb i i refl
self (actor.Repairer i) = eq-eqb i i refl
self actor.Sweeper = refl
self actor.Operator = refl

-- without a pass of this actor none is closed
pub none_closed : (who : Actor) (passes : List Pass) → find (λ pass. same_actor who pass.actor) passes ≡ None → filter (λ other. not (same_actor who other.actor)) passes ≡ passes
none_closed who [] e = refl
none_closed who (pass ∷ passes) e = by (same_actor who pass.actor) e (none_closed who passes)
  where
    by : (b : Bool) → cond b (Some pass) (find (λ (pass : Pass). same_actor who pass.actor) passes) ≡ None →
        (find (λ (pass : Pass). same_actor who pass.actor) passes ≡ None → filter (λ (other : Pass). not (same_actor who other.actor)) passes ≡ passes) →
        cond (not b) (pass ∷ filter (λ (other : Pass). not (same_actor who other.actor)) passes) (filter (λ (other : Pass). not (same_actor who other.actor)) passes) ≡ pass ∷ passes
    by true e rest = absurd (none-some pass (sym e))
    by false e rest = ap (λ l. pass ∷ l) (rest e)

pub opened_parts : (g : Shape) (parts : List Part) (point : ℕ) → open_state g (parts_state parts (Sequel.Serve point)) ≡ open_parts g parts (Sequel.Serve point)
opened_parts g [] point = refl
opened_parts g (part ∷ parts) point = refl

-- ---- a stripe of the object at a place
module _ (stands : List ℕ) (p : Places) (s : Session) (h : IsSeenAs p.directory.shape p.directory.max stands p s) (name : List ℕ) (object : Object) (numbers : List ℕ)
    (of_name : bytes_of name s.numbers ≡ Some numbers) (same : object.versions ≡ map (version_of stands) numbers) where
  abbrev pub stripe_of : ℕ → Stripe
  stripe_of i = stripe_at s.stripes numbers i

  abbrev pub version_at : ℕ → ℕ
  version_at i = get_or object.versions i 0

  pub version_is : (i : ℕ) → i < length numbers → version_at i ≡ version_of stands (get_or numbers i 0)
  version_is i less = ap (λ versions. get_or versions i 0) same ∙ get_or_at (version_of stands) numbers i 0 0 less

  stands_at : (i : ℕ) → i < length numbers → StandsFor p (stripe_of i) (version_at i)
  stands_at i less =
      subst (λ v. StandsFor p (stripe_of i) v) (sym (version_is i less))
      (h.stripes (get_or numbers i 0) live)
    where
      here : is_among (get_or numbers i 0) numbers ≡ true
      here = among numbers i less
        where
          among : (ns : List ℕ) (i : ℕ) → i < length ns → is_among (get_or ns i 0) ns ≡ true
          among ns i less = Rattle.run_laws.proofs.SoundLists.among (get_or ns i 0) ns (Rattle.std.proofs.lemmas.List.Elements.Contains-get_or ns i 0 less)

      is : is_among (get_or numbers i 0) (live_numbers s) ≡ true
      is =
          among_append (get_or numbers i 0) (all_numbers s.numbers) (snapshot_numbers s.snapshot)
          ∙ or_left (is_among (get_or numbers i 0) (all_numbers s.numbers)) (is_among (get_or numbers i 0) (snapshot_numbers s.snapshot)) (among_all name numbers (get_or numbers i 0) s.numbers of_name here)

      live : IsTrue (is_among (get_or numbers i 0) (live_numbers s))
      live = is

  pub answers_at : (i : ℕ) → i < length numbers → (j : ℕ) → j < chunk_count p.directory.shape → Answers s.epochs p.servers (stripe_of i) (version_at i) j
  answers_at i less j there = record {
    server = get_or p.servers j new_server;
    found = slice_get-get_or p.servers j new_server within;
    present = at_all (λ (one : Server). one.away ≡ false) p.servers j (get_or p.servers j new_server) h.present (slice_get-get_or p.servers j new_server within);
    held =
        sym (get_or_at (λ (one : Server). is_among (version_at i) one.held) p.servers j new_server false within)
        ∙ ap (λ flags. get_or flags j false) (stands_at i less).held
        ∙ get_or-map (λ (chunk : Chunk). chunk.held) (stripe_of i) j (record { placed = 0; held = false });
    epoch = sym (get_or_at (λ (one : Server). one.epoch) p.servers j new_server 0 within) ∙ ap (λ epochs. get_or epochs j 0) h.epochs;
  }
    where
      within : j < length p.servers
      within = let count : length p.servers ≡ chunk_count p.directory.shape = h.servers in omega (arith, there, count)

  -- the servers that are named
  lost_same : (i : ℕ) → i < length numbers → (j : ℕ) →
      lost_as (record { server = j; placed = (get_or (stripe_of i) j (record { placed = 0; held = false })).placed; found = get_or s.epochs j 0 })
      ≡ lost_at p.directory.shape (seen_at p.directory object i) j (found.Absent (get_or s.epochs j 0))
  lost_same i less j =
      ap (λ placed. let lost : Lost = record { server = j; placed = placed; found = found.Absent (get_or s.epochs j 0) } in lost)
      (sym (get_or-map (λ (chunk : Chunk). placement.At chunk.placed) (stripe_of i) j (record { placed = 0; held = false })) ∙ sym (ap (λ row. get_or row j (placement.At 0)) (stands_at i less).placed))

  pub named_same : (i : ℕ) → i < length numbers → (first : List ℕ) →
      map lost_as (named p.directory.shape s.epochs (stripe_of i) (stripe_of i) first)
      ≡ map (λ j. lost_at p.directory.shape (seen_at p.directory object i) j (found.Absent (get_or s.epochs j 0))) (take (p.directory.shape.parity_count + 1) (lacking (stripe_of i) (asked_first p.directory.shape first)))
  named_same i less first =
      map-map lost_as (λ server. let missing : Missing = record { server = server; placed = (get_or (stripe_of i) server (record { placed = 0; held = false })).placed; found = get_or s.epochs server 0 } in missing)
      (take (p.directory.shape.parity_count + 1) (lacking (stripe_of i) (asked_first p.directory.shape first)))
      ∙ map_same _ (λ j. lost_at p.directory.shape (seen_at p.directory object i) j (found.Absent (get_or s.epochs j 0))) (lost_same i less)
      (take (p.directory.shape.parity_count + 1) (lacking (stripe_of i) (asked_first p.directory.shape first)))

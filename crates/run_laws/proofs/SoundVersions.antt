-- The versions after a change of standings, version by version.
use Rattle.std.proofs.Common.{◌≡◌, ◌⊎◌, ℕ, zero, suc, ◌<◌, ◌≤◌, nat_eq, Bool, true, false, ◌||◌, List, [], ◌∷◌, length, get_or, fold, zip, slice_get, Option, None, Some, IfSome, Contains, refl, sym, ap, subst, ◌∙◌, inl, inr, arith}
use Rattle.std.proofs.lemmas.Bool.{false≢true, cases_eq, cases_Bool, eq-eqb, ne_eqb}
use Rattle.std.proofs.lemmas.Option.{same_Some, none-some, slice_get_within, slice_get_cases}
use Rattle.store_core.specs.Placements.{skipped_count, placed_anew}
use Rattle.store_map.specs.declared.placement.Placement.{Placement}
use Rattle.store_map.specs.declared.placement.Placement.TheVariants as placement
use Rattle.store_core.specs.Lists.{change_at, is_among}
use Rattle.store_core.specs.Directory.{Standing, Version, Pin}
use Rattle.store_core.specs.Look.{set_standing}
use Rattle.store_core.specs.Commit.{place_all}
use Rattle.store_core.proofs.Places.{length-change_at, length-fold, slice_get-change_at}

-- ---- a version that stands
-- the version with this number has such a standing, among these versions
abbrev pub StandsIn : List Version → Standing → ℕ → Type 0
StandsIn versions standing number = IfSome (slice_get versions number) (λ version. version.standing ≡ standing) × (number < length versions)

-- the version itself
pub record StandsThere (versions : List Version) (standing : Standing) (number : ℕ) : Type 0 where
  pub version : Version
  pub found : slice_get versions number ≡ Some version
  pub stands : version.standing ≡ standing

-- there is one
pub stands_there : (versions : List Version) (standing : Standing) (number : ℕ) → StandsIn versions standing number → StandsThere versions standing number
stands_there versions standing number h = by (slice_get_cases versions number).1
  where
    by : ((v : Version) × (number < length versions) × (slice_get versions number ≡ Some v) × (get_or versions number v ≡ v)) ⊎ ((length versions ≤ number) × (slice_get versions number ≡ None)) → StandsThere versions standing number
    by (inl k) = record { version = k.0; found = k.2; stands = subst (λ (o : Option Version). IfSome o (λ version. version.standing ≡ standing)) k.2 h.0 }
    by (inr k) = absurd (let less : number < length versions = h.1 in let more : length versions ≤ number = k.0 in omega (arith, less, more))

-- what is found with its standing stands so
pub stands_at : (versions : List Version) (standing : Standing) (number : ℕ) (version : Version) → slice_get versions number ≡ Some version → version.standing ≡ standing → StandsIn versions standing number
stands_at versions standing number version e h =
    (subst (λ (o : Option Version). IfSome o (λ v. v.standing ≡ standing)) (sym e) h, slice_get_within versions number version e)

-- what stands so has its standing
pub standing_of : (versions : List Version) (standing : Standing) (number : ℕ) (version : Version) → StandsIn versions standing number → slice_get versions number ≡ Some version → version.standing ≡ standing
standing_of versions standing number version h e = subst (λ (o : Option Version). IfSome o (λ v. v.standing ≡ standing)) e h.0

-- ---- one number
-- the element that is changed
pub change_here : {X : Type 0} (i : ℕ) (f : X → X) (xs : List X) (x : X) → slice_get xs i ≡ Some x → slice_get (change_at i f xs) i ≡ Some (f x)
change_here i f [] x e = absurd (none-some x e)
change_here zero f (y ∷ xs) x e = ap (λ z. Some (f z)) (same_Some y x e)
change_here (suc i) f (y ∷ xs) x e = change_here i f xs x e

-- ---- a standing given to some numbers
-- a version, where it gets the standing or not
abbrev pub given : Standing → Bool → Version → Version
given standing true version = record version { standing = standing }
given standing false version = version

-- each version gets it just where its number is among them
pub set_at : (standing : Standing) (numbers : List ℕ) (versions : List Version) (n : ℕ) (version : Version) → slice_get versions n ≡ Some version
    → slice_get (set_standing standing numbers versions) n ≡ Some (given standing (is_among n numbers) version)
set_at standing [] versions n version e = e
set_at standing (m ∷ ms) versions n version e = by (λ vs v there. set_at standing ms vs n v there) (cases_eq n m)
  where
    set : Version → Version
    set v = record v { standing = standing }

    twice : (b : Bool) → given standing b (set version) ≡ set version
    twice true = refl
    twice false = refl

    by : ((vs : List Version) (v : Version) → slice_get vs n ≡ Some v → slice_get (set_standing standing ms vs) n ≡ Some (given standing (is_among n ms) v)) → (n ≡ m) ⊎ (n ≡ m → ⊥)
        → slice_get (set_standing standing ms (change_at m set versions)) n ≡ Some (given standing (nat_eq n m || is_among n ms) version)
    by rest (inl same) =
        rest (change_at m set versions) (set version) (subst (λ i. slice_get (change_at i set versions) n ≡ Some (set version)) same (change_here n set versions version e))
        ∙ ap Some (twice (is_among n ms)) ∙ sym (ap (λ b. Some (given standing (b || is_among n ms) version)) (eq-eqb n m same))
    by rest (inr apart) =
        rest (change_at m set versions) version (slice_get-change_at m n set versions apart ∙ e)
        ∙ sym (ap (λ b. Some (given standing (b || is_among n ms) version)) (ne_eqb n m apart))

-- ---- versions that are placed
-- a drawn version becomes current with one of the rows, any other stays
pub record IsPlacedBy (drawn : List ℕ) (rows : List (List Placement)) (n : ℕ) (before after : Version) : Type 0 where
  pub other : is_among n drawn ≡ false → after ≡ before
  pub drawn_one : is_among n drawn ≡ true → (row : List Placement) × Contains rows row × (after ≡ record before { placed = row; standing = Standing.Current })

-- how one version moves
pub record PlacedThere (drawn : List ℕ) (rows : List (List Placement)) (versions : List Version) (n : ℕ) (before : Version) : Type 0 where
  pub after : Version
  pub found : slice_get (place_all (zip drawn rows) versions) n ≡ Some after
  pub placed : IsPlacedBy drawn rows n before after

-- an element of the rest is one of the list
later_row : {X : Type 0} (y : X) (xs : List X) (x : X) → Contains xs x → Contains (y ∷ xs) x
later_row y xs x c = (suc c.0, (let less : c.0 < length xs = c.1 in omega (arith, less)), c.2)

-- so is the first
first_row : {X : Type 0} (y : X) (xs : List X) → Contains (y ∷ xs) y
first_row y xs = (0, omega arith, refl)

-- each moves so
pub placed_at : (drawn : List ℕ) (rows : List (List Placement)) (versions : List Version) (n : ℕ) (version : Version) → length rows ≡ length drawn → slice_get versions n ≡ Some version
    → PlacedThere drawn rows versions n version
placed_at [] rows versions n version same e = record { after = version; found = e; placed = record { other = λ _. refl; drawn_one = λ h. absurd (false≢true h) } }
placed_at (m ∷ ms) [] versions n version same e = absurd (omega (arith, same))
placed_at (m ∷ ms) (r ∷ rs) versions n version same e =
    by (λ vs v there. placed_at ms rs vs n v (let e : suc (length rs) ≡ suc (length ms) = same in omega (arith, e)) there) (cases_eq n m)
  where
    place : Version → Version
    place v = record v { placed = r; standing = Standing.Current }

    by : ((vs : List Version) (v : Version) → slice_get vs n ≡ Some v → PlacedThere ms rs vs n v) → (n ≡ m) ⊎ (n ≡ m → ⊥) → PlacedThere (m ∷ ms) (r ∷ rs) versions n version
    by rest (inl eq) = there
      where
        now : PlacedThere ms rs (change_at m place versions) n (place version)
        now = rest (change_at m place versions) (place version) (subst (λ i. slice_get (change_at i place versions) n ≡ Some (place version)) eq (change_here n place versions version e))

        one : (is_among n ms ≡ true) ⊎ (is_among n ms ≡ false) → (row : List Placement) × Contains (r ∷ rs) row × (now.after ≡ record version { placed = row; standing = Standing.Current })
        one (inl more) = ((now.placed.drawn_one more).0, later_row r rs (now.placed.drawn_one more).0 (now.placed.drawn_one more).1, (now.placed.drawn_one more).2)
        one (inr none) = (r, first_row r rs, now.placed.other none)

        there : PlacedThere (m ∷ ms) (r ∷ rs) versions n version
        there = record {
          after = now.after;
          found = now.found;
          placed = record {
            other = λ h. absurd (false≢true (sym h ∙ ap (λ b. b || is_among n ms) (eq-eqb n m eq)));
            drawn_one = λ _. one (cases_Bool (is_among n ms));
          };
        }
    by rest (inr apart) = there
      where
        now : PlacedThere ms rs (change_at m place versions) n version
        now = rest (change_at m place versions) version (slice_get-change_at m n place versions apart ∙ e)

        same_test : nat_eq n m || is_among n ms ≡ is_among n ms
        same_test = ap (λ b. b || is_among n ms) (ne_eqb n m apart)

        there : PlacedThere (m ∷ ms) (r ∷ rs) versions n version
        there = record {
          after = now.after;
          found = now.found;
          placed = record {
            other = λ h. now.placed.other (sym same_test ∙ h);
            drawn_one = λ h.
                let one : (row : List Placement) × Contains rs row × (now.after ≡ record version { placed = row; standing = Standing.Current }) = now.placed.drawn_one (sym same_test ∙ h) in
                (one.0, later_row r rs one.0 one.1, one.2);
          };
        }

-- ---- placed epochs that rise
-- a version whose epoch at a server rises
abbrev pub raise : ℕ → ℕ → Version → Version
raise server epoch version = record version { placed = change_at server (placed_anew epoch) version.placed }

-- a row in which a chunk was placed anew has no more that were skipped
skipped_anew : (server epoch : ℕ) (row : List Placement) → skipped_count (change_at server (placed_anew epoch) row) ≤ skipped_count row
skipped_anew server epoch [] = omega arith
skipped_anew zero epoch (placement.At earlier ∷ row) = omega arith
skipped_anew zero epoch (placement.Skipped downs ∷ row) = omega arith
skipped_anew (suc server) epoch (placement.At earlier ∷ row) = skipped_anew server epoch row
skipped_anew (suc server) epoch (placement.Skipped downs ∷ row) = let rest = skipped_anew server epoch row in omega (arith, rest)

-- how one version moves
pub record RaisedThere (versions : List Version) (n : ℕ) (before : Version) : Type 0 where
  pub after : Version
  pub found : slice_get versions n ≡ Some after
  pub standing : after.standing ≡ before.standing
  pub count : length after.placed ≡ length before.placed
  pub skipped : skipped_count after.placed ≤ skipped_count before.placed

-- each moves so
pub raised_at : (server epoch : ℕ) (pins : List Pin) (versions : List Version) (n : ℕ) (version : Version) → slice_get versions n ≡ Some version
    → RaisedThere (fold (λ vs pin. change_at pin.version (raise server epoch) vs) versions pins) n version
raised_at server epoch [] versions n version e = record { after = version; found = e; standing = refl; count = refl; skipped = omega arith }
raised_at server epoch (pin ∷ pins) versions n version e =
    by (λ vs v there. raised_at server epoch pins vs n v there) (cases_eq n pin.version)
  where
    now : List Version
    now = change_at pin.version (raise server epoch) versions

    by : ((vs : List Version) (v : Version) → slice_get vs n ≡ Some v → RaisedThere (fold (λ vs pin. change_at pin.version (raise server epoch) vs) vs pins) n v) → (n ≡ pin.version) ⊎ (n ≡ pin.version → ⊥)
        → RaisedThere (fold (λ vs pin. change_at pin.version (raise server epoch) vs) now pins) n version
    by rest (inl eq) =
        let there : RaisedThere (fold (λ vs pin. change_at pin.version (raise server epoch) vs) now pins) n (raise server epoch version) =
        rest now (raise server epoch version) (subst (λ i. slice_get (change_at i (raise server epoch) versions) n ≡ Some (raise server epoch version)) eq (change_here n (raise server epoch) versions version e)) in
        record { after = there.after; found = there.found; standing = there.standing; count = there.count ∙ length-change_at server (placed_anew epoch) version.placed; skipped = let less = skipped_anew server epoch version.placed in omega (arith, there.skipped, less) }
    by rest (inr apart) = rest now version (slice_get-change_at pin.version n (raise server epoch) versions apart ∙ e)

-- their count stays
pub length-raised : (server epoch : ℕ) (pins : List Pin) (versions : List Version) → length (fold (λ vs pin. change_at pin.version (raise server epoch) vs) versions pins) ≡ length versions
length-raised server epoch pins versions =
    length-fold (λ (vs : List Version) (pin : Pin). change_at pin.version (raise server epoch) vs) (λ vs pin. length-change_at pin.version _ vs) versions pins

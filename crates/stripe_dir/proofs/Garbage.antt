-- What the sweeper takes, and what it leaves.
use Rattle.std.proofs.Common.{◌≡◌, ◌⊎◌, ℕ, ◌+◌, Bool, true, false, cond, ◌&&◌, ◌||◌, not, nat_eq, List, [], ◌∷◌, length, get_or, find, sum_by, option_map, Option, None, Some, refl, sym, ap, subst, ◌∙◌, inl, inr, arith}
use Rattle.std.proofs.lemmas.Bool.{cases_eq, ne_eqb, eq-eqb}
use Rattle.std.proofs.lemmas.List.Sums.{sum_by-cons}
use Rattle.std.specs.List.{enumerate_from, list_any}
use Rattle.store_map.specs.declared.actor.Actor.{Actor}
use Rattle.store_map.specs.declared.actor.Actor.TheVariants as actor
use Rattle.store_core.specs.Told.{Told}
use Rattle.store_core.specs.Act.{DirectoryStep}
use Rattle.store_core.specs.Lists.{change_at}
use Rattle.store_core.specs.Directory.{Version, Pin, Pass, Directory}
use Rattle.store_core.specs.Lookups.{is_live, is_pinned, is_superseded_standing, first_garbage}
use Rattle.store_core.specs.AtDirectory.{at_directory, take_garbage, swept_standing}
use Rattle.stripe_stamps.specs.ItsStripes.{IsWhole}
use Rattle.version_table.specs.Counts.{one_if, times, pins_of, pins_by}
use Rattle.version_table.specs.Table.{Table}
use Rattle.version_table.specs.TableSteps.{first_free, taken_from}
use Rattle.run_laws.proofs.ContentGrows.{origins, set_keeps, swept_keeps}
use Rattle.stripe_dir.specs.Kept.{directory_in, sealed_in, IsKept}
use Rattle.stripe_stamps.proofs.StampLists.{same_count, stamps_stay}
use Rattle.stripe_dir.specs.declared.directory.Directory.TheInside.{Inside}
use Rattle.stripe_dir.proofs.Sound.{keeps_whole}
use Rattle.store_core.specs.Directory.{Standing}

none_sum : (m n : ℕ) → nat_eq (m + n) 0 ≡ (nat_eq m 0 && nat_eq n 0)
none_sum m n = by (cases_eq m 0) (cases_eq n 0)
  where
    by : (m ≡ 0) ⊎ (m ≡ 0 → ⊥) → (n ≡ 0) ⊎ (n ≡ 0 → ⊥) → nat_eq (m + n) 0 ≡ (nat_eq m 0 && nat_eq n 0)
    by (inl a) (inl b) = eq-eqb (m + n) 0 (omega (arith, a, b)) ∙ (λ i. sym (eq-eqb m 0 a) i && sym (eq-eqb n 0 b) i)
    by (inl a) (inr b) = ne_eqb (m + n) 0 (λ e. b (omega (arith, e))) ∙ (λ i. sym (eq-eqb m 0 a) i && sym (ne_eqb n 0 b) i)
    by (inr a) d = ne_eqb (m + n) 0 (λ e. a (omega (arith, e))) ∙ ap (λ b. b && nat_eq n 0) (sym (ne_eqb m 0 a))

none_any : {X : Type 0} (f : X → ℕ) (test : X → Bool) → ((x : X) → nat_eq (f x) 0 ≡ not (test x)) → (xs : List X) → nat_eq (sum_by f xs) 0 ≡ not (list_any test xs)
none_any f test same [] = refl
none_any {X} f test same (x ∷ xs) = ap (λ n. nat_eq n 0) (sum_by-cons f x xs) ∙ none_sum (f x) (sum_by f xs) ∙ (λ i. same x i && none_any f test same xs i) ∙ by (test x) (list_any test xs)
  where
    by : (a b : Bool) → (not a && not b) ≡ not (a || b)
    by true b = refl
    by false b = refl

one_none : (b : Bool) → nat_eq (one_if b) 0 ≡ not b
one_none true = refl
one_none false = refl

unpinned_is : (d : Directory) (v n : ℕ) → n ≡ pins_by v d.passes → nat_eq n 0 ≡ not (is_pinned d v)
unpinned_is d v n is =
    ap (λ k. nat_eq k 0) is ∙ none_any (pins_of v) (λ (pass : Pass). is_live pass.reaped && list_any (λ (pin : Pin). nat_eq v pin.version) pass.pinned) each d.passes
  where
    each : (pass : Pass) → nat_eq (pins_of v pass) 0 ≡ not (is_live pass.reaped && list_any (λ (pin : Pin). nat_eq v pin.version) pass.pinned)
    each pass = by (is_live pass.reaped)
      where
        by : (b : Bool) → nat_eq (cond {A = ℕ} b (times v pass.pinned) 0) 0 ≡ not (b && list_any (λ (pin : Pin). nat_eq v pin.version) pass.pinned)
        by true = none_any (λ (pin : Pin). one_if (nat_eq v pin.version)) (λ (pin : Pin). nat_eq v pin.version) (λ pin. one_none (nat_eq v pin.version)) pass.pinned
        by false = refl

module _ (a : Inside) (kept : IsKept a) where
  -- what is free is garbage
  pub garbage_is : first_free a.versions ≡ first_garbage (directory_in a)
  garbage_is =
      λ i. option_map (λ (entry : ℕ × Version). entry.0)
      (find (λ (entry : ℕ × Version). is_superseded_standing entry.1.standing && unpinned_is (directory_in a) entry.0 (get_or a.versions.pins entry.0 0) (kept.pins entry.0) i) (enumerate_from 0 a.versions.listed))

  -- other versions that keep what they are laid over, with the same pins
  pub kept_versions : (t : Table) → IsWhole (directory_in (record a { versions = t })) → t.pins ≡ a.versions.pins → origins t.listed ≡ origins a.versions.listed → IsKept (record a { versions = t })
  kept_versions t whole pins same =
      record {
        stripes = kept.stripes;
        desk = kept.desk;
        whole = whole;
        counted = ap length pins ∙ kept.counted ∙ sym (same_count a.versions.listed t.listed same);
        pins = λ v. ap (λ ps. get_or ps v 0) pins ∙ kept.pins v;
        named = kept.named;
        keeps = kept.keeps;
        points_room = kept.points_room;
        objects_room = kept.objects_room;
        stamps = stamps_stay (sealed_in a) kept.stamps (directory_in (record a { versions = t })) refl same;
      }

  pub taken_step : (t : Table) (taken : Option ℕ) → taken ≡ first_free a.versions → t.listed ≡ taken_from taken a.versions.listed → (who : Actor) (number : ℕ)
      → (directory_in (record a { versions = t }), Told.Taken taken) ≡ at_directory false who number DirectoryStep.NextGarbage (directory_in a)
  taken_step t taken is listed who number =
      (λ i. (record (directory_in a) { versions = listed i }, Told.Taken taken)) ∙ by taken ∙ ap (λ (o : Option ℕ). take_garbage o (directory_in a)) (is ∙ garbage_is)
    where
      by : (o : Option ℕ) → (record (directory_in a) { versions = taken_from o a.versions.listed }, Told.Taken o) ≡ take_garbage o (directory_in a)
      by None = refl
      by (Some v) = refl

  pub kept_taken : (t : Table) (taken : Option ℕ) → taken ≡ first_free a.versions → t.listed ≡ taken_from taken a.versions.listed → t.pins ≡ a.versions.pins → IsKept (record a { versions = t })
  kept_taken t taken is listed pins =
      kept_versions t
      (subst IsWhole (sym (ap (λ r. r.0) (taken_step t taken is listed actor.Sweeper 0))) (keeps_whole actor.Sweeper 0 DirectoryStep.NextGarbage (directory_in a) kept.stripes kept.whole tt)) pins
      (ap origins listed ∙ by taken)
    where
      by : (o : Option ℕ) → origins (taken_from o a.versions.listed) ≡ origins a.versions.listed
      by None = refl
      by (Some v) = set_keeps Standing.Taken (v ∷ []) a.versions.listed

  pub kept_swept : (t : Table) (v : ℕ) → t.listed ≡ change_at v (λ version. record version { standing = swept_standing version.standing }) a.versions.listed → t.pins ≡ a.versions.pins → IsKept (record a { versions = t })
  kept_swept t v listed pins =
      kept_versions t
      (subst IsWhole (λ i. record (directory_in a) { versions = sym listed i }) (keeps_whole actor.Sweeper 0 (DirectoryStep.Swept v) (directory_in a) kept.stripes kept.whole tt)) pins
      (ap origins listed ∙ swept_keeps v a.versions.listed)

-- A course that begins keeps what a course keeps.
use Rattle.std.proofs.Common.{◌≡◌, ◌<◌, ℕ, map, List, [], ◌∷◌, length, take, All, refl, sym, ap, subst, ◌∙◌, arith}
use Rattle.std.proofs.lemmas.List.Elements.{All-nil, All-cons}
use Rattle.store_core.specs.Told.{Lost, lost_in}
use Rattle.clay_grid.specs.Shape.{chunk_count}
use Rattle.run_laws.specs.Stage.{Aim}
use Rattle.gathering.specs.declared.aim.CourseAim.{CourseAim}
use Rattle.gathering.specs.declared.aim.CourseAim.TheVariants as own
use Rattle.gathering.specs.declared.course.Course.TheInside.{Inside}
use Rattle.gathering.specs.declared.position.Position.{Position}
use Rattle.gathering.specs.declared.position.Position.TheVariants as position
use Rattle.gathering.specs.Aims.{aim_of}
use Rattle.gathering.specs.Positions.{IsPlaced}
use Rattle.gathering.specs.Hearing.{IsFirst, FitsAim}
use Rattle.gathering.specs.CourseInside.{IsCourse, seen_in}

pub chunk_begins : (a : Inside) (target : ℕ) → a.position ≡ position.Target target → a.aim ≡ own.Chunk target → a.count ≡ 0 → a.first.items ≡ target ∷ [] → target < chunk_count a.geometry
    → length a.placed.items ≡ chunk_count a.geometry → length a.missing.items ≡ chunk_count a.geometry → length a.gone.items ≡ chunk_count a.geometry → IsCourse a
chunk_begins a target d c none f below placed missing gone =
    record {
      placed_length = placed;
      missing_length = missing;
      gone_length = gone;
      few = omega (arith, none);
      room = λ h. omega (arith, none);
      some = subst (λ (l : List ℕ). 0 < length l) (sym f) (omega arith);
      below = subst (λ (l : List ℕ). All (λ (s : ℕ). s < chunk_count a.geometry) l) (sym f) (All-cons (λ (s : ℕ). s < chunk_count a.geometry) target [] below (All-nil (λ (s : ℕ). s < chunk_count a.geometry)));
      missing_below = λ i h other. absurd (omega (arith, h, none));
      knows =
          record {
            is_first = subst (λ (k : CourseAim). IsFirst a.geometry (aim_of (seen_in a) k) a.first.items) (sym c) f;
            fits =
                subst (λ (k : CourseAim). FitsAim a.position (aim_of (seen_in a) k)) (sym c)
                (subst (λ (p : Position). FitsAim p (Aim.Chunk (seen_in a) target)) (sym d) refl);
            servers = ap (λ (n : ℕ). map (λ (lost : Lost). lost.server) (map lost_in (take n a.missing.items))) none ∙ sym (ap (λ (n : ℕ). take n a.gone.items) none);
          };
      is_placed = subst (λ (p : Position). IsPlaced a.geometry (length a.first.items) a.count p) (sym d) (below, none);
    }

-- A part's course that begins keeps what a course keeps.
use Rattle.std.proofs.Common.{◌≡◌, ◌<◌, ℕ, map, List, [], length, take, All, refl, sym, ap, subst, ◌∙◌, arith}
use Rattle.std.proofs.lemmas.List.Elements.{All-filter}
use Rattle.store_core.specs.Told.{Lost, lost_in}
use Rattle.store_core.specs.Gathering.{Part}
use Rattle.store_core.specs.GatheringParts.{chunks_in_range}
use Rattle.clay_grid.specs.Shape.{Shape, chunk_count}
use Rattle.run_laws.specs.Stage.{Aim}
use Rattle.run_laws.specs.Stages.{fetch_stage}
use Rattle.gathering.specs.declared.aim.CourseAim.{CourseAim}
use Rattle.gathering.specs.declared.aim.CourseAim.TheVariants as own
use Rattle.gathering.specs.declared.course.Course.TheInside.{Inside}
use Rattle.gathering.specs.declared.position.Position.{Position}
use Rattle.gathering.specs.declared.position.Position.TheVariants as position
use Rattle.gathering.specs.Aims.{aim_of}
use Rattle.gathering.specs.Positions.{IsPlaced, stage_of}
use Rattle.gathering.specs.Reaching.{GoesToFetch}
use Rattle.gathering.specs.Hearing.{FitsAim, IsFirst, IsNoTarget}
use Rattle.gathering.specs.CourseInside.{IsCourse, seen_in}
use Rattle.gathering.proofs.Layered.{within}

range_fits : (p : Position) → IsNoTarget p → (part : Part) → FitsAim p (Aim.Range part)
range_fits (position.Target server) h part = absurd h
range_fits p h part = tt

pub range_begins : (a : Inside) (first : List ℕ) (start end : ℕ) → a.aim ≡ own.Range start end → a.count ≡ 0 → a.first.items ≡ chunks_in_range a.geometry start end → first ≡ a.first.items
    → 0 < length (chunks_in_range a.geometry start end) → IsNoTarget a.position → IsPlaced a.geometry (length first) 0 a.position
    → length a.placed.items ≡ chunk_count a.geometry → length a.missing.items ≡ chunk_count a.geometry → length a.gone.items ≡ chunk_count a.geometry → IsCourse a
range_begins a first start end c none f same some late at placed missing gone =
    record {
      placed_length = placed;
      missing_length = missing;
      gone_length = gone;
      few = omega (arith, none);
      room = λ h. omega (arith, none);
      some = subst (λ (l : List ℕ). 0 < length l) (sym f) some;
      below =
          subst (λ (l : List ℕ). All (λ (s : ℕ). s < chunk_count a.geometry) l) (sym f)
          (All-filter _ (λ (s : ℕ). s < chunk_count a.geometry) _ (within 0 a.geometry.data_count (chunk_count a.geometry) (omega arith)));
      missing_below = λ i h other. absurd (omega (arith, h, none));
      knows =
          record {
            is_first = subst (λ (k : CourseAim). IsFirst a.geometry (aim_of (seen_in a) k) a.first.items) (sym c) f;
            fits =
                subst (λ (k : CourseAim). FitsAim a.position (aim_of (seen_in a) k)) (sym c)
                (range_fits a.position late (record { seen = seen_in a; start = start; end = end }));
            servers = ap (λ (n : ℕ). map (λ (lost : Lost). lost.server) (map lost_in (take n a.missing.items))) none ∙ sym (ap (λ (n : ℕ). take n a.gone.items) none);
          };
      is_placed =
          subst (λ (n : ℕ). IsPlaced a.geometry (length a.first.items) n a.position) (sym none)
          (subst (λ (l : List ℕ). IsPlaced a.geometry (length l) 0 a.position) same at);
    }

pub range_first : (g : Shape) (first other : List ℕ) (p : Position) (part : Part) → GoesToFetch g first 0 [] p → first ≡ other → other ≡ chunks_in_range g part.start part.end
    → stage_of g other [] [] p ≡ fetch_stage g part (chunks_in_range g part.start part.end) []
range_first g first other p part goes same is =
    ap (λ (l : List ℕ). stage_of g l [] [] p) (sym same)
    ∙ goes part [] refl (same ∙ is)
    ∙ ap (λ (l : List ℕ). fetch_stage g part l []) (same ∙ is)

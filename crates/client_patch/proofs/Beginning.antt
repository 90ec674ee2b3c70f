-- Where a call stands after its look.
use Rattle.std.proofs.Common.{◌≡◌, ℕ, List, Option, None, Some, option_map, map, refl, ap}
use Rattle.clay_grid.specs.Shape.{Shape}
use Rattle.store_map.specs.declared.actor.Point.{Point}
use Rattle.store_map.specs.declared.call.Call.{Call}
use Rattle.store_map.specs.declared.call.Call.TheVariants as call
use Rattle.store_core.specs.Note.{note_of}
use Rattle.store_core.specs.NextAct.{job_of}
use Rattle.store_core.specs.Told.{Told, Seen}
use Rattle.store_core.specs.Read.{part_of}
use Rattle.run_laws.specs.State.{Sequel}
use Rattle.run_laws.specs.States.{parts_state, open_state}
use Rattle.run_laws.specs.LookAfter.{start_after}
use Rattle.call_steps.specs.declared.outcomes.Outcome.{Outcome}
use Rattle.gather_parts.specs.Gatherings.{GatheringsOf}
use Rattle.gather_parts.specs.States.{state_in}
use Rattle.gather_parts.proofs.OldParts.{old_are_parts}
use Rattle.write_course.specs.Writings.{WritingOf}
use Rattle.client_patch.specs.LookAfter.{IsPatchLook, to_draw}
use Rattle.client_patch.specs.Stages.{state_by}

pub to_draw_gathers : (written : Call) (p : GatheringsOf) (w : WritingOf) (outcome : Outcome) → state_by (to_draw written) p w outcome ≡ state_in p Sequel.Draw
to_draw_gathers (call.Put name content) p w outcome = refl
to_draw_gathers _ p w outcome = refl

-- a put draws, a write gathers the old bytes
pub ready_state : (g : Shape) (written : Call) (base : Option ℕ) (size : ℕ) (seens : List Seen) → IsPatchLook written (Told.Ready base size seens)
    → open_state g (parts_state (map (part_of g 0 size) seens) Sequel.Draw) ≡ open_state g (start_after g (note_of written).kind (job_of written) (Told.Ready base size seens))
ready_state g (call.Put name content) base size seens fits = ap (λ seens. open_state g (parts_state (map (part_of g 0 size) seens) Sequel.Draw)) (fits.1 refl)
ready_state g (call.Write name offset content) base size seens fits = ap (λ parts. open_state g (parts_state parts Sequel.Draw)) (old_are_parts g size seens)
ready_state g _ base size seens fits = absurd (cc)

-- the point that it looked at
abbrev point_at : ℕ → Point
point_at n = record { 0 = n }

pub points_back : (base : Option Point) → option_map point_at (option_map (λ (point : Point). point.0) base) ≡ base
points_back None = refl
points_back (Some point) = refl

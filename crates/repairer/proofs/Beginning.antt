-- The gathering of a rebuild is made.
use Rattle.std.proofs.Common.{◌≡◌, ℕ, true, List, length, replicate, Option, Some, unwrap_or, refl, sym, ap, subst, ◌∙◌}
use Rattle.std.proofs.lemmas.List.{length-replicate}
use Rattle.clay_grid.specs.Shape.{chunk_count}
use Rattle.run_laws.specs.Stage.{Aim}
use Rattle.version_seal.specs.Entry.{BookOf}
use Rattle.call_steps.specs.declared.seen.Seen.{Seen}
use Rattle.stripe_stamps.specs.SeenStripes.{seen_in}
use Rattle.gathering.specs.Courses.{IsAskingStage}
use Rattle.gathering.specs.Gathers.{GatherOf, new_gather}
use Rattle.repairer.specs.Standing.{seen_at, course_at, gathered_state, stage_of}
use Rattle.repairer.specs.Inside.{takes_at, call_in}
use Rattle.clay_grid.specs.Shape.{Shape}
use Rattle.version_seal.specs.Chunk.{IsChunkOf}
use Rattle.gathering.specs.Aims.{target_of}
use Rattle.gathering.specs.Made.{Gives}
use Rattle.call_steps.specs.declared.need.Need.TheVariants as need
use Rattle.call_steps.specs.CallOf.{CallOf, act_of}
use Rattle.call_steps.specs.Steps.{need_of}
use Rattle.repairer.specs.declared.stage.RepairStage.TheVariants as stage
use Rattle.repairer.specs.declared.repair_call.RepairCall.TheInside.{Inside}
use Rattle.repairer.specs.Moments.{IsSeen, IsAsking, IsGathered}
use Rattle.repairer.specs.Kept.{ConfirmsAt, IsRepair}
use Rattle.repairer.proofs.Stages.{is_at, keeps, is_due}

-- a server is asked then
pub asks : (book : BookOf) (target : ℕ) (looked held : Option Seen) (made : Option GatherOf) (counts : Option (List ℕ)) (gather : GatherOf) (takes : List ℕ)
    (is : IsSeen book looked held made counts)
    → gather ≡ new_gather is.seen.stamp book.geometry (Aim.Chunk (seen_in is.seen) target) → takes ≡ replicate (chunk_count book.geometry) 0
    → IsAsking book target looked (Some gather) (Some takes)
asks book target looked held made counts gather takes is g t =
    record {
      seen = is.seen;
      gather = gather;
      takes = takes;
      is_seen = is.is_seen;
      is_gather = refl;
      is_takes = refl;
      pinned = is.pinned;
      its = record {
        code = ap (λ (w : GatherOf). w.course.geometry) g;
        aim = ap (λ (w : GatherOf). w.course.aim) g;
        stamp = ap (λ (w : GatherOf). w.stamp) g;
      };
      asks = subst (λ (w : GatherOf). IsAskingStage w.course.stage) (sym g) tt;
      servers = ap (λ (l : List ℕ). length l) t ∙ length-replicate (chunk_count book.geometry) 0;
    }

-- the call stands where it stood, and has taken nothing
pub stands : (book : BookOf) (target : ℕ) (looked held : Option Seen) (made : Option GatherOf) (counts : Option (List ℕ)) (gather : GatherOf)
    (is : IsSeen book looked held made counts)
    → gather ≡ new_gather is.seen.stamp book.geometry (Aim.Chunk (seen_in is.seen) target)
    → gathered_state (seen_at looked) target (course_at book.geometry (seen_at looked) target (Some gather)).stage
    ≡ gathered_state (seen_at looked) target (course_at book.geometry (seen_at looked) target made).stage
stands book target looked held made counts gather is g =
    ap (λ (w : GatherOf). gathered_state (seen_at looked) target w.course.stage) g
    ∙ ap (λ (w : Option GatherOf). gathered_state (seen_at looked) target (course_at book.geometry (seen_at looked) target w).stage) (sym is.none)

pub took : (book : BookOf) (looked held : Option Seen) (made : Option GatherOf) (counts : Option (List ℕ)) (takes : List ℕ) (is : IsSeen book looked held made counts)
    → takes ≡ replicate (chunk_count book.geometry) 0 → takes ≡ takes_at (chunk_count book.geometry) counts
took book looked held made counts takes is t = t ∙ ap (takes_at (chunk_count book.geometry)) (sym is.nothing)

-- what has all its parts where a coding is due before the confirm
pub is_gathered : (a : Inside) (c : CallOf) → IsRepair a → call_in a ≡ c → stage_of c.state.at ≡ stage.Confirming → need_of c ≡ need.Coder
    → IsGathered a.opening a.rebuild.now.server a.looked.value a.gather
is_gathered a c is view e needs =
    let due : a.due ≡ true = ap (λ (call : CallOf). call.due) view ∙ is_due (act_of c) c.due needs in
    subst (λ b. ConfirmsAt b a) due (keeps a stage.Confirming is (is_at a c stage.Confirming is view e)).1

pub gather_is : (book : BookOf) (target : ℕ) (looked : Option Seen) (made : Option GatherOf) (w : GatherOf) (is : IsGathered book target looked made) → Some w ≡ made → is.gather ≡ w
gather_is book target looked made w is e = ap (λ (o : Option GatherOf). unwrap_or o is.gather) (sym (e ∙ is.is_gather))

-- the bytes of a gathering that makes a chunk are that chunk
pub gives_chunk : (g : Shape) (content : List ℕ) (aim : Aim) (target : ℕ) (before after : List ℕ) → target_of aim ≡ Some target → Gives g content aim before after
    → IsChunkOf g content target after
gives_chunk g content (Aim.Range part) target before after is gives = absurd (cc)
gives_chunk g content (Aim.Chunk seen other) target before after is gives =
    subst (λ (o : Option ℕ). IsChunkOf g content (unwrap_or o target) after) is gives

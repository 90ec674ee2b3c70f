-- A call that stands in gatherings makes their steps.
use Rattle.std.proofs.Common.{◌≡◌, ℕ, Bool, true, false, List, [], ◌∷◌, map, Option, None, Some, IfSome, refl, sym, ap, subst, ◌∙◌}
use Rattle.std.proofs.lemmas.Bool.{true≢false}
use Rattle.clay_grid.specs.Shape.{Shape}
use Rattle.store_core.specs.Told.{Told}
use Rattle.store_core.specs.Note.{Kind}
use Rattle.store_core.specs.NextAct.{Job}
use Rattle.store_core.specs.Gathering.{Part}
use Rattle.store_core.specs.Read.{part_of}
use Rattle.call_steps.specs.declared.seen.Seen.{Seen}
use Rattle.stripe_stamps.specs.SeenStripes.{seen_in}
use Rattle.store_core.specs.Server.{Server, at_server}
use Rattle.run_laws.specs.Stage.{Aim, Asking, Stage}
use Rattle.run_laws.specs.StageAfter.{step_asked, server_asked, stage_after}
use Rattle.run_laws.specs.State.{Sequel}
use Rattle.run_laws.specs.States.{parts_state, stage_state, open_parts, open_state}
use Rattle.run_laws.proofs.Opened.{opened_next}
use Rattle.gathering.specs.Gathers.{GatherOf, told_at, told_by}
use Rattle.gathering.proofs.Taking.{takes_follow}
use Rattle.call_steps.specs.CallOf.{CallOf}
use Rattle.call_steps.specs.Steps.{stepped_at_server}
use Rattle.call_steps.specs.Hearing.{told_here}
use Rattle.gather_parts.specs.declared.progress.Progress.{Progress}
use Rattle.gather_parts.specs.declared.progress.Progress.TheVariants as progress
use Rattle.gather_parts.specs.Wanted.{Wanted, wanted_of, parts_of}
use Rattle.gather_parts.specs.Gatherings.{GatheringsOf}
use Rattle.gather_parts.specs.Steps.{stepped}
use Rattle.gather_parts.specs.Progress.{progress_at, progress_by, progress_of}
use Rattle.gather_parts.specs.States.{state_in, StandsIn, moved}

-- a question is asked
abbrev pub is_question : Progress → Bool
is_question (progress.Asks server) = true
is_question now = false

no_question : {A : Type 0} (now : Progress) (server : ℕ) → is_question now ≡ false → now ≡ progress.Asks server → A
no_question now server none e = absurd (true≢false (sym (ap is_question e) ∙ none))

-- a gathering at a stage, opened
pub opened_stage : (g : Shape) (kind : Kind) (job : Job) (pairs : List (ℕ × ℕ)) (parts : List Part) (after : Sequel) (aim : Aim) (stage : Stage)
    → open_state g (stage_state (parts_state parts after) aim parts after stage) ≡ stage_state (open_parts g parts after) aim parts after stage
opened_stage g kind job pairs parts after aim (Stage.Asks asking) = refl
opened_stage g kind job pairs parts after aim Stage.HasBytes = opened_next g kind job pairs parts after
opened_stage g kind job pairs parts after aim (Stage.TooMany missing) = refl
opened_stage g kind job pairs parts after aim Stage.AtTarget = refl
opened_stage g kind job pairs parts after aim (Stage.TargetAway downs) = refl
opened_stage g kind job pairs parts after aim Stage.Short = refl

-- the parts that a look told are gathered next
parts_told : (g : Shape) (start end : ℕ) (stripes : List Seen) → parts_of (map (wanted_of g start end) stripes) ≡ map (part_of g start end) (map seen_in stripes)
parts_told g start end [] = refl
parts_told g start end (seen ∷ stripes) = ap (λ l. part_of g start end (seen_in seen) ∷ l) (parts_told g start end stripes)

any_job : Job
any_job = record { note = record { kind = Kind.Get; name = []; offset = 0; length = 0 }; target = 0 }

pub told_opened : (g : Shape) (start end : ℕ) (stripes : List Seen) (after : Sequel)
    → open_parts g (parts_of (map (wanted_of g start end) stripes)) after ≡ open_state g (parts_state (map (part_of g start end) (map seen_in stripes)) after)
told_opened g start end stripes after =
    ap (λ parts. open_parts g parts after) (parts_told g start end stripes)
    ∙ sym (opened_next g Kind.Get any_job [] (map (part_of g start end) (map seen_in stripes)) after)

-- the call, with what the gatherings say of it written out
abbrev pub standing_call : CallOf → GatheringsOf → Sequel → CallOf
standing_call c p after = record c { book = p.book; state = record { pairs = c.state.pairs; at = state_in p after }; takes = p.takes }

pub stands_as : (c : CallOf) (p : GatheringsOf) (after : Sequel) → StandsIn c p after → c ≡ standing_call c p after
stands_as c p after h = λ i. record c { book = h.book i; state = record { pairs = c.state.pairs; at = h.state i }; takes = h.takes i }

-- the step of the one is that of the other
abbrev Moves : CallOf → Sequel → Bool → Bool → Server → GatheringsOf → Type 0
Moves c after due short s p =
    ((stepped p short s).0, moved (standing_call c p after) (stepped p short s).1 after due short) ≡ stepped_at_server short due (standing_call c p after) s

module _ (c : CallOf) (after : Sequel) (due short : Bool) (s : Server) (p : GatheringsOf) where
  asked_moves : (w : GatherOf) (asking : Asking)
      → Moves c after due short s
      (record p { current = Some (record w { course = record (w.course) { geometry = p.book.geometry; stage = Stage.Asks asking } }) })
  asked_moves w asking =
      let g : Shape = p.book.geometry in
      let told : Server × Told = at_server short (step_asked g w.course.aim asking) s in
      let stage : Stage = stage_after g w.course.aim asking told.1 in
      λ i. (
        told.0,
        record c {
          book = p.book;
          state = record { pairs = c.state.pairs; at = sym (opened_stage g c.job.note.kind c.job c.state.pairs (parts_of p.left) after w.course.aim stage) i };
          takes = takes_follow told.1 (server_asked g w.course.aim asking) (step_asked g w.course.aim asking) p.takes i;
          due = due;
          coding = false;
          step = short;
        },
      )

  stage_moves : (w : GatherOf) (stage : Stage) (server : ℕ) → progress_at p.book.geometry w.course.aim stage ≡ progress.Asks server
      → Moves c after due short s (record p { current = Some (record w { course = record (w.course) { geometry = p.book.geometry; stage = stage } }) })
  stage_moves w (Stage.Asks asking) server e = asked_moves w asking
  stage_moves w Stage.HasBytes server e = no_question progress.Due server refl e
  stage_moves w (Stage.TooMany missing) server e = no_question progress.TooMany server refl e
  stage_moves w Stage.AtTarget server e = no_question progress.Short server refl e
  stage_moves w (Stage.TargetAway downs) server e = no_question progress.Short server refl e
  stage_moves w Stage.Short server e = no_question progress.Short server refl e

  current_moves : (current : Option GatherOf) (server : ℕ) → IfSome current (λ w. w.course.geometry ≡ p.book.geometry)
      → progress_by p.book.geometry current p.left ≡ progress.Asks server → Moves c after due short s (record p { current = current })
  current_moves (Some w) server code e =
      subst (λ g. Moves c after due short s (record p { current = Some (record w { course = record (w.course) { geometry = g } }) })) (sym code)
      (stage_moves w w.course.stage server e)
  current_moves None server code e = none_left p.left e
    where
      none_left : (left : List Wanted) → progress_by p.book.geometry None left ≡ progress.Asks server → Moves c after due short s (record p { current = None })
      none_left [] e = no_question progress.Done server refl e
      none_left (wanted ∷ left) e = no_question progress.Due server refl e

  -- a call that stands in gatherings which ask makes their step
  pub step_moves : (server : ℕ) → IfSome p.current (λ w. w.course.geometry ≡ p.book.geometry) → progress_of p ≡ progress.Asks server → StandsIn c p after
      → ((stepped p short s).0, moved c (stepped p short s).1 after due short) ≡ stepped_at_server short due c s
  step_moves server code asks stands =
      subst (λ (x : CallOf). ((stepped p short s).0, moved x (stepped p short s).1 after due short) ≡ stepped_at_server short due x s) (sym (stands_as c p after stands))
      (current_moves p.current server code asks)

  -- and is told what they are
  stage_tells : (w : GatherOf) (stage : Stage) (server : ℕ) → progress_at p.book.geometry w.course.aim stage ≡ progress.Asks server
      → told_at (record w { course = record (w.course) { geometry = p.book.geometry } }) short s stage
      ≡ told_here short (standing_call c (record p { current = Some (record w { course = record (w.course) { geometry = p.book.geometry; stage = stage } }) }) after) s
  stage_tells w (Stage.Asks asking) server e = refl
  stage_tells w Stage.HasBytes server e = no_question progress.Due server refl e
  stage_tells w (Stage.TooMany missing) server e = no_question progress.TooMany server refl e
  stage_tells w Stage.AtTarget server e = no_question progress.Short server refl e
  stage_tells w (Stage.TargetAway downs) server e = no_question progress.Short server refl e
  stage_tells w Stage.Short server e = no_question progress.Short server refl e

  pub step_tells : (w : GatherOf) (server : ℕ) → p.current ≡ Some w → w.course.geometry ≡ p.book.geometry → progress_of p ≡ progress.Asks server → StandsIn c p after
      → told_by w short s ≡ told_here short c s
  step_tells w server is code asks stands =
      ap (λ g. told_by (record w { course = record (w.course) { geometry = g } }) short s) code
      ∙ stage_tells w w.course.stage server (ap (λ o. progress_by p.book.geometry o p.left) (sym is) ∙ asks)
      ∙ ap (λ g. told_here short (standing_call c (record p { current = Some (record w { course = record (w.course) { geometry = g } }) }) after) s) (sym code)
      ∙ ap (λ o. told_here short (standing_call c (record p { current = o }) after) s) (sym is)
      ∙ ap (λ (x : CallOf). told_here short x s) (sym (stands_as c p after stands))

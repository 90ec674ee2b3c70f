-- A call's steps at the directory from its draw on.
use Rattle.std.proofs.Common.{◌≡◌, ℕ, ◌+◌, ◌<◌, Bool, true, false, zero, suc, List, ◌++◌, length, map, All, Option, None, Some, IfSome, append-nil, refl, sym, ap, subst, ◌∙◌, arith}
use Rattle.std.specs.List.{range_with_len, slice_get}
use Rattle.clay_grid.specs.Shape.{Shape, stripe_length}
use Rattle.store_map.specs.declared.placement.Placement.{Placement}
use Rattle.store_map.specs.declared.actor.Actor.{Actor}
use Rattle.store_map.specs.declared.call.Call.{Call}
use Rattle.store_map.specs.declared.script.Script.{Script}
use Rattle.store_core.specs.Told.{Told}
use Rattle.store_core.specs.Note.{Note}
use Rattle.store_core.specs.Act.{Act, DirectoryStep}
use Rattle.store_core.specs.AtDirectory.{at_directory}
use Rattle.store_core.specs.Directory.{Directory}
use Rattle.store_core.specs.History.{call_of}
use Rattle.store_core.specs.NextAct.{Job}
use Rattle.store_core.specs.PassSteps.{touched}
use Rattle.store_core.specs.Placements.{IsRow}
use Rattle.store_core.specs.Agreement.{HeldPass, ActorToken}
use Rattle.store_core.specs.Tokens.{actor_of, IsToWrite}
use Rattle.run_laws.specs.State.{State, CallState}
use Rattle.run_laws.specs.StateActs.{act_at}
use Rattle.run_laws.specs.CallLaws.{next_call}
use Rattle.version_seal.specs.Entry.{StampOf, RequestOf, call_written}
use Rattle.stripe_stamps.specs.Sealed.{Sealed, stamps_touched}
use Rattle.call_steps.specs.CallOf.{CallOf, act_of, heard}
use Rattle.call_steps.specs.Steps.{at_directory_by, stepped_at_directory}
use Rattle.call_steps.specs.TokenAfter.{token_after, MayMake}
use Rattle.call_steps.specs.Ends.{finished_of, is_ending}
use Rattle.call_steps.proofs.Making.{MayBy, passes}
use Rattle.stripe_dir.specs.AnswerStamps.{AreDrawnFor}
use Rattle.write_course.specs.Laws.{call_at}
use Rattle.write_course.specs.Draws.{request_of, stamps_told, stamps_of_draw, stamps_by, stamps_drawn}
use Rattle.write_course.specs.Holding.{IsHolding, HasToken, AreWholeAt}

-- the call after a step at the directory
pub directory_step : (c : CallOf) (step : DirectoryStep) (short due : Bool) (before after : Directory) (told : Told) (token : ActorToken) (state : CallState)
    → act_of c ≡ Act.AtDirectory step → (after, told) ≡ at_directory short (actor_of c.token) c.number step before → token ≡ token_after c.token c.number step told
    → state ≡ next_call c.book.geometry c.job c.state told
    → (after, record c { token = token; state = state; due = due; coding = false; step = short }) ≡ stepped_at_directory short due c before
directory_step c step short due before after told token state act made token_is state_is =
    let here : (after, record c { token = token; state = state; due = due; coding = false; step = short })
    ≡ (after, record (heard c (Act.AtDirectory step) told short due) { token = token_after c.token c.number step told })
    = λ i. (after, record c { token = token_is i; state = state_is i; due = due; coding = false; step = short }) in
    here
    ∙ ap (λ (x : Directory × Told). (x.0, record (heard c (Act.AtDirectory step) x.1 short due) { token = token_after c.token c.number step x.1 })) made
    ∙ ap (λ act. at_directory_by act short due c before) (sym act)

-- ---- the draw
-- the call of a version is what is written
pub written_is : (script : Option Script) (who : Actor) (number : ℕ) (written : Call) (request : RequestOf) → IfSome script (λ script. call_of script who number ≡ Some written) → request.call ≡ written
    → call_written script who number (Some request) ≡ Some written
written_is None who number written request h e = ap Some e
written_is (Some script) who number written request h e = h

-- the stamp at a place
pub at_range : (f : ℕ → StampOf) (a n k : ℕ) (y : StampOf) → slice_get (map f (range_with_len a n)) k ≡ Some y → (y ≡ f (a + k)) × (k < n)
at_range f a zero k y e = absurd (cc)
at_range f a (suc n) zero y e =
    let first : f a ≡ y = cc in
    let here : a ≡ a + 0 = omega arith in
    (sym first ∙ ap f here, omega arith)
at_range f a (suc n) (suc k) y e =
    let here : a + 1 + k ≡ a + suc k = omega arith in
    let rest : (y ≡ f (a + 1 + k)) × (k < n) = at_range f (a + 1) n k y e in
    (rest.0 ∙ ap f here, let less : k < n = rest.1 in omega (arith, less))

-- the stamps that come with it
pub drawn_stamps : (s : Sealed) (c : CallOf) (written : Call) (held : HeldPass) (short : Bool) (after : Directory) (versions : List ℕ) (stamps : List StampOf) (request : RequestOf)
    → act_of c ≡ Act.AtDirectory DirectoryStep.Draw → c.token ≡ ActorToken.InCall held
    → (after, Told.Versions versions) ≡ at_directory short (actor_of c.token) c.number DirectoryStep.Draw s.core
    → request ≡ request_of c written → AreDrawnFor s held (Some request) stamps → stamps ≡ stamps_drawn short s c written
drawn_stamps s c written held short after versions stamps request draws is made request_is drawn =
    let told : (at_directory short held.pass.actor c.number DirectoryStep.Draw s.core).1 ≡ Told.Versions versions
    = ap (λ (token : ActorToken). (at_directory short (actor_of token) c.number DirectoryStep.Draw s.core).1) (sym is) ∙ ap (λ (x : Directory × Told). x.1) (sym made) in
    drawn.drawn
    ∙ ap (λ (r : RequestOf). stamps_touched s.book s.stamps (stripe_length s.core.shape) held.pass (Some r)) request_is
    ∙ ap (stamps_told s held.pass (request_of c written)) (sym told)
    ∙ ap (λ (token : ActorToken). stamps_of_draw token short s c written) (sym is)
    ∙ ap (λ act. stamps_by act short s c written) (sym draws)

-- ---- the commit
-- a pass that may commit
pub may_commit : (d : Directory) (number : ℕ) (note : Note) (drawn : List ℕ) (token : ActorToken) (placed : List (List Placement)) → (h : IsHolding number note drawn token) → IsToWrite h.held
    → length drawn ≡ length (touched d note) → length placed ≡ length drawn → All (IsRow d.shape) placed → MayMake d token number (DirectoryStep.Commit placed)
may_commit d number note drawn token placed h kind count rows whole =
    subst (λ t. MayMake d t number (DirectoryStep.Commit placed)) (sym h.is) (
      h.its_number,
      (
        kind,
        record {
          drawn = ap length h.its_drawn ∙ count ∙ ap (λ note. length (touched d note)) (sym h.its);
          rows = rows ∙ ap length (sym h.its_drawn);
          whole = whole;
        },
      ),
    )

-- ---- the end of the pass
pub ending_next : (g : Shape) (job : Job) (pairs : List (ℕ × ℕ)) (at : State) → is_ending at ≡ true → call_at pairs (finished_of at) ≡ next_call g job (call_at pairs at) Told.Ended
ending_next g job pairs (State.Ending outcome) e = refl
ending_next g job pairs _ e = absurd (cc)

pub ending_act : (g : Shape) (tries : ℕ) (job : Job) (pairs : List (ℕ × ℕ)) (at : State) → is_ending at ≡ true → act_at g tries job pairs at ≡ Act.AtDirectory DirectoryStep.End
ending_act g tries job pairs (State.Ending outcome) e = refl
ending_act g tries job pairs _ e = absurd (cc)

-- it draws nothing
pub end_draws : (before after : Sealed) (c : CallOf) (written : Call) (short : Bool) → is_ending c.state.at ≡ true → after.stamps ≡ before.stamps
    → after.stamps ≡ before.stamps ++ stamps_drawn short before c written
end_draws before after c written short ending same =
    same ∙ sym (append-nil before.stamps)
    ∙ ap (λ act. before.stamps ++ stamps_by act short before c written) (sym (ending_act c.book.geometry c.tries c.job c.state.pairs c.state.at ending))

-- ---- what may be made from the draw on
pub writing_may : (c : CallOf) (note : Note) (drawn : List ℕ) (at : State) → c.state.at ≡ at → HasToken c.number note drawn c.token at
    → ((h : IsHolding c.number note drawn c.token) → IsToWrite h.held) → ((d : Directory) → d.shape ≡ c.book.geometry → length drawn ≡ length (touched d note))
    → AreWholeAt c.book.geometry (length drawn) at → MayBy c (act_at c.book.geometry c.tries c.job c.state.pairs at)
writing_may c note drawn (State.Preparing stripe version server servers row later placed versions) is h kind count whole = tt
writing_may c note drawn (State.Committing versions placed) is h kind count whole =
    λ d shape. may_commit d c.number note drawn c.token placed h (kind h) (count d shape) whole.0 (subst (λ g. All (IsRow g) placed) (sym shape) whole.1)
writing_may c note drawn (State.Settling point place places) is h kind count whole = tt
writing_may c note drawn (State.Ending outcome) is h kind count whole = passes c h.0.held DirectoryStep.End h.0.is h.0.its_number (λ d shape. tt)
writing_may c note drawn (State.Finished outcome) is h kind count whole = tt
writing_may c note drawn at is h kind count whole = absurd h

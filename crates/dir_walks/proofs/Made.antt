-- Each step as an actor makes it.
use Rattle.std.specs.Prelude.{⊤}
use Rattle.std.proofs.Common.{◌≡◌, ℕ, ◌+◌, ◌≤◌, Bool, false, length, Option, None, Some, refl, sym, ap, subst, ◌∙◌, arith}
use Rattle.clay_grid.specs.Shape.{Shape}
use Rattle.store_map.specs.declared.call.Call.{Call}
use Rattle.store_core.specs.Told.{Told}
use Rattle.store_core.specs.Note.{note_of}
use Rattle.store_core.specs.Look.{stripes_between}
use Rattle.stripe_dir.specs.Answers.{told_look, told_drawn, told_committed, told_ended}
use Rattle.store_core.specs.Act.{DirectoryStep}
use Rattle.store_core.specs.AtDirectory.{at_directory}
use Rattle.store_core.specs.Agreement.{Seat, HeldPass, ActorToken, Agrees}
use Rattle.store_core.specs.Tokens.{actor_of}
use Rattle.version_seal.specs.Entry.{RequestOf}
use Rattle.stripe_stamps.specs.Sealed.{Sealed}
use Rattle.call_steps.specs.TokenAfter.{token_after}
use Rattle.stripe_dir.specs.AnswerStamps.{IfDrawn}
use Rattle.stripe_dir.specs.declared.directory_answers.Look.{Look}
use Rattle.stripe_dir.specs.declared.directory_answers.Drawn.{Drawn}
use Rattle.stripe_dir.specs.declared.directory_answers.Committed.{Committed}
use Rattle.stripe_dir.specs.declared.directory_answers.Ended.{Ended}
use Rattle.dir_walks.specs.declared.test_stage.WalkStage.{WalkStage}
use Rattle.dir_walks.specs.declared.test_stage.WalkStage.TheVariants as stage
use Rattle.dir_walks.specs.Callers.{CallerOf, IsBegun, IsDrawn, IsAt, IsRight, Steps, is_seated}
use Rattle.dir_walks.specs.After.{stage_after_look, stage_after_draw, drawn_by, unused_after_commit}
use Rattle.dir_walks.proofs.At.{seated, begun, drawn, in_call, at_end, at_commit, at_draw, at_look}
use Rattle.dir_walks.proofs.Goes.{steps}

module _ (s after : Sealed) (c : CallerOf) (right : IsRight s c) (token : ActorToken) (agrees : Agrees after.core token) (book : after.book ≡ s.book) where
  -- a step by which the ticket comes to where the actor is then
  to : (now : CallerOf) (short : Bool) (number : ℕ) (step : DirectoryStep) (told : Told) → now.who ≡ c.who → now.token ≡ token → (its : ActorToken) → c.token ≡ its
      → (after.core, told) ≡ at_directory short (actor_of c.token) number step s.core → token ≡ token_after c.token number step told → IsAt s.book now now.stage (token_after its number step told) → Steps s c after now
  to now short number step told same own its held made is at =
      steps s after c now short number step told right made (own ∙ is) (subst (Agrees after.core) (sym own) agrees) book same
      (subst (IsAt s.book now now.stage) (sym (own ∙ is ∙ ap (λ t. token_after t number step told) held)) at)

  pub end_steps : (step : DirectoryStep) (answer : Ended ⊤) (unused : ℕ) → is_seated c.stage ≡ false → unused ≡ c.number → (after.core, told_ended answer) ≡ at_directory false (actor_of c.token) c.number step s.core
      → token ≡ token_after c.token c.number step (told_ended answer)
      → Steps s c after (record { who = c.who; token = token; stage = stage.Seated; number = c.number; unused = unused + 1; drawn = c.drawn; request = c.request })
  end_steps step answer unused other same made is = by (in_call s.book c c.stage c.token other right.at)
    where
      now : CallerOf
      now = record { who = c.who; token = token; stage = stage.Seated; number = c.number; unused = unused + 1; drawn = c.drawn; request = c.request }

      by : ((held : HeldPass) × (c.token ≡ ActorToken.InCall held) × (held.pass.number ≡ c.number)) → Steps s c after now
      by (held, is_held, numbered) =
          to now false c.number step (told_ended answer) refl refl (ActorToken.InCall held) is_held made is (at_end s.book now held answer (omega (arith, numbered, same)))

  pub commit_steps : (step : DirectoryStep) (answer : Committed ⊤) (unused : ℕ) → c.stage ≡ stage.Drawn → unused ≡ unused_after_commit c.number answer
      → (after.core, told_committed answer) ≡ at_directory false (actor_of c.token) c.number step s.core → token ≡ token_after c.token c.number step (told_committed answer)
      → Steps s c after (record { who = c.who; token = token; stage = stage.Seated; number = c.number; unused = unused; drawn = c.drawn; request = c.request })
  commit_steps step answer unused staged same made is = by (drawn s.book c c.token (subst (λ (st : WalkStage). IsAt s.book c st c.token) staged right.at))
    where
      now : CallerOf
      now = record { who = c.who; token = token; stage = stage.Seated; number = c.number; unused = unused; drawn = c.drawn; request = c.request }

      by : ((held : HeldPass) × (c.token ≡ ActorToken.InCall held) × IsDrawn s.book.geometry c held) → Steps s c after now
      by (held, is_held, its) =
          to now false c.number step (told_committed answer) refl refl (ActorToken.InCall held) is_held made is
          (at_commit s.book now held answer (same ∙ ap (λ n. unused_after_commit n answer) (sym its.numbered)))

  pub draw_steps : (answer : Drawn ⊤ ⊤) (its : WalkStage) (count unused : ℕ) → c.stage ≡ stage.Begun → s.book.geometry ≡ s.core.shape → its ≡ stage_after_draw answer → count ≡ drawn_by answer → unused ≡ c.number
      → (request : Option RequestOf) → ((held : HeldPass) → c.token ≡ ActorToken.InCall held → IfDrawn s held request answer)
      → (after.core, told_drawn answer) ≡ at_directory false (actor_of c.token) c.number DirectoryStep.Draw s.core → token ≡ token_after c.token c.number DirectoryStep.Draw (told_drawn answer)
      → Steps s c after (record { who = c.who; token = token; stage = its; number = c.number; unused = unused + 1; drawn = count; request = c.request })
  draw_steps answer its count unused staged code its_is counted same request if_drawn made is = by (begun s.book c c.token (subst (λ (st : WalkStage). IsAt s.book c st c.token) staged right.at))
    where
      now : CallerOf
      now = record { who = c.who; token = token; stage = its; number = c.number; unused = unused + 1; drawn = count; request = c.request }

      by : ((held : HeldPass) × (c.token ≡ ActorToken.InCall held) × IsBegun s.book c held) → Steps s c after now
      by (held, is_held, has) =
          to now false c.number DirectoryStep.Draw (told_drawn answer) refl refl (ActorToken.InCall held) is_held made is
          (subst (λ (st : WalkStage). IsAt s.book now st (token_after (ActorToken.InCall held) c.number DirectoryStep.Draw (told_drawn answer))) (sym its_is)
          (at_draw s.book now held answer has.numbered has.writes counted
          (λ stamps versions.
          (subst (IfDrawn s held request) versions (if_drawn held is_held)).count ∙ ap (λ (g : Shape). length (stripes_between g held.pass.note.offset (held.pass.note.offset + held.pass.note.length))) (sym code))
          (let numbered : held.pass.number ≡ c.number = has.numbered in omega (arith, numbered, same))))

  pub look_steps : (call : Call) (answer : Look ⊤ ⊤) (its : WalkStage) (number unused : ℕ) (request : RequestOf) → c.stage ≡ stage.Seated → its ≡ stage_after_look call answer → unused ≡ number
      → request ≡ record { home = s.book.home; actor = c.who; number = number; call = call } → s.book.script ≡ None
      → (after.core, told_look answer) ≡ at_directory false (actor_of c.token) number (DirectoryStep.Look (note_of call)) s.core → token ≡ token_after c.token number (DirectoryStep.Look (note_of call)) (told_look answer)
      → Steps s c after (record { who = c.who; token = token; stage = its; number = number; unused = unused + 1; drawn = c.drawn; request = Some request })
  look_steps call answer its number unused request staged its_is same requested free made is = by (seated s.book c c.token (subst (λ (st : WalkStage). IsAt s.book c st c.token) staged right.at))
    where
      now : CallerOf
      now = record { who = c.who; token = token; stage = its; number = number; unused = unused + 1; drawn = c.drawn; request = Some request }

      by : ((seat : Seat) × (c.token ≡ ActorToken.Seated seat) × (seat.unused ≤ c.unused)) → Steps s c after now
      by (seat, is_seat, unused_is) =
          to now false number (DirectoryStep.Look (note_of call)) (told_look answer) refl refl (ActorToken.Seated seat) is_seat made is
          (subst (λ (st : WalkStage). IsAt s.book now st (token_after (ActorToken.Seated seat) number (DirectoryStep.Look (note_of call)) (told_look answer))) (sym its_is)
          (at_look s.book now seat call request refl (ap (λ (r : RequestOf). r.home) requested) (ap (λ (r : RequestOf). r.actor) requested ∙ sym right.its ∙ ap actor_of is_seat) (ap (λ (r : RequestOf). r.number) requested)
          (ap (λ (r : RequestOf). r.call) requested) free answer (omega (arith, same))))

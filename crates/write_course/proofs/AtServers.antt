-- A call's steps at servers while it stands in a writing.
use Rattle.std.proofs.Common.{◌≡◌, ℕ, Bool, true, false, List, Some, refl, ap, sym, ◌∙◌}
use Rattle.std.proofs.lemmas.Option.{none-some}
use Rattle.clay_grid.specs.Shape.{Shape}
use Rattle.store_core.specs.Told.{Told}
use Rattle.store_core.specs.Note.{Note}
use Rattle.store_core.specs.Act.{Act}
use Rattle.store_core.specs.NextAct.{Job}
use Rattle.store_core.specs.Server.{Server, at_server}
use Rattle.store_core.specs.Step.{take_from}
use Rattle.store_core.specs.Agreement.{ActorToken}
use Rattle.run_laws.specs.State.{State, CallState}
use Rattle.run_laws.specs.StateActs.{act_at, act_of_state}
use Rattle.run_laws.specs.CallLaws.{next_call}
use Rattle.call_steps.specs.declared.need.Need.TheVariants as need
use Rattle.call_steps.specs.CallOf.{CallOf, act_of}
use Rattle.call_steps.specs.Steps.{need_by, stepped_at_server, at_server_by}
use Rattle.call_steps.specs.Hearing.{told_here_by, told_here}
use Rattle.write_course.specs.Writings.{server_of}
use Rattle.write_course.specs.WritingSteps.{stepped, told_at}
use Rattle.write_course.specs.Laws.{call_at, IsServerStep}
use Rattle.write_course.specs.Holding.{HasToken}
use Rattle.write_course.proofs.OfTheCall.{steps_are_of_the_call}

-- the call after a step at the server
pub server_step : (c : CallOf) (pairs : List (ℕ × ℕ)) (at : State) (server : ℕ) → c.state ≡ call_at pairs at → server_of at ≡ Some server
    → (short due : Bool) (before after : Server) (now : State) → (after, now) ≡ stepped c.book.geometry short before at
    → (after, record c { state = call_at pairs now; due = due; coding = false; step = short }) ≡ stepped_at_server short due c before
server_step c pairs at server is asked short due before after now step =
    let law : IsServerStep c.book.geometry c.tries c.job pairs at server = steps_are_of_the_call.at_server c.book.geometry c.tries c.job pairs at server asked in
    let act : act_of c ≡ Act.AtServer server law.step = ap (act_of_state c.book.geometry c.tries c.job) is ∙ law.act in
    let answer : Told = (at_server short law.step before).1 in
    let places : after ≡ (at_server short law.step before).0 = ap (λ (made : Server × State). made.0) step ∙ sym (law.server_after short before) in
    let state : call_at pairs now ≡ next_call c.book.geometry c.job c.state answer
    = ap (λ (made : Server × State). call_at pairs made.1) step ∙ sym (law.call_after short before) ∙ ap (λ (s : CallState). next_call c.book.geometry c.job s (at_server short law.step before).1) (sym is) in
    let takes : c.takes ≡ take_from (Act.AtServer server law.step) answer c.takes = sym (law.takes_after short before c.takes) in
    let made : (after, record c { state = call_at pairs now; due = due; coding = false; step = short }) ≡ at_server_by (Act.AtServer server law.step) short due c before
    = λ i. (places i, record c { state = state i; takes = takes i; due = due; coding = false; step = short }) in
    made ∙ ap (λ act. at_server_by act short due c before) (sym act)

-- what a writing is told its call is told
pub server_tells : (c : CallOf) (pairs : List (ℕ × ℕ)) (at : State) (server : ℕ) → c.state ≡ call_at pairs at → server_of at ≡ Some server
    → (short : Bool) (before : Server) → told_at short before at ≡ told_here short c before
server_tells c pairs (State.Preparing stripe version asked servers row later placed versions) server is asks short before =
    ap (λ s. told_here_by (act_of_state c.book.geometry c.tries c.job s) short before) (sym is)
server_tells c pairs (State.Settling point place places) server is asks short before =
    ap (λ s. told_here_by (act_of_state c.book.geometry c.tries c.job s) short before) (sym is)
server_tells c pairs at server is asks short before = absurd (none-some server asks)

-- which server a writing needs
pub record Asks (at : State) (due : Bool) (server : ℕ) : Type 0 where
  pub asked : server_of at ≡ Some server
  pub undue : due ≡ false

module _ (g : Shape) (tries : ℕ) (job : Job) (pairs : List (ℕ × ℕ)) (number : ℕ) (note : Note) (drawn : List ℕ) (token : ActorToken) where
  pub asks : (at : State) (due : Bool) (server : ℕ) → HasToken number note drawn token at → need_by (act_at g tries job pairs at) due ≡ need.Server server → Asks at due server
  asks (State.Preparing stripe version asked servers row later placed versions) true server h e = absurd (cc)
  asks (State.Preparing stripe version asked servers row later placed versions) false server h e = (let same : asked ≡ server = cc in record { asked = ap Some same; undue = refl })
  asks (State.Settling point place places) true server h e = absurd (cc)
  asks (State.Settling point place places) false server h e = (let same : place.0 ≡ server = cc in record { asked = ap Some same; undue = refl })
  asks (State.Committing versions placed) true server h e = absurd (cc)
  asks (State.Committing versions placed) false server h e = absurd (cc)
  asks (State.Ending outcome) true server h e = absurd (cc)
  asks (State.Ending outcome) false server h e = absurd (cc)
  asks (State.Finished outcome) due server h e = absurd (cc)
  asks _ due server h e = absurd h

  -- the coder is needed where chunks are to be made
  pub codes : (at : State) (due : Bool) → HasToken number note drawn token at → need_by (act_at g tries job pairs at) due ≡ need.Coder → due ≡ true
  codes at true h e = refl
  codes (State.Preparing stripe version asked servers row later placed versions) false h e = absurd (cc)
  codes (State.Settling point place places) false h e = absurd (cc)
  codes (State.Committing versions placed) false h e = absurd (cc)
  codes (State.Ending outcome) false h e = absurd (cc)
  codes (State.Finished outcome) false h e = absurd (cc)
  codes _ false h e = absurd h

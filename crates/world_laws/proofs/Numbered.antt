-- A call uses no later number than its own.
use Rattle.std.proofs.Common.{◌≡◌, ℕ, ◌+◌, ◌<◌, ◌≤◌, List, [], ◌∷◌, length, refl, sym, ap, subst, arith}
use Rattle.std.proofs.lemmas.List.{length-append}
use Rattle.store_map.specs.declared.script.Script.{Script}
use Rattle.store_core.specs.Told.{Told}
use Rattle.store_core.specs.Note.{Note}
use Rattle.store_core.specs.Act.{Act, DirectoryStep}
use Rattle.store_core.specs.Agreement.{Seat, HeldPass, ActorToken}
use Rattle.store_core.specs.Tokens.{after_look, after_pass_step}
use Rattle.store_core.specs.Work.{Ended, Work}
use Rattle.call_steps.specs.TokenAfter.{token_after}
use Rattle.call_steps.specs.CallOf.{CallOf}
use Rattle.world_laws.specs.World.{DoingOf, ActorOf}
use Rattle.world_laws.specs.ActorAfter.{IsCallBefore, actor_after_by}
use Rattle.world_laws.specs.Tokens.{token_of, IsUsedBelow, IsNext, AreNumbered}

below_more : (n : ℕ) (token : ActorToken) → IsUsedBelow n token → IsUsedBelow (n + 1) token
below_more n (ActorToken.Seated seat) h = let low : seat.unused ≤ n = h in omega (arith, low)
below_more n (ActorToken.InCall held) h = let low : held.pass.number < n = h in omega (arith, low)

same_number : (n : ℕ) → n + 1 ≤ n + 1
same_number n = omega arith

look_below : (seat : Seat) (n : ℕ) (note : Note) (answer : Told) → seat.unused ≤ n + 1 → IsUsedBelow (n + 1) (after_look seat n note answer)
look_below seat n note (Told.Answer point reply) h = same_number n
look_below seat n note (Told.Pinned point length_now seen) h = omega arith
look_below seat n note (Told.Ready base length_now seen) h = omega arith
look_below seat n note (Told.PinnedStripe seen) h = omega arith
look_below seat n note answer h = h

pass_below : (held : HeldPass) (n : ℕ) (answer : Told) → held.pass.number < n + 1 → IsUsedBelow (n + 1) (after_pass_step held answer)
pass_below held n (Told.Versions versions) h = h
pass_below held n (Told.Done point) h = let low : held.pass.number < n + 1 = h in omega (arith, low)
pass_below held n (Told.Changed base newer) h = let low : held.pass.number < n + 1 = h in omega (arith, low)
pass_below held n Told.Ended h = let low : held.pass.number < n + 1 = h in omega (arith, low)
pass_below held n (Told.Superseded newer) h = let low : held.pass.number < n + 1 = h in omega (arith, low)
pass_below held n (Told.Reaped point) h = let low : held.pass.number < n + 1 = h in omega (arith, low)
pass_below held n answer h = h

-- a step of the call with this number uses no later one
pub token_below : (token : ActorToken) (n : ℕ) (step : DirectoryStep) (answer : Told) → IsUsedBelow (n + 1) token → IsUsedBelow (n + 1) (token_after token n step answer)
token_below (ActorToken.Seated seat) n (DirectoryStep.Look note) answer h = look_below seat n note answer h
token_below (ActorToken.Seated seat) n (DirectoryStep.LookRepair note) answer h = look_below seat n note answer h
token_below (ActorToken.Seated seat) n step answer h = h
token_below (ActorToken.InCall held) n step answer h = pass_below held n answer h

-- a call before its step
pub before_numbered : (script : Script) (work : Work) (ended : List Ended) (doing : DoingOf) (c : CallOf) → AreNumbered ended doing → IsCallBefore script work.jobs ended doing c → IsNext ended c.number c.token
before_numbered script work ended (DoingOf.Between token) c fits begins =
    record { next = begins.first.number; used = subst (IsUsedBelow (length ended + 1)) (sym begins.held) (below_more (length ended) token fits) }
before_numbered script work ended (DoingOf.InCall call steps) c fits same = subst (λ (now : CallOf). IsNext ended now.number now.token) (sym same) fits

pub before_token : (script : Script) (work : Work) (ended : List Ended) (doing : DoingOf) (c : CallOf) → IsCallBefore script work.jobs ended doing c → c.token ≡ token_of doing
before_token script work ended (DoingOf.Between token) c begins = begins.held
before_token script work ended (DoingOf.InCall call steps) c same = ap (λ (now : CallOf). now.token) same

-- the actor after it
pub after_numbered : (a : ActorOf) (c : CallOf) (act : Act) → IsNext a.ended c.number c.token → AreNumbered (actor_after_by act c a).ended (actor_after_by act c a).doing
after_numbered a c (Act.Finish outcome) fits =
    subst (λ n. IsUsedBelow n c.token) (sym (length-append a.ended (record { outcome = outcome; takes = c.takes } ∷ []))) fits.used
after_numbered a c (Act.AtDirectory step) fits = fits
after_numbered a c (Act.AtServer server step) fits = fits

pub after_token : (a : ActorOf) (c : CallOf) (act : Act) → token_of (actor_after_by act c a).doing ≡ c.token
after_token a c (Act.Finish outcome) = refl
after_token a c (Act.AtDirectory step) = refl
after_token a c (Act.AtServer server step) = refl

-- Points in time: in the order of calls, and what a refusal names of points came while its call ran.
use Rattle.std.specs.Prelude.{◌≡◌, ℕ, ◌<◌, List, ◌++◌, Some, All, Contains, ⊤}
use Rattle.store_map.specs.declared.actor.Actor.{Actor}
use Rattle.store_map.specs.declared.call_name.CallName.{CallName}
use Rattle.store_map.specs.declared.call_name.CallName.TheVariants as name
use Rattle.store_map.specs.declared.cause.Cause.{Cause}
use Rattle.store_map.specs.declared.cause.Cause.TheVariants as cause
use Rattle.store_map.specs.declared.cause.RepairResult.{RepairResult}
use Rattle.store_map.specs.declared.cause.RepairResult.TheVariants as result
use Rattle.store_map.specs.declared.line.HLine.{HLine}
use Rattle.store_map.specs.declared.line.XLine.{XLine}
use Rattle.store_map.specs.declared.line.RLine.{RLine}
use Rattle.store_map.specs.declared.transcript.Transcript.{Transcript}
use Rattle.store_core.specs.Act.{Act, DirectoryStep}
use Rattle.store_core.specs.PlaceLaws.{new_point}
use Rattle.history_laws.specs.Trace.{Made}
use Rattle.history_laws.specs.Moments.{Happened, name_of, IsOf}

-- a new point comes after the call's first step and before its last, by a step of which this holds
abbrev pub ComesWithin : List Made → CallName → (Made → Type 0) → ℕ → Type 0
ComesWithin trace call By point =
    Happened trace
    (λ before last. IsOf call last × Happened before (λ early made. (new_point made.answer ≡ Some point) × By made × Happened early (λ _ first. IsOf call first)))

-- whichever step made it
abbrev pub AnyStep : Made → Type 0
AnyStep made = ⊤

-- the operator gives up the call's actor
abbrev pub ReapsIts : CallName → Made → Type 0
ReapsIts call made = (who : Actor) × (number : ℕ) × (made.act ≡ Act.AtDirectory (DirectoryStep.Reap who)) × (name_of who number ≡ Some call)

-- the points that a refusal names came while its call ran
abbrev pub NamesPoints : List Made → CallName → Cause → Type 0
NamesPoints trace call (cause.Contended pairs) = All (λ (pair : ℕ × ℕ). ComesWithin trace call AnyStep pair.1) pairs
NamesPoints trace call (cause.Reaped point) = ComesWithin trace call (ReapsIts call) point
NamesPoints trace call _ = ⊤

-- and those that a rebuild's result names
abbrev pub ResultNamesPoints : List Made → CallName → RepairResult → Type 0
ResultNamesPoints trace call (result.Superseded newer) = ComesWithin trace call AnyStep newer
ResultNamesPoints trace call (result.Reaped point) = ComesWithin trace call (ReapsIts call) point
ResultNamesPoints trace call _ = ⊤

-- of two calls that have lines in the history, the one that was over before the other began has the smaller point
abbrev pub KeepsTime : List Made → Transcript → Type 0
KeepsTime trace t =
    (line later : HLine) → Contains t.history line → Contains t.history later → (before after : List Made) → trace ≡ before ++ after →
    All (λ made. IsOf (name.Client line.call) made → ⊥) after → All (λ made. IsOf (name.Client later.call) made → ⊥) before → line.point < later.point

-- the points of a transcript are in time
pub record HasPointsInTime (trace : List Made) (t : Transcript) : Type 0 where
  pub order : KeepsTime trace t
  pub refused : All (λ (line : XLine). NamesPoints trace (name.Client line.call) line.cause) t.refused
  pub repairs : All (λ (line : RLine). ResultNamesPoints trace (name.Repairer line.call) line.result) t.repairs

-- Puts and writes that the map refuses.
use Rattle.std.specs.Prelude.{◌<◌, ℕ, List, IsTrue}
use Rattle.clay_grid.specs.Shape.{Shape, stripe_length}
use Rattle.store_map.specs.PlainMap.{apply}
use Rattle.store_map.specs.declared.actor.Actor.{Actor}
use Rattle.store_map.specs.declared.call.Call.{Call}
use Rattle.store_map.specs.declared.call.Call.TheVariants as call
use Rattle.store_map.specs.declared.content.Content.{Content}
use Rattle.store_core.specs.Note.{note_of}
use Rattle.store_core.specs.Conditions.{MayBegin, IsOfClient}
use Rattle.store_core.specs.Step.{Places}
use Rattle.session_rules.specs.State.{State}
use Rattle.session_rules.specs.Calls.{is_refusal, serve_call}
use Rattle.session_rules.specs.Seen.{IsSeenAs}
use Rattle.session_rules.specs.ServedLaws.{IsServedAs}

-- the map refuses the call
abbrev pub IsRefused : ℕ → Call → State → Type 0
IsRefused max call s = IsTrue (is_refusal (apply max call s.objects).1)

-- a refused put that runs alone
abbrev pub RefusedPutsAreServed : Type 0
RefusedPutsAreServed =
    (g : Shape) (max tries : ℕ) (stands : List ℕ) (p : Places) (s : State) (who : Actor) (number : ℕ) (name : List ℕ) (content : Content) →
    0 < stripe_length g → IsSeenAs g max stands p s → MayBegin p.directory who number → IsOfClient who (note_of (call.Put name content)) → IsRefused max (call.Put name content) s →
    IsServedAs g max tries who number (call.Put name content) stands p (serve_call g max (call.Put name content) s)

-- a refused write that runs alone, with a try at least
abbrev pub RefusedWritesAreServed : Type 0
RefusedWritesAreServed =
    (g : Shape) (max tries : ℕ) (stands : List ℕ) (p : Places) (s : State) (who : Actor) (number : ℕ) (name : List ℕ) (offset : ℕ) (content : Content) →
    0 < stripe_length g → 0 < tries → IsSeenAs g max stands p s → MayBegin p.directory who number → IsOfClient who (note_of (call.Write name offset content)) → IsRefused max (call.Write name offset content) s →
    IsServedAs g max tries who number (call.Write name offset content) stands p (serve_call g max (call.Write name offset content) s)

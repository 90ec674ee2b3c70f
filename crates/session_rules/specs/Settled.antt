-- Quiet places are settled, and a put leaves them settled.
use Rattle.std.specs.Prelude.{◌<◌, ℕ, ◌+◌, List, ◌++◌}
use Rattle.clay_grid.specs.Shape.{Shape, stripe_length}
use Rattle.store_map.specs.Content.{content_length}
use Rattle.store_map.specs.declared.actor.Actor.{Actor}
use Rattle.store_map.specs.declared.call.Call.TheVariants as call
use Rattle.store_map.specs.declared.content.Content.{Content}
use Rattle.store_core.specs.Note.{note_of}
use Rattle.store_core.specs.Conditions.{MayBegin, IsOfClient}
use Rattle.store_core.specs.Step.{Places}
use Rattle.session_rules.specs.State.{State}
use Rattle.session_rules.specs.Calls.{serve_call}
use Rattle.session_rules.specs.Seen.{IsSeenAs, IsQuiet}
use Rattle.session_rules.specs.Sweeps.{KeepsPinned}
use Rattle.session_rules.specs.Puts.{drawn_by, directory_after, holding}
use Rattle.session_rules.specs.Quiet.{IsSettled}

-- where the places are quiet, servers hold versions that objects have or that a snapshot keeps
abbrev pub QuietIsSettled : Type 0
QuietIsSettled = (g : Shape) (max : ℕ) (stands : List ℕ) (p : Places) (s : State) → IsSeenAs g max stands p s → KeepsPinned stands p s → IsQuiet stands p s → IsSettled stands p s

-- the places that a put leaves are settled, and what the snapshot keeps is pinned in them
pub record IsSettledAfter (g : Shape) (max : ℕ) (stands : List ℕ) (p : Places) (s : State) (who : Actor) (number : ℕ) (name : List ℕ) (content : Content) : Type 0 where
  pub settled :
      IsSettled (stands ++ drawn_by who number (note_of (call.Put name content)) p)
      (record { directory = directory_after who number (note_of (call.Put name content)) p; servers = holding (drawn_by who number (note_of (call.Put name content)) p) p.servers })
      (serve_call g max (call.Put name content) s).0
  pub pinned :
      KeepsPinned (stands ++ drawn_by who number (note_of (call.Put name content)) p)
      (record { directory = directory_after who number (note_of (call.Put name content)) p; servers = holding (drawn_by who number (note_of (call.Put name content)) p) p.servers })
      (serve_call g max (call.Put name content) s).0

-- so it is of each put that isn't too large
abbrev pub PutsAreSettled : Type 0
PutsAreSettled =
    (g : Shape) (max : ℕ) (stands : List ℕ) (p : Places) (s : State) (who : Actor) (number : ℕ) (name : List ℕ) (content : Content) →
    0 < stripe_length g → IsSeenAs g max stands p s → KeepsPinned stands p s → IsSettled stands p s → MayBegin p.directory who number → IsOfClient who (note_of (call.Put name content)) →
    content_length content < max + 1 → IsSettledAfter g max stands p s who number name content

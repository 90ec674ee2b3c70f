-- What clients were owed by their looks is the map's reply there.
use Rattle.std.specs.Prelude.{◌≡◌, ℕ, ◌<◌, List, [], ◌∷◌, ◌++◌, length, take}
use Rattle.clay_grid.specs.Limits.{IsGeometry}
use Rattle.store_map.specs.Limits.{size_of}
use Rattle.store_map.specs.Naming.{IsValid}
use Rattle.store_map.specs.declared.actor.Actor.TheVariants as actor
use Rattle.store_map.specs.declared.actor.Token.{Token}
use Rattle.store_map.specs.declared.reply.Reply.{Reply}
use Rattle.store_map.specs.declared.reply.Reply.TheVariants as reply
use Rattle.store_map.specs.declared.script.Script.{Script}
use Rattle.store_core.specs.ActPlace.{ActPlace}
use Rattle.store_core.specs.Content.{contents_of}
use Rattle.store_core.specs.Core.{first_core}
use Rattle.store_core.specs.Directory.{Event, Point}
use Rattle.store_core.specs.History.{applied, call_of}
use Rattle.store_core.specs.Read.{parts_of}
use Rattle.run_laws.specs.MapAfter.{map_by}
use Rattle.run_laws.specs.ReadLaws.{bytes_read}
use Rattle.thread_laws.specs.Histories.{Histories, StandTwice, GoOn}
use Rattle.thread_laws.specs.MadeSteps.{MadeStep}
use Rattle.thread_laws.specs.Owed.{directory_after, IsLook, WasOwed}

-- the plain map's reply to a client's call at a point of a history
abbrev pub reply_at : Script → List Point → ℕ → ℕ → ℕ → Reply
reply_at script points place i number =
    (applied (size_of script) (map_by (call_of script) (size_of script) (take place points)) Event.Pinned (call_of script (actor.Client i) number)).1

-- it stands in the history, and these bytes are the reply there
pub record IsReply (script : Script) (points : List Point) (i number place : ℕ) (bytes : List ℕ) : Type 0 where
  pub within : place < length points
  pub reply : reply_at script points place i number ≡ reply.Bytes bytes

-- of steps that were made apart, at places and by actors, so far as they were made: what a client was owed is the map's reply
abbrev pub OwedAreReplies : Type 0
OwedAreReplies =
    (script : Script) (lines : List Token) (h : Histories) → IsGeometry script.geometry → IsValid script → StandTwice h → GoOn script lines (first_core script) h.at h.of →
    (i number place : ℕ) (bytes : List ℕ) → WasOwed script (h.at ActPlace.Directory) i number place bytes →
    IsReply script (directory_after script (h.at ActPlace.Directory)).points i number place bytes

-- more steps leave it
abbrev pub OwedStay : Type 0
OwedStay =
    (script : Script) (steps more : List MadeStep) (i number place : ℕ) (bytes : List ℕ) → WasOwed script steps i number place bytes → WasOwed script (steps ++ more) i number place bytes

-- a look is owed the bytes of what it was told, by the contents of the directory's versions
abbrev pub LooksAreOwed : Type 0
LooksAreOwed =
    (script : Script) (steps : List MadeStep) (m : MadeStep) (i number place : ℕ) → (look : IsLook i number place m) → (contents : List (List ℕ)) →
    contents ≡ contents_of script (directory_after script steps).versions →
    WasOwed script (steps ++ m ∷ []) i number place (bytes_read contents (parts_of script.geometry look.note look.length_now look.seen))

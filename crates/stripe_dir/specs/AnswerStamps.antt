-- The stamps that come with the answers.
use Rattle.std.specs.Prelude.{◌≡◌, List, [], length, Result, Ok, Err, Option, All, ⊤}
use Rattle.clay_grid.specs.Shape.{stripe_length}
use Rattle.store_core.specs.PassSteps.{touched}
use Rattle.store_core.specs.Directory.{Pass}
use Rattle.store_core.specs.Agreement.{HeldPass}
use Rattle.version_seal.specs.Entry.{StampOf, RequestOf}
use Rattle.stripe_stamps.specs.Sealed.{Sealed, stamps_touched}
use Rattle.stripe_dir.specs.declared.directory_answers.Look.{Look}
use Rattle.stripe_dir.specs.declared.directory_answers.Look.TheVariants as look
use Rattle.stripe_dir.specs.declared.directory_answers.RepairLook.{RepairLook}
use Rattle.stripe_dir.specs.declared.directory_answers.RepairLook.TheVariants as repair
use Rattle.stripe_dir.specs.declared.directory_answers.Drawn.{Drawn}
use Rattle.stripe_dir.specs.declared.directory_answers.Drawn.TheVariants as drawn
use Rattle.stripe_stamps.specs.SeenStripes.{IsSeenIn}

-- so are those of a client's look
abbrev pub AreSeenIn : {S P : Type 0} → List StampOf → Look S P → Type 0
AreSeenIn stamps (look.Answer seat point reply) = ⊤
AreSeenIn stamps (look.Pinned pass point length seen) = All (IsSeenIn stamps) seen.items
AreSeenIn stamps (look.Ready pass looked_at length seen) = All (IsSeenIn stamps) seen.items

-- and that of a repairer's
abbrev pub IsSeenByRepair : {S P : Type 0} → List StampOf → RepairLook S P → Type 0
IsSeenByRepair stamps (repair.NoSuch seat) = ⊤
IsSeenByRepair stamps (repair.Pinned pass seen) = IsSeenIn stamps seen

-- the stamps that a draw gives, none where memory was wanting
abbrev pub stamps_given : {S P E : Type 0} → Result (Drawn S P) E → List StampOf
stamps_given (Ok (drawn.Versions held stamps)) = stamps.items
stamps_given (Ok (drawn.Reaped seat at)) = []
stamps_given (Err e) = []

-- where versions are drawn, they are those of the stripes that the pass's call touches
abbrev pub AreDrawn : {S P E : Type 0} → Sealed → Pass → Option RequestOf → Result (Drawn S P) E → Type 0
AreDrawn s pass request (Ok (drawn.Versions held stamps)) = stamps.items ≡ stamps_touched s.book s.stamps (stripe_length s.core.shape) pass request
AreDrawn s pass request (Ok (drawn.Reaped seat at)) = ⊤
AreDrawn s pass request (Err e) = ⊤

-- stamps of the versions that a pass draws: one for each stripe that its call touches, all of the directory's book
pub record AreDrawnFor (s : Sealed) (held : HeldPass) (request : Option RequestOf) (stamps : List StampOf) : Type 0 where
  pub drawn : stamps ≡ stamps_touched s.book s.stamps (stripe_length s.core.shape) held.pass request
  pub homes : All (λ stamp. stamp.home ≡ s.book.home) stamps
  pub count : length stamps ≡ length (touched s.core held.pass.note)

-- so they are where a draw gives versions
abbrev pub IfDrawn : {S P : Type 0} → Sealed → HeldPass → Option RequestOf → Drawn S P → Type 0
IfDrawn s held request (drawn.Versions pass stamps) = AreDrawnFor s held request stamps.items
IfDrawn s held request (drawn.Reaped seat at) = ⊤

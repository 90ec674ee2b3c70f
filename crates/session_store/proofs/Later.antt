-- A call that has made a step looks again only as a write that found its object changed.
use Rattle.std.proofs.Common.{◌≡◌, ℕ, List, Option}
use Rattle.std.specs.Prelude.{⊤}
use Rattle.clay_grid.specs.Shape.{Shape, chunk_count}
use Rattle.store_core.specs.Lists.{places_of}
use Rattle.store_core.specs.Told.{Told}
use Rattle.store_core.specs.Note.{Kind}
use Rattle.store_core.specs.Act.{Act}
use Rattle.store_core.specs.NextAct.{Job}
use Rattle.run_laws.specs.PinLaws.{IsReading}
use Rattle.run_laws.specs.State.{State}
use Rattle.run_laws.specs.LookAfter.{start_after}
use Rattle.run_laws.specs.CallLaws.{next_call_from}
use Rattle.run_laws.specs.FitLaws.{Fits}
use Rattle.call_machine.proofs.Walks.{IsByPoint, settle, open_kept, read_told, later_told}
use Rattle.call_machine.proofs.Acts.{IsLater}

-- whatever its pins
abbrev Any : Option ℕ → Type 0
Any found = ⊤

later : IsByPoint IsLater Any
later = record { none = tt; plain = λ at looked h. looked; back = λ at h. tt }

-- ---- a call that reads
read_later : (g : Shape) (kind : Kind) (job : Job) (answer : Told) → IsReading kind → IsLater (start_after g kind job answer)
read_later g Kind.Get job answer reads = read_told IsLater Any later g job answer tt
read_later g Kind.ReadAt job answer reads = read_told IsLater Any later g job answer tt
read_later g kind job answer reads = absurd reads

not_write : (kind : Kind) → IsReading kind → kind ≡ Kind.Write → ⊥
not_write Kind.Write reads e = reads
not_write Kind.Get reads e = absurd (cc (e))
not_write Kind.ReadAt reads e = absurd (cc (e))
not_write kind reads e = reads

-- after any answer that fits it has looked
pub reads_later : (g : Shape) (kind : Kind) (job : Job) (pairs : List (ℕ × ℕ)) (at : State) (act : Act) (answer : Told) → IsReading kind → Fits kind act answer → IsLater (next_call_from g kind job pairs at answer).at
reads_later g kind job pairs State.Start act answer reads fits = open_kept IsLater Any later g (start_after g kind job answer) (read_later g kind job answer reads)
reads_later g kind job pairs (State.Committing versions placed) act (Told.Done point) reads fits = settle IsLater Any later point (places_of (chunk_count g) versions)
reads_later g kind job pairs (State.Committing versions placed) act (Told.Changed base newer) reads fits = absurd (not_write kind reads fits.1)
reads_later g kind job pairs at act answer reads fits = later_told IsLater Any later g kind job at answer tt

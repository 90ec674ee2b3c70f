-- What a step of the gathering at work keeps.
use Rattle.std.proofs.Common.{◌≡◌, ℕ, Bool, List, ◌++◌, length, Option, None, Some, refl, sym, ap, subst, ◌∙◌}
use Rattle.store_core.proofs.Places.{length-change_at}
use Rattle.store_core.specs.Told.{Told}
use Rattle.store_core.specs.Server.{Server, raised_by, at_server}
use Rattle.run_laws.specs.Stage.{Stage}
use Rattle.run_laws.specs.StageAfter.{step_asked}
use Rattle.version_seal.specs.Entry.{BookOf}
use Rattle.gathering.specs.Gathers.{GatherOf, heard, taking, stepped_at, stepped as gather_stepped}
use Rattle.gathering.specs.Courses.{server_of}
use Rattle.gather_parts.specs.Wanted.{bytes_of}
use Rattle.gather_parts.specs.Gatherings.{GatheringsOf, range_bytes, owed}
use Rattle.gather_parts.specs.Steps.{stepped_by, stepped}
use Rattle.gather_parts.specs.Inside.{IsAtWork, gatherings_in, takes_in}
use Rattle.gather_parts.specs.declared.gatherings.PartGatherings.TheInside.{Inside}
use Rattle.gather_parts.proofs.PartStages.{still_of_part}

length_taking : (answer : Told) (server : Option ℕ) (takes : List ℕ) → length (taking answer server takes) ≡ length takes
length_taking (Told.Given layers) (Some server) takes = length-change_at server (raised_by layers) takes
length_taking (Told.Given layers) None takes = refl
length_taking answer server takes = refl

module _ (book : BookOf) (w : GatherOf) (short : Bool) (s : Server) (takes : List ℕ) where
  heard_at_work : (answer : Told) → IsAtWork book w → IsAtWork book (heard w answer)
  heard_at_work answer h =
      record { code = h.code; home = h.home; part = still_of_part w.course.geometry w.course.aim w.course.stage answer h.part }

  at_work_by : (stage : Stage) → IsAtWork book w → IsAtWork book (stepped_at w short s takes stage).1
  at_work_by (Stage.Asks asking) h = heard_at_work (at_server short (step_asked w.course.geometry w.course.aim asking) s).1 h
  at_work_by stage h = h

  length_by : (stage : Stage) → length (stepped_at w short s takes stage).2 ≡ length takes
  length_by (Stage.Asks asking) = length_taking (at_server short (step_asked w.course.geometry w.course.aim asking) s).1 (server_of w.course) takes
  length_by stage = refl

  bytes_by : (stage : Stage) → range_bytes (stepped_at w short s takes stage).1.course.aim (stepped_at w short s takes stage).1.stamp.content ≡ range_bytes w.course.aim w.stamp.content
  bytes_by (Stage.Asks asking) = refl
  bytes_by stage = refl

module _ (book : BookOf) (w later : GatherOf) (short : Bool) (s after : Server) (takes more : List ℕ) (e : (after, later, more) ≡ gather_stepped w short s takes) where
  pub still_at_work : IsAtWork book w → IsAtWork book later
  still_at_work h = subst (λ (r : Server × GatherOf × List ℕ). IsAtWork book r.1) (sym e) (at_work_by book w short s takes w.course.stage h)

  pub still_counted : length more ≡ length takes
  still_counted = ap (λ (r : Server × GatherOf × List ℕ). length r.2) e ∙ length_by book w short s takes w.course.stage

-- the fields after a step are those of the gatherings after it
pub stepped_is : (a : Inside) (w later : GatherOf) (short : Bool) (s after : Server) (takes more : List ℕ) → a.current ≡ Some w → a.takes ≡ Some takes
    → (after, later, more) ≡ gather_stepped w short s takes
    → (after, gatherings_in (record a { current = Some later; takes = Some more })) ≡ stepped (gatherings_in a) short s
stepped_is a w later short s after takes more current counts e =
    ap (λ (r : Server × GatherOf × List ℕ). (r.0, record (gatherings_in a) { current = Some r.1; takes = r.2 })) e
    ∙ ap (λ l. next (gather_stepped w short s l)) (sym (ap (takes_in a.opening.geometry) counts))
    ∙ ap (λ o. stepped_by o (gatherings_in a) short s) (sym current)
  where
    next : Server × GatherOf × List ℕ → Server × GatheringsOf
    next r = (r.0, record (gatherings_in a) { current = Some r.1; takes = r.2 })

-- what is owed stays
owed_by : (p : GatheringsOf) (short : Bool) (s : Server) (current : Option GatherOf) → owed (stepped_by current (record p { current = current }) short s).1 ≡ owed (record p { current = current })
owed_by p short s None = refl
owed_by p short s (Some w) = ap (λ l. p.bytes ++ (l ++ bytes_of p.left)) (bytes_by p.book w short s p.takes w.course.stage)

pub still_owed : (p : GatheringsOf) (short : Bool) (s : Server) → owed (stepped p short s).1 ≡ owed p
still_owed p short s = owed_by p short s p.current

-- so does the book
book_by : (p : GatheringsOf) (short : Bool) (s : Server) (current : Option GatherOf) → (stepped_by current p short s).1.book ≡ p.book
book_by p short s None = refl
book_by p short s (Some w) = refl

pub same_book : (p : GatheringsOf) (short : Bool) (s : Server) → (stepped p short s).1.book ≡ p.book
same_book p short s = book_by p short s p.current

-- That stamps keep the contents of their versions, and hold the bytes of the plain map, by whatever calls were made.
use Rattle.std.specs.Prelude.{◌≡◌, ◌≢◌, ℕ, ◌<◌, Bool, true, false, ◌++◌, map, Option, Some, None}
use Rattle.clay_grid.specs.Shape.{stripe_length}
use Rattle.store_map.specs.declared.actor.Actor.{Actor}
use Rattle.store_core.specs.Act.{DirectoryStep}
use Rattle.store_core.specs.AtDirectory.{at_directory}
use Rattle.store_core.specs.Calls.{Calls}
use Rattle.store_core.specs.Directory.{Pass}
use Rattle.store_core.specs.Lookups.{pass_of}
use Rattle.run_laws.specs.MapAfter.{map_by}
use Rattle.run_laws.specs.Contents.{stripes_in, stored_in, HasBytes}
use Rattle.version_seal.specs.Entry.{BookOf, RequestOf, call_written}
use Rattle.stripe_stamps.specs.ItsStripes.{IsWhole}
use Rattle.stripe_stamps.specs.Sealed.{Sealed, new_sealed, stamps_touched}
use Rattle.stripe_stamps.specs.Stamped.{HaveContents, HasStamps}

-- a directory without versions has no contents; steps that aren't a draw keep stamps and contents, so does a draw that wants memory or whose pass was reaped; one that draws keeps them where its call is sealed
pub record StampsKeepContents (calls : Calls) : Type 0 where
  pub first : (book : BookOf) (max : ℕ) → HaveContents calls (new_sealed book max)
  pub still :
      (s : Sealed) (short : Bool) (who : Actor) (number : ℕ) (step : DirectoryStep) → step ≢ DirectoryStep.Draw →
      HaveContents calls s → HaveContents calls (record s { core = (at_directory short who number step s.core).0 })
  pub short :
      (s : Sealed) (who : Actor) (number : ℕ) → HaveContents calls s →
      HaveContents calls (record s { core = (at_directory true who number DirectoryStep.Draw s.core).0 })
  pub reaped :
      (s : Sealed) (who : Actor) (number : ℕ) (pass : Pass) (point : ℕ) → pass_of who s.core ≡ Some pass → pass.reaped ≡ Some point → HaveContents calls s →
      HaveContents calls (record s { core = (at_directory false who number DirectoryStep.Draw s.core).0 })
  pub draw :
      (s : Sealed) (who : Actor) (number : ℕ) (pass : Pass) (request : Option RequestOf) → 0 < stripe_length s.core.shape →
      IsWhole s.core → HasStamps s → pass_of who s.core ≡ Some pass → pass.reaped ≡ None →
      call_written s.book.script pass.actor pass.number request ≡ calls pass.actor pass.number → HaveContents calls s →
      HaveContents calls
      (record {
        core = (at_directory false who number DirectoryStep.Draw s.core).0;
        book = s.book;
        stamps = s.stamps ++ stamps_touched s.book s.stamps (stripe_length s.core.shape) pass request;
      })

-- where the directory has the bytes of the map, the contents of the stamps of each object's versions are the stripes of its bytes
abbrev pub StampsHoldTheBytesOfTheMap : Type 0
StampsHoldTheBytesOfTheMap =
    (calls : Calls) (s : Sealed) → HasBytes calls s.core → HaveContents calls s →
    stored_in (map (λ stamp. stamp.content) s.stamps) s.core.objects ≡ stripes_in s.core.shape (map_by calls s.core.max s.core.points)

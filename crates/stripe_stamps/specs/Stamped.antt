-- That a directory's stamps are those of its versions.
use Rattle.std.specs.Prelude.{◌≡◌, ℕ, ◌<◌, List, length, map, All, Option, IfSome}
use Rattle.std.specs.List.{range_with_len}
use Rattle.store_map.specs.declared.actor.Actor.{Actor}
use Rattle.store_core.specs.Calls.{Calls}
use Rattle.store_core.specs.Content.{contents_by}
use Rattle.store_core.specs.Directory.{Pin, Version}
use Rattle.store_core.specs.History.{call_of}
use Rattle.version_seal.specs.Entry.{BookOf, StampOf}
use Rattle.stripe_stamps.specs.Sealed.{Sealed}
use Rattle.stripe_stamps.specs.ItsStripes.{IsOfStripe}

-- each at its version's number
abbrev pub AreNumbered : List StampOf → Type 0
AreNumbered stamps = map (λ stamp. stamp.version) stamps ≡ range_with_len 0 (length stamps)

-- stamps of a book, each at its version's number
pub record AreOf (book : BookOf) (stamps : List StampOf) : Type 0 where
  pub numbered : AreNumbered stamps
  pub at_home : All (λ stamp. stamp.home ≡ book.home) stamps

-- pins name versions of their stripes, by the stamps
abbrev pub AreBases : List StampOf → List Pin → Type 0
AreBases stamps pins = All (λ pin. (pin.version < length stamps) × IsOfStripe (map (λ stamp. stamp.stripe) stamps) pin.version pin.stripe) pins

-- the call that drew a version, its stripe, and the version that it is laid over, by its stamp and by the directory
abbrev pub told_by_stamp : StampOf → Actor × ℕ × ℕ × Option ℕ
told_by_stamp stamp = (stamp.actor, stamp.number, stamp.stripe, stamp.base)

abbrev pub told_by_version : Version → Actor × ℕ × ℕ × Option ℕ
told_by_version version = (version.actor, version.number, version.stripe, version.base)

-- the stamps have the contents of the versions, by the calls that drew them
abbrev pub HaveContents : Calls → Sealed → Type 0
HaveContents calls s = map (λ stamp. stamp.content) s.stamps ≡ contents_by s.core.shape calls s.core.versions

-- they are of the directory's book, tell what the directory tells, and with a script have the contents of the versions
pub record HasStamps (s : Sealed) : Type 0 where
  pub code : s.book.geometry ≡ s.core.shape
  pub its : AreOf s.book s.stamps
  pub told : map told_by_stamp s.stamps ≡ map told_by_version s.core.versions
  pub contents : IfSome s.book.script (λ script. HaveContents (call_of script) s)

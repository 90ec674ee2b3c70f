-- A directory with a stamp for each of its versions.
use Rattle.std.specs.Prelude.{ℕ, ◌+◌, Bool, List, [], length, map, Option, is_some, option_and_then, IfSome, IsTrue}
use Rattle.std.specs.List.{range_with_len, slice_get}
use Rattle.store_core.specs.Directory.{Pin, Pass, Directory, new_directory}
use Rattle.version_seal.specs.Entry.{BookOf, StampOf, RequestOf, stamp_over, call_written, is_writing, IsRequestIn}
use Rattle.version_table.specs.TableSteps.{base_version}
use Rattle.stripe_stamps.specs.Stripes.{first_touched, count_touched}

-- the lists of the definitions, the book of its versions, and their stamps, each at its version's number
pub record Sealed : Type 0 where
  pub core : Directory
  pub book : BookOf
  pub stamps : List StampOf

-- the points are kept when it runs, so that they can be read: where the book has a script, whose transcript is made of them
abbrev pub keeps_points : Sealed → Bool
keeps_points s = is_some s.book.script

-- a directory without objects, of a book's versions
abbrev pub new_sealed : BookOf → ℕ → Sealed
new_sealed book max = record { core = new_directory book.geometry max; book = book; stamps = [] }

-- the stamp of the version that pins name for a stripe, if they name one
abbrev pub base_stamp : List StampOf → List Pin → ℕ → Option StampOf
base_stamp stamps pins stripe = option_and_then (λ version. slice_get stamps version) (base_version pins stripe)

-- of the versions that a pass draws for the stripes from a first one on, after those of the stamps, the one at a place
abbrev pub drawn_stamp : BookOf → List StampOf → Pass → ℕ → Option RequestOf → ℕ → StampOf
drawn_stamp book stamps pass first request place =
    stamp_over book (length stamps + place) pass.actor pass.number (first + place) request (base_stamp stamps pass.pinned (first + place))

-- so many of them
abbrev pub drawn_stamps : BookOf → List StampOf → Pass → ℕ → ℕ → Option RequestOf → List StampOf
drawn_stamps book stamps pass first count request = map (drawn_stamp book stamps pass first request) (range_with_len 0 count)

-- those of the stripes that its call touches, by the length of a stripe
abbrev pub stamps_touched : BookOf → List StampOf → ℕ → Pass → Option RequestOf → List StampOf
stamps_touched book stamps stripe_len pass request =
    drawn_stamps book stamps pass (first_touched stripe_len pass.note) (count_touched stripe_len pass.note) request

-- the pass's call is a put or a write of the book's script, or in a book without one that of the request
pub record CanSeal (book : BookOf) (pass : Pass) (request : Option RequestOf) : Type 0 where
  pub writes : IsTrue (is_writing (call_written book.script pass.actor pass.number request))
  pub asked : IfSome request (λ r. IsRequestIn book pass.actor pass.number r)

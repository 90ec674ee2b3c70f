-- What a draw seals, by what it was given.
use Rattle.std.specs.Prelude.{◌++◌, ℕ, List, Option, option_map}
use denote.Ref.{Bor}
use Rattle.version_seal.specs.Entry.{StampOf, RequestOf}
use Rattle.stripe_stamps.specs.Sealed.{CanSeal, drawn_stamp, drawn_stamps}
use Rattle.stripe_stamps.specs.StampList.{StampList}
use Rattle.stripe_stamps.specs.declared.sealing.Drawing.{Drawing}

-- the request that was given, if one was
abbrev pub asked : Option (Bor RequestOf) → Option RequestOf
asked request = option_map (λ r. r.now) request

-- the pass's call can be sealed
abbrev pub CanSealAll : Drawing → Type 0
CanSealAll drawing = CanSeal drawing.book.now drawing.pass.now.pass (asked drawing.request)

-- after these stamps the one at a place, and all that are drawn
abbrev pub stamp_at : Drawing → List StampOf → ℕ → StampOf
stamp_at drawing stamps place = drawn_stamp drawing.book.now stamps drawing.pass.now.pass drawing.first (asked drawing.request) place

abbrev pub stamps_of : Drawing → List StampOf → List StampOf
stamps_of drawing stamps = drawn_stamps drawing.book.now stamps drawing.pass.now.pass drawing.first drawing.count (asked drawing.request)

-- the list of a directory with more stamps
abbrev pub with_more : StampList → List StampOf → StampList
with_more before fresh = record { book = before.book; listed = before.listed ++ fresh }

-- A put with no bytes.
use Rattle.std.specs.Prelude.{◌≡◌, true, Some, []}
use Rattle.store_map.specs.declared.call.Call.{Call}
use Rattle.store_map.specs.declared.actor.Actor.TheVariants as actor
use Rattle.store_core.specs.Content.{written_by}
use Rattle.version_seal.specs.Entry.{BookOf, RequestOf, IsRequestIn, is_writing}

-- a call that writes, but no bytes
abbrev pub IsEmpty : Call → Type 0
IsEmpty call = (is_writing (Some call) ≡ true) × (written_by (Some call) ≡ (0, []))

-- the first client's first call
pub record IsEmptyPut (book : BookOf) (request : RequestOf) : Type 0 where
  pub its : IsRequestIn book (actor.Client 0) 0 request
  pub empty : IsEmpty request.call

-- A call in work, as the definitions see it.
use Rattle.store_core.specs.Note.{Note}
use Rattle.store_core.specs.Note.{Kind as CoreKind}
use Rattle.store_core.specs.Directory.{Pin}
use Rattle.dir_parts.specs.declared.passes.CallKind.{CallKind}
use Rattle.dir_parts.specs.declared.passes.CallKind.TheVariants as kind
use Rattle.dir_parts.specs.declared.passes.CallNote.TheInside.{Inside as CallNote}
use Rattle.dir_parts.specs.declared.passes.Pinned.TheInside.{Inside as Pinned}

-- a kind of call in the words of the definitions
abbrev pub kind_in : CallKind → CoreKind
kind_in kind.Put = CoreKind.Put
kind_in kind.Write = CoreKind.Write
kind_in kind.Get = CoreKind.Get
kind_in kind.ReadAt = CoreKind.ReadAt
kind_in kind.Stat = CoreKind.Stat
kind_in kind.Delete = CoreKind.Delete
kind_in kind.Rebuild = CoreKind.Rebuild

abbrev pub note_in : CallNote → Note
note_in a = record { kind = kind_in a.kind; name = a.name; offset = a.offset; length = a.length }

abbrev pub pin_in : Pinned → Pin
pin_in a = record { stripe = a.stripe; version = a.version }

-- Threads may share a book.
use denote.Param.Send.{IsSend, IsSync, sendable, view_sync}
use denote.Param.SendFields.{declared_send, declared_sync}
use Rattle.std.proofs.Crossing.{crosses, Vec-send, Vec-sync}
use Rattle.boxcar.proofs.Sent.{slot_send, slot_sync, written_send, written_sync, tag_send, tag_sync}
use Rattle.version_seal.specs.contracts.book.Start as start
use Rattle.version_seal.specs.contracts.book.VersionNote as note
use Rattle.version_seal.specs.contracts.book.Book.TheInside as inside
use Rattle.version_seal.specs.contracts.book.Book as book

start_send : IsSend start.the_row
start_send = search (sendable, crosses) depth 60 fits 20000

start_sync : IsSync start.the_row
start_sync = search (sendable, crosses) depth 60 fits 20000

note_send : IsSend note.the_row
note_send = search (sendable, tag_send) depth 40

note_sync : IsSync note.the_row
note_sync = search (sendable, tag_sync) depth 40

pub book_sync : IsSync book.the_row
book_sync = view_sync inside.the_row _ _ _ _ (declared_sync inside.the_type (
  search (sendable, slot_sync, start_send, start_sync) depth 20,
  (
    search (sendable, written_sync),
    (search (sendable, crosses, slot_send, slot_sync, note_send, note_sync) depth 30, tt),
  ),
))

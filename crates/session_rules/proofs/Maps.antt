-- The session's map, and what the directory's versions stand for.
use Rattle.std.proofs.Common.{false, [], refl, sym, ap, ◌∙◌}
use Rattle.std.proofs.lemmas.List.{append-nil}
use Rattle.store_map.specs.PlainMap.{apply}
use Rattle.store_map.specs.declared.reply.Reply.TheVariants as reply
use Rattle.store_core.specs.Note.{note_of}
use Rattle.store_core.specs.Directory.{Event}
use Rattle.store_core.specs.History.{applied}
use Rattle.store_core.specs.Content.{contents_by}
use Rattle.store_core.specs.Read.{parts_of}
use Rattle.run_laws.specs.MapAfter.{map_by}
use Rattle.run_laws.proofs.ContentSteps.{steps_keep_bytes}
use Rattle.run_laws.specs.MoreCalls.{StaysByMore}
use Rattle.run_laws.proofs.MoreCalls.{steps_keep_drawn, more_calls_change_nothing}
use Rattle.run_laws.specs.ReadLaws.{bytes_read}
use Rattle.run_laws.proofs.OwedBytes.{looks_owe_their_pins}
use Rattle.session_rules.specs.Maps.{BeginningsAreMaps, BytesAreOwed, MoreCallsLeaveMaps}

pub beginnings_are_maps : BeginningsAreMaps
beginnings_are_maps calls g max = record { objects = refl; bytes = (steps_keep_bytes calls).first g max; drawn = (steps_keep_drawn calls).first g max }

pub bytes_are_owed : BytesAreOwed
bytes_are_owed calls g max stands p s who number call point length_now seen some h m begin client is told =
    ap (λ objects. (apply p.directory.max call objects).1) m.objects
    ∙ sym (ap (λ found. (applied p.directory.max (map_by calls p.directory.max p.directory.points) Event.Pinned found).1) is)
    ∙ looks_owe_their_pins calls false who number (note_of call) p.directory point length_now seen [] some h.sound m.bytes (begin, client) (call, is, refl) told
    ∙ ap (λ contents. reply.Bytes (bytes_read contents (parts_of p.directory.shape (note_of call) length_now seen))) (append-nil (contents_by p.directory.shape calls p.directory.versions))

pub more_calls_leave_maps : MoreCallsLeaveMaps
more_calls_leave_maps calls more g max stands p s h m among =
    let stays : StaysByMore calls more p.directory = more_calls_change_nothing calls more p.directory h.sound m.bytes m.drawn among in
    record { objects = m.objects ∙ sym stays.map; bytes = stays.bytes; drawn = stays.drawn }

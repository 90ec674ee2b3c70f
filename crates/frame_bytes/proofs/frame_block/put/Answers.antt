use Rattle.std.proofs.Common.{subst}
use Rattle.clay_bytes.specs.Stream.{Accepts}
use Rattle.frame_bytes.proofs.WriteLemmas.{put_behind, put_through}
use Rattle.frame_bytes.proofs.frame_block.put.Goals as goal

pub returns-then-has_room : goal.returns-then-has_room
returns-then-has_room g c =
    put_behind g.K.Sink.accepted g.K.Sink.written g.K.Sink.faults c.args.sink.now c.args.block.now.items c.args.piece.now c.keep.new.block.items _
    c.keep.ensures

pub returns : goal.returns
returns g c =
    let old = c.args.sink.now in
    let mid = c.write_all.new.sink in
    let was : Accepts (g.K.Sink.accepted old) (g.K.Sink.written old) c.args.block.now.items (g.K.Sink.accepted mid) (g.K.Sink.written mid) =
    subst (λ l. Accepts (g.K.Sink.accepted old) (g.K.Sink.written old) l (g.K.Sink.accepted mid) (g.K.Sink.written mid)) c.deref.ensures.value
    c.in_ok-write_all.ensures.accepted in
    put_through g.K.Sink.accepted g.K.Sink.written g.K.Sink.faults old mid c.write_all-2.new.sink c.args.block.now.items c.args.piece.now
    c.clear.new.self.items c.write_all-2.result was
    c.in_ok-write_all.ensures.steady c.clear.ensures.items c.write_all-2.ensures.accepted c.write_all-2.ensures.part c.write_all-2.ensures.cause
    c.write_all-2.ensures.steady c.write_all-2.ensures.count

use Rattle.std.proofs.Common.{◌≡◌}
use Rattle.frame_session.proofs.Going.{Going}
use Rattle.frame_session.proofs.frame_serving.serve_frames.Given as goal

abbrev pub invariant-frames : goal.invariant-frames
invariant-frames g l = record {
  going :
      Going l.fn.store l.store l.room (g.S.Source.given l.fn.source) (g.S.Source.left l.fn.source) (g.S.Source.given l.source) (g.S.Source.left l.source)
      (g.K.Sink.accepted l.fn.sink) (g.K.Sink.written l.fn.sink) (g.K.Sink.accepted l.sink) (g.K.Sink.written l.sink);
  read_steady : g.S.Source.faults l.source ≡ g.S.Source.faults l.fn.source;
  write_steady : g.K.Sink.faults l.sink ≡ g.K.Sink.faults l.fn.sink;
}

abbrev pub decreases-frames : goal.decreases-frames
decreases-frames g l = l.room

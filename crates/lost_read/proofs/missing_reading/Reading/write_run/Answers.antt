use Rattle.std.proofs.Common.{◌≡◌, ℕ, ◌+◌, ◌-◌, ◌*◌, ◌<◌, ◌≤◌, length, subst, sym, ap, arith}
use borrow.Rule.Slice.PartMut.{put_mid}
use Rattle.code_laws.specs.Columns.{HoldsPieces}
use Rattle.code_laws.specs.Solved.{coupled_byte}
use Rattle.code_laws.proofs.Pieces.{piece_fits, one_more_piece}
use Rattle.lost_layers.proofs.Determining.{between_wanted}
use Rattle.lost_read.specs.MissingReadings.{run_of}
use Rattle.lost_read.proofs.missing_reading.Reading.write_run.Goals as goal

pub write_layer-requires-clause-wanted : goal.write_layer-requires-clause-wanted
write_layer-requires-clause-wanted c =
    let run = (run_of c.args.self.now).run in
    let is = c.requires.reading.run.placed in
    let i : ℕ = c.loop-i.i in
    between_wanted run (run.from + i) (omega arith) (omega (arith, is.run.order, c.loop-i-test.true))

pub slice_bounds-write_layer-end : goal.slice_bounds-write_layer-end
slice_bounds-write_layer-end c =
    let e = run_of c.args.self.now in
    let w : ℕ = e.g.width in
    let i : ℕ = c.loop-i.i in
    let count : ℕ = e.run.to - e.run.from in
    let less : i < count = omega (arith, c.requires.reading.run.placed.run.order, c.loop-i-test.true) in
    let fits_in = piece_fits i count w less in
    let at_is : i * c.w-w.result + c.w-w.result ≡ i * w + w = ap (λ v. i * v + v) c.w-w.ensures.value in
    let ends : i * c.w-w.result + c.w-w.result ≤ length c.loop-i.out = omega (arith, fits_in, at_is, c.loop-i.auto.out, c.requires.out_len) in
    ends

pub loop-i-preserved : goal.loop-i-preserved
loop-i-preserved c =
    let e = run_of c.args.self.now in
    let g = e.g in
    let node = c.args.self.now.run.now.placed.node in
    let is = c.requires.reading.run.placed in
    let i : ℕ = c.loop-i.i in
    let count : ℕ = e.run.to - e.run.from in
    let less : i < count = omega (arith, is.run.order, c.loop-i-test.true) in
    let fits_in = piece_fits i count g.width less in
    let at : ℕ = i * c.w-w.result in
    let at_is : at ≡ i * g.width = ap (λ w. i * w) c.w-w.ensures.value in
    let room : i * g.width + g.width ≤ length c.loop-i.out = omega (arith, fits_in, c.loop-i.auto.out, c.requires.out_len) in
    let long : length c.write_layer.new.out ≡ g.width = omega (arith, c.write_layer.auto.out, room, at_is, c.w-w.ensures.value) in
    λ word fit.
    let value : ℕ → ℕ → ℕ = λ i b. coupled_byte g word b node (e.run.from + i) in
    subst (λ a. HoldsPieces g.width (i + 1) value (put_mid a (at + c.w-w.result - at) c.loop-i.out c.write_layer.new.out)) (sym at_is)
    (one_more_piece g.width i (at + c.w-w.result - at) value c.loop-i.out c.write_layer.new.out (omega (arith, room)) long (c.loop-i.invariant word fit) (λ b h. c.write_layer.ensures word fit b h))

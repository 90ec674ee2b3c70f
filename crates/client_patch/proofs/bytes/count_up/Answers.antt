use Rattle.std.proofs.Common.{◌+◌, ◌%◌, length, get_or, ap, ◌∙◌, arith}
use Rattle.std.proofs.lemmas.List.FromFn.{fill_by_all, get_or-map-range_with_len}
use Rattle.client_patch.proofs.Ramps.{from_skipped}
use Rattle.client_patch.proofs.Periods.{counted_at}
use Rattle.client_patch.proofs.bytes.count_up.Goals as goal

pub returns-then-piece-le-PERIOD : goal.returns-then-piece-le-PERIOD
returns-then-piece-le-PERIOD c =
    fill_by_all (λ i. (c.args.first + (c.args.skipped + i)) % 256) c.count_from.new.piece (length c.args.piece.now) 0 c.count_from.auto.piece
    (λ k h.
    ap (λ l. get_or l k 0) c.count_from.ensures
    ∙ get_or-map-range_with_len (λ i. ((c.args.first + c.args.skipped % 256) % 256 + i) % 256) 0 (length c.args.piece.now) k k 0 h (omega arith)
    ∙ counted_at c.args.first c.args.skipped k)
    ∙ from_skipped c.args.first c.args.skipped (length c.args.piece.now)

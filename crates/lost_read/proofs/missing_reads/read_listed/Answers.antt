use Rattle.std.proofs.Common.{ℕ, List, Bor, length, sym, ap, ◌∙◌}
use Rattle.std.proofs.lemmas.List.{length-map}
use Rattle.lost_read.proofs.missing_reads.read_listed.Goals as goal

pub read-requires-clause-reading : goal.read-requires-clause-reading
read-requires-clause-reading c =
    let pieces : List (Bor (List ℕ)) = c.args.pieces.now in
    let fit = c.requires.fit in
    record {
      run = c.requires.run;
      planned = c.in_ok-plan.ensures;
      count = sym (length-map pieces (λ (piece : Bor (List ℕ)). piece.now)) ∙ fit.count_is ∙ ap length c.requires.list;
      lengths = fit.lengths;
    }

use Rattle.std.proofs.Common.{rules, arith, ◌≡◌, suc, ◌<◌, ◌∙◌, ap, map, length, [], ◌∷◌, ◌++◌}
use Rattle.std.proofs.lemmas.List.{map_push}
use Rattle.version_seal.proofs.Rows.{names-more}
use Rattle.version_seal.proofs.book.Book.made_rows.Goals as goal

pub loop-at-preserved : goal.loop-at-preserved
loop-at-preserved c =
    let pushed : c.push.new.self.items ≡ c.loop-at.rows.items ++ c.in_ok-row.row ∷ [] = search rules in
    let there : suc c.loop-at.at < length c.args.self.now.home = omega (arith, c.loop-at-test.true, c.requires.there) in (
      omega (arith, c.loop-at.invariant.0),
      omega (arith, c.loop-at-test.true),
      ap (map (λ row. row.of)) pushed ∙ map_push (λ row. row.of) c.loop-at.rows.items c.in_ok-row.row
          ∙ names-more (map (λ row. row.of) c.loop-at.rows.items) c.args.self.now.home c.args.from c.loop-at.at c.in_ok-row.row.of c.loop-at.invariant.0 there c.loop-at.invariant.2 c.in_ok-row.ensures.ok,
    )

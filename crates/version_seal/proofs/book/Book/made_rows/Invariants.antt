use Rattle.std.proofs.Common.{◌≡◌, ◌≤◌, ◌-◌, suc, map, take, drop}
use Rattle.version_seal.proofs.book.Book.made_rows.Given as goal

-- so far the rows up to this one
abbrev pub invariant-loop-at : goal.invariant-loop-at
invariant-loop-at l =
    (l.from ≤ l.at) × (l.at ≤ l.until)
    × (map (λ row. row.of) l.rows.items ≡ take (l.at - l.from) (drop (suc l.from) l.self.home))

abbrev pub decreases-loop-at : goal.decreases-loop-at
decreases-loop-at l = l.until - l.at

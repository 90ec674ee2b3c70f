use Rattle.std.proofs.Common.{◌≡◌, false, nat_eq, get_or, sum_by, ap, ◌∙◌}
use Rattle.std.specs.Prelude.{◌&&◌}
use Rattle.std.proofs.lemmas.Bool.{ne_eqb, and_left, and_right}
use Rattle.store_map.specs.declared.line.GLine.{GLine}
use Rattle.hist_rules.specs.Counts.{wipes}
use Rattle.hist_check.proofs.WrongSums.{sum_differs}
use Rattle.hist_check.proofs.sums.server_adds_up.Goals as goal
use Rattle.hist_check.proofs.sums.server_adds_up.Goals.{else-printed-taken-via-then-printed-taken+else-line-epoch, else-printed-taken-via-else-printed-taken}

pub returns : goal.returns
returns c =
    let script = c.args.script.now in
    let line = c.args.line.now in
    let printed = c.from-printed.result in
    let taken = c.taken_of-taken.result in
    let epoch = c.of-epoch.result in
    let fails : (nat_eq printed taken && nat_eq line.epoch epoch) ≡ false =
    elim c.else-printed-taken.branch [
      | else-printed-taken-via-then-printed-taken+else-line-epoch w ↦ and_right (nat_eq printed taken) (nat_eq line.epoch epoch) (ne_eqb line.epoch epoch w.if-line-epoch.false)
      | else-printed-taken-via-else-printed-taken w ↦ and_left (nat_eq printed taken) (nat_eq line.epoch epoch) (ne_eqb printed taken w.if-printed-taken.false)
    ] in
    sum_differs script c.args.transcript.now line c.copy_line.result printed taken epoch
    c.from-printed.ensures
    (c.taken_of-taken.ensures ∙ ap (sum_by (λ (takes : GLine). get_or takes.takes line.server 0)) c.as_slice.ensures)
    (c.of-epoch.ensures ∙ c.requires.wipes c.from.result ∙ ap (wipes script) c.from.ensures)
    c.copy_line.ensures fails

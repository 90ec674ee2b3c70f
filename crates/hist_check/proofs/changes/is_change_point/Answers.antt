use Rattle.std.proofs.Common.{Bool, ltb, eqb, sym, ap, ◌∙◌, rules}
use Rattle.std.specs.Prelude.{◌&&◌}
use Rattle.std.specs.List.{list_any}
use Rattle.std.proofs.lemmas.Bool.{eq-eqb, ne_eqb}
use Rattle.std.proofs.lemmas.List.Sorted.{IsPartitionPoint-from_clause, IsPartitionedBy-ltb}
use Rattle.store_map.specs.declared.line.HLine.{HLine}
use Rattle.hist_rules.specs.First.{first_fault_along}
use Rattle.hist_rules.specs.PointsRise.{line_rises}
use Rattle.hist_rules.specs.Named.{is_change_line}
use Rattle.hist_check.proofs.Places.{points_do_not_fall, none_there, one_there}
use Rattle.hist_check.proofs.changes.is_change_point.Goals as goal

pub returns-then-line-point : goal.returns-then-line-point
returns-then-line-point c =
    let lines = c.as_slice-lines.result.now in
    let holds = is_change_line c.args.script.now c.args.name.now in
    let rising = ap (first_fault_along line_rises) c.as_slice-lines.ensures ∙ c.requires.rising in
    let parted = IsPartitionPoint-from_clause (λ (line : HLine). ltb line.point c.args.point) lines _ c.partition_point-place.ensures.partitioned
    (IsPartitionedBy-ltb (λ (line : HLine). line.point) lines c.args.point (points_do_not_fall lines rising c.args.point)) (λ a r q k. search rules) in
    c.is_change_line.ensures
    ∙ sym (ap (λ (b : Bool). b && holds c.in-Some.line.now) (eq-eqb c.in-Some.line.now.point c.args.point c.if-line-point.true))
    ∙ one_there lines rising c.args.point _ parted holds c.in-Some.line.now c.in-Some.ensures.lookup.3.0 (c.in-Some.ensures.lookup.3.1 _)
    ∙ ap (list_any (λ (line : HLine). eqb line.point c.args.point && holds line)) c.as_slice-lines.ensures

pub returns-else-line-point : goal.returns-else-line-point
returns-else-line-point c =
    let lines = c.as_slice-lines.result.now in
    let holds = is_change_line c.args.script.now c.args.name.now in
    let rising = ap (first_fault_along line_rises) c.as_slice-lines.ensures ∙ c.requires.rising in
    let parted = IsPartitionPoint-from_clause (λ (line : HLine). ltb line.point c.args.point) lines _ c.partition_point-place.ensures.partitioned
    (IsPartitionedBy-ltb (λ (line : HLine). line.point) lines c.args.point (points_do_not_fall lines rising c.args.point)) (λ a r q k. search rules) in
    let fails = ne_eqb c.in-Some.line.now.point c.args.point c.if-line-point.false in
    fails
    ∙ sym (ap (λ (b : Bool). b && holds c.in-Some.line.now) fails)
    ∙ one_there lines rising c.args.point _ parted holds c.in-Some.line.now c.in-Some.ensures.lookup.3.0 (c.in-Some.ensures.lookup.3.1 _)
    ∙ ap (list_any (λ (line : HLine). eqb line.point c.args.point && holds line)) c.as_slice-lines.ensures

pub returns-in-None : goal.returns-in-None
returns-in-None c =
    let lines = c.as_slice-lines.result.now in
    let holds = is_change_line c.args.script.now c.args.name.now in
    let rising = ap (first_fault_along line_rises) c.as_slice-lines.ensures ∙ c.requires.rising in
    let parted = IsPartitionPoint-from_clause (λ (line : HLine). ltb line.point c.args.point) lines _ c.partition_point-place.ensures.partitioned
    (IsPartitionedBy-ltb (λ (line : HLine). line.point) lines c.args.point (points_do_not_fall lines rising c.args.point)) (λ a r q k. search rules) in
    none_there lines rising c.args.point _ parted holds c.in-None.ensures.lookup.3
    ∙ ap (list_any (λ (line : HLine). eqb line.point c.args.point && holds line)) c.as_slice-lines.ensures

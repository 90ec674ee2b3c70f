use Rattle.std.proofs.Common.{◌≡◌, List, Bool, length, sym, subst, ap, ◌∙◌}
use Rattle.clay_grid.specs.Shape.{layer_count}
use Rattle.lost_layers.specs.Erased.{IsErased}
use Rattle.lost_layers.specs.ErasedRuns.{AreSolved}
use Rattle.lost_layers.specs.Unknown.{unknown_from}
use Rattle.lost_layers.specs.Without.{gone_nodes}
use Rattle.lost_layers.proofs.Gone.{gone_few, is_erased, unknown_long}
use Rattle.lost_layers.proofs.marked.MarkedRun.new.Goals as goal

pub unknown_nodes-requires-clause-nodes : goal.unknown_nodes-requires-clause-nodes
unknown_nodes-requires-clause-nodes c =
    ap length (c.deref.ensures.value ∙ c.in_ok-missing.ensures) ∙ (gone_few c.args.placed.now.g c.args.placed.now.run c.args.present.now c.requires.readable).len

pub solved_layers-requires : goal.solved_layers-requires
solved_layers-requires c =
    let g = c.args.placed.now.g in
    let run = c.args.placed.now.run in
    let present = c.args.present.now in
    let gone : c.deref-2.result.now ≡ gone_nodes g run present = c.deref-2.ensures.value ∙ c.in_ok-missing.ensures in
    let same : c.deref.result.now ≡ gone_nodes g run present = c.deref.ensures.value ∙ c.in_ok-missing.ensures in
    let known : c.deref-3.result.now ≡ unknown_from g run (gone_nodes g run present) = c.deref-3.ensures.value ∙ c.in_ok-unknown.ensures ∙ ap (unknown_from g run) same in
    record {
      placed = c.requires.placed;
      erased =
          subst (λ (l : List Bool). IsErased (record { g = g; run = run; missing = l; unknown = c.deref-3.result.now })) (sym gone)
          (subst (λ (l : List Bool). IsErased (record { g = g; run = run; missing = gone_nodes g run present; unknown = l })) (sym known)
          (is_erased g run present c.requires.placed.geometry c.requires.readable));
      missing = ap length gone ∙ (gone_few g run present c.requires.readable).len;
      unknown = ap length known ∙ unknown_long g run present c.requires.placed.geometry c.requires.readable;
    }

pub returns-clause-marked : goal.returns-clause-marked
returns-clause-marked c =
    let g = c.args.placed.now.g in
    let run = c.args.placed.now.run in
    let present = c.args.present.now in
    let unknown = c.in_ok-unknown.unknown.items in
    let gone : c.in_ok-missing.missing.items ≡ gone_nodes g run present = c.in_ok-missing.ensures in
    let known : unknown ≡ unknown_from g run (gone_nodes g run present) = c.in_ok-unknown.ensures ∙ ap (unknown_from g run) (c.deref.ensures.value ∙ gone) in
    record {
      placed = c.requires.placed;
      erased =
          subst (λ (l : List Bool). IsErased (record { g = g; run = run; missing = l; unknown = unknown })) (sym gone)
          (subst (λ (l : List Bool). IsErased (record { g = g; run = run; missing = gone_nodes g run present; unknown = l })) (sym known)
          (is_erased g run present c.requires.placed.geometry c.requires.readable));
      missing = ap length gone ∙ (gone_few g run present c.requires.readable).len;
      unknown = ap length known ∙ unknown_long g run present c.requires.placed.geometry c.requires.readable;
      solved =
          subst (λ (l : List Bool). AreSolved (record { g = g; run = run; missing = l; unknown = unknown }) (layer_count g) c.in_ok-solved.solved.items) c.deref-2.ensures.value
          (subst (λ (l : List Bool). AreSolved (record { g = g; run = run; missing = c.deref-2.result.now; unknown = l }) (layer_count g) c.in_ok-solved.solved.items) c.deref-3.ensures.value c.in_ok-solved.ensures);
    }

pub returns-clause-without : goal.returns-clause-without
returns-clause-without c =
    let g = c.args.placed.now.g in
    let run = c.args.placed.now.run in
    let present = c.args.present.now in
    let gone : c.in_ok-missing.missing.items ≡ gone_nodes g run present = c.in_ok-missing.ensures in
    let known : c.in_ok-unknown.unknown.items ≡ unknown_from g run (gone_nodes g run present) = c.in_ok-unknown.ensures ∙ ap (unknown_from g run) (c.deref.ensures.value ∙ gone) in
    λ k. record { g = g; run = run; missing = gone k; unknown = known k }

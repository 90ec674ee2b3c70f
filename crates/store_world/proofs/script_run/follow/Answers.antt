use Rattle.std.proofs.Common.{◌≡◌, ◌+◌, ◌<◌, ◌≤◌, ◌++◌, ◌∷◌, [], List, length, take, get_or, refl, sym, subst, ◌∙◌, arith}
use Rattle.std.proofs.lemmas.List.{take_all, take_more}
use Rattle.store_map.specs.declared.actor.Token.{Token}
use Rattle.store_map.specs.declared.actor.Token.TheVariants as token
use Rattle.store_map.specs.declared.script.Script.{Script}
use Rattle.world_laws.specs.Traced.{GoesTelling}
use Rattle.store_world.specs.Stored.{world_of}
use Rattle.store_world.specs.Watched.{Watched, ComesBy}
use Rattle.store_world.proofs.Playing.{first_comes, more_come}
use Rattle.store_world.proofs.Watching.{watched_none, watched_on}
use Rattle.store_world.proofs.script_run.follow.Goals as goal

pub loop-token-init : goal.loop-token-init
loop-token-init g c = record {
  its = c.requires.its;
  same = refl;
  told =
      watched_none (g.W.Watch.heard c.args.watch.now c.args.watch.now) (ComesBy c.args.script.now [] (world_of c.args.world.now)) (g.met.W.Watch.none c.args.watch.now)
      (first_comes c.args.script.now (world_of c.args.world.now) c.requires.first);
}

pub loop-token-preserved : goal.loop-token-preserved
loop-token-preserved g c =
    let script : Script = c.args.script.now in
    let tokens : List Token = c.as_slice-token-items.result.now in
    let i : _ = c.loop-token.token-index in
    let less : i < length tokens = omega (arith, c.loop-token-test.true) in
    let its : Token = get_or tokens i (token.Client 0) in
    let told : Watched (g.W.Watch.heard c.loop-token.watch c.step.new.watch) (GoesTelling script (its ∷ []) (world_of c.loop-token.world) (world_of c.step.new.self)) =
    subst (λ (s : Script). Watched (g.W.Watch.heard c.loop-token.watch c.step.new.watch) (GoesTelling s (its ∷ []) (world_of c.loop-token.world) (world_of c.step.new.self)))
    c.loop-token.invariant.its c.in_ok-step.ensures.told in
    let next : Watched (g.W.Watch.heard c.args.watch.now c.step.new.watch) (ComesBy script (take i script.schedule ++ its ∷ []) (world_of c.step.new.self)) =
    watched_on g.W.Watch.heard g.met.W.Watch.on (ComesBy script (take i script.schedule) (world_of c.loop-token.world)) (GoesTelling script (its ∷ []) (world_of c.loop-token.world) (world_of c.step.new.self))
    (ComesBy script (take i script.schedule ++ its ∷ []) (world_of c.step.new.self)) c.args.watch.now c.loop-token.watch c.step.new.watch
    (more_come script (take i script.schedule) (its ∷ []) (world_of c.loop-token.world) (world_of c.step.new.self)) c.loop-token.invariant.told told in
    let one : take (i + 1) tokens ≡ take i tokens ++ its ∷ [] = take_more tokens i (token.Client 0) less in
    let more : take (i + 1) script.schedule ≡ take i script.schedule ++ its ∷ [] =
    (λ k. take (i + 1) (sym c.as_slice-token-items.ensures k)) ∙ one ∙ (λ k. take i (c.as_slice-token-items.ensures k) ++ its ∷ []) in
    record {
      its = c.step.ensures.same ∙ c.loop-token.invariant.its;
      same = c.step.ensures.same ∙ c.loop-token.invariant.same;
      told = subst (λ (l : List Token). Watched (g.W.Watch.heard c.args.watch.now c.step.new.watch) (ComesBy script l (world_of c.step.new.self))) (sym more) next;
    }

pub returns-clause-told : goal.returns-clause-told
returns-clause-told g c =
    let script : Script = c.args.script.now in
    let tokens : List Token = c.as_slice-token-items.result.now in
    let i : _ = c.loop-token.token-index in
    let over : length tokens ≤ i = omega (arith, c.loop-token-test.false) in
    let ended : length script.schedule ≤ i = subst (λ (l : List Token). length l ≤ i) c.as_slice-token-items.ensures over in
    subst (λ (l : List Token). Watched (g.W.Watch.heard c.args.watch.now c.loop-token.watch) (ComesBy script l (world_of c.loop-token.world))) (take_all i script.schedule ended) c.loop-token.invariant.told

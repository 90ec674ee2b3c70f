use Rattle.std.proofs.Common.{rules, refl, ◌≡◌, ◌<◌, ◌≤◌, length, length-set, ◌∙◌, arith}
use Rattle.std.proofs.lemmas.List.Elements.{All-set}
use Rattle.run_seats.specs.SeatedActors.{IsSeatedActor, number_of}
use Rattle.run_seats.proofs.Falling.{all_fall, all_visited, none_visited, one_visited}
use Rattle.run_seats.proofs.Having.{same_map}
use Rattle.run_seats.proofs.workers.round.Goals as goal

pub loop-place-init : goal.loop-place-init
loop-place-init g c = record {
  seated = c.requires.seated;
  count = refl;
  numbers = refl;
  visited = none_visited c.args.store.now c.args.actors.now.items;
}

pub loop-place-preserved : goal.loop-place-preserved
loop-place-preserved g c =
    let now = c.loop-place.actors.items in
    let place = c.loop-place.place in
    let inv = c.loop-place.invariant in
    let end : c.len-place-end.result ≡ length c.args.actors.now.items = search rules in
    let less : place < length now = omega (arith, c.loop-place-test.true, end, inv.count) in
    record {
      seated = All-set (IsSeatedActor c.args.store.now) now place c.visit.new.self c.visit.ensures.seated inv.seated;
      count = length-set now place c.visit.new.self ∙ inv.count;
      numbers = same_map number_of now place c.visit.new.self c.index_mut.result.now c.index_mut.ensures.value c.visit.ensures.number ∙ inv.numbers;
      visited =
          one_visited c.args.store.now place c.args.actors.now.items now inv.visited c.index_mut.result.now c.visit.new.self less c.index_mut.ensures.value
          (record { falls = c.visit.ensures.falls; over = c.visit.ensures.over });
    }

pub returns-clause-falls : goal.returns-clause-falls
returns-clause-falls g c =
    let old = c.args.actors.now.items in
    let inv = c.loop-place.invariant in
    let end : c.len-place-end.result ≡ length old = search rules in
    let all : length old ≤ c.loop-place.place = omega (arith, c.loop-place-test.false, end) in
    all_fall c.args.store.now old c.loop-place.actors.items inv.count (all_visited c.args.store.now c.loop-place.place old c.loop-place.actors.items inv.visited all)

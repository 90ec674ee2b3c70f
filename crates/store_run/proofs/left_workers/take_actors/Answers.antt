use Rattle.std.proofs.Common.{rules, ◌≡◌, ℕ, ◌+◌, map, IfOk, sym, subst}
use Rattle.std.specs.List.{range_with_len}
use Rattle.turn_lock.specs.Numbered.{AreAllSpread}
use Rattle.turn_lock.specs.Piles.{items_of}
use Rattle.run_seats.specs.SeatedActors.{number_of}
use Rattle.store_run.specs.Dealt.{turns_of}
use Rattle.store_run.proofs.Collecting.{all_back, all_spread}
use Rattle.store_run.proofs.left_workers.take_actors.Goals as goal

pub take_spread-actors-requires : goal.take_spread-actors-requires
take_spread-actors-requires c =
    let piles = items_of c.in_ok-piles.piles.items in
    let counted : c.len.result + c.len-2.result + 2 ≡ turns_of c.args.store.now.script.now = search rules in (
      number_of,
      subst (λ (n : ℕ). AreAllSpread number_of n piles) (sym counted)
          (all_spread c.args.store.now c.args.workers.items c.requires.some c.requires.crew c.requires.over piles c.in_ok-piles.ensures),
    )

pub returns : goal.returns
returns c =
    let piles = items_of c.in_ok-piles.piles.items in
    let counted : c.len.result + c.len-2.result + 2 ≡ turns_of c.args.store.now.script.now = search rules in
    let spread : AreAllSpread number_of (turns_of c.args.store.now.script.now) piles =
    all_spread c.args.store.now c.args.workers.items c.requires.some c.requires.crew c.requires.over piles c.in_ok-piles.ensures in
    let numbers : IfOk c.take_spread-actors.result (λ actors. map number_of actors.items ≡ range_with_len 0 (turns_of c.args.store.now.script.now)) =
    subst (λ (n : ℕ). IfOk c.take_spread-actors.result (λ actors. map number_of actors.items ≡ range_with_len 0 n)) counted
    (c.take_spread-actors.ensures.numbers number_of (subst (λ (n : ℕ). AreAllSpread number_of n piles) (sym counted) spread)) in
    all_back c.args.store.now c.args.workers.items c.requires.some c.requires.crew c.requires.over piles c.in_ok-piles.ensures c.take_spread-actors.result numbers c.take_spread-actors.ensures.same

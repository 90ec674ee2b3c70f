use Rattle.std.proofs.Common.{ℕ, ◌≤◌, ◌++◌, length, map, get_or, ap, ◌∙◌, arith}
use Rattle.std.specs.List.{flat_map, enumerate_from}
use Rattle.std.proofs.lemmas.List.{take_all, get_or_default}
use Rattle.std.proofs.lemmas.List.FromFn.{length-enumerate_from}
use Rattle.store_core.specs.Directory.{Directory}
use Rattle.store_scrub.specs.Lost.{lost_in, lost_from, places_with}
use Rattle.store_scrub.proofs.Loops.{pair_more}
use Rattle.store_scrub.proofs.scrubbing.add_lost_of.Goals as goal

pub loop-stripe-preserved : goal.loop-stripe-preserved
loop-stripe-preserved c = λ (d : Directory).
    let version : ℕ = get_or c.args.versions.now c.loop-stripe.stripe 0 in
    pair_more (lost_from (places_with d c.args.servers.now) c.args.name.now) (map lost_in c.args.lost.now.items) (map lost_in c.loop-stripe.lost.items) (map lost_in c.add_lost.new.lost.items)
    c.args.versions.now c.loop-stripe.stripe version c.loop-stripe-test.true (get_or_default c.args.versions.now c.loop-stripe.stripe 0 version c.loop-stripe-test.true)
    (c.loop-stripe.invariant d)
    (c.in_ok-add_lost.ensures d ∙ ap (λ stripe. map lost_in c.loop-stripe.lost.items ++ lost_from (places_with d c.args.servers.now) c.args.name.now (stripe, version)) c.in-Ok.ensures.1)

pub returns : goal.returns
returns c = λ (d : Directory).
    let count = length-enumerate_from 0 c.args.versions.now in
    let all : length (enumerate_from 0 c.args.versions.now) ≤ c.loop-stripe.stripe = omega (arith, c.loop-stripe-test.false, count) in
    c.loop-stripe.invariant d
    ∙ ap (λ l. map lost_in c.args.lost.now.items ++ flat_map (lost_from (places_with d c.args.servers.now) c.args.name.now) l) (take_all c.loop-stripe.stripe (enumerate_from 0 c.args.versions.now) all)

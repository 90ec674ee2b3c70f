use Rattle.std.proofs.Common.{◌≤◌, List, [], ◌++◌, length, map, filter, ap, ◌∙◌, arith}
use Rattle.std.specs.List.{flat_map, enumerate_from}
use Rattle.std.proofs.lemmas.List.{take_all}
use Rattle.std.proofs.lemmas.List.FromFn.{length-enumerate_from}
use Rattle.store_core.specs.Directory.{Version}
use Rattle.store_scrub.specs.Strays.{is_stray, stray_at, strays_at}
use Rattle.store_scrub.proofs.Loops.{pair_more}
use Rattle.store_scrub.proofs.scrubbing.strays_of.Goals as goal

pub loop-number-preserved : goal.loop-number-preserved
loop-number-preserved c =
    let versions : List Version = c.args.directory.now.core.versions in
    pair_more (strays_at versions) [] c.loop-number.strays.items c.add_strays.new.strays.items c.args.servers.now c.loop-number.number c.index-servers-number.result
    c.loop-number-test.true c.index-servers-number.is c.loop-number.invariant
    (c.in_ok-add_strays.ensures
    ∙ ap (λ stamps. c.loop-number.strays.items ++ map (stray_at c.loop-number.number) (filter (is_stray versions) stamps)) (c.deref.ensures.value ∙ c.in_ok-stamps.ensures))

pub returns : goal.returns
returns c =
    let count = length-enumerate_from 0 c.args.servers.now in
    let all : length (enumerate_from 0 c.args.servers.now) ≤ c.loop-number.number = omega (arith, c.loop-number-test.false, count) in
    c.loop-number.invariant ∙ ap (flat_map (strays_at c.args.directory.now.core.versions)) (take_all c.loop-number.number (enumerate_from 0 c.args.servers.now) all)

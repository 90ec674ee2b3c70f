use Rattle.std.proofs.Common.{option_map, refl}
use Rattle.store_map.specs.declared.actor.Actor.TheVariants as actor
use Rattle.store_core.specs.Told.{Told}
use Rattle.store_core.specs.Act.{DirectoryStep}
use Rattle.store_tests.proofs.Walks.{agrees_still, and_then}
use Rattle.store_tests.proofs.stray_tests.give_up.Goals as goal

pub returns-clause-directory : goal.returns-clause-directory
returns-clause-directory c =
    let old = c.args.directory.now in
    let reaped = c.reap-reaped.new.self in
    let taken = c.next_garbage-taken.new.self in
    let swept = c.swept.new.self in
    let left = c.next_garbage-left.new.self in
    and_then old reaped left
    (agrees_still actor.Operator (λ i. refl) (DirectoryStep.Reap (actor.Client 0)) old reaped (Told.GivenUp (option_map (λ point. point.0) c.reap-reaped.result)) (c.reap-reaped.ensures.step actor.Operator 0) c.reap-reaped.ensures.book)
    (and_then reaped taken left
    (agrees_still actor.Sweeper (λ i. refl) DirectoryStep.NextGarbage reaped taken (Told.Taken (option_map (λ version. version.0) c.next_garbage-taken.result)) (c.next_garbage-taken.ensures.step actor.Sweeper 0) c.next_garbage-taken.ensures.book)
    (and_then taken swept left
    (agrees_still actor.Sweeper (λ i. refl) (DirectoryStep.Swept 0) taken swept Told.Made (c.swept.ensures.step actor.Sweeper 0) c.swept.ensures.book)
    (agrees_still actor.Sweeper (λ i. refl) DirectoryStep.NextGarbage swept left (Told.Taken (option_map (λ version. version.0) c.next_garbage-left.result)) (c.next_garbage-left.ensures.step actor.Sweeper 0) c.next_garbage-left.ensures.book)))

pub returns-clause-servers : goal.returns-clause-servers
returns-clause-servers c = λ book are. c.discard-4.ensures book (c.discard-3.ensures book (c.discard-2.ensures book (c.discard.ensures book are)))

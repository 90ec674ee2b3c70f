use Rattle.std.proofs.Common.{◌≡◌, ◌++◌, map, filter, take}
use Rattle.store_scrub.specs.Strays.{is_stray, stray_at}
use Rattle.store_scrub.proofs.scrubbing.add_strays.Given as goal

abbrev pub invariant-loop-stamp : goal.invariant-loop-stamp
invariant-loop-stamp l =
    l.strays.items ≡ l.fn.strays.items ++ map (stray_at l.server) (filter (is_stray l.directory.core.versions) (take l.stamp-index l.stamps))

use Rattle.std.proofs.Common.{◌≡◌, Some, Bor, option_map, sym, ap, subst, ◌∙◌}
use Rattle.version_seal.specs.Entry.{BookOf}
use Rattle.snapshot_view.specs.Snapshots.{KeptOf, find_kept}
use Rattle.snapshot_view.specs.Inside.{IsOfBook}
use Rattle.snapshot_view.proofs.Replying.{found_of_book}
use Rattle.snapshot_view.proofs.snapshot.Snapshot.read.Goals as goal

pub read-requires : goal.read-requires
read-requires c =
    let a = c.self.inside in
    let found : find_kept c.args.name.now a.objects.items ≡ Some c.in-Some.kept.now =
    sym (sym (ap (option_map (λ (k : Bor KeptOf). k.now)) c.in-Some.is) ∙ c.find.ensures ∙ ap (find_kept c.args.name.now) c.deref.ensures.value) in
    subst (λ (book : BookOf). IsOfBook book c.in-Some.kept.now) (sym c.copy.ensures) (found_of_book a.opening a.objects.items c.args.name.now c.in-Some.kept.now c.self.invariant.objects found)

use Rattle.std.proofs.Common.{◌≡◌, ap, subst, ◌∙◌}
use Rattle.call_steps.specs.CallOf.{taken_of}
use Rattle.call_steps.specs.declared.need.Need.TheVariants as need
use Rattle.gather_parts.specs.Progress.{progress_of, need_at}
use Rattle.snapshot_view.specs.InTime.{HasFound, NamesFound}
use Rattle.snapshot_view.specs.Reads.{ReadOf}
use Rattle.snapshot_view.specs.ReadSteps.{need_by, need_of, EndsAs}
use Rattle.snapshot_view.specs.ReadInside.{read_in}
use Rattle.snapshot_view.proofs.InTime.{names_found}
use Rattle.snapshot_view.proofs.Needs.{over_by}
use Rattle.snapshot_view.proofs.snapshot_read.SnapRead.finish.Goals as goal

pub returns-in-Some : goal.returns-in-Some
returns-in-Some c = record {
  outcome = subst (λ (r : ReadOf). EndsAs r c.of_ended.result) c.self.view_is (c.of_ended.ensures (read_in c.self.inside) c.in-Some.is);
  takes = c.into_takes.ensures ∙ ap (λ (r : ReadOf). taken_of r.gatherings.takes) c.self.view_is;
  found = λ stripes asked.
      subst (λ (r : ReadOf). HasFound stripes asked r → NamesFound stripes asked c.of_ended.result) c.self.view_is
      (names_found stripes asked (read_in c.self.inside) c.of_ended.result (c.of_ended.ensures (read_in c.self.inside) c.in-Some.is));
}

pub finish-gathered-requires : goal.finish-gathered-requires
finish-gathered-requires c =
    let a = c.self.inside in
    over_by (progress_of a.gatherings)
    (subst (λ ended. need_by ended (need_at (progress_of a.gatherings)) ≡ need.Finished) c.in-None.is (ap need_of c.self.view_is ∙ c.requires))

pub returns-in-None : goal.returns-in-None
returns-in-None c = record {
  outcome = subst (λ (r : ReadOf). EndsAs r c.of_gathered.result) c.self.view_is
      (c.of_gathered.ensures (read_in c.self.inside) c.in-None.is c.finish-gathered.ensures.state c.finish-gathered.ensures.bytes);
  takes = c.finish-gathered.ensures.takes ∙ ap (λ (r : ReadOf). taken_of r.gatherings.takes) c.self.view_is;
  found = λ stripes asked.
      subst (λ (r : ReadOf). HasFound stripes asked r → NamesFound stripes asked c.of_gathered.result) c.self.view_is
      (names_found stripes asked (read_in c.self.inside) c.of_gathered.result
      (c.of_gathered.ensures (read_in c.self.inside) c.in-None.is c.finish-gathered.ensures.state c.finish-gathered.ensures.bytes));
}

use Rattle.std.proofs.Common.{◌≡◌, List, length, map, take, All, sym, ap, subst, ◌∙◌, arith}
use Rattle.std.specs.Vec.{with_items}
use Rattle.std.proofs.lemmas.List.{with_items_is}
use Rattle.store_core.specs.Agreement.{ActorToken}
use Rattle.store_core.specs.Tokens.{actor_of}
use Rattle.call_steps.specs.TokenAfter.{IsSeated}
use Rattle.snapshot_view.specs.Snapshots.{SnapshotOf}
use Rattle.snapshot_view.specs.Tickets.{AgreesWithAll, OthersAgree}
use Rattle.snapshot_view.proofs.snapshot.Snapshot.release.Goals as goal

pub end_passes-requires-clause-agrees : goal.end_passes-requires-clause-agrees
end_passes-requires-clause-agrees c =
    subst (λ (tokens : List ActorToken). AgreesWithAll c.args.directory.now.core tokens) (sym c.deref_mut.ensures.value)
    (subst (λ (s : SnapshotOf). AgreesWithAll c.args.directory.now.core s.tokens) (sym c.self.view_is) c.requires.agrees)

pub returns-clause-actors : goal.returns-clause-actors
returns-clause-actors c =
    let before : c.deref_mut.result.now ≡ c.args.self.tokens = c.deref_mut.ensures.value ∙ ap (λ (s : SnapshotOf). s.tokens) c.self.view_is in
    let tickets : length c.deref_mut.result.now ≡ length c.self.inside.tickets.items = ap length c.deref_mut.ensures.value in
    let now : List ActorToken = c.end_passes.new.tickets in
    let back : (with_items c.self.inside.tickets now).items ≡ now = with_items_is c.self.inside.tickets now (omega (arith, c.end_passes.auto.tickets, tickets, c.self.inside.tickets.ok.0)) in
    ap (map actor_of) back ∙ c.end_passes.ensures.actors ∙ ap (map actor_of) before

pub returns-clause-seated : goal.returns-clause-seated
returns-clause-seated c =
    let tickets : length c.deref_mut.result.now ≡ length c.self.inside.tickets.items = ap length c.deref_mut.ensures.value in
    let now : List ActorToken = c.end_passes.new.tickets in
    let back : (with_items c.self.inside.tickets now).items ≡ now = with_items_is c.self.inside.tickets now (omega (arith, c.end_passes.auto.tickets, tickets, c.self.inside.tickets.ok.0)) in
    let kept : length c.self.inside.objects.items ≡ length c.args.self.objects = ap (λ (s : SnapshotOf). length s.objects) c.self.view_is in
    let count : c.len.result ≡ length c.args.self.objects = omega (arith, c.len.ensures, c.self.inside.objects.ok.0, kept) in
    let first : take c.len.result now ≡ take (length c.args.self.objects) (with_items c.self.inside.tickets now).items = λ i. take (count i) (sym back i) in
    subst (All IsSeated) first c.end_passes.ensures.seated

pub returns-clause-others : goal.returns-clause-others
returns-clause-others c =
    subst (λ (tokens : List ActorToken). OthersAgree tokens c.args.directory.now.core c.end_passes.new.directory.core) (c.deref_mut.ensures.value ∙ ap (λ (s : SnapshotOf). s.tokens) c.self.view_is)
    c.end_passes.ensures.others

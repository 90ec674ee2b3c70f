use Rattle.std.proofs.Common.{◌≡◌, false, List, take, All, ap, sym, subst, ◌∙◌}
use Rattle.std.proofs.lemmas.List.{take_all}
use Rattle.store_core.specs.Lists.{change_at}
use Rattle.store_core.specs.Directory.{Directory}
use Rattle.session_rules.specs.Scrubs.{lost_at}
use Rattle.chunk_server.specs.State.{ServerState}
use Rattle.chunk_server.specs.Steps.{after_discard}
use Rattle.store_scrub.specs.Lost.{places_with}
use Rattle.store_scrub.specs.Strays.{strays_in, without}
use Rattle.store_scrub.proofs.Lists.{read_more}
use Rattle.store_scrub.proofs.Cleared.{cleared_nothing, cleared_more, present_from}
use Rattle.store_scrub.proofs.NoneLeft.{none_after}
use Rattle.store_scrub.proofs.SameLost.{lost_same}
use Rattle.store_scrub.proofs.strays.drop_strays.Goals as goal

pub loop-stray-init : goal.loop-stray-init
loop-stray-init c = sym (cleared_nothing 0 c.args.servers.now)

pub loop-stray-preserved : goal.loop-stray-preserved
loop-stray-preserved c =
    let items = c.deref-stray-items.result.now in
    let stray = c.stray-item.result in
    c.drop_stray.ensures
    ∙ ap (change_at stray.server (after_discard stray.stamp.version)) c.loop-stray.invariant
    ∙ cleared_more (take c.loop-stray.stray-index items) stray c.args.servers.now
    ∙ ap (λ strays. without strays c.args.servers.now) (sym (read_more items c.loop-stray.stray-index stray c.loop-stray-test.true c.stray-item.is))

dropped : (c : goal.After-loop-stray) → c.loop-stray.servers ≡ without c.args.report.now.strays.items c.args.servers.now
dropped c =
    c.loop-stray.invariant
    ∙ ap (λ strays. without strays c.args.servers.now)
    (take_all c.loop-stray.stray-index c.deref-stray-items.result.now c.loop-stray-test.false ∙ c.deref-stray-items.ensures.value)

pub returns-clause-present : goal.returns-clause-present
returns-clause-present c = λ present.
    subst (λ (servers : List ServerState). All (λ server. server.away ≡ false) servers) (sym (dropped c))
    (present_from c.args.report.now.strays.items 0 c.args.servers.now present)

pub returns-clause-none : goal.returns-clause-none
returns-clause-none c = λ (d : Directory) found.
    ap (strays_in d.versions) (dropped c ∙ ap (λ strays. without strays c.args.servers.now) found)
    ∙ none_after d.versions c.args.servers.now c.keep.ensures

pub returns-clause-lost : goal.returns-clause-lost
returns-clause-lost c = λ (d : Directory) sound found.
    ap (λ servers. lost_at (places_with d servers)) (dropped c ∙ ap (λ strays. without strays c.args.servers.now) found)
    ∙ lost_same d c.args.servers.now sound

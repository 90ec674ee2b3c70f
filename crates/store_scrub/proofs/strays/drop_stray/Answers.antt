use Rattle.std.proofs.Common.{◌<◌, length, get_or, slice_set, ap, sym, ◌∙◌, arith}
use Rattle.version_table.proofs.TableSteps.{change_at-set, change_at-past}
use Rattle.chunk_server.specs.Steps.{after_discard}
use Rattle.store_scrub.proofs.strays.drop_stray.Goals as goal

pub returns-then-number-servers : goal.returns-then-number-servers
returns-then-number-servers c =
    sym (change_at-past c.args.stray.now.server (after_discard c.args.stray.now.stamp.version) c.args.servers.now (omega (arith, c.if-number-servers.true)))

pub returns : goal.returns
returns c =
    let within : c.args.stray.now.server < length c.args.servers.now = omega (arith, c.if-number-servers.false) in
    let before = get_or c.args.servers.now c.args.stray.now.server c.index-servers-number.result in
    ap (slice_set c.args.servers.now c.args.stray.now.server)
    (c.discard.ensures.removed
    ∙ ap (λ version. after_discard version before) c.version.ensures
    ∙ ap (after_discard c.args.stray.now.stamp.version) (sym c.index-servers-number.is))
    ∙ change_at-set (after_discard c.args.stray.now.stamp.version) c.args.servers.now c.args.stray.now.server c.index-servers-number.result within c.index-servers-number.is

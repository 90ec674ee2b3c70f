use Rattle.std.proofs.Common.{◌≡◌, ◌<◌, ℕ, length, length-set, get_or, refl, ◌∙◌, ap, arith}
use Rattle.clay_aloof.specs.Shape.{all_chunks}
use Rattle.share_files.specs.Seen.{seen}
use Rattle.share_run.proofs.SeenLemmas.{others_more}
use Rattle.share_run.proofs.CheckLemmas.{verdicts_more}
use Rattle.share_run.proofs.checks_of_shares.judge_all.Goals as goal

pub loop-share-init : goal.loop-share-init
loop-share-init g c = record { all = refl; count = refl; judged = λ i less. absurd (omega (arith, less)); others = λ i from. refl }

pub loop-share-preserved : goal.loop-share-preserved
loop-share-preserved g c =
    let now = c.loop-share.sources in
    let share : ℕ = c.loop-share.share in
    let inv = c.loop-share.invariant in
    let all : c.n-shares.result ≡ all_chunks c.args.header.now.shape = c.n-shares.ensures.value ∙ ap all_chunks c.geometry.ensures in
    let less : share < length now = omega (arith, all) in
    let there : share < length c.loop-share.verdicts = omega (arith, all) in
    let old = get_or now share c.index-sources-at.result in
    let new = c.fault_of.new.source in
    let here = ap (get_or now share) c.index-sources-at.is in
    record {
      all = length-set now share new ∙ inv.all;
      count = length-set c.loop-share.verdicts share c.in_ok-verdict.verdict ∙ inv.count;
      judged = verdicts_more c.args.header.now (λ s. seen (g.S.SourceAt.given s) (g.S.SourceAt.ends s) (g.S.SourceAt.failed s)) c.args.sources.now now share old new less here inv.others c.loop-share.verdicts c.in_ok-verdict.verdict there
          c.in_ok-verdict.ensures inv.judged;
      others = others_more (λ s. seen (g.S.SourceAt.given s) (g.S.SourceAt.ends s) (g.S.SourceAt.failed s)) c.args.sources.now now share old new less here inv.others;
    }

pub returns-clause-judged : goal.returns-clause-judged
returns-clause-judged g c = λ i less.
    let all : c.n-shares.result ≡ all_chunks c.args.header.now.shape = c.n-shares.ensures.value ∙ ap all_chunks c.geometry.ensures in
    let within : i < c.loop-share.share = omega (arith, less, all) in
    c.loop-share.invariant.judged i within

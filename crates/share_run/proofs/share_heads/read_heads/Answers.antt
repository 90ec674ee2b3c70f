use Rattle.std.proofs.Common.{◌≡◌, ◌<◌, ◌+◌, ◌++◌, ◌∷◌, [], ℕ, List, length, length-set, get_or, map, subst, sym, ◌∙◌, ap, arith}
use Rattle.std.proofs.Math.ListN.{set}
use Rattle.std.proofs.lemmas.List.{length_push}
use Rattle.share_files.specs.Seen.{seen}
use Rattle.share_run.specs.Heads.{Head, AreHeads}
use Rattle.share_run.proofs.SeenLemmas.{others_more}
use Rattle.share_run.proofs.HeadLemmas.{heads_more, head_had, head_fails}
use Rattle.share_run.proofs.share_heads.read_heads.Goals as goal

pub loop-share-preserved : goal.loop-share-preserved
loop-share-preserved g c =
    let now = c.loop-share.sources in
    let share : ℕ = c.loop-share.share in
    let inv = c.loop-share.invariant in
    let less : share < length now = omega arith in
    let old = get_or now share c.index-sources-share.result in
    let new = c.read_share_header-head.new.source in
    let here = ap (get_or now share) c.index-sources-share.is in
    let items : List Head = c.loop-share.heads.items in
    let head : Head = c.read_share_header-head.result in
    let read = c.read_share_header-head.ensures in
    let pushed : c.push.new.self.items ≡ items ++ head ∷ [] = c.in_ok-push.ensures.items in
    let P : List Head → Type 0 = λ l. AreHeads (map (λ s. seen (g.S.SourceAt.given s) (g.S.SourceAt.ends s) (g.S.SourceAt.failed s)) c.args.sources.now) (map (λ s. seen (g.S.SourceAt.given s) (g.S.SourceAt.ends s) (g.S.SourceAt.failed s)) (set now share new)) l in
    record {
      all = length-set now share new ∙ inv.all;
      count = ap (λ (l : List Head). length l) pushed ∙ length_push items head ∙ ap (λ n. n + 1) inv.count;
      heads = subst P (sym pushed)
          (heads_more (λ s. seen (g.S.SourceAt.given s) (g.S.SourceAt.ends s) (g.S.SourceAt.failed s)) c.args.sources.now now share old new less here inv.others items head inv.count
          (record { is = λ file shows. head_had head file (read.header file shows) read.bounded (read.refused file shows); fails = head_fails _ _ head read.cause read.steady }) inv.heads);
      others = others_more (λ s. seen (g.S.SourceAt.given s) (g.S.SourceAt.ends s) (g.S.SourceAt.failed s)) c.args.sources.now now share old new less here inv.others;
    }

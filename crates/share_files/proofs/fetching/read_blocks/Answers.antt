use Rattle.std.proofs.Common.{◌≡◌, ◌<◌, ℕ, Option, None, Vec, Global, IfSome, length, length-set, get_or, subst, sym, ◌∙◌, ap, arith, get_or-set_same, get_or-set_other}
use Rattle.std.proofs.Math.ListN.{set}
use Rattle.std.proofs.lemmas.List.Elements.{All-set}
use Rattle.share_format.specs.Blocks.{block_length}
use Rattle.share_files.specs.Seen.{seen}
use Rattle.share_files.proofs.ReadLemmas.{read_in_none, read_in_more, long_one}
use Rattle.share_files.proofs.AskedLemmas.{asked_nothing, asked_both, asked_one}
use Rattle.share_files.proofs.fetching.read_blocks.Goals as goal

pub loop-share-init : goal.loop-share-init
loop-share-init g c = record { all = search; count = search; lengths = c.requires.lengths; read = read_in_none c.args.geometry c.args.stripe c.args.from _ _; asked = asked_nothing c.args.geometry c.args.stripe _ }

pub block_or_none-requires-clause-room : goal.block_or_none-requires-clause-room
block_or_none-requires-clause-room g c =
    let inv = c.loop-share.invariant in
    let P : Option (Vec ℕ Global) → Type 0 = λ o. IfSome o (λ v. length v.items ≡ block_length c.args.geometry) in
    let less : c.loop-share.share < length c.loop-share.blocks = omega (arith, c.loop-share-test.true, c.requires.range.1, c.requires.count, inv.count) in
    subst P (sym c.take-earlier.ensures.value) (inv.lengths c.loop-share.share c.index-blocks-share.result less)

pub loop-share-preserved : goal.loop-share-preserved
loop-share-preserved g c =
    let a = c.args.geometry in
    let inv = c.loop-share.invariant in
    let now = c.loop-share.sources in
    let share : ℕ = c.loop-share.share in
    let blocks = c.loop-share.blocks in
    let none : Option (Vec ℕ Global) = c.take-earlier.new.self in
    let block : Option (Vec ℕ Global) = c.in_ok-blocks.field-0 in
    let P : Option (Vec ℕ Global) → Type 0 = λ o. IfSome o (λ v. length v.items ≡ block_length a) in
    let less : share < length now = omega (arith, c.loop-share-test.true, c.requires.range.1, inv.all) in
    let within : share < length (set blocks share none) =
    omega (arith, length-set blocks share none, c.loop-share-test.true, c.requires.range.1, c.requires.count, inv.count) in
    let old = get_or now share c.index-sources-share.result in
    let here = ap (get_or now share) c.index-sources-share.is in
    record {
      all = length-set now share c.block_or_none.new.source ∙ inv.all;
      count = length-set (set blocks share none) share block ∙ length-set blocks share none ∙ inv.count;
      lengths =
          All-set P (set blocks share none) share block (long_one a block c.in_ok-blocks.ensures.block)
          (All-set P blocks share none (subst P (sym c.take-earlier.ensures.after) tt) inv.lengths);
      read =
          read_in_more (λ s. seen (g.S.SourceAt.given s) (g.S.SourceAt.ends s) (g.S.SourceAt.failed s)) now share old c.block_or_none.new.source less here a
          c.args.stripe c.args.from _ _ blocks _ block (omega (arith, c.loop-share.auto.share)) (get_or-set_same (set blocks share none) share block None within)
          (λ k differs. get_or-set_other (set blocks share none) share k block None differs ∙ get_or-set_other blocks share k none None differs)
          c.in_ok-blocks.ensures.block c.in_ok-blocks.ensures.read inv.read;
      asked =
          asked_both a c.args.stripe _ _ _ inv.asked
          (asked_one a c.args.stripe (λ s. seen (g.S.SourceAt.given s) (g.S.SourceAt.ends s) (g.S.SourceAt.failed s)) now share old c.block_or_none.new.source less here
          c.block_or_none.ensures.asked);
    }

pub returns-in_err-blocks-clause-asked : goal.returns-in_err-blocks-clause-asked
returns-in_err-blocks-clause-asked g c =
    let inv = c.loop-share.invariant in
    let now = c.loop-share.sources in
    let share : ℕ = c.loop-share.share in
    let less : share < length now = omega (arith, c.loop-share-test.true, c.requires.range.1, inv.all) in
    let old = get_or now share c.index-sources-share.result in
    let here = ap (get_or now share) c.index-sources-share.is in
    asked_both c.args.geometry c.args.stripe _ _ _ inv.asked
    (asked_one c.args.geometry c.args.stripe (λ s. seen (g.S.SourceAt.given s) (g.S.SourceAt.ends s) (g.S.SourceAt.failed s)) now share old c.block_or_none.new.source less
    here c.block_or_none.ensures.asked)

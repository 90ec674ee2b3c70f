use Rattle.std.proofs.Common.{◌≡◌, ◌<◌, ◌+◌, ℕ, Option, Vec, Global, List, [], length, length-set, get_or, sym, subst, ◌∙◌, ap, arith}
use Rattle.clay_aloof.specs.Shape.{all_chunks}
use Rattle.share_format.specs.Mend.{block_ranges}
use Rattle.share_files.specs.Seen.{seen}
use Rattle.share_files.proofs.Faults.{handed_on}
use Rattle.share_mends.specs.Gathered.{AreParts, ArePartsOf}
use Rattle.share_mends.specs.declared.mend_fault.MendFault.TheVariants.{ReadFault}
use Rattle.share_mends.proofs.AskedLemmas.{asked_more, no_read_fails, shown_asked, same_count, shows_new, shows_back, one_fails, none_fails}
use Rattle.share_mends.proofs.GatherLemmas.{parts_more, of_more, good_of, names_first}
use Rattle.share_mends.proofs.gathering.read_parts.Goals as goal

pub loop-share-preserved : goal.loop-share-preserved
loop-share-preserved g c =
    let a = c.args.plan.now.geometry in
    let lost = c.args.plan.now.lost in
    let now = c.loop-share.sources in
    let i : ℕ = c.loop-share.share in
    let inv = c.loop-share.invariant in
    let less : i < length now = omega (arith, inv.shares) in
    let old = get_or now i c.index-sources-at.result in
    let here = ap (get_or now i) c.index-sources-at.is in
    let pushed = c.push_reserved.ensures.items in
    let P : List (Option (Vec ℕ Global)) → Type 0 = λ l. AreParts a c.args.helpers.now (i + 1) l in
    record {
      shares = length-set now i c.part_of.new.source ∙ inv.shares;
      room = omega (arith, c.push_reserved.ensures.capacity, inv.room);
      parts = subst P (sym pushed) (parts_more a c.args.helpers.now i c.loop-share.parts.items c.in-Ok.part inv.parts c.in-Ok.ensures.there c.in-Ok.ensures.long);
      good = λ files shows.
          let Q : List (Option (Vec ℕ Global)) → Type 0 = λ l. ArePartsOf a lost files c.args.stripe (i + 1) l in
          subst Q (sym pushed)
          (of_more a lost files c.args.stripe i c.loop-share.parts.items c.in-Ok.part inv.parts.long
          (inv.good files (shows_back (λ s. seen (g.S.SourceAt.given s) (g.S.SourceAt.ends s) (g.S.SourceAt.failed s)) now i old c.part_of.new.source less here files (c.in-Ok.ensures.shown (get_or files i [])) shows))
          (c.in-Ok.ensures.good (get_or files i []) (shows_new (λ s. seen (g.S.SourceAt.given s) (g.S.SourceAt.ends s) (g.S.SourceAt.failed s)) now i old c.part_of.new.source less here files shows)));
      asked =
          asked_more (λ s. seen (g.S.SourceAt.given s) (g.S.SourceAt.ends s) (g.S.SourceAt.failed s)) now i old c.part_of.new.source less here c.args.helpers.now (block_ranges a lost c.args.stripe) _
          (record { given = c.in-Ok.ensures.given; ends = c.in-Ok.ensures.on; failed = c.in-Ok.ensures.steady (λ e. cc) }) inv.asked;
    }

pub returns-in-Err-clause-rotten : goal.returns-in-Err-clause-rotten
returns-in-Err-clause-rotten g c = λ files shows.
    let a = c.args.plan.now.geometry in
    let lost = c.args.plan.now.lost in
    let now = c.loop-share.sources in
    let i : ℕ = c.loop-share.share in
    let inv = c.loop-share.invariant in
    let less : i < length now = omega (arith, inv.shares) in
    let old = get_or now i c.index-sources-at.result in
    let here = ap (get_or now i) c.index-sources-at.is in
    names_first a lost c.args.helpers.now files c.args.stripe i c.in-Err.fault (c.in-Err.ensures.rotten (get_or files i []) (shows_new (λ s. seen (g.S.SourceAt.given s) (g.S.SourceAt.ends s) (g.S.SourceAt.failed s)) now i old c.part_of.new.source less here files shows))
    (good_of a lost c.args.helpers.now files c.args.stripe i c.loop-share.parts.items inv.parts
    (inv.good files (shows_back (λ s. seen (g.S.SourceAt.given s) (g.S.SourceAt.ends s) (g.S.SourceAt.failed s)) now i old c.part_of.new.source less here files (c.in-Err.ensures.shown (get_or files i [])) shows)))

pub returns-in-Err-clause-shown : goal.returns-in-Err-clause-shown
returns-in-Err-clause-shown g c = λ files shows.
    let now = c.loop-share.sources in
    let i : ℕ = c.loop-share.share in
    let inv = c.loop-share.invariant in
    let less : i < length now = omega (arith, inv.shares) in
    let old = get_or now i c.index-sources-at.result in
    let here = ap (get_or now i) c.index-sources-at.is in
    shown_asked c.args.helpers.now _ i _ _ files (same_count (λ s. seen (g.S.SourceAt.given s) (g.S.SourceAt.ends s) (g.S.SourceAt.failed s)) c.args.sources.now now (c.requires.shares ∙ sym inv.shares)) inv.asked
    (shows_back (λ s. seen (g.S.SourceAt.given s) (g.S.SourceAt.ends s) (g.S.SourceAt.failed s)) now i old c.part_of.new.source less here files (c.in-Err.ensures.shown (get_or files i [])) shows)

pub returns-in-Err-clause-cause : goal.returns-in-Err-clause-cause
returns-in-Err-clause-cause g c = λ e.
    let now = c.loop-share.sources in
    let i : ℕ = c.loop-share.share in
    let inv = c.loop-share.invariant in
    let less : i < length now = omega (arith, inv.shares) in
    let old = get_or now i c.index-sources-at.result in
    let here = ap (get_or now i) c.index-sources-at.is in
    let fails = c.in-Err.ensures.cause (handed_on c.in-Err.fault ReadFault e) in
    one_fails (λ s. seen (g.S.SourceAt.given s) (g.S.SourceAt.ends s) (g.S.SourceAt.failed s)) now i old c.part_of.new.source less here c.args.plan.now.geometry
    c.args.helpers.now c.args.stripe _ fails.0 fails.1 (no_read_fails _ _ _ _ _ inv.asked)

pub returns-in-Err-clause-steady : goal.returns-in-Err-clause-steady
returns-in-Err-clause-steady g c = λ other.
    let now = c.loop-share.sources in
    let i : ℕ = c.loop-share.share in
    let inv = c.loop-share.invariant in
    let less : i < length now = omega (arith, inv.shares) in
    let old = get_or now i c.index-sources-at.result in
    let here = ap (get_or now i) c.index-sources-at.is in
    none_fails (λ s. seen (g.S.SourceAt.given s) (g.S.SourceAt.ends s) (g.S.SourceAt.failed s)) now i old c.part_of.new.source less here _ (c.in-Err.ensures.steady (λ e. other (handed_on c.in-Err.fault ReadFault e))) (no_read_fails _ _ _ _ _ inv.asked)

pub returns-clause-good : goal.returns-clause-good
returns-clause-good g c = λ files shows.
    let ended : c.loop-share.share ≡ all_chunks c.args.plan.now.geometry = omega (arith, c.loop-share-test.false, c.loop-share.auto.share-end) in
    let P : ℕ → Type 0 = λ n. ArePartsOf c.args.plan.now.geometry c.args.plan.now.lost files c.args.stripe n c.loop-share.parts.items in
    subst P ended (c.loop-share.invariant.good files shows)

pub returns-clause-shown : goal.returns-clause-shown
returns-clause-shown g c = λ files shows.
    shown_asked c.args.helpers.now _ c.loop-share.share _ _ files
    (same_count (λ s. seen (g.S.SourceAt.given s) (g.S.SourceAt.ends s) (g.S.SourceAt.failed s)) c.args.sources.now c.loop-share.sources (c.requires.shares ∙ sym c.loop-share.invariant.shares)) c.loop-share.invariant.asked shows

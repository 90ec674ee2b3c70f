use Rattle.std.proofs.Common.{◌≡◌, ℕ, Option, Vec, Global, List, sym, subst, ◌∙◌, ap}
use Rattle.clay_aloof.specs.Shape.{all_chunks}
use Rattle.clay_aloof.specs.Repair.{AreParts, IsRebuilt}
use Rattle.share_format.specs.Blocks.{block_of}
use Rattle.share_mends.proofs.GatherLemmas.{helpers_parts, good_of, is_mended}
use Rattle.share_mends.proofs.mending.mended_block.Goals as goal

pub mend_stripe-requires : goal.mend_stripe-requires
mend_stripe-requires g c =
    let a = c.args.plan.now.geometry in
    let lost = c.args.plan.now.lost in
    let shown : c.deref.result.now ≡ c.in-Ok.parts.items = search in
    let P : List (Option (Vec ℕ Global)) → Type 0 = λ l. AreParts a lost l in
    subst P (sym shown) (helpers_parts a lost c.args.helpers.now c.in-Ok.parts.items c.requires.plan.lost c.requires.helpers c.in-Ok.ensures.parts)

pub returns-clause-block : goal.returns-clause-block
returns-clause-block g c =
    let a = c.args.plan.now.geometry in
    let lost = c.args.plan.now.lost in
    let shown : c.deref.result.now ≡ c.in-Ok.parts.items = search in
    let chunk : c.deref-2.result.now ≡ c.in_ok-chunk.chunk.items = search in
    let P : List (Option (Vec ℕ Global)) → Type 0 = λ l. IsRebuilt a lost l c.in_ok-chunk.chunk.items in
    record {
      chunk = c.in_ok-chunk.chunk.items;
      mended =
          is_mended a lost c.args.helpers.now _ c.args.stripe c.in-Ok.parts.items c.in_ok-chunk.chunk.items c.requires.plan.lost c.in-Ok.ensures.parts c.in-Ok.ensures.good
          (subst P shown c.in_ok-chunk.ensures);
      value = c.in_ok-block.ensures ∙ ap (λ l. block_of a l) chunk;
    }

pub returns-clause-good : goal.returns-clause-good
returns-clause-good g c = λ files shows.
    good_of c.args.plan.now.geometry c.args.plan.now.lost c.args.helpers.now files c.args.stripe (all_chunks c.args.plan.now.geometry) c.in-Ok.parts.items
    c.in-Ok.ensures.parts (c.in-Ok.ensures.good files shows)

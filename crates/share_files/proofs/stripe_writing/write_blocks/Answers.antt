use Rattle.std.proofs.Common.{◌≡◌, ◌<◌, ℕ, List, [], length, length-set, get_or, Vec, Global, sym, subst, ◌∙◌, ap, arith}
use Rattle.std.proofs.lemmas.List.{get_or-map}
use Rattle.clay_model.specs.Chunks.{contents}
use Rattle.file_bytes.specs.Laid.{laid}
use Rattle.share_files.specs.Written.{GainsBlock}
use Rattle.share_files.proofs.ChangeLemmas.{change_more, counts_stay, count_rises}
use Rattle.share_files.proofs.stripe_writing.write_blocks.Goals as goal

-- the block that is read
block_at : (blocks : List (Vec ℕ Global)) (i : ℕ) (v : Vec ℕ Global) → i < length blocks → v ≡ get_or blocks i v → get_or (contents blocks) i [] ≡ v.items
block_at blocks i v within is =
    let items : Vec ℕ Global → List ℕ = λ w. w.items in
    get_or-map items blocks i v [] within ∙ ap items (sym is)

pub write_block-requires-clause-size : goal.write_block-requires-clause-size
write_block-requires-clause-size g c =
    let share : ℕ = c.loop-share.share in
    let within : share < length c.args.blocks.now = omega arith in
    let own : get_or (contents c.args.blocks.now) share [] ≡ c.deref.result.now =
    block_at c.args.blocks.now share c.index-blocks-share.result within c.index-blocks-share.is ∙ sym c.deref.ensures.value in
    ap (λ (l : List ℕ). length l) (sym own) ∙ c.requires.sizes share within

pub loop-share-preserved : goal.loop-share-preserved
loop-share-preserved g c =
    let now = c.loop-share.sinks in
    let share : ℕ = c.loop-share.share in
    let inv = c.loop-share.invariant in
    let within : share < length c.args.blocks.now = omega arith in
    let less : share < length now = omega (arith, within, inv.shares) in
    let old = get_or now share c.index-sinks-share.result in
    let here = ap (get_or now share) c.index-sinks-share.is in
    let own : get_or (contents c.args.blocks.now) share [] ≡ c.deref.result.now =
    block_at c.args.blocks.now share c.index-blocks-share.result within c.index-blocks-share.is ∙ sym c.deref.ensures.value in
    let P : List ℕ → Type 0 = λ b. GainsBlock c.args.geometry c.args.stripe b (laid (g.K.SinkAt.put old)) (laid (g.K.SinkAt.put c.write_block.new.sink)) in
    record {
      shares = length-set now share c.write_block.new.sink ∙ inv.shares;
      changed =
          change_more (λ sink. laid (g.K.SinkAt.put sink)) now share old c.write_block.new.sink less here
          (λ k. GainsBlock c.args.geometry c.args.stripe (get_or (contents c.args.blocks.now) k [])) _ (subst P (sym own) c.in-Ok.ensures.written) inv.changed;
      steady = counts_stay g.K.SinkAt.faults now share old c.write_block.new.sink less here _ c.in-Ok.ensures.steady inv.steady;
    }

pub returns-in-Err-clause-cause : goal.returns-in-Err-clause-cause
returns-in-Err-clause-cause g c =
    let now = c.loop-share.sinks in
    let share : ℕ = c.loop-share.share in
    let inv = c.loop-share.invariant in
    let within : share < length c.args.blocks.now = omega arith in
    let less : share < length now = omega (arith, within, inv.shares) in
    count_rises g.K.SinkAt.faults now share (get_or now share c.index-sinks-share.result) c.write_block.new.sink less
    (ap (get_or now share) c.index-sinks-share.is) _ c.in-Err.ensures.cause inv.steady

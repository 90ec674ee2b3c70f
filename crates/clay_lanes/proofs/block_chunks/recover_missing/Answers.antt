use Rattle.std.proofs.Common.{◌≡◌, length, sym, subst, ap, ◌∙◌, arith}
use Rattle.clay_model.specs.Chunks.{contents}
use Rattle.clay_lanes.specs.Recovered.{AreMissing}
use Rattle.clay_parity.proofs.ParityLemmas.{written_chunks}
use Rattle.clay_lanes.proofs.block_chunks.recover_missing.Goals as goal

pub returns : goal.returns
returns c =
    let before = c.in_ok-chunks.chunks in
    let new = c.write_missing.new.chunks in
    let size : length new ≡ length before.items = c.write_missing.auto.chunks ∙ ap length c.deref_mut.ensures.value in
    subst (λ l. AreMissing c.args.g c.args.have.now (contents l)) (sym (written_chunks before.len before.items new (omega arith) size)) c.in_ok-write_missing.ensures

use Rattle.std.proofs.Common.{sym, ◌∙◌, take}
use Rattle.hist_rules.specs.First.{first_fault_along}
use Rattle.hist_rules.specs.MissingChunk.{chunk_missing}
use Rattle.hist_tables.proofs.Faults.{after_fits, after_found}
use Rattle.hist_tables.proofs.Ors.{named_before}
use Rattle.hist_tables.proofs.chunks_missing.find_present_chunk.Goals as goal

pub returns-in-Some : goal.returns-in-Some
returns-in-Some c =
    let r = chunk_missing c.args.script.now c.args.call c.args.missing.now in
    after_found r c.args.missing.now c.loop-place.place _ (first_fault_along r c.args.missing.now) c.in-Some.fault c.loop-place.invariant c.loop-place-test.true
    (sym (c.in-Some.ensures _ (c.names_server-repeated.ensures ∙ named_before _ (take c.loop-place.place c.args.missing.now))))

pub loop-place-preserved : goal.loop-place-preserved
loop-place-preserved c =
    let r = chunk_missing c.args.script.now c.args.call c.args.missing.now in
    after_fits r c.args.missing.now c.loop-place.place _ (first_fault_along r c.args.missing.now) c.loop-place.invariant c.loop-place-test.true
    (sym (c.in_default.ensures _ (c.names_server-repeated.ensures ∙ named_before _ (take c.loop-place.place c.args.missing.now))))

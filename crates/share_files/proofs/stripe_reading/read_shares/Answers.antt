use Rattle.std.proofs.Common.{sym, ◌∙◌}
use Rattle.std.proofs.lemmas.Bool.{true≢false}
use Rattle.share_files.proofs.AskedLemmas.{asked_both}
use Rattle.share_files.proofs.DataLemmas.{data_read, all_read}
use Rattle.share_files.proofs.stripe_reading.read_shares.Goals as goal

pub returns-then-have_data-clause-read : goal.returns-then-have_data-clause-read
returns-then-have_data-clause-read g c =
    data_read c.args.geometry c.args.stripe c.k-data.result _ _ _ c.read_blocks.new.blocks c.k-data.ensures.value c.in_ok-read_blocks.ensures.read
    c.args.missed.now (c.have_data.ensures.there search)

pub returns-clause-read : goal.returns-clause-read
returns-clause-read g c =
    all_read c.args.geometry c.args.stripe c.k-data.result _ _ _ c.read_blocks.new.blocks c.k-data.ensures.value c.in_ok-read_blocks.ensures.read
    c.n-all.result _ c.read_blocks-2.new.blocks c.args.missed.now c.note_missed.new.missed c.n-all.ensures.value
    (c.read_blocks-2.auto.blocks ∙ c.read_blocks.auto.blocks ∙ c.requires.blocks) c.in_ok-read_blocks-2.ensures.read
    (c.have_data.ensures.lack (λ e. true≢false (sym e ∙ c.if-have_data.false))) c.note_missed.ensures

pub returns-clause-asked : goal.returns-clause-asked
returns-clause-asked g c = asked_both c.args.geometry c.args.stripe _ _ _ c.read_blocks.ensures.asked c.read_blocks-2.ensures.asked

pub returns-in_err-read_blocks-2-clause-asked : goal.returns-in_err-read_blocks-2-clause-asked
returns-in_err-read_blocks-2-clause-asked g c = asked_both c.args.geometry c.args.stripe _ _ _ c.read_blocks.ensures.asked c.read_blocks-2.ensures.asked

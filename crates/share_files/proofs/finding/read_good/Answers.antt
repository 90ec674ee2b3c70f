use Rattle.std.proofs.Common.{◌<◌, Err, ap, ◌∙◌, arith}
use Rattle.share_format.specs.Blocks.{block_length}
use Rattle.share_format.specs.Shares.{block_start}
use Rattle.share_files.proofs.FoundLemmas.{shown_failed, shown_ended, no_block}
use Rattle.share_files.proofs.AskedLemmas.{asked_given, asked_failed, asked_ended}
use Rattle.share_files.proofs.finding.read_good.Goals as goal

pub returns-in-Err-Failed-clause-shown : goal.returns-in-Err-Failed-clause-shown
returns-in-Err-Failed-clause-shown g c = λ file shows.
    shown_failed file _ _ (block_start c.args.geometry c.args.stripe) (block_length c.args.geometry) _ _ _ _
    (c.in-Err-Failed.ensures.failed (ap Err c.in-Err-Failed.field-0-is)) (c.in-Err-Failed.ensures.on (λ e. cc)) shows

pub returns-in-Err-Ended-clause-shown : goal.returns-in-Err-Ended-clause-shown
returns-in-Err-Ended-clause-shown g c = λ file shows.
    shown_ended file _ _ (block_start c.args.geometry c.args.stripe) (block_length c.args.geometry) _ _
    (c.in-Err-Ended.ensures.ended (ap Err c.in-Err-Ended.field-0-is)) shows

pub returns-in-Err-Ended-clause-found : goal.returns-in-Err-Ended-clause-found
returns-in-Err-Ended-clause-found g c = λ file shows.
    let some : 0 < block_length c.args.geometry = omega (arith, c.block_len-len.ensures.some, c.block_len-len.ensures.value) in
    no_block c.args.geometry c.args.stripe file some (c.in-Err-Ended.ensures.short file shows (ap Err c.in-Err-Ended.field-0-is))

pub returns-in-Ok-clause-asked : goal.returns-in-Ok-clause-asked
returns-in-Ok-clause-asked g c =
    asked_given c.args.geometry c.args.stripe _ _ c.read_block.new.block (c.read_block.auto.block ∙ c.requires.size) c.in-Ok.ensures.given
    (c.in-Ok.ensures.on (λ e. cc)) (c.in-Ok.ensures.steady (λ e. cc))

pub returns-in-Err-Failed-clause-asked : goal.returns-in-Err-Failed-clause-asked
returns-in-Err-Failed-clause-asked g c =
    asked_failed c.args.geometry c.args.stripe _ _ (c.in-Err-Failed.ensures.failed (ap Err c.in-Err-Failed.field-0-is)) (c.in-Err-Failed.ensures.on (λ e. cc))

pub returns-in-Err-Ended-clause-asked : goal.returns-in-Err-Ended-clause-asked
returns-in-Err-Ended-clause-asked g c =
    asked_ended c.args.geometry c.args.stripe _ _ (c.in-Err-Ended.ensures.ended (ap Err c.in-Err-Ended.field-0-is)) (c.in-Err-Ended.ensures.steady (λ e. cc))

use Rattle.std.proofs.Common.{length, Err, ap}
use Rattle.share_files.proofs.FoundLemmas.{shown_given, shown_failed, shown_ended, fails_in}
use Rattle.share_files.proofs.WholeLemmas.{byte_behind, no_byte_behind, one_fails}
use Rattle.share_files.proofs.checking.ends_at.Goals as goal

pub returns-in-Ok-clause-ends : goal.returns-in-Ok-clause-ends
returns-in-Ok-clause-ends g c = λ file shows.
    byte_behind file c.read_exact_at.new.buf c.args.place c.read_exact_at.auto.buf (c.in-Ok.ensures.shown file shows)

pub returns-in-Err-Ended-clause-ends : goal.returns-in-Err-Ended-clause-ends
returns-in-Err-Ended-clause-ends g c = λ file shows.
    no_byte_behind file c.read_exact_at.new.buf c.args.place c.read_exact_at.auto.buf (c.in-Err-Ended.ensures.short file shows (ap Err c.in-Err-Ended.field-0-is))

pub returns-in-Ok-clause-shown : goal.returns-in-Ok-clause-shown
returns-in-Ok-clause-shown g c = λ file shows.
    shown_given file _ _ c.args.place c.read_exact_at.new.buf _ _ c.in-Ok.ensures.given (c.in-Ok.ensures.on (λ e. cc)) shows

pub returns-in-Err-Failed-clause-shown : goal.returns-in-Err-Failed-clause-shown
returns-in-Err-Failed-clause-shown g c = λ file shows.
    shown_failed file _ _ c.args.place (length c.read_exact_at.new.buf) _ _ _ _ (c.in-Err-Failed.ensures.failed (ap Err c.in-Err-Failed.field-0-is))
    (c.in-Err-Failed.ensures.on (λ e. cc)) shows

pub returns-in-Err-Failed-clause-cause : goal.returns-in-Err-Failed-clause-cause
returns-in-Err-Failed-clause-cause g c = λ e.
    one_fails _ _ _ _ (fails_in _ _ _ _ c.args.place (length c.read_exact_at.new.buf) (c.in-Err-Failed.ensures.failed (ap Err c.in-Err-Failed.field-0-is)))

pub returns-in-Err-Ended-clause-shown : goal.returns-in-Err-Ended-clause-shown
returns-in-Err-Ended-clause-shown g c = λ file shows.
    shown_ended file _ _ c.args.place (length c.read_exact_at.new.buf) _ _ (c.in-Err-Ended.ensures.ended (ap Err c.in-Err-Ended.field-0-is)) shows

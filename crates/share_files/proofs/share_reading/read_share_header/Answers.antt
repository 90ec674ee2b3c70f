use Rattle.std.proofs.Common.{◌≡◌, ℕ, length, Err, subst, ap}
use Rattle.file_bytes.specs.Places.{FailsIn}
use Rattle.share_format.specs.Header.{header_bytes}
use Rattle.share_files.proofs.FoundLemmas.{fails_in, shown_given, shown_failed, shown_ended}
use Rattle.share_files.proofs.WrittenLemmas.{header_first, first_refused}
use Rattle.share_files.proofs.share_reading.read_share_header.Goals as goal

pub returns-in-Ok-read_header-clause-header : goal.returns-in-Ok-read_header-clause-header
returns-in-Ok-read_header-clause-header g c = λ file shows.
    header_first file c.read_exact_at.new.buf (header_bytes c.in-Ok-read_header.header) c.in-Ok-read_header.ensures.read
    (c.in-Ok.ensures.shown file shows) c.read_exact_at.auto.buf

pub returns-in-Err-clause-refused : goal.returns-in-Err-clause-refused
returns-in-Err-clause-refused g c = λ file shows.
    first_refused file c.read_exact_at.new.buf c.in-Err.fault c.in-Err.ensures.refused (c.in-Ok.ensures.shown file shows) c.read_exact_at.auto.buf

pub returns-in-Err-Failed-clause-cause : goal.returns-in-Err-Failed-clause-cause
returns-in-Err-Failed-clause-cause g c = λ e.
    let long : length c.read_exact_at.new.buf ≡ 64 = c.read_exact_at.auto.buf in
    let P : ℕ → Type 0 = λ n. FailsIn 0 n (g.S.SourceAt.failed c.args.source.now) (g.S.SourceAt.failed c.read_exact_at.new.source) in
    subst P long (fails_in _ _ _ _ 0 (length c.read_exact_at.new.buf) (c.in-Err-Failed.ensures.failed (ap Err c.in-Err-Failed.field-0-is)))

pub returns-in-Err-Failed-clause-shown : goal.returns-in-Err-Failed-clause-shown
returns-in-Err-Failed-clause-shown g c = λ file shows.
    shown_failed file _ _ 0 (length c.read_exact_at.new.buf) _ _ _ _ (c.in-Err-Failed.ensures.failed (ap Err c.in-Err-Failed.field-0-is))
    (c.in-Err-Failed.ensures.on (λ e. cc)) shows

pub returns-in-Err-Ended-clause-shown : goal.returns-in-Err-Ended-clause-shown
returns-in-Err-Ended-clause-shown g c = λ file shows.
    shown_ended file _ _ 0 (length c.read_exact_at.new.buf) _ _ (c.in-Err-Ended.ensures.ended (ap Err c.in-Err-Ended.field-0-is)) shows

pub returns-in-Ok-read_header-clause-shown : goal.returns-in-Ok-read_header-clause-shown
returns-in-Ok-read_header-clause-shown g c = λ file shows.
    shown_given file _ _ 0 c.read_exact_at.new.buf _ _ c.in-Ok.ensures.given (c.in-Ok.ensures.on (λ e. cc)) shows

pub returns-in-Err-clause-shown : goal.returns-in-Err-clause-shown
returns-in-Err-clause-shown g c = λ file shows.
    shown_given file _ _ 0 c.read_exact_at.new.buf _ _ c.in-Ok.ensures.given (c.in-Ok.ensures.on (λ e. cc)) shows

use Rattle.std.proofs.Common.{◌≡◌, ◌∙◌, length, Err, ap, arith, rules}
use Rattle.std.proofs.lemmas.Grind.{common_steps}
use Rattle.share_format.specs.Blocks.{page_of, rounded}
use Rattle.share_files.proofs.FoundLemmas.{shown_given, shown_failed, shown_ended, fails_in}
use Rattle.share_files.proofs.WholeLemmas.{begins_as_read, short_front, one_fails}
use Rattle.share_files.proofs.checking.begins_with.Goals as goal

pub returns-in-Ok-clause-begins : goal.returns-in-Ok-clause-begins
returns-in-Ok-clause-begins g c = λ file shows.
    let front : c.deref.result.now ≡ c.read_exact_at.new.buf = first_of (search rules, grind (arith, common_steps)) in
    let long : length c.read_exact_at.new.buf ≡ rounded (page_of c.args.header.now.shape) 64 =
    c.read_exact_at.auto.buf ∙ ap length c.deref_mut.ensures.value ∙ c.in_ok-front.ensures ∙ c.header_room.ensures.value
    ∙ ap (λ a. rounded (page_of a) 64) c.geometry.ensures in
    begins_as_read c.args.header.now file c.read_exact_at.new.buf c.deref.result.now c.deref-in-Ok.result.now c.in_ok-wanted.wanted.items c.are_same.result front c.deref-in-Ok.ensures.value
    c.in_ok-wanted.ensures long (c.in-Ok.ensures.shown file shows) c.are_same.ensures

pub returns-clause-begins : goal.returns-clause-begins
returns-clause-begins g c = λ file shows.
    let long : length c.read_exact_at.new.buf ≡ rounded (page_of c.args.header.now.shape) 64 =
    c.read_exact_at.auto.buf ∙ ap length c.deref_mut.ensures.value ∙ c.in_ok-front.ensures ∙ c.header_room.ensures.value
    ∙ ap (λ a. rounded (page_of a) 64) c.geometry.ensures in
    short_front c.args.header.now file c.read_exact_at.new.buf long (c.in-Err-Ended.ensures.short file shows (ap Err c.in-Err-Ended.field-0-is))

pub returns-in-Ok-clause-shown : goal.returns-in-Ok-clause-shown
returns-in-Ok-clause-shown g c = λ file shows.
    shown_given file _ _ 0 c.read_exact_at.new.buf _ _ c.in-Ok.ensures.given (c.in-Ok.ensures.on (λ e. cc)) shows

pub returns-in-Err-Failed-clause-shown : goal.returns-in-Err-Failed-clause-shown
returns-in-Err-Failed-clause-shown g c = λ file shows.
    shown_failed file _ _ 0 (length c.read_exact_at.new.buf) _ _ _ _ (c.in-Err-Failed.ensures.failed (ap Err c.in-Err-Failed.field-0-is))
    (c.in-Err-Failed.ensures.on (λ e. cc)) shows

pub returns-in-Err-Failed-clause-cause : goal.returns-in-Err-Failed-clause-cause
returns-in-Err-Failed-clause-cause g c = λ e.
    one_fails _ _ _ _ (fails_in _ _ _ _ 0 (length c.read_exact_at.new.buf) (c.in-Err-Failed.ensures.failed (ap Err c.in-Err-Failed.field-0-is)))

pub returns-clause-shown : goal.returns-clause-shown
returns-clause-shown g c = λ file shows.
    shown_ended file _ _ 0 (length c.read_exact_at.new.buf) _ _ (c.in-Err-Ended.ensures.ended (ap Err c.in-Err-Ended.field-0-is)) shows

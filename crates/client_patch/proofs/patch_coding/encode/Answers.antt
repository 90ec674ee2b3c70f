use Rattle.std.proofs.Common.{◌≡◌, ◌+◌, List, ℕ, IfSome, sym, subst, ◌∙◌}
use Rattle.store_core.specs.Content.{lay_over}
use Rattle.write_course.specs.Writings.{stamp_at_work}
use Rattle.client_patch.specs.Kept.{old_in, new_of}
use Rattle.client_patch.proofs.Contents.{content_at_work, due_has_place}
use Rattle.client_patch.proofs.patch_coding.encode.Goals as goal

pub unreachable-requires : goal.unreachable-requires
unreachable-requires g c =
    due_has_place c.args.writing.now.first c.args.writing.now.state (c.due-due.ensures.begins (c.due-due.ensures.due ∙ c.requires.due))
    (sym c.in_default.is ∙ c.stripe_at_work.ensures)

pub encode-requires-clause-content : goal.encode-requires-clause-content
encode-requires-clause-content g c = λ κs lives.
    let w = c.args.writing.now in
    let its = c.bytes_of-offset.ensures in
    let stripe : ℕ = c.in-Some.stripe in
    let laid : new_of w.book.geometry c.args.call.now c.args.size c.args.kept.now c.in-Some.stripe ≡ c.deref.result.now
    = (λ i. lay_over (sym c.requires.code i) stripe (old_in (sym c.requires.code i) c.args.size (sym its.offset i) (sym its.offset i + sym its.length i) c.args.kept.now stripe) (sym its.begins i) (sym its.bytes i))
    ∙ sym (c.deref.ensures.value ∙ c.in_ok-bytes.ensures.bytes) in
    subst (λ (bytes : List ℕ). IfSome (stamp_at_work c.args.writing.now) (λ stamp. stamp.content ≡ bytes)) laid
    (content_at_work w.book c.args.call.now c.args.size c.args.kept.now w c.in-Some.stripe c.requires.its (sym c.stripe_at_work.ensures ∙ c.in-Some.is))

use Rattle.std.proofs.Common.{◌≡◌, Some, sym, ap, subst, ◌∙◌, inr}
use Rattle.store_map.specs.declared.reply.Reply.TheVariants as reply
use Rattle.gather_parts.specs.Gatherings.{owed}
use Rattle.gather_parts.specs.Ends.{end_state, IfBytes}
use Rattle.snapshot_view.specs.Reads.{reply_by}
use Rattle.snapshot_view.proofs.read_outcomes.SnapOutcome.of_gathered.Goals as goal

pub returns-in-Bytes : goal.returns-in-Bytes
returns-in-Bytes c = λ r going state bytes. (
  ap (λ ended. reply_by ended (owed r.gatherings)) going
      ∙ ap (λ l. Some (reply.Bytes l)) (sym (subst (λ gathered. IfBytes gathered (λ b. b.items ≡ owed r.gatherings)) c.in-Bytes.is bytes)),
  λ after. state after ∙ ap (end_state after) c.in-Bytes.is,
)

pub returns-in-TooMany : goal.returns-in-TooMany
returns-in-TooMany c = λ r going state bytes. (going, λ after. state after ∙ ap (end_state after) c.in-TooMany.is)

pub returns-in-Short : goal.returns-in-Short
returns-in-Short c = λ r going state bytes. inr (going, λ after. state after ∙ ap (end_state after) c.in-Short.is)

use Rattle.std.proofs.Common.{arith}
use Rattle.store_map.specs.CallNames.{repair_text}
use Rattle.transcript_read.specs.Values.{IsRepairCall}
use Rattle.transcript_read.proofs.PartLaws.{short_lacks, repairer_unread, no_numbers, unread_by}
use Rattle.transcript_read.proofs.triple.RepairCallField.read.Goals as goal

pub first_field-requires : goal.first_field-requires
first_field-requires c =
    λ n short. short_lacks 46 n (omega arith) short

pub returns-in_err-number : goal.returns-in_err-number
returns-in_err-number c =
    unread_by IsRepairCall repair_text c.args.text.now c.from_residual-in_err-number.result c.in_err-number.field-0.0 c.from_residual-in_err-number.ensures.1 c.in_err-number.ensures (λ none. repairer_unread c.args.text.now c.in-Some.numbers.now c.in-Some.ensures.some (no_numbers c.in-Some.numbers.now c.in_ok-repairer.repairer c.in_ok-repairer.rest.now c.in_ok-repairer.ensures.value c.in_ok-repairer.ensures.found none))

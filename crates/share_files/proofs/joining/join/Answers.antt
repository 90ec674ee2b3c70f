use Rattle.std.proofs.Common.{◌≢◌, Err, ap, sym, ◌∙◌}
use Rattle.share_files.specs.declared.joining.JoinFault.TheVariants.{Mismatch}
use Rattle.share_files.proofs.Steps.{why_stopped, stopped_unread, stopped_in}
use Rattle.share_files.proofs.Taking.{takes_file, takes_another, takes_this, matches_this, takes_prefix}
use Rattle.share_files.proofs.joining.join.Goals as goal

pub returns-in-Err-clause-prefix : goal.returns-in-Err-clause-prefix
returns-in-Err-clause-prefix g c = λ file files shows pass.
    takes_prefix c.args.header.now _ _ _ _ _ _ file files shows pass c.in-Err.fault c.in-Err.ensures.until

pub returns-in-Err-clause-why_not : goal.returns-in-Err-clause-why_not
returns-in-Err-clause-why_not g c = λ files shows.
    why_stopped c.args.header.now _ _ c.join_all.new.missed c.in-Err.fault c.in-Err.ensures.stop files shows

pub returns-in-Err-clause-of_file : goal.returns-in-Err-clause-of_file
returns-in-Err-clause-of_file g c = stopped_in c.args.header.now _ _ c.join_all.new.missed c.in-Err.fault c.in-Err.ensures.stop

pub returns-then-checksum-clause-matching : goal.returns-then-checksum-clause-matching
returns-then-checksum-clause-matching g c = λ file files shows pass e.
    let differs : c.in-Ok.checksum ≢ c.args.header.now.checksum = λ same. c.if-checksum.true (same ∙ sym c.checksum.ensures) in
    matches_this c.args.header.now _ _ _ _ _ _ c.in-Ok.checksum c.in-Ok.ensures.taken differs file files shows pass

pub returns-then-checksum-clause-prefix : goal.returns-then-checksum-clause-prefix
returns-then-checksum-clause-prefix g c = λ file files shows pass.
    let differs : c.in-Ok.checksum ≢ c.args.header.now.checksum = λ same. c.if-checksum.true (same ∙ sym c.checksum.ensures) in
    takes_prefix c.args.header.now _ _ _ _ _ _ file files shows pass Mismatch
    (takes_another c.args.header.now _ _ _ _ _ _ c.in-Ok.checksum c.in-Ok.ensures.taken differs)

pub returns-then-checksum-clause-until : goal.returns-then-checksum-clause-until
returns-then-checksum-clause-until g c =
    let differs : c.in-Ok.checksum ≢ c.args.header.now.checksum = λ same. c.if-checksum.true (same ∙ sym c.checksum.ensures) in
    takes_another c.args.header.now _ _ _ _ _ _ c.in-Ok.checksum c.in-Ok.ensures.taken differs

pub returns-then-checksum-clause-why_not : goal.returns-then-checksum-clause-why_not
returns-then-checksum-clause-why_not g c = λ files shows.
    c.in-Ok.ensures.read.noted files shows

pub returns-clause-joined : goal.returns-clause-joined
returns-clause-joined g c = λ file files shows pass.
    takes_this c.args.header.now _ _ _ _ _ _ c.in-Ok.checksum c.in-Ok.ensures.taken file files shows pass

pub returns-clause-taken : goal.returns-clause-taken
returns-clause-taken g c = takes_file c.args.header.now _ _ _ _ _ _ c.in-Ok.checksum c.in-Ok.ensures.taken (c.if-checksum.false ∙ c.checksum.ensures)

pub returns-clause-missed : goal.returns-clause-missed
returns-clause-missed g c = λ files shows.
    c.in-Ok.ensures.read.noted files shows

pub returns-in-Err-clause-unread : goal.returns-in-Err-clause-unread
returns-in-Err-clause-unread g c = λ memory.
    stopped_unread c.args.header.now _ _ c.join_all.new.missed c.in-Err.fault c.in-Err.ensures.stop (λ e. memory (ap Err e))

pub returns-then-checksum-clause-unread : goal.returns-then-checksum-clause-unread
returns-then-checksum-clause-unread g c = λ memory. c.in-Ok.ensures.read.unread

pub returns-clause-unread : goal.returns-clause-unread
returns-clause-unread g c = λ memory. c.in-Ok.ensures.read.unread

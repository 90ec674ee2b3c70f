use Rattle.std.proofs.Common.{◌∙◌, ap, Err}
use Rattle.share_files.proofs.DataLemmas.{data_long, data_of, all_of, joins_data, joins_all, lacks_all, ok_is_no_fault}
use Rattle.share_files.proofs.stripe_reading.next_stripe.Goals as goal

pub returns-then-is_whole-clause-len : goal.returns-then-is_whole-clause-len
returns-then-is_whole-clause-len g c =
    data_long c.args.geometry c.read_shares.new.blocks c.in_ok-is_whole.ensures.lengths (c.read_shares.auto.blocks ∙ c.requires.blocks)

pub returns-then-is_whole-clause-joined : goal.returns-then-is_whole-clause-joined
returns-then-is_whole-clause-joined g c =
    joins_data c.args.geometry c.args.stripe _ _ _ _ c.read_shares.new.blocks (c.read_shares.auto.blocks ∙ c.requires.blocks) c.in_ok-is_whole.ensures.lengths
    (data_of c.args.geometry c.args.stripe _ _ _ _ c.read_shares.new.blocks c.in_ok-is_whole.is_whole (search) c.in_ok-is_whole.ensures.read)

pub returns-in-Ok-clause-joined : goal.returns-in-Ok-clause-joined
returns-in-Ok-clause-joined g c =
    joins_all c.args.geometry c.args.stripe _ _ _ _ c.read_shares.new.blocks c.in-Ok.bytes.items (c.read_shares.auto.blocks ∙ c.requires.blocks)
    (all_of c.args.geometry c.args.stripe _ _ _ _ c.read_shares.new.blocks c.in_ok-is_whole.is_whole (search) c.in_ok-is_whole.ensures.read)
    (λ few. ok_is_no_fault _ _ (c.in-Ok.ensures.too_few.1 few)) c.in-Ok.ensures.joined

pub returns-in-Err-TooFew-clause-fault : goal.returns-in-Err-TooFew-clause-fault
returns-in-Err-TooFew-clause-fault g c =
    lacks_all c.args.geometry c.args.stripe _ _ _ _ c.read_shares.new.blocks (c.read_shares.auto.blocks ∙ c.requires.blocks)
    (all_of c.args.geometry c.args.stripe _ _ _ _ c.read_shares.new.blocks c.in_ok-is_whole.is_whole (search) c.in_ok-is_whole.ensures.read)
    (c.in-Err-TooFew.ensures.too_few.0 (ap Err c.in-Err-TooFew.field-0-is))

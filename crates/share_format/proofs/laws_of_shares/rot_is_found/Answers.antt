use Rattle.share_format.proofs.Found.{own_checksum, rot_found}
use Rattle.share_format.proofs.laws_of_shares.rot_is_found.Goals as goal

pub returns-clause-kept : goal.returns-clause-kept
returns-clause-kept c = own_checksum

pub returns-clause-found : goal.returns-clause-found
returns-clause-found c = rot_found

use Rattle.share_format.proofs.HeaderBack.{no_fault, same_headers}
use Rattle.share_format.proofs.laws_of_shares.headers_are_read_back.Goals as goal

pub returns-clause-accepted : goal.returns-clause-accepted
returns-clause-accepted c = no_fault

pub returns-clause-unique : goal.returns-clause-unique
returns-clause-unique c = same_headers

use Rattle.std.proofs.Common.{◌<◌, length, sym, subst, arith}
use Rattle.std.proofs.lemmas.Slice.{first_rest}
use Rattle.session_rules.specs.Requests.{request_of}
use Rattle.frame_bytes.specs.Requests.{IsRead}
use Rattle.frame_bytes.proofs.requests.request_of.Goals as goal

pub returns-in-len1-up : goal.returns-in-len1-up
returns-in-len1-up c =
    let some : 0 < length c.args.frame.now = omega (arith, c.in-len1-up.len_at_least) in
    subst (λ l. IsRead (request_of c.args.servers l) c.by_kind.result) (sym (first_rest c.args.frame.now 0 some)) c.by_kind.ensures

use Rattle.std.proofs.Common.{◌≡◌, MatchOption, get_or, Some, None, subst}
use Rattle.std.proofs.lemmas.List.{get_or_read}
use Rattle.lane_repair.proofs.ViewLemmas.{items}
use Rattle.lane_repair.proofs.view.piece_apart.Goals as goal

pub returns : goal.returns
returns c =
    let have = c.args.have.now in
    let read : c.index-have-c.result ≡ get_or have c.args.c None = get_or_read have c.args.c c.index-have-c.result c.requires c.index-have-c.is None in
    subst (λ o. MatchOption c.bytes_of.result (o ≡ None) (λ p. items o ≡ Some p.now)) read c.bytes_of.ensures

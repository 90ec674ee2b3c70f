use Rattle.std.proofs.Common.{◌≡◌, sym, ap, ◌∙◌, arith, rules}
use Rattle.std.proofs.lemmas.Bool.{true≢false}
use Rattle.std.proofs.lemmas.Grind.{common_steps}
use Rattle.share_format.specs.Header.{header_bytes}
use Rattle.share_files.proofs.WholeLemmas.{one_fails, fault_of, fault_is, is_foreign}
use Rattle.share_files.proofs.checking.check_share.Goals as goal

pub returns-in-Err-clause-fault : goal.returns-in-Err-clause-fault
returns-in-Err-clause-fault g c = λ file shows. c.refused.ensures.fault c.args.header.now file (c.in-Err.ensures.refused file shows)

pub returns-in-Err-clause-cause : goal.returns-in-Err-clause-cause
returns-in-Err-clause-cause g c = λ e. one_fails _ _ _ _ (c.in-Err.ensures.cause (fault_is _ _ (c.refused.ensures.read.0 (fault_of _ _ e))))

pub returns-in-Err-clause-steady : goal.returns-in-Err-clause-steady
returns-in-Err-clause-steady g c = λ other. c.in-Err.ensures.steady (λ e. other (fault_is _ _ (c.refused.ensures.read.1 (fault_of _ _ e))))

pub returns-then-not-is_header-clause-fault : goal.returns-then-not-is_header-clause-fault
returns-then-not-is_header-clause-fault g c = λ file shows.
    is_foreign c.args.header.now c.in-Ok.found file c.in-Ok.ensures.bounded (c.in-Ok.ensures.header file shows) (λ same. true≢false (sym (c.is_header.ensures.1 same) ∙ first_of (search, search rules, grind (arith, common_steps))))

pub returns-clause-fault : goal.returns-clause-fault
returns-clause-fault g c = λ file shows.
    let same : c.in-Ok.found ≡ c.args.header.now = c.is_header.ensures.0 (first_of (search, search rules, grind (arith, common_steps))) in
    c.check_rest.ensures.fault file shows (c.in-Ok.ensures.header file (c.check_rest.ensures.shown file shows) ∙ ap header_bytes same)

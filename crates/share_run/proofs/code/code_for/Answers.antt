use Rattle.std.proofs.Common.{◌≡◌, MatchOption, sym, subst}
use Rattle.std.proofs.lemmas.Result.{IfOk-weaker, IfErr-weaker}
use Rattle.clay_aloof.specs.Limits.{IsAloof, IsFirstFault}
use Rattle.share_run.specs.Code.{code_with, least_width, IsForFile, IsCodeFor}
use Rattle.share_run.proofs.CodeLemmas.{no_fault}
use Rattle.share_run.proofs.code.code_for.Goals as goal

pub returns : goal.returns
returns c =
    let asked = c.args.asked in
    let size = c.args.size in
    let width = c.width_for.result in
    let made = c.with_width-3.ensures in
    record {
      code = IfOk-weaker c.with_width-3.result (λ g. g ≡ code_with asked width) (IsCodeFor asked size)
          (λ g is. (width, is, subst (λ o. MatchOption o (IsForFile asked size width) (λ given. width ≡ given)) (sym c.in_default.is) c.width_for.ensures)) made.made;
      refused = IfErr-weaker c.with_width-3.result (IsFirstFault (code_with asked width)) (IsFirstFault (code_with asked (least_width asked)))
          (λ fault h. absurd (no_fault asked size width fault (subst IsAloof c.in_ok-narrow.ensures.made c.in_ok-narrow.ensures.geometry) c.width_for.ensures h)) made.refused;
    }

-- A call after the coding before its next step, if one was due.
use Rattle.std.proofs.Common.{◌≡◌, Bool, true, false, if◌then◌else◌, sym, ap, subst, ◌∙◌, true≢false}
use Rattle.std.specs.Prelude.{◌&&◌}
use Rattle.store_core.specs.Act.{Act, DirectoryStep}
use Rattle.call_steps.specs.declared.need.Need.TheVariants as need
use Rattle.call_steps.specs.CallOf.{CallOf, act_of}
use Rattle.call_steps.specs.Steps.{coded, need_by, need_of, IsDueInPass}
use Rattle.call_steps.proofs.Codings.{acts_stand}
use Rattle.call_steps.proofs.Needs.{needs_tell_acts, is_coder}
use Rattle.call_machine.specs.Going.{HasPlace}

-- a coding that was due was before a step
place_by : (act : Act) → need_by act true ≡ need.Coder → HasPlace (need_by act false)
place_by (Act.AtDirectory step) e = tt
place_by (Act.AtServer server step) e = tt
place_by (Act.Finish outcome) e = absurd (true≢false (sym (ap is_coder e)))

coded_by : (c : CallOf) (coding : Bool) → c.due ≡ true → IsDueInPass c → need_of c ≡ need.Coder → HasPlace (need_of (coded coding c))
coded_by c false due in_pass e = place_by (act_of c) (ap (need_by (act_of c)) (sym due) ∙ e)
coded_by c true due in_pass e =
    let same : act_of (coded true c) ≡ Act.AtDirectory DirectoryStep.End = subst (λ (b : Bool). act_of (if b then coded true c else c) ≡ Act.AtDirectory DirectoryStep.End) due (acts_stand.wanting c due in_pass) in
    subst (λ (act : Act). HasPlace (need_by act false)) (sym same) tt

pub coded_place : (c : CallOf) (coding : Bool) → IsDueInPass c → need_of c ≡ need.Coder → HasPlace (need_of (coded coding c))
coded_place c coding in_pass e = coded_by c coding (needs_tell_acts.coder c e) in_pass e

-- a coding that is due says whether memory was wanting
pub owed_coded : {P : Type 0} (c : CallOf) (coding : Bool) → need_of c ≡ need.Coder → (coding ≡ false → P) → (c.due && coding) ≡ false → P
owed_coded c coding needs owed e = owed (ap (λ (due : Bool). due && coding) (sym (needs_tell_acts.coder c needs)) ∙ e)

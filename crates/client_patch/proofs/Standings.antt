-- Where a call stands, by what it does next.
use Rattle.std.proofs.Common.{◌≡◌, ℕ, Bool, true, false, List, refl, sym, subst, ◌∙◌}
use Rattle.std.specs.Prelude.{IsTrue}
use Rattle.store_core.specs.Note.{Note}
use Rattle.store_core.specs.Act.{Act}
use Rattle.store_core.specs.ActPlace.{is_in_pass}
use Rattle.store_core.specs.Agreement.{ActorToken}
use Rattle.run_laws.specs.State.{Sequel}
use Rattle.call_steps.specs.declared.need.Need.TheVariants as need
use Rattle.call_steps.specs.CallOf.{CallOf, act_of}
use Rattle.call_steps.specs.TokenAfter.{IfInCall, IsSeated}
use Rattle.call_steps.specs.Steps.{need_by, need_of, HoldsItsPass}
use Rattle.gather_parts.specs.States.{state_in, StandsIn}
use Rattle.client_patch.specs.Stages.{state_by}
use Rattle.client_patch.specs.Inside.{patch_in, IsPatch}
use Rattle.write_course.specs.Holding.{IsHolding}
use Rattle.client_patch.specs.declared.patch.PatchCall.TheInside.{Inside}

-- a call in its pass needs the coder where coding is due, and isn't over
pub in_pass_codes : (act : Act) → IsTrue (is_in_pass act) → need.Coder ≡ need_by act true
in_pass_codes (Act.Finish outcome) h = absurd (cc)
in_pass_codes (Act.AtDirectory step) h = refl
in_pass_codes (Act.AtServer server step) h = refl

not_over : (act : Act) → IsTrue (is_in_pass act) → need_by act false ≡ need.Finished → ⊥
not_over (Act.Finish outcome) h e = cc
not_over (Act.AtDirectory step) h e = cc
not_over (Act.AtServer server step) h e = cc

-- a call that gathers stands in its gatherings
pub gathers : (a : Inside) → IsPatch a → state_by a.stage a.gatherings a.writing a.outcome ≡ state_in a.gatherings Sequel.Draw → StandsIn (patch_in a).call a.gatherings Sequel.Draw
gathers a kept e = record { book = sym kept.book; state = e; takes = refl }

-- it holds its pass
pub holds : (c : CallOf) (number : ℕ) (note : Note) (drawn : List ℕ) (token : ActorToken) → c.token ≡ token → c.job.note ≡ note → c.number ≡ number → IsTrue (is_in_pass (act_of c))
    → IsHolding number note drawn token → HoldsItsPass c
holds c number note drawn token t j n inside h =
    record {
      its = subst (λ x. IfInCall x (λ held. (held.pass.note ≡ c.job.note) × (held.pass.number ≡ c.number))) (sym (t ∙ h.is)) (h.its ∙ sym j, h.its_number ∙ sym n);
      none = λ e. absurd (not_over (act_of c) inside e);
    }

-- a call that is over has a seat
over_at : (act : Act) (due : Bool) → need_by act due ≡ need.Finished → need_by act false ≡ need.Finished
over_at (Act.Finish outcome) due e = refl
over_at act false e = e
over_at (Act.AtDirectory step) true e = absurd (cc)
over_at (Act.AtServer server step) true e = absurd (cc)

pub over_seated : (c : CallOf) → HoldsItsPass c → need_of c ≡ need.Finished → IsSeated c.token
over_seated c pass e = pass.none (over_at (act_of c) c.due e)

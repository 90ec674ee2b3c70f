-- What a call needs tells what it does next.
use Rattle.std.proofs.Common.{◌≡◌, ℕ, Bool, true, false, refl, sym, ap, true≢false}
use Rattle.store_core.specs.Act.{Act, DirectoryStep, ServerStep, Outcome}
use Rattle.call_steps.specs.declared.need.Need.{Need}
use Rattle.call_steps.specs.declared.need.Need.TheVariants as need
use Rattle.call_steps.specs.CallOf.{act_of}
use Rattle.call_steps.specs.Steps.{at_directory_by, at_server_by, need_by}
use Rattle.call_steps.specs.NeedLaws.{NeedsTellActs, EndsStay}

-- ---- needs are told apart
abbrev pub is_finished : Need → Bool
is_finished need.Finished = true
is_finished other = false

abbrev pub is_coder : Need → Bool
is_coder need.Coder = true
is_coder other = false

abbrev pub is_directory : Need → Bool
is_directory need.Directory = true
is_directory other = false

abbrev pub is_server : Need → Bool
is_server (need.Server server) = true
is_server other = false

abbrev pub server_in : Need → ℕ
server_in (need.Server server) = server
server_in other = 0

-- ---- by the act, and whether coding is due
finished_by : (act : Act) (due : Bool) → need_by act due ≡ need.Finished → (outcome : Outcome) × (act ≡ Act.Finish outcome)
finished_by (Act.Finish outcome) due e = (outcome, refl)
finished_by (Act.AtDirectory step) true e = absurd (true≢false (sym (ap is_finished e)))
finished_by (Act.AtDirectory step) false e = absurd (true≢false (sym (ap is_finished e)))
finished_by (Act.AtServer server step) true e = absurd (true≢false (sym (ap is_finished e)))
finished_by (Act.AtServer server step) false e = absurd (true≢false (sym (ap is_finished e)))

coder_by : (act : Act) (due : Bool) → need_by act due ≡ need.Coder → due ≡ true
coder_by act true e = refl
coder_by (Act.Finish outcome) false e = absurd (true≢false (sym (ap is_coder e)))
coder_by (Act.AtDirectory step) false e = absurd (true≢false (sym (ap is_coder e)))
coder_by (Act.AtServer server step) false e = absurd (true≢false (sym (ap is_coder e)))

directory_by : (act : Act) (due : Bool) → need_by act due ≡ need.Directory → (step : DirectoryStep) × (act ≡ Act.AtDirectory step) × (due ≡ false)
directory_by (Act.AtDirectory step) false e = (step, refl, refl)
directory_by (Act.AtDirectory step) true e = absurd (true≢false (sym (ap is_directory e)))
directory_by (Act.AtServer server step) true e = absurd (true≢false (sym (ap is_directory e)))
directory_by (Act.AtServer server step) false e = absurd (true≢false (sym (ap is_directory e)))
directory_by (Act.Finish outcome) due e = absurd (true≢false (sym (ap is_directory e)))

server_by : (act : Act) (due : Bool) (server : ℕ) → need_by act due ≡ need.Server server → (step : ServerStep) × (act ≡ Act.AtServer server step) × (due ≡ false)
server_by (Act.AtServer other step) false server e = (step, ap (λ (n : ℕ). Act.AtServer n step) (ap server_in e), refl)
server_by (Act.AtServer other step) true server e = absurd (true≢false (sym (ap is_server e)))
server_by (Act.AtDirectory step) true server e = absurd (true≢false (sym (ap is_server e)))
server_by (Act.AtDirectory step) false server e = absurd (true≢false (sym (ap is_server e)))
server_by (Act.Finish outcome) due server e = absurd (true≢false (sym (ap is_server e)))

pub needs_tell_acts : NeedsTellActs
needs_tell_acts =
    record {
      finished = λ c e. finished_by (act_of c) c.due e;
      coder = λ c e. coder_by (act_of c) c.due e;
      directory = λ c e. directory_by (act_of c) c.due e;
      server = λ c server e. server_by (act_of c) c.due server e;
    }

-- ---- a call that is over stays
pub ends_stay : EndsStay
ends_stay =
    record {
      needs = λ c outcome over. ap (λ (act : Act). need_by act c.due) over;
      directory = λ c outcome d short due over. ap (λ (act : Act). at_directory_by act short due c d) over;
      server = λ c outcome s short due over. ap (λ (act : Act). at_server_by act short due c s) over;
    }

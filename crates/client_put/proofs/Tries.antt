-- A put does the same however often it is tried.
use Rattle.std.proofs.Common.{◌≡◌, ℕ, Bool, true, false, List, IsTrue, refl, sym, ap, subst, ◌∙◌}
use Rattle.clay_grid.specs.Shape.{Shape}
use Rattle.store_map.specs.declared.call.Call.{Call}
use Rattle.store_core.specs.Note.{Kind}
use Rattle.store_core.specs.Act.{Act, DirectoryStep}
use Rattle.store_core.specs.ActPlace.{is_in_pass}
use Rattle.store_core.specs.Agreement.{ActorToken}
use Rattle.store_core.specs.Directory.{Directory}
use Rattle.store_core.specs.NextAct.{Job}
use Rattle.store_core.specs.Server.{Server}
use Rattle.run_laws.specs.State.{State}
use Rattle.run_laws.specs.StateActs.{start_act, act_at}
use Rattle.stripe_stamps.specs.Sealed.{Sealed}
use Rattle.call_steps.specs.CallOf.{CallOf, tries_by, act_of}
use Rattle.call_steps.specs.Steps.{at_directory_by, stepped_at_directory, at_server_by, stepped_at_server, coded, need_by, need_of, HoldsItsPass, IsDueInPass, MayMakeNext}
use Rattle.call_steps.specs.Acts.{act_by, act_now}
use Rattle.call_steps.specs.Hearing.{told_there_by, told_there, told_here_by, told_here}
use Rattle.client_patch.specs.Patches.{stamps_of_draw, stamps_by, stamps_drawn}
use Rattle.client_put.specs.Inside.{by_script}

acts_alike : (g : Shape) (s t : ℕ) (job : Job) (pairs : List (ℕ × ℕ)) (at : State) → job.note.kind ≡ Kind.Put → act_at g s job pairs at ≡ act_at g t job pairs at
acts_alike g s t job pairs State.Start put = ap (λ kind. start_act kind s job pairs) put ∙ ap (λ kind. start_act kind t job pairs) (sym put)
acts_alike g s t job pairs _ put = refl

module _ (c : CallOf) where
  directory_by : (act : Act) (short due : Bool) (d : Directory) → at_directory_by act short due (by_script c) d ≡ ((at_directory_by act short due c d).0, by_script (at_directory_by act short due c d).1)
  directory_by (Act.AtDirectory step) short due d = refl
  directory_by _ short due d = refl

  server_by : (act : Act) (short due : Bool) (s : Server) → at_server_by act short due (by_script c) s ≡ ((at_server_by act short due c s).0, by_script (at_server_by act short due c s).1)
  server_by (Act.AtServer server step) short due s = refl
  server_by _ short due s = refl

  draw_by : (token : ActorToken) (short : Bool) (s : Sealed) (written : Call) → stamps_of_draw token short s c written ≡ stamps_of_draw token short s (by_script c) written
  draw_by (ActorToken.Seated seat) short s written = refl
  draw_by (ActorToken.InCall held) short s written = refl

  drawn_by : (act : Act) (short : Bool) (s : Sealed) (written : Call) → stamps_by act short s c written ≡ stamps_by act short s (by_script c) written
  drawn_by (Act.AtDirectory DirectoryStep.Draw) short s written = draw_by c.token short s written
  drawn_by _ short s written = refl

  tells_by : (act : Act) (short : Bool) (d : Directory) → told_there_by act short c d ≡ told_there_by act short (by_script c) d
  tells_by (Act.AtDirectory step) short d = refl
  tells_by _ short d = refl

  -- a coding
  pub coded_so : (short : Bool) → by_script (coded short c) ≡ coded short (by_script c)
  coded_so true = refl
  coded_so false = refl

  module _ (put : c.job.note.kind ≡ Kind.Put) where
    same_act : act_of c ≡ act_of (by_script c)
    same_act = acts_alike c.book.geometry c.tries (tries_by c.book.script) c.job c.state.pairs c.state.at put

    -- what it needs
    pub needs_so : need_of c ≡ need_of (by_script c)
    needs_so = ap (λ act. need_by act c.due) same_act

    -- what it does next, and what it is told
    pub acts_so : act_now c ≡ act_now (by_script c)
    acts_so = ap (λ act. act_by act c.due) same_act

    pub there_so : (short : Bool) (d : Directory) → told_there short c d ≡ told_there short (by_script c) d
    there_so short d = tells_by (act_of c) short d ∙ ap (λ act. told_there_by act short (by_script c) d) same_act

    pub here_so : (short : Bool) (s : Server) → told_here short c s ≡ told_here short (by_script c) s
    here_so short s = ap (λ act. told_here_by act short s) same_act

    pub in_pass_so : IsDueInPass c → IsDueInPass (by_script c)
    in_pass_so h due = subst (λ act. IsTrue (is_in_pass act)) same_act (h due)

    pub holds_so : HoldsItsPass c → HoldsItsPass (by_script c)
    holds_so h = record { its = h.its; none = λ e. h.none (ap (λ act. need_by act false) same_act ∙ e) }

    pub may_so : MayMakeNext c → MayMakeNext (by_script c)
    may_so h step d e shape = h step d (same_act ∙ e) shape

    -- its steps
    pub directory_so : (short due : Bool) (d : Directory) → ((stepped_at_directory short due c d).0, by_script (stepped_at_directory short due c d).1) ≡ stepped_at_directory short due (by_script c) d
    directory_so short due d = sym (directory_by (act_of c) short due d) ∙ ap (λ act. at_directory_by act short due (by_script c) d) same_act

    pub server_so : (short due : Bool) (s : Server) → ((stepped_at_server short due c s).0, by_script (stepped_at_server short due c s).1) ≡ stepped_at_server short due (by_script c) s
    server_so short due s = sym (server_by (act_of c) short due s) ∙ ap (λ act. at_server_by act short due (by_script c) s) same_act

    pub stamps_so : (short : Bool) (s : Sealed) (written : Call) → stamps_drawn short s c written ≡ stamps_drawn short s (by_script c) written
    stamps_so short s written = drawn_by (act_of c) short s written ∙ ap (λ act. stamps_by act short s (by_script c) written) same_act

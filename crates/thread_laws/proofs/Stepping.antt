-- A client's step at the directory keeps what its call is owed.
use Rattle.std.proofs.Common.{◌≡◌, ℕ, Bool, List, [], ◌∷◌, ◌++◌, map, sym, ap, subst, ◌∙◌}
use Rattle.clay_grid.specs.Shape.{Shape}
use Rattle.store_map.specs.declared.script.Script.{Script}
use Rattle.store_core.specs.Act.{Act, DirectoryStep}
use Rattle.store_core.specs.AtDirectory.{at_directory}
use Rattle.store_core.specs.Content.{contents_by, contents_of}
use Rattle.store_core.specs.History.{call_of}
use Rattle.store_core.specs.Note.{Note}
use Rattle.store_core.specs.Read.{parts_of}
use Rattle.store_core.specs.Told.{Told}
use Rattle.store_core.specs.Tokens.{actor_of}
use Rattle.run_laws.specs.ReadLaws.{bytes_read}
use Rattle.thread_laws.specs.AtPlaces.{directory_act}
use Rattle.thread_laws.specs.MadeSteps.{MadeStep}
use Rattle.version_seal.specs.Entry.{StampOf}
use Rattle.stripe_stamps.specs.Sealed.{Sealed}
use Rattle.call_steps.specs.CallOf.{act_of}
use Rattle.call_machine.specs.Calls.{MachineOf}
use Rattle.call_machine.specs.OwesLaws.{LookIsOwed}
use Rattle.call_machine.proofs.Owing.{keeps_owing, owing_stays}
use Rattle.call_machine.proofs.Stamped.{contents_read}
use Rattle.thread_laws.specs.Owed.{directory_after, IsLook, WasOwed}
use Rattle.thread_laws.proofs.Owing.{owed_stay, looks_are_owed}
use Rattle.thread_laws.specs.StepOwes.{IsAfter, IsItsStep, StepsKeepOwing}

-- ---- the look
module _ (script : Script) (steps : List MadeStep) (m : MadeStep) (i number : ℕ) (short : Bool) (c : MachineOf) (d : Sealed) (is : IsAfter script steps d) (geometry : c.call.book.geometry ≡ script.geometry)
    (its : IsItsStep i number short c.call d m) where
  -- its answer is the directory's
  answer_is : (note : Note) → act_of c.call ≡ Act.AtDirectory (DirectoryStep.Look note) → (answer : Told) → (at_directory short (actor_of c.call.token) c.call.number (DirectoryStep.Look note) d.core).1 ≡ answer
      → m.answer ≡ answer
  answer_is note looks answer told =
      sym its.answers ∙ (λ k. (directory_act m ((its.act ∙ looks) k) d.core).1)
      ∙ (λ k. (at_directory (its.shortage k) ((its.by ∙ sym its.whose) k) ((its.of_call ∙ sym its.count) k) (DirectoryStep.Look note) d.core).1) ∙ told

  contents_are : map (λ (stamp : StampOf). stamp.content) d.stamps ≡ contents_of script (directory_after script steps).versions
  contents_are = is.contents ∙ (λ k. contents_by (is.shape k) (call_of script) (is.core k).versions)

  look_is_owed : LookIsOwed (WasOwed script (steps ++ m ∷ []) i number) short c d
  look_is_owed place length_now seen looks told =
      subst (WasOwed script (steps ++ m ∷ []) i number place)
      (ap (λ (g : Shape). bytes_read (map (λ (stamp : StampOf). stamp.content) d.stamps) (parts_of g c.call.job.note length_now seen)) (sym geometry)
      ∙ sym (contents_read d.stamps (parts_of c.call.book.geometry c.call.job.note length_now seen)))
      (looks_are_owed script steps m i number place look (map (λ (stamp : StampOf). stamp.content) d.stamps) contents_are)
    where
      look : IsLook i number place m
      look =
          record {
            by = its.by;
            of_call = its.of_call;
            note = c.call.job.note;
            act = its.act ∙ looks;
            length_now = length_now;
            seen = seen;
            told = answer_is c.call.job.note looks (Told.Pinned place length_now seen) told;
          }

pub steps_keep_owing : StepsKeepOwing
steps_keep_owing script steps m i number short due c after d is geometry its needs stepped written owed was =
    (keeps_owing (WasOwed script (steps ++ m ∷ []) i number)).directory short due c after d
    (owing_stays (WasOwed script steps i number) (WasOwed script (steps ++ m ∷ []) i number) (λ place bytes h. owed_stay script steps (m ∷ []) i number place bytes h) c was) needs stepped written owed
    (look_is_owed script steps m i number short c d is geometry its)

-- No call leaves out one of its steps.
use Rattle.std.proofs.Common.{◌≡◌, ℕ, Bool, true, false, cond, nat_lt, List, [], ◌∷◌, ◌++◌, length, map, fold, ◌⊎◌, inl, inr, refl, sym, ap, subst, ◌∙◌}
use Rattle.std.proofs.lemmas.Bool.{cond_both}
use Rattle.std.proofs.lemmas.List.{append_assoc}
use Rattle.clay_grid.specs.Shape.{Shape, chunk_count}
use Rattle.store_map.specs.declared.reply.Reply.{Reply}
use Rattle.store_map.specs.declared.reply.Reply.TheVariants as reply
use Rattle.store_core.specs.Lists.{places_of}
use Rattle.store_core.specs.Told.{Told, Seen}
use Rattle.store_core.specs.Note.{Note, Kind}
use Rattle.store_core.specs.Act.{Act, DirectoryStep, ServerStep, Outcome}
use Rattle.store_core.specs.GatheringParts.{ending}
use Rattle.store_core.specs.Put.{settling, committed, drawing, next_put}
use Rattle.store_core.specs.Read.{parts_of, next_read, next_single}
use Rattle.store_core.specs.Write.{old_parts, trying}
use Rattle.store_core.specs.Rebuild.{placing, installing, confirming, next_rebuild}
use Rattle.store_core.specs.NextAct.{Job}
use Rattle.run_laws.specs.OutcomeLaws.{MayBeServed}
use Rattle.run_laws.specs.Orders.{steps_since, ServedInOrder, ConfirmedInOrder, AnsweredByLook}
use Rattle.run_laws.specs.WriteOrders.{SettledInOrder}
use Rattle.run_laws.specs.OrderLaws.{CallsKeepOrder}
use Rattle.store_core.specs.Tell.{tell}
use Rattle.run_laws.specs.ToldInSteps.{HasStep, AreTold, act_after}
use Rattle.run_laws.proofs.Draws.{looked}
use Rattle.run_laws.proofs.Histories.{AreCalm, steps_by, steps_answers, AllGo, go_past, IsPast, ending_never, Parted, parted, Made, made}
use Rattle.run_laws.proofs.Replies.{IsReply, IsRepair, reply_rare, ending_not, drawing_not, gathering_not, settling_no_repair, trying_no_repair, no_repair_by}
use Rattle.run_laws.proofs.Stages.{CallStage, stage_act, Known, Ran, ran_now, prepared, ran}
use Rattle.run_laws.proofs.StepOutcomes.{outcomes_in_steps}

-- the answers are those of the steps
answers_of : (g : Shape) (tries : ℕ) (job : Job) (told answers : List Told) → map (λ (step : Act × Told). step.1) (steps_since g tries job told answers) ≡ answers
answers_of g tries job told [] = refl
answers_of g tries job told (answer ∷ more) = ap (λ l. answer ∷ l) (answers_of g tries job (tell g job told answer) more)

-- ---- parts of an act
abbrev point_in : Act → ℕ
point_in (Act.Finish (Outcome.Served point)) = point
point_in (Act.Finish (Outcome.Answered point given)) = point
point_in _ = 0

abbrev given_in : Act → Reply
given_in (Act.Finish (Outcome.Answered point given)) = given
given_in _ = reply.Done

abbrev server_in : Act → ℕ
server_in (Act.AtServer server step) = server
server_in (Act.AtDirectory (DirectoryStep.Repaired server epoch)) = server
server_in _ = 0

abbrev number_in : Act → ℕ
number_in (Act.AtServer server (ServerStep.Install version)) = version
number_in (Act.AtDirectory (DirectoryStep.Repaired server epoch)) = epoch
number_in _ = 0

-- ---- a get or a read
-- the end of its pass is its last answer
ended_last : (at point : ℕ) (rest : List Told) → AllGo (steps_by (ending (Outcome.Served at)) rest) → ending (Outcome.Served at) rest ≡ Act.Finish (Outcome.Served point)
    → (rest ≡ Told.Ended ∷ []) × (at ≡ point)
ended_last at point [] go e = absurd (subst IsPast (sym e) tt)
ended_last at point (Told.Ended ∷ []) go e = (refl, ap point_in e)
ended_last at point (Told.Ended ∷ answer ∷ more) go e = absurd go.1.0
ended_last at point (Told.Reaped reap ∷ rest) go e = absurd (subst IsPast (sym e) tt)
ended_last at point (_ ∷ rest) go e = absurd (ending_never Outcome.NoMemory (λ h. h) rest (subst IsPast (sym e) tt))

read_served : (g : Shape) (job : Job) (point : ℕ) (since : List Told) → AreCalm since → AllGo (steps_by (next_read g job.note) since)
    → next_read g job.note since ≡ Act.Finish (Outcome.Served point) → ServedInOrder g job point since
read_served g job point [] calm go e = absurd (subst IsPast (sym e) tt)
read_served g job point (Told.Answer at given ∷ since) calm go e = absurd (subst IsPast (sym e) tt)
read_served g job point (Told.Pinned at length_now stripes ∷ since) calm go e =
    let p : Parted g (ending (Outcome.Served at)) (parts_of g job.note length_now stripes) since =
    parted g (ending (Outcome.Served at)) (parts_of g job.note length_now stripes) since calm.1 (subst IsPast (sym e) tt) in
    let last : (p.rest ≡ Told.Ended ∷ []) × (at ≡ point) =
    ended_last at point p.rest (go_past p.front (steps_by (ending (Outcome.Served at)) p.rest) (subst AllGo p.steps go.1)) (sym p.act ∙ e) in
    record {
      length_now = length_now;
      stripes = stripes;
      gathered = p.gathered;
      answers_are =
          ap (λ n. Told.Pinned n length_now stripes ∷ since) last.1
          ∙ ap (λ l. Told.Pinned point length_now stripes ∷ l) (p.is ∙ ap (λ l. p.gathered ++ l) last.0);
      each = p.each;
    }
read_served g job point (_ ∷ since) calm go e = absurd (subst IsPast (sym e) tt)

-- ---- a rebuild
module _ (g : Shape) (seen : Seen) (target : ℕ) where
  IsInstall : Act → Type 0
  IsInstall (Act.AtServer server (ServerStep.Install version)) = Unit {0}
  IsInstall _ = ⊥

  IsRepaired : Act → Type 0
  IsRepaired (Act.AtDirectory (DirectoryStep.Repaired server epoch)) = Unit {0}
  IsRepaired _ = ⊥

  install_past : (act : Act) → IsInstall act → IsPast act
  unfolding IsInstall
  install_past (Act.AtServer server (ServerStep.Install version)) h = tt
  install_past act h = absurd h

  repaired_past : (act : Act) → IsRepaired act → IsPast act
  unfolding IsRepaired
  repaired_past (Act.AtDirectory (DirectoryStep.Repaired server epoch)) h = tt
  repaired_past act h = absurd h

  ending_none : (outcome : Outcome) → (IsPast (Act.Finish outcome) → ⊥) → (told : List Told) (act : Act) → ending outcome told ≡ act → IsPast act → ⊥
  ending_none outcome never told act e past = ending_never outcome never told (subst IsPast (sym e) past)

  placing_no_install : (epoch : ℕ) (told : List Told) → IsInstall (placing target epoch told) → ⊥
  unfolding IsInstall
  placing_no_install epoch [] h = h
  placing_no_install epoch (Told.Ended ∷ told) h = h
  placing_no_install epoch (Told.Reaped point ∷ told) h = h
  placing_no_install epoch (_ ∷ told) h = ending_never Outcome.NoMemory (λ k. k) told (install_past (ending Outcome.NoMemory told) h)

  installing_last : (server version : ℕ) (told : List Told) → installing seen target told ≡ Act.AtServer server (ServerStep.Install version)
      → (told ≡ []) × (target ≡ server) × (seen.version ≡ version)
  unfolding IsInstall
  installing_last server version [] e = (refl, ap server_in e, ap number_in e)
  installing_last server version (Told.Placed epoch ∷ told) e = absurd (placing_no_install epoch told (subst IsInstall (sym e) tt))
  installing_last server version (Told.AlreadyThere ∷ told) e = absurd (ending_none Outcome.Here (λ k. k) told (Act.AtServer server (ServerStep.Install version)) e tt)
  installing_last server version (Told.Away downs ∷ told) e = absurd (ending_none (Outcome.Away downs) (λ k. k) told (Act.AtServer server (ServerStep.Install version)) e tt)
  installing_last server version (_ ∷ told) e = absurd (ending_none Outcome.NoMemory (λ k. k) told (Act.AtServer server (ServerStep.Install version)) e tt)

  confirming_last : (server version : ℕ) (told : List Told) → confirming seen target told ≡ Act.AtServer server (ServerStep.Install version)
      → (told ≡ Told.Current ∷ []) × (target ≡ server) × (seen.version ≡ version)
  unfolding IsInstall
  confirming_last server version [] e = absurd (subst IsInstall (sym e) tt)
  confirming_last server version (Told.Current ∷ told) e =
      let last : (told ≡ []) × (target ≡ server) × (seen.version ≡ version) = installing_last server version told e in
      (ap (λ l. Told.Current ∷ l) last.0, last.1, last.2)
  confirming_last server version (Told.Superseded newer ∷ told) e = absurd (subst IsInstall (sym e) tt)
  confirming_last server version (Told.Reaped point ∷ told) e = absurd (subst IsInstall (sym e) tt)
  confirming_last server version (_ ∷ told) e = absurd (ending_none Outcome.NoMemory (λ k. k) told (Act.AtServer server (ServerStep.Install version)) e tt)

  placing_placed : (server epoch placed : ℕ) (told : List Told) → placing target placed told ≡ Act.AtDirectory (DirectoryStep.Repaired server epoch)
      → (told ≡ []) × (target ≡ server) × (placed ≡ epoch)
  unfolding IsRepaired
  placing_placed server epoch placed [] e = (refl, ap server_in e, ap number_in e)
  placing_placed server epoch placed (Told.Ended ∷ told) e = absurd (subst IsRepaired (sym e) tt)
  placing_placed server epoch placed (Told.Reaped point ∷ told) e = absurd (subst IsRepaired (sym e) tt)
  placing_placed server epoch placed (_ ∷ told) e = absurd (ending_none Outcome.NoMemory (λ k. k) told (Act.AtDirectory (DirectoryStep.Repaired server epoch)) e tt)

  installing_placed : (server epoch : ℕ) (told : List Told) → installing seen target told ≡ Act.AtDirectory (DirectoryStep.Repaired server epoch)
      → (told ≡ Told.Placed epoch ∷ []) × (target ≡ server)
  unfolding IsRepaired
  installing_placed server epoch [] e = absurd (subst IsRepaired (sym e) tt)
  installing_placed server epoch (Told.Placed placed ∷ told) e =
      let last : (told ≡ []) × (target ≡ server) × (placed ≡ epoch) = placing_placed server epoch placed told e in
      (ap (λ l. Told.Placed placed ∷ l) last.0 ∙ ap (λ n. Told.Placed n ∷ []) last.2, last.1)
  installing_placed server epoch (Told.AlreadyThere ∷ told) e = absurd (ending_none Outcome.Here (λ k. k) told (Act.AtDirectory (DirectoryStep.Repaired server epoch)) e tt)
  installing_placed server epoch (Told.Away downs ∷ told) e = absurd (ending_none (Outcome.Away downs) (λ k. k) told (Act.AtDirectory (DirectoryStep.Repaired server epoch)) e tt)
  installing_placed server epoch (_ ∷ told) e = absurd (ending_none Outcome.NoMemory (λ k. k) told (Act.AtDirectory (DirectoryStep.Repaired server epoch)) e tt)

  confirming_placed : (server epoch : ℕ) (told : List Told) → confirming seen target told ≡ Act.AtDirectory (DirectoryStep.Repaired server epoch)
      → (told ≡ Told.Current ∷ Told.Placed epoch ∷ []) × (target ≡ server)
  unfolding IsRepaired
  confirming_placed server epoch [] e = absurd (subst IsRepaired (sym e) tt)
  confirming_placed server epoch (Told.Current ∷ told) e =
      let last : (told ≡ Told.Placed epoch ∷ []) × (target ≡ server) = installing_placed server epoch told e in
      (ap (λ l. Told.Current ∷ l) last.0, last.1)
  confirming_placed server epoch (Told.Superseded newer ∷ told) e = absurd (subst IsRepaired (sym e) tt)
  confirming_placed server epoch (Told.Reaped point ∷ told) e = absurd (subst IsRepaired (sym e) tt)
  confirming_placed server epoch (_ ∷ told) e = absurd (ending_none Outcome.NoMemory (λ k. k) told (Act.AtDirectory (DirectoryStep.Repaired server epoch)) e tt)

-- ---- a rebuild that is done
IsRebuilt : Act → Type 0
IsRebuilt (Act.Finish Outcome.Rebuilt) = Unit {0}
IsRebuilt _ = ⊥

rebuilt_past : (act : Act) → IsRebuilt act → IsPast act
unfolding IsRebuilt
rebuilt_past (Act.Finish Outcome.Rebuilt) h = tt
rebuilt_past act h = absurd h

ending_unmade : (outcome : Outcome) → (IsPast (Act.Finish outcome) → ⊥) → (told : List Told) → IsRebuilt (ending outcome told) → ⊥
ending_unmade outcome never told h = ending_never outcome never told (rebuilt_past (ending outcome told) h)

module _ (seen : Seen) (target : ℕ) where
  placing_done : (epoch : ℕ) (told : List Told) → AllGo (steps_by (placing target epoch) told) → IsRebuilt (placing target epoch told) → told ≡ Told.Ended ∷ []
  unfolding IsRebuilt
  placing_done epoch [] go h = absurd h
  placing_done epoch (Told.Ended ∷ []) go h = refl
  placing_done epoch (Told.Ended ∷ answer ∷ more) go h = absurd go.1.0
  placing_done epoch (Told.Reaped point ∷ told) go h = absurd h
  placing_done epoch (_ ∷ told) go h = absurd (ending_unmade Outcome.NoMemory (λ k. k) told h)

  installing_done : (told : List Told) → AllGo (steps_by (installing seen target) told) → IsRebuilt (installing seen target told) → (epoch : ℕ) × (told ≡ Told.Placed epoch ∷ Told.Ended ∷ [])
  unfolding IsRebuilt
  installing_done [] go h = absurd h
  installing_done (Told.Placed epoch ∷ told) go h = (epoch, ap (λ l. Told.Placed epoch ∷ l) (placing_done epoch told go.1 h))
  installing_done (Told.AlreadyThere ∷ told) go h = absurd (ending_unmade Outcome.Here (λ k. k) told h)
  installing_done (Told.Away downs ∷ told) go h = absurd (ending_unmade (Outcome.Away downs) (λ k. k) told h)
  installing_done (_ ∷ told) go h = absurd (ending_unmade Outcome.NoMemory (λ k. k) told h)

  confirming_done : (told : List Told) → AllGo (steps_by (confirming seen target) told) → IsRebuilt (confirming seen target told) → (epoch : ℕ) × (told ≡ Told.Current ∷ Told.Placed epoch ∷ Told.Ended ∷ [])
  unfolding IsRebuilt
  confirming_done [] go h = absurd h
  confirming_done (Told.Current ∷ told) go h =
      let last : (epoch : ℕ) × (told ≡ Told.Placed epoch ∷ Told.Ended ∷ []) = installing_done told go.1 h in
      (last.0, ap (λ l. Told.Current ∷ l) last.1)
  confirming_done (Told.Superseded newer ∷ told) go h = absurd h
  confirming_done (Told.Reaped point ∷ told) go h = absurd h
  confirming_done (_ ∷ told) go h = absurd (ending_unmade Outcome.NoMemory (λ k. k) told h)

module _ (g : Shape) (job : Job) where
  rebuild_installs : (server version : ℕ) (since : List Told) → AreCalm since → next_rebuild g job.note job.target since ≡ Act.AtServer server (ServerStep.Install version)
      → (server ≡ job.target) × ConfirmedInOrder g job version since []
  rebuild_installs server version [] calm e = absurd (subst IsPast (sym e) tt)
  rebuild_installs server version (Told.NoSuch ∷ since) calm e = absurd (subst IsPast (sym e) tt)
  rebuild_installs server version (Told.PinnedStripe seen ∷ since) calm e =
      let m : Made g seen job.target since = made g seen job.target since calm.1 (subst IsPast (sym e) tt) in
      let last : (m.rest ≡ Told.Current ∷ []) × (job.target ≡ server) × (seen.version ≡ version) = confirming_last g seen job.target server version m.rest (sym m.act ∙ e) in (
        sym last.1,
        record {
          seen = seen;
          gathered = m.gathered;
          answers_are = ap (λ l. Told.PinnedStripe seen ∷ l) (m.is ∙ ap (λ l. m.gathered ++ l) last.0);
          comes_to = m.comes_to;
          of_version = last.2;
        },
      )
  rebuild_installs server version (_ ∷ since) calm e = absurd (subst IsPast (sym e) tt)

  rebuild_placed : (server epoch : ℕ) (since : List Told) → AreCalm since → next_rebuild g job.note job.target since ≡ Act.AtDirectory (DirectoryStep.Repaired server epoch)
      → (server ≡ job.target) × (version : ℕ) × ConfirmedInOrder g job version since (Told.Placed epoch ∷ [])
  rebuild_placed server epoch [] calm e = absurd (subst IsPast (sym e) tt)
  rebuild_placed server epoch (Told.NoSuch ∷ since) calm e = absurd (subst IsPast (sym e) tt)
  rebuild_placed server epoch (Told.PinnedStripe seen ∷ since) calm e =
      let m : Made g seen job.target since = made g seen job.target since calm.1 (subst IsPast (sym e) tt) in
      let last : (m.rest ≡ Told.Current ∷ Told.Placed epoch ∷ []) × (job.target ≡ server) = confirming_placed g seen job.target server epoch m.rest (sym m.act ∙ e) in (
        sym last.1,
        seen.version,
        record {
          seen = seen;
          gathered = m.gathered;
          answers_are = ap (λ l. Told.PinnedStripe seen ∷ l) (m.is ∙ ap (λ l. m.gathered ++ l) last.0);
          comes_to = m.comes_to;
          of_version = refl;
        },
      )
  rebuild_placed server epoch (_ ∷ since) calm e = absurd (subst IsPast (sym e) tt)

  rebuild_done : (since : List Told) → AreCalm since → AllGo (steps_by (next_rebuild g job.note job.target) since) → next_rebuild g job.note job.target since ≡ Act.Finish Outcome.Rebuilt
      → (version : ℕ) × (epoch : ℕ) × ConfirmedInOrder g job version since (Told.Placed epoch ∷ Told.Ended ∷ [])
  unfolding IsRebuilt
  rebuild_done [] calm go e = absurd (subst IsPast (sym e) tt)
  rebuild_done (Told.NoSuch ∷ since) calm go e = absurd (subst IsPast (sym e) tt)
  rebuild_done (Told.PinnedStripe seen ∷ since) calm go e =
      let m : Made g seen job.target since = made g seen job.target since calm.1 (subst IsPast (sym e) tt) in
      let last : (epoch : ℕ) × (m.rest ≡ Told.Current ∷ Told.Placed epoch ∷ Told.Ended ∷ []) =
      confirming_done seen job.target m.rest (go_past m.front (steps_by (confirming seen job.target) m.rest) (subst AllGo m.steps go.1)) (subst IsRebuilt (sym (sym m.act ∙ e)) tt) in (
        seen.version,
        last.0,
        record {
          seen = seen;
          gathered = m.gathered;
          answers_are = ap (λ l. Told.PinnedStripe seen ∷ l) (m.is ∙ ap (λ l. m.gathered ++ l) last.1);
          comes_to = m.comes_to;
          of_version = refl;
        },
      )
  rebuild_done (_ ∷ since) calm go e = absurd (subst IsPast (sym e) tt)

-- ---- an answer of the map
abbrev reply_told : Act → Told
reply_told (Act.Finish (Outcome.Answered point given)) = Told.Answer point given
reply_told _ = Told.Made

-- the last step is the look
abbrev LooksLast : Note → ℕ → Reply → List (Act × Told) → Type 0
LooksLast note point given steps = steps ≡ (Act.AtDirectory (DirectoryStep.Look note), Told.Answer point given) ∷ []

-- a stage begins with a look that may be answered at once
module _ (note : Note) (point : ℕ) (given : Reply) (next : List Told → Act) (looks : HasStep (next []) → next [] ≡ Act.AtDirectory (DirectoryStep.Look note))
    (answers : (at : ℕ) (reply : Reply) (more : List Told) → next (Told.Answer at reply ∷ more) ≡ Act.Finish (Outcome.Answered at reply)) where
  look_last : (at : ℕ) (first : Reply) (more : List Told) → AllGo (steps_by next (Told.Answer at first ∷ more)) → next (Told.Answer at first ∷ more) ≡ Act.Finish (Outcome.Answered point given)
      → LooksLast note point given (steps_by next (Told.Answer at first ∷ more))
  look_last at first [] go e =
      ap (λ act. (act, Told.Answer at first) ∷ []) (looks go.0)
      ∙ ap (λ act. (Act.AtDirectory (DirectoryStep.Look note), reply_told act) ∷ []) (sym (answers at first []) ∙ e)
  look_last at first (answer ∷ more) go e = absurd (subst HasStep (answers at first []) go.1.0)

module _ (g : Shape) (point : ℕ) (given : Reply) where
  abbrev replied : Act
  replied = Act.Finish (Outcome.Answered point given)

  committed_calm : (versions : List ℕ) (told : List Told) → AreCalm told → IsReply (committed g versions told) → ⊥
  committed_calm versions (Told.Done at ∷ told) calm h = calm.0
  committed_calm versions [] calm h = h
  committed_calm versions (_ ∷ told) calm h = h

  put_answered : (note : Note) (since : List Told) → AreCalm since → AllGo (steps_by (next_put g note) since) → next_put g note since ≡ replied
      → LooksLast note point given (steps_by (next_put g note) since)
  put_answered note [] calm go e = absurd (subst IsReply (sym e) tt)
  put_answered note (Told.Answer at first ∷ more) calm go e =
      look_last note point given (next_put g note) (λ _. refl) (λ at first more. refl) at first more go e
  put_answered note (Told.Ready base length_now stripes ∷ since) calm go e = absurd (drawing_not IsReply reply_rare g note since (subst IsReply (sym e) tt))
  put_answered note (Told.Versions versions ∷ since) calm go e = absurd (committed_calm versions since calm.1 (subst IsReply (sym e) tt))
  put_answered note (_ ∷ since) calm go e = absurd (subst IsReply (sym e) tt)

  read_answered : (note : Note) (since : List Told) → AllGo (steps_by (next_read g note) since) → next_read g note since ≡ replied
      → LooksLast note point given (steps_by (next_read g note) since)
  read_answered note [] go e = absurd (subst IsReply (sym e) tt)
  read_answered note (Told.Answer at first ∷ more) go e =
      look_last note point given (next_read g note) (λ _. refl) (λ at first more. refl) at first more go e
  read_answered note (Told.Pinned at length_now stripes ∷ since) go e =
      absurd
      (gathering_not IsReply reply_rare g (parts_of g note length_now stripes) (ending (Outcome.Served at)) (ending_not IsReply reply_rare (Outcome.Served at) (λ k. k)) since
      (subst IsReply (sym e) tt))
  read_answered note (_ ∷ since) go e = absurd (subst IsReply (sym e) tt)

  single_answered : (note : Note) (since : List Told) → AllGo (steps_by (next_single note) since) → next_single note since ≡ replied
      → LooksLast note point given (steps_by (next_single note) since)
  single_answered note [] go e = absurd (subst IsReply (sym e) tt)
  single_answered note (Told.Answer at first ∷ more) go e =
      look_last note point given (next_single note) (λ _. refl) (λ at first more. refl) at first more go e
  single_answered note (_ ∷ since) go e = absurd (subst IsReply (sym e) tt)

  tries_look : (note : Note) (pairs : List (ℕ × ℕ)) (b : Bool) → HasStep (cond b (Act.AtDirectory (DirectoryStep.Look note)) (Act.Finish (Outcome.Contended pairs)))
      → cond b (Act.AtDirectory (DirectoryStep.Look note)) (Act.Finish (Outcome.Contended pairs)) ≡ Act.AtDirectory (DirectoryStep.Look note)
  tries_look note pairs true h = refl
  tries_look note pairs false h = absurd h

  trying_answered : (tries : ℕ) (note : Note) (pairs : List (ℕ × ℕ)) (since : List Told) → AreCalm since → AllGo (steps_by (trying g tries note pairs) since)
      → trying g tries note pairs since ≡ replied → LooksLast note point given (steps_by (trying g tries note pairs) since)
  trying_answered tries note pairs [] calm go e =
      absurd
      (cond_both {A = Act} (nat_lt (length pairs) tries) (Act.AtDirectory (DirectoryStep.Look note)) (Act.Finish (Outcome.Contended pairs)) (λ act. IsReply act → ⊥)
      (λ _ k. k) (λ _ k. k) (subst IsReply (sym e) tt))
  trying_answered tries note pairs (Told.Changed base newer ∷ since) calm go e = absurd calm.0
  trying_answered tries note pairs (Told.Answer at first ∷ more) calm go e =
      look_last note point given (trying g tries note pairs) (tries_look note pairs (nat_lt (length pairs) tries)) (λ at first more. refl) at first more go e
  trying_answered tries note pairs (Told.Ready base length_now stripes ∷ since) calm go e =
      absurd (gathering_not IsReply reply_rare g (old_parts g length_now stripes) (drawing g note) (drawing_not IsReply reply_rare g note) since (subst IsReply (sym e) tt))
  trying_answered tries note pairs (Told.Versions versions ∷ since) calm go e = absurd (committed_calm versions since calm.1 (subst IsReply (sym e) tt))
  trying_answered tries note pairs (_ ∷ since) calm go e = absurd (subst IsReply (sym e) tt)

  -- ---- the settles
  settles_all : (at : ℕ) (places : List (ℕ × ℕ)) (since : List Told) → AllGo (steps_by (settling at places) since) → settling at places since ≡ replied
      → map (λ (step : Act × Told). step.0) (steps_by (settling at places) since) ≡ map (λ (place : ℕ × ℕ). Act.AtServer place.0 (ServerStep.Settle place.1)) places
  settles_all at [] [] go e = refl
  settles_all at [] (answer ∷ more) go e = absurd go.0
  settles_all at (place ∷ places) [] go e = absurd (subst IsReply (sym e) tt)
  settles_all at (place ∷ places) (_ ∷ since) go e = ap (λ l. Act.AtServer place.0 (ServerStep.Settle place.1) ∷ l) (settles_all at places since go.1 e)

  settles_reply : (at : ℕ) (places : List (ℕ × ℕ)) (since : List Told) → settling at places since ≡ replied → (at ≡ point) × (given ≡ reply.Done)
  settles_reply at [] since e = (ap point_in e, sym (ap given_in e))
  settles_reply at (place ∷ places) [] e = absurd (subst IsReply (sym e) tt)
  settles_reply at (place ∷ places) (_ ∷ since) e = settles_reply at places since e

-- ---- a call of any kind
get_is_no_write : Kind.Get ≡ Kind.Write → ⊥
get_is_no_write e = cc

read_is_no_write : Kind.ReadAt ≡ Kind.Write → ⊥
read_is_no_write e = cc

rebuild_is_no_write : Kind.Rebuild ≡ Kind.Write → ⊥
rebuild_is_no_write e = cc

module _ (g : Shape) (tries : ℕ) (job : Job) where
  abbrev acts : Kind → CallStage → List Told → Act
  acts kind stage = stage_act g tries job kind stage

  stage_served : (kind : Kind) → MayBeServed kind → (stage : CallStage) (before : List (Act × Told)) → Known g tries job kind stage before → (point : ℕ) (since : List Told) → AreCalm since
      → AllGo (steps_by (acts kind stage) since) → acts kind stage since ≡ Act.Finish (Outcome.Served point) → (before ≡ []) × ServedInOrder g job point since
  stage_served Kind.Get may CallStage.First before known point since calm go e = (known, read_served g job point since calm go e)
  stage_served Kind.ReadAt may CallStage.First before known point since calm go e = (known, read_served g job point since calm go e)
  stage_served Kind.Get may (CallStage.Again pairs) before known point since calm go e = absurd (get_is_no_write known)
  stage_served Kind.ReadAt may (CallStage.Again pairs) before known point since calm go e = absurd (read_is_no_write known)
  stage_served Kind.Get may (CallStage.Settling at versions) before known point since calm go e = absurd known.writes
  stage_served Kind.ReadAt may (CallStage.Settling at versions) before known point since calm go e = absurd known.writes
  stage_served kind may stage before known point since calm go e = absurd may

  -- the kind of a call that makes a rebuild's last steps, and its stage
  repairs : (kind : Kind) (stage : CallStage) (before : List (Act × Told)) → Known g tries job kind stage before → (since : List Told) → IsRepair (acts kind stage since)
      → (kind ≡ Kind.Rebuild) × (before ≡ []) × ((act : Act) → acts kind stage since ≡ act → next_rebuild g job.note job.target since ≡ act)
  repairs Kind.Rebuild CallStage.First before known since h = (refl, known, λ act e. e)
  repairs Kind.Put CallStage.First before known since h = absurd (no_repair_by g Kind.Put (λ e. cc) tries job since h)
  repairs Kind.Write CallStage.First before known since h = absurd (no_repair_by g Kind.Write (λ e. cc) tries job since h)
  repairs Kind.Get CallStage.First before known since h = absurd (no_repair_by g Kind.Get (λ e. cc) tries job since h)
  repairs Kind.ReadAt CallStage.First before known since h = absurd (no_repair_by g Kind.ReadAt (λ e. cc) tries job since h)
  repairs Kind.Stat CallStage.First before known since h = absurd (no_repair_by g Kind.Stat (λ e. cc) tries job since h)
  repairs Kind.Delete CallStage.First before known since h = absurd (no_repair_by g Kind.Delete (λ e. cc) tries job since h)
  repairs kind (CallStage.Again pairs) before known since h = absurd (trying_no_repair g tries job.note pairs since h)
  repairs kind (CallStage.Settling at versions) before known since h = absurd (settling_no_repair at (places_of (chunk_count g) versions) since h)

  -- a rebuild has one stage
  first_alone : (stage : CallStage) (before : List (Act × Told)) → Known g tries job Kind.Rebuild stage before → (stage ≡ CallStage.First) × (before ≡ [])
  first_alone CallStage.First before known = (refl, known)
  first_alone (CallStage.Again pairs) before known = absurd (rebuild_is_no_write known)
  first_alone (CallStage.Settling at versions) before known = absurd known.writes

  module _ (point : ℕ) (given : Reply) where
    abbrev reply_act : Act
    reply_act = Act.Finish (Outcome.Answered point given)

    -- the steps of the stage that answers, after those before it
    stage_answered : (kind : Kind) → (kind ≡ Kind.Rebuild → ⊥) → (stage : CallStage) (before : List (Act × Told)) → Known g tries job kind stage before → (since : List Told) → AreCalm since
        → AllGo (steps_by (acts kind stage) since) → acts kind stage since ≡ reply_act
        → AnsweredByLook job point given (before ++ steps_by (acts kind stage) since) ⊎ ((given ≡ reply.Done) × SettledInOrder g point (before ++ steps_by (acts kind stage) since))
    stage_answered Kind.Put other CallStage.First before known since calm go e =
        inl (record { before = before; steps_are = ap (λ s. before ++ s) (put_answered g point given job.note since calm go e) })
    stage_answered Kind.Write other CallStage.First before known since calm go e =
        inl (record { before = before; steps_are = ap (λ s. before ++ s) (trying_answered g point given tries job.note [] since calm go e) })
    stage_answered Kind.Get other CallStage.First before known since calm go e =
        inl (record { before = before; steps_are = ap (λ s. before ++ s) (read_answered g point given job.note since go e) })
    stage_answered Kind.ReadAt other CallStage.First before known since calm go e =
        inl (record { before = before; steps_are = ap (λ s. before ++ s) (read_answered g point given job.note since go e) })
    stage_answered Kind.Stat other CallStage.First before known since calm go e =
        inl (record { before = before; steps_are = ap (λ s. before ++ s) (single_answered g point given job.note since go e) })
    stage_answered Kind.Delete other CallStage.First before known since calm go e =
        inl (record { before = before; steps_are = ap (λ s. before ++ s) (single_answered g point given job.note since go e) })
    stage_answered Kind.Rebuild other CallStage.First before known since calm go e = absurd (other refl)
    stage_answered kind other (CallStage.Again pairs) before known since calm go e =
        inl (record { before = before; steps_are = ap (λ s. before ++ s) (trying_answered g point given tries job.note pairs since calm go e) })
    stage_answered kind other (CallStage.Settling at versions) before known since calm go e =
        let places : List (ℕ × ℕ) = places_of (chunk_count g) versions in
        let settles : List (Act × Told) = steps_by (settling at (places_of (chunk_count g) versions)) since in
        let reply : (at ≡ point) × (given ≡ reply.Done) = settles_reply g point given at (places_of (chunk_count g) versions) since e in
        inr (
          reply.1,
          record {
            placed = known.placed;
            front = known.front;
            settles = settles;
            prepared = known.prepared;
            settled =
                settles_all g point given at (places_of (chunk_count g) versions) since go e
                ∙ ap (λ v. map (λ (place : ℕ × ℕ). Act.AtServer place.0 (ServerStep.Settle place.1)) (places_of (chunk_count g) v)) (sym known.same);
            steps_are =
                ap (λ s. s ++ settles) known.is
                ∙ append_assoc known.front ((Act.AtDirectory (DirectoryStep.Commit known.placed), Told.Done at) ∷ []) settles
                ∙ ap (λ n. known.front ++ (Act.AtDirectory (DirectoryStep.Commit known.placed), Told.Done n) ∷ settles) reply.0;
          },
        )

-- ---- the laws
module _ (g : Shape) (max tries : ℕ) (job : Job) (answers : List Told) (are_told : AreTold g max tries job answers) where
  abbrev kept : List Told
  kept = fold (tell g job) [] answers

  abbrev history : List (Act × Told)
  history = steps_since g tries job [] answers

  ran_all : Ran g tries job job.note.kind kept history
  ran_all = ran g max tries job answers are_told

  module _ (r : Ran g tries job job.note.kind kept history) where
    abbrev now : List Told → Act
    now = stage_act g tries job job.note.kind r.stage

    now_is : act_after g tries job answers ≡ now r.since
    now_is = ran_now g tries job job.note.kind kept history r

    all_since : r.before ≡ [] → r.since ≡ answers
    all_since none =
        sym (steps_answers now r.since)
        ∙ ap (λ b. map (λ (step : Act × Told). step.1) (b ++ steps_by now r.since)) (sym none)
        ∙ ap (map (λ (step : Act × Told). step.1)) (sym r.is)
        ∙ answers_of g tries job [] answers

    going_since : AllGo (steps_by now r.since)
    going_since = go_past r.before (steps_by now r.since) (subst AllGo r.is r.going)

    served : (point : ℕ) → act_after g tries job answers ≡ Act.Finish (Outcome.Served point) → ServedInOrder g job point answers
    served point e =
        let both : (r.before ≡ []) × ServedInOrder g job point r.since =
        stage_served g tries job job.note.kind ((outcomes_in_steps g max tries job).kinds kept (Outcome.Served point) e) r.stage r.before r.known point r.since r.calm going_since
        (sym now_is ∙ e) in
        subst (ServedInOrder g job point) (all_since both.0) both.1

    installs : (server version : ℕ) → act_after g tries job answers ≡ Act.AtServer server (ServerStep.Install version)
        → (job.note.kind ≡ Kind.Rebuild) × (server ≡ job.target) × ConfirmedInOrder g job version answers []
    installs server version e =
        let here : now r.since ≡ Act.AtServer server (ServerStep.Install version) = sym now_is ∙ e in
        let facts : (job.note.kind ≡ Kind.Rebuild) × (r.before ≡ []) × ((act : Act) → now r.since ≡ act → next_rebuild g job.note job.target r.since ≡ act) =
        repairs g tries job job.note.kind r.stage r.before r.known r.since (subst IsRepair (sym here) tt) in
        let both : (server ≡ job.target) × ConfirmedInOrder g job version r.since [] =
        rebuild_installs g job server version r.since r.calm (facts.2 (Act.AtServer server (ServerStep.Install version)) here) in
        (facts.0, both.0, subst (λ l. ConfirmedInOrder g job version l []) (all_since facts.1) both.1)

    says_placed : (server epoch : ℕ) → act_after g tries job answers ≡ Act.AtDirectory (DirectoryStep.Repaired server epoch)
        → (job.note.kind ≡ Kind.Rebuild) × (server ≡ job.target) × (version : ℕ) × ConfirmedInOrder g job version answers (Told.Placed epoch ∷ [])
    says_placed server epoch e =
        let here : now r.since ≡ Act.AtDirectory (DirectoryStep.Repaired server epoch) = sym now_is ∙ e in
        let facts : (job.note.kind ≡ Kind.Rebuild) × (r.before ≡ []) × ((act : Act) → now r.since ≡ act → next_rebuild g job.note job.target r.since ≡ act) =
        repairs g tries job job.note.kind r.stage r.before r.known r.since (subst IsRepair (sym here) tt) in
        let all : (server ≡ job.target) × (version : ℕ) × ConfirmedInOrder g job version r.since (Told.Placed epoch ∷ []) =
        rebuild_placed g job server epoch r.since r.calm (facts.2 (Act.AtDirectory (DirectoryStep.Repaired server epoch)) here) in
        (facts.0, all.0, all.1, subst (λ l. ConfirmedInOrder g job all.1 l (Told.Placed epoch ∷ [])) (all_since facts.1) all.2)

    rebuilt : act_after g tries job answers ≡ Act.Finish Outcome.Rebuilt
        → (job.note.kind ≡ Kind.Rebuild) × (version : ℕ) × (epoch : ℕ) × ConfirmedInOrder g job version answers (Told.Placed epoch ∷ Told.Ended ∷ [])
    rebuilt e =
        let kind : job.note.kind ≡ Kind.Rebuild = (outcomes_in_steps g max tries job).kinds kept Outcome.Rebuilt e in
        let first : (r.stage ≡ CallStage.First) × (r.before ≡ []) = first_alone g tries job r.stage r.before (subst (λ k. Known g tries job k r.stage r.before) kind r.known) in
        let next : stage_act g tries job job.note.kind r.stage ≡ next_rebuild g job.note job.target =
        ap (λ k. stage_act g tries job k r.stage) kind ∙ ap (stage_act g tries job Kind.Rebuild) first.0 in
        let all : (version : ℕ) × (epoch : ℕ) × ConfirmedInOrder g job version r.since (Told.Placed epoch ∷ Told.Ended ∷ []) =
        rebuild_done g job r.since r.calm (subst (λ (f : List Told → Act). AllGo (steps_by f r.since)) next going_since)
        (sym (ap (λ (f : List Told → Act). f r.since) next) ∙ sym now_is ∙ e) in
        (kind, all.0, all.1, subst (λ l. ConfirmedInOrder g job all.0 l (Told.Placed all.1 ∷ Told.Ended ∷ [])) (all_since first.1) all.2)

    answered : (point : ℕ) (given : Reply) → act_after g tries job answers ≡ Act.Finish (Outcome.Answered point given)
        → AnsweredByLook job point given history ⊎ ((given ≡ reply.Done) × SettledInOrder g point history)
    answered point given e =
        subst (λ s. AnsweredByLook job point given s ⊎ ((given ≡ reply.Done) × SettledInOrder g point s)) (sym r.is)
        (stage_answered g tries job point given job.note.kind ((outcomes_in_steps g max tries job).kinds kept (Outcome.Answered point given) e) r.stage r.before r.known r.since r.calm
        going_since (sym now_is ∙ e))

pub calls_keep_order : (g : Shape) (max tries : ℕ) (job : Job) → CallsKeepOrder g max tries job
calls_keep_order g max tries job =
    record {
      served = λ answers point told e. served g max tries job answers told (ran_all g max tries job answers told) point e;
      installs = λ answers server version told e. installs g max tries job answers told (ran_all g max tries job answers told) server version e;
      says_placed = λ answers server epoch told e. says_placed g max tries job answers told (ran_all g max tries job answers told) server epoch e;
      rebuilt = λ answers told e. rebuilt g max tries job answers told (ran_all g max tries job answers told) e;
      draws = λ answers told e.
          looked g tries job (fold (tell g job) [] answers) (steps_since g tries job [] answers) (ran_all g max tries job answers told) e;
      commits = λ answers placed told e.
          (prepared g tries job job.note.kind (fold (tell g job) [] answers) (steps_since g tries job [] answers) (ran_all g max tries job answers told) placed e).0;
      answered = λ answers point given told e. answered g max tries job answers told (ran_all g max tries job answers told) point given e;
    }

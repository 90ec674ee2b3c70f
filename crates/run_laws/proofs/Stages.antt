-- The stages of a call that is told its answers step by step: its first try, a later try of a write, the settles after a commit.
use Rattle.std.proofs.Common.{◌≡◌, ℕ, List, [], ◌∷◌, ◌++◌, filter, fold, refl, sym, ap, subst, ◌∙◌}
use Rattle.std.proofs.lemmas.List.{append_assoc, append-nil}
use Rattle.clay_grid.specs.Shape.{Shape, chunk_count}
use Rattle.store_map.specs.declared.placement.Placement.{Placement}
use Rattle.store_core.specs.Lists.{places_of}
use Rattle.store_core.specs.Told.{Told}
use Rattle.store_core.specs.Note.{Note, Kind}
use Rattle.store_core.specs.Act.{Act, DirectoryStep}
use Rattle.run_laws.specs.AnswersByKind.{MayWrite}
use Rattle.store_core.specs.Bounds.{touched_count}
use Rattle.run_laws.specs.CallLeft.{pin_bound}
use Rattle.run_laws.specs.CauseLaws.{changes_of}
use Rattle.store_core.specs.Gathering.{Gathering, Part}
use Rattle.store_core.specs.GatheringParts.{gather_part, gather_chunk}
use Rattle.store_core.specs.Read.{parts_of}
use Rattle.store_core.specs.NextAct.{Job, next_by, next_act}
use Rattle.run_laws.specs.Orders.{steps_since}
use Rattle.run_laws.specs.WriteOrders.{PreparedInOrder, prepares}
use Rattle.store_core.specs.Put.{settling, next_put}
use Rattle.store_core.specs.Write.{old_parts, trying}
use Rattle.store_core.specs.Tell.{in_one, cut_parts, cut_read, cut_write, cut_rebuild, cut_by, is_versions, is_changed, tell}
use Rattle.run_laws.specs.ToldInSteps.{HasStep, IsToldNext, AreToldSince, AreTold}
use Rattle.run_laws.proofs.Falls.{IsKept, AtCommit, done_at_commit, single_no_commit, settling_no_commit}
use Rattle.run_laws.proofs.Filters.{KeepsMarks, part_keeps, chunk_keeps}
use Rattle.run_laws.proofs.GatheringFalls.{IsPlain, is_plain, read_no_commit}
use Rattle.run_laws.proofs.Histories.{IsCalm, AreCalm, calm_plain, calm_append, steps_by, steps_append, AllGo, go_more}
use Rattle.run_laws.proofs.InSteps.{ArePlain, cut_plain, tried_then, answer_has_step}
use Rattle.run_laws.proofs.Prepares.{Drawn, put_drawn, trying_drawn}
use Rattle.run_laws.proofs.RebuildFalls.{rebuild_no_commit}

-- ---- the versions among what is kept
one_marks : (since : List Told → List Told) → ((told : List Told) → filter is_versions (since told) ≡ filter is_versions told) → (told : List Told) (result : Gathering) → KeepsMarks told result
    → filter is_versions (in_one since result told) ≡ filter is_versions told
one_marks since same told (Gathering.HasBytes rest) keeps = same rest ∙ sym keeps.0
one_marks since same told result keeps = refl

parts_marks : (g : Shape) (parts : List Part) (told : List Told) → filter is_versions (cut_parts g parts told) ≡ filter is_versions told
parts_marks g [] told = refl
parts_marks g (part ∷ parts) (Told.Gathered ∷ told) = parts_marks g parts told
parts_marks g (part ∷ parts) told = one_marks (cut_parts g parts) (parts_marks g parts) told (gather_part g part told) (part_keeps g part told)

read_marks : (g : Shape) (note : Note) (told : List Told) → filter is_versions (cut_read g note told) ≡ filter is_versions told
read_marks g note (Told.Pinned point length_now stripes ∷ told) = parts_marks g (parts_of g note length_now stripes) told
read_marks g note told = refl

write_marks : (g : Shape) (told : List Told) → filter is_versions (cut_write g told) ≡ filter is_versions told
write_marks g (Told.Changed base newer ∷ told) = write_marks g told
write_marks g (Told.Ready base length_now stripes ∷ told) = parts_marks g (old_parts g length_now stripes) told
write_marks g told = refl

rebuild_marks : (g : Shape) (target : ℕ) (told : List Told) → filter is_versions (cut_rebuild g target told) ≡ filter is_versions told
rebuild_marks g target (Told.PinnedStripe seen ∷ Told.Gathered ∷ told) = refl
rebuild_marks g target (Told.PinnedStripe seen ∷ []) = one_marks (λ rest. rest) (λ rest. refl) [] (gather_chunk g seen target []) (chunk_keeps g seen target [])
rebuild_marks g target (Told.PinnedStripe seen ∷ answer ∷ told) =
    one_marks (λ rest. rest) (λ rest. refl) (answer ∷ told) (gather_chunk g seen target (answer ∷ told)) (chunk_keeps g seen target (answer ∷ told))
rebuild_marks g target told = refl

cut_marks : (kind : Kind) (g : Shape) (job : Job) (told : List Told) → filter is_versions (cut_by kind g job told) ≡ filter is_versions told
cut_marks Kind.Put g job told = refl
cut_marks Kind.Write g job told = write_marks g told
cut_marks Kind.Get g job told = read_marks g job.note told
cut_marks Kind.ReadAt g job told = read_marks g job.note told
cut_marks Kind.Stat g job told = refl
cut_marks Kind.Delete g job told = refl
cut_marks Kind.Rebuild g job told = rebuild_marks g job.target told

marks_append : (told more : List Told) → filter is_versions (told ++ more) ≡ filter is_versions told ++ filter is_versions more
marks_append [] more = refl
marks_append (Told.Versions versions ∷ told) more = ap (λ l. Told.Versions versions ∷ l) (marks_append told more)
marks_append (_ ∷ told) more = marks_append told more

none_marked : (told : List Told) (base newer : ℕ) → filter is_versions (filter is_changed told ++ Told.Changed base newer ∷ []) ≡ []
none_marked [] base newer = refl
none_marked (Told.Changed old new ∷ told) base newer = none_marked told base newer
none_marked (_ ∷ told) base newer = none_marked told base newer

-- ---- stages
pub data CallStage : Type 0 where
  First : CallStage
  Again : (pairs : List (ℕ × ℕ)) → CallStage
  Settling : (point : ℕ) (versions : List ℕ) → CallStage

-- what is kept of the versions from before the stage
abbrev kept_versions : CallStage → List Told
kept_versions CallStage.First = []
kept_versions (CallStage.Again pairs) = []
kept_versions (CallStage.Settling point versions) = Told.Versions versions ∷ []

calm_of : (answer : Told) → IsPlain answer → IsKept answer → IsCalm answer
calm_of Told.Gathered plain kept = plain
calm_of (Told.Done point) plain kept = kept
calm_of (Told.Changed base newer) plain kept = kept
calm_of answer plain kept = tt

-- the act at a commit
committed_rows : (act : Act) → AtCommit act → (placed : List (List Placement)) × (act ≡ Act.AtDirectory (DirectoryStep.Commit placed))
committed_rows (Act.AtDirectory (DirectoryStep.Commit placed)) h = (placed, refl)
committed_rows act h = absurd h

module _ (g : Shape) (tries : ℕ) (job : Job) where
  abbrev pub stage_act : Kind → CallStage → List Told → Act
  stage_act kind CallStage.First = next_by kind g tries job
  stage_act kind (CallStage.Again pairs) = trying g tries job.note pairs
  stage_act kind (CallStage.Settling point versions) = settling point (places_of (chunk_count g) versions)

  -- before the settles the call has prepared and committed
  pub record HasCommitted (kind : Kind) (point : ℕ) (versions : List ℕ) (before : List (Act × Told)) : Type 0 where
    pub writes : MayWrite kind
    pub placed : List (List Placement)
    pub front : List (Act × Told)
    pub prepared : PreparedInOrder g placed front
    pub same : prepared.versions ≡ versions
    pub is : before ≡ front ++ (Act.AtDirectory (DirectoryStep.Commit placed), Told.Done point) ∷ []

  -- what is known of the steps before a stage
  abbrev pub Known : Kind → CallStage → List (Act × Told) → Type 0
  Known kind CallStage.First before = before ≡ []
  Known kind (CallStage.Again pairs) before = kind ≡ Kind.Write
  Known kind (CallStage.Settling point versions) before = HasCommitted kind point versions before

  -- what is kept of the answers to a call stands for those since a stage began; and the steps so far
  pub record Ran (kind : Kind) (told : List Told) (history : List (Act × Told)) : Type 0 where
    pub stage : CallStage
    pub before : List (Act × Told)
    pub since : List Told
    pub calm : AreCalm since
    pub same : (more : List Told) → ArePlain more → next_by kind g tries job (told ++ more) ≡ stage_act kind stage (since ++ more)
    pub is : history ≡ before ++ steps_by (stage_act kind stage) since
    pub known : Known kind stage before
    pub marks : filter is_versions told ≡ kept_versions stage ++ filter is_versions since
    pub going : AllGo history

  pub ran_now : (kind : Kind) (told : List Told) (history : List (Act × Told)) (ran : Ran kind told history) → next_by kind g tries job told ≡ stage_act kind ran.stage ran.since
  ran_now kind told history ran =
      ap (next_by kind g tries job) (sym (append-nil told)) ∙ ran.same [] tt ∙ ap (stage_act kind ran.stage) (append-nil ran.since)

  -- ---- at a commit
  stage_drawn : (kind : Kind) (stage : CallStage) (placed : List (List Placement)) (since : List Told) → AreCalm since → stage_act kind stage since ≡ Act.AtDirectory (DirectoryStep.Commit placed)
      → Drawn g (stage_act kind stage) placed since × (kept_versions stage ≡ [])
  stage_drawn Kind.Put CallStage.First placed since calm e = (put_drawn g job.note placed since e, refl)
  stage_drawn Kind.Write CallStage.First placed since calm e = (trying_drawn g tries job.note [] placed since calm e, refl)
  stage_drawn Kind.Get CallStage.First placed since calm e = absurd (read_no_commit g job.note since (subst AtCommit (sym e) tt))
  stage_drawn Kind.ReadAt CallStage.First placed since calm e = absurd (read_no_commit g job.note since (subst AtCommit (sym e) tt))
  stage_drawn Kind.Stat CallStage.First placed since calm e = absurd (single_no_commit job.note since (subst AtCommit (sym e) tt))
  stage_drawn Kind.Delete CallStage.First placed since calm e = absurd (single_no_commit job.note since (subst AtCommit (sym e) tt))
  stage_drawn Kind.Rebuild CallStage.First placed since calm e = absurd (rebuild_no_commit g job.note job.target since (subst AtCommit (sym e) tt))
  stage_drawn kind (CallStage.Again pairs) placed since calm e = (trying_drawn g tries job.note pairs placed since calm e, refl)
  stage_drawn kind (CallStage.Settling point versions) placed since calm e =
      absurd (settling_no_commit point (places_of (chunk_count g) versions) since (subst AtCommit (sym e) tt))

  pub prepared : (kind : Kind) (told : List Told) (history : List (Act × Told)) (ran : Ran kind told history) (placed : List (List Placement))
      → next_by kind g tries job told ≡ Act.AtDirectory (DirectoryStep.Commit placed)
      → (p : PreparedInOrder g placed history) × (filter is_versions told ≡ Told.Versions p.versions ∷ [])
  prepared kind told history ran placed e =
      let both : Drawn g (stage_act kind ran.stage) placed ran.since × (kept_versions ran.stage ≡ []) =
      stage_drawn kind ran.stage placed ran.since ran.calm (sym (ran_now kind told history ran) ∙ e) in
      let d : Drawn g (stage_act kind ran.stage) placed ran.since = both.0 in (
        record {
          before = ran.before ++ d.front;
          versions = d.versions;
          count = d.count;
          rows = d.rows;
          steps_are =
              ran.is ∙ ap (λ s. ran.before ++ s) d.steps
              ∙ sym (append_assoc ran.before d.front ((Act.AtDirectory DirectoryStep.Draw, Told.Versions d.versions) ∷ prepares g d.versions placed));
        },
        ran.marks ∙ ap (λ l. l ++ filter is_versions ran.since) both.1 ∙ d.marks,
      )

  -- only a put and a write commit
  commits_writing : (kind : Kind) (told : List Told) → AtCommit (next_by kind g tries job told) → MayWrite kind
  commits_writing Kind.Put told h = tt
  commits_writing Kind.Write told h = tt
  commits_writing Kind.Get told h = read_no_commit g job.note told h
  commits_writing Kind.ReadAt told h = read_no_commit g job.note told h
  commits_writing Kind.Stat told h = single_no_commit job.note told h
  commits_writing Kind.Delete told h = single_no_commit job.note told h
  commits_writing Kind.Rebuild told h = rebuild_no_commit g job.note job.target told h

  settles_as : (kind : Kind) → MayWrite kind → (kept : List Told) (versions : List ℕ) (point : ℕ) → kept ≡ Told.Versions versions ∷ [] → (more : List Told)
      → next_by kind g tries job ((kept ++ Told.Done point ∷ []) ++ more) ≡ settling point (places_of (chunk_count g) versions) more
  settles_as Kind.Put writes kept versions point e more = ap (λ l. next_put g job.note ((l ++ Told.Done point ∷ []) ++ more)) e
  settles_as Kind.Write writes kept versions point e more = ap (λ l. trying g tries job.note [] ((l ++ Told.Done point ∷ []) ++ more)) e
  settles_as kind writes kept versions point e more = absurd writes

  -- ---- one answer
  abbrev this : Kind
  this = job.note.kind

  abbrev act_now : List Told → Act
  act_now told = next_act g tries job told

  ran_on : (told : List Told) (history : List (Act × Told)) (answer : Told) → IsCalm answer → HasStep (act_now told) → Ran this told history
      → Ran this (cut_by this g job (told ++ answer ∷ [])) (history ++ (act_now told, answer) ∷ [])
  ran_on told history answer calm step ran =
      let f : List Told → Act = stage_act this ran.stage in
      let now : act_now told ≡ f ran.since = ran_now this told history ran in
      record {
        stage = ran.stage;
        before = ran.before;
        since = ran.since ++ answer ∷ [];
        calm = calm_append ran.since (answer ∷ []) ran.calm (calm, tt);
        same = λ more plain.
            cut_plain 0 0 g tries job (told ++ answer ∷ []) more plain
            ∙ ap (act_now) (append_assoc told (answer ∷ []) more)
            ∙ ran.same (answer ∷ more) (calm_plain answer calm)
            ∙ ap f (sym (append_assoc ran.since (answer ∷ []) more));
        is =
            ap (λ h. h ++ (act_now told, answer) ∷ []) ran.is
            ∙ append_assoc ran.before (steps_by f ran.since) ((act_now told, answer) ∷ [])
            ∙ ap (λ act. ran.before ++ (steps_by f ran.since ++ (act, answer) ∷ [])) (now ∙ ap f (sym (append-nil ran.since)))
            ∙ ap (λ s. ran.before ++ s) (sym (steps_append f ran.since (answer ∷ [])));
        known = ran.known;
        marks =
            cut_marks this g job (told ++ answer ∷ [])
            ∙ marks_append told (answer ∷ [])
            ∙ ap (λ l. l ++ filter is_versions (answer ∷ [])) ran.marks
            ∙ append_assoc (kept_versions ran.stage) (filter is_versions ran.since) (filter is_versions (answer ∷ []))
            ∙ ap (λ l. kept_versions ran.stage ++ l) (sym (marks_append ran.since (answer ∷ [])));
        going = go_more history (act_now told, answer) ran.going step;
      }

  ran_settling : (told : List Told) (history : List (Act × Told)) (point : ℕ) → AtCommit (act_now told) → HasStep (act_now told) → Ran this told history
      → Ran this (filter is_versions told ++ Told.Done point ∷ []) (history ++ (act_now told, Told.Done point) ∷ [])
  ran_settling told history point at step ran =
      let rows : (placed : List (List Placement)) × (act_now told ≡ Act.AtDirectory (DirectoryStep.Commit placed)) = committed_rows (act_now told) at in
      let both : (p : PreparedInOrder g rows.0 history) × (filter is_versions told ≡ Told.Versions p.versions ∷ []) = prepared this told history ran rows.0 rows.1 in
      let writes : MayWrite this = commits_writing this told at in
      record {
        stage = CallStage.Settling point both.0.versions;
        before = history ++ (act_now told, Told.Done point) ∷ [];
        since = [];
        calm = tt;
        same = λ more plain. settles_as this writes (filter is_versions told) both.0.versions point both.1 more;
        is = sym (append-nil (history ++ (act_now told, Told.Done point) ∷ []));
        known =
            record {
              writes = writes;
              placed = rows.0;
              front = history;
              prepared = both.0;
              same = refl;
              is = ap (λ act. history ++ (act, Told.Done point) ∷ []) rows.1;
            };
        marks = ap (λ l. filter is_versions (l ++ Told.Done point ∷ [])) both.1;
        going = go_more history (act_now told, Told.Done point) ran.going step;
      }

  ran_again : (told : List Told) (history : List (Act × Told)) (base newer : ℕ) → this ≡ Kind.Write → HasStep (act_now told) → Ran this told history
      → Ran this (filter is_changed told ++ Told.Changed base newer ∷ []) (history ++ (act_now told, Told.Changed base newer) ∷ [])
  ran_again told history base newer write step ran =
      record {
        stage = CallStage.Again (changes_of told ++ (base, newer) ∷ []);
        before = history ++ (act_now told, Told.Changed base newer) ∷ [];
        since = [];
        calm = tt;
        same = λ more plain.
            ap (λ kind. next_by kind g tries job ((filter is_changed told ++ Told.Changed base newer ∷ []) ++ more)) write
            ∙ tried_then 0 0 g tries job base newer more [] told;
        is = sym (append-nil (history ++ (act_now told, Told.Changed base newer) ∷ []));
        known = write;
        marks = none_marked told base newer;
        going = go_more history (act_now told, Told.Changed base newer) ran.going step;
      }

module _ (g : Shape) (max tries : ℕ) (job : Job) where
  abbrev HasRun : List Told → List (Act × Told) → Type 0
  HasRun told history = Ran g tries job job.note.kind told history

  ran_next : (told : List Told) (history : List (Act × Told)) (answer : Told) → IsToldNext g max tries job told answer → HasRun told history
      → HasRun (tell g job told answer) (history ++ (next_act g tries job told, answer) ∷ [])
  ran_next told history Told.Short h ran = ran_on g tries job told history Told.Short tt h ran
  ran_next told history (Told.Done point) h ran =
      let pins : ℕ = pin_bound g max job.note in
      let touched : ℕ = touched_count g job.note in
      let act : Act = next_act g tries job told in
      ran_settling g tries job told history point (done_at_commit pins touched point act h.0) (answer_has_step pins touched act (Told.Done point) h.0) ran
  ran_next told history (Told.Changed base newer) h ran =
      let pins : ℕ = pin_bound g max job.note in
      let touched : ℕ = touched_count g job.note in
      let act : Act = next_act g tries job told in
      ran_again g tries job told history base newer h.1 (answer_has_step pins touched act (Told.Changed base newer) h.0) ran
  ran_next told history answer h ran =
      let pins : ℕ = pin_bound g max job.note in
      let touched : ℕ = touched_count g job.note in
      let act : Act = next_act g tries job told in
      ran_on g tries job told history answer (calm_of answer (is_plain pins touched act answer h.0) tt) (answer_has_step pins touched act answer h.0) ran

  ran_since : (told : List Told) (history : List (Act × Told)) (answers : List Told) → AreToldSince g max tries job told answers → HasRun told history
      → HasRun (fold (tell g job) told answers) (history ++ steps_since g tries job told answers)
  ran_since told history [] h ran = subst (HasRun told) (sym (append-nil history)) ran
  ran_since told history (answer ∷ more) h ran =
      let step : Act × Told = (next_act g tries job told, answer) in
      let now : List Told = tell g job told answer in
      subst (HasRun (fold (tell g job) now more)) (append_assoc history (step ∷ []) (steps_since g tries job now more))
      (ran_since now (history ++ step ∷ []) more h.1 (ran_next told history answer h.0 ran))

  -- all answers of a call
  pub ran : (answers : List Told) → AreTold g max tries job answers → HasRun (fold (tell g job) [] answers) (steps_since g tries job [] answers)
  ran answers h =
      ran_since [] [] answers h
      (record {
        stage = CallStage.First;
        before = [];
        since = [];
        calm = tt;
        same = λ more plain. refl;
        is = refl;
        known = refl;
        marks = refl;
        going = tt;
      })

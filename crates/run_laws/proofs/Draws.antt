-- A call that draws has looked, and gathered the old bytes that it keeps.
use Rattle.std.proofs.Common.{◌≡◌, ℕ, Bool, true, false, cond, nat_lt, List, [], ◌∷◌, ◌++◌, length, Option, refl, sym, ap, subst, ◌∙◌, ◌+◌, ◌/◌}
use Rattle.std.proofs.lemmas.Bool.{cond_both}
use Rattle.std.proofs.lemmas.List.{append-nil}
use Rattle.std.specs.List.{range_with_len}
use Rattle.store_core.specs.Placements.{skipped_from, skipped_count}
use Rattle.clay_grid.specs.Shape.{Shape, chunk_count, stripe_length}
use Rattle.store_map.specs.declared.placement.Placement.{Placement}
use Rattle.store_core.specs.Lists.{places_of}
use Rattle.store_core.specs.Told.{Told, Seen}
use Rattle.store_core.specs.Note.{Note, Kind}
use Rattle.store_core.specs.Act.{Act, DirectoryStep, Outcome}
use Rattle.store_core.specs.Gathering.{Part}
use Rattle.store_core.specs.GatheringParts.{ending, gathering}
use Rattle.run_laws.specs.GatheredLaws.{gathers}
use Rattle.store_core.specs.Put.{settling, committed, committing, preparing, preparing_all, drawing, next_put}
use Rattle.store_core.specs.Read.{parts_of, next_read, next_single}
use Rattle.store_core.specs.Write.{old_parts, trying}
use Rattle.store_core.specs.Rebuild.{placing, installing, confirming, next_rebuild}
use Rattle.store_core.specs.NextAct.{Job, next_by}
use Rattle.run_laws.specs.Orders.{AreGathered}
use Rattle.run_laws.specs.WriteOrders.{LookedInOrder}
use Rattle.run_laws.specs.ToldInSteps.{HasStep}
use Rattle.run_laws.proofs.Histories.{AreCalm, steps_by, steps_answers, AllGo, go_past, IsPast, Parted, parted, Made, made}
use Rattle.run_laws.proofs.Stages.{CallStage, stage_act, Known, Ran, ran_now}

abbrev IsDraw : Act → Type 0
IsDraw (Act.AtDirectory DirectoryStep.Draw) = Unit {0}
IsDraw _ = ⊥

draw_past : (act : Act) → IsDraw act → IsPast act
draw_past (Act.AtDirectory DirectoryStep.Draw) h = tt
draw_past act h = absurd h

-- ---- stages that draw nothing
ending_no_draw : (outcome : Outcome) (told : List Told) → IsDraw (ending outcome told) → ⊥
ending_no_draw outcome [] h = h
ending_no_draw outcome (Told.Ended ∷ told) h = h
ending_no_draw outcome (Told.Reaped point ∷ told) h = h
ending_no_draw outcome (_ ∷ told) h = ending_no_draw Outcome.NoMemory told h

placing_no_draw : (target epoch : ℕ) (told : List Told) → IsDraw (placing target epoch told) → ⊥
placing_no_draw target epoch [] h = h
placing_no_draw target epoch (Told.Ended ∷ told) h = h
placing_no_draw target epoch (Told.Reaped point ∷ told) h = h
placing_no_draw target epoch (_ ∷ told) h = ending_no_draw Outcome.NoMemory told h

installing_no_draw : (seen : Seen) (target : ℕ) (told : List Told) → IsDraw (installing seen target told) → ⊥
installing_no_draw seen target [] h = h
installing_no_draw seen target (Told.Placed epoch ∷ told) h = placing_no_draw target epoch told h
installing_no_draw seen target (Told.AlreadyThere ∷ told) h = ending_no_draw Outcome.Here told h
installing_no_draw seen target (Told.Away downs ∷ told) h = ending_no_draw (Outcome.Away downs) told h
installing_no_draw seen target (_ ∷ told) h = ending_no_draw Outcome.NoMemory told h

confirming_no_draw : (seen : Seen) (target : ℕ) (told : List Told) → IsDraw (confirming seen target told) → ⊥
confirming_no_draw seen target [] h = h
confirming_no_draw seen target (Told.Current ∷ told) h = installing_no_draw seen target told h
confirming_no_draw seen target (Told.Superseded newer ∷ told) h = h
confirming_no_draw seen target (Told.Reaped point ∷ told) h = h
confirming_no_draw seen target (_ ∷ told) h = ending_no_draw Outcome.NoMemory told h

rebuild_no_draw : (g : Shape) (note : Note) (target : ℕ) (told : List Told) → AreCalm told → IsDraw (next_rebuild g note target told) → ⊥
rebuild_no_draw g note target [] calm h = h
rebuild_no_draw g note target (Told.NoSuch ∷ told) calm h = h
rebuild_no_draw g note target (Told.PinnedStripe seen ∷ told) calm h =
    let m : Made g seen target told = made g seen target told calm.1 (draw_past (next_rebuild g note target (Told.PinnedStripe seen ∷ told)) h) in
    confirming_no_draw seen target m.rest (subst IsDraw m.act h)
rebuild_no_draw g note target (_ ∷ told) calm h = h

read_no_draw : (g : Shape) (note : Note) (told : List Told) → AreCalm told → IsDraw (next_read g note told) → ⊥
read_no_draw g note [] calm h = h
read_no_draw g note (Told.Answer point given ∷ told) calm h = h
read_no_draw g note (Told.Pinned point length_now stripes ∷ told) calm h =
    let p : Parted g (ending (Outcome.Served point)) (parts_of g note length_now stripes) told =
    parted g (ending (Outcome.Served point)) (parts_of g note length_now stripes) told calm.1 (draw_past (next_read g note (Told.Pinned point length_now stripes ∷ told)) h) in
    ending_no_draw (Outcome.Served point) p.rest (subst IsDraw p.act h)
read_no_draw g note (_ ∷ told) calm h = h

single_no_draw : (note : Note) (told : List Told) → IsDraw (next_single note told) → ⊥
single_no_draw note [] h = h
single_no_draw note (Told.Answer point given ∷ told) h = h
single_no_draw note (_ ∷ told) h = h

settling_no_draw : (point : ℕ) (places : List (ℕ × ℕ)) (told : List Told) → IsDraw (settling point places told) → ⊥
settling_no_draw point [] told h = h
settling_no_draw point (place ∷ places) [] h = h
settling_no_draw point (place ∷ places) (_ ∷ told) h = settling_no_draw point places told h

committing_no_draw : (placed : List (List Placement)) (told : List Told) → IsDraw (committing placed told) → ⊥
committing_no_draw placed [] h = h
committing_no_draw placed (Told.Reaped point ∷ told) h = h
committing_no_draw placed (_ ∷ told) h = ending_no_draw Outcome.NoMemory told h

module _ (g : Shape) where
  committed_no_draw : (versions : List ℕ) (told : List Told) → IsDraw (committed g versions told) → ⊥
  committed_no_draw versions (Told.Done point ∷ told) h = settling_no_draw point (places_of (chunk_count g) versions) told h
  committed_no_draw versions [] h = h
  committed_no_draw versions (_ ∷ told) h = h

  preparing_no_draw : (stripe version : ℕ) (next : List Placement → List Told → Act) → ((row : List Placement) (told : List Told) → IsDraw (next row told) → ⊥)
      → (servers : List ℕ) (row : List Placement) (told : List Told) → IsDraw (preparing g stripe version next servers row told) → ⊥
  preparing_no_draw stripe version next never [] row told h = never row told h
  preparing_no_draw stripe version next never (server ∷ servers) row [] h = h
  preparing_no_draw stripe version next never (server ∷ servers) row (Told.Prepared last ∷ told) h =
      let now : List Placement = row ++ last ∷ [] in
      let outcome : Outcome = Outcome.Unavailable stripe (skipped_from 0 now) in
      cond_both {A = Act} (nat_lt g.parity_count (skipped_count now)) (ending outcome told) (preparing g stripe version next servers now told) (λ act. IsDraw act → ⊥)
      (λ _. ending_no_draw outcome told) (λ _. preparing_no_draw stripe version next never servers now told) h
  preparing_no_draw stripe version next never (server ∷ servers) row (_ ∷ told) h = ending_no_draw Outcome.NoMemory told h

  preparing_all_no_draw : (stripe : ℕ) (versions : List ℕ) (placed : List (List Placement)) (told : List Told) → IsDraw (preparing_all g stripe versions placed told) → ⊥
  preparing_all_no_draw stripe [] placed told h = committing_no_draw placed told h
  preparing_all_no_draw stripe (version ∷ versions) placed told h =
      preparing_no_draw stripe version (λ row. preparing_all g (stripe + 1) versions (placed ++ row ∷ [])) (λ row. preparing_all_no_draw (stripe + 1) versions (placed ++ row ∷ []))
      (range_with_len 0 (chunk_count g)) [] told h

  -- a draw is the first of its stage
  drawing_first : (note : Note) (told : List Told) → IsDraw (drawing g note told) → told ≡ []
  drawing_first note [] h = refl
  drawing_first note (Told.Versions versions ∷ told) h = absurd (preparing_all_no_draw (note.offset / stripe_length g) versions [] told h)
  drawing_first note (Told.Reaped point ∷ told) h = absurd h
  drawing_first note (_ ∷ told) h = absurd (ending_no_draw Outcome.NoMemory told h)

  -- ---- a put or a write has looked
  record Looked (kind : Kind) (note : Note) (next : List Told → Act) (since : List Told) : Type 0 where
    base : Option ℕ
    length_now : ℕ
    stripes : List Seen
    later : List Told
    is : since ≡ Told.Ready base length_now stripes ∷ later
    look : next [] ≡ Act.AtDirectory (DirectoryStep.Look note)
    each : AreGathered g (gathers kind g note (Told.Ready base length_now stripes)) later

  put_looked : (note : Note) (since : List Told) → IsDraw (next_put g note since) → Looked Kind.Put note (next_put g note) since
  put_looked note [] h = absurd h
  put_looked note (Told.Answer point given ∷ since) h = absurd h
  put_looked note (Told.Ready base length_now stripes ∷ since) h =
      record { base = base; length_now = length_now; stripes = stripes; later = since; is = refl; look = refl; each = drawing_first note since h }
  put_looked note (Told.Versions versions ∷ since) h = absurd (committed_no_draw versions since h)
  put_looked note (_ ∷ since) h = absurd h

  gathered_all : (note : Note) (parts : List Part) (told : List Told) → AreCalm told → IsDraw (gathering g parts (drawing g note) told) → AreGathered g parts told
  gathered_all note parts told calm h =
      let p : Parted g (drawing g note) parts told = parted g (drawing g note) parts told calm (draw_past (gathering g parts (drawing g note) told) h) in
      let none : p.rest ≡ [] = drawing_first note p.rest (subst IsDraw p.act h) in
      subst (AreGathered g parts) (sym (p.is ∙ ap (λ l. p.gathered ++ l) none ∙ append-nil p.gathered)) p.each

  look_next : (note : Note) (pairs : List (ℕ × ℕ)) (b : Bool) → HasStep (cond b (Act.AtDirectory (DirectoryStep.Look note)) (Act.Finish (Outcome.Contended pairs)))
      → cond b (Act.AtDirectory (DirectoryStep.Look note)) (Act.Finish (Outcome.Contended pairs)) ≡ Act.AtDirectory (DirectoryStep.Look note)
  look_next note pairs true h = refl
  look_next note pairs false h = absurd h

  trying_looked : (tries : ℕ) (note : Note) (pairs : List (ℕ × ℕ)) (since : List Told) → AreCalm since → AllGo (steps_by (trying g tries note pairs) since)
      → IsDraw (trying g tries note pairs since) → Looked Kind.Write note (trying g tries note pairs) since
  trying_looked tries note pairs [] calm go h =
      absurd
      (cond_both {A = Act} (nat_lt (length pairs) tries) (Act.AtDirectory (DirectoryStep.Look note)) (Act.Finish (Outcome.Contended pairs)) (λ act. IsDraw act → ⊥)
      (λ _ k. k) (λ _ k. k) h)
  trying_looked tries note pairs (Told.Changed base newer ∷ since) calm go h = absurd calm.0
  trying_looked tries note pairs (Told.Answer point given ∷ since) calm go h = absurd h
  trying_looked tries note pairs (Told.Ready base length_now stripes ∷ since) calm go h =
      record {
        base = base;
        length_now = length_now;
        stripes = stripes;
        later = since;
        is = refl;
        look = look_next note pairs (nat_lt (length pairs) tries) go.0;
        each = gathered_all note (old_parts g length_now stripes) since calm.1 h;
      }
  trying_looked tries note pairs (Told.Versions versions ∷ since) calm go h = absurd (committed_no_draw versions since h)
  trying_looked tries note pairs (_ ∷ since) calm go h = absurd h

module _ (g : Shape) (tries : ℕ) (job : Job) where
  stage_looked : (kind : Kind) (stage : CallStage) (before : List (Act × Told)) → Known g tries job kind stage before → (since : List Told) → AreCalm since
      → AllGo (steps_by (stage_act g tries job kind stage) since) → IsDraw (stage_act g tries job kind stage since) → Looked g kind job.note (stage_act g tries job kind stage) since
  stage_looked Kind.Put CallStage.First before known since calm go h = put_looked g job.note since h
  stage_looked Kind.Write CallStage.First before known since calm go h = trying_looked g tries job.note [] since calm go h
  stage_looked Kind.Get CallStage.First before known since calm go h = absurd (read_no_draw g job.note since calm h)
  stage_looked Kind.ReadAt CallStage.First before known since calm go h = absurd (read_no_draw g job.note since calm h)
  stage_looked Kind.Stat CallStage.First before known since calm go h = absurd (single_no_draw job.note since h)
  stage_looked Kind.Delete CallStage.First before known since calm go h = absurd (single_no_draw job.note since h)
  stage_looked Kind.Rebuild CallStage.First before known since calm go h = absurd (rebuild_no_draw g job.note job.target since calm h)
  stage_looked kind (CallStage.Again pairs) before known since calm go h =
      subst (λ k. Looked g k job.note (trying g tries job.note pairs) since) (sym known) (trying_looked g tries job.note pairs since calm go h)
  stage_looked kind (CallStage.Settling point versions) before known since calm go h = absurd (settling_no_draw point (places_of (chunk_count g) versions) since h)

  -- the steps before a draw
  pub looked : (told : List Told) (history : List (Act × Told)) → Ran g tries job job.note.kind told history → next_by job.note.kind g tries job told ≡ Act.AtDirectory DirectoryStep.Draw
      → LookedInOrder g job history
  looked told history r e =
      let f : List Told → Act = stage_act g tries job job.note.kind r.stage in
      let here : IsDraw (f r.since) = subst IsDraw (sym (sym (ran_now g tries job job.note.kind told history r) ∙ e)) tt in
      let l : Looked g job.note.kind job.note (stage_act g tries job job.note.kind r.stage) r.since =
      stage_looked job.note.kind r.stage r.before r.known r.since r.calm
      (go_past r.before (steps_by (stage_act g tries job job.note.kind r.stage) r.since) (subst AllGo r.is r.going)) here in
      let ready : Told = Told.Ready l.base l.length_now l.stripes in
      record {
        before = r.before;
        base = l.base;
        length_now = l.length_now;
        stripes = l.stripes;
        later = steps_by (λ more. f (Told.Ready l.base l.length_now l.stripes ∷ more)) l.later;
        steps_are =
            r.is
            ∙ ap (λ s. r.before ++ steps_by f s) l.is
            ∙ ap (λ act. r.before ++ (act, ready) ∷ steps_by (λ more. f (ready ∷ more)) l.later) l.look;
        each =
            subst (AreGathered g (gathers job.note.kind g job.note (Told.Ready l.base l.length_now l.stripes)))
            (sym (steps_answers (λ more. f (Told.Ready l.base l.length_now l.stripes ∷ more)) l.later)) l.each;
      }

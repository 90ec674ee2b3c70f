-- Which answers end a call.
use Rattle.std.proofs.Common.{◌≡◌, ℕ, ◌+◌, ◌≤◌, nat_lt, List, [], ◌∷◌, ◌++◌, length, filter, refl, sym, ap, subst, ◌∙◌, arith, length-append, true≢false}
use Rattle.std.specs.Prelude.{IsTrue}
use Rattle.std.proofs.lemmas.Bool.{cond-false, le-ltb}
use Rattle.std.proofs.lemmas.List.{append_assoc}
use Rattle.store_map.specs.declared.placement.Found.TheVariants as found
use Rattle.clay_grid.specs.Shape.{Shape}
use Rattle.store_map.specs.declared.reply.Reply.{Reply}
use Rattle.store_core.specs.Told.{Told, Seen}
use Rattle.store_core.specs.Note.{Note, Kind}
use Rattle.store_core.specs.Act.{Act, DirectoryStep, ServerStep, Outcome}
use Rattle.store_core.specs.Gathering.{Gathering}
use Rattle.store_core.specs.GatheringParts.{gather_part, gather_chunk, act_of}
use Rattle.store_core.specs.Write.{trying}
use Rattle.store_core.specs.NextAct.{Job, next_by, next_act}
use Rattle.store_core.specs.Tell.{is_changed, cut_by}
use Rattle.run_laws.specs.AnswerLaws.{is_on_pass}
use Rattle.run_laws.specs.CauseLaws.{changes_of}
use Rattle.run_laws.specs.EndLaws.{HearsShort, IsLook, AnswersEndCalls}
use Rattle.run_laws.specs.TargetLaws.{TargetsEndRebuilds}
use Rattle.run_laws.proofs.Cuts.{cuts_change_no_act}
use Rattle.run_laws.proofs.GatheringFalls.{IsPlain}
use Rattle.run_laws.proofs.Questions.{IsQuestion}
use Rattle.run_laws.proofs.Short.{HasShortage, part_short, chunk_short}
use Rattle.run_laws.proofs.GoesOn.{nothing_came, GoesOn, goes_on, cut_then}
use Rattle.run_laws.proofs.Commits.{committed_by}

-- ---- the steps that an answer ends
-- a client's call looks next
abbrev AtLook : Act → Type 0
AtLook (Act.AtDirectory (DirectoryStep.Look note)) = Unit {0}
AtLook _ = ⊥

-- a repairer's call looks next
abbrev AtLookRepair : Act → Type 0
AtLookRepair (Act.AtDirectory (DirectoryStep.LookRepair note)) = Unit {0}
AtLookRepair _ = ⊥

-- the next step is one on the call's pass
abbrev OnPass : Act → Type 0
OnPass (Act.AtDirectory step) = IsTrue (is_on_pass step)
OnPass _ = ⊥

-- the call confirms next
abbrev AtConfirm : Act → Type 0
AtConfirm (Act.AtDirectory DirectoryStep.Confirm) = Unit {0}
AtConfirm _ = ⊥

-- the call says next that the chunk was placed
abbrev AtRepaired : Act → Type 0
AtRepaired (Act.AtDirectory (DirectoryStep.Repaired server epoch)) = Unit {0}
AtRepaired _ = ⊥

-- the call installs a chunk next
abbrev AtInstall : Act → Type 0
AtInstall (Act.AtServer server (ServerStep.Install version)) = Unit {0}
AtInstall _ = ⊥

-- such a step is followed by this act
abbrev Follows : (Act → Type 0) → Act → Act → Act → Type 0
Follows At result now later = At now → later ≡ result

-- nothing is known of what a gathering comes to
abbrev Unknown : Gathering → Type 0
Unknown later = Unit {0}

-- a look that is answered by a reply
answered : (g : Shape) (tries point : ℕ) (given : Reply) → GoesOn g tries (Told.Answer point given ∷ []) Unknown (Follows AtLook (Act.Finish (Outcome.Answered point given)))
answered g tries point given =
    record {
      finish = λ outcome later h. absurd h;
      look_put = λ note h. refl;
      look_read = λ note h. refl;
      look_single = λ note h. refl;
      look_try = λ note pairs h. refl;
      look_repair = λ note target h. absurd h;
      part = λ part told. nothing_came (gather_part g part told) (gather_part g part (told ++ Told.Answer point given ∷ []));
      chunk = λ seen target told. nothing_came (gather_chunk g seen target told) (gather_chunk g seen target (told ++ Told.Answer point given ∷ []));
      ask = λ server step stripe next later so came h. absurd h;
      draw = λ note h. absurd h;
      prepare = λ stripe version next server servers row h. absurd h;
      commit = λ placed h. absurd h;
      settle = λ server version later h. absurd h;
      end = λ outcome h. absurd h;
      confirm = λ seen target h. absurd h;
      install = λ seen target h. absurd h;
      place = λ target epoch h. absurd h;
    }

-- a repairer's look that finds no such stripe
not_found : (g : Shape) (tries : ℕ) → GoesOn g tries (Told.NoSuch ∷ []) Unknown (Follows AtLookRepair (Act.Finish Outcome.NoSuch))
not_found g tries =
    record {
      finish = λ outcome later h. absurd h;
      look_put = λ note h. absurd h;
      look_read = λ note h. absurd h;
      look_single = λ note h. absurd h;
      look_try = λ note pairs h. absurd h;
      look_repair = λ note target h. refl;
      part = λ part told. nothing_came (gather_part g part told) (gather_part g part (told ++ Told.NoSuch ∷ []));
      chunk = λ seen target told. nothing_came (gather_chunk g seen target told) (gather_chunk g seen target (told ++ Told.NoSuch ∷ []));
      ask = λ server step stripe next later so came h. absurd h;
      draw = λ note h. absurd h;
      prepare = λ stripe version next server servers row h. absurd h;
      commit = λ placed h. absurd h;
      settle = λ server version later h. absurd h;
      end = λ outcome h. absurd h;
      confirm = λ seen target h. absurd h;
      install = λ seen target h. absurd h;
      place = λ target epoch h. absurd h;
    }

-- a reap on a pass
reaped : (g : Shape) (tries point : ℕ) → GoesOn g tries (Told.Reaped point ∷ []) Unknown (Follows OnPass (Act.Finish (Outcome.Reaped point)))
reaped g tries point =
    record {
      finish = λ outcome later h. absurd h;
      look_put = λ note h. absurd (true≢false (sym h));
      look_read = λ note h. absurd (true≢false (sym h));
      look_single = λ note h. absurd (true≢false (sym h));
      look_try = λ note pairs h. absurd (true≢false (sym h));
      look_repair = λ note target h. absurd (true≢false (sym h));
      part = λ part told. nothing_came (gather_part g part told) (gather_part g part (told ++ Told.Reaped point ∷ []));
      chunk = λ seen target told. nothing_came (gather_chunk g seen target told) (gather_chunk g seen target (told ++ Told.Reaped point ∷ []));
      ask = λ server step stripe next later so came h. absurd h;
      draw = λ note h. refl;
      prepare = λ stripe version next server servers row h. absurd h;
      commit = λ placed h. refl;
      settle = λ server version later h. absurd h;
      end = λ outcome h. refl;
      confirm = λ seen target h. refl;
      install = λ seen target h. absurd h;
      place = λ target epoch h. refl;
    }

-- a version that is superseded
superseded : (g : Shape) (tries newer : ℕ) → GoesOn g tries (Told.Superseded newer ∷ []) Unknown (Follows AtConfirm (Act.Finish (Outcome.Superseded newer)))
superseded g tries newer =
    record {
      finish = λ outcome later h. absurd h;
      look_put = λ note h. absurd h;
      look_read = λ note h. absurd h;
      look_single = λ note h. absurd h;
      look_try = λ note pairs h. absurd h;
      look_repair = λ note target h. absurd h;
      part = λ part told. nothing_came (gather_part g part told) (gather_part g part (told ++ Told.Superseded newer ∷ []));
      chunk = λ seen target told. nothing_came (gather_chunk g seen target told) (gather_chunk g seen target (told ++ Told.Superseded newer ∷ []));
      ask = λ server step stripe next later so came h. absurd h;
      draw = λ note h. absurd h;
      prepare = λ stripe version next server servers row h. absurd h;
      commit = λ placed h. absurd h;
      settle = λ server version later h. absurd h;
      end = λ outcome h. absurd h;
      confirm = λ seen target h. refl;
      install = λ seen target h. absurd h;
      place = λ target epoch h. absurd h;
    }

-- the last step of a rebuild
rebuilt : (g : Shape) (tries : ℕ) → GoesOn g tries (Told.Ended ∷ []) Unknown (Follows AtRepaired (Act.Finish Outcome.Rebuilt))
rebuilt g tries =
    record {
      finish = λ outcome later h. absurd h;
      look_put = λ note h. absurd h;
      look_read = λ note h. absurd h;
      look_single = λ note h. absurd h;
      look_try = λ note pairs h. absurd h;
      look_repair = λ note target h. absurd h;
      part = λ part told. nothing_came (gather_part g part told) (gather_part g part (told ++ Told.Ended ∷ []));
      chunk = λ seen target told. nothing_came (gather_chunk g seen target told) (gather_chunk g seen target (told ++ Told.Ended ∷ []));
      ask = λ server step stripe next later so came h. absurd h;
      draw = λ note h. absurd h;
      prepare = λ stripe version next server servers row h. absurd h;
      commit = λ placed h. absurd h;
      settle = λ server version later h. absurd h;
      end = λ outcome h. absurd h;
      confirm = λ seen target h. absurd h;
      install = λ seen target h. absurd h;
      place = λ target epoch h. refl;
    }

-- a gathering installs nothing
no_ask : (server : ℕ) (step : ServerStep) → IsQuestion step → AtInstall (Act.AtServer server step) → ⊥
no_ask server (ServerStep.Install version) so h = so
no_ask server step so h = h

-- a target that has its chunk when it comes
already_there : (g : Shape) (tries : ℕ) → GoesOn g tries (Told.AlreadyThere ∷ Told.Ended ∷ []) Unknown (Follows AtInstall (Act.Finish Outcome.Here))
already_there g tries =
    record {
      finish = λ outcome later h. absurd h;
      look_put = λ note h. absurd h;
      look_read = λ note h. absurd h;
      look_single = λ note h. absurd h;
      look_try = λ note pairs h. absurd h;
      look_repair = λ note target h. absurd h;
      part = λ part told. nothing_came (gather_part g part told) (gather_part g part (told ++ Told.AlreadyThere ∷ Told.Ended ∷ []));
      chunk = λ seen target told. nothing_came (gather_chunk g seen target told) (gather_chunk g seen target (told ++ Told.AlreadyThere ∷ Told.Ended ∷ []));
      ask = λ server step stripe next later so came h. absurd (no_ask server step so h);
      draw = λ note h. absurd h;
      prepare = λ stripe version next server servers row h. absurd h;
      commit = λ placed h. absurd h;
      settle = λ server version later h. absurd h;
      end = λ outcome h. absurd h;
      confirm = λ seen target h. absurd h;
      install = λ seen target h. refl;
      place = λ target epoch h. absurd h;
    }

-- its pass ends first
there_ends_pass : (g : Shape) (tries : ℕ) → GoesOn g tries (Told.AlreadyThere ∷ []) Unknown (Follows AtInstall (Act.AtDirectory DirectoryStep.End))
there_ends_pass g tries =
    record {
      finish = λ outcome later h. absurd h;
      look_put = λ note h. absurd h;
      look_read = λ note h. absurd h;
      look_single = λ note h. absurd h;
      look_try = λ note pairs h. absurd h;
      look_repair = λ note target h. absurd h;
      part = λ part told. nothing_came (gather_part g part told) (gather_part g part (told ++ Told.AlreadyThere ∷ []));
      chunk = λ seen target told. nothing_came (gather_chunk g seen target told) (gather_chunk g seen target (told ++ Told.AlreadyThere ∷ []));
      ask = λ server step stripe next later so came h. absurd (no_ask server step so h);
      draw = λ note h. absurd h;
      prepare = λ stripe version next server servers row h. absurd h;
      commit = λ placed h. absurd h;
      settle = λ server version later h. absurd h;
      end = λ outcome h. absurd h;
      confirm = λ seen target h. absurd h;
      install = λ seen target h. refl;
      place = λ target epoch h. absurd h;
    }

-- a target that is away when its chunk comes
not_taken : (g : Shape) (tries downs : ℕ) → GoesOn g tries (Told.Away downs ∷ Told.Ended ∷ []) Unknown (Follows AtInstall (Act.Finish (Outcome.Away downs)))
not_taken g tries downs =
    record {
      finish = λ outcome later h. absurd h;
      look_put = λ note h. absurd h;
      look_read = λ note h. absurd h;
      look_single = λ note h. absurd h;
      look_try = λ note pairs h. absurd h;
      look_repair = λ note target h. absurd h;
      part = λ part told. nothing_came (gather_part g part told) (gather_part g part (told ++ Told.Away downs ∷ Told.Ended ∷ []));
      chunk = λ seen target told. nothing_came (gather_chunk g seen target told) (gather_chunk g seen target (told ++ Told.Away downs ∷ Told.Ended ∷ []));
      ask = λ server step stripe next later so came h. absurd (no_ask server step so h);
      draw = λ note h. absurd h;
      prepare = λ stripe version next server servers row h. absurd h;
      commit = λ placed h. absurd h;
      settle = λ server version later h. absurd h;
      end = λ outcome h. absurd h;
      confirm = λ seen target h. absurd h;
      install = λ seen target h. refl;
      place = λ target epoch h. absurd h;
    }

-- its pass ends first
away_ends_pass : (g : Shape) (tries downs : ℕ) → GoesOn g tries (Told.Away downs ∷ []) Unknown (Follows AtInstall (Act.AtDirectory DirectoryStep.End))
away_ends_pass g tries downs =
    record {
      finish = λ outcome later h. absurd h;
      look_put = λ note h. absurd h;
      look_read = λ note h. absurd h;
      look_single = λ note h. absurd h;
      look_try = λ note pairs h. absurd h;
      look_repair = λ note target h. absurd h;
      part = λ part told. nothing_came (gather_part g part told) (gather_part g part (told ++ Told.Away downs ∷ []));
      chunk = λ seen target told. nothing_came (gather_chunk g seen target told) (gather_chunk g seen target (told ++ Told.Away downs ∷ []));
      ask = λ server step stripe next later so came h. absurd (no_ask server step so h);
      draw = λ note h. absurd h;
      prepare = λ stripe version next server servers row h. absurd h;
      commit = λ placed h. absurd h;
      settle = λ server version later h. absurd h;
      end = λ outcome h. absurd h;
      confirm = λ seen target h. absurd h;
      install = λ seen target h. refl;
      place = λ target epoch h. absurd h;
    }

-- want of memory
without_memory : (g : Shape) (tries : ℕ) → GoesOn g tries (Told.Short ∷ Told.Ended ∷ []) (HasShortage (Told.Ended ∷ [])) (Follows HearsShort (Act.Finish Outcome.NoMemory))
without_memory g tries =
    record {
      finish = λ outcome later h. absurd h;
      look_put = λ note h. refl;
      look_read = λ note h. refl;
      look_single = λ note h. refl;
      look_try = λ note pairs h. refl;
      look_repair = λ note target h. refl;
      part = λ part told. part_short (Told.Ended ∷ []) g part told;
      chunk = λ seen target told. chunk_short (Told.Ended ∷ []) g seen target told;
      ask = λ server step stripe next later so came h. ap (act_of stripe next) came;
      draw = λ note h. refl;
      prepare = λ stripe version next server servers row h. refl;
      commit = λ placed h. refl;
      settle = λ server version later h. absurd h;
      end = λ outcome h. refl;
      confirm = λ seen target h. refl;
      install = λ seen target h. refl;
      place = λ target epoch h. refl;
    }

-- a step after the look that hears of want of memory
abbrev HearsLater : Act → Type 0
HearsLater (Act.AtDirectory (DirectoryStep.Look note)) = ⊥
HearsLater (Act.AtDirectory (DirectoryStep.LookRepair note)) = ⊥
HearsLater act = HearsShort act

hears_later : (act : Act) → HearsShort act → (IsLook act → ⊥) → HearsLater act
hears_later (Act.AtDirectory (DirectoryStep.Look note)) h later = later tt
hears_later (Act.AtDirectory (DirectoryStep.LookRepair note)) h later = later tt
hears_later act h later = h

-- at a look, when the call has no pass
short_at_look : (g : Shape) (tries : ℕ) → GoesOn g tries (Told.Short ∷ []) Unknown (Follows IsLook (Act.Finish Outcome.NoMemory))
short_at_look g tries =
    record {
      finish = λ outcome later h. absurd h;
      look_put = λ note h. refl;
      look_read = λ note h. refl;
      look_single = λ note h. refl;
      look_try = λ note pairs h. refl;
      look_repair = λ note target h. refl;
      part = λ part told. nothing_came (gather_part g part told) (gather_part g part (told ++ Told.Short ∷ []));
      chunk = λ seen target told. nothing_came (gather_chunk g seen target told) (gather_chunk g seen target (told ++ Told.Short ∷ []));
      ask = λ server step stripe next later so came h. absurd h;
      draw = λ note h. absurd h;
      prepare = λ stripe version next server servers row h. absurd h;
      commit = λ placed h. absurd h;
      settle = λ server version later h. absurd h;
      end = λ outcome h. absurd h;
      confirm = λ seen target h. absurd h;
      install = λ seen target h. absurd h;
      place = λ target epoch h. absurd h;
    }

-- at any later step
short_ends_pass : (g : Shape) (tries : ℕ) → GoesOn g tries (Told.Short ∷ []) (HasShortage []) (Follows HearsLater (Act.AtDirectory DirectoryStep.End))
short_ends_pass g tries =
    record {
      finish = λ outcome later h. absurd h;
      look_put = λ note h. absurd h;
      look_read = λ note h. absurd h;
      look_single = λ note h. absurd h;
      look_try = λ note pairs h. absurd h;
      look_repair = λ note target h. absurd h;
      part = λ part told. part_short [] g part told;
      chunk = λ seen target told. chunk_short [] g seen target told;
      ask = λ server step stripe next later so came h. ap (act_of stripe next) came;
      draw = λ note h. refl;
      prepare = λ stripe version next server servers row h. refl;
      commit = λ placed h. refl;
      settle = λ server version later h. absurd h;
      end = λ outcome h. refl;
      confirm = λ seen target h. refl;
      install = λ seen target h. refl;
      place = λ target epoch h. refl;
    }

-- a target that has its chunk when it is asked
here_asked : (kind : Kind) (g : Shape) (tries : ℕ) (job : Job) (seen : Seen) → kind ≡ Kind.Rebuild
    → next_by kind g tries job (Told.PinnedStripe seen ∷ Told.Here ∷ Told.Ended ∷ []) ≡ Act.Finish Outcome.Here
here_asked kind g tries job seen e = ap (λ k. next_by k g tries job (Told.PinnedStripe seen ∷ Told.Here ∷ Told.Ended ∷ [])) e

-- ---- the last change
module _ (g : Shape) (tries : ℕ) (note : Note) (base newer : ℕ) where
  -- all changes, and the last one
  tried : (pairs : List (ℕ × ℕ)) (told : List Told)
      → trying g tries note pairs (filter is_changed told ++ Told.Changed base newer ∷ []) ≡ trying g tries note (pairs ++ (changes_of told ++ (base, newer) ∷ [])) []
  tried pairs [] = refl
  tried pairs (Told.Changed old new ∷ told) =
      tried (pairs ++ (old, new) ∷ []) told ∙ ap (λ l. trying g tries note l []) (append_assoc pairs ((old, new) ∷ []) (changes_of told ++ (base, newer) ∷ []))
  tried pairs (_ ∷ told) = tried pairs told

  contended : (told : List Told) → tries ≤ length (changes_of told) + 1
      → trying g tries note [] (filter is_changed told ++ Told.Changed base newer ∷ []) ≡ Act.Finish (Outcome.Contended (changes_of told ++ (base, newer) ∷ []))
  contended told few =
      let pairs : List (ℕ × ℕ) = changes_of told ++ (base, newer) ∷ [] in
      let count : length (changes_of told ++ (base, newer) ∷ []) ≡ length (changes_of told) + 1 = length-append (changes_of told) ((base, newer) ∷ []) in
      tried [] told
      ∙ cond-false (nat_lt (length pairs) tries) (Act.AtDirectory (DirectoryStep.Look note)) (Act.Finish (Outcome.Contended pairs)) (le-ltb (length pairs) tries (omega (arith, few, count)))

contended_by : (kind : Kind) (g : Shape) (tries : ℕ) (job : Job) (told : List Told) (base newer : ℕ) → kind ≡ Kind.Write → tries ≤ length (changes_of told) + 1
    → next_by kind g tries job (filter is_changed told ++ Told.Changed base newer ∷ []) ≡ Act.Finish (Outcome.Contended (changes_of told ++ (base, newer) ∷ []))
contended_by kind g tries job told base newer e few =
    ap (λ k. next_by k g tries job (filter is_changed told ++ Told.Changed base newer ∷ [])) e ∙ contended g tries job.note base newer told few

-- ---- two answers, each with its cut
two_answers : (g : Shape) (tries : ℕ) (job : Job) (told : List Told) (first last : Told) → IsPlain last
    → next_act g tries job (cut_by job.note.kind g job (cut_by job.note.kind g job (told ++ first ∷ []) ++ last ∷ [])) ≡ next_act g tries job (told ++ first ∷ last ∷ [])
two_answers g tries job told first last plain =
    cuts_change_no_act g tries job (cut_by job.note.kind g job (told ++ first ∷ []) ++ last ∷ [])
    ∙ cut_then g tries last [] plain job.note.kind job (told ++ first ∷ [])
    ∙ ap (next_act g tries job) (append_assoc told (first ∷ []) (last ∷ []))

-- one answer, or two, to the step that the call makes
one_ends : (g : Shape) (tries : ℕ) (job : Job) (told : List Told) (answer : Told) (Came : Gathering → Type 0) (At : Act → Type 0) (result : Act) → IsPlain answer
    → GoesOn g tries (answer ∷ []) Came (Follows At result) → At (next_act g tries job told) → next_act g tries job (cut_by job.note.kind g job (told ++ answer ∷ [])) ≡ result
one_ends g tries job told answer Came At result plain on h =
    cuts_change_no_act g tries job (told ++ answer ∷ []) ∙ goes_on g tries answer [] plain Came (Follows At result) on job.note.kind job told h

two_end : (g : Shape) (tries : ℕ) (job : Job) (told : List Told) (first last : Told) (Came : Gathering → Type 0) (At : Act → Type 0) (result : Act) → IsPlain first → IsPlain last
    → GoesOn g tries (first ∷ last ∷ []) Came (Follows At result) → At (next_act g tries job told)
    → next_act g tries job (cut_by job.note.kind g job (cut_by job.note.kind g job (told ++ first ∷ []) ++ last ∷ [])) ≡ result
two_end g tries job told first last Came At result plain_first plain_last on h =
    two_answers g tries job told first last plain_last ∙ goes_on g tries first (last ∷ []) plain_first Came (Follows At result) on job.note.kind job told h

pub answers_end_calls : (g : Shape) (tries : ℕ) (job : Job) → AnswersEndCalls g tries job
answers_end_calls g tries job =
    record {
      answered = λ told note point given e.
          one_ends g tries job told (Told.Answer point given) Unknown AtLook (Act.Finish (Outcome.Answered point given)) tt (answered g tries point given) (subst AtLook (sym e) tt);
      no_such = λ told note e. one_ends g tries job told Told.NoSuch Unknown AtLookRepair (Act.Finish Outcome.NoSuch) tt (not_found g tries) (subst AtLookRepair (sym e) tt);
      committed = λ told placed point e. committed_by g tries job told placed point job.note.kind e;
      reaped = λ told step point e on.
          one_ends g tries job told (Told.Reaped point) Unknown OnPass (Act.Finish (Outcome.Reaped point)) tt (reaped g tries point) (subst OnPass (sym e) on);
      superseded = λ told newer e.
          one_ends g tries job told (Told.Superseded newer) Unknown AtConfirm (Act.Finish (Outcome.Superseded newer)) tt (superseded g tries newer) (subst AtConfirm (sym e) tt);
      rebuilt = λ told server epoch e. one_ends g tries job told Told.Ended Unknown AtRepaired (Act.Finish Outcome.Rebuilt) tt (rebuilt g tries) (subst AtRepaired (sym e) tt);
      contended = λ told placed base newer write e few. contended_by job.note.kind g tries job told base newer write few;
      no_memory_at_look = λ told h. one_ends g tries job told Told.Short Unknown IsLook (Act.Finish Outcome.NoMemory) tt (short_at_look g tries) h;
      pass_ends_without_memory = λ told h later.
          one_ends g tries job told Told.Short (HasShortage []) HearsLater (Act.AtDirectory DirectoryStep.End) tt (short_ends_pass g tries)
          (hears_later (next_act g tries job told) h later);
      no_memory = λ told h.
          two_end g tries job told Told.Short Told.Ended (HasShortage (Told.Ended ∷ [])) HearsShort (Act.Finish Outcome.NoMemory) tt tt (without_memory g tries) h;
    }

-- how a target's answers end a rebuild
pub targets_end_rebuilds : (g : Shape) (tries : ℕ) (job : Job) → TargetsEndRebuilds g tries job
targets_end_rebuilds g tries job =
    record {
      pass_ends_when_asked = λ seen rebuild. ap (λ k. next_by k g tries job (Told.PinnedStripe seen ∷ Told.Here ∷ [])) rebuild;
      here_when_asked = λ seen rebuild. here_asked job.note.kind g tries job seen rebuild;
      pass_ends_when_it_comes = λ told server version e.
          one_ends g tries job told Told.AlreadyThere Unknown AtInstall (Act.AtDirectory DirectoryStep.End) tt (there_ends_pass g tries) (subst AtInstall (sym e) tt);
      here_when_it_comes = λ told server version e.
          two_end g tries job told Told.AlreadyThere Told.Ended Unknown AtInstall (Act.Finish Outcome.Here) tt tt (already_there g tries) (subst AtInstall (sym e) tt);
      pass_ends_when_away = λ seen downs rebuild. ap (λ k. next_by k g tries job (Told.PinnedStripe seen ∷ Told.Missing (found.Away downs) ∷ [])) rebuild;
      away_when_asked = λ seen downs rebuild. ap (λ k. next_by k g tries job (Told.PinnedStripe seen ∷ Told.Missing (found.Away downs) ∷ Told.Ended ∷ [])) rebuild;
      pass_ends_when_not_taken = λ told server version downs e.
          one_ends g tries job told (Told.Away downs) Unknown AtInstall (Act.AtDirectory DirectoryStep.End) tt (away_ends_pass g tries downs) (subst AtInstall (sym e) tt);
      away_when_it_comes = λ told server version downs e.
          two_end g tries job told (Told.Away downs) Told.Ended Unknown AtInstall (Act.Finish (Outcome.Away downs)) tt tt (not_taken g tries downs) (subst AtInstall (sym e) tt);
    }

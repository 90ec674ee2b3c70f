-- Where a call stands, by its next act, and where each answer brings it.
use Rattle.std.proofs.Common.{◌≡◌, ℕ, Bool, true, false, ◌&&◌, ◌||◌, nat_eq, nat_le, List, [], ◌∷◌, ◌++◌, IsTrue, refl, sym, subst, ◌+◌, ◌/◌, nat_lt, cond}
use mathlib.Core.Bool.{beq}
use Rattle.std.proofs.lemmas.Bool.{cond_both}
use Rattle.std.specs.List.{range_with_len}
use Rattle.store_core.specs.Placements.{skipped_from, skipped_count}
use Rattle.store_map.specs.declared.placement.Placement.{Placement}
use Rattle.clay_grid.specs.Shape.{Shape, chunk_count, stripe_length}
use Rattle.store_core.specs.Lists.{places_of}
use Rattle.store_core.specs.Told.{Told}
use Rattle.store_core.specs.Note.{Note, Kind}
use Rattle.store_core.specs.Act.{Act, DirectoryStep, ServerStep, Outcome}
use Rattle.store_core.specs.GatheringParts.{ending}
use Rattle.store_core.specs.Put.{settling, committed, committing, preparing, preparing_all, drawing, next_put}
use Rattle.store_core.specs.Read.{next_single}

-- before the look's answer, before the draw, up to the commit, a rebuild after its gathering, before the end of the pass, after the commit, over; no call makes a strange act
pub data Phase : Type 0 where
  Looking Gathering Drawing Drawn Confirming Ending Settling Finished Strange : Phase

-- where a call stands whose next step is at the directory
abbrev pub directory_phase : DirectoryStep → Phase
directory_phase (DirectoryStep.Look note) = Phase.Looking
directory_phase (DirectoryStep.LookRepair note) = Phase.Looking
directory_phase DirectoryStep.Draw = Phase.Drawing
directory_phase (DirectoryStep.Commit placed) = Phase.Drawn
directory_phase DirectoryStep.End = Phase.Ending
directory_phase DirectoryStep.Confirm = Phase.Confirming
directory_phase (DirectoryStep.Repaired server epoch) = Phase.Confirming
directory_phase _ = Phase.Strange

-- or at a server
abbrev pub server_phase : ServerStep → Phase
server_phase (ServerStep.Prepare version) = Phase.Drawn
server_phase (ServerStep.Settle version) = Phase.Settling
server_phase (ServerStep.Has version) = Phase.Gathering
server_phase (ServerStep.Fetch version layers) = Phase.Gathering
server_phase (ServerStep.Install version) = Phase.Confirming
server_phase _ = Phase.Strange

-- by any next act
abbrev pub phase_of : Act → Phase
phase_of (Act.AtDirectory step) = directory_phase step
phase_of (Act.AtServer server step) = server_phase step
phase_of (Act.Finish outcome) = Phase.Finished

-- whether the call has a pass
abbrev pub has_pass : Phase → Bool
has_pass Phase.Gathering = true
has_pass Phase.Drawing = true
has_pass Phase.Drawn = true
has_pass Phase.Confirming = true
has_pass Phase.Ending = true
has_pass _ = false

-- how many draws of a try may follow, with all later tries, this try, only later tries, none
abbrev pub rank : Phase → ℕ
rank Phase.Looking = 3
rank Phase.Gathering = 2
rank Phase.Drawing = 2
rank Phase.Drawn = 1
rank _ = 0

-- whether the call has a pass after an answer
abbrev pub pass_after : Told → Bool → Bool
pass_after (Told.Pinned point length_now stripes) had = true
pass_after (Told.Ready base length_now stripes) had = true
pass_after (Told.PinnedStripe seen) had = true
pass_after (Told.Done point) had = false
pass_after (Told.Changed base newer) had = false
pass_after Told.Ended had = false
pass_after (Told.Superseded newer) had = false
pass_after (Told.Reaped point) had = false
pass_after answer had = had

-- how an answer changes the rank
abbrev pub rank_moves : Told → ℕ → ℕ → Bool
rank_moves (Told.Versions versions) before after = nat_eq before 2 && nat_le after 1
rank_moves (Told.Changed base newer) before after = nat_eq before 1 && (nat_eq after 3 || nat_eq after 0)
rank_moves (Told.Done point) before after = nat_eq after 0
rank_moves answer before after = nat_le after before

-- an answer may bring a call from one phase to the other: the pass comes and goes with it, and the rank moves as it may
abbrev pub moves : Told → Phase → Phase → Bool
moves answer before after = beq (has_pass after) (pass_after answer (has_pass before)) && rank_moves answer (rank before) (rank after)

-- what a look answers a call of some kind
abbrev pub LookFits : Kind → Told → Type 0
LookFits Kind.Put (Told.Ready base length_now stripes) = Unit {0}
LookFits Kind.Write (Told.Ready base length_now stripes) = Unit {0}
LookFits Kind.Get (Told.Pinned point length_now stripes) = Unit {0}
LookFits Kind.ReadAt (Told.Pinned point length_now stripes) = Unit {0}
LookFits Kind.Rebuild (Told.Pinned point length_now stripes) = Unit {0}
LookFits kind (Told.Answer point reply) = Unit {0}
LookFits kind answer = ⊥

-- the answers of a step at the directory after which the told list grows by one
abbrev pub DirectoryFits : Kind → DirectoryStep → Told → Type 0
DirectoryFits kind (DirectoryStep.Look note) answer = LookFits kind answer
DirectoryFits kind (DirectoryStep.LookRepair note) Told.NoSuch = Unit {0}
DirectoryFits kind (DirectoryStep.LookRepair note) (Told.PinnedStripe seen) = Unit {0}
DirectoryFits kind DirectoryStep.Draw (Told.Versions versions) = Unit {0}
DirectoryFits kind DirectoryStep.Draw (Told.Reaped point) = Unit {0}
DirectoryFits kind (DirectoryStep.Commit placed) (Told.Reaped point) = Unit {0}
DirectoryFits kind DirectoryStep.End Told.Ended = Unit {0}
DirectoryFits kind DirectoryStep.End (Told.Reaped point) = Unit {0}
DirectoryFits kind DirectoryStep.Confirm Told.Current = Unit {0}
DirectoryFits kind DirectoryStep.Confirm (Told.Superseded newer) = Unit {0}
DirectoryFits kind DirectoryStep.Confirm (Told.Reaped point) = Unit {0}
DirectoryFits kind (DirectoryStep.Repaired server epoch) Told.Ended = Unit {0}
DirectoryFits kind (DirectoryStep.Repaired server epoch) (Told.Reaped point) = Unit {0}
DirectoryFits kind step answer = ⊥

-- the answers of a step at a server
abbrev pub ServerFits : ServerStep → Told → Type 0
ServerFits (ServerStep.Prepare version) (Told.Prepared last) = Unit {0}
ServerFits (ServerStep.Settle version) Told.Settled = Unit {0}
ServerFits (ServerStep.Has version) Told.Here = Unit {0}
ServerFits (ServerStep.Has version) (Told.Missing epoch) = Unit {0}
ServerFits (ServerStep.Fetch version layers) (Told.Given count) = Unit {0}
ServerFits (ServerStep.Fetch version layers) (Told.Missing epoch) = Unit {0}
ServerFits (ServerStep.Install version) (Told.Placed epoch) = Unit {0}
ServerFits (ServerStep.Install version) Told.AlreadyThere = Unit {0}
ServerFits (ServerStep.Install version) (Told.Away downs) = Unit {0}
ServerFits step answer = ⊥

-- want of memory may be told at any act
abbrev pub Fits : Kind → Act → Told → Type 0
Fits kind act Told.Short = Unit {0}
Fits kind (Act.AtDirectory step) answer = DirectoryFits kind step answer
Fits kind (Act.AtServer server step) answer = ServerFits step answer
Fits kind (Act.Finish outcome) answer = ⊥

-- an answer that fits brings one act to the next
abbrev pub Moves : Kind → Told → Act → Act → Type 0
Moves kind answer before after = Fits kind before answer → IsTrue (moves answer (phase_of before) (phase_of after))

-- a call that is over stays over
pub finished : (kind : Kind) (answer : Told) (before after : Outcome) → Moves kind answer (Act.Finish before) (Act.Finish after)
finished kind Told.Short before after h = refl
finished kind answer before after h = absurd h

module _ (kind : Kind) where
  -- while the pass is being ended
  pub ending_moves : (outcome : Outcome) (told : List Told) (answer : Told) → Moves kind answer (ending outcome told) (ending outcome (told ++ answer ∷ []))
  ending_moves outcome [] Told.Ended h = refl
  ending_moves outcome [] (Told.Reaped point) h = refl
  ending_moves outcome [] Told.Short h = refl
  ending_moves outcome [] answer h = absurd h
  ending_moves outcome (Told.Ended ∷ told) answer h = finished kind answer outcome outcome h
  ending_moves outcome (Told.Reaped point ∷ told) answer h = finished kind answer (Outcome.Reaped point) (Outcome.Reaped point) h
  ending_moves outcome (_ ∷ told) answer h = ending_moves Outcome.NoMemory told answer h

  -- after the commit
  settling_moves : (point : ℕ) (places : List (ℕ × ℕ)) (told : List Told) (answer : Told) → Moves kind answer (settling point places told) (settling point places (told ++ answer ∷ []))
  settling_moves point [] [] Told.Short h = refl
  settling_moves point [] [] answer h = absurd h
  settling_moves point [] (other ∷ told) Told.Short h = refl
  settling_moves point [] (other ∷ told) answer h = absurd h
  settling_moves point (place ∷ []) [] Told.Settled h = refl
  settling_moves point (place ∷ []) [] Told.Short h = refl
  settling_moves point (place ∷ []) [] answer h = absurd h
  settling_moves point (place ∷ next ∷ places) [] Told.Settled h = refl
  settling_moves point (place ∷ next ∷ places) [] Told.Short h = refl
  settling_moves point (place ∷ next ∷ places) [] answer h = absurd h
  settling_moves point (place ∷ places) (_ ∷ told) answer h = settling_moves point places told answer h

  -- after the commit, by what is kept of it
  pub committed_moves : (g : Shape) (versions : List ℕ) (told : List Told) (answer : Told) → Moves kind answer (committed g versions told) (committed g versions (told ++ answer ∷ []))
  committed_moves g versions [] Told.Short h = refl
  committed_moves g versions [] answer h = absurd h
  committed_moves g versions (Told.Done point ∷ told) answer h = settling_moves point (places_of (chunk_count g) versions) told answer h
  committed_moves g versions (_ ∷ told) answer h = finished kind answer Outcome.NoMemory Outcome.NoMemory h

  -- at the commit
  committing_moves : (placed : List (List Placement)) (told : List Told) (answer : Told) → Moves kind answer (committing placed told) (committing placed (told ++ answer ∷ []))
  committing_moves placed [] (Told.Reaped point) h = refl
  committing_moves placed [] Told.Short h = refl
  committing_moves placed [] answer h = absurd h
  committing_moves placed (Told.Reaped point ∷ told) answer h = finished kind answer (Outcome.Reaped point) (Outcome.Reaped point) h
  committing_moves placed (_ ∷ told) answer h = ending_moves Outcome.NoMemory told answer h

  -- the next prepare, or what follows the last one
  preparing_opens : (g : Shape) (stripe version : ℕ) (next : List Placement → List Told → Act) → ((row : List Placement) → phase_of (next row []) ≡ Phase.Drawn)
      → (servers : List ℕ) (row : List Placement) → phase_of (preparing g stripe version next servers row []) ≡ Phase.Drawn
  preparing_opens g stripe version next opens [] row = opens row
  preparing_opens g stripe version next opens (server ∷ servers) row = refl

  unless_moves : (b : Bool) (outcome : Outcome) (told : List Told) (answer : Told) (now later : Act) → Moves kind answer now later
      → Moves kind answer (cond b (ending outcome told) now) (cond b (ending outcome (told ++ answer ∷ [])) later)
  unless_moves true outcome told answer now later on h = ending_moves outcome told answer h
  unless_moves false outcome told answer now later on h = on h

  -- while chunks of one version are prepared
  preparing_moves : (g : Shape) (stripe version : ℕ) (next : List Placement → List Told → Act) → ((row : List Placement) → phase_of (next row []) ≡ Phase.Drawn)
      → ((row : List Placement) (told : List Told) (answer : Told) → Moves kind answer (next row told) (next row (told ++ answer ∷ [])))
      → (servers : List ℕ) (row : List Placement) (told : List Told) (answer : Told)
      → Moves kind answer (preparing g stripe version next servers row told) (preparing g stripe version next servers row (told ++ answer ∷ []))
  preparing_moves g stripe version next opens on [] row told answer h = on row told answer h
  preparing_moves g stripe version next opens on (server ∷ servers) row [] (Told.Prepared last) h =
      let now : List Placement = row ++ last ∷ [] in
      cond_both {A = Act} (nat_lt g.parity_count (skipped_count now)) (ending (Outcome.Unavailable stripe (skipped_from 0 now)) []) (preparing g stripe version next servers now [])
      (λ act. IsTrue (moves (Told.Prepared last) Phase.Drawn (phase_of act))) (λ _. refl)
      (λ _. subst (λ p. IsTrue (moves (Told.Prepared last) Phase.Drawn p)) (sym (preparing_opens g stripe version next opens servers now)) refl)
  preparing_moves g stripe version next opens on (server ∷ servers) row [] Told.Short h = refl
  preparing_moves g stripe version next opens on (server ∷ servers) row [] answer h = absurd h
  preparing_moves g stripe version next opens on (server ∷ servers) row (Told.Prepared last ∷ told) answer h =
      let now : List Placement = row ++ last ∷ [] in
      unless_moves (nat_lt g.parity_count (skipped_count now)) (Outcome.Unavailable stripe (skipped_from 0 now)) told answer
      (preparing g stripe version next servers now told) (preparing g stripe version next servers now (told ++ answer ∷ []))
      (preparing_moves g stripe version next opens on servers now told answer) h
  preparing_moves g stripe version next opens on (server ∷ servers) row (_ ∷ told) answer h = ending_moves Outcome.NoMemory told answer h

  -- a draw is followed by a prepare or the commit
  preparing_all_opens : (g : Shape) (stripe : ℕ) (versions : List ℕ) (placed : List (List Placement)) → phase_of (preparing_all g stripe versions placed []) ≡ Phase.Drawn
  preparing_all_opens g stripe [] placed = refl
  preparing_all_opens g stripe (version ∷ versions) placed =
      preparing_opens g stripe version (λ row. preparing_all g (stripe + 1) versions (placed ++ row ∷ [])) (λ row. preparing_all_opens g (stripe + 1) versions (placed ++ row ∷ []))
      (range_with_len 0 (chunk_count g)) []

  -- while those of all versions are
  preparing_all_moves : (g : Shape) (stripe : ℕ) (versions : List ℕ) (placed : List (List Placement)) (told : List Told) (answer : Told)
      → Moves kind answer (preparing_all g stripe versions placed told) (preparing_all g stripe versions placed (told ++ answer ∷ []))
  preparing_all_moves g stripe [] placed told answer h = committing_moves placed told answer h
  preparing_all_moves g stripe (version ∷ versions) placed told answer h =
      preparing_moves g stripe version (λ row. preparing_all g (stripe + 1) versions (placed ++ row ∷ [])) (λ row. preparing_all_opens g (stripe + 1) versions (placed ++ row ∷ []))
      (λ row. preparing_all_moves g (stripe + 1) versions (placed ++ row ∷ [])) (range_with_len 0 (chunk_count g)) [] told answer h

  -- from the draw on
  pub drawing_moves : (g : Shape) (note : Note) (told : List Told) (answer : Told) → Moves kind answer (drawing g note told) (drawing g note (told ++ answer ∷ []))
  drawing_moves g note [] (Told.Versions versions) h =
      subst (λ p. IsTrue (moves (Told.Versions versions) Phase.Drawing p)) (sym (preparing_all_opens g (note.offset / stripe_length g) versions [])) refl
  drawing_moves g note [] (Told.Reaped point) h = refl
  drawing_moves g note [] Told.Short h = refl
  drawing_moves g note [] answer h = absurd h
  drawing_moves g note (Told.Versions versions ∷ told) answer h = preparing_all_moves g (note.offset / stripe_length g) versions [] told answer h
  drawing_moves g note (Told.Reaped point ∷ told) answer h = finished kind answer (Outcome.Reaped point) (Outcome.Reaped point) h
  drawing_moves g note (_ ∷ told) answer h = ending_moves Outcome.NoMemory told answer h

-- ---- a put, a stat and a delete
pub put_moves : (g : Shape) (note : Note) (told : List Told) (answer : Told) → Moves Kind.Put answer (next_put g note told) (next_put g note (told ++ answer ∷ []))
put_moves g note [] (Told.Answer point reply) h = refl
put_moves g note [] (Told.Ready base length_now stripes) h = refl
put_moves g note [] Told.Short h = refl
put_moves g note [] answer h = absurd h
put_moves g note (Told.Answer point reply ∷ told) answer h = finished Kind.Put answer (Outcome.Answered point reply) (Outcome.Answered point reply) h
put_moves g note (Told.Ready base length_now stripes ∷ told) answer h = drawing_moves Kind.Put g note told answer h
put_moves g note (Told.Versions versions ∷ told) answer h = committed_moves Kind.Put g versions told answer h
put_moves g note (_ ∷ told) answer h = finished Kind.Put answer Outcome.NoMemory Outcome.NoMemory h

-- a call whose look can only answer
abbrev pub OnlyAnswers : Kind → Type 0
OnlyAnswers Kind.Stat = Unit {0}
OnlyAnswers Kind.Delete = Unit {0}
OnlyAnswers _ = ⊥

-- a stat or a delete ends with its look
pub single_moves : (kind : Kind) → OnlyAnswers kind → (note : Note) (told : List Told) (answer : Told) → Moves kind answer (next_single note told) (next_single note (told ++ answer ∷ []))
single_moves Kind.Stat only note [] (Told.Answer point reply) h = refl
single_moves Kind.Stat only note [] Told.Short h = refl
single_moves Kind.Stat only note [] answer h = absurd h
single_moves Kind.Delete only note [] (Told.Answer point reply) h = refl
single_moves Kind.Delete only note [] Told.Short h = refl
single_moves Kind.Delete only note [] answer h = absurd h
single_moves kind only note [] answer h = absurd only
single_moves kind only note (Told.Answer point reply ∷ told) answer h = finished kind answer (Outcome.Answered point reply) (Outcome.Answered point reply) h
single_moves kind only note (_ ∷ told) answer h = finished kind answer Outcome.NoMemory Outcome.NoMemory h

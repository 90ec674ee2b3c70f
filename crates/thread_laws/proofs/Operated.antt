-- The operator's steps at a place are the first of the script's lines there.
use Rattle.std.proofs.Common.{◌≡◌, ℕ, Bool, true, false, cond, nat_lt, if◌then◌else◌, List, [], ◌∷◌, ◌++◌, length, filter, Option, None, Some, IfSome, refl, sym, ap, subst, ◌∙◌, append_assoc}
use Rattle.std.proofs.lemmas.List.{append-nil}
use Rattle.std.proofs.lemmas.List.Elements.{All-nil, All-head, All-tail, All-push, filter-append}
use Rattle.std.specs.Prelude.{All}
use mathlib.Core.List.{IsPrefix}
use Rattle.clay_grid.specs.Shape.{Shape, chunk_count}
use Rattle.store_map.specs.declared.actor.Actor.{Actor}
use Rattle.store_map.specs.declared.actor.Actor.TheVariants as actor
use Rattle.store_map.specs.declared.actor.Token.{Token}
use Rattle.store_map.specs.declared.script.Script.{Script}
use Rattle.store_core.specs.Act.{Act, DirectoryStep, ServerStep, Outcome}
use Rattle.store_core.specs.ActPlace.{ActPlace}
use Rattle.store_core.specs.Gathering.{Part}
use Rattle.store_core.specs.Lookups.{same_actor}
use Rattle.store_core.specs.NextAct.{Job}
use Rattle.store_core.specs.Note.{Kind}
use Rattle.store_core.specs.Sweep.{Sweeper, next_sweep}
use Rattle.run_laws.specs.Stage.{Aim, Asking, Stage}
use Rattle.run_laws.specs.Stages.{first_stage}
use Rattle.run_laws.specs.StageAfter.{step_asked}
use Rattle.run_laws.specs.State.{Sequel, State}
use Rattle.run_laws.specs.StateActs.{act_at, parts_act, sequel_act, stage_act, start_act}
use Rattle.thread_laws.specs.AtPlaces.{after_all, AllCome}
use Rattle.thread_laws.specs.Lines.{lines_next, IsNextLine}
use Rattle.thread_laws.specs.MadeSteps.{MadeStep, acts_at, is_at, is_by}
use Rattle.thread_laws.specs.OwnSteps.{own_steps}
use Rattle.thread_laws.specs.Threaded.{lines_of}
use Rattle.thread_laws.proofs.Own.{keep_lists}
use Rattle.call_steps.specs.CallOf.{CallOf, act_of}
use Rattle.turn_lock.specs.History.{Among, entries_of, GoesOn}
use Rattle.thread_laws.specs.Entries.{steps_in}
use Rattle.thread_laws.specs.Noted.{Noted, IsCaller, made_in}
use Rattle.thread_laws.specs.Numbers.{Counts, IsTurnOf}
use Rattle.thread_laws.proofs.Adding.{steps_more}
use Rattle.thread_laws.proofs.PlaceOwn.{own_steps as entries_are, steps_more as notes_more}
use Rattle.thread_laws.specs.Operated.{act_listed, acts_in, acts_of, acts_there, is_operators, is_outage, operated_in, IsNextThere, IsOperated, LinesAreNext}

-- a step that only the operator makes is its own, and its own are such
abbrev IsHis : MadeStep → Type 0
IsHis m = is_operators m.act ≡ is_by actor.Operator m

-- a step of another actor, which the operator doesn't make
abbrev pub IsOthers : MadeStep → Type 0
IsOthers m = (is_operators m.act ≡ false) × (is_by actor.Operator m ≡ false)

-- ---- one step more
acts_more : (steps : List MadeStep) (m : MadeStep) → acts_in (steps ++ m ∷ []) ≡ acts_in steps ++ m.act ∷ []
acts_more [] m = refl
acts_more (x ∷ steps) m = ap (λ (l : List Act). x.act ∷ l) (acts_more steps m)

operated_more : (steps : List MadeStep) (m : MadeStep) (b : Bool) → is_operators m.act ≡ b → operated_in (steps ++ m ∷ []) ≡ operated_in steps ++ cond {A = List Act} b (m.act ∷ []) []
operated_more steps m b is =
    ap (filter is_operators) (acts_more steps m)
    ∙ (filter-append is_operators (acts_in steps) (m.act ∷ []) ∙ ap (λ (c : Bool). operated_in steps ++ cond {A = List Act} c (m.act ∷ []) []) is)

-- of a step of another actor
pub others_operated : (script : Option Script) (place : ActPlace) (steps : List MadeStep) (m : MadeStep) → IsOthers m → IsOperated script place steps → IsOperated script place (steps ++ m ∷ [])
others_operated script place steps m other is =
    record {
      whose = All-push IsHis steps m is.whose (other.0 ∙ sym other.1);
      lines =
          subst (λ (l : List Act). IfSome script (λ (s : Script). IsPrefix l (acts_there place (lines_of s)))) (sym (operated_more steps m false other.0 ∙ append-nil (operated_in steps))) is.lines;
    }

-- ---- a history's steps that only the operator makes are the operator's own
one_placed : (b : Bool) (m : MadeStep) (acts : List Act) (steps : List MadeStep) → acts ≡ acts_in steps → cond {A = List Act} b (m.act ∷ acts) acts ≡ acts_in (cond {A = List MadeStep} b (m ∷ steps) steps)
one_placed true m acts steps same = ap (λ (l : List Act). m.act ∷ l) same
one_placed false m acts steps same = same

operated_own : (steps : List MadeStep) → All IsHis steps → operated_in steps ≡ acts_in (filter (is_by actor.Operator) steps)
operated_own [] his = refl
operated_own (m ∷ steps) his =
    ap (λ (b : Bool). cond {A = List Act} b (m.act ∷ operated_in steps) (operated_in steps)) (All-head IsHis m steps his)
    ∙ one_placed (is_by actor.Operator m) m (operated_in steps) (filter (is_by actor.Operator) steps) (operated_own steps (All-tail IsHis m steps his))

-- its next line
module _ (place : ActPlace) (steps own : List MadeStep) (m : MadeStep) (ours_are : filter (is_by actor.Operator) steps ≡ own) (its : m.actor ≡ actor.Operator) (theirs : is_operators m.act ≡ true) where
  line_more : All IsHis steps → operated_in (steps ++ m ∷ []) ≡ acts_in own ++ m.act ∷ []
  line_more his = operated_more steps m true theirs ∙ ap (λ (l : List Act). l ++ m.act ∷ []) (operated_own steps his ∙ ap acts_in ours_are)

  next_lines : (script : Option Script) → All IsHis steps → IfSome script (λ (s : Script). IsNextThere s place own m.act)
      → IfSome script (λ (s : Script). IsPrefix (operated_in (steps ++ m ∷ [])) (acts_there place (lines_of s)))
  next_lines None his next = tt
  next_lines (Some s) his next = subst (λ (l : List Act). IsPrefix l (acts_there place (lines_of s))) (sym (line_more his)) next

  pub line_operated : (script : Option Script) → IfSome script (λ (s : Script). IsNextThere s place own m.act) → IsOperated script place steps → IsOperated script place (steps ++ m ∷ [])
  line_operated script next is =
      record { whose = All-push IsHis steps m is.whose (theirs ∙ sym (ap (same_actor actor.Operator) its)); lines = next_lines script is.whose next }

-- ---- in a history
pub none_operated : (script : Option Script) (place : ActPlace) → IsOperated script place []
none_operated script place = record { whose = All-nil IsHis; lines = by script }
  where
    by : (s : Option Script) → IfSome s (λ (x : Script). IsPrefix [] (acts_there place (lines_of x)))
    by None = tt
    by (Some x) = (acts_there place (lines_of x), refl)

pub others_at_server : (script : Option Script) (place : ActPlace) (log : List (ℕ × MadeStep)) (entry : ℕ × MadeStep) → IsOthers entry.1 → IsOperated script place (steps_in log)
    → IsOperated script place (steps_in (log ++ entry ∷ []))
others_at_server script place log entry other is = subst (IsOperated script place) (sym (steps_more log entry)) (others_operated script place (steps_in log) entry.1 other is)

pub others_at_directory : (script : Option Script) (place : ActPlace) (log : List (ℕ × Noted)) (entry : ℕ × Noted) → IsOthers entry.1.made → IsOperated script place (made_in log)
    → IsOperated script place (made_in (log ++ entry ∷ []))
others_at_directory script place log entry other is =
    subst (IsOperated script place) (sym (notes_more (λ (n : Noted). n.made) log entry)) (others_operated script place (made_in log) entry.1.made other is)

module _ (of : Counts) (script : Option Script) (place : ActPlace) (number : ℕ) (turn : IsTurnOf of number actor.Operator) (numbers : List ℕ) (among : Among number numbers) where
  pub line_at_server :
      (seen log : List (ℕ × MadeStep)) (m : MadeStep) → All (λ (entry : ℕ × MadeStep). IsTurnOf of entry.0 entry.1.actor) log → GoesOn numbers seen log → m.actor ≡ actor.Operator → is_operators m.act ≡ true
      → IfSome script (λ (s : Script). IsNextThere s place (steps_in (entries_of number seen)) m.act) → IsOperated script place (steps_in log) → IsOperated script place (steps_in (log ++ (number, m) ∷ []))
  line_at_server seen log m turns goes its theirs next is =
      subst (IsOperated script place) (sym (steps_more log (number, m)))
      (line_operated place (steps_in log) (steps_in (entries_of number seen)) m (entries_are (λ (x : MadeStep). x) of number actor.Operator turn log turns ∙ ap steps_in (goes.1 number among)) its theirs script next is)

  pub line_at_directory :
      (seen log : List (ℕ × Noted)) (note : Noted) → All (λ (entry : ℕ × Noted). IsTurnOf of entry.0 entry.1.made.actor) log → GoesOn numbers seen log → note.made.actor ≡ actor.Operator → is_operators note.made.act ≡ true
      → IfSome script (λ (s : Script). IsNextThere s place (made_in (entries_of number seen)) note.made.act) → IsOperated script place (made_in log) → IsOperated script place (made_in (log ++ (number, note) ∷ []))
  line_at_directory seen log note turns goes its theirs next is =
      subst (IsOperated script place) (sym (notes_more (λ (n : Noted). n.made) log (number, note)))
      (line_operated place (made_in log) (made_in (entries_of number seen)) note.made
      (entries_are (λ (n : Noted). n.made) of number actor.Operator turn log turns ∙ ap made_in (goes.1 number among)) its theirs script next is)

-- ---- the operator's list
listed : (steps : List MadeStep) (lines : List Token) → AllCome lines_next IsNextLine steps lines → acts_of lines ≡ acts_in steps ++ acts_of (after_all lines_next steps lines)
listed [] lines come = refl
listed (m ∷ steps) [] come = absurd come.0
listed (m ∷ steps) (line ∷ lines) come = ap (λ (o : Option Act). act_listed o ++ acts_of lines) come.0.0 ∙ ap (λ (l : List Act). m.act ∷ l) (listed steps lines come.1)

placed : (place : ActPlace) (steps : List MadeStep) → filter (acts_at place) (acts_in steps) ≡ acts_in (filter (is_at place) steps)
placed place [] = refl
placed place (m ∷ steps) = one_placed (is_at place m) m (filter (acts_at place) (acts_in steps)) (filter (is_at place) steps) (placed place steps)

pub lines_are_next : LinesAreNext
lines_are_next script at line left place act operating is there =
    let steps : List MadeStep = own_steps (chunk_count script.geometry) at in
    let all : acts_of (lines_of script) ≡ acts_in steps ++ acts_of (line ∷ left) =
    listed steps (lines_of script) operating.come ∙ ap (λ (l : List Token). acts_in steps ++ acts_of l) (sym operating.leads) in
    let own : filter (acts_at place) (acts_in steps) ≡ acts_in (at place) = placed place steps ∙ ap acts_in ((keep_lists (chunk_count script.geometry) at operating.own).places place) in
    let first : acts_there place (line ∷ left) ≡ act ∷ acts_there place left =
    ap (λ (o : Option Act). filter (acts_at place) (act_listed o ++ acts_of left)) is
    ∙ ap (λ (b : Bool). cond {A = List Act} b (act ∷ acts_there place left) (acts_there place left)) there in (
      acts_there place left,
      append_assoc (acts_in (at place)) (act ∷ []) (acts_there place left)
          ∙ sym (ap (filter (acts_at place)) all ∙ (filter-append (acts_at place) (acts_in steps) (acts_of (line ∷ left)) ∙ (λ i. own i ++ first i))),
    )

-- ---- other actors make no such step
pub callers_differ : (who : Actor) → IsCaller who → same_actor actor.Operator who ≡ false
callers_differ (actor.Client i) calls = refl
callers_differ (actor.Repairer i) calls = refl
callers_differ actor.Sweeper calls = absurd calls
callers_differ actor.Operator calls = absurd calls

asked_plain : (g : Shape) (aim : Aim) (asking : Asking) → is_outage (step_asked g aim asking) ≡ false
asked_plain g aim (Asking.Fetch server more missing) = refl
asked_plain g aim (Asking.Look server more missing) = refl
asked_plain g aim (Asking.Repair server more lost) = refl
asked_plain g aim (Asking.Whole server more wanted missing) = refl
asked_plain g aim (Asking.Target server) = refl

stage_plain : (g : Shape) (bytes : Act) (aim : Aim) (stage : Stage) → is_operators bytes ≡ false → is_operators (stage_act g bytes aim stage) ≡ false
stage_plain g bytes aim (Stage.Asks asking) plain = asked_plain g aim asking
stage_plain g bytes aim Stage.HasBytes plain = plain
stage_plain g bytes aim (Stage.TooMany missing) plain = refl
stage_plain g bytes aim Stage.AtTarget plain = refl
stage_plain g bytes aim (Stage.TargetAway downs) plain = refl
stage_plain g bytes aim Stage.Short plain = refl

sequel_plain : (after : Sequel) → is_operators (sequel_act after) ≡ false
sequel_plain (Sequel.Serve point) = refl
sequel_plain Sequel.Draw = refl
sequel_plain (Sequel.Confirm seen target) = refl

parts_plain : (g : Shape) (parts : List Part) (after : Sequel) → is_operators (parts_act g parts after) ≡ false
parts_plain g [] after = sequel_plain after
parts_plain g (part ∷ parts) after = stage_plain g (parts_act g parts after) (Aim.Range part) (first_stage g (Aim.Range part)) (parts_plain g parts after)

tried_plain : (b : Bool) (job : Job) (pairs : List (ℕ × ℕ)) → is_operators (if b then Act.AtDirectory (DirectoryStep.Look job.note) else Act.Finish (Outcome.Contended pairs)) ≡ false
tried_plain true job pairs = refl
tried_plain false job pairs = refl

start_plain : (kind : Kind) (tries : ℕ) (job : Job) (pairs : List (ℕ × ℕ)) → is_operators (start_act kind tries job pairs) ≡ false
start_plain Kind.Write tries job pairs = tried_plain (nat_lt (length pairs) tries) job pairs
start_plain Kind.Rebuild tries job pairs = refl
start_plain kind tries job pairs = refl

state_plain : (g : Shape) (tries : ℕ) (job : Job) (pairs : List (ℕ × ℕ)) (state : State) → is_operators (act_at g tries job pairs state) ≡ false
state_plain g tries job pairs State.Start = start_plain job.note.kind tries job pairs
state_plain g tries job pairs (State.Parts part parts after) = parts_plain g (part ∷ parts) after
state_plain g tries job pairs (State.Chunk seen target) = refl
state_plain g tries job pairs (State.Gather aim asking parts after) = asked_plain g aim asking
state_plain g tries job pairs State.Drawing = refl
state_plain g tries job pairs (State.Preparing stripe version server servers row later placed versions) = refl
state_plain g tries job pairs (State.Committing versions placed) = refl
state_plain g tries job pairs (State.Committed versions) = refl
state_plain g tries job pairs (State.Settling point place places) = refl
state_plain g tries job pairs (State.Confirming seen target) = refl
state_plain g tries job pairs (State.Installing seen target) = refl
state_plain g tries job pairs (State.Placing target epoch) = refl
state_plain g tries job pairs (State.Ending outcome) = refl
state_plain g tries job pairs (State.Finished outcome) = refl

pub calls_plain : (c : CallOf) → is_operators (act_of c) ≡ false
calls_plain c = state_plain c.book.geometry c.tries c.job c.state.pairs c.state.at

discard_plain : (b : Bool) (version server : ℕ) → is_operators (if b then Act.AtServer server (ServerStep.Discard version) else Act.AtDirectory (DirectoryStep.Swept version)) ≡ false
discard_plain true version server = refl
discard_plain false version server = refl

pub sweeps_plain : (servers : ℕ) (sweeper : Sweeper) → is_operators (next_sweep servers sweeper) ≡ false
sweeps_plain servers Sweeper.Idle = refl
sweeps_plain servers (Sweeper.Sweeping version server) = discard_plain (nat_lt server servers) version server

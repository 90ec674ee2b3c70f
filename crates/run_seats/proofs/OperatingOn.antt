-- The seated operator before and after its step.
use Rattle.std.proofs.Common.{IfSome, eq-eqb, slice_get, ◌≡◌, ℕ, ◌+◌, ◌-◌, ◌<◌, true, All, List, ◌∷◌, drop, get_or, length, set, Option, None, Some, refl, sym, ap, subst, ◌∙◌, ltb-true, arith}
use Rattle.std.proofs.lemmas.List.{drop_more}
use Rattle.std.proofs.lemmas.List.Elements.{All-filter, All-get_or, filter_passes}
use Rattle.clay_grid.specs.Shape.{chunk_count}
use Rattle.store_map.specs.Naming.{NamesPart}
use Rattle.store_map.specs.declared.actor.Actor.{Actor}
use Rattle.store_map.specs.declared.actor.Actor.TheVariants as actor
use Rattle.store_map.specs.declared.actor.Token.{Token}
use Rattle.store_map.specs.declared.actor.Token.TheVariants as token
use Rattle.store_map.specs.declared.script.Script.{Script}
use Rattle.store_core.specs.Act.{Act, DirectoryStep}
use Rattle.store_core.specs.ActPlace.{ActPlace}
use Rattle.thread_laws.specs.Lines.{operator_act}
use Rattle.thread_laws.specs.MadeSteps.{MadeStep, acts_at}
use Rattle.thread_laws.specs.Threaded.{is_line, lines_of}
use Rattle.turn_lock.specs.TurnState.{TurnState}
use Rattle.thread_laws.specs.Noted.{Noted}
use Rattle.thread_laws.specs.Numbers.{IsTurnOf}
use Rattle.thread_laws.specs.Callers.{IsOperating}
use Rattle.thread_laws.specs.Logs.{Logs, counts_of, log_of, own_at}
use Rattle.thread_laws.specs.Plain.{HasAddedAtServer, HasAddedAtDirectory}
use Rattle.thread_laws.specs.Stepped.{with_log}
use Rattle.turn_lock.specs.History.{entries_of}
use Rattle.thread_laws.specs.Entries.{steps_in}
use Rattle.thread_laws.specs.Operated.{IsNextThere}
use Rattle.thread_laws.proofs.Operated.{lines_are_next}
use Rattle.thread_laws.proofs.Plain.{operating_goes_on}
use Rattle.run_seats.specs.Places.{HasTurns, directory_of, last_by, seen_by, server_of}
use Rattle.run_seats.specs.Plain.{HasOperatedAtServer, IsLineAtServer, IsLineAtDirectory, IsOfServer, line_step}
use Rattle.run_seats.specs.SeatedPlain.{MayOperate, OperatesOn}
use Rattle.run_seats.specs.declared.server_box.ServerIdentity.{ServerIdentity}
use Rattle.run_seats.specs.declared.directory_box.DirectoryIdentity.{DirectoryIdentity}
use Rattle.run_seats.specs.declared.seated_operator.SeatedOperator.{SeatedOperator}
use Rattle.run_seats.specs.declared.store.Store.{Store}
use Rattle.run_seats.specs.declared.seat_turns.Turns.{Turns}
use Rattle.run_seats.proofs.Placing.{count_seen, log_at, log_here, seen_here, turns_here, turns_there}

-- ---- the server of a line
abbrev server_in : Option Act → ℕ
server_in (Some (Act.AtServer server step)) = server
server_in (Some (Act.AtDirectory step)) = 0
server_in (Some (Act.Finish outcome)) = 0
server_in None = 0

-- it is one of the script
named : (script : Script) (line : Token) (j : ℕ) → NamesPart script line → IsOfServer line → operator_act line ≡ Some (Act.AtServer j (line_step line)) → j < chunk_count script.geometry
named script (token.Wipe server) j names of_server e = subst (λ (n : ℕ). n < chunk_count script.geometry) (ap server_in e) names
named script (token.Down server) j names of_server e = subst (λ (n : ℕ). n < chunk_count script.geometry) (ap server_in e) names.1
named script (token.Up server) j names of_server e = subst (λ (n : ℕ). n < chunk_count script.geometry) (ap server_in e) names.1
named script line j names of_server e = absurd of_server

-- the step was made there
operated_there : (j number last : ℕ) (seen now : List (ℕ × MadeStep)) (line : Token) → operator_act line ≡ Some (Act.AtServer j (line_step line)) → HasOperatedAtServer number last seen now line
    → HasAddedAtServer number last seen now actor.Operator (Act.AtServer j (line_step line))
operated_there j number last seen now line acts made =
    subst (λ (k : ℕ). HasAddedAtServer number last seen now actor.Operator (Act.AtServer k (line_step line))) (ap server_in (sym made.acts ∙ acts)) made.added

-- a line more is made of them
fewer : (after before lines all : ℕ) → after ≡ before + 1 → lines ≡ all → before < lines → all - after < all - before
fewer after before lines all more same less = omega (arith, more, same, less)

module _ (store : Store) (seated : SeatedOperator) (may : MayOperate store seated) (line : Token) (next : line ≡ get_or seated.lines.items seated.made line) where
  abbrev script : Script
  script = store.script.now

  -- its own steps at each place by what its turns have seen, and its lines after this one
  abbrev own : ActPlace → List MadeStep
  own = own_at seated.turns.number (seen_by seated.turns)

  abbrev left : List Token
  left = drop (seated.made + 1) seated.lines.items

  less_lines : seated.made < length seated.lines.items
  less_lines = ltb-true seated.made (length seated.lines.items) may.has

  -- what holds of all its lines holds of this one
  of_lines : (P : Token → Type 0) → All P (lines_of store.script.now) → P line
  of_lines P all = subst P (sym next) (All-get_or P seated.lines.items seated.made line less_lines (subst (All P) (sym may.seated_is.lines) all))

  pub line_is : is_line line ≡ true
  line_is = of_lines (λ (x : Token). is_line x ≡ true) (filter_passes is_line script.schedule)

  names : NamesPart script line
  names = of_lines (NamesPart script) (All-filter is_line (NamesPart script) script.schedule may.store_is.valid.names.tokens)

  pub line_below : (j : ℕ) → IsOfServer line × (operator_act line ≡ Some (Act.AtServer j (line_step line))) → j < chunk_count store.script.now.geometry
  line_below j there = named script line j names there.0 there.1

  operating : IsOperating script own (line ∷ left)
  operating =
      subst (IsOperating script own) (drop_more seated.lines.items seated.made line less_lines ∙ ap (λ (x : Token). x ∷ left) (sym next)) may.seated_is.operating

  -- ---- before the step
  -- the line is the next one at its place
  next_line : (place : ActPlace) (act : Act) → operator_act line ≡ Some act → acts_at place act ≡ true → IfSome store.book.now.script (λ (s : Script). IsNextThere s place (own place) act)
  next_line place act acts there =
      subst (λ (o : Option Script). IfSome o (λ (s : Script). IsNextThere s place (own place) act)) (sym may.store_is.written) (lines_are_next script own line left place act operating acts there)

  pub may_operate_server : (j : ℕ) (turn : TurnState ServerIdentity MadeStep) → slice_get seated.turns.servers.items j ≡ Some turn → turn.fixed ≡ Some (server_of store j)
      → IsOfServer line × (operator_act line ≡ Some (Act.AtServer j (line_step line))) → IsLineAtServer turn.fixed seated.turns.number turn.seen line
  may_operate_server j turn at fixed there =
      record {
        identity = server_of store j;
        is = fixed;
        of_server = there.0;
        acts = there.1;
        turn = may.seated_is.turn;
        next =
            subst
            (λ (l : List (ℕ × MadeStep)). IfSome store.book.now.script (λ (s : Script). IsNextThere s (ActPlace.Server j) (steps_in (entries_of seated.turns.number l)) (Act.AtServer j (line_step line))))
            (log_at seated.turns j turn at) (next_line (ActPlace.Server j) (Act.AtServer j (line_step line)) there.1 (eq-eqb j j refl));
      }

  pub may_reap : (who : Actor) → operator_act line ≡ Some (Act.AtDirectory (DirectoryStep.Reap who)) → IsLineAtDirectory seated.turns.directory.fixed seated.turns.number seated.turns.directory.seen who
  may_reap who acts =
      record {
        identity = directory_of store;
        is = may.seated_is.turns.directory.fixed;
        turn = may.seated_is.turn;
        next = next_line ActPlace.Directory (Act.AtDirectory (DirectoryStep.Reap who)) acts refl;
      }

  -- ---- with other turns
  module _ (now : SeatedOperator) (turns : HasTurns store now.turns) (number : now.turns.number ≡ seated.turns.number) (lines : now.lines.items ≡ seated.lines.items) (one_more : now.made ≡ seated.made + 1)
      (operates : IsOperating script (own_at seated.turns.number (seen_by now.turns)) left) where
    operates_on : OperatesOn store seated now
    operates_on =
        record {
          seated_is = record {
            turns = turns;
            turn = subst (λ (n : ℕ). IsTurnOf (counts_of script) n actor.Operator) (sym number) may.seated_is.turn;
            lines = lines ∙ may.seated_is.lines;
            operating =
                subst (λ (n : ℕ). IsOperating script (own_at n (seen_by now.turns)) (drop now.made now.lines.items)) (sym number)
                (subst (λ (k : ℕ). IsOperating script (own_at seated.turns.number (seen_by now.turns)) (drop k now.lines.items)) (sym one_more)
                (subst (λ (xs : List Token). IsOperating script (own_at seated.turns.number (seen_by now.turns)) (drop (seated.made + 1) xs)) (sym lines) operates));
          };
          same = number;
          one_more = one_more;
          falls = fewer now.made seated.made (length seated.lines.items) (length (lines_of script)) one_more (ap length may.seated_is.lines) less_lines;
        }

  module _ (last : ℕ) (last_is : last ≡ last_by store seated.turns) where
    -- ---- after a step at the directory
    pub operated_on_directory : (who : Actor) (turn : TurnState DirectoryIdentity Noted) → operator_act line ≡ Some (Act.AtDirectory (DirectoryStep.Reap who)) → turn ≡ record seated.turns.directory { seen = turn.seen }
        → HasAddedAtDirectory seated.turns.number last seated.turns.directory.seen turn.seen actor.Operator (Act.AtDirectory (DirectoryStep.Reap who))
        → OperatesOn store seated (record { lines = seated.lines; made = seated.made + 1; turns = record seated.turns { directory = turn } })
    operated_on_directory who turn acts same added =
        operates_on (record { lines = seated.lines; made = seated.made + 1; turns = record seated.turns { directory = turn } }) (turns_there store seated.turns turn may.seated_is.turns same) refl refl refl
        ((operating_goes_on script seated.turns.number (seen_by seated.turns) line left operating).at_directory (DirectoryStep.Reap who) turn.seen acts
        (subst (λ (k : ℕ). HasAddedAtDirectory seated.turns.number k seated.turns.directory.seen turn.seen actor.Operator (Act.AtDirectory (DirectoryStep.Reap who))) last_is added))

    -- ---- after a step at a server
    module _ (j : ℕ) (turn before : TurnState ServerIdentity MadeStep) (now : SeatedOperator) (kept : now.turns ≡ record seated.turns { servers = now.turns.servers })
        (items : now.turns.servers.items ≡ set seated.turns.servers.items j turn) (less : j < length seated.turns.servers.items) (read : before ≡ get_or seated.turns.servers.items j before)
        (same : turn ≡ record before { seen = turn.seen }) (made : HasOperatedAtServer seated.turns.number last before.seen turn.seen line) (acts : operator_act line ≡ Some (Act.AtServer j (line_step line))) where
      added : HasAddedAtServer seated.turns.number (last_by store seated.turns) (log_of (seen_by seated.turns) j) turn.seen actor.Operator (Act.AtServer j (line_step line))
      added =
          subst (λ (l : List (ℕ × MadeStep)). HasAddedAtServer seated.turns.number (last_by store seated.turns) l turn.seen actor.Operator (Act.AtServer j (line_step line)))
          (sym (log_here seated.turns now.turns j turn before kept items less read))
          (subst (λ (k : ℕ). HasAddedAtServer seated.turns.number k before.seen turn.seen actor.Operator (Act.AtServer j (line_step line))) last_is
          (operated_there j seated.turns.number last before.seen turn.seen line acts made))

      operates_here : IsOperating script (own_at seated.turns.number (with_log j turn.seen (seen_by seated.turns))) left
      operates_here =
          (operating_goes_on script seated.turns.number (seen_by seated.turns) line left operating).at_server j (line_step line) turn.seen (count_seen store seated.turns may.seated_is.turns)
          (subst (λ (n : ℕ). j < n) may.seated_is.turns.count less) acts added

      pub operated_on_server : now.lines.items ≡ seated.lines.items → now.made ≡ seated.made + 1 → OperatesOn store seated now
      operated_on_server lines one_more =
          operates_on now (turns_here seated.turns now.turns j turn before kept items less read store may.seated_is.turns same) (ap (λ (x : Turns). x.number) kept) lines one_more
          (subst (λ (logs : Logs). IsOperating script (own_at seated.turns.number logs) left) (sym (seen_here seated.turns now.turns j turn before kept items less read)) operates_here)

-- What the reader's steps show, line by line.
-- What stands before a line is a place in the grammar and the script so far; the reader's invariant is that its lines are spelled. A
-- line's spelling has no LF and its words no space, so the first LF ends the first line and the first space its first word: each step of
-- the reader is then an equation on the text, and a script has one spelling.
use Rattle.std.proofs.Common.{◌≡◌, ℕ, ◌+◌, ◌*◌, ◌<◌, ◌≤◌, false, List, [], ◌∷◌, ◌++◌, length, Option, None, Some, Ok, Err, refl, sym, ap, ◌∙◌, arith, subst, length-append, inl, inr}
use Rattle.std.specs.Prelude.{codes, IsSome, is_some, IfSome, ◌⊎◌}
use Rattle.std.proofs.lemmas.List.Elements.{All-same}
use Rattle.clay_grid.specs.Shape.{stripe_length, chunk_count}
use Rattle.store_map.specs.Content.{content_length}
use Rattle.store_map.specs.Name.{IsName}
use Rattle.store_map.specs.Naming.{NamesPart}
use Rattle.store_map.specs.declared.script.RepairPart.{RepairPart}
use Rattle.store_map.specs.declared.actor.Token.TheVariants as token
use Rattle.store_map.specs.declared.call.Call.TheVariants.{Put, Write, Get, ReadAt, Stat, Delete}
use Rattle.store_map.specs.declared.content.Content.{Content}
use Rattle.store_map.specs.declared.content.Content.TheVariants.{Hex, Fill, Ramp}
use Rattle.store_map.specs.Limits.{IsWithinLimits, size_of, stripes_written, stripes_touched, sum_over_calls, bytes_asked}
use Rattle.store_map.specs.declared.call.Call.{Call}
use Rattle.store_map.specs.declared.call.Rebuild.{Rebuild}
use Rattle.store_map.specs.declared.actor.Token.{Token}
use Rattle.store_map.specs.declared.limits.TheConstants.{MAX_CLIENTS, MAX_REPAIRERS, MAX_CALLS, MAX_DATA, MAX_STRIPES, MAX_STRIPE_BYTES, MAX_READ_BYTES, MAX_SCHEDULE, MAX_SIZE, MAX_TRIES}
use Rattle.store_map.specs.declared.script.ClientPart.{ClientPart}
use Rattle.store_map.specs.declared.script.Script.{Script}
use Rattle.script_text.specs.Behind.{place_behind, with_line, kind_of, limit_of, pending}
use Rattle.script_text.specs.SoFar.{IsBare, HasOpenClient, HasOpenRepairer, IsAt, IsBegun}
use Rattle.script_text.specs.Front.{Front, Begun}
use Rattle.script_text.specs.Fault.{SpellsLine, LineFault, FitsLimits, NamesActorOf, server_of_step}
use Rattle.script_text.specs.Pushes.{PushesCall, PushesRebuild}
use Rattle.line_grammar.specs.Line.{Line, ClayLine, CodeLine, SizeLine, TriesLine, ClientLine, RepairerLine, LeaveLine, CallLine, RebuildLine, ScheduleLine, StepLine, EndLine, line_words}
use Rattle.line_grammar.specs.Words.{token_words, call_words, rebuild_words}
use Rattle.line_grammar.specs.Lines.{Lacks, spaced, IsFirstWord}
use Rattle.line_grammar.specs.Numbers.{number_word}
use Rattle.script_text.specs.Kinds.{kind_named}
use Rattle.script_text.specs.Place.{next_place}
use Rattle.script_text.specs.Reader.{script_of, IsSound, IsOfKind, IsTaken, Takes}
use Rattle.line_grammar.specs.ReadsLine.{ReadsNumbered, ReadsToken, ReadsRebuild}
use Rattle.line_grammar.specs.Reads.{ReadsCall, FitsCall}
use Rattle.line_grammar.specs.Values.{IsNumber, IsContent, IsCall, token_number}
use Rattle.line_grammar.specs.Forms.{IsOfForm, IsLineOfForm, HasForm, IsContentForm, IsCallForm}
use Rattle.line_grammar.specs.Bounds.{HasNumbers}
use Rattle.line_grammar.specs.declared.line_fault.FaultKind.{FaultKind}
use Rattle.line_grammar.specs.declared.line_fault.FaultKind.TheVariants as fault
use Rattle.script_text.specs.declared.load.Load.{Load}
use Rattle.script_text.specs.declared.script_place.LineKind.{LineKind}
use Rattle.script_text.specs.declared.script_place.LineKind.TheVariants as kind
use Rattle.script_text.specs.declared.script_place.ScriptPlace.{ScriptPlace}
use Rattle.script_text.specs.declared.script_place.ScriptPlace.TheVariants as place
use Rattle.script_text.specs.declared.script_reader.Reader.{Reader}
use Rattle.line_grammar.proofs.LineLaws.{same_parts, never_parted, Lacks-literal}
use Rattle.script_text.proofs.StepLaws.{size_step, tries_step, client_step, repairer_step, calls_of, calls_of-empty, empty_client, empty_repairer, step_step, All-front, few_calls, few_rebuilds, with_call, with_rebuild, clients_with, repairers_with, calls_of-call, call_limits, call_limits_back, call_values, call_names, call_clients, rebuild_limits, rebuild_limits_back, rebuild_values, rebuild_names, rebuild_repairers}

-- ---- the lines of a kind

-- a line of the kind `size` has a number
pub size_line : (l : Line) → kind_of l ≡ kind.Size → (n : ℕ) × (l ≡ SizeLine n)
size_line (SizeLine n) e = (n, refl)
size_line _ e = absurd (cc e)

-- so has one of the kind `tries`
pub tries_line : (l : Line) → kind_of l ≡ kind.Tries → (n : ℕ) × (l ≡ TriesLine n)
tries_line (TriesLine n) e = (n, refl)
tries_line _ e = absurd (cc e)

-- so has a step limit
pub leave_line : (l : Line) → kind_of l ≡ kind.Leave → (n : ℕ) × (l ≡ LeaveLine n)
leave_line (LeaveLine n) e = (n, refl)
leave_line _ e = absurd (cc e)

-- a line of the kind of calls has a call
pub call_line_of : (l : Line) → kind_of l ≡ kind.Call → (call : Call) × (l ≡ CallLine call)
call_line_of (CallLine call) e = (call, refl)
call_line_of _ e = absurd (cc e)

-- one of the kind of rebuilds has a rebuild
pub rebuild_line : (l : Line) → kind_of l ≡ kind.Rebuild → (rebuild : Rebuild) × (l ≡ RebuildLine rebuild)
rebuild_line (RebuildLine rebuild) e = (rebuild, refl)
rebuild_line _ e = absurd (cc e)

-- one of the kind of steps has a step
pub step_line : (l : Line) → kind_of l ≡ kind.Step → (step : Token) × (l ≡ StepLine step)
step_line (StepLine step) e = (step, refl)
step_line _ e = absurd (cc e)

-- ---- where lines of a kind may stand

-- where a tries line may stand, no block is
pub tries_place : (p : ScriptPlace) (s : Script) → IsSome (next_place p kind.Tries 0) → IsAt p s → IsBare s × ((n : ℕ) → next_place p kind.Tries n ≡ Some place.Tries)
tries_place place.Code s some at = (at.0, λ n. refl)
tries_place place.Size s some at = (at.0, λ n. refl)
tries_place _ s some at = absurd (cc some)

-- where a client's first line may stand, no repairer is
pub client_place : (p : ScriptPlace) (s : Script) → IsSome (next_place p kind.Client 0) → IsAt p s
    → (s.repairers ≡ []) × (s.schedule ≡ []) × ((n : ℕ) → next_place p kind.Client n ≡ Some place.Client)
client_place place.Code s some at = (at.0.repairers, at.0.schedule, λ n. refl)
client_place place.Size s some at = (at.0.repairers, at.0.schedule, λ n. refl)
client_place place.Tries s some at = (at.0.repairers, at.0.schedule, λ n. refl)
client_place place.Client s some at = (at.4, at.5, λ n. refl)
client_place place.ClientEnd s some at = (at.4, at.5, λ n. refl)
client_place _ s some at = absurd (cc some)

-- where a repairer's first line may stand, the schedule has not begun
pub repairer_place : (p : ScriptPlace) (s : Script) → IsSome (next_place p kind.Repairer 0) → IsAt p s
    → (s.schedule ≡ []) × ((n : ℕ) → next_place p kind.Repairer n ≡ Some place.Repairer)
repairer_place place.Code s some at = (at.0.schedule, λ n. refl)
repairer_place place.Size s some at = (at.0.schedule, λ n. refl)
repairer_place place.Tries s some at = (at.0.schedule, λ n. refl)
repairer_place place.Client s some at = (at.5, λ n. refl)
repairer_place place.ClientEnd s some at = (at.5, λ n. refl)
repairer_place place.Repairer s some at = (at.4, λ n. refl)
repairer_place place.RepairerEnd s some at = (at.4, λ n. refl)
repairer_place _ s some at = absurd (cc some)

-- nor where the line before it may stand
pub schedule_place : (p : ScriptPlace) (s : Script) → IsSome (next_place p kind.Schedule 0) → IsAt p s
    → (s.schedule ≡ []) × ((n : ℕ) → next_place p kind.Schedule n ≡ Some place.Schedule)
schedule_place place.Code s some at = (at.0.schedule, λ n. refl)
schedule_place place.Size s some at = (at.0.schedule, λ n. refl)
schedule_place place.Tries s some at = (at.0.schedule, λ n. refl)
schedule_place place.Client s some at = (at.5, λ n. refl)
schedule_place place.ClientEnd s some at = (at.5, λ n. refl)
schedule_place place.Repairer s some at = (at.4, λ n. refl)
schedule_place place.RepairerEnd s some at = (at.4, λ n. refl)
schedule_place _ s some at = absurd (cc some)

-- the last line stands behind the schedule
pub end_place : (p : ScriptPlace) → IsSome (next_place p kind.End 0) → p ≡ place.Schedule
end_place place.Schedule some = refl
end_place _ some = absurd (cc some)

-- so does a step
pub step_place : (p : ScriptPlace) → IsSome (next_place p kind.Step 0) → p ≡ place.Schedule
step_place place.Schedule some = refl
step_place _ some = absurd (cc some)

-- whether a line may stand doesn't hang on its step limit
pub any_limit : (p : ScriptPlace) (k : LineKind) (m n : ℕ) → IsSome (next_place p k m) → IsSome (next_place p k n)
any_limit place.Client kind.Leave m n some = refl
any_limit place.Repairer kind.Leave m n some = refl
any_limit place.Code kind.Leave m n some = some
any_limit place.Size kind.Leave m n some = some
any_limit place.Tries kind.Leave m n some = some
any_limit (place.ClientLimit x) kind.Leave m n some = some
any_limit place.ClientEnd kind.Leave m n some = some
any_limit (place.RepairerLimit x) kind.Leave m n some = some
any_limit place.RepairerEnd kind.Leave m n some = some
any_limit place.Schedule kind.Leave m n some = some
any_limit place.End kind.Leave m n some = some
any_limit p k m n some = some

-- ---- lines of one number

-- what is wrong with the number is wrong with the line
pub numbered_err : (old new : Reader) (text first : List ℕ) (k : LineKind) (make : ℕ → Line)
    → ((n : ℕ) → spaced (line_words (make n)) ≡ first ++ number_word n) → ((n : ℕ) → HasForm (make n)) → ((n : ℕ) → HasNumbers (make n) → IsNumber n)
    → ((n : ℕ) → IsSome (place_behind old.place (make n))) → ((n : ℕ) → IsLineOfForm old.form (make n)) → ((l : Line) → kind_of l ≡ k → (n : ℕ) × (l ≡ make n)) → IsOfKind text k
    → (f : FaultKind) → ReadsNumbered first text (Err f) → Takes old text (Err f) new
numbered_err old new text first k make words form number stands of_form only of_kind fault.Syntax h = λ l spells _.
    let parts = only l (of_kind l spells) in
    h parts.0 tt (spells.1 ∙ ap (λ (x : Line). spaced (line_words x)) parts.1 ∙ words parts.0)
numbered_err old new text first k make words form number stands of_form only of_kind fault.Limit h =
    (make h.0, (form h.0, h.3 ∙ sym (words h.0)), (stands h.0, of_form h.0), λ fits. h.2 (number h.0 fits.0))
numbered_err old new text first k make words form number stands of_form only of_kind fault.OutOfMemory h = tt
numbered_err old new text first k make words form number stands of_form only of_kind fault.Geometry h = absurd h
numbered_err old new text first k make words form number stands of_form only of_kind fault.NoSuchActor h = absurd h
numbered_err old new text first k make words form number stands of_form only of_kind fault.NoSuchServer h = absurd h
numbered_err old new text first k make words form number stands of_form only of_kind fault.MissingEnd h = absurd h

-- ---- size

-- a size line stands behind the code line
pub size_place : (p : ScriptPlace) → IsSome (next_place p kind.Size 0) → p ≡ place.Code
size_place place.Code some = refl
size_place _ some = absurd (cc some)

-- what is wrong with the size is wrong with its line
pub size_err : (old new : Reader) (text : List ℕ) → old.place ≡ place.Code → IsOfKind text kind.Size
    → (f : FaultKind) → ReadsNumbered (codes "size ") text (Err f) → Takes old text (Err f) new
size_err old new text at of_kind =
    numbered_err old new text (codes "size ") kind.Size (λ n. SizeLine n) (λ n. refl) (λ n. tt) (λ n h. h)
    (λ n. rw at refl) (λ n. tt) size_line of_kind

-- a size out of its range is beyond the limit
pub size_over : (old : Reader) (text : List ℕ) (n : ℕ) → old.place ≡ place.Code → text ≡ codes "size " ++ number_word n → ((1 ≤ n) × (n ≤ MAX_SIZE) → ⊥)
    → LineFault (Begun old.place (script_of old)) text fault.Limit
size_over old text n at is over = (SizeLine n, (tt, is), (rw at refl, tt), λ fits. over fits.1.size)

-- the reader goes on by a size line
pub size_taken : (old : Reader) (text : List ℕ) (n : ℕ) → IsSound old → old.place ≡ place.Code → text ≡ codes "size " ++ number_word n → IsNumber n → 1 ≤ n → n ≤ MAX_SIZE
    → IsTaken old text (SizeLine n) (record old { size = Some n; place = place.Size })
size_taken old text n sound at is small low high =
    let s = script_of old in
    let begun : IsBegun place.Code s = subst (λ (p : ScriptPlace). IsBegun p s) at sound.begun in
    let next = size_step s n begun small low high in
    let none : calls_of (bytes_asked n) s.clients ≡ 0 = ap (calls_of (bytes_asked n)) begun.at.0.clients in
    let none' : calls_of (bytes_asked (size_of s)) s.clients ≡ 0 = ap (calls_of (bytes_asked (size_of s))) begun.at.0.clients in
    record {
      spelled = (tt, is);
      place = rw at refl;
      script = refl;
      sound = record { begun = next; stripes = sound.stripes; read_bytes = sound.read_bytes ∙ none' ∙ sym none };
    }

-- ---- tries

-- what is wrong with the tries is wrong with their line
pub tries_err : (old new : Reader) (text : List ℕ) → IsSome (next_place old.place kind.Tries 0) → IsOfKind text kind.Tries
    → (f : FaultKind) → ReadsNumbered (codes "tries ") text (Err f) → Takes old text (Err f) new
tries_err old new text some of_kind =
    numbered_err old new text (codes "tries ") kind.Tries (λ n. TriesLine n) (λ n. refl) (λ n. tt) (λ n h. h)
    (λ n. some) (λ n. tt) tries_line of_kind

-- tries out of their range are beyond the limit
pub tries_over : (old : Reader) (text : List ℕ) (n : ℕ) → IsSome (next_place old.place kind.Tries 0) → text ≡ codes "tries " ++ number_word n → ((1 ≤ n) × (n ≤ MAX_TRIES) → ⊥)
    → LineFault (Begun old.place (script_of old)) text fault.Limit
tries_over old text n some is over = (TriesLine n, (tt, is), (some, tt), λ fits. over fits.1.tries)

-- the reader goes on by a tries line
pub tries_taken : (old : Reader) (text : List ℕ) (n : ℕ) → IsSound old → IsSome (next_place old.place kind.Tries 0) → text ≡ codes "tries " ++ number_word n → IsNumber n → 1 ≤ n → n ≤ MAX_TRIES
    → IsTaken old text (TriesLine n) (record old { tries = Some n; place = place.Tries })
tries_taken old text n sound some is small low high =
    let s = script_of old in
    let at = tries_place old.place s some sound.begun.at in
    record {
      spelled = (tt, is);
      place = at.1 0;
      script = refl;
      sound = record { begun = tries_step old.place s n at.0 sound.begun.values sound.begun.valid small low high; stripes = sound.stripes; read_bytes = sound.read_bytes };
    }

-- ---- the first lines of blocks

-- a client too many
pub client_over : (old : Reader) (text : List ℕ) → IsSome (next_place old.place kind.Client 0) → text ≡ codes "client" → length old.clients.items ≡ MAX_CLIENTS
    → LineFault (Begun old.place (script_of old)) text fault.Limit
client_over old text some is full = (
  ClientLine,
  (tt, is),
  (some, tt),
  λ fits.
      let len = length-append old.clients.items (empty_client ∷ []) in
      omega (arith, len, full, fits.1.clients),
)

-- the list of blocks comes as another list with the same items
pub client_taken : (old new : Reader) (text : List ℕ) → IsSound old → IsSome (next_place old.place kind.Client 0) → text ≡ codes "client"
    → length old.clients.items ≤ MAX_CLIENTS → (length old.clients.items ≡ MAX_CLIENTS → ⊥)
    → script_of new ≡ record (script_of old) { clients = old.clients.items ++ empty_client ∷ [] } → new.place ≡ place.Client → new.load ≡ old.load
    → IsTaken old text ClientLine new
client_taken old new text sound some is few not_full made at load =
    let s = script_of old in
    let place' = client_place old.place s some sound.begun.at in
    let next = client_step old.place s place'.0 place'.1 sound.begun.values sound.begun.valid (omega (arith, few, not_full)) in
    let stripes = calls_of-empty (stripes_touched (stripe_length old.geometry)) old.clients.items in
    let bytes = calls_of-empty (bytes_asked (size_of s)) old.clients.items in
    let s' = with_line old.place s ClientLine in
    record {
      spelled = (tt, is);
      place = place'.2 0 ∙ ap (λ (p : ScriptPlace). Some p) (sym at);
      script = made;
      sound = record {
        begun = rw (at, made) next;
        stripes = ap (λ (l : Load). l.stripes) load ∙ sound.stripes ∙ sym stripes ∙ ap stripes_written (sym made);
        read_bytes = ap (λ (l : Load). l.read_bytes) load ∙ sound.read_bytes ∙ sym bytes ∙ ap (λ (x : Script). sum_over_calls (bytes_asked (size_of x)) x) (sym made);
      };
    }

-- a repairer too many
pub repairer_over : (old : Reader) (text : List ℕ) → IsSome (next_place old.place kind.Repairer 0) → text ≡ codes "repairer" → length old.repairers.items ≡ MAX_REPAIRERS
    → LineFault (Begun old.place (script_of old)) text fault.Limit
repairer_over old text some is full = (
  RepairerLine,
  (tt, is),
  (some, tt),
  λ fits.
      let len = length-append old.repairers.items (empty_repairer ∷ []) in
      omega (arith, len, full, fits.1.repairers),
)

-- the reader goes on by a repairer's first line
pub repairer_taken : (old new : Reader) (text : List ℕ) → IsSound old → IsSome (next_place old.place kind.Repairer 0) → text ≡ codes "repairer"
    → length old.repairers.items ≤ MAX_REPAIRERS → (length old.repairers.items ≡ MAX_REPAIRERS → ⊥)
    → script_of new ≡ record (script_of old) { repairers = old.repairers.items ++ empty_repairer ∷ [] } → new.place ≡ place.Repairer → new.load ≡ old.load
    → IsTaken old text RepairerLine new
repairer_taken old new text sound some is few not_full made at load =
    let s = script_of old in
    let place' = repairer_place old.place s some sound.begun.at in
    let next = repairer_step old.place s place'.0 sound.begun.values sound.begun.valid (omega (arith, few, not_full)) in
    record {
      spelled = (tt, is);
      place = place'.1 0 ∙ ap (λ (p : ScriptPlace). Some p) (sym at);
      script = made;
      sound = record {
        begun = rw (at, made) next;
        stripes = ap (λ (l : Load). l.stripes) load ∙ sound.stripes ∙ ap stripes_written (sym made);
        read_bytes = ap (λ (l : Load). l.read_bytes) load ∙ sound.read_bytes ∙ ap (λ (x : Script). sum_over_calls (bytes_asked (size_of x)) x) (sym made);
      };
    }

-- ---- step limits

-- what is wrong with the limit is wrong with its line
pub leave_err : (old new : Reader) (text : List ℕ) → IsSome (next_place old.place kind.Leave 0) → IsOfKind text kind.Leave
    → (f : FaultKind) → ReadsNumbered (codes "leave ") text (Err f) → Takes old text (Err f) new
leave_err old new text some of_kind =
    numbered_err old new text (codes "leave ") kind.Leave (λ n. LeaveLine n) (λ n. refl) (λ n. tt) (λ n h. h)
    (λ n. any_limit old.place kind.Leave 0 n some) (λ n. tt) leave_line of_kind

-- behind a step limit the block waits for a call
pub leave_at : (p q : ScriptPlace) (s : Script) (n : ℕ) → next_place p kind.Leave n ≡ Some q → IsNumber n → IsAt p s → IsAt q s
leave_at place.Client q s n e small at = let same : place.ClientLimit n ≡ q = cc e in rw (← same) (at, small)
leave_at place.Repairer q s n e small at = let same : place.RepairerLimit n ≡ q = cc e in rw (← same) (at, small)
leave_at _ q s n e small at = absurd (cc e)

-- the reader goes on by a step limit
pub leave_taken : (old : Reader) (text : List ℕ) (n : ℕ) (q : ScriptPlace) → IsSound old → text ≡ codes "leave " ++ number_word n → IsNumber n → next_place old.place kind.Leave n ≡ Some q
    → IsTaken old text (LeaveLine n) (record old { place = q })
leave_taken old text n q sound is small next = record {
  spelled = (tt, is);
  place = next;
  script = refl;
  sound = record {
    begun = record { at = leave_at old.place q (script_of old) n next small sound.begun.at; values = sound.begun.values; valid = sound.begun.valid };
    stripes = sound.stripes;
    read_bytes = sound.read_bytes;
  };
}

-- ---- the schedule's first line, and the last line

-- the reader goes on by the line before the schedule
pub schedule_taken : (old : Reader) (text : List ℕ) → IsSound old → IsSome (next_place old.place kind.Schedule 0) → text ≡ codes "schedule"
    → IsTaken old text ScheduleLine (record old { place = place.Schedule })
schedule_taken old text sound some is =
    let place' = schedule_place old.place (script_of old) some sound.begun.at in
    record {
      spelled = (tt, is);
      place = place'.1 0;
      script = refl;
      sound = record { begun = record { at = tt; values = sound.begun.values; valid = sound.begun.valid }; stripes = sound.stripes; read_bytes = sound.read_bytes };
    }

-- the reader goes on by the last line
pub end_taken : (old : Reader) (text : List ℕ) → IsSound old → IsSome (next_place old.place kind.End 0) → text ≡ codes "end"
    → IsTaken old text EndLine (record old { place = place.End })
end_taken old text sound some is = record {
  spelled = (tt, is);
  place = rw (end_place old.place some) refl;
  script = refl;
  sound = record { begun = record { at = tt; values = sound.begun.values; valid = sound.begun.valid }; stripes = sound.stripes; read_bytes = sound.read_bytes };
}

-- ---- steps of the schedule

-- a step that names an actor and a server names parts of the script
pub names_part : (s : Script) (step : Token) → IsOfForm s.form step → NamesActorOf s step → IfSome (server_of_step step) (λ server. server < chunk_count s.geometry) → NamesPart s step
names_part s (token.Client i) form actor server = actor
names_part s (token.Repairer i) form actor server = actor
names_part s token.Sweep form actor server = tt
names_part s (token.Wipe j) form actor server = server
names_part s (token.Down j) form actor server = (form, server)
names_part s (token.Up j) form actor server = (form, server)
names_part s (token.ReapClient i) form actor server = actor
names_part s (token.ReapRepairer i) form actor server = actor
names_part s token.Drain form actor server = tt

-- what is wrong with the step is wrong with its line
pub step_err : (old new : Reader) (text : List ℕ) → IsSome (next_place old.place kind.Step 0) → IsOfKind text kind.Step
    → (f : FaultKind) → ReadsToken old.form text (Err f) → Takes old text (Err f) new
step_err old new text some of_kind fault.Syntax h = λ l spells stands.
    let parts = step_line l (of_kind l spells) in h parts.0 (subst (IsLineOfForm old.form) parts.1 stands.1) (spells.1 ∙ ap (λ (x : Line). spaced (line_words x)) parts.1)
step_err old new text some of_kind fault.Limit h = (StepLine h.0, (tt, h.3), (some, h.1), λ fits. h.2 fits.0)
step_err old new text some of_kind fault.OutOfMemory h = tt
step_err old new text some of_kind fault.Geometry h = absurd h
step_err old new text some of_kind fault.NoSuchActor h = absurd h
step_err old new text some of_kind fault.NoSuchServer h = absurd h
step_err old new text some of_kind fault.MissingEnd h = absurd h

-- a step too many
pub step_over : (old : Reader) (text : List ℕ) (step : Token) → IsOfForm old.form step → IsSome (next_place old.place kind.Step 0) → text ≡ spaced (token_words step)
    → length old.schedule.items ≡ MAX_SCHEDULE → LineFault (Begun old.place (script_of old)) text fault.Limit
step_over old text step form some is full = (
  StepLine step,
  (tt, is),
  (some, form),
  λ fits.
      let len = length-append old.schedule.items (step ∷ []) in
      omega (arith, len, full, fits.1.schedule),
)

-- a script with one step more is within the limits where there is room for it
step_fits : (old : Reader) (step : Token) → IsSound old → IsNumber (token_number step) → length old.schedule.items < MAX_SCHEDULE
    → FitsLimits (Begun old.place (script_of old)) (StepLine step)
step_fits old step sound small few =
    let l = sound.begun.valid.limits in
    let len = length-append old.schedule.items (step ∷ []) in (
      small,
      record {
        size = l.size;
        tries = l.tries;
        clients = l.clients;
        repairers = l.repairers;
        client_calls = l.client_calls;
        repairer_calls = l.repairer_calls;
        data_lengths = l.data_lengths;
        stripes = l.stripes;
        stripe_bytes = l.stripe_bytes;
        read_bytes = l.read_bytes;
        schedule = omega (arith, len, few);
      },
    )

-- a step whose actor has no block
pub step_no_actor : (old : Reader) (text : List ℕ) (step : Token) → IsOfForm old.form step → IsSound old → IsSome (next_place old.place kind.Step 0) → text ≡ spaced (token_words step) → IsNumber (token_number step)
    → length old.schedule.items ≤ MAX_SCHEDULE → (length old.schedule.items ≡ MAX_SCHEDULE → ⊥) → ¬ NamesActorOf (script_of old) step
    → LineFault (Begun old.place (script_of old)) text fault.NoSuchActor
step_no_actor old text step form sound some is small few not_full none =
    (StepLine step, (tt, is), (some, form), step_fits old step sound small (omega (arith, few, not_full)), tt, none)

-- a step whose server is not there
pub step_no_server : (old : Reader) (text : List ℕ) (step : Token) → IsOfForm old.form step → IsSound old → IsSome (next_place old.place kind.Step 0) → text ≡ spaced (token_words step) → IsNumber (token_number step)
    → length old.schedule.items ≤ MAX_SCHEDULE → (length old.schedule.items ≡ MAX_SCHEDULE → ⊥) → NamesActorOf (script_of old) step
    → ¬ IfSome (server_of_step step) (λ server. server < chunk_count old.geometry) → LineFault (Begun old.place (script_of old)) text fault.NoSuchServer
step_no_server old text step form sound some is small few not_full actor none =
    (StepLine step, (tt, is), (some, form), step_fits old step sound small (omega (arith, few, not_full)), tt, actor, none)

-- the reader goes on by a step
pub step_taken : (old new : Reader) (text : List ℕ) (step : Token) → IsOfForm old.form step → IsSound old → IsSome (next_place old.place kind.Step 0) → text ≡ spaced (token_words step) → IsNumber (token_number step)
    → length old.schedule.items ≤ MAX_SCHEDULE → (length old.schedule.items ≡ MAX_SCHEDULE → ⊥) → NamesActorOf (script_of old) step
    → IfSome (server_of_step step) (λ server. server < chunk_count old.geometry)
    → script_of new ≡ record (script_of old) { schedule = old.schedule.items ++ step ∷ [] } → new.place ≡ old.place → new.load ≡ old.load
    → IsTaken old text (StepLine step) new
step_taken old new text step form sound some is small few not_full actor server made at load =
    let s = script_of old in
    let place' = step_place old.place some in
    let next = step_step s step sound.begun.values sound.begun.valid small (names_part s step form actor server) (omega (arith, few, not_full)) in
    record {
      spelled = (tt, is);
      place = rw (at, place') refl;
      script = made;
      sound = record {
        begun = rw (at, place', made) next;
        stripes = ap (λ (l : Load). l.stripes) load ∙ sound.stripes ∙ ap stripes_written (sym made);
        read_bytes = ap (λ (l : Load). l.read_bytes) load ∙ sound.read_bytes ∙ ap (λ (x : Script). sum_over_calls (bytes_asked (size_of x)) x) (sym made);
      };
    }

-- ---- calls

-- data within the limit is of the types
content_value : (content : Content) → IsContentForm content → content_length content ≤ MAX_DATA → IsContent content
content_value (Hex bytes) form few = (form, omega (arith, few))
content_value (Fill byte n) form few = (form, omega (arith, few))
content_value (Ramp first n) form few = (form, omega (arith, few))

-- so is a call within its limits
pub call_value : (call : Call) → IsCallForm call → FitsCall call → IsCall call
call_value (Put name content) form fits = (form.0, content_value content form.1 fits.1)
call_value (Write name offset content) form fits = (form.0, fits.0.0, content_value content form.1 fits.1)
call_value (Get name) form fits = form
call_value (ReadAt name offset count) form fits = (form, fits.0.0, fits.0.1)
call_value (Stat name) form fits = form
call_value (Delete name) form fits = form

-- where a call may stand, a client's block is open
pub call_place : (p : ScriptPlace) (s : Script) → IsSome (next_place p kind.Call 0) → IsAt p s → HasOpenClient s × IfSome (pending p) IsNumber
call_place place.Client s some at = (at, tt)
call_place (place.ClientLimit n) s some at = (at.0, at.1)
call_place _ s some at = absurd (cc some)

-- the place behind a call
pub call_behind : (p q : ScriptPlace) (s : Script) (front : List ClientPart) (part : ClientPart) (call : Call) → next_place p kind.Call 0 ≡ Some q
    → s.repairers ≡ [] → s.schedule ≡ [] → IsAt q (clients_with s (front ++ with_call (pending p) call part ∷ []))
call_behind place.Client q s front part call e no_repairers no_schedule =
    let same : place.Client ≡ q = cc e in rw (← same) (front, with_call None call part, refl, refl, no_repairers, no_schedule)
call_behind (place.ClientLimit n) q s front part call e no_repairers no_schedule =
    let same : place.ClientEnd ≡ q = cc e in rw (← same) (front, with_call (Some n) call part, refl, refl, no_repairers, no_schedule)
call_behind _ q s front part call e no_repairers no_schedule = absurd (cc e)

-- what is wrong with the call is wrong with its line
pub call_err : (old new : Reader) (text : List ℕ) → IsSome (next_place old.place kind.Call 0) → IsOfKind text kind.Call → IsSound old
    → (f : FaultKind) → ReadsCall text (Err f) → Takes old text (Err f) new
call_err old new text some of_kind sound fault.Syntax h = λ l spells _.
    let parts = call_line_of l (of_kind l spells) in
    h parts.0 (subst HasForm parts.1 spells.0) (spells.1 ∙ ap (λ (x : Line). spaced (line_words x)) parts.1)
call_err old new text some of_kind sound fault.Limit h = (
  CallLine h.0,
  (h.1, h.3),
  (some, tt),
  λ fits.
      let s = script_of old in
      let open' = (call_place old.place s some sound.begun.at).0 in
      let limits = subst IsWithinLimits (call_clients old.place s open'.0 open'.1 h.0 open'.2) fits.1 in
      let back = call_limits_back s open'.0 open'.1 (pending old.place) h.0 open'.2 limits in
      h.2 (fits.0, back.1),
)
call_err old new text some of_kind sound fault.OutOfMemory h = tt
call_err old new text some of_kind sound fault.Geometry h = absurd h
call_err old new text some of_kind sound fault.NoSuchActor h = absurd h
call_err old new text some of_kind sound fault.NoSuchServer h = absurd h
call_err old new text some of_kind sound fault.MissingEnd h = absurd h

-- the load with one call more, as the limits see it
pub call_over : (old : Reader) (text : List ℕ) (call : Call) (stripe_len size stripes read_bytes : ℕ) → IsSound old → IsSome (next_place old.place kind.Call 0)
    → IsCallForm call → text ≡ spaced (call_words call) → stripe_len ≡ stripe_length old.geometry → size ≡ size_of (script_of old)
    → stripes ≡ old.load.stripes + stripes_touched stripe_len call → read_bytes ≡ old.load.read_bytes + bytes_asked size call
    → ((stripes ≤ MAX_STRIPES) × (stripes * stripe_len ≤ MAX_STRIPE_BYTES) × (read_bytes ≤ MAX_READ_BYTES) → ⊥)
    → LineFault (Begun old.place (script_of old)) text fault.Limit
call_over old text call stripe_len size stripes read_bytes sound some form is same_len same_size stripes_are read_bytes_are over = (
  CallLine call,
  (form, is),
  (some, tt),
  λ fits.
      let s = script_of old in
      let open' = (call_place old.place s some sound.begun.at).0 in
      let limits = subst IsWithinLimits (call_clients old.place s open'.0 open'.1 call open'.2) fits.1 in
      let back = call_limits_back s open'.0 open'.1 (pending old.place) call open'.2 limits in
      let now : stripes ≡ stripes_written s + stripes_touched (stripe_length old.geometry) call =
      stripes_are ∙ ap (λ (n : ℕ). n + stripes_touched stripe_len call) sound.stripes ∙ ap (λ (n : ℕ). stripes_written s + stripes_touched n call) same_len in
      let now' : read_bytes ≡ sum_over_calls (bytes_asked (size_of s)) s + bytes_asked (size_of s) call =
      read_bytes_are ∙ ap (λ (n : ℕ). n + bytes_asked size call) sound.read_bytes ∙ ap (λ (n : ℕ). sum_over_calls (bytes_asked (size_of s)) s + bytes_asked n call) same_size in
      over (rw now back.2, rw (now, same_len) back.3, rw now' back.4),
)

-- a call too many
pub call_full : (old : Reader) (text : List ℕ) (call : Call) (front : List ClientPart) (part : ClientPart) → IsSound old → IsSome (next_place old.place kind.Call 0)
    → IsCallForm call → text ≡ spaced (call_words call) → old.clients.items ≡ front ++ part ∷ [] → length part.calls ≡ MAX_CALLS
    → LineFault (Begun old.place (script_of old)) text fault.Limit
call_full old text call front part sound some form is parted full = (
  CallLine call,
  (form, is),
  (some, tt),
  λ fits.
      let limits = subst IsWithinLimits (call_clients old.place (script_of old) front part call parted) fits.1 in
      let back = call_limits_back (script_of old) front part (pending old.place) call parted limits in
      omega (arith, full, back.0),
)

-- a call that was not added
pub call_push_err : (old new : Reader) (text : List ℕ) (call : Call) (leave : Option ℕ) → IsSound old → IsSome (next_place old.place kind.Call 0)
    → IsCallForm call → text ≡ spaced (call_words call) → (f : FaultKind) (after : List ClientPart) → PushesCall old.clients.items call leave (Err f) after → Takes old text (Err f) new
call_push_err old new text call leave sound some form is fault.Limit after h = call_full old text call h.0 h.1 sound some form is h.2 h.3
call_push_err old new text call leave sound some form is fault.OutOfMemory after h = tt
call_push_err old new text call leave sound some form is fault.Syntax after h = absurd h
call_push_err old new text call leave sound some form is fault.Geometry after h = absurd h
call_push_err old new text call leave sound some form is fault.NoSuchActor after h = absurd h
call_push_err old new text call leave sound some form is fault.NoSuchServer after h = absurd h
call_push_err old new text call leave sound some form is fault.MissingEnd after h = absurd h

-- at most so many, and not so many, are fewer
few_of : (n m : ℕ) → n ≤ m → (n ≡ m → ⊥) → n < m
few_of n m le ne = omega (arith, le, ne)

-- the reader goes on by a call
pub call_taken : (old new : Reader) (text : List ℕ) (call : Call) (stripe_len size : ℕ) → IsSound old → IsSome (next_place old.place kind.Call 0)
    → IsCallForm call → FitsCall call → text ≡ spaced (call_words call) → stripe_len ≡ stripe_length old.geometry → size ≡ size_of (script_of old)
    → new.load.stripes ≡ old.load.stripes + stripes_touched stripe_len call → new.load.read_bytes ≡ old.load.read_bytes + bytes_asked size call
    → (new.load.stripes ≤ MAX_STRIPES) × (new.load.stripes * stripe_len ≤ MAX_STRIPE_BYTES) × (new.load.read_bytes ≤ MAX_READ_BYTES)
    → PushesCall old.clients.items call (pending old.place) (Ok tt) new.clients.items
    → script_of new ≡ record (script_of old) { clients = new.clients.items } → next_place old.place kind.Call 0 ≡ Some new.place
    → IsTaken old text (CallLine call) new
call_taken old new text call stripe_len size sound some form fits is same_len same_size stripes_are read_bytes_are allowed pushed made at =
    let s = script_of old in
    let front = pushed.0 in
    let part = pushed.1 in
    let place' = call_place old.place s some sound.begun.at in
    let parts = front ++ with_call (pending old.place) call part ∷ [] in
    let whole : script_of new ≡ clients_with s parts = made ∙ ap (clients_with s) pushed.4 in
    let few = (All-front ClientPart few_calls front part (All-same few_calls (front ++ part ∷ []) s.clients (sym pushed.2) sound.begun.valid.limits.client_calls)).1 in
    let now : new.load.stripes ≡ stripes_written s + stripes_touched (stripe_length old.geometry) call =
    stripes_are ∙ ap (λ (n : ℕ). n + stripes_touched stripe_len call) sound.stripes ∙ ap (λ (n : ℕ). stripes_written s + stripes_touched n call) same_len in
    let now' : new.load.read_bytes ≡ sum_over_calls (bytes_asked (size_of s)) s + bytes_asked (size_of s) call =
    read_bytes_are ∙ ap (λ (n : ℕ). n + bytes_asked size call) sound.read_bytes ∙ ap (λ (n : ℕ). sum_over_calls (bytes_asked (size_of s)) s + bytes_asked n call) same_size in
    let limits = call_limits s front part (pending old.place) call pushed.2 sound.begun.valid.limits (few_of (length part.calls) MAX_CALLS few pushed.3) fits.1
    (rw (← now) allowed.0) (rw (← now, ← same_len) allowed.1) (rw (← now') allowed.2) in
    let touched : stripes_written (clients_with s parts) ≡ stripes_written s + stripes_touched (stripe_length old.geometry) call =
    calls_of-call (stripes_touched (stripe_length old.geometry)) front part (pending old.place) call
    ∙ ap (λ (ps : List ClientPart). calls_of (stripes_touched (stripe_length old.geometry)) ps + stripes_touched (stripe_length old.geometry) call) (sym pushed.2) in
    let asked : sum_over_calls (bytes_asked (size_of s)) (clients_with s parts) ≡ sum_over_calls (bytes_asked (size_of s)) s + bytes_asked (size_of s) call =
    calls_of-call (bytes_asked (size_of s)) front part (pending old.place) call
    ∙ ap (λ (ps : List ClientPart). calls_of (bytes_asked (size_of s)) ps + bytes_asked (size_of s) call) (sym pushed.2) in
    let begun : IsBegun new.place (clients_with s parts) = record {
      at = call_behind old.place new.place s front part call at place'.0.4 place'.0.5;
      values = call_values s front part (pending old.place) call pushed.2 sound.begun.values (call_value call form fits) place'.1;
      valid = record { form = sound.begun.valid.form; limits = limits; names = call_names s front part (pending old.place) call pushed.2 place'.0.5 sound.begun.valid.names };
    } in
    record {
      spelled = (form, is);
      place = at;
      script = whole ∙ sym (call_clients old.place s front part call pushed.2);
      sound = record {
        begun = rw whole begun;
        stripes = now ∙ sym touched ∙ ap stripes_written (sym whole);
        read_bytes = now' ∙ sym asked ∙ ap (λ (x : Script). sum_over_calls (bytes_asked (size_of x)) x) (sym whole);
      };
    }

-- ---- rebuilds

-- where a rebuild may stand, a repairer's block is open
pub rebuild_place : (p : ScriptPlace) (s : Script) → IsSome (next_place p kind.Rebuild 0) → IsAt p s → HasOpenRepairer s × IfSome (pending p) IsNumber
rebuild_place place.Repairer s some at = (at, tt)
rebuild_place (place.RepairerLimit n) s some at = (at.0, at.1)
rebuild_place _ s some at = absurd (cc some)

-- the place behind a rebuild
pub rebuild_behind : (p q : ScriptPlace) (s : Script) (front : List RepairPart) (part : RepairPart) (rebuild : Rebuild) → next_place p kind.Rebuild 0 ≡ Some q
    → s.schedule ≡ [] → IsAt q (repairers_with s (front ++ with_rebuild (pending p) rebuild part ∷ []))
rebuild_behind place.Repairer q s front part rebuild e no_schedule =
    let same : place.Repairer ≡ q = cc e in rw (← same) (front, with_rebuild None rebuild part, refl, refl, no_schedule)
rebuild_behind (place.RepairerLimit n) q s front part rebuild e no_schedule = let same : place.RepairerEnd ≡ q = cc e in rw (← same) (front, with_rebuild (Some n) rebuild part, refl, refl, no_schedule)
rebuild_behind _ q s front part rebuild e no_schedule = absurd (cc e)

-- what is wrong with the rebuild is wrong with its line
pub rebuild_err : (old new : Reader) (text : List ℕ) → IsSome (next_place old.place kind.Rebuild 0) → IsOfKind text kind.Rebuild
    → (f : FaultKind) → ReadsRebuild text (Err f) → Takes old text (Err f) new
rebuild_err old new text some of_kind fault.Syntax h = λ l spells _.
    let parts = rebuild_line l (of_kind l spells) in
    h parts.0 (subst HasForm parts.1 spells.0) (spells.1 ∙ ap (λ (x : Line). spaced (line_words x)) parts.1)
rebuild_err old new text some of_kind fault.Limit h = (RebuildLine h.0, (h.1, h.3), (some, tt), λ fits. h.2 fits.0)
rebuild_err old new text some of_kind fault.OutOfMemory h = tt
rebuild_err old new text some of_kind fault.Geometry h = absurd h
rebuild_err old new text some of_kind fault.NoSuchActor h = absurd h
rebuild_err old new text some of_kind fault.NoSuchServer h = absurd h
rebuild_err old new text some of_kind fault.MissingEnd h = absurd h

-- a rebuild that was not added
pub rebuild_push_err : (old new : Reader) (text : List ℕ) (rebuild : Rebuild) (leave : Option ℕ) → IsSome (next_place old.place kind.Rebuild 0)
    → IsName rebuild.name → text ≡ spaced (rebuild_words rebuild) → (f : FaultKind) (after : List RepairPart) → PushesRebuild old.repairers.items rebuild leave (Err f) after → Takes old text (Err f) new
rebuild_push_err old new text rebuild leave some form is fault.Limit after h = (
  RebuildLine rebuild,
  (form, is),
  (some, tt),
  λ fits.
      let limits = subst IsWithinLimits (rebuild_repairers old.place (script_of old) h.0 h.1 rebuild h.2) fits.1 in
      let few = rebuild_limits_back (script_of old) h.0 h.1 (pending old.place) rebuild limits in
      omega (arith, h.3, few),
)
rebuild_push_err old new text rebuild leave some form is fault.OutOfMemory after h = tt
rebuild_push_err old new text rebuild leave some form is fault.Syntax after h = absurd h
rebuild_push_err old new text rebuild leave some form is fault.Geometry after h = absurd h
rebuild_push_err old new text rebuild leave some form is fault.NoSuchActor after h = absurd h
rebuild_push_err old new text rebuild leave some form is fault.NoSuchServer after h = absurd h
rebuild_push_err old new text rebuild leave some form is fault.MissingEnd after h = absurd h

-- the limits of the script with the rebuild
rebuild_limits_of : (old : Reader) (rebuild : Rebuild) (after : List RepairPart) → IsSound old → PushesRebuild old.repairers.items rebuild (pending old.place) (Ok tt) after
    → IsWithinLimits (with_line old.place (script_of old) (RebuildLine rebuild))
rebuild_limits_of old rebuild after sound pushed =
    let s = script_of old in
    let front = pushed.0 in
    let part = pushed.1 in
    let few = (All-front RepairPart few_rebuilds front part (All-same few_rebuilds (front ++ part ∷ []) s.repairers (sym pushed.2) sound.begun.valid.limits.repairer_calls)).1 in
    rw (rebuild_repairers old.place s front part rebuild pushed.2)
    (rebuild_limits s front part (pending old.place) rebuild pushed.2 sound.begun.valid.limits (few_of (length part.calls) MAX_CALLS few pushed.3))

-- a rebuild whose server is not there
pub rebuild_no_server : (old : Reader) (text : List ℕ) (rebuild : Rebuild) (after : List RepairPart) → IsSound old → IsSome (next_place old.place kind.Rebuild 0)
    → IsName rebuild.name → IsNumber rebuild.stripe × IsNumber rebuild.server → text ≡ spaced (rebuild_words rebuild)
    → PushesRebuild old.repairers.items rebuild (pending old.place) (Ok tt) after → chunk_count old.geometry ≤ rebuild.server
    → LineFault (Begun old.place (script_of old)) text fault.NoSuchServer
rebuild_no_server old text rebuild after sound some form fits is pushed beyond = (
  RebuildLine rebuild,
  (form, is),
  (some, tt),
  (fits, rebuild_limits_of old rebuild after sound pushed),
  tt,
  tt,
  λ (known : rebuild.server < chunk_count old.geometry). omega (arith, known, beyond),
)

-- the reader goes on by a rebuild
pub rebuild_taken : (old new : Reader) (text : List ℕ) (rebuild : Rebuild) → IsSound old → IsSome (next_place old.place kind.Rebuild 0)
    → IsName rebuild.name → IsNumber rebuild.stripe × IsNumber rebuild.server → text ≡ spaced (rebuild_words rebuild) → rebuild.server < chunk_count old.geometry
    → PushesRebuild old.repairers.items rebuild (pending old.place) (Ok tt) new.repairers.items
    → script_of new ≡ record (script_of old) { repairers = new.repairers.items } → next_place old.place kind.Rebuild 0 ≡ Some new.place → new.load ≡ old.load
    → IsTaken old text (RebuildLine rebuild) new
rebuild_taken old new text rebuild sound some form fits is known pushed made at load =
    let s = script_of old in
    let front = pushed.0 in
    let part = pushed.1 in
    let place' = rebuild_place old.place s some sound.begun.at in
    let parts = front ++ with_rebuild (pending old.place) rebuild part ∷ [] in
    let whole : script_of new ≡ repairers_with s parts = made ∙ ap (repairers_with s) pushed.4 in
    let line = rebuild_repairers old.place s front part rebuild pushed.2 in
    let limits = subst IsWithinLimits line (rebuild_limits_of old rebuild new.repairers.items sound pushed) in
    let begun : IsBegun new.place (repairers_with s parts) = record {
      at = rebuild_behind old.place new.place s front part rebuild at place'.0.4;
      values = rebuild_values s front part (pending old.place) rebuild pushed.2 sound.begun.values (form, fits.0, fits.1) place'.1;
      valid = record { form = sound.begun.valid.form; limits = limits; names = rebuild_names s front part (pending old.place) rebuild pushed.2 place'.0.4 known sound.begun.valid.names };
    } in
    record {
      spelled = (form, is);
      place = at;
      script = whole ∙ sym line;
      sound = record {
        begun = rw whole begun;
        stripes = ap (λ (l : Load). l.stripes) load ∙ sound.stripes ∙ ap stripes_written (sym whole);
        read_bytes = ap (λ (l : Load). l.read_bytes) load ∙ sound.read_bytes ∙ ap (λ (x : Script). sum_over_calls (bytes_asked (size_of x)) x) (sym whole);
      };
    }

-- ---- the kind of a line by its first word

-- a verb, and nothing or words behind it
abbrev pub IsVerb : List ℕ → List ℕ → LineKind → Type 0
IsVerb text verb k = Lacks 32 verb × ((text ≡ verb) ⊎ ((rest : List ℕ) × (text ≡ verb ++ 32 ∷ rest))) × (kind_named verb ≡ Some k)

-- the first word of a call's line
call_verb : (call : Call) → (verb : List ℕ) × IsVerb (spaced (call_words call)) verb kind.Call
call_verb (Put name content) = (codes "put", (Lacks-literal 32 (codes "put") refl, inr (_, refl), refl))
call_verb (Write name offset content) = (codes "write", (Lacks-literal 32 (codes "write") refl, inr (_, refl), refl))
call_verb (Get name) = (codes "get", (Lacks-literal 32 (codes "get") refl, inr (_, refl), refl))
call_verb (ReadAt name offset count) = (codes "read", (Lacks-literal 32 (codes "read") refl, inr (_, refl), refl))
call_verb (Stat name) = (codes "stat", (Lacks-literal 32 (codes "stat") refl, inr (_, refl), refl))
call_verb (Delete name) = (codes "delete", (Lacks-literal 32 (codes "delete") refl, inr (_, refl), refl))

-- the first word of a step's line
step_verb : (step : Token) → (verb : List ℕ) × IsVerb (spaced (token_words step)) verb kind.Step
step_verb (token.Client i) = (codes "c", (Lacks-literal 32 (codes "c") refl, inr (_, refl), refl))
step_verb (token.Repairer i) = (codes "r", (Lacks-literal 32 (codes "r") refl, inr (_, refl), refl))
step_verb token.Sweep = (codes "s", (Lacks-literal 32 (codes "s") refl, inl refl, refl))
step_verb (token.Wipe j) = (codes "wipe", (Lacks-literal 32 (codes "wipe") refl, inr (_, refl), refl))
step_verb (token.Down j) = (codes "down", (Lacks-literal 32 (codes "down") refl, inr (_, refl), refl))
step_verb (token.Up j) = (codes "up", (Lacks-literal 32 (codes "up") refl, inr (_, refl), refl))
step_verb (token.ReapClient i) = (codes "reap", (Lacks-literal 32 (codes "reap") refl, inr (_, refl), refl))
step_verb (token.ReapRepairer i) = (codes "reap", (Lacks-literal 32 (codes "reap") refl, inr (_, refl), refl))
step_verb token.Drain = (codes "drain", (Lacks-literal 32 (codes "drain") refl, inl refl, refl))

-- the first word of a line tells its kind
pub line_verb : (l : Line) → (verb : List ℕ) × IsVerb (spaced (line_words l)) verb (kind_of l)
line_verb (ClayLine form) = (codes "clay", (Lacks-literal 32 (codes "clay") refl, inr (_, refl), refl))
line_verb (CodeLine g) = (codes "code", (Lacks-literal 32 (codes "code") refl, inr (_, refl), refl))
line_verb (SizeLine n) = (codes "size", (Lacks-literal 32 (codes "size") refl, inr (_, refl), refl))
line_verb (TriesLine n) = (codes "tries", (Lacks-literal 32 (codes "tries") refl, inr (_, refl), refl))
line_verb ClientLine = (codes "client", (Lacks-literal 32 (codes "client") refl, inl refl, refl))
line_verb RepairerLine = (codes "repairer", (Lacks-literal 32 (codes "repairer") refl, inl refl, refl))
line_verb (LeaveLine n) = (codes "leave", (Lacks-literal 32 (codes "leave") refl, inr (_, refl), refl))
line_verb (CallLine call) = call_verb call
line_verb (RebuildLine rebuild) = (codes "rebuild", (Lacks-literal 32 (codes "rebuild") refl, inr (_, refl), refl))
line_verb ScheduleLine = (codes "schedule", (Lacks-literal 32 (codes "schedule") refl, inl refl, refl))
line_verb (StepLine step) = step_verb step
line_verb EndLine = (codes "end", (Lacks-literal 32 (codes "end") refl, inl refl, refl))

-- the first word is determined
same_first : (text word verb : List ℕ) → IsFirstWord text word → Lacks 32 verb → ((text ≡ verb) ⊎ ((rest : List ℕ) × (text ≡ verb ++ 32 ∷ rest))) → word ≡ verb
same_first text word verb first lacks (inl e) = elim first.1 [
  | inl is ↦ sym is ∙ e
  | inr more ↦ let P : List ℕ → Type 0 = Lacks 32 in absurd (never_parted 32 word more.0 (subst P (sym e ∙ more.1) lacks))
]
same_first text word verb first lacks (inr v) = elim first.1 [
  | inl is ↦ let P : List ℕ → Type 0 = Lacks 32 in absurd (never_parted 32 verb v.0 (subst P (sym is ∙ v.1) first.0))
  | inr more ↦ (same_parts 32 word more.0 verb v.0 first.0 lacks (sym more.1 ∙ v.1)).0
]

-- a text with this first word is of lines of its kind
pub kind_of_first : (text word : List ℕ) (l : Line) → IsFirstWord text word → SpellsLine text l → kind_named word ≡ Some (kind_of l)
kind_of_first text word l first spells =
    let verb = line_verb l in
    let whole : (text ≡ verb.0) ⊎ ((rest : List ℕ) × (text ≡ verb.0 ++ 32 ∷ rest)) = elim verb.1.1 [
      | inl e ↦ inl (spells.1 ∙ e)
      | inr v ↦ inr (v.0, spells.1 ∙ v.1)
    ] in
    let same = same_first text word verb.0 first verb.1.0 whole in
    ap kind_named same ∙ verb.1.2

-- the same, for the kind that was found
pub of_kind : (text word : List ℕ) (k k' : LineKind) → IsFirstWord text word → Some k ≡ kind_named word → k ≡ k' → IsOfKind text k'
of_kind text word k k' first named same l spells = let same' = kind_of_first text word l first spells in cc (named, same, same')

-- a first word of no kind is of no line
pub no_kind : (front : Front) (text word : List ℕ) → IsFirstWord text word → None ≡ kind_named word → LineFault front text fault.Syntax
no_kind front text word first named l spells _ = let same = kind_of_first text word l first spells in cc (named, same)

-- a line of a kind that may not stand there
pub no_stand : (p : ScriptPlace) (s : Script) (text : List ℕ) (k : LineKind) → IsOfKind text k → is_some (next_place p k 0) ≡ false → LineFault (Begun p s) text fault.Syntax
no_stand p s text k of_kind none l spells stands =
    let same = of_kind l spells in
    let some : IsSome (next_place p k (limit_of l)) = subst (λ (x : LineKind). IsSome (next_place p x (limit_of l))) same stands.0 in
    let some' = any_limit p k (limit_of l) 0 some in
    cc (none, some')

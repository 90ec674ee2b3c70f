-- No text is without a script and without a fault.
use Rattle.std.proofs.Common.{◌≡◌, ◌≢◌, ℕ, zero, suc, ◌+◌, ◌<◌, ◌≤◌, List, [], ◌∷◌, ◌++◌, length, Option, None, Some, refl, sym, ap, ◌∙◌, arith, subst, inl, inr, length-append, append-nil}
use Rattle.std.specs.Prelude.{IsSome, IfSome, ◌⊎◌}
use Rattle.std.specs.List.{flat_map}
use Rattle.std.proofs.lemmas.Bool.{cases_eq}
use Rattle.std.proofs.lemmas.List.Elements.{All-nil}
use Rattle.clay_grid.specs.Limits.{IsGeometry}
use Rattle.clay_grid.specs.Shape.{Shape, chunk_count}
use Rattle.store_map.specs.Limits.{IsWithinLimits}
use Rattle.store_map.specs.Naming.{IsValid, NamesPart}
use Rattle.store_map.specs.declared.actor.Token.{Token}
use Rattle.store_map.specs.declared.call.Call.{Call}
use Rattle.store_map.specs.declared.call.Rebuild.{Rebuild}
use Rattle.store_map.specs.declared.script.Script.{Script}
use Rattle.script_text.specs.Begun.{begun}
use Rattle.script_text.specs.Behind.{place_behind, with_line, kind_of, pending}
use Rattle.script_text.specs.SoFar.{IsBegun}
use Rattle.script_text.specs.Front.{Front, Empty, Opened, Begun, IsFront, front_lines, MayStand, HasEnded}
use Rattle.script_text.specs.Fault.{FitsLimits, HasGeometry, NamesActor, NamesServer, NamesActorOf, server_of_step, LineFault}
use Rattle.script_text.specs.FirstFault.{Spelled, IsFrontFault, IsFault}
use Rattle.line_grammar.specs.Line.{Line, ClayLine, CodeLine, SizeLine, TriesLine, ClientLine, RepairerLine, LeaveLine, CallLine, RebuildLine, ScheduleLine, StepLine, EndLine, line_text}
use Rattle.line_grammar.specs.Lines.{Lacks}
use Rattle.script_text.specs.Place.{next_place}
use Rattle.script_text.specs.Reader.{opened}
use Rattle.script_text.specs.Spelling.{script_lines, spelling}
use Rattle.line_grammar.specs.Forms.{IsForm, IsOfForm, IsLineOfForm, HasForm}
use Rattle.line_grammar.specs.Bounds.{HasNumbers}
use Rattle.line_grammar.specs.Values.{IsNumber, IsScript}
use Rattle.line_grammar.specs.declared.line_fault.FaultKind.{FaultKind}
use Rattle.line_grammar.specs.declared.line_fault.FaultKind.TheVariants as fault
use Rattle.script_text.specs.declared.script_place.LineKind.TheVariants as kind
use Rattle.script_text.specs.declared.script_place.ScriptPlace.{ScriptPlace}
use Rattle.script_text.specs.declared.script_place.ScriptPlace.TheVariants as place
use Rattle.script_text.proofs.FrameLaws.{begun_line, no_clay, no_code}
use Rattle.script_text.proofs.ReaderLaws.{tries_place, client_place, repairer_place, schedule_place, leave_at, names_part, call_value, call_place, call_behind, rebuild_place, rebuild_behind}
use Rattle.script_text.proofs.ScriptLaws.{ended_lines, front_fault, front_missing, one_more}
use Rattle.script_text.proofs.StepLaws.{size_step, tries_step, client_step, repairer_step, step_step, call_clients, call_limits_back, call_values, call_names, rebuild_repairers, rebuild_values, rebuild_names, clients_with, repairers_with, with_call, with_rebuild, empty_client, empty_repairer, few_calls, few_rebuilds, short_data, client_values, repairer_values, limited_client, limited_repairer, known_servers, small_token}

-- ---- one line on

-- what equals a place is there
some_of : (o : Option ScriptPlace) (q : ScriptPlace) → o ≡ Some q → IsSome o
some_of o q e = rw e refl

-- the place is the one where such a line leads
leads : (o : Option ScriptPlace) (q q' : ScriptPlace) → o ≡ Some q → o ≡ Some q' → q' ≡ q
leads o q q' e e' = cc (e, e')

-- the same place by another name
moved : (q q' : ScriptPlace) (s : Script) → q' ≡ q → IsBegun q' s → IsBegun q s
moved q q' s e b = subst (λ (x : ScriptPlace). IsBegun x s) e b

-- a size line without a fault leads to a script so far
size_on : (p q : ScriptPlace) (s : Script) (n : ℕ) → IsBegun p s → next_place p kind.Size 0 ≡ Some q → IsNumber n → IsWithinLimits (with_line p s (SizeLine n)) → IsBegun q (with_line p s (SizeLine n))
size_on place.Code q s n b e small l = moved q place.Size (with_line place.Code s (SizeLine n)) (cc e) (size_step s n b small l.size.0 l.size.1)
size_on _ q s n b e small l = absurd (cc e)

-- so does a tries line
tries_on : (p q : ScriptPlace) (s : Script) (n : ℕ) → IsBegun p s → next_place p kind.Tries 0 ≡ Some q → IsNumber n → IsWithinLimits (with_line p s (TriesLine n)) → IsBegun q (with_line p s (TriesLine n))
tries_on p q s n b e small l =
    let at = tries_place p s (some_of (next_place p kind.Tries 0) q e) b.at in
    moved q place.Tries (with_line p s (TriesLine n)) (leads (next_place p kind.Tries 0) q place.Tries e (at.1 0)) (tries_step p s n at.0 b.values b.valid small l.tries.0 l.tries.1)

-- so does a client's first line
client_on : (p q : ScriptPlace) (s : Script) → IsBegun p s → next_place p kind.Client 0 ≡ Some q → IsWithinLimits (with_line p s ClientLine) → IsBegun q (with_line p s ClientLine)
client_on p q s b e l =
    let at = client_place p s (some_of (next_place p kind.Client 0) q e) b.at in
    let len = length-append s.clients (empty_client ∷ []) in
    moved q place.Client (with_line p s ClientLine) (leads (next_place p kind.Client 0) q place.Client e (at.2 0))
    (client_step p s at.0 at.1 b.values b.valid (omega (arith, len, l.clients)))

-- so does a repairer's first line
repairer_on : (p q : ScriptPlace) (s : Script) → IsBegun p s → next_place p kind.Repairer 0 ≡ Some q → IsWithinLimits (with_line p s RepairerLine) → IsBegun q (with_line p s RepairerLine)
repairer_on p q s b e l =
    let at = repairer_place p s (some_of (next_place p kind.Repairer 0) q e) b.at in
    let len = length-append s.repairers (empty_repairer ∷ []) in
    moved q place.Repairer (with_line p s RepairerLine) (leads (next_place p kind.Repairer 0) q place.Repairer e (at.1 0))
    (repairer_step p s at.0 b.values b.valid (omega (arith, len, l.repairers)))

-- so does a client's call
call_on : (p q : ScriptPlace) (s : Script) (call : Call) → IsBegun p s → next_place p kind.Call 0 ≡ Some q → HasForm (CallLine call) → HasNumbers (CallLine call)
    → IsWithinLimits (with_line p s (CallLine call)) → IsBegun q (with_line p s (CallLine call))
call_on p q s call b e form numbers l =
    let place' = call_place p s (some_of (next_place p kind.Call 0) q e) b.at in
    let o = place'.0 in
    let made = call_clients p s o.0 o.1 call o.2 in
    let limits = subst IsWithinLimits made l in
    let back = call_limits_back s o.0 o.1 (pending p) call o.2 limits in
    let now : IsBegun q (clients_with s (o.0 ++ with_call (pending p) call o.1 ∷ [])) = record {
      at = call_behind p q s o.0 o.1 call e o.4 o.5;
      values = call_values s o.0 o.1 (pending p) call o.2 b.values (call_value call form (numbers, back.1)) place'.1;
      valid = record { form = b.valid.form; limits = limits; names = call_names s o.0 o.1 (pending p) call o.2 o.5 b.valid.names };
    } in
    subst (IsBegun q) (sym made) now

-- so does a repairer's call
rebuild_on : (p q : ScriptPlace) (s : Script) (r : Rebuild) → IsBegun p s → next_place p kind.Rebuild 0 ≡ Some q → HasForm (RebuildLine r) → HasNumbers (RebuildLine r)
    → IsWithinLimits (with_line p s (RebuildLine r)) → r.server < chunk_count s.geometry → IsBegun q (with_line p s (RebuildLine r))
rebuild_on p q s r b e form numbers l known =
    let place' = rebuild_place p s (some_of (next_place p kind.Rebuild 0) q e) b.at in
    let o = place'.0 in
    let made = rebuild_repairers p s o.0 o.1 r o.2 in
    let limits = subst IsWithinLimits made l in
    let now : IsBegun q (repairers_with s (o.0 ++ with_rebuild (pending p) r o.1 ∷ [])) = record {
      at = rebuild_behind p q s o.0 o.1 r e o.4;
      values = rebuild_values s o.0 o.1 (pending p) r o.2 b.values (form, numbers.0, numbers.1) place'.1;
      valid = record { form = b.valid.form; limits = limits; names = rebuild_names s o.0 o.1 (pending p) r o.2 o.4 known b.valid.names };
    } in
    subst (IsBegun q) (sym made) now

-- so does the line before the schedule
schedule_on : (p q : ScriptPlace) (s : Script) → IsBegun p s → next_place p kind.Schedule 0 ≡ Some q → IsBegun q s
schedule_on p q s b e =
    let at = schedule_place p s (some_of (next_place p kind.Schedule 0) q e) b.at in
    moved q place.Schedule s (leads (next_place p kind.Schedule 0) q place.Schedule e (at.1 0)) (record { at = tt; values = b.values; valid = b.valid })

-- so does a step
step_on : (p q : ScriptPlace) (s : Script) (t : Token) → IsBegun p s → next_place p kind.Step 0 ≡ Some q → HasNumbers (StepLine t) → IsWithinLimits (with_line p s (StepLine t))
    → IsOfForm s.form t → NamesActorOf s t → IfSome (server_of_step t) (λ server. server < chunk_count s.geometry) → IsBegun q (with_line p s (StepLine t))
step_on place.Schedule q s t b e small l of_form actor server =
    let len = length-append s.schedule (t ∷ []) in
    moved q place.Schedule (with_line place.Schedule s (StepLine t)) (cc e)
    (step_step s t b.values b.valid small (names_part s t of_form actor server) (omega (arith, len, l.schedule)))
step_on _ q s t b e small l of_form actor server = absurd (cc e)

-- so does the last line
end_on : (p q : ScriptPlace) (s : Script) → IsBegun p s → next_place p kind.End 0 ≡ Some q → IsBegun q s
end_on place.Schedule q s b e = moved q place.End s (cc e) (record { at = tt; values = b.values; valid = b.valid })
end_on _ q s b e = absurd (cc e)

-- a line without a fault leads to a script so far
line_on : (p q : ScriptPlace) (s : Script) (l : Line) → IsBegun p s → place_behind p l ≡ Some q → IsLineOfForm s.form l → HasForm l → HasNumbers l → IsWithinLimits (with_line p s l)
    → NamesActor (Begun p s) l → NamesServer (Begun p s) l → IsBegun q (with_line p s l)
line_on p q s (ClayLine form_of_it) b e of_form form numbers l actor server = absurd (no_clay p q e)
line_on p q s (CodeLine g) b e of_form form numbers l actor server = absurd (no_code p q e)
line_on p q s (SizeLine n) b e of_form form numbers l actor server = size_on p q s n b e numbers l
line_on p q s (TriesLine n) b e of_form form numbers l actor server = tries_on p q s n b e numbers l
line_on p q s ClientLine b e of_form form numbers l actor server = client_on p q s b e l
line_on p q s RepairerLine b e of_form form numbers l actor server = repairer_on p q s b e l
line_on p q s (LeaveLine n) b e of_form form numbers l actor server = record { at = leave_at p q s n e numbers b.at; values = b.values; valid = b.valid }
line_on p q s (CallLine call) b e of_form form numbers l actor server = call_on p q s call b e form numbers l
line_on p q s (RebuildLine r) b e of_form form numbers l actor server = rebuild_on p q s r b e form numbers l server
line_on p q s ScheduleLine b e of_form form numbers l actor server = schedule_on p q s b e
line_on p q s (StepLine t) b e of_form form numbers l actor server = step_on p q s t b e numbers l of_form actor server
line_on p q s EndLine b e of_form form numbers l actor server = end_on p q s b e

-- the script of which only the code is known
opened_begun : (form : ℕ) (g : Shape) → IsForm form → IsGeometry g → IsBegun place.Code (opened form g)
opened_begun form g is_form h = record {
  at = (record { clients = refl; repairers = refl; schedule = refl }, refl, refl);
  values = record { geometry = h; size = tt; tries = tt; clients = All-nil client_values; repairers = All-nil repairer_values; schedule = All-nil small_token };
  valid = record {
    form = is_form;
    limits = record {
      size = tt;
      tries = tt;
      clients = omega arith;
      repairers = omega arith;
      client_calls = All-nil few_calls;
      repairer_calls = All-nil few_rebuilds;
      data_lengths = All-nil short_data;
      stripes = omega arith;
      stripe_bytes = omega arith;
      read_bytes = omega arith;
      schedule = omega arith;
    };
    names = record {
      tokens = All-nil (NamesPart (opened form g));
      rebuilds = All-nil (known_servers g);
      client_limits = All-nil limited_client;
      repairer_limits = All-nil limited_repairer;
    };
  };
}

-- ---- the front behind a line

record IsNext (f : Front) (l : Line) : Type 0 where
  pub next : Front
  pub sound : IsFront next
  pub lines : front_lines next ≡ front_lines f ++ l ∷ []

-- a line without a fault leads to the next front
next_of : (f : Front) (l : Line) → IsFront f → MayStand f l → HasForm l → FitsLimits f l → HasGeometry l → NamesActor f l → NamesServer f l → IsNext f l
next_of Empty l sound stands form fits geometry actor server = first_next l stands form
  where
    first_next : (l : Line) → kind_of l ≡ kind.Clay → HasForm l → IsNext Empty l
    first_next (ClayLine form_of_it) e h = record { next = Opened form_of_it; sound = h; lines = refl }
    first_next _ e h = absurd (cc e)
next_of (Opened form_of_it) l sound stands form fits geometry actor server = code_next l stands geometry
  where
    code_next : (l : Line) → kind_of l ≡ kind.Code → HasGeometry l → IsNext (Opened form_of_it) l
    code_next (CodeLine g) e h = record { next = Begun place.Code (opened form_of_it g); sound = opened_begun form_of_it g sound h; lines = refl }
    code_next _ e h = absurd (cc e)
next_of (Begun p s) l sound stands form fits geometry actor server =
    let q = some_place (place_behind p l) stands.0 in
    record {
      next = Begun q.0 (with_line p s l);
      sound = line_on p q.0 s l sound q.1 stands.1 form fits.0 fits.1 actor server;
      lines = begun_line p q.0 s l q.1 sound.at;
    }
  where
    some_place : (o : Option ScriptPlace) → IsSome o → (q : ScriptPlace) × (o ≡ Some q)
    some_place None h = absurd (cc h)
    some_place (Some q) h = (q, refl)

-- ---- a text's first line

-- a text has no line feed, or a first one
split_feed : (text : List ℕ) → Lacks 10 text ⊎ ((first : List ℕ) × (more : List ℕ) × (text ≡ first ++ 10 ∷ more) × Lacks 10 first)
split_feed [] = inl tt
split_feed (b ∷ bs) = elim (cases_eq b 10) [
  | inl feed ↦ inr ([], bs, ap (λ (x : ℕ). x ∷ bs) feed, tt)
  | inr other ↦ elim (split_feed bs) [
    | inl none ↦ inl (other, none)
    | inr h ↦ inr (b ∷ h.0, h.1, ap (λ (x : List ℕ). b ∷ x) h.2, (other, h.3))
  ]
]

-- the bytes spell no script
abbrev NoScript : List ℕ → Type 0
NoScript bytes = (s : Script) → ¬ Spelled bytes s

-- the bytes have no fault
abbrev NoFault : List ℕ → Type 0
NoFault bytes = (number : ℕ) (k : FaultKind) → ¬ IsFault bytes number k

-- a script to its last line is all of the bytes, or what follows is a fault
ended_covered : (bytes : List ℕ) (s : Script) (rest : List ℕ) → IsBegun place.End s → bytes ≡ flat_map line_text (begun place.End s) ++ rest → NoScript bytes → NoFault bytes → ⊥
unfolding spelling
ended_covered bytes s [] b parted none faultless =
    none s (record {
      values = b.values;
      valid = b.valid;
      spelled = parted ∙ append-nil (flat_map line_text (begun place.End s)) ∙ ap (λ (ls : List Line). flat_map line_text ls) (ended_lines s);
    })
ended_covered bytes s (x ∷ xs) b parted none faultless =
    faultless (length (script_lines s) + 1) fault.Syntax (inr (record {
      script = s;
      values = b.values;
      valid = b.valid;
      rest = x ∷ xs;
      some = λ e. cc e;
      parted = parted ∙ ap (λ (ls : List Line). flat_map line_text ls ++ x ∷ xs) (ended_lines s);
      number_is = refl;
      kind_is = refl;
    }))

-- the last line was read, or it was not
has_ended : (f : Front) → HasEnded f ⊎ (¬ HasEnded f)
has_ended Empty = inr (λ h. h)
has_ended (Opened form) = inr (λ h. h)
has_ended (Begun place.End s) = inl refl
has_ended (Begun place.Code s) = inr (λ e. cc e)
has_ended (Begun place.Size s) = inr (λ e. cc e)
has_ended (Begun place.Tries s) = inr (λ e. cc e)
has_ended (Begun place.Client s) = inr (λ e. cc e)
has_ended (Begun (place.ClientLimit n) s) = inr (λ e. cc e)
has_ended (Begun place.ClientEnd s) = inr (λ e. cc e)
has_ended (Begun place.Repairer s) = inr (λ e. cc e)
has_ended (Begun (place.RepairerLimit n) s) = inr (λ e. cc e)
has_ended (Begun place.RepairerEnd s) = inr (λ e. cc e)
has_ended (Begun place.Schedule s) = inr (λ e. cc e)

-- the same for a front
ended_case : (bytes : List ℕ) (f : Front) (rest : List ℕ) → HasEnded f → IsFront f → bytes ≡ flat_map line_text (front_lines f) ++ rest → NoScript bytes → NoFault bytes → ⊥
ended_case bytes Empty rest e sound parted none faultless = e
ended_case bytes (Opened form) rest e sound parted none faultless = e
ended_case bytes (Begun p s) rest e sound parted none faultless =
    ended_covered bytes s rest (subst (λ (x : ScriptPlace). IsBegun x s) e sound) (parted ∙ ap (λ (x : ScriptPlace). flat_map line_text (begun x s) ++ rest) e) none faultless

-- what stands behind a front, where whole lines can be left to another
covered_at : (bytes : List ℕ) (f : Front) (rest : List ℕ) → IsFront f → bytes ≡ flat_map line_text (front_lines f) ++ rest → NoScript bytes → NoFault bytes
    → (¬ HasEnded f → (text more : List ℕ) → rest ≡ text ++ 10 ∷ more → Lacks 10 text → ⊥) → ⊥
covered_at bytes f rest sound parted none faultless whole = elim (has_ended f) [
  | inl ended ↦ ended_case bytes f rest ended sound parted none faultless
  | inr unended ↦ elim (split_feed rest) [
    | inl lacks ↦ faultless (length (front_lines f) + 1) fault.MissingEnd (inl (front_missing bytes f rest (length (front_lines f) + 1) sound unended refl parted lacks))
    | inr h ↦ whole unended h.0 h.1 h.2 h.3
  ]
]

-- a whole line has a fault, or leads to the next front
line_covered : (bytes : List ℕ) (f : Front) (rest text more : List ℕ) → IsFront f → ¬ HasEnded f → bytes ≡ flat_map line_text (front_lines f) ++ rest
    → rest ≡ text ++ 10 ∷ more → Lacks 10 text → NoFault bytes
    → ((next : Front) → IsFront next → bytes ≡ flat_map line_text (front_lines next) ++ more → ⊥) → ⊥
line_covered bytes f rest text more sound unended parted is lacks faultless go_on =
    faulty fault.Syntax (λ l spells stands.
    faulty fault.Limit (
      l,
      spells,
      stands,
      λ fits.
          faulty fault.Geometry (
            l,
            spells,
            stands,
            fits,
            λ geometry.
                faulty fault.NoSuchActor (
                  l,
                  spells,
                  stands,
                  fits,
                  geometry,
                  λ actor.
                      faulty fault.NoSuchServer (
                        l,
                        spells,
                        stands,
                        fits,
                        geometry,
                        actor,
                        λ server.
                            let next = next_of f l sound stands spells.0 fits geometry actor server in
                            go_on next.next next.sound
                            (one_more bytes (front_lines f) l rest text more parted is spells.1 ∙ ap (λ (ls : List Line). flat_map line_text ls ++ more) (sym next.lines)),
                      ),
                ),
          ),
    ))
  where
    faulty : (k : FaultKind) → LineFault f text k → ⊥
    faulty k h = faultless (length (front_lines f) + 1) k (inl (front_fault bytes f rest text more (length (front_lines f) + 1) k sound unended refl parted is lacks h))

-- line by line, by the length of what is left
covered_behind : (n : ℕ) (bytes : List ℕ) (f : Front) (rest : List ℕ) → length rest ≤ n → IsFront f → bytes ≡ flat_map line_text (front_lines f) ++ rest
    → NoScript bytes → NoFault bytes → ⊥
covered_behind zero bytes f rest len sound parted none faultless =
    covered_at bytes f rest sound parted none faultless (λ unended text more is lacks.
    let size = ap length is ∙ length-append text (10 ∷ more) in omega (arith, size, len))
covered_behind (suc n) bytes f rest len sound parted none faultless =
    covered_at bytes f rest sound parted none faultless (λ unended text more is lacks.
    let size = ap length is ∙ length-append text (10 ∷ more) in
    line_covered bytes f rest text more sound unended parted is lacks faultless (λ next sound' parted'.
    covered_behind n bytes next more (omega (arith, size, len)) sound' parted' none faultless))

-- no bytes are without a script and without a fault
pub covered : (bytes : List ℕ) → NoScript bytes → NoFault bytes → ⊥
covered bytes none faultless = covered_behind (length bytes) bytes Empty bytes (omega arith) tt refl none faultless

-- the same up to the first line `end`
pub covered_front : (bytes : List ℕ) → ((s : Script) (rest : List ℕ) → IsScript s → IsValid s → bytes ≢ spelling s ++ rest)
    → ((number : ℕ) (k : FaultKind) → ¬ IsFrontFault bytes number k) → ⊥
covered_front bytes none faultless =
    covered bytes (λ s h. none s [] h.values h.valid (h.spelled ∙ sym (append-nil (spelling s)))) no_fault
  where
    no_fault : (number : ℕ) (k : FaultKind) → ¬ IsFault bytes number k
    no_fault number k (inl h) = faultless number k h
    no_fault number k (inr h) = none h.script h.rest h.values h.valid h.parted

-- The lines of a script so far, one line on.
use Rattle.std.proofs.Common.{◌≡◌, ℕ, List, [], ◌∷◌, ◌++◌, Option, None, Some, refl, sym, ap, ◌∙◌, subst, append_assoc, append-nil}
use Rattle.std.specs.Prelude.{map}
use Rattle.std.specs.List.{flat_map}
use Rattle.std.proofs.lemmas.Grind.{flat_map-append}
use Rattle.std.proofs.lemmas.List.{map-append}
use Rattle.clay_grid.specs.Shape.{Shape}
use Rattle.store_map.specs.declared.actor.Token.{Token}
use Rattle.store_map.specs.declared.call.Call.{Call}
use Rattle.store_map.specs.declared.call.Rebuild.{Rebuild}
use Rattle.store_map.specs.declared.script.ClientPart.{ClientPart}
use Rattle.store_map.specs.declared.script.RepairPart.{RepairPart}
use Rattle.store_map.specs.declared.script.Script.{Script}
use Rattle.script_text.specs.Begun.{begun, lines_behind_blocks}
use Rattle.script_text.specs.Behind.{place_behind, with_line}
use Rattle.script_text.specs.SoFar.{IsAt}
use Rattle.line_grammar.specs.Line.{Line, ClayLine, CodeLine, SizeLine, TriesLine, ClientLine, RepairerLine, LeaveLine, CallLine, RebuildLine, ScheduleLine, StepLine, EndLine}
use Rattle.script_text.specs.Place.{next_place}
use Rattle.script_text.specs.Spelling.{limited, client_lines, repairer_lines, optional_line}
use Rattle.script_text.specs.declared.script_place.LineKind.TheVariants as kind
use Rattle.script_text.specs.declared.script_place.ScriptPlace.{ScriptPlace}
use Rattle.script_text.specs.declared.script_place.ScriptPlace.TheVariants as place
use Rattle.script_text.proofs.StepLaws.{empty_client, empty_repairer, with_call, with_rebuild, call_clients, rebuild_repairers}

-- lines before the blocks
opening : ℕ × Shape → Option ℕ → Option ℕ → List Line
opening g size tries = ((ClayLine g.0 ∷ CodeLine g.1 ∷ []) ++ optional_line SizeLine size) ++ optional_line TriesLine tries

-- the lines, by the parts of a script
frame : ℕ × Shape → Option ℕ → Option ℕ → List ClientPart → List RepairPart → List Line → List Line
frame g size tries clients repairers behind = ((opening g size tries ++ flat_map client_lines clients) ++ flat_map repairer_lines repairers) ++ behind

-- the lines of a script so far are a frame
begun-frame : (p : ScriptPlace) (s : Script) → begun p s ≡ frame (s.form, s.geometry) s.size s.tries s.clients s.repairers (lines_behind_blocks p s)
unfolding frame opening
begun-frame p s = refl

-- one line more at the end
behind_more : (g : ℕ × Shape) (a b : Option ℕ) (c : List ClientPart) (r : List RepairPart) (behind : List Line) (l : Line)
    → frame g a b c r (behind ++ l ∷ []) ≡ frame g a b c r behind ++ l ∷ []
unfolding frame
behind_more g a b c r behind l = sym (append_assoc ((opening g a b ++ flat_map client_lines c) ++ flat_map repairer_lines r) behind (l ∷ []))

-- a size adds a line to bare lines
size_more : (g : ℕ × Shape) (n : ℕ) → frame g (Some n) None [] [] [] ≡ frame g None None [] [] [] ++ SizeLine n ∷ []
unfolding frame opening
size_more g n = refl

-- so do tries
tries_more : (g : ℕ × Shape) (a : Option ℕ) (n : ℕ) → frame g a (Some n) [] [] [] ≡ frame g a None [] [] [] ++ TriesLine n ∷ []
unfolding frame opening
tries_more g None n = refl
tries_more g (Some m) n = refl

-- no lines behind the clients
bare : (g : ℕ × Shape) (a b : Option ℕ) (c : List ClientPart) → frame g a b c [] [] ≡ opening g a b ++ flat_map client_lines c
unfolding frame
bare g a b c = append-nil ((opening g a b ++ flat_map client_lines c) ++ []) ∙ append-nil (opening g a b ++ flat_map client_lines c)

-- lines behind the clients, where no repairer is
bare_behind : (g : ℕ × Shape) (a b : Option ℕ) (c : List ClientPart) (behind : List Line) → frame g a b c [] behind ≡ (opening g a b ++ flat_map client_lines c) ++ behind
unfolding frame
bare_behind g a b c behind = ap (λ (ls : List Line). ls ++ behind) (append-nil (opening g a b ++ flat_map client_lines c))

-- the last client's lines are the last
last_client : (front : List ClientPart) (part : ClientPart) → flat_map client_lines (front ++ part ∷ []) ≡ flat_map client_lines front ++ client_lines part
last_client front part = flat_map-append client_lines front (part ∷ []) ∙ ap (λ (ls : List Line). flat_map client_lines front ++ ls) (append-nil (client_lines part))

-- the last repairer's lines are the last
last_repairer : (front : List RepairPart) (part : RepairPart) → flat_map repairer_lines (front ++ part ∷ []) ≡ flat_map repairer_lines front ++ repairer_lines part
last_repairer front part = flat_map-append repairer_lines front (part ∷ []) ∙ ap (λ (ls : List Line). flat_map repairer_lines front ++ ls) (append-nil (repairer_lines part))

-- an empty client adds its first line
client_more : (g : ℕ × Shape) (a b : Option ℕ) (c : List ClientPart) → frame g a b (c ++ empty_client ∷ []) [] [] ≡ frame g a b c [] [] ++ ClientLine ∷ []
client_more g a b c =
    bare g a b (c ++ empty_client ∷ [])
    ∙ ap (λ (ls : List Line). opening g a b ++ ls) (last_client c empty_client)
    ∙ sym (append_assoc (opening g a b) (flat_map client_lines c) (ClientLine ∷ []))
    ∙ ap (λ (ls : List Line). ls ++ ClientLine ∷ []) (sym (bare g a b c))

-- no lines behind the repairers
repairer_frame : (g : ℕ × Shape) (a b : Option ℕ) (c : List ClientPart) (r : List RepairPart) → frame g a b c r [] ≡ (opening g a b ++ flat_map client_lines c) ++ flat_map repairer_lines r
unfolding frame
repairer_frame g a b c r = append-nil ((opening g a b ++ flat_map client_lines c) ++ flat_map repairer_lines r)

-- an empty repairer adds its first line
repairer_more : (g : ℕ × Shape) (a b : Option ℕ) (c : List ClientPart) (r : List RepairPart) → frame g a b c (r ++ empty_repairer ∷ []) [] ≡ frame g a b c r [] ++ RepairerLine ∷ []
repairer_more g a b c r =
    repairer_frame g a b c (r ++ empty_repairer ∷ [])
    ∙ ap (λ (ls : List Line). (opening g a b ++ flat_map client_lines c) ++ ls) (last_repairer r empty_repairer)
    ∙ sym (append_assoc (opening g a b ++ flat_map client_lines c) (flat_map repairer_lines r) (RepairerLine ∷ []))
    ∙ ap (λ (ls : List Line). ls ++ RepairerLine ∷ []) (sym (repairer_frame g a b c r))

-- a step limit stands before the last line
limited_snoc : (n : ℕ) (ls : List Line) (l : Line) → limited (Some n) (ls ++ l ∷ []) ≡ (ls ++ LeaveLine n ∷ []) ++ l ∷ []
limited_snoc n [] l = refl
limited_snoc n (x ∷ []) l = refl
limited_snoc n (x ∷ y ∷ ys) l = ap (λ (ls : List Line). x ∷ ls) (limited_snoc n (y ∷ ys) l)

-- the last client's lines with one call more
call_plain : (part : ClientPart) (call : Call) → part.leave ≡ None → client_lines (with_call None call part) ≡ client_lines part ++ CallLine call ∷ []
call_plain part call open' =
    ap (λ (ls : List Line). ClientLine ∷ ls) (map-append CallLine part.calls (call ∷ []))
    ∙ ap (λ (o : Option ℕ). ClientLine ∷ limited o (map CallLine part.calls) ++ CallLine call ∷ []) (sym open')

-- and with one call more behind a step limit
call_limited : (part : ClientPart) (n : ℕ) (call : Call) → part.leave ≡ None → client_lines (with_call (Some n) call part) ≡ (client_lines part ++ LeaveLine n ∷ []) ++ CallLine call ∷ []
call_limited part n call open' =
    ap (λ (ls : List Line). ClientLine ∷ limited (Some n) ls) (map-append CallLine part.calls (call ∷ []))
    ∙ ap (λ (ls : List Line). ClientLine ∷ ls) (limited_snoc n (map CallLine part.calls) (CallLine call))
    ∙ ap (λ (o : Option ℕ). ((ClientLine ∷ limited o (map CallLine part.calls)) ++ LeaveLine n ∷ []) ++ CallLine call ∷ []) (sym open')

-- the last repairer's lines with one rebuild more
rebuild_plain : (part : RepairPart) (rebuild : Rebuild) → part.leave ≡ None → repairer_lines (with_rebuild None rebuild part) ≡ repairer_lines part ++ RebuildLine rebuild ∷ []
rebuild_plain part rebuild open' =
    ap (λ (ls : List Line). RepairerLine ∷ ls) (map-append RebuildLine part.calls (rebuild ∷ []))
    ∙ ap (λ (o : Option ℕ). RepairerLine ∷ limited o (map RebuildLine part.calls) ++ RebuildLine rebuild ∷ []) (sym open')

-- and with one rebuild more behind a step limit
rebuild_limited : (part : RepairPart) (n : ℕ) (rebuild : Rebuild) → part.leave ≡ None
    → repairer_lines (with_rebuild (Some n) rebuild part) ≡ (repairer_lines part ++ LeaveLine n ∷ []) ++ RebuildLine rebuild ∷ []
rebuild_limited part n rebuild open' =
    ap (λ (ls : List Line). RepairerLine ∷ limited (Some n) ls) (map-append RebuildLine part.calls (rebuild ∷ []))
    ∙ ap (λ (ls : List Line). RepairerLine ∷ ls) (limited_snoc n (map RebuildLine part.calls) (RebuildLine rebuild))
    ∙ ap (λ (o : Option ℕ). ((RepairerLine ∷ limited o (map RebuildLine part.calls)) ++ LeaveLine n ∷ []) ++ RebuildLine rebuild ∷ []) (sym open')

-- lines that are added to the last client's, with what stood behind it
call_more : (g : ℕ × Shape) (a b : Option ℕ) (front : List ClientPart) (part part' : ClientPart) (behind : List Line) (l : Line)
    → client_lines part' ≡ (client_lines part ++ behind) ++ l ∷ [] → frame g a b (front ++ part' ∷ []) [] [] ≡ frame g a b (front ++ part ∷ []) [] behind ++ l ∷ []
call_more g a b front part part' behind l e =
    let o = opening g a b in
    let f = flat_map client_lines front in
    let p = client_lines part in
    bare g a b (front ++ part' ∷ [])
    ∙ ap (λ (ls : List Line). o ++ ls) (last_client front part' ∙ ap (λ (ls : List Line). f ++ ls) e ∙ sym (append_assoc f (p ++ behind) (l ∷ [])))
    ∙ sym (append_assoc o (f ++ (p ++ behind)) (l ∷ []))
    ∙ ap (λ (ls : List Line). (o ++ ls) ++ l ∷ []) (sym (append_assoc f p behind) ∙ ap (λ (ls : List Line). ls ++ behind) (sym (last_client front part)))
    ∙ ap (λ (ls : List Line). ls ++ l ∷ []) (sym (append_assoc o (flat_map client_lines (front ++ part ∷ [])) behind) ∙ sym (bare_behind g a b (front ++ part ∷ []) behind))

-- lines that are added to the last repairer's, with what stood behind it
rebuild_more : (g : ℕ × Shape) (a b : Option ℕ) (c : List ClientPart) (front : List RepairPart) (part part' : RepairPart) (behind : List Line) (l : Line)
    → repairer_lines part' ≡ (repairer_lines part ++ behind) ++ l ∷ [] → frame g a b c (front ++ part' ∷ []) [] ≡ frame g a b c (front ++ part ∷ []) behind ++ l ∷ []
unfolding frame
rebuild_more g a b c front part part' behind l e =
    let o = opening g a b ++ flat_map client_lines c in
    let f = flat_map repairer_lines front in
    let p = repairer_lines part in
    append-nil (o ++ flat_map repairer_lines (front ++ part' ∷ []))
    ∙ ap (λ (ls : List Line). o ++ ls) (last_repairer front part' ∙ ap (λ (ls : List Line). f ++ ls) e ∙ sym (append_assoc f (p ++ behind) (l ∷ [])))
    ∙ sym (append_assoc o (f ++ (p ++ behind)) (l ∷ []))
    ∙ ap (λ (ls : List Line). (o ++ ls) ++ l ∷ []) (sym (append_assoc f p behind) ∙ ap (λ (ls : List Line). ls ++ behind) (sym (last_repairer front part)))
    ∙ ap (λ (ls : List Line). ls ++ l ∷ []) (sym (append_assoc o (flat_map repairer_lines (front ++ part ∷ [])) behind))

-- ---- by the kind of line

-- a size adds a line to a script without blocks
size_case : (g : ℕ × Shape) (a b : Option ℕ) (c : List ClientPart) (r : List RepairPart) (n : ℕ) → a ≡ None → b ≡ None → c ≡ [] → r ≡ []
    → frame g (Some n) b c r [] ≡ frame g a b c r [] ++ SizeLine n ∷ []
size_case g a b c r n ea eb ec er = rw (ea, eb, ec, er) (size_more g n)

-- so do tries
tries_case : (g : ℕ × Shape) (a b : Option ℕ) (c : List ClientPart) (r : List RepairPart) (n : ℕ) → b ≡ None → c ≡ [] → r ≡ []
    → frame g a (Some n) c r [] ≡ frame g a b c r [] ++ TriesLine n ∷ []
tries_case g a b c r n eb ec er = rw (eb, ec, er) (tries_more g a n)

-- a client adds its first line where no repairer is
client_case : (g : ℕ × Shape) (a b : Option ℕ) (c : List ClientPart) (r : List RepairPart) → r ≡ []
    → frame g a b (c ++ empty_client ∷ []) r [] ≡ frame g a b c r [] ++ ClientLine ∷ []
client_case g a b c r er = rw er (client_more g a b c)

-- a call adds its line to the last client
call_case : (g : ℕ × Shape) (a b : Option ℕ) (c c' : List ClientPart) (r : List RepairPart) (front : List ClientPart) (part part' : ClientPart) (behind : List Line) (l : Line)
    → c ≡ front ++ part ∷ [] → c' ≡ front ++ part' ∷ [] → r ≡ [] → client_lines part' ≡ (client_lines part ++ behind) ++ l ∷ []
    → frame g a b c' r [] ≡ frame g a b c r behind ++ l ∷ []
call_case g a b c c' r front part part' behind l ec ec' er e = rw (ec, ec', er) (call_more g a b front part part' behind l e)

-- a rebuild adds its line to the last repairer
rebuild_case : (g : ℕ × Shape) (a b : Option ℕ) (c : List ClientPart) (r r' : List RepairPart) (front : List RepairPart) (part part' : RepairPart) (behind : List Line) (l : Line)
    → r ≡ front ++ part ∷ [] → r' ≡ front ++ part' ∷ [] → repairer_lines part' ≡ (repairer_lines part ++ behind) ++ l ∷ []
    → frame g a b c r' [] ≡ frame g a b c r behind ++ l ∷ []
rebuild_case g a b c r r' front part part' behind l er er' e = rw (er, er') (rebuild_more g a b c front part part' behind l e)

-- from frames to the lines of a script so far
framed : (p q : ScriptPlace) (s s' : Script) (l : Line)
    → frame (s'.form, s'.geometry) s'.size s'.tries s'.clients s'.repairers (lines_behind_blocks q s') ≡ frame (s.form, s.geometry) s.size s.tries s.clients s.repairers (lines_behind_blocks p s) ++ l ∷ []
    → begun q s' ≡ begun p s ++ l ∷ []
framed p q s s' l e = begun-frame q s' ∙ e ∙ ap (λ (ls : List Line). ls ++ l ∷ []) (sym (begun-frame p s))

-- at another name of the place
at_place : (p q q' : ScriptPlace) (s s' : Script) (l : Line) → q' ≡ q → begun q' s' ≡ begun p s ++ l ∷ [] → begun q s' ≡ begun p s ++ l ∷ []
at_place p q q' s s' l same e = subst (λ (x : ScriptPlace). begun x s' ≡ begun p s ++ l ∷ []) same e

-- a size line comes behind the lines before it
size_lines : (p q : ScriptPlace) (s : Script) (n : ℕ) → next_place p kind.Size 0 ≡ Some q → IsAt p s → begun q (with_line p s (SizeLine n)) ≡ begun p s ++ SizeLine n ∷ []
size_lines place.Code q s n e at =
    at_place place.Code q place.Size s (with_line place.Code s (SizeLine n)) (SizeLine n) (cc e)
    (framed place.Code place.Size s (with_line place.Code s (SizeLine n)) (SizeLine n)
    (size_case (s.form, s.geometry) s.size s.tries s.clients s.repairers n at.1 at.2 at.0.clients at.0.repairers))
size_lines _ q s n e at = absurd (cc e)

-- so does a tries line
tries_lines : (p q : ScriptPlace) (s : Script) (n : ℕ) → next_place p kind.Tries 0 ≡ Some q → IsAt p s → begun q (with_line p s (TriesLine n)) ≡ begun p s ++ TriesLine n ∷ []
tries_lines place.Code q s n e at =
    at_place place.Code q place.Tries s (with_line place.Code s (TriesLine n)) (TriesLine n) (cc e)
    (framed place.Code place.Tries s (with_line place.Code s (TriesLine n)) (TriesLine n)
    (tries_case (s.form, s.geometry) s.size s.tries s.clients s.repairers n at.2 at.0.clients at.0.repairers))
tries_lines place.Size q s n e at =
    at_place place.Size q place.Tries s (with_line place.Size s (TriesLine n)) (TriesLine n) (cc e)
    (framed place.Size place.Tries s (with_line place.Size s (TriesLine n)) (TriesLine n)
    (tries_case (s.form, s.geometry) s.size s.tries s.clients s.repairers n at.2 at.0.clients at.0.repairers))
tries_lines _ q s n e at = absurd (cc e)

-- so does a client's first line, at one place
client_lines_more : (p q : ScriptPlace) (s : Script) → lines_behind_blocks p s ≡ [] → place.Client ≡ q → s.repairers ≡ [] → begun q (with_line p s ClientLine) ≡ begun p s ++ ClientLine ∷ []
client_lines_more p q s behind same no_repairers =
    at_place p q place.Client s (with_line p s ClientLine) ClientLine same
    (framed p place.Client s (with_line p s ClientLine) ClientLine
    (client_case (s.form, s.geometry) s.size s.tries s.clients s.repairers no_repairers
    ∙ ap (λ (ls : List Line). frame (s.form, s.geometry) s.size s.tries s.clients s.repairers ls ++ ClientLine ∷ []) (sym behind)))

-- and at each place
client_start : (p q : ScriptPlace) (s : Script) → next_place p kind.Client 0 ≡ Some q → IsAt p s → begun q (with_line p s ClientLine) ≡ begun p s ++ ClientLine ∷ []
client_start place.Code q s e at = client_lines_more place.Code q s refl (cc e) at.0.repairers
client_start place.Size q s e at = client_lines_more place.Size q s refl (cc e) at.0.repairers
client_start place.Tries q s e at = client_lines_more place.Tries q s refl (cc e) at.0.repairers
client_start place.Client q s e at = client_lines_more place.Client q s refl (cc e) at.4
client_start place.ClientEnd q s e at = client_lines_more place.ClientEnd q s refl (cc e) at.4
client_start _ q s e at = absurd (cc e)

-- so does a repairer's first line, at one place
repairer_lines_more : (p q : ScriptPlace) (s : Script) → lines_behind_blocks p s ≡ [] → place.Repairer ≡ q → begun q (with_line p s RepairerLine) ≡ begun p s ++ RepairerLine ∷ []
repairer_lines_more p q s behind same =
    at_place p q place.Repairer s (with_line p s RepairerLine) RepairerLine same
    (framed p place.Repairer s (with_line p s RepairerLine) RepairerLine
    (repairer_more (s.form, s.geometry) s.size s.tries s.clients s.repairers
    ∙ ap (λ (ls : List Line). frame (s.form, s.geometry) s.size s.tries s.clients s.repairers ls ++ RepairerLine ∷ []) (sym behind)))

-- and at each place
repairer_start : (p q : ScriptPlace) (s : Script) → next_place p kind.Repairer 0 ≡ Some q → begun q (with_line p s RepairerLine) ≡ begun p s ++ RepairerLine ∷ []
repairer_start place.Code q s e = repairer_lines_more place.Code q s refl (cc e)
repairer_start place.Size q s e = repairer_lines_more place.Size q s refl (cc e)
repairer_start place.Tries q s e = repairer_lines_more place.Tries q s refl (cc e)
repairer_start place.Client q s e = repairer_lines_more place.Client q s refl (cc e)
repairer_start place.ClientEnd q s e = repairer_lines_more place.ClientEnd q s refl (cc e)
repairer_start place.Repairer q s e = repairer_lines_more place.Repairer q s refl (cc e)
repairer_start place.RepairerEnd q s e = repairer_lines_more place.RepairerEnd q s refl (cc e)
repairer_start _ q s e = absurd (cc e)

-- so does a step limit
leave_lines : (p q : ScriptPlace) (s : Script) (n : ℕ) → next_place p kind.Leave n ≡ Some q → begun q s ≡ begun p s ++ LeaveLine n ∷ []
leave_lines place.Client q s n e =
    at_place place.Client q (place.ClientLimit n) s s (LeaveLine n) (cc e)
    (framed place.Client (place.ClientLimit n) s s (LeaveLine n) (behind_more (s.form, s.geometry) s.size s.tries s.clients s.repairers [] (LeaveLine n)))
leave_lines place.Repairer q s n e =
    at_place place.Repairer q (place.RepairerLimit n) s s (LeaveLine n) (cc e)
    (framed place.Repairer (place.RepairerLimit n) s s (LeaveLine n) (behind_more (s.form, s.geometry) s.size s.tries s.clients s.repairers [] (LeaveLine n)))
leave_lines _ q s n e = absurd (cc e)

-- so does a call
call_lines : (p q : ScriptPlace) (s : Script) (call : Call) → next_place p kind.Call 0 ≡ Some q → IsAt p s → begun q (with_line p s (CallLine call)) ≡ begun p s ++ CallLine call ∷ []
call_lines place.Client q s call e at =
    let s' = with_line place.Client s (CallLine call) in
    at_place place.Client q place.Client s s' (CallLine call) (cc e)
    (framed place.Client place.Client s s' (CallLine call)
    (call_case (s.form, s.geometry) s.size s.tries s.clients s'.clients s.repairers at.0 at.1 (with_call None call at.1) [] (CallLine call) at.2
    (ap (λ (x : Script). x.clients) (call_clients place.Client s at.0 at.1 call at.2)) at.4
    (call_plain at.1 call at.3 ∙ ap (λ (ls : List Line). ls ++ CallLine call ∷ []) (sym (append-nil (client_lines at.1))))))
call_lines (place.ClientLimit n) q s call e at =
    let p = place.ClientLimit n in
    let o = at.0 in
    let s' = with_line p s (CallLine call) in
    at_place p q place.ClientEnd s s' (CallLine call) (cc e)
    (framed p place.ClientEnd s s' (CallLine call)
    (call_case (s.form, s.geometry) s.size s.tries s.clients s'.clients s.repairers o.0 o.1 (with_call (Some n) call o.1) (LeaveLine n ∷ []) (CallLine call) o.2
    (ap (λ (x : Script). x.clients) (call_clients p s o.0 o.1 call o.2)) o.4
    (call_limited o.1 n call o.3)))
call_lines _ q s call e at = absurd (cc e)

-- so does a rebuild
rebuild_lines : (p q : ScriptPlace) (s : Script) (rebuild : Rebuild) → next_place p kind.Rebuild 0 ≡ Some q → IsAt p s → begun q (with_line p s (RebuildLine rebuild)) ≡ begun p s ++ RebuildLine rebuild ∷ []
rebuild_lines place.Repairer q s rebuild e at =
    let s' = with_line place.Repairer s (RebuildLine rebuild) in
    at_place place.Repairer q place.Repairer s s' (RebuildLine rebuild) (cc e)
    (framed place.Repairer place.Repairer s s' (RebuildLine rebuild)
    (rebuild_case (s.form, s.geometry) s.size s.tries s.clients s.repairers s'.repairers at.0 at.1 (with_rebuild None rebuild at.1) [] (RebuildLine rebuild) at.2
    (ap (λ (x : Script). x.repairers) (rebuild_repairers place.Repairer s at.0 at.1 rebuild at.2))
    (rebuild_plain at.1 rebuild at.3 ∙ ap (λ (ls : List Line). ls ++ RebuildLine rebuild ∷ []) (sym (append-nil (repairer_lines at.1))))))
rebuild_lines (place.RepairerLimit n) q s rebuild e at =
    let p = place.RepairerLimit n in
    let o = at.0 in
    let s' = with_line p s (RebuildLine rebuild) in
    at_place p q place.RepairerEnd s s' (RebuildLine rebuild) (cc e)
    (framed p place.RepairerEnd s s' (RebuildLine rebuild)
    (rebuild_case (s.form, s.geometry) s.size s.tries s.clients s.repairers s'.repairers o.0 o.1 (with_rebuild (Some n) rebuild o.1) (LeaveLine n ∷ []) (RebuildLine rebuild) o.2
    (ap (λ (x : Script). x.repairers) (rebuild_repairers p s o.0 o.1 rebuild o.2))
    (rebuild_limited o.1 n rebuild o.3)))
rebuild_lines _ q s rebuild e at = absurd (cc e)

-- so does the line before the schedule, at one place
schedule_lines_more : (p q : ScriptPlace) (s : Script) → lines_behind_blocks p s ≡ [] → place.Schedule ≡ q → s.schedule ≡ [] → begun q s ≡ begun p s ++ ScheduleLine ∷ []
schedule_lines_more p q s behind same no_schedule =
    at_place p q place.Schedule s s ScheduleLine same
    (framed p place.Schedule s s ScheduleLine
    (ap (λ (ts : List Token). frame (s.form, s.geometry) s.size s.tries s.clients s.repairers (ScheduleLine ∷ map StepLine ts)) no_schedule
    ∙ behind_more (s.form, s.geometry) s.size s.tries s.clients s.repairers [] ScheduleLine
    ∙ ap (λ (ls : List Line). frame (s.form, s.geometry) s.size s.tries s.clients s.repairers ls ++ ScheduleLine ∷ []) (sym behind)))

-- and at each place
schedule_start : (p q : ScriptPlace) (s : Script) → next_place p kind.Schedule 0 ≡ Some q → IsAt p s → begun q s ≡ begun p s ++ ScheduleLine ∷ []
schedule_start place.Code q s e at = schedule_lines_more place.Code q s refl (cc e) at.0.schedule
schedule_start place.Size q s e at = schedule_lines_more place.Size q s refl (cc e) at.0.schedule
schedule_start place.Tries q s e at = schedule_lines_more place.Tries q s refl (cc e) at.0.schedule
schedule_start place.Client q s e at = schedule_lines_more place.Client q s refl (cc e) at.5
schedule_start place.ClientEnd q s e at = schedule_lines_more place.ClientEnd q s refl (cc e) at.5
schedule_start place.Repairer q s e at = schedule_lines_more place.Repairer q s refl (cc e) at.4
schedule_start place.RepairerEnd q s e at = schedule_lines_more place.RepairerEnd q s refl (cc e) at.4
schedule_start _ q s e at = absurd (cc e)

-- so does a step
step_lines : (p q : ScriptPlace) (s : Script) (step : Token) → next_place p kind.Step 0 ≡ Some q → begun q (with_line p s (StepLine step)) ≡ begun p s ++ StepLine step ∷ []
step_lines place.Schedule q s step e =
    let s' = with_line place.Schedule s (StepLine step) in
    at_place place.Schedule q place.Schedule s s' (StepLine step) (cc e)
    (framed place.Schedule place.Schedule s s' (StepLine step)
    (ap (λ (ls : List Line). frame (s.form, s.geometry) s.size s.tries s.clients s.repairers (ScheduleLine ∷ ls)) (map-append StepLine s.schedule (step ∷ []))
    ∙ behind_more (s.form, s.geometry) s.size s.tries s.clients s.repairers (ScheduleLine ∷ map StepLine s.schedule) (StepLine step)))
step_lines _ q s step e = absurd (cc e)

-- so does the last line
end_lines : (p q : ScriptPlace) (s : Script) → next_place p kind.End 0 ≡ Some q → begun q s ≡ begun p s ++ EndLine ∷ []
end_lines place.Schedule q s e =
    at_place place.Schedule q place.End s s EndLine (cc e)
    (framed place.Schedule place.End s s EndLine
    (behind_more (s.form, s.geometry) s.size s.tries s.clients s.repairers (ScheduleLine ∷ map StepLine s.schedule) EndLine))
end_lines _ q s e = absurd (cc e)

-- the first line stands behind no other
pub no_clay : (p : ScriptPlace) (q : ScriptPlace) → next_place p kind.Clay 0 ≡ Some q → ⊥
no_clay place.Code q e = cc e
no_clay _ q e = cc e

-- the code line stands behind the first alone
pub no_code : (p : ScriptPlace) (q : ScriptPlace) → next_place p kind.Code 0 ≡ Some q → ⊥
no_code place.Code q e = cc e
no_code _ q e = cc e

-- a line that may stand comes behind the lines before it
pub begun_line : (p q : ScriptPlace) (s : Script) (l : Line) → place_behind p l ≡ Some q → IsAt p s → begun q (with_line p s l) ≡ begun p s ++ l ∷ []
begun_line p q s (ClayLine form) e at = absurd (no_clay p q e)
begun_line p q s (CodeLine g) e at = absurd (no_code p q e)
begun_line p q s (SizeLine n) e at = size_lines p q s n e at
begun_line p q s (TriesLine n) e at = tries_lines p q s n e at
begun_line p q s ClientLine e at = client_start p q s e at
begun_line p q s RepairerLine e at = repairer_start p q s e
begun_line p q s (LeaveLine n) e at = leave_lines p q s n e
begun_line p q s (CallLine call) e at = call_lines p q s call e at
begun_line p q s (RebuildLine rebuild) e at = rebuild_lines p q s rebuild e at
begun_line p q s ScheduleLine e at = schedule_start p q s e at
begun_line p q s (StepLine step) e at = step_lines p q s step e
begun_line p q s EndLine e at = end_lines p q s e

-- A snapshot's looks and the ends of their passes as the session's definitions make them, and the tickets that they leave.
use Rattle.std.proofs.Common.{◌≡◌, ℕ, zero, suc, ◌+◌, ◌<◌, ◌≤◌, false, List, [], ◌∷◌, ◌++◌, length, map, take, drop, slice_get, None, Some, option_map, All, refl, sym, ap, subst, ◌∙◌, arith}
use Rattle.std.specs.List.{AllByRecursion, range_with_len}
use Rattle.std.proofs.lemmas.Option.{none-some, same_Some}
use Rattle.std.proofs.lemmas.List.{append-nil, append_assoc, map-append}
use Rattle.std.proofs.lemmas.List.Elements.{All-nil, All-cons, All-head, All-tail, All-push}
use Rattle.store_map.specs.declared.actor.Actor.{Actor}
use Rattle.store_map.specs.declared.actor.Actor.TheVariants as actor
use Rattle.store_map.specs.declared.call.Call.TheVariants as call
use Rattle.store_core.specs.Told.{Told}
use Rattle.store_core.specs.Note.{Note}
use Rattle.store_core.specs.Act.{DirectoryStep}
use Rattle.store_core.specs.Agreement.{Seat, HeldPass, ActorToken, AgreesWithPass, Agrees}
use Rattle.store_core.specs.AtDirectory.{at_directory}
use Rattle.store_core.specs.Calls.{Calls}
use Rattle.store_core.specs.Directory.{Pass, Directory}
use Rattle.store_core.specs.Lookups.{same_actor, pass_of}
use Rattle.store_core.specs.Server.{Server}
use Rattle.store_core.specs.Tokens.{actor_of, after_look, after_pass_step}
use Rattle.call_steps.specs.Callers.{IsClient}
use Rattle.call_steps.specs.TokenAfter.{token_after}
use Rattle.call_steps.proofs.Tickets.{token_stays}
use Rattle.session_rules.specs.State.{Numbering}
use Rattle.session_rules.specs.Readers.{look_at, tickets_of}
use Rattle.session_rules.specs.Serving.{AreLooks}
use Rattle.session_rules.specs.AloneSnapshots.{look_all, end_all}
use Rattle.snapshot_view.specs.LookSteps.{Looked, get_of, look_one, looked_with, look_all as looks_of}
use Rattle.snapshot_view.specs.Releasing.{Released, end_one, end_all as ends_of}
use Rattle.snapshot_view.specs.Tickets.{MayGet}

abbrev first_or : Actor → List Actor → Actor
first_or other [] = other
first_or other (who ∷ actors) = who

abbrev rest_of : List Actor → List Actor
rest_of [] = []
rest_of (who ∷ actors) = actors

abbrev pub AreOf : List ℕ → List ActorToken → Type 0
AreOf readers tokens = map actor_of tokens ≡ map (λ reader. actor.Client reader) readers

-- ---- looks and ends are the session's
pub looks_same : (number : ℕ) (tokens : List ActorToken) (readers : List ℕ) (names : List (List ℕ)) (d : Directory) (so_far : List ActorToken) (servers : List Server) → AreOf readers tokens →
    look_all number readers names (record { directory = d; servers = servers })
    ≡ record { directory = (looks_of number (looked_with d so_far) (take (length names) tokens) names).directory; servers = servers }
looks_same number [] [] [] d so_far servers is = refl
looks_same number [] [] (name ∷ names) d so_far servers is = refl
looks_same number [] (reader ∷ readers) names d so_far servers is = absurd (cc (is))
looks_same number (token ∷ tokens) [] names d so_far servers is = absurd (cc (is))
looks_same number (token ∷ tokens) (reader ∷ readers) [] d so_far servers is = refl
looks_same number (token ∷ tokens) (reader ∷ readers) (name ∷ names) d so_far servers is =
    let after : Directory × Told = at_directory false (actor_of token) number (DirectoryStep.Look (get_of name)) d in
    ap (λ who. look_all number readers names (record { directory = (at_directory false who number (DirectoryStep.Look (get_of name)) d).0; servers = servers })) (sym (ap (first_or actor.Operator) is))
    ∙ looks_same number tokens readers names after.0 (so_far ++ token_after token number (DirectoryStep.Look (get_of name)) after.1 ∷ []) servers (ap rest_of is)

pub ends_same : (number looks : ℕ) (tokens : List ActorToken) (readers : List ℕ) (r : Released) (servers : List Server) → AreOf readers tokens →
    end_all looks readers (record { directory = r.directory; servers = servers }) ≡ record { directory = (ends_of number r tokens).directory; servers = servers }
ends_same number looks [] [] r servers is = refl
ends_same number looks [] (reader ∷ readers) r servers is = absurd (cc (is))
ends_same number looks (token ∷ tokens) [] r servers is = absurd (cc (is))
ends_same number looks (token ∷ tokens) (reader ∷ readers) r servers is =
    ap (λ who. end_all looks readers (record { directory = (at_directory false who looks DirectoryStep.End r.directory).0; servers = servers })) (sym (ap (first_or actor.Operator) is))
    ∙ ends_same number looks tokens readers (end_one number r token) servers (ap rest_of is)

-- the first so many of them
pub first_are_of : (n : ℕ) (tokens : List ActorToken) (readers : List ℕ) → AreOf readers tokens → AreOf (take n readers) (take n tokens)
first_are_of zero tokens readers is = refl
first_are_of (suc n) [] [] is = refl
first_are_of (suc n) [] (reader ∷ readers) is = absurd (cc (is))
first_are_of (suc n) (token ∷ tokens) [] is = absurd (cc (is))
first_are_of (suc n) (token ∷ tokens) (reader ∷ readers) is =
    (λ i. ap (first_or actor.Operator) is i ∷ map actor_of (take n tokens)) ∙ ap (λ (actors : List Actor). actor.Client reader ∷ actors) (first_are_of n tokens readers (ap rest_of is))

-- looks leave each ticket its actor
pub looks_of_same : (number : ℕ) (looked : Looked) (tokens : List ActorToken) (names : List (List ℕ)) → length tokens ≡ length names →
    map actor_of (looks_of number looked tokens names).tokens ≡ map actor_of looked.tokens ++ map actor_of tokens
looks_of_same number looked [] names e = sym (append-nil (map actor_of looked.tokens))
looks_of_same number looked (token ∷ tokens) [] e = absurd (omega (arith, e))
looks_of_same number looked (token ∷ tokens) (name ∷ names) e =
    let step : DirectoryStep = DirectoryStep.Look (get_of name) in
    let answer : Told = (at_directory false (actor_of token) number step looked.directory).1 in
    looks_of_same number (look_one number looked token name) tokens names (omega (arith, e))
    ∙ ap (λ (actors : List Actor). actors ++ map actor_of tokens) (map-append actor_of looked.tokens (token_after token number step answer ∷ []))
    ∙ append_assoc (map actor_of looked.tokens) (actor_of (token_after token number step answer) ∷ []) (map actor_of tokens)
    ∙ ap (λ who. map actor_of looked.tokens ++ who ∷ map actor_of tokens) (token_stays token number step answer)

-- ---- the readers' looks come to be known
pub looks_known : (calls : Calls) (number a k : ℕ) (names : List (List ℕ)) → ((j : ℕ) → calls (actor.Client (a + j)) number ≡ option_map (λ name. call.Get name) (slice_get names j)) →
    AreLooks calls number (range_with_len a k) names
looks_known calls number a zero names all = tt
looks_known calls number a (suc k) [] all = tt
looks_known calls number a (suc k) (name ∷ names) all = (
  let here : a ≡ a + 0 = omega arith in ap (λ i. calls (actor.Client i) number) here ∙ all 0,
  looks_known calls number (a + 1) k names (λ j. let next : a + 1 + j ≡ a + suc j = omega arith in ap (λ i. calls (actor.Client i) number) next ∙ all (suc j)),
)

-- ---- numbers below which all that tickets use are
abbrev pub IsBelow : ℕ → ActorToken → Type 0
IsBelow n (ActorToken.Seated seat) = seat.unused ≤ n
IsBelow n (ActorToken.InCall held) = held.pass.number < n

look_below : (number n : ℕ) → number < n → (seat : Seat) (note : Note) (answer : Told) → seat.unused ≤ n → IsBelow n (after_look seat number note answer)
look_below number n less seat note (Told.Answer point reply) low = omega (arith, less)
look_below number n less seat note (Told.Pinned point length_now seen) low = less
look_below number n less seat note (Told.Ready base length_now seen) low = less
look_below number n less seat note (Told.PinnedStripe seen) low = less
look_below number n less seat note answer low = low

pass_below : (n : ℕ) (held : HeldPass) (answer : Told) → held.pass.number < n → IsBelow n (after_pass_step held answer)
pass_below n held (Told.Versions versions) low = low
pass_below n held (Told.Done point) low = omega (arith, low)
pass_below n held (Told.Changed base newer) low = omega (arith, low)
pass_below n held Told.Ended low = omega (arith, low)
pass_below n held (Told.Superseded newer) low = omega (arith, low)
pass_below n held (Told.Reaped point) low = omega (arith, low)
pass_below n held answer low = low

token_looked : (number n : ℕ) → number < n → (token : ActorToken) (note : Note) (answer : Told) → IsBelow n token → IsBelow n (token_after token number (DirectoryStep.Look note) answer)
token_looked number n less (ActorToken.Seated seat) note answer low = look_below number n less seat note answer low
token_looked number n less (ActorToken.InCall held) note answer low = pass_below n held answer low

token_ended : (number n : ℕ) (token : ActorToken) (answer : Told) → IsBelow n token → IsBelow n (token_after token number DirectoryStep.End answer)
token_ended number n (ActorToken.Seated seat) answer low = low
token_ended number n (ActorToken.InCall held) answer low = pass_below n held answer low

pub looks_below : (number n : ℕ) → number < n → (looked : Looked) (tokens : List ActorToken) (names : List (List ℕ)) → All (IsBelow n) looked.tokens → All (IsBelow n) tokens →
    All (IsBelow n) (looks_of number looked tokens names).tokens
looks_below number n less looked [] names so_far all = so_far
looks_below number n less looked (token ∷ tokens) [] so_far all = so_far
looks_below number n less looked (token ∷ tokens) (name ∷ names) so_far all =
    let step : DirectoryStep = DirectoryStep.Look (get_of name) in
    let answer : Told = (at_directory false (actor_of token) number step looked.directory).1 in
    looks_below number n less (look_one number looked token name) tokens names
    (All-push (IsBelow n) looked.tokens (token_after token number step answer) so_far (token_looked number n less token (get_of name) answer (All-head (IsBelow n) token tokens all)))
    (All-tail (IsBelow n) token tokens all)

pub ends_below : (number n : ℕ) (r : Released) (tokens : List ActorToken) → All (IsBelow n) r.tokens → All (IsBelow n) tokens → All (IsBelow n) (ends_of number r tokens).tokens
ends_below number n r [] so_far all = so_far
ends_below number n r (token ∷ tokens) so_far all =
    let answer : Told = (at_directory false (actor_of token) number DirectoryStep.End r.directory).1 in
    ends_below number n (end_one number r token) tokens
    (All-push (IsBelow n) r.tokens (token_after token number DirectoryStep.End answer) so_far (token_ended number n token answer (All-head (IsBelow n) token tokens all)))
    (All-tail (IsBelow n) token tokens all)

pub below_of : (m n : ℕ) → m ≤ n → (token : ActorToken) → MayGet m token → IsBelow n token
below_of m n less (ActorToken.Seated seat) (low, client) = omega (arith, less, low)
below_of m n less (ActorToken.InCall held) may = absurd may

-- where nobody has a pass the tickets are seats
free_one : (d : Directory) (n : ℕ) → ((who : Actor) → pass_of who d ≡ None) → (token : ActorToken) (reader : ℕ) → actor_of token ≡ actor.Client reader → Agrees d token → IsBelow n token → MayGet n token
free_one d n none (ActorToken.Seated seat) reader who agrees low = (low, subst IsClient (sym who) tt)
free_one d n none (ActorToken.InCall held) reader who agrees low = absurd (none-some (record (held.pass) { reaped = agrees.reap }) (sym (none held.pass.actor) ∙ agrees.is_pass))

pub free_all : (d : Directory) (n : ℕ) → ((who : Actor) → pass_of who d ≡ None) → (tokens : List ActorToken) (readers : List ℕ) → AreOf readers tokens → All (Agrees d) tokens → All (IsBelow n) tokens → All (MayGet n) tokens
free_all d n none [] readers is agrees low = All-nil (MayGet n)
free_all d n none (token ∷ tokens) [] is agrees low = absurd (cc (is))
free_all d n none (token ∷ tokens) (reader ∷ readers) is agrees low =
    All-cons (MayGet n) token tokens (free_one d n none token reader (ap (first_or actor.Operator) is) (All-head (Agrees d) token tokens agrees) (All-head (IsBelow n) token tokens low))
    (free_all d n none tokens readers (ap rest_of is) (All-tail (Agrees d) token tokens agrees) (All-tail (IsBelow n) token tokens low))

-- the passes of a snapshot's looks have the looks' number
held_one : (stands : List ℕ) (number n : ℕ) → number < n → (d : Directory) (reader : ℕ) (object : List ℕ × List ℕ) → AgreesWithPass d (record { pass = look_at stands number reader object; told = None }) →
    (token : ActorToken) → actor_of token ≡ actor.Client reader → Agrees d token → IsBelow n token
held_one stands number n less d reader object its (ActorToken.Seated seat) who agrees =
    absurd (none-some (record (look_at stands number reader object) { reaped = its.reap }) (sym (subst (λ a. pass_of a d ≡ None) who agrees.no_pass) ∙ its.is_pass))
held_one stands number n less d reader object its (ActorToken.InCall held) who agrees =
    let same : record (held.pass) { reaped = agrees.reap } ≡ record (look_at stands number reader object) { reaped = its.reap } =
    same_Some (record (held.pass) { reaped = agrees.reap }) (record (look_at stands number reader object) { reaped = its.reap }) (sym (subst (λ a. pass_of a d ≡ Some (record (held.pass) { reaped = agrees.reap })) who agrees.is_pass) ∙ its.is_pass) in
    subst (λ m. m < n) (sym (ap (λ (pass : Pass). pass.number) same)) less

pub held_below : (stands : List ℕ) (number unused n : ℕ) → number < n → (d : Directory) (tokens : List ActorToken) (readers : List ℕ) (numbers : Numbering) → AreOf readers tokens → All (Agrees d) tokens →
    AllByRecursion (Agrees d) (tickets_of stands number unused readers numbers) → All (IsBelow n) (drop (length numbers) tokens) → All (IsBelow n) tokens
held_below stands number unused n less d tokens readers [] is agrees its rest = rest
held_below stands number unused n less d [] readers (object ∷ numbers) is agrees its rest = All-nil (IsBelow n)
held_below stands number unused n less d (token ∷ tokens) [] (object ∷ numbers) is agrees its rest = absurd (cc (is))
held_below stands number unused n less d (token ∷ tokens) (reader ∷ readers) (object ∷ numbers) is agrees its rest =
    All-cons (IsBelow n) token tokens (held_one stands number n less d reader object its.0 token (ap (first_or actor.Operator) is) (All-head (Agrees d) token tokens agrees))
    (held_below stands number unused n less d tokens readers numbers (ap rest_of is) (All-tail (Agrees d) token tokens agrees) its.1 rest)

-- another actor is none of the readers
pub none_of : (who : Actor) → ((i : ℕ) → 0 < i → same_actor (actor.Client i) who ≡ false) → (a k : ℕ) → 0 < a → All (λ other. same_actor other who ≡ false) (map (λ reader. actor.Client reader) (range_with_len a k))
none_of who apart a zero some = All-nil (λ other. same_actor other who ≡ false)
none_of who apart a (suc k) some =
    All-cons (λ other. same_actor other who ≡ false) (actor.Client a) (map (λ reader. actor.Client reader) (range_with_len (a + 1) k)) (apart a some) (none_of who apart (a + 1) k (omega arith))

-- what holds of the readers' tickets while the sweeper goes on
pub still_all : (d now : Directory) → ((token : ActorToken) → same_actor actor.Sweeper (actor_of token) ≡ false → Agrees d token → Agrees now token) → (tokens : List ActorToken) (readers : List ℕ) → AreOf readers tokens →
    All (Agrees d) tokens → All (Agrees now) tokens
still_all d now still [] readers is agrees = All-nil (Agrees now)
still_all d now still (token ∷ tokens) [] is agrees = absurd (cc (is))
still_all d now still (token ∷ tokens) (reader ∷ readers) is agrees =
    All-cons (Agrees now) token tokens (still token (ap (same_actor actor.Sweeper) (ap (first_or actor.Operator) is)) (All-head (Agrees d) token tokens agrees))
    (still_all d now still tokens readers (ap rest_of is) (All-tail (Agrees d) token tokens agrees))

-- A script so far, one line on.
use Rattle.std.proofs.Common.{◌≡◌, ℕ, ◌+◌, ◌*◌, ◌<◌, ◌≤◌, List, [], ◌∷◌, ◌++◌, length, Option, None, Some, refl, sym, ap, ◌∙◌, arith, length-append, add-zero}
use Rattle.std.specs.Prelude.{All, sum_by, IfSome}
use Rattle.std.proofs.lemmas.List.Elements.{All-nil, All-same, All-push, All-pop, All-weaker}
use Rattle.std.proofs.lemmas.List.Sums.{sum_by_push}
use Rattle.clay_grid.specs.Shape.{Shape, chunk_count, stripe_length}
use Rattle.store_map.specs.Limits.{IsWithinLimits, size_of, stripes_written, stripes_touched, bytes_asked, data_length, sum_over_calls}
use Rattle.store_map.specs.Naming.{IsValid, NamesItsOwn, NamesPart}
use Rattle.store_map.specs.declared.actor.Token.{Token}
use Rattle.store_map.specs.declared.actor.Token.TheVariants as token
use Rattle.store_map.specs.declared.call.Call.{Call}
use Rattle.store_map.specs.declared.call.Rebuild.{Rebuild}
use Rattle.store_map.specs.declared.limits.TheConstants.{MAX_CLIENTS, MAX_REPAIRERS, MAX_CALLS, MAX_DATA, MAX_STRIPES, MAX_STRIPE_BYTES, MAX_READ_BYTES, MAX_SCHEDULE, MAX_SIZE, MAX_TRIES}
use Rattle.store_map.specs.declared.script.ClientPart.{ClientPart}
use Rattle.store_map.specs.declared.script.RepairPart.{RepairPart}
use Rattle.store_map.specs.declared.script.Script.{Script}
use Rattle.script_text.specs.Behind.{on_last, pending, with_line}
use Rattle.script_text.specs.SoFar.{IsBare, IsBegun}
use Rattle.line_grammar.specs.Line.{SizeLine, TriesLine, ClientLine, RepairerLine, CallLine, RebuildLine, StepLine}
use Rattle.line_grammar.specs.Values.{IsNumber, IsCall, IsRebuild, IsScript, token_number}
use Rattle.script_text.specs.declared.script_place.ScriptPlace.{ScriptPlace}
use Rattle.script_text.specs.declared.script_place.ScriptPlace.TheVariants as place

-- the last item is the one at the end
pub on_last-push : {A : Type 0} (f : A → A) (xs : List A) (x : A) → on_last f (xs ++ x ∷ []) ≡ xs ++ f x ∷ []
on_last-push f [] x = refl
on_last-push f (y ∷ []) x = refl
on_last-push f (y ∷ z ∷ ys) x = ap (λ l. y ∷ l) (on_last-push f (z ∷ ys) x)

-- what holds of all holds of the last and of those before it
pub All-front : (X : Type 0) (P : X → Type 0) (xs : List X) (x : X) → All P (xs ++ x ∷ []) → All P xs × P x
All-front X P xs x h = All-pop P (xs ++ x ∷ []) xs (Some x) refl h

-- ---- words for what is asked of the parts

-- a client has few calls
abbrev pub few_calls : ClientPart → Type 0
few_calls part = length part.calls ≤ MAX_CALLS

-- a repairer has few calls
abbrev pub few_rebuilds : RepairPart → Type 0
few_rebuilds part = length part.calls ≤ MAX_CALLS

-- a call's data is short
abbrev pub short_call : Call → Type 0
short_call call = data_length call ≤ MAX_DATA

-- a client's data is short
abbrev pub short_data : ClientPart → Type 0
short_data part = All (λ call. data_length call ≤ MAX_DATA) part.calls

-- a client's calls and its limit are of the types
abbrev pub client_values : ClientPart → Type 0
client_values part = All IsCall part.calls × IfSome part.leave IsNumber

-- a repairer's calls and its limit are of the types
abbrev pub repairer_values : RepairPart → Type 0
repairer_values part = All IsRebuild part.calls × IfSome part.leave IsNumber

-- a client with a step limit has a call
abbrev pub limited_client : ClientPart → Type 0
limited_client part = IfSome part.leave (λ _. 0 < length part.calls)

-- a repairer with a step limit has a call
abbrev pub limited_repairer : RepairPart → Type 0
limited_repairer part = IfSome part.leave (λ _. 0 < length part.calls)

-- a rebuild's server is there
abbrev pub known_server : Shape → Rebuild → Type 0
known_server g rebuild = rebuild.server < chunk_count g

-- so are those of a repairer's rebuilds
abbrev pub known_servers : Shape → RepairPart → Type 0
known_servers g part = All (λ rebuild. rebuild.server < chunk_count g) part.calls

-- a step's number is below 2^32
abbrev pub small_token : Token → Type 0
small_token step = IsNumber (token_number step)

-- a number of each call, summed over blocks
abbrev pub calls_of : (Call → ℕ) → List ClientPart → ℕ
calls_of f parts = sum_by (λ part. sum_by f part.calls) parts

-- a script whose schedule is empty names no one in it
pub no_tokens : (s : Script) → s.schedule ≡ [] → All (NamesPart s) s.schedule
no_tokens s e = All-same (NamesPart s) s.schedule [] e (All-nil (NamesPart s))

-- ---- size and tries

-- a script so far with a size
pub size_step : (s : Script) (n : ℕ) → IsBegun place.Code s → IsNumber n → 1 ≤ n → n ≤ MAX_SIZE → IsBegun place.Size (with_line place.Code s (SizeLine n))
size_step s n b small low high =
    let bare = b.at.0 in
    let l = b.valid.limits in
    let none : calls_of (bytes_asked n) s.clients ≡ 0 = ap (calls_of (bytes_asked n)) bare.clients in
    record {
      at = (record { clients = bare.clients; repairers = bare.repairers; schedule = bare.schedule }, refl, b.at.2);
      values = record { geometry = b.values.geometry; size = small; tries = b.values.tries; clients = b.values.clients; repairers = b.values.repairers; schedule = b.values.schedule };
      valid = record {
        form = b.valid.form;
        limits = record {
          size = (low, high);
          tries = l.tries;
          clients = l.clients;
          repairers = l.repairers;
          client_calls = l.client_calls;
          repairer_calls = l.repairer_calls;
          data_lengths = l.data_lengths;
          stripes = l.stripes;
          stripe_bytes = l.stripe_bytes;
          read_bytes = omega (arith, none);
          schedule = l.schedule;
        };
        names = record {
          tokens = no_tokens (record s { size = Some n }) bare.schedule;
          rebuilds = b.valid.names.rebuilds;
          client_limits = b.valid.names.client_limits;
          repairer_limits = b.valid.names.repairer_limits;
        };
      };
    }

-- with tries
pub tries_step : (p : ScriptPlace) (s : Script) (n : ℕ) → IsBare s → IsScript s → IsValid s → IsNumber n → 1 ≤ n → n ≤ MAX_TRIES → IsBegun place.Tries (with_line p s (TriesLine n))
tries_step p s n bare values valid small low high =
    let l = valid.limits in
    record {
      at = (record { clients = bare.clients; repairers = bare.repairers; schedule = bare.schedule }, refl);
      values = record { geometry = values.geometry; size = values.size; tries = small; clients = values.clients; repairers = values.repairers; schedule = values.schedule };
      valid = record {
        form = valid.form;
        limits = record {
          size = l.size;
          tries = (low, high);
          clients = l.clients;
          repairers = l.repairers;
          client_calls = l.client_calls;
          repairer_calls = l.repairer_calls;
          data_lengths = l.data_lengths;
          stripes = l.stripes;
          stripe_bytes = l.stripe_bytes;
          read_bytes = l.read_bytes;
          schedule = l.schedule;
        };
        names = record {
          tokens = no_tokens (record s { tries = Some n }) bare.schedule;
          rebuilds = valid.names.rebuilds;
          client_limits = valid.names.client_limits;
          repairer_limits = valid.names.repairer_limits;
        };
      };
    }

-- ---- blocks

-- a client without calls
abbrev pub empty_client : ClientPart
empty_client = record { calls = []; leave = None }

-- a repairer without calls
abbrev pub empty_repairer : RepairPart
empty_repairer = record { calls = []; leave = None }

-- the sums over the calls don't see an empty block
pub calls_of-empty : (f : Call → ℕ) (parts : List ClientPart) → calls_of f (parts ++ empty_client ∷ []) ≡ calls_of f parts
calls_of-empty f parts = sum_by_push (λ (part : ClientPart). sum_by f part.calls) parts empty_client ∙ add-zero (calls_of f parts)

-- a script so far with one client more
pub client_step : (p : ScriptPlace) (s : Script) → s.repairers ≡ [] → s.schedule ≡ [] → IsScript s → IsValid s → length s.clients < MAX_CLIENTS
    → IsBegun place.Client (with_line p s ClientLine)
client_step p s no_repairers no_schedule values valid few =
    let l = valid.limits in
    let clients' = s.clients ++ empty_client ∷ [] in
    let s' = record s { clients = clients' } in
    let stripes = calls_of-empty (stripes_touched (stripe_length s.geometry)) s.clients in
    let bytes = calls_of-empty (bytes_asked (size_of s)) s.clients in
    let len = length-append s.clients (empty_client ∷ []) in
    record {
      at = (s.clients, empty_client, refl, refl, no_repairers, no_schedule);
      values = record {
        geometry = values.geometry;
        size = values.size;
        tries = values.tries;
        clients = All-push client_values s.clients empty_client values.clients (All-nil IsCall, tt);
        repairers = values.repairers;
        schedule = values.schedule;
      };
      valid = record {
        form = valid.form;
        limits = record {
          size = l.size;
          tries = l.tries;
          clients = omega (arith, len, few);
          repairers = l.repairers;
          client_calls = All-push few_calls s.clients empty_client l.client_calls (omega arith);
          repairer_calls = l.repairer_calls;
          data_lengths = All-push short_data s.clients empty_client l.data_lengths (All-nil short_call);
          stripes = rw stripes l.stripes;
          stripe_bytes = rw stripes l.stripe_bytes;
          read_bytes = rw bytes l.read_bytes;
          schedule = l.schedule;
        };
        names = record {
          tokens = no_tokens s' no_schedule;
          rebuilds = valid.names.rebuilds;
          client_limits = All-push limited_client s.clients empty_client valid.names.client_limits tt;
          repairer_limits = valid.names.repairer_limits;
        };
      };
    }

-- with one repairer more
pub repairer_step : (p : ScriptPlace) (s : Script) → s.schedule ≡ [] → IsScript s → IsValid s → length s.repairers < MAX_REPAIRERS
    → IsBegun place.Repairer (with_line p s RepairerLine)
repairer_step p s no_schedule values valid few =
    let l = valid.limits in
    let s' = record s { repairers = s.repairers ++ empty_repairer ∷ [] } in
    let len = length-append s.repairers (empty_repairer ∷ []) in
    record {
      at = (s.repairers, empty_repairer, refl, refl, no_schedule);
      values = record {
        geometry = values.geometry;
        size = values.size;
        tries = values.tries;
        clients = values.clients;
        repairers = All-push repairer_values s.repairers empty_repairer values.repairers (All-nil IsRebuild, tt);
        schedule = values.schedule;
      };
      valid = record {
        form = valid.form;
        limits = record {
          size = l.size;
          tries = l.tries;
          clients = l.clients;
          repairers = omega (arith, len, few);
          client_calls = l.client_calls;
          repairer_calls = All-push few_rebuilds s.repairers empty_repairer l.repairer_calls (omega arith);
          data_lengths = l.data_lengths;
          stripes = l.stripes;
          stripe_bytes = l.stripe_bytes;
          read_bytes = l.read_bytes;
          schedule = l.schedule;
        };
        names = record {
          tokens = no_tokens s' no_schedule;
          rebuilds = All-push (known_servers s.geometry) s.repairers empty_repairer valid.names.rebuilds (All-nil (known_server s.geometry));
          client_limits = valid.names.client_limits;
          repairer_limits = All-push limited_repairer s.repairers empty_repairer valid.names.repairer_limits tt;
        };
      };
    }

-- ---- calls

-- a client with one call more
abbrev pub with_call : Option ℕ → Call → ClientPart → ClientPart
with_call leave call part = record { calls = part.calls ++ call ∷ []; leave = leave }

-- a repairer with one rebuild more
abbrev pub with_rebuild : Option ℕ → Rebuild → RepairPart → RepairPart
with_rebuild leave rebuild part = record { calls = part.calls ++ rebuild ∷ []; leave = leave }

-- one call more adds its number to a sum over the calls
pub calls_of-call : (f : Call → ℕ) (front : List ClientPart) (part : ClientPart) (leave : Option ℕ) (call : Call)
    → calls_of f (front ++ with_call leave call part ∷ []) ≡ calls_of f (front ++ part ∷ []) + f call
calls_of-call f front part leave call =
    let g : ClientPart → ℕ = λ part. sum_by f part.calls in
    let new = sum_by_push g front (with_call leave call part) in
    let old = sum_by_push g front part in
    let inner = sum_by_push f part.calls call in
    omega (arith, new, old, inner)

-- a list with one item more is not empty
pub positive_length : (X : Type 0) (xs : List X) (x : X) → 0 < length (xs ++ x ∷ [])
positive_length X xs x = let len = length-append xs (x ∷ []) in omega (arith, len)

-- the script with the last client's call, as its parts are
abbrev pub clients_with : Script → List ClientPart → Script
clients_with s parts = record s { clients = parts }

-- a script with one call more is within the limits where there is room for it
pub call_limits : (s : Script) (front : List ClientPart) (part : ClientPart) (leave : Option ℕ) (call : Call) → s.clients ≡ front ++ part ∷ [] → IsWithinLimits s
    → length part.calls < MAX_CALLS → data_length call ≤ MAX_DATA
    → stripes_written s + stripes_touched (stripe_length s.geometry) call ≤ MAX_STRIPES
    → (stripes_written s + stripes_touched (stripe_length s.geometry) call) * stripe_length s.geometry ≤ MAX_STRIPE_BYTES
    → sum_over_calls (bytes_asked (size_of s)) s + bytes_asked (size_of s) call ≤ MAX_READ_BYTES
    → IsWithinLimits (clients_with s (front ++ with_call leave call part ∷ []))
call_limits s front part leave call parted l few short stripes stripe_bytes bytes =
    let new = with_call leave call part in
    let client_calls = All-front ClientPart few_calls front part (All-same few_calls (front ++ part ∷ []) s.clients (sym parted) l.client_calls) in
    let data_lengths = All-front ClientPart short_data front part (All-same short_data (front ++ part ∷ []) s.clients (sym parted) l.data_lengths) in
    let touched = calls_of-call (stripes_touched (stripe_length s.geometry)) front part leave call
    ∙ ap (λ (ps : List ClientPart). calls_of (stripes_touched (stripe_length s.geometry)) ps + stripes_touched (stripe_length s.geometry) call) (sym parted) in
    let asked = calls_of-call (bytes_asked (size_of s)) front part leave call
    ∙ ap (λ (ps : List ClientPart). calls_of (bytes_asked (size_of s)) ps + bytes_asked (size_of s) call) (sym parted) in
    let len = length-append front (new ∷ []) in
    let len' = ap length parted ∙ length-append front (part ∷ []) in
    let more = length-append part.calls (call ∷ []) in
    record {
      size = l.size;
      tries = l.tries;
      clients = omega (arith, len, len', l.clients);
      repairers = l.repairers;
      client_calls = All-push few_calls front new client_calls.0 (omega (arith, more, few));
      repairer_calls = l.repairer_calls;
      data_lengths = All-push short_data front new data_lengths.0 (All-push short_call part.calls call data_lengths.1 short);
      stripes = rw touched stripes;
      stripe_bytes = rw touched stripe_bytes;
      read_bytes = rw asked bytes;
      schedule = l.schedule;
    }

-- what such a script's limits show
pub call_limits_back : (s : Script) (front : List ClientPart) (part : ClientPart) (leave : Option ℕ) (call : Call) → s.clients ≡ front ++ part ∷ []
    → IsWithinLimits (clients_with s (front ++ with_call leave call part ∷ []))
    → (length part.calls < MAX_CALLS) × (data_length call ≤ MAX_DATA)
    × (stripes_written s + stripes_touched (stripe_length s.geometry) call ≤ MAX_STRIPES)
    × ((stripes_written s + stripes_touched (stripe_length s.geometry) call) * stripe_length s.geometry ≤ MAX_STRIPE_BYTES)
    × (sum_over_calls (bytes_asked (size_of s)) s + bytes_asked (size_of s) call ≤ MAX_READ_BYTES)
call_limits_back s front part leave call parted l =
    let new = with_call leave call part in
    let few = (All-front ClientPart few_calls front new l.client_calls).1 in
    let short = (All-front ClientPart short_data front new l.data_lengths).1 in
    let last = (All-front Call short_call part.calls call short).1 in
    let touched = calls_of-call (stripes_touched (stripe_length s.geometry)) front part leave call
    ∙ ap (λ (ps : List ClientPart). calls_of (stripes_touched (stripe_length s.geometry)) ps + stripes_touched (stripe_length s.geometry) call) (sym parted) in
    let asked = calls_of-call (bytes_asked (size_of s)) front part leave call
    ∙ ap (λ (ps : List ClientPart). calls_of (bytes_asked (size_of s)) ps + bytes_asked (size_of s) call) (sym parted) in
    let more = length-append part.calls (call ∷ []) in
    (omega (arith, more, few), last, rw (← touched) l.stripes, rw (← touched) l.stripe_bytes, rw (← asked) l.read_bytes)

-- and its values are of the types
pub call_values : (s : Script) (front : List ClientPart) (part : ClientPart) (leave : Option ℕ) (call : Call) → s.clients ≡ front ++ part ∷ [] → IsScript s
    → IsCall call → IfSome leave IsNumber → IsScript (clients_with s (front ++ with_call leave call part ∷ []))
call_values s front part leave call parted values is small =
    let old = All-front ClientPart client_values front part (All-same client_values (front ++ part ∷ []) s.clients (sym parted) values.clients) in
    record {
      geometry = values.geometry;
      size = values.size;
      tries = values.tries;
      clients = All-push client_values front (with_call leave call part) old.0 (All-push IsCall part.calls call old.1.0 is, small);
      repairers = values.repairers;
      schedule = values.schedule;
    }

-- and it names its own parts
pub call_names : (s : Script) (front : List ClientPart) (part : ClientPart) (leave : Option ℕ) (call : Call) → s.clients ≡ front ++ part ∷ [] → s.schedule ≡ []
    → NamesItsOwn s → NamesItsOwn (clients_with s (front ++ with_call leave call part ∷ []))
call_names s front part leave call parted no_schedule names =
    let new = with_call leave call part in
    let old = All-front ClientPart limited_client front part (All-same limited_client (front ++ part ∷ []) s.clients (sym parted) names.client_limits) in
    record {
      tokens = no_tokens (clients_with s (front ++ new ∷ [])) no_schedule;
      rebuilds = names.rebuilds;
      client_limits = All-push limited_client front new old.0 (limits_some leave);
      repairer_limits = names.repairer_limits;
    }
  where
    limits_some : (leave : Option ℕ) → limited_client (with_call leave call part)
    limits_some None = tt
    limits_some (Some n) = positive_length Call part.calls call

-- the script with the last client's call
pub call_clients : (p : ScriptPlace) (s : Script) (front : List ClientPart) (part : ClientPart) (call : Call) → s.clients ≡ front ++ part ∷ []
    → with_line p s (CallLine call) ≡ clients_with s (front ++ with_call (pending p) call part ∷ [])
call_clients p s front part call parted =
    ap (clients_with s) (ap (on_last (with_call (pending p) call)) parted ∙ on_last-push (with_call (pending p) call) front part)

-- ---- rebuilds

-- a script with other repairers
abbrev pub repairers_with : Script → List RepairPart → Script
repairers_with s parts = record s { repairers = parts }

-- a script with one rebuild more is within the limits where there is room for it
pub rebuild_limits : (s : Script) (front : List RepairPart) (part : RepairPart) (leave : Option ℕ) (rebuild : Rebuild) → s.repairers ≡ front ++ part ∷ [] → IsWithinLimits s
    → length part.calls < MAX_CALLS → IsWithinLimits (repairers_with s (front ++ with_rebuild leave rebuild part ∷ []))
rebuild_limits s front part leave rebuild parted l few =
    let new = with_rebuild leave rebuild part in
    let old = All-front RepairPart few_rebuilds front part (All-same few_rebuilds (front ++ part ∷ []) s.repairers (sym parted) l.repairer_calls) in
    let len = length-append front (new ∷ []) in
    let len' = ap length parted ∙ length-append front (part ∷ []) in
    let more = length-append part.calls (rebuild ∷ []) in
    record {
      size = l.size;
      tries = l.tries;
      clients = l.clients;
      repairers = omega (arith, len, len', l.repairers);
      client_calls = l.client_calls;
      repairer_calls = All-push few_rebuilds front new old.0 (omega (arith, more, few));
      data_lengths = l.data_lengths;
      stripes = l.stripes;
      stripe_bytes = l.stripe_bytes;
      read_bytes = l.read_bytes;
      schedule = l.schedule;
    }

-- what such a script's limits show
pub rebuild_limits_back : (s : Script) (front : List RepairPart) (part : RepairPart) (leave : Option ℕ) (rebuild : Rebuild)
    → IsWithinLimits (repairers_with s (front ++ with_rebuild leave rebuild part ∷ [])) → length part.calls < MAX_CALLS
rebuild_limits_back s front part leave rebuild l =
    let few = (All-front RepairPart few_rebuilds front (with_rebuild leave rebuild part) l.repairer_calls).1 in
    let more = length-append part.calls (rebuild ∷ []) in
    omega (arith, more, few)

-- its values are of the types
pub rebuild_values : (s : Script) (front : List RepairPart) (part : RepairPart) (leave : Option ℕ) (rebuild : Rebuild) → s.repairers ≡ front ++ part ∷ [] → IsScript s
    → IsRebuild rebuild → IfSome leave IsNumber → IsScript (repairers_with s (front ++ with_rebuild leave rebuild part ∷ []))
rebuild_values s front part leave rebuild parted values is small =
    let old = All-front RepairPart repairer_values front part (All-same repairer_values (front ++ part ∷ []) s.repairers (sym parted) values.repairers) in
    record {
      geometry = values.geometry;
      size = values.size;
      tries = values.tries;
      clients = values.clients;
      repairers = All-push repairer_values front (with_rebuild leave rebuild part) old.0 (All-push IsRebuild part.calls rebuild old.1.0 is, small);
      schedule = values.schedule;
    }

-- and it names its own parts
pub rebuild_names : (s : Script) (front : List RepairPart) (part : RepairPart) (leave : Option ℕ) (rebuild : Rebuild) → s.repairers ≡ front ++ part ∷ [] → s.schedule ≡ []
    → rebuild.server < chunk_count s.geometry → NamesItsOwn s → NamesItsOwn (repairers_with s (front ++ with_rebuild leave rebuild part ∷ []))
rebuild_names s front part leave rebuild parted no_schedule known names =
    let new = with_rebuild leave rebuild part in
    let g = s.geometry in
    let old = All-front RepairPart limited_repairer front part (All-same limited_repairer (front ++ part ∷ []) s.repairers (sym parted) names.repairer_limits) in
    let servers = All-front RepairPart (known_servers g) front part (All-same (known_servers g) (front ++ part ∷ []) s.repairers (sym parted) names.rebuilds) in
    record {
      tokens = no_tokens (repairers_with s (front ++ new ∷ [])) no_schedule;
      rebuilds = All-push (known_servers g) front new servers.0 (All-push (known_server g) part.calls rebuild servers.1 known);
      client_limits = names.client_limits;
      repairer_limits = All-push limited_repairer front new old.0 (limits_some leave);
    }
  where
    limits_some : (leave : Option ℕ) → limited_repairer (with_rebuild leave rebuild part)
    limits_some None = tt
    limits_some (Some n) = positive_length Rebuild part.calls rebuild

-- the script with the last repairer's rebuild
pub rebuild_repairers : (p : ScriptPlace) (s : Script) (front : List RepairPart) (part : RepairPart) (rebuild : Rebuild) → s.repairers ≡ front ++ part ∷ []
    → with_line p s (RebuildLine rebuild) ≡ repairers_with s (front ++ with_rebuild (pending p) rebuild part ∷ [])
rebuild_repairers p s front part rebuild parted =
    ap (repairers_with s) (ap (on_last (with_rebuild (pending p) rebuild)) parted ∙ on_last-push (with_rebuild (pending p) rebuild) front part)

-- ---- the schedule

-- a script with another schedule
abbrev pub schedule_with : Script → List Token → Script
schedule_with s steps = record s { schedule = steps }

-- the schedule doesn't count for whom it may name
names_same : (s : Script) (steps : List Token) (step : Token) → NamesPart s step → NamesPart (schedule_with s steps) step
names_same s steps (token.Client i) h = h
names_same s steps (token.Repairer i) h = h
names_same s steps token.Sweep h = h
names_same s steps (token.Wipe j) h = h
names_same s steps (token.Down j) h = h
names_same s steps (token.Up j) h = h
names_same s steps (token.ReapClient i) h = h
names_same s steps (token.ReapRepairer i) h = h
names_same s steps token.Drain h = h

-- a script so far with one step more
pub step_step : (s : Script) (step : Token) → IsScript s → IsValid s → small_token step → NamesPart s step → length s.schedule < MAX_SCHEDULE
    → IsBegun place.Schedule (with_line place.Schedule s (StepLine step))
step_step s step values valid small named few =
    let l = valid.limits in
    let steps = s.schedule ++ step ∷ [] in
    let s' = schedule_with s steps in
    let len = length-append s.schedule (step ∷ []) in
    record {
      at = tt;
      values = record {
        geometry = values.geometry;
        size = values.size;
        tries = values.tries;
        clients = values.clients;
        repairers = values.repairers;
        schedule = All-push small_token s.schedule step values.schedule small;
      };
      valid = record {
        form = valid.form;
        limits = record {
          size = l.size;
          tries = l.tries;
          clients = l.clients;
          repairers = l.repairers;
          client_calls = l.client_calls;
          repairer_calls = l.repairer_calls;
          data_lengths = l.data_lengths;
          stripes = l.stripes;
          stripe_bytes = l.stripe_bytes;
          read_bytes = l.read_bytes;
          schedule = omega (arith, len, few);
        };
        names = record {
          tokens = All-push (NamesPart s') s.schedule step (All-weaker (NamesPart s) (NamesPart s') (names_same s steps) s.schedule valid.names.tokens) (names_same s steps step named);
          rebuilds = valid.names.rebuilds;
          client_limits = valid.names.client_limits;
          repairer_limits = valid.names.repairer_limits;
        };
      };
    }

-- A script so far, before its last line.
use Rattle.std.proofs.Common.{◌≡◌, ℕ, ◌*◌, ◌<◌, ◌≤◌, List, [], ◌∷◌, ◌++◌, length, Option, None, Some, refl, sym, ap, ◌∙◌, arith, subst, inl, inr, length-append, mul-le-mul_right}
use Rattle.std.specs.Prelude.{All, sum_by, IfSome, IsSome, ◌⊎◌}
use Rattle.std.proofs.lemmas.List.Elements.{All-same, All-push, All-weaker}
use Rattle.std.proofs.lemmas.List.Sums.{sum_by_push}
use Rattle.clay_grid.specs.Shape.{Shape, stripe_length}
use Rattle.store_map.specs.Limits.{IsWithinLimits, size_of, stripes_touched, bytes_asked}
use Rattle.store_map.specs.Naming.{IsValid, NamesPart}
use Rattle.store_map.specs.declared.actor.Token.{Token}
use Rattle.store_map.specs.declared.actor.Token.TheVariants as token
use Rattle.store_map.specs.declared.call.Call.{Call}
use Rattle.store_map.specs.declared.call.Call.TheVariants.{Put, Write, Get, ReadAt, Stat, Delete}
use Rattle.store_map.specs.declared.call.Rebuild.{Rebuild}
use Rattle.store_map.specs.declared.content.Content.{Content}
use Rattle.store_map.specs.declared.content.Content.TheVariants.{Hex, Fill, Ramp}
use Rattle.store_map.specs.declared.script.ClientPart.{ClientPart}
use Rattle.store_map.specs.declared.script.RepairPart.{RepairPart}
use Rattle.store_map.specs.declared.script.Script.{Script}
use Rattle.script_text.specs.Behind.{place_behind, with_line, pending}
use Rattle.script_text.specs.SoFar.{IsBare, IsAt, IsBegun}
use Rattle.script_text.specs.Front.{Begun}
use Rattle.script_text.specs.Fault.{NamesActor, NamesServer}
use Rattle.line_grammar.specs.Line.{Line, SizeLine, TriesLine, ClientLine, RepairerLine, LeaveLine, CallLine, RebuildLine, ScheduleLine, StepLine, EndLine}
use Rattle.script_text.specs.Place.{next_place}
use Rattle.script_text.specs.Reader.{opened}
use Rattle.line_grammar.specs.Values.{IsNumber, IsContent, IsCall, IsRebuild, IsScript}
use Rattle.line_grammar.specs.Forms.{IsContentForm, IsCallForm, IsOfForm, IsLineOfForm, HasForm}
use Rattle.line_grammar.specs.Bounds.{HasNumbers, HasContentNumbers, HasCallNumbers}
use Rattle.script_text.specs.declared.script_place.LineKind.TheVariants as kind
use Rattle.script_text.specs.declared.script_place.ScriptPlace.{ScriptPlace}
use Rattle.script_text.specs.declared.script_place.ScriptPlace.TheVariants as place
use Rattle.script_text.proofs.StepLaws.{All-front, few_calls, few_rebuilds, short_call, short_data, client_values, repairer_values, limited_client, limited_repairer, known_server, known_servers, small_token, calls_of, calls_of-call, no_tokens, empty_client, empty_repairer, with_call, with_rebuild, clients_with, repairers_with, schedule_with, call_clients, rebuild_repairers}

-- a list is empty or has a last item
pub last_item : (X : Type 0) (xs : List X) → (xs ≡ []) ⊎ ((front : List X) × (x : X) × (xs ≡ front ++ x ∷ []))
last_item X [] = inl refl
last_item X (x ∷ xs) = elim (last_item X xs) [
  | inl none ↦ inr ([], x, ap (λ (l : List X). x ∷ l) none)
  | inr more ↦ inr (x ∷ more.0, more.1, ap (λ (l : List X). x ∷ l) more.2)
]

-- a number that is there
some_number : (o : Option ℕ) → IsSome o → (n : ℕ) × (o ≡ Some n)
some_number None h = absurd (cc h)
some_number (Some n) h = (n, refl)

-- a number is there, or none is
none_or_some : (o : Option ℕ) → (o ≡ None) ⊎ ((n : ℕ) × (o ≡ Some n))
none_or_some None = inl refl
none_or_some (Some n) = inr (n, refl)

-- what equals a number is there
is_some : (o : Option ℕ) (n : ℕ) → o ≡ Some n → IsSome o
is_some o n e = rw e refl

-- a number that is there is below 2^32, if each one is
small_some : (o : Option ℕ) (n : ℕ) → o ≡ Some n → IfSome o IsNumber → IsNumber n
small_some o n e h = subst (λ (x : Option ℕ). IfSome x IsNumber) e h

-- the script so far, before its last line, which has no fault there
pub record HasBefore (q : ScriptPlace) (s : Script) : Type 0 where
  pub p : ScriptPlace
  pub before : Script
  pub l : Line
  pub begun : IsBegun p before
  pub place : place_behind p l ≡ Some q
  pub script : with_line p before l ≡ s
  pub form : HasForm l
  pub of_form : IsLineOfForm before.form l
  pub numbers : HasNumbers l
  pub actor : NamesActor (Begun p before) l
  pub server : NamesServer (Begun p before) l

-- ---- size and tries

-- behind a size line: the script without its size
before_size : (s : Script) → IsBegun place.Size s → HasBefore place.Size s
before_size s b =
    let bare = b.at.0 in
    let n = some_number s.size b.at.1 in
    let s' = record s { size = None } in
    let l = b.valid.limits in
    let none : calls_of (bytes_asked (size_of s')) s.clients ≡ 0 = ap (calls_of (bytes_asked (size_of s'))) bare.clients in
    record {
      p = place.Code;
      before = s';
      l = SizeLine n.0;
      begun = record {
        at = (record { clients = bare.clients; repairers = bare.repairers; schedule = bare.schedule }, refl, b.at.2);
        values = record { geometry = b.values.geometry; size = tt; tries = b.values.tries; clients = b.values.clients; repairers = b.values.repairers; schedule = b.values.schedule };
        valid = record {
          form = b.valid.form;
          limits = record {
            size = tt;
            tries = l.tries;
            clients = l.clients;
            repairers = l.repairers;
            client_calls = l.client_calls;
            repairer_calls = l.repairer_calls;
            data_lengths = l.data_lengths;
            stripes = l.stripes;
            stripe_bytes = l.stripe_bytes;
            read_bytes = omega (arith, none);
            schedule = l.schedule;
          };
          names = record {
            tokens = no_tokens s' bare.schedule;
            rebuilds = b.valid.names.rebuilds;
            client_limits = b.valid.names.client_limits;
            repairer_limits = b.valid.names.repairer_limits;
          };
        };
      };
      place = refl;
      script = ap (λ (o : Option ℕ). record s { size = o }) (sym n.1);
      form = tt;
      of_form = tt;
      numbers = small_some s.size n.0 n.1 b.values.size;
      actor = tt;
      server = tt;
    }

-- behind a tries line: the script without its tries
before_tries : (s : Script) → IsBegun place.Tries s → HasBefore place.Tries s
before_tries s b =
    let bare = b.at.0 in
    let n = some_number s.tries b.at.1 in
    let s' = record s { tries = None } in
    let l = b.valid.limits in
    let bare' : IsBare s' = record { clients = bare.clients; repairers = bare.repairers; schedule = bare.schedule } in
    let values : IsScript s' = record { geometry = b.values.geometry; size = b.values.size; tries = tt; clients = b.values.clients; repairers = b.values.repairers; schedule = b.values.schedule } in
    let valid : IsValid s' = record {
      form = b.valid.form;
      limits = record {
        size = l.size;
        tries = tt;
        clients = l.clients;
        repairers = l.repairers;
        client_calls = l.client_calls;
        repairer_calls = l.repairer_calls;
        data_lengths = l.data_lengths;
        stripes = l.stripes;
        stripe_bytes = l.stripe_bytes;
        read_bytes = l.read_bytes;
        schedule = l.schedule;
      };
      names = record {
        tokens = no_tokens s' bare.schedule;
        rebuilds = b.valid.names.rebuilds;
        client_limits = b.valid.names.client_limits;
        repairer_limits = b.valid.names.repairer_limits;
      };
    } in
    let at' : (p : ScriptPlace) × IsAt p s' × (next_place p kind.Tries 0 ≡ Some place.Tries) = elim (none_or_some s.size) [
      | inl none ↦ (place.Code, (bare', none, refl), refl)
      | inr some ↦ (place.Size, (bare', is_some s.size some.0 some.1, refl), refl)
    ] in
    record {
      p = at'.0;
      before = s';
      l = TriesLine n.0;
      begun = record { at = at'.1; values = values; valid = valid };
      place = at'.2;
      script = ap (λ (o : Option ℕ). record s { tries = o }) (sym n.1);
      form = tt;
      of_form = tt;
      numbers = small_some s.tries n.0 n.1 b.values.tries;
      actor = tt;
      server = tt;
    }

-- ---- the place behind whole blocks

-- the place behind the last client, or behind the lines before the blocks
after_clients : (s : Script) → s.repairers ≡ [] → s.schedule ≡ []
    → (p : ScriptPlace) × IsAt p s × (next_place p kind.Client 0 ≡ Some place.Client) × (next_place p kind.Repairer 0 ≡ Some place.Repairer) × (next_place p kind.Schedule 0 ≡ Some place.Schedule)
after_clients s no_repairers no_schedule = elim (last_item ClientPart s.clients) [
  | inl none ↦
      let bare : IsBare s = record { clients = none; repairers = no_repairers; schedule = no_schedule } in
      elim (none_or_some s.tries) [
        | inl no_tries ↦ elim (none_or_some s.size) [
          | inl no_size ↦ (place.Code, (bare, no_size, no_tries), refl, refl, refl)
          | inr some ↦ (place.Size, (bare, is_some s.size some.0 some.1, no_tries), refl, refl, refl)
        ]
        | inr some ↦ (place.Tries, (bare, is_some s.tries some.0 some.1), refl, refl, refl)
      ]
  | inr more ↦ elim (none_or_some more.1.leave) [
    | inl open' ↦ (place.Client, (more.0, more.1, more.2, open', no_repairers, no_schedule), refl, refl, refl)
    | inr some ↦ (place.ClientEnd, (more.0, more.1, more.2, is_some more.1.leave some.0 some.1, no_repairers, no_schedule), refl, refl, refl)
  ]
]

-- the place behind the last block, or behind the lines before the blocks
after_repairers : (s : Script) → s.schedule ≡ []
    → (p : ScriptPlace) × IsAt p s × (next_place p kind.Repairer 0 ≡ Some place.Repairer) × (next_place p kind.Schedule 0 ≡ Some place.Schedule)
after_repairers s no_schedule = elim (last_item RepairPart s.repairers) [
  | inl none ↦ let behind = after_clients s none no_schedule in (behind.0, behind.1, behind.3, behind.4)
  | inr more ↦ elim (none_or_some more.1.leave) [
    | inl open' ↦ (place.Repairer, (more.0, more.1, more.2, open', no_schedule), refl, refl)
    | inr some ↦ (place.RepairerEnd, (more.0, more.1, more.2, is_some more.1.leave some.0 some.1, no_schedule), refl, refl)
  ]
]

-- ---- clients

-- a client's block of these parts
abbrev client_of : List Call → Option ℕ → ClientPart
client_of calls leave = record { calls = calls; leave = leave }

-- what a script with fewer calls keeps
fewer_calls : (s : Script) (parts : List ClientPart) → IsWithinLimits s → length parts ≤ length s.clients → All few_calls parts → All short_data parts
    → ((f : Call → ℕ) → calls_of f parts ≤ calls_of f s.clients) → IsWithinLimits (clients_with s parts)
fewer_calls s parts l few calls carried sums =
    let stripes = sums (stripes_touched (stripe_length s.geometry)) in
    let asked = sums (bytes_asked (size_of s)) in
    let bytes : calls_of (stripes_touched (stripe_length s.geometry)) parts * stripe_length s.geometry ≤ calls_of (stripes_touched (stripe_length s.geometry)) s.clients * stripe_length s.geometry =
    mul-le-mul_right (stripe_length s.geometry) stripes in
    record {
      size = l.size;
      tries = l.tries;
      clients = omega (arith, few, l.clients);
      repairers = l.repairers;
      client_calls = calls;
      repairer_calls = l.repairer_calls;
      data_lengths = carried;
      stripes = omega (arith, stripes, l.stripes);
      stripe_bytes = omega (arith, bytes, l.stripe_bytes);
      read_bytes = omega (arith, asked, l.read_bytes);
      schedule = l.schedule;
    }

-- behind a client's first line: the script without that block
before_client : (s : Script) (front : List ClientPart) (part : ClientPart) → s.clients ≡ front ++ part ∷ [] → part.leave ≡ None → part.calls ≡ [] → s.repairers ≡ [] → s.schedule ≡ []
    → IsScript s → IsValid s → HasBefore place.Client s
before_client s front part parted open' none no_repairers no_schedule values valid =
    let s' = clients_with s front in
    let behind = after_clients s' no_repairers no_schedule in
    let empty : part ≡ empty_client = ap (λ (o : Option ℕ). client_of part.calls o) open' ∙ ap (λ (cs : List Call). client_of cs None) none in
    let len = ap length parted ∙ length-append front (part ∷ []) in
    let calls = All-front ClientPart few_calls front part (All-same few_calls (front ++ part ∷ []) s.clients (sym parted) valid.limits.client_calls) in
    let carried = All-front ClientPart short_data front part (All-same short_data (front ++ part ∷ []) s.clients (sym parted) valid.limits.data_lengths) in
    let limits = All-front ClientPart limited_client front part (All-same limited_client (front ++ part ∷ []) s.clients (sym parted) valid.names.client_limits) in
    let are = All-front ClientPart client_values front part (All-same client_values (front ++ part ∷ []) s.clients (sym parted) values.clients) in
    let sums : (f : Call → ℕ) → calls_of f front ≤ calls_of f s.clients = λ f.
    let g : ClientPart → ℕ = λ part. sum_by f part.calls in
    let new = ap (calls_of f) parted ∙ sum_by_push g front part in
    omega (arith, new) in
    record {
      p = behind.0;
      before = s';
      l = ClientLine;
      begun = record {
        at = behind.1;
        values = record { geometry = values.geometry; size = values.size; tries = values.tries; clients = are.0; repairers = values.repairers; schedule = values.schedule };
        valid = record {
          form = valid.form;
          limits = fewer_calls s front valid.limits (omega (arith, len)) calls.0 carried.0 sums;
          names = record { tokens = no_tokens s' no_schedule; rebuilds = valid.names.rebuilds; client_limits = limits.0; repairer_limits = valid.names.repairer_limits };
        };
      };
      place = behind.2;
      script = ap (λ (x : ClientPart). clients_with s (front ++ x ∷ [])) (sym empty) ∙ ap (clients_with s) (sym parted);
      form = tt;
      of_form = tt;
      numbers = tt;
      actor = tt;
      server = tt;
    }

-- data of the types has a form
content_form : (c : Content) → IsContent c → IsContentForm c
content_form (Hex bytes) h = h.0
content_form (Fill b n) h = h.0
content_form (Ramp b n) h = h.0

-- and numbers below 2^32
content_numbers : (c : Content) → IsContent c → HasContentNumbers c
content_numbers (Hex bytes) h = tt
content_numbers (Fill b n) h = h.1
content_numbers (Ramp b n) h = h.1

-- a call of the types has a form
call_form : (c : Call) → IsCall c → IsCallForm c
call_form (Put name content) h = (h.0, content_form content h.1)
call_form (Write name offset content) h = (h.0, content_form content h.2)
call_form (Get name) h = h
call_form (ReadAt name offset count) h = h.0
call_form (Stat name) h = h
call_form (Delete name) h = h

-- and numbers below 2^32
call_numbers : (c : Call) → IsCall c → HasCallNumbers c
call_numbers (Put name content) h = content_numbers content h.1
call_numbers (Write name offset content) h = (h.1, content_numbers content h.2)
call_numbers (Get name) h = tt
call_numbers (ReadAt name offset count) h = (h.1, h.2)
call_numbers (Stat name) h = tt
call_numbers (Delete name) h = tt

-- a block without its last call, which waits for it behind the place
before_call : (p q : ScriptPlace) (s : Script) (front : List ClientPart) (part : ClientPart) (calls : List Call) (call : Call)
    → s.clients ≡ front ++ part ∷ [] → part.calls ≡ calls ++ call ∷ [] → part.leave ≡ pending p → s.schedule ≡ []
    → IsAt p (clients_with s (front ++ (record { calls = calls; leave = None }) ∷ [])) → next_place p kind.Call 0 ≡ Some q
    → IsScript s → IsValid s → HasBefore q s
before_call p q s front part calls call parted last limit no_schedule at next values valid =
    let old : ClientPart = record { calls = calls; leave = None } in
    let parts = front ++ old ∷ [] in
    let s' = clients_with s parts in
    let new : part ≡ with_call (pending p) call old = ap (λ (o : Option ℕ). client_of part.calls o) limit ∙ ap (λ (cs : List Call). client_of cs (pending p)) last in
    let same : s.clients ≡ front ++ with_call (pending p) call old ∷ [] = parted ∙ ap (λ (x : ClientPart). front ++ x ∷ []) new in
    let len = ap length parted ∙ length-append front (part ∷ []) in
    let len' = length-append front (old ∷ []) in
    let few = All-front ClientPart few_calls front part (All-same few_calls (front ++ part ∷ []) s.clients (sym parted) valid.limits.client_calls) in
    let carried = All-front ClientPart short_data front part (All-same short_data (front ++ part ∷ []) s.clients (sym parted) valid.limits.data_lengths) in
    let limits = All-front ClientPart limited_client front part (All-same limited_client (front ++ part ∷ []) s.clients (sym parted) valid.names.client_limits) in
    let are = All-front ClientPart client_values front part (All-same client_values (front ++ part ∷ []) s.clients (sym parted) values.clients) in
    let carried' = All-front Call short_call calls call (All-same short_call (calls ++ call ∷ []) part.calls (sym last) carried.1) in
    let are' = All-front Call IsCall calls call (All-same IsCall (calls ++ call ∷ []) part.calls (sym last) are.1.0) in
    let more = ap length last ∙ length-append calls (call ∷ []) in
    let sums : (f : Call → ℕ) → calls_of f parts ≤ calls_of f s.clients = λ f.
    let sum = ap (calls_of f) same ∙ calls_of-call f front old (pending p) call in
    omega (arith, sum) in
    record {
      p = p;
      before = s';
      l = CallLine call;
      begun = record {
        at = at;
        values = record {
          geometry = values.geometry;
          size = values.size;
          tries = values.tries;
          clients = All-push client_values front old are.0 (are'.0, tt);
          repairers = values.repairers;
          schedule = values.schedule;
        };
        valid = record {
          form = valid.form;
          limits = fewer_calls s parts valid.limits (omega (arith, len, len')) (All-push few_calls front old few.0 (omega (arith, more, few.1)))
              (All-push short_data front old carried.0 carried'.0) sums;
          names = record {
            tokens = no_tokens s' no_schedule;
            rebuilds = valid.names.rebuilds;
            client_limits = All-push limited_client front old limits.0 tt;
            repairer_limits = valid.names.repairer_limits;
          };
        };
      };
      place = next;
      script = call_clients p s' front old call refl ∙ ap (clients_with s) (sym same);
      form = call_form call are'.1;
      of_form = tt;
      numbers = call_numbers call are'.1;
      actor = tt;
      server = tt;
    }

-- ---- repairers

-- a repairer's block of these parts
abbrev repairer_of : List Rebuild → Option ℕ → RepairPart
repairer_of calls leave = record { calls = calls; leave = leave }

-- what a script with fewer rebuilds keeps
fewer_rebuilds : (s : Script) (parts : List RepairPart) → IsWithinLimits s → length parts ≤ length s.repairers → All few_rebuilds parts → IsWithinLimits (repairers_with s parts)
fewer_rebuilds s parts l few calls = record {
  size = l.size;
  tries = l.tries;
  clients = l.clients;
  repairers = omega (arith, few, l.repairers);
  client_calls = l.client_calls;
  repairer_calls = calls;
  data_lengths = l.data_lengths;
  stripes = l.stripes;
  stripe_bytes = l.stripe_bytes;
  read_bytes = l.read_bytes;
  schedule = l.schedule;
}

-- behind a repairer's first line: the script without that block
before_repairer : (s : Script) (front : List RepairPart) (part : RepairPart) → s.repairers ≡ front ++ part ∷ [] → part.leave ≡ None → part.calls ≡ [] → s.schedule ≡ []
    → IsScript s → IsValid s → HasBefore place.Repairer s
before_repairer s front part parted open' none no_schedule values valid =
    let s' = repairers_with s front in
    let g = s.geometry in
    let behind = after_repairers s' no_schedule in
    let empty : part ≡ empty_repairer = ap (λ (o : Option ℕ). repairer_of part.calls o) open' ∙ ap (λ (cs : List Rebuild). repairer_of cs None) none in
    let len = ap length parted ∙ length-append front (part ∷ []) in
    let calls = All-front RepairPart few_rebuilds front part (All-same few_rebuilds (front ++ part ∷ []) s.repairers (sym parted) valid.limits.repairer_calls) in
    let limits = All-front RepairPart limited_repairer front part (All-same limited_repairer (front ++ part ∷ []) s.repairers (sym parted) valid.names.repairer_limits) in
    let servers = All-front RepairPart (known_servers g) front part (All-same (known_servers g) (front ++ part ∷ []) s.repairers (sym parted) valid.names.rebuilds) in
    let are = All-front RepairPart repairer_values front part (All-same repairer_values (front ++ part ∷ []) s.repairers (sym parted) values.repairers) in
    record {
      p = behind.0;
      before = s';
      l = RepairerLine;
      begun = record {
        at = behind.1;
        values = record { geometry = values.geometry; size = values.size; tries = values.tries; clients = values.clients; repairers = are.0; schedule = values.schedule };
        valid = record {
          form = valid.form;
          limits = fewer_rebuilds s front valid.limits (omega (arith, len)) calls.0;
          names = record { tokens = no_tokens s' no_schedule; rebuilds = servers.0; client_limits = valid.names.client_limits; repairer_limits = limits.0 };
        };
      };
      place = behind.2;
      script = ap (λ (x : RepairPart). repairers_with s (front ++ x ∷ [])) (sym empty) ∙ ap (repairers_with s) (sym parted);
      form = tt;
      of_form = tt;
      numbers = tt;
      actor = tt;
      server = tt;
    }

-- a block without its last rebuild, which waits for it behind the place
before_rebuild : (p q : ScriptPlace) (s : Script) (front : List RepairPart) (part : RepairPart) (calls : List Rebuild) (rebuild : Rebuild)
    → s.repairers ≡ front ++ part ∷ [] → part.calls ≡ calls ++ rebuild ∷ [] → part.leave ≡ pending p → s.schedule ≡ []
    → IsAt p (repairers_with s (front ++ (record { calls = calls; leave = None }) ∷ [])) → next_place p kind.Rebuild 0 ≡ Some q
    → IsScript s → IsValid s → HasBefore q s
before_rebuild p q s front part calls rebuild parted last limit no_schedule at next values valid =
    let old : RepairPart = record { calls = calls; leave = None } in
    let parts = front ++ old ∷ [] in
    let s' = repairers_with s parts in
    let g = s.geometry in
    let new : part ≡ with_rebuild (pending p) rebuild old = ap (λ (o : Option ℕ). repairer_of part.calls o) limit ∙ ap (λ (cs : List Rebuild). repairer_of cs (pending p)) last in
    let same : s.repairers ≡ front ++ with_rebuild (pending p) rebuild old ∷ [] = parted ∙ ap (λ (x : RepairPart). front ++ x ∷ []) new in
    let len = ap length parted ∙ length-append front (part ∷ []) in
    let len' = length-append front (old ∷ []) in
    let few = All-front RepairPart few_rebuilds front part (All-same few_rebuilds (front ++ part ∷ []) s.repairers (sym parted) valid.limits.repairer_calls) in
    let limits = All-front RepairPart limited_repairer front part (All-same limited_repairer (front ++ part ∷ []) s.repairers (sym parted) valid.names.repairer_limits) in
    let servers = All-front RepairPart (known_servers g) front part (All-same (known_servers g) (front ++ part ∷ []) s.repairers (sym parted) valid.names.rebuilds) in
    let are = All-front RepairPart repairer_values front part (All-same repairer_values (front ++ part ∷ []) s.repairers (sym parted) values.repairers) in
    let servers' = All-front Rebuild (known_server g) calls rebuild (All-same (known_server g) (calls ++ rebuild ∷ []) part.calls (sym last) servers.1) in
    let are' = All-front Rebuild IsRebuild calls rebuild (All-same IsRebuild (calls ++ rebuild ∷ []) part.calls (sym last) are.1.0) in
    let more = ap length last ∙ length-append calls (rebuild ∷ []) in
    record {
      p = p;
      before = s';
      l = RebuildLine rebuild;
      begun = record {
        at = at;
        values = record {
          geometry = values.geometry;
          size = values.size;
          tries = values.tries;
          clients = values.clients;
          repairers = All-push repairer_values front old are.0 (are'.0, tt);
          schedule = values.schedule;
        };
        valid = record {
          form = valid.form;
          limits = fewer_rebuilds s parts valid.limits (omega (arith, len, len')) (All-push few_rebuilds front old few.0 (omega (arith, more, few.1)));
          names = record {
            tokens = no_tokens s' no_schedule;
            rebuilds = All-push (known_servers g) front old servers.0 servers'.0;
            client_limits = valid.names.client_limits;
            repairer_limits = All-push limited_repairer front old limits.0 tt;
          };
        };
      };
      place = next;
      script = rebuild_repairers p s' front old rebuild refl ∙ ap (repairers_with s) (sym same);
      form = are'.1.0;
      of_form = tt;
      numbers = (are'.1.1, are'.1.2);
      actor = tt;
      server = servers'.1;
    }

-- ---- the schedule

-- whom a step names has nothing to do with the schedule
names_before : (s : Script) (steps : List Token) (t : Token) → NamesPart s t → NamesPart (schedule_with s steps) t
names_before s steps (token.Client i) h = h
names_before s steps (token.Repairer i) h = h
names_before s steps token.Sweep h = h
names_before s steps (token.Wipe j) h = h
names_before s steps (token.Down j) h = h
names_before s steps (token.Up j) h = h
names_before s steps (token.ReapClient i) h = h
names_before s steps (token.ReapRepairer i) h = h
names_before s steps token.Drain h = h

-- a step that names a part of the script names an actor of it
step_actor : (s : Script) (steps : List Token) (t : Token) → NamesPart s t → NamesActor (Begun place.Schedule (schedule_with s steps)) (StepLine t)
step_actor s steps (token.Client i) h = h
step_actor s steps (token.Repairer i) h = h
step_actor s steps token.Sweep h = tt
step_actor s steps (token.Wipe j) h = tt
step_actor s steps (token.Down j) h = tt
step_actor s steps (token.Up j) h = tt
step_actor s steps (token.ReapClient i) h = h
step_actor s steps (token.ReapRepairer i) h = h
step_actor s steps token.Drain h = tt

-- and a server
step_server : (s : Script) (steps : List Token) (t : Token) → NamesPart s t → NamesServer (Begun place.Schedule (schedule_with s steps)) (StepLine t)
step_server s steps (token.Client i) h = tt
step_server s steps (token.Repairer i) h = tt
step_server s steps token.Sweep h = tt
step_server s steps (token.Wipe j) h = h
step_server s steps (token.Down j) h = h.1
step_server s steps (token.Up j) h = h.1
step_server s steps (token.ReapClient i) h = tt
step_server s steps (token.ReapRepairer i) h = tt
step_server s steps token.Drain h = tt

-- and is of its form
step_form : (s : Script) (t : Token) → NamesPart s t → IsOfForm s.form t
step_form s (token.Down j) h = h.0
step_form s (token.Up j) h = h.0
step_form s t h = tt

-- behind a step: the schedule without it
before_step : (s : Script) (steps : List Token) (t : Token) → s.schedule ≡ steps ++ t ∷ [] → IsScript s → IsValid s → HasBefore place.Schedule s
before_step s steps t parted values valid =
    let s' = schedule_with s steps in
    let l = valid.limits in
    let small = All-front Token small_token steps t (All-same small_token (steps ++ t ∷ []) s.schedule (sym parted) values.schedule) in
    let named = All-front Token (NamesPart s) steps t (All-same (NamesPart s) (steps ++ t ∷ []) s.schedule (sym parted) valid.names.tokens) in
    let len = ap length parted ∙ length-append steps (t ∷ []) in
    record {
      p = place.Schedule;
      before = s';
      l = StepLine t;
      begun = record {
        at = tt;
        values = record { geometry = values.geometry; size = values.size; tries = values.tries; clients = values.clients; repairers = values.repairers; schedule = small.0 };
        valid = record {
          form = valid.form;
          limits = record {
            size = l.size;
            tries = l.tries;
            clients = l.clients;
            repairers = l.repairers;
            client_calls = l.client_calls;
            repairer_calls = l.repairer_calls;
            data_lengths = l.data_lengths;
            stripes = l.stripes;
            stripe_bytes = l.stripe_bytes;
            read_bytes = l.read_bytes;
            schedule = omega (arith, len, l.schedule);
          };
          names = record {
            tokens = All-weaker (NamesPart s) (NamesPart s') (names_before s steps) steps named.0;
            rebuilds = valid.names.rebuilds;
            client_limits = valid.names.client_limits;
            repairer_limits = valid.names.repairer_limits;
          };
        };
      };
      place = refl;
      script = ap (schedule_with s) (sym parted);
      form = tt;
      of_form = step_form s t named.1;
      numbers = small.1;
      actor = step_actor s steps t named.1;
      server = step_server s steps t named.1;
    }

-- behind the line before the schedule: the place behind the blocks
before_schedule : (s : Script) → s.schedule ≡ [] → IsScript s → IsValid s → HasBefore place.Schedule s
before_schedule s no_schedule values valid =
    let behind = after_repairers s no_schedule in
    record {
      p = behind.0;
      before = s;
      l = ScheduleLine;
      begun = record { at = behind.1; values = values; valid = valid };
      place = behind.3;
      script = refl;
      form = tt;
      of_form = tt;
      numbers = tt;
      actor = tt;
      server = tt;
    }

-- ---- step limits and the last line

-- behind a step limit: the same script, one place before
before_leave : (p q : ScriptPlace) (s : Script) (n : ℕ) → IsBegun p s → next_place p kind.Leave n ≡ Some q → IsNumber n → HasBefore q s
before_leave p q s n b next small = record {
  p = p;
  before = s;
  l = LeaveLine n;
  begun = b;
  place = next;
  script = refl;
  form = tt;
  of_form = tt;
  numbers = small;
  actor = tt;
  server = tt;
}

-- behind the last line: the same script, at its schedule
before_end : (s : Script) → IsScript s → IsValid s → HasBefore place.End s
before_end s values valid = record {
  p = place.Schedule;
  before = s;
  l = EndLine;
  begun = record { at = tt; values = values; valid = valid };
  place = refl;
  script = refl;
  form = tt;
  of_form = tt;
  numbers = tt;
  actor = tt;
  server = tt;
}

-- ---- all places

-- a script of these parts
abbrev script_from : ℕ → Shape → Option ℕ → Option ℕ → List ClientPart → List RepairPart → List Token → Script
script_from form g size tries clients repairers schedule = record { form = form; geometry = g; size = size; tries = tries; clients = clients; repairers = repairers; schedule = schedule }

-- a list that is not empty has a last item
some_calls : (X : Type 0) (xs : List X) → 0 < length xs → (front : List X) × (x : X) × (xs ≡ front ++ x ∷ [])
some_calls X xs some = elim (last_item X xs) [
  | inl none ↦ absurd (let len = ap length none in omega (arith, len, some))
  | inr more ↦ more
]

-- a block with a step limit has a call
limited_some : (o : Option ℕ) (n : ℕ) (m : ℕ) → o ≡ Some n → IfSome o (λ _. 0 < m) → 0 < m
limited_some o n m e h = subst (λ (x : Option ℕ). IfSome x (λ _. 0 < m)) e h

-- a script so far is one of which only the code is known, or has a line before
pub before : (q : ScriptPlace) (s : Script) → IsBegun q s → ((q ≡ place.Code) × (s ≡ opened s.form s.geometry)) ⊎ HasBefore q s
before place.Code s b =
    let bare = b.at.0 in
    let a = ap (λ (o : Option ℕ). script_from s.form s.geometry o s.tries s.clients s.repairers s.schedule) b.at.1 in
    let a' = ap (λ (o : Option ℕ). script_from s.form s.geometry None o s.clients s.repairers s.schedule) b.at.2 in
    let a'' = ap (λ (ps : List ClientPart). script_from s.form s.geometry None None ps s.repairers s.schedule) bare.clients in
    let a''' = ap (λ (ps : List RepairPart). script_from s.form s.geometry None None [] ps s.schedule) bare.repairers in
    inl (refl, a ∙ a' ∙ a'' ∙ a''' ∙ ap (λ (ts : List Token). script_from s.form s.geometry None None [] [] ts) bare.schedule)
before place.Size s b = inr (before_size s b)
before place.Tries s b = inr (before_tries s b)
before place.Client s b =
    let o = b.at in
    elim (last_item Call o.1.calls) [
      | inl none ↦ inr (before_client s o.0 o.1 o.2 o.3 none o.4 o.5 b.values b.valid)
      | inr more ↦ inr (before_call place.Client place.Client s o.0 o.1 more.0 more.1 o.2 more.2 o.3 o.5
          (o.0, client_of more.0 None, refl, refl, o.4, o.5) refl b.values b.valid)
    ]
before (place.ClientLimit n) s b =
    inr (before_leave place.Client (place.ClientLimit n) s n (record { at = b.at.0; values = b.values; valid = b.valid }) refl b.at.1)
before place.ClientEnd s b =
    let o = b.at in
    let n = some_number o.1.leave o.3 in
    let limits = (All-front ClientPart limited_client o.0 o.1 (All-same limited_client (o.0 ++ o.1 ∷ []) s.clients (sym o.2) b.valid.names.client_limits)).1 in
    let are = (All-front ClientPart client_values o.0 o.1 (All-same client_values (o.0 ++ o.1 ∷ []) s.clients (sym o.2) b.values.clients)).1 in
    let more = some_calls Call o.1.calls (limited_some o.1.leave n.0 (length o.1.calls) n.1 limits) in
    inr (before_call (place.ClientLimit n.0) place.ClientEnd s o.0 o.1 more.0 more.1 o.2 more.2 n.1 o.5
    ((o.0, client_of more.0 None, refl, refl, o.4, o.5), small_some o.1.leave n.0 n.1 are.1) refl b.values b.valid)
before place.Repairer s b =
    let o = b.at in
    elim (last_item Rebuild o.1.calls) [
      | inl none ↦ inr (before_repairer s o.0 o.1 o.2 o.3 none o.4 b.values b.valid)
      | inr more ↦ inr (before_rebuild place.Repairer place.Repairer s o.0 o.1 more.0 more.1 o.2 more.2 o.3 o.4
          (o.0, repairer_of more.0 None, refl, refl, o.4) refl b.values b.valid)
    ]
before (place.RepairerLimit n) s b =
    inr (before_leave place.Repairer (place.RepairerLimit n) s n (record { at = b.at.0; values = b.values; valid = b.valid }) refl b.at.1)
before place.RepairerEnd s b =
    let o = b.at in
    let n = some_number o.1.leave o.3 in
    let limits = (All-front RepairPart limited_repairer o.0 o.1 (All-same limited_repairer (o.0 ++ o.1 ∷ []) s.repairers (sym o.2) b.valid.names.repairer_limits)).1 in
    let are = (All-front RepairPart repairer_values o.0 o.1 (All-same repairer_values (o.0 ++ o.1 ∷ []) s.repairers (sym o.2) b.values.repairers)).1 in
    let more = some_calls Rebuild o.1.calls (limited_some o.1.leave n.0 (length o.1.calls) n.1 limits) in
    inr (before_rebuild (place.RepairerLimit n.0) place.RepairerEnd s o.0 o.1 more.0 more.1 o.2 more.2 n.1 o.4
    ((o.0, repairer_of more.0 None, refl, refl, o.4), small_some o.1.leave n.0 n.1 are.1) refl b.values b.valid)
before place.Schedule s b = elim (last_item Token s.schedule) [
  | inl none ↦ inr (before_schedule s none b.values b.valid)
  | inr more ↦ inr (before_step s more.0 more.1 more.2 b.values b.valid)
]
before place.End s b = inr (before_end s b.values b.valid)

-- Drawn scripts are valid.
-- Each draw is one equation on value and state, so a loop's invariant is that the list is drawn so far and the state the one behind it.
-- Validity is proved of the definition: what holds of the six kinds of call holds of each drawn one, and sums are bounded by their
-- lengths.
use Rattle.std.proofs.Common.{◌≡◌, ℕ, zero, suc, ◌+◌, ◌-◌, ◌*◌, ◌/◌, ◌<◌, ◌≤◌, Bool, true, false, List, [], ◌∷◌, ◌++◌, length, length-append, refl, sym, ap, subst, ◌∙◌, arith, inl}
use Rattle.std.specs.Prelude.{All, Result, Ok, Err, IfOk, IfSome, None, sum_by, if◌then◌else◌, nat_lt, nat_eq}
use Rattle.std.proofs.Math.Nat.{le_trans, div-lt_iff_lt-mul, lt-div-mul-add, div-le_of_le-mul}
use Rattle.std.proofs.lemmas.List.Elements.{All-nil, All-cons, All-append}
use Rattle.std.proofs.lemmas.List.Sums.{sum_by-le}
use Rattle.store_map.specs.Limits.{stripes_met, stripes_touched, bytes_asked, data_length, stripes_written, sum_over_calls}
use Rattle.store_map.specs.Naming.{IsValid, NamesPart}
use Rattle.store_map.specs.declared.actor.Token.{Token}
use Rattle.store_map.specs.declared.actor.Token.TheVariants as token
use Rattle.store_map.specs.declared.call.Call.{Call}
use Rattle.store_map.specs.declared.call.Call.TheVariants.{Put, Write, Get, ReadAt, Stat, Delete}
use Rattle.store_map.specs.declared.content.Content.TheVariants.{Ramp}
use Rattle.store_map.specs.declared.script.ClientPart.{ClientPart}
use Rattle.store_map.specs.declared.script.RepairPart.{RepairPart}
use Rattle.store_map.specs.declared.script.Script.{Script}
use Rattle.clay_gen.specs.Sequence.{state_after, pick, drawn, behind_all}
use Rattle.clay_gen.specs.Calls.{letter_name, call_by, call_from, behind_call, rebuild_from, behind_rebuild}
use Rattle.clay_gen.specs.Steps.{step_from, behind_step}
use Rattle.clay_gen.specs.Script.{client_from, behind_client, clients_from, behind_clients, generated}
use Rattle.clay_gen.proofs.SequenceLaws.{length_drawn, All_drawn, pick_below}

if_either : {A : Type 0} (P : A → Type 0) (b : Bool) (x y : A) → P x → P y → P (if b then x else y)
if_either P true x y p q = p
if_either P false x y p q = q

-- ---- calls

-- something holds of each call that may be drawn
pub record HoldsOfKinds (P : Call → Type 0) : Type 0 where
  pub put : (name : List ℕ) (first n : ℕ) → n < 2049 → P (Put name (Ramp first n))
  pub write : (name : List ℕ) (offset first n : ℕ) → n < 513 → P (Write name offset (Ramp first n))
  pub get : (name : List ℕ) → P (Get name)
  pub read : (name : List ℕ) (offset n : ℕ) → n < 1025 → P (ReadAt name offset n)
  pub stat : (name : List ℕ) → P (Stat name)
  pub delete : (name : List ℕ) → P (Delete name)

by_kinds : (P : Call → Type 0) → HoldsOfKinds P → (kind : ℕ) (name : List ℕ) (state : ℕ) → P (call_by kind name state)
by_kinds P h kind name state =
    let read = h.read name (pick state 0 2049) (pick state 1 1025) (pick_below state 1 1025 (omega arith)) in
    let write = h.write name (pick state 0 2049) (pick (state_after 1 state) 0 256) (pick (state_after 1 state) 1 513) (pick_below (state_after 1 state) 1 513 (omega arith)) in
    let put = h.put name (pick state 0 256) (pick state 1 2049) (pick_below state 1 2049 (omega arith)) in
    if_either P (nat_lt kind 2) _ _ put
    (if_either P (nat_lt kind 4) _ _ write
    (if_either P (nat_eq kind 4) _ _ (h.get name)
    (if_either P (nat_eq kind 5) _ _ read
    (if_either P (nat_eq kind 6) _ _ (h.stat name) (h.delete name)))))

drawn_call : (P : Call → Type 0) → HoldsOfKinds P → (state : ℕ) → P (call_from state)
drawn_call P h state = by_kinds P h (pick state 0 8) (letter_name (pick state 1 6)) (state_after 2 state)

few_more : (a b : ℕ) → a < b + 2 → a - b + 1 ≤ 4
few_more a b h = omega (arith, h)

put_met : (n : ℕ) → n < 2049 → stripes_met 512 0 n ≤ 4
put_met zero h = omega arith
put_met (suc n) h =
    let small : 0 + n < 4 * 512 = omega (arith, h) in
    let quotient : (0 + n) / 512 < 4 = (div-lt_iff_lt-mul {k = 512} {x = 0 + n} {y = 4} (omega arith)).1 small in
    let by : (a b : ℕ) → a < 4 → a - b + 1 ≤ 4 = λ a b l. omega (arith, l) in
    by ((0 + n) / 512) (0 / 512) quotient

write_met : (offset n : ℕ) → n < 513 → stripes_met 512 offset n ≤ 4
write_met offset zero h = omega arith
write_met offset (suc n) h =
    let near : offset < offset / 512 * 512 + 512 = lt-div-mul-add {a = offset} {b = 512} (omega arith) in
    let small : offset + n < (offset / 512 + 2) * 512 = omega (arith, h, near) in
    few_more ((offset + n) / 512) (offset / 512) ((div-lt_iff_lt-mul {k = 512} {x = offset + n} {y = offset / 512 + 2} (omega arith)).1 small)

stripes_few : HoldsOfKinds (λ call. stripes_touched 512 call ≤ 4)
stripes_few = record {
  put = λ name first n h. put_met n h;
  write = λ name offset first n h. write_met offset n h;
  get = λ name. omega arith;
  read = λ name offset n h. omega arith;
  stat = λ name. omega arith;
  delete = λ name. omega arith;
}

bytes_few : HoldsOfKinds (λ call. bytes_asked 4096 call ≤ 4096)
bytes_few = record {
  put = λ name first n h. omega arith;
  write = λ name offset first n h. omega arith;
  get = λ name. omega arith;
  read = λ name offset n h. omega (arith, h);
  stat = λ name. omega arith;
  delete = λ name. omega arith;
}

data_few : HoldsOfKinds (λ call. data_length call ≤ 2097152)
data_few = record {
  put = λ name first n h. omega (arith, h);
  write = λ name offset first n h. omega (arith, h);
  get = λ name. omega arith;
  read = λ name offset n h. omega arith;
  stat = λ name. omega arith;
  delete = λ name. omega arith;
}

-- ---- sums over all calls

part_sum : (f : Call → ℕ) (most : ℕ) → HoldsOfKinds (λ call. f call ≤ most) → (size state : ℕ) → sum_by f (client_from size state).calls ≤ size * most
part_sum f most h size state =
    subst (λ (n : ℕ). sum_by f (drawn call_from behind_call size state) ≤ n * most) (length_drawn call_from behind_call size state)
    (sum_by-le f most (drawn call_from behind_call size state) (All_drawn (λ call. f call ≤ most) call_from behind_call (drawn_call (λ call. f call ≤ most) h) size state))

whole_sum : (f : Call → ℕ) (most size start : ℕ) → ((state : ℕ) → sum_by f (client_from size state).calls ≤ most)
    → sum_by (λ (part : ClientPart). sum_by f part.calls) (clients_from size start) ≤ 4 * most
whole_sum f most size start h =
    subst (λ (n : ℕ). sum_by (λ (part : ClientPart). sum_by f part.calls) (clients_from size start) ≤ n * most) (length_drawn (client_from size) (behind_client size) 4 start)
    (sum_by-le (λ (part : ClientPart). sum_by f part.calls) most (clients_from size start)
    (All_drawn (λ (part : ClientPart). sum_by f part.calls ≤ most) (client_from size) (behind_client size) h 4 start))

stripes_within : (start size : ℕ) → size ≤ 4096 → stripes_written (generated start size) ≤ 65536
stripes_within start size small =
    whole_sum (stripes_touched 512) 16384 size start (λ state. le_trans (part_sum (stripes_touched 512) 4 stripes_few size state) (omega (arith, small)))

bytes_within : (start size : ℕ) → size ≤ 4096 → sum_over_calls (bytes_asked 4096) (generated start size) ≤ 67108864
bytes_within start size small =
    whole_sum (bytes_asked 4096) 16777216 size start (λ state. le_trans (part_sum (bytes_asked 4096) 4096 bytes_few size state) (omega (arith, small)))

-- ---- steps and rebuilds

quarter : (size : ℕ) → size ≤ 4096 → size / 4 ≤ 4096
quarter size h = div-le_of_le-mul 4 (omega (arith, h))

four_clients : (size start : ℕ) → length (clients_from size start) ≡ 4
four_clients size start = length_drawn (client_from size) (behind_client size) 4 start

step_named : (start size state : ℕ) → NamesPart (generated start size) (step_from state)
step_named start size state =
    let P : Token → Type 0 = NamesPart (generated start size) in
    let kind = pick state 0 32 in
    let next = state_after 1 state in
    let client : pick next 0 4 < length (clients_from size start) = subst (λ (n : ℕ). pick next 0 4 < n) (sym (four_clients size start)) (pick_below next 0 4 (omega arith)) in
    if_either P (nat_eq kind 0) _ _ (pick_below next 0 6 (omega arith))
    (if_either P (nat_eq kind 1) _ _ (omega arith)
    (if_either P (nat_eq kind 2) _ _ tt client))

pub generated_valid : (start size : ℕ) → size ≤ 4096 → IsValid (generated start size)
generated_valid start size small =
    let behind : ℕ = behind_clients size start in
    let last : ℕ = behind_all behind_rebuild (size / 4) behind in
    let repairer : RepairPart = record { calls = drawn rebuild_from behind_rebuild (size / 4) behind; leave = None } in
    let stripes = stripes_within start size small in
    let scaled : (w : ℕ) → w ≤ 65536 → w * 512 ≤ 67108864 = λ w h. omega (arith, h) in
    let steps : length (drawn step_from behind_step (8 * size) last ++ token.Drain ∷ []) ≡ 8 * size + 1 =
    length-append (drawn step_from behind_step (8 * size) last) (token.Drain ∷ []) ∙ ap (λ (n : ℕ). n + 1) (length_drawn step_from behind_step (8 * size) last) in
    record {
      form = inl refl;
      limits = record {
        size = (omega arith, omega arith);
        tries = tt;
        clients = subst (λ (n : ℕ). n ≤ 64) (sym (four_clients size start)) (omega arith);
        repairers = omega arith;
        client_calls = All_drawn (λ (part : ClientPart). length part.calls ≤ 4096) (client_from size) (behind_client size)
            (λ state. subst (λ (n : ℕ). n ≤ 4096) (sym (length_drawn call_from behind_call size state)) small) 4 start;
        repairer_calls = All-cons (λ (part : RepairPart). length part.calls ≤ 4096) repairer [] (subst (λ (n : ℕ). n ≤ 4096) (sym (length_drawn rebuild_from behind_rebuild (size / 4) behind)) (quarter size small)) (All-nil (λ (part : RepairPart). length part.calls ≤ 4096));
        data_lengths = All_drawn (λ (part : ClientPart). All (λ call. data_length call ≤ 2097152) part.calls) (client_from size) (behind_client size)
            (λ state. All_drawn (λ call. data_length call ≤ 2097152) call_from behind_call (drawn_call (λ call. data_length call ≤ 2097152) data_few) size state) 4 start;
        stripes = le_trans stripes (omega arith);
        stripe_bytes = scaled (stripes_written (generated start size)) stripes;
        read_bytes = bytes_within start size small;
        schedule = subst (λ (n : ℕ). n ≤ 1000000) (sym steps) (omega (arith, small));
      };
      names = record {
        tokens = All-append (NamesPart (generated start size)) (drawn step_from behind_step (8 * size) last) (token.Drain ∷ [])
            (All_drawn (NamesPart (generated start size)) step_from behind_step (step_named start size) (8 * size) last)
            (All-cons (NamesPart (generated start size)) token.Drain [] tt (All-nil (NamesPart (generated start size))));
        rebuilds = All-cons (λ (part : RepairPart). All (λ rebuild. rebuild.server < 6) part.calls) repairer [] (All_drawn (λ rebuild. rebuild.server < 6) rebuild_from behind_rebuild (λ state. pick_below state 2 6 (omega arith)) (size / 4) behind) (All-nil (λ (part : RepairPart). All (λ rebuild. rebuild.server < 6) part.calls));
        client_limits = All_drawn (λ (part : ClientPart). IfSome part.leave (λ _. 0 < length part.calls)) (client_from size) (behind_client size) (λ state. tt) 4 start;
        repairer_limits = All-cons (λ (part : RepairPart). IfSome part.leave (λ _. 0 < length part.calls)) repairer [] tt (All-nil (λ (part : RepairPart). IfSome part.leave (λ _. 0 < length part.calls)));
      };
    }

pub valid_of : {E : Type 0} (start size : ℕ) (result : Result Script E) → size ≤ 4096 → IfOk result (λ script. script ≡ generated start size) → IfOk result IsValid
valid_of start size (Ok script) small same = subst IsValid (sym same) (generated_valid start size small)
valid_of start size (Err e) small same = tt

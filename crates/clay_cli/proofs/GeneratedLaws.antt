-- Generated scripts hold values that a script can hold.
use Rattle.std.proofs.Common.{ℕ, zero, suc, ◌*◌, ◌/◌, ◌<◌, ◌≤◌, Bool, true, false, List, [], ◌∷◌, refl, arith}
use Rattle.std.specs.Prelude.{All, IfSome, None, if◌then◌else◌, nat_lt, nat_eq}
use Rattle.std.proofs.lemmas.List.Elements.{All-nil, All-cons, All-append}
use Rattle.clay_grid.specs.Shape.{shape_of}
use Rattle.clay_grid.specs.Limits.{IsGeometry}
use Rattle.store_map.specs.Name.{IsName}
use Rattle.store_map.specs.declared.actor.Token.{Token}
use Rattle.store_map.specs.declared.actor.Token.TheVariants as token
use Rattle.store_map.specs.declared.call.Call.TheVariants.{Put, Write, ReadAt}
use Rattle.store_map.specs.declared.content.Content.TheVariants.{Ramp}
use Rattle.store_map.specs.declared.script.ClientPart.{ClientPart}
use Rattle.store_map.specs.declared.script.RepairPart.{RepairPart}
use Rattle.line_grammar.specs.Values.{IsNumber, IsCall, IsRebuild, IsScript, token_number}
use Rattle.clay_gen.specs.Sequence.{state_after, pick, drawn, behind_all}
use Rattle.clay_gen.specs.Calls.{letter_name, call_from, behind_call, rebuild_from, behind_rebuild}
use Rattle.clay_gen.specs.Steps.{step_from, behind_step}
use Rattle.clay_gen.specs.Script.{client_from, behind_client, behind_clients, generated}
use Rattle.clay_gen.proofs.SequenceLaws.{All_drawn, pick_below}
use Rattle.clay_gen.proofs.ValidLaws.{generated_valid}
use Rattle.clay_cli.specs.Laws.{GeneratedAreScripts}

if_either : {A : Type 0} (P : A → Type 0) (b : Bool) (x y : A) → P x → P y → P (if b then x else y)
if_either P true x y p q = p
if_either P false x y p q = q

-- ---- names and numbers
letter_is_name : (letter : ℕ) → letter < 6 → IsName (letter_name letter)
letter_is_name zero h = refl
letter_is_name (suc zero) h = refl
letter_is_name (suc (suc zero)) h = refl
letter_is_name (suc (suc (suc zero))) h = refl
letter_is_name (suc (suc (suc (suc zero)))) h = refl
letter_is_name (suc (suc (suc (suc (suc zero))))) h = refl
letter_is_name (suc (suc (suc (suc (suc (suc letter)))))) h = absurd (omega (arith, h))

is_number : (n : ℕ) → n < 4097 → IsNumber n
is_number n h = omega (arith, h)

picked : (state place limit : ℕ) → 0 < limit → limit ≤ 4096 → IsNumber (pick state place limit)
picked state place limit some small = let below = pick_below state place limit some in is_number (pick state place limit) (omega (arith, below, small))

-- ---- calls, rebuilds and steps
call_held : (state : ℕ) → IsCall (call_from state)
call_held state =
    let letter : List ℕ = letter_name (pick state 1 6) in
    let name = letter_is_name (pick state 1 6) (pick_below state 1 6 (omega arith)) in
    let kind = pick state 0 8 in
    let next = state_after 2 state in
    let after = state_after 1 next in
    let put : IsCall (Put letter (Ramp (pick next 0 256) (pick next 1 2049))) = (name, (pick_below next 0 256 (omega arith), picked next 1 2049 (omega arith) (omega arith))) in
    let write : IsCall (Write letter (pick next 0 2049) (Ramp (pick after 0 256) (pick after 1 513))) = (name, picked next 0 2049 (omega arith) (omega arith), (pick_below after 0 256 (omega arith), picked after 1 513 (omega arith) (omega arith))) in
    let read : IsCall (ReadAt letter (pick next 0 2049) (pick next 1 1025)) = (name, picked next 0 2049 (omega arith) (omega arith), picked next 1 1025 (omega arith) (omega arith)) in
    if_either IsCall (nat_lt kind 2) _ _ put
    (if_either IsCall (nat_lt kind 4) _ _ write
    (if_either IsCall (nat_eq kind 4) _ _ name
    (if_either IsCall (nat_eq kind 5) _ _ read
    (if_either IsCall (nat_eq kind 6) _ _ name name))))

rebuild_held : (state : ℕ) → IsRebuild (rebuild_from state)
rebuild_held state =
    (letter_is_name (pick state 0 6) (pick_below state 0 6 (omega arith)), picked state 1 5 (omega arith) (omega arith), picked state 2 6 (omega arith) (omega arith))

abbrev HoldsToken : Token → Type 0
HoldsToken step = IsNumber (token_number step)

step_held : (state : ℕ) → HoldsToken (step_from state)
step_held state =
    let kind = pick state 0 32 in
    let next = state_after 1 state in
    if_either HoldsToken (nat_eq kind 0) _ _ (picked next 0 6 (omega arith) (omega arith))
    (if_either HoldsToken (nat_eq kind 1) _ _ (omega arith)
    (if_either HoldsToken (nat_eq kind 2) _ _ (omega arith) (picked next 0 4 (omega arith) (omega arith))))

-- ---- the whole script
abbrev HoldsClient : ClientPart → Type 0
HoldsClient part = All IsCall part.calls × IfSome part.leave IsNumber

abbrev HoldsRepairer : RepairPart → Type 0
HoldsRepairer part = All IsRebuild part.calls × IfSome part.leave IsNumber

code_held : IsGeometry (shape_of 4 2 16)
code_held = record {
  limits = record {
    data_chunks = omega arith;
    parity_chunks = (omega arith, omega arith);
    layers = omega arith;
    width = (omega arith, omega arith);
    chunk = omega arith;
  };
  data_chunks = omega arith;
  nodes = omega arith;
  chunks = omega arith;
  virtual_nodes = omega arith;
  columns = (omega arith, omega arith);
  some_layers = omega arith;
  stripe = omega arith;
}

pub generated_are_scripts : GeneratedAreScripts
generated_are_scripts start size small = (held, generated_valid start size small)
  where
    behind : ℕ
    behind = behind_clients size start

    last : ℕ
    last = behind_all behind_rebuild (size / 4) behind

    held : IsScript (generated start size)
    held = record {
      geometry = code_held;
      size = omega arith;
      tries = tt;
      clients = All_drawn HoldsClient (client_from size) (behind_client size) (λ state. (All_drawn IsCall call_from behind_call call_held size state, tt)) 4 start;
      repairers = All-cons HoldsRepairer (record { calls = drawn rebuild_from behind_rebuild (size / 4) behind; leave = None }) [] (All_drawn IsRebuild rebuild_from behind_rebuild rebuild_held (size / 4) behind, tt) (All-nil HoldsRepairer);
      schedule = All-append HoldsToken (drawn step_from behind_step (8 * size) last) (token.Drain ∷ []) (All_drawn HoldsToken step_from behind_step step_held (8 * size) last) (All-cons HoldsToken token.Drain [] (omega arith) (All-nil HoldsToken));
    }

-- Each actor's answered calls are its first ones, each answered once.
use Rattle.std.specs.Prelude.{ℕ, zero, suc, ◌+◌, Bool, true, ◌&&◌, not, List, length, Option}
use Rattle.std.specs.List.{range_with_len, prefix_len}
use Rattle.std.specs.Option.{option_or}
use Rattle.store_map.specs.declared.call_name.CallName.{CallName}
use Rattle.store_map.specs.declared.transcript.Transcript.{Transcript}
use Rattle.hist_rules.specs.declared.verdict.Verdict.{Verdict}
use Rattle.hist_rules.specs.declared.verdict.Verdict.TheVariants.{Misplaced}
use Rattle.hist_rules.specs.First.{unless, first_fault_along}
use Rattle.hist_rules.specs.Calls.{number_of, with_number, is_named}
use Rattle.hist_rules.specs.Named.{answered_calls}

-- the least number of this call's actor that isn't among the calls; it is no more than how many they are
abbrev pub least_missing : List CallName → CallName → ℕ
least_missing calls call = prefix_len (λ number. is_named (with_number call number) calls) (range_with_len 0 (length calls))

-- whether each number below passes a test
abbrev pub all_below : (ℕ → Bool) → ℕ → Bool
all_below test zero = true
all_below test (suc number) = test number && all_below test number

-- whether all earlier calls of this call's actor are among the calls
abbrev pub follows : List CallName → CallName → Bool
follows calls call = all_below (λ number. is_named (with_number call number) calls) (number_of call)

-- the actor's earlier calls are answered; the fault tells the least number that isn't, and the number named
abbrev pub follows_answered : List CallName → CallName → Option Verdict
follows_answered answered call = unless (follows answered call) (Misplaced call (least_missing answered call) (number_of call))

-- no earlier line answers the call; the fault tells the number after it, and the number named
abbrev pub is_first_answer : List CallName → CallName → Option Verdict
is_first_answer before call = unless (not (is_named call before)) (Misplaced call (number_of call + 1) (number_of call))

-- the first answer that stands out of order
abbrev pub calls_in_order : Transcript → Option Verdict
calls_in_order t = first_fault_along (λ before call. option_or (follows_answered (answered_calls t) call) (is_first_answer before call)) (answered_calls t)

-- What a call of the program owes for its words: what its source had handed out, what it has then and whether it told the end, what its
-- sink had taken, and what it has then.
use Rattle.std.specs.Prelude.{◌≡◌, ◌≤◌, ◌⊎◌, ℕ, Bool, true, List, [], ◌++◌, length, codes}
use Rattle.clay_cli.specs.Top.{IsSilent}
use Rattle.clay_cli.specs.Serves.{TakesPart}
use Rattle.clay_cli.specs.declared.status.Status.{Status}
use Rattle.clay_cli.specs.declared.status.Status.TheVariants.{Usage, InputTooLong, WriteFault}
use Rattle.trace_run.specs.Top.{Owes, IsOfInput}

abbrev pub usage_line : List ℕ
usage_line = codes "usage: clay_trace\n"

-- the usage line was taken, or a prefix of it where a write failed
abbrev pub GivesUsage : Status → List ℕ → List ℕ → Type 0
GivesUsage status accepted then =
    ((status ≡ Usage) × (then ≡ accepted ++ usage_line)) ⊎ ((status ≡ WriteFault) × TakesPart accepted usage_line then)

pub record Serves (words : List (List ℕ)) (status : Status) (given now : List ℕ) (ended : Bool) (accepted then : List ℕ) : Type 0 where
  -- where there are words the usage line is owed, and nothing is read
  pub usage : (words ≡ [] → ⊥) → (now ≡ given) × GivesUsage status accepted then
  pub traces : words ≡ [] → IsOfInput status ⊎ (status ≡ WriteFault) ⊎ IsSilent status
  -- an input was handed out and its end told, and the output that is owed for it was taken
  pub output : IsOfInput status → (input : List ℕ) × (output : List ℕ)
      × (now ≡ given ++ input) × (ended ≡ true) × (length input ≤ 167772160) × Owes input status output × (then ≡ accepted ++ output)
  -- or a prefix of it, where a write failed
  pub part : status ≡ WriteFault → words ≡ [] → (input : List ℕ) × (wanted : Status) × (output : List ℕ)
      × (now ≡ given ++ input) × (ended ≡ true) × (length input ≤ 167772160) × Owes input wanted output × TakesPart accepted output then
  -- or nothing
  pub silent : IsSilent status → then ≡ accepted
  -- one byte past the limit was handed out, or no more than the limit
  pub long : status ≡ InputTooLong → (got : List ℕ) × (length got ≡ 167772161) × (now ≡ given ++ got)
  pub most : (status ≡ InputTooLong → ⊥) → (got : List ℕ) × (length got ≤ 167772160) × (now ≡ given ++ got)

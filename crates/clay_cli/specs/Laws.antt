-- What `gen` prints can be read, and an input has one verdict and one answer.
use Rattle.std.specs.Prelude.{◌≡◌, ℕ, ◌≤◌, List}
use Rattle.store_map.specs.Naming.{IsValid}
use Rattle.line_grammar.specs.Values.{IsScript}
use Rattle.clay_gen.specs.Script.{generated}
use Rattle.clay_cli.specs.Top.{Answers}
use Rattle.clay_cli.specs.declared.status.Status.{Status}
use Rattle.clay_words.specs.declared.numbers_of_words.Task.{Task}
use Rattle.clay_words.specs.declared.numbers_of_words.Task.TheVariants.{Verify}

-- a generated script is one that a text can spell, and within the limits
abbrev pub GeneratedAreScripts : Type 0
GeneratedAreScripts = (start size : ℕ) → size ≤ 4096 → IsScript (generated start size) × IsValid (generated start size)

-- of an input `verify` has one status at most, and one line
abbrev pub HasOneVerdict : Type 0
HasOneVerdict =
    (input line other : List ℕ) (status state : Status) → Answers Verify input status line → Answers Verify input state other → (status ≡ state) × (line ≡ other)

-- of an input the task has one status at most, and one output
abbrev pub HasOneAnswer : Task → Type 0
HasOneAnswer task =
    (input output other : List ℕ) (status state : Status) → Answers task input status output → Answers task input state other
    → (status ≡ state) × (output ≡ other)

-- The words that the commands are asked for by.
use Rattle.std.specs.Prelude.{◌≡◌, ◌⊎◌, ◌<◌, ◌≤◌, ◌^◌, ℕ, List, [], ◌∷◌, codes, decimal, Option, MatchOption}
use Rattle.clay_grid.specs.Shape.{Shape}
use Rattle.clay_grid.specs.Limits.{IsWithinLimits}
use Rattle.clay_aloof.specs.Shape.{AloofShape, all_chunks}
use Rattle.clay_aloof.specs.Limits as aloof
use Rattle.clay_words.specs.declared.numbers_of_words.Command.{Command}
use Rattle.clay_words.specs.declared.numbers_of_words.Command.TheVariants.{Generate, Trial, OfInput}
use Rattle.clay_words.specs.declared.numbers_of_words.Task.{Task}
use Rattle.clay_words.specs.declared.numbers_of_words.Task.TheVariants.{Play, Run, Verify, Chunks, Recover, AloofChunks, AloofRepair}

-- three words spell the numbers of a code within its limits
pub record IsCode (g : Shape) (k m w : List ℕ) : Type 0 where
  pub data_count : k ≡ decimal g.data_count
  pub parity_count : m ≡ decimal g.parity_count
  pub width : w ≡ decimal g.width
  pub limits : IsWithinLimits g

-- a command's name, and the numbers of its code
pub record AreCodeWords (words : List (List ℕ)) (name : List ℕ) (g : Shape) : Type 0 where
  pub k : List ℕ
  pub m : List ℕ
  pub w : List ℕ
  pub words_are : words ≡ name ∷ k ∷ m ∷ w ∷ []
  pub code : IsCode g k m w

-- four words spell the numbers of a code with so many helpers, within its limits
pub record IsAloofCode (a : AloofShape) (k m d w : List ℕ) : Type 0 where
  pub data_count : k ≡ decimal a.data_count
  pub parity_count : m ≡ decimal a.parity_count
  pub helper_count : d ≡ decimal a.helper_count
  pub width : w ≡ decimal a.width
  pub limits : aloof.IsWithinLimits a

-- a command's name, the numbers of its code with so many helpers, and what stands behind them
pub record AreAloofWords (words : List (List ℕ)) (name : List ℕ) (a : AloofShape) (more : List (List ℕ)) : Type 0 where
  pub k : List ℕ
  pub m : List ℕ
  pub d : List ℕ
  pub w : List ℕ
  pub words_are : words ≡ name ∷ k ∷ m ∷ d ∷ w ∷ more
  pub code : IsAloofCode a k m d w

-- the number is that of the workers of a threaded run
abbrev pub IsWorkerCount : ℕ → Type 0
IsWorkerCount workers = (1 ≤ workers) × (workers ≤ 16)

-- the numbers are those of a script that is drawn
abbrev pub AreDrawn : ℕ → ℕ → Type 0
AreDrawn start size = (start < 2 ^ 64) × (1 ≤ size) × (size ≤ 4096)

-- the words for what is made of an input
abbrev pub AsksTask : List (List ℕ) → Task → Type 0
AsksTask words Play = (words ≡ []) ⊎ (words ≡ codes "play" ∷ [])
AsksTask words (Run workers) = (words ≡ codes "run" ∷ decimal workers ∷ []) × IsWorkerCount workers
AsksTask words Verify = words ≡ codes "verify" ∷ []
AsksTask words (Chunks g) = AreCodeWords words (codes "chunks") g
AsksTask words (Recover g) = AreCodeWords words (codes "recover") g
AsksTask words (AloofChunks a) = AreAloofWords words (codes "chunksd") a []
AsksTask words (AloofRepair a lost) = AreAloofWords words (codes "repaird") a (decimal lost ∷ []) × (lost < all_chunks a)

-- the words of a command
abbrev pub Asks : List (List ℕ) → Command → Type 0
Asks words (OfInput task) = AsksTask words task
Asks words (Generate start size) = (words ≡ codes "gen" ∷ decimal start ∷ decimal size ∷ []) × AreDrawn start size
Asks words (Trial start size workers) =
    (words ≡ codes "trial" ∷ decimal start ∷ decimal size ∷ decimal workers ∷ []) × AreDrawn start size × IsWorkerCount workers

-- the lost chunk of a repair is one of its code's, and the workers of a run are as many as there can be
abbrev pub IsWithinBounds : Task → Type 0
IsWithinBounds (Run workers) = IsWorkerCount workers
IsWithinBounds (AloofRepair a lost) = lost < all_chunks a
IsWithinBounds _ = Unit {0}

-- the words ask for no command
abbrev pub AsksNothing : List (List ℕ) → Type 0
AsksNothing words = (command : Command) → Asks words command → ⊥

-- a command that the words ask for, or none where they ask for none
abbrev pub IsAskedBy : List (List ℕ) → Option Command → Type 0
IsAskedBy words answer = MatchOption answer (AsksNothing words) (Asks words)

-- the words ask for a command that reads an input
abbrev pub AsksForInput : List (List ℕ) → Type 0
AsksForInput words = (task : Task) × Asks words (OfInput task)

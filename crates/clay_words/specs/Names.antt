-- The names of the commands, and those that their numbers are held under.
use Rattle.std.specs.Prelude.{ℕ, List, [], ◌∷◌, codes}
use Rattle.clay_words.specs.declared.word_names.Name.{Name}
use Rattle.clay_words.specs.declared.word_names.Name.TheVariants.{Play, Run, Verify, Chunks, Recover, Generate, Trial, AloofChunks, AloofRepair}

-- all of them
abbrev pub all_names : List Name
all_names = Play ∷ Run ∷ Verify ∷ Chunks ∷ Recover ∷ Generate ∷ Trial ∷ AloofChunks ∷ AloofRepair ∷ []

-- the word that a command is asked for by
abbrev pub word_of : Name → List ℕ
word_of Play = codes "play"
word_of Run = codes "run"
word_of Verify = codes "verify"
word_of Chunks = codes "chunks"
word_of Recover = codes "recover"
word_of Generate = codes "gen"
word_of Trial = codes "trial"
word_of AloofChunks = codes "chunksd"
word_of AloofRepair = codes "repaird"

-- what its numbers are held under, in the order of their words
abbrev pub ids_of : Name → List (List ℕ)
ids_of Play = []
ids_of Run = codes "workers" ∷ []
ids_of Verify = []
ids_of Chunks = codes "k" ∷ codes "m" ∷ codes "w" ∷ []
ids_of Recover = codes "k" ∷ codes "m" ∷ codes "w" ∷ []
ids_of Generate = codes "start" ∷ codes "size" ∷ []
ids_of Trial = codes "start" ∷ codes "size" ∷ codes "workers" ∷ []
ids_of AloofChunks = codes "k" ∷ codes "m" ∷ codes "d" ∷ codes "w" ∷ []
ids_of AloofRepair = codes "k" ∷ codes "m" ∷ codes "d" ∷ codes "w" ∷ codes "lost" ∷ []

-- How a snapshot is released: an end of each pass.
use Rattle.std.specs.Prelude.{ℕ, false, List, [], ◌∷◌, ◌++◌, map, fold}
use Rattle.store_map.specs.declared.actor.Point.{Point}
use Rattle.store_core.specs.Told.{Told}
use Rattle.store_core.specs.Act.{DirectoryStep}
use Rattle.store_core.specs.Directory.{Directory}
use Rattle.store_core.specs.AtDirectory.{at_directory}
use Rattle.store_core.specs.Agreement.{ActorToken}
use Rattle.store_core.specs.Tokens.{actor_of}
use Rattle.call_steps.specs.TokenAfter.{token_after}

-- the directory, the tickets of the passes that were ended, and the points at which some of them were reaped
pub record Released : Type 0 where
  pub directory : Directory
  pub tokens : List ActorToken
  pub reaps : List ℕ

abbrev pub released_with : Directory → List ActorToken → List Point → Released
released_with d tokens points = record { directory = d; tokens = tokens; reaps = map (λ point. point.0) points }

-- the point of a reap, if it is told
abbrev pub reap_in : Told → List ℕ
reap_in (Told.Reaped point) = point ∷ []
reap_in told = []

-- the end of one more pass
abbrev pub end_one : ℕ → Released → ActorToken → Released
end_one number released token =
    let after : Directory × Told = at_directory false (actor_of token) number DirectoryStep.End released.directory in
    record {
      directory = after.0;
      tokens = released.tokens ++ token_after token number DirectoryStep.End after.1 ∷ [];
      reaps = released.reaps ++ reap_in after.1;
    }

-- the ends of these passes of calls with a number, in order
abbrev pub end_all : ℕ → Released → List ActorToken → Released
end_all number released tokens = fold (end_one number) released tokens

-- none was ended yet
abbrev pub no_end : Directory → Released
no_end d = record { directory = d; tokens = []; reaps = [] }

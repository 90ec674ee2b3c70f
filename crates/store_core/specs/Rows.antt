-- A worked row: a script, and the transcript that it shows where memory is ample.
use Rattle.std.specs.Prelude.{◌≡◌, ℕ, List, [], ◌∷◌, None, codes}
use Rattle.store_map.specs.declared.actor.Token.{Token}
use Rattle.store_map.specs.declared.call.Call.TheVariants as call
use Rattle.store_map.specs.declared.content.Content.TheVariants as content
use Rattle.store_map.specs.declared.script.Script.{Script}
use Rattle.store_map.specs.declared.transcript.Transcript.{Transcript}
use Rattle.store_core.specs.Shown.{shown_of}

-- a script and its transcript
pub record Row : Type 0 where
  pub script : Script
  pub transcript : Transcript

-- the definitions compute the transcript from the script
abbrev pub Shows : Row → Type 0
Shows row = shown_of row.script [] ≡ row.transcript

-- stripes of 8 bytes over 4 servers, which begin the rows' scripts
abbrev pub small_script : Script
small_script =
    record {
      form = 1;
      geometry = record { data_count = 2; parity_count = 2; width = 1 };
      size = None;
      tries = None;
      clients = [];
      repairers = [];
      schedule = [];
    }

-- an object of one stripe
abbrev pub object_bytes : List ℕ
object_bytes = 1 ∷ 0 ∷ 0 ∷ 0 ∷ 0 ∷ 0 ∷ 0 ∷ 0 ∷ []

-- a put and a get of the object, by this schedule
abbrev pub put_and_get : List Token → Script
put_and_get schedule =
    record small_script {
      clients = record { calls = call.Put (codes "a") (content.Hex object_bytes) ∷ call.Get (codes "a") ∷ []; leave = None } ∷ [];
      schedule = schedule;
    }

-- a transcript without lines
abbrev pub no_lines : Transcript
no_lines = record { history = []; refused = []; repairs = []; unanswered = []; objects = []; takes = []; servers = [] }

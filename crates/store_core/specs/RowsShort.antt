-- Rows: memory is wanting.
use Rattle.std.specs.Prelude.{◌≡◌, true, false, [], ◌∷◌, ◌++◌, replicate, List}
use Rattle.store_map.specs.declared.reply.Reply.TheVariants as reply
use Rattle.store_map.specs.declared.cause.Cause.TheVariants as cause
use Rattle.store_core.specs.Step.{Shortage}
use Rattle.store_core.specs.Shown.{shown_of}
use Rattle.store_core.specs.Rows.{Row, no_lines}
use Rattle.store_core.specs.RowLines.{client, replied, refused, server}
use Rattle.store_core.specs.RowsCalls.{put_then_get}

-- the definitions compute the transcript from the script and these wants of memory
abbrev pub ShowsUnder : List Shortage → Row → Type 0
ShowsUnder shortages row = shown_of row.script shortages ≡ row.transcript

-- a step with ample memory
abbrev pub ample : Shortage
ample = record { coding = false; step = false }

-- memory is wanting in the step
abbrev pub short_step : Shortage
short_step = record { coding = false; step = true }

-- memory is wanting in the coding before the step
abbrev pub short_coding : Shortage
short_coding = record { coding = true; step = false }

-- a put that found no memory, and a get after it: nothing is stored
abbrev pub put_without_memory : Row
put_without_memory =
    record {
      script = put_then_get.script;
      transcript =
          record no_lines {
            history = replied 0 (client 0 1) reply.NoSuch ∷ [];
            refused = refused (client 0 0) cause.NoMemory ∷ [];
            servers = server 0 0 0 0 ∷ server 1 0 0 0 ∷ server 2 0 0 0 ∷ server 3 0 0 0 ∷ [];
          };
    }

-- no memory for the look
abbrev pub short_look : List Shortage
short_look = short_step ∷ []

-- no memory for the draw
abbrev pub short_draw : List Shortage
short_draw = ample ∷ short_step ∷ []

-- no memory for the coding of the stripe
abbrev pub short_encoding : List Shortage
short_encoding = replicate 2 ample ++ short_coding ∷ []

-- no memory for the third server's chunk
abbrev pub short_prepare : List Shortage
short_prepare = replicate 4 ample ++ short_step ∷ []

-- at the commit, the settles and where no pass is there want of memory isn't heard
abbrev pub short_commit : List Shortage
short_commit = short_coding ∷ replicate 5 ample ++ short_step ∷ replicate 4 (record { coding = true; step = true })

-- Rows: servers are emptied after each number of steps of a put, a write, a rebuild.
use Rattle.std.specs.Prelude.{◌≡◌, ℕ, ◌+◌, List, [], ◌∷◌, ◌++◌, None, map, replicate, codes}
use Rattle.std.specs.List.{range_with_len}
use Rattle.store_map.specs.declared.call.Call.TheVariants as call
use Rattle.store_map.specs.declared.content.Content.TheVariants as content
use Rattle.store_map.specs.declared.reply.Reply.TheVariants as reply
use Rattle.store_map.specs.declared.actor.Token.{Token}
use Rattle.store_map.specs.declared.actor.Token.TheVariants as token
use Rattle.store_map.specs.declared.script.Script.{Script}
use Rattle.store_map.specs.declared.call_name.CallName.TheVariants as name
use Rattle.store_map.specs.declared.cause.RepairResult.TheVariants as result
use Rattle.store_map.specs.declared.line.TLine.{TLine}
use Rattle.store_map.specs.declared.transcript.Transcript.{Transcript}
use Rattle.store_core.specs.Shown.{shown_of}
use Rattle.store_core.specs.Rows.{small_script, no_lines}
use Rattle.store_core.specs.RowLines.{client, repair, replied, repaired, listed, took}
use Rattle.store_core.specs.RowsCalls.{put_then_get}

-- for so many steps from the first number on the script shows this transcript
abbrev pub ShowsFrom : ℕ → ℕ → (ℕ → Script) → Transcript → Type 0
ShowsFrom first count script transcript = map (λ i. shown_of (script i) []) (range_with_len first count) ≡ replicate count transcript

-- a put and a get of one stripe; after i steps these servers are emptied
abbrev pub put_with_losses : List Token → ℕ → Script
put_with_losses losses i = record (put_then_get.script) { schedule = replicate i (token.Client 0) ++ losses ++ token.Drain ∷ [] }

-- server 0 is emptied
abbrev pub one_loss : List Token
one_loss = token.Wipe 0 ∷ []

-- servers 0, 1 and 2 are emptied
abbrev pub three_losses : List Token
three_losses = token.Wipe 0 ∷ token.Wipe 1 ∷ token.Wipe 2 ∷ []

-- the get has its bytes, and took so much
abbrev pub bytes_with : List ℕ → List TLine → Transcript
bytes_with takes servers = record (put_then_get.transcript) { takes = took (name.Client (client 0 1)) takes ∷ []; servers = servers }

-- a put, a write of one byte, a get; j steps after the put server 0 is emptied
abbrev pub write_with_loss : ℕ → Script
write_with_loss j =
    record small_script {
      clients =
          record {
            calls = call.Put (codes "a") (content.Hex (1 ∷ replicate 7 0)) ∷ call.Write (codes "a") 1 (content.Hex (5 ∷ [])) ∷ call.Get (codes "a") ∷ [];
            leave = None;
          } ∷ [];
      schedule = replicate (11 + j) (token.Client 0) ++ token.Wipe 0 ∷ token.Drain ∷ [];
    }

-- both have their bytes, and took so much
abbrev pub written_with : List ℕ → List ℕ → List TLine → Transcript
written_with old_takes takes servers =
    record no_lines {
      history = replied 0 (client 0 0) reply.Done ∷ replied 1 (client 0 1) reply.Done ∷ replied 2 (client 0 2) (reply.Bytes (1 ∷ 5 ∷ replicate 6 0)) ∷ [];
      objects = listed (codes "a") 8 ∷ [];
      takes = took (name.Client (client 0 1)) old_takes ∷ took (name.Client (client 0 2)) takes ∷ [];
      servers = servers;
    }

-- a put, and a rebuild of server 0's chunk after its loss; after j steps of the rebuild server 1 is emptied too
abbrev pub rebuild_with_loss : ℕ → Script
rebuild_with_loss j =
    record small_script {
      clients = record { calls = call.Put (codes "a") (content.Hex (1 ∷ replicate 7 0)) ∷ []; leave = None } ∷ [];
      repairers = record { calls = record { name = codes "a"; stripe = 0; server = 0 } ∷ []; leave = None } ∷ [];
      schedule = replicate 11 (token.Client 0) ++ token.Wipe 0 ∷ replicate j (token.Repairer 0) ++ token.Wipe 1 ∷ token.Drain ∷ [];
    }

-- the rebuild is made, and took so much
abbrev pub rebuilt_with : List ℕ → List TLine → Transcript
rebuilt_with takes servers =
    record no_lines {
      history = replied 0 (client 0 0) reply.Done ∷ [];
      repairs = repaired (repair 0 0) result.Rebuilt ∷ [];
      objects = listed (codes "a") 8 ∷ [];
      takes = took (name.Repairer (repair 0 0)) takes ∷ [];
      servers = servers;
    }

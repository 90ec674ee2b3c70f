-- Losses and rebuilds.
use Rattle.std.specs.Prelude.{ℕ, ◌+◌, true, false, nat_lt, List, [], ◌∷◌, length, get_or, map, if◌then◌else◌}
use Rattle.clay_grid.specs.Shape.{Shape}
use Rattle.store_map.specs.declared.reply.Reply.TheVariants as reply
use Rattle.store_core.specs.Lists.{change_at}
use Rattle.session_rules.specs.State.{Chunk, Stripe, State}
use Rattle.session_rules.specs.declared.session_answer.Answer.{Answer}
use Rattle.session_rules.specs.Gathered.{holds, is_beyond_repair, named}

-- a chunk is lost; where it was placed stays known
abbrev pub lost : Chunk → Chunk
lost chunk = record chunk { held = false }

-- a server is emptied: its epoch rises, and it holds no chunk of any stripe, also of those that only the snapshot keeps
abbrev pub lose : ℕ → State → State
lose server s = record s { epochs = change_at server (λ epoch. epoch + 1) s.epochs; stripes = map (change_at server lost) s.stripes }

-- a server's chunk of the stripe with this number is placed anew, at the server's present epoch
abbrev pub place_anew : ℕ → ℕ → State → State
place_anew number server s =
    record s { stripes = change_at number (change_at server (λ chunk. record { placed = get_or s.epochs server 0; held = true })) s.stripes }

-- of a server's chunk of the stripe at this place of an object
module _ (g : Shape) (stripe server : ℕ) (s : State) where
  -- the stripe has this number and these chunks; the server itself is asked first
  abbrev pub rebuild_one : ℕ → Stripe → State × Answer
  rebuild_one number chunks =
      if holds chunks server then (s, Answer.Here)
      else (if is_beyond_repair g chunks then (s, Answer.Unavailable stripe (named g s.epochs chunks chunks (server ∷ [])))
      else (place_anew number server s, Answer.Rebuilt))

  -- the object's stripes have these numbers
  abbrev pub rebuild : List ℕ → State × Answer
  rebuild numbers =
      let number : ℕ = get_or numbers stripe 0 in
      if nat_lt stripe (length numbers) then rebuild_one number (get_or s.stripes number []) else (s, Answer.Replied reply.NoSuch)

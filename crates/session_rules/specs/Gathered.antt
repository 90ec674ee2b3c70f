-- Which stripe of a range of bytes is unavailable, and which servers are named then.
use Rattle.std.specs.Prelude.{ℕ, ◌+◌, ◌*◌, ◌-◌, Bool, not, ◌&&◌, nat_lt, min, List, ◌++◌, length, get_or, map, take, filter, find, Option, option_map}
use Rattle.std.specs.List.{range_with_len, list_any}
use Rattle.clay_grid.specs.Shape.{Shape, chunk_count, stripe_length}
use Rattle.store_core.specs.Lists.{is_among}
use Rattle.store_core.specs.GatheringParts.{chunks_in_range}
use Rattle.store_core.specs.Look.{stripes_between}
use Rattle.session_rules.specs.State.{Stripe, State, stripe_at, chunk_at}
use Rattle.session_rules.specs.declared.session_answer.Missing.{Missing}
use Rattle.session_rules.specs.declared.session_answer.Answer.{Answer}

-- the stripe at a place of an object, and which of its bytes are gathered, from start up to end
pub record Range : Type 0 where
  pub stripe : ℕ
  pub start : ℕ
  pub end : ℕ

-- the bytes from start up to end of an object, stripe by stripe
abbrev pub ranges_between : Shape → ℕ → ℕ → List Range
ranges_between g start end =
    map (λ i. record { stripe = i; start = start - i * stripe_length g; end = min (end - i * stripe_length g) (stripe_length g) }) (stripes_between g start end)

-- whether a server holds its chunk of a stripe
abbrev pub holds : Stripe → ℕ → Bool
holds stripe server = (chunk_at stripe server).held

-- of some servers, those that don't
abbrev pub lacking : Stripe → List ℕ → List ℕ
lacking stripe servers = filter (λ server. not (holds stripe server)) servers

-- all servers in the order in which they are asked: these first, then the others, rising
abbrev pub asked_first : Shape → List ℕ → List ℕ
asked_first g first = first ++ filter (λ server. not (is_among server first)) (range_with_len 0 (chunk_count g))

-- more servers than there are parity chunks lack theirs, so the code can't make them anew
abbrev pub is_beyond_repair : Shape → Stripe → Bool
is_beyond_repair g stripe = nat_lt g.parity_count (length (lacking stripe (range_with_len 0 (chunk_count g))))

-- the servers that are named for a stripe that is beyond repair, where these are asked first: the first that lack their chunks, one more than
-- there are parity chunks, each with the epoch at which its chunk was placed, and its epoch now
abbrev pub named : Shape → List ℕ → Stripe → Stripe → List ℕ → List Missing
named g epochs as_placed as_held first =
    map (λ server. record { server = server; placed = (chunk_at as_placed server).placed; found = get_or epochs server 0 })
    (take (g.parity_count + 1) (lacking as_held (asked_first g first)))

-- of an object with these stripes: the state says which chunks are held, a list of stripes where they were placed
module _ (g : Shape) (s : State) (as_placed : List Stripe) (numbers : List ℕ) where
  -- the bytes can't be had: a data chunk that has some of them isn't held, and the stripe is beyond repair
  abbrev pub is_unavailable : Range → Bool
  is_unavailable range =
      let stripe : Stripe = stripe_at s.stripes numbers range.stripe in
      list_any (λ chunk. not (holds stripe chunk)) (chunks_in_range g range.start range.end) && is_beyond_repair g stripe

  -- the answer then; the data chunks that have some of the bytes are asked first
  abbrev pub unavailable : Range → Answer
  unavailable range =
      Answer.Unavailable range.stripe
      (named g s.epochs (stripe_at as_placed numbers range.stripe) (stripe_at s.stripes numbers range.stripe) (chunks_in_range g range.start range.end))

  -- the answer for the first of some ranges that is unavailable, if one is
  abbrev pub first_unavailable : List Range → Option Answer
  first_unavailable ranges = option_map unavailable (find is_unavailable ranges)

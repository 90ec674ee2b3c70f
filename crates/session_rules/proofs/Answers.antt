-- What a session's answers leave of the state.
use Rattle.std.proofs.Common.{◌≡◌, ℕ, Bool, true, false, List, [], ◌∷◌, ◌++◌, length, get_or, take, replicate, fold, Option, None, Some, option_map, unwrap_or, find, refl, ap, if◌then◌else◌, nat_lt}
use Rattle.std.proofs.lemmas.List.{append-nil}
use Rattle.clay_grid.specs.Shape.{Shape, chunk_count}
use Rattle.store_map.specs.PlainMap.{apply, bytes_of}
use Rattle.store_map.specs.declared.call.Call.{Call}
use Rattle.store_map.specs.declared.call.Call.TheVariants as call
use Rattle.store_map.specs.declared.reply.Reply.TheVariants as reply
use Rattle.session_rules.specs.State.{Stripe, State, numbers_of}
use Rattle.session_rules.specs.declared.session_answer.LostChunk.{LostChunk}
use Rattle.session_rules.specs.declared.session_answer.Answer.{Answer}
use Rattle.session_rules.specs.Gathered.{Range, is_unavailable, unavailable, holds, is_beyond_repair, named}
use Rattle.session_rules.specs.Calls.{name_in, gathered_by, is_refusal, unless_unavailable, serve_by, serve_call}
use Rattle.session_rules.specs.Placing.{after_call}
use Rattle.session_rules.specs.Rebuilds.{place_anew, rebuild_one, rebuild}
use Rattle.session_rules.specs.Heals.{to_heal, heal_one}
use Rattle.session_rules.specs.AloneHeals.{healed_by}

module _ (g : Shape) (max : ℕ) (s : State) where
  -- a call leaves the healing seat's next number
  pub call_next : (c : Call) → (serve_call g max c s).0.next ≡ s.next
  call_next c = by (is_refusal (apply max c s.objects).1)
    where
      unless : (found : Option Range) →
          (unless_unavailable (option_map (unavailable g s s.stripes (numbers_of (name_in c) s.numbers)) found) s (after_call g c (apply max c s.objects).0 s, Answer.Replied (apply max c s.objects).1)).0.next ≡ s.next
      unless None = refl
      unless (Some range) = refl

      by : (b : Bool) → (serve_by b g c s (apply max c s.objects)).0.next ≡ s.next
      by true = refl
      by false = unless (find (is_unavailable g s s.stripes (numbers_of (name_in c) s.numbers)) (gathered_by g c (length (unwrap_or (bytes_of (name_in c) s.objects) []))))

  -- and the snapshot
  pub call_snapshot : (c : Call) → (serve_call g max c s).0.snapshot ≡ s.snapshot
  call_snapshot c = by (is_refusal (apply max c s.objects).1)
    where
      unless : (found : Option Range) →
          (unless_unavailable (option_map (unavailable g s s.stripes (numbers_of (name_in c) s.numbers)) found) s (after_call g c (apply max c s.objects).0 s, Answer.Replied (apply max c s.objects).1)).0.snapshot ≡ s.snapshot
      unless None = refl
      unless (Some range) = refl

      by : (b : Bool) → (serve_by b g c s (apply max c s.objects)).0.snapshot ≡ s.snapshot
      by true = refl
      by false = unless (find (is_unavailable g s s.stripes (numbers_of (name_in c) s.numbers)) (gathered_by g c (length (unwrap_or (bytes_of (name_in c) s.objects) []))))

  -- one that the map refuses leaves the state
  pub refused_state : (c : Call) → is_refusal (apply max c s.objects).1 ≡ true → (serve_call g max c s).0 ≡ s
  refused_state c e = ap (λ b. (serve_by b g c s (apply max c s.objects)).0) e

  -- and so does one that writes nothing and leaves the map
  unwritten : (c : Call) → after_call g c (apply max c s.objects).0 s ≡ s → (serve_call g max c s).0 ≡ s
  unwritten c same = by (is_refusal (apply max c s.objects).1)
    where
      unless : (found : Option Range) →
          (unless_unavailable (option_map (unavailable g s s.stripes (numbers_of (name_in c) s.numbers)) found) s (after_call g c (apply max c s.objects).0 s, Answer.Replied (apply max c s.objects).1)).0 ≡ s
      unless None = same
      unless (Some range) = refl

      by : (b : Bool) → (serve_by b g c s (apply max c s.objects)).0 ≡ s
      by true = refl
      by false = unless (find (is_unavailable g s s.stripes (numbers_of (name_in c) s.numbers)) (gathered_by g c (length (unwrap_or (bytes_of (name_in c) s.objects) []))))

  no_stripes : record s { stripes = s.stripes ++ [] } ≡ s
  no_stripes = ap (λ stripes. record s { stripes = stripes }) (append-nil s.stripes)

  pub get_state : (name : List ℕ) → (serve_call g max (call.Get name) s).0 ≡ s
  get_state name = unwritten (call.Get name) no_stripes

  pub read_state : (name : List ℕ) (offset count : ℕ) → (serve_call g max (call.ReadAt name offset count) s).0 ≡ s
  read_state name offset count = unwritten (call.ReadAt name offset count) no_stripes

  pub stat_state : (name : List ℕ) → (serve_call g max (call.Stat name) s).0 ≡ s
  stat_state name = unwritten (call.Stat name) no_stripes

-- a rebuild leaves the healing seat's next number
pub rebuild_next : (g : Shape) (stripe server : ℕ) (s : State) (numbers : List ℕ) → (rebuild g stripe server s numbers).0.next ≡ s.next
rebuild_next g stripe server s numbers = by (nat_lt stripe (length numbers))
  where
    beyond : (chunks : Stripe) (n : ℕ) (b : Bool) → (let r : State × Answer = if b then (s, Answer.Unavailable stripe (named g s.epochs chunks chunks (server ∷ []))) else (place_anew n server s, Answer.Rebuilt) in r.0).next ≡ s.next
    beyond chunks n true = refl
    beyond chunks n false = refl

    one : (chunks : Stripe) (n : ℕ) (b : Bool) →
        (let r : State × Answer = if b then (s, Answer.Here) else (if is_beyond_repair g chunks then (s, Answer.Unavailable stripe (named g s.epochs chunks chunks (server ∷ []))) else (place_anew n server s, Answer.Rebuilt)) in r.0).next ≡ s.next
    one chunks n true = refl
    one chunks n false = beyond chunks n (is_beyond_repair g chunks)

    by : (b : Bool) → (let r : State × Answer = if b then rebuild_one g stripe server s (get_or numbers stripe 0) (get_or s.stripes (get_or numbers stripe 0) []) else (s, Answer.Replied reply.NoSuch) in r.0).next ≡ s.next
    by true = one (get_or s.stripes (get_or numbers stripe 0) []) (get_or numbers stripe 0) (holds (get_or s.stripes (get_or numbers stripe 0) []) server)
    by false = refl

-- and the snapshot
pub rebuild_snapshot : (g : Shape) (stripe server : ℕ) (s : State) (numbers : List ℕ) → (rebuild g stripe server s numbers).0.snapshot ≡ s.snapshot
rebuild_snapshot g stripe server s numbers = by (nat_lt stripe (length numbers))
  where
    beyond : (chunks : Stripe) (n : ℕ) (b : Bool) → (let r : State × Answer = if b then (s, Answer.Unavailable stripe (named g s.epochs chunks chunks (server ∷ []))) else (place_anew n server s, Answer.Rebuilt) in r.0).snapshot ≡ s.snapshot
    beyond chunks n true = refl
    beyond chunks n false = refl

    one : (chunks : Stripe) (n : ℕ) (b : Bool) →
        (let r : State × Answer = if b then (s, Answer.Here) else (if is_beyond_repair g chunks then (s, Answer.Unavailable stripe (named g s.epochs chunks chunks (server ∷ []))) else (place_anew n server s, Answer.Rebuilt)) in r.0).snapshot ≡ s.snapshot
    one chunks n true = refl
    one chunks n false = beyond chunks n (is_beyond_repair g chunks)

    by : (b : Bool) → (let r : State × Answer = if b then rebuild_one g stripe server s (get_or numbers stripe 0) (get_or s.stripes (get_or numbers stripe 0) []) else (s, Answer.Replied reply.NoSuch) in r.0).snapshot ≡ s.snapshot
    by true = one (get_or s.stripes (get_or numbers stripe 0) []) (get_or numbers stripe 0) (holds (get_or s.stripes (get_or numbers stripe 0) []) server)
    by false = refl

-- so do the first so many rebuilds of a heal
healed_snapshot_from : (g : Shape) (chunks : List LostChunk) (s : State) (taken : List ℕ) → (fold (heal_one g) (s, taken) chunks).0.snapshot ≡ s.snapshot
healed_snapshot_from g [] s taken = refl
healed_snapshot_from g (chunk ∷ chunks) s taken = healed_snapshot_from g chunks (heal_one g (s, taken) chunk).0 (heal_one g (s, taken) chunk).1

pub healed_snapshot : (g : Shape) (count : ℕ) (s : State) → (healed_by g count s).snapshot ≡ s.snapshot
healed_snapshot g count s = healed_snapshot_from g (take count (to_heal g s)) s (replicate (chunk_count g) 0)

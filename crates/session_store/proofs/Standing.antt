-- What a served request leaves of where a store stands.
use Rattle.std.proofs.Common.{◌≡◌, ℕ, zero, suc, ◌+◌, ◌≤◌, Bool, true, false, List, [], ◌∷◌, length, get_or, find, fold, replicate, Option, None, Some, option_map, unwrap_or, refl, sym, subst, ◌∙◌, arith, nat_lt, if◌then◌else◌}
use Rattle.clay_grid.specs.Shape.{Shape, chunk_count}
use Rattle.store_map.specs.PlainMap.{apply, bytes_of}
use Rattle.store_map.specs.declared.call.Call.{Call}
use Rattle.store_map.specs.declared.reply.Reply.TheVariants as reply
use Rattle.store_core.specs.Lists.{change_at}
use Rattle.session_rules.specs.State.{Stripe, State, numbers_of}
use Rattle.session_rules.specs.declared.session_answer.LostChunk.{LostChunk}
use Rattle.session_rules.specs.declared.session_answer.Answer.{Answer}
use Rattle.session_rules.specs.Gathered.{Range, is_unavailable, unavailable, holds, is_beyond_repair, named}
use Rattle.session_rules.specs.Calls.{name_in, gathered_by, is_refusal, unless_unavailable, serve_by, serve_call}
use Rattle.session_rules.specs.Placing.{after_call}
use Rattle.session_rules.specs.Rebuilds.{place_anew, rebuild_one, rebuild}
use Rattle.session_rules.specs.Heals.{heal_one, heal_all}

-- ---- servers' epochs
module _ (g : Shape) (max : ℕ) (s : State) where
  pub call_epochs : (c : Call) → (serve_call g max c s).0.epochs ≡ s.epochs
  call_epochs c = by (is_refusal (apply max c s.objects).1)
    where
      unless : (found : Option Range) →
          (unless_unavailable (option_map (unavailable g s s.stripes (numbers_of (name_in c) s.numbers)) found) s (after_call g c (apply max c s.objects).0 s, Answer.Replied (apply max c s.objects).1)).0.epochs ≡ s.epochs
      unless None = refl
      unless (Some range) = refl

      by : (b : Bool) → (serve_by b g c s (apply max c s.objects)).0.epochs ≡ s.epochs
      by true = refl
      by false = unless (find (is_unavailable g s s.stripes (numbers_of (name_in c) s.numbers)) (gathered_by g c (length (unwrap_or (bytes_of (name_in c) s.objects) []))))

pub rebuild_epochs : (g : Shape) (stripe server : ℕ) (s : State) (numbers : List ℕ) → (rebuild g stripe server s numbers).0.epochs ≡ s.epochs
rebuild_epochs g stripe server s numbers = by (nat_lt stripe (length numbers))
  where
    beyond : (chunks : Stripe) (n : ℕ) (b : Bool) → (let r : State × Answer = if b then (s, Answer.Unavailable stripe (named g s.epochs chunks chunks (server ∷ []))) else (place_anew n server s, Answer.Rebuilt) in r.0).epochs ≡ s.epochs
    beyond chunks n true = refl
    beyond chunks n false = refl

    one : (chunks : Stripe) (n : ℕ) (b : Bool) →
        (let r : State × Answer = if b then (s, Answer.Here) else (if is_beyond_repair g chunks then (s, Answer.Unavailable stripe (named g s.epochs chunks chunks (server ∷ []))) else (place_anew n server s, Answer.Rebuilt)) in r.0).epochs ≡ s.epochs
    one chunks n true = refl
    one chunks n false = beyond chunks n (is_beyond_repair g chunks)

    by : (b : Bool) → (let r : State × Answer = if b then rebuild_one g stripe server s (get_or numbers stripe 0) (get_or s.stripes (get_or numbers stripe 0) []) else (s, Answer.Replied reply.NoSuch) in r.0).epochs ≡ s.epochs
    by true = one (get_or s.stripes (get_or numbers stripe 0) []) (get_or numbers stripe 0) (holds (get_or s.stripes (get_or numbers stripe 0) []) server)
    by false = refl

healed_epochs_from : (g : Shape) (chunks : List LostChunk) (s : State) (taken : List ℕ) → (fold (heal_one g) (s, taken) chunks).0.epochs ≡ s.epochs
healed_epochs_from g [] s taken = refl
healed_epochs_from g (chunk ∷ chunks) s taken = healed_epochs_from g chunks (heal_one g (s, taken) chunk).0 (heal_one g (s, taken) chunk).1

pub healed_epochs : (g : Shape) (chunks : List LostChunk) (s : State) → (heal_all g chunks s).0.epochs ≡ s.epochs
healed_epochs g chunks s = healed_epochs_from g chunks s (replicate (chunk_count g) 0)

-- one server's epoch rises
raised_at : (epochs : List ℕ) (server other count : ℕ) → ((i : ℕ) → get_or epochs i 0 ≤ count) → get_or (change_at server (λ epoch. epoch + 1) epochs) other 0 ≤ count + 1
raised_at [] server other count few = omega arith
raised_at (epoch ∷ epochs) zero zero count few = let first : epoch ≤ count = few 0 in omega (arith, first)
raised_at (epoch ∷ epochs) zero (suc other) count few = let later : get_or epochs other 0 ≤ count = few (suc other) in omega (arith, later)
raised_at (epoch ∷ epochs) (suc server) zero count few = let first : epoch ≤ count = few 0 in omega (arith, first)
raised_at (epoch ∷ epochs) (suc server) (suc other) count few = raised_at epochs server other count (λ i. few (suc i))

pub lost_epochs : (epochs : List ℕ) (server count : ℕ) → ((i : ℕ) → get_or epochs i 0 ≤ count) → (other : ℕ) → get_or (change_at server (λ epoch. epoch + 1) epochs) other 0 ≤ count + 1
lost_epochs epochs server count few other = raised_at epochs server other count few

pub later_epochs : (epochs now : List ℕ) (count : ℕ) → now ≡ epochs → ((i : ℕ) → get_or epochs i 0 ≤ count) → (i : ℕ) → get_or now i 0 ≤ count + 1
later_epochs epochs now count same few i = subst (λ l. get_or l i 0 ≤ count + 1) (sym same) (let less : get_or epochs i 0 ≤ count = few i in omega (arith, less))

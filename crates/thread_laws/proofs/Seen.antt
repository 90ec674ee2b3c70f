-- What an actor's turns have seen, beside histories that go on from it.
use Rattle.std.proofs.Common.{◌≡◌, ℕ, zero, suc, ◌<◌, List, [], ◌∷◌, length, Option, None, Some, slice_get, unwrap_or, refl, sym, ap, ◌∙◌, arith}
use Rattle.store_core.specs.ActPlace.{ActPlace}
use Rattle.thread_laws.specs.MadeSteps.{MadeStep}
use Rattle.turn_lock.specs.History.{entries_of}
use Rattle.thread_laws.specs.Entries.{steps_in}
use Rattle.thread_laws.specs.Noted.{Noted, made_in}
use Rattle.thread_laws.specs.Logs.{Logs, log_of, own_at}
use Rattle.thread_laws.proofs.Plain.{all_begin}
use Rattle.thread_laws.specs.Seen.{HasEntries, HasSeenNothing, HistoriesHaveAll, NewTurnsBegin}

-- ---- before the first step
none_there : (seen : Logs) → HasSeenNothing seen → (j : ℕ) → log_of seen j ≡ []
none_there seen none j = by (slice_get seen.servers j) refl
  where
    by : (found : Option (List (ℕ × MadeStep))) → slice_get seen.servers j ≡ found → unwrap_or (slice_get seen.servers j) [] ≡ []
    by None e = ap (λ (o : Option (List (ℕ × MadeStep))). unwrap_or o []) e
    by (Some log) e = ap (λ (o : Option (List (ℕ × MadeStep))). unwrap_or o []) e ∙ none.servers j log e

none_own : (number : ℕ) (seen : Logs) → HasSeenNothing seen → (place : ActPlace) → own_at number seen place ≡ []
none_own number seen none ActPlace.Directory = ap (λ (l : List (ℕ × Noted)). made_in (entries_of number l)) none.directory
none_own number seen none (ActPlace.Server j) = ap (λ (l : List (ℕ × MadeStep)). steps_in (entries_of number l)) (none_there seen none j)

pub new_turns_begin : NewTurnsBegin
new_turns_begin script number seen none = all_begin script (own_at number seen) (none_own number seen none)

-- ---- in the end
-- lists of the same length, of which each place has what the other's has, or nothing
same_there : (number : ℕ) (logs seen : List (List (ℕ × MadeStep))) → length logs ≡ length seen
    → ((j : ℕ) (log own : List (ℕ × MadeStep)) → slice_get logs j ≡ Some log → slice_get seen j ≡ Some own → entries_of number log ≡ entries_of number own)
    → (j : ℕ) → entries_of number (unwrap_or (slice_get logs j) []) ≡ entries_of number (unwrap_or (slice_get seen j) [])
same_there number [] [] wide all j = refl
same_there number [] (own ∷ seen) wide all j = absurd (omega (arith, wide))
same_there number (log ∷ logs) [] wide all j = absurd (omega (arith, wide))
same_there number (log ∷ logs) (own ∷ seen) wide all zero = all zero log own refl refl
same_there number (log ∷ logs) (own ∷ seen) wide all (suc j) = same_there number logs seen (omega (arith, wide)) (λ k l o e f. all (suc k) l o e f) j

pub histories_have_all : HistoriesHaveAll
histories_have_all number seen logs has ActPlace.Directory = ap made_in has.directory
histories_have_all number seen logs has (ActPlace.Server j) = ap steps_in (same_there number logs.servers seen.servers has.wide has.servers j)

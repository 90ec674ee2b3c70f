-- The last point, and the last number of each actor, among the lines so far.
use Rattle.std.proofs.Common.{◌≡◌, ℕ, ◌+◌, ◌<◌, Bool, true, false, List, ◌∷◌, length, get_or, take, refl, sym, ap, ◌∙◌}
use Rattle.std.specs.Prelude.{Option, Some, cond, reverse, find}
use Rattle.std.specs.Option.{option_map}
use Rattle.std.specs.List.{slice_get}
use Rattle.store_map.specs.declared.call_name.CallName.{CallName}
use Rattle.store_map.specs.declared.line.HLine.{HLine}
use Rattle.hist_rules.specs.Calls.{number_of, same_actor}
use Rattle.hist_tables.specs.Tables.{value_at}
use Rattle.hist_tables.specs.declared.actor_table.ActorTable.{ActorTable}
use Rattle.hist_tables.proofs.Faults.{before_more}

-- one line more, which is read as an item
item_more : {Line : Type 0} (lines : List Line) (i : ℕ) (item : Line) → i < length lines → item ≡ get_or lines i item → reverse (take (i + 1) lines) ≡ item ∷ reverse (take i lines)
item_more {Line} lines i item within is = before_more lines i item within ∙ ap (λ (line : Line). line ∷ reverse (take i lines)) (sym is)

pub point_more : (lines : List HLine) (i : ℕ) (item : HLine) → i < length lines → item ≡ get_or lines i item
    → Some item.point ≡ option_map (λ line. line.point) (slice_get (reverse (take (i + 1) lines)) 0)
point_more lines i item within is = sym (ap (λ (all : List HLine). option_map (λ (line : HLine). line.point) (slice_get all 0)) (item_more lines i item within is))

mapped : {Line : Type 0} (f : Line → ℕ) (b : Bool) (line : Line) (found : Option Line) → cond b (Some (f line)) (option_map f found) ≡ option_map f (cond {A = Option Line} b (Some line) found)
mapped f true line found = refl
mapped f false line found = refl

-- a table with the number of the last line of each actor, one line on
pub numbers_more : {Line : Type 0} (call : Line → CallName) (old new : ActorTable) (lines : List Line) (i : ℕ) (item : Line) → i < length lines → item ≡ get_or lines i item
    → ((other : CallName) → value_at new other ≡ cond (same_actor other (call item)) (Some (number_of (call item))) (value_at old other))
    → ((other : CallName) → value_at old other ≡ option_map (λ line. number_of (call line)) (find (λ line. same_actor other (call line)) (reverse (take i lines))))
    → (other : CallName) → value_at new other ≡ option_map (λ line. number_of (call line)) (find (λ line. same_actor other (call line)) (reverse (take (i + 1) lines)))
numbers_more {Line} call old new lines i item within is put before other =
    put other
    ∙ ap (λ (found : Option ℕ). cond (same_actor other (call item)) (Some (number_of (call item))) found) (before other)
    ∙ mapped (λ (line : Line). number_of (call line)) (same_actor other (call item)) item (find (λ line. same_actor other (call line)) (reverse (take i lines)))
    ∙ sym (ap (λ (all : List Line). option_map (λ (line : Line). number_of (call line)) (find (λ line. same_actor other (call line)) all)) (item_more lines i item within is))

-- the same, where the number that is put was reckoned before
pub numbers_put : {Line : Type 0} (call : Line → CallName) (old new : ActorTable) (lines : List Line) (i number : ℕ) (item : Line) → i < length lines
    → ((other : CallName) → value_at new other ≡ cond (same_actor other (call item)) (Some number) (value_at old other))
    → item ≡ get_or lines i item → number ≡ number_of (call item)
    → ((other : CallName) → value_at old other ≡ option_map (λ line. number_of (call line)) (find (λ line. same_actor other (call line)) (reverse (take i lines))))
    → (other : CallName) → value_at new other ≡ option_map (λ line. number_of (call line)) (find (λ line. same_actor other (call line)) (reverse (take (i + 1) lines)))
numbers_put call old new lines i number item within put is reckoned before =
    numbers_more call old new lines i item within is
    (λ other. put other ∙ ap (λ (n : ℕ). cond (same_actor other (call item)) (Some n) (value_at old other)) reckoned) before

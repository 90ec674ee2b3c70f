-- What a heal makes of each stripe.
use Rattle.std.specs.Prelude.{◌≡◌, ℕ, ◌≤◌, List, [], length, get_or, IsTrue}
use Rattle.clay_grid.specs.Shape.{Shape}
use Rattle.store_core.specs.Lists.{is_among}
use Rattle.store_core.specs.Step.{Places}
use Rattle.session_rules.specs.State.{Stripe, State}
use Rattle.session_rules.specs.Gathered.{lacking}
use Rattle.session_rules.specs.Heals.{servers, numbers_last, heal}
use Rattle.session_rules.specs.Seen.{all_numbers, IsSeenAs}

-- the stripe with a number
abbrev pub stripe_of : State → ℕ → Stripe
stripe_of s number = get_or s.stripes number []

-- it is one of an object, and at most as many of its chunks are lost as there are parity chunks
abbrev pub CanBeRestored : Shape → State → ℕ → Type 0
CanBeRestored g s number = IsTrue (is_among number (all_numbers s.numbers)) × (length (lacking (stripe_of s number) (servers g)) ≤ g.parity_count)

-- no server lacks its chunk of such a stripe any more, every other stripe is as it was, and so is all else but the healer's next number
pub record IsRestored (g : Shape) (before after : State) : Type 0 where
  pub whole : (number : ℕ) → CanBeRestored g before number → lacking (stripe_of after number) (servers g) ≡ []
  pub others : (number : ℕ) → (CanBeRestored g before number → ⊥) → stripe_of after number ≡ stripe_of before number
  pub rest : after ≡ record before { stripes = after.stripes; next = after.next }

-- so it is after a session's heal, where the healer's numbers last
abbrev pub HealsRestoreStripes : Type 0
HealsRestoreStripes =
    (g : Shape) (max : ℕ) (stands : List ℕ) (p : Places) (s : State) → IsSeenAs g max stands p s → IsTrue (numbers_last g s) → IsRestored g s (heal g s).0

-- Servers among others.
use Rattle.std.proofs.Common.{◌≡◌, ℕ, zero, suc, ◌+◌, ◌<◌, ◌≤◌, nat_eq, Bool, true, false, not, ◌||◌, List, [], ◌∷◌, ◌++◌, filter, refl, sym, ap, ◌∙◌, arith}
use Rattle.std.specs.List.{range_with_len}
use Rattle.std.proofs.lemmas.Bool.{true≢false, cond_both, eqb-true, eqb-false, ne_eqb, or_parts, or_from}
use Rattle.clay_grid.specs.Shape.{Shape, chunk_count}
use Rattle.store_core.specs.Lists.{is_among}
use Rattle.store_core.specs.Told.{Seen}
use Rattle.store_core.specs.Gathering.{servers_but}
use Rattle.gathering.specs.Servers.{AreApart}

or_assoc : (a b c : Bool) → ((a || b) || c) ≡ (a || (b || c))
or_assoc true b c = refl
or_assoc false b c = refl

pub among_push : (server last : ℕ) (servers : List ℕ) → is_among server (servers ++ last ∷ []) ≡ (is_among server servers || nat_eq server last)
among_push server last [] = or_none (nat_eq server last)
  where
    or_none : (b : Bool) → (b || false) ≡ b
    or_none true = refl
    or_none false = refl
among_push server last (other ∷ servers) =
    ap (λ b. nat_eq server other || b) (among_push server last servers) ∙ sym (or_assoc (nat_eq server other) (is_among server servers) (nat_eq server last))

-- those before the last one
pub not_before : (server last : ℕ) (servers : List ℕ) → is_among server (servers ++ last ∷ []) ≡ false → is_among server servers ≡ false
not_before server last servers h = (or_parts (is_among server servers) (nat_eq server last) (sym (among_push server last servers) ∙ h)).0

pub not_last : (server last : ℕ) (servers : List ℕ) → is_among server (servers ++ last ∷ []) ≡ false → nat_eq server last ≡ false
not_last server last servers h = (or_parts (is_among server servers) (nat_eq server last) (sym (among_push server last servers) ∙ h)).1

-- what a filter keeps
filtered : (p : ℕ → Bool) (server : ℕ) (servers : List ℕ) → is_among server servers ≡ false → is_among server (filter p servers) ≡ false
filtered p server [] h = refl
filtered p server (other ∷ servers) h =
    let parts = or_parts (nat_eq server other) (is_among server servers) h in
    cond_both {A = List ℕ} (p other) (other ∷ filter p servers) (filter p servers) (λ l. is_among server l ≡ false)
    (λ _. or_from (nat_eq server other) (is_among server (filter p servers)) parts.0 (filtered p server servers parts.1))
    (λ _. filtered p server servers parts.1)

-- one that the filter leaves out isn't there
left_out : (p : ℕ → Bool) (server : ℕ) → p server ≡ false → (servers : List ℕ) → is_among server (filter p servers) ≡ false
left_out p server out [] = refl
left_out p server out (other ∷ servers) =
    cond_both {A = List ℕ} (p other) (other ∷ filter p servers) (filter p servers) (λ l. is_among server l ≡ false)
    (λ kept. or_from (nat_eq server other) (is_among server (filter p servers)) (ne_eqb server other (λ same. true≢false (sym kept ∙ ap p (sym same) ∙ out))) (left_out p server out servers))
    (λ _. left_out p server out servers)

-- one that it keeps is
kept_by : (p : ℕ → Bool) (server other : ℕ) → p server ≡ true → (servers : List ℕ) → (is_among server servers ≡ true → is_among server (filter p servers) ≡ true)
    → is_among server (other ∷ servers) ≡ true → is_among server (filter p (other ∷ servers)) ≡ true
kept_by p server other keep servers rest h =
    cond_both {A = List ℕ} (p other) (other ∷ filter p servers) (filter p servers) (λ l. is_among server l ≡ true)
    (λ _. here (nat_eq server other) h)
    (λ drop. later (nat_eq server other) refl drop h)
  where
    here : (b : Bool) → (b || is_among server servers) ≡ true → (b || is_among server (filter p servers)) ≡ true
    here true e = refl
    here false e = rest e

    later : (b : Bool) → nat_eq server other ≡ b → p other ≡ false → (b || is_among server servers) ≡ true → is_among server (filter p servers) ≡ true
    later true same drop e = absurd (true≢false (sym keep ∙ ap p (eqb-true server other same) ∙ drop))
    later false apart drop e = rest e

pub kept_in : (p : ℕ → Bool) (server : ℕ) → p server ≡ true → (servers : List ℕ) → is_among server servers ≡ true → is_among server (filter p servers) ≡ true
kept_in p server keep [] h = h
kept_in p server keep (other ∷ servers) h = kept_by p server other keep servers (kept_in p server keep servers) h

below_range : (server from n : ℕ) → server < from → is_among server (range_with_len from n) ≡ false
below_range server from zero h = refl
below_range server from (suc n) h =
    or_from (nat_eq server from) (is_among server (range_with_len (from + 1) n)) (ne_eqb server from (λ same. absurd (omega (arith, h, same)))) (below_range server (from + 1) n (omega (arith, h)))

first_or_rest : (server from n : ℕ) → from ≤ server → (from + 1 ≤ server → is_among server (range_with_len (from + 1) n) ≡ true)
    → is_among server (range_with_len from (suc n)) ≡ true
first_or_rest server from n low rest = by (nat_eq server from) refl
  where
    by : (b : Bool) → nat_eq server from ≡ b → (b || is_among server (range_with_len (from + 1) n)) ≡ true
    by true e = refl
    by false e = rest (omega (arith, low, eqb-false server from e))

pub in_range : (server from n : ℕ) → from ≤ server → server < from + n → is_among server (range_with_len from n) ≡ true
in_range server from zero low high = absurd (omega (arith, low, high))
in_range server from (suc n) low high = first_or_rest server from n low (λ above. in_range server (from + 1) n above (omega (arith, high)))

range_apart : (from n : ℕ) → AreApart (range_with_len from n)
range_apart from zero = tt
range_apart from (suc n) = (below_range from (from + 1) n (omega arith), range_apart (from + 1) n)

filter_apart : (p : ℕ → Bool) (servers : List ℕ) → AreApart servers → AreApart (filter p servers)
filter_apart p [] h = tt
filter_apart p (server ∷ servers) h =
    cond_both {A = List ℕ} (p server) (server ∷ filter p servers) (filter p servers) AreApart
    (λ _. (filtered p server servers h.0, filter_apart p servers h.1)) (λ _. filter_apart p servers h.1)

pub but_apart : (g : Shape) (seen : Seen) (asked : List ℕ) → AreApart (servers_but g seen asked)
but_apart g seen asked = filter_apart (λ server. not (is_among server asked)) (range_with_len 0 (chunk_count g)) (range_apart 0 (chunk_count g))

-- one that was asked is left out
pub but_asked : (g : Shape) (seen : Seen) (asked : List ℕ) (server : ℕ) → is_among server asked ≡ true → is_among server (servers_but g seen asked) ≡ false
but_asked g seen asked server h = left_out (λ server. not (is_among server asked)) server (ap not h) (range_with_len 0 (chunk_count g))

-- one that is left out was asked
pub but_left : (g : Shape) (seen : Seen) (asked : List ℕ) (server : ℕ) → server < chunk_count g → is_among server (servers_but g seen asked) ≡ false → is_among server asked ≡ true
but_left g seen asked server below out = by (is_among server asked) refl
  where
    by : (b : Bool) → is_among server asked ≡ b → b ≡ true
    by true e = refl
    by false e =
        absurd (true≢false (sym (kept_in (λ server. not (is_among server asked)) server (ap not e) (range_with_len 0 (chunk_count g)) (in_range server 0 (chunk_count g) (omega arith) (omega (arith, below)))) ∙ out))

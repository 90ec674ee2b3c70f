-- Gatherings end where too many servers lack their chunk, and only there.
use Rattle.std.proofs.Common.{◌≡◌, ◌≢◌, ℕ, zero, suc, ◌+◌, ◌<◌, ◌≤◌, Bool, true, false, cond, not, ◌||◌, nat_lt, nat_eq, List, [], ◌∷◌, ◌++◌, length, map, refl, sym, ap, subst, ◌∙◌, inl, inr, arith, length-append}
use Rattle.std.proofs.lemmas.Bool.{cond_both, ltb-true, ltb-false, ne_eqb, cases_eq}
use Rattle.std.proofs.lemmas.List.{map-append, append_assoc, append-nil, length-map}
use Rattle.clay_grid.specs.Shape.{Shape, chunk_count}
use Rattle.clay_grid.specs.Score.{count_below}
use Rattle.clay_grid.proofs.Counting.{count_below_same, count_below_true}
use Rattle.clay_grid.proofs.Rising.{length-filter_range}
use Rattle.store_map.specs.declared.placement.Found.{Found}
use Rattle.store_map.specs.declared.placement.Found.TheVariants as found
use Rattle.store_core.specs.Lists.{is_among}
use Rattle.store_core.specs.Told.{Seen, Lost, Told}
use Rattle.store_core.specs.Gathering.{Gathering, Part, servers_but, lost_at, unless_too_many, fetching_whole, recovering, fetching_repair, making, looking}
use Rattle.store_core.specs.GatheringParts.{chunks_in_range, after_data, fetching_data, gather_part, gather_chunk}
use Rattle.run_laws.specs.GatherLaws.{reasons_of, FoundEnough, FoundShortage, Ends, GatheringsEnd}
use Rattle.run_laws.proofs.Apart.{part_apart, chunk_apart}
use Rattle.run_laws.proofs.NamedServers.{part_asked, chunk_asked}

-- ---- asking one server fewer leaves at most one fewer
abbrev outside : ℕ → (ℕ → Bool) → ℕ → Bool
outside a p i = not (nat_eq i a || p i)

abbrev one_if : Bool → ℕ
one_if b = cond b 1 0

fewer_here : (a i : ℕ) (p : ℕ → Bool) → (i ≡ a → ⊥) → one_if (not (p i)) ≡ one_if (outside a p i)
fewer_here a i p apart = ap (λ b. cond (not (b || p i)) 1 0) (sym (ne_eqb i a apart))

fewer_below : (a n : ℕ) (p : ℕ → Bool) → n ≤ a → count_below n (λ i. not (p i)) ≡ count_below n (outside a p)
fewer_below a n p h = count_below_same n _ (outside a p) (λ i below. ap (λ b. not (b || p i)) (sym (ne_eqb i a (λ same. omega (arith, same, below, h)))))

one_if-le : (b : Bool) → one_if b ≤ 1
one_if-le true = omega arith
one_if-le false = omega arith

fewer : (a n : ℕ) (p : ℕ → Bool) → count_below n (λ i. not (p i)) ≤ count_below n (outside a p) + 1
fewer a zero p = omega arith
fewer a (suc n) p = elim (cases_eq n a) as (λ _. count_below (suc n) (λ i. not (p i)) ≤ count_below (suc n) (outside a p) + 1) [
  | inl same ↦ last_one same
  | inr apart ↦ others apart (fewer a n p)
]
  where
    last_one : n ≡ a → count_below n (λ i. not (p i)) + cond (not (p n)) 1 0 ≤ count_below n (outside a p) + cond (outside a p n) 1 0 + 1
    last_one same =
        let below : count_below n (λ i. not (p i)) ≡ count_below n (outside a p) = fewer_below a n p (omega (arith, same)) in
        let x : ℕ = cond (not (p n)) 1 0 in
        let small : x ≤ 1 = one_if-le (not (p n)) in
        let y : ℕ = cond (outside a p n) 1 0 in
        omega (arith, below, small)

    others : (n ≡ a → ⊥) → count_below n (λ i. not (p i)) ≤ count_below n (outside a p) + 1 → count_below n (λ i. not (p i)) + cond (not (p n)) 1 0 ≤ count_below n (outside a p) + cond (outside a p n) 1 0 + 1
    others apart rest =
        let x : ℕ = cond (not (p n)) 1 0 in
        let y : ℕ = cond (outside a p n) 1 0 in
        let same : x ≡ y = fewer_here a n p apart in
        omega (arith, rest, same)

count_unasked : (n : ℕ) (asked : List ℕ) → n ≤ count_below n (λ i. not (is_among i asked)) + length asked
count_unasked n [] =
    let all : count_below n (λ i. true) ≡ n = count_below_true n in
    omega (arith, all)
count_unasked n (a ∷ asked) =
    let rest : n ≤ count_below n (λ i. not (is_among i asked)) + length asked = count_unasked n asked in
    let one : count_below n (λ i. not (is_among i asked)) ≤ count_below n (λ i. not (is_among i (a ∷ asked))) + 1 = fewer_among n a asked in
    omega (arith, rest, one)
  where
    fewer_among : (n a : ℕ) (asked : List ℕ) → count_below n (λ i. not (is_among i asked)) ≤ count_below n (λ i. not (is_among i (a ∷ asked))) + 1
    fewer_among n a asked = fewer a n (λ i. is_among i asked)

module _ (g : Shape) (seen : Seen) where
  unasked : (asked : List ℕ) → chunk_count g ≤ length (servers_but g seen asked) + length asked
  unasked asked =
      let counted : length (servers_but g seen asked) ≡ count_below (chunk_count g) (λ i. not (is_among i asked)) = length-filter_range _ (chunk_count g) in
      let h : chunk_count g ≤ count_below (chunk_count g) (λ i. not (is_among i asked)) + length asked = count_unasked (chunk_count g) asked in
      omega (arith, counted, h)

-- ---- one answer more
-- the same as in the law, but for a target, which is asked before
abbrev IsAt : Shape → List Lost → List Told → Gathering → Type 0
IsAt g before told (Gathering.AtTarget rest) = ⊥
IsAt g before told (Gathering.TargetAway downs rest) = ⊥
IsAt g before told gathering = Ends g before told gathering

ends_at : (g : Shape) (before : List Lost) (told : List Told) (gathering : Gathering) → IsAt g before told gathering → Ends g before told gathering
ends_at g before told (Gathering.AtTarget rest) h = absurd h
ends_at g before told (Gathering.TargetAway downs rest) h = absurd h
ends_at g before told gathering h = h

module _ (g : Shape) where
  skip : (answer : Told) → ((told : List Told) → reasons_of (answer ∷ told) ≡ reasons_of told) → (before : List Lost) (told : List Told) (gathering : Gathering)
      → IsAt g before told gathering → IsAt g before (answer ∷ told) gathering
  skip answer same before told (Gathering.Asks server step) h =
      subst (λ reasons. length before + length reasons ≤ g.parity_count) (sym (same told)) h
  skip answer same before told (Gathering.HasBytes rest) h =
      record {
        front = answer ∷ h.front;
        told_is = ap (λ l. answer ∷ l) h.told_is;
        count = subst (λ reasons. length before + length reasons ≤ g.parity_count) (sym (same h.front)) h.count;
      }
  skip answer same before told (Gathering.TooMany missing rest) h =
      record {
        front = answer ∷ h.front;
        told_is = ap (λ l. answer ∷ l) h.told_is;
        count = h.count;
        reasons = h.reasons ∙ ap (λ l. map (λ (lost : Lost). lost.found) before ++ l) (sym (same h.front));
      }
  skip answer same before told (Gathering.AtTarget rest) h = absurd h
  skip answer same before told (Gathering.TargetAway downs rest) h = absurd h
  skip answer same before told (Gathering.Short rest) h =
      record {
        front = answer ∷ h.front;
        told_is = ap (λ l. answer ∷ l) h.told_is;
        count = subst (λ reasons. length before + length reasons ≤ g.parity_count) (sym (same h.front)) h.count;
      }

  counted : (reason : Found) (lost : Lost) (before : List Lost) (told : List Told)
      → length (before ++ lost ∷ []) + length (reasons_of told) ≤ g.parity_count → length before + length (reasons_of (Told.Missing reason ∷ told)) ≤ g.parity_count
  counted reason lost before told h =
      let e : length (before ++ lost ∷ []) ≡ length before + 1 = length-append before (lost ∷ []) in
      let f : length (reasons_of (Told.Missing reason ∷ told)) ≡ length (reasons_of told) + 1 = omega arith in
      omega (arith, e, f, h)

  mark : (lost : Lost) (before : List Lost) (told : List Told) (gathering : Gathering)
      → IsAt g (before ++ lost ∷ []) told gathering → IsAt g before (Told.Missing lost.found ∷ told) gathering
  mark lost before told (Gathering.Asks server step) h = counted lost.found lost before told h
  mark lost before told (Gathering.HasBytes rest) h =
      record {
        front = Told.Missing lost.found ∷ h.front;
        told_is = ap (λ l. Told.Missing lost.found ∷ l) h.told_is;
        count = counted lost.found lost before h.front h.count;
      }
  mark lost before told (Gathering.TooMany missing rest) h =
      record {
        front = Told.Missing lost.found ∷ h.front;
        told_is = ap (λ l. Told.Missing lost.found ∷ l) h.told_is;
        count = h.count;
        reasons =
            h.reasons ∙ ap (λ l. l ++ reasons_of h.front) (map-append (λ (lost : Lost). lost.found) before (lost ∷ []))
            ∙ append_assoc (map (λ (lost : Lost). lost.found) before) (lost.found ∷ []) (reasons_of h.front);
      }
  mark lost before told (Gathering.AtTarget rest) h = absurd h
  mark lost before told (Gathering.TargetAway downs rest) h = absurd h
  mark lost before told (Gathering.Short rest) h =
      record {
        front = Told.Missing lost.found ∷ h.front;
        told_is = ap (λ l. Told.Missing lost.found ∷ l) h.told_is;
        count = counted lost.found lost before h.front h.count;
      }

  enough : (missing : List Lost) (told : List Told) → length missing ≤ g.parity_count → FoundEnough g missing told told
  enough missing told h = record { front = []; told_is = refl; count = omega (arith, h) }

  no_room : (missing : List Lost) (answer : Told) (told : List Told) → length missing ≤ g.parity_count → reasons_of (answer ∷ []) ≡ [] → FoundShortage g missing (answer ∷ told) told
  no_room missing answer told h none =
      let n : length (reasons_of (answer ∷ [])) ≡ 0 = ap length none in
      record { front = answer ∷ []; told_is = refl; count = omega (arith, h, n) }

module _ (g : Shape) (seen : Seen) where
  unless_ends : (missing : List Lost) (told : List Told) (otherwise : Gathering) → length missing ≤ g.parity_count + 1
      → (length missing ≤ g.parity_count → IsAt g missing told otherwise) → IsAt g missing told (unless_too_many g seen missing told otherwise)
  unless_ends missing told otherwise most h =
      cond_both {A = Gathering} (nat_lt g.parity_count (length missing)) (Gathering.TooMany missing told) otherwise (IsAt g missing told)
      (λ e. record {
        front = [];
        told_is = refl;
        count = omega (arith, most, ltb-true g.parity_count (length missing) e);
        reasons = sym (append-nil (map (λ (lost : Lost). lost.found) missing));
      })
      (λ e. h (ltb-false g.parity_count (length missing) e))

  one_more : (lost : Lost) (missing : List Lost) → length (missing ++ lost ∷ []) ≡ length missing + 1
  one_more lost missing = length-append missing (lost ∷ [])

  at_most : (lost : Lost) (missing : List Lost) → length missing ≤ g.parity_count → length (missing ++ lost ∷ []) ≤ g.parity_count + 1
  at_most lost missing h = let e : length (missing ++ lost ∷ []) ≡ length missing + 1 = one_more lost missing in omega (arith, e, h)

  whole_ends : (servers : List ℕ) (wanted : ℕ) (missing : List Lost) (told : List Told) → length missing ≤ g.parity_count → wanted + g.parity_count ≤ length servers + length missing
      → IsAt g missing told (fetching_whole g seen servers wanted missing told)
  whole_ends servers zero missing told h room = enough g missing told h
  whole_ends [] (suc wanted) missing told h room = absurd (omega (arith, h, room))
  whole_ends (server ∷ more) (suc wanted) missing [] h room = omega (arith, h)
  whole_ends (server ∷ more) (suc wanted) missing (Told.Given layers ∷ told) h room =
      skip g (Told.Given layers) (λ _. refl) missing told _ (whole_ends more wanted missing told h (omega (arith, room)))
  whole_ends (server ∷ more) (suc wanted) missing (Told.Missing epoch ∷ told) h room =
      let lost : Lost = lost_at g seen server epoch in
      let e : length (missing ++ lost ∷ []) ≡ length missing + 1 = one_more lost missing in
      mark g lost missing told _
      (unless_ends (missing ++ lost ∷ []) told _ (at_most lost missing h) (λ below. whole_ends more (suc wanted) (missing ++ lost ∷ []) told below (omega (arith, room, e))))
  whole_ends (server ∷ more) (suc wanted) missing (answer ∷ told) h room = no_room g missing answer told h refl

  recovering_ends : (missing : List Lost) (told : List Told) → length missing ≤ g.parity_count → IsAt g missing told (recovering g seen missing told)
  recovering_ends missing told h =
      let servers : List ℕ = map (λ (lost : Lost). lost.server) missing in
      let left : chunk_count g ≤ length (servers_but g seen servers) + length servers = unasked g seen servers in
      let same : length servers ≡ length missing = length-map missing (λ (lost : Lost). lost.server) in
      whole_ends (servers_but g seen servers) g.data_count missing told h (omega (arith, left, same))

  repair_ends : (servers : List ℕ) (lost : Lost) (told : List Told) → 1 ≤ g.parity_count → IsAt g (lost ∷ []) told (fetching_repair g seen servers lost told)
  repair_ends [] lost told h = enough g (lost ∷ []) told h
  repair_ends (server ∷ more) lost [] h = omega (arith, h)
  repair_ends (server ∷ more) lost (Told.Given layers ∷ told) h = skip g (Told.Given layers) (λ _. refl) (lost ∷ []) told _ (repair_ends more lost told h)
  repair_ends (server ∷ more) lost (Told.Missing epoch ∷ told) h =
      let other : Lost = lost_at g seen server epoch in
      mark g other (lost ∷ []) told _ (unless_ends (lost ∷ other ∷ []) told _ (omega (arith, h)) (λ below. recovering_ends (lost ∷ other ∷ []) told below))
  repair_ends (server ∷ more) lost (answer ∷ told) h = no_room g (lost ∷ []) answer told h refl

  making_ends : (missing : List Lost) (told : List Told) → length missing ≤ g.parity_count → IsAt g missing told (making g seen missing told)
  making_ends [] told h = enough g [] told h
  making_ends (lost ∷ []) told h = repair_ends (servers_but g seen (lost.server ∷ [])) lost told h
  making_ends (lost ∷ other ∷ more) told h = recovering_ends (lost ∷ other ∷ more) told h

  looking_ends : (servers : List ℕ) (missing : List Lost) (told : List Told) → length missing ≤ g.parity_count → IsAt g missing told (looking g seen servers missing told)
  looking_ends [] missing told h = making_ends missing told h
  looking_ends (server ∷ more) missing [] h = omega (arith, h)
  looking_ends (server ∷ more) missing (Told.Here ∷ told) h = skip g Told.Here (λ _. refl) missing told _ (looking_ends more missing told h)
  looking_ends (server ∷ more) missing (Told.Missing epoch ∷ told) h =
      let lost : Lost = lost_at g seen server epoch in
      mark g lost missing told _
      (unless_ends (missing ++ lost ∷ []) told _ (at_most lost missing h) (λ below. looking_ends more (missing ++ lost ∷ []) told below))
  looking_ends (server ∷ more) missing (answer ∷ told) h = no_room g missing answer told h refl

module _ (g : Shape) (part : Part) where
  after_data_ends : (missing : List Lost) (told : List Told) → length missing ≤ g.parity_count → IsAt g missing told (after_data g part missing told)
  after_data_ends [] told h = enough g [] told h
  after_data_ends (lost ∷ more) told h = looking_ends g part.seen _ (lost ∷ more) told h

  data_ends : (servers : List ℕ) (missing : List Lost) (told : List Told) → length missing ≤ g.parity_count → IsAt g missing told (fetching_data g part servers missing told)
  data_ends [] missing told h = after_data_ends missing told h
  data_ends (server ∷ more) missing [] h = omega (arith, h)
  data_ends (server ∷ more) missing (Told.Given layers ∷ told) h = skip g (Told.Given layers) (λ _. refl) missing told _ (data_ends more missing told h)
  data_ends (server ∷ more) missing (Told.Missing epoch ∷ told) h =
      let lost : Lost = lost_at g part.seen server epoch in
      mark g lost missing told _
      (unless_ends g part.seen (missing ++ lost ∷ []) told _ (at_most g part.seen lost missing h) (λ below. data_ends more (missing ++ lost ∷ []) told below))
  data_ends (server ∷ more) missing (answer ∷ told) h = no_room g missing answer told h refl

  part_at : (told : List Told) → IsAt g [] told (gather_part g part told)
  part_at told = data_ends (chunks_in_range g part.start part.end) [] told (omega arith)

  pub part_ends : (told : List Told) → Ends g [] told (gather_part g part told)
  part_ends told = ends_at g [] told (gather_part g part told) (part_at told)

  pub part_target : (told rest : List Told) → gather_part g part told ≢ Gathering.AtTarget rest
  part_target told rest e = subst (IsAt g [] told) e (part_at told)

  pub part_away : (downs : ℕ) (told rest : List Told) → gather_part g part told ≢ Gathering.TargetAway downs rest
  part_away downs told rest e = subst (IsAt g [] told) e (part_at told)

pub chunk_ends : (g : Shape) (seen : Seen) (target : ℕ) (told : List Told) → 0 < g.parity_count → Ends g [] told (gather_chunk g seen target told)
chunk_ends g seen target [] h = omega (arith, h)
chunk_ends g seen target (Told.Here ∷ told) h = refl
chunk_ends g seen target (Told.Missing (found.Absent epoch) ∷ told) h =
    let lost : Lost = lost_at g seen target (found.Absent epoch) in
    ends_at g [] (Told.Missing (found.Absent epoch) ∷ told) _ (mark g lost [] told _ (looking_ends g seen (servers_but g seen (target ∷ [])) (lost ∷ []) told h))
chunk_ends g seen target (Told.Missing (found.Away downs) ∷ told) h = refl
chunk_ends g seen target (answer ∷ told) h = no_room g [] answer told (omega arith) refl

pub gatherings_end : GatheringsEnd
gatherings_end = record {
  part = part_ends;
  chunk = chunk_ends;
  part_apart = part_apart;
  chunk_apart = chunk_apart;
  chunk_first = λ g seen target. refl;
  part_target = part_target;
  part_away = part_away;
  part_asked = part_asked;
  chunk_asked = chunk_asked;
}

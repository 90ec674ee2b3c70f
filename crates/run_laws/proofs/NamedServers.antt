-- The servers that a gathering names as missing are those that it asked and that answered so.
use Rattle.std.proofs.Common.{◌≡◌, ℕ, zero, suc, nat_lt, List, [], ◌∷◌, ◌++◌, length, map, refl, sym, ap, subst, ◌∙◌}
use Rattle.std.proofs.lemmas.Bool.{cond_both, cond-false}
use Rattle.std.proofs.lemmas.List.{map-append, append_assoc, append-nil}
use Rattle.clay_grid.specs.Shape.{Shape}
use Rattle.store_map.specs.declared.placement.Found.{Found}
use Rattle.store_map.specs.declared.placement.Found.TheVariants as found
use Rattle.store_core.specs.Told.{Seen, Lost, Told}
use Rattle.store_core.specs.Act.{ServerStep}
use Rattle.store_core.specs.Gathering.{Gathering, Part, servers_but, lost_at, unless_too_many, fetching_whole, recovering, fetching_repair, making, looking}
use Rattle.store_core.specs.GatheringParts.{chunks_in_range, after_data, fetching_data, gather_part, gather_chunk}
use Rattle.run_laws.specs.NamedServers.{asked_next, found_missing, NamesTheAsked}

-- the servers that are marked, with their epochs
abbrev marks_of : List Lost → List (ℕ × Found)
marks_of missing = map (λ (lost : Lost). (lost.server, lost.found)) missing

module _ (gather : List Told → Gathering) where
  -- after these answers the gathering goes on so
  abbrev pub GoesOnAs : List Told → (List Told → Gathering) → Type 0
  GoesOnAs before inner = (more : List Told) → gather (before ++ more) ≡ inner more

  pub goes_on_after : (before : List Told) (inner later : List Told → Gathering) (answer : Told) → GoesOnAs before inner
      → ((more : List Told) → inner (answer ∷ more) ≡ later more) → GoesOnAs (before ++ answer ∷ []) later
  goes_on_after before inner later answer goes same more = ap gather (append_assoc before (answer ∷ []) more) ∙ goes (answer ∷ more) ∙ same more

  -- the servers that are named are those that were marked before, and those that were asked since
  record NamesSince (before : List Told) (marked : List Lost) (told rest : List Told) (missing : List Lost) : Type 0 where
    front : List Told
    told_is : told ≡ front ++ rest
    named : marks_of missing ≡ marks_of marked ++ found_missing gather before front

  abbrev Named : List Told → List Lost → List Told → Gathering → Type 0
  Named before marked told (Gathering.TooMany missing rest) = NamesSince before marked told rest missing
  Named before marked told _ = Unit {0}

  named_now : (before : List Told) (marked : List Lost) (told : List Told) → NamesSince before marked told told marked
  named_now before marked told = record { front = []; told_is = refl; named = sym (append-nil (marks_of marked)) }

  named_skip : (before : List Told) (marked : List Lost) (answer : Told) (told : List Told)
      → ((front : List Told) → found_missing gather before (answer ∷ front) ≡ found_missing gather (before ++ answer ∷ []) front) → (result : Gathering)
      → Named (before ++ answer ∷ []) marked told result → Named before marked (answer ∷ told) result
  named_skip before marked answer told same (Gathering.TooMany missing rest) h =
      record {
        front = answer ∷ h.front;
        told_is = ap (λ l. answer ∷ l) h.told_is;
        named = h.named ∙ ap (λ l. marks_of marked ++ l) (sym (same h.front));
      }
  named_skip before marked answer told same result h = tt

  named_mark : (before : List Told) (inner : List Told → Gathering) (marked : List Lost) (lost : Lost) (step : ServerStep) (told : List Told) → GoesOnAs before inner
      → inner [] ≡ Gathering.Asks lost.server step → (result : Gathering)
      → Named (before ++ Told.Missing lost.found ∷ []) (marked ++ lost ∷ []) told result → Named before marked (Told.Missing lost.found ∷ told) result
  named_mark before inner marked lost step told goes asks (Gathering.TooMany missing rest) h =
      let since : List (ℕ × Found) = found_missing gather (before ++ Told.Missing lost.found ∷ []) h.front in
      let one : asked_next (gather before) ≡ lost.server ∷ [] = ap asked_next (ap gather (sym (append-nil before)) ∙ goes [] ∙ asks) in
      record {
        front = Told.Missing lost.found ∷ h.front;
        told_is = ap (λ l. Told.Missing lost.found ∷ l) h.told_is;
        named =
            h.named
            ∙ ap (λ l. l ++ since) (map-append (λ (lost : Lost). (lost.server, lost.found)) marked (lost ∷ []))
            ∙ append_assoc (marks_of marked) ((lost.server, lost.found) ∷ []) since
            ∙ ap (λ servers. marks_of marked ++ (map (λ (server : ℕ). (server, lost.found)) servers ++ since)) (sym one);
      }
  named_mark before inner marked lost step told goes asks result h = tt

  -- ---- one more is marked, and no more asked where there are too many
  module _ (g : Shape) (seen : Seen) where
    marked_next : (before : List Told) (inner later : List Told → Gathering) (marked : List Lost) (lost : Lost) (step : ServerStep) (told : List Told) → GoesOnAs before inner
        → inner [] ≡ Gathering.Asks lost.server step
        → ((more : List Told) → inner (Told.Missing lost.found ∷ more) ≡ unless_too_many g seen (marked ++ lost ∷ []) more (later more))
        → (GoesOnAs (before ++ Told.Missing lost.found ∷ []) later → Named (before ++ Told.Missing lost.found ∷ []) (marked ++ lost ∷ []) told (later told))
        → Named before marked (Told.Missing lost.found ∷ told) (unless_too_many g seen (marked ++ lost ∷ []) told (later told))
    marked_next before inner later marked lost step told goes asks same rest =
        let all : List Lost = marked ++ lost ∷ [] in
        let after : List Told = before ++ Told.Missing lost.found ∷ [] in
        named_mark before inner marked lost step told goes asks (unless_too_many g seen all told (later told))
        (cond_both {A = Gathering} (nat_lt g.parity_count (length all)) (Gathering.TooMany all told) (later told) (Named after all told)
        (λ _. named_now after all told)
        (λ few. rest
        (goes_on_after before inner later (Told.Missing lost.found) goes
        (λ more. same more ∙ cond-false {A = Gathering} (nat_lt g.parity_count (length all)) (Gathering.TooMany all more) (later more) few))))

    -- ---- the stages
    whole_named : (servers : List ℕ) (wanted : ℕ) (marked : List Lost) (before told : List Told) → GoesOnAs before (fetching_whole g seen servers wanted marked)
        → Named before marked told (fetching_whole g seen servers wanted marked told)
    whole_named servers zero marked before told goes = tt
    whole_named [] (suc wanted) marked before told goes = named_now before marked told
    whole_named (server ∷ more) (suc wanted) marked before [] goes = tt
    whole_named (server ∷ more) (suc wanted) marked before (Told.Given layers ∷ told) goes =
        named_skip before marked (Told.Given layers) told (λ _. refl) _
        (whole_named more wanted marked (before ++ Told.Given layers ∷ []) told
        (goes_on_after before (fetching_whole g seen (server ∷ more) (suc wanted) marked) (fetching_whole g seen more wanted marked) (Told.Given layers) goes (λ _. refl)))
    whole_named (server ∷ more) (suc wanted) marked before (Told.Missing epoch ∷ told) goes =
        let lost : Lost = lost_at g seen server epoch in
        marked_next before (fetching_whole g seen (server ∷ more) (suc wanted) marked) (fetching_whole g seen more (suc wanted) (marked ++ lost ∷ [])) marked lost _ told goes refl
        (λ _. refl) (whole_named more (suc wanted) (marked ++ lost ∷ []) (before ++ Told.Missing epoch ∷ []) told)
    whole_named (server ∷ more) (suc wanted) marked before (_ ∷ told) goes = tt

    recovering_named : (marked : List Lost) (before told : List Told) → GoesOnAs before (recovering g seen marked) → Named before marked told (recovering g seen marked told)
    recovering_named marked before told goes =
        whole_named (servers_but g seen (map (λ (lost : Lost). lost.server) marked)) g.data_count marked before told goes

    repair_named : (servers : List ℕ) (lost : Lost) (before told : List Told) → GoesOnAs before (fetching_repair g seen servers lost)
        → Named before (lost ∷ []) told (fetching_repair g seen servers lost told)
    repair_named [] lost before told goes = tt
    repair_named (server ∷ more) lost before [] goes = tt
    repair_named (server ∷ more) lost before (Told.Given layers ∷ told) goes =
        named_skip before (lost ∷ []) (Told.Given layers) told (λ _. refl) _
        (repair_named more lost (before ++ Told.Given layers ∷ []) told
        (goes_on_after before (fetching_repair g seen (server ∷ more) lost) (fetching_repair g seen more lost) (Told.Given layers) goes (λ _. refl)))
    repair_named (server ∷ more) lost before (Told.Missing epoch ∷ told) goes =
        let other : Lost = lost_at g seen server epoch in
        marked_next before (fetching_repair g seen (server ∷ more) lost) (recovering g seen (lost ∷ other ∷ [])) (lost ∷ []) other _ told goes refl
        (λ _. refl) (recovering_named (lost ∷ other ∷ []) (before ++ Told.Missing epoch ∷ []) told)
    repair_named (server ∷ more) lost before (_ ∷ told) goes = tt

    making_named : (marked : List Lost) (before told : List Told) → GoesOnAs before (making g seen marked) → Named before marked told (making g seen marked told)
    making_named [] before told goes = tt
    making_named (lost ∷ []) before told goes = repair_named (servers_but g seen (lost.server ∷ [])) lost before told goes
    making_named (lost ∷ other ∷ more) before told goes = recovering_named (lost ∷ other ∷ more) before told goes

    looking_named : (servers : List ℕ) (marked : List Lost) (before told : List Told) → GoesOnAs before (looking g seen servers marked)
        → Named before marked told (looking g seen servers marked told)
    looking_named [] marked before told goes = making_named marked before told goes
    looking_named (server ∷ more) marked before [] goes = tt
    looking_named (server ∷ more) marked before (Told.Here ∷ told) goes =
        named_skip before marked Told.Here told (λ _. refl) _
        (looking_named more marked (before ++ Told.Here ∷ []) told
        (goes_on_after before (looking g seen (server ∷ more) marked) (looking g seen more marked) Told.Here goes (λ _. refl)))
    looking_named (server ∷ more) marked before (Told.Missing epoch ∷ told) goes =
        let lost : Lost = lost_at g seen server epoch in
        marked_next before (looking g seen (server ∷ more) marked) (looking g seen more (marked ++ lost ∷ [])) marked lost _ told goes refl
        (λ _. refl) (looking_named more (marked ++ lost ∷ []) (before ++ Told.Missing epoch ∷ []) told)
    looking_named (server ∷ more) marked before (_ ∷ told) goes = tt

  module _ (g : Shape) (part : Part) where
    after_named : (marked : List Lost) (before told : List Told) → GoesOnAs before (after_data g part marked) → Named before marked told (after_data g part marked told)
    after_named [] before told goes = tt
    after_named (lost ∷ more) before told goes =
        looking_named g part.seen (servers_but g part.seen (chunks_in_range g part.start part.end)) (lost ∷ more) before told goes

    data_named : (servers : List ℕ) (marked : List Lost) (before told : List Told) → GoesOnAs before (fetching_data g part servers marked)
        → Named before marked told (fetching_data g part servers marked told)
    data_named [] marked before told goes = after_named marked before told goes
    data_named (server ∷ more) marked before [] goes = tt
    data_named (server ∷ more) marked before (Told.Given layers ∷ told) goes =
        named_skip before marked (Told.Given layers) told (λ _. refl) _
        (data_named more marked (before ++ Told.Given layers ∷ []) told
        (goes_on_after before (fetching_data g part (server ∷ more) marked) (fetching_data g part more marked) (Told.Given layers) goes (λ _. refl)))
    data_named (server ∷ more) marked before (Told.Missing epoch ∷ told) goes =
        let lost : Lost = lost_at g part.seen server epoch in
        marked_next g part.seen before (fetching_data g part (server ∷ more) marked) (fetching_data g part more (marked ++ lost ∷ [])) marked lost _ told goes refl
        (λ _. refl) (data_named more (marked ++ lost ∷ []) (before ++ Told.Missing epoch ∷ []) told)
    data_named (server ∷ more) marked before (_ ∷ told) goes = tt

  names_the_asked : (told rest : List Told) (missing : List Lost) → NamesSince [] [] told rest missing → NamesTheAsked gather told rest missing
  names_the_asked told rest missing h = record { front = h.front; told_is = h.told_is; named = h.named }

-- ---- the two gatherings
part_named : (g : Shape) (part : Part) (told : List Told) → Named (gather_part g part) [] [] told (gather_part g part told)
part_named g part told = data_named (gather_part g part) g part (chunks_in_range g part.start part.end) [] [] told (λ _. refl)

chunk_named : (g : Shape) (seen : Seen) (target : ℕ) (told : List Told) → Named (gather_chunk g seen target) [] [] told (gather_chunk g seen target told)
chunk_named g seen target [] = tt
chunk_named g seen target (Told.Here ∷ told) = tt
chunk_named g seen target (Told.Missing (found.Absent epoch) ∷ told) =
    let gather : List Told → Gathering = gather_chunk g seen target in
    let lost : Lost = lost_at g seen target (found.Absent epoch) in
    named_mark gather [] gather [] lost _ told (λ _. refl) refl _
    (looking_named gather g seen (servers_but g seen (target ∷ [])) (lost ∷ []) (Told.Missing (found.Absent epoch) ∷ []) told (λ _. refl))
chunk_named g seen target (Told.Missing (found.Away downs) ∷ told) = tt
chunk_named g seen target (_ ∷ told) = tt

pub part_asked : (g : Shape) (part : Part) (told rest : List Told) (missing : List Lost) → gather_part g part told ≡ Gathering.TooMany missing rest
    → NamesTheAsked (gather_part g part) told rest missing
part_asked g part told rest missing e =
    names_the_asked (gather_part g part) told rest missing (subst (Named (gather_part g part) [] [] told) e (part_named g part told))

pub chunk_asked : (g : Shape) (seen : Seen) (target : ℕ) (told rest : List Told) (missing : List Lost) → gather_chunk g seen target told ≡ Gathering.TooMany missing rest
    → NamesTheAsked (gather_chunk g seen target) told rest missing
chunk_asked g seen target told rest missing e =
    names_the_asked (gather_chunk g seen target) told rest missing (subst (Named (gather_chunk g seen target) [] [] told) e (chunk_named g seen target told))

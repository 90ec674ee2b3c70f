-- A gathering that has its bytes was given enough to make them.
use Rattle.std.proofs.Common.{◌≡◌, ℕ, zero, suc, ◌+◌, ◌<◌, Bool, not, nat_lt, List, [], ◌∷◌, ◌++◌, length, map, filter, ◌⊎◌, inl, inr, refl, sym, ap, subst, ◌∙◌, arith}
use Rattle.std.proofs.lemmas.Bool.{cond_both, cond-false}
use Rattle.std.proofs.lemmas.List.{append-nil}
use Rattle.std.specs.List.{range_with_len}
use Rattle.clay_grid.specs.Shape.{Shape, chunk_count}
use Rattle.clay_grid.specs.Repair.{all_layers, repair_layers_of}
use Rattle.store_map.specs.declared.placement.Found.{Found}
use Rattle.store_map.specs.declared.placement.Found.TheVariants as found
use Rattle.store_core.specs.Lists.{is_among}
use Rattle.store_core.specs.Told.{Seen, Lost, Told}
use Rattle.store_core.specs.Act.{ServerStep}
use Rattle.store_core.specs.Gathering.{Gathering, Part, servers_but, lost_at, unless_too_many, fetching_whole, recovering, fetching_repair, making, looking}
use Rattle.store_core.specs.GatheringParts.{chunks_in_range, layers_for, after_data, fetching_data, gather_part, gather_chunk}
use Rattle.store_core.specs.HeldLaws.{AreAbove, IsRising}
use Rattle.run_laws.specs.GivenLaws.{question_of, steps_given, fetches, repairs, bytes_from, GivenWhole, GivenPart, IsGiven, GatheringsAreGiven}
use Rattle.run_laws.proofs.NamedServers.{GoesOnAs, goes_on_after}

abbrev Steps : Type 0
Steps = List (ℕ × ServerStep)

-- ---- a filter of a range rises
filter_above : (p : ℕ → Bool) (least a k : ℕ) → least < a → AreAbove least (filter p (range_with_len a k))
filter_above p least a zero h = tt
filter_above p least a (suc k) h =
    let rest : AreAbove least (filter p (range_with_len (a + 1) k)) = filter_above p least (a + 1) k (omega (arith, h)) in
    cond_both {A = List ℕ} (p a) (a ∷ filter p (range_with_len (a + 1) k)) (filter p (range_with_len (a + 1) k)) (AreAbove least) (λ _. (h, rest)) (λ _. rest)

filter_rises : (p : ℕ → Bool) (a k : ℕ) → IsRising (filter p (range_with_len a k))
filter_rises p a zero = tt
filter_rises p a (suc k) =
    let rest : IsRising (filter p (range_with_len (a + 1) k)) = filter_rises p (a + 1) k in
    cond_both {A = List ℕ} (p a) (a ∷ filter p (range_with_len (a + 1) k)) (filter p (range_with_len (a + 1) k)) IsRising
    (λ _. (filter_above p a (a + 1) k (omega arith), rest)) (λ _. rest)

-- ---- the first server that is marked
abbrev BeginsWith : ℕ → List Lost → Type 0
BeginsWith first [] = ⊥
BeginsWith first (lost ∷ missing) = lost.server ≡ first

begins_still : (first : ℕ) (missing : List Lost) (lost : Lost) → BeginsWith first missing → BeginsWith first (missing ++ lost ∷ [])
begins_still first [] lost h = absurd h
begins_still first (other ∷ missing) lost h = h

-- ---- what was given since
module _ (gather : List Told → Gathering) where
  record GivenSince (Enough : Steps → Type 0) (before told rest : List Told) : Type 0 where
    front : List Told
    told_is : told ≡ front ++ rest
    enough : Enough (steps_given gather before front)

  abbrev Gives : (Steps → Type 0) → List Told → List Told → Gathering → Type 0
  Gives Enough before told (Gathering.HasBytes rest) = GivenSince Enough before told rest
  Gives Enough before told _ = Unit {0}

  gives_now : (Enough : Steps → Type 0) (before told : List Told) → Enough [] → GivenSince Enough before told told
  gives_now Enough before told h = record { front = []; told_is = refl; enough = h }

  -- enough for one thing is enough for another
  gives_so : (Enough Other : Steps → Type 0) → ((given : Steps) → Enough given → Other given) → (before told : List Told) (result : Gathering)
      → Gives Enough before told result → Gives Other before told result
  gives_so Enough Other so before told (Gathering.HasBytes rest) h = record { front = h.front; told_is = h.told_is; enough = so (steps_given gather before h.front) h.enough }
  gives_so Enough Other so before told result h = tt

  gives_skip : (Enough : Steps → Type 0) (before : List Told) (answer : Told) (told : List Told)
      → ((front : List Told) → steps_given gather before (answer ∷ front) ≡ steps_given gather (before ++ answer ∷ []) front) → (result : Gathering)
      → Gives Enough (before ++ answer ∷ []) told result → Gives Enough before (answer ∷ told) result
  gives_skip Enough before answer told same (Gathering.HasBytes rest) h =
      record { front = answer ∷ h.front; told_is = ap (λ l. answer ∷ l) h.told_is; enough = subst Enough (sym (same h.front)) h.enough }
  gives_skip Enough before answer told same result h = tt

  gives_more : (Enough Other : Steps → Type 0) (before : List Told) (inner : List Told → Gathering) (server : ℕ) (step : ServerStep) (layers : ℕ) (told : List Told)
      → GoesOnAs gather before inner → inner [] ≡ Gathering.Asks server step → ((given : Steps) → Enough given → Other ((server, step) ∷ given)) → (result : Gathering)
      → Gives Enough (before ++ Told.Given layers ∷ []) told result → Gives Other before (Told.Given layers ∷ told) result
  gives_more Enough Other before inner server step layers told goes asks more (Gathering.HasBytes rest) h =
      let since : Steps = steps_given gather (before ++ Told.Given layers ∷ []) h.front in
      let one : question_of (gather before) ≡ (server, step) ∷ [] = ap question_of (ap gather (sym (append-nil before)) ∙ goes [] ∙ asks) in
      record {
        front = Told.Given layers ∷ h.front;
        told_is = ap (λ l. Told.Given layers ∷ l) h.told_is;
        enough = subst Other (ap (λ l. l ++ since) (sym one)) (more since h.enough);
      }
  gives_more Enough Other before inner server step layers told goes asks more result h = tt

  module _ (g : Shape) (seen : Seen) where
    -- a server lacks its chunk
    gives_unless : (Enough : Steps → Type 0) (before : List Told) (inner later : List Told → Gathering) (marked : List Lost) (epoch : Found) (told : List Told) → GoesOnAs gather before inner
        → ((more : List Told) → inner (Told.Missing epoch ∷ more) ≡ unless_too_many g seen marked more (later more))
        → (GoesOnAs gather (before ++ Told.Missing epoch ∷ []) later → Gives Enough (before ++ Told.Missing epoch ∷ []) told (later told))
        → Gives Enough before (Told.Missing epoch ∷ told) (unless_too_many g seen marked told (later told))
    gives_unless Enough before inner later marked epoch told goes same rest =
        let after : List Told = before ++ Told.Missing epoch ∷ [] in
        gives_skip Enough before (Told.Missing epoch) told (λ _. refl) (unless_too_many g seen marked told (later told))
        (cond_both {A = Gathering} (nat_lt g.parity_count (length marked)) (Gathering.TooMany marked told) (later told) (Gives Enough after told)
        (λ _. tt)
        (λ few. rest
        (goes_on_after gather before inner later (Told.Missing epoch) goes
        (λ more. same more ∙ cond-false {A = Gathering} (nat_lt g.parity_count (length marked)) (Gathering.TooMany marked more) (later more) few))))

    -- ---- whole chunks from some of the servers
    record Chosen (servers : List ℕ) (wanted : ℕ) (given : Steps) : Type 0 where
      chosen : List ℕ
      count : length chosen ≡ wanted
      above : (least : ℕ) → AreAbove least servers → AreAbove least chosen
      rising : IsRising servers → IsRising chosen
      given_are : given ≡ fetches seen.version (all_layers g) chosen

    chosen_more : (server : ℕ) (more : List ℕ) (wanted : ℕ) (given : Steps) → Chosen more wanted given
        → Chosen (server ∷ more) (suc wanted) ((server, ServerStep.Fetch seen.version (all_layers g)) ∷ given)
    chosen_more server more wanted given c =
        record {
          chosen = server ∷ c.chosen;
          count = ap suc c.count;
          above = λ least h. (h.0, c.above least h.1);
          rising = λ h. (c.above server h.0, c.rising h.1);
          given_are = ap (λ l. (server, ServerStep.Fetch seen.version (all_layers g)) ∷ l) c.given_are;
        }

    chosen_others : (server : ℕ) (more : List ℕ) (wanted : ℕ) (given : Steps) → Chosen more wanted given → Chosen (server ∷ more) wanted given
    chosen_others server more wanted given c =
        record { chosen = c.chosen; count = c.count; above = λ least h. c.above least h.1; rising = λ h. c.rising h.1; given_are = c.given_are }

    whole_given : (servers : List ℕ) (wanted : ℕ) (marked : List Lost) (before told : List Told) → GoesOnAs gather before (fetching_whole g seen servers wanted marked)
        → Gives (Chosen servers wanted) before told (fetching_whole g seen servers wanted marked told)
    whole_given servers zero marked before told goes =
        gives_now (Chosen servers zero) before told (record { chosen = []; count = refl; above = λ least h. tt; rising = λ h. tt; given_are = refl })
    whole_given [] (suc wanted) marked before told goes = tt
    whole_given (server ∷ more) (suc wanted) marked before [] goes = tt
    whole_given (server ∷ more) (suc wanted) marked before (Told.Given layers ∷ told) goes =
        gives_more (Chosen more wanted) (Chosen (server ∷ more) (suc wanted)) before (fetching_whole g seen (server ∷ more) (suc wanted) marked) server
        (ServerStep.Fetch seen.version (all_layers g)) layers told goes refl (chosen_more server more wanted) (fetching_whole g seen more wanted marked told)
        (whole_given more wanted marked (before ++ Told.Given layers ∷ []) told
        (goes_on_after gather before (fetching_whole g seen (server ∷ more) (suc wanted) marked) (fetching_whole g seen more wanted marked) (Told.Given layers) goes (λ _. refl)))
    whole_given (server ∷ more) (suc wanted) marked before (Told.Missing epoch ∷ told) goes =
        let all : List Lost = marked ++ lost_at g seen server epoch ∷ [] in
        gives_unless (Chosen (server ∷ more) (suc wanted)) before (fetching_whole g seen (server ∷ more) (suc wanted) marked) (fetching_whole g seen more (suc wanted) all) all epoch told goes
        (λ _. refl)
        (λ later. gives_so (Chosen more (suc wanted)) (Chosen (server ∷ more) (suc wanted)) (chosen_others server more (suc wanted)) (before ++ Told.Missing epoch ∷ []) told
        (fetching_whole g seen more (suc wanted) all told) (whole_given more (suc wanted) all (before ++ Told.Missing epoch ∷ []) told later))
    whole_given (server ∷ more) (suc wanted) marked before (_ ∷ told) goes = tt

    whole_all : (asked : List ℕ) (given : Steps) → Chosen (servers_but g seen asked) g.data_count given → GivenWhole g seen given
    whole_all asked given c =
        record {
          before = [];
          servers = c.chosen;
          rising = c.rising (filter_rises (λ server. not (is_among server asked)) 0 (chunk_count g));
          count = c.count;
          given_are = c.given_are;
        }

    recovering_given : (marked : List Lost) (before told : List Told) → GoesOnAs gather before (recovering g seen marked) → Gives (GivenWhole g seen) before told (recovering g seen marked told)
    recovering_given marked before told goes =
        let asked : List ℕ = map (λ (lost : Lost). lost.server) marked in
        gives_so (Chosen (servers_but g seen asked) g.data_count) (GivenWhole g seen) (whole_all asked) before told (recovering g seen marked told)
        (whole_given (servers_but g seen asked) g.data_count marked before told goes)

    -- ---- repair layers from all of the servers, or whole chunks in the end
    abbrev RepairFrom : ℕ → List ℕ → Steps → Type 0
    RepairFrom lost servers given = (given ≡ fetches seen.version (repair_layers_of g lost) servers) ⊎ GivenWhole g seen given

    whole_more : (step : ℕ × ServerStep) (given : Steps) → GivenWhole g seen given → GivenWhole g seen (step ∷ given)
    whole_more step given w =
        record { before = step ∷ w.before; servers = w.servers; rising = w.rising; count = w.count; given_are = ap (λ l. step ∷ l) w.given_are }

    repair_more : (lost server : ℕ) (more : List ℕ) (given : Steps) → RepairFrom lost more given
        → RepairFrom lost (server ∷ more) ((server, ServerStep.Fetch seen.version (repair_layers_of g lost)) ∷ given)
    repair_more lost server more given (inl e) = inl (ap (λ l. (server, ServerStep.Fetch seen.version (repair_layers_of g lost)) ∷ l) e)
    repair_more lost server more given (inr w) = inr (whole_more (server, ServerStep.Fetch seen.version (repair_layers_of g lost)) given w)

    repair_given : (servers : List ℕ) (lost : Lost) (before told : List Told) → GoesOnAs gather before (fetching_repair g seen servers lost)
        → Gives (RepairFrom lost.server servers) before told (fetching_repair g seen servers lost told)
    repair_given [] lost before told goes = gives_now (RepairFrom lost.server []) before told (inl refl)
    repair_given (server ∷ more) lost before [] goes = tt
    repair_given (server ∷ more) lost before (Told.Given layers ∷ told) goes =
        gives_more (RepairFrom lost.server more) (RepairFrom lost.server (server ∷ more)) before (fetching_repair g seen (server ∷ more) lost) server
        (ServerStep.Fetch seen.version (repair_layers_of g lost.server)) layers told goes refl (repair_more lost.server server more) (fetching_repair g seen more lost told)
        (repair_given more lost (before ++ Told.Given layers ∷ []) told
        (goes_on_after gather before (fetching_repair g seen (server ∷ more) lost) (fetching_repair g seen more lost) (Told.Given layers) goes (λ _. refl)))
    repair_given (server ∷ more) lost before (Told.Missing epoch ∷ told) goes =
        let all : List Lost = lost ∷ lost_at g seen server epoch ∷ [] in
        gives_unless (RepairFrom lost.server (server ∷ more)) before (fetching_repair g seen (server ∷ more) lost) (recovering g seen all) all epoch told goes
        (λ _. refl)
        (λ later. gives_so (GivenWhole g seen) (RepairFrom lost.server (server ∷ more)) (λ given w. inr w) (before ++ Told.Missing epoch ∷ []) told
        (recovering g seen all told) (recovering_given all (before ++ Told.Missing epoch ∷ []) told later))
    repair_given (server ∷ more) lost before (_ ∷ told) goes = tt

    -- ---- where some are marked
    abbrev Made : ℕ → Steps → Type 0
    Made first given = GivenWhole g seen given ⊎ (given ≡ repairs g seen first)

    repair_made : (lost : ℕ) (given : Steps) → RepairFrom lost (servers_but g seen (lost ∷ [])) given → Made lost given
    repair_made lost given (inl e) = inr e
    repair_made lost given (inr w) = inl w

    making_given : (first : ℕ) (marked : List Lost) → BeginsWith first marked → (before told : List Told) → GoesOnAs gather before (making g seen marked)
        → Gives (Made first) before told (making g seen marked told)
    making_given first [] begins before told goes = absurd begins
    making_given first (lost ∷ []) begins before told goes =
        subst (λ n. Gives (Made n) before told (fetching_repair g seen (servers_but g seen (lost.server ∷ [])) lost told)) begins
        (gives_so (RepairFrom lost.server (servers_but g seen (lost.server ∷ []))) (Made lost.server) (repair_made lost.server) before told
        (fetching_repair g seen (servers_but g seen (lost.server ∷ [])) lost told) (repair_given (servers_but g seen (lost.server ∷ [])) lost before told goes))
    making_given first (lost ∷ other ∷ more) begins before told goes =
        gives_so (GivenWhole g seen) (Made first) (λ given w. inl w) before told (recovering g seen (lost ∷ other ∷ more) told)
        (recovering_given (lost ∷ other ∷ more) before told goes)

    looking_given : (first : ℕ) (servers : List ℕ) (marked : List Lost) → BeginsWith first marked → (before told : List Told) → GoesOnAs gather before (looking g seen servers marked)
        → Gives (Made first) before told (looking g seen servers marked told)
    looking_given first [] marked begins before told goes = making_given first marked begins before told goes
    looking_given first (server ∷ more) marked begins before [] goes = tt
    looking_given first (server ∷ more) marked begins before (Told.Here ∷ told) goes =
        gives_skip (Made first) before Told.Here told (λ _. refl) (looking g seen more marked told)
        (looking_given first more marked begins (before ++ Told.Here ∷ []) told
        (goes_on_after gather before (looking g seen (server ∷ more) marked) (looking g seen more marked) Told.Here goes (λ _. refl)))
    looking_given first (server ∷ more) marked begins before (Told.Missing epoch ∷ told) goes =
        let all : List Lost = marked ++ lost_at g seen server epoch ∷ [] in
        gives_unless (Made first) before (looking g seen (server ∷ more) marked) (looking g seen more all) all epoch told goes (λ _. refl)
        (looking_given first more all (begins_still first marked (lost_at g seen server epoch) begins) (before ++ Told.Missing epoch ∷ []) told)
    looking_given first (server ∷ more) marked begins before (_ ∷ told) goes = tt

    -- ---- where more than one are marked
    abbrev AreMany : List Lost → Type 0
    AreMany [] = ⊥
    AreMany (lost ∷ []) = ⊥
    AreMany (lost ∷ other ∷ more) = Unit {0}

    many_still : (marked : List Lost) (lost : Lost) → AreMany marked → AreMany (marked ++ lost ∷ [])
    many_still [] lost h = absurd h
    many_still (first ∷ []) lost h = absurd h
    many_still (first ∷ second ∷ more) lost h = tt

    making_many : (marked : List Lost) → AreMany marked → (before told : List Told) → GoesOnAs gather before (making g seen marked)
        → Gives (GivenWhole g seen) before told (making g seen marked told)
    making_many [] many before told goes = absurd many
    making_many (lost ∷ []) many before told goes = absurd many
    making_many (lost ∷ other ∷ more) many before told goes = recovering_given (lost ∷ other ∷ more) before told goes

    looking_many : (servers : List ℕ) (marked : List Lost) → AreMany marked → (before told : List Told) → GoesOnAs gather before (looking g seen servers marked)
        → Gives (GivenWhole g seen) before told (looking g seen servers marked told)
    looking_many [] marked many before told goes = making_many marked many before told goes
    looking_many (server ∷ more) marked many before [] goes = tt
    looking_many (server ∷ more) marked many before (Told.Here ∷ told) goes =
        gives_skip (GivenWhole g seen) before Told.Here told (λ _. refl) (looking g seen more marked told)
        (looking_many more marked many (before ++ Told.Here ∷ []) told
        (goes_on_after gather before (looking g seen (server ∷ more) marked) (looking g seen more marked) Told.Here goes (λ _. refl)))
    looking_many (server ∷ more) marked many before (Told.Missing epoch ∷ told) goes =
        let all : List Lost = marked ++ lost_at g seen server epoch ∷ [] in
        gives_unless (GivenWhole g seen) before (looking g seen (server ∷ more) marked) (looking g seen more all) all epoch told goes (λ _. refl)
        (looking_many more all (many_still marked (lost_at g seen server epoch) many) (before ++ Told.Missing epoch ∷ []) told)
    looking_many (server ∷ more) marked many before (_ ∷ told) goes = tt

  -- ---- the bytes of a part
  module _ (g : Shape) (part : Part) where
    abbrev Whole : Steps → Type 0
    Whole given = GivenWhole g part.seen given

    -- by the servers that are marked: none, one, or more
    abbrev DataFrom : List ℕ → List Lost → Steps → Type 0
    DataFrom servers [] given = GivenPart g part servers given
    DataFrom servers (lost ∷ []) given = Whole given ⊎ (given ≡ bytes_from g part servers ++ repairs g part.seen lost.server)
    DataFrom servers (lost ∷ other ∷ more) given = Whole given

    abbrev fetch : ℕ → ℕ × ServerStep
    fetch server = (server, ServerStep.Fetch part.seen.version (layers_for g part.start part.end server))

    part_more : (server : ℕ) (more : List ℕ) (given : Steps) → GivenPart g part more given → GivenPart g part (server ∷ more) (fetch server ∷ given)
    part_more server more given (inl e) = inl (ap (λ l. fetch server ∷ l) e)
    part_more server more given (inr (inl w)) = inr (inl (whole_more g part.seen (fetch server) given w))
    part_more server more given (inr (inr b)) =
        inr
        (inr (record {
          front = server ∷ b.front;
          lost = b.lost;
          back = b.back;
          chunks_are = ap (λ l. server ∷ l) b.chunks_are;
          given_are = ap (λ l. fetch server ∷ l) b.given_are;
        }))

    one_more : (server : ℕ) (more : List ℕ) (lost : ℕ) (given : Steps) → Whole given ⊎ (given ≡ bytes_from g part more ++ repairs g part.seen lost)
        → Whole (fetch server ∷ given) ⊎ ((fetch server ∷ given) ≡ bytes_from g part (server ∷ more) ++ repairs g part.seen lost)
    one_more server more lost given (inl w) = inl (whole_more g part.seen (fetch server) given w)
    one_more server more lost given (inr e) = inr (ap (λ l. fetch server ∷ l) e)

    data_more : (server : ℕ) (more : List ℕ) (marked : List Lost) (given : Steps) → DataFrom more marked given → DataFrom (server ∷ more) marked (fetch server ∷ given)
    data_more server more [] given h = part_more server more given h
    data_more server more (lost ∷ []) given h = one_more server more lost.server given h
    data_more server more (lost ∷ other ∷ marked) given h = whole_more g part.seen (fetch server) given h

    first_marked : (server : ℕ) (more : List ℕ) (given : Steps) → Whole given ⊎ (given ≡ bytes_from g part more ++ repairs g part.seen server) → GivenPart g part (server ∷ more) given
    first_marked server more given (inl w) = inr (inl w)
    first_marked server more given (inr e) = inr (inr (record { front = []; lost = server; back = more; chunks_are = refl; given_are = e }))

    data_marked : (server : ℕ) (more : List ℕ) (marked : List Lost) (epoch : Found) (given : Steps)
        → DataFrom more (marked ++ lost_at g part.seen server epoch ∷ []) given → DataFrom (server ∷ more) marked given
    data_marked server more [] epoch given h = first_marked server more given h
    data_marked server more (lost ∷ []) epoch given h = inl h
    data_marked server more (lost ∷ other ∷ marked) epoch given h = h

    after_given : (marked : List Lost) (before told : List Told) → GoesOnAs gather before (after_data g part marked) → Gives (DataFrom [] marked) before told (after_data g part marked told)
    after_given [] before told goes = gives_now (DataFrom [] []) before told (inl refl)
    after_given (lost ∷ []) before told goes =
        looking_given g part.seen lost.server (servers_but g part.seen (chunks_in_range g part.start part.end)) (lost ∷ []) refl before told goes
    after_given (lost ∷ other ∷ more) before told goes =
        looking_many g part.seen (servers_but g part.seen (chunks_in_range g part.start part.end)) (lost ∷ other ∷ more) tt before told goes

    data_given : (servers : List ℕ) (marked : List Lost) (before told : List Told) → GoesOnAs gather before (fetching_data g part servers marked)
        → Gives (DataFrom servers marked) before told (fetching_data g part servers marked told)
    data_given [] marked before told goes = after_given marked before told goes
    data_given (server ∷ more) marked before [] goes = tt
    data_given (server ∷ more) marked before (Told.Given layers ∷ told) goes =
        gives_more (DataFrom more marked) (DataFrom (server ∷ more) marked) before (fetching_data g part (server ∷ more) marked) server
        (ServerStep.Fetch part.seen.version (layers_for g part.start part.end server)) layers told goes refl (data_more server more marked) (fetching_data g part more marked told)
        (data_given more marked (before ++ Told.Given layers ∷ []) told
        (goes_on_after gather before (fetching_data g part (server ∷ more) marked) (fetching_data g part more marked) (Told.Given layers) goes (λ _. refl)))
    data_given (server ∷ more) marked before (Told.Missing epoch ∷ told) goes =
        let lost : Lost = lost_at g part.seen server epoch in
        let all : List Lost = marked ++ lost ∷ [] in
        gives_unless g part.seen (DataFrom (server ∷ more) marked) before (fetching_data g part (server ∷ more) marked) (fetching_data g part more all) all epoch told goes (λ _. refl)
        (λ later. gives_so (DataFrom more all) (DataFrom (server ∷ more) marked) (data_marked server more marked epoch) (before ++ Told.Missing epoch ∷ []) told
        (fetching_data g part more all told) (data_given more all (before ++ Told.Missing epoch ∷ []) told later))
    data_given (server ∷ more) marked before (_ ∷ told) goes = tt

-- ---- the two gatherings
part_given : (g : Shape) (part : Part) (told : List Told)
    → Gives (gather_part g part) (DataFrom (gather_part g part) g part (chunks_in_range g part.start part.end) []) [] told (gather_part g part told)
part_given g part told = data_given (gather_part g part) g part (chunks_in_range g part.start part.end) [] [] told (λ _. refl)

chunk_given : (g : Shape) (seen : Seen) (target : ℕ) (told : List Told) → Gives (gather_chunk g seen target) (Made (gather_chunk g seen target) g seen target) [] told (gather_chunk g seen target told)
chunk_given g seen target [] = tt
chunk_given g seen target (Told.Here ∷ told) = tt
chunk_given g seen target (Told.Missing (found.Absent epoch) ∷ told) =
    let gather : List Told → Gathering = gather_chunk g seen target in
    gives_skip gather (Made gather g seen target) [] (Told.Missing (found.Absent epoch)) told (λ _. refl) (gather_chunk g seen target (Told.Missing (found.Absent epoch) ∷ told))
    (looking_given gather g seen target (servers_but g seen (target ∷ [])) (lost_at g seen target (found.Absent epoch) ∷ []) refl (Told.Missing (found.Absent epoch) ∷ []) told (λ _. refl))
chunk_given g seen target (Told.Missing (found.Away downs) ∷ told) = tt
chunk_given g seen target (_ ∷ told) = tt

part_is_given : (g : Shape) (part : Part) (told rest : List Told) → GivenSince (gather_part g part) (GivenPart g part (chunks_in_range g part.start part.end)) [] told rest
    → IsGiven (gather_part g part) (GivenPart g part (chunks_in_range g part.start part.end)) told rest
part_is_given g part told rest h = record { front = h.front; told_is = h.told_is; enough = h.enough }

chunk_is_given : (g : Shape) (seen : Seen) (target : ℕ) (told rest : List Told) → GivenSince (gather_chunk g seen target) (Made (gather_chunk g seen target) g seen target) [] told rest
    → IsGiven (gather_chunk g seen target) (λ given. GivenWhole g seen given ⊎ (given ≡ repairs g seen target)) told rest
chunk_is_given g seen target told rest h = record { front = h.front; told_is = h.told_is; enough = h.enough }

pub gatherings_are_given : GatheringsAreGiven
gatherings_are_given =
    record {
      part = λ g part told rest e.
          part_is_given g part told rest
          (subst (Gives (gather_part g part) (DataFrom (gather_part g part) g part (chunks_in_range g part.start part.end) []) [] told) e (part_given g part told));
      chunk = λ g seen target told rest e.
          chunk_is_given g seen target told rest
          (subst (Gives (gather_chunk g seen target) (Made (gather_chunk g seen target) g seen target) [] told) e (chunk_given g seen target told));
    }

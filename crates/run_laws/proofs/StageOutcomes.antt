-- What a call comes to, stage by stage, where each answer fits the step that it makes then: an outcome of its kind, and no want of memory.
use Rattle.std.proofs.Common.{◌≢◌, ℕ, zero, suc, ◌+◌, ◌/◌, Bool, true, false, cond, nat_lt, List, [], ◌∷◌, ◌++◌, length, map, ◌⊎◌, inl, inr, refl, subst}
use Rattle.std.proofs.lemmas.Bool.{cond_both}
use Rattle.std.specs.List.{range_with_len}
use Rattle.clay_grid.specs.Shape.{Shape, chunk_count, stripe_length}
use Rattle.store_map.specs.declared.placement.Found.TheVariants as found
use Rattle.store_map.specs.declared.placement.Placement.{Placement}
use Rattle.store_core.specs.Lists.{places_of}
use Rattle.store_core.specs.Told.{Told, Seen, Lost}
use Rattle.store_core.specs.Placements.{skipped_from, skipped_count}
use Rattle.store_core.specs.Note.{Note, Kind}
use Rattle.store_core.specs.Act.{Act, DirectoryStep, Outcome}
use Rattle.run_laws.specs.Answers.{Answers}
use Rattle.run_laws.specs.AnswersByKind.{MayPin, MayWrite, FitsKind}
use Rattle.store_core.specs.Gathering.{Gathering, Part, servers_but, lost_at, fetching_whole, recovering, fetching_repair, making, looking}
use Rattle.store_core.specs.GatheringParts.{chunks_in_range, after_data, fetching_data, gather_part, gather_chunk, ending, act_of, gathering}
use Rattle.store_core.specs.Put.{settling, committed, committing, preparing, preparing_all, drawing, next_put}
use Rattle.store_core.specs.Read.{parts_of, next_read, next_single}
use Rattle.store_core.specs.Write.{old_parts, trying}
use Rattle.store_core.specs.Rebuild.{placing, installing, confirming, rebuilding, next_rebuild}
use Rattle.store_core.specs.NextAct.{Job, next_by}
use Rattle.run_laws.specs.OutcomeLaws.{MayBeServed, MayBeReaped, IsOutcomeOf}

module _ (kind : Kind) (pins touched : ℕ) where
  -- an answer to an act that is kept beside those before it, and no want of memory
  abbrev pub Fits : Act → Told → Type 0
  Fits act Told.Short = ⊥ × Unit {0}
  Fits act (Told.Done point) = ⊥ × Unit {0}
  Fits act (Told.Changed base newer) = ⊥ × Unit {0}
  Fits act answer = Answers pins touched act answer × FitsKind kind answer

  module _ (Free : Type 0) where
    -- each answer fits the act before it, unless anything goes
    abbrev pub FitAll : (List Told → Act) → List Told → Type 0
    FitAll next [] = Unit {0}
    FitAll next (answer ∷ told) = (Free ⊎ Fits (next []) answer) × FitAll (λ later. next (answer ∷ later)) told

    -- an outcome of this kind; want of memory only where anything goes
    abbrev pub IsFine : Outcome → Type 0
    IsFine Outcome.NoMemory = Free
    IsFine outcome = IsOutcomeOf kind outcome

    abbrev pub ActIsFine : Act → Type 0
    ActIsFine (Act.Finish outcome) = IsFine outcome
    ActIsFine act = Unit {0}

    abbrev pub Holds : (List Told → Act) → Type 0
    Holds next = (told : List Told) → FitAll next told → ActIsFine (next told)

    -- an answer that doesn't fit came where anything goes
    misfit : {X : Type 0} → Free ⊎ (⊥ × X) → Free
    misfit (inl free) = free
    misfit (inr h) = absurd h.0

    -- so did one that fits no call of this kind
    wrong_kind : {X Y : Type 0} → (Y → ⊥) → Free ⊎ (X × Y) → Free
    wrong_kind never (inl free) = free
    wrong_kind never (inr h) = absurd (never h.1)

    -- ---- a stat and a delete
    single_holds : kind ≢ Kind.Rebuild → (MayPin kind → ⊥) → (MayWrite kind → ⊥) → (note : Note) → Holds (next_single note)
    single_holds client no_pin no_write note [] h = tt
    single_holds client no_pin no_write note (Told.Answer point answer ∷ told) h = client
    single_holds client no_pin no_write note (Told.Pinned point length_now stripes ∷ told) h = wrong_kind no_pin h.0
    single_holds client no_pin no_write note (Told.Ready base length_now stripes ∷ told) h = wrong_kind no_write h.0
    single_holds client no_pin no_write note (_ ∷ told) h = misfit h.0

    module _ (pass : MayBeReaped kind) where
      ending_holds : (outcome : Outcome) → IsFine outcome → Holds (ending outcome)
      ending_holds outcome fine [] h = tt
      ending_holds outcome fine (Told.Ended ∷ told) h = fine
      ending_holds outcome fine (Told.Reaped point ∷ told) h = pass
      ending_holds outcome fine (_ ∷ told) h = ending_holds Outcome.NoMemory (misfit h.0) told h.1

      -- ---- a call that writes
      module _ (client : kind ≢ Kind.Rebuild) (g : Shape) where
        pub settling_fine : (point : ℕ) (places : List (ℕ × ℕ)) (told : List Told) → ActIsFine (settling point places told)
        settling_fine point [] told = client
        settling_fine point (place ∷ places) [] = tt
        settling_fine point (place ∷ places) (_ ∷ told) = settling_fine point places told

        pub committed_fine : Free → (versions : List ℕ) (told : List Told) → ActIsFine (committed g versions told)
        committed_fine free versions (Told.Done point ∷ told) = settling_fine point (places_of (chunk_count g) versions) told
        committed_fine free versions [] = free
        committed_fine free versions (_ ∷ told) = free

        committing_holds : (placed : List (List Placement)) → Holds (committing placed)
        committing_holds placed [] h = tt
        committing_holds placed (Told.Reaped point ∷ told) h = pass
        committing_holds placed (_ ∷ told) h = ending_holds Outcome.NoMemory (misfit h.0) told h.1

        unless_fewer_holds : (b : Bool) (outcome : Outcome) → IsFine outcome → (otherwise : List Told → Act) → Holds otherwise → Holds (λ told. cond b (ending outcome told) (otherwise told))
        unless_fewer_holds true outcome fine otherwise rest told h = ending_holds outcome fine told h
        unless_fewer_holds false outcome fine otherwise rest told h = rest told h

        preparing_holds : (stripe version : ℕ) (next : List Placement → List Told → Act) → ((row : List Placement) → Holds (next row)) → (servers : List ℕ) (row : List Placement)
            → Holds (preparing g stripe version next servers row)
        preparing_holds stripe version next since [] row told h = since row told h
        preparing_holds stripe version next since (server ∷ servers) row [] h = tt
        preparing_holds stripe version next since (server ∷ servers) row (Told.Prepared last ∷ told) h =
            let now : List Placement = row ++ last ∷ [] in
            unless_fewer_holds (nat_lt g.parity_count (skipped_count now)) (Outcome.Unavailable stripe (skipped_from 0 now)) pass
            (preparing g stripe version next servers now) (preparing_holds stripe version next since servers now) told h.1
        preparing_holds stripe version next since (server ∷ servers) row (_ ∷ told) h = ending_holds Outcome.NoMemory (misfit h.0) told h.1

        preparing_all_holds : (stripe : ℕ) (versions : List ℕ) (placed : List (List Placement)) → Holds (preparing_all g stripe versions placed)
        preparing_all_holds stripe [] placed told h = committing_holds placed told h
        preparing_all_holds stripe (version ∷ versions) placed told h =
            preparing_holds stripe version (λ row. preparing_all g (stripe + 1) versions (placed ++ row ∷ [])) (λ row. preparing_all_holds (stripe + 1) versions (placed ++ row ∷ []))
            (range_with_len 0 (chunk_count g)) [] told h

        pub drawing_holds : (note : Note) → Holds (drawing g note)
        drawing_holds note [] h = tt
        drawing_holds note (Told.Versions versions ∷ told) h = preparing_all_holds (note.offset / stripe_length g) versions [] told h.1
        drawing_holds note (Told.Reaped point ∷ told) h = pass
        drawing_holds note (_ ∷ told) h = ending_holds Outcome.NoMemory (misfit h.0) told h.1

      -- ---- one gathering, and what follows where the bytes are there
      module _ (gathers : MayBeReaped kind) (g : Shape) where
        module _ (stripe : ℕ) (next : List Told → Act) (since : Holds next) where
          abbrev HoldsOf : (List Told → Gathering) → Type 0
          HoldsOf gather = Holds (λ told. act_of stripe next (gather told))

          too_many : (missing : List Lost) → Holds (ending (Outcome.Unavailable stripe missing))
          too_many missing = ending_holds (Outcome.Unavailable stripe missing) gathers

          unless_holds : (b : Bool) (missing : List Lost) (otherwise : List Told → Gathering) → HoldsOf otherwise
              → HoldsOf (λ told. cond b (Gathering.TooMany missing told) (otherwise told))
          unless_holds true missing otherwise rest told h = too_many missing told h
          unless_holds false missing otherwise rest told h = rest told h

          module _ (seen : Seen) where
            whole_holds : (servers : List ℕ) (wanted : ℕ) (missing : List Lost) → HoldsOf (fetching_whole g seen servers wanted missing)
            whole_holds servers zero missing told h = since told h
            whole_holds [] (suc wanted) missing told h = too_many missing told h
            whole_holds (server ∷ more) (suc wanted) missing [] h = tt
            whole_holds (server ∷ more) (suc wanted) missing (Told.Given layers ∷ told) h = whole_holds more wanted missing told h.1
            whole_holds (server ∷ more) (suc wanted) missing (Told.Missing epoch ∷ told) h =
                let marked : List Lost = missing ++ lost_at g seen server epoch ∷ [] in
                unless_holds (nat_lt g.parity_count (length marked)) marked (fetching_whole g seen more (suc wanted) marked) (whole_holds more (suc wanted) marked) told h.1
            whole_holds (server ∷ more) (suc wanted) missing (_ ∷ told) h = ending_holds Outcome.NoMemory (misfit h.0) told h.1

            recovering_holds : (missing : List Lost) → HoldsOf (recovering g seen missing)
            recovering_holds missing = whole_holds (servers_but g seen (map (λ (lost : Lost). lost.server) missing)) g.data_count missing

            repair_holds : (servers : List ℕ) (lost : Lost) → HoldsOf (fetching_repair g seen servers lost)
            repair_holds [] lost told h = since told h
            repair_holds (server ∷ more) lost [] h = tt
            repair_holds (server ∷ more) lost (Told.Given layers ∷ told) h = repair_holds more lost told h.1
            repair_holds (server ∷ more) lost (Told.Missing epoch ∷ told) h =
                let marked : List Lost = lost ∷ lost_at g seen server epoch ∷ [] in
                unless_holds (nat_lt g.parity_count (length marked)) marked (recovering g seen marked) (recovering_holds marked) told h.1
            repair_holds (server ∷ more) lost (_ ∷ told) h = ending_holds Outcome.NoMemory (misfit h.0) told h.1

            making_holds : (missing : List Lost) → HoldsOf (making g seen missing)
            making_holds [] told h = since told h
            making_holds (lost ∷ []) told h = repair_holds (servers_but g seen (lost.server ∷ [])) lost told h
            making_holds (lost ∷ other ∷ more) told h = recovering_holds (lost ∷ other ∷ more) told h

            looking_holds : (servers : List ℕ) (missing : List Lost) → HoldsOf (looking g seen servers missing)
            looking_holds [] missing told h = making_holds missing told h
            looking_holds (server ∷ more) missing [] h = tt
            looking_holds (server ∷ more) missing (Told.Here ∷ told) h = looking_holds more missing told h.1
            looking_holds (server ∷ more) missing (Told.Missing epoch ∷ told) h =
                let marked : List Lost = missing ++ lost_at g seen server epoch ∷ [] in
                unless_holds (nat_lt g.parity_count (length marked)) marked (looking g seen more marked) (looking_holds more marked) told h.1
            looking_holds (server ∷ more) missing (_ ∷ told) h = ending_holds Outcome.NoMemory (misfit h.0) told h.1

          module _ (part : Part) where
            after_holds : (missing : List Lost) → HoldsOf (after_data g part missing)
            after_holds [] told h = since told h
            after_holds (lost ∷ more) told h = looking_holds part.seen (servers_but g part.seen (chunks_in_range g part.start part.end)) (lost ∷ more) told h

            data_holds : (servers : List ℕ) (missing : List Lost) → HoldsOf (fetching_data g part servers missing)
            data_holds [] missing told h = after_holds missing told h
            data_holds (server ∷ more) missing [] h = tt
            data_holds (server ∷ more) missing (Told.Given layers ∷ told) h = data_holds more missing told h.1
            data_holds (server ∷ more) missing (Told.Missing epoch ∷ told) h =
                let marked : List Lost = missing ++ lost_at g part.seen server epoch ∷ [] in
                unless_holds (nat_lt g.parity_count (length marked)) marked (fetching_data g part more marked) (data_holds more marked) told h.1
            data_holds (server ∷ more) missing (_ ∷ told) h = ending_holds Outcome.NoMemory (misfit h.0) told h.1

            part_holds : HoldsOf (gather_part g part)
            part_holds = data_holds (chunks_in_range g part.start part.end) []

          chunk_holds : IsFine Outcome.Here → ((downs : ℕ) → IsFine (Outcome.Away downs)) → (seen : Seen) (target : ℕ) → HoldsOf (gather_chunk g seen target)
          chunk_holds here away seen target [] h = tt
          chunk_holds here away seen target (Told.Here ∷ told) h = ending_holds Outcome.Here here told h.1
          chunk_holds here away seen target (Told.Missing (found.Absent epoch) ∷ told) h =
              looking_holds seen (servers_but g seen (target ∷ [])) (lost_at g seen target (found.Absent epoch) ∷ []) told h.1
          chunk_holds here away seen target (Told.Missing (found.Away downs) ∷ told) h = ending_holds (Outcome.Away downs) (away downs) told h.1
          chunk_holds here away seen target (_ ∷ told) h = ending_holds Outcome.NoMemory (misfit h.0) told h.1

        gathering_holds : (parts : List Part) (next : List Told → Act) → Holds next → Holds (gathering g parts next)
        gathering_holds [] next since told h = since told h
        gathering_holds (part ∷ parts) next since (Told.Gathered ∷ told) h = gathering_holds parts next since told h.1
        gathering_holds (part ∷ parts) next since told h = part_holds part.seen.stripe (gathering g parts next) (gathering_holds parts next since) part told h

-- ---- the calls
abbrev pub IsClient : Kind → Type 0
IsClient Kind.Rebuild = ⊥
IsClient _ = Unit {0}

pub no_rebuild : (kind : Kind) → IsClient kind → kind ≢ Kind.Rebuild
no_rebuild kind client e = subst IsClient e client

abbrev pub IsNoWrite : Kind → Type 0
IsNoWrite Kind.Write = ⊥
IsNoWrite _ = Unit {0}

pub no_write : (kind : Kind) → IsNoWrite kind → kind ≢ Kind.Write
no_write kind other e = subst IsNoWrite e other

module _ (pins touched : ℕ) (Free : Type 0) (g : Shape) where
  put_holds : (note : Note) → Holds Kind.Put pins touched Free (next_put g note)
  put_holds note [] h = tt
  put_holds note (Told.Answer point answer ∷ told) h = no_rebuild Kind.Put tt
  put_holds note (Told.Ready base length_now stripes ∷ told) h = drawing_holds Kind.Put pins touched Free tt (no_rebuild Kind.Put tt) g note told h.1
  put_holds note (Told.Versions versions ∷ told) h =
      committed_fine Kind.Put pins touched Free tt (no_rebuild Kind.Put tt) g (misfit Kind.Put pins touched Free h.0) versions told
  put_holds note (Told.Pinned point length_now stripes ∷ told) h = wrong_kind Kind.Put pins touched Free (λ never. never) h.0
  put_holds note (_ ∷ told) h = misfit Kind.Put pins touched Free h.0

  read_holds : (kind : Kind) → MayBeServed kind → IsClient kind → MayBeReaped kind → MayBeReaped kind → (MayWrite kind → ⊥) → (note : Note) → Holds kind pins touched Free (next_read g note)
  read_holds kind reads client pass gathers no_write note [] h = tt
  read_holds kind reads client pass gathers no_write note (Told.Answer point answer ∷ told) h = no_rebuild kind client
  read_holds kind reads client pass gathers no_write note (Told.Pinned point length_now stripes ∷ told) h =
      gathering_holds kind pins touched Free pass gathers g (parts_of g note length_now stripes) (ending (Outcome.Served point))
      (ending_holds kind pins touched Free pass (Outcome.Served point) reads) told h.1
  read_holds kind reads client pass gathers no_write note (Told.Ready base length_now stripes ∷ told) h = wrong_kind kind pins touched Free no_write h.0
  read_holds kind reads client pass gathers no_write note (_ ∷ told) h = misfit kind pins touched Free h.0

  -- ---- a write, which looks only where it has a try left
  module _ (tries : ℕ) (note : Note) where
    no_finish : (outcome : Outcome) (answer : Told) → Fits Kind.Write pins touched (Act.Finish outcome) answer → ⊥
    no_finish outcome Told.Short h = h.0
    no_finish outcome answer h = h.0

    looked : (b : Bool) (outcome : Outcome) (answer : Told) → Free ⊎ Fits Kind.Write pins touched (cond b (Act.AtDirectory (DirectoryStep.Look note)) (Act.Finish outcome)) answer
        → Free ⊎ Fits Kind.Write pins touched (Act.AtDirectory (DirectoryStep.Look note)) answer
    looked true outcome answer h = h
    looked false outcome answer (inl free) = inl free
    looked false outcome answer (inr h) = absurd (no_finish outcome answer h)

    pub trying_holds : (pairs : List (ℕ × ℕ)) → Holds Kind.Write pins touched Free (trying g tries note pairs)
    trying_holds pairs [] h =
        cond_both {A = Act} (nat_lt (length pairs) tries) (Act.AtDirectory (DirectoryStep.Look note)) (Act.Finish (Outcome.Contended pairs))
        (ActIsFine Kind.Write pins touched Free) (λ _. tt) (λ _. refl)
    trying_holds pairs (Told.Changed base newer ∷ told) h = trying_holds (pairs ++ (base, newer) ∷ []) told h.1
    trying_holds pairs (Told.Answer point answer ∷ told) h = no_rebuild Kind.Write tt
    trying_holds pairs (Told.Ready base length_now stripes ∷ told) h =
        gathering_holds Kind.Write pins touched Free tt tt g (old_parts g length_now stripes) (drawing g note)
        (drawing_holds Kind.Write pins touched Free tt (no_rebuild Kind.Write tt) g note) told h.1
    trying_holds pairs (Told.Versions versions ∷ told) h =
        committed_fine Kind.Write pins touched Free tt (no_rebuild Kind.Write tt) g
        (misfit Kind.Write pins touched Free (looked (nat_lt (length pairs) tries) (Outcome.Contended pairs) (Told.Versions versions) h.0)) versions told
    trying_holds pairs (Told.Pinned point length_now stripes ∷ told) h =
        wrong_kind Kind.Write pins touched Free (λ never. never)
        (looked (nat_lt (length pairs) tries) (Outcome.Contended pairs) (Told.Pinned point length_now stripes) h.0)
    trying_holds pairs (answer ∷ told) h = misfit Kind.Write pins touched Free (looked (nat_lt (length pairs) tries) (Outcome.Contended pairs) answer h.0)

  -- ---- a rebuild
  abbrev RebuildHolds : (List Told → Act) → Type 0
  RebuildHolds next = Holds Kind.Rebuild pins touched Free next

  rebuild_ends : (outcome : Outcome) → IsFine Kind.Rebuild pins touched Free outcome → RebuildHolds (ending outcome)
  rebuild_ends = ending_holds Kind.Rebuild pins touched Free tt

  unfit : {X : Type 0} → Free ⊎ (⊥ × X) → Free
  unfit = misfit Kind.Rebuild pins touched Free

  placing_holds : (target epoch : ℕ) → RebuildHolds (placing target epoch)
  placing_holds target epoch [] h = tt
  placing_holds target epoch (Told.Ended ∷ told) h = refl
  placing_holds target epoch (Told.Reaped point ∷ told) h = tt
  placing_holds target epoch (_ ∷ told) h = rebuild_ends Outcome.NoMemory (unfit h.0) told h.1

  installing_holds : (seen : Seen) (target : ℕ) → RebuildHolds (installing seen target)
  installing_holds seen target [] h = tt
  installing_holds seen target (Told.Placed epoch ∷ told) h = placing_holds target epoch told h.1
  installing_holds seen target (Told.AlreadyThere ∷ told) h = rebuild_ends Outcome.Here refl told h.1
  installing_holds seen target (Told.Away downs ∷ told) h = rebuild_ends (Outcome.Away downs) refl told h.1
  installing_holds seen target (_ ∷ told) h = rebuild_ends Outcome.NoMemory (unfit h.0) told h.1

  confirming_holds : (seen : Seen) (target : ℕ) → RebuildHolds (confirming seen target)
  confirming_holds seen target [] h = tt
  confirming_holds seen target (Told.Current ∷ told) h = installing_holds seen target told h.1
  confirming_holds seen target (Told.Superseded newer ∷ told) h = refl
  confirming_holds seen target (Told.Reaped point ∷ told) h = tt
  confirming_holds seen target (_ ∷ told) h = rebuild_ends Outcome.NoMemory (unfit h.0) told h.1

  rebuilding_holds : (seen : Seen) (target : ℕ) → RebuildHolds (rebuilding g seen target)
  rebuilding_holds seen target (Told.Gathered ∷ told) h = confirming_holds seen target told h.1
  rebuilding_holds seen target told h =
      chunk_holds Kind.Rebuild pins touched Free tt tt g seen.stripe (confirming seen target) (confirming_holds seen target) refl (λ downs. refl) seen target told h

  rebuild_holds : (note : Note) (target : ℕ) → RebuildHolds (next_rebuild g note target)
  rebuild_holds note target [] h = tt
  rebuild_holds note target (Told.NoSuch ∷ told) h = refl
  rebuild_holds note target (Told.PinnedStripe seen ∷ told) h = rebuilding_holds seen target told h.1
  rebuild_holds note target (_ ∷ told) h = unfit h.0

  -- a call of any kind, from its first step on
  pub call_holds : (kind : Kind) (tries : ℕ) (job : Job) → Holds kind pins touched Free (next_by kind g tries job)
  call_holds Kind.Put tries job told h = put_holds job.note told h
  call_holds Kind.Write tries job told h = trying_holds tries job.note [] told h
  call_holds Kind.Get tries job told h = read_holds Kind.Get tt tt tt tt (λ never. never) job.note told h
  call_holds Kind.ReadAt tries job told h = read_holds Kind.ReadAt tt tt tt tt (λ never. never) job.note told h
  call_holds Kind.Stat tries job told h =
      single_holds Kind.Stat pins touched Free (no_rebuild Kind.Stat tt) (λ never. never) (λ never. never) job.note told h
  call_holds Kind.Delete tries job told h =
      single_holds Kind.Delete pins touched Free (no_rebuild Kind.Delete tt) (λ never. never) (λ never. never) job.note told h
  call_holds Kind.Rebuild tries job told h = rebuild_holds job.note job.target told h

-- where anything goes, any answers do
pub all_free : (kind : Kind) (pins touched : ℕ) (next : List Told → Act) (told : List Told) → FitAll kind pins touched (Unit {0}) next told
all_free kind pins touched next [] = tt
all_free kind pins touched next (answer ∷ told) = (inl tt, all_free kind pins touched (λ later. next (answer ∷ later)) told)

-- one answer more
pub one_more_fits : (kind : Kind) (pins touched : ℕ) (next : List Told → Act) (told : List Told) (answer : Told) → FitAll kind pins touched ⊥ next told
    → Fits kind pins touched (next told) answer → FitAll kind pins touched ⊥ next (told ++ answer ∷ [])
one_more_fits kind pins touched next [] answer all fits = (inr fits, tt)
one_more_fits kind pins touched next (first ∷ told) answer all fits =
    (all.0, one_more_fits kind pins touched (λ later. next (first ∷ later)) told answer all.1 fits)

-- Answers that stand together in a list: those of a gathering that found too many servers without their chunk.
use Rattle.std.proofs.Common.{◌≡◌, ℕ, ◌<◌, Bool, true, false, List, [], ◌∷◌, ◌++◌, map, fold, ◌⊎◌, inl, inr, refl, sym, ap, subst, ◌∙◌}
use Rattle.std.proofs.lemmas.List.{append_assoc, append-nil}
use Rattle.std.specs.List.{flat_map}
use Rattle.store_map.specs.declared.placement.Placement.{Placement}
use Rattle.clay_grid.specs.Shape.{Shape}
use Rattle.store_core.specs.Told.{Told, Seen, Lost}
use Rattle.store_core.specs.Gathering.{Gathering, Part}
use Rattle.store_core.specs.GatheringParts.{chunks_in_range, fetching_data, gather_part, gather_chunk}
use Rattle.run_laws.specs.GatherLaws.{Tells}
use Rattle.store_core.specs.Tell.{tell}
use Rattle.run_laws.specs.Losses.{PartIsLost, IsLost}
use Rattle.store_core.specs.NextAct.{Job}
use Rattle.run_laws.proofs.Carried.{IsMark, AreCarried, told_back}
use Rattle.run_laws.proofs.GoesOn.{GrowsBy, grows_by}
use Rattle.run_laws.proofs.Grows.{JustEnded, Grows, part_start, part_grows, chunk_grows}

-- ---- a stretch of a list with a fact
abbrev pub Begins : (List Told → Type 0) → List Told → Type 0
Begins P [] = P []
Begins P (answer ∷ told) = P [] ⊎ Begins (λ later. P (answer ∷ later)) told

abbrev pub Within : (List Told → Type 0) → List Told → Type 0
Within P [] = P []
Within P (answer ∷ told) = Begins P (answer ∷ told) ⊎ Within P told

-- at the head of a list
pub begins : (P : List Told → Type 0) (told since : List Told) → P told → Begins P (told ++ since)
begins P [] [] h = h
begins P [] (answer ∷ since) h = inl h
begins P (answer ∷ told) since h = inr (begins (λ later. P (answer ∷ later)) told since h)

pub from_head : (P : List Told → Type 0) (told : List Told) → Begins P told → Within P told
from_head P [] h = h
from_head P (answer ∷ told) h = inl h

begins_never : (P : List Told → Type 0) → ((told : List Told) → P told → ⊥) → (told : List Told) → Begins P told → ⊥
begins_never P never [] h = never [] h
begins_never P never (answer ∷ told) (inl h) = never [] h
begins_never P never (answer ∷ told) (inr h) = begins_never (λ later. P (answer ∷ later)) (λ later. never (answer ∷ later)) told h

-- the stretch, what stands before it and what after
pub record Found (P : List Told → Type 0) (all : List Told) : Type 0 where
  pub front : List Told
  pub told : List Told
  pub since : List Told
  pub is : all ≡ front ++ (told ++ since)
  pub holds : P told

one_longer : (P : List Told → Type 0) (answer : Told) (all : List Told) → Found P all → Found P (answer ∷ all)
one_longer P answer all f = record { front = answer ∷ f.front; told = f.told; since = f.since; is = ap (λ l. answer ∷ l) f.is; holds = f.holds }

record FoundFirst (P : List Told → Type 0) (all : List Told) : Type 0 where
  told : List Told
  since : List Told
  is : all ≡ told ++ since
  holds : P told

found_first : (P : List Told → Type 0) (all : List Told) → Begins P all → FoundFirst P all
found_first P [] h = record { told = []; since = []; is = refl; holds = h }
found_first P (answer ∷ all) (inl h) = record { told = []; since = answer ∷ all; is = refl; holds = h }
found_first P (answer ∷ all) (inr h) =
    let f : FoundFirst (λ later. P (answer ∷ later)) all = found_first (λ later. P (answer ∷ later)) all h in
    record { told = answer ∷ f.told; since = f.since; is = ap (λ l. answer ∷ l) f.is; holds = f.holds }

found_at_head : (P : List Told → Type 0) (all : List Told) → FoundFirst P all → Found P all
found_at_head P all f = record { front = []; told = f.told; since = f.since; is = f.is; holds = f.holds }

pub found : (P : List Told → Type 0) (all : List Told) → Within P all → Found P all
found P [] h = record { front = []; told = []; since = []; is = refl; holds = h }
found P (answer ∷ all) (inl h) = found_at_head P (answer ∷ all) (found_first P (answer ∷ all) h)
found P (answer ∷ all) (inr h) = one_longer P answer all (found P all h)

-- ---- a stretch after some answer
abbrev pub Follows : Told → (List Told → Type 0) → List Told → Type 0
Follows looked P [] = ⊥
Follows looked P (answer ∷ told) = ((answer ≡ looked) × Within P told) ⊎ Follows looked P told

-- the stretch, what stands after it, and before it the answer and others
pub record FoundAfter (looked : Told) (P : List Told → Type 0) (all : List Told) : Type 0 where
  pub front : List Told
  pub told : List Told
  pub since : List Told
  pub is : all ≡ front ++ (told ++ since)
  pub look : Tells (λ answer. answer ≡ looked) front
  pub holds : P told

after_first : (looked : Told) (P : List Told → Type 0) (answer : Told) (all : List Told) → answer ≡ looked → Found P all → FoundAfter looked P (answer ∷ all)
after_first looked P answer all e f =
    record { front = answer ∷ f.front; told = f.told; since = f.since; is = ap (λ l. answer ∷ l) f.is; look = inl e; holds = f.holds }

after_more : (looked : Told) (P : List Told → Type 0) (answer : Told) (all : List Told) → FoundAfter looked P all → FoundAfter looked P (answer ∷ all)
after_more looked P answer all f =
    record { front = answer ∷ f.front; told = f.told; since = f.since; is = ap (λ l. answer ∷ l) f.is; look = inr f.look; holds = f.holds }

pub found_after : (looked : Told) (P : List Told → Type 0) (all : List Told) → Follows looked P all → FoundAfter looked P all
found_after looked P [] h = absurd h
found_after looked P (answer ∷ all) (inl h) = after_first looked P answer all h.0 (found P all h.1)
found_after looked P (answer ∷ all) (inr h) = after_more looked P answer all (found_after looked P all h)

-- ---- a stretch that begins with no mark is carried from what is kept to the answers, and so is its place after a mark
module _ (looked : Told) (is_look : IsMark looked) (P : List Told → Type 0) (no_mark : (mark : Told) (told : List Told) → IsMark mark → P (mark ∷ told) → ⊥)
    (no_entry : (told : List Told) → P (Told.Gathered ∷ told) → ⊥) where
  skip : (answer : Told) (told : List Told) → ((later : List Told) → P (answer ∷ later) → ⊥) → Within P (answer ∷ told) → Within P told
  skip answer told never (inl (inl h)) = from_head P told (begins P [] told h)
  skip answer told never (inl (inr h)) = absurd (begins_never (λ later. P (answer ∷ later)) never told h)
  skip answer told never (inr h) = h

  -- with the look before it, or without
  abbrev pub IsStretch : Bool → List Told → Type 0
  IsStretch true told = Follows looked P told
  IsStretch false told = Within P told

  stretch_grows : (b : Bool) (answer : Told) (told : List Told) → IsStretch b told → IsStretch b (answer ∷ told)
  stretch_grows true answer told h = inr h
  stretch_grows false answer told h = inr h

  stretch_gathered : (b : Bool) (told : List Told) → IsStretch b (Told.Gathered ∷ told) → IsStretch b told
  stretch_gathered true told (inl h) = absurd (subst IsMark (sym h.0) is_look)
  stretch_gathered true told (inr h) = h
  stretch_gathered false told h = skip Told.Gathered told no_entry h

  stretch_behind : (b : Bool) (mark : Told) (some others : List Told) → IsMark mark → ((j : Bool) → IsStretch j some → IsStretch j others)
      → IsStretch b (mark ∷ some) → IsStretch b (mark ∷ others)
  stretch_behind true mark some others is_mark f (inl h) = inl (h.0, f false h.1)
  stretch_behind true mark some others is_mark f (inr h) = inr (f true h)
  stretch_behind false mark some others is_mark f h = inr (f false (skip mark some (λ later. no_mark mark later is_mark) h))

  pub stretch_carried : AreCarried Bool IsStretch
  stretch_carried = record { grows = stretch_grows; gathered = stretch_gathered; behind = stretch_behind }

-- ---- a gathering that found too many missing did so by the answers up to then
abbrev IsTooMany : Gathering → Type 0
IsTooMany (Gathering.TooMany missing told) = Unit {0}
IsTooMany _ = ⊥

abbrev missing_of : Gathering → List Lost
missing_of (Gathering.TooMany missing told) = missing
missing_of _ = []

abbrev rest_of : Gathering → List Told
rest_of (Gathering.TooMany missing told) = told
rest_of _ = []

module _ (gather : List Told → Gathering) (grows : (told : List Told) (answer : Told) → Grows answer (gather told) (gather (told ++ answer ∷ []))) (missing : List Lost) (rest : List Told) where
  pub record Stops (told : List Told) : Type 0 where
    pub front : List Told
    pub is : told ≡ front ++ rest
    pub comes_to : gather front ≡ Gathering.TooMany missing []

  abbrev Comes : List Told → Type 0
  Comes told = gather told ≡ Gathering.TooMany missing rest

  stops_now : (done : List Told) → JustEnded (gather done) → Comes (done ++ []) → Stops (done ++ [])
  stops_now done just e =
      let now : gather done ≡ Gathering.TooMany missing rest = ap gather (sym (append-nil done)) ∙ e in
      let none : rest ≡ [] = subst JustEnded now just in
      record { front = done; is = ap (λ l. done ++ l) (sym none); comes_to = now ∙ ap (Gathering.TooMany missing) none }

  stops_by : (done : List Told) (answer : Told) (more : List Told) (now : Gathering) → gather done ≡ now → JustEnded now
      → Grows answer now (gather (done ++ answer ∷ [])) → GrowsBy (answer ∷ more) now (gather (done ++ answer ∷ more)) → Comes (done ++ answer ∷ more)
      → (JustEnded (gather (done ++ answer ∷ [])) → Stops (done ++ answer ∷ more)) → Stops (done ++ answer ∷ more)
  stops_by done answer more (Gathering.Asks server step) here just next later e go_on = go_on next
  stops_by done answer more (Gathering.TooMany found told) here just next later e go_on =
      let same : Gathering.TooMany found (told ++ answer ∷ more) ≡ Gathering.TooMany missing rest = sym later ∙ e in
      let left : answer ∷ more ≡ rest = ap (λ l. l ++ answer ∷ more) (sym just) ∙ ap rest_of same in
      record {
        front = done;
        is = ap (λ l. done ++ l) left;
        comes_to = here ∙ ap (Gathering.TooMany found) just ∙ ap (λ l. Gathering.TooMany l []) (ap missing_of same);
      }
  stops_by done answer more (Gathering.HasBytes told) here just next later e go_on = absurd (subst IsTooMany (sym e ∙ later) tt)
  stops_by done answer more (Gathering.AtTarget told) here just next later e go_on = absurd (subst IsTooMany (sym e ∙ later) tt)
  stops_by done answer more (Gathering.TargetAway downs told) here just next later e go_on = absurd (subst IsTooMany (sym e ∙ later) tt)
  stops_by done answer more (Gathering.Short told) here just next later e go_on = absurd (subst IsTooMany (sym e ∙ later) tt)

  pub stops_from : (done todo : List Told) → JustEnded (gather done) → Comes (done ++ todo) → Stops (done ++ todo)
  stops_from done [] just e = stops_now done just e
  stops_from done (answer ∷ more) just e =
      let same : (done ++ answer ∷ []) ++ more ≡ done ++ answer ∷ more = append_assoc done (answer ∷ []) more in
      stops_by done answer more (gather done) refl just (grows done answer) (grows_by gather grows (answer ∷ more) done) e
      (λ next. subst Stops same (stops_from (done ++ answer ∷ []) more next (subst Comes (sym same) e)))

-- ---- such a stretch begins with an answer of a server
abbrev IsStrange : Told → Type 0
IsStrange (Told.Given layers) = ⊥
IsStrange (Told.Missing epoch) = ⊥
IsStrange (Told.Prepared last) = ⊥
IsStrange _ = Unit {0}

mark_strange : (mark : Told) → IsMark mark → IsStrange mark
mark_strange (Told.Given layers) h = h
mark_strange (Told.Missing epoch) h = h
mark_strange (Told.Prepared last) h = h
mark_strange mark h = tt

-- prepares begin with an answer to one
abbrev BeginsPrepared : List Told → Type 0
BeginsPrepared [] = Unit {0}
BeginsPrepared (Told.Prepared last ∷ told) = Unit {0}
BeginsPrepared (_ ∷ told) = ⊥

begins_prepared : (first second : List Placement) → BeginsPrepared (map Told.Prepared first ++ map Told.Prepared second)
begins_prepared [] [] = tt
begins_prepared [] (last ∷ second) = tt
begins_prepared (last ∷ first) second = tt

not_prepared : (answer : Told) (told : List Told) → IsStrange answer → BeginsPrepared (answer ∷ told) → ⊥
not_prepared (Told.Prepared last) told strange h = strange
not_prepared answer told strange h = h

module _ (g : Shape) where
  data_strange : (part : Part) (servers : List ℕ) (answer : Told) (told : List Told) → IsStrange answer → IsTooMany (fetching_data g part servers [] (answer ∷ told)) → ⊥
  data_strange part [] answer told strange h = h
  data_strange part (server ∷ more) (Told.Given layers) told strange h = strange
  data_strange part (server ∷ more) (Told.Missing epoch) told strange h = strange
  data_strange part (server ∷ more) answer told strange h = absurd h

  chunk_strange : (seen : Seen) (target : ℕ) (answer : Told) (told : List Told) → IsStrange answer → IsTooMany (gather_chunk g seen target (answer ∷ told)) → ⊥
  chunk_strange seen target Told.Here told strange h = h
  chunk_strange seen target (Told.Missing epoch) told strange h = strange
  chunk_strange seen target answer told strange h = absurd h

  module _ (job : Job) (stripe : ℕ) (missing : List Lost) (answer : Told) (told : List Told) (strange : IsStrange answer) where
    part_lost_strange : (looked : Told) → PartIsLost g job looked stripe missing (answer ∷ told) → ⊥
    part_lost_strange looked h =
        data_strange h.part (chunks_in_range g h.part.start h.part.end) answer told strange (subst IsTooMany (sym h.comes_to) tt)

    lost_strange : (looked : Told) → IsLost g job looked stripe missing (answer ∷ told) → ⊥
    lost_strange (Told.PinnedStripe seen) h = chunk_strange seen job.target answer told strange (subst IsTooMany (sym h.comes_to) tt)
    lost_strange (Told.Versions versions) h =
        not_prepared answer told strange (subst BeginsPrepared (sym h.told_is) (begins_prepared (flat_map (λ (whole : List Placement). whole) h.placed) h.row))
    lost_strange looked h = part_lost_strange looked h

  -- what follows a look among what is kept follows it among the answers
  pub lost_back : (some : 0 < g.parity_count) (job : Job) (looked : Told) (stripe : ℕ) (missing : List Lost) (answers : List Told) → IsMark looked
      → Follows looked (IsLost g job looked stripe missing) (fold (tell g job) [] answers) → Follows looked (IsLost g job looked stripe missing) answers
  lost_back some job looked stripe missing answers is_look h =
      let P : List Told → Type 0 = IsLost g job looked stripe missing in
      let no_mark : (mark : Told) (told : List Told) → IsMark mark → P (mark ∷ told) → ⊥ =
      λ mark told is_mark k. lost_strange job stripe missing mark told (mark_strange mark is_mark) looked k in
      let no_entry : (told : List Told) → P (Told.Gathered ∷ told) → ⊥ = λ told k. lost_strange job stripe missing Told.Gathered told tt looked k in
      told_back Bool (IsStretch looked is_look P no_mark no_entry) (stretch_carried looked is_look P no_mark no_entry) g some job [] answers true h

  -- ---- the gatherings of a call
  pub part_stops : (part : Part) (told rest : List Told) (missing : List Lost) → gather_part g part told ≡ Gathering.TooMany missing rest
      → Stops (gather_part g part) (part_grows g part) missing rest told
  part_stops part told rest missing e = stops_from (gather_part g part) (part_grows g part) missing rest [] told (part_start g part) e

  pub chunk_stops : (seen : Seen) (target : ℕ) (told rest : List Told) (missing : List Lost) → gather_chunk g seen target told ≡ Gathering.TooMany missing rest
      → Stops (gather_chunk g seen target) (chunk_grows g seen target) missing rest told
  chunk_stops seen target told rest missing e = stops_from (gather_chunk g seen target) (chunk_grows g seen target) missing rest [] told tt e

-- How many versions the sweeper hasn't taken: no step makes a version that was taken anything else.
use Rattle.std.proofs.Common.{◌/◌, take, drop, ◌≡◌, ℕ, zero, suc, ◌+◌, ◌<◌, ◌≤◌, Bool, true, false, cond, not, ◌&&◌, nat_lt, List, [], ◌∷◌, ◌++◌, length, map, find, fold, zip, Option, None, Some, option_map, unwrap_or, IfSome, All, IsTrue, refl, sym, ap, subst, ◌∙◌, true≢false, arith, zero-add}
use Rattle.std.proofs.lemmas.Bool.{cond_both, and_parts}
use Rattle.std.proofs.lemmas.List.{length-map}
use Rattle.std.proofs.lemmas.Option.{same_Some, none-some}
use Rattle.std.proofs.lemmas.List.FromFn.{length-range_with_len}
use Rattle.std.proofs.lemmas.List.Elements.{All-head, All-tail}
use Rattle.std.specs.List.{range_with_len, slice_get, enumerate_from, list_all}
use Rattle.clay_grid.specs.Shape.{stripe_length}
use Rattle.store_core.specs.Placements.{placed_anew}
use Rattle.store_map.specs.declared.placement.Placement.{Placement}
use Rattle.store_map.specs.declared.actor.Actor.{Actor}
use Rattle.store_map.specs.declared.reply.Reply.{Reply}
use Rattle.store_core.specs.Lists.{change_at}
use Rattle.store_core.specs.Told.{Told}
use Rattle.store_core.specs.Note.{Note, Kind, refusal}
use Rattle.store_core.specs.Act.{DirectoryStep, takes_memory}
use Rattle.store_core.specs.Directory.{Object, Standing, Version, Pin, Pass, Directory}
use Rattle.store_core.specs.Lookups.{find_object, pass_of, last_change, first_garbage, is_current, is_live, is_pinned, is_superseded_standing}
use Rattle.store_core.specs.Look.{set_standing, begin_pass, seen_at}
use Rattle.store_core.specs.Looks.{accept, look_by, look_repair_by}
use Rattle.store_core.specs.PassSteps.{close_pass, give_up_drawn, touched, draw, end_pass, confirm, repaired, new_version}
use Rattle.store_core.specs.Commit.{commit, commit_object, dropped_by, place_all, is_overtaken}
use Rattle.store_core.specs.AtDirectory.{unless_reaped, on_pass, take_garbage, swept_standing, reap_pass, reap, made_at_directory, unless_short, at_directory}
use Rattle.store_core.specs.PlaceLaws.{new_versions}
use Rattle.store_core.specs.Sound.{IsSound, HasItsVersions}
use Rattle.store_core.specs.SoundPasses.{Stands, IsLive}
use Rattle.run_laws.proofs.Passes.{found_has}

-- a version that the sweeper hasn't taken
abbrev pub is_live_standing : Standing → Bool
is_live_standing Standing.Taken = false
is_live_standing Standing.Swept = false
is_live_standing _ = true

abbrev one_if : Bool → ℕ
one_if b = cond b 1 0

-- how many versions weren't taken
abbrev pub live_count : List Version → ℕ
live_count [] = 0
live_count (version ∷ versions) = one_if (is_live_standing version.standing) + live_count versions

-- the version with this number wasn't taken, if there is one
abbrev pub LivesAt : List Version → ℕ → Type 0
LivesAt versions number = IfSome (slice_get versions number) (λ version. IsTrue (is_live_standing version.standing))

abbrev pub AllLive : List Version → List ℕ → Type 0
AllLive versions [] = Unit {0}
AllLive versions (number ∷ numbers) = LivesAt versions number × AllLive versions numbers

-- ---- one change
-- of two tests, where one implies the other
one_less : (a b : Bool) → (a ≡ true → b ≡ true) → one_if a ≤ one_if b
one_less true true h = omega arith
one_less true false h = absurd (true≢false (sym (h refl)))
one_less false true h = omega arith
one_less false false h = omega arith

at_live : (a b : Bool) → b ≡ true → one_if a ≤ one_if b
at_live a b e = one_less a b (λ _. e)

-- a change of a live version
count_here : (number : ℕ) (f : Version → Version) (versions : List Version) → LivesAt versions number → live_count (change_at number f versions) ≤ live_count versions
count_here number f [] h = omega arith
count_here zero f (version ∷ versions) h =
    let first : one_if (is_live_standing (f version).standing) ≤ one_if (is_live_standing version.standing) = at_live (is_live_standing (f version).standing) (is_live_standing version.standing) h in
    let x : ℕ = one_if (is_live_standing (f version).standing) in
    let y : ℕ = one_if (is_live_standing version.standing) in
    omega (arith, first)
count_here (suc number) f (version ∷ versions) h =
    let rest : live_count (change_at number f versions) ≤ live_count versions = count_here number f versions h in
    let y : ℕ = one_if (is_live_standing version.standing) in
    omega (arith, rest)

-- a change that makes no version live
count_kept : (number : ℕ) (f : Version → Version) (versions : List Version) → ((version : Version) → is_live_standing (f version).standing ≡ true → is_live_standing version.standing ≡ true)
    → live_count (change_at number f versions) ≤ live_count versions
count_kept number f [] h = omega arith
count_kept zero f (version ∷ versions) h =
    let first : one_if (is_live_standing (f version).standing) ≤ one_if (is_live_standing version.standing) = one_less (is_live_standing (f version).standing) (is_live_standing version.standing) (h version) in
    let x : ℕ = one_if (is_live_standing (f version).standing) in
    let y : ℕ = one_if (is_live_standing version.standing) in
    omega (arith, first)
count_kept (suc number) f (version ∷ versions) h =
    let rest : live_count (change_at number f versions) ≤ live_count versions = count_kept number f versions h in
    let y : ℕ = one_if (is_live_standing version.standing) in
    omega (arith, rest)

-- a change that leaves live versions live
lives_still : (number other : ℕ) (f : Version → Version) (versions : List Version) → ((version : Version) → is_live_standing version.standing ≡ true → is_live_standing (f version).standing ≡ true)
    → LivesAt versions other → LivesAt (change_at number f versions) other
lives_still number other f [] keeps h = h
lives_still zero zero f (version ∷ versions) keeps h = keeps version h
lives_still zero (suc other) f (version ∷ versions) keeps h = h
lives_still (suc number) zero f (version ∷ versions) keeps h = h
lives_still (suc number) (suc other) f (version ∷ versions) keeps h = lives_still number other f versions keeps h

-- several that were live stay live
all_still : (number : ℕ) (f : Version → Version) (versions : List Version) (numbers : List ℕ) → ((version : Version) → is_live_standing version.standing ≡ true → is_live_standing (f version).standing ≡ true)
    → AllLive versions numbers → AllLive (change_at number f versions) numbers
all_still number f versions [] keeps h = tt
all_still number f versions (other ∷ numbers) keeps h = (lives_still number other f versions keeps h.0, all_still number f versions numbers keeps h.1)

-- ---- live versions given another live standing
module _ (standing : Standing) (live : is_live_standing standing ≡ true) where
  -- live versions that get a live standing
  count_set : (numbers : List ℕ) (versions : List Version) → AllLive versions numbers → live_count (set_standing standing numbers versions) ≤ live_count versions
  count_set [] versions h = omega arith
  count_set (number ∷ numbers) versions h =
      let changed : List Version = change_at number (λ version. record version { standing = standing }) versions in
      let first : live_count changed ≤ live_count versions = count_here number (λ version. record version { standing = standing }) versions h.0 in
      let rest : live_count (set_standing standing numbers changed) ≤ live_count changed =
      count_set numbers changed (all_still number (λ version. record version { standing = standing }) versions numbers (λ _ _. live) h.1) in
      omega (arith, first, rest)

-- drawn versions with the epochs of their chunks
abbrev pub EntriesLive : List Version → List (ℕ × List Placement) → Type 0
EntriesLive versions [] = Unit {0}
EntriesLive versions (entry ∷ entries) = LivesAt versions entry.0 × EntriesLive versions entries

abbrev pub become_current : List Placement → Version → Version
become_current placed version = record version { placed = placed; standing = Standing.Current }

pub entries_still : (number : ℕ) (f : Version → Version) (versions : List Version) (entries : List (ℕ × List Placement)) → ((version : Version) → is_live_standing version.standing ≡ true → is_live_standing (f version).standing ≡ true)
    → EntriesLive versions entries → EntriesLive (change_at number f versions) entries
entries_still number f versions [] keeps h = tt
entries_still number f versions (entry ∷ entries) keeps h = (lives_still number entry.0 f versions keeps h.0, entries_still number f versions entries keeps h.1)

pub entries_live : (versions : List Version) (drawn : List ℕ) (placed : List (List Placement)) → AllLive versions drawn → EntriesLive versions (zip drawn placed)
entries_live versions [] placed h = tt
entries_live versions (number ∷ drawn) [] h = tt
entries_live versions (number ∷ drawn) (row ∷ placed) h = (h.0, entries_live versions drawn placed h.1)

-- drawn versions that become current
count_placed : (entries : List (ℕ × List Placement)) (versions : List Version) → EntriesLive versions entries → live_count (place_all entries versions) ≤ live_count versions
count_placed [] versions h = omega arith
count_placed (entry ∷ entries) versions h =
    let changed : List Version = change_at entry.0 (become_current entry.1) versions in
    let first : live_count changed ≤ live_count versions = count_here entry.0 (become_current entry.1) versions h.0 in
    let rest : live_count (place_all entries changed) ≤ live_count changed =
    count_placed entries changed (entries_still entry.0 (become_current entry.1) versions entries (λ _ _. refl) h.1) in
    omega (arith, first, rest)

-- live versions stay live where drawn ones become current
pub placed_still : (entries : List (ℕ × List Placement)) (versions : List Version) (numbers : List ℕ) → AllLive versions numbers → AllLive (place_all entries versions) numbers
placed_still [] versions numbers h = h
placed_still (entry ∷ entries) versions numbers h =
    placed_still entries (change_at entry.0 (become_current entry.1) versions) numbers (all_still entry.0 (become_current entry.1) versions numbers (λ _ _. refl) h)

part_live : (n : ℕ) (versions : List Version) (numbers : List ℕ) → AllLive versions numbers → AllLive versions (take n numbers)
part_live zero versions numbers h = tt
part_live (suc n) versions [] h = tt
part_live (suc n) versions (number ∷ numbers) h = (h.0, part_live n versions numbers h.1)

rest_live : (n : ℕ) (versions : List Version) (numbers : List ℕ) → AllLive versions numbers → AllLive versions (drop n numbers)
rest_live zero versions numbers h = h
rest_live (suc n) versions [] h = tt
rest_live (suc n) versions (number ∷ numbers) h = rest_live n versions numbers h.1

-- those of an object that a commit drops
pub dropped_live : (kind : Kind) (d : Directory) (pass : Pass) (versions : List Version) (numbers : List ℕ) → AllLive versions numbers → AllLive versions (dropped_by kind d pass numbers)
dropped_live Kind.Write d pass versions numbers h =
    part_live (length pass.drawn) versions (drop (pass.note.offset / stripe_length d.shape) numbers) (rest_live (pass.note.offset / stripe_length d.shape) versions numbers h)
dropped_live _ d pass versions numbers h = h

-- ---- what soundness says
-- versions of a live standing are live
stands_live : (d : Directory) (standing : Standing) → is_live_standing standing ≡ true → (numbers : List ℕ) → All (Stands d standing) numbers → AllLive d.versions numbers
stands_live d standing live [] all = tt
stands_live d standing live (number ∷ numbers) all =
    let here : Stands d standing number = All-head (Stands d standing) number numbers all in
    (one (slice_get d.versions number) here.0, stands_live d standing live numbers (All-tail (Stands d standing) number numbers all))
  where
    one : (found : Option Version) → IfSome found (λ version. version.standing ≡ standing) → IfSome found (λ version. IsTrue (is_live_standing version.standing))
    one None h = tt
    one (Some version) h = ap is_live_standing h ∙ live

-- the versions of an object that is found, and what a pass has drawn that isn't reaped
pub record HasLive (d : Directory) : Type 0 where
  pub objects : (name : List ℕ) → IfSome (find_object name d.objects) (λ object. AllLive d.versions object.versions)
  pub passes : (who : Actor) → IfSome (pass_of who d) (λ pass. IsTrue (is_live pass.reaped) → AllLive d.versions pass.drawn)

if_some : {X : Type 0} {P Q : X → Type 0} (found : Option X) → ((x : X) → P x → Q x) → IfSome found P → IfSome found Q
if_some None f h = tt
if_some (Some x) f h = f x h

-- a sound directory has them live
pub sound_live : (d : Directory) → IsSound d → HasLive d
sound_live d sound =
    record {
      objects = λ name.
          if_some {P = HasItsVersions d} {Q = λ (object : Object). AllLive d.versions object.versions} (find_object name d.objects)
          (λ object has. stands_live d Standing.Current refl object.versions has.current) (found_has (HasItsVersions d) _ d.objects sound.objects);
      passes = λ who.
          if_some {P = λ (pass : Pass). IsTrue (is_live pass.reaped) → IsLive d pass} {Q = λ (pass : Pass). IsTrue (is_live pass.reaped) → AllLive d.versions pass.drawn} (pass_of who d)
          (λ pass live now. stands_live d Standing.Drawn refl pass.drawn (live now).drawn) (found_has (λ (pass : Pass). IsTrue (is_live pass.reaped) → IsLive d pass) _ d.passes sound.live);
    }

-- ---- one step
-- a step adds no more live versions than it tells
abbrev pub CountMoves : Directory → Directory × Told → Type 0
CountMoves d result = live_count result.0.versions ≤ live_count d.versions + length (new_versions result.1)

module _ (d : Directory) (has : HasLive d) where
  plain : live_count d.versions ≤ live_count d.versions + 0
  plain = omega arith

  less : (n : ℕ) → n ≤ live_count d.versions → n ≤ live_count d.versions + 0
  less n h = omega (arith, h)

  accept_counts : (who : Actor) (number : ℕ) (note : Note) (kind : Kind) (object : Object) → AllLive d.versions object.versions → CountMoves d (accept who number note d kind object)
  accept_counts who number note Kind.Put object live = plain
  accept_counts who number note Kind.Write object live = plain
  accept_counts who number note Kind.Stat object live = plain
  accept_counts who number note Kind.Delete object live =
      less (live_count (set_standing Standing.Superseded object.versions d.versions)) (count_set Standing.Superseded refl object.versions d.versions live)
  accept_counts who number note _ object live = plain

  look_counts : (who : Actor) (number : ℕ) (note : Note) (found : Option Object) (refused : Option Reply) → IfSome found (λ object. AllLive d.versions object.versions)
      → CountMoves d (look_by who number note d found refused)
  look_counts who number note found (Some reply) live = plain
  look_counts who number note None None live = accept_counts who number note note.kind (record { name = note.name; length = 0; versions = [] }) tt
  look_counts who number note (Some object) None live = accept_counts who number note note.kind object live

  repair_counts : (who : Actor) (number : ℕ) (note : Note) (found : Option Object) → CountMoves d (look_repair_by who number note d found)
  repair_counts who number note None = plain
  repair_counts who number note (Some object) =
      cond_both {A = Directory × Told} (nat_lt note.offset (length object.versions))
      (begin_pass who number note (seen_at d object note.offset ∷ []) None d, Told.PinnedStripe (seen_at d object note.offset)) (d, Told.NoSuch) (CountMoves d) (λ _. plain) (λ _. plain)

  -- ---- steps on a pass
  CountsOn : (Pass → Directory → Directory × Told) → Type 0
  CountsOn step = (pass : Pass) → AllLive d.versions pass.drawn → CountMoves d (step pass d)

  unless_counts : (step : Pass → Directory → Directory × Told) → CountsOn step → (pass : Pass) (reaped : Option ℕ) → (IsTrue (is_live reaped) → AllLive d.versions pass.drawn)
      → CountMoves d (unless_reaped step pass reaped d)
  unfolding CountsOn
  unless_counts step counts pass None live = counts pass (live refl)
  unless_counts step counts pass (Some point) live = plain

  on_counts : (step : Pass → Directory → Directory × Told) → CountsOn step → (found : Option Pass) → IfSome found (λ pass. IsTrue (is_live pass.reaped) → AllLive d.versions pass.drawn)
      → CountMoves d (on_pass step found d)
  on_counts step counts None live = plain
  on_counts step counts (Some pass) live = unless_counts step counts pass pass.reaped live

  given_up : (drawn : List ℕ) → AllLive d.versions drawn → live_count (set_standing Standing.Superseded drawn d.versions) ≤ live_count d.versions + 0
  given_up drawn live = less (live_count (set_standing Standing.Superseded drawn d.versions)) (count_set Standing.Superseded refl drawn d.versions live)

  draw_counts : CountsOn draw
  unfolding CountsOn
  draw_counts pass live =
      let grown : live_count (d.versions ++ map (new_version pass) (touched d pass.note)) ≤ live_count d.versions + length (map (new_version pass) (touched d pass.note)) =
      live_append d.versions (map (new_version pass) (touched d pass.note)) in
      let mapped : length (map (new_version pass) (touched d pass.note)) ≡ length (touched d pass.note) = length-map (touched d pass.note) (new_version pass) in
      let ranged : length (range_with_len (length d.versions) (length (touched d pass.note))) ≡ length (touched d pass.note) = length-range_with_len (length d.versions) (length (touched d pass.note)) in
      omega (arith, grown, mapped, ranged)
    where
      most_one : (b : Bool) (n m : ℕ) → n ≤ m → one_if b + n ≤ suc m
      most_one true n m h = omega (arith, h)
      most_one false n m h = omega (arith, h)

      live_length : (versions : List Version) → live_count versions ≤ length versions
      live_length [] = omega arith
      live_length (version ∷ versions) = most_one (is_live_standing version.standing) (live_count versions) (length versions) (live_length versions)

      live_append : (versions more : List Version) → live_count (versions ++ more) ≤ live_count versions + length more
      live_append [] more = let h : live_count more ≤ length more = live_length more in omega (arith, h)
      live_append (version ∷ versions) more =
          let rest : live_count (versions ++ more) ≤ live_count versions + length more = live_append versions more in
          let y : ℕ = one_if (is_live_standing version.standing) in
          omega (arith, rest)

  end_counts : CountsOn end_pass
  unfolding CountsOn
  end_counts pass live = given_up pass.drawn live

  confirm_counts : CountsOn confirm
  unfolding CountsOn
  confirm_counts pass live =
      cond_both {A = Directory × Told} (list_all (λ pin. is_current d pin.version) pass.pinned)
      (d, Told.Current) (close_pass pass d, Told.Superseded (unwrap_or (last_change pass.note.name d.points) 0)) (CountMoves d) (λ _. plain) (λ _. plain)

  raised_counts : (server epoch : ℕ) (pins : List Pin) (versions : List Version)
      → live_count (fold (λ vs pin. change_at pin.version (λ version. record version { placed = change_at server (placed_anew epoch) version.placed }) vs) versions pins) ≤ live_count versions
  raised_counts server epoch [] versions = omega arith
  raised_counts server epoch (pin ∷ pins) versions =
      let change : Version → Version = λ version. record version { placed = change_at server (placed_anew epoch) version.placed } in
      let first : live_count (change_at pin.version change versions) ≤ live_count versions = count_kept pin.version change versions (λ _ e. e) in
      let rest : live_count (fold (λ (vs : List Version) (p : Pin). change_at p.version change vs) (change_at pin.version change versions) pins) ≤ live_count (change_at pin.version change versions) =
      raised_counts server epoch pins (change_at pin.version change versions) in
      omega (arith, first, rest)

  repaired_counts : (server epoch : ℕ) → CountsOn (repaired server epoch)
  unfolding CountsOn
  repaired_counts server epoch pass live =
      less (live_count (fold (λ (vs : List Version) (pin : Pin). change_at pin.version (λ version. record version { placed = change_at server (placed_anew epoch) version.placed }) vs) d.versions pass.pinned))
      (raised_counts server epoch pass.pinned d.versions)

  object_counts : (placed : List (List Placement)) (pass : Pass) (old : Object) → AllLive d.versions pass.drawn → AllLive d.versions old.versions → CountMoves d (commit_object placed pass old d)
  object_counts placed pass old live old_live =
      let now : List Version = place_all (zip pass.drawn placed) d.versions in
      let dropped : List ℕ = dropped_by pass.note.kind d pass old.versions in
      let first : live_count now ≤ live_count d.versions = count_placed (zip pass.drawn placed) d.versions (entries_live d.versions pass.drawn placed live) in
      let still : AllLive now dropped =
      dropped_live pass.note.kind d pass now old.versions (placed_still (zip pass.drawn placed) d.versions old.versions old_live) in
      let rest : live_count (set_standing Standing.Superseded dropped now) ≤ live_count now = count_set Standing.Superseded refl dropped now still in
      omega (arith, first, rest)

  found_versions : (found : Option Object) (name : List ℕ) → IfSome found (λ object. AllLive d.versions object.versions)
      → AllLive d.versions (unwrap_or found (record { name = name; length = 0; versions = [] })).versions
  found_versions None name h = tt
  found_versions (Some object) name h = h

  commit_counts : (placed : List (List Placement)) → CountsOn (commit placed)
  unfolding CountsOn
  commit_counts placed pass live =
      cond_both {A = Directory × Told} (is_overtaken pass.note.kind pass.base (last_change pass.note.name d.points))
      (close_pass pass (give_up_drawn pass d), Told.Changed (unwrap_or pass.base 0) (unwrap_or (last_change pass.note.name d.points) 0))
      (commit_object placed pass (unwrap_or (find_object pass.note.name d.objects) (record { name = pass.note.name; length = 0; versions = [] })) d) (CountMoves d)
      (λ _. given_up pass.drawn live)
      (λ _. object_counts placed pass (unwrap_or (find_object pass.note.name d.objects) (record { name = pass.note.name; length = 0; versions = [] })) live
      (found_versions (find_object pass.note.name d.objects) pass.note.name (has.objects pass.note.name)))

  -- ---- the sweeper and the operator
  take_counts : (found : Option ℕ) → CountMoves d (take_garbage found d)
  take_counts None = plain
  take_counts (Some version) =
      less (live_count (change_at version (λ (entry : Version). record entry { standing = Standing.Taken }) d.versions))
      (count_kept version (λ (entry : Version). record entry { standing = Standing.Taken }) d.versions (λ _ e. absurd (true≢false (sym e))))

  swept_live : (standing : Standing) → is_live_standing (swept_standing standing) ≡ true → is_live_standing standing ≡ true
  swept_live Standing.Taken e = e
  swept_live standing e = e

  reap_counts : (pass : Pass) (reaped : Option ℕ) → (IsTrue (is_live reaped) → AllLive d.versions pass.drawn) → CountMoves d (reap_pass pass reaped d)
  reap_counts pass (Some point) live = plain
  reap_counts pass None live = given_up pass.drawn (live refl)

  reap_any_counts : (found : Option Pass) → IfSome found (λ pass. IsTrue (is_live pass.reaped) → AllLive d.versions pass.drawn) → CountMoves d (reap found d)
  reap_any_counts None live = plain
  reap_any_counts (Some pass) live = reap_counts pass pass.reaped live

  made_counts : (who : Actor) (number : ℕ) (step : DirectoryStep) → CountMoves d (made_at_directory who number step d)
  made_counts who number (DirectoryStep.Look note) =
      look_counts who number note (find_object note.name d.objects) (refusal d.max note (option_map (λ object. object.length) (find_object note.name d.objects))) (has.objects note.name)
  made_counts who number (DirectoryStep.LookRepair note) = repair_counts who number note (find_object note.name d.objects)
  made_counts who number DirectoryStep.Draw = on_counts draw draw_counts (pass_of who d) (has.passes who)
  made_counts who number (DirectoryStep.Commit placed) = on_counts (commit placed) (commit_counts placed) (pass_of who d) (has.passes who)
  made_counts who number DirectoryStep.End = on_counts end_pass end_counts (pass_of who d) (has.passes who)
  made_counts who number DirectoryStep.Confirm = on_counts confirm confirm_counts (pass_of who d) (has.passes who)
  made_counts who number (DirectoryStep.Repaired server epoch) = on_counts (repaired server epoch) (repaired_counts server epoch) (pass_of who d) (has.passes who)
  made_counts who number DirectoryStep.NextGarbage = take_counts (first_garbage d)
  made_counts who number (DirectoryStep.Swept version) =
      less (live_count (change_at version (λ (entry : Version). record entry { standing = swept_standing entry.standing }) d.versions))
      (count_kept version (λ (entry : Version). record entry { standing = swept_standing entry.standing }) d.versions (λ entry e. swept_live entry.standing e))
  made_counts who number (DirectoryStep.Reap other) = reap_any_counts (pass_of other d) (has.passes other)

  unless_short_counts : (short takes : Bool) (who : Actor) (number : ℕ) (step : DirectoryStep) → CountMoves d (unless_short short takes who number step d)
  unless_short_counts true true who number step = plain
  unless_short_counts true false who number step = made_counts who number step
  unless_short_counts false true who number step = made_counts who number step
  unless_short_counts false false who number step = made_counts who number step

  -- so does each step at the directory
  pub counts_move : (short : Bool) (who : Actor) (number : ℕ) (step : DirectoryStep) → CountMoves d (at_directory short who number step d)
  counts_move short who number step = unless_short_counts short (takes_memory step) who number step

-- ---- the garbage that is taken was live
-- a live version that is taken is one less
count_taken : (number : ℕ) (versions : List Version) (version : Version) → slice_get versions number ≡ Some version → is_live_standing version.standing ≡ true
    → live_count (change_at number (λ (entry : Version). record entry { standing = Standing.Taken }) versions) < live_count versions
count_taken number [] version found live = absurd (none-some version found)
count_taken zero (first ∷ versions) version found live =
    let same : first ≡ version = same_Some first version found in
    let one : one_if (is_live_standing first.standing) ≡ 1 = ap (λ (v : Version). one_if (is_live_standing v.standing)) same ∙ ap one_if live in
    let x : ℕ = one_if (is_live_standing first.standing) in
    omega (arith, one)
count_taken (suc number) (first ∷ versions) version found live =
    let rest : live_count (change_at number (λ (entry : Version). record entry { standing = Standing.Taken }) versions) < live_count versions = count_taken number versions version found live in
    let x : ℕ = one_if (is_live_standing first.standing) in
    omega (arith, rest)

-- an entry that was found among the numbered versions
record FoundAt (start : ℕ) (versions : List Version) (entry : ℕ × Version) : Type 0 where
  place : ℕ
  is_place : entry.0 ≡ start + place
  found : slice_get versions place ≡ Some entry.1

found_next : (start : ℕ) (first : Version) (versions : List Version) (entry : ℕ × Version) → FoundAt (start + 1) versions entry → FoundAt start (first ∷ versions) entry
found_next start first versions entry h =
    record {
      place = suc h.place;
      is_place = (let e : entry.0 ≡ start + 1 + h.place = h.is_place in omega (arith, e));
      found = h.found;
    }

found_at : (test : ℕ × Version → Bool) (start : ℕ) (versions : List Version) → IfSome (find test (enumerate_from start versions)) (λ entry. FoundAt start versions entry × (test entry ≡ true))
found_at test start [] = tt
found_at test start (version ∷ versions) =
    cond_both {A = Option (ℕ × Version)} (test (start, version)) (Some (start, version)) (find test (enumerate_from (start + 1) versions))
    (λ found. IfSome found (λ entry. FoundAt start (version ∷ versions) entry × (test entry ≡ true)))
    (λ e. (record { place = 0; is_place = omega arith; found = refl }, e))
    (λ _. if_some {P = λ entry. FoundAt (start + 1) versions entry × (test entry ≡ true)} {Q = λ entry. FoundAt start (version ∷ versions) entry × (test entry ≡ true)}
    (find test (enumerate_from (start + 1) versions)) (λ entry h. (found_next start version versions entry h.0, h.1)) (found_at test (start + 1) versions))

superseded_live : (standing : Standing) → is_superseded_standing standing ≡ true → is_live_standing standing ≡ true
superseded_live Standing.Superseded e = refl
superseded_live standing e = absurd (true≢false (sym e))

module _ (d : Directory) where
  abbrev is_garbage : ℕ × Version → Bool
  is_garbage entry = is_superseded_standing entry.1.standing && not (is_pinned d entry.0)

  taken_less : (found : Option (ℕ × Version)) → IfSome found (λ entry. FoundAt 0 d.versions entry × (is_garbage entry ≡ true)) → (version : ℕ) → option_map (λ entry. entry.0) found ≡ Some version
      → live_count (change_at version (λ (entry : Version). record entry { standing = Standing.Taken }) d.versions) < live_count d.versions
  taken_less None h version e = absurd (none-some version e)
  taken_less (Some entry) h version e =
      let place : ℕ = h.0.place in
      let same : version ≡ place = sym (same_Some entry.0 version e) ∙ h.0.is_place ∙ zero-add place in
      let live : is_live_standing entry.1.standing ≡ true =
      superseded_live entry.1.standing (and_parts (is_superseded_standing entry.1.standing) (not (is_pinned d entry.0)) h.1).0 in
      subst (λ n. live_count (change_at n (λ (v : Version). record v { standing = Standing.Taken }) d.versions) < live_count d.versions) (sym same)
      (count_taken place d.versions entry.1 h.0.found live)

  -- the garbage that the sweeper takes is one live version less
  pub take_lowers : (version : ℕ) → first_garbage d ≡ Some version → live_count (take_garbage (Some version) d).0.versions < live_count d.versions
  take_lowers version e = taken_less (find is_garbage (enumerate_from 0 d.versions)) (found_at is_garbage 0 d.versions) version e

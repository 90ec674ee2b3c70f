-- What is left where a pass is taken out.
use Rattle.std.proofs.Common.{◌≡◌, ◌≢◌, ◌⊎◌, ℕ, zero, suc, ◌+◌, ◌-◌, ◌<◌, ◌≤◌, Bool, true, false, cond, ◌&&◌, not, nat_eq, List, [], ◌∷◌, length, get_or, filter, find, sum_by, Option, None, Some, is_some, IsTrue, IfSome, All, Contains, refl, sym, ap, subst, ◌∙◌, inl, inr, arith}
use Rattle.std.proofs.lemmas.Bool.{cases_eq, eq-eqb, ne_eqb}
use Rattle.std.proofs.lemmas.Option.{none-some, same_Some}
use Rattle.std.proofs.lemmas.List.Elements.{All-tail}
use Rattle.std.proofs.lemmas.List.Sorted.{All-permutation, sum_by_popped}
use Rattle.std.proofs.lemmas.List.Sums.{sum_by-cons}
use Rattle.std.specs.List.Sorted.{IsPermutation}
use Rattle.store_map.specs.declared.actor.Actor.{Actor}
use Rattle.store_core.specs.Lists.{change_at}
use Rattle.store_core.specs.Told.{Told}
use Rattle.store_core.specs.Act.{DirectoryStep}
use Rattle.store_core.specs.Directory.{Standing, Version, Pin, Pass, Directory}
use Rattle.store_core.specs.Lookups.{same_actor, pass_of, is_live}
use Rattle.store_core.specs.Look.{set_standing}
use Rattle.store_core.specs.PassSteps.{close_pass, end_pass, repaired}
use Rattle.store_core.specs.AtDirectory.{unless_reaped, on_pass, at_directory}
use Rattle.store_core.specs.Conditions.{MayStep}
use Rattle.store_core.specs.SoundPasses.{HasVersions}
use Rattle.store_core.specs.Agreement.{HeldPass, AgreesWithPass}
use Rattle.version_table.specs.Counts.{one_if, times, pins_of, pins_by, points_due, objects_due, may_append, unpinned}
use Rattle.dir_parts.proofs.Actors.{same_is, find_passes}
use Rattle.version_table.proofs.TableSteps.{length-change_at, length-fold}
use Rattle.dir_parts.specs.OpenPass.{Desk}
use Rattle.version_table.specs.Table.{Table}
use Rattle.version_table.specs.TableSteps.{placed_anew_by}
use Rattle.dir_parts.specs.Parts.{Shelf, PointLog}
use Rattle.stripe_stamps.specs.ItsStripes.{IsWhole}
use Rattle.stripe_dir.specs.Seats.{seat_left}
use Rattle.run_laws.proofs.ContentGrows.{origins}
use Rattle.stripe_dir.specs.Kept.{directory_in, sealed_in, IsKept}
use Rattle.stripe_stamps.proofs.StampLists.{same_count, stamps_stay}
use Rattle.stripe_dir.specs.declared.directory.Directory.TheInside.{Inside}
use Rattle.stripe_dir.proofs.Sound.{keeps_whole}

-- what is found has what all have
pub found_has : {X : Type 0} (P : X → Type 0) (test : X → Bool) (xs : List X) (x : X) → All P xs → find test xs ≡ Some x → P x
found_has P test [] x all e = absurd (none-some x e)
found_has {X} P test (y ∷ xs) x all e = by (test y) (found_has P test xs x (All-tail P y xs all)) e
  where
    by : (b : Bool) → (find test xs ≡ Some x → P x) → cond {A = Option X} b (Some y) (find test xs) ≡ Some x → P x
    by true rest e = subst P (same_Some y x e) (all 0 y (omega arith))
    by false rest e = rest e

-- a count that loses one at its own place
here_less : (m : ℕ) (counts : List ℕ) → get_or (change_at m (λ n. n - 1) counts) m 0 ≡ get_or counts m 0 - 1
here_less m [] = omega arith
here_less zero (n ∷ counts) = refl
here_less (suc m) (n ∷ counts) = here_less m counts

there_same : (m v : ℕ) (counts : List ℕ) → v ≢ m → get_or (change_at m (λ n. n - 1) counts) v 0 ≡ get_or counts v 0
there_same m v [] apart = refl
there_same zero zero (n ∷ counts) apart = absurd (apart refl)
there_same zero (suc v) (n ∷ counts) apart = refl
there_same (suc m) zero (n ∷ counts) apart = refl
there_same (suc m) (suc v) (n ∷ counts) apart = there_same m v counts (λ same. apart (ap suc same))

changed_count : (m v : ℕ) (counts : List ℕ) → get_or (change_at m (λ n. n - 1) counts) v 0 ≡ get_or counts v 0 - one_if (nat_eq v m)
changed_count m v counts = by (cases_eq v m)
  where
    by : (v ≡ m) ⊎ (v ≡ m → ⊥) → get_or (change_at m (λ n. n - 1) counts) v 0 ≡ get_or counts v 0 - one_if (nat_eq v m)
    by (inl same) =
        let one : one_if (nat_eq v m) ≡ 1 = ap one_if (eq-eqb v m same) in
        let less : get_or (change_at m (λ n. n - 1) counts) v 0 ≡ get_or counts v 0 - 1 =
        subst (λ (k : ℕ). get_or (change_at m (λ n. n - 1) counts) k 0 ≡ get_or counts k 0 - 1) (sym same) (here_less m counts)
        in
        omega (arith, one, less)
    by (inr apart) =
        let none : one_if (nat_eq v m) ≡ 0 = ap one_if (ne_eqb v m apart) in
        omega (arith, none, there_same m v counts apart)

pub get_or-unpinned : (v : ℕ) (pins : List Pin) (counts : List ℕ) → get_or (unpinned pins counts) v 0 ≡ get_or counts v 0 - times v pins
get_or-unpinned v [] counts =
    let none : times v [] ≡ 0 = refl in
    let same : get_or (unpinned [] counts) v 0 ≡ get_or counts v 0 = refl in
    omega (arith, none, same)
get_or-unpinned v (pin ∷ pins) counts =
    let less : List ℕ = change_at pin.version (λ n. n - 1) counts in
    let rest : get_or (unpinned pins less) v 0 ≡ get_or less v 0 - times v pins = get_or-unpinned v pins less in
    let first : get_or less v 0 ≡ get_or counts v 0 - one_if (nat_eq v pin.version) = changed_count pin.version v counts in
    let all : times v (pin ∷ pins) ≡ one_if (nat_eq v pin.version) + times v pins = sum_by-cons (λ (q : Pin). one_if (nat_eq v q.version)) pin pins in
    let whole : get_or (unpinned (pin ∷ pins) counts) v 0 ≡ get_or (unpinned pins less) v 0 = refl in
    omega (arith, rest, first, all, whole)

pub length-unpinned : (pins : List Pin) (counts : List ℕ) → length (unpinned pins counts) ≡ length counts
length-unpinned pins counts = length-fold (λ counts (pin : Pin). change_at pin.version (λ n. n - 1) counts) (λ counts pin. length-change_at pin.version _ counts) counts pins

module _ (d : Directory) (who : Actor) (p : Pass) (rest : List Pass) (found : find (λ pass. same_actor who pass.actor) d.passes ≡ Some p)
    (left : rest ≡ filter (λ pass. not (same_actor who pass.actor)) d.passes) (perm : IsPermutation d.passes (p ∷ rest)) where
  pub own : who ≡ p.actor
  own = same_is who p.actor (find_passes (λ (pass : Pass). same_actor who pass.actor) d.passes p found)

  pub it_has : (P : Pass → Type 0) → All P d.passes → P p
  it_has P all = found_has P (λ (pass : Pass). same_actor who pass.actor) d.passes p all found

  pub rest_has : (P : Pass → Type 0) → All P d.passes → All P rest
  rest_has P all = All-tail P p rest (All-permutation P d.passes (p ∷ rest) perm all)

  pub closed : close_pass p d ≡ record d { passes = rest }
  closed = λ i. record d { passes = (ap (λ (a : Actor). filter (λ (pass : Pass). not (same_actor a pass.actor)) d.passes) (sym own) ∙ sym left) i }

  -- any step on a pass that was reaped
  pub reaped_any : (step : Pass → Directory → Directory × Told) (point : ℕ) → p.reaped ≡ Some point → (record d { passes = rest }, Told.Reaped point) ≡ on_pass step (pass_of who d) d
  reaped_any step point reaped =
      sym (ap (λ (o : Option Pass). on_pass step o d) found ∙ ap (λ (r : Option ℕ). unless_reaped step p r d) reaped ∙ (λ i. (closed i, Told.Reaped point)))

  -- a step on a pass that wasn't
  pub live_step : (step : Pass → Directory → Directory × Told) → p.reaped ≡ None → on_pass step (pass_of who d) d ≡ step p d
  live_step step live = ap (λ (o : Option Pass). on_pass step o d) found ∙ ap (λ (r : Option ℕ). unless_reaped step p r d) live

  pub ended_step : (number : ℕ) (versions : List Version) → p.reaped ≡ None → versions ≡ set_standing Standing.Superseded p.drawn d.versions
      → (record d { versions = versions; passes = rest }, Told.Ended) ≡ at_directory false who number DirectoryStep.End d
  ended_step number versions live given =
      sym (live_step end_pass live ∙ (λ i. (record (closed i) { versions = sym given i }, Told.Ended)))

  pub repaired_step : (number server epoch : ℕ) (versions : List Version) → p.reaped ≡ None → versions ≡ placed_anew_by server epoch p.pinned d.versions
      → (record d { versions = versions; passes = rest }, Told.Ended) ≡ at_directory false who number (DirectoryStep.Repaired server epoch) d
  repaired_step number server epoch versions live given =
      sym (live_step (repaired server epoch) live ∙ (λ i. (record (closed i) { versions = sym given i }, Told.Ended)))

  pub sums : (f : Pass → ℕ) → sum_by f rest + f p ≡ sum_by f d.passes
  sums f = sum_by_popped f p d.passes rest perm

  pub pins_reaped : (point v : ℕ) → p.reaped ≡ Some point → pins_by v d.passes ≡ pins_by v rest
  pins_reaped point v reaped =
      let none : pins_of v p ≡ 0 = ap (λ (r : Option ℕ). cond (is_live r) (times v p.pinned) 0) reaped in
      omega (arith, sums (pins_of v), none)

  pub pins_ended : (counts : List ℕ) (v : ℕ) → p.reaped ≡ None → get_or counts v 0 ≡ pins_by v d.passes → get_or (unpinned p.pinned counts) v 0 ≡ pins_by v rest
  pins_ended counts v live is =
      let all : pins_of v p ≡ times v p.pinned = ap (λ (r : Option ℕ). cond (is_live r) (times v p.pinned) 0) live in
      omega (arith, sums (pins_of v), all, is, get_or-unpinned v p.pinned counts)

  pub points_left : points_due rest + one_if (is_live p.reaped) ≡ points_due d.passes
  points_left = sums (λ (pass : Pass). one_if (is_live pass.reaped))

  pub objects_left : objects_due rest ≤ objects_due d.passes
  objects_left = omega (arith, sums (λ (pass : Pass). one_if (may_append pass.note.kind && is_live pass.reaped)))

-- the pass is that of the ticket
pub agreed : (d : Directory) (held : HeldPass) (who : Actor) (p : Pass) → who ≡ held.pass.actor → pass_of who d ≡ Some p → AgreesWithPass d held → record p { reaped = None } ≡ held.pass
agreed d held who p same found agrees =
    let is : p ≡ record (held.pass) { reaped = agrees.reap } = same_Some p (record (held.pass) { reaped = agrees.reap }) (sym found ∙ ap (λ a. pass_of a d) same ∙ agrees.is_pass) in
    let live : None ≡ held.pass.reaped = sym agrees.live in
    (λ i. record (is i) { reaped = None }) ∙ (λ i. record (held.pass) { reaped = live i })

pub is_there : (d : Directory) (held : HeldPass) (who : Actor) → who ≡ held.pass.actor → AgreesWithPass d held → IsTrue (is_some (pass_of who d))
is_there d held who same agrees = ap is_some (ap (λ a. pass_of a d) same ∙ agrees.is_pass)

-- what is said of the actor's pass is said of the one that is found
pub said_of : (P : Pass → Type 0) (o : Option Pass) (p : Pass) → o ≡ Some p → IfSome o P → P p
said_of P o p found said = subst (λ (o : Option Pass). IfSome o P) found said

-- the actor's pass was taken out
pub record Gone (a : Inside) (who : Actor) (p : Pass) (desk : Desk) : Type 0 where
  pub found : find (λ pass. same_actor who pass.actor) a.passes.listed ≡ Some p
  pub left : desk.listed ≡ filter (λ pass. not (same_actor who pass.actor)) a.passes.listed
  pub perm : IsPermutation a.passes.listed (p ∷ desk.listed)
  pub stripe : desk.stripe_len ≡ a.passes.stripe_len

module _ (a : Inside) (kept : IsKept a) (who : Actor) (p : Pass) (desk : Desk) (gone : Gone a who p desk) where
  -- where it was reaped
  pub kept_reaped : (point : ℕ) → p.reaped ≡ Some point → IsKept (record a { passes = desk })
  kept_reaped point reaped =
      record {
        stripes = kept.stripes;
        keeps = kept.keeps;
        desk = gone.stripe ∙ kept.desk;
        whole =
            subst IsWhole (sym (ap (λ r. r.0) (reaped_any (directory_in a) who p desk.listed gone.found gone.left gone.perm end_pass point reaped)))
            (keeps_whole who 0 DirectoryStep.End (directory_in a) kept.stripes kept.whole tt);
        counted = kept.counted;
        pins = λ v. kept.pins v ∙ pins_reaped (directory_in a) who p desk.listed gone.found gone.left gone.perm point v reaped;
        named = rest_has (directory_in a) who p desk.listed gone.found gone.left gone.perm (λ pass. Contains a.history.names pass.note.name) kept.named;
        points_room = omega (arith, points_left (directory_in a) who p desk.listed gone.found gone.left gone.perm, kept.points_room);
        objects_room = omega (arith, objects_left (directory_in a) who p desk.listed gone.found gone.left gone.perm, kept.objects_room);
        stamps = stamps_stay (sealed_in a) kept.stamps (directory_in (record a { passes = desk })) refl refl;
      }

  -- where it wasn't, and its pins are gone with it
  pub kept_ended : p.reaped ≡ None → (objects : Shelf) (table : Table) (history : PointLog) → IsWhole (directory_in (record a { objects = objects; versions = table; passes = desk; history = history }))
      → table.pins ≡ unpinned p.pinned a.versions.pins → origins table.listed ≡ origins a.versions.listed → history.names ≡ a.history.names → history.keeps ≡ a.history.keeps → a.history.room ≤ history.room + 1
      → a.objects.room ≤ objects.room + one_if (may_append p.note.kind) → IsKept (record a { objects = objects; versions = table; passes = desk; history = history })
  kept_ended live objects table history whole pins same names keeps points_room objects_room =
      let one : one_if (is_live p.reaped) ≡ 1 = ap (λ (r : Option ℕ). one_if (is_live r)) live in
      let also : one_if (may_append p.note.kind && is_live p.reaped) ≡ one_if (may_append p.note.kind) = ap (λ (r : Option ℕ). one_if (may_append p.note.kind && is_live r)) live ∙ with_true (may_append p.note.kind) in
      record {
        stripes = kept.stripes;
        keeps = keeps ∙ kept.keeps;
        desk = gone.stripe ∙ kept.desk;
        whole = whole;
        counted = ap length pins ∙ length-unpinned p.pinned a.versions.pins ∙ kept.counted ∙ sym (same_count a.versions.listed table.listed same);
        pins = λ v. ap (λ cs. get_or cs v 0) pins ∙ pins_ended (directory_in a) who p desk.listed gone.found gone.left gone.perm a.versions.pins v live (kept.pins v);
        named =
            subst (λ names. All (λ pass. Contains names pass.note.name) desk.listed) (sym names)
            (rest_has (directory_in a) who p desk.listed gone.found gone.left gone.perm (λ pass. Contains a.history.names pass.note.name) kept.named);
        points_room = omega (arith, one, points_left (directory_in a) who p desk.listed gone.found gone.left gone.perm, kept.points_room, points_room);
        objects_room = omega (arith, also, sums (directory_in a) who p desk.listed gone.found gone.left gone.perm (λ (q : Pass). one_if (may_append q.note.kind && is_live q.reaped)), kept.objects_room, objects_room);
        stamps = stamps_stay (sealed_in a) kept.stamps (directory_in (record a { objects = objects; versions = table; passes = desk; history = history })) refl same;
      }
    where
      with_true : (b : Bool) → one_if (b && true) ≡ one_if b
      with_true true = refl
      with_true false = refl

  -- where only versions change with it
  pub kept_closed : p.reaped ≡ None → (step : DirectoryStep) (told : Told) (table : Table) → MayStep (directory_in a) who 0 step
      → (directory_in (record a { versions = table; passes = desk }), told) ≡ at_directory false who 0 step (directory_in a)
      → table.pins ≡ unpinned p.pinned a.versions.pins → origins table.listed ≡ origins a.versions.listed → IsKept (record a { versions = table; passes = desk })
  kept_closed live step told table may made pins same =
      kept_ended live a.objects table a.history (subst IsWhole (sym (ap (λ (r : Directory × Told). r.0) made)) (keeps_whole who 0 step (directory_in a) kept.stripes kept.whole may)) pins same refl refl (omega arith) (omega arith)

-- what is known of a pass that its actor's step has taken out
pub record Taken (a : Inside) (d : Directory) (held : HeldPass) (who : Actor) (p : Pass) (desk : Desk) : Type 0 where
  pub gone : Gone a who p desk
  pub view : directory_in a ≡ d
  pub same : who ≡ held.pass.actor
  pub is : record p { reaped = None } ≡ held.pass
  pub pinned : All (λ pin. pin.version < length a.versions.listed) p.pinned
  pub drawn : All (λ version. version < length a.versions.listed) p.drawn

pub taken : (a : Inside) → IsKept a → (d : Directory) → directory_in a ≡ d → (held : HeldPass) → AgreesWithPass d held → (who : Actor) → who ≡ held.pass.actor
    → (p : Pass) (desk : Desk) → find (λ pass. same_actor who pass.actor) a.passes.listed ≡ Some p → desk.listed ≡ filter (λ pass. not (same_actor who pass.actor)) a.passes.listed
    → IsPermutation a.passes.listed (p ∷ desk.listed) → desk.stripe_len ≡ a.passes.stripe_len → Taken a d held who p desk
taken a kept d view held agrees who same p desk found left perm stripe =
    record {
      gone = record { found = found; left = left; perm = perm; stripe = stripe };
      view = view;
      same = same;
      is = agreed (directory_in a) held who p same found (subst (λ (d : Directory). AgreesWithPass d held) (sym view) agrees);
      pinned = (it_has (directory_in a) who p desk.listed found left perm (HasVersions (directory_in a)) kept.whole.sound.versions).pinned;
      drawn = (it_has (directory_in a) who p desk.listed found left perm (HasVersions (directory_in a)) kept.whole.sound.versions).drawn;
    }

module _ (a : Inside) (d : Directory) (held : HeldPass) (who : Actor) (p : Pass) (desk : Desk) (t : Taken a d held who p desk) where
  -- what is said of the actor's pass there is said of it
  pub taken_said : (P : Pass → Type 0) → IfSome (pass_of held.pass.actor d) P → P p
  taken_said P said = said_of P (pass_of who (directory_in a)) p t.gone.found (subst (λ (o : Option Pass). IfSome o P) (λ i. pass_of (sym t.same i) (sym t.view i)) said)

  -- the seat that its actor has then
  pub taken_seat : (number : ℕ) (told : Option ℕ) → number ≡ p.number → record { actor = who; unused = number + 1; told = told } ≡ seat_left held told
  taken_seat number told is =
      (λ i. record { actor = t.same i; unused = (is ∙ ap (λ (q : Pass). q.number) t.is) i + 1; told = told })

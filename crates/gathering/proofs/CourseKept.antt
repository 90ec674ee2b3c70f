-- A course keeps what it keeps.
use Rattle.std.proofs.Common.{◌≡◌, ◌<◌, ◌≤◌, ◌+◌, ℕ, zero, suc, List, [], ◌∷◌, ◌++◌, length, map, take, set, get_or, All, Option, None, Some, refl, sym, ap, subst, ◌∙◌, inl, inr, get_or-set_same, get_or-set_other, arith}
use Rattle.std.proofs.lemmas.Bool.{cases_eq}
use Rattle.std.proofs.lemmas.Option.{none-some}
use Rattle.std.proofs.lemmas.List.{length-take-le, length-set, take_more_set, map_push}
use Rattle.clay_grid.specs.Shape.{Shape, chunk_count}
use Rattle.std.specs.Vec.{with_item}
use Rattle.store_map.specs.declared.placement.Found.{Found}
use Rattle.store_map.specs.declared.placement.Placement.{Placement}
use Rattle.store_map.specs.declared.placement.Placement.TheVariants as placement
use Rattle.store_core.specs.Told.{Lost, Seen, Told}
use Rattle.store_core.specs.Gathering.{lost_at}
use Rattle.run_laws.specs.Stage.{Asking, Stage, seen_of}
use Rattle.run_laws.specs.StageAfter.{next_stage}
use Rattle.gathering.specs.Courses.{CourseOf, IsAskingStage, server_at, server_of, gone_after, after_answer}
use Rattle.store_map.specs.declared.placement.LostChunk.{LostChunk}
use Rattle.gathering.specs.declared.aim.CourseAim.{CourseAim}
use Rattle.gathering.specs.declared.aim.CourseAim.TheVariants as own
use Rattle.gathering.specs.declared.course.Course.TheInside.{Inside}
use Rattle.gathering.specs.declared.ending.Ending.{Ending}
use Rattle.gathering.specs.declared.ending.Ending.TheVariants as ending
use Rattle.gathering.specs.declared.position.Position.{Position}
use Rattle.gathering.specs.declared.position.Position.TheVariants as position
use Rattle.gathering.specs.Aims.{aim_of, ending_at}
use Rattle.gathering.specs.Positions.{stage_ended, stage_of, IsPlaced}
use Rattle.gathering.specs.Hearing.{IsAsking, KeepsAim, HearsMissing}
use Rattle.gathering.specs.CourseInside.{IsCourse, course_in, seen_in, aim_in, gone_in, missing_in}
use Rattle.store_core.specs.Told.{lost_in}

-- the fields with another position
abbrev pub moved : Inside → Position → Inside
moved a result = record a { position = result }

pub course_moved : (a : Inside) (result : Position) (first gone : List ℕ) → IsCourse a → first ≡ a.first.items → gone ≡ gone_in a
    → (IsAsking result → IsAsking a.position) → KeepsAim a.position result → IsPlaced a.geometry (length first) (length gone) result → IsCourse (moved a result)
course_moved a result first gone i f g asks keeps placed =
    record {
      placed_length = i.placed_length;
      missing_length = i.missing_length;
      gone_length = i.gone_length;
      few = i.few;
      room = λ h. i.room (asks h);
      some = i.some;
      below = i.below;
      missing_below = i.missing_below;
      knows = record { is_first = i.knows.is_first; fits = keeps (aim_in a) i.knows.fits; servers = i.knows.servers };
      is_placed =
          subst (λ (n : ℕ). IsPlaced a.geometry (length a.first.items) n result)
          (ap length g ∙ length-take-le a.count a.gone.items (subst (λ (n : ℕ). a.count ≤ n) (sym i.gone_length) i.few))
          (subst (λ (l : List ℕ). IsPlaced a.geometry (length l) (length gone) result) f placed);
    }

seen_same : (a : Inside) → seen_of (aim_in a) ≡ seen_in a
seen_same a = by a.aim
  where
    by : (k : CourseAim) → seen_of (aim_of (seen_in a) k) ≡ seen_in a
    by (own.Range start end) = refl
    by (own.Chunk target) = refl

-- a missing server
abbrev pub lost_of : ℕ → Placement → Found → LostChunk
lost_of server placed found = record { server = server; placed = placed; found = found }

-- the fields with one more missing server and another position
abbrev pub missed_in : Inside → ℕ → Placement → Found → Position → Inside
missed_in a server placed found result =
    record a { missing = with_item a.missing a.count (lost_of server placed found); gone = with_item a.gone a.count server; count = a.count + 1; position = result }

-- the fields after the server that is asked was found missing are the course after that answer
pub course_missed : (a : Inside) (server : ℕ) (placed : Placement) (found : Found) (result : Position) (first gone : List ℕ) → IsCourse a → a.count < chunk_count a.geometry
    → server_of (course_in a) ≡ Some server → placed ≡ get_or a.placed.items server (placement.At 0)
    → first ≡ a.first.items → gone ≡ take (a.count + 1) (set a.gone.items a.count server)
    → HearsMissing a.geometry first gone a.position found result
    → course_in (missed_in a server placed found result) ≡ after_answer (course_in a) (Told.Missing found)
course_missed a server placed found result first gone i room asked p f is goes =
    let g = a.geometry in
    let below : a.count < length a.gone.items = subst (λ (n : ℕ). a.count < n) (sym i.gone_length) room in
    let below_missing : a.count < length a.missing.items = subst (λ (n : ℕ). a.count < n) (sym i.missing_length) room in
    let more : take (a.count + 1) (set a.gone.items a.count server) ≡ gone_in a ++ server ∷ [] = take_more_set a.gone.items a.count server below in
    let lost : lost_in (lost_of server placed found) ≡ lost_at g (seen_of (aim_in a)) server found =
    ap (λ (p : Placement). lost_in (lost_of server p found)) (p ∙ ap (λ (seen : Seen). get_or seen.placed server (placement.At 0)) (sym (seen_same a)))
    in
    let missing : map lost_in (take (a.count + 1) (set a.missing.items a.count (lost_of server placed found))) ≡ missing_in a ++ lost_at g (seen_of (aim_in a)) server found ∷ [] =
    ap (λ (l : List LostChunk). map lost_in l) (take_more_set a.missing.items a.count (lost_of server placed found) below_missing)
    ∙ map_push lost_in (take a.count a.missing.items) (lost_of server placed found)
    ∙ ap (λ (l : Lost). missing_in a ++ l ∷ []) lost
    in
    let at_place : IsPlaced g (length a.first.items) (length (gone_in a)) a.position =
    subst (λ (n : ℕ). IsPlaced g (length a.first.items) n a.position)
    (sym (length-take-le a.count a.gone.items (subst (λ (n : ℕ). a.count ≤ n) (sym i.gone_length) i.few))) i.is_placed
    in
    let goes_on : HearsMissing g a.first.items gone a.position found result = subst (λ (l : List ℕ). HearsMissing g l gone a.position found result) f goes in
    let stage : stage_of g a.first.items (take (a.count + 1) (set a.gone.items a.count server)) (map lost_in (take (a.count + 1) (set a.missing.items a.count (lost_of server placed found)))) result
    ≡ next_stage g (aim_in a) (stage_of g a.first.items (gone_in a) (missing_in a) a.position) (Told.Missing found) =
    ap (λ (l : List Lost). stage_of g a.first.items (take (a.count + 1) (set a.gone.items a.count server)) l result) missing
    ∙ ap (λ (l : List ℕ). stage_of g a.first.items l (missing_in a ++ lost_at g (seen_of (aim_in a)) server found ∷ []) result) (sym is)
    ∙ goes_on (aim_in a) (gone_in a) server (missing_in a) i.knows at_place (is ∙ more) asked
    in
    let servers : take (a.count + 1) (set a.gone.items a.count server) ≡ gone_after (Told.Missing found) (server_of (course_in a)) (gone_in a) =
    more ∙ sym (ap (λ (o : Option ℕ). gone_after (Told.Missing found) o (gone_in a)) asked)
    in
    λ j. record { geometry = g; aim = aim_in a; stage = stage j; gone = servers j }

asking_by : (p : Position) (a : Inside) → IsAskingStage (stage_of a.geometry a.first.items (gone_in a) (missing_in a) p) → IsAsking p
asking_by position.HasBytes a h = h
asking_by (position.Ended ending.TooMany) a h = h
asking_by (position.Ended ending.AtTarget) a h = h
asking_by (position.Ended (ending.TargetAway downs)) a h = h
asking_by (position.Ended ending.Short) a h = h
asking_by p a h = tt

pub is_asking : (a : Inside) (w : CourseOf) → course_in a ≡ w → IsAskingStage w.stage → IsAsking a.position
is_asking a w e h = asking_by a.position a (subst (λ (v : CourseOf). IsAskingStage v.stage) (sym e) h)

-- a course that asks has a server that it asks
pub one_is_asked : (w : CourseOf) → IsAskingStage w.stage → None ≡ server_of w → ⊥
one_is_asked w h e = by w.stage h e
  where
    by : (stage : Stage) → IsAskingStage stage → None ≡ server_at w.geometry w.aim stage → ⊥
    by (Stage.Asks asking) h e = none-some _ e
    by stage h e = h

pub there : {A : Type 0} (l : List A) (i : ℕ) (d e : A) → i < length l → get_or l i d ≡ get_or l i e
there [] i d e h = absurd (omega (arith, h))
there (x ∷ l) zero d e h = refl
there (x ∷ l) (suc i) d e h = there l i d e (omega (arith, h))

lower : (i n : ℕ) → i < n + 1 → (i ≡ n → ⊥) → i < n
lower i n h other = omega (arith, h, other)

pub missing_more : (a : Inside) (server : ℕ) (placed : Placement) (found : Found) → IsCourse a → server < chunk_count a.geometry → a.count < chunk_count a.geometry
    → (i : ℕ) → i < a.count + 1 → (other : LostChunk) → (get_or (set a.missing.items a.count (lost_of server placed found)) i other).server < chunk_count a.geometry
missing_more a server placed found k below room i h other =
    let in_missing : a.count < length a.missing.items = subst (λ (n : ℕ). a.count < n) (sym k.missing_length) room in
    elim (cases_eq i a.count) [
      | inl same ↦
          subst (λ (lost : LostChunk). lost.server < chunk_count a.geometry)
          (sym (ap (λ (j : ℕ). get_or (set a.missing.items a.count (lost_of server placed found)) j other) same ∙ get_or-set_same a.missing.items a.count (lost_of server placed found) other in_missing)) below
      | inr different ↦
          subst (λ (lost : LostChunk). lost.server < chunk_count a.geometry) (sym (get_or-set_other a.missing.items a.count i (lost_of server placed found) other different))
          (k.missing_below i (lower i a.count h different) other)
    ]

pub missed_kept : (a : Inside) (server : ℕ) (placed : Placement) (found : Found) (result : Position) (first gone : List ℕ) → IsCourse a → server < chunk_count a.geometry → a.count < chunk_count a.geometry
    → first ≡ a.first.items → gone ≡ take (a.count + 1) (set a.gone.items a.count server)
    → (IsAsking result → length gone ≤ a.geometry.parity_count) → KeepsAim a.position result → IsPlaced a.geometry (length first) (length gone) result
    → IsCourse (missed_in a server placed found result)
missed_kept a server placed found result first gone k below room f is asks keeps at_result =
    let below_gone : a.count < length a.gone.items = subst (λ (n : ℕ). a.count < n) (sym k.gone_length) room in
    let below_missing : a.count < length a.missing.items = subst (λ (n : ℕ). a.count < n) (sym k.missing_length) room in
    let gone_length : length (set a.gone.items a.count server) ≡ chunk_count a.geometry = length-set a.gone.items a.count server ∙ k.gone_length in
    let count : length gone ≡ a.count + 1 =
    ap length is ∙ length-take-le (a.count + 1) (set a.gone.items a.count server) (omega (arith, room, gone_length))
    in
    record {
      placed_length = k.placed_length;
      missing_length = length-set a.missing.items a.count (lost_of server placed found) ∙ k.missing_length;
      gone_length = gone_length;
      few = omega (arith, room);
      room = λ h. subst (λ (n : ℕ). n ≤ a.geometry.parity_count) count (asks h);
      some = k.some;
      below = k.below;
      missing_below = missing_more a server placed found k below room;
      knows =
          record {
            is_first = k.knows.is_first;
            fits = keeps (aim_in a) k.knows.fits;
            servers =
                ap (λ (l : List LostChunk). map (λ (lost : Lost). lost.server) (map lost_in l)) (take_more_set a.missing.items a.count (lost_of server placed found) below_missing)
                ∙ ap (λ (l : List Lost). map (λ (lost : Lost). lost.server) l) (map_push lost_in (take a.count a.missing.items) (lost_of server placed found))
                ∙ map_push (λ (lost : Lost). lost.server) (missing_in a) (lost_in (lost_of server placed found))
                ∙ ap (λ (l : List ℕ). l ++ server ∷ []) k.knows.servers
                ∙ sym (take_more_set a.gone.items a.count server below_gone);
          };
      is_placed =
          subst (λ (n : ℕ). IsPlaced a.geometry (length a.first.items) n result) count
          (subst (λ (l : List ℕ). IsPlaced a.geometry (length l) (length gone) result) f at_result);
    }

-- how a position's stage ends, if it does
pub ends_so : (missing : List Lost) (how : Ending) → Some how ≡ ending_at (stage_ended missing how)
ends_so missing ending.TooMany = refl
ends_so missing ending.AtTarget = refl
ends_so missing (ending.TargetAway downs) = refl
ends_so missing ending.Short = refl

-- want of memory ends any course that asks
pub short_ends : (a : Inside) (w : CourseOf) → course_in a ≡ w → IsAskingStage w.stage → course_in (moved a (position.Ended ending.Short)) ≡ after_answer w Told.Short
short_ends a w e h = (λ i. record { geometry = a.geometry; aim = aim_in a; stage = by (course_in a).stage (subst (λ (v : CourseOf). IsAskingStage v.stage) (sym e) h) i; gone = gone_in a }) ∙ ap (λ (v : CourseOf). after_answer v Told.Short) e
  where
    asks : (asking : Asking) → Stage.Short ≡ next_stage a.geometry (aim_in a) (Stage.Asks asking) Told.Short
    asks (Asking.Fetch server more missing) = refl
    asks (Asking.Look server more missing) = refl
    asks (Asking.Repair server more lost) = refl
    asks (Asking.Whole server more wanted missing) = refl
    asks (Asking.Target server) = refl

    by : (stage : Stage) → IsAskingStage stage → Stage.Short ≡ next_stage a.geometry (aim_in a) stage Told.Short
    by (Stage.Asks asking) h = asks asking
    by stage h = absurd h

-- The next part that has bytes.
use Rattle.std.proofs.Common.{◌≡◌, ◌≤◌, ℕ, suc, ◌+◌, ◌*◌, ◌-◌, min, max, filter, Bool, true, false, cond, nat_lt, List, [], ◌∷◌, ◌++◌, take, drop, All, Option, None, Some, refl, sym, ap, subst, ◌∙◌, arith}
use Rattle.std.proofs.lemmas.Bool.{ltb-false, le-ltb}
use Rattle.std.proofs.lemmas.Option.{none-some, cond_some}
use Rattle.std.specs.List.{range_with_len}
use Rattle.clay_grid.specs.Shape.{Shape, chunk_length}
use Rattle.store_core.specs.Gathering.{Part}
use Rattle.run_laws.specs.Stage.{Aim}
use Rattle.store_core.specs.GatheringParts.{chunks_in_range}
use Rattle.run_laws.specs.Stages.{fetch_stage}
use Rattle.run_laws.specs.State.{Sequel}
use Rattle.run_laws.specs.States.{stage_state, open_parts}
use Rattle.gathering.specs.Made.{bytes_between}
use Rattle.version_seal.specs.Entry.{BookOf, StampOf}
use Rattle.gathering.specs.Gathers.{GatherOf, new_gather}
use Rattle.gather_parts.specs.Wanted.{Wanted, parts_of, bytes_of}
use Rattle.gather_parts.specs.Gatherings.{bytes_at_work}
use Rattle.gather_parts.specs.States.{state_by}
use Rattle.gather_parts.specs.Steps.{next_of}
use Rattle.gather_parts.specs.Inside.{IsAtWork}
use Rattle.gather_parts.proofs.PartStages.{first_of_part}

-- what holds of all holds of those after the first
pub after_first : {A : Type 0} (P : A → Type 0) (all : List A) (x : A) (xs : List A) → all ≡ x ∷ xs → All P all → All P xs
after_first P all x xs e h = λ k d below. subst (All P) e h (suc k) d (omega (arith, below))

pub of_first : {A : Type 0} (P : A → Type 0) (all : List A) (x : A) (xs : List A) → all ≡ x ∷ xs → All P all → P x
of_first P all x xs e h = subst (All P) e h 0 x (omega arith)

-- where a part's bytes begin and end
abbrev pub bounds_of : Wanted → ℕ × ℕ
bounds_of wanted = (wanted.part.start, wanted.part.end)

-- one without bytes is passed over
pub passed_over : (g : Shape) (wanted : Wanted) (left : List Wanted) → None ≡ cond (nat_lt wanted.part.start wanted.part.end) (Some (bounds_of wanted)) None
    → next_of g (wanted ∷ left) ≡ next_of g left
passed_over g wanted left e = by (nat_lt wanted.part.start wanted.part.end) e
  where
    begins : Option GatherOf × List Wanted
    begins = (Some (new_gather wanted.stamp g (Aim.Range wanted.part)), left)

    by : (some : Bool) → None ≡ cond some (Some (bounds_of wanted)) None → cond some begins (next_of g left) ≡ next_of g left
    by true e = absurd (none-some (bounds_of wanted) e)
    by false e = refl

-- one with bytes begins
abbrev from_to : Wanted → ℕ × ℕ → Part
from_to wanted bounds = record { seen = wanted.part.seen; start = bounds.0; end = bounds.1 }

pub begins_next : (g : Shape) (wanted : Wanted) (left : List Wanted) (bounds : ℕ × ℕ) (w : GatherOf)
    → Some bounds ≡ cond (nat_lt wanted.part.start wanted.part.end) (Some (bounds_of wanted)) None
    → w ≡ new_gather wanted.stamp g (Aim.Range (from_to wanted bounds)) → ◌≡◌ {A = Option GatherOf × List Wanted} (Some w, left) (next_of g (wanted ∷ left))
begins_next g wanted left bounds w e is =
    let some = cond_some (nat_lt wanted.part.start wanted.part.end) (bounds_of wanted) bounds (sym e) in
    λ i. cond (sym some.0 i) (Some ((is ∙ ap (λ b. new_gather wanted.stamp g (Aim.Range (from_to wanted b))) (sym some.1)) i), left) (next_of g left)

-- one that begins is at work
pub begun_at_work : (book : BookOf) (stamp : StampOf) (g : Shape) (part : Part) (w : GatherOf) → g ≡ book.geometry → stamp.home ≡ book.home
    → w ≡ new_gather stamp g (Aim.Range part) → IsAtWork book w
begun_at_work book stamp g part w code home e =
    subst (IsAtWork book) (sym e) (record { code = code; home = home; part = first_of_part g part })

-- a test that holds of none
filtered_none : {A : Type 0} (test : A → Bool) (xs : List A) → ((x : A) → test x ≡ false) → filter test xs ≡ []
filtered_none test [] none = refl
filtered_none test (x ∷ xs) none = ap (λ b. cond b (x ∷ filter test xs) (filter test xs)) (none x) ∙ filtered_none test xs none

apart : (start end from to : ℕ) → end ≤ start → min end to ≤ max start from
apart start end from to h = omega (arith, h)

-- a part without bytes has nothing to ask for
no_chunks : (g : Shape) (start end : ℕ) → end ≤ start → chunks_in_range g start end ≡ []
no_chunks g start end h =
    filtered_none (λ chunk. nat_lt (max start (chunk * chunk_length g)) (min end ((chunk + 1) * chunk_length g))) (range_with_len 0 g.data_count)
    (λ chunk. le-ltb (max start (chunk * chunk_length g)) (min end ((chunk + 1) * chunk_length g)) (apart start end (chunk * chunk_length g) ((chunk + 1) * chunk_length g) h))

-- where gatherings begin, whether the first part has bytes or not
abbrev begins_by : Shape → Wanted → List Wanted → Bool → Option GatherOf × List Wanted
begins_by g wanted left some = cond some (Some (new_gather wanted.stamp g (Aim.Range wanted.part)), left) (next_of g left)

state_next : (g : Shape) (wanted : Wanted) (left : List Wanted) (after : Sequel)
    → state_by g (parts_of (next_of g left).1) after (next_of g left).0 ≡ open_parts g (parts_of left) after
    → (some : Bool) → nat_lt wanted.part.start wanted.part.end ≡ some
    → state_by g (parts_of (begins_by g wanted left some).1) after (begins_by g wanted left some).0 ≡ open_parts g (parts_of (wanted ∷ left)) after
state_next g wanted left after ih true e = refl
state_next g wanted left after ih false e =
    ih
    ∙ ap (λ (chunks : List ℕ). stage_state (open_parts g (parts_of left) after) (Aim.Range wanted.part) (parts_of left) after (fetch_stage g wanted.part chunks []))
    (sym (no_chunks g wanted.part.start wanted.part.end (ltb-false wanted.part.start wanted.part.end e)))

-- the state of the next part and those after it is that of all
pub next_state : (g : Shape) (left : List Wanted) (after : Sequel) → state_by g (parts_of (next_of g left).1) after (next_of g left).0 ≡ open_parts g (parts_of left) after
next_state g [] after = refl
next_state g (wanted ∷ left) after = state_next g wanted left after (next_state g left after) (nat_lt wanted.part.start wanted.part.end) refl

no_bytes : (start end : ℕ) (content : List ℕ) → end ≤ start → bytes_between start end content ≡ []
no_bytes start end content h =
    let none : end - start ≡ 0 = omega (arith, h) in
    ap (λ n. take n (drop start content)) none

bytes_next : (g : Shape) (wanted : Wanted) (left : List Wanted) → bytes_at_work (next_of g left).0 ++ bytes_of (next_of g left).1 ≡ bytes_of left
    → (some : Bool) → nat_lt wanted.part.start wanted.part.end ≡ some
    → bytes_at_work (begins_by g wanted left some).0 ++ bytes_of (begins_by g wanted left some).1 ≡ bytes_of (wanted ∷ left)
bytes_next g wanted left ih true e = refl
bytes_next g wanted left ih false e =
    ih
    ∙ ap (λ (bytes : List ℕ). bytes ++ bytes_of left)
    (sym (no_bytes wanted.part.start wanted.part.end wanted.stamp.content (ltb-false wanted.part.start wanted.part.end e)))

-- so are its bytes and those of the parts after it
pub next_bytes : (g : Shape) (left : List Wanted) → bytes_at_work (next_of g left).0 ++ bytes_of (next_of g left).1 ≡ bytes_of left
next_bytes g [] = refl
next_bytes g (wanted ∷ left) = bytes_next g wanted left (next_bytes g left) (nat_lt wanted.part.start wanted.part.end) refl

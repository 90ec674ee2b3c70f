-- What the order of lines says of each list of a transcript.
use Rattle.std.proofs.Common.{◌≡◌, ℕ, suc, ◌+◌, ◌<◌, ◌≤◌, List, [], ◌∷◌, ◌++◌, length, refl, sym, ap, subst, ◌∙◌, arith, append_assoc, inl, inr}
use Rattle.std.specs.Prelude.{map, All}
use Rattle.std.specs.List.{AllPairs, range_with_len}
use Rattle.std.proofs.Math.Nat.{lt_trans}
use Rattle.std.proofs.lemmas.Bool.{ltb-true}
use Rattle.std.proofs.lemmas.List.Elements.{All-nil, All-cons, All-weaker}
use Rattle.std.proofs.lemmas.List.Kept.{AllPairs-cons}
use Rattle.transcript_text.specs.Text.{text_of}
use Rattle.store_map.specs.declared.line.HLine.{HLine}
use Rattle.store_map.specs.declared.line.TLine.{TLine}
use Rattle.store_map.specs.declared.transcript.Transcript.{Transcript}
use Rattle.transcript_read.specs.ListLaws.{HasOrderedLists}
use Rattle.transcript_read.specs.Order.{servers_at, place_of, IsBefore}
use Rattle.transcript_read.specs.WellFormed.{AreInOrder, place_after, IsWellFormed, lines_of}
use Rattle.transcript_read.specs.declared.transcript_line.Line.{Line}
use Rattle.transcript_read.specs.declared.transcript_line.Line.TheVariants.{History, Refused, Repair, Unanswered, Object, Takes, Server, End}
use Rattle.transcript_read.specs.declared.transcript_place.TranscriptPlace.{TranscriptPlace}
use Rattle.transcript_read.specs.declared.transcript_place.TranscriptPlace.TheVariants as at
use Rattle.transcript_read.proofs.OrderLaws.{few_lines, whole_text}

no_pairs : {X : Type 0} (R : X → X → Type 0) → AllPairs R []
no_pairs R = λ i j d before within. absurd (omega (arith, within))

pub lines_within : (t : Transcript) → length (lines_of t) ≤ length (text_of t)
lines_within t = subst (λ (text : List ℕ). length (lines_of t) ≤ length text) (whole_text t) (few_lines (lines_of t))

-- ---- lines before and behind

first_part : (n : ℕ) (p : TranscriptPlace) (xs ys : List Line) → AreInOrder n p (xs ++ ys) → AreInOrder n p xs
first_part n p [] ys order = tt
first_part n p (x ∷ xs) ys order = (order.0, order.1, first_part n (place_of x) xs ys order.2)

second_part : (n : ℕ) (p : TranscriptPlace) (xs ys : List Line) → AreInOrder n p (xs ++ ys) → AreInOrder n (place_after p xs) ys
second_part n p [] ys order = order
second_part n p (x ∷ xs) ys order = second_part n (place_of x) xs ys order.2

after_both : (p : TranscriptPlace) (xs ys : List Line) → place_after p (xs ++ ys) ≡ place_after (place_after p xs) ys
after_both p [] ys = refl
after_both p (x ∷ xs) ys = after_both (place_of x) xs ys

-- ---- the history

is_later : (point other : ℕ) → IsBefore (at.History point) (at.History other) → point < other
is_later point other (inl lower) = absurd (omega (arith, lower))
is_later point other (inr same) = ltb-true point other same.1

points_rise : (n point : ℕ) (lines : List HLine) → AreInOrder n (at.History point) (map History lines)
    → All (λ line. point < line.point) lines × AllPairs (λ line other. line.point < other.point) lines
points_rise n point [] order = (All-nil (λ line. point < line.point), no_pairs (λ line other. line.point < other.point))
points_rise n point (line ∷ lines) order =
    let later : point < line.point = is_later point line.point order.1 in
    let rest = points_rise n line.point lines order.2 in (
      All-cons (λ other. point < other.point) line lines later (All-weaker (λ other. line.point < other.point) (λ other. point < other.point) (λ other h. lt_trans later h) lines rest.0),
      AllPairs-cons (λ one other. one.point < other.point) line lines rest.0 rest.1,
    )

all_points_rise : (n : ℕ) (lines : List HLine) → AreInOrder n at.Start (map History lines) → AllPairs (λ line other. line.point < other.point) lines
all_points_rise n [] order = no_pairs (λ line other. line.point < other.point)
all_points_rise n (line ∷ lines) order =
    let rest = points_rise n line.point lines order.2 in
    AllPairs-cons (λ one other. one.point < other.point) line lines rest.0 rest.1

-- ---- the servers

-- a kind without servers
kept : {A : Type 0} (f : A → Line) → ((x : A) → servers_at (place_of (f x)) ≡ 0) → (p : TranscriptPlace) (xs : List A) → servers_at p ≡ 0 → servers_at (place_after p (map f xs)) ≡ 0
kept f none p [] e = e
kept f none p (x ∷ xs) e = kept f none (place_of (f x)) xs (none x)

kept_both : (p : TranscriptPlace) (xs ys : List Line) → servers_at (place_after p xs) ≡ 0 → ((q : TranscriptPlace) → servers_at q ≡ 0 → servers_at (place_after q ys) ≡ 0) → servers_at (place_after p (xs ++ ys)) ≡ 0
kept_both p xs ys e step = ap servers_at (after_both p xs ys) ∙ step (place_after p xs) e

servers_rise : (n : ℕ) (p : TranscriptPlace) (k : ℕ) (lines : List TLine) → servers_at p ≡ k → AreInOrder n p (map Server lines ++ End ∷ [])
    → (map (λ line. line.server) lines ≡ range_with_len k (length lines)) × (k + length lines ≡ n)
servers_rise n p k [] e order = (refl, (let none : k + 0 ≡ k = omega arith in none ∙ sym e ∙ order.1.1))
servers_rise n p k (line ∷ lines) e order =
    let here : line.server ≡ k = order.1.1 ∙ e in
    let rest = servers_rise n (at.Servers (line.server + 1)) (k + 1) lines (ap (λ (m : ℕ). m + 1) here) order.2 in
    let count : k + suc (length lines) ≡ k + 1 + length lines = omega arith in
    ((λ i. here i ∷ rest.0 i), count ∙ rest.1)

pub ordered_lists : (n : ℕ) (t : Transcript) → IsWellFormed n t → HasOrderedLists n t
ordered_lists n t order =
    let h = map History t.history in
    let x = map Refused t.refused in
    let r = map Repair t.repairs in
    let o = map Unanswered t.unanswered in
    let l = map Object t.objects in
    let g = map Takes t.takes in
    let s = map Server t.servers in
    let before = h ++ x ++ r ++ o ++ l ++ g in
    let first = first_part n at.Start h x (first_part n at.Start (h ++ x) r (first_part n at.Start (h ++ x ++ r) o (first_part n at.Start (h ++ x ++ r ++ o) l
    (first_part n at.Start (h ++ x ++ r ++ o ++ l) g (first_part n at.Start before s (first_part n at.Start (before ++ s) (End ∷ []) order)))))) in
    let none : servers_at (place_after at.Start before) ≡ 0 =
    kept_both at.Start (h ++ x ++ r ++ o ++ l) g
    (kept_both at.Start (h ++ x ++ r ++ o) l
    (kept_both at.Start (h ++ x ++ r) o
    (kept_both at.Start (h ++ x) r
    (kept_both at.Start h x (kept History (λ a. refl) at.Start t.history refl) (λ q e. kept Refused (λ a. refl) q t.refused e))
    (λ q e. kept Repair (λ a. refl) q t.repairs e))
    (λ q e. kept Unanswered (λ a. refl) q t.unanswered e))
    (λ q e. kept Object (λ a. refl) q t.objects e))
    (λ q e. kept Takes (λ a. refl) q t.takes e) in
    let last = second_part n at.Start before (s ++ End ∷ []) (subst (AreInOrder n at.Start) (append_assoc before s (End ∷ [])) order) in
    let rise = servers_rise n (place_after at.Start before) 0 t.servers none last in
    let count : length t.servers ≡ n = (let none : 0 + length t.servers ≡ length t.servers = omega arith in sym none ∙ rise.1) in
    record {
      points = all_points_rise n t.history first;
      servers_in_order = rise.0 ∙ ap (range_with_len 0) count;
    }

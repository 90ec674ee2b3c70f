-- How many versions a call may yet draw, by its phase and the tries that it has left.
use Rattle.std.proofs.Common.{◌≡◌, ℕ, zero, suc, ◌+◌, ◌-◌, ◌*◌, ◌≤◌, true, nat_eq, nat_le, ◌||◌, List, length, IsTrue, sym, ap, subst, arith, mul-le-mul_right, zero-le, inl, inr, ◌⊎◌}
use Rattle.std.proofs.lemmas.Bool.{leb-true, eqb-true, and_parts, or_cases}
use mathlib.Core.Bool.{beq}
use Rattle.clay_grid.specs.Shape.{Shape}
use Rattle.store_core.specs.Told.{Told}
use Rattle.store_core.specs.Note.{Kind}
use Rattle.store_core.specs.Bounds.{touched_count, draws_by, draw_bound}
use Rattle.store_core.specs.NextAct.{Job, next_act}
use Rattle.store_core.specs.Tell.{tell}
use Rattle.store_core.specs.PlaceLaws.{new_versions}
use Rattle.run_laws.proofs.Phases.{Phase, phase_of, has_pass, pass_after, rank, rank_moves, moves}
use Rattle.run_laws.proofs.CallMoves.{changes, CountsChanges, counts_changes}
use Rattle.run_laws.proofs.Proper.{tries_by}

-- with so many tries left, of which the try that has begun is one, and so many stripes that each try draws
abbrev pub by_rank : ℕ → ℕ → ℕ → ℕ
by_rank zero tries touched = 0
by_rank (suc zero) tries touched = (tries - 1) * touched
by_rank (suc (suc zero)) tries touched = (tries - 1) * touched + touched
by_rank (suc (suc (suc more))) tries touched = tries * touched

-- only a put or a write draws
abbrev pub draws_of : Kind → ℕ → ℕ → ℕ → ℕ
draws_of Kind.Put at tries touched = by_rank at tries touched
draws_of Kind.Write at tries touched = by_rank at tries touched
draws_of _ at tries touched = 0

-- the versions that a call may yet draw, by what it was told
abbrev pub draws_told : Shape → ℕ → Job → List Told → ℕ
draws_told g tries job told =
    draws_of job.note.kind (rank (phase_of (next_act g tries job told))) (tries_by job.note.kind tries - changes told) (touched_count g job.note)

-- ---- arithmetic
-- one try more
one_try : (tries touched : ℕ) → 1 ≤ tries → tries * touched ≡ (tries - 1) * touched + touched
one_try zero touched h = absurd (omega (arith, h))
one_try (suc tries) touched h =
    let e : suc tries - 1 ≡ tries = omega arith in
    subst (λ n. suc tries * touched ≡ n * touched + touched) (sym e) (omega arith)

-- a lower rank draws no more
rank_falls : (before after tries touched : ℕ) → after ≤ before → (3 ≤ before → 1 ≤ tries) → by_rank after tries touched ≤ by_rank before tries touched
rank_falls before zero tries touched h some = zero-le
rank_falls zero (suc after) tries touched h some = absurd (omega (arith, h))
rank_falls (suc zero) (suc zero) tries touched h some = omega arith
rank_falls (suc zero) (suc (suc after)) tries touched h some = absurd (omega (arith, h))
rank_falls (suc (suc zero)) (suc zero) tries touched h some = let x : ℕ = (tries - 1) * touched in omega arith
rank_falls (suc (suc zero)) (suc (suc zero)) tries touched h some = omega arith
rank_falls (suc (suc zero)) (suc (suc (suc after))) tries touched h some = absurd (omega (arith, h))
rank_falls (suc (suc (suc before))) (suc zero) tries touched h some =
    let e : tries * touched ≡ (tries - 1) * touched + touched = one_try tries touched (some (omega arith)) in
    let x : ℕ = (tries - 1) * touched in
    omega (arith, e)
rank_falls (suc (suc (suc before))) (suc (suc zero)) tries touched h some =
    let e : tries * touched ≡ (tries - 1) * touched + touched = one_try tries touched (some (omega arith)) in
    omega (arith, e)
rank_falls (suc (suc (suc before))) (suc (suc (suc after))) tries touched h some = omega arith

drawn_falls : (after tries touched count : ℕ) → after ≤ 1 → count ≤ touched → by_rank after tries touched + count ≤ by_rank 2 tries touched
drawn_falls zero tries touched count h fits = let x : ℕ = (tries - 1) * touched in omega (arith, fits)
drawn_falls (suc zero) tries touched count h fits = let x : ℕ = (tries - 1) * touched in omega (arith, fits)
drawn_falls (suc (suc after)) tries touched count h fits = absurd (omega (arith, h))

again_falls : (tries left touched : ℕ) → left ≤ tries - 1 → by_rank 3 left touched ≤ by_rank 1 tries touched
again_falls tries left touched h = mul-le-mul_right touched h

-- no rank draws more than all tries
rank_most : (at tries most touched : ℕ) → tries ≤ most → 1 ≤ most → by_rank at tries touched ≤ most * touched
rank_most zero tries most touched h some = zero-le
rank_most (suc zero) tries most touched h some = let k : tries - 1 ≤ most = omega (arith, h) in mul-le-mul_right touched k
rank_most (suc (suc zero)) tries most touched h some =
    let k : tries - 1 ≤ most - 1 = omega (arith, h) in
    let low : (tries - 1) * touched ≤ (most - 1) * touched = mul-le-mul_right touched k in
    let e : most * touched ≡ (most - 1) * touched + touched = one_try most touched some in
    let x : ℕ = (tries - 1) * touched in
    let y : ℕ = (most - 1) * touched in
    omega (arith, low, e)
rank_most (suc (suc (suc more))) tries most touched h some = mul-le-mul_right touched h

-- ---- an answer
-- the tries that are left after an answer
abbrev TriesMove : Told → ℕ → ℕ → Type 0
TriesMove (Told.Changed base newer) before after = after ≤ before - 1
TriesMove (Told.Done point) before after = Unit {0}
TriesMove answer before after = after ≡ before

tries_move : (most : ℕ) (answer : Told) (before after : ℕ) → CountsChanges answer before after → TriesMove answer (most - before) (most - after)
tries_move most (Told.Changed base newer) before after h = omega (arith, h)
tries_move most (Told.Done point) before after h = tt
tries_move most answer before after h = ap (λ n. most - n) h

plain_falls : (before after tries left touched : ℕ) → IsTrue (nat_le after before) → left ≡ tries → (3 ≤ before → 1 ≤ tries) → by_rank after left touched + 0 ≤ by_rank before tries touched
plain_falls before after tries left touched h same some =
    let falls : by_rank after tries touched ≤ by_rank before tries touched = rank_falls before after tries touched (leb-true after before h) some in
    let moved : by_rank after left touched ≡ by_rank after tries touched = ap (λ n. by_rank after n touched) same in
    let x : ℕ = by_rank after left touched in
    let y : ℕ = by_rank after tries touched in
    let z : ℕ = by_rank before tries touched in
    omega (arith, falls, moved)

-- how the draws go with each answer
by_answer : (answer : Told) (before after tries left touched : ℕ) → IsTrue (rank_moves answer before after) → TriesMove answer tries left → (3 ≤ before → 1 ≤ tries) → length (new_versions answer) ≤ touched
    → by_rank after left touched + length (new_versions answer) ≤ by_rank before tries touched
by_answer (Told.Versions versions) before after tries left touched h same some fits =
    let parts : (nat_eq before 2 ≡ true) × (nat_le after 1 ≡ true) = and_parts (nat_eq before 2) (nat_le after 1) h in
    let falls : by_rank after tries touched + length versions ≤ by_rank 2 tries touched = drawn_falls after tries touched (length versions) (leb-true after 1 parts.1) fits in
    subst (λ n. by_rank after left touched + length versions ≤ by_rank n tries touched) (sym (eqb-true before 2 parts.0))
    (subst (λ n. by_rank after n touched + length versions ≤ by_rank 2 tries touched) (sym same) falls)
by_answer (Told.Changed base newer) before after tries left touched h fewer some fits =
    let parts : (nat_eq before 1 ≡ true) × ((nat_eq after 3 || nat_eq after 0) ≡ true) = and_parts (nat_eq before 1) (nat_eq after 3 || nat_eq after 0) h in
    subst (λ n. by_rank after left touched + 0 ≤ by_rank n tries touched) (sym (eqb-true before 1 parts.0)) (by (or_cases (nat_eq after 3) (nat_eq after 0) parts.1))
  where
    by : (nat_eq after 3 ≡ true) ⊎ (nat_eq after 0 ≡ true) → by_rank after left touched + 0 ≤ by_rank 1 tries touched
    by (inl e) =
        subst (λ n. by_rank n left touched + 0 ≤ by_rank 1 tries touched) (sym (eqb-true after 3 e))
        (let falls : by_rank 3 left touched ≤ by_rank 1 tries touched = again_falls tries left touched fewer in
        let x : ℕ = left * touched in
        let y : ℕ = (tries - 1) * touched in
        omega (arith, falls))
    by (inr e) = subst (λ n. by_rank n left touched + 0 ≤ by_rank 1 tries touched) (sym (eqb-true after 0 e)) zero-le
by_answer (Told.Done point) before after tries left touched h fewer some fits =
    subst (λ n. by_rank n left touched + 0 ≤ by_rank before tries touched) (sym (eqb-true after 0 h)) zero-le
by_answer answer before after tries left touched h same some fits = plain_falls before after tries left touched h same some

-- versions come only to a call that draws
abbrev pub DrawsFit : Kind → ℕ → ℕ → Type 0
DrawsFit Kind.Put count touched = count ≤ touched
DrawsFit Kind.Write count touched = count ≤ touched
DrawsFit kind count touched = count ≡ 0

-- a call that draws has a try left
abbrev pub HasSome : Kind → ℕ → Type 0
HasSome Kind.Put tries = 1 ≤ tries
HasSome Kind.Write tries = 1 ≤ tries
HasSome kind tries = Unit {0}

kind_falls : (kind : Kind) (answer : Told) (before after tries left touched : ℕ) → IsTrue (rank_moves answer before after) → TriesMove answer tries left → (3 ≤ before → HasSome kind tries)
    → DrawsFit kind (length (new_versions answer)) touched → draws_of kind after left touched + length (new_versions answer) ≤ draws_of kind before tries touched
kind_falls Kind.Put answer before after tries left touched h same some fits = by_answer answer before after tries left touched h same some fits
kind_falls Kind.Write answer before after tries left touched h same some fits = by_answer answer before after tries left touched h same some fits
kind_falls Kind.Get answer before after tries left touched h same some fits = omega (arith, fits)
kind_falls Kind.ReadAt answer before after tries left touched h same some fits = omega (arith, fits)
kind_falls Kind.Stat answer before after tries left touched h same some fits = omega (arith, fits)
kind_falls Kind.Delete answer before after tries left touched h same some fits = omega (arith, fits)
kind_falls Kind.Rebuild answer before after tries left touched h same some fits = omega (arith, fits)

-- a call's draws fall by what its answer tells as drawn
pub draws_fall : (g : Shape) (tries : ℕ) (job : Job) (told : List Told) (answer : Told)
    → IsTrue (moves answer (phase_of (next_act g tries job told)) (phase_of (next_act g tries job (tell g job told answer))))
    → (3 ≤ rank (phase_of (next_act g tries job told)) → HasSome job.note.kind (tries_by job.note.kind tries - changes told))
    → DrawsFit job.note.kind (length (new_versions answer)) (touched_count g job.note)
    → draws_told g tries job (tell g job told answer) + length (new_versions answer) ≤ draws_told g tries job told
draws_fall g tries job told answer moved some fits =
    let before : Phase = phase_of (next_act g tries job told) in
    let after : Phase = phase_of (next_act g tries job (tell g job told answer)) in
    let ranks : IsTrue (rank_moves answer (rank before) (rank after)) =
    (and_parts (beq (has_pass after) (pass_after answer (has_pass before))) (rank_moves answer (rank before) (rank after)) moved).1 in
    kind_falls job.note.kind answer (rank before) (rank after) (tries_by job.note.kind tries - changes told) (tries_by job.note.kind tries - changes (tell g job told answer)) (touched_count g job.note)
    ranks (tries_move (tries_by job.note.kind tries) answer (changes told) (changes (tell g job told answer)) (counts_changes g job told answer)) some fits

kind_most : (kind : Kind) (at tries changed touched : ℕ) → 1 ≤ tries → draws_of kind at (tries_by kind tries - changed) touched ≤ draws_by kind tries touched
kind_most Kind.Put at tries changed touched some =
    let most : by_rank at (1 - changed) touched ≤ 1 * touched = rank_most at (1 - changed) 1 touched (omega arith) (omega arith) in
    let x : ℕ = by_rank at (1 - changed) touched in
    omega (arith, most)
kind_most Kind.Write at tries changed touched some = rank_most at (tries - changed) tries touched (omega arith) some
kind_most Kind.Get at tries changed touched some = omega arith
kind_most Kind.ReadAt at tries changed touched some = omega arith
kind_most Kind.Stat at tries changed touched some = omega arith
kind_most Kind.Delete at tries changed touched some = omega arith
kind_most Kind.Rebuild at tries changed touched some = omega arith

-- a call has no more draws ahead than its bound
pub draws_most : (g : Shape) (tries : ℕ) (job : Job) (told : List Told) → 1 ≤ tries → draws_told g tries job told ≤ draw_bound g tries job.note
draws_most g tries job told some = kind_most job.note.kind (rank (phase_of (next_act g tries job told))) tries (changes told) (touched_count g job.note) some

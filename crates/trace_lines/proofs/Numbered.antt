-- One line more among those of a run's steps.
use Rattle.std.proofs.Common.{◌≡◌, ℕ, ◌+◌, ◌<◌, List, [], ◌∷◌, ◌++◌, length, get_or, take, sym, ap, ◌∙◌, arith, append_assoc, add-zero, zero-add}
use Rattle.std.specs.List.{flat_map, enumerate_from}
use Rattle.std.proofs.lemmas.Grind.{flat_map-append}
use Rattle.std.proofs.lemmas.List.{take_more, length-take-le, append-nil, get_or_default}
use Rattle.call_steps.specs.declared.step_made.Step.{Step}
use Rattle.trace_lines.specs.Lines.{step_line, lines_of}

-- numbers go on behind the first list
enumerate_from-append : {X : Type 0} (n : ℕ) (xs ys : List X) → enumerate_from n (xs ++ ys) ≡ enumerate_from n xs ++ enumerate_from (n + length xs) ys
enumerate_from-append n [] ys = ap (λ k. enumerate_from k ys) (sym (add-zero n))
enumerate_from-append n (x ∷ xs) ys =
    let e : n + 1 + length xs ≡ n + length (x ∷ xs) = omega arith in
    ap (λ l. (n, x) ∷ l) (enumerate_from-append (n + 1) xs ys ∙ ap (λ k. enumerate_from (n + 1) xs ++ enumerate_from k ys) e)

-- the lines of the steps up to one, and its own
line_more : (steps : List Step) (i : ℕ) (step : Step) → i < length steps → step ≡ get_or steps i step
    → lines_of (take (i + 1) steps) ≡ lines_of (take i steps) ++ step_line i step
line_more steps i step below is =
    let taken : take (i + 1) steps ≡ take i steps ++ step ∷ [] = take_more steps i step below ∙ ap (λ s. take i steps ++ s ∷ []) (sym is) in
    let count : 0 + length (take i steps) ≡ i = zero-add _ ∙ length-take-le i steps (omega arith) in
    ap lines_of taken
    ∙ ap (flat_map (λ entry. step_line entry.0 entry.1)) (enumerate_from-append 0 (take i steps) (step ∷ []) ∙ ap (λ k. enumerate_from 0 (take i steps) ++ (k, step) ∷ []) count)
    ∙ flat_map-append (λ entry. step_line entry.0 entry.1) (enumerate_from 0 (take i steps)) ((i, step) ∷ [])
    ∙ ap (λ l. lines_of (take i steps) ++ l) (append-nil (step_line i step))

-- what was written so far, with the next line
pub written_more : (before now next : List ℕ) (steps : List Step) (i : ℕ) (d : Step) → i < length steps
    → now ≡ before ++ lines_of (take i steps) → next ≡ now ++ step_line i (get_or steps i d) → next ≡ before ++ lines_of (take (i + 1) steps)
written_more before now next steps i d below so_far one =
    let step : Step = get_or steps i d in
    one ∙ ap (λ l. l ++ step_line i step) so_far ∙ append_assoc before (lines_of (take i steps)) (step_line i step)
    ∙ ap (λ l. before ++ l) (sym (line_more steps i step below (get_or_default steps i d step below)))

-- What is left of a text behind its first line.
use Rattle.std.proofs.Common.{◌≡◌, ℕ, ◌+◌, List, [], ◌∷◌, ◌++◌, append_assoc, length, length-append, drop, sym, ap, ◌∙◌}
use Rattle.std.proofs.lemmas.List.{drop_at}

pub behind_line : (rest line behind : List ℕ) → rest ≡ line ++ 10 ∷ behind → drop (length line + 1) rest ≡ behind
behind_line rest line behind next =
    ap (drop (length line + 1)) (next ∙ sym (append_assoc line (10 ∷ []) behind)) ∙ drop_at (line ++ 10 ∷ []) behind (length line + 1) (length-append line (10 ∷ []))

-- the line, and what is left where as many bytes are skipped as it has with its line feed
pub next_line : (seen rest line behind left : List ℕ) → seen ≡ rest → seen ≡ line ++ 10 ∷ behind → left ≡ drop (length line + 1) rest → rest ≡ line ++ 10 ∷ left
next_line seen rest line behind left is found skipped =
    let next : rest ≡ line ++ 10 ∷ behind = sym is ∙ found in
    next ∙ ap (λ (b : List ℕ). line ++ 10 ∷ b) (sym (skipped ∙ behind_line rest line behind next))

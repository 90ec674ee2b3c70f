-- The missing chunks in their places, between those that are there.
-- What a call reads of a caller's bytes is just the list that its clause names (`left_of`), so a codeword that agrees with those bytes is one
-- that fits. The exported calls are tests over geometry, whose None is IsGeometry → ⊥, and one call of a function with the tests as its
-- conditions: they need no proof files.
use Rattle.std.proofs.Common.{◌≡◌, ◌≢◌, ℕ, ◌+◌, ◌-◌, ◌*◌, ◌<◌, true, false, List, get_or, drop, None, is_none, sym, subst, ap, ◌∙◌, inl, inr, arith}
use Rattle.std.proofs.lemmas.Bool.{cases_eq, eq-eqb, ne_eqb, true≢false}
use Rattle.std.proofs.lemmas.List.{get_or-take, get_or-drop}
use Rattle.clay_grid.specs.Shape.{Shape, chunk_count, chunk_length}
use Rattle.clay_lanes.specs.Present.{FitsChunks}
use Rattle.clay_lanes.specs.Places.{AreFilledFrom}
use Rattle.clay_c.specs.Pieces.{piece_at}
use Rattle.clay_c.specs.Calls.{left_of, Recovers}
use Rattle.clay_c.proofs.Taking.{gone_left, left_at}

piece_byte : (len c b : ℕ) (bytes : List ℕ) → b < len → get_or (piece_at len bytes c) b 0 ≡ get_or bytes (c * len + b) 0
piece_byte len c b bytes h =
    get_or-take (c * len + len - c * len) (drop (c * len) bytes) b 0 (omega (arith, h)) ∙ get_or-drop (c * len) bytes b 0

is_there : (g : Shape) (present old : List ℕ) (c : ℕ) → c < chunk_count g → get_or present c 0 ≢ 0 → is_none (get_or (left_of g present old) c None) ≢ true
is_there g present old c h there none =
    let both : true ≡ false = sym none ∙ gone_left g present old c h ∙ ne_eqb (get_or present c 0) 0 there in
    true≢false both

pub recovers : (g : Shape) (present old new : List ℕ) → AreFilledFrom g (left_of g present old) old new → Recovers g present old new
recovers g present old new filled = record {
  value = λ word codeword agrees. record {
    at = λ c b hc hb.
        let fits : FitsChunks g (left_of g present old) word = record { codeword = codeword; agrees = agrees } in
        let within : c < chunk_count g = subst (λ n. c < n) codeword.count hc in
        elim (cases_eq (get_or present c 0) 0) [
          | inl zero_mark ↦
              (filled.missing c b within hb (gone_left g present old c within ∙ eq-eqb (get_or present c 0) 0 zero_mark)).at word fits
          | inr other ↦
              filled.there c b within hb (is_there g present old c within other)
              ∙ sym (piece_byte (chunk_length g) c b old hb)
              ∙ ap (λ l. get_or l b 0) (sym (agrees c (piece_at (chunk_length g) old c) (left_at g present old c within other)))
        ];
  };
  kept = λ c b hc there hb. filled.there c b hc hb (is_there g present old c hc there);
}

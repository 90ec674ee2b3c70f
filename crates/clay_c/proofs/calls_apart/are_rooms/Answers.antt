use Rattle.std.proofs.Common.{◌≡◌, ℕ, List, MutBor, length, sym, ◌∙◌, true≢false}
use Rattle.std.proofs.lemmas.List.{length-map}
use Rattle.std.proofs.lemmas.List.Elements.{All-map}
use Rattle.lost_read.proofs.ReadLaws.{all_from_map}
use Rattle.clay_c.proofs.calls_apart.are_rooms.Goals as goal

pub returns-then-rooms-count : goal.returns-then-rooms-count
returns-then-rooms-count c = (λ yes. absurd (true≢false (sym yes)), λ h. absurd (c.if-rooms-count.true (sym (length-map c.args.rooms.now (λ (room : MutBor (List ℕ)). room.now)) ∙ h.0)))

pub returns : goal.returns
returns c =
    let long : List ℕ → Type 0 = λ bytes. length bytes ≡ c.args.len in
    let bytes : MutBor (List ℕ) → List ℕ = λ room. room.now in (
      λ yes. (length-map c.args.rooms.now bytes ∙ c.if-rooms-count.false, All-map long bytes c.args.rooms.now (c.have_room.ensures.0 yes)),
      λ h. c.have_room.ensures.1 (all_from_map long bytes c.args.rooms.now h.1),
    )

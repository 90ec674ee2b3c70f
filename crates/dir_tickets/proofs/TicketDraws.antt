-- The stamps that a draw gives.
use Rattle.std.proofs.Common.{◌≡◌, ℕ, ◌+◌, ◌-◌, ◌/◌, List, length, Option, Result, Ok, Err, All, IfOk, refl, sym, ap, subst, ◌∙◌, arith}
use Rattle.std.specs.List.{range_with_len}
use Rattle.std.proofs.lemmas.List.{length-map}
use Rattle.std.proofs.lemmas.List.Elements.{All-map}
use Rattle.std.proofs.lemmas.List.FromFn.{length-range_with_len}
use Rattle.clay_grid.specs.Shape.{stripe_length}
use Rattle.store_map.specs.Limits.{stripes_met}
use Rattle.store_core.specs.PassSteps.{touched}
use Rattle.store_core.specs.Agreement.{HeldPass, ActorToken}
use Rattle.version_seal.specs.Entry.{StampOf, RequestOf}
use Rattle.stripe_stamps.specs.Sealed.{Sealed, drawn_stamp, stamps_touched}
use Rattle.stripe_dir.specs.declared.directory_answers.Drawn.{Drawn}
use Rattle.stripe_dir.specs.declared.directory_answers.Drawn.TheVariants as drawn
use Rattle.stripe_dir.specs.AnswerStamps.{AreDrawn, AreDrawnFor, IfDrawn}

-- the pass that a ticket is, where it is one
abbrev pub held_or : HeldPass → ActorToken → HeldPass
held_or h (ActorToken.Seated seat) = h
held_or h (ActorToken.InCall held) = held

plus_less : (a b : ℕ) → a + b - a ≡ b
plus_less a b = omega arith

module _ (s : Sealed) (held : HeldPass) (request : Option RequestOf) where
  abbrev stripe : ℕ
  stripe = stripe_length s.core.shape

  abbrev count : ℕ
  count = stripes_met stripe held.pass.note.offset held.pass.note.length

  abbrev first : ℕ
  first = held.pass.note.offset / stripe

  homes : All (λ (stamp : StampOf). stamp.home ≡ s.book.home) (stamps_touched s.book s.stamps stripe held.pass request)
  homes = All-map (λ (stamp : StampOf). stamp.home ≡ s.book.home) (drawn_stamp s.book s.stamps held.pass first request) (range_with_len 0 count) (λ i d less. refl)

  counted : length (stamps_touched s.book s.stamps stripe held.pass request) ≡ length (touched s.core held.pass.note)
  counted =
      length-map (range_with_len 0 count) (drawn_stamp s.book s.stamps held.pass first request)
      ∙ length-range_with_len 0 count
      ∙ ap (stripes_met stripe held.pass.note.offset) (sym (plus_less held.pass.note.offset held.pass.note.length))
      ∙ sym (length-range_with_len first (stripes_met stripe held.pass.note.offset (held.pass.note.offset + held.pass.note.length - held.pass.note.offset)))

  drawn_for : (stamps : List StampOf) → stamps ≡ stamps_touched s.book s.stamps stripe held.pass request → AreDrawnFor s held request stamps
  drawn_for stamps is =
      record {
        drawn = is;
        homes = subst (All (λ (stamp : StampOf). stamp.home ≡ s.book.home)) (sym is) homes;
        count = ap length is ∙ counted;
      }

  pub if_drawn : {S P E : Type 0} (answer : Result (Drawn S P) E) → AreDrawn s held.pass request answer → IfOk answer (IfDrawn s held request)
  if_drawn (Ok (drawn.Versions pass stamps)) is = drawn_for stamps.items is
  if_drawn (Ok (drawn.Reaped seat at)) is = tt
  if_drawn (Err e) is = tt

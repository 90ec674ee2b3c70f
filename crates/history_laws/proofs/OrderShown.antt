-- Each line of the history is of a point, and each answered call's point has its line.
use Rattle.std.proofs.Common.{◌≡◌, ℕ, zero, suc, ◌+◌, true, List, [], ◌∷◌, ◌++◌, Contains, Option, None, Some, All, refl, sym, subst}
use Rattle.std.proofs.lemmas.Option.{none-some, same_Some}
use Rattle.std.proofs.lemmas.List.Elements.{All-nil, All-cons, All-append, All-weaker, Contains-append_right}
use Rattle.std.specs.List.{slice_get}
use Rattle.store_map.specs.Limits.{size_of}
use Rattle.store_map.specs.PlainMap.{Objects}
use Rattle.store_map.specs.declared.reply.Reply.{Reply}
use Rattle.store_map.specs.declared.script.Script.{Script}
use Rattle.store_map.specs.declared.call_name.ClientCall.{ClientCall}
use Rattle.store_map.specs.declared.shown.Shown.{Shown}
use Rattle.store_map.specs.declared.line.HLine.{HLine}
use Rattle.hist_rules.specs.Named.{is_reply}
use Rattle.run_laws.proofs.SoundLists.{contains_at}
use Rattle.store_core.specs.Core.{Core}
use Rattle.store_core.specs.Directory.{Point}
use Rattle.store_core.specs.History.{call_of, answered_in, applied, shown_at, client_call, line_of, history_from, history_of}

module _ (script : Script) (core : Core) where
  abbrev from : ℕ → Objects → List Point → List HLine
  from place objects points = history_from (size_of script) (call_of script) (answered_in core) place objects points

  -- the point that a line shows
  pub record ShownPoint (points : List Point) (line : HLine) : Type 0 where
    pub at : ℕ
    pub point : Point
    pub found : slice_get points at ≡ Some point
    pub named : client_call point.actor point.number ≡ Some line.call
    pub mapped : Reply
    pub says : shown_at point.event (answered_in core point.actor point.number) mapped ≡ Some line.reply

  own_line : (place : ℕ) (point : Point) (points : List Point) (mapped : Reply) (nm : Option ClientCall) (says : Option Shown) → client_call point.actor point.number ≡ nm
      → shown_at point.event (answered_in core point.actor point.number) mapped ≡ says → All (ShownPoint (point ∷ points)) (line_of place nm says)
  own_line place point points mapped None says e k = All-nil (ShownPoint (point ∷ points))
  own_line place point points mapped (Some call) None e k = All-nil (ShownPoint (point ∷ points))
  own_line place point points mapped (Some call) (Some says) e k =
      All-cons (ShownPoint (point ∷ points)) (record { point = place; call = call; reply = says }) []
      (record { at = 0; point = point; found = refl; named = e; mapped = mapped; says = k }) (All-nil (ShownPoint (point ∷ points)))

  later_point : (point : Point) (points : List Point) (line : HLine) → ShownPoint points line → ShownPoint (point ∷ points) line
  later_point point points line of = record { at = suc of.at; point = of.point; found = of.found; named = of.named; mapped = of.mapped; says = of.says }

  all_from : (place : ℕ) (objects : Objects) (points : List Point) → All (ShownPoint points) (from place objects points)
  all_from place objects [] = All-nil (ShownPoint [])
  all_from place objects (point ∷ points) =
      let after : Objects × Reply = applied (size_of script) objects point.event (call_of script point.actor point.number) in
      All-append (ShownPoint (point ∷ points)) (line_of place (client_call point.actor point.number) (shown_at point.event (answered_in core point.actor point.number) after.1)) (from (place + 1) after.0 points)
      (own_line place point points after.1 (client_call point.actor point.number) (shown_at point.event (answered_in core point.actor point.number) after.1) refl refl)
      (All-weaker (ShownPoint points) (ShownPoint (point ∷ points)) (later_point point points) (from (place + 1) after.0 points) (all_from (place + 1) after.0 points))

  pub all_shown : All (ShownPoint core.directory.points) (history_of script core)
  all_shown = all_from 0 [] core.directory.points

  -- ---- the line of a call
  abbrev pub Replied : Option Shown → Type 0
  Replied None = ⊥
  Replied (Some says) = is_reply says ≡ true

  pub record LineOf (lines : List HLine) (call : ClientCall) : Type 0 where
    pub line : HLine
    pub stands : Contains lines line
    pub of_call : line.call ≡ call
    pub replied : is_reply line.reply ≡ true

  head_line : (place : ℕ) (call : ClientCall) (rest : List HLine) (nm : Option ClientCall) (says : Option Shown) → nm ≡ Some call → Replied says → LineOf (line_of place nm says ++ rest) call
  head_line place call rest None says e replied = absurd (none-some call e)
  head_line place call rest (Some other) None e replied = absurd replied
  head_line place call rest (Some other) (Some says) e replied =
      record {
        line = record { point = place; call = other; reply = says };
        stands = contains_at (record { point = place; call = other; reply = says } ∷ rest) 0 (record { point = place; call = other; reply = says }) refl;
        of_call = same_Some other call e;
        replied = replied;
      }

  tail_line : (some rest : List HLine) (call : ClientCall) → LineOf rest call → LineOf (some ++ rest) call
  tail_line some rest call of = record { line = of.line; stands = Contains-append_right some rest of.line of.stands; of_call = of.of_call; replied = of.replied }

  line_from : (place : ℕ) (objects : Objects) (points : List Point) (at : ℕ) (point : Point) → slice_get points at ≡ Some point → (call : ClientCall) → client_call point.actor point.number ≡ Some call
      → ((mapped : Reply) → Replied (shown_at point.event (answered_in core point.actor point.number) mapped)) → LineOf (from place objects points) call
  line_from place objects [] at point e call named replied = absurd (none-some point e)
  line_from place objects (other ∷ points) zero point e call named replied =
      let same : other ≡ point = same_Some other point e in
      let after : Objects × Reply = applied (size_of script) objects other.event (call_of script other.actor other.number) in
      head_line place call (from (place + 1) after.0 points) (client_call other.actor other.number) (shown_at other.event (answered_in core other.actor other.number) after.1)
      (subst (λ (p : Point). client_call p.actor p.number ≡ Some call) (sym same) named)
      (subst (λ (p : Point). Replied (shown_at p.event (answered_in core p.actor p.number) after.1)) (sym same) (replied after.1))
  line_from place objects (other ∷ points) (suc at) point e call named replied =
      let after : Objects × Reply = applied (size_of script) objects other.event (call_of script other.actor other.number) in
      tail_line (line_of place (client_call other.actor other.number) (shown_at other.event (answered_in core other.actor other.number) after.1)) (from (place + 1) after.0 points) call
      (line_from (place + 1) after.0 points at point e call named replied)

  pub line_there : (at : ℕ) (point : Point) → slice_get core.directory.points at ≡ Some point → (call : ClientCall) → client_call point.actor point.number ≡ Some call
      → ((mapped : Reply) → Replied (shown_at point.event (answered_in core point.actor point.number) mapped)) → LineOf (history_of script core) call
  line_there at point e call named replied = line_from 0 [] core.directory.points at point e call named replied

-- The calls in work: each with the room that it has for its object's versions.
use Rattle.std.specs.Prelude.{◌≡◌, ℕ, ◌/◌, List, Some, vec_capacity}
use Rattle.store_core.specs.Note.{Kind}
use Rattle.store_core.specs.Directory.{Pass}
use Rattle.dir_parts.specs.Parts.{FitsFrom}
use Rattle.dir_parts.specs.declared.passes.OpenPass.TheInside.{Inside}

-- a pass, and how many versions fit into its room
pub record Open : Type 0 where
  pub pass : Pass
  pub room : ℕ

-- the passes, at a store with stripes of this length, and how many more fit without memory
pub record Desk : Type 0 where
  pub stripe_len : ℕ
  pub listed : List Pass
  pub space : ℕ

abbrev pub open_in : Inside → Open
open_in a =
    record {
      pass = record { actor = a.actor; number = a.number; note = a.note; pinned = a.pinned.items; drawn = a.drawn.items; base = a.looked_at; reaped = a.reaped };
      room = vec_capacity a.spare;
    }

-- a write that has drawn has room for its object's versions up to its last one
abbrev pub HasRoom : ℕ → Open → Type 0
HasRoom stripe_len o = o.pass.note.kind ≡ Kind.Write → FitsFrom (o.pass.note.offset / stripe_len) o.pass.drawn o.room

-- a pass that has drawn these versions, and one that was given up at a point
abbrev pub pass_drawn : List ℕ → Pass → Pass
pass_drawn drawn pass = record pass { drawn = drawn }

abbrev pub pass_reaped : ℕ → Pass → Pass
pass_reaped point pass = record pass { reaped = Some point }

-- with what it has drawn, and with room
abbrev pub given : List ℕ → ℕ → Open → Open
given drawn room o = record { pass = record (o.pass) { drawn = drawn }; room = room }

-- given up at a point
abbrev pub reaped_at : ℕ → Open → Open
reaped_at point o = record { pass = record (o.pass) { reaped = Some point }; room = o.room }

-- The gatherings of a call's parts as callers see them: plain data.
use Rattle.std.specs.Prelude.{ℕ, List, [], ◌++◌, replicate, Option, None, Some}
use Rattle.clay_grid.specs.Shape.{chunk_count}
use Rattle.run_laws.specs.Stage.{Aim}
use Rattle.version_seal.specs.Entry.{BookOf}
pub use Rattle.gathering.specs.Made.{bytes_between}
pub use Rattle.gathering.specs.Gathers.{GatherOf}
use Rattle.gather_parts.specs.Wanted.{Wanted, bytes_of}

-- the book of the versions, the gathering that is at work, the parts after it, the bytes of those before it, and what the call took from each server
pub record GatheringsOf : Type 0 where
  pub book : BookOf
  pub current : Option GatherOf
  pub left : List Wanted
  pub bytes : List ℕ
  pub takes : List ℕ

-- of a call that has gathered nothing yet
abbrev pub new_gatherings : BookOf → GatheringsOf
new_gatherings book = record { book = book; current = None; left = []; bytes = []; takes = replicate (chunk_count book.geometry) 0 }

-- of these parts, none of which was asked for; what was taken before stays counted
abbrev pub begun : GatheringsOf → List Wanted → GatheringsOf
begun p left = record p { current = None; left = left; bytes = [] }

-- the bytes that the gathering at work gathers
abbrev pub range_bytes : Aim → List ℕ → List ℕ
range_bytes (Aim.Range part) content = bytes_between part.start part.end content
range_bytes (Aim.Chunk seen target) content = []

abbrev pub bytes_at_work : Option GatherOf → List ℕ
bytes_at_work None = []
bytes_at_work (Some w) = range_bytes w.course.aim w.stamp.content

-- all bytes that are gathered, those of the parts one after another
abbrev pub owed : GatheringsOf → List ℕ
owed p = p.bytes ++ (bytes_at_work p.current ++ bytes_of p.left)

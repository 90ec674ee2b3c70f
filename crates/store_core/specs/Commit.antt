-- The commit of a put or a write.
use Rattle.std.specs.Prelude.{ℕ, ◌+◌, ◌/◌, Bool, true, false, not, nat_eq, max, List, [], ◌∷◌, ◌++◌, length, take, drop, fold, zip, Option, None, Some, unwrap_or, bytes_eq, if◌then◌else◌}
use Rattle.clay_grid.specs.Shape.{stripe_length}
use Rattle.store_map.specs.declared.placement.Placement.{Placement}
use Rattle.store_core.specs.Lists.{change_at}
use Rattle.store_core.specs.Told.{Told}
use Rattle.store_core.specs.Note.{Kind}
use Rattle.store_core.specs.Directory.{Object, Standing, Version, Pass, Event, Directory}
use Rattle.store_core.specs.Lookups.{find_object, last_change}
use Rattle.store_core.specs.Look.{append_point, set_standing}
use Rattle.store_core.specs.PassSteps.{close_pass, give_up_drawn}

-- the same point, or none both times
abbrev pub same_point : Option ℕ → Option ℕ → Bool
same_point None None = true
same_point (Some p) (Some q) = nat_eq p q
same_point _ _ = false

-- a write whose object was changed since its look
abbrev pub is_overtaken : Kind → Option ℕ → Option ℕ → Bool
is_overtaken Kind.Write base last = not (same_point base last)
is_overtaken _ base last = false

-- an object takes the place of the one with its name; a new one goes to the end
abbrev pub put_object : Object → List Object → List Object
put_object object [] = object ∷ []
put_object object (other ∷ objects) = if bytes_eq object.name other.name then object ∷ objects else other ∷ put_object object objects

-- the object after the commit: a put makes it whole, a write changes the stripes that it drew
abbrev pub changed_object : Kind → Directory → Pass → Object → Object
changed_object Kind.Write d pass old =
    let first : ℕ = pass.note.offset / stripe_length d.shape in
    record {
      name = old.name;
      length = max old.length (pass.note.offset + pass.note.length);
      versions = take first old.versions ++ pass.drawn ++ drop (first + length pass.drawn) old.versions;
    }
changed_object _ d pass old = record { name = old.name; length = pass.note.length; versions = pass.drawn }

-- the old versions that no longer stand in it: of a put all, of a write those in whose places its drawn ones stand
abbrev pub dropped_by : Kind → Directory → Pass → List ℕ → List ℕ
dropped_by Kind.Write d pass old = take (length pass.drawn) (drop (pass.note.offset / stripe_length d.shape) old)
dropped_by _ d pass old = old

-- each drawn version becomes current, with its row of placements
abbrev pub place_all : List (ℕ × List Placement) → List Version → List Version
place_all drawn versions =
    fold (λ vs entry. change_at entry.0 (λ version. record version { placed = entry.1; standing = Standing.Current }) vs) versions drawn

-- the object's earlier versions that are dropped are superseded
abbrev pub commit_object : List (List Placement) → Pass → Object → Directory → Directory × Told
commit_object placed pass old d =
    let new : Object = changed_object pass.note.kind d pass old in
    let moved : Directory =
    record d {
      objects = put_object new d.objects;
      versions = set_standing Standing.Superseded (dropped_by pass.note.kind d pass old.versions) (place_all (zip pass.drawn placed) d.versions);
    } in
    (close_pass pass (append_point pass.actor pass.number pass.note Event.Done moved), Told.Done (length d.points))

-- a pass's commit, with a row of placements for each drawn version
abbrev pub commit : List (List Placement) → Pass → Directory → Directory × Told
commit placed pass d =
    let last : Option ℕ = last_change pass.note.name d.points in
    let old : Object = unwrap_or (find_object pass.note.name d.objects) (record { name = pass.note.name; length = 0; versions = [] }) in
    if is_overtaken pass.note.kind pass.base last then (close_pass pass (give_up_drawn pass d), Told.Changed (unwrap_or pass.base 0) (unwrap_or last 0))
    else commit_object placed pass old d

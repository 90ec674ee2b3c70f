-- The bytes that a version stands for.
use Rattle.std.specs.Prelude.{ℕ, ◌+◌, ◌*◌, ◌-◌, min, max, List, [], ◌∷◌, ◌++◌, length, get_or, take, drop, replicate, fold, Option, None, Some}
use Rattle.clay_grid.specs.Shape.{Shape, stripe_length}
use Rattle.store_map.specs.Content.{content_bytes, overwrite}
use Rattle.store_map.specs.declared.call.Call.{Call}
use Rattle.store_map.specs.declared.call.Call.TheVariants as call
use Rattle.store_map.specs.declared.script.Script.{Script}
use Rattle.store_core.specs.Calls.{Calls}
use Rattle.store_core.specs.Directory.{Version}
use Rattle.store_core.specs.History.{call_of}

-- where a call's bytes begin in its object, and the bytes; none of a call that writes none
abbrev pub written_by : Option Call → ℕ × List ℕ
written_by (Some (call.Put name content)) = (0, content_bytes content)
written_by (Some (call.Write name offset content)) = (offset, content_bytes content)
written_by _ = (0, [])

-- of bytes that begin at an offset of the object, those in a stripe, laid over the stripe's old ones
abbrev pub lay_over : Shape → ℕ → List ℕ → ℕ → List ℕ → List ℕ
lay_over g stripe old offset bytes =
    let first : ℕ = stripe * stripe_length g in
    let start : ℕ = max first offset in
    let end : ℕ = min (first + stripe_length g) (offset + length bytes) in
    overwrite old (start - first) (take (end - start) (drop (start - offset) bytes))

-- the content of the base among earlier versions' contents, or zeros
abbrev pub old_content : Shape → List (List ℕ) → Option ℕ → List ℕ
old_content g contents None = replicate (stripe_length g) 0
old_content g contents (Some base) = get_or contents base []

-- a version's content, by those of the versions before it
abbrev pub content_after : Shape → Calls → List (List ℕ) → Version → List ℕ
content_after g calls contents version =
    let written : ℕ × List ℕ = written_by (calls version.actor version.number) in
    lay_over g version.stripe (old_content g contents version.base) written.0 written.1

-- the contents of all versions, in the order in which they were drawn
abbrev pub contents_by : Shape → Calls → List Version → List (List ℕ)
contents_by g calls versions = fold (λ contents version. contents ++ content_after g calls contents version ∷ []) [] versions

-- the same for a script's calls
abbrev pub contents_of : Script → List Version → List (List ℕ)
contents_of script versions = contents_by script.geometry (call_of script) versions

-- the content of the version with this number
abbrev pub content_of : Script → List Version → ℕ → List ℕ
content_of script versions version = get_or (contents_of script versions) version []

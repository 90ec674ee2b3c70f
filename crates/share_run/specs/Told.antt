-- One more header, beside what those before it tell.
use Rattle.std.specs.Prelude.{◌≡◌, ◌<◌, ◌≤◌, ◌⊎◌, Option, None, Some, List, Ok, Err}
use Rattle.share_format.specs.Header.{Header}
use Rattle.share_run.specs.Heads.{Head, share_count}

-- what they tell with this one
abbrev pub TellsNext : List Head → Option Header → Head → Option Header → Type 0
TellsNext heads told (Err refusal) next = next ≡ told
TellsNext heads None (Ok header) next = next ≡ Some header
TellsNext heads (Some first) (Ok header) next =
    ((next ≡ Some first) × (share_count heads header ≤ share_count heads first))
    ⊎ ((next ≡ Some header) × (share_count heads first < share_count heads header))

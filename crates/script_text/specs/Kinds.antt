-- What a line of a script is, by its first word.
use Rattle.std.specs.Prelude.{ℕ, Bool, ◌||◌, List, codes, Option, None, Some, if◌then◌else◌}
use Rattle.std.specs.Str.{bytes_eq}
use Rattle.script_text.specs.declared.script_place.LineKind.{LineKind}
use Rattle.script_text.specs.declared.script_place.LineKind.TheVariants as kind

-- a client's call begins with this word
abbrev pub is_call_word : List ℕ → Bool
is_call_word word =
    bytes_eq word (codes "put") || bytes_eq word (codes "write") || bytes_eq word (codes "get")
    || bytes_eq word (codes "read") || bytes_eq word (codes "stat") || bytes_eq word (codes "delete")

-- a line of the schedule begins with this word
abbrev pub is_step_word : List ℕ → Bool
is_step_word word =
    bytes_eq word (codes "c") || bytes_eq word (codes "r") || bytes_eq word (codes "s")
    || bytes_eq word (codes "wipe") || bytes_eq word (codes "down") || bytes_eq word (codes "up") || bytes_eq word (codes "reap") || bytes_eq word (codes "drain")

-- the kind of the lines that begin with this word and stand before the blocks
abbrev pub head_named : List ℕ → Option LineKind
head_named word =
    if bytes_eq word (codes "size") then Some kind.Size
    else if bytes_eq word (codes "tries") then Some kind.Tries
    else if bytes_eq word (codes "clay") then Some kind.Clay
    else if bytes_eq word (codes "code") then Some kind.Code
    else None

-- the kind of the lines that begin with this word and stand outside a block or begin one
abbrev pub frame_named : List ℕ → Option LineKind
frame_named word =
    if bytes_eq word (codes "client") then Some kind.Client
    else if bytes_eq word (codes "repairer") then Some kind.Repairer
    else if bytes_eq word (codes "schedule") then Some kind.Schedule
    else if bytes_eq word (codes "end") then Some kind.End
    else head_named word

-- the kind of the lines that begin with this word
abbrev pub kind_named : List ℕ → Option LineKind
kind_named word =
    if is_step_word word then Some kind.Step
    else if is_call_word word then Some kind.Call
    else if bytes_eq word (codes "rebuild") then Some kind.Rebuild
    else if bytes_eq word (codes "leave") then Some kind.Leave
    else frame_named word

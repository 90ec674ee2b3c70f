-- Lines that tell the map's replies one after another, and the list of all replies beside them.
use Rattle.std.proofs.Common.{◌≡◌, ℕ, List, [], ◌∷◌, map, length, Option, None, Some, All, refl, sym, subst}
use Rattle.std.proofs.lemmas.List.Elements.{All-nil, All-cons}
use Rattle.std.specs.List.{zip, filter_map, cons_option}
use Rattle.store_map.specs.History.{replies_from, apply_all}
use Rattle.store_map.specs.Limits.{size_of}
use Rattle.store_map.specs.PlainMap.{Objects, apply}
use Rattle.store_map.specs.declared.call.Call.{Call}
use Rattle.store_map.specs.declared.reply.Reply.{Reply}
use Rattle.store_map.specs.declared.script.Script.{Script}
use Rattle.store_map.specs.declared.shown.Shown.{Shown}
use Rattle.store_map.specs.declared.line.HLine.{HLine}
use Rattle.store_map.specs.declared.line.LLine.{LLine}
use Rattle.hist_rules.specs.Calls.{call_of}
use Rattle.hist_rules.specs.MapReplies.{ShowsReply}

-- the map after a line; a line without a call changes nothing
abbrev pub after_call : ℕ → Objects → Option Call → Objects
after_call max objects None = objects
after_call max objects (Some made) = (apply max made objects).0

-- a line tells what the map replies
abbrev pub TellsReply : ℕ → Objects → Shown → Option Call → Type 0
TellsReply max objects says None = ⊥
TellsReply max objects says (Some made) = ShowsReply (Some made) (apply max made objects).1 says

-- so do these lines, one after another
abbrev pub TellReplies : Script → Objects → List HLine → Type 0
TellReplies script objects [] = Unit {0}
TellReplies script objects (line ∷ lines) =
    TellsReply (size_of script) objects line.reply (call_of script line.call)
    × TellReplies script (after_call (size_of script) objects (call_of script line.call)) lines

-- the map after all lines
abbrev pub map_from : Script → Objects → List HLine → Objects
map_from script objects [] = objects
map_from script objects (line ∷ lines) = map_from script (after_call (size_of script) objects (call_of script line.call)) lines

-- the objects of a map as lines
abbrev pub listed : Objects → List LLine
listed objects = map (λ object. record { name = object.0; length = length object.1 }) objects

module _ (script : Script) where
  -- the calls of lines
  abbrev calls : List HLine → List Call
  calls lines = filter_map (λ line. call_of script line.call) lines

  abbrev Shows : HLine × Reply → Type 0
  Shows line = ShowsReply (call_of script line.0.call) line.1 line.0.reply

  -- each line stands beside its reply
  pub replies_told : (lines : List HLine) (objects : Objects) → TellReplies script objects lines → All Shows (zip lines (replies_from (size_of script) (calls lines) objects))
  replies_told [] objects h = All-nil Shows
  replies_told (line ∷ lines) objects h = by (λ o rest. replies_told lines o rest) (call_of script line.call) refl h.0 h.1
    where
      by : ((o : Objects) → TellReplies script o lines → All Shows (zip lines (replies_from (size_of script) (calls lines) o)))
          → (found : Option Call) → call_of script line.call ≡ found → TellsReply (size_of script) objects line.reply found → TellReplies script (after_call (size_of script) objects found) lines
          → All Shows (zip (line ∷ lines) (replies_from (size_of script) (cons_option found (calls lines)) objects))
      by later None e told rest = absurd told
      by later (Some made) e told rest =
          All-cons Shows (line, (apply (size_of script) made objects).1) (zip lines (replies_from (size_of script) (calls lines) (apply (size_of script) made objects).0))
          (subst (λ (o : Option Call). ShowsReply o (apply (size_of script) made objects).1 line.reply) (sym e) told)
          (later (apply (size_of script) made objects).0 rest)

  -- and the map is that after all their calls
  pub objects_told : (lines : List HLine) (objects : Objects) → TellReplies script objects lines → map_from script objects lines ≡ apply_all (size_of script) (calls lines) objects
  objects_told [] objects h = refl
  objects_told (line ∷ lines) objects h = by (λ o rest. objects_told lines o rest) (call_of script line.call) h.0 h.1
    where
      by : ((o : Objects) → TellReplies script o lines → map_from script o lines ≡ apply_all (size_of script) (calls lines) o)
          → (found : Option Call) → TellsReply (size_of script) objects line.reply found → TellReplies script (after_call (size_of script) objects found) lines
          → map_from script (after_call (size_of script) objects found) lines ≡ apply_all (size_of script) (cons_option found (calls lines)) objects
      by later None told rest = absurd told
      by later (Some made) told rest = later (apply (size_of script) made objects).0 rest

-- The lines of a transcript. Each ends with one line feed.
use Rattle.std.specs.Prelude.{ℕ, List, ◌++◌, codes, decimal}
use Rattle.std.specs.List.{flat_map}
use Rattle.store_map.specs.declared.line.HLine.{HLine}
use Rattle.store_map.specs.declared.line.XLine.{XLine}
use Rattle.store_map.specs.declared.line.RLine.{RLine}
use Rattle.store_map.specs.declared.line.OLine.{OLine}
use Rattle.store_map.specs.declared.line.LLine.{LLine}
use Rattle.store_map.specs.declared.line.GLine.{GLine}
use Rattle.store_map.specs.declared.line.TLine.{TLine}
use Rattle.store_map.specs.CallNames.{client_text, repair_text, call_text}
use Rattle.transcript_text.specs.Words.{shown_text, cause_text, result_text}

-- H P CALL REPLY
abbrev pub h_line : HLine → List ℕ
h_line line = codes "H " ++ decimal line.point ++ codes " " ++ client_text line.call ++ codes " " ++ shown_text line.reply ++ codes "\n"

-- X CALL CAUSE
abbrev pub x_line : XLine → List ℕ
x_line line = codes "X " ++ client_text line.call ++ codes " " ++ cause_text line.cause ++ codes "\n"

-- R CALL RESULT
abbrev pub r_line : RLine → List ℕ
r_line line = codes "R " ++ repair_text line.call ++ codes " " ++ result_text line.result ++ codes "\n"

-- O CALL
abbrev pub o_line : OLine → List ℕ
o_line line = codes "O " ++ call_text line.call ++ codes "\n"

-- L NAME LENGTH
abbrev pub l_line : LLine → List ℕ
l_line line = codes "L " ++ line.name ++ codes " " ++ decimal line.length ++ codes "\n"

-- G CALL N0 N1 ..
abbrev pub g_line : GLine → List ℕ
g_line line = codes "G " ++ call_text line.call ++ flat_map (λ taken. codes " " ++ decimal taken) line.takes ++ codes "\n"

-- T J TAKEN HELD EPOCH
abbrev pub t_line : TLine → List ℕ
t_line line =
    codes "T " ++ decimal line.server ++ codes " " ++ decimal line.taken ++ codes " " ++ decimal line.held ++ codes " "
    ++ decimal line.epoch ++ codes "\n"

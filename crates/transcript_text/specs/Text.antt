-- The text of a whole transcript.
use Rattle.std.specs.Prelude.{ℕ, List, ◌++◌, codes}
use Rattle.std.specs.List.{flat_map}
use Rattle.store_map.specs.declared.transcript.Transcript.{Transcript}
use Rattle.transcript_text.specs.Lines.{h_line, x_line, r_line, o_line, l_line, g_line, t_line}

-- the lines kind by kind, and a last line `end`
abbrev pub text_of : Transcript → List ℕ
text_of t =
    flat_map h_line t.history ++ flat_map x_line t.refused ++ flat_map r_line t.repairs ++ flat_map o_line t.unanswered
    ++ flat_map l_line t.objects ++ flat_map g_line t.takes ++ flat_map t_line t.servers ++ codes "end\n"

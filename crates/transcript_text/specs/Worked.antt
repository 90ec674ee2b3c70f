-- Two transcripts and their texts.
use Rattle.std.specs.Prelude.{ℕ, List, [], ◌∷◌, ◌++◌, codes}
use Rattle.store_map.specs.declared.placement.Placement.TheVariants.{At, Skipped}
use Rattle.store_map.specs.declared.placement.Found.TheVariants.{Absent, Away}
use Rattle.store_map.specs.declared.reply.Reply.TheVariants.{Done, Bytes}
use Rattle.store_map.specs.declared.call_name.CallName.TheVariants.{Client, Repairer}
use Rattle.store_map.specs.declared.cause.Cause.TheVariants.{Unavailable, Contended}
use Rattle.store_map.specs.declared.cause.RepairResult.TheVariants.{Superseded}
use Rattle.store_map.specs.declared.shown.Shown.TheVariants.{Reply, Unfinished}
use Rattle.store_map.specs.declared.transcript.Transcript.{Transcript}

-- an object of eight bytes is put and read again
abbrev pub put_then_get : Transcript
put_then_get =
    record {
      history =
          record { point = 0; call = record { client = 0; number = 0 }; reply = Reply Done }
          ∷ record { point = 1; call = record { client = 0; number = 1 }; reply = Reply (Bytes (1 ∷ 0 ∷ 0 ∷ 0 ∷ 0 ∷ 0 ∷ 0 ∷ 0xaf ∷ [])) }
          ∷ [];
      refused = [];
      repairs = [];
      unanswered = [];
      objects = record { name = codes "a"; length = 8 } ∷ [];
      takes = [];
      servers = [];
    }

abbrev pub put_then_get_text : List ℕ
put_then_get_text =
    codes "H 0 c0.0 ok\n"
    ++ codes "H 1 c0.1 bytes hex:01000000000000af\n"
    ++ codes "L a 8\n"
    ++ codes "end\n"

-- a put whose caller got no reply, two refusals, a rebuild that came too late
abbrev pub refusals : Transcript
refusals =
    record {
      history = record { point = 0; call = record { client = 0; number = 0 }; reply = Unfinished } ∷ [];
      refused =
          record {
            call = record { client = 1; number = 0 };
            cause = Unavailable 0 (record { server = 0; placed = At 0; found = Absent 1 } ∷ record { server = 12; placed = Skipped 1; found = Away 2 } ∷ []);
          }
          ∷ record { call = record { client = 2; number = 10 }; cause = Contended ((0, 1) ∷ (1, 3) ∷ []) }
          ∷ [];
      repairs = record { call = record { repairer = 0; number = 0 }; result = Superseded 1 } ∷ [];
      unanswered = record { call = Client (record { client = 0; number = 0 }) } ∷ [];
      objects = [];
      takes = record { call = Repairer (record { repairer = 0; number = 0 }); takes = 0 ∷ 2 ∷ 20 ∷ [] } ∷ [];
      servers = record { server = 0; taken = 0; held = 1; epoch = 1 } ∷ [];
    }

abbrev pub refusals_text : List ℕ
refusals_text =
    codes "H 0 c0.0 open\n"
    ++ codes "X c1.0 unavailable stripe 0 missing 0/0/1 12/u1/a2\n"
    ++ codes "X c2.10 contended 0/1 1/3\n"
    ++ codes "R r0.0 superseded 1\n"
    ++ codes "O c0.0\n"
    ++ codes "G r0.0 0 2 20\n"
    ++ codes "T 0 0 1 1\n"
    ++ codes "end\n"

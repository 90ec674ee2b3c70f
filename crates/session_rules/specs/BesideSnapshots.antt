-- Rows: puts and writes beside a snapshot.
use Rattle.std.specs.Prelude.{[], ◌∷◌, codes}
use Rattle.session_rules.specs.Rows.{Row, row}

-- of two objects one is put anew: the snapshot has the old bytes of it, and the other's; once it is dropped the new ones alone are there
abbrev pub put_beside_a_snapshot : Row
put_beside_a_snapshot =
    row
    ((codes "0000000b 01 0161 0102030405060708", codes "00000001 00")
    ∷ (codes "0000000b 01 0162 1112131415161718", codes "00000001 00")
    ∷ (codes "00000001 09", codes "00000001 00")
    ∷ (codes "0000000b 01 0161 2122232425262728", codes "00000001 00")
    ∷ (codes "0000000b 0a 0161 00000000 00000008", codes "00000009 01 0102030405060708")
    ∷ (codes "0000000b 0a 0162 00000000 00000008", codes "00000009 01 1112131415161718")
    ∷ (codes "00000003 02 0161", codes "00000009 01 2122232425262728")
    ∷ (codes "00000001 0b", codes "00000001 00")
    ∷ (codes "0000000b 0a 0161 00000000 00000008", codes "00000001 0c")
    ∷ (codes "00000003 02 0161", codes "00000009 01 2122232425262728")
    ∷ (codes "00000003 02 0162", codes "00000009 01 1112131415161718") ∷ [])

-- a write to the last of two stripes leaves the snapshot both old ones, of which it shares the first with the object; of that the snapshot names the
-- epochs of its taking, and the object those of a rebuild since
abbrev pub write_beside_a_snapshot : Row
write_beside_a_snapshot =
    row
    ((codes "00000013 01 0161 01020304050607081112131415161718", codes "00000001 00")
    ∷ (codes "00000001 09", codes "00000001 00")
    ∷ (codes "0000000f 04 0161 00000008 2122232425262728", codes "00000001 00")
    ∷ (codes "0000000b 0a 0161 00000000 00000010", codes "00000011 01 01020304050607081112131415161718")
    ∷ (codes "00000003 02 0161", codes "00000011 01 01020304050607082122232425262728")
    ∷ (codes "00000005 07 00000000", codes "00000001 00")
    ∷ (codes "0000000b 08 0161 00000000 00000000", codes "00000001 0a")
    ∷ (codes "00000005 07 00000000", codes "00000001 00")
    ∷ (codes "00000005 07 00000001", codes "00000001 00")
    ∷ (codes "00000005 07 00000002", codes "00000001 00")
    ∷ (codes "0000000b 0a 0161 00000000 00000010", codes "00000042 06 00000000 03 00000000 0000000000000000 0000000000000002 00000001 0000000000000000 0000000000000001 00000002 0000000000000000 0000000000000001")
    ∷ (codes "00000003 02 0161", codes "00000042 06 00000000 03 00000000 0000000000000001 0000000000000002 00000001 0000000000000000 0000000000000001 00000002 0000000000000000 0000000000000001") ∷ [])

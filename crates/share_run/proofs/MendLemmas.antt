-- What a mend put into an empty sink.
use Rattle.std.proofs.Common.{◌≡◌, ℕ, List, [], ◌++◌, length, append-nil, sym, subst, ◌∙◌, ap}
use Rattle.std.proofs.Math.Seq.{drop-nil}
use Rattle.file_bytes.specs.Places.{Placed}
use Rattle.file_bytes.specs.Laid.{laid}
use Rattle.share_files.specs.Put.{PutsFile}

-- an empty sink that took such bytes makes them
pub laid_file : (Is : List ℕ → Type 0) (put now : List Placed) → put ≡ [] → PutsFile Is put now → Is (laid now)
laid_file Is put now empty puts =
    let taken : now ≡ puts.more = puts.puts ∙ ap (λ l. l ++ puts.more) empty in
    let made : laid now ≡ puts.bytes =
    ap (λ l. laid l) taken ∙ puts.laid [] ∙ ap (λ l. puts.bytes ++ l) (drop-nil (length puts.bytes)) ∙ append-nil puts.bytes in
    subst Is (sym made) puts.is

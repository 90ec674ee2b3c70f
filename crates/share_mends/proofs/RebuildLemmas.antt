-- A stripe's lost chunk from the blocks that were read.
use Rattle.std.proofs.Common.{◌≡◌, ℕ, ◌*◌, ◌<◌, Err, List, [], ◌++◌, length, get_or, Option, None, Vec, Global, refl, sym, subst, ap, ◌∙◌, arith}
use Rattle.std.proofs.lemmas.List.{drop_all}
use Rattle.std.proofs.lemmas.List.Elements.{All-nil, All-same}
use Rattle.std.specs.Prelude.{All, IsErrOf}
use Rattle.file_bytes.specs.Places.{Placed}
use Rattle.clay_grid.specs.Shape.{chunk_length}
use Rattle.share_format.specs.Blocks.{block_length}
use Rattle.share_format.specs.Shares.{block_start}
use Rattle.share_files.specs.Put.{PutsBlocks}
use Rattle.clay_aloof.specs.Shape.{AloofShape, all_chunks, grid_of}
use Rattle.clay_aloof.specs.Code.{IsCodeword}
use Rattle.share_format.specs.Joined.{is_lost, AreTooFew, IsRecoveredChunk}
use Rattle.share_files.specs.Seen.{Seen, seen_of, failed_since, Show}
use Rattle.share_files.specs.Missed.{LackBlocks}
use Rattle.share_files.specs.Asked.{AreAskedIn}
use Rattle.share_files.specs.Gathered.{Grow, IsHad, AreRead}
use Rattle.share_files.specs.Joined.{NoRotIn}
use Rattle.share_files.proofs.ReadLemmas.{grows_none}
use Rattle.share_files.proofs.AskedLemmas.{grow_asked}
use Rattle.share_files.proofs.LateLemmas.{since_both, fails_late, missing_behind, read_later, read_earlier}
use Rattle.share_files.proofs.Steps.{had_none, since_had}
use Rattle.share_files.proofs.Bytes.{blocks_have}
use Rattle.share_files.proofs.Taking.{read_had}
use Rattle.share_mends.specs.Rebuilt.{IsRebuilt, Lacks, IsLack}
use Rattle.share_mends.specs.declared.rebuilding.RebuildFault.{RebuildFault}
use Rattle.share_mends.specs.declared.rebuilding.RebuildFault.TheVariants.{TooFew, WriteFault, OutOfMemory}

-- ---- the blocks that were read

-- nothing failed since the same moment
pub none_within : (a : AloofShape) (i : ℕ) (sources : List Seen) (c : ℕ) → All (λ place. place < block_start a i) (failed_since (seen_of sources c) (seen_of sources c))
none_within a i sources c =
    let P : ℕ → Type 0 = λ place. place < block_start a i in
    All-same P (failed_since (seen_of sources c) (seen_of sources c)) []
    (drop_all (length (seen_of sources c).failed) (seen_of sources c).failed (omega arith)) (All-nil P)

module _ (a : AloofShape) (i : ℕ) (mids news : List Seen) (blocks : List (Option (Vec ℕ Global))) (count : ℕ) (long : length blocks ≡ count) (all : count ≡ all_chunks a)
    (shares : length news ≡ count) (read : AreRead a i count mids news blocks) where
  had : (files : List (List ℕ)) → Show news files → (c : ℕ) → c < all_chunks a →
      IsHad a i (get_or files c []) (failed_since (seen_of mids c) (seen_of mids c)) (failed_since (seen_of mids c) (seen_of news c)) (get_or blocks c None)
  had files shows c less =
      let within : c < count = omega (arith, less, all) in
      since_had (seen_of mids c) (seen_of mids c) (seen_of news c) (grows_none (seen_of mids c) (seen_of mids c) refl) a i (get_or files c []) (get_or blocks c None)
      ((read.read c within).had (get_or files c []) (shows c (omega (arith, within, shares))))

  pub is_rebuilt : (lost : ℕ) (slice : List (Option (Vec ℕ Global))) (chunk : List ℕ) → slice ≡ blocks → length chunk ≡ chunk_length (grid_of a) →
      (AreTooFew a slice → ⊥) → IsRecoveredChunk a slice lost chunk → IsRebuilt a lost mids news i chunk
  is_rebuilt lost slice chunk same size few recovered =
      let P : List (Option (Vec ℕ Global)) → Type 0 = λ l. AreTooFew a l → ⊥ in
      let Q : List (Option (Vec ℕ Global)) → Type 0 = λ l. IsRecoveredChunk a l lost chunk in record {
        long = size;
        from = λ files shows. record {
          blocks = blocks;
          are = record {
            count = long ∙ all;
            read = λ c less.
                read_had a i (Unit {0}) (get_or files c []) (failed_since (seen_of mids c) (seen_of mids c)) (failed_since (seen_of mids c) (seen_of news c))
                (get_or blocks c None) tt (none_within a i mids c) (had files shows c less);
            few = subst P same few;
          };
          recovered = subst Q same recovered;
        };
      }

  -- too few of them
  pub lacks_read : (slice : List (Option (Vec ℕ Global))) → slice ≡ blocks → AreTooFew a slice → Lacks a mids news i (TooFew i)
  lacks_read slice same few =
      let P : List (Option (Vec ℕ Global)) → Type 0 = λ l. AreTooFew a l in (
        refl,
        λ files shows. record {
          lost = is_lost blocks;
          many = subst P same few;
          each = λ c less gone.
              had_none a i (get_or files c []) (failed_since (seen_of mids c) (seen_of mids c)) (failed_since (seen_of mids c) (seen_of news c)) (get_or blocks c None) gone
              (had files shows c less);
        },
      )

-- ---- what failed since an earlier moment

lack_earlier : (a : AloofShape) (i : ℕ) (files : List (List ℕ)) (olds mids news : List Seen) → Grow olds mids → Grow mids news → LackBlocks a i files mids news →
    LackBlocks a i files olds news
lack_earlier a i files olds mids news one two lack = record {
  lost = lack.lost;
  many = lack.many;
  each = λ c less gone.
      missing_behind a i (get_or files c []) (failed_since (seen_of olds c) (seen_of mids c)) (failed_since (seen_of mids c) (seen_of news c))
      (failed_since (seen_of olds c) (seen_of news c)) (since_both olds mids news one two c) (lack.each c less gone);
}

-- one of the stripes lacks blocks
pub lack_among : (a : AloofShape) (i count : ℕ) (olds mids news : List Seen) (fault : RebuildFault) → i < count → Grow olds mids → Grow mids news →
    Lacks a mids news i fault → IsLack a count olds news fault
lack_among a i count olds mids news (TooFew stripe) less one two lacks =
    let P : ℕ → Type 0 = λ n. IsLack a count olds news (TooFew n) in
    subst P (sym lacks.0) (less, λ files shows. lack_earlier a i files olds mids news one two (lacks.1 files shows))
lack_among a i count olds mids news WriteFault less one two lacks = tt
lack_among a i count olds mids news OutOfMemory less one two lacks = tt

-- ---- a stripe in a row of them

module _ (a : AloofShape) (lost : ℕ) (olds mids news : List Seen) (i : ℕ) (grow : Grow olds mids)
    (within : (c : ℕ) → All (λ place. place < block_start a i) (failed_since (seen_of olds c) (seen_of mids c))) (asked : AreAskedIn a i mids news) where
  abbrev was : ℕ → List ℕ
  was c = failed_since (seen_of olds c) (seen_of mids c)

  abbrev since : ℕ → List ℕ
  since c = failed_since (seen_of mids c) (seen_of news c)

  abbrev is : ℕ → List ℕ
  is c = failed_since (seen_of olds c) (seen_of news c)

  both : (c : ℕ) → is c ≡ was c ++ since c
  both = since_both olds mids news grow (grow_asked a i mids news asked)

  -- its chunk is rebuilt also since the first moment
  pub since_first : (chunk : List ℕ) → IsRebuilt a lost mids news i chunk → IsRebuilt a lost olds news i chunk
  since_first chunk rebuilt = record {
    long = rebuilt.long;
    from = λ files shows.
        let of = rebuilt.from files shows in record {
          blocks = of.blocks;
          are = record {
            count = of.are.count;
            read = λ c less.
                read_earlier a i (Unit {0}) (get_or files c []) (was c) (since c) (is c) (both c) (within c) (get_or of.blocks c None) (of.are.read c less);
            few = of.are.few;
          };
          recovered = of.recovered;
        };
  }

  -- and one before it stays so
  pub later : length mids ≡ length news → (k : ℕ) → k < i → (chunk : List ℕ) → IsRebuilt a lost olds mids k chunk → IsRebuilt a lost olds news k chunk
  later same k before chunk rebuilt = record {
    long = rebuilt.long;
    from = λ files shows.
        let of = rebuilt.from files (λ c less. (grow_asked a i mids news asked c).shown (get_or files c []) (shows c (omega (arith, less, same)))) in record {
          blocks = of.blocks;
          are = record {
            count = of.are.count;
            read = λ c less.
                read_later a k i before (Unit {0}) (Unit {0}) (λ u. u) (λ u. u) (get_or files c []) (was c) (since c) (is c) (both c)
                (fails_late a i mids news asked c) (get_or of.blocks c None) (of.are.read c less);
            few = of.are.few;
          };
          recovered = of.recovered;
        };
  }

-- it is that of the codeword whose blocks are what passes in files that are shown
pub chunk_is : (a : AloofShape) (lost : ℕ) (olds news : List Seen) (i : ℕ) (chunk : List ℕ) → IsRebuilt a lost olds news i chunk → (files word : List (List ℕ)) →
    Show news files → IsCodeword a word → NoRotIn a i files word → chunk ≡ get_or word lost []
chunk_is a lost olds news i chunk rebuilt files word shows codeword no_rot =
    let of = rebuilt.from files shows in
    of.recovered word codeword (blocks_have a i (λ c. Unit {0}) files word olds news of.blocks of.are no_rot)

-- what holds of a code, a share and a number holds of equal ones
pub moved : (P : AloofShape → ℕ → ℕ → Type 0) (a b : AloofShape) (lost share n count : ℕ) → a ≡ b → lost ≡ share → n ≡ count → P a lost n → P b share count
moved P a b lost share n count shape same number h = subst (λ k. P b share k) number (subst (λ l. P b l n) same (subst (λ x. P x lost n) shape h))

-- ---- the blocks before a stripe that can't be rebuilt

pub puts_before : (a : AloofShape) (Was Is : ℕ → List ℕ → Type 0) (count few : ℕ) (old mid now : List Placed) →
    ((i : ℕ) → i < count → (chunk : List ℕ) → Was i chunk → Is i chunk) → few ≡ count → now ≡ mid → PutsBlocks a Was count old mid → PutsBlocks a Is few old now
puts_before a Was Is count few old mid now stays same still so = record {
  chunks = so.chunks;
  number = so.number ∙ sym same;
  are = λ i less. stays i (omega (arith, so.number, less)) (get_or so.chunks i []) (so.are i less);
  size = so.size ∙ ap (λ n. n * block_length a) (sym same);
  puts = still ∙ so.puts;
}

pub few_is : (a : AloofShape) (olds news : List Seen) (i few : ℕ) (fault : RebuildFault) → fault ≡ TooFew few → Lacks a olds news i fault → few ≡ i
few_is a olds news i few fault is lacks = let P : RebuildFault → Type 0 = λ f. Lacks a olds news i f in (subst P is lacks).0

pub err_is : {A : Type 0} (fault other : RebuildFault) → IsErrOf {T = A} (Err fault) other → fault ≡ other
err_is fault other e = cc

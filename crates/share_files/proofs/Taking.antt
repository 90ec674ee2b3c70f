-- What a sink takes, a stripe at a time.
use Rattle.std.proofs.Common.{◌≡◌, ◌≢◌, ℕ, ◌+◌, ◌-◌, ◌*◌, ◌<◌, ◌≤◌, List, [], ◌++◌, length, get_or, take, drop, Option, None, Some, Result, Ok, Err, Vec, Global, refl, sym, subst, ◌∙◌, ap, arith, inl, inr, length-append, length-drop, below_more}
use Rattle.std.specs.Prelude.{All, min, IsErrAnd, IfErr}
use Rattle.std.proofs.lemmas.List.Elements.{All-same}
use Rattle.std.proofs.lemmas.List.{length-take-le, take_all, take-take, take-append-le, drop-append-le, drop_at}
use Rattle.std.proofs.lemmas.Nat.{mul-le}
use Rattle.std.proofs.Math.Seq.{take-append-add}
use Rattle.crc64.specs.Remainder.{checksum_of}
use Rattle.clay_bytes.specs.Stream.{Accepts, AcceptsPrefix}
use Rattle.clay_bytes.proofs.StreamLemmas.{and-more, gains-then, accepts-nothing}
use Rattle.clay_aloof.specs.Shape.{AloofShape, all_chunks, stripe_bytes}
use Rattle.share_format.specs.Cut.{stripe_count}
use Rattle.share_format.specs.Header.{Header, IsHeader}
use Rattle.share_format.specs.Shares.{block_start}
use Rattle.share_format.proofs.HeaderBack.{stripe_some}
use Rattle.share_files.specs.Seen.{Seen, seen_of, failed_since, Show}
use Rattle.share_files.specs.Missed.{CountsAt}
use Rattle.share_files.specs.Asked.{AreAskedIn}
use Rattle.share_files.specs.Gathered.{IsHad, AreRead}
use Rattle.share_files.specs.StripeRead.{JoinsData, JoinsAll, JoinsStripe, IsStripeFault}
use Rattle.share_files.specs.Joined.{NoRotPasses}
use Rattle.share_files.specs.Stripes.{IsRead, IsStripeOf, HasStripe, AreJoined}
use Rattle.share_files.specs.Taken.{TakesFile, TakesAnother, TakesStripes, TakesPart, TakesUntil}
use Rattle.share_files.specs.SoFar.{TakesSoFar, AreReadSoFar}
use Rattle.share_files.specs.declared.joining.JoinFault.{JoinFault}
use Rattle.share_files.specs.declared.joining.JoinFault.TheVariants.{TooFew, Mismatch, WriteFault, OutOfMemory}
use Rattle.share_files.proofs.AskedLemmas.{grow_asked}
use Rattle.share_files.proofs.Steps.{had_none, not_missing, since_had, unread, all_count}
use Rattle.share_files.proofs.LateLemmas.{read_stays}
use Rattle.share_files.proofs.Unread.{counting, counting_count, counting_read, counting_few, counting_joined}
use Rattle.share_files.proofs.Bytes.{begins_within, joined_same, joined_file}

-- ---- what was read stays read

module _ (h : Header) (i : ℕ) (olds mids news : List Seen) (missed : List (Option ℕ)) (so : AreReadSoFar h i olds mids missed)
    (asked : AreAskedIn h.shape i mids news) where
  stripe_later : (files : List (List ℕ)) (k : ℕ) (bytes : List ℕ) → k < i → HasStripe h k files olds mids bytes → HasStripe h k files olds news bytes
  stripe_later files k bytes before has = record {
    stripe = has.stripe;
    of = record {
      blocks = has.of.blocks;
      are = record {
        count = has.of.are.count;
        read = λ c less. read_stays h.shape i olds mids news so.grow asked files k before c (get_or has.of.blocks c None) (has.of.are.read c less);
        few = has.of.are.few;
      };
      joined = has.of.joined;
    };
    part = has.part;
  }

  shown_later : length mids ≡ length news → (files : List (List ℕ)) → Show news files → Show mids files
  shown_later same files shows c less = (grow_asked h.shape i mids news asked c).shown (get_or files c []) (shows c (omega (arith, less, same)))

  joined_later : length mids ≡ length news → (bytes : List ℕ) → AreJoined h i olds mids bytes → AreJoined h i olds news bytes
  joined_later same bytes joined = record {
    size = joined.size;
    stripes = λ files shows k less. stripe_later files k bytes less (joined.stripes files (shown_later same files shows) k less);
  }

pub read_had : (a : AloofShape) (i : ℕ) (Counts : Type 0) (file failed now : List ℕ) (block : Option (Vec ℕ Global)) → Counts →
    All (λ place. place < block_start a i) failed → IsHad a i file failed now block → IsRead a i Counts file now block
read_had a i Counts file failed now None counts before had = inl (had_none a i file failed now None refl had)
read_had a i Counts file failed now (Some block) counts before had = (
  counts,
  had.0,
  had.1,
  λ has. not_missing a i file now had.1 (All-same (λ place. place < block_start a i) now failed had.2 before) (inr has),
)

-- ---- one stripe's bytes more

module _ (h : Header) (i left count : ℕ) (olds mids news : List Seen) (before after : List (Option ℕ)) (bytes : List ℕ)
    (joins : JoinsStripe h.shape i mids news before after bytes) (asked : AreAskedIn h.shape i mids news) (so : AreReadSoFar h i olds mids before) (header : IsHeader h) (within : i < stripe_count h.shape h.size)
    (all_mids : length mids ≡ all_chunks h.shape) (all_news : length news ≡ all_chunks h.shape) (left_is : left ≡ h.size - i * stripe_bytes h.shape)
    (slice : List ℕ) (slice_is : slice ≡ bytes) (long : length bytes ≡ stripe_bytes h.shape) (most : count ≡ min left (stripe_bytes h.shape)) where
  abbrev s : ℕ
  s = stripe_bytes h.shape

  abbrev piece : List ℕ
  piece = take count slice

  begins : i * s < h.size
  begins = begins_within s h.size i (stripe_some h.shape header.code) within

  counted_piece : length piece ≡ count
  counted_piece = length-take-le count slice (omega (arith, ap (λ (l : List ℕ). length l) slice_is, long, most))

  -- a block that counts and was read of a share is as it stands in its file
  was_read : (many : ℕ) (blocks : List (Option (Vec ℕ Global))) → AreRead h.shape i many mids news blocks → (files : List (List ℕ)) → Show news files → (c : ℕ) →
      c < many → c < all_chunks h.shape → CountsAt h.shape files olds news c i →
      IsRead h.shape i (CountsAt h.shape files olds news c i) (get_or files c []) (failed_since (seen_of olds c) (seen_of news c)) (get_or blocks c None)
  was_read many blocks read files shows c less within counts =
      read_had h.shape i (CountsAt h.shape files olds news c i) (get_or files c []) (failed_since (seen_of olds c) (seen_of mids c))
      (failed_since (seen_of olds c) (seen_of news c)) (get_or blocks c None) counts (so.within c)
      (since_had (seen_of olds c) (seen_of mids c) (seen_of news c) (so.grow c) h.shape i (get_or files c []) (get_or blocks c None)
      ((read.read c less).had (get_or files c []) (shows c (omega (arith, within, all_news)))))

  of_data : (files : List (List ℕ)) → Show news files → JoinsData h.shape i mids news before after bytes → IsStripeOf h.shape i files olds news bytes
  of_data files shows joined_data =
      let counts : ℕ → Type 0 = λ c. CountsAt h.shape files olds news c i in
      let file_of : ℕ → List ℕ = λ c. get_or files c [] in
      let failed_of : ℕ → List ℕ = λ c. failed_since (seen_of olds c) (seen_of news c) in
      let sum : all_chunks h.shape ≡ h.shape.data_count + h.shape.parity_count = refl in
      let read : (c : ℕ) → c < h.shape.data_count → IsRead h.shape i (counts c) (file_of c) (failed_of c) (get_or joined_data.blocks c None) =
      λ c less. was_read h.shape.data_count joined_data.blocks joined_data.is.read files shows c less (omega (arith, less, sum)) (inl less) in
      let none : (c : ℕ) → h.shape.data_count ≤ c → counts c → ⊥ =
      unread h i olds mids news before after so asked all_mids all_news joined_data.blocks joined_data.is files shows in record {
        blocks = counting h.shape i counts file_of failed_of joined_data.blocks joined_data.count joined_data.is.there read none;
        are = record {
          count = counting_count h.shape i counts file_of failed_of joined_data.blocks joined_data.count joined_data.is.there read none;
          read = counting_read h.shape i counts file_of failed_of joined_data.blocks joined_data.count joined_data.is.there read none;
          few = counting_few h.shape i counts file_of failed_of joined_data.blocks joined_data.count joined_data.is.there read none;
        };
        joined = counting_joined h.shape i counts file_of failed_of joined_data.blocks joined_data.count joined_data.is.there read none bytes joined_data.chunks;
      }

  of_all : (files : List (List ℕ)) → Show news files → JoinsAll h.shape i mids news before after bytes → IsStripeOf h.shape i files olds news bytes
  of_all files shows all = record {
    blocks = all.blocks;
    are = record {
      count = all.count;
      read = λ c less.
          was_read (all_chunks h.shape) all.blocks all.is.read files shows c less less
          (all_count h i olds mids news before after so asked all_mids all_news all.blocks all.is files shows c);
      few = all.few;
    };
    joined = all.joined;
  }

  stripe_of : (files : List (List ℕ)) → Show news files → IsStripeOf h.shape i files olds news bytes
  stripe_of files shows = elim joins [ inl joined_data ↦ of_data files shows joined_data | inr all ↦ of_all files shows all ]

  module _ (done : List ℕ) (counted : length done + left ≡ h.size) where
    place : length done ≡ i * s
    place = omega (arith, counted, left_is, begins)

    new_stripe : (files : List (List ℕ)) → Show news files → HasStripe h i files olds news (done ++ piece)
    new_stripe files shows = record {
      stripe = bytes;
      of = stripe_of files shows;
      part =
          ap (take s) (drop_at done piece (i * s) place)
          ∙ take_all s piece (omega (arith, counted_piece, most))
          ∙ ap (take count) slice_is
          ∙ ap (λ n. take n bytes) (most ∙ ap (λ n. min n s) left_is);
    }

    kept_stripe : (files : List (List ℕ)) (k : ℕ) → k < i → HasStripe h k files olds news done → HasStripe h k files olds news (done ++ piece)
    kept_stripe files k less has =
        let end : (k + 1) * s ≤ i * s = mul-le (k + 1) s i s (omega (arith, less)) (omega arith) in
        let next : (k + 1) * s ≡ k * s + s = omega arith in
        let rest : length (drop (k * s) done) ≡ length done - k * s = length-drop (k * s) done in record {
          stripe = has.stripe;
          of = has.of;
          part =
              ap (take s) (drop-append-le (k * s) done piece (omega (arith, end, next, place)))
              ∙ take-append-le s (drop (k * s) done) piece (omega (arith, end, next, place, rest))
              ∙ has.part;
        }

    joined_more : AreJoined h i olds mids done → AreJoined h (i + 1) olds news (done ++ piece)
    joined_more joined =
        let next : (i + 1) * s ≡ i * s + s = omega arith in
        let same : length mids ≡ length news = all_mids ∙ sym all_news in
        let so_far : AreJoined h i olds news done = joined_later h i olds mids news before so asked same done joined in record {
          size = omega (arith, length-append done piece, counted_piece, place, next, most, left_is, begins);
          stripes = λ files shows.
              below_more (λ k. HasStripe h k files olds news (done ++ piece)) i
              (λ k less. kept_stripe files k less (so_far.stripes files shows k less))
              (new_stripe files shows);
        }

  pub takes_more : (accepted mid now : List ℕ) (written middle rest : Option (List ℕ)) (checksum sum : ℕ) →
      TakesSoFar h i left olds mids accepted written mid middle checksum → Accepts mid middle piece now rest →
      ((done : List ℕ) → checksum ≡ checksum_of done → sum ≡ checksum_of (done ++ piece)) →
      TakesSoFar h (i + 1) (left - count) olds news accepted written now rest sum
  takes_more accepted mid now written middle rest checksum sum taken takes summed = record {
    done = taken.done ++ piece;
    takes = (
      and-more accepted mid now taken.done piece (taken.done ++ piece) taken.takes.0 takes.0 refl,
      gains-then written middle rest taken.done piece (taken.done ++ piece) taken.takes.1 takes.1 refl,
    );
    counted = omega (arith, length-append taken.done piece, counted_piece, taken.counted, most);
    summed = summed taken.done taken.summed;
    joined = joined_more taken.done taken.counted taken.joined;
  }

  -- and a prefix of them
  prefix_of : (accepted mid now : List ℕ) (written middle rest : Option (List ℕ)) (done : List ℕ) → Accepts accepted written done mid middle →
      AcceptsPrefix mid middle piece now rest → AcceptsPrefix accepted written (done ++ piece) now rest
  prefix_of accepted mid now written middle rest done takes (n, fits, took) =
      let front : take (length done + n) (done ++ piece) ≡ done ++ take n piece = take-append-add done piece n in
      let size : length (done ++ piece) ≡ length done + length piece = length-append done piece in (
        length done + n,
        omega (arith, size, fits),
        (
          and-more accepted mid now done (take n piece) (take (length done + n) (done ++ piece)) takes.0 took.0 front,
          gains-then written middle rest done (take n piece) (take (length done + n) (done ++ piece)) takes.1 took.1 front,
        ),
      )

  pub takes_part : (accepted mid now : List ℕ) (written middle rest : Option (List ℕ)) (checksum : ℕ) →
      TakesSoFar h i left olds mids accepted written mid middle checksum → AcceptsPrefix mid middle piece now rest →
      TakesPart h olds news accepted written now rest
  takes_part accepted mid now written middle rest checksum taken takes = record {
    count = i + 1;
    within = omega (arith, within);
    bytes = taken.done ++ piece;
    joined = joined_more taken.done taken.counted taken.joined;
    takes = prefix_of accepted mid now written middle rest taken.done taken.takes takes;
  }

-- nothing yet
pub takes_nothing : (h : Header) (left : ℕ) (sources : List Seen) (accepted : List ℕ) (written : Option (List ℕ)) (checksum : ℕ) → left ≡ h.size →
    checksum ≡ checksum_of [] → TakesSoFar h 0 left sources sources accepted written accepted written checksum
takes_nothing h left sources accepted written checksum all summed = record {
  done = [];
  takes = accepts-nothing accepted written;
  counted = omega (arith, all);
  summed = summed;
  joined = record {
    size = let none : 0 * stripe_bytes h.shape ≡ 0 = omega arith in omega (arith, none);
    stripes = λ files shows i less. absurd (omega (arith, less));
  };
}

-- there is no memory for a join
pub takes_none : (h : Header) (sources : List Seen) (accepted : List ℕ) (written : Option (List ℕ)) (r : Result ℕ JoinFault) → IsErrAnd r (λ fault. fault ≡ OutOfMemory) →
    IfErr r (TakesUntil h sources sources accepted written accepted written)
takes_none h sources accepted written (Ok sum) is = absurd is
takes_none h sources accepted written (Err fault) is =
    let P : JoinFault → Type 0 = λ f. TakesUntil h sources sources accepted written accepted written f in
    let none : 0 * stripe_bytes h.shape ≡ 0 = omega arith in
    subst P (sym is) (record {
      count = 0;
      stripes = record {
        within = omega arith;
        bytes = [];
        joined = record { size = omega (arith, none); stripes = λ files shows i less. absurd (omega (arith, less)) };
        takes = accepts-nothing accepted written;
      };
    })

-- ---- a stripe that can't be joined

module _ (h : Header) (i left : ℕ) (olds mids news : List Seen) (missed : List (Option ℕ)) (so : AreReadSoFar h i olds mids missed)
    (asked : AreAskedIn h.shape i mids news) (same : length mids ≡ length news) (within : i < stripe_count h.shape h.size) (accepted : List ℕ) (written : Option (List ℕ)) (now : List ℕ)
    (rest : Option (List ℕ)) (checksum : ℕ) (taken : TakesSoFar h i left olds mids accepted written now rest checksum) where
  stripes_taken : TakesStripes h i olds news accepted written now rest
  stripes_taken = record {
    within = omega (arith, within);
    bytes = taken.done;
    joined = joined_later h i olds mids news missed so asked same taken.done taken.joined;
    takes = taken.takes;
  }

  pub takes_until : (a : AloofShape) (before after : List (Option ℕ)) (fault : JoinFault) → IsStripeFault a i mids news before after fault →
      TakesUntil h olds news accepted written now rest fault
  takes_until a before after (TooFew stripe) is =
      let P : ℕ → Type 0 = λ n. TakesStripes h n olds news accepted written now rest in subst P (sym is.0) stripes_taken
  takes_until a before after Mismatch is = absurd is
  takes_until a before after WriteFault is = absurd is
  takes_until a before after OutOfMemory is = record { count = i; stripes = stripes_taken }

-- ---- at the end

pub takes_all : (h : Header) (n left : ℕ) (olds news : List Seen) (accepted : List ℕ) (written : Option (List ℕ)) (now : List ℕ) (rest : Option (List ℕ))
    (checksum : ℕ) → n ≡ stripe_count h.shape h.size → left ≡ 0 → TakesSoFar h n left olds news accepted written now rest checksum →
    TakesSoFar h (stripe_count h.shape h.size) 0 olds news accepted written now rest checksum
takes_all h n left olds news accepted written now rest checksum ended none taken =
    let P : ℕ → Type 0 = λ k. TakesSoFar h k left olds news accepted written now rest checksum in
    let Q : ℕ → Type 0 = λ k. TakesSoFar h (stripe_count h.shape h.size) k olds news accepted written now rest checksum in
    subst Q none (subst P ended taken)

module _ (h : Header) (olds news : List Seen) (accepted : List ℕ) (written : Option (List ℕ)) (now : List ℕ) (rest : Option (List ℕ)) (checksum : ℕ)
    (taken : TakesSoFar h (stripe_count h.shape h.size) 0 olds news accepted written now rest checksum) where
  pub takes_file : checksum ≡ h.checksum → TakesFile h olds news accepted written now rest
  takes_file same =
      record { file = taken.done; takes = taken.takes; size = omega (arith, taken.counted); checksum = sym taken.summed ∙ same; joined = taken.joined }

  pub takes_another : checksum ≢ h.checksum → TakesAnother h olds news accepted written now rest
  takes_another differs = record {
    file = taken.done;
    takes = taken.takes;
    size = omega (arith, taken.counted);
    checksum = λ same. differs (taken.summed ∙ same);
    joined = taken.joined;
  }

  is_file : (file : List ℕ) (files : List (List ℕ)) → Show news files → NoRotPasses h file files → taken.done ≡ file
  is_file file files shows pass = joined_file h olds news taken.done file files (omega (arith, taken.counted)) taken.joined shows pass

  pub takes_this : (file : List ℕ) (files : List (List ℕ)) → Show news files → NoRotPasses h file files → Accepts accepted written file now rest
  takes_this file files shows pass =
      let P : List ℕ → Type 0 = λ l. Accepts accepted written l now rest in
      subst P (is_file file files shows pass) taken.takes

  pub matches_this : checksum ≢ h.checksum → (file : List ℕ) (files : List (List ℕ)) → Show news files → NoRotPasses h file files → ⊥
  matches_this differs file files shows pass = differs (taken.summed ∙ ap checksum_of (is_file file files shows pass) ∙ pass.checksum)

-- ---- whose rot is found

module _ (h : Header) (olds news : List Seen) (accepted : List ℕ) (written : Option (List ℕ)) (now : List ℕ) (rest : Option (List ℕ)) (file : List ℕ)
    (files : List (List ℕ)) (shows : Show news files) (pass : NoRotPasses h file files) where
  part_of_file : (count : ℕ) (bytes : List ℕ) → count ≤ stripe_count h.shape h.size → AreJoined h count olds news bytes → AcceptsPrefix accepted written bytes now rest →
      AcceptsPrefix accepted written file now rest
  part_of_file count bytes few joined (n, fits, took) =
      let front : take n bytes ≡ take n file =
      ap (take n) (joined_same h count olds news bytes file files few joined shows pass) ∙ take-take n (length bytes) file fits in
      let P : List ℕ → Type 0 = λ l. Accepts accepted written l now rest in
      let size : length file ≡ h.size = pass.size in
      (n, omega (arith, fits, joined.size, size), subst P front took)

  all_of : (bytes : List ℕ) → Accepts accepted written bytes now rest → AcceptsPrefix accepted written bytes now rest
  all_of bytes takes =
      let P : List ℕ → Type 0 = λ l. Accepts accepted written l now rest in
      (length bytes, omega arith, subst P (sym (take_all (length bytes) bytes (omega arith))) takes)

  -- what a sink took before a fault is a prefix of the file
  pub takes_prefix : (fault : JoinFault) → TakesUntil h olds news accepted written now rest fault → AcceptsPrefix accepted written file now rest
  takes_prefix (TooFew stripe) taken = part_of_file stripe taken.bytes taken.within taken.joined (all_of taken.bytes taken.takes)
  takes_prefix Mismatch taken = part_of_file (stripe_count h.shape h.size) taken.file (omega arith) taken.joined (all_of taken.file taken.takes)
  takes_prefix WriteFault taken = part_of_file taken.count taken.bytes taken.within taken.joined taken.takes
  takes_prefix OutOfMemory taken =
      part_of_file taken.count taken.stripes.bytes taken.stripes.within taken.stripes.joined (all_of taken.stripes.bytes taken.stripes.takes)

-- the code is the header's
pub joins_of : (geometry : AloofShape) (h : Header) (i : ℕ) (mids news : List Seen) (before after : List (Option ℕ)) (bytes : List ℕ) →
    geometry ≡ h.shape → JoinsStripe geometry i mids news before after bytes → JoinsStripe h.shape i mids news before after bytes
joins_of geometry h i mids news before after bytes same joins =
    let P : AloofShape → Type 0 = λ a. JoinsStripe a i mids news before after bytes in subst P same joins

-- A stripe of which the data shares' blocks were read, or all.
use Rattle.std.specs.Prelude.{IsErrOf}
use Rattle.std.proofs.Common.{◌≡◌, ℕ, ◌<◌, ◌≤◌, ◌+◌, Bool, true, false, Ok, List, length, get_or, Option, None, Vec, Global, is_none, refl, sym, subst, ◌∙◌, ap, inl, inr, arith}
use Rattle.clay_model.specs.Left.{AreLong}
use Rattle.clay_aloof.specs.Shape.{AloofShape, all_chunks, stripe_bytes}
use Rattle.share_format.specs.Blocks.{block_length}
use Rattle.share_format.specs.Joined.{is_lost, IsJoined, AreTooFew}
use Rattle.share_format.proofs.Joining.{gathered_long}
use Rattle.share_files.specs.Seen.{Seen}
use Rattle.share_files.specs.Missed.{missed_after}
use Rattle.share_files.specs.Gathered.{AreRead, AreReadIn}
use Rattle.share_files.specs.Handed.{data_in}
use Rattle.share_files.specs.StripeRead.{LacksData, IsDataRead, IsAllRead, IsStripeRead, JoinsStripe, IsStripeFault}
use Rattle.share_files.specs.declared.joining.JoinFault.TheVariants.{TooFew}
use Rattle.share_files.proofs.ReadLemmas.{read_from, read_both, have_blocks}

module _ (a : AloofShape) (i split : ℕ) (olds mids : List Seen) (before : List (Option (Vec ℕ Global))) (blocks : List (Option (Vec ℕ Global))) (data_is : split ≡ a.data_count)
    (one : AreReadIn a i 0 split olds mids before blocks) where
  pub data_read : (missed : List (Option ℕ)) → ((c : ℕ) → c < a.data_count → is_lost blocks c ≡ false) → IsDataRead a i olds mids missed missed blocks
  data_read missed there = record {
    read = let P : ℕ → Type 0 = λ n. AreRead a i n olds mids blocks in subst P data_is (read_from a i split olds mids before blocks one);
    there = have_blocks a i split olds mids before blocks (sym data_is) one there;
    same = refl;
  }

  pub all_read : (all : ℕ) (news : List Seen) (last : List (Option (Vec ℕ Global))) (missed noted : List (Option ℕ)) → all ≡ all_chunks a → length last ≡ all_chunks a →
      AreReadIn a i split all mids news blocks last → LacksData a blocks →
      ((c : ℕ) → c < length last → get_or noted c None ≡ missed_after (get_or missed c None) i (is_lost last c)) → IsAllRead a i olds news missed noted last
  all_read all news last missed noted all_is long two lack note =
      let order : split ≤ all = (let sum : all_chunks a ≡ a.data_count + a.parity_count = refl in omega (arith, data_is, all_is, sum)) in
      record {
        lack = (lack.0, lack.1, ap is_none (two.kept lack.0 (omega (arith, lack.1, data_is))) ∙ lack.2);
        read = let P : ℕ → Type 0 = λ n. AreRead a i n olds news last in subst P all_is (read_both a i split all olds mids news before blocks last order one two);
        missed = λ c less. note c (omega (arith, less, long));
      }

-- ---- which of them it was

pub data_of : (a : AloofShape) (i : ℕ) (olds news : List Seen) (before after : List (Option ℕ)) (blocks : List (Option (Vec ℕ Global))) (whole : Bool) → whole ≡ true →
    IsStripeRead a i olds news before after blocks whole → IsDataRead a i olds news before after blocks
data_of a i olds news before after blocks whole is read = let P : Bool → Type 0 = λ b. IsStripeRead a i olds news before after blocks b in subst P is read

pub all_of : (a : AloofShape) (i : ℕ) (olds news : List Seen) (before after : List (Option ℕ)) (blocks : List (Option (Vec ℕ Global))) (whole : Bool) → whole ≡ false →
    IsStripeRead a i olds news before after blocks whole → IsAllRead a i olds news before after blocks
all_of a i olds news before after blocks whole is read = let P : Bool → Type 0 = λ b. IsStripeRead a i olds news before after blocks b in subst P is read

-- ---- what a stripe joins to

pub data_long : (a : AloofShape) (blocks : List (Option (Vec ℕ Global))) → AreLong (block_length a) blocks → length blocks ≡ all_chunks a →
    length (data_in a blocks) ≡ stripe_bytes a
data_long a blocks long all =
    let sum : all_chunks a ≡ a.data_count + a.parity_count = refl in gathered_long a blocks long a.data_count (omega (arith, all, sum))

pub ok_is_no_fault : {A E : Type 0} (x : A) (y : E) → IsErrOf {T = A} (Ok x) y → ⊥
ok_is_no_fault x y e = cc

pub joins_data : (a : AloofShape) (i : ℕ) (olds news : List Seen) (missed noted : List (Option ℕ)) (blocks : List (Option (Vec ℕ Global))) → length blocks ≡ all_chunks a →
    AreLong (block_length a) blocks → IsDataRead a i olds news missed noted blocks → JoinsStripe a i olds news missed noted (data_in a blocks)
joins_data a i olds news missed noted blocks count long is = inl (record { blocks = blocks; count = count; long = long; is = is; chunks = refl })

pub joins_all : (a : AloofShape) (i : ℕ) (olds news : List Seen) (missed noted : List (Option ℕ)) (blocks : List (Option (Vec ℕ Global))) (bytes : List ℕ) →
    length blocks ≡ all_chunks a → IsAllRead a i olds news missed noted blocks → (AreTooFew a blocks → ⊥) → IsJoined a blocks bytes →
    JoinsStripe a i olds news missed noted bytes
joins_all a i olds news missed noted blocks bytes count is few joined = inr (record { blocks = blocks; count = count; is = is; few = few; joined = joined })

pub lacks_all : (a : AloofShape) (i : ℕ) (olds news : List Seen) (missed noted : List (Option ℕ)) (blocks : List (Option (Vec ℕ Global))) → length blocks ≡ all_chunks a →
    IsAllRead a i olds news missed noted blocks → AreTooFew a blocks → IsStripeFault a i olds news missed noted (TooFew i)
lacks_all a i olds news missed noted blocks count is few = (refl, record { blocks = blocks; count = count; is = is; few = few })

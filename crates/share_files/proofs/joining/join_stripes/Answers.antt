use Rattle.std.proofs.Common.{◌≡◌, ◌+◌, ◌<◌, ℕ, List, length, refl, sym, subst, ◌∙◌, ap, arith}
use Rattle.std.specs.Prelude.{min}
use Rattle.std.proofs.lemmas.List.{length-map}
use Rattle.clay_model.specs.Left.{AreLong}
use Rattle.clay_aloof.specs.Shape.{AloofShape, all_chunks, stripe_bytes}
use Rattle.share_format.specs.Cut.{stripe_count}
use Rattle.share_format.specs.Blocks.{block_length}
use Rattle.share_files.specs.Handed.{bytes_in}
use Rattle.share_files.proofs.AskedLemmas.{asked_of}
use Rattle.share_files.proofs.Steps.{read_nothing, read_in, stop_in, read_all}
use Rattle.share_files.proofs.Bytes.{place_of, none_left, left_less}
use Rattle.share_files.proofs.Taking.{joins_of, takes_nothing, takes_more, takes_part, takes_until, takes_all}
use Rattle.share_files.proofs.joining.join_stripes.Goals as goal

pub loop-stripe-init : goal.loop-stripe-init
loop-stripe-init g c = record {
  sources = c.requires.sources;
  blocks = c.requires.blocks;
  lengths = c.requires.lengths;
  missed = c.requires.missed;
  left = omega (arith, c.size-left.ensures);
  taken = takes_nothing c.args.header.now c.size-left.result _ _ _ c.checksum-checksum.result c.size-left.ensures c.checksum-checksum.ensures;
  read = read_nothing c.args.header.now _ c.args.missed.now c.requires.fresh;
  writes = refl;
}

pub next_stripe-requires-clause-place : goal.next_stripe-requires-clause-place
next_stripe-requires-clause-place g c =
    let less : c.loop-stripe.stripe < stripe_count c.args.header.now.shape c.args.header.now.size =
    omega (arith, c.loop-stripe-test.true, c.stripe_count-stripes.ensures.count) in
    place_of c.geometry-geometry.result c.args.header.now c.loop-stripe.stripe c.geometry-geometry.ensures c.stripe_count-stripes.ensures.header less

pub next_stripe-requires-clause-lengths : goal.next_stripe-requires-clause-lengths
next_stripe-requires-clause-lengths g c =
    let P : AloofShape → Type 0 = λ a. AreLong (block_length a) c.loop-stripe.blocks in subst P (sym c.geometry-geometry.ensures) c.loop-stripe.invariant.lengths

pub pass_on-requires-clause-within : goal.pass_on-requires-clause-within
pass_on-requires-clause-within g c = omega (arith, c.first_count-count.ensures, c.stripe_len-len.ensures.value)

pub loop-stripe-preserved : goal.loop-stripe-preserved
loop-stripe-preserved g c =
    let h = c.args.header.now in
    let i : ℕ = c.loop-stripe.stripe in
    let left : ℕ = c.loop-stripe.left in
    let count : ℕ = c.first_count-count.result in
    let inv = c.loop-stripe.invariant in
    let shape : c.geometry-geometry.result ≡ h.shape = c.geometry-geometry.ensures in
    let bytes : List ℕ = bytes_in c.geometry-geometry.result c.next_stripe.new.blocks c.in-Ok.joined in
    let less : i < stripe_count h.shape h.size = omega (arith, c.loop-stripe-test.true, c.stripe_count-stripes.ensures.count) in
    let wide : c.stripe_len-len.result ≡ stripe_bytes h.shape = c.stripe_len-len.ensures.value ∙ ap (λ a. stripe_bytes a) shape in
    let most : count ≡ min left (stripe_bytes h.shape) = c.first_count-count.ensures ∙ ap (λ n. min left n) wide in
    let long : length bytes ≡ stripe_bytes h.shape = c.in-Ok.ensures.len ∙ ap (λ a. stripe_bytes a) shape in
    let was : length c.loop-stripe.sources ≡ all_chunks h.shape = inv.sources in
    let sources : length c.next_stripe.new.sources ≡ all_chunks h.shape = c.next_stripe.auto.sources ∙ inv.sources in
    record {
      sources = sources;
      blocks = c.next_stripe.auto.blocks ∙ inv.blocks;
      lengths = let P : AloofShape → Type 0 = λ a. AreLong (block_length a) c.next_stripe.new.blocks in subst P shape c.in-Ok.ensures.lengths;
      missed = c.next_stripe.auto.missed ∙ inv.missed;
      left = left_less (stripe_bytes h.shape) h.size i left count inv.left most;
      taken =
          takes_more h i left count _ _ _ _ _ bytes (joins_of c.geometry-geometry.result h i _ _ _ _ bytes shape c.in-Ok.ensures.joined)
          (asked_of c.geometry-geometry.result h.shape i _ _ shape c.next_stripe.ensures.asked) inv.read c.stripe_count-stripes.ensures.header less (length-map c.loop-stripe.sources _ ∙ was) (length-map c.next_stripe.new.sources _ ∙ sources)
          inv.left bytes refl long most _ _ _ _ _ _ c.loop-stripe.checksum c.in-Ok-pass_on.sum inv.taken c.in-Ok-pass_on.ensures.accepted
          c.in-Ok-pass_on.ensures.summed;
      read =
          read_in c.geometry-geometry.result h i _ _ _ _ _ bytes shape inv.read
          (asked_of c.geometry-geometry.result h.shape i _ _ shape c.next_stripe.ensures.asked) (length-map c.loop-stripe.sources _ ∙ was)
          (length-map c.next_stripe.new.sources _ ∙ sources) c.in-Ok.ensures.joined;
      writes = c.in-Ok-pass_on.ensures.steady ∙ inv.writes;
    }

pub returns-in-Err-clause-stop : goal.returns-in-Err-clause-stop
returns-in-Err-clause-stop g c =
    let h = c.args.header.now in
    let inv = c.loop-stripe.invariant in
    let less : c.loop-stripe.stripe < stripe_count h.shape h.size = omega (arith, c.loop-stripe-test.true, c.stripe_count-stripes.ensures.count) in
    stop_in c.geometry-geometry.result h c.loop-stripe.stripe _ _ _ _ _ c.in-Err.fault c.geometry-geometry.ensures inv.read
    (asked_of c.geometry-geometry.result h.shape c.loop-stripe.stripe _ _ c.geometry-geometry.ensures c.next_stripe.ensures.asked) less
    (length-map c.loop-stripe.sources _ ∙ inv.sources) (length-map c.next_stripe.new.sources _ ∙ c.next_stripe.auto.sources ∙ inv.sources) c.in-Err.ensures.fault

pub returns-in-Err-clause-until : goal.returns-in-Err-clause-until
returns-in-Err-clause-until g c =
    let h = c.args.header.now in
    let inv = c.loop-stripe.invariant in
    let less : c.loop-stripe.stripe < stripe_count h.shape h.size = omega (arith, c.loop-stripe-test.true, c.stripe_count-stripes.ensures.count) in
    takes_until h c.loop-stripe.stripe c.loop-stripe.left _ _ _ _ inv.read
    (asked_of c.geometry-geometry.result h.shape c.loop-stripe.stripe _ _ c.geometry-geometry.ensures c.next_stripe.ensures.asked)
    (length-map c.loop-stripe.sources _ ∙ sym c.next_stripe.auto.sources ∙ sym (length-map c.next_stripe.new.sources _)) less _ _ _ _ c.loop-stripe.checksum inv.taken
    c.geometry-geometry.result _ _ c.in-Err.fault c.in-Err.ensures.fault

pub returns-in-Err-pass_on-clause-stop : goal.returns-in-Err-pass_on-clause-stop
returns-in-Err-pass_on-clause-stop g c =
    let h = c.args.header.now in
    let i : ℕ = c.loop-stripe.stripe in
    let inv = c.loop-stripe.invariant in
    let shape : c.geometry-geometry.result ≡ h.shape = c.geometry-geometry.ensures in
    let bytes : List ℕ = bytes_in c.geometry-geometry.result c.next_stripe.new.blocks c.in-Ok.joined in
    let less : i < stripe_count h.shape h.size = omega (arith, c.loop-stripe-test.true, c.stripe_count-stripes.ensures.count) in
    let sources : length c.next_stripe.new.sources ≡ all_chunks h.shape = c.next_stripe.auto.sources ∙ inv.sources in
    record {
      count = i + 1;
      within = omega (arith, less);
      so =
          read_in c.geometry-geometry.result h i _ _ _ _ _ bytes shape inv.read
          (asked_of c.geometry-geometry.result h.shape i _ _ shape c.next_stripe.ensures.asked) (length-map c.loop-stripe.sources _ ∙ inv.sources)
          (length-map c.next_stripe.new.sources _ ∙ sources) c.in-Ok.ensures.joined;
    }

pub returns-in-Err-pass_on-clause-until : goal.returns-in-Err-pass_on-clause-until
returns-in-Err-pass_on-clause-until g c =
    let h = c.args.header.now in
    let i : ℕ = c.loop-stripe.stripe in
    let left : ℕ = c.loop-stripe.left in
    let count : ℕ = c.first_count-count.result in
    let inv = c.loop-stripe.invariant in
    let shape : c.geometry-geometry.result ≡ h.shape = c.geometry-geometry.ensures in
    let bytes : List ℕ = bytes_in c.geometry-geometry.result c.next_stripe.new.blocks c.in-Ok.joined in
    let less : i < stripe_count h.shape h.size = omega (arith, c.loop-stripe-test.true, c.stripe_count-stripes.ensures.count) in
    let wide : c.stripe_len-len.result ≡ stripe_bytes h.shape = c.stripe_len-len.ensures.value ∙ ap (λ a. stripe_bytes a) shape in
    let most : count ≡ min left (stripe_bytes h.shape) = c.first_count-count.ensures ∙ ap (λ n. min left n) wide in
    let long : length bytes ≡ stripe_bytes h.shape = c.in-Ok.ensures.len ∙ ap (λ a. stripe_bytes a) shape in
    let sources : length c.next_stripe.new.sources ≡ all_chunks h.shape = c.next_stripe.auto.sources ∙ inv.sources in
    takes_part h i left count _ _ _ _ _ bytes (joins_of c.geometry-geometry.result h i _ _ _ _ bytes shape c.in-Ok.ensures.joined)
    (asked_of c.geometry-geometry.result h.shape i _ _ shape c.next_stripe.ensures.asked) inv.read c.stripe_count-stripes.ensures.header less (length-map c.loop-stripe.sources _ ∙ inv.sources) (length-map c.next_stripe.new.sources _ ∙ sources)
    inv.left bytes refl long most _ _ _ _ _ _ c.loop-stripe.checksum inv.taken c.in-Err-pass_on.ensures.part

pub returns-clause-taken : goal.returns-clause-taken
returns-clause-taken g c =
    let h = c.args.header.now in
    let ended : c.loop-stripe.stripe ≡ stripe_count h.shape h.size =
    omega (arith, c.loop-stripe-test.false, c.loop-stripe.auto.stripe-end, c.stripe_count-stripes.ensures.count) in
    takes_all h c.loop-stripe.stripe c.loop-stripe.left _ _ _ _ _ _ c.loop-stripe.checksum ended
    (none_left h c.loop-stripe.stripe c.loop-stripe.left c.loop-stripe.invariant.left ended c.stripe_count-stripes.ensures.header)
    c.loop-stripe.invariant.taken

pub returns-clause-read : goal.returns-clause-read
returns-clause-read g c =
    let h = c.args.header.now in
    let ended : c.loop-stripe.stripe ≡ stripe_count h.shape h.size =
    omega (arith, c.loop-stripe-test.false, c.loop-stripe.auto.stripe-end, c.stripe_count-stripes.ensures.count) in
    read_all h c.loop-stripe.stripe (stripe_count h.shape h.size) _ _ c.loop-stripe.missed ended c.loop-stripe.invariant.read

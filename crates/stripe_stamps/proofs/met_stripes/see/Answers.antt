use Rattle.std.proofs.Common.{◌≡◌, ℕ, ◌+◌, ◌<◌, List, [], ◌∷◌, ◌++◌, map, take, length, get_or, All, ap, sym, subst, ◌∙◌}
use Rattle.std.proofs.lemmas.List.{map-append, map_more}
use Rattle.std.proofs.lemmas.List.Elements.{All-push}
use Rattle.store_core.specs.Told.{Seen as CoreSeen}
use Rattle.stripe_stamps.specs.SeenStripes.{seen_in, IsSeenIn}
use Rattle.stripe_stamps.specs.Stripes.{seen_by, pin_by}
use Rattle.stripe_stamps.proofs.met_stripes.see.Goals as goal

-- one more is told
one_more : {X Y : Type 0} (told : X → Y) (of : ℕ → Y) (before new : List X) (one : X) (stripes : List ℕ) (i : ℕ) → i < length stripes → new ≡ before ++ one ∷ []
    → map told before ≡ map of (take i stripes) → told one ≡ of (get_or stripes i 0) → map told new ≡ map of (take (i + 1) stripes)
one_more told of before new one stripes i less pushed earlier same =
    ap (map told) pushed ∙ map-append told before (one ∷ []) ∙ ap (λ l. l ++ told one ∷ []) earlier
    ∙ ap (λ it. map of (take i stripes) ++ it ∷ []) same ∙ sym (map_more of stripes i 0 less)

-- written out: a search for the three takes half of the crate's check
pub loop-stripe-preserved : goal.loop-stripe-preserved
loop-stripe-preserved c =
    let held = c.args.held.now in
    let stripes = c.args.stripes.now in
    let i = c.loop-stripe.stripe-index in
    record {
      seen = one_more seen_in (seen_by c.args.versions.now.listed held) c.loop-stripe.seen.items _ c.in_ok-one.one stripes i c.loop-stripe-test.true c.in_ok-push-2.ensures.items
          c.loop-stripe.invariant.seen c.in_ok-one.ensures.seen;
      stamps = subst (All (IsSeenIn c.args.stamps.now)) (sym c.in_ok-push-2.ensures.items)
          (All-push (IsSeenIn c.args.stamps.now) c.loop-stripe.seen.items c.in_ok-one.one c.loop-stripe.invariant.stamps c.in_ok-one.ensures.stamp);
      pinned = c.in_ok-push.ensures.items
          ∙ ap (λ l. l ++ record { stripe = get_or stripes i 0; version = c.version-version.result.0 } ∷ []) c.loop-stripe.invariant.pinned
          ∙ ap (λ version. map (pin_by held) (take i stripes) ++ record { stripe = get_or stripes i 0; version = version } ∷ [])
          (c.version-version.ensures ∙ ap (λ (seen : CoreSeen). seen.version) c.in_ok-one.ensures.seen)
          ∙ sym (map_more (pin_by held) stripes i 0 c.loop-stripe-test.true);
    }

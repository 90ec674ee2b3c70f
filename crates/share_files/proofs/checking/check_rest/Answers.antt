use Rattle.std.proofs.Common.{◌≡◌, ◌^◌, ◌<◌, ◌≤◌, ℕ, Option, None, Some, true, false, length, sym, subst, ◌∙◌, arith, rules}
use Rattle.std.proofs.lemmas.Bool.{true≢false}
use Rattle.std.proofs.lemmas.Grind.{common_steps}
use Rattle.share_format.specs.Shares.{block_start, share_length}
use Rattle.share_files.specs.Found.{IsFirstRotten}
use Rattle.share_files.proofs.EndLemmas.{end_low}
use Rattle.share_files.proofs.WholeLemmas.{one_after, one_later, fault_of, fault_is, moved, is_unfilled, is_rotten, is_whole, is_longer}
use Rattle.share_files.proofs.checking.check_rest.Goals as goal

-- ---- places

pub first_rotten-requires : goal.first_rotten-requires
first_rotten-requires g c =
    let header = c.args.header.now in
    let is = c.stripe_count-stripes.ensures.header in
    let low : block_start c.geometry-geometry.result c.stripe_count-stripes.result < 2 ^ 60 =
    moved (λ a n. block_start a n < 2 ^ 60) _ _ _ _ (sym c.geometry-geometry.ensures) (sym c.stripe_count-stripes.ensures.count) (end_low header.shape header.size is.code is.bounded) in
    omega (arith, low)

pub block_place-requires : goal.block_place-requires
block_place-requires g c =
    let header = c.args.header.now in
    let is = c.stripe_count-stripes.ensures.header in
    let low : block_start c.geometry-geometry.result c.stripe_count-stripes.result < 2 ^ 60 =
    moved (λ a n. block_start a n < 2 ^ 60) _ _ _ _ (sym c.geometry-geometry.ensures) (sym c.stripe_count-stripes.ensures.count) (end_low header.shape header.size is.code is.bounded) in
    omega (arith, low)

pub ends_at-requires : goal.ends_at-requires
ends_at-requires g c =
    let header = c.args.header.now in
    let is = c.stripe_count-stripes.ensures.header in
    let low : block_start c.geometry-geometry.result c.stripe_count-stripes.result < 2 ^ 60 =
    moved (λ a n. block_start a n < 2 ^ 60) _ _ _ _ (sym c.geometry-geometry.ensures) (sym c.stripe_count-stripes.ensures.count) (end_low header.shape header.size is.code is.bounded) in
    omega (arith, low, c.block_place.ensures)

-- ---- the header's zeros

pub returns-in-Err-clause-fault : goal.returns-in-Err-clause-fault
returns-in-Err-clause-fault g c = λ file shows first. c.unread.ensures.fault c.args.header.now file

pub returns-in-Err-clause-cause : goal.returns-in-Err-clause-cause
returns-in-Err-clause-cause g c = λ e. c.in-Err.ensures.cause (fault_is _ _ (c.unread.ensures.read.0 (fault_of _ _ e)))

pub returns-in-Err-clause-steady : goal.returns-in-Err-clause-steady
returns-in-Err-clause-steady g c = λ other. c.in-Err.ensures.steady (λ e. other (fault_is _ _ (c.unread.ensures.read.1 (fault_of _ _ e))))

pub returns-then-not-begins-clause-fault : goal.returns-then-not-begins-clause-fault
returns-then-not-begins-clause-fault g c = λ file shows first.
    let is : c.in-Ok.begins ≡ false = first_of (search, search rules, grind (arith, common_steps)) in
    is_unfilled c.args.header.now file first (λ begins. true≢false (sym ((c.in-Ok.ensures.begins file shows).1 begins) ∙ is))

-- ---- the blocks

pub returns-in-Ok-Some-clause-fault : goal.returns-in-Ok-Some-clause-fault
returns-in-Ok-Some-clause-fault g c = λ file shows first.
    let is : c.in-Ok.begins ≡ true = first_of (search, search rules, grind (arith, common_steps)) in
    let P : Option ℕ → Type 0 = λ o. IsFirstRotten c.geometry-geometry.result c.stripe_count-stripes.result file o in
    is_rotten c.args.header.now file c.in-Ok-Some.stripe ((c.in-Ok.ensures.begins file (c.in-Ok-Some.ensures.shown file shows)).0 is)
    (moved (λ a n. IsFirstRotten a n file (Some c.in-Ok-Some.stripe)) _ _ _ _ c.geometry-geometry.ensures c.stripe_count-stripes.ensures.count
    (subst P c.in-Ok-Some.field-0-is (c.in-Ok-Some.ensures.rotten file shows)))

pub returns-in-Ok-Some-clause-shown : goal.returns-in-Ok-Some-clause-shown
returns-in-Ok-Some-clause-shown g c = λ file shows. c.in-Ok.ensures.shown file (c.in-Ok-Some.ensures.shown file shows)

pub returns-in-Err-first_rotten-clause-fault : goal.returns-in-Err-first_rotten-clause-fault
returns-in-Err-first_rotten-clause-fault g c = λ file shows first. c.unread-in-Err-first_rotten.ensures.fault c.args.header.now file

pub returns-in-Err-first_rotten-clause-shown : goal.returns-in-Err-first_rotten-clause-shown
returns-in-Err-first_rotten-clause-shown g c = λ file shows. c.in-Ok.ensures.shown file (c.in-Err-first_rotten.ensures.shown file shows)

pub returns-in-Err-first_rotten-clause-cause : goal.returns-in-Err-first_rotten-clause-cause
returns-in-Err-first_rotten-clause-cause g c = λ e.
    one_after _ _ _ _ _ (c.in-Err-first_rotten.ensures.cause (fault_is _ _ (c.unread-in-Err-first_rotten.ensures.read.0 (fault_of _ _ e)))) (c.in-Ok.ensures.steady (λ e. cc))

pub returns-in-Err-first_rotten-clause-steady : goal.returns-in-Err-first_rotten-clause-steady
returns-in-Err-first_rotten-clause-steady g c = λ other.
    c.in-Err-first_rotten.ensures.steady (λ e. other (fault_is _ _ (c.unread-in-Err-first_rotten.ensures.read.1 (fault_of _ _ e)))) ∙ c.in-Ok.ensures.steady (λ e. cc)

-- ---- the end

pub returns-in-Err-ends_at-clause-fault : goal.returns-in-Err-ends_at-clause-fault
returns-in-Err-ends_at-clause-fault g c = λ file shows first. c.unread-in-Err-ends_at.ensures.fault c.args.header.now file

pub returns-in-Err-ends_at-clause-shown : goal.returns-in-Err-ends_at-clause-shown
returns-in-Err-ends_at-clause-shown g c = λ file shows. c.in-Ok.ensures.shown file (c.in-Ok-None.ensures.shown file (c.in-Err-ends_at.ensures.shown file shows))

pub returns-in-Err-ends_at-clause-cause : goal.returns-in-Err-ends_at-clause-cause
returns-in-Err-ends_at-clause-cause g c = λ e.
    one_later _ _ _ (c.in-Err-ends_at.ensures.cause (fault_is _ _ (c.unread-in-Err-ends_at.ensures.read.0 (fault_of _ _ e))))
    (c.in-Ok-None.ensures.steady (λ e. cc) ∙ c.in-Ok.ensures.steady (λ e. cc))

pub returns-in-Err-ends_at-clause-steady : goal.returns-in-Err-ends_at-clause-steady
returns-in-Err-ends_at-clause-steady g c = λ other.
    c.in-Err-ends_at.ensures.steady (λ e. other (fault_is _ _ (c.unread-in-Err-ends_at.ensures.read.1 (fault_of _ _ e)))) ∙ c.in-Ok-None.ensures.steady (λ e. cc)
    ∙ c.in-Ok.ensures.steady (λ e. cc)

pub returns-then-not-ends-clause-fault : goal.returns-then-not-ends-clause-fault
returns-then-not-ends-clause-fault g c = λ file shows first.
    let is : c.in-Ok.begins ≡ true = first_of (search, search rules, grind (arith, common_steps)) in
    let ends : c.in-Ok-ends_at.ends ≡ false = first_of (search, search rules, grind (arith, common_steps)) in
    let before = c.in-Ok-ends_at.ensures.shown file shows in
    let P : Option ℕ → Type 0 = λ o. IsFirstRotten c.geometry-geometry.result c.stripe_count-stripes.result file o in
    let place : c.block_place.result ≡ share_length c.args.header.now.shape c.args.header.now.size =
    c.block_place.ensures ∙ (λ i. block_start (c.geometry-geometry.ensures i) (c.stripe_count-stripes.ensures.count i)) in
    is_longer c.args.header.now file ((c.in-Ok.ensures.begins file (c.in-Ok-None.ensures.shown file before)).0 is)
    (moved (λ a n. IsFirstRotten a n file None) _ _ _ _ c.geometry-geometry.ensures c.stripe_count-stripes.ensures.count
    (subst P c.in-Ok-None.field-0-is (c.in-Ok-None.ensures.rotten file before)))
    (λ within. true≢false (sym ((c.in-Ok-ends_at.ensures.ends file shows).1 (subst (λ n. length file ≤ n) (sym place) within)) ∙ ends))

pub returns-then-not-ends-clause-shown : goal.returns-then-not-ends-clause-shown
returns-then-not-ends-clause-shown g c = λ file shows. c.in-Ok.ensures.shown file (c.in-Ok-None.ensures.shown file (c.in-Ok-ends_at.ensures.shown file shows))

pub returns-clause-whole : goal.returns-clause-whole
returns-clause-whole g c = λ file shows.
    let is : c.in-Ok.begins ≡ true = first_of (search, search rules, grind (arith, common_steps)) in
    let ends : c.in-Ok-ends_at.ends ≡ true = first_of (search, search rules, grind (arith, common_steps)) in
    let before = c.in-Ok-ends_at.ensures.shown file shows in
    let P : Option ℕ → Type 0 = λ o. IsFirstRotten c.geometry-geometry.result c.stripe_count-stripes.result file o in
    let place : c.block_place.result ≡ share_length c.args.header.now.shape c.args.header.now.size =
    c.block_place.ensures ∙ (λ i. block_start (c.geometry-geometry.ensures i) (c.stripe_count-stripes.ensures.count i)) in
    is_whole c.args.header.now file ((c.in-Ok.ensures.begins file (c.in-Ok-None.ensures.shown file before)).0 is)
    (moved (λ a n. IsFirstRotten a n file None) _ _ _ _ c.geometry-geometry.ensures c.stripe_count-stripes.ensures.count
    (subst P c.in-Ok-None.field-0-is (c.in-Ok-None.ensures.rotten file before)))
    (subst (λ n. length file ≤ n) place ((c.in-Ok-ends_at.ensures.ends file shows).0 ends))

pub returns-clause-shown : goal.returns-clause-shown
returns-clause-shown g c = λ file shows. c.in-Ok.ensures.shown file (c.in-Ok-None.ensures.shown file (c.in-Ok-ends_at.ensures.shown file shows))

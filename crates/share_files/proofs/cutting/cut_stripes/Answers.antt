use Rattle.std.proofs.Common.{◌≡◌, ◌≤◌, ◌+◌, ◌^◌, ℕ, List, length, map, take, refl, subst, ◌∙◌, arith}
use Rattle.std.proofs.lemmas.List.{length-take-le}
use Rattle.clay_bytes.specs.Stream.{Rises}
use Rattle.share_format.proofs.HeaderBack.{stripe_some}
use Rattle.share_files.specs.Written.{OneRises}
use Rattle.share_files.specs.declared.cutting.CutFault.TheVariants.{ReadFault, WriteFault, TooLong}
use Rattle.share_files.proofs.ChangeLemmas.{none_put}
use Rattle.share_files.proofs.Faults.{handed_on}
use Rattle.share_files.proofs.CutLemmas.{cut_none, cut_more, cut_long, few_stripes, whole_more}
use Rattle.share_files.proofs.cutting.cut_stripes.Goals as goal

pub stripes-init : goal.stripes-init
stripes-init g c = record {
  shares = c.requires.shares;
  stripe = c.requires.stripe;
  cut = cut_none c.args.geometry _ _ _ _ c.requires.aloof c.checksum-checksum.ensures (none_put g.K.SinkAt.put c.args.sinks.now c.requires.empty);
  whole = λ e. omega arith;
  within = omega arith;
  fits = omega arith;
  told = λ less. absurd (omega (arith, less));
  spent = λ less. absurd (omega (arith, less));
  reads = refl;
  writes = refl;
}

pub stripes-preserved : goal.stripes-preserved
stripes-preserved g c =
    let inv = c.stripes.invariant in
    let next = c.in-Ok.ensures in
    let count : ℕ = c.in-Ok.count in
    let long : length c.cut_next.new.stripe ≡ length c.stripes.stripe = c.cut_next.auto.stripe in
    let all : c.stripes.last ≡ length c.stripes.stripe = c.stripes-test.true in
    record {
      shares = c.cut_next.auto.sinks ∙ inv.shares;
      stripe = long ∙ inv.stripe;
      cut =
          cut_more c.args.geometry _ _ _ _ c.stripes.size c.stripes.checksum _ inv.cut _ _ (take count c.cut_next.new.stripe) count _ _
          (length-take-le count c.cut_next.new.stripe next.within) next.handed_out next.on c.sum_more-checksum.ensures;
      whole = λ e. whole_more c.args.geometry c.stripes.number c.stripes.size count (inv.whole all) (e ∙ long ∙ inv.stripe);
      within = next.within;
      fits = next.fits;
      told = next.told;
      spent = next.spent;
      reads = next.reads (λ e. cc) ∙ inv.reads;
      writes = next.writes (λ e. cc) ∙ inv.writes;
    }

pub stripes-smaller : goal.stripes-smaller
stripes-smaller g c =
    let inv = c.stripes.invariant in
    let next = c.in-Ok.ensures in
    let some = stripe_some c.args.geometry c.requires.aloof in
    let all : c.stripes.last ≡ length c.stripes.stripe = c.stripes-test.true in
    let fits : c.stripes.size + c.in-Ok.count ≤ 2 ^ 56 = next.fits in
    omega (arith, some, all, inv.stripe, fits)

pub overflow_add-number : goal.overflow_add-number
overflow_add-number g c =
    let inv = c.stripes.invariant in
    let few : c.stripes.number ≤ c.stripes.size = few_stripes c.args.geometry c.stripes.number c.stripes.size c.requires.aloof (inv.whole c.stripes-test.true) in
    let fits : c.stripes.size ≤ 2 ^ 56 = inv.fits in
    omega (arith, few, fits)

pub returns-in-Err-clause-long : goal.returns-in-Err-clause-long
returns-in-Err-clause-long g c = λ e.
    cut_long c.args.geometry _ _ _ _ c.stripes.size c.stripes.checksum _ c.stripes.invariant.cut _ _
    (c.in-Err.ensures.long (handed_on c.in-Err.fault TooLong e))

pub returns-in-Err-clause-read : goal.returns-in-Err-clause-read
returns-in-Err-clause-read g c = λ e.
    let P : ℕ → Type 0 = λ k. Rises k (g.S.Source.faults c.cut_next.new.source) in
    subst P c.stripes.invariant.reads (c.in-Err.ensures.read (handed_on c.in-Err.fault ReadFault e))

pub returns-in-Err-clause-reads : goal.returns-in-Err-clause-reads
returns-in-Err-clause-reads g c = λ other.
    c.in-Err.ensures.reads (λ e. other (handed_on c.in-Err.fault ReadFault e)) ∙ c.stripes.invariant.reads

pub returns-in-Err-clause-write : goal.returns-in-Err-clause-write
returns-in-Err-clause-write g c = λ e.
    let P : List ℕ → Type 0 = λ l. OneRises l (map g.K.SinkAt.faults c.cut_next.new.sinks) in
    subst P c.stripes.invariant.writes (c.in-Err.ensures.write (handed_on c.in-Err.fault WriteFault e))

pub returns-in-Err-clause-writes : goal.returns-in-Err-clause-writes
returns-in-Err-clause-writes g c = λ other.
    c.in-Err.ensures.writes (λ e. other (handed_on c.in-Err.fault WriteFault e)) ∙ c.stripes.invariant.writes

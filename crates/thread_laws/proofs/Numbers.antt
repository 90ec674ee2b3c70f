-- Whose number it is.
use Rattle.std.proofs.Common.{◌≡◌, ℕ, ◌+◌, ◌-◌, ◌<◌, Bool, true, false, nat_lt, nat_eq, if◌then◌else◌, refl, ap, ◌∙◌, arith, lt-ltb, ltb-true}
use Rattle.store_map.specs.declared.actor.Actor.TheVariants as actor
use Rattle.thread_laws.specs.Numbers.{Counts, actor_at}
use Rattle.thread_laws.specs.ListNumbers.{ClientsComeFirst, RepairersFollow}

pub clients_come_first : ClientsComeFirst
clients_come_first of n less =
    ap
    (λ (b : Bool).
    if b then actor.Client n
    else
    (if nat_lt n (of.clients + of.repairers) then actor.Repairer (n - of.clients)
    else (if nat_eq n (of.clients + of.repairers) then actor.Sweeper else actor.Operator)))
    (lt-ltb n of.clients less)

pub repairers_follow : RepairersFollow
repairers_follow of i less = by (nat_lt (of.clients + i) of.clients) refl
  where
    later : actor.Repairer (of.clients + i - of.clients) ≡ actor.Repairer i
    later = let same : of.clients + i - of.clients ≡ i = omega arith in ap (λ (k : ℕ). actor.Repairer k) same

    within : nat_lt (of.clients + i) (of.clients + of.repairers) ≡ true
    within = lt-ltb (of.clients + i) (of.clients + of.repairers) (omega (arith, less))

    by : (b : Bool) → nat_lt (of.clients + i) of.clients ≡ b
        → (if b then actor.Client (of.clients + i)
        else
        (if nat_lt (of.clients + i) (of.clients + of.repairers) then actor.Repairer (of.clients + i - of.clients)
        else (if nat_eq (of.clients + i) (of.clients + of.repairers) then actor.Sweeper else actor.Operator)))
        ≡ actor.Repairer i
    by true e = let low : of.clients + i < of.clients = ltb-true (of.clients + i) of.clients e in absurd (omega (arith, low))
    by false e =
        ap (λ (b : Bool). if b then actor.Repairer (of.clients + i - of.clients) else (if nat_eq (of.clients + i) (of.clients + of.repairers) then actor.Sweeper else actor.Operator)) within
        ∙ later

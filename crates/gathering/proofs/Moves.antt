-- From what is left to ask to the next position.
-- One relation for each function of positions, over all lists of missing servers (GoesToLook, Hears), and most methods of Course are one
-- assignment; three functions have a written answer, the tactics find the rest.
use Rattle.std.proofs.Common.{◌≡◌, ℕ, zero, suc, ◌+◌, ◌-◌, ◌<◌, ◌≤◌, List, [], ◌∷◌, length, map, filter, not, take, drop, get_or, refl, sym, ap, ◌∙◌, arith}
use Rattle.std.specs.List.{range_with_len}
use Rattle.std.proofs.lemmas.List.{take_all}
use Rattle.clay_grid.specs.Shape.{Shape, chunk_count}
use Rattle.store_core.specs.Lists.{is_among}
use Rattle.store_core.specs.Told.{Seen, Lost}
use Rattle.store_core.specs.Gathering.{Part, servers_but}
use Rattle.store_core.specs.GatheringParts.{chunks_in_range}
use Rattle.run_laws.specs.Stage.{Asking, Stage}
use Rattle.run_laws.specs.Stages.{whole_stage, repair_stage, make_stage, look_stage, fetch_stage, data_stage}
use Rattle.gathering.specs.CourseServers.{asked_from}
use Rattle.gathering.specs.Servers.{AreServers}
use Rattle.gathering.specs.declared.ending.Ending.TheVariants as ending
use Rattle.gathering.specs.declared.position.Position.{Position}
use Rattle.gathering.specs.declared.position.Position.TheVariants as position
use Rattle.gathering.specs.Positions.{first_lost}
use Rattle.gathering.specs.Reaching.{BeginWith, GoesToWhole, GoesToRepair, GoesToMake, GoesToLook, GoesToFetch}

pub whole_done : (g : Shape) (gone : List ℕ) (from wanted : ℕ) → wanted ≡ 0 → GoesToWhole g gone from wanted position.HasBytes
whole_done g gone from zero w first all missing begin = refl
whole_done g gone from (suc wanted) w first all missing begin = absurd (omega (arith, w))

pub whole_end : (g : Shape) (gone : List ℕ) (from wanted : ℕ) → asked_from gone (chunk_count g) from ≡ [] → (wanted ≡ 0 → ⊥)
    → GoesToWhole g gone from wanted (position.Ended ending.TooMany)
whole_end g gone from zero n some first all missing begin = absurd (some refl)
whole_end g gone from (suc wanted) n some first all missing begin = sym (ap (λ (servers : List ℕ). whole_stage g servers (suc wanted) missing) n)

pub whole_next : (g : Shape) (gone : List ℕ) (from wanted server left counted : ℕ)
    → asked_from gone (chunk_count g) from ≡ server ∷ asked_from gone (chunk_count g) (server + 1) → left + 1 ≡ wanted → counted ≡ length gone
    → GoesToWhole g gone from wanted (position.Whole server left counted)
whole_next g gone from zero server left counted n w c first all missing begin = absurd (omega (arith, w))
whole_next g gone from (suc wanted) server left counted n w c first all missing begin =
    let now : left ≡ wanted = omega (arith, w) in
    let same : take counted all ≡ gone = ap (λ (k : ℕ). take k all) c ∙ begin in
    ap (λ (l : List ℕ). Stage.Asks (Asking.Whole server (asked_from l (chunk_count g) (server + 1)) left missing)) same
    ∙ ap (λ (k : ℕ). Stage.Asks (Asking.Whole server (asked_from gone (chunk_count g) (server + 1)) k missing)) now
    ∙ sym (ap (λ (servers : List ℕ). whole_stage g servers (suc wanted) missing) n)

pub repair_end : (g : Shape) (gone : List ℕ) (from : ℕ) → asked_from gone (chunk_count g) from ≡ [] → GoesToRepair g gone from position.HasBytes
repair_end g gone from n first missing = sym (ap (λ (servers : List ℕ). repair_stage g servers (first_lost missing)) n)

pub repair_next : (g : Shape) (gone : List ℕ) (from server : ℕ) → asked_from gone (chunk_count g) from ≡ server ∷ asked_from gone (chunk_count g) (server + 1)
    → GoesToRepair g gone from (position.Repair server)
repair_next g gone from server n first missing = sym (ap (λ (servers : List ℕ). repair_stage g servers (first_lost missing)) n)

-- as many are marked as servers
pub as_many : (gone : List ℕ) (missing : List Lost) → AreServers missing gone → length missing ≡ length gone
as_many gone missing e = length_map missing ∙ ap length e
  where
    length_map : (missing : List Lost) → length missing ≡ length (map (λ (lost : Lost). lost.server) missing)
    length_map [] = refl
    length_map (lost ∷ missing) = ap suc (length_map missing)

pub whole_list : (gone : List ℕ) → BeginWith gone gone
whole_list gone = take_all (length gone) gone (omega arith)

less_none : (n : ℕ) → n ≡ n - 0
less_none n = omega arith

pub from_none : (g : Shape) (seen : Seen) (l : List ℕ) → servers_but g seen l ≡ asked_from l (chunk_count g) 0
from_none g seen l = ap (λ (n : ℕ). filter (λ (server : ℕ). not (is_among server l)) (range_with_len 0 n)) (less_none (chunk_count g))

none_by : (g : Shape) (seen : Seen) (missing : List Lost) → length missing ≡ 0 → make_stage g seen missing ≡ Stage.HasBytes
none_by g seen [] e = refl
none_by g seen (lost ∷ missing) e = absurd (omega (arith, e))

pub make_none : (g : Shape) (gone : List ℕ) → length gone ≡ 0 → GoesToMake g gone position.HasBytes
make_none g gone none seen first missing servers = sym (none_by g seen missing (as_many gone missing servers ∙ none))

one_by : (g : Shape) (seen : Seen) (gone : List ℕ) (missing : List Lost) → AreServers missing gone → length missing ≡ 1
    → make_stage g seen missing ≡ repair_stage g (asked_from gone (chunk_count g) 0) (first_lost missing)
one_by g seen gone [] e n = absurd (omega (arith, n))
one_by g seen gone (lost ∷ []) e n =
    ap (λ (l : List ℕ). repair_stage g l lost) (from_none g seen (lost.server ∷ [])) ∙ ap (λ (l : List ℕ). repair_stage g (asked_from l (chunk_count g) 0) lost) e
one_by g seen gone (lost ∷ other ∷ missing) e n = absurd (omega (arith, n))

pub make_one : (g : Shape) (gone : List ℕ) (p : Position) → length gone ≡ 1 → GoesToRepair g gone 0 p → GoesToMake g gone p
make_one g gone p one goes seen first missing servers = goes first missing ∙ sym (one_by g seen gone missing servers (as_many gone missing servers ∙ one))

more_by : (g : Shape) (seen : Seen) (gone : List ℕ) (missing : List Lost) → AreServers missing gone → (length missing ≡ 0 → ⊥) → (length missing ≡ 1 → ⊥)
    → make_stage g seen missing ≡ whole_stage g (asked_from gone (chunk_count g) 0) g.data_count missing
more_by g seen gone [] e none one = absurd (none refl)
more_by g seen gone (lost ∷ []) e none one = absurd (one refl)
more_by g seen gone (lost ∷ other ∷ missing) e none one =
    ap (λ (l : List ℕ). whole_stage g l g.data_count (lost ∷ other ∷ missing)) (from_none g seen (map (λ (l : Lost). l.server) (lost ∷ other ∷ missing)))
    ∙ ap (λ (l : List ℕ). whole_stage g (asked_from l (chunk_count g) 0) g.data_count (lost ∷ other ∷ missing)) e

pub make_more : (g : Shape) (gone : List ℕ) (wanted : ℕ) (p : Position) → (length gone ≡ 0 → ⊥) → (length gone ≡ 1 → ⊥) → wanted ≡ g.data_count → GoesToWhole g gone 0 wanted p → GoesToMake g gone p
make_more g gone wanted p none one k goes seen first missing servers =
    let many : length missing ≡ length gone = as_many gone missing servers in
    goes first gone missing (whole_list gone)
    ∙ ap (λ (w : ℕ). whole_stage g (asked_from gone (chunk_count g) 0) w missing) k
    ∙ sym (more_by g seen gone missing servers (λ e. none (sym many ∙ e)) (λ e. one (sym many ∙ e)))

pub look_end : (g : Shape) (first gone : List ℕ) (from : ℕ) (p : Position) → asked_from first (chunk_count g) from ≡ [] → GoesToMake g gone p → GoesToLook g first gone from p
look_end g first gone from p n goes seen missing servers =
    goes seen first missing servers ∙ sym (ap (λ (l : List ℕ). look_stage g seen l missing) n)

pub look_next : (g : Shape) (first gone : List ℕ) (from server : ℕ) → asked_from first (chunk_count g) from ≡ server ∷ asked_from first (chunk_count g) (server + 1)
    → GoesToLook g first gone from (position.Look server)
look_next g first gone from server n seen missing servers = sym (ap (λ (l : List ℕ). look_stage g seen l missing) n)

drop_at : (l : List ℕ) (i : ℕ) → i < length l → drop i l ≡ get_or l i 0 ∷ drop (suc i) l
drop_at [] i h = absurd (omega (arith, h))
drop_at (x ∷ l) zero h = refl
drop_at (x ∷ l) (suc i) h = drop_at l i (omega (arith, h))

pub one_more : (n : ℕ) → n + 1 ≡ suc n
one_more n = omega arith

pub fetch_next : (g : Shape) (first : List ℕ) (at : ℕ) (gone : List ℕ) → at < length first → GoesToFetch g first at gone (position.Fetch at)
fetch_next g first at gone h part missing servers is =
    ap (λ (k : ℕ). Stage.Asks (Asking.Fetch (get_or first at 0) (drop k first) missing)) (one_more at)
    ∙ sym (ap (λ (l : List ℕ). fetch_stage g part l missing) (drop_at first at h))

drop_all : (l : List ℕ) (i : ℕ) → length l ≤ i → drop i l ≡ []
drop_all [] zero h = refl
drop_all [] (suc i) h = refl
drop_all (x ∷ l) zero h = absurd (omega (arith, h))
drop_all (x ∷ l) (suc i) h = drop_all l i (omega (arith, h))

after_none : (g : Shape) (part : Part) (missing : List Lost) → length missing ≡ 0 → data_stage g part missing ≡ Stage.HasBytes
after_none g part [] e = refl
after_none g part (lost ∷ missing) e = absurd (omega (arith, e))

pub fetch_done : (g : Shape) (first : List ℕ) (at : ℕ) (gone : List ℕ) → length first ≤ at → length gone ≡ 0 → GoesToFetch g first at gone position.HasBytes
fetch_done g first at gone h none part missing servers is =
    sym (after_none g part missing (as_many gone missing servers ∙ none)) ∙ sym (ap (λ (l : List ℕ). fetch_stage g part l missing) (drop_all first at h))

after_some : (g : Shape) (part : Part) (first : List ℕ) (missing : List Lost) → first ≡ chunks_in_range g part.start part.end → (length missing ≡ 0 → ⊥)
    → data_stage g part missing ≡ look_stage g part.seen (asked_from first (chunk_count g) 0) missing
after_some g part first [] is some = absurd (some refl)
after_some g part first (lost ∷ missing) is some =
    ap (λ (l : List ℕ). look_stage g part.seen l (lost ∷ missing)) (from_none g part.seen (chunks_in_range g part.start part.end))
    ∙ ap (λ (l : List ℕ). look_stage g part.seen (asked_from l (chunk_count g) 0) (lost ∷ missing)) (sym is)

pub fetch_look : (g : Shape) (first : List ℕ) (at : ℕ) (gone : List ℕ) (p : Position) → length first ≤ at → (length gone ≡ 0 → ⊥) → GoesToLook g first gone 0 p → GoesToFetch g first at gone p
fetch_look g first at gone p h some goes part missing servers is =
    goes part.seen missing servers
    ∙ sym (after_some g part first missing is (λ e. some (sym (as_many gone missing servers) ∙ e)))
    ∙ sym (ap (λ (l : List ℕ). fetch_stage g part l missing) (drop_all first at h))

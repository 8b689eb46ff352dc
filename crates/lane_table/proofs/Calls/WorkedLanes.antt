-- Worked lists: a reseed, a refill, and the read that needs the refill. The lists are closed and lawful, and each
-- reference is answered, so the laws of such lists are not vacuous.
use Rattle.std.proofs.Common.{◌≡◌, ℕ, zero, suc, ◌≤◌, ◌<◌, List, [], ◌∷◌, refl, sym, ap, ◌∙◌, arith, Some, None, Option, replicate}
use mathlib.Core.Option.{some-injective, some-ne-none}
use lib.ListN.{get_elem?}
use Rattle.key_names.specs.declared.entries.Taken.TheVariants.{User}
use Rattle.key_names.specs.declared.entries.PoolEntry.TheVariants.{Extract}
use Rattle.key_names.specs.declared.entries.BaseEntry.TheVariants.{Reseed, Refill}
use Rattle.key_names.specs.declared.entries.CpuEntry.TheVariants.{Read}
use Rattle.key_names.specs.Lanes.Book.{LawfulLanes}
use Rattle.lane_table.specs.declared.view.LaneEntry.{LaneEntry}
use Rattle.lane_table.specs.declared.view.LaneEntry.TheVariants.{Pool, Base, Cpu}
use Rattle.lane_table.specs.declared.view.Handed.{Handed}
use Rattle.lane_table.specs.declared.view.Visit.{Visit}
use Rattle.lane_table.specs.Meaning.{Model, LawfulLane, start_model, model_step, gave_of, nothing, no_one, after_of, ahead_of, parent}
use Rattle.lane_table.specs.References.{Pointed, Answered}
use Rattle.lane_table.specs.BookLists.{book_lists}
use Rattle.lane_table.specs.BookLaws.{ClosedLanes}
use Rattle.lane_table.proofs.Book.BookAnswers.{lawful_lanes}

abbrev visit : ℕ → Model → LaneEntry → Handed → Visit
visit stamp s e got = record { who = no_one; stamp = stamp; entry = e; got = got; gave = gave_of s e got }

abbrev extraction : Visit
extraction = visit 1 start_model (Pool (Extract (replicate 32 0) 0)) nothing

abbrev reseed : Visit
reseed = visit 2 start_model (Base (Reseed 0 5)) extraction.gave

abbrev refill : Visit
refill = visit 3 (model_step start_model reseed) (Base (Refill 0 0)) nothing

abbrev read : Visit
read = visit 4 start_model (Cpu (Read 1 (Some 1) (User 32))) refill.gave

abbrev worked : ℕ → List Visit
worked zero = extraction ∷ []
worked (suc zero) = reseed ∷ refill ∷ []
worked (suc (suc lane)) = read ∷ []

pool_lawful : LawfulLane 3 0 (worked 0)
pool_lawful = (record { kind = refl; within = omega arith; gave_is = refl; later = tt; fits = tt }, tt)

base_lawful : LawfulLane 3 1 (worked 1)
base_lawful = (
  record { kind = refl; within = tt; gave_is = refl; later = omega arith; fits = tt },
  (record { kind = refl; within = omega arith; gave_is = refl; later = tt; fits = refl }, tt),
)

cpu_lawful : LawfulLane 3 2 (worked 2)
cpu_lawful = (
  record {
    kind = omega arith;
    within = tt;
    gave_is = refl;
    later = omega arith;
    fits = (
      record {
        looks = record { known = omega arith; not_back = omega arith };
        names = ((λ none. cc), (λ same. absurd (omega arith)));
      },
      omega arith,
    );
  },
  tt,
)

-- equal visits name the same place of the parent lane
names_place : (x y : Visit) (p q : ℕ) → x ≡ y → after_of x.entry ≡ Some p → after_of y.entry ≡ Some q → p ≡ q
names_place x y p q same named names =
    let e : ◌≡◌ {A = Option ℕ} (Some p) (Some q) = sym named ∙ ap (λ (v : Visit). after_of v.entry) same ∙ names in cc

names_lane : (x y : Visit) (lane p q : ℕ) → x ≡ y → ahead_of x.entry ≡ Some (lane, p) →
    ahead_of y.entry ≡ Some (lane, q) → p ≡ q
names_lane x y lane p q same named names =
    let e : ◌≡◌ {A = Option (ℕ × ℕ)} (Some (lane, p)) (Some (lane, q)) =
    sym named ∙ ap (λ (v : Visit). ahead_of v.entry) same ∙ names in
    let pair : ◌≡◌ {A = ℕ × ℕ} (lane, p) (lane, q) = cc in ap (λ (n : ℕ × ℕ). n.1) pair

pointed_base : Pointed 1 (worked 0) (worked 1)
pointed_base zero p x at names =
    let same : reseed ≡ x = some-injective reseed x at in (
      extraction,
      ap (get_elem? (worked 0)) (sym (names_place reseed x 0 p same refl names)),
      refl,
      ap (λ (v : Visit). v.got) (sym same),
    )
pointed_base (suc zero) p x at names =
    let same : refill ≡ x = some-injective refill x at in
    let e : ◌≡◌ {A = Option ℕ} None (Some p) = ap (λ (v : Visit). after_of v.entry) same ∙ names in cc
pointed_base (suc (suc b)) p x at names = absurd (some-ne-none x (sym at))

pointed_cpu : Pointed 2 (worked 1) (worked 2)
pointed_cpu zero p x at names =
    let same : read ≡ x = some-injective read x at in (
      refill,
      ap (get_elem? (worked 1)) (sym (names_place read x 1 p same refl names)),
      refl,
      ap (λ (v : Visit). v.got) (sym same),
    )
pointed_cpu (suc b) p x at names = absurd (some-ne-none x (sym at))

answered_base : Answered 1 (worked 0) (worked 1)
answered_base zero b x at names =
    let same : extraction ≡ x = some-injective extraction x at in
    (reseed, ap (get_elem? (worked 1)) (sym (names_lane extraction x 1 0 b same refl names)), refl)
answered_base (suc p) b x at names = absurd (some-ne-none x (sym at))

answered_cpu : Answered 2 (worked 1) (worked 2)
answered_cpu zero b x at names =
    let same : reseed ≡ x = some-injective reseed x at in
    let e : ◌≡◌ {A = Option (ℕ × ℕ)} None (Some (2, b)) = ap (λ (v : Visit). ahead_of v.entry) same ∙ names in cc
answered_cpu (suc zero) b x at names =
    let same : refill ≡ x = some-injective refill x at in
    (read, ap (get_elem? (worked 2)) (sym (names_lane refill x 2 0 b same refl names)), refl)
answered_cpu (suc (suc p)) b x at names = absurd (some-ne-none x (sym at))

-- a property that each of the three lanes has holds for every lane number below 3
three : (P : ℕ → Type 0) → P 0 → P 1 → P 2 → (lane : ℕ) → lane < 3 → P lane
three P pool base cpu zero below = pool
three P pool base cpu (suc zero) below = base
three P pool base cpu (suc (suc zero)) below = cpu
three P pool base cpu (suc (suc (suc lane))) below = absurd (omega arith)

pub worked_lanes : ClosedLanes 3 worked
worked_lanes = record {
  low = omega arith;
  closed = λ lane low below.
      three (λ lane. 1 ≤ lane → Pointed lane (worked (parent lane)) (worked lane)) (λ none. absurd (omega arith))
      (λ low. pointed_base) (λ low. pointed_cpu) lane below low;
  lawful = three (λ lane. LawfulLane 3 lane (worked lane)) pool_lawful base_lawful cpu_lawful;
}

pub worked_lawful : LawfulLanes (book_lists 3 worked [])
worked_lawful = lawful_lanes 3 worked [] worked_lanes
    (λ lane low below.
    three (λ lane. 1 ≤ lane → Answered lane (worked (parent lane)) (worked lane)) (λ none. absurd (omega arith))
    (λ low. answered_base) (λ low. answered_cpu) lane below low)

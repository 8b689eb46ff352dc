-- An extraction or a refill names the place that takes its key. If the visit at each such place answers the entry,
-- the lanes of the book are lawful. If some of these visits are still missing, the lanes are half finished.
use Rattle.std.proofs.Common.{◌≡◌, ℕ, ◌+◌, ◌<◌, inl, inr, List, length, sym, ap, ◌∙◌, subst, arith, Some}
use Rattle.std.specs.Prelude.{slice_get, option_and_then}
use mathlib.Core.Option.{some}
use lib.ListN.{get_elem?}
use Rattle.key_names.specs.Lanes.PoolList.{base_place_of, extraction_at}
use Rattle.key_names.specs.Lanes.BaseList.{root_of, refill_of, refill_at}
use Rattle.key_names.specs.Lanes.CpuList.{base_refill_of}
use Rattle.key_names.specs.Lanes.Book.{Lists, cpu_list, ExtractionAnswered, RefillAnswered, HalfFinishedLanes, LawfulLanes}
use Rattle.key_names.proofs.Lists.Growing.{named_entry}
use Rattle.lane_table.specs.declared.view.LaneEntry.TheVariants.{Base}
use Rattle.lane_table.specs.declared.view.Visit.{Visit}
use Rattle.lane_table.specs.Meaning.{after_of, ahead_of, base_lane, cpu_lane, NamesWithin}
use Rattle.lane_table.specs.References.{Answered, HalfAnswered, AllAnswered, AllHalfAnswered}
use Rattle.lane_table.specs.BookLists.{StateLists, base_entry, cpu_entry, book_lists}
use Rattle.lane_table.specs.BookLaws.{ClosedLanes}
use Rattle.lane_table.proofs.Lists.Places.{conforms_at, element_at}
use Rattle.lane_table.proofs.Book.BookEntries.{VisitAt, MadeAt, lane_at, made_at, one_kind, entries_length, pool_kind, base_kind, cpu_kind}
use Rattle.lane_table.proofs.Book.BookValues.{SameHeldLane}
use Rattle.lane_table.proofs.Book.BookWhole.{beside, parent_cpu, cpu_listed, forward_lawful}

module _ (lanes : ℕ) (visits : ℕ → List Visit) (callers : StateLists) (ok : ClosedLanes lanes visits) where
  abbrev book : Lists
  book = book_lists lanes visits callers

  sides : SameHeldLane lanes (visits 0) (visits 1)
  sides = beside lanes visits callers ok

  -- a visit that names an entry of its parent lane (the pool for the base, the base for a CPU) answers that entry in
  -- the book
  extraction_answered : (p i : ℕ) (y : Visit) → get_elem? (visits 1) i ≡ some y → after_of y.entry ≡ Some p →
      ExtractionAnswered book p i
  extraction_answered p i y at names =
      let v : VisitAt base_kind lanes (visits 1) i y =
      lane_at base_kind lanes (visits 1) sides.base i y (conforms_at (visits 1) i y at) in
      ap (option_and_then root_of) v.conforms ∙ sym (ap after_of v.is) ∙ names

  refill_answered : (b c k : ℕ) (y : Visit) → c + 2 < lanes → get_elem? (visits (c + 2)) k ≡ some y →
      after_of y.entry ≡ Some b → RefillAnswered book b c k
  refill_answered b c k y below at names =
      let xs : List Visit = visits (c + 2) in
      let v : VisitAt (cpu_kind c) lanes xs k y =
      lane_at (cpu_kind c) lanes xs (ok.lawful (c + 2) below) k y (conforms_at xs k y at) in
      ap (λ es. option_and_then base_refill_of (slice_get es k)) (cpu_listed lanes visits callers c below)
      ∙ ap (option_and_then base_refill_of) v.conforms ∙ sym (ap after_of v.is) ∙ names

  -- the visit at place `following` of the list `from` is an extraction or a refill, and names place `place` of the lane
  -- `lane`
  pub record Ahead (lane following place : ℕ) (from : List Visit) : Type 0 where
    pub visit : Visit
    pub conforms : get_elem? from following ≡ some visit
    pub names : ahead_of visit.entry ≡ Some (lane, place)
    pub within : lane < lanes

  extraction : (p i : ℕ) → extraction_at book.pool p ≡ Some i → Ahead 1 p i (visits 0)
  extraction p i is =
      let e = named_entry base_place_of book.pool p i is in
      let m : MadeAt pool_kind lanes (visits 0) p e.0 =
      made_at pool_kind lanes (visits 0) sides.pool p e.0 e.1 in
      record {
        visit = m.visit;
        conforms = element_at (visits 0) p m.visit m.conforms;
        names = ap ahead_of m.is ∙ ap base_lane e.2;
        within = omega arith;
      }

  refill : (b c k : ℕ) → refill_at book.base b ≡ Some (c, k) → Ahead (c + 2) b k (visits 1)
  refill b c k is =
      let e = named_entry refill_of book.base b (c, k) is in
      let m : MadeAt base_kind lanes (visits 1) b e.0 =
      made_at base_kind lanes (visits 1) sides.base b e.0 e.1 in
      let names : ahead_of (Base e.0) ≡ Some (c + 2, k) = ap cpu_lane e.2 in
      record {
        visit = m.visit;
        conforms = element_at (visits 1) b m.visit m.conforms;
        names = ap ahead_of m.is ∙ names;
        within = subst (NamesWithin lanes) names m.ahead;
      }

  pub lawful_lanes : AllAnswered lanes visits → LawfulLanes book
  lawful_lanes answered = record {
    forward = forward_lawful lanes visits callers ok;
    extractions = λ p i is.
        let a : Ahead 1 p i (visits 0) = extraction p i is in
        let y = answered 1 (omega arith) a.within p i a.visit a.conforms a.names in
        extraction_answered p i y.0 y.1 y.2;
    refills = λ b c k is.
        let a : Ahead (c + 2) b k (visits 1) = refill b c k is in
        let P : ℕ → Type 0 = λ following. Answered (c + 2) (visits following) (visits (c + 2)) in
        let y = subst P (parent_cpu c) (answered (c + 2) (omega arith) a.within) b k a.visit a.conforms a.names in
        refill_answered b c k y.0 a.within y.1 y.2;
  }

  pub half_finished : AllHalfAnswered lanes visits → HalfFinishedLanes book
  half_finished half = record {
    forward = forward_lawful lanes visits callers ok;
    extractions = λ p i is.
        let a : Ahead 1 p i (visits 0) = extraction p i is in
        elim (half 1 (omega arith) a.within p i a.visit a.conforms a.names) [
          | inl y ↦ inl (extraction_answered p i y.0 y.1 y.2)
          | inr beyond ↦ inr (let same : length book.base ≡ length (visits 1) = base_length in omega arith)
        ];
    refills = λ b c k is.
        let a : Ahead (c + 2) b k (visits 1) = refill b c k is in
        let P : ℕ → Type 0 = λ following. HalfAnswered (c + 2) (visits following) (visits (c + 2)) in
        elim (subst P (parent_cpu c) (half (c + 2) (omega arith) a.within) b k a.visit a.conforms a.names) [
          | inl y ↦ inl (refill_answered b c k y.0 a.within y.1 y.2)
          | inr beyond ↦ inr (let same : length (cpu_list book c) ≡ length (visits (c + 2)) = cpu_length c a.within in
              omega arith)
        ];
  }
    where
      base_length : length book.base ≡ length (visits 1)
      base_length = entries_length base_entry (visits 1) (one_kind base_kind lanes (visits 1) sides.base)

      cpu_length : (c : ℕ) → c + 2 < lanes → length (cpu_list book c) ≡ length (visits (c + 2))
      cpu_length c below =
          ap length (cpu_listed lanes visits callers c below)
          ∙ entries_length cpu_entry (visits (c + 2))
          (one_kind (cpu_kind c) lanes (visits (c + 2)) (ok.lawful (c + 2) below))

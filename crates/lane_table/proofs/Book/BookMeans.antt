-- Each lane's model (its value in the proofs) is the one that the book's lists give. The key that each visit hands on
-- is the one that the book gives for the visit's place.
use Rattle.std.proofs.Common.{◌≡◌, ℕ, ◌+◌, ◌≤◌, ◌<◌, List, length, take, sym, ap, ◌∙◌, subst, arith, Some, Option}
use Rattle.std.specs.Prelude.{slice_get}
use Rattle.key_names.specs.declared.entries.Taken.{Taken}
use Rattle.key_names.specs.declared.entries.CpuEntry.{CpuEntry}
use Rattle.key_names.specs.declared.entries.CpuEntry.TheVariants.{Read}
use Rattle.key_names.specs.Lanes.PoolList.{pool_after}
use Rattle.key_names.specs.Keys.KeyInUse.{cpu_call_value}
use Rattle.key_names.specs.Lanes.Book.{Lists, cpu_list}
use Rattle.base_gen.specs.BaseValue.{after_entries}
use Rattle.lane_table.specs.declared.view.LaneEntry.TheVariants.{Cpu}
use Rattle.lane_table.specs.declared.view.Visit.{Visit}
use Rattle.lane_table.specs.declared.view.Handed.{Handed}
use Rattle.lane_table.specs.Meaning.{replay, gave_of, call_key}
use Rattle.lane_table.specs.BookLists.{StateLists, book_lists}
use Rattle.lane_table.specs.BookLaws.{ClosedLanes, CpuReplays, LanesReplay, VisitsGive}
use Rattle.lane_table.proofs.Book.BookEntries.{VisitAt, pool_kind, base_kind, cpu_kind, whole}
use Rattle.lane_table.proofs.Book.BookValues.{SameHeldLane, pool_before, pool_gave, base_before, base_gave_key, base_gave_generation}
use Rattle.lane_table.proofs.Book.BookCpus.{CpuLane, cpu_visit_at}
use Rattle.lane_table.proofs.Book.BookReplays.{cpu_replays, cpu_used_here}
use Rattle.lane_table.proofs.Book.BookWhole.{beside, cpu_lane_of}

module _ (lanes : ℕ) (visits : ℕ → List Visit) (callers : StateLists) (ok : ClosedLanes lanes visits) where
  abbrev book : Lists
  book = book_lists lanes visits callers

  sides : SameHeldLane lanes (visits 0) (visits 1)
  sides = beside lanes visits callers ok

  -- before each place `i` of its list, the model of CPU `c` has the values that the book gives
  pub cpu_met_before : (c : ℕ) → c + 2 < lanes → (i : ℕ) → i ≤ length (visits (c + 2)) →
      CpuReplays book c (take i (cpu_list book c)) (replay (take i (visits (c + 2)))).cpu
  cpu_met_before c below i within =
      let lane : CpuLane lanes c book (visits (c + 2)) = cpu_lane_of lanes visits callers ok c below in
      let P : List CpuEntry → Type 0 = λ es. CpuReplays book c (take i es) (replay (take i (visits (c + 2)))).cpu in
      subst P (sym lane.listed) (cpu_replays lanes c book (visits (c + 2)) lane i within)

  cpu_met_whole : (c : ℕ) → c + 2 < lanes → CpuReplays book c (cpu_list book c) (replay (visits (c + 2))).cpu
  cpu_met_whole c below =
      let xs : List Visit = visits (c + 2) in
      let lane : CpuLane lanes c book xs = cpu_lane_of lanes visits callers ok c below in
      let P : List CpuEntry → Type 0 = λ es. CpuReplays book c es (replay xs).cpu in
      subst P (sym lane.listed)
      (whole (cpu_kind c) lanes xs lane.lawful (λ xs es. CpuReplays book c es (replay xs).cpu)
      (cpu_replays lanes c book xs lane (length xs) (omega arith)))

  pub lanes_replay : LanesReplay lanes visits book
  lanes_replay = record {
    pool = whole pool_kind lanes (visits 0) sides.pool (λ xs es. (replay xs).pool ≡ pool_after es)
        (pool_before lanes (visits 0) sides.pool (length (visits 0)) (omega arith));
    base = whole base_kind lanes (visits 1) sides.base (λ xs es. (replay xs).base ≡ after_entries book.pool es)
        (base_before lanes (visits 0) (visits 1) sides (length (visits 1)) (omega arith));
    cpus = cpu_met_whole;
  }

  cpu_gave : (c place look : ℕ) (refill : Option ℕ) (taken : Taken) (x : Visit) → c + 2 < lanes →
      slice_get (visits (c + 2)) place ≡ Some x → x.entry ≡ Cpu (Read look refill taken) →
      x.gave.key ≡ cpu_call_value book c place
  cpu_gave c place look refill taken x below at is =
      let xs : List Visit = visits (c + 2) in
      let lane : CpuLane lanes c book xs = cpu_lane_of lanes visits callers ok c below in
      let v : VisitAt (cpu_kind c) lanes xs place x = cpu_visit_at lanes c book xs lane place x at in
      ap (λ (h : Handed). h.key) (v.may.gave_is ∙ ap (λ e. gave_of (replay (take place xs)) e x.got) is)
      ∙ ap call_key (cpu_used_here lanes c book xs lane place x (Read look refill taken) at is)

  pub visits_give : VisitsGive lanes visits book
  visits_give = record {
    roots = pool_gave lanes (visits 0) sides.pool;
    base_keys = base_gave_key lanes (visits 0) (visits 1) sides;
    generations = base_gave_generation lanes (visits 0) (visits 1) sides;
    cpu_keys = cpu_gave;
  }

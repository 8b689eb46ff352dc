-- The book has each visit of the pool and of the CPUs, with its maker. Before each CPU visit, the book and the CPU's
-- model (its value in the proofs) have the same fast pool. Proofs that a transcript's samples are right use these
-- lemmas.
use Rattle.std.proofs.Common.{◌≡◌, ℕ, ◌+◌, ◌≤◌, ◌<◌, inl, inr, List, [], length, take, sym, ap, ◌∙◌, arith, Some, None, Option}
use Rattle.std.specs.Prelude.{slice_get}
use Rattle.key_names.specs.declared.entries.PoolEntry.{PoolEntry}
use Rattle.key_names.specs.declared.entries.CpuEntry.{CpuEntry}
use Rattle.key_names.specs.Lanes.Samples.{fast_before, visits_of}
use Rattle.key_names.specs.Lanes.Book.{Book}
use Rattle.key_names.specs.Lanes.Book as of_book
use Rattle.key_names.proofs.Transcripts.TranscriptBooks.{lt_or_le}
use Rattle.lane_table.specs.declared.view.Visit.{Visit}
use Rattle.lane_table.specs.Meaning.{replay}
use Rattle.lane_table.specs.BookLists.{StateLists, book_of, book_lists}
use Rattle.lane_table.specs.BookLaws.{ClosedLanes}
use Rattle.lane_table.proofs.Book.BookEntries.{VisitedAt, visited_at, pool_kind, cpu_kind}
use Rattle.lane_table.proofs.Book.BookCpus as cpus
use Rattle.lane_table.proofs.Book.BookWhole.{cpu_visits, no_cpu_visits, cpu_lane_of}

module _ (lanes : ℕ) (visits : ℕ → List Visit) (callers : StateLists) where
  abbrev book : Book
  book = book_of lanes visits callers

  -- the book's visit `v` of CPU `c` at place `place` is made from the visit at that place of the CPU's lane
  pub record OfLane (c place : ℕ) (v : of_book.Visit CpuEntry) : Type 0 where
    pub below : c + 2 < lanes
    pub visited : VisitedAt (cpu_kind c) (visits (c + 2)) place v

  module _ (ok : ClosedLanes lanes visits) where
    pub pool_visited : (place : ℕ) (v : of_book.Visit PoolEntry) → slice_get book.pool place ≡ Some v →
        VisitedAt pool_kind (visits 0) place v
    pool_visited = visited_at pool_kind lanes (visits 0) (ok.lawful 0 (omega arith))

    pub cpu_visited : (c place : ℕ) (v : of_book.Visit CpuEntry) → slice_get (visits_of book c) place ≡ Some v →
        OfLane c place v
    cpu_visited c place v is = elim (lt_or_le (c + 2) lanes) [
      | inl below ↦ record {
        below = below;
        visited = visited_at (cpu_kind c) lanes (visits (c + 2)) (ok.lawful (c + 2) below) place v
            (ap (λ vs. slice_get vs place) (sym (cpu_visits lanes visits callers c below)) ∙ is);
      }
      | inr beyond ↦ (let none : visits_of book c ≡ [] =
          no_cpu_visits lanes visits callers c beyond in
          let p : ◌≡◌ {A = Option (of_book.Visit CpuEntry)} None (Some v) =
          ap (λ vs. slice_get vs place) (sym none) ∙ is in cc)
    ]

    -- before each place of the list of CPU `c`, the book and the CPU's model have the same fast pool
    pub fast_met : (c place : ℕ) → c + 2 < lanes → place ≤ length (visits (c + 2)) →
        fast_before (visits_of book c) place ≡ (replay (take place (visits (c + 2)))).cpu.fast
    fast_met c place below within =
        ap (λ vs. fast_before vs place) (cpu_visits lanes visits callers c below)
        ∙ sym (cpus.fast_before lanes c (book_lists lanes visits callers) (visits (c + 2))
        (cpu_lane_of lanes visits callers ok c below) place within)

-- All lanes together: closed and lawful lists make a book in which the lists of the base and of the CPUs are lawful. If
-- an entry of these lists names a root or a refill, the entry at the named place names it back (`ForwardLawful`). The
-- lemmas find each CPU's list in the book, and each named root and refill.
use Rattle.std.proofs.Common.{◌≡◌, ℕ, zero, suc, ◌+◌, ◌-◌, ◌≤◌, ◌<◌, inl, inr, cond, List, [], ◌∷◌, map, refl, sym, ap, ◌∙◌, subst, arith, Some, None, Option}
use Rattle.std.specs.Prelude.{slice_get, option_and_then, IsTrue}
use Rattle.std.proofs.lemmas.Bool.{ne_eqb}
use Rattle.key_names.specs.declared.entries.PoolEntry.{PoolEntry}
use Rattle.key_names.specs.declared.entries.PoolEntry.TheVariants.{Extract}
use Rattle.key_names.specs.declared.entries.BaseEntry.{BaseEntry}
use Rattle.key_names.specs.declared.entries.BaseEntry.TheVariants.{Refill}
use Rattle.key_names.specs.declared.entries.CpuEntry.{CpuEntry}
use Rattle.key_names.specs.Lanes.PoolList.{base_place_of, extraction_at}
use Rattle.key_names.specs.Lanes.BaseList.{base_erases, root_of, refill_of, refill_at, generation_at}
use Rattle.key_names.specs.Lanes.CpuList.{LawfulCpu, base_refill_of}
use Rattle.key_names.specs.Keys.KeyInUse.{base_call_value}
use Rattle.key_names.specs.Lanes.Book.{Lists, cpu_list, list_at, entries_of, ForwardLawful}
use Rattle.key_names.specs.Lanes.Book as of_book
use Rattle.key_names.proofs.Transcripts.TranscriptBooks.{lt_or_le, made_at, made_beyond}
use Rattle.cpu_gen.proofs.Entries.{handed_at}
use Rattle.lane_table.specs.declared.view.LaneEntry.TheVariants.{Pool, Base, Cpu}
use Rattle.lane_table.specs.declared.view.Visit.{Visit}
use Rattle.lane_table.specs.Meaning.{generator_of, after_of, ahead_of, cpu_lane, parent, LawfulLane}
use Rattle.lane_table.specs.References.{Pointed}
use Rattle.lane_table.specs.BookLists.{StateLists, book_visits, entries, cpu_entry, book_of, book_lists}
use Rattle.lane_table.specs.BookLaws.{ClosedLanes}
use Rattle.lane_table.proofs.Lists.Places.{conforms_at, element_at}
use Rattle.lane_table.proofs.Book.BookEntries.{VisitAt, pool_kind, base_kind}
use Rattle.lane_table.proofs.Book.BookValues.{SameHeldLane, pool_at, base_visit_at, base_before, base_gave_key, base_gave_generation}
use Rattle.lane_table.proofs.Book.BookCpus.{CpuLane}
use Rattle.lane_table.proofs.Book.BookLawful.{lawful_base, lawful_cpu}

-- the parent lane of a CPU is the base
pub parent_cpu : (c : ℕ) → parent (c + 2) ≡ 1
parent_cpu c = ap (λ b. cond b 0 1) (ne_eqb (c + 2) 1 (λ e. omega arith))

-- if `ahead_of` gives a lane and a place for an entry, the entry's own field (such as `base_place_of`) has the same
-- place
extracts : (e : PoolEntry) (lane place : ℕ) → ahead_of (Pool e) ≡ Some (lane, place) → base_place_of e ≡ Some place
extracts (Extract hw base_place) lane place names =
    let p : ◌≡◌ {A = ℕ × ℕ} (1, base_place) (lane, place) = cc in ap (λ (n : ℕ × ℕ). Some n.1) p
extracts _ lane place names = cc

of_cpu : (named : Option (ℕ × ℕ)) (c place : ℕ) → cpu_lane named ≡ Some (c + 2, place) → named ≡ Some (c, place)
of_cpu None c place is = cc
of_cpu (Some named) c place is =
    let p : ◌≡◌ {A = ℕ × ℕ} (named.0 + 2, named.1) (c + 2, place) = cc in
    let lane : named.0 + 2 ≡ c + 2 = ap (λ (n : ℕ × ℕ). n.0) p in
    let cpu : named.0 ≡ c = omega arith in
    let at : named.1 ≡ place = ap (λ (n : ℕ × ℕ). n.1) p in λ k. Some (cpu k, at k)

refill_erases : (e : BaseEntry) (named : ℕ × ℕ) → refill_of e ≡ Some named → IsTrue (base_erases e)
refill_erases (Refill cpu place) named is = refl
refill_erases _ named is = cc

entries_at : (lanes : List (List (of_book.Visit CpuEntry))) (c : ℕ) →
    list_at (map entries_of lanes) c ≡ entries_of (list_at lanes c)
entries_at [] c = refl
entries_at (xs ∷ lanes) zero = refl
entries_at (xs ∷ lanes) (suc c) = entries_at lanes c

module _ (lanes : ℕ) (visits : ℕ → List Visit) (callers : StateLists) where
  -- the list of CPU `c` in the book has the visits of the CPU's lane, and their entries
  pub cpu_visits : (c : ℕ) → c + 2 < lanes →
      list_at (book_of lanes visits callers).cpus c ≡ book_visits cpu_entry (visits (c + 2))
  cpu_visits c below =
      let here : 0 + c ≡ c = omega arith in
      made_at (λ c. book_visits cpu_entry (visits (c + 2))) 0 (lanes - 2) c (omega arith)
      ∙ ap (λ c. book_visits cpu_entry (visits (c + 2))) here

  pub no_cpu_visits : (c : ℕ) → lanes ≤ c + 2 → list_at (book_of lanes visits callers).cpus c ≡ []
  no_cpu_visits c beyond =
      made_beyond (λ c. book_visits cpu_entry (visits (c + 2))) 0 (lanes - 2) c (omega arith)

  pub cpu_listed : (c : ℕ) → c + 2 < lanes →
      cpu_list (book_lists lanes visits callers) c ≡ entries cpu_entry (visits (c + 2))
  cpu_listed c below = entries_at (book_of lanes visits callers).cpus c ∙ ap entries_of (cpu_visits c below)

  pub no_cpu : (c : ℕ) → lanes ≤ c + 2 → cpu_list (book_lists lanes visits callers) c ≡ []
  no_cpu c beyond = entries_at (book_of lanes visits callers).cpus c ∙ ap entries_of (no_cpu_visits c beyond)

module _ (lanes : ℕ) (visits : ℕ → List Visit) (callers : StateLists) (ok : ClosedLanes lanes visits) where
  abbrev pub book : Lists
  book = book_lists lanes visits callers

  pub pool_lawful : LawfulLane lanes 0 (visits 0)
  pool_lawful = ok.lawful 0 (omega arith)

  pub beside : SameHeldLane lanes (visits 0) (visits 1)
  beside = record {
    pool = pool_lawful;
    base = ok.lawful 1 (omega arith);
    pointed = ok.closed 1 (omega arith) (omega arith);
  }

  pointed_cpu : (c : ℕ) → c + 2 < lanes → Pointed (c + 2) (visits 1) (visits (c + 2))
  pointed_cpu c below =
      let P : ℕ → Type 0 = λ following. Pointed (c + 2) (visits following) (visits (c + 2)) in
      subst P (parent_cpu c) (ok.closed (c + 2) (omega arith) below)

  -- if an entry of the base names a root, the root's extraction names the entry's place
  rooted : (i place : ℕ) (x : Visit) (e : BaseEntry) → slice_get (visits 1) i ≡ Some x → x.entry ≡ Base e →
      root_of e ≡ Some place → extraction_at book.pool place ≡ Some i
  rooted i place x e at is names =
      let from = beside.pointed i place x (element_at (visits 1) i x at) (ap after_of is ∙ names) in
      let v : VisitAt pool_kind lanes (visits 0) place from.0 =
      pool_at lanes (visits 0) pool_lawful place from.0 (conforms_at (visits 0) place from.0 from.1) in
      ap (option_and_then base_place_of) v.conforms ∙ extracts v.entry 1 i (sym (ap ahead_of v.is) ∙ from.2)

  -- if an entry of a CPU names a refill, the refill is for the entry's CPU and place, and the entry's visit received
  -- the generator that the refill hands over
  named_refill : (c i b : ℕ) (x : Visit) (e : CpuEntry) → c + 2 < lanes → slice_get (visits (c + 2)) i ≡ Some x →
      x.entry ≡ Cpu e → base_refill_of e ≡ Some b →
      (refill_at book.base b ≡ Some (c, i)) × (generator_of x.got ≡ handed_at book b)
  named_refill c i b x e below at is names =
      let from = pointed_cpu c below i b x (element_at (visits (c + 2)) i x at) (ap after_of is ∙ names) in
      let there : slice_get (visits 1) b ≡ Some from.0 = conforms_at (visits 1) b from.0 from.1 in
      let v : VisitAt base_kind lanes (visits 1) b from.0 =
      base_visit_at lanes (visits 0) (visits 1) beside b from.0 there in
      let refill : refill_of v.entry ≡ Some (c, i) =
      of_cpu (refill_of v.entry) c i (sym (ap ahead_of v.is) ∙ from.2) in
      let key : from.0.gave.key ≡ base_call_value book b =
      base_gave_key lanes (visits 0) (visits 1) beside b from.0 v.entry there v.is
      (refill_erases v.entry (c, i) refill) in
      let generation : from.0.gave.generation ≡ generation_at book.base b =
      base_gave_generation lanes (visits 0) (visits 1) beside b from.0 v.entry (c, i)
      there v.is refill in (
        ap (option_and_then refill_of) v.conforms ∙ refill,
        ap generator_of from.3 ∙ (λ k. record { key = key k; generation = generation k }),
      )

  pub cpu_lane_of : (c : ℕ) → c + 2 < lanes → CpuLane lanes c book (visits (c + 2))
  cpu_lane_of c below = record {
    lawful = ok.lawful (c + 2) below;
    handed = λ i x e at is. record {
      handed = λ b names. (named_refill c i b x e below at is names).1;
      answers = λ b names. (named_refill c i b x e below at is names).0;
    };
    listed = cpu_listed lanes visits callers c below;
  }

  cpu_list_lawful : (c : ℕ) → LawfulCpu book.base c (cpu_list book c)
  cpu_list_lawful c = elim (lt_or_le (c + 2) lanes) [
    | inl below ↦ subst (LawfulCpu book.base c) (sym (cpu_listed lanes visits callers c below))
        (lawful_cpu lanes c book (visits (c + 2)) (cpu_lane_of c below))
    | inr beyond ↦ subst (LawfulCpu book.base c) (sym (no_cpu lanes visits callers c beyond)) tt
  ]

  pub forward_lawful : ForwardLawful book
  forward_lawful = record {
    base = lawful_base lanes book.pool (visits 1) beside.base (base_before lanes (visits 0) (visits 1) beside) rooted;
    cpus = cpu_list_lawful;
  }

-- The entries of a lane's list in the book: the book has the entry of each visit of a lawful lane, at the visit's
-- place.
use Rattle.std.proofs.Common.{◌≡◌, ℕ, ◌+◌, ◌<◌, List, length, take, refl, sym, ap, subst, ◌∙◌, arith, Some, Option}
use Rattle.std.specs.Prelude.{slice_get}
use Rattle.std.specs.Option.{option_map, option_map_or}
use Rattle.std.proofs.lemmas.List.{length-map, take_all}
use Rattle.std.proofs.lemmas.Option.{slice_get-map, slice_get_within}
use Rattle.key_names.specs.declared.entries.PoolEntry.{PoolEntry}
use Rattle.key_names.specs.declared.entries.BaseEntry.{BaseEntry}
use Rattle.key_names.specs.declared.entries.CpuEntry.{CpuEntry}
use Rattle.key_names.specs.Lanes.Book as of_book
use Rattle.key_names.proofs.Lists.Growing.{may_at}
use Rattle.lane_table.specs.declared.view.LaneEntry.{LaneEntry}
use Rattle.lane_table.specs.declared.view.LaneEntry.TheVariants.{Pool, Base, Cpu}
use Rattle.lane_table.specs.declared.view.Visit.{Visit}
use Rattle.lane_table.specs.Meaning.{IsOf, IsLater, NamesWithin, Fits, MayCome, LawfulLane, after_of, ahead_of, model_step, start_model, replay}
use Rattle.lane_table.specs.BookLists.{pool_entry, base_entry, cpu_entry, book_visit, book_visits, entries}
use Rattle.lane_table.proofs.Lists.Places.{GivesEach, filter_map_at, filter_map_length, some_at}

-- `of` accepts the entry of each visit of `xs`, so all entries are of one kind (pool, base or CPU)
pub record OneKind {E : Type 0} (of : LaneEntry → Option E) (xs : List Visit) : Type 0 where
  pub each : (i : ℕ) (x : Visit) → slice_get xs i ≡ Some x → (e : E) × (of x.entry ≡ Some e)

module _ {E : Type 0} (of : LaneEntry → Option E) (xs : List Visit) (kind : OneKind of xs) where
  gives : GivesEach (book_visit of) xs
  gives i x is =
      let e = kind.each i x is in (
        record { stamp = x.stamp; who = x.who; entry = e.0 },
        ap (option_map (λ e. record { stamp = x.stamp; who = x.who; entry = e })) e.1,
      )

  pub visit_at : (i : ℕ) (x : Visit) (e : E) → slice_get xs i ≡ Some x → of x.entry ≡ Some e →
      slice_get (book_visits of xs) i ≡ Some (record { stamp = x.stamp; who = x.who; entry = e })
  visit_at i x e is has =
      filter_map_at (book_visit of) xs i x (record { stamp = x.stamp; who = x.who; entry = e }) gives is
      (ap (option_map (λ e. record { stamp = x.stamp; who = x.who; entry = e })) has)

  pub entry_at : (i : ℕ) (x : Visit) (e : E) → slice_get xs i ≡ Some x → of x.entry ≡ Some e →
      slice_get (entries of xs) i ≡ Some e
  entry_at i x e is has =
      slice_get-map (λ (v : of_book.Visit E). v.entry) (book_visits of xs) i
      ∙ ap (option_map (λ (v : of_book.Visit E). v.entry)) (visit_at i x e is has)

  pub visits_length : length (book_visits of xs) ≡ length xs
  visits_length = filter_map_length (book_visit of) xs gives

  pub entries_length : length (entries of xs) ≡ length xs
  entries_length = length-map (book_visits of xs) (λ (v : of_book.Visit E). v.entry) ∙ visits_length

-- how an entry of type `E` of the lane `lane` becomes a `LaneEntry` (`wrap`), and is found in one (`of`)
pub record Kind (E : Type 0) (lane : ℕ) : Type 0 where
  pub wrap : E → LaneEntry
  pub of : LaneEntry → Option E
  pub unwraps : (e : E) → of (wrap e) ≡ Some e
  pub only : (e : LaneEntry) → IsOf lane e → (entry : E) × (e ≡ wrap entry)

pub pool_only : (e : LaneEntry) → IsOf 0 e → (entry : PoolEntry) × (e ≡ Pool entry)
pool_only (Pool entry) is = (entry, refl)
pool_only (Base entry) is = absurd (omega arith)
pool_only (Cpu entry) is = absurd (omega arith)

pub base_only : (e : LaneEntry) → IsOf 1 e → (entry : BaseEntry) × (e ≡ Base entry)
base_only (Pool entry) is = absurd (omega arith)
base_only (Base entry) is = (entry, refl)
base_only (Cpu entry) is = absurd (omega arith)

pub cpu_only : (c : ℕ) (e : LaneEntry) → IsOf (c + 2) e → (entry : CpuEntry) × (e ≡ Cpu entry)
cpu_only c (Pool entry) is = absurd (omega arith)
cpu_only c (Base entry) is = absurd (omega arith)
cpu_only c (Cpu entry) is = (entry, refl)

abbrev pub pool_kind : Kind PoolEntry 0
pool_kind = record { wrap = Pool; of = pool_entry; unwraps = λ e. refl; only = pool_only }

abbrev pub base_kind : Kind BaseEntry 1
base_kind = record { wrap = Base; of = base_entry; unwraps = λ e. refl; only = base_only }

abbrev pub cpu_kind : (c : ℕ) → Kind CpuEntry (c + 2)
cpu_kind c = record { wrap = Cpu; of = cpu_entry; unwraps = λ e. refl; only = cpu_only c }

-- `x` is the visit at place `i` of a lawful lane: the book has its entry at that place, and the entry may come after
-- those before it
pub record VisitAt {E : Type 0} {lane : ℕ} (k : Kind E lane) (lanes : ℕ) (xs : List Visit) (i : ℕ)
    (x : Visit) : Type 0 where
  pub entry : E
  pub is : x.entry ≡ k.wrap entry
  pub conforms : slice_get (entries k.of xs) i ≡ Some entry
  pub may : MayCome lanes lane (replay (take i xs)) x

-- the lane's visit at place `i`, which made the entry `e` of the book
pub record MadeAt {E : Type 0} {lane : ℕ} (k : Kind E lane) (lanes : ℕ) (xs : List Visit) (i : ℕ) (e : E) : Type 0 where
  pub visit : Visit
  pub conforms : slice_get xs i ≡ Some visit
  pub is : visit.entry ≡ k.wrap e
  pub within : i < length xs
  pub ahead : NamesWithin lanes (ahead_of (k.wrap e))
  pub later : IsLater (replay (take i xs)).least (after_of (k.wrap e))
  pub fits : Fits (replay (take i xs)) visit.got (k.wrap e)

-- the lane's visit at place `i`, which is the visit `v` of the book
pub record VisitedAt {E : Type 0} {lane : ℕ} (k : Kind E lane) (xs : List Visit) (i : ℕ)
    (v : of_book.Visit E) : Type 0 where
  pub visit : Visit
  pub conforms : slice_get xs i ≡ Some visit
  pub is : visit.entry ≡ k.wrap v.entry
  pub stamp : visit.stamp ≡ v.stamp
  pub who : visit.who ≡ v.who

module _ {E : Type 0} {lane : ℕ} (k : Kind E lane) (lanes : ℕ) (xs : List Visit)
    (lawful : LawfulLane lanes lane xs) where
  may_come : (i : ℕ) (x : Visit) → slice_get xs i ≡ Some x → MayCome lanes lane (replay (take i xs)) x
  may_come i x is = may_at (MayCome lanes lane) model_step start_model xs i x lawful is

  pub one_kind : OneKind k.of xs
  one_kind = record {
    each = λ i x is.
        let may : MayCome lanes lane (replay (take i xs)) x = may_come i x is in
        let e = k.only x.entry may.kind in (e.0, ap k.of e.1 ∙ k.unwraps e.0);
  }

  -- a visit's entry is in the book at the visit's place, and an entry of the book has its visit at the entry's place
  pub entered_at : (i : ℕ) (x : Visit) (e : E) → slice_get xs i ≡ Some x → x.entry ≡ k.wrap e →
      slice_get (entries k.of xs) i ≡ Some e
  entered_at i x e at is = entry_at k.of xs one_kind i x e at (ap k.of is ∙ k.unwraps e)

  pub lane_at : (i : ℕ) (x : Visit) → slice_get xs i ≡ Some x → VisitAt k lanes xs i x
  lane_at i x is =
      let may : MayCome lanes lane (replay (take i xs)) x = may_come i x is in
      let e = k.only x.entry may.kind in
      record { entry = e.0; is = e.1; conforms = entered_at i x e.0 is e.1; may = may }

  pub made_at : (i : ℕ) (e : E) → slice_get (entries k.of xs) i ≡ Some e → MadeAt k lanes xs i e
  made_at i e is =
      let in_book : i < length (entries k.of xs) = slice_get_within (entries k.of xs) i e is in
      let long : length (entries k.of xs) ≡ length xs = entries_length k.of xs one_kind in
      let within : i < length xs = omega arith in
      let x = some_at xs i within in
      let v : VisitAt k lanes xs i x.0 = lane_at i x.0 x.1 in
      let same : v.entry ≡ e = (let p : ◌≡◌ {A = Option E} (Some v.entry) (Some e) = sym v.conforms ∙ is in cc) in
      let wrapped : x.0.entry ≡ k.wrap e = v.is ∙ ap k.wrap same in
      let Ahead : LaneEntry → Type 0 = λ e. NamesWithin lanes (ahead_of e) in
      let Later : LaneEntry → Type 0 = λ e. IsLater (replay (take i xs)).least (after_of e) in
      record {
        visit = x.0;
        conforms = x.1;
        is = wrapped;
        within = within;
        ahead = subst Ahead wrapped v.may.within;
        later = subst Later wrapped v.may.later;
        fits = subst (Fits (replay (take i xs)) x.0.got) wrapped v.may.fits;
      }

  -- each visit of the book's list is made from a visit of the lane, at the same place
  pub visited_at : (i : ℕ) (v : of_book.Visit E) → slice_get (book_visits k.of xs) i ≡ Some v → VisitedAt k xs i v
  visited_at i v is =
      let in_book : i < length (book_visits k.of xs) = slice_get_within (book_visits k.of xs) i v is in
      let long : length (book_visits k.of xs) ≡ length xs = visits_length k.of xs one_kind in
      let x = some_at xs i (omega arith) in
      let e : VisitAt k lanes xs i x.0 = lane_at i x.0 x.1 in
      let there : slice_get (book_visits k.of xs) i
      ≡ Some (record { stamp = x.0.stamp; who = x.0.who; entry = e.entry }) =
      visit_at k.of xs one_kind i x.0 e.entry x.1 (ap k.of e.is ∙ k.unwraps e.entry) in
      let same : record { stamp = x.0.stamp; who = x.0.who; entry = e.entry } ≡ v =
      ap (λ o. option_map_or (λ (w : of_book.Visit E). w) o v) (sym there ∙ is) in
      record {
        visit = x.0;
        conforms = x.1;
        is = e.is ∙ ap (λ (w : of_book.Visit E). k.wrap w.entry) same;
        stamp = ap (λ (w : of_book.Visit E). w.stamp) same;
        who = ap (λ (w : of_book.Visit E). w.who) same;
      }

-- if `P` holds for the first `length xs` visits and entries of a lane, `P` holds for all visits and entries of the lane
pub whole : {E : Type 0} {lane : ℕ} (k : Kind E lane) (lanes : ℕ) (xs : List Visit) → LawfulLane lanes lane xs →
    (P : List Visit → List E → Type 0) → P (take (length xs) xs) (take (length xs) (entries k.of xs)) →
    P xs (entries k.of xs)
whole k lanes xs lawful P h =
    let same : length (entries k.of xs) ≡ length xs = entries_length k.of xs (one_kind k lanes xs lawful) in
    let visits : take (length xs) xs ≡ xs = take_all (length xs) xs (omega arith) in
    let es : take (length xs) (entries k.of xs) ≡ entries k.of xs =
    take_all (length xs) (entries k.of xs) (omega arith) in
    let Q : List Visit → Type 0 = λ ys. P ys (take (length xs) (entries k.of xs)) in
    subst (P xs) es (subst Q visits h)

-- Suppose that the lists are lawful and closed. Before each place, the models (lanes' values in the proofs) of the pool
-- and the base have the values that the earlier entries give. The key that a visit hands on has the value that the list
-- gives for the visit's place.
use Rattle.std.proofs.Common.{◌≡◌, ℕ, ◌≤◌, ◌<◌, List, length, take, refl, sym, ap, ◌∙◌, arith, Some}
use Rattle.std.specs.Prelude.{slice_get, IsTrue}
use Rattle.std.proofs.lemmas.Option.{slice_get_within}
use Rattle.key_names.specs.declared.entries.PoolEntry.{PoolEntry}
use Rattle.key_names.specs.declared.entries.PoolEntry.TheVariants.{Mix, Input, Bits, Extract}
use Rattle.key_names.specs.declared.entries.BaseEntry.{BaseEntry}
use Rattle.key_names.specs.declared.entries.BaseEntry.TheVariants.{Draw, Refill}
use Rattle.key_names.specs.Kernel.Keystream.{keystream}
use Rattle.key_names.specs.Lanes.PoolList.{PoolState, pool_start, pool_step, pool_after, root_given, root_value}
use Rattle.key_names.specs.Lanes.BaseList.{base_erases, root_of, refill_of, generation_at}
use Rattle.key_names.specs.Keys.KeyInUse.{base_value_after, base_value_in_use, base_value_at, base_used_at}
use Rattle.base_gen.specs.BaseValue.{BaseValue, key_in_use, after_entries, after_entry}
use Rattle.base_gen.proofs.Rows.{HandsRoot, key_in_use-root, after_entry-after_entries}
use Rattle.lane_table.specs.declared.view.LaneEntry.TheVariants.{Base}
use Rattle.lane_table.specs.declared.view.Visit.{Visit}
use Rattle.lane_table.specs.declared.view.Handed.{Handed}
use Rattle.lane_table.specs.Meaning.{Model, LawfulLane, model_step, start_model, replay, made_of, gave_of, pool_gives, base_gives, after_of}
use Rattle.lane_table.specs.References.{Pointed}
use Rattle.lane_table.specs.BookLists.{entries, pool_entry, base_entry}
use Rattle.lane_table.proofs.Lists.Places.{conforms_at, element_at, take_next, fold_next, at_each_place}
use Rattle.lane_table.proofs.Book.BookEntries.{VisitAt, lane_at, entered_at, pool_kind, base_kind}

-- lemmas about the pool's list alone
module _ (lanes : ℕ) (xs : List Visit) (lawful : LawfulLane lanes 0 xs) where
  pub pool_at : (i : ℕ) (x : Visit) → slice_get xs i ≡ Some x → VisitAt pool_kind lanes xs i x
  pool_at = lane_at pool_kind lanes xs lawful

  pub pool_before : (i : ℕ) → i ≤ length xs → (replay (take i xs)).pool ≡ pool_after (take i (entries pool_entry xs))
  pool_before = at_each_place xs (λ i. (replay (take i xs)).pool ≡ pool_after (take i (entries pool_entry xs))) refl
      (λ i x is now.
      let v : VisitAt pool_kind lanes xs i x = pool_at i x is in
      ap (λ (m : Model). m.pool) (fold_next model_step start_model xs i x is)
      ∙ ap (λ e. (made_of (replay (take i xs)) e x.got).pool) v.is
      ∙ ap (λ s. pool_step s v.entry) now
      ∙ sym (fold_next pool_step pool_start (entries pool_entry xs) i v.entry v.conforms))

  entry_gives : (s : PoolState) (e : PoolEntry) → (pool_gives s e).key ≡ root_given s (Some e)
  entry_gives s (Mix text bits) = refl
  entry_gives s (Input word kind code value now) = refl
  entry_gives s Bits = refl
  entry_gives s (Extract hw place) = refl

  -- the key that a visit of the pool hands on is the root that the pool's list gives
  pub pool_gave : (i : ℕ) (x : Visit) → slice_get xs i ≡ Some x → x.gave.key ≡ root_value (entries pool_entry xs) i
  pool_gave i x is =
      let within : i < length xs = slice_get_within xs i x is in
      let v : VisitAt pool_kind lanes xs i x = pool_at i x is in
      let s : Model = replay (take i xs) in
      ap (λ (h : Handed). h.key) v.may.gave_is ∙ ap (λ e. (gave_of s e x.got).key) v.is
      ∙ entry_gives s.pool v.entry ∙ ap (λ t. root_given t (Some v.entry)) (pool_before i (omega arith))
      ∙ ap (root_given (pool_after (take i (entries pool_entry xs)))) (sym v.conforms)

-- an entry that erases a key hands on bytes 32 to 64 of that key's keystream. A refill also hands on the base's
-- generation
erasure_gives : (b : BaseValue) (got : Handed) (e : BaseEntry) → IsTrue (base_erases e) →
    (base_gives b got e).key ≡ keystream (key_in_use (root_of e) got.key b.key) 32 32
erasure_gives b got (Draw root taken) h = refl
erasure_gives b got (Refill cpu place) h = refl
erasure_gives b got _ h = cc

refill_gives : (b : BaseValue) (got : Handed) (e : BaseEntry) (named : ℕ × ℕ) → refill_of e ≡ Some named →
    (base_gives b got e).generation ≡ b.generation
refill_gives b got (Refill cpu place) named h = refl
refill_gives b got _ named h = cc

-- the lists of the base and the pool are lawful, and `Pointed` holds for the base's references to the pool
pub record SameHeldLane (lanes : ℕ) (following xs : List Visit) : Type 0 where
  pub pool : LawfulLane lanes 0 following
  pub base : LawfulLane lanes 1 xs
  pub pointed : Pointed 1 following xs

module _ (lanes : ℕ) (following xs : List Visit) (ok : SameHeldLane lanes following xs) where
  abbrev pool : List PoolEntry
  pool = entries pool_entry following

  abbrev es : List BaseEntry
  es = entries base_entry xs

  pub base_visit_at : (i : ℕ) (x : Visit) → slice_get xs i ≡ Some x → VisitAt base_kind lanes xs i x
  base_visit_at = lane_at base_kind lanes xs ok.base

  -- if an entry of the base names a root, the entry's visit received that root
  pub root_handed : (i : ℕ) (x : Visit) (e : BaseEntry) → slice_get xs i ≡ Some x → x.entry ≡ Base e →
      HandsRoot pool e x.got.key
  root_handed i x e at is place names =
      let from = ok.pointed i place x (element_at xs i x at) (ap after_of is ∙ names) in
      ap (λ (h : Handed). h.key) from.3
      ∙ pool_gave lanes following ok.pool place from.0 (conforms_at following place from.0 from.1)

  pub base_before : (i : ℕ) → i ≤ length xs → (replay (take i xs)).base ≡ after_entries pool (take i es)
  base_before = at_each_place xs (λ i. (replay (take i xs)).base ≡ after_entries pool (take i es)) refl
      (λ i x is now.
      let v : VisitAt base_kind lanes xs i x = base_visit_at i x is in
      ap (λ (m : Model). m.base) (fold_next model_step start_model xs i x is)
      ∙ ap (λ e. (made_of (replay (take i xs)) e x.got).base) v.is
      ∙ ap (after_entry v.entry x.got.key) now
      ∙ after_entry-after_entries pool (take i es) v.entry x.got.key (root_handed i x v.entry is v.is)
      ∙ ap (after_entries pool) (sym (take_next es i v.entry v.conforms)))

  pub base_entered : (i : ℕ) (x : Visit) (e : BaseEntry) → slice_get xs i ≡ Some x → x.entry ≡ Base e →
      slice_get es i ≡ Some e
  base_entered = entered_at base_kind lanes xs ok.base

  -- at the base's entry with place `i`, the key in use in the base's model has the value that the lists give
  pub base_used : (i : ℕ) (x : Visit) (e : BaseEntry) → slice_get xs i ≡ Some x → x.entry ≡ Base e →
      key_in_use (root_of e) x.got.key (replay (take i xs)).base.key
      ≡ base_value_in_use pool e (base_value_after pool (take i es))
  base_used i x e at is =
      let within : i < length xs = slice_get_within xs i x at in
      ap (λ (b : BaseValue). key_in_use (root_of e) x.got.key b.key) (base_before i (omega arith))
      ∙ key_in_use-root pool (root_of e) x.got.key (base_value_after pool (take i es)) (root_handed i x e at is)

  -- a visit of the base hands on the key that its entry gives, from the model before the visit
  gave_as : (i : ℕ) (x : Visit) (e : BaseEntry) → slice_get xs i ≡ Some x → x.entry ≡ Base e →
      x.gave ≡ base_gives (replay (take i xs)).base x.got e
  gave_as i x e at is =
      let v : VisitAt base_kind lanes xs i x = base_visit_at i x at in
      v.may.gave_is ∙ ap (λ e. gave_of (replay (take i xs)) e x.got) is

  pub base_gave_key : (i : ℕ) (x : Visit) (e : BaseEntry) → slice_get xs i ≡ Some x → x.entry ≡ Base e →
      IsTrue (base_erases e) → x.gave.key ≡ keystream (base_used_at pool es i) 32 32
  base_gave_key i x e at is erases =
      ap (λ (h : Handed). h.key) (gave_as i x e at is) ∙ erasure_gives (replay (take i xs)).base x.got e erases
      ∙ ap (λ key. keystream key 32 32)
      (base_used i x e at is
      ∙ ap (base_value_at pool (base_value_after pool (take i es))) (sym (base_entered i x e at is)))

  pub base_gave_generation : (i : ℕ) (x : Visit) (e : BaseEntry) (named : ℕ × ℕ) → slice_get xs i ≡ Some x →
      x.entry ≡ Base e → refill_of e ≡ Some named → x.gave.generation ≡ generation_at es i
  base_gave_generation i x e named at is names =
      let within : i < length xs = slice_get_within xs i x at in
      ap (λ (h : Handed). h.generation) (gave_as i x e at is)
      ∙ refill_gives (replay (take i xs)).base x.got e named names
      ∙ ap (λ (b : BaseValue). b.generation) (base_before i (omega arith))

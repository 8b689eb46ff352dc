-- The moments that are made from a book's kept marks are the moments of the book's visits. The kept visits have the
-- stamps of the book's visits.
use Rattle.std.proofs.Common.{◌≡◌, ℕ, suc, ◌<◌, List, [], ◌∷◌, length, map, refl, sym, ap, ◌∙◌, arith}
use Rattle.std.specs.Global.{Vec}
use Rattle.std.proofs.lemmas.List.{length-map}
use Rattle.key_names.specs.Lanes.Book.{Book, Visit, entries_of, list_at, lists_of}
use Rattle.key_names.specs.Callers.Calls.{Call}
use Rattle.key_names.specs.Callers.Meaning.{CallMeaning}
use Rattle.key_names.specs.Transcripts.SeenLine.{SeenLine}
use Rattle.judge_lines.specs.Marks.{seen_mark}
use Rattle.audit_keys.specs.declared.entry.StateEntry.{StateEntry}
use Rattle.audit_keys.specs.Stamped.{all_kept, kept_lists}
use Rattle.audit_keys.specs.ListedEnds.{all_ends_in, ends_in}
use Rattle.audit_keys.proofs.UseMoments.{mapped_at}
use Rattle.audit_keys.specs.declared.moments.Moments.{Moments}
use Rattle.audit_keys.specs.Cut.{KeepsVisits, moment_lists, stamps_of, visit_stamps}
use Rattle.key_audit.specs.declared.book.KeptBook.{KeptBook}
use Rattle.key_audit.specs.Kept.{KeepsBook}
use Rattle.key_audit.specs.EntryMoments.{all_moments, caller_moments, end_moment, entry_moments}
use Rattle.key_audit.specs.Moments.{AreMoments, HasMarks, state_moments_in, visit_moments}
use Rattle.key_audit.proofs.KeptEntries.{base_kept, cpus_kept}

same_at : {A : Type 0} (xs ys : List (List A)) → length xs ≡ length ys →
    ((c : ℕ) → c < length xs → list_at xs c ≡ list_at ys c) → xs ≡ ys
same_at [] [] long each = refl
same_at [] (y ∷ ys) long each = absurd (omega arith)
same_at (x ∷ xs) [] long each = absurd (omega arith)
same_at (x ∷ xs) (y ∷ ys) long each =
    let first : x ≡ y = each 0 (omega arith) in
    let rest : xs ≡ ys = same_at xs ys (omega arith) (λ c lt. each (suc c) (omega arith)) in
    λ i. first i ∷ rest i

visits_stamps : {E : Type 0} (visits : List (Visit E)) → stamps_of (visit_moments visits) ≡ visit_stamps visits
visits_stamps [] = refl
visits_stamps (v ∷ visits) = ap (λ ns. v.stamp ∷ ns) (visits_stamps visits)

all_stamps : {E : Type 0} (cpus : List (List (Visit E))) →
    map stamps_of (map visit_moments cpus) ≡ map visit_stamps cpus
all_stamps [] = refl
all_stamps (visits ∷ cpus) = λ i. visits_stamps visits i ∷ all_stamps cpus i

-- ---- the moments of the entries of vgetrandom states

list_ends : (list : List StateEntry) → entry_moments list ≡ map end_moment (ends_in list)
list_ends [] = refl
list_ends (e ∷ list) = ap (λ ms. end_moment e.end ∷ ms) (list_ends list)

caller_ends : (lists : List (Vec StateEntry)) → caller_moments lists ≡ map (map end_moment) (map ends_in (kept_lists lists))
caller_ends [] = refl
caller_ends (list ∷ lists) = λ i. list_ends list.items i ∷ caller_ends lists i

all_ends_are : (callers : List (Vec (Vec StateEntry))) →
    all_moments callers ≡ map (map (map end_moment)) (all_ends_in (all_kept callers))
all_ends_are [] = refl
all_ends_are (lists ∷ callers) = λ i. caller_ends lists.items i ∷ all_ends_are callers i

-- ---- the moments and stamps of the kept book

module _ (kept : KeptBook) (t : List (List SeenLine)) (callers : List (List Call)) (book : Book)
    (ms : List (List CallMeaning)) (keeps : KeepsBook kept t callers book ms) (moments : Moments) where
  -- if `moments` are made from the book's kept marks and states, they are the moments of the book's visits and entries
  pub kept_moments : HasMarks (length kept.lanes.cpus.items) (map seen_mark kept.marks.items) moments →
      state_moments_in moments.callers.items ≡ all_moments kept.states.items → AreMoments callers book ms moments
  kept_moments has states =
      let count : length kept.lanes.cpus.items ≡ length book.cpus =
      sym (length-map kept.lanes.cpus.items (λ lane. lane.items)) ∙ keeps.lanes.cpus.count
      ∙ length-map book.cpus entries_of in record {
        pool = has.pool ∙ keeps.visits.pool;
        base = has.base ∙ keeps.visits.base;
        cpus = same_at (moment_lists moments.cpus.items) (map visit_moments book.cpus)
            (length-map moments.cpus.items (λ lane. lane.items) ∙ has.count ∙ count
            ∙ sym (length-map book.cpus visit_moments))
            (λ c lt. has.cpus c (let long = length-map moments.cpus.items (λ lane. lane.items) in
            let n = has.count in omega arith)
            ∙ keeps.visits.cpus c ∙ sym (mapped_at visit_moments refl book.cpus c));
        states = states ∙ all_ends_are kept.states.items ∙ ap (map (map (map end_moment))) keeps.ends;
      }

  -- the kept visits of each lane have the stamps of the book's visits
  pub keeps_visits : AreMoments callers book ms moments → KeepsVisits book kept.lanes moments
  keeps_visits are = record {
    base = base_kept kept.lanes (lists_of book) keeps.lanes;
    base_stamps = ap stamps_of are.base ∙ visits_stamps book.base;
    cpus = cpus_kept kept.lanes (lists_of book) keeps.lanes;
    cpu_stamps = ap (map stamps_of) are.cpus ∙ all_stamps book.cpus;
  }

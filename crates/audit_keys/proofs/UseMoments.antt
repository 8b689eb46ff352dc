-- The lists of the book at a moment are beginnings of the whole book's lists. So keys and rests that are held at this
-- moment were not used before this moment.
use Rattle.std.proofs.Common.{◌≡◌, ℕ, zero, suc, ◌+◌, ◌<◌, Bool, true, false, cond, List, [], ◌∷◌, ◌++◌, inl, inr, refl, sym, ap, ◌∙◌, arith, take, append_assoc}
use Rattle.std.specs.Prelude.{map, nat_le, ◌==◌, if◌then◌else◌}
use Rattle.std.specs.List.{AllByRecursion}
use Rattle.std.proofs.lemmas.Bool.Decides.{leb_tells}
use Rattle.key_names.specs.declared.names.LaneId.{LaneId}
use Rattle.key_names.specs.declared.names.LaneId.TheVariants.{Base as BaseLane, Cpu as CpuLane}
use Rattle.key_names.specs.declared.entries.VEntry.{VEntry}
use Rattle.key_names.specs.Lanes.StateList.{anything, state_after}
use Rattle.key_names.specs.Lanes.Book.{Lists, Visit, entries_of, lists_of, list_at}
use Rattle.key_names.specs.Lanes.BookHistory.{Happening, visits_from}
use Rattle.key_names.specs.Callers.Calls.{Setting, Call}
use Rattle.key_names.specs.Transcripts.SeenLine.{SeenLine}
use Rattle.key_names.specs.Callers.Meaning.{CallerState, CallMeaning, LineMeaning}
use Rattle.key_names.specs.Transcripts.IsTranscript.{CallsMean, EachLine, EachCaller, CallerMeans, entries_of_state, state_lists, start_setting, script_calls, all_marks}
use Rattle.key_names.proofs.History.SortedVisits.{Rising}
use Rattle.key_names.proofs.History.HistoryLanes.{lane_rises}
use Rattle.key_names.proofs.Transcripts.TranscriptBooks.{lt_or_le, made_at, made_beyond}
use Rattle.key_names.proofs.Transcripts.TranscriptLaws.{transcript_is_lawful}
use Rattle.key_names.proofs.Transcripts.TranscriptStates.{caller_keeps}
use Rattle.audit_keys.specs.Moments.{BeginsWith, visits_to, first_calls, book_at, MomentsHoldUnused}
use Rattle.audit_keys.proofs.Beginnings.{hold_unused}

-- `BeginsWith` still holds if both lists are replaced by equal lists
begins_same : {E : Type 0} (whole part whole' part' : List E) → whole ≡ whole' → part ≡ part' →
    BeginsWith whole' part' → BeginsWith whole part
begins_same whole part whole' part' p q begins = (begins.0, p ∙ begins.1 ∙ ap (λ es. es ++ begins.0) (sym q))

-- if `f` of the empty list is empty, `f` may be applied before or after the list at number `n` is taken
pub mapped_at : {A B : Type 0} (f : List A → List B) → f [] ≡ [] → (xss : List (List A)) (n : ℕ) →
    list_at (map f xss) n ≡ f (list_at xss n)
mapped_at f none [] n = sym none
mapped_at f none (xs ∷ xss) zero = refl
mapped_at f none (xs ∷ xss) (suc n) = mapped_at f none xss n

above_too : (stamp low : ℕ) (hs : List Happening) → stamp < low → AllByRecursion (λ h. low < h.stamp) hs →
    AllByRecursion (λ h. stamp < h.stamp) hs
above_too stamp low [] lt above = tt
above_too stamp low (h ∷ hs) lt above = (let le = above.0 in omega arith, above_too stamp low hs lt above.1)

module _ {E : Type 0} (lane : LaneId) (stamp : ℕ) where
  -- if all visits of a lane have stamps above `stamp`, the lane has no visits up to `stamp`
  none_to : (i : ℕ) (visits : List (Visit E)) → AllByRecursion (λ h. stamp < h.stamp) (visits_from lane i visits) →
      visits_to stamp visits ≡ []
  none_to i [] above = refl
  none_to i (v ∷ visits) above = go (nat_le v.stamp stamp) refl (none_to (suc i) visits above.1)
    where
      go : (b : Bool) → nat_le v.stamp stamp ≡ b → visits_to stamp visits ≡ [] →
          cond b (v ∷ visits_to stamp visits) (visits_to stamp visits) ≡ []
      go true is none = elim (leb_tells v.stamp stamp) [
        | inl within ↦ absurd (let le = within.1 in let lt = above.0 in omega arith)
        | inr beyond ↦ (let p = beyond.0 in cc)
      ]
      go false is none = none

  -- if the stamps of a lane's visits rise, the visits up to `stamp` are a beginning of all its visits
  visits_begin : (i : ℕ) (visits : List (Visit E)) → Rising (λ (h : Happening). h.stamp) (visits_from lane i visits) →
      BeginsWith (entries_of visits) (entries_of (visits_to stamp visits))
  visits_begin i [] rising = ([], refl)
  visits_begin i (v ∷ visits) rising = go (nat_le v.stamp stamp) refl (visits_begin (suc i) visits rising.1)
    where
      go : (b : Bool) → nat_le v.stamp stamp ≡ b →
          BeginsWith (entries_of visits) (entries_of (visits_to stamp visits)) → BeginsWith (entries_of (v ∷ visits))
          (entries_of (cond b (v ∷ visits_to stamp visits) (visits_to stamp visits)))
      go true is rest = (rest.0, ap (λ es. v.entry ∷ es) rest.1)
      go false is rest =
          let lt : stamp < v.stamp = elim (leb_tells v.stamp stamp)
          [ inl within ↦ (let p = within.0 in cc) | inr beyond ↦ beyond.1 ] in
          let none = none_to (suc i) visits (above_too stamp v.stamp (visits_from lane (suc i) visits) lt rising.0) in
          (entries_of (v ∷ visits), ap (λ vs. entries_of vs ++ entries_of (v ∷ visits)) (sym none))

-- `part` is a beginning of the state's list `whole`, and after `part` the state may have any entry next
record CutState (caller k : ℕ) (whole part : List VEntry) : Type 0 where
  begins : BeginsWith whole part
  ends : (state_after caller k part).expected ≡ anything

no_entries : (caller k : ℕ) → CutState caller k [] []
no_entries caller k = record { begins = ([], refl); ends = refl }

cut_same : (caller k : ℕ) (whole part whole' part' : List VEntry) → whole ≡ whole' → part ≡ part' →
    CutState caller k whole' part' → CutState caller k whole part
cut_same caller k whole part whole' part' p q cut = record {
  begins = begins_same whole part whole' part' p q cut.begins;
  ends = ap (λ es. (state_after caller k es).expected) q ∙ cut.ends;
}

-- in the list of state `k`, the entries of the first `n` calls are a beginning of the entries of all calls
entries_begin : (k n : ℕ) (ms : List CallMeaning) →
    BeginsWith (entries_of_state k ms) (entries_of_state k (take n ms))
entries_begin k zero ms = (entries_of_state k ms, refl)
entries_begin k (suc n) [] = ([], refl)
entries_begin k (suc n) (m ∷ ms) =
    let own : List VEntry = if m.before.current == k then m.entries else [] in
    let rest = entries_begin k n ms in
    (rest.0, ap (λ es. own ++ es) rest.1 ∙ sym (append_assoc own (entries_of_state k (take n ms)) rest.0))

-- if all calls have the meanings `ms`, the first `n` calls have the first `n` meanings
pub calls_front : (s : CallerState) (n : ℕ) (calls : List Call) (ms : List CallMeaning) → CallsMean s calls ms →
    CallsMean s (take n calls) (take n ms)
calls_front s zero calls ms mean = tt
calls_front s (suc n) [] [] mean = tt
calls_front s (suc n) [] (m ∷ ms) mean = absurd mean
calls_front s (suc n) (call ∷ calls) [] mean = absurd mean
calls_front s (suc n) (call ∷ calls) (m ∷ ms) mean = (mean.0, mean.1, calls_front m.after n calls ms mean.2)

pub lines_front : (P : SeenLine → LineMeaning → Type 0) (n : ℕ) (calls : List Call) (ms : List CallMeaning) →
    EachLine P calls ms → EachLine P (take n calls) (take n ms)
lines_front P zero calls ms each = tt
lines_front P (suc n) [] [] each = tt
lines_front P (suc n) [] (m ∷ ms) each = absurd each
lines_front P (suc n) (call ∷ calls) [] each = absurd each
lines_front P (suc n) (call ∷ calls) (m ∷ ms) each = (each.0, lines_front P n calls ms each.1)

module _ (lists : Lists) (settings : ℕ → Setting) (made : ℕ → ℕ) where
  -- a state's list after the first `n` calls of its caller is a beginning of the state's list
  one_caller : (caller n : ℕ) (setting : Setting) (calls : List Call) (ms : List CallMeaning) →
      CallerMeans lists setting calls ms → (k : ℕ) →
      CutState caller k (list_at (state_lists ms) k) (list_at (state_lists (take n ms)) k)
  one_caller caller n setting calls ms means k = elim (lt_or_le k 16) [
    | inl lt ↦ cut_same caller k (list_at (state_lists ms) k) (list_at (state_lists (take n ms)) k)
        (entries_of_state k ms) (entries_of_state k (take n ms)) (at ms lt) (at (take n ms) lt) (record {
          begins = entries_begin k n ms;
          ends = (caller_keeps lists caller k lt setting (take n calls) (take n ms) (record {
            follows = calls_front _ n calls ms means.follows;
            effects = lines_front _ n calls ms means.effects;
          })).ends;
        })
    | inr le ↦ cut_same caller k (list_at (state_lists ms) k) (list_at (state_lists (take n ms)) k) [] []
        (made_beyond (λ i. entries_of_state i ms) 0 16 k le)
        (made_beyond (λ i. entries_of_state i (take n ms)) 0 16 k le) (no_entries caller k)
  ]
    where
      at : (xs : List CallMeaning) → k < 16 → list_at (state_lists xs) k ≡ entries_of_state k xs
      at xs lt = let p : 0 + k ≡ k = omega arith in
          made_at (λ i. entries_of_state i xs) 0 16 k lt ∙ ap (λ i. entries_of_state i xs) p

  -- for each state of all callers: the state's list after the first calls of its caller is a beginning of its whole
  -- list; `c` is the number of the first caller
  all_callers : (caller c : ℕ) (callers : List (List Call)) (mss : List (List CallMeaning)) →
      EachCaller (λ c calls ms. CallerMeans lists (settings c) calls ms) c callers mss → (i k : ℕ) →
      CutState caller k (list_at (list_at (map state_lists mss) i) k)
      (list_at (list_at (map state_lists (first_calls made c mss)) i) k)
  all_callers caller c [] [] each i k = no_entries caller k
  all_callers caller c [] (ms ∷ mss) each i k = absurd each
  all_callers caller c (calls ∷ callers) [] each i k = absurd each
  all_callers caller c (calls ∷ callers) (ms ∷ mss) each zero k =
      one_caller caller (made c) (settings c) calls ms each.0 k
  all_callers caller c (calls ∷ callers) (ms ∷ mss) each (suc i) k = all_callers caller (suc c) callers mss each.1 i k

pub moments_hold_unused : MomentsHoldUnused
moments_hold_unused script t book ms stamp made is =
    let lawful = transcript_is_lawful script t book ms is in
    hold_unused (lists_of book) (lists_of (book_at stamp made book ms)) lawful.lanes.forward lawful.states
    (record {
      base = visits_begin BaseLane stamp 0 book.base
          (lane_rises book (all_marks t) is.marks.lanes is.forms.visits BaseLane);
      cpus = cpu;
      states = λ caller state. (cut caller state).begins;
      ends = λ caller state. (cut caller state).ends;
    })
  where
    cpu : (c : ℕ) → BeginsWith (list_at (map entries_of book.cpus) c)
        (list_at (map entries_of (map (visits_to stamp) book.cpus)) c)
    cpu c = begins_same (list_at (map entries_of book.cpus) c)
        (list_at (map entries_of (map (visits_to stamp) book.cpus)) c)
        (entries_of (list_at book.cpus c)) (entries_of (visits_to stamp (list_at book.cpus c)))
        (mapped_at entries_of refl book.cpus c)
        (mapped_at entries_of refl (map (visits_to stamp) book.cpus) c
        ∙ ap entries_of (mapped_at (visits_to stamp) refl book.cpus c))
        (visits_begin (CpuLane c) stamp 0 (list_at book.cpus c)
        (lane_rises book (all_marks t) is.marks.lanes is.forms.visits (CpuLane c)))

    cut : (caller k : ℕ) → CutState caller k (list_at (list_at book.callers caller) k)
        (list_at (list_at (map state_lists (first_calls made 0 ms)) caller) k)
    cut caller k = cut_same caller k (list_at (list_at book.callers caller) k)
        (list_at (list_at (map state_lists (first_calls made 0 ms)) caller) k)
        (list_at (list_at (map state_lists ms) caller) k)
        (list_at (list_at (map state_lists (first_calls made 0 ms)) caller) k)
        (ap (λ xs. list_at (list_at xs caller) k) is.forms.states) refl
        (all_callers (lists_of book) (start_setting (script_calls script t)) made caller 0 (script_calls script t) ms
        is.forms.callers caller k)

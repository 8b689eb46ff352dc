-- The lists of the vgetrandom states have the entries that all calls left. A cut at a stamp or at a call keeps the
-- entries of the first calls.
use Rattle.std.proofs.Common.{◌≡◌, ℕ, zero, suc, ◌+◌, ◌<◌, ◌≤◌, Bool, true, false, List, [], ◌∷◌, ◌++◌, map, refl, sym, ap, ◌∙◌, arith, length, take}
use Rattle.std.specs.Prelude.{if◌then◌else◌, nat_le, filter}
use Rattle.std.specs.List.{range_with_len}
use Rattle.std.specs.Global.{Vec}
use Rattle.std.proofs.lemmas.Bool.Decides.{nat_tests}
use Rattle.std.proofs.lemmas.List.{map-append}
use Rattle.std.proofs.lemmas.List.Elements.{filter-append}
use Rattle.key_names.specs.declared.entries.VEntry.{VEntry}
use Rattle.key_names.specs.Callers.Calls.{Call}
use Rattle.key_names.specs.Callers.History.{call_steps}
use Rattle.std.proofs.lemmas.Simd.{map-map}
use Rattle.audit_keys.specs.declared.entry.CallEnd.{CallEnd}
use Rattle.audit_keys.specs.declared.entry.Cut.{Cut}
use Rattle.audit_keys.specs.declared.entry.Cut.TheVariants.{Stamp, Call as ByCall}
use Rattle.audit_keys.specs.declared.entry.StateEntry.{StateEntry}
use Rattle.audit_keys.specs.Entries.{entries_in, lists_in, all_lists_in}
use Rattle.audit_keys.specs.Callers.{Outlines, first_outlines, outlines_after, left_in, list_left, lists_left}
use Rattle.audit_keys.specs.Stamps.{over_at, made_by, start_stamp}
use Rattle.audit_keys.specs.Ends.{end_of}
use Rattle.audit_keys.specs.Stamped.{left_by, kept_lists, all_kept, list_over, caller_over, all_over}
use Rattle.audit_keys.specs.StateCut.{AreCut, all_lists_by, calls_by, entries_by, is_kept, lists_by, lists_made}
use Rattle.audit_keys.proofs.CallersLeave.{map_same}
use Rattle.audit_keys.proofs.Latest.{latest_above}

-- ---- the entries of all calls ----

bare_by : (i : ℕ) (end : CallEnd) (es : List VEntry) → entries_in (left_by i end es) ≡ es
bare_by i end [] = refl
bare_by i end (e ∷ es) = ap (λ x. e ∷ x) (bare_by i end es)

bare_list : (k : ℕ) (o : Outlines) (i before : ℕ) (calls : List Call) →
    entries_in (list_over k o i before calls) ≡ list_left k o calls
bare_list k o i before [] = refl
bare_list k o i before (call ∷ calls) =
    let end : CallEnd = end_of before call in
    let later : List StateEntry = list_over k (outlines_after o call) (i + 1) (over_at before call) calls in
    map-append (λ (e : StateEntry). e.entry) (left_by i end (left_in k o call)) later
    ∙ ap (λ es. es ++ entries_in later) (bare_by i end (left_in k o call))
    ∙ ap (λ es. left_in k o call ++ es) (bare_list k (outlines_after o call) (i + 1) (over_at before call) calls)

bare_caller : (start : ℕ) (calls : List Call) → map entries_in (caller_over start calls) ≡ lists_left calls
bare_caller start calls =
    map-map entries_in (λ k. list_over k first_outlines 0 start calls) (range_with_len 0 16)
    ∙ map_same (λ k. entries_in (list_over k first_outlines 0 start calls)) (λ k. list_left k first_outlines calls)
    (range_with_len 0 16) (λ k. bare_list k first_outlines 0 start calls)

bare_all : (starts : ℕ → ℕ) (c : ℕ) (callers : List (List Call)) →
    map (map entries_in) (all_over starts c callers) ≡ map lists_left callers
bare_all starts c [] = refl
bare_all starts c (calls ∷ callers) =
    let one = bare_caller (starts c) calls in let more = bare_all starts (suc c) callers in cc

bare_lists : (lists : List (Vec StateEntry)) → map entries_in (kept_lists lists) ≡ lists_in lists
bare_lists [] = refl
bare_lists (list ∷ lists) = ap (λ es. entries_in list.items ∷ es) (bare_lists lists)

bare_all_lists : (lists : List (Vec (Vec StateEntry))) → map (map entries_in) (all_kept lists) ≡ all_lists_in lists
bare_all_lists [] = refl
bare_all_lists (caller ∷ lists) =
    let one = bare_lists caller.items in let more = bare_all_lists lists in cc

pub entries_are_left : (starts : ℕ → ℕ) (callers : List (List Call)) (lists : List (Vec (Vec StateEntry))) →
    all_kept lists ≡ all_over starts 0 callers → all_lists_in lists ≡ map lists_left callers
entries_are_left starts callers lists is =
    sym (bare_all_lists lists) ∙ ap (map (map entries_in)) is ∙ bare_all starts 0 callers

-- ---- the entries of the calls that were over by a stamp ----

kept-append : (cut : Cut) (a b : List StateEntry) → entries_by cut (a ++ b) ≡ entries_by cut a ++ entries_by cut b
kept-append cut a b =
    ap entries_in (filter-append (is_kept cut) a b)
    ∙ map-append (λ (e : StateEntry). e.entry) (filter (is_kept cut) a) (filter (is_kept cut) b)

module _ (stamp : ℕ) where
  in_time : (i : ℕ) (end : CallEnd) (es : List VEntry) → nat_le end.stamp stamp ≡ true →
      entries_by (Stamp stamp) (left_by i end es) ≡ es
  in_time i end [] by = refl
  in_time i end (e ∷ es) by = rw by (ap (λ x. e ∷ x) (in_time i end es by))

  too_late : (i : ℕ) (end : CallEnd) (es : List VEntry) → nat_le end.stamp stamp ≡ false →
      entries_by (Stamp stamp) (left_by i end es) ≡ []
  too_late i end [] by = refl
  too_late i end (e ∷ es) by = rw by (too_late i end es by)

  later : (before : ℕ) (call : Call) → nat_le before stamp ≡ false → nat_le (over_at before call) stamp ≡ false
  later before call by = let above = latest_above before (call_steps call) in grind (arith, nat_tests)

  -- `before` is the stamp of the last visit before `calls`. If it is above `stamp`, a cut at `stamp` keeps no entry of
  -- `calls`
  none_kept : (k : ℕ) (o : Outlines) (i before : ℕ) (calls : List Call) → nat_le before stamp ≡ false →
      entries_by (Stamp stamp) (list_over k o i before calls) ≡ []
  none_kept k o i before [] by = refl
  none_kept k o i before (call ∷ calls) by =
      let done : ℕ = over_at before call in
      let rest : List StateEntry = list_over k (outlines_after o call) (i + 1) done calls in
      kept-append (Stamp stamp) (left_by i (end_of before call) (left_in k o call)) rest
      ∙ ap (λ es. es ++ entries_by (Stamp stamp) rest)
      (too_late i (end_of before call) (left_in k o call) (later before call by))
      ∙ none_kept k (outlines_after o call) (i + 1) done calls (later before call by)

  kept_list : (k : ℕ) (o : Outlines) (i before : ℕ) (calls : List Call) →
      entries_by (Stamp stamp) (list_over k o i before calls) ≡ list_left k o (take (made_by stamp before calls) calls)
  kept_list k o i before [] = refl
  kept_list k o i before (call ∷ calls) =
      kept-append (Stamp stamp) (left_by i end (left_in k o call)) rest
      ∙ by (nat_le done stamp) refl (kept_list k (outlines_after o call) (i + 1) (over_at before call) calls)
    where
      done : ℕ
      done = over_at before call

      end : CallEnd
      end = end_of before call

      rest : List StateEntry
      rest = list_over k (outlines_after o call) (i + 1) done calls

      by : (b : Bool) → nat_le done stamp ≡ b →
          entries_by (Stamp stamp) rest ≡ list_left k (outlines_after o call) (take (made_by stamp done calls) calls) →
          entries_by (Stamp stamp) (left_by i end (left_in k o call)) ++ entries_by (Stamp stamp) rest
          ≡ list_left k o (take (if b then suc (made_by stamp done calls) else 0) (call ∷ calls))
      by true is more =
          ap (λ es. es ++ entries_by (Stamp stamp) rest) (in_time i end (left_in k o call) is)
          ∙ ap (λ es. left_in k o call ++ es) more
      by false is more =
          ap (λ es. es ++ entries_by (Stamp stamp) rest) (too_late i end (left_in k o call) is)
          ∙ none_kept k (outlines_after o call) (i + 1) done calls is

-- ---- the entries of the calls up to call `n` ----

module _ (n : ℕ) where
  of_first : (i : ℕ) (end : CallEnd) (es : List VEntry) → nat_le i n ≡ true →
      entries_by (ByCall n) (left_by i end es) ≡ es
  of_first i end [] low = refl
  of_first i end (e ∷ es) low = rw low (ap (λ x. e ∷ x) (of_first i end es low))

  of_others : (i : ℕ) (end : CallEnd) (es : List VEntry) → nat_le i n ≡ false →
      entries_by (ByCall n) (left_by i end es) ≡ []
  of_others i end [] high = refl
  of_others i end (e ∷ es) high = rw high (of_others i end es high)

  none_first : (k : ℕ) (o : Outlines) (i before : ℕ) (calls : List Call) → n < i →
      entries_by (ByCall n) (list_over k o i before calls) ≡ []
  none_first k o i before [] high = refl
  none_first k o i before (call ∷ calls) high =
      let rest : List StateEntry = list_over k (outlines_after o call) (i + 1) (over_at before call) calls in
      let test : nat_le i n ≡ false = grind (arith, nat_tests) in
      kept-append (ByCall n) (left_by i (end_of before call) (left_in k o call)) rest
      ∙ ap (λ es. es ++ entries_by (ByCall n) rest) (of_others i (end_of before call) (left_in k o call) test)
      ∙ none_first k (outlines_after o call) (i + 1) (over_at before call) calls (omega arith)

  -- if the first of `calls` has number `i`, so that the first `m` are numbered up to `n`, a cut at call `n` keeps the
  -- entries of these `m` calls
  first_list : (k : ℕ) (o : Outlines) (i m before : ℕ) (calls : List Call) → i + m ≡ suc n →
      entries_by (ByCall n) (list_over k o i before calls) ≡ list_left k o (take m calls)
  first_list k o i zero before calls is = none_first k o i before calls (omega arith)
  first_list k o i (suc m) before [] is = refl
  first_list k o i (suc m) before (call ∷ calls) is =
      let rest : List StateEntry = list_over k (outlines_after o call) (i + 1) (over_at before call) calls in
      let test : nat_le i n ≡ true = grind (arith, nat_tests) in
      kept-append (ByCall n) (left_by i (end_of before call) (left_in k o call)) rest
      ∙ ap (λ es. es ++ entries_by (ByCall n) rest) (of_first i (end_of before call) (left_in k o call) test)
      ∙ ap (λ es. left_in k o call ++ es)
      (first_list k (outlines_after o call) (i + 1) m (over_at before call) calls (omega arith))

-- ---- the entries that cuts keep, for all callers ----

cut_list : (cut : Cut) (k before : ℕ) (calls : List Call) →
    entries_by cut (list_over k first_outlines 0 before calls)
    ≡ list_left k first_outlines (take (calls_by cut before calls) calls)
cut_list (Stamp stamp) k before calls = kept_list stamp k first_outlines 0 before calls
cut_list (ByCall n) k before calls = first_list n k first_outlines 0 (suc n) before calls (omega arith)

cut_caller : (cut : Cut) (start : ℕ) (calls : List Call) →
    map (entries_by cut) (caller_over start calls) ≡ lists_left (take (calls_by cut start calls) calls)
cut_caller cut start calls =
    map-map (entries_by cut) (λ k. list_over k first_outlines 0 start calls) (range_with_len 0 16)
    ∙ map_same (λ k. entries_by cut (list_over k first_outlines 0 start calls))
    (λ k. list_left k first_outlines (take (calls_by cut start calls) calls))
    (range_with_len 0 16) (λ k. cut_list cut k start calls)

by_lists : (cut : Cut) (lists : List (Vec StateEntry)) → map (entries_by cut) (kept_lists lists) ≡ lists_by cut lists
by_lists cut [] = refl
by_lists cut (list ∷ lists) = ap (λ es. entries_by cut list.items ∷ es) (by_lists cut lists)

module _ (cuts : ℕ → Cut) (starts others : ℕ → ℕ) where
  -- if `starts` and `others` give equal stamps at the start of each caller, the cuts keep the same lists with `starts`
  -- as with `others`
  cut_all : (c : ℕ) (callers : List (List Call)) (lists : List (Vec (Vec StateEntry))) →
      all_kept lists ≡ all_over starts c callers → ((d : ℕ) → c ≤ d → d < c + length callers → starts d ≡ others d) →
      all_lists_by cuts c lists ≡ lists_made cuts others c callers
  cut_all c [] [] is same = refl
  cut_all c [] (caller ∷ lists) is same = absurd cc
  cut_all c (calls ∷ callers) [] is same = absurd cc
  cut_all c (calls ∷ callers) (caller ∷ lists) is same =
      let here : kept_lists caller.items ≡ caller_over (starts c) calls = cc in
      let rest : all_kept lists ≡ all_over starts (suc c) callers = cc in
      let one : lists_by (cuts c) caller.items ≡ lists_left (take (calls_by (cuts c) (others c) calls) calls) =
      sym (by_lists (cuts c) caller.items) ∙ ap (map (entries_by (cuts c))) here ∙ cut_caller (cuts c) (starts c) calls
      ∙ ap (λ s. lists_left (take (calls_by (cuts c) s calls) calls)) (same c (omega arith) (omega arith)) in
      let more = cut_all (suc c) callers lists rest (λ d low high. same d (omega arith) (omega arith)) in
      λ i. one i ∷ more i

pub entries_are_cut : (starts : ℕ → ℕ) (callers : List (List Call)) (lists : List (Vec (Vec StateEntry))) →
    all_kept lists ≡ all_over starts 0 callers → ((c : ℕ) → c < length callers → starts c ≡ start_stamp callers c) →
    AreCut callers lists
entries_are_cut starts callers lists is same cuts =
    cut_all cuts starts (start_stamp callers) 0 callers lists is (λ c low high. same c (omega arith))

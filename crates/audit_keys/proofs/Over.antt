-- Call by call, the code appends to each list of a vgetrandom state the entries that `list_over` gives. At the end the
-- lists of a caller's states are those of `caller_over`.
use Rattle.std.proofs.Common.{◌≡◌, ℕ, zero, suc, ◌+◌, ◌<◌, Bool, true, false, List, [], ◌∷◌, ◌++◌, map, refl, sym, ap, ◌∙◌, append_assoc, append-nil, arith, length, replicate, get_or}
use Rattle.std.specs.Prelude.{◌==◌, if◌then◌else◌, slice_get, slice_set, unwrap_or}
use Rattle.std.specs.List.{range_with_len}
use Rattle.std.specs.Global.{Vec}
use Rattle.std.proofs.lemmas.Bool.{eqb-true, eq-eqb}
use Rattle.key_names.specs.declared.entries.VEntry.{VEntry}
use Rattle.key_names.specs.declared.events.Event.{Event}
use Rattle.key_names.specs.declared.events.Event.TheVariants.{Drop, State}
use Rattle.key_names.specs.Callers.Calls.{Call, alone, vread_call, unbound, ending}
use Rattle.key_names.specs.Transcripts.SeenLine.{SeenLine}
use Rattle.key_names.proofs.Transcripts.TranscriptStates.{set_here, set_other, length_set}
use Rattle.audit_keys.specs.declared.entry.CallEnd.{CallEnd}
use Rattle.audit_keys.specs.declared.entry.StateEntry.{StateEntry}
use Rattle.audit_keys.specs.Left.{Left, nothing_left, wiped, vread_left}
use Rattle.audit_keys.specs.Callers.{first_outlines, current_outline, outlines_after, entries_left, left_in}
use Rattle.audit_keys.specs.Ends.{end_of}
use Rattle.audit_keys.specs.Stamps.{over_at}
use Rattle.audit_keys.specs.Stamped.{left_by, kept_lists, States, first_states, current_list, left_over, states_after, states_from, list_over, caller_over, all_over}

abbrev list_of : States → ℕ → List StateEntry
list_of s k = unwrap_or (slice_get s.lists k) []

-- the entries `es` if `b` is true (the list is that of the current state), and otherwise none
abbrev here_or_none : {E : Type 0} → Bool → List E → List E
here_or_none b es = if b then es else []

nothing_by : (i : ℕ) (end : CallEnd) (b : Bool) → left_by i end (here_or_none b []) ≡ []
nothing_by i end true = refl
nothing_by i end false = refl

-- call number `i`, with the end `end`, appends the entries `l` to the list of the current state
record Puts (s : States) (i : ℕ) (end : CallEnd) (l : List VEntry) (t : States) : Type 0 where
  count : length t.lists ≡ length s.lists
  lists : (k : ℕ) → k < length s.lists →
      list_of t k ≡ list_of s k ++ left_by i end (here_or_none (s.outlines.current == k) l)

puts_none : (s : States) (i : ℕ) (end : CallEnd) (t : States) → t.lists ≡ s.lists → Puts s i end [] t
puts_none s i end t same = record {
  count = ap length same;
  lists = λ k below.
      ap (λ xs. unwrap_or (slice_get xs k) []) same ∙ sym (append-nil (list_of s k))
      ∙ ap (λ es. list_of s k ++ es) (sym (nothing_by i end (s.outlines.current == k)));
}

puts_left : (s : States) (i : ℕ) (end : CallEnd) (l : Left) → Puts s i end l.entries (left_over i end l s)
puts_left s i end l = record {
  count = length_set s.lists s.outlines.current new;
  lists = λ k below. by k below (s.outlines.current == k) refl;
}
  where
    new : List StateEntry
    new = current_list s ++ left_by i end l.entries

    by : (k : ℕ) → k < length s.lists → (b : Bool) → (s.outlines.current == k) ≡ b →
        list_of (left_over i end l s) k ≡ list_of s k ++ left_by i end (here_or_none b l.entries)
    by k below true e =
        let same : s.outlines.current ≡ k = eqb-true s.outlines.current k e in
        ap (λ j. unwrap_or (slice_get (slice_set s.lists j new) k) []) same
        ∙ ap (λ o. unwrap_or o []) (set_here s.lists k new below)
        ∙ ap (λ j. unwrap_or (slice_get s.lists j) [] ++ left_by i end l.entries) same
    by k below false e =
        let ne : s.outlines.current ≡ k → ⊥ =
        λ p. (let yes : (s.outlines.current == k) ≡ true = eq-eqb s.outlines.current k p in absurd cc) in
        ap (λ o. unwrap_or o []) (set_other s.lists s.outlines.current k new ne) ∙ sym (append-nil (list_of s k))

-- ---- one call of a caller ----

record Goes (s : States) (i : ℕ) (call : Call) (t : States) : Type 0 where
  outlines : t.outlines ≡ outlines_after s.outlines call
  stamp : t.stamp ≡ over_at s.stamp call
  puts : Puts s i (end_of s.stamp call) (entries_left s.outlines call) t

alone_goes : (s : States) (i : ℕ) (event : Event) (line : SeenLine) →
    Goes s i (alone event line) (states_after i s (alone event line))
alone_goes s i Drop line = record {
  outlines = refl;
  stamp = refl;
  puts = puts_left s i (end_of s.stamp (alone Drop line)) (wiped (nothing_left (current_outline s.outlines)));
}
alone_goes s i (State number) line = record {
  outlines = refl;
  stamp = refl;
  puts = puts_none s i (end_of s.stamp (alone (State number) line)) _ refl;
}
alone_goes s i event line =
    record { outlines = refl; stamp = refl; puts = puts_none s i (end_of s.stamp (alone event line)) _ refl }

call_goes : (s : States) (i : ℕ) (call : Call) → Goes s i call (states_after i s call)
call_goes s i (alone event line) = alone_goes s i event line
call_goes s i (vread_call n flags line acts) = record {
  outlines = refl;
  stamp = refl;
  puts = puts_left s i (end_of s.stamp (vread_call n flags line acts))
      (vread_left n flags acts (nothing_left (current_outline s.outlines)) line.steps);
}
call_goes s i (unbound bound) =
    record { outlines = refl; stamp = refl; puts = puts_none s i (end_of s.stamp (unbound bound)) _ refl }
call_goes s i (ending line) =
    record { outlines = refl; stamp = refl; puts = puts_none s i (end_of s.stamp (ending line)) _ refl }

-- ---- the calls of a caller, one after another ----

record AllPut (s : States) (i : ℕ) (calls : List Call) (t : States) : Type 0 where
  count : length t.lists ≡ length s.lists
  lists : (k : ℕ) → k < length s.lists → list_of t k ≡ list_of s k ++ list_over k s.outlines i s.stamp calls

one_more : (s : States) (i : ℕ) (call : Call) (calls : List Call) →
    AllPut (states_after i s call) (i + 1) calls (states_from (i + 1) (states_after i s call) calls) →
    AllPut s i (call ∷ calls) (states_from (i + 1) (states_after i s call) calls)
one_more s i call calls more =
    let t : States = states_after i s call in let one : Goes s i call t = call_goes s i call in record {
      count = more.count ∙ one.puts.count;
      lists = λ k below.
          more.lists k (omega (arith, one.puts.count))
          ∙ ap (λ o. list_of t k ++ list_over k o (i + 1) t.stamp calls) one.outlines
          ∙ ap (λ n. list_of t k ++ list_over k (outlines_after s.outlines call) (i + 1) n calls) one.stamp
          ∙ ap (λ es. es ++ list_over k (outlines_after s.outlines call) (i + 1) (over_at s.stamp call) calls)
          (one.puts.lists k below)
          ∙ append_assoc (list_of s k) (left_by i (end_of s.stamp call) (left_in k s.outlines call))
          (list_over k (outlines_after s.outlines call) (i + 1) (over_at s.stamp call) calls);
    }

calls_put : (s : States) (i : ℕ) (calls : List Call) → AllPut s i calls (states_from i s calls)
calls_put s i [] = record { count = refl; lists = λ k below. sym (append-nil (list_of s k)) }
calls_put s i (call ∷ calls) = one_more s i call calls (calls_put (states_after i s call) (i + 1) calls)

-- ---- the lists of a caller's states, as one list of lists ----

abbrev none : List StateEntry
none = []

none_at_first : (n k : ℕ) → unwrap_or (slice_get (replicate n none) k) none ≡ none
none_at_first zero k = refl
none_at_first (suc n) zero = refl
none_at_first (suc n) (suc k) = none_at_first n k

-- if each list is a function of its number, the list of lists is the map of that function
listed : {E : Type 0} (xs : List (List E)) (from n : ℕ) (f : ℕ → List E) → length xs ≡ n →
    ((k : ℕ) → k < n → unwrap_or (slice_get xs k) [] ≡ f (from + k)) → xs ≡ map f (range_with_len from n)
listed [] from zero f len each = refl
listed [] from (suc n) f len each = absurd (omega arith)
listed (x ∷ xs) from zero f len each = absurd (omega arith)
listed (x ∷ xs) from (suc n) f len each =
    let here : from + 0 ≡ from = omega arith in
    let first : x ≡ f from = each 0 (omega arith) ∙ ap f here in
    let rest = listed xs (from + 1) n f (omega arith) (λ k below.
    let next : from + suc k ≡ from + 1 + k = omega arith in each (suc k) (omega arith) ∙ ap f next) in cc

pub calls_over : (start : ℕ) (calls : List Call) →
    (states_from 0 (first_states start) calls).lists ≡ caller_over start calls
calls_over start calls =
    let all : AllPut (first_states start) 0 calls (states_from 0 (first_states start) calls) =
    calls_put (first_states start) 0 calls in
    listed (states_from 0 (first_states start) calls).lists 0 16 (λ k. list_over k first_outlines 0 start calls)
    all.count
    (λ k below. all.lists k below
    ∙ ap (λ es. es ++ list_over k first_outlines 0 start calls) (none_at_first 16 k)
    ∙ (let same : k ≡ 0 + k = omega arith in ap (λ j. list_over j first_outlines 0 start calls) same))

-- ---- the lists in the vectors that keep them ----

pub list_put : (lists : List (Vec StateEntry)) (i : ℕ) (list new : Vec StateEntry) (more : List StateEntry) →
    i < length lists → list ≡ get_or lists i list → new.items ≡ list.items ++ more →
    kept_lists (slice_set lists i new)
    ≡ slice_set (kept_lists lists) i (unwrap_or (slice_get (kept_lists lists) i) [] ++ more)
list_put [] i list new more low is put = absurd (omega arith)
list_put (x ∷ xs) zero list new more low is put =
    let same : list ≡ x = is in
    ap (λ l. l ∷ kept_lists xs) (put ∙ ap (λ (v : Vec StateEntry). v.items ++ more) same)
list_put (x ∷ xs) (suc i) list new more low is put =
    ap (λ ls. x.items ∷ ls) (list_put xs i list new more (omega arith) is put)

-- the lists of all callers from number `c` on are the lists of caller `c`, and then the lists of the callers after `c`
pub one_caller : (starts : ℕ → ℕ) (c : ℕ) (calls : List Call) (callers : List (List Call))
    (lists : List (List StateEntry)) → lists ≡ caller_over (starts c) calls →
    all_over starts c (calls ∷ callers) ≡ (lists ∷ []) ++ all_over starts (c + 1) callers
one_caller starts c calls callers lists is =
    let next : suc c ≡ c + 1 = omega arith in
    ap (λ l. l ∷ all_over starts (suc c) callers) (sym is) ∙ ap (λ n. lists ∷ all_over starts n callers) next

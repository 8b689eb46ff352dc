-- The lines of a transcript print the bytes of each entry at most once. The mark of a lane's entry is in one line, and
-- an entry of a vgetrandom state belongs to one call.
use Rattle.std.proofs.Common.{◌≡◌, ℕ, zero, suc, ◌+◌, ◌<◌, ◌≤◌, Bool, true, false, List, [], ◌∷◌, ◌++◌, inl, inr, refl, ap, arith, length}
use Rattle.std.specs.Prelude.{◌==◌, ◌&&◌, map, if◌then◌else◌}
use Rattle.std.specs.List.{flat_map, range_with_len}
use Rattle.std.proofs.lemmas.Bool.{eqb-true, eq-eqb}
use Rattle.std.proofs.lemmas.List.{length-append}
use Rattle.key_names.specs.declared.names.LaneId.{LaneId}
use Rattle.key_names.specs.declared.names.Step.{Step}
use Rattle.key_names.specs.declared.names.Step.TheVariants.{Look, Visit as Marked}
use Rattle.key_names.specs.declared.entries.VEntry.{VEntry}
use Rattle.key_names.specs.Lanes.Book.{Lists}
use Rattle.key_names.specs.Callers.Calls.{Call, alone, vread_call, unbound, ending, BoundAct}
use Rattle.key_names.specs.Transcripts.SeenLine.{SeenLine}
use Rattle.key_names.specs.Callers.Meaning.{CallMeaning}
use Rattle.key_names.specs.Transcripts.IsTranscript.{entries_of_state}
use Rattle.key_names.specs.Transcripts.PrintedBytes.{Origin, at_lane, at_state, last_origin, StateEntries, entries_of_call, no_entries, PrintsBy, by_none, by_visit, by_entries, call_lines, LinesPrint, CallsPrint, CallersPrint, all_origins}
use Rattle.key_names.proofs.Transcripts.TakenMarks.{hit, mark_takes, lines_takes}
use Rattle.key_names.proofs.Transcripts.CallTakes.{acts_marks, call_marks, calls_marks, all_calls_marks}
use Rattle.key_names.proofs.Transcripts.TranscriptBooks.{lt_or_le}
use Rattle.key_names.proofs.Values.PrintedOnce.{is_same, times, times_append}

-- lines print the bytes of a lane's entry at most as often as the lines have the mark of the entry's place
module _ (lane : LaneId) (p : ℕ) (lists : Lists) where
  abbrev here : Origin
  here = at_lane lane p

  last_times : (steps : List Step) → times here (last_origin steps) ≤ mark_takes lane p steps
  last_times [] = omega arith
  last_times (Look g ∷ []) = omega arith
  last_times (Marked mark ∷ []) = omega arith
  last_times (Look g ∷ next ∷ steps) = last_times (next ∷ steps)
  last_times (Marked mark ∷ next ∷ steps) = omega (arith, last_times (next ∷ steps))

  none_of_state : (caller state from count : ℕ) →
      times here (map (at_state caller state) (range_with_len from count)) ≡ 0
  none_of_state caller state from zero = refl
  none_of_state caller state from (suc count) = omega (arith, none_of_state caller state (from + 1) count)

  line_times : (own : StateEntries) (steps : List Step) (os : List Origin) → PrintsBy own steps os →
      times here os ≤ mark_takes lane p steps
  line_times own steps os (by_none is) = let none : times here os ≡ 0 = ap (times here) is in omega arith
  line_times own steps os (by_visit is) =
      let same : times here os ≡ times here (last_origin steps) = ap (times here) is in
      omega (arith, last_times steps)
  line_times own steps os (by_entries from count above below is) =
      let same : times here os ≡ times here (map (at_state own.caller own.state) (range_with_len from count)) =
      ap (times here) is in
      omega (arith, none_of_state own.caller own.state from count)

  lines_times : (own : StateEntries) (lines : List SeenLine) (oss : List (List Origin)) →
      LinesPrint lists own lines oss → times here (flat_map (λ os. os) oss) ≤ lines_takes lane p lines
  lines_times own [] [] print = omega arith
  lines_times own [] (os ∷ oss) print = absurd print
  lines_times own (line ∷ lines) [] print = absurd print
  lines_times own (line ∷ lines) (os ∷ oss) print =
      omega (
        arith,
        times_append here os (flat_map (λ os. os) oss),
        line_times own line.steps os print.0.by,
        lines_times (no_entries own) lines oss print.1,
      )

  acts_lines : (acts : List BoundAct) →
      lines_takes lane p (map (λ (bound : BoundAct). bound.line) acts) ≡ acts_marks lane p acts
  acts_lines [] = refl
  acts_lines (bound ∷ acts) = ap (λ n. mark_takes lane p bound.line.steps + n) (acts_lines acts)

  lines_of_call : (call : Call) → lines_takes lane p (call_lines call) ≡ call_marks lane p call
  lines_of_call (alone event line) = omega arith
  lines_of_call (vread_call n flags line acts) = ap (λ k. mark_takes lane p line.steps + k) (acts_lines acts)
  lines_of_call (unbound bound) = omega arith
  lines_of_call (ending line) = omega arith

  calls_times : (caller : ℕ) (before : List CallMeaning) (calls : List Call) (ms : List CallMeaning)
      (oss : List (List (List Origin))) → CallsPrint lists caller before calls ms oss →
      times here (flat_map (flat_map (λ os. os)) oss) ≤ calls_marks lane p calls
  calls_times caller before [] [] [] print = omega arith
  calls_times caller before [] [] (os ∷ oss) print = absurd print
  calls_times caller before [] (m ∷ ms) oss print = absurd print
  calls_times caller before (call ∷ calls) [] oss print = absurd print
  calls_times caller before (call ∷ calls) (m ∷ ms) [] print = absurd print
  calls_times caller before (call ∷ calls) (m ∷ ms) (os ∷ oss) print =
      omega (
        arith,
        times_append here (flat_map (λ os. os) os) (flat_map (flat_map (λ os. os)) oss),
        lines_times (entries_of_call caller before m) (call_lines call) os print.0,
        lines_of_call call,
        calls_times caller (before ++ m ∷ []) calls ms oss print.1,
      )

  pub callers_times : (c : ℕ) (callers : List (List Call)) (mss : List (List CallMeaning))
      (oss : List (List (List (List Origin)))) → CallersPrint lists c callers mss oss →
      times here (all_origins oss) ≤ all_calls_marks lane p callers
  callers_times c [] [] [] print = omega arith
  callers_times c [] [] (os ∷ oss) print = absurd print
  callers_times c [] (ms ∷ mss) oss print = absurd print
  callers_times c (calls ∷ callers) [] oss print = absurd print
  callers_times c (calls ∷ callers) (ms ∷ mss) [] print = absurd print
  callers_times c (calls ∷ callers) (ms ∷ mss) (os ∷ oss) print =
      omega (
        arith,
        times_append here (flat_map (flat_map (λ os. os)) os) (all_origins oss),
        calls_times c [] calls ms os print.0,
        callers_times (suc c) callers mss oss print.1,
      )

-- the number n is 0 or 1, and if it is 1, P holds
pub record Once (n : ℕ) (P : Type 0) : Type 0 where
  pub most : n ≤ 1
  pub only : 1 ≤ n → P

-- let `Once a P` and `Once b Q` hold, and let P and Q exclude each other. If R follows from P and from Q, then `Once n
-- R` holds for the sum n of a and b
once_or : (n a b : ℕ) (P Q R : Type 0) → n ≡ a + b → Once a P → Once b Q → (P → R) → (Q → R) → (P → Q → ⊥) → Once n R
once_or n a b P Q R is first second left right both = elim (lt_or_le 0 a) [
  | inl some ↦ (elim (lt_or_le 0 b) [
    | inl other ↦ absurd (both (first.only (omega arith)) (second.only (omega arith)))
    | inr none ↦ record {
      most = (let le = first.most in omega arith);
      only = λ one. left (first.only (omega arith));
    }
  ])
  | inr none ↦ record {
    most = (let le = second.most in omega arith);
    only = λ one. right (second.only (omega arith));
  }
]

-- lines print the bytes of a vgetrandom state's entry at most once, since the entry belongs to one call
module _ (c k i : ℕ) (lists : Lists) where
  abbrev this : Origin
  this = at_state c k i

  -- entry i of state k of caller c is one of the entries `own`
  record IsAmong (own : StateEntries) : Type 0 where
    caller : own.caller ≡ c
    state : own.state ≡ k
    from : own.from ≤ i
    below : i < own.from + own.count

  one_time : (caller state place : ℕ) → Once (is_same this (at_state caller state place))
      ((caller ≡ c) × (state ≡ k) × (place ≡ i))
  one_time caller state place = go (caller == c) (state == k) (place == i) refl refl refl
    where
      go : (x y z : Bool) → (caller == c) ≡ x → (state == k) ≡ y → (place == i) ≡ z →
          Once (hit (x && (y && z))) ((caller ≡ c) × (state ≡ k) × (place ≡ i))
      go true true true p q r = record {
        most = omega arith;
        only = λ one. (eqb-true caller c p, eqb-true state k q, eqb-true place i r);
      }
      go true true false p q r = record { most = omega arith; only = λ one. absurd (omega arith) }
      go true false z p q r = record { most = omega arith; only = λ one. absurd (omega arith) }
      go false y z p q r = record { most = omega arith; only = λ one. absurd (omega arith) }

  entries_once : (caller state from count : ℕ) →
      Once (times this (map (at_state caller state) (range_with_len from count)))
      (IsAmong (record { caller = caller; state = state; from = from; count = count }))
  entries_once caller state from zero = record { most = omega arith; only = λ one. absurd (omega arith) }
  entries_once caller state from (suc count) =
      once_or _ (is_same this (at_state caller state from))
      (times this (map (at_state caller state) (range_with_len (from + 1) count))) _ _ _ refl
      (one_time caller state from) (entries_once caller state (from + 1) count)
      (λ e. let at = e.2 in record { caller = e.0; state = e.1; from = omega arith; below = omega arith })
      (λ a. let from = a.from in let below = a.below in
      record { caller = a.caller; state = a.state; from = omega arith; below = omega arith })
      (λ e a. let at = e.2 in let from = a.from in omega arith)

  no_visit : (steps : List Step) → times this (last_origin steps) ≡ 0
  no_visit [] = refl
  no_visit (Look g ∷ []) = refl
  no_visit (Marked mark ∷ []) = refl
  no_visit (Look g ∷ next ∷ steps) = no_visit (next ∷ steps)
  no_visit (Marked mark ∷ next ∷ steps) = no_visit (next ∷ steps)

  none_once : (own : StateEntries) (os none : List Origin) → os ≡ none → times this none ≡ 0 →
      Once (times this os) (IsAmong own)
  none_once own os none is never =
      let same : times this os ≡ times this none = ap (times this) is in
      record { most = omega arith; only = λ one. absurd (omega arith) }

  line_once : (own : StateEntries) (steps : List Step) (os : List Origin) → PrintsBy own steps os →
      Once (times this os) (IsAmong own)
  line_once own steps os (by_none is) = none_once own os [] is refl
  line_once own steps os (by_visit is) = none_once own os (last_origin steps) is (no_visit steps)
  line_once own steps os (by_entries from count above under is) =
      let same : times this os ≡ times this (map (at_state own.caller own.state) (range_with_len from count)) =
      ap (times this) is in
      let one = entries_once own.caller own.state from count in
      record {
        most = (let le = one.most in omega arith);
        only = λ some. let a = one.only (omega arith) in let from = a.from in let below = a.below in
            record { caller = a.caller; state = a.state; from = omega arith; below = omega arith };
      }

  lines_once : (own : StateEntries) (lines : List SeenLine) (oss : List (List Origin)) →
      LinesPrint lists own lines oss → Once (times this (flat_map (λ os. os) oss)) (IsAmong own)
  lines_once own [] [] print = record { most = omega arith; only = λ one. absurd (omega arith) }
  lines_once own [] (os ∷ oss) print = absurd print
  lines_once own (line ∷ lines) [] print = absurd print
  lines_once own (line ∷ lines) (os ∷ oss) print =
      let none : IsAmong (no_entries own) → ⊥ = λ a. let from = a.from in let below = a.below in omega arith in
      once_or _ (times this os) (times this (flat_map (λ os. os) oss)) (IsAmong own) (IsAmong (no_entries own)) _
      (times_append this os (flat_map (λ os. os) oss)) (line_once own line.steps os print.0.by)
      (lines_once (no_entries own) lines oss print.1) (λ a. a) (λ a. absurd (none a)) (λ a b. none b)

  -- the entries that a call appends to the list of state k
  abbrev own_entries : CallMeaning → List VEntry
  own_entries m = if m.before.current == k then m.entries else []

  own_is : (m : CallMeaning) → m.before.current ≡ k → own_entries m ≡ m.entries
  own_is m same = go (m.before.current == k) (eq-eqb m.before.current k same)
    where
      go : (b : Bool) → b ≡ true → (if b then m.entries else []) ≡ m.entries
      go true is = refl
      go false is = cc

  more_length : (before : List CallMeaning) (m : CallMeaning) →
      length (entries_of_state k (before ++ m ∷ [])) ≡ length (entries_of_state k before) + length (own_entries m)
  more_length [] m = omega (arith, length-append (own_entries m) [])
  more_length (b ∷ before) m =
      omega (
        arith,
        length-append (own_entries b) (entries_of_state k (before ++ m ∷ [])),
        length-append (own_entries b) (entries_of_state k before),
        more_length before m,
      )

  calls_once : (caller : ℕ) (before : List CallMeaning) (calls : List Call) (ms : List CallMeaning)
      (oss : List (List (List Origin))) → CallsPrint lists caller before calls ms oss →
      Once (times this (flat_map (flat_map (λ os. os)) oss))
      ((caller ≡ c) × (length (entries_of_state k before) ≤ i))
  calls_once caller before [] [] [] print = record { most = omega arith; only = λ one. absurd (omega arith) }
  calls_once caller before [] [] (os ∷ oss) print = absurd print
  calls_once caller before [] (m ∷ ms) oss print = absurd print
  calls_once caller before (call ∷ calls) [] oss print = absurd print
  calls_once caller before (call ∷ calls) (m ∷ ms) [] print = absurd print
  calls_once caller before (call ∷ calls) (m ∷ ms) (os ∷ oss) print =
      let from : m.before.current ≡ k → length (entries_of_state m.before.current before)
      ≡ length (entries_of_state k before) = λ same. ap (λ j. length (entries_of_state j before)) same in
      let more = more_length before m in
      once_or _ (times this (flat_map (λ os. os) os)) (times this (flat_map (flat_map (λ os. os)) oss))
      (IsAmong (entries_of_call caller before m))
      ((caller ≡ c) × (length (entries_of_state k (before ++ m ∷ [])) ≤ i)) _
      (times_append this (flat_map (λ os. os) os) (flat_map (flat_map (λ os. os)) oss))
      (lines_once (entries_of_call caller before m) (call_lines call) os print.0)
      (calls_once caller (before ++ m ∷ []) calls ms oss print.1)
      (λ a. let first = a.from in (a.caller, omega (arith, from a.state)))
      (λ later. let le = later.1 in (later.0, omega arith))
      (λ a later. let below = a.below in let le = later.1 in
      let len : length (own_entries m) ≡ length m.entries = ap (λ (es : List VEntry). length es) (own_is m a.state) in
      omega (arith, from a.state))

  pub callers_once : (d : ℕ) (callers : List (List Call)) (mss : List (List CallMeaning))
      (oss : List (List (List (List Origin)))) → CallersPrint lists d callers mss oss →
      Once (times this (all_origins oss)) (d ≤ c)
  callers_once d [] [] [] print = record { most = omega arith; only = λ one. absurd (omega arith) }
  callers_once d [] [] (os ∷ oss) print = absurd print
  callers_once d [] (ms ∷ mss) oss print = absurd print
  callers_once d (calls ∷ callers) [] oss print = absurd print
  callers_once d (calls ∷ callers) (ms ∷ mss) [] print = absurd print
  callers_once d (calls ∷ callers) (ms ∷ mss) (os ∷ oss) print =
      once_or _ (times this (flat_map (flat_map (λ os. os)) os)) (times this (all_origins oss))
      ((d ≡ c) × (length (entries_of_state k []) ≤ i)) (suc d ≤ c) _
      (times_append this (flat_map (flat_map (λ os. os)) os) (all_origins oss))
      (calls_once d [] calls ms os print.0) (callers_once (suc d) callers mss oss print.1)
      (λ e. let same = e.0 in omega arith) (λ le. omega arith) (λ e le. let same = e.0 in omega arith)

-- if the calls have each mark at most once, their lines print the bytes of each entry at most once
pub printed_once : (lists : Lists) (callers : List (List Call)) (mss : List (List CallMeaning))
    (oss : List (List (List (List Origin)))) →
    ((lane : LaneId) (p : ℕ) → all_calls_marks lane p callers ≤ 1) → CallersPrint lists 0 callers mss oss →
    (o : Origin) → times o (all_origins oss) ≤ 1
printed_once lists callers mss oss marks print (at_lane lane p) =
    omega (arith, marks lane p, callers_times lane p lists 0 callers mss oss print)
printed_once lists callers mss oss marks print (at_state c k i) = (callers_once c k i lists 0 callers mss oss print).most

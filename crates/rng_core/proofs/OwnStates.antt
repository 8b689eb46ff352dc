-- Each use (a read or a wipe) of a caller's own vgetrandom state leaves entries that continue the state's list. The
-- laws of books for all states together follow from this.
use Rattle.std.proofs.Common.{◌≡◌, ℕ, zero, suc, ◌+◌, ◌<◌, ◌≤◌, Bool, true, false, cond, eq-eqb, ne_eqb, List, [], ◌∷◌, length, map, refl, sym, ap, ◌∙◌, subst, arith, Some, None, append-nil, inl, inr}
use Rattle.std.specs.Prelude.{◌==◌, ◌&&◌, not, nat_lt, if◌then◌else◌, slice_get}
use Rattle.std.specs.List.{sum_by, AllByRecursion}
use Rattle.std.proofs.lemmas.Bool.{eqb-true}
use Rattle.std.proofs.lemmas.List.Sums.{sum_by-cons, fold-append}
use Rattle.key_names.specs.declared.entries.CpuEntry.{CpuEntry}
use Rattle.key_names.specs.declared.entries.Taken.TheVariants.{User}
use Rattle.key_names.specs.declared.entries.VEntry.{VEntry}
use Rattle.key_names.specs.declared.entries.VEntry.TheVariants.{Rekey, Blocks, Refill, Serve, Wipe}
use Rattle.key_names.specs.declared.events.Answer.{Answer}
use Rattle.key_names.specs.declared.names.LaneId.{LaneId}
use Rattle.key_names.specs.declared.names.LaneId.TheVariants.{Pool as PoolLane, Base as BaseLane, Cpu as CpuLane}
use Rattle.key_names.specs.Kernel.BatchCopy.{has_left, serves_locally, copy_entries, state_after_copy}
use Rattle.key_names.specs.Lanes.Book.{Lists, list_at, cpu_list, StatePlace, rekey_in, HalfFinishedBook}
use Rattle.key_names.specs.Lanes.CpuList.{taken_at}
use Rattle.key_names.specs.Callers.Calls.{Setting as CallSetting, BoundAct, first_setting}
use Rattle.key_names.specs.Callers.Effects.{Effect, effects_of}
use Rattle.key_names.specs.Callers.Forms.{Looked}
use Rattle.key_names.specs.Keys.LiveMaterial.{StateBytes, state_bytes_start}
use Rattle.key_names.specs.Callers.Meaning.{CallerState, CallMeaning, LineMeaning, ByLocalCopy, ByVgetrandom, LocalOrCall, VreadMeans, caller_start, current_state, tries_local, unused_line, with_state}
use Rattle.key_names.specs.Transcripts.IsTranscript.{state_lists}
use Rattle.key_names.specs.Transcripts.SeenLine.{Shown}
use Rattle.key_names.specs.Lanes.StateList.{NamedState, state_start, TakesRead, LawfulStateList, rekey_at}
use Rattle.key_names.specs.Transcripts.StatesReplayed.{IsNamed, IsReplayed}
use Rattle.key_names.specs.Kernel.VgetrandomState.{VgetrandomState, wiped_state}
use Rattle.key_names.specs.Callers.VreadSteps.{NeverFall, looks_of, published_by}
use Rattle.key_names.proofs.Lists.Each.{each_append, each_both, each_weaker}
use Rattle.key_names.proofs.Vgetrandom.CopiesKeep.{Settled, Keeps, keeps_append, keeps_weaker}
use Rattle.key_names.proofs.Vgetrandom.CallsKeep.{match_cases, call_keeps, local_keeps, wipe_keeps, lawful_list}
use Rattle.key_names.proofs.Vgetrandom.KeyReads.{call_names, copy_names}
use Rattle.key_names.proofs.Vgetrandom.KeyTakes.{takes, takes_append, copy_takes, call_takes}
use Rattle.key_names.proofs.Vgetrandom.StatesReplay as replay
use Rattle.key_names.proofs.Transcripts.KeyVisits.{all_there, key_reads}
use Rattle.key_names.proofs.Transcripts.GoodSteps.{good_after}
use Rattle.key_names.proofs.Transcripts.TakenMarks.{hit, lane_takes, mark_takes, effects_within}
use Rattle.key_names.proofs.Transcripts.CallTakes.{all_takes}
use Rattle.key_names.proofs.Transcripts.TakenOnce.{one_entry}
use Rattle.key_names.proofs.Transcripts.TranscriptBooks.{lt_or_le}
use Rattle.key_names.proofs.Transcripts.TranscriptReplays.{bytes_is, bytes_key, named_is, wants_bytes}
use Rattle.key_names.proofs.Uses.BookUses.{half_finished_is_disjoint, half_finished_is_erased}
use Rattle.key_names.proofs.Values.HeldBytes.{half_finished_holds_named}
use Rattle.lane_table.specs.declared.view.LaneView.{LaneView}
use Rattle.lane_table.specs.declared.view.View.{View}
use Rattle.lane_table.specs.WorldRule.{St, WorldRule, at, known_of, once_below, times}
use Rattle.lane_table.specs.LaneNumbers.{index_of}
use Rattle.lane_table.specs.BookLists.{StateLists, book_lists}
use Rattle.lane_table.specs.BookLaws.{Continues}
use Rattle.lane_table.specs.Advances.{MadeStep, looked, visited, step_of, places_in}
use Rattle.lane_table.proofs.Book.BookWhole.{no_cpu}
use Rattle.lane_table.proofs.Lists.Lists.{sum_by-map}
use Rattle.lane_table.proofs.Lists.VisitLists.{begins_trans}
use Rattle.lane_table.proofs.Rule.RuleParts.{known_lists, lawful_so_far, counts}
use Rattle.rng_core.specs.Makes.{setting_of}
use Rattle.rng_core.specs.InsideMakes.{bound_acts, outcome_line}
use Rattle.rng_core.specs.OwnStates.{OwnUse, by_vread, by_vread_inside, by_vread_local, by_wipe, before_use, after_use, entries_of, steps_of, IsKnown, UseIsKnown, Follow, after_uses, entries_left, visits_at, all_visits_at, OwnStates, OwnBook, OwnStatesAreLawful}

-- The CPU visits among a list of steps, counted by their marks and by their places

-- `p` is a place of CPU `c`
module _ (c p : ℕ) where
  one_more : (place : ℕ) (rest : List ℕ) → times p (place ∷ rest) ≡ hit (place == p) + times p rest
  one_more place rest = sum_by-cons (λ (q : ℕ). cond (q == p) 1 0) place rest

  -- a mark counts for place `p` of CPU `c` if and only if it is of the CPU's lane (`b` is true) and has the place `p`
  counted_if : (b : Bool) (place n : ℕ) (rest : List ℕ) → n ≡ times p rest →
      (if b then hit (place == p) else 0) + n ≡ times p (if b then place ∷ rest else rest)
  counted_if true place n rest is = let more = one_more place rest in omega arith
  counted_if false place n rest is = omega arith

  same_number : (d : ℕ) → (d + 2 == c + 2) ≡ (d == c)
  same_number d = go (d == c) refl
    where
      go : (b : Bool) → (d == c) ≡ b → (d + 2 == c + 2) ≡ b
      go true is = let e : d ≡ c = eqb-true d c is in eq-eqb (d + 2) (c + 2) (omega arith)
      go false is = ne_eqb (d + 2) (c + 2)
          (λ e. let f : d ≡ c = omega arith in let yes : (d == c) ≡ true = eq-eqb d c f in cc)

  counted_at : (lane : LaneId) (place n : ℕ) (rest : List ℕ) → n ≡ times p rest →
      lane_takes (CpuLane c) p lane place + n ≡ times p (if index_of lane == c + 2 then place ∷ rest else rest)
  counted_at PoolLane place n rest is = let far : (0 == c + 2) ≡ false = ne_eqb 0 (c + 2) (λ e. omega arith) in
      rw far (counted_if false place n rest is)
  counted_at BaseLane place n rest is = let far : (1 == c + 2) ≡ false = ne_eqb 1 (c + 2) (λ e. omega arith) in
      rw far (counted_if false place n rest is)
  counted_at (CpuLane d) place n rest is = rw (same_number d) (counted_if (d == c) place n rest is)

  marks_are_places : (steps : List MadeStep) →
      mark_takes (CpuLane c) p (map step_of steps) ≡ times p (places_in (c + 2) steps)
  marks_are_places [] = refl
  marks_are_places (looked g ∷ steps) = marks_are_places steps
  marks_are_places (visited mark e ∷ steps) = counted_at mark.lane mark.place (mark_takes (CpuLane c) p (map step_of steps))
      (places_in (c + 2) steps) (marks_are_places steps)

-- One use of a vgetrandom state

-- a use with the own steps `steps` changed the state `s` to `t`, and left the entries `es`. If a list leads to `s`,
-- then the list followed by `es` leads to `t`. Each read that an entry takes as a key has 32 bytes, and is among
-- `steps`
record Leaves (lists : Lists) (s t : VgetrandomState) (es : List VEntry) (steps : List MadeStep) : Type 0 where
  keeps : (caller : ℕ) (x : NamedState) → Settled x s → Keeps caller 0 (λ y. Settled y t) x es
  reads : AllByRecursion (TakesRead (cpu_list lists)) es
  within : (c p : ℕ) → takes c p es ≤ times p (places_in (c + 2) steps)
  holds : (caller : ℕ) (x : replay.Both lists caller 0) → replay.Holds lists caller 0 x s →
      replay.Holds lists caller 0 (replay.after lists caller 0 x es) t

-- a caller that has the vgetrandom state `s` and no other
abbrev standing : CallSetting → VgetrandomState → CallerState
standing set s = record { setting = set; states = s ∷ []; current = 0 }

-- a batch that can serve `n` bytes without a call (`serves_locally`) has at least `n` bytes left
left_of : (g n : ℕ) (s : VgetrandomState) → serves_locally g s n ≡ true → has_left s n ≡ true
left_of g n s serves = right (not s.in_use) (has_left s n)
    (right (g == s.generation) (not s.in_use && has_left s n)
    (right (not (g == 0)) (g == s.generation && (not s.in_use && has_left s n)) serves))
  where
    right : (a b : Bool) → (a && b) ≡ true → b ≡ true
    right true b h = h
    right false b h = cc

-- a copy of `n` bytes that the batch of the state `s` alone serves
module _ (lists : Lists) (s : VgetrandomState) (n : ℕ) (some : 1 ≤ n) (left : has_left s n ≡ true)
    (steps : List MadeStep) where
  copied_keeps : (caller : ℕ) (x : NamedState) → Settled x s →
      Keeps caller 0 (λ y. Settled y (state_after_copy s 0 n)) x (copy_entries s 0 n)
  copied_keeps caller x h = rw left (local_keeps caller 0 x s n left h)

  copied : Leaves lists s (state_after_copy s 0 n) (copy_entries s 0 n) steps
  copied = record {
    keeps = copied_keeps;
    reads = copy_names (cpu_list lists) s 0 n;
    within = λ c p. let none = copy_takes c p s 0 n in omega arith;
    holds = λ caller x h. replay.copy_holds lists caller 0 x s 0 n some h;
  }

-- a read that is described by the meaning of its call (`CallMeaning`)
module _ (lists : Lists) (set : CallSetting) (n flags : ℕ) (acts : List BoundAct) (steps : List MadeStep)
    (s t : VgetrandomState) (answer : Answer) (shown : Shown) (lines : List LineMeaning) (es : List VEntry) where
  abbrev effects : List Effect
  effects = effects_of lists (map step_of steps)

  abbrev meaning : CallMeaning
  meaning = record {
    own = record { effects = effects; answer = answer; shown = shown };
    acts = lines;
    entries = es;
    before = standing set s;
    after = with_state (standing set s) t;
  }

  -- if the read is a call of vgetrandom (`ByVgetrandom`), it leaves the state `t` and the entries `es`
  called : NeverFall (looks_of effects) → ByVgetrandom n flags acts meaning → Leaves lists s t es steps
  called rising by = let to : t ≡ by.outcome.state = ap current_state by.after in
      let there = all_there lists (map step_of steps) in
      let done : Leaves lists s by.outcome.state by.outcome.entries steps = record {
        keeps = λ caller x h. call_keeps caller 0 n flags x s by.steps by.outcome by.is_call h;
        reads = call_names (cpu_list lists) n flags s by.steps by.outcome
            (key_reads lists set by.steps effects there by.shows) by.is_call;
        within = λ c p. (let taken = call_takes c p set n flags s by.steps by.outcome effects by.is_call by.shows in
            let marked = effects_within c p lists (map step_of steps) in let placed = marks_are_places c p steps in
            omega arith);
        holds = λ caller x h. replay.call_holds lists caller 0 n flags x s by.steps by.outcome
            (good_after lists set by.steps effects there rising by.shows) by.is_call h;
      } in
      subst (λ (z : VgetrandomState × List VEntry). Leaves lists s z.0 z.1 steps)
      (λ i. (sym to i, sym by.entries i)) done

  -- if the read is a copy out of the batch after one look (`ByLocalCopy`), it leaves the state `t` and the entries `es`
  served : (look : ℕ) (rest : List Effect) → 1 ≤ n → serves_locally (published_by look) s n ≡ true →
      ByLocalCopy n rest meaning → Leaves lists s t es steps
  served look rest some serves by = let to : t ≡ state_after_copy s 0 n = ap current_state by.after in
      subst (λ (z : VgetrandomState × List VEntry). Leaves lists s z.0 z.1 steps)
      (λ i. (sym to i, sym by.entries i)) (copied lists s n some (left_of (published_by look) n s serves) steps)

  read_leaves : VreadMeans n flags acts meaning → Leaves lists s t es steps
  read_leaves means = match_cases (Looked (LocalOrCall n flags acts meaning) effects) (ByVgetrandom n flags acts meaning)
      (Leaves lists s t es steps) (tries_local n flags acts)
      (λ tries following. match_cases (ByLocalCopy n following.1 meaning) (ByVgetrandom n flags acts meaning)
      (Leaves lists s t es steps) (serves_locally (published_by following.0) s n)
      (λ serves by. served following.0 following.1 (wants_bytes lists 0 0 (let low : 0 < 16 = omega arith in low) n flags acts tries) serves by)
      (λ not_served by. called means.looks by) following.3)
      (λ no by. called means.looks by)
      means.done_by

-- in the book `lists`, the use `u` leaves the state after it and the entries of `u` (`Leaves`)
abbrev UseLeaves : Lists → OwnUse → Type 0
UseLeaves lists u = Leaves lists (before_use u) (after_use u) (entries_of u) (steps_of u)

-- All uses of one vgetrandom state, in order

module _ (lists : Lists) where
  reads_left : (uses : List OwnUse) → AllByRecursion (UseLeaves lists) uses →
      AllByRecursion (TakesRead (cpu_list lists)) (entries_left uses)
  reads_left [] all = tt
  reads_left (u ∷ us) all = each_append (TakesRead (cpu_list lists)) (entries_of u) (entries_left us) all.0.reads
      (reads_left us all.1)

  within_left : (c p : ℕ) (uses : List OwnUse) → AllByRecursion (UseLeaves lists) uses →
      takes c p (entries_left uses) ≤ sum_by (visits_at c p) uses
  within_left c p [] all = omega arith
  within_left c p (u ∷ us) all = let rest = within_left c p us all.1 in let here = all.0.within c p in
      omega (arith, takes_append c p (entries_of u) (entries_left us), sum_by-cons (visits_at c p) u us)

  module _ (caller : ℕ) where
    keeps_left : (s : VgetrandomState) (uses : List OwnUse) → Follow s uses → AllByRecursion (UseLeaves lists) uses →
        (x : NamedState) → Settled x s → Keeps caller 0 (λ y. Settled y (after_uses s uses)) x (entries_left uses)
    keeps_left s [] follow all x h = record { lawful = tt; after = h }
    keeps_left s (u ∷ us) follow all x h = let end : VgetrandomState = after_uses (after_use u) us in
        keeps_append caller 0 (λ y. Settled y end) x (entries_of u) (entries_left us)
        (keeps_weaker caller 0 (λ y. Settled y (after_use u))
        (λ y. Keeps caller 0 (λ z. Settled z end) y (entries_left us))
        (λ y k. keeps_left (after_use u) us follow.1 all.1 y k) x (entries_of u)
        (all.0.keeps caller x (subst (Settled x) (sym follow.0) h)))

    holds_left : (s : VgetrandomState) (uses : List OwnUse) → Follow s uses → AllByRecursion (UseLeaves lists) uses →
        (x : replay.Both lists caller 0) → replay.Holds lists caller 0 x s →
        replay.Holds lists caller 0 (replay.after lists caller 0 x (entries_left uses)) (after_uses s uses)
    holds_left s [] follow all x h = h
    holds_left s (u ∷ us) follow all x h =
        subst (λ (y : replay.Both lists caller 0). replay.Holds lists caller 0 y (after_uses (after_use u) us))
        (sym (fold-append (replay.step lists caller 0) x (entries_of u) (entries_left us)))
        (holds_left (after_use u) us follow.1 all.1 (replay.after lists caller 0 x (entries_of u))
        (all.0.holds caller x (subst (replay.Holds lists caller 0 x) (sym follow.0) h)))

    module _ (uses : List OwnUse) (follow : Follow wiped_state uses) (all : AllByRecursion (UseLeaves lists) uses) where
      own_lawful : LawfulStateList (cpu_list lists) caller 0 (entries_left uses)
      own_lawful = let k = keeps_left wiped_state uses follow all state_start
          record { same_pos = refl; within = omega arith; expects = refl; zeros = refl } in
          lawful_list (cpu_list lists) caller 0 (entries_left uses)
          record { comes = k.lawful; ends = k.after.expects } (reads_left uses all)

      own_replayed : IsReplayed lists caller 0 (entries_left uses) (after_uses wiped_state uses)
      own_replayed = let es : List VEntry = entries_left uses in let low : 0 < 16 = omega arith in
          let start : replay.Both lists caller 0 = record { named = state_start; bytes = state_bytes_start } in
          let h = holds_left wiped_state uses follow all start
          record { batch = refl; pos = refl; key = refl; named = λ g. absurd (omega arith) } in
          let bytes = bytes_is lists caller 0 low start es in let named' = named_is lists caller 0 low start es in
          record {
            batch = sym h.batch ∙ ap (λ (b : StateBytes). b.batch) bytes;
            pos = sym h.pos ∙ ap (λ (y : NamedState). y.pos) named';
            key = sym h.key ∙ ap (λ (b : StateBytes). b.key) bytes ∙ bytes_key lists state_bytes_start es;
            named = λ g. subst IsNamed named' (h.named g);
          }

-- The vgetrandom states of all callers together

-- the lists that one caller of the book has: the list of its own state, and no other
abbrev own : List OwnUse → List (List VEntry)
own uses = entries_left uses ∷ []

each_lawful : (cpus : ℕ → List CpuEntry) (caller : ℕ) (states : List (List OwnUse)) →
    AllByRecursion (λ uses. (c : ℕ) → LawfulStateList cpus c 0 (entries_left uses)) states →
    (i k : ℕ) → LawfulStateList cpus caller k (list_at (list_at (map own states) i) k)
each_lawful cpus caller [] all i k = record { comes = tt; ends = refl }
each_lawful cpus caller (uses ∷ states) all zero zero = all.0 caller
each_lawful cpus caller (uses ∷ states) all zero (suc k) = record { comes = tt; ends = refl }
each_lawful cpus caller (uses ∷ states) all (suc i) k = each_lawful cpus caller states all.1 i k

-- the entries of each state, as if one call of a caller had left them
meanings : List (List OwnUse) → List (List CallMeaning)
meanings [] = []
meanings (uses ∷ states) = (record {
  own = unused_line;
  acts = [];
  entries = entries_left uses;
  before = caller_start first_setting;
  after = caller_start first_setting;
} ∷ []) ∷ meanings states

same_list : (states : List (List OwnUse)) (i : ℕ) →
    list_at (list_at (map state_lists (meanings states)) i) 0 ≡ list_at (list_at (map own states) i) 0
unfolding meanings
same_list [] i = refl
same_list (uses ∷ states) zero = append-nil (entries_left uses)
same_list (uses ∷ states) (suc i) = same_list states i

all_within : (lists : Lists) (c p : ℕ) (states : List (List OwnUse)) →
    AllByRecursion (AllByRecursion (UseLeaves lists)) states →
    all_takes c p (meanings states) ≤ all_visits_at c p states
unfolding meanings
all_within lists c p [] all = omega arith
all_within lists c p (uses ∷ states) all = let here = within_left lists c p uses all.0 in
    let rest = all_within lists c p states all.1 in
    omega (arith, sum_by-cons (λ (us : List OwnUse). sum_by (visits_at c p) us) uses states)

-- if an entry of state `k` of caller `i` takes a read as its key, `k` is 0
none_else : (states : List (List OwnUse)) (i k n : ℕ) (read : ℕ × ℕ) →
    rekey_at (list_at (list_at (map own states) i) k) n ≡ Some read → k ≡ 0
none_else [] i k n read is = absurd (cc is)
none_else (uses ∷ states) zero zero n read is = refl
none_else (uses ∷ states) zero (suc k) n read is = absurd (cc is)
none_else (uses ∷ states) (suc i) k n read is = none_else states i k n read is

-- if the entry with number `n` of `es` takes the read `read` as its key, the list of that read's CPU has the read, with
-- 32 bytes
read_there : (cpus : ℕ → List CpuEntry) (es : List VEntry) (n : ℕ) (read : ℕ × ℕ) → AllByRecursion (TakesRead cpus) es →
    rekey_at es n ≡ Some read → taken_at (cpus read.0) read.1 ≡ Some (User 32)
read_there cpus [] n read all is = absurd (cc is)
read_there cpus (Rekey cpu place ∷ es) zero read all is = let same : (cpu, place) ≡ read = cc is in
    subst (λ (z : ℕ × ℕ). taken_at (cpus z.0) z.1 ≡ Some (User 32)) same all.0
read_there cpus (Blocks from count ∷ es) zero read all is = absurd (cc is)
read_there cpus (Refill from ∷ es) zero read all is = absurd (cc is)
read_there cpus (Serve pos len ∷ es) zero read all is = absurd (cc is)
read_there cpus (Wipe ∷ es) zero read all is = absurd (cc is)
read_there cpus (e ∷ es) (suc n) read all is = read_there cpus es n read all.1 is

all_there_in : (cpus : ℕ → List CpuEntry) (states : List (List OwnUse)) (i n : ℕ) (read : ℕ × ℕ) →
    AllByRecursion (λ uses. AllByRecursion (TakesRead cpus) (entries_left uses)) states →
    rekey_at (list_at (list_at (map own states) i) 0) n ≡ Some read → taken_at (cpus read.0) read.1 ≡ Some (User 32)
all_there_in cpus [] i n read all is = absurd (cc is)
all_there_in cpus (uses ∷ states) zero n read all is = read_there cpus (entries_left uses) n read all.0 is
all_there_in cpus (uses ∷ states) (suc i) n read all is = all_there_in cpus states i n read all.1 is

each_at : {X : Type 0} (P : X → Type 0) (xs : List X) (i : ℕ) (x : X) → AllByRecursion P xs →
    slice_get xs i ≡ Some x → P x
each_at P [] i x all is = absurd (cc is)
each_at P (y ∷ ys) zero x all is = let same : y ≡ x = cc is in subst P same all.0
each_at P (y ∷ ys) (suc i) x all is = each_at P ys i x all.1 is

once_at_most : (p n : ℕ) → once_below p n ≤ 1
once_at_most p n = go (nat_lt p n)
  where
    go : (b : Bool) → cond b 1 0 ≤ 1
    go true = omega arith
    go false = omega arith

-- The law for the state `s` of a table, at a moment between two atomic steps

module _ {first : ℕ} {s : St} (r : WorldRule first s) (states : List (List OwnUse)) (mine : OwnStates s states) where
  abbrev n : ℕ
  n = length s.homes

  abbrev callers : StateLists
  callers = map own states

  abbrev lists : Lists
  lists = book_lists n r.logs callers

  continues : (w : View) → IsKnown s w → Continues n w r.logs
  continues w k = let so_far = lawful_so_far r in let known = known_lists r in let long : length w.lanes ≡ n =
      k.long ∙ ((r.views k.number k.view k.is).sized k.share).0 in record {
        long = long;
        begins = λ lane near. begins_trans (known_of w lane) (known_of k.view lane) (r.logs lane)
            (k.grows lane (omega arith)) (known.known k.number lane k.view k.is near);
        closed = record { low = r.two; closed = so_far.closed; lawful = r.lawful };
      }

  use_leaves : (u : OwnUse) → UseIsKnown s u → UseLeaves lists u
  use_leaves (by_vread len flags b t answer shown set l m k) is =
      read_leaves lists (setting_of set) len flags [] k.did.made_steps b t answer shown [] k.entries
      (k.did.conforms n r.logs callers (continues m.view is) (standing (setting_of set) b) refl refl)
  use_leaves (by_vread_inside len flags b t answer shown set l m asks outcomes k) is =
      read_leaves lists (setting_of set) len flags (bound_acts set asks outcomes) k.made_steps b t answer shown
      (map (outcome_line lists) outcomes) k.entries
      (k.conforms n r.logs callers (continues m.view is) (standing (setting_of set) b) refl refl)
  use_leaves (by_vread_local len flags b t out set l m k) is =
      subst (λ (z : VgetrandomState). Leaves lists b z (copy_entries b 0 len) (looked k.found ∷ [])) (sym k.state)
      (copied lists b len (wants_bytes lists 0 0 (let low : 0 < 16 = omega arith in low) len flags [] k.tries)
      (left_of (published_by k.found) len b k.serves) (looked k.found ∷ []))
  use_leaves (by_wipe b) is = record {
    keeps = λ caller x h. wipe_keeps caller 0 x b h;
    reads = (tt, tt);
    within = λ c p. omega arith;
    holds = λ caller x h. replay.wiped_holds lists caller 0 x;
  }

  all_leave : AllByRecursion (AllByRecursion (UseLeaves lists)) states
  all_leave = each_weaker (AllByRecursion (UseIsKnown s)) (AllByRecursion (UseLeaves lists)) states
      (λ uses all. each_weaker (UseIsKnown s) (UseLeaves lists) uses use_leaves all) mine.known

  both : AllByRecursion (λ uses. Follow wiped_state uses × AllByRecursion (UseLeaves lists) uses) states
  both = each_both (Follow wiped_state) (AllByRecursion (UseLeaves lists)) states mine.follow all_leave

  -- at each place of a CPU, the entries of all states together take at most one read
  one_visit : (c p : ℕ) → c + 2 < n → all_takes c p (meanings states) ≤ 1
  one_visit c p near = let within = all_within lists c p states all_leave in let counted = mine.counted c p near in
      let placed = (counts r).placed (c + 2) p near in
      let all = sum_by-map (λ (a : LaneView). times p a.places) (at (c + 2)) s.views in
      let once = once_at_most p (length (r.logs (c + 2))) in omega arith

  one_taker : (a b : StatePlace) (read : ℕ × ℕ) → rekey_in lists a ≡ Some read → rekey_in lists b ≡ Some read → a ≡ b
  one_taker a b read x y = elim (lt_or_le (read.0 + 2) n) [
    | inl near ↦ (let same = one_entry read.0 read.1 (meanings states) (one_visit read.0 read.1 near) a.caller b.caller
        0 0 a.place b.place (listed a read x) (listed b read y) in
        λ i. record { caller = same.0 i; state = (first_state a read x ∙ sym (first_state b read y)) i; place = same.2 i })
    | inr far ↦ (let there = all_there_in (cpu_list lists) states a.caller a.place read
        (each_weaker (AllByRecursion (UseLeaves lists)) (λ uses. AllByRecursion (TakesRead (cpu_list lists))
        (entries_left uses)) states (reads_left lists) all_leave) (at_first a read x) in
        let none' = ap (λ es. taken_at es read.1) (no_cpu n r.logs callers read.0 far) in
        let clash : None ≡ Some (User 32) = sym none' ∙ there in absurd (cc clash))
  ]
    where
      first_state : (a : StatePlace) (read : ℕ × ℕ) → rekey_in lists a ≡ Some read → a.state ≡ 0
      first_state a read x = none_else states a.caller a.state a.place read x

      at_first : (a : StatePlace) (read : ℕ × ℕ) → rekey_in lists a ≡ Some read →
          rekey_at (list_at (list_at callers a.caller) 0) a.place ≡ Some read
      at_first a read x = ap (λ k. rekey_at (list_at (list_at callers a.caller) k) a.place)
          (sym (first_state a read x)) ∙ x

      listed : (a : StatePlace) (read : ℕ × ℕ) → rekey_in lists a ≡ Some read →
          rekey_at (list_at (list_at (map state_lists (meanings states)) a.caller) 0) a.place ≡ Some (read.0, read.1)
      listed a read x = ap (λ es. rekey_at es a.place) (same_list states a.caller) ∙ at_first a read x

  lawful : HalfFinishedBook lists
  lawful = record {
    lanes = (lawful_so_far r).book callers;
    states = record {
      states = λ caller k. each_lawful (cpu_list lists) caller states
          (each_weaker (λ uses. Follow wiped_state uses × AllByRecursion (UseLeaves lists) uses)
          (λ uses. (c : ℕ) → LawfulStateList (cpu_list lists) c 0 (entries_left uses)) states
          (λ uses h c. own_lawful lists c uses h.0 h.1) both) caller k;
      one_taker = one_taker;
    };
  }

  own_book : OwnBook lists states
  own_book = record {
    lawful = lawful;
    disjoint = half_finished_is_disjoint lists lawful;
    erased = half_finished_is_erased lists lawful;
    named = half_finished_holds_named lists lawful;
    replayed = λ i uses is. let h = each_at
        (λ us. Follow wiped_state us × AllByRecursion (UseLeaves lists) us) states i uses both is in
        own_replayed lists i uses h.0 h.1;
  }

pub own_states_are_lawful : OwnStatesAreLawful
own_states_are_lawful first s r states mine = own_book r states mine

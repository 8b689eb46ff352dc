-- The lines of the parent and of the child have named bytes as data, in a book that has the vgetrandom states of both.
use Rattle.std.proofs.Common.{◌≡◌, ℕ, zero, suc, ◌+◌, ◌≤◌, ◌⊎◌, inl, inr, Bool, true, false, List, [], ◌∷◌, ◌++◌, Some, refl, sym, subst, ap, ◌∙◌, arith, append-nil, length}
use Rattle.std.specs.Prelude.{◌||◌}
use Rattle.std.specs.List.{AllByRecursion, list_any}
use Rattle.std.proofs.lemmas.List.{length-append}
use Rattle.key_names.specs.declared.entries.VEntry.{VEntry}
use Rattle.key_names.specs.declared.events.Answer.TheVariants.{Ok as Done}
use Rattle.key_names.specs.declared.events.Word.TheVariants.{Vread}
use Rattle.key_names.specs.declared.names.LaneId.{LaneId}
use Rattle.key_names.specs.declared.names.Step.{Step}
use Rattle.key_names.specs.Lanes.Book.{Lists, LawfulBook, LawfulLanes, StatePlace, cpu_list, list_at, rekey_in, state_list}
use Rattle.key_names.specs.Callers.Effects.{effects_of}
use Rattle.key_names.specs.Transcripts.PrintedBytes.{Origin, origins_uses, StateEntries, LinePrints}
use Rattle.key_names.specs.Transcripts.SeenLine.{SeenLine, bytes_in, bytes_or_none}
use Rattle.key_names.specs.Keys.ServedNamed.{served_in, VisitsServeNamed}
use Rattle.key_names.specs.Lanes.StateList.{NamedState, TakesRead, OrderedStateList, LawfulStateList, rekey_at, state_start, state_step, state_after}
use Rattle.key_names.specs.Keys.LiveMaterial.{state_bytes_start}
use Rattle.key_names.specs.Keys.Uses.{Disjoint, is_rekeyed, rekeys_place, state_uses_at, uses_from}
use Rattle.key_names.specs.Kernel.Vgetrandom.{SystemAnswer, read, failed, HostStep, Ending, no_bytes, by_batch, by_system}
use Rattle.key_names.specs.Callers.VreadSteps.{Shows}
use Rattle.key_names.specs.Kernel.VgetrandomState.{wiped_state}
use Rattle.key_names.specs.Callers.Calls.{Call, Setting, vread_call}
use Rattle.key_names.specs.Callers.Meaning.{CallMeaning, caller_start, unused_line}
use Rattle.key_names.proofs.Transcripts.TakenMarks.{mark_takes}
use Rattle.key_names.proofs.Transcripts.TakenOnce.{any_entry, counts_one, counts_two, equal_or_not, or_true}
use Rattle.key_names.proofs.Transcripts.TranscriptReplays as walk
use Rattle.key_names.proofs.Values.BatchNamed as batch
use Rattle.key_names.proofs.Values.PrintedLines.{Prints, bytes_of_some, prints_entries, prints_none, prints_visit}
use Rattle.key_names.proofs.Values.PrintedOnce.{once_disjoint, times, times_append}
use Rattle.key_names.proofs.Values.PrintedTimes.{printed_once}
use Rattle.key_names.proofs.Values.VreadsNamed.{front_tells}
use Rattle.key_names.proofs.Vgetrandom.AskedSystem.{EndsAsked, steps_shown}
use Rattle.key_names.proofs.Vgetrandom.CallsKeep.{lawful_list}
use Rattle.key_names.proofs.Vgetrandom.KeyTakes.{ending_takes, takes}
use Rattle.key_names.proofs.Vgetrandom.StatesReplay as replay
use Rattle.fork_runs.specs.Stretches.{GivesBytes}
use Rattle.fork_runs.specs.TableForks.{ShowsNamed, call_entries, two_states}

module _ (lists : Lists) (ps cs : List VEntry) (callers_are : lists.callers ≡ two_states ps cs) where
  pub parents_list : state_list lists 0 0 ≡ ps
  parents_list = ap (λ (callers : List (List (List VEntry))). list_at (list_at callers 0) 0) callers_are

  pub childs_list : state_list lists 1 0 ≡ cs
  childs_list = ap (λ (callers : List (List (List VEntry))). list_at (list_at callers 1) 0) callers_are

  or_false : (b : Bool) → (b || false) ≡ true → b ≡ true
  or_false true is = refl
  or_false false is = is

  -- if the book takes read p of CPU c as a key, an entry of `ps` or of `cs`, the lists of the two states, takes this
  -- read
  pub rekeyed_counts : (c p : ℕ) → is_rekeyed lists c p ≡ true → 1 ≤ takes c p ps + takes c p cs
  rekeyed_counts c p is =
      let any : List VEntry → Bool = λ es. list_any (rekeys_place c p) es in
      let both : ((any ps || false) || ((any cs || false) || false)) ≡ true =
      sym (ap (λ (callers : List (List (List VEntry))). list_any (λ states. list_any (λ es. list_any (rekeys_place c p) es)
      states) callers) callers_are) ∙ is in
      elim (or_true (any ps || false) ((any cs || false) || false) both) [
        | inl first ↦ let one = any_entry c p ps (or_false (any ps) first) in omega arith
        | inr second ↦
            let one = any_entry c p cs (or_false (any cs) (or_false (any cs || false) second)) in omega arith
      ]

  -- `caller` is `number`, `state` is 0, and the entry at `place` of `es`, the list of this state, takes the read at
  -- place `p` of CPU `c` as a key
  record TakenIn (caller state place c p : ℕ) (number : ℕ) (es : List VEntry) : Type 0 where
    caller_is : caller ≡ number
    state_is : state ≡ 0
    takes_it : rekey_at es place ≡ Some (c, p)

  taken_in : (caller state place c p : ℕ) → rekey_at (list_at (list_at (two_states ps cs) caller) state) place ≡ Some (c, p) →
      TakenIn caller state place c p 0 ps ⊎ TakenIn caller state place c p 1 cs
  taken_in zero zero place c p is = inl (record { caller_is = refl; state_is = refl; takes_it = is })
  taken_in zero (suc state) place c p is = cc
  taken_in (suc zero) zero place c p is = inr (record { caller_is = refl; state_is = refl; takes_it = is })
  taken_in (suc zero) (suc state) place c p is = cc
  taken_in (suc (suc caller)) state place c p is = cc

  module _ (few : (c p : ℕ) → takes c p ps + takes c p cs ≤ 1) where
    same_place : (es : List VEntry) (c p i j : ℕ) → takes c p es ≤ 1 → rekey_at es i ≡ Some (c, p) →
        rekey_at es j ≡ Some (c, p) → i ≡ j
    same_place es c p i j low a b = elim (equal_or_not i j) [
      | inl same ↦ same
      | inr other ↦ let two = counts_two c p es i j other a b in absurd (omega arith)
    ]

    one_list : (number : ℕ) (es : List VEntry) (a b : StatePlace) (c p : ℕ) → takes c p es ≤ 1 →
        TakenIn a.caller a.state a.place c p number es → TakenIn b.caller b.state b.place c p number es → a ≡ b
    one_list number es a b c p low x y =
        let callers = x.caller_is ∙ sym y.caller_is in
        let states = x.state_is ∙ sym y.state_is in
        let places = same_place es c p a.place b.place low x.takes_it y.takes_it in
        λ i. record { caller = callers i; state = states i; place = places i }

    one_taker : (a b : StatePlace) (taken : ℕ × ℕ) → rekey_in lists a ≡ Some taken → rekey_in lists b ≡ Some taken → a ≡ b
    one_taker a b taken first second =
        let c = taken.0 in
        let p = taken.1 in
        let low = few c p in
        let at : (x : StatePlace) → rekey_in lists x ≡ Some taken →
        rekey_at (list_at (list_at (two_states ps cs) x.caller) x.state) x.place ≡ Some (c, p) =
        λ x is. sym (ap (λ (callers : List (List (List VEntry))). rekey_at (list_at (list_at callers x.caller) x.state) x.place)
        callers_are) ∙ is in
        elim (taken_in a.caller a.state a.place c p (at a first)) [
          | inl x ↦ elim (taken_in b.caller b.state b.place c p (at b second)) [
            | inl y ↦ one_list 0 ps a b c p (omega arith) x y
            | inr y ↦
                let one = counts_one c p ps a.place x.takes_it in
                let two = counts_one c p cs b.place y.takes_it in absurd (omega arith)
          ]
          | inr x ↦ elim (taken_in b.caller b.state b.place c p (at b second)) [
            | inl y ↦
                let one = counts_one c p cs a.place x.takes_it in
                let two = counts_one c p ps b.place y.takes_it in absurd (omega arith)
            | inr y ↦ one_list 1 cs a b c p (omega arith) x y
          ]
        ]

    module _ (lanes : LawfulLanes lists) (parents_order : OrderedStateList 0 0 ps) (childs_order : OrderedStateList 1 0 cs)
        (parents_reads : AllByRecursion (TakesRead (cpu_list lists)) ps)
        (childs_reads : AllByRecursion (TakesRead (cpu_list lists)) cs) where
      none : (caller state : ℕ) → LawfulStateList (cpu_list lists) caller state []
      none caller state = record { comes = tt; ends = refl }

      each_state : (caller state : ℕ) →
          LawfulStateList (cpu_list lists) caller state (list_at (list_at (two_states ps cs) caller) state)
      each_state zero zero = lawful_list (cpu_list lists) 0 0 ps parents_order parents_reads
      each_state zero (suc state) = none 0 (suc state)
      each_state (suc zero) zero = lawful_list (cpu_list lists) 1 0 cs childs_order childs_reads
      each_state (suc zero) (suc state) = none 1 (suc state)
      each_state (suc (suc caller)) state = none (suc (suc caller)) state

      pub lawful : LawfulBook lists
      lawful = record {
        lanes = lanes;
        states = record {
          states = λ caller state. subst (λ (callers : List (List (List VEntry))). LawfulStateList (cpu_list lists) caller
              state (list_at (list_at callers caller) state)) (sym callers_are) (each_state caller state);
          one_taker = one_taker;
        };
      }

-- The data of the lines of the parent and of the child

-- a line as it is in a transcript
abbrev line_of : ℕ → List Step → List ℕ → SeenLine
line_of caller own out = record {
  caller = caller;
  event = 0;
  word = Vread;
  answer = Done;
  steps = own;
  shown = bytes_or_none out;
}

module _ (lists : Lists) (named : VisitsServeNamed lists) (caller : ℕ) (es : List VEntry)
    (list_is : state_list lists caller 0 ≡ es) where
  abbrev pub begun : replay.Both lists caller 0
  begun = record { named = state_start; bytes = state_bytes_start }

  pub start_holds : replay.Holds lists caller 0 begun wiped_state
  start_holds = record { batch = refl; pos = refl; key = refl; named = λ some. absurd (omega arith) }

  pub fronts : LawfulStateList (cpu_list lists) caller 0 (state_list lists caller 0) → batch.Fronts lists caller 0 begun es
  fronts lawful pre post cut = front_tells lists caller 0 (omega arith) lawful pre post (list_is ∙ cut)

  abbrev own_entries : StateEntries
  own_entries = call_entries caller es

  module _ (own : List Step) (out : List ℕ) (set : Setting) (steps : List HostStep)
      (shows : Shows set steps (effects_of lists own)) where
    by_last : batch.LastServes lists caller 0 begun es out → Prints lists own_entries (line_of caller own out)
    by_last k =
        let whole : length es ≡ length k.earlier + length k.last =
        ap (λ (xs : List VEntry). length xs) k.entries_are ∙ length-append k.earlier k.last in
        let there : state_list lists caller 0 ≡ (k.earlier ++ k.last) ++ [] =
        list_is ∙ k.entries_are ∙ sym (append-nil (k.earlier ++ k.last)) in
        let recorded : (replay.after lists caller 0 begun k.earlier).named ≡ state_after caller 0 k.earlier =
        walk.named_is lists caller 0 (omega arith) begun k.earlier in
        prints_entries lists own_entries (line_of caller own out) k.earlier k.last [] out there (omega arith) (omega arith)
        refl
        (k.bytes_are ∙ ap (λ (t : NamedState). served_in lists (uses_from state_uses_at (state_step caller 0) t k.last)) recorded)

    line_prints : (ending : Ending) → GivesBytes ending out →
        ((bytes : List ℕ) → ending ≡ by_batch bytes → batch.LastServes lists caller 0 begun es bytes) →
        ((answer : SystemAnswer) → ending ≡ by_system answer → EndsAsked answer steps) →
        ((c p : ℕ) → is_rekeyed lists c p ≡ true → ending_takes c p ending ≡ 0) →
        Prints lists own_entries (line_of caller own out)
    line_prints no_bytes gives served asked free = absurd gives
    line_prints (by_batch bytes) gives served asked free =
        by_last (subst (batch.LastServes lists caller 0 begun es) (sym gives) (served bytes refl))
    line_prints (by_system (failed errno)) gives served asked free = absurd gives
    line_prints (by_system (read bytes visit)) gives served asked free =
        let answer : SystemAnswer = read bytes visit in
        let same : bytes_or_none out ≡ bytes_or_none bytes = ap bytes_or_none gives in
        elim (steps_shown answer set steps (effects_of lists own) (asked answer refl) shows) [
          | inl none ↦ prints_none lists own_entries (line_of caller own out) (ap bytes_in (same ∙ none))
          | inr a ↦ prints_visit lists named own_entries (line_of caller own out) (effects_of lists own) refl (same ∙ a.shown)
              (λ c p taken. a.place c p ∙ free c p taken)
        ]

    pub line_named : (ending : Ending) → GivesBytes ending out →
        ((bytes : List ℕ) → ending ≡ by_batch bytes → batch.LastServes lists caller 0 begun es bytes) →
        ((answer : SystemAnswer) → ending ≡ by_system answer → EndsAsked answer steps) →
        ((c p : ℕ) → is_rekeyed lists c p ≡ true → ending_takes c p ending ≡ 0) →
        ShowsNamed lists own_entries own out
    line_named ending gives served asked free =
        let k = line_prints ending gives served asked free in
        record { origins = k.0; by = k.1.by; shown = sym (bytes_of_some out) ∙ k.1.shown }

-- No byte of a key's keystream is in both lines

-- a call's meaning as it is in a transcript
abbrev meaning_of : List VEntry → CallMeaning
meaning_of es = record {
  own = unused_line;
  acts = [];
  entries = es;
  before = caller_start (record { cpu = 0; now = 0; hw = [] });
  after = caller_start (record { cpu = 0; now = 0; hw = [] });
}

abbrev call_of : SeenLine → Call
call_of line = vread_call 0 0 line []

module _ (lists : Lists) (lawful : LawfulBook lists) (ps cs : List VEntry) (parents childs : List Step)
    (parent child : List ℕ) (first : ShowsNamed lists (call_entries 0 ps) parents parent)
    (second : ShowsNamed lists (call_entries 1 cs) childs child)
    (few : (lane : LaneId) (p : ℕ) → mark_takes lane p parents + mark_takes lane p childs ≤ 1) where
  abbrev line_is : (caller : ℕ) (es : List VEntry) (own : List Step) (out : List ℕ)
      (k : ShowsNamed lists (call_entries caller es) own out) →
      LinePrints lists (call_entries caller es) (line_of caller own out) k.origins
  line_is caller es own out k = record { by = k.by; shown = bytes_of_some out ∙ k.shown }

  once : (o : Origin) → times o (first.origins ++ second.origins) ≤ 1
  once o =
      let all = printed_once lists
      ((call_of (line_of 0 parents parent) ∷ []) ∷ (call_of (line_of 1 childs child) ∷ []) ∷ [])
      ((meaning_of ps ∷ []) ∷ (meaning_of cs ∷ []) ∷ [])
      (((first.origins ∷ []) ∷ []) ∷ ((second.origins ∷ []) ∷ []) ∷ [])
      (λ lane p. let low = few lane p in omega arith)
      (((line_is 0 ps parents parent first, tt), tt), (((line_is 1 cs childs child second, tt), tt), tt)) o in
      let xs = first.origins in
      let ys = second.origins in
      omega (
        arith,
        all,
        times_append o xs ys,
        times_append o ((xs ++ []) ++ []) (((ys ++ []) ++ []) ++ []),
        times_append o (xs ++ []) [],
        times_append o xs [],
        times_append o ((ys ++ []) ++ []) [],
        times_append o (ys ++ []) [],
        times_append o ys [],
      )

  pub apart : Disjoint (origins_uses lists (first.origins ++ second.origins))
  apart = once_disjoint lists lawful.lanes.forward lawful.states (first.origins ++ second.origins) once

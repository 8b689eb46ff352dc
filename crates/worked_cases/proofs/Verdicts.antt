-- Computes whether a transcript is lawful for a script, given the entries of its lanes. The clauses are decided one
-- after another.
use Rattle.std.proofs.Common.{◌≡◌, ℕ, suc, Option, Some, None, List, [], ◌∷◌, refl, map, replicate, length, ◌==◌, ◌&&◌}
use Rattle.std.proofs.Common.{if◌then◌else◌}
use Rattle.key_names.specs.declared.names.LaneId.{LaneId}
use Rattle.key_names.specs.declared.names.LaneId.TheVariants.{Pool as PoolLane, Base as BaseLane, Cpu as CpuLane}
use Rattle.key_names.specs.declared.names.Who.{Who}
use Rattle.key_names.specs.declared.entries.PoolEntry.{PoolEntry}
use Rattle.key_names.specs.declared.entries.BaseEntry.{BaseEntry}
use Rattle.key_names.specs.declared.entries.CpuEntry.{CpuEntry}
use Rattle.key_names.specs.declared.entries.VEntry.{VEntry}
use Rattle.key_names.specs.Lanes.Book.{Book, Lists, Visit, lists_of}
use Rattle.key_names.specs.Callers.Calls.{Setting, Call}
use Rattle.key_names.specs.Transcripts.SeenLine.{SeenLine}
use Rattle.key_names.specs.Texts.ScriptGrammar.{Script}
use Rattle.key_names.specs.Callers.Meaning.{CallMeaning, caller_start}
use Rattle.key_names.specs.Transcripts.IsTranscript.{IsTranscript, HasLines, MarksConform, FormsConform, AnswersConform, DataConform}
use Rattle.key_names.specs.Transcripts.IsTranscript.{SeenConforms, FirstFails, Clause, lines_clause, marks_clause, answers_clause}
use Rattle.key_names.specs.Transcripts.IsTranscript.{data_clause, looks_clause, clause_number, CallerMeans, EachCaller, VisitsAre}
use Rattle.key_names.specs.Transcripts.IsTranscript.{MarkBy, all_marks, is_same_lane, stamped_at, visit_count, script_calls}
use Rattle.key_names.specs.Transcripts.IsTranscript.{start_setting, state_lists}
use Rattle.worked_cases.proofs.Decided.{Decided, yes, no, both, found, found_both, found_three, found_pair, each}
use Rattle.worked_cases.proofs.Decided.{likewise, same_number, same_option}
use Rattle.worked_cases.proofs.FoundLanes.{lanes_found}
use Rattle.worked_cases.proofs.FoundMeanings.{calls_found}
use Rattle.worked_cases.proofs.FoundSamples.{samples_found}
use Rattle.worked_cases.proofs.DecidedLines.{has_lines, answers_conform, data_conform}
use Rattle.worked_cases.proofs.DecidedMarks.{marks_conform, seen_conforms}

-- the entries of the pool, of the base and of each CPU
pub record Lanes : Type 0 where
  pub pool : List PoolEntry
  pub base : List BaseEntry
  pub cpus : List (List CpuEntry)

-- the hardware words of a script that sets none
abbrev pub no_hardware : List ℕ
no_hardware = replicate 32 0

-- ---- The book (the lists of visits) that is made of given entries

abbrev nobody : Who
nobody = record { caller = 0; event = 0; step = 0 }

-- the visit at `place` of `lane`, made of its entry and its mark. The mark is searched for in the given marks
abbrev visit_at : {E : Type 0} → LaneId → ℕ → E → List MarkBy → Visit E
visit_at lane place e [] = record { stamp = 0; who = nobody; entry = e }
visit_at lane place e (by ∷ marks) =
    if is_same_lane by.mark.lane lane && by.mark.place == place then record
    { stamp = by.mark.stamp; who = by.who; entry = e }
    else visit_at lane place e marks

abbrev visits_from : {E : Type 0} → LaneId → List MarkBy → ℕ → List E → List (Visit E)
visits_from lane marks place [] = []
visits_from lane marks place (e ∷ es) = visit_at lane place e marks ∷ visits_from lane marks (suc place) es

abbrev cpus_from : List MarkBy → ℕ → List (List CpuEntry) → List (List (Visit CpuEntry))
cpus_from marks c [] = []
cpus_from marks c (es ∷ cpus) = visits_from (CpuLane c) marks 0 es ∷ cpus_from marks (suc c) cpus

abbrev book_with : List (List SeenLine) → Lanes → List (List CallMeaning) → Book
book_with t lanes ms = record {
  pool = visits_from PoolLane (all_marks t) 0 lanes.pool;
  base = visits_from BaseLane (all_marks t) 0 lanes.base;
  cpus = cpus_from (all_marks t) 0 lanes.cpus;
  callers = map state_lists ms;
}

-- ---- The clause on forms (allowed patterns of effects)

abbrev same_who : (a b : ℕ × Who) → Decided (a ≡ b)
same_who a b = likewise
    (λ (h : (a.0 ≡ b.0) × ((a.1.caller ≡ b.1.caller) × ((a.1.event ≡ b.1.event) × (a.1.step ≡ b.1.step)))) i.
    (h.0 i, record { caller = h.1.0 i; event = h.1.1.0 i; step = h.1.1.1 i }))
    (λ e. ((λ i. (e i).0), ((λ i. (e i).1.caller), ((λ i. (e i).1.event), λ i. (e i).1.step))))
    (both (same_number a.0 b.0) (both (same_number a.1.caller b.1.caller)
    (both (same_number a.1.event b.1.event) (same_number a.1.step b.1.step))))

abbrev visits_are : (book : Book) (marks : List MarkBy) → Option (VisitsAre book marks)
visits_are book marks = found_both (λ s n. record { conform = s; no_others = n })
    (found (each (λ by. same_option same_who (stamped_at book by.mark.lane by.mark.place)
    (Some (by.mark.stamp, by.who))) marks))
    (found (same_number (length marks) (visit_count book)))

pub record CallersFound (lists : Lists) (settings : ℕ → Setting) (first : ℕ) (callers : List (List Call)) : Type 0 where
  pub ms : List (List CallMeaning)
  pub means : EachCaller (λ c calls ms. CallerMeans lists (settings c) calls ms) first callers ms

abbrev callers_found : (lists : Lists) (settings : ℕ → Setting) (first : ℕ) (callers : List (List Call)) →
    Option (CallersFound lists settings first callers)
callers_found lists settings first [] = Some (record { ms = []; means = tt })
callers_found lists settings first (calls ∷ callers) = found_both
    (λ f r. record { ms = f.ms ∷ r.ms; means = (record { follows = f.follows; effects = f.effects }, r.means) })
    (calls_found lists (caller_start (settings first)) calls) (callers_found lists settings (suc first) callers)

-- the meaning of a call does not depend on the lists of the vgetrandom states
pub means_again : (lists : Lists) (states : List (List (List VEntry))) (settings : ℕ → Setting) (first : ℕ)
    (callers : List (List Call)) (ms : List (List CallMeaning)) →
    EachCaller (λ c calls ms. CallerMeans lists (settings c) calls ms) first callers ms →
    EachCaller (λ c calls ms. CallerMeans (record lists { callers = states }) (settings c) calls ms) first callers ms
means_again lists states settings first [] [] h = tt
means_again lists states settings first [] (m ∷ ms) h = h
means_again lists states settings first (calls ∷ callers) [] h = h
means_again lists states settings first (calls ∷ callers) (m ∷ ms) h = (
  record { follows = h.0.follows; effects = h.0.effects },
  means_again lists states settings (suc first) callers ms h.1,
)

-- a book for the transcript `t`, and meanings of the calls of `t`, that meet the clause on forms
pub record FormsFound (script : Script) (t : List (List SeenLine)) : Type 0 where
  pub book : Book
  pub ms : List (List CallMeaning)
  pub forms : FormsConform script t book ms

abbrev forms_with : (script : Script) (t : List (List SeenLine)) (lanes : Lanes) →
    CallersFound (lists_of (book_with t lanes [])) (start_setting (script_calls script t)) 0 (script_calls script t) →
    Option (FormsFound script t)
forms_with script t lanes f =
    let book = book_with t lanes f.ms in
    found_three (λ cpus visits l. record {
      book = book;
      ms = f.ms;
      forms = record {
        cpus = cpus;
        visits = visits;
        callers = means_again (lists_of (book_with t lanes [])) (map state_lists f.ms)
            (start_setting (script_calls script t)) 0
            (script_calls script t) f.ms f.means;
        states = refl;
        lanes = l.0;
        samples = l.1;
      };
    }) (found (same_number (length book.cpus) script.cpus)) (visits_are book (all_marks t))
    (found_pair (lanes_found (lists_of book)) (samples_found book))

abbrev pub tried : {P Q : Type 0} → Option P → (P → Option Q) → Option Q
tried (Some p) f = f p
tried None f = None

abbrev pub forms_found : (script : Script) (t : List (List SeenLine)) (lanes : Lanes) → Option (FormsFound script t)
forms_found script t lanes = tried
    (callers_found (lists_of (book_with t lanes [])) (start_setting (script_calls script t)) 0 (script_calls script t))
    (forms_with script t lanes)

-- ---- The verdict on a transcript

-- `t` is lawful for `script`, or `clause` is the first that fails, or the computation finds neither
pub data Verdict (script : Script) (t : List (List SeenLine)) : Type 0 where
  lawful : IsTranscript script t → Verdict script t
  first_fails : (clause : Clause) → FirstFails script t clause → Verdict script t
  unknown : Verdict script t

abbrev last_clauses : (script : Script) (t : List (List SeenLine)) → HasLines script t → MarksConform script t →
    (f : FormsFound script t) → Decided (AnswersConform script t f.ms) → Decided (DataConform script t f.ms) →
    Decided (SeenConforms script t (lists_of f.book)) → Verdict script t
last_clauses script t lines marks f (yes answers) (yes shown) (yes looks) = lawful (
  f.book,
  f.ms,
  record {
    lines = lines;
    marks = marks;
    forms = f.forms;
    answers = answers;
    shown = shown;
    looks = looks;
  },
)
last_clauses script t lines marks f (no answers) shown looks = first_fails answers_clause
    (record { book = f.book; meanings = f.ms; lines = lines; marks = marks; forms = f.forms }, answers)
last_clauses script t lines marks f (yes answers) (no shown) looks = first_fails data_clause
    (record { book = f.book; meanings = f.ms; lines = lines; marks = marks; forms = f.forms }, answers, shown)
last_clauses script t lines marks f (yes answers) (yes shown) (no looks) = first_fails looks_clause
    (record { book = f.book; meanings = f.ms; lines = lines; marks = marks; forms = f.forms }, answers, shown, looks)

abbrev after_marks : (script : Script) (t : List (List SeenLine)) → HasLines script t → MarksConform script t →
    Option (FormsFound script t) → Verdict script t
after_marks script t lines marks None = unknown
after_marks script t lines marks (Some f) = last_clauses script t lines marks f (answers_conform script t f.ms)
    (data_conform script t f.ms) (seen_conforms script t (lists_of f.book))

abbrev after_lines : (script : Script) (t : List (List SeenLine)) → Lanes → HasLines script t →
    Option (Decided (MarksConform script t)) → Verdict script t
after_lines script t lanes lines (Some (yes marks)) = after_marks script t lines marks (forms_found script t lanes)
after_lines script t lanes lines (Some (no marks)) = first_fails marks_clause (lines, marks)
after_lines script t lanes lines None = unknown

abbrev by_lines : (script : Script) (t : List (List SeenLine)) → Lanes → Decided (HasLines script t) → Verdict script t
by_lines script t lanes (yes lines) = after_lines script t lanes lines (marks_conform script t)
by_lines script t lanes (no lines) = first_fails lines_clause lines

abbrev pub verdict : (script : Script) (t : List (List SeenLine)) (lanes : Lanes) → Verdict script t
verdict script t lanes = by_lines script t lanes (has_lines script t)

-- 0 if the transcript is lawful, 1 if the verdict is unknown, and otherwise the number of the clause
abbrev pub verdict_number : {script : Script} {t : List (List SeenLine)} → Verdict script t → ℕ
verdict_number (lawful h) = 0
verdict_number (first_fails clause h) = clause_number clause
verdict_number unknown = 1

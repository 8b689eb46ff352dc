-- The clauses on a transcript's lines, answers and data, decided by computing.
use Rattle.std.proofs.Common.{◌≡◌, ℕ, suc, List, [], ◌∷◌, refl, sym, ap}
use Rattle.key_names.specs.declared.events.Event.{Event}
use Rattle.key_names.specs.declared.events.Word.{Word}
use Rattle.key_names.specs.declared.events.Word.TheVariants.{End as EndWord}
use Rattle.key_names.specs.declared.events.Answer.{Answer}
use Rattle.key_names.specs.Texts.Spelling.{word_text}
use Rattle.key_names.specs.Texts.TranscriptGrammar.{answer_text}
use Rattle.key_names.specs.Texts.ScriptGrammar.{Script, event_word}
use Rattle.key_names.specs.Transcripts.SeenLine.{SeenLine, Shown, no_data, bytes, count}
use Rattle.key_names.specs.Callers.Calls.{Call, alone, vread_call, unbound, ending, BoundAct}
use Rattle.key_names.specs.Callers.Meaning.{LineMeaning, CallMeaning}
use Rattle.key_names.specs.Transcripts.IsTranscript.{LineIs, LinesFit, EachCaller, HasLines, script_calls, EachAct, EachOfCall}
use Rattle.key_names.specs.Transcripts.IsTranscript.{EachLine, AnswersConform, DataConform}
use Rattle.transcript_text.proofs.NameTexts.{same_word, same_answer}
use Rattle.worked_cases.proofs.Decided.{Decided, yes, no, both, likewise, same_number, same_bytes}

abbrev pub same_word_text : (v w : Word) → Decided (v ≡ w)
same_word_text v w = likewise (same_word v w) (ap word_text) (same_bytes (word_text v) (word_text w))

abbrev pub line_is : (c n : ℕ) (word : Word) (line : SeenLine) → Decided (LineIs c n word line)
line_is c n word line = likewise (λ h. record { caller = h.0; event = h.1.0; word_is = h.1.1 })
    (λ l. (l.caller, (l.event, l.word_is)))
    (both (same_number line.caller c) (both (same_number line.event n) (same_word_text line.word word)))

abbrev lines_fit : (c n : ℕ) (events : List Event) (lines : List SeenLine) → Decided (LinesFit c n events lines)
lines_fit c n [] [] = no (λ h. h)
lines_fit c n [] (line ∷ []) = line_is c n EndWord line
lines_fit c n [] (line ∷ more ∷ lines) = no (λ h. h)
lines_fit c n (event ∷ events) [] = no (λ h. h)
lines_fit c n (event ∷ events) (line ∷ lines) =
    both (line_is c n (event_word event) line) (lines_fit c (suc n) events lines)

abbrev pub each_caller : {A B : Type 0} {P : ℕ → A → B → Type 0} → ((c : ℕ) (a : A) (b : B) → Decided (P c a b)) →
    (c : ℕ) (xs : List A) (ys : List B) → Decided (EachCaller P c xs ys)
each_caller d c [] [] = yes tt
each_caller d c [] (y ∷ ys) = no (λ h. h)
each_caller d c (x ∷ xs) [] = no (λ h. h)
each_caller d c (x ∷ xs) (y ∷ ys) = both (d c x y) (each_caller d (suc c) xs ys)

abbrev pub has_lines : (script : Script) (t : List (List SeenLine)) → Decided (HasLines script t)
has_lines script t = each_caller (λ c. lines_fit c 0) 0 script.callers t

-- ---- facts about each line and its meaning

abbrev each_act : {P : SeenLine → LineMeaning → Type 0} → ((line : SeenLine) (m : LineMeaning) → Decided (P line m)) →
    (acts : List BoundAct) (ms : List LineMeaning) → Decided (EachAct P acts ms)
each_act d [] [] = yes tt
each_act d [] (m ∷ ms) = no (λ h. h)
each_act d (bound ∷ acts) [] = no (λ h. h)
each_act d (bound ∷ acts) (m ∷ ms) = both (d bound.line m) (each_act d acts ms)

abbrev each_of_call : {P : SeenLine → LineMeaning → Type 0} →
    ((line : SeenLine) (m : LineMeaning) → Decided (P line m)) →
    (call : Call) (m : CallMeaning) → Decided (EachOfCall P call m)
each_of_call d (alone event line) m = d line m.own
each_of_call d (vread_call len flags line acts) m = both (d line m.own) (each_act d acts m.acts)
each_of_call d (unbound bound) m = d bound.line m.own
each_of_call d (ending line) m = d line m.own

abbrev each_line : {P : SeenLine → LineMeaning → Type 0} → ((line : SeenLine) (m : LineMeaning) → Decided (P line m)) →
    (calls : List Call) (ms : List CallMeaning) → Decided (EachLine P calls ms)
each_line d [] [] = yes tt
each_line d [] (m ∷ ms) = no (λ h. h)
each_line d (call ∷ calls) [] = no (λ h. h)
each_line d (call ∷ calls) (m ∷ ms) = both (each_of_call d call m) (each_line d calls ms)

abbrev same_answer_text : (a b : Answer) → Decided (a ≡ b)
same_answer_text a b = likewise (same_answer a b) (ap answer_text) (same_bytes (answer_text a) (answer_text b))

pub same_inside : (s t : List ℕ) → bytes s ≡ bytes t → s ≡ t
same_inside s t e = cc

pub same_count : (m n : ℕ) → count m ≡ count n → m ≡ n
same_count m n e = cc

pub not_bytes : (t : List ℕ) → no_data ≡ bytes t → ⊥
not_bytes t e = cc

pub not_count : (n : ℕ) → no_data ≡ count n → ⊥
not_count n e = cc

pub bytes_not_count : (s : List ℕ) (n : ℕ) → bytes s ≡ count n → ⊥
bytes_not_count s n e = cc

abbrev same_shown : (a b : Shown) → Decided (a ≡ b)
same_shown no_data no_data = yes refl
same_shown (bytes s) (bytes t) = likewise (ap bytes) (same_inside s t) (same_bytes s t)
same_shown (count m) (count n) = likewise (ap count) (same_count m n) (same_number m n)
same_shown no_data (bytes t) = no (not_bytes t)
same_shown no_data (count n) = no (not_count n)
same_shown (bytes s) no_data = no (λ e. not_bytes s (sym e))
same_shown (bytes s) (count n) = no (bytes_not_count s n)
same_shown (count m) no_data = no (λ e. not_count m (sym e))
same_shown (count m) (bytes t) = no (λ e. bytes_not_count t m (sym e))

abbrev pub answers_conform : (script : Script) (t : List (List SeenLine)) (ms : List (List CallMeaning)) →
    Decided (AnswersConform script t ms)
answers_conform script t ms =
    each_caller (λ c. each_line (λ line m. same_answer_text line.answer m.answer)) 0 (script_calls script t) ms

abbrev pub data_conform : (script : Script) (t : List (List SeenLine)) (ms : List (List CallMeaning)) →
    Decided (DataConform script t ms)
data_conform script t ms =
    each_caller (λ c. each_line (λ line m. same_shown line.shown m.shown)) 0 (script_calls script t) ms

-- Only a line with the word `bits` shows a number, and only lines with other words show bytes.
use Rattle.std.proofs.Common.{◌≡◌, ℕ, suc, Bool, true, false, List, [], ◌∷◌, ◌++◌, refl, sym, subst, ap, ◌∙◌}
use Rattle.std.specs.Prelude.{◌≢◌, MatchBool, if◌then◌else◌}
use Rattle.std.specs.List.{AllByRecursion}
use Rattle.key_names.specs.declared.events.Event.{Event}
use Rattle.key_names.specs.declared.events.Event.TheVariants.{Bits}
use Rattle.key_names.specs.declared.events.Event.TheVariants.{Read, Vread, Kread, Dread, Uread, Int8, Int16, Int32}
use Rattle.key_names.specs.declared.events.Event.TheVariants.{Int64, Inside}
use Rattle.key_names.specs.declared.events.InsideAct.{InsideAct}
use Rattle.key_names.specs.declared.events.InsideAct.TheVariants.{Wipe as WipeAct, Vread as VreadAct, Reseed as ReseedAct}
use Rattle.key_names.specs.declared.events.Word.{Word}
use Rattle.key_names.specs.declared.events.Word.TheVariants.{Bits as BitsWord, Vread as VreadWord, Inside as InsideWord, End as EndWord}
use Rattle.key_names.specs.Callers.Answers.{shown_of, bits_read, served_bytes}
use Rattle.key_names.specs.Callers.Calls.{Setting, Call, alone, vread_call, unbound, ending, BoundAct, has_vread, calls_from, calls_of}
use Rattle.key_names.specs.Callers.Calls.{all_calls}
use Rattle.key_names.specs.Callers.Effects.{Effect, looked, at_pool, at_base, at_cpu, nothing_there}
use Rattle.key_names.specs.Callers.Forms.{Looked}
use Rattle.key_names.specs.Callers.Meaning.{LineMeaning, CallMeaning, ActMeans, ActsMean, ByLocalCopy, ByVgetrandom, LocalOrCall}
use Rattle.key_names.specs.Callers.Meaning.{tries_local, Means, VreadMeans, unused_line, current_state, CallerState}
use Rattle.key_names.specs.Kernel.BatchCopy.{serves_locally, copy_bytes}
use Rattle.key_names.specs.Texts.ScriptGrammar.{Script, event_word}
use Rattle.key_names.specs.Transcripts.SeenLine.{SeenLine, Shown, no_data, bytes_or_none}
use Rattle.key_names.specs.Kernel.Vgetrandom.{Ending, no_bytes, by_batch, by_system, read, failed}
use Rattle.key_names.specs.Callers.VreadSteps.{published_by, is_reached, points_of, ending_shown}
use Rattle.key_names.specs.Transcripts.IsTranscript.{LinesFit, EachCaller, EachAct, EachOfCall, EachLine, CallsMean, CallerMeans}
use Rattle.key_names.specs.Transcripts.IsTranscript.{script_calls, start_setting}
use Rattle.key_names.specs.Callers.Meaning.{caller_start}
use Rattle.key_names.specs.Lanes.Book.{lists_of}
use Rattle.serial_replay.proofs.Callers.{each_caller}
use Rattle.key_names.proofs.Lists.Each.{each_append}
use Rattle.judge_log.specs.declared.said.MadeLine.{MadeLine}
use Rattle.judge_log.specs.Said.{shown_by, SaysIt, itself}
use Rattle.serial_replay.specs.declared.remake.Made.{Made}
use Rattle.serial_replay.specs.Agreement.{AllAgree}
use Rattle.serial_replay.specs.Remade.{said_of_caller, AllMade, made_by}
use Rattle.serial_replay.specs.Written.{IsFor, MayShow}
use Rattle.serial_replay.proofs.Agreement.{all_both, Any, all_any}

-- each line has the word of its event

abbrev ActWord : BoundAct → Type 0
ActWord bound = bound.line.word ≡ InsideWord

abbrev WordIs : Call → Type 0
WordIs (alone event line) = line.word ≡ event_word event
WordIs (vread_call n flags line acts) = (line.word ≡ VreadWord) × AllByRecursion ActWord acts
WordIs (unbound bound) = ActWord bound
WordIs (ending line) = line.word ≡ EndWord

words_from : (c n : ℕ) (w : List BoundAct) (es : List Event) (ls : List SeenLine) → LinesFit c n es ls →
    AllByRecursion ActWord w → AllByRecursion WordIs (calls_from w es ls)
words_from c n w [] [] fit all = tt
words_from c n w [] (l ∷ []) fit all = (fit.word_is, tt)
words_from c n w [] (l ∷ k ∷ ls) fit all = absurd fit
words_from c n w (e ∷ es) [] fit all = tt
words_from c n w (Vread len flags ∷ es) (l ∷ ls) fit all = ((fit.0.word_is, all), words_from c (suc n) [] es ls fit.1 tt)
words_from c n w (Inside point act ∷ es) (l ∷ ls) fit all =
    let bound : BoundAct = record { point = point; act = act; line = l } in
    by (has_vread es) fit.0.word_is
    (words_from c (suc n) (w ++ bound ∷ []) es ls fit.1 (each_append ActWord w (bound ∷ []) all (fit.0.word_is, tt)))
    (words_from c (suc n) w es ls fit.1 all)
  where
    by : (b : Bool) → l.word ≡ InsideWord →
        AllByRecursion WordIs (calls_from (w ++ record { point = point; act = act; line = l } ∷ []) es ls) →
        AllByRecursion WordIs (calls_from w es ls) →
        AllByRecursion WordIs (if b then calls_from (w ++ record { point = point; act = act; line = l } ∷ []) es ls
        else unbound (record { point = point; act = act; line = l }) ∷ calls_from w es ls)
    by true word waits apart = waits
    by false word waits apart = (word, apart)
words_from c n w (e ∷ es) (l ∷ ls) fit all = (fit.0.word_is, words_from c (suc n) w es ls fit.1 all)

-- the data of an event are of a kind that the event's word allows: a number for `bits`, bytes for other words, or no
-- data

bytes_kind : (word : Word) → word ≢ BitsWord → (bs : List ℕ) → IsFor word (bytes_or_none bs)
bytes_kind word other [] = tt
bytes_kind word other (b ∷ bs) = other

bits_kind : (effects : List Effect) → IsFor BitsWord (bits_read effects)
bits_kind [] = tt
bits_kind (at_pool v ∷ []) = refl
bits_kind (at_pool v ∷ d ∷ effects) = tt
bits_kind (looked g ∷ effects) = tt
bits_kind (at_base v ∷ effects) = tt
bits_kind (at_cpu v ∷ effects) = tt
bits_kind (nothing_there ∷ effects) = tt

event_kind : (event : Event) (effects : List Effect) → IsFor (event_word event) (shown_of event effects)
event_kind Bits effects = bits_kind effects
event_kind (Read len flags) effects = bytes_kind (event_word (Read len flags)) (λ e. cc) (served_bytes effects)
event_kind (Dread len flag) effects = bytes_kind (event_word (Dread len flag)) (λ e. cc) (served_bytes effects)
event_kind (Kread len) effects = bytes_kind (event_word (Kread len)) (λ e. cc) (served_bytes effects)
event_kind (Uread len) effects = bytes_kind (event_word (Uread len)) (λ e. cc) (served_bytes effects)
event_kind Int8 effects = bytes_kind (event_word Int8) (λ e. cc) (served_bytes effects)
event_kind Int16 effects = bytes_kind (event_word Int16) (λ e. cc) (served_bytes effects)
event_kind Int32 effects = bytes_kind (event_word Int32) (λ e. cc) (served_bytes effects)
event_kind Int64 effects = bytes_kind (event_word Int64) (λ e. cc) (served_bytes effects)
event_kind _ effects = tt

-- the data of each line of a call are of a kind that the line's word allows

abbrev Kind : SeenLine → LineMeaning → Type 0
Kind line m = IsFor line.word m.shown

kind_of : (line : SeenLine) (word : Word) (shown found : Shown) → line.word ≡ word → found ≡ shown → IsFor word shown →
    IsFor line.word found
kind_of line word shown found w s k =
    subst (λ x. IsFor x found) (sym w) (subst (IsFor word) (sym s) k)

system_kind : (word : Word) → word ≢ BitsWord → (e : Ending) → IsFor word (ending_shown e)
system_kind word other no_bytes = tt
system_kind word other (by_batch bs) = bytes_kind word other bs
system_kind word other (by_system (read bs visit)) = bytes_kind word other bs
system_kind word other (by_system (failed errno)) = tt

act_kind : (set : Setting) (act : InsideAct) (line : SeenLine) (m : LineMeaning) → line.word ≡ InsideWord →
    ActMeans set act m → Kind line m
act_kind set WipeAct line m word means =
    kind_of line InsideWord no_data m.shown word (ap (λ (x : LineMeaning). x.shown) means) tt
act_kind set (VreadAct n) line m word means =
    kind_of line InsideWord (bytes_or_none (served_bytes m.effects)) m.shown word means.2
    (bytes_kind InsideWord (λ e. cc) (served_bytes m.effects))
act_kind set ReseedAct line m word means = kind_of line InsideWord no_data m.shown word means.2 tt

acts_kind : (set : Setting) (reached : BoundAct → Bool) (acts : List BoundAct) (ms : List LineMeaning) →
    AllByRecursion ActWord acts → ActsMean set reached acts ms → EachAct Kind acts ms
acts_kind set reached [] [] words means = tt
acts_kind set reached [] (m ∷ ms) words means = absurd means
acts_kind set reached (bound ∷ acts) [] words means = absurd means
acts_kind set reached (bound ∷ acts) (m ∷ ms) words means =
    (go (reached bound) means.0, acts_kind set reached acts ms words.1 means.1)
  where
    go : (b : Bool) → MatchBool b (ActMeans set bound.act m) (m ≡ unused_line) → Kind bound.line m
    go true done = act_kind set bound.act bound.line m words.0 done
    go false none = kind_of bound.line InsideWord no_data m.shown words.0 (ap (λ (x : LineMeaning). x.shown) none) tt

-- if the list of the acts' meanings is empty, there are no acts, so each act's data are of the right kind
none_kind : (at : ℕ → MadeLine → Type 0) (acts : List BoundAct) (ms : List LineMeaning) → ms ≡ [] → EachAct (SaysIt at) acts ms →
    EachAct Kind acts ms
none_kind at [] [] none says = tt
none_kind at [] (m ∷ ms) none says = absurd says
none_kind at (bound ∷ acts) [] none says = absurd says
none_kind at (bound ∷ acts) (m ∷ ms) none says = cc

module _ (at : ℕ → MadeLine → Type 0) (n flags : ℕ) (line : SeenLine) (acts : List BoundAct) (m : CallMeaning)
    (word : line.word ≡ VreadWord) (words : AllByRecursion ActWord acts) (says : EachAct (SaysIt at) acts m.acts) where
  by_call : ByVgetrandom n flags acts m → Kind line m.own × EachAct Kind acts m.acts
  by_call b = (
    kind_of line VreadWord (ending_shown b.outcome.ending) m.own.shown word b.shown
        (system_kind VreadWord (λ e. cc) b.outcome.ending),
    acts_kind m.before.setting (is_reached (points_of b.steps)) acts m.acts words b.inside,
  )

  by_copy : (rest : List Effect) → ByLocalCopy n rest m → Kind line m.own × EachAct Kind acts m.acts
  by_copy rest b = (
    kind_of line VreadWord (bytes_or_none (copy_bytes (current_state m.before) 0 n)) m.own.shown word b.shown
        (bytes_kind VreadWord (λ e. cc) (copy_bytes (current_state m.before) 0 n)),
    none_kind at acts m.acts b.no_acts says,
  )

  vread_kind : VreadMeans n flags acts m → Kind line m.own × EachAct Kind acts m.acts
  vread_kind v = done_by (tries_local n flags acts) v.done_by
    where
      local : (g : ℕ) (rest : List Effect) (b : Bool) → MatchBool b (ByLocalCopy n rest m) (ByVgetrandom n flags acts m) →
          Kind line m.own × EachAct Kind acts m.acts
      local g rest true copied = by_copy rest copied
      local g rest false called = by_call called

      done_by : (b : Bool) →
          MatchBool b (Looked (LocalOrCall n flags acts m) m.own.effects) (ByVgetrandom n flags acts m) →
          Kind line m.own × EachAct Kind acts m.acts
      done_by true look =
          local look.0 look.1 (serves_locally (published_by look.0) (current_state m.before) n) look.3
      done_by false called = by_call called

call_kind : (at : ℕ → MadeLine → Type 0) (call : Call) (m : CallMeaning) → WordIs call → EachOfCall (SaysIt at) call m →
    Means call m → EachOfCall Kind call m
call_kind at (alone event line) m word says a =
    kind_of line (event_word event) (shown_of event m.own.effects) m.own.shown word a.shown (event_kind event m.own.effects)
call_kind at (vread_call n flags line acts) m word says v =
    vread_kind at n flags line acts m word.0 word.1 says.1 v
call_kind at (unbound bound) m word says u =
    kind_of bound.line InsideWord no_data m.own.shown word (ap (λ (x : LineMeaning). x.shown) u.own) tt
call_kind at (ending line) m word says e = kind_of line EndWord no_data m.own.shown word e.shown tt

calls_kind : (at : ℕ → MadeLine → Type 0) (s : CallerState) (calls : List Call) (ms : List CallMeaning) →
    AllByRecursion WordIs calls → EachLine (SaysIt at) calls ms → CallsMean s calls ms → EachLine Kind calls ms
calls_kind at s [] [] words says means = tt
calls_kind at s [] (m ∷ ms) words says means = absurd says
calls_kind at s (call ∷ calls) [] words says means = absurd says
calls_kind at s (call ∷ calls) (m ∷ ms) words says means = (
  call_kind at call m words.0 says.0 means.1,
  calls_kind at m.after calls ms words.1 says.1 means.2,
)

callers_kind : (saids : ℕ → ℕ → MadeLine → Type 0) (states : ℕ → CallerState) (c : ℕ) (ess : List (List Event))
    (t : List (List SeenLine)) (mss : List (List CallMeaning)) →
    EachCaller (λ c events lines. LinesFit c 0 events lines) c ess t →
    EachCaller (λ c calls ms. EachLine (SaysIt (saids c)) calls ms) c (all_calls ess t) mss →
    EachCaller (λ c calls ms. CallsMean (states c) calls ms) c (all_calls ess t) mss →
    EachCaller (λ c calls ms. EachLine Kind calls ms) c (all_calls ess t) mss
callers_kind saids states c [] [] [] fit says means = tt
callers_kind saids states c [] [] (ms ∷ mss) fit says means = absurd says
callers_kind saids states c [] (lines ∷ t) mss fit says means = absurd fit
callers_kind saids states c (es ∷ ess) [] mss fit says means = absurd fit
callers_kind saids states c (es ∷ ess) (lines ∷ t) [] fit says means = absurd says
callers_kind saids states c (es ∷ ess) (lines ∷ t) (ms ∷ mss) fit says means = (
  calls_kind (saids c) (states c) (calls_of es lines) ms (words_from c 0 [] es lines fit.0 tt) says.0 means.0,
  callers_kind saids states (suc c) ess t mss fit.1 says.1 means.1,
)

pub all_kinds : (script : Script) (t : List (List SeenLine)) (m : Made MadeLine) → AllMade itself script t m →
    AllAgree MayShow (made_by m) t
all_kinds script t m a =
    let calls : List (List Call) = script_calls script t in
    let saids : ℕ → ℕ → MadeLine → Type 0 = said_of_caller itself (made_by m) in
    let states : ℕ → CallerState = λ c. caller_start (start_setting calls c) in
    let means : EachCaller (λ c calls ms. CallsMean (states c) calls ms) 0 calls a.made.meanings =
    each_caller (λ c cs ms. CallerMeans (lists_of a.made.book) (start_setting calls c) cs ms)
    (λ c cs ms. CallsMean (states c) cs ms) (λ c cs ms h. h.follows) 0 calls a.made.meanings a.made.forms.callers in
    let both = all_both itself MayShow Kind Any
    (λ c said line m is s.
    let one : m.shown ≡ shown_by s.is.note.shows = s.shown ∙ ap (λ (x : MadeLine). shown_by x.shows) (sym s.is.noted) in
    ((λ h. subst (IsFor line.word) one h), (λ h. subst (IsFor line.word) (sym one) h)))
    script t a.made.meanings (made_by m) a.made.lines (all_any 0 t) a.says in
    both.0 (callers_kind saids states 0 script.callers t a.made.meanings a.made.lines a.says means)

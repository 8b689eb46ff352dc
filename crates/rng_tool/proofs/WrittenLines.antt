-- The transcript of a script's only caller, up to the line that was written last.
use Rattle.std.proofs.Common.{◌≡◌, ℕ, ◌+◌, ◌≤◌, List, [], ◌∷◌, ◌++◌, drop, get_or, length, refl, sym, ap, ◌∙◌, subst, append_assoc, append-nil, arith}
use Rattle.std.specs.Prelude.{Option, Result, Ok, Err, OnOk, OnErr, is_ok, true, false, ◌<◌, codes}
use Rattle.std.specs.Io.KnownBytes.{Appends}
use Rattle.std.specs.List.{AllByRecursion}
use Rattle.std.proofs.KnownBytes.{Appends-trans}
use Rattle.std.proofs.lemmas.Grind.{flat_map-append}
use Rattle.std.proofs.lemmas.List.{drop_all, drop_more, length-append, take-append-le}
use Rattle.io_edges.specs.Faults.{Rose}
use Rattle.io_edges.specs.Pieces.{AppendsPrefix}
use Rattle.io_edges.specs.declared.edges.Failed.{Failed}
use Rattle.key_names.specs.Transcripts.SeenLine.{SeenLine}
use Rattle.key_names.specs.Texts.ScriptGrammar.{Script, WellFormed}
use Rattle.key_names.specs.Texts.TranscriptGrammar.{LineFits, transcript_text}
use Rattle.transcript_text.specs.Lines.{text_of, whole_line}
use Rattle.transcript_text.proofs.PuttingOn.{breaks_off}
use Rattle.transcript_text.proofs.WholeTexts.{transcript_text-parts}
use Rattle.key_names.specs.declared.events.Event.{Event}
use Rattle.key_names.proofs.Lists.Each.{each_more}
use Rattle.key_names.proofs.Samples.Lines.{AllFit}
use Rattle.caller_run.specs.Alone.{IsGoing, IsLawful}
use Rattle.caller_run.specs.declared.alone.LoneRun.{LoneRun}
use Rattle.caller_run.proofs.Planning.Slots.{fit_long}
use Rattle.rng_tool.specs.Outcome.{RunOf}
use Rattle.tool_ends.specs.Reads.{WasWritten}
use Rattle.rng_tool.proofs.Runs.{run_of, under_own_number}

abbrev Known : Type 0
Known = Option (List ℕ)

-- the text of a transcript's first line, followed by the text of `lines`
abbrev pub text_so_far : List SeenLine → List ℕ
text_so_far lines = codes "rngtranscript 1\n" ++ text_of lines

-- if no put to the sink failed, all of `text` was put; in any case a prefix of `text` was put
pub record Wrote (written : Result (Unit {0}) Failed) (held held_now : Known) (faults faults_now : ℕ) (text : List ℕ)
    : Type 0 where
  pub whole : OnOk written (Appends held held_now text)
  pub prefix : AppendsPrefix held held_now text
  pub cause : OnErr written (Rose faults faults_now)
  pub not_counted : OnOk written (faults_now ≡ faults)

-- ---- putting more text

-- a prefix of a text is also a prefix of a longer text
pub prefix_longer : (a b : Known) (text more : List ℕ) → AppendsPrefix a b text → AppendsPrefix a b (text ++ more)
prefix_longer a b text more p =
    (p.0, omega (arith, p.1, length-append text more), subst (Appends a b) (sym (take-append-le p.0 text more p.1)) p.2)

-- if the sink took `text` and then a prefix of `more`, it took a prefix of `text ++ more`
pub prefix_after : (a b c : Known) (text more : List ℕ) → Appends a b text → AppendsPrefix b c more
    → AppendsPrefix a c (text ++ more)
prefix_after a b c text more first rest =
    breaks_off a b c (text ++ more) more more [] (record { front = text; whole = refl; appends = first })
    (sym (append-nil more)) rest

-- if no put had failed (`w`), the next put appends all of `more`, or fails after a prefix of it
pub wrote_more : (w v : Result (Unit {0}) Failed) (a b c : Known) (f g h : ℕ) (text more : List ℕ) → is_ok w ≡ true
    → Wrote w a b f g text → OnOk v (Appends b c more) → AppendsPrefix b c more → OnErr v (Rose g h) → OnOk v (h ≡ g)
    → Wrote v a c f h (text ++ more)
wrote_more (Err e) v a b c f g h text more ok k whole prefix cause same = cc
wrote_more (Ok u) (Ok v) a b c f g h text more ok k whole prefix cause same = record {
  whole = Appends-trans a b c text more k.whole whole;
  prefix = prefix_after a b c text more k.whole prefix;
  cause = tt;
  not_counted = same ∙ k.not_counted;
}
wrote_more (Ok u) (Err e) a b c f g h text more ok k whole prefix cause same = record {
  whole = tt;
  prefix = prefix_after a b c text more k.whole prefix;
  cause = subst (λ (n : ℕ). Rose n h) k.not_counted cause;
  not_counted = tt;
}

-- if an earlier put failed (`w`), the bytes that were put are a prefix of `text`, and so also of `text ++ more`
pub wrote_no_more : (w : Result (Unit {0}) Failed) (a b : Known) (f g : ℕ) (text more : List ℕ) → is_ok w ≡ false
    → Wrote w a b f g text → Wrote w a b f g (text ++ more)
wrote_no_more (Ok u) a b f g text more failed k = cc
wrote_no_more (Err e) a b f g text more failed k = record {
  whole = tt;
  prefix = prefix_longer a b text more k.prefix;
  cause = k.cause;
  not_counted = tt;
}

-- ---- the output of a run

module _ (script : Script) (a b : Known) (f g : ℕ) (text : List ℕ) (run : RunOf script text) where
  pub was_whole : (w : Result (Unit {0}) Failed) → Wrote w a b f g text → OnOk w (WasWritten (RunOf script) a b)
  was_whole (Ok u) k = (text, run, k.whole)
  was_whole (Err e) k = tt

  pub was_cut : (w : Result (Unit {0}) Failed) → Wrote w a b f g text
      → OnErr w ((text : List ℕ) × RunOf script text × AppendsPrefix a b text)
  was_cut (Ok u) k = tt
  was_cut (Err e) k = (text, run, k.prefix)

  -- let `text` be the output of a run. If the result `v` is a failure, a prefix of `text` was put, whatever the result
  -- `w` is
  pub was_cut_before : (w v : Result (Unit {0}) Failed) → Wrote w a b f g text
      → OnErr v ((text : List ℕ) × RunOf script text × AppendsPrefix a b text)
  was_cut_before w (Ok u) k = tt
  was_cut_before w (Err e) k = (text, run, k.prefix)

-- ---- the events of the run

module _ {script : Script} {run : LoneRun} {lines : List SeenLine} (events : List Event) (i : ℕ) where
  pub next_event : (event : Event) → i < length events → event ≡ get_or events i event
      → IsGoing script (drop i events) run lines → IsGoing script (event ∷ drop (i + 1) events) run lines
  next_event event low is =
      subst (λ (rest : List Event). IsGoing script rest run lines)
      (drop_more events i event low ∙ ap (λ (e : Event). e ∷ drop (i + 1) events) (sym is))

  pub no_event : length events ≤ i → IsGoing script (drop i events) run lines → IsGoing script [] run lines
  no_event last = subst (λ (rest : List Event). IsGoing script rest run lines) (drop_all i events last)

-- ---- the text of the lines so far

pub next_line : (lines : List SeenLine) (line : SeenLine) →
    text_so_far (lines ++ line ∷ []) ≡ text_so_far lines ++ whole_line line
next_line lines line =
    ap (λ (t : List ℕ). codes "rngtranscript 1\n" ++ t)
    (flat_map-append whole_line lines (line ∷ []) ∙ ap (λ (t : List ℕ). text_of lines ++ t) (append-nil (whole_line line)))
    ∙ sym (append_assoc (codes "rngtranscript 1\n") (text_of lines) (whole_line line))

-- suppose that the first lines of a transcript were written. If the next line was written too, all these lines were
-- written; if its write failed, a prefix of them was written
pub wrote_line : {shown : SeenLine} (w v : Result (Unit {0}) Failed) (a b c : Known) (f g h : ℕ) (lines : List SeenLine)
    (line : SeenLine) → is_ok w ≡ true → Wrote w a b f g (text_so_far lines) → shown ≡ line →
    OnOk v (Appends b c (whole_line shown)) → AppendsPrefix b c (whole_line shown) → OnErr v (Rose g h) →
    OnOk v (h ≡ g) → Wrote v a c f h (text_so_far (lines ++ line ∷ []))
wrote_line w v a b c f g h lines line ok k is whole prefix cause same =
    subst (Wrote v a c f h) (sym (next_line lines line))
    (wrote_more w v a b c f g h (text_so_far lines) (whole_line line) ok k
    (subst (λ (l : SeenLine). OnOk v (Appends b c (whole_line l))) is whole)
    (subst (λ (l : SeenLine). AppendsPrefix b c (whole_line l)) is prefix) cause same)

-- if a write failed earlier, what was written is a prefix of the transcript with one more line too
pub wrote_no_line : (w : Result (Unit {0}) Failed) (a b : Known) (f g : ℕ) (lines : List SeenLine) (line : SeenLine) →
    is_ok w ≡ false → Wrote w a b f g (text_so_far lines) → Wrote w a b f g (text_so_far (lines ++ line ∷ []))
wrote_no_line w a b f g lines line failed k =
    subst (Wrote w a b f g) (sym (next_line lines line))
    (wrote_no_more w a b f g (text_so_far lines) (whole_line line) failed k)

last_line : (lines : List SeenLine) → text_so_far lines ++ codes "end\n" ≡ transcript_text (lines ∷ [])
last_line lines =
    append_assoc (codes "rngtranscript 1\n") (text_of lines) (codes "end\n")
    ∙ ap (λ (t : List ℕ). codes "rngtranscript 1\n" ++ t ++ codes "end\n") (sym (append-nil (text_of lines)))
    ∙ sym (transcript_text-parts (lines ∷ []))

some_line : (callers : List (List Event)) (lines : List SeenLine) → AllFit 0 callers (lines ∷ []) → 0 < length lines
some_line [] lines fit = absurd fit
some_line (events ∷ callers) lines fit = fit_long 0 0 events lines fit.0

-- the lines of a lawful transcript, and then the line `end`, are the output of a run
pub alone_run : (script : Script) → WellFormed script → (lines : List SeenLine) → AllByRecursion LineFits lines →
    IsLawful script lines → RunOf script (text_so_far lines ++ codes "end\n")
alone_run script well lines fits is = let fit = is.1.transcript.lines in record {
  lines = lines ∷ [];
  run = run_of script (lines ∷ []) well is;
  written = record {
    fits = record {
      few_callers = omega arith;
      last = some_line script.callers lines fit;
      lines = (fits, tt);
    };
    own = under_own_number 0 script.callers (lines ∷ []) fit;
    spelled = last_line lines;
  };
}

-- if a run is closed, its lines, the caller's last line and the line `end` are together the output of a whole run
pub ended_run : {script : Script} {run : LoneRun} {shown : SeenLine} (lines : List SeenLine) (line : SeenLine) →
    IsGoing script [] run lines → AllByRecursion LineFits lines → shown ≡ line → LineFits shown →
    IsLawful script (lines ++ line ∷ []) → RunOf script (text_so_far (lines ++ line ∷ []) ++ codes "end\n")
ended_run {script = script} lines line g fits is fit lawful =
    alone_run script g.well (lines ++ line ∷ []) (each_more LineFits lines line fits (subst LineFits is fit)) lawful

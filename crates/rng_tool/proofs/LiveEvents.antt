-- What a session writes after one more line of its script.
use Rattle.std.proofs.Common.{◌≡◌, ℕ, ◌+◌, ◌-◌, ◌≤◌, ◌⊎◌, inl, inr, true, false, Option, None, Some, List, [], ◌∷◌, ◌++◌, refl, sym, ap, subst, ◌∙◌, append-nil, length, arith}
use Rattle.std.specs.Prelude.{IsErrAnd, IsSomeAnd, Result, Ok, Err, codes}
use Rattle.std.specs.List.{AllByRecursion}
use Rattle.std.specs.Io.KnownBytes.{Appends}
use Rattle.std.proofs.lemmas.Bool.{cases_Bool}
use Rattle.std.proofs.lemmas.List.{length-append}
use Rattle.io_edges.specs.Pieces.{AppendsPrefix}
use Rattle.key_names.specs.Transcripts.SeenLine.{SeenLine}
use Rattle.key_names.specs.declared.events.Event.{Event}
use Rattle.key_names.specs.declared.faults.ScriptFault.{ScriptFault}
use Rattle.key_names.specs.Texts.ScriptFaults.{has_orphan, script_of_draft, with_event}
use Rattle.key_names.specs.Texts.ScriptGrammar.{Script}
use Rattle.key_names.specs.Texts.TranscriptGrammar.{LineFits}
use Rattle.key_names.proofs.Lists.Each.{each_more}
use Rattle.caller_run.specs.Alone.{HasMade, IsGoing, IsEmittedOnce}
use Rattle.caller_run.specs.declared.alone.LoneRun.{LoneRun}
use Rattle.event_script.specs.Progress.{ForkNone, GoesOnFrom, IsEnded, IsFaulty, IsLone, IsOpen}
use Rattle.event_script.specs.Tally.{fork_in}
use Rattle.event_script.specs.Waiting.{IsWaiting}
use Rattle.event_script.specs.declared.progress.DraftView.{DraftView}
use Rattle.event_script.specs.declared.whole.stage.ScriptStage.TheVariants.{Version}
use Rattle.event_script.proofs.GoingOn.{lone_blocks, well_formed}
use Rattle.transcript_text.specs.Lines.{whole_line}
use Rattle.tool_ends.proofs.Endings.{appends_kept}
use Rattle.rng_tool.specs.LiveSteps.{At, Ends, GoesTo, HasRun, HasEmitted, IsAt, IsPart, Opens, RunsAt, StopsAt, TellsAll, WaitsAt, Writes}
use Rattle.rng_tool.specs.declared.stop.Stop.{Stop}
use Rattle.rng_tool.specs.declared.stop.Stop.TheVariants.{ReadFault, WriteFault, NoMemory, Refused, NotAlone}
use Rattle.rng_tool.specs.declared.session_writer.SessionWriter.{SessionWriter}
use Rattle.rng_tool.proofs.LiveGoes.{AddsEvent, AllBy, adds_event, doomed_run, ended_runs, ended_waits, faulty_all, goes_to_end, goes_to_run, has_begun, has_ended, tells_all, tells_part, waits_on}
use Rattle.rng_tool.proofs.LiveLines.{event_dooms, forks_or_acts, shows_event, emitted_unforked}
use Rattle.rng_tool.proofs.LiveRuns.{going, one_emitted}
use Rattle.rng_tool.proofs.LiveTexts.{lined_up, no_bytes}
use Rattle.rng_tool.proofs.WrittenLines.{next_line}

-- ---- what the contracts of `SessionWriter` need

pub starts : WaitsAt [] []
starts = record {
  nothing = refl;
  unopened = λ front rest is goes. absurd (omega (arith, ap length is, length-append front (10 ∷ rest)));
  front = [];
  rest = [];
  parts = refl;
  clean = no_bytes;
  whole = inl refl;
  waits = inl (record { stage = Version; is_head = tt; goes_on = λ later. refl });
}

pub none_of : {A : Type 0} (o : Option A) → ((x : A) → o ≡ Some x → ⊥) → o ≡ None
none_of None never = refl
none_of (Some x) never = absurd (never x refl)

some_of : {A : Type 0} (P : A → Type 0) (o : Option A) → IsSomeAnd o P → (x : A) × (o ≡ Some x) × P x
some_of P None is = absurd is
some_of P (Some x) is = (x, refl, is)

pub cut_writes : (result : Result (Unit {0}) Stop) (held held_now : Option (List ℕ)) (text : List ℕ)
    → IsErrAnd result (λ stop. stop ≡ WriteFault) → AppendsPrefix held held_now text → Writes result held held_now text
cut_writes (Ok u) held held_now text is prefix = absurd is
cut_writes (Err stop) held held_now text is prefix =
    subst (λ s. Writes (Err s) held held_now text) (sym is) prefix

pub at_open : (t : SessionWriter) (text emitted : List ℕ) → IsAt text emitted t → t.is_over ≡ false → At false t.run text emitted
at_open t text emitted at is = subst (λ b. At b t.run text emitted) is at

-- ---- after a line that adds no event

pub waits_goes : (t : SessionWriter) (text line emitted : List ℕ) (start held : Option (List ℕ)) → IsAt text emitted t
    → t.is_over ≡ false → IsPart line → IsWaiting (lined_up text line) → Appends start held emitted
    → GoesTo (Ok tt) start held (lined_up text line) t
waits_goes t text line emitted start held at unended clean waits before = record {
  emitted = emitted;
  is = subst (λ b. At b t.run (lined_up text line) emitted) (sym unended)
      (waits_on text line clean t.run emitted (at_open t text emitted at unended) waits);
  written = before;
}

all_open : (t : SessionWriter) (text emitted : List ℕ) → t.is_over ≡ false → AllBy false t.run text emitted → TellsAll text emitted t
all_open t text emitted unended all = tells_all text emitted t (subst (λ b. AllBy b t.run text emitted) (sym unended) all)

pub faulty_goes : (t : SessionWriter) (text line emitted : List ℕ) (start held : Option (List ℕ)) (fault : ScriptFault)
    → IsAt text emitted t → t.is_over ≡ false → IsPart line → IsFaulty (lined_up text line) fault → Appends start held emitted
    → StopsAt (Refused fault) start held (lined_up text line) t
faulty_goes t text line emitted start held fault at unended clean faulty before = record {
  emitted = emitted;
  is = (
    record {
      all = λ more. all_open t (lined_up text line ++ more) emitted unended
          (faulty_all text line clean fault faulty t.run emitted more (at_open t text emitted at unended));
    },
    record { front = lined_up text line; rest = []; parts = sym (append-nil (lined_up text line)); is = faulty },
  );
  written = before;
}

-- ---- after the line `end`

pub end_by : (run : Option LoneRun) (result : Result (Unit {0}) Stop) (next : SessionWriter) (text line emitted : List ℕ)
    (start held held_now : Option (List ℕ)) (view : DraftView) → At false run text emitted → IsPart line
    → IsEnded (lined_up text line) view
    → ((script : Script) (lines : List SeenLine) → IsSomeAnd run (λ r. IsGoing script [] r lines)
    → Ends script lines result held held_now)
    → Appends start held emitted → next.is_over ≡ true → next.run ≡ None
    → GoesTo result start held_now (lined_up text line) next
end_by None result next text line emitted start held held_now view at clean ended ends before over none =
    absurd (ended_waits text line clean emitted view at ended)
end_by (Some run) result next text line emitted start held held_now view r clean ended ends before over none =
    let h = r.has in
    let end = ends (script_of_draft h.draft) h.lines (going r.front emitted run h) in
    goes_to_end result start held held_now (lined_up text line) emitted (whole_line end.0 ++ codes "end\n") next before end.3
    over none
    (has_ended r.front emitted (lined_up text line) run h end.0 (ended_runs text line clean run emitted view r ended) ended.short
    end.1 end.2)

-- ---- after the third line of the script, which opens the run

open_with : (result : Result (Unit {0}) Stop) (run_after : Option LoneRun) (next : SessionWriter) (text line emitted : List ℕ)
    (start held held_now : Option (List ℕ)) (view : DraftView) (clean : IsPart line) (w : WaitsAt text emitted)
    (o : IsOpen (lined_up text line) view) → next.is_over ≡ false → next.run ≡ run_after
    → IsSomeAnd run_after (λ r. HasMade view.cpus [] r []) → Writes result held held_now (codes "rngtranscript 1\n")
    → Appends start held emitted → GoesTo result start held_now (lined_up text line) next
open_with result run_after next text line emitted start held held_now view clean w o over is made wrote before =
    let some = some_of (λ r. HasMade view.cpus [] r []) run_after made in
    goes_to_run result start held held_now (lined_up text line) emitted (codes "rngtranscript 1\n") next some.0 before wrote
    over (is ∙ some.1) (has_begun text line clean emitted view o w some.0 some.2)

pub open_by : (result : Result (Unit {0}) Stop) (t next : SessionWriter) (text line emitted : List ℕ)
    (start held held_now : Option (List ℕ)) (view : DraftView) → IsAt text emitted t → t.is_over ≡ false → t.run ≡ None
    → IsPart line → IsOpen (lined_up text line) view → Opens view.cpus result t.run next.run held held_now
    → next.is_over ≡ t.is_over → Appends start held emitted → GoesTo result start held_now (lined_up text line) next
open_by result t next text line emitted start held held_now view at unended none clean o opened over before =
    by_result result opened
  where
    w : WaitsAt text emitted
    w = subst (λ r. At false r text emitted) none (at_open t text emitted at unended)

    by_result : (r : Result (Unit {0}) Stop) → Opens view.cpus r t.run next.run held held_now
        → GoesTo r start held_now (lined_up text line) next
    by_result (Ok u) both =
        open_with (Ok u) next.run next text line emitted start held held_now view clean w o (over ∙ unended) refl both.0 both.1
        before
    by_result (Err WriteFault) both =
        open_with (Err WriteFault) next.run next text line emitted start held held_now view clean w o (over ∙ unended) refl
        both.0 both.1 before
    by_result (Err NoMemory) both = record {
      emitted = emitted;
      is = tells_part (lined_up text line) emitted next (
        [],
        lined_up text line,
        refl,
        subst (λ b. HasEmitted b next.run [] emitted) (sym (over ∙ unended))
            (subst (λ r. HasEmitted false r [] emitted) (sym (both.0 ∙ none)) w.nothing),
      );
      written = appends_kept start held held_now emitted before both.1;
    }
    by_result (Err ReadFault) both = absurd both.1
    by_result (Err (Refused fault)) both = absurd both.1
    by_result (Err (NotAlone number)) both = absurd both.1

-- ---- after the line of an event

last_same : (xs ys : List Event) (x y : Event) → xs ++ x ∷ [] ≡ ys ++ y ∷ [] → x ≡ y
last_same [] [] x y is = cc
last_same [] (b ∷ ys) x y is = absurd (omega (arith, ap length is, length-append ys (y ∷ [])))
last_same (a ∷ xs) [] x y is = absurd (omega (arith, ap length is, length-append xs (x ∷ [])))
last_same (a ∷ xs) (b ∷ ys) x y is = last_same xs ys x y (let tails : xs ++ x ∷ [] ≡ ys ++ y ∷ [] = cc in tails)

module _ (text line : List ℕ) (clean : IsPart line) (emitted : List ℕ) (view : DraftView) (o : IsOpen (lined_up text line) view)
    (run : LoneRun) (r : RunsAt run text emitted) where
  whole_text : List ℕ
  whole_text = lined_up text line

  added : AddsEvent text line clean emitted view o run r.front r.has
  added = adds_event text line clean emitted view o run r

  pub number_some : 1 ≤ view.number
  number_some = let number = added.number in omega (arith, number)

  module _ (front : List Event) (event : Event) (none : view.has_orphan ≡ false) (once : IsEmittedOnce event)
      (shown : view.events.now ≡ front ++ event ∷ []) where
    -- the draft (the script so far) that the reader has is the draft of the run with the new event
    seen : (o.draft.version ≡ r.has.draft.version) × (o.draft.cpus ≡ r.has.draft.cpus) × (o.draft.done ≡ [])
        × (o.draft.events ≡ r.has.draft.events ++ added.event ∷ [])
    seen = shows_event (lined_up text line) r.has.draft o.draft added.event (r.has.next + 1) view.number r.has.lone
        added.goes o.goes_on (sym o.seen.orphan ∙ none)

    same : event ≡ added.event
    same = last_same front r.has.draft.events event added.event (sym shown ∙ o.seen.events ∙ seen.3)

    events_are : o.draft.events ≡ r.has.draft.events ++ event ∷ []
    events_are = seen.3 ∙ ap (λ e. r.has.draft.events ++ e ∷ []) (sym same)

    lone_now : IsLone o.draft
    lone_now = record {
      first = seen.2;
      forks = subst ForkNone (sym events_are)
          (each_more (λ e. fork_in e ≡ None) r.has.draft.events event r.has.lone.forks (emitted_unforked event once));
    }

    once_now : AllByRecursion IsEmittedOnce o.draft.events
    once_now = subst (AllByRecursion IsEmittedOnce) (sym events_are)
        (each_more IsEmittedOnce r.has.draft.events event r.has.once once)

    pub can_make : IsGoing (script_of_draft o.draft) (event ∷ []) run r.has.lines
    can_make = r.has.made (script_of_draft o.draft) (event ∷ [])
        (well_formed (lined_up text line) o.draft view.number o.goes_on (lone_blocks o.draft lone_now) o.room)
        (one_emitted o.draft lone_now once_now) seen.1
        (rw seen.2 (ap (λ e. e ∷ []) events_are))

    pub has_made : (run_now : LoneRun) (last : SeenLine) → LineFits last
        → HasMade r.has.draft.cpus (r.has.draft.events ++ event ∷ []) run_now (r.has.lines ++ last ∷ [])
        → HasRun (lined_up text line) (emitted ++ whole_line last) run_now
    has_made run_now last fits made = record {
      draft = o.draft;
      next = view.number;
      goes = o.goes_on;
      lone = lone_now;
      once = once_now;
      room = o.room;
      lines = r.has.lines ++ last ∷ [];
      fit = each_more LineFits r.has.lines last r.has.fit fits;
      made = subst (λ n. HasMade n o.draft.events run_now (r.has.lines ++ last ∷ [])) (sym seen.1)
          (subst (λ e. HasMade r.has.draft.cpus e run_now (r.has.lines ++ last ∷ [])) (sym events_are) made);
      text = ap (λ t. t ++ whole_line last) r.has.text ∙ sym (next_line r.has.lines last);
    }

  -- ---- after the line of a fork, or of an act inside a vgetrandom call

  not_once : (view.has_orphan ≡ true)
      ⊎ ((front : List Event) (event : Event) → view.events.now ≡ front ++ event ∷ [] → IsEmittedOnce event → ⊥)
      → IsEmittedOnce added.event → ⊥
  not_once (inl orphan) once =
      forks_or_acts (lined_up text line) r.has.draft o.draft added.event (r.has.next + 1) view.number r.has.lone added.goes
      o.goes_on (sym o.seen.orphan ∙ orphan) once
  not_once (inr acts) once = elim (cases_Bool (has_orphan o.draft)) [
    | inl orphan ↦
        forks_or_acts (lined_up text line) r.has.draft o.draft added.event (r.has.next + 1) view.number r.has.lone
        added.goes o.goes_on orphan once
    | inr whole ↦
        acts r.has.draft.events added.event
        (o.seen.events ∙ (shows_event (lined_up text line) r.has.draft o.draft added.event (r.has.next + 1) view.number
        r.has.lone added.goes o.goes_on whole).3) once
  ]

  pub not_alone : (t : SessionWriter) (start held : Option (List ℕ)) → t.is_over ≡ false → t.run ≡ Some run
      → (view.has_orphan ≡ true)
      ⊎ ((front : List Event) (event : Event) → view.events.now ≡ front ++ event ∷ [] → IsEmittedOnce event → ⊥)
      → Appends start held emitted → StopsAt (NotAlone (view.number - 1)) start held (lined_up text line) t
  not_alone t start held unended is why before = record {
    emitted = emitted;
    is = (
      record {
        all = λ more. all_open t (lined_up text line ++ more) emitted unended
            (subst (λ x. AllBy false x (lined_up text line ++ more) emitted) (sym is)
            (doomed_run text line clean run emitted more r (λ s later script one.
            not_once why (event_dooms (lined_up text line) later r.has.draft added.event (r.has.next + 1) s added.goes script
            one))));
      },
      record {
        front = lined_up text line;
        rest = [];
        parts = sym (append-nil (lined_up text line));
        draft = r.has.draft;
        event = added.event;
        goes = subst (λ n. GoesOnFrom (lined_up text line) (with_event r.has.draft added.event) n)
            (let number = added.number in let same : r.has.next + 1 ≡ view.number - 1 + 1 = omega (arith, number) in same)
            added.goes;
        not_once = not_once why;
      },
    );
    written = before;
  }

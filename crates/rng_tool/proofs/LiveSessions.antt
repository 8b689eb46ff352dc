-- A session over a whole input: each line in a piece of the input, each piece, and then the end of the input.
use Rattle.std.proofs.Common.{◌≡◌, ℕ, ◌<◌, ◌≤◌, ◌⊎◌, inl, inr, Bool, true, false, Option, None, Some, List, [], ◌∷◌, ◌++◌, sym, ap, subst, ◌∙◌, append_assoc, append-nil, length, arith}
use Rattle.std.specs.Prelude.{IsErrAnd, Result, Ok, Err}
use Rattle.std.specs.Io.KnownBytes.{Appends, Consumes}
use Rattle.std.proofs.KnownBytes.{Consumes-trans}
use Rattle.std.proofs.lemmas.Bool.{cases_lt}
use Rattle.std.proofs.lemmas.List.{length-append}
use Rattle.key_names.specs.declared.faults.ScriptFault.{ScriptFault}
use Rattle.key_names.specs.Texts.ScriptFaults.{Draft, nothing_after, parts, script_from, script_of_draft}
use Rattle.key_names.specs.Texts.ScriptGrammar.{IsScript, Script}
use Rattle.key_names.proofs.Script.FieldReaders.{same_ok, step_ok}
use Rattle.key_names.proofs.Script.Parts.{parts_whole}
use Rattle.caller_run.specs.declared.alone.LoneRun.{LoneRun}
use Rattle.event_script.specs.Feeding.{HasFed}
use Rattle.event_script.specs.Progress.{GoesOnFrom, IsProgress}
use Rattle.event_script.specs.Waiting.{IsWaiting}
use Rattle.event_script.specs.declared.progress.ScriptProgress.{ScriptProgress}
use Rattle.event_script.specs.declared.progress.ScriptProgress.TheVariants.{Waits}
use Rattle.tool_ends.specs.Reads.{WasRead}
use Rattle.tool_ends.proofs.Taking.{long_read}
use Rattle.rng_tool.specs.LiveOutcome.{FailsAtEnd, FailsInside, IsNotAlone, EmittedAll, EmittedPart, EmittedWhole}
use Rattle.rng_tool.specs.LiveSteps.{At, CountsReadStop, EndedAt, Finishes, GoesTo, IsAt, IsFaultyIn, IsPart, IsStuck, ReadsLine, SessionAt, SessionEnds, SessionGoes, SessionReads, StoppedAt, StopsAt, StopsBy, TakesText, TellsAll, TellsOn, TellsPart, WaitsAt}
use Rattle.rng_tool.specs.declared.live.Session.{Session}
use Rattle.rng_tool.specs.declared.stop.Stop.{Stop}
use Rattle.rng_tool.specs.declared.stop.Stop.TheVariants.{ReadFault, WriteFault, NoMemory, Refused, NotAlone}
use Rattle.rng_tool.specs.declared.session_writer.SessionWriter.{SessionWriter}
use Rattle.rng_tool.proofs.Inputs.{too_long}
use Rattle.rng_tool.proofs.LiveGoes.{PartBy, all_at, at_more, part_at, part_more, tells_all, tells_part}
use Rattle.rng_tool.proofs.LiveLines.{Awaited, FirstLine, SecondLine, ThirdLine, awaits, goes_from, script_lines_again}
use Rattle.rng_tool.proofs.LiveRuns.{CanClose, Closes, can_close, closed_all, closed_part}
use Rattle.rng_tool.proofs.LiveTexts.{line_and_more, more_in_rest}

-- ---- reading one line

pub reads_line : (text line emitted piece : List ℕ) (progress : ScriptProgress) (t : SessionWriter) → IsAt text emitted t → t.is_over ≡ false
    → IsPart line → piece ≡ line ++ 10 ∷ [] → IsProgress (text ++ piece) progress
    → (progress ≡ Waits → IsWaiting (text ++ piece)) → ReadsLine text line emitted progress t
reads_line text line emitted piece progress t at unended clean is shown waits = record {
  at = at;
  goes_on = unended;
  clean = clean;
  shown = subst (λ p. IsProgress (text ++ p) progress) is shown;
  waits = λ same. subst (λ p. IsWaiting (text ++ p)) is (waits same);
}

pub memory_goes : (result : Result (Unit {0}) Stop) (start held : Option (List ℕ)) (text emitted : List ℕ) (s : Session)
    → IsErrAnd result (λ stop. stop ≡ NoMemory) → PartBy s.session_writer.is_over s.session_writer.run text emitted → Appends start held emitted
    → SessionGoes result start held text s
memory_goes (Ok u) start held text emitted s is part before = absurd is
memory_goes (Err stop) start held text emitted s is part before =
    subst (λ x. StopsAt x start held text s.session_writer) (sym is)
    (record { emitted = emitted; is = tells_part text emitted s.session_writer part; written = before })

pub line_goes : (result : Result (Unit {0}) Stop) (start held : Option (List ℕ)) (text : List ℕ) (s : Session)
    → GoesTo result start held text s.session_writer → HasFed text s.reader → SessionGoes result start held text s
line_goes (Ok u) start held text s goes fed = record {
  emitted = goes.emitted;
  is = record { fed = fed; at = goes.is };
  written = goes.written;
}
line_goes (Err stop) start held text s goes fed = goes

-- ---- a session that has read a part of a piece

part_stays : (text more emitted : List ℕ) (t : SessionWriter) → TellsPart text emitted t → TellsPart (text ++ more) emitted t
part_stays text more emitted t p = record {
  front = p.front;
  rest = p.rest ++ more;
  parts = more_in_rest text p.front p.rest more p.parts;
  has = p.has;
}

on_stays : (text more emitted : List ℕ) (t : SessionWriter) → TellsOn text emitted t → TellsOn (text ++ more) emitted t
on_stays text more emitted t on = record {
  all = λ later. subst (λ x. TellsAll x emitted t) (sym (append_assoc text more later)) (on.all (more ++ later));
}

faulty_stays : (text more : List ℕ) (fault : ScriptFault) → IsFaultyIn text fault → IsFaultyIn (text ++ more) fault
faulty_stays text more fault f = record {
  front = f.front;
  rest = f.rest ++ more;
  parts = more_in_rest text f.front f.rest more f.parts;
  is = f.is;
}

line_stays : (text more : List ℕ) (number : ℕ) → IsNotAlone text number → IsNotAlone (text ++ more) number
line_stays text more number n = record {
  front = n.front;
  rest = n.rest ++ more;
  parts = more_in_rest text n.front n.rest more n.parts;
  draft = n.draft;
  event = n.event;
  goes = n.goes;
  not_once = n.not_once;
}

-- if a session stopped after `text`, it also counts as stopped after `text ++ more`
pub stop_stays : (stop : Stop) (start held : Option (List ℕ)) (text more : List ℕ) (t : SessionWriter)
    → StopsAt stop start held text t → StopsAt stop start held (text ++ more) t
stop_stays ReadFault start held text more t s = s
stop_stays WriteFault start held text more t s =
    record { emitted = s.emitted; is = part_stays text more s.emitted t s.is; written = s.written }
stop_stays NoMemory start held text more t s =
    record { emitted = s.emitted; is = part_stays text more s.emitted t s.is; written = s.written }
stop_stays (Refused fault) start held text more t s = record {
  emitted = s.emitted;
  is = (on_stays text more s.emitted t s.is.0, faulty_stays text more fault s.is.1);
  written = s.written;
}
stop_stays (NotAlone number) start held text more t s = record {
  emitted = s.emitted;
  is = (on_stays text more s.emitted t s.is.0, line_stays text more number s.is.1);
  written = s.written;
}

-- if a session stops at a line inside `piece`, it stops in `piece`
pub stop_of_piece : (result : Result (Unit {0}) Stop) (stop : Stop) (start held : Option (List ℕ))
    (text piece front more : List ℕ) (s : Session) → IsErrAnd result (λ x. x ≡ stop) → piece ≡ front ++ more
    → StopsAt stop start held (text ++ front) s.session_writer → SessionGoes result start held (text ++ piece) s
stop_of_piece (Ok u) stop start held text piece front more s is parts stops = absurd is
stop_of_piece (Err x) stop start held text piece front more s is parts stops =
    subst (λ y. StopsAt y start held (text ++ piece) s.session_writer) (sym is)
    (subst (λ y. StopsAt stop start held y s.session_writer)
    (append_assoc text front more ∙ ap (λ y. text ++ y) (sym parts))
    (stop_stays stop start held (text ++ front) more s.session_writer stops))

-- after the next line `line` of a piece, the session has read `done ++ line` of this piece
pub line_read : (start held : Option (List ℕ)) (text done line : List ℕ) (s : Session)
    → StopsBy (λ emitted. SessionAt ((text ++ done) ++ line) emitted s) (Appends start held)
    → StopsBy (λ emitted. SessionAt (text ++ (done ++ line)) emitted s) (Appends start held)
line_read start held text done line s goes = record {
  emitted = goes.emitted;
  is = subst (λ t. SessionAt t goes.emitted s) (append_assoc text done line) goes.is;
  written = goes.written;
}

pub piece_part : (is_over : Bool) (run : Option LoneRun) (text piece done more emitted : List ℕ) → piece ≡ done ++ more
    → At is_over run (text ++ done) emitted → PartBy is_over run (text ++ piece) emitted
piece_part is_over run text piece done more emitted parts at =
    subst (λ t. PartBy is_over run t emitted) (append_assoc text done more ∙ ap (λ t. text ++ t) (sym parts))
    (part_more is_over run (text ++ done) more emitted (part_at is_over run (text ++ done) emitted at))

pub piece_over : (s : Session) (text piece done more emitted : List ℕ) → piece ≡ done ++ more
    → (s.session_writer.is_over ≡ true) ⊎ IsPart more → At s.session_writer.is_over s.session_writer.run (text ++ done) emitted
    → HasFed ((text ++ done) ++ more) s.reader → SessionAt (text ++ piece) emitted s
piece_over s text piece done more emitted parts free at fed =
    subst (λ t. SessionAt t emitted s) (append_assoc text done more ∙ ap (λ t. text ++ t) (sym parts))
    (record { fed = fed; at = at_more s.session_writer.is_over s.session_writer.run (text ++ done) more emitted free at })

pub read_stops : (result : Result (Unit {0}) Stop) (stop : Stop) (start held : Option (List ℕ)) (text : List ℕ) (t : SessionWriter)
    (f g : ℕ) → IsErrAnd result (λ x. x ≡ stop) → StopsAt stop start held text t → g ≡ f → CountsReadStop result f g
read_stops (Ok u) stop start held text t f g is stops same = absurd is
read_stops (Err x) stop start held text t f g is stops same = record {
  read_fault = λ fault.
      let both : stop ≡ ReadFault = (let one = fault in let other = is in cc) in
      absurd (subst (λ y. StopsAt y start held text t) both stops);
  no_read_fault = λ none. same;
}

-- ---- the text that a session takes from its source

pub stopped : (stop : Stop) (start held : Option (List ℕ)) (text : List ℕ) (t : SessionWriter) → StopsAt stop start held text t
    → StoppedAt stop start held text t
stopped ReadFault start held text t s = absurd s
stopped WriteFault start held text t s = s
stopped NoMemory start held text t s = s
stopped (Refused fault) start held text t s = s
stopped (NotAlone number) start held text t s = s

pub stops_reading : (result : Result (Unit {0}) Stop) (stop : Stop) (left left_after start held : Option (List ℕ))
    (text : List ℕ) (s : Session) → IsErrAnd result (λ x. x ≡ stop) → TakesText left left_after text
    → StoppedAt stop start held text s.session_writer → SessionReads result left left_after start held s
stops_reading (Ok u) stop left left_after start held text s is takes stops = absurd is
stops_reading (Err x) stop left left_after start held text s is takes stops =
    subst (λ y. SessionReads (Err y) left left_after start held s) (sym is) (text, takes, stops)

-- let `text` and then `piece` be taken from a source. If they have together at most one byte more than a script may
-- have, `TakesText` holds of `text ++ piece`
pub more_taken : (left now after : Option (List ℕ)) (text piece : List ℕ) → Consumes left now text → Consumes now after piece
    → length (text ++ piece) ≤ 16777217 → TakesText left after (text ++ piece)
more_taken left now after text piece before read few =
    let all = Consumes-trans left now after text piece before read in record {
      taken = record { read = all; few = few };
      long = λ many. long_read 16777216 left after (text ++ piece) all (omega (arith, many, few));
    }

-- ---- closing the run of a session

tells_close : (text emitted : List ℕ) (t : SessionWriter) → TellsPart text emitted t → CanClose t.run
tells_close text emitted t p = can_close t.is_over t.run p.front emitted p.has

all_close : (text emitted : List ℕ) (t : SessionWriter) → TellsAll text emitted t → CanClose t.run
all_close text emitted t p = can_close t.is_over t.run p.front emitted p.has

stops_close : (stop : Stop) (start held : Option (List ℕ)) (text : List ℕ) (t : SessionWriter) → StoppedAt stop start held text t
    → CanClose t.run
stops_close ReadFault start held text t s = all_close text s.emitted t s.is
stops_close WriteFault start held text t s = tells_close text s.emitted t s.is
stops_close NoMemory start held text t s = tells_close text s.emitted t s.is
stops_close (Refused fault) start held text t s = all_close (text ++ []) s.emitted t (s.is.0.all [])
stops_close (NotAlone number) start held text t s = all_close (text ++ []) s.emitted t (s.is.0.all [])

pub reads_close : (result : Result (Unit {0}) Stop) (left left_after start held : Option (List ℕ)) (s : Session)
    → SessionReads result left left_after start held s → CanClose s.session_writer.run
reads_close (Ok u) left left_after start held s reads =
    let goes = reads.3 in
    let p = part_at s.session_writer.is_over s.session_writer.run reads.0 goes.emitted goes.is.at in
    can_close s.session_writer.is_over s.session_writer.run p.0 goes.emitted p.3
reads_close (Err stop) left left_after start held s reads = stops_close stop start held reads.0 s.session_writer reads.2

-- ---- the output of a session that stopped

part_emitted : (text emitted : List ℕ) (t : SessionWriter) → Closes t.run → TellsPart text emitted t → EmittedPart text emitted
part_emitted text emitted t closes p = record {
  front = p.front;
  rest = p.rest;
  parts = p.parts;
  emitted = closed_part t.is_over t.run p.front emitted p.has closes;
}

all_emitted : (text emitted : List ℕ) (t : SessionWriter) → Closes t.run → TellsAll text emitted t → EmittedAll text emitted
all_emitted text emitted t closes p = closed_all t.is_over t.run text p.front p.rest emitted p.parts p.has p.all closes

on_emitted : (text emitted : List ℕ) (t : SessionWriter) → Closes t.run → TellsOn text emitted t → EmittedAll text emitted
on_emitted text emitted t closes on =
    all_emitted text emitted t closes (subst (λ x. TellsAll x emitted t) (append-nil text) (on.all []))

fault_emitted : (left left_after : Option (List ℕ)) (text : List ℕ) (fault : ScriptFault) → TakesText left left_after text
    → IsFaultyIn text fault → FailsInside text fault ⊎ FailsAtEnd left left_after text fault
fault_emitted left left_after text fault takes f =
    elim (cases_lt 16777216 (length f.front)) [
      | inr short ↦
          inl (record { front = f.front; rest = f.rest; parts = f.parts; fails = f.is.short (omega (arith, short)) })
      | inl long ↦
          let many : 16777216 < length text = omega (arith, long, ap length f.parts, length-append f.front f.rest) in
          inr (record {
            read = takes.long many;
            first = too_long text many ∙ ap (λ (x : ScriptFault). Some x) (sym (f.is.long long));
          })
    ]

module _ (left left_after start held : Option (List ℕ)) (t : SessionWriter) (closes : Closes t.run) where
  pub stop_ends : (stop : Stop) (text : List ℕ) → TakesText left left_after text → StoppedAt stop start held text t
      → SessionEnds (Err stop) left left_after start held
  stop_ends ReadFault text takes s = record {
    text = text;
    output = s.emitted;
    taken = takes.taken;
    is = all_emitted text s.emitted t closes s.is;
    written = s.written;
  }
  stop_ends WriteFault text takes s = record {
    text = text;
    output = s.emitted;
    taken = takes.taken;
    is = inl (part_emitted text s.emitted t closes s.is);
    written = s.written;
  }
  stop_ends NoMemory text takes s = record {
    text = text;
    output = s.emitted;
    taken = takes.taken;
    is = part_emitted text s.emitted t closes s.is;
    written = s.written;
  }
  stop_ends (Refused fault) text takes s = record {
    text = text;
    output = s.emitted;
    taken = takes.taken;
    is = record {
      all = on_emitted text s.emitted t closes s.is.0;
      fails = fault_emitted left left_after text fault takes s.is.1;
    };
    written = s.written;
  }
  stop_ends (NotAlone number) text takes s = record {
    text = text;
    output = s.emitted;
    taken = takes.taken;
    is = record { all = on_emitted text s.emitted t closes s.is.0; not_alone = s.is.1 };
    written = s.written;
  }

-- ---- a session at the end of its input

-- a text that ends with an incomplete line is no script
bare_part : (next : Awaited) (rest : List ℕ) (s : Script) → goes_from next (rest ∷ []) ≡ Ok s → ⊥
bare_part FirstLine rest s e = cc
bare_part (SecondLine version) rest s e = cc
bare_part (ThirdLine version cpus) rest s e = cc

part_from : (d : Draft) (n : ℕ) (rest : List ℕ) (s : Script) → script_from d n (rest ∷ []) ≡ Ok s → ⊥
unfolding script_from
part_from d n rest s e = cc

goes_no_script : (text front rest : List ℕ) (d : Draft) (n : ℕ) (s : Script) → text ≡ front ++ rest → IsPart rest
    → GoesOnFrom front d n → IsScript s text → ⊥
goes_no_script text front rest d n s split part goes is =
    part_from d n rest s
    (ap (script_from d n) (sym (parts_whole 10 rest part)) ∙ sym (goes rest)
    ∙ script_lines_again s (front ++ rest) (subst (IsScript s) split is))

waits_no_script : (text emitted : List ℕ) (s : Script) (w : WaitsAt text emitted) → IsScript s text → IsWaiting w.front → ⊥
waits_no_script text emitted s w is (inl before) =
    let a = awaits w.front before in
    bare_part a.next w.rest s
    (ap (goes_from a.next) (sym (parts_whole 10 w.rest w.clean)) ∙ sym (a.goes w.rest)
    ∙ script_lines_again s (w.front ++ w.rest) (subst (IsScript s) w.parts is))
waits_no_script text emitted s w is (inr full) =
    goes_no_script text w.front w.rest full.draft full.number s w.parts w.clean full.goes_on is

stuck_no_script : (text front rest : List ℕ) (s : Script) → text ≡ front ++ rest → IsStuck front rest → IsScript s text → ⊥
stuck_no_script text front rest s split stuck is =
    stuck.hopeless s stuck.more
    (subst (IsScript s) (split ∙ ap (λ t. front ++ t) stuck.is ∙ sym (line_and_more front stuck.line stuck.more)) is)

whole_of_ended : (run : Option _) (text emitted : List ℕ) (s : Script) → EndedAt run text emitted → IsScript s text
    → EmittedWhole text emitted
whole_of_ended run text emitted s e is =
    let h = e.has in
    let again = sym (h.ends e.rest) ∙ script_lines_again s (e.front ++ e.rest) (subst (IsScript s) e.parts is) in
    let step = step_ok (nothing_after h.next (parts 10 e.rest)) (λ none. Ok (script_of_draft h.draft)) s again in
    let same = same_ok {E = ScriptFault} (script_of_draft h.draft) s step.2 in
    record {
      script = script_of_draft h.draft;
      is_script = subst (λ x. IsScript x text) (sym same) is;
      one = h.one;
      run = h.run;
    }

whole_at : (is_over : Bool) (run : Option _) (text emitted : List ℕ) (s : Script) → At is_over run text emitted → IsScript s text
    → EmittedWhole text emitted
whole_at true run text emitted s at is = whole_of_ended run text emitted s at is
whole_at false None text emitted s w is = absurd (waits_no_script text emitted s w is w.waits)
whole_at false (Some run) text emitted s r is = by_rest r.rest_is
  where
    by_rest : IsPart r.rest ⊎ IsStuck r.front r.rest → EmittedWhole text emitted
    by_rest (inl part) =
        absurd (goes_no_script text r.front r.rest r.has.draft r.has.next s r.parts part r.has.goes is)
    by_rest (inr stuck) = absurd (stuck_no_script text r.front r.rest s r.parts stuck is)

taken_all : (left left_after : Option (List ℕ)) (text : List ℕ) → WasRead 16777216 left left_after text
    → length text ≤ 16777217 → TakesText left left_after text
taken_all left left_after text read few = record {
  taken = record { read = read.read; few = few };
  long = λ many. read;
}

module _ (left left_after start held : Option (List ℕ)) (s : Session) (closes : Closes s.session_writer.run) (text : List ℕ)
    (read : WasRead 16777216 left left_after text) (few : length text ≤ 16777217)
    (goes : SessionGoes (Ok tt) start held text s) where
  -- if `result` is right for the whole input `text` (a script, or a text with a first fault), the session ends as
  -- `SessionEnds` states
  pub finish_ends : (result : Result (Unit {0}) Stop) → Finishes text result
      → SessionEnds result left left_after start held
  finish_ends (Ok u) found =
      let whole = whole_at s.session_writer.is_over s.session_writer.run text goes.emitted found.0 goes.is.at found.1 in
      let short = found.1.well_formed.text in record {
        input = text;
        output = goes.emitted;
        read = read;
        whole = read.whole (omega (arith, short, ap length found.1.spelt));
        is = whole;
        written = goes.written;
      }
  finish_ends (Err (Refused fault)) first =
      let all = all_at s.session_writer.is_over s.session_writer.run text goes.emitted goes.is.at in record {
        text = text;
        output = goes.emitted;
        taken = record { read = read.read; few = few };
        is = record {
          all = all_emitted text goes.emitted s.session_writer closes (tells_all text goes.emitted s.session_writer all);
          fails = inr (record { read = read; first = first });
        };
        written = goes.written;
      }
  finish_ends (Err NoMemory) none =
      let part = part_at s.session_writer.is_over s.session_writer.run text goes.emitted goes.is.at in record {
        text = text;
        output = goes.emitted;
        taken = record { read = read.read; few = few };
        is = part_emitted text goes.emitted s.session_writer closes (tells_part text goes.emitted s.session_writer part);
        written = goes.written;
      }
  finish_ends (Err ReadFault) none = absurd none
  finish_ends (Err WriteFault) none = absurd none
  finish_ends (Err (NotAlone number)) none = absurd none

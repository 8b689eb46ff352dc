-- After one more line of its script, a session waits for the next line, or has stopped as `StopsAt` states.
use Rattle.std.proofs.Common.{◌≡◌, ℕ, ◌+◌, ◌<◌, ◌≤◌, ◌⊎◌, inl, inr, Bool, true, false, Option, None, Some, List, [], ◌∷◌, ◌++◌, refl, sym, ap, subst, ◌∙◌, append_assoc, append-nil, length, arith}
use Rattle.std.specs.Prelude.{Result, Ok, Err, codes}
use Rattle.std.specs.Io.KnownBytes.{Appends}
use Rattle.std.proofs.KnownBytes.{Appends-trans}
use Rattle.std.proofs.lemmas.Bool.{cases_lt}
use Rattle.std.proofs.lemmas.List.{length-append}
use Rattle.key_names.specs.Transcripts.SeenLine.{SeenLine}
use Rattle.key_names.specs.declared.events.Event.{Event}
use Rattle.key_names.specs.declared.faults.ScriptFault.{ScriptFault}
use Rattle.key_names.specs.Texts.ScriptFaults.{Draft, script_of_draft, with_event}
use Rattle.key_names.specs.Texts.ScriptGrammar.{IsScript, Script}
use Rattle.key_names.specs.Texts.TranscriptGrammar.{LineFits}
use Rattle.key_names.proofs.Lists.Each.{each_more}
use Rattle.caller_run.specs.Alone.{HasMade, IsLawful, IsEmittedByOne}
use Rattle.caller_run.specs.declared.alone.LoneRun.{LoneRun}
use Rattle.event_script.specs.Feeding.{IsWhole}
use Rattle.event_script.specs.Progress.{EndsWith, GoesOnFrom, IsEnded, IsFaulty, IsLone, IsOpen}
use Rattle.event_script.specs.Waiting.{IsWaiting}
use Rattle.event_script.specs.declared.progress.DraftView.{DraftView}
use Rattle.event_script.proofs.GoingOn.{ended_is, lone_blocks, same_draft, same_number, well_formed}
use Rattle.transcript_text.specs.Lines.{whole_line}
use Rattle.rng_tool.specs.LiveOutcome.{GoesOn}
use Rattle.rng_tool.specs.LiveSteps.{At, GoesTo, HasEnded, HasRun, HasEmitted, IsAllEmitted, IsHopeless, IsLast, IsPart, IsStuck, IsUnopened, RunsAt, TellsAll, TellsPart, WaitsAt, Writes, begun}
use Rattle.rng_tool.specs.Outcome.{RunOf}
use Rattle.rng_tool.specs.declared.stop.Stop.{Stop}
use Rattle.rng_tool.specs.declared.stop.Stop.TheVariants.{ReadFault, WriteFault, NoMemory, Refused, NotAlone}
use Rattle.rng_tool.specs.declared.session_writer.SessionWriter.{SessionWriter}
use Rattle.rng_tool.proofs.LiveLines.{Awaits, HeadTurn, Turn, awaits, awaits_not_ends, awaits_not_fails, awaits_not_goes, fails, fails_hopeless, fails_not_ends, fails_not_goes, fails_on, goes_not_ends, goes_on, head_turn, line_ends, line_fails, line_tells, opens, turn}
use Rattle.rng_tool.proofs.LiveRoom.{full_hopeless}
use Rattle.rng_tool.proofs.LiveRuns.{one_emitted}
use Rattle.rng_tool.proofs.LiveTexts.{first_feed, line_and_more, line_in_rest, lined_up, longer_part, more_in_rest, no_bytes, no_feed, unopened_line, unopened_more, unopened_whole}
use Rattle.rng_tool.proofs.WrittenLines.{alone_run, next_line, prefix_after}

-- ---- texts that begin no script of one caller

too_long : (text more : List ℕ) (s : Script) → IsScript s (text ++ more) → 16777216 < length text → ⊥
too_long text more s is long =
    let short = is.well_formed.text in
    absurd (omega (arith, short, ap length is.spelt, long, length-append text more))

faulty_hopeless : (text : List ℕ) (fault : ScriptFault) → IsFaulty text fault → IsHopeless text
faulty_hopeless text fault faulty = λ s more is.
    elim (cases_lt 16777216 (length text)) [
      | inl long ↦ too_long text more s is long
      | inr short ↦ fails_hopeless text more fault s (faulty.short (omega (arith, short))) is
    ]

-- if no script of one caller begins with `front` and `line`, none begins with `front`, `line` and whole lines after
-- `line`
last_by : (front line more : List ℕ) → IsPart line
    → ((s : Script) (later : List ℕ) → IsScript s (lined_up front line ++ later) → IsEmittedByOne s → ⊥)
    → IsLast front (line ++ 10 ∷ more)
last_by front line more clean doomed = λ other rest is begun_by.
    let found = first_feed line more other rest clean is in
    let all : front ++ other ++ 10 ∷ [] ≡ lined_up front line ++ found.0 =
    append_assoc front other (10 ∷ []) ∙ ap (λ t. front ++ t) found.1 ∙ sym (line_and_more front line found.0) in
    doomed begun_by.script (found.0 ++ begun_by.more)
    (subst (IsScript begun_by.script) (ap (λ t. t ++ begun_by.more) all
    ∙ append_assoc (lined_up front line) found.0 begun_by.more) begun_by.is_script)
    begun_by.one

stuck_more : (front rest more : List ℕ) → IsStuck front rest → IsStuck front (rest ++ more)
stuck_more front rest more stuck = record {
  line = stuck.line;
  more = stuck.more ++ more;
  is = ap (λ t. t ++ more) stuck.is ∙ append_assoc stuck.line (10 ∷ stuck.more) more;
  clean = stuck.clean;
  hopeless = stuck.hopeless;
  full = stuck.full;
}

stuck_last : (front rest : List ℕ) → IsStuck front rest → IsLast front rest
stuck_last front rest stuck = subst (IsLast front) (sym stuck.is)
    (last_by front stuck.line stuck.more stuck.clean (λ s later is one. stuck.hopeless s later is))

-- ---- what was written for a part of the text

abbrev pub PartBy : Bool → Option LoneRun → List ℕ → List ℕ → Type 0
PartBy is_over run text emitted =
    (front : List ℕ) × (rest : List ℕ) × (text ≡ front ++ rest) × HasEmitted is_over run front emitted

abbrev pub AllBy : Bool → Option LoneRun → List ℕ → List ℕ → Type 0
AllBy is_over run text emitted =
    (front : List ℕ) × (rest : List ℕ) × (text ≡ front ++ rest) × HasEmitted is_over run front emitted
    × IsAllEmitted is_over run front rest

pub tells_part : (text emitted : List ℕ) (t : SessionWriter) → PartBy t.is_over t.run text emitted → TellsPart text emitted t
tells_part text emitted t p = record { front = p.0; rest = p.1; parts = p.2; has = p.3 }

pub tells_all : (text emitted : List ℕ) (t : SessionWriter) → AllBy t.is_over t.run text emitted → TellsAll text emitted t
tells_all text emitted t p = record { front = p.0; rest = p.1; parts = p.2; has = p.3; all = p.4 }

pub part_at : (is_over : Bool) (run : Option LoneRun) (text emitted : List ℕ) → At is_over run text emitted
    → PartBy is_over run text emitted
part_at true run text emitted at = (at.front, at.rest, at.parts, (at.none, at.has))
part_at false None text emitted at = ([], text, refl, at.nothing)
part_at false (Some run) text emitted at = (at.front, at.rest, at.parts, at.has)

pub part_more : (is_over : Bool) (run : Option LoneRun) (text more emitted : List ℕ) → PartBy is_over run text emitted
    → PartBy is_over run (text ++ more) emitted
part_more is_over run text more emitted p = (p.0, p.1 ++ more, more_in_rest text p.0 p.1 more p.2, p.3)

rest_last : (front rest : List ℕ) → IsPart rest ⊎ IsStuck front rest → IsLast front rest
rest_last front rest (inl part) = λ line more is begun_by. no_feed rest line more part is
rest_last front rest (inr stuck) = stuck_last front rest stuck

pub all_at : (is_over : Bool) (run : Option LoneRun) (text emitted : List ℕ) → At is_over run text emitted
    → AllBy is_over run text emitted
all_at true run text emitted at = (at.front, at.rest, at.parts, (at.none, at.has), tt)
all_at false None text emitted at = ([], text, refl, at.nothing, at.unopened)
all_at false (Some run) text emitted at = (at.front, at.rest, at.parts, at.has, rest_last at.front at.rest at.rest_is)

pub at_more : (is_over : Bool) (run : Option LoneRun) (text more emitted : List ℕ) → (is_over ≡ true) ⊎ IsPart more
    → At is_over run text emitted → At is_over run (text ++ more) emitted
at_more true run text more emitted free at = record {
  front = at.front;
  rest = at.rest ++ more;
  parts = more_in_rest text at.front at.rest more at.parts;
  none = at.none;
  has = at.has;
}
at_more false run text more emitted (inl never) at = absurd cc
at_more false None text more emitted (inr part) at = record {
  nothing = at.nothing;
  unopened = unopened_more text more part at.unopened;
  front = at.front;
  rest = at.rest ++ more;
  parts = more_in_rest text at.front at.rest more at.parts;
  clean = longer_part at.rest more at.clean part;
  whole = at.whole;
  waits = at.waits;
}
at_more false (Some run) text more emitted (inr part) at = record {
  front = at.front;
  rest = at.rest ++ more;
  parts = more_in_rest text at.front at.rest more at.parts;
  has = at.has;
  rest_is = rest_on at.rest_is;
}
  where
    rest_on : IsPart at.rest ⊎ IsStuck at.front at.rest → IsPart (at.rest ++ more) ⊎ IsStuck at.front (at.rest ++ more)
    rest_on (inl clean) = inl (longer_part at.rest more clean part)
    rest_on (inr stuck) = inr (stuck_more at.front at.rest more stuck)

-- ---- the text with one more line

module _ (text line : List ℕ) (clean : IsPart line) where
  whole_now : IsWhole (lined_up text line)
  whole_now = inr (text ++ line, sym (append_assoc text line (10 ∷ [])))

  -- if `text` ends with `rest`, the first part of the line that `line` completes, the script fails, ends or goes on
  -- after this line
  turn_now : (front rest : List ℕ) (d : Draft) (n : ℕ) → text ≡ front ++ rest → IsPart rest → IsLone d
      → GoesOnFrom front d n → Turn (lined_up text line) d n
  turn_now front rest d n parts part lone goes =
      subst (λ t. Turn t d n) (sym (line_in_rest text front rest line parts))
      (turn front (rest ++ line) d n (longer_part rest line part clean) lone goes)

  head_now : (front rest : List ℕ) → text ≡ front ++ rest → IsPart rest → Awaits front → HeadTurn (lined_up text line)
  head_now front rest parts part a =
      subst HeadTurn (sym (line_in_rest text front rest line parts))
      (head_turn front (rest ++ line) (longer_part rest line part clean) a)

  full_now : IsWaiting (lined_up text line) → (Awaits (lined_up text line) → ⊥)
      → IsHopeless (lined_up text line) × (16777216 < length (lined_up text line) + 4)
  full_now (inl before) none = absurd (none (awaits (lined_up text line) before))
  full_now (inr full) none =
      (full_hopeless (lined_up text line) full.draft full.number full.goes_on whole_now full.full, full.full)

  turn_not_awaits : (d : Draft) (n : ℕ) → Turn (lined_up text line) d n → Awaits (lined_up text line) → ⊥
  turn_not_awaits d n (line_fails fault fail) a = awaits_not_fails (lined_up text line) fault a fail
  turn_not_awaits d n (line_ends ends) a = awaits_not_ends (lined_up text line) d (n + 1) a ends
  turn_not_awaits d n (line_tells event goes) a = awaits_not_goes (lined_up text line) (with_event d event) (n + 1) a goes

  stuck_now : (front rest : List ℕ) → text ≡ front ++ rest → IsPart rest
      → IsHopeless (lined_up text line) × (16777216 < length (lined_up text line) + 4)
      → IsStuck front (rest ++ (line ++ 10 ∷ []))
  stuck_now front rest parts part full =
      let same = line_in_rest text front rest line parts in record {
        line = rest ++ line;
        more = [];
        is = sym (append_assoc rest line (10 ∷ []));
        clean = longer_part rest line part clean;
        hopeless = subst IsHopeless same full.0;
        full = subst (λ t. 16777216 < length t + 4) same full.1;
      }

  -- ---- a line after which the reader waits for more

  runs_on : (run : LoneRun) (emitted : List ℕ) (r : RunsAt run text emitted) → IsWaiting (lined_up text line)
      → IsPart r.rest ⊎ IsStuck r.front r.rest → IsStuck r.front (r.rest ++ (line ++ 10 ∷ []))
  runs_on run emitted r waits (inl part) =
      let h = r.has in
      let t = turn_now r.front r.rest h.draft h.next r.parts part h.lone h.goes in
      stuck_now r.front r.rest r.parts part (full_now waits (turn_not_awaits h.draft h.next t))
  runs_on run emitted r waits (inr stuck) = stuck_more r.front r.rest (line ++ 10 ∷ []) stuck

  not_open : IsWaiting (lined_up text line) → GoesOn (lined_up text line) → ⊥
  not_open (inl before) goes =
      awaits_not_goes (lined_up text line) goes.draft goes.next (awaits (lined_up text line) before) goes.goes
  not_open (inr full) goes = let room = goes.room in absurd (omega (arith, full.full, room))

  pub waits_on : (run : Option LoneRun) (emitted : List ℕ) → At false run text emitted → IsWaiting (lined_up text line)
      → At false run (lined_up text line) emitted
  waits_on None emitted w waits = record {
    nothing = w.nothing;
    unopened = unopened_whole text line clean w.unopened (not_open waits);
    front = lined_up text line;
    rest = [];
    parts = sym (append-nil (lined_up text line));
    clean = no_bytes;
    whole = whole_now;
    waits = waits;
  }
  waits_on (Some run) emitted r waits = record {
    front = r.front;
    rest = r.rest ++ (line ++ 10 ∷ []);
    parts = more_in_rest text r.front r.rest (line ++ 10 ∷ []) r.parts;
    has = r.has;
    rest_is = inr (runs_on run emitted r waits r.rest_is);
  }

  -- ---- a line after which no script of one caller is possible

  -- if no script of one caller begins with `text` and `line`, none begins with `front` and then one or more whole lines
  last_now : (front rest more : List ℕ) → text ≡ front ++ rest → IsPart rest ⊎ IsStuck front rest
      → ((s : Script) (later : List ℕ) → IsScript s (lined_up text line ++ later) → IsEmittedByOne s → ⊥)
      → IsLast front (rest ++ (line ++ 10 ∷ more))
  last_now front rest more parts (inl part) doomed =
      subst (IsLast front) (append_assoc rest line (10 ∷ more))
      (last_by front (rest ++ line) more (longer_part rest line part clean)
      (subst (λ t. (s : Script) (later : List ℕ) → IsScript s (t ++ later) → IsEmittedByOne s → ⊥)
      (line_in_rest text front rest line parts) doomed))
  last_now front rest more parts (inr stuck) doomed = stuck_last front (rest ++ (line ++ 10 ∷ more))
      (stuck_more front rest (line ++ 10 ∷ more) stuck)

  pub doomed_run : (run : LoneRun) (emitted more : List ℕ) → RunsAt run text emitted
      → ((s : Script) (later : List ℕ) → IsScript s (lined_up text line ++ later) → IsEmittedByOne s → ⊥)
      → AllBy false (Some run) (lined_up text line ++ more) emitted
  doomed_run run emitted more r doomed = (
    r.front,
    r.rest ++ (line ++ 10 ∷ more),
    line_and_more text line more ∙ more_in_rest text r.front r.rest (line ++ 10 ∷ more) r.parts,
    r.has,
    last_now r.front r.rest more r.parts r.rest_is doomed,
  )

  faulty_not_open : (fault : ScriptFault) → IsFaulty (lined_up text line) fault → (mid : List ℕ)
      → GoesOn (text ++ (line ++ 10 ∷ mid)) → ⊥
  faulty_not_open fault faulty mid goes =
      let same = line_and_more text line mid in
      let room = goes.room in
      let short : length (lined_up text line) ≤ 16777216 =
      omega (arith, room, ap length same, length-append (lined_up text line) mid) in
      fails_not_goes (lined_up text line ++ mid) fault goes.draft goes.next
      (fails_on (lined_up text line) mid fault (faulty.short short))
      (subst (λ t. GoesOnFrom t goes.draft goes.next) (sym same) goes.goes)

  pub faulty_all : (fault : ScriptFault) → IsFaulty (lined_up text line) fault → (run : Option LoneRun)
      (emitted more : List ℕ) → At false run text emitted → AllBy false run (lined_up text line ++ more) emitted
  faulty_all fault faulty None emitted more w = (
    [],
    lined_up text line ++ more,
    refl,
    w.nothing,
    subst IsUnopened (sym (line_and_more text line more))
        (unopened_line text line more clean w.unopened (faulty_not_open fault faulty)),
  )
  faulty_all fault faulty (Some run) emitted more r =
      doomed_run run emitted more r (λ s later is one. faulty_hopeless (lined_up text line) fault faulty s later is)

  -- ---- the line `end` of the script

  pub ended_waits : (emitted : List ℕ) (view : DraftView) → (w : WaitsAt text emitted) → IsEnded (lined_up text line) view → ⊥
  ended_waits emitted view w e = by_waiting w.waits
    where
      by_turn : HeadTurn (lined_up text line) → ⊥
      by_turn (fails fault fail) = fails_not_ends (lined_up text line) fault e.draft view.number fail e.ends
      by_turn (goes_on a) = awaits_not_ends (lined_up text line) e.draft view.number a e.ends
      by_turn (opens start goes done events) =
          goes_not_ends (lined_up text line) start e.draft 4 view.number goes e.ends

      by_waiting : IsWaiting w.front → ⊥
      by_waiting (inl before) = by_turn (head_now w.front w.rest w.parts w.clean (awaits w.front before))
      by_waiting (inr full) =
          full_hopeless w.front full.draft full.number full.goes_on w.whole full.full (script_of_draft e.draft)
          (w.rest ++ (line ++ 10 ∷ []))
          (subst (IsScript (script_of_draft e.draft)) (more_in_rest text w.front w.rest (line ++ 10 ∷ []) w.parts)
          (ended_is (lined_up text line) e.draft view.number e.ends e.short))

  pub ended_runs : (run : LoneRun) (emitted : List ℕ) (view : DraftView) (r : RunsAt run text emitted)
      → IsEnded (lined_up text line) view → EndsWith (lined_up text line) r.has.draft (r.has.next + 1)
  ended_runs run emitted view r e = by_rest r.rest_is
    where
      by_turn : Turn (lined_up text line) r.has.draft r.has.next → EndsWith (lined_up text line) r.has.draft (r.has.next + 1)
      by_turn (line_fails fault fail) =
          absurd (fails_not_ends (lined_up text line) fault e.draft view.number fail e.ends)
      by_turn (line_ends ends) = ends
      by_turn (line_tells event goes) =
          absurd (goes_not_ends (lined_up text line) (with_event r.has.draft event) e.draft (r.has.next + 1) view.number
          goes e.ends)

      by_rest : IsPart r.rest ⊎ IsStuck r.front r.rest → EndsWith (lined_up text line) r.has.draft (r.has.next + 1)
      by_rest (inl part) =
          by_turn (turn_now r.front r.rest r.has.draft r.has.next r.parts part r.has.lone r.has.goes)
      by_rest (inr stuck) =
          let on = stuck_more r.front r.rest (line ++ 10 ∷ []) stuck in
          absurd (on.hopeless (script_of_draft e.draft) on.more
          (subst (IsScript (script_of_draft e.draft))
          (more_in_rest text r.front r.rest (line ++ 10 ∷ []) r.parts ∙ ap (λ t. r.front ++ t) on.is
          ∙ sym (line_and_more r.front on.line on.more))
          (ended_is (lined_up text line) e.draft view.number e.ends e.short)))

-- ---- the output of a session whose run has ended

ended_text : (emitted : List ℕ) (lines : List SeenLine) (last : SeenLine) → emitted ≡ begun lines
    → begun (lines ++ last ∷ []) ++ codes "end\n" ≡ emitted ++ (whole_line last ++ codes "end\n")
ended_text emitted lines last is =
    ap (λ t. t ++ codes "end\n") (next_line lines last) ∙ append_assoc (begun lines) (whole_line last) (codes "end\n")
    ∙ ap (λ t. t ++ (whole_line last ++ codes "end\n")) (sym is)

pub has_ended : (front emitted text : List ℕ) (run : LoneRun) (h : HasRun front emitted run) (last : SeenLine)
    → EndsWith text h.draft (h.next + 1) → length text ≤ 16777216
    → IsLawful (script_of_draft h.draft) (h.lines ++ last ∷ []) → LineFits last
    → HasEnded text (emitted ++ (whole_line last ++ codes "end\n"))
has_ended front emitted text run h last ends short lawful fits = record {
  draft = h.draft;
  next = h.next + 1;
  ends = ends;
  short = short;
  one = one_emitted h.draft h.lone h.once;
  run = subst (RunOf (script_of_draft h.draft)) (ended_text emitted h.lines last h.text)
      (alone_run (script_of_draft h.draft) (well_formed front h.draft h.next h.goes (lone_blocks h.draft h.lone) h.room)
      (h.lines ++ last ∷ []) (each_more LineFits h.lines last h.fit fits) lawful);
}

-- if the sink got `emitted` and then `more`, it got `emitted ++ more`
written_more : (start held held_now : Option (List ℕ)) (emitted more : List ℕ) → Appends start held emitted
    → Appends held held_now more → Appends start held_now (emitted ++ more)
written_more start held held_now emitted more before now = Appends-trans start held held_now emitted more before now

at_end : (t : SessionWriter) (text emitted : List ℕ) → t.is_over ≡ true → t.run ≡ None → HasEnded text emitted
    → At t.is_over t.run text emitted
at_end t text emitted over none ended =
    subst (λ b. At b t.run text emitted) (sym over)
    (record { front = text; rest = []; parts = sym (append-nil text); none = none; has = ended })

part_end : (t : SessionWriter) (text emitted : List ℕ) → t.is_over ≡ true → t.run ≡ None → HasEnded text emitted
    → PartBy t.is_over t.run text emitted
part_end t text emitted over none ended =
    part_at t.is_over t.run text emitted (at_end t text emitted over none ended)

pub goes_to_end : (result : Result (Unit {0}) Stop) (start held held_now : Option (List ℕ)) (text emitted more : List ℕ)
    (t : SessionWriter) → Appends start held emitted → Writes result held held_now more → t.is_over ≡ true → t.run ≡ None
    → HasEnded text (emitted ++ more) → GoesTo result start held_now text t
goes_to_end (Ok u) start held held_now text emitted more t before now over none ended = record {
  emitted = emitted ++ more;
  is = at_end t text (emitted ++ more) over none ended;
  written = written_more start held held_now emitted more before now;
}
goes_to_end (Err WriteFault) start held held_now text emitted more t before now over none ended = record {
  emitted = emitted ++ more;
  is = tells_part text (emitted ++ more) t (part_end t text (emitted ++ more) over none ended);
  written = prefix_after start held held_now emitted more before now;
}
goes_to_end (Err ReadFault) start held held_now text emitted more t before now over none ended = absurd now
goes_to_end (Err NoMemory) start held held_now text emitted more t before now over none ended = absurd now
goes_to_end (Err (Refused fault)) start held held_now text emitted more t before now over none ended = absurd now
goes_to_end (Err (NotAlone number)) start held held_now text emitted more t before now over none ended = absurd now

-- ---- a line at which the run is open

at_run : (t : SessionWriter) (run : LoneRun) (text emitted : List ℕ) → t.is_over ≡ false → t.run ≡ Some run → HasRun text emitted run
    → At t.is_over t.run text emitted
at_run t run text emitted over is has =
    subst (λ b. At b t.run text emitted) (sym over) (subst (λ r. At false r text emitted) (sym is) (record {
      front = text;
      rest = [];
      parts = sym (append-nil text);
      has = has;
      rest_is = inl no_bytes;
    }))

pub goes_to_run : (result : Result (Unit {0}) Stop) (start held held_now : Option (List ℕ)) (text emitted more : List ℕ)
    (t : SessionWriter) (run : LoneRun) → Appends start held emitted → Writes result held held_now more → t.is_over ≡ false
    → t.run ≡ Some run → HasRun text (emitted ++ more) run → GoesTo result start held_now text t
goes_to_run (Ok u) start held held_now text emitted more t run before now over is has = record {
  emitted = emitted ++ more;
  is = at_run t run text (emitted ++ more) over is has;
  written = written_more start held held_now emitted more before now;
}
goes_to_run (Err WriteFault) start held held_now text emitted more t run before now over is has = record {
  emitted = emitted ++ more;
  is = tells_part text (emitted ++ more) t (part_at t.is_over t.run text (emitted ++ more)
      (at_run t run text (emitted ++ more) over is has));
  written = prefix_after start held held_now emitted more before now;
}
goes_to_run (Err ReadFault) start held held_now text emitted more t run before now over is has = absurd now
goes_to_run (Err NoMemory) start held held_now text emitted more t run before now over is has = absurd now
goes_to_run (Err (Refused fault)) start held held_now text emitted more t run before now over is has = absurd now
goes_to_run (Err (NotAlone number)) start held held_now text emitted more t run before now over is has = absurd now

-- ---- the third line of the script, which opens the run

module _ (text line : List ℕ) (clean : IsPart line) (emitted : List ℕ) (view : DraftView) (o : IsOpen (lined_up text line) view)
  where
    -- at the third line of the script, the draft (the script so far) has no finished caller and no event
    pub opens_waits : (w : WaitsAt text emitted) → (o.draft.done ≡ []) × (o.draft.events ≡ [])
    opens_waits w = by_waiting w.waits
      where
        by_turn : HeadTurn (lined_up text line) → (o.draft.done ≡ []) × (o.draft.events ≡ [])
        by_turn (fails fault fail) =
            absurd (fails_not_goes (lined_up text line) fault o.draft view.number fail o.goes_on)
        by_turn (goes_on a) = absurd (awaits_not_goes (lined_up text line) o.draft view.number a o.goes_on)
        by_turn (opens start goes done events) =
            let same = same_draft (lined_up text line) start o.draft 4 view.number goes o.goes_on
            (record { first = done; forks = rw events tt }) in
            (ap (λ (d : Draft). d.done) same ∙ done, ap (λ (d : Draft). d.events) same ∙ events)

        by_waiting : IsWaiting w.front → (o.draft.done ≡ []) × (o.draft.events ≡ [])
        by_waiting (inl before) = by_turn (head_now text line clean w.front w.rest w.parts w.clean (awaits w.front before))
        by_waiting (inr full) =
            let room = o.room in
            absurd (omega (
              arith,
              full.full,
              room,
              ap length w.parts,
              length-append w.front w.rest,
              length-append text (line ++ 10 ∷ []),
            ))

    pub has_begun : (w : WaitsAt text emitted) (run : LoneRun) → HasMade view.cpus [] run []
        → HasRun (lined_up text line) (emitted ++ codes "rngtranscript 1\n") run
    has_begun w run made =
        let empty = opens_waits w in record {
          draft = o.draft;
          next = view.number;
          goes = o.goes_on;
          lone = record { first = empty.0; forks = rw empty.1 tt };
          once = rw empty.1 tt;
          room = o.room;
          lines = [];
          fit = tt;
          made = subst (λ n. HasMade n o.draft.events run []) o.seen.cpus
              (subst (λ e. HasMade view.cpus e run []) (sym empty.1) made);
          text = ap (λ t. t ++ codes "rngtranscript 1\n") w.nothing;
        }

    -- ---- a line that adds an event

    -- the event that the line adds
    pub record AddsEvent (r : LoneRun) (front : List ℕ) (h : HasRun front emitted r) : Type 0 where
      pub event : Event
      pub goes : GoesOnFrom (lined_up text line) (with_event h.draft event) (h.next + 1)
      pub number : view.number ≡ h.next + 1

    pub adds_event : (run : LoneRun) (r : RunsAt run text emitted) → AddsEvent run r.front r.has
    adds_event run r = by_rest r.rest_is
      where
        by_turn : Turn (lined_up text line) r.has.draft r.has.next → AddsEvent run r.front r.has
        by_turn (line_fails fault fail) =
            absurd (fails_not_goes (lined_up text line) fault o.draft view.number fail o.goes_on)
        by_turn (line_ends ends) =
            absurd (goes_not_ends (lined_up text line) o.draft r.has.draft view.number (r.has.next + 1) o.goes_on ends)
        by_turn (line_tells event goes) = record {
          event = event;
          goes = goes;
          number = same_number (lined_up text line) o.draft (with_event r.has.draft event) view.number (r.has.next + 1)
              o.goes_on goes;
        }

        by_rest : IsPart r.rest ⊎ IsStuck r.front r.rest → AddsEvent run r.front r.has
        by_rest (inl part) =
            by_turn (turn_now text line clean r.front r.rest r.has.draft r.has.next r.parts part r.has.lone r.has.goes)
        by_rest (inr stuck) =
            let on = stuck_more r.front r.rest (line ++ 10 ∷ []) stuck in
            let room = o.room in
            let whole = more_in_rest text r.front r.rest (line ++ 10 ∷ []) r.parts ∙ ap (λ t. r.front ++ t) on.is
            ∙ sym (line_and_more r.front on.line on.more) in
            absurd (omega (arith, on.full, room, ap length whole, length-append (lined_up r.front on.line) on.more))

use Rattle.key_names.specs.Transcripts.IsTranscript.{script_calls}
use Rattle.key_audit.specs.Asked.{line_end}
use Rattle.key_audit.specs.Live.{calls_cut, cut_at, lists_at_stamp}
use Rattle.key_audit.specs.declared.until.Until.TheVariants.{Stamp, Call}
use Rattle.key_audit.proofs.Ends.{after_listed, found_end, live_listed}
use Rattle.key_audit.proofs.answer.listed_text.Goals as goal

pub returns-in-Keys : goal.returns-in-Keys
returns-in-Keys c t of ms lawful keeps there =
    rw c.in-Keys.is (c.keys_text.ensures t (script_calls c.args.script.now t) of ms keeps)

pub returns-in-Live : goal.returns-in-Live
returns-in-Live c t of ms lawful keeps there =
    let callers = script_calls c.args.script.now t in
    let stamp = c.in-Live.stamp in
    rw c.in-Live.is (live_listed (lists_at_stamp stamp callers of ms) callers of ms c.live_text.result
    (c.moments_hold_unused.ensures c.args.script.now t of ms stamp (calls_cut (cut_at (Stamp stamp)) callers) lawful)
    (c.live_text.ensures t callers of ms keeps))

pub returns-in-LiveAfter : goal.returns-in-LiveAfter
returns-in-LiveAfter c t of ms lawful keeps there =
    let callers = script_calls c.args.script.now t in
    let line = c.in-LiveAfter.line in
    let found = found_end (line_end callers line) (rw c.in-LiveAfter.is at there) in
    rw c.in-LiveAfter.is (after_listed line found.0 callers of ms c.after_text.result found.1
    (c.moments_hold_unused.ensures c.args.script.now t of ms found.0.stamp
    (calls_cut (cut_at (Call found.0.stamp line.caller found.0.call)) callers) lawful)
    (c.after_text.ensures t callers of ms keeps found.0 found.1))

pub returns-in-Line : goal.returns-in-Line
returns-in-Line c t of ms lawful keeps there =
    rw c.in-Line.is (c.sources_text.ensures t (script_calls c.args.script.now t) of ms keeps)

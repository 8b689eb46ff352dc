use Rattle.std.proofs.Common.{ap}
use Rattle.key_names.specs.Transcripts.SeenLine.{shown_in}
use Rattle.transcript_text.specs.Gathered.{Gathered}
use Rattle.transcript_text.proofs.Keeping.{kept_bytes, kept_read_pushed, seen_read_pushed}
use Rattle.transcript_text.proofs.caller_lines.CallerLines.push_read.Goals as goal

pub invariant_of-self-in_err-shown : goal.invariant_of-self-in_err-shown
invariant_of-self-in_err-shown c = rw (c.reserve.ensures.items, c.reserve-2.ensures.items)
    (kept_bytes c.self.inside.bytes.items c.keep_data.new.kept.items c.self.inside.steps.items
    c.keep_data.ensures.before c.self.inside.lines.items c.self.invariant)

pub invariant_of-self-in_default : goal.invariant_of-self-in_default
invariant_of-self-in_default c = rw (c.reserve.ensures.items, c.reserve-2.ensures.items)
    (kept_bytes c.self.inside.bytes.items c.keep_data.new.kept.items c.self.inside.steps.items
    c.keep_data.ensures.before c.self.inside.lines.items c.self.invariant)

pub invariant_of-self-2 : goal.invariant_of-self-2
invariant_of-self-2 c =
    let reads = rw c.in-Some.is at c.in_ok-shown.ensures.«data» in
    let within = rw c.in-Some.is at c.in_ok-shown.ensures.within in
    rw (
      c.push_reserved.ensures.items,
      c.keep_steps-first_step.ensures.start,
      c.keep_steps-first_step.ensures.items,
      c.reserve.ensures.items,
      c.reserve-2.ensures.items,
    )
    (kept_read_pushed c.self.inside.bytes.items c.keep_data.new.kept.items c.self.inside.steps.items
    c.keep_data.ensures.before c.args.read.now c.in-Some.shown c.self.inside.lines.items within
    (c.requires.fits (shown_in c.keep_data.new.kept.items c.in-Some.shown) reads.0 reads.1) c.self.invariant)

pub returns : goal.returns
returns c =
    let reads = rw c.in-Some.is at c.in_ok-shown.ensures.«data» in
    record {
      shown = shown_in c.keep_data.new.kept.items c.in-Some.shown;
      fits = reads.0;
      spelt = reads.1;
      pushed = rw (
        c.push_reserved.ensures.items,
        c.keep_steps-first_step.ensures.start,
        c.keep_steps-first_step.ensures.items,
        c.reserve.ensures.items,
        c.reserve-2.ensures.items,
      )
          (seen_read_pushed c.self.inside.bytes.items c.keep_data.new.kept.items c.self.inside.steps.items
          c.keep_data.ensures.before c.args.read.now c.in-Some.shown c.self.inside.lines.items c.args.self.now.lines
          c.self.invariant (ap (λ (g : Gathered). g.lines) c.self.view_is));
    }

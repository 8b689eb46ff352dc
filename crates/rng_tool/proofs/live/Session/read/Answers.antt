use Rattle.std.proofs.Common.{◌≡◌, ◌⊎◌, ◌++◌, ap, append_assoc, subst, sym, true, ◌∙◌}
use Rattle.std.specs.Prelude.{None}
use Rattle.rng_tool.specs.LiveSteps.{IsPart}
use Rattle.rng_tool.proofs.LiveEvents.{none_of}
use Rattle.rng_tool.proofs.LiveSessions.{line_read, memory_goes, piece_over, piece_part, stop_of_piece}
use Rattle.rng_tool.proofs.live.Session.read.Goals as goal

pub read_line-requires-clause-at : goal.read_line-requires-clause-at
read_line-requires-clause-at g c κs within =
    let asked = c.requires in
    let now = c.loop-line.invariant.at None asked.0 asked.1 asked.2 tt in
    (asked.0 ++ c.loop-line.invariant.done, now.emitted, now.is)

pub returns-in_err-read_line-clause-goes : goal.returns-in_err-read_line-clause-goes
returns-in_err-read_line-clause-goes g c = λ start text emitted at before.
    let i = c.loop-line.invariant in
    let line = c.in-Some.line.now in
    let now = i.at start text emitted at before in
    let stops = c.in_err-read_line.ensures.goes start (text ++ i.done) now.emitted now.is now.written in
    stop_of_piece c.from_residual.result _ start _ text c.args.piece.now (i.done ++ line) c.in-Some.rest.now _
    c.from_residual.ensures.1
    (i.split ∙ ap (λ t. i.done ++ t) c.in-Some.ensures.parts ∙ sym (append_assoc i.done line c.in-Some.rest.now))
    (rw append_assoc at stops)

pub loop-line-preserved : goal.loop-line-preserved
loop-line-preserved g c =
    let i = c.loop-line.invariant in
    let line = c.in-Some.line.now in
    record {
      done = i.done ++ line;
      split = i.split ∙ ap (λ t. i.done ++ t) c.in-Some.ensures.parts ∙ sym (append_assoc i.done line c.in-Some.rest.now);
      at = λ start text emitted at before.
          let now = i.at start text emitted at before in
          line_read start _ text i.done line _
          (c.in_ok-read_line.ensures.goes start (text ++ i.done) now.emitted now.is now.written);
      counted = c.in_ok-read_line.ensures.counted.not_counted (λ e. cc) ∙ i.counted;
    }

pub feed-requires : goal.feed-requires
feed-requires g c =
    let asked = c.requires in
    let now = c.loop-line.invariant.at None asked.0 asked.1 asked.2 tt in
    (asked.0 ++ c.loop-line.invariant.done, now.is.fed)

pub returns-in_err-feed-clause-goes : goal.returns-in_err-feed-clause-goes
returns-in_err-feed-clause-goes g c = λ start text emitted at before.
    let i = c.loop-line.invariant in
    let now = i.at start text emitted at before in
    let t = c.loop-line.self.session_writer in
    memory_goes c.from_residual-in_err-feed.result start _ (text ++ c.args.piece.now) now.emitted _
    c.from_residual-in_err-feed.ensures.1
    (piece_part t.is_over t.run text c.args.piece.now i.done c.loop-line.left.now now.emitted i.split now.is.at) now.written

pub returns-clause-goes : goal.returns-clause-goes
returns-clause-goes g c = λ start text emitted at before.
    let i = c.loop-line.invariant in
    let now = i.at start text emitted at before in
    let free = subst (λ b. (b ≡ true) ⊎ IsPart c.loop-line.left.now) c.is_over.ensures
    (c.next_line.ensures.none (none_of c.next_line.result c.in_default.not-Some)) in
    record {
      emitted = now.emitted;
      is = piece_over _ text c.args.piece.now i.done c.loop-line.left.now now.emitted i.split free now.is.at
          (c.in_ok-feed.ensures.fed (text ++ i.done) now.is.fed);
      written = now.written;
    }

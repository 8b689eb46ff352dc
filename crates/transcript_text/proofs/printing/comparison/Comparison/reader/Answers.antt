use Rattle.std.proofs.Common.{ℕ, List, ◌++◌, ap, arith, length, min, subst, take, ◌∙◌}
use Rattle.transcript_text.specs.Feeding.{HasFed}
use Rattle.transcript_text.proofs.Comparing.{fed_on}
use Rattle.transcript_text.proofs.printing.comparison.Comparison.reader.Goals as goal

pub loop-left-preserved : goal.loop-left-preserved
loop-left-preserved c =
    let i = c.self.inside in
    let count = c.min-count.result in
    let count_is = c.min-count.ensures ∙ ap (λ (text : List ℕ). min (length text) c.loop-left.left) c.text.ensures in
    let on = λ (text : List ℕ) (fed : HasFed text c.loop-left.reader).
    subst (λ (piece : List ℕ). HasFed (text ++ take count piece) c.feed.new.self) c.text-in-loop-left.ensures
    (c.in_ok-feed.ensures.fed text fed) in
    record {
      fed = fed_on i.made i.same c.loop-left.left count c.loop-left.place c.go_on.new.self c.loop-left.reader
          c.feed.new.self c.go_on.new.piece c.loop-left.invariant.fed (omega (arith, c.loop-left-test.true))
          c.go_on.ensures.within c.go_on.ensures.text count_is on;
      most = c.in_ok-feed.ensures.most ∙ c.loop-left.invariant.most;
    }

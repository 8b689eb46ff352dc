use Rattle.std.proofs.Common.{◌≡◌, ◌+◌, ◌-◌, ℕ, length, take, drop, arith, ap, subst, ◌∙◌, length-drop}
use Rattle.std.proofs.lemmas.List.{drop-drop}
use Rattle.std.specs.Io.KnownBytes.{Appends}
use Rattle.io_edges.proofs.Pieces.{Appends-next}
use Rattle.io_edges.proofs.whole.put_all.Goals as goal

pub loop-rest-preserved : goal.loop-rest-preserved
loop-rest-preserved g c =
    let held = g.K.Sink.held in
    let text = c.args.piece.now in
    let rest = c.loop-rest.rest.now in
    let at = length text - length rest in
    let n = c.in_ok-count.count in
    let before = c.loop-rest.invariant in
    let back = c.split_at.ensures.back in
    let len = ap length back ∙ length-drop n rest in
    let place : at + n ≡ length text - length c.split_at.result.1.now =
    omega (arith, len, before.within, c.in_ok-count.ensures.bound) in
    record {
      put = subst (λ (k : ℕ). Appends (held c.args.sink.now) (held c.put.new.self) (take k text)) place
          (Appends-next _ _ _ text rest at n before.put before.rest c.in_ok-count.ensures.appended);
      rest = back ∙ ap (drop n) before.rest ∙ drop-drop n at text ∙ ap (λ (k : ℕ). drop k text) place;
      within = omega (arith, len, before.within);
      counted = c.in_ok-count.ensures.not_counted ∙ before.counted;
    }

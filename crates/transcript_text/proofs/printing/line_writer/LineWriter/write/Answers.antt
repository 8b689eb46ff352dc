use Rattle.std.proofs.Common.{◌≡◌, List, ℕ, [], ◌++◌, codes, refl, ap, sym, subst, ◌∙◌, append_assoc, append-nil, arith}
use Rattle.std.proofs.KnownBytes.{Appends-nil}
use Rattle.std.specs.Io.KnownBytes.{Appends}
use Rattle.io_edges.specs.Pieces.{AppendsPrefix}
use Rattle.transcript_text.specs.Lines.{whole_line}
use Rattle.transcript_text.specs.Places.{data_left}
use Rattle.transcript_text.specs.Putting.{PutSoFar}
use Rattle.transcript_text.specs.Views.{seen, seen_shown}
use Rattle.transcript_text.proofs.Places.{head_put}
use Rattle.transcript_text.proofs.PuttingOn.{breaks_off, piece_put}
use Rattle.transcript_text.proofs.printing.line_writer.LineWriter.write.Goals as goal

-- if `left` is `piece` and then `rest`, then `left` with a line feed is `piece`, then `rest`, then the line feed
more_shown : (left piece rest : List ℕ) → piece ++ rest ≡ left → left ++ codes "\n" ≡ piece ++ (rest ++ codes "\n")
more_shown left piece rest part = ap (λ text. text ++ codes "\n") (sym part) ∙ append_assoc piece rest (codes "\n")

-- the last piece of a line is all the data that were left, and the line feed
all_shown : (left piece last : List ℕ) → piece ≡ left → last ≡ piece ++ codes "\n" → left ++ codes "\n" ≡ last ++ []
all_shown left piece last all end = ap (λ text. text ++ codes "\n") (sym all) ∙ sym end ∙ sym (append-nil last)

pub loop-place-init : goal.loop-place-init
loop-place-init g c = record {
  so_far = record {
    front = [];
    whole = head_put c.args.line 0 c.append_head.new.piece refl c.append_head.ensures.text;
    appends = Appends-nil (g.K.Sink.held c.args.sink.now);
  };
  within = omega arith;
  room = omega (arith, c.append_head.ensures.short);
  counted = refl;
}

pub loop-place-preserved : goal.loop-place-preserved
loop-place-preserved g c =
    let held = g.K.Sink.held in
    let line = c.args.line in
    let rest = data_left c.show.new.self.shown (seen_shown line.shown) in
    let put = subst (Appends (held c.loop-place.sink) (held c.put_all.new.sink)) c.text.ensures
    c.in_ok-put_all.ensures.whole in
    record {
      so_far = subst (λ piece. PutSoFar (held c.args.sink.now) (held c.put_all.new.sink) (whole_line (seen line))
          ((piece ++ rest) ++ codes "\n")) (sym c.clear-in-loop-place.ensures)
          (piece_put _ _ (held c.put_all.new.sink) _ _ c.show.new.piece (rest ++ codes "\n")
          c.loop-place.invariant.so_far
          (more_shown _ c.show.new.piece rest (c.show.ensures.part c.loop-place-test.true)) put);
      within = c.show.ensures.within c.loop-place-test.true;
      room = rw c.clear-in-loop-place.ensures (omega arith);
      counted = c.in_ok-put_all.ensures.not_counted ∙ c.loop-place.invariant.counted;
    }

pub returns-in_err-put_all-clause-prefix : goal.returns-in_err-put_all-clause-prefix
returns-in_err-put_all-clause-prefix g c =
    let held = g.K.Sink.held in
    let rest = data_left c.show.new.self.shown (seen_shown c.args.line.shown) in
    breaks_off _ _ (held c.put_all.new.sink) _ _ c.show.new.piece (rest ++ codes "\n") c.loop-place.invariant.so_far
    (more_shown _ c.show.new.piece rest (c.show.ensures.part c.loop-place-test.true))
    (subst (AppendsPrefix (held c.loop-place.sink) (held c.put_all.new.sink)) c.text.ensures c.put_all.ensures.prefix)

pub returns-clause-prefix : goal.returns-clause-prefix
returns-clause-prefix g c =
    let held = g.K.Sink.held in
    breaks_off _ _ (held c.put_all-2.new.sink) _ _ c.push.new.self [] c.loop-place.invariant.so_far
    (all_shown _ c.show.new.piece c.push.new.self (c.show.ensures.all c.loop-place-test.false) c.push.ensures)
    (subst (AppendsPrefix (held c.loop-place.sink) (held c.put_all-2.new.sink)) c.text-2.ensures
    c.put_all-2.ensures.prefix)

use Rattle.std.proofs.Common.{◌≡◌, ℕ, ◌+◌, ◌<◌, Some, List, [], ◌∷◌, ◌++◌, take, ap, ◌∙◌, arith}
use Rattle.std.proofs.lemmas.Bool.{false_from_ne_true, eqb-true}
use Rattle.std.proofs.lemmas.List.{take_more, get_or-take, get_or_default, length-take}
use Rattle.memchr.specs.Find.{IsFirstByte, is_byte}
use Rattle.rng_tool.specs.LiveSteps.{IsPart}
use Rattle.rng_tool.proofs.live.next_line.Goals as goal

-- if the first line feed is at `place`, the bytes through it are the first `place` bytes and the line feed
line_to : (place : ℕ) (text : List ℕ) → IsFirstByte (is_byte 10) text (Some place)
    → take (place + 1) text ≡ take place text ++ 10 ∷ []
line_to place text h =
    take_more text place 0 h.0.high ∙ ap (λ b. take place text ++ b ∷ []) (eqb-true _ _ h.1)

clean_to : (place : ℕ) (text : List ℕ) → IsFirstByte (is_byte 10) text (Some place) → IsPart (take place text)
clean_to place text h = λ k d below.
    let before : k < place = omega (arith, length-take place text) in
    rw (get_or-take place text k d before, get_or_default text k d 0 (omega (arith, length-take place text)))
    (false_from_ne_true _ (h.0.before k (omega arith) before))

pub returns-clause-line : goal.returns-clause-line
returns-clause-line c = (
  c.if-is_over.false,
  (
    take c.in_ok-place.place c.args.text.now,
    c.split_at.ensures.front ∙ line_to c.in_ok-place.place c.args.text.now c.in_ok-place.ensures,
    clean_to c.in_ok-place.place c.args.text.now c.in_ok-place.ensures,
  ),
)

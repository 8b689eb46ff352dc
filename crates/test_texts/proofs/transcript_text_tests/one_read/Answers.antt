use Rattle.std.proofs.Common.{◌≡◌, ◌<◌, List, ℕ, [], ◌∷◌, length, arith}
use Rattle.hex.specs.Hex.{IsBytes}
use Rattle.key_names.specs.declared.events.Word.TheVariants.{Bits, Read}
use Rattle.key_names.specs.Transcripts.SeenLine.{bytes_or_none}
use Rattle.key_names.specs.Texts.TranscriptGrammar.{ShownFits}
use Rattle.test_texts.proofs.transcript_text_tests.one_read.Goals as goal

read_is_not_bits : Read ≡ Bits → ⊥
read_is_not_bits e = cc

some_fit : (shown : List ℕ) → 0 < length shown → IsBytes shown → ShownFits Read (bytes_or_none shown)
some_fit [] some small = absurd (omega arith)
some_fit (b ∷ shown) some small = (read_is_not_bits, some, small)

pub push-requires-clause-fits : goal.push-requires-clause-fits
push-requires-clause-fits c = rw c.plain.ensures.line (record {
  caller = omega arith;
  event = omega arith;
  few_steps = omega arith;
  steps = tt;
  shown = some_fit c.args.bytes.now c.requires.0 (λ i. omega (arith, c.type_inv.bytes i));
})

use Rattle.std.proofs.Common.{ℕ, ◌<◌, List, [], ◌∷◌, arith}
use Rattle.std.specs.Prelude.{slice_index}
use Rattle.key_names.specs.declared.events.Word.{Word}
use Rattle.key_names.specs.Transcripts.SeenLine.{bytes_or_none}
use Rattle.key_names.specs.Texts.TranscriptGrammar.{ShownFits}
use Rattle.serial_replay.specs.Written.{IsFor}
use Rattle.serial_replay.proofs.replay.shown_as.Goals as goal

bytes_fit : (word : Word) (shown : List ℕ) → ((i : ℕ) → slice_index shown i < 256) → IsFor word (bytes_or_none shown) →
    ShownFits word (bytes_or_none shown)
bytes_fit word [] small kind = tt
bytes_fit word (b ∷ shown) small kind = (kind, omega arith, small)

pub returns-in-Served-clause-fits : goal.returns-in-Served-clause-fits
returns-in-Served-clause-fits c = λ word kind.
    bytes_fit word c.args.bytes.now (λ i. omega (arith, c.type_inv.bytes i)) kind

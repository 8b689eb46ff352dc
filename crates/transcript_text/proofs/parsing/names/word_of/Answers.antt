use Rattle.transcript_text.proofs.NameTexts.{reads_word}
use Rattle.transcript_text.proofs.parsing.names.word_of.Goals as goal

pub returns : goal.returns
returns c = reads_word c.args.text.now c.word_of.result c.word_of.ensures.value c.word_of.ensures.spelt

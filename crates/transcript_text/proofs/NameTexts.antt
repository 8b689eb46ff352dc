-- No two words have the same spelling. No word or answer has a space or a line feed in it.
use Rattle.std.proofs.Common.{◌≡◌, ℕ, true, List, [], ◌∷◌, Option, Some, None, refl, sym, ap, ◌∙◌}
use Rattle.std.specs.Prelude.{⊤, IfSome, find}
use Rattle.std.specs.Str.{bytes_eq}
use Rattle.std.proofs.lemmas.Option.{same_Some}
use Rattle.key_names.specs.declared.events.Answer.{Answer}
use Rattle.key_names.specs.declared.events.Answer.TheVariants as answers
use Rattle.key_names.specs.declared.events.Word.{Word}
use Rattle.key_names.specs.declared.events.Word.TheVariants.{End}
use Rattle.key_names.specs.Texts.Spelling.{word_text}
use Rattle.key_names.specs.Texts.ScriptFaults.{word_of}
use Rattle.key_names.specs.Texts.TranscriptGrammar.{answer_text}
use Rattle.key_names.proofs.Script.SaidLines.{word_again}
use Rattle.transcript_text.specs.Reading.{Reads, lacks}

pub reads_word : (text : List ℕ) (found : Option Word) → found ≡ word_of text → IfSome found (λ w. text ≡ word_text w)
    → Reads word_text (λ w. ⊤) text found
reads_word text (Some word) is spelt = (tt, spelt)
reads_word text None is spelt = λ word fits e. let again = word_again word in let read = ap word_of e in cc

pub same_word : (v w : Word) → word_text v ≡ word_text w → v ≡ w
same_word v w e = same_Some v w (sym (word_again v) ∙ ap word_of e ∙ word_again w)

pub word_lacks_space : (word : Word) → lacks 32 (word_text word) ≡ true
word_lacks_space End = refl
word_lacks_space _ = refl

pub word_lacks_feed : (word : Word) → lacks 10 (word_text word) ≡ true
word_lacks_feed End = refl
word_lacks_feed _ = refl

-- ---- the texts of answers

abbrev all_answers : List Answer
all_answers = answers.Ok ∷ answers.Again ∷ answers.Invalid ∷ answers.NoData ∷ answers.Interrupted ∷ answers.Fired
    ∷ answers.Idle ∷ answers.Unused ∷ []

answer_named : List ℕ → Option Answer
answer_named text = find (λ answer. bytes_eq (answer_text answer) text) all_answers

answer_again : (answer : Answer) → answer_named (answer_text answer) ≡ Some answer
unfolding answer_text answer_named
answer_again answers.Ok = refl
answer_again _ = refl

pub same_answer : (v w : Answer) → answer_text v ≡ answer_text w → v ≡ w
same_answer v w e = same_Some v w (sym (answer_again v) ∙ ap answer_named e ∙ answer_again w)

pub answer_lacks_space : (answer : Answer) → lacks 32 (answer_text answer) ≡ true
unfolding answer_text
answer_lacks_space answers.Ok = refl
answer_lacks_space _ = refl

pub answer_lacks_feed : (answer : Answer) → lacks 10 (answer_text answer) ≡ true
unfolding answer_text
answer_lacks_feed answers.Ok = refl
answer_lacks_feed _ = refl

use Rattle.std.proofs.Common.{ℕ, ◌≡◌, ◌≤◌, ◌<◌, List, [], ◌∷◌, length, ap, sym, ◌∙◌, arith}
use Rattle.std.specs.Prelude.{String, string_bytes, map, slice_index_or, Bool, IsTrue}
use Rattle.std.specs.Str.{bytes_eq}
use Rattle.std.proofs.lemmas.Slice.Eq.{bytes_eq-Decides}
use Rattle.rng_tool.proofs.command.is_only.Goals as goal

-- if there are at least one and fewer than two words, the list consists of the first word
one : {A : Type 0} (words : List (String A)) (word : String A) → 1 ≤ length words → length words < 2 →
    word ≡ slice_index_or words 0 word →
    map string_bytes words ≡ string_bytes word ∷ []
one [] word some few is = absurd (omega arith)
one (w ∷ []) word some few is = ap (λ v. string_bytes v ∷ []) (sym is)
one (w ∷ v ∷ words) word some few is = absurd (omega arith)

-- if `answer` is whether the only word equals `form`, `answer` is true exactly if the words are `form` alone
both : (form text bytes : List ℕ) (answer : Bool) (all : List (List ℕ)) → text ≡ bytes → all ≡ bytes ∷ [] →
    answer ≡ bytes_eq text form →
    (IsTrue answer → all ≡ form ∷ []) × (all ≡ form ∷ [] → IsTrue answer)
both form text bytes answer all is words test =
    let decides = bytes_eq-Decides text form in (
      λ yes. words ∙ ap (λ t. t ∷ []) (sym is ∙ decides.0 (sym test ∙ yes)),
      λ run. (let same : bytes ≡ form = (let both : bytes ∷ [] ≡ form ∷ [] = sym words ∙ run in cc) in
          test ∙ decides.1 (is ∙ same)),
    )

pub returns-in-len1 : goal.returns-in-len1
returns-in-len1 c =
    let words = one c.args.words.now c.only-item.result c.in-len1.len_at_least c.in-len1.len_below c.only-item.is in
    both c.args.word.now c.as_str.result.now (string_bytes c.only-item.result) c.eq.result _ c.as_str.ensures.value words
    c.eq.ensures

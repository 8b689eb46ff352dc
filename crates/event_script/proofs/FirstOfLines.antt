-- The first line of a text, and how the script goes on after that line.
use Rattle.std.proofs.Common.{◌≡◌, ℕ, ◌+◌, ◌<◌, length, arith, true, false, Ok, Err, List, [], ◌∷◌, refl, sym, ap, ◌∙◌}
use Rattle.std.specs.List.{join_with_byte, list_any}
use Rattle.std.proofs.lemmas.List.Splits.{join_with_byte-slice_split}
use Rattle.key_names.specs.declared.faults.FaultKind.{FaultKind}
use Rattle.key_names.specs.declared.faults.FaultKind.TheVariants.{BadByte, UnknownWord}
use Rattle.key_names.specs.Texts.ScriptFaults.{◌>>=◌, Draft, GoesOn, at_line, following, after_first, after_line, by_next, is_unprintable, line_of, nothing_after, parts, script_from, script_of_draft}
use Rattle.key_names.proofs.Script.Parts.{HasFirst, first_part}

pub whole_line : (text line rest : List ℕ) → parts 10 text ≡ line ∷ parts 10 rest → list_any is_unprintable line ≡ false
    → line_of (parts 10 text) ≡ Ok line
whole_line text line rest cut fine = rw (cut, (first_part 10 rest).is, fine) refl

pub bad_line : (text line rest : List ℕ) → parts 10 text ≡ line ∷ parts 10 rest → list_any is_unprintable line ≡ true
    → line_of (parts 10 text) ≡ Err BadByte
bad_line text line rest cut bad = rw (cut, (first_part 10 rest).is, bad) refl

one_step : (d : Draft) (n : ℕ) (lines : List (List ℕ)) → HasFirst lines
    → script_from d n lines
    ≡ (at_line n (line_of lines >>= after_line d) >>= by_next (λ later. script_from later (n + 1) (following lines))
    (nothing_after (n + 1) (following lines) >>= λ none. Ok (script_of_draft d)))
unfolding script_from
one_step d n [] some = absurd (let e = some.is in cc)
one_step d n (line ∷ more) some = refl

-- `script_from` adds the first line to the draft, and goes on with the other lines
pub step_of : (d : Draft) (n : ℕ) (text : List ℕ)
    → script_from d n (parts 10 text)
    ≡ (at_line n (line_of (parts 10 text) >>= after_line d) >>= by_next
    (λ later. script_from later (n + 1) (following (parts 10 text)))
    (nothing_after (n + 1) (following (parts 10 text)) >>= λ none. Ok (script_of_draft d)))
step_of d n text = one_step d n (parts 10 text) (first_part 10 text)

not_alone : (n : ℕ) (lines : List (List ℕ)) → (lines ≡ [] ∷ [] → ⊥) →
    nothing_after n lines ≡ at_line n (line_of lines >>= λ line. Err UnknownWord)
not_alone n [] not = refl
not_alone n ([] ∷ []) not = absurd (not refl)
not_alone n ((b ∷ tail) ∷ []) not = refl
not_alone n ([] ∷ next ∷ more) not = refl
not_alone n ((b ∷ tail) ∷ next ∷ more) not = refl

-- if `text` comes after the line `end` and is not empty, the first line of `text` has a fault
pub more_after : (n : ℕ) (text : List ℕ) → 0 < length text → nothing_after n (parts 10 text) ≡
    at_line n (line_of (parts 10 text) >>= λ line. Err UnknownWord)
more_after n text some =
    not_alone n (parts 10 text) (λ e. omega
    (arith, ap length (sym (join_with_byte-slice_split 10 text) ∙ ap (join_with_byte 10) e)))

-- ---- What the first line of a text decides for the script

pub goes_on : (d later : Draft) (n : ℕ) (text rest : List ℕ) → after_first d (parts 10 text) ≡ Ok (GoesOn later)
    → parts 10 rest ≡ following (parts 10 text) → script_from d n (parts 10 text) ≡ script_from later (n + 1)
    (parts 10 rest)
goes_on d later n text rest is cut = step_of d n text ∙ rw (is, cut) refl

pub faults : (d : Draft) (n : ℕ) (text : List ℕ) (kind : FaultKind) → after_first d (parts 10 text) ≡ Err kind
    → script_from d n (parts 10 text) ≡ Err (record { line = n; kind = kind })
faults d n text kind is = step_of d n text ∙ rw is refl

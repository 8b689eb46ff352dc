-- If a text leaves no room for the line `end`, no script begins with this text.
use Rattle.std.proofs.Common.{◌≡◌, ℕ, ◌+◌, ◌<◌, ◌≤◌, ◌==◌, inl, inr, false, List, [], ◌∷◌, ◌++◌, map, length, refl, sym, ap, subst, ◌∙◌, append_assoc, arith}
use Rattle.std.specs.Fmt.{decimal}
use Rattle.std.specs.Prelude.{codes}
use Rattle.std.proofs.lemmas.Grind.{flat_map-append}
use Rattle.std.proofs.lemmas.List.{length-append}
use Rattle.std.proofs.lemmas.List.Elements.{All-cons}
use Rattle.key_names.specs.Texts.ScriptGrammar.{IsScript, Script, block_lines, script_text}
use Rattle.key_names.specs.Texts.ScriptFaults.{Draft}
use Rattle.key_names.specs.Texts.Spelling.{lined, spaced}
use Rattle.event_script.specs.Feeding.{IsWhole}
use Rattle.event_script.specs.Progress.{GoesOnFrom, end_line}
use Rattle.rng_tool.specs.LiveSteps.{IsHopeless, IsPart}
use Rattle.rng_tool.proofs.LiveLines.{bare_goes, script_lines_again}
use Rattle.rng_tool.proofs.LiveTexts.{first_feed, no_bytes, no_items}

-- ---- a script's text ends with the line `end`

map-append : (xs ys : List (List (List ℕ))) → map spaced (xs ++ ys) ≡ map spaced xs ++ map spaced ys
map-append [] ys = refl
map-append (x ∷ xs) ys = ap (λ (l : List (List ℕ)). spaced x ∷ l) (map-append xs ys)

ends_lines : (xs : List (List (List ℕ))) → lined (map spaced (xs ++ (codes "end" ∷ []) ∷ [])) ≡ lined (map spaced xs) ++ end_line
ends_lines xs =
    ap lined (map-append xs ((codes "end" ∷ []) ∷ []))
    ∙ flat_map-append (λ (line : List ℕ). line ++ 10 ∷ []) (map spaced xs) (codes "end" ∷ [])

abbrev head_of : Script → List (List (List ℕ))
head_of s =
    (codes "rngscript" ∷ decimal s.version ∷ []) ∷ (codes "cpus" ∷ decimal s.cpus ∷ [])
    ∷ block_lines 0 s.callers

pub script_ends : (s : Script) → script_text s ≡ lined (map spaced (head_of s)) ++ end_line
script_ends s = ends_lines (head_of s)

-- ---- one text, cut into two parts at two places

-- if a text is cut in two at two places, the longer first part is the shorter first part, followed by some `mid`
pub cut_again : (a b c d : List ℕ) → a ++ b ≡ c ++ d → length c ≤ length a → (mid : List ℕ) × (a ≡ c ++ mid) × (mid ++ b ≡ d)
cut_again a b [] d is short = (a, refl, is)
cut_again [] b (x ∷ c) d is short = absurd (omega (arith, short))
cut_again (y ∷ a) b (x ∷ c) d is short =
    let found = cut_again a b c d (let tails : a ++ b ≡ c ++ d = cc in tails) (omega (arith, short)) in (
      found.0,
      ap (λ t. y ∷ t) found.1 ∙ ap (λ z. z ∷ (c ++ found.0)) (let one : y ≡ x = cc in one),
      found.2,
    )

end_clean : IsPart (codes "end")
end_clean =
    All-cons (λ x. (x == 10) ≡ false) 101 (110 ∷ 100 ∷ []) refl
    (All-cons (λ x. (x == 10) ≡ false) 110 (100 ∷ []) refl (All-cons (λ x. (x == 10) ≡ false) 100 [] refl no_bytes))

-- if whole lines end with `mid`, and the line `end` begins with `mid`, then `mid` is empty or the whole line `end`
all_there : (front mid more body : List ℕ) → front ++ 10 ∷ [] ≡ body ++ mid → mid ++ more ≡ end_line → 0 < length mid
    → more ≡ []
all_there front mid more body is end some =
    let last = cut_last mid (front ++ 10 ∷ []) body front is refl some in
    let feed = first_feed (codes "end") [] last.0 more end_clean
    (sym end ∙ ap (λ t. t ++ more) last.1 ∙ append_assoc last.0 (10 ∷ []) more) in
    no_items more (omega (
      arith,
      ap length end,
      ap length last.1,
      ap length feed.1,
      length-append mid more,
      length-append last.0 (10 ∷ []),
      length-append (codes "end") (10 ∷ feed.0),
    ))
  where
    -- if `part` is not empty and is the end of a text of whole lines, `part` ends with a line feed
    cut_last : (part text before lines : List ℕ) → text ≡ before ++ part → text ≡ lines ++ 10 ∷ [] → 0 < length part
        → (first : List ℕ) × (part ≡ first ++ 10 ∷ [])
    cut_last part text [] lines is whole some = (lines, sym is ∙ whole)
    cut_last part text (b ∷ before) [] is whole some =
        absurd (omega (arith, some, ap length (sym is ∙ whole), length-append before part))
    cut_last part text (b ∷ before) (x ∷ lines) is whole some =
        let both : b ∷ (before ++ part) ≡ x ∷ (lines ++ 10 ∷ []) = sym is ∙ whole in
        cut_last part (before ++ part) before lines refl
        (let tails : before ++ part ≡ lines ++ 10 ∷ [] = cc in tails) some

-- if events may follow the whole lines in `text`, but the line `end` would exceed 16 MiB after them, no script begins
-- with `text`
pub full_hopeless : (text : List ℕ) (d : Draft) (n : ℕ) → GoesOnFrom text d n → IsWhole text
    → 16777216 < length text + 4 → IsHopeless text
full_hopeless text d n goes (inl none) full = absurd (omega (arith, full, ap length none))
full_hopeless text d n goes (inr front) full = λ s more is.
    let body = lined (map spaced (head_of s)) in
    let both : text ++ more ≡ body ++ end_line = is.spelt ∙ script_ends s in
    let lens = ap length both in
    let short = is.well_formed.text in
    let size = ap length (script_ends s) in
    let cut = cut_again text more body end_line both (omega (
      arith,
      lens,
      full,
      short,
      size,
      length-append text more,
      length-append body end_line,
    )) in
    let none = all_there front.0 cut.0 more body (sym front.1 ∙ cut.1) cut.2 (omega (
      arith,
      ap length cut.1,
      full,
      short,
      size,
      length-append body cut.0,
      length-append body end_line,
    )) in
    let ok = script_lines_again s (text ++ []) (subst (λ t. IsScript s (text ++ t)) none is) in
    let e = sym (bare_goes text d n goes) ∙ ok in absurd cc

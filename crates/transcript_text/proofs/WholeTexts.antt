-- The text of a line from its head and data, and the text of a transcript from its callers' lines.
use Rattle.std.proofs.Common.{◌≡◌, ℕ, List, [], ◌∷◌, ◌++◌, map, refl, ap, ◌∙◌, append_assoc}
use Rattle.std.specs.Prelude.{codes}
use Rattle.std.specs.List.{flat_map}
use Rattle.std.proofs.lemmas.List.Concat.{flat_map-append}
use Rattle.key_names.specs.Transcripts.SeenLine.{SeenLine}
use Rattle.key_names.specs.Texts.Spelling.{lined}
use Rattle.key_names.specs.Texts.TranscriptGrammar.{shown_text, line_text, all_lines, transcript_text}
use Rattle.transcript_text.specs.Heads.{head_text}
use Rattle.transcript_text.specs.Lines.{whole_line, text_of}
use Rattle.transcript_text.specs.Places.{callers_text}
use Rattle.transcript_text.specs.Views.{seen, seen_shown}
use Rattle.transcript_text.specs.declared.view.LineView.{LineView}

pub line_is : (line : LineView) (head : List ℕ)
    → head ≡ head_text line.caller line.event line.word line.answer line.steps.now
    → head ++ shown_text (seen_shown line.shown) ≡ line_text (seen line)
unfolding line_text head_text
line_is line head e = rw e (simp append_assoc)

lines_text : (lines : List SeenLine) → lined (map line_text lines) ≡ text_of lines
lines_text [] = refl
lines_text (line ∷ lines) = ap (λ (x : List ℕ). whole_line line ++ x) (lines_text lines)

callers_lines : (callers : List (List SeenLine)) → text_of (all_lines callers) ≡ flat_map text_of callers
callers_lines [] = refl
callers_lines (lines ∷ callers) = flat_map-append whole_line lines (all_lines callers)
    ∙ ap (λ (x : List ℕ). text_of lines ++ x) (callers_lines callers)

pub transcript_text-parts : (callers : List (List SeenLine))
    → transcript_text callers ≡ codes "rngtranscript 1\n" ++ callers_text callers
unfolding transcript_text
transcript_text-parts callers =
    let middle : lined (map line_text (all_lines callers) ++ codes "end" ∷ []) ≡ callers_text callers =
    flat_map-append (λ (line : List ℕ). line ++ codes "\n") (map line_text (all_lines callers)) (codes "end" ∷ [])
    ∙ ap (λ (x : List ℕ). x ++ codes "end\n") (lines_text (all_lines callers) ∙ callers_lines callers) in
    ap (λ (x : List ℕ). codes "rngtranscript 1\n" ++ x) middle

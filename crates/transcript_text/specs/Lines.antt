-- The text of a caller's lines.
use Rattle.std.specs.Prelude.{ℕ, List, ◌++◌, codes}
use Rattle.std.specs.List.{flat_map}
use Rattle.key_names.specs.Transcripts.SeenLine.{SeenLine}
use Rattle.key_names.specs.Texts.TranscriptGrammar.{line_text}

abbrev pub whole_line : SeenLine → List ℕ
whole_line line = line_text line ++ codes "\n"

abbrev pub text_of : List SeenLine → List ℕ
text_of lines = flat_map whole_line lines

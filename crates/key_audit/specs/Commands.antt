-- The commands, and the words of the command line that spell them.
use Rattle.std.specs.Prelude.{ℕ, ◌≡◌, ◌<◌, ◌^◌, List, [], ◌∷◌, String, string_bytes, codes, map}
use Rattle.std.specs.Fmt.{decimal}
use Rattle.audit_keys.specs.declared.moments.LineOf.{LineOf}
use Rattle.key_audit.specs.Texts.{line_text}
use Rattle.key_audit.specs.declared.ask.Ask.{Ask}
use Rattle.key_audit.specs.declared.ask.Ask.TheVariants.{Keys, Live, LiveAfter, Line as OneLine}

-- the numbers of the line's caller and event are below 2^32; a command can name only such lines
abbrev pub LineFits : LineOf → Type 0
LineFits line = (line.caller < 2 ^ 32) × (line.event < 2 ^ 32)

-- `text` is the word that comes after `live` in the command `ask`
abbrev pub LiveText : List ℕ → Ask → Type 0
LiveText text Keys = ⊥
LiveText text (Live stamp) = (stamp < 2 ^ 64) × (text ≡ decimal stamp)
LiveText text (LiveAfter line) = LineFits line × (text ≡ line_text line)
LiveText text (OneLine line) = ⊥

-- `texts` are the words that spell the command `ask`
abbrev pub AskTexts : List (List ℕ) → Ask → Type 0
AskTexts texts Keys = texts ≡ codes "keys" ∷ []
AskTexts texts (Live stamp) = (stamp < 2 ^ 64) × (texts ≡ codes "live" ∷ decimal stamp ∷ [])
AskTexts texts (LiveAfter line) = LineFits line × (texts ≡ codes "live" ∷ line_text line ∷ [])
AskTexts texts (OneLine line) = LineFits line × (texts ≡ codes "line" ∷ line_text line ∷ [])

abbrev pub Asks : {A : Type 0} → List (String A) → Ask → Type 0
Asks words ask = AskTexts (map string_bytes words) ask

-- the words spell no command
abbrev pub IsNoForm : {A : Type 0} → List (String A) → Type 0
IsNoForm words = (ask : Ask) → Asks words ask → ⊥

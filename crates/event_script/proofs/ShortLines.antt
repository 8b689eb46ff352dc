-- Lines that are read in one pass, without a search for their line feeds.
use Rattle.std.proofs.Common.{◌≡◌, ℕ, ◌≤◌, false, Result, Ok, Err, List, ◌∷◌, ◌++◌, refl, sym, ap, ◌∙◌, append_assoc}
use Rattle.std.proofs.lemmas.List.Elements.{All-from_recursion}
use Rattle.key_names.specs.declared.events.Event.{Event}
use Rattle.key_names.specs.declared.events.Event.TheVariants.{Irq}
use Rattle.key_names.specs.declared.events.Word.TheVariants as words
use Rattle.key_names.specs.Texts.Spelling.{spaced, word_text}
use Rattle.key_names.specs.Texts.ScriptGrammar.{InRange, event_fields}
use Rattle.key_names.specs.declared.faults.FaultKind.{FaultKind}
use Rattle.key_names.specs.Texts.ScriptFaults.{◌>>=◌, Draft, SaysEvent, after, following, after_first, is_unprintable, line_of, parts, said}
use Rattle.key_names.proofs.Script.LinedTexts.{none_unprintable, not_feed}
use Rattle.key_names.proofs.Script.Parts.{Lacks, parts_at}
use Rattle.key_names.proofs.Script.SaidLines.{printable_said, said_again}
use Rattle.event_script.specs.Says.{said_first}
use Rattle.event_script.specs.ShortLines.{IsShort, after_word}
use Rattle.event_script.specs.declared.statements.short.NumberFields.TheVariants.{Two}
use Rattle.event_script.proofs.FirstOfLines.{whole_line}

-- the first line of `text` spells `event`, and `rest` has the lines after the first
pub record FrontSays (version cpus : ℕ) (event : Event) (text rest : List ℕ) : Type 0 where
  pub says : said_first version cpus (parts 10 text) ≡ Ok (SaysEvent event)
  pub rest_is : parts 10 rest ≡ following (parts 10 text)

pub front_says : (version cpus : ℕ) (event : Event) (word more text rest : List ℕ) → cpus ≤ 256
    → InRange version cpus event → spaced (event_fields event) ≡ word ++ more → text ≡ word ++ (more ++ 10 ∷ rest)
    → FrontSays version cpus event text rest
front_says version cpus event word more text rest few range spelt there =
    let line = spaced (event_fields event) in
    let is : text ≡ line ++ 10 ∷ rest = there ∙ sym (append_assoc word more (10 ∷ rest))
    ∙ ap (λ (x : List ℕ). x ++ 10 ∷ rest) (sym spelt) in
    let fine = printable_said version cpus (SaysEvent event) few range in
    let printable = All-from_recursion (λ b. is_unprintable b ≡ false) line fine in
    let lacks : Lacks 10 line = λ k d below. not_feed _ (printable k d below) in
    let cut : parts 10 text ≡ line ∷ parts 10 rest = ap (parts 10) is ∙ parts_at 10 line rest lacks in
    let whole = whole_line text line rest cut (none_unprintable line fine) in
    let says = said_again version cpus (SaysEvent event) few range in
    record {
      says = rw (whole, says) refl;
      rest_is = rw cut refl;
    }

-- if `f` applied to `found` gives `y`, then `f` and then `g`, applied to `found`, give `g y`
then_more : {X Y Z : Type 0} (found : Result X FaultKind) (f : X → Result Y FaultKind) (g : Y → Result Z FaultKind) (y : Y)
    → (found >>= f) ≡ Ok y → (found >>= λ x. f x >>= g) ≡ g y
then_more (Ok x) f g y says = rw says refl
then_more (Err kind) f g y says = absurd cc

-- if the first line of `text` is `irq` with the numbers `v1` and `v2`, it adds this event to the draft `d`
pub irq_adds : (d : Draft) (v1 v2 : ℕ) (text rest : List ℕ) → d.cpus ≤ 256 → IsShort words.Irq (Two v1 v2)
    → text ≡ word_text words.Irq ++ (after_word (Two v1 v2) ++ 10 ∷ rest)
    → (after_first d (parts 10 text) ≡ after d (SaysEvent (Irq v1 v2))) × (parts 10 rest ≡ following (parts 10 text))
irq_adds d v1 v2 text rest few short there =
    let front = front_says d.version d.cpus (Irq v1 v2) (word_text words.Irq) (after_word (Two v1 v2)) text rest few short
    refl there in
    (then_more (line_of (parts 10 text)) (said d.version d.cpus) (after d) (SaysEvent (Irq v1 v2)) front.says, front.rest_is)

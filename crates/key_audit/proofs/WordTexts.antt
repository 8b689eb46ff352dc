-- The words of a command line spell at most one command, and this is the command that the code reads.
use Rattle.std.proofs.Common.{◌≡◌, ℕ, ◌<◌, ◌≤◌, true, List, [], ◌∷◌, ◌++◌, Option, Some, None, length, get_or, append_assoc, sym, subst, ap, ◌∙◌, arith}
use Rattle.std.specs.Prelude.{Bool, IfSome, IsSomeAnd, MatchOption, String, codes, decimal, map, slice_index_or, string_bytes}
use Rattle.std.specs.Str.{bytes_eq}
use Rattle.std.proofs.lemmas.Slice.Eq.{bytes_eq-Decides}
use Rattle.key_names.specs.Texts.ScriptFaults.{number_below}
use Rattle.key_names.proofs.Script.Numbers.{number_again, number_takes}
use Rattle.audit_keys.specs.declared.moments.LineOf.{LineOf}
use Rattle.transcript_text.specs.Reading.{lacks}
use Rattle.transcript_text.proofs.Cutting.{lacks-decimal, not_lacking}
use Rattle.transcript_text.proofs.LineTexts.{spells_numbers}
use Rattle.transcript_text.proofs.StepTexts.{no_digit_below}
use Rattle.key_audit.specs.declared.ask.Ask.{Ask}
use Rattle.key_audit.specs.declared.ask.Ask.TheVariants.{Keys, Live, LiveAfter, Line as OneLine}
use Rattle.key_audit.specs.Commands.{AskTexts, LineFits, LiveText}
use Rattle.key_audit.specs.Texts.{line_text}

pub not_cut : (text : List ℕ) → lacks 46 text ≡ true → (line : LineOf) → LineFits line → text ≡ line_text line → ⊥
not_cut text lack line fits e =
    not_lacking 46 (decimal line.caller) (decimal line.event)
    (subst (λ (x : List ℕ). lacks 46 x ≡ true)
    (e ∙ append_assoc (decimal line.caller) (codes ".") (decimal line.event)) lack)

pub halves_are : (text caller event : List ℕ) → text ≡ caller ++ 46 ∷ event → lacks 46 caller ≡ true → (line : LineOf) →
    LineFits line → text ≡ line_text line → (caller ≡ decimal line.caller) × (event ≡ decimal line.event)
halves_are text caller event cut lack line fits e =
    spells_numbers text caller event cut lack (record { caller = line.caller; event = line.event })
    (record { caller = fits.0; event = fits.1 }) e

-- if `number_below` finds no number below 2^32 in `text`, then `text` spells no such number
pub not_spelt : (text : List ℕ) (n : ℕ) → n < 4294967296 → None ≡ number_below 4294967296 text → text ≡ decimal n → ⊥
not_spelt text n small none e =
    let again : number_below 4294967296 text ≡ Some n = rw e (number_again 4294967296 n small (omega arith)) in cc

pub line_read : (text caller event : List ℕ) (c n : ℕ) → text ≡ caller ++ 46 ∷ event →
    Some c ≡ number_below 4294967296 caller → Some n ≡ number_below 4294967296 event →
    text ≡ line_text (record { caller = c; event = n })
line_read text caller event c n cut first second =
    let a = (number_takes 4294967296 c caller (sym first)).1 in
    let b = (number_takes 4294967296 n event (sym second)).1 in
    cut ∙ (λ i. a i ++ 46 ∷ b i) ∙ sym (append_assoc (decimal c) (codes ".") (decimal n))

same_number : (text : List ℕ) (c n : ℕ) → n < 4294967296 → Some c ≡ number_below 4294967296 text → text ≡ decimal n →
    c ≡ n
same_number text c n small read e =
    let again : number_below 4294967296 text ≡ Some n = rw e (number_again 4294967296 n small (omega arith)) in cc

pub same_line : (text caller event : List ℕ) (c n : ℕ) → text ≡ caller ++ 46 ∷ event → lacks 46 caller ≡ true →
    Some c ≡ number_below 4294967296 caller → Some n ≡ number_below 4294967296 event → (line : LineOf) → LineFits line →
    text ≡ line_text line → (let read : LineOf = record { caller = c; event = n } in Some read ≡ Some line)
same_line text caller event c n cut lack first second line fits e =
    let h = halves_are text caller event cut lack line fits e in
    let a : c ≡ line.caller = same_number caller c line.caller fits.0 first h.0 in
    let b : n ≡ line.event = same_number event n line.event fits.1 second h.1 in
    let made : ℕ → ℕ → LineOf = λ x y. record { caller = x; event = y } in
    λ i. Some (made (a i) (b i))

-- ---- commands of two words

keys_are_one : (word with : List ℕ) → word ∷ with ∷ [] ≡ codes "keys" ∷ [] → ⊥
keys_are_one word with e = let l = ap length e in absurd (omega (arith, l))

second : (a b x y : List ℕ) → a ∷ b ∷ [] ≡ x ∷ y ∷ [] → (a ≡ x) × (b ≡ y)
second a b x y e = (cc, cc)

not_both : (word : List ℕ) → word ≡ codes "live" → word ≡ codes "line" → ⊥
not_both word live line =
    let third = ap (λ (xs : List ℕ). get_or xs 2 0) (sym live ∙ line) in absurd (omega (arith, third))

-- if `text` spells a number, it has no dot, so it names no line
no_dot : (text : List ℕ) (n : ℕ) → n < 18446744073709551616 → text ≡ decimal n → (line : LineOf) → LineFits line →
    text ≡ line_text line → ⊥
no_dot text n small number line fits e =
    not_cut text (subst (λ (x : List ℕ). lacks 46 x ≡ true) (sym number)
    (lacks-decimal 46 n (no_digit_below 46 (omega arith)) (omega arith))) line fits e

-- if `text`, the word after `live`, names `line`, the only command it can spell is `live` for this line
pub line_only : (text : List ℕ) (line : LineOf) → LineFits line → text ≡ line_text line →
    ((other : LineOf) → LineFits other → text ≡ line_text other → Some line ≡ Some other) → (ask : Ask) →
    LiveText text ask → Some (LiveAfter line) ≡ Some ask
line_only text line fits is only Keys asks = absurd asks
line_only text line fits is only (Live n) asks = absurd (no_dot text n asks.0 asks.1 line fits is)
line_only text line fits is only (LiveAfter other) asks =
    let again = only other asks.0 asks.1 in
    let same : line ≡ other = cc in
    ap (λ (l : LineOf). Some (LiveAfter l)) same
line_only text line fits is only (OneLine other) asks = absurd asks

stamp_only : (text : List ℕ) (stamp : ℕ) → Some stamp ≡ number_below 18446744073709551616 text → (ask : Ask) →
    LiveText text ask → ((line : LineOf) → LineFits line → text ≡ line_text line → ⊥) → Some (Live stamp) ≡ Some ask
stamp_only text stamp read Keys asks none = absurd asks
stamp_only text stamp read (Live n) asks none =
    let again : number_below 18446744073709551616 text ≡ Some n =
    rw asks.1 (number_again 18446744073709551616 n asks.0 (omega arith)) in
    let same : stamp ≡ n = cc in
    ap (λ (k : ℕ). Some (Live k)) same
stamp_only text stamp read (LiveAfter line) asks none = absurd (none line asks.0 asks.1)
stamp_only text stamp read (OneLine line) asks none = absurd asks

no_stamp : (text : List ℕ) → None ≡ number_below 18446744073709551616 text → (ask : Ask) → LiveText text ask →
    ((line : LineOf) → LineFits line → text ≡ line_text line → ⊥) → ⊥
no_stamp text read Keys asks none = asks
no_stamp text read (Live n) asks none =
    let again : number_below 18446744073709551616 text ≡ Some n =
    rw asks.1 (number_again 18446744073709551616 n asks.0 (omega arith)) in
    absurd cc
no_stamp text read (LiveAfter line) asks none = none line asks.0 asks.1
no_stamp text read (OneLine line) asks none = asks

-- if `text`, the word after `live`, names no line, the command is `live` for the stamp that `text` spells
pub stamp_found : (text : List ℕ) (found : Option ℕ) (result : Option Ask) →
    found ≡ number_below 18446744073709551616 text →
    MatchOption found (result ≡ None) (λ n. IsSomeAnd result (λ ask. ask ≡ Live n)) →
    ((line : LineOf) → LineFits line → text ≡ line_text line → ⊥) → (ask : Ask) → LiveText text ask → result ≡ Some ask
stamp_found text None result read made none ask asks = absurd (no_stamp text read ask asks none)
stamp_found text (Some n) None read made none ask asks = absurd made
stamp_found text (Some n) (Some one) read made none ask asks = ap Some made ∙ stamp_only text n read ask asks none

-- if the first word is `live`, and the second is the argument of the command `ask`, the two words spell `ask`
live_words : (word with : List ℕ) → word ≡ codes "live" → (ask : Ask) → LiveText with ask →
    AskTexts (word ∷ with ∷ []) ask
live_words word with is Keys asks = absurd asks
live_words word with is (Live n) asks = (asks.0, λ i. is i ∷ asks.1 i ∷ [])
live_words word with is (LiveAfter line) asks = (asks.0, λ i. is i ∷ asks.1 i ∷ [])
live_words word with is (OneLine line) asks = absurd asks

pub some_asks : (word with : List ℕ) (r : Option Ask) → word ≡ codes "live" → IfSome r (LiveText with) →
    IfSome r (AskTexts (word ∷ with ∷ []))
some_asks word with None is found = tt
some_asks word with (Some ask) is found = live_words word with is ask found

pub live_word : (word with : List ℕ) → word ≡ codes "live" → (ask : Ask) → AskTexts (word ∷ with ∷ []) ask →
    LiveText with ask
live_word word with is Keys asks = absurd (keys_are_one word with asks)
live_word word with is (Live n) asks = (asks.0, (second word with (codes "live") (decimal n) asks.1).1)
live_word word with is (LiveAfter line) asks = (asks.0, (second word with (codes "live") (line_text line) asks.1).1)
live_word word with is (OneLine line) asks =
    absurd (not_both word is (second word with (codes "line") (line_text line) asks.1).0)

-- if the comparison of `text` and `wanted` returned true, the two are equal
pub same_text : (text wanted : List ℕ) (b : Bool) → b ≡ bytes_eq text wanted → b ≡ true → text ≡ wanted
same_text text wanted b test passed = (bytes_eq-Decides text wanted).0 (sym test ∙ passed)

-- if `words` has length 1, its texts are the text of its first word alone
pub one : {A : Type 0} (words : List (String A)) (word : String A) → 1 ≤ length words → length words < 2 →
    word ≡ slice_index_or words 0 word → map string_bytes words ≡ string_bytes word ∷ []
one [] word some few is = absurd (omega arith)
one (w ∷ []) word some few is = ap (λ v. string_bytes v ∷ []) (sym is)
one (w ∷ v ∷ words) word some few is = absurd (omega arith)
